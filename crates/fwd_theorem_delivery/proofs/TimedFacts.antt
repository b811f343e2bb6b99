-- When closings, beginnings and retries may be logged; resolving and closing keep to it.
use Rattle.std.proofs.Common.{◌≡◌, ℕ, ◌≤◌, not, Bool, true, false, cond, List, [], ◌∷◌, ◌++◌, filter, Option, Some, None, refl, sym, ◌∙◌, ap, subst, arith}
use Rattle.std.specs.Prelude.{All, Contains, ◌==◌, nat_le}
use Rattle.std.proofs.lemmas.Bool.{ne_eqb}
use Rattle.std.proofs.lemmas.List.Elements.{All-nil, All-cons}
use Rattle.fwd_base.specs.Limits.{full_chunk}
use Rattle.fwd_outside.specs.Program.{entry, Return, Ask, bind}
use Rattle.fwd_outside.specs.Loop.{LoopProgram}
use Rattle.fwd_outside.specs.Disk.{DiskProgram}
use Rattle.fwd_outside.specs.Files.{FilesProgram}
use Rattle.fwd_table.specs.Outcomes.{may_retry}
use Rattle.fwd_chunk.specs.declared.kept.Kept.{Kept}
use Rattle.fwd_store.specs.Store.{drops as removes, settle_for_program}
use Rattle.fwd_settings.specs.declared.settings_types.AllSettings.{AllSettings}
use Rattle.fwd_model.specs.Fact.{Fact, History, Route, Outcome, FlushStarted, InFlight, Retries, Delivered, Failed, Exhausted, Evicted, ChunkClosed, Sent, OnRoute, MarkStarted, Marked, Removed, FileLeft, IoFailed}
use Rattle.fwd_model.specs.Trace.{Action, TraceEntry, OnLoop, OnDisk, OnFiles, Note}
use Rattle.fwd_model.specs.DeviceActions.{on_loop, on_disk, on_files}
use Rattle.fwd_model.specs.Settings.{output_at, output_name, retries_at}
use Rattle.fwd_model.specs.Clock.{clock}
use Rattle.fwd_model.specs.Chunks.{ChunkInfo, chunks_of, open_chunks, is_closed, size}
use Rattle.fwd_model.specs.ChunkStorage.{kept_of, mark_position}
use Rattle.fwd_model.specs.Routes.{same_route, owes, tries, due, is_idle}
use Rattle.fwd_model.specs.Limits.{evicted_at}
use Rattle.fwd_model.specs.Notes.{note_then, note}
use Rattle.fwd_model.specs.ResolveActions.{dropped, drops, after_mark, marks_at, records, marks_or_removes}
use Rattle.fwd_model.specs.CloseActions.{loses, closes_chunk, closes_if_full, closes_each, closes_all}
use Rattle.fwd_theorem_trace.specs.Past.{Past, logged}
use Rattle.fwd_theorem_trace.specs.Allowed.{FactAllowed, Allowed}
use Rattle.fwd_theorem_trace.specs.Sound.{NumbersRise}
use Rattle.fwd_theorem_trace.proofs.Members.{here, deeper, from_filter}
use Rattle.fwd_theorem_trace.proofs.Traversal.{Traverses, Extends, traverses_map, walks_bind, walks_if}
use Rattle.fwd_theorem_trace.proofs.Invariant.{sound}
use Rattle.fwd_theorem_delivery.specs.RetryCounts.{is_begun}
use Rattle.fwd_theorem_delivery.specs.FlushedEvents.{SendsChunk}
use Rattle.fwd_theorem_delivery.specs.Causes.{IsOverLimit}
use Rattle.fwd_theorem_delivery.proofs.EvictionCauses.{ClosedSince, Follows, evicted_over}

-- whether the last outcome of a route is that it began
abbrev pub just_begun : History → Route → Bool
just_begun [] r = false
just_begun (OnRoute other outcome ∷ h) r = cond (same_route other r) (is_begun outcome) (just_begun h r)
just_begun (fact ∷ h) r = just_begun h r

abbrev pub is_on_the_way : Outcome → Bool
is_on_the_way (FlushStarted events) = true
is_on_the_way (InFlight progress) = true
is_on_the_way (Retries word) = false
is_on_the_way Delivered = false
is_on_the_way Failed = false
is_on_the_way Exhausted = false
is_on_the_way Evicted = false

-- whether its last outcome is that its flush is in progress
abbrev pub on_the_way : History → Route → Bool
on_the_way [] r = false
on_the_way (OnRoute other outcome ∷ h) r = cond (same_route other r) (is_on_the_way outcome) (on_the_way h r)
on_the_way (fact ∷ h) r = on_the_way h r

-- no flush began just now
abbrev pub NoneBegun : History → Type 0
NoneBegun h = (r : Route) → just_begun h r ≡ false

abbrev pub rest_of : List Route → List Route
rest_of [] = []
rest_of (r ∷ rs) = rs

-- the evictions that the last closing still owes
abbrev pub owing : AllSettings → History → List Route
owing s [] = []
owing s (ChunkClosed chunk ∷ h) = evicted_at s (ChunkClosed chunk ∷ h) chunk
owing s (OnRoute r Evicted ∷ h) = rest_of (owing s h)
owing s (fact ∷ h) = owing s h

-- no flush began just now, and no eviction is due
abbrev pub Calm : AllSettings → History → Type 0
Calm s h = NoneBegun h × (owing s h ≡ [])

-- A route begins when it is due and idle, no flush began just now, and with its chunk's events. Its flush is in progress when it
-- goes on, is to be retried, which it may be, or has used its retries. It is evicted over its output's limit, as the next that the last closing owes.
abbrev pub RouteTimed : AllSettings → Route → Outcome → History → Type 0
RouteTimed s r (FlushStarted events) h = (due s h r ≤ clock h) × ((is_idle s h r ≡ true) × (NoneBegun h × SendsChunk s h r events))
RouteTimed s r (InFlight progress) h = on_the_way h r ≡ true
RouteTimed s r (Retries word) h = (may_retry (retries_at (output_at s r.output)) (tries h r) ≡ true) × (on_the_way h r ≡ true)
RouteTimed s r Delivered h = Unit {0}
RouteTimed s r Failed h = Unit {0}
RouteTimed s r Exhausted h = (may_retry (retries_at (output_at s r.output)) (tries h r) ≡ false) × (on_the_way h r ≡ true)
RouteTimed s r Evicted h = IsOverLimit s h r × ((rest : List Route) × (owing s h ≡ r ∷ rest))

-- and a chunk closes while it is open, and no eviction is due
abbrev pub FactTimed : AllSettings → Fact → History → Type 0
FactTimed s (ChunkClosed chunk) h = (is_closed h chunk ≡ false) × (owing s h ≡ [])
FactTimed s (OnRoute r outcome) h = RouteTimed s r outcome h
FactTimed s fact h = Unit {0}

abbrev pub Timed : AllSettings → History → Type 0
Timed s [] = Unit {0}
Timed s (fact ∷ h) = FactTimed s fact h × Timed s h

-- the facts after an outcome of a route
abbrev pub IsTail : Fact → Type 0
IsTail (Sent output bytes) = Unit {0}
IsTail (MarkStarted r) = Unit {0}
IsTail (Marked r) = Unit {0}
IsTail (Removed chunk) = Unit {0}
IsTail (FileLeft chunk) = Unit {0}
IsTail IoFailed = Unit {0}
IsTail fact = ⊥

-- such a fact keeps it
abbrev pub IsKeptByTails : (History → Type 0) → Type 0
IsKeptByTails K = (fact : Fact) (h : History) → IsTail fact → K h → K (fact ∷ h)

none_tails : IsKeptByTails NoneBegun
none_tails (Sent output bytes) h is calm = calm
none_tails (MarkStarted r) h is calm = calm
none_tails (Marked r) h is calm = calm
none_tails (Removed chunk) h is calm = calm
none_tails (FileLeft chunk) h is calm = calm
none_tails IoFailed h is calm = calm
none_tails fact h is calm = absurd is

none_outcome : (q : Route) (outcome : Outcome) (h : History) → is_begun outcome ≡ false → NoneBegun h → NoneBegun (OnRoute q outcome ∷ h)
none_outcome q outcome h not_begun calm r = by (same_route q r) (calm r)
  where
    by : (b : Bool) → just_begun h r ≡ false → cond b (is_begun outcome) (just_begun h r) ≡ false
    by true before = not_begun
    by false before = before

owing_tails : (s : AllSettings) (fact : Fact) (h : History) → IsTail fact → owing s (fact ∷ h) ≡ owing s h
owing_tails s (Sent output bytes) h is = refl
owing_tails s (MarkStarted r) h is = refl
owing_tails s (Marked r) h is = refl
owing_tails s (Removed chunk) h is = refl
owing_tails s (FileLeft chunk) h is = refl
owing_tails s IoFailed h is = refl
owing_tails s fact h is = absurd is

pub owing_outcome : (s : AllSettings) (q : Route) (outcome : Outcome) (h : History) → owing s h ≡ [] → owing s (OnRoute q outcome ∷ h) ≡ []
owing_outcome s q Evicted h none = ap rest_of none
owing_outcome s q (FlushStarted events) h none = none
owing_outcome s q (InFlight progress) h none = none
owing_outcome s q (Retries word) h none = none
owing_outcome s q Delivered h none = none
owing_outcome s q Failed h none = none
owing_outcome s q Exhausted h none = none

pub calm_tails : (s : AllSettings) → IsKeptByTails (Calm s)
calm_tails s fact h is calm = (none_tails fact h is calm.0, owing_tails s fact h is ∙ calm.1)

pub calm_outcome : (s : AllSettings) (q : Route) (outcome : Outcome) (h : History) → is_begun outcome ≡ false → Calm s h → Calm s (OnRoute q outcome ∷ h)
calm_outcome s q outcome h not_begun calm = (none_outcome q outcome h not_begun calm.0, owing_outcome s q outcome h calm.1)

module _ (s : AllSettings) where
  -- an allowed entry is also in time
  abbrev pub InTime : Past → Type 0
  InTime past = Allowed s past → Timed s (logged past)

  -- the action returns the history so far, and K holds of it
  abbrev pub ReturnsTimed : (History → Type 0) → Past → Action History → Type 0
  ReturnsTimed K past p = Traverses InTime (λ (h : History) (now : Past). (h ≡ logged now) × K (logged now)) past p

  -- the action logs nothing
  abbrev pub LogsNothing : {R : Type 0} → Past → Action R → Type 0
  LogsNothing {R = R} past p = Traverses InTime (λ (x : R) (now : Past). logged now ≡ logged past) past p

  abbrev pub MayNote : Fact → Past → Type 0
  MayNote fact past = Allowed s past → FactAllowed s fact past → FactTimed s fact (logged past)

  pub deed : (K : History → Type 0) (fact : Fact) (past : Past) (next : History → Action History) → MayNote fact past → InTime past
      → ((answer : Unit {0}) → InTime (entry (Note fact) answer ∷ past) → ReturnsTimed K (entry (Note fact) answer ∷ past) (next (fact ∷ logged past))) → ReturnsTimed K past (note_then fact (logged past) next)
  deed K fact past next may in_time more = (in_time, λ answer. more answer (λ due. (may due.1 due.0, in_time due.1)))

  pub only : (K : History → Type 0) (fact : Fact) (past : Past) → MayNote fact past → InTime past → K (fact ∷ logged past) → ReturnsTimed K past (note fact (logged past))
  only K fact past may in_time so = deed K fact past (λ h. Return h) may in_time (λ answer later. (later, (refl, so)))

  pub nothing : (K : History → Type 0) (past : Past) → InTime past → K (logged past) → ReturnsTimed K past (Return (logged past))
  nothing K past in_time so = (in_time, (refl, so))

  pub tells_then : (K L : History → Type 0) (past : Past) (p : Action History) (next : History → Action History) → ReturnsTimed K past p
      → ((now : Past) → Extends past now → InTime now → K (logged now) → ReturnsTimed L now (next (logged now))) → ReturnsTimed L past (bind p next)
  tells_then K L past p next first second =
      walks_bind InTime (λ (h : History) (now : Past). (h ≡ logged now) × K (logged now)) (λ (h : History) (now : Past). (h ≡ logged now) × L (logged now)) past p next first
      (λ h now grown in_time is. subst (λ (x : History). ReturnsTimed L now (next x)) (sym is.0) (second now grown in_time is.1))

  pub tells_behind : {R : Type 0} (K : History → Type 0) (past : Past) (p : Action R) (next : R → History → Action History) → LogsNothing past p
      → ((x : R) (now : Past) → InTime now → logged now ≡ logged past → ReturnsTimed K now (next x (logged now))) → ReturnsTimed K past (bind p (λ (x : R). next x (logged past)))
  tells_behind {R = R} K past p next first second =
      walks_bind InTime (λ (x : R) (now : Past). logged now ≡ logged past) (λ (h : History) (now : Past). (h ≡ logged now) × K (logged now)) past p (λ (x : R). next x (logged past)) first
      (λ x now grown in_time same. subst (λ (h : History). ReturnsTimed K now (next x h)) same (second x now in_time same))

  pub tells_if : (K : History → Type 0) (b : Bool) (past : Past) (p q : Action History) → (b ≡ true → ReturnsTimed K past p) → (b ≡ false → ReturnsTimed K past q) → ReturnsTimed K past (cond b p q)
  tells_if K b past p q first second = walks_if InTime (λ (h : History) (now : Past). (h ≡ logged now) × K (logged now)) b past p q first second

  pub disk_rests : {R : Type 0} (p : DiskProgram R) (past : Past) → InTime past → LogsNothing past (on_disk p)
  disk_rests (Return x) past in_time = (in_time, refl)
  disk_rests (Ask call go) past in_time = (in_time, λ answer. disk_rests (go answer) (entry (OnDisk call) answer ∷ past) (λ due. in_time due.1))

  pub files_rests : {R : Type 0} (p : FilesProgram R) (past : Past) → InTime past → LogsNothing past (on_files p)
  files_rests (Return x) past in_time = (in_time, refl)
  files_rests (Ask call go) past in_time = (in_time, λ answer. files_rests (go answer) (entry (OnFiles call) answer ∷ past) (λ due. in_time due.1))

  pub loop_rests : {R : Type 0} (p : LoopProgram R) (past : Past) → InTime past → LogsNothing past (on_loop p)
  loop_rests (Return x) past in_time = (in_time, refl)
  loop_rests (Ask call go) past in_time = (in_time, λ answer. loop_rests (go answer) (entry (OnLoop call) answer ∷ past) (λ due. in_time due.1))

  -- ---- resolving

  module _ (K : History → Type 0) (tails : IsKeptByTails K) where
    so_later : (past now : Past) → logged now ≡ logged past → K (logged past) → K (logged now)
    so_later past now same so = subst K (sym same) so

    tells_dropped : (chunk : ℕ) (past : Past) (answer : Option (Unit {0})) → InTime past → K (logged past) → ReturnsTimed K past (dropped chunk (logged past) answer)
    tells_dropped chunk past (Some done) in_time so = only K (Removed chunk) past (λ _ _. tt) in_time (tails (Removed chunk) (logged past) tt so)
    tells_dropped chunk past None in_time so =
        deed K IoFailed past (note (FileLeft chunk)) (λ _ _. tt) in_time
        (λ answer later. only K (FileLeft chunk) (entry (Note IoFailed) answer ∷ past) (λ _ _. tt) later (tails (FileLeft chunk) (IoFailed ∷ logged past) tt (tails IoFailed (logged past) tt so)))

    tells_drops : (chunk : ℕ) (past : Past) → InTime past → K (logged past) → ReturnsTimed K past (drops s chunk (logged past))
    unfolding drops
    tells_drops chunk past in_time so =
        tells_behind K past (on_disk (removes (kept_of s (logged past) chunk))) (λ answer h. dropped chunk h answer) (disk_rests (removes (kept_of s (logged past) chunk)) past in_time)
        (λ answer now later same. tells_dropped chunk now answer later (so_later past now same so))

    tells_recorded : (r : Route) (past : Past) (answer : Option Bool) → InTime past → K (logged past) → ReturnsTimed K past (after_mark r (logged past) answer)
    tells_recorded r past (Some done) in_time so = only K (Marked r) past (λ _ _. tt) in_time (tails (Marked r) (logged past) tt so)
    tells_recorded r past None in_time so = only K IoFailed past (λ _ _. tt) in_time (tails IoFailed (logged past) tt so)

    tells_records_at : (r : Route) (kept : Option Kept) (place : Option ℕ) (past : Past) → InTime past → K (logged past) → ReturnsTimed K past (marks_at s r kept place (logged past))
    tells_records_at r kept None past in_time so = nothing K past in_time so
    tells_records_at r kept (Some place) past in_time so =
        deed K (MarkStarted r) past (λ at. bind (on_disk (settle_for_program kept (output_name s r.output) s.service.full)) (after_mark r at)) (λ _ _. tt) in_time
        (λ answer later.
        let at : Past = entry (Note (MarkStarted r)) answer ∷ past in
        tells_behind K at (on_disk (settle_for_program kept (output_name s r.output) s.service.full)) (λ answer h. after_mark r h answer) (disk_rests (settle_for_program kept (output_name s r.output) s.service.full) at later)
        (λ answer now still same. tells_recorded r now answer still (so_later at now same (tails (MarkStarted r) (logged past) tt so))))

    tells_records : (r : Route) (past : Past) → InTime past → K (logged past) → ReturnsTimed K past (records s r (logged past))
    unfolding records
    tells_records r past in_time so = tells_records_at r (kept_of s (logged past) r.chunk) (mark_position (output_name s r.output) (kept_of s (logged past) r.chunk)) past in_time so

    pub tells_settles : (r : Route) (past : Past) → InTime past → K (logged past) → ReturnsTimed K past (marks_or_removes s r (logged past))
    unfolding marks_or_removes
    tells_settles r past in_time so =
        tells_if K (owes s (logged past) r.chunk) past (records s r (logged past)) (drops s r.chunk (logged past)) (λ yes. tells_records r past in_time so) (λ no. tells_drops r.chunk past in_time so)

  -- ---- closing

  -- so much is due
  abbrev Owes : (History → Type 0) → List Route → History → Type 0
  Owes K rs h = K h × (owing s h ≡ rs)

  owes_tails : (K : History → Type 0) (rs : List Route) → IsKeptByTails K → IsKeptByTails (Owes K rs)
  owes_tails K rs tails fact h is so = (tails fact h is so.0, owing_tails s fact h is ∙ so.1)

  module _ (K : History → Type 0) (tails : IsKeptByTails K) (losses : (r : Route) (h : History) → K h → K (OnRoute r Evicted ∷ h)) where
    tells_loses : (rs : List Route) (past : Past) → ((r : Route) → Contains rs r → (h : History) → K h → IsOverLimit s h r) → InTime past → Owes K rs (logged past) → ReturnsTimed (Owes K []) past (loses s rs (logged past))
    tells_loses [] past over in_time so = nothing (Owes K []) past in_time so
    tells_loses (r ∷ rs) past over in_time so =
        deed (Owes K []) (OnRoute r Evicted) past (λ at. bind (marks_or_removes s r at) (loses s rs)) (λ _ _. (over r (here r rs) (logged past) so.0, (rs, so.1))) in_time
        (λ answer later.
        let at : Past = entry (Note (OnRoute r Evicted)) answer ∷ past in
        tells_then (Owes K rs) (Owes K []) at (marks_or_removes s r (logged at)) (loses s rs)
        (tells_settles (Owes K rs) (owes_tails K rs tails) r at later (losses r (logged past) so.0, ap rest_of so.1))
        (λ now grown still more. tells_loses rs now (λ q has. over q (deeper r rs q has)) still more))

  -- ---- a chunk closes

  closed_before : (closed : ℕ) (before : History) (fact : Fact) (h : History) → Follows fact → ClosedSince closed before h → ClosedSince closed before (fact ∷ h)
  closed_before closed before fact h follows so = record { since = fact ∷ so.since; is = ap (λ (x : History). fact ∷ x) so.is; last = All-cons Follows fact so.since follows so.last }

  tails_follow : (fact : Fact) → IsTail fact → Follows fact
  tails_follow (Sent output bytes) is = refl
  tails_follow (MarkStarted r) is = refl
  tails_follow (Marked r) is = refl
  tails_follow (Removed chunk) is = refl
  tails_follow (FileLeft chunk) is = refl
  tails_follow IoFailed is = refl
  tails_follow fact is = absurd is

  closed_tails : (closed : ℕ) (before : History) → IsKeptByTails (ClosedSince closed before)
  closed_tails closed before fact h is so = closed_before closed before fact h (tails_follow fact is) so

  module _ (K : History → Type 0) (tails : IsKeptByTails K) (losses : (r : Route) (h : History) → K h → K (OnRoute r Evicted ∷ h)) where
    tells_shuts : (chunk : ℕ) (past : Past) → (Allowed s past → is_closed (logged past) chunk ≡ false) → InTime past → owing s (logged past) ≡ [] → K (ChunkClosed chunk ∷ logged past)
        → ReturnsTimed (Owes K []) past (closes_chunk s chunk (logged past))
    unfolding closes_chunk
    tells_shuts chunk past off in_time none so =
        let Both : History → Type 0 = λ (h : History). K h × ClosedSince chunk (logged past) h in
        deed (Owes K []) (ChunkClosed chunk) past (λ at. loses s (evicted_at s at chunk) at) (λ due _. (off due, none)) in_time
        (λ answer later.
        let at : Past = entry (Note (ChunkClosed chunk)) answer ∷ past in
        traverses_map InTime (λ (h : History) (now : Past). (h ≡ logged now) × Owes Both [] (logged now)) (λ (h : History) (now : Past). (h ≡ logged now) × Owes K [] (logged now)) at
        (loses s (evicted_at s (logged at) chunk) (logged at)) (λ h now grown is. (is.0, (is.1.0.0, is.1.1)))
        (tells_loses Both (λ fact h is both. (tails fact h is both.0, closed_tails chunk (logged past) fact h is both.1))
        (λ r h both. (losses r h both.0, closed_before chunk (logged past) (OnRoute r Evicted) h refl both.1))
        (evicted_at s (logged at) chunk) at (λ r has h both. evicted_over s chunk (logged past) r h both.1 has) later ((so, record { since = []; is = refl; last = All-nil Follows }), refl)))

  none_losses : (r : Route) (h : History) → NoneBegun h → NoneBegun (OnRoute r Evicted ∷ h)
  none_losses r h none = none_outcome r Evicted h refl none

  pub calm_shuts : (chunk : ℕ) (past : Past) → (Allowed s past → is_closed (logged past) chunk ≡ false) → InTime past → Calm s (logged past) → ReturnsTimed (Calm s) past (closes_chunk s chunk (logged past))
  calm_shuts chunk past off in_time calm = tells_shuts NoneBegun none_tails none_losses chunk past off in_time calm.1 calm.0

  pub calm_fills : (chunk : ℕ) (past : Past) → (Allowed s past → is_closed (logged past) chunk ≡ false) → InTime past → Calm s (logged past) → ReturnsTimed (Calm s) past (closes_if_full s chunk (logged past))
  unfolding closes_if_full
  calm_fills chunk past off in_time calm =
      tells_if (Calm s) (nat_le full_chunk (size (logged past) chunk)) past (closes_chunk s chunk (logged past)) (Return (logged past)) (λ yes. calm_shuts chunk past off in_time calm) (λ no. nothing (Calm s) past in_time calm)

  -- ---- several chunks close

  -- each is open, and none occurs twice
  abbrev AreOpen : History → List ChunkInfo → Type 0
  AreOpen h [] = Unit {0}
  AreOpen h (c ∷ cs) = (is_closed h c.number ≡ false) × (((d : ChunkInfo) → Contains cs d → (c.number == d.number) ≡ false) × AreOpen h cs)

  rise_open : (h : History) (cs : List ChunkInfo) → NumbersRise cs → AreOpen h (filter (λ (c : ChunkInfo). not (is_closed h c.number)) cs)
  rise_open h [] rise = tt
  rise_open h (c ∷ cs) rise = by (is_closed h c.number) refl (rise_open h cs rise.1)
    where
      apart : (d : ChunkInfo) → Contains (filter (λ (c : ChunkInfo). not (is_closed h c.number)) cs) d → (c.number == d.number) ≡ false
      apart d has = let less = rise.0 d (from_filter (λ (c : ChunkInfo). not (is_closed h c.number)) cs d has).0 in ne_eqb c.number d.number (λ same. absurd (omega (arith, less, same)))

      by : (b : Bool) → is_closed h c.number ≡ b → AreOpen h (filter (λ (c : ChunkInfo). not (is_closed h c.number)) cs)
          → AreOpen h (cond (not b) (c ∷ filter (λ (c : ChunkInfo). not (is_closed h c.number)) cs) (filter (λ (c : ChunkInfo). not (is_closed h c.number)) cs))
      by true is more = more
      by false is more = (is, (apart, more))

  -- no other chunk than this one closed since
  abbrev Others : ℕ → History → History → Type 0
  Others n old h = (m : ℕ) → (n == m) ≡ false → is_closed old m ≡ false → is_closed h m ≡ false

  abbrev CalmOthers : ℕ → History → History → Type 0
  CalmOthers n old h = NoneBegun h × Others n old h

  others_tails : (n : ℕ) (old : History) → IsKeptByTails (CalmOthers n old)
  others_tails n old (Sent output bytes) h is so = so
  others_tails n old (MarkStarted r) h is so = so
  others_tails n old (Marked r) h is so = so
  others_tails n old (Removed chunk) h is so = so
  others_tails n old (FileLeft chunk) h is so = so
  others_tails n old IoFailed h is so = so
  others_tails n old fact h is so = absurd is

  others_now : (n : ℕ) (h : History) → Others n h (ChunkClosed n ∷ h)
  others_now n h m apart off = rw apart off

  still_open : (n : ℕ) (old h : History) (cs : List ChunkInfo) → Others n old h → ((d : ChunkInfo) → Contains cs d → (n == d.number) ≡ false) → AreOpen old cs → AreOpen h cs
  still_open n old h [] others apart are = tt
  still_open n old h (c ∷ cs) others apart are =
      (others c.number (apart c (here c cs)) are.0, (are.1.0, still_open n old h cs others (λ d has. apart d (deeper c cs d has)) are.1.1))

  due_over : (own : List TraceEntry) (past : Past) → Allowed s (own ++ past) → Allowed s past
  due_over [] past due = due
  due_over (e ∷ own) past due = due_over own past due.1

  pub due_grown : (past now : Past) → Extends past now → Allowed s now → Allowed s past
  due_grown past now grown due = due_over grown.0 past (subst (Allowed s) grown.1 due)

  tells_closes : (cs : List ChunkInfo) (past : Past) → (Allowed s past → AreOpen (logged past) cs) → InTime past → Calm s (logged past) → ReturnsTimed (Calm s) past (closes_each s cs (logged past))
  tells_closes [] past are in_time calm = nothing (Calm s) past in_time calm
  tells_closes (c ∷ cs) past are in_time calm =
      tells_then (Owes (CalmOthers c.number (logged past)) []) (Calm s) past (closes_chunk s c.number (logged past)) (closes_each s cs)
      (tells_shuts (CalmOthers c.number (logged past)) (others_tails c.number (logged past)) (λ r h so. (none_losses r h so.0, so.1)) c.number past (λ due. (are due).0) in_time calm.1 (calm.0, others_now c.number (logged past)))
      (λ now grown later so.
      tells_closes cs now (λ due. let was = are (due_grown past now grown due) in still_open c.number (logged past) (logged now) cs so.0.1 was.1.0 was.1.1) later (so.0.0, so.1))

  pub calm_closes_all : (past : Past) → InTime past → Calm s (logged past) → ReturnsTimed (Calm s) past (closes_all s (logged past))
  unfolding closes_all
  calm_closes_all past in_time calm = tells_closes (open_chunks (logged past)) past (λ due. rise_open (logged past) (chunks_of (logged past)) (sound s past due).rising) in_time calm
