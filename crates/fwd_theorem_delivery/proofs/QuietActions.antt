-- Actions that concern no flush: storing, closing and resolving.
use Rattle.std.proofs.Common.{◌≡◌, ◌⊎◌, inl, inr, ℕ, ◌<◌, nat_le, nat_lt, Bool, true, false, cond, List, [], ◌∷◌, Option, Some, None, refl, sym, subst, arith}
use Rattle.std.proofs.lemmas.Bool.{cases_Bool}
use Rattle.fwd_base.specs.Limits.{full_chunk, numbers_end}
use Rattle.fwd_outside.specs.Program.{Return, Ask, bind}
use Rattle.fwd_outside.specs.Loop.{LoopCall, Start, Reply, DropConn, Word}
use Rattle.fwd_outside.specs.Disk.{DiskProgram}
use Rattle.fwd_chunk.specs.declared.kept.Kept.{Kept as Held}
use Rattle.fwd_store.specs.Store.{drops as removes, settle_for_program, begins_as, append_to_program}
use Rattle.fwd_settings.specs.declared.settings_types.AllSettings.{AllSettings}
use Rattle.fwd_model.specs.Fact.{Fact, History, Batch, NoChunk, NewChunk, AppendedTo, TooLarge, NoNumber, NotStored, Route, Outcome, Evicted, Offered, Accepted, Refused, ChunkClosed, Sent, OnRoute, MarkStarted, IoFailed}
use Rattle.fwd_model.specs.Trace.{Call, Answer, Action, OnLoop, OnDisk, OnFiles, OnKeeper, Note, history_after_call}
use Rattle.fwd_model.specs.DeviceActions.{on_disk}
use Rattle.fwd_model.specs.Settings.{outputs_for, output_name, home_at, names_for}
use Rattle.fwd_model.specs.Chunks.{ChunkInfo, next, open_chunks, open_chunk, size, is_closed, encoded, is_storable}
use Rattle.fwd_model.specs.ChunkStorage.{kept_of, mark_position, name_for}
use Rattle.fwd_model.specs.Routes.{route, same_route, flight, owes}
use Rattle.fwd_model.specs.Limits.{evicted_at}
use Rattle.fwd_model.specs.Notes.{note_then, is_empty}
use Rattle.fwd_model.specs.ResolveActions.{dropped, drops, after_mark, marks_at, records, marks_or_removes}
use Rattle.fwd_model.specs.CloseActions.{loses, closes_chunk, closes_if_full, closes_each, closes_all}
use Rattle.fwd_model.specs.Acceptance.{Acceptance, taken, refuses, finishes_append, finishes_create, appends, starts_chunk, stores, accepts}
use Rattle.fwd_theorem_delivery.proofs.ChunkFacts.{MayBegin}
use Rattle.fwd_theorem_delivery.proofs.OpenChunks.{AreOpen, open_are_open, open_is, HaveNoFlush, HasNoFlush, lost_grounded}

-- ---- facts and calls that concern no flush

abbrev pub MayBecome : Outcome → Route → History → Type 0
MayBecome Evicted r h = flight h r ≡ None
MayBecome outcome r h = ⊥

abbrev pub MayDo : Fact → History → Type 0
MayDo (Accepted b place) h = MayBegin place h
MayDo (OnRoute r outcome) h = MayBecome outcome r h
MayDo (Sent output bytes) h = ⊥
MayDo fact h = Unit {0}

abbrev pub IsAside : LoopCall → Type 0
IsAside (Start ends) = Unit {0}
IsAside (Reply conn bytes) = Unit {0}
IsAside (DropConn conn) = Unit {0}
IsAside Word = Unit {0}
IsAside call = ⊥

abbrev pub MayCall : Call → History → Type 0
MayCall (OnLoop call) h = IsAside call
MayCall (OnDisk call) h = Unit {0}
MayCall (OnFiles call) h = Unit {0}
MayCall (OnKeeper call) h = Unit {0}
MayCall (Note fact) h = MayDo fact h

-- a route without a flush still has none
abbrev pub IsLater : History → History → Type 0
IsLater h now = (r : Route) → flight h r ≡ None → flight now r ≡ None

-- for all answers, no flush is touched, and Q holds at the end
abbrev pub TouchesNoFlush : {R : Type 0} → (R → History → Type 0) → History → Action R → Type 0
TouchesNoFlush Q h (Return x) = Q x h
TouchesNoFlush Q h (Ask call go) = MayCall call h × ((answer : Answer call) → TouchesNoFlush Q (history_after_call call h) (go answer))

-- the action returns the history so far
abbrev pub Same : History → History → Type 0
Same x now = x ≡ now

abbrev pub SameTaken : Acceptance → History → Type 0
SameTaken a now = a.history ≡ now

later_lost : (other : Route) (h : History) → IsLater h (OnRoute other Evicted ∷ h)
later_lost other h r is = elim (cases_Bool (same_route other r)) [ inl this ↦ rw this refl | inr differs ↦ rw differs is ]

later_route : (other : Route) (outcome : Outcome) (h : History) → MayBecome outcome other h → IsLater h (OnRoute other outcome ∷ h)
later_route other Evicted h may = later_lost other h
later_route other outcome h may = absurd may

later_fact : (fact : Fact) (h : History) → MayDo fact h → IsLater h (fact ∷ h)
later_fact (OnRoute other outcome) h may = later_route other outcome h may
later_fact fact h may = λ r is. is

later_call : (call : Call) (h : History) → MayCall call h → IsLater h (history_after_call call h)
later_call (Note fact) h may = later_fact fact h may
later_call (OnLoop call) h may = λ r is. is
later_call (OnDisk call) h may = λ r is. is
later_call (OnFiles call) h may = λ r is. is
later_call (OnKeeper call) h may = λ r is. is

quietly_bind : {R S : Type 0} (M : R → History → Type 0) (Q : S → History → Type 0) (h : History) (p : Action R) (next : R → Action S)
    → TouchesNoFlush M h p → ((x : R) (now : History) → IsLater h now → M x now → TouchesNoFlush Q now (next x)) → TouchesNoFlush Q h (bind p next)
quietly_bind M Q h (Return x) next first second = second x h (λ r is. is) first
quietly_bind M Q h (Ask call go) next first second =
    (first.0, λ answer. quietly_bind M Q (history_after_call call h) (go answer) next (first.1 answer) (λ x now later. second x now (λ r is. later r (later_call call h first.0 r is))))

quietly_if : {R : Type 0} (Q : R → History → Type 0) (b : Bool) (h : History) (p q : Action R) → (b ≡ true → TouchesNoFlush Q h p) → (b ≡ false → TouchesNoFlush Q h q) → TouchesNoFlush Q h (cond b p q)
quietly_if Q true h p q first second = first refl
quietly_if Q false h p q first second = second refl

-- calls on the disk, and their continuation
quietly_disk : {R S : Type 0} (Q : S → History → Type 0) (p : DiskProgram R) (h : History) (next : R → Action S) → ((x : R) → TouchesNoFlush Q h (next x)) → TouchesNoFlush Q h (bind (on_disk p) next)
quietly_disk Q (Return x) h next more = more x
quietly_disk Q (Ask call go) h next more = (tt, λ answer. quietly_disk Q (go answer) h next more)

quietly_then : (h : History) (p : Action History) (next : History → Action History) → TouchesNoFlush Same h p → ((now : History) → IsLater h now → TouchesNoFlush Same now (next now)) → TouchesNoFlush Same h (bind p next)
quietly_then h p next first second = quietly_bind Same Same h p next first (λ x now later is. subst (λ (y : History). TouchesNoFlush Same now (next y)) (sym is) (second now later))

rest_later : (h now : History) (chunk : ℕ) → IsLater h now → HasNoFlush h chunk → HasNoFlush now chunk
rest_later h now chunk later rest output = later (route chunk output) (rest output)

grounded_later : (h now : History) (rs : List Route) → IsLater h now → HaveNoFlush h rs → HaveNoFlush now rs
grounded_later h now [] later are = tt
grounded_later h now (r ∷ rs) later are = (later r are.0, grounded_later h now rs later are.1)

-- no open chunk has a flush, nor has the next one
abbrev pub OpenHaveNoFlush : History → Type 0
OpenHaveNoFlush h = (chunk : ℕ) → (is_closed h chunk ≡ false) ⊎ (chunk ≡ next h) → HasNoFlush h chunk

module _ (s : AllSettings) where
  -- ---- resolving

  quietly_dropped : (chunk : ℕ) (h : History) (answer : Option (Unit {0})) → TouchesNoFlush Same h (dropped chunk h answer)
  quietly_dropped chunk h (Some done) = (tt, λ _. refl)
  quietly_dropped chunk h None = (tt, λ _. (tt, λ _. refl))

  quietly_drops : (chunk : ℕ) (h : History) → TouchesNoFlush Same h (drops s chunk h)
  unfolding drops
  quietly_drops chunk h = quietly_disk Same (removes (kept_of s h chunk)) h (dropped chunk h) (quietly_dropped chunk h)

  quietly_recorded : (r : Route) (h : History) (answer : Option Bool) → TouchesNoFlush Same h (after_mark r h answer)
  quietly_recorded r h (Some done) = (tt, λ _. refl)
  quietly_recorded r h None = (tt, λ _. refl)

  quietly_records_at : (r : Route) (kept : Option Held) (place : Option ℕ) (h : History) → TouchesNoFlush Same h (marks_at s r kept place h)
  quietly_records_at r kept None h = refl
  quietly_records_at r kept (Some place) h =
      (tt, λ _. quietly_disk Same (settle_for_program kept (output_name s r.output) s.service.full) (MarkStarted r ∷ h) (after_mark r (MarkStarted r ∷ h)) (quietly_recorded r (MarkStarted r ∷ h)))

  quietly_records : (r : Route) (h : History) → TouchesNoFlush Same h (records s r h)
  unfolding records
  quietly_records r h = quietly_records_at r (kept_of s h r.chunk) (mark_position (output_name s r.output) (kept_of s h r.chunk)) h

  pub quietly_settles : (r : Route) (h : History) → TouchesNoFlush Same h (marks_or_removes s r h)
  unfolding marks_or_removes
  quietly_settles r h = quietly_if Same (owes s h r.chunk) h (records s r h) (drops s r.chunk h) (λ _. quietly_records r h) (λ _. quietly_drops r.chunk h)

  -- ---- closing

  quietly_loses : (rs : List Route) (h : History) → HaveNoFlush h rs → TouchesNoFlush Same h (loses s rs h)
  quietly_loses [] h are = refl
  quietly_loses (r ∷ rs) h are =
      let at : History = OnRoute r Evicted ∷ h in (
        are.0,
        λ _. quietly_then at (marks_or_removes s r at) (loses s rs) (quietly_settles r at)
            (λ now later. quietly_loses rs now (grounded_later at now rs later (grounded_later h at rs (later_lost r h) are.1))),
      )

  quietly_shuts : (chunk : ℕ) (h : History) → HasNoFlush h chunk → TouchesNoFlush Same h (closes_chunk s chunk h)
  unfolding closes_chunk
  quietly_shuts chunk h rest = (tt, λ _. quietly_loses (evicted_at s (ChunkClosed chunk ∷ h) chunk) (ChunkClosed chunk ∷ h) (lost_grounded s (ChunkClosed chunk ∷ h) chunk rest))

  quietly_fills : (chunk : ℕ) (h : History) → HasNoFlush h chunk → TouchesNoFlush Same h (closes_if_full s chunk h)
  unfolding closes_if_full
  quietly_fills chunk h rest = quietly_if Same (nat_le full_chunk (size h chunk)) h (closes_chunk s chunk h) (Return h) (λ _. quietly_shuts chunk h rest) (λ _. refl)

  abbrev AllAtRest : History → List ChunkInfo → Type 0
  AllAtRest h [] = Unit {0}
  AllAtRest h (c ∷ cs) = HasNoFlush h c.number × AllAtRest h cs

  all_later : (h now : History) (cs : List ChunkInfo) → IsLater h now → AllAtRest h cs → AllAtRest now cs
  all_later h now [] later are = tt
  all_later h now (c ∷ cs) later are = (rest_later h now c.number later are.0, all_later h now cs later are.1)

  quietly_closes : (cs : List ChunkInfo) (h : History) → AllAtRest h cs → TouchesNoFlush Same h (closes_each s cs h)
  quietly_closes [] h are = refl
  quietly_closes (c ∷ cs) h are = quietly_then h (closes_chunk s c.number h) (closes_each s cs) (quietly_shuts c.number h are.0) (λ now later. quietly_closes cs now (all_later h now cs later are.1))

  open_at_rest : (h : History) (cs : List ChunkInfo) → OpenHaveNoFlush h → AreOpen h cs → AllAtRest h cs
  open_at_rest h [] rest are = tt
  open_at_rest h (c ∷ cs) rest are = (rest c.number (inl are.0), open_at_rest h cs rest are.1)

  pub quietly_closes_all : (h : History) → OpenHaveNoFlush h → TouchesNoFlush Same h (closes_all s h)
  unfolding closes_all
  quietly_closes_all h rest = quietly_closes (open_chunks h) h (open_at_rest h (open_chunks h) rest (open_are_open h))

  -- ---- acceptance

  ends_taken : (b : Bool) (h : History) (p : Action History) → TouchesNoFlush Same h p → TouchesNoFlush SameTaken h (bind p (λ (at : History). Return (record { history = at; taken = b })))
  ends_taken b h p first = quietly_bind Same SameTaken h p (λ (at : History). Return (record { history = at; taken = b })) first (λ x now later is. is)

  quietly_appended : (b : Batch) (chunk : ℕ) (h : History) (answer : Option (Unit {0})) → HasNoFlush h chunk → TouchesNoFlush SameTaken h (finishes_append s b chunk h answer)
  quietly_appended b chunk h (Some done) rest = (tt, λ _. ends_taken true (Accepted b (AppendedTo chunk) ∷ h) (closes_if_full s chunk (Accepted b (AppendedTo chunk) ∷ h)) (quietly_fills chunk (Accepted b (AppendedTo chunk) ∷ h) rest))
  quietly_appended b chunk h None rest =
      let last : History = Refused b NotStored ∷ IoFailed ∷ h in
      (tt, λ _. (tt, λ _. ends_taken false last (closes_chunk s chunk last) (quietly_shuts chunk last rest)))

  quietly_placed : (b : Batch) (chunk : ℕ) (h : History) (answer : Option (Unit {0})) → chunk < next h → HasNoFlush h chunk → TouchesNoFlush SameTaken h (finishes_create s b chunk h answer)
  quietly_placed b chunk h (Some done) below rest = (below, λ _. ends_taken true (Accepted b (NewChunk chunk) ∷ h) (closes_if_full s chunk (Accepted b (NewChunk chunk) ∷ h)) (quietly_fills chunk (Accepted b (NewChunk chunk) ∷ h) rest))
  quietly_placed b chunk h None below rest = (tt, λ _. (tt, λ _. refl))

  quietly_appends : (b : Batch) (chunk : ℕ) (h : History) → HasNoFlush h chunk → TouchesNoFlush SameTaken h (appends s b chunk h)
  unfolding appends
  quietly_appends b chunk h rest =
      let at : History = Offered chunk b ∷ h in
      (tt, λ _. quietly_disk SameTaken (append_to_program (kept_of s h chunk) (encoded b.events) s.service.full) at (finishes_append s b chunk at) (λ answer. quietly_appended b chunk at answer rest))

  quietly_begins : (b : Batch) (chunk : ℕ) (h : History) → HasNoFlush h chunk → TouchesNoFlush SameTaken h (starts_chunk s b chunk h)
  unfolding starts_chunk
  quietly_begins b chunk h rest =
      let at : History = Offered chunk b ∷ h in (
        tt,
        λ _. quietly_disk SameTaken (begins_as (name_for s b.input chunk) b.tag (home_at s b.input) (encoded b.events) (names_for s b.tag)) at (finishes_create s b chunk at)
            (λ answer. quietly_placed b chunk at answer (omega arith) rest),
      )

  quietly_stores : (b : Batch) (c : Option ChunkInfo) (h : History) → OpenHaveNoFlush h → open_chunk h b.input b.tag ≡ c → TouchesNoFlush SameTaken h (stores s b c h)
  quietly_stores b (Some c) h rest is = quietly_appends b c.number h (rest c.number (inl (open_is h b.input b.tag c is)))
  quietly_stores b None h rest is =
      quietly_if SameTaken (nat_lt (next h) numbers_end) h (starts_chunk s b (next h) h) (refuses b NoNumber h) (λ _. quietly_begins b (next h) h (rest (next h) (inr refl))) (λ _. (tt, λ _. refl))

  pub quietly_accepts : (b : Batch) (h : History) → OpenHaveNoFlush h → TouchesNoFlush SameTaken h (accepts s b h)
  unfolding accepts
  quietly_accepts b h rest =
      let kept : Action Acceptance = cond (is_storable b.events) (stores s b (open_chunk h b.input b.tag) h) (refuses b TooLarge h) in
      let routed : Action Acceptance = cond (is_empty (outputs_for s b.tag)) (note_then (Accepted b NoChunk) h taken) kept in
      quietly_if SameTaken (is_empty b.events) h (taken h) routed (λ _. refl)
      (λ _. quietly_if SameTaken (is_empty (outputs_for s b.tag)) h (note_then (Accepted b NoChunk) h taken) kept (λ _. (tt, λ _. refl))
      (λ _. quietly_if SameTaken (is_storable b.events) h (stores s b (open_chunk h b.input b.tag) h) (refuses b TooLarge h) (λ _. quietly_stores b (open_chunk h b.input b.tag) h rest refl) (λ _. (tt, λ _. refl))))
