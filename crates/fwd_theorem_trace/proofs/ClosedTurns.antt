-- If all open chunks close, none is open at the end of the step.
use Rattle.std.proofs.Common.{◌≡◌, ⊎_elim, ℕ, not, Bool, true, false, List, [], ◌∷◌, filter, Option, Some, None, refl, sym, ◌∙◌, ap, subst, arith}
use Rattle.std.specs.Prelude.{Contains, is_none}
use Rattle.std.proofs.lemmas.Bool.{and_parts}
use Rattle.fwd_outside.specs.Program.{entry}
use Rattle.fwd_outside.specs.declared.happening.Happening.{Happening}
use Rattle.fwd_outside.specs.declared.happening.Happening.TheVariants as happening
use Rattle.fwd_settings.specs.declared.settings_types.AllSettings.{AllSettings}
use Rattle.fwd_model.specs.Fact.{Fact, History, Standard, Happened, Found, Accepted, ChunkClosed}
use Rattle.fwd_model.specs.Trace.{Call, Answer, Action, Note}
use Rattle.fwd_model.specs.Settings.{reads_stdin_at}
use Rattle.fwd_model.specs.Clock.{stopped, is_close_due}
use Rattle.fwd_model.specs.Batches.{end_batch}
use Rattle.fwd_model.specs.Chunks.{ChunkInfo, chunks_of, open_chunks, is_closed}
use Rattle.fwd_model.specs.Limits.{evicted_at}
use Rattle.fwd_model.specs.CloseActions.{closes_chunk, closes_each, closes_all}
use Rattle.fwd_model.specs.Acceptance.{ingests}
use Rattle.fwd_model.specs.FlushActions.{walk}
use Rattle.fwd_model.specs.InputActions.{polls_all}
use Rattle.fwd_model.specs.StepActions.{closes_and_dispatches, ticks, stops, at_input_end, handles, step}
use Rattle.fwd_theorem_trace.specs.Past.{Past, logged}
use Rattle.fwd_theorem_trace.specs.Allowed.{IsChunk, EventAllowed, Allowed}
use Rattle.fwd_theorem_trace.specs.Closure.{closes_at, has_closed}
use Rattle.fwd_theorem_trace.proofs.Members.{here, deeper, either, in_filter, not_where_off}
use Rattle.fwd_theorem_trace.proofs.Traversal.{Traverses, Extends, walks_bind, traverses_map}
use Rattle.fwd_theorem_trace.proofs.Persistence.{shut_still, shut_since, chunk_since, open_is_chunk, lost_is_shut, shut_now}
use Rattle.fwd_theorem_trace.proofs.Actions.{IsInnerFact, IsInner, IsKept, tells_loses, tells_walk}
use Rattle.fwd_theorem_trace.proofs.Steps.{IsOuter, outer, told_follows_all, told_takes, told_happens}

shut_call : (call : Call) (answer : Answer call) (past : Past) (n : ℕ) → is_closed (logged past) n ≡ true → is_closed (logged (entry call answer ∷ past)) n ≡ true
shut_call (Note fact) answer past n is = shut_still fact (logged past) n is
shut_call call answer past n is = is

chunks_fact : (fact : Fact) (h : History) → IsInnerFact fact → chunks_of (fact ∷ h) ≡ chunks_of h
chunks_fact (Found number stream name bytes) h is = absurd is
chunks_fact (Accepted b place) h is = absurd is
chunks_fact fact h is = refl

chunks_call : (call : Call) (answer : Answer call) (past : Past) → IsInner call → chunks_of (logged (entry call answer ∷ past)) ≡ chunks_of (logged past)
chunks_call (Note fact) answer past is = chunks_fact fact (logged past) is
chunks_call call answer past is = refl

-- no chunk is open
abbrev AllClosed : Past → Type 0
AllClosed past = (c : ChunkInfo) → Contains (chunks_of (logged past)) c → is_closed (logged past) c.number ≡ true

pub none_open : (h : History) (cs : List ChunkInfo) → ((c : ChunkInfo) → Contains cs c → is_closed h c.number ≡ true) → filter (λ (c : ChunkInfo). not (is_closed h c.number)) cs ≡ []
none_open h [] shut = refl
none_open h (c ∷ cs) shut = rw (shut c (here c cs)) (none_open h cs (λ d has. shut d (deeper c cs d has)))

module _ (s : AllSettings) where
  -- these are closed
  abbrev AreClosed : List ChunkInfo → Past → Type 0
  AreClosed cs past = (c : ChunkInfo) → Contains cs c → is_closed (logged past) c.number ≡ true

  stays_shut : (K : Past → Type 0) (n : ℕ) → IsKept s IsInner K → IsKept s IsInner (λ (past : Past). K past × (is_closed (logged past) n ≡ true))
  stays_shut K n stable call answer past is due kept = (stable call answer past is due kept.0, shut_call call answer past n kept.1)

  shuts_shut : (K : Past → Type 0) (n : ℕ) (past : Past) → IsKept s IsInner K → IsChunk (logged past) n → Allowed s past → K past
      → Traverses (Allowed s) (λ (h : History) (now : Past). (h ≡ logged now) × (K now × (is_closed (logged now) n ≡ true))) past (closes_chunk s n (logged past))
  unfolding closes_chunk
  shuts_shut K n past stable is ready kept = (
    ready,
    λ answer.
        tells_loses s (λ (now : Past). K now × (is_closed (logged now) n ≡ true)) (stays_shut K n stable) (evicted_at s (ChunkClosed n ∷ logged past) n) (entry (Note (ChunkClosed n)) answer ∷ past)
        (λ r has. lost_is_shut s (ChunkClosed n ∷ logged past) n (shut_now n (logged past)) r has) ((is, ready), (stable (Note (ChunkClosed n)) answer past tt is kept, shut_now n (logged past))),
  )

  chunk_later : (past now : Past) (n : ℕ) → Extends past now → IsChunk (logged past) n → IsChunk (logged now) n
  chunk_later past now n grown is = record { chunk = is.chunk; stands = chunk_since past now is.chunk grown is.stands; is = is.is }

  one_more : (c : ChunkInfo) (cs : List ChunkInfo) (now : Past) → is_closed (logged now) c.number ≡ true → AreClosed cs now → AreClosed (c ∷ cs) now
  one_more c cs now first rest d has = ⊎_elim (λ (same : c ≡ d). subst (λ (x : ChunkInfo). is_closed (logged now) x.number ≡ true) same first) (λ (later : Contains cs d). rest d later) (either c cs d has)

  closes_shut : (cs : List ChunkInfo) (K : Past → Type 0) (past : Past) → IsKept s IsInner K → ((c : ChunkInfo) → Contains cs c → IsChunk (logged past) c.number) → Allowed s past → K past
      → Traverses (Allowed s) (λ (h : History) (now : Past). (h ≡ logged now) × (K now × AreClosed cs now)) past (closes_each s cs (logged past))
  closes_shut [] K past stable are ready kept = (ready, (refl, (kept, λ c has. absurd (omega (arith, has.1)))))
  closes_shut (c ∷ cs) K past stable are ready kept =
      let K2 : Past → Type 0 = λ (now : Past). K now × (is_closed (logged now) c.number ≡ true) in
      let Q : History → Past → Type 0 = λ (h : History) (now : Past). (h ≡ logged now) × (K now × AreClosed (c ∷ cs) now) in
      walks_bind (Allowed s) (λ (h : History) (now : Past). (h ≡ logged now) × K2 now) Q past (closes_chunk s c.number (logged past)) (closes_each s cs) (shuts_shut K c.number past stable (are c (here c cs)) ready kept)
      (λ h now grown then is.
      subst (λ (x : History). Traverses (Allowed s) Q now (closes_each s cs x)) (sym is.0)
      (traverses_map (Allowed s) (λ (h : History) (now : Past). (h ≡ logged now) × (K2 now × AreClosed cs now)) Q now (closes_each s cs (logged now))
      (λ x end grown q. (q.0, (q.1.0.0, one_more c cs end q.1.0.1 q.1.1)))
      (closes_shut cs K2 now (stays_shut K c.number stable) (λ d has. chunk_later past now d.number grown (are d (deeper c cs d has))) then is.1)))

  -- after a closing all chunks are closed, and the dispatch opens none
  keeps_chunks : (K : Past → Type 0) (cs : List ChunkInfo) → IsKept s IsInner K → IsKept s IsInner (λ (past : Past). K past × (chunks_of (logged past) ≡ cs))
  keeps_chunks K cs stable call answer past is due kept = (stable call answer past is due kept.0, chunks_call call answer past is ∙ kept.1)

  keeps_closed : (K : Past → Type 0) → IsKept s IsInner K → IsKept s IsInner (λ (past : Past). K past × AllClosed past)
  keeps_closed K stable call answer past is due kept =
      (stable call answer past is due kept.0, λ c has. shut_call call answer past c.number (kept.1 c (subst (λ (cs : List ChunkInfo). Contains cs c) (chunks_call call answer past is) has)))

  all_shut : (past now : Past) → Extends past now → chunks_of (logged now) ≡ chunks_of (logged past) → AreClosed (open_chunks (logged past)) now → AllClosed now
  all_shut past now grown same are c has = by (is_closed (logged past) c.number) refl
    where
      stood : Contains (chunks_of (logged past)) c
      stood = subst (λ (cs : List ChunkInfo). Contains cs c) same has

      by : (b : Bool) → is_closed (logged past) c.number ≡ b → is_closed (logged now) c.number ≡ true
      by true is = shut_since past now c.number grown is
      by false is = are c (in_filter (λ (d : ChunkInfo). not (is_closed (logged past) d.number)) (chunks_of (logged past)) c stood (not_where_off (is_closed (logged past) c.number) is))

  abbrev Closed : (Past → Type 0) → Past → Action History → Type 0
  Closed K past p = Traverses (Allowed s) (λ (h : History) (now : Past). (h ≡ logged now) × (K now × AllClosed now)) past p

  closed_walks : (K : Past → Type 0) (past : Past) → IsKept s IsInner K → Allowed s past → K past → Closed K past (closes_and_dispatches s true (logged past))
  unfolding closes_and_dispatches closes_all
  closed_walks K past stable ready kept =
      let cs : List ChunkInfo = open_chunks (logged past) in
      let K2 : Past → Type 0 = λ (now : Past). K now × (chunks_of (logged now) ≡ chunks_of (logged past)) in
      let Q : History → Past → Type 0 = λ (h : History) (now : Past). (h ≡ logged now) × (K now × AllClosed now) in
      walks_bind (Allowed s) (λ (h : History) (now : Past). (h ≡ logged now) × (K2 now × AreClosed cs now)) Q past (closes_each s cs (logged past)) (walk s)
      (closes_shut cs K2 past (keeps_chunks K (chunks_of (logged past)) stable) (λ c has. open_is_chunk (logged past) c has) ready (kept, refl))
      (λ h now grown then is.
      subst (λ (x : History). Traverses (Allowed s) Q now (walk s x)) (sym is.0)
      (tells_walk s (λ (at : Past). K at × AllClosed at) (keeps_closed K stable) now (then, (is.1.0.0, all_shut past now grown is.1.0.1 is.1.1))))

  -- ---- steps

  -- the last event stays the same
  stays_so : (b : Bool) → IsKept s IsOuter (λ (past : Past). has_closed s (logged past) ≡ b)
  stays_so b (Note fact) answer past is due so = by fact is so
    where
      by : (f : Fact) → IsOuter (Note f) → has_closed s (logged past) ≡ b → has_closed s (f ∷ logged past) ≡ b
      by (Happened x) is so = absurd is
      by f is so = so
  stays_so b call answer past is due so = so

  -- if the last event closes chunks, no chunk is open
  abbrev pub IsClosed : Past → Type 0
  IsClosed past = has_closed s (logged past) ≡ true → AllClosed past

  abbrev Steps_closed : Past → Action History → Type 0
  Steps_closed past p = Traverses (Allowed s) (λ (h : History) (now : Past). (h ≡ logged now) × IsClosed now) past p

  module _ (b : Bool) where
    abbrev So : Past → Type 0
    So past = has_closed s (logged past) ≡ b

    so_inner : IsKept s IsInner So
    so_inner call answer past is due so = stays_so b call answer past (outer call is) due so

    closing_walks : (past : Past) → Allowed s past → So past → Steps_closed past (closes_and_dispatches s true (logged past))
    closing_walks past ready so =
        traverses_map (Allowed s) (λ (h : History) (now : Past). (h ≡ logged now) × (So now × AllClosed now)) (λ (h : History) (now : Past). (h ≡ logged now) × IsClosed now) past (closes_and_dispatches s true (logged past))
        (λ h now grown q. (q.0, λ has. q.1.1)) (closed_walks So past so_inner ready so)

  -- if nothing closes, there is nothing to show
  abbrev Open : Past → Type 0
  Open past = has_closed s (logged past) ≡ false

  stays_open : (past : Past) (p : Action History) → Traverses (Allowed s) (λ (h : History) (now : Past). (h ≡ logged now) × Open now) past p → Steps_closed past p
  stays_open past p closes_and_dispatches = traverses_map (Allowed s) (λ (h : History) (now : Past). (h ≡ logged now) × Open now) (λ (h : History) (now : Past). (h ≡ logged now) × IsClosed now) past p (λ h now grown q. (q.0, λ has. absurd (cc (sym q.1 ∙ has)))) closes_and_dispatches

  rests_open : (before : History) (x : Happening) (past : Past) → Allowed s past → Open past → Steps_closed past (handles s before x (logged past))
  rests_open before x past ready is = stays_open past (handles s before x (logged past)) (told_happens s Open (stays_so false) before x past (ready, is))

  -- the event closes chunks, and its step ends so
  happens_closed : (before : History) (x : Happening) (past : Past) → Allowed s past → has_closed s (logged past) ≡ true → closes_at s before x ≡ true → Steps_closed past (handles s before x (logged past))
  unfolding ticks stops at_input_end
  happens_closed before (happening.Tick now) past ready so is =
      let Q : History → Past → Type 0 = λ (h : History) (at : Past). (h ≡ logged at) × IsClosed at in
      walks_bind (Allowed s) (λ (h : History) (at : Past). (h ≡ logged at) × So true at) Q past (polls_all s (logged past)) (closes_and_dispatches s (is_close_due s before now)) (told_follows_all s (So true) (stays_so true) past (ready, so))
      (λ h at grown then q. subst (λ (x : History). Traverses (Allowed s) Q at (closes_and_dispatches s (is_close_due s before now) x)) (sym q.0) (subst (λ (c : Bool). Traverses (Allowed s) Q at (closes_and_dispatches s c (logged at))) (sym is) (closing_walks true at then q.1)))
  happens_closed before happening.Stop past ready so is = stops_closed (stopped s before) past ready so is
    where
      stops_closed : (at : Option ℕ) (past : Past) → Allowed s past → So true past → is_none at ≡ true → Steps_closed past (stops s at (logged past))
      stops_closed None past ready so is = closing_walks true past ready so
      stops_closed (Some at) past ready so is = absurd (cc is)
  happens_closed before (happening.InputEnd input) past ready so is =
      let Q : History → Past → Type 0 = λ (h : History) (at : Past). (h ≡ logged at) × IsClosed at in
      let parts = and_parts (reads_stdin_at s input.0) (is_none (stopped s before)) is in
      rw (parts.0)
      (walks_bind (Allowed s) (λ (h : History) (at : Past). (h ≡ logged at) × So true at) Q past (ingests s (end_batch s before input.0 (Standard input.0)) (logged past)) (stops s (stopped s before))
      (told_takes s (So true) (stays_so true) (end_batch s before input.0 (Standard input.0)) past (ready, so))
      (λ h at grown then q. subst (λ (x : History). Traverses (Allowed s) Q at (stops s (stopped s before) x)) (sym q.0) (stops_closed (stopped s before) at then q.1 parts.1)))
    where
      stops_closed : (at : Option ℕ) (past : Past) → Allowed s past → So true past → is_none at ≡ true → Steps_closed past (stops s at (logged past))
      stops_closed None past ready so is = closing_walks true past ready so
      stops_closed (Some at) past ready so is = absurd (cc is)
  happens_closed before x past ready so is = absurd (cc is)

  pub closed_step : (x : Happening) (past : Past) → EventAllowed s x past → Allowed s past → Steps_closed past (step s x (logged past))
  unfolding step
  closed_step x past due ready = (ready, λ answer. by (closes_at s (logged past) x) refl (entry (Note (Happened x)) answer ∷ past) refl (due, ready))
    where
      by : (b : Bool) → closes_at s (logged past) x ≡ b → (at : Past) → logged at ≡ Happened x ∷ logged past → Allowed s at → Steps_closed at (handles s (logged past) x (Happened x ∷ logged past))
      by true is at same then = subst (λ (h : History). Steps_closed at (handles s (logged past) x h)) same (happens_closed (logged past) x at then (ap (has_closed s) same ∙ is) is)
      by false is at same then = subst (λ (h : History). Steps_closed at (handles s (logged past) x h)) same (rests_open (logged past) x at then (ap (has_closed s) same ∙ is))
