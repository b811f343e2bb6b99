-- What a closing leaves: chunks as they were, and the evicted routes resolved.
use Rattle.std.proofs.Common.{◌≡◌, ⊎_elim, ℕ, Bool, true, List, [], ◌∷◌, Option, Some, None, refl, ◌∙◌, subst, arith}
use Rattle.std.specs.Prelude.{Contains}
use Rattle.fwd_outside.specs.Program.{Return, Ask, bind, Execution}
use Rattle.fwd_chunk.specs.declared.kept.Kept.{Kept}
use Rattle.fwd_store.specs.Store.{drops as removes, settle_for_program}
use Rattle.fwd_settings.specs.declared.settings_types.AllSettings.{AllSettings}
use Rattle.fwd_model.specs.Fact.{Fact, History, Route, OnRoute, Evicted, ChunkClosed, Found, MarkStarted, Marked, Removed, FileLeft, IoFailed}
use Rattle.fwd_model.specs.Trace.{Action, TraceEntry}
use Rattle.fwd_model.specs.DeviceActions.{on_disk}
use Rattle.fwd_model.specs.Settings.{output_name}
use Rattle.fwd_model.specs.Chunks.{chunks_of, is_closed, size}
use Rattle.fwd_model.specs.ChunkStorage.{kept_of, mark_position}
use Rattle.fwd_model.specs.Routes.{owes, is_resolved}
use Rattle.fwd_model.specs.Notes.{note_then, note}
use Rattle.fwd_model.specs.ResolveActions.{dropped, drops, after_mark, marks_at, records, marks_or_removes}
use Rattle.fwd_model.specs.Limits.{evicted_at}
use Rattle.fwd_model.specs.CloseActions.{loses, closes_chunk}
use Rattle.fwd_theorem_trace.specs.Resolution.{IsResolved, IsDelivered, IsFailed, IsExhausted, IsEvicted, IsMarkedDone}
use Rattle.fwd_theorem_trace.proofs.Members.{here, deeper, either}
use Rattle.fwd_theorem_trace.proofs.RouteResolution.{resolved_as_ended}
use Rattle.fwd_theorem_delivery.proofs.Results.{Yields, gives_so, gives_then, gives_behind, gives_if}

pub yields_end : {R : Type 0} (Q : R → Type 0) (p : Action R) → Yields Q p → (es : List TraceEntry) (x : R) → Execution p es (Return x) → Q x
yields_end Q (Return y) gives [] x way = let same : y ≡ x = cc way in subst Q same gives
yields_end Q (Return y) gives (e ∷ es) x way = absurd way
yields_end Q (Ask call go) gives [] x way = absurd (cc way)
yields_end Q (Ask call go) gives (e ∷ es) x way = yields_end Q (go way.0) (gives way.0) es x way.2

-- chunks are as before, and facts were added
pub record Grown (h now : History) : Type 0 where
  pub chunks : chunks_of now ≡ chunks_of h
  pub sizes : (n : ℕ) → size now n ≡ size h n
  pub closed : (n : ℕ) → is_closed now n ≡ is_closed h n
  pub facts : (fact : Fact) → Contains h fact → Contains now fact

-- facts that change no chunk
abbrev IsResolving : Fact → Type 0
IsResolving (OnRoute r outcome) = Unit {0}
IsResolving (MarkStarted r) = Unit {0}
IsResolving (Marked r) = Unit {0}
IsResolving (Removed chunk) = Unit {0}
IsResolving (FileLeft chunk) = Unit {0}
IsResolving IoFailed = Unit {0}
IsResolving fact = ⊥

grown_nothing : (h : History) → Grown h h
grown_nothing h = record { chunks = refl; sizes = λ n. refl; closed = λ n. refl; facts = λ fact has. has }

grown_fact : (fact : Fact) (h : History) → IsResolving fact → Grown h (fact ∷ h)
grown_fact (OnRoute r outcome) h is = record { chunks = refl; sizes = λ n. refl; closed = λ n. refl; facts = λ fact has. deeper (OnRoute r outcome) h fact has }
grown_fact (MarkStarted r) h is = record { chunks = refl; sizes = λ n. refl; closed = λ n. refl; facts = λ fact has. deeper (MarkStarted r) h fact has }
grown_fact (Marked r) h is = record { chunks = refl; sizes = λ n. refl; closed = λ n. refl; facts = λ fact has. deeper (Marked r) h fact has }
grown_fact (Removed chunk) h is = record { chunks = refl; sizes = λ n. refl; closed = λ n. refl; facts = λ fact has. deeper (Removed chunk) h fact has }
grown_fact (FileLeft chunk) h is = record { chunks = refl; sizes = λ n. refl; closed = λ n. refl; facts = λ fact has. deeper (FileLeft chunk) h fact has }
grown_fact IoFailed h is = record { chunks = refl; sizes = λ n. refl; closed = λ n. refl; facts = λ fact has. deeper IoFailed h fact has }
grown_fact fact h is = absurd is

grown_both : (h at now : History) → Grown h at → Grown at now → Grown h now
grown_both h at now one two = record {
  chunks = two.chunks ∙ one.chunks;
  sizes = λ n. two.sizes n ∙ one.sizes n;
  closed = λ n. two.closed n ∙ one.closed n;
  facts = λ fact has. two.facts fact (one.facts fact has);
}

grows_only : (fact : Fact) (h : History) → IsResolving fact → Yields (Grown h) (note fact h)
grows_only fact h is = λ _. grown_fact fact h is

grows_note : (fact : Fact) (h : History) (p : Action History) → IsResolving fact → Yields (Grown (fact ∷ h)) p → Yields (Grown h) p
grows_note fact h p is more = gives_so (Grown (fact ∷ h)) (Grown h) p (λ now grown. grown_both h (fact ∷ h) now (grown_fact fact h is) grown) more

-- a resolved route stays resolved
pub still_resolved : (s : AllSettings) (h now : History) (r : Route) → Grown h now → is_resolved s h r ≡ true → is_resolved s now r ≡ true
still_resolved s h now r grown is = (resolved_as_ended s now r).1 (by ((resolved_as_ended s h r).0 is))
  where
    by : IsResolved s h r → IsResolved s now r
    by (IsDelivered has) = IsDelivered (grown.facts _ has)
    by (IsFailed has) = IsFailed (grown.facts _ has)
    by (IsExhausted has) = IsExhausted (grown.facts _ has)
    by (IsEvicted has) = IsEvicted (grown.facts _ has)
    by (IsMarkedDone was) = IsMarkedDone (record { stream = was.stream; name = was.name; bytes = was.bytes; found = grown.facts (Found r.chunk was.stream was.name was.bytes) was.found; done = was.done })

module _ (s : AllSettings) where
  grows_dropped : (chunk : ℕ) (h : History) (answer : Option (Unit {0})) → Yields (Grown h) (dropped chunk h answer)
  grows_dropped chunk h (Some done) = grows_only (Removed chunk) h tt
  grows_dropped chunk h None = λ _. grows_note IoFailed h (note (FileLeft chunk) (IoFailed ∷ h)) tt (grows_only (FileLeft chunk) (IoFailed ∷ h) tt)

  grows_drops : (chunk : ℕ) (h : History) → Yields (Grown h) (drops s chunk h)
  unfolding drops
  grows_drops chunk h = gives_behind (Grown h) (on_disk (removes (kept_of s h chunk))) (dropped chunk h) (grows_dropped chunk h)

  grows_marked : (r : Route) (h : History) (answer : Option Bool) → Yields (Grown h) (after_mark r h answer)
  grows_marked r h (Some done) = grows_only (Marked r) h tt
  grows_marked r h None = grows_only IoFailed h tt

  grows_marks_at : (r : Route) (kept : Option Kept) (place : Option ℕ) (h : History) → Yields (Grown h) (marks_at s r kept place h)
  grows_marks_at r kept None h = grown_nothing h
  grows_marks_at r kept (Some place) h =
      let marks_it : Action (Option Bool) = on_disk (settle_for_program kept (output_name s r.output) s.service.full) in
      λ _. grows_note (MarkStarted r) h (bind marks_it (after_mark r (MarkStarted r ∷ h))) tt
      (gives_behind (Grown (MarkStarted r ∷ h)) marks_it (after_mark r (MarkStarted r ∷ h)) (grows_marked r (MarkStarted r ∷ h)))

  grows_records : (r : Route) (h : History) → Yields (Grown h) (records s r h)
  unfolding records
  grows_records r h = grows_marks_at r (kept_of s h r.chunk) (mark_position (output_name s r.output) (kept_of s h r.chunk)) h

  grows_settles : (r : Route) (h : History) → Yields (Grown h) (marks_or_removes s r h)
  unfolding marks_or_removes
  grows_settles r h = gives_if (Grown h) (owes s h r.chunk) (records s r h) (drops s r.chunk h) (λ _. grows_records r h) (λ _. grows_drops r.chunk h)

  -- the evicted routes are logged
  abbrev pub Evicts : List Route → History → History → Type 0
  Evicts rs h now = Grown h now × ((r : Route) → Contains rs r → Contains now (OnRoute r Evicted))

  evicts_loses : (rs : List Route) (h : History) → Yields (Evicts rs h) (loses s rs h)
  evicts_loses [] h = (grown_nothing h, λ r has. absurd (omega (arith, has.1)))
  evicts_loses (r ∷ rs) h =
      let at : History = OnRoute r Evicted ∷ h in
      λ _. gives_then (Grown at) (Evicts (r ∷ rs) h) (marks_or_removes s r at) (loses s rs) (grows_settles r at)
      (λ now grown.
      gives_so (Evicts rs now) (Evicts (r ∷ rs) h) (loses s rs now)
      (λ last more. (
        grown_both h now last (grown_both h at now (grown_fact (OnRoute r Evicted) h tt) grown) more.0,
        λ q has.
            ⊎_elim (λ (same : r ≡ q). subst (λ (x : Route). Contains last (OnRoute x Evicted)) same (more.0.facts (OnRoute r Evicted) (grown.facts (OnRoute r Evicted) (here (OnRoute r Evicted) h))))
            (λ (later : Contains rs q). more.1 q later) (either r rs q has),
      )) (evicts_loses rs now))

  pub closing_evicts : (n : ℕ) (h new : History) (es : List TraceEntry) → Execution (closes_chunk s n h) es (Return new) → Evicts (evicted_at s (ChunkClosed n ∷ h) n) (ChunkClosed n ∷ h) new
  unfolding closes_chunk
  closing_evicts n h new es way =
      yields_end (Evicts (evicted_at s (ChunkClosed n ∷ h) n) (ChunkClosed n ∷ h))
      (note_then (ChunkClosed n) h (λ at. loses s (evicted_at s at n) at)) (λ _. evicts_loses (evicted_at s (ChunkClosed n ∷ h) n) (ChunkClosed n ∷ h)) es new way
