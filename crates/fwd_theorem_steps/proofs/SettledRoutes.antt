-- A resolved route is marked, or its chunk removed, by the end of the step.
use Rattle.std.proofs.Common.{◌≡◌, ◌⊎◌, inl, inr, ℕ, Bool, true, false, cond, List, [], ◌∷◌, Option, Some, None, refl, sym, ◌∙◌, subst, arith}
use Rattle.std.specs.Prelude.{Contains}
use Rattle.fwd_chunk.specs.declared.kept.Kept.{Kept}
use Rattle.fwd_outside.specs.Program.{Return, bind, Execution}
use Rattle.fwd_outside.specs.declared.ends.Ends.{Ends}
use Rattle.fwd_store.specs.Store.{drops as removes, settle_for_program}
use Rattle.fwd_settings.specs.declared.settings_types.AllSettings.{AllSettings}
use Rattle.fwd_model.specs.Fact.{Fact, History, Route, Outcome, Found, Resumed, Saved, OnRoute, MarkStarted, Marked, Removed, FileLeft, IoFailed}
use Rattle.fwd_model.specs.Trace.{Action, TraceEntry}
use Rattle.fwd_model.specs.DeviceActions.{on_disk}
use Rattle.fwd_model.specs.Settings.{output_name}
use Rattle.fwd_model.specs.ChunkStorage.{kept_of, mark_position}
use Rattle.fwd_model.specs.Routes.{resolves, owes}
use Rattle.fwd_model.specs.ResolveActions.{dropped, drops, after_mark, marks_at, records, marks_or_removes}
use Rattle.fwd_model.specs.StepActions.{step}
use Rattle.fwd_model.specs.Run.{RunResult, life}
use Rattle.fwd_theorem_trace.specs.Past.{Past, logged}
use Rattle.fwd_theorem_trace.specs.Allowed.{IsLoading, Allowed}
use Rattle.fwd_theorem_trace.proofs.Members.{here, deeper, either}
use Rattle.fwd_theorem_trace.proofs.OffsetCalls.{IsOffsetFact}
use Rattle.fwd_theorem_trace.proofs.Run.{due_onward, Lasts, so_at_end, steps_step}
use Rattle.fwd_theorem_trace.proofs.Traversal.{traverses_map}
use Rattle.fwd_theorem_delivery.proofs.Results.{Yields, gives_behind, gives_walks}
use Rattle.fwd_theorem_steps.specs.Resolutions.{IsSettled, IsSettledSince, AreSettled}
use Rattle.fwd_theorem_steps.proofs.EachFact.{is_resolution, Keeps, each_step}

module _ (s : AllSettings) where
  -- ---- more facts since

  abbrev Within : History → History → Type 0
  Within since more = (fact : Fact) → Contains since fact → Contains more fact

  wider_one : (since more : History) → Within since more → (fact : Fact) (before : History) → IsSettledSince s since fact before → IsSettledSince s more fact before
  wider_one since more within (OnRoute r outcome) before is = λ resolving.
      let was = is resolving in
      record {
        begun = λ owes_more place at. within (MarkStarted r) (was.begun owes_more place at);
        marked = λ owes_more place at. both (Marked r) IoFailed (was.marked owes_more place at);
        removed = λ owes_none. both (Removed r.chunk) (FileLeft r.chunk) (was.removed owes_none);
      }
    where
      both : (a b : Fact) → Contains since a ⊎ Contains since b → Contains more a ⊎ Contains more b
      both a b (inl has) = inl (within a has)
      both a b (inr has) = inr (within b has)
  wider_one since more within fact before is = is

  wider : (since more : History) → Within since more → (h : History) → AreSettled s since h → AreSettled s more h
  wider since more within [] are = tt
  wider since more within (fact ∷ h) are = (wider_one since more within fact h are.0, wider (fact ∷ since) (fact ∷ more) with_it h are.1)
    where
      with_it : Within (fact ∷ since) (fact ∷ more)
      with_it other has = by (either fact since other has)
        where
          by : (fact ≡ other) ⊎ Contains since other → Contains (fact ∷ more) other
          by (inl same) = subst (Contains (fact ∷ more)) same (here fact more)
          by (inr there) = deeper fact more other (within other there)

  from_none : (more : History) → Within [] more
  from_none more fact has = absurd (omega (arith, has.1))

  -- ---- facts that resolve nothing

  plain_since : (fact : Fact) (h : History) (since : History) → is_resolution fact ≡ false → IsSettledSince s since fact h
  plain_since (OnRoute r outcome) h since off = λ on. absurd (cc (sym off ∙ on))
  plain_since fact h since off = tt

  plain_kept : (fact : Fact) (h : History) → is_resolution fact ≡ false → AreSettled s [] h → AreSettled s [] (fact ∷ h)
  plain_kept fact h off are = (plain_since fact h [] off, wider [] (fact ∷ []) (from_none (fact ∷ [])) h are)

  -- ---- what follows a fact that resolves a route

  module _ (r : Route) (outcome : Outcome) (h : History) (are : AreSettled s [] h) where
    abbrev at : History
    at = OnRoute r outcome ∷ h

    abbrev Settles : History → Type 0
    Settles now = AreSettled s [] now

    settled_so : (since : History) → IsSettled s since r at → AreSettled s since at
    settled_so since is = (λ _. is, wider [] (OnRoute r outcome ∷ since) (from_none (OnRoute r outcome ∷ since)) h are)

    is_off : owes s at r.chunk ≡ false → owes s at r.chunk ≡ true → {X : Type 0} → X
    is_off off on = absurd (cc (sym off ∙ on))

    was_removed : (since : History) → owes s at r.chunk ≡ false → Contains since (Removed r.chunk) ⊎ Contains since (FileLeft r.chunk) → IsSettled s since r at
    was_removed since off removed = record { begun = λ on. is_off off on; marked = λ on. is_off off on; removed = λ _. removed }

    was_marked : (since : History) → owes s at r.chunk ≡ true → Contains since (MarkStarted r) → Contains since (Marked r) ⊎ Contains since IoFailed → IsSettled s since r at
    was_marked since on begun marked = record { begun = λ _ place is. begun; marked = λ _ place is. marked; removed = λ off. is_off off on }

    no_place : owes s at r.chunk ≡ true → mark_position (output_name s r.output) (kept_of s at r.chunk) ≡ None → IsSettled s [] r at
    no_place on none = record { begun = λ _ place is. absurd (cc (sym none ∙ is)); marked = λ _ place is. absurd (cc (sym none ∙ is)); removed = λ off. is_off off on }

    after_removal : owes s at r.chunk ≡ false → (answer : Option (Unit {0})) → Yields Settles (dropped r.chunk at answer)
    after_removal off (Some done) = λ _. (tt, settled_so (Removed r.chunk ∷ []) (was_removed (Removed r.chunk ∷ []) off (inl (here (Removed r.chunk) []))))
    after_removal off None = λ _ _.
        let since : History = IoFailed ∷ FileLeft r.chunk ∷ [] in
        (tt, (tt, settled_so since (was_removed since off (inr (deeper IoFailed (FileLeft r.chunk ∷ []) (FileLeft r.chunk) (here (FileLeft r.chunk) []))))))

    removed_so : owes s at r.chunk ≡ false → Yields Settles (drops s r.chunk at)
    unfolding drops
    removed_so off = gives_behind Settles (on_disk (removes (kept_of s at r.chunk))) (dropped r.chunk at) (after_removal off)

    after_marking : owes s at r.chunk ≡ true → (answer : Option Bool) → Yields Settles (after_mark r (MarkStarted r ∷ at) answer)
    after_marking on (Some done) = λ _.
        let since : History = MarkStarted r ∷ Marked r ∷ [] in
        (tt, (tt, settled_so since (was_marked since on (here (MarkStarted r) (Marked r ∷ [])) (inl (deeper (MarkStarted r) (Marked r ∷ []) (Marked r) (here (Marked r) []))))))
    after_marking on None = λ _.
        let since : History = MarkStarted r ∷ IoFailed ∷ [] in
        (tt, (tt, settled_so since (was_marked since on (here (MarkStarted r) (IoFailed ∷ [])) (inr (deeper (MarkStarted r) (IoFailed ∷ []) IoFailed (here IoFailed []))))))

    marked_so : owes s at r.chunk ≡ true → (kept : Option Kept) (place : Option ℕ) → mark_position (output_name s r.output) (kept_of s at r.chunk) ≡ place → Yields Settles (marks_at s r kept place at)
    marked_so on kept None none = settled_so [] (no_place on none)
    marked_so on kept (Some place) is = λ _. gives_behind Settles (on_disk (settle_for_program kept (output_name s r.output) s.service.full)) (after_mark r (MarkStarted r ∷ at)) (after_marking on)

    recorded_so : owes s at r.chunk ≡ true → Yields Settles (records s r at)
    unfolding records
    recorded_so on = marked_so on (kept_of s at r.chunk) (mark_position (output_name s r.output) (kept_of s at r.chunk)) refl

    pub settles : Yields Settles (marks_or_removes s r at)
    unfolding marks_or_removes
    settles = by (owes s at r.chunk) refl
      where
        by : (b : Bool) → owes s at r.chunk ≡ b → Yields Settles (cond b (records s r at) (drops s r.chunk at))
        by true on = recorded_so on
        by false off = removed_so off

  keeps : Keeps s (AreSettled s [])
  keeps = record { plain = plain_kept; resolved = λ r outcome h resolving are. settles r outcome h are }

  -- ---- a run

  loading_settled : (h : History) → IsLoading h → AreSettled s [] h
  loading_settled [] loading = tt
  loading_settled (Found number stream name bytes ∷ h) loading = plain_kept (Found number stream name bytes) h refl (loading_settled h loading.1)
  loading_settled (fact ∷ h) loading = absurd loading

  aside_settled : (fact : Fact) (h : History) → IsOffsetFact fact → AreSettled s [] h → AreSettled s [] (fact ∷ h)
  aside_settled (Resumed input index place) h is are = plain_kept (Resumed input index place) h refl are
  aside_settled (Saved input index place) h is are = plain_kept (Saved input index place) h refl are
  aside_settled fact h is are = absurd is

  abbrev So : Past → Type 0
  So past = AreSettled s [] (logged past)

  lasts : Lasts s (Allowed s) So
  lasts = record {
    first = tt;
    onward = due_onward s;
    loaded = λ past loading. loading_settled (logged past) loading;
    called = λ call answer past are. are;
    aside = record { call = λ call answer past due so. ((due, so.0), so.1); fact = λ fact answer past is due so. ((due, so.0), aside_settled fact (logged past) is so.1) };
    stepped = λ x past due ready are.
        let W : History → Past → Type 0 = λ (h : History) (now : Past). (h ≡ logged now) × Unit {0} in
        let Q : History → Type 0 = AreSettled s [] in
        traverses_map (Allowed s) (λ (h : History) (now : Past). Q h × W h now) (λ (h : History) (now : Past). (h ≡ logged now) × So now) past (step s x (logged past))
        (λ h now grown is. (is.1.0, subst Q is.1.0 is.0)) (gives_walks (Allowed s) Q W past (step s x (logged past)) (each_step s Q keeps x (logged past) are) (steps_step s x past due ready));
  }

  pub settled_at_end : (ends : Ends) (ticks : Option ℕ) (turns : ℕ) (es : List TraceEntry) (end : RunResult) → Execution (life s ends ticks turns) es (Return end) → AreSettled s [] end.history
  settled_at_end ends ticks turns es end way = let so = so_at_end s (Allowed s) So lasts ends ticks turns es end way in subst (AreSettled s []) (sym so.0) so.1
