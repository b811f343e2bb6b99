-- When a flush ends, an outcome may be logged.
use Rattle.std.proofs.Common.{◌+◌, arith, ◌≡◌, ℕ, ◌-◌, List, [], ◌∷◌, ◌++◌, inl, inr, ◌⊎◌, refl, ◌∙◌, ap}
use Rattle.std.proofs.lemmas.List.{append-nil}
use Rattle.fwd_outside.specs.Program.{entry, Ask}
use Rattle.fwd_outside.specs.Loop.{LoopEntry, Word}
use Rattle.fwd_table.specs.Outcomes.{may_retry}
use Rattle.fwd_table.specs.declared.outcome.Answer.{Answer}
use Rattle.fwd_table.specs.declared.outcome.Answer.TheVariants.{Good, Retry, Bad}
use Rattle.fwd_flush.specs.declared.stage.Stage.{Stage}
use Rattle.fwd_flush.specs.declared.stage.Stage.TheVariants.{Opening, Writing, AwaitingAck, Ended}
use Rattle.fwd_flush.specs.FlushProgram.{Progress, Delivery}
use Rattle.fwd_flush.specs.Outcome.{Event, IsAt}
use Rattle.fwd_settings.specs.declared.settings_types.AllSettings.{AllSettings}
use Rattle.fwd_model.specs.Fact.{Route, Sent, OnRoute, Outcome, InFlight, Retries, Delivered, Failed, Exhausted}
use Rattle.fwd_model.specs.Trace.{OnLoop}
use Rattle.fwd_model.specs.Settings.{output_at, retries_at}
use Rattle.fwd_model.specs.Routes.{tries}
use Rattle.fwd_model.specs.Notes.{note_then, note}
use Rattle.fwd_model.specs.ResolveActions.{marks_or_removes}
use Rattle.fwd_model.specs.FlushActions.{retries, applies_answer, notes_stage, stands, notes_calls}
use Rattle.fwd_theorem_delivery.specs.Links.{close_count, ReturnsLink, all_on_link}
use Rattle.fwd_theorem_delivery.proofs.LinkClosures.{close_count-append}
use Rattle.fwd_theorem_delivery.proofs.OwnEvents.{GivesNone, among_either, all_on_link-append}
use Rattle.fwd_theorem_delivery.proofs.Outcomes.{Now, noted}
use Rattle.fwd_theorem_delivery.proofs.RunInvariant.{RunInvariant, whole_as}
use Rattle.fwd_theorem_delivery.proofs.FlushEnd.{Comes}
use Rattle.fwd_theorem_delivery.proofs.QuietActions.{quietly_settles}
use Rattle.fwd_theorem_delivery.proofs.QuietInvariant.{Safe, safe_test, safe_quiet}

-- calls that aren't on any link, and open and close none
pub record AreAside (ys : List LoopEntry) : Type 0 where
  pub none : GivesNone ys
  pub nothing : (link : ℕ) → all_on_link link ys ≡ []
  pub unclosed : (link : ℕ) → close_count link ys ≡ 0

none_aside : AreAside []
none_aside = record { none = λ to link given. given; nothing = λ link. refl; unclosed = λ link. refl }

word_aside : (word : ℕ) → AreAside (entry Word word ∷ [])
word_aside word = record { none = λ to link given. one given; nothing = λ link. refl; unclosed = λ link. refl }
  where
    one : ⊥ ⊎ ⊥ → ⊥
    one (inl is) = is
    one (inr is) = is

pub gives_neither : (xs ys : List LoopEntry) → GivesNone xs → GivesNone ys → GivesNone (xs ++ ys)
gives_neither xs ys first second to link given = elim (among_either (ReturnsLink to link) xs ys given) [ inl a ↦ first to link a | inr b ↦ second to link b ]

pub on_both : (link : ℕ) (xs ys : List LoopEntry) → all_on_link link ys ≡ [] → all_on_link link (xs ++ ys) ≡ all_on_link link xs
on_both link xs ys nothing = all_on_link-append link xs ys ∙ (ap (λ (l : List Event). all_on_link link xs ++ l) nothing ∙ append-nil (all_on_link link xs))

pub closes_neither : (link : ℕ) (xs ys : List LoopEntry) → close_count link xs ≡ 0 → close_count link ys ≡ 0 → close_count link (xs ++ ys) ≡ 0
closes_neither link xs ys first second = let both : close_count link (xs ++ ys) ≡ close_count link xs + close_count link ys = close_count-append link xs ys in omega (arith, both, first, second)

-- a stage that a started flush may have
abbrev pub IsReached : Stage → Type 0
IsReached Opening = ⊥
IsReached (Writing link) = Unit {0}
IsReached (AwaitingAck link) = Unit {0}
IsReached (Ended Good) = Unit {0}
IsReached (Ended Retry) = Unit {0}
IsReached (Ended Bad) = Unit {0}

pub reached_at : (d : Delivery) (events : List Event) (q : Progress) (stage : Stage) → IsAt d events q stage → IsReached stage
reached_at d events q Opening at = at
reached_at d events q (Writing link) at = tt
reached_at d events q (AwaitingAck link) at = tt
reached_at d events q (Ended Good) at = tt
reached_at d events q (Ended Retry) at = tt
reached_at d events q (Ended Bad) at = tt

module _ (s : AllSettings) (r : Route) (q : Progress) where
  -- whatever is called aside, a matching outcome may be logged
  abbrev pub MayLogOutcome : Now → Type 0
  MayLogOutcome m = (ys : List LoopEntry) (outcome : Outcome) → AreAside ys → Comes q outcome
      → RunInvariant s (record { greatest = m.greatest; calls = m.calls ++ ys; history = OnRoute r outcome ∷ m.history })

  at_once : (m : Now) → MayLogOutcome m → (outcome : Outcome) → Comes q outcome → RunInvariant s (noted (OnRoute r outcome) m)
  at_once m settle outcome comes =
      whole_as s (OnRoute r outcome ∷ m.history) m.greatest m.greatest (m.calls ++ []) m.calls refl (append-nil m.calls) (settle [] outcome none_aside comes)

  -- an outcome is logged, and then the route is resolved
  safe_resolved : (m : Now) (outcome : Outcome) → MayLogOutcome m → Comes q outcome → Safe s m (note_then (OnRoute r outcome) m.history (marks_or_removes s r))
  safe_resolved m outcome settle comes = λ _ _.
      safe_quiet s (noted (OnRoute r outcome) m) (marks_or_removes s r (OnRoute r outcome ∷ m.history)) (quietly_settles s r (OnRoute r outcome ∷ m.history)) (at_once m settle outcome comes)

  safe_retries : (m : Now) → q.stage ≡ Ended Retry → MayLogOutcome m → Safe s m (retries s r m.history)
  unfolding retries
  safe_retries m is settle =
      safe_test s (may_retry (retries_at (output_at s r.output)) (tries m.history r)) m
      (Ask (OnLoop Word) (λ (word : ℕ). note (OnRoute r (Retries word)) m.history)) (note_then (OnRoute r Exhausted) m.history (marks_or_removes s r))
      (λ _ word _ _ _. (refl, settle (entry Word word ∷ []) (Retries word) (word_aside word) (record { flying = rw is refl; answered = is })))
      (λ _. safe_resolved m Exhausted settle (record { flying = rw is refl; answered = is }))

  safe_answers : (m : Now) (answer : Answer) → q.stage ≡ Ended answer → MayLogOutcome m → Safe s m (applies_answer s r answer m.history)
  safe_answers m Good is settle = safe_resolved m Delivered settle (record { flying = rw is refl; answered = is })
  safe_answers m Retry is settle = safe_retries m is settle
  safe_answers m Bad is settle = safe_resolved m Failed settle (record { flying = rw is refl; answered = is })

  safe_stands_in : (m : Now) (stage : Stage) → q.stage ≡ stage → IsReached stage → MayLogOutcome m → Safe s m (notes_stage s r q stage m.history)
  safe_stands_in m Opening is may settle = absurd may
  safe_stands_in m (Writing link) is may settle = λ _ _. (refl, at_once m settle (InFlight q) (record { flying = rw is refl; answered = tt }))
  safe_stands_in m (AwaitingAck link) is may settle = λ _ _. (refl, at_once m settle (InFlight q) (record { flying = rw is refl; answered = tt }))
  safe_stands_in m (Ended answer) is may settle = safe_answers m answer is settle

  safe_stands : (m : Now) → IsReached q.stage → MayLogOutcome m → Safe s m (stands s r q m.history)
  unfolding stands
  safe_stands m may settle = safe_stands_in m q.stage refl may settle

  pub safe_lands : (m : Now) (before : ℕ) → IsReached q.stage → MayLogOutcome (noted (Sent r.output (q.taken - before)) m) → Safe s m (notes_calls s r before q m.history)
  unfolding notes_calls
  safe_lands m before may settle = λ _ _. safe_stands (noted (Sent r.output (q.taken - before)) m) may settle
