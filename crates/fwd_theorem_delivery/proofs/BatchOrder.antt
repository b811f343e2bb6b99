-- The batches accepted or refused since an event, compared to those that the event completed.
use Rattle.std.proofs.Common.{◌≡◌, Bool, true, false, cond, List, [], ◌∷◌, ◌++◌, append_assoc, refl, sym, ◌∙◌, ap, subst}
use Rattle.std.specs.Prelude.{not}
use Rattle.fwd_settings.specs.declared.settings_types.AllSettings.{AllSettings}
use Rattle.fwd_model.specs.Fact.{Fact, History, Batch, Happened, Polled, Accepted, Refused}
use Rattle.fwd_model.specs.Notes.{is_empty}
use Rattle.fwd_theorem_trace.proofs.Actions.{IsInnerFact}
use Rattle.fwd_theorem_delivery.specs.BatchOutcomes.{completed_by}
use Rattle.fwd_theorem_delivery.proofs.FactSuffix.{onto, AreInner, AddsInner}
use Rattle.fwd_theorem_delivery.specs.Origins.{is_arrival, decided_by, with_events}

-- a fact that completes no batch, and accepts and refuses none
abbrev pub IsQuiet : Fact → Type 0
IsQuiet fact = (is_arrival fact ≡ false) × (decided_by fact ≡ [])

pub inner_is_quiet : (fact : Fact) → IsInnerFact fact → IsQuiet fact
inner_is_quiet (Happened brought) inner = absurd inner
inner_is_quiet (Polled input index long bytes) inner = absurd inner
inner_is_quiet (Accepted b place) inner = absurd inner
inner_is_quiet (Refused b why) inner = absurd inner
inner_is_quiet fact inner = (refl, refl)

module _ (s : AllSettings) where
  -- the batches that the last event completed
  abbrev pub completed_last : History → List Batch
  completed_last [] = []
  completed_last (fact ∷ h) = cond (is_arrival fact) (completed_by s h fact) (completed_last h)

  -- those that were accepted or refused since
  abbrev pub decided_last : History → List Batch
  decided_last [] = []
  decided_last (fact ∷ h) = cond (is_arrival fact) [] (decided_last h ++ decided_by fact)

  -- of those that were completed, these are left
  abbrev pub Leaves : History → List Batch → Type 0
  Leaves h rest = with_events (completed_last h) ≡ decided_last h ++ rest

  abbrev pub AreOrdered : History → Type 0
  AreOrdered h = (rest : List Batch) × Leaves h rest

  -- at each point so far
  abbrev pub Always : History → Type 0
  Always [] = Unit {0}
  Always (fact ∷ h) = AreOrdered (fact ∷ h) × Always h

  pub ordered_now : (h : History) → Always h → AreOrdered h
  ordered_now [] always = ([], refl)
  ordered_now (fact ∷ h) always = always.0

  pub always_before : (more h : History) → Always (more ++ h) → Always h
  always_before [] h always = always
  always_before (fact ∷ more) h always = always_before more h always.1

  -- these are to be accepted or refused now
  abbrev pub AwaitsDecision : List Batch → History → Type 0
  AwaitsDecision bs h = Leaves h (with_events bs) × Always h

  -- ---- one more fact

  leaves_next : (fact : Fact) (h : History) (rest : List Batch) → is_arrival fact ≡ false → Leaves h (decided_by fact ++ rest) → Leaves (fact ∷ h) rest
  leaves_next fact h rest between is =
      let completed : completed_last (fact ∷ h) ≡ completed_last h = ap (λ (b : Bool). cond b (completed_by s h fact) (completed_last h)) between in
      let judges : decided_last (fact ∷ h) ≡ decided_last h ++ decided_by fact = ap (λ (b : Bool). cond b [] (decided_last h ++ decided_by fact)) between in
      ap with_events completed ∙ (is ∙ sym (ap (λ (bs : List Batch). bs ++ rest) judges ∙ append_assoc (decided_last h) (decided_by fact) rest))

  leaves_still : (fact : Fact) (h : History) (rest : List Batch) → IsQuiet fact → Leaves h rest → Leaves (fact ∷ h) rest
  leaves_still fact h rest quiet is = leaves_next fact h rest quiet.0 (is ∙ ap (λ (bs : List Batch). decided_last h ++ (bs ++ rest)) (sym quiet.1))

  pub always_still : (fact : Fact) (h : History) → IsQuiet fact → Always h → Always (fact ∷ h)
  always_still fact h quiet always = by (ordered_now h always)
    where
      by : AreOrdered h → Always (fact ∷ h)
      by (rest, is) = ((rest, leaves_still fact h rest quiet is), always)

  pub owing_still : (fact : Fact) (bs : List Batch) (h : History) → IsQuiet fact → AwaitsDecision bs h → AwaitsDecision bs (fact ∷ h)
  owing_still fact bs h quiet owing = let is = leaves_still fact h (with_events bs) quiet owing.0 in (is, ((with_events bs, is), owing.1))

  -- an event
  pub owing_arrived : (fact : Fact) (h : History) → is_arrival fact ≡ true → Always h → AwaitsDecision (completed_by s h fact) (fact ∷ h)
  owing_arrived fact h comes always =
      let bs : List Batch = with_events (completed_by s h fact) in
      let completed : with_events (completed_last (fact ∷ h)) ≡ bs = ap (λ (b : Bool). with_events (cond b (completed_by s h fact) (completed_last h))) comes in
      let judges : decided_last (fact ∷ h) ++ bs ≡ bs = ap (λ (b : Bool). cond b [] (decided_last h ++ decided_by fact) ++ bs) comes in
      let is : Leaves (fact ∷ h) bs = completed ∙ sym judges in
      (is, ((bs, is), always))

  -- ---- the next batch

  -- one without events
  pub owing_none : (b : Batch) (bs : List Batch) (h : History) → is_empty b.events ≡ true → AwaitsDecision (b ∷ bs) h → AwaitsDecision bs h
  owing_none b bs h none owing = (owing.0 ∙ ap (λ (empty : Bool). decided_last h ++ cond (not empty) (b ∷ with_events bs) (with_events bs)) none, owing.1)

  -- a fact accepts or refuses it
  pub owing_judged : (b : Batch) (bs : List Batch) (fact : Fact) (h : History) → is_empty b.events ≡ false → is_arrival fact ≡ false → decided_by fact ≡ b ∷ [] → AwaitsDecision (b ∷ bs) h → AwaitsDecision bs (fact ∷ h)
  owing_judged b bs fact h some between says owing =
      let rest : List Batch = with_events bs in
      let first : Leaves h (b ∷ rest) = owing.0 ∙ ap (λ (empty : Bool). decided_last h ++ cond (not empty) (b ∷ rest) rest) some in
      let is : Leaves (fact ∷ h) rest = leaves_next fact h rest between (first ∙ ap (λ (xs : List Batch). decided_last h ++ (xs ++ rest)) (sym says)) in
      (is, ((rest, is), owing.1))

  -- ---- facts about existing chunks

  always_onto : (new h : History) → AreInner new → Always h → Always (onto new h)
  always_onto [] h are always = always
  always_onto (fact ∷ new) h are always = always_onto new (fact ∷ h) are.1 (always_still fact h (inner_is_quiet fact are.0) always)

  pub always_later : (h now : History) → Always h → AddsInner h now → Always now
  always_later h now always (new, is, are) = subst Always (sym is) (always_onto new h are always)

  owing_onto : (bs : List Batch) (new h : History) → AreInner new → AwaitsDecision bs h → AwaitsDecision bs (onto new h)
  owing_onto bs [] h are owing = owing
  owing_onto bs (fact ∷ new) h are owing = owing_onto bs new (fact ∷ h) are.1 (owing_still fact bs h (inner_is_quiet fact are.0) owing)

  pub owing_later : (bs : List Batch) (h now : History) → AwaitsDecision bs h → AddsInner h now → AwaitsDecision bs now
  owing_later bs h now owing (new, is, are) = subst (AwaitsDecision bs) (sym is) (owing_onto bs new h are owing)
