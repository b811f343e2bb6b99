-- All invariants at each point of a run.
use Rattle.std.proofs.Common.{◌≡◌, ℕ, ◌+◌, Bool, true, false, List, [], ◌∷◌, ◌++◌, refl, ap, subst, arith}
use Rattle.std.specs.Prelude.{◌==◌, if◌then◌else◌}
use Rattle.fwd_outside.specs.Loop.{LoopEntry}
use Rattle.fwd_flush.specs.Outcome.{bytes_pushed}
use Rattle.fwd_settings.specs.declared.settings_types.AllSettings.{AllSettings}
use Rattle.fwd_model.specs.Fact.{Fact, History, Route, Sent}
use Rattle.fwd_theorem_delivery.specs.Links.{all_on_link, close_count}
use Rattle.fwd_theorem_delivery.proofs.OwnEvents.{GivesNone}
use Rattle.fwd_theorem_delivery.proofs.ChunkFacts.{MayNote}
use Rattle.fwd_theorem_delivery.proofs.Outcomes.{Now, noted}
use Rattle.fwd_theorem_delivery.proofs.FlushInvariant.{Kept, kept_first, kept_as, kept_fact, kept_aside}
use Rattle.fwd_theorem_delivery.proofs.LinkClosures.{Closed, closed_first, closed_as, closed_fact, closed_aside}
use Rattle.fwd_theorem_delivery.specs.OpenLinks.{AreOnOpenLinks}
use Rattle.fwd_theorem_delivery.proofs.OpenLinks.{opened_aside}
use Rattle.fwd_theorem_delivery.proofs.Counts.{Counted, exact, counted_first, counted_as, counted_fact, counted_aside}

pub record RunInvariant (s : AllSettings) (n : Now) : Type 0 where
  pub kept : Kept s n
  pub counted : Counted n
  pub closed : Closed n
  pub opened : AreOnOpenLinks [] n.calls

pub whole_first : (s : AllSettings) → RunInvariant s (record { greatest = 0; calls = []; history = [] })
whole_first s = record { kept = kept_first s; counted = counted_first; closed = closed_first; opened = tt }

pub whole_as : (s : AllSettings) (h : History) (g g2 : ℕ) (es es2 : List LoopEntry) → g ≡ g2 → es ≡ es2
    → RunInvariant s (record { greatest = g; calls = es; history = h }) → RunInvariant s (record { greatest = g2; calls = es2; history = h })
whole_as s h g g2 es es2 same_g same_es whole = record {
  kept = kept_as s h g g2 es es2 same_g same_es whole.kept;
  counted = counted_as h g g2 es es2 same_g same_es whole.counted;
  closed = closed_as h g g2 es es2 same_g same_es whole.closed;
  opened = subst (λ (x : List LoopEntry). AreOnOpenLinks [] x) same_es whole.opened;
}

-- a fact that is about no route and counts no taken bytes
abbrev pub MayBeside : Fact → History → Type 0
MayBeside (Sent output bytes) h = ⊥
MayBeside fact h = MayNote fact h

may_note : (fact : Fact) (h : History) → MayBeside fact h → MayNote fact h
may_note (Sent output bytes) h may = absurd may
may_note fact h may = may

exact_same : (fact : Fact) (h : History) → MayBeside fact h → (output : ℕ) → exact (fact ∷ h) output ≡ exact h output
exact_same (Sent other bytes) h may output = absurd may
exact_same fact h may output = refl

pub whole_fact : (s : AllSettings) (fact : Fact) (n : Now) → MayBeside fact n.history → RunInvariant s n → RunInvariant s (noted fact n)
whole_fact s fact n may whole = record {
  kept = kept_fact s fact n (may_note fact n.history may) whole.kept;
  counted = counted_fact (fact ∷ n.history) n (exact_same fact n.history may) whole.counted;
  closed = closed_fact fact n (may_note fact n.history may) whole.closed;
  opened = whole.opened;
}

pub whole_aside : (s : AllSettings) (n : Now) (ys : List LoopEntry) → GivesNone ys → ((link : ℕ) → all_on_link link ys ≡ []) → ((link : ℕ) → close_count link ys ≡ 0) → RunInvariant s n
    → RunInvariant s (record { greatest = n.greatest; calls = n.calls ++ ys; history = n.history })
whole_aside s n ys none nothing unclosed whole = record {
  kept = kept_aside s n ys none nothing whole.kept;
  counted = counted_aside n whole.counted ys none (λ link. ap bytes_pushed (nothing link));
  closed = closed_aside n whole.closed ys none unclosed;
  opened = opened_aside n.calls ys whole.opened nothing unclosed;
}

-- if no bytes were sent
pub exact_none : (r : Route) (output more : ℕ) (h : History) → more ≡ 0 → (if r.output == output then exact h output + more else exact h output) ≡ exact h output
exact_none r output more h none = by (r.output == output)
  where
    by : (b : Bool) → (if b then exact h output + more else exact h output) ≡ exact h output
    by true = omega (arith, none)
    by false = refl
