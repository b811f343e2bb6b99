use Rattle.std.proofs.Common.{◌≡◌, ℕ, List, Option, Some, subst, refl}
use Rattle.fwd_route.proofs.matches.Goals as goal
use Rattle.fwd_route.specs.declared.Back.{Back}
use Rattle.fwd_route.proofs.ScanInvariant.{Scan, MayResume, at_the_end, scan_starts, scan_star, scan_end, scan_byte, scan_back, scan_over, scan_fails, star_smaller, back_smaller}

pub steps-init : goal.steps-init
steps-init c = scan_starts _ _

pub returns-in-Over : goal.returns-in-Over
returns-in-Over c = (λ is. scan_over _ _ _ _ _ c.steps.invariant c.in-Over.ensures.0 c.in-Over.ensures.1, λ matched. refl)

pub returns-then-is_plain : goal.returns-then-is_plain
returns-then-is_plain c =
    let plain = c.is_plain.ensures.0 c.if-is_plain.true in
    let same = scan_end _ _ _ _ _ _ c.steps.invariant c.in-Star.ensures plain in
    (λ yes. same.1 (c.is_suffix.ensures.0 yes), λ matched. c.is_suffix.ensures.1 (same.0 matched))

pub steps-smaller-in-Star : goal.steps-smaller-in-Star
steps-smaller-in-Star c = star_smaller _ _ _ _ _ _ c.steps.invariant c.in-Star.ensures

pub steps-preserved-in-Star : goal.steps-preserved-in-Star
steps-preserved-in-Star c = scan_star _ _ _ _ (record { behind = c.in-Star.behind; from = c.steps.text }) c.steps.invariant c.in-Star.ensures

pub steps-preserved-in-Same : goal.steps-preserved-in-Same
steps-preserved-in-Same c = let same = c.in-Same.ensures in scan_byte _ _ _ _ _ same.0 _ _ c.steps.invariant same.1 same.2 same.3

pub returns-in_default : goal.returns-in_default
returns-in_default c = (
  λ is. absurd (cc (is)),
  λ matched. absurd (
      scan_fails _ _ _ _ _ c.steps.invariant c.in-Other.ensures
      (λ later. subst MayResume c.in_default.is later) matched),
)

pub returns-in_default-split_first : goal.returns-in_default-split_first
returns-in_default-split_first c = (
  λ is. absurd (cc (is)),
  λ matched. absurd (
      scan_fails _ _ _ _ _ c.steps.invariant c.in-Other.ensures
      (λ later. at_the_end _ _ c.in-Some.is c.in_default-split_first.ensures.cases later) matched),
)

-- the scan, at the place that it goes back to
scan_at : (pattern tag : List ℕ) (back : Option Back) (old : Back) (glob text : List ℕ) → back ≡ Some old → Scan pattern tag back glob text → Scan pattern tag (Some old) glob text
scan_at pattern tag back old glob text is scan = subst (λ (b : Option Back). Scan pattern tag b glob text) is scan

pub steps-smaller : goal.steps-smaller
steps-smaller c =
    let scan = scan_at _ _ _ c.in-Some.field-0 _ _ c.in-Some.is c.steps.invariant in
    rw c.in-Some.is (back_smaller _ _ _ _ _ _ c.in-Some-split_first.ensures.cases.0 scan.within)

pub steps-preserved : goal.steps-preserved
steps-preserved c =
    scan_back _ _ c.in-Some.field-0 _ _ _ (record { behind = c.in-Some.field-0.behind; from = c.in-Some-split_first.rest })
    (scan_at _ _ _ c.in-Some.field-0 _ _ c.in-Some.is c.steps.invariant) c.in-Other.ensures c.in-Some-split_first.ensures.cases.0 refl
