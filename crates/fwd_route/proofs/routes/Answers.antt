use Rattle.std.proofs.Common.{◌≡◌, ℕ, ◌<◌, List, Some, length, refl, subst, ap, arith}
use Rattle.std.specs.List.{slice_get}
use Rattle.std.proofs.lemmas.Option.{slice_get_read}
use Rattle.fwd_route.specs.Glob.{RoutesTo}
use Rattle.fwd_route.proofs.Masks.{RoutesBelow, routes_none, routes_whole, routes_skip, routes_more}
use Rattle.fwd_route.proofs.routes.Goals as goal
use Rattle.fwd_route.proofs.routes.Goals.{then-matches, else-matches}

pub loop-i-init : goal.loop-i-init
loop-i-init c = routes_none _ _

pub loop-i-preserved : goal.loop-i-preserved
loop-i-preserved c =
    let globs = c.as_slice-glob-items.result.now in
    let tag = c.args.tag.now in
    let i = c.loop-i.i in
    let glob = c.as_slice.result.now in
    let within : i < 64 = omega (arith, c.requires, ap length c.as_slice-glob-items.ensures) in
    let less : i < length globs = omega arith in
    let at : slice_get globs i ≡ Some glob = rw c.as_slice.ensures (slice_get_read globs (length globs) i c.glob-item.result refl less c.glob-item.is) in
    elim c.if-matches.branch [
      | then-matches w ↦
          rw w.mask-is (routes_more i globs tag c.loop-i.mask glob within at (c.matches.ensures.0 w.if-matches.true) c.loop-i.invariant)
      | else-matches w ↦
          rw w.mask-is (routes_skip i globs tag c.loop-i.mask glob at (λ is. let yes = c.matches.ensures.1 is in let no = w.if-matches.false in cc (yes, no)) c.loop-i.invariant)
    ]

pub returns : goal.returns
returns c =
    let globs = c.as_slice-glob-items.result.now in
    let tag = c.args.tag.now in
    let all : c.loop-i.i ≡ length globs = omega arith in
    let same : globs ≡ c.args.globs.now = c.as_slice-glob-items.ensures in
    let whole : RoutesTo globs tag c.loop-i.mask = routes_whole globs tag c.loop-i.mask (subst (λ (n : ℕ). RoutesBelow n globs tag c.loop-i.mask) all c.loop-i.invariant) in
    subst (λ (l : List (List ℕ)). RoutesTo l tag c.loop-i.mask) same whole
