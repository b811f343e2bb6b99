use Rattle.std.proofs.Common.{◌≡◌, Bool, true, false, ◌&&◌, sym, ◌∙◌, ap}
use Rattle.fwd_model.specs.Routes.{is_idle}
use Rattle.fwd_model.specs.Dispatch.{has_place, fits}
use Rattle.fwd_engine_state.specs.Views.{route_of}
use Rattle.fwd_engine_state.proofs.state.State.may_start.Goals as goal

first : (a b : Bool) → a ≡ false → false ≡ (a && b)
first a b is = ap (λ (x : Bool). x && b) (sym is)

pub returns-then-not-is_idle : goal.returns-then-not-is_idle
returns-then-not-is_idle c s h out before places up backlog =
    let r = route_of c.args.route in
    first (is_idle s h r) (has_place s h r && fits s h r) (sym (c.is_idle.ensures s h out before) ∙ c.if-not-is_idle.true)

pub returns-then-not-has_place : goal.returns-then-not-has_place
returns-then-not-has_place c s h out before places up backlog =
    let r = route_of c.args.route in
    let idle : is_idle s h r ≡ true = sym (c.is_idle.ensures s h out before) ∙ c.if-not-is_idle.false in
    first (has_place s h r) (fits s h r) (sym (c.has_place.ensures s h out before places) ∙ c.if-not-has_place.true) ∙ ap (λ (x : Bool). x && (has_place s h r && fits s h r)) (sym idle)

pub returns : goal.returns
returns c s h out before places up backlog =
    let r = route_of c.args.route in
    let idle : is_idle s h r ≡ true = sym (c.is_idle.ensures s h out before) ∙ c.if-not-is_idle.false in
    let free : has_place s h r ≡ true = sym (c.has_place.ensures s h out before places) ∙ c.if-not-has_place.false in
    c.fits.ensures s h out before up backlog ∙ (λ i. sym idle i && (sym free i && fits s h r))
