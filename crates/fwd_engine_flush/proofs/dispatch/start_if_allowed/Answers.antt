use Rattle.std.proofs.Common.{◌≡◌, true, false, None, sym, ◌∙◌, inl, inr}
use Rattle.std.proofs.lemmas.Bool.{cases_Bool}
use Rattle.fwd_settings.specs.declared.settings_types.AllSettings.{AllSettings}
use Rattle.fwd_model.specs.Fact.{History, Route}
use Rattle.fwd_model.specs.Routes.{is_idle}
use Rattle.fwd_model.specs.Dispatch.{may_start}
use Rattle.fwd_model.specs.FlushActions.{starts_if_allowed}
use Rattle.fwd_model.proofs.Refinement.{completes_idle}
use Rattle.fwd_engine_state.specs.Views.{route_of}
use Rattle.fwd_engine_state.proofs.CounterSteps.{no_event_first}
use Rattle.fwd_engine_flush.proofs.dispatch.start_if_allowed.Goals as goal

idle_first : (s : AllSettings) (h : History) (r : Route) → may_start s h r ≡ true → is_idle s h r ≡ true
idle_first s h r may = elim (cases_Bool (is_idle s h r)) [ inl is ↦ is | inr isnt ↦ absurd (cc (rw isnt at may)) ]

pub returns-then-may_start-clause-acts : goal.returns-then-may_start-clause-acts
unfolding starts_if_allowed
returns-then-may_start-clause-acts g c others h shows =
    let s = c.args.run.now in
    let r = route_of c.args.route in
    let may : may_start s h r ≡ true = sym (c.may_start.ensures s h None shows.state (sym c.places.ensures) (sym c.max_up.ensures) (sym c.backlog_limit.ensures)) ∙ c.if-may_start.true in
    rw may (c.begin.ensures.acts others h shows (idle_first s h r may))

pub returns-else-may_start-clause-acts : goal.returns-else-may_start-clause-acts
unfolding starts_if_allowed
returns-else-may_start-clause-acts g c others h shows =
    let s = c.args.run.now in
    let r = route_of c.args.route in
    let may : may_start s h r ≡ false = sym (c.may_start.ensures s h None shows.state (sym c.places.ensures) (sym c.max_up.ensures) (sym c.backlog_limit.ensures)) ∙ c.if-may_start.false in
    rw may (completes_idle _ _ h shows)

pub returns-else-may_start-clause-unheard : goal.returns-else-may_start-clause-unheard
returns-else-may_start-clause-unheard g c = no_event_first (g.L.Loop.counts c.args.outside.now)
