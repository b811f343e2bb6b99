use Rattle.std.proofs.Common.{length, ◌≡◌, true, false, None, refl, sym, ◌∙◌}
use Rattle.fwd_model.specs.Fact.{History}
use Rattle.fwd_model.specs.Settings.{paths_at}
use Rattle.fwd_model.specs.Limits.{is_paused}
use Rattle.fwd_model.specs.InputActions.{polls_input}
use Rattle.fwd_model.proofs.Refinement.{completes_idle}
use Rattle.fwd_engine_state.specs.PartsRepresent.{PartsRepresentIdle}
use Rattle.fwd_engine_ingest.proofs.FilePolls.{none_followed}
use Rattle.fwd_engine_ingest.proofs.followed_files.poll_input.Goals as goal

pub returns-then-is_paused-clause-acts : goal.returns-then-is_paused-clause-acts
unfolding polls_input
returns-then-is_paused-clause-acts g c others h shows =
    let s = c.args.run.now in
    let is : is_paused s h c.args.input.0 ≡ true = sym (c.is_paused.ensures s h None shows.state refl) ∙ c.if-is_paused.true in
    rw is (completes_idle (λ (now : History). PartsRepresentIdle s c.args.parts.now now) _ h shows)

pub returns-clause-acts : goal.returns-clause-acts
unfolding polls_input
returns-clause-acts g c others h shows =
    let s = c.args.run.now in
    let is : is_paused s h c.args.input.0 ≡ false = sym (c.is_paused.ensures s h None shows.state refl) ∙ c.if-is_paused.false in
    rw is (c.poll_files.ensures.acts others h shows)

pub returns-then-paths-eq0-clause-acts : goal.returns-then-paths-eq0-clause-acts
returns-then-paths-eq0-clause-acts g c others h shows =
    let s = c.args.run.now in
    let none : length (paths_at s c.args.input.0) ≡ 0 = sym (c.paths.ensures s h shows.followed_files) ∙ c.if-paths-eq0.true in
    rw (none_followed s c.args.input.0 h none) (completes_idle (λ (now : History). PartsRepresentIdle s c.args.parts.now now) _ h shows)
