use Rattle.std.proofs.Common.{◌≡◌, ◌==◌, ℕ, true, false, IfOk, List, OnErr, length, sym, subst, ap, ◌∙◌}
use Rattle.fwd_script.specs.declared.schedule.Life.{Life}
use Rattle.fwd_replay.specs.Runs.{IsReplayed, first}
use Rattle.fwd_replay.specs.declared.report.Ending.TheVariants as ends
use Rattle.fwd_replay.specs.declared.report.Shown.{Shown}
use Rattle.fwd_replay.proofs.RunChain.{on_err, same_text, wants_first}
use Rattle.fwd_replay.proofs.Handover.{reported}
use Rattle.fwd_replay.proofs.runs.all_lives.Goals as goal

pub returns-in_err-named-clause-err : goal.returns-in_err-named-clause-err
returns-in_err-named-clause-err g c =
    let lives = c.args.lives.now in
    let wants = wants_first c.args.shown c.args.settings c.args.most lives (λ none.
    let empty : (length c.as_slice.result.now == 0) ≡ true = ap (λ (l : List Life). length l == 0) (c.as_slice.ensures ∙ none) in
    let no : true ≡ false = sym empty ∙ sym c.is_empty.ensures ∙ c.if-is_empty.false in
    cc no)
    in
    on_err c.from_residual.result (same_text c.args.shown c.args.settings c.args.most lives ends.Memory c.requires.empty wants)

pub returns-clause-ok : goal.returns-clause-ok
returns-clause-ok g c =
    subst (λ (n : ℕ). IfOk c.each_life.result (λ ending. IsReplayed c.args.shown c.args.settings n first c.args.lives.now (reported c.each_life.new.text ending))) c.initial_state-between.ensures.left
    (subst (λ (x : Shown). IfOk c.each_life.result (λ ending. IsReplayed x c.args.settings c.initial_state-between.result.left first c.args.lives.now (reported c.each_life.new.text ending))) c.in_ok-named.ensures.shown c.each_life.ensures.ok)

pub returns-clause-err : goal.returns-clause-err
returns-clause-err g c =
    subst (λ (n : ℕ). OnErr c.each_life.result (IsReplayed c.args.shown c.args.settings n first c.args.lives.now (reported c.each_life.new.text ends.Memory))) c.initial_state-between.ensures.left
    (subst (λ (x : Shown). OnErr c.each_life.result (IsReplayed x c.args.settings c.initial_state-between.result.left first c.args.lives.now (reported c.each_life.new.text ends.Memory))) c.in_ok-named.ensures.shown c.each_life.ensures.err)
