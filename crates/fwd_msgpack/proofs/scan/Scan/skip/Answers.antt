use Rattle.std.proofs.Common.{ℕ, sym, ap, ◌∙◌}
use Rattle.fwd_msgpack.specs.ScanState.{behind}
use Rattle.fwd_msgpack.proofs.Skipping.{behind_none}
use Rattle.fwd_msgpack.proofs.scan.Scan.skip.Goals as goal

pub returns-then-n-eq0-clause-same : goal.returns-then-n-eq0-clause-same
returns-then-n-eq0-clause-same c = λ b. c.end.ensures.same b ∙ sym (behind_none c.args.self.now.levels b) ∙ ap (λ (i : ℕ). behind i c.args.self.now.levels b) (sym c.if-n-eq0.true)
