use Rattle.std.proofs.Common.{◌∙◌, ℕ, ap, take}
use Rattle.fwd_in_forward.proofs.ScanResult.{front_in_two}
use Rattle.fwd_in_forward.proofs.conn.piece_of.Goals as goal

pub returns-clause-joins : goal.returns-clause-joins
returns-clause-joins c = front_in_two c.args.rest.now c.split_at.result.0.now c.split_at-2.result.1.now c.args.before c.requires.shorter c.requires.within (c.split_at.ensures.front ∙ ap (λ (n : ℕ). take n c.args.rest.now) c.min.ensures) c.split_at-2.ensures.back
