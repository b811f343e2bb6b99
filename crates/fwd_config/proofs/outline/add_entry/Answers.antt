use Rattle.std.proofs.Common.{◌-◌, vec_len, arith}
use Rattle.fwd_config.proofs.Append.{with_entry_at}
use Rattle.fwd_config.proofs.outline.add_entry.Goals as goal

pub returns-in_ok-push : goal.returns-in_ok-push
returns-in_ok-push c =
    rw c.in_ok-push.ensures.ok
    (with_entry_at c.args.sections.now.items c.args.entry c.in-Some.section.now (vec_len c.args.sections.now - 1) (omega (arith, c.args.sections.now.ok.0)) c.in-Some.ensures.value)
