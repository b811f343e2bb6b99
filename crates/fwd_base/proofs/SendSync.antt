-- A pattern is Send and Sync: so is each type that it is built of, from the tree of its expression up. These
-- types hold no cell and no reference count. The tree is recursive, so the toolchain derives no proof. This
-- is why `fwd_base` names `regex_hir`, `regex_dfa` and `regex_meta`.
use denote.Param.Send.{IsSend, IsSync, sendable}
use denote.Param.SendFields.{declared_send, declared_sync}
use Rattle.std.proofs.Crossing as std
use Rattle.regex_hir.specs.contracts.hir.Hir as tree
use Rattle.regex_hir.proofs.hir.Hir.TheLaws.TheKnot as knot
use Rattle.regex_dfa.proofs.dfa.Dfa.TheSendSync as dfa
use Rattle.regex_meta.specs.contracts.plan.Plan as plan
use Rattle.regex_meta.specs.contracts.plan.Plans as plans
use Rattle.regex_meta.specs.contracts.signs.Signs as signs
use Rattle.regex_meta.specs.contracts.program.Program as program
use Rattle.regex.specs.contracts.pattern.Pattern as compiled
use Rattle.regex.specs.contracts.bytes.regex.Regex as regex
use Rattle.fwd_base.specs.contracts.pattern.Pattern as pattern

tree_send : IsSend tree.the_row
tree_send = search (sendable, std.crosses, knot.crosses) depth 40 fits 5000

tree_sync : IsSync tree.the_row
tree_sync = search (sendable, std.crosses, knot.crosses) depth 40 fits 5000

plan_send : IsSend plan.the_row
plan_send = search (sendable, std.crosses, tree_send) depth 40 fits 5000

plan_sync : IsSync plan.the_row
plan_sync = search (sendable, std.crosses, tree_sync) depth 40 fits 5000

plans_send : IsSend plans.the_row
plans_send = search (sendable, std.crosses, plan_send) depth 40

plans_sync : IsSync plans.the_row
plans_sync = search (sendable, std.crosses, plan_sync) depth 40

signs_send : IsSend signs.the_row
signs_send = search (sendable, std.crosses, tree_send) depth 40 fits 5000

signs_sync : IsSync signs.the_row
signs_sync = search (sendable, std.crosses, tree_sync) depth 40 fits 5000

-- field by field, since one `search` through all of them runs out of steps
program_send : IsSend program.the_row
program_send = declared_send program.the_type (
  tree_send,
  (
    dfa.the_send,
    (
      plans_send,
      (search (sendable, std.crosses, signs_send) depth 40, (search (sendable, std.crosses) depth 40, (search sendable depth 40, (search sendable depth 40, (search sendable depth 40, tt))))),
    ),
  ),
)

program_sync : IsSync program.the_row
program_sync = declared_sync program.the_type (
  tree_sync,
  (
    dfa.the_sync,
    (
      plans_sync,
      (search (sendable, std.crosses, signs_sync) depth 40, (search (sendable, std.crosses) depth 40, (search sendable depth 40, (search sendable depth 40, (search sendable depth 40, tt))))),
    ),
  ),
)

compiled_send : IsSend compiled.the_row
compiled_send = declared_send compiled.the_type (search (sendable, std.crosses) depth 40, (search sendable depth 40, (search (sendable, std.crosses) depth 40, (program_send, tt))))

compiled_sync : IsSync compiled.the_row
compiled_sync = declared_sync compiled.the_type (search (sendable, std.crosses) depth 40, (search sendable depth 40, (search (sendable, std.crosses) depth 40, (program_sync, tt))))

regex_send : IsSend regex.the_row
regex_send = declared_send regex.the_type (compiled_send, tt)

regex_sync : IsSync regex.the_row
regex_sync = declared_sync regex.the_type (compiled_sync, tt)

pub pattern_send : IsSend pattern.the_row
pattern_send = declared_send pattern.the_type (regex_send, tt)

pub pattern_sync : IsSync pattern.the_row
pattern_sync = declared_sync pattern.the_type (regex_sync, tt)

pub ruleset crosses = (pattern_send, pattern_sync)
