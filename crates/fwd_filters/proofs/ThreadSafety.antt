-- Threads may share a filter and send it, since they may do so with the rules of each kind.
use denote.Param.Send.{IsSend, IsSync, sendable}
use denote.Param.SendFields.{declared_send, declared_sync}
use Rattle.std.proofs.Crossing as std
use Rattle.fwd_base.proofs.bytes.Bytes.TheSendSync as bytes
use Rattle.fwd_base.proofs.items.Items.TheSendSync as items
use Rattle.fwd_grep.proofs.ThreadSafety as grep
use Rattle.fwd_reshape.proofs.rules.ModifyRules.TheSendSync as modify
use Rattle.fwd_reshape.proofs.rules.NestRule.TheSendSync as nest
use Rattle.fwd_reshape.proofs.rules.LiftRule.TheSendSync as lift
use Rattle.fwd_filters.specs.contracts.filter_step.FilterKind as kind
use Rattle.fwd_filters.specs.contracts.filter_step.FilterStep as step

kind_send : IsSend kind.the_row
kind_send = search (sendable, std.crosses, items.the_send, grep.crosses, modify.the_send, nest.the_send, lift.the_send) depth 40 fits 5000

kind_sync : IsSync kind.the_row
kind_sync = search (sendable, std.crosses, items.the_sync, grep.crosses, modify.the_sync, nest.the_sync, lift.the_sync) depth 40 fits 5000

pub step_send : IsSend step.the_row
step_send = declared_send step.the_type (bytes.the_send, (kind_send, tt))

pub step_sync : IsSync step.the_row
step_sync = declared_sync step.the_type (bytes.the_sync, (kind_sync, tt))

pub ruleset crosses = (step_send, step_sync)
