-- Threads may share a rule and send it, since they may do so with each of its fields.
use denote.Param.Send.{IsSend, IsSync, sendable}
use denote.Param.SendFields.{declared_send, declared_sync}
use Rattle.fwd_base.proofs.SendSync.{pattern_send, pattern_sync}
use Rattle.fwd_base.proofs.bytes.Bytes.TheSendSync as bytes
use Rattle.fwd_grep.specs.contracts.rules.GrepRule as rule

pub rule_send : IsSend rule.the_row
rule_send = declared_send rule.the_type (search sendable depth 40, (bytes.the_send, (pattern_send, (search sendable depth 40, tt))))

pub rule_sync : IsSync rule.the_row
rule_sync = declared_sync rule.the_type (search sendable depth 40, (bytes.the_sync, (pattern_sync, (search sendable depth 40, tt))))

pub ruleset crosses = (rule_send, rule_sync)
