use Rattle.std.proofs.Common.{◌≡◌, ◌++◌}
use Rattle.fwd_settings.proofs.sections.PartialSettings.with_service.Given as goal

abbrev pub invariant-loop-item : goal.invariant-loop-item
invariant-loop-item l = l.partial ≡ record l.fn.self { service = l.fn.self.service ++ l.yielded }
