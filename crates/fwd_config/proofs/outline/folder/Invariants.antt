use Rattle.std.proofs.Common.{◌≡◌, ◌+◌, ◌-◌, ◌≤◌, not, eqb, length, take}
use Rattle.std.specs.List.{suffix_len}
use Rattle.fwd_config.proofs.outline.folder.Given as goal

-- the bytes after `end` aren't slashes
abbrev pub invariant-loop-end : goal.invariant-loop-end
invariant-loop-end l =
    (l.end ≤ length l.path) × (suffix_len (λ byte. not (eqb byte 47)) (take l.end l.path) + (length l.path - l.end) ≡ suffix_len (λ byte. not (eqb byte 47)) l.path)

abbrev pub decreases-loop-end : goal.decreases-loop-end
decreases-loop-end l = l.end
