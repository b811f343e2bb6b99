use Rattle.std.proofs.Common.{◌≡◌, ◌+◌, ◌-◌, ◌≤◌, length, take}
use Rattle.std.specs.List.{suffix_len}
use Rattle.fwd_base.specs.Blanks.{is_blank}
use Rattle.fwd_config.proofs.line.without_end_blanks.Given as goal

-- the bytes after `end` are blanks
abbrev pub invariant-loop-end : goal.invariant-loop-end
invariant-loop-end l = (l.end ≤ length l.text) × (suffix_len is_blank (take l.end l.text) + (length l.text - l.end) ≡ suffix_len is_blank l.text)

abbrev pub decreases-loop-end : goal.decreases-loop-end
decreases-loop-end l = l.end
