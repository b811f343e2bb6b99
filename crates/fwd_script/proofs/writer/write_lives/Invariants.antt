use Rattle.std.proofs.Common.{◌≡◌, ◌++◌, take}
use Rattle.std.specs.List.{flat_map}
use Rattle.fwd_script.specs.Text.{ended_lines, life_lines}
use Rattle.fwd_script.proofs.writer.write_lives.Given as goal

abbrev pub invariant-loop-life : goal.invariant-loop-life
invariant-loop-life l = l.text ≡ l.fn.text ++ flat_map (λ life. ended_lines (life_lines life)) (take l.life-index l.lives)
