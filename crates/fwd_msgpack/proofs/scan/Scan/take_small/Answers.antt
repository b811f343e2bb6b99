use Rattle.std.proofs.Common.{◌≡◌, ◌<◌, ◌-◌, ℕ, List, ◌++◌, length, drop, refl, sym, ap, subst, ◌∙◌, arith}
use Rattle.std.proofs.lemmas.List.{length-drop}
use Rattle.fwd_msgpack.specs.declared.part.Part.{Part}
use Rattle.fwd_msgpack.specs.Levels.{MissesOne}
use Rattle.fwd_msgpack.specs.ScanState.{skip_levels, from_part, IsWanting}
use Rattle.fwd_msgpack.specs.SmallValues.{innermost, fewer}
use Rattle.fwd_msgpack.proofs.LevelCounts.{misses_some, fewer_missed}
use Rattle.fwd_msgpack.proofs.SmallValues.{small_passed}
use Rattle.fwd_msgpack.proofs.scan.Scan.take_small.Goals as goal

pub overflow_sub-missing : goal.overflow_sub-missing
overflow_sub-missing c =
    let ns = c.args.self.now.levels in
    let wants : MissesOne ns = rw c.in-First.is at c.requires.wanting in
    omega (arith, c.missing-missing.ensures, misses_some ns wants)

pub small_values-n-requires : goal.small_values-n-requires
small_values-n-requires c = omega (arith, c.lesser_length.ensures)

pub count_values-requires : goal.count_values-requires
count_values-requires c =
    let ns = c.args.self.now.levels in
    let wants : MissesOne ns = rw c.in-First.is at c.requires.wanting in
    omega (arith, c.missing-missing.ensures, misses_some ns wants, c.lesser_length.ensures, c.small_values-n.ensures.most)

pub returns-in-First : goal.returns-in-First
returns-in-First c =
    let ns = c.args.self.now.levels in
    let less = c.count_values.new.self in
    let bytes = c.args.bytes.now in
    let rest = c.split_at.result.1.now in
    let n = c.small_values-n.result in
    let wants : MissesOne ns = rw c.in-First.is at c.requires.wanting in
    let fits : n < innermost ns = omega (arith, c.missing-missing.ensures, misses_some ns wants, c.lesser_length.ensures, c.small_values-n.ensures.most) in
    let back : rest ≡ drop n bytes = c.split_at.ensures.back in
    let size : length rest ≡ length bytes - n = ap length back ∙ length-drop n bytes in
    record {
      wanting = subst (λ (p : Part). IsWanting p less) (sym c.in-First.is) (subst MissesOne (sym c.count_values.ensures) (fewer_missed ns n fits));
      some = omega (arith, size, c.requires.some, c.lesser_length.ensures, c.small_values-n.ensures.most);
      within = omega (arith, size);
      seen = refl;
      same = λ more.
          let passed : skip_levels less (rest ++ more) ≡ skip_levels ns (bytes ++ more) =
          ap (λ (l : List ℕ). skip_levels l (rest ++ more)) c.count_values.ensures
          ∙ ap (λ (x : List ℕ). skip_levels (fewer n ns) (x ++ more)) back
          ∙ small_passed ns n (bytes ++ more) (drop n bytes ++ more) fits (λ d k. c.small_values-n.ensures.same d k more) in
          subst (λ (p : Part). from_part p less (rest ++ more) ≡ from_part p ns (bytes ++ more)) (sym c.in-First.is) passed;
    }
