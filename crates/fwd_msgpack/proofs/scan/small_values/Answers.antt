use Rattle.std.proofs.Common.{◌≡◌, ◌<◌, ◌+◌, ℕ, suc, true, List, ◌++◌, length, drop, get_or, sym, ap, ◌∙◌, arith}
use Rattle.std.proofs.lemmas.List.{drop_more}
use Rattle.fwd_msgpack.specs.Table.{form_of}
use Rattle.fwd_msgpack.specs.ScanState.{skip_values}
use Rattle.fwd_msgpack.specs.SmallValues.{is_small}
use Rattle.fwd_msgpack.proofs.SmallValues.{small_skipped}
use Rattle.fwd_msgpack.proofs.scan.small_values.Goals as goal

pub loop-n-preserved : goal.loop-n-preserved
loop-n-preserved c =
    let bytes = c.args.bytes.now in
    let n = c.loop-n.n in
    let byte = get_or bytes n 0 in
    let small : is_small (form_of byte) ≡ true = ap is_small (sym c.form_of.ensures) ∙ sym c.is_small.ensures ∙ c.if-not-is_small.false in
    let inside : n < length bytes = omega (arith, c.loop-n-test.true, c.requires) in
    record {
      within = omega (arith, c.loop-n-test.true);
      same = λ d k more.
          let e : n + 1 + k ≡ n + suc k = omega arith in
          ap (λ (i : ℕ). skip_values d i (bytes ++ more)) e
          ∙ c.loop-n.invariant.same d (suc k) more
          ∙ ap (λ (x : List ℕ). skip_values d (suc k) (x ++ more)) (drop_more bytes n 0 inside)
          ∙ small_skipped d k byte (drop (n + 1) bytes ++ more) small;
    }
