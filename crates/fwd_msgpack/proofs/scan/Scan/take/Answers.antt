use Rattle.std.proofs.Common.{◌≡◌, ◌<◌, ◌-◌, ℕ, List, ◌++◌, min, length, drop, sym, ap, ◌∙◌, arith}
use Rattle.std.proofs.lemmas.List.{length-drop}
use Rattle.fwd_msgpack.specs.declared.part.Part.{Part}
use Rattle.fwd_msgpack.specs.ScanState.{behind, from_part}
use Rattle.fwd_msgpack.proofs.Skipping.{behind_more}
use Rattle.fwd_msgpack.proofs.scan.Scan.take.Goals as goal

pub returns-in-Skip : goal.returns-in-Skip
returns-in-Skip c =
    let ns = c.args.self.now.levels in
    let bytes = c.args.bytes.now in
    let left = c.in-Skip.left in
    let k = c.lesser_length-passed.result in
    let k-is : k ≡ min left (length bytes) = c.lesser_length-passed.ensures in
    let some : 0 < left = rw c.in-Skip.is at c.requires.wanting in
    let back : c.split_at.result.1.now ≡ drop k bytes = c.split_at.ensures.back in
    record {
      stays = c.skip.ensures.stays;
      shorter = omega (arith, k-is, some, c.requires.some, ap length back, length-drop k bytes);
      seen = c.skip.ensures.seen;
      same = λ more.
          c.skip.ensures.same (c.split_at.result.1.now ++ more)
          ∙ ap (λ (x : List ℕ). behind (left - k) ns (x ++ more)) back
          ∙ behind_more left k ns bytes more (omega (arith, k-is)) (omega (arith, k-is))
          ∙ ap (λ (p : Part). from_part p ns (bytes ++ more)) (sym c.in-Skip.is);
    }
