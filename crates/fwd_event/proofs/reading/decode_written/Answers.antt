use Rattle.std.proofs.Common.{◌≡◌, ◌-◌, ◌∷◌, ◌++◌, List, ℕ, length, take, drop, refl, sym, ap, subst, ◌∙◌, arith}
use Rattle.std.proofs.lemmas.List.{length-take, take-append-drop}
use Rattle.fwd_value.specs.Val.{mapping, entries_of}
use Rattle.fwd_msgpack.specs.DecodeAnswers.{EncodesPrefix}
use Rattle.fwd_event.proofs.PartwiseDecoding.{opening, event_encoded}
use Rattle.fwd_event.proofs.reading.decode_written.Goals as goal

pub returns : goal.returns
returns c =
    let bytes = c.args.bytes.now in
    let parts = take (length bytes - 4) (drop 4 bytes) in
    let time = c.split_at.result.0.now in
    let maps = c.split_at.result.1.now in
    let halves = ap (λ (l : List ℕ). l ++ drop 8 parts) c.split_at.ensures.front ∙ take-append-drop 8 parts in
    let both = ap (λ (l : List ℕ). time ++ l) c.split_at.ensures.back ∙ halves in
    let is = opening bytes parts c.in-146.len_at_least (omega arith) (omega arith) (omega arith) (omega arith) refl ∙ ap (λ (l : List ℕ). 146 ∷ 146 ∷ 215 ∷ 0 ∷ l) (sym both) in
    let eight : length time ≡ 8 = omega (arith, ap length c.split_at.ensures.front, length-take 8 parts, c.if-parts-lt8.false) in
    let two = subst (EncodesPrefix (mapping (entries_of c.in_ok-body.body)) c.in_ok-body.body_length) c.split_at-2.ensures.back c.in_ok-body.ensures.0 in
    event_encoded bytes time maps c.in_ok-meta.meta_length c.in_ok-body.body_length c.in_ok-sec.sec c.in_ok-sec.nsec c.in_ok-meta.meta c.in_ok-body.body is eight (sym c.in_ok-sec.ensures)
    c.in_ok-meta.ensures.0 c.in_ok-meta.ensures.1 two c.in_ok-body.ensures.1
