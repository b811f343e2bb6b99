use Rattle.std.proofs.Common.{◌≡◌, ◌++◌, ℕ, List, codes, decimal, refl, sym, ap, ◌∙◌, append_assoc, rules, arith}
use Rattle.fwd_msgpack.proofs.EncodeLoops.{on_ok}
use Rattle.std.proofs.lemmas.Fmt.{decimal_digit}
use Rattle.fwd_out_text.specs.Payload.{nanoseconds, time_text}
use Rattle.fwd_out_text.proofs.record_text.write_moment.Goals as goal

pub returns-then-nsec-eq0 : goal.returns-then-nsec-eq0
returns-then-nsec-eq0 c =
    let old = c.args.out.now in
    let seconds = decimal c.args.sec in
    let zeros = codes ".000000000" in
    let first : c.extend_from_slice.new.self ≡ old ++ seconds = search rules in
    let whole : zeros ≡ codes "." ++ nanoseconds 0 = rw (decimal_digit 0 (omega arith)) refl in
    on_ok c.extend_from_slice-then-nsec-eq0.result _ _ (λ said.
    said ∙ ap (λ (o : List ℕ). o ++ zeros) first ∙ append_assoc old seconds zeros ∙ ap (λ (o : List ℕ). old ++ (seconds ++ o)) whole ∙ ap (λ (o : List ℕ). old ++ o) (sym (append_assoc seconds (codes ".") (nanoseconds 0))) ∙ ap (λ (n : ℕ). old ++ time_text c.args.sec n) (sym c.if-nsec-eq0.true)) c.extend_from_slice-then-nsec-eq0.ensures.ok
