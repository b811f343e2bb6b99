use Rattle.std.proofs.Common.{◌-◌, length, take, drop, get_or, refl, arith}
use Rattle.fwd_msgpack.proofs.Heads.{first_is, one_said, short_text, text_of_one}
use Rattle.fwd_out_text.proofs.header.short_text_head.Goals as goal

pub returns-then-first-le191 : goal.returns-then-first-le191
returns-then-first-le191 c =
    let bytes = c.args.bytes.now in
    let first = get_or bytes 0 0 in
    short_text bytes _ first (first_is bytes _ first (omega arith) refl refl) (omega arith) (omega arith)

pub returns : goal.returns
returns c =
    let bytes = c.args.bytes.now in
    let rest = take (length bytes - 1) (drop 1 bytes) in
    text_of_one _ bytes _ rest (first_is bytes rest 217 (omega arith) (omega arith) refl) (one_said rest _ (get_or rest 0 0) (omega arith) refl refl)
