use Rattle.std.proofs.Common.{List, codes, refl}
use Rattle.fwd_value.specs.Val.{Val, entries_of}
use Rattle.fwd_json.specs.Text.{more_pairs}
use Rattle.fwd_msgpack.proofs.KeptFront.{keeps_behind}
use Rattle.fwd_out_text.specs.Payload.{date_text, json_line}
use Rattle.fwd_out_text.proofs.Lines.{event_written}
use Rattle.fwd_out_text.proofs.transcode.write_line.Goals as goal

pub returns-in_ok-extend_from_slice-in-Some-2-clause-given :
    goal.returns-in_ok-extend_from_slice-in-Some-2-clause-given
returns-in_ok-extend_from_slice-in-Some-2-clause-given c =
    let head = c.in-Some in
    let found = rw c.in-Some-2.is at c.in_ok-rest.ensures.given in
    event_written head.sec head.nsec head.count c.args.bytes.now head.pairs.now c.in-Some-2.rest.now (λ (ps : List (Val × Val)). more_pairs c.args.floats (entries_of ps)) (date_text head.sec head.nsec) (codes "}\n") c.args.out.now
    c.write_date.new.out c.write_more_pairs.new.out c.extend_from_slice.new.self (json_line c.args.floats) (λ ps. refl) head.ensures c.in_ok-write_date.ensures found c.in_ok-extend_from_slice-in-Some-2.ensures.ok

pub returns-in-None-clause-kept : goal.returns-in-None-clause-kept
returns-in-None-clause-kept c =
    keeps_behind c.args.out.now c.write_date.new.out c.write_more_pairs.new.out (date_text c.in-Some.sec c.in-Some.nsec) c.in_ok-write_date.ensures c.in_ok-rest.ensures.kept
