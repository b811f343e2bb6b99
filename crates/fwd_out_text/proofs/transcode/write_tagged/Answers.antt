use Rattle.std.proofs.Common.{List, codes, refl}
use Rattle.fwd_value.specs.Val.{Val, mapping, entries_of}
use Rattle.fwd_json.specs.Text.{json}
use Rattle.fwd_msgpack.proofs.KeptFront.{keeps_behind}
use Rattle.fwd_out_text.specs.Payload.{tag_text, tagged_line}
use Rattle.fwd_out_text.proofs.Lines.{event_written}
use Rattle.fwd_out_text.proofs.transcode.write_tagged.Goals as goal

pub returns-in_ok-extend_from_slice-in-Some-2-clause-given :
    goal.returns-in_ok-extend_from_slice-in-Some-2-clause-given
returns-in_ok-extend_from_slice-in-Some-2-clause-given c =
    let head = c.in-Some in
    let tag = c.args.tag.now in
    let found = rw c.in-Some-2.is at c.in_ok-rest.ensures.given in
    event_written head.sec head.nsec head.count c.args.bytes.now head.pairs.now c.in-Some-2.rest.now (λ (ps : List (Val × Val)). json c.args.floats (mapping (entries_of ps))) (tag_text tag head.sec head.nsec) (codes "]\n") c.args.out.now
    c.write_tag.new.out c.write_map.new.out c.extend_from_slice.new.self (tagged_line c.args.floats tag) (λ ps. refl) head.ensures c.in_ok-write_tag.ensures found c.in_ok-extend_from_slice-in-Some-2.ensures.ok

pub returns-in-None-clause-kept : goal.returns-in-None-clause-kept
returns-in-None-clause-kept c =
    keeps_behind c.args.out.now c.write_tag.new.out c.write_map.new.out (tag_text c.args.tag.now c.in-Some.sec c.in-Some.nsec) c.in_ok-write_tag.ensures c.in_ok-rest.ensures.kept
