use Rattle.std.proofs.Common.{List, ℕ, ◌∷◌, ◌++◌, append_assoc, sym, ap, ◌∙◌, arith}
use Rattle.std.specs.Int.{w32, to_be_bytes}
use Rattle.fwd_value.specs.Val.{mapping, entries_of}
use Rattle.fwd_msgpack.specs.Canonical.{canonical}
use Rattle.fwd_msgpack.proofs.EncodeLoops.{on_ok}
use Rattle.fwd_event.proofs.EventEncodings.{event_bytes, written_is}
use Rattle.fwd_event.proofs.writing.write_parts.Goals as goal

pub returns-clause-ok : goal.returns-clause-ok
returns-clause-ok c = on_ok c.encode_map-2.result _ _ (λ said.
    let meta = canonical (mapping (entries_of c.args.event.now.meta)) in
    let body = canonical (mapping (entries_of c.args.event.now.body)) in
    let all = said ∙ ap (λ (o : List ℕ). o ++ body) (c.in_ok-encode_map.ensures.ok ∙ ap (λ (o : List ℕ). o ++ meta) c.in_ok-put_time.ensures.ok) in
    let time = 146 ∷ 146 ∷ 215 ∷ 0 ∷ (to_be_bytes w32 c.args.event.now.sec ++ to_be_bytes w32 c.args.event.now.nsec) in
    all ∙ append_assoc (c.args.out.now ++ time) meta body ∙ append_assoc c.args.out.now time (meta ++ body) ∙ ap (λ (o : List ℕ). c.args.out.now ++ o) (sym (event_bytes c.args.event.now))) c.encode_map-2.ensures.ok

pub returns-clause-are : goal.returns-clause-are
returns-clause-are c = on_ok c.encode_map-2.result _ _ (λ body. written_is c.args.event.now (omega arith) (omega arith) c.requires c.in_ok-encode_map.ensures.in_range body) c.encode_map-2.ensures.in_range
