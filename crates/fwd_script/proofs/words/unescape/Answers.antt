use Rattle.std.proofs.Common.{◌+◌, drop, refl, sym}
use Rattle.fwd_script.proofs.Escapes.{reads_run, escape_behind, all_read, cut_off, no_escape, reads_escape}
use Rattle.fwd_script.proofs.words.unescape.Goals as goal

pub returns-then-is_empty-clause-ok : goal.returns-then-is_empty-clause-ok
returns-then-is_empty-clause-ok c =
    let so_far =
    reads_run c.args.text.now c.escapes.bytes c.escapes.rest.now c.split_at.result.0.now c.extend_from_slice.new.self c.split_at.result.1.now c.place_of.result c.place_of.ensures.place c.escapes.invariant
    c.split_at.ensures.front c.split_at.ensures.back c.in_ok-extend_from_slice.ensures.ok in
    all_read c.args.text.now c.extend_from_slice.new.self c.split_at.result.1.now so_far c.if-is_empty.ensures

pub returns-in_default-clause-err : goal.returns-in_default-clause-err
returns-in_default-clause-err c = λ no.
    let so_far =
    reads_run c.args.text.now c.escapes.bytes c.escapes.rest.now c.split_at.result.0.now c.extend_from_slice.new.self c.split_at.result.1.now c.place_of.result c.place_of.ensures.place c.escapes.invariant
    c.split_at.ensures.front c.split_at.ensures.back c.in_ok-extend_from_slice.ensures.ok in
    let is = escape_behind c.escapes.rest.now c.split_at.result.1.now c.place_of.result c.place_of.ensures.place c.split_at.ensures.back c.if-is_empty.ensures in
    (refl, cut_off c.args.text.now c.extend_from_slice.new.self c.split_at.result.1.now (drop (c.place_of.result + 1) c.escapes.rest.now) so_far is c.in_default.len_below)

pub returns-in_default-escaped_byte-clause-err : goal.returns-in_default-escaped_byte-clause-err
returns-in_default-escaped_byte-clause-err c = λ no.
    let so_far =
    reads_run c.args.text.now c.escapes.bytes c.escapes.rest.now c.split_at.result.0.now c.extend_from_slice.new.self c.split_at.result.1.now c.place_of.result c.place_of.ensures.place c.escapes.invariant
    c.split_at.ensures.front c.split_at.ensures.back c.in_ok-extend_from_slice.ensures.ok in
    let is = escape_behind c.escapes.rest.now c.split_at.result.1.now c.place_of.result c.place_of.ensures.place c.split_at.ensures.back c.if-is_empty.ensures in
    (refl, no_escape c.args.text.now c.extend_from_slice.new.self c.split_at.result.1.now (drop (c.place_of.result + 1) c.escapes.rest.now) _ so_far is c.in-len2-up.len_at_least refl (sym c.in_default-escaped_byte.ensures))

pub escapes-preserved : goal.escapes-preserved
escapes-preserved c =
    let so_far =
    reads_run c.args.text.now c.escapes.bytes c.escapes.rest.now c.split_at.result.0.now c.extend_from_slice.new.self c.split_at.result.1.now c.place_of.result c.place_of.ensures.place c.escapes.invariant
    c.split_at.ensures.front c.split_at.ensures.back c.in_ok-extend_from_slice.ensures.ok in
    let is = escape_behind c.escapes.rest.now c.split_at.result.1.now c.place_of.result c.place_of.ensures.place c.split_at.ensures.back c.if-is_empty.ensures in
    reads_escape c.args.text.now c.extend_from_slice.new.self c.split_at.result.1.now (drop (c.place_of.result + 1) c.escapes.rest.now) c.push.new.self _ c.in-Some.byte so_far is c.in-len2-up.len_at_least refl
    (sym c.in-Some.ensures) c.in_ok-push.ensures.ok
