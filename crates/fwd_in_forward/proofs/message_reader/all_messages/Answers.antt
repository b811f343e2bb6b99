use Rattle.std.proofs.Common.{ap, arith, length, map, subst, sym}
use Rattle.fwd_wire.specs.Fits.{ContentFits}
use Rattle.fwd_wire.specs.Stream.{waiting, broken}
use Rattle.fwd_in_forward.specs.NextMessage.{NextIs, NextMeets}
use Rattle.fwd_in_forward.proofs.StreamGrowth.{message_within, some_byte, read_on, read_all, all_fit_push, all_push}
use Rattle.fwd_in_forward.proofs.message_reader.all_messages.Goals as goal

pub split_at-requires : goal.split_at-requires
split_at-requires g c =
    let content = g.M.ReadMessage.content in
    message_within c.reading.rest.now (content c.in-Message.message) c.in-Message.length (subst (NextIs content c.reading.rest.now) c.in-Message.is c.in_ok-message.ensures.is)

pub reading-preserved : goal.reading-preserved
reading-preserved g c =
    let content = g.M.ReadMessage.content in
    let next = subst (NextIs content c.reading.rest.now) c.in-Message.is c.in_ok-message.ensures.is in
    let fits = subst (NextMeets (λ m. ContentFits (content m))) c.in-Message.is c.in_ok-message.ensures.fits in
    let sound = subst (NextMeets g.M.ReadMessage.IsSound) c.in-Message.is c.in_ok-message.ensures.sound in
    record {
      reads = read_on content c.args.bytes.now c.reading.rest.now c.split_at.result.1.now c.in-Message.length c.in-Message.message c.reading.messages c.push.new.self c.in_ok-push-in-Message.ensures.ok c.split_at.ensures.back c.reading.invariant.reads next;
      fits = all_fit_push content c.in-Message.message c.reading.messages c.push.new.self c.in_ok-push-in-Message.ensures.ok c.reading.invariant.fits fits;
      sound = all_push g.M.ReadMessage.IsSound c.in-Message.message c.reading.messages c.push.new.self c.in_ok-push-in-Message.ensures.ok c.reading.invariant.sound sound;
    }

pub reading-smaller : goal.reading-smaller
reading-smaller g c =
    let content = g.M.ReadMessage.content in
    let next = subst (NextIs content c.reading.rest.now) c.in-Message.is c.in_ok-message.ensures.is in
    let some = some_byte c.reading.rest.now (content c.in-Message.message) c.in-Message.length next in
    omega (arith, some, c.split_at.ensures.back_len)

pub returns-in-Short-clause-streams : goal.returns-in-Short-clause-streams
returns-in-Short-clause-streams g c =
    let next = subst (NextIs g.M.ReadMessage.content c.reading.rest.now) c.in-Short.is c.in_ok-message.ensures.is in
    let all = read_all c.args.bytes.now c.reading.rest.now (map g.M.ReadMessage.content c.reading.messages) (waiting c.in_ok-from_slice-in-Short.field-0) c.reading.invariant.reads (sym c.in_ok-from_slice-in-Short.ensures, next) in
    rw c.messages.view_is all

pub returns-in-Broken-clause-streams : goal.returns-in-Broken-clause-streams
returns-in-Broken-clause-streams g c =
    let next = subst (NextIs g.M.ReadMessage.content c.reading.rest.now) c.in-Broken.is c.in_ok-message.ensures.is in
    read_all c.args.bytes.now c.reading.rest.now (map g.M.ReadMessage.content c.reading.messages) (broken c.in-Broken.fault) c.reading.invariant.reads next

pub returns-in-Short-clause-short : goal.returns-in-Short-clause-short
returns-in-Short-clause-short g c =
    let next = subst (NextIs g.M.ReadMessage.content c.reading.rest.now) c.in-Short.is c.in_ok-message.ensures.is in
    omega (arith, next.0, ap length c.in_ok-from_slice-in-Short.ensures)
