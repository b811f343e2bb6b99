use Rattle.std.proofs.Common.{◌∙◌, ◌++◌, ℕ, List, ap, arith, sym, take}
use Rattle.std.proofs.lemmas.List.{take_min}
use Rattle.fwd_base.specs.Limits.{longest_message}
use Rattle.fwd_msgpack.proofs.Ranges.{all_bytes}
use Rattle.fwd_event.specs.EventPrefix.{encodings}
use Rattle.fwd_wire.proofs.Encodable.{said_fits}
use Rattle.fwd_in_forward.specs.declared.encoded_message.EncodedMessage.{EncodedMessage}
use Rattle.fwd_in_forward.specs.EncodedMessage.{encoded_content}
use Rattle.fwd_in_forward.proofs.EncodedParts.{said}
use Rattle.fwd_in_forward.proofs.encoded_message.read_encoded.Goals as goal

pub returns-clause-holds : goal.returns-clause-holds
returns-clause-holds c =
    let read = rw c.in-Some-2.is at c.in_ok-copied.ensures in
    record {
      events = read.events;
      writable = read.writable;
      encoded = read.written ∙ ap (λ (x : List ℕ). x ++ encodings read.events) c.new-events.ensures;
      count = sym read.many;
    }

pub returns-clause-is : goal.returns-clause-is
returns-clause-is c =
    let b = c.args.bytes.now in
    let read = rw c.in-Some-2.is at c.in_ok-copied.ensures in
    let asked = rw c.in-Some-3.is at c.in_ok-ending.ensures in
    let m : EncodedMessage = record { tag = c.in_ok-from_slice.field-0; count = c.in-Some-2.copied.count; events = c.copy_events.new.out; chunk = c.in-Some-3.ending.chunk } in
    said b c.split_at.result.0.now c.in-Some.tag.now c.in-Some-2.copied.rest.now c.in-Some.rest.now c.in-Some.members c.in-Some-2.copied.members c.in-Some-3.ending.length read.events asked.0 m
    (c.split_at.ensures.front ∙ ap (λ (n : ℕ). take n b) c.min.ensures ∙ take_min longest_message b)
    c.in-Some.ensures read.carried asked.1 asked.2 read.writable c.in_ok-from_slice.ensures
    (read.written ∙ ap (λ (x : List ℕ). x ++ encodings read.events) c.new-events.ensures)

pub returns-clause-fits : goal.returns-clause-fits
returns-clause-fits c =
    let b = c.args.bytes.now in
    let m : EncodedMessage = record { tag = c.in_ok-from_slice.field-0; count = c.in-Some-2.copied.count; events = c.copy_events.new.out; chunk = c.in-Some-3.ending.chunk } in
    said_fits b (encoded_content m) _ (all_bytes b (λ i. omega (arith, c.type_inv.bytes i))) (returns-clause-is c)
