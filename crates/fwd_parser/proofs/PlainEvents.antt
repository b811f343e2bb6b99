-- The encoding of the event of a line that is kept whole.
use Rattle.std.proofs.Common.{◌≡◌, ◌<◌, ◌^◌, ℕ, List, [], ◌++◌, length, codes, None, refl, append_assoc, arith}
use Rattle.std.proofs.lemmas.List.{append-nil}
use Rattle.fwd_value.specs.Val.{text, entries_of}
use Rattle.fwd_value.specs.Limits.{entry_nestings, EntryLengthsFit}
use Rattle.fwd_msgpack.specs.Canonical.{canonical, list_head, map_head, text_head, ext_head}
use Rattle.fwd_msgpack.proofs.EncodeLoops.{how_many_entries_is}
use Rattle.fwd_event.specs.declared.event.Event.{Event}
use Rattle.fwd_event.specs.Event.{event_val, EventFits}
use Rattle.fwd_parser.specs.LineEvent.{Moment, at, body_of, clock_moment, parsed, plain, timed_event}
use Rattle.fwd_parser.specs.declared.parser.Parser.{Parser}
use Rattle.fwd_parser.specs.declared.parser.Shape.TheVariants as shape
use Rattle.fwd_parser.specs.EventHead.{event_head}

-- the bytes of an event of one text under `log`, without metadata
pub plain_bytes : (moment : Moment) (line : List ℕ) → canonical (event_val (at moment (plain line))) ≡ event_head moment 1 ++ (canonical (text (codes "log")) ++ canonical (text line))
unfolding list_head map_head text_head ext_head
plain_bytes moment line = simp (append_assoc, append-nil)

pub plain_fits : (moment : Moment) (line : List ℕ) → length line < 2 ^ 32 → EventFits (at moment (plain line))
plain_fits moment line short = record {
  meta_nested = omega arith;
  body_nested = omega arith;
  meta_lengths = (omega arith, tt);
  body_lengths = (omega arith, (omega arith, short, tt));
}

pub short_if_fits : (moment : Moment) (line : List ℕ) → EventFits (at moment (plain line)) → length line < 2 ^ 32
short_if_fits moment line fits = fits.body_lengths.1.1

-- a parser that keeps lines whole
pub parsed_plain : (parser : Parser) (line : List ℕ) (clock : ℕ) → parser.shape ≡ shape.Plain → parser.time ≡ None → parsed parser line clock ≡ at (clock_moment clock) (plain line)
unfolding parsed timed_event body_of
parsed_plain parser line clock kept timeless = rw (kept, timeless) refl

-- an event without metadata and without lists and maps in its record
pub flat_fits : (e : Event) → e.meta ≡ [] → length e.body < 2 ^ 32 → (entry_nestings (entries_of e.body) ≡ 0) × EntryLengthsFit (entries_of e.body) → EventFits e
flat_fits e none few flat = record {
  meta_nested = rw none (omega arith);
  body_nested = omega (arith, flat.0);
  meta_lengths = rw none (omega arith, tt);
  body_lengths = (omega (arith, few, how_many_entries_is e.body), flat.1);
}
