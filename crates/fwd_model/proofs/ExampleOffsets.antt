-- The example traces that keep the offset of a followed file are those of their runs.
use Rattle.std.specs.Prelude.{[], Some, None, codes}
use Rattle.std.proofs.Common.{refl}
use Rattle.fwd_outside.specs.Program.{Return, Execution}
use Rattle.fwd_model.specs.Trace.{history_after}
use Rattle.fwd_model.specs.ExampleOffsets.{first_run, first_trace, second_run, second_trace}
use Rattle.fwd_model.specs.KeptOffsets.{tracked}
use Rattle.fwd_model.specs.Acceptance.{appends, starts_chunk, accepts, ingests}
use Rattle.fwd_model.specs.CloseActions.{closes_chunk, closes_if_full, closes_all}
use Rattle.fwd_model.specs.InputActions.{hangs_up, pieces, polls_file, polls_input, polls_all}
use Rattle.fwd_model.specs.FlushActions.{retries, stands, notes_calls, starts_with, starts_flush, starts_if_allowed, walk, at_room, at_reply, at_break}
use Rattle.fwd_model.specs.Limits.{paused}
use Rattle.fwd_model.specs.RecoveryActions.{recovers}
use Rattle.fwd_model.specs.Run.{is_over, run, life}
use Rattle.fwd_model.specs.ResolveActions.{drops, records, marks_or_removes}
use Rattle.fwd_model.specs.StepActions.{closes_and_dispatches, ticks, stops, at_input_end, step}
use Rattle.fwd_msgpack.specs.Canonical.{number_bytes, minus_bytes, text_head, bin_head, ext_head, list_head, map_head}
use Rattle.fwd_msgpack.specs.Decoder.{number_at, bytes_at, byte_at, count_at, counted_at, many_at, entries_at, after, value_by, inner}
use Rattle.fwd_msgpack.specs.Encodings.{number, size}
use Rattle.fwd_msgpack.specs.Table.{form_of}
use Rattle.fwd_event.specs.EventPrefix.{next_in, event_split, events_in}
use Rattle.fwd_json.specs.Text.{escaped}
use Rattle.fwd_chunk.specs.Metadata.{outputs_in, parse_named}
use Rattle.fwd_chunk.specs.FormatFunction.{stands as stands_stands}
use Rattle.fwd_chunk.specs.Name.{digits as digits_name}
use Rattle.fwd_table.specs.Routes.{routes_below}
use Rattle.fwd_retry.specs.Wait.{wait}
use Rattle.fwd_flush.specs.FlushProgram.{confirms_payload, writes, starts, polls, backs, breaks}
use Rattle.fwd_parser.specs.LineEvent.{body_of, clock_moment, moment_in, field_moment, without, timed_event, parsed}
use Rattle.std.specs.Fmt.{digits}
use Rattle.std.specs.Str.{chars, is_utf8}
use Rattle.std.specs.Char.{encode_utf8}
use Rattle.base64.specs.Rfc4648.{encode_symbols}

pub runs_first : Execution first_run first_trace (Return (history_after first_trace []))
unfolding tracked appends starts_chunk accepts ingests closes_chunk closes_if_full closes_all hangs_up pieces polls_file polls_input polls_all retries stands notes_calls starts_with starts_flush starts_if_allowed walk at_room at_reply at_break paused recovers is_over run life drops records marks_or_removes closes_and_dispatches ticks stops at_input_end step number_bytes minus_bytes text_head bin_head ext_head list_head map_head number_at bytes_at byte_at count_at counted_at many_at entries_at after value_by inner number size form_of next_in event_split events_in escaped outputs_in parse_named stands_stands digits_name routes_below wait confirms_payload writes starts polls backs breaks body_of clock_moment moment_in field_moment without timed_event parsed is_utf8 chars encode_utf8 digits encode_symbols
runs_first = (Some None, refl, (tt, refl, (Some 6, refl, (Some (codes "one\ntw"), refl, (tt, refl, (tt, refl, (None, refl, (tt, refl, (Some 6, refl, (Some [], refl, (tt, refl, (Some tt, refl, (tt, refl, refl)))))))))))))

pub runs_second : Execution second_run second_trace (Return (history_after second_trace []))
unfolding tracked appends starts_chunk accepts ingests closes_chunk closes_if_full closes_all hangs_up pieces polls_file polls_input polls_all retries stands notes_calls starts_with starts_flush starts_if_allowed walk at_room at_reply at_break paused recovers is_over run life drops records marks_or_removes closes_and_dispatches ticks stops at_input_end step number_bytes minus_bytes text_head bin_head ext_head list_head map_head number_at bytes_at byte_at count_at counted_at many_at entries_at after value_by inner number size form_of next_in event_split events_in escaped outputs_in parse_named stands_stands digits_name routes_below wait confirms_payload writes starts polls backs breaks body_of clock_moment moment_in field_moment without timed_event parsed is_utf8 chars encode_utf8 digits encode_symbols
runs_second = (Some (Some 4), refl, (tt, refl, (tt, refl, (Some 8, refl, (Some (codes "two\n"), refl, (tt, refl, (tt, refl, (Some tt, refl, (tt, refl, refl)))))))))
