-- The example traces are runs of the model.
use Rattle.std.specs.Prelude.{[], ◌∷◌, Some, None, codes}
use Rattle.fwd_outside.specs.Loop.{Took}
use Rattle.fwd_outside.specs.declared.ends.Ends.{Ends}
use Rattle.fwd_outside.specs.declared.happening.Happening.TheVariants as happening
use Rattle.std.proofs.Common.{refl}
use Rattle.fwd_outside.specs.Program.{Return, Execution}
use Rattle.fwd_model.specs.Trace.{history_after}
use Rattle.std.specs.Prelude.{codes}
use Rattle.fwd_model.specs.ExampleRecovery.{recorded_file, later_trace}
use Rattle.fwd_model.specs.Example.{settings, first_piece, second_piece, stored, reply, input_0, peer, link_2, trace}
use Rattle.fwd_model.specs.KeptOffsets.{tracked}
use Rattle.fwd_model.specs.Run.{Over, lived}
use Rattle.fwd_model.specs.Acceptance.{appends, starts_chunk, accepts, ingests}
use Rattle.fwd_model.specs.CloseActions.{closes_chunk, closes_if_full, closes_all}
use Rattle.fwd_model.specs.InputActions.{hangs_up, pieces, polls_file, polls_input, polls_all}
use Rattle.fwd_model.specs.FlushActions.{retries, stands, notes_calls, starts_with, starts_flush, starts_if_allowed, walk, at_room, at_reply, at_break}
use Rattle.fwd_model.specs.Limits.{paused}
use Rattle.fwd_model.specs.RecoveryActions.{recovers}
use Rattle.fwd_model.specs.Run.{is_over, run, life}
use Rattle.fwd_model.specs.ResolveActions.{drops, records, marks_or_removes}
use Rattle.fwd_model.specs.StepActions.{closes_and_dispatches, ticks, stops, at_input_end, step}
use Rattle.fwd_msgpack.specs.Canonical.{number_bytes, minus_bytes, text_head, bin_head, ext_head, list_head, map_head}
use Rattle.fwd_msgpack.specs.Decoder.{number_at, bytes_at, byte_at, count_at, counted_at, many_at, entries_at, after, value_by, inner}
use Rattle.fwd_msgpack.specs.Encodings.{number, size}
use Rattle.fwd_msgpack.specs.Table.{form_of}
use Rattle.fwd_event.specs.EventPrefix.{next_in, event_split, events_in}
use Rattle.fwd_json.specs.Text.{escaped}
use Rattle.fwd_chunk.specs.Metadata.{outputs_in, parse_named}
use Rattle.fwd_chunk.specs.FormatFunction.{stands as stands_stands}
use Rattle.fwd_chunk.specs.Name.{digits as digits_name}
use Rattle.fwd_table.specs.Routes.{routes_below}
use Rattle.fwd_retry.specs.Wait.{wait}
use Rattle.fwd_flush.specs.FlushProgram.{confirms_payload, writes, starts, polls, backs, breaks}
use Rattle.fwd_parser.specs.LineEvent.{body_of, clock_moment, moment_in, field_moment, without, timed_event, parsed}
use Rattle.std.specs.Fmt.{digits}
use Rattle.std.specs.Str.{chars, is_utf8}
use Rattle.std.specs.Char.{encode_utf8}
use Rattle.base64.specs.Rfc4648.{encode_symbols}

pub is_lived : (ends : Ends) → Execution (life settings ends None 7) (trace ends) (Return (lived (history_after (trace ends) []) Over))
unfolding appends starts_chunk accepts ingests closes_chunk closes_if_full closes_all hangs_up pieces polls_file polls_input polls_all retries stands notes_calls starts_with starts_flush starts_if_allowed walk at_room at_reply at_break paused recovers is_over run life drops records marks_or_removes closes_and_dispatches ticks stops at_input_end step number_bytes minus_bytes text_head bin_head ext_head list_head map_head number_at bytes_at byte_at count_at counted_at many_at entries_at after value_by inner number size form_of next_in event_split events_in escaped outputs_in parse_named stands_stands digits_name routes_below wait confirms_payload writes starts polls backs breaks body_of clock_moment moment_in field_moment without timed_event parsed is_utf8 chars encode_utf8 digits encode_symbols tracked
is_lived ends = (Some [], refl, (Some tt, refl, (happening.Joined input_0 peer, refl, (tt, refl, (happening.Piece input_0 peer first_piece, refl, (tt, refl, (happening.Piece input_0 peer second_piece, refl, (tt, refl, (tt, refl, (Some tt, refl, (tt, refl, (Some tt, refl, (happening.Tick 1000, refl, (tt, refl, (Some 4, refl, (Some (codes "aa\nb"), refl, (tt, refl, (tt, refl, (tt, refl, (tt, refl, (tt, refl, (Some stored, refl, (tt, refl, (Some 1, refl, (Took 28, refl, (tt, refl, (tt, refl, (tt, refl, (tt, refl, (Some tt, refl, (Some tt, refl, (tt, refl, (Some stored, refl, (tt, refl, (Some 2, refl, (Took 58, refl, (tt, refl, (tt, refl, (tt, refl, (Some 3, refl, (Took 32, refl, (tt, refl, (tt, refl, (tt, refl, (tt, refl, (happening.Back link_2 reply, refl, (tt, refl, (tt, refl, (tt, refl, (tt, refl, (Some tt, refl, (tt, refl, (happening.Stop, refl, (tt, refl, refl))))))))))))))))))))))))))))))))))))))))))))))))))))))

pub is_lived_later : (ends : Ends) → Execution (life settings ends None 5) (later_trace ends) (Return (lived (history_after (later_trace ends) []) Over))
unfolding appends starts_chunk accepts ingests closes_chunk closes_if_full closes_all hangs_up pieces polls_file polls_input polls_all retries stands notes_calls starts_with starts_flush starts_if_allowed walk at_room at_reply at_break paused recovers is_over run life drops records marks_or_removes closes_and_dispatches ticks stops at_input_end step number_bytes minus_bytes text_head bin_head ext_head list_head map_head number_at bytes_at byte_at count_at counted_at many_at entries_at after value_by inner number size form_of next_in event_split events_in escaped outputs_in parse_named stands_stands digits_name routes_below wait confirms_payload writes starts polls backs breaks body_of clock_moment moment_in field_moment without timed_event parsed is_utf8 chars encode_utf8 digits encode_symbols tracked
is_lived_later ends = (Some (codes "forward.0" ∷ []), refl, (Some (codes "00000000000000000001.flb" ∷ []), refl, (Some tt, refl, (Some recorded_file, refl, (tt, refl, (Some tt, refl, (happening.Tick 1500, refl, (tt, refl, (Some 4, refl, (Some (codes "aa\nb"), refl, (tt, refl, (tt, refl, (tt, refl, (tt, refl, (Some stored, refl, (tt, refl, (None, refl, (tt, refl, (0, refl, (tt, refl, (tt, refl, (Some 1, refl, (Took 32, refl, (tt, refl, (tt, refl, (tt, refl, (tt, refl, (happening.Tick 6500, refl, (tt, refl, (Some 4, refl, (Some [], refl, (tt, refl, (Some stored, refl, (tt, refl, (Some 2, refl, (Took 58, refl, (tt, refl, (tt, refl, (happening.Back link_2 reply, refl, (tt, refl, (tt, refl, (tt, refl, (tt, refl, (Some tt, refl, (tt, refl, (happening.Stop, refl, (tt, refl, refl)))))))))))))))))))))))))))))))))))))))))))))))
