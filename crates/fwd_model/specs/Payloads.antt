-- What a flush sends: its events in the format of the output.
use Rattle.std.specs.Prelude.{ℕ, Bool, true, false, List, [], Option, Some, None}
use Rattle.std.specs.Option.{option_map_or}
use Rattle.fwd_event.specs.declared.event.Event.{Event}
use Rattle.fwd_out_text.specs.Payload.{payload_of}
use Rattle.fwd_wire.specs.Encode.{forward_payload}
use Rattle.fwd_out_net.specs.Id.{chunk_id}
use Rattle.fwd_out_net.specs.Judgement.{ack_judgement}
use Rattle.fwd_out_http.specs.Request.{http_request}
use Rattle.fwd_out_http.specs.Reply.{http_judgement}
use Rattle.fwd_flush.specs.declared.judgement.Judged.{Judged}
use Rattle.fwd_flush.specs.declared.judgement.Judged.TheVariants.{Right}
use Rattle.fwd_flush.specs.FlushProgram.{Delivery}
use Rattle.fwd_settings.specs.declared.settings_types.AllSettings.{AllSettings}
use Rattle.fwd_settings.specs.declared.settings_types.HttpOptions.{HttpOptions}
use Rattle.fwd_settings.specs.declared.settings_types.OutputSet.{OutputSet}
use Rattle.fwd_settings.specs.declared.settings_types.OutputKind.{OutputKind}
use Rattle.fwd_settings.specs.declared.settings_types.OutputKind.TheVariants as output_kind
use Rattle.fwd_model.specs.Fact.{History, Route}
use Rattle.fwd_model.specs.Settings.{output_at}
use Rattle.fwd_model.specs.Chunks.{ChunkInfo, chunk_at}
use Rattle.fwd_model.specs.Routes.{begun}

-- the tag of a chunk
abbrev pub tag_of_chunk : History → ℕ → List ℕ
tag_of_chunk h chunk = option_map_or (λ (c : ChunkInfo). c.tag) (chunk_at h chunk) []

-- a payload without a reply
abbrev pub without_reply : List ℕ → Delivery
without_reply payload = record { payload = payload; wanted = false; judged = λ _. Right }

-- a payload with a reply, and how the reply is judged
abbrev pub with_reply : List ℕ → (List ℕ → Judged) → Delivery
with_reply payload judged = record { payload = payload; wanted = true; judged = judged }

-- a forward message, which asks for an acknowledgement if one is wanted
abbrev pub message_to : Bool → Bool → List ℕ → Route → List Event → Delivery
message_to true whole_time tag r events =
    with_reply (forward_payload tag events (Some (chunk_id r.chunk r.output)) whole_time)
    (ack_judgement (chunk_id r.chunk r.output))
message_to false whole_time tag r events = without_reply (forward_payload tag events None whole_time)

-- a request, and how its reply is judged
abbrev pub request_to : HttpOptions → List ℕ → Delivery
request_to options request = with_reply request (http_judgement options.retried)

-- events of a tag in the format of an output
abbrev pub delivery_to : OutputKind → List ℕ → Route → List Event → Delivery
delivery_to (output_kind.Stdout form) tag r events = without_reply (payload_of form tag events)
delivery_to (output_kind.File folder file form) tag r events = without_reply (payload_of form tag events)
delivery_to (output_kind.Tcp host port form) tag r events = without_reply (payload_of form tag events)
delivery_to (output_kind.Forward host port ack whole_time) tag r events =
    message_to ack whole_time tag r events
delivery_to (output_kind.Http host port uri form options) tag r events =
    request_to options (http_request host port uri form.form options.fields (payload_of form tag events))

abbrev pub delivery_at : Option OutputSet → List ℕ → Route → List Event → Delivery
delivery_at None tag r events = without_reply []
delivery_at (Some output) tag r events = delivery_to output.kind tag r events

-- what the flush of a route sends
abbrev pub delivery : AllSettings → History → Route → Delivery
delivery s h r = delivery_at (output_at s r.output) (tag_of_chunk h r.chunk) r (begun h r)
