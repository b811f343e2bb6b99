-- What a flush sends, in the format of its output.
use Rattle.std.specs.Prelude.{◌≡◌, ℕ, List, codes, Option, Some, None}
use Rattle.std.specs.List.{flat_map}
use Rattle.httparse.specs.Grammar.{RequestHead, ReadsRequest}
use Rattle.fwd_out_text.specs.Payload.{PayloadForm, record_of}
use Rattle.fwd_settings.specs.declared.settings_types.OutputKind.{OutputKind}
use Rattle.fwd_settings.specs.declared.settings_types.OutputKind.TheVariants as output_kind
use Rattle.fwd_model.specs.Fact.{History, Route}
use Rattle.fwd_model.specs.Routes.{begun}
use Rattle.fwd_model.specs.Payloads.{tag_of_chunk}

-- the format of an output that gets texts of events and nothing else
abbrev pub form_of : OutputKind → Option PayloadForm
form_of (output_kind.Stdout form) = Some form
form_of (output_kind.File folder file form) = Some form
form_of (output_kind.Tcp host port form) = Some form
form_of other = None

-- the texts of the events with which a route's flush began, in order
abbrev pub texts_of : History → Route → PayloadForm → List ℕ
texts_of h r form = flat_map (record_of form (tag_of_chunk h r.chunk)) (begun h r)

-- a payload is read back as a request to a URI with this body
pub record IsRequest (payload uri body : List ℕ) : Type 0 where
  pub head : RequestHead
  pub reads : ReadsRequest payload head body
  pub method : head.method ≡ codes "POST"
  pub target : head.target ≡ uri
