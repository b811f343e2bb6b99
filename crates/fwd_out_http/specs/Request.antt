-- A request with a payload (RFC 9112, sections 3 and 6).
use Rattle.std.specs.Prelude.{◌≡◌, ℕ, List, [], ◌∷◌, ◌++◌, length, map, codes, decimal, IsTrue}
use Rattle.std.specs.List.{list_all, flat_map}
use Rattle.std.specs.Char.{is_ascii_graphic}
use Rattle.fwd_base.specs.declared.output_options.Form.{Form}
use Rattle.fwd_base.specs.declared.output_options.Form.TheVariants.{JsonLines, OutFile, MsgPack}
use Rattle.fwd_event.specs.declared.event.Event.{Event}
use Rattle.fwd_json.specs.declared.floats.PayloadForm.{PayloadForm}
use Rattle.fwd_out_text.specs.Payload.{payload_of}
use Rattle.httparse.specs.Grammar.{RequestHead, ReadsRequest, trim_ows}
use Rattle.httparse.specs.Spans.{name_and_value}
use Rattle.fwd_http.specs.declared.fields.HeaderField.{HeaderField}

-- The media type of a format. That of `OutFile`, which no http output has, is `text/plain`.
abbrev pub content_type : Form → List ℕ
content_type JsonLines = codes "application/x-ndjson"
content_type OutFile = codes "text/plain"
content_type MsgPack = codes "application/msgpack"

-- the request line: a POST to a URI
abbrev pub request_line : List ℕ → List ℕ
request_line uri = codes "POST " ++ uri ++ codes " HTTP/1.1\r\n"

-- a field line
abbrev pub field : List ℕ → List ℕ → List ℕ
field name value = name ++ codes ": " ++ value ++ codes "\r\n"

-- the server's name and port in a request
abbrev pub server : List ℕ → ℕ → List ℕ
server host port = host ++ codes ":" ++ decimal port

-- further field lines, in order
abbrev pub further_fields : List HeaderField → List ℕ
further_fields fields = flat_map (λ more. field more.name more.value) fields

-- the head of a request with further fields and a body of so many bytes
abbrev pub http_head : List ℕ → ℕ → List ℕ → Form → List HeaderField → ℕ → List ℕ
http_head host port uri form fields size =
    request_line uri
    ++ field (codes "Host") (server host port)
    ++ field (codes "Content-Length") (decimal size)
    ++ field (codes "Content-Type") (content_type form)
    ++ field (codes "Connection") (codes "close")
    ++ further_fields fields
    ++ codes "\r\n"

-- the request with a body
abbrev pub http_request : List ℕ → ℕ → List ℕ → Form → List HeaderField → List ℕ → List ℕ
http_request host port uri form fields body = http_head host port uri form fields (length body) ++ body

-- the request with the events of a tag: its body is their payload in the format
abbrev pub http_payload : List ℕ → ℕ → List ℕ → PayloadForm → List ℕ → List Event → List ℕ
http_payload host port uri form tag events =
    http_request host port uri form.form [] (payload_of form tag events)

-- only visible ASCII characters: bytes from 21 to 7e in hex
abbrev pub IsVisible : List ℕ → Type 0
IsVisible text = IsTrue (list_all is_ascii_graphic text)

-- a slash and then visible characters
abbrev pub IsUri : List ℕ → Type 0
IsUri [] = ⊥
IsUri (b ∷ text) = (b ≡ 47) × IsVisible text

-- the fields of a request's head, by name and value; blanks at the ends of a value aren't part of it
abbrev pub fields_of : List ℕ → ℕ → Form → List HeaderField → ℕ → List (List ℕ × List ℕ)
fields_of host port form fields size =
    (codes "Host", server host port)
    ∷ (codes "Content-Length", decimal size)
    ∷ (codes "Content-Type", content_type form)
    ∷ (codes "Connection", codes "close")
    ∷ map (λ more. (more.name, trim_ows more.value)) fields

-- a request is read back as a head with the method, the URI and these fields, and then the body
pub record ReadsBack (host : List ℕ) (port : ℕ) (uri : List ℕ) (form : Form) (fields : List HeaderField)
    (body : List ℕ) : Type 0 where
  pub head : RequestHead
  pub reads : ReadsRequest (http_request host port uri form fields body) head body
  pub method : head.method ≡ codes "POST"
  pub target : head.target ≡ uri
  pub version : head.minor ≡ 1
  pub said : map name_and_value head.fields ≡ fields_of host port form fields (length body)
