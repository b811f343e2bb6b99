-- How the code's values represent those of the definitions.
use Rattle.std.specs.Prelude.{◌≡◌, ℕ, nat_lt, if◌then◌else◌, Bool, true, false, List, [], ◌∷◌, ◌++◌, Option, Some, None, option_map, Result, Ok, Err}
use Rattle.std.specs.Borrow.{Bor}
use Rattle.fwd_base.specs.Limits.{longest_message}
use Rattle.fwd_value.specs.Val.{vals_of}
use Rattle.fwd_value.specs.View.{val_of}
use Rattle.fwd_msgpack.specs.declared.errors.DecodeErr.{DecodeErr}
use Rattle.fwd_msgpack.specs.declared.errors.DecodeErr.TheVariants as decoding
use Rattle.fwd_event.specs.declared.event.Event.{Event}
use Rattle.fwd_wire.specs.declared.message.Message.{Message}
use Rattle.fwd_wire.specs.declared.message.Message.TheVariants.{Nothing, Batch}
use Rattle.fwd_wire.specs.declared.errors.WireErr.{WireErr}
use Rattle.fwd_wire.specs.declared.errors.WireErr.TheVariants as errors
use Rattle.fwd_wire.specs.declared.parts.Carried.{Carried as Held}
use Rattle.fwd_wire.specs.declared.parts.Carried.TheVariants as held
use Rattle.fwd_wire.specs.Message.{MessageContent, nothing, batch, Verdict, says, compressed, no_message, Carried, one, many, packed, Carries}
use Rattle.fwd_wire.specs.Answer.{Answer, message, short, not_a_message, is_compressed, too_long, IsAnswer}

-- what a message says
abbrev pub content_of : Message → MessageContent
content_of Nothing = nothing
content_of (Batch t es k) = batch t es (option_map val_of k)

abbrev pub carried_of : Held → Carried
carried_of (held.One time body) = one (val_of time) (val_of body)
carried_of (held.Many vs) = many (vals_of vs)
carried_of (held.Packed b) = packed b

-- bytes, if there are some
abbrev pub bytes_read : Option (Bor (List ℕ)) → Option (List ℕ)
bytes_read None = None
bytes_read (Some bytes) = Some bytes.now

-- an event is appended to the others, if there is one
abbrev pub Pushes : Bool → List Event → List Event → Option Event → Type 0
Pushes true old new e = (x : Event) × (e ≡ Some x) × (new ≡ old ++ x ∷ [])
Pushes false old new e = (e ≡ None) × (new ≡ old)

-- these events are carried, or none are
abbrev pub CarriesExactly : Carried → Option (List Event) → Type 0
CarriesExactly c (Some es) = Carries c es
CarriesExactly c None = (es : List Event) → Carries c es → ⊥

-- the result for a value is what it says, unless memory ran out
abbrev pub GivesVerdict : (Verdict → Type 0) → Result Message WireErr → Type 0
GivesVerdict P (Ok m) = P (says (content_of m))
GivesVerdict P (Err errors.Compressed) = P compressed
GivesVerdict P (Err (errors.NotAMessage at)) = P no_message × (at ≡ 0)
GivesVerdict P (Err errors.Memory) = Unit {0}
GivesVerdict P (Err _) = ⊥

-- the result, or nothing if memory ran out
abbrev pub answer_of : Result (Message × ℕ) WireErr → Option Answer
answer_of (Ok x) = Some (message (content_of x.0) x.1)
answer_of (Err errors.Short) = Some short
answer_of (Err (errors.NotAMessage at)) = Some (not_a_message at)
answer_of (Err errors.Compressed) = Some is_compressed
answer_of (Err errors.TooLong) = Some too_long
answer_of (Err errors.Memory) = None

-- these bytes have that answer, if there is one
abbrev pub HasAnswer : List ℕ → Option Answer → Type 0
HasAnswer b (Some a) = IsAnswer b a
HasAnswer b None = Unit {0}

-- the error of this many bytes, by what the decoder finds
abbrev pub refused_as : ℕ → DecodeErr → WireErr
refused_as n decoding.Short = if nat_lt n longest_message then errors.Short else errors.TooLong
refused_as n (decoding.Unused at) = errors.NotAMessage at
refused_as n (decoding.TooDeep at) = errors.NotAMessage at
refused_as n decoding.Memory = errors.Memory
