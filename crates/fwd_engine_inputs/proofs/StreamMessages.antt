-- Messages of a stream that continues, read from left to right.
use Rattle.std.proofs.Common.{◌≡◌, ℕ, List, [], ◌∷◌, ◌++◌, length, drop, Option, Result, Ok, Err, refl, sym, ap, subst, ◌∙◌}
use Rattle.std.specs.Prelude.{is_some, IfOk, OnOk}
use Rattle.fwd_msgpack.specs.Decoder.{value_by}
use Rattle.fwd_wire.specs.Message.{MessageContent}
use Rattle.fwd_wire.specs.Stream.{Ending, waiting, broken, Streams}
use Rattle.fwd_wire.specs.Decode.{Stream, messages_in}
use Rattle.fwd_wire.proofs.Computed.{streams_exactly}
use Rattle.fwd_wire.specs.declared.fault.ConnFault.{ConnFault}
use Rattle.fwd_in_forward.specs.Conn.{fault_of}
use Rattle.fwd_model.specs.Messages.{completed_messages, becomes_malformed, is_malformed}
use Rattle.fwd_engine_inputs.specs.ReaderStates.{ending}

-- the messages of a stream are those that the reader returns
is_read : (b : List ℕ) → Streams (messages_in b).messages (messages_in b).ending b
is_read b = (streams_exactly (messages_in b).messages (messages_in b).ending b).1 refl

behind_all : (xs ys : List MessageContent) → drop (length xs) (xs ++ ys) ≡ ys
behind_all [] ys = refl
behind_all (x ∷ xs) ys = behind_all xs ys

-- what a reader that continues a stream returns and keeps
goes_on : (stream piece : List ℕ) (old new : Ending) (given : List MessageContent) → old ≡ (messages_in stream).ending
    → ((before : List MessageContent) → Streams before old stream → Streams (before ++ given) new (stream ++ piece))
    → messages_in (stream ++ piece) ≡ record { messages = (messages_in stream).messages ++ given; ending = new }
goes_on stream piece old new given is on =
    let before = (messages_in stream).messages in
    let went = on before (subst (λ (e : Ending). Streams before e stream) (sym is) (is_read stream)) in
    (streams_exactly (before ++ given) new (stream ++ piece)).0 went

pub gives : (stream piece : List ℕ) (old new : Ending) (given : List MessageContent) → old ≡ ending stream
    → ((before : List MessageContent) → Streams before old stream → Streams (before ++ given) new (stream ++ piece))
    → given ≡ completed_messages stream piece
unfolding ending
gives stream piece old new given is on =
    let e = goes_on stream piece old new given is on in
    sym (ap (λ (x : Stream). drop (length (messages_in stream).messages) x.messages) e ∙ behind_all (messages_in stream).messages given)

pub keeps : (stream piece : List ℕ) (old new : Ending) (given : List MessageContent) → old ≡ ending stream
    → ((before : List MessageContent) → Streams before old stream → Streams (before ++ given) new (stream ++ piece))
    → new ≡ ending (stream ++ piece)
unfolding ending
keeps stream piece old new given is on = sym (ap (λ (x : Stream). x.ending) (goes_on stream piece old new given is on))

breaks_by : (e : Ending) → is_some (fault_of e) ≡ is_malformed e
breaks_by (waiting rest) = refl
breaks_by (broken fault) = refl

pub breaks : (stream piece : List ℕ) (new : Ending) → new ≡ ending (stream ++ piece) → is_some (fault_of new) ≡ becomes_malformed stream piece
unfolding ending
breaks stream piece new is = breaks_by new ∙ ap is_malformed is

pub nothing_waits : ending [] ≡ waiting []
unfolding ending value_by
nothing_waits = refl

-- ---- the same for the result of a call

module _ {F E : Type 0} (said_in : F → List MessageContent) (fault_in : F → Option ConnFault) (piece : List ℕ) (old new : Ending) where
  abbrev Feeds : Result F E → Type 0
  Feeds r = (stream : List ℕ) (before : List MessageContent) → Streams before old stream → IfOk r (λ f. Streams (before ++ said_in f) new (stream ++ piece))

  pub gives_in : (r : Result F E) → Feeds r → (stream : List ℕ) → old ≡ ending stream → IfOk r (λ f. said_in f ≡ completed_messages stream piece)
  gives_in (Ok f) on stream is = gives stream piece old new (said_in f) is (on stream)
  gives_in (Err e) on stream is = tt

  pub keeps_in : (r : Result F E) → Feeds r → (stream : List ℕ) → old ≡ ending stream → OnOk r (new ≡ ending (stream ++ piece))
  keeps_in (Ok f) on stream is = keeps stream piece old new (said_in f) is (on stream)
  keeps_in (Err e) on stream is = tt

  pub breaks_in : (r : Result F E) → Feeds r → IfOk r (λ f. fault_in f ≡ fault_of new) → (stream : List ℕ) → old ≡ ending stream → IfOk r (λ f. is_some (fault_in f) ≡ becomes_malformed stream piece)
  breaks_in (Ok f) on faults stream is = ap (λ (x : Option ConnFault). is_some x) faults ∙ breaks stream piece new (keeps stream piece old new (said_in f) is (on stream))
  breaks_in (Err e) on faults stream is = tt
