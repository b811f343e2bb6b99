-- What comes next in a stream.
use Rattle.std.specs.Prelude.{◌≡◌, ℕ, List, Result, Ok, Err, IsErr}
use Rattle.fwd_base.specs.declared.memory.Memory.{Memory}
use Rattle.fwd_wire.specs.declared.errors.WireErr.{WireErr}
use Rattle.fwd_wire.specs.declared.errors.WireErr.TheVariants as errors
use Rattle.fwd_wire.specs.declared.fault.ConnFault.TheVariants as fault
use Rattle.fwd_wire.specs.declared.message.Message.{Message as Held}
use Rattle.fwd_wire.specs.Answer.{IsAnswer, message, short}
use Rattle.fwd_wire.specs.Message.{MessageContent}
use Rattle.fwd_wire.specs.Stream.{Breaks}
use Rattle.fwd_in_forward.specs.declared.next_message.NextMessage.{NextMessage}
use Rattle.fwd_in_forward.specs.declared.next_message.NextMessage.TheVariants.{Message, Short, Broken}

-- what comes next in the bytes, by what a message says
abbrev pub NextIs : {M : Type 0} → (M → MessageContent) → List ℕ → NextMessage M → Type 0
NextIs content b (Message m n) = IsAnswer b (message (content m) n)
NextIs content b Short = IsAnswer b short
NextIs content b (Broken fault) = Breaks fault b

-- the message, if one comes next, has this property
abbrev pub NextMeets : {M : Type 0} → (M → Type 0) → NextMessage M → Type 0
NextMeets P (Message m n) = P m
NextMeets P _ = Unit {0}

-- what comes next, by what was read
abbrev pub TakenAs : Result (Held × ℕ) WireErr → Result (NextMessage Held) Memory → Type 0
TakenAs (Ok x) r = r ≡ Ok (Message x.0 x.1)
TakenAs (Err errors.Short) r = r ≡ Ok Short
TakenAs (Err (errors.NotAMessage at)) r = r ≡ Ok (Broken fault.NotAMessage)
TakenAs (Err errors.Compressed) r = r ≡ Ok (Broken fault.Compressed)
TakenAs (Err errors.TooLong) r = r ≡ Ok (Broken fault.TooLong)
TakenAs (Err errors.Memory) r = IsErr r
