-- The messages of a stream of bytes.
use Rattle.std.specs.Prelude.{◌≡◌, ℕ, List, [], ◌∷◌, drop}
use Rattle.fwd_wire.specs.Message.{MessageContent}
use Rattle.fwd_wire.specs.Answer.{IsAnswer, message, short, not_a_message, is_compressed, too_long}
use Rattle.fwd_wire.specs.declared.fault.ConnFault.{ConnFault}
use Rattle.fwd_wire.specs.declared.fault.ConnFault.TheVariants.{NotAMessage, Compressed, TooLong}

-- how the bytes after the last whole message go on: they begin a message, or they break the stream
pub data Ending : Type 0 where
  waiting : List ℕ → Ending
  broken : ConnFault → Ending

-- why no message begins the bytes, whatever follows
abbrev pub Breaks : ConnFault → List ℕ → Type 0
Breaks NotAMessage b = (at : ℕ) × IsAnswer b (not_a_message at)
Breaks Compressed b = IsAnswer b is_compressed
Breaks TooLong b = IsAnswer b too_long

abbrev pub IsEnding : Ending → List ℕ → Type 0
IsEnding (waiting rest) b = (b ≡ rest) × IsAnswer b short
IsEnding (broken fault) b = Breaks fault b

-- the stream is these messages, in order, and then this ending
abbrev pub Streams : List MessageContent → Ending → List ℕ → Type 0
Streams [] e b = IsEnding e b
Streams (m ∷ ms) e b = (n : ℕ) × IsAnswer b (message m n) × Streams ms e (drop n b)
