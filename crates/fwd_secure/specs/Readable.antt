-- The events of a loop as the keyed loop reads them, and what it reads in messages of the handshake.
use Rattle.std.specs.Prelude.{◌<◌, ◌^◌, ◌≤◌, length}
use Rattle.fwd_base.specs.Limits.{longest_piece}
use Rattle.fwd_outside.specs.declared.happening.Happening.{Happening}
use Rattle.fwd_outside.specs.declared.happening.Happening.TheVariants.{Piece}
use Rattle.fwd_handshake.specs.declared.received.Received.{Received}
use Rattle.fwd_handshake.specs.declared.received.Received.TheVariants.{Right}

-- a piece isn't longer than one read
abbrev pub IsReadable : Happening → Type 0
IsReadable (Piece input conn bytes) = length bytes ≤ longest_piece
IsReadable brought = Unit {0}

-- the content of a right message fits another message
abbrev pub HasShortContent : Received → Type 0
HasShortContent (Right len content) = length content < 2 ^ 32
HasShortContent received = Unit {0}
