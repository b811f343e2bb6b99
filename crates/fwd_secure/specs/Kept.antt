-- Bytes that are kept for a later wait.
use Rattle.std.specs.Prelude.{ℕ, ◌==◌, ◌≤◌, Bool, true, false, not, List, [], ◌∷◌, length, Option, if◌then◌else◌}
use Rattle.std.specs.List.{find, list_any}
use Rattle.std.specs.Int.{bit_at}
use Rattle.fwd_base.specs.Limits.{longest_piece}
use Rattle.fwd_outside.specs.declared.happening.Happening.{Happening}
use Rattle.fwd_outside.specs.declared.happening.Happening.TheVariants as happening
use Rattle.fwd_secure.specs.declared.handshakes.KeptBytes.{KeptBytes}
use Rattle.fwd_secure.specs.declared.handshakes.KeptBytes.TheVariants.{OfConn, OfLink}

-- whether a wait with this mask of paused inputs may give the bytes
abbrev pub is_given : ℕ → KeptBytes → Bool
is_given paused (OfConn input conn bytes) = not (bit_at paused input.0 == 1)
is_given paused (OfLink link bytes) = true

abbrev pub is_of_conn : ℕ → KeptBytes → Bool
is_of_conn conn (OfConn input other bytes) = other.0 == conn
is_of_conn conn (OfLink link bytes) = false

abbrev pub is_of_link : ℕ → KeptBytes → Bool
is_of_link link (OfConn input conn bytes) = false
is_of_link link (OfLink other bytes) = other.0 == link

-- the event that gives the bytes
abbrev pub event_of : KeptBytes → Happening
event_of (OfConn input conn bytes) = happening.Piece input conn bytes
event_of (OfLink link bytes) = happening.Back link bytes

-- the first that a wait with this mask may give
abbrev pub first_given : ℕ → List KeptBytes → Option KeptBytes
first_given paused kept = find (is_given paused) kept

abbrev pub without_first_given : ℕ → List KeptBytes → List KeptBytes
without_first_given paused [] = []
without_first_given paused (bytes ∷ kept) =
    if is_given paused bytes then kept else bytes ∷ without_first_given paused kept

-- whether a wait with this mask gives kept bytes, and so asks the loop below for nothing
abbrev pub holds : ℕ → List KeptBytes → Bool
holds paused kept = list_any (is_given paused) kept

-- the bytes of a connection are those of one event
abbrev pub IsPiece : KeptBytes → Type 0
IsPiece (OfConn input conn bytes) = (1 ≤ length bytes) × (length bytes ≤ longest_piece)
IsPiece (OfLink link bytes) = Unit {0}

abbrev pub ArePieces : List KeptBytes → Type 0
ArePieces [] = Unit {0}
ArePieces (bytes ∷ kept) = IsPiece bytes × ArePieces kept
