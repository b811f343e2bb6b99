-- Random bytes, as the loop below gives them in words.
use Rattle.std.specs.Prelude.{ℕ, List, ◌++◌}
use Rattle.std.specs.Int.{w64, to_be_bytes}
use Rattle.fwd_secure.specs.declared.handshakes.RandomBytes.{RandomBytes}

-- each word in big-endian order
abbrev pub random_bytes : RandomBytes → List ℕ
random_bytes words = to_be_bytes w64 words.first ++ to_be_bytes w64 words.second
