-- The members of a right message. A text and a bin of the same bytes are taken alike.
use Rattle.std.specs.Prelude.{ℕ, Bool, false, ◌&&◌, List, Option, Some, None, if◌then◌else◌}
use Rattle.std.specs.Borrow.{Bor}
use Rattle.std.specs.Str.{bytes_eq}
use Rattle.fwd_value.specs.Val.{Val, truth, text, bin, list, mapping, no_vals, val, Entries, no_entries, entry}
use Rattle.fwd_value.specs.Keys.{is_text}
use Rattle.fwd_handshake.specs.declared.ring.Ring.{Ring}
use Rattle.fwd_handshake.specs.Digest.{key_digest}
use Rattle.fwd_handshake.specs.Messages.{helo_word, ping_word, pong_word, nonce_key}

-- what a reference to bytes reads
abbrev pub bytes_read : Option (Bor (List ℕ)) → Option (List ℕ)
bytes_read None = None
bytes_read (Some bytes) = Some bytes.now

-- the bytes of a text or a bin
abbrev pub bytes_of : Val → Option (List ℕ)
bytes_of (text s) = Some s
bytes_of (bin s) = Some s
bytes_of _ = None

-- whether a value is a text or a bin of these bytes
abbrev pub is_bytes : List ℕ → Val → Bool
is_bytes wanted (text s) = bytes_eq s wanted
is_bytes wanted (bin s) = bytes_eq s wanted
is_bytes wanted _ = false

abbrev pub is_true : Val → Bool
is_true (truth t) = t
is_true _ = false

-- whether a value is the wanted digest, if there is one
abbrev pub is_digest : Option (List ℕ) → Val → Bool
is_digest (Some digest) v = is_bytes digest v
is_digest None v = false

-- ---- HELO

-- the bytes of the value of the first pair with this key, as a text
abbrev pub first_bytes : List ℕ → Entries → Option (List ℕ)
first_bytes k no_entries = None
first_bytes k (entry key v es) = if is_text k key then bytes_of v else first_bytes k es

abbrev pub nonce_in : Val → Option (List ℕ)
nonce_in (mapping es) = first_bytes nonce_key es
nonce_in _ = None

-- The nonce of a HELO: a list of its word and a map with a nonce. Further keys are allowed.
abbrev pub nonce_of : Val → Option (List ℕ)
nonce_of (list (val word (val options no_vals))) = if is_bytes helo_word word then nonce_in options else None
nonce_of _ = None

-- ---- PING

-- the digest for the host that a PING names, and for its salt
abbrev pub ping_digest : Ring → (nonce : List ℕ) → (host salt : Option (List ℕ)) → Option (List ℕ)
ping_digest ring nonce (Some host) (Some salt) = Some (key_digest ring.key salt host nonce)
ping_digest ring nonce _ _ = None

-- The salt of a PING that shows the key: a list of its word, a host, a salt, the digest and two members that
-- aren't read.
abbrev pub salt_of : Ring → (nonce : List ℕ) → Val → Option (List ℕ)
salt_of ring nonce (list (val word (val host (val salt (val digest (val user (val password no_vals))))))) =
    if is_bytes ping_word word && is_digest (ping_digest ring nonce (bytes_of host) (bytes_of salt)) digest
    then bytes_of salt
    else None
salt_of ring nonce _ = None

-- ---- PONG

-- the digest for the host that a PONG names, if it isn't the own host
abbrev pub pong_digest : Ring → (salt nonce : List ℕ) → (host : Option (List ℕ)) → Option (List ℕ)
pong_digest ring salt nonce (Some host) =
    if bytes_eq host ring.host then None else Some (key_digest ring.key salt host nonce)
pong_digest ring salt nonce None = None

-- The host of a PONG that accepts and shows the key: a list of its word, `true`, a member that isn't read, a
-- host and the digest.
abbrev pub host_of : Ring → (salt nonce : List ℕ) → Val → Option (List ℕ)
host_of ring salt nonce (list (val word (val accepted (val reason (val host (val digest no_vals)))))) =
    if is_true accepted
    && (is_bytes pong_word word && is_digest (pong_digest ring salt nonce (bytes_of host)) digest)
    then bytes_of host
    else None
host_of ring salt nonce _ = None
