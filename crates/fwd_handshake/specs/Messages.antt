-- The messages of the handshake (Forward Protocol v1, "HELO", "PING" and "PONG").
use Rattle.std.specs.Prelude.{ℕ, true, List, [], codes}
use Rattle.fwd_value.specs.Val.{Val, truth, text, bin, list, mapping, no_vals, val, Entries, no_entries, entry}
use Rattle.fwd_msgpack.specs.Canonical.{canonical}
use Rattle.fwd_handshake.specs.declared.ring.Ring.{Ring}
use Rattle.fwd_handshake.specs.Digest.{key_digest}

-- the words by which the messages begin
abbrev pub helo_word : List ℕ
helo_word = codes "HELO"

abbrev pub ping_word : List ℕ
ping_word = codes "PING"

abbrev pub pong_word : List ℕ
pong_word = codes "PONG"

-- the key `nonce`
abbrev pub nonce_key : List ℕ
nonce_key = codes "nonce"

-- the options of a HELO: a nonce, no authentication of users, and connections that stay open
abbrev pub fixed_options : Entries
fixed_options =
    entry (text (codes "auth")) (bin []) (entry (text (codes "keepalive")) (truth true) no_entries)

abbrev pub helo_options : List ℕ → Entries
helo_options nonce = entry (text nonce_key) (bin nonce) fixed_options

abbrev pub helo_val : List ℕ → Val
helo_val nonce = list (val (text helo_word) (val (mapping (helo_options nonce)) no_vals))

-- the last two members would be a user and a password
abbrev pub ping_val : (host salt digest : List ℕ) → Val
ping_val host salt digest =
    list
    (val (text ping_word)
    (val (text host) (val (bin salt) (val (text digest) (val (text []) (val (text []) no_vals))))))

-- a PONG that accepts; the third member would be the reason of a refusal
abbrev pub pong_val : (host digest : List ℕ) → Val
pong_val host digest =
    list
    (val (text pong_word) (val (truth true) (val (text []) (val (text host) (val (text digest) no_vals)))))

unfoldable pub ping_with : (host salt digest : List ℕ) → List ℕ
ping_with host salt digest = canonical (ping_val host salt digest)

unfoldable pub pong_with : (host digest : List ℕ) → List ℕ
pong_with host digest = canonical (pong_val host digest)

-- the bytes of the HELO with a nonce
unfoldable pub helo : List ℕ → List ℕ
helo nonce = canonical (helo_val nonce)

-- the bytes of the PING with a salt, in answer to a HELO with this nonce
abbrev pub ping : Ring → (salt nonce : List ℕ) → List ℕ
ping ring salt nonce = ping_with ring.host salt (key_digest ring.key salt ring.host nonce)

-- the bytes of the PONG in answer to a PING with this salt, after a HELO with this nonce
abbrev pub pong : Ring → (salt nonce : List ℕ) → List ℕ
pong ring salt nonce = pong_with ring.host (key_digest ring.key salt ring.host nonce)
