-- Which values are right messages of the handshake, with their members named.
use Rattle.std.specs.Prelude.{◌≡◌, ◌⊎◌, ℕ, true, List, Some}
use Rattle.fwd_value.specs.Val.{Val, truth, text, bin, list, mapping, no_vals, val, Entries}
use Rattle.fwd_handshake.specs.declared.ring.Ring.{Ring}
use Rattle.fwd_handshake.specs.Digest.{key_digest}
use Rattle.fwd_handshake.specs.Messages.{helo_word, ping_word, pong_word, nonce_key}
use Rattle.fwd_handshake.specs.Members.{first_bytes}

-- the value is a text or a bin of these bytes
abbrev pub IsBytes : List ℕ → Val → Type 0
IsBytes s v = (v ≡ text s) ⊎ (v ≡ bin s)

-- a HELO with this nonce
pub record IsHelo (nonce : List ℕ) (v : Val) : Type 0 where
  pub word : Val
  pub options : Entries
  pub members : v ≡ list (val word (val (mapping options) no_vals))
  pub begins : IsBytes helo_word word
  pub challenges : first_bytes nonce_key options ≡ Some nonce

-- a PING with this salt, whose digest shows the key of the ring for the nonce
pub record IsPing (ring : Ring) (nonce salt : List ℕ) (v : Val) : Type 0 where
  pub host : List ℕ
  pub word : Val
  pub host_member : Val
  pub salt_member : Val
  pub digest : Val
  pub user : Val
  pub password : Val
  pub members :
      v ≡ list (val word (val host_member (val salt_member (val digest (val user (val password no_vals))))))
  pub begins : IsBytes ping_word word
  pub names : IsBytes host host_member
  pub salts : IsBytes salt salt_member
  pub shows : IsBytes (key_digest ring.key salt host nonce) digest

-- a PONG of this host, which accepts, and whose digest shows the key of the ring for the salt and the nonce
pub record IsPong (ring : Ring) (salt nonce host : List ℕ) (v : Val) : Type 0 where
  pub word : Val
  pub accepted : Val
  pub reason : Val
  pub host_member : Val
  pub digest : Val
  pub members : v ≡ list (val word (val accepted (val reason (val host_member (val digest no_vals)))))
  pub begins : IsBytes pong_word word
  pub accepts : accepted ≡ truth true
  pub names : IsBytes host host_member
  pub differs : host ≡ ring.host → ⊥
  pub shows : IsBytes (key_digest ring.key salt host nonce) digest
