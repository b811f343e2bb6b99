-- What is written is right to a reader with the same key.
use Rattle.std.proofs.Common.{◌≡◌, inl, inr, Bool, true, cond, ℕ, ◌<◌, ◌≤◌, ◌^◌, List, [], ◌++◌, length, Option, Some, refl, ap, ◌∙◌, arith}
use Rattle.std.proofs.lemmas.List.{take_at, length-append}
use Rattle.std.proofs.lemmas.Slice.Eq.{bytes_eq-Decides}
use Rattle.fwd_value.specs.Val.{Val, truth, text, bin}
use Rattle.fwd_value.specs.Limits.{nesting, IsInRange, LengthsFit}
use Rattle.fwd_msgpack.specs.Canonical.{canonical}
use Rattle.fwd_msgpack.specs.DecodeAnswers.{EncodesPrefix}
use Rattle.fwd_msgpack.proofs.Encodable.{fits}
use Rattle.fwd_msgpack.proofs.CanonicalEncodes.{canonical_encodes}
use Rattle.fwd_handshake.specs.declared.ring.Ring.{Ring}
use Rattle.fwd_handshake.specs.declared.received.Received.TheVariants.{Right}
use Rattle.fwd_handshake.specs.Digest.{key_digest}
use Rattle.fwd_handshake.specs.Messages.{helo, helo_word, ping_word, pong_word, helo_val, helo_options, fixed_options, nonce_key, ping_val, pong_val, ping_with, pong_with, ping, pong}
use Rattle.fwd_handshake.specs.Members.{first_bytes, nonce_of, salt_of, host_of}
use Rattle.fwd_handshake.specs.Right.{IsHelo, IsPing, IsPong}
use Rattle.fwd_handshake.specs.Judgement.{content_received, received}
use Rattle.fwd_handshake.proofs.Parts.{digest_length}
use Rattle.fwd_handshake.proofs.RightMessages.{helo_exactly, ping_exactly, pong_exactly}
use Rattle.fwd_handshake.proofs.Decoding.{received_value}

encoded_front : (v : Val) (more : List ℕ) → IsInRange v → LengthsFit v → nesting v ≤ 64 → EncodesPrefix v (length (canonical v)) (canonical v ++ more)
encoded_front v more range lengths nested = (omega (arith, length-append (canonical v) more), rw (take_at (canonical v) more (length (canonical v)) refl) (canonical_encodes v (fits v range lengths)), nested)

-- what is written is received with its content
written_right : (content : Val → Option (List ℕ)) (v : Val) (more s : List ℕ) → IsInRange v → LengthsFit v → nesting v ≤ 64 → content v ≡ Some s
    → received content (canonical v ++ more) ≡ Right (length (canonical v)) s
written_right content v more s range lengths nested is =
    received_value content (canonical v ++ more) v (length (canonical v)) (encoded_front v more range lengths nested) ∙ ap (content_received (length (canonical v))) is

-- ---- HELO

helo_is : (nonce : List ℕ) → IsHelo nonce (helo_val nonce)
helo_is nonce = record {
  word = text helo_word;
  options = helo_options nonce;
  members = refl;
  begins = inl refl;
  challenges = ap (λ (t : Bool). cond t (Some nonce) (first_bytes nonce_key fixed_options)) ((bytes_eq-Decides nonce_key nonce_key).1 refl);
}

pub helo_right : (nonce more : List ℕ) → length nonce < 2 ^ 32 → received nonce_of (helo nonce ++ more) ≡ Right (length (helo nonce)) nonce
unfolding helo
helo_right nonce more short =
    written_right nonce_of (helo_val nonce) more nonce (tt, ((tt, tt, (tt, tt, (tt, tt, tt))), tt))
    (omega arith, (omega arith, ((omega arith, (omega arith, short, (omega arith, omega arith, (omega arith, tt, tt)))), tt))) (omega arith)
    ((helo_exactly nonce (helo_val nonce)).1 (helo_is nonce))

-- ---- PING

ping_is : (ring : Ring) (nonce salt host digest : List ℕ) → digest ≡ key_digest ring.key salt host nonce → IsPing ring nonce salt (ping_val host salt digest)
ping_is ring nonce salt host digest shows = record {
  host = host;
  word = text ping_word;
  host_member = text host;
  salt_member = bin salt;
  digest = text digest;
  user = text [];
  password = text [];
  members = refl;
  begins = inl refl;
  names = inl refl;
  salts = inr refl;
  shows = inl (ap text shows);
}

ping_with_right : (ring : Ring) (nonce salt host digest more : List ℕ) → digest ≡ key_digest ring.key salt host nonce → length host < 2 ^ 32 → length salt < 2 ^ 32
    → received (salt_of ring nonce) (ping_with host salt digest ++ more) ≡ Right (length (ping_with host salt digest)) salt
unfolding ping_with
ping_with_right ring nonce salt host digest more shows short_host short_salt =
    let short_digest : length digest < 2 ^ 32 = omega (arith, ap length shows, digest_length ring.key salt host nonce) in
    written_right (salt_of ring nonce) (ping_val host salt digest) more salt (tt, (tt, (tt, (tt, (tt, (tt, tt))))))
    (omega arith, (omega arith, (short_host, (short_salt, (short_digest, (omega arith, (omega arith, tt))))))) (omega arith)
    ((ping_exactly ring nonce salt (ping_val host salt digest)).1 (ping_is ring nonce salt host digest shows))

-- the PING of a client with the same key
pub ping_right : (ring other : Ring) (salt nonce more : List ℕ) → other.key ≡ ring.key → length other.host < 2 ^ 32 → length salt < 2 ^ 32
    → received (salt_of ring nonce) (ping other salt nonce ++ more) ≡ Right (length (ping other salt nonce)) salt
ping_right ring other salt nonce more same short_host short_salt =
    ping_with_right ring nonce salt other.host (key_digest other.key salt other.host nonce) more (ap (λ (k : List ℕ). key_digest k salt other.host nonce) same) short_host short_salt

-- ---- PONG

pong_is : (ring : Ring) (salt nonce host digest : List ℕ) → digest ≡ key_digest ring.key salt host nonce → (host ≡ ring.host → ⊥) → IsPong ring salt nonce host (pong_val host digest)
pong_is ring salt nonce host digest shows differs = record {
  word = text pong_word;
  accepted = truth true;
  reason = text [];
  host_member = text host;
  digest = text digest;
  members = refl;
  begins = inl refl;
  accepts = refl;
  names = inl refl;
  differs = differs;
  shows = inl (ap text shows);
}

pong_with_right : (ring : Ring) (salt nonce host digest more : List ℕ) → digest ≡ key_digest ring.key salt host nonce → (host ≡ ring.host → ⊥) → length host < 2 ^ 32
    → received (host_of ring salt nonce) (pong_with host digest ++ more) ≡ Right (length (pong_with host digest)) host
unfolding pong_with
pong_with_right ring salt nonce host digest more shows differs short_host =
    let short_digest : length digest < 2 ^ 32 = omega (arith, ap length shows, digest_length ring.key salt host nonce) in
    written_right (host_of ring salt nonce) (pong_val host digest) more host (tt, (tt, (tt, (tt, (tt, tt)))))
    (omega arith, (omega arith, (tt, (omega arith, (short_host, (short_digest, tt)))))) (omega arith)
    ((pong_exactly ring salt nonce host (pong_val host digest)).1 (pong_is ring salt nonce host digest shows differs))

-- the PONG of a server with the same key and another host
pub pong_right : (ring other : Ring) (salt nonce more : List ℕ) → other.key ≡ ring.key → (other.host ≡ ring.host → ⊥) → length other.host < 2 ^ 32
    → received (host_of ring salt nonce) (pong other salt nonce ++ more) ≡ Right (length (pong other salt nonce)) other.host
pong_right ring other salt nonce more same differs short_host =
    pong_with_right ring salt nonce other.host (key_digest other.key salt other.host nonce) more (ap (λ (k : List ℕ). key_digest k salt other.host nonce) same) differs short_host
