-- The parts of the encoded messages.
use Rattle.std.proofs.Common.{◌≡◌, ℕ, List, [], ◌∷◌, ◌++◌, length, refl, sym, ap, ◌∙◌, append_assoc, arith}
use Rattle.std.specs.List.{flat_map}
use Rattle.std.proofs.lemmas.List.{append-nil}
use Rattle.hex.specs.Hex.{encode_lower, lower_digits}
use Rattle.hex.proofs.HexLemmas.{length-encode_with}
use Rattle.sha2.specs.Sha512.{sha512}
use Rattle.sha2.proofs.Facts512.{length-sha512}
use Rattle.fwd_value.specs.Val.{text, bin}
use Rattle.fwd_msgpack.specs.Canonical.{canonical, list_head, map_head, text_head, bin_head}
use Rattle.fwd_handshake.specs.Digest.{hex_sha512, key_digest}
use Rattle.fwd_handshake.specs.Messages.{helo, ping_with, pong_with}

-- the digest of the parts as a hasher takes them
pub digest_of_parts : (key salt host nonce : List ℕ) → encode_lower (sha512 (((salt ++ host) ++ nonce) ++ key)) ≡ key_digest key salt host nonce
unfolding key_digest hex_sha512
digest_of_parts key salt host nonce =
    let parts : ((salt ++ host) ++ nonce) ++ key ≡ salt ++ (host ++ (nonce ++ (key ++ []))) =
    append_assoc (salt ++ host) nonce key ∙ append_assoc salt host (nonce ++ key)
    ∙ ap (λ (k : List ℕ). salt ++ (host ++ (nonce ++ k))) (sym (append-nil key)) in
    ap (λ (m : List ℕ). encode_lower (sha512 m)) parts

-- a digest has 128 bytes
pub digest_length : (key salt host nonce : List ℕ) → length (key_digest key salt host nonce) ≡ 128
unfolding key_digest hex_sha512
digest_length key salt host nonce =
    let m : List ℕ = flat_map (λ p. p) (salt ∷ host ∷ nonce ∷ key ∷ []) in
    omega (arith, length-encode_with lower_digits (sha512 m), length-sha512 m)

-- ---- the writers

abbrev helo_front : List ℕ
helo_front = 146 ∷ 164 ∷ 72 ∷ 69 ∷ 76 ∷ 79 ∷ 131 ∷ 165 ∷ 110 ∷ 111 ∷ 110 ∷ 99 ∷ 101 ∷ []

abbrev helo_back : List ℕ
helo_back = 164 ∷ 97 ∷ 117 ∷ 116 ∷ 104 ∷ 196 ∷ 0 ∷ 169 ∷ 107 ∷ 101 ∷ 101 ∷ 112 ∷ 97 ∷ 108 ∷ 105 ∷ 118 ∷ 101 ∷ 195 ∷ []

helo_parts : (nonce : List ℕ) → helo_front ++ (canonical (bin nonce) ++ helo_back) ≡ helo nonce
unfolding helo list_head map_head text_head bin_head
helo_parts nonce = ap (λ (t : List ℕ). helo_front ++ t) (sym (append-nil (canonical (bin nonce) ++ helo_back)))

pub helo_written : (one two three nonce : List ℕ) → one ≡ helo_front → two ≡ one ++ canonical (bin nonce) → three ≡ two ++ helo_back → three ≡ helo nonce
helo_written one two three nonce e f g =
    g ∙ ap (λ (o : List ℕ). o ++ helo_back) (f ∙ ap (λ (o : List ℕ). o ++ canonical (bin nonce)) e)
    ∙ append_assoc helo_front (canonical (bin nonce)) helo_back ∙ helo_parts nonce

abbrev ping_front : List ℕ
ping_front = 150 ∷ 164 ∷ 80 ∷ 73 ∷ 78 ∷ 71 ∷ []

abbrev ping_back : List ℕ
ping_back = 160 ∷ 160 ∷ []

ping_parts : (host salt digest : List ℕ) → ping_front ++ (canonical (text host) ++ (canonical (bin salt) ++ (canonical (text digest) ++ ping_back))) ≡ ping_with host salt digest
unfolding ping_with list_head text_head
ping_parts host salt digest = refl

pub ping_written : (one two three four five host salt digest : List ℕ) → one ≡ ping_front → two ≡ one ++ canonical (text host) → three ≡ two ++ canonical (bin salt)
    → four ≡ three ++ canonical (text digest) → five ≡ four ++ ping_back → five ≡ ping_with host salt digest
ping_written one two three four five host salt digest e f g h i =
    let x = canonical (text host) in
    let y = canonical (bin salt) in
    let z = canonical (text digest) in
    let all = i ∙ ap (λ (o : List ℕ). o ++ ping_back) (h ∙ ap (λ (o : List ℕ). o ++ z) (g ∙ ap (λ (o : List ℕ). o ++ y) (f ∙ ap (λ (o : List ℕ). o ++ x) e))) in
    all ∙ append_assoc ((ping_front ++ x) ++ y) z ping_back ∙ append_assoc (ping_front ++ x) y (z ++ ping_back) ∙ append_assoc ping_front x (y ++ (z ++ ping_back)) ∙ ping_parts host salt digest

abbrev pong_front : List ℕ
pong_front = 149 ∷ 164 ∷ 80 ∷ 79 ∷ 78 ∷ 71 ∷ 195 ∷ 160 ∷ []

pong_parts : (host digest : List ℕ) → pong_front ++ (canonical (text host) ++ canonical (text digest)) ≡ pong_with host digest
unfolding pong_with list_head text_head
pong_parts host digest = ap (λ (t : List ℕ). pong_front ++ (canonical (text host) ++ t)) (sym (append-nil (canonical (text digest))))

pub pong_written : (one two three host digest : List ℕ) → one ≡ pong_front → two ≡ one ++ canonical (text host) → three ≡ two ++ canonical (text digest) → three ≡ pong_with host digest
pong_written one two three host digest e f g =
    let x = canonical (text host) in
    let z = canonical (text digest) in
    g ∙ ap (λ (o : List ℕ). o ++ z) (f ∙ ap (λ (o : List ℕ). o ++ x) e) ∙ append_assoc pong_front x z ∙ pong_parts host digest
