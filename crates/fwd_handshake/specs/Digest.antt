-- The digest by which a peer shows that it has the key (Forward Protocol v1, "Authentication").
use Rattle.std.specs.Prelude.{ℕ, List, [], ◌∷◌}
use Rattle.std.specs.List.{flat_map}
use Rattle.hex.specs.Hex.{encode_lower}
use Rattle.sha2.specs.Sha512.{sha512}

-- the lower-case hex of SHA-512 of the parts, one after another
unfoldable pub hex_sha512 : List (List ℕ) → List ℕ
hex_sha512 parts = encode_lower (sha512 (flat_map (λ p. p) parts))

-- the digest of a salt, the host of the side that shows the key, and a nonce
unfoldable pub key_digest : (key salt host nonce : List ℕ) → List ℕ
key_digest key salt host nonce = hex_sha512 (salt ∷ host ∷ nonce ∷ key ∷ [])
