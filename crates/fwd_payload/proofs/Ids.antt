-- Ids are short.
use Rattle.std.proofs.Common.{◌≡◌, ℕ, length, refl}
use Rattle.base64.specs.Rfc4648.{encode_symbols}
use Rattle.fwd_out_net.specs.Id.{chunk_id}

pub id_length : (chunk output : ℕ) → length (chunk_id chunk output) ≡ 24
unfolding encode_symbols
id_length chunk output = refl
