-- Each chunk in a file has a file of its own.
use Rattle.std.proofs.Common.{◌≡◌, ◌≢◌, ℕ, ◌<◌, List, Some, arith}
use Rattle.std.specs.FinMap as map
use Rattle.fwd_base.specs.Limits.{numbers_end}
use Rattle.fwd_chunk.specs.Kept.{file_of_optional}
use Rattle.fwd_store.specs.StoreState.{Stored}
use Rattle.fwd_store.specs.Store.{IsSound, new_name}

pub own_file : (s : Stored) (n m : ℕ) (name : List ℕ) → IsSound s → file_of_optional (map.get s.chunks n) ≡ Some name → file_of_optional (map.get s.chunks m) ≡ Some name → n ≡ m
own_file s n m name sound at_n at_m = sound.differ n m name at_n at_m

pub next_is_new : (s : Stored) (stream : List ℕ) (n : ℕ) (name : List ℕ) → IsSound s → s.next < numbers_end → file_of_optional (map.get s.chunks n) ≡ Some name → name ≢ new_name s stream
next_is_new s stream n name sound less at_n = sound.free n name at_n stream s.next (omega arith) less
