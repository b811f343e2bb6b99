-- Values that were decoded, and whose canonical encodings were written.
use Rattle.std.specs.Prelude.{◌≡◌, ℕ, List, ◌++◌, Option, Ok, length}
use Rattle.fwd_value.specs.Val.{Val, mapping, vals_of, entries_of}
use Rattle.fwd_msgpack.specs.declared.form.Form.{Form}
use Rattle.fwd_msgpack.specs.Canonical.{canonical, canonical_all, canonical_entries}
use Rattle.fwd_msgpack.specs.Decoder.{Read, bytes_at, many_at, entries_at, after, value_at}

-- so many bytes were copied
abbrev pub CopiesBytes : ℕ → List ℕ → List ℕ → List ℕ → List ℕ → Type 0
CopiesBytes n b rest old new =
    (s : List ℕ) × (bytes_at n b ≡ Ok (s, rest)) × (length s ≡ n) × (new ≡ old ++ s)

-- a value was decoded, with the rest after it, and its canonical encoding was appended
abbrev pub Transcodes : Read Val → List ℕ → List ℕ → List ℕ → Type 0
Transcodes read rest old new = (v : Val) × (read ≡ Ok (v, rest)) × (new ≡ old ++ canonical v)

-- the same of the bytes after a first byte of this form, which opens no list and no map
abbrev pub TranscodesAfter : Form → List ℕ → List ℕ → List ℕ → List ℕ → Type 0
TranscodesAfter f b rest old new =
    (deeper : Option (List ℕ → Read Val)) → Transcodes (after deeper f b) rest old new

-- the same of a map
abbrev pub TranscodesMap : Read Val → List ℕ → List ℕ → List ℕ → Type 0
TranscodesMap read rest old new =
    (pairs : List (Val × Val)) × (read ≡ Ok (mapping (entries_of pairs), rest))
    × (new ≡ old ++ canonical (mapping (entries_of pairs)))

-- the same of so many values, each nested at most d deep
abbrev pub TranscodesAll : ℕ → ℕ → List ℕ → List ℕ → List ℕ → List ℕ → Type 0
TranscodesAll d n b rest old new =
    (vs : List Val) × (many_at (value_at d) n b ≡ Ok (vs, rest)) × (length vs ≡ n)
    × (new ≡ old ++ canonical_all (vals_of vs))

-- the same of a key and a value
abbrev pub TranscodesPair : ℕ → List ℕ → List ℕ → List ℕ → List ℕ → Type 0
TranscodesPair d b rest old new =
    (k v : Val) × (middle : List ℕ) × (value_at d b ≡ Ok (k, middle)) × (value_at d middle ≡ Ok (v, rest))
    × (new ≡ old ++ (canonical k ++ canonical v))

-- the same of so many pairs
abbrev pub TranscodesPairs : ℕ → ℕ → List ℕ → List ℕ → List ℕ → List ℕ → Type 0
TranscodesPairs d n b rest old new =
    (pairs : List (Val × Val)) × (entries_at (value_at d) n b ≡ Ok (pairs, rest)) × (length pairs ≡ n)
    × (new ≡ old ++ canonical_entries (entries_of pairs))
