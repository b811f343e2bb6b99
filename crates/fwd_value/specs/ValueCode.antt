-- The code of a value as a tree of numbers, and back, which models of lists of values need.
use Rattle.std.specs.Prelude.{◌≡◌, ℕ, zero, suc, pos, negsuc, true, false, List, [], ◌∷◌, refl}
use Rattle.std.proofs.Common.{ap}
use Rattle.std.specs.Coded.{Coded, code_by}
use base.Stored.{Gv, gnil, gnum, gcons}
use denote.Struct.Codes.{itself}
use Rattle.fwd_value.specs.Val.{Val, nil, truth, whole, text, bin, float32, float64, ext, list, mapping, Vals, no_vals, val, Entries, no_entries, entry}

abbrev bytes_to : List ℕ → Gv
bytes_to [] = gnil
bytes_to (x ∷ xs) = gcons (gnum x) (bytes_to xs)

abbrev bytes_from : Gv → List ℕ
bytes_from (gcons (gnum x) g) = x ∷ bytes_from g
bytes_from _ = []

pub bytes_back : (s : List ℕ) → bytes_from (bytes_to s) ≡ s
bytes_back [] = refl
bytes_back (x ∷ xs) = ap (λ (t : List ℕ). x ∷ t) (bytes_back xs)

abbrev mutual
  val_to : Val → Gv
  val_to nil = gnil
  val_to (truth false) = gnum 0
  val_to (truth true) = gnum 1
  val_to (whole (pos n)) = gcons (gnum 0) (gnum n)
  val_to (whole (negsuc n)) = gcons (gnum 1) (gnum n)
  val_to (text s) = gcons (gnum 2) (bytes_to s)
  val_to (bin s) = gcons (gnum 3) (bytes_to s)
  val_to (float32 n) = gcons (gnum 4) (gnum n)
  val_to (float64 n) = gcons (gnum 5) (gnum n)
  val_to (ext (pos t) s) = gcons (gnum 6) (gcons (gnum t) (bytes_to s))
  val_to (ext (negsuc t) s) = gcons (gnum 7) (gcons (gnum t) (bytes_to s))
  val_to (list vs) = gcons (gnum 8) (vals_to vs)
  val_to (mapping es) = gcons (gnum 9) (entries_to es)

  vals_to : Vals → Gv
  vals_to no_vals = gnil
  vals_to (val v vs) = gcons (val_to v) (vals_to vs)

  entries_to : Entries → Gv
  entries_to no_entries = gnil
  entries_to (entry k v es) = gcons (val_to k) (gcons (val_to v) (entries_to es))

abbrev mutual
  val_from : Gv → Val
  val_from gnil = nil
  val_from (gnum zero) = truth false
  val_from (gnum (suc _)) = truth true
  val_from (gcons (gnum zero) (gnum n)) = whole (pos n)
  val_from (gcons (gnum (suc zero)) (gnum n)) = whole (negsuc n)
  val_from (gcons (gnum (suc (suc zero))) g) = text (bytes_from g)
  val_from (gcons (gnum (suc (suc (suc zero)))) g) = bin (bytes_from g)
  val_from (gcons (gnum (suc (suc (suc (suc zero))))) (gnum n)) = float32 n
  val_from (gcons (gnum (suc (suc (suc (suc (suc zero)))))) (gnum n)) = float64 n
  val_from (gcons (gnum (suc (suc (suc (suc (suc (suc zero))))))) (gcons (gnum t) g)) =
      ext (pos t) (bytes_from g)
  val_from (gcons (gnum (suc (suc (suc (suc (suc (suc (suc zero)))))))) (gcons (gnum t) g)) =
      ext (negsuc t) (bytes_from g)
  val_from (gcons (gnum (suc (suc (suc (suc (suc (suc (suc (suc zero))))))))) g) = list (vals_from g)
  val_from (gcons (gnum (suc (suc (suc (suc (suc (suc (suc (suc (suc zero)))))))))) g) =
      mapping (entries_from g)
  val_from _ = nil

  vals_from : Gv → Vals
  vals_from (gcons g h) = val (val_from g) (vals_from h)
  vals_from _ = no_vals

  entries_from : Gv → Entries
  entries_from (gcons g (gcons h i)) = entry (val_from g) (val_from h) (entries_from i)
  entries_from _ = no_entries

mutual
  pub val_back : (v : Val) → val_from (val_to v) ≡ v
  val_back nil = refl
  val_back (truth false) = refl
  val_back (truth true) = refl
  val_back (whole (pos n)) = refl
  val_back (whole (negsuc n)) = refl
  val_back (text s) = ap text (bytes_back s)
  val_back (bin s) = ap bin (bytes_back s)
  val_back (float32 n) = refl
  val_back (float64 n) = refl
  val_back (ext (pos t) s) = ap (ext (pos t)) (bytes_back s)
  val_back (ext (negsuc t) s) = ap (ext (negsuc t)) (bytes_back s)
  val_back (list vs) = ap list (vals_back vs)
  val_back (mapping es) = ap mapping (entries_back es)

  pub vals_back : (vs : Vals) → vals_from (vals_to vs) ≡ vs
  vals_back no_vals = refl
  vals_back (val v vs) = λ i. val (val_back v i) (vals_back vs i)

  pub entries_back : (es : Entries) → entries_from (entries_to es) ≡ es
  entries_back no_entries = refl
  entries_back (entry k v es) = λ i. entry (val_back k i) (val_back v i) (entries_back es i)

-- the code of a value
abbrev pub val_code : Coded Val
val_code = code_by Gv itself val_to val_from val_back
