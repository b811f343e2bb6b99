-- Decoding values one after another, as a loop does.
use Rattle.std.proofs.Common.{◌≡◌, ℕ, zero, suc, ◌-◌, ◌+◌, ◌≤◌, ◌<◌, List, [], ◌∷◌, ◌++◌, length, Some, Ok, Err, refl, sym, ap, ◌∙◌, append_assoc, arith}
use Rattle.std.proofs.lemmas.List.{append-nil}
use Rattle.fwd_value.specs.Val.{Val}
use Rattle.fwd_msgpack.specs.declared.fault.ReadErr.{ReadErr}
use Rattle.fwd_msgpack.specs.declared.fault.ReadErr.TheVariants as errors
use Rattle.fwd_msgpack.specs.Decoder.{◌>>=◌, FailsAs, Read, many_at, entries_at, list_at, map_at, after, inner, value_at, value_by}
use Rattle.fwd_msgpack.specs.declared.fault.FormatErr.TheVariants.{TooDeep}
use Rattle.fwd_msgpack.specs.declared.form.Count.{Count}
use Rattle.fwd_msgpack.specs.declared.form.Form.TheVariants as form

pub inner-is : (d : ℕ) → 0 < d → inner d ≡ Some (value_by (inner (d - 1)))
unfolding inner
inner-is zero lt = absurd (omega arith)
inner-is (suc d) lt = let e : suc d - 1 ≡ d = omega arith in rw e refl

-- lists and maps where none may be, and one level down
pub list_none : (d : ℕ) (k : Count) (b : List ℕ) → d ≡ 0 → after (inner d) (form.Array k) b ≡ Err (TooDeep (length b + 1))
unfolding inner after
list_none d k b e = rw e refl

pub map_none : (d : ℕ) (k : Count) (b : List ℕ) → d ≡ 0 → after (inner d) (form.Map k) b ≡ Err (TooDeep (length b + 1))
unfolding inner after
map_none d k b e = rw e refl

pub list_in : (d : ℕ) (k : Count) (b : List ℕ) → 0 < d → after (inner d) (form.Array k) b ≡ list_at (value_at (d - 1)) k b
unfolding after
list_in d k b lt = rw (inner-is d lt) refl

pub map_in : (d : ℕ) (k : Count) (b : List ℕ) → 0 < d → after (inner d) (form.Map k) b ≡ map_at (value_at (d - 1)) k b
unfolding after
map_in d k b lt = rw (inner-is d lt) refl

module _ {A : Type 0} where
  -- the values decoded before, and those still to decode
  abbrev pub with_front : List A → Read (List A) → Read (List A)
  with_front front read = read >>= λ x. Ok (front ++ x.0, x.1)

  pub regroup : (front : List A) (n : A) (read : Read (List A)) → with_front front (read >>= λ x. Ok (n ∷ x.0, x.1)) ≡ with_front (front ++ n ∷ []) read
  regroup front n (Ok x) = ap (λ (ns : List A). Ok (ns, x.1)) (simp append_assoc)
  regroup front n (Err f) = refl

module _ (p : List ℕ → Read Val) where
  pub goes_on : (front : List Val) (count i : ℕ) (bytes : List ℕ) (v : Val) (after : List ℕ) (total : Read (List Val)) → i < count → p bytes ≡ Ok (v, after)
      → with_front front (many_at p (count - i) bytes) ≡ total → with_front (front ++ v ∷ []) (many_at p (count - (i + 1)) after) ≡ total
  unfolding many_at
  goes_on front count i bytes v after total lt h so_far =
      let k : count - i ≡ suc (count - (i + 1)) = omega arith in
      let one : with_front front (many_at p (count - i) bytes) ≡ with_front (front ++ v ∷ []) (many_at p (count - (i + 1)) after) = rw (k, h) (regroup front v (many_at p (count - (i + 1)) after)) in
      sym one ∙ so_far

  pub ends : (e : ReadErr) (front : List Val) (count i : ℕ) (bytes : List ℕ) (total : Read (List Val)) → i < count → FailsAs e (p bytes)
      → with_front front (many_at p (count - i) bytes) ≡ total → FailsAs e total
  unfolding many_at
  ends errors.Memory front count i bytes total lt h so_far = tt
  ends (errors.Format f) front count i bytes total lt h so_far =
      let k : count - i ≡ suc (count - (i + 1)) = omega arith in
      let one : with_front front (many_at p (count - i) bytes) ≡ Err f = rw (k, h) refl in
      sym so_far ∙ one

  pub is_done : (front : List Val) (count i : ℕ) (bytes : List ℕ) (total : Read (List Val)) → count ≤ i → with_front front (many_at p (count - i) bytes) ≡ total → total ≡ Ok (front, bytes)
  unfolding many_at
  is_done front count i bytes total le so_far =
      let k : count - i ≡ 0 = omega arith in
      let one : with_front front (many_at p (count - i) bytes) ≡ Ok (front, bytes) = rw k (ap (λ (ns : List Val). Ok (ns, bytes)) (append-nil front)) in
      sym so_far ∙ one

  pub pair_goes_on : (front : List (Val × Val)) (count i : ℕ) (bytes : List ℕ) (k : Val) (between : List ℕ) (v : Val) (after : List ℕ) (total : Read (List (Val × Val))) → i < count → p bytes ≡ Ok (k, between) → p between ≡ Ok (v, after)
      → with_front front (entries_at p (count - i) bytes) ≡ total → with_front (front ++ (k, v) ∷ []) (entries_at p (count - (i + 1)) after) ≡ total
  unfolding entries_at
  pair_goes_on front count i bytes k between v after total lt h g so_far =
      let e : count - i ≡ suc (count - (i + 1)) = omega arith in
      let one : with_front front (entries_at p (count - i) bytes) ≡ with_front (front ++ (k, v) ∷ []) (entries_at p (count - (i + 1)) after) = rw (e, h, g) (regroup front (k, v) (entries_at p (count - (i + 1)) after)) in
      sym one ∙ so_far

  pub key_ends : (e : ReadErr) (front : List (Val × Val)) (count i : ℕ) (bytes : List ℕ) (total : Read (List (Val × Val))) → i < count → FailsAs e (p bytes)
      → with_front front (entries_at p (count - i) bytes) ≡ total → FailsAs e total
  unfolding entries_at
  key_ends errors.Memory front count i bytes total lt h so_far = tt
  key_ends (errors.Format f) front count i bytes total lt h so_far =
      let e : count - i ≡ suc (count - (i + 1)) = omega arith in
      let one : with_front front (entries_at p (count - i) bytes) ≡ Err f = rw (e, h) refl in
      sym so_far ∙ one

  pub value_ends : (e : ReadErr) (front : List (Val × Val)) (count i : ℕ) (bytes : List ℕ) (k : Val) (between : List ℕ) (total : Read (List (Val × Val))) → i < count → p bytes ≡ Ok (k, between) → FailsAs e (p between)
      → with_front front (entries_at p (count - i) bytes) ≡ total → FailsAs e total
  unfolding entries_at
  value_ends errors.Memory front count i bytes k between total lt h g so_far = tt
  value_ends (errors.Format f) front count i bytes k between total lt h g so_far =
      let e : count - i ≡ suc (count - (i + 1)) = omega arith in
      let one : with_front front (entries_at p (count - i) bytes) ≡ Err f = rw (e, h, g) refl in
      sym so_far ∙ one

  pub pairs_done : (front : List (Val × Val)) (count i : ℕ) (bytes : List ℕ) (total : Read (List (Val × Val))) → count ≤ i → with_front front (entries_at p (count - i) bytes) ≡ total → total ≡ Ok (front, bytes)
  unfolding entries_at
  pairs_done front count i bytes total le so_far =
      let k : count - i ≡ 0 = omega arith in
      let one : with_front front (entries_at p (count - i) bytes) ≡ Ok (front, bytes) = rw k (ap (λ (ns : List (Val × Val)). Ok (ns, bytes)) (append-nil front)) in
      sym so_far ∙ one
