-- The kept bytes of a connection.
use Rattle.std.proofs.Common.{◌≡◌, ℕ, Bool, true, false, cond, not, ◌||◌, if◌then◌else◌, eqb, List, [], ◌∷◌, ◌++◌, Some, None, refl, sym, ap, subst, ◌∙◌, append_assoc, append-nil}
use Rattle.std.specs.Prelude.{filter}
use Rattle.std.specs.List.{list_any}
use Rattle.std.specs.Int.{IsBitSet, bit_at}
use Rattle.std.proofs.lemmas.Nat.{bit_set_by_shift}
use Rattle.std.proofs.lemmas.Nat.Bits.{shr_and_one}
use Rattle.std.proofs.lemmas.Bool.{eqb-true, eq-eqb}
use Rattle.std.proofs.lemmas.List.Folds.{list_any-append}
use Rattle.fwd_base.specs.declared.ids.InputId.{InputId}
use Rattle.fwd_base.specs.declared.ids.ConnId.{ConnId}
use Rattle.fwd_secure.specs.declared.handshakes.KeptBytes.{KeptBytes}
use Rattle.fwd_secure.specs.declared.handshakes.KeptBytes.TheVariants.{OfConn, OfLink}
use Rattle.fwd_secure.specs.Kept.{is_given, is_of_conn, is_of_link, first_given, without_first_given}
use Rattle.fwd_theorem_keys.specs.Traffic.{is_conn}
use Rattle.fwd_theorem_keys.proofs.Entries.{neither, not_both, conn_same, conn_is}

module _ (input : InputId) (conn : ConnId) where
  abbrev pub is_kept : KeptBytes → Bool
  is_kept (OfConn i c bytes) = is_conn input conn i c
  is_kept (OfLink link bytes) = false

  abbrev pub has_kept : List KeptBytes → Bool
  has_kept kept = list_any is_kept kept

  abbrev pub bytes_in : KeptBytes → List ℕ
  bytes_in (OfConn i c bytes) = if is_conn input conn i c then bytes else []
  bytes_in (OfLink link bytes) = []

  abbrev pub kept_bytes : List KeptBytes → List ℕ
  kept_bytes [] = []
  kept_bytes (b ∷ kept) = bytes_in b ++ kept_bytes kept

  pub bytes_none : (b : KeptBytes) → is_kept b ≡ false → bytes_in b ≡ []
  bytes_none (OfConn i c bytes) is = ap (λ (t : Bool). if t then bytes else []) is
  bytes_none (OfLink link bytes) is = refl

  pub bytes_own : (bytes : List ℕ) → bytes_in (OfConn input conn bytes) ≡ bytes
  bytes_own bytes = ap (λ (t : Bool). if t then bytes else []) (conn_same input conn)

  pub none_bytes : (kept : List KeptBytes) → has_kept kept ≡ false → kept_bytes kept ≡ []
  none_bytes [] is = refl
  none_bytes (b ∷ kept) is = by (is_kept b) refl (none_bytes kept) is
    where
      by : (t : Bool) → is_kept b ≡ t → (has_kept kept ≡ false → kept_bytes kept ≡ []) → (t || has_kept kept) ≡ false → bytes_in b ++ kept_bytes kept ≡ []
      by true of_b later i = absurd (cc i)
      by false of_b later i = ap (λ (l : List ℕ). l ++ kept_bytes kept) (bytes_none b of_b) ∙ later i

  -- ---- one more

  pub has_more : (kept : List KeptBytes) (b : KeptBytes) → is_kept b ≡ false → has_kept (kept ++ b ∷ []) ≡ true → has_kept kept ≡ true
  has_more kept b off is = by (has_kept kept) refl
    where
      by : (t : Bool) → has_kept kept ≡ t → t ≡ true
      by true i = refl
      by false i = absurd (not_both (has_kept (kept ++ b ∷ [])) is (list_any-append is_kept kept (b ∷ []) ∙ neither (has_kept kept) (has_kept (b ∷ [])) i (neither (is_kept b) false off refl)))

  pub bytes_append : (kept : List KeptBytes) (b : KeptBytes) → kept_bytes (kept ++ b ∷ []) ≡ kept_bytes kept ++ bytes_in b
  bytes_append [] b = append-nil (bytes_in b)
  bytes_append (x ∷ kept) b = ap (λ (l : List ℕ). bytes_in x ++ l) (bytes_append kept b) ∙ sym (append_assoc (bytes_in x) (kept_bytes kept) (bytes_in b))

  pub bytes_more : (kept : List KeptBytes) (b : KeptBytes) → is_kept b ≡ false → kept_bytes (kept ++ b ∷ []) ≡ kept_bytes kept
  bytes_more kept b off = bytes_append kept b ∙ ap (λ (l : List ℕ). kept_bytes kept ++ l) (bytes_none b off) ∙ append-nil (kept_bytes kept)

  -- ---- some are left out

  module _ (p : KeptBytes → Bool) (stays : (b : KeptBytes) → is_kept b ≡ true → p b ≡ true) where
    pub filter_bytes : (kept : List KeptBytes) → kept_bytes (filter p kept) ≡ kept_bytes kept
    filter_bytes [] = refl
    filter_bytes (b ∷ kept) = by (p b) refl (filter_bytes kept)
      where
        off : (t : Bool) → is_kept b ≡ t → p b ≡ false → bytes_in b ≡ []
        off true of_b is = absurd (not_both (p b) (stays b of_b) is)
        off false of_b is = bytes_none b of_b

        by : (t : Bool) → p b ≡ t → kept_bytes (filter p kept) ≡ kept_bytes kept → kept_bytes (cond t (b ∷ filter p kept) (filter p kept)) ≡ bytes_in b ++ kept_bytes kept
        by true is rest = ap (λ (l : List ℕ). bytes_in b ++ l) rest
        by false is rest = rest ∙ sym (ap (λ (l : List ℕ). l ++ kept_bytes kept) (off (is_kept b) refl is))

  pub filter_has : (p : KeptBytes → Bool) (kept : List KeptBytes) → has_kept (filter p kept) ≡ true → has_kept kept ≡ true
  filter_has p [] is = is
  filter_has p (b ∷ kept) is = by (p b) (is_kept b) refl (filter_has p kept) is
    where
      or_false : (u : Bool) (w : Bool) → u ≡ false → (u || w) ≡ true → w ≡ true
      or_false u w off i = rw off at i

      by : (t u : Bool) → is_kept b ≡ u → (has_kept (filter p kept) ≡ true → has_kept kept ≡ true) → has_kept (cond t (b ∷ filter p kept) (filter p kept)) ≡ true → (u || has_kept kept) ≡ true
      by t true of_b later i = refl
      by true false of_b later i = later (or_false (is_kept b) (has_kept (filter p kept)) of_b i)
      by false false of_b later i = later i

  pub filter_none : (p : KeptBytes → Bool) → ((b : KeptBytes) → is_kept b ≡ true → p b ≡ false) → (kept : List KeptBytes) → has_kept (filter p kept) ≡ false
  filter_none p goes [] = refl
  filter_none p goes (b ∷ kept) = by (p b) refl (filter_none p goes kept)
    where
      off : (u : Bool) → is_kept b ≡ u → p b ≡ true → is_kept b ≡ false
      off true of_b is = absurd (not_both (p b) is (goes b of_b))
      off false of_b is = of_b

      by : (t : Bool) → p b ≡ t → has_kept (filter p kept) ≡ false → has_kept (cond t (b ∷ filter p kept) (filter p kept)) ≡ false
      by true is rest = neither (is_kept b) (has_kept (filter p kept)) (off (is_kept b) refl is) rest
      by false is rest = rest

  -- those of a dropped connection
  pub kept_is_of : (b : KeptBytes) → is_kept b ≡ true → not (is_of_conn conn.0 b) ≡ false
  kept_is_of (OfConn i c bytes) is = subst (λ (d : ConnId). not (eqb d.0 conn.0) ≡ false) (sym ((conn_is input conn i c is).1)) (ap not (eq-eqb conn.0 conn.0 refl))
  kept_is_of (OfLink link bytes) is = absurd (cc is)

  pub kept_is_other : (c : ℕ) → (conn.0 ≡ c → ⊥) → (b : KeptBytes) → is_kept b ≡ true → not (is_of_conn c b) ≡ true
  kept_is_other c ne (OfConn i d bytes) is = by (eqb d.0 c) refl
    where
      by : (t : Bool) → eqb d.0 c ≡ t → not t ≡ true
      by true same = absurd (ne (ap (λ (e : ConnId). e.0) (sym ((conn_is input conn i d is).1)) ∙ eqb-true d.0 c same))
      by false same = refl
  kept_is_other c ne (OfLink link bytes) is = absurd (cc is)

  pub kept_no_link : (link : ℕ) (b : KeptBytes) → is_kept b ≡ true → not (is_of_link link b) ≡ true
  kept_no_link link (OfConn i d bytes) is = refl
  kept_no_link link (OfLink other bytes) is = absurd (cc is)

  -- ---- the first that is given

  module _ (paused : ℕ) where
    bit_is_set : eqb (bit_at paused input.0) 1 ≡ true → IsBitSet paused input.0
    bit_is_set is = (bit_set_by_shift paused input.0).0 (shr_and_one paused input.0 ∙ eqb-true (bit_at paused input.0) 1 is)

    -- nothing is given, and the input isn't paused
    pub none_kept : (kept : List KeptBytes) → first_given paused kept ≡ None → (IsBitSet paused input.0 → ⊥) → has_kept kept ≡ false
    none_kept [] none open_input = refl
    none_kept (b ∷ kept) none open_input = by (is_given paused b) refl (λ i. none_kept kept i open_input) none
      where
        off : (c : KeptBytes) (u : Bool) → is_kept c ≡ u → is_given paused c ≡ false → is_kept c ≡ false
        off c false of_c is = of_c
        off (OfConn i c bytes) true of_c is =
            let at_input : not (eqb (bit_at paused input.0) 1) ≡ false = subst (λ (j : InputId). not (eqb (bit_at paused j.0) 1) ≡ false) ((conn_is input conn i c of_c).0) is in
            absurd (open_input (bit_is_set (not_false (eqb (bit_at paused input.0) 1) at_input)))
          where
            not_false : (t : Bool) → not t ≡ false → t ≡ true
            not_false true e = refl
            not_false false e = absurd (cc e)
        off (OfLink link bytes) true of_c is = absurd (cc of_c)

        by : (t : Bool) → is_given paused b ≡ t → (first_given paused kept ≡ None → has_kept kept ≡ false) → cond t (Some b) (first_given paused kept) ≡ None → (is_kept b || has_kept kept) ≡ false
        by true given later i = absurd (cc i)
        by false given later i = neither (is_kept b) (has_kept kept) (off b (is_kept b) refl given) (later i)

    same_some : (x y : KeptBytes) → Some x ≡ Some y → x ≡ y
    same_some x y is = cc is

    pub first_has : (kept : List KeptBytes) (x : KeptBytes) → first_given paused kept ≡ Some x → is_kept x ≡ true → has_kept kept ≡ true
    first_has [] x is own = absurd (cc is)
    first_has (b ∷ kept) x is own = by (is_given paused b) (is_kept b) refl (λ i. first_has kept x i own) is
      where
        by : (t u : Bool) → is_kept b ≡ u → (first_given paused kept ≡ Some x → has_kept kept ≡ true) → cond t (Some b) (first_given paused kept) ≡ Some x → (u || has_kept kept) ≡ true
        by t true of_b later i = refl
        by true false of_b later i = absurd (not_both (is_kept b) (subst (λ (y : KeptBytes). is_kept y ≡ true) (sym (same_some b x i)) own) of_b)
        by false false of_b later i = later i

    first_allowed : (kept : List KeptBytes) (x : KeptBytes) → first_given paused kept ≡ Some x → is_given paused x ≡ true
    first_allowed [] x is = absurd (cc is)
    first_allowed (b ∷ kept) x is = by (is_given paused b) refl (first_allowed kept x) is
      where
        by : (t : Bool) → is_given paused b ≡ t → (first_given paused kept ≡ Some x → is_given paused x ≡ true) → cond t (Some b) (first_given paused kept) ≡ Some x → is_given paused x ≡ true
        by true given rest i = subst (λ (y : KeptBytes). is_given paused y ≡ true) (same_some b x i) given
        by false given rest i = rest i

    -- bytes of one connection are given alike
    alike : (b x : KeptBytes) → is_kept b ≡ true → is_kept x ≡ true → is_given paused x ≡ is_given paused b
    alike (OfConn i c bytes) (OfConn j d more) of_b of_x = ap (λ (l : InputId). not (eqb (bit_at paused l.0) 1)) ((conn_is input conn j d of_x).0 ∙ sym ((conn_is input conn i c of_b).0))
    alike (OfLink link bytes) x of_b of_x = absurd (cc of_b)
    alike (OfConn i c bytes) (OfLink link more) of_b of_x = absurd (cc of_x)

    pub first_own : (kept : List KeptBytes) (x : KeptBytes) → first_given paused kept ≡ Some x → is_kept x ≡ true → kept_bytes kept ≡ bytes_in x ++ kept_bytes (without_first_given paused kept)
    first_own [] x is own = absurd (cc is)
    first_own (b ∷ kept) x is own = by (is_given paused b) refl (λ i. first_own kept x i own) is
      where
        off : (u : Bool) → is_kept b ≡ u → is_given paused b ≡ false → first_given paused kept ≡ Some x → bytes_in b ≡ []
        off true of_b given i = absurd (not_both (is_given paused b) (sym (alike b x of_b own) ∙ first_allowed kept x i) given)
        off false of_b given i = bytes_none b of_b

        by : (t : Bool) → is_given paused b ≡ t → (first_given paused kept ≡ Some x → kept_bytes kept ≡ bytes_in x ++ kept_bytes (without_first_given paused kept)) → cond t (Some b) (first_given paused kept) ≡ Some x
            → bytes_in b ++ kept_bytes kept ≡ bytes_in x ++ kept_bytes (cond t kept (b ∷ without_first_given paused kept))
        by true given later i = ap (λ (y : KeptBytes). bytes_in y ++ kept_bytes kept) (same_some b x i)
        by false given later i =
            let none : bytes_in b ≡ [] = off (is_kept b) refl given i in
            ap (λ (l : List ℕ). l ++ kept_bytes kept) none ∙ later i
            ∙ sym (ap (λ (l : List ℕ). bytes_in x ++ (l ++ kept_bytes (without_first_given paused kept))) none)

    pub first_other : (kept : List KeptBytes) (x : KeptBytes) → first_given paused kept ≡ Some x → is_kept x ≡ false → kept_bytes (without_first_given paused kept) ≡ kept_bytes kept
    first_other [] x is other = refl
    first_other (b ∷ kept) x is other = by (is_given paused b) (λ i. first_other kept x i other) is
      where
        by : (t : Bool) → (first_given paused kept ≡ Some x → kept_bytes (without_first_given paused kept) ≡ kept_bytes kept) → cond t (Some b) (first_given paused kept) ≡ Some x → kept_bytes (cond t kept (b ∷ without_first_given paused kept)) ≡ bytes_in b ++ kept_bytes kept
        by true later i = sym (ap (λ (l : List ℕ). l ++ kept_bytes kept) (bytes_none b (subst (λ (y : KeptBytes). is_kept y ≡ false) (sym (same_some b x i)) other)))
        by false later i = ap (λ (l : List ℕ). bytes_in b ++ l) (later i)

    pub without_has : (kept : List KeptBytes) → has_kept (without_first_given paused kept) ≡ true → has_kept kept ≡ true
    without_has [] is = is
    without_has (b ∷ kept) is = by (is_given paused b) (is_kept b) refl (without_has kept) is
      where
        or_false : (u : Bool) (w : Bool) → u ≡ false → (u || w) ≡ true → w ≡ true
        or_false u w off i = rw off at i

        by : (t u : Bool) → is_kept b ≡ u → (has_kept (without_first_given paused kept) ≡ true → has_kept kept ≡ true) → has_kept (cond t kept (b ∷ without_first_given paused kept)) ≡ true → (u || has_kept kept) ≡ true
        by t true of_b later i = refl
        by true false of_b later i = i
        by false false of_b later i = later (or_false (is_kept b) (has_kept (without_first_given paused kept)) of_b i)
