-- The list of kept bytes.
use Rattle.std.proofs.Common.{◌≡◌, ℕ, suc, ◌+◌, ◌≤◌, ◌<◌, Bool, true, false, cond, ◌||◌, List, [], ◌∷◌, ◌++◌, length, get_or, Option, Some, None, refl, sym, ◌∙◌, ap, subst, arith}
use Rattle.std.specs.Prelude.{is_some, filter}
use Rattle.std.specs.List.{position, position_from, remove}
use Rattle.std.proofs.lemmas.Iterator.Adapters.{position_from-zero}
use Rattle.fwd_secure.specs.declared.handshakes.KeptBytes.{KeptBytes}
use Rattle.fwd_secure.specs.Kept.{is_given, first_given, without_first_given, holds, IsPiece, ArePieces}

module _ (paused : ℕ) where
  -- something is given exactly if it is held
  pub holds-first : (kept : List KeptBytes) → holds paused kept ≡ is_some (first_given paused kept)
  holds-first [] = refl
  holds-first (b ∷ kept) = by (is_given paused b) (holds-first kept)
    where
      by : (t : Bool) → holds paused kept ≡ is_some (first_given paused kept) → (t || holds paused kept) ≡ is_some (cond t (Some b) (first_given paused kept))
      by true rest = refl
      by false rest = rest

  pub first_length : (kept : List KeptBytes) (x : KeptBytes) → first_given paused kept ≡ Some x → length (without_first_given paused kept) + 1 ≡ length kept
  first_length [] x is = absurd (cc is)
  first_length (b ∷ kept) x is = by (is_given paused b) (first_length kept x) is
    where
      by : (t : Bool) → (first_given paused kept ≡ Some x → length (without_first_given paused kept) + 1 ≡ length kept)
          → cond t (Some b) (first_given paused kept) ≡ Some x → length (cond t kept (b ∷ without_first_given paused kept)) + 1 ≡ length (b ∷ kept)
      by true rest i = omega arith
      by false rest i = let shorter : length (without_first_given paused kept) + 1 ≡ length kept = rest i in omega arith

  pub first_piece : (kept : List KeptBytes) (x : KeptBytes) → ArePieces kept → first_given paused kept ≡ Some x → IsPiece x
  first_piece [] x pieces is = absurd (cc is)
  first_piece (b ∷ kept) x pieces is = by (is_given paused b) (first_piece kept x pieces.1) is
    where
      by : (t : Bool) → (first_given paused kept ≡ Some x → IsPiece x) → cond t (Some b) (first_given paused kept) ≡ Some x → IsPiece x
      by true rest i = let same : b ≡ x = cc i in subst IsPiece same pieces.0
      by false rest i = rest i

  pub first_allowed : (kept : List KeptBytes) (x : KeptBytes) → first_given paused kept ≡ Some x → is_given paused x ≡ true
  first_allowed [] x is = absurd (cc is)
  first_allowed (b ∷ kept) x is = by (is_given paused b) refl (first_allowed kept x) is
    where
      by : (t : Bool) → is_given paused b ≡ t → (first_given paused kept ≡ Some x → is_given paused x ≡ true) → cond t (Some b) (first_given paused kept) ≡ Some x → is_given paused x ≡ true
      by true given rest i = let same : b ≡ x = cc i in subst (λ (y : KeptBytes). is_given paused y ≡ true) same given
      by false given rest i = rest i

  pub rest_pieces : (kept : List KeptBytes) → ArePieces kept → ArePieces (without_first_given paused kept)
  rest_pieces [] pieces = tt
  rest_pieces (b ∷ kept) pieces = by (is_given paused b) (rest_pieces kept pieces.1)
    where
      by : (t : Bool) → ArePieces (without_first_given paused kept) → ArePieces (cond t kept (b ∷ without_first_given paused kept))
      by true rest = pieces.1
      by false rest = (pieces.0, rest)

pub filter_pieces : (p : KeptBytes → Bool) (kept : List KeptBytes) → ArePieces kept → ArePieces (filter p kept)
filter_pieces p [] pieces = tt
filter_pieces p (b ∷ kept) pieces = by (p b) (filter_pieces p kept pieces.1)
  where
    by : (t : Bool) → ArePieces (filter p kept) → ArePieces (cond t (b ∷ filter p kept) (filter p kept))
    by true rest = (pieces.0, rest)
    by false rest = rest

pub push_pieces : (kept : List KeptBytes) (b : KeptBytes) → ArePieces kept → IsPiece b → ArePieces (kept ++ b ∷ [])
push_pieces [] b pieces piece = (piece, tt)
push_pieces (x ∷ kept) b pieces piece = (pieces.0, push_pieces kept b pieces.1 piece)

pub filter_length : (p : KeptBytes → Bool) (kept : List KeptBytes) → length (filter p kept) ≤ length kept
filter_length p [] = omega arith
filter_length p (b ∷ kept) = by (p b) (filter_length p kept)
  where
    by : (t : Bool) → length (filter p kept) ≤ length kept → length (cond t (b ∷ filter p kept) (filter p kept)) ≤ length (b ∷ kept)
    by true rest = omega arith
    by false rest = omega arith

-- ---- the index of the first that is given

-- what stands at an index, and what is left without it
pub record StandsAt (kept : List KeptBytes) (index : ℕ) (found : Option KeptBytes) (rest : List KeptBytes) : Type 0 where
  pub within : index < length kept
  pub is : (d : KeptBytes) → found ≡ Some (get_or kept index d)
  pub left : remove kept index ≡ rest

stands_first : (b : KeptBytes) (kept : List KeptBytes) → StandsAt (b ∷ kept) 0 (Some b) kept
stands_first b kept = record { within = omega arith; is = λ d. refl; left = refl }

stands_later : (b : KeptBytes) (kept : List KeptBytes) (index : ℕ) (found : Option KeptBytes) (rest : List KeptBytes) → StandsAt kept index found rest → StandsAt (b ∷ kept) (suc index) found (b ∷ rest)
stands_later b kept index found rest at = record { within = omega (arith, at.within); is = at.is; left = ap (λ (l : List KeptBytes). b ∷ l) at.left }

same_index : (i index : ℕ) → Some i ≡ Some index → index ≡ i
same_index i index is = cc is

module _ (paused : ℕ) where
  abbrev Found : List KeptBytes → ℕ → ℕ → Type 0
  Found kept i index = (n : ℕ) × (index ≡ i + n) × StandsAt kept n (first_given paused kept) (without_first_given paused kept)

  at_position : (kept : List KeptBytes) (i index : ℕ) → position_from (is_given paused) i kept ≡ Some index → Found kept i index
  at_position [] i index is = absurd (cc is)
  at_position (b ∷ kept) i index is = by (is_given paused b) (at_position kept (i + 1) index) is
    where
      by : (t : Bool) → (position_from (is_given paused) (i + 1) kept ≡ Some index → Found kept (i + 1) index)
          → cond t (Some i) (position_from (is_given paused) (i + 1) kept) ≡ Some index
          → (n : ℕ) × (index ≡ i + n) × StandsAt (b ∷ kept) n (cond t (Some b) (first_given paused kept)) (cond t kept (b ∷ without_first_given paused kept))
      by true later at = let same : index ≡ i = same_index i index at in (0, omega (arith, same), stands_first b kept)
      by false later at =
          let found : Found kept (i + 1) index = later at in
          (suc found.0, omega (arith, found.1), stands_later b kept found.0 (first_given paused kept) (without_first_given paused kept) found.2)

  -- by the index that `position` gives
  pub first_stands : (kept : List KeptBytes) (index : ℕ) → Some index ≡ position (is_given paused) kept → StandsAt kept index (first_given paused kept) (without_first_given paused kept)
  first_stands kept index is =
      let found : Found kept 0 index = at_position kept 0 index (sym (is ∙ position_from-zero (is_given paused) kept)) in
      let same : found.0 ≡ index = omega (arith, found.1) in
      subst (λ (n : ℕ). StandsAt kept n (first_given paused kept) (without_first_given paused kept)) same found.2

  none_from : (kept : List KeptBytes) (i : ℕ) → position_from (is_given paused) i kept ≡ None → (None ≡ first_given paused kept) × (kept ≡ without_first_given paused kept)
  none_from [] i is = (refl, refl)
  none_from (b ∷ kept) i is = by (is_given paused b) (none_from kept (i + 1)) is
    where
      by : (t : Bool) → (position_from (is_given paused) (i + 1) kept ≡ None → (None ≡ first_given paused kept) × (kept ≡ without_first_given paused kept))
          → cond t (Some i) (position_from (is_given paused) (i + 1) kept) ≡ None
          → (None ≡ cond t (Some b) (first_given paused kept)) × (b ∷ kept ≡ cond t kept (b ∷ without_first_given paused kept))
      by true later none = absurd (cc none)
      by false later none = let rest = later none in (rest.0, ap (λ (l : List KeptBytes). b ∷ l) rest.1)

  -- if `position` gives none, none is given and all stay
  pub none_stands : (kept : List KeptBytes) → None ≡ position (is_given paused) kept → (None ≡ first_given paused kept) × (kept ≡ without_first_given paused kept)
  none_stands kept is = none_from kept 0 (sym (is ∙ position_from-zero (is_given paused) kept))
