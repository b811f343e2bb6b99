-- The unfinished messages of the readers in a map, entry by entry.
use Rattle.std.proofs.Common.{arith, ◌≡◌, inl, inr, ◌⊎◌, ℕ, ◌+◌, ◌-◌, ◌^◌, ◌<◌, ◌≤◌, min, Bool, true, false, cond, List, [], ◌∷◌, Option, Some, None, refl, sym, ap, subst, ◌∙◌}
use Rattle.std.specs.Prelude.{fold, sum_by, nat_lt, ◌==◌, if◌then◌else◌}
use Rattle.std.specs.Map.{lookup, values_of}
use Rattle.std.specs.Ordering.{nat_cmp}
use Rattle.std.specs.BTreeMap.{is_at}
use Rattle.std.proofs.lemmas.Bool.{cases_Bool, eqb-true}
use Rattle.fwd_base.specs.declared.ids.ConnId.{ConnId}
use Rattle.fwd_wire.specs.Stream.{Ending, waiting}
use Rattle.fwd_in_forward.specs.Conn.{unfinished_bytes}
use Rattle.fwd_engine_inputs.specs.ReaderStates.{or_new_reader, has_paused_input, droppable_bytes, IsLargest}

-- ---- their sum, up to a limit

abbrev pub sum_from : ℕ → List Ending → ℕ
sum_from sum wires = fold (λ sum wire. sum + unfinished_bytes wire) sum wires

same_sums : (limit : ℕ) (wires : List Ending) (a b : ℕ) → min a limit ≡ min b limit → min (sum_from a wires) limit ≡ min (sum_from b wires) limit
same_sums limit [] a b is = is
same_sums limit (wire ∷ wires) a b is = same_sums limit wires (a + unfinished_bytes wire) (b + unfinished_bytes wire) (omega (arith, is))

-- ---- the largest

at_key : (n k : ℕ) → is_at (nat_cmp n) k ≡ true → n ≡ k
at_key n k is = elim (cases_Bool (nat_lt n k)) [
  | inl less ↦ absurd (cc (is, less))
  | inr isnt ↦ elim (cases_Bool (n == k)) [
    | inl same ↦ eqb-true n k same
    | inr differs ↦ absurd (cc (is, isnt, differs))
  ]
]

module _ (is_paused : ℕ → Bool) where
  -- the bytes of a connection by its entry, 0 if its input is paused
  abbrev pub bytes_by : List (ℕ × Ending) → ℕ → ℕ
  bytes_by entries conn = if is_paused conn then 0 else unfinished_bytes (or_new_reader (lookup (is_at (nat_cmp conn)) entries))

  -- each connection has at most so many bytes, or its entry is among the rest
  abbrev pub AreSeen : (ℕ → ℕ) → ℕ → List (ℕ × Ending) → Type 0
  AreSeen bytes most rest = (conn : ℕ) → (bytes conn ≤ most) ⊎ (bytes conn ≤ bytes_by rest conn)

  -- the connection that has so many bytes, if any has some
  abbrev pub HasMost : (ℕ → ℕ) → ℕ → Option ConnId → Type 0
  HasMost bytes most None = most ≡ 0
  HasMost bytes most (Some largest) = (bytes largest.0 ≡ most) × (1 ≤ most)

  seen_one : (bytes : ℕ → ℕ) (next k : ℕ) (wire : Ending) (rest : List (ℕ × Ending))
      → ((conn : ℕ) → conn ≡ k → (if is_paused conn then 0 else unfinished_bytes wire) ≤ next)
      → (conn : ℕ) → bytes conn ≤ bytes_by ((k, wire) ∷ rest) conn → (bytes conn ≤ next) ⊎ (bytes conn ≤ bytes_by rest conn)
  seen_one bytes next k wire rest here conn below = elim (cases_Bool (is_at (nat_cmp conn) k)) [
    | inl is ↦
        let at : bytes_by ((k, wire) ∷ rest) conn ≡ (if is_paused conn then 0 else unfinished_bytes wire) =
        ap (λ (b : Bool). if is_paused conn then 0 else unfinished_bytes (or_new_reader (cond b (Some wire) (lookup (is_at (nat_cmp conn)) rest)))) is in
        let h = here conn (at_key conn k is) in
        inl (omega (arith, at, h, below))
    | inr isnt ↦
        let at : bytes_by ((k, wire) ∷ rest) conn ≡ bytes_by rest conn =
        ap (λ (b : Bool). if is_paused conn then 0 else unfinished_bytes (or_new_reader (cond b (Some wire) (lookup (is_at (nat_cmp conn)) rest)))) isnt in
        inr (subst (λ (n : ℕ). bytes conn ≤ n) at below)
  ]

  seen_next : (bytes : ℕ → ℕ) (most next k : ℕ) (wire : Ending) (rest : List (ℕ × Ending)) → most ≤ next
      → ((conn : ℕ) → conn ≡ k → (if is_paused conn then 0 else unfinished_bytes wire) ≤ next)
      → AreSeen bytes most ((k, wire) ∷ rest) → AreSeen bytes next rest
  seen_next bytes most next k wire rest above here seen conn = elim (seen conn) [
    | inl below ↦ inl (omega (arith, below, above))
    | inr below ↦ seen_one bytes next k wire rest here conn below
  ]

  at_most : (b : Bool) (n : ℕ) (wire : Ending) → unfinished_bytes wire ≤ n → (if b then 0 else unfinished_bytes wire) ≤ n
  at_most true n wire is = omega arith
  at_most false n wire is = is

  seen_all : (bytes : ℕ → ℕ) (most : ℕ) → AreSeen bytes most [] → (conn : ℕ) → bytes conn ≤ most
  seen_all bytes most seen conn = elim (seen conn) [
    | inl below ↦ below
    | inr below ↦ let none = at_most (is_paused conn) 0 (waiting []) (omega arith) in omega (arith, below, none)
  ]

  largest_of : (bytes : ℕ → ℕ) (most : ℕ) (largest : Option ConnId) → AreSeen bytes most [] → HasMost bytes most largest → IsLargest bytes largest
  largest_of bytes most None seen none = λ conn. let h = seen_all bytes most seen conn in omega (arith, h, none)
  largest_of bytes most (Some largest) seen has =
      let is = has.0 in
      let some = has.1 in
      let first : 1 ≤ bytes largest.0 = omega (arith, is, some) in
      (first, λ conn. let h = seen_all bytes most seen conn in omega (arith, is, h))

  -- ---- both, with some entries left

  pub record AreCounted (entries : List (ℕ × Ending)) (sum most : ℕ) (largest : Option ConnId) (rest : List (ℕ × Ending)) : Type 0 where
    pub adds : min (sum_from sum (values_of rest)) (2 ^ 64 - 1) ≡ min (sum_by unfinished_bytes (values_of entries)) (2 ^ 64 - 1)
    pub fits : sum ≤ 2 ^ 64 - 1
    pub seen : AreSeen (bytes_by entries) most rest
    pub has : HasMost (bytes_by entries) most largest

  pub at_first : (entries : List (ℕ × Ending)) → AreCounted entries 0 0 None entries
  at_first entries = record { adds = refl; fits = omega arith; seen = λ conn. inr (omega arith); has = refl }

  -- one entry more, whose unfinished message has this size
  module _ (entries : List (ℕ × Ending)) (sum next most : ℕ) (largest : Option ConnId) (left : List (ℕ × Ending)) (k : ℕ) (wire : Ending) (rest : List (ℕ × Ending)) (size : ℕ)
      (is : left ≡ (k, wire) ∷ rest) (has_size : size ≡ unfinished_bytes wire) (added : next ≡ min (sum + size) (2 ^ 64 - 1)) (so_far : AreCounted entries sum most largest left) where
    here : AreCounted entries sum most largest ((k, wire) ∷ rest)
    here = subst (λ (l : List (ℕ × Ending)). AreCounted entries sum most largest l) is so_far

    adds_next : min (sum_from next (values_of rest)) (2 ^ 64 - 1) ≡ min (sum_by unfinished_bytes (values_of entries)) (2 ^ 64 - 1)
    adds_next = same_sums (2 ^ 64 - 1) (values_of rest) next (sum + unfinished_bytes wire) (omega (arith, added, has_size)) ∙ here.adds

    pub after_longer : (id : ConnId) → id.0 ≡ k → most < size → is_paused k ≡ false → lookup (is_at (nat_cmp k)) entries ≡ Some wire
        → AreCounted entries next size (Some id) rest
    after_longer id at longer unpaused found =
        let bytes : bytes_by entries k ≡ unfinished_bytes wire = rw (unpaused, found) refl in
        record {
          adds = adds_next;
          fits = omega (arith, added);
          seen = seen_next (bytes_by entries) most size k wire rest (omega (arith, longer)) (λ conn same. at_most (is_paused conn) size wire (omega (arith, has_size))) here.seen;
          has = ((ap (bytes_by entries) at ∙ bytes ∙ sym has_size), (omega (arith, longer)));
        }

    pub after_shorter : size ≤ most → AreCounted entries next most largest rest
    after_shorter shorter = record {
      adds = adds_next;
      fits = omega (arith, added);
      seen = seen_next (bytes_by entries) most most k wire rest (omega arith) (λ conn same. at_most (is_paused conn) most wire (omega (arith, has_size, shorter))) here.seen;
      has = here.has;
    }

    none : (conn : ℕ) → is_paused conn ≡ true → (if is_paused conn then 0 else unfinished_bytes wire) ≤ most
    none conn paused = rw paused (omega arith)

    pub after_paused : is_paused k ≡ true → AreCounted entries next most largest rest
    after_paused paused = record {
      adds = adds_next;
      fits = omega (arith, added);
      seen = seen_next (bytes_by entries) most most k wire rest (omega arith) (λ conn same. none conn (ap is_paused same ∙ paused)) here.seen;
      has = here.has;
    }

  -- no entry is left
  module _ (entries : List (ℕ × Ending)) (sum most : ℕ) (largest : Option ConnId) (left : List (ℕ × Ending)) (is : left ≡ []) (counted : AreCounted entries sum most largest left) where
    all : AreCounted entries sum most largest []
    all = subst (λ (l : List (ℕ × Ending)). AreCounted entries sum most largest l) is counted

    pub sum_at_end : sum ≡ min (sum_by unfinished_bytes (values_of entries)) (2 ^ 64 - 1)
    sum_at_end =
        let e : min sum (2 ^ 64 - 1) ≡ min (sum_by unfinished_bytes (values_of entries)) (2 ^ 64 - 1) = all.adds in
        let fits = all.fits in
        let same : sum ≡ min sum (2 ^ 64 - 1) = omega (arith, fits) in
        same ∙ e

    pub largest_at_end : IsLargest (bytes_by entries) largest
    largest_at_end = largest_of (bytes_by entries) most largest all.seen all.has

-- ---- the same bytes by other views

same_bytes : (paused : ℕ) (inputs other_inputs : ℕ → Option ℕ) (readers other_readers : ℕ → Ending) → ((conn : ℕ) → inputs conn ≡ other_inputs conn) → ((conn : ℕ) → readers conn ≡ other_readers conn)
    → (conn : ℕ) → droppable_bytes paused inputs readers conn ≡ droppable_bytes paused other_inputs other_readers conn
same_bytes paused inputs other_inputs readers other_readers same_input same_reader conn =
    ap (λ (input : Option ℕ). if has_paused_input paused input then 0 else unfinished_bytes (readers conn)) (same_input conn)
    ∙ ap (λ (wire : Ending). if has_paused_input paused (other_inputs conn) then 0 else unfinished_bytes wire) (same_reader conn)

same_largest : (bytes other : ℕ → ℕ) → ((conn : ℕ) → bytes conn ≡ other conn) → (largest : Option ConnId) → IsLargest bytes largest → IsLargest other largest
same_largest bytes other same None is = λ conn. sym (same conn) ∙ is conn
same_largest bytes other same (Some largest) is =
    let at = same largest.0 in
    let some = is.0 in
    let first : 1 ≤ other largest.0 = omega (arith, at, some) in
    (first, λ conn. let e = same conn in let below = is.1 conn in omega (arith, at, e, below))

pub largest_by_views : (paused : ℕ) (inputs other_inputs : ℕ → Option ℕ) (readers other_readers : ℕ → Ending) → ((conn : ℕ) → inputs conn ≡ other_inputs conn) → ((conn : ℕ) → readers conn ≡ other_readers conn)
    → (largest : Option ConnId) → IsLargest (droppable_bytes paused inputs readers) largest → IsLargest (droppable_bytes paused other_inputs other_readers) largest
largest_by_views paused inputs other_inputs readers other_readers same_input same_reader largest is =
    same_largest (droppable_bytes paused inputs readers) (droppable_bytes paused other_inputs other_readers) (same_bytes paused inputs other_inputs readers other_readers same_input same_reader) largest is
