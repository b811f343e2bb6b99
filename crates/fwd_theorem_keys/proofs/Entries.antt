-- What lists of calls say, one after another.
use Rattle.std.proofs.Common.{◌≡◌, inl, inr, ℕ, Bool, true, false, ◌&&◌, ◌||◌, eqb, List, [], ◌∷◌, ◌++◌, refl, sym, ap, subst, ◌∙◌, append_assoc}
use Rattle.std.proofs.lemmas.Bool.{eqb-true, eq-eqb}
use Rattle.std.proofs.lemmas.List.Folds.{list_any-append}
use Rattle.fwd_base.specs.declared.ids.InputId.{InputId}
use Rattle.fwd_base.specs.declared.ids.ConnId.{ConnId}
use Rattle.fwd_outside.specs.Loop.{LoopCall, LoopEntry, Push}
use Rattle.fwd_secure.specs.Allowed.{AllMayOccur}
use Rattle.fwd_theorem_keys.specs.Traffic.{Includes, is_conn, said_in, said_by, ends_in, has_ended, drops_in, was_dropped, taken_in, taken_on, back_in, back_on}

pub neither : (a b : Bool) → a ≡ false → b ≡ false → (a || b) ≡ false
neither a b is_a is_b = rw (is_a, is_b) refl

pub first_false : (a b : Bool) → (a || b) ≡ false → a ≡ false
first_false true b is = is
first_false false b is = refl

pub second_false : (a b : Bool) → (a || b) ≡ false → b ≡ false
second_false true b is = absurd (true_false is)
  where
    true_false : true ≡ false → ⊥
    true_false e = cc
second_false false b is = is

pub not_both : (b : Bool) → b ≡ true → b ≡ false → ⊥
not_both b yes_it no_it = absurd (true_false (sym yes_it ∙ no_it))
  where
    true_false : true ≡ false → ⊥
    true_false e = cc

module _ (input : InputId) (conn : ConnId) where
  pub said_append : (xs ys : List LoopEntry) → said_by input conn (xs ++ ys) ≡ said_by input conn xs ++ said_by input conn ys
  said_append [] ys = refl
  said_append (e ∷ xs) ys = ap (λ (l : List ℕ). said_in input conn e.call e.answer ++ l) (said_append xs ys) ∙ sym (append_assoc (said_in input conn e.call e.answer) (said_by input conn xs) (said_by input conn ys))

  pub ended_append : (xs ys : List LoopEntry) → has_ended input conn xs ≡ false → has_ended input conn ys ≡ false → has_ended input conn (xs ++ ys) ≡ false
  ended_append xs ys first second =
      list_any-append (λ e. ends_in input conn e.call e.answer) xs ys ∙ neither (has_ended input conn xs) (has_ended input conn ys) first second

  pub conn_same : is_conn input conn input conn ≡ true
  conn_same = rw (eq-eqb input.0 input.0 refl, eq-eqb conn.0 conn.0 refl) refl

  pub conn_is : (i : InputId) (c : ConnId) → is_conn input conn i c ≡ true → (i ≡ input) × (c ≡ conn)
  conn_is i c is = by (eqb i.0 input.0) (eqb c.0 conn.0) refl refl is
    where
      by : (a b : Bool) → eqb i.0 input.0 ≡ a → eqb c.0 conn.0 ≡ b → (a && b) ≡ true → (i ≡ input) × (c ≡ conn)
      by true true of_input of_conn both =
          let same_input : i ≡ input = ap (λ (n : ℕ). record { 0 = n }) (eqb-true i.0 input.0 of_input) in
          let same_conn : c ≡ conn = ap (λ (n : ℕ). record { 0 = n }) (eqb-true c.0 conn.0 of_conn) in
          (same_input, same_conn)
      by true false of_input of_conn both = absurd (cc both)
      by false b of_input of_conn both = absurd (cc both)

  -- an event of this connection, or of another
  pub at_conn : (P : InputId → ConnId → Type 0) (i : InputId) (c : ConnId) → P input conn → (is_conn input conn i c ≡ false → P i c) → P i c
  at_conn P i c own other = by (is_conn input conn i c) refl
    where
      by : (b : Bool) → is_conn input conn i c ≡ b → P i c
      by true is = subst (λ (d : ConnId). P i d) (sym ((conn_is i c is).1)) (subst (λ (j : InputId). P j conn) (sym ((conn_is i c is).0)) own)
      by false is = other is

pub dropped_append : (conn : ConnId) (xs ys : List LoopEntry) → was_dropped conn xs ≡ false → was_dropped conn ys ≡ false → was_dropped conn (xs ++ ys) ≡ false
dropped_append conn xs ys first second =
    list_any-append (λ e. drops_in conn e.call) xs ys ∙ neither (was_dropped conn xs) (was_dropped conn ys) first second

pub includes_left : (e : LoopEntry) (xs ys : List LoopEntry) → Includes e xs → Includes e (xs ++ ys)
includes_left e [] ys is = absurd is
includes_left e (x ∷ xs) ys (inl is) = inl is
includes_left e (x ∷ xs) ys (inr is) = inr (includes_left e xs ys is)

pub includes_right : (e : LoopEntry) (xs ys : List LoopEntry) → Includes e ys → Includes e (xs ++ ys)
includes_right e [] ys is = is
includes_right e (x ∷ xs) ys is = inr (includes_right e xs ys is)

pub occur_left : (xs ys : List LoopEntry) → AllMayOccur (xs ++ ys) → AllMayOccur xs
occur_left [] ys all = tt
occur_left (x ∷ xs) ys all = (all.0, occur_left xs ys all.1)

pub occur_right : (xs ys : List LoopEntry) → AllMayOccur (xs ++ ys) → AllMayOccur ys
occur_right [] ys all = all
occur_right (x ∷ xs) ys all = occur_right xs ys all.1

-- ---- links

module _ (link : ℕ) where
  pub taken_append : (xs ys : List LoopEntry) → taken_on link (xs ++ ys) ≡ taken_on link xs ++ taken_on link ys
  taken_append [] ys = refl
  taken_append (e ∷ xs) ys = ap (λ (l : List ℕ). taken_in link e.call e.answer ++ l) (taken_append xs ys) ∙ sym (append_assoc (taken_in link e.call e.answer) (taken_on link xs) (taken_on link ys))

  pub back_append : (xs ys : List LoopEntry) → back_on link (xs ++ ys) ≡ back_on link xs ++ back_on link ys
  back_append [] ys = refl
  back_append (e ∷ xs) ys = ap (λ (l : List ℕ). back_in link e.call e.answer ++ l) (back_append xs ys) ∙ sym (append_assoc (back_in link e.call e.answer) (back_on link xs) (back_on link ys))

-- ---- pushes alone

abbrev pub IsPush : LoopCall → Type 0
IsPush (Push link bytes) = Unit {0}
IsPush _ = ⊥

abbrev pub ArePushes : List LoopEntry → Type 0
ArePushes [] = Unit {0}
ArePushes (e ∷ es) = IsPush e.call × ArePushes es

pub pushes_append : (xs ys : List LoopEntry) → ArePushes xs → ArePushes ys → ArePushes (xs ++ ys)
pushes_append [] ys first second = second
pushes_append (e ∷ xs) ys first second = (first.0, pushes_append xs ys first.1 second)
