-- When a function decodes a relation between values and bytes, and how such decoders compose.
use Rattle.std.proofs.Common.{◌≡◌, ℕ, zero, suc, ◌+◌, ◌-◌, ◌≤◌, ◌<◌, Bool, true, false, cond, ltb, List, [], ◌∷◌, ◌++◌, length, take, drop, Result, Ok, Err, refl, sym, ap, subst, ◌∙◌, append_assoc, arith, inl, inr, ◌⊎◌}
use Rattle.std.proofs.lemmas.Bool.{ltb-false, ltb-true, le-ltb}
use Rattle.std.proofs.lemmas.List.{take_at, drop_at, take-append-drop, length-append, length-take}
use Rattle.fwd_msgpack.specs.declared.fault.FormatErr.{FormatErr}
use Rattle.fwd_msgpack.specs.declared.fault.FormatErr.TheVariants.{Short, Unused, TooDeep}
use Rattle.fwd_msgpack.specs.declared.form.Form.{Form}
use Rattle.fwd_msgpack.specs.declared.form.Form.TheVariants as form
use Rattle.fwd_msgpack.specs.Encodings.{AllBytes}
use Rattle.fwd_msgpack.specs.Table.{form_of}
use Rattle.fwd_msgpack.specs.Decoder.{◌>>=◌, Read}

-- a step that succeeded, and one that failed
pub bind_ok : {A B : Type 0} (r : Result A FormatErr) (f : A → Result B FormatErr) (y : B) → (r >>= f) ≡ Ok y → (x : A) × (r ≡ Ok x) × (f x ≡ Ok y)
bind_ok (Ok x) f y e = (x, refl, e)
bind_ok (Err d) f y e = absurd cc

pub bind_err : {A B : Type 0} (r : Result A FormatErr) (f : A → Result B FormatErr) (d : FormatErr) → (r >>= f) ≡ Err d → (r ≡ Err d) ⊎ ((x : A) × (r ≡ Ok x) × (f x ≡ Err d))
bind_err (Ok x) f d e = inr (x, refl, e)
bind_err (Err c) f d e = inl cc

-- the two errors of a byte: false is an unused byte
abbrev pub stop : Bool → ℕ → FormatErr
stop false n = Unused n
stop true n = TooDeep n

abbrev pub IsCause : Bool → Form → Type 0
IsCause false form.Unused = Unit {0}
IsCause true (form.Array k) = Unit {0}
IsCause true (form.Map k) = Unit {0}
IsCause _ _ = ⊥

-- the bytes can be continued to ones in R
abbrev pub Begins : {A : Type 0} → (A → List ℕ → Type 0) → List ℕ → Type 0
Begins {A} R b = (x : A) × (more : List ℕ) × AllBytes more × R x (b ++ more)

pub record Stopped {A : Type 0} (p : List ℕ → Read A) (R : A → List ℕ → Type 0) (k : Bool) (left : ℕ) (b : List ℕ) : Type 0 where
  pub front : List ℕ
  pub byte : ℕ
  pub rest : List ℕ
  pub parts : b ≡ front ++ byte ∷ rest
  pub left_is : left ≡ length rest + 1
  pub cause : IsCause k (form_of byte)
  pub begins : Begins R front
  -- whatever follows, that byte is an error
  pub always : (other : List ℕ) → p (front ++ byte ∷ other) ≡ Err (stop k (length other + 1))

pub record Reads {A : Type 0} (p : List ℕ → Read A) (R : A → List ℕ → Type 0) : Type 0 where
  pub sound : (b : List ℕ) (x : A) (rest : List ℕ) → p b ≡ Ok (x, rest) → (front : List ℕ) × (b ≡ front ++ rest) × R x front
  pub whole : (x : A) (front rest : List ℕ) → R x front → p (front ++ rest) ≡ Ok (x, rest)
  pub short : (b : List ℕ) → p b ≡ Err Short → Begins R b
  pub stops : (k : Bool) (b : List ℕ) (left : ℕ) → p b ≡ Err (stop k left) → Stopped p R k left b
  pub some : (x : A) × (b : List ℕ) × AllBytes b × R x b

stop-short : (k : Bool) (n : ℕ) → stop k n ≡ Short → ⊥
stop-short false n e = cc
stop-short true n e = cc

abbrev okay : {A : Type 0} → A → List ℕ → Read A
okay x b = Ok (x, b)

pair_is : {A : Type 0} (p q : A × List ℕ) → okay p.0 p.1 ≡ okay q.0 q.1 → p ≡ q
pair_is p q e = cc

pub ok_first : {A : Type 0} (x y : A) (b c : List ℕ) → okay x b ≡ okay y c → x ≡ y
ok_first {A} x y b c e = ap (λ (p : A × List ℕ). p.0) (pair_is (x, b) (y, c) e)

pub ok_rest : {A : Type 0} (x y : A) (b c : List ℕ) → okay x b ≡ okay y c → b ≡ c
ok_rest {A} x y b c e = ap (λ (p : A × List ℕ). p.1) (pair_is (x, b) (y, c) e)

abbrev bad : {A : Type 0} → FormatErr → Read A
bad d = Err d

pub err_is : {A : Type 0} (d e : FormatErr) → bad {A = A} d ≡ bad e → d ≡ e
err_is d e h = cc

pub not_ok : {A : Type 0} (x : A) (b : List ℕ) (d : FormatErr) → okay x b ≡ bad d → ⊥
not_ok x b d e = cc

-- ---- the same relation in other words

pub adapt : {A : Type 0} (p : List ℕ → Read A) (R S : A → List ℕ → Type 0) → Reads p R → ((x : A) (b : List ℕ) → R x b → S x b) → ((x : A) (b : List ℕ) → S x b → R x b) → Reads p S
adapt p R S r to from = record {
  sound = λ b x rest e. let s = r.sound b x rest e in (s.0, s.1, to x s.0 s.2);
  whole = λ x front rest h. r.whole x front rest (from x front h);
  short = λ b e. let s = r.short b e in (s.0, s.1, s.2, to s.0 (b ++ s.1) s.3);
  stops = λ k b left e. let s = r.stops k b left e in record {
    front = s.front;
    byte = s.byte;
    rest = s.rest;
    parts = s.parts;
    left_is = s.left_is;
    cause = s.cause;
    begins = (s.begins.0, s.begins.1, s.begins.2, to s.begins.0 (s.front ++ s.begins.1) s.begins.3);
    always = s.always;
  };
  some = (r.some.0, r.some.1, r.some.2, to r.some.0 r.some.1 r.some.3);
}

-- ---- decoding nothing

abbrev pub Plain : {A : Type 0} → A → A → List ℕ → Type 0
Plain y x b = (x ≡ y) × (b ≡ [])

pub plain_reads : {A : Type 0} (y : A) → Reads (λ b. Ok (y, b)) (Plain y)
plain_reads y = record {
  sound = λ b x rest e. ([], ok_rest y x b rest e, (sym (ok_first y x b rest e), refl));
  whole = λ x front rest h. rw (h.0, h.1) refl;
  short = λ b e. absurd (not_ok y b Short e);
  stops = λ k b left e. absurd (not_ok y b (stop k left) e);
  some = (y, [], tt, (refl, refl));
}

-- ---- n bytes

abbrev pub front_at : {A : Type 0} → ℕ → (List ℕ → A) → List ℕ → Read A
front_at n g b = cond (ltb (length b) n) (Err Short) (Ok (g (take n b), drop n b))

abbrev pub Front : {A : Type 0} → ℕ → (List ℕ → A) → A → List ℕ → Type 0
Front n g x b = (length b ≡ n) × (x ≡ g b)

abbrev pub zeros : ℕ → List ℕ
zeros zero = []
zeros (suc n) = 0 ∷ zeros n

zeros_bytes : (n : ℕ) → AllBytes (zeros n)
zeros_bytes zero = tt
zeros_bytes (suc n) = (omega arith, zeros_bytes n)

pub bytes_append : (a b : List ℕ) → AllBytes a → AllBytes b → AllBytes (a ++ b)
bytes_append [] b h k = k
bytes_append (x ∷ a) b h k = (h.0, bytes_append a b h.1 k)

pub length-zeros : (n : ℕ) → length (zeros n) ≡ n
length-zeros zero = refl
length-zeros (suc n) = ap suc (length-zeros n)

pub cond_ok : {A : Type 0} (t : Bool) (x : A) (r : List ℕ) (y : A) (s : List ℕ) → cond t (bad Short) (okay x r) ≡ okay y s → (t ≡ false) × (x ≡ y) × (r ≡ s)
cond_ok true x r y s e = absurd (not_ok y s Short (sym e))
cond_ok false x r y s e = (refl, ok_first x y r s e, ok_rest x y r s e)

pub cond_err : {A : Type 0} (t : Bool) (x : A) (r : List ℕ) (d : FormatErr) → cond t (bad Short) (okay x r) ≡ bad d → (t ≡ true) × (Short ≡ d)
cond_err {A} true x r d e = (refl, err_is {A = A} Short d e)
cond_err false x r d e = absurd (not_ok x r d e)

module _ {A : Type 0} (n : ℕ) (g : List ℕ → A) where
  front_sound : (b : List ℕ) (x : A) (rest : List ℕ) → front_at n g b ≡ Ok (x, rest) → (front : List ℕ) × (b ≡ front ++ rest) × Front n g x front
  front_sound b x rest e =
      let c = cond_ok (ltb (length b) n) (g (take n b)) (drop n b) x rest e in
      let long : n ≤ length b = ltb-false _ _ c.0 in
      (take n b, rw (← c.2) (sym (take-append-drop n b)), (omega (arith, length-take n b), sym c.1))

  front_whole : (x : A) (front rest : List ℕ) → Front n g x front → front_at n g (front ++ rest) ≡ Ok (x, rest)
  front_whole x front rest h =
      let long : ltb (length (front ++ rest)) n ≡ false = le-ltb _ _ (omega (arith, length-append front rest, h.0)) in
      rw (long, take_at front rest n h.0, drop_at front rest n h.0, h.1) refl

  front_short : (b : List ℕ) → front_at n g b ≡ Err Short → Begins (Front n g) b
  front_short b e =
      let c = cond_err (ltb (length b) n) (g (take n b)) (drop n b) Short e in
      let lt : length b < n = ltb-true _ _ c.0 in
      let more = zeros (n - length b) in
      (g (b ++ more), more, zeros_bytes (n - length b), (omega (arith, length-append b more, length-zeros (n - length b)), refl))

  pub front_reads : Reads (front_at n g) (Front n g)
  front_reads = record {
    sound = front_sound;
    whole = front_whole;
    short = front_short;
    stops = λ k b left e. absurd (stop-short k left (sym (cond_err (ltb (length b) n) (g (take n b)) (drop n b) (stop k left) e).1));
    some = (g (zeros n), zeros n, zeros_bytes n, (length-zeros n, refl));
  }

-- ---- one decoder, and a function of its value

module _ {A C : Type 0} (p : List ℕ → Read A) (R : A → List ℕ → Type 0) (f : A → C) (S : C → List ℕ → Type 0) where
  abbrev pub made_at : List ℕ → Read C
  made_at b = p b >>= λ x. Ok (f x.0, x.1)

  pub made : Reads p R → ((x : A) (b : List ℕ) → R x b → S (f x) b) → ((z : C) (b : List ℕ) → S z b → (x : A) × (z ≡ f x) × R x b) → Reads made_at S
  made r to from = record {
    sound = λ b z rest e.
        let h = bind_ok (p b) (λ x. Ok (f x.0, x.1)) (z, rest) e in
        let s = r.sound b h.0.0 h.0.1 h.1 in
        let is : f h.0.0 ≡ z = ok_first _ _ _ _ h.2 in
        let rest_is : h.0.1 ≡ rest = ok_rest _ _ _ _ h.2 in
        (s.0, s.1 ∙ ap (λ (t : List ℕ). s.0 ++ t) rest_is, subst (λ (y : C). S y s.0) is (to h.0.0 s.0 s.2));
    whole = λ z front rest h.
        let k = from z front h in
        ap (λ (w : Read A). w >>= λ x. okay (f x.0) x.1) (r.whole k.0 front rest k.2) ∙ ap (λ (y : C). okay y rest) (sym k.1);
    short = λ b e. elim (bind_err (p b) (λ x. Ok (f x.0, x.1)) Short e) [
      | inl h ↦ let s = r.short b h in (f s.0, s.1, s.2, to s.0 (b ++ s.1) s.3)
      | inr h ↦ absurd (not_ok (f h.0.0) h.0.1 Short h.2)
    ];
    stops = λ k b left e. elim (bind_err (p b) (λ x. Ok (f x.0, x.1)) (stop k left) e) [
      | inl h ↦ let s = r.stops k b left h in record {
        front = s.front;
        byte = s.byte;
        rest = s.rest;
        parts = s.parts;
        left_is = s.left_is;
        cause = s.cause;
        begins = (f s.begins.0, s.begins.1, s.begins.2, to s.begins.0 (s.front ++ s.begins.1) s.begins.3);
        always = λ other. rw (s.always other) refl;
      }
      | inr h ↦ absurd (not_ok (f h.0.0) h.0.1 (stop k left) h.2)
    ];
    some = (f r.some.0, r.some.1, r.some.2, to r.some.0 r.some.1 r.some.3);
  }

-- ---- one decoder after another

module _ {A C : Type 0} (p : List ℕ → Read A) (R : A → List ℕ → Type 0) (q : A → List ℕ → Read C) (Q : A → C → List ℕ → Type 0) (S : C → List ℕ → Type 0) where
  abbrev pub chain_at : List ℕ → Read C
  chain_at b = p b >>= λ x. q x.0 x.1

  module _ (r : Reads p R) (t : (x : A) → Reads (q x) (Q x))
      (to : (x : A) (z : C) (front back : List ℕ) → R x front → Q x z back → S z (front ++ back))
      (from : (z : C) (b : List ℕ) → S z b → (x : A) × (front : List ℕ) × (back : List ℕ) × (b ≡ front ++ back) × R x front × Q x z back) where
    chain_sound : (b : List ℕ) (z : C) (rest : List ℕ) → chain_at b ≡ Ok (z, rest) → (front : List ℕ) × (b ≡ front ++ rest) × S z front
    chain_sound b z rest e =
        let h = bind_ok (p b) (λ x. q x.0 x.1) (z, rest) e in
        let s = r.sound b h.0.0 h.0.1 h.1 in
        let u = (t h.0.0).sound h.0.1 z rest h.2 in
        (s.0 ++ u.0, s.1 ∙ ap (λ (w : List ℕ). s.0 ++ w) u.1 ∙ sym (append_assoc s.0 u.0 rest), to h.0.0 z s.0 u.0 s.2 u.2)

    chain_whole : (z : C) (front rest : List ℕ) → S z front → chain_at (front ++ rest) ≡ Ok (z, rest)
    chain_whole z front rest h =
        let k = from z front h in
        let e : front ++ rest ≡ k.1 ++ (k.2 ++ rest) = ap (λ (w : List ℕ). w ++ rest) k.3 ∙ append_assoc k.1 k.2 rest in
        ap chain_at e ∙ rw (r.whole k.0 k.1 (k.2 ++ rest) k.4) ((t k.0).whole z k.2 rest k.5)

    chain_short : (b : List ℕ) → chain_at b ≡ Err Short → Begins S b
    chain_short b e = elim (bind_err (p b) (λ x. q x.0 x.1) Short e) [
      | inl h ↦
          let s = r.short b h in
          let u = (t s.0).some in
          (u.0, s.1 ++ u.1, bytes_append s.1 u.1 s.2 u.2, subst (λ (w : List ℕ). S u.0 w) (append_assoc b s.1 u.1) (to s.0 u.0 (b ++ s.1) u.1 s.3 u.3))
      | inr h ↦
          let s = r.sound b h.0.0 h.0.1 h.1 in
          let u = (t h.0.0).short h.0.1 h.2 in
          let e2 : s.0 ++ (h.0.1 ++ u.1) ≡ b ++ u.1 = sym (append_assoc s.0 h.0.1 u.1) ∙ ap (λ (w : List ℕ). w ++ u.1) (sym s.1) in
          (u.0, u.1, u.2, subst (λ (w : List ℕ). S u.0 w) e2 (to h.0.0 u.0 s.0 (h.0.1 ++ u.1) s.2 u.3))
    ]

    chain_stops : (k : Bool) (b : List ℕ) (left : ℕ) → chain_at b ≡ Err (stop k left) → Stopped chain_at S k left b
    chain_stops k b left e = elim (bind_err (p b) (λ x. q x.0 x.1) (stop k left) e) [
      | inl h ↦
          let s = r.stops k b left h in
          let x = s.begins.0 in
          let u = (t x).some in
          record {
            front = s.front;
            byte = s.byte;
            rest = s.rest;
            parts = s.parts;
            left_is = s.left_is;
            cause = s.cause;
            begins = (u.0, s.begins.1 ++ u.1, bytes_append s.begins.1 u.1 s.begins.2 u.2, subst (λ (w : List ℕ). S u.0 w) (append_assoc s.front s.begins.1 u.1) (to x u.0 (s.front ++ s.begins.1) u.1 s.begins.3 u.3));
            always = λ other. rw (s.always other) refl;
          }
      | inr h ↦
          let s = r.sound b h.0.0 h.0.1 h.1 in
          let u = (t h.0.0).stops k h.0.1 left h.2 in
          record {
            front = s.0 ++ u.front;
            byte = u.byte;
            rest = u.rest;
            parts = s.1 ∙ ap (λ (w : List ℕ). s.0 ++ w) u.parts ∙ sym (append_assoc s.0 u.front (u.byte ∷ u.rest));
            left_is = u.left_is;
            cause = u.cause;
            begins = (u.begins.0, u.begins.1, u.begins.2, subst (λ (w : List ℕ). S u.begins.0 w) (sym (append_assoc s.0 u.front u.begins.1)) (to h.0.0 u.begins.0 s.0 (u.front ++ u.begins.1) s.2 u.begins.3));
            always = λ other.
                ap chain_at (append_assoc s.0 u.front (u.byte ∷ other)) ∙ rw (r.whole h.0.0 s.0 (u.front ++ u.byte ∷ other) s.2) (u.always other);
          }
    ]

    pub chain : Reads chain_at S
    chain = record {
      sound = chain_sound;
      whole = chain_whole;
      short = chain_short;
      stops = chain_stops;
      some = let u = (t r.some.0).some in (u.0, r.some.1 ++ u.1, bytes_append r.some.1 u.1 r.some.2 u.2, to r.some.0 u.0 r.some.1 u.1 r.some.3 u.3);
    }
