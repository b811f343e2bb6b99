-- value_at decodes Within: what it decodes is encoded so, what is encoded so is decoded, and what each error
-- means.
use Rattle.std.proofs.Common.{◌≡◌, ℕ, zero, suc, ◌+◌, ◌≤◌, ℤ, pos, Bool, true, false, List, [], ◌∷◌, ◌++◌, length, Option, Some, None, Ok, Err, refl, sym, ap, subst, ◌∙◌, arith, inl, inr, ◌⊎◌}
use Rattle.std.specs.Int.{w8, cast_signed}
use Rattle.fwd_value.specs.Val.{Val, nil, truth, whole, text, bin, float32, float64, ext, list, mapping, Vals, no_vals, val, Entries, no_entries, entry, vals_of, entries_of}
use Rattle.fwd_msgpack.specs.declared.fault.FormatErr.TheVariants.{Short}
use Rattle.fwd_msgpack.specs.declared.form.ByteWidth.{ByteWidth}
use Rattle.fwd_msgpack.specs.declared.form.ByteWidth.TheVariants.{Four, Eight}
use Rattle.fwd_msgpack.specs.declared.form.Count.{Count}
use Rattle.fwd_msgpack.specs.declared.form.Count.TheVariants.{Known, Sized}
use Rattle.fwd_msgpack.specs.declared.form.Form.{Form}
use Rattle.fwd_msgpack.specs.declared.form.Form.TheVariants as form
use Rattle.fwd_msgpack.specs.Table.{form_of}
use Rattle.fwd_msgpack.specs.Encodings.{width, number, size, Counts, Counted, EncodesAfter, EncodesAll, EncodesEntries, EncodesNested}
use Rattle.fwd_value.specs.Limits.{value_count, entry_count, nesting, nestings, entry_nestings}
use Rattle.fwd_msgpack.specs.Decoder.{◌>>=◌, Read, number_at, bytes_at, byte_at, count_at, counted_at, many_at, entries_at, list_at, map_at, after, value_by, inner, value_at}
use Rattle.fwd_msgpack.proofs.Decoders.{stop, IsCause, Begins, Stopped, Reads, Plain, plain_reads, front_reads, adapt, made, chain, not_ok, ok_first, ok_rest, err_is}

-- ---- the parts

abbrev NumberIs : ByteWidth → ℕ → List ℕ → Type 0
NumberIs w n b = (length b ≡ size w) × (n ≡ number w b)

number_reads : (w : ByteWidth) → Reads (number_at w) (NumberIs w)
unfolding number_at
number_reads w = front_reads (size w) (number w)

abbrev BytesAre : ℕ → List ℕ → List ℕ → Type 0
BytesAre n s b = (length b ≡ n) × (s ≡ b)

bytes_read : (n : ℕ) → Reads (bytes_at n) (BytesAre n)
unfolding bytes_at
bytes_read n = front_reads n (λ b. b)

abbrev ByteIs : ℕ → List ℕ → Type 0
ByteIs c b = b ≡ c ∷ []

byte_sound : (b : List ℕ) (x : ℕ) (rest : List ℕ) → byte_at b ≡ Ok (x, rest) → (front : List ℕ) × (b ≡ front ++ rest) × ByteIs x front
unfolding byte_at
byte_sound [] x rest e = absurd (not_ok x rest Short (sym e))
byte_sound (c ∷ b) x rest e = (c ∷ [], ap (λ (t : List ℕ). c ∷ t) (ok_rest _ _ _ _ e), ap (λ (t : ℕ). t ∷ []) (ok_first _ _ _ _ e))

byte_whole : (x : ℕ) (front rest : List ℕ) → ByteIs x front → byte_at (front ++ rest) ≡ Ok (x, rest)
unfolding byte_at
byte_whole x front rest h = rw h refl

byte_short : (b : List ℕ) → byte_at b ≡ Err Short → Begins ByteIs b
unfolding byte_at
byte_short [] e = (0, 0 ∷ [], (omega arith, tt), refl)
byte_short (c ∷ b) e = absurd (not_ok c b Short e)

byte_stops : (k : Bool) (b : List ℕ) (left : ℕ) → byte_at b ≡ Err (stop k left) → Stopped byte_at ByteIs k left b
unfolding byte_at
byte_stops false [] left e = absurd cc
byte_stops true [] left e = absurd cc
byte_stops k (c ∷ b) left e = absurd (not_ok c b (stop k left) e)

byte_reads : Reads byte_at ByteIs
byte_reads = record { sound = byte_sound; whole = byte_whole; short = byte_short; stops = byte_stops; some = (0, 0 ∷ [], (omega arith, tt), refl) }

count_reads : (k : Count) → Reads (count_at k) (Counts k)
unfolding count_at
count_reads (Known n) = plain_reads n
count_reads (Sized w) = number_reads w

counted_reads : (k : Count) → Reads (counted_at k) (Counted k)
unfolding counted_at
counted_reads k = chain (count_at k) (Counts k) bytes_at BytesAre (Counted k) (count_reads k) bytes_read
    (λ n s front back c h. (front, subst (λ m. Counts k m front) (sym h.0 ∙ ap length (sym h.1)) c, ap (λ (t : List ℕ). front ++ t) (sym h.1)))
    (λ s b h. (length s, h.0, s, h.2, h.1, (refl, refl)))

-- ---- values one after another

module _ (d : ℕ) (p : List ℕ → Read Val) (r : Reads p (EncodesNested d)) where
  abbrev ManyAre : ℕ → List Val → List ℕ → Type 0
  ManyAre n vs b = (value_count (vals_of vs) ≡ n) × EncodesAll (vals_of vs) b × (nestings (vals_of vs) ≤ d)

  none_from : (vs : List Val) (b : List ℕ) → ManyAre zero vs b → Plain [] vs b
  none_from [] b h = (refl, h.1)
  none_from (v ∷ vs) b h = absurd (omega (arith, h.0))

  many_from : (n : ℕ) (vs : List Val) (b : List ℕ) → ManyAre (suc n) vs b
      → (v : Val) × (front : List ℕ) × (back : List ℕ) × (b ≡ front ++ back) × EncodesNested d v front × ((ws : List Val) × (vs ≡ v ∷ ws) × ManyAre n ws back)
  many_from n [] b h = absurd (omega (arith, h.0))
  many_from n (v ∷ vs) b h = (v, h.1.0, h.1.1, h.1.2, (h.1.3, omega (arith, h.2)), (vs, refl, (omega (arith, h.0), h.1.4, omega (arith, h.2))))

  many_reads : (n : ℕ) → Reads (many_at p n) (ManyAre n)
  unfolding many_at
  many_reads zero = adapt (λ b. Ok ([], b)) (Plain []) (ManyAre zero) (plain_reads []) (λ vs b h. rw (h.0, h.1) (refl, refl, omega arith)) none_from
  many_reads (suc n) = chain p (EncodesNested d) (λ v b. many_at p n b >>= λ vs. Ok (v ∷ vs.0, vs.1)) (λ v vs b. (ws : List Val) × (vs ≡ v ∷ ws) × ManyAre n ws b) (ManyAre (suc n)) r
      (λ v. made (many_at p n) (ManyAre n) (λ vs. v ∷ vs) (λ vs b. (ws : List Val) × (vs ≡ v ∷ ws) × ManyAre n ws b) (many_reads n) (λ ws b h. (ws, refl, h)) (λ vs b h. (h.0, h.1, h.2)))
      (λ v vs front back a h. subst (λ (us : List Val). ManyAre (suc n) us (front ++ back)) (sym h.1) (ap suc h.2.0, (front, back, refl, a.0, h.2.1), omega (arith, a.1, h.2.2)))
      (many_from n)

  abbrev EntriesAre : ℕ → List (Val × Val) → List ℕ → Type 0
  EntriesAre n es b = (entry_count (entries_of es) ≡ n) × EncodesEntries (entries_of es) b × (entry_nestings (entries_of es) ≤ d)

  no_entries_from : (es : List (Val × Val)) (b : List ℕ) → EntriesAre zero es b → Plain [] es b
  no_entries_from [] b h = (refl, h.1)
  no_entries_from (e ∷ es) b h = absurd (omega (arith, h.0))

  -- the entries after a first one whose key is k, and after a first one
  abbrev EntriesBehind : ℕ → Val × Val → List (Val × Val) → List ℕ → Type 0
  EntriesBehind n e es b = (fs : List (Val × Val)) × (es ≡ e ∷ fs) × EntriesAre n fs b

  abbrev EntriesKeyed : ℕ → Val → List (Val × Val) → List ℕ → Type 0
  EntriesKeyed n k es b = (v : Val) × (front : List ℕ) × (back : List ℕ) × (b ≡ front ++ back) × EncodesNested d v front × EntriesBehind n (k, v) es back

  entries_from : (n : ℕ) (es : List (Val × Val)) (b : List ℕ) → EntriesAre (suc n) es b
      → (k : Val) × (front : List ℕ) × (back : List ℕ) × (b ≡ front ++ back) × EncodesNested d k front × EntriesKeyed n k es back
  entries_from n [] b h = absurd (omega (arith, h.0))
  entries_from n (e ∷ es) b h = (e.0, h.1.0, h.1.1 ++ h.1.2, h.1.3, (h.1.4, omega (arith, h.2)), (e.1, h.1.1, h.1.2, refl, (h.1.5, omega (arith, h.2)), (es, refl, (omega (arith, h.0), h.1.6, omega (arith, h.2)))))

  entries_to : (n : ℕ) (k : Val) (es : List (Val × Val)) (front back : List ℕ) → EncodesNested d k front → EntriesKeyed n k es back → EntriesAre (suc n) es (front ++ back)
  entries_to n k es front back a h =
      let b = h.5 in
      subst (λ (us : List (Val × Val)). EntriesAre (suc n) us (front ++ back)) (sym b.1) (ap suc b.2.0, (front, h.1, h.2, ap (λ (t : List ℕ). front ++ t) h.3, a.0, h.4.0, b.2.1), omega (arith, a.1, h.4.1, b.2.2))

  entries_read : (n : ℕ) → Reads (entries_at p n) (EntriesAre n)
  unfolding entries_at
  entries_read zero = adapt (λ b. Ok ([], b)) (Plain []) (EntriesAre zero) (plain_reads []) (λ es b h. rw (h.0, h.1) (refl, refl, omega arith)) no_entries_from
  entries_read (suc n) = chain p (EncodesNested d) (λ k b. p b >>= λ v. entries_at p n v.1 >>= λ es. Ok ((k, v.0) ∷ es.0, es.1)) (EntriesKeyed n) (EntriesAre (suc n)) r
      (λ k. chain p (EncodesNested d) (λ v b. entries_at p n b >>= λ es. Ok ((k, v) ∷ es.0, es.1)) (λ v. EntriesBehind n (k, v)) (EntriesKeyed n k) r
      (λ v. made (entries_at p n) (EntriesAre n) (λ es. (k, v) ∷ es) (EntriesBehind n (k, v)) (entries_read n) (λ fs b h. (fs, refl, h)) (λ es b h. (h.0, h.1, h.2)))
      (λ v es front back a h. (v, front, back, refl, a, h))
      (λ es b h. (h.0, h.1, h.2, h.3, h.4, h.5)))
      (entries_to n)
      (entries_from n)

  -- ---- lists and maps

  abbrev Behind_ : Form → Val → List ℕ → Type 0
  Behind_ f v b = EncodesAfter v f b × (nesting v ≤ suc d)

  vals_list : (vs : Vals) → (ws : List Val) × (vs ≡ vals_of ws)
  vals_list no_vals = ([], refl)
  vals_list (val v vs) = let h = vals_list vs in (v ∷ h.0, ap (val v) h.1)

  entries_list : (es : Entries) → (fs : List (Val × Val)) × (es ≡ entries_of fs)
  entries_list no_entries = ([], refl)
  entries_list (entry k v es) = let h = entries_list es in ((k, v) ∷ h.0, ap (entry k v) h.1)

  abbrev ListOf : ℕ → Val → List ℕ → Type 0
  ListOf n v b = (vs : List Val) × (v ≡ list (vals_of vs)) × ManyAre n vs b

  list_from : (k : Count) (v : Val) (b : List ℕ) → Behind_ (form.Array k) v b → (n : ℕ) × (front : List ℕ) × (back : List ℕ) × (b ≡ front ++ back) × Counts k n front × ListOf n v back
  list_from k (list vs) b h =
      let w = vals_list vs in
      let g = h.0 in
      let many : ManyAre (value_count vs) w.0 g.1 = subst (λ (us : Vals). (value_count us ≡ value_count vs) × EncodesAll us g.1 × (nestings us ≤ d)) w.1 (refl, g.4, omega (arith, h.1)) in
      (value_count vs, g.0, g.1, g.3, g.2, (w.0, ap list w.1, many))
  list_from k v b h = absurd h.0

  list_reads : (k : Count) → Reads (list_at p k) (Behind_ (form.Array k))
  list_reads k = chain (count_at k) (Counts k) (λ n b. many_at p n b >>= λ vs. Ok (list (vals_of vs.0), vs.1)) ListOf (Behind_ (form.Array k)) (count_reads k)
      (λ n. made (many_at p n) (ManyAre n) (λ vs. list (vals_of vs)) (ListOf n) (many_reads n) (λ vs b h. (vs, refl, h)) (λ v b h. (h.0, h.1, h.2)))
      (λ n v front back c h. subst (λ (w : Val). Behind_ (form.Array k) w (front ++ back)) (sym h.1) ((front, back, subst (λ (m : ℕ). Counts k m front) (sym h.2.0) c, refl, h.2.1), omega (arith, h.2.2)))
      (list_from k)

  abbrev MapOf : ℕ → Val → List ℕ → Type 0
  MapOf n v b = (es : List (Val × Val)) × (v ≡ mapping (entries_of es)) × EntriesAre n es b

  map_from : (k : Count) (v : Val) (b : List ℕ) → Behind_ (form.Map k) v b → (n : ℕ) × (front : List ℕ) × (back : List ℕ) × (b ≡ front ++ back) × Counts k n front × MapOf n v back
  map_from k (mapping es) b h =
      let w = entries_list es in
      let g = h.0 in
      let many : EntriesAre (entry_count es) w.0 g.1 = subst (λ (us : Entries). (entry_count us ≡ entry_count es) × EncodesEntries us g.1 × (entry_nestings us ≤ d)) w.1 (refl, g.4, omega (arith, h.1)) in
      (entry_count es, g.0, g.1, g.3, g.2, (w.0, ap mapping w.1, many))
  map_from k v b h = absurd h.0

  map_reads : (k : Count) → Reads (map_at p k) (Behind_ (form.Map k))
  map_reads k = chain (count_at k) (Counts k) (λ n b. entries_at p n b >>= λ es. Ok (mapping (entries_of es.0), es.1)) MapOf (Behind_ (form.Map k)) (count_reads k)
      (λ n. made (entries_at p n) (EntriesAre n) (λ es. mapping (entries_of es)) (MapOf n) (entries_read n) (λ es b h. (es, refl, h)) (λ v b h. (h.0, h.1, h.2)))
      (λ n v front back c h. subst (λ (w : Val). Behind_ (form.Map k) w (front ++ back)) (sym h.1) ((front, back, subst (λ (m : ℕ). Counts k m front) (sym h.2.0) c, refl, h.2.1), omega (arith, h.2.2)))
      (map_from k)

-- ---- after a first byte

module _ (d : ℕ) where
  abbrev pub FollowsIn : Form → Val → List ℕ → Type 0
  FollowsIn f v b = EncodesAfter v f b × (nesting v ≤ d)

  nil_from : (v : Val) (b : List ℕ) → FollowsIn form.Nil v b → Plain nil v b
  nil_from nil b h = (refl, h.0)
  nil_from v b h = absurd h.0

  truth_from : (t : Bool) (v : Val) (b : List ℕ) → FollowsIn (form.Bool t) v b → Plain (truth t) v b
  truth_from t (truth u) b h = (ap truth h.0.0, h.0.1)
  truth_from t v b h = absurd h.0

  small_from : (n : ℕ) (v : Val) (b : List ℕ) → FollowsIn (form.PositiveFixint n) v b → Plain (whole (pos n)) v b
  small_from n (whole m) b h = (ap whole h.0.0, h.0.1)
  small_from n v b h = absurd h.0

  minus_from : (z : ℤ) (v : Val) (b : List ℕ) → FollowsIn (form.NegativeFixint z) v b → Plain (whole z) v b
  minus_from z (whole m) b h = (ap whole h.0.0, h.0.1)
  minus_from z v b h = absurd h.0

  unsigned_from : (w : ByteWidth) (v : Val) (b : List ℕ) → FollowsIn (form.Uint w) v b → (n : ℕ) × (v ≡ whole (pos n)) × NumberIs w n b
  unsigned_from w (whole m) b h = (number w b, ap whole h.0.1, (h.0.0, refl))
  unsigned_from w v b h = absurd h.0

  signed_from : (w : ByteWidth) (v : Val) (b : List ℕ) → FollowsIn (form.Int w) v b → (n : ℕ) × (v ≡ whole (cast_signed (width w) n)) × NumberIs w n b
  signed_from w (whole m) b h = (number w b, ap whole h.0.1, (h.0.0, refl))
  signed_from w v b h = absurd h.0

  float32_from : (v : Val) (b : List ℕ) → FollowsIn form.Float32 v b → (n : ℕ) × (v ≡ float32 n) × NumberIs Four n b
  float32_from (float32 n) b h = (n, refl, h.0)
  float32_from v b h = absurd h.0

  float64_from : (v : Val) (b : List ℕ) → FollowsIn form.Float64 v b → (n : ℕ) × (v ≡ float64 n) × NumberIs Eight n b
  float64_from (float64 n) b h = (n, refl, h.0)
  float64_from v b h = absurd h.0

  text_from : (k : Count) (v : Val) (b : List ℕ) → FollowsIn (form.Str k) v b → (s : List ℕ) × (v ≡ text s) × Counted k s b
  text_from k (text s) b h = (s, refl, h.0)
  text_from k v b h = absurd h.0

  bin_from : (k : Count) (v : Val) (b : List ℕ) → FollowsIn (form.Bin k) v b → (s : List ℕ) × (v ≡ bin s) × Counted k s b
  bin_from k (bin s) b h = (s, refl, h.0)
  bin_from k v b h = absurd h.0

  abbrev ExtWith : ℕ → ℕ → Val → List ℕ → Type 0
  ExtWith n c v b = (s : List ℕ) × (v ≡ ext (cast_signed w8 c) s) × BytesAre n s b

  abbrev ExtOf : ℕ → Val → List ℕ → Type 0
  ExtOf n v b = (c : ℕ) × (front : List ℕ) × (back : List ℕ) × (b ≡ front ++ back) × ByteIs c front × ExtWith n c v back

  ext_from : (k : Count) (v : Val) (b : List ℕ) → FollowsIn (form.Ext k) v b → (n : ℕ) × (front : List ℕ) × (back : List ℕ) × (b ≡ front ++ back) × Counts k n front × ExtOf n v back
  ext_from k (ext t s) b h = let g = h.0 in (length s, g.0, g.1 ∷ s, g.4, g.2, (g.1, g.1 ∷ [], s, refl, refl, (s, ap (λ (u : ℤ). ext u s) g.3, (refl, refl))))
  ext_from k v b h = absurd h.0

  ext_to : (k : Count) (n : ℕ) (v : Val) (front back : List ℕ) → Counts k n front → ExtOf n v back → FollowsIn (form.Ext k) v (front ++ back)
  ext_to k n v front back c h =
      let g = h.5 in
      let s = g.0 in
      let parts : back ≡ h.0 ∷ s = h.3 ∙ ap (λ (t : List ℕ). t ++ h.2) h.4 ∙ ap (λ (t : List ℕ). h.0 ∷ t) (sym g.2.1) in
      let len : n ≡ length s = sym g.2.0 ∙ ap length (sym g.2.1) in
      subst (λ (w : Val). FollowsIn (form.Ext k) w (front ++ back)) (sym g.1) ((front, h.0, subst (λ (m : ℕ). Counts k m front) len c, refl, ap (λ (t : List ℕ). front ++ t) parts), omega arith)

  ext_reads : (k : Count) → Reads (λ b. count_at k b >>= λ n. byte_at n.1 >>= λ t. bytes_at n.0 t.1 >>= λ s. Ok (ext (cast_signed w8 t.0) s.0, s.1)) (FollowsIn (form.Ext k))
  ext_reads k = chain (count_at k) (Counts k) (λ n b. byte_at b >>= λ t. bytes_at n t.1 >>= λ s. Ok (ext (cast_signed w8 t.0) s.0, s.1)) ExtOf (FollowsIn (form.Ext k)) (count_reads k)
      (λ n. chain byte_at ByteIs (λ c b. bytes_at n b >>= λ s. Ok (ext (cast_signed w8 c) s.0, s.1)) (ExtWith n) (ExtOf n) byte_reads
      (λ c. made (bytes_at n) (BytesAre n) (ext (cast_signed w8 c)) (ExtWith n c) (bytes_read n) (λ s b h. (s, refl, h)) (λ v b h. (h.0, h.1, h.2)))
      (λ c v front back a h. (c, front, back, refl, a, h))
      (λ v b h. (h.0, h.1, h.2, h.3, h.4, h.5)))
      (ext_to k)
      (ext_from k)

  -- no value begins with this form
  pub record Shut (deeper : Option (List ℕ → Read Val)) (f : Form) (k : Bool) : Type 0 where
    pub cause : IsCause k f
    pub gives : (b : List ℕ) → after deeper f b ≡ Err (stop k (length b + 1))
    pub nothing : (v : Val) (b : List ℕ) → FollowsIn f v b → ⊥

  abbrev pub Case : Option (List ℕ → Read Val) → Form → Type 0
  Case deeper f = Reads (after deeper f) (FollowsIn f) ⊎ ((k : Bool) × Shut deeper f k)

unused_nothing : (d : ℕ) (v : Val) (b : List ℕ) → FollowsIn d form.Unused v b → ⊥
unused_nothing d nil b h = h.0
unused_nothing d v b h = h.0

no_list : (k : Count) (v : Val) (b : List ℕ) → FollowsIn zero (form.Array k) v b → ⊥
no_list k (list vs) b h = omega arith
no_list k v b h = h.0

no_map : (k : Count) (v : Val) (b : List ℕ) → FollowsIn zero (form.Map k) v b → ⊥
no_map k (mapping es) b h = omega arith
no_map k v b h = h.0

-- the decoder of the values inside
abbrev pub Deeper : ℕ → Option (List ℕ → Read Val) → Type 0
Deeper zero None = Unit {0}
Deeper (suc d) (Some p) = Reads p (EncodesNested d)
Deeper _ _ = ⊥

pub case : (d : ℕ) (deeper : Option (List ℕ → Read Val)) → Deeper d deeper → (f : Form) → Case d deeper f
unfolding after
case d deeper ok form.Unused = inr (false, record { cause = tt; gives = λ b. refl; nothing = unused_nothing d })
case d deeper ok form.Nil = inl (adapt (λ b. Ok (nil, b)) (Plain nil) (FollowsIn d form.Nil) (plain_reads nil) (λ v b h. rw (h.0, h.1) (refl, omega arith)) (nil_from d))
case d deeper ok (form.Bool t) = inl (adapt (λ b. Ok (truth t, b)) (Plain (truth t)) (FollowsIn d (form.Bool t)) (plain_reads (truth t)) (λ v b h. rw (h.0, h.1) ((refl, refl), omega arith)) (truth_from d t))
case d deeper ok (form.PositiveFixint n) = inl (adapt (λ b. Ok (whole (pos n), b)) (Plain (whole (pos n))) (FollowsIn d (form.PositiveFixint n)) (plain_reads (whole (pos n))) (λ v b h. rw (h.0, h.1) ((refl, refl), omega arith)) (small_from d n))
case d deeper ok (form.NegativeFixint z) = inl (adapt (λ b. Ok (whole z, b)) (Plain (whole z)) (FollowsIn d (form.NegativeFixint z)) (plain_reads (whole z)) (λ v b h. rw (h.0, h.1) ((refl, refl), omega arith)) (minus_from d z))
case d deeper ok (form.Uint w) = inl (made (number_at w) (NumberIs w) (λ n. whole (pos n)) (FollowsIn d (form.Uint w)) (number_reads w) (λ n b h. ((h.0, ap pos h.1), omega arith)) (unsigned_from d w))
case d deeper ok (form.Int w) = inl (made (number_at w) (NumberIs w) (λ n. whole (cast_signed (width w) n)) (FollowsIn d (form.Int w)) (number_reads w) (λ n b h. ((h.0, ap (cast_signed (width w)) h.1), omega arith)) (signed_from d w))
case d deeper ok form.Float32 = inl (made (number_at Four) (NumberIs Four) float32 (FollowsIn d form.Float32) (number_reads Four) (λ n b h. (h, omega arith)) (float32_from d))
case d deeper ok form.Float64 = inl (made (number_at Eight) (NumberIs Eight) float64 (FollowsIn d form.Float64) (number_reads Eight) (λ n b h. (h, omega arith)) (float64_from d))
case d deeper ok (form.Str k) = inl (made (counted_at k) (Counted k) text (FollowsIn d (form.Str k)) (counted_reads k) (λ s b h. (h, omega arith)) (text_from d k))
case d deeper ok (form.Bin k) = inl (made (counted_at k) (Counted k) bin (FollowsIn d (form.Bin k)) (counted_reads k) (λ s b h. (h, omega arith)) (bin_from d k))
case d deeper ok (form.Ext k) = inl (ext_reads d k)
case zero None ok (form.Array k) = inr (true, record { cause = tt; gives = λ b. refl; nothing = no_list k })
case (suc d) (Some p) ok (form.Array k) = inl (list_reads d p ok k)
case zero (Some p) ok (form.Array k) = absurd ok
case (suc d) None ok (form.Array k) = absurd ok
case zero None ok (form.Map k) = inr (true, record { cause = tt; gives = λ b. refl; nothing = no_map k })
case (suc d) (Some p) ok (form.Map k) = inl (map_reads d p ok k)
case zero (Some p) ok (form.Map k) = absurd ok
case (suc d) None ok (form.Map k) = absurd ok

-- ---- a whole value

nil_within : (d : ℕ) → EncodesNested d nil (192 ∷ [])
unfolding form_of
nil_within d = (refl, omega arith)

stop_bool : (k l : Bool) (m n : ℕ) → stop k m ≡ stop l n → (k ≡ l) × (m ≡ n)
stop_bool false false m n e = (refl, cc)
stop_bool true true m n e = (refl, cc)
stop_bool false true m n e = absurd cc
stop_bool true false m n e = absurd cc

short_stop : (k : Bool) (n : ℕ) → Short ≡ stop k n → ⊥
short_stop false n e = cc
short_stop true n e = cc

module _ (d : ℕ) (deeper : Option (List ℕ → Read Val)) (ok : Deeper d deeper) where
  by_sound : (c : ℕ) (b : List ℕ) (x : Val) (rest : List ℕ) → Case d deeper (form_of c) → after deeper (form_of c) b ≡ Ok (x, rest) → (front : List ℕ) × (c ∷ b ≡ front ++ rest) × EncodesNested d x front
  by_sound c b x rest (inl r) e = let s = r.sound b x rest e in (c ∷ s.0, ap (λ (t : List ℕ). c ∷ t) s.1, s.2)
  by_sound c b x rest (inr h) e = absurd (not_ok x rest (stop h.0 (length b + 1)) (sym e ∙ h.1.gives b))

  value_sound : (b : List ℕ) (x : Val) (rest : List ℕ) → value_by deeper b ≡ Ok (x, rest) → (front : List ℕ) × (b ≡ front ++ rest) × EncodesNested d x front
  unfolding value_by
  value_sound [] x rest e = absurd (not_ok x rest Short (sym e))
  value_sound (c ∷ b) x rest e = by_sound c b x rest (case d deeper ok (form_of c)) e

  by_whole : (c : ℕ) (x : Val) (front rest : List ℕ) → Case d deeper (form_of c) → FollowsIn d (form_of c) x front → after deeper (form_of c) (front ++ rest) ≡ Ok (x, rest)
  by_whole c x front rest (inl r) h = r.whole x front rest h
  by_whole c x front rest (inr s) h = absurd (s.1.nothing x front h)

  value_whole : (x : Val) (front rest : List ℕ) → EncodesNested d x front → value_by deeper (front ++ rest) ≡ Ok (x, rest)
  unfolding value_by
  value_whole x [] rest h = absurd h.0
  value_whole x (c ∷ front) rest h = by_whole c x front rest (case d deeper ok (form_of c)) h

  by_short : (c : ℕ) (b : List ℕ) → Case d deeper (form_of c) → after deeper (form_of c) b ≡ Err Short → Begins (EncodesNested d) (c ∷ b)
  by_short c b (inl r) e = r.short b e
  by_short c b (inr s) e = absurd (short_stop s.0 (length b + 1) (err_is {A = Val} _ _ (sym e ∙ s.1.gives b)))

  value_short : (b : List ℕ) → value_by deeper b ≡ Err Short → Begins (EncodesNested d) b
  unfolding value_by
  value_short [] e = (nil, 192 ∷ [], (omega arith, tt), nil_within d)
  value_short (c ∷ b) e = by_short c b (case d deeper ok (form_of c)) e

  by_stops : (c : ℕ) (k : Bool) (b : List ℕ) (left : ℕ) → Case d deeper (form_of c) → after deeper (form_of c) b ≡ Err (stop k left) → Stopped (value_by deeper) (EncodesNested d) k left (c ∷ b)
  unfolding value_by
  by_stops c k b left (inl r) e = let s = r.stops k b left e in record {
    front = c ∷ s.front;
    byte = s.byte;
    rest = s.rest;
    parts = ap (λ (t : List ℕ). c ∷ t) s.parts;
    left_is = s.left_is;
    cause = s.cause;
    begins = s.begins;
    always = s.always;
  }
  by_stops c k b left (inr s) e =
      let h = stop_bool s.0 k (length b + 1) left (err_is {A = Val} _ _ (sym (s.1.gives b) ∙ e)) in
      record {
        front = [];
        byte = c;
        rest = b;
        parts = refl;
        left_is = sym h.1;
        cause = subst (λ (l : Bool). IsCause l (form_of c)) h.0 s.1.cause;
        begins = (nil, 192 ∷ [], (omega arith, tt), nil_within d);
        always = λ other. s.1.gives other ∙ ap (λ (l : Bool). Err (stop l (length other + 1))) h.0;
      }

  value_stops : (k : Bool) (b : List ℕ) (left : ℕ) → value_by deeper b ≡ Err (stop k left) → Stopped (value_by deeper) (EncodesNested d) k left b
  unfolding value_by
  value_stops k [] left e = absurd (short_stop k left (err_is {A = Val} _ _ e))
  value_stops k (c ∷ b) left e = by_stops c k b left (case d deeper ok (form_of c)) e

  pub value_reads : Reads (value_by deeper) (EncodesNested d)
  value_reads = record { sound = value_sound; whole = value_whole; short = value_short; stops = value_stops; some = (nil, 192 ∷ [], (omega arith, tt), nil_within d) }

inner_reads : (d : ℕ) → Deeper d (inner d)
unfolding inner
inner_reads zero = tt
inner_reads (suc d) = value_reads d (inner d) (inner_reads d)

-- the theorem for the whole grammar, at each depth
pub reads : (d : ℕ) → Reads (value_at d) (EncodesNested d)
reads d = value_reads d (inner d) (inner_reads d)
