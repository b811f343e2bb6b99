-- The file of a chunk by its head, a chunk by its number, and files of other names.
use Rattle.std.proofs.Common.{◌≡◌, ◌⊎◌, inl, inr, ℕ, Bool, true, false, cond, List, [], ◌∷◌, Option, Some, None, refl, sym, ◌∙◌, ap, arith}
use Rattle.std.specs.Prelude.{Contains, find, ◌==◌}
use Rattle.std.proofs.lemmas.Bool.{eq-eqb, eqb-true}
use Rattle.fwd_chunk.specs.declared.append.ChunkHead.{ChunkHead}
use Rattle.fwd_chunk.specs.declared.kept.Kept.{Kept}
use Rattle.fwd_chunk.specs.declared.kept.Kept.TheVariants.{InFile, Adopted, InMemory}
use Rattle.fwd_chunk.specs.Kept.{file_of_optional}
use Rattle.fwd_settings.specs.declared.settings_types.AllSettings.{AllSettings}
use Rattle.fwd_model.specs.Fact.{History}
use Rattle.fwd_model.specs.Chunks.{ChunkInfo, chunks_of, chunk_at}
use Rattle.fwd_theorem_trace.specs.Sound.{NumbersRise, Sound}
use Rattle.fwd_theorem_trace.proofs.Members.{either, from_find}
use Rattle.fwd_theorem_crash.proofs.OrderInvariant.{head_of}

-- ---- heads and names

pub held_of : (kept : Option Kept) (head : ChunkHead) → head_of kept ≡ Some head → file_of_optional kept ≡ Some head.name
held_of None head is = absurd (cc is)
held_of (Some (InFile other)) head is = let same : other ≡ head = cc is in ap (λ (x : ChunkHead). Some x.name) same
held_of (Some (Adopted other)) head is = let same : other ≡ head = cc is in ap (λ (x : ChunkHead). Some x.name) same
held_of (Some (InMemory content)) head is = absurd (cc is)

pub head_held : (kept : Option Kept) (name : List ℕ) → file_of_optional kept ≡ Some name → (head : ChunkHead) × (head_of kept ≡ Some head) × (head.name ≡ name)
head_held None name is = absurd (cc is)
head_held (Some (InFile head)) name is = let same : head.name ≡ name = cc is in (head, refl, same)
head_held (Some (Adopted head)) name is = let same : head.name ≡ name = cc is in (head, refl, same)
head_held (Some (InMemory content)) name is = absurd (cc is)

pub same_head : (kept : Option Kept) (one other : ChunkHead) → head_of kept ≡ Some one → head_of kept ≡ Some other → one ≡ other
same_head kept one other is also = let both : Some one ≡ Some other = sym is ∙ also in cc both

-- ---- a chunk by its number

one_among : (cs : List ChunkInfo) (c d : ChunkInfo) → NumbersRise cs → Contains cs c → Contains cs d → c.number ≡ d.number → c ≡ d
one_among [] c d rise has other same = absurd (omega (arith, has.1))
one_among (x ∷ cs) c d rise has other same = by (either x cs c has) (either x cs d other) (one_among cs c d rise.1)
  where
    by : (x ≡ c) ⊎ Contains cs c → (x ≡ d) ⊎ Contains cs d → (Contains cs c → Contains cs d → c.number ≡ d.number → c ≡ d) → c ≡ d
    by (inl one) (inl two) more = sym one ∙ two
    by (inl one) (inr two) more = let lt = rise.0 d two in let at = ap (λ (y : ChunkInfo). y.number) one in absurd (omega (arith, lt, at, same))
    by (inr one) (inl two) more = let lt = rise.0 c one in let at = ap (λ (y : ChunkInfo). y.number) two in absurd (omega (arith, lt, at, same))
    by (inr one) (inr two) more = more one two same

pub one_chunk : (s : AllSettings) (h : History) (c d : ChunkInfo) → Sound s h → Contains (chunks_of h) c → Contains (chunks_of h) d → c.number ≡ d.number → c ≡ d
one_chunk s h c d sound has other same = one_among (chunks_of h) c d sound.rising has other same

found_here : {X : Type 0} (b : Bool) (y : X) (rest : Option X) → b ≡ true → (z : X) × (cond b (Some y) rest ≡ Some z)
found_here true y rest is = (y, refl)
found_here false y rest is = absurd (cc is)

found_later : {X : Type 0} (b : Bool) (y : X) (rest : Option X) (x : X) → rest ≡ Some x → (z : X) × (cond b (Some y) rest ≡ Some z)
found_later true y rest x is = (y, refl)
found_later false y rest x is = (x, is)

-- if an element passes the test, one is found
pub found_one : {X : Type 0} (test : X → Bool) (xs : List X) (x : X) → Contains xs x → test x ≡ true → (y : X) × (find test xs ≡ Some y)
found_one test [] x has is = absurd (omega (arith, has.1))
found_one {X = X} test (y ∷ xs) x has is = by (either y xs x has) (found_one test xs x)
  where
    by : (y ≡ x) ⊎ Contains xs x → (Contains xs x → test x ≡ true → (z : X) × (find test xs ≡ Some z)) → (z : X) × (find test (y ∷ xs) ≡ Some z)
    by (inl same) more = found_here (test y) y (find test xs) (ap test same ∙ is)
    by (inr later) more = let found = more later is in found_later (test y) y (find test xs) found.0 found.1

pub chunk_found : (s : AllSettings) (h : History) (c : ChunkInfo) → Sound s h → Contains (chunks_of h) c → chunk_at h c.number ≡ Some c
chunk_found s h c sound has =
    let test : ChunkInfo → Bool = λ (d : ChunkInfo). d.number == c.number in
    let found = found_one test (chunks_of h) c has (eq-eqb c.number c.number refl) in
    let there = from_find test (chunks_of h) found.0 found.1 in
    let same : found.0 ≡ c = one_chunk s h found.0 c sound there.0 has (eqb-true found.0.number c.number there.1) in
    found.1 ∙ ap (λ (d : ChunkInfo). Some d) same
