-- Room for batches in open chunks, after an acceptance and a closing.
use Rattle.std.proofs.Common.{◌≡◌, ◌≢◌, ⊎_elim, ℕ, ◌<◌, ◌≤◌, not, true, false, cond, List, [], ◌∷◌, ◌++◌, length, Option, Some, None, refl, sym, ◌∙◌, ap, subst, arith}
use Rattle.std.specs.Prelude.{Contains, ◌==◌, nat_le}
use Rattle.std.proofs.lemmas.Bool.{cases_eq, cond-true, cond-false, eq-eqb, ne_eqb, eqb-true, leb-false}
use Rattle.std.proofs.lemmas.List.Elements.{Contains-append_cases}
use Rattle.fwd_base.specs.Limits.{full_chunk}
use Rattle.fwd_settings.specs.declared.settings_types.AllSettings.{AllSettings}
use Rattle.fwd_model.specs.Fact.{History, Batch, NewChunk, AppendedTo, Offered, Accepted, ChunkClosed}
use Rattle.fwd_model.specs.Chunks.{ChunkInfo, chunks_of, open_chunks, chunk_at, next, is_closed, content, size, created_info, encoded}
use Rattle.fwd_theorem_trace.specs.Sound.{Sound}
use Rattle.fwd_theorem_trace.proofs.Members.{either, from_filter, in_filter, from_find, off_where_not, not_where_off}
use Rattle.fwd_theorem_crash.proofs.OrderInvariant.{HaveRoom}

-- each open chunk but one has room
abbrev pub RoomBut : ℕ → History → Type 0
RoomBut n h = (c : ChunkInfo) → Contains (open_chunks h) c → c.number ≢ n → size h c.number < full_chunk

-- an open chunk isn't closed
pub open_of : (h : History) (c : ChunkInfo) → Contains (open_chunks h) c → Contains (chunks_of h) c × (is_closed h c.number ≡ false)
open_of h c has =
    let both = from_filter (λ (d : ChunkInfo). not (is_closed h d.number)) (chunks_of h) c has in
    (both.0, off_where_not (is_closed h c.number) both.1)

pub is_open : (h : History) (c : ChunkInfo) → Contains (chunks_of h) c → is_closed h c.number ≡ false → Contains (open_chunks h) c
is_open h c among off = in_filter (λ (d : ChunkInfo). not (is_closed h d.number)) (chunks_of h) c among (not_where_off (is_closed h c.number) off)

less_of : (n m : ℕ) → nat_le n m ≡ false → m < n
less_of n m is = leb-false n m is

-- if that one has room too
pub room_all : (n : ℕ) (h : History) → RoomBut n h → nat_le full_chunk (size h n) ≡ false → HaveRoom h
room_all n h but small c has =
    ⊎_elim (λ (is : c.number ≡ n). subst (λ (m : ℕ). size h m < full_chunk) (sym is) (less_of full_chunk (size h n) small)) (λ (ne : c.number ≢ n). but c has ne) (cases_eq c.number n)

-- and if it is closed
pub room_shut : (n : ℕ) (h : History) → RoomBut n h → HaveRoom (ChunkClosed n ∷ h)
room_shut n h but c has =
    let at = open_of (ChunkClosed n ∷ h) c has in
    ⊎_elim (λ (is : c.number ≡ n). let now : is_closed (ChunkClosed n ∷ h) c.number ≡ true = cond-true (n == c.number) true (is_closed h c.number) (eq-eqb n c.number (sym is)) in absurd (cc (sym now ∙ at.1)))
    (λ (ne : c.number ≢ n).
    let off : is_closed h c.number ≡ false = sym (cond-false (n == c.number) true (is_closed h c.number) (ne_eqb n c.number (λ e. ne (sym e)))) ∙ at.1 in
    but c (is_open h c at.0 off) ne)
    (cases_eq c.number n)

same_size : (h : History) (b : Batch) (n m : ℕ) → m ≢ n → length (cond (n == m) (content h m ++ encoded b.events) (content h m)) ≡ size h m
same_size h b n m ne = ap (λ (l : List ℕ). length l) (cond-false (n == m) (content h m ++ encoded b.events) (content h m) (ne_eqb n m (λ e. ne (sym e))))

begun_is : (b : Batch) (n : ℕ) (c : ChunkInfo) → Contains (created_info b (NewChunk n)) c → c.number ≡ n
begun_is b n c has =
    let made : ChunkInfo = record { number = n; input = Some b.input; tag = b.tag } in
    ⊎_elim (λ (same : made ≡ c). ap (λ (d : ChunkInfo). d.number) (sym same)) (λ (none : Contains [] c). absurd (omega (arith, none.1))) (either made [] c has)

pub room_begun : (n : ℕ) (b : Batch) (h : History) → HaveRoom h → RoomBut n (Accepted b (NewChunk n) ∷ Offered n b ∷ h)
room_begun n b h room c has ne =
    let g : History = Accepted b (NewChunk n) ∷ Offered n b ∷ h in
    let at = open_of g c has in
    ⊎_elim (λ (old : Contains (chunks_of h) c). subst (λ (m : ℕ). m < full_chunk) (sym (same_size h b n c.number ne)) (room c (is_open h c old at.1)))
    (λ (new : Contains (created_info b (NewChunk n)) c). absurd (ne (begun_is b n c new)))
    (Contains-append_cases (chunks_of h) (created_info b (NewChunk n)) c at.0)

pub room_grown : (n : ℕ) (b : Batch) (h : History) → HaveRoom h → RoomBut n (Accepted b (AppendedTo n) ∷ Offered n b ∷ h)
room_grown n b h room c has ne =
    let g : History = Accepted b (AppendedTo n) ∷ Offered n b ∷ h in
    let at = open_of g c has in
    ⊎_elim (λ (old : Contains (chunks_of h) c). subst (λ (m : ℕ). m < full_chunk) (sym (same_size h b n c.number ne)) (room c (is_open h c old at.1)))
    (λ (new : Contains [] c). absurd (omega (arith, new.1)))
    (Contains-append_cases (chunks_of h) [] c at.0)

-- no chunk has the number of a chunk to come
pub no_chunk : (s : AllSettings) (h : History) (n : ℕ) → Sound s h → next h ≤ n → chunk_at h n ≡ None
no_chunk s h n sound le = by (chunk_at h n) refl
  where
    by : (found : Option ChunkInfo) → chunk_at h n ≡ found → found ≡ None
    by None at = refl
    by (Some c) at =
        let found = from_find (λ (c : ChunkInfo). c.number == n) (chunks_of h) c at in
        let lt = sound.below c found.0 in
        let is = eqb-true c.number n found.1 in
        absurd (omega (arith, lt, is, le))
