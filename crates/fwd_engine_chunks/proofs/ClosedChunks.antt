-- Chunks that close one after another.
use Rattle.std.proofs.Common.{◌≡◌, ℕ, ◌+◌, ◌<◌, ◌≤◌, Bool, true, false, not, inl, inr, List, [], ◌∷◌, Some, map, refl, sym, ◌∙◌, ap, arith}
use Rattle.std.specs.Prelude.{◌==◌, filter}
use Rattle.std.specs.List.{list_any}
use Rattle.std.proofs.lemmas.Bool.{cases_Bool, eq-eqb, ne_eqb, eqb-true}
use Rattle.fwd_outside.specs.Program.{Return, bind}
use Rattle.fwd_settings.specs.declared.settings_types.AllSettings.{AllSettings}
use Rattle.fwd_table.specs.Row.{Row}
use Rattle.fwd_table.specs.Rows.{has_row}
use Rattle.fwd_model.specs.Fact.{History, ChunkClosed}
use Rattle.fwd_model.specs.Trace.{Action}
use Rattle.fwd_model.specs.Chunks.{ChunkInfo, chunks_of, next, is_closed, open_chunks}
use Rattle.fwd_model.specs.Routes.{is_owed, row_of, rows_of}
use Rattle.fwd_model.specs.Limits.{evicted_at}
use Rattle.fwd_model.specs.CloseActions.{closes_chunk, closes_each, closes_all, loses}
use Rattle.fwd_engine_state.specs.Views.{chunk_id}
use Rattle.fwd_engine_state.specs.StateRepresents.{NumbersRise, is_open}
use Rattle.fwd_engine_state.proofs.PendingRows.{no_row}
use Rattle.fwd_engine_state.proofs.ChunkOrder.{none_before}
use Rattle.fwd_engine_state.specs.PartsRepresent.{PartsRepresentIdle, IsClosing}
use Rattle.fwd_engine_state.specs.declared.parts.Parts.{Parts}
use Rattle.fwd_engine_state.proofs.FactSteps.{closing_when_full}
use Rattle.fwd_engine_state.proofs.InvariantSteps.{sound_any}
use Rattle.fwd_engine_chunks.specs.Evictions.{IsNotAmong}
use Rattle.fwd_engine_chunks.proofs.ActionResults.{Ends, ends_more}
use Rattle.fwd_engine_chunks.proofs.ResolutionFrame.{Kept, loses_kept}

-- the chunks by their numbers
abbrev pub closes_by : AllSettings → List ℕ → History → Action History
closes_by s [] h = Return h
closes_by s (n ∷ ns) h = bind (closes_chunk s n h) (closes_by s ns)

pub closes_is : (s : AllSettings) (cs : List ChunkInfo) (h : History) → closes_each s cs h ≡ closes_by s (map (λ (c : ChunkInfo). c.number) cs) h
closes_is s [] h = refl
closes_is s (c ∷ cs) h = λ i. bind (closes_chunk s c.number h) (λ g. closes_is s cs g i)

-- each is open, and they are distinct
abbrev pub AreOpen : History → List ℕ → Type 0
AreOpen h [] = Unit {0}
AreOpen h (n ∷ ns) = (is_closed h n ≡ false) × (n < next h) × IsNotAmong n ns × AreOpen h ns

-- one chunk has closed, and no other
pub record Closed (n : ℕ) (h g : History) : Type 0 where
  pub number : next g ≡ next h
  pub shut : (q : ℕ) → (n == q) ≡ false → is_closed g q ≡ is_closed h q

pub shuts_closed : (s : AllSettings) (n : ℕ) (h : History) → Ends (Closed n h) (closes_chunk s n h)
unfolding closes_chunk
shuts_closed s n h = λ _. ends_more (Kept (ChunkClosed n ∷ h)) (Closed n h) (loses s (evicted_at s (ChunkClosed n ∷ h) n) (ChunkClosed n ∷ h))
    (λ g kept. record { number = kept.number; shut = λ q apart. kept.shut q ∙ rw apart refl }) (loses_kept s (evicted_at s (ChunkClosed n ∷ h) n) (ChunkClosed n ∷ h))

pub open_still : (n : ℕ) (h g : History) (ns : List ℕ) → Closed n h g → IsNotAmong n ns → AreOpen h ns → AreOpen g ns
open_still n h g [] closed apart opens = tt
open_still n h g (m ∷ ms) closed apart opens =
    let number = closed.number in
    let below = opens.1 in
    (closed.shut m apart.0 ∙ opens.0, omega (arith, number, below), opens.2, open_still n h g ms closed apart.1 opens.3)

-- ---- the open chunks

none_in : (p : ChunkInfo → Bool) (n least past : ℕ) (cs : List ChunkInfo) → n < least → NumbersRise least past cs → IsNotAmong n (map (λ (c : ChunkInfo). c.number) (filter p cs))
none_in p n least past [] below rise = tt
none_in p n least past (c ∷ cs) below rise =
    let first : least ≤ c.number = rise.0 in
    let rest = none_in p n (c.number + 1) past cs (omega (arith, below, first)) rise.2 in
    elim (cases_Bool (p c)) [ inl is ↦ rw is (ne_eqb n c.number (λ e. absurd (omega (arith, below, first, e))), rest) | inr isnt ↦ rw isnt rest ]

not_is : (b : Bool) → not b ≡ true → b ≡ false
not_is true is = absurd (cc is)
not_is false is = refl

open_chunks_of : (h : History) (least : ℕ) (cs : List ChunkInfo) → NumbersRise least (next h) cs → AreOpen h (map (λ (c : ChunkInfo). c.number) (filter (λ (c : ChunkInfo). not (is_closed h c.number)) cs))
open_chunks_of h least [] rise = tt
open_chunks_of h least (c ∷ cs) rise =
    let rest = open_chunks_of h (c.number + 1) cs rise.2 in
    elim (cases_Bool (not (is_closed h c.number))) [
      | inl is ↦ rw is (not_is (is_closed h c.number) is, rise.1, none_in (λ (c : ChunkInfo). not (is_closed h c.number)) c.number (c.number + 1) (next h) cs (omega arith) rise.2, rest)
      | inr isnt ↦ rw isnt rest
    ]

pub all_open : (h : History) → NumbersRise 0 (next h) (chunks_of h) → AreOpen h (map (λ (c : ChunkInfo). c.number) (open_chunks h))
all_open h rise = open_chunks_of h 0 (chunks_of h) rise

-- ---- each has a row

any_above : (p : ChunkInfo → Bool) (k least past : ℕ) (cs : List ChunkInfo) → NumbersRise least past cs → list_any (λ (c : ChunkInfo). c.number == k) (filter p cs) ≡ true → least ≤ k
any_above p k least past [] rise any = absurd (cc any)
any_above p k least past (c ∷ cs) rise any =
    let first : least ≤ c.number = rise.0 in
    elim (cases_Bool (p c)) [
      | inl is ↦ elim (cases_Bool (c.number == k)) [
        | inl same ↦ let e : c.number ≡ k = eqb-true c.number k same in omega (arith, first, e)
        | inr differs ↦ let rest = any_above p k (c.number + 1) past cs rise.2 (rw (is, differs) at any) in omega (arith, first, rest)
      ]
      | inr isnt ↦ let rest = any_above p k (c.number + 1) past cs rise.2 (rw isnt at any) in omega (arith, first, rest)
    ]

abbrev left_open : History → List ChunkInfo → List ChunkInfo
left_open h cs = filter (λ (c : ChunkInfo). not (is_closed h c.number)) cs

owed_behind : (s : AllSettings) (h : History) (k : ℕ) (c : ChunkInfo) (cs : List ChunkInfo) → (c.number == k) ≡ false → has_row (chunk_id k) (map (row_of s h) (filter (is_owed s h) (c ∷ cs))) ≡ true
    → has_row (chunk_id k) (map (row_of s h) (filter (is_owed s h) cs)) ≡ true
owed_behind s h k c cs apart is = elim (cases_Bool (is_owed s h c)) [ inl owes ↦ rw (owes, apart) at is | inr nobody ↦ rw nobody at is ]

open_behind : (h : History) (k : ℕ) (c : ChunkInfo) (cs : List ChunkInfo) → (c.number == k) ≡ false → list_any (λ (c : ChunkInfo). c.number == k) (left_open h cs) ≡ true → list_any (λ (c : ChunkInfo). c.number == k) (left_open h (c ∷ cs)) ≡ true
open_behind h k c cs apart any = elim (cases_Bool (not (is_closed h c.number))) [ inl still ↦ rw (still, apart) any | inr done ↦ rw done any ]

open_here : (h : History) (c : ChunkInfo) (cs : List ChunkInfo) → not (is_closed h c.number) ≡ true → list_any (λ (d : ChunkInfo). d.number == c.number) (left_open h (c ∷ cs)) ≡ true
open_here h c cs still = rw (still, eq-eqb c.number c.number refl) refl

nobody_here : (s : AllSettings) (h : History) (c : ChunkInfo) (cs : List ChunkInfo) → is_owed s h c ≡ false → has_row (chunk_id c.number) (map (row_of s h) (filter (is_owed s h) (c ∷ cs))) ≡ true
    → has_row (chunk_id c.number) (map (row_of s h) (filter (is_owed s h) cs)) ≡ true
nobody_here s h c cs nobody is = rw nobody at is

rows_in : (s : AllSettings) (h : History) (least past : ℕ) (cs : List ChunkInfo) → NumbersRise least past cs
    → ((k : ℕ) → list_any (λ (c : ChunkInfo). c.number == k) (left_open h cs) ≡ true → has_row (chunk_id k) (map (row_of s h) (filter (is_owed s h) cs)) ≡ true)
    → map (λ (row : Row). row.chunk.0) (filter (λ (row : Row). not row.shut) (map (row_of s h) (filter (is_owed s h) cs))) ≡ map (λ (c : ChunkInfo). c.number) (left_open h cs)
rows_in s h least past [] rise has = refl
rows_in s h least past (c ∷ cs) rise has =
    let rest = rows_in s h (c.number + 1) past cs rise.2 (λ k any.
    let behind = any_above (λ (c : ChunkInfo). not (is_closed h c.number)) k (c.number + 1) past cs rise.2 any in
    let apart : (c.number == k) ≡ false = ne_eqb c.number k (λ e. absurd (omega (arith, behind, e))) in
    owed_behind s h k c cs apart (has k (open_behind h k c cs apart any))) in
    elim (cases_Bool (not (is_closed h c.number))) [
      | inl still ↦ elim (cases_Bool (is_owed s h c)) [
        | inl owes ↦ rw (still, owes, still) (ap (λ (l : List ℕ). c.number ∷ l) rest)
        | inr nobody ↦
            let none = no_row s h c.number cs (none_before (c.number + 1) past c.number cs rise.2 (omega arith)) in
            absurd (cc (sym none ∙ nobody_here s h c cs nobody (has c.number (open_here h c cs still))))
      ]
      | inr done ↦ elim (cases_Bool (is_owed s h c)) [ inl owes ↦ rw (done, owes, done) rest | inr nobody ↦ rw (done, nobody) rest ]
    ]

pub rows_open : (s : AllSettings) (h : History) → NumbersRise 0 (next h) (chunks_of h) → ((k : ℕ) → is_open h k ≡ true → has_row (chunk_id k) (rows_of s h) ≡ true)
    → map (λ (row : Row). row.chunk.0) (filter (λ (row : Row). not row.shut) (rows_of s h)) ≡ map (λ (c : ChunkInfo). c.number) (open_chunks h)
rows_open s h rise has = rows_in s h 0 (next h) (chunks_of h) rise has

-- ---- all of them

pub all_is : (s : AllSettings) (h : History) → closes_all s h ≡ closes_by s (map (λ (c : ChunkInfo). c.number) (open_chunks h)) h
unfolding closes_all
all_is s h = closes_is s (open_chunks h) h

pub may_close : (s : AllSettings) (parts : Parts) (h : History) (n : ℕ) → PartsRepresentIdle s parts h → is_closed h n ≡ false → n < next h → IsClosing s parts h n
may_close s parts h n shows still given = closing_when_full s parts h n (record { state = shows.state; input_streams = shows.input_streams; followed_files = shows.followed_files; store = shows.store; sound = sound_any s h (Some n) shows.sound }) still given
