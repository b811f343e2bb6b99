-- Wrong orders of the calls: for each, a post-crash state with a content that nobody wrote.
use Rattle.std.proofs.Common.{◌≡◌, ◌⊎◌, inl, inr, ℕ, ◌<◌, ◌≤◌, Some, None, List, [], ◌∷◌, get_or, drop, refl, arith, lit≤}
use Rattle.std.proofs.lemmas.Bool.{cases_lt}
use Rattle.fwd_outside.specs.File.{FileState, IsPostCrash, whole, absent, overwritten, after_write}
use Rattle.fwd_outside.proofs.KeepsBytes.{get_or-overwritten}
use Rattle.fwd_chunk.specs.Layout.{HasParts, named_meta_bytes, new_file}

-- a file with the content 5
abbrev first : List ℕ
first = 193 ∷ 0 ∷ 0 ∷ 0 ∷ 0 ∷ 0 ∷ 1 ∷ 0 ∷ 0 ∷ 0 ∷ 0 ∷ 0 ∷ 0 ∷ 0 ∷ 0 ∷ 0 ∷ 0 ∷ 1 ∷ 0 ∷ 0 ∷ 0 ∷ 0 ∷ 0 ∷ 0 ∷ 5 ∷ []

-- The selector is written before the batch 7 and its length are synced: none of the three is durable, and
-- the batch may be 9.
abbrev unsynced : FileState
unsynced = after_write (after_write (after_write (whole first) 25 1 (7 ∷ [])) 18 4 (0 ∷ 0 ∷ 0 ∷ 2 ∷ [])) 7 1 (1 ∷ [])

abbrev other_batch : List ℕ
other_batch = overwritten unsynced.bytes 25 (9 ∷ [])

pub selector_before_sync : IsPostCrash unsynced (Some other_batch) × HasParts 1 other_batch [] (5 ∷ 9 ∷ [])
selector_before_sync = (
  (refl, record { no_shorter = lit≤ tt; no_longer = lit≤ tt; same = λ i lt none. get_or-overwritten unsynced.bytes 25 (9 ∷ []) i (lit≤ tt) (inl lt) }),
  record { short = lit≤ tt; id = refl; id_end = refl; marked = inl refl; mark_is = refl; fits = lit≤ tt; meta_is = refl; content_is = refl },
)

-- There is one slot, which is overwritten: its bytes aren't durable, and with them the length of the old
-- content.
abbrev over_the_slot : FileState
over_the_slot = after_write (after_write (whole first) 25 1 (7 ∷ [])) 14 4 (0 ∷ 0 ∷ 0 ∷ 2 ∷ [])

abbrev other_length : List ℕ
other_length = overwritten over_the_slot.bytes 17 (0 ∷ [])

in_slot : (i : ℕ) → ((14 ≤ i) × (i < 18) → ⊥) → (i < 17) ⊎ (18 ≤ i)
in_slot i out = by (cases_lt i 17) (cases_lt i 18)
  where
    by : (i < 17) ⊎ (17 ≤ i) → (i < 18) ⊎ (18 ≤ i) → (i < 17) ⊎ (18 ≤ i)
    by (inl lt) b = inl lt
    by (inr le) (inl lt) = absurd (out (omega (arith, le), lt))
    by (inr le) (inr le2) = inr le2

agree_outside : (i : ℕ) → i < 25 → (i < 17) ⊎ (18 ≤ i) → get_or other_length i 0 ≡ get_or over_the_slot.bytes i 0
agree_outside i lt out = get_or-overwritten over_the_slot.bytes 17 (0 ∷ []) i (lit≤ tt) out

pub one_slot : IsPostCrash over_the_slot (Some other_length) × HasParts 1 other_length [] []
one_slot = (
  (refl, record { no_shorter = lit≤ tt; no_longer = lit≤ tt; same = λ i lt none. agree_outside i lt (in_slot i (λ range. none (inl range))) }),
  record { short = lit≤ tt; id = refl; id_end = refl; marked = inl refl; mark_is = refl; fits = lit≤ tt; meta_is = refl; content_is = refl },
)

-- A batch was staged and not committed. A reader that keeps the bytes after the committed length reads 5 and
-- 9.
abbrev staged : FileState
staged = after_write (whole first) 25 1 (7 ∷ [])

abbrev torn : List ℕ
torn = overwritten staged.bytes 25 (9 ∷ [])

pub torn_tail : IsPostCrash staged (Some torn) × HasParts 1 torn [] (5 ∷ []) × (drop 24 torn ≡ 5 ∷ 9 ∷ [])
torn_tail = (
  (refl, record { no_shorter = lit≤ tt; no_longer = lit≤ tt; same = λ i lt none. get_or-overwritten staged.bytes 25 (9 ∷ []) i (lit≤ tt) (inl lt) }),
  record { short = lit≤ tt; id = refl; id_end = refl; marked = inl refl; mark_is = refl; fits = lit≤ tt; meta_is = refl; content_is = refl },
  refl,
)

-- The file of an accepted chunk isn't created before the end of the run: a crash leaves none.
pub placed_at_the_end : IsPostCrash absent None
placed_at_the_end = refl

-- An outcome is recorded by rewriting the metadata: none of their bytes are durable, and the tag `t` may be
-- `z`.
abbrev new_one : List ℕ
new_one = new_file (116 ∷ []) (5 ∷ []) ((111 ∷ []) ∷ [])

abbrev metadata_anew : FileState
metadata_anew = after_write (whole new_one) 24 11 (named_meta_bytes (116 ∷ []) (record { name = 111 ∷ []; outcome = 68 } ∷ []))

abbrev other_tag : List ℕ
other_tag = overwritten metadata_anew.bytes 30 (122 ∷ [])

in_tag : (i : ℕ) → ((24 ≤ i) × (i < 35) → ⊥) → (i < 30) ⊎ (31 ≤ i)
in_tag i out = by (cases_lt i 30) (cases_lt i 31)
  where
    by : (i < 30) ⊎ (30 ≤ i) → (i < 31) ⊎ (31 ≤ i) → (i < 30) ⊎ (31 ≤ i)
    by (inl lt) b = inl lt
    by (inr le) (inl lt) = absurd (out (omega (arith, le), omega (arith, lt)))
    by (inr le) (inr le2) = inr le2

pub whole_metadata : IsPostCrash metadata_anew (Some other_tag) × HasParts 2 other_tag (named_meta_bytes (122 ∷ []) (record { name = 111 ∷ []; outcome = 68 } ∷ [])) (5 ∷ [])
whole_metadata = (
  (refl, record { no_shorter = lit≤ tt; no_longer = lit≤ tt; same = λ i lt none. get_or-overwritten metadata_anew.bytes 30 (122 ∷ []) i (lit≤ tt) (in_tag i (λ range. none (inl range))) }),
  record { short = lit≤ tt; id = refl; id_end = refl; marked = inr refl; mark_is = refl; fits = lit≤ tt; meta_is = refl; content_is = refl },
)
