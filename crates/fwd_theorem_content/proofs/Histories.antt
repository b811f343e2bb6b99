-- Facts that keep no chunk differently, and what a history says of a number that isn't used or of a recovered
-- chunk.
use Rattle.std.proofs.Common.{◌≡◌, ℕ, ◌<◌, ◌≤◌, Bool, true, false, cond, List, [], ◌∷◌, unwrap_or, Option, Some, None, refl, ◌∙◌, arith}
use Rattle.std.specs.Prelude.{◌==◌}
use Rattle.std.proofs.lemmas.Bool.{cond-false, ne_eqb}
use Rattle.fwd_outside.specs.declared.home.Home.{Home}
use Rattle.fwd_outside.specs.declared.home.Home.TheVariants.{Disk, Ram}
use Rattle.fwd_chunk.specs.declared.append.ChunkHead.{ChunkHead}
use Rattle.fwd_chunk.specs.declared.kept.Kept.{Kept}
use Rattle.fwd_chunk.specs.declared.kept.Kept.TheVariants.{InFile, Adopted, InMemory}
use Rattle.fwd_chunk.specs.Name.{found_name}
use Rattle.fwd_store.specs.Store.{new_kept}
use Rattle.fwd_settings.specs.declared.settings_types.AllSettings.{AllSettings}
use Rattle.fwd_model.specs.Fact.{Fact, History, NoChunk, NewChunk, AppendedTo, Found, Offered, Accepted, ChunkClosed, Removed, FileLeft}
use Rattle.fwd_model.specs.Settings.{home_at, names_for}
use Rattle.fwd_model.specs.RecoveredFile.{recovered_chunk}
use Rattle.fwd_model.specs.Chunks.{next, content, is_closed, encoded}
use Rattle.fwd_model.specs.ChunkStorage.{adopted, created_with, grown_by, kept_of, name_for}
use Rattle.fwd_theorem_trace.specs.Sound.{chunk_of, IsBelow}
use Rattle.fwd_theorem_trace.proofs.Members.{here, deeper}
use Rattle.fwd_theorem_crash.proofs.PlainFacts.{IsPlain}
use Rattle.fwd_theorem_crash.proofs.UnusedNumbers.{IsUnused}
use Rattle.fwd_theorem_content.proofs.KeptContent.{KeepsTheSame}

-- ---- plain facts

module _ (s : AllSettings) where
  plain_kept : (fact : Fact) (h : History) (n : ℕ) → IsPlain fact → kept_of s (fact ∷ h) n ≡ kept_of s h n
  plain_kept (Found number stream name bytes) h n plain = absurd plain
  plain_kept (Accepted b NoChunk) h n plain = refl
  plain_kept (Accepted b (NewChunk chunk)) h n plain = absurd plain
  plain_kept (Accepted b (AppendedTo chunk)) h n plain = absurd plain
  plain_kept (Removed chunk) h n plain = absurd plain
  plain_kept (FileLeft chunk) h n plain = absurd plain
  plain_kept fact h n plain = refl

  plain_content : (fact : Fact) (h : History) (n : ℕ) → IsPlain fact → content (fact ∷ h) n ≡ content h n
  plain_content (Found number stream name bytes) h n plain = absurd plain
  plain_content (Accepted b NoChunk) h n plain = refl
  plain_content (Accepted b (NewChunk chunk)) h n plain = absurd plain
  plain_content (Accepted b (AppendedTo chunk)) h n plain = absurd plain
  plain_content fact h n plain = refl

  plain_next : (fact : Fact) (h : History) → IsPlain fact → next h ≤ next (fact ∷ h)
  plain_next (Found number stream name bytes) h plain = absurd plain
  plain_next (Offered chunk b) h plain = absurd plain
  plain_next fact h plain = omega arith

  pub plain_same : (fact : Fact) (h : History) → IsPlain fact → KeepsTheSame s h (fact ∷ h)
  plain_same fact h plain = record { kept = λ n. plain_kept fact h n plain; has = λ n. plain_content fact h n plain; later = plain_next fact h plain }

-- ---- a number without facts

not_at : (m n : ℕ) → m < n → (m == n) ≡ false
not_at m n lt = ne_eqb m n (λ e. omega (arith, lt, e))

pub kept_unused : (s : AllSettings) (h : History) (n : ℕ) → IsUnused h n → kept_of s h n ≡ None
kept_unused s [] n unused = refl
kept_unused s (fact ∷ h) n unused = by fact (unused fact (here fact h)) (kept_unused s h n (λ f has. unused f (deeper fact h f has)))
  where
    by : (f : Fact) → IsBelow n (chunk_of f) → kept_of s h n ≡ None → kept_of s (f ∷ h) n ≡ None
    by (Found number stream name bytes) lt more =
        cond-false (number == n) (adopted (found_name (unwrap_or s.service.path []) stream name) (recovered_chunk bytes)) (kept_of s h n) (not_at number n lt) ∙ more
    by (Accepted b NoChunk) lt more = more
    by (Accepted b (NewChunk other)) lt more = cond-false (other == n) (Some (created_with s b other)) (kept_of s h n) (not_at other n lt) ∙ more
    by (Accepted b (AppendedTo other)) lt more = cond-false (other == n) (grown_by (encoded b.events) (kept_of s h n)) (kept_of s h n) (not_at other n lt) ∙ more
    by (Removed other) lt more = cond-false (other == n) None (kept_of s h n) (not_at other n lt) ∙ more
    by (FileLeft other) lt more = cond-false (other == n) None (kept_of s h n) (not_at other n lt) ∙ more
    by f lt more = more

-- ---- a recovered chunk is closed

module _ (head : ChunkHead) where
  abbrev IsFound : Option Kept → Type 0
  IsFound kept = kept ≡ Some (Adopted head)

  new_differs : (name tag : List ℕ) (home : Home) (batch : List ℕ) (outputs : List (List ℕ)) → IsFound (Some (new_kept name tag home batch outputs)) → ⊥
  new_differs name tag Disk batch outputs is = absurd (cc is)
  new_differs name tag Ram batch outputs is = absurd (cc is)

  was_found : (batch : List ℕ) (kept : Option Kept) → IsFound (grown_by batch kept) → IsFound kept
  was_found batch None is = absurd (cc is)
  was_found batch (Some (InFile other)) is = absurd (cc is)
  was_found batch (Some (Adopted other)) is = is
  was_found batch (Some (InMemory bytes)) is = absurd (cc is)

  closed_now : (b : Bool) (new old : Option Kept) (off : Bool) → IsFound (cond b new old) → (IsFound old → off ≡ true) → cond b true off ≡ true
  closed_now true new old off is more = refl
  closed_now false new old off is more = more is

  still_closed : (b off : Bool) → off ≡ true → cond b true off ≡ true
  still_closed true off is = refl
  still_closed false off is = is

  found_before : (b : Bool) (new old : Option Kept) → IsFound (cond b new old) → (IsFound new → IsFound old) → IsFound old
  found_before true new old is from = from is
  found_before false new old is from = is

pub found_closed : (s : AllSettings) (h : History) (n : ℕ) (head : ChunkHead) → kept_of s h n ≡ Some (Adopted head) → is_closed h n ≡ true
found_closed s [] n head is = absurd (cc is)
found_closed s (fact ∷ h) n head is = by fact is (λ was. found_closed s h n head was)
  where
    by : (f : Fact) → kept_of s (f ∷ h) n ≡ Some (Adopted head) → (kept_of s h n ≡ Some (Adopted head) → is_closed h n ≡ true) → is_closed (f ∷ h) n ≡ true
    by (Found number stream name bytes) at more =
        closed_now head (number == n) (adopted (found_name (unwrap_or s.service.path []) stream name) (recovered_chunk bytes)) (kept_of s h n) (is_closed h n) at more
    by (ChunkClosed other) at more = still_closed head (other == n) (is_closed h n) (more at)
    by (Accepted b NoChunk) at more = more at
    by (Accepted b (NewChunk other)) at more =
        more (found_before head (other == n) (Some (created_with s b other)) (kept_of s h n) at
        (λ new. absurd (new_differs head (name_for s b.input other) b.tag (home_at s b.input) (encoded b.events) (names_for s b.tag) new)))
    by (Accepted b (AppendedTo other)) at more =
        more (found_before head (other == n) (grown_by (encoded b.events) (kept_of s h n)) (kept_of s h n) at (λ new. was_found head (encoded b.events) (kept_of s h n) new))
    by (Removed other) at more = more (found_before head (other == n) None (kept_of s h n) at (λ new. absurd (cc new)))
    by (FileLeft other) at more = more (found_before head (other == n) None (kept_of s h n) at (λ new. absurd (cc new)))
    by f at more = more at
