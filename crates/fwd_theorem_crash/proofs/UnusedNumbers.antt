-- A number without facts, and recovered chunks.
use Rattle.std.proofs.Common.{◌≡◌, ℕ, ◌<◌, ◌&&◌, Bool, true, false, cond, List, [], ◌∷◌, ◌++◌, Option, Some, None, refl, ◌∙◌, arith}
use Rattle.std.specs.Prelude.{Contains, find, ◌==◌}
use Rattle.std.proofs.lemmas.Bool.{cond-false, ne_eqb, eqb-true, and_left, or_from}
use Rattle.fwd_chunk.specs.declared.append.ChunkHead.{ChunkHead}
use Rattle.fwd_outside.specs.DiskStates.{Files}
use Rattle.fwd_chunk.specs.Kept.{file_of_optional}
use Rattle.fwd_settings.specs.declared.settings_types.AllSettings.{AllSettings}
use Rattle.fwd_model.specs.Fact.{Fact, History, NoChunk, NewChunk, AppendedTo, Found, Accepted, MarkStarted, Marked}
use Rattle.fwd_model.specs.Settings.{output_name}
use Rattle.fwd_model.specs.RecoveredFile.{recovered_chunk, is_marked_done, recovered_content}
use Rattle.fwd_model.specs.Chunks.{ChunkInfo, chunks_of, chunk_at, next, content, encoded}
use Rattle.fwd_model.specs.ChunkStorage.{kept_of}
use Rattle.fwd_model.specs.Routes.{route, same_route}
use Rattle.fwd_theorem_trace.specs.Sound.{chunk_of, IsBelow, Sound}
use Rattle.fwd_theorem_trace.proofs.Members.{here, deeper, from_find}
use Rattle.fwd_theorem_crash.specs.RecordedOutcomes.{is_recorded}
use Rattle.fwd_theorem_crash.proofs.OrderInvariant.{head_of, InOrder}
use Rattle.fwd_theorem_crash.proofs.Lookups.{head_held}

not_at : (m n : ℕ) → m < n → (m == n) ≡ false
not_at m n lt = ne_eqb m n (λ e. omega (arith, lt, e))

-- all facts are about chunks below the number
abbrev pub IsUnused : History → ℕ → Type 0
IsUnused h n = (fact : Fact) → Contains h fact → IsBelow n (chunk_of fact)

pub content_unused : (h : History) (n : ℕ) → IsUnused h n → content h n ≡ []
content_unused [] n unused = refl
content_unused (fact ∷ h) n unused = by fact (unused fact (here fact h)) (content_unused h n (λ f has. unused f (deeper fact h f has)))
  where
    by : (f : Fact) → IsBelow n (chunk_of f) → content h n ≡ [] → content (f ∷ h) n ≡ []
    by (Found number stream name bytes) lt more = cond-false (number == n) (recovered_content bytes) (content h n) (not_at number n lt) ∙ more
    by (Accepted b NoChunk) lt more = more
    by (Accepted b (NewChunk other)) lt more = cond-false (other == n) (content h n ++ encoded b.events) (content h n) (not_at other n lt) ∙ more
    by (Accepted b (AppendedTo other)) lt more = cond-false (other == n) (content h n ++ encoded b.events) (content h n) (not_at other n lt) ∙ more
    by f lt more = more

pub recorded_unused : (s : AllSettings) (h : History) (n output : ℕ) → IsUnused h n → is_recorded s h (route n output) ≡ false
recorded_unused s [] n output unused = refl
recorded_unused s (fact ∷ h) n output unused = by fact (unused fact (here fact h)) (recorded_unused s h n output (λ f has. unused f (deeper fact h f has)))
  where
    either_way : (b rest : Bool) → rest ≡ false → cond b false rest ≡ false
    either_way true rest is = refl
    either_way false rest is = is

    by : (f : Fact) → IsBelow n (chunk_of f) → is_recorded s h (route n output) ≡ false → is_recorded s (f ∷ h) (route n output) ≡ false
    by (Found number stream name bytes) lt more = or_from (number == n && is_marked_done (output_name s output) (recovered_chunk bytes)) (is_recorded s h (route n output)) (and_left (number == n) (is_marked_done (output_name s output) (recovered_chunk bytes)) (not_at number n lt)) more
    by (MarkStarted other) lt more = either_way (same_route other (route n output)) (is_recorded s h (route n output)) more
    by (Marked other) lt more = or_from (same_route other (route n output)) (is_recorded s h (route n output)) (and_left (other.chunk == n) (other.output == output) (not_at other.chunk n lt)) more
    by f lt more = more

-- ---- the next number

pub no_chunk_next : (s : AllSettings) (h : History) → Sound s h → chunk_at h (next h) ≡ None
no_chunk_next s h sound = by (chunk_at h (next h)) refl
  where
    by : (at : Option ChunkInfo) → chunk_at h (next h) ≡ at → chunk_at h (next h) ≡ None
    by None is = is
    by (Some c) is =
        let found = from_find (λ (d : ChunkInfo). d.number == next h) (chunks_of h) c is in
        let same = eqb-true c.number (next h) found.1 in
        let lt = sound.below c found.0 in
        absurd (omega (arith, same, lt))

module _ (s : AllSettings) (first : Files) (h : History) (files : Files) (sound : Sound s h) (order : InOrder s first h files) where
  pub no_head_next : (head : ChunkHead) → head_of (kept_of s h (next h)) ≡ Some head → ⊥
  no_head_next head is =
      let at_home = order.home (next h) head is in
      let lt = sound.below at_home.of at_home.among in
      let same = at_home.is in
      omega (arith, lt, same)

  pub no_file_next : (name : List ℕ) → file_of_optional (kept_of s h (next h)) ≡ Some name → ⊥
  no_file_next name is = let held = head_held (kept_of s h (next h)) name is in no_head_next held.0 held.1

-- ---- one more after those that were searched

pub find_none_more : {X : Type 0} (test : X → Bool) (xs : List X) (y : X) → find test xs ≡ None → test y ≡ false → find test (xs ++ y ∷ []) ≡ None
find_none_more test [] y none off = cond-false (test y) (Some y) None off
find_none_more {X = X} test (x ∷ xs) y none off = by (test x) none (λ rest. find_none_more test xs y rest off)
  where
    by : (b : Bool) → cond b (Some x) (find test xs) ≡ None → (find test xs ≡ None → find test (xs ++ y ∷ []) ≡ None) → cond b (Some x) (find test (xs ++ y ∷ [])) ≡ None
    by true is more = absurd (cc is)
    by false is more = more is
