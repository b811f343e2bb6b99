-- The invariant between two actions: the files of both disks have the content of each chunk that is kept in one.
use Rattle.std.proofs.Common.{◌≡◌, ◌≢◌, ◌⊎◌, inl, inr, ℕ, ◌+◌, List, [], Option, Some, None, refl, sym, ◌∙◌, ap, subst}
use Rattle.std.proofs.lemmas.Bool.{cases_eq}
use Rattle.fwd_outside.specs.DiskStates.{Files}
use Rattle.fwd_outside.specs.PostCrash.{OthersUnchanged}
use Rattle.fwd_chunk.specs.declared.append.ChunkHead.{ChunkHead}
use Rattle.fwd_chunk.specs.declared.kept.Kept.{Kept}
use Rattle.fwd_chunk.specs.Kept.{file_of_optional}
use Rattle.fwd_settings.specs.declared.settings_types.AllSettings.{AllSettings}
use Rattle.fwd_model.specs.Fact.{History}
use Rattle.fwd_model.specs.ChunkStorage.{kept_of}
use Rattle.fwd_theorem_crash.proofs.OrderInvariant.{head_of}
use Rattle.fwd_theorem_crash.proofs.Lookups.{held_of}
use Rattle.fwd_theorem_content.proofs.KeptContent.{FilesHaveContents, KeepsTheSame, carried}
use Rattle.fwd_theorem_disks.proofs.MemFiles.{no_files}
use Rattle.fwd_theorem_disks.proofs.Pairs.{Has, has_same}

-- where the content of a chunk ends
abbrev pub end_of : ChunkHead → ℕ
end_of head = 24 + head.meta + head.size

-- the file of each chunk that is kept in one is there, and is long enough for its content
abbrev pub FilesStand : AllSettings → History → Files → Type 0
FilesStand s h files = (chunk : ℕ) (head : ChunkHead) → head_of (kept_of s h chunk) ≡ Some head → Has head.name (end_of head) files

pub record Fits (s : AllSettings) (h : History) (live mem : Files) : Type 0 where
  pub live_has : FilesHaveContents s h live
  pub mem_has : FilesHaveContents s h mem
  pub stand : FilesStand s h mem

pub fits_same : (s : AllSettings) (h new : History) (live mem : Files) → KeepsTheSame s h new → Fits s h live mem → Fits s new live mem
fits_same s h new live mem same fits = record {
  live_has = carried s h new live same fits.live_has;
  mem_has = carried s h new mem same fits.mem_has;
  stand = λ chunk head held. fits.stand chunk head (subst (λ (k : Option Kept). head_of k ≡ Some head) (same.kept chunk) held);
}

-- ---- one chunk and its file may change

module _ (s : AllSettings) (h g : History) (files now : Files) (n : ℕ) where
  pub stand_moved : ((m : ℕ) → m ≢ n → kept_of s g m ≡ kept_of s h m) → ((m : ℕ) (name : List ℕ) → m ≢ n → file_of_optional (kept_of s h m) ≡ Some name → now name ≡ files name)
      → ((head : ChunkHead) → head_of (kept_of s g n) ≡ Some head → Has head.name (end_of head) now) → FilesStand s h files → FilesStand s g now
  stand_moved kept apart own stand chunk head is = by (cases_eq chunk n)
    where
      by : (chunk ≡ n) ⊎ (chunk ≢ n) → Has head.name (end_of head) now
      by (inl one) = own head (subst (λ (m : ℕ). head_of (kept_of s g m) ≡ Some head) one is)
      by (inr ne) =
          let old : head_of (kept_of s h chunk) ≡ Some head = sym (ap head_of (kept chunk ne)) ∙ is in
          has_same head.name (end_of head) files now (apart chunk head.name ne (held_of (kept_of s h chunk) head old)) (stand chunk head old)

  pub stand_changed : (name : List ℕ) → file_of_optional (kept_of s h n) ≡ Some name → OthersUnchanged name files now → ((m : ℕ) → m ≢ n → kept_of s g m ≡ kept_of s h m)
      → ((head : ChunkHead) → head_of (kept_of s g n) ≡ Some head → Has head.name (end_of head) now) → FilesHaveContents s h files → FilesStand s h files → FilesStand s g now
  stand_changed name held same kept own order stand =
      stand_moved kept (λ m other ne is. same other (λ one. ne (order.differ m n name (is ∙ ap (λ (l : List ℕ). Some l) one) held))) own stand

pub stand_in_memory : (s : AllSettings) (h g : History) (files : Files) (n : ℕ) → ((m : ℕ) → m ≢ n → kept_of s g m ≡ kept_of s h m) → head_of (kept_of s g n) ≡ None → FilesStand s h files → FilesStand s g files
stand_in_memory s h g files n kept none stand = stand_moved s h g files files n kept (λ m name ne is. refl) (λ head is. let no : None ≡ Some head = sym none ∙ is in absurd (cc no)) stand

-- ---- nothing is kept at first

pub fits_at_first : (s : AllSettings) (live : Files) → FilesHaveContents s [] live → Fits s [] live no_files
fits_at_first s live order = record {
  live_has = order;
  mem_has = record {
    has = λ chunk head is. absurd (cc is);
    differ = λ one other name a b. absurd (cc a);
    free = λ root under input chunk le lt. record { none = refl; unheld = λ n is. absurd (cc is) };
  };
  stand = λ chunk head is. absurd (cc is);
}
