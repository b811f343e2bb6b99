-- The invariant between two actions of a run: the file of each chunk that is kept in one has its content.
use Rattle.std.proofs.Common.{◌≡◌, ◌≢◌, ◌⊎◌, inl, inr, ⊎_elim, ℕ, ◌+◌, ◌<◌, ◌≤◌, List, Option, Some, None, refl, sym, ◌∙◌, ap, subst, arith}
use Rattle.std.proofs.lemmas.Bool.{cases_eq}
use Rattle.fwd_base.specs.Limits.{numbers_end}
use Rattle.fwd_outside.specs.File.{FileState}
use Rattle.fwd_outside.specs.DiskStates.{Files}
use Rattle.fwd_outside.specs.PostCrash.{OthersUnchanged}
use Rattle.fwd_chunk.specs.declared.append.ChunkHead.{ChunkHead}
use Rattle.fwd_chunk.specs.Layout.{part}
use Rattle.fwd_chunk.specs.declared.kept.Kept.{Kept}
use Rattle.fwd_chunk.specs.Kept.{file_of_optional}
use Rattle.fwd_settings.specs.declared.settings_types.AllSettings.{AllSettings}
use Rattle.fwd_model.specs.Fact.{History}
use Rattle.fwd_model.specs.Chunks.{next, content}
use Rattle.fwd_model.specs.ChunkStorage.{kept_of, name_for}
use Rattle.fwd_theorem_crash.proofs.OrderInvariant.{head_of, NameIsFree}
use Rattle.fwd_theorem_crash.proofs.Lookups.{held_of}

-- the head's file has this content after its metadata
abbrev pub HasContent : ChunkHead → List ℕ → Files → Type 0
HasContent head bytes files = part (files head.name).bytes (24 + head.meta) head.size ≡ bytes

-- The file of each chunk that is kept in one has its content, and no two chunks have the same file. No file
-- has the name of a chunk to come.
pub record FilesHaveContents (s : AllSettings) (h : History) (files : Files) : Type 0 where
  pub has : (chunk : ℕ) (head : ChunkHead) → head_of (kept_of s h chunk) ≡ Some head → HasContent head (content h chunk) files
  pub differ : (one other : ℕ) (name : List ℕ) → file_of_optional (kept_of s h one) ≡ Some name → file_of_optional (kept_of s h other) ≡ Some name → one ≡ other
  pub free : (root : List ℕ) → s.service.path ≡ Some root → (input chunk : ℕ) → next h ≤ chunk → chunk < numbers_end → NameIsFree s h files (name_for s input chunk)

-- the two histories keep the same chunks, with the same content
pub record KeepsTheSame (s : AllSettings) (h new : History) : Type 0 where
  pub kept : (n : ℕ) → kept_of s new n ≡ kept_of s h n
  pub has : (n : ℕ) → content new n ≡ content h n
  pub later : next h ≤ next new

pub carried : (s : AllSettings) (h new : History) (files : Files) → KeepsTheSame s h new → FilesHaveContents s h files → FilesHaveContents s new files
carried s h new files same order = record {
  has = λ chunk head held. order.has chunk head (subst (λ (k : Option Kept). head_of k ≡ Some head) (same.kept chunk) held) ∙ sym (same.has chunk);
  differ = λ one other name a b.
      order.differ one other name (subst (λ (k : Option Kept). file_of_optional k ≡ Some name) (same.kept one) a) (subst (λ (k : Option Kept). file_of_optional k ≡ Some name) (same.kept other) b);
  free = λ root under input chunk le lt.
      let old = order.free root under input chunk (omega (arith, le, same.later)) lt in
      record { none = old.none; unheld = λ n held. old.unheld n (subst (λ (k : Option Kept). file_of_optional k ≡ Some (name_for s input chunk)) (same.kept n) held) };
}

-- ---- an action on one chunk

-- One chunk and files of some names may change. No other chunk has, or will have, a file of these names.
pub record ChangesOneChunk (s : AllSettings) (h g : History) (files now : Files) (n : ℕ) (Touched : List ℕ → Type 0) : Type 0 where
  pub same : (name : List ℕ) → (Touched name → ⊥) → now name ≡ files name
  pub apart : (m : ℕ) (name : List ℕ) → m ≢ n → file_of_optional (kept_of s h m) ≡ Some name → Touched name → ⊥
  pub kept : (m : ℕ) → m ≢ n → kept_of s g m ≡ kept_of s h m
  pub has : (m : ℕ) → m ≢ n → content g m ≡ content h m
  pub held : (name : List ℕ) → file_of_optional (kept_of s g n) ≡ Some name → Touched name
  pub own : (head : ChunkHead) → head_of (kept_of s g n) ≡ Some head → HasContent head (content g n) now
  pub later : next h ≤ next g
  pub free : (root : List ℕ) → s.service.path ≡ Some root → (input chunk : ℕ) → next g ≤ chunk → chunk < numbers_end → Touched (name_for s input chunk) → ⊥

module _ (s : AllSettings) (h g : History) (files now : Files) (n : ℕ) (Touched : List ℕ → Type 0) (moves : ChangesOneChunk s h g files now n Touched) (order : FilesHaveContents s h files) where
  moved_has : (chunk : ℕ) (head : ChunkHead) → head_of (kept_of s g chunk) ≡ Some head → HasContent head (content g chunk) now
  moved_has chunk head is = ⊎_elim (λ (one : chunk ≡ n). own one) (λ (ne : chunk ≢ n). other ne) (cases_eq chunk n)
    where
      own : chunk ≡ n → HasContent head (content g chunk) now
      own one = subst (λ (m : ℕ). HasContent head (content g m) now) (sym one) (moves.own head (subst (λ (m : ℕ). head_of (kept_of s g m) ≡ Some head) one is))

      other : chunk ≢ n → HasContent head (content g chunk) now
      other ne =
          let old : head_of (kept_of s h chunk) ≡ Some head = sym (ap head_of (moves.kept chunk ne)) ∙ is in
          let same : now head.name ≡ files head.name = moves.same head.name (moves.apart chunk head.name ne (held_of (kept_of s h chunk) head old)) in
          ap (λ (f : FileState). part f.bytes (24 + head.meta) head.size) same ∙ order.has chunk head old ∙ sym (moves.has chunk ne)

  abbrev Held : ℕ → List ℕ → Type 0
  Held m name = file_of_optional (kept_of s g m) ≡ Some name

  held_before : (m : ℕ) (name : List ℕ) → m ≢ n → Held m name → file_of_optional (kept_of s h m) ≡ Some name
  held_before m name ne is = sym (ap file_of_optional (moves.kept m ne)) ∙ is

  one_held : (m : ℕ) (name : List ℕ) → m ≢ n → Held n name → Held m name → ⊥
  one_held m name ne own other = moves.apart m name ne (held_before m name ne other) (moves.held name own)

  moved_differ : (one other : ℕ) (name : List ℕ) → Held one name → Held other name → one ≡ other
  moved_differ one other name a b = by (cases_eq one n) (cases_eq other n)
    where
      by : (one ≡ n) ⊎ (one ≢ n) → (other ≡ n) ⊎ (other ≢ n) → one ≡ other
      by (inl x) (inl y) = x ∙ sym y
      by (inl x) (inr y) = absurd (one_held other name y (subst (λ (m : ℕ). Held m name) x a) b)
      by (inr x) (inl y) = absurd (one_held one name x (subst (λ (m : ℕ). Held m name) y b) a)
      by (inr x) (inr y) = order.differ one other name (held_before one name x a) (held_before other name y b)

  moved_free : (root : List ℕ) → s.service.path ≡ Some root → (input chunk : ℕ) → next g ≤ chunk → chunk < numbers_end → NameIsFree s g now (name_for s input chunk)
  moved_free root under input chunk le lt =
      let later : next h ≤ next g = moves.later in
      let old = order.free root under input chunk (omega (arith, later, le)) lt in
      let off = moves.free root under input chunk le lt in
      record {
        none = moves.same (name_for s input chunk) off ∙ old.none;
        unheld = λ m is. ⊎_elim (λ (one : m ≡ n). off (moves.held (name_for s input chunk) (subst (λ (k : ℕ). Held k (name_for s input chunk)) one is))) (λ (ne : m ≢ n). old.unheld m (held_before m (name_for s input chunk) ne is)) (cases_eq m n);
      }

  pub moved : FilesHaveContents s g now
  moved = record { has = moved_has; differ = moved_differ; free = moved_free }

-- ---- an action on one chunk and its file

pub record ChangesItsFile (s : AllSettings) (h g : History) (files now : Files) (n : ℕ) (name : List ℕ) : Type 0 where
  pub same : OthersUnchanged name files now
  pub kept : (m : ℕ) → m ≢ n → kept_of s g m ≡ kept_of s h m
  pub has : (m : ℕ) → m ≢ n → content g m ≡ content h m
  pub held : (other : List ℕ) → file_of_optional (kept_of s g n) ≡ Some other → other ≡ name
  pub own : (head : ChunkHead) → head_of (kept_of s g n) ≡ Some head → HasContent head (content g n) now
  pub later : next h ≤ next g

pub file_changed : (s : AllSettings) (h g : History) (files now : Files) (n : ℕ) (name : List ℕ) → file_of_optional (kept_of s h n) ≡ Some name → ChangesItsFile s h g files now n name → FilesHaveContents s h files → FilesHaveContents s g now
file_changed s h g files now n name held changes order =
    moved s h g files now n (λ other. other ≡ name) (record {
      same = changes.same;
      apart = λ m other ne is one. ne (order.differ m n name (is ∙ ap (λ (l : List ℕ). Some l) one) held);
      kept = changes.kept;
      has = changes.has;
      held = changes.held;
      own = changes.own;
      later = changes.later;
      free = λ root under input chunk le lt one.
          let later : next h ≤ next g = changes.later in
          (order.free root under input chunk (omega (arith, later, le)) lt).unheld n (held ∙ ap (λ (l : List ℕ). Some l) (sym one));
    }) order

-- ---- an action on a chunk without a file

pub memory_changed : (s : AllSettings) (h g : History) (files : Files) (n : ℕ) → head_of (kept_of s g n) ≡ None → file_of_optional (kept_of s g n) ≡ None
    → ((m : ℕ) → m ≢ n → kept_of s g m ≡ kept_of s h m) → ((m : ℕ) → m ≢ n → content g m ≡ content h m) → next h ≤ next g → FilesHaveContents s h files → FilesHaveContents s g files
memory_changed s h g files n no_head no_file kept has later order =
    moved s h g files files n (λ name. ⊥) (record {
      same = λ name off. refl;
      apart = λ m name ne is no. no;
      kept = kept;
      has = has;
      held = λ name is. absurd (cc (sym no_file ∙ is));
      own = λ head is. absurd (cc (sym no_head ∙ is));
      later = later;
      free = λ root under input chunk le lt no. no;
    }) order
