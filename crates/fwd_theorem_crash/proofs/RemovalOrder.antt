-- The order invariant after the removal of a chunk that isn't pending, and after a removal that failed.
use Rattle.std.proofs.Common.{◌≡◌, ◌≢◌, ⊎_elim, ℕ, ◌<◌, ◌≤◌, true, false, cond, List, [], ◌∷◌, Option, Some, None, refl, sym, ◌∙◌, ap, subst, le_refl}
use Rattle.std.specs.Prelude.{Contains, ◌==◌}
use Rattle.std.specs.Option.{option_map_or}
use Rattle.std.proofs.lemmas.Bool.{cases_eq, cond-true, cond-false, eq-eqb, ne_eqb}
use Rattle.fwd_base.specs.Limits.{numbers_end}
use Rattle.fwd_outside.specs.File.{FileState, IsPostCrash, absent}
use Rattle.fwd_outside.specs.DiskStates.{Files}
use Rattle.fwd_outside.specs.PostCrash.{AllPostCrash, OthersUnchanged, AbsentOrBefore}
use Rattle.fwd_outside.proofs.Invariant.{AllInvariant}
use Rattle.fwd_outside.proofs.KeepsBytes.{absent_post_crash}
use Rattle.fwd_chunk.specs.declared.append.ChunkHead.{ChunkHead}
use Rattle.fwd_chunk.specs.declared.kept.Kept.{Kept}
use Rattle.fwd_chunk.specs.Kept.{file_of_optional}
use Rattle.fwd_settings.specs.declared.settings_types.AllSettings.{AllSettings}
use Rattle.fwd_model.specs.Fact.{History, Removed, FileLeft, IoFailed}
use Rattle.fwd_model.specs.Chunks.{ChunkInfo, chunks_of, chunk_at, next}
use Rattle.fwd_model.specs.ChunkStorage.{kept_of, name_for}
use Rattle.fwd_model.specs.Routes.{is_owed, owes}
use Rattle.fwd_theorem_trace.specs.Sound.{Sound}
use Rattle.fwd_theorem_crash.specs.Safety.{AccountsFor, IsHeld, IsLeft}
use Rattle.fwd_theorem_crash.proofs.OrderInvariant.{head_of, InOrder}
use Rattle.fwd_theorem_crash.proofs.Lookups.{chunk_found}
use Rattle.fwd_theorem_crash.proofs.UnchangedChunks.{one_name, IsUnchanged, of_behind, ChangesOneChunk, moved_order}

-- a pending chunk differs from one that isn't
pub not_owed : (s : AllSettings) (h : History) (n : ℕ) (c : ChunkInfo) → Sound s h → owes s h n ≡ false → Contains (chunks_of h) c → is_owed s h c ≡ true → c.number ≢ n
not_owed s h n c sound none has is same =
    let found : chunk_at h n ≡ Some c = subst (λ (m : ℕ). chunk_at h m ≡ Some c) same (chunk_found s h c sound has) in
    let owed : owes s h n ≡ true = ap (λ (o : Option ChunkInfo). option_map_or (is_owed s h) o false) found ∙ is in
    absurd (cc (sym owed ∙ none))

-- a name without a file differs from that of a file
none_held : (kept : Option Kept) (name : List ℕ) → kept ≡ None → file_of_optional kept ≡ Some name → ⊥
none_held kept name none is = absurd (cc (sym (ap file_of_optional none) ∙ is))

none_head : (kept : Option Kept) → kept ≡ None → (head : ChunkHead) → head_of kept ≡ Some head → ⊥
none_head kept none head is = absurd (cc (sym (ap head_of none) ∙ is))

module _ (s : AllSettings) (first : Files) (h : History) (n : ℕ) where
  gone_now : (kept : Option Kept) → cond (n == n) None kept ≡ None
  gone_now kept = cond-true (n == n) None kept (eq-eqb n n refl)

  kept_still : (m : ℕ) → m ≢ n → (kept : Option Kept) → cond (n == m) None kept ≡ kept
  kept_still m ne kept = cond-false (n == m) None kept (ne_eqb n m (λ e. ne (sym e)))

  -- after a removal
  abbrev behind : History
  behind = Removed n ∷ h

  abbrev left_behind : History
  left_behind = FileLeft n ∷ IoFailed ∷ h

  dropped_alike : (m : ℕ) → IsUnchanged s h behind m
  dropped_alike m = record { has = refl; more = refl; closed = refl; done = λ _. refl; begun = λ _. refl; ended = λ _. refl }

  left_alike : (m : ℕ) → IsUnchanged s h left_behind m
  left_alike m = record { has = refl; more = refl; closed = refl; done = λ _. refl; begun = λ _. refl; ended = λ _. refl }

  faulted_of : (name bytes : List ℕ) → AccountsFor s first h name bytes → AccountsFor s first (IoFailed ∷ h) name bytes
  faulted_of name bytes = of_behind s first IoFailed h name bytes refl (λ chunk held. IsHeld chunk held)

  -- what was kept in a file still is, or was left there
  left_of : (name bytes : List ℕ) → AccountsFor s first h name bytes → AccountsFor s first left_behind name bytes
  left_of name bytes is = of_behind s first (FileLeft n) (IoFailed ∷ h) name bytes refl held (faulted_of name bytes is)
    where
      held : (chunk : ℕ) → file_of_optional (kept_of s (IoFailed ∷ h) chunk) ≡ Some name → AccountsFor s first left_behind name bytes
      held chunk at = ⊎_elim (λ (one : chunk ≡ n). IsLeft n (record { after = []; before = IoFailed ∷ h; is = refl; held = subst (λ (m : ℕ). file_of_optional (kept_of s h m) ≡ Some name) one at })) (λ (ne : chunk ≢ n). IsHeld chunk (ap file_of_optional (kept_still chunk ne (kept_of s h chunk)) ∙ at)) (cases_eq chunk n)

  -- what is kept in another file still is
  dropped_of : (name bytes : List ℕ) → (file_of_optional (kept_of s h n) ≢ Some name) → AccountsFor s first h name bytes → AccountsFor s first behind name bytes
  dropped_of name bytes other is = of_behind s first (Removed n) h name bytes refl held is
    where
      held : (chunk : ℕ) → file_of_optional (kept_of s h chunk) ≡ Some name → AccountsFor s first behind name bytes
      held chunk at = ⊎_elim (λ (one : chunk ≡ n). absurd (other (subst (λ (m : ℕ). file_of_optional (kept_of s h m) ≡ Some name) one at))) (λ (ne : chunk ≢ n). IsHeld chunk (ap file_of_optional (kept_still chunk ne (kept_of s h chunk)) ∙ at)) (cases_eq chunk n)

  module _ (files now : Files) (sound : Sound s h) (order : InOrder s first h files) (none : owes s h n ≡ false) where
    -- ---- its file changes

    module _ (name : List ℕ) (held : file_of_optional (kept_of s h n) ≡ Some name) (same : OthersUnchanged name files now) (all : AllInvariant now) where
      abbrev IsIts : List ℕ → Type 0
      IsIts other = other ≡ name

      its_apart : (m : ℕ) (other : List ℕ) → m ≢ n → file_of_optional (kept_of s h m) ≡ Some other → IsIts other → ⊥
      its_apart m other ne is one = ne (order.differ m n name (is ∙ ap (λ (l : List ℕ). Some l) one) held)

      its_free : (root : List ℕ) → s.service.path ≡ Some root → (input chunk : ℕ) → next h ≤ chunk → chunk < numbers_end → IsIts (name_for s input chunk) → ⊥
      its_free root under input chunk le lt one = (order.free root under input chunk le lt).unheld n (held ∙ ap (λ (l : List ℕ). Some l) (sym one))

      -- the post-crash states of another file are unchanged
      before : (other bytes : List ℕ) → other ≢ name → IsPostCrash (now other) (Some bytes) → AccountsFor s first h other bytes
      before other bytes ne is = order.others other bytes (subst (λ (f : FileState). IsPostCrash f (Some bytes)) (same other ne) is)

      dropped_others : now name ≡ absent → (other bytes : List ℕ) → IsPostCrash (now other) (Some bytes) → AccountsFor s first behind other bytes
      dropped_others empty other bytes is = ⊎_elim (λ (one : other ≡ name). its one) (λ (ne : other ≢ name). dropped_of other bytes (λ at. ne (one_of other (sym at ∙ held))) (before other bytes ne is)) (one_name other name)
        where
          its : other ≡ name → AccountsFor s first behind other bytes
          its one =
              let no : Some bytes ≡ None = absent_post_crash (Some bytes) (subst (λ (f : FileState). IsPostCrash f (Some bytes)) (ap now one ∙ empty) is) in
              absurd (cc no)

          one_of : (x : List ℕ) → Some x ≡ Some name → x ≡ name
          one_of x e = cc e

      left_others : AllPostCrash name (AbsentOrBefore (files name)) now → (other bytes : List ℕ) → IsPostCrash (now other) (Some bytes) → AccountsFor s first left_behind other bytes
      left_others images other bytes is = left_of other bytes (⊎_elim (λ (one : other ≡ name). its one) (λ (ne : other ≢ name). before other bytes ne is) (one_name other name))
        where
          its : other ≡ name → AccountsFor s first h other bytes
          its one =
              ⊎_elim (λ (gone_is : Some bytes ≡ None). absurd (cc gone_is)) (λ (old : IsPostCrash (files name) (Some bytes)). order.others other bytes (subst (λ (f : FileState). IsPostCrash f (Some bytes)) (ap files (sym one)) old))
              (images (Some bytes) (subst (λ (f : FileState). IsPostCrash f (Some bytes)) (ap now one) is))

      dropped_moves : now name ≡ absent → ChangesOneChunk s first h behind files now n IsIts
      dropped_moves empty = record {
        sound = all;
        same = same;
        apart = its_apart;
        was = λ c has ne. has;
        stays = λ c has. has;
        alike = λ m ne. dropped_alike m;
        kept = λ m ne. kept_still m ne (kept_of s h m);
        held = λ other is. absurd (none_held (kept_of s behind n) other (gone_now (kept_of s h n)) is);
        home = λ head is. absurd (none_head (kept_of s behind n) (gone_now (kept_of s h n)) head is);
        filed = λ c has one is home. absurd (not_owed s h n c sound none has is one);
        later = le_refl (next h);
        free = its_free;
        others = dropped_others empty;
      }

      left_moves : AllPostCrash name (AbsentOrBefore (files name)) now → ChangesOneChunk s first h left_behind files now n IsIts
      left_moves images = record {
        sound = all;
        same = same;
        apart = its_apart;
        was = λ c has ne. has;
        stays = λ c has. has;
        alike = λ m ne. left_alike m;
        kept = λ m ne. kept_still m ne (kept_of s h m);
        held = λ other is. absurd (none_held (kept_of s left_behind n) other (gone_now (kept_of s h n)) is);
        home = λ head is. absurd (none_head (kept_of s left_behind n) (gone_now (kept_of s h n)) head is);
        filed = λ c has one is home. absurd (not_owed s h n c sound none has is one);
        later = le_refl (next h);
        free = its_free;
        others = left_others images;
      }

  -- ---- it has no file

  module _ (files : Files) (sound : Sound s h) (order : InOrder s first h files) (none : owes s h n ≡ false) (no_file : file_of_optional (kept_of s h n) ≡ None) where
    abbrev IsNone : List ℕ → Type 0
    IsNone name = ⊥

    dropped_in_memory : ChangesOneChunk s first h behind files files n IsNone
    dropped_in_memory = record {
      sound = order.sound;
      same = λ name off. refl;
      apart = λ m name ne is no. no;
      was = λ c has ne. has;
      stays = λ c has. has;
      alike = λ m ne. dropped_alike m;
      kept = λ m ne. kept_still m ne (kept_of s h m);
      held = λ name is. none_held (kept_of s behind n) name (gone_now (kept_of s h n)) is;
      home = λ head is. absurd (none_head (kept_of s behind n) (gone_now (kept_of s h n)) head is);
      filed = λ c has one is home. absurd (not_owed s h n c sound none has is one);
      later = le_refl (next h);
      free = λ root under input chunk le lt no. no;
      others = λ name bytes is. dropped_of name bytes (λ at. some_file name (sym no_file ∙ at)) (order.others name bytes is);
    }
      where
        some_file : (name : List ℕ) → None ≡ Some name → ⊥
        some_file name e = absurd (cc e)

    left_in_memory : ChangesOneChunk s first h left_behind files files n IsNone
    left_in_memory = record {
      sound = order.sound;
      same = λ name off. refl;
      apart = λ m name ne is no. no;
      was = λ c has ne. has;
      stays = λ c has. has;
      alike = λ m ne. left_alike m;
      kept = λ m ne. kept_still m ne (kept_of s h m);
      held = λ name is. none_held (kept_of s left_behind n) name (gone_now (kept_of s h n)) is;
      home = λ head is. absurd (none_head (kept_of s left_behind n) (gone_now (kept_of s h n)) head is);
      filed = λ c has one is home. absurd (not_owed s h n c sound none has is one);
      later = le_refl (next h);
      free = λ root under input chunk le lt no. no;
      others = λ name bytes is. left_of name bytes (order.others name bytes is);
    }

-- ---- the chunk is no longer kept

pub dropped_order : (s : AllSettings) (first : Files) (h : History) (n : ℕ) (files now : Files) (name : List ℕ) → Sound s h → InOrder s first h files → owes s h n ≡ false → file_of_optional (kept_of s h n) ≡ Some name
    → OthersUnchanged name files now → now name ≡ absent → AllInvariant now → InOrder s first (Removed n ∷ h) now
dropped_order s first h n files now name sound order none held same empty all =
    moved_order s first h (Removed n ∷ h) files now n (λ other. other ≡ name) (dropped_moves s first h n files now sound order none name held same all empty) order

pub dropped_memory : (s : AllSettings) (first : Files) (h : History) (n : ℕ) (files : Files) → Sound s h → InOrder s first h files → owes s h n ≡ false → file_of_optional (kept_of s h n) ≡ None → InOrder s first (Removed n ∷ h) files
dropped_memory s first h n files sound order none no_file =
    moved_order s first h (Removed n ∷ h) files files n (λ name. ⊥) (dropped_in_memory s first h n files sound order none no_file) order

pub left_order : (s : AllSettings) (first : Files) (h : History) (n : ℕ) (files now : Files) (name : List ℕ) → Sound s h → InOrder s first h files → owes s h n ≡ false → file_of_optional (kept_of s h n) ≡ Some name
    → OthersUnchanged name files now → AllPostCrash name (AbsentOrBefore (files name)) now → AllInvariant now → InOrder s first (FileLeft n ∷ IoFailed ∷ h) now
left_order s first h n files now name sound order none held same images all =
    moved_order s first h (FileLeft n ∷ IoFailed ∷ h) files now n (λ other. other ≡ name) (left_moves s first h n files now sound order none name held same all images) order

pub left_memory : (s : AllSettings) (first : Files) (h : History) (n : ℕ) (files : Files) → Sound s h → InOrder s first h files → owes s h n ≡ false → file_of_optional (kept_of s h n) ≡ None → InOrder s first (FileLeft n ∷ IoFailed ∷ h) files
left_memory s first h n files sound order none no_file =
    moved_order s first h (FileLeft n ∷ IoFailed ∷ h) files files n (λ name. ⊥) (left_in_memory s first h n files sound order none no_file) order
