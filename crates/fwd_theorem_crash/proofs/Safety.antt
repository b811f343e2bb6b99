-- The order invariant implies safety. It is kept if one file changes and its post-crash states represent
-- its chunk.
use Rattle.std.proofs.Common.{◌≡◌, ◌≢◌, ◌⊎◌, inl, inr, ℕ, true, false, List, Option, Some, sym, ◌∙◌, ap, subst}
use Rattle.std.specs.Prelude.{Contains, ◌==◌}
use Rattle.std.proofs.lemmas.Bool.Decides.{eqb_tells}
use Rattle.fwd_outside.specs.declared.home.Home.TheVariants.{Disk}
use Rattle.fwd_outside.specs.File.{FileState, IsPostCrash}
use Rattle.fwd_outside.specs.DiskStates.{Files}
use Rattle.fwd_outside.specs.PostCrash.{AllPostCrash, OthersUnchanged}
use Rattle.fwd_outside.proofs.Invariant.{AllInvariant}
use Rattle.fwd_chunk.specs.declared.append.ChunkHead.{ChunkHead}
use Rattle.fwd_chunk.specs.Layout.{new_meta}
use Rattle.fwd_chunk.specs.Append.{IsDurable}
use Rattle.fwd_chunk.specs.Kept.{file_of_optional}
use Rattle.fwd_backlog.proofs.LoadInvariant.{one_or_other}
use Rattle.fwd_settings.specs.declared.settings_types.AllSettings.{AllSettings}
use Rattle.fwd_model.specs.Fact.{History}
use Rattle.fwd_model.specs.Settings.{names_for}
use Rattle.fwd_model.specs.Chunks.{ChunkInfo, chunks_of, is_closed, content}
use Rattle.fwd_model.specs.ChunkStorage.{kept_of, name_for}
use Rattle.fwd_model.specs.Routes.{is_owed, home_of}
use Rattle.fwd_theorem_trace.specs.Past.{Past, logged}
use Rattle.fwd_theorem_trace.specs.Sound.{Sound}
use Rattle.fwd_theorem_crash.specs.CrashPoint.{crash_point}
use Rattle.fwd_theorem_crash.specs.ChunkFile.{IsIntact}
use Rattle.fwd_theorem_crash.specs.Safety.{IsFileSafe, AccountsFor, IsHeld, IsSafe}
use Rattle.fwd_theorem_crash.proofs.OrderInvariant.{head_of, NamesAll, IsOpen, PendingFile, NameIsFree, InOrder}
use Rattle.fwd_theorem_crash.proofs.Lookups.{held_of, same_head, one_chunk}

-- ---- an unchanged file

pub images_still : (P : Option (List ℕ) → Type 0) (name : List ℕ) (files now : Files) → now name ≡ files name → AllPostCrash name P files → AllPostCrash name P now
images_still P name files now same images = λ image is. images image (subst (λ (f : FileState). IsPostCrash f image) same is)

pub open_still : (s : AllSettings) (h : History) (c : ChunkInfo) (head : ChunkHead) (files now : Files) → now head.name ≡ files head.name → IsOpen s h c head files → IsOpen s h c head now
open_still s h c head files now same at_work = record {
  kept = at_work.kept;
  mark = at_work.mark;
  outputs = at_work.outputs;
  settled = subst (λ (f : FileState). IsDurable head (new_meta c.tag (names_for s c.tag)) (content h c.number) f) (sym same) at_work.settled;
  events = at_work.events;
  are = at_work.are;
}

pub filed_still : (s : AllSettings) (h : History) (c : ChunkInfo) (files now : Files) (filed : PendingFile s h c files) → now filed.head.name ≡ files filed.head.name → PendingFile s h c now
filed_still s h c files now filed same = record {
  root = filed.root;
  path = filed.path;
  under = filed.under;
  named = filed.named;
  head = filed.head;
  held = filed.held;
  name = filed.name;
  sized = filed.sized;
  images = images_still (IsIntact s h c) filed.head.name files now same filed.images;
  names = images_still (NamesAll filed.head) filed.head.name files now same filed.names;
  at_work = λ off. open_still s h c filed.head files now same (filed.at_work off);
}

-- ---- the order invariant implies safety

pub kept_safe : (s : AllSettings) (h : History) (c : ChunkInfo) (files now : Files) (filed : PendingFile s h c files) → AllPostCrash filed.head.name (IsIntact s h c) now → IsFileSafe s h c now
kept_safe s h c files now filed images = record {
  root = filed.root;
  path = filed.path;
  under = filed.under;
  named = filed.named;
  held = held_of (kept_of s h c.number) filed.head filed.held ∙ ap (λ (n : List ℕ). Some n) filed.name;
  images = subst (λ (n : List ℕ). AllPostCrash n (IsIntact s h c) now) filed.name images;
}

module _ (s : AllSettings) (first : Files) where
  pub order_safe : (past : Past) (files : Files) → InOrder s first (logged past) files → IsSafe s first (crash_point past files)
  order_safe past files order = record {
    owed = λ c has is home. let filed : PendingFile s (logged past) c files = order.owed c has is home in kept_safe s (logged past) c files files filed filed.images;
    others = order.others;
  }

  -- if one file changed, that file's post-crash states are enough
  pub local_safe : (past : Past) (files now : Files) (name : List ℕ) → InOrder s first (logged past) files → OthersUnchanged name files now
      → ((c : ChunkInfo) → Contains (chunks_of (logged past)) c → is_owed s (logged past) c ≡ true → home_of s c.input ≡ Disk → file_of_optional (kept_of s (logged past) c.number) ≡ Some name → AllPostCrash name (IsIntact s (logged past) c) now)
      → ((bytes : List ℕ) → IsPostCrash (now name) (Some bytes) → AccountsFor s first (logged past) name bytes) → IsSafe s first (crash_point past now)
  local_safe past files now name order same own other = record {
    owed = λ c has is home. owed c has is home (order.owed c has is home);
    others = λ n bytes is. others n bytes is (one_or_other name n);
  }
    where
      whole : (c : ChunkInfo) → Contains (chunks_of (logged past)) c → is_owed s (logged past) c ≡ true → home_of s c.input ≡ Disk → (filed : PendingFile s (logged past) c files)
          → (filed.head.name ≡ name) ⊎ (filed.head.name ≢ name) → AllPostCrash filed.head.name (IsIntact s (logged past) c) now
      whole c has is home filed (inl at) =
          subst (λ (n : List ℕ). AllPostCrash n (IsIntact s (logged past) c) now) (sym at)
          (own c has is home (held_of (kept_of s (logged past) c.number) filed.head filed.held ∙ ap (λ (n : List ℕ). Some n) at))
      whole c has is home filed (inr ne) = images_still (IsIntact s (logged past) c) filed.head.name files now (same filed.head.name ne) filed.images

      owed : (c : ChunkInfo) → Contains (chunks_of (logged past)) c → is_owed s (logged past) c ≡ true → home_of s c.input ≡ Disk → PendingFile s (logged past) c files → IsFileSafe s (logged past) c now
      owed c has is home filed = kept_safe s (logged past) c files now filed (whole c has is home filed (one_or_other name filed.head.name))

      others : (n bytes : List ℕ) → IsPostCrash (now n) (Some bytes) → (n ≡ name) ⊎ (n ≢ name) → AccountsFor s first (logged past) n bytes
      others n bytes is (inl at) = subst (λ (m : List ℕ). AccountsFor s first (logged past) m bytes) (sym at) (other bytes (subst (λ (m : List ℕ). IsPostCrash (now m) (Some bytes)) at is))
      others n bytes is (inr ne) = order.others n bytes (subst (λ (f : FileState). IsPostCrash f (Some bytes)) (same n ne) is)

  -- the file of a closed chunk changed, and each of its post-crash states represents the chunk
  pub changed_order : (h : History) (files now : Files) (c : ChunkInfo) (head : ChunkHead) → Sound s h → InOrder s first h files → Contains (chunks_of h) c → is_closed h c.number ≡ true
      → head_of (kept_of s h c.number) ≡ Some head → OthersUnchanged head.name files now → AllInvariant now → AllPostCrash head.name (IsIntact s h c) now → AllPostCrash head.name (NamesAll head) now → InOrder s first h now
  changed_order h files now c head sound order has shut held same all whole names = record {
    sound = all;
    owed = λ d there is home. changed d there (order.owed d there is home) (eqb_tells d.number c.number);
    home = order.home;
    differ = order.differ;
    free = λ root under input chunk le lt. free (name_for s input chunk) (order.free root under input chunk le lt);
    others = λ n bytes is. others n bytes is (one_or_other head.name n);
  }
    where
      its_file : file_of_optional (kept_of s h c.number) ≡ Some head.name
      its_file = held_of (kept_of s h c.number) head held

      itself : PendingFile s h c files → PendingFile s h c now
      itself filed = record {
        root = filed.root;
        path = filed.path;
        under = filed.under;
        named = filed.named;
        head = head;
        held = held;
        name = ap (λ (x : ChunkHead). x.name) (same_head (kept_of s h c.number) head filed.head held filed.held) ∙ filed.name;
        sized = ap (λ (x : ChunkHead). x.size) (same_head (kept_of s h c.number) head filed.head held filed.held) ∙ filed.sized;
        images = whole;
        names = names;
        at_work = λ off. absurd (cc (sym shut ∙ off));
      }

      changed : (d : ChunkInfo) → Contains (chunks_of h) d → PendingFile s h d files → ((d.number == c.number ≡ true) × (d.number ≡ c.number)) ⊎ ((d.number == c.number ≡ false) × (d.number ≢ c.number)) → PendingFile s h d now
      changed d there filed (inl at) =
          let is : d ≡ c = one_chunk s h d c sound there has at.1 in
          subst (λ (x : ChunkInfo). PendingFile s h x now) (sym is) (itself (subst (λ (x : ChunkInfo). PendingFile s h x files) is filed))
      changed d there filed (inr at) =
          filed_still s h d files now filed
          (same filed.head.name (λ e. at.1 (order.differ d.number c.number head.name (held_of (kept_of s h d.number) filed.head filed.held ∙ ap (λ (n : List ℕ). Some n) e) its_file)))

      free : (name : List ℕ) → NameIsFree s h files name → NameIsFree s h now name
      free name was = record { none = same name (λ e. was.unheld c.number (its_file ∙ ap (λ (n : List ℕ). Some n) (sym e))) ∙ was.none; unheld = was.unheld }

      others : (n bytes : List ℕ) → IsPostCrash (now n) (Some bytes) → (n ≡ head.name) ⊎ (n ≢ head.name) → AccountsFor s first h n bytes
      others n bytes is (inl at) = subst (λ (m : List ℕ). AccountsFor s first h m bytes) (sym at) (IsHeld c.number its_file)
      others n bytes is (inr ne) = order.others n bytes (subst (λ (f : FileState). IsPostCrash f (Some bytes)) (same n ne) is)
