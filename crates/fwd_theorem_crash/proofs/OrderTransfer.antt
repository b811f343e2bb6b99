-- A history that says the same of the chunks and their files keeps the order invariant.
use Rattle.std.proofs.Common.{◌≡◌, ℕ, ◌≤◌, true, false, List, ◌∷◌, Option, Some, None, sym, ◌∙◌, ap, subst, arith, length}
use Rattle.std.specs.Prelude.{Contains, find, ◌==◌}
use Rattle.fwd_event.specs.Event.{AreEvents}
use Rattle.fwd_outside.specs.File.{IsPostCrash}
use Rattle.fwd_outside.specs.DiskStates.{Files}
use Rattle.fwd_chunk.specs.declared.append.ChunkHead.{ChunkHead}
use Rattle.fwd_chunk.specs.Layout.{new_meta}
use Rattle.fwd_chunk.specs.Append.{DurableIn}
use Rattle.fwd_chunk.specs.declared.kept.Kept.{Kept}
use Rattle.fwd_chunk.specs.Kept.{file_of_optional}
use Rattle.fwd_settings.specs.declared.settings_types.AllSettings.{AllSettings}
use Rattle.fwd_model.specs.Fact.{Fact, History, Offered}
use Rattle.fwd_model.specs.Settings.{names_for}
use Rattle.fwd_model.specs.Chunks.{ChunkInfo, chunks_of, next, is_closed, content}
use Rattle.fwd_model.specs.ChunkStorage.{kept_of, name_for}
use Rattle.fwd_model.specs.Routes.{is_owed}
use Rattle.fwd_theorem_trace.proofs.Members.{deeper}
use Rattle.fwd_theorem_crash.specs.ChunkFile.{RepresentsChunk, IsIntact}
use Rattle.fwd_theorem_crash.specs.Safety.{AccountsFor, IsHeld, IsLeft, IsPlaced, StoodThere}
use Rattle.fwd_theorem_crash.proofs.OrderInvariant.{head_of, IsOpen, PendingFile, HomeIsDisk, NameIsFree, InOrder}

-- what accounts for bytes of a file still does
pub of_still : (s : AllSettings) (first : Files) (fact : Fact) (h : History) (name bytes : List ℕ) → ((n : ℕ) → kept_of s (fact ∷ h) n ≡ kept_of s h n) → chunks_of (fact ∷ h) ≡ chunks_of h
    → AccountsFor s first h name bytes → AccountsFor s first (fact ∷ h) name bytes
of_still s first fact h name bytes kept chunks (IsHeld n held) = IsHeld n (subst (λ (k : Option Kept). file_of_optional k ≡ Some name) (sym (kept n)) held)
of_still s first fact h name bytes kept chunks (IsLeft n left) = IsLeft n (record { after = fact ∷ left.after; before = left.before; is = ap (λ (l : History). fact ∷ l) left.is; held = left.held })
of_still s first fact h name bytes kept chunks (IsPlaced n b offered none at is) =
    IsPlaced n b (deeper fact h (Offered n b) offered) (subst (λ (cs : List ChunkInfo). find (λ (c : ChunkInfo). c.number == n) cs ≡ None) (sym chunks) none) at is
of_still s first fact h name bytes kept chunks (StoodThere stood) = StoodThere stood

-- the two histories have the same chunks, kept alike and with the same content
pub record SaysTheSame (s : AllSettings) (first : Files) (h new : History) (files : Files) : Type 0 where
  pub chunks : chunks_of new ≡ chunks_of h
  pub owed : (c : ChunkInfo) → is_owed s new c ≡ true → is_owed s h c ≡ true
  pub kept : (n : ℕ) → kept_of s new n ≡ kept_of s h n
  pub later : next h ≤ next new
  pub holds : (n : ℕ) → content new n ≡ content h n
  pub shut : (n : ℕ) → is_closed new n ≡ false → is_closed h n ≡ false
  pub whole : (c : ChunkInfo) → Contains (chunks_of h) c → (filed : PendingFile s h c files) (bytes : List ℕ) → IsPostCrash (files filed.head.name) (Some bytes) → RepresentsChunk s h c bytes → RepresentsChunk s new c bytes
  pub of : (name bytes : List ℕ) → AccountsFor s first h name bytes → AccountsFor s first new name bytes

module _ (s : AllSettings) (first : Files) (h new : History) (files : Files) (same : SaysTheSame s first h new files) where
  carried_open : (c : ChunkInfo) (head : ChunkHead) → IsOpen s h c head files → IsOpen s new c head files
  carried_open c head at_work = record {
    kept = same.kept c.number ∙ at_work.kept;
    mark = at_work.mark;
    outputs = at_work.outputs;
    settled = subst (λ (l : List ℕ). DurableIn head (new_meta c.tag (names_for s c.tag)) l files) (sym (same.holds c.number)) at_work.settled;
    events = at_work.events;
    are = subst (AreEvents at_work.events) (sym (same.holds c.number)) at_work.are;
  }

  carried_filed : (c : ChunkInfo) → Contains (chunks_of h) c → PendingFile s h c files → PendingFile s new c files
  carried_filed c has filed = record {
    root = filed.root;
    path = filed.path;
    under = filed.under;
    named = filed.named;
    head = filed.head;
    held = subst (λ (k : Option Kept). head_of k ≡ Some filed.head) (sym (same.kept c.number)) filed.held;
    name = filed.name;
    sized = filed.sized ∙ ap (λ (l : List ℕ). length l) (sym (same.holds c.number));
    images = λ image is. whole image is (filed.images image is);
    names = filed.names;
    at_work = λ off. carried_open c filed.head (filed.at_work (same.shut c.number off));
  }
    where
      whole : (image : Option (List ℕ)) → IsPostCrash (files filed.head.name) image → IsIntact s h c image → IsIntact s new c image
      whole None is none = none
      whole (Some bytes) is holds = same.whole c has filed bytes is holds

  carried_home : (n : ℕ) → HomeIsDisk s h n → HomeIsDisk s new n
  carried_home n at = record { of = at.of; among = subst (λ (cs : List ChunkInfo). Contains cs at.of) (sym same.chunks) at.among; is = at.is; home = at.home }

  carried_free : (name : List ℕ) → NameIsFree s h files name → NameIsFree s new files name
  carried_free name free = record { none = free.none; unheld = λ n held. free.unheld n (subst (λ (k : Option Kept). file_of_optional k ≡ Some name) (same.kept n) held) }

  pub carried : InOrder s first h files → InOrder s first new files
  carried order = record {
    sound = order.sound;
    owed = λ c has is home.
        let there : Contains (chunks_of h) c = subst (λ (cs : List ChunkInfo). Contains cs c) same.chunks has in
        carried_filed c there (order.owed c there (same.owed c is) home);
    home = λ n head held. carried_home n (order.home n head (subst (λ (k : Option Kept). head_of k ≡ Some head) (same.kept n) held));
    differ = λ one other name a b.
        order.differ one other name (subst (λ (k : Option Kept). file_of_optional k ≡ Some name) (same.kept one) a) (subst (λ (k : Option Kept). file_of_optional k ≡ Some name) (same.kept other) b);
    free = λ root under input n le lt. carried_free (name_for s input n) (order.free root under input n (omega (arith, le, same.later)) lt);
    others = λ name bytes is. same.of name bytes (order.others name bytes is);
  }
