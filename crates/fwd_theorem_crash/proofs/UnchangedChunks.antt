-- Unchanged chunks, and the order invariant after an action on one chunk and its file.
use Rattle.std.proofs.Common.{◌≡◌, ◌≢◌, ◌⊎◌, inl, inr, ⊎_elim, ℕ, ◌<◌, ◌≤◌, not, Bool, true, false, List, ◌∷◌, ◌++◌, length, filter, Option, Some, None, refl, sym, ◌∙◌, ap, subst, arith}
use Rattle.std.specs.Prelude.{Contains, find, ◌==◌}
use Rattle.std.specs.Str.{bytes_eq}
use Rattle.std.proofs.lemmas.Bool.{cases_eq}
use Rattle.std.proofs.lemmas.Slice.Eq.{bytes_eq-Decides}
use Rattle.fwd_base.specs.Limits.{numbers_end}
use Rattle.fwd_outside.specs.declared.home.Home.TheVariants.{Disk}
use Rattle.fwd_event.specs.declared.event.Event.{Event}
use Rattle.fwd_event.specs.Event.{AreEvents}
use Rattle.fwd_outside.specs.File.{FileState, IsPostCrash}
use Rattle.fwd_outside.specs.DiskStates.{Files}
use Rattle.fwd_outside.specs.PostCrash.{AllPostCrash}
use Rattle.fwd_outside.proofs.Invariant.{AllInvariant}
use Rattle.fwd_chunk.specs.declared.append.ChunkHead.{ChunkHead}
use Rattle.fwd_chunk.specs.Layout.{new_meta}
use Rattle.fwd_chunk.specs.Append.{IsDurable, DurableIn}
use Rattle.fwd_chunk.specs.Kept.{file_of_optional}
use Rattle.fwd_settings.specs.declared.settings_types.AllSettings.{AllSettings}
use Rattle.fwd_model.specs.Fact.{Fact, History, Batch, Offered}
use Rattle.fwd_model.specs.Settings.{outputs_for, names_for}
use Rattle.fwd_model.specs.Chunks.{ChunkInfo, chunks_of, chunk_at, next, is_closed, content, offered_events, encoded}
use Rattle.fwd_model.specs.ChunkStorage.{kept_of, name_for}
use Rattle.fwd_model.specs.Routes.{route, is_resolved, is_owed, home_of}
use Rattle.fwd_theorem_trace.proofs.Members.{deeper}
use Rattle.fwd_theorem_crash.specs.RecordedOutcomes.{is_recorded, may_be_recorded}
use Rattle.fwd_theorem_crash.specs.ChunkFile.{RepresentsChunk, IsIntact}
use Rattle.fwd_theorem_crash.specs.Safety.{WasNotRemoved, AccountsFor, IsHeld, IsLeft, IsPlaced, StoodThere}
use Rattle.fwd_theorem_crash.proofs.OrderInvariant.{head_of, NamesAll, IsOpen, PendingFile, HomeIsDisk, NameIsFree, InOrder}
use Rattle.fwd_theorem_crash.proofs.Lookups.{held_of}

-- two names are equal or not
pub one_name : (a b : List ℕ) → (a ≡ b) ⊎ (a ≢ b)
one_name a b = by (bytes_eq a b) refl
  where
    by : (t : Bool) → bytes_eq a b ≡ t → (a ≡ b) ⊎ (a ≢ b)
    by true is = inl ((bytes_eq-Decides a b).0 is)
    by false is = inr (λ e. let no : true ≡ false = sym ((bytes_eq-Decides a b).1 e) ∙ is in absurd (cc no))

-- all that is known of a chunk, except how it is kept
pub record IsUnchanged (s : AllSettings) (h g : History) (n : ℕ) : Type 0 where
  pub has : content g n ≡ content h n
  pub more : offered_events g n ≡ offered_events h n
  pub closed : is_closed g n ≡ is_closed h n
  pub done : (output : ℕ) → is_recorded s g (route n output) ≡ is_recorded s h (route n output)
  pub begun : (output : ℕ) → may_be_recorded s g (route n output) ≡ may_be_recorded s h (route n output)
  pub ended : (output : ℕ) → is_resolved s g (route n output) ≡ is_resolved s h (route n output)

pub content_alike : (h g : History) (n : ℕ) (bytes : List ℕ) → content g n ≡ content h n → offered_events g n ≡ offered_events h n → (bytes ≡ content h n) ⊎ (bytes ≡ content h n ++ encoded (offered_events h n))
    → (bytes ≡ content g n) ⊎ (bytes ≡ content g n ++ encoded (offered_events g n))
content_alike h g n bytes has more (inl is) = inl (is ∙ sym has)
content_alike h g n bytes has more (inr is) = inr (is ∙ sym (ap (λ (l : List ℕ). l ++ encoded (offered_events g n)) has ∙ ap (λ (es : List Event). content h n ++ encoded es) more))

pub holds_alike : (s : AllSettings) (h g : History) (c : ChunkInfo) (bytes : List ℕ) → IsUnchanged s h g c.number → RepresentsChunk s h c bytes → RepresentsChunk s g c bytes
holds_alike s h g c bytes alike whole = record {
  chunk = whole.chunk;
  found = whole.found;
  tag = whole.tag;
  content = content_alike h g c.number whole.chunk.content alike.has alike.more whole.content;
  recorded = λ output has is. whole.recorded output has (sym (alike.done output) ∙ is);
  no_other = λ output has is. let old = whole.no_other output has is in (alike.begun output ∙ old.0, alike.ended output ∙ old.1);
}

pub whole_alike : (s : AllSettings) (h g : History) (c : ChunkInfo) (image : Option (List ℕ)) → IsUnchanged s h g c.number → IsIntact s h c image → IsIntact s g c image
whole_alike s h g c None alike whole = whole
whole_alike s h g c (Some bytes) alike whole = holds_alike s h g c bytes alike whole

-- an unchanged file has unchanged post-crash states
pub images_stay : (P : Option (List ℕ) → Type 0) (name : List ℕ) (files now : Files) → now name ≡ files name → AllPostCrash name P files → AllPostCrash name P now
images_stay P name files now same images = λ image is. images image (subst (λ (f : FileState). IsPostCrash f image) same is)

pub open_alike : (s : AllSettings) (h g : History) (files now : Files) (c : ChunkInfo) (head : ChunkHead) → IsUnchanged s h g c.number → kept_of s g c.number ≡ kept_of s h c.number → now head.name ≡ files head.name
    → IsOpen s h c head files → IsOpen s g c head now
open_alike s h g files now c head alike kept same at_work = record {
  kept = kept ∙ at_work.kept;
  mark = at_work.mark;
  outputs = at_work.outputs;
  settled = subst (λ (l : List ℕ). DurableIn head (new_meta c.tag (names_for s c.tag)) l now) (sym alike.has) (subst (λ (f : FileState). IsDurable head (new_meta c.tag (names_for s c.tag)) (content h c.number) f) (sym same) at_work.settled);
  events = at_work.events;
  are = subst (AreEvents at_work.events) (sym alike.has) at_work.are;
}

pub filed_alike : (s : AllSettings) (h g : History) (files now : Files) (c : ChunkInfo) → IsUnchanged s h g c.number → kept_of s g c.number ≡ kept_of s h c.number
    → ((name : List ℕ) → file_of_optional (kept_of s h c.number) ≡ Some name → now name ≡ files name) → PendingFile s h c files → PendingFile s g c now
filed_alike s h g files now c alike kept stays filed =
    let same : now filed.head.name ≡ files filed.head.name = stays filed.head.name (held_of (kept_of s h c.number) filed.head filed.held) in
    record {
      root = filed.root;
      path = filed.path;
      under = filed.under;
      named = filed.named;
      head = filed.head;
      held = ap head_of kept ∙ filed.held;
      name = filed.name;
      sized = filed.sized ∙ ap (λ (l : List ℕ). length l) (sym alike.has);
      images = images_stay (IsIntact s g c) filed.head.name files now same (λ image is. whole_alike s h g c image alike (filed.images image is));
      names = images_stay (NamesAll filed.head) filed.head.name files now same filed.names;
      at_work = λ off. open_alike s h g files now c filed.head alike kept same (filed.at_work (sym alike.closed ∙ off));
    }

pub owed_alike : (s : AllSettings) (h g : History) (c : ChunkInfo) → ((output : ℕ) → is_resolved s g (route c.number output) ≡ is_resolved s h (route c.number output)) → is_owed s g c ≡ is_owed s h c
owed_alike s h g c ended = λ i. not (length (filter (λ (output : ℕ). not (ended output i)) (outputs_for s c.tag)) == 0)

-- ---- what accounts for a file

pub of_still : (s : AllSettings) (first : Files) (h g : History) (name bytes : List ℕ) → ((fact : Fact) → Contains h fact → Contains g fact) → ((chunk : ℕ) → WasNotRemoved s h chunk name → WasNotRemoved s g chunk name)
    → ((chunk : ℕ) (b : Batch) → Contains h (Offered chunk b) → chunk_at h chunk ≡ None → chunk_at g chunk ≡ None) → ((chunk : ℕ) → file_of_optional (kept_of s h chunk) ≡ Some name → AccountsFor s first g name bytes)
    → AccountsFor s first h name bytes → AccountsFor s first g name bytes
of_still s first h g name bytes logged left none held (IsHeld chunk is) = held chunk is
of_still s first h g name bytes logged left none held (IsLeft chunk was) = IsLeft chunk (left chunk was)
of_still s first h g name bytes logged left none held (IsPlaced chunk b offered no_chunk named are) = IsPlaced chunk b (logged (Offered chunk b) offered) (none chunk b offered no_chunk) named are
of_still s first h g name bytes logged left none held (StoodThere is) = StoodThere is

pub left_still : (s : AllSettings) (fact : Fact) (h : History) (chunk : ℕ) (name : List ℕ) → WasNotRemoved s h chunk name → WasNotRemoved s (fact ∷ h) chunk name
left_still s fact h chunk name was = record { after = fact ∷ was.after; before = was.before; is = ap (λ (l : History). fact ∷ l) was.is; held = was.held }

-- a fact that begins and keeps no chunk
pub of_behind : (s : AllSettings) (first : Files) (fact : Fact) (h : History) (name bytes : List ℕ) → chunks_of (fact ∷ h) ≡ chunks_of h → ((chunk : ℕ) → file_of_optional (kept_of s h chunk) ≡ Some name → AccountsFor s first (fact ∷ h) name bytes)
    → AccountsFor s first h name bytes → AccountsFor s first (fact ∷ h) name bytes
of_behind s first fact h name bytes same held is =
    of_still s first h (fact ∷ h) name bytes (λ f has. deeper fact h f has) (λ chunk was. left_still s fact h chunk name was) (λ chunk b offered none. ap (chunk_among chunk) same ∙ none) held is
  where
    chunk_among : ℕ → List ChunkInfo → Option ChunkInfo
    chunk_among chunk cs = find (λ (c : ChunkInfo). c.number == chunk) cs

-- ---- an action on one chunk and its file

-- One chunk and files of some names may change. No other chunk has, or will have, a file of these names.
pub record ChangesOneChunk (s : AllSettings) (first : Files) (h g : History) (files now : Files) (n : ℕ) (Touched : List ℕ → Type 0) : Type 0 where
  pub sound : AllInvariant now
  pub same : (name : List ℕ) → (Touched name → ⊥) → now name ≡ files name
  pub apart : (m : ℕ) (name : List ℕ) → m ≢ n → file_of_optional (kept_of s h m) ≡ Some name → Touched name → ⊥
  pub was : (c : ChunkInfo) → Contains (chunks_of g) c → c.number ≢ n → Contains (chunks_of h) c
  pub stays : (c : ChunkInfo) → Contains (chunks_of h) c → Contains (chunks_of g) c
  pub alike : (m : ℕ) → m ≢ n → IsUnchanged s h g m
  pub kept : (m : ℕ) → m ≢ n → kept_of s g m ≡ kept_of s h m
  pub held : (name : List ℕ) → file_of_optional (kept_of s g n) ≡ Some name → Touched name
  pub home : (head : ChunkHead) → head_of (kept_of s g n) ≡ Some head → HomeIsDisk s g n
  pub filed : (c : ChunkInfo) → Contains (chunks_of g) c → c.number ≡ n → is_owed s g c ≡ true → home_of s c.input ≡ Disk → PendingFile s g c now
  pub later : next h ≤ next g
  pub free : (root : List ℕ) → s.service.path ≡ Some root → (input chunk : ℕ) → next g ≤ chunk → chunk < numbers_end → Touched (name_for s input chunk) → ⊥
  pub others : (name bytes : List ℕ) → IsPostCrash (now name) (Some bytes) → AccountsFor s first g name bytes

module _ (s : AllSettings) (first : Files) (h g : History) (files now : Files) (n : ℕ) (Touched : List ℕ → Type 0) (moves : ChangesOneChunk s first h g files now n Touched) (order : InOrder s first h files) where
  moved_filed : (c : ChunkInfo) → Contains (chunks_of g) c → is_owed s g c ≡ true → home_of s c.input ≡ Disk → PendingFile s g c now
  moved_filed c has is home = ⊎_elim (λ (one : c.number ≡ n). moves.filed c has one is home) (λ (ne : c.number ≢ n). other ne) (cases_eq c.number n)
    where
      other : c.number ≢ n → PendingFile s g c now
      other ne =
          let owed : is_owed s h c ≡ true = sym (owed_alike s h g c (moves.alike c.number ne).ended) ∙ is in
          filed_alike s h g files now c (moves.alike c.number ne) (moves.kept c.number ne) (λ name held. moves.same name (moves.apart c.number name ne held)) (order.owed c (moves.was c has ne) owed home)

  moved_home : (chunk : ℕ) (head : ChunkHead) → head_of (kept_of s g chunk) ≡ Some head → HomeIsDisk s g chunk
  moved_home chunk head is = ⊎_elim (λ (one : chunk ≡ n). subst (HomeIsDisk s g) (sym one) (moves.home head (subst (λ (m : ℕ). head_of (kept_of s g m) ≡ Some head) one is))) (λ (ne : chunk ≢ n). other ne) (cases_eq chunk n)
    where
      other : chunk ≢ n → HomeIsDisk s g chunk
      other ne =
          let old = order.home chunk head (sym (ap head_of (moves.kept chunk ne)) ∙ is) in
          record { of = old.of; among = moves.stays old.of old.among; is = old.is; home = old.home }

  abbrev Held : ℕ → List ℕ → Type 0
  Held m name = file_of_optional (kept_of s g m) ≡ Some name

  -- the file of another chunk is unchanged
  held_before : (m : ℕ) (name : List ℕ) → m ≢ n → Held m name → file_of_optional (kept_of s h m) ≡ Some name
  held_before m name ne is = sym (ap file_of_optional (moves.kept m ne)) ∙ is

  one_held : (m : ℕ) (name : List ℕ) → m ≢ n → Held n name → Held m name → ⊥
  one_held m name ne own other = moves.apart m name ne (held_before m name ne other) (moves.held name own)

  moved_differ : (one other : ℕ) (name : List ℕ) → Held one name → Held other name → one ≡ other
  moved_differ one other name a b = by (cases_eq one n) (cases_eq other n)
    where
      by : (one ≡ n) ⊎ (one ≢ n) → (other ≡ n) ⊎ (other ≢ n) → one ≡ other
      by (inl x) (inl y) = x ∙ sym y
      by (inl x) (inr y) = absurd (one_held other name y (subst (λ (m : ℕ). Held m name) x a) b)
      by (inr x) (inl y) = absurd (one_held one name x (subst (λ (m : ℕ). Held m name) y b) a)
      by (inr x) (inr y) = order.differ one other name (held_before one name x a) (held_before other name y b)

  moved_free : (root : List ℕ) → s.service.path ≡ Some root → (input chunk : ℕ) → next g ≤ chunk → chunk < numbers_end → NameIsFree s g now (name_for s input chunk)
  moved_free root under input chunk le lt =
      let later : next h ≤ next g = moves.later in
      let old = order.free root under input chunk (omega (arith, later, le)) lt in
      let off = moves.free root under input chunk le lt in
      record {
        none = moves.same (name_for s input chunk) off ∙ old.none;
        unheld = λ m is. ⊎_elim (λ (one : m ≡ n). off (moves.held (name_for s input chunk) (subst (λ (k : ℕ). Held k (name_for s input chunk)) one is))) (λ (ne : m ≢ n). old.unheld m (held_before m (name_for s input chunk) ne is)) (cases_eq m n);
      }

  pub moved_order : InOrder s first g now
  moved_order = record { sound = moves.sound; owed = moved_filed; home = moved_home; differ = moved_differ; free = moved_free; others = moves.others }
