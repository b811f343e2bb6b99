-- The order invariant while the outcome of an output is recorded in a chunk's file, and afterwards.
use Rattle.std.proofs.Common.{◌≡◌, ◌≢◌, ◌⊎◌, inl, inr, ⊎_elim, ℕ, ◌+◌, ◌<◌, ◌≤◌, ◌||◌, if◌then◌else◌, Bool, true, false, List, [], ◌∷◌, ◌++◌, Option, Some, None, refl, sym, ◌∙◌, ap, subst, le_refl, length}
use Rattle.std.specs.Prelude.{Contains, ◌==◌}
use Rattle.std.specs.Str.{bytes_eq}
use Rattle.std.proofs.lemmas.Bool.{ne_eqb, and_left, and_right}
use Rattle.std.proofs.lemmas.Slice.Eq.{bytes_eq-Decides}
use Rattle.fwd_base.specs.Limits.{numbers_end}
use Rattle.fwd_outside.specs.declared.home.Home.TheVariants.{Disk}
use Rattle.fwd_outside.specs.File.{FileState, IsPostCrash}
use Rattle.fwd_outside.specs.DiskStates.{Files}
use Rattle.fwd_outside.specs.PostCrash.{AllPostCrash, OthersUnchanged}
use Rattle.fwd_outside.proofs.Invariant.{AllInvariant}
use Rattle.fwd_outside.proofs.KeepsBytes.{whole_post_crash}
use Rattle.fwd_outside.proofs.OneByte.{read_image}
use Rattle.fwd_chunk.specs.declared.append.ChunkHead.{ChunkHead}
use Rattle.fwd_chunk.specs.Layout.{NamedOutput}
use Rattle.fwd_chunk.specs.Outcome.{named_length, bytes_from, place_before, outcome_place, with_outcome, RecordsOne, KeepsOtherOutcomes, RecordedIn}
use Rattle.fwd_chunk.specs.Kept.{file_of_optional}
use Rattle.fwd_settings.specs.declared.settings_types.AllSettings.{AllSettings}
use Rattle.fwd_model.specs.Fact.{History, Route, Marked}
use Rattle.fwd_model.specs.Settings.{outputs_for, output_name}
use Rattle.fwd_model.specs.RecoveredFile.{is_marked_done}
use Rattle.fwd_model.specs.Chunks.{ChunkInfo, chunks_of, next, is_closed, content, offered_events, encoded}
use Rattle.fwd_model.specs.ChunkStorage.{kept_of, name_for}
use Rattle.fwd_model.specs.Routes.{route, same_route, is_resolved, is_owed, home_of}
use Rattle.fwd_theorem_trace.specs.Sound.{Sound}
use Rattle.fwd_theorem_trace.proofs.Members.{here, deeper}
use Rattle.fwd_theorem_crash.specs.RecordedOutcomes.{is_recorded, may_be_recorded}
use Rattle.fwd_theorem_crash.specs.ChunkFile.{RepresentsChunk, IsIntact}
use Rattle.fwd_theorem_crash.specs.Safety.{AccountsFor, IsHeld}
use Rattle.fwd_theorem_crash.proofs.HeadMetadata.{fits_head}
use Rattle.fwd_theorem_crash.proofs.OrderInvariant.{head_of, NamesAll, PendingFile, HomeIsDisk, InOrder}
use Rattle.fwd_theorem_crash.proofs.Lookups.{held_of, same_head, one_chunk}
use Rattle.fwd_theorem_crash.proofs.FileContents.{IsResolvedAs, settled_holds}
use Rattle.fwd_theorem_crash.proofs.UnchangedChunks.{one_name, IsUnchanged, content_alike, of_behind, moved_order}

-- ---- a position of an outcome is that of an output of the head

among_names : (output : List ℕ) (names : List (List ℕ)) (count : ℕ) → bytes_from output names ≡ Some count → Contains names output
among_names output [] count is = absurd (cc is)
among_names output (name ∷ names) count is = by (bytes_eq name output) refl is (among_names output names count)
  where
    by : (b : Bool) → bytes_eq name output ≡ b → (if b then Some (named_length (name ∷ names)) else bytes_from output names) ≡ Some count → (bytes_from output names ≡ Some count → Contains names output) → Contains (name ∷ names) output
    by true same at more = subst (λ (x : List ℕ). Contains (name ∷ names) x) ((bytes_eq-Decides name output).0 same) (here name names)
    by false same at more = deeper name names output (more at)

pub placed_among : (head : ChunkHead) (output : List ℕ) (place : ℕ) → outcome_place head output ≡ Some place → Contains head.outputs output
placed_among head output place is = by (head.mark == 2) (bytes_from output head.outputs) refl is
  where
    by : (b : Bool) (count : Option ℕ) → bytes_from output head.outputs ≡ count → (if b then place_before (24 + head.meta) count else None) ≡ Some place → Contains head.outputs output
    by true None at never = absurd (cc never)
    by true (Some count) at is = among_names output head.outputs count at
    by false count at never = absurd (cc never)

-- ---- the contents of a post-crash state with one more outcome

-- no other output of the chunk has the name of the route's output
abbrev pub IsApart : AllSettings → ChunkInfo → Route → Type 0
IsApart s c r = (output : ℕ) → Contains (outputs_for s c.tag) output → output_name s output ≡ output_name s r.output → output ≡ r.output

module _ (s : AllSettings) (c : ChunkInfo) (r : Route) (of_it : c.number ≡ r.chunk) (apart : IsApart s c r) where
  abbrev its_name : List ℕ
  its_name = output_name s r.output

  -- an output of the name is that of the route
  its_route : (output : ℕ) → Contains (outputs_for s c.tag) output → output_name s output ≡ its_name → route c.number output ≡ r
  its_route output has same = ap (λ (o : ℕ). route c.number o) (apart output has same) ∙ ap (λ (n : ℕ). route n r.output) of_it

  -- between the two histories, only the route's outcome may have become recorded
  record Recording (h g : History) : Type 0 where
    has : content g c.number ≡ content h c.number
    more : offered_events g c.number ≡ offered_events h c.number
    begun : (output : ℕ) → may_be_recorded s g (route c.number output) ≡ may_be_recorded s h (route c.number output)
    ended : (output : ℕ) → is_resolved s g (route c.number output) ≡ is_resolved s h (route c.number output)
    others : (output : ℕ) → output_name s output ≢ its_name → is_recorded s g (route c.number output) ≡ true → is_recorded s h (route c.number output) ≡ true

  module _ (h g : History) (recording : Recording h g) (may_be : may_be_recorded s h r ≡ true) (resolved : is_resolved s h r ≡ true) (was bytes : List ℕ) (held : RepresentsChunk s h c was)
      (outputs : List NamedOutput) (x : ℕ) (settled : IsResolvedAs its_name outputs x held.chunk bytes)
      (its : (output : ℕ) → Contains (outputs_for s c.tag) output → output_name s output ≡ its_name → is_recorded s g (route c.number output) ≡ true → is_marked_done its_name (Some settled.new) ≡ true) where
    its_done : (output : ℕ) → Contains (outputs_for s c.tag) output → is_recorded s g (route c.number output) ≡ true → is_marked_done (output_name s output) (Some settled.new) ≡ true
    its_done output has is =
        ⊎_elim (λ (same : output_name s output ≡ its_name). subst (λ (n : List ℕ). is_marked_done n (Some settled.new) ≡ true) (sym same) (its output has same is))
        (λ (ne : output_name s output ≢ its_name). settled.others (output_name s output) ne ∙ held.recorded output has (recording.others output ne is)) (one_name (output_name s output) its_name)

    no_more : (output : ℕ) → Contains (outputs_for s c.tag) output → is_marked_done (output_name s output) (Some settled.new) ≡ true
        → (may_be_recorded s g (route c.number output) ≡ true) × (is_resolved s g (route c.number output) ≡ true)
    no_more output has is =
        let old : (may_be_recorded s h (route c.number output) ≡ true) × (is_resolved s h (route c.number output) ≡ true) =
        ⊎_elim (λ (same : output_name s output ≡ its_name). route_of (its_route output has same)) (λ (ne : output_name s output ≢ its_name). held.no_other output has (sym (settled.others (output_name s output) ne) ∙ is)) (one_name (output_name s output) its_name) in
        (recording.begun output ∙ old.0, recording.ended output ∙ old.1)
      where
        route_of : route c.number output ≡ r → (may_be_recorded s h (route c.number output) ≡ true) × (is_resolved s h (route c.number output) ≡ true)
        route_of same = (ap (may_be_recorded s h) same ∙ may_be, ap (is_resolved s h) same ∙ resolved)

    holds_settled : RepresentsChunk s g c bytes
    holds_settled = record {
      chunk = settled.new;
      found = settled.found;
      tag = settled.tag ∙ held.tag;
      content = content_alike h g c.number settled.new.content recording.has recording.more (same_content held.content);
      recorded = its_done;
      no_other = no_more;
    }
      where
        same_content : (held.chunk.content ≡ content h c.number) ⊎ (held.chunk.content ≡ content h c.number ++ encoded (offered_events h c.number)) → (settled.new.content ≡ content h c.number) ⊎ (settled.new.content ≡ content h c.number ++ encoded (offered_events h c.number))
        same_content (inl is) = inl (settled.content ∙ is)
        same_content (inr is) = inr (settled.content ∙ is)

  -- ---- while it is being recorded

  module _ (h : History) (head : ChunkHead) (files now : Files) (images : AllPostCrash head.name (IsIntact s h c) files) (may_be : may_be_recorded s h r ≡ true) (resolved : is_resolved s h r ≡ true) (not_yet : is_recorded s h r ≡ false) where
    unchanged : Recording h h
    unchanged = record { has = refl; more = refl; begun = λ _. refl; ended = λ _. refl; others = λ output ne is. is }

    none_its : (output : ℕ) → Contains (outputs_for s c.tag) output → output_name s output ≡ its_name → is_recorded s h (route c.number output) ≡ true → ⊥
    none_its output has same is = absurd (cc (sym (ap (is_recorded s h) (its_route output has same) ∙ not_yet) ∙ is))

    settles_one : (image : Option (List ℕ)) → RecordsOne head its_name (files head.name) image → IsIntact s h c image
    settles_one None settles = settles
    settles_one (Some bytes) settles =
        let was = settles.0 in
        let held : RepresentsChunk s h c was = images (Some was) settles.5 in
        holds_settled h h unchanged may_be resolved was bytes held settles.2 settles.4
        (settled_holds head settles.1 settles.2 settles.3 was bytes its_name settles.4 held.chunk settles.6 held.found settles.7)
        (λ output has same is. absurd (none_its output has same is))

  settles_names : (head : ChunkHead) (before : FileState) (image : Option (List ℕ)) → RecordsOne head its_name before image → NamesAll head image
  settles_names head before None settles = settles
  settles_names head before (Some bytes) settles = fits_head head settles.1 (with_outcome its_name settles.4 settles.2) settles.3 bytes settles.7

  pub settles_whole : (h : History) (files now : Files) (head : ChunkHead) → AllPostCrash head.name (IsIntact s h c) files → may_be_recorded s h r ≡ true → is_resolved s h r ≡ true → is_recorded s h r ≡ false
      → AllPostCrash head.name (RecordsOne head (output_name s r.output) (files head.name)) now → AllPostCrash head.name (IsIntact s h c) now × AllPostCrash head.name (NamesAll head) now
  settles_whole h files now head images may_be resolved not_yet settles =
      (λ image is. settles_one h head files now images may_be resolved not_yet image (settles image is), λ image is. settles_names head (files head.name) image (settles image is))

-- ---- afterwards

-- a file that exists in each post-crash state can't be gone
pub there_at : (P : Option (List ℕ) → Type 0) (file : FileState) → (P None → ⊥) → ((image : Option (List ℕ)) → IsPostCrash file image → P image) → file.may_go ≡ false
there_at P file never images = by file.may_go refl
  where
    by : (b : Bool) → file.may_go ≡ b → file.may_go ≡ false
    by true is = absurd (never (images None is))
    by false is = is

-- A chunk that is kept in a file still is, and only the file changed.
module _ (s : AllSettings) (first : Files) (h g : History) (files now : Files) (c : ChunkInfo) (head : ChunkHead) (sound : Sound s h) (order : InOrder s first h files) (among : Contains (chunks_of h) c) (held : head_of (kept_of s h c.number) ≡ Some head)
    (same : OthersUnchanged head.name files now) (all : AllInvariant now) (chunks : chunks_of g ≡ chunks_of h) (number : next g ≡ next h) (kept : (m : ℕ) → kept_of s g m ≡ kept_of s h m) (alike : (m : ℕ) → m ≢ c.number → IsUnchanged s h g m)
    (still : (name bytes : List ℕ) → AccountsFor s first h name bytes → AccountsFor s first g name bytes) (filed : is_owed s g c ≡ true → home_of s c.input ≡ Disk → PendingFile s g c now) where
  abbrev IsIts : List ℕ → Type 0
  IsIts other = other ≡ head.name

  in_file : file_of_optional (kept_of s h c.number) ≡ Some head.name
  in_file = held_of (kept_of s h c.number) head held

  before : (d : ChunkInfo) → Contains (chunks_of g) d → Contains (chunks_of h) d
  before d has = subst (λ (cs : List ChunkInfo). Contains cs d) chunks has

  its_apart : (m : ℕ) (other : List ℕ) → m ≢ c.number → file_of_optional (kept_of s h m) ≡ Some other → IsIts other → ⊥
  its_apart m other ne is one = ne (order.differ m c.number head.name (is ∙ ap (λ (l : List ℕ). Some l) one) in_file)

  its_held : (other : List ℕ) → file_of_optional (kept_of s g c.number) ≡ Some other → IsIts other
  its_held other is = let both : Some other ≡ Some head.name = sym is ∙ ap file_of_optional (kept c.number) ∙ in_file in cc both

  its_home : (at : ChunkHead) → head_of (kept_of s g c.number) ≡ Some at → HomeIsDisk s g c.number
  its_home at is =
      let old = order.home c.number at (sym (ap head_of (kept c.number)) ∙ is) in
      record { of = old.of; among = subst (λ (cs : List ChunkInfo). Contains cs old.of) (sym chunks) old.among; is = old.is; home = old.home }

  its_filed : (d : ChunkInfo) → Contains (chunks_of g) d → d.number ≡ c.number → is_owed s g d ≡ true → home_of s d.input ≡ Disk → PendingFile s g d now
  its_filed d has one is home =
      let equal : d ≡ c = one_chunk s h d c sound (before d has) among one in
      subst (λ (x : ChunkInfo). PendingFile s g x now) (sym equal) (filed (subst (λ (x : ChunkInfo). is_owed s g x ≡ true) equal is) (subst (λ (x : ChunkInfo). home_of s x.input ≡ Disk) equal home))

  its_free : (root : List ℕ) → s.service.path ≡ Some root → (input chunk : ℕ) → next g ≤ chunk → chunk < numbers_end → IsIts (name_for s input chunk) → ⊥
  its_free root under input chunk le lt one = (order.free root under input chunk (subst (λ (k : ℕ). k ≤ chunk) number le) lt).unheld c.number (in_file ∙ ap (λ (l : List ℕ). Some l) (sym one))

  its_others : (other bytes : List ℕ) → IsPostCrash (now other) (Some bytes) → AccountsFor s first g other bytes
  its_others other bytes is =
      ⊎_elim (λ (one : other ≡ head.name). IsHeld c.number (ap file_of_optional (kept c.number) ∙ in_file ∙ ap (λ (l : List ℕ). Some l) (sym one)))
      (λ (ne : other ≢ head.name). still other bytes (order.others other bytes (subst (λ (f : FileState). IsPostCrash f (Some bytes)) (same other ne) is))) (one_name other head.name)

  pub settled_order : InOrder s first g now
  settled_order =
      moved_order s first h g files now c.number IsIts (record {
        sound = all;
        same = same;
        apart = its_apart;
        was = λ d has ne. before d has;
        stays = λ d has. subst (λ (cs : List ChunkInfo). Contains cs d) (sym chunks) has;
        alike = alike;
        kept = λ m ne. kept m;
        held = its_held;
        home = its_home;
        filed = its_filed;
        later = subst (λ (k : ℕ). next h ≤ k) (sym number) (le_refl (next h));
        free = its_free;
        others = its_others;
      }) order

module _ (s : AllSettings) (first : Files) (h : History) (files now : Files) (c : ChunkInfo) (r : Route) (head : ChunkHead) (sound : Sound s h) (order : InOrder s first h files) (among : Contains (chunks_of h) c) (of_it : c.number ≡ r.chunk)
    (apart : IsApart s c r) (shut : is_closed h r.chunk ≡ true) (held : head_of (kept_of s h r.chunk) ≡ Some head) (place : ℕ) (placed : outcome_place head (output_name s r.output) ≡ Some place)
    (may_be : may_be_recorded s h r ≡ true) (resolved : is_resolved s h r ≡ true) where
  held_here : head_of (kept_of s h c.number) ≡ Some head
  held_here = subst (λ (n : ℕ). head_of (kept_of s h n) ≡ Some head) (sym of_it) held

  shut_here : is_closed h c.number ≡ true
  shut_here = subst (λ (n : ℕ). is_closed h n ≡ true) (sym of_it) shut

  -- its file, unchanged
  module _ (owed : is_owed s h c ≡ true) (home : home_of s c.input ≡ Disk) where
    filed : PendingFile s h c files
    filed = order.owed c among owed home

    same : filed.head ≡ head
    same = same_head (kept_of s h c.number) filed.head head filed.held held_here

    was_whole : AllPostCrash head.name (IsIntact s h c) files
    was_whole = subst (λ (x : ChunkHead). AllPostCrash x.name (IsIntact s h c) files) same filed.images

    -- with its current post-crash states
    filed_as : (g : History) → kept_of s g c.number ≡ kept_of s h c.number → content g c.number ≡ content h c.number → is_closed g c.number ≡ is_closed h c.number → AllPostCrash head.name (IsIntact s g c) now → AllPostCrash head.name (NamesAll head) now → PendingFile s g c now
    filed_as g kept has closed images names = record {
      root = filed.root;
      path = filed.path;
      under = filed.under;
      named = filed.named;
      head = head;
      held = ap head_of kept ∙ held_here;
      name = ap (λ (x : ChunkHead). x.name) (sym same) ∙ filed.name;
      sized = ap (λ (x : ChunkHead). x.size) (sym same) ∙ filed.sized ∙ ap (λ (l : List ℕ). length l) (sym has);
      images = images;
      names = names;
      at_work = λ off. absurd (cc (sym (closed ∙ shut_here) ∙ off));
    }

  -- ---- the recording failed, or is in progress

  pub unrecorded_order : is_recorded s h r ≡ false → KeepsOtherOutcomes head (output_name s r.output) files now → AllInvariant now → InOrder s first h now
  unrecorded_order not_yet keeps all =
      settled_order s first h h files now c head sound order among held_here keeps.1 all refl refl (λ m. refl) (λ m ne. record { has = refl; more = refl; closed = refl; done = λ _. refl; begun = λ _. refl; ended = λ _. refl }) (λ name bytes is. is)
      (λ owed home. let both = settles_whole s c r of_it apart h files now head (was_whole owed home) may_be resolved not_yet keeps.0 in filed_as owed home h refl refl refl both.0 both.1)

  -- ---- it is recorded

  abbrev behind : History
  behind = Marked r ∷ h

  other_output : (output : ℕ) → output_name s output ≢ output_name s r.output → same_route r (route c.number output) ≡ false
  other_output output ne = and_right (r.chunk == c.number) (r.output == output) (ne_eqb r.output output (λ e. ne (ap (output_name s) (sym e))))

  recording_now : Recording s c r of_it apart h behind
  recording_now = record {
    has = refl;
    more = refl;
    begun = λ _. refl;
    ended = λ _. refl;
    others = λ output ne is. sym (ap (λ (b : Bool). b || is_recorded s h (route c.number output)) (other_output output ne)) ∙ is;
  }

  recorded_alike : (m : ℕ) → m ≢ c.number → IsUnchanged s h behind m
  recorded_alike m ne = record {
    has = refl;
    more = refl;
    closed = refl;
    done = λ output. ap (λ (b : Bool). b || is_recorded s h (route m output)) (and_left (r.chunk == m) (r.output == output) (ne_eqb r.chunk m (λ e. ne (sym e ∙ sym of_it))));
    begun = λ _. refl;
    ended = λ _. refl;
  }

  module _ (recorded : RecordedIn head (output_name s r.output) files now) (owed : is_owed s h c ≡ true) (home : home_of s c.input ≡ Disk) where
    read_before : IsPostCrash (files head.name) (Some (files head.name).bytes)
    read_before = read_image (files head.name) (order.sound head.name) (there_at (IsIntact s h c) (files head.name) (λ no. no) (was_whole owed home))

    held_before : RepresentsChunk s h c (files head.name).bytes
    held_before = was_whole owed home (Some (files head.name).bytes) read_before

    settled : IsResolvedAs (output_name s r.output) recorded.outputs 68 held_before.chunk recorded.bytes
    settled = settled_holds head recorded.tag recorded.outputs recorded.content (files head.name).bytes recorded.bytes (output_name s r.output) 68 held_before.chunk recorded.was held_before.found recorded.is

    is_done : is_marked_done (output_name s r.output) (Some settled.new) ≡ true
    is_done = settled.done refl (subst (λ (l : List (List ℕ)). Contains l (output_name s r.output)) recorded.was.names (placed_among head (output_name s r.output) place placed))

    holds_now : RepresentsChunk s behind c recorded.bytes
    holds_now = holds_settled s c r of_it apart h behind recording_now may_be resolved (files head.name).bytes recorded.bytes held_before recorded.outputs 68 settled (λ output has one is. is_done)

    only_image : (image : Option (List ℕ)) → IsPostCrash (now head.name) image → image ≡ Some recorded.bytes
    only_image image is = whole_post_crash recorded.bytes image (subst (λ (f : FileState). IsPostCrash f image) recorded.state is)

    filed_now : PendingFile s behind c now
    filed_now =
        filed_as owed home behind refl refl refl (λ image is. subst (IsIntact s behind c) (sym (only_image image is)) holds_now)
        (λ image is. subst (NamesAll head) (sym (only_image image is)) (fits_head head recorded.tag (with_outcome (output_name s r.output) 68 recorded.outputs) recorded.content recorded.bytes recorded.is))

  pub recorded_order : RecordedIn head (output_name s r.output) files now → OthersUnchanged head.name files now → AllInvariant now → InOrder s first (Marked r ∷ h) now
  recorded_order recorded but all =
      settled_order s first h behind files now c head sound order among held_here but all refl refl (λ m. refl) recorded_alike (λ name bytes is. of_behind s first (Marked r) h name bytes refl (λ chunk at. IsHeld chunk at) is)
      (λ owed home. filed_now recorded owed home)
