-- Loading from a disk without unsynced state is safe at each crash point, and the recovered files satisfy
-- the order invariant.
use Rattle.std.proofs.Common.{◌≡◌, ◌≢◌, ◌⊎◌, inl, inr, ℕ, ◌<◌, ◌≤◌, not, true, false, IsTrue, List, [], append_assoc, length, take, length-take, unwrap_or, Option, Some, None, Result, Err, refl, sym, ◌∙◌, ap, subst, arith}
use Rattle.std.specs.Prelude.{Contains}
use Rattle.std.specs.Option.{option_map_or}
use Rattle.std.proofs.lemmas.List.{take_all}
use Rattle.fwd_base.specs.Limits.{longest_file, numbers_end}
use Rattle.fwd_outside.specs.AtCrashPoints.{HoldsThroughout}
use Rattle.fwd_outside.proofs.CrashPointLemmas.{holds_weaker}
use Rattle.fwd_outside.specs.File.{FileState, IsPostCrash, content, whole, absent}
use Rattle.fwd_outside.specs.DiskStates.{Files}
use Rattle.fwd_outside.specs.PostCrash.{AllPostCrash}
use Rattle.fwd_outside.proofs.KeepsBytes.{whole_post_crash, absent_post_crash}
use Rattle.fwd_chunk.specs.declared.append.ChunkHead.{ChunkHead}
use Rattle.fwd_chunk.specs.declared.chunk.Chunk.{Chunk}
use Rattle.fwd_chunk.specs.declared.metadata.Metadata.{Metadata}
use Rattle.fwd_chunk.specs.declared.refusal.NotAChunk.{NotAChunk}
use Rattle.fwd_chunk.specs.declared.refusal.NotAChunk.TheVariants.{TooLong}
use Rattle.fwd_chunk.specs.Format.{parse_header}
use Rattle.fwd_chunk.specs.FormatFunction.{stands_by, stands}
use Rattle.fwd_chunk.specs.Check.{enough_bytes}
use Rattle.fwd_chunk.proofs.EnoughBytes.{too_long}
use Rattle.fwd_chunk.specs.declared.kept.Kept.{Kept}
use Rattle.fwd_chunk.specs.declared.kept.Kept.TheVariants.{Adopted}
use Rattle.fwd_chunk.specs.Kept.{file_of, file_of_optional}
use Rattle.fwd_chunk.specs.Name.{found_name}
use Rattle.fwd_backlog.specs.declared.listed_file.Listed.{Listed}
use Rattle.fwd_backlog.specs.Serial.{serial_number}
use Rattle.fwd_backlog.specs.Listing.{path_of, IsNamed}
use Rattle.fwd_backlog.specs.Recovered.{AreDurable}
use Rattle.fwd_settings.specs.declared.settings_types.AllSettings.{AllSettings}
use Rattle.fwd_settings.specs.Requirements.{MeetsRequirements}
use Rattle.fwd_model.specs.Fact.{History, Found}
use Rattle.fwd_model.specs.Settings.{output_name}
use Rattle.fwd_model.specs.RecoveredFile.{recovered_chunk, nonempty_chunk, is_marked_done}
use Rattle.fwd_model.specs.Chunks.{ChunkInfo, chunks_of, is_closed, next, size}
use Rattle.fwd_model.specs.ChunkStorage.{adopted, kept_of, name_for}
use Rattle.fwd_model.specs.RecoveryActions.{recovers}
use Rattle.fwd_theorem_trace.specs.Allowed.{IsLoading}
use Rattle.fwd_theorem_trace.specs.Past.{logged}
use Rattle.fwd_theorem_trace.proofs.Members.{from_filter, off_where_not}
use Rattle.fwd_theorem_crash.specs.CrashPoint.{CrashPoint, crash_point, LeadsTo}
use Rattle.fwd_theorem_crash.specs.ChunkFile.{RepresentsChunk, IsIntact}
use Rattle.fwd_theorem_crash.specs.Safety.{StoodThere, AccountsFor, IsSafe}
use Rattle.fwd_theorem_crash.proofs.OrderInvariant.{head_of, NamesAll, PendingFile, HomeIsDisk, NameIsFree, InOrder, HaveRoom}
use Rattle.fwd_backlog.proofs.PathParts.{same_file}
use Rattle.fwd_theorem_crash.proofs.StreamNames.{new_path}
use Rattle.fwd_theorem_crash.proofs.FileContents.{found_meta, found_named}
use Rattle.fwd_theorem_crash.proofs.FreshDisk.{sound_fresh}
use Rattle.fwd_theorem_crash.proofs.LoadedHistory.{at_file, IsReadOf, LogsOnlyFiles, gathered_loading, was_read, same_number, next_above, IsKnown, known, found_chunk, found_head, IsFileOf, chunk_file, file_chunk, held_file}
use Rattle.fwd_theorem_crash.proofs.LoadingFacts.{AllNoted, Along, LoadedTo, goes_loading}

-- ---- bytes from which a chunk was recovered are a whole file

found_headed : (bytes : List ℕ) → parse_header bytes ≡ Err TooLong → recovered_chunk bytes ≡ None
unfolding stands
found_headed bytes long = ap (λ (r : Result Metadata NotAChunk). nonempty_chunk (stands_by bytes r)) long

short_or_long : (bytes : List ℕ) → (length bytes ≤ longest_file) ⊎ (longest_file < length bytes)
short_or_long bytes = grind arith

-- a prefix of a file is at most all of it
part_is_all : (all : List ℕ) (chunk : Chunk) → recovered_chunk (take enough_bytes all) ≡ Some chunk → take enough_bytes all ≡ all
part_is_all all chunk found = elim (short_or_long all) [
  | inl short ↦ take_all enough_bytes all (omega (arith, short))
  | inr long ↦
      let cut = length-take enough_bytes all in
      let no : None ≡ Some chunk = sym (found_headed (take enough_bytes all) (too_long (take enough_bytes all) (omega (arith, long, cut)))) ∙ found in
      absurd (cc no)
]

-- a file from which a chunk is recovered isn't longer than what is read
pub all_is_read : (all : List ℕ) (chunk : Chunk) → recovered_chunk all ≡ Some chunk → take enough_bytes all ≡ all
all_is_read all chunk found = elim (short_or_long all) [
  | inl short ↦ take_all enough_bytes all (omega (arith, short))
  | inr long ↦ let no : None ≡ Some chunk = sym (found_headed all (too_long all long)) ∙ found in absurd (cc no)
]

-- ---- a file without unsynced state

gone_or_whole : (state : FileState) → (state ≡ absent) ⊎ ((bytes : List ℕ) × (state ≡ whole bytes)) → (all : List ℕ) → content state ≡ Some all → state ≡ whole all
gone_or_whole state (inl is) all stands = let no : None ≡ Some all = ap content (sym is) ∙ stands in absurd (cc no)
gone_or_whole state (inr stood) all stands =
    let same : Some stood.0 ≡ Some all = ap content (sym stood.1) ∙ stands in
    let bytes : stood.0 ≡ all = cc same in
    stood.1 ∙ ap whole bytes

-- a crash leaves the file unchanged
image_stood : (state : FileState) → (state ≡ absent) ⊎ ((bytes : List ℕ) × (state ≡ whole bytes)) → (bytes : List ℕ) → IsPostCrash state (Some bytes) → state ≡ whole bytes
image_stood state (inl is) bytes at =
    let no : Some bytes ≡ None = absent_post_crash (Some bytes) (subst (λ (x : FileState). IsPostCrash x (Some bytes)) is at) in absurd (cc no)
image_stood state (inr stood) bytes at =
    let same : Some bytes ≡ Some stood.0 = whole_post_crash stood.0 (Some bytes) (subst (λ (x : FileState). IsPostCrash x (Some bytes)) stood.1 at) in
    let are : stood.0 ≡ bytes = cc same in
    stood.1 ∙ ap whole are

path_found : (root stream name : List ℕ) → found_name root stream name ≡ path_of root (at_file stream name)
path_found root stream name = simp append_assoc refl

module _ (s : AllSettings) (first : Files) (fresh : AreDurable first) where
  -- ---- a recovered chunk

  -- its file is whole, and the history says this of it
  record IsThere (h : History) (c : ChunkInfo) : Type 0 where
    file : IsFileOf h c.number
    is : found_chunk c.number file.chunk ≡ c
    read : IsReadOf s first (at_file file.stream file.name) file.bytes
    known : IsKnown s h c.number file.stream file.name file.bytes
    whole : first (path_of read.root (at_file file.stream file.name)) ≡ whole file.bytes

  whole_file : (h : History) (number : ℕ) (file : IsFileOf h number) (read : IsReadOf s first (at_file file.stream file.name) file.bytes)
      → first (path_of read.root (at_file file.stream file.name)) ≡ whole file.bytes
  whole_file h number file read =
      let path : List ℕ = path_of read.root (at_file file.stream file.name) in
      let part = part_is_all read.all file.chunk (ap recovered_chunk (sym read.part) ∙ file.found) in
      gone_or_whole (first path) (fresh path) read.all read.stands ∙ ap whole (sym (read.part ∙ part))

  is_there : (h : History) (c : ChunkInfo) → LogsOnlyFiles s first h → Contains (chunks_of h) c → IsThere h c
  is_there h c gathered has =
      let loading = gathered_loading s first h gathered in
      let found = chunk_file h c loading has in
      let read = was_read s first h c.number found.file.stream found.file.name found.file.bytes gathered found.file.among in
      record {
        file = found.file;
        is = found.is;
        read = read;
        known = known s h c.number found.file.stream found.file.name found.file.bytes loading found.file.among;
        whole = whole_file h c.number found.file read;
      }

  holds_whole : (h : History) (c : ChunkInfo) (there : IsThere h c) → RepresentsChunk s h c there.file.bytes
  holds_whole h c there = record {
    chunk = there.file.chunk;
    found = there.file.found;
    tag = ap (λ (d : ChunkInfo). d.tag) there.is;
    content = inl (sym (there.known.content ∙ ap (λ (o : Option Chunk). option_map_or (λ (chunk : Chunk). chunk.content) o []) there.file.found));
    recorded = λ output among is. ap (is_marked_done (output_name s output)) (sym there.file.found) ∙ sym (there.known.recorded output) ∙ is;
    no_other = λ output among is.
        let done : is_marked_done (output_name s output) (recovered_chunk there.file.bytes) ≡ true = ap (is_marked_done (output_name s output)) there.file.found ∙ is in
        (there.known.begun output ∙ done, there.known.resolved output ∙ done);
  }

  -- how it is kept
  kept_there : (h : History) (c : ChunkInfo) (there : IsThere h c) → kept_of s h c.number ≡ Some (Adopted (found_head (path_of there.read.root (at_file there.file.stream there.file.name)) there.file.chunk))
  kept_there h c there =
      let stream : List ℕ = there.file.stream in
      let name : List ℕ = there.file.name in
      let path : found_name (unwrap_or s.service.path []) stream name ≡ path_of there.read.root (at_file stream name) =
      ap (λ (o : Option (List ℕ)). found_name (unwrap_or o []) stream name) there.read.under ∙ path_found there.read.root stream name in
      there.known.kept ∙ ap (adopted (found_name (unwrap_or s.service.path []) stream name)) there.file.found ∙ ap (λ (p : List ℕ). Some (Adopted (found_head p there.file.chunk))) path

  images_there : (h : History) (c : ChunkInfo) (there : IsThere h c) (files : Files) → files ≡ first → AllPostCrash (path_of there.read.root (at_file there.file.stream there.file.name)) (IsIntact s h c) files
  images_there h c there files same image at =
      let path : List ℕ = path_of there.read.root (at_file there.file.stream there.file.name) in
      let state : files path ≡ whole there.file.bytes = ap (λ (f : Files). f path) same ∙ there.whole in
      let only : image ≡ Some there.file.bytes = whole_post_crash there.file.bytes image (subst (λ (x : FileState). IsPostCrash x image) state at) in
      subst (IsIntact s h c) (sym only) (holds_whole h c there)

  -- ---- each crash point is safe

  others_there : (h : History) (files : Files) → files ≡ first → (name bytes : List ℕ) → IsPostCrash (files name) (Some bytes) → AccountsFor s first h name bytes
  others_there h files same name bytes at = StoodThere (image_stood (first name) (fresh name) bytes (subst (λ (f : Files). IsPostCrash (f name) (Some bytes)) same at))

  along_safe : (m : CrashPoint) → Along s first m → IsSafe s first m
  along_safe m along = record {
    owed = λ c has owes home.
        let there = is_there (logged m.past) c along.1 has in
        record {
          root = there.read.root;
          path = at_file there.file.stream there.file.name;
          under = there.read.under;
          named = there.read.named;
          held = ap file_of_optional (kept_there (logged m.past) c there);
          images = images_there (logged m.past) c there m.files along.0;
        };
    others = others_there (logged m.past) m.files along.0;
  }

  -- ---- what is kept

  -- it is kept in a file that was read, of this name
  record IsHeldBy (h : History) (number : ℕ) (name : List ℕ) : Type 0 where
    file : IsFileOf h number
    read : IsReadOf s first (at_file file.stream file.name) file.bytes
    is : path_of read.root (at_file file.stream file.name) ≡ name

  path_read : (stream name bytes : List ℕ) (read : IsReadOf s first (at_file stream name) bytes) → found_name (unwrap_or s.service.path []) stream name ≡ path_of read.root (at_file stream name)
  path_read stream name bytes read = ap (λ (o : Option (List ℕ)). found_name (unwrap_or o []) stream name) read.under ∙ path_found read.root stream name

  held_by : (h : History) (number : ℕ) (name : List ℕ) → LogsOnlyFiles s first h → file_of_optional (kept_of s h number) ≡ Some name → IsHeldBy h number name
  held_by h number name gathered is = by (kept_of s h number) refl is
    where
      by : (kept : Option Kept) → kept_of s h number ≡ kept → file_of_optional kept ≡ Some name → IsHeldBy h number name
      by None at none = absurd (cc none)
      by (Some kept) at some =
          let held = held_file s h number kept (gathered_loading s first h gathered) at in
          let read = was_read s first h number held.file.stream held.file.name held.file.bytes gathered held.file.among in
          let both : Some (found_name (unwrap_or s.service.path []) held.file.stream held.file.name) ≡ Some name = ap file_of held.is ∙ some in
          let same : found_name (unwrap_or s.service.path []) held.file.stream held.file.name ≡ name = cc both in
          record { file = held.file; read = read; is = sym (path_read held.file.stream held.file.name held.file.bytes read) ∙ same }

  at_home : (h : History) (number : ℕ) (head : ChunkHead) → LogsOnlyFiles s first h → head_of (kept_of s h number) ≡ Some head → HomeIsDisk s h number
  at_home h number head gathered is = by (kept_of s h number) refl is
    where
      by : (kept : Option Kept) → kept_of s h number ≡ kept → head_of kept ≡ Some head → HomeIsDisk s h number
      by None at none = absurd (cc none)
      by (Some kept) at some =
          let loading = gathered_loading s first h gathered in
          let held = held_file s h number kept loading at in
          record { of = found_chunk number held.file.chunk; among = file_chunk h number held.file loading; is = refl; home = refl }

  names_differ : (h : History) (one other : ℕ) (name : List ℕ) → LogsOnlyFiles s first h → file_of_optional (kept_of s h one) ≡ Some name → file_of_optional (kept_of s h other) ≡ Some name → one ≡ other
  names_differ h one other name gathered is also =
      let a = held_by h one name gathered is in
      let b = held_by h other name gathered also in
      let both : Some a.read.root ≡ Some b.read.root = sym a.read.under ∙ b.read.under in
      let roots : a.read.root ≡ b.read.root = cc both in
      let here : Listed = at_file a.file.stream a.file.name in
      let there : Listed = at_file b.file.stream b.file.name in
      let paths : path_of a.read.root here ≡ path_of a.read.root there = a.is ∙ sym b.is ∙ ap (λ (root : List ℕ). path_of root there) (sym roots) in
      let same = same_file a.read.root here there a.read.named.stream b.read.named.stream paths in
      same_number s first h one other a.file.stream a.file.name a.file.bytes b.file.bytes gathered a.file.among
      (subst (λ (file : Listed). Contains h (Found other file.stream file.name b.file.bytes)) (sym same) b.file.among)

  have_room : (h : History) → LogsOnlyFiles s first h → HaveRoom h
  have_room h gathered c has =
      let kept = from_filter (λ (d : ChunkInfo). not (is_closed h d.number)) (chunks_of h) c has in
      let there = is_there h c gathered kept.0 in
      let no : true ≡ false = sym there.known.shut ∙ off_where_not (is_closed h c.number) kept.1 in
      absurd (cc no)

-- the result of loading: nothing was logged, or the recovered files satisfy the order invariant
abbrev pub LoadedAs : AllSettings → Files → Option History → CrashPoint → Type 0
LoadedAs s first None m = logged m.past ≡ []
LoadedAs s first (Some h) m = (h ≡ logged m.past) × InOrder s first h first × HaveRoom h × IsLoading h

module _ (s : AllSettings) (first : Files) (sound : MeetsRequirements s) (fresh : AreDurable first) where
  names_there : (h : History) (c : ChunkInfo) (there : IsThere s first fresh h c) → AllPostCrash (path_of there.read.root (at_file there.file.stream there.file.name))
      (NamesAll (found_head (path_of there.read.root (at_file there.file.stream there.file.name)) there.file.chunk)) first
  names_there h c there image at =
      let path : List ℕ = path_of there.read.root (at_file there.file.stream there.file.name) in
      let head : ChunkHead = found_head path there.file.chunk in
      let only : image ≡ Some there.file.bytes = whole_post_crash there.file.bytes image (subst (λ (x : FileState). IsPostCrash x image) there.whole at) in
      subst (NamesAll head) (sym only) (record { meta = found_meta there.file.bytes there.file.chunk there.file.found; named = λ mark. found_named head there.file.chunk there.file.bytes there.file.found refl refl refl mark })

  sized_there : (h : History) (c : ChunkInfo) (there : IsThere s first fresh h c) → length there.file.chunk.content ≡ size h c.number
  sized_there h c there =
      ap (λ (l : List ℕ). length l) (sym (there.known.content ∙ ap (λ (o : Option Chunk). option_map_or (λ (chunk : Chunk). chunk.content) o []) there.file.found))

  filed : (h : History) (c : ChunkInfo) → LogsOnlyFiles s first h → Contains (chunks_of h) c → PendingFile s h c first
  filed h c gathered has =
      let there = is_there s first fresh h c gathered has in
      record {
        root = there.read.root;
        path = at_file there.file.stream there.file.name;
        under = there.read.under;
        named = there.read.named;
        head = found_head (path_of there.read.root (at_file there.file.stream there.file.name)) there.file.chunk;
        held = ap head_of (kept_there s first fresh h c there);
        name = refl;
        sized = sized_there h c there;
        images = images_there s first fresh h c there first refl;
        names = names_there h c there;
        at_work = λ open_now. let no : true ≡ false = sym there.known.shut ∙ open_now in absurd (cc no);
      }

  module _ (h : History) (gathered : LogsOnlyFiles s first h) (all : AllNoted s first h) (root : List ℕ) (under : s.service.path ≡ Some root) (input number : ℕ) (late : next h ≤ number) (small : number < numbers_end) where
    no_file : (path : Listed) → IsNamed path → serial_number path.name ≡ number → first (path_of root path) ≡ absent
    no_file path named serial = elim (fresh (path_of root path)) [
      | inl is ↦ is
      | inr stood ↦
          let there : IsTrue (first (path_of root path)).there = ap (λ (x : FileState). x.there) stood.1 in
          let was = all root under path.stream path.name named.stream named.name named.chunk there in
          let less = next_above h was.0 path.stream path.name was.1 (gathered_loading s first h gathered) was.2 in
          absurd (omega (arith, less, late, serial))
    ]

    not_held : (path : Listed) → IsNamed path → serial_number path.name ≡ number → (other : ℕ) → file_of_optional (kept_of s h other) ≢ Some (path_of root path)
    not_held path named serial other is =
        let held = held_by s first fresh h other (path_of root path) gathered is in
        let both : Some held.read.root ≡ Some root = sym held.read.under ∙ under in
        let roots : held.read.root ≡ root = cc both in
        let here : Listed = at_file held.file.stream held.file.name in
        let paths : path_of root here ≡ path_of root path = ap (λ (r : List ℕ). path_of r here) (sym roots) ∙ held.is in
        let same = same_file root here path held.read.named.stream named.stream paths in
        let less = next_above h other held.file.stream held.file.name held.file.bytes (gathered_loading s first h gathered) held.file.among in
        let tells : serial_number held.file.name ≡ number = ap (λ (file : Listed). serial_number file.name) same ∙ serial in
        omega (arith, less, late, tells)

    is_free : NameIsFree s h first (name_for s input number)
    is_free =
        let new = new_path s sound root under input number small in
        subst (NameIsFree s h first) (sym new.2) (record { none = no_file new.0 new.1 new.3; unheld = not_held new.0 new.1 new.3 })

  in_order : (h : History) → LogsOnlyFiles s first h → AllNoted s first h → InOrder s first h first
  in_order h gathered all = record {
    sound = sound_fresh first fresh;
    owed = λ c has owes home. filed h c gathered has;
    home = λ number head is. at_home s first fresh h number head gathered is;
    differ = λ one other name is also. names_differ s first fresh h one other name gathered is also;
    free = λ root under input number late small. is_free h gathered all root under input number late small;
    others = others_there s first fresh h first refl;
  }

  loaded_as : (result : Option History) (m : CrashPoint) → LoadedTo s first result m → (m.files ≡ first) × LoadedAs s first result m
  loaded_as None m loaded = (loaded.0, loaded.1)
  loaded_as (Some h) m loaded = (loaded.0, (loaded.1, in_order h loaded.2 loaded.3, have_room s first fresh h loaded.2, gathered_loading s first h loaded.2))

  pub loading_holds : HoldsThroughout LeadsTo (IsSafe s first) (λ (result : Option History) (m : CrashPoint). (m.files ≡ first) × LoadedAs s first result m) (crash_point [] first) (recovers s)
  loading_holds =
      holds_weaker LeadsTo (Along s first) (IsSafe s first) (LoadedTo s first) (λ (result : Option History) (m : CrashPoint). (m.files ≡ first) × LoadedAs s first result m) (crash_point [] first) (recovers s)
      (λ m along. along_safe s first fresh m along) loaded_as (goes_loading s first fresh)
