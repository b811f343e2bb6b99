-- After the files so far, the parts represent what was recovered.
use Rattle.std.proofs.Common.{nat_cmp, ◌≡◌, ℕ, ◌+◌, ◌≤◌, cond, nat_eq, inl, inr, List, [], ◌∷◌, length, drop, map as list_map, Option, Some, None, refl, sym, ◌∙◌, ap, subst, arith}
use Rattle.std.specs.Prelude.{◌==◌, if◌then◌else◌, unwrap_or, max, fold}
use Rattle.std.specs.List.{AllZip}
use Rattle.std.specs.FinMap as map
use Rattle.std.proofs.lemmas.Bool.{cases_Bool}
use Rattle.fwd_chunk.specs.declared.chunk.Chunk.{Chunk}
use Rattle.fwd_chunk.specs.declared.chunk.Brief.{Brief}
use Rattle.fwd_chunk.specs.declared.chunk.Found.{Found as FoundFile}
use Rattle.fwd_chunk.specs.declared.chunk.Seen.{Seen}
use Rattle.fwd_chunk.specs.declared.chunk.Seen.TheVariants.{Whole, Empty, Refused}
use Rattle.fwd_chunk.specs.Check.{IsCheckResult}
use Rattle.fwd_chunk.specs.declared.kept.Kept.{Kept}
use Rattle.fwd_chunk.specs.Name.{found_name}
use Rattle.fwd_store.specs.StoreState.{Stored}
use Rattle.fwd_store.specs.Store.{adopted as adopted_in}
use Rattle.fwd_backlog.specs.declared.file_read.FileRead.{FileRead}
use Rattle.fwd_backlog.specs.LoadProgram.{IsDescriptionOf}
use Rattle.fwd_backlog.specs.Serial.{serial_number, next_number}
use Rattle.fwd_settings.specs.declared.settings_types.AllSettings.{AllSettings}
use Rattle.fwd_model.specs.Fact.{History, Found}
use Rattle.fwd_model.specs.RecoveredFile.{recovered_chunk}
use Rattle.fwd_model.specs.Chunks.{next}
use Rattle.fwd_model.specs.ChunkStorage.{kept_of, adopted}
use Rattle.fwd_engine_state.specs.StateRepresents.{StateRepresentsIdle as StateShows}
use Rattle.fwd_engine_inputs.specs.StreamsRepresent.{StreamsRepresent}
use Rattle.fwd_engine_inputs.proofs.StreamSteps as input_streams
use Rattle.fwd_engine_inputs.specs.FilesRepresent.{FilesRepresent}
use Rattle.fwd_engine_inputs.proofs.FileSteps as followed_files
use Rattle.fwd_engine_state.specs.StoreRepresents.{opened_of}
use Rattle.fwd_engine_state.proofs.ChunkMap.{get_inserted, same_number}
use Rattle.fwd_engine_state.specs.HistoryInvariant.{IsSound}
use Rattle.fwd_engine_state.specs.PartsRepresent.{PartsRepresentIdle}
use Rattle.fwd_engine_state.specs.declared.parts.Parts.{Parts}
use Rattle.fwd_engine_state.proofs.InvariantSteps.{sound_after_recovery, sound_of_empty}
use Rattle.fwd_engine_recovery.specs.Adoption.{recovered_history, StateNotesFile, taken, StoreIsReady, AreEmptyParts}
use Rattle.fwd_engine_recovery.proofs.FileKinds.{IsWholeIn, whole_found, empty_found, refused_found}
use Rattle.fwd_engine_recovery.proofs.RenamedFiles.{IsPlain, plain_first, plain_found, stands_plain}

-- ---- chunks in the store

same_kept : (s : AllSettings) (store : Stored) (found : FoundFile) (brief : Brief) (bytes : List ℕ) → store.root ≡ s.service.path → IsWholeIn bytes brief
    → Some (adopted_in store found brief) ≡ adopted (found_name (unwrap_or s.service.path []) found.stream found.name) (recovered_chunk bytes)
same_kept s store found brief bytes root whole = rw (whole.found, whole.kept, root) refl

held_none : (n k : ℕ) (o p : Option Kept) → (k ≡ n → p ≡ None) → p ≡ o → p ≡ (if n == k then None else o)
held_none n k o p none is = elim (cases_Bool (n == k)) [
  | inl same ↦ rw same (none (sym (same_number n k same)))
  | inr differs ↦ rw differs is
]

kept_found : (s : AllSettings) (store : Stored) (h : History) (n : ℕ) (found : FoundFile) (bytes : List ℕ) (seen : Seen) → IsCheckResult bytes seen → store.root ≡ s.service.path → map.get store.chunks n ≡ None
    → ((k : ℕ) → map.get store.chunks k ≡ kept_of s h k) → (k : ℕ) → map.get (taken store n found seen).chunks k ≡ kept_of s (Found n found.stream found.name bytes ∷ h) k
kept_found s store h n found bytes (Whole brief) seen root none held k =
    let kept = same_kept s store found brief bytes root (whole_found bytes brief seen) in
    get_inserted store.chunks n (adopted_in store found brief) k ∙ (λ i. cond (nat_eq n k) (kept i) (held k i))
kept_found s store h n found bytes (Empty brief) seen root none held k =
    held_none n k (kept_of s h k) (map.get store.chunks k) (λ same. ap (map.get store.chunks) same ∙ none) (held k)
    ∙ ap (λ (o : Option Chunk). if n == k then adopted (found_name (unwrap_or s.service.path []) found.stream found.name) o else kept_of s h k) (sym (empty_found bytes brief seen))
kept_found s store h n found bytes (Refused kind) seen root none held k =
    held_none n k (kept_of s h k) (map.get store.chunks k) (λ same. ap (map.get store.chunks) same ∙ none) (held k)
    ∙ ap (λ (o : Option Chunk). if n == k then adopted (found_name (unwrap_or s.service.path []) found.stream found.name) o else kept_of s h k) (sym (refused_found bytes kind seen))

-- ---- all parts

-- After this many files, the state represents a history in which the names of files show no number. So each
-- next file has the next number of this history.
pub record IsLoading (s : AllSettings) (parts : Parts) (n : ℕ) (g h : History) : Type 0 where
  pub state : StateShows s parts.state g
  pub plain : IsPlain s g h
  pub low : next g ≤ n + 1
  pub input_streams : StreamsRepresent s parts.input_streams h
  pub followed_files : FilesRepresent s parts.followed_files h
  pub sound : IsSound s h None
  pub chunks : (k : ℕ) → map.get parts.store.chunks k ≡ kept_of s h k

pub loading_first : (s : AllSettings) (past : ℕ) (parts : Parts) → AreEmptyParts s past parts → IsLoading s parts 0 [] []
loading_first s past parts new = record {
  state = new.state;
  plain = plain_first s;
  low = omega arith;
  input_streams = new.input_streams;
  followed_files = new.followed_files;
  sound = sound_of_empty s;
  chunks = λ k. ap (λ (store : Stored). map.get store.chunks k) new.store ∙ map.get-empty nat_cmp k;
}

-- the calls for one file
pub record TakesFile (s : AllSettings) (old new : Parts) (n : ℕ) (found : FoundFile) : Type 0 where
  pub state : StateNotesFile s old.state new.state (n + 1) found.seen
  pub store : new.store ≡ taken old.store (n + 1) found found.seen
  pub input_streams : new.input_streams ≡ old.input_streams
  pub followed_files : new.followed_files ≡ old.followed_files

pub loading_next : (s : AllSettings) (old new : Parts) (n : ℕ) (g h : History) (found : FoundFile) (more : List FoundFile) (read : FileRead)
    → TakesFile s old new n found → StoreIsReady s old.store n (found ∷ more) → IsDescriptionOf read found → IsLoading s old n g h
    → IsLoading s new (n + 1) (Found (n + 1) read.file.stream [] read.bytes ∷ g) (Found (n + 1) read.file.stream read.file.name read.bytes ∷ h)
loading_next s old new n g h found more read takes ready of loading = record {
  state = takes.state read.file.stream [] read.bytes g of.seen loading.low loading.state;
  plain = plain_found s (n + 1) read.file.stream read.file.name read.bytes g h loading.plain;
  low = let low = loading.low in omega (arith, low);
  input_streams = rw takes.input_streams (input_streams.streams_after_other_fact s old.input_streams h (Found (n + 1) read.file.stream read.file.name read.bytes) refl loading.input_streams);
  followed_files = rw takes.followed_files (followed_files.files_after_other_fact s old.followed_files h (Found (n + 1) read.file.stream read.file.name read.bytes) refl loading.followed_files);
  sound = sound_after_recovery s h None (n + 1) read.file.stream read.file.name read.bytes loading.sound;
  chunks = λ k.
      ap (λ (store : Stored). map.get store.chunks k) takes.store
      ∙ kept_found s old.store h (n + 1) found read.bytes found.seen of.seen ready.root (ready.above (n + 1) (omega arith)) loading.chunks k
      ∙ (λ i. kept_of s (Found (n + 1) (of.stream i) (of.name i) read.bytes ∷ h) k);
}

-- ---- the next number

abbrev pub next_behind : ℕ → ℕ → List FoundFile → ℕ
next_behind n past [] = past
next_behind n past (found ∷ more) = next_behind (n + 1) (max past (1 + max (n + 1) (serial_number found.name))) more

abbrev greatest_from : ℕ → List FoundFile → ℕ
greatest_from greatest found = fold (λ (g : ℕ) (file : FoundFile). max g (serial_number file.name)) greatest found

greatest_of : (a : ℕ) (found : List FoundFile) → greatest_from a found ≡ max a (greatest_from 0 found)
greatest_of a [] = omega arith
greatest_of a (f ∷ fs) =
    let here = greatest_of (max a (serial_number f.name)) fs in
    let there = greatest_of (max 0 (serial_number f.name)) fs in
    omega (arith, here, there)

next_all : (n past : ℕ) (found : List FoundFile) → n + 1 ≤ past → next_behind n past found ≡ max past (1 + max (n + length found) (greatest_from 0 found))
next_all n past [] low = omega (arith, low)
next_all n past (f ∷ fs) low =
    let more = next_all (n + 1) (max past (1 + max (n + 1) (serial_number f.name))) fs (omega arith) in
    let first = greatest_of (max 0 (serial_number f.name)) fs in
    omega (arith, low, more, first)

pub next_is : (found : List FoundFile) → next_behind 0 1 found ≡ next_number found
next_is found = let all = next_all 0 1 found (omega arith) in omega (arith, all)

-- ---- the end

pub loading_ends : (s : AllSettings) (parts : Parts) (n : ℕ) (g h : History) → StoreIsReady s parts.store n [] → next h ≡ parts.store.next → IsLoading s parts n g h → PartsRepresentIdle s parts h
loading_ends s parts n g h ready at loading = record {
  state = stands_plain s parts.state g h loading.plain loading.state;
  input_streams = loading.input_streams;
  followed_files = loading.followed_files;
  store = record {
    root = ready.root;
    full = ready.full;
    next = sym at;
    opened = ready.opened ∙ ap (list_map opened_of) (sym loading.plain.opens);
    chunks = loading.chunks;
  };
  sound = loading.sound;
}

-- ---- one file after another

-- after this many of the files that were listed and read
pub record IsBehind (s : AllSettings) (parts : Parts) (n : ℕ) (found : List FoundFile) (files : List FileRead) : Type 0 where
  pub plain : History
  pub history : History
  pub left : List FileRead
  pub each : AllZip IsDescriptionOf left (drop n found)
  pub loading : IsLoading s parts n plain history
  pub after : recovered_history (n + 1) left history ≡ recovered_history 1 files []
  pub at : next_behind n (next history) (drop n found) ≡ next_number found

pub behind_first : (s : AllSettings) (past : ℕ) (parts : Parts) (found : List FoundFile) (files : List FileRead) → AreEmptyParts s past parts → AllZip IsDescriptionOf files found → IsBehind s parts 0 found files
behind_first s past parts found files new each = record {
  plain = [];
  history = [];
  left = files;
  each = each;
  loading = loading_first s past parts new;
  after = refl;
  at = next_is found;
}

pub behind_next : (s : AllSettings) (old new : Parts) (n : ℕ) (found : List FoundFile) (file : FoundFile) (more : List FoundFile) (files : List FileRead)
    → drop n found ≡ file ∷ more → drop (n + 1) found ≡ more → TakesFile s old new n file → StoreIsReady s old.store n (file ∷ more) → IsBehind s old n found files → IsBehind s new (n + 1) found files
behind_next s old new n found file more files here there takes ready behind =
    go behind.left (subst (λ (l : List FoundFile). AllZip IsDescriptionOf behind.left l) here behind.each) behind.after
  where
    go : (left : List FileRead) → AllZip IsDescriptionOf left (file ∷ more) → recovered_history (n + 1) left behind.history ≡ recovered_history 1 files [] → IsBehind s new (n + 1) found files
    go [] each after = absurd each
    go (read ∷ reads) each after = record {
      plain = Found (n + 1) read.file.stream [] read.bytes ∷ behind.plain;
      history = Found (n + 1) read.file.stream read.file.name read.bytes ∷ behind.history;
      left = reads;
      each = subst (λ (l : List FoundFile). AllZip IsDescriptionOf reads l) (sym there) each.1;
      loading = loading_next s old new n behind.plain behind.history file more read takes ready each.0 behind.loading;
      after = after;
      at =
          ap (λ (l : List FoundFile). next_behind (n + 1) (next (Found (n + 1) read.file.stream read.file.name read.bytes ∷ behind.history)) l) there
          ∙ ap (λ (name : List ℕ). next_behind (n + 1) (max (next behind.history) (1 + max (n + 1) (serial_number name))) more) (sym each.0.name)
          ∙ ap (λ (l : List FoundFile). next_behind n (next behind.history) l) (sym here)
          ∙ behind.at;
    }

pub behind_ends : (s : AllSettings) (parts : Parts) (n : ℕ) (found : List FoundFile) (files : List FileRead) → drop n found ≡ [] → StoreIsReady s parts.store n (drop n found) → parts.store.next ≡ next_number found
    → IsBehind s parts n found files → PartsRepresentIdle s parts (recovered_history 1 files [])
behind_ends s parts n found files none ready past behind =
    go behind.left (subst (λ (l : List FoundFile). AllZip IsDescriptionOf behind.left l) none behind.each) behind.after
  where
    shows : PartsRepresentIdle s parts behind.history
    shows = loading_ends s parts n behind.plain behind.history
        (subst (λ (l : List FoundFile). StoreIsReady s parts.store n l) none ready)
        (ap (λ (l : List FoundFile). next_behind n (next behind.history) l) (sym none) ∙ behind.at ∙ sym past)
        behind.loading

    go : (left : List FileRead) → AllZip IsDescriptionOf left [] → recovered_history (n + 1) left behind.history ≡ recovered_history 1 files [] → PartsRepresentIdle s parts (recovered_history 1 files [])
    go [] each after = subst (PartsRepresentIdle s parts) after shows
    go (read ∷ reads) each after = absurd each

-- nothing was to be loaded
pub new_shows : (s : AllSettings) (parts : Parts) → AreEmptyParts s 1 parts → PartsRepresentIdle s parts []
new_shows s parts new = record {
  state = new.state;
  input_streams = new.input_streams;
  followed_files = new.followed_files;
  store = record {
    root = ap (λ (store : Stored). store.root) new.store;
    full = ap (λ (store : Stored). store.full) new.store;
    next = ap (λ (store : Stored). store.next) new.store;
    opened = ap (λ (store : Stored). store.opened) new.store;
    chunks = λ k. ap (λ (store : Stored). map.get store.chunks k) new.store ∙ map.get-empty nat_cmp k;
  };
  sound = sound_of_empty s;
}
