-- What the history of a loading says of each recovered file.
use Rattle.std.proofs.Common.{◌≡◌, ◌≢◌, ◌⊎◌, inl, inr, ⊎_elim, ℕ, ◌+◌, ◌<◌, ◌||◌, Bool, true, false, cond, List, [], ◌∷◌, ◌++◌, length, take, unwrap_or, Option, Some, None, refl, sym, ◌∙◌, ap, subst, arith}
use Rattle.std.specs.Prelude.{Contains, ◌==◌}
use Rattle.std.proofs.lemmas.Bool.{eq-eqb, eqb-true, ne_eqb}
use Rattle.std.proofs.lemmas.List.Elements.{Contains-append_left, Contains-append_right, Contains-append_cases}
use Rattle.fwd_outside.specs.File.{content}
use Rattle.fwd_outside.specs.DiskStates.{Files}
use Rattle.fwd_chunk.specs.declared.chunk.Chunk.{Chunk}
use Rattle.fwd_chunk.specs.Check.{enough_bytes}
use Rattle.fwd_chunk.specs.declared.kept.Kept.{Kept}
use Rattle.fwd_chunk.specs.declared.kept.Kept.TheVariants.{Adopted}
use Rattle.fwd_chunk.specs.Name.{found_name}
use Rattle.fwd_chunk.specs.declared.append.ChunkHead.{ChunkHead}
use Rattle.fwd_backlog.specs.declared.listed_file.Listed.{Listed}
use Rattle.fwd_backlog.specs.Serial.{serial_number}
use Rattle.fwd_backlog.specs.Listing.{path_of, IsNamed}
use Rattle.fwd_settings.specs.declared.settings_types.AllSettings.{AllSettings}
use Rattle.fwd_model.specs.Fact.{Fact, History, Found}
use Rattle.fwd_model.specs.Settings.{output_name}
use Rattle.fwd_model.specs.RecoveredFile.{recovered_chunk, recovered_content, is_marked_done}
use Rattle.fwd_model.specs.Chunks.{ChunkInfo, chunks_of, recovered_info, next, is_closed, content as content_of}
use Rattle.fwd_model.specs.ChunkStorage.{adopted, kept_of}
use Rattle.fwd_model.specs.Routes.{route, is_resolved}
use Rattle.fwd_theorem_trace.specs.Allowed.{IsLoading}
use Rattle.fwd_theorem_trace.proofs.Members.{here, deeper, either}
use Rattle.fwd_theorem_crash.specs.RecordedOutcomes.{is_recorded, may_be_recorded}

abbrev pub at_file : List ℕ → List ℕ → Listed
at_file stream name = record { name = name; stream = stream }

-- a file was on the disk under a name that a disk may list, and these are its first bytes
pub record IsReadOf (s : AllSettings) (first : Files) (file : Listed) (bytes : List ℕ) : Type 0 where
  pub root : List ℕ
  pub under : s.service.path ≡ Some root
  pub named : IsNamed file
  pub all : List ℕ
  pub stands : content (first (path_of root file)) ≡ Some all
  pub part : bytes ≡ take enough_bytes all

-- all facts are about files, and none about this one
abbrev pub IsNewTo : History → Listed → Type 0
IsNewTo [] file = Unit {0}
IsNewTo (Found number stream name bytes ∷ h) file = (at_file stream name ≢ file) × IsNewTo h file
IsNewTo (fact ∷ h) file = ⊥

-- only files that were on the disk were logged, numbered from 1 on, each once
abbrev pub LogsOnlyFiles : AllSettings → Files → History → Type 0
LogsOnlyFiles s first [] = Unit {0}
LogsOnlyFiles s first (Found number stream name bytes ∷ h) = (number ≡ length h + 1) × IsReadOf s first (at_file stream name) bytes × IsNewTo h (at_file stream name) × LogsOnlyFiles s first h
LogsOnlyFiles s first (fact ∷ h) = ⊥

pub gathered_loading : (s : AllSettings) (first : Files) (h : History) → LogsOnlyFiles s first h → IsLoading h
gathered_loading s first [] gathered = tt
gathered_loading s first (Found number stream name bytes ∷ h) gathered = (gathered.0, gathered_loading s first h gathered.3)
gathered_loading s first (fact ∷ h) gathered = absurd gathered

-- ---- files by their facts

abbrev IsReadBy : AllSettings → Files → Fact → Type 0
IsReadBy s first (Found number stream name bytes) = IsReadOf s first (at_file stream name) bytes
IsReadBy s first fact = Unit {0}

was_read_by : (s : AllSettings) (first : Files) (h : History) (fact : Fact) → LogsOnlyFiles s first h → Contains h fact → IsReadBy s first fact
was_read_by s first [] fact gathered has = absurd (omega (arith, has.1))
was_read_by s first (Found number stream name bytes ∷ h) fact gathered has =
    ⊎_elim (λ (same : Found number stream name bytes ≡ fact). subst (IsReadBy s first) same gathered.1)
    (λ (old : Contains h fact). was_read_by s first h fact gathered.3 old) (either (Found number stream name bytes) h fact has)
was_read_by s first (other ∷ h) fact gathered has = absurd gathered

pub was_read : (s : AllSettings) (first : Files) (h : History) (number : ℕ) (stream name bytes : List ℕ) → LogsOnlyFiles s first h → Contains h (Found number stream name bytes)
    → IsReadOf s first (at_file stream name) bytes
was_read s first h number stream name bytes gathered has = was_read_by s first h (Found number stream name bytes) gathered has

not_new : (h : History) (number : ℕ) (stream name bytes : List ℕ) → IsNewTo h (at_file stream name) → Contains h (Found number stream name bytes) → ⊥
not_new [] number stream name bytes new has = absurd (omega (arith, has.1))
not_new (Found other folder file read ∷ h) number stream name bytes new has =
    ⊎_elim (λ (same : Found other folder file read ≡ Found number stream name bytes). let folders : folder ≡ stream = cc same in let files : file ≡ name = cc same in new.0 (λ i. at_file (folders i) (files i)))
    (λ (old : Contains h (Found number stream name bytes)). not_new h number stream name bytes new.1 old) (either (Found other folder file read) h (Found number stream name bytes) has)
not_new (fact ∷ h) number stream name bytes new has = absurd new

-- a file has one number
pub same_number : (s : AllSettings) (first : Files) (h : History) (one other : ℕ) (stream name bytes read : List ℕ) → LogsOnlyFiles s first h
    → Contains h (Found one stream name bytes) → Contains h (Found other stream name read) → one ≡ other
same_number s first [] one other stream name bytes read gathered has also = absurd (omega (arith, has.1))
same_number s first (Found number folder file now ∷ h) one other stream name bytes read gathered has also =
    by (either (Found number folder file now) h (Found one stream name bytes) has) (either (Found number folder file now) h (Found other stream name read) also)
    (same_number s first h one other stream name bytes read gathered.3)
  where
    new : (n : ℕ) (b : List ℕ) → Found number folder file now ≡ Found n stream name b → IsNewTo h (at_file stream name)
    new n b same = let folders : folder ≡ stream = cc same in let files : file ≡ name = cc same in subst (IsNewTo h) (λ i. at_file (folders i) (files i)) gathered.2

    by : (Found number folder file now ≡ Found one stream name bytes) ⊎ Contains h (Found one stream name bytes) → (Found number folder file now ≡ Found other stream name read) ⊎ Contains h (Found other stream name read)
        → (Contains h (Found one stream name bytes) → Contains h (Found other stream name read) → one ≡ other) → one ≡ other
    by (inl a) (inl b) more = let first_is : number ≡ one = cc a in let second_is : number ≡ other = cc b in sym first_is ∙ second_is
    by (inl a) (inr b) more = absurd (not_new h other stream name read (new one bytes a) b)
    by (inr a) (inl b) more = absurd (not_new h one stream name bytes (new other read b) a)
    by (inr a) (inr b) more = more a b
same_number s first (fact ∷ h) one other stream name bytes read gathered has also = absurd gathered

-- the number of the next chunk is above the numbers in all names
pub next_above : (h : History) (number : ℕ) (stream name bytes : List ℕ) → IsLoading h → Contains h (Found number stream name bytes) → serial_number name < next h
next_above [] number stream name bytes loading has = absurd (omega (arith, has.1))
next_above (Found other folder file read ∷ h) number stream name bytes loading has =
    ⊎_elim (λ (same : Found other folder file read ≡ Found number stream name bytes). let files : file ≡ name = cc same in subst (λ (f : List ℕ). serial_number f < next (Found other folder file read ∷ h)) files (omega arith))
    (λ (old : Contains h (Found number stream name bytes)). let less = next_above h number stream name bytes loading.1 old in omega (arith, less))
    (either (Found other folder file read) h (Found number stream name bytes) has)
next_above (fact ∷ h) number stream name bytes loading has = absurd loading

-- ---- what the history says of a number

or_not : (b : Bool) → (b || false) ≡ b
or_not true = refl
or_not false = refl

-- for a number that is still to come
module _ (s : AllSettings) (n : ℕ) where
  off : (m long : ℕ) → m ≡ long + 1 → long + 1 < n → m == n ≡ false
  off m long is less = ne_eqb m n (λ same. omega (arith, is, less, same))

  unresolved : (h : History) (output : ℕ) → IsLoading h → length h < n → is_resolved s h (route n output) ≡ false
  unresolved [] output loading less = refl
  unresolved (Found m stream name bytes ∷ h) output loading less =
      let other = off m (length h) loading.0 (omega (arith, less)) in let before = unresolved h output loading.1 (omega (arith, less)) in rw (other, before) refl
  unresolved (fact ∷ h) output loading less = absurd loading

  unrecorded : (h : History) (output : ℕ) → IsLoading h → length h < n → is_recorded s h (route n output) ≡ false
  unrecorded [] output loading less = refl
  unrecorded (Found m stream name bytes ∷ h) output loading less =
      let other = off m (length h) loading.0 (omega (arith, less)) in let before = unrecorded h output loading.1 (omega (arith, less)) in rw (other, before) refl
  unrecorded (fact ∷ h) output loading less = absurd loading

  not_begun : (h : History) (output : ℕ) → IsLoading h → length h < n → may_be_recorded s h (route n output) ≡ false
  not_begun [] output loading less = refl
  not_begun (Found m stream name bytes ∷ h) output loading less =
      let other = off m (length h) loading.0 (omega (arith, less)) in let before = not_begun h output loading.1 (omega (arith, less)) in rw (other, before) refl
  not_begun (fact ∷ h) output loading less = absurd loading

-- what the history says of the number of a file with these bytes
pub record IsKnown (s : AllSettings) (h : History) (number : ℕ) (stream name bytes : List ℕ) : Type 0 where
  pub below : number < length h + 1
  pub kept : kept_of s h number ≡ adopted (found_name (unwrap_or s.service.path []) stream name) (recovered_chunk bytes)
  pub content : content_of h number ≡ recovered_content bytes
  pub shut : is_closed h number ≡ true
  pub resolved : (output : ℕ) → is_resolved s h (route number output) ≡ is_marked_done (output_name s output) (recovered_chunk bytes)
  pub recorded : (output : ℕ) → is_recorded s h (route number output) ≡ is_marked_done (output_name s output) (recovered_chunk bytes)
  pub begun : (output : ℕ) → may_be_recorded s h (route number output) ≡ is_marked_done (output_name s output) (recovered_chunk bytes)

module _ (s : AllSettings) where
  known_now : (h : History) (number : ℕ) (stream name bytes : List ℕ) → number ≡ length h + 1 → IsLoading h → IsKnown s (Found number stream name bytes ∷ h) number stream name bytes
  known_now h number stream name bytes is loading = record {
    below = omega (arith, is);
    kept = rw here_it refl;
    content = rw here_it refl;
    shut = rw here_it refl;
    resolved = λ output. let none = unresolved s number h output loading (omega (arith, is)) in rw (here_it, none) (or_not (is_marked_done (output_name s output) (recovered_chunk bytes)));
    recorded = λ output. let none = unrecorded s number h output loading (omega (arith, is)) in rw (here_it, none) (or_not (is_marked_done (output_name s output) (recovered_chunk bytes)));
    begun = λ output. let none = not_begun s number h output loading (omega (arith, is)) in rw (here_it, none) (or_not (is_marked_done (output_name s output) (recovered_chunk bytes)));
  }
    where
      here_it : number == number ≡ true
      here_it = eq-eqb number number refl

  known_still : (h : History) (m : ℕ) (folder file read : List ℕ) (number : ℕ) (stream name bytes : List ℕ) → m ≡ length h + 1 → IsKnown s h number stream name bytes
      → IsKnown s (Found m folder file read ∷ h) number stream name bytes
  known_still h m folder file read number stream name bytes is known = record {
    below = omega (arith, known.below);
    kept = rw other known.kept;
    content = rw other known.content;
    shut = rw other known.shut;
    resolved = λ output. rw other (known.resolved output);
    recorded = λ output. rw other (known.recorded output);
    begun = λ output. rw other (known.begun output);
  }
    where
      other : m == number ≡ false
      other = ne_eqb m number (λ same. let below = known.below in omega (arith, is, same, below))

  abbrev IsKnownBy : History → Fact → Type 0
  IsKnownBy h (Found number stream name bytes) = IsKnown s h number stream name bytes
  IsKnownBy h fact = Unit {0}

  known_by_still : (h : History) (m : ℕ) (folder file read : List ℕ) (fact : Fact) → m ≡ length h + 1 → IsKnownBy h fact → IsKnownBy (Found m folder file read ∷ h) fact
  known_by_still h m folder file read (Found number stream name bytes) is known = known_still h m folder file read number stream name bytes is known
  known_by_still h m folder file read fact is known = known

  known_by : (h : History) (fact : Fact) → IsLoading h → Contains h fact → IsKnownBy h fact
  known_by [] fact loading has = absurd (omega (arith, has.1))
  known_by (Found m folder file read ∷ h) fact loading has =
      ⊎_elim (λ (same : Found m folder file read ≡ fact). subst (IsKnownBy (Found m folder file read ∷ h)) same (known_now h m folder file read loading.0 loading.1))
      (λ (old : Contains h fact). known_by_still h m folder file read fact loading.0 (known_by h fact loading.1 old)) (either (Found m folder file read) h fact has)
  known_by (other ∷ h) fact loading has = absurd loading

  pub known : (h : History) (number : ℕ) (stream name bytes : List ℕ) → IsLoading h → Contains h (Found number stream name bytes) → IsKnown s h number stream name bytes
  known h number stream name bytes loading has = known_by h (Found number stream name bytes) loading has

-- ---- chunks and files

abbrev pub found_chunk : ℕ → Chunk → ChunkInfo
found_chunk number chunk = record { number = number; input = None; tag = chunk.tag }

abbrev pub found_head : List ℕ → Chunk → ChunkHead
found_head name chunk = record { name = name; meta = chunk.meta; size = length chunk.content; selector = 0; mark = chunk.mark; outputs = chunk.outputs }

-- the file of a chunk's number, and what was recovered from it
pub record IsFileOf (h : History) (number : ℕ) : Type 0 where
  pub stream : List ℕ
  pub name : List ℕ
  pub bytes : List ℕ
  pub among : Contains h (Found number stream name bytes)
  pub chunk : Chunk
  pub found : recovered_chunk bytes ≡ Some chunk

abbrev deeper_file : (h : History) (fact : Fact) (number : ℕ) → IsFileOf h number → IsFileOf (fact ∷ h) number
deeper_file h fact number file = record {
  stream = file.stream;
  name = file.name;
  bytes = file.bytes;
  among = deeper fact h (Found number file.stream file.name file.bytes) file.among;
  chunk = file.chunk;
  found = file.found;
}

-- a recovered chunk is that of its file
pub record IsFoundIn (h : History) (c : ChunkInfo) : Type 0 where
  pub file : IsFileOf h c.number
  pub is : found_chunk c.number file.chunk ≡ c

found_now : (h : History) (number : ℕ) (stream name bytes : List ℕ) (c : ChunkInfo) → Contains (recovered_info number (recovered_chunk bytes)) c → IsFoundIn (Found number stream name bytes ∷ h) c
found_now h number stream name bytes c has = by (recovered_chunk bytes) refl has
  where
    made : (chunk : Chunk) → recovered_chunk bytes ≡ Some chunk → IsFoundIn (Found number stream name bytes ∷ h) (found_chunk number chunk)
    made chunk is = record {
      file = record { stream = stream; name = name; bytes = bytes; among = here (Found number stream name bytes) h; chunk = chunk; found = is };
      is = refl;
    }

    by : (found : Option Chunk) → recovered_chunk bytes ≡ found → Contains (recovered_info number found) c → IsFoundIn (Found number stream name bytes ∷ h) c
    by None is none = absurd (omega (arith, none.1))
    by (Some chunk) is one =
        ⊎_elim (λ (same : found_chunk number chunk ≡ c). subst (IsFoundIn (Found number stream name bytes ∷ h)) same (made chunk is)) (λ (none : Contains [] c). absurd (omega (arith, none.1)))
        (either (found_chunk number chunk) [] c one)

pub chunk_file : (h : History) (c : ChunkInfo) → IsLoading h → Contains (chunks_of h) c → IsFoundIn h c
chunk_file [] c loading has = absurd (omega (arith, has.1))
chunk_file (Found number stream name bytes ∷ h) c loading has =
    ⊎_elim (λ (old : Contains (chunks_of h) c). let before = chunk_file h c loading.1 old in record { file = deeper_file h (Found number stream name bytes) c.number before.file; is = before.is })
    (λ (new : Contains (recovered_info number (recovered_chunk bytes)) c). found_now h number stream name bytes c new) (Contains-append_cases (chunks_of h) (recovered_info number (recovered_chunk bytes)) c has)
chunk_file (fact ∷ h) c loading has = absurd loading

-- and a file with a chunk belongs to a chunk
chunk_of_fact : (h : History) (number : ℕ) (stream name bytes : List ℕ) (chunk : Chunk) → IsLoading h → Contains h (Found number stream name bytes) → recovered_chunk bytes ≡ Some chunk
    → Contains (chunks_of h) (found_chunk number chunk)
chunk_of_fact [] number stream name bytes chunk loading has is = absurd (omega (arith, has.1))
chunk_of_fact (Found other folder file read ∷ h) number stream name bytes chunk loading has is =
    ⊎_elim (λ (same : Found other folder file read ≡ Found number stream name bytes). now same)
    (λ (old : Contains h (Found number stream name bytes)).
    Contains-append_left (chunks_of h) (recovered_info other (recovered_chunk read)) (found_chunk number chunk) (chunk_of_fact h number stream name bytes chunk loading.1 old is))
    (either (Found other folder file read) h (Found number stream name bytes) has)
  where
    now : Found other folder file read ≡ Found number stream name bytes → Contains (chunks_of h ++ recovered_info other (recovered_chunk read)) (found_chunk number chunk)
    now same =
        let numbers : other ≡ number = cc same in
        let reads : read ≡ bytes = cc same in
        let found : recovered_chunk read ≡ Some chunk = ap recovered_chunk reads ∙ is in
        let one : Contains (recovered_info other (Some chunk)) (found_chunk number chunk) = subst (λ (n : ℕ). Contains (recovered_info other (Some chunk)) (found_chunk n chunk)) numbers (here (found_chunk other chunk) []) in
        Contains-append_right (chunks_of h) (recovered_info other (recovered_chunk read)) (found_chunk number chunk) (subst (λ (o : Option Chunk). Contains (recovered_info other o) (found_chunk number chunk)) (sym found) one)
chunk_of_fact (fact ∷ h) number stream name bytes chunk loading has is = absurd loading

pub file_chunk : (h : History) (number : ℕ) (file : IsFileOf h number) → IsLoading h → Contains (chunks_of h) (found_chunk number file.chunk)
file_chunk h number file loading = chunk_of_fact h number file.stream file.name file.bytes file.chunk loading file.among file.found

-- what is kept is kept in the file of its number
pub record IsHeldIn (s : AllSettings) (h : History) (number : ℕ) (kept : Kept) : Type 0 where
  pub file : IsFileOf h number
  pub is : Adopted (found_head (found_name (unwrap_or s.service.path []) file.stream file.name) file.chunk) ≡ kept

module _ (s : AllSettings) where
  held_now : (h : History) (m number : ℕ) (stream name bytes : List ℕ) (kept : Kept) → m ≡ number → adopted (found_name (unwrap_or s.service.path []) stream name) (recovered_chunk bytes) ≡ Some kept
      → IsHeldIn s (Found m stream name bytes ∷ h) number kept
  held_now h m number stream name bytes kept at is = subst (λ (n : ℕ). IsHeldIn s (Found m stream name bytes ∷ h) n kept) at (by (recovered_chunk bytes) refl is)
    where
      by : (found : Option Chunk) → recovered_chunk bytes ≡ found → adopted (found_name (unwrap_or s.service.path []) stream name) found ≡ Some kept → IsHeldIn s (Found m stream name bytes ∷ h) m kept
      by None found none = absurd (cc none)
      by (Some chunk) found some = record {
        file = record { stream = stream; name = name; bytes = bytes; among = here (Found m stream name bytes) h; chunk = chunk; found = found };
        is = cc some;
      }

  pub held_file : (h : History) (number : ℕ) (kept : Kept) → IsLoading h → kept_of s h number ≡ Some kept → IsHeldIn s h number kept
  held_file [] number kept loading is = absurd (cc is)
  held_file (Found m stream name bytes ∷ h) number kept loading is = by (m == number) refl is (held_file h number kept loading.1)
    where
      by : (b : Bool) → m == number ≡ b → cond b (adopted (found_name (unwrap_or s.service.path []) stream name) (recovered_chunk bytes)) (kept_of s h number) ≡ Some kept
          → (kept_of s h number ≡ Some kept → IsHeldIn s h number kept) → IsHeldIn s (Found m stream name bytes ∷ h) number kept
      by true same now more = held_now h m number stream name bytes kept (eqb-true m number same) now
      by false other before more = let held = more before in record { file = deeper_file h (Found m stream name bytes) number held.file; is = held.is }
  held_file (fact ∷ h) number kept loading is = absurd loading
