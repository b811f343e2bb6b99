-- How folders are listed.
use Rattle.std.proofs.Common.{◌≡◌, ◌≢◌, ℕ, ◌+◌, ◌<◌, Bool, true, false, if◌then◌else◌, List, [], ◌∷◌, ◌++◌, length, get_or, take, drop, append_assoc, Some, None, Result, IsErrAnd, refl, sym, ◌∙◌, ap, subst}
use Rattle.std.proofs.lemmas.List.{append-nil, drop_more, take_more}
use Rattle.fwd_outside.specs.Program.{Return, and_then, with_value}
use Rattle.fwd_outside.specs.Log.{Leads, Completes}
use Rattle.fwd_outside.proofs.Executions.{no_call_made}
use Rattle.fwd_outside.specs.Disk.{DiskLog, ListNames, lists}
use Rattle.fwd_backlog.specs.declared.error.LoadErr.{LoadErr}
use Rattle.fwd_backlog.specs.declared.error.LoadErr.TheVariants.{Memory}
use Rattle.fwd_backlog.specs.declared.listed_file.Listed.{Listed}
use Rattle.fwd_backlog.specs.LoadResult.{StopsWith, LoadReturns}
use Rattle.fwd_backlog.specs.Serial.{is_chunk_name}
use Rattle.fwd_backlog.specs.Listing.{folder_of, chunks_in, list_folders_program, list_files_program}
use Rattle.fwd_backlog.proofs.Calls.{asks_unfailed, goes, stops, rests, given_err}

abbrev file_in : List ℕ → List ℕ → Listed
file_in stream name = record { name = name; stream = stream }

pub one_chunk : (stream name : List ℕ) (files after : List Listed) → is_chunk_name name ≡ true → after ≡ files ++ file_in stream name ∷ [] → after ≡ files ++ chunks_in stream (name ∷ [])
one_chunk stream name files after is grown = rw is grown

pub no_chunk : (stream name : List ℕ) (files : List Listed) → is_chunk_name name ≡ false → files ≡ files ++ chunks_in stream (name ∷ [])
no_chunk stream name files is = rw is (sym (append-nil files))

chunks_more : (stream : List ℕ) (names : List (List ℕ)) (name : List ℕ) → chunks_in stream (names ++ name ∷ []) ≡ chunks_in stream names ++ chunks_in stream (name ∷ [])
chunks_more stream [] name = refl
chunks_more stream (first ∷ names) name = by (is_chunk_name first) (chunks_more stream names name)
  where
    by : (b : Bool) → chunks_in stream (names ++ name ∷ []) ≡ chunks_in stream names ++ chunks_in stream (name ∷ [])
        → (if b then file_in stream first ∷ chunks_in stream (names ++ name ∷ []) else chunks_in stream (names ++ name ∷ []))
        ≡ (if b then file_in stream first ∷ chunks_in stream names else chunks_in stream names) ++ chunks_in stream (name ∷ [])
    by true h = ap (λ (l : List Listed). file_in stream first ∷ l) h
    by false h = h

-- one more name of a folder
pub chunk_added : (stream : List ℕ) (names : List (List ℕ)) (i : ℕ) (name : List ℕ) (files before after : List Listed) → i < length names → name ≡ get_or names i name
    → before ≡ files ++ chunks_in stream (take i names) → after ≡ before ++ chunks_in stream (name ∷ []) → after ≡ files ++ chunks_in stream (take (i + 1) names)
chunk_added stream names i name files before after lt is so_far grown =
    let more : take (i + 1) names ≡ take i names ++ name ∷ [] = take_more names i name lt ∙ ap (λ (n : List ℕ). take i names ++ n ∷ []) (sym is) in
    grown
    ∙ ap (λ (l : List Listed). l ++ chunks_in stream (name ∷ [])) so_far
    ∙ append_assoc files (chunks_in stream (take i names)) (chunks_in stream (name ∷ []))
    ∙ ap (λ (l : List Listed). files ++ l) (sym (chunks_more stream (take i names) name))
    ∙ ap (λ (l : List (List ℕ)). files ++ chunks_in stream l) (sym more)

-- listing folders doesn't begin with a failure
folders_unfailed : (root : List ℕ) (streams : List (List ℕ)) (files : List Listed) → list_folders_program root streams files ≢ Return None
folders_unfailed root [] files = λ same. cc same
folders_unfailed root (stream ∷ streams) files = asks_unfailed (ListNames (folder_of root stream)) (with_value (λ names. list_folders_program root streams (files ++ chunks_in stream names)))

-- the root was listed, or not
pub root_listed : (a b : DiskLog) (root : List ℕ) (streams items : List (List ℕ)) (files : List Listed) → items ≡ streams → files ≡ [] → Completes a b (lists root) (Some streams)
    → Leads a b (list_files_program root) (list_folders_program root (drop 0 items) files)
root_listed a b root streams items files is none did =
    let begun = goes a a b (list_files_program root) (lists root) (λ streams. list_folders_program root streams []) (no_call_made a (list_files_program root)) streams did in
    subst (λ (s : List (List ℕ)). Leads a b (list_files_program root) (list_folders_program root s files)) (sym is)
    (subst (λ (f : List Listed). Leads a b (list_files_program root) (list_folders_program root streams f)) (sym none) begun)

pub root_stopped : (a b : DiskLog) (root : List ℕ) (e : LoadErr) (r : Result (List Listed) LoadErr) → IsErrAnd r (λ x. x ≡ e) → StopsWith a b (lists root) e → LoadReturns a b (list_files_program root) r
root_stopped a b root e r is stopped =
    given_err a b (list_files_program root) e r is (stops a a b (list_files_program root) (lists root) (λ streams. list_folders_program root streams []) (no_call_made a (list_files_program root)) (λ streams. folders_unfailed root streams []) e stopped)

-- one more folder
module _ (a b c : DiskLog) (root : List ℕ) (streams : List (List ℕ)) (i : ℕ) (stream : List ℕ) (files : List Listed) (lt : i < length streams) (is : stream ≡ get_or streams i stream)
    (before : Leads a b (list_files_program root) (list_folders_program root (drop i streams) files)) where
  here : drop i streams ≡ stream ∷ drop (i + 1) streams
  here = drop_more streams i stream lt ∙ ap (λ (s : List ℕ). s ∷ drop (i + 1) streams) (sym is)

  at_folder : Leads a b (list_files_program root) (and_then (lists (folder_of root stream)) (λ names. list_folders_program root (drop (i + 1) streams) (files ++ chunks_in stream names)))
  at_folder = subst (λ (s : List (List ℕ)). Leads a b (list_files_program root) (list_folders_program root s files)) here before

  past_folder : (names : List (List ℕ)) → Completes b c (lists (folder_of root stream)) (Some names) → Leads a c (list_files_program root) (list_folders_program root (drop (i + 1) streams) (files ++ chunks_in stream names))
  past_folder names did = goes a b c (list_files_program root) (lists (folder_of root stream)) (λ names. list_folders_program root (drop (i + 1) streams) (files ++ chunks_in stream names)) at_folder names did

  pub folder_listed : (names : List (List ℕ)) (after : List Listed) → Completes b c (lists (folder_of root stream)) (Some names) → after ≡ files ++ chunks_in stream names
      → Leads a c (list_files_program root) (list_folders_program root (drop (i + 1) streams) after)
  folder_listed names after did grown = subst (λ (l : List Listed). Leads a c (list_files_program root) (list_folders_program root (drop (i + 1) streams) l)) (sym grown) (past_folder names did)

  pub folder_stopped : (e : LoadErr) (r : Result (List Listed) LoadErr) → IsErrAnd r (λ x. x ≡ e) → StopsWith b c (lists (folder_of root stream)) e → LoadReturns a c (list_files_program root) r
  folder_stopped e r is_err stopped =
      given_err a c (list_files_program root) e r is_err
      (stops a b c (list_files_program root) (lists (folder_of root stream)) (λ names. list_folders_program root (drop (i + 1) streams) (files ++ chunks_in stream names)) at_folder
      (λ names. folders_unfailed root (drop (i + 1) streams) (files ++ chunks_in stream names)) e stopped)

  pub folder_unkept : (names : List (List ℕ)) (r : Result (List Listed) LoadErr) → IsErrAnd r (λ x. x ≡ Memory) → Completes b c (lists (folder_of root stream)) (Some names) → LoadReturns a c (list_files_program root) r
  folder_unkept names r is_err did =
      let left = list_folders_program root (drop (i + 1) streams) (files ++ chunks_in stream names) in
      given_err a c (list_files_program root) Memory r is_err (rests a c (list_files_program root) left (past_folder names did) (folders_unfailed root (drop (i + 1) streams) (files ++ chunks_in stream names)))
