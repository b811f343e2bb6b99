-- Over files that don't change, a reading gives what it gives for their bytes.
use Rattle.std.proofs.Common.{◌≡◌, ◌⊎◌, inl, inr, ℕ, zero, suc, ◌+◌, List, [], ◌∷◌, ◌++◌, Option, Some, None, Result, Ok, Err, refl, sym, ap, subst, ◌∙◌}
use Rattle.std.proofs.lemmas.List.{append_cancel_left}
use Rattle.fwd_outside.specs.Program.{Return, Ask, bind, Execution}
use Rattle.fwd_outside.specs.Log.{LogGrew, Completes, RunsProgram}
use Rattle.fwd_outside.specs.Files.{FilesLog, FilesGiven, FilesEntry, FilesProgram, IsConsistentLog, found, files_after, files_after_all, read_whole_program}
use Rattle.fwd_outside.proofs.ConsistentFiles.{whole_read_is_content}
use Rattle.fwd_config.specs.Variables.{Values}
use Rattle.fwd_config.specs.Line.{form_of, lines_of}
use Rattle.fwd_config.specs.Text.{Text, place, sections_of}
use Rattle.fwd_config.specs.Meaning.{Meaning, Adds, Includes, Refused, meaning}
use Rattle.fwd_config.specs.Sections.{Reading, TextResult, fault, then_text, with_line, with_lines, text_of, with_content, with_file, with_files, parser_files, with_parser_files, return_sections, load_program, reads_files, given, sections}
use Rattle.fwd_config.specs.LoadResult.{unless_kind, outcome, IsFileFault, IsResultOfFiles}
use Rattle.fwd_config.specs.declared.section.Section.{Section}
use Rattle.fwd_config.specs.declared.fault.ConfigFault.{ConfigFault}
use Rattle.fwd_config.specs.declared.fault.ConfigKind.{ConfigKind}
use Rattle.fwd_config.specs.declared.fault.ConfigKind.TheVariants.{FileFault, Memory}

-- ---- a reading ends if a file can't be read

abbrev pub Ends : {T : Type 0} → Reading (Result T ConfigFault) → Type 0
Ends (Return x) = Unit {0}
Ends (Ask path go) = ((f : ConfigFault) × (f.kind ≡ FileFault) × (go None ≡ Return (Err f))) × ((bytes : List ℕ) → Ends (go (Some bytes)))

ends_then : {T : Type 0} (p : Reading TextResult) (next : Text → Reading (Result T ConfigFault)) → Ends p → ((text : Text) → Ends (next text)) → Ends (then_text p next)
ends_then (Return (Ok text)) next here behind = behind text
ends_then (Return (Err f)) next here behind = tt
ends_then (Ask path go) next here behind =
    ((here.0.0, here.0.1, ap (λ (q : Reading TextResult). then_text q next) here.0.2), λ bytes. ends_then (go (Some bytes)) next (here.1 bytes) behind)

module _ (env : Values) (left : ℕ) (included : List ℕ → Text → Reading TextResult) (ends : (path : List ℕ) (above : Text) → Ends (included path above)) (file : List ℕ) where
  ends_line : (number : ℕ) (above : Text) (m : Meaning) → Ends (with_line included (place file number) above m)
  ends_line number above (Adds added) = tt
  ends_line number above (Includes path) = ends path above
  ends_line number above (Refused kind) = tt

  ends_lines : (number : ℕ) (some : List (List ℕ)) (above : Text) → Ends (with_lines env left included file number some above)
  ends_lines number [] above = tt
  ends_lines number (line ∷ more) above =
      ends_then (with_line included (place file number) above (meaning env left (place file number) above (form_of line))) (with_lines env left included file (number + 1) more)
      (ends_line number above (meaning env left (place file number) above (form_of line))) (ends_lines (number + 1) more)

  ends_content : (above : Text) (content : Result (List ℕ) ConfigFault) → Ends (with_content env left included file above content)
  ends_content above (Ok bytes) = ends_lines 1 (lines_of bytes) above
  ends_content above (Err f) = tt

ends_file : (env : Values) (may_open : ℕ) (file : List ℕ) (above : Text) → Ends (with_file env may_open file above)
unfolding with_file
ends_file env zero file above = tt
ends_file env (suc left) file above =
    ((fault FileFault (place file 0), refl, refl), λ bytes. ends_content env left (with_file env left) (ends_file env left) file above (text_of file (Some bytes)))

ends_files : (env : Values) (may_open : ℕ) (files : List (List ℕ)) (above : Text) → Ends (with_files env may_open files above)
ends_files env may_open [] above = tt
ends_files env may_open (file ∷ files) above = ends_then (with_file env may_open file above) (with_files env may_open files) (ends_file env may_open file above) (ends_files env may_open files)

pub ends_loads : (env : Values) (path : List ℕ) → Ends (load_program env path)
ends_loads env path =
    ends_then (with_file env 9 path []) (with_parser_files env) (ends_file env 9 path [])
    (λ text. ends_then (with_files env 8 (parser_files (sections_of text)) text) return_sections (ends_files env 8 (parser_files (sections_of text)) text) (λ _. tt))

-- ---- a run of two programs in order

abbrev pub Parted : {X Y : Type 0} → FilesProgram X → (X → FilesProgram Y) → List FilesEntry → Y → Type 0
Parted {X = X} p next es r = (first second : List FilesEntry) × (x : X) × (es ≡ first ++ second) × Execution p first (Return x) × Execution (next x) second (Return r)

pub way_parts : {X Y : Type 0} (p : FilesProgram X) (next : X → FilesProgram Y) (es : List FilesEntry) (r : Y) → Execution (bind p next) es (Return r) → Parted p next es r
way_parts (Return x) next es r way = ([], es, x, refl, refl, way)
way_parts (Ask call go) next [] r way = absurd (cc way)
way_parts (Ask call go) next (e ∷ es) r way =
    let rest = way_parts (go way.0) next es r way.2 in
    (e ∷ rest.0, rest.1, rest.2, ap (λ (l : List FilesEntry). e ∷ l) rest.3, (way.0, way.1, rest.4), rest.5)

pub honest_parts : (files : FilesGiven) (first second : List FilesEntry) → IsConsistentLog files (first ++ second) → IsConsistentLog files first × IsConsistentLog (files_after_all files first) second
honest_parts files [] second honest = (tt, honest)
honest_parts files (e ∷ first) second honest =
    let rest = honest_parts (files_after files e.call) first second honest.1 in ((honest.0, rest.0), rest.1)

pub ended : {X : Type 0} {x y : X} (es : List FilesEntry) → Execution (Return x) es (Return y) → y ≡ x
ended [] way = cc way
ended (e ∷ es) way = absurd way

same_result : {F X : Type 0} {r x y : X} → F ⊎ (r ≡ x) → x ≡ y → F ⊎ (r ≡ y)
same_result (inl f) e = inl f
same_result (inr is) e = inr (is ∙ e)

-- ---- over files that answer with the bytes that they hold

module _ {T : Type 0} (files : FilesGiven) where
  abbrev GivesSame : Reading (Result T ConfigFault) → Type 0
  GivesSame p = (es : List FilesEntry) (r : Result T ConfigFault) → IsConsistentLog files es → Execution (reads_files p) es (Return r) → IsFileFault r ⊎ (r ≡ given (found files) p)

  after_read : (path : List ℕ) (go : Option (List ℕ) → Reading (Result T ConfigFault)) → Ends (Ask path go) → ((bytes : List ℕ) → GivesSame (go (Some bytes)))
      → (first second : List FilesEntry) (content : Option (List ℕ)) (r : Result T ConfigFault) → IsConsistentLog files first → IsConsistentLog (files_after_all files first) second
      → Execution (read_whole_program path) first (Return content) → Execution (reads_files (go content)) second (Return r) → IsFileFault r ⊎ (r ≡ given (found files) (Ask path go))
  after_read path go ends gives_same first second None r honest honest2 way way2 =
      let is : r ≡ Err ends.0.0 = ended second (subst (λ (q : Reading (Result T ConfigFault)). Execution (reads_files q) second (Return r)) ends.0.2 way2) in
      inl (subst (λ (x : Result T ConfigFault). IsFileFault x) (sym is) ends.0.1)
  after_read path go ends gives_same first second (Some bytes) r honest honest2 way way2 =
      let read = whole_read_is_content files path bytes first honest way in
      let same = subst (λ (f : FilesGiven). IsConsistentLog f second) read.1 honest2 in
      same_result (gives_same bytes second r same way2) (ap (λ (content : Option (List ℕ)). given (found files) (go content)) (sym read.0))

  gives_same : (p : Reading (Result T ConfigFault)) → Ends p → GivesSame p
  gives_same (Return x) ends es r honest way = inr (ended es way)
  gives_same (Ask path go) ends es r honest way =
      let parts = way_parts (read_whole_program path) (λ content. reads_files (go content)) es r way in
      let both = honest_parts files parts.0 parts.1 (subst (λ (l : List FilesEntry). IsConsistentLog files l) parts.3 honest) in
      after_read path go ends (λ bytes. gives_same (go (Some bytes)) (ends.1 bytes)) parts.0 parts.1 parts.2 r both.0 both.1 parts.4 parts.5

pub log_growth : (old new : FilesLog) (standing : FilesGiven) (before made entries : List FilesEntry) → old ≡ Some (standing, before) → new ≡ Some (standing, before ++ made) → LogGrew old new entries → made ≡ entries
log_growth old new standing before made entries was is grew =
    let grown = subst (λ (n : FilesLog). LogGrew (Some (standing, before)) n entries) is (subst (λ (o : FilesLog). LogGrew o new entries) was grew) in
    append_cancel_left before made entries grown.1

module _ (old new : FilesLog) (path : List ℕ) (env : Values) (result : Result (List Section) ConfigFault) where
  did_files : Completes old new (reads_files (load_program env path)) result → (standing : FilesGiven) (before made : List FilesEntry) → old ≡ Some (standing, before) → new ≡ Some (standing, before ++ made)
      → IsConsistentLog (files_after_all standing before) made → IsFileFault result ⊎ (result ≡ sections (found (files_after_all standing before)) path env)
  did_files did standing before made was is honest =
      let made_is = log_growth old new standing before made did.entries was is did.grew in
      gives_same (files_after_all standing before) (load_program env path) (ends_loads env path) did.entries result (subst (λ (l : List FilesEntry). IsConsistentLog (files_after_all standing before) l) made_is honest) did.way

pub result_of_files : (old new : FilesLog) (path : List ℕ) (env : Values) (result : Result (List Section) ConfigFault) → RunsProgram old new (reads_files (load_program env path)) (outcome result) → IsResultOfFiles old new path env result
result_of_files old new path env (Ok x) makes standing before made was is honest = inr (did_files old new path env (Ok x) makes standing before made was is honest)
result_of_files old new path env (Err f) makes standing before made was is honest = by_kind f.kind refl makes
  where
    by_kind : (kind : ConfigKind) → f.kind ≡ kind → RunsProgram old new (reads_files (load_program env path)) (unless_kind {T = Result (List Section) ConfigFault} kind (Err f))
        → (f.kind ≡ Memory) ⊎ (IsFileFault {T = List Section} (Err f) ⊎ (Err f ≡ sections (found (files_after_all standing before)) path env))
    by_kind Memory e m = inl e
    by_kind _ e m = inr (did_files old new path env (Err f) m standing before made was is honest)
