-- The reading of a configuration, step by step.
use Rattle.std.proofs.Common.{◌≡◌, ◌⊎◌, inl, inr, ℕ, zero, suc, ◌+◌, ◌-◌, ◌<◌, length, drop, get_or, Bool, if◌then◌else◌, List, ◌∷◌, ◌++◌, Option, Some, None, Result, Ok, Err, refl, sym, ap, subst, ◌∙◌, arith}
use mathlib.Core.Path.{fun_ext}
use Rattle.std.proofs.Math.Seq.{drop-cons}
use Rattle.std.specs.Str.{is_utf8}
use Rattle.fwd_outside.specs.Program.{Program, Return, Ask, bind}
use Rattle.fwd_outside.specs.Log.{Leads, Completes, IsBegunUnfailed, RunsProgram}
use Rattle.fwd_outside.proofs.Executions.{leads_inside, leads_trans, began_inside, makes_after}
use Rattle.fwd_outside.specs.Files.{FilesLog, FilesProgram, read_whole_program}
use Rattle.fwd_config.specs.Line.{form_of, lines_of}
use Rattle.fwd_config.specs.Variables.{Values}
use Rattle.fwd_config.specs.Text.{Text, place}
use Rattle.fwd_config.specs.Meaning.{Meaning, Adds, Includes, Refused, meaning}
use Rattle.fwd_config.specs.Sections.{Reading, TextResult, fault, with_files, with_text, then_text, with_line, with_lines, text_of, with_content, with_file, reads_files}
use Rattle.fwd_config.specs.LoadResult.{unless_kind, outcome}
use Rattle.fwd_config.specs.declared.section.Place.{Place}
use Rattle.fwd_config.specs.declared.fault.ConfigFault.{ConfigFault}
use Rattle.fwd_config.specs.declared.fault.ConfigKind.{ConfigKind}
use Rattle.fwd_config.specs.declared.fault.ConfigKind.TheVariants.{NotUtf8, FileFault, Memory}

bind_assoc : {C : Type 0} {A : C → Type 0} {R S T : Type 0} (p : Program C A R) (f : R → Program C A S) (g : S → Program C A T) → bind (bind p f) g ≡ bind p (λ x. bind (f x) g)
bind_assoc (Return x) f g = refl
bind_assoc {C = C} {A = A} {T = T} (Ask call go) f g = ap (λ (h : A call → Program C A T). Ask call h) (fun_ext (λ answer. bind_assoc (go answer) f g))

-- files are read in the order in which a reading asks for them
pub reads_bind : {R S : Type 0} (p : Reading R) (next : R → Reading S) → reads_files (bind p next) ≡ bind (reads_files p) (λ x. reads_files (next x))
reads_bind (Return x) next = refl
reads_bind {R = R} {S = S} (Ask path go) next =
    ap (λ (h : Option (List ℕ) → FilesProgram S). bind (read_whole_program path) h) (fun_ext (λ content. reads_bind (go content) next))
    ∙ sym (bind_assoc (read_whole_program path) (λ content. reads_files (go content)) (λ x. reads_files (next x)))

-- ---- errors

unless : {a b : FilesLog} {R : Type 0} (p : FilesProgram R) (kind : ConfigKind) (r : R) → Completes a b p r → RunsProgram a b p (unless_kind kind r)
unless p Memory r did = (Return r, did)
unless p _ r did = did

-- the program came to this error, and the call returns it, or out of memory
pub refused : {T : Type 0} (a b : FilesLog) (p : FilesProgram (Result T ConfigFault)) (kind : ConfigKind) (at : Place) (answered : ConfigFault)
    → (answered.kind ≡ Memory) ⊎ (answered ≡ fault kind at) → Completes a b p (Err (fault kind at)) → RunsProgram a b p (outcome {T = T} (Err answered))
refused {T = T} a b p kind at answered (inl m) did = subst (λ (k : ConfigKind). RunsProgram a b p (unless_kind {T = Result T ConfigFault} k (Err answered))) (sym m) (Return (Err (fault kind at)), did)
refused {T = T} a b p kind at answered (inr e) did = subst (λ (x : ConfigFault). RunsProgram a b p (outcome {T = T} (Err x))) (sym e) (unless p kind (Err (fault kind at)) did)

-- out of memory, before the program came to its end
pub out_of_memory_inside : {T : Type 0} (a b : FilesLog) (p q : FilesProgram (Result T ConfigFault)) (answered : ConfigFault) → answered.kind ≡ Memory → Leads a b p q → RunsProgram a b p (outcome {T = T} (Err answered))
out_of_memory_inside {T = T} a b p q answered is leads = subst (λ (k : ConfigKind). RunsProgram a b p (unless_kind {T = Result T ConfigFault} k (Err answered))) (sym is) (q, leads)

inside_by : {X Y : Type 0} (a b : FilesLog) (p : FilesProgram X) (next : X → FilesProgram Y) (kind : ConfigKind) (x : X) (y : Y) → next x ≡ Return y → RunsProgram a b p (unless_kind kind x) → RunsProgram a b (bind p next) (unless_kind kind y)
inside_by a b p next Memory x y ends makes = began_inside next makes
inside_by {Y = Y} a b p next _ x y ends makes = subst (λ (q : FilesProgram Y). Leads a b (bind p next) q) ends (leads_inside next makes)

-- an error of a part is an error of the whole
pub refused_inside : {T U : Type 0} (a b : FilesLog) (p : FilesProgram (Result T ConfigFault)) (next : Result T ConfigFault → FilesProgram (Result U ConfigFault)) (answered : ConfigFault)
    → next (Err answered) ≡ Return (Err answered) → RunsProgram a b p (outcome {T = T} (Err answered)) → RunsProgram a b (bind p next) (outcome {T = U} (Err answered))
refused_inside a b p next answered is makes = inside_by a b p next answered.kind (Err answered) (Err answered) is makes

-- ---- the text of a file

abbrev pub text_reads : List ℕ → FilesProgram (Result (List ℕ) ConfigFault)
text_reads file = bind (read_whole_program file) (λ content. Return (text_of file content))

abbrev answers_text : List ℕ → Option (List ℕ) → FilesProgram (Result (List ℕ) ConfigFault)
answers_text file content = Return (text_of file content)

utf8_text : (file bytes : List ℕ) (b : Bool) → is_utf8 bytes ≡ b → text_of file (Some bytes) ≡ (if b then Ok bytes else Err (fault NotUtf8 (place file 0)))
utf8_text file bytes b is = rw is refl

module _ (a b : FilesLog) (file : List ℕ) where
  pub reads_some : (bytes : List ℕ) (test : Bool) → Completes a b (read_whole_program file) (Some bytes) → is_utf8 bytes ≡ test
      → Completes a b (text_reads file) (if test then Ok bytes else Err (fault NotUtf8 (place file 0)))
  reads_some bytes test did is =
      subst (λ (r : Result (List ℕ) ConfigFault). Leads a b (text_reads file) (Return r)) (utf8_text file bytes test is) (leads_inside (answers_text file) did)

  pub reads_none : Completes a b (read_whole_program file) None → Completes a b (text_reads file) (Err (fault FileFault (place file 0)))
  reads_none did = leads_inside (answers_text file) did

  pub reads_nothing : (answered : ConfigFault) → answered.kind ≡ Memory → IsBegunUnfailed a b (read_whole_program file) → RunsProgram a b (text_reads file) (outcome {T = List ℕ} (Err answered))
  reads_nothing answered is began = out_of_memory_inside a b (text_reads file) (bind began.0 (answers_text file)) answered is (leads_inside (answers_text file) began.1)

-- ---- a reading, and then what is read after its text

module _ {T : Type 0} (reading : Reading TextResult) (next : Text → Reading (Result T ConfigFault)) where
  abbrev goes : TextResult → FilesProgram (Result T ConfigFault)
  goes verdict = reads_files (with_text next verdict)

  pub then_did : (b c : FilesLog) (text : Text) → Completes b c (reads_files reading) (Ok text) → Leads b c (reads_files (then_text reading next)) (reads_files (next text))
  then_did b c text did = subst (λ (q : FilesProgram (Result T ConfigFault)). Leads b c q (goes (Ok text))) (sym (reads_bind reading (with_text next))) (leads_inside goes did)

  pub then_refused : (b c : FilesLog) (answered : ConfigFault) → RunsProgram b c (reads_files reading) (outcome {T = Text} (Err answered)) → RunsProgram b c (reads_files (then_text reading next)) (outcome {T = T} (Err answered))
  then_refused b c answered makes =
      subst (λ (q : FilesProgram (Result T ConfigFault)). RunsProgram b c q (outcome {T = T} (Err answered))) (sym (reads_bind reading (with_text next))) (refused_inside b c (reads_files reading) goes answered refl makes)

  -- if `before` leads to it
  module _ (a b c : FilesLog) (p : FilesProgram (Result T ConfigFault)) (before : Leads a b p (reads_files (then_text reading next))) where
    pub goes_after : (text : Text) → Completes b c (reads_files reading) (Ok text) → Leads a c p (reads_files (next text))
    goes_after text did = leads_trans before (then_did b c text did)

    pub refused_after : (answered : ConfigFault) → RunsProgram b c (reads_files reading) (outcome {T = Text} (Err answered)) → RunsProgram a c p (outcome {T = T} (Err answered))
    refused_after answered makes = makes_after a b c p (reads_files (then_text reading next)) (outcome {T = T} (Err answered)) before (then_refused b c answered makes)

-- ---- the lines of a file

-- a file that may be opened is read, and then its lines are
opened : (env : Values) (n : ℕ) (file : List ℕ) (above : Text) → 0 < n
    → reads_files (with_file env n file above) ≡ bind (text_reads file) (λ content. reads_files (with_content env (n - 1) (with_file env (n - 1)) file above content))
unfolding with_file
opened env zero file above some = absurd (omega arith)
opened env (suc n) file above some =
    let less : suc n - 1 ≡ n = omega arith in
    rw less (sym (bind_assoc (read_whole_program file) (answers_text file) (λ content. reads_files (with_content env n (with_file env n) file above content))))

module _ (a b : FilesLog) (env : Values) (n : ℕ) (some : 0 < n) (file : List ℕ) (above : Text) where
  abbrev then_lines : Result (List ℕ) ConfigFault → FilesProgram TextResult
  then_lines content = reads_files (with_content env (n - 1) (with_file env (n - 1)) file above content)

  pub content_refused : (answered : ConfigFault) → RunsProgram a b (text_reads file) (outcome {T = List ℕ} (Err answered)) → RunsProgram a b (reads_files (with_file env n file above)) (outcome {T = Text} (Err answered))
  content_refused answered makes =
      subst (λ (p : FilesProgram TextResult). RunsProgram a b p (outcome {T = Text} (Err answered))) (sym (opened env n file above some)) (refused_inside a b (text_reads file) then_lines answered refl makes)

  pub content_read : (bytes : List ℕ) → Completes a b (text_reads file) (Ok bytes)
      → Leads a b (reads_files (with_file env n file above)) (reads_files (with_lines env (n - 1) (with_file env (n - 1)) file 1 (lines_of bytes) above))
  content_read bytes did =
      subst (λ (p : FilesProgram TextResult). Leads a b p (then_lines (Ok bytes))) (sym (opened env n file above some)) (leads_inside then_lines did)

-- One line of a file. `before` leads to it.
module _ (a b : FilesLog) (p : FilesProgram TextResult) (env : Values) (left : ℕ) (included : List ℕ → Text → Reading TextResult) (file : List ℕ) (number : ℕ) (line : List ℕ) (more : List (List ℕ)) (text : Text)
    (before : Leads a b p (reads_files (with_lines env left included file number (line ∷ more) text))) where
  abbrev then_more : Text → Reading TextResult
  then_more = with_lines env left included file (number + 1) more

  abbrev means : Meaning
  means = meaning env left (place file number) text (form_of line)

  by_meaning : (m : Meaning) → means ≡ m → Leads a b p (reads_files (then_text (with_line included (place file number) text m) then_more))
  by_meaning m is = subst (λ (m : Meaning). Leads a b p (reads_files (then_text (with_line included (place file number) text m) then_more))) is before

  pub line_adds : (added : Text) → means ≡ Adds added → Leads a b p (reads_files (then_more (text ++ added)))
  line_adds added is = by_meaning (Adds added) is

  pub line_includes : (c : FilesLog) (path : List ℕ) (behind : Text) → means ≡ Includes path → Completes b c (reads_files (included path text)) (Ok behind) → Leads a c p (reads_files (then_more behind))
  line_includes c path behind is did = goes_after (included path text) then_more a b c p (by_meaning (Includes path) is) behind did

  pub include_refused : (c : FilesLog) (path : List ℕ) (answered : ConfigFault) → means ≡ Includes path → RunsProgram b c (reads_files (included path text)) (outcome {T = Text} (Err answered)) → RunsProgram a c p (outcome {T = Text} (Err answered))
  include_refused c path answered is makes = refused_after (included path text) then_more a b c p (by_meaning (Includes path) is) answered makes

  pub line_refused : (kind : ConfigKind) (answered : ConfigFault) → (kind ≡ Memory) ⊎ (means ≡ Refused kind) → (answered.kind ≡ Memory) ⊎ (answered ≡ fault kind (place file number)) → RunsProgram a b p (outcome {T = Text} (Err answered))
  line_refused kind answered (inr is) shown = refused a b p kind (place file number) answered shown (by_meaning (Refused kind) is)
  line_refused kind answered (inl memory) (inl wants) = out_of_memory_inside a b p _ answered wants before
  line_refused kind answered (inl memory) (inr is) = out_of_memory_inside a b p _ answered (ap (λ (f : ConfigFault). f.kind) is ∙ memory) before

-- ---- files in order

module _ (a b : FilesLog) (p : FilesProgram TextResult) (env : Values) (may_open : ℕ) (names : List (List ℕ)) (at : ℕ) (name : List ℕ) (here : at < length names) (is : name ≡ get_or names at name) (text : Text)
    (before : Leads a b p (reads_files (with_files env may_open (drop at names) text))) where
  with_name : Leads a b p (reads_files (then_text (with_file env may_open name text) (with_files env may_open (drop (at + 1) names))))
  with_name =
      let next : suc at ≡ at + 1 = omega arith in
      let first : drop at names ≡ name ∷ drop (at + 1) names = drop-cons names at name here ∙ ap (λ (n : ℕ). get_or names at name ∷ drop n names) next ∙ ap (λ (l : List ℕ). l ∷ drop (at + 1) names) (sym is) in
      subst (λ (l : List (List ℕ)). Leads a b p (reads_files (with_files env may_open l text))) first before

  pub name_reads : (c : FilesLog) (behind : Text) → Completes b c (reads_files (with_file env may_open name text)) (Ok behind) → Leads a c p (reads_files (with_files env may_open (drop (at + 1) names) behind))
  name_reads c behind did = goes_after (with_file env may_open name text) (with_files env may_open (drop (at + 1) names)) a b c p with_name behind did

  pub name_refused : (c : FilesLog) (answered : ConfigFault) → RunsProgram b c (reads_files (with_file env may_open name text)) (outcome {T = Text} (Err answered)) → RunsProgram a c p (outcome {T = Text} (Err answered))
  name_refused c answered makes = refused_after (with_file env may_open name text) (with_files env may_open (drop (at + 1) names)) a b c p with_name answered makes
