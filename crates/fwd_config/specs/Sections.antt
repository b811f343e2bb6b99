-- How the text of a configuration is read, file by file, and what the sections of a configuration are.
use Rattle.std.specs.Prelude.{ℕ, zero, suc, ◌+◌, if◌then◌else◌, List, [], ◌∷◌, ◌++◌, Option, Some, None, Result, Ok, Err, codes}
use Rattle.std.specs.List.{flat_map}
use Rattle.std.specs.Str.{is_utf8, str_eq_ignore_ascii_case}
use Rattle.fwd_outside.specs.Program.{Program, Return, Ask, bind}
use Rattle.fwd_outside.specs.Files.{FilesProgram, read_whole_program}
use Rattle.fwd_config.specs.Line.{form_of, lines_of}
use Rattle.fwd_config.specs.Variables.{Values}
use Rattle.fwd_config.specs.Text.{Text, sections_of, place}
use Rattle.fwd_config.specs.Meaning.{Meaning, Adds, Includes, Refused, meaning, relative_path}
use Rattle.fwd_config.specs.declared.section.Place.{Place}
use Rattle.fwd_config.specs.declared.section.Entry.{Entry}
use Rattle.fwd_config.specs.declared.section.Section.{Section}
use Rattle.fwd_config.specs.declared.fault.ConfigFault.{ConfigFault}
use Rattle.fwd_config.specs.declared.fault.ConfigKind.{ConfigKind}
use Rattle.fwd_config.specs.declared.fault.ConfigKind.TheVariants.{NotUtf8, FileFault}

-- a program that asks for files by their paths; the answer is `None` if a file can't be read
abbrev pub Reading : Type 0 → Type 0
Reading R = Program (List ℕ) (λ _. Option (List ℕ)) R

-- the text so far, or the error
abbrev pub TextResult : Type 0
TextResult = Result Text ConfigFault

abbrev pub fault : ConfigKind → Place → ConfigFault
fault kind place = record { kind = kind; place = place }

-- goes on with the text, if there is no error
abbrev pub with_text : {T : Type 0} → (Text → Reading (Result T ConfigFault)) → TextResult
    → Reading (Result T ConfigFault)
with_text next (Ok text) = next text
with_text next (Err fault) = Return (Err fault)

abbrev pub then_text : {T : Type 0} → Reading TextResult → (Text → Reading (Result T ConfigFault))
    → Reading (Result T ConfigFault)
then_text reading next = bind reading (with_text next)

-- the text with a line appended; `included` gives the text with an included file appended
abbrev pub with_line : (List ℕ → Text → Reading TextResult) → Place → Text → Meaning → Reading TextResult
with_line included at above (Adds added) = Return (Ok (above ++ added))
with_line included at above (Includes path) = included path above
with_line included at above (Refused kind) = Return (Err (fault kind at))

-- the text with these lines of a file appended, the first of which has this number
abbrev pub with_lines : Values → ℕ → (List ℕ → Text → Reading TextResult) → List ℕ → ℕ → List (List ℕ) → Text
    → Reading TextResult
with_lines env left included file number [] above = Return (Ok above)
with_lines env left included file number (line ∷ more) above =
    then_text
    (with_line included (place file number) above
    (meaning env left (place file number) above (form_of line)))
    (with_lines env left included file (number + 1) more)

-- the bytes of a file, if it can be read and is UTF-8
abbrev pub text_of : List ℕ → Option (List ℕ) → Result (List ℕ) ConfigFault
text_of file None = Err (fault FileFault (place file 0))
text_of file (Some bytes) = if is_utf8 bytes then Ok bytes else Err (fault NotUtf8 (place file 0))

-- the text with the lines of these bytes appended
abbrev pub with_content : Values → ℕ → (List ℕ → Text → Reading TextResult) → List ℕ → Text
    → Result (List ℕ) ConfigFault → Reading TextResult
with_content env left included file above (Ok bytes) =
    with_lines env left included file 1 (lines_of bytes) above
with_content env left included file above (Err fault) = Return (Err fault)

-- the text with the lines of a file appended, if this many files may be open; if none may, no file is asked
-- for
unfoldable pub with_file : Values → ℕ → List ℕ → Text → Reading TextResult
with_file env zero file above = Return (Ok above)
with_file env (suc left) file above =
    Ask file (λ content. with_content env left (with_file env left) file above (text_of file content))

-- the text with the lines of files appended, in order
abbrev pub with_files : Values → ℕ → List (List ℕ) → Text → Reading TextResult
with_files env may_open [] above = Return (Ok above)
with_files env may_open (file ∷ files) above =
    then_text (with_file env may_open file above) (with_files env may_open files)

-- the files that the SERVICE sections name by `Parsers_File`, in their order
abbrev pub files_of_entry : Entry → List (List ℕ)
files_of_entry entry =
    if str_eq_ignore_ascii_case entry.key (codes "parsers_file")
    then relative_path entry.place.file entry.value ∷ [] else []

abbrev pub files_of_section : Section → List (List ℕ)
files_of_section section =
    if str_eq_ignore_ascii_case section.name (codes "service") then flat_map files_of_entry section.entries
    else []

abbrev pub parser_files : List Section → List (List ℕ)
parser_files sections = flat_map files_of_section sections

abbrev pub return_sections : Text → Reading (Result (List Section) ConfigFault)
return_sections text = Return (Ok (sections_of text))

-- The parser files that the main file's text names come after it. An entry before the first section of a
-- parser file belongs to the last section so far, and the variables so far hold.
abbrev pub with_parser_files : Values → Text → Reading (Result (List Section) ConfigFault)
with_parser_files env text =
    then_text (with_files env 8 (parser_files (sections_of text)) text) return_sections

-- The sections of the configuration with this main file, or the first error. The main file and eight nested
-- includes may be open, and a parser file counts as an include of the main file.
abbrev pub load_program : Values → List ℕ → Reading (Result (List Section) ConfigFault)
load_program env path = then_text (with_file env 9 path []) (with_parser_files env)

-- each file is read whole when it is asked for
abbrev pub reads_files : {R : Type 0} → Reading R → FilesProgram R
reads_files (Return x) = Return x
reads_files (Ask path go) = bind (read_whole_program path) (λ content. reads_files (go content))

-- what a reading gives over files that don't change
abbrev pub given : {R : Type 0} → (List ℕ → Option (List ℕ)) → Reading R → R
given files (Return x) = x
given files (Ask path go) = given files (go (files path))

-- the sections of a configuration: a function of the files' bytes, the path of the main file and the
-- environment
abbrev pub sections : (List ℕ → Option (List ℕ)) → List ℕ → Values → Result (List Section) ConfigFault
sections files path env = given files (load_program env path)
