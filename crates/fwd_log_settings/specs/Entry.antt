-- Entries of the SERVICE sections. Names of sections and keys ignore case.
use Rattle.std.specs.Prelude.{ℕ, List, fold, codes, Option, Some, None, if◌then◌else◌}
use Rattle.std.specs.Str.{str_eq_ignore_ascii_case}
use Rattle.fwd_config.specs.declared.section.Entry.{Entry}
use Rattle.fwd_config.specs.declared.section.Section.{Section}

-- the value of an entry with a key, or the one before
abbrev pub value_of_entry : List ℕ → Option (List ℕ) → Entry → Option (List ℕ)
value_of_entry key before entry = if str_eq_ignore_ascii_case entry.key key then Some entry.value else before

-- the value of the last entry with a key, or the one before
abbrev pub value_in : List ℕ → Option (List ℕ) → List Entry → Option (List ℕ)
value_in key before entries = fold (value_of_entry key) before entries

-- the same of a SERVICE section
abbrev pub value_of_section : List ℕ → Option (List ℕ) → Section → Option (List ℕ)
value_of_section key before section =
    if str_eq_ignore_ascii_case section.name (codes "service") then value_in key before section.entries
    else before

-- the value of the last entry with a key in the SERVICE sections
abbrev pub last_value : List ℕ → List Section → Option (List ℕ)
last_value key sections = fold (value_of_section key) None sections
