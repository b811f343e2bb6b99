-- The text of a configuration: its lines in order, with each included file's lines in place of the line
-- that includes it, and with the variables in values replaced.
use Rattle.std.specs.Prelude.{ℕ, List, [], ◌∷◌}
use Rattle.fwd_config.specs.Variables.{Values, with_value}
use Rattle.fwd_config.specs.declared.section.Place.{Place}
use Rattle.fwd_config.specs.declared.section.Entry.{Entry}
use Rattle.fwd_config.specs.declared.section.Section.{Section}

-- what a line adds to the text
pub data Item : Type 0 where
  -- a variable has this value from here on
  Variable : (name value : List ℕ) → Item
  -- a section begins
  Header : (name : List ℕ) (place : Place) → Item
  -- an entry
  EntryItem : Entry → Item

abbrev pub Text : Type 0
Text = List Item

-- the values after a text, given those before it
abbrev pub values_after : Values → Text → Values
values_after values [] = values
values_after values (Variable name value ∷ items) = values_after (with_value values name value) items
values_after values (Header name place ∷ items) = values_after values items
values_after values (EntryItem entry ∷ items) = values_after values items

abbrev pub section : List ℕ → Place → List Entry → Section
section name place entries = record { name = name; place = place; entries = entries }

-- the entries up to the first header
abbrev pub entries_of : Text → List Entry
entries_of [] = []
entries_of (Variable name value ∷ items) = entries_of items
entries_of (Header name place ∷ items) = []
entries_of (EntryItem entry ∷ items) = entry ∷ entries_of items

-- each header with the entries up to the next one
abbrev pub sections_of : Text → List Section
sections_of [] = []
sections_of (Variable name value ∷ items) = sections_of items
sections_of (Header name place ∷ items) = section name place (entries_of items) ∷ sections_of items
sections_of (EntryItem entry ∷ items) = sections_of items

abbrev pub place : List ℕ → ℕ → Place
place file line = record { file = file; line = line }

abbrev pub entry : List ℕ → List ℕ → Place → Entry
entry key value place = record { key = key; value = value; place = place }
