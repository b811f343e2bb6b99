-- How one more item changes the values and sections of a text.
use Rattle.std.proofs.Common.{◌≡◌, ℕ, zero, suc, List, [], ◌∷◌, ◌++◌, length, set, get_or, refl, sym, ap, ◌∙◌, arith}
use Rattle.fwd_config.specs.Variables.{Values, with_value}
use Rattle.fwd_config.specs.Text.{Text, Variable, Header, EntryItem, values_after, section, entries_of, sections_of}
use Rattle.fwd_config.specs.Representation.{with_entry}
use Rattle.fwd_config.specs.declared.section.Place.{Place}
use Rattle.fwd_config.specs.declared.section.Entry.{Entry}
use Rattle.fwd_config.specs.declared.section.Section.{Section}

-- two lists of sections are equal if their parts are
split_word : (name : List ℕ) (place : Place) {es fs : List Entry} {ss ts : List Section} → es ≡ fs → ss ≡ ts → section name place es ∷ ss ≡ section name place fs ∷ ts
split_word name place {es = es} {fs = fs} {ss = ss} {ts = ts} e s = ap (λ (l : List Entry). section name place l ∷ ss) e ∙ ap (λ (l : List Section). section name place fs ∷ l) s

pub values_by_variable : (env : Values) (above : Text) (name value : List ℕ) → values_after env (above ++ Variable name value ∷ []) ≡ with_value (values_after env above) name value
values_by_variable env [] name value = refl
values_by_variable env (Variable n v ∷ items) name value = values_by_variable (with_value env n v) items name value
values_by_variable env (Header n p ∷ items) name value = values_by_variable env items name value
values_by_variable env (EntryItem e ∷ items) name value = values_by_variable env items name value

pub values_by_header : (env : Values) (above : Text) (name : List ℕ) (place : Place) → values_after env (above ++ Header name place ∷ []) ≡ values_after env above
values_by_header env [] name place = refl
values_by_header env (Variable n v ∷ items) name place = values_by_header (with_value env n v) items name place
values_by_header env (Header n p ∷ items) name place = values_by_header env items name place
values_by_header env (EntryItem e ∷ items) name place = values_by_header env items name place

pub values_by_entry : (env : Values) (above : Text) (entry : Entry) → values_after env (above ++ EntryItem entry ∷ []) ≡ values_after env above
values_by_entry env [] entry = refl
values_by_entry env (Variable n v ∷ items) entry = values_by_entry (with_value env n v) items entry
values_by_entry env (Header n p ∷ items) entry = values_by_entry env items entry
values_by_entry env (EntryItem e ∷ items) entry = values_by_entry env items entry

entries_by_variable : (above : Text) (name value : List ℕ) → entries_of (above ++ Variable name value ∷ []) ≡ entries_of above
entries_by_variable [] name value = refl
entries_by_variable (Variable n v ∷ items) name value = entries_by_variable items name value
entries_by_variable (Header n p ∷ items) name value = refl
entries_by_variable (EntryItem e ∷ items) name value = ap (λ (l : List Entry). e ∷ l) (entries_by_variable items name value)

pub sections_by_variable : (above : Text) (name value : List ℕ) → sections_of (above ++ Variable name value ∷ []) ≡ sections_of above
sections_by_variable [] name value = refl
sections_by_variable (Variable n v ∷ items) name value = sections_by_variable items name value
sections_by_variable (Header n p ∷ items) name value = split_word n p (entries_by_variable items name value) (sections_by_variable items name value)
sections_by_variable (EntryItem e ∷ items) name value = sections_by_variable items name value

entries_by_header : (above : Text) (name : List ℕ) (place : Place) → entries_of (above ++ Header name place ∷ []) ≡ entries_of above
entries_by_header [] name place = refl
entries_by_header (Variable n v ∷ items) name place = entries_by_header items name place
entries_by_header (Header n p ∷ items) name place = refl
entries_by_header (EntryItem e ∷ items) name place = ap (λ (l : List Entry). e ∷ l) (entries_by_header items name place)

pub sections_by_header : (above : Text) (name : List ℕ) (place : Place) → sections_of (above ++ Header name place ∷ []) ≡ sections_of above ++ section name place [] ∷ []
sections_by_header [] name place = refl
sections_by_header (Variable n v ∷ items) name place = sections_by_header items name place
sections_by_header (Header n p ∷ items) name place = split_word n p (entries_by_header items name place) (sections_by_header items name place)
sections_by_header (EntryItem e ∷ items) name place = sections_by_header items name place

-- an entry is added before these sections only if there are none
abbrev before : List Section → List Entry → Entry → List Entry
before [] entries entry = entries ++ entry ∷ []
before (s ∷ ss) entries entry = entries

before_more : (sections : List Section) (first : Entry) (entries : List Entry) (entry : Entry) → before sections (first ∷ entries) entry ≡ first ∷ before sections entries entry
before_more [] first entries entry = refl
before_more (s ∷ ss) first entries entry = refl

entries_by_entry : (above : Text) (entry : Entry) → entries_of (above ++ EntryItem entry ∷ []) ≡ before (sections_of above) (entries_of above) entry
entries_by_entry [] entry = refl
entries_by_entry (Variable n v ∷ items) entry = entries_by_entry items entry
entries_by_entry (Header n p ∷ items) entry = refl
entries_by_entry (EntryItem e ∷ items) entry = ap (λ (l : List Entry). e ∷ l) (entries_by_entry items entry) ∙ sym (before_more (sections_of items) e (entries_of items) entry)

last_or_later : (name : List ℕ) (place : Place) (entries : List Entry) (sections : List Section) (entry : Entry)
    → section name place (before sections entries entry) ∷ with_entry sections entry ≡ with_entry (section name place entries ∷ sections) entry
last_or_later name place entries [] entry = refl
last_or_later name place entries (s ∷ ss) entry = refl

pub sections_by_entry : (above : Text) (entry : Entry) → sections_of (above ++ EntryItem entry ∷ []) ≡ with_entry (sections_of above) entry
sections_by_entry [] entry = refl
sections_by_entry (Variable n v ∷ items) entry = sections_by_entry items entry
sections_by_entry (Header n p ∷ items) entry =
    split_word n p (entries_by_entry items entry) (sections_by_entry items entry) ∙ (last_or_later n p (entries_of items) (sections_of items) entry)
sections_by_entry (EntryItem e ∷ items) entry = sections_by_entry items entry

pub with_entry_at : (sections : List Section) (entry : Entry) (last : Section) (at : ℕ) → length sections ≡ suc at → last ≡ get_or sections at last
    → set sections at (record last { entries = last.entries ++ entry ∷ [] }) ≡ with_entry sections entry
with_entry_at [] entry last at long is = absurd (omega arith)
with_entry_at (s ∷ []) entry last zero long is = ap (λ (x : Section). record x { entries = x.entries ++ entry ∷ [] } ∷ []) is
with_entry_at (s ∷ []) entry last (suc at) long is = absurd (omega arith)
with_entry_at (s ∷ t ∷ more) entry last zero long is = absurd (omega arith)
with_entry_at (s ∷ t ∷ more) entry last (suc at) long is = ap (λ (l : List Section). s ∷ l) (with_entry_at (t ∷ more) entry last at (omega arith) is)
