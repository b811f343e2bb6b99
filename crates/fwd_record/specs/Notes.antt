-- What a recorder keeps of what it saw.
use Rattle.std.specs.Prelude.{◌≡◌, ◌<◌, List, vec_len, vec_capacity}
use Rattle.fwd_outside.specs.declared.happening.Happening.{Happening}
use Rattle.fwd_script.specs.declared.schedule.Given.{Given}
use Rattle.fwd_record.specs.declared.notes.Notes.{Notes}
use Rattle.fwd_record.specs.Seen.{Seen, calls_of}
use Rattle.fwd_record.specs.Links.{Links, no_links, links_behind}
use Rattle.fwd_record.specs.Recorded.{heard_in, answers_in}

-- these events, answers and links are those of what was seen
pub record AreNotes (events : List Happening) (given : List Given) (links : Links) (seen : List Seen)
    : Type 0 where
  pub heard : events ≡ heard_in seen
  pub answers : given ≡ answers_in no_links (calls_of seen)
  pub so_far : links ≡ links_behind no_links (calls_of seen)

abbrev pub links_kept : Notes → Links
links_kept notes = record { links = notes.links.items; outputs = notes.outputs.items }

abbrev pub IsNoted : Notes → List Seen → Type 0
IsNoted notes seen = AreNotes notes.heard.items notes.answers.items (links_kept notes) seen

-- one more of each can be kept without further memory
pub record HasRoom (notes : Notes) : Type 0 where
  pub heard : vec_len notes.heard < vec_capacity notes.heard
  pub answers : vec_len notes.answers < vec_capacity notes.answers
  pub links : vec_len notes.links < vec_capacity notes.links
  pub outputs : vec_len notes.outputs < vec_capacity notes.outputs
