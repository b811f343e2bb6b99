-- The links of a run, by the calls on its loop.
use Rattle.std.specs.Prelude.{ℕ, zero, suc, ◌<◌, ◌==◌, if◌then◌else◌, List, [], ◌∷◌, ◌++◌, Option, Some, None}
use Rattle.std.specs.List.{flat_map}
use Rattle.fwd_outside.specs.Loop.{LoopCall, LoopAnswer, LoopEntry, Dial, Close}
use Rattle.fwd_script_loop.specs.Place.{output_of, closed}

-- the links that dials gave, in order
abbrev pub links_by : (call : LoopCall) → LoopAnswer call → List ℕ
links_by (Dial output tag) (Some link) = link ∷ []
links_by call answer = []

abbrev pub links_in : List LoopEntry → List ℕ
links_in entries = flat_map (λ e. links_by e.call e.answer) entries

-- each is greater than all before it, and than this number
abbrev pub AreRising : ℕ → List ℕ → Type 0
AreRising least [] = Unit {0}
AreRising least (link ∷ links) = (least < link) × AreRising link links

-- the number of a link in a schedule: its place among these links, from 1; and 0 for any other
abbrev pub counted_on : ℕ → ℕ
counted_on zero = zero
counted_on (suc number) = suc (suc number)

abbrev pub number_of : List ℕ → ℕ → ℕ
number_of [] link = 0
number_of (other ∷ links) link = if other == link then 1 else counted_on (number_of links link)

-- the links so far, and the output of each, `None` if it was closed
pub record Links : Type 0 where
  pub links : List ℕ
  pub outputs : List (Option ℕ)

abbrev pub no_links : Links
no_links = record { links = []; outputs = [] }

-- the output of an open link
abbrev pub output_at : Links → ℕ → Option ℕ
output_at so_far link = output_of so_far.outputs (number_of so_far.links link)

abbrev pub with_link : Links → ℕ → Option ℕ → Links
with_link so_far output (Some link) =
    record { links = so_far.links ++ link ∷ []; outputs = so_far.outputs ++ Some output ∷ [] }
with_link so_far output None = so_far

abbrev pub without_link : Links → ℕ → Links
without_link so_far link =
    record so_far { outputs = closed so_far.outputs (number_of so_far.links link) }

-- the links after a call
abbrev pub links_after : Links → (call : LoopCall) → LoopAnswer call → Links
links_after so_far (Dial output tag) answer = with_link so_far output answer
links_after so_far (Close link) answer = without_link so_far link
links_after so_far call answer = so_far

abbrev pub links_behind : Links → List LoopEntry → Links
links_behind so_far [] = so_far
links_behind so_far (e ∷ es) = links_behind (links_after so_far e.call e.answer) es
