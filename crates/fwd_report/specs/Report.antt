-- The report of a run. Each line ends in a line feed.
use Rattle.std.specs.Prelude.{ℕ, ◌+◌, ◌-◌, ◌^◌, ◌==◌, min, Bool, List, [], ◌∷◌, ◌++◌, length, sum_by, codes, decimal, if◌then◌else◌}
use Rattle.std.specs.List.{flat_map, list_any, zip}
use Rattle.fwd_json.specs.Text.{json}
use Rattle.fwd_json.specs.declared.floats.Floats.TheVariants.{Tagged}
use Rattle.fwd_value.specs.Val.{text}
use Rattle.fwd_table.specs.Row.{Row}
use Rattle.fwd_table.specs.declared.tally.InputTally.{InputTally}
use Rattle.fwd_table.specs.declared.tally.OutputTally.{OutputTally}
use Rattle.fwd_table.specs.declared.tally.Tally.{Tally}

-- an input and its counters
unfoldable pub input_line : List ℕ → InputTally → List ℕ
input_line name tally =
    codes "input " ++ name ++ codes ": batches " ++ decimal tally.batches ++ codes " events "
    ++ decimal tally.events
    ++ codes " refused " ++ decimal tally.refused ++ codes "\n"

-- an output and its counters
unfoldable pub output_line : List ℕ → OutputTally → List ℕ
output_line name tally =
    codes "output " ++ name ++ codes ": ok " ++ decimal tally.good ++ codes " retry " ++ decimal tally.retry
    ++ codes " error " ++ decimal tally.bad ++ codes " spent " ++ decimal tally.spent ++ codes " lost "
    ++ decimal tally.lost
    ++ codes " taken " ++ decimal tally.taken ++ codes "\n"

-- a line for each input, in order
abbrev pub input_lines : List (List ℕ) → List InputTally → List ℕ
input_lines names tallies = flat_map (λ (p : List ℕ × InputTally). input_line p.0 p.1) (zip names tallies)

-- a line for each output, in order
abbrev pub output_lines : List (List ℕ) → List OutputTally → List ℕ
output_lines names tallies = flat_map (λ (p : List ℕ × OutputTally). output_line p.0 p.1) (zip names tallies)

-- the recovered files, and how many calls failed
unfoldable pub total_line : Tally → List ℕ
total_line tally =
    codes "loaded " ++ decimal tally.loaded ++ codes " unrouted " ++ decimal tally.unrouted ++ codes " left "
    ++ decimal tally.left
    ++ codes " faults " ++ decimal tally.faults ++ codes "\n"

-- The number of pending routes: a chunk has one for each output that it is pending for. It saturates at
-- 2^64 - 1.
abbrev pub owed_routes : List Row → ℕ
owed_routes rows = min (sum_by (λ (row : Row). length row.routes) rows) (2 ^ 64 - 1)

-- whether a chunk is pending for the output of this number
abbrev pub is_owed_to : ℕ → Row → Bool
is_owed_to output row = list_any (λ r. r.output.0 == output) row.routes

-- the names of the outputs that a chunk is pending for, among those numbered from n on, with a space before
-- each
abbrev pub names_from : ℕ → List (List ℕ) → Row → List ℕ
names_from output [] row = []
names_from output (name ∷ names) row =
    (if is_owed_to output row then codes " " ++ name else []) ++ names_from (output + 1) names row

-- a chunk's id, its tag as JSON text, its size, and the outputs that it is pending for
unfoldable pub chunk_line : List (List ℕ) → Row → List ℕ
chunk_line outputs row =
    codes "chunk " ++ decimal row.chunk.0 ++ codes " " ++ json Tagged (text row.tag) ++ codes " " ++ decimal row.size
    ++ names_from 0 outputs row ++ codes "\n"

-- a line for a chunk that is pending for an output, none for any other
abbrev pub row_lines : List (List ℕ) → Row → List ℕ
row_lines outputs row = if length row.routes == 0 then [] else chunk_line outputs row

-- how many routes are pending, and a line for each pending chunk, by id
unfoldable pub owed_part : List (List ℕ) → List Row → List ℕ
owed_part outputs rows =
    codes "owed " ++ decimal (owed_routes rows) ++ codes "\n" ++ flat_map (row_lines outputs) rows

-- the report of the named inputs and outputs
unfoldable pub report_of : List (List ℕ) → List (List ℕ) → List Row → Tally → List ℕ
report_of inputs outputs rows tally =
    input_lines inputs tally.inputs ++ output_lines outputs tally.outputs ++ total_line tally
    ++ owed_part outputs rows
