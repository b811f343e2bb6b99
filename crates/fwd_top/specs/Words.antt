-- The words of the command line.
use Rattle.std.specs.Prelude.{ℕ, ◌-◌, ◌^◌, Bool, false, ◌&&◌, ◌==◌, nat_le, not, if◌then◌else◌, List, [], ◌∷◌, slice_index, Option, Some, None, is_none, option_map, option_and_then, codes}
use Rattle.std.specs.Str.{bytes_eq}
use Rattle.fwd_base.specs.Number.{number_of}

-- what the words ask for: files and folders by path; after how many clock ticks a run is stopped, if that
-- is given; and where a run is recorded
pub data Command : Type 0 where
  Run : (config : List ℕ) → (ticks : Option ℕ) → Command
  Record : (config : List ℕ) → (ticks : Option ℕ) → (tape : List ℕ) → Command
  Replay : (config schedule : List ℕ) → Command
  ListFolder : (folder : List ℕ) → Command
  Generate : (count : ℕ) → Command

-- a value isn't empty and doesn't begin with `-`
abbrev pub is_value : List ℕ → Bool
is_value [] = false
is_value (b ∷ bs) = not (b == 45)

-- a number from 1 to the limit, in digits without a leading zero
abbrev pub at_most : ℕ → Option ℕ → Option ℕ
at_most most None = None
at_most most (Some number) = if nat_le number most then Some number else None

abbrev pub count_of : ℕ → List ℕ → Option ℕ
count_of most text = if slice_index text 0 == 48 then None else at_most most (number_of text)

-- one option with its value
abbrev pub one_option : List ℕ → List ℕ → List ℕ → Option (List ℕ)
one_option wanted name value = if bytes_eq name wanted && is_value value then Some value else None

-- two options with their values, in any order: the value of the first wanted one, and of the second
abbrev pub two_options : List ℕ → List ℕ → List ℕ → List ℕ → List ℕ → List ℕ → Option (List ℕ × List ℕ)
two_options first second name value other more =
    if not (is_value value && is_value more) then None
    else if bytes_eq name first && bytes_eq other second then Some (value, more)
    else if bytes_eq name second && bytes_eq other first then Some (more, value)
    else None

-- the options of a run, as far as they were read
pub record RunOptions : Type 0 where
  pub config : Option (List ℕ)
  pub ticks : Option ℕ
  pub tape : Option (List ℕ)

abbrev pub no_options : RunOptions
no_options = record { config = None; ticks = None; tape = None }

abbrev pub with_config : RunOptions → List ℕ → Option RunOptions
with_config so_far value =
    if is_none so_far.config then Some (record so_far { config = Some value }) else None

abbrev pub with_ticks : RunOptions → Option ℕ → Option RunOptions
with_ticks so_far None = None
with_ticks so_far (Some ticks) =
    if is_none so_far.ticks then Some (record so_far { ticks = Some ticks }) else None

abbrev pub with_tape : RunOptions → List ℕ → Option RunOptions
with_tape so_far value = if is_none so_far.tape then Some (record so_far { tape = Some value }) else None

-- one option more with its value, which was not given before
abbrev pub with_option : RunOptions → List ℕ → List ℕ → Option RunOptions
with_option so_far name value =
    if not (is_value value) then None
    else if bytes_eq name (codes "-c") then with_config so_far value
    else if bytes_eq name (codes "-n") then with_ticks so_far (count_of (2 ^ 64 - 1) value)
    else if bytes_eq name (codes "--record") then with_tape so_far value
    else None

-- options with their values, in any order, each once at most
abbrev pub options_after : RunOptions → List (List ℕ) → Option RunOptions
options_after so_far [] = Some so_far
options_after so_far (name ∷ []) = None
options_after so_far (name ∷ value ∷ words) =
    option_and_then (λ options. options_after options words) (with_option so_far name value)

abbrev pub run_by : Option (List ℕ) → Option ℕ → Option (List ℕ) → Option Command
run_by None ticks tape = None
run_by (Some config) ticks None = Some (Run config ticks)
run_by (Some config) ticks (Some tape) = Some (Record config ticks tape)

abbrev pub run_with : RunOptions → Option Command
run_with options = run_by options.config options.ticks options.tape

-- `-c FILE [-n TICKS] [--record FILE]`
abbrev pub run_of : List (List ℕ) → Option Command
run_of words = option_and_then run_with (options_after no_options words)

-- `-c FILE -s FILE`
abbrev pub replay_of : List (List ℕ) → Option Command
replay_of (name ∷ value ∷ other ∷ more ∷ []) =
    option_map (λ options. Replay options.0 options.1)
    (two_options (codes "-c") (codes "-s") name value other more)
replay_of _ = None

-- `-p FOLDER`
abbrev pub list_of : List (List ℕ) → Option Command
list_of (name ∷ value ∷ []) = option_map ListFolder (one_option (codes "-p") name value)
list_of _ = None

abbrev pub with_count : Option (List ℕ) → Option Command
with_count None = None
with_count (Some value) = option_map Generate (count_of 200000 value)

-- `-n COUNT`
abbrev pub gen_of : List (List ℕ) → Option Command
gen_of (name ∷ value ∷ []) = with_count (one_option (codes "-n") name value)
gen_of _ = None

-- the words after the name of a command
abbrev pub command_by : List ℕ → List (List ℕ) → Option Command
command_by name words =
    if bytes_eq name (codes "run") then run_of words
    else if bytes_eq name (codes "replay") then replay_of words
    else if bytes_eq name (codes "list") then list_of words
    else if bytes_eq name (codes "gen") then gen_of words
    else None

-- `run -c FILE [-n TICKS] [--record FILE]`, `replay -c FILE -s FILE`, `list -p FOLDER` or `gen -n COUNT`
abbrev pub command_of : List (List ℕ) → Option Command
command_of [] = None
command_of (name ∷ words) = command_by name words

-- the file that a run is recorded to
abbrev pub tape_of : Option Command → Option (List ℕ)
tape_of (Some (Record config ticks tape)) = Some tape
tape_of other = None
