-- The meaning of a chunk file's metadata: its tag, and the outputs that a file of mark 2 names.
use Rattle.std.specs.Prelude.{ℕ, zero, suc, ◌+◌, ◌*◌, ◌==◌, ◌&&◌, not, nat_lt, nat_le, Bool, true, if◌then◌else◌, List, [], ◌∷◌, ◌++◌, length, map, take, drop, filter, Option, Some, None, Result, Ok, Err}
use Rattle.std.specs.Prelude.{slice_index}
use Rattle.std.specs.List.{list_all, list_any}
use Rattle.std.specs.Option.{option_map}
use Rattle.std.specs.Str.{is_utf8, bytes_eq}
use Rattle.fwd_base.specs.Limits.{longest_name, most_outputs}
use Rattle.fwd_chunk.specs.Layout.{NamedOutput}
use Rattle.fwd_chunk.specs.declared.metadata.Metadata.{Metadata}
use Rattle.fwd_chunk.specs.declared.outputs.Outputs.{Outputs}
use Rattle.fwd_chunk.specs.declared.refusal.NotAChunk.{NotAChunk}
use Rattle.fwd_chunk.specs.declared.refusal.NotAChunk.TheVariants.{NotLogs, BadOutputs}

-- f1 77
abbrev pub is_typed : List ℕ → Bool
is_typed meta = (slice_index meta 0 == 241) && (slice_index meta 1 == 119)

-- Metadata of marks 0 and 1 that begin with f1 77 00 are four bytes and the tag. With another third byte the
-- chunk has no logs, whatever the mark. Other metadata, and those that end before a fourth byte, are the tag
-- themselves. So f1 77 and f1 77 00 alone are a tag that isn't UTF-8. Metadata of mark 2 that end before a
-- third byte are `BadOutputs`.
abbrev pub tag_of : List ℕ → Option (List ℕ)
tag_of meta =
    if is_typed meta
    then
    (if slice_index meta 2 == 0 then Some (if nat_lt (length meta) 4 then meta else drop 4 meta)
    else None)
    else Some meta

-- ---- metadata of mark 2

-- a tag, and the outputs that are named, in order
pub record MetadataMeaning : Type 0 where
  pub tag : List ℕ
  pub outputs : List NamedOutput

abbrev pub names_of : List NamedOutput → List (List ℕ)
names_of outputs = map (λ output. output.name) outputs

-- the names of the outputs with a recorded outcome, in order
abbrev pub done_of : List NamedOutput → List (List ℕ)
done_of outputs = names_of (filter (λ output. output.outcome == 68) outputs)

-- no name occurs twice
abbrev pub all_differ : List (List ℕ) → Bool
all_differ [] = true
all_differ (name ∷ names) = not (list_any (λ other. bytes_eq other name) names) && all_differ names

abbrev pub is_output_name : List ℕ → Bool
is_output_name name = nat_le 1 (length name) && nat_le (length name) longest_name && is_utf8 name

-- outputs that a file may name, as a test
abbrev pub are_outputs : List (List ℕ) → Bool
are_outputs names = nat_le (length names) most_outputs && list_all is_output_name names && all_differ names

-- an outcome, the length of a name and the name; and the bytes after them
abbrev pub output_at : List ℕ → Option (NamedOutput × List ℕ)
output_at (outcome ∷ (size ∷ rest)) =
    if nat_lt (length rest) size then None
    else Some (record { name = take size rest; outcome = outcome }, drop size rest)
output_at _ = None

abbrev pub after_output : (List ℕ → Option (List NamedOutput)) → Option (NamedOutput × List ℕ)
    → Option (List NamedOutput)
after_output others None = None
after_output others (Some x) = option_map (λ outputs. x.0 ∷ outputs) (others x.1)

-- exactly `n` outputs, and no byte after them
unfoldable pub outputs_in : ℕ → List ℕ → Option (List NamedOutput)
outputs_in zero [] = Some []
outputs_in zero (c ∷ b) = None
outputs_in (suc n) b = after_output (outputs_in n) (output_at b)

-- the number of outputs, and the outputs
abbrev pub counted_outputs : List ℕ → Option (List NamedOutput)
counted_outputs [] = None
counted_outputs (count ∷ b) = outputs_in count b

abbrev pub if_allowed : Option (List NamedOutput) → Option (List NamedOutput)
if_allowed None = None
if_allowed (Some outputs) = if are_outputs (names_of outputs) then Some outputs else None

-- the big-endian number of two bytes; numbers of 256 or more aren't bytes
abbrev pub two_bytes : ℕ → ℕ → Option ℕ
two_bytes high low = if nat_lt high 256 && nat_lt low 256 then Some (high * 256 + low) else None

-- `size` bytes, and the bytes after them
abbrev pub split : List ℕ → Option ℕ → Option (List ℕ × List ℕ)
split rest None = None
split rest (Some size) = if nat_lt (length rest) size then None else Some (take size rest, drop size rest)

-- f1 77 00 02
abbrev pub is_naming : List ℕ → Bool
is_naming meta = is_typed meta && (slice_index meta 2 == 0) && (slice_index meta 3 == 2)

-- the tag, and the bytes of the outputs
abbrev pub named_parts : List ℕ → Option (List ℕ × List ℕ)
named_parts meta =
    if nat_lt (length meta) 6 then None
    else if is_naming meta then split (drop 6 meta) (two_bytes (slice_index meta 4) (slice_index meta 5))
    else None

abbrev pub with_tag : List ℕ → List NamedOutput → MetadataMeaning
with_tag tag outputs = record { tag = tag; outputs = outputs }

abbrev pub named_by : Option (List ℕ × List ℕ) → Option MetadataMeaning
named_by None = None
named_by (Some parts) = option_map (with_tag parts.0) (if_allowed (counted_outputs parts.1))

-- the meaning of metadata of mark 2, if they have its form
unfoldable pub parse_named : List ℕ → Option MetadataMeaning
parse_named meta = named_by (named_parts meta)

-- ---- metadata of any mark

abbrev pub as_metadata : MetadataMeaning → Metadata
as_metadata m = record { tag = m.tag; outputs = names_of m.outputs; done = done_of m.outputs }

abbrev pub without_outputs : List ℕ → Metadata
without_outputs tag = record { tag = tag; outputs = []; done = [] }

abbrev pub said_named : Option MetadataMeaning → Result Metadata NotAChunk
said_named None = Err BadOutputs
said_named (Some m) = Ok (as_metadata m)

abbrev pub said_by : ℕ → List ℕ → Option (List ℕ) → Result Metadata NotAChunk
said_by mark meta None = Err NotLogs
said_by mark meta (Some tag) = if mark == 2 then said_named (parse_named meta) else Ok (without_outputs tag)

-- the meaning of the metadata of a file with this mark
abbrev pub parse_metadata : ℕ → List ℕ → Result Metadata NotAChunk
parse_metadata mark meta = said_by mark meta (tag_of meta)

-- ---- outputs in memory

abbrev pub no_outputs : Outputs
no_outputs = record { names = []; done = [] }

-- `outputs` followed by these
abbrev pub with_outputs : Outputs → List NamedOutput → Outputs
with_outputs outputs named =
    record { names = outputs.names ++ names_of named; done = outputs.done ++ done_of named }
