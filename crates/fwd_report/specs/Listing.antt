-- The listing of the chunk files under a root. Each line ends in a line feed.
use Rattle.std.specs.Prelude.{◌≡◌, ℕ, List, ◌++◌, length, map, codes, decimal, IsPermutation, IsSorted}
use Rattle.std.specs.List.{flat_map}
use Rattle.std.specs.declared.cmp.Ordering.{Ordering}
use Rattle.std.specs.Ordering.{nat_cmp, ordering_then}
use Rattle.std.specs.Cmp.Lexicographic.{slice_cmp}
use Rattle.fwd_json.specs.Text.{json}
use Rattle.fwd_json.specs.declared.floats.Floats.TheVariants.{Tagged}
use Rattle.fwd_value.specs.Val.{text as text_value}
use Rattle.fwd_chunk.specs.declared.chunk.Brief.{Brief}
use Rattle.fwd_chunk.specs.declared.chunk.Found.{Found}
use Rattle.fwd_chunk.specs.declared.chunk.Seen.{Seen}
use Rattle.fwd_chunk.specs.declared.chunk.Seen.TheVariants.{Whole, Empty, Refused}
use Rattle.fwd_chunk.specs.declared.refusal.ChunkKind.{ChunkKind}
use Rattle.fwd_chunk.specs.declared.refusal.ChunkKind.TheVariants.{TooShort, BadId, BadLength, NotLogs, BadOutputs, NotUtf8Tag, BadEvents, TooLong}
use Rattle.fwd_report.specs.declared.listing_line.ListingLine.{ListingLine}

-- a text in quotes
abbrev pub quoted : List ℕ → List ℕ
quoted bytes = json Tagged (text_value bytes)

-- an output with a recorded outcome
abbrev pub done_text : List ℕ → List ℕ
done_text name = codes " done " ++ quoted name

-- a chunk: its tag, its events, the bytes of its content, those after it, and the recorded outputs in the
-- file's order
unfoldable pub chunk_text : Brief → List ℕ
chunk_text brief =
    codes " chunk " ++ quoted brief.tag ++ codes " events " ++ decimal brief.events ++ codes " bytes "
    ++ decimal brief.size
    ++ codes " torn " ++ decimal brief.torn ++ flat_map done_text brief.done

-- the reason of a refusal
abbrev pub kind_name : ChunkKind → List ℕ
kind_name TooShort = codes "TooShort"
kind_name BadId = codes "BadId"
kind_name BadLength = codes "BadLength"
kind_name NotLogs = codes "NotLogs"
kind_name BadOutputs = codes "BadOutputs"
kind_name NotUtf8Tag = codes "NotUtf8Tag"
kind_name BadEvents = codes "BadEvents"
kind_name TooLong = codes "TooLong"

abbrev pub seen_text : Seen → List ℕ
seen_text (Whole brief) = chunk_text brief
seen_text (Empty brief) = chunk_text brief
seen_text (Refused kind) = codes " refused " ++ kind_name kind

-- the folder, the name, and the result of the check
unfoldable pub line_text : Found → List ℕ
line_text file = file.stream ++ codes "/" ++ file.name ++ seen_text file.seen ++ codes "\n"

-- a file's line, with its folder and its name
abbrev pub line_of : Found → ListingLine
line_of file = record { stream = file.stream; name = file.name; text = line_text file }

-- by folder, then by name
abbrev pub by_folder : ListingLine → ListingLine → Ordering
by_folder x y =
    ordering_then (slice_cmp nat_cmp x.stream y.stream)
    (ordering_then (slice_cmp nat_cmp x.name y.name) (slice_cmp nat_cmp x.text y.text))

abbrev pub text_of_line : ListingLine → List ℕ
text_of_line line = line.text

-- how many files there are
abbrev pub count_line : ℕ → List ℕ
count_line count = codes "files " ++ decimal count ++ codes "\n"

-- the lines of all files by folder, then by name, and how many there are
pub record IsListing (found : List Found) (text : List ℕ) : Type 0 where
  pub lines : List ListingLine
  pub all : IsPermutation (map line_of found) lines
  pub sorted : IsSorted by_folder lines
  pub is : text ≡ flat_map text_of_line lines ++ count_line (length found)
