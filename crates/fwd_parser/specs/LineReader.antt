-- What a reader of lines has besides its parser.
use Rattle.std.specs.Prelude.{◌≡◌, Bool, true, false, Option, Some, None}
use Rattle.fwd_base.specs.Pattern.{SearchesFor}
use Rattle.fwd_base.specs.declared.search.Search.{Search}
use Rattle.fwd_parser.specs.declared.parser.Shape.{Shape}
use Rattle.fwd_parser.specs.declared.parser.Shape.TheVariants.{Plain, Json, Groups}

-- a search for the pattern, if the shape has one
abbrev pub IsReady : Shape → Option Search → Type 0
IsReady Plain search = search ≡ None
IsReady Json search = search ≡ None
IsReady (Groups pattern types skip_empty) None = ⊥
IsReady (Groups pattern types skip_empty) (Some search) = SearchesFor pattern search

-- lines are JSON objects, so a reader of JSON is kept from line to line
abbrev pub is_json : Shape → Bool
is_json Json = true
is_json Plain = false
is_json (Groups pattern types skip_empty) = false
