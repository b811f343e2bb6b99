use Rattle.std.proofs.Common.{◌≡◌, Option, Some, None, false, refl, ◌∙◌, ap}
use Rattle.std.specs.Prelude.{option_map}
use Rattle.std.specs.Option.{option_map_or}
use Rattle.fwd_table.specs.Row.{Row}
use Rattle.fwd_table.specs.RowSeen.{RowSeen}
use Rattle.fwd_table.specs.Rows.{row_at, seen_of}
use Rattle.fwd_table.specs.Usage.{in_file, is_file}
use Rattle.fwd_engine_chunks.proofs.eviction.is_in_file.Goals as goal

file_seen : (o : Option Row) (seen : RowSeen) → Some seen ≡ option_map seen_of o → is_file seen.home ≡ option_map_or in_file o false
file_seen None seen is = absurd (cc is)
file_seen (Some row) seen is = let same : seen ≡ seen_of row = cc is in ap (λ (s : RowSeen). is_file s.home) same

none_seen : (o : Option Row) → None ≡ option_map seen_of o → false ≡ option_map_or in_file o false
none_seen None is = refl
none_seen (Some row) is = absurd (cc is)

pub returns-in-Some : goal.returns-in-Some
returns-in-Some c = c.is_file.ensures ∙ file_seen (row_at c.args.chunk c.args.table.now.rows) c.in-Some.row c.in-Some.ensures.value

pub returns-in-None : goal.returns-in-None
returns-in-None c = none_seen (row_at c.args.chunk c.args.table.now.rows) c.in-None.ensures.value
