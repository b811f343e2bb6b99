-- The row of a chunk, and whether the chunk fits within the limits.
use Rattle.std.proofs.Common.{◌≡◌, ℕ, ◌+◌, false, ◌&&◌, ◌||◌, not, List, Option, Some, None, refl, sym, ◌∙◌, ap}
use Rattle.std.specs.Prelude.{◌==◌, nat_lt, nat_le, option_map}
use Rattle.fwd_settings.specs.declared.settings_types.AllSettings.{AllSettings}
use Rattle.fwd_table.specs.Routes.{flying_of}
use Rattle.fwd_table.specs.Rows.{seen_of}
use Rattle.fwd_table.specs.Row.{Row}
use Rattle.fwd_table.specs.RowSeen.{RowSeen}
use Rattle.fwd_table.specs.Usage.{in_file, is_recovered, files_up, found_up}
use Rattle.fwd_limits.proofs.Sums.{mask_none}
use Rattle.fwd_model.specs.Dispatch.{fits_row}
use Rattle.fwd_engine_state.specs.Capacity.{fits_seen}

-- the contract view of a row
fits_as : (s : AllSettings) (max_up limit : ℕ) (rows : List Row) (row : Row) → s.service.max_up ≡ max_up → s.service.backlog_limit ≡ limit → fits_seen max_up limit rows (seen_of row) ≡ fits_row s rows (Some row)
fits_as s max_up limit rows row up backlog = λ i.
    not (in_file row) || (not (mask_none (flying_of row.routes) i) || (nat_lt (files_up rows) (sym up i) && (not (is_recovered row.input) || (nat_le (found_up rows + row.size) (sym backlog i) || found_up rows == 0))))

pub fits_some : (s : AllSettings) (max_up limit : ℕ) (rows : List Row) (seen : RowSeen) (at : Option Row) → s.service.max_up ≡ max_up → s.service.backlog_limit ≡ limit → Some seen ≡ option_map seen_of at
    → fits_seen max_up limit rows seen ≡ fits_row s rows at
fits_some s max_up limit rows seen None up backlog is = absurd (cc is)
fits_some s max_up limit rows seen (Some row) up backlog is = let same : seen ≡ seen_of row = cc is in ap (fits_seen max_up limit rows) same ∙ fits_as s max_up limit rows row up backlog

-- there is no row
pub fits_none : (s : AllSettings) (rows : List Row) (at : Option Row) → option_map seen_of at ≡ None → fits_row s rows at ≡ false
fits_none s rows None is = refl
fits_none s rows (Some row) is = absurd (cc is)
