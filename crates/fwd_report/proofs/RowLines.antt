-- The lines of rows.
use Rattle.std.proofs.Common.{◌≡◌, ℕ, ◌+◌, ◌-◌, ◌/◌, ◌<◌, min, List, [], ◌∷◌, ◌++◌, length, get_or, take, drop, Option, Some, None, codes, decimal, refl, sym, ◌∙◌, ap, subst, append_assoc, arith}
use Rattle.std.specs.Prelude.{sum_by, IfSome, option_map, option_to_list}
use Rattle.std.specs.List.{flat_map}
use Rattle.std.specs.Option.{option_map_or}
use Rattle.std.specs.Int.RustNames.{bit_and, count_ones}
use Rattle.std.proofs.lemmas.Nat.{shr-shr}
use Rattle.std.proofs.lemmas.List.{append-nil, drop_more, nil_from_length}
use Rattle.std.proofs.lemmas.List.Concat.{flat_map-append}
use Rattle.std.proofs.lemmas.List.Sums.{sum_by_push}
use Rattle.std.proofs.lemmas.Bool.{eq-eqb, ne_eqb}
use Prim.Native.Nat.{◌^◌}
use Rattle.fwd_json.specs.Text.{json}
use Rattle.fwd_json.specs.declared.floats.Floats.TheVariants.{Tagged}
use Rattle.fwd_value.specs.Val.{text}
use Rattle.fwd_table.specs.Row.{Row}
use Rattle.fwd_table.specs.RowSeen.{RowSeen}
use Rattle.fwd_table.specs.Routes.{mask_of, IsMaskOf}
use Rattle.fwd_table.specs.Rows.{rows_at, seen_of}
use Rattle.fwd_table.proofs.SlotRows.{place_more, none_seen, one_seen}
use Rattle.fwd_report.specs.Report.{owed_routes, names_from, chunk_line, row_lines}
use Rattle.fwd_report.proofs.Masks.{owed_set, owed_clear, owed_none, ones-routes}

-- ---- the names of outputs

pub shifted : (owed rest i : ℕ) → rest ≡ owed / 2 ^ i → rest / 2 ≡ owed / 2 ^ (i + 1)
shifted owed rest i is = ap (λ (n : ℕ). n / 2) is ∙ shr-shr owed i 1

pub name_put : (row : Row) (owed rest i : ℕ) (name : List ℕ) (outputs : List (List ℕ)) (whole before next : List ℕ) → IsMaskOf row.routes owed → rest ≡ owed / 2 ^ i → bit_and rest 1 ≡ 1
    → i < length outputs → name ≡ get_or outputs i name → whole ≡ before ++ names_from i (drop i outputs) row → next ≡ (before ++ codes " ") ++ name → whole ≡ next ++ names_from (i + 1) (drop (i + 1) outputs) row
name_put row owed rest i name outputs whole before next mask at set less item is then =
    let here : drop i outputs ≡ name ∷ drop (i + 1) outputs = drop_more outputs i name less ∙ ap (λ (n : List ℕ). n ∷ drop (i + 1) outputs) (sym item) in
    let part : names_from i (name ∷ drop (i + 1) outputs) row ≡ (codes " " ++ name) ++ names_from (i + 1) (drop (i + 1) outputs) row = rw (owed_set row owed rest i mask at set) refl in
    let all : whole ≡ before ++ ((codes " " ++ name) ++ names_from (i + 1) (drop (i + 1) outputs) row) =
    is ∙ ap (λ (l : List (List ℕ)). before ++ names_from i l row) here ∙ ap (λ (l : List ℕ). before ++ l) part
    in
    all ∙ sym (append_assoc before (codes " " ++ name) (names_from (i + 1) (drop (i + 1) outputs) row))
    ∙ ap (λ (l : List ℕ). l ++ names_from (i + 1) (drop (i + 1) outputs) row) (sym (append_assoc before (codes " ") name) ∙ sym then)

pub name_left : (row : Row) (owed rest i : ℕ) (name : List ℕ) (outputs : List (List ℕ)) (whole before : List ℕ) → IsMaskOf row.routes owed → rest ≡ owed / 2 ^ i → (bit_and rest 1 ≡ 1 → ⊥)
    → i < length outputs → name ≡ get_or outputs i name → whole ≡ before ++ names_from i (drop i outputs) row → whole ≡ before ++ names_from (i + 1) (drop (i + 1) outputs) row
name_left row owed rest i name outputs whole before mask at clear less item is =
    let here : drop i outputs ≡ name ∷ drop (i + 1) outputs = drop_more outputs i name less ∙ ap (λ (n : List ℕ). n ∷ drop (i + 1) outputs) (sym item) in
    let part : names_from i (name ∷ drop (i + 1) outputs) row ≡ names_from (i + 1) (drop (i + 1) outputs) row = rw (owed_clear row owed rest i mask at clear) refl in
    is ∙ ap (λ (l : List (List ℕ)). before ++ names_from i l row) here ∙ ap (λ (l : List ℕ). before ++ l) part

-- ---- rows

pub chunk_text : (row : Row) (seen : RowSeen) (tag : List ℕ) (outputs : List (List ℕ)) (old sized named new : List ℕ) → seen ≡ seen_of row → tag ≡ row.tag
    → sized ≡ (((old ++ codes "chunk " ++ decimal seen.chunk.0) ++ codes " ") ++ json Tagged (text tag)) ++ codes " " ++ decimal seen.size
    → named ≡ sized ++ names_from 0 outputs row → new ≡ named ++ codes "\n" → new ≡ old ++ chunk_line outputs row
unfolding chunk_line
chunk_text row seen tag outputs old sized named new is same first then last =
    let number : seen.chunk.0 ≡ row.chunk.0 = ap (λ (s : RowSeen). s.chunk.0) is in
    let size : seen.size ≡ row.size = ap (λ (s : RowSeen). s.size) is in
    rw (last, then, first, number, size, same) (simp append_assoc refl)

-- the line of a row that is pending for an output
pub line_put : (at : Option Row) (seen : RowSeen) (tag : List ℕ) (outputs : List (List ℕ)) (old new : List ℕ) → Some seen ≡ option_map seen_of at → tag ≡ option_map_or (λ (row : Row). row.tag) at []
    → IfSome at (λ row. IsMaskOf row.routes seen.owed) → (seen.owed ≡ 0 → ⊥)
    → ((row : Row) → seen ≡ seen_of row → tag ≡ row.tag → IsMaskOf row.routes seen.owed → new ≡ old ++ chunk_line outputs row) → new ≡ old ++ option_map_or (row_lines outputs) at []
line_put None seen tag outputs old new is tagged mask owed then = absurd (cc)
line_put (Some row) seen tag outputs old new is tagged mask owed then =
    let same : seen ≡ seen_of row = cc in
    let some : length row.routes ≡ 0 → ⊥ = λ none. owed (ap (λ (s : RowSeen). s.owed) same ∙ ap mask_of (nil_from_length row.routes none)) in
    rw (ne_eqb (length row.routes) 0 some) (then row same tagged mask)

-- no line
pub line_left : (at : Option Row) (seen : RowSeen) (outputs : List (List ℕ)) (old : List ℕ) → Some seen ≡ option_map seen_of at → seen.owed ≡ 0 → old ≡ old ++ option_map_or (row_lines outputs) at []
line_left None seen outputs old is owed = sym (append-nil old)
line_left (Some row) seen outputs old is owed =
    let same : seen ≡ seen_of row = cc in
    let mask : mask_of row.routes ≡ 0 = sym (ap (λ (s : RowSeen). s.owed) same) ∙ owed in
    rw (eq-eqb (length row.routes) 0 (owed_none row.routes mask)) (sym (append-nil old))

pub none_left : (at : Option Row) (outputs : List (List ℕ)) (old : List ℕ) → None ≡ option_map seen_of at → old ≡ old ++ option_map_or (row_lines outputs) at []
none_left None outputs old is = sym (append-nil old)
none_left (Some row) outputs old is = absurd (cc)

lines_of : (lines : Row → List ℕ) (at : Option Row) → flat_map lines (option_to_list at) ≡ option_map_or lines at []
lines_of lines None = refl
lines_of lines (Some row) = append-nil (lines row)

-- the lines of one more slot
pub rows_more : (places : List (Option Row)) (outputs : List (List ℕ)) (n : ℕ) (old before next : List ℕ) → before ≡ old ++ flat_map (row_lines outputs) (rows_at (take n places))
    → next ≡ before ++ option_map_or (row_lines outputs) (get_or places n None) [] → next ≡ old ++ flat_map (row_lines outputs) (rows_at (take (n + 1) places))
rows_more places outputs n old before next is then =
    let lines = row_lines outputs in
    let so_far : List ℕ = flat_map lines (rows_at (take n places)) in
    let here : List ℕ = option_map_or lines (get_or places n None) [] in
    let more : flat_map lines (rows_at (take (n + 1) places)) ≡ so_far ++ here =
    ap (flat_map lines) (place_more places n) ∙ flat_map-append lines (rows_at (take n places)) (option_to_list (get_or places n None)) ∙ ap (λ (l : List ℕ). so_far ++ l) (lines_of lines (get_or places n None))
    in
    then ∙ ap (λ (l : List ℕ). l ++ here) is ∙ append_assoc old so_far here ∙ ap (λ (l : List ℕ). old ++ l) (sym more)

-- ---- the number of pending routes

added : (owed bits sum next more : ℕ) → owed ≡ min sum (2 ^ 64 - 1) → next ≡ min (owed + bits) (2 ^ 64 - 1) → more ≡ sum + bits → next ≡ min more (2 ^ 64 - 1)
added owed bits sum next more is then plus = rw (then, is, plus) (omega arith)

pub count_more : (places : List (Option Row)) (n : ℕ) (seen : RowSeen) (owed bits next : ℕ) → Some seen ≡ option_map seen_of (get_or places n None) → IfSome (get_or places n None) (λ row. IsMaskOf row.routes seen.owed)
    → bits ≡ count_ones seen.owed → owed ≡ owed_routes (rows_at (take n places)) → next ≡ min (owed + bits) (2 ^ 64 - 1) → next ≡ owed_routes (rows_at (take (n + 1) places))
count_more places n seen owed bits next is mask ones before then =
    let at = one_seen seen_of places n seen is in
    let owes : Row → ℕ = λ row. length row.routes in
    let set : IsMaskOf at.row.routes seen.owed = subst (λ (found : Option Row). IfSome found (λ row. IsMaskOf row.routes seen.owed)) at.there mask in
    let count : bits ≡ owes at.row = ones ∙ ones-routes at.row.routes seen.owed (ap (λ (s : RowSeen). s.owed) at.is) set in
    let sum : sum_by owes (rows_at (take (n + 1) places)) ≡ sum_by owes (rows_at (take n places)) + bits =
    ap (sum_by owes) at.more ∙ sum_by_push owes (rows_at (take n places)) at.row ∙ ap (λ (k : ℕ). sum_by owes (rows_at (take n places)) + k) (sym count)
    in
    added owed bits (sum_by owes (rows_at (take n places))) next (sum_by owes (rows_at (take (n + 1) places))) before then sum

pub count_same : (places : List (Option Row)) (n owed next : ℕ) → None ≡ option_map seen_of (get_or places n None) → owed ≡ owed_routes (rows_at (take n places)) → next ≡ owed → next ≡ owed_routes (rows_at (take (n + 1) places))
count_same places n owed next is before then = then ∙ before ∙ sym (ap owed_routes (none_seen seen_of places n is))
