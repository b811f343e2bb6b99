use Rattle.std.proofs.Common.{◌≡◌, ◌∙◌, [], Bool, not, Option, sym, ap, subst}
use Rattle.std.specs.Prelude.{◌&&◌, filter}
use Rattle.std.specs.Option.{option_map_or}
use Rattle.fwd_table_rows.specs.declared.row.Row.{Row}
use Rattle.fwd_table_rows.specs.Rows.{idle_timers_of}
use Rattle.fwd_table_rows.specs.Slots.{rows_in}
use Rattle.fwd_table.specs.DueIndex.{is_among, is_inside, timers_in, timers_outside, IsIndexIfAny, IsIndexOf}
use Rattle.fwd_table.proofs.DueIndex.{outside_left, own_timers, same_index}
use Rattle.fwd_table.proofs.due_index.remove_timers.Goals as goal

pub returns-in_default : goal.returns-in_default
returns-in_default c =
    let rows = rows_in c.args.places.now.items in
    let ts = idle_timers_of rows in
    let own : filter (is_inside c.args.chunk c.args.scope) ts ≡ [] = own_timers c.args.chunk c.args.scope rows c.requires.rise ∙ ap (λ (r : Option Row). option_map_or (timers_in c.args.scope) r []) (sym c.in_default.ensures) in
    same_index ts (timers_outside c.args.chunk c.args.scope ts) c.args.index.now (λ z. outside_left c.args.chunk c.args.scope ts [] z own) c.requires.index

pub returns-in-Some-index : goal.returns-in-Some-index
returns-in-Some-index c timer =
    let rows = rows_in c.args.places.now.items in
    let ts = idle_timers_of rows in
    let us = timers_in c.args.scope c.in-Some.row.now in
    let own : filter (is_inside c.args.chunk c.args.scope) ts ≡ us = own_timers c.args.chunk c.args.scope rows c.requires.rise ∙ ap (λ (r : Option Row). option_map_or (timers_in c.args.scope) r []) (sym c.in-Some.ensures) in
    let was : IsIndexOf ts c.in-Some-index.index = subst (IsIndexIfAny ts) c.in-Some-index.is c.requires.index in
    c.remove_row.ensures timer ∙ ap (λ (b : Bool). not (is_among us timer) && b) (was timer) ∙ outside_left c.args.chunk c.args.scope ts us timer own
