use Rattle.std.proofs.Common.{◌≡◌, ◌∙◌, [], Bool, Option, sym, ap, subst}
use Rattle.std.specs.Prelude.{◌||◌, filter}
use Rattle.std.specs.Option.{option_map_or}
use Rattle.fwd_table_rows.specs.declared.row.Row.{Row}
use Rattle.fwd_table_rows.specs.Rows.{idle_timers_of}
use Rattle.fwd_table_rows.specs.Slots.{rows_in}
use Rattle.fwd_table.specs.DueIndex.{is_among, is_inside, timers_in, timers_outside, IsIndexIfAny, IsIndexOf}
use Rattle.fwd_table.proofs.DueIndex.{inside_back, own_timers, same_index, when_ok}
use Rattle.fwd_table.proofs.due_index.insert_timers.Goals as goal

pub returns-in_default : goal.returns-in_default
returns-in_default c =
    let rows = rows_in c.args.places.now.items in
    let ts = idle_timers_of rows in
    let own : filter (is_inside c.args.chunk c.args.scope) ts ≡ [] = own_timers c.args.chunk c.args.scope rows c.requires.rise ∙ ap (λ (r : Option Row). option_map_or (timers_in c.args.scope) r []) (sym c.in_default.ensures) in
    same_index (timers_outside c.args.chunk c.args.scope ts) ts c.args.index.now (λ z. inside_back c.args.chunk c.args.scope ts [] z own) c.requires.index

pub returns-then-is_ok : goal.returns-then-is_ok
returns-then-is_ok c timer =
    let rows = rows_in c.args.places.now.items in
    let ts = idle_timers_of rows in
    let us = timers_in c.args.scope c.in-Some.row.now in
    let own : filter (is_inside c.args.chunk c.args.scope) ts ≡ us = own_timers c.args.chunk c.args.scope rows c.requires.rise ∙ ap (λ (r : Option Row). option_map_or (timers_in c.args.scope) r []) (sym c.in-Some.ensures) in
    let was : IsIndexOf (timers_outside c.args.chunk c.args.scope ts) c.in-Some-take.listed = subst (IsIndexIfAny (timers_outside c.args.chunk c.args.scope ts)) (sym c.in-Some-take.ensures.value) c.requires.index in
    when_ok c.insert_row.result _ c.if-is_ok.ensures.value c.insert_row.ensures timer ∙ ap (λ (b : Bool). is_among us timer || b) (was timer) ∙ inside_back c.args.chunk c.args.scope ts us timer own
