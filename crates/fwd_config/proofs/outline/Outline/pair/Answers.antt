use Rattle.std.proofs.Common.{[], ◌∷◌, sym, ap, ◌<◌, length, arith, ◌∙◌}
use Rattle.fwd_config.specs.Variables.{Values}
use Rattle.fwd_config.specs.Text.{EntryItem, place, entry, sections_of}
use Rattle.fwd_config.proofs.Append.{values_by_entry, sections_by_entry}
use Rattle.fwd_config.proofs.Meanings.{pair_means}
use Rattle.fwd_config.proofs.outline.Outline.pair.Goals as goal

pub returns-clause-meaning : goal.returns-clause-meaning
returns-clause-meaning c = λ env above left shows.
    let at = place c.args.file.now c.args.number in
    let made = entry c.args.key.now c.in_ok-replace_variables.field-0 at in
    let begun : 0 < length (sections_of above) = rw (← shows.sections) (grind (arith, c.args.self.now.sections.ok.0)) in
    let some : 0 < length c.args.value.now = grind arith in
    let values = values_by_entry env above made in (
      EntryItem made ∷ [],
      pair_means env left at above c.args.self.now shows c.args.key.now c.args.value.now c.in_ok-replace_variables.field-0 begun some c.in_ok-replace_variables.ensures.0 c.in_ok-replace_variables.ensures.1,
      record {
        values = λ name. shows.values name ∙ sym (ap (λ (f : Values). f name) values);
        sections = rw (c.in_ok-add_entry.ensures, c.in_ok-from_slice.ensures, c.in_ok-place.ensures, shows.sections) (sym (sections_by_entry above made));
      },
    )
