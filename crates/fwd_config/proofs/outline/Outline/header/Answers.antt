use Rattle.std.proofs.Common.{refl, [], ◌∷◌, sym, ap, ◌∙◌}
use Rattle.fwd_config.specs.Variables.{Values}
use Rattle.fwd_config.specs.Text.{Header, place}
use Rattle.fwd_config.proofs.Append.{values_by_header, sections_by_header}
use Rattle.fwd_config.proofs.outline.Outline.header.Goals as goal

pub returns-clause-meaning : goal.returns-clause-meaning
returns-clause-meaning c = λ env above left shows.
    let at = place c.args.file.now c.args.number in
    let values = values_by_header env above c.args.name.now at in (
      Header c.args.name.now at ∷ [],
      refl,
      record {
        values = λ name. shows.values name ∙ sym (ap (λ (f : Values). f name) values);
        sections = rw (c.in_ok-push.ensures.items, c.in_ok-from_slice.ensures, c.in_ok-place.ensures, c.new.ensures, shows.sections) (sym (sections_by_header above c.args.name.now at));
      },
    )
