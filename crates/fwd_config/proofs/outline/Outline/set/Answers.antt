use Rattle.std.proofs.Common.{List, ℕ, [], ◌∷◌, sym, ap, ◌∙◌, cond}
use Rattle.std.specs.Str.{bytes_eq}
use Rattle.fwd_config.specs.Variables.{Values}
use Rattle.fwd_config.specs.Text.{Variable}
use Rattle.fwd_config.proofs.Append.{values_by_variable, sections_by_variable}
use Rattle.fwd_config.proofs.Meanings.{setting_means}
use Rattle.fwd_config.proofs.outline.Outline.set.Goals as goal

pub returns-clause-meaning : goal.returns-clause-meaning
returns-clause-meaning c = λ env above left place shows.
    let values = values_by_variable env above c.args.name.now c.in_ok-value.value in (
      Variable c.args.name.now c.in_ok-value.value ∷ [],
      setting_means env left place above c.args.self.now shows c.args.name.now c.args.value.now c.in_ok-value.value c.in_ok-value.ensures.0 c.in_ok-value.ensures.1,
      record {
        values = λ name. c.in_ok-set.ensures name ∙ ap (λ (v : List ℕ). cond (bytes_eq c.args.name.now name) c.in_ok-value.value v) (shows.values name) ∙ sym (ap (λ (f : Values). f name) values);
        sections = shows.sections ∙ sym (sections_by_variable above c.args.name.now c.in_ok-value.value);
      },
    )
