use Rattle.std.proofs.Common.{sym, ap, ◌∙◌}
use Rattle.std.specs.Prelude.{option_map}
use Rattle.fwd_top.specs.Views.{run_options}
use Rattle.fwd_top.proofs.ReadOptions.{option_added}
use Rattle.fwd_top.proofs.words.+read_options.Goals as goal

pub returns-in-Some : goal.returns-in-Some
returns-in-Some t c =
    let added = sym c.with_option.ensures ∙ ap (option_map run_options) c.in-Some.is in
    option_added c.args.words.now c.name-item.result c.value-item.result _ _ (run_options c.args.so_far) (run_options c.in-Some.options) _ c.in-len2-up.len_at_least c.name-item.is c.value-item.is
    (rw (c.as_bytes.ensures.value, c.as_bytes-in-len2-up.ensures.value) at added) c.read_options.ensures
