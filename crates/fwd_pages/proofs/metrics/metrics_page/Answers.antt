use Rattle.std.proofs.Common.{codes, refl}
use Rattle.fwd_pages.specs.Pages.{metrics_of, input_entries, output_entries}
use Rattle.fwd_pages.proofs.Elements.{two_lists}
use Rattle.fwd_pages.proofs.metrics.metrics_page.Goals as goal

pub returns : goal.returns
unfolding metrics_of
returns c =
    rw (c.in_ok-extend_from_slice-3.ensures.ok, c.in_ok-push_outputs.ensures, c.in_ok-extend_from_slice-2.ensures.ok, c.in_ok-push_inputs.ensures, c.in_ok-extend_from_slice.ensures.ok, c.new-text.ensures, c.as_slice.ensures, c.as_slice-2.ensures, c.as_slice-3.ensures, c.as_slice-4.ensures)
    (two_lists (codes "{\"input\":{") (input_entries c.args.inputs.now c.args.tally.now.inputs) (codes "},\"output\":{") (output_entries c.args.outputs.now c.args.tally.now.outputs) (codes "}}\n"))
