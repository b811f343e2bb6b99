use Rattle.std.proofs.Common.{Some}
use Rattle.fwd_outside.specs.Program.{Return}
use Rattle.fwd_backlog.specs.declared.error.LoadErr.TheVariants.{Memory}
use Rattle.fwd_backlog.specs.LoadProgram.{load_program}
use Rattle.fwd_backlog.proofs.Calls.{rests, loaded_err}
use Rattle.fwd_report.proofs.listing_text.listing.Goals as goal

pub returns-in_err-text_of-clause-listed : goal.returns-in_err-text_of-clause-listed
returns-in_err-text_of-clause-listed g c =
    let program = load_program c.args.root.now in
    let loaded = c.in_ok-backlog.ensures.loaded in
    loaded_err _ _ program _ Memory c.from_residual-in_err-text_of.result c.from_residual-in_err-text_of.ensures.1 (rests _ _ program (Return (Some loaded.0)) loaded.1 (λ same. cc same))
