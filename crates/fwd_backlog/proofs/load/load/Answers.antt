use Rattle.std.proofs.Common.{◌≡◌, ◌∙◌, List, subst}
use Rattle.fwd_chunk.specs.declared.chunk.Found.{Found}
use Rattle.fwd_backlog.specs.Serial.{next_number}
use Rattle.fwd_backlog.proofs.ListableNames.{found_named}
use Rattle.fwd_backlog.proofs.Files.{listing_stopped, loading_unordered, loading_stopped, loading_done, all_short}
use Rattle.fwd_backlog.proofs.load.load.Goals as goal

pub returns-in_err-listed-clause-loaded : goal.returns-in_err-listed-clause-loaded
returns-in_err-listed-clause-loaded g c = listing_stopped _ _ c.args.root.now c.in_err-listed.field-0.0 c.from_residual.result c.from_residual.ensures.1 c.in_err-listed.ensures.calls

pub returns-in_err-files-clause-loaded : goal.returns-in_err-files-clause-loaded
returns-in_err-files-clause-loaded g c =
    loading_unordered _ _ c.args.root.now c.in_ok-listed.listed c.in_ok-listed.ensures.calls c.from_residual-in_err-files.result c.from_residual-in_err-files.ensures.1

pub returns-in_err-found-clause-loaded : goal.returns-in_err-found-clause-loaded
returns-in_err-found-clause-loaded g c =
    loading_stopped _ _ _ c.args.root.now c.in_ok-listed.listed c.in_ok-listed.ensures.calls c.as_slice.result.now c.in_err-found.field-0.0 c.from_residual-in_err-found.result (c.as_slice.ensures ∙ c.in_ok-files.ensures) c.from_residual-in_err-found.ensures.1
    c.in_err-found.ensures.calls

pub returns-clause-loaded : goal.returns-clause-loaded
returns-clause-loaded g c =
    let next = subst (λ (found : List Found). c.next_number-next.result ≡ next_number found) c.as_slice-2.ensures c.next_number-next.ensures.next in
    loading_done _ _ _ c.args.root.now c.in_ok-listed.listed c.in_ok-listed.ensures.calls c.as_slice.result.now c.in_ok-found.found c.next_number-next.result (c.as_slice.ensures ∙ c.in_ok-files.ensures) c.in_ok-found.ensures.calls next

pub returns-clause-meta : goal.returns-clause-meta
returns-clause-meta g c = all_short _ _ c.args.root.now c.as_slice.result.now c.in_ok-found.found c.in_ok-found.ensures.calls

pub returns-clause-named : goal.returns-clause-named
returns-clause-named g c =
    found_named _ _ c.args.root.now c.in_ok-listed.listed c.as_slice.result.now c.in_ok-found.found (c.as_slice.ensures ∙ c.in_ok-files.ensures) c.in_ok-listed.ensures.names c.in_ok-found.ensures.calls
