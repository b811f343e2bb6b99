use Rattle.std.proofs.Common.{◌≡◌, ◌++◌, ◌∙◌, List, ℕ, All, get_or, sym, subst, arith}
use Rattle.fwd_outside.specs.Disk.{IsFileName}
use Rattle.fwd_backlog.specs.Listing.{chunks_in}
use Rattle.fwd_backlog.proofs.ListableNames.{none_named, more_named}
use Rattle.fwd_backlog.proofs.Folders.{root_listed, root_stopped, folder_listed, folder_stopped, folder_unkept}
use Rattle.fwd_backlog.proofs.listing.list_files.Goals as goal

pub returns-in_err-streams-clause-calls : goal.returns-in_err-streams-clause-calls
returns-in_err-streams-clause-calls g c = root_stopped _ _ c.args.root.now c.in_err-streams.field-0.0 c.from_residual.result c.from_residual.ensures.1 c.in_err-streams.ensures.calls

pub loop-stream-init : goal.loop-stream-init
loop-stream-init g c = (
  root_listed _ _ c.args.root.now c.in_ok-streams.streams c.as_slice-stream-items.result.now c.new-files.result c.as_slice-stream-items.ensures c.new-files.ensures c.in_ok-streams.ensures.calls,
  c.in_ok-streams.ensures.cause.later,
  none_named c.new-files.result c.new-files.ensures,
)

pub returns-in_err-names-clause-calls : goal.returns-in_err-names-clause-calls
returns-in_err-names-clause-calls g c =
    let streams = c.as_slice-stream-items.result.now in
    let stream = c.as_slice.result.now in
    let is : stream ≡ get_or streams c.loop-stream.stream-index stream = subst (λ (s : List ℕ). s ≡ get_or streams c.loop-stream.stream-index s) (sym c.as_slice.ensures) c.stream-item.is in
    folder_stopped _ _ _ c.args.root.now streams c.loop-stream.stream-index stream c.loop-stream.files c.loop-stream-test.true is c.loop-stream.invariant.0
    c.in_err-names.field-0.0 c.from_residual-in_err-names.result c.from_residual-in_err-names.ensures.1 c.in_err-names.ensures.calls

pub returns-in_err-add_chunks-clause-calls : goal.returns-in_err-add_chunks-clause-calls
returns-in_err-add_chunks-clause-calls g c =
    let streams = c.as_slice-stream-items.result.now in
    let stream = c.as_slice.result.now in
    let is : stream ≡ get_or streams c.loop-stream.stream-index stream = subst (λ (s : List ℕ). s ≡ get_or streams c.loop-stream.stream-index s) (sym c.as_slice.ensures) c.stream-item.is in
    folder_unkept _ _ _ c.args.root.now streams c.loop-stream.stream-index stream c.loop-stream.files c.loop-stream-test.true is c.loop-stream.invariant.0
    c.in_ok-names.names c.from_residual-in_err-add_chunks.result c.from_residual-in_err-add_chunks.ensures.1 c.in_ok-names.ensures.calls

pub loop-stream-preserved : goal.loop-stream-preserved
loop-stream-preserved g c =
    let streams = c.as_slice-stream-items.result.now in
    let stream = c.as_slice.result.now in
    let is : stream ≡ get_or streams c.loop-stream.stream-index stream = subst (λ (s : List ℕ). s ≡ get_or streams c.loop-stream.stream-index s) (sym c.as_slice.ensures) c.stream-item.is in
    let is_stream : IsFileName stream =
    subst IsFileName (sym is) (subst (All IsFileName) (sym c.as_slice-stream-items.ensures) c.in_ok-streams.ensures.names c.loop-stream.stream-index stream c.loop-stream-test.true) in
    let grown : c.add_chunks.new.files ≡ c.loop-stream.files ++ chunks_in stream c.in_ok-names.names =
    subst (λ (s : List ℕ). c.add_chunks.new.files ≡ c.loop-stream.files ++ chunks_in s c.in_ok-names.names) (c.as_slice-in-loop-stream.ensures ∙ sym c.as_slice.ensures) c.in_ok-add_chunks.ensures in (
      folder_listed _ _ _ c.args.root.now streams c.loop-stream.stream-index stream c.loop-stream.files c.loop-stream-test.true is c.loop-stream.invariant.0
          c.in_ok-names.names c.add_chunks.new.files c.in_ok-names.ensures.calls grown,
      omega (arith, c.loop-stream.invariant.1, c.in_ok-names.ensures.cause.later),
      more_named stream c.in_ok-names.names c.loop-stream.files c.add_chunks.new.files is_stream c.in_ok-names.ensures.names c.loop-stream.invariant.2 grown,
    )
