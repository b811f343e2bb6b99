use Rattle.std.proofs.Common.{◌≡◌, ◌≤◌, ◌<◌, ◌^◌, List, ℕ, length, Some, Ok, refl, sym, ap, ◌∙◌, subst, arith}
use Rattle.fwd_base.specs.Limits.{most_outputs}
use Rattle.fwd_outside.specs.Program.{Return}
use Rattle.fwd_outside.proofs.DiskPrograms.{placed, went, stopped, exits, no_call, no_memory}
use Rattle.fwd_chunk.specs.Layout.{new_meta}
use Rattle.fwd_chunk.specs.Append.{create_program, new_head}
use Rattle.fwd_chunk.proofs.Creation.{length-new_meta, are_short, bytes_of, head_is}
use Rattle.fwd_chunk.proofs.new_file.create_inner.Goals as goal

pub metadata-requires-clause-few : goal.metadata-requires-clause-few
metadata-requires-clause-few g c = subst (λ (l : List (List ℕ)). length l ≤ most_outputs) (sym c.as_slice.ensures) c.requires.outputs.few

pub returns-in_err-meta-clause-calls : goal.returns-in_err-meta-clause-calls
returns-in_err-meta-clause-calls g c = (exits c.from_residual.result c.from_residual.ensures.1 (no_memory _ (create_program c.args.name.now c.args.tag.now c.args.batch.now c.args.outputs.now) (λ is. absurd (cc is)))).makes

pub returns-in_err-head-clause-calls : goal.returns-in_err-head-clause-calls
returns-in_err-head-clause-calls g c = (exits c.from_residual-in_err-head.result c.from_residual-in_err-head.ensures.1 (no_memory _ (create_program c.args.name.now c.args.tag.now c.args.batch.now c.args.outputs.now) (λ is. absurd (cc is)))).makes

pub file_bytes-requires-clause-meta : goal.file_bytes-requires-clause-meta
file_bytes-requires-clause-meta g c =
    let is : c.as_slice-2.result.now ≡ new_meta c.args.tag.now c.args.outputs.now = c.as_slice-2.ensures ∙ c.in_ok-meta.ensures ∙ ap (new_meta c.args.tag.now) c.as_slice.ensures in
    let short = length-new_meta c.args.tag.now c.args.outputs.now c.requires.tag c.requires.outputs.few (are_short c.args.outputs.now c.requires.outputs) in
    subst (λ (l : List ℕ). length l < 2 ^ 16) (sym is) (omega (arith, short))

pub returns-in_err-bytes-clause-calls : goal.returns-in_err-bytes-clause-calls
returns-in_err-bytes-clause-calls g c = (exits c.from_residual-in_err-bytes.result c.from_residual-in_err-bytes.ensures.1 (no_memory _ (create_program c.args.name.now c.args.tag.now c.args.batch.now c.args.outputs.now) (λ is. absurd (cc is)))).makes

pub returns-in_err-place-clause-calls : goal.returns-in_err-place-clause-calls
returns-in_err-place-clause-calls g c =
    let is : c.as_slice-2.result.now ≡ new_meta c.args.tag.now c.args.outputs.now = c.as_slice-2.ensures ∙ c.in_ok-meta.ensures ∙ ap (new_meta c.args.tag.now) c.as_slice.ensures in
    (exits c.from_residual-in_err-place.result c.from_residual-in_err-place.ensures.1
    (stopped (λ _. Return (Some (new_head c.args.name.now c.args.tag.now c.args.batch.now c.args.outputs.now)))
    (λ _ is. absurd (cc is)) (placed refl (bytes_of c.args.tag.now c.args.batch.now c.args.outputs.now c.as_slice-2.result.now c.as_slice-3.result.now is (c.as_slice-3.ensures ∙ c.in_ok-bytes.ensures)) c.in_err-place.ensures.call_log))).makes

pub returns-clause-calls : goal.returns-clause-calls
returns-clause-calls g c =
    let is : c.as_slice-2.result.now ≡ new_meta c.args.tag.now c.args.outputs.now = c.as_slice-2.ensures ∙ c.in_ok-meta.ensures ∙ ap (new_meta c.args.tag.now) c.as_slice.ensures in
    let head = new_head c.args.name.now c.args.tag.now c.args.batch.now c.args.outputs.now in
    let same : c.in_ok-head.head ≡ head = head_is c.in_ok-head.head c.args.name.now c.args.tag.now c.args.batch.now c.args.outputs.now c.in_ok-meta.meta c.len.result c.in_ok-head.ensures c.len.ensures (c.in_ok-meta.ensures ∙ ap (new_meta c.args.tag.now) c.as_slice.ensures) in
    rw same
    ((went (λ _. Return (Some head)) {r = Ok head}
    (placed refl (bytes_of c.args.tag.now c.args.batch.now c.args.outputs.now c.as_slice-2.result.now c.as_slice-3.result.now is (c.as_slice-3.ensures ∙ c.in_ok-bytes.ensures)) c.in_ok-place.ensures.call_log)
    (no_call _ head)).makes)
