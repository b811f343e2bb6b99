use Rattle.std.proofs.Common.{List, ◌++◌, ℕ, map, length, sym, ◌∙◌, ap, refl, arith}
use Rattle.std.proofs.lemmas.List.{take_all, append-nil}
use Rattle.std.proofs.lemmas.Option.{slice_get_read}
use Rattle.fwd_model.specs.KeptOffsets.{tracked_from}
use Rattle.fwd_engine_run.specs.OneOffset.{new_row, tracked_file}
use Rattle.fwd_engine_run.proofs.NewRows.{path_pushed}
use Rattle.fwd_engine_run.proofs.kept_offsets.push_paths.Goals as goal

pub loop-index-init : goal.loop-index-init
loop-index-init c = sym (append-nil c.args.rows.now.items)

pub loop-index-preserved : goal.loop-index-preserved
loop-index-preserved c =
    let i = c.loop-index.index in
    let paths = c.args.paths.now in
    path_pushed c.args.rows.now.items c.loop-index.rows.items c.push.new.self.items c.args.input.0 c.args.db.now paths i c.in_ok-new.field-0 c.index-paths-index.result
    (slice_get_read paths (length paths) i c.index-paths-index.result refl (omega arith) c.index-paths-index.is)
    (c.in_ok-new.ensures ∙ ap (λ (p : List ℕ). new_row (tracked_file c.args.input.0 i c.args.db.now p)) c.as_slice.ensures)
    c.in_ok-push.ensures.items c.loop-index.invariant

pub returns : goal.returns
returns c =
    let all = take_all c.loop-index.index c.args.paths.now (omega arith) in
    c.loop-index.invariant ∙ ap (λ (l : List (List ℕ)). c.args.rows.now.items ++ map new_row (tracked_from c.args.input.0 0 c.args.db.now l)) all
