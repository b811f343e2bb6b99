use Rattle.std.proofs.Common.{List, ℕ, arith, subst, ◌∙◌}
use Rattle.std.proofs.lemmas.List.{take_all}
use Rattle.fwd_model.specs.FollowedFiles.{unread}
use Rattle.fwd_engine_inputs.specs.FileRepresents.{FileRepresents}
use Rattle.fwd_engine_inputs.proofs.UnreadFiles.{AreUnread, path_more, stand_unread}
use Rattle.fwd_engine_inputs.proofs.input_files.unread.Goals as goal

pub returns : goal.returns
returns c =
    let all = take_all c.loop-path.path-index c.as_slice-path-items.result.now (omega arith) ∙ c.as_slice-path-items.ensures in
    stand_unread c.args.from_head c.args.paths.now c.loop-path.sources.items (subst (λ (l : List (List ℕ)). AreUnread c.args.from_head l c.loop-path.sources.items) all c.loop-path.invariant)

pub loop-path-preserved : goal.loop-path-preserved
loop-path-preserved c =
    path_more c.args.from_head c.as_slice-path-items.result.now c.loop-path.path-index c.path-item.result c.in_ok-new.field-0 c.loop-path.sources.items c.push.new.self.items (omega arith) c.path-item.is c.in_ok-push.ensures.items c.loop-path.invariant
    (subst (λ (p : List ℕ). FileRepresents p c.args.from_head unread c.in_ok-new.field-0) c.as_slice.ensures c.in_ok-new.ensures)
