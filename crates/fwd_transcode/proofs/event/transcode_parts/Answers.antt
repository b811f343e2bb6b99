use Rattle.std.proofs.Common.{ℕ, List, ◌∷◌, ap, refl, arith}
use Rattle.fwd_transcode.proofs.Values.{if_given}
use Rattle.fwd_transcode.proofs.Events.{opening_one, event_at_front, single_in_list}
use Rattle.fwd_transcode.proofs.event.transcode_parts.Goals as goal

pub returns-in-146-clause-given : goal.returns-in-146-clause-given
returns-in-146-clause-given c =
    let bytes = c.args.bytes.now in
    if_given c.transcode_with_meta.result _ _ (λ rest h. event_at_front c.args.depth (146 ∷ bytes) _ rest.now c.args.out.now _ (ap (λ (t : List ℕ). 146 ∷ t) (opening_one bytes _ 146 (omega arith) (omega arith) refl)) h) c.transcode_with_meta.ensures.given

pub returns-in_default-clause-given : goal.returns-in_default-clause-given
returns-in_default-clause-given c =
    if_given c.transcode_without_meta.result _ _ (λ rest h. single_in_list c.args.depth c.args.bytes.now rest.now c.args.out.now _ (omega arith) h) c.transcode_without_meta.ensures.given
