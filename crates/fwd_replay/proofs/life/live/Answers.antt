use Rattle.std.proofs.Common.{ℕ, IfOk, subst}
use Rattle.fwd_replay.specs.RunState.{EndsAs, Ended}
use Rattle.fwd_replay.specs.declared.turns.TurnsEnd.{TurnsEnd}
use Rattle.fwd_replay.proofs.Handover.{named_of}
use Rattle.fwd_replay.proofs.life.live.Goals as goal

pub leave_over-requires : goal.leave_over-requires
leave_over-requires g c =
    let r = c.requires.stands in
    let over = subst (λ (e : TurnsEnd). Ended r.0 r.1 c.args.life.now c.args.most c.take_turns.new.going c.take_turns.new.disk c.take_turns.new.files c.take_turns.new.keeper e) c.in-Over.is (c.in_ok-end.ensures.ended r.0 r.1 r.3) in
    named_of c.args.named.now c.take_turns.new.going.engine r.0 over.history r.2 over.at

pub end_over-requires : goal.end_over-requires
end_over-requires g c =
    let r = c.requires.stands in
    let over = subst (λ (e : TurnsEnd). Ended r.0 r.1 c.args.life.now c.args.most c.take_turns.new.going c.take_turns.new.disk c.take_turns.new.files c.take_turns.new.keeper e) c.in-Over.is (c.in_ok-end.ensures.ended r.0 r.1 r.3) in
    named_of c.args.named.now c.take_turns.new.going.engine r.0 over.history r.2 over.at

pub leave_in_turn-requires-clause-named : goal.leave_in_turn-requires-clause-named
leave_in_turn-requires-clause-named g c =
    let r = c.requires.stands in
    let over = subst (λ (e : TurnsEnd). Ended r.0 r.1 c.args.life.now c.args.most c.take_turns.new.going c.take_turns.new.disk c.take_turns.new.files c.take_turns.new.keeper e) c.in-Cut.is (c.in_ok-end.ensures.ended r.0 r.1 r.3) in
    λ κs below. named_of c.args.named.now c.take_turns.new.going.engine r.0 over.0.history r.2 over.0.at

pub end_spent-requires : goal.end_spent-requires
end_spent-requires g c =
    let r = c.requires.stands in
    let over = subst (λ (e : TurnsEnd). Ended r.0 r.1 c.args.life.now c.args.most c.take_turns.new.going c.take_turns.new.disk c.take_turns.new.files c.take_turns.new.keeper e) c.in-TurnsSpent.is (c.in_ok-end.ensures.ended r.0 r.1 r.3) in
    named_of c.args.named.now c.take_turns.new.going.engine r.0 over.0.history r.2 over.0.at

pub leave_in_turn-requires-clause-left : goal.leave_in_turn-requires-clause-left
leave_in_turn-requires-clause-left g c =
    let r = c.requires.stands in
    let cut = subst (λ (e : TurnsEnd). Ended r.0 r.1 c.args.life.now c.args.most c.take_turns.new.going c.take_turns.new.disk c.take_turns.new.files c.take_turns.new.keeper e) c.in-Cut.is (c.in_ok-end.ensures.ended r.0 r.1 r.3) in
    λ κs below. cut.1

pub returns-in-Some : goal.returns-in-Some
returns-in-Some g c s begins named under =
    let over = subst (λ (e : TurnsEnd). Ended s begins c.args.life.now c.args.most c.take_turns.new.going c.take_turns.new.disk c.take_turns.new.files c.take_turns.new.keeper e) c.in-Over.is (c.in_ok-end.ensures.ended s begins under) in
    c.leave_over.ensures s begins c.args.life.now c.args.most named over c.in-Some.is c.in_ok-end.ensures.taken

pub returns-in-None : goal.returns-in-None
returns-in-None g c s begins named under =
    let over = subst (λ (e : TurnsEnd). Ended s begins c.args.life.now c.args.most c.take_turns.new.going c.take_turns.new.disk c.take_turns.new.files c.take_turns.new.keeper e) c.in-Over.is (c.in_ok-end.ensures.ended s begins under) in
    c.end_over.ensures s begins c.args.life.now c.args.most c.take_turns.new.files named over c.in-None.is c.in_ok-end.ensures.taken

pub returns-in-Cut : goal.returns-in-Cut
returns-in-Cut g c s begins named under =
    let cut = subst (λ (e : TurnsEnd). Ended s begins c.args.life.now c.args.most c.take_turns.new.going c.take_turns.new.disk c.take_turns.new.files c.take_turns.new.keeper e) c.in-Cut.is (c.in_ok-end.ensures.ended s begins under) in
    c.leave_in_turn.ensures s begins c.args.life.now named cut.0

pub returns-in-LoopFailed : goal.returns-in-LoopFailed
returns-in-LoopFailed g c s begins named under =
    let failed = subst (λ (e : TurnsEnd). Ended s begins c.args.life.now c.args.most c.take_turns.new.going c.take_turns.new.disk c.take_turns.new.files c.take_turns.new.keeper e) c.in-LoopFailed.is (c.in_ok-end.ensures.ended s begins under) in
    c.end_failed.ensures c.args.named.now.shown s begins c.args.life.now c.args.most c.take_turns.new.files failed c.in_ok-end.ensures.taken

pub returns-in-TurnsSpent : goal.returns-in-TurnsSpent
returns-in-TurnsSpent g c s begins named under =
    let spent = subst (λ (e : TurnsEnd). Ended s begins c.args.life.now c.args.most c.take_turns.new.going c.take_turns.new.disk c.take_turns.new.files c.take_turns.new.keeper e) c.in-TurnsSpent.is (c.in_ok-end.ensures.ended s begins under) in
    subst (λ (n : ℕ). IfOk c.end_spent.result (EndsAs c.args.named.now.shown s n begins c.args.life.now c.take_turns.new.going c.take_turns.new.disk c.take_turns.new.files c.take_turns.new.keeper)) spent.1
    (c.end_spent.ensures s begins c.args.life.now c.take_turns.new.files named spent.0)
