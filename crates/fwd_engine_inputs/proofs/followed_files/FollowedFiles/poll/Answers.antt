use Rattle.std.proofs.Common.{arith, length, refl}
use Rattle.std.proofs.lemmas.Option.{slice_get_read}
use Rattle.fwd_engine_inputs.proofs.FileSteps.{polls_on, stays_on, stand_of, no_path}
use Rattle.fwd_engine_inputs.proofs.followed_files.FollowedFiles.poll.Goals as goal

pub returns-then-place-len-clause-polls : goal.returns-then-place-len-clause-polls
returns-then-place-len-clause-polls g c =
    polls_on c.args.self.now _ c.args.input.0 c.index_mut.result.now c.poll.new.self (omega arith) (slice_get_read c.args.self.now.inputs.items _ c.args.input.0 c.index_mut.result.now refl (omega arith) c.index_mut.ensures.value) refl _ _ c.args.index c.poll.result c.poll.ensures.polls

pub returns-then-place-len-clause-err : goal.returns-then-place-len-clause-err
returns-then-place-len-clause-err g c =
    stays_on c.args.self.now _ c.args.input.0 c.index_mut.result.now c.poll.new.self (omega arith) (slice_get_read c.args.self.now.inputs.items _ c.args.input.0 c.index_mut.result.now refl (omega arith) c.index_mut.ensures.value) refl c.poll.result c.poll.ensures.err

pub returns-then-place-len-clause-cause : goal.returns-then-place-len-clause-cause
returns-then-place-len-clause-cause g c = λ s h path k here.
    let there = slice_get_read c.args.self.now.inputs.items (length c.args.self.now.inputs.items) c.args.input.0 c.index_mut.result.now refl (omega arith) c.index_mut.ensures.value in
    c.poll.ensures.cause _ _ _ path (stand_of s h c.args.self.now c.args.input.0 c.index_mut.result.now k there) here

pub returns-else-place-len-clause-polls : goal.returns-else-place-len-clause-polls
returns-else-place-len-clause-polls g c = λ s h path k here. absurd (no_path s h c.args.self.now c.args.input.0 c.args.index path k (omega arith) here)

pub returns-else-place-len-clause-cause : goal.returns-else-place-len-clause-cause
returns-else-place-len-clause-cause g c = λ s h path k here. absurd (no_path s h c.args.self.now c.args.input.0 c.args.index path k (omega arith) here)
