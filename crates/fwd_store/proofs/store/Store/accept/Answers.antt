use Rattle.fwd_store.proofs.Crashes.{others_stay, accepting, accepted_stands}
use Rattle.fwd_store.proofs.store.Store.accept.Goals as goal

pub returns-clause-any_moment : goal.returns-clause-any_moment
returns-clause-any_moment g c full meta content =
    accepting c.args.self.now c.args.input.0 c.args.stream.now c.args.tag.now c.args.home c.args.batch.now c.args.outputs.now meta content c.requires.tag c.requires.outputs _ _ c.accept_batch.result c.is_sound.ensures full c.requires.room c.accept_batch.ensures.calls

pub returns-clause-settled : goal.returns-clause-settled
returns-clause-settled g c meta content =
    accepted_stands c.args.self.now c.args.input.0 c.args.stream.now c.args.tag.now c.args.home c.args.batch.now c.args.outputs.now meta content c.requires.tag c.requires.outputs _ _ c.accept_batch.result c.accept_batch.new.self c.is_sound.ensures c.requires.room c.accept_batch.ensures.calls c.accept_batch.ensures.ok

pub returns-clause-others : goal.returns-clause-others
returns-clause-others g c = others_stay c.args.self.now c.args.input.0 c.args.stream.now c.args.tag.now c.args.home c.args.batch.now c.args.outputs.now _ _ c.accept_batch.result c.accept_batch.ensures.calls
