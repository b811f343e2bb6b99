use Rattle.fwd_chunk.proofs.MetadataSteps.{unnamed, named_some, named_none}
use Rattle.fwd_chunk.proofs.metadata.parse_named.Goals as goal

pub returns-in_default : goal.returns-in_default
returns-in_default c = unnamed c.args.meta.now c.in_default.ensures

pub returns-in_ok-from_slice-in-Some-2 : goal.returns-in_ok-from_slice-in-Some-2
returns-in_ok-from_slice-in-Some-2 c =
    named_some c.args.meta.now c.in-Some.tag.now c.in-Some.outputs.now c.in_ok-from_slice-in-Some-2.field-0 c.in_ok-outputs.field-0 c.in-Some-2.outputs c.in-Some.ensures c.in_ok-outputs.ensures c.in-Some-2.is
    c.in_ok-from_slice-in-Some-2.ensures

pub returns-in-None : goal.returns-in-None
returns-in-None c = named_none c.args.meta.now c.in-Some.tag.now c.in-Some.outputs.now c.in_ok-outputs.field-0 c.in-Some.ensures c.in_ok-outputs.ensures c.in-None.is
