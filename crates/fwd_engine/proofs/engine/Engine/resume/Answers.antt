use Rattle.std.proofs.Common.{Result, Ok, Err, refl}
use Rattle.std.specs.Prelude.{OnOk}
use Rattle.fwd_engine.proofs.KeptOffsets.{resumed_engine}
use Rattle.fwd_engine.proofs.engine.Engine.resume.Goals as goal

if_ok : {T E P Q : Type 0} (r : Result T E) → (P → Q) → OnOk r P → OnOk r Q
if_ok (Ok x) then is = then is
if_ok (Err e) then is = tt

pub returns : goal.returns
returns c = if_ok c.resume.result (λ follows s h at. resumed_engine c.args.self.now _ s h c.args.input.0 c.args.place c.args.path.now refl refl refl refl (follows s h at.shows.followed_files) at) c.resume.ensures
