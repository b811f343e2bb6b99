use Rattle.std.proofs.Common.{sym}
use Rattle.fwd_payload.proofs.parcel.pack.Goals as goal

pub returns-in-Http-clause-parcel : goal.returns-in-Http-clause-parcel
returns-in-Http-clause-parcel c = rw (c.in-Http.is, sym c.as_slice-in-Http.ensures, sym c.as_slice-in-Http-2.ensures) c.request.ensures.request
