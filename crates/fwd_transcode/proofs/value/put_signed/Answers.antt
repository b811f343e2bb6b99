use Rattle.std.proofs.Common.{◌++◌, ℤ, FitsSigned, to_z-of_z, w64, sym, ap, subst, ◌∙◌}
use Rattle.fwd_msgpack.specs.Canonical.{whole_bytes}
use Rattle.fwd_msgpack.proofs.EncodeLoops.{on_ok}
use Rattle.fwd_transcode.proofs.Values.{cast_fits}
use Rattle.fwd_transcode.proofs.value.put_signed.Goals as goal

pub returns-clause-ok : goal.returns-clause-ok
returns-clause-ok c =
    let fits : FitsSigned w64 c.sign_extended.result = subst (FitsSigned w64) (sym c.sign_extended.ensures) (cast_fits c.args.width c.args.n c.requires) in
    on_ok c.put_whole.result _ _ (λ e. e ∙ ap (λ (n : ℤ). c.args.out.now ++ whole_bytes n) (to_z-of_z fits ∙ c.sign_extended.ensures)) c.put_whole.ensures.ok
