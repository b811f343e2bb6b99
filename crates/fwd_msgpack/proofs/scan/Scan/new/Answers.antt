use Rattle.std.proofs.Common.{List, ℕ, refl, sym, ap, subst, ◌∙◌}
use Rattle.fwd_msgpack.specs.Levels.{MissesOne}
use Rattle.fwd_msgpack.specs.ScanState.{skip_levels}
use Rattle.fwd_msgpack.proofs.Skipping.{first_of_all}
use Rattle.fwd_msgpack.proofs.scan.Scan.new.Goals as goal

pub returns : goal.returns
returns c = record {
  wanting = subst MissesOne (sym c.in_ok-new.ensures) tt;
  seen = refl;
  follows = λ more. first_of_all more ∙ ap (λ (ns : List ℕ). skip_levels ns more) (sym c.in_ok-new.ensures);
}
