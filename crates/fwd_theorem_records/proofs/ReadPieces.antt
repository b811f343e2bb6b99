-- What a run read over connections, by its facts.
use Rattle.std.proofs.Common.{List, [], ◌∷◌}
use Rattle.fwd_msgpack.specs.Encodings.{AllBytes}
use Rattle.fwd_outside.specs.declared.happening.Happening.TheVariants as happening
use Rattle.fwd_model.specs.Fact.{History, Happened}

-- what came over connections are bytes
abbrev pub PiecesAreBytes : History → Type 0
PiecesAreBytes [] = Unit {0}
PiecesAreBytes (Happened (happening.Piece input conn bytes) ∷ h) = AllBytes bytes × PiecesAreBytes h
PiecesAreBytes (_ ∷ h) = PiecesAreBytes h
