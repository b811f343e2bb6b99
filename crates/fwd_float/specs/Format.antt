-- The two formats, as the code names them.
use Rattle.std.specs.Float.Ieee.{Format, binary32, binary64}
use Rattle.fwd_float.specs.declared.precision.Precision.{Precision}
use Rattle.fwd_float.specs.declared.precision.Precision.TheVariants.{Single, Double}

abbrev pub format_of : Precision → Format
format_of Single = binary32
format_of Double = binary64
