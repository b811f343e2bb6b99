-- What floats are, as JSON defines it.
pub use Rattle.fwd_json.specs.declared.floats.Floats.{Floats}
pub use Rattle.fwd_json.specs.declared.floats.Floats.TheVariants.{Tagged, Numbers}
