-- Events whose numbers are in the ranges that events in files have.
use Rattle.std.specs.Prelude.{◌<◌, ◌^◌}
use Rattle.fwd_value.specs.Val.{mapping, entries_of}
use Rattle.fwd_value.specs.Limits.{IsInRange}
use Rattle.fwd_event.specs.declared.event.Event.{Event}

-- Its time has 32 bits of seconds and of nanoseconds. All whole numbers, floats and extension types in its
-- metadata and its record are in range.
pub record NumbersFit (e : Event) : Type 0 where
  pub sec : e.sec < 2 ^ 32
  pub nsec : e.nsec < 2 ^ 32
  pub meta : IsInRange (mapping (entries_of e.meta))
  pub body : IsInRange (mapping (entries_of e.body))
