-- What a message says can be encoded again.
use Rattle.std.specs.Prelude.{◌≤◌, All, IfSome}
use Rattle.fwd_value.specs.Limits.{nesting, LengthsFit}
use Rattle.fwd_event.specs.Event.{EventFits}
use Rattle.fwd_wire.specs.Message.{MessageContent, nothing, batch}

-- its events have encodings, and so has the acknowledgement of its chunk
abbrev pub ContentFits : MessageContent → Type 0
ContentFits nothing = Unit {0}
ContentFits (batch t es k) = All EventFits es × IfSome k (λ v. (nesting v ≤ 63) × LengthsFit v)
