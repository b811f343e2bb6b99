-- What a call comes to, and the state after it.
use Rattle.std.specs.Prelude.{Option, Some, None}

-- an answer with the state after it; None if memory was out
abbrev pub with_state : {T S : Type 0} → Option T → S → Option (T × S)
with_state (Some answer) k = Some (answer, k)
with_state None k = None
