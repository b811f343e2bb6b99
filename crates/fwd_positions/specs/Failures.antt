-- What the outcome of a call on a database means.
use Rattle.std.specs.Prelude.{◌≡◌, Option, Some, None, Result, Ok, Err, IsErr}
use Rattle.sqlite.specs.declared.error.Error.{Error}
use Rattle.sqlite.specs.declared.error.Error.TheVariants.{SqliteFailure}
use Rattle.sqlite.specs.declared.error.ErrorCode.TheVariants.{OutOfMemory}
use Rattle.fwd_positions.specs.declared.errors.Failure.TheVariants.{Sqlite}
use Rattle.fwd_positions.specs.declared.errors.DatabaseErr.{DatabaseErr}
use Rattle.fwd_positions.specs.declared.errors.DatabaseErr.TheVariants.{Failed, Memory}

-- an error of SQLite: a failure, or memory that is out
abbrev pub error_of : Error → DatabaseErr
error_of (SqliteFailure OutOfMemory) = Memory
error_of error = Failed (Sqlite error)

-- what is open after a call: nothing if the database failed
abbrev pub opened_after : {T X : Type 0} → Result T DatabaseErr → Option X → Option X
opened_after (Ok value) opened = opened
opened_after (Err (Failed failure)) opened = None
opened_after (Err Memory) opened = opened

-- a value if there is one, none if the database failed; nothing else is an error but memory that is out
abbrev pub IsAnswer : {T E : Type 0} → Result T DatabaseErr → Result (Option T) E → Type 0
IsAnswer (Ok value) answer = answer ≡ Ok (Some value)
IsAnswer (Err (Failed failure)) answer = answer ≡ Ok None
IsAnswer (Err Memory) answer = IsErr answer
