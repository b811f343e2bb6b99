-- A keeper of offsets: its calls, what each may answer, and what the keeper may hold after them.
use Rattle.std.specs.Prelude.{◌≡◌, ℕ, ◌&&◌, Bool, if◌then◌else◌, List, [], ◌∷◌, ◌++◌, Contains, Option, Some, None, Result, Ok, Err}
use Rattle.std.specs.Str.{bytes_eq}
use Rattle.fwd_outside.specs.Program.{Entry, entry, Program}
use Rattle.fwd_outside.specs.Log.{CallLog}
use Rattle.fwd_keeper.specs.declared.errors.KeepErr.{KeepErr}
use Rattle.fwd_keeper.specs.declared.errors.KeepErr.TheVariants.{Failed, Memory}

-- get the offset of a path, and put one
pub data KeeperCall : Type 0 where
  Get : (db path : List ℕ) → KeeperCall
  Put : (db path : List ℕ) → (place : ℕ) → KeeperCall
  -- not a call, but an instruction to a keeper in memory: the call of this number is to fail
  FailAt : (number : ℕ) → KeeperCall

-- None if the call failed. A path without an offset answers Some None.
abbrev pub KeeperAnswer : KeeperCall → Type 0
KeeperAnswer (Get db path) = Option (Option ℕ)
KeeperAnswer (Put db path place) = Option (Unit {0})
KeeperAnswer (FailAt number) = Unit {0}

abbrev pub KeeperEntry : Type 0
KeeperEntry = Entry KeeperCall KeeperAnswer

-- the first offsets, by database and path
abbrev pub KeeperGiven : Type 0
KeeperGiven = List ((List ℕ × List ℕ) × ℕ)

abbrev pub KeeperLog : Type 0
KeeperLog = CallLog KeeperGiven KeeperCall KeeperAnswer

abbrev pub KeeperProgram : Type 0 → Type 0
KeeperProgram R = Program KeeperCall KeeperAnswer R

-- the outcome of a call: a value, a failure, or none if memory was out
abbrev pub outcome : {T : Type 0} → Result T KeepErr → Option (Option T)
outcome (Ok value) = Some (Some value)
outcome (Err Failed) = Some None
outcome (Err Memory) = None

-- whether a database and a path are these
abbrev pub is_of : List ℕ → List ℕ → List ℕ → List ℕ → Bool
is_of db path other_db other_path = bytes_eq other_db db && bytes_eq other_path path

-- the offset of a path; None if there is none
abbrev pub found : KeeperGiven → List ℕ → List ℕ → Option ℕ
found [] db path = None
found (row ∷ rows) db path = if is_of db path row.0.0 row.0.1 then Some row.1 else found rows db path

-- What may be held for a path after a call, if one of these was held before: what was put; if the put
-- failed, this or what was there.
abbrev pub may_hold_after : (call : KeeperCall) → KeeperAnswer call → List ℕ → List ℕ → List (Option ℕ)
    → List (Option ℕ)
may_hold_after (Get other_db other_path) answer db path before = before
may_hold_after (Put other_db other_path place) (Some done) db path before =
    if is_of db path other_db other_path then Some place ∷ [] else before
may_hold_after (Put other_db other_path place) None db path before =
    if is_of db path other_db other_path then Some place ∷ before else before
may_hold_after (FailAt number) answer db path before = before

-- what may be held for a path after these calls
abbrev pub may_hold : List KeeperEntry → List ℕ → List ℕ → List (Option ℕ) → List (Option ℕ)
may_hold [] db path before = before
may_hold (e ∷ es) db path before = may_hold es db path (may_hold_after e.call e.answer db path before)

-- an answer that an honest keeper may give after these calls
abbrev pub MayAnswer : KeeperGiven → List KeeperEntry → (call : KeeperCall) → KeeperAnswer call → Type 0
MayAnswer given before (Get db path) None = Unit {0}
MayAnswer given before (Get db path) (Some place) =
    Contains (may_hold before db path (found given db path ∷ [])) place
MayAnswer given before (Put db path place) answer = Unit {0}
MayAnswer given before (FailAt number) answer = Unit {0}

-- an honest keeper with these first offsets may give these answers, after the calls before them
abbrev pub IsConsistentLog : KeeperGiven → List KeeperEntry → List KeeperEntry → Type 0
IsConsistentLog given before [] = Unit {0}
IsConsistentLog given before (e ∷ es) =
    MayAnswer given before e.call e.answer × IsConsistentLog given (before ++ e ∷ []) es

-- an offset was put for a path, whether the call failed or not
pub record WasPut (es : List KeeperEntry) (db path : List ℕ) (place : ℕ) : Type 0 where
  pub answer : Option (Unit {0})
  pub put : Contains es (entry (Put db path place) answer)
