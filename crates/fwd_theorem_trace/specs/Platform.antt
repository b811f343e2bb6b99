-- A platform that answers each call given the calls before it.
use Rattle.std.specs.Prelude.{◌≡◌, List, [], ◌∷◌, ◌++◌}
use Rattle.fwd_model.specs.Trace.{Call, Answer, TraceEntry}

-- What a platform answers to a call, given all earlier calls and answers: of the loop, the disk, the
-- files and the keeper of offsets. The states of the devices are functions of these calls.
abbrev pub Platform : Type 0
Platform = List TraceEntry → (call : Call) → Answer call

-- after the calls in `before`, each answer is the one that this platform gives
abbrev pub AreAnswersOf : Platform → List TraceEntry → List TraceEntry → Type 0
AreAnswersOf outside before [] = Unit {0}
AreAnswersOf outside before (e ∷ es) =
    (e.answer ≡ outside before e.call) × AreAnswersOf outside (before ++ e ∷ []) es
