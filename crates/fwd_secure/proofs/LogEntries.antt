-- The answers that a keyed loop logs.
use Rattle.std.proofs.Common.{Option, Some, None}
use Rattle.fwd_outside.specs.declared.answers.Begun.{Begun}
use Rattle.fwd_outside.specs.declared.answers.Begun.TheVariants as begun
use Rattle.fwd_outside.specs.declared.answers.Pushed.{Pushed}
use Rattle.fwd_outside.specs.declared.answers.Pushed.TheVariants as pushed
use Rattle.fwd_outside.specs.declared.answers.Replied.{Replied}
use Rattle.fwd_outside.specs.declared.answers.Replied.TheVariants as replied
use Rattle.fwd_outside.specs.Loop.{PushAnswer, Took, Again, Broke}

-- out of memory, nothing is logged
abbrev pub begun_answer : Begun → Option (Unit {0})
begun_answer begun.Ready = Some tt
begun_answer begun.Failed = None
begun_answer begun.Memory = None

abbrev pub pushed_answer : Pushed → PushAnswer
pushed_answer (pushed.Took bytes) = Took bytes
pushed_answer pushed.Again = Again
pushed_answer pushed.Broken = Broke
pushed_answer pushed.Memory = Broke

abbrev pub replied_answer : Replied → Option (Unit {0})
replied_answer replied.Taken = Some tt
replied_answer replied.Broken = None
replied_answer replied.Memory = None
