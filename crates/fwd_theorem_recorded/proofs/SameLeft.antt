-- The same calls with the same answers leave the same of an action.
use Rattle.std.proofs.Common.{◌≡◌, ℕ, List, [], ◌∷◌, ◌++◌, Option, sym, ap, ◌∙◌, refl, subst}
use Rattle.fwd_outside.specs.Program.{entry, Return, Ask, Execution}
use Rattle.fwd_outside.specs.Loop.{LoopCall, LoopAnswer, PushAnswer, Start, Wait, Dial, Push, Close, Reply, DropConn, Word}
use Rattle.fwd_outside.specs.Disk.{DiskCall, DiskAnswer, Place, WriteAt, Sync, Remove, Read, ListNames, Preset, FailAt}
use Rattle.fwd_outside.specs.Files.{FilesCall, FilesAnswer, Length, ReadAt, Changed}
use Rattle.fwd_outside.specs.Files.{FailAt as FilesFailAt}
use Rattle.fwd_outside.specs.declared.happening.Happening.{Happening}
use Rattle.fwd_keeper.specs.Keeper.{KeeperCall, KeeperAnswer, Get, Put, FailAt as KeeperFailAt}
use Rattle.fwd_model.specs.Trace.{Call, Answer, Action, TraceEntry, OnLoop, OnDisk, OnFiles, OnKeeper, Note}

-- an answer, whatever the call
data AnyAnswer : Type 0 where
  Done : Option (Unit {0}) → AnyAnswer
  Event : Happening → AnyAnswer
  Number : Option ℕ → AnyAnswer
  Pushed : PushAnswer → AnyAnswer
  Random : ℕ → AnyAnswer
  Bytes : Option (List ℕ) → AnyAnswer
  Names : Option (List (List ℕ)) → AnyAnswer
  Kept : Option (Option ℕ) → AnyAnswer
  Nothing : AnyAnswer

loop_answer : (call : LoopCall) → LoopAnswer call → AnyAnswer
loop_answer (Start ends) a = Done a
loop_answer (Wait until paused) a = Event a
loop_answer (Dial output tag) a = Number a
loop_answer (Push link bytes) a = Pushed a
loop_answer (Close link) a = Nothing
loop_answer (Reply conn bytes) a = Done a
loop_answer (DropConn conn) a = Nothing
loop_answer Word a = Random a

disk_answer : (call : DiskCall) → DiskAnswer call → AnyAnswer
disk_answer (Place name bytes) a = Done a
disk_answer (WriteAt name at bytes) a = Done a
disk_answer (Sync name) a = Done a
disk_answer (Remove name) a = Done a
disk_answer (Read name at len) a = Bytes a
disk_answer (ListNames folder) a = Names a
disk_answer (Preset name bytes) a = Nothing
disk_answer (FailAt number) a = Nothing

files_answer : (call : FilesCall) → FilesAnswer call → AnyAnswer
files_answer (Length path) a = Number a
files_answer (ReadAt path at max) a = Bytes a
files_answer (Changed path bytes) a = Nothing
files_answer (FilesFailAt number) a = Nothing

keeper_answer : (call : KeeperCall) → KeeperAnswer call → AnyAnswer
keeper_answer (Get db path) a = Kept a
keeper_answer (Put db path place) a = Done a
keeper_answer (KeeperFailAt number) a = Nothing

any_answer : (call : Call) → Answer call → AnyAnswer
any_answer (OnLoop call) a = loop_answer call a
any_answer (OnDisk call) a = disk_answer call a
any_answer (OnFiles call) a = files_answer call a
any_answer (OnKeeper call) a = keeper_answer call a
any_answer (Note fact) a = Nothing

-- ---- it tells the answers of a call apart

done_same : (a b : Option (Unit {0})) → Done a ≡ Done b → a ≡ b
done_same a b is = cc is

event_same : (a b : Happening) → Event a ≡ Event b → a ≡ b
event_same a b is = cc is

number_same : (a b : Option ℕ) → Number a ≡ Number b → a ≡ b
number_same a b is = cc is

pushed_same : (a b : PushAnswer) → Pushed a ≡ Pushed b → a ≡ b
pushed_same a b is = cc is

random_same : (a b : ℕ) → Random a ≡ Random b → a ≡ b
random_same a b is = cc is

bytes_same : (a b : Option (List ℕ)) → Bytes a ≡ Bytes b → a ≡ b
bytes_same a b is = cc is

names_same : (a b : Option (List (List ℕ))) → Names a ≡ Names b → a ≡ b
names_same a b is = cc is

kept_same : (a b : Option (Option ℕ)) → Kept a ≡ Kept b → a ≡ b
kept_same a b is = cc is

loop_same : (call : LoopCall) (a b : LoopAnswer call) → loop_answer call a ≡ loop_answer call b → a ≡ b
unfolding loop_answer
loop_same (Start ends) a b is = done_same a b is
loop_same (Wait until paused) a b is = event_same a b is
loop_same (Dial output tag) a b is = number_same a b is
loop_same (Push link bytes) a b is = pushed_same a b is
loop_same (Close link) a b is = refl
loop_same (Reply conn bytes) a b is = done_same a b is
loop_same (DropConn conn) a b is = refl
loop_same Word a b is = random_same a b is

disk_same : (call : DiskCall) (a b : DiskAnswer call) → disk_answer call a ≡ disk_answer call b → a ≡ b
unfolding disk_answer
disk_same (Place name bytes) a b is = done_same a b is
disk_same (WriteAt name at bytes) a b is = done_same a b is
disk_same (Sync name) a b is = done_same a b is
disk_same (Remove name) a b is = done_same a b is
disk_same (Read name at len) a b is = bytes_same a b is
disk_same (ListNames folder) a b is = names_same a b is
disk_same (Preset name bytes) a b is = refl
disk_same (FailAt number) a b is = refl

files_same : (call : FilesCall) (a b : FilesAnswer call) → files_answer call a ≡ files_answer call b → a ≡ b
unfolding files_answer
files_same (Length path) a b is = number_same a b is
files_same (ReadAt path at max) a b is = bytes_same a b is
files_same (Changed path bytes) a b is = refl
files_same (FilesFailAt number) a b is = refl

keeper_same : (call : KeeperCall) (a b : KeeperAnswer call) → keeper_answer call a ≡ keeper_answer call b → a ≡ b
unfolding keeper_answer
keeper_same (Get db path) a b is = kept_same a b is
keeper_same (Put db path place) a b is = done_same a b is
keeper_same (KeeperFailAt number) a b is = refl

any_same : (call : Call) (a b : Answer call) → any_answer call a ≡ any_answer call b → a ≡ b
unfolding any_answer
any_same (OnLoop call) a b is = loop_same call a b is
any_same (OnDisk call) a b is = disk_same call a b is
any_same (OnFiles call) a b is = files_same call a b is
any_same (OnKeeper call) a b is = keeper_same call a b is
any_same (Note fact) a b is = refl

same_answer : (call : Call) (a b : Answer call) → ◌≡◌ {A = TraceEntry} (entry call a) (entry call b) → a ≡ b
same_answer call a b is = any_same call a b (ap (λ (e : TraceEntry). any_answer e.call e.answer) is)

-- ---- what is left

module _ {R : Type 0} where
  pub same_left : (p q r : Action R) (es : List TraceEntry) → Execution p es q → Execution p es r → q ≡ r
  same_left p q r [] one other = one ∙ sym other
  same_left (Return x) q r (e ∷ es) one other = absurd one
  same_left (Ask call go) q r (e ∷ es) one other =
      same_left (go one.0) q r es one.2 (subst (λ (a : Answer call). Execution (go a) es r) (same_answer call other.0 one.0 (sym other.1 ∙ one.1)) other.2)

  way_cut : (p r : Action R) (xs ys : List TraceEntry) → Execution p (xs ++ ys) r → (q : Action R) × Execution p xs q × Execution q ys r
  way_cut p r [] ys way = (p, refl, way)
  way_cut (Return x) r (e ∷ xs) ys way = absurd way
  way_cut (Ask call go) r (e ∷ xs) ys way = let rest = way_cut (go way.0) r xs ys way.2 in (rest.0, (way.0, way.1, rest.1), rest.2)

  -- what is left after the first calls makes the others
  pub way_after : (p q r : Action R) (xs ys : List TraceEntry) → Execution p xs q → Execution p (xs ++ ys) r → Execution q ys r
  way_after p q r xs ys first whole =
      let cut = way_cut p r xs ys whole in
      subst (λ (m : Action R). Execution m ys r) (same_left p cut.0 q xs cut.1 first) cut.2
