-- Two ways of the same action, over devices that answer the same, agree as far as the shorter one leads.
use Rattle.std.proofs.Common.{◌≡◌, List, [], ◌∷◌, ◌++◌, refl, sym, ◌∙◌, ap, subst}
use Rattle.std.proofs.lemmas.List.{append-nil}
use Rattle.fwd_outside.specs.Program.{entry, Return, Ask, Execution}
use Rattle.fwd_outside.specs.Disk.{DiskCall, DiskEntry}
use Rattle.fwd_disk_mem.specs.declared.entry.MemEntry.{MemEntry}
use Rattle.fwd_disk_mem.specs.Entry.{entry_of, entries_of, IsPlayed}
use Rattle.fwd_disk_mem.proofs.CallTrace.{same_entry}
use Rattle.fwd_script_loop.specs.Place.{Place, ArePlayed, after}
use Rattle.fwd_keeper.specs.Keeper.{KeeperEntry, KeeperGiven}
use Rattle.fwd_keeper_mem.specs.KeeperAnswers as keeper
use Rattle.fwd_keeper_mem.specs.Offsets.{SameOffsets}
use Rattle.fwd_model.specs.Trace.{Action, Call, Answer, OnLoop, OnDisk, OnFiles, OnKeeper, Note, TraceEntry, loop_part, disk_part, keeper_part}
use Rattle.fwd_replay.specs.FileChanges.{Course, FilesAnswered, after_loop, after_files}
use Rattle.fwd_theorem_replay.proofs.AlikeDisks.{Alike, alike_push, IsGiven, given_is, same_answer}
use Rattle.fwd_theorem_replay.proofs.AlikeKeepers.{same_kept}

-- from here on each device answers according to its state, and the disk was asked this
pub record Answers (place : Place) (call_log : List MemEntry) (course : Course) (offsets : KeeperGiven) (kept : List KeeperEntry) (es : List TraceEntry) (asked : List MemEntry) : Type 0 where
  pub loop : ArePlayed place (loop_part es)
  pub are : entries_of asked ≡ disk_part es
  pub disk : IsPlayed call_log asked
  pub files : FilesAnswered course es
  pub keeper : keeper.IsPlayed offsets kept (keeper_part es)

-- the first way is a prefix of the second, which goes on with what the first left
pub record GoesOn {R : Type 0} (left : Action R) (y : R) (one other : List TraceEntry) : Type 0 where
  pub rest : List TraceEntry
  pub is : other ≡ one ++ rest
  pub way : Execution left rest (Return y)

abbrev pub CallsLeadOn : {R : Type 0} → Action R → Type 0
CallsLeadOn {R = R} p =
    (place : Place) (call_log told2 : List MemEntry) (course : Course) (offsets offsets2 : KeeperGiven) (kept : List KeeperEntry) (one other : List TraceEntry) (asked asked2 : List MemEntry) (left : Action R) (y : R)
    → Alike call_log told2 → SameOffsets offsets offsets2 → Execution p one left → Execution p other (Return y) → Answers place call_log course offsets kept one asked → Answers place told2 course offsets2 kept other asked2 → GoesOn left y one other

module _ {R : Type 0} (left : Action R) (y : R) (es fs : List TraceEntry) where
  goes_behind : (call : Call) (a b : Answer call) → b ≡ a → GoesOn left y es fs → GoesOn left y (entry call a ∷ es) (entry call b ∷ fs)
  goes_behind call a b same more = record {
    rest = more.rest;
    is = ap (λ (z : Answer call). entry call z ∷ fs) same ∙ ap (λ (l : List TraceEntry). entry call a ∷ l) more.is;
    way = more.way;
  }

  module _ (place : Place) (call_log told2 : List MemEntry) (course : Course) (offsets offsets2 : KeeperGiven) (kept : List KeeperEntry) (alike : Alike call_log told2) (same_offsets : SameOffsets offsets offsets2) where
    -- the first call of both, by device
    on_disk : (call : DiskCall) (go : Answer (OnDisk call) → Action R) → ((answer : Answer (OnDisk call)) → CallsLeadOn (go answer)) → (asked asked2 : List MemEntry) (a b : Answer (OnDisk call)) → Execution (go a) es left → Execution (go b) fs (Return y)
        → Answers place call_log course offsets kept (entry (OnDisk call) a ∷ es) asked → Answers place told2 course offsets2 kept (entry (OnDisk call) b ∷ fs) asked2 → GoesOn left y (entry (OnDisk call) a ∷ es) (entry (OnDisk call) b ∷ fs)
    on_disk call go rest [] asked2 a b one other first second = absurd (cc first.are)
    on_disk call go rest (t ∷ asked) [] a b one other first second = absurd (cc second.are)
    on_disk call go rest (t ∷ asked) (t2 ∷ asked2) a b one other first second =
        let head : entry_of t ≡ entry call a = cc first.are in
        let head2 : entry_of t2 ≡ entry call b = cc second.are in
        let tail : entries_of asked ≡ disk_part es = cc first.are in
        let tail2 : entries_of asked2 ≡ disk_part fs = cc second.are in
        let given = subst (λ (e : DiskEntry). IsGiven call_log e.call e.answer) head (given_is call_log t first.disk.0) in
        let given2 = subst (λ (e : DiskEntry). IsGiven told2 e.call e.answer) head2 (given_is told2 t2 second.disk.0) in
        let is : b ≡ a = same_answer call_log told2 alike call a b given given2 in
        let call_is : t2 ≡ t = same_entry t2 t (head2 ∙ ap (λ (z : Answer (OnDisk call)). entry call z) is ∙ sym head) in
        let next = subst (λ (u : MemEntry). Alike (call_log ++ t ∷ []) (told2 ++ u ∷ [])) (sym call_is) (alike_push call_log told2 t alike) in
        goes_behind (OnDisk call) a b is
        (rest a place (call_log ++ t ∷ []) (told2 ++ t2 ∷ []) course offsets offsets2 kept es fs asked asked2 left y next same_offsets one (subst (λ (z : Answer (OnDisk call)). Execution (go z) fs (Return y)) is other)
        (record { loop = first.loop; are = tail; disk = first.disk.1; files = first.files.1; keeper = first.keeper })
        (record { loop = second.loop; are = tail2; disk = second.disk.1; files = second.files.1; keeper = second.keeper }))

    on_first : (call : Call) (go : Answer call → Action R) → ((answer : Answer call) → CallsLeadOn (go answer)) → (asked asked2 : List MemEntry) (a b : Answer call) → Execution (go a) es left → Execution (go b) fs (Return y)
        → Answers place call_log course offsets kept (entry call a ∷ es) asked → Answers place told2 course offsets2 kept (entry call b ∷ fs) asked2 → GoesOn left y (entry call a ∷ es) (entry call b ∷ fs)
    on_first (OnLoop call) go rest asked asked2 a b one other first second =
        let is : b ≡ a = second.loop.0 ∙ sym first.loop.0 in
        goes_behind (OnLoop call) a b is
        (rest a (after place call) call_log told2 (after_loop call course) offsets offsets2 kept es fs asked asked2 left y alike same_offsets one (subst (λ (z : Answer (OnLoop call)). Execution (go z) fs (Return y)) is other)
        (record { loop = first.loop.1; are = first.are; disk = first.disk; files = first.files.1; keeper = first.keeper })
        (record { loop = second.loop.1; are = second.are; disk = second.disk; files = second.files.1; keeper = second.keeper }))
    on_first (OnDisk call) go rest asked asked2 a b one other first second = on_disk call go rest asked asked2 a b one other first second
    on_first (OnFiles call) go rest asked asked2 a b one other first second =
        let is : b ≡ a = second.files.0 ∙ sym first.files.0 in
        goes_behind (OnFiles call) a b is
        (rest a place call_log told2 (after_files call course) offsets offsets2 kept es fs asked asked2 left y alike same_offsets one (subst (λ (z : Answer (OnFiles call)). Execution (go z) fs (Return y)) is other)
        (record { loop = first.loop; are = first.are; disk = first.disk; files = first.files.1; keeper = first.keeper })
        (record { loop = second.loop; are = second.are; disk = second.disk; files = second.files.1; keeper = second.keeper }))
    on_first (OnKeeper call) go rest asked asked2 a b one other first second =
        let is : b ≡ a = second.keeper.0 ∙ same_kept offsets offsets2 kept call same_offsets ∙ sym first.keeper.0 in
        goes_behind (OnKeeper call) a b is
        (rest a place call_log told2 course offsets offsets2 (kept ++ entry call a ∷ []) es fs asked asked2 left y alike same_offsets one (subst (λ (z : Answer (OnKeeper call)). Execution (go z) fs (Return y)) is other)
        (record { loop = first.loop; are = first.are; disk = first.disk; files = first.files.1; keeper = first.keeper.1 })
        (record { loop = second.loop; are = second.are; disk = second.disk; files = second.files.1; keeper = subst (λ (z : Answer (OnKeeper call)). keeper.IsPlayed offsets2 (kept ++ entry call z ∷ []) (keeper_part fs)) is second.keeper.1 }))
    on_first (Note fact) go rest asked asked2 a b one other first second =
        goes_behind (Note fact) a b refl
        (rest a place call_log told2 course offsets offsets2 kept es fs asked asked2 left y alike same_offsets one other
        (record { loop = first.loop; are = first.are; disk = first.disk; files = first.files.1; keeper = first.keeper })
        (record { loop = second.loop; are = second.are; disk = second.disk; files = second.files.1; keeper = second.keeper }))

pub passes : {R : Type 0} (p : Action R) → CallsLeadOn p
passes {R = R} p place call_log told2 course offsets offsets2 kept [] other asked asked2 left y alike same one way first second = record { rest = other; is = refl; way = subst (λ (q : Action R). Execution q other (Return y)) (sym one) way }
passes (Return z) place call_log told2 course offsets offsets2 kept (e ∷ es) other asked asked2 left y alike same one way first second = absurd one
passes (Ask call go) place call_log told2 course offsets offsets2 kept (e ∷ es) [] asked asked2 left y alike same one way first second = absurd (cc way)
passes (Ask call go) place call_log told2 course offsets offsets2 kept (e ∷ es) (f ∷ fs) asked asked2 left y alike same one way first second =
    let here =
    on_first left y es fs place call_log told2 course offsets offsets2 kept alike same call go (λ answer. passes (go answer)) asked asked2 one.0 way.0 one.2 way.2
    (subst (λ (g : TraceEntry). Answers place call_log course offsets kept (g ∷ es) asked) one.1 first) (subst (λ (g : TraceEntry). Answers place told2 course offsets2 kept (g ∷ fs) asked2) way.1 second)
    in
    record {
      rest = here.rest;
      is = ap (λ (g : TraceEntry). g ∷ fs) way.1 ∙ here.is ∙ ap (λ (g : TraceEntry). g ∷ (es ++ here.rest)) (sym one.1);
      way = here.way;
    }

-- if the first is at its end, both are the same
pub ends_same : {R : Type 0} (x y : R) (one other : List TraceEntry) → GoesOn (Return x) y one other → (other ≡ one) × (y ≡ x)
ends_same x y one other goes = by goes.rest goes.is goes.way
  where
    by : (rest : List TraceEntry) → other ≡ one ++ rest → Execution (Return x) rest (Return y) → (other ≡ one) × (y ≡ x)
    by [] is way = (is ∙ append-nil one, cc way)
    by (e ∷ es) is way = absurd way
