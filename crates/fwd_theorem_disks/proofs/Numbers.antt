-- The disk in memory fails the calls whose numbers are given, and no others: so it answers as the calls say.
use Rattle.std.proofs.Common.{◌≡◌, ℕ, ◌+◌, ◌-◌, ◌^◌, ◌<◌, ◌≤◌, ◌==◌, Bool, true, false, not, ◌&&◌, ◌||◌, if◌then◌else◌, IsTrue, MatchBool, Option, Some, None, is_some, is_none, List, [], ◌∷◌, ◌++◌, map, length, take, drop, refl, sym, ◌∙◌, ap, subst, arith, append_assoc}
use Rattle.std.specs.List.{list_any, AllByRecursion}
use Rattle.std.specs.List.Sorted.{IsStrictlySortedBy}
use Rattle.std.specs.Str.{bytes_eq}
use Rattle.std.proofs.lemmas.Bool.{eq-eqb, ne_eqb}
use Rattle.std.proofs.lemmas.List.Folds.{list_any-append}
use Rattle.std.proofs.lemmas.List.Elements.{All-nil}
use Rattle.fwd_outside.specs.Program.{entry}
use Rattle.fwd_outside.specs.Disk.{DiskCall, DiskAnswer, DiskEntry, IsFileName, IsListing, Place, WriteAt, Sync, Remove, Read, ListNames, Preset, FailAt}
use Rattle.fwd_outside.specs.File.{FileState, absent}
use Rattle.fwd_outside.specs.DiskStates.{Files, CanWrite, ReadAnswer, IsUnder, AreNamesIn}
use Rattle.fwd_disk_mem.specs.declared.entry.MemEntry.{MemEntry}
use Rattle.fwd_disk_mem.specs.declared.entry.MemEntry.TheVariants as kept
use Rattle.fwd_disk_mem.specs.Entry.{took, entry_of, entries_of, is_call, made_of, fails_of, next_succeeds, can_write, step, run, files_of, AnswerIs, IsPlayed, IsNoNumber}
use Rattle.fwd_disk_mem.proofs.PlayedCalls.{files-push, made-push, fails-push}
use Rattle.fwd_model.specs.Trace.{Call, Answer, TraceEntry, OnLoop, OnDisk, OnFiles, OnKeeper, Note, disk_entry, disk_part}
use Rattle.fwd_record.specs.Failures.{has_failed, next_number, if_failed, failed_from}
use Rattle.fwd_theorem_trace.specs.Past.{past_after}
use Rattle.fwd_theorem_disks.specs.InMemory.{number_after_recovery, AnswersAsInMemory}
use Rattle.fwd_theorem_disks.proofs.MemFiles.{recorded_as, mem_after, Right, can_true, call_after, no_files, mem, RightCall, AllRight}

-- ---- the calls in their order

abbrev pub DiskRight : Files → List DiskEntry → Type 0
DiskRight files [] = Unit {0}
DiskRight files (e ∷ ds) = Right e.call e.answer files × DiskRight (mem_after e.call e.answer files) ds

earlier_right : (since : List TraceEntry) (es : List TraceEntry) → AllRight (past_after since es) → AllRight since
earlier_right since [] all = all
earlier_right since (e ∷ es) all = (earlier_right (e ∷ since) es all).1

one_right : (call : Call) (answer : Answer call) (files : Files) (ds : List DiskEntry) → RightCall call answer files → DiskRight (call_after call answer files) ds → DiskRight files (disk_entry call answer ++ ds)
one_right (OnLoop call) answer files ds right rest = rest
one_right (OnDisk call) answer files ds right rest = (right, rest)
one_right (OnFiles call) answer files ds right rest = rest
one_right (OnKeeper call) answer files ds right rest = rest
one_right (Note fact) answer files ds right rest = rest

pub in_order : (since : List TraceEntry) (es : List TraceEntry) → AllRight (past_after since es) → DiskRight (mem since) (disk_part es)
in_order since [] all = tt
in_order since (e ∷ es) all = one_right e.call e.answer (mem since) (disk_part es) (earlier_right (e ∷ since) es all).0 (in_order (e ∷ since) es all)

-- ---- numbers

abbrev Below : ℕ → List ℕ → Type 0
Below n xs = AllByRecursion (λ (x : ℕ). x < n) xs

abbrev From : ℕ → List ℕ → Type 0
From n xs = AllByRecursion (λ (x : ℕ). n ≤ x) xs

below_more : (n m : ℕ) (xs : List ℕ) → n ≤ m → Below n xs → Below m xs
below_more n m [] le all = tt
below_more n m (x ∷ xs) le all = (omega (arith, le, all.0), below_more n m xs le all.1)

below_both : (n : ℕ) (xs ys : List ℕ) → Below n xs → Below n ys → Below n (xs ++ ys)
below_both n [] ys first second = second
below_both n (x ∷ xs) ys first second = (first.0, below_both n xs ys first.1 second)

from_less : (n m : ℕ) (xs : List ℕ) → m ≤ n → From n xs → From m xs
from_less n m [] le all = tt
from_less n m (x ∷ xs) le all = (omega (arith, le, all.0), from_less n m xs le all.1)

from_both : (n : ℕ) (xs ys : List ℕ) → From n xs → From n ys → From n (xs ++ ys)
from_both n [] ys first second = second
from_both n (x ∷ xs) ys first second = (first.0, from_both n xs ys first.1 second)

abbrev is_in : ℕ → List ℕ → Bool
is_in n xs = list_any (λ (number : ℕ). number == n) xs

not_below : (n : ℕ) (xs : List ℕ) → Below n xs → is_in n xs ≡ false
not_below n [] all = refl
not_below n (x ∷ xs) all = let lt = all.0 in ap (λ (b : Bool). b || is_in n xs) (ne_eqb x n (λ e. omega (arith, lt, e))) ∙ not_below n xs all.1

not_from : (n : ℕ) (xs : List ℕ) → From (n + 1) xs → is_in n xs ≡ false
not_from n [] all = refl
not_from n (x ∷ xs) all = let le = all.0 in ap (λ (b : Bool). b || is_in n xs) (ne_eqb x n (λ e. omega (arith, le, e))) ∙ not_from n xs all.1

pub number_next : (number : ℕ) → number + 2 ≤ 2 ^ 64 → next_number number ≡ number + 1
number_next number le = omega (arith, le)

failed_next : (number : ℕ) (ds : List DiskEntry) → number + 1 + length ds ≤ 2 ^ 64 → failed_from (next_number number) ds ≡ failed_from (number + 1) ds
failed_next number [] le = refl
failed_next number (d ∷ ds) le = ap (λ (n : ℕ). failed_from n (d ∷ ds)) (number_next number (omega (arith, le)))

if_from : (number : ℕ) (b : Bool) → From number (if b then number ∷ [] else [])
if_from number true = (omega arith, tt)
if_from number false = tt

if_below : (number : ℕ) (b : Bool) → Below (number + 1) (if b then number ∷ [] else [])
if_below number true = (omega arith, tt)
if_below number false = tt

if_in : (number : ℕ) (b : Bool) → is_in number (if b then number ∷ [] else []) ≡ b
if_in number true = ap (λ (t : Bool). t || false) (eq-eqb number number refl)
if_in number false = refl

failed_after : (number : ℕ) (ds : List DiskEntry) → number + length ds ≤ 2 ^ 64 → From number (failed_from number ds)
failed_after number [] le = tt
failed_after number (e ∷ ds) le =
    let fits : number + 1 + length ds ≤ 2 ^ 64 = omega (arith, le) in
    let rest : From (number + 1) (failed_from (next_number number) ds) = subst (λ (l : List ℕ). From (number + 1) l) (sym (failed_next number ds fits)) (failed_after (number + 1) ds fits) in
    from_both number (if_failed number e) (failed_from (next_number number) ds) (if_from number (has_failed e.call e.answer)) (from_less (number + 1) number (failed_from (next_number number) ds) (omega arith) rest)

or_false : (b : Bool) → (b || false) ≡ b
or_false true = refl
or_false false = refl

-- the number of the next call is among those if that call failed
fails_now : (number : ℕ) (e : DiskEntry) (ds : List DiskEntry) (earlier : List ℕ) → number + 1 + length ds ≤ 2 ^ 64 → Below number earlier → is_in number (earlier ++ failed_from number (e ∷ ds)) ≡ has_failed e.call e.answer
fails_now number e ds earlier le below =
    let test : ℕ → Bool = λ (n : ℕ). n == number in
    let later : List ℕ = failed_from (next_number number) ds in
    let none : is_in number later ≡ false = ap (is_in number) (failed_next number ds le) ∙ not_from number (failed_from (number + 1) ds) (failed_after (number + 1) ds le) in
    let now : is_in number (if_failed number e ++ later) ≡ has_failed e.call e.answer =
    list_any-append test (if_failed number e) later ∙ ap (λ (b : Bool). is_in number (if_failed number e) || b) none ∙ or_false (is_in number (if_failed number e)) ∙ if_in number (has_failed e.call e.answer) in
    list_any-append test earlier (if_failed number e ++ later) ∙ ap (λ (b : Bool). b || is_in number (if_failed number e ++ later)) (not_below number earlier below) ∙ now

-- ---- one more call

some_is : {X : Type 0} (answer : Option X) → is_some answer ≡ not (is_none answer)
some_is None = refl
some_is (Some x) = refl

ok_is : (answer : Option (Unit {0})) (ns can : Bool) → ns ≡ not (is_none answer) → can ≡ true → is_some answer ≡ (ns && can)
ok_is None ns can is well = sym (ap (λ (b : Bool). b && can) is)
ok_is (Some done) ns can is well = sym (ap (λ (b : Bool). b && can) is ∙ well)

read_is : (answer : Option (List ℕ)) (at len : ℕ) (file : FileState) (ns : Bool) → ns ≡ not (is_none answer) → IsTrue file.there → ReadAnswer at len answer file → answer ≡ (if ns && file.there then Some (take len (drop at file.bytes)) else None)
read_is None at len file ns is there read = sym (ap (λ (b : Bool). if b && file.there then Some (take len (drop at file.bytes)) else None) is)
read_is (Some bytes) at len file ns is there read =
    let now : Option (List ℕ) = Some (take len (drop at file.bytes)) in
    ap (λ (l : List ℕ). Some l) read.1 ∙ sym (ap (λ (b : Bool). if b && file.there then now else None) is ∙ ap (λ (b : Bool). if b then now else None) there)

answers_so : (before : List MemEntry) (call : DiskCall) (answer : DiskAnswer call) (files : Files) → ((name : List ℕ) → files_of before name ≡ files name) → next_succeeds before ≡ not (has_failed call answer) → Right call answer files → AnswerIs before (recorded_as call answer)
answers_so before (Place name bytes) answer files same ns right = some_is answer ∙ sym ns
answers_so before (WriteAt name at bytes) answer files same ns right =
    ok_is answer (next_succeeds before) (can_write (files_of before name) at) ns (can_true (files_of before name) at (subst (λ (f : FileState). CanWrite f at) (sym (same name)) right))
answers_so before (Sync name) answer files same ns right = ok_is answer (next_succeeds before) (files_of before name).there ns (ap (λ (f : FileState). f.there) (same name) ∙ right)
answers_so before (Remove name) answer files same ns right = ok_is answer (next_succeeds before) (files_of before name).there ns (ap (λ (f : FileState). f.there) (same name) ∙ right)
answers_so before (Read name at len) answer files same ns right =
    read_is answer at len (files_of before name) (next_succeeds before) ns (ap (λ (f : FileState). f.there) (same name) ∙ right.0) (subst (λ (f : FileState). ReadAnswer at len answer f) (sym (same name)) right.1)
answers_so before (ListNames folder) answer files same ns right = absurd right
answers_so before (Preset name bytes) answer files same ns right = absurd right
answers_so before (FailAt number) answer files same ns right = absurd right

either_way : (b : Bool) (s : FileState) → (if b then s else s) ≡ s
either_way true s = refl
either_way false s = refl

files_so : (call : DiskCall) (answer : DiskAnswer call) (files : Files) (name : List ℕ) → Right call answer files → step name (files name) (recorded_as call answer) ≡ mem_after call answer files name
files_so (Place other bytes) answer files name right = refl
files_so (WriteAt other at bytes) answer files name right = refl
files_so (Sync other) answer files name right = refl
files_so (Remove other) answer files name right = refl
files_so (Read other at len) answer files name right = either_way (bytes_eq other name) (files name)
files_so (ListNames folder) answer files name right = absurd right
files_so (Preset other bytes) answer files name right = absurd right
files_so (FailAt number) answer files name right = absurd right

is_made : (call : DiskCall) (answer : DiskAnswer call) (files : Files) → Right call answer files → is_call (recorded_as call answer) ≡ true
is_made (Place other bytes) answer files right = refl
is_made (WriteAt other at bytes) answer files right = refl
is_made (Sync other) answer files right = refl
is_made (Remove other) answer files right = refl
is_made (Read other at len) answer files right = refl
is_made (ListNames folder) answer files right = absurd right
is_made (Preset other bytes) answer files right = absurd right
is_made (FailAt number) answer files right = absurd right

no_number : (call : DiskCall) (answer : DiskAnswer call) (files : Files) → Right call answer files → IsNoNumber (recorded_as call answer)
no_number (Place other bytes) answer files right = tt
no_number (WriteAt other at bytes) answer files right = tt
no_number (Sync other) answer files right = tt
no_number (Remove other) answer files right = tt
no_number (Read other at len) answer files right = tt
no_number (ListNames folder) answer files right = absurd right
no_number (Preset other bytes) answer files right = absurd right
no_number (FailAt number) answer files right = absurd right

-- ---- all calls

abbrev pub asked_of : List DiskEntry → List MemEntry
asked_of ds = map (λ (e : DiskEntry). recorded_as e.call e.answer) ds

took_is : (answer : Option (Unit {0})) → took (is_some answer) ≡ answer
took_is None = refl
took_is (Some done) = refl

entry_is : (call : DiskCall) (answer : DiskAnswer call) → entry_of (recorded_as call answer) ≡ entry call answer
entry_is (Place name bytes) answer = ap (λ (a : Option (Unit {0})). entry (Place name bytes) a) (took_is answer)
entry_is (WriteAt name at bytes) answer = ap (λ (a : Option (Unit {0})). entry (WriteAt name at bytes) a) (took_is answer)
entry_is (Sync name) answer = ap (λ (a : Option (Unit {0})). entry (Sync name) a) (took_is answer)
entry_is (Remove name) answer = ap (λ (a : Option (Unit {0})). entry (Remove name) a) (took_is answer)
entry_is (Read name at len) answer = refl
entry_is (ListNames folder) answer = refl
entry_is (Preset name bytes) answer = refl
entry_is (FailAt number) answer = refl

pub entries_are : (ds : List DiskEntry) → entries_of (asked_of ds) ≡ ds
entries_are [] = refl
entries_are (e ∷ ds) = ap (λ (d : DiskEntry). d ∷ entries_of (asked_of ds)) (entry_is e.call e.answer) ∙ ap (λ (l : List DiskEntry). e ∷ l) (entries_are ds)

record Stands (fails : List ℕ) (before : List MemEntry) (number : ℕ) (files : Files) (ds : List DiskEntry) : Type 0 where
  same : (name : List ℕ) → files_of before name ≡ files name
  made : made_of before + 1 ≡ number
  fails_are : fails_of before ≡ fails
  earlier : List ℕ
  below : Below number earlier
  is : fails ≡ earlier ++ failed_from number ds
  few : number + length ds ≤ 2 ^ 64

succeeds : (fails : List ℕ) (before : List MemEntry) (number : ℕ) (files : Files) (e : DiskEntry) (ds : List DiskEntry) → Stands fails before number files (e ∷ ds) → next_succeeds before ≡ not (has_failed e.call e.answer)
succeeds fails before number files e ds stands =
    let few = stands.few in
    ap (λ (n : ℕ). not (is_in n (fails_of before))) stands.made ∙ ap (λ (l : List ℕ). not (is_in number l)) (stands.fails_are ∙ stands.is)
    ∙ ap not (fails_now number e ds stands.earlier (omega (arith, few)) stands.below)

stands_next : (fails : List ℕ) (before : List MemEntry) (number : ℕ) (files : Files) (e : DiskEntry) (ds : List DiskEntry) → Right e.call e.answer files → Stands fails before number files (e ∷ ds)
    → Stands fails (before ++ recorded_as e.call e.answer ∷ []) (number + 1) (mem_after e.call e.answer files) ds
stands_next fails before number files e ds right stands =
    let call : MemEntry = recorded_as e.call e.answer in
    let few = stands.few in
    let made = stands.made in
    let fits : number + 1 + length ds ≤ 2 ^ 64 = omega (arith, few) in
    let count : made_of (before ++ call ∷ []) ≡ made_of before + 1 = made-push before call ∙ ap (λ (b : Bool). made_of before + (if b then 1 else 0)) (is_made e.call e.answer files right) in
    record {
      same = λ name. files-push before call name ∙ ap (λ (s : FileState). step name s call) (stands.same name) ∙ files_so e.call e.answer files name right;
      made = omega (arith, count, made);
      fails_are = fails-push before call (no_number e.call e.answer files right) ∙ stands.fails_are;
      earlier = stands.earlier ++ if_failed number e;
      below = below_both (number + 1) stands.earlier (if_failed number e) (below_more number (number + 1) stands.earlier (omega arith) stands.below) (if_below number (has_failed e.call e.answer));
      is = stands.is ∙ ap (λ (l : List ℕ). stands.earlier ++ (if_failed number e ++ l)) (failed_next number ds fits) ∙ sym (append_assoc stands.earlier (if_failed number e) (failed_from (number + 1) ds));
      few = fits;
    }

plays : (fails : List ℕ) (before : List MemEntry) (number : ℕ) (files : Files) (ds : List DiskEntry) → DiskRight files ds → Stands fails before number files ds → IsPlayed before (asked_of ds)
plays fails before number files [] right stands = tt
plays fails before number files (e ∷ ds) right stands = (
  answers_so before e.call e.answer files stands.same (succeeds fails before number files e ds stands) right.0,
  plays fails (before ++ recorded_as e.call e.answer ∷ []) (number + 1) (mem_after e.call e.answer files) ds right.1 (stands_next fails before number files e ds right.0 stands),
)

-- ---- the failing calls are set first

abbrev set : List ℕ → List MemEntry
set fails = map (λ (number : ℕ). kept.FailAt number) fails

set_files : (fails : List ℕ) (name : List ℕ) (state : FileState) → run name state (set fails) ≡ state
set_files [] name state = refl
set_files (number ∷ fails) name state = set_files fails name state

set_made : (fails : List ℕ) → made_of (set fails) ≡ 0
set_made [] = refl
set_made (number ∷ fails) = let rest = set_made fails in omega (arith, rest)

set_fails : (fails : List ℕ) → fails_of (set fails) ≡ fails
set_fails [] = refl
set_fails (number ∷ fails) = ap (λ (l : List ℕ). number ∷ l) (set_fails fails)

-- ---- an empty disk lists nothing

lists_none : (root : List ℕ) (files : Files) → ((name : List ℕ) → files name ≡ absent) → AreNamesIn root [] files
lists_none root files none = record {
  each = All-nil (λ (name : List ℕ). (file : List ℕ) × IsTrue (files file).there × IsUnder root name file);
  all = λ name file is there under. let no : false ≡ true = sym (ap (λ (f : FileState). f.there) (none file)) ∙ there in absurd (cc no);
}

none_listed : IsListing []
unfolding IsStrictlySortedBy
none_listed = record { each = All-nil IsFileName; sorted = tt }

abbrev no_names : Option (List (List ℕ))
no_names = Some []

listed : (fails : List ℕ) (root : List ℕ) → From 2 fails → AnswerIs (set fails) (kept.List root no_names)
listed fails root later =
    let ns : next_succeeds (set fails) ≡ true =
    ap (λ (n : ℕ). not (is_in (n + 1) (fails_of (set fails)))) (set_made fails) ∙ ap (λ (l : List ℕ). not (is_in 1 l)) (set_fails fails) ∙ ap not (not_from 1 fails later) in
    subst (λ (b : Bool). MatchBool b ((names : List (List ℕ)) × (no_names ≡ Some names) × IsListing names × AreNamesIn root names (files_of (set fails))) (no_names ≡ None)) (sym ns)
    ([], refl, none_listed, lists_none root (files_of (set fails)) (λ name. set_files fails name absent))

pub in_memory : (path : Option (List ℕ)) (below : List TraceEntry) → length (disk_part below) ≤ 2 ^ 64 - 2 → DiskRight no_files (disk_part below) → AnswersAsInMemory (number_after_recovery path) path below
in_memory None below few right =
    let ds : List DiskEntry = disk_part below in
    let fails : List ℕ = failed_from 1 ds in
    let made = set_made fails in
    record {
      asked = asked_of ds;
      are = entries_are ds;
      played = plays fails (set fails) 1 no_files ds right (record {
        same = λ name. set_files fails name absent;
        made = omega (arith, made);
        fails_are = set_fails fails;
        earlier = [];
        below = tt;
        is = refl;
        few = omega (arith, few);
      });
    }
in_memory (Some root) below few right =
    let ds : List DiskEntry = disk_part below in
    let fails : List ℕ = failed_from 2 ds in
    let list : MemEntry = kept.List root (Some []) in
    let fits : 2 + length ds ≤ 2 ^ 64 = omega (arith, few) in
    let made = set_made fails in
    let count : made_of (set fails ++ list ∷ []) ≡ made_of (set fails) + 1 = made-push (set fails) list in
    record {
      asked = list ∷ asked_of ds;
      are = ap (λ (l : List DiskEntry). entry (ListNames root) (Some []) ∷ l) (entries_are ds);
      played = (
        listed fails root (failed_after 2 ds fits),
        plays fails (set fails ++ list ∷ []) 2 no_files ds right (record {
          same = λ name. files-push (set fails) list name ∙ either_way (bytes_eq root name) (files_of (set fails) name) ∙ set_files fails name absent;
          made = omega (arith, made, count);
          fails_are = fails-push (set fails) list tt ∙ set_fails fails;
          earlier = [];
          below = tt;
          is = refl;
          few = fits;
        }),
      );
    }
