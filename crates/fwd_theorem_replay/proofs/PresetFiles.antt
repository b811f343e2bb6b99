-- In a schedule that is read, only the first run puts files on its disk.
use Rattle.std.proofs.Common.{◌≡◌, ℕ, ◌+◌, Bool, true, false, not, ◌||◌, if◌then◌else◌, List, [], ◌∷◌, ◌++◌, Option, Some, None, is_some, Result, Ok, Err, refl, sym, ◌∙◌, subst}
use Rattle.std.proofs.lemmas.List.Elements.{All-nil, All-cons, All-append}
use Rattle.fwd_script.specs.declared.meaning.LineMeaning.{LineMeaning}
use Rattle.fwd_script.specs.declared.meaning.LineMeaning.TheVariants.{Plans, Answers, DiskFails, FileFails, Stores, Crashes}
use Rattle.fwd_script.specs.declared.schedule.Schedule.{Schedule}
use Rattle.fwd_script.specs.declared.schedule.Cut.{Cut}
use Rattle.fwd_script.specs.declared.schedule.Life.{Life}
use Rattle.fwd_script.specs.declared.refusal.ScheduleKind.{ScheduleKind}
use Rattle.fwd_script.specs.declared.refusal.ScheduleKind.TheVariants.{BadOrder}
use Rattle.fwd_script.specs.declared.reader.ScheduleReader.{ScheduleReader}
use Rattle.fwd_script.specs.Table.{line_meaning}
use Rattle.fwd_script.specs.Schedule.{is_passed_over, is_happening, with_complete_life, after, in_order, ordered, judge, schedule_so_far, go_on, reader_start, lines_of, read_on, schedule_of}
use Rattle.fwd_theorem_replay.specs.PresetFiles.{OnlyFirstHasFiles}

abbrev Bare : Life → Type 0
Bare life = life.store ≡ []

-- After the first run all has begun, so that no file is put on a disk.
record IsStored (so_far : ScheduleReader) : Type 0 where
  first : OnlyFirstHasFiles so_far.lives
  later : so_far.begun ≡ false → so_far.lives ≡ []
  cut : so_far.begun ≡ false → so_far.life.cut ≡ None
  bare : (one : Life) (more : List Life) → so_far.lives ≡ one ∷ more → so_far.life.store ≡ []

stored_nothing : IsStored reader_start
stored_nothing = record { first = tt; later = λ _. refl; cut = λ _. refl; bare = λ one more is. refl }

not_begun : (a b : Bool) → (a || b) ≡ false → b ≡ false
not_begun true b is = absurd (cc is)
not_begun false b is = is

off_of : (b : Bool) → not b ≡ true → b ≡ false
off_of true is = absurd (cc is)
off_of false is = refl

-- a run after others
one_more : (lives : List Life) (life : Life) → OnlyFirstHasFiles lives → ((one : Life) (more : List Life) → lives ≡ one ∷ more → Bare life) → OnlyFirstHasFiles (lives ++ life ∷ [])
one_more [] life first bare = All-nil Bare
one_more (one ∷ more) life first bare = All-append Bare more (life ∷ []) first (All-cons Bare life [] (bare one more refl) (All-nil Bare))

planned_behind : (life : Life) (so_far : ScheduleReader) → IsStored so_far → life.store ≡ so_far.life.store → life.cut ≡ so_far.life.cut → (left : ℕ) (happens : Bool)
    → IsStored (with_complete_life life (record so_far { left = left; begun = happens || so_far.begun }))
planned_behind life so_far is store cut left happens = by (is_some life.cut) refl
  where
    next : ScheduleReader
    next = record so_far { left = left; begun = happens || so_far.begun }

    none_some : (c : Option Cut) → c ≡ None → is_some c ≡ true → ⊥
    none_some None same some = absurd (cc some)
    none_some (Some c) same some = absurd (cc same)

    begun_too : is_some life.cut ≡ true → (happens || so_far.begun) ≡ false → ⊥
    begun_too some none = none_some life.cut (cut ∙ is.cut (not_begun happens so_far.begun none)) some

    by : (b : Bool) → is_some life.cut ≡ b
        → IsStored (if b then record next { lives = next.lives ++ life ∷ []; life = record { lines = []; answers = []; disk_fails = []; file_fails = []; store = []; cut = None } } else record next { life = life })
    by true some = record {
      first = one_more so_far.lives life is.first (λ one more same. store ∙ is.bare one more same);
      later = λ none. absurd (begun_too some none);
      cut = λ _. refl;
      bare = λ one more same. refl;
    }
    by false some = record {
      first = is.first;
      later = λ none. is.later (not_begun happens so_far.begun none);
      cut = λ none. cut ∙ is.cut (not_begun happens so_far.begun none);
      bare = λ one more same. store ∙ is.bare one more same;
    }

stored_after : (meaning : LineMeaning) (so_far : ScheduleReader) (behind : List (List ℕ)) → in_order so_far meaning behind ≡ true → IsStored so_far → IsStored (after meaning so_far)
stored_after (Plans planned) so_far behind order is = planned_behind (record so_far.life { lines = so_far.life.lines ++ planned ∷ [] }) so_far is refl refl _ (is_happening planned)
stored_after (Answers given) so_far behind order is = record { first = is.first; later = is.later; cut = is.cut; bare = is.bare }
stored_after (DiskFails call) so_far behind order is = record { first = is.first; later = is.later; cut = is.cut; bare = is.bare }
stored_after (FileFails call) so_far behind order is = record { first = is.first; later = is.later; cut = is.cut; bare = is.bare }
stored_after (Stores stored) so_far behind order is =
    let off = off_of so_far.begun order in
    record { first = is.first; later = is.later; cut = is.cut; bare = λ one more same. absurd (cc (sym (is.later off) ∙ same)) }
stored_after (Crashes cut) so_far behind order is = record { first = is.first; later = λ none. absurd (cc none); cut = λ none. absurd (cc none); bare = is.bare }

judged_order : (so_far : ScheduleReader) (line : List ℕ) (behind : List (List ℕ)) (meaning : LineMeaning) → judge so_far line behind ≡ Ok meaning → in_order so_far meaning behind ≡ true
unfolding judge
judged_order so_far line behind meaning is = by (line_meaning so_far.left line) is
  where
    test : (b : Bool) (one : LineMeaning) → in_order so_far one behind ≡ b → (if b then Ok one else Err BadOrder) ≡ Ok meaning → in_order so_far meaning behind ≡ true
    test true one order same = let e : one ≡ meaning = cc same in subst (λ (m : LineMeaning). in_order so_far m behind ≡ true) e order
    test false one order same = absurd (cc same)

    by : (said : Result LineMeaning ScheduleKind) → ordered so_far behind said ≡ Ok meaning → in_order so_far meaning behind ≡ true
    by (Ok one) same = test (in_order so_far one behind) one refl same
    by (Err kind) same = absurd (cc same)

read_stored : (lines : List (List ℕ)) (so_far : ScheduleReader) (number : ℕ) (schedule : Schedule) → IsStored so_far → read_on so_far number lines ≡ Ok schedule → OnlyFirstHasFiles schedule.lives
read_stored [] so_far number schedule is read =
    let same : schedule_so_far so_far ≡ schedule = cc read in
    subst (λ (s : Schedule). OnlyFirstHasFiles s.lives) same (one_more so_far.lives so_far.life is.first is.bare)
read_stored (line ∷ behind) so_far number schedule is read =
    passed (λ again. read_stored behind so_far (number + 1) schedule is again)
    (λ meaning judged on. read_stored behind (after meaning so_far) (number + 1) schedule (stored_after meaning so_far behind (judged_order so_far line behind meaning judged) is) on) (is_passed_over line) read
  where
    meant : ((meaning : LineMeaning) → judge so_far line behind ≡ Ok meaning → read_on (after meaning so_far) (number + 1) behind ≡ Ok schedule → OnlyFirstHasFiles schedule.lives)
        → (said : Result LineMeaning ScheduleKind) → judge so_far line behind ≡ said → go_on number (λ meaning. read_on (after meaning so_far) (number + 1) behind) said ≡ Ok schedule → OnlyFirstHasFiles schedule.lives
    meant more (Ok meaning) judged on = more meaning judged on
    meant more (Err kind) judged on = absurd (cc on)

    passed : (read_on so_far (number + 1) behind ≡ Ok schedule → OnlyFirstHasFiles schedule.lives)
        → ((meaning : LineMeaning) → judge so_far line behind ≡ Ok meaning → read_on (after meaning so_far) (number + 1) behind ≡ Ok schedule → OnlyFirstHasFiles schedule.lives)
        → (b : Bool) → (if b then read_on so_far (number + 1) behind else go_on number (λ meaning. read_on (after meaning so_far) (number + 1) behind) (judge so_far line behind)) ≡ Ok schedule → OnlyFirstHasFiles schedule.lives
    passed again more true on = again on
    passed again more false on = meant more (judge so_far line behind) refl on

pub first_stores : (text : List ℕ) (schedule : Schedule) → schedule_of text ≡ Ok schedule → OnlyFirstHasFiles schedule.lives
unfolding schedule_of
first_stores text schedule read = read_stored (lines_of text) reader_start 1 schedule stored_nothing read
