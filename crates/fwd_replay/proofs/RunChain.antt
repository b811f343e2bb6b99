-- One run after another.
use Rattle.std.proofs.Common.{◌≡◌, ℕ, ◌+◌, ◌-◌, ◌<◌, ◌≤◌, List, [], ◌∷◌, ◌++◌, length, drop, Option, Some, None, Result, Ok, Err, OnErr, get_or, refl, sym, subst, ap, ◌∙◌, append_assoc}
use Rattle.std.proofs.lemmas.List.{append-nil, drop_all, drop_more}
use Rattle.fwd_settings.specs.declared.settings_types.AllSettings.{AllSettings}
use Rattle.fwd_disk_mem.specs.DiskState.{Seen}
use Rattle.fwd_keeper_mem.specs.KeeperState.{KeeperState}
use Rattle.fwd_files_mem.specs.FilesState.{FilesState}
use Rattle.fwd_script.specs.declared.schedule.Cut.{Cut}
use Rattle.fwd_script.specs.declared.schedule.Life.{Life}
use Rattle.fwd_table.specs.declared.tally.Tally.{Tally}
use Rattle.fwd_model.specs.Fact.{History}
use Rattle.fwd_model.specs.Trace.{TraceEntry, loop_part}
use Rattle.fwd_model.specs.Routes.{rows_of}
use Rattle.fwd_model.specs.Counters.{tally_of}
use Rattle.fwd_script_loop.specs.LinkBytes.{handed}
use Rattle.fwd_report.specs.Report.{input_lines, output_lines, owed_part, report_of, total_line}
use Rattle.fwd_theorem_trace.specs.Waits.{waits_in}
use Rattle.fwd_replay.specs.Runs.{CutRun, EndsIn, IsCut, IsReplayed, Ended, WasCut, OutOfMemory, Start, first}
use Rattle.fwd_replay.specs.RunState.{ProducesText, DevicesAreReady, AppendsRun, PassesOn, after_cut}
use Rattle.fwd_replay.specs.Text.{after_crash, crash_line, input_names, joined, life_text, output_names, report, stdout_mask, out_of_memory, with_line_end}
use Rattle.fwd_replay.specs.declared.report.Ending.{Ending}
use Rattle.fwd_replay.specs.declared.report.Ending.TheVariants as ending
use Rattle.fwd_replay.specs.declared.life.Next.{Next}
use Rattle.fwd_replay.specs.declared.life.Next.TheVariants as follow
use Rattle.fwd_replay.specs.declared.runs.After.{After}
use Rattle.fwd_replay.specs.declared.runs.Between.{Between}
use Rattle.fwd_replay.specs.declared.report.Reported.{Reported}
use Rattle.fwd_replay.specs.declared.report.Shown.{Shown}
use Rattle.fwd_replay.specs.declared.report.Shown.TheVariants.{All, Report}
use Rattle.fwd_replay.proofs.Handover.{reported}

-- ---- the text of a run isn't empty

abbrev IsThere : List ℕ → Type 0
IsThere [] = ⊥
IsThere (byte ∷ bytes) = Unit {0}

there_behind : (a b : List ℕ) → IsThere b → IsThere (a ++ b)
there_behind [] b there = there
there_behind (byte ∷ a) b there = tt

there_before : (a b : List ℕ) → IsThere a → IsThere (a ++ b)
there_before [] b there = absurd there
there_before (byte ∷ a) b there = tt

totals_there : (tally : Tally) → IsThere (total_line tally)
unfolding total_line
totals_there tally = tt

report_there : (s : AllSettings) (h : History) → IsThere (report s h)
unfolding report_of
report_there s h =
    let tally = tally_of s h in
    let inputs = input_lines (input_names s.inputs) tally.inputs in
    let outputs = output_lines (output_names s.outputs) tally.outputs in
    let owed = owed_part (output_names s.outputs) (rows_of s h) in
    there_before (inputs ++ outputs ++ total_line tally) owed (there_behind (inputs ++ outputs) (total_line tally) (totals_there tally))

text_there : (shown : Shown) (s : AllSettings) (trace : List TraceEntry) (h : History) → IsThere (life_text shown s trace h)
text_there Report s trace h = report_there s h
text_there All s trace h = there_behind (with_line_end (handed (stdout_mask s.outputs) [] (loop_part trace))) (report s h) (report_there s h)

-- ---- texts after crashes

pub behind_none : (cut : Option Cut) → after_cut cut [] ≡ []
behind_none None = refl
behind_none (Some cut) = refl

behind_both : (cut : Option Cut) (a b : List ℕ) → IsThere a → after_cut cut (a ++ b) ≡ after_cut cut a ++ b
behind_both None a b there = refl
behind_both (Some cut) [] b there = absurd there
behind_both (Some cut) (byte ∷ a) b there = sym (append_assoc (crash_line cut) (byte ∷ a) b)

-- ---- runs, one after another

-- The text of the runs so far, up to a crash or before any: with the text of the runs after them it is
-- the text of all.
abbrev pub Continues : Shown → AllSettings → ℕ → List Life → List ℕ → Option Cut → ℕ → Start → List Life → Type 0
Continues shown s most lives text cut left start more = (rest : Reported) → IsReplayed shown s left start more rest → IsReplayed shown s most first lives (reported (text ++ after_cut cut rest.text) rest.ending)

module _ (shown : Shown) (s : AllSettings) (most : ℕ) (lives : List Life) (text : List ℕ) (cut : Option Cut) (left : ℕ) (start : Start) where
  nothing_more : (end : Ending) → IsReplayed shown s most first lives (reported (text ++ after_cut cut []) end) → IsReplayed shown s most first lives (reported text end)
  nothing_more end is = subst (λ (t : List ℕ). IsReplayed shown s most first lives (reported t end)) (ap (λ (l : List ℕ). text ++ l) (behind_none cut) ∙ append-nil text) is

  pub ends_all : (i : ℕ) → length lives ≤ i → Continues shown s most lives text cut left start (drop i lives) → IsReplayed shown s most first lives (reported text ending.Over)
  ends_all i all goes =
      let none : Continues shown s most lives text cut left start [] = subst (λ (l : List Life). Continues shown s most lives text cut left start l) (drop_all i lives all) goes in
      nothing_more ending.Over (none (reported [] ending.Over) refl)

  module _ (planned : Life) (more : List Life) (goes : Continues shown s most lives text cut left start (planned ∷ more)) where
    pub wants_here : IsReplayed shown s most first lives (reported text ending.Memory)
    wants_here = nothing_more ending.Memory (goes out_of_memory (OutOfMemory refl))

    pub ends_here : (own all : List ℕ) (end : Ending) → EndsIn shown s left start planned (reported own end) → all ≡ text ++ after_cut cut own → IsReplayed shown s most first lives (reported all end)
    ends_here own all end ends is = subst (λ (t : List ℕ). IsReplayed shown s most first lives (reported t end)) (sym is) (goes (reported own end) (Ended ends))

    pub goes_on : (c : CutRun) (all : List ℕ) (after : Option Cut) (left2 : ℕ) → IsCut s left start planned c → all ≡ text ++ after_cut cut (life_text shown s c.below c.history) → after ≡ Some c.cut
        → left2 ≡ left - waits_in (c.before ++ c.turn) → Continues shown s most lives all after left2 c.next more
    goes_on c all after left2 is_cut all_is after_is left_is rest replayed =
        let life = life_text shown s c.below c.history in
        let behind = after_crash c.cut rest.text in
        let so : IsReplayed shown s (left - waits_in (c.before ++ c.turn)) c.next more rest = subst (λ (n : ℕ). IsReplayed shown s n c.next more rest) left_is replayed in
        let whole : IsReplayed shown s most first lives (reported (text ++ after_cut cut (life ++ behind)) rest.ending) = goes (joined life c.cut rest) (WasCut c is_cut rest so refl) in
        let same : text ++ after_cut cut (life ++ behind) ≡ all ++ after_cut after rest.text =
        ap (λ (l : List ℕ). text ++ l) (behind_both cut life behind (text_there shown s c.below c.history))
        ∙ sym (append_assoc text (after_cut cut life) behind)
        ∙ ap (λ (l : List ℕ). l ++ behind) (sym all_is)
        ∙ ap (λ (k : Option Cut). all ++ after_cut k rest.text) (sym after_is)
        in
        subst (λ (t : List ℕ). IsReplayed shown s most first lives (reported t rest.ending)) same whole

pub same_text : (shown : Shown) (s : AllSettings) (most : ℕ) (lives : List Life) (end : Ending) {text text2 : List ℕ} → text2 ≡ text → IsReplayed shown s most first lives (reported text end) → IsReplayed shown s most first lives (reported text2 end)
same_text shown s most lives end same is = subst (λ (t : List ℕ). IsReplayed shown s most first lives (reported t end)) (sym same) is

-- the run at an index is the first of those from there on
pub from_here : (shown : Shown) (s : AllSettings) (most : ℕ) (lives items : List Life) (text : List ℕ) (cut : Option Cut) (left : ℕ) (start : Start) (i : ℕ) (planned : Life) → items ≡ lives → i < length items → planned ≡ get_or items i planned
    → Continues shown s most lives text cut left start (drop i lives) → Continues shown s most lives text cut left start (planned ∷ drop (i + 1) lives)
from_here shown s most lives items text cut left start i planned same more is goes =
    let there : drop i items ≡ planned ∷ drop (i + 1) items = drop_more items i planned more ∙ ap (λ (p : Life). p ∷ drop (i + 1) items) (sym is) in
    let here : drop i lives ≡ planned ∷ drop (i + 1) lives = subst (λ (l : List Life). drop i l ≡ planned ∷ drop (i + 1) l) same there in
    subst (λ (l : List Life). Continues shown s most lives text cut left start l) here goes

-- before the first of them the text is empty
pub begins : (shown : Shown) (s : AllSettings) (most : ℕ) (lives : List Life) (text : List ℕ) (cut : Option Cut) → text ≡ [] → cut ≡ None → Continues shown s most lives text cut most first lives
begins shown s most lives text cut empty none rest is =
    let same : text ++ after_cut cut rest.text ≡ rest.text = ap (λ (k : Option Cut). text ++ after_cut k rest.text) none ∙ ap (λ (l : List ℕ). l ++ rest.text) empty in
    same_text shown s most lives rest.ending same is

pub on_err : {T E P : Type 0} (r : Result T E) → P → OnErr r P
on_err (Ok x) is = tt
on_err (Err e) is = is

-- before the first of some runs
pub wants_first : (shown : Shown) (s : AllSettings) (most : ℕ) (lives : List Life) → (lives ≡ [] → ⊥) → IsReplayed shown s most first lives (reported [] ending.Memory)
wants_first shown s most [] some = absurd (some refl)
wants_first shown s most (planned ∷ lives) some = OutOfMemory refl

-- the outcome of a run, which is handed to what follows it
pub follows : (shown : Shown) (s : AllSettings) (start : Start) (planned : Life) (old new : Between) (seen : Seen) (held : FilesState) (kept : KeeperState) (text all own : List ℕ) (next : Next) (after : After)
    → ProducesText shown s old.left start planned seen held kept own next → all ≡ text ++ after_cut old.cut own → PassesOn next (record old { disk = seen; files = held; keeper = kept }) new after → AppendsRun shown s start planned old new text all after
follows shown s start planned old new seen held kept text all own (follow.Ends ending) after comes is passed = subst (λ (a : After). AppendsRun shown s start planned old new text all a) (sym passed) (own, comes, is)
follows shown s start planned old new seen held kept text all own (follow.Life left) after comes is passed =
    subst (λ (a : After). AppendsRun shown s start planned old new text all a) (sym passed.0) (
      comes.0,
      comes.1,
      is ∙ ap (λ (l : List ℕ). text ++ after_cut old.cut l) comes.2,
      comes.4,
      subst (λ (b : Between). DevicesAreReady comes.0.next b.disk b.files b.keeper) (sym passed.1) comes.5,
      ap (λ (b : Between). b.cut) passed.1 ∙ ap (λ (k : Cut). Some k) comes.3,
      ap (λ (b : Between). b.left) passed.1 ∙ ap (λ (n : ℕ). old.left - n) comes.6,
    )
