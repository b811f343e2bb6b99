-- What is shown of a run.
use Rattle.std.proofs.Common.{◌≡◌, ℕ, zero, suc, ◌==◌, Bool, false, if◌then◌else◌, List, [], ◌∷◌, ◌++◌, Option, Some, None, refl, ap, ◌∙◌}
use Rattle.std.proofs.lemmas.Nat.Bits.{bit_at-zero}
use Rattle.std.specs.Prelude.{slice_get}
use Rattle.fwd_outside.specs.Loop.{LoopCall, LoopAnswer, LoopEntry, LoopLog, Start, Wait, Dial, Push, Close, Reply, DropConn, Word}
use Rattle.fwd_settings.specs.declared.settings_types.AllSettings.{AllSettings}
use Rattle.fwd_script_loop.specs.LinkBytes.{dialed_by, handed, is_one_of, leads_to, taken_by, taken_of}
use Rattle.fwd_script_loop.specs.Lines.{given_of}
use Rattle.fwd_script_loop.specs.Told.{entries_of}
use Rattle.fwd_script.specs.declared.schedule.Life.{Life}
use Rattle.fwd_model.specs.Fact.{History}
use Rattle.fwd_model.specs.Trace.{TraceEntry, loop_part}
use Rattle.fwd_replay.proofs.CallLog.{told_is}
use Rattle.fwd_replay.specs.RunState.{IsTextOf}
use Rattle.fwd_replay.specs.Text.{life_text, report, stdout_mask, with_line_end}
use Rattle.fwd_replay.specs.declared.report.Shown.{Shown}
use Rattle.fwd_replay.specs.declared.report.Shown.TheVariants.{All, Report}

-- ---- no outputs print nothing

no_output : (output : Option ℕ) → is_one_of 0 output ≡ false
no_output (Some output) = ap (λ (bit : ℕ). bit == 1) (bit_at-zero output)
no_output None = refl

leads_nowhere : (links : List ℕ) (link : ℕ) → leads_to 0 links link ≡ false
leads_nowhere links zero = refl
leads_nowhere links (suc number) = no_output (slice_get links number)

none_by : (links : List ℕ) (call : LoopCall) (answer : LoopAnswer call) → taken_by 0 links call answer ≡ []
none_by links (Push link bytes) answer = ap (λ (b : Bool). if b then taken_of bytes answer else []) (leads_nowhere links link)
none_by links (Start ends) answer = refl
none_by links (Wait until paused) answer = refl
none_by links (Dial output tag) answer = refl
none_by links (Close link) answer = refl
none_by links (Reply conn bytes) answer = refl
none_by links (DropConn conn) answer = refl
none_by links Word answer = refl

none_handed : (links : List ℕ) (es : List LoopEntry) → handed 0 links es ≡ []
none_handed links [] = refl
none_handed links (e ∷ es) =
    let more = dialed_by links e.call e.answer in
    ap (λ (l : List ℕ). l ++ handed 0 more es) (none_by links e.call e.answer) ∙ none_handed more es

-- ---- the text of a run

pub text_is : (shown : Shown) (s : AllSettings) (planned : Life) (log : LoopLog) (below : List TraceEntry) (h : History) (text : List ℕ) → log ≡ Some (given_of planned, loop_part below) → IsTextOf shown s log h text → text ≡ life_text shown s below h
text_is All s planned log below h text is of =
    let script = of.1.0 in
    let told = told_is script (given_of planned) (loop_part below) (of.1.1 ∙ is) in
    of.2 ∙ ap (λ (bytes : List ℕ). with_line_end bytes ++ report s h) (of.1.2 ∙ ap (λ (es : List LoopEntry). handed (stdout_mask s.outputs) [] es) told.1)
text_is Report s planned log below h text is of = of.2 ∙ ap (λ (bytes : List ℕ). with_line_end bytes ++ report s h) (of.1.2 ∙ none_handed [] (entries_of of.1.0.notes))
