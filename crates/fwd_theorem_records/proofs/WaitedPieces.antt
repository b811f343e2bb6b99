-- What a run read over connections is what its waits brought.
use Rattle.std.proofs.Common.{◌≡◌, inl, inr, ℕ, suc, ◌<◌, List, [], ◌∷◌, ◌++◌, Option, Some, sym, subst}
use Rattle.std.specs.Prelude.{slice_index}
use Rattle.fwd_msgpack.specs.Encodings.{AllBytes}
use Rattle.fwd_outside.specs.Program.{Execution}
use Rattle.fwd_outside.specs.Loop.{Wait}
use Rattle.fwd_outside.specs.LoopAnswers.{IsOfBytes, BringsBytes, WaitsBringBytes}
use Rattle.fwd_outside.specs.declared.ends.Ends.{Ends}
use Rattle.fwd_outside.specs.declared.happening.Happening.{Happening}
use Rattle.fwd_outside.specs.declared.happening.Happening.TheVariants as happening
use Rattle.fwd_settings.specs.declared.settings_types.AllSettings.{AllSettings}
use Rattle.fwd_model.specs.Fact.{Fact, History, Happened}
use Rattle.fwd_model.specs.Trace.{Call, Answer, Action, TraceEntry, OnLoop, Note, loop_entry, loop_part, history_after, history_after_call}
use Rattle.fwd_model.specs.Run.{RunResult, life}
use Rattle.fwd_theorem_trace.specs.Past.{Past, logged, past_after, event_by, last_event}
use Rattle.fwd_theorem_trace.specs.Allowed.{EventAllowed, FactAllowed, IsAllowed, Allowed}
use Rattle.fwd_theorem_trace.proofs.Traversal.{noted_since}
use Rattle.fwd_theorem_trace.proofs.Run.{due_since}
use Rattle.fwd_theorem_records.proofs.ReadPieces.{PiecesAreBytes}

abbrev Brought : (call : Call) → Answer call → Type 0
Brought (OnLoop call) answer = BringsBytes call answer
Brought call answer = Unit {0}

abbrev AllBrought : Past → Type 0
AllBrought [] = Unit {0}
AllBrought (e ∷ past) = Brought e.call e.answer × AllBrought past

first_brought : (call : Call) (answer : Answer call) (es : List TraceEntry) → WaitsBringBytes (loop_entry call answer ++ loop_part es) → Brought call answer × WaitsBringBytes (loop_part es)
first_brought (OnLoop call) answer es are = (are.0, are.1)
first_brought call answer es are = (tt, are)

all_brought : (past : Past) (es : List TraceEntry) → AllBrought past → WaitsBringBytes (loop_part es) → AllBrought (past_after past es)
all_brought past [] all are = all
all_brought past (e ∷ es) all are = let both = first_brought e.call e.answer es are in all_brought (e ∷ past) es (both.0, all) both.1

-- the last event
call_brought : (call : Call) (answer : Answer call) (x : Happening) → event_by call answer ≡ Some x → Brought call answer → IsOfBytes x
call_brought (OnLoop (Wait until paused)) answer x is brought = let same : answer ≡ x = cc is in subst IsOfBytes same brought
call_brought call answer x is brought = absurd (cc is)

last_brought : (past : Past) (x : Happening) → last_event past ≡ Some x → AllBrought past → IsOfBytes x
last_brought [] x is all = absurd (cc is)
last_brought (e ∷ past) x is all = call_brought e.call e.answer x is all.0

all_bytes : (bytes : List ℕ) → ((i : ℕ) → slice_index bytes i < 256) → AllBytes bytes
all_bytes [] is = tt
all_bytes (byte ∷ bytes) is = (is 0, all_bytes bytes (λ i. is (suc i)))

module _ (s : AllSettings) where
  event_brought : (x : Happening) (past : Past) → EventAllowed s x past → AllBrought past → IsOfBytes x
  event_brought x past (inl last) all = last_brought past x last all
  event_brought x past (inr stops) all = subst IsOfBytes (sym stops.0) tt

  one_more : (x : Happening) (h : History) → IsOfBytes x → PiecesAreBytes h → PiecesAreBytes (Happened x ∷ h)
  one_more (happening.Piece input conn bytes) h is are = (all_bytes bytes is, are)
  one_more x h is are = are

  fact_brought : (fact : Fact) (past : Past) → FactAllowed s fact past → AllBrought past → PiecesAreBytes (logged past) → PiecesAreBytes (fact ∷ logged past)
  fact_brought (Happened x) past due all are = one_more x (logged past) (event_brought x past due all) are
  fact_brought fact past due all are = are

  call_adds : (call : Call) (past : Past) → IsAllowed s call past → AllBrought past → PiecesAreBytes (logged past) → PiecesAreBytes (history_after_call call (logged past))
  call_adds (Note fact) past due all are = fact_brought fact past due all are
  call_adds call past due all are = are

  past_brought : (past : Past) → Allowed s past → AllBrought past → PiecesAreBytes (logged past)
  past_brought [] due all = tt
  past_brought (e ∷ past) due all = call_adds e.call past due.0 all.1 (past_brought past due.1 all.1)

  pub brought_so_far : (ends : Ends) (ticks : Option ℕ) (turns : ℕ) (es : List TraceEntry) (left : Action RunResult) → Execution (life s ends ticks turns) es left → WaitsBringBytes (loop_part es) → PiecesAreBytes (history_after es [])
  brought_so_far ends ticks turns es left way are = subst PiecesAreBytes (noted_since [] es) (past_brought (past_after [] es) (due_since s ends ticks turns es left way) (all_brought [] es tt are))
