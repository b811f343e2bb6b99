-- Each link that a dial of a trace returned is among its dialed links.
use Rattle.std.proofs.Common.{inl, inr, ℕ, List, [], ◌∷◌, ◌++◌, Some, refl}
use Rattle.fwd_outside.specs.Loop.{Dial}
use Rattle.fwd_model.specs.Trace.{Call, Answer, TraceEntry, OnLoop, loop_entry, loop_part}
use Rattle.fwd_theorem_links.specs.DialedLinks.{IsAmong, dialed_links}
use Rattle.fwd_theorem_links.proofs.Simulation.{AnswerIsDialed, AllDialed}

module _ (rename : ℕ → ℕ) (HasFollowed : Type 0) where
  wider_answer : (P Q : ℕ → Type 0) → ((link : ℕ) → P link → Q link) → (call : Call) (answer : Answer call) → AnswerIsDialed rename P HasFollowed call answer → AnswerIsDialed rename Q HasFollowed call answer
  wider_answer P Q wider (OnLoop (Dial output tag)) (Some link) dialed = wider link dialed
  wider_answer P Q wider call answer dialed = tt

  wider_all : (P Q : ℕ → Type 0) → ((link : ℕ) → P link → Q link) → (es : List TraceEntry) → AllDialed rename P HasFollowed es → AllDialed rename Q HasFollowed es
  wider_all P Q wider [] dialed = tt
  wider_all P Q wider (e ∷ es) dialed = (wider_answer P Q wider e.call e.answer dialed.0, wider_all P Q wider es dialed.1)

  among_later : (call : Call) (answer : Answer call) (es : List TraceEntry) (link : ℕ) → IsAmong (dialed_links (loop_part es)) link → IsAmong (dialed_links (loop_entry call answer ++ loop_part es)) link
  among_later (OnLoop (Dial output tag)) (Some other) es link among = inr among
  among_later call answer es link among = among

  here : (call : Call) (answer : Answer call) (es : List TraceEntry) → AnswerIsDialed rename (IsAmong (dialed_links (loop_entry call answer ++ loop_part es))) HasFollowed call answer
  here (OnLoop (Dial output tag)) (Some link) es = inl refl
  here call answer es = tt

  pub all_dialed : (es : List TraceEntry) → AllDialed rename (IsAmong (dialed_links (loop_part es))) HasFollowed es
  all_dialed [] = tt
  all_dialed (e ∷ es) = (here e.call e.answer es, wider_all (IsAmong (dialed_links (loop_part es))) (IsAmong (dialed_links (loop_part (e ∷ es)))) (among_later e.call e.answer es) es (all_dialed es))
