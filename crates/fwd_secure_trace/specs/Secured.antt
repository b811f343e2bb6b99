-- A run over a keyed loop: the trace as the engine sees it, and the trace as the devices see it.
use Rattle.std.specs.Prelude.{◌≡◌, List, [], ◌∷◌, ◌++◌, map}
use Rattle.fwd_outside.specs.Program.{entry, Return, Ask, bind, Execution}
use Rattle.fwd_outside.specs.Loop.{LoopEntry, LoopProgram}
use Rattle.fwd_model.specs.Trace.{Call, Answer, TraceEntry, Action, OnLoop, OnDisk, OnFiles, OnKeeper, Note}
use Rattle.fwd_secure.specs.declared.keys.Keys.{Keys}
use Rattle.fwd_secure.specs.Handshakes.{Handshakes}
use Rattle.fwd_secure.specs.Rules.{answers}

abbrev pub on_loop : LoopEntry → TraceEntry
on_loop e = entry (OnLoop e.call) e.answer

-- One call of the engine, by calls of the devices. A call on the loop is answered by the rule of the keyed
-- loop, any other is itself.
abbrev pub CallIsSecured : Keys → Handshakes → (call : Call) → Answer call → List TraceEntry → Handshakes → Type 0
CallIsSecured keys k (OnLoop call) answer own u =
    (calls : List LoopEntry) × (own ≡ map on_loop calls) × Execution (answers keys k call) calls (Return (answer, u))
CallIsSecured keys k (OnDisk call) answer own u = (own ≡ entry (OnDisk call) answer ∷ []) × (u ≡ k)
CallIsSecured keys k (OnFiles call) answer own u = (own ≡ entry (OnFiles call) answer ∷ []) × (u ≡ k)
CallIsSecured keys k (OnKeeper call) answer own u = (own ≡ entry (OnKeeper call) answer ∷ []) × (u ≡ k)
CallIsSecured keys k (Note fact) answer own u = (own ≡ entry (Note fact) answer ∷ []) × (u ≡ k)

-- The trace of the engine, by the trace of the devices: from one state of the handshakes to another, each call
-- of the engine in turn.
abbrev pub IsSecured : Keys → Handshakes → (above below : List TraceEntry) → Handshakes → Type 0
IsSecured keys k [] below t = (below ≡ []) × (t ≡ k)
IsSecured keys k (e ∷ es) below t =
    (own rest : List TraceEntry) × (u : Handshakes) × (below ≡ own ++ rest)
    × CallIsSecured keys k e.call e.answer own u × IsSecured keys u es rest t

-- ---- the same as a program

-- a program of a loop, as an action
abbrev pub as_action : {R : Type 0} → LoopProgram R → Action R
as_action (Return x) = Return x
as_action (Ask call go) = Ask (OnLoop call) (λ answer. as_action (go answer))

-- an action of which each call on the loop is made by the rule of the keyed loop
abbrev pub secured : {R : Type 0} → Keys → Handshakes → Action R → Action (R × Handshakes)
secured keys k (Return x) = Return (x, k)
secured keys k (Ask (OnLoop call) go) =
    bind (as_action (answers keys k call)) (λ went. secured keys went.1 (go went.0))
secured keys k (Ask (OnDisk call) go) = Ask (OnDisk call) (λ answer. secured keys k (go answer))
secured keys k (Ask (OnFiles call) go) = Ask (OnFiles call) (λ answer. secured keys k (go answer))
secured keys k (Ask (OnKeeper call) go) = Ask (OnKeeper call) (λ answer. secured keys k (go answer))
secured keys k (Ask (Note fact) go) = Ask (Note fact) (λ answer. secured keys k (go answer))
