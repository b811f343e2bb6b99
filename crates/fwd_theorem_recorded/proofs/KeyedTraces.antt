-- The engine's trace over the devices' trace, with other numbers of links.
use Rattle.std.proofs.Common.{◌≡◌, inl, inr, ℕ, List, [], ◌∷◌, ◌++◌, map, Some, refl, sym, ap, ◌∙◌, subst}
use Rattle.fwd_outside.specs.Program.{entry, Return, Execution}
use Rattle.fwd_outside.specs.Loop.{LoopCall, LoopAnswer, LoopEntry, Dial}
use Rattle.fwd_model.specs.Trace.{Call, Answer, TraceEntry, OnLoop, OnDisk, OnFiles, OnKeeper, Note, loop_part}
use Rattle.fwd_model.proofs.CallLogs.{loop_append}
use Rattle.fwd_secure.specs.declared.keys.Keys.{Keys}
use Rattle.fwd_secure.specs.Handshakes.{Handshakes, no_handshakes}
use Rattle.fwd_secure.specs.Rules.{answers}
use Rattle.fwd_secure_trace.specs.Secured.{on_loop, CallIsSecured, IsSecured}
use Rattle.fwd_secure_trace.proofs.Secured.{part_on_loop}
use Rattle.fwd_theorem_links.specs.DialedLinks.{IsAmong, KeepsApart, dialed_links, dialed_by}
use Rattle.fwd_theorem_links.specs.RenamedLinks.{renamed_loop_call, renamed_loop_answer, renamed_call, renamed_answer, renamed_trace}
use Rattle.fwd_theorem_recorded.specs.RenamedHandshakes.{IsSecuredRenamed}
use Rattle.fwd_theorem_recorded.proofs.LoopSimulation.{LinkIsDialed, LinksAreDialed, dialed_left, dialed_right, renamed_calls, simulates_to_end}
use Rattle.fwd_theorem_recorded.proofs.RenamedStates.{LinkStates, AreRenamed, with_others}
use Rattle.fwd_theorem_recorded.proofs.InputRules.{AreAlike}
use Rattle.fwd_theorem_recorded.proofs.KeyedCalls.{answers_alike}

module _ (rename : ℕ → ℕ) where
  pub renamed_append : (xs ys : List TraceEntry) → renamed_trace rename (xs ++ ys) ≡ renamed_trace rename xs ++ renamed_trace rename ys
  renamed_append [] ys = refl
  renamed_append (e ∷ xs) ys = ap (λ (l : List TraceEntry). entry (renamed_call rename e.call) (renamed_answer rename e.call e.answer) ∷ l) (renamed_append xs ys)

  module _ (IsDialed : ℕ → Type 0) (apart : KeepsApart rename IsDialed) where
    abbrev IsState : Handshakes → LinkStates → Type 0
    IsState k others = AreRenamed rename IsDialed apart k.links k.kept others

    abbrev Other : Handshakes → LinkStates → Handshakes
    Other k others = with_others rename IsDialed apart k others

    calls_renamed : (calls : List LoopEntry) → renamed_trace rename (map on_loop calls) ≡ map on_loop (renamed_calls rename calls)
    calls_renamed [] = refl
    calls_renamed (e ∷ calls) = ap (λ (l : List TraceEntry). on_loop (entry (renamed_loop_call rename e.call) (renamed_loop_answer rename e.call e.answer)) ∷ l) (calls_renamed calls)

    -- up to a state with these states of its links
    pub record Secured (P : Handshakes → Type 0) (t : Handshakes) : Type 0 where
      pub others : LinkStates
      pub secured : P (Other t others)
      pub is : IsState t others

    module _ (keys : Keys) (k : Handshakes) (others : LinkStates) (is : IsState k others) where
      abbrev OneSecured : (call : Call) → Answer call → List TraceEntry → Handshakes → Type 0
      OneSecured call answer own u = Secured (CallIsSecured keys (Other k others) (renamed_call rename call) (renamed_answer rename call answer) (renamed_trace rename own)) u

      aside : (call : Call) (answer : Answer call) (own : List TraceEntry) (u : Handshakes) → own ≡ entry call answer ∷ [] → u ≡ k
          → (others2 : LinkStates) × ((renamed_trace rename own ≡ entry (renamed_call rename call) (renamed_answer rename call answer) ∷ []) × (Other u others2 ≡ Other k others)) × IsState u others2
      aside call answer own u one same = (others, (ap (renamed_trace rename) one, ap (λ (v : Handshakes). Other v others) same), subst (λ (v : Handshakes). IsState v others) (sym same) is)

      one_secured : (call : Call) (answer : Answer call) (own : List TraceEntry) (u : Handshakes) → CallIsSecured keys k call answer own u → LinksAreDialed rename IsDialed (loop_part own) → OneSecured call answer own u
      one_secured (OnLoop call) answer own u one dialed =
          let calls : List LoopEntry = one.0 in
          let all : LinksAreDialed rename IsDialed calls = subst (LinksAreDialed rename IsDialed) (ap loop_part one.1 ∙ part_on_loop calls) dialed in
          let Same : LoopAnswer call → LoopAnswer (renamed_loop_call rename call) → Type 0 = λ x y. y ≡ renamed_loop_answer rename call x in
          let there =
          simulates_to_end rename IsDialed (AreAlike rename IsDialed apart Same) (answer, u) (answers keys k call) (answers keys (Other k others) (renamed_loop_call rename call)) calls
          (answers_alike rename IsDialed apart keys k others is call) one.2 all in
          record {
            others = there.same.others;
            secured = (
              renamed_calls rename calls,
              ap (renamed_trace rename) one.1 ∙ calls_renamed calls,
              subst (λ (x : LoopAnswer (renamed_loop_call rename call)). Execution (answers keys (Other k others) (renamed_loop_call rename call)) (renamed_calls rename calls) (Return (x, Other u there.same.others))) there.same.answer
                  (subst (λ (v : Handshakes). Execution (answers keys (Other k others) (renamed_loop_call rename call)) (renamed_calls rename calls) (Return (there.result.0, v))) there.same.state there.way),
            );
            is = there.same.renamed;
          }
      one_secured (OnDisk call) answer own u one dialed = let there = aside (OnDisk call) answer own u one.0 one.1 in record { others = there.0; secured = there.1; is = there.2 }
      one_secured (OnFiles call) answer own u one dialed = let there = aside (OnFiles call) answer own u one.0 one.1 in record { others = there.0; secured = there.1; is = there.2 }
      one_secured (OnKeeper call) answer own u one dialed = let there = aside (OnKeeper call) answer own u one.0 one.1 in record { others = there.0; secured = there.1; is = there.2 }
      one_secured (Note fact) answer own u one dialed = let there = aside (Note fact) answer own u one.0 one.1 in record { others = there.0; secured = there.1; is = there.2 }

    pub trace_secured : (keys : Keys) (k t : Handshakes) (others : LinkStates) (above below : List TraceEntry) → IsState k others → IsSecured keys k above below t → LinksAreDialed rename IsDialed (loop_part below)
        → Secured (IsSecured keys (Other k others) (renamed_trace rename above) (renamed_trace rename below)) t
    trace_secured keys k t others [] below is so dialed =
        record { others = others; secured = (ap (renamed_trace rename) so.0, ap (λ (v : Handshakes). Other v others) so.1); is = subst (λ (v : Handshakes). IsState v others) (sym so.1) is }
    trace_secured keys k t others (e ∷ es) below is so dialed =
        let own = so.0 in
        let rest = so.1 in
        let u = so.2 in
        let all : LinksAreDialed rename IsDialed (loop_part own ++ loop_part rest) = subst (LinksAreDialed rename IsDialed) (ap loop_part so.3 ∙ loop_append own rest) dialed in
        let one = one_secured keys k others is e.call e.answer own u so.4 (dialed_left rename IsDialed (loop_part own) (loop_part rest) all) in
        let more = trace_secured keys u t one.others es rest one.is so.5 (dialed_right rename IsDialed (loop_part own) (loop_part rest) all) in
        record {
          others = more.others;
          secured = (renamed_trace rename own, renamed_trace rename rest, Other u one.others, ap (renamed_trace rename) so.3 ∙ renamed_append own rest, one.secured, more.secured);
          is = more.is;
        }

  -- ---- each link that a dial of the devices returned is among their links

  wider_link : (P Q : ℕ → Type 0) → ((link : ℕ) → P link → Q link) → (call : LoopCall) (answer : LoopAnswer call) → LinkIsDialed rename P call answer → LinkIsDialed rename Q call answer
  wider_link P Q wider (Dial output tag) (Some link) dialed = wider link dialed
  wider_link P Q wider call answer dialed = tt

  wider_links : (P Q : ℕ → Type 0) → ((link : ℕ) → P link → Q link) → (es : List LoopEntry) → LinksAreDialed rename P es → LinksAreDialed rename Q es
  wider_links P Q wider [] dialed = tt
  wider_links P Q wider (e ∷ es) dialed = (wider_link P Q wider e.call e.answer dialed.0, wider_links P Q wider es dialed.1)

  among_later : (call : LoopCall) (answer : LoopAnswer call) (es : List LoopEntry) (link : ℕ) → IsAmong (dialed_links es) link → IsAmong (dialed_by call answer ++ dialed_links es) link
  among_later (Dial output tag) (Some other) es link among = inr among
  among_later call answer es link among = among

  here : (call : LoopCall) (answer : LoopAnswer call) (es : List LoopEntry) → LinkIsDialed rename (IsAmong (dialed_by call answer ++ dialed_links es)) call answer
  here (Dial output tag) (Some link) es = inl refl
  here call answer es = tt

  pub links_dialed : (es : List LoopEntry) → LinksAreDialed rename (IsAmong (dialed_links es)) es
  links_dialed [] = tt
  links_dialed (e ∷ es) = (here e.call e.answer es, wider_links (IsAmong (dialed_links es)) (IsAmong (dialed_links (e ∷ es))) (among_later e.call e.answer es) es (links_dialed es))

  module _ (IsDialed : ℕ → Type 0) (apart : KeepsApart rename IsDialed) where
    pub keyed_from : (keys : Keys) (above below : List TraceEntry) (t : Handshakes) → IsSecured keys no_handshakes above below t → LinksAreDialed rename IsDialed (loop_part below) → IsSecuredRenamed rename keys above below t
    keyed_from keys above below t so dialed =
        let first : AreRenamed rename IsDialed apart [] [] [] = record { rising = tt; rising_others = tt; same = λ link. refl; dialed = λ link x there. absurd (cc there); kept_dialed = tt } in
        let there = trace_secured IsDialed apart keys no_handshakes t [] above below first so dialed in
        record {
          handshakes = with_others rename IsDialed apart t there.others;
          secured = there.secured;
          same = record { listens = refl; held = refl; joined = refl; links = there.is.same; kept = refl; wrongs = refl };
        }

  pub keyed_renamed : (keys : Keys) (above below : List TraceEntry) (t : Handshakes) → IsSecured keys no_handshakes above below t → KeepsApart rename (IsAmong (dialed_links (loop_part below))) → IsSecuredRenamed rename keys above below t
  keyed_renamed keys above below t so apart = keyed_from (IsAmong (dialed_links (loop_part below))) apart keys above below t so (links_dialed (loop_part below))
