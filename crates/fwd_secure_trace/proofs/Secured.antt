-- Traces of the engine and of the devices.
use Rattle.std.proofs.Common.{◌≡◌, false, Bool, List, [], ◌∷◌, ◌++◌, map, refl, sym, ◌∙◌, ap, subst, append_assoc}
use Rattle.fwd_outside.specs.Program.{entry, Return, Ask, bind, Execution}
use Rattle.fwd_outside.proofs.Executions.{way_trans, way_bind}
use Rattle.fwd_outside.specs.Loop.{LoopCall, LoopAnswer, LoopEntry, LoopProgram}
use Rattle.fwd_outside.specs.Disk.{DiskEntry}
use Rattle.fwd_outside.specs.Files.{FilesEntry}
use Rattle.fwd_keeper.specs.Keeper.{KeeperEntry}
use Rattle.fwd_model.specs.Fact.{Fact, History}
use Rattle.fwd_model.specs.Trace.{Call, Answer, TraceEntry, Action, OnLoop, OnDisk, OnFiles, OnKeeper, Note, loop_entry, loop_part, disk_part, files_part, keeper_part, history_after, history_after_call}
use Rattle.fwd_model.proofs.CallLogs.{loop_append}
use Rattle.fwd_secure.specs.declared.keys.Keys.{Keys}
use Rattle.fwd_secure.specs.Handshakes.{Handshakes}
use Rattle.fwd_secure.specs.Keys.{has_keys}
use Rattle.fwd_secure.specs.Rules.{answers, answers_by}
use Rattle.fwd_secure.specs.Carried.{Carries}
use Rattle.fwd_secure_trace.specs.Secured.{on_loop, as_action, CallIsSecured, IsSecured, secured}

-- calls on the loop, in a trace
way_as_action : {R : Type 0} (p q : LoopProgram R) (es : List LoopEntry) → Execution p es q → Execution (as_action p) (map on_loop es) (as_action q)
way_as_action p q [] way = ap as_action way
way_as_action (Return x) q (e ∷ es) way = absurd way
way_as_action (Ask call go) q (e ∷ es) way = (way.0, ap on_loop way.1, way_as_action (go way.0) q es way.2)

pub part_on_loop : (es : List LoopEntry) → loop_part (map on_loop es) ≡ es
part_on_loop [] = refl
part_on_loop (e ∷ es) = ap (λ (l : List LoopEntry). e ∷ l) (part_on_loop es)

-- ---- actions

module _ {R : Type 0} (keys : Keys) where
  call_secured : (k u : Handshakes) (call : Call) (go : Answer call → Action R) (answer : Answer call) (own : List TraceEntry) → CallIsSecured keys k call answer own u
      → Execution (secured keys k (Ask call go)) own (secured keys u (go answer))
  call_secured k u (OnLoop call) go answer own one =
      let next : LoopAnswer call × Handshakes → Action (R × Handshakes) = λ went. secured keys went.1 (go went.0) in
      let made : Execution (as_action (answers keys k call)) (map on_loop one.0) (Return (answer, u)) = way_as_action (answers keys k call) (Return (answer, u)) one.0 one.2 in
      subst (λ (l : List TraceEntry). Execution (bind (as_action (answers keys k call)) next) l (secured keys u (go answer))) (sym one.1) (way_bind (as_action (answers keys k call)) (Return (answer, u)) (map on_loop one.0) next made)
  call_secured k u (OnDisk call) go answer own one =
      subst (λ (l : List TraceEntry). Execution (secured keys k (Ask (OnDisk call) go)) l (secured keys u (go answer))) (sym one.0) (answer, refl, ap (λ (x : Handshakes). secured keys x (go answer)) one.1)
  call_secured k u (OnFiles call) go answer own one =
      subst (λ (l : List TraceEntry). Execution (secured keys k (Ask (OnFiles call) go)) l (secured keys u (go answer))) (sym one.0) (answer, refl, ap (λ (x : Handshakes). secured keys x (go answer)) one.1)
  call_secured k u (OnKeeper call) go answer own one =
      subst (λ (l : List TraceEntry). Execution (secured keys k (Ask (OnKeeper call) go)) l (secured keys u (go answer))) (sym one.0) (answer, refl, ap (λ (x : Handshakes). secured keys x (go answer)) one.1)
  call_secured k u (Note fact) go answer own one =
      subst (λ (l : List TraceEntry). Execution (secured keys k (Ask (Note fact) go)) l (secured keys u (go answer))) (sym one.0) (answer, refl, ap (λ (x : Handshakes). secured keys x (go answer)) one.1)

  -- an execution of an action, with the calls of the devices
  pub action_secured : (k t : Handshakes) (p q : Action R) (above below : List TraceEntry) → Execution p above q → IsSecured keys k above below t → Execution (secured keys k p) below (secured keys t q)
  action_secured k t p q [] below way so =
      subst (λ (l : List TraceEntry). Execution (secured keys k p) l (secured keys t q)) (sym so.0) (ap (secured keys t) way ∙ ap (λ (x : Handshakes). secured keys x p) so.1)
  action_secured k t (Return x) q (e ∷ es) below way so = absurd way
  action_secured k t (Ask call go) q (e ∷ es) below way so =
      let own = so.0 in
      let rest = so.1 in
      let u = so.2 in
      let one : CallIsSecured keys k call way.0 own u = subst (λ (x : TraceEntry). CallIsSecured keys k x.call x.answer own u) way.1 so.4 in
      subst (λ (l : List TraceEntry). Execution (secured keys k (Ask call go)) l (secured keys t q)) (sym so.3)
      (way_trans (secured keys k (Ask call go)) (secured keys u (go way.0)) (secured keys t q) own rest (call_secured k u call go way.0 own one) (action_secured u t (go way.0) q es rest way.2 so.5))

-- ---- the calls below join the trace

pub record Joined (keys : Keys) (k : Handshakes) (calls : List LoopEntry) (above : List TraceEntry) (t : Handshakes) : Type 0 where
  pub below : List TraceEntry
  pub so : IsSecured keys k above below t
  pub is : loop_part below ≡ calls

module _ (keys : Keys) where
  pub joined : (k t : Handshakes) (calls : List LoopEntry) (above : List TraceEntry) → Carries keys k calls (loop_part above) t → Joined keys k calls above t
  joined k t calls [] carries = record { below = []; so = (refl, carries.1); is = sym carries.0 }
  joined k t calls (e ∷ es) carries = by e.call e.answer (λ at left. joined at t left es) carries
    where
      aside : (call : Call) (answer : Answer call) → CallIsSecured keys k call answer (entry call answer ∷ []) k → loop_part (entry call answer ∷ []) ≡ [] → Joined keys k calls es t → Joined keys k calls (entry call answer ∷ es) t
      aside call answer one none rest = record {
        below = entry call answer ∷ rest.below;
        so = (entry call answer ∷ [], rest.below, k, refl, one, rest.so);
        is = loop_append (entry call answer ∷ []) rest.below ∙ ap (λ (l : List LoopEntry). l ++ loop_part rest.below) none ∙ rest.is;
      }

      by : (call : Call) (answer : Answer call) → ((at : Handshakes) (left : List LoopEntry) → Carries keys at left (loop_part es) t → Joined keys at left es t)
          → Carries keys k calls (loop_entry call answer ++ loop_part es) t → Joined keys k calls (entry call answer ∷ es) t
      by (OnLoop call) answer more given =
          let rest = more given.2 given.1 given.5 in
          record {
            below = map on_loop given.0 ++ rest.below;
            so = (map on_loop given.0, rest.below, given.2, refl, (given.0, refl, given.4), rest.so);
            is = loop_append (map on_loop given.0) rest.below ∙ ap (λ (l : List LoopEntry). l ++ loop_part rest.below) (part_on_loop given.0) ∙ ap (λ (l : List LoopEntry). given.0 ++ l) rest.is ∙ sym given.3;
          }
      by (OnDisk call) answer more given = aside (OnDisk call) answer (refl, refl) refl (more k calls given)
      by (OnFiles call) answer more given = aside (OnFiles call) answer (refl, refl) refl (more k calls given)
      by (OnKeeper call) answer more given = aside (OnKeeper call) answer (refl, refl) refl (more k calls given)
      by (Note fact) answer more given = aside (Note fact) answer (refl, refl) refl (more k calls given)

  -- and the other way round
  pub carried : (k t : Handshakes) (above below : List TraceEntry) → IsSecured keys k above below t → Carries keys k (loop_part below) (loop_part above) t
  carried k t [] below so = (ap loop_part so.0, so.1)
  carried k t (e ∷ es) below so = by e.call e.answer so.0 so.1 so.2 so.3 so.4 (carried so.2 t es so.1 so.5)
    where
      aside : (call : Call) (answer : Answer call) (own rest : List TraceEntry) (u : Handshakes) → below ≡ own ++ rest → own ≡ entry call answer ∷ [] → u ≡ k → loop_part (entry call answer ∷ []) ≡ []
          → Carries keys u (loop_part rest) (loop_part es) t → Carries keys k (loop_part below) (loop_part es) t
      aside call answer own rest u parts one same none more =
          let is : loop_part below ≡ loop_part rest =
          ap loop_part parts ∙ ap (λ (l : List TraceEntry). loop_part (l ++ rest)) one ∙ loop_append (entry call answer ∷ []) rest ∙ ap (λ (l : List LoopEntry). l ++ loop_part rest) none
          in
          subst (λ (l : List LoopEntry). Carries keys k l (loop_part es) t) (sym is) (subst (λ (x : Handshakes). Carries keys x (loop_part rest) (loop_part es) t) same more)

      by : (call : Call) (answer : Answer call) (own rest : List TraceEntry) (u : Handshakes) → below ≡ own ++ rest → CallIsSecured keys k call answer own u → Carries keys u (loop_part rest) (loop_part es) t
          → Carries keys k (loop_part below) (loop_entry call answer ++ loop_part es) t
      by (OnLoop call) answer own rest u parts one more =
          (one.0, loop_part rest, u, ap loop_part parts ∙ ap (λ (l : List TraceEntry). loop_part (l ++ rest)) one.1 ∙ loop_append (map on_loop one.0) rest ∙ ap (λ (l : List LoopEntry). l ++ loop_part rest) (part_on_loop one.0), one.2, more)
      by (OnDisk call) answer own rest u parts one more = aside (OnDisk call) answer own rest u parts one.0 one.1 refl more
      by (OnFiles call) answer own rest u parts one more = aside (OnFiles call) answer own rest u parts one.0 one.1 refl more
      by (OnKeeper call) answer own rest u parts one more = aside (OnKeeper call) answer own rest u parts one.0 one.1 refl more
      by (Note fact) answer own rest u parts one more = aside (Note fact) answer own rest u parts one.0 one.1 refl more

  -- ---- one trace after another

  pub secured_append : (k u t : Handshakes) (above above2 below below2 : List TraceEntry) → IsSecured keys k above below u → IsSecured keys u above2 below2 t → IsSecured keys k (above ++ above2) (below ++ below2) t
  secured_append k u t [] above2 below below2 so more =
      subst (λ (l : List TraceEntry). IsSecured keys k above2 (l ++ below2) t) (sym so.0) (subst (λ (x : Handshakes). IsSecured keys x above2 below2 t) so.1 more)
  secured_append k u t (e ∷ es) above2 below below2 so more =
      (so.0, so.1 ++ below2, so.2, ap (λ (l : List TraceEntry). l ++ below2) so.3 ∙ append_assoc so.0 so.1 below2, so.4, secured_append so.2 u t es above2 so.1 below2 so.5 more)

  pub record Splits (k : Handshakes) (above above2 : List LoopEntry) (calls : List LoopEntry) (t : Handshakes) : Type 0 where
    pub first : List LoopEntry
    pub second : List LoopEntry
    pub at : Handshakes
    pub is : calls ≡ first ++ second
    pub before : Carries keys k first above at
    pub after : Carries keys at second above2 t

  pub carries_splits : (k t : Handshakes) (above above2 calls : List LoopEntry) → Carries keys k calls (above ++ above2) t → Splits k above above2 calls t
  carries_splits k t [] above2 calls carries = record { first = []; second = calls; at = k; is = refl; before = (refl, refl); after = carries }
  carries_splits k t (e ∷ es) above2 calls carries =
      let rest = carries_splits carries.2 t es above2 carries.1 carries.5 in
      record {
        first = carries.0 ++ rest.first;
        second = rest.second;
        at = rest.at;
        is = carries.3 ∙ ap (λ (l : List LoopEntry). carries.0 ++ l) rest.is ∙ sym (append_assoc carries.0 rest.first rest.second);
        before = (carries.0, rest.first, carries.2, refl, carries.4, rest.before);
        after = rest.after;
      }

-- ---- the other devices see the same

module _ {X : Type 0} (part : List TraceEntry → List X) (empty : part [] ≡ []) (appends : (xs ys : List TraceEntry) → part (xs ++ ys) ≡ part xs ++ part ys) (skips : (e : LoopEntry) → part (on_loop e ∷ []) ≡ []) where
  part_skips : (es : List LoopEntry) → part (map on_loop es) ≡ []
  part_skips [] = empty
  part_skips (e ∷ es) = appends (on_loop e ∷ []) (map on_loop es) ∙ ap (λ (l : List X). l ++ part (map on_loop es)) (skips e) ∙ part_skips es

  module _ (keys : Keys) where
    part_of_call : (k u : Handshakes) (call : Call) (answer : Answer call) (own : List TraceEntry) → CallIsSecured keys k call answer own u → part own ≡ part (entry call answer ∷ [])
    part_of_call k u (OnLoop call) answer own one = ap part one.1 ∙ part_skips one.0 ∙ sym (skips (entry call answer))
    part_of_call k u (OnDisk call) answer own one = ap part one.0
    part_of_call k u (OnFiles call) answer own one = ap part one.0
    part_of_call k u (OnKeeper call) answer own one = ap part one.0
    part_of_call k u (Note fact) answer own one = ap part one.0

    pub same_part : (k t : Handshakes) (above below : List TraceEntry) → IsSecured keys k above below t → part below ≡ part above
    same_part k t [] below so = ap part so.0
    same_part k t (e ∷ es) below so =
        ap part so.3
        ∙ appends so.0 so.1
        ∙ ap (λ (l : List X). l ++ part so.1) (part_of_call k so.2 e.call e.answer so.0 so.4)
        ∙ ap (λ (l : List X). part (e ∷ []) ++ l) (same_part so.2 t es so.1 so.5)
        ∙ sym (appends (e ∷ []) es)

-- ---- without keys

module _ (keys : Keys) where
  same_pair : (call : LoopCall) (x y : LoopAnswer call × Handshakes) → ◌≡◌ {A = LoopProgram (LoopAnswer call × Handshakes)} (Return x) (Return y) → x ≡ y
  same_pair call x y is = cc is

  alone : (k u : Handshakes) (call : LoopCall) (answer : LoopAnswer call) (es : List LoopEntry) → Execution (answers_by false keys k call) es (Return (answer, u)) → es ≡ entry call answer ∷ []
  alone k u call answer [] way = absurd (cc way)
  alone k u call answer (e ∷ []) way =
      ap (λ (x : LoopEntry). x ∷ []) way.1 ∙ ap (λ (p : LoopAnswer call × Handshakes). entry call p.0 ∷ []) (sym (same_pair call (answer, u) (way.0, k) way.2))
  alone k u call answer (e ∷ d ∷ es) way = absurd way.2

  module _ (none : has_keys keys ≡ false) where
    pub unkeyed : (k t : Handshakes) (above below : List TraceEntry) → IsSecured keys k above below t → below ≡ above
    unkeyed k t [] below so = so.0
    unkeyed k t (e ∷ es) below so = by e.call e.answer so.0 so.1 so.2 so.3 so.4 (unkeyed so.2 t es so.1 so.5)
      where
        by : (call : Call) (answer : Answer call) (own rest : List TraceEntry) (u : Handshakes) → below ≡ own ++ rest → CallIsSecured keys k call answer own u → rest ≡ es → below ≡ entry call answer ∷ es
        by (OnLoop call) answer own rest u parts one more =
            let calls = alone k u call answer one.0 (subst (λ (b : Bool). Execution (answers_by b keys k call) one.0 (Return (answer, u))) none one.2) in
            parts ∙ ap (λ (l : List TraceEntry). l ++ rest) (one.1 ∙ ap (map on_loop) calls) ∙ ap (λ (l : List TraceEntry). entry (OnLoop call) answer ∷ l) more
        by (OnDisk call) answer own rest u parts one more = parts ∙ ap (λ (l : List TraceEntry). l ++ rest) one.0 ∙ ap (λ (l : List TraceEntry). entry (OnDisk call) answer ∷ l) more
        by (OnFiles call) answer own rest u parts one more = parts ∙ ap (λ (l : List TraceEntry). l ++ rest) one.0 ∙ ap (λ (l : List TraceEntry). entry (OnFiles call) answer ∷ l) more
        by (OnKeeper call) answer own rest u parts one more = parts ∙ ap (λ (l : List TraceEntry). l ++ rest) one.0 ∙ ap (λ (l : List TraceEntry). entry (OnKeeper call) answer ∷ l) more
        by (Note fact) answer own rest u parts one more = parts ∙ ap (λ (l : List TraceEntry). l ++ rest) one.0 ∙ ap (λ (l : List TraceEntry). entry (Note fact) answer ∷ l) more
