-- One call more on a keyed loop.
use Rattle.std.proofs.Common.{◌≡◌, true, false, List, [], ◌∷◌, ◌++◌, Some, None, refl, sym, ◌∙◌, ap, subst, append_assoc}
use Rattle.std.proofs.lemmas.List.{append-nil}
use Rattle.fwd_outside.specs.Program.{entry, Return, Execution}
use Rattle.fwd_outside.specs.Log.{LogGrew}
use Rattle.fwd_outside.specs.Loop.{LoopCall, LoopAnswer, LoopEntry, LoopLog}
use Rattle.fwd_outside.proofs.LogGrowth.{grew_trans}
use Rattle.fwd_secure.specs.declared.keys.Keys.{Keys}
use Rattle.fwd_secure.specs.Handshakes.{Handshakes, no_handshakes}
use Rattle.fwd_secure.specs.Rules.{answers}
use Rattle.fwd_secure.specs.Allowed.{AllMayOccur, RunsAllowed}
use Rattle.fwd_secure.specs.Carried.{Carries, IsCarried}
use Rattle.fwd_secure.proofs.AllowedCalls.{allowed_append}

-- one call more at the end
pub carries_more : (keys : Keys) (s t u : Handshakes) (below own above : List LoopEntry) (call : LoopCall) (answer : LoopAnswer call)
    → Carries keys s below above t → Execution (answers keys t call) own (Return (answer, u)) → Carries keys s (below ++ own) (above ++ entry call answer ∷ []) u
carries_more keys s t u below own [] call answer (none, same) way =
    (own, [], u, ap (λ (l : List LoopEntry). l ++ own) none ∙ sym (append-nil own), subst (λ (x : Handshakes). Execution (answers keys x call) own (Return (answer, u))) same way, (refl, refl))
carries_more keys s t u below own (e ∷ es) call answer (first, rest, v, parts, way, more) last =
    (first, rest ++ own, v, ap (λ (l : List LoopEntry). l ++ own) parts ∙ append_assoc first rest own, way, carries_more keys v t u rest own es call answer more last)

-- the calls of a log that are carried: none yet
pub carries_none : (keys : Keys) (log : LoopLog) → LogGrew log log [] → IsCarried keys false log log [] no_handshakes
carries_none keys log grew = record { below = []; begun = []; at = no_handshakes; grew = grew; carries = (refl, refl); ends = (refl, refl); allowed = tt }

module _ (keys : Keys) (old mid new : LoopLog) (above : List LoopEntry) (k : Handshakes) (call : LoopCall) (is : IsCarried keys false old mid above k) where
  -- the call was answered
  pub answered : (answer : LoopAnswer call) (u : Handshakes) → RunsAllowed mid new (answers keys k call) (Some (answer, u))
      → IsCarried keys false old new (above ++ entry call answer ∷ []) u
  answered answer u runs = record {
    below = is.below ++ runs.made.entries;
    begun = [];
    at = u;
    grew = subst (λ (l : List LoopEntry). LogGrew old new l) all (grew_trans old mid new (is.below ++ is.begun) runs.made.entries is.grew runs.made.grew);
    carries = carries_more keys no_handshakes is.at u is.below runs.made.entries above call answer is.carries (subst (λ (x : Handshakes). Execution (answers keys x call) runs.made.entries (Return (answer, u))) (sym (is.ends.1)) runs.made.way);
    ends = (refl, refl);
    allowed = subst AllMayOccur all (allowed_append (is.below ++ is.begun) runs.made.entries is.allowed runs.allowed);
  }
    where
      all : (is.below ++ is.begun) ++ runs.made.entries ≡ (is.below ++ runs.made.entries) ++ []
      all = ap (λ (l : List LoopEntry). (is.below ++ l) ++ runs.made.entries) (is.ends.0) ∙ ap (λ (l : List LoopEntry). l ++ runs.made.entries) (append-nil is.below) ∙ sym (append-nil (is.below ++ runs.made.entries))

  -- memory was out
  pub unanswered : (u : Handshakes) → RunsAllowed mid new (answers keys k call) None → IsCarried keys true old new above u
  unanswered u runs = record {
    below = is.below;
    begun = runs.made.1.entries;
    at = is.at;
    grew = subst (λ (l : List LoopEntry). LogGrew old new l) all (grew_trans old mid new (is.below ++ is.begun) runs.made.1.entries is.grew runs.made.1.grew);
    carries = is.carries;
    ends = record { call = call; remaining = runs.made.0; way = subst (λ (x : Handshakes). Execution (answers keys x call) runs.made.1.entries runs.made.0) (sym (is.ends.1)) runs.made.1.way };
    allowed = subst AllMayOccur all (allowed_append (is.below ++ is.begun) runs.made.1.entries is.allowed runs.allowed);
  }
    where
      all : (is.below ++ is.begun) ++ runs.made.1.entries ≡ is.below ++ runs.made.1.entries
      all = ap (λ (l : List LoopEntry). (is.below ++ l) ++ runs.made.1.entries) (is.ends.0) ∙ ap (λ (l : List LoopEntry). l ++ runs.made.1.entries) (append-nil is.below)
