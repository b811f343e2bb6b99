-- What holds at each crash point of some calls, by the calls before it.
use Rattle.std.proofs.Common.{◌≡◌, List, [], ◌∷◌, ◌++◌, append-nil, append_assoc, refl, sym, ◌∙◌, ap}
use Rattle.fwd_outside.specs.Program.{entry}
use Rattle.fwd_outside.specs.AtCrashPoints.{AtCrashPoints}
use Rattle.fwd_model.specs.Trace.{TraceEntry}
use Rattle.fwd_theorem_trace.specs.Past.{Past, past_after}
use Rattle.fwd_theorem_crash.specs.CrashPoint.{CrashPoint, LeadsTo}

-- the calls of a past, the oldest first
abbrev in_order : Past → List TraceEntry
in_order [] = []
in_order (e ∷ past) = in_order past ++ e ∷ []

in_order_after : (past : Past) (es : List TraceEntry) → in_order (past_after past es) ≡ in_order past ++ es
in_order_after past [] = sym (append-nil (in_order past))
in_order_after past (e ∷ es) = in_order_after (e ∷ past) es ∙ append_assoc (in_order past) (e ∷ []) es

pub after_both : (past : Past) (one two : List TraceEntry) → past_after past (one ++ two) ≡ past_after (past_after past one) two
after_both past [] two = refl
after_both past (e ∷ one) two = after_both (e ∷ past) one two

-- a past determines its calls
pub same_calls : (one two : List TraceEntry) → past_after [] one ≡ past_after [] two → one ≡ two
same_calls one two same = sym (in_order_after [] one) ∙ (ap in_order same ∙ in_order_after [] two)

module _ (P Q : CrashPoint → Type 0) where
  -- a property that follows at each point from another one and from the calls before the point
  pub points : (prefix es : List TraceEntry) (m : CrashPoint) → m.past ≡ past_after [] prefix
      → ((own rest : List TraceEntry) (at : CrashPoint) → es ≡ own ++ rest → at.past ≡ past_after [] (prefix ++ own) → P at → Q at)
      → AtCrashPoints LeadsTo P m es → AtCrashPoints LeadsTo Q m es
  points prefix [] m is more all = more [] [] m refl (is ∙ ap (past_after []) (sym (append-nil prefix))) all
  points prefix (e ∷ es) m is more all = (
    more [] (e ∷ es) m refl now all.0,
    λ during after leads.
        let step = all.1 during after leads in (
          more [] (e ∷ es) during refl (leads.1 ∙ now) step.0,
          points (prefix ++ e ∷ []) es after (leads.2 ∙ (ap (λ (past : Past). e ∷ past) is ∙ sym (after_both [] prefix (e ∷ []))))
              (λ own rest at same past. more (e ∷ own) rest at (ap (λ (l : List TraceEntry). e ∷ l) same) (past ∙ ap (past_after []) (append_assoc prefix (e ∷ []) own))) step.1,
        ),
  )
    where
      now : m.past ≡ past_after [] (prefix ++ [])
      now = is ∙ ap (past_after []) (sym (append-nil prefix))
