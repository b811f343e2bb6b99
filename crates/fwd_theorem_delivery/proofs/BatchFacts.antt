-- What became of batches stays the same as facts are added.
use Rattle.std.proofs.Common.{◌⊎◌, inl, inr, ℕ, List, [], ◌∷◌, ◌++◌, append_assoc, Option, Some, None, sym, ◌∙◌, ap, subst}
use Rattle.fwd_settings.specs.declared.settings_types.AllSettings.{AllSettings}
use Rattle.fwd_model.specs.Fact.{Fact, History, Batch, Happened, Polled, Disconnected, Malformed, Accepted, Refused}
use Rattle.fwd_theorem_trace.proofs.Actions.{IsInnerFact}
use Rattle.fwd_theorem_delivery.specs.BatchOutcomes.{completed_by, conn_of, ConnectionDropped, BatchOutcome, IsEmpty, IsAccepted, IsRefused, BatchOutcomes, until_next, AllBatchOutcomes}
use Rattle.fwd_theorem_delivery.proofs.FactSuffix.{onto, AreInner, Adds, AddsInner}

-- ---- with more facts after them

pub became_more : (during more : History) (b : Batch) (rest : History) → BatchOutcome during b rest → BatchOutcome (during ++ more) b (rest ++ more)
became_more during more b rest (IsEmpty none same) = IsEmpty none (ap (λ (x : History). x ++ more) same)
became_more during more b rest (IsAccepted before place same) = IsAccepted before place (ap (λ (x : History). x ++ more) same ∙ append_assoc before (Accepted b place ∷ rest) more)
became_more during more b rest (IsRefused before why same) = IsRefused before why (ap (λ (x : History). x ++ more) same ∙ append_assoc before (Refused b why ∷ rest) more)

dropped_more : (conn : Option ℕ) (during more : History) → ConnectionDropped conn during → ConnectionDropped conn (during ++ more)
dropped_more None during more was = was
dropped_more (Some conn) [] more was = absurd was
dropped_more (Some conn) (Disconnected other ∷ during) more was = was
dropped_more (Some conn) (Malformed input ∷ during) more was = absurd was
dropped_more (Some conn) (Accepted b place ∷ during) more was = absurd was
dropped_more (Some conn) (Refused b why ∷ during) more was = absurd was
dropped_more (Some conn) (fact ∷ during) more was = dropped_more (Some conn) during more was

order_more : (conn : Option ℕ) (during more : History) (bs : List Batch) → BatchOutcomes conn during bs → BatchOutcomes conn (during ++ more) bs
order_more conn during more [] is = tt
order_more conn during more (b ∷ bs) (rest, became, others) = (rest ++ more, became_more during more b rest became, by (order_more conn rest more bs) others)
  where
    by : (BatchOutcomes conn rest bs → BatchOutcomes conn (rest ++ more) bs) → BatchOutcomes conn rest bs ⊎ ConnectionDropped conn rest → BatchOutcomes conn (rest ++ more) bs ⊎ ConnectionDropped conn (rest ++ more)
    by on (inl order) = inl (on order)
    by on (inr was) = inr (dropped_more conn rest more was)

-- ---- with other facts before them

pub dropped_behind : (conn : Option ℕ) (before during : History) → AreInner before → ConnectionDropped conn during → ConnectionDropped conn (before ++ during)
dropped_behind None before during are was = was
dropped_behind (Some conn) [] during are was = was
dropped_behind (Some conn) (Disconnected other ∷ before) during are was = absurd are.0
dropped_behind (Some conn) (Malformed input ∷ before) during are was = absurd are.0
dropped_behind (Some conn) (Accepted b place ∷ before) during are was = absurd are.0
dropped_behind (Some conn) (Refused b why ∷ before) during are was = absurd are.0
dropped_behind (Some conn) (fact ∷ before) during are was = dropped_behind (Some conn) before during are.1 was

pub order_behind : (conn : Option ℕ) (before during : History) (bs : List Batch) → AreInner before → BatchOutcomes conn during bs → BatchOutcomes conn (before ++ during) bs
order_behind conn before during [] are is = tt
order_behind conn before during (b ∷ bs) are (rest, became, others) = by (order_behind conn before rest bs are) became
  where
    still : (BatchOutcomes conn rest bs → BatchOutcomes conn (before ++ rest) bs) → BatchOutcomes conn rest bs ⊎ ConnectionDropped conn rest → BatchOutcomes conn (before ++ rest) bs ⊎ ConnectionDropped conn (before ++ rest)
    still on (inl order) = inl (on order)
    still on (inr was) = inr (dropped_behind conn before rest are was)

    by : (BatchOutcomes conn rest bs → BatchOutcomes conn (before ++ rest) bs) → BatchOutcome during b rest → BatchOutcomes conn (before ++ during) (b ∷ bs)
    by on (IsEmpty none same) = (before ++ rest, IsEmpty none (ap (λ (x : History). before ++ x) same), still on others)
    by on (IsAccepted first place same) =
        (rest, IsAccepted (before ++ first) place (ap (λ (x : History). before ++ x) same ∙ sym (append_assoc before first (Accepted b place ∷ rest))), others)
    by on (IsRefused first why same) =
        (rest, IsRefused (before ++ first) why (ap (λ (x : History). before ++ x) same ∙ sym (append_assoc before first (Refused b why ∷ rest))), others)

-- ---- for all batches

-- a fact that completes no batch
abbrev pub IsCalm : Fact → Type 0
IsCalm (Happened brought) = ⊥
IsCalm (Polled input index long bytes) = ⊥
IsCalm fact = Unit {0}

abbrev pub AreCalm : History → Type 0
AreCalm [] = Unit {0}
AreCalm (fact ∷ facts) = IsCalm fact × AreCalm facts

pub calm_both : (one two : History) → AreCalm one → AreCalm two → AreCalm (one ++ two)
calm_both [] two first second = second
calm_both (fact ∷ one) two first second = (first.0, calm_both one two first.1 second)

inner_is_calm : (fact : Fact) → IsInnerFact fact → IsCalm fact
inner_is_calm (Happened brought) inner = absurd inner
inner_is_calm (Polled input index long bytes) inner = absurd inner
inner_is_calm fact inner = tt

pub inner_are_calm : (facts : History) → AreInner facts → AreCalm facts
inner_are_calm [] are = tt
inner_are_calm (fact ∷ facts) are = (inner_is_calm fact are.0, inner_are_calm facts are.1)

-- such facts were added, and they say what became of the batches, in order
abbrev pub ComeInOrder : Option ℕ → List Batch → History → History → Type 0
ComeInOrder conn bs h now = Adds (λ new. AreCalm new × BatchOutcomes conn new bs) h now

each_next : (s : AllSettings) (fact : Fact) (during more h : History) → ((x : History) → AllBatchOutcomes s x h → AllBatchOutcomes s (x ++ more) h)
    → AllBatchOutcomes s (until_next fact during) h → AllBatchOutcomes s (until_next fact (during ++ more)) h
each_next s (Happened brought) during more h on is = is
each_next s (Polled input index long bytes) during more h on is = is
each_next s fact during more h on is = on (fact ∷ during) is

each_more : (s : AllSettings) (during more h : History) → AllBatchOutcomes s during h → AllBatchOutcomes s (during ++ more) h
each_more s during more [] is = tt
each_more s during more (fact ∷ h) is =
    (order_more (conn_of fact) during more (completed_by s h fact) is.0, each_next s fact during more h (λ x. each_more s x more h) is.1)

each_fact : (s : AllSettings) (fact : Fact) (during h : History) → IsCalm fact → AllBatchOutcomes s (fact ∷ during) h → AllBatchOutcomes s during (fact ∷ h)
each_fact s (Happened brought) during h calm is = absurd calm
each_fact s (Polled input index long bytes) during h calm is = absurd calm
each_fact s fact during h calm is = (tt, is)

each_onto : (s : AllSettings) (new during h : History) → AreCalm new → AllBatchOutcomes s (new ++ during) h → AllBatchOutcomes s during (onto new h)
each_onto s [] during h are is = is
each_onto s (fact ∷ new) during h are is = each_onto s new during (fact ∷ h) are.1 (each_fact s fact (new ++ during) h are.0 is)

pub each_one : (s : AllSettings) (fact : Fact) (h : History) → IsCalm fact → AllBatchOutcomes s [] h → AllBatchOutcomes s [] (fact ∷ h)
each_one s fact h calm each = each_fact s fact [] h calm (each_more s [] (fact ∷ []) h each)

pub each_later : (s : AllSettings) (h now : History) → AllBatchOutcomes s [] h → AddsInner h now → AllBatchOutcomes s [] now
each_later s h now each (new, is, are) = subst (AllBatchOutcomes s []) (sym is) (each_onto s new [] h (inner_are_calm new are) (each_more s [] (new ++ []) h each))

-- after a fact, once something became of all batches that it completed
pub each_settled : (s : AllSettings) (fact : Fact) (h now : History) → AllBatchOutcomes s [] h → ComeInOrder (conn_of fact) (completed_by s h fact) (fact ∷ h) now → AllBatchOutcomes s [] now
each_settled s fact h now each (new, is, (are, order)) =
    subst (AllBatchOutcomes s []) (sym is)
    (each_onto s new [] (fact ∷ h) are
    (order_more (conn_of fact) new [] (completed_by s h fact) order, each_more s [] (until_next fact (new ++ [])) h each))
