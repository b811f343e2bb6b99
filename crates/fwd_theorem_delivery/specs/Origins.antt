-- The origins of accepted and refused batches.
use Rattle.std.specs.Prelude.{◌≡◌, Bool, true, false, not, List, [], ◌∷◌, ◌++◌, All, Contains, filter}
use Rattle.fwd_settings.specs.declared.settings_types.AllSettings.{AllSettings}
use Rattle.fwd_model.specs.Fact.{Fact, History, Batch, Happened, Polled, Accepted, Refused}
use Rattle.fwd_model.specs.Notes.{is_empty}
use Rattle.fwd_theorem_delivery.specs.BatchOutcomes.{completed_by}

-- an event, or a poll of a followed file
abbrev pub is_arrival : Fact → Bool
is_arrival (Happened brought) = true
is_arrival (Polled input index length bytes) = true
is_arrival fact = false

-- the batch that a fact accepts or refuses
abbrev pub decided_by : Fact → List Batch
decided_by (Accepted b place) = b ∷ []
decided_by (Refused b why) = b ∷ []
decided_by fact = []

-- the accepted and refused batches, in the order of their facts
abbrev pub decided_batches : History → List Batch
decided_batches [] = []
decided_batches (fact ∷ during) = decided_batches during ++ decided_by fact

-- no event, and no poll of a followed file
abbrev pub HasNoArrival : History → Type 0
HasNoArrival during = All (λ (fact : Fact). is_arrival fact ≡ false) during

-- those that have events
abbrev pub with_events : List Batch → List Batch
with_events bs = filter (λ (b : Batch). not (is_empty b.events)) bs

-- In this history, the last event or poll completed the batch.
pub record WasCompleted (s : AllSettings) (h : History) (b : Batch) : Type 0 where
  pub during : History
  pub fact : Fact
  pub before : History
  pub is : h ≡ during ++ fact ∷ before
  pub between : HasNoArrival during
  pub among : Contains (completed_by s before fact) b

-- The batches accepted or refused since a fact are, in order, the first of the nonempty ones that it
-- completed. So at most one fact says what became of each.
pub record AreDecidedInOrder (s : AllSettings) (during : History) (fact : Fact)
    (before : History) : Type 0 where
  pub rest : List Batch
  pub is : with_events (completed_by s before fact) ≡ decided_batches during ++ rest
