-- How often a route began, and when it was to be retried.
use Rattle.std.specs.Prelude.{◌≡◌, ℕ, Bool, true, false, if◌then◌else◌, List, [], ◌∷◌, ◌++◌, length, filter}
use Rattle.fwd_model.specs.Fact.{History, Route, OnRoute, Outcome, FlushStarted, InFlight, Retries, Delivered, Failed, Exhausted, Evicted}
use Rattle.fwd_model.specs.Routes.{same_route}

-- the outcomes of a route, the newest first
abbrev pub outcomes : History → Route → List Outcome
outcomes [] r = []
outcomes (OnRoute other outcome ∷ h) r = if same_route other r then outcome ∷ outcomes h r else outcomes h r
outcomes (fact ∷ h) r = outcomes h r

abbrev pub is_begun : Outcome → Bool
is_begun (FlushStarted events) = true
is_begun (InFlight progress) = false
is_begun (Retries word) = false
is_begun Delivered = false
is_begun Failed = false
is_begun Exhausted = false
is_begun Evicted = false

-- how many flushes of it began
abbrev pub begin_count : History → Route → ℕ
begin_count h r = length (filter is_begun (outcomes h r))

-- it was to be retried, and has no outcome since
pub record AwaitsRetry (h : History) (r : Route) : Type 0 where
  pub word : ℕ
  pub before : History
  pub later : History
  pub is : h ≡ later ++ OnRoute r (Retries word) ∷ before
  pub none : outcomes later r ≡ []
