-- A flush that waits for room on its link.
use Rattle.std.specs.Prelude.{◌≡◌, ◌<◌, ◌||◌, Bool, false, ◌∷◌, ◌++◌, length, All}
use Rattle.fwd_base.specs.declared.ids.LinkId.{LinkId}
use Rattle.fwd_flush.specs.declared.stage.Stage.TheVariants.{Writing}
use Rattle.fwd_flush.specs.FlushProgram.{Progress}
use Rattle.fwd_settings.specs.declared.settings_types.AllSettings.{AllSettings}
use Rattle.fwd_model.specs.Fact.{Fact, History, Route, OnRoute, InFlight}
use Rattle.fwd_model.specs.Routes.{same_route, progress_of, uses_link}
use Rattle.fwd_model.specs.Payloads.{delivery}

-- whether a fact is about this route, or about a flush on this link
abbrev pub concerns : Route → LinkId → Fact → Bool
concerns r link (OnRoute other outcome) = same_route other r || uses_link link.0 (progress_of outcome)
concerns r link fact = false

-- The last fact about a route, and the last about this link, is that a flush of the route is in flight and is
-- writing on this link.
pub record IsWriting (h : History) (r : Route) (link : LinkId) (progress : Progress) : Type 0 where
  pub later : History
  pub before : History
  pub is : h ≡ later ++ OnRoute r (InFlight progress) ∷ before
  pub stage : progress.stage ≡ Writing link
  pub last : All (λ fact. concerns r link fact ≡ false) later

-- the link hasn't taken all of the payload
abbrev pub HasRest : AllSettings → History → Route → Progress → Type 0
HasRest s h r progress = progress.taken < length (delivery s h r).payload
