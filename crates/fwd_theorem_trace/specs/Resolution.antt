-- What resolves a route, in terms of the history.
use Rattle.std.specs.Prelude.{◌≡◌, ℕ, true, List, Contains}
use Rattle.fwd_settings.specs.declared.settings_types.AllSettings.{AllSettings}
use Rattle.fwd_model.specs.Fact.{History, Route, Found, OnRoute, Delivered, Failed, Exhausted, Evicted}
use Rattle.fwd_model.specs.Settings.{output_name}
use Rattle.fwd_model.specs.RecoveredFile.{recovered_chunk, is_marked_done}

-- its chunk was recovered from a file that has its output marked done
pub record WasRecoveredDone (s : AllSettings) (h : History) (r : Route) : Type 0 where
  pub stream : List ℕ
  pub name : List ℕ
  pub bytes : List ℕ
  pub found : Contains h (Found r.chunk stream name bytes)
  pub done : is_marked_done (output_name s r.output) (recovered_chunk bytes) ≡ true

-- its output answered OK or ERROR, its retries are exhausted, it was evicted, or it was recovered as done
pub data IsResolved (s : AllSettings) (h : History) (r : Route) : Type 0 where
  IsDelivered : Contains h (OnRoute r Delivered) → IsResolved s h r
  IsFailed : Contains h (OnRoute r Failed) → IsResolved s h r
  IsExhausted : Contains h (OnRoute r Exhausted) → IsResolved s h r
  IsEvicted : Contains h (OnRoute r Evicted) → IsResolved s h r
  IsMarkedDone : WasRecoveredDone s h r → IsResolved s h r
