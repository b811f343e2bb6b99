-- Recorded outcomes stay, fact by fact, as long as new facts are about unresolved routes.
use Rattle.std.proofs.Common.{◌≡◌, ◌⊎◌, inl, inr, ℕ, Bool, true, false, cond, List, [], ◌∷◌, Some, None, refl, sym, ◌∙◌, ap, subst, arith}
use Rattle.std.specs.Prelude.{Contains, ◌&&◌, ◌||◌}
use Rattle.std.proofs.lemmas.Bool.{eq-eqb, or_right}
use Rattle.fwd_flush.specs.FlushProgram.{Progress}
use Rattle.fwd_settings.specs.declared.settings_types.AllSettings.{AllSettings}
use Rattle.fwd_model.specs.Fact.{Fact, History, Route, Outcome, FlushStarted, InFlight, Retries, Delivered, Failed, Exhausted, Evicted, Found, OnRoute, MarkStarted, Marked}
use Rattle.fwd_model.specs.Settings.{output_name}
use Rattle.fwd_model.specs.RecoveredFile.{recovered_chunk, is_marked_done}
use Rattle.fwd_model.specs.Routes.{same_route, flight, progress_of, resolves, is_resolved}
use Rattle.fwd_theorem_trace.specs.Resolution.{WasRecoveredDone}
use Rattle.fwd_theorem_trace.proofs.Members.{either}
use Rattle.fwd_theorem_trace.proofs.RouteResolution.{same_routes, same_itself}
use Rattle.fwd_theorem_crash.specs.RecordedOutcomes.{recovered_done, is_recorded}

-- the outcome was recovered as done, or was recorded at some time
abbrev pub was_recorded : AllSettings → History → Route → Bool
was_recorded s [] r = false
was_recorded s (Found number stream name bytes ∷ h) r = recovered_done s r number bytes || was_recorded s h r
was_recorded s (Marked other ∷ h) r = same_route other r || was_recorded s h r
was_recorded s (_ ∷ h) r = was_recorded s h r

-- only resolved outcomes were recorded, and they still are; and what is in progress isn't resolved
pub record RecordedLasts (s : AllSettings) (h : History) : Type 0 where
  pub resolved : (r : Route) → was_recorded s h r ≡ true → is_resolved s h r ≡ true
  pub recorded : (r : Route) → is_recorded s h r ≡ was_recorded s h r
  pub flying : (r : Route) (p : Progress) → flight h r ≡ Some p → is_resolved s h r ≡ false

-- the condition on a fact that keeps this
abbrev pub MayCome : AllSettings → Fact → History → Type 0
MayCome s (Found number stream name bytes) h = (r : Route) → flight h r ≡ None
MayCome s (OnRoute r (InFlight progress)) h = is_resolved s h r ≡ false
MayCome s (MarkStarted r) h = was_recorded s h r ≡ false
MayCome s (Marked r) h = is_resolved s h r ≡ true
MayCome s fact h = Unit {0}

or_more : (a b c : Bool) → (b ≡ true → c ≡ true) → (a || b) ≡ true → (a || c) ≡ true
or_more true b c more is = refl
or_more false b c more is = more is

flies_open : (s : AllSettings) (r : Route) (outcome : Outcome) (h : History) (p : Progress) → MayCome s (OnRoute r outcome) h → progress_of outcome ≡ Some p → (resolves outcome || is_resolved s h r) ≡ false
flies_open s r (FlushStarted events) h p may is = absurd (cc is)
flies_open s r (InFlight progress) h p may is = may
flies_open s r (Retries word) h p may is = absurd (cc is)
flies_open s r Delivered h p may is = absurd (cc is)
flies_open s r Failed h p may is = absurd (cc is)
flies_open s r Exhausted h p may is = absurd (cc is)
flies_open s r Evicted h p may is = absurd (cc is)

lasts_found : (s : AllSettings) (number : ℕ) (stream name bytes : List ℕ) (h : History) → ((r : Route) → flight h r ≡ None) → RecordedLasts s h → RecordedLasts s (Found number stream name bytes ∷ h)
lasts_found s number stream name bytes h none lasts = record {
  resolved = λ r was. or_more (recovered_done s r number bytes) (was_recorded s h r) (is_resolved s h r) (lasts.resolved r) was;
  recorded = λ r. ap (λ (b : Bool). recovered_done s r number bytes || b) (lasts.recorded r);
  flying = λ r p is. absurd (cc (sym (none r) ∙ is));
}

lasts_outcome : (s : AllSettings) (other : Route) (outcome : Outcome) (h : History) → MayCome s (OnRoute other outcome) h → RecordedLasts s h → RecordedLasts s (OnRoute other outcome ∷ h)
lasts_outcome s other outcome h may lasts = record {
  resolved = λ r was. or_right (same_route other r && resolves outcome) (is_resolved s h r) (lasts.resolved r was);
  recorded = λ r. lasts.recorded r;
  flying = λ r p is. by r p (same_route other r) refl is;
}
  where
    by : (r : Route) (p : Progress) (b : Bool) → same_route other r ≡ b → cond b (progress_of outcome) (flight h r) ≡ Some p → ((b && resolves outcome) || is_resolved s h r) ≡ false
    by r p true same now = subst (λ (x : Route). (resolves outcome || is_resolved s h x) ≡ false) (same_routes other r same) (flies_open s other outcome h p may now)
    by r p false same before = lasts.flying r p before

lasts_records : (s : AllSettings) (other : Route) (h : History) → was_recorded s h other ≡ false → RecordedLasts s h → RecordedLasts s (MarkStarted other ∷ h)
lasts_records s other h may lasts = record {
  resolved = λ r was. lasts.resolved r was;
  recorded = λ r. by r (same_route other r) refl;
  flying = λ r p is. lasts.flying r p is;
}
  where
    by : (r : Route) (b : Bool) → same_route other r ≡ b → cond b false (is_recorded s h r) ≡ was_recorded s h r
    by r true same = sym (subst (λ (x : Route). was_recorded s h x ≡ false) (same_routes other r same) may)
    by r false same = lasts.recorded r

lasts_recorded : (s : AllSettings) (other : Route) (h : History) → is_resolved s h other ≡ true → RecordedLasts s h → RecordedLasts s (Marked other ∷ h)
lasts_recorded s other h may lasts = record {
  resolved = λ r was. by r (same_route other r) refl was;
  recorded = λ r. ap (λ (b : Bool). same_route other r || b) (lasts.recorded r);
  flying = λ r p is. lasts.flying r p is;
}
  where
    by : (r : Route) (b : Bool) → same_route other r ≡ b → (b || was_recorded s h r) ≡ true → is_resolved s h r ≡ true
    by r true same was = subst (λ (x : Route). is_resolved s h x ≡ true) (same_routes other r same) may
    by r false same was = lasts.resolved r was

pub lasts_fact : (s : AllSettings) (fact : Fact) (h : History) → MayCome s fact h → RecordedLasts s h → RecordedLasts s (fact ∷ h)
lasts_fact s (Found number stream name bytes) h may lasts = lasts_found s number stream name bytes h may lasts
lasts_fact s (OnRoute r outcome) h may lasts = lasts_outcome s r outcome h may lasts
lasts_fact s (MarkStarted r) h may lasts = lasts_records s r h may lasts
lasts_fact s (Marked r) h may lasts = lasts_recorded s r h may lasts
lasts_fact s fact h may lasts = record { resolved = lasts.resolved; recorded = lasts.recorded; flying = lasts.flying }

-- ---- unresolved routes, and those that are resolved now

off_where : (a b : Bool) → (a ≡ true → b ≡ true) → b ≡ false → a ≡ false
off_where true b on off = absurd (cc (sym (on refl) ∙ off))
off_where false b on off = refl

pub not_recorded : (s : AllSettings) (h : History) (r : Route) → RecordedLasts s h → is_resolved s h r ≡ false → was_recorded s h r ≡ false
not_recorded s h r lasts off = off_where (was_recorded s h r) (is_resolved s h r) (lasts.resolved r) off

pub resolved_now : (s : AllSettings) (r : Route) (outcome : Outcome) (h : History) → resolves outcome ≡ true → is_resolved s (OnRoute r outcome ∷ h) r ≡ true
resolved_now s r outcome h is = rw (same_itself r, is) refl

pub open_still : (s : AllSettings) (r q : Route) (outcome : Outcome) (h : History) → (same_route r q && resolves outcome) ≡ false → is_resolved s h q ≡ false → is_resolved s (OnRoute r outcome ∷ h) q ≡ false
open_still s r q outcome h other off = rw (other, off) refl

-- ---- what was recorded still is

either_recorded : (s : AllSettings) (fact : Fact) (h : History) (r : Route) → was_recorded s h r ≡ true → was_recorded s (fact ∷ h) r ≡ true
either_recorded s (Found number stream name bytes) h r is = or_right (recovered_done s r number bytes) (was_recorded s h r) is
either_recorded s (Marked other) h r is = or_right (same_route other r) (was_recorded s h r) is
either_recorded s fact h r is = is

was_noted : (s : AllSettings) (h : History) (r : Route) → Contains h (Marked r) → was_recorded s h r ≡ true
was_noted s [] r has = absurd (omega (arith, has.1))
was_noted s (fact ∷ h) r has = by (either fact h (Marked r) has) (was_noted s h r)
  where
    now : was_recorded s (Marked r ∷ h) r ≡ true
    now = rw (same_itself r) refl

    by : (fact ≡ Marked r) ⊎ Contains h (Marked r) → (Contains h (Marked r) → was_recorded s h r ≡ true) → was_recorded s (fact ∷ h) r ≡ true
    by (inl same) more = subst (λ (x : Fact). was_recorded s (x ∷ h) r ≡ true) (sym same) now
    by (inr before) more = either_recorded s fact h r (more before)

was_found : (s : AllSettings) (stream name bytes : List ℕ) (h : History) (r : Route) → is_marked_done (output_name s r.output) (recovered_chunk bytes) ≡ true → Contains h (Found r.chunk stream name bytes) → was_recorded s h r ≡ true
was_found s stream name bytes [] r is has = absurd (omega (arith, has.1))
was_found s stream name bytes (fact ∷ h) r is has = by (either fact h (Found r.chunk stream name bytes) has) (was_found s stream name bytes h r is)
  where
    now : was_recorded s (Found r.chunk stream name bytes ∷ h) r ≡ true
    now = rw (eq-eqb r.chunk r.chunk refl, is) refl

    by : (fact ≡ Found r.chunk stream name bytes) ⊎ Contains h (Found r.chunk stream name bytes) → (Contains h (Found r.chunk stream name bytes) → was_recorded s h r ≡ true) → was_recorded s (fact ∷ h) r ≡ true
    by (inl same) more = subst (λ (x : Fact). was_recorded s (x ∷ h) r ≡ true) (sym same) now
    by (inr before) more = either_recorded s fact h r (more before)

pub noted_lasts : (s : AllSettings) (h : History) (r : Route) → RecordedLasts s h → Contains h (Marked r) → is_recorded s h r ≡ true
noted_lasts s h r lasts has = lasts.recorded r ∙ was_noted s h r has

pub found_lasts : (s : AllSettings) (h : History) (r : Route) → RecordedLasts s h → WasRecoveredDone s h r → is_recorded s h r ≡ true
found_lasts s h r lasts is = lasts.recorded r ∙ was_found s is.stream is.name is.bytes h r is.done is.found
