-- The clock is the greatest time of a tick.
use Rattle.std.proofs.Common.{◌≡◌, ◌⊎◌, inl, inr, ℕ, ◌≤◌, min, max, Bool, true, false, List, [], ◌∷◌, refl, sym, subst, arith}
use Rattle.std.specs.Prelude.{Contains, nat_le}
use Rattle.std.proofs.lemmas.Bool.{leb-true, leb-false}
use Rattle.fwd_base.specs.Limits.{latest_time}
use Rattle.fwd_outside.specs.declared.happening.Happening.{Happening}
use Rattle.fwd_outside.specs.declared.happening.Happening.TheVariants as happening
use Rattle.fwd_model.specs.Fact.{Fact, History, Happened}
use Rattle.fwd_model.specs.Clock.{clock, clock_after}
use Rattle.fwd_theorem_trace.proofs.Members.{here, deeper, either}

abbrev Ticked : ℕ → Fact
Ticked now = Happened (happening.Tick now)

not_less : (fact : Fact) (h : History) → clock h ≤ clock (fact ∷ h)
not_less (Happened (happening.Tick now)) h = omega arith
not_less (Happened brought) h = omega arith
not_less fact h = omega arith

pub ticks_count : (h : History) (now : ℕ) → Contains h (Ticked now) → min now latest_time ≤ clock h
ticks_count [] now has = absurd (omega (arith, has.1))
ticks_count (fact ∷ h) now has = by (either fact h (Ticked now) has) (ticks_count h now)
  where
    counts : (f : Fact) → f ≡ Ticked now → min now latest_time ≤ clock (f ∷ h)
    counts (Happened (happening.Tick at)) is = let same : at ≡ now = cc is in omega (arith, same)
    counts (Happened brought) is = absurd (cc is)
    counts f is = absurd (cc is)

    by : (fact ≡ Ticked now) ⊎ Contains h (Ticked now) → (Contains h (Ticked now) → min now latest_time ≤ clock h) → min now latest_time ≤ clock (fact ∷ h)
    by (inl same) more = counts fact same
    by (inr before) more = let old = more before in let grows = not_less fact h in omega (arith, old, grows)

abbrev IsTicked : History → ℕ → Type 0
IsTicked h time = (time ≡ 0) ⊎ ((now : ℕ) × Contains h (Ticked now) × (time ≡ min now latest_time))

later : (fact : Fact) (h : History) (time : ℕ) → IsTicked h time → IsTicked (fact ∷ h) time
later fact h time (inl none) = inl none
later fact h time (inr (now, has, is)) = inr (now, deeper fact h (Ticked now) has, is)

greater : (a b : ℕ) → (max a b ≡ a) ⊎ (max a b ≡ b)
greater a b = by (nat_le a b) refl
  where
    by : (c : Bool) → nat_le a b ≡ c → (max a b ≡ a) ⊎ (max a b ≡ b)
    by true is = let less = leb-true a b is in inr (omega (arith, less))
    by false is = let more = leb-false a b is in inl (omega (arith, more))

pub latest_ticked : (h : History) → IsTicked h (clock h)
latest_ticked [] = inl refl
latest_ticked (fact ∷ h) = by fact (latest_ticked h)
  where
    ticks : (now : ℕ) → (max (clock h) (min now latest_time) ≡ clock h) ⊎ (max (clock h) (min now latest_time) ≡ min now latest_time) → IsTicked h (clock h) → IsTicked (Ticked now ∷ h) (clock_after (clock h) now)
    ticks now (inl old) was = later (Ticked now) h (clock_after (clock h) now) (subst (IsTicked h) (sym old) was)
    ticks now (inr new) was = inr (now, here (Ticked now) h, new)

    by : (f : Fact) → IsTicked h (clock h) → IsTicked (f ∷ h) (clock (f ∷ h))
    by (Happened (happening.Tick now)) was = ticks now (greater (clock h) (min now latest_time)) was
    by (Happened brought) was = later (Happened brought) h (clock h) was
    by f was = later f h (clock h) was
