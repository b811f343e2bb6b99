-- A link is closed once its flush has an outcome, and not before.
use Rattle.std.proofs.Common.{◌≡◌, ◌≢◌, ℕ, ◌+◌, ◌<◌, ◌≤◌, true, false, List, [], ◌∷◌, ◌++◌, Option, Some, None, inl, inr, refl, sym, ◌∙◌, ap, subst, arith}
use Rattle.std.specs.Prelude.{◌==◌}
use Rattle.std.proofs.lemmas.Bool.{cases_Bool, cases_eq, eqb-true}
use Rattle.fwd_base.specs.declared.ids.LinkId.{LinkId}
use Rattle.fwd_outside.specs.Loop.{LoopEntry}
use Rattle.fwd_flush.specs.FlushProgram.{Progress, link_in}
use Rattle.fwd_event.specs.declared.event.Event.{Event as LogEvent}
use Rattle.fwd_model.specs.Fact.{Fact, History, Route, OnRoute, Outcome}
use Rattle.fwd_model.specs.Routes.{same_route, flight, progress_of, is_link, uses_link, other_than, route_on_link}
use Rattle.fwd_theorem_delivery.specs.Links.{DialTarget, WasDialled, ReturnsLink, close_count}
use Rattle.fwd_theorem_delivery.proofs.OwnEvents.{GivesNone, among_either}
use Rattle.fwd_theorem_delivery.proofs.LinkCalls.{closes_in}
use Rattle.fwd_theorem_delivery.proofs.ChunkFacts.{MayNote}
use Rattle.fwd_theorem_delivery.proofs.Outcomes.{Now, noted}
use Rattle.fwd_theorem_delivery.proofs.FlushInvariant.{IsAtLink, on_same}
use Rattle.fwd_theorem_delivery.proofs.FlushEnd.{same, on_flies}

-- how often the link of this route was closed
abbrev pub closed_by : Option Route → ℕ
closed_by None = 1
closed_by (Some r) = 0

pub record Closed (n : Now) : Type 0 where
  pub per : (to : DialTarget) (link : ℕ) → WasDialled to link n.calls → close_count link n.calls ≡ closed_by (route_on_link n.history link)
  pub later : (link : ℕ) → n.greatest < link → close_count link n.calls ≡ 0

pub close_count-append : (link : ℕ) (xs ys : List LoopEntry) → close_count link (xs ++ ys) ≡ close_count link xs + close_count link ys
close_count-append link [] ys = omega arith
close_count-append link (e ∷ xs) ys = let rest : close_count link (xs ++ ys) ≡ close_count link xs + close_count link ys = close_count-append link xs ys in omega (arith, rest)

no_more : (link : ℕ) (xs ys : List LoopEntry) → close_count link ys ≡ 0 → close_count link (xs ++ ys) ≡ close_count link xs
no_more link xs ys none = let both : close_count link (xs ++ ys) ≡ close_count link xs + close_count link ys = close_count-append link xs ys in omega (arith, both, none)

pub closed_first : Closed (record { greatest = 0; calls = []; history = [] })
closed_first = record { per = λ to link given. absurd given; later = λ link above. refl }

pub closed_as : (h : History) (g g2 : ℕ) (es es2 : List LoopEntry) → g ≡ g2 → es ≡ es2 → Closed (record { greatest = g; calls = es; history = h }) → Closed (record { greatest = g2; calls = es2; history = h })
closed_as h g g2 es es2 same_g same_es closed =
    subst (λ (x : ℕ). Closed (record { greatest = x; calls = es2; history = h })) same_g
    (subst (λ (x : List LoopEntry). Closed (record { greatest = g; calls = x; history = h })) same_es closed)

pub closed_fact : (fact : Fact) (n : Now) → MayNote fact n.history → Closed n → Closed (noted fact n)
closed_fact fact n may closed = record {
  per = λ to link given. closed.per to link given ∙ sym (ap closed_by (on_same fact n.history link may));
  later = closed.later;
}

-- what is on a link, by the progress of its flush
pub closed_at : (h : History) (link : ℕ) (r : Route) (events : List LogEvent) (q : Progress) (o : Option LinkId) → IsAtLink h link r events q o → closed_by (route_on_link h link) ≡ closes_in o
closed_at h link r events q None at = rw at refl
closed_at h link r events q (Some x) at = rw at.2 refl

-- a route without a flush is on no link, and one with a flush is on its own link alone
pub grounded_off : (h : History) (r : Route) (link : ℕ) → flight h r ≡ None → route_on_link h link ≡ Some r → ⊥
grounded_off h r link grounded on = let flies : uses_link link None ≡ true = subst (λ (o : Option Progress). uses_link link o ≡ true) grounded (on_flies h link r on) in absurd (cc flies)

pub flying_off : (h : History) (r : Route) (p : Progress) (link other : ℕ) → flight h r ≡ Some p → link_in p.stage ≡ Some (record { 0 = link }) → link ≢ other → route_on_link h other ≡ Some r → ⊥
flying_off h r p link other flies has apart on =
    let there : is_link other (link_in p.stage) ≡ true = subst (λ (o : Option Progress). uses_link other o ≡ true) flies (on_flies h other r on) in
    let same_link : (link == other) ≡ true = subst (λ (o : Option LinkId). is_link other o ≡ true) has there in
    apart (eqb-true link other same_link)

module _ (n : Now) (closed : Closed n) (ys : List LoopEntry) where
  -- calls that close nothing
  pub closed_aside : GivesNone ys → ((link : ℕ) → close_count link ys ≡ 0) → Closed (record { greatest = n.greatest; calls = n.calls ++ ys; history = n.history })
  closed_aside none nothing = record {
    per = λ to link given. elim (among_either (ReturnsLink to link) n.calls ys given) [
      | inl was ↦ no_more link n.calls ys (nothing link) ∙ closed.per to link was
      | inr new ↦ absurd (none to link new)
    ];
    later = λ link above. no_more link n.calls ys (nothing link) ∙ closed.later link above;
  }

  module _ (r : Route) (outcome : Outcome) where
    abbrev h2 : History
    h2 = OnRoute r outcome ∷ n.history

    stays_on : (link : ℕ) → uses_link link (progress_of outcome) ≡ false → (route_on_link n.history link ≡ Some r → ⊥) → closed_by (route_on_link h2 link) ≡ closed_by (route_on_link n.history link)
    stays_on link off lone = rw off (by (route_on_link n.history link) refl)
      where
        by : (o : Option Route) → route_on_link n.history link ≡ o → closed_by (other_than r o) ≡ closed_by o
        by None is = refl
        by (Some x) is = elim (cases_Bool (same_route r x)) [
          | inl this ↦ absurd (lone (is ∙ ap (λ (y : Route). Some y) (sym (same r x this))))
          | inr differs ↦ rw differs refl
        ]

    carried : (to : DialTarget) (link : ℕ) → WasDialled to link n.calls → close_count link ys ≡ 0 → uses_link link (progress_of outcome) ≡ false → (route_on_link n.history link ≡ Some r → ⊥)
        → close_count link (n.calls ++ ys) ≡ closed_by (route_on_link h2 link)
    carried to link given none off lone = no_more link n.calls ys none ∙ (closed.per to link given ∙ sym (stays_on link off lone))

    -- a dial was refused
    pub closed_refused : GivesNone ys → ((link : ℕ) → close_count link ys ≡ 0) → progress_of outcome ≡ None → flight n.history r ≡ None → Closed (record { greatest = n.greatest; calls = n.calls ++ ys; history = h2 })
    closed_refused none nothing out grounded = record {
      per = λ to link given. elim (among_either (ReturnsLink to link) n.calls ys given) [
        | inl was ↦ carried to link was (nothing link) (rw out refl) (grounded_off n.history r link grounded)
        | inr new ↦ absurd (none to link new)
      ];
      later = λ link above. no_more link n.calls ys (nothing link) ∙ closed.later link above;
    }

    -- the flush on this link got an outcome
    pub closed_landed : (greatest link : ℕ) → n.greatest ≤ greatest → link ≤ greatest → ((to : DialTarget) (other : ℕ) → WasDialled to other ys → link ≡ other)
        → close_count link (n.calls ++ ys) ≡ closed_by (route_on_link h2 link) → ((other : ℕ) → link ≢ other → close_count other ys ≡ 0)
        → ((other : ℕ) → link ≢ other → uses_link other (progress_of outcome) ≡ false) → ((other : ℕ) → link ≢ other → route_on_link n.history other ≡ Some r → ⊥)
        → Closed (record { greatest = greatest; calls = n.calls ++ ys; history = h2 })
    closed_landed greatest link more within given mine none off lone = record { per = per_now; later = later_now }
      where
        per_now : (to : DialTarget) (other : ℕ) → WasDialled to other (n.calls ++ ys) → close_count other (n.calls ++ ys) ≡ closed_by (route_on_link h2 other)
        per_now to other is = elim (cases_eq link other) [
          | inl this ↦ subst (λ (l : ℕ). close_count l (n.calls ++ ys) ≡ closed_by (route_on_link h2 l)) this mine
          | inr apart ↦ elim (among_either (ReturnsLink to other) n.calls ys is) [
            | inl was ↦ carried to other was (none other apart) (off other apart) (lone other apart)
            | inr new ↦ absurd (apart (given to other new))
          ]
        ]

        later_now : (other : ℕ) → greatest < other → close_count other (n.calls ++ ys) ≡ 0
        later_now other above = no_more other n.calls ys (none other (λ e. omega (arith, above, within, e))) ∙ closed.later other (omega (arith, above, more))
