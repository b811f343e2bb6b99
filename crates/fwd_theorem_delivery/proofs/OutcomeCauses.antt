-- The three ways in which a flush gets an outcome: something arrived on its link, its dial returned a
-- link, or its dial was refused.
use Rattle.std.proofs.Common.{◌≡◌, ◌≢◌, ℕ, ◌<◌, ◌≤◌, true, List, [], ◌∷◌, ◌++◌, Option, Some, None, inl, inr, refl, sym, ◌∙◌, ap, subst, arith}
use Rattle.std.proofs.lemmas.List.{append-nil}
use Rattle.std.proofs.lemmas.Bool.{cases_Bool}
use Rattle.fwd_base.specs.declared.ids.LinkId.{LinkId}
use Rattle.fwd_outside.specs.Loop.{LoopEntry}
use Rattle.fwd_flush.specs.FlushProgram.{Progress, link_in}
use Rattle.fwd_flush.specs.Outcome.{Event, ProgressRepresents}
use Rattle.fwd_settings.specs.declared.settings_types.AllSettings.{AllSettings}
use Rattle.fwd_event.specs.declared.event.Event.{Event as LogEvent}
use Rattle.fwd_model.specs.Fact.{Route, OnRoute, Outcome, FlushStarted}
use Rattle.fwd_model.specs.Routes.{same_route, flight, begun as begun_by, progress_of, uses_link, route_on_link}
use Rattle.fwd_model.specs.Payloads.{delivery}
use Rattle.fwd_model.specs.Chunks.{is_closed}
use Rattle.fwd_theorem_delivery.specs.Links.{DialTarget, WasDialled, ReturnsLink, RefusesDial, all_on_link, since_dial}
use Rattle.fwd_theorem_delivery.specs.LinkOutcomes.{IsLogged, was_opened, dial_target, delivers}
use Rattle.fwd_theorem_delivery.proofs.OwnEvents.{GivesNone, among_left, among_right, among_either, own_more, own_new}
use Rattle.fwd_theorem_delivery.proofs.LinkCalls.{StaysOn}
use Rattle.fwd_theorem_delivery.proofs.Outcomes.{Now}
use Rattle.fwd_theorem_delivery.proofs.FlushInvariant.{IsAtLink, FlushState, CameBy, Kept, came_through}
use Rattle.fwd_theorem_delivery.proofs.FlushEnd.{Comes, on_flies, linked, off_elsewhere, other_flown, own_flown, landed}

number_of : (link other : ℕ) (o : Option LinkId) → o ≡ Some (record { 0 = link }) → o ≡ Some (record { 0 = other }) → link ≡ other
number_of link other o a b =
    let x : LinkId = record { 0 = link } in
    let y : LinkId = record { 0 = other } in
    let both : Some x ≡ Some y = sym a ∙ b in
    let e : x ≡ y = cc both in
    ap (λ (l : LinkId). l.0) e

-- what happened on a link, after calls that aren't on it
own_still : (to : DialTarget) (link : ℕ) (es ys : List LoopEntry) → WasDialled to link es → all_on_link link ys ≡ [] → since_dial link (es ++ ys) ≡ since_dial link es
own_still to link es ys given none = own_more to link es ys given ∙ ap (λ (l : List Event). since_dial link es ++ l) none ∙ append-nil (since_dial link es)

module _ (s : AllSettings) (n : Now) (kept : Kept s n) where
  -- no route is on a link that wasn't returned
  unseen : (link : ℕ) → ((to : DialTarget) → WasDialled to link n.calls → ⊥) → route_on_link n.history link ≡ None
  unseen link never = by (route_on_link n.history link) refl
    where
      flying : (r : Route) (o : Option Progress) → flight n.history r ≡ o → uses_link link o ≡ true → ⊥
      flying r None is on = absurd (cc on)
      flying r (Some p) is on =
          let e = kept.under_way r p is in
          let there : link ≡ e.0 = number_of link e.0 (link_in p.stage) (linked link (link_in p.stage) on) e.2 in
          never (dial_target n.history r) (subst (λ (l : ℕ). WasDialled (dial_target n.history r) l n.calls) (sym there) e.3.given)

      by : (o : Option Route) → route_on_link n.history link ≡ o → route_on_link n.history link ≡ None
      by None is = is
      by (Some r) is = absurd (flying r (flight n.history r) refl (on_flies n.history link r is))

  -- the flush on a link
  module _ (link : ℕ) (r : Route) (p : Progress) (on : route_on_link n.history link ≡ Some r) (flies : flight n.history r ≡ Some p) where
    pub has_it : link_in p.stage ≡ Some (record { 0 = link })
    has_it = linked link (link_in p.stage) (subst (λ (o : Option Progress). uses_link link o ≡ true) flies (on_flies n.history link r on))

    last : (events : List LogEvent) → FlushState s n.calls n.history link r events p → begun_by n.history r ≡ events
    last events flown = (subst (λ (o : Option LinkId). IsAtLink n.history link r events p o) has_it flown.at).3

    pub flown_on : FlushState s n.calls n.history link r (begun_by n.history r) p
    flown_on =
        let e = kept.under_way r p flies in
        let there : FlushState s n.calls n.history link r e.1 p = subst (λ (l : ℕ). FlushState s n.calls n.history l r e.1 p) (sym (number_of link e.0 (link_in p.stage) has_it e.2)) e.3 in
        subst (λ (events : List LogEvent). FlushState s n.calls n.history link r events p) (sym (last e.1 there)) there

    whose : (r2 : Route) (events2 : List LogEvent) (p2 : Progress) → FlushState s n.calls n.history link r2 events2 p2 → (r ≡ r2) × (link_in p2.stage ≡ None → ⊥)
    whose r2 events2 p2 flown = by (link_in p2.stage) refl flown.at
      where
        by : (o : Option LinkId) → link_in p2.stage ≡ o → IsAtLink n.history link r2 events2 p2 o → (r ≡ r2) × (link_in p2.stage ≡ None → ⊥)
        by None is at = absurd (cc (sym on ∙ at))
        by (Some x) is at =
            let e : r ≡ r2 = let both : Some r ≡ Some r2 = sym on ∙ at.2 in cc both in
            (e, λ none. absurd (cc (sym is ∙ none)))

    module _ (ys : List LoopEntry) (none : GivesNone ys) (more : List Event) (here : all_on_link link ys ≡ more) (elsewhere : (other : ℕ) → link ≢ other → all_on_link other ys ≡ [])
        (q : Progress) (outcome : Outcome) (comes : Comes q outcome) (stays : StaysOn link (link_in q.stage)) (stands : ProgressRepresents (delivery s n.history r) (since_dial link n.calls ++ more) q) where
      known : (to : DialTarget) (other : ℕ) → WasDialled to other (n.calls ++ ys) → other ≤ n.greatest
      known to other given = elim (among_either (ReturnsLink to other) n.calls ys given) [ inl was ↦ kept.known to other was | inr new ↦ absurd (none to other new) ]

      lone : (other : ℕ) → link ≢ other → (p2 : Progress) (x : LinkId) → flight n.history r ≡ Some p2 → link_in p2.stage ≡ Some x → x.0 ≢ other
      lone other apart p2 x is has same_number =
          let e : p ≡ p2 = let both : Some p ≡ Some p2 = sym flies ∙ is in cc both in
          let its : link_in p2.stage ≡ Some (record { 0 = link }) = subst (λ (y : Progress). link_in y.stage ≡ Some (record { 0 = link })) e has_it in
          apart (number_of link x.0 (link_in p2.stage) its has ∙ same_number)

      others : (other : ℕ) (r2 : Route) (events2 : List LogEvent) (p2 : Progress) → link ≢ other → FlushState s n.calls n.history other r2 events2 p2 → FlushState s (n.calls ++ ys) (OnRoute r outcome ∷ n.history) other r2 events2 p2
      others other r2 events2 p2 apart flown =
          other_flown s n.calls (n.calls ++ ys) n.history r outcome other r2 events2 p2 flown (among_left (ReturnsLink (dial_target n.history r2) other) n.calls ys flown.given)
          (own_still (dial_target n.history r2) other n.calls ys flown.given (elsewhere other apart)) (off_elsewhere q outcome link other comes stays apart) (lone other apart)

      pub mine : FlushState s (n.calls ++ ys) (OnRoute r outcome ∷ n.history) link r (begun_by n.history r) q
      mine =
          let f = flown_on in
          let owned : since_dial link (n.calls ++ ys) ≡ since_dial link n.calls ++ more = own_more (dial_target n.history r) link n.calls ys f.given ∙ ap (λ (l : List Event). since_dial link n.calls ++ l) here in
          own_flown s n.calls (n.calls ++ ys) n.history r outcome link (begun_by n.history r) q f.begun_with refl (among_left (ReturnsLink (dial_target n.history r) link) n.calls ys f.given) f.opened f.shut
          (subst (λ (events : List Event). ProgressRepresents (delivery s n.history r) events q) (sym owned) stands) comes stays (inl on)

      pub resumed : Kept s (record { greatest = n.greatest; calls = n.calls ++ ys; history = OnRoute r outcome ∷ n.history })
      resumed = landed s n kept ys n.greatest link r (begun_by n.history r) q outcome comes stays known whose (λ to other given. absurd (none to other given)) others mine

  -- an idle route
  module _ (r : Route) (idle : flight n.history r ≡ None) (ys : List LoopEntry) where
    grounded : (other : ℕ) (p2 : Progress) (x : LinkId) → flight n.history r ≡ Some p2 → link_in p2.stage ≡ Some x → x.0 ≢ other
    grounded other p2 x is has same_number = absurd (cc (sym idle ∙ is))

    module _ (events : List LogEvent) (begun_with : IsLogged (OnRoute r (FlushStarted events)) n.history) (last : begun_by n.history r ≡ events) (opened : was_opened n.history r.chunk ≡ true) (shut : is_closed n.history r.chunk ≡ true)
        (link : ℕ) (fresh : n.greatest < link) (gave : WasDialled (dial_target n.history r) link ys) (given : (to : DialTarget) (other : ℕ) → WasDialled to other ys → (link ≡ other) × (dial_target n.history r ≡ to))
        (elsewhere : (other : ℕ) → link ≢ other → all_on_link other ys ≡ []) (q : Progress) (outcome : Outcome) (comes : Comes q outcome) (stays : StaysOn link (link_in q.stage))
        (stands : ProgressRepresents (delivers s n.history r events) (since_dial link ys) q) where
      never : (to : DialTarget) → WasDialled to link n.calls → ⊥
      never to was = let most : link ≤ n.greatest = kept.known to link was in absurd (omega (arith, most, fresh))

      now_known : (to : DialTarget) (other : ℕ) → WasDialled to other (n.calls ++ ys) → other ≤ link
      now_known to other is = elim (among_either (ReturnsLink to other) n.calls ys is) [
        | inl was ↦ let most : other ≤ n.greatest = kept.known to other was in omega (arith, most, fresh)
        | inr new ↦ let e : link ≡ other = (given to other new).0 in omega (arith, e)
      ]

      other_ones : (other : ℕ) (r2 : Route) (events2 : List LogEvent) (p2 : Progress) → link ≢ other → FlushState s n.calls n.history other r2 events2 p2 → FlushState s (n.calls ++ ys) (OnRoute r outcome ∷ n.history) other r2 events2 p2
      other_ones other r2 events2 p2 apart flown =
          other_flown s n.calls (n.calls ++ ys) n.history r outcome other r2 events2 p2 flown (among_left (ReturnsLink (dial_target n.history r2) other) n.calls ys flown.given)
          (own_still (dial_target n.history r2) other n.calls ys flown.given (elsewhere other apart)) (off_elsewhere q outcome link other comes stays apart) (grounded other)

      pub new_one : FlushState s (n.calls ++ ys) (OnRoute r outcome ∷ n.history) link r events q
      new_one =
          own_flown s n.calls (n.calls ++ ys) n.history r outcome link events q begun_with last (among_right (ReturnsLink (dial_target n.history r) link) n.calls ys gave) opened shut
          (subst (λ (l : List Event). ProgressRepresents (delivers s n.history r events) l q) (sym (own_new link n.calls ys never)) stands) comes stays (inr (unseen link never))

      pub begun : Kept s (record { greatest = link; calls = n.calls ++ ys; history = OnRoute r outcome ∷ n.history })
      begun = landed s n kept ys link link r events q outcome comes stays now_known (λ r2 events2 p2 flown. absurd (never (dial_target n.history r2) flown.given)) given other_ones new_one

    module _ (none : GivesNone ys) (nothing : (link : ℕ) → all_on_link link ys ≡ []) (outcome : Outcome) (out : progress_of outcome ≡ None)
        (by : CameBy s (n.calls ++ ys) (OnRoute r outcome ∷ n.history) r outcome) where
      carries : (link : ℕ) (r2 : Route) (events2 : List LogEvent) (p2 : Progress) → FlushState s n.calls n.history link r2 events2 p2 → FlushState s (n.calls ++ ys) (OnRoute r outcome ∷ n.history) link r2 events2 p2
      carries link r2 events2 p2 flown =
          other_flown s n.calls (n.calls ++ ys) n.history r outcome link r2 events2 p2 flown (among_left (ReturnsLink (dial_target n.history r2) link) n.calls ys flown.given)
          (own_still (dial_target n.history r2) link n.calls ys flown.given (nothing link)) (rw out refl) (grounded link)

      before : (to : DialTarget) (link : ℕ) → WasDialled to link (n.calls ++ ys) → WasDialled to link n.calls
      before to link is = elim (among_either (ReturnsLink to link) n.calls ys is) [ inl was ↦ was | inr new ↦ absurd (none to link new) ]

      still_up : (r2 : Route) (p2 : Progress) → flight (OnRoute r outcome ∷ n.history) r2 ≡ Some p2 → flight n.history r2 ≡ Some p2
      still_up r2 p2 is = elim (cases_Bool (same_route r r2)) [
        | inl this ↦ let now : progress_of outcome ≡ Some p2 = rw this at is in absurd (cc (sym out ∙ now))
        | inr differs ↦ rw differs at is
      ]

      came_now : (r2 : Route) (o : Outcome) → IsLogged (OnRoute r2 o) (OnRoute r outcome ∷ n.history) → CameBy s (n.calls ++ ys) (OnRoute r outcome ∷ n.history) r2 o
      came_now r2 o (inl here) =
          let route_is : r ≡ r2 = cc here in
          let outcome_is : outcome ≡ o = cc here in
          subst (λ (x : Route). CameBy s (n.calls ++ ys) (OnRoute r outcome ∷ n.history) x o) route_is
          (subst (λ (x : Outcome). CameBy s (n.calls ++ ys) (OnRoute r outcome ∷ n.history) r x) outcome_is by)
      came_now r2 o (inr there) =
          came_through s n.calls (n.calls ++ ys) n.history (OnRoute r outcome ∷ n.history) r2 (λ link events p answer ended flown. carries link r2 events p flown) (λ was. (was.0, among_left (RefusesDial (dial_target n.history r2)) n.calls ys was.1)) o (kept.came r2 o there)

      pub refused : Kept s (record { greatest = n.greatest; calls = n.calls ++ ys; history = OnRoute r outcome ∷ n.history })
      refused = record {
        known = λ to link is. kept.known to link (before to link is);
        sound = kept.sound;
        each = λ to link is.
            let e = kept.each to link (before to link is) in
            (e.0, e.1, e.2, e.3, carries link e.0 e.1 e.2 e.4);
        under_way = λ r2 p2 is.
            let e = kept.under_way r2 p2 (still_up r2 p2 is) in
            (e.0, e.1, e.2, carries e.0 r2 e.1 p2 e.3);
        came = came_now;
      }
