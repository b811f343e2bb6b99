-- The taken bytes that facts count are those that the links took.
use Rattle.std.proofs.Common.{◌≡◌, ◌≢◌, ℕ, ◌+◌, ◌-◌, ◌^◌, min, Bool, true, false, List, [], ◌∷◌, ◌++◌, length, length-append, inl, inr, refl, sym, ◌∙◌, ap, subst, arith}
use Rattle.std.specs.Prelude.{◌==◌, if◌then◌else◌}
use Rattle.std.proofs.lemmas.List.{append-nil}
use Rattle.std.proofs.lemmas.Bool.{cases_Bool, cases_eq, eq-eqb, ne_eqb}
use Rattle.fwd_outside.specs.Loop.{LoopEntry}
use Rattle.fwd_outside.specs.NewLinks.{AreNewLinks, greatest_after}
use Rattle.fwd_outside.proofs.RisingLinks.{new_append, greatest_append}
use Rattle.fwd_flush.specs.Outcome.{Event, bytes_pushed}
use Rattle.fwd_flush.proofs.Outcomes.{bytes_pushed-append}
use Rattle.fwd_model.specs.Fact.{History, Route, Sent, OnRoute, Outcome}
use Rattle.fwd_model.specs.Counters.{taken}
use Rattle.fwd_theorem_delivery.specs.Links.{DialTarget, WasDialled, all_on_link, since_dial}
use Rattle.fwd_theorem_delivery.specs.LinkOutcomes.{dial_target}
use Rattle.fwd_theorem_delivery.specs.TakenBytes.{links_of, taken_over}
use Rattle.fwd_theorem_delivery.proofs.OwnEvents.{GivesNone, own_more, own_new}
use Rattle.fwd_theorem_delivery.proofs.Outcomes.{Now}
use Rattle.fwd_theorem_delivery.proofs.LinkSums.{in_given, links_none, links_append, new_none, over_append, over_same, over_grown, added_once}

-- the sent bytes, without saturation
abbrev pub exact : History → ℕ → ℕ
exact [] output = 0
exact (Sent other bytes ∷ h) output = if other == output then exact h output + bytes else exact h output
exact (fact ∷ h) output = exact h output

min_more : (a b m : ℕ) → min (min a m + b) m ≡ min (a + b) m
min_more a b m = omega arith

-- the count saturates at its maximum
pub stands_still : (h : History) (output : ℕ) → taken h output ≡ min (exact h output) (2 ^ 64 - 1)
stands_still [] output = refl
stands_still (Sent other bytes ∷ h) output = elim (cases_Bool (other == output)) [
  | inl is ↦ rw (is, stands_still h output) (min_more (exact h output) bytes (2 ^ 64 - 1))
  | inr isnt ↦ rw isnt (stands_still h output)
]
stands_still (fact ∷ h) output = stands_still h output

-- that many more bytes are taken over the links of the output
handed_so : (r : Route) (output more : ℕ) (h : History) (before now : ℕ) → exact h output ≡ before → now ≡ before + (if r.output == output then more else 0) → (if r.output == output then exact h output + more else exact h output) ≡ now
handed_so r output more h before now was grown = elim (cases_Bool (r.output == output)) [
  | inl is ↦ let all : now ≡ before + more = rw is at grown in rw is (omega (arith, was, all))
  | inr isnt ↦ let all : now ≡ before + 0 = rw isnt at grown in rw isnt (omega (arith, was, all))
]

pub record Counted (n : Now) : Type 0 where
  pub count : (output : ℕ) → exact n.history output ≡ taken_over (links_of output n.calls) n.calls
  pub new : AreNewLinks 0 n.calls
  pub top : greatest_after 0 n.calls ≡ n.greatest

pub counted_first : Counted (record { greatest = 0; calls = []; history = [] })
counted_first = record { count = λ output. refl; new = tt; top = refl }

pub counted_as : (h : History) (g g2 : ℕ) (es es2 : List LoopEntry) → g ≡ g2 → es ≡ es2 → Counted (record { greatest = g; calls = es; history = h }) → Counted (record { greatest = g2; calls = es2; history = h })
counted_as h g g2 es es2 same_g same_es counted =
    subst (λ (x : ℕ). Counted (record { greatest = x; calls = es2; history = h })) same_g
    (subst (λ (x : List LoopEntry). Counted (record { greatest = g; calls = x; history = h })) same_es counted)

-- facts that count no taken bytes
pub counted_fact : (facts : History) (n : Now) → ((output : ℕ) → exact facts output ≡ exact n.history output) → Counted n → Counted (record { greatest = n.greatest; calls = n.calls; history = facts })
counted_fact facts n same counted = record { count = λ output. same output ∙ counted.count output; new = counted.new; top = counted.top }

module _ (n : Now) (counted : Counted n) (ys : List LoopEntry) where
  grown_by : (to : DialTarget) (link : ℕ) → WasDialled to link n.calls → bytes_pushed (since_dial link (n.calls ++ ys)) ≡ bytes_pushed (since_dial link n.calls) ++ bytes_pushed (all_on_link link ys)
  grown_by to link given = ap bytes_pushed (own_more to link n.calls ys given) ∙ bytes_pushed-append (since_dial link n.calls) (all_on_link link ys)

  same_by : (to : DialTarget) (link : ℕ) → WasDialled to link n.calls → bytes_pushed (all_on_link link ys) ≡ [] → bytes_pushed (since_dial link (n.calls ++ ys)) ≡ bytes_pushed (since_dial link n.calls)
  same_by to link given none = grown_by to link given ∙ (ap (λ (l : List ℕ). bytes_pushed (since_dial link n.calls) ++ l) none ∙ append-nil (bytes_pushed (since_dial link n.calls)))

  module _ (none : GivesNone ys) where
    links_stay : (output : ℕ) → links_of output (n.calls ++ ys) ≡ links_of output n.calls
    links_stay output = links_append output n.calls ys ∙ (ap (λ (l : List ℕ). links_of output n.calls ++ l) (links_none output ys none) ∙ append-nil (links_of output n.calls))

    still_new : AreNewLinks 0 (n.calls ++ ys)
    still_new = new_append 0 n.calls ys counted.new (new_none (greatest_after 0 n.calls) ys none).0

    still_top : greatest_after 0 (n.calls ++ ys) ≡ n.greatest
    still_top = greatest_append 0 n.calls ys ∙ ((new_none (greatest_after 0 n.calls) ys none).1 ∙ counted.top)

    -- calls that take no bytes
    pub counted_aside : ((link : ℕ) → bytes_pushed (all_on_link link ys) ≡ []) → Counted (record { greatest = n.greatest; calls = n.calls ++ ys; history = n.history })
    counted_aside nothing = record {
      count = λ output. counted.count output ∙ sym (ap (λ (l : List ℕ). taken_over l (n.calls ++ ys)) (links_stay output) ∙ same output);
      new = still_new;
      top = still_top;
    }
      where
        same : (output : ℕ) → taken_over (links_of output n.calls) (n.calls ++ ys) ≡ taken_over (links_of output n.calls) n.calls
        same output =
            over_same (links_of output n.calls) n.calls (n.calls ++ ys) (λ link is. let given = in_given output link n.calls is in same_by given.0 link given.2 (nothing link))

    -- pushes on one link take some bytes
    module _ (r : Route) (link : ℕ) (given : WasDialled (dial_target n.history r) link n.calls) (outcome : Outcome) (more : ℕ) (here : length (bytes_pushed (all_on_link link ys)) ≡ more)
        (elsewhere : (other : ℕ) → link ≢ other → all_on_link other ys ≡ []) where
      grows : (other : ℕ) (to : DialTarget) → WasDialled to other n.calls → length (bytes_pushed (since_dial other (n.calls ++ ys))) ≡ length (bytes_pushed (since_dial other n.calls)) + (if other == link then more else 0)
      grows other to was = elim (cases_eq other link) [
        | inl this ↦
            rw (eq-eqb other link this) (ap length (grown_by to other was) ∙ (length-append (bytes_pushed (since_dial other n.calls)) (bytes_pushed (all_on_link other ys)) ∙
            ap (λ (k : ℕ). length (bytes_pushed (since_dial other n.calls)) + k) (ap (λ (l : ℕ). length (bytes_pushed (all_on_link l ys))) this ∙ here)))
        | inr apart ↦ rw (ne_eqb other link apart) (ap length (same_by to other was (ap bytes_pushed (elsewhere other (λ e. apart (sym e))))) ∙ plus_none (length (bytes_pushed (since_dial other n.calls))))
      ]
        where
          plus_none : (k : ℕ) → k ≡ k + 0
          plus_none k = omega arith

      grown : (output : ℕ) → taken_over (links_of output (n.calls ++ ys)) (n.calls ++ ys) ≡ taken_over (links_of output n.calls) n.calls + (if r.output == output then more else 0)
      grown output =
          ap (λ (l : List ℕ). taken_over l (n.calls ++ ys)) (links_stay output)
          ∙ (over_grown link more (links_of output n.calls) n.calls (n.calls ++ ys) (λ other is. let was = in_given output other n.calls is in grows other was.0 was.2)
          ∙ ap (λ (k : ℕ). taken_over (links_of output n.calls) n.calls + k) (added_once 0 n.calls (dial_target n.history r) link output more counted.new given))

      pub counted_pushed : Counted (record { greatest = n.greatest; calls = n.calls ++ ys; history = OnRoute r outcome ∷ (Sent r.output more ∷ n.history) })
      counted_pushed = record { count = λ output. handed_so r output more n.history _ _ (counted.count output) (grown output); new = still_new; top = still_top }

  -- the flush on a new link takes some bytes
  module _ (r : Route) (link : ℕ) (known : (to : DialTarget) (other : ℕ) → WasDialled to other n.calls → link ≢ other) (outcome : Outcome) (more : ℕ) (new : AreNewLinks n.greatest ys) (top : greatest_after n.greatest ys ≡ link)
      (links : (output : ℕ) → links_of output ys ≡ (if r.output == output then link ∷ [] else [])) (here : length (bytes_pushed (since_dial link ys)) ≡ more)
      (elsewhere : (other : ℕ) → link ≢ other → all_on_link other ys ≡ []) where
    first_on : (output : ℕ) → taken_over (links_of output ys) (n.calls ++ ys) ≡ (if r.output == output then more else 0)
    first_on output = ap (λ (l : List ℕ). taken_over l (n.calls ++ ys)) (links output) ∙ by (r.output == output)
      where
        by : (b : Bool) → taken_over (if b then link ∷ [] else []) (n.calls ++ ys) ≡ (if b then more else 0)
        by true =
            let taken_now : length (bytes_pushed (since_dial link (n.calls ++ ys))) ≡ more = ap (λ (events : List Event). length (bytes_pushed events)) (own_new link n.calls ys (λ to was. known to link was refl)) ∙ here in
            omega (arith, taken_now)
        by false = refl

    others_same : (output : ℕ) → taken_over (links_of output n.calls) (n.calls ++ ys) ≡ taken_over (links_of output n.calls) n.calls
    others_same output =
        over_same (links_of output n.calls) n.calls (n.calls ++ ys)
        (λ other is. let was = in_given output other n.calls is in same_by was.0 other was.2 (ap bytes_pushed (elsewhere other (known was.0 other was.2))))

    all_now : (output : ℕ) → taken_over (links_of output (n.calls ++ ys)) (n.calls ++ ys) ≡ taken_over (links_of output n.calls) n.calls + (if r.output == output then more else 0)
    all_now output =
        ap (λ (l : List ℕ). taken_over l (n.calls ++ ys)) (links_append output n.calls ys)
        ∙ (over_append (links_of output n.calls) (links_of output ys) (n.calls ++ ys) ∙ rw (others_same output, first_on output) refl)

    pub counted_begun : Counted (record { greatest = link; calls = n.calls ++ ys; history = OnRoute r outcome ∷ (Sent r.output more ∷ n.history) })
    counted_begun = record {
      count = λ output. handed_so r output more n.history _ _ (counted.count output) (all_now output);
      new = new_append 0 n.calls ys counted.new (subst (λ (g : ℕ). AreNewLinks g ys) (sym counted.top) new);
      top = greatest_append 0 n.calls ys ∙ (ap (λ (g : ℕ). greatest_after g ys) counted.top ∙ top);
    }
