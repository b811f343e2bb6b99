-- Links that are open have a place in the links of a schedule.
use Rattle.std.proofs.Common.{◌≡◌, ◌≢◌, ◌⊎◌, inl, inr, ℕ, zero, suc, ◌+◌, ◌<◌, ◌==◌, Bool, true, false, if◌then◌else◌, List, [], ◌∷◌, ◌++◌, length, Option, Some, None, refl, sym, ap, ◌∙◌, subst, arith, append-nil, append_assoc, length-append}
use Rattle.std.specs.Prelude.{slice_get, slice_set}
use Rattle.std.proofs.lemmas.Bool.{eq-eqb, eqb-true}
use Rattle.fwd_outside.specs.Program.{entry}
use Rattle.fwd_outside.specs.Loop.{LoopCall, LoopAnswer, LoopEntry, Dial, Push, Close}
use Rattle.fwd_outside.specs.NewLinks.{AreNewLinks}
use Rattle.fwd_outside.proofs.RisingLinks.{new_first}
use Rattle.fwd_script_loop.specs.Place.{output_of, opened, closed}
use Rattle.fwd_record.specs.Links.{Links, AreRising, counted_on, number_of, links_by, links_in, no_links, output_at, with_link, without_link, links_after, links_behind}
use Rattle.fwd_record.proofs.AllowedCalls.{new_links_rise}
use Rattle.fwd_record.proofs.LinkNumbers.{number_among, next_number, closed_as_long}
use Rattle.fwd_theorem_delivery.specs.Links.{DialTarget, ReturnsLink, WasDialled, close_of, close_count}
use Rattle.fwd_theorem_delivery.specs.OpenLinks.{HasOpenLink, AreOnOpenLinks}

abbrev pub IsOpen : Links → ℕ → Type 0
IsOpen so_far link = (output : ℕ) × (output_at so_far link ≡ Some output)

-- a push has an open link
abbrev pub IsPlaced : Links → LoopCall → Type 0
IsPlaced so_far (Push link bytes) = IsOpen so_far link
IsPlaced so_far call = Unit {0}

abbrev pub ArePlaced : Links → List LoopEntry → Type 0
ArePlaced so_far [] = Unit {0}
ArePlaced so_far (e ∷ es) = IsPlaced so_far e.call × ArePlaced (links_after so_far e.call e.answer) es

abbrev pub IsLong : Links → Type 0
IsLong so_far = length so_far.outputs ≡ length so_far.links

-- ---- outputs by place

got_more : (outputs more : List (Option ℕ)) (i o : ℕ) → opened (slice_get outputs i) ≡ Some o → opened (slice_get (outputs ++ more) i) ≡ Some o
got_more [] more i o is = absurd (cc is)
got_more (x ∷ xs) more zero o is = is
got_more (x ∷ xs) more (suc i) o is = got_more xs more i o is

got_last : (outputs : List (Option ℕ)) (o : ℕ) → opened (slice_get (outputs ++ Some o ∷ []) (length outputs)) ≡ Some o
got_last [] o = refl
got_last (x ∷ xs) o = got_last xs o

got_besides : (outputs : List (Option ℕ)) (i j o : ℕ) → i ≢ j → opened (slice_get outputs j) ≡ Some o → opened (slice_get (slice_set outputs i None) j) ≡ Some o
got_besides [] i j o ne is = absurd (cc is)
got_besides (x ∷ xs) zero zero o ne is = absurd (ne refl)
got_besides (x ∷ xs) zero (suc j) o ne is = is
got_besides (x ∷ xs) (suc i) zero o ne is = is
got_besides (x ∷ xs) (suc i) (suc j) o ne is = got_besides xs i j o (λ e. ne (ap (λ (n : ℕ). suc n) e)) is

output_more : (outputs more : List (Option ℕ)) (n o : ℕ) → output_of outputs n ≡ Some o → output_of (outputs ++ more) n ≡ Some o
output_more outputs more zero o is = absurd (cc is)
output_more outputs more (suc n) o is = got_more outputs more n o is

-- ---- numbers tell links apart

counted_is : (m n : ℕ) → counted_on m ≡ suc n → (k : ℕ) × (m ≡ suc k) × (n ≡ suc k)
counted_is zero n is = absurd (omega (arith, is))
counted_is (suc k) n is = (k, refl, omega (arith, is))

same_number : (links : List ℕ) (a b n : ℕ) → number_of links a ≡ suc n → number_of links b ≡ suc n → a ≡ b
same_number [] a b n one other = absurd (omega (arith, one))
same_number (link ∷ links) a b n one other = by (link == a) (link == b) refl refl one other (λ k. same_number links a b k)
  where
    by : (p q : Bool) → (link == a) ≡ p → (link == b) ≡ q → (if p then 1 else counted_on (number_of links a)) ≡ suc n → (if q then 1 else counted_on (number_of links b)) ≡ suc n
        → ((k : ℕ) → number_of links a ≡ suc k → number_of links b ≡ suc k → a ≡ b) → a ≡ b
    by true true is is2 one other more = sym (eqb-true link a is) ∙ eqb-true link b is2
    by true false is is2 one other more = let c = counted_is (number_of links b) n other in absurd (omega (arith, one, c.2))
    by false true is is2 one other more = let c = counted_is (number_of links a) n one in absurd (omega (arith, other, c.2))
    by false false is is2 one other more =
        let c = counted_is (number_of links a) n one in
        let d = counted_is (number_of links b) n other in
        more c.0 c.1 (d.1 ∙ (sym d.2 ∙ c.2))

-- ---- what stays open

not_open : (so_far : Links) (link o : ℕ) → number_of so_far.links link ≡ 0 → output_at so_far link ≡ Some o → ⊥
not_open so_far link o none is = none_some (sym (ap (output_of so_far.outputs) none) ∙ is)
  where
    none_some : None ≡ Some o → ⊥
    none_some e = cc e

pub open_dialed : (so_far : Links) (output new link : ℕ) → IsOpen so_far link → IsOpen (with_link so_far output (Some new)) link
open_dialed so_far output new link (o, is) = (o, by (number_among so_far.links (new ∷ []) link))
  where
    by : (number_of (so_far.links ++ new ∷ []) link ≡ number_of so_far.links link) ⊎ ((number_of so_far.links link ≡ 0) × (length so_far.links < number_of (so_far.links ++ new ∷ []) link))
        → output_of (so_far.outputs ++ Some output ∷ []) (number_of (so_far.links ++ new ∷ []) link) ≡ Some o
    by (inl same) = ap (output_of (so_far.outputs ++ Some output ∷ [])) same ∙ output_more so_far.outputs (Some output ∷ []) (number_of so_far.links link) o is
    by (inr (none, above)) = absurd (not_open so_far link o none is)

pub open_closed : (so_far : Links) (shut link : ℕ) → shut ≢ link → IsOpen so_far link → IsOpen (without_link so_far shut) link
open_closed so_far shut link ne (o, is) = (o, by (number_of so_far.links shut) (number_of so_far.links link) refl refl is)
  where
    by : (m n : ℕ) → number_of so_far.links shut ≡ m → number_of so_far.links link ≡ n → output_of so_far.outputs n ≡ Some o → output_of (closed so_far.outputs m) n ≡ Some o
    by zero n first second is = is
    by (suc m) zero first second is = absurd (cc is)
    by (suc m) (suc n) first second is =
        got_besides so_far.outputs m n o (λ same. ne (same_number so_far.links shut link n (first ∙ ap (λ (k : ℕ). suc k) same) second)) is

abbrev once : Bool → ℕ
once b = if b then 1 else 0

closes_other : (shut link : ℕ) → close_of link (Close shut) ≡ 0 → shut ≢ link
closes_other shut link none same = by (shut == link) (eq-eqb shut link same) none
  where
    by : (b : Bool) → b ≡ true → once b ≡ 0 → ⊥
    by true is one = absurd (omega (arith, one))
    by false is one = absurd (cc is)

pub open_after : (so_far : Links) (call : LoopCall) (answer : LoopAnswer call) (link : ℕ) → close_of link call ≡ 0 → IsOpen so_far link → IsOpen (links_after so_far call answer) link
open_after so_far (Dial output tag) (Some new) link unclosed is = open_dialed so_far output new link is
open_after so_far (Dial output tag) None link unclosed is = is
open_after so_far (Close shut) answer link unclosed is = open_closed so_far shut link (closes_other shut link unclosed) is
open_after so_far call answer link unclosed is = is

open_behind : (so_far : Links) (es : List LoopEntry) (link : ℕ) → close_count link es ≡ 0 → IsOpen so_far link → IsOpen (links_behind so_far es) link
open_behind so_far [] link unclosed is = is
open_behind so_far (e ∷ es) link unclosed is =
    let both : close_of link e.call + close_count link es ≡ 0 = unclosed in
    open_behind (links_after so_far e.call e.answer) es link (omega (arith, both)) (open_after so_far e.call e.answer link (omega (arith, both)) is)

-- ---- a new link

rising_first : (least : ℕ) (links more : List ℕ) (link : ℕ) → AreRising least (links ++ link ∷ more) → AreRising least (links ++ link ∷ [])
rising_first least [] more link rising = (rising.0, tt)
rising_first least (other ∷ links) more link rising = (rising.0, rising_first other links more link rising.1)

pub open_new : (so_far : Links) (output link : ℕ) (more : List ℕ) → IsLong so_far → AreRising 0 (so_far.links ++ link ∷ more) → IsOpen (with_link so_far output (Some link)) link
open_new so_far output link more long rising =
    let number : number_of (so_far.links ++ link ∷ []) link ≡ length so_far.links + 1 = next_number 0 so_far.links [] link (rising_first 0 so_far.links more link rising) in
    let place : number_of (so_far.links ++ link ∷ []) link ≡ suc (length so_far.outputs) = omega (arith, number, long) in
    (output, ap (output_of (so_far.outputs ++ Some output ∷ [])) place ∙ got_last so_far.outputs output)

pub long_after : (so_far : Links) (call : LoopCall) (answer : LoopAnswer call) → IsLong so_far → IsLong (links_after so_far call answer)
long_after so_far (Dial output tag) (Some link) long =
    length-append so_far.outputs (Some output ∷ []) ∙ ap (λ (n : ℕ). n + 1) long ∙ sym (length-append so_far.links (link ∷ []))
long_after so_far (Dial output tag) None long = long
long_after so_far (Close link) answer long = closed_as_long so_far.outputs (number_of so_far.links link) ∙ long
long_after so_far call answer long = long

links_now : (so_far : Links) (call : LoopCall) (answer : LoopAnswer call) → (links_after so_far call answer).links ≡ so_far.links ++ links_by call answer
links_now so_far (Dial output tag) (Some link) = refl
links_now so_far (Dial output tag) None = sym (append-nil so_far.links)
links_now so_far call answer = sym (append-nil so_far.links)

-- the links so far, and those to come
pub rising_after : (so_far : Links) (e : LoopEntry) (es : List LoopEntry) → AreRising 0 (so_far.links ++ links_in (e ∷ es)) → AreRising 0 ((links_after so_far e.call e.answer).links ++ links_in es)
rising_after so_far e es rising =
    subst (AreRising 0) (sym (ap (λ (l : List ℕ). l ++ links_in es) (links_now so_far e.call e.answer) ∙ append_assoc so_far.links (links_by e.call e.answer) (links_in es))) rising

-- ---- a link that was dialed, and not closed

open_dialled : (so_far : Links) (es : List LoopEntry) (to : DialTarget) (link : ℕ) → IsLong so_far → AreRising 0 (so_far.links ++ links_in es) → WasDialled to link es → close_count link es ≡ 0 → IsOpen (links_behind so_far es) link
open_dialled so_far [] to link long rising dialed unclosed = absurd dialed
open_dialled so_far (e ∷ es) to link long rising dialed unclosed =
    by e.call e.answer rising dialed (open_dialled (links_after so_far e.call e.answer) es to link (long_after so_far e.call e.answer long) (rising_after so_far e es rising))
  where
    later : close_count link es ≡ 0
    later = let both : close_of link e.call + close_count link es ≡ 0 = unclosed in omega (arith, both)

    here : (call : LoopCall) (answer : LoopAnswer call) → AreRising 0 (so_far.links ++ links_in (entry call answer ∷ es)) → ReturnsLink to link call answer → IsOpen (links_after so_far call answer) link
    here (Dial output tag) (Some given) rising gives =
        subst (IsOpen (with_link so_far output (Some given))) gives.1 (open_new so_far output given (links_in es) long rising)
    here call answer rising gives = absurd gives

    by : (call : LoopCall) (answer : LoopAnswer call) → AreRising 0 (so_far.links ++ links_in (entry call answer ∷ es)) → ReturnsLink to link call answer ⊎ WasDialled to link es
        → (WasDialled to link es → close_count link es ≡ 0 → IsOpen (links_behind (links_after so_far call answer) es) link) → IsOpen (links_behind (links_after so_far call answer) es) link
    by call answer rising (inl gives) rest = open_behind (links_after so_far call answer) es link later (here call answer rising gives)
    by call answer rising (inr dialed) rest = rest dialed later

-- ---- pushes on open links

behind_one : (so_far : Links) (es : List LoopEntry) (e : LoopEntry) → links_behind so_far (es ++ e ∷ []) ≡ links_after (links_behind so_far es) e.call e.answer
behind_one so_far [] e = refl
behind_one so_far (x ∷ es) e = behind_one (links_after so_far x.call x.answer) es e

placed_call : (before : List LoopEntry) (call : LoopCall) → AreNewLinks 0 before → HasOpenLink before call → IsPlaced (links_behind no_links before) call
placed_call before (Push link bytes) new has = open_dialled no_links before has.dialed.0 link refl (new_links_rise 0 before new) has.dialed.1 has.unclosed
placed_call before call new has = tt

pub placed_since : (before es : List LoopEntry) → AreNewLinks 0 (before ++ es) → AreOnOpenLinks before es → ArePlaced (links_behind no_links before) es
placed_since before [] new on = tt
placed_since before (e ∷ es) new on = (
  placed_call before e.call (new_first 0 before (e ∷ es) new) on.0,
  subst (λ (l : Links). ArePlaced l es) (behind_one no_links before e) (placed_since (before ++ e ∷ []) es (subst (AreNewLinks 0) (sym (append_assoc before (e ∷ []) es)) new) on.1),
)

pub placed_first : (so_far : Links) (xs ys : List LoopEntry) → ArePlaced so_far (xs ++ ys) → ArePlaced so_far xs
placed_first so_far [] ys placed = tt
placed_first so_far (e ∷ xs) ys placed = (placed.0, placed_first (links_after so_far e.call e.answer) xs ys placed.1)
