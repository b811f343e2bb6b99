-- The numbers of the links of a run: they rise with the links, and keep them apart.
use Rattle.std.proofs.Common.{◌≡◌, ◌≢◌, inl, inr, ℕ, zero, suc, ◌+◌, ◌<◌, ◌==◌, Bool, false, if◌then◌else◌, List, [], ◌∷◌, Some, None, refl, sym, ap, ◌∙◌, subst, arith}
use Rattle.std.proofs.lemmas.Bool.{cases_Bool, cases_lt, eq-eqb, eqb-true, ne_eqb}
use Rattle.fwd_outside.specs.Program.{entry}
use Rattle.fwd_outside.specs.Loop.{LoopCall, LoopAnswer, LoopEntry, Start, Wait, Dial, Push, Close, Reply, DropConn, Word}
use Rattle.fwd_outside.specs.NewLinks.{greatest_by, AreNewLinks}
use Rattle.fwd_outside.specs.LoopAnswers.{IsOfBytes, BringsBytes, WaitsBringBytes}
use Rattle.fwd_outside.specs.declared.happening.Happening.{Happening}
use Rattle.fwd_outside.specs.declared.happening.Happening.TheVariants as happening
use Rattle.fwd_record.specs.Links.{AreRising, counted_on, links_in, number_of}
use Rattle.fwd_theorem_links.specs.DialedLinks.{IsAmong, KeepsApart, dialed_links}
use Rattle.fwd_theorem_links.specs.RenamedLinks.{renamed_event, renamed_loop_call, renamed_loop_answer}
use Rattle.fwd_theorem_recorded.proofs.LoopSimulation.{LinkIsDialed, LinksAreDialed, renamed_calls}

-- the links of a run are those that its dials gave
pub same_links : (es : List LoopEntry) → links_in es ≡ dialed_links es
same_links [] = refl
same_links (e ∷ es) = by e.call e.answer (same_links es)
  where
    by : (call : LoopCall) (answer : LoopAnswer call) → links_in es ≡ dialed_links es → links_in (entry call answer ∷ es) ≡ dialed_links (entry call answer ∷ es)
    by (Dial output tag) (Some link) same = ap (λ (l : List ℕ). link ∷ l) same
    by (Dial output tag) None same = same
    by (Start ends) answer same = same
    by (Wait until paused) answer same = same
    by (Push link bytes) answer same = same
    by (Close link) answer same = same
    by (Reply conn bytes) answer same = same
    by (DropConn conn) answer same = same
    by Word answer same = same

counted_positive : (n : ℕ) → 0 < n → 0 < counted_on n
counted_positive zero some = some
counted_positive (suc n) some = omega arith

counted_more : (m n : ℕ) → m < n → counted_on m < counted_on n
counted_more zero zero less = less
counted_more zero (suc n) less = omega arith
counted_more (suc m) zero less = omega (arith, less)
counted_more (suc m) (suc n) less = omega (arith, less)

pub number_positive : (all : List ℕ) (link : ℕ) → IsAmong all link → 0 < number_of all link
number_positive [] link among = absurd among
number_positive (other ∷ all) link among = elim (cases_Bool (other == link)) [
  | inl is ↦ rw is (omega arith)
  | inr differs ↦ rw differs (counted_positive (number_of all link) (number_positive all link (rest differs among)))
]
  where
    rest : (other == link) ≡ false → IsAmong (other ∷ all) link → IsAmong all link
    rest differs (inl is) = absurd (cc (sym (eq-eqb other link is) ∙ differs))
    rest differs (inr more) = more

numbered : (all : List ℕ) (link : ℕ) → 0 < number_of all link → IsAmong all link
numbered [] link some = absurd (omega (arith, some))
numbered (other ∷ all) link some = elim (cases_Bool (other == link)) [
  | inl is ↦ inl (eqb-true other link is)
  | inr differs ↦ inr (numbered all link (back (number_of all link) (subst (λ (b : Bool). 0 < (if b then 1 else counted_on (number_of all link))) differs some)))
]
  where
    back : (n : ℕ) → 0 < counted_on n → 0 < n
    back zero more = more
    back (suc n) more = omega arith

-- what is below all has no number
number_below : (least : ℕ) (all : List ℕ) (link : ℕ) → AreRising least all → link < least + 1 → number_of all link ≡ 0
number_below least [] link rising below = refl
number_below least (other ∷ all) link rising below =
    rw (ne_eqb other link (λ is. omega (arith, is, below, rising.0))) (ap counted_on (number_below other all link rising.1 (omega (arith, below, rising.0))))

among_above : (least : ℕ) (all : List ℕ) (link : ℕ) → AreRising least all → IsAmong all link → least < link
among_above least [] link rising among = absurd among
among_above least (other ∷ all) link rising (inl is) = omega (arith, is, rising.0)
among_above least (other ∷ all) link rising (inr more) = omega (arith, rising.0, among_above other all link rising.1 more)

-- a later link has a greater number than any before it
pub number_rises : (least : ℕ) (all : List ℕ) (a b : ℕ) → AreRising least all → IsAmong all b → a < b → number_of all a < number_of all b
number_rises least [] a b rising among less = absurd among
number_rises least (other ∷ all) a b rising (inl is) less =
    rw (eq-eqb other b is) (rw (ne_eqb other a (λ same. omega (arith, same, is, less))) (rw (number_below other all a rising.1 (omega (arith, is, less))) (omega arith)))
number_rises least (other ∷ all) a b rising (inr more) less =
    let above : other < b = among_above other all b rising.1 more in
    rw (ne_eqb other b (λ same. omega (arith, same, above))) (elim (cases_Bool (other == a)) [
      | inl is ↦ rw is (later (number_of all b) (number_positive all b more))
      | inr differs ↦ rw differs (counted_more (number_of all a) (number_of all b) (number_rises other all a b rising.1 more less))
    ])
  where
    later : (n : ℕ) → 0 < n → 1 < counted_on n
    later zero some = omega (arith, some)
    later (suc n) some = omega arith

module _ (all : List ℕ) (rising : AreRising 0 all) where
  abbrev Among : ℕ → Type 0
  Among = IsAmong all

  apart_less : (a b : ℕ) → Among a → a < b → number_of all a ≢ number_of all b
  apart_less a b among less same =
      let some : 0 < number_of all a = number_positive all a among in
      let more : number_of all a < number_of all b = number_rises 0 all a b rising (numbered all b (omega (arith, some, same))) less in
      omega (arith, same, more)

  apart_more : (a b : ℕ) → Among a → b < a → number_of all a ≢ number_of all b
  apart_more a b among less same = let more : number_of all b < number_of all a = number_rises 0 all b a rising among less in omega (arith, same, more)

  -- numbers keep links apart
  pub numbers_keep_apart : KeepsApart (number_of all) Among
  numbers_keep_apart a b among = elim (cases_lt a b) [
    | inl less ↦ ne_eqb (number_of all a) (number_of all b) (apart_less a b among less) ∙ sym (ne_eqb a b (λ is. omega (arith, is, less)))
    | inr least ↦ elim (cases_lt b a) [
      | inl more ↦ ne_eqb (number_of all a) (number_of all b) (apart_more a b among more) ∙ sym (ne_eqb a b (λ is. omega (arith, is, more)))
      | inr most ↦ same a b (omega (arith, least, most))
    ]
  ]
    where
      same : (x y : ℕ) → x ≡ y → (number_of all x == number_of all y) ≡ (x == y)
      same x y is = eq-eqb (number_of all x) (number_of all y) (ap (number_of all) is) ∙ sym (eq-eqb x y is)

  -- links that rise have numbers that rise
  new_by : (greatest : ℕ) (call : LoopCall) (answer : LoopAnswer call) (es : List LoopEntry) → LinkIsDialed (number_of all) Among call answer
      → AreNewLinks (number_of all (greatest_by greatest call answer)) (renamed_calls (number_of all) es)
      → AreNewLinks greatest (entry call answer ∷ es) → AreNewLinks (number_of all greatest) (renamed_calls (number_of all) (entry call answer ∷ es))
  new_by greatest (Dial output tag) (Some link) es dialed rest new = (number_rises 0 all greatest link rising dialed new.0, rest)
  new_by greatest (Dial output tag) None es dialed rest new = (tt, rest)
  new_by greatest (Start ends) answer es dialed rest new = (tt, rest)
  new_by greatest (Wait until paused) answer es dialed rest new = (tt, rest)
  new_by greatest (Push link bytes) answer es dialed rest new = (tt, rest)
  new_by greatest (Close link) answer es dialed rest new = (tt, rest)
  new_by greatest (Reply conn bytes) answer es dialed rest new = (tt, rest)
  new_by greatest (DropConn conn) answer es dialed rest new = (tt, rest)
  new_by greatest Word answer es dialed rest new = (tt, rest)

  new_from : (greatest : ℕ) (es : List LoopEntry) → LinksAreDialed (number_of all) Among es → AreNewLinks greatest es → AreNewLinks (number_of all greatest) (renamed_calls (number_of all) es)
  new_from greatest [] dialed new = tt
  new_from greatest (e ∷ es) dialed new = new_by greatest e.call e.answer es dialed.0 (new_from (greatest_by greatest e.call e.answer) es dialed.1 new.1) new

  pub numbers_are_new : (es : List LoopEntry) → LinksAreDialed (number_of all) Among es → AreNewLinks 0 es → AreNewLinks 0 (renamed_calls (number_of all) es)
  numbers_are_new es dialed new =
      subst (λ (n : ℕ). AreNewLinks n (renamed_calls (number_of all) es)) (number_below 0 all 0 rising (omega arith)) (new_from 0 es dialed new)

-- bytes stay bytes
module _ (rename : ℕ → ℕ) where
  event_of_bytes : (x : Happening) → IsOfBytes x → IsOfBytes (renamed_event rename x)
  event_of_bytes (happening.Tick now) is = tt
  event_of_bytes (happening.Joined input conn) is = tt
  event_of_bytes (happening.Piece input conn bytes) is = is
  event_of_bytes (happening.Gone input conn) is = tt
  event_of_bytes (happening.Room link) is = tt
  event_of_bytes (happening.Back link bytes) is = tt
  event_of_bytes (happening.Broken link) is = tt
  event_of_bytes (happening.InputEnd input) is = tt
  event_of_bytes happening.Stop is = tt
  event_of_bytes happening.End is = tt
  event_of_bytes happening.Failed is = tt

  brings : (call : LoopCall) (answer : LoopAnswer call) → BringsBytes call answer → BringsBytes (renamed_loop_call rename call) (renamed_loop_answer rename call answer)
  brings (Wait until paused) x is = event_of_bytes x is
  brings (Start ends) answer is = tt
  brings (Dial output tag) answer is = tt
  brings (Push link bytes) answer is = tt
  brings (Close link) answer is = tt
  brings (Reply conn bytes) answer is = tt
  brings (DropConn conn) answer is = tt
  brings Word answer is = tt

  pub bytes_renamed : (es : List LoopEntry) → WaitsBringBytes es → WaitsBringBytes (renamed_calls rename es)
  bytes_renamed [] are = tt
  bytes_renamed (e ∷ es) are = (brings e.call e.answer are.0, bytes_renamed es are.1)
