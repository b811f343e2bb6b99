-- Every call on a keyed loop, one after another, for a connection of a keyed input.
use Rattle.std.proofs.Common.{◌≡◌, ◌≢◌, inr, ⊎_elim, ℕ, zero, suc, Bool, true, false, ◌||◌, not, List, [], ◌∷◌, ◌++◌, Option, Some, None, refl, sym, ap, subst, ◌∙◌, append_assoc, append-nil}
use Rattle.std.specs.Prelude.{is_some, filter}
use Rattle.std.specs.Int.{IsBitSet}
use Rattle.std.proofs.lemmas.Bool.{cases_eq, ne_eqb}
use Rattle.fwd_base.specs.declared.ids.InputId.{InputId}
use Rattle.fwd_base.specs.declared.ids.ConnId.{ConnId}
use Rattle.fwd_base.specs.declared.ids.LinkId.{LinkId}
use Rattle.fwd_outside.specs.Program.{entry, Return}
use Rattle.fwd_outside.specs.Loop.{LoopCall, LoopAnswer, LoopEntry, MayOccur, Start, Wait, Dial, Push, Close, Reply, DropConn, Word}
use Rattle.fwd_outside.specs.declared.happening.Happening.{Happening}
use Rattle.fwd_outside.specs.declared.happening.Happening.TheVariants as happening
use Rattle.fwd_handshake.specs.declared.ring.Ring.{Ring}
use Rattle.fwd_secure.specs.declared.keys.Keys.{Keys}
use Rattle.fwd_secure.specs.declared.handshakes.LinkHandshake.{LinkHandshake}
use Rattle.fwd_secure.specs.declared.handshakes.KeptBytes.{KeptBytes}
use Rattle.fwd_secure.specs.declared.handshakes.KeptBytes.TheVariants.{OfConn, OfLink}
use Rattle.fwd_secure.specs.Keys.{ring_at}
use Rattle.fwd_secure.specs.Kept.{is_of_conn, is_of_link, event_of, first_given, without_first_given}
use Rattle.fwd_secure.specs.Handshakes.{Handshakes, no_handshakes, at, without_entry, listening, left, dropped, link_at, greeting, ungreeted, closed, without_given}
use Rattle.fwd_secure.specs.Inputs.{Brings}
use Rattle.fwd_secure.specs.Outputs.{greets}
use Rattle.fwd_secure.specs.Rules.{brings_joined, brings_piece, brings_back, brings, waits_by, dialed, begun, pushes_by, secures}
use Rattle.fwd_secure.specs.Carried.{Carries}
use Rattle.fwd_secure.specs.Allowed.{AllMayOccur}
use Rattle.fwd_theorem_keys.specs.Traffic.{piece_bytes, is_gone}
use Rattle.fwd_theorem_keys.specs.Streams.{Gives, BeganRightly}
use Rattle.fwd_theorem_keys.proofs.Maps.{at_without_same, at_without_was, at_without_none}
use Rattle.fwd_theorem_keys.proofs.Steps.{Always, always_map, always_if}
use Rattle.fwd_theorem_keys.proofs.Entries.{not_both, conn_same, at_conn}
use Rattle.fwd_theorem_keys.proofs.RisingLists.{AreRising}
use Rattle.fwd_theorem_keys.proofs.KeptOfConn.{is_kept, has_kept, bytes_in, kept_bytes, filter_bytes, filter_has, filter_none, kept_is_of, kept_is_other, kept_no_link, none_kept, first_has, first_own, first_other, without_has}
use Rattle.fwd_theorem_keys.proofs.StreamStatus.{is_given, Began, StatusOf, longer_began, longer_held, Next, tame_next, absent_status}
use Rattle.fwd_theorem_keys.proofs.LinkEvents.{FromLink, greets_quiet, pushes_silent, pushes_last}
use Rattle.fwd_secure.specs.Keys.{has_keys, has_ring}
use Rattle.fwd_secure.specs.Rules.{answers, answers_by}
use Rattle.fwd_outside.specs.Program.{Execution}
use Rattle.fwd_secure.proofs.Carrying.{carries_more}
use Rattle.fwd_theorem_keys.proofs.Steps.{always, Parts, parts}
use Rattle.fwd_theorem_keys.proofs.Entries.{occur_left, occur_right}
use Rattle.fwd_theorem_keys.proofs.RisingLists.{none_rising, step_rising, are_rising}
use Rattle.fwd_theorem_keys.proofs.StreamSteps.{none_some, IsTame, IsNext, Fine, tame_same, tame_self, quiet, same_event, joined_other, piece_other, gone_other}
use Rattle.fwd_theorem_keys.proofs.OwnSteps.{joins_own, hears_own, gone_own}

-- an input or an output with a ring
ring_there : (rings : List (Option Ring)) (n : ℕ) (ring : Ring) → ring_at rings n ≡ Some ring → has_ring rings ≡ true
ring_there [] n ring is = absurd (none_some ring is)
ring_there (None ∷ rings) zero ring is = absurd (none_some ring is)
ring_there (None ∷ rings) (suc n) ring is = ring_there rings n ring is
ring_there (Some first ∷ rings) n ring is = refl

pub input_keyed : (keys : Keys) (n : ℕ) (ring : Ring) → ring_at keys.inputs n ≡ Some ring → has_keys keys ≡ true
input_keyed keys n ring is = ap (λ (t : Bool). t || has_ring keys.outputs) (ring_there keys.inputs n ring is)

pub output_keyed : (keys : Keys) (n : ℕ) (ring : Ring) → ring_at keys.outputs n ≡ Some ring → has_keys keys ≡ true
output_keyed keys n ring is = by (has_ring keys.inputs)
  where
    by : (t : Bool) → (t || has_ring keys.outputs) ≡ true
    by true = refl
    by false = ring_there keys.outputs n ring is

module _ (keys : Keys) (ring : Ring) (input : InputId) (conn : ConnId) (Lawful : Type 0) (keyed : ring_at keys.inputs input.0 ≡ Some ring) where
  module _ (k : Handshakes) (b a : List LoopEntry) (rising : AreRising k) (old : StatusOf keys ring input conn Lawful k b a) (carries : Carries keys no_handshakes b a k) where
    -- ---- an event of the loop below

    module _ (until paused : ℕ) (none : first_given paused k.kept ≡ None) where
      abbrev Turns : Happening → Brings → Type 0
      Turns x p = Fine keys ring input conn Lawful k b a rising old until paused x p

      unkept : (Lawful → IsBitSet paused input.0 → ⊥) → Lawful → has_kept input conn k.kept ≡ false
      unkept may lawful = none_kept input conn paused k.kept none (may lawful)

      joined_by : (i : InputId) (c : ConnId) → (Lawful → MayOccur false paused (happening.Joined i c)) → Turns (happening.Joined i c) (brings_joined (ring_at keys.inputs i.0) k i c)
      joined_by i c =
          at_conn input conn (λ i c. (Lawful → MayOccur false paused (happening.Joined i c)) → Turns (happening.Joined i c) (brings_joined (ring_at keys.inputs i.0) k i c)) i c
          (λ may. subst (λ (o : Option Ring). Turns (happening.Joined input conn) (brings_joined o k input conn)) (sym keyed) (joins_own keys ring input conn Lawful k b a rising old carries until paused (unkept may)))
          (λ off may. joined_other keys ring input conn Lawful k b a rising old until paused i c off (ring_at keys.inputs i.0))

      piece_by : (i : InputId) (c : ConnId) (piece : List ℕ) → (Lawful → MayOccur false paused (happening.Piece i c piece)) → Turns (happening.Piece i c piece) (brings_piece (ring_at keys.inputs i.0) k i c piece)
      piece_by i c piece =
          at_conn input conn (λ i c. (Lawful → MayOccur false paused (happening.Piece i c piece)) → Turns (happening.Piece i c piece) (brings_piece (ring_at keys.inputs i.0) k i c piece)) i c
          (λ may. subst (λ (o : Option Ring). Turns (happening.Piece input conn piece) (brings_piece o k input conn piece)) (sym keyed) (hears_own keys ring input conn Lawful k b a rising old carries until paused (unkept (λ lawful. (may lawful).0)) piece))
          (λ off may. piece_other keys ring input conn Lawful k b a rising old until paused i c off piece (ring_at keys.inputs i.0))

      gone_by : (i : InputId) (c : ConnId) → (Lawful → MayOccur false paused (happening.Gone i c)) → Turns (happening.Gone i c) (Return (happening.Gone i c, left k i.0 c.0))
      gone_by i c =
          at_conn input conn (λ i c. (Lawful → MayOccur false paused (happening.Gone i c)) → Turns (happening.Gone i c) (Return (happening.Gone i c, left k i.0 c.0))) i c
          (λ may. gone_own keys ring input conn Lawful k b a rising old carries until paused (unkept may))
          (λ off may. gone_other keys ring input conn Lawful k b a rising old until paused i c off)

      back_by : (x : Happening) (link : LinkId) (bytes : List ℕ) (o : Option LinkHandshake) → piece_bytes input conn x ≡ [] → is_gone input conn x ≡ false → is_given input conn x ≡ false → Turns x (brings_back keys k link bytes x o)
      back_by x link bytes (Some handshake) silent lasts ungiven =
          always_map (FromLink input conn (ungreeted k link.0)) (λ own r. IsNext keys ring input conn Lawful k b a rising old r.1 (entry (Wait until paused) x ∷ own) (Wait until paused) r.0)
          (greets (ring_at keys.outputs handshake.output.0) (ungreeted k link.0) link handshake bytes)
          (λ own r from.
          quiet keys ring input conn Lawful k b a rising old until paused x r.0 own r.1 (tame_same keys ring input conn Lawful k b a rising old r.1 from.held from.joined from.has from.bytes) silent lasts
          (pushes_silent input conn own from.pushes) (pushes_last input conn own from.pushes) from.event)
          (greets_quiet input conn (ring_at keys.outputs handshake.output.0) (ungreeted k link.0) link handshake bytes)
      back_by x link bytes None silent lasts ungiven = same_event keys ring input conn Lawful k b a rising old until paused x silent lasts ungiven

      brings_step : (x : Happening) → (Lawful → MayOccur false paused x) → Turns x (brings keys k x)
      brings_step (happening.Tick now) may = same_event keys ring input conn Lawful k b a rising old until paused (happening.Tick now) refl refl refl
      brings_step (happening.Joined i c) may = joined_by i c may
      brings_step (happening.Piece i c piece) may = piece_by i c piece may
      brings_step (happening.Gone i c) may = gone_by i c may
      brings_step (happening.Room link) may = back_by (happening.Room link) link [] (link_at k link.0) refl refl refl
      brings_step (happening.Back link bytes) may = back_by (happening.Back link bytes) link bytes (link_at k link.0) refl refl refl
      brings_step (happening.Broken link) may = same_event keys ring input conn Lawful k b a rising old until paused (happening.Broken link) refl refl refl
      brings_step (happening.InputEnd i) may = same_event keys ring input conn Lawful k b a rising old until paused (happening.InputEnd i) refl refl refl
      brings_step happening.Stop may = same_event keys ring input conn Lawful k b a rising old until paused happening.Stop refl refl refl
      brings_step happening.End may = same_event keys ring input conn Lawful k b a rising old until paused happening.End refl refl refl
      brings_step happening.Failed may = same_event keys ring input conn Lawful k b a rising old until paused happening.Failed refl refl refl

    -- ---- kept bytes

    module _ (until paused : ℕ) where
      abbrev AfterKept : KeptBytes → Type 0
      AfterKept x = IsNext keys ring input conn Lawful k b a rising old (without_given k paused) [] (Wait until paused) (event_of x)

      tame_given : (x : KeptBytes) → first_given paused k.kept ≡ Some x → is_kept input conn x ≡ false → IsTame keys ring input conn Lawful k b a rising old (without_given k paused)
      tame_given x is off = tame_same keys ring input conn Lawful k b a rising old (without_given k paused) refl refl (without_has input conn paused k.kept) (first_other input conn paused k.kept x is off)

      kept_conn : (i : InputId) (c : ConnId) (bytes : List ℕ) → first_given paused k.kept ≡ Some (OfConn i c bytes) → AfterKept (OfConn i c bytes)
      kept_conn i c bytes =
          at_conn input conn (λ i c. first_given paused k.kept ≡ Some (OfConn i c bytes) → AfterKept (OfConn i c bytes)) i c own
          (λ off is. tame_next keys ring input conn Lawful k (without_given k paused) [] b a (Wait until paused) (happening.Piece i c bytes) old (tame_given (OfConn i c bytes) is off) refl refl off refl)
        where
          own : first_given paused k.kept ≡ Some (OfConn input conn bytes) → AfterKept (OfConn input conn bytes)
          own is =
              let has : has_kept input conn k.kept ≡ true = first_has input conn paused k.kept (OfConn input conn bytes) is (conn_same input conn) in
              let split : kept_bytes input conn k.kept ≡ bytes_in input conn (OfConn input conn bytes) ++ kept_bytes input conn (without_first_given paused k.kept) = first_own input conn paused k.kept (OfConn input conn bytes) is (conn_same input conn) in
              let began : Lawful → Began keys ring input conn Lawful (kept_bytes input conn (without_first_given paused k.kept)) (b ++ []) (a ++ entry (Wait until paused) (happening.Piece input conn bytes) ∷ []) = λ lawful.
              longer_began keys ring input conn Lawful [] (Wait until paused) (happening.Piece input conn bytes) refl refl b a (kept_bytes input conn k.kept) (kept_bytes input conn (without_first_given paused k.kept))
              (sym (append-nil (kept_bytes input conn k.kept) ∙ split)) (old.there lawful (inr has)) in
              record {
                status = record {
                  held = λ h is_h of.
                      longer_held keys ring input conn Lawful [] (Wait until paused) (happening.Piece input conn bytes) refl refl b a refl (λ lawful. absurd (not_both (has_kept input conn k.kept) has (old.free lawful h is_h of))) h (old.held h is_h of);
                  free = λ lawful h is_h of. absurd (not_both (has_kept input conn k.kept) has (old.free lawful h is_h of));
                  alone = old.alone;
                  there = λ lawful some. began lawful;
                };
                gives = λ lawful gives. (began lawful).began;
              }

      kept_step : (x : KeptBytes) → first_given paused k.kept ≡ Some x → AfterKept x
      kept_step (OfConn i c bytes) is = kept_conn i c bytes is
      kept_step (OfLink link bytes) is = tame_next keys ring input conn Lawful k (without_given k paused) [] b a (Wait until paused) (happening.Back link bytes) old (tame_given (OfLink link bytes) is refl) refl refl refl refl

    -- ---- each call

    abbrev Step : (call : LoopCall) → List LoopEntry → LoopAnswer call × Handshakes → Type 0
    Step call own r = (Lawful → AllMayOccur own) → IsNext keys ring input conn Lawful k b a rising old r.1 own call r.0

    waits_step : (until paused : ℕ) (o : Option KeptBytes) → first_given paused k.kept ≡ o → Always (Step (Wait until paused)) (waits_by keys k until paused o)
    waits_step until paused (Some x) is = λ all. kept_step until paused x is
    waits_step until paused None is = λ x.
        always_map (λ own r. (Lawful → MayOccur false paused x) → IsNext keys ring input conn Lawful k b a rising old r.1 (entry (Wait until paused) x ∷ own) (Wait until paused) r.0) (λ own r. Step (Wait until paused) (entry (Wait until paused) x ∷ own) r)
        (brings keys k x) (λ own r step all. step (λ lawful. (all lawful).0))
        (always_if (λ own r. IsNext keys ring input conn Lawful k b a rising old r.1 (entry (Wait until paused) x ∷ own) (Wait until paused) r.0) (brings keys k x) (λ may. brings_step until paused is x may))

    dials_step : (output : ℕ) (tag : List ℕ) (o : Option Ring) (answer : Option ℕ) → Always (λ own r. Step (Dial output tag) (entry (Dial output tag) answer ∷ own) r) (dialed o k output answer)
    dials_step output tag (Some other) (Some link) = λ x y all.
        tame_next keys ring input conn Lawful k (greeting k link (begun output (record { first = x; second = y }))) _ b a (Dial output tag) (Some link) old
        (tame_same keys ring input conn Lawful k b a rising old (greeting k link (begun output (record { first = x; second = y }))) refl refl (λ is. is) refl) refl refl refl refl
    dials_step output tag (Some other) None = λ all. tame_next keys ring input conn Lawful k k _ b a (Dial output tag) None old (tame_self keys ring input conn Lawful k b a rising old) refl refl refl refl
    dials_step output tag None answer = λ all. tame_next keys ring input conn Lawful k k _ b a (Dial output tag) answer old (tame_self keys ring input conn Lawful k b a rising old) refl refl refl refl

    pushes_step : (link : ℕ) (bytes : List ℕ) (t : Bool) → Always (Step (Push link bytes)) (pushes_by k link bytes t)
    pushes_step link bytes true = λ all. tame_next keys ring input conn Lawful k k [] b a (Push link bytes) _ old (tame_self keys ring input conn Lawful k b a rising old) refl refl refl refl
    pushes_step link bytes false = λ answer all. tame_next keys ring input conn Lawful k k (entry (Push link bytes) answer ∷ []) b a (Push link bytes) answer old (tame_self keys ring input conn Lawful k b a rising old) refl refl refl refl

    drops_step : (c : ℕ) (answer : Unit {0}) → IsNext keys ring input conn Lawful k b a rising old (dropped k c) (entry (DropConn c) answer ∷ []) (DropConn c) answer
    drops_step c answer = ⊎_elim own other (cases_eq conn.0 c)
      where
        own : conn.0 ≡ c → IsNext keys ring input conn Lawful k b a rising old (dropped k c) (entry (DropConn c) answer ∷ []) (DropConn c) answer
        own same = record {
          status = subst (λ (n : ℕ). StatusOf keys ring input conn Lawful (dropped k n) (b ++ entry (DropConn c) answer ∷ []) (a ++ entry (DropConn c) answer ∷ [])) same
              (absent_status keys ring input conn Lawful (at conn.0 (without_entry conn.0 k.held)) (at conn.0 (without_entry conn.0 k.joined)) (filter (λ bytes. not (is_of_conn conn.0 bytes)) k.kept)
              (b ++ entry (DropConn c) answer ∷ []) (a ++ entry (DropConn c) answer ∷ [])
              (λ h is of. none_some h (sym (at_without_same conn.0 k.held rising.held) ∙ is)) (λ is. none_some input.0 (sym (at_without_same conn.0 k.joined rising.joined) ∙ is))
              (λ lawful. filter_none input conn (λ bytes. not (is_of_conn conn.0 bytes)) (kept_is_of input conn) k.kept));
          gives = λ lawful gives. absurd gives;
        }

        other : conn.0 ≢ c → IsNext keys ring input conn Lawful k b a rising old (dropped k c) (entry (DropConn c) answer ∷ []) (DropConn c) answer
        other ne =
            tame_next keys ring input conn Lawful k (dropped k c) (entry (DropConn c) answer ∷ []) b a (DropConn c) answer old (record {
              held = λ h is of. at_without_was conn.0 c k.held h rising.held is;
              joined = λ is. at_without_was conn.0 c k.joined input.0 rising.joined is;
              alone = λ is. at_without_none conn.0 c k.held rising.held (old.alone (at_without_was conn.0 c k.joined input.0 rising.joined is));
              has = filter_has input conn (λ bytes. not (is_of_conn c bytes)) k.kept;
              bytes = filter_bytes input conn (λ bytes. not (is_of_conn c bytes)) (kept_is_other input conn c ne) k.kept;
            }) refl refl refl (ne_eqb c conn.0 (λ is. ne (sym is)))

    secures_step : (call : LoopCall) → Always (Step call) (secures keys k call)
    secures_step (Start ends) = λ answer all.
        tame_next keys ring input conn Lawful k (listening k ends) (entry (Start ends) answer ∷ []) b a (Start ends) answer old (tame_same keys ring input conn Lawful k b a rising old (listening k ends) refl refl (λ is. is) refl) refl refl refl refl
    secures_step (Wait until paused) = waits_step until paused (first_given paused k.kept) refl
    secures_step (Dial output tag) = λ answer. dials_step output tag (ring_at keys.outputs output) answer
    secures_step (Push link bytes) = pushes_step link bytes (is_some (link_at k link))
    secures_step (Close link) = λ answer all.
        tame_next keys ring input conn Lawful k (closed k link) (entry (Close link) answer ∷ []) b a (Close link) answer old
        (tame_same keys ring input conn Lawful k b a rising old (closed k link) refl refl (filter_has input conn (λ bytes. not (is_of_link link bytes)) k.kept)
        (filter_bytes input conn (λ bytes. not (is_of_link link bytes)) (kept_no_link input conn link) k.kept)) refl refl refl refl
    secures_step (Reply c bytes) = λ answer all. tame_next keys ring input conn Lawful k k (entry (Reply c bytes) answer ∷ []) b a (Reply c bytes) answer old (tame_self keys ring input conn Lawful k b a rising old) refl refl refl refl
    secures_step (DropConn c) = λ answer all. drops_step c answer
    secures_step Word = λ answer all. tame_next keys ring input conn Lawful k k (entry Word answer ∷ []) b a Word answer old (tame_self keys ring input conn Lawful k b a rising old) refl refl refl refl

    pub stream_step : (call : LoopCall) (answer : LoopAnswer call) (own : List LoopEntry) (v : Handshakes) → (Lawful → AllMayOccur own) → Execution (answers keys k call) own (Return (answer, v))
        → Next keys ring input conn Lawful b a v own call answer
    stream_step call answer own v all way =
        always (Step call) (secures keys k call) own (answer, v) (secures_step call)
        (subst (λ (t : Bool). Execution (answers_by t keys k call) own (Return (answer, v))) (input_keyed keys input.0 ring keyed) way) all

  -- ---- one call after another

  pub first_status : StatusOf keys ring input conn Lawful no_handshakes [] []
  first_status = absent_status keys ring input conn Lawful None None [] [] [] (λ h is of. none_some h is) (λ is. none_some input.0 is) (λ lawful. refl)

  pub later_status : (above below b a : List LoopEntry) (k t : Handshakes) → AreRising k → StatusOf keys ring input conn Lawful k b a → Carries keys no_handshakes b a k → (Lawful → AllMayOccur below) → Carries keys k below above t
      → StatusOf keys ring input conn Lawful t (b ++ below) (a ++ above)
  later_status [] below b a k t rising old carries all (none, same) =
      let ends : StatusOf keys ring input conn Lawful t b a = subst (λ (s : Handshakes). StatusOf keys ring input conn Lawful s b a) (sym same) old in
      let at_below : StatusOf keys ring input conn Lawful t (b ++ below) a = subst (λ (l : List LoopEntry). StatusOf keys ring input conn Lawful t l a) (sym (ap (λ (l : List LoopEntry). b ++ l) none ∙ append-nil b)) ends in
      subst (λ (l : List LoopEntry). StatusOf keys ring input conn Lawful t (b ++ below) l) (sym (append-nil a)) at_below
  later_status (e ∷ above) below b a k t rising old carries all (own, rest, u, is, way, more) =
      let parts_occur : Lawful → AllMayOccur (own ++ rest) = λ lawful. subst AllMayOccur is (all lawful) in
      let next : Next keys ring input conn Lawful b a u own e.call e.answer = stream_step k b a rising old carries e.call e.answer own u (λ lawful. occur_left own rest (parts_occur lawful)) way in
      let ends : StatusOf keys ring input conn Lawful t ((b ++ own) ++ rest) ((a ++ e ∷ []) ++ above) =
      later_status above rest (b ++ own) (a ++ e ∷ []) u t (step_rising keys k rising e.call e.answer own u way) next.status (carries_more keys no_handshakes k u b own a e.call e.answer carries way) (λ lawful. occur_right own rest (parts_occur lawful)) more in
      let at_below : StatusOf keys ring input conn Lawful t (b ++ below) ((a ++ e ∷ []) ++ above) =
      subst (λ (l : List LoopEntry). StatusOf keys ring input conn Lawful t l ((a ++ e ∷ []) ++ above)) (append_assoc b own rest ∙ ap (λ (l : List LoopEntry). b ++ l) (sym is)) ends in
      subst (λ (l : List LoopEntry). StatusOf keys ring input conn Lawful t (b ++ below) l) (append_assoc a (e ∷ []) above) at_below

  pub status_of : (below above : List LoopEntry) (t : Handshakes) → (Lawful → AllMayOccur below) → Carries keys no_handshakes below above t → StatusOf keys ring input conn Lawful t below above
  status_of below above t all carries = later_status above below [] [] no_handshakes t none_rising first_status (refl, refl) all carries

module _ (keys : Keys) (ring : Ring) (input : InputId) (conn : ConnId) (keyed : ring_at keys.inputs input.0 ≡ Some ring) where
  pub begins_rightly : (below above : List LoopEntry) (until paused : ℕ) (x : Happening) (k : Handshakes) → Carries keys no_handshakes below (above ++ entry (Wait until paused) x ∷ []) k → AllMayOccur below → Gives input conn x
      → BeganRightly keys ring input conn below (above ++ entry (Wait until paused) x ∷ [])
  begins_rightly below above until paused x k carries all gives = by p.second
    where
      p : Parts keys no_handshakes below above (entry (Wait until paused) x ∷ []) k
      p = parts keys no_handshakes below above (entry (Wait until paused) x ∷ []) k carries

      by : Carries keys p.at p.below_two (entry (Wait until paused) x ∷ []) k → BeganRightly keys ring input conn below (above ++ entry (Wait until paused) x ∷ [])
      by (own, rest, u, is, way, ends) =
          let own_is : p.below_two ≡ own = is ∙ ap (λ (l : List LoopEntry). own ++ l) ends.0 ∙ append-nil own in
          let whole : below ≡ p.below_one ++ own = p.below_is ∙ ap (λ (l : List LoopEntry). p.below_one ++ l) own_is in
          let occur : AllMayOccur (p.below_one ++ own) = subst AllMayOccur whole all in
          let status : StatusOf keys ring input conn (Unit {0}) p.at p.below_one above = status_of keys ring input conn (Unit {0}) keyed p.below_one above p.at (λ lawful. occur_left p.below_one own occur) p.first in
          let next : Next keys ring input conn (Unit {0}) p.below_one above u own (Wait until paused) x =
          stream_step keys ring input conn (Unit {0}) keyed p.at p.below_one above (are_rising keys no_handshakes p.at p.below_one above none_rising p.first) status p.first (Wait until paused) x own u
          (λ lawful. occur_right p.below_one own occur) way in
          subst (λ (l : List LoopEntry). BeganRightly keys ring input conn l (above ++ entry (Wait until paused) x ∷ [])) (sym whole) (next.gives tt gives)
