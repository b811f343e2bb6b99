-- What the calls since the dial say of a link of a keyed output, by its handshake.
use Rattle.std.proofs.Common.{◌≡◌, ◌≢◌, ℕ, zero, suc, ◌≤◌, Bool, true, false, if◌then◌else◌, List, [], ◌∷◌, ◌++◌, take, drop, length, Option, Some, None, refl, sym, ap, subst, ◌∙◌, append_assoc, append-nil, arith, length-drop, ◌⊎◌, inr}
use Rattle.std.specs.Prelude.{◌==◌}
use Rattle.std.proofs.lemmas.Bool.{eqb-true, eqb-false, eq-eqb}
use Rattle.std.proofs.lemmas.List.{take-append-drop, drop-append-le}
use Rattle.fwd_base.specs.declared.ids.LinkId.{LinkId}
use Rattle.fwd_outside.specs.Program.{entry, Return}
use Rattle.fwd_outside.specs.Loop.{LoopEntry, Wait, Push, PushAnswer, Took, Again, Broke}
use Rattle.fwd_outside.specs.declared.happening.Happening.{Happening}
use Rattle.fwd_outside.specs.declared.happening.Happening.TheVariants as happening
use Rattle.fwd_handshake.specs.declared.ring.Ring.{Ring}
use Rattle.fwd_handshake.specs.declared.received.Received.{Received}
use Rattle.fwd_handshake.specs.declared.received.Received.TheVariants as verdict
use Rattle.fwd_handshake.specs.Judgement.{helo_received, pong_received}
use Rattle.fwd_handshake.specs.Members.{nonce_of}
use Rattle.fwd_handshake.specs.Messages.{ping}
use Rattle.fwd_secure.specs.declared.keys.Keys.{Keys}
use Rattle.fwd_secure.specs.declared.handshakes.RandomBytes.{RandomBytes}
use Rattle.fwd_secure.specs.declared.handshakes.LinkHandshake.{LinkHandshake}
use Rattle.fwd_secure.specs.declared.handshakes.Step.{Step}
use Rattle.fwd_secure.specs.declared.handshakes.Step.TheVariants.{AwaitsHelo, SendsPing, AwaitsPong}
use Rattle.fwd_secure.specs.declared.outputs.Pushing.{Pushing}
use Rattle.fwd_secure.specs.declared.outputs.Pushing.TheVariants.{Sent, Waits, Fails}
use Rattle.fwd_secure.specs.Keys.{ring_at}
use Rattle.fwd_secure.specs.RandomBytes.{random_bytes}
use Rattle.fwd_secure.specs.Handshakes.{Handshakes, at, link_at, ungreeted, counting_wrong}
use Rattle.fwd_secure.specs.Outputs.{pushed_on, pushes, sends, stands, keeping_back, ends_by, awaits_pong, pinged, sends_ping, with_nonce, begins_by, greets_by, greets}
use Rattle.fwd_theorem_keys.specs.Traffic.{taken_of, taken_in, taken_on, back_on}
use Rattle.fwd_theorem_keys.specs.Links.{IsNotRight}
use Rattle.fwd_theorem_keys.proofs.Maps.{at_with_same, at_without_same, Rising}
use Rattle.fwd_theorem_keys.proofs.Steps.{Always, always_map, always_bind}
use Rattle.fwd_theorem_keys.proofs.Judging.{right_within, right_longer}

pub more_not_right : (r : Received) → r ≡ verdict.More → IsNotRight r
more_not_right r is len content right = absurd (clash (sym is ∙ right))
  where
    clash : verdict.More ≡ verdict.Right len content → ⊥
    clash e = cc

pub wrong_not_right : (r : Received) → r ≡ verdict.Wrong → IsNotRight r
wrong_not_right r is len content right = absurd (clash (sym is ∙ right))
  where
    clash : verdict.Wrong ≡ verdict.Right len content → ⊥
    clash e = cc

-- ---- pushes of a message

abbrev pub EndsBy : Pushing → List ℕ → Type 0
EndsBy Sent rest = rest ≡ []
EndsBy Waits rest = rest ≢ []
EndsBy Fails rest = rest ≢ []

cons_nil : (x : ℕ) (xs : List ℕ) → (x ∷ xs) ≢ []
cons_nil x xs is = cc is

module _ (link : ℕ) where
  -- these calls pushed what was left, and took all but what is left now
  pub record Sends (rest : List ℕ) (own : List LoopEntry) (x : Pushing × List ℕ) : Type 0 where
    pub back : back_on link own ≡ []
    pub taken : taken_on link own ++ x.1 ≡ rest
    pub ends : EndsBy x.0 x.1

  pub taken_own : (bytes : List ℕ) (answer : PushAnswer) → taken_in link (Push link bytes) answer ≡ taken_of answer bytes
  taken_own bytes answer = ap (λ (t : Bool). if t then taken_of answer bytes else []) (eq-eqb link link refl)

  first_taken : (bytes : List ℕ) (answer : PushAnswer) (own : List LoopEntry) → taken_on link (entry (Push link bytes) answer ∷ own) ≡ taken_of answer bytes ++ taken_on link own
  first_taken bytes answer own = ap (λ (l : List ℕ). l ++ taken_on link own) (taken_own bytes answer)

  pub sends_send : (most : ℕ) (rest : List ℕ) → length rest ≤ most → Always (Sends rest) (pushes most link rest)
  sends_send zero [] le = record { back = refl; taken = refl; ends = refl }
  sends_send zero (x ∷ rest) le = absurd (omega (arith, le))
  sends_send (suc most) [] le = record { back = refl; taken = refl; ends = refl }
  sends_send (suc most) (byte ∷ rest) le = λ answer. by (sends_send most) answer
    where
      stopped : (answer : PushAnswer) (pushing : Pushing) → taken_of answer (byte ∷ rest) ≡ [] → EndsBy pushing (byte ∷ rest) → Sends (byte ∷ rest) (entry (Push link (byte ∷ rest)) answer ∷ []) (pushing, byte ∷ rest)
      stopped answer pushing none ends = record {
        back = refl;
        taken = ap (λ (l : List ℕ). l ++ (byte ∷ rest)) (first_taken (byte ∷ rest) answer [] ∙ append-nil (taken_of answer (byte ∷ rest)) ∙ none);
        ends = ends;
      }

      go_on : ((left : List ℕ) → length left ≤ most → Always (Sends left) (pushes most link left)) → (n : ℕ) (t : Bool) → (n == 0) ≡ t → Always (λ own x. Sends (byte ∷ rest) (entry (Push link (byte ∷ rest)) (Took n) ∷ own) x) (if t then Return (Fails, byte ∷ rest) else pushes most link (drop n (byte ∷ rest)))
      go_on later n true is = stopped (Took n) Fails (ap (λ (m : ℕ). take m (byte ∷ rest)) (eqb-true n 0 is)) (cons_nil byte rest)
      go_on later n false is =
          always_map (Sends (drop n (byte ∷ rest))) (λ own x. Sends (byte ∷ rest) (entry (Push link (byte ∷ rest)) (Took n) ∷ own) x) (pushes most link (drop n (byte ∷ rest)))
          (λ own x sent. record {
            back = sent.back;
            taken =
                ap (λ (l : List ℕ). l ++ x.1) (first_taken (byte ∷ rest) (Took n) own) ∙ append_assoc (take n (byte ∷ rest)) (taken_on link own) x.1
                ∙ ap (λ (l : List ℕ). take n (byte ∷ rest) ++ l) sent.taken ∙ take-append-drop n (byte ∷ rest);
            ends = sent.ends;
          })
          (later (drop n (byte ∷ rest)) (shorter (eqb-false n 0 is)))
        where
          shorter : n ≢ 0 → length (drop n (byte ∷ rest)) ≤ most
          shorter ne = omega (arith, length-drop n (byte ∷ rest), le, ne)

      by : ((left : List ℕ) → length left ≤ most → Always (Sends left) (pushes most link left)) → (answer : PushAnswer) → Always (λ own x. Sends (byte ∷ rest) (entry (Push link (byte ∷ rest)) answer ∷ own) x) (pushed_on (pushes most link) (byte ∷ rest) answer)
      by later (Took n) = go_on later n (n == 0) refl
      by later Again = stopped Again Waits refl (cons_nil byte rest)
      by later Broke = stopped Broke Fails refl (cons_nil byte rest)

module _ (ring : Ring) (output : ℕ) (l : LinkId) (salt : RandomBytes) where
  -- `back` came back over the link, and it took `taken`
  pub record HeloStep (h : LinkHandshake) (back taken : List ℕ) : Type 0 where
    pub received : h.received ≡ back
    pub taken_none : taken ≡ []
    pub not_right : IsNotRight (helo_received back)

  pub record PingStep (h : LinkHandshake) (rest back taken : List ℕ) : Type 0 where
    pub len : ℕ
    pub helo : helo_received back ≡ verdict.Right len h.nonce
    pub received : h.received ≡ drop len back
    pub taken_front : taken ++ rest ≡ ping ring (random_bytes salt) h.nonce

  pub record PongStep (h : LinkHandshake) (back taken : List ℕ) : Type 0 where
    pub len : ℕ
    pub helo : helo_received back ≡ verdict.Right len h.nonce
    pub received : h.received ≡ drop len back
    pub taken_all : taken ≡ ping ring (random_bytes salt) h.nonce

  abbrev pub StepIs : Step → LinkHandshake → (back taken : List ℕ) → Type 0
  StepIs AwaitsHelo h back taken = HeloStep h back taken
  StepIs (SendsPing rest) h back taken = PingStep h rest back taken × (rest ≢ [])
  StepIs AwaitsPong h back taken = PongStep h back taken × IsNotRight (pong_received ring (random_bytes salt) h.nonce h.received)

  pub record UnderWay (h : LinkHandshake) (back taken given : List ℕ) : Type 0 where
    pub of : h.output.0 ≡ output
    pub salted : h.salt ≡ salt
    pub unused : given ≡ []
    pub step : StepIs h.step h back taken

  -- the last call of the engine gave it room on the link
  abbrev pub JustNow : List LoopEntry → Type 0
  JustNow above = (until paused : ℕ) × (early : List LoopEntry) × (above ≡ early ++ entry (Wait until paused) (happening.Room l) ∷ [])

  pub record Done (back taken given : List ℕ) (Room : Type 0) : Type 0 where
    pub len : ℕ
    pub nonce : List ℕ
    pub size : ℕ
    pub host : List ℕ
    pub helo : helo_received back ≡ verdict.Right len nonce
    pub pong : pong_received ring (random_bytes salt) nonce (drop len back) ≡ verdict.Right size host
    pub taken_all : taken ≡ ping ring (random_bytes salt) nonce ++ given
    pub room : Room

  abbrev pub LinkIs : Option LinkHandshake → (back taken given : List ℕ) → Type 0 → Type 0
  LinkIs (Some h) back taken given Room = UnderWay h back taken given
  LinkIs None back taken given Room = Done back taken given Room

  pub at_bytes : (o : Option LinkHandshake) (back new_back taken new_taken given new_given : List ℕ) (Room : Type 0) → new_back ≡ back → new_taken ≡ taken → new_given ≡ given
      → LinkIs o back taken given Room → LinkIs o new_back new_taken new_given Room
  at_bytes o back new_back taken new_taken given new_given Room is_back is_taken is_given is =
      subst (λ (s : List ℕ). LinkIs o s new_taken new_given Room) (sym is_back)
      (subst (λ (s : List ℕ). LinkIs o back s new_given Room) (sym is_taken)
      (subst (λ (s : List ℕ). LinkIs o back taken s Room) (sym is_given) is))

  -- ---- an event of the link, whose handshake is under way

  module _ (Earlier : Type 0) (k : Handshakes) (rising : Rising k.links) (until paused : ℕ) (above : List LoopEntry) (back taken given : List ℕ) (unused : given ≡ []) where
    abbrev u : Handshakes
    u = ungreeted k l.0

    abbrev After : List LoopEntry → Happening × Handshakes → Type 0
    After own r = LinkIs (link_at r.1 l.0) (back ++ back_on l.0 own) (taken ++ taken_on l.0 own) given (Earlier ⊎ JustNow (above ++ entry (Wait until paused) r.0 ∷ []))

    -- at the end of the calls
    after_nil : (own : List LoopEntry) (r : Happening × Handshakes) → After own r → After (own ++ []) r
    after_nil own r is = subst (λ (calls : List LoopEntry). After calls r) (sym (append-nil own)) is

    standing : (own : List LoopEntry) (y : Happening) (h : LinkHandshake) (step : Step) (v : Handshakes) → v.links ≡ (stands u l h step).links
        → UnderWay (record h { step = step }) (back ++ back_on l.0 own) (taken ++ taken_on l.0 own) given → After own (y, v)
    standing own y h step v links is =
        subst (λ (o : Option LinkHandshake). LinkIs o (back ++ back_on l.0 own) (taken ++ taken_on l.0 own) given (Earlier ⊎ JustNow (above ++ entry (Wait until paused) y ∷ [])))
        (sym (ap (at l.0) links ∙ at_with_same l.0 (record h { step = step }) u.links)) is

    back_links : (rest : List ℕ) → (keeping_back u l rest).links ≡ u.links
    back_links [] = refl
    back_links (byte ∷ bytes) = refl

    module _ (h : LinkHandshake) (of : h.output.0 ≡ output) (salted : h.salt ≡ salt) where
      module _ (own : List LoopEntry) (is : PongStep h (back ++ back_on l.0 own) (taken ++ taken_on l.0 own)) where
        ends_status : (r : Received) → pong_received ring (random_bytes salt) h.nonce h.received ≡ r → Always (λ more y. After (own ++ more) y) (ends_by u l h r)
        ends_status verdict.More judged =
            after_nil own (happening.Room l, stands u l h AwaitsPong) (standing own (happening.Room l) h AwaitsPong (stands u l h AwaitsPong) refl (record {
              of = of;
              salted = salted;
              unused = unused;
              step = (record { len = is.len; helo = is.helo; received = is.received; taken_all = is.taken_all }, more_not_right (pong_received ring (random_bytes salt) h.nonce h.received) judged);
            }))
        ends_status (verdict.Right size host) judged =
            after_nil own (happening.Room l, keeping_back u l (drop size h.received))
            (subst (λ (o : Option LinkHandshake). LinkIs o (back ++ back_on l.0 own) (taken ++ taken_on l.0 own) given (Earlier ⊎ JustNow (above ++ entry (Wait until paused) (happening.Room l) ∷ [])))
            (sym (ap (at l.0) (back_links (drop size h.received)) ∙ at_without_same l.0 k.links rising)) (record {
              len = is.len;
              nonce = h.nonce;
              size = size;
              host = host;
              helo = is.helo;
              pong = subst (λ (s : List ℕ). pong_received ring (random_bytes salt) h.nonce s ≡ verdict.Right size host) is.received judged;
              taken_all = is.taken_all ∙ sym (append-nil (ping ring (random_bytes salt) h.nonce)) ∙ ap (λ (s : List ℕ). ping ring (random_bytes salt) h.nonce ++ s) (sym unused);
              room = inr (until, paused, above, refl);
            }))
        ends_status verdict.Wrong judged =
            after_nil own (happening.Broken l, counting_wrong (stands u l h AwaitsPong)) (standing own (happening.Broken l) h AwaitsPong (counting_wrong (stands u l h AwaitsPong)) refl (record {
              of = of;
              salted = salted;
              unused = unused;
              step = (record { len = is.len; helo = is.helo; received = is.received; taken_all = is.taken_all }, wrong_not_right (pong_received ring (random_bytes salt) h.nonce h.received) judged);
            }))

        pong_status : Always (λ more y. After (own ++ more) y) (awaits_pong ring u l h)
        pong_status =
            subst (λ (s : RandomBytes). Always (λ more y. After (own ++ more) y) (ends_by u l h (pong_received ring (random_bytes s) h.nonce h.received))) (sym salted)
            (ends_status (pong_received ring (random_bytes salt) h.nonce h.received) refl)

      module _ (rest : List ℕ) (is : PingStep h rest back taken) where
        -- the same once these calls were made
        at_back : (own : List LoopEntry) → back_on l.0 own ≡ [] → back ++ back_on l.0 own ≡ back
        at_back own none = ap (λ (s : List ℕ). back ++ s) none ∙ append-nil back

        still : (own : List LoopEntry) (x : Pushing × List ℕ) → Sends l.0 rest own x → PingStep h x.1 (back ++ back_on l.0 own) (taken ++ taken_on l.0 own)
        still own x sent = record {
          len = is.len;
          helo = ap helo_received (at_back own sent.back) ∙ is.helo;
          received = is.received ∙ ap (drop is.len) (sym (at_back own sent.back));
          taken_front = append_assoc taken (taken_on l.0 own) x.1 ∙ ap (λ (s : List ℕ). taken ++ s) sent.taken ∙ is.taken_front;
        }

        pinged_status : (own : List LoopEntry) (pushing : Pushing) (left : List ℕ) → Sends l.0 rest own (pushing, left) → Always (λ more y. After (own ++ more) y) (pinged ring u l h pushing left)
        pinged_status own Sent left sent =
            let now : PingStep h left (back ++ back_on l.0 own) (taken ++ taken_on l.0 own) = still own (Sent, left) sent in
            pong_status own (record {
              len = now.len;
              helo = now.helo;
              received = now.received;
              taken_all = sym (append-nil (taken ++ taken_on l.0 own)) ∙ ap (λ (s : List ℕ). (taken ++ taken_on l.0 own) ++ s) (sym sent.ends) ∙ now.taken_front;
            })
        pinged_status own Waits left sent =
            after_nil own (happening.Room l, stands u l h (SendsPing left)) (standing own (happening.Room l) h (SendsPing left) (stands u l h (SendsPing left)) refl (record {
              of = of;
              salted = salted;
              unused = unused;
              step = (moved (still own (Waits, left) sent), sent.ends);
            }))
          where
            moved : PingStep h left (back ++ back_on l.0 own) (taken ++ taken_on l.0 own) → PingStep (record h { step = SendsPing left }) left (back ++ back_on l.0 own) (taken ++ taken_on l.0 own)
            moved p = record { len = p.len; helo = p.helo; received = p.received; taken_front = p.taken_front }
        pinged_status own Fails left sent =
            after_nil own (happening.Broken l, stands u l h (SendsPing left)) (standing own (happening.Broken l) h (SendsPing left) (stands u l h (SendsPing left)) refl (record {
              of = of;
              salted = salted;
              unused = unused;
              step = (moved (still own (Fails, left) sent), sent.ends);
            }))
          where
            moved : PingStep h left (back ++ back_on l.0 own) (taken ++ taken_on l.0 own) → PingStep (record h { step = SendsPing left }) left (back ++ back_on l.0 own) (taken ++ taken_on l.0 own)
            moved p = record { len = p.len; helo = p.helo; received = p.received; taken_front = p.taken_front }

        ping_status : Always After (sends_ping ring u l h rest)
        ping_status =
            always_bind After (sends l.0 rest) (λ pushed. pinged ring u l h pushed.0 pushed.1)
            (always_map (Sends l.0 rest) (λ own (x : Pushing × List ℕ). Always (λ more y. After (own ++ more) y) (pinged ring u l h x.0 x.1)) (sends l.0 rest)
            (λ own (x : Pushing × List ℕ) sent. pinged_status own x.0 x.1 sent) (sends_send l.0 (length rest) rest (omega arith)))

    helo_status : (h : LinkHandshake) → h.output.0 ≡ output → h.salt ≡ salt → h.received ≡ back → taken ≡ [] → (r : Received) → helo_received h.received ≡ r → Always After (begins_by ring u l h r)
    helo_status h of salted came none verdict.More judged =
        after_nil [] (happening.Room l, stands u l h AwaitsHelo) (standing [] (happening.Room l) h AwaitsHelo (stands u l h AwaitsHelo) refl (record {
          of = of;
          salted = salted;
          unused = unused;
          step = record {
            received = came ∙ sym (append-nil back);
            taken_none = append-nil taken ∙ none;
            not_right = more_not_right (helo_received (back ++ [])) (ap helo_received (append-nil back ∙ sym came) ∙ judged);
          };
        }))
    helo_status h of salted came none (verdict.Right len nonce) judged =
        ping_status (with_nonce h len nonce) of salted (ping ring (random_bytes h.salt) nonce) (record {
          len = len;
          helo = ap helo_received (sym came) ∙ judged;
          received = ap (drop len) came;
          taken_front = ap (λ (s : List ℕ). s ++ ping ring (random_bytes h.salt) nonce) none ∙ ap (λ (s : RandomBytes). ping ring (random_bytes s) nonce) salted;
        })
    helo_status h of salted came none verdict.Wrong judged =
        after_nil [] (happening.Broken l, counting_wrong (stands u l h AwaitsHelo)) (standing [] (happening.Broken l) h AwaitsHelo (counting_wrong (stands u l h AwaitsHelo)) refl (record {
          of = of;
          salted = salted;
          unused = unused;
          step = record {
            received = came ∙ sym (append-nil back);
            taken_none = append-nil taken ∙ none;
            not_right = wrong_not_right (helo_received (back ++ [])) (ap helo_received (append-nil back ∙ sym came) ∙ judged);
          };
        }))

  -- these bytes came with the event
  pub greets_status : (Earlier : Type 0) (keys : Keys) → ring_at keys.outputs output ≡ Some ring → (k : Handshakes) → Rising k.links → (until paused : ℕ) (above : List LoopEntry) (back taken given bytes : List ℕ) (h : LinkHandshake) → UnderWay h back taken given
      → Always (λ own r. LinkIs (link_at r.1 l.0) ((back ++ bytes) ++ back_on l.0 own) (taken ++ taken_on l.0 own) given (Earlier ⊎ JustNow (above ++ entry (Wait until paused) r.0 ∷ []))) (greets (ring_at keys.outputs h.output.0) (ungreeted k l.0) l h bytes)
  greets_status Earlier keys keyed k rising until paused above back taken given bytes h is =
      subst (λ (o : Option Ring). Always (λ own r. LinkIs (link_at r.1 l.0) ((back ++ bytes) ++ back_on l.0 own) (taken ++ taken_on l.0 own) given (Earlier ⊎ JustNow (above ++ entry (Wait until paused) r.0 ∷ []))) (greets o (ungreeted k l.0) l h bytes))
      (sym (ap (ring_at keys.outputs) is.of ∙ keyed)) (by h.step is.step)
    where
      by : (step : Step) → StepIs step h back taken
          → Always (λ own r. LinkIs (link_at r.1 l.0) ((back ++ bytes) ++ back_on l.0 own) (taken ++ taken_on l.0 own) given (Earlier ⊎ JustNow (above ++ entry (Wait until paused) r.0 ∷ []))) (greets_by ring (ungreeted k l.0) l (record h { received = h.received ++ bytes }) step)
      by AwaitsHelo s =
          helo_status Earlier k rising until paused above (back ++ bytes) taken given is.unused (record h { received = h.received ++ bytes }) is.of is.salted (ap (λ (c : List ℕ). c ++ bytes) s.received) s.taken_none
          (helo_received (h.received ++ bytes)) refl
      by (SendsPing rest) s =
          ping_status Earlier k rising until paused above (back ++ bytes) taken given is.unused (record h { received = h.received ++ bytes }) is.of is.salted rest (record {
            len = s.0.len;
            helo = right_longer nonce_of back bytes s.0.len h.nonce s.0.helo;
            received = ap (λ (c : List ℕ). c ++ bytes) s.0.received ∙ sym (drop-append-le s.0.len back bytes (right_within nonce_of back s.0.len h.nonce s.0.helo));
            taken_front = s.0.taken_front;
          })
      by AwaitsPong s =
          pong_status Earlier k rising until paused above (back ++ bytes) taken given is.unused (record h { received = h.received ++ bytes }) is.of is.salted [] (record {
            len = s.0.len;
            helo = ap helo_received (append-nil (back ++ bytes)) ∙ right_longer nonce_of back bytes s.0.len h.nonce s.0.helo;
            received =
                ap (λ (c : List ℕ). c ++ bytes) s.0.received ∙ sym (drop-append-le s.0.len back bytes (right_within nonce_of back s.0.len h.nonce s.0.helo))
                ∙ ap (drop s.0.len) (sym (append-nil (back ++ bytes)));
            taken_all = append-nil taken ∙ s.0.taken_all;
          })
