-- Only the first call of a wait is a wait, so all other calls of the rules are allowed.
use Rattle.std.proofs.Common.{◌≡◌, ℕ, zero, suc, Bool, true, false, if◌then◌else◌, List, [], ◌∷◌, ◌++◌, length, Option, Some, None, Result, Ok, Err, IsErr, IfOk, refl, sym, subst}
use Rattle.std.specs.Prelude.{◌==◌, is_some, drop}
use Rattle.fwd_base.specs.declared.ids.InputId.{InputId}
use Rattle.fwd_base.specs.declared.ids.ConnId.{ConnId}
use Rattle.fwd_base.specs.declared.ids.LinkId.{LinkId}
use Rattle.fwd_outside.specs.Program.{entry, Return, Ask, bind, Execution}
use Rattle.fwd_outside.specs.Log.{LogGrew, RunsProgram, log_of_call}
use Rattle.fwd_outside.specs.Loop.{LoopCall, LoopAnswer, LoopEntry, LoopLog, LoopProgram, Start, Wait, Dial, Push, Close, Reply, DropConn, Word, PushAnswer, Took, Again, Broke, MayOccur, loop_outcome}
use Rattle.fwd_outside.specs.declared.happening.Happening.{Happening}
use Rattle.fwd_outside.specs.declared.happening.Happening.TheVariants as happening
use Rattle.fwd_outside.proofs.LogGrowth.{grew_trans}
use Rattle.fwd_handshake.specs.declared.ring.Ring.{Ring}
use Rattle.fwd_handshake.specs.declared.received.Received.{Received}
use Rattle.fwd_handshake.specs.declared.received.Received.TheVariants as received
use Rattle.fwd_handshake.specs.Judgement.{ping_received, helo_received, pong_received}
use Rattle.fwd_handshake.specs.Messages.{ping}
use Rattle.fwd_secure.specs.declared.keys.Keys.{Keys}
use Rattle.fwd_secure.specs.declared.handshakes.RandomBytes.{RandomBytes}
use Rattle.fwd_secure.specs.declared.handshakes.HeldConn.{HeldConn}
use Rattle.fwd_secure.specs.declared.handshakes.LinkHandshake.{LinkHandshake}
use Rattle.fwd_secure.specs.declared.handshakes.KeptBytes.{KeptBytes}
use Rattle.fwd_secure.specs.declared.handshakes.Step.{Step}
use Rattle.fwd_secure.specs.declared.handshakes.Step.TheVariants.{AwaitsHelo, SendsPing, AwaitsPong}
use Rattle.fwd_secure.specs.declared.outputs.Pushing.{Pushing}
use Rattle.fwd_secure.specs.declared.outputs.Pushing.TheVariants.{Sent, Waits, Fails}
use Rattle.fwd_secure.specs.Keys.{ring_at}
use Rattle.fwd_secure.specs.Kept.{event_of, first_given}
use Rattle.fwd_secure.specs.RandomBytes.{random_bytes}
use Rattle.fwd_secure.specs.Handshakes.{Handshakes, is_held, held_under, joined_at, released, link_at, ungreeted, without_given}
use Rattle.fwd_secure.specs.Inputs.{drops, holds_or_drops, joins_by, joins, after_message, enters_or_drops, judges, hears_by, hears}
use Rattle.fwd_secure.specs.Outputs.{pushed_on, pushes, sends, ends_by, awaits_pong, pinged, sends_ping, with_nonce, begins_by, greets_by, greets}
use Rattle.fwd_secure.specs.Outcome.{with_state}
use Rattle.fwd_secure.specs.Rules.{brings_joined, brings_piece, brings_back, brings, waits_by, waits, dialed, pushes_by, passes_on, answers_by}
use Rattle.fwd_secure.specs.Allowed.{MayAnswer, AllMayOccur, RunsAllowed}
use Rattle.fwd_secure.proofs.KeptCounts.{NotWait}
use Rattle.fwd_secure.proofs.Waits.{kept_given}

pub allowed_append : (xs ys : List LoopEntry) → AllMayOccur xs → AllMayOccur ys → AllMayOccur (xs ++ ys)
allowed_append [] ys first second = second
allowed_append (e ∷ xs) ys first second = (first.0, allowed_append xs ys first.1 second)

-- ---- programs that never wait

abbrev pub NeverWaits : {R : Type 0} → LoopProgram R → Type 0
NeverWaits (Return x) = Unit {0}
NeverWaits (Ask call go) = NotWait call × ((answer : LoopAnswer call) → NeverWaits (go answer))

never_bind : {R S : Type 0} (p : LoopProgram R) (next : R → LoopProgram S) → NeverWaits p → ((x : R) → NeverWaits (next x)) → NeverWaits (bind p next)
never_bind (Return x) next never later = later x
never_bind (Ask call go) next never later = (never.0, λ answer. never_bind (go answer) next (never.1 answer) later)

other_answer : (call : LoopCall) (answer : LoopAnswer call) → NotWait call → MayAnswer call answer
other_answer (Start ends) answer other = tt
other_answer (Wait until paused) answer other = absurd other
other_answer (Dial output tag) answer other = tt
other_answer (Push link bytes) answer other = tt
other_answer (Close link) answer other = tt
other_answer (Reply conn bytes) answer other = tt
other_answer (DropConn conn) answer other = tt
other_answer Word answer other = tt

calls_allowed : {R : Type 0} (p q : LoopProgram R) (entries : List LoopEntry) → NeverWaits p → Execution p entries q → AllMayOccur entries
calls_allowed p q [] never way = tt
calls_allowed (Return x) q (e ∷ es) never way = absurd way
calls_allowed (Ask call go) q (e ∷ es) never way =
    (subst (λ (x : LoopEntry). MayAnswer x.call x.answer) (sym way.1) (other_answer call way.0 never.0), calls_allowed (go way.0) q es (never.1 way.0) way.2)

pub runs_allowed : {R : Type 0} (a b : LoopLog) (p : LoopProgram R) (r : Option R) → NeverWaits p → RunsProgram a b p r → RunsAllowed a b p r
runs_allowed a b p (Some x) never made = record { made = made; allowed = calls_allowed p (Return x) made.entries never made.way }
runs_allowed a b p None never made = record { made = made; allowed = calls_allowed p made.0 made.1.entries never made.1.way }

-- ---- what an event becomes

module _ (input : InputId) (conn : ConnId) where
  never_drops : (k : Handshakes) → NeverWaits (drops k input conn)
  never_drops k = (tt, λ answer. tt)

  never_held : (k : Handshakes) (nonce : RandomBytes) (answer : Option (Unit {0})) → NeverWaits (holds_or_drops k input conn nonce answer)
  never_held k nonce (Some done) = tt
  never_held k nonce None = never_drops k

  never_joins : (k : Handshakes) → NeverWaits (joins k input conn)
  never_joins k = by (is_held k conn.0) (joined_at k conn.0)
    where
      by : (b : Bool) (o : Option ℕ) → NeverWaits (if b then Return (happening.Gone input conn, k) else joins_by k input conn o)
      by true o = tt
      by false (Some other) = tt
      by false None = (tt, λ a. (tt, λ b. (tt, λ answer. never_held k (record { first = a; second = b }) answer)))

  never_enters : (k : Handshakes) (rest : List ℕ) (answer : Option (Unit {0})) → NeverWaits (enters_or_drops k input conn rest answer)
  never_enters k rest (Some done) = tt
  never_enters k rest None = never_drops k

  never_judges : (ring : Ring) (k : Handshakes) (held : HeldConn) (piece : List ℕ) (r : Received) → NeverWaits (judges ring k input conn held piece r)
  never_judges ring k held piece received.More = tt
  never_judges ring k held piece (received.Right len salt) = (tt, λ answer. never_enters k (after_message len held.received piece) answer)
  never_judges ring k held piece received.Wrong = never_drops k

  never_hears : (ring : Ring) (k : Handshakes) (piece : List ℕ) → NeverWaits (hears ring k input conn piece)
  never_hears ring k piece = by (held_under k input.0 conn.0)
    where
      by : (o : Option HeldConn) → NeverWaits (hears_by ring k input conn piece o)
      by (Some held) = never_judges ring (released k conn.0) held piece (ping_received ring (random_bytes held.nonce) (held.received ++ piece))
      by None = tt

never_pushed_on : (go : List ℕ → LoopProgram (Pushing × List ℕ)) → ((rest : List ℕ) → NeverWaits (go rest)) → (rest : List ℕ) (answer : PushAnswer) → NeverWaits (pushed_on go rest answer)
never_pushed_on go never rest (Took n) = by (n == 0)
  where
    by : (b : Bool) → NeverWaits (if b then Return (Fails, rest) else go (drop n rest))
    by true = tt
    by false = never (drop n rest)
never_pushed_on go never rest Again = tt
never_pushed_on go never rest Broke = tt

never_pushes : (most link : ℕ) (rest : List ℕ) → NeverWaits (pushes most link rest)
never_pushes zero link rest = tt
never_pushes (suc most) link [] = tt
never_pushes (suc most) link (byte ∷ rest) = (tt, λ answer. never_pushed_on (pushes most link) (never_pushes most link) (byte ∷ rest) answer)

module _ (k : Handshakes) (link : LinkId) where
  never_ends : (handshake : LinkHandshake) (r : Received) → NeverWaits (ends_by k link handshake r)
  never_ends handshake received.More = tt
  never_ends handshake (received.Right len host) = tt
  never_ends handshake received.Wrong = tt

  module _ (ring : Ring) where
    never_pong : (handshake : LinkHandshake) → NeverWaits (awaits_pong ring k link handshake)
    never_pong handshake = never_ends handshake (pong_received ring (random_bytes handshake.salt) handshake.nonce handshake.received)

    never_pinged : (handshake : LinkHandshake) (pushing : Pushing) (rest : List ℕ) → NeverWaits (pinged ring k link handshake pushing rest)
    never_pinged handshake Sent rest = never_pong handshake
    never_pinged handshake Waits rest = tt
    never_pinged handshake Fails rest = tt

    never_ping : (handshake : LinkHandshake) (rest : List ℕ) → NeverWaits (sends_ping ring k link handshake rest)
    never_ping handshake rest =
        never_bind (sends link.0 rest) (λ pushed. pinged ring k link handshake pushed.0 pushed.1) (never_pushes (length rest) link.0 rest) (λ pushed. never_pinged handshake pushed.0 pushed.1)

    never_begins : (handshake : LinkHandshake) (r : Received) → NeverWaits (begins_by ring k link handshake r)
    never_begins handshake received.More = tt
    never_begins handshake (received.Right len nonce) = never_ping (with_nonce handshake len nonce) (ping ring (random_bytes handshake.salt) nonce)
    never_begins handshake received.Wrong = tt

    never_step : (handshake : LinkHandshake) (step : Step) → NeverWaits (greets_by ring k link handshake step)
    never_step handshake AwaitsHelo = never_begins handshake (helo_received handshake.received)
    never_step handshake (SendsPing rest) = never_ping handshake rest
    never_step handshake AwaitsPong = never_pong handshake

  never_greets : (ring : Option Ring) (handshake : LinkHandshake) (bytes : List ℕ) → NeverWaits (greets ring k link handshake bytes)
  never_greets (Some ring) handshake bytes = never_step ring (record handshake { received = handshake.received ++ bytes }) handshake.step
  never_greets None handshake bytes = tt

module _ (keys : Keys) (k : Handshakes) where
  never_back : (x : Happening) (link : LinkId) (bytes : List ℕ) (o : Option LinkHandshake) → NeverWaits (brings_back keys k link bytes x o)
  never_back x link bytes (Some handshake) = never_greets (ungreeted k link.0) link (ring_at keys.outputs handshake.output.0) handshake bytes
  never_back x link bytes None = tt

  never_joined : (input : InputId) (conn : ConnId) (o : Option Ring) → NeverWaits (brings_joined o k input conn)
  never_joined input conn (Some ring) = never_joins input conn k
  never_joined input conn None = tt

  never_piece : (input : InputId) (conn : ConnId) (piece : List ℕ) (o : Option Ring) → NeverWaits (brings_piece o k input conn piece)
  never_piece input conn piece (Some ring) = never_hears input conn ring k piece
  never_piece input conn piece None = tt

  never_brings : (x : Happening) → NeverWaits (brings keys k x)
  never_brings (happening.Tick now) = tt
  never_brings (happening.Joined input conn) = never_joined input conn (ring_at keys.inputs input.0)
  never_brings (happening.Piece input conn piece) = never_piece input conn piece (ring_at keys.inputs input.0)
  never_brings (happening.Gone input conn) = tt
  never_brings (happening.Room link) = never_back (happening.Room link) link [] (link_at k link.0)
  never_brings (happening.Back link bytes) = never_back (happening.Back link bytes) link bytes (link_at k link.0)
  never_brings (happening.Broken link) = tt
  never_brings (happening.InputEnd input) = tt
  never_brings happening.Stop = tt
  never_brings happening.End = tt
  never_brings happening.Failed = tt

  -- ---- the other calls

  never_dialed : (output : ℕ) (ring : Option Ring) (answer : Option ℕ) → NeverWaits (dialed ring k output answer)
  never_dialed output (Some ring) (Some link) = (tt, λ a. (tt, λ b. tt))
  never_dialed output (Some ring) None = tt
  never_dialed output None answer = tt

  never_pushed : (link : ℕ) (bytes : List ℕ) (b : Bool) → NeverWaits (pushes_by k link bytes b)
  never_pushed link bytes true = tt
  never_pushed link bytes false = (tt, λ answer. tt)

  never_waits : (keyed : Bool) (call : LoopCall) → NotWait call → NeverWaits (answers_by keyed keys k call)
  never_waits false call other = (other, λ answer. tt)
  never_waits true (Start ends) other = (tt, λ answer. tt)
  never_waits true (Wait until paused) other = absurd other
  never_waits true (Dial output tag) other = (tt, λ answer. never_dialed output (ring_at keys.outputs output) answer)
  never_waits true (Push link bytes) other = never_pushed link bytes (is_some (link_at k link))
  never_waits true (Close link) other = (tt, λ answer. tt)
  never_waits true (Reply conn bytes) other = (tt, λ answer. tt)
  never_waits true (DropConn conn) other = (tt, λ answer. tt)
  never_waits true Word other = (tt, λ answer. tt)

  pub call_allowed : (keyed : Bool) (call : LoopCall) → NotWait call → (a b : LoopLog) (r : Option (LoopAnswer call × Handshakes))
      → RunsProgram a b (answers_by keyed keys k call) r → RunsAllowed a b (answers_by keyed keys k call) r
  call_allowed keyed call other a b r made = runs_allowed a b (answers_by keyed keys k call) r (never_waits keyed call other) made

-- ---- the calls of a wait

-- the same calls, whether the keys are known to be there or not
pub by_keyed : (keys : Keys) (k : Handshakes) (call : LoopCall) (keyed other : Bool) (a b : LoopLog) (r : Option (LoopAnswer call × Handshakes)) → keyed ≡ other
    → RunsAllowed a b (answers_by other keys k call) r → RunsAllowed a b (answers_by keyed keys k call) r
by_keyed keys k call keyed other a b r is runs = subst (λ (t : Bool). RunsAllowed a b (answers_by t keys k call) r) (sym is) runs

-- memory was out before the first call was answered
pub none_allowed : {R : Type 0} (a b : LoopLog) (p : LoopProgram R) → LogGrew a b [] → RunsAllowed a b p None
none_allowed a b p grew = record { made = (p, record { entries = []; grew = grew; way = refl }); allowed = tt }

-- the exit of a `?`
pub cut_allowed : {T E S : Type 0} (a b : LoopLog) (p : LoopProgram (T × S)) (r : Result T E) (k : S) → IsErr r → RunsAllowed a b p None → RunsAllowed a b p (with_state (loop_outcome r) k)
cut_allowed a b p (Err e) k is runs = runs
cut_allowed a b p (Ok x) k is runs = absurd (cc is)

-- an event that may occur in an endless loop
may_answer : (endless : Bool) (until paused : ℕ) (x : Happening) → MayOccur endless paused x → MayAnswer (Wait until paused) x
may_answer endless until paused (happening.Tick now) may = may
may_answer endless until paused (happening.Joined input conn) may = may
may_answer endless until paused (happening.Piece input conn bytes) may = may
may_answer endless until paused (happening.Gone input conn) may = may
may_answer endless until paused (happening.Room link) may = may
may_answer endless until paused (happening.Back link bytes) may = may
may_answer endless until paused (happening.Broken link) may = may
may_answer endless until paused (happening.InputEnd input) may = may
may_answer endless until paused happening.Stop may = may
may_answer endless until paused happening.End may = refl
may_answer endless until paused happening.Failed may = may

module _ (keys : Keys) (k : Handshakes) (until paused : ℕ) where
  -- kept bytes are given
  pub kept_runs : (a : LoopLog) (bytes : KeptBytes) (y : Happening) (u : Handshakes) → Some bytes ≡ first_given paused k.kept → y ≡ event_of bytes → u ≡ without_given k paused
      → RunsAllowed a a (waits keys k until paused) (Some (y, u))
  kept_runs a bytes y u first event rest =
      runs_allowed a a (waits keys k until paused) (Some (y, u)) (subst (λ (o : Option KeptBytes). NeverWaits (waits_by keys k until paused o)) first tt)
      (kept_given keys k until paused a bytes y u first event rest)

  came : (endless : Bool) (a b c : LoopLog) (x : Happening) (r : Option (Happening × Handshakes)) → LogGrew a b (log_of_call (Wait until paused) (Some x)) → MayOccur endless paused x → RunsProgram b c (brings keys k x) r
      → RunsAllowed a c (waits_by keys k until paused None) r
  came endless a b c x (Some y) grew may runs = record {
    made = record { entries = entry (Wait until paused) x ∷ runs.entries; grew = grew_trans a b c (entry (Wait until paused) x ∷ []) runs.entries grew runs.grew; way = (x, refl, runs.way) };
    allowed = (may_answer endless until paused x may, calls_allowed (brings keys k x) (Return y) runs.entries (never_brings keys k x) runs.way);
  }
  came endless a b c x None grew may runs = record {
    made = (runs.0, record { entries = entry (Wait until paused) x ∷ runs.1.entries; grew = grew_trans a b c (entry (Wait until paused) x ∷ []) runs.1.entries grew runs.1.grew; way = (x, refl, runs.1.way) });
    allowed = (may_answer endless until paused x may, calls_allowed (brings keys k x) runs.0 runs.1.entries (never_brings keys k x) runs.1.way);
  }

  -- an event of the loop below came
  pub came_allowed : (endless : Bool) → None ≡ first_given paused k.kept → (a b c : LoopLog) (x : Happening) (r : Option (Happening × Handshakes)) → LogGrew a b (log_of_call (Wait until paused) (Some x)) → MayOccur endless paused x
      → RunsProgram b c (brings keys k x) r → RunsAllowed a c (waits keys k until paused) r
  came_allowed endless none a b c x r grew may runs = subst (λ (o : Option KeptBytes). RunsAllowed a c (waits_by keys k until paused o) r) none (came endless a b c x r grew may runs)

  -- a wait that is passed on
  pub passed_allowed : {E : Type 0} (endless : Bool) (a b : LoopLog) (r : Result Happening E) → LogGrew a b (log_of_call (Wait until paused) (loop_outcome r)) → IfOk r (MayOccur endless paused)
      → RunsAllowed a b (passes_on (Wait until paused) k) (with_state (loop_outcome r) k)
  passed_allowed endless a b (Ok x) grew may = record { made = record { entries = entry (Wait until paused) x ∷ []; grew = grew; way = (x, refl, refl) }; allowed = (may_answer endless until paused x may, tt) }
  passed_allowed endless a b (Err e) grew may = none_allowed a b (passes_on (Wait until paused) k) grew
