-- The calls that the keyed loop makes: a wait makes at most one wait below, its first call, and other calls make none.
use Rattle.std.proofs.Common.{◌≡◌, ℕ, zero, suc, Bool, true, false, ◌||◌, if◌then◌else◌, List, [], ◌∷◌, ◌++◌, map, length, Option, Some, None, is_some, refl, sym, ◌∙◌, ap, subst}
use Rattle.std.specs.Prelude.{◌==◌, drop}
use Rattle.fwd_base.specs.declared.ids.InputId.{InputId}
use Rattle.fwd_base.specs.declared.ids.ConnId.{ConnId}
use Rattle.fwd_base.specs.declared.ids.LinkId.{LinkId}
use Rattle.fwd_outside.specs.Program.{entry, Return, Ask, bind, Execution}
use Rattle.fwd_outside.specs.Loop.{LoopCall, LoopAnswer, LoopEntry, LoopProgram, Start, Wait, Dial, Push, Close, Reply, DropConn, Word, PushAnswer, Took, Again, Broke}
use Rattle.fwd_outside.specs.declared.happening.Happening.{Happening}
use Rattle.fwd_outside.specs.declared.happening.Happening.TheVariants as happening
use Rattle.fwd_handshake.specs.declared.ring.Ring.{Ring}
use Rattle.fwd_handshake.specs.declared.received.Received.{Received}
use Rattle.fwd_handshake.specs.declared.received.Received.TheVariants as received
use Rattle.fwd_handshake.specs.Judgement.{ping_received, helo_received, pong_received}
use Rattle.fwd_handshake.specs.Messages.{ping}
use Rattle.fwd_model.specs.Trace.{Call, Answer, TraceEntry, OnLoop, OnDisk, OnFiles, OnKeeper, Note}
use Rattle.fwd_secure.specs.declared.keys.Keys.{Keys}
use Rattle.fwd_secure.specs.declared.handshakes.RandomBytes.{RandomBytes}
use Rattle.fwd_secure.specs.declared.handshakes.HeldConn.{HeldConn}
use Rattle.fwd_secure.specs.declared.handshakes.LinkHandshake.{LinkHandshake}
use Rattle.fwd_secure.specs.declared.handshakes.Step.{Step}
use Rattle.fwd_secure.specs.declared.handshakes.Step.TheVariants.{AwaitsHelo, SendsPing, AwaitsPong}
use Rattle.fwd_secure.specs.declared.handshakes.KeptBytes.{KeptBytes}
use Rattle.fwd_secure.specs.declared.outputs.Pushing.{Pushing}
use Rattle.fwd_secure.specs.declared.outputs.Pushing.TheVariants.{Sent, Waits, Fails}
use Rattle.fwd_secure.specs.Keys.{ring_at, has_keys}
use Rattle.fwd_secure.specs.Kept.{first_given, is_given, holds}
use Rattle.fwd_secure.specs.RandomBytes.{random_bytes}
use Rattle.fwd_secure.specs.Handshakes.{Handshakes, is_held, held_under, joined_at, released, ungreeted, link_at}
use Rattle.fwd_secure.specs.Inputs.{draws, drops, holds_or_drops, challenges, joins_by, joins, after_message, enters_or_drops, judges, hears_by, hears}
use Rattle.fwd_secure.specs.Outputs.{pushed_on, pushes_nonempty, pushes, sends, ends_by, awaits_pong, pinged, sends_ping, with_nonce, begins_by, awaits_helo, greets_by, greets_with, greets}
use Rattle.fwd_secure.specs.Rules.{Answers, brings_joined, brings_piece, brings_back, brings, waits_by, begins, dialed, pushes_by, secures, answers_by, answers}
use Rattle.fwd_secure_trace.specs.Secured.{on_loop, CallIsSecured, IsSecured}
use Rattle.fwd_theorem_trace.proofs.WaitCounts.{ArePlain, is_plain}

-- for all answers, the program never waits
abbrev pub IsWaitless : {R : Type 0} → LoopProgram R → Type 0
IsWaitless (Return x) = Unit {0}
IsWaitless (Ask call go) = (is_plain (OnLoop call) ≡ true) × ((answer : LoopAnswer call) → IsWaitless (go answer))

pub plain_calls : {R : Type 0} (p q : LoopProgram R) (es : List LoopEntry) → IsWaitless p → Execution p es q → ArePlain (map on_loop es)
plain_calls p q [] waitless way = tt
plain_calls (Return x) q (e ∷ es) waitless way = absurd way
plain_calls (Ask call go) q (e ∷ es) waitless way =
    subst (λ (x : LoopEntry). ArePlain (on_loop x ∷ map on_loop es)) (sym way.1) (waitless.0, plain_calls (go way.0) q es (waitless.1 way.0) way.2)

waitless_bind : {R S : Type 0} (p : LoopProgram R) (next : R → LoopProgram S) → IsWaitless p → ((x : R) → IsWaitless (next x)) → IsWaitless (bind p next)
waitless_bind (Return x) next first more = more x
waitless_bind (Ask call go) next first more = (first.0, λ answer. waitless_bind (go answer) next (first.1 answer) more)

either : {R : Type 0} (b : Bool) (p q : LoopProgram R) → IsWaitless p → IsWaitless q → IsWaitless (if b then p else q)
either true p q first second = first
either false p q first second = second

-- ---- inputs

draws_so : IsWaitless draws
draws_so = (refl, λ a. (refl, λ b. tt))

drops_so : (k : Handshakes) (input : InputId) (conn : ConnId) → IsWaitless (drops k input conn)
drops_so k input conn = (refl, λ _. tt)

holds_so : (k : Handshakes) (input : InputId) (conn : ConnId) (nonce : RandomBytes) (sent : Option (Unit {0})) → IsWaitless (holds_or_drops k input conn nonce sent)
holds_so k input conn nonce (Some _) = tt
holds_so k input conn nonce None = drops_so k input conn

challenges_so : (k : Handshakes) (input : InputId) (conn : ConnId) → IsWaitless (challenges k input conn)
challenges_so k input conn = (refl, λ a. (refl, λ b. (refl, holds_so k input conn (record { first = a; second = b }))))

joins_by_so : (k : Handshakes) (input : InputId) (conn : ConnId) (other : Option ℕ) → IsWaitless (joins_by k input conn other)
joins_by_so k input conn (Some other) = tt
joins_by_so k input conn None = challenges_so k input conn

joins_so : (k : Handshakes) (input : InputId) (conn : ConnId) → IsWaitless (joins k input conn)
joins_so k input conn = either (is_held k conn.0) (Return (happening.Gone input conn, k)) (joins_by k input conn (joined_at k conn.0)) tt (joins_by_so k input conn (joined_at k conn.0))

enters_so : (k : Handshakes) (input : InputId) (conn : ConnId) (rest : List ℕ) (sent : Option (Unit {0})) → IsWaitless (enters_or_drops k input conn rest sent)
enters_so k input conn rest (Some _) = tt
enters_so k input conn rest None = drops_so k input conn

judges_so : (ring : Ring) (k : Handshakes) (input : InputId) (conn : ConnId) (held : HeldConn) (piece : List ℕ) (judged : Received) → IsWaitless (judges ring k input conn held piece judged)
judges_so ring k input conn held piece received.More = tt
judges_so ring k input conn held piece (received.Right len salt) = (refl, enters_so k input conn (after_message len held.received piece))
judges_so ring k input conn held piece received.Wrong = drops_so k input conn

hears_by_so : (ring : Ring) (k : Handshakes) (input : InputId) (conn : ConnId) (piece : List ℕ) (held : Option HeldConn) → IsWaitless (hears_by ring k input conn piece held)
hears_by_so ring k input conn piece (Some held) = judges_so ring (released k conn.0) input conn held piece (ping_received ring (random_bytes held.nonce) (held.received ++ piece))
hears_by_so ring k input conn piece None = tt

-- ---- outputs

pushed_so : (go : List ℕ → LoopProgram (Pushing × List ℕ)) (rest : List ℕ) (answer : PushAnswer) → ((more : List ℕ) → IsWaitless (go more)) → IsWaitless (pushed_on go rest answer)
pushed_so go rest (Took n) more = either (n == 0) (Return (Fails, rest)) (go (drop n rest)) tt (more (drop n rest))
pushed_so go rest Again more = tt
pushed_so go rest Broke more = tt

nonempty_so : (go : List ℕ → LoopProgram (Pushing × List ℕ)) (link : ℕ) (rest : List ℕ) → ((more : List ℕ) → IsWaitless (go more)) → IsWaitless (pushes_nonempty go link rest)
nonempty_so go link [] more = tt
nonempty_so go link (byte ∷ rest) more = (refl, λ answer. pushed_so go (byte ∷ rest) answer more)

pushes_so : (most link : ℕ) (rest : List ℕ) → IsWaitless (pushes most link rest)
pushes_so zero link rest = tt
pushes_so (suc most) link rest = nonempty_so (pushes most link) link rest (pushes_so most link)

ends_so : (k : Handshakes) (link : LinkId) (handshake : LinkHandshake) (judged : Received) → IsWaitless (ends_by k link handshake judged)
ends_so k link handshake received.More = tt
ends_so k link handshake (received.Right len host) = tt
ends_so k link handshake received.Wrong = tt

pong_so : (ring : Ring) (k : Handshakes) (link : LinkId) (handshake : LinkHandshake) → IsWaitless (awaits_pong ring k link handshake)
pong_so ring k link handshake = ends_so k link handshake (pong_received ring (random_bytes handshake.salt) handshake.nonce handshake.received)

pinged_so : (ring : Ring) (k : Handshakes) (link : LinkId) (handshake : LinkHandshake) (pushing : Pushing) (rest : List ℕ) → IsWaitless (pinged ring k link handshake pushing rest)
pinged_so ring k link handshake Sent rest = pong_so ring k link handshake
pinged_so ring k link handshake Waits rest = tt
pinged_so ring k link handshake Fails rest = tt

ping_so : (ring : Ring) (k : Handshakes) (link : LinkId) (handshake : LinkHandshake) (rest : List ℕ) → IsWaitless (sends_ping ring k link handshake rest)
ping_so ring k link handshake rest =
    waitless_bind (sends link.0 rest) (λ (pushed : Pushing × List ℕ). pinged ring k link handshake pushed.0 pushed.1) (pushes_so (length rest) link.0 rest) (λ pushed. pinged_so ring k link handshake pushed.0 pushed.1)

begins_by_so : (ring : Ring) (k : Handshakes) (link : LinkId) (handshake : LinkHandshake) (judged : Received) → IsWaitless (begins_by ring k link handshake judged)
begins_by_so ring k link handshake received.More = tt
begins_by_so ring k link handshake (received.Right len nonce) = ping_so ring k link (with_nonce handshake len nonce) (ping ring (random_bytes handshake.salt) nonce)
begins_by_so ring k link handshake received.Wrong = tt

greets_by_so : (ring : Ring) (k : Handshakes) (link : LinkId) (handshake : LinkHandshake) (step : Step) → IsWaitless (greets_by ring k link handshake step)
greets_by_so ring k link handshake AwaitsHelo = begins_by_so ring k link handshake (helo_received handshake.received)
greets_by_so ring k link handshake (SendsPing rest) = ping_so ring k link handshake rest
greets_by_so ring k link handshake AwaitsPong = pong_so ring k link handshake

greets_so : (ring : Option Ring) (k : Handshakes) (link : LinkId) (handshake : LinkHandshake) → IsWaitless (greets_with k link handshake ring)
greets_so (Some ring) k link handshake = greets_by_so ring k link handshake handshake.step
greets_so None k link handshake = tt

-- ---- the event of a wait

joined_so : (ring : Option Ring) (k : Handshakes) (input : InputId) (conn : ConnId) → IsWaitless (brings_joined ring k input conn)
joined_so (Some ring) k input conn = joins_so k input conn
joined_so None k input conn = tt

piece_so : (ring : Option Ring) (k : Handshakes) (input : InputId) (conn : ConnId) (piece : List ℕ) → IsWaitless (brings_piece ring k input conn piece)
piece_so (Some ring) k input conn piece = hears_by_so ring k input conn piece (held_under k input.0 conn.0)
piece_so None k input conn piece = tt

back_so : (keys : Keys) (k : Handshakes) (link : LinkId) (bytes : List ℕ) (brought : Happening) (handshake : Option LinkHandshake) → IsWaitless (brings_back keys k link bytes brought handshake)
back_so keys k link bytes brought (Some handshake) = greets_so (ring_at keys.outputs handshake.output.0) (ungreeted k link.0) link (record handshake { received = handshake.received ++ bytes })
back_so keys k link bytes brought None = tt

brings_so : (keys : Keys) (k : Handshakes) (brought : Happening) → IsWaitless (brings keys k brought)
brings_so keys k (happening.Joined input conn) = joined_so (ring_at keys.inputs input.0) k input conn
brings_so keys k (happening.Piece input conn piece) = piece_so (ring_at keys.inputs input.0) k input conn piece
brings_so keys k (happening.Gone input conn) = tt
brings_so keys k (happening.Room link) = back_so keys k link [] (happening.Room link) (link_at k link.0)
brings_so keys k (happening.Back link bytes) = back_so keys k link bytes (happening.Back link bytes) (link_at k link.0)
brings_so keys k brought = tt

-- ---- the other calls

dialed_so : (ring : Option Ring) (k : Handshakes) (output : ℕ) (answer : Option ℕ) → IsWaitless (dialed ring k output answer)
dialed_so (Some ring) k output (Some link) = (refl, λ a. (refl, λ b. tt))
dialed_so (Some ring) k output None = tt
dialed_so None k output answer = tt

pushes_by_so : (k : Handshakes) (link : ℕ) (bytes : List ℕ) (under_way : Bool) → IsWaitless (pushes_by k link bytes under_way)
pushes_by_so k link bytes true = tt
pushes_by_so k link bytes false = (refl, λ _. tt)

secures_so : (keys : Keys) (k : Handshakes) (call : LoopCall) → is_plain (OnLoop call) ≡ true → IsWaitless (secures keys k call)
secures_so keys k (Start ends) plain = (refl, λ _. tt)
secures_so keys k (Wait until paused) plain = absurd (cc plain)
secures_so keys k (Dial output tag) plain = (refl, dialed_so (ring_at keys.outputs output) k output)
secures_so keys k (Push link bytes) plain = pushes_by_so k link bytes (is_some (link_at k link))
secures_so keys k (Close link) plain = (refl, λ _. tt)
secures_so keys k (Reply conn bytes) plain = (refl, λ _. tt)
secures_so keys k (DropConn conn) plain = (refl, λ _. tt)
secures_so keys k Word plain = (refl, λ _. tt)

answers_so : (keys : Keys) (keyed : Bool) (k : Handshakes) (call : LoopCall) → is_plain (OnLoop call) ≡ true → IsWaitless (answers_by keyed keys k call)
answers_so keys true k call plain = secures_so keys k call plain
answers_so keys false k call plain = (plain, λ _. tt)

-- ---- traces

plain_both : (es more : List TraceEntry) → ArePlain es → ArePlain more → ArePlain (es ++ more)
plain_both [] more first second = second
plain_both (e ∷ es) more first second = (first.0, plain_both es more first.1 second)

same_pair : (call : LoopCall) (x y : LoopAnswer call × Handshakes) → ◌≡◌ {A = LoopProgram (LoopAnswer call × Handshakes)} (Return x) (Return y) → x ≡ y
same_pair call x y is = cc is

module _ (keys : Keys) where
  one_plain : (k u : Handshakes) (call : Call) (answer : Answer call) (own : List TraceEntry) → is_plain call ≡ true → CallIsSecured keys k call answer own u → ArePlain own
  one_plain k u (OnLoop call) answer own plain one =
      subst ArePlain (sym one.1) (plain_calls (answers keys k call) (Return (answer, u)) one.0 (answers_so keys (has_keys keys) k call plain) one.2)
  one_plain k u (OnDisk call) answer own plain one = subst ArePlain (sym one.0) (plain, tt)
  one_plain k u (OnFiles call) answer own plain one = subst ArePlain (sym one.0) (plain, tt)
  one_plain k u (OnKeeper call) answer own plain one = absurd (cc plain)
  one_plain k u (Note fact) answer own plain one = subst ArePlain (sym one.0) (plain, tt)

  -- plain calls of the engine are plain calls on the devices
  pub plain_below : (k t : Handshakes) (above below : List TraceEntry) → ArePlain above → IsSecured keys k above below t → ArePlain below
  plain_below k t [] below plain so = subst ArePlain (sym so.0) tt
  plain_below k t (e ∷ es) below plain so = subst ArePlain (sym so.3) (plain_both so.0 so.1 (one_plain k so.2 e.call e.answer so.0 plain.0 so.4) (plain_below so.2 t es so.1 plain.1 so.5))

  -- without keys the handshakes stay as they are
  unkeyed_answer : (k u : Handshakes) (call : LoopCall) (answer : LoopAnswer call) (es : List LoopEntry) → Execution (answers_by false keys k call) es (Return (answer, u)) → u ≡ k
  unkeyed_answer k u call answer [] way = absurd (cc way)
  unkeyed_answer k u call answer (e ∷ []) way = ap (λ (p : LoopAnswer call × Handshakes). p.1) (same_pair call (answer, u) (way.0, k) way.2)
  unkeyed_answer k u call answer (e ∷ d ∷ es) way = absurd way.2

  one_unkeyed : has_keys keys ≡ false → (k u : Handshakes) (call : Call) (answer : Answer call) (own : List TraceEntry) → CallIsSecured keys k call answer own u → u ≡ k
  one_unkeyed none k u (OnLoop call) answer own one = unkeyed_answer k u call answer one.0 (subst (λ (b : Bool). Execution (answers_by b keys k call) one.0 (Return (answer, u))) none one.2)
  one_unkeyed none k u (OnDisk call) answer own one = one.1
  one_unkeyed none k u (OnFiles call) answer own one = one.1
  one_unkeyed none k u (OnKeeper call) answer own one = one.1
  one_unkeyed none k u (Note fact) answer own one = one.1

  pub unkeyed_state : has_keys keys ≡ false → (k t : Handshakes) (above below : List TraceEntry) → IsSecured keys k above below t → t ≡ k
  unkeyed_state none k t [] below so = so.1
  unkeyed_state none k t (e ∷ es) below so = unkeyed_state none so.2 t es so.1 so.5 ∙ one_unkeyed none k so.2 e.call e.answer so.0 so.4

-- ---- a wait

-- kept bytes come first, or the loop below is asked, and then for nothing that waits
pub data WaitsBelow (until paused : ℕ) (k : Handshakes) (calls : List LoopEntry) : Type 0 where
  GivesKept : holds paused k.kept ≡ true → calls ≡ [] → WaitsBelow until paused k calls
  AsksBelow : holds paused k.kept ≡ false → (brought : Happening) (more : List LoopEntry) → calls ≡ entry (Wait until paused) brought ∷ more → ArePlain (map on_loop more) → WaitsBelow until paused k calls

-- none is given exactly if none is held
given_so : (paused : ℕ) (kept : List KeptBytes) → holds paused kept ≡ is_some (first_given paused kept)
given_so paused [] = refl
given_so paused (bytes ∷ kept) = by (is_given paused bytes) (given_so paused kept)
  where
    by : (b : Bool) → holds paused kept ≡ is_some (first_given paused kept) → (b || holds paused kept) ≡ is_some (if b then Some bytes else first_given paused kept)
    by true rest = refl
    by false rest = rest

module _ (keys : Keys) (until paused : ℕ) (k u : Handshakes) (brought : Happening) (calls : List LoopEntry) where
  waits_by_so : (first : Option KeptBytes) → holds paused k.kept ≡ is_some first → Execution (waits_by keys k until paused first) calls (Return (brought, u)) → WaitsBelow until paused k calls
  waits_by_so (Some bytes) is way = by calls way
    where
      by : (es : List LoopEntry) → Execution (waits_by keys k until paused (Some bytes)) es (Return (brought, u)) → WaitsBelow until paused k es
      by [] at = GivesKept is refl
      by (e ∷ es) at = absurd at
  waits_by_so None is way = by calls way
    where
      by : (es : List LoopEntry) → Execution (waits_by keys k until paused None) es (Return (brought, u)) → WaitsBelow until paused k es
      by [] at = absurd (cc at)
      by (e ∷ es) at = AsksBelow is at.0 es (ap (λ (x : LoopEntry). x ∷ es) at.1) (plain_calls (brings keys k at.0) (Return (brought, u)) es (brings_so keys k at.0) at.2)

  unkeyed_so : holds paused k.kept ≡ false → Execution (answers_by false keys k (Wait until paused)) calls (Return (brought, u)) → WaitsBelow until paused k calls
  unkeyed_so is way = by calls way
    where
      by : (es : List LoopEntry) → Execution (answers_by false keys k (Wait until paused)) es (Return (brought, u)) → WaitsBelow until paused k es
      by [] at = absurd (cc at)
      by (e ∷ []) at = AsksBelow is at.0 [] (ap (λ (x : LoopEntry). x ∷ []) at.1) tt
      by (e ∷ d ∷ es) at = absurd at.2

  pub wait_below : (has_keys keys ≡ false → holds paused k.kept ≡ false) → Execution (answers keys k (Wait until paused)) calls (Return (brought, u)) → WaitsBelow until paused k calls
  wait_below none way = by (has_keys keys) none way
    where
      by : (keyed : Bool) → (keyed ≡ false → holds paused k.kept ≡ false) → Execution (answers_by keyed keys k (Wait until paused)) calls (Return (brought, u)) → WaitsBelow until paused k calls
      by true is at = waits_by_so (first_given paused k.kept) (given_so paused k.kept) at
      by false is at = unkeyed_so (is refl) at
