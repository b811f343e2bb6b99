-- Links of keyed outputs: `below` are the calls on the loop below, `above` those on the keyed loop.
use Rattle.std.specs.Prelude.{◌≡◌, ◌≢◌, ℕ, List, [], ◌∷◌, ◌++◌, drop, Some}
use Rattle.fwd_outside.specs.Program.{entry}
use Rattle.fwd_outside.specs.Loop.{LoopEntry, Wait, Dial, Push, Word, Again}
use Rattle.fwd_outside.specs.declared.happening.Happening.TheVariants.{Room}
use Rattle.fwd_handshake.specs.declared.ring.Ring.{Ring}
use Rattle.fwd_handshake.specs.declared.received.Received.{Received}
use Rattle.fwd_handshake.specs.declared.received.Received.TheVariants.{Right}
use Rattle.fwd_handshake.specs.Judgement.{helo_received, pong_received}
use Rattle.fwd_handshake.specs.Messages.{ping}
use Rattle.fwd_secure.specs.declared.keys.Keys.{Keys}
use Rattle.fwd_secure.specs.declared.handshakes.RandomBytes.{RandomBytes}
use Rattle.fwd_secure.specs.RandomBytes.{random_bytes}
use Rattle.fwd_secure.specs.Handshakes.{Handshakes, no_handshakes}
use Rattle.fwd_secure.specs.Carried.{Carries}
use Rattle.fwd_theorem_keys.specs.Traffic.{taken_on, back_on}

-- the judgement isn't `Right`
abbrev pub IsNotRight : Received → Type 0
IsNotRight r = (len : ℕ) (content : List ℕ) → r ≡ Right len content → ⊥

-- The PONG isn't right yet. Of the engine's bytes the link took none.
pub data IsUngreeted (ring : Ring) (salt : List ℕ) (link : ℕ) (below : List LoopEntry) : Type 0 where
  -- no right HELO came, and the link took nothing
  NoHelo : IsNotRight (helo_received (back_on link below)) → taken_on link below ≡ []
      → IsUngreeted ring salt link below
  -- a right HELO came, and the link didn't take the last bytes of the PING
  NoPing : (len : ℕ) (nonce rest : List ℕ) → helo_received (back_on link below) ≡ Right len nonce
      → taken_on link below ++ rest ≡ ping ring salt nonce → rest ≢ []
      → IsUngreeted ring salt link below
  -- the link took the PING, and what came after the HELO doesn't begin with a right PONG
  NoPong : (len : ℕ) (nonce : List ℕ) → helo_received (back_on link below) ≡ Right len nonce
      → taken_on link below ≡ ping ring salt nonce
      → IsNotRight (pong_received ring salt nonce (drop len (back_on link below)))
      → IsUngreeted ring salt link below

-- A right HELO came, the link took the PING, and a right PONG came. Then the link took what it took of the
-- engine's bytes.
pub record IsGreeted (ring : Ring) (salt : List ℕ) (link : ℕ) (below above : List LoopEntry) : Type 0 where
  pub len : ℕ
  pub nonce : List ℕ
  pub size : ℕ
  pub host : List ℕ
  pub helo : helo_received (back_on link below) ≡ Right len nonce
  pub pong : pong_received ring salt nonce (drop len (back_on link below)) ≡ Right size host
  pub taken : taken_on link below ≡ ping ring salt nonce ++ taken_on link above

-- how far the handshake is, by the calls since the dial
pub data Greets (ring : Ring) (salt : List ℕ) (link : ℕ) (below above : List LoopEntry) : Type 0 where
  Ungreeted : IsUngreeted ring salt link below → taken_on link above ≡ [] → Greets ring salt link below above
  Greeted : IsGreeted ring salt link below above → Greets ring salt link below above

-- the calls below of a dial: the salt of the link is the two words that are drawn then
abbrev pub dial_calls : (output : ℕ) → (tag : List ℕ) → (link : ℕ) → RandomBytes → List LoopEntry
dial_calls output tag link salt =
    entry (Dial output tag) (Some link) ∷ entry Word salt.first ∷ entry Word salt.second ∷ []

-- No byte of the engine is taken before the PONG is right. `since` are the engine's calls since the dial.
pub record GreetsFirst (keys : Keys) (ring : Ring) (output : ℕ) (tag : List ℕ) (link : ℕ)
    (below before since : List LoopEntry) : Type 0 where
  -- the calls up to the dial, and the state after it
  pub below_before : List LoopEntry
  pub salt : RandomBytes
  pub at : Handshakes
  pub carries :
      Carries keys no_handshakes (below_before ++ dial_calls output tag link salt)
      (before ++ entry (Dial output tag) (Some link) ∷ []) at
  -- the calls since
  pub below_since : List LoopEntry
  pub below_is : below ≡ (below_before ++ dial_calls output tag link salt) ++ below_since
  pub greets : Greets ring (random_bytes salt) link below_since since

-- Why a push of the engine on the link was answered `Again`; it is the last of the calls `since` the dial.
pub data WhyAgain (keys : Keys) (ring : Ring) (output : ℕ) (tag : List ℕ) (link : ℕ) (bytes : List ℕ)
    (below before since : List LoopEntry) : Type 0 where
  -- the same push on the loop below was
  BelowToo : (front : List LoopEntry) → below ≡ front ++ entry (Push link bytes) Again ∷ []
      → WhyAgain keys ring output tag link bytes below before since
  -- the PONG isn't right yet
  NotYet : (greets : GreetsFirst keys ring output tag link below before since)
      → IsUngreeted ring (random_bytes greets.salt) link greets.below_since
      → WhyAgain keys ring output tag link bytes below before since

-- a right HELO came, the link took the PING at least, and a right PONG came
pub record PongIsRight (ring : Ring) (salt : List ℕ) (link : ℕ) (below : List LoopEntry) : Type 0 where
  pub len : ℕ
  pub nonce : List ℕ
  pub size : ℕ
  pub host : List ℕ
  pub helo : helo_received (back_on link below) ≡ Right len nonce
  pub pong : pong_received ring salt nonce (drop len (back_on link below)) ≡ Right size host
  pub more : List ℕ
  pub taken : taken_on link below ≡ ping ring salt nonce ++ more

-- A wait gave the engine room on the link when the PONG was right: `front` and `early` are the calls up to the
-- end of that wait, from the state `at` after the dial.
pub record HasRoom (keys : Keys) (ring : Ring) (salt : List ℕ) (link : ℕ) (at : Handshakes)
    (below above : List LoopEntry) : Type 0 where
  pub front : List LoopEntry
  pub back : List LoopEntry
  pub below_is : below ≡ front ++ back
  pub early : List LoopEntry
  pub until : ℕ
  pub paused : ℕ
  pub late : List LoopEntry
  pub above_is : above ≡ (early ++ entry (Wait until paused) (Room (record { 0 = link })) ∷ []) ++ late
  pub state : Handshakes
  pub carries : Carries keys at front (early ++ entry (Wait until paused) (Room (record { 0 = link })) ∷ []) state
  pub right : PongIsRight ring salt link front
