-- Traversals of the gets and puts of offsets.
use Rattle.std.proofs.Common.{◌≡◌, ℕ, List, [], ◌∷◌, Option, Some, None, refl}
use Rattle.std.specs.Prelude.{Contains}
use Rattle.fwd_outside.specs.Program.{entry}
use Rattle.fwd_keeper.specs.Keeper.{KeeperCall, KeeperAnswer, Get, Put}
use Rattle.fwd_settings.specs.declared.settings_types.AllSettings.{AllSettings}
use Rattle.fwd_model.specs.Fact.{Fact, History, Resumed, Saved}
use Rattle.fwd_model.specs.Trace.{Action, OnKeeper, Note}
use Rattle.fwd_model.specs.Settings.{paths_at}
use Rattle.fwd_model.specs.FollowedFiles.{settled}
use Rattle.fwd_model.specs.KeptOffsets.{Tracked, tracked, kept_at, to_put, indexes_from, resumes, got, gets, after_put, puts_by, puts}
use Rattle.fwd_theorem_trace.specs.Past.{Past, logged}
use Rattle.fwd_theorem_trace.specs.Allowed.{IsStart, IsAllowed}
use Rattle.fwd_theorem_trace.proofs.Members.{here, deeper}
use Rattle.fwd_theorem_trace.proofs.Traversal.{Traverses}

-- the facts that gets and puts bring
abbrev pub IsOffsetFact : Fact → Type 0
IsOffsetFact (Resumed input index place) = Unit {0}
IsOffsetFact (Saved input index place) = Unit {0}
IsOffsetFact fact = ⊥

-- an invariant of the past that calls of a keeper and the facts that they bring keep
pub record StaysAside (s : AllSettings) (P : Past → Type 0) : Type 0 where
  pub call : (call : KeeperCall) (answer : KeeperAnswer call) (past : Past) → IsAllowed s (OnKeeper call) past → P past → P (entry (OnKeeper call) answer ∷ past)
  pub fact : (fact : Fact) (answer : Unit {0}) (past : Past) → IsOffsetFact fact → IsAllowed s (Note fact) past → P past → P (entry (Note fact) answer ∷ past)

abbrev pub AreTracked : AllSettings → List Tracked → Type 0
AreTracked s [] = Unit {0}
AreTracked s (t ∷ ts) = Contains (tracked s) t × AreTracked s ts

tracked_in : (s : AllSettings) (ts : List Tracked) → ((t : Tracked) → Contains ts t → Contains (tracked s) t) → AreTracked s ts
tracked_in s [] all = tt
tracked_in s (t ∷ ts) all = (all t (here t ts), tracked_in s ts (λ x has. all x (deeper t ts x has)))

pub all_tracked : (s : AllSettings) → AreTracked s (tracked s)
all_tracked s = tracked_in s (tracked s) (λ t has. has)

-- P holds at each point, and K with it wherever a keeper may be called
module _ (s : AllSettings) (P K : Past → Type 0) (aside : StaysAside s (λ past. P past × K past)) {R : Type 0} (Q : R → Past → Type 0) where
  abbrev pub Goes : (History → Action R) → Type 0
  Goes next = (now : Past) → P now × K now → Traverses P Q now (next (logged now))

  -- ---- after a turn

  put_on : (t : Tracked) (place : ℕ) (next : History → Action R) (past : Past) (answer : Option (Unit {0})) → Contains (tracked s) t → Goes next
      → P (entry (OnKeeper (Put t.db t.path place)) answer ∷ past) × K (entry (OnKeeper (Put t.db t.path place)) answer ∷ past)
      → Traverses P Q (entry (OnKeeper (Put t.db t.path place)) answer ∷ past) (after_put t place next (logged past) answer)
  put_on t place next past None among more so = more (entry (OnKeeper (Put t.db t.path place)) None ∷ past) so
  put_on t place next past (Some done) among more so =
      let now : Past = entry (OnKeeper (Put t.db t.path place)) (Some done) ∷ past in
      let fact : Fact = Saved t.input t.index place in
      let due : IsAllowed s (Note fact) now = record { file = t; among = among; of = (refl, refl); before = past; is = refl } in
      (so.0, λ answer. more (entry (Note fact) answer ∷ now) (aside.fact fact answer now tt due so))

  pub puts_on : (ts : List Tracked) (next : History → Action R) → AreTracked s ts → Goes next → Goes (puts s ts next)
  puts_on [] next among more past so = more past so
  puts_on (t ∷ ts) next among more past so = by (to_put (settled s (logged past) t.input t.index) (kept_at (logged past) t.input t.index)) refl (puts_on ts next among.1 more)
    where
      by : (o : Option ℕ) → to_put (settled s (logged past) t.input t.index) (kept_at (logged past) t.input t.index) ≡ o → Goes (puts s ts next) → Traverses P Q past (puts_by t o (puts s ts next) (logged past))
      by None is rest = rest past so
      by (Some place) is rest =
          let due : IsAllowed s (OnKeeper (Put t.db t.path place)) past = record { file = t; among = among.0; of = (refl, refl); new = is } in
          (so.0, λ answer. put_on t place (puts s ts next) past answer among.0 rest (aside.call (Put t.db t.path place) answer past due so))

  -- ---- at the start of a run

  abbrev pub Starts : (History → Action R) → Type 0
  Starts next = (now : Past) → IsStart (logged now) → P now × K now → Traverses P Q now (next (logged now))

  resumes_on : (input place : ℕ) (indexes : List ℕ) (next : History → Action R) → Starts next → Starts (resumes input place indexes next)
  resumes_on input place [] next more past start so = more past start so
  resumes_on input place (index ∷ indexes) next more past start so = (
    so.0,
    λ answer.
        let fact : Fact = Resumed input index place in
        resumes_on input place indexes next more (entry (Note fact) answer ∷ past) start (aside.fact fact answer past tt start so),
  )

  got_on : (t : Tracked) (failed next : History → Action R) (answer : Option (Option ℕ)) → Starts failed → Starts next → Starts (λ h. got s t failed next h answer)
  got_on t failed next None ends more past start so = ends past start so
  got_on t failed next (Some None) ends more past start so = more past start so
  got_on t failed next (Some (Some place)) ends more past start so = resumes_on t.input place (indexes_from 0 t.path (paths_at s t.input)) next more past start so

  pub gets_on : (ts : List Tracked) (failed next : History → Action R) → Starts failed → Starts next → Starts (gets s ts failed next)
  gets_on [] failed next ends more past start so = more past start so
  gets_on (t ∷ ts) failed next ends more past start so = (
    so.0,
    λ answer.
        got_on t failed (gets s ts failed next) answer ends (gets_on ts failed next ends more) (entry (OnKeeper (Get t.db t.path)) answer ∷ past) start
        (aside.call (Get t.db t.path) answer past start so),
  )
