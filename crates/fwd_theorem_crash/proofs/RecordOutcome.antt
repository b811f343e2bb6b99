-- The outcome of a route is recorded: each crash point is safe, and the order invariant holds afterwards.
use Rattle.std.proofs.Common.{◌≡◌, ◌⊎◌, inl, inr, ℕ, ◌+◌, Bool, true, false, IsTrue, if◌then◌else◌, List, ◌∷◌, Option, Some, None, refl, sym, ◌∙◌, ap, subst}
use Rattle.std.specs.Prelude.{Contains, ◌==◌}
use Rattle.std.specs.Option.{option_map_or}
use Rattle.std.proofs.lemmas.Bool.{eq-eqb, eqb-true}
use Rattle.fwd_outside.specs.Program.{Return, Ask, bind, and_then}
use Rattle.fwd_outside.specs.AtCrashPoints.{HoldsThroughout}
use Rattle.fwd_outside.proofs.CrashPointLemmas.{holds_bind}
use Rattle.fwd_outside.specs.Disk.{DiskProgram}
use Rattle.fwd_outside.specs.declared.home.Home.TheVariants.{Disk}
use Rattle.fwd_outside.specs.DiskStates.{Files}
use Rattle.fwd_outside.specs.DiskStates as disk
use Rattle.fwd_outside.specs.PostCrash.{AllPostCrash}
use Rattle.fwd_chunk.specs.declared.append.ChunkHead.{ChunkHead}
use Rattle.fwd_chunk.specs.Append.{sync_if_program}
use Rattle.fwd_chunk.specs.Outcome.{bytes_from, place_before, outcome_place, settle_at_program, settle_program, NamesOutputsIn, KeepsOtherOutcomes, RecordedIn}
use Rattle.fwd_chunk.proofs.OutcomeClauses.{settle_keeps}
use Rattle.fwd_chunk.specs.declared.kept.Kept.{Kept as Held}
use Rattle.fwd_chunk.specs.declared.kept.Kept.TheVariants.{InFile, Adopted, InMemory}
use Rattle.fwd_chunk.specs.Kept.{file_of_optional}
use Rattle.fwd_settings.specs.declared.settings_types.AllSettings.{AllSettings}
use Rattle.fwd_settings.specs.Requirements.{MeetsRequirements}
use Rattle.fwd_model.specs.Fact.{History, Route, MarkStarted, Marked, IoFailed}
use Rattle.fwd_model.specs.Trace.{Note}
use Rattle.fwd_model.specs.DeviceActions.{on_disk}
use Rattle.fwd_model.specs.Settings.{output_name}
use Rattle.fwd_model.specs.Chunks.{ChunkInfo, chunks_of, chunk_at, is_closed}
use Rattle.fwd_model.specs.ChunkStorage.{kept_of, mark_position}
use Rattle.fwd_model.specs.Routes.{is_resolved, is_owed, owes, home_of}
use Rattle.fwd_model.specs.ResolveActions.{after_mark, marks_at, records}
use Rattle.fwd_theorem_trace.specs.Past.{Past, logged}
use Rattle.fwd_theorem_trace.specs.Allowed.{Allowed}
use Rattle.fwd_theorem_trace.specs.Sound.{Sound}
use Rattle.fwd_theorem_trace.proofs.Members.{from_find}
use Rattle.fwd_theorem_trace.proofs.Invariant.{sound as sound_past}
use Rattle.fwd_theorem_crash.specs.CrashPoint.{CrashPoint, crash_point, LeadsTo}
use Rattle.fwd_theorem_crash.specs.RecordedOutcomes.{is_recorded, may_be_recorded}
use Rattle.fwd_theorem_crash.specs.ChunkFile.{IsIntact}
use Rattle.fwd_theorem_crash.specs.FlushEvents.{FlushesSendTheirChunks}
use Rattle.fwd_theorem_crash.specs.Safety.{IsSafe, IsHeld}
use Rattle.fwd_theorem_crash.proofs.HeadMetadata.{named_of}
use Rattle.fwd_theorem_crash.proofs.OrderInvariant.{head_of, NamesAll, PendingFile, InOrder, HaveRoom}
use Rattle.fwd_theorem_crash.proofs.Lookups.{held_of, same_head, one_chunk}
use Rattle.fwd_theorem_crash.proofs.Safety.{local_safe}
use Rattle.fwd_theorem_crash.proofs.PlainFacts.{plain_order}
use Rattle.fwd_theorem_crash.proofs.RecordingOrder.{IsApart, settles_whole, recorded_order, unrecorded_order}
use Rattle.fwd_model.proofs.Outputs.{apart_output}
use Rattle.fwd_theorem_crash.proofs.RunTraversal.{after, ReturnsHistoryBy}
use Rattle.fwd_theorem_crash.proofs.DiskPoints.{HoldsAfter, with_all, Ordered, Safe, Kept, Told, Came, safe_now, plain_kept, runs, notes, notes_last}

-- two properties hold at each point
holds_both : {R : Type 0} (P P2 : Files → Type 0) (Q Q2 : R → Files → Type 0) (p : DiskProgram R) (files : Files) → HoldsThroughout disk.DiskTransition P Q files p → HoldsThroughout disk.DiskTransition P2 Q2 files p
    → HoldsThroughout disk.DiskTransition P (λ x now. Q x now × Q2 x now) files p
holds_both P P2 Q Q2 (Return x) files one two = (one.0, (one.1, two.1))
holds_both P P2 Q Q2 (Ask call go) files one two = (
  one.0,
  λ answer during end steps.
      let first = one.1 answer during end steps in
      let second = two.1 answer during end steps in
      (first.0, holds_both P P2 Q Q2 (go answer) end first.1 second.1),
)

-- if there is a position, it answers yes or fails
abbrev Yes : Option Bool → Files → Type 0
Yes answer now = (answer ≡ Some true) ⊎ (answer ≡ None)

abbrev Any : Files → Type 0
Any now = Unit {0}

says_yes : (head : ChunkHead) (full : Bool) (files : Files) → HoldsThroughout disk.DiskTransition Any Yes files (and_then (sync_if_program full head.name) (λ _. Return (Some true)))
says_yes head false files = (tt, inl refl)
says_yes head true files = (tt, λ answer during end steps. (tt, by answer end))
  where
    by : (answer : Option (Unit {0})) (end : Files) → HoldsThroughout disk.DiskTransition Any Yes end (and_then (Return answer) (λ _. Return (Some true)))
    by (Some done) end = (tt, inl refl)
    by None end = (tt, inr refl)

settles_yes : (head : ChunkHead) (full : Bool) (place : ℕ) (files : Files) → HoldsThroughout disk.DiskTransition Any Yes files (settle_at_program head full (Some place))
settles_yes head full place files = (tt, λ answer during end steps. (tt, by answer end))
  where
    by : (answer : Option (Unit {0})) (end : Files) → HoldsThroughout disk.DiskTransition Any Yes end (and_then (Return answer) (λ _. and_then (sync_if_program full head.name) (λ _. Return (Some true))))
    by (Some done) end = says_yes head full end
    by None end = (tt, inr refl)

-- the chunk of a pending number
owed_chunk : (s : AllSettings) (h : History) (n : ℕ) → owes s h n ≡ true → (c : ChunkInfo) × Contains (chunks_of h) c × (c.number ≡ n) × (is_owed s h c ≡ true)
owed_chunk s h n is = by (chunk_at h n) refl is
  where
    by : (found : Option ChunkInfo) → chunk_at h n ≡ found → option_map_or (is_owed s h) found false ≡ true → (c : ChunkInfo) × Contains (chunks_of h) c × (c.number ≡ n) × (is_owed s h c ≡ true)
    by None at is = absurd (cc is)
    by (Some c) at is = let found = from_find (λ (c : ChunkInfo). c.number == n) (chunks_of h) c at in (c, found.0, eqb-true c.number n found.1, is)

marked : (head : ChunkHead) (output : List ℕ) (place : ℕ) → outcome_place head output ≡ Some place → head.mark ≡ 2
marked head output place is = by (head.mark == 2) refl is
  where
    by : (b : Bool) → (head.mark == 2) ≡ b → (if b then place_before (24 + head.meta) (bytes_from output head.outputs) else None) ≡ Some place → head.mark ≡ 2
    by true at is = eqb-true head.mark 2 at
    by false at is = absurd (cc is)

begun_now : (s : AllSettings) (r : Route) (h : History) → may_be_recorded s (MarkStarted r ∷ h) r ≡ true
begun_now s r h = rw (eq-eqb r.chunk r.chunk refl, eq-eqb r.output r.output refl) refl

open_now : (s : AllSettings) (r : Route) (h : History) → is_recorded s (MarkStarted r ∷ h) r ≡ false
open_now s r h = rw (eq-eqb r.chunk r.chunk refl, eq-eqb r.output r.output refl) refl

module _ (s : AllSettings) (settings : MeetsRequirements s) (full : s.service.full ≡ true) (first : Files) (r : Route) (m : CrashPoint) (owed : owes s (logged m.past) r.chunk ≡ true) (resolved : is_resolved s (logged m.past) r ≡ true) (kept : Kept s first m) where
  abbrev h : History
  h = logged m.past

  abbrev output : List ℕ
  output = output_name s r.output

  stays : ReturnsHistoryBy (Safe s first) (Kept s first) m (Return h)
  stays = (safe_now s first m kept, (refl, kept))

  module _ (head : ChunkHead) (held : head_of (kept_of s h r.chunk) ≡ Some head) (place : ℕ) (is_place : outcome_place head output ≡ Some place) (answer : Unit {0}) where
    abbrev at : CrashPoint
    at = after m (Note (MarkStarted r)) answer

    abbrev g : History
    g = MarkStarted r ∷ h

    at_kept : Kept s first at
    at_kept = plain_kept s first (MarkStarted r) answer m tt kept

    -- the chunk and its file, if the run may have reached this point
    record Here : Type 0 where
      sound : Sound s h
      sound_now : Sound s g
      shut : is_closed h r.chunk ≡ true
      order : InOrder s first g m.files
      room : HaveRoom g
      hands : FlushesSendTheirChunks s g
      c : ChunkInfo
      among : Contains (chunks_of h) c
      number : c.number ≡ r.chunk
      filed : PendingFile s g c m.files
      is_head : filed.head ≡ head
      mark : head.mark ≡ 2

    here : Allowed s at.past → Here
    here due =
        let was = at_kept due in
        let sound = sound_past s m.past due.1 in
        let own = owed_chunk s h r.chunk owed in
        let home = was.order.home r.chunk head held in
        let one : home.of ≡ own.0 = one_chunk s h home.of own.0 sound home.among own.1 (home.is ∙ sym own.2) in
        let filed = was.order.owed own.0 own.1 own.3 (subst (λ (c : ChunkInfo). home_of s c.input ≡ Disk) one home.home) in
        record {
          sound = sound;
          sound_now = sound_past s at.past due;
          shut = due.0;
          order = was.order;
          room = was.room;
          hands = was.hands;
          c = own.0;
          among = own.1;
          number = own.2;
          filed = filed;
          is_head = same_head (kept_of s h r.chunk) filed.head head (subst (λ (n : ℕ). head_of (kept_of s h n) ≡ Some filed.head) own.2 filed.held) held;
          mark = marked head output place is_place;
        }

    images_of : (x : Here) → AllPostCrash head.name (IsIntact s g x.c) m.files
    images_of x = subst (λ (one : ChunkHead). AllPostCrash one.name (IsIntact s g x.c) m.files) x.is_head x.filed.images

    names_of : (x : Here) → AllPostCrash head.name (NamesAll head) m.files
    names_of x = subst (λ (one : ChunkHead). AllPostCrash one.name (NamesAll one) m.files) x.is_head x.filed.names

    names_in : (x : Here) → NamesOutputsIn head m.files
    names_in x image is = named_of head image (names_of x image is) x.mark

    abbrev Going : Files → Type 0
    Going now = KeepsOtherOutcomes head output m.files now

    abbrev Ended : Option Bool → Files → Type 0
    Ended answer last = (answer ≡ Some true → IsTrue s.service.full → RecordedIn head output m.files last) × Yes answer last

    abbrev Behind : Option Bool → Files → Type 0
    Behind answer last = HoldsAfter Going Ended answer last

    apart_of : (x : Here) → IsApart s x.c r
    apart_of x name_of has is = apart_output s settings x.c.tag name_of r.output has is

    both_of : (x : Here) (now : Files) → Going now → AllPostCrash head.name (IsIntact s g x.c) now × AllPostCrash head.name (NamesAll head) now
    both_of x now going = settles_whole s x.c r x.number (apart_of x) g m.files now head (images_of x) (begun_now s r h) resolved (open_now s r h) going.0

    safe_at : (x : Here) (past : Past) (now : Files) → logged past ≡ g → Going now → IsSafe s first (crash_point past now)
    safe_at x past now same going =
        let held_now : file_of_optional (kept_of s g r.chunk) ≡ Some head.name = held_of (kept_of s h r.chunk) head held in
        local_safe s first past m.files now head.name (subst (λ (y : History). InOrder s first y m.files) (sym same) x.order) going.1
        (λ d among owed_d home at image is.
        let number : d.number ≡ r.chunk = x.order.differ d.number r.chunk head.name (subst (λ (y : History). file_of_optional (kept_of s y d.number) ≡ Some head.name) same at) held_now in
        let one : d ≡ x.c = one_chunk s h d x.c x.sound (subst (λ (y : History). Contains (chunks_of y) d) same among) x.among (number ∙ sym x.number) in
        subst (λ (y : History). IsIntact s y d image) (sym same) (subst (λ (e : ChunkInfo). IsIntact s g e image) (sym one) ((both_of x now going).0 image is)))
        (λ bytes is. IsHeld r.chunk (subst (λ (y : History). file_of_optional (kept_of s y r.chunk) ≡ Some head.name) (sym same) held_now))

    calls : Allowed s at.past → HoldsThroughout disk.DiskTransition Going Behind m.files (settle_program head output s.service.full)
    calls due =
        let x = here due in
        with_all Going Ended (settle_program head output s.service.full) m.files x.order.sound
        (holds_both Going Any (λ answer last. answer ≡ Some true → IsTrue s.service.full → RecordedIn head output m.files last) Yes (settle_program head output s.service.full) m.files
        (settle_keeps head output m.files x.order.sound (names_in x) s.service.full)
        (subst (λ (o : Option ℕ). HoldsThroughout disk.DiskTransition Any Yes m.files (settle_at_program head s.service.full o)) (sym is_place) (settles_yes head s.service.full place m.files)))

    end_safe : (reply : Option Bool) (end : CrashPoint) → Came s first at Behind reply end → Safe s first end
    end_safe reply end came due = let is = came.1 due in safe_at (here is.0) end.past end.files came.0 is.1.going

    behind : (reply : Option Bool) (end : CrashPoint) → Came s first at Behind reply end → ReturnsHistoryBy (Safe s first) (Kept s first) end (after_mark r g reply)
    behind (Some said) end came =
        notes_last s first (Marked r) g end came.0 (end_safe (Some said) end came)
        (λ answer due.
        let is = came.1 due.1 in
        let x = here is.0 in
        subst (λ (y : History). Ordered s first (Marked r ∷ y) end.files) (sym came.0)
        (record {
          order = recorded_order s first g m.files end.files x.c r head x.sound_now x.order x.among x.number (apart_of x) x.shut held place is_place (begun_now s r h) resolved
              (is.1.ended.0 (by is.1.ended.1) full) is.1.going.1 is.1.sound;
          room = x.room;
          hands = x.hands;
        }))
      where
        by : (Some said ≡ Some true) ⊎ (Some said ≡ None) → Some said ≡ Some true
        by (inl is) = is
        by (inr is) = absurd (cc is)
    behind None end came =
        notes_last s first IoFailed g end came.0 (end_safe None end came)
        (λ answer due.
        let is = came.1 due.1 in
        let x = here is.0 in
        let order = unrecorded_order s first g m.files end.files x.c r head x.sound_now x.order x.among x.number (apart_of x) x.shut held place is_place (begun_now s r h) resolved (open_now s r h) is.1.going is.1.sound in
        subst (λ (y : History). Ordered s first (IoFailed ∷ y) end.files) (sym came.0) (record { order = plain_order s first IoFailed g end.files tt order; room = x.room; hands = x.hands }))

    records_it : ReturnsHistoryBy (Safe s first) (Kept s first) at (bind (on_disk (settle_program head output s.service.full)) (after_mark r g))
    records_it =
        holds_bind LeadsTo (Safe s first) (Came s first at Behind) (Told s first) at (on_disk (settle_program head output s.service.full)) (after_mark r g)
        (runs s first at Going Behind (λ due past now same going. safe_at (here due) past now same going) (settle_program head output s.service.full) calls) behind

  in_file : (head : ChunkHead) → kept_of s h r.chunk ≡ Some (InFile head) → (place : Option ℕ) → outcome_place head output ≡ place → ReturnsHistoryBy (Safe s first) (Kept s first) m (marks_at s r (Some (InFile head)) place h)
  in_file head held None is = stays
  in_file head held (Some place) is =
      notes s first (Told s first) (MarkStarted r) h m (λ g. bind (on_disk (settle_program head output s.service.full)) (after_mark r g)) refl (safe_now s first m kept)
      (λ answer. records_it head (ap head_of held) place is answer)

  adopted : (head : ChunkHead) → kept_of s h r.chunk ≡ Some (Adopted head) → (place : Option ℕ) → outcome_place head output ≡ place → ReturnsHistoryBy (Safe s first) (Kept s first) m (marks_at s r (Some (Adopted head)) place h)
  adopted head held None is = stays
  adopted head held (Some place) is =
      notes s first (Told s first) (MarkStarted r) h m (λ g. bind (on_disk (settle_program head output s.service.full)) (after_mark r g)) refl (safe_now s first m kept)
      (λ answer. records_it head (ap head_of held) place is answer)

  by : (held : Option Held) → kept_of s h r.chunk ≡ held → ReturnsHistoryBy (Safe s first) (Kept s first) m (marks_at s r held (mark_position output held) h)
  by None is = stays
  by (Some (InMemory content)) is = stays
  by (Some (InFile head)) is = in_file head is (outcome_place head output) refl
  by (Some (Adopted head)) is = adopted head is (outcome_place head output) refl

  pub records_well : ReturnsHistoryBy (Safe s first) (Kept s first) m (records s r h)
  unfolding records
  records_well = by (kept_of s h r.chunk) refl
