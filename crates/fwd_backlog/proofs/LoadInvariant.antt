-- What the calls of loading keep of the files, and what their answers say of the files.
use Rattle.std.proofs.Common.{◌≡◌, ◌≢◌, ◌⊎◌, inl, inr, ℕ, Bool, true, false, IsTrue, if◌then◌else◌, List, take, drop, Contains, Option, Some, None, refl, sym, ◌∙◌, ap, subst}
use Rattle.std.specs.Str.{bytes_eq}
use Rattle.std.proofs.lemmas.Slice.Eq.{bytes_eq-Decides}
use Rattle.fwd_outside.specs.Program.{and_then}
use Rattle.fwd_outside.specs.AtCrashPoints.{HoldsThroughout}
use Rattle.fwd_outside.proofs.CrashPointLemmas.{holds_weaker}
use Rattle.fwd_outside.proofs.AndThen.{holds_and_then}
use Rattle.fwd_outside.specs.Disk.{DiskProgram, IsFileName, syncs, reads, lists}
use Rattle.fwd_outside.specs.File.{FileState, FileInvariant, IsPostCrash, content, whole}
use Rattle.fwd_outside.specs.DiskStates.{Files, SyncTransition, ReadAnswer, ListAnswer, IsUnder, OnFile, DiskTransition}
use Rattle.fwd_outside.proofs.Invariant.{AllInvariant, sound_whole, read_is_post_crash_state}
use Rattle.fwd_outside.proofs.KeepsBytes.{whole_post_crash}
use Rattle.fwd_backlog.specs.Recovered.{LeavesNoMore}

-- one file: a read returns the same, and a crash leaves nothing that it couldn't have left at first
pub record Kept (first now : FileState) : Type 0 where
  pub reads : content now ≡ content first
  pub images : (image : Option (List ℕ)) → IsPostCrash now image → IsPostCrash first image
  pub sound : FileInvariant now

abbrev pub AllKept : Files → Files → Type 0
AllKept first now = (name : List ℕ) → Kept (first name) (now name)

pub kept_first : (first : Files) → AllInvariant first → AllKept first first
kept_first first sound name = record { reads = refl; images = λ image at. at; sound = sound name }

pub no_more : (first now : Files) → AllKept first now → LeavesNoMore first now
no_more first now kept = record { reads = λ name. (kept name).reads; images = λ name image. (kept name).images image }

there_content : (s : FileState) → IsTrue s.there → content s ≡ Some s.bytes
there_content s there = ap (λ (b : Bool). if b then Some s.bytes else None) there

gone_content : (s : FileState) → s.there ≡ false → content s ≡ None
gone_content s away = ap (λ (b : Bool). if b then Some s.bytes else None) away

pub there_too : (s t : FileState) → content s ≡ content t → IsTrue t.there → IsTrue s.there
there_too s t same there = by s.there refl
  where
    by : (b : Bool) → s.there ≡ b → s.there ≡ true
    by true is = is
    by false is = let no : None ≡ Some t.bytes = sym (gone_content s is) ∙ same ∙ there_content t there in absurd (cc no)

kept_whole : (first now : FileState) → Kept first now → IsTrue now.there → Kept first (whole now.bytes)
kept_whole first now kept there =
    let is = there_content now there in
    record {
      reads = sym is ∙ kept.reads;
      images = λ image at. kept.images image (subst (λ (i : Option (List ℕ)). IsPostCrash now i) (is ∙ sym (whole_post_crash now.bytes image at)) (read_is_post_crash_state now kept.sound));
      sound = sound_whole now.bytes;
    }

kept_synced : (first : FileState) (answer : Option (Unit {0})) (now during after : FileState) → Kept first now → SyncTransition answer now during after → Kept first during × Kept first after
kept_synced first (Some done) now during after kept synced = (subst (Kept first) (sym synced.1) kept, subst (Kept first) (sym synced.2) (kept_whole first now kept synced.0))
kept_synced first None now during after kept same = (subst (Kept first) (sym same.0) kept, subst (Kept first) (sym same.1) kept)

pub one_or_other : (name n : List ℕ) → (n ≡ name) ⊎ (n ≢ name)
one_or_other name n = by (bytes_eq n name) refl
  where
    by : (b : Bool) → bytes_eq n name ≡ b → (n ≡ name) ⊎ (n ≢ name)
    by true is = inl ((bytes_eq-Decides n name).0 is)
    by false is = inr (λ e. let no : true ≡ false = sym ((bytes_eq-Decides n name).1 e) ∙ is in absurd (cc no))

module _ (first : Files) where
  kept_on : (name : List ℕ) (answer : Option (Unit {0})) (now during after : Files) → AllKept first now → OnFile name (SyncTransition answer) now during after → AllKept first during × AllKept first after
  kept_on name answer now during after kept steps = (λ n. (at n (one_or_other name n)).0, λ n. (at n (one_or_other name n)).1)
    where
      at : (n : List ℕ) → (n ≡ name) ⊎ (n ≢ name) → Kept (first n) (during n) × Kept (first n) (after n)
      at n (inl is) =
          let both = kept_synced (first name) answer (now name) (during name) (after name) (kept name) steps.file in
          (subst (λ (m : List ℕ). Kept (first m) (during m)) (sym is) both.0, subst (λ (m : List ℕ). Kept (first m) (after m)) (sym is) both.1)
      at n (inr ne) = (subst (Kept (first n)) (sym (steps.others_during n ne)) (kept n), subst (Kept (first n)) (sym (steps.others n ne)) (kept n))

  -- all is kept, and if there is a value, it satisfies this
  abbrev pub With : {R : Type 0} → (R → Type 0) → Option R → Files → Type 0
  With P (Some x) now = AllKept first now × P x
  With P None now = AllKept first now

  with_more : {R : Type 0} (P Q : R → Type 0) → ((x : R) → P x → Q x) → (r : Option R) (now : Files) → With P r now → With Q r now
  with_more P Q more (Some x) now h = (h.0, more x h.1)
  with_more P Q more None now h = h

  abbrev pub Goes : {R : Type 0} → (R → Type 0) → Files → DiskProgram (Option R) → Type 0
  Goes P now program = HoldsThroughout DiskTransition (AllKept first) (With P) now program

  pub goes_more : {R : Type 0} (P Q : R → Type 0) → ((x : R) → P x → Q x) → (now : Files) (p : DiskProgram (Option R)) → Goes P now p → Goes Q now p
  goes_more P Q more now p goes = holds_weaker DiskTransition (AllKept first) (AllKept first) (With P) (With Q) now p (λ s h. h) (with_more P Q more) goes

  pub goes_then : {R S : Type 0} (P : R → Type 0) (Q : S → Type 0) (now : Files) (p : DiskProgram (Option R)) (next : R → DiskProgram (Option S))
      → Goes P now p → ((x : R) (end : Files) → AllKept first end → P x → Goes Q end (next x)) → Goes Q now (and_then p next)
  goes_then P Q now p next goes more = holds_and_then DiskTransition (AllKept first) (With P) (With Q) now p next goes (λ x end h. more x end h.0 h.1) (λ end h. (h, h))

  with_done : (answer : Option (Unit {0})) (now : Files) → AllKept first now → With (λ _. Unit {0}) answer now
  with_done (Some done) now kept = (kept, tt)
  with_done None now kept = kept

  pub goes_syncs : (name : List ℕ) (now : Files) → AllKept first now → Goes (λ _. Unit {0}) now (syncs name)
  goes_syncs name now kept = (
    kept,
    λ answer during after steps. let both = kept_on name answer now during after kept steps in (both.0, (both.1, with_done answer after both.1)),
  )

  -- what was read was there at first
  abbrev pub ReadFrom : List ℕ → ℕ → ℕ → List ℕ → Type 0
  ReadFrom name at len bytes = (all : List ℕ) × (content (first name) ≡ Some all) × (bytes ≡ take len (drop at all))

  with_read : (name : List ℕ) (at len : ℕ) (now after : Files) → AllKept first now → AllKept first after → (answer : Option (List ℕ)) → ReadAnswer at len answer (now name) → With (ReadFrom name at len) answer after
  with_read name at len now after kept then_kept (Some bytes) has = (then_kept, ((now name).bytes, sym (kept name).reads ∙ there_content (now name) has.0, has.1))
  with_read name at len now after kept then_kept None has = then_kept

  pub goes_reads : (name : List ℕ) (at len : ℕ) (now : Files) → AllKept first now → Goes (ReadFrom name at len) now (reads name at len)
  goes_reads name at len now kept = (
    kept,
    λ answer during after steps.
        let then_kept = subst (AllKept first) (sym steps.1.1) kept in
        (subst (AllKept first) (sym steps.1.0) kept, (then_kept, with_read name at len now after kept then_kept answer steps.0)),
  )

  -- each file that was in the folder at first has its name listed
  abbrev pub ListedFrom : List ℕ → List (List ℕ) → Type 0
  ListedFrom folder names = (name file : List ℕ) → IsFileName name → IsTrue (first file).there → IsUnder folder name file → Contains names name

  with_names : (folder : List ℕ) (now after : Files) → AllKept first now → AllKept first after → (answer : Option (List (List ℕ))) → ListAnswer folder answer now → With (ListedFrom folder) answer after
  with_names folder now after kept then_kept (Some names) has = (then_kept, λ name file is there under. has.all name file is (there_too (now file) (first file) (kept file).reads there) under)
  with_names folder now after kept then_kept None has = then_kept

  pub goes_lists : (folder : List ℕ) (now : Files) → AllKept first now → Goes (ListedFrom folder) now (lists folder)
  goes_lists folder now kept = (
    kept,
    λ answer during after steps.
        let then_kept = subst (AllKept first) (sym steps.1.1) kept in
        (subst (AllKept first) (sym steps.1.0) kept, (then_kept, with_names folder now after kept then_kept answer steps.0)),
  )
