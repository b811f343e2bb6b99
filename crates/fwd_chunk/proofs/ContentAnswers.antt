-- Reads of a content that is in its file.
use Rattle.std.proofs.Common.{◌≡◌, ◌≢◌, ℕ, zero, suc, ◌+◌, ◌-◌, ◌<◌, ◌≤◌, min, nat_lt, Bool, true, false, if◌then◌else◌, List, [], ◌++◌, length, length-append, take, drop, Option, Some, None, Result, Ok, Err, refl, sym, ◌∙◌, ap, subst, arith}
use Rattle.std.proofs.lemmas.Bool.{ltb-true, ltb-false}
use Rattle.std.proofs.lemmas.List.{take_all, drop-drop, length-take}
use Rattle.std.proofs.Math.Seq.{take-add, take-length}
use Rattle.fwd_outside.specs.Program.{Return, Ask}
use Rattle.fwd_outside.specs.Log.{RunsFallible}
use Rattle.fwd_outside.specs.AtCrashPoints.{HoldsThroughout}
use Rattle.fwd_outside.proofs.CrashPointLemmas.{holds_weaker}
use Rattle.fwd_outside.proofs.SinceLemmas.{since_attempts, after_did}
use Rattle.fwd_outside.specs.Disk.{DiskLog, DiskProgram, Read}
use Rattle.fwd_outside.specs.DiskStates.{Files, ReadAnswer, DiskTransition, initial_files}
use Rattle.fwd_outside.specs.PostCrash.{DiskSince, DiskAfter}
use Rattle.fwd_event.specs.declared.event.Event.{Event}
use Rattle.fwd_event.specs.Event.{AreEvents, IsWholePrefix}
use Rattle.fwd_chunk.specs.Layout.{part}
use Rattle.fwd_chunk.specs.declared.kept.Kept.{Kept}
use Rattle.fwd_chunk.specs.declared.kept.Kept.TheVariants.{InFile, Adopted, InMemory}
use Rattle.fwd_chunk.specs.declared.content.PartErr.TheVariants.{DiskFailed, Damaged, Memory}
use Rattle.fwd_chunk.specs.Content.{piece, after_read, read_loop, ContentRead, HasRecordedLength, ReadReturns, read_content_program, IsContentOf, IsContentIn, IsValidContent, ReturnsContent}
use Rattle.fwd_chunk.specs.Kept.{size_of}
use Rattle.fwd_chunk.specs.declared.content.PartErr.{PartErr}
use Rattle.fwd_chunk.proofs.ReadPieces.{rest_begins}

-- a prefix, and some of the bytes after it
next_part : (all so_far more : List ℕ) (from wanted : ℕ) → so_far ≡ take (length so_far) (drop from all) → more ≡ take wanted (drop (from + length so_far) all) → so_far ++ more ≡ take (length so_far + wanted) (drop from all)
next_part all so_far more from wanted is next =
    let behind : drop (length so_far) (drop from all) ≡ drop (from + length so_far) all = drop-drop (length so_far) from all in
    sym (take-add (length so_far) wanted (drop from all)
    ∙ ap (λ (l : List ℕ). take (length so_far) (drop from all) ++ take wanted l) behind
    ∙ ap (λ (l : List ℕ). l ++ take wanted (drop (from + length so_far) all)) (sym is)
    ∙ ap (λ (l : List ℕ). so_far ++ l) (sym next))

-- fewer bytes than asked for are all bytes
all_of : (rest got : List ℕ) (count size : ℕ) → got ≡ take count rest → length got < count → count ≤ size → got ≡ take size rest
all_of rest got count size is short le =
    let long : length got ≡ min count (length rest) = ap length is ∙ length-take count rest in
    is ∙ take_all count rest (omega arith) ∙ sym (take_all size rest (omega arith))

-- as many bytes as asked for
full_part : (rest got : List ℕ) (so_far wanted : ℕ) → got ≡ take (so_far + wanted) rest → so_far + wanted ≤ length got → got ≡ take (length got) rest
full_part rest got so_far wanted is long =
    let count : length got ≡ min (so_far + wanted) (length rest) = ap length is ∙ length-take (so_far + wanted) rest in
    let same : length got ≡ so_far + wanted = omega arith in
    is ∙ ap (λ (n : ℕ). take n rest) (sym same)

module _ (name : List ℕ) (from size : ℕ) (files : Files) where
  abbrev rest : List ℕ
  rest = drop from (files name).bytes

  abbrev Same : Files → Type 0
  Same now = now ≡ files

  abbrev Gave : Option (List ℕ) → Files → Type 0
  Gave answer last = (bytes : List ℕ) → answer ≡ Some bytes → bytes ≡ part (files name).bytes from size

  abbrev Goes : ℕ → Type 0
  Goes reads = (so_far : List ℕ) → so_far ≡ take (length so_far) rest → length so_far ≤ size → size ≤ length so_far + reads → HoldsThroughout DiskTransition Same Gave files (read_loop reads name from size so_far)

  at_end : (so_far : List ℕ) → so_far ≡ take (length so_far) rest → length so_far ≡ size → HoldsThroughout DiskTransition Same Gave files (Return (Some so_far))
  at_end so_far is all = (refl, λ bytes e. let same : so_far ≡ bytes = cc e in sym same ∙ is ∙ ap (λ (n : ℕ). take n rest) all)

  abbrev wanted : List ℕ → ℕ
  wanted so_far = piece (size - length so_far)

  behind : (reads : ℕ) (so_far : List ℕ) (answer : Option (List ℕ)) → Goes reads → so_far ≡ take (length so_far) rest → length so_far < size → size ≤ length so_far + suc reads
      → ReadAnswer (from + length so_far) (wanted so_far) answer (files name) → HoldsThroughout DiskTransition Same Gave files (after_read (read_loop reads name from size) so_far (wanted so_far) answer)
  behind reads so_far None goes is some enough read = (refl, λ bytes e. absurd (cc e))
  behind reads so_far (Some more) goes is some enough read = by (nat_lt (length more) (wanted so_far)) refl
    where
      grown : so_far ++ more ≡ take (length so_far + wanted so_far) rest
      grown = next_part (files name).bytes so_far more from (wanted so_far) is read.1

      by : (b : Bool) → nat_lt (length more) (wanted so_far) ≡ b → HoldsThroughout DiskTransition Same Gave files (if b then Return (Some (so_far ++ more)) else read_loop reads name from size (so_far ++ more))
      by true lt =
          let short : length more < wanted so_far = ltb-true (length more) (wanted so_far) lt in (
            refl,
            λ bytes e.
                let same : so_far ++ more ≡ bytes = cc e in
                sym same ∙ all_of rest (so_far ++ more) (length so_far + wanted so_far) size grown (omega (arith, length-append so_far more)) (omega arith),
          )
      by false ge =
          let long : wanted so_far ≤ length more = ltb-false (length more) (wanted so_far) ge in
          let count : length (so_far ++ more) ≡ length so_far + length more = length-append so_far more in
          let cut : length (so_far ++ more) ≡ min (length so_far + wanted so_far) (length rest) = ap length grown ∙ length-take (length so_far + wanted so_far) rest in
          goes (so_far ++ more) (full_part rest (so_far ++ more) (length so_far) (wanted so_far) grown (omega arith)) (omega arith) (omega arith)

  holds_reads_on : (reads : ℕ) → Goes reads
  holds_reads_on zero so_far is within enough = at_end so_far is (omega arith)
  holds_reads_on (suc reads) so_far is within enough = by (nat_lt (length so_far) size) refl (holds_reads_on reads)
    where
      by : (b : Bool) → nat_lt (length so_far) size ≡ b → Goes reads
          → HoldsThroughout DiskTransition Same Gave files (if b then Ask (Read name (from + length so_far) (wanted so_far)) (after_read (read_loop reads name from size) so_far (wanted so_far)) else Return (Some so_far))
      by false ge goes = at_end so_far is (let le : size ≤ length so_far = ltb-false (length so_far) size ge in omega arith)
      by true lt goes = (
        refl,
        λ answer during after steps. (
          steps.1.0,
          subst (λ (now : Files). HoldsThroughout DiskTransition Same Gave now (after_read (read_loop reads name from size) so_far (wanted so_far) answer)) (sym steps.1.1)
              (behind reads so_far answer goes is (ltb-true (length so_far) size lt) enough steps.0),
        ),
      )

  pub holds_reads : HoldsThroughout DiskTransition Same Gave files (read_loop size name from size [])
  holds_reads = holds_reads_on size [] refl (omega arith) (omega arith)

-- these bytes are returned, if any are
abbrev Only : List ℕ → Option (List ℕ) → Files → Type 0
Only content answer last = (bytes : List ℕ) → answer ≡ Some bytes → bytes ≡ content

holds_content : (kept : Kept) (content : List ℕ) (files : Files) → IsContentIn kept content files → HoldsThroughout DiskTransition (λ now. now ≡ files) (Only content) files (read_content_program kept)
holds_content (InFile head) content files stands =
    holds_weaker DiskTransition (λ (now : Files). now ≡ files) (λ (now : Files). now ≡ files) (λ answer last. (bytes : List ℕ) → answer ≡ Some bytes → bytes ≡ part (files head.name).bytes (24 + head.meta) head.size) (Only content) files (read_content_program (InFile head)) (λ _ p. p)
    (λ answer last gave bytes e. gave bytes e ∙ stands) (holds_reads head.name (24 + head.meta) head.size files)
holds_content (Adopted head) content files stands =
    holds_weaker DiskTransition (λ (now : Files). now ≡ files) (λ (now : Files). now ≡ files) (λ answer last. (bytes : List ℕ) → answer ≡ Some bytes → bytes ≡ part (files head.name).bytes (24 + head.meta) head.size) (Only content) files (read_content_program (Adopted head)) (λ _ p. p)
    (λ answer last gave bytes e. gave bytes e ∙ stands) (holds_reads head.name (24 + head.meta) head.size files)
holds_content (InMemory content2) content files stands = (refl, λ bytes e. let same : content2 ≡ bytes = cc e in sym same ∙ stands)

-- the content that is there
standing : (kept : Kept) (files : Files) → (content : List ℕ) × IsContentIn kept content files
standing (InFile head) files = (part (files head.name).bytes (24 + head.meta) head.size, refl)
standing (Adopted head) files = (part (files head.name).bytes (24 + head.meta) head.size, refl)
standing (InMemory content) files = (content, refl)

-- reading a content can't fail before its first call
pub content_begins : (kept : Kept) → read_content_program kept ≢ Return None
content_begins (InFile head) is = rest_begins head.size head.name (24 + head.meta) head.size [] is
content_begins (Adopted head) is = rest_begins head.size head.name (24 + head.meta) head.size [] is
content_begins (InMemory content) is = absurd (cc is)

made_of : {T : Type 0} (a b : DiskLog) (p : DiskProgram (Option (List ℕ))) (Judges : List ℕ → Result T PartErr → Type 0) (r : Result T PartErr) → ReadReturns a b p Judges r → (o : Option (Option (List ℕ))) × RunsFallible a b p o
made_of a b p Judges (Ok content) gives = (Some (Some gives.0), gives.1)
made_of a b p Judges (Err DiskFailed) gives = (Some None, gives)
made_of a b p Judges (Err (Damaged kept got)) gives = (Some (Some gives.0), gives.1)
made_of a b p Judges (Err Memory) gives = (None, gives)

pub nothing_moves : {T : Type 0} (a b : DiskLog) (kept : Kept) (Judges : List ℕ → Result T PartErr → Type 0) (r : Result T PartErr) → ReadReturns a b (read_content_program kept) Judges r → DiskSince a b (λ _. Unit {0}) (λ first now. now ≡ first)
nothing_moves a b kept Judges r gives =
    let made = made_of a b (read_content_program kept) Judges r gives in
    since_attempts DiskTransition initial_files a b (read_content_program kept) made.0 (λ _. Unit {0}) (λ first now. now ≡ first) (λ first answer last. Only (standing kept first).0 answer last) made.1
    (λ first _. holds_content kept (standing kept first).0 first (standing kept first).1)

-- all of them are whole events, as many as are recorded
not_damaged : (content read : List ℕ) (events others : List Event) (kept got : ℕ) → length content ≡ kept → AreEvents events content → read ≡ content → IsWholePrefix others got read → got ≡ kept
not_damaged content read events others kept got long are same prefix =
    let le : length content ≤ got = prefix.longest (length content) events (omega (arith, ap length same)) (subst (λ (l : List ℕ). AreEvents events l) (sym (ap (λ (l : List ℕ). take (length content) l) same ∙ take-length content)) are) in
    let within : got ≤ length read = prefix.within in
    let count : length read ≡ length content = ap length same in
    omega arith

judged : (kept : Kept) (content read : List ℕ) (r : ContentRead) → IsValidContent kept content → IsContentOf kept read r → read ≡ content → ReturnsContent content r
judged (InFile head) content read (Ok bytes) are is same = is.0 ∙ same
judged (Adopted head) content read (Ok bytes) are is same = is.0 ∙ same
judged (InMemory memory) content read (Ok bytes) are is same = let e : bytes ≡ read = cc is in e ∙ same
judged (InFile head) content read (Err (Damaged all got)) are is same = is.1 (not_damaged content read are.events is.2 head.size got are.long are.are same is.3)
judged (Adopted head) content read (Err (Damaged all got)) are is same = is.1 (not_damaged content read are.events is.2 head.size got are.long are.are same is.3)
judged (InMemory memory) content read (Err (Damaged all got)) are is same = absurd (cc is)
judged kept content read (Err DiskFailed) are is same = tt
judged kept content read (Err Memory) are is same = tt

pub given_as_it_stands : (a b : DiskLog) (kept : Kept) (content : List ℕ) (r : ContentRead) → IsValidContent kept content → ReadReturns a b (read_content_program kept) (IsContentOf kept) r → DiskAfter a b (IsContentIn kept content) (λ _ _. ReturnsContent content r)
given_as_it_stands a b kept content (Ok bytes) are gives =
    after_did DiskTransition initial_files a b (read_content_program kept) (Some gives.0) (IsContentIn kept content) (λ first now. now ≡ first) (λ _. Only content) (λ _ _. ReturnsContent content (Ok bytes)) gives.1 (holds_content kept content)
    (λ first last q. judged kept content gives.0 (Ok bytes) are gives.2 (q gives.0 refl))
given_as_it_stands a b kept content (Err (Damaged all got)) are gives =
    after_did DiskTransition initial_files a b (read_content_program kept) (Some gives.0) (IsContentIn kept content) (λ first now. now ≡ first) (λ _. Only content) (λ _ _. ReturnsContent content (Err (Damaged all got))) gives.1 (holds_content kept content)
    (λ first last q. judged kept content gives.0 (Err (Damaged all got)) are gives.2 (q gives.0 refl))
given_as_it_stands a b kept content (Err DiskFailed) are gives = λ given before since is_old is_new first last ends good went. tt
given_as_it_stands a b kept content (Err Memory) are gives = λ given before since is_old is_new first last ends good went. tt

bytes_judged : (kept : Kept) (content read : List ℕ) (r : ContentRead) → IsValidContent kept content → HasRecordedLength (size_of kept) read r → read ≡ content → ReturnsContent content r
bytes_judged kept content read (Ok bytes) are is same = is.0 ∙ same
bytes_judged kept content read (Err (Damaged all got)) are is same = is.2 (is.1 ∙ ap length same ∙ are.long)
bytes_judged kept content read (Err DiskFailed) are is same = tt
bytes_judged kept content read (Err Memory) are is same = tt

pub bytes_as_they_stand : (a b : DiskLog) (kept : Kept) (content : List ℕ) (r : ContentRead) → IsValidContent kept content → ReadReturns a b (read_content_program kept) (HasRecordedLength (size_of kept)) r → DiskAfter a b (IsContentIn kept content) (λ _ _. ReturnsContent content r)
bytes_as_they_stand a b kept content (Ok bytes) are gives =
    after_did DiskTransition initial_files a b (read_content_program kept) (Some gives.0) (IsContentIn kept content) (λ first now. now ≡ first) (λ _. Only content) (λ _ _. ReturnsContent content (Ok bytes)) gives.1 (holds_content kept content)
    (λ first last q. bytes_judged kept content gives.0 (Ok bytes) are gives.2 (q gives.0 refl))
bytes_as_they_stand a b kept content (Err (Damaged all got)) are gives =
    after_did DiskTransition initial_files a b (read_content_program kept) (Some gives.0) (IsContentIn kept content) (λ first now. now ≡ first) (λ _. Only content) (λ _ _. ReturnsContent content (Err (Damaged all got))) gives.1 (holds_content kept content)
    (λ first last q. bytes_judged kept content gives.0 (Err (Damaged all got)) are gives.2 (q gives.0 refl))
bytes_as_they_stand a b kept content (Err DiskFailed) are gives = λ given before since is_old is_new first last ends good went. tt
bytes_as_they_stand a b kept content (Err Memory) are gives = λ given before since is_old is_new first last ends good went. tt
