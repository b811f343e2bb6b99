-- Files that answer with what they contain are read as they are.
use Rattle.std.proofs.Common.{◌≡◌, ℕ, zero, suc, ◌+◌, ◌-◌, ◌<◌, ◌≤◌, Bool, true, false, nat_lt, if◌then◌else◌, List, [], ◌∷◌, ◌++◌, length, length-append, take, drop, append_assoc, Option, Some, None, refl, sym, ◌∙◌, ap, subst, arith}
use Rattle.std.proofs.lemmas.Bool.{ltb-true, ltb-false}
use Rattle.std.proofs.lemmas.List.{take_all, append-nil}
use Rattle.std.proofs.Math.Seq.{drop-append_seam}
use Rattle.fwd_outside.specs.Program.{Return, Ask, Execution}
use Rattle.fwd_outside.specs.Files.{FilesGiven, FilesEntry, Length, ReadAt, MayAnswer, IsReadOf, IsConsistentLog, found, files_after, files_after_all, after_read, after_length, read_rest_program}
use Rattle.fwd_outside.specs.ConsistentFiles.{WholeReadIsContent}

-- a program that has returned makes no call
returned_makes_no_call : {x y : Option (List ℕ)} (es : List FilesEntry) → Execution (Return x) es (Return y) → (es ≡ []) × (x ≡ y)
returned_makes_no_call [] way = (refl, cc way)
returned_makes_no_call (e ∷ es) way = absurd way

nothing_behind : (a b : List ℕ) → length (a ++ b) ≤ length a → a ++ b ≡ a
nothing_behind a [] le = append-nil a
nothing_behind a (x ∷ b) le = absurd (omega (arith, length-append a (x ∷ b)))

some_behind : (a b : List ℕ) → length a < length (a ++ b) → b ≡ [] → ⊥
some_behind a [] lt is = omega (arith, length-append a [])
some_behind a (x ∷ b) lt is = cc is

module _ (files : FilesGiven) (path content : List ℕ) (there : found files path ≡ Some content) where
  same_content : (other : List ℕ) → found files path ≡ Some other → other ≡ content
  same_content other is = let both : Some other ≡ Some content = sym is ∙ there in cc both

  the_rest : (so_far rest : List ℕ) → so_far ++ rest ≡ content → take (length content - length so_far) (drop (length so_far) content) ≡ rest
  the_rest so_far rest is =
      let at_end : drop (length so_far) content ≡ rest = subst (λ (c : List ℕ). drop (length so_far) c ≡ rest) is (drop-append_seam so_far rest) in
      let long : length content ≡ length so_far + length rest = subst (λ (c : List ℕ). length c ≡ length so_far + length rest) is (length-append so_far rest) in
      rw at_end (take_all (length content - length so_far) rest (omega (arith, long)))

  part_then : (so_far rest part : List ℕ) → so_far ++ rest ≡ content → IsReadOf content (length so_far) (length content - length so_far) part → (more : List ℕ) × ((so_far ++ part) ++ more ≡ content) × (part ≡ [] → rest ≡ [])
  part_then so_far rest part is given =
      let whole : part ++ given.rest ≡ rest = given.beginning ∙ the_rest so_far rest is in
      (given.rest, append_assoc so_far part given.rest ∙ ap (λ (l : List ℕ). so_far ++ l) whole ∙ is, λ none. sym whole ∙ ap (λ (l : List ℕ). l ++ given.rest) none ∙ given.none_at_end none)

  -- so many reads are enough
  abbrev Ends : ℕ → Type 0
  Ends reads = (so_far rest bytes : List ℕ) (es : List FilesEntry) → so_far ++ rest ≡ content → length content ≤ length so_far + reads → IsConsistentLog files es
      → Execution (read_rest_program reads path (length content) so_far) es (Return (Some bytes)) → (bytes ≡ content) × (files_after_all files es ≡ files)

  at_the_end : (so_far rest bytes : List ℕ) (es : List FilesEntry) → so_far ++ rest ≡ content → length content ≤ length so_far → Execution (Return (Some so_far)) es (Return (Some bytes))
      → (bytes ≡ content) × (files_after_all files es ≡ files)
  at_the_end so_far rest bytes es is all way =
      let done = returned_makes_no_call es way in
      let same : so_far ≡ bytes = cc (done.1) in
      let whole : so_far ++ rest ≡ so_far = nothing_behind so_far rest (rw is all) in
      (sym same ∙ sym whole ∙ is, rw (done.0) refl)

  one_read : (reads : ℕ) (so_far rest bytes : List ℕ) (es : List FilesEntry) (answer : Option (List ℕ)) → Ends reads → so_far ++ rest ≡ content → length so_far < length content → length content ≤ length so_far + suc reads
      → MayAnswer files (ReadAt path (length so_far) (length content - length so_far)) answer → IsConsistentLog files es → Execution (after_read (read_rest_program reads path (length content)) so_far answer) es (Return (Some bytes))
      → (bytes ≡ content) × (files_after_all files es ≡ files)
  one_read reads so_far rest bytes es None ends is some enough may honest way = let done = returned_makes_no_call es way in absurd (cc (done.1))
  one_read reads so_far rest bytes es (Some []) ends is some enough may honest way =
      let part = part_then so_far rest [] is (subst (λ (c : List ℕ). IsReadOf c (length so_far) (length content - length so_far) []) (same_content may.0 may.1) may.2) in
      absurd (some_behind so_far rest (rw is some) (part.2 refl))
  one_read reads so_far rest bytes es (Some (b ∷ bs)) ends is some enough may honest way =
      let part = part_then so_far rest (b ∷ bs) is (subst (λ (c : List ℕ). IsReadOf c (length so_far) (length content - length so_far) (b ∷ bs)) (same_content may.0 may.1) may.2) in
      ends (so_far ++ b ∷ bs) part.0 bytes es part.1 (omega (arith, enough, length-append so_far (b ∷ bs))) honest way

  asked_then : (reads : ℕ) (so_far rest bytes : List ℕ) (es : List FilesEntry) → Ends reads → so_far ++ rest ≡ content → length so_far < length content → length content ≤ length so_far + suc reads → IsConsistentLog files es
      → Execution (Ask (ReadAt path (length so_far) (length content - length so_far)) (after_read (read_rest_program reads path (length content)) so_far)) es (Return (Some bytes)) → (bytes ≡ content) × (files_after_all files es ≡ files)
  asked_then reads so_far rest bytes [] ends is some enough honest way = absurd (cc way)
  asked_then reads so_far rest bytes (e ∷ es) ends is some enough honest way =
      let call_log = subst (λ (x : FilesEntry). MayAnswer files x.call x.answer × IsConsistentLog (files_after files x.call) es) way.1 honest in
      let went = one_read reads so_far rest bytes es way.0 ends is some enough call_log.0 call_log.1 way.2 in
      (went.0, subst (λ (x : FilesEntry). files_after_all files (x ∷ es) ≡ files) (sym way.1) went.1)

  reads_to_the_end : (reads : ℕ) → Ends reads
  reads_to_the_end zero so_far rest bytes es is enough honest way = at_the_end so_far rest bytes es is (omega (arith, enough)) way
  reads_to_the_end (suc reads) so_far rest bytes es is enough honest way =
      by (nat_lt (length so_far) (length content)) (reads_to_the_end reads) refl way
    where
      by : (b : Bool) → Ends reads → nat_lt (length so_far) (length content) ≡ b
          → Execution (if b then Ask (ReadAt path (length so_far) (length content - length so_far)) (after_read (read_rest_program reads path (length content)) so_far) else Return (Some so_far)) es (Return (Some bytes))
          → (bytes ≡ content) × (files_after_all files es ≡ files)
      by true ends lt w = asked_then reads so_far rest bytes es ends is (ltb-true (length so_far) (length content) lt) enough honest w
      by false ends ge w = at_the_end so_far rest bytes es is (ltb-false (length so_far) (length content) ge) w

length_then : (files : FilesGiven) (path bytes : List ℕ) (es : List FilesEntry) (answer : Option ℕ) → MayAnswer files (Length path) answer → IsConsistentLog files es → Execution (after_length path answer) es (Return (Some bytes))
    → (found files path ≡ Some bytes) × (files_after_all files es ≡ files)
length_then files path bytes es None may honest way = let done = returned_makes_no_call es way in absurd (cc (done.1))
length_then files path bytes es (Some n) may honest way =
    let content = may.0 in
    let read = subst (λ (m : ℕ). Execution (read_rest_program m path m []) es (Return (Some bytes))) may.2 way in
    let went = reads_to_the_end files path content may.1 (length content) [] content bytes es refl (omega arith) honest read in
    (may.1 ∙ ap (λ (l : List ℕ). Some l) (sym went.0), went.1)

pub whole_read_is_content : WholeReadIsContent
whole_read_is_content files path bytes [] honest way = absurd (cc way)
whole_read_is_content files path bytes (e ∷ es) honest way =
    let call_log = subst (λ (x : FilesEntry). MayAnswer files x.call x.answer × IsConsistentLog (files_after files x.call) es) way.1 honest in
    let went = length_then files path bytes es way.0 call_log.0 call_log.1 way.2 in
    (went.0, subst (λ (x : FilesEntry). files_after_all files (x ∷ es) ≡ files) (sym way.1) went.1)
