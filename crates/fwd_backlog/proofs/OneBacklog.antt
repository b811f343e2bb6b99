-- Files that were read have one backlog, and recovered files have different paths.
use Rattle.std.proofs.Common.{◌≡◌, ◌≢◌, ℕ, List, [], ◌∷◌, map, All, Ok, Err, refl, sym, ◌∙◌, ap, subst, arith}
use Rattle.std.specs.Prelude.{AllPairs}
use Rattle.std.specs.List.{AllZip, AllByRecursion}
use Rattle.std.specs.List.Sorted.{IsStrictlySortedBy}
use Rattle.std.specs.declared.cmp.Ordering.TheVariants.{Less, Greater}
use Rattle.std.specs.Ordering.{ordering_reverse}
use Rattle.std.proofs.lemmas.List.Elements.{All-nil, All-cons, All-head, All-tail}
use Rattle.std.proofs.lemmas.List.Kept.{AllPairs-cons}
use Rattle.fwd_outside.specs.Disk.{IsFileName}
use Rattle.fwd_chunk.specs.declared.chunk.Chunk.{Chunk}
use Rattle.fwd_chunk.specs.declared.chunk.Found.{Found}
use Rattle.fwd_chunk.specs.declared.chunk.Seen.{Seen}
use Rattle.fwd_chunk.specs.declared.chunk.Seen.TheVariants.{Whole, Empty, Refused}
use Rattle.fwd_chunk.specs.declared.refusal.NotAChunk.{NotAChunk}
use Rattle.fwd_chunk.specs.declared.refusal.NotAChunk.TheVariants as refusal
use Rattle.fwd_chunk.specs.declared.refusal.ChunkKind.{ChunkKind}
use Rattle.fwd_chunk.specs.declared.refusal.ChunkKind.TheVariants as kind
use Rattle.fwd_chunk.specs.Format.{ChunkRead}
use Rattle.fwd_chunk.specs.Check.{brief_of, refusal_of, IsCheckResult}
use Rattle.fwd_chunk.proofs.OneReading.{one_answer}
use Rattle.fwd_backlog.specs.declared.file_read.FileRead.{FileRead}
use Rattle.fwd_backlog.specs.declared.listed_file.Listed.{Listed}
use Rattle.fwd_backlog.specs.declared.load.Backlog.{Backlog}
use Rattle.fwd_backlog.specs.Serial.{next_number}
use Rattle.fwd_backlog.specs.Listing.{path_of, by_name}
use Rattle.fwd_backlog.specs.LoadProgram.{IsDescriptionOf, IsBacklog}
use Rattle.fwd_backlog.specs.Recovered.{place_of}
use Rattle.fwd_backlog.proofs.Names.{total}
use Rattle.fwd_backlog.proofs.PathParts.{same_file}

-- ---- one backlog

abbrev kind_of : NotAChunk → ChunkKind
kind_of refusal.TooShort = kind.TooShort
kind_of refusal.BadId = kind.BadId
kind_of refusal.BadLength = kind.BadLength
kind_of refusal.NotLogs = kind.NotLogs
kind_of refusal.BadOutputs = kind.BadOutputs
kind_of refusal.NotUtf8Tag = kind.NotUtf8Tag
kind_of refusal.BadEvents = kind.BadEvents
kind_of refusal.Memory = kind.TooLong
kind_of refusal.TooLong = kind.TooLong

kind_back : (k : ChunkKind) → kind_of (refusal_of k) ≡ k
kind_back kind.TooShort = refl
kind_back kind.BadId = refl
kind_back kind.BadLength = refl
kind_back kind.NotLogs = refl
kind_back kind.BadOutputs = refl
kind_back kind.NotUtf8Tag = refl
kind_back kind.BadEvents = refl
kind_back kind.TooLong = refl

abbrev ok : Chunk → ChunkRead
ok chunk = Ok chunk

abbrev err : NotAChunk → ChunkRead
err e = Err e

same_chunk : (a b : Chunk) → ok a ≡ ok b → a ≡ b
same_chunk a b h = cc

same_refusal : (a b : NotAChunk) → err a ≡ err b → a ≡ b
same_refusal a b h = cc

no_chunk : (a : Chunk) (e : NotAChunk) → ok a ≡ err e → ⊥
no_chunk a e h = cc

one_seen : (bytes : List ℕ) (s t : Seen) → IsCheckResult bytes s → IsCheckResult bytes t → s ≡ t
one_seen bytes (Whole a) (Whole b) x y =
    let same = same_chunk x.0 y.0 (one_answer bytes (Ok x.0) (Ok y.0) x.1 y.1) in
    ap Whole (x.2 ∙ ap brief_of same ∙ sym y.2)
one_seen bytes (Empty a) (Empty b) x y =
    let same = same_chunk x.0 y.0 (one_answer bytes (Ok x.0) (Ok y.0) x.1 y.1) in
    ap Empty (x.2 ∙ ap brief_of same ∙ sym y.2)
one_seen bytes (Whole a) (Empty b) x y =
    let same = ap (λ (c : Chunk). c.events) (same_chunk x.0 y.0 (one_answer bytes (Ok x.0) (Ok y.0) x.1 y.1)) in
    absurd (omega (arith, same, x.3, y.3))
one_seen bytes (Empty a) (Whole b) x y =
    let same = ap (λ (c : Chunk). c.events) (same_chunk x.0 y.0 (one_answer bytes (Ok x.0) (Ok y.0) x.1 y.1)) in
    absurd (omega (arith, same, x.3, y.3))
one_seen bytes (Whole a) (Refused k) x y = absurd (no_chunk x.0 (refusal_of k) (one_answer bytes (Ok x.0) (Err (refusal_of k)) x.1 y))
one_seen bytes (Empty a) (Refused k) x y = absurd (no_chunk x.0 (refusal_of k) (one_answer bytes (Ok x.0) (Err (refusal_of k)) x.1 y))
one_seen bytes (Refused k) (Whole b) x y = absurd (no_chunk y.0 (refusal_of k) (one_answer bytes (Ok y.0) (Err (refusal_of k)) y.1 x))
one_seen bytes (Refused k) (Empty b) x y = absurd (no_chunk y.0 (refusal_of k) (one_answer bytes (Ok y.0) (Err (refusal_of k)) y.1 x))
one_seen bytes (Refused k) (Refused l) x y =
    let same = same_refusal (refusal_of k) (refusal_of l) (one_answer bytes (Err (refusal_of k)) (Err (refusal_of l)) x y) in
    ap Refused (sym (kind_back k) ∙ ap kind_of same ∙ kind_back l)

one_found : (read : FileRead) (f g : Found) → IsDescriptionOf read f → IsDescriptionOf read g → f ≡ g
one_found read f g x y =
    let stream : f.stream ≡ g.stream = x.stream ∙ sym y.stream in
    let name : f.name ≡ g.name = x.name ∙ sym y.name in
    let seen : f.seen ≡ g.seen = one_seen read.bytes f.seen g.seen x.seen y.seen in
    (λ i. record { stream = stream i; name = name i; seen = seen i })

all_found : (files : List FileRead) (fs gs : List Found) → AllZip IsDescriptionOf files fs → AllZip IsDescriptionOf files gs → fs ≡ gs
all_found [] [] [] x y = refl
all_found [] (f ∷ fs) gs x y = absurd x
all_found [] [] (g ∷ gs) x y = absurd y
all_found (r ∷ files) [] gs x y = absurd x
all_found (r ∷ files) (f ∷ fs) [] x y = absurd y
all_found (r ∷ files) (f ∷ fs) (g ∷ gs) x y = (λ i. one_found r f g x.0 y.0 i ∷ all_found files fs gs x.1 y.1 i)

pub one_backlog : (files : List FileRead) (one two : Backlog) → IsBacklog files one → IsBacklog files two → one ≡ two
one_backlog files one two x y =
    let found = all_found files one.found two.found x.found y.found in
    let next = x.next ∙ ap next_number found ∙ sym y.next in
    (λ i. record { found = found i; next = next i })

-- ---- different paths

not_less : (file : Listed) → by_name file file ≡ Less → ⊥
not_less file h = let no : Less ≡ Greater = sym h ∙ total.antisymm file file ∙ ap ordering_reverse h in cc no

later_differ : (root : List ℕ) (one : Found) (found : List Found) → IsFileName one.stream → All (λ file. IsFileName file.stream) found
    → AllByRecursion (λ other. by_name (place_of one) other ≡ Less) (map place_of found) → All (λ other. path_of root (place_of one) ≢ path_of root (place_of other)) found
later_differ root one [] is are less = All-nil (λ other. path_of root (place_of one) ≢ path_of root (place_of other))
later_differ root one (two ∷ found) is are less =
    All-cons (λ other. path_of root (place_of one) ≢ path_of root (place_of other)) two found
    (λ same.
    let one_place : place_of one ≡ place_of two = same_file root (place_of one) (place_of two) is (All-head (λ file. IsFileName file.stream) two found are) same in
    not_less (place_of one) (subst (λ (place : Listed). by_name (place_of one) place ≡ Less) (sym one_place) less.0))
    (later_differ root one found is (All-tail (λ file. IsFileName file.stream) two found are) less.1)

no_pairs : (root : List ℕ) → AllPairs (λ one other. path_of root (place_of one) ≢ path_of root (place_of other)) []
no_pairs root i j d less lt = absurd (omega arith)

pub sorted_differ : (root : List ℕ) (found : List Found) → All (λ file. IsFileName file.stream) found → IsStrictlySortedBy by_name (map place_of found)
    → AllPairs (λ one other. path_of root (place_of one) ≢ path_of root (place_of other)) found
unfolding IsStrictlySortedBy
sorted_differ root [] are sorted = no_pairs root
sorted_differ root (one ∷ found) are sorted =
    AllPairs-cons (λ one other. path_of root (place_of one) ≢ path_of root (place_of other)) one found
    (later_differ root one found (All-head (λ file. IsFileName file.stream) one found are) (All-tail (λ file. IsFileName file.stream) one found are) sorted.0)
    (sorted_differ root found (All-tail (λ file. IsFileName file.stream) one found are) sorted.1)
