-- No file has the name of the next number or of a later one.
use Rattle.std.proofs.Common.{◌≡◌, ◌≢◌, inl, inr, ℕ, ◌<◌, ◌≤◌, max, Bool, true, false, IsTrue, All, List, [], ◌∷◌, ◌++◌, append_assoc, get_or, map, fold, refl, sym, ◌∙◌, ap, subst, arith}
use Rattle.std.proofs.lemmas.List.Elements.{All-contains_itself, Contains-append_right}
use Rattle.fwd_base.specs.Limits.{numbers_end}
use Rattle.fwd_outside.specs.Disk.{IsFileName}
use Rattle.fwd_outside.specs.DiskStates.{Files}
use Rattle.fwd_chunk.specs.Name.{file_name}
use Rattle.fwd_chunk.specs.declared.chunk.Found.{Found}
use Rattle.fwd_backlog.specs.declared.listed_file.Listed.{Listed}
use Rattle.fwd_backlog.specs.Serial.{is_chunk_name, serial_number, next_number}
use Rattle.fwd_backlog.specs.Listing.{folder_of, path_of}
use Rattle.fwd_backlog.specs.Recovered.{place_of, HaveListableNames, AreRecoveredFrom}
use Rattle.fwd_backlog.proofs.Names.{Among, contains_of, among_of}
use Rattle.fwd_backlog.proofs.NumberNames.{numbered, serial_numbered, chunk_numbered, name_numbered}

-- the greatest serial and this number
abbrev greatest_from : ℕ → List Found → ℕ
greatest_from number found = fold (λ greatest file. max greatest (serial_number file.name)) number found

no_less : (found : List Found) (number : ℕ) → number ≤ greatest_from number found
no_less [] number = omega arith
no_less (file ∷ found) number = let rest = no_less found (max number (serial_number file.name)) in omega arith

each_below : (found : List Found) (number : ℕ) (place : Listed) → Among place (map place_of found) → serial_number place.name ≤ greatest_from number found
each_below [] number place h = absurd h
each_below (file ∷ found) number place (inl is) =
    let rest = no_less found (max number (serial_number file.name)) in
    let same : serial_number file.name ≡ serial_number place.name = ap (λ (l : Listed). serial_number l.name) is in
    omega arith
each_below (file ∷ found) number place (inr h) = each_below found (max number (serial_number file.name)) place h

next_is_free : (root stream name : List ℕ) (files : Files) (found : List Found) → AreRecoveredFrom root files found → IsFileName stream → IsFileName name → IsTrue (is_chunk_name name) → next_number found ≤ serial_number name
    → (files (path_of root (record { name = name; stream = stream }))).there ≡ false
next_is_free root stream name files found are is_stream is_name chunk late = by (files (path_of root (record { name = name; stream = stream }))).there refl
  where
    by : (b : Bool) → (files (path_of root (record { name = name; stream = stream }))).there ≡ b → b ≡ false
    by false is = refl
    by true is =
        let among = among_of (record { name = name; stream = stream }) (map place_of found) (are.all stream name is_stream is_name chunk is) in
        let below = each_below found 0 (record { name = name; stream = stream }) among in
        absurd (omega arith)

pub number_is_free : (root stream : List ℕ) (number : ℕ) (files : Files) (found : List Found) → AreRecoveredFrom root files found → IsFileName stream → next_number found ≤ number → number < numbers_end
    → (files (file_name root stream number)).there ≡ false
number_is_free root stream number files found are is_stream late small =
    let same : serial_number (numbered number) ≡ number = serial_numbered number small in
    let path : path_of root (record { name = numbered number; stream = stream }) ≡ file_name root stream number = simp append_assoc refl in
    subst (λ (p : List ℕ). (files p).there ≡ false) path (next_is_free root stream (numbered number) files found are is_stream (name_numbered number) (chunk_numbered number) (omega arith))

-- after the last `/`
last_part : (front other name part : List ℕ) → (Among 47 name → ⊥) → (Among 47 part → ⊥) → front ++ 47 ∷ name ≡ other ++ 47 ∷ part → name ≡ part
last_part [] [] name part plain_name plain_part same = let all : 47 ∷ name ≡ 47 ∷ part = same in cc all
last_part [] (y ∷ other) name part plain_name plain_part same =
    let all : 47 ∷ name ≡ y ∷ (other ++ 47 ∷ part) = same in
    let rest : name ≡ other ++ 47 ∷ part = cc all in
    absurd (plain_name (subst (Among 47) (sym rest) (among_of 47 (other ++ 47 ∷ part) (Contains-append_right other (47 ∷ part) 47 (contains_of 47 (47 ∷ part) (inl refl))))))
last_part (x ∷ front) [] name part plain_name plain_part same =
    let all : x ∷ (front ++ 47 ∷ name) ≡ 47 ∷ part = same in
    let rest : front ++ 47 ∷ name ≡ part = cc all in
    absurd (plain_part (subst (Among 47) rest (among_of 47 (front ++ 47 ∷ name) (Contains-append_right front (47 ∷ name) 47 (contains_of 47 (47 ∷ name) (inl refl))))))
last_part (x ∷ front) (y ∷ other) name part plain_name plain_part same =
    let all : x ∷ (front ++ 47 ∷ name) ≡ y ∷ (other ++ 47 ∷ part) = same in
    let rest : front ++ 47 ∷ name ≡ other ++ 47 ∷ part = cc all in
    last_part front other name part plain_name plain_part rest

plain_among : (name : List ℕ) → IsFileName name → Among 47 name → ⊥
plain_among name is inside = is.plain (contains_of 47 name inside)

place_among : (file : Found) (found : List Found) → Among file found → Among (place_of file) (map place_of found)
place_among file [] h = absurd h
place_among file (one ∷ found) (inl is) = inl (ap place_of is)
place_among file (one ∷ found) (inr h) = inr (place_among file found h)

pub later_is_new : (root stream : List ℕ) (number : ℕ) (found : List Found) → HaveListableNames found → next_number found ≤ number → number < numbers_end
    → All (λ file. path_of root (place_of file) ≢ file_name root stream number) found
later_is_new root stream number found are late small k d lt is =
    let file = get_or found k d in
    let named = are.each k d lt in
    let paths : folder_of root file.stream ++ 47 ∷ file.name ≡ (root ++ 47 ∷ stream) ++ 47 ∷ numbered number = is ∙ simp append_assoc refl in
    let name : file.name ≡ numbered number =
    last_part (folder_of root file.stream) (root ++ 47 ∷ stream) file.name (numbered number) (plain_among file.name named.name) (plain_among (numbered number) (name_numbered number)) paths in
    let serial : serial_number file.name ≡ number = ap serial_number name ∙ serial_numbered number small in
    let below = each_below found 0 (place_of file) (place_among file found (among_of file found (All-contains_itself found k d lt))) in
    absurd (omega (arith, late, serial, below))
