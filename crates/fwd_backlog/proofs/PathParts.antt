-- A path determines the stream and the name of its file.
use Rattle.std.proofs.Common.{◌≡◌, inl, inr, ℕ, List, [], ◌∷◌, ◌++◌, append_assoc, refl, sym, ◌∙◌}
use Rattle.fwd_outside.specs.Disk.{IsFileName}
use Rattle.fwd_backlog.specs.declared.listed_file.Listed.{Listed}
use Rattle.fwd_backlog.specs.Listing.{path_of}
use Rattle.fwd_backlog.proofs.Names.{Among, contains_of}

behind : (root a b : List ℕ) → root ++ a ≡ root ++ b → a ≡ b
behind [] a b same = same
behind (x ∷ root) a b same = let all : x ∷ (root ++ a) ≡ x ∷ (root ++ b) = same in behind root a b (cc all)

-- up to the first `/`, and after it
parted : (s t n m : List ℕ) → (Among 47 s → ⊥) → (Among 47 t → ⊥) → s ++ 47 ∷ n ≡ t ++ 47 ∷ m → (s ≡ t) × (n ≡ m)
parted [] [] n m plain_s plain_t same = let all : 47 ∷ n ≡ 47 ∷ m = same in (refl, cc all)
parted [] (y ∷ t) n m plain_s plain_t same = let all : 47 ∷ n ≡ y ∷ (t ++ 47 ∷ m) = same in absurd (plain_t (inl (cc all)))
parted (x ∷ s) [] n m plain_s plain_t same = let all : x ∷ (s ++ 47 ∷ n) ≡ 47 ∷ m = same in absurd (plain_s (inl (cc all)))
parted (x ∷ s) (y ∷ t) n m plain_s plain_t same =
    let all : x ∷ (s ++ 47 ∷ n) ≡ y ∷ (t ++ 47 ∷ m) = same in
    let rest : s ++ 47 ∷ n ≡ t ++ 47 ∷ m = cc all in
    let parts = parted s t n m (λ h. plain_s (inr h)) (λ h. plain_t (inr h)) rest in
    let first : s ≡ t = parts.0 in
    (cc (all, first), parts.1)

pub same_file : (root : List ℕ) (one two : Listed) → IsFileName one.stream → IsFileName two.stream → path_of root one ≡ path_of root two → one ≡ two
same_file root one two is_one is_two same =
    let paths : root ++ 47 ∷ (one.stream ++ 47 ∷ one.name) ≡ root ++ 47 ∷ (two.stream ++ 47 ∷ two.name) =
    sym (append_assoc root (47 ∷ one.stream) (47 ∷ one.name)) ∙ same ∙ append_assoc root (47 ∷ two.stream) (47 ∷ two.name) in
    let all : 47 ∷ (one.stream ++ 47 ∷ one.name) ≡ 47 ∷ (two.stream ++ 47 ∷ two.name) = behind root (47 ∷ (one.stream ++ 47 ∷ one.name)) (47 ∷ (two.stream ++ 47 ∷ two.name)) paths in
    let parts = parted one.stream two.stream one.name two.name (λ h. is_one.plain (contains_of 47 one.stream h)) (λ h. is_two.plain (contains_of 47 two.stream h)) (cc all) in
    (λ i. record { name = parts.1 i; stream = parts.0 i })
