-- The store can adopt the recovered files one after another.
use Rattle.std.proofs.Common.{nat_cmp, append_assoc, get_or, suc, ◌≡◌, ◌≢◌, ℕ, ◌+◌, ◌<◌, ◌≤◌, false, nat_eq, inl, inr, List, [], ◌∷◌, ◌++◌, Option, Some, None, refl, sym, ap, subst, ◌∙◌, arith}
use Rattle.std.specs.Prelude.{unwrap_or, All, AllPairs}
use Rattle.std.specs.FinMap as map
use Rattle.std.proofs.lemmas.Bool.{cases_Bool, ne_eqb}
use Rattle.std.proofs.lemmas.List.Elements.{All-head, All-tail}
use Rattle.fwd_base.specs.Limits.{numbers_end}
use Rattle.fwd_backlog.specs.Listing.{path_of}
use Rattle.fwd_backlog.specs.Recovered.{place_of}
use Rattle.fwd_backlog.specs.Serial.{next_number}
use Rattle.fwd_chunk.specs.declared.chunk.Found.{Found as FoundFile}
use Rattle.fwd_chunk.specs.declared.chunk.Seen.{Seen}
use Rattle.fwd_chunk.specs.declared.chunk.Seen.TheVariants.{Whole, Empty, Refused}
use Rattle.fwd_chunk.specs.declared.kept.Kept.{Kept}
use Rattle.fwd_chunk.specs.Kept.{file_of_optional}
use Rattle.fwd_store.specs.StoreState.{Stored}
use Rattle.fwd_chunk.specs.Name.{file_name}
use Rattle.fwd_store.specs.Store.{adopted, path_of_recovered, IsNoLater}
use Rattle.fwd_engine_state.proofs.ChunkMap.{get_inserted}
use Rattle.fwd_settings.specs.declared.settings_types.AllSettings.{AllSettings}
use Rattle.fwd_engine_recovery.specs.Adoption.{taken, path_in, FitsStore, IsOtherPath, AreAdoptable, StoreIsReady}

ready_same : (s : AllSettings) (store : Stored) (n : ℕ) (found : FoundFile) (more : List FoundFile) → StoreIsReady s store n (found ∷ more) → StoreIsReady s store (n + 1) more
ready_same s store n found more ready = record {
  root = ready.root;
  full = ready.full;
  opened = ready.opened;
  room = let room = ready.room in omega (arith, room);
  above = λ k above. ready.above k (omega (arith, above));
  apart = λ k name held. (ready.apart k name held).1;
  files = ready.files.3;
}

path_is : (s : AllSettings) (store : Stored) (found : FoundFile) → store.root ≡ s.service.path → path_of_recovered store found ≡ path_in s found
path_is s store found root = rw root refl

held_some : (a b : List ℕ) → Some a ≡ Some b → a ≡ b
held_some a b is = cc is

pub ready_next : (s : AllSettings) (store new : Stored) (n : ℕ) (found : FoundFile) (more : List FoundFile) (seen : Seen) → new ≡ taken store (n + 1) found seen → StoreIsReady s store n (found ∷ more) → StoreIsReady s new (n + 1) more
ready_next s store new n found more (Empty brief) is ready = rw is (ready_same s store n found more ready)
ready_next s store new n found more (Refused kind) is ready = rw is (ready_same s store n found more ready)
ready_next s store new n found more (Whole brief) is ready = rw is (record {
  root = ready.root;
  full = ready.full;
  opened = ready.opened;
  room = let room = ready.room in omega (arith, room);
  above = λ k above.
      let differs : nat_eq (n + 1) k ≡ false = ne_eqb (n + 1) k (λ e. absurd (omega (arith, above, e))) in
      get_inserted store.chunks (n + 1) (adopted store found brief) k ∙ rw differs (ready.above k (omega (arith, above)));
  apart = λ k name held.
      let at = get_inserted store.chunks (n + 1) (adopted store found brief) k in
      elim (cases_Bool (nat_eq (n + 1) k)) [
        | inl same ↦
            let there : map.get (map.insert store.chunks (n + 1) (adopted store found brief)) k ≡ Some (adopted store found brief) = at ∙ rw same refl in
            let its : Some (path_of_recovered store found) ≡ Some name = sym (ap file_of_optional there) ∙ held in
            subst (λ (l : List ℕ). IsOtherPath s l more) (sym (path_is s store found ready.root) ∙ held_some (path_of_recovered store found) name its) ready.files.2
        | inr differs ↦
            let there : map.get (map.insert store.chunks (n + 1) (adopted store found brief)) k ≡ map.get store.chunks k = at ∙ rw differs refl in
            (ready.apart k name (sym (ap file_of_optional there) ∙ held)).1
      ];
  files = ready.files.3;
})

-- its next number stays the same
pub taken_next : (store : Stored) (n : ℕ) (found : FoundFile) (seen : Seen) → (taken store n found seen).next ≡ store.next
taken_next store n found (Whole brief) = refl
taken_next store n found (Empty brief) = refl
taken_next store n found (Refused kind) = refl

-- ---- before the first file

others_differ : (s : AllSettings) (name : List ℕ) (found : List FoundFile) → All (λ (f : FoundFile). path_in s f ≢ name) found → IsOtherPath s name found
others_differ s name [] all = tt
others_differ s name (f ∷ fs) all = (All-head (λ (f : FoundFile). path_in s f ≢ name) f fs all, others_differ s name fs (All-tail (λ (f : FoundFile). path_in s f ≢ name) f fs all))

later_pairs : (R : FoundFile → FoundFile → Type 0) (f : FoundFile) (fs : List FoundFile) → AllPairs R (f ∷ fs) → AllPairs R fs
later_pairs R f fs all i j d less within = all (suc i) (suc j) d (omega (arith, less)) (omega (arith, within))

first_pairs : (R : FoundFile → FoundFile → Type 0) (f : FoundFile) (fs : List FoundFile) → AllPairs R (f ∷ fs) → All (R f) fs
first_pairs R f fs all k d within = all 0 (suc k) d (omega arith) (omega (arith, within))

flipped : (s : AllSettings) (f : FoundFile) (fs : List FoundFile) → All (λ (other : FoundFile). path_in s f ≢ path_in s other) fs → All (λ (other : FoundFile). path_in s other ≢ path_in s f) fs
flipped s f fs all k d within is = all k d within (sym is)

may_all : (s : AllSettings) (past : ℕ) (found : List FoundFile) → All FitsStore found → All (λ (f : FoundFile). IsNoLater s.service.path past (path_in s f)) found
    → AllPairs (λ (one other : FoundFile). path_in s one ≢ path_in s other) found → AreAdoptable s past found
may_all s past [] held free differ = tt
may_all s past (f ∷ fs) held free differ = (
  All-head FitsStore f fs held,
  All-head (λ (f : FoundFile). IsNoLater s.service.path past (path_in s f)) f fs free,
  others_differ s (path_in s f) fs (flipped s f fs (first_pairs (λ (one other : FoundFile). path_in s one ≢ path_in s other) f fs differ)),
  may_all s past fs
      (All-tail FitsStore f fs held)
      (All-tail (λ (f : FoundFile). IsNoLater s.service.path past (path_in s f)) f fs free)
      (later_pairs (λ (one other : FoundFile). path_in s one ≢ path_in s other) f fs differ),
)

-- the path of a listed file is the name of its chunk
same_path : (s : AllSettings) (root : List ℕ) (f : FoundFile) → s.service.path ≡ Some root → path_of root (place_of f) ≡ path_in s f
same_path s root f path = rw path (sym (append_assoc ((root ++ 47 ∷ []) ++ f.stream) (47 ∷ []) f.name ∙ ap (λ (l : List ℕ). l ++ 47 ∷ f.name) (append_assoc root (47 ∷ []) f.stream)))

-- no recovered file is that of a later chunk, and no two are the same
pub record AreApart (root : List ℕ) (found : List FoundFile) : Type 0 where
  pub later : (stream : List ℕ) (n : ℕ) → next_number found ≤ n → n < numbers_end → All (λ file. path_of root (place_of file) ≢ file_name root stream n) found
  pub differ : AllPairs (λ one other. path_of root (place_of one) ≢ path_of root (place_of other)) found

abbrev pub empty_store : AllSettings → ℕ → Stored
empty_store s past = record { root = s.service.path; full = s.service.full; next = past; chunks = map.empty; opened = [] }

pub ready_first : (s : AllSettings) (store : Stored) (root : List ℕ) (found : List FoundFile) → s.service.path ≡ Some root
    → store ≡ empty_store s (next_number found)
    → AreApart root found → All FitsStore found → StoreIsReady s store 0 found
ready_first s store root found path is apart held = rw is (record {
  root = refl;
  full = refl;
  opened = refl;
  room = omega arith;
  above = λ n above. map.get-empty nat_cmp n;
  apart = λ n name has. absurd (cc (sym (ap file_of_optional (none n)) ∙ has));
  files = may_all s (next_number found) found held
      (λ k d within stream n later short name_is.
      apart.later stream n later short k d within (same_path s root (get_or found k d) path ∙ name_is ∙ ap (λ (o : Option (List ℕ)). file_name (unwrap_or o []) stream n) path))
      (λ i j d less within same. apart.differ i j d less within (same_path s root (get_or found i d) path ∙ same ∙ sym (same_path s root (get_or found j d) path)));
})
  where
    none : (n : ℕ) → map.get {K = ℕ} {X = Kept} {R = nat_cmp} (map.empty {K = ℕ} {X = Kept} {R = nat_cmp}) n ≡ None
    none n = map.get-empty nat_cmp n
