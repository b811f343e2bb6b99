-- The invariant of a store under its changes.
use Rattle.std.proofs.Common.{◌≡◌, ℕ, ◌+◌, ◌<◌, ◌≤◌, ◌==◌, length, nat_eq, nat_lt, Bool, true, false, IsTrue, not, cond, if◌then◌else◌, List, [], ◌∷◌, ◌++◌, All, Option, Some, None, IsSome, unwrap_or, refl, sym, ◌∙◌, ap, subst, arith, length-append}
use Rattle.std.proofs.lemmas.Bool.{ltb-true}
use Rattle.std.proofs.lemmas.Bool.Decides.{Decides-eqb}
use Rattle.std.proofs.lemmas.List.Elements.{All-nil, All-cons, All-head, All-tail, All-push, All-filter, All-weaker}
use Rattle.std.specs.FinMap as map
use Rattle.std.specs.Prelude.{flat_map}
use Rattle.std.specs.Prelude as list
use Rattle.std.specs.Ordering.{nat_cmp}
use Rattle.fwd_base.specs.Limits.{full_chunk, largest_batch, longest_tag, numbers_end}
use Rattle.fwd_outside.specs.declared.home.Home.{Home}
use Rattle.fwd_outside.specs.declared.home.Home.TheVariants.{Disk, Ram}
use Rattle.fwd_chunk.specs.declared.kept.Kept.{Kept}
use Rattle.fwd_chunk.specs.declared.kept.Kept.TheVariants.{InFile, Adopted, InMemory}
use Rattle.fwd_chunk.specs.Kept.{size_of, size_of_optional, file_of, file_of_optional, after_append, HasRoom}
use Rattle.fwd_chunk.specs.Name.{file_name}
use Rattle.fwd_chunk.proofs.Digits.{same_name}
use Rattle.fwd_chunk.specs.Layout.{AreOutputs, NamedOutput, named_output_bytes, unrecorded}
use Rattle.fwd_chunk.specs.declared.append.ChunkHead.{ChunkHead}
use Rattle.fwd_chunk.specs.Append.{new_head}
use Rattle.fwd_chunk.specs.Outcome.{named_length, FitsNames}
use Rattle.fwd_chunk.proofs.Creation.{length-new_meta, are_short}
use Rattle.fwd_chunk.proofs.OutcomeByte.{length-outputs_bytes}
use Rattle.fwd_store.specs.OpenChunk.{Opened, is_for, open_for, without}
use Rattle.fwd_store.specs.StoreState.{KeptMap, Stored}
use Rattle.fwd_store.specs.Store.{CanGrow, IsValidEntry, IsNoLater, IsNew, IsSound, with_number_used, with_new, with_kept, sealed, without_chunk, after_failed_append, has_file, has_room, new_kept}
use Rattle.fwd_store.proofs.MapEntries.{get_inserted, get_removed}

abbrev Grows : KeptMap → Opened → Type 0
Grows chunks o = CanGrow (map.get chunks o.chunk)

none_held : (q : ℕ) → IsSome (map.get (map.empty {X = Kept} {R = nat_cmp}) q) → ⊥
none_held q is = let none : IsSome {T = Kept} None = subst IsSome (map.get-empty nat_cmp q) is in absurd (cc none)

is_held : (k : Option Kept) → CanGrow k → IsSome k
is_held None can = absurd can
is_held (Some kept) can = refl

-- each open chunk has a number below the next
pub open_below : (s : Stored) → IsSound s → All (λ o. o.chunk < s.next) s.opened
open_below s sound = All-weaker (Grows s.chunks) (λ o. o.chunk < s.next) (λ o grows. sound.below o.chunk (is_held (map.get s.chunks o.chunk) grows)) s.opened sound.each

-- each chunk's entry, as one of them comes, changes or goes
held_new : (root : Option (List ℕ)) (n : ℕ) → IsValidEntry root n (map.get (map.empty {X = Kept} {R = nat_cmp}) n)
held_new root n = subst (IsValidEntry root n) (sym (map.get-empty nat_cmp n)) tt

held_with : (root : Option (List ℕ)) (chunks : KeptMap) (k : ℕ) (kept : Kept) → IsValidEntry root k (Some kept) → ((n : ℕ) → IsValidEntry root n (map.get chunks n)) → (n : ℕ) → IsValidEntry root n (map.get (map.insert chunks k kept) n)
held_with root chunks k kept here held n = subst (IsValidEntry root n) (sym (get_inserted chunks k kept n)) (by (nat_eq k n) refl)
  where
    by : (b : Bool) → nat_eq k n ≡ b → IsValidEntry root n (cond b (Some kept) (map.get chunks n))
    by true e = subst (λ (m : ℕ). IsValidEntry root m (Some kept)) ((Decides-eqb k n).0 e) here
    by false e = held n

held_without : (root : Option (List ℕ)) (chunks : KeptMap) (k : ℕ) → ((n : ℕ) → IsValidEntry root n (map.get chunks n)) → (n : ℕ) → IsValidEntry root n (map.get (map.remove chunks k) n)
held_without root chunks k held n = subst (IsValidEntry root n) (sym (get_removed chunks k n)) (by (nat_eq k n))
  where
    by : (b : Bool) → IsValidEntry root n (cond b None (map.get chunks n))
    by true = tt
    by false = held n

-- the names of the chunks' files, as one of them comes, changes or goes
same_value : {T : Type 0} {x y : T} → Some x ≡ Some y → x ≡ y
same_value is = cc is

no_file : (n : ℕ) (name : List ℕ) → file_of_optional (map.get (map.empty {X = Kept} {R = nat_cmp}) n) ≡ Some name → ⊥
no_file n name is = let never : None ≡ Some name = sym (ap file_of_optional (map.get-empty nat_cmp n)) ∙ is in absurd (cc never)

later_on : (root : Option (List ℕ)) (next : ℕ) (name : List ℕ) → IsNoLater root next name → IsNoLater root (next + 1) name
later_on root next name later stream n le within = later stream n (omega (arith, le)) within

-- a chunk in a file has the name of its number
abbrev pub IsNamedNew : Option (List ℕ) → ℕ → Kept → Type 0
IsNamedNew root n kept = (name : List ℕ) → file_of kept ≡ Some name → (stream : List ℕ) × (name ≡ file_name (unwrap_or root []) stream n)

new_is_no_later : (root : Option (List ℕ)) (n : ℕ) (stream name : List ℕ) → name ≡ file_name (unwrap_or root []) stream n → n ≤ numbers_end → IsNoLater root (n + 1) name
new_is_no_later root n stream name is le other m above within e =
    let same : n ≡ m = same_name (unwrap_or root []) stream other n m (omega (arith, le)) (omega (arith, within)) (sym is ∙ e) in
    omega (arith, same, above)

differ_put : (chunks : KeptMap) (k : ℕ) (kept : Kept) → ((n m : ℕ) (name : List ℕ) → file_of_optional (map.get chunks n) ≡ Some name → file_of_optional (map.get chunks m) ≡ Some name → n ≡ m)
    → ((m : ℕ) (name : List ℕ) → (k ≡ m → ⊥) → file_of kept ≡ Some name → file_of_optional (map.get chunks m) ≡ Some name → ⊥)
    → (n m : ℕ) (name : List ℕ) → file_of_optional (map.get (map.insert chunks k kept) n) ≡ Some name → file_of_optional (map.get (map.insert chunks k kept) m) ≡ Some name → n ≡ m
differ_put chunks k kept differ own n m name at_n at_m =
    by (nat_eq k n) (nat_eq k m) refl refl (ap file_of_optional (sym (get_inserted chunks k kept n)) ∙ at_n) (ap file_of_optional (sym (get_inserted chunks k kept m)) ∙ at_m)
  where
    other : (j : ℕ) → nat_eq k j ≡ false → k ≡ j → ⊥
    other j e is = let never : true ≡ false = sym ((Decides-eqb k j).1 is) ∙ e in absurd (cc never)

    by : (b c : Bool) → nat_eq k n ≡ b → nat_eq k m ≡ c → file_of_optional (cond b (Some kept) (map.get chunks n)) ≡ Some name → file_of_optional (cond c (Some kept) (map.get chunks m)) ≡ Some name → n ≡ m
    by true true e f at_n at_m = sym ((Decides-eqb k n).0 e) ∙ (Decides-eqb k m).0 f
    by true false e f at_n at_m = absurd (own m name (other m f) at_n at_m)
    by false true e f at_n at_m = absurd (own n name (other n e) at_m at_n)
    by false false e f at_n at_m = differ n m name at_n at_m

free_put : (root : Option (List ℕ)) (next : ℕ) (chunks : KeptMap) (k : ℕ) (kept : Kept) → ((n : ℕ) (name : List ℕ) → file_of_optional (map.get chunks n) ≡ Some name → IsNoLater root next name) → ((name : List ℕ) → file_of kept ≡ Some name → IsNoLater root next name)
    → (n : ℕ) (name : List ℕ) → file_of_optional (map.get (map.insert chunks k kept) n) ≡ Some name → IsNoLater root next name
free_put root next chunks k kept free here n name at_n = by (nat_eq k n) (ap file_of_optional (sym (get_inserted chunks k kept n)) ∙ at_n)
  where
    by : (b : Bool) → file_of_optional (cond b (Some kept) (map.get chunks n)) ≡ Some name → IsNoLater root next name
    by true at = here name at
    by false at = free n name at

-- a chunk that is still there
still : (chunks : KeptMap) (k n : ℕ) (name : List ℕ) → file_of_optional (map.get (map.remove chunks k) n) ≡ Some name → file_of_optional (map.get chunks n) ≡ Some name
still chunks k n name at_n = by (nat_eq k n) (ap file_of_optional (sym (get_removed chunks k n)) ∙ at_n)
  where
    by : (b : Bool) → file_of_optional (cond b None (map.get chunks n)) ≡ Some name → file_of_optional (map.get chunks n) ≡ Some name
    by true at = absurd (cc at)
    by false at = at

pub sound_new : (root : Option (List ℕ)) (full : Bool) (next : ℕ) → next ≤ numbers_end → IsSound (record { root = root; full = full; next = next; chunks = map.empty; opened = [] })
sound_new root full next le = record {
  each = All-nil (Grows map.empty);
  held = held_new root;
  below = λ n is. absurd (none_held n is);
  numbers = le;
  differ = λ n m name at_n at_m. absurd (no_file n name at_n);
  free = λ n name at_n. absurd (no_file n name at_n);
}

pub sound_sealed : (s : Stored) (n : ℕ) → IsSound s → IsSound (sealed s n)
sound_sealed s n sound = record { each = All-filter (λ o. not (o.chunk == n)) (Grows s.chunks) s.opened sound.each; held = sound.held; below = sound.below; numbers = sound.numbers; differ = sound.differ; free = sound.free }

pub sound_used : (s : Stored) → s.next < numbers_end → IsSound s → IsSound (with_number_used s)
sound_used s lt sound = record { each = sound.each; held = sound.held; below = λ n is. let b : n < s.next = sound.below n is in omega arith; numbers = omega arith; differ = sound.differ; free = λ n name at_n. later_on s.root s.next name (sound.free n name at_n) }

-- one chunk changes, and can grow as before
grows_put : (chunks : KeptMap) (k : ℕ) (kept : Kept) (o : Opened) → (nat_eq k o.chunk ≡ true → CanGrow (map.get chunks o.chunk) → CanGrow (Some kept)) → CanGrow (map.get chunks o.chunk) → CanGrow (map.get (map.insert chunks k kept) o.chunk)
grows_put chunks k kept o may can = subst CanGrow (sym (get_inserted chunks k kept o.chunk)) (by (nat_eq k o.chunk) may)
  where
    by : (b : Bool) → (b ≡ true → CanGrow (map.get chunks o.chunk) → CanGrow (Some kept)) → CanGrow (cond b (Some kept) (map.get chunks o.chunk))
    by true may = may refl can
    by false may = can

held_put : (chunks : KeptMap) (k : ℕ) (kept : Kept) (limit n : ℕ) → k < limit → ((n : ℕ) → IsSome (map.get chunks n) → n < limit) → IsSome (map.get (map.insert chunks k kept) n) → n < limit
held_put chunks k kept limit n lt below is = by (nat_eq k n) refl (subst IsSome (get_inserted chunks k kept n) is)
  where
    by : (b : Bool) → nat_eq k n ≡ b → IsSome (cond b (Some kept) (map.get chunks n)) → n < limit
    by true e there = let same : k ≡ n = (Decides-eqb k n).0 e in omega arith
    by false e there = below n there

pub sound_with_kept : (s : Stored) (n : ℕ) (old new : Kept) → map.get s.chunks n ≡ Some old → file_of new ≡ file_of old → (CanGrow (Some old) → CanGrow (Some new)) → (IsValidEntry s.root n (Some old) → IsValidEntry s.root n (Some new)) → IsSound s → IsSound (with_kept s n new)
sound_with_kept s n old new is same may stays sound = record {
  each = All-weaker (Grows s.chunks) (Grows (map.insert s.chunks n new))
      (λ o can. grows_put s.chunks n new o (λ e here. may (subst CanGrow (ap (λ (k : ℕ). map.get s.chunks k) (sym ((Decides-eqb n o.chunk).0 e)) ∙ is) here)) can) s.opened sound.each;
  held = held_with s.root s.chunks n new (stays (subst (IsValidEntry s.root n) is (sound.held n))) sound.held;
  below = λ k there. held_put s.chunks n new s.next k (sound.below n (subst IsSome (sym is) refl)) sound.below there;
  numbers = sound.numbers;
  differ = differ_put s.chunks n new sound.differ (λ m name ne here there. ne (sound.differ n m name (ap file_of_optional is ∙ sym same ∙ here) there));
  free = free_put s.root s.next s.chunks n new sound.free (λ name here. sound.free n name (ap file_of_optional is ∙ sym same ∙ here));
}

pub sound_with_new : (s : Stored) (input : ℕ) (tag : List ℕ) (kept : Kept) → s.next < numbers_end → CanGrow (Some kept) → IsValidEntry s.root s.next (Some kept) → IsNamedNew s.root s.next kept → IsSound s → IsSound (with_new s input tag kept)
sound_with_new s input tag kept lt can as_held named sound = record {
  each = All-push (Grows (map.insert s.chunks s.next kept)) s.opened (record { input = input; tag = tag; chunk = s.next })
      (All-weaker (Grows s.chunks) (Grows (map.insert s.chunks s.next kept)) (λ o grows. grows_put s.chunks s.next kept o (λ e here. can) grows) s.opened sound.each)
      (subst CanGrow (sym (get_inserted s.chunks s.next kept s.next ∙ ap (λ (b : Bool). cond b (Some kept) (map.get s.chunks s.next)) ((Decides-eqb s.next s.next).1 refl))) can);
  held = held_with s.root s.chunks s.next kept as_held sound.held;
  below = λ k there. held_put s.chunks s.next kept (s.next + 1) k (omega arith) (λ n is. let b : n < s.next = sound.below n is in omega arith) there;
  numbers = omega arith;
  differ = differ_put s.chunks s.next kept sound.differ (λ m name ne here there. let w = named name here in sound.free m name there w.0 s.next (omega arith) lt w.1);
  free = free_put s.root (s.next + 1) s.chunks s.next kept (λ n name at_n. later_on s.root s.next name (sound.free n name at_n)) (λ name here. let w = named name here in new_is_no_later s.root s.next w.0 name w.1 (omega arith));
}

pub sound_adopted : (s : Stored) (n : ℕ) (kept : Kept) → map.get s.chunks n ≡ None → n < s.next → IsValidEntry s.root n (Some kept) → ((name : List ℕ) → file_of kept ≡ Some name → IsNew s name × IsNoLater s.root s.next name) → IsSound s → IsSound (with_kept s n kept)
sound_adopted s n kept none lt as_held own sound = record {
  each = All-weaker (Grows s.chunks) (Grows (map.insert s.chunks n kept))
      (λ o can. grows_put s.chunks n kept o (λ e here. absurd (subst CanGrow (ap (λ (k : ℕ). map.get s.chunks k) (sym ((Decides-eqb n o.chunk).0 e)) ∙ none) here)) can) s.opened sound.each;
  held = held_with s.root s.chunks n kept as_held sound.held;
  below = λ k there. held_put s.chunks n kept s.next k lt sound.below there;
  numbers = sound.numbers;
  differ = differ_put s.chunks n kept sound.differ (λ m name ne here there. (own name here).0 m there);
  free = free_put s.root s.next s.chunks n kept sound.free (λ name here. (own name here).1);
}

left_out : (chunks : KeptMap) (n : ℕ) (opened : List Opened) → All (Grows chunks) opened → All (Grows (map.remove chunks n)) (without n opened)
left_out chunks n [] all = All-nil (Grows (map.remove chunks n))
left_out chunks n (o ∷ os) all = by (o.chunk == n) refl (left_out chunks n os (All-tail (Grows chunks) o os all))
  where
    by : (b : Bool) → (o.chunk == n) ≡ b → All (Grows (map.remove chunks n)) (without n os) → All (Grows (map.remove chunks n)) (if not b then o ∷ without n os else without n os)
    by true e rest = rest
    by false e rest = All-cons (Grows (map.remove chunks n)) o (without n os)
        (subst CanGrow (sym (get_removed chunks n o.chunk ∙ ap (λ (b : Bool). cond b None (map.get chunks o.chunk)) (other (nat_eq n o.chunk) refl))) (All-head (Grows chunks) o os all)) rest
      where
        other : (b : Bool) → nat_eq n o.chunk ≡ b → nat_eq n o.chunk ≡ false
        other true is = let same : (o.chunk == n) ≡ true = (Decides-eqb o.chunk n).1 (sym ((Decides-eqb n o.chunk).0 is)) in absurd (cc (same, e))
        other false is = is

pub sound_dropped : (s : Stored) (n : ℕ) → IsSound s → IsSound (without_chunk s n)
sound_dropped s n sound = record {
  each = left_out s.chunks n s.opened sound.each;
  held = held_without s.root s.chunks n sound.held;
  below = λ k is. sound.below k (there k (nat_eq n k) (subst IsSome (get_removed s.chunks n k) is));
  numbers = sound.numbers;
  differ = λ a b name at_a at_b. sound.differ a b name (still s.chunks n a name at_a) (still s.chunks n b name at_b);
  free = λ a name at_a. sound.free a name (still s.chunks n a name at_a);
}
  where
    there : (k : ℕ) (b : Bool) → IsSome (cond b None (map.get s.chunks k)) → IsSome (map.get s.chunks k)
    there k true is = absurd (cc is)
    there k false is = is

pub sound_given_up : (s : Stored) (n : ℕ) (o : Option Kept) → has_file o ≡ true → after_failed_append s n o ≡ sealed s n
sound_given_up s n (Some (InFile head)) is = refl
sound_given_up s n (Some (Adopted head)) is = refl
sound_given_up s n (Some (InMemory content)) is = absurd (cc is)
sound_given_up s n None is = absurd (cc is)

pub kept_back : (s : Stored) (n : ℕ) (o : Option Kept) → has_file o ≡ false → after_failed_append s n o ≡ s
kept_back s n (Some (InFile head)) is = absurd (cc is)
kept_back s n (Some (Adopted head)) is = absurd (cc is)
kept_back s n (Some (InMemory content)) is = refl
kept_back s n None is = refl

-- an open chunk can grow
pub open_grows : (s : Stored) (input : ℕ) (tag : List ℕ) (n : ℕ) → IsSound s → open_for s.opened input tag ≡ Some n → CanGrow (map.get s.chunks n)
open_grows s input tag n sound is = found s.opened sound.each is
  where
    found : (opened : List Opened) → All (Grows s.chunks) opened → open_for opened input tag ≡ Some n → CanGrow (map.get s.chunks n)
    found [] all none = absurd (cc none)
    found (o ∷ os) all here = by (is_for input tag o) here (All-head (Grows s.chunks) o os all) (found os (All-tail (Grows s.chunks) o os all))
      where
        by : (b : Bool) → (if b then Some o.chunk else open_for os input tag) ≡ Some n → CanGrow (map.get s.chunks o.chunk) → (open_for os input tag ≡ Some n → CanGrow (map.get s.chunks n)) → CanGrow (map.get s.chunks n)
        by true e can rest = let same : o.chunk ≡ n = cc e in subst (λ (k : ℕ). CanGrow (map.get s.chunks k)) same can
        by false e can rest = rest e

pub sound_as_new : (s : Stored) (input : ℕ) (tag : List ℕ) (kept : Kept) (next : ℕ) (chunks : KeptMap) (opened : List Opened)
    → next ≡ s.next + 1 → chunks ≡ map.insert s.chunks s.next kept → opened ≡ s.opened ++ record { input = input; tag = tag; chunk = s.next } ∷ []
    → s.next < numbers_end → CanGrow (Some kept) → IsValidEntry s.root s.next (Some kept) → IsNamedNew s.root s.next kept → IsSound s → IsSound (record { root = s.root; full = s.full; next = next; chunks = chunks; opened = opened })
sound_as_new s input tag kept next chunks opened is_next is_chunks is_opened lt can as_held named sound =
    subst IsSound (λ i. record { root = s.root; full = s.full; next = sym is_next i; chunks = sym is_chunks i; opened = sym is_opened i }) (sound_with_new s input tag kept lt can as_held named sound)

pub can_begin : (name tag : List ℕ) (home : Home) (batch : List ℕ) (outputs : List (List ℕ)) → length tag ≤ longest_tag → AreOutputs outputs → CanGrow (Some (new_kept name tag home batch outputs))
can_begin name tag Disk batch outputs le are = length-new_meta tag outputs le are.few (are_short outputs are)
can_begin name tag Ram batch outputs le are = tt

-- the metadata of a new file hold its outputs
new_holds_names : (name tag batch : List ℕ) (outputs : List (List ℕ)) → length tag ≤ longest_tag → AreOutputs outputs → FitsNames (new_head name tag batch outputs)
new_holds_names name tag batch outputs short are is = (
  omega (arith, length-outputs_bytes (unrecorded outputs), ap named_length (names_of outputs), length-append tag (length (unrecorded outputs) ∷ flat_map named_output_bytes (unrecorded outputs))),
  omega (arith, length-new_meta tag outputs short are.few (are_short outputs are)),
)
  where
    names_of : (names : List (List ℕ)) → list.map (λ (o : NamedOutput). o.name) (unrecorded names) ≡ names
    names_of [] = refl
    names_of (name ∷ names) = ap (λ (l : List (List ℕ)). name ∷ l) (names_of names)

pub begins_held : (root : Option (List ℕ)) (stream : List ℕ) (n : ℕ) (tag : List ℕ) (home : Home) (batch : List ℕ) (outputs : List (List ℕ)) → length tag ≤ longest_tag → AreOutputs outputs → length batch ≤ largest_batch
    → IsValidEntry root n (Some (new_kept (file_name (unwrap_or root []) stream n) tag home batch outputs))
begins_held root stream n tag Disk batch outputs short are le = (
  omega (arith, le, length-new_meta tag outputs short are.few (are_short outputs are)),
  new_holds_names (file_name (unwrap_or root []) stream n) tag batch outputs short are,
  stream,
  refl,
)
begins_held root stream n tag Ram batch outputs short are le = (omega arith, tt)

pub begins_named : (root : Option (List ℕ)) (stream : List ℕ) (n : ℕ) (tag : List ℕ) (home : Home) (batch : List ℕ) (outputs : List (List ℕ)) → IsNamedNew root n (new_kept (file_name (unwrap_or root []) stream n) tag home batch outputs)
begins_named root stream n tag Disk batch outputs name here = (stream, sym (same_value here))
begins_named root stream n tag Ram batch outputs name here = absurd (cc here)

pub goes_on_held : (root : Option (List ℕ)) (n : ℕ) (kept : Kept) (batch : List ℕ) → HasRoom kept batch → IsValidEntry root n (Some kept) → IsValidEntry root n (Some (after_append kept batch))
goes_on_held root n (InFile head) batch room is = (omega arith, is.1, is.2, is.3)
goes_on_held root n (Adopted head) batch room is = is
goes_on_held root n (InMemory content) batch room is = is

pub can_go_on : (kept : Kept) (batch : List ℕ) → CanGrow (Some kept) → CanGrow (Some (after_append kept batch))
can_go_on (InFile head) batch can = can
can_go_on (Adopted head) batch can = can
can_go_on (InMemory content) batch can = can

pub grows_some : (o : Option Kept) → CanGrow o → (kept : Kept) × (o ≡ Some kept)
grows_some (Some kept) can = (kept, refl)
grows_some None can = absurd can

room_in : (kept : Kept) (batch : List ℕ) → CanGrow (Some kept) → size_of kept < full_chunk → length batch ≤ largest_batch → HasRoom kept batch
room_in (InFile head) batch can small le = omega arith
room_in (Adopted head) batch can small le = tt
room_in (InMemory content) batch can small le = tt

pub room_for : (s : Stored) (n : ℕ) (kept : Kept) (batch : List ℕ) → map.get s.chunks n ≡ Some kept → CanGrow (map.get s.chunks n) → IsTrue (has_room s (Some n)) → length batch ≤ largest_batch → HasRoom kept batch
room_for s n kept batch is can small le =
    room_in kept batch (subst CanGrow is can) (ltb-true (size_of kept) full_chunk (subst (λ (o : Option Kept). IsTrue (nat_lt (size_of_optional o) full_chunk)) is small)) le

pub same_file : (kept : Kept) (batch : List ℕ) → file_of (after_append kept batch) ≡ file_of kept
same_file (InFile head) batch = refl
same_file (Adopted head) batch = refl
same_file (InMemory content) batch = refl

pub sound_as_kept : (s : Stored) (n : ℕ) (old new : Kept) (chunks : KeptMap) → map.get s.chunks n ≡ Some old → file_of new ≡ file_of old → chunks ≡ map.insert s.chunks n new → (CanGrow (Some old) → CanGrow (Some new)) → (IsValidEntry s.root n (Some old) → IsValidEntry s.root n (Some new)) → IsSound s
    → IsSound (record { root = s.root; full = s.full; next = s.next; chunks = chunks; opened = s.opened })
sound_as_kept s n old new chunks is same is_chunks may stays sound =
    subst IsSound (λ i. record { root = s.root; full = s.full; next = s.next; chunks = sym is_chunks i; opened = s.opened }) (sound_with_kept s n old new is same may stays sound)

pub sound_as_adopted : (s : Stored) (n : ℕ) (new : Kept) (chunks : KeptMap) → map.get s.chunks n ≡ None → chunks ≡ map.insert s.chunks n new → n < s.next → IsValidEntry s.root n (Some new) → ((name : List ℕ) → file_of new ≡ Some name → IsNew s name × IsNoLater s.root s.next name) → IsSound s
    → IsSound (record { root = s.root; full = s.full; next = s.next; chunks = chunks; opened = s.opened })
sound_as_adopted s n new chunks none is_chunks lt as_held own sound =
    subst IsSound (λ i. record { root = s.root; full = s.full; next = s.next; chunks = sym is_chunks i; opened = s.opened }) (sound_adopted s n new none lt as_held own sound)

-- a file that no chunk has, now or later
pub found_is_own : (s : Stored) (head : ChunkHead) (full : List ℕ) → head.name ≡ full → IsNew s full → IsNoLater s.root s.next full → (name : List ℕ) → file_of (Adopted head) ≡ Some name → IsNew s name × IsNoLater s.root s.next name
found_is_own s head full is new later name here =
    let e : full ≡ name = sym is ∙ same_value here in
    (subst (IsNew s) e new, subst (IsNoLater s.root s.next) e later)
