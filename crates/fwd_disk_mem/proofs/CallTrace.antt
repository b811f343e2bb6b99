-- The trace of the calls gives the calls back, and played calls are played in parts.
use Rattle.std.proofs.Common.{◌≡◌, true, false, is_some, List, [], ◌∷◌, ◌++◌, refl, sym, ◌∙◌, ap, subst, append_assoc}
use Rattle.std.proofs.lemmas.List.{append-nil}
use Rattle.fwd_outside.specs.Disk.{DiskCall, DiskAnswer, DiskEntry}
use Rattle.fwd_outside.specs.Disk as outside
use Rattle.fwd_disk_mem.specs.declared.entry.MemEntry.{MemEntry}
use Rattle.fwd_disk_mem.specs.declared.entry.MemEntry.TheVariants.{Place, WriteAt, Sync, Remove, Read, List as Listed, Preset, FailAt}
use Rattle.fwd_disk_mem.specs.Entry.{entry_of, entries_of, IsPlayed}

-- the call that an entry records
call_of : (call : DiskCall) → DiskAnswer call → MemEntry
call_of (outside.Place name bytes) answer = Place name bytes (is_some answer)
call_of (outside.WriteAt name at bytes) answer = WriteAt name at bytes (is_some answer)
call_of (outside.Sync name) answer = Sync name (is_some answer)
call_of (outside.Remove name) answer = Remove name (is_some answer)
call_of (outside.Read name at len) answer = Read name at len answer
call_of (outside.ListNames folder) answer = Listed folder answer
call_of (outside.Preset name bytes) answer = Preset name bytes
call_of (outside.FailAt number) answer = FailAt number

entry_back : (e : MemEntry) → call_of (entry_of e).call (entry_of e).answer ≡ e
unfolding call_of
entry_back (Place name bytes true) = refl
entry_back (Place name bytes false) = refl
entry_back (WriteAt name at bytes true) = refl
entry_back (WriteAt name at bytes false) = refl
entry_back (Sync name true) = refl
entry_back (Sync name false) = refl
entry_back (Remove name true) = refl
entry_back (Remove name false) = refl
entry_back (Read name at len answer) = refl
entry_back (Listed folder answer) = refl
entry_back (Preset name bytes) = refl
entry_back (FailAt number) = refl

pub same_entry : (a b : MemEntry) → entry_of a ≡ entry_of b → a ≡ b
same_entry a b same = sym (entry_back a) ∙ ap (λ (e : DiskEntry). call_of e.call e.answer) same ∙ entry_back b

-- the new entries, as calls
pub split_entries : (old new : List MemEntry) (es : List DiskEntry) → entries_of new ≡ entries_of old ++ es → (made : List MemEntry) × (new ≡ old ++ made) × (entries_of made ≡ es)
split_entries [] new es is = (new, refl, is)
split_entries (was ∷ old) [] es is = absurd (cc is)
split_entries (was ∷ old) (now ∷ new) es is =
    let head : entry_of now ≡ entry_of was = cc is in
    let rest : entries_of new ≡ entries_of old ++ es = cc is in
    let made = split_entries old new es rest in
    (made.0, ap (λ (t : MemEntry). t ∷ new) (same_entry now was head) ∙ ap (λ (l : List MemEntry). was ∷ l) made.1, made.2)

-- played calls are played in two parts, and the converse
pub played_first : (start a b : List MemEntry) → IsPlayed start (a ++ b) → IsPlayed start a
played_first start [] b played = tt
played_first start (call ∷ a) b played = (played.0, played_first (start ++ call ∷ []) a b played.1)

pub played_second : (start a b : List MemEntry) → IsPlayed start (a ++ b) → IsPlayed (start ++ a) b
played_second start [] b played = subst (λ (l : List MemEntry). IsPlayed l b) (sym (append-nil start)) played
played_second start (call ∷ a) b played = subst (λ (l : List MemEntry). IsPlayed l b) (append_assoc start (call ∷ []) a) (played_second (start ++ call ∷ []) a b played.1)

pub played_both : (start a b : List MemEntry) → IsPlayed start a → IsPlayed (start ++ a) b → IsPlayed start (a ++ b)
played_both start [] b first second = subst (λ (l : List MemEntry). IsPlayed l b) (append-nil start) second
played_both start (call ∷ a) b first second =
    (first.0, played_both (start ++ call ∷ []) a b first.1 (subst (λ (l : List MemEntry). IsPlayed l b) (sym (append_assoc start (call ∷ []) a)) second))

pub played_behind : (old made : List MemEntry) → IsPlayed [] (old ++ made) → IsPlayed old made
played_behind old made played = played_second [] old made played
