use Rattle.std.proofs.Common.{◌≡◌, Option, Some, None, Result, Ok, Err, List, ℕ, OnOk, OnErr, IsSome, map, sym, ◌∙◌, ap, subst, refl}
use Rattle.std.specs.Map.{set_value}
use Rattle.std.proofs.lemmas.Map.Steps.{set_value_same}
use Rattle.fwd_base.specs.declared.memory.Memory.{Memory}
use Rattle.fwd_outside.specs.File.{overwritten}
use Rattle.fwd_disk_mem.specs.FileTable.{MemFile, file_of, found, SetAt}
use Rattle.fwd_disk_mem.proofs.Lookup.{found_entry, set_entry, named}
use Rattle.fwd_disk_mem.proofs.file_table.FileTable.write.Goals as goal

some_same : (a b : List ℕ) → Some a ≡ Some b → a ≡ b
some_same a b e = cc

wrote : (r : Result (Unit {0}) Memory) (old new : List MemFile) (name : List ℕ) (at : ℕ) (bytes was now : List ℕ) → found old name ≡ Some was → SetAt old new name (Some now)
    → OnOk r (now ≡ overwritten was at bytes) → OnOk r ((o : List ℕ) → found old name ≡ Some o → SetAt old new name (Some (overwritten o at bytes)))
wrote (Err e) old new name at bytes was now is set done = tt
wrote (Ok x) old new name at bytes was now is set done = λ o is_o.
    let same = done ∙ ap (λ (l : List ℕ). overwritten l at bytes) (some_same was o (sym is ∙ is_o)) in
    subst (λ (l : List ℕ). SetAt old new name (Some l)) same set

absent : (r : Result (Unit {0}) Memory) (P : Type 0) (f : Option (List ℕ)) (bytes : List ℕ) → f ≡ Some bytes → OnOk r (f ≡ None → P)
absent (Err e) P f bytes is = tt
absent (Ok x) P f bytes is = λ none. let no : Some bytes ≡ None = sym is ∙ none in absurd (cc no)

same_at_err : (r : Result (Unit {0}) Memory) (P Q : Type 0) → (P → Q) → OnErr r P → OnErr r Q
same_at_err (Err e) P Q f p = f p
same_at_err (Ok x) P Q f p = tt

pub returns-in_default-clause-ok : goal.returns-in_default-clause-ok
returns-in_default-clause-ok c = λ old is.
    let no : None ≡ Some old = c.in_default.ensures.value ∙ sym (found_entry c.self.inside.files.entries c.args.name.now) ∙ ap (λ (l : List MemFile). found l c.args.name.now) c.self.view_is ∙ is in
    absurd (cc no)

pub returns-clause-ok : goal.returns-clause-ok
returns-clause-ok c =
    let entries = c.self.inside.files.entries in
    let name = c.args.name.now in
    let now = c.write.new.self in
    let there : found (map file_of entries) name ≡ Some c.in-Some.content.now = found_entry entries name ∙ sym c.in-Some.ensures.value in
    let updates = (c.get_mut.follows.holds now).3 (subst IsSome c.in-Some.ensures.value refl) in
    rw (← c.self.view_is) (wrote c.write.result (map file_of entries) (map file_of (c.get_mut.follows.lender now).entries) name c.args.at c.args.bytes.now c.in-Some.content.now now there
    (set_entry entries (c.get_mut.follows.lender now).entries name (Some now) updates.1 updates.3) c.write.ensures.ok)

pub returns-clause-absent : goal.returns-clause-absent
returns-clause-absent c =
    absent c.write.result _ _ c.in-Some.content.now (ap (λ (l : List MemFile). found l c.args.name.now) (sym c.self.view_is) ∙ found_entry c.self.inside.files.entries c.args.name.now ∙ sym c.in-Some.ensures.value)

pub returns-clause-err : goal.returns-clause-err
returns-clause-err c =
    let entries = c.self.inside.files.entries in
    let now = c.write.new.self in
    same_at_err c.write.result (now ≡ c.in-Some.content.now) _
    (λ same. ap (λ (l : List _). map file_of l) ((c.get_mut.follows.holds now).0 ∙ ap (set_value (named c.args.name.now) entries) same ∙ set_value_same (named c.args.name.now) entries c.in-Some.content.now (sym c.in-Some.ensures.value)) ∙ c.self.view_is)
    c.write.ensures.err
