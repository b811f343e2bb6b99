use Rattle.std.proofs.Common.{Result, Ok, Err, Some, OnErr, IsSome, refl, sym, ◌∙◌, ap, subst}
use Rattle.std.specs.BTreeMap.{BTreeMap}
use Rattle.std.specs.Map.{set_value}
use Rattle.std.proofs.lemmas.Map.Steps.{set_value_same}
use Rattle.fwd_base.specs.declared.memory.Memory.{Memory}
use Rattle.fwd_files_mem.proofs.FilePaths.{at_path, has_appended, has_made}
use Rattle.fwd_files_mem.proofs.files.append.Goals as goal

on_err : (r : Result (Unit {0}) Memory) (P : Type 0) → P → OnErr r P
on_err (Ok done) P p = tt
on_err (Err memory) P p = p

pub returns-in_err-extend_from_slice-in-Some-clause-err : goal.returns-in_err-extend_from_slice-in-Some-clause-err
returns-in_err-extend_from_slice-in-Some-clause-err c =
    let entries = c.args.files.now.entries in
    let test = at_path c.args.path.now in
    let now = c.extend_from_slice.new.self in
    on_err c.from_residual.result _
    ((c.get_mut.follows.holds now).0 ∙ ap (set_value test entries) c.in_err-extend_from_slice-in-Some.ensures.err ∙ set_value_same test entries c.in-Some.content.now (sym c.in-Some.ensures.value))

pub returns-in_ok-extend_from_slice-in-Some-clause-ok : goal.returns-in_ok-extend_from_slice-in-Some-clause-ok
returns-in_ok-extend_from_slice-in-Some-clause-ok c =
    let there = c.in-Some.ensures.value in
    let now = c.extend_from_slice.new.self in
    let updates = (c.get_mut.follows.holds now).3 (subst IsSome there refl) in
    has_appended c.args.files.now.entries (c.get_mut.follows.lender now).entries c.args.path.now now updates.0 c.args.bytes.now (Some c.in-Some.content.now) there c.in_ok-extend_from_slice-in-Some.ensures.ok

pub returns-in_ok-insert-in-None-clause-ok : goal.returns-in_ok-insert-in-None-clause-ok
returns-in_ok-insert-in-None-clause-ok c =
    has_made c.args.files.now.entries c.get_mut.follows.lender-at-none.entries c.insert.new.self.entries c.args.path.now c.in_ok-try_clone-in-None.field-0 c.args.bytes.now c.in_ok-bytes-in-None.bytes
    (ap (λ (m : BTreeMap _ _). m.entries) c.get_mut.follows.holds-at-none) c.in_ok-try_clone-in-None.ensures c.in_ok-bytes-in-None.ensures c.in-None.ensures.value c.in_ok-insert-in-None.ensures.updates.0
