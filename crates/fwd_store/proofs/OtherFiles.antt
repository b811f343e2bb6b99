-- Programs whose disk calls are about one file leave the others unchanged.
use Rattle.std.proofs.Common.{◌≢◌, Bool, true, false, Option, Some, None, List, [], ◌∷◌, ℕ, ◌+◌, length, sym, ◌∙◌}
use Rattle.std.specs.Int.{to_be_bytes, w32}
use Rattle.fwd_outside.specs.Program.{Return, Ask, with_value, and_then}
use Rattle.fwd_outside.specs.AtCrashPoints.{HoldsThroughout}
use Rattle.fwd_outside.specs.Disk.{DiskAnswer, DiskProgram, places, writes}
use Rattle.fwd_outside.specs.DiskStates.{Files, DiskTransition}
use Rattle.fwd_outside.specs.PostCrash.{OthersUnchanged, IsOn}
use Rattle.fwd_outside.proofs.UnchangedFiles.{untouched_step}
use Rattle.fwd_chunk.specs.declared.append.ChunkHead.{ChunkHead}
use Rattle.fwd_chunk.specs.Layout.{other, new_file}
use Rattle.fwd_chunk.specs.Append.{create_program, new_head, stage_program, commit_program, sync_if_program, next_selector}
use Rattle.fwd_chunk.specs.declared.kept.Kept.TheVariants.{InFile}
use Rattle.fwd_chunk.specs.Kept.{appends}

-- each call of the program is about this file
abbrev pub IsAbout : {R : Type 0} → List ℕ → DiskProgram R → Type 0
IsAbout name (Return x) = Unit {0}
IsAbout name (Ask call go) = ((n : List ℕ) → n ≢ name → IsOn call n → ⊥) × ((answer : DiskAnswer call) → IsAbout name (go answer))

pub holds_others : {R : Type 0} (name : List ℕ) (first files : Files) (p : DiskProgram R) → IsAbout name p → OthersUnchanged name first files → HoldsThroughout DiskTransition (OthersUnchanged name first) (λ _ _. Unit {0}) files p
holds_others name first files (Return x) about same = (same, tt)
holds_others name first files (Ask call go) about same = (
  same,
  λ answer during after steps. (
    λ n ne. (untouched_step n call answer files during after steps (about.0 n ne)).0 ∙ same n ne,
    holds_others name first after (go answer) (about.1 answer) (λ n ne. (untouched_step n call answer files during after steps (about.0 n ne)).1 ∙ same n ne),
  ),
)

about_value : {R S : Type 0} (name : List ℕ) (next : R → DiskProgram (Option S)) (o : Option R) → ((x : R) → IsAbout name (next x)) → IsAbout name (with_value next o)
about_value name next (Some x) about = about x
about_value name next None about = tt

about_then : {R S : Type 0} (name : List ℕ) (p : DiskProgram (Option R)) (next : R → DiskProgram (Option S)) → IsAbout name p → ((x : R) → IsAbout name (next x)) → IsAbout name (and_then p next)
about_then name (Return o) next about behind = about_value name next o behind
about_then name (Ask call go) next about behind = (about.0, λ answer. about_then name (go answer) next (about.1 answer) behind)

about_writes : (name : List ℕ) (at : ℕ) (bytes : List ℕ) → IsAbout name (writes name at bytes)
about_writes name at bytes = (λ n ne is. ne (sym is), λ answer. tt)

about_syncs : (full : Bool) (name : List ℕ) → IsAbout name (sync_if_program full name)
about_syncs true name = (λ n ne is. ne (sym is), λ answer. tt)
about_syncs false name = tt

about_stages : (head : ChunkHead) (batch : List ℕ) (full : Bool) → IsAbout head.name (stage_program head batch full)
about_stages head batch full =
    about_then head.name (writes head.name (24 + head.meta + head.size) batch) (λ _. and_then (writes head.name (other head.selector) (to_be_bytes w32 (head.size + length batch))) (λ _. sync_if_program full head.name))
    (about_writes head.name (24 + head.meta + head.size) batch)
    (λ _. about_then head.name (writes head.name (other head.selector) (to_be_bytes w32 (head.size + length batch))) (λ _. sync_if_program full head.name)
    (about_writes head.name (other head.selector) (to_be_bytes w32 (head.size + length batch))) (λ _. about_syncs full head.name))

about_commits : (head : ChunkHead) (full : Bool) → IsAbout head.name (commit_program head full)
about_commits head full =
    about_then head.name (writes head.name 7 (next_selector head.selector ∷ [])) (λ _. sync_if_program full head.name) (about_writes head.name 7 (next_selector head.selector ∷ [])) (λ _. about_syncs full head.name)

pub about_appends : (head : ChunkHead) (batch : List ℕ) (full : Bool) → IsAbout head.name (appends (InFile head) batch full)
about_appends head batch full = about_then head.name (stage_program head batch full) (λ _. commit_program head full) (about_stages head batch full) (λ _. about_commits head full)

pub about_places : (name bytes : List ℕ) → IsAbout name (places name bytes)
about_places name bytes = (λ n ne is. ne (sym is), λ answer. tt)

pub about_creates : (name tag batch : List ℕ) (outputs : List (List ℕ)) → IsAbout name (and_then (create_program name tag batch outputs) (λ _. Return (Some (tt {0}))))
about_creates name tag batch outputs =
    about_then name (create_program name tag batch outputs) (λ _. Return (Some tt))
    (about_then name (places name (new_file tag batch outputs)) (λ _. Return (Some (new_head name tag batch outputs))) (about_places name (new_file tag batch outputs)) (λ _. tt)) (λ _. tt)
