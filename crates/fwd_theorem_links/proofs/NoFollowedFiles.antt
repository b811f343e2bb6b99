-- A run without followed files makes no call on files and none on the keeper of offsets.
use Rattle.std.proofs.Common.{◌≡◌, inl, ℕ, List, [], ◌∷◌, ◌++◌, length, Option, Some, None, refl}
use Rattle.std.specs.List.{flat_map, range_with_len}
use Rattle.fwd_outside.specs.Program.{Execution}
use Rattle.fwd_outside.specs.Loop.{Dial}
use Rattle.fwd_outside.specs.declared.ends.Ends.{Ends}
use Rattle.fwd_settings.specs.declared.settings_types.AllSettings.{AllSettings}
use Rattle.fwd_model.specs.Trace.{Call, Answer, Action, TraceEntry, OnLoop, OnFiles, OnKeeper, files_entry, files_part, keeper_entry, keeper_part}
use Rattle.fwd_model.specs.Settings.{paths_at, db_at}
use Rattle.fwd_model.specs.KeptOffsets.{tracked, tracked_by}
use Rattle.fwd_model.specs.Run.{RunResult, life}
use Rattle.fwd_theorem_links.proofs.Simulation.{AnswerIsDialed, AllDialed, IsForFollowed, AllForFollowed}
use Rattle.fwd_theorem_links.proofs.Life.{simulated_run}

abbrev same : ℕ → ℕ
same n = n

abbrev Any : ℕ → Type 0
Any n = Unit {0}

any_answer : (call : Call) (answer : Answer call) → AnswerIsDialed same Any ⊥ call answer
any_answer (OnLoop (Dial output tag)) (Some link) = tt
any_answer call answer = tt

all_any : (es : List TraceEntry) → AllDialed same Any ⊥ es
all_any [] = tt
all_any (e ∷ es) = (any_answer e.call e.answer, all_any es)

no_files : (es : List TraceEntry) → AllForFollowed same Any ⊥ es → files_part es ≡ []
no_files [] followed = refl
no_files (e ∷ es) followed = by e.call e.answer followed.0 (no_files es followed.1)
  where
    by : (call : Call) (answer : Answer call) → IsForFollowed same Any ⊥ call → files_part es ≡ [] → files_entry call answer ++ files_part es ≡ []
    by (OnFiles call) answer followed rest = absurd followed
    by call answer followed rest = rest

no_keeper : (es : List TraceEntry) → AllForFollowed same Any ⊥ es → keeper_part es ≡ []
no_keeper [] followed = refl
no_keeper (e ∷ es) followed = by e.call e.answer followed.0 (no_keeper es followed.1)
  where
    by : (call : Call) (answer : Answer call) → IsForFollowed same Any ⊥ call → keeper_part es ≡ [] → keeper_entry call answer ++ keeper_part es ≡ []
    by (OnKeeper call) answer followed rest = absurd followed
    by call answer followed rest = rest

module _ (s : AllSettings) (none : (input : ℕ) → paths_at s input ≡ []) where
  none_by : (input : ℕ) (db : Option (List ℕ)) (paths : List (List ℕ)) → paths ≡ [] → tracked_by input db paths ≡ []
  none_by input None paths is = refl
  none_by input (Some db) paths is = rw is refl

  none_among : (inputs : List ℕ) → flat_map (λ (input : ℕ). tracked_by input (db_at s input) (paths_at s input)) inputs ≡ []
  none_among [] = refl
  none_among (input ∷ inputs) = rw (none_by input (db_at s input) (paths_at s input) (none input)) (none_among inputs)

  none_tracked : tracked s ≡ []
  unfolding tracked
  none_tracked = none_among (range_with_len 0 (length s.inputs))

  pub nothing_asked : (ends : Ends) (ticks : Option ℕ) (turns : ℕ) (es : List TraceEntry) (left : Action RunResult) → Execution (life s ends ticks turns) es left → (files_part es ≡ []) × (keeper_part es ≡ [])
  nothing_asked ends ticks turns es left way =
      let there = simulated_run same Any ⊥ (λ a b given. refl) s (λ input. inl (none input)) (inl none_tracked) ends ticks turns es left way (all_any es) in
      (no_files es there.followed, no_keeper es there.followed)
