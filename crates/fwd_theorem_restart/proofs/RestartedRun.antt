-- A run on a disk as a killed process left it is, once it has loaded, as safe as one on a disk without unsynced state.
use Rattle.std.proofs.Common.{◌≡◌, ◌⊎◌, inl, inr, ℕ, not, Bool, true, false, IsTrue, List, [], ◌∷◌, ◌++◌, Option, Some, None, refl, sym, ◌∙◌, ap, subst}
use Rattle.fwd_outside.specs.Program.{Return, bind, Execution}
use Rattle.fwd_outside.specs.AtCrashPoints.{Ends, AtCrashPoints}
use Rattle.fwd_outside.specs.File.{FileState, absent, IsPostCrash}
use Rattle.fwd_outside.specs.DiskStates.{Files}
use Rattle.fwd_outside.specs.declared.ends.Ends.{Ends as InputEnds}
use Rattle.fwd_outside.proofs.Executions.{way_trans, way_bind}
use Rattle.fwd_backlog.specs.Listing.{path_of}
use Rattle.fwd_backlog.specs.Recovered.{AreDurable}
use Rattle.fwd_settings.specs.declared.settings_types.AllSettings.{AllSettings}
use Rattle.fwd_model.specs.Fact.{History}
use Rattle.fwd_model.specs.Trace.{Action, TraceEntry}
use Rattle.fwd_model.specs.Chunks.{ChunkInfo}
use Rattle.fwd_model.specs.RecoveryActions.{recovers}
use Rattle.fwd_model.specs.Run.{RunResult, after_recovery, life}
use Rattle.fwd_theorem_trace.specs.Past.{logged}
use Rattle.fwd_theorem_crash.specs.CrashPoint.{CrashPoint, crash_point, LeadsTo}
use Rattle.fwd_theorem_crash.specs.Safety.{IsFileSafe, IsSafe, PendingAreSafe}
use Rattle.fwd_theorem_content.proofs.SyncedDisk.{synced_state, synced_files, state_alike, are_durable}
use Rattle.fwd_theorem_restart.specs.Restart.{IsLeftByKill}
use Rattle.fwd_theorem_restart.proofs.NearDisk.{NearBy, AreNear, equal_since, equal_stays, synced_passes, reaches, Shares, shared}
use Rattle.fwd_theorem_restart.proofs.SyncedByLoading.{loaded_synced}

-- what holds at each point of some calls holds at each point of the last of them
points_behind : (P : CrashPoint → Type 0) (one two : List TraceEntry) (m last : CrashPoint) → AtCrashPoints LeadsTo P m (one ++ two) → Ends LeadsTo m one last → AtCrashPoints LeadsTo P last two
points_behind P [] two m last all along = subst (λ (x : CrashPoint). AtCrashPoints LeadsTo P x two) (sym along) all
points_behind P (e ∷ one) two m last all along = points_behind P one two along.1 last (all.1 along.0 along.1 along.2).1 along.3

points_so : (P Q : CrashPoint → Type 0) (es : List TraceEntry) (m : CrashPoint) → ((at : CrashPoint) → P at → Q at) → AtCrashPoints LeadsTo P m es → AtCrashPoints LeadsTo Q m es
points_so P Q [] m so all = so m all
points_so P Q (e ∷ es) m so all = (
  so m all.0,
  λ during after leads. let step = all.1 during after leads in (so during step.0, points_so P Q es after so step.1),
)

module _ (s : AllSettings) (first : Files) (killed : IsLeftByKill first) where
  -- the files that aren't there are the same on both disks
  abbrev none_there : List ℕ → Bool
  none_there name = not (first name).there

  near_state : (file : FileState) → (file ≡ absent) ⊎ IsTrue file.there → NearBy (not file.there) file (synced_state file)
  unfolding synced_state
  near_state file (inl is) = subst (λ (f : FileState). NearBy (not f.there) f (synced_state f)) (sym is) refl
  near_state file (inr there) = subst (λ (b : Bool). NearBy (not b) file (synced_state file)) (sym there) (state_alike file (inr there))

  near_first : AreNear none_there first (synced_files first)
  unfolding synced_files
  near_first name = near_state (first name) (killed.known name)

  module _ (ends : InputEnds) (ticks : Option ℕ) (turns : ℕ) (loading entries : List TraceEntry) (found : History) (m : CrashPoint) (left : Action RunResult) (loads : Execution (recovers s) loading (Return (Some found))) (along : Ends LeadsTo (crash_point [] first) loading m)
      (way : Execution (after_recovery s ends ticks turns (Some found)) entries left) where
    pub whole_run : Execution (life s ends ticks turns) (loading ++ entries) left
    unfolding life
    whole_run =
        way_trans (bind (recovers s) (after_recovery s ends ticks turns)) (after_recovery s ends ticks turns (Some found)) left loading entries
        (way_bind (recovers s) (Return (Some found)) loading (after_recovery s ends ticks turns) loads) way

    abbrev these : List ℕ → Bool
    these = equal_since none_there loading

    -- a chunk's file is one of those
    chunk_file : (c : ChunkInfo) (h : History) (files : Files) (safe : IsFileSafe s h c files) → these (path_of safe.root safe.path) ≡ true
    chunk_file c h files safe = by (first (path_of safe.root safe.path)).there refl
      where
        by : (b : Bool) → (first (path_of safe.root safe.path)).there ≡ b → these (path_of safe.root safe.path) ≡ true
        by false none = equal_stays loading none_there (path_of safe.root safe.path) (ap not none)
        by true there = synced_passes loading none_there (path_of safe.root safe.path) (loaded_synced s safe.root first loading found m safe.under killed.sound loads along safe.path safe.named there)

    same_file : (c : ChunkInfo) (h : History) (real files : Files) → ((n : List ℕ) → these n ≡ true → files n ≡ real n) → IsFileSafe s h c files → IsFileSafe s h c real
    same_file c h real files same safe = record {
      root = safe.root;
      path = safe.path;
      under = safe.under;
      named = safe.named;
      held = safe.held;
      images = λ image left_so. safe.images image (subst (λ (f : FileState). IsPostCrash f image) (sym (same (path_of safe.root safe.path) (chunk_file c h files safe))) left_so);
    }

    pending_safe : (at : CrashPoint) → Shares (IsSafe s (synced_files first)) these at → PendingAreSafe s at
    pending_safe at shares c has owes home = same_file c (logged at.past) at.files shares.0 shares.1 (shares.2.owed c has owes home)

    safe_since : AtCrashPoints LeadsTo (IsSafe s (synced_files first)) (crash_point [] (synced_files first)) (loading ++ entries) → AtCrashPoints LeadsTo (PendingAreSafe s) m entries
    safe_since all =
        let Safe : CrashPoint → Type 0 = IsSafe s (synced_files first) in
        let other = reaches loading (crash_point [] first) m none_there (synced_files first) near_first along in
        let behind = points_behind Safe loading entries (crash_point [] (synced_files first)) (crash_point m.past other.files) all other.along in
        points_so (Shares Safe these) (PendingAreSafe s) entries m pending_safe (shared Safe these entries m these other.files (λ n on. on) other.near behind)

pub restarted_safe : (s : AllSettings) (ends : InputEnds) (ticks : Option ℕ) (turns : ℕ) (first : Files) (loading entries : List TraceEntry) (found : History) (m : CrashPoint) (left : Action RunResult) → IsLeftByKill first
    → Execution (recovers s) loading (Return (Some found)) → Ends LeadsTo (crash_point [] first) loading m → Execution (after_recovery s ends ticks turns (Some found)) entries left
    → (AreDurable (synced_files first) → Execution (life s ends ticks turns) (loading ++ entries) left → AtCrashPoints LeadsTo (IsSafe s (synced_files first)) (crash_point [] (synced_files first)) (loading ++ entries))
    → AtCrashPoints LeadsTo (PendingAreSafe s) m entries
restarted_safe s ends ticks turns first loading entries found m left killed loads along way safe =
    safe_since s first killed ends ticks turns loading entries found m left loads along way
    (safe (are_durable first) (whole_run s first killed ends ticks turns loading entries found m left loads along way))
