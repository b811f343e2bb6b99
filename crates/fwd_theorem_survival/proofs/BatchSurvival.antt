-- A stored batch survives a crash at a safe point.
use Rattle.std.proofs.Common.{◌≡◌, inl, inr, ⊎_elim, ◌⊎◌, ℕ, not, Bool, true, false, List, [], ◌∷◌, ◌++◌, length, Option, Some, None, refl, sym, ◌∙◌, ap, subst, arith}
use Rattle.std.specs.Prelude.{◌↔◌, Contains, ◌==◌}
use Rattle.std.proofs.lemmas.Bool.{eqb-true}
use Rattle.fwd_outside.specs.Program.{Return, Execution}
use Rattle.fwd_outside.specs.AtCrashPoints.{Ends}
use Rattle.fwd_outside.specs.declared.home.Home.TheVariants.{Disk}
use Rattle.fwd_outside.specs.File.{IsPostCrash, content as content_of_file}
use Rattle.fwd_outside.specs.DiskStates.{Files}
use Rattle.fwd_backlog.specs.Recovered.{AreDurable}
use Rattle.fwd_settings.specs.declared.settings_types.AllSettings.{AllSettings}
use Rattle.fwd_model.specs.Fact.{History, Route, Batch}
use Rattle.fwd_model.specs.Trace.{TraceEntry}
use Rattle.fwd_model.specs.Settings.{home_at, outputs_for}
use Rattle.fwd_model.specs.Chunks.{ChunkInfo, chunks_of, content, offered_events, encoded}
use Rattle.fwd_model.specs.Routes.{route, owed, is_owed, is_resolved, home_of}
use Rattle.fwd_model.specs.RecoveryActions.{recovers}
use Rattle.fwd_theorem_trace.specs.Past.{logged}
use Rattle.fwd_theorem_trace.specs.Resolution.{IsResolved}
use Rattle.fwd_theorem_trace.proofs.Members.{on_where_off}
use Rattle.fwd_theorem_crash.specs.CrashPoint.{CrashPoint, crash_point, LeadsTo}
use Rattle.fwd_theorem_crash.specs.RecordedOutcomes.{is_recorded}
use Rattle.fwd_theorem_crash.specs.Recovery.{IsRecovered as IsChunkRecovered}
use Rattle.fwd_theorem_crash.specs.Safety.{PendingAreSafe}
use Rattle.fwd_theorem_survival.specs.Survival.{Survives, WasResolved, IsRecovered, SurvivesCrash}
use Rattle.fwd_theorem_survival.proofs.StoredBatches.{Holds, Stored, holds_more}

-- ---- the theorems that are put together

abbrev pub ChunksAreRecovered : AllSettings → Type 0
ChunksAreRecovered s =
    (m last : CrashPoint) (image : Files) (entries : List TraceEntry) (h : History) (c : ChunkInfo) → PendingAreSafe s m → AreDurable image
    → ((name : List ℕ) → IsPostCrash (m.files name) (content_of_file (image name))) → Execution (recovers s) entries (Return (Some h)) → Ends LeadsTo (crash_point [] image) entries last
    → Contains (chunks_of (logged m.past)) c → is_owed s (logged m.past) c ≡ true → home_of s c.input ≡ Disk → IsChunkRecovered s (logged m.past) h c

abbrev pub ResolvedIff : AllSettings → Type 0
ResolvedIff s = (h : History) (r : Route) → (is_resolved s h r ≡ true) ↔ IsResolved s h r

abbrev pub OwedIff : AllSettings → Type 0
OwedIff s = (h : History) (c : ChunkInfo) (output : ℕ) → Contains (owed s h c) output ↔ (Contains (outputs_for s c.tag) output × (is_resolved s h (route c.number output) ≡ false))

none_owed : (outputs : List ℕ) (output : ℕ) → not (length outputs == 0) ≡ false → Contains outputs output → ⊥
none_owed outputs output none has = let is = eqb-true (length outputs) 0 (on_where_off (length outputs == 0) none) in absurd (omega (arith, is, has.1))

module _ (s : AllSettings) (recovered_all : ChunksAreRecovered s) (resolved_iff : ResolvedIff s) (owed_iff : OwedIff s) (at : CrashPoint) (safe : PendingAreSafe s at) (b : Batch) (n : ℕ) (disk : home_at s b.input ≡ Disk)
    (is : Stored b n (logged at.past)) where
  abbrev h : History
  h = logged at.past

  own_route : (output : ℕ) → route is.chunk.number output ≡ route n output
  own_route output = ap (λ (m : ℕ). route m output) is.of.number

  own_output : (output : ℕ) → Contains (outputs_for s b.tag) output → Contains (outputs_for s is.chunk.tag) output
  own_output output for = subst (λ (tag : List ℕ). Contains (outputs_for s tag) output) (sym is.of.tag) for

  pending_of : (output : ℕ) → Contains (outputs_for s b.tag) output → (IsResolved s h (route n output) → ⊥) → Contains (owed s h is.chunk) output
  pending_of output for never = (owed_iff h is.chunk output).1 (own_output output for, off (is_resolved s h (route is.chunk.number output)) refl)
    where
      off : (x : Bool) → is_resolved s h (route is.chunk.number output) ≡ x → x ≡ false
      off true is_so = absurd (never (subst (λ (r : Route). IsResolved s h r) (own_route output) ((resolved_iff h (route is.chunk.number output)).0 is_so)))
      off false isnt = refl

  holds_again : (after : List ℕ) → (after ≡ content h is.chunk.number) ⊎ (after ≡ content h is.chunk.number ++ encoded (offered_events h is.chunk.number)) → Holds b after
  holds_again after (inl same) = subst (Holds b) (sym (same ∙ ap (λ (m : ℕ). content h m) is.of.number)) is.holds
  holds_again after (inr same) =
      subst (Holds b) (sym (same ∙ ap (λ (m : ℕ). content h m ++ encoded (offered_events h is.chunk.number)) is.of.number)) (holds_more b (content h n) (encoded (offered_events h is.chunk.number)) is.holds)

  recovered : (after : History) → IsChunkRecovered s h after is.chunk → Survives s h after n b
  recovered after found =
      let holds = holds_again (content after found.again.number) found.content in
      IsRecovered found.again (record {
        among = found.among;
        tag = found.tag ∙ is.of.tag;
        front = holds.front;
        back = holds.back;
        whole = holds.is;
        pending = λ output for never. found.owed output (pending_of output for never);
        recorded = λ output for done. found.recorded output (own_output output for) (subst (λ (r : Route). is_recorded s h r ≡ true) (sym (own_route output)) done);
      })

  resolved : is_owed s h is.chunk ≡ false → (output : ℕ) → Contains (outputs_for s b.tag) output → IsResolved s h (route n output)
  resolved none output for = on (is_resolved s h (route n output)) refl
    where
      on : (x : Bool) → is_resolved s h (route n output) ≡ x → IsResolved s h (route n output)
      on true is_so = (resolved_iff h (route n output)).0 is_so
      on false isnt = absurd (none_owed (owed s h is.chunk) output none (pending_of output for (λ yes. absurd (cc (sym ((resolved_iff h (route n output)).1 yes) ∙ isnt)))))

  pub survives : SurvivesCrash s at n b
  survives left loading after last durable images loads leads = by (is_owed s h is.chunk) refl
    where
      by : (x : Bool) → is_owed s h is.chunk ≡ x → Survives s h after n b
      by true still = recovered after (recovered_all at last left loading after is.chunk safe durable images loads leads is.among still (ap (home_of s) is.of.input ∙ disk))
      by false none = WasResolved (resolved none)
