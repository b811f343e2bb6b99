-- A run reaches each point at which it gets or puts an offset.
use Rattle.std.proofs.Common.{◌≡◌, List, [], Some, refl, sym, subst}
use Rattle.fwd_outside.specs.Program.{Return, Execution}
use Rattle.fwd_outside.specs.AtCrashPoints.{HoldsThroughout, AtCrashPoints, Ends}
use Rattle.fwd_outside.proofs.CrashPointLemmas.{holds_moments, holds_end}
use Rattle.fwd_outside.specs.DiskStates.{Files}
use Rattle.fwd_settings.specs.declared.settings_types.AllSettings.{AllSettings}
use Rattle.fwd_model.specs.Fact.{History}
use Rattle.fwd_model.specs.Trace.{Action, TraceEntry}
use Rattle.fwd_model.specs.KeptOffsets.{tracked, gets, puts}
use Rattle.fwd_model.specs.RecoveryActions.{recovers}
use Rattle.fwd_theorem_trace.specs.Past.{Past, logged}
use Rattle.fwd_theorem_trace.specs.Allowed.{IsLoading, Allowed}
use Rattle.fwd_theorem_trace.proofs.Traversal.{traverses_rest}
use Rattle.fwd_theorem_trace.proofs.Run.{Loaded, loads_root, due_onward, loading_is_start}
use Rattle.fwd_theorem_crash.specs.CrashPoint.{CrashPoint, crash_point, LeadsTo}
use Rattle.fwd_theorem_crash.specs.StepBoundaries.{HasReached, IsLoaded, HasKept}
use Rattle.fwd_theorem_crash.proofs.Completion.{past_is}
use Rattle.fwd_theorem_crash.proofs.RunTraversal.{after}
use Rattle.fwd_theorem_crash.proofs.OffsetTraversal.{offset_changes, CanKeep, puts_on, gets_on}

module _ (s : AllSettings) (first : Files) where
  can_reach : CanKeep s (HasReached s first) (HasReached s first)
  can_reach = record {
    now = λ m come. come;
    still = λ call answer m of due come. HasKept m (after m call answer) call answer of come due (m, after m call answer, (offset_changes call answer m.files of, refl, refl), refl);
  }

  abbrev Reached : History → CrashPoint → Type 0
  Reached h end = HasReached s first end × (h ≡ logged end.past)

  -- ---- after a step

  puts_reach : (m : CrashPoint) → HasReached s first m → HoldsThroughout LeadsTo (HasReached s first) Reached m (puts s (tracked s) Return (logged m.past))
  puts_reach m come = puts_on s (HasReached s first) (HasReached s first) can_reach Reached (tracked s) Return (λ t has. has) (λ end then. (then, (then, refl))) m come

  pub puts_reached : (m : CrashPoint) (es : List TraceEntry) (left : Action History) → HasReached s first m → Execution (puts s (tracked s) Return (logged m.past)) es left → AtCrashPoints LeadsTo (HasReached s first) m es
  puts_reached m es left come way = holds_moments LeadsTo (HasReached s first) Reached m (puts s (tracked s) Return (logged m.past)) (puts_reach m come) es left way

  pub puts_end : (m last : CrashPoint) (es : List TraceEntry) (now : History) → HasReached s first m → Execution (puts s (tracked s) Return (logged m.past)) es (Return now) → Ends LeadsTo m es last → HasReached s first last × (now ≡ logged last.past)
  puts_end m last es now come way led = holds_end LeadsTo (HasReached s first) Reached m (puts s (tracked s) Return (logged m.past)) (puts_reach m come) es now last way led

  -- ---- after loading

  loaded_is : (m : CrashPoint) (loading : List TraceEntry) (h : History) → Execution (recovers s) loading (Return (Some h)) → Ends LeadsTo (crash_point [] first) loading m → (h ≡ logged m.past) × IsLoading (logged m.past)
  unfolding recovers
  loaded_is m loading h way led =
      subst (λ (past : Past). (h ≡ logged past) × IsLoading (logged past)) (sym (past_is (crash_point [] first) m loading led))
      (traverses_rest (Allowed s) Loaded [] (recovers s) (loads_root s (Allowed s) (due_onward s) tt s.service.path) loading (Return (Some h)) way).1

  module _ (m : CrashPoint) (loading : List TraceEntry) (h : History) (way : Execution (recovers s) loading (Return (Some h))) (led : Ends LeadsTo (crash_point [] first) loading m) where
    gets_reach : HoldsThroughout LeadsTo (HasReached s first) Reached m (gets s (tracked s) Return Return h)
    gets_reach =
        let is = loaded_is m loading h way led in
        subst (λ (x : History). HoldsThroughout LeadsTo (HasReached s first) Reached m (gets s (tracked s) Return Return x)) (sym is.0)
        (gets_on s (HasReached s first) (HasReached s first) can_reach Reached (tracked s) Return Return (λ end start then. (then, (then, refl))) (λ end start then. (then, (then, refl))) m (loading_is_start (logged m.past) is.1)
        (IsLoaded loading h m way led))

    reached_from : (es : List TraceEntry) (left : Action History) → Execution (gets s (tracked s) Return Return h) es left → AtCrashPoints LeadsTo (HasReached s first) m es
    reached_from es left on = holds_moments LeadsTo (HasReached s first) Reached m (gets s (tracked s) Return Return h) gets_reach es left on

    end_from : (last : CrashPoint) (es : List TraceEntry) (now : History) → Execution (gets s (tracked s) Return Return h) es (Return now) → Ends LeadsTo m es last → HasReached s first last × (now ≡ logged last.past)
    end_from last es now on along = holds_end LeadsTo (HasReached s first) Reached m (gets s (tracked s) Return Return h) gets_reach es now last on along

  pub gets_reached : (m : CrashPoint) (loading es : List TraceEntry) (h : History) (left : Action History) → Execution (recovers s) loading (Return (Some h)) → Ends LeadsTo (crash_point [] first) loading m
      → Execution (gets s (tracked s) Return Return h) es left → AtCrashPoints LeadsTo (HasReached s first) m es
  gets_reached m loading es h left way led on = reached_from m loading h way led es left on

  pub gets_end : (m last : CrashPoint) (loading es : List TraceEntry) (h now : History) → Execution (recovers s) loading (Return (Some h)) → Ends LeadsTo (crash_point [] first) loading m
      → Execution (gets s (tracked s) Return Return h) es (Return now) → Ends LeadsTo m es last → HasReached s first last × (now ≡ logged last.past)
  gets_end m last loading es h now way led on along = end_from m loading h way led last es now on along
