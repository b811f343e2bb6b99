-- Parts of a trace with other numbers of links, and traces without some calls.
use Rattle.std.proofs.Common.{◌≡◌, ℕ, ◌||◌, Bool, true, false, if◌then◌else◌, List, [], ◌∷◌, ◌++◌, Option, Some, None, refl, sym, ap, ◌∙◌, subst}
use Rattle.fwd_outside.specs.Program.{entry, Return, Execution}
use Rattle.fwd_outside.specs.Loop.{LoopCall, LoopAnswer, LoopEntry, Wait, Dial}
use Rattle.fwd_outside.specs.Disk.{DiskEntry}
use Rattle.fwd_outside.specs.Files.{FilesEntry}
use Rattle.fwd_outside.specs.declared.happening.Happening.{Happening}
use Rattle.fwd_outside.specs.declared.happening.Happening.TheVariants as happening
use Rattle.fwd_handshake.specs.declared.ring.Ring.{Ring}
use Rattle.fwd_keeper.specs.Keeper.{KeeperEntry}
use Rattle.fwd_model.specs.Trace.{Call, Answer, TraceEntry, OnLoop, OnDisk, OnFiles, OnKeeper, Note, files_entry, loop_part, disk_part, files_part, keeper_part}
use Rattle.fwd_model.proofs.CallLogs.{loop_append}
use Rattle.fwd_replay.specs.FileChanges.{Course, FilesAnswered, IsCourseAnswer, after_call}
use Rattle.fwd_secure.specs.declared.keys.Keys.{Keys}
use Rattle.fwd_secure.specs.declared.handshakes.KeptBytes.{KeptBytes}
use Rattle.fwd_secure.specs.Handshakes.{Handshakes}
use Rattle.fwd_secure.specs.Kept.{is_given, first_given, holds}
use Rattle.fwd_secure.specs.Keys.{ring_at, has_keys}
use Rattle.fwd_secure.specs.Inputs.{Brings}
use Rattle.fwd_secure.specs.Rules.{brings, dialed, waits_by, answers_by, answers}
use Rattle.fwd_secure_trace.specs.Secured.{CallIsSecured, IsSecured}
use Rattle.fwd_secure_trace.proofs.Secured.{part_on_loop}
use Rattle.fwd_theorem_keys.proofs.Steps.{Always, always}
use Rattle.fwd_theorem_links.specs.RenamedLinks.{renamed_trace}
use Rattle.fwd_theorem_links.proofs.Simulation.{AllDialed, AnswerIsDialed}
use Rattle.fwd_theorem_runs.specs.SplitRun.{empty_recovery}
use Rattle.fwd_theorem_recorded.proofs.LoopSimulation.{LinkIsDialed, LinksAreDialed, dialed_left, dialed_right, renamed_calls}

-- ---- parts by other numbers

module _ (rename : ℕ → ℕ) (IsDialed : ℕ → Type 0) where
  pub loop_renamed : (es : List TraceEntry) → loop_part (renamed_trace rename es) ≡ renamed_calls rename (loop_part es)
  loop_renamed [] = refl
  loop_renamed (e ∷ es) = by e.call e.answer (loop_renamed es)
    where
      by : (call : Call) (answer : Answer call) → loop_part (renamed_trace rename es) ≡ renamed_calls rename (loop_part es)
          → loop_part (renamed_trace rename (entry call answer ∷ es)) ≡ renamed_calls rename (loop_part (entry call answer ∷ es))
      by (OnLoop call) answer rest = ap (λ (l : List LoopEntry). renamed_calls rename (entry call answer ∷ []) ++ l) rest
      by (OnDisk call) answer rest = rest
      by (OnFiles call) answer rest = rest
      by (OnKeeper call) answer rest = rest
      by (Note fact) answer rest = rest

  pub disk_renamed : (es : List TraceEntry) → disk_part (renamed_trace rename es) ≡ disk_part es
  disk_renamed [] = refl
  disk_renamed (e ∷ es) = by e.call e.answer (disk_renamed es)
    where
      by : (call : Call) (answer : Answer call) → disk_part (renamed_trace rename es) ≡ disk_part es → disk_part (renamed_trace rename (entry call answer ∷ es)) ≡ disk_part (entry call answer ∷ es)
      by (OnLoop call) answer rest = rest
      by (OnDisk call) answer rest = ap (λ (l : List DiskEntry). entry call answer ∷ l) rest
      by (OnFiles call) answer rest = rest
      by (OnKeeper call) answer rest = rest
      by (Note fact) answer rest = rest

  pub files_renamed : (es : List TraceEntry) → files_part (renamed_trace rename es) ≡ files_part es
  files_renamed [] = refl
  files_renamed (e ∷ es) = by e.call e.answer (files_renamed es)
    where
      by : (call : Call) (answer : Answer call) → files_part (renamed_trace rename es) ≡ files_part es → files_part (renamed_trace rename (entry call answer ∷ es)) ≡ files_part (entry call answer ∷ es)
      by (OnLoop call) answer rest = rest
      by (OnDisk call) answer rest = rest
      by (OnFiles call) answer rest = ap (λ (l : List FilesEntry). entry call answer ∷ l) rest
      by (OnKeeper call) answer rest = rest
      by (Note fact) answer rest = rest

  pub keeper_renamed : (es : List TraceEntry) → keeper_part (renamed_trace rename es) ≡ keeper_part es
  keeper_renamed [] = refl
  keeper_renamed (e ∷ es) = by e.call e.answer (keeper_renamed es)
    where
      by : (call : Call) (answer : Answer call) → keeper_part (renamed_trace rename es) ≡ keeper_part es → keeper_part (renamed_trace rename (entry call answer ∷ es)) ≡ keeper_part (entry call answer ∷ es)
      by (OnLoop call) answer rest = rest
      by (OnDisk call) answer rest = rest
      by (OnFiles call) answer rest = rest
      by (OnKeeper call) answer rest = ap (λ (l : List KeeperEntry). entry call answer ∷ l) rest
      by (Note fact) answer rest = rest

  -- links dialed in a trace
  pub trace_dialed : (es : List TraceEntry) → LinksAreDialed rename IsDialed (loop_part es) → AllDialed rename IsDialed (Unit {0}) es
  trace_dialed [] all = tt
  trace_dialed (e ∷ es) all = by e.call e.answer all (trace_dialed es)
    where
      one : (call : LoopCall) (answer : LoopAnswer call) → LinkIsDialed rename IsDialed call answer → AnswerIsDialed rename IsDialed (Unit {0}) (OnLoop call) answer
      one (Dial output tag) (Some link) dialed = dialed
      one call answer dialed = tt

      by : (call : Call) (answer : Answer call) → LinksAreDialed rename IsDialed (loop_part (entry call answer ∷ es)) → (LinksAreDialed rename IsDialed (loop_part es) → AllDialed rename IsDialed (Unit {0}) es)
          → AllDialed rename IsDialed (Unit {0}) (entry call answer ∷ es)
      by (OnLoop call) answer given rest = (one call answer given.0, rest given.1)
      by (OnDisk call) answer given rest = (tt, rest given)
      by (OnFiles call) answer given rest = (tt, rest given)
      by (OnKeeper call) answer given rest = (tt, rest given)
      by (Note fact) answer given rest = (tt, rest given)

  pub dialed_both : (xs ys : List LoopEntry) → LinksAreDialed rename IsDialed xs → LinksAreDialed rename IsDialed ys → LinksAreDialed rename IsDialed (xs ++ ys)
  dialed_both [] ys first second = second
  dialed_both (e ∷ xs) ys first second = (first.0, dialed_both xs ys first.1 second)

  -- ---- the engine has the links that the devices gave

  module _ (keys : Keys) (output : ℕ) (tag : List ℕ) where
    abbrev Gives : List LoopEntry → Option ℕ × Handshakes → Type 0
    Gives own r = LinksAreDialed rename IsDialed own → LinkIsDialed rename IsDialed (Dial output tag) r.0

    gives_dialed : (k : Handshakes) (ring : Option Ring) (answer : Option ℕ) → Always (λ own r. Gives (entry (Dial output tag) answer ∷ own) r) (dialed ring k output answer)
    gives_dialed k (Some ring) (Some link) = λ a b all. all.0
    gives_dialed k (Some ring) None = λ all. tt
    gives_dialed k None answer = λ all. all.0

    gives_by : (k : Handshakes) (b : Bool) → Always Gives (answers_by b keys k (Dial output tag))
    gives_by k true = λ answer. gives_dialed k (ring_at keys.outputs output) answer
    gives_by k false = λ answer all. all.0

  dial_given : (keys : Keys) (k u : Handshakes) (call : LoopCall) (answer : LoopAnswer call) (own : List LoopEntry) → Execution (answers keys k call) own (Return (answer, u)) → LinksAreDialed rename IsDialed own → LinkIsDialed rename IsDialed call answer
  dial_given keys k u (Dial output tag) answer own way all = always (Gives keys output tag) (answers keys k (Dial output tag)) own (answer, u) (gives_by keys output tag k (has_keys keys)) way all
  dial_given keys k u call answer own way all = tt

  pub above_dialed : (keys : Keys) (k t : Handshakes) (above below : List TraceEntry) → IsSecured keys k above below t → LinksAreDialed rename IsDialed (loop_part below) → LinksAreDialed rename IsDialed (loop_part above)
  above_dialed keys k t [] below so all = tt
  above_dialed keys k t (e ∷ es) below so all =
      let both : LinksAreDialed rename IsDialed (loop_part so.0 ++ loop_part so.1) = subst (LinksAreDialed rename IsDialed) (ap loop_part so.3 ∙ loop_append so.0 so.1) all in
      by e.call e.answer so.0 so.4 (dialed_left rename IsDialed (loop_part so.0) (loop_part so.1) both) (above_dialed keys so.2 t es so.1 so.5 (dialed_right rename IsDialed (loop_part so.0) (loop_part so.1) both))
    where
      by : (call : Call) (answer : Answer call) (own : List TraceEntry) → CallIsSecured keys k call answer own so.2 → LinksAreDialed rename IsDialed (loop_part own) → LinksAreDialed rename IsDialed (loop_part es)
          → LinksAreDialed rename IsDialed (loop_part (entry call answer ∷ es))
      by (OnLoop call) answer own one given rest = (dial_given keys k so.2 call answer one.0 one.2 (subst (LinksAreDialed rename IsDialed) (ap loop_part one.1 ∙ part_on_loop one.0) given), rest)
      by (OnDisk call) answer own one given rest = rest
      by (OnFiles call) answer own one given rest = rest
      by (OnKeeper call) answer own one given rest = rest
      by (Note fact) answer own one given rest = rest

-- ---- calls that the keyed loop passes on

module _ (keys : Keys) (k : Handshakes) where
  abbrev Passes : Happening → Type 0
  Passes x = ◌≡◌ {A = Brings} (Return (x, k)) (brings keys k x)

  pub recovery_secured : (path : Option (List ℕ)) → IsSecured keys k (empty_recovery path) (empty_recovery path) k
  recovery_secured None = (refl, refl)
  recovery_secured (Some root) = (empty_recovery (Some root), [], k, refl, (refl, refl), (refl, refl))

  none_given : (paused : ℕ) (kept : List KeptBytes) → holds paused kept ≡ false → first_given paused kept ≡ None
  none_given paused [] none = refl
  none_given paused (b ∷ kept) none = by (is_given paused b) none (none_given paused kept)
    where
      by : (given : Bool) → (given || holds paused kept) ≡ false → (holds paused kept ≡ false → first_given paused kept ≡ None) → (if given then Some b else first_given paused kept) ≡ None
      by true is rest = absurd (cc is)
      by false is rest = rest is

  -- without kept bytes for it, a wait that brings what is passed on
  wait_passed : (x : Happening) (until paused : ℕ) → Passes x → holds paused k.kept ≡ false → Execution (answers keys k (Wait until paused)) (entry (Wait until paused) x ∷ []) (Return (x, k))
  wait_passed x until paused passes none = by (has_keys keys)
    where
      by : (b : Bool) → Execution (answers_by b keys k (Wait until paused)) (entry (Wait until paused) x ∷ []) (Return (x, k))
      by true = subst (λ (o : Option KeptBytes). Execution (waits_by keys k until paused o) (entry (Wait until paused) x ∷ []) (Return (x, k))) (sym (none_given paused k.kept none)) (x, refl, passes)
      by false = (x, refl, refl)

  pub end_passed : (until paused : ℕ) → holds paused k.kept ≡ false → Execution (answers keys k (Wait until paused)) (entry (Wait until paused) happening.End ∷ []) (Return (happening.End, k))
  end_passed until paused none = wait_passed happening.End until paused refl none

  pub stop_passed : (until paused : ℕ) → holds paused k.kept ≡ false → Execution (answers keys k (Wait until paused)) (entry (Wait until paused) happening.Stop ∷ []) (Return (happening.Stop, k))
  stop_passed until paused none = wait_passed happening.Stop until paused refl none

-- ---- without calls on files

pub files_unasked : (course : Course) (es : List TraceEntry) → files_part es ≡ [] → FilesAnswered course es
files_unasked course [] none = tt
files_unasked course (e ∷ es) none = by e.call e.answer none (λ next left. files_unasked next es left)
  where
    by : (call : Call) (answer : Answer call) → files_entry call answer ++ files_part es ≡ [] → ((next : Course) → files_part es ≡ [] → FilesAnswered next es) → IsCourseAnswer course call answer × FilesAnswered (after_call call course) es
    by (OnLoop call) answer is rest = (tt, rest (after_call (OnLoop call) course) is)
    by (OnDisk call) answer is rest = (tt, rest course is)
    by (OnFiles call) answer is rest = absurd (cc is)
    by (OnKeeper call) answer is rest = (tt, rest course is)
    by (Note fact) answer is rest = (tt, rest course is)
