-- The trace of the replay, made from that of the live run: links by their numbers, and a last wait for the end.
use Rattle.std.proofs.Common.{◌≡◌, ◌⊎◌, inl, inr, ℕ, ◌+◌, ◌-◌, ◌^◌, ◌≤◌, Bool, false, List, [], ◌∷◌, ◌++◌, map, length, Option, Some, None, refl, sym, ap, ◌∙◌, subst, append-nil, append_assoc}
use Rattle.std.proofs.lemmas.List.{map-append}
use Rattle.std.specs.List.{flat_map, range_with_len}
use Rattle.fwd_base.specs.Limits.{longest_wait}
use Rattle.fwd_outside.specs.Program.{entry, Return, Execution}
use Rattle.fwd_outside.specs.Loop.{LoopEntry, Wait}
use Rattle.fwd_outside.specs.NewLinks.{AreNewLinks}
use Rattle.fwd_outside.specs.LoopAnswers.{WaitsBringBytes, AreLoopAnswers}
use Rattle.fwd_outside.proofs.LoopAnswers.{bytes_append}
use Rattle.fwd_outside.specs.declared.happening.Happening.TheVariants as happening
use Rattle.fwd_outside.proofs.Executions.{way_trans}
use Rattle.fwd_outside.specs.Disk.{DiskEntry}
use Rattle.fwd_keeper.specs.Keeper.{KeeperEntry}
use Rattle.fwd_keeper_mem.specs.KeeperAnswers as keeper
use Rattle.fwd_settings.specs.Endpoints.{ends_of}
use Rattle.fwd_settings.specs.declared.settings_types.AllSettings.{AllSettings}
use Rattle.fwd_script.specs.declared.schedule.Life.{Life}
use Rattle.fwd_script_loop.specs.Lines.{given_of}
use Rattle.fwd_script_loop.specs.LinkBytes.{handed}
use Rattle.fwd_script_loop.specs.Place.{IsPlayed}
use Rattle.fwd_model.specs.Fact.{History, Happened}
use Rattle.fwd_model.specs.Trace.{TraceEntry, OnLoop, Note, loop_part, disk_part, files_part, keeper_part}
use Rattle.fwd_model.specs.Settings.{saturating_plus, paths_at, db_at}
use Rattle.fwd_model.specs.Clock.{clock}
use Rattle.fwd_model.specs.Limits.{paused}
use Rattle.fwd_model.specs.KeptOffsets.{tracked, tracked_by}
use Rattle.fwd_model.specs.Run.{RunResult, Over, TurnsSpent, End, lived, run, life}
use Rattle.fwd_model.proofs.CallLogs.{loop_append, disk_append, files_append, keeper_append}
use Rattle.fwd_secure.specs.Handshakes.{Handshakes, no_handshakes}
use Rattle.fwd_secure.specs.Kept.{holds}
use Rattle.fwd_secure_settings.specs.Keys.{keys_of}
use Rattle.fwd_secure_trace.specs.Secured.{IsSecured}
use Rattle.fwd_secure_trace.proofs.Secured.{secured_append, same_part}
use Rattle.fwd_record.specs.Seen.{Seen, Answered, calls_of}
use Rattle.fwd_record.specs.Links.{no_links, links_in, number_of}
use Rattle.fwd_record.specs.Failures.{failed_from}
use Rattle.fwd_record.specs.Recorded.{recorded}
use Rattle.fwd_record.specs.Allowed.{AreAllowed}
use Rattle.fwd_record.specs.Played.{AreReplayable, replayed_at, replayed}
use Rattle.fwd_record.proofs.AllowedCalls.{new_links_rise}
use Rattle.fwd_record.proofs.RecordedLines.{recorded_plays}
use Rattle.fwd_replay.specs.RecordedRun.{runs_on, first_number, HasReport}
use Rattle.fwd_replay.specs.Runs.{first, course_of, IsAnswered, IsLife}
use Rattle.fwd_theorem_links.specs.DialedLinks.{IsAmong, KeepsApart}
use Rattle.fwd_theorem_links.specs.RenamedLinks.{renamed_result, renamed_trace}
use Rattle.fwd_theorem_links.proofs.Life.{renamed_run}
use Rattle.fwd_theorem_links.proofs.NoFollowedFiles.{nothing_asked}
use Rattle.fwd_theorem_runs.specs.SplitRun.{empty_recovery}
use Rattle.fwd_theorem_runs.proofs.EmptyRecovery.{on_empty}
use Rattle.fwd_theorem_runs.proofs.MoreTurns.{spent_goes_on, ended_is_same, ends_at_end}
use Rattle.fwd_theorem_recorded.specs.HandedBytes.{handed_from}
use Rattle.fwd_theorem_recorded.specs.Replays.{life_of, IsLastWait}
use Rattle.fwd_theorem_recorded.proofs.ReplayNeeds.{CanReplay}
use Rattle.fwd_theorem_recorded.specs.RenamedHandshakes.{IsSecuredRenamed}
use Rattle.fwd_theorem_recorded.proofs.HandedBytes.{handed_wait, handed_same}
use Rattle.fwd_theorem_recorded.proofs.LoopSimulation.{LinksAreDialed, renamed_calls}
use Rattle.fwd_theorem_recorded.proofs.KeyedTraces.{keyed_from, links_dialed}
use Rattle.fwd_theorem_recorded.proofs.NumberedLinks.{same_links, numbers_keep_apart, numbers_are_new, bytes_renamed}
use Rattle.fwd_theorem_recorded.proofs.RecordedCalls.{calls_answered, for_end, calls_end, all_end, recorded_end, allowed_end, new_end, replayable_end, replayed_answered, calls_renamed_append}
use Rattle.fwd_theorem_recorded.proofs.ReplayableCalls.{recovery_loop, run_replayable}
use Rattle.fwd_theorem_recorded.proofs.TraceParts.{loop_renamed, disk_renamed, trace_dialed, dialed_both, above_dialed, recovery_secured, end_passed, files_unasked}

-- ---- without followed files there are no kept offsets

module _ (s : AllSettings) (none : (input : ℕ) → paths_at s input ≡ []) where
  none_by : (input : ℕ) (db : Option (List ℕ)) (paths : List (List ℕ)) → paths ≡ [] → tracked_by input db paths ≡ []
  none_by input None paths is = refl
  none_by input (Some db) paths is = rw is refl

  none_among : (inputs : List ℕ) → flat_map (λ (input : ℕ). tracked_by input (db_at s input) (paths_at s input)) inputs ≡ []
  none_among [] = refl
  none_among (input ∷ inputs) = rw (none_by input (db_at s input) (paths_at s input) (none input)) (none_among inputs)

  pub none_tracked : tracked s ≡ []
  unfolding tracked
  none_tracked = none_among (range_with_len 0 (length s.inputs))

-- ---- the live run, to its end

-- the calls that end it, and the whole trace of the engine
pub record Closing (s : AllSettings) (turns : ℕ) (trace : List TraceEntry) (k : Handshakes) (result : RunResult) : Type 0 where
  pub closing : List TraceEntry
  pub comes : RunResult
  pub way : Execution (life s (ends_of s) None (turns + 1)) (empty_recovery s.service.path ++ (trace ++ closing)) (Return comes)
  pub over : comes.end ≡ Over
  pub history : (comes.history ≡ result.history) ⊎ (comes.history ≡ Happened happening.End ∷ result.history)
  pub secured : IsSecured (keys_of s) k closing closing k
  pub last : IsLastWait result (loop_part closing)
  pub disk : disk_part closing ≡ []

module _ (s : AllSettings) (untracked : tracked s ≡ []) (turns : ℕ) (trace : List TraceEntry) (k : Handshakes) (h : History) where
  abbrev recovery : List TraceEntry
  recovery = empty_recovery s.service.path

  abbrev until : ℕ
  until = saturating_plus (clock h) longest_wait

  abbrev for_the_end : List TraceEntry
  for_the_end = entry (OnLoop (Wait until (paused s h))) happening.End ∷ entry (Note (Happened happening.End)) tt ∷ []

  closes : (end : End) → (end ≡ Over) ⊎ (end ≡ TurnsSpent) → Execution (runs_on s None turns) trace (Return (lived h end)) → (end ≡ TurnsSpent → holds (paused s h) k.kept ≡ false) → Closing s turns trace k (lived h end)
  closes end (inl is) way unheld = record {
    closing = [];
    comes = lived h end;
    way =
        ended_is_same s None 1 (ends_of s) turns (recovery ++ (trace ++ [])) (lived h end) (λ spent. over_spent (sym is ∙ spent))
        (subst (λ (l : List TraceEntry). Execution (life s (ends_of s) None turns) (recovery ++ l) (Return (lived h end))) (sym (append-nil trace)) (on_empty s (ends_of s) None turns trace (Some []) (lived h end) refl way));
    over = is;
    history = inl refl;
    secured = (refl, refl);
    last = inl (is, refl);
    disk = refl;
  }
    where
      over_spent : ◌≡◌ {A = End} Over TurnsSpent → ⊥
      over_spent e = cc e
  closes end (inr is) way unheld =
      let whole : Execution (life s (ends_of s) None turns) (recovery ++ trace) (Return (lived h TurnsSpent)) =
      on_empty s (ends_of s) None turns trace (Some []) (lived h TurnsSpent) refl (subst (λ (e : End). Execution (runs_on s None turns) trace (Return (lived h e))) is way) in
      let more : Execution (life s (ends_of s) None (turns + 1)) (recovery ++ trace) (run s None 1 h) = spent_goes_on s None 1 (ends_of s) turns (recovery ++ trace) h whole in
      let ended : RunResult = lived (Happened happening.End ∷ h) Over in
      record {
        closing = for_the_end;
        comes = ended;
        way =
            subst (λ (l : List TraceEntry). Execution (life s (ends_of s) None (turns + 1)) l (Return ended)) (append_assoc recovery trace for_the_end)
            (way_trans (life s (ends_of s) None (turns + 1)) (run s None 1 h) (Return ended) (recovery ++ trace) for_the_end more (ends_at_end s None 0 h untracked));
        over = refl;
        history = inr refl;
        secured = (
          entry (OnLoop (Wait until (paused s h))) happening.End ∷ [],
          entry (Note (Happened happening.End)) tt ∷ [],
          k,
          refl,
          (entry (Wait until (paused s h)) happening.End ∷ [], refl, end_passed (keys_of s) k until (paused s h) (unheld is)),
          (entry (Note (Happened happening.End)) tt ∷ [], [], k, refl, (refl, refl), (refl, refl)),
        );
        last = inr (is, until, paused s h, refl);
        disk = refl;
      }

-- ---- the replay

-- links by their numbers
module _ (numbers : ℕ → ℕ) (result : RunResult) where
  last_dialed : (IsDialed : ℕ → Type 0) (last : List LoopEntry) → IsLastWait result last → LinksAreDialed numbers IsDialed last
  last_dialed IsDialed last (inl (over, is)) = subst (LinksAreDialed numbers IsDialed) (sym is) tt
  last_dialed IsDialed last (inr (spent, u, p, is)) = subst (LinksAreDialed numbers IsDialed) (sym is) (tt, tt)

  pub last_named : (last : List LoopEntry) → IsLastWait result last → renamed_calls numbers last ≡ last
  last_named last (inl (over, is)) = ap (renamed_calls numbers) is ∙ sym is
  last_named last (inr (spent, u, p, is)) = ap (renamed_calls numbers) is ∙ sym is

  last_new : (es last : List LoopEntry) → IsLastWait result last → AreNewLinks 0 es → AreNewLinks 0 (es ++ last)
  last_new es last (inl (over, is)) new = subst (λ (l : List LoopEntry). AreNewLinks 0 (es ++ l)) (sym is) (subst (AreNewLinks 0) (sym (append-nil es)) new)
  last_new es last (inr (spent, u, p, is)) new = subst (λ (l : List LoopEntry). AreNewLinks 0 (es ++ l)) (sym is) (new_end u p 0 es new)

  last_bytes : (es last : List LoopEntry) → IsLastWait result last → WaitsBringBytes es → WaitsBringBytes (es ++ last)
  last_bytes es last (inl (over, is)) are = subst (λ (l : List LoopEntry). WaitsBringBytes (es ++ l)) (sym is) (bytes_append es [] are tt)
  last_bytes es last (inr (spent, u, p, is)) are = subst (λ (l : List LoopEntry). WaitsBringBytes (es ++ l)) (sym is) (bytes_append es (entry (Wait u p) happening.End ∷ []) are (tt, tt))

module _ (s : AllSettings) (none : (input : ℕ) → paths_at s input ≡ []) (turns : ℕ) (trace below : List TraceEntry) (k : Handshakes) (result : RunResult) (endless : Bool) (seen : List Seen)
    (way : Execution (runs_on s None turns) trace (Return result)) (ended : HasReport result) (so : IsSecured (keys_of s) no_handshakes trace below k) (loop_answers : AreLoopAnswers (loop_part trace))
    (saw : seen ≡ map Answered (loop_part below)) (allowed : AreAllowed endless (calls_of seen)) (new : AreNewLinks 0 (calls_of seen)) (can : CanReplay s below k result seen) where
  abbrev pub all : List ℕ
  all = links_in (calls_of seen)

  abbrev pub numbers : ℕ → ℕ
  numbers = number_of all

  abbrev Among : ℕ → Type 0
  Among = IsAmong all

  apart : KeepsApart numbers Among
  apart = numbers_keep_apart all (new_links_rise 0 (calls_of seen) new)

  pub close : Closing s turns trace k result
  close = closes s (none_tracked s none) turns trace k result.history result.end ended way can.unheld

  abbrev pub above_whole : List TraceEntry
  above_whole = empty_recovery s.service.path ++ (trace ++ close.closing)

  abbrev below_whole : List TraceEntry
  below_whole = empty_recovery s.service.path ++ (below ++ close.closing)

  abbrev pub made_above : List TraceEntry
  made_above = renamed_trace numbers above_whole

  abbrev pub made_below : List TraceEntry
  made_below = renamed_trace numbers below_whole

  calls_are : calls_of seen ≡ loop_part below
  calls_are = ap calls_of saw ∙ calls_answered (loop_part below)

  loop_above : loop_part above_whole ≡ loop_part trace ++ loop_part close.closing
  loop_above = recovery_loop s.service.path (trace ++ close.closing) ∙ loop_append trace close.closing

  loop_below : loop_part below_whole ≡ loop_part below ++ loop_part close.closing
  loop_below = recovery_loop s.service.path (below ++ close.closing) ∙ loop_append below close.closing

  -- ---- links

  dialed_below : LinksAreDialed numbers Among (loop_part below_whole)
  dialed_below =
      let own : LinksAreDialed numbers Among (loop_part below) =
      subst (λ (links : List ℕ). LinksAreDialed numbers (IsAmong links) (loop_part below)) (sym (same_links (loop_part below)) ∙ ap links_in (sym calls_are)) (links_dialed numbers (loop_part below)) in
      subst (LinksAreDialed numbers Among) (sym loop_below) (dialed_both numbers Among (loop_part below) (loop_part close.closing) own (last_dialed numbers result Among (loop_part close.closing) close.last))

  pub whole_secured : IsSecured (keys_of s) no_handshakes above_whole below_whole k
  whole_secured =
      secured_append (keys_of s) no_handshakes no_handshakes k (empty_recovery s.service.path) (trace ++ close.closing) (empty_recovery s.service.path) (below ++ close.closing) (recovery_secured (keys_of s) no_handshakes s.service.path)
      (secured_append (keys_of s) no_handshakes k k trace close.closing below close.closing so close.secured)

  dialed_above : LinksAreDialed numbers Among (loop_part above_whole)
  dialed_above = above_dialed numbers Among (keys_of s) no_handshakes k above_whole below_whole whole_secured dialed_below

  pub made_secured : IsSecuredRenamed numbers (keys_of s) above_whole below_whole k
  made_secured = keyed_from numbers Among apart (keys_of s) above_whole below_whole k whole_secured dialed_below

  pub made_way : Execution (life s (ends_of s) None (turns + 1)) made_above (Return (renamed_result numbers close.comes))
  made_way = renamed_run numbers Among (Unit {0}) apart s (λ input. inr tt) (inr tt) (ends_of s) None (turns + 1) above_whole close.comes close.way (trace_dialed numbers Among above_whole dialed_above)

  pub made_links : AreNewLinks 0 (loop_part made_above)
  made_links =
      subst (AreNewLinks 0) (sym (loop_renamed numbers Among above_whole))
      (numbers_are_new all (new_links_rise 0 (calls_of seen) new) (loop_part above_whole) dialed_above
      (subst (AreNewLinks 0) (sym loop_above) (last_new numbers result (loop_part trace) (loop_part close.closing) close.last loop_answers.links)))

  pub made_bytes : WaitsBringBytes (loop_part made_above)
  made_bytes =
      subst WaitsBringBytes (sym (loop_renamed numbers Among above_whole)) (bytes_renamed numbers (loop_part above_whole)
      (subst WaitsBringBytes (sym loop_above) (last_bytes numbers result (loop_part trace) (loop_part close.closing) close.last loop_answers.bytes)))

  -- ---- devices

  unasked : (files_part made_above ≡ []) × (keeper_part made_above ≡ [])
  unasked = nothing_asked s none (ends_of s) None (turns + 1) made_above (Return (renamed_result numbers close.comes)) made_way

  pub no_files : files_part made_below ≡ []
  no_files = same_part files_part refl files_append (λ e. refl) (keys_of s) no_handshakes made_secured.handshakes made_above made_below made_secured.secured ∙ unasked.0

  pub no_keeper : keeper_part made_below ≡ []
  no_keeper = same_part keeper_part refl keeper_append (λ e. refl) (keys_of s) no_handshakes made_secured.handshakes made_above made_below made_secured.secured ∙ unasked.1

  pub made_disk : disk_part made_below ≡ disk_part (empty_recovery s.service.path ++ below)
  made_disk =
      disk_renamed numbers Among below_whole
      ∙ disk_append (empty_recovery s.service.path) (below ++ close.closing)
      ∙ ap (λ (l : List DiskEntry). disk_part (empty_recovery s.service.path) ++ l) (disk_append below close.closing ∙ ap (λ (l : List DiskEntry). disk_part below ++ l) close.disk ∙ append-nil (disk_part below))
      ∙ sym (disk_append (empty_recovery s.service.path) below)

  abbrev failed : List ℕ
  failed = failed_from (first_number s.service.path) (disk_part below)

  saw_named : replayed numbers 0 0 seen ≡ renamed_calls numbers (loop_part below)
  saw_named = ap (replayed numbers 0 0) saw ∙ replayed_answered numbers 0 0 (loop_part below)

  -- a schedule can express what the loop answered
  answers : AreReplayable no_links seen
  answers = subst (AreReplayable no_links) (sym saw) (run_replayable s (none_tracked s none) turns trace below k result way ended so loop_answers.links)

  plays_to : (last : List LoopEntry) → IsLastWait result last → IsPlayed (given_of (life_of s seen below)) (renamed_calls numbers (loop_part below ++ last))
  plays_to last (inl (over, is)) =
      subst (λ (l : List LoopEntry). IsPlayed (given_of (life_of s seen below)) (renamed_calls numbers (loop_part below ++ l))) (sym is)
      (subst (IsPlayed (given_of (life_of s seen below))) (saw_named ∙ ap (renamed_calls numbers) (sym (append-nil (loop_part below)))) (recorded_plays endless seen failed 0 0 allowed new can.few answers))
  plays_to last (inr (spent, u, p, is)) =
      let more : List Seen = seen ++ Answered (for_end u p) ∷ [] in
      let plays : IsPlayed (given_of (recorded more failed)) (replayed (number_of (links_in (calls_of more))) 0 0 more) =
      recorded_plays false more failed 0 0
      (subst (AreAllowed false) (sym (calls_end u p seen)) (allowed_end u p endless (calls_of seen) allowed))
      (subst (AreNewLinks 0) (sym (calls_end u p seen)) (new_end u p 0 (calls_of seen) new))
      (subst (λ (l : List ℕ). length l ≤ 2 ^ 64 - 1) (sym (all_end u p seen)) can.few)
      (replayable_end u p no_links seen answers) in
      let of_seen : IsPlayed (given_of (life_of s seen below)) (replayed numbers 0 0 more) =
      subst (λ (planned : Life). IsPlayed (given_of planned) (replayed numbers 0 0 more)) (recorded_end u p seen failed)
      (subst (λ (links : List ℕ). IsPlayed (given_of (recorded more failed)) (replayed (number_of links) 0 0 more)) (all_end u p seen) plays) in
      let named : replayed numbers 0 0 more ≡ renamed_calls numbers (loop_part below ++ for_end u p ∷ []) =
      ap (λ (l : List Seen). replayed numbers 0 0 (l ++ Answered (for_end u p) ∷ [])) saw
      ∙ map-append (replayed_at numbers 0 0) (map Answered (loop_part below)) (Answered (for_end u p) ∷ [])
      ∙ ap (λ (l : List LoopEntry). l ++ for_end u p ∷ []) (replayed_answered numbers 0 0 (loop_part below))
      ∙ sym (calls_renamed_append numbers (loop_part below) (for_end u p ∷ [])) in
      subst (λ (l : List LoopEntry). IsPlayed (given_of (life_of s seen below)) (renamed_calls numbers (loop_part below ++ l))) (sym is)
      (subst (IsPlayed (given_of (life_of s seen below))) named of_seen)

  pub made_loop : loop_part made_below ≡ replayed numbers 0 0 seen ++ loop_part close.closing
  made_loop =
      loop_renamed numbers Among below_whole
      ∙ ap (renamed_calls numbers) loop_below
      ∙ calls_renamed_append numbers (loop_part below) (loop_part close.closing)
      ∙ ap (λ (l : List LoopEntry). renamed_calls numbers (loop_part below) ++ l) (last_named numbers result (loop_part close.closing) close.last)
      ∙ ap (λ (l : List LoopEntry). l ++ loop_part close.closing) (sym saw_named)

  handed_to : (outputs : ℕ) (es last : List LoopEntry) → IsLastWait result last → handed outputs [] (es ++ last) ≡ handed outputs [] es
  handed_to outputs es last (inl (over, is)) = ap (λ (l : List LoopEntry). handed outputs [] (es ++ l)) is ∙ ap (handed outputs []) (append-nil es)
  handed_to outputs es last (inr (spent, u, p, is)) = ap (λ (l : List LoopEntry). handed outputs [] (es ++ l)) is ∙ handed_wait outputs u p happening.End [] es

  pub made_handed : (outputs : ℕ) → handed outputs [] (loop_part made_below) ≡ handed_from outputs [] [] (calls_of seen)
  made_handed outputs =
      ap (handed outputs []) made_loop
      ∙ handed_to outputs (replayed numbers 0 0 seen) (loop_part close.closing) close.last
      ∙ ap (handed outputs []) saw_named
      ∙ handed_same all outputs [] [] (loop_part below) (ap links_in calls_are) refl
      ∙ ap (handed_from outputs [] []) (sym calls_are)

  pub made_plays : IsPlayed (given_of (life_of s seen below)) (loop_part made_below)
  made_plays =
      subst (IsPlayed (given_of (life_of s seen below))) (sym (loop_renamed numbers Among below_whole ∙ ap (renamed_calls numbers) loop_below)) (plays_to (loop_part close.closing) close.last)

  pub made_answered : IsAnswered first (life_of s seen below) made_below can.disk.asked
  made_answered = record {
    loop = made_plays;
    are = can.disk.are ∙ sym made_disk;
    disk = can.disk.played;
    files = files_unasked (course_of first (life_of s seen below)) made_below no_files;
    keeper = subst (λ (l : List KeeperEntry). keeper.IsPlayed [] [] l) (sym no_keeper) tt;
  }

  abbrev pub made : IsLife s (turns + 1) first (life_of s seen below) made_above (renamed_result numbers close.comes)
  made = record {
    way = made_way;
    answers = record { links = made_links; bytes = made_bytes };
    below = made_below;
    handshakes = made_secured.handshakes;
    secured = made_secured.secured;
    asked = can.disk.asked;
    answered = made_answered;
    uncut = refl;
  }
