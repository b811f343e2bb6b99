-- Beginning a flush keeps the invariants of all flushes.
use Rattle.std.proofs.Common.{◌+◌, ◌≡◌, if◌then◌else◌, ◌-◌, ◌<◌, ◌≤◌, ◌&&◌, length, arith, ◌≢◌, ℕ, Option, List, [], ◌∷◌, ◌++◌, append_assoc, Some, None, inl, inr, ◌⊎◌, refl, sym, ◌∙◌, ap, subst}
use Rattle.std.specs.Prelude.{◌==◌}
use Rattle.std.proofs.lemmas.List.{append-nil}
use Rattle.std.proofs.lemmas.Bool.{and_parts, eq-eqb, ne_eqb}
use Rattle.fwd_outside.specs.Program.{entry, Return, Execution}
use Rattle.fwd_outside.specs.Loop.{LoopEntry, Dial}
use Rattle.fwd_table.specs.declared.outcome.Answer.TheVariants.{Good, Retry, Bad}
use Rattle.fwd_flush.specs.declared.stage.Stage.{Stage}
use Rattle.fwd_flush.specs.declared.stage.Stage.TheVariants.{Ended}
use Rattle.fwd_flush.specs.FlushProgram.{Progress, Delivery, not_started, link_in, starts}
use Rattle.fwd_flush.specs.Outcome.{bytes_pushed, Event, Dialed, events_of, ProgressRepresents}
use Rattle.fwd_flush.proofs.Outcomes.{starts_law}
use Rattle.fwd_settings.specs.declared.settings_types.AllSettings.{AllSettings}
use Rattle.fwd_event.specs.declared.event.Event.{Event as LogEvent}
use Rattle.fwd_event.specs.EventPrefix.{events_in}
use Rattle.fwd_outside.specs.Disk.{DiskProgram}
use Rattle.fwd_chunk.specs.declared.kept.Kept.{Kept as Held}
use Rattle.fwd_chunk.specs.declared.kept.Kept.TheVariants.{InFile, Adopted, InMemory}
use Rattle.fwd_chunk.specs.Kept.{size_of}
use Rattle.fwd_chunk.specs.Content.{read_content_program}
use Rattle.fwd_model.specs.Fact.{History, Route, Sent, OnRoute, Outcome, FlushStarted, InFlight, Retries, Delivered, Failed, Exhausted, Evicted, IoFailed}
use Rattle.fwd_model.specs.Trace.{Action}
use Rattle.fwd_model.specs.DeviceActions.{on_loop, on_disk}
use Rattle.fwd_model.specs.Chunks.{records}
use Rattle.fwd_model.specs.ChunkStorage.{kept_of}
use Rattle.fwd_model.specs.Routes.{begun as begun_by, progress_of, route_on_link, is_idle}
use Rattle.fwd_model.specs.Payloads.{delivery, tag_of_chunk}
use Rattle.fwd_model.specs.Dispatch.{due_routes, may_start, has_place, fits}
use Rattle.fwd_model.specs.FlushActions.{notes_calls, starts_with, is_complete_read, after_read, begins_as, starts_flush, starts_if_allowed, starts_each, walk}
use Rattle.fwd_outside.specs.Program.{Ask, bind}
use Rattle.fwd_outside.specs.NewLinks.{AreNewLinks, greatest_after}
use Rattle.fwd_outside.proofs.RisingLinks.{new_append, greatest_append}
use Rattle.fwd_theorem_delivery.specs.Links.{DialTarget, WasDialled, DialWasRefused, ReturnsLink, RefusesDial, all_on_link, since_dial, close_count}
use Rattle.fwd_theorem_delivery.specs.LinkOutcomes.{IsLogged, dial_target}
use Rattle.fwd_theorem_delivery.proofs.OwnEvents.{GivesNone, among_left, among_right, among_either}
use Rattle.fwd_theorem_delivery.proofs.LinkCalls.{closes_in, closings_here, closings_elsewhere, on_gives_none, on_here, on_elsewhere, on_greatest}
use Rattle.fwd_theorem_delivery.proofs.Dials.{IsRefused, IsLinked, begins_so}
use Rattle.fwd_theorem_delivery.proofs.OpenChunks.{IdleRoute, idle_route}
use Rattle.fwd_theorem_delivery.proofs.Outcomes.{Now, noted, behind_all, ends_bind, ends_loop}
use Rattle.fwd_theorem_delivery.proofs.FlushInvariant.{FlushState, Kept, CameBy, kept_fact}
use Rattle.fwd_theorem_delivery.proofs.LinkClosures.{Closed, closed_by, closed_fact, close_count-append, closed_at, closed_refused, closed_landed, grounded_off}
use Rattle.fwd_theorem_delivery.proofs.Counts.{counted_aside, counted_fact, counted_begun}
use Rattle.fwd_theorem_delivery.specs.TakenBytes.{links_of}
use Rattle.fwd_theorem_delivery.proofs.LinkSums.{new_none, links_append, links_none}
use Rattle.fwd_theorem_delivery.specs.OpenLinks.{AreOnOpenLinks}
use Rattle.fwd_theorem_delivery.proofs.OpenLinks.{opened_aside, opened_flush}
use Rattle.fwd_theorem_delivery.proofs.OutcomeFacts.{gives_neither, closes_neither, on_both, reached_at, MayLogOutcome, safe_lands}
use Rattle.fwd_theorem_delivery.proofs.RunInvariant.{RunInvariant, whole_as, whole_fact, exact_none}
use Rattle.fwd_theorem_delivery.proofs.FlushEnd.{progress_after, same_self, IsAnswered, Comes, off_elsewhere}
use Rattle.fwd_theorem_delivery.proofs.OutcomeCauses.{begun, new_one, refused}
use Rattle.fwd_theorem_delivery.proofs.QuietInvariant.{KeepsInvariant, Safe, safe_test, safe_then, whole_begun}

module _ (s : AllSettings) (n : Now) (whole : RunInvariant s n) (r : Route) (idle : IdleRoute n.history r) (begun_with : IsLogged (OnRoute r (FlushStarted (begun_by n.history r))) n.history) where
  abbrev its : Delivery
  its = delivery s n.history r

  abbrev tag : List ℕ
  tag = tag_of_chunk n.history r.chunk

  abbrev to_tag : DialTarget
  to_tag = dial_target n.history r

  module _ (q : Progress) (more : ℕ) where
    -- with its sent bytes counted
    abbrev tallied : Now
    tallied = noted (Sent r.output more) n

    kept_tallied : Kept s tallied
    kept_tallied = kept_fact s (Sent r.output more) n tt whole.kept

    closed_tallied : Closed tallied
    closed_tallied = closed_fact (Sent r.output more) n tt whole.closed

    idle_tallied : IdleRoute tallied.history r
    idle_tallied = record { grounded = idle.grounded; opened = idle.opened; shut = idle.shut }

    settle_refused : (es : List LoopEntry) → IsRefused r.output tag es q → more ≡ length (bytes_pushed (events_of es)) → MayLogOutcome s r q (noted (Sent r.output more) (behind_all es n))
    settle_refused es so so_many ys outcome aside comes =
        whole_as s (OnRoute r outcome ∷ tallied.history) n.greatest (greatest_after n.greatest es) (n.calls ++ (es ++ ys)) ((n.calls ++ es) ++ ys)
        (subst (λ (l : List LoopEntry). n.greatest ≡ greatest_after n.greatest l) (sym so.calls) refl) (sym (append_assoc n.calls es ys))
        (record {
          kept = refused s tallied kept_tallied r idle_tallied.grounded (es ++ ys) none nothing outcome (settled comes) (came outcome comes.answered);
          counted = counted_fact (OnRoute r outcome ∷ tallied.history) (record { greatest = n.greatest; calls = n.calls ++ (es ++ ys); history = n.history })
              (λ output. exact_none r output more n.history none_more) (counted_aside n whole.counted (es ++ ys) none (λ link. ap bytes_pushed (nothing link)));
          closed = closed_refused tallied closed_tallied (es ++ ys) r outcome none (λ link. closes_neither link es ys (ap (close_count link) so.calls) (aside.unclosed link)) (settled comes) idle.grounded;
          opened = opened_aside n.calls (es ++ ys) whole.opened nothing (λ link. closes_neither link es ys (ap (close_count link) so.calls) (aside.unclosed link));
        })
      where
        dial_gives_none : GivesNone (entry (Dial r.output tag) None ∷ [])
        dial_gives_none to link (inl is) = is
        dial_gives_none to link (inr is) = is

        none : GivesNone (es ++ ys)
        none = gives_neither es ys (subst (λ (l : List LoopEntry). GivesNone l) (sym so.calls) dial_gives_none) aside.none

        nothing : (link : ℕ) → all_on_link link (es ++ ys) ≡ []
        nothing link = on_both link es ys (aside.nothing link) ∙ ap (λ (l : List LoopEntry). all_on_link link l) so.calls

        settled : Comes q outcome → progress_of outcome ≡ None
        settled comes = comes.flying ∙ ap (λ (stage : Stage). progress_after q (link_in stage)) so.ended

        none_more : more ≡ 0
        none_more = so_many ∙ ap (λ (l : List LoopEntry). length (bytes_pushed (events_of l))) so.calls

        was : DialWasRefused to_tag (n.calls ++ (es ++ ys))
        was = among_right (RefusesDial to_tag) n.calls (es ++ ys) (among_left (RefusesDial to_tag) es ys (subst (λ (l : List LoopEntry). DialWasRefused to_tag l) (sym so.calls) (inl refl)))

        came : (o : Outcome) → IsAnswered q.stage o → CameBy s (n.calls ++ (es ++ ys)) (OnRoute r outcome ∷ tallied.history) r o
        came (FlushStarted events) is = tt
        came (InFlight p) is = tt
        came (Retries word) is = inl (idle.opened, was)
        came Delivered is = let good : Ended Retry ≡ Ended Good = sym so.ended ∙ is in absurd (cc good)
        came Failed is = let bad : Ended Retry ≡ Ended Bad = sym so.ended ∙ is in absurd (cc bad)
        came Exhausted is = inl (idle.opened, was)
        came Evicted is = tt

    settle_linked : (es : List LoopEntry) → IsLinked r.output tag es q → AreNewLinks n.greatest es → ProgressRepresents its (events_of es) q → more ≡ length (bytes_pushed (events_of es)) → MayLogOutcome s r q (noted (Sent r.output more) (behind_all es n))
    settle_linked es so are stood so_many ys outcome aside comes =
        whole_as s (OnRoute r outcome ∷ tallied.history) so.link (greatest_after n.greatest es) (n.calls ++ (es ++ ys)) ((n.calls ++ es) ++ ys) (sym greatest_is) (sym (append_assoc n.calls es ys))
        (record {
          kept = begun s tallied kept_tallied r idle_tallied.grounded (es ++ ys) (begun_by n.history r) (inr begun_with) refl idle.opened idle.shut so.link fresh gave given elsewhere q outcome comes so.stays (subst (λ (events : List Event). ProgressRepresents its events q) (sym owned) stood);
          counted = counted_begun n whole.counted (es ++ ys) r so.link apart_known outcome more new_now top_now links_now (ap (λ (events : List Event). length (bytes_pushed events)) owned ∙ sym so_many) elsewhere;
          closed = closed_landed tallied closed_tallied (es ++ ys) r outcome so.link so.link (omega (arith, fresh)) (omega arith) (λ to other is. (given to other is).0) shut_now unclosed_now
              (λ other apart. off_elsewhere q outcome so.link other comes so.stays apart) (λ other apart. grounded_off n.history r other idle.grounded);
          opened = opened_now;
        })
      where
        greatest_is : greatest_after n.greatest es ≡ so.link
        greatest_is = ap (λ (l : List LoopEntry). greatest_after n.greatest l) so.calls ∙ on_greatest so.link so.link so.behind so.on

        fresh : n.greatest < so.link
        fresh = let news = subst (λ (l : List LoopEntry). AreNewLinks n.greatest l) so.calls are in news.0

        apart_known : (to : DialTarget) (other : ℕ) → WasDialled to other n.calls → so.link ≢ other
        apart_known to other was same = let most : other ≤ n.greatest = whole.kept.known to other was in absurd (omega (arith, most, fresh, same))

        new_now : AreNewLinks n.greatest (es ++ ys)
        new_now = new_append n.greatest es ys are (new_none (greatest_after n.greatest es) ys aside.none).0

        top_now : greatest_after n.greatest (es ++ ys) ≡ so.link
        top_now = greatest_append n.greatest es ys ∙ ((new_none (greatest_after n.greatest es) ys aside.none).1 ∙ greatest_is)

        dialled : (output : ℕ) → links_of output (entry (Dial r.output tag) (Some so.link) ∷ so.behind) ≡ (if r.output == output then so.link ∷ [] else [])
        dialled output =
            ap (λ (l : List ℕ). (if r.output == output then so.link ∷ [] else []) ++ l) (links_none output so.behind (on_gives_none so.link so.behind so.on))
            ∙ append-nil (if r.output == output then so.link ∷ [] else [])

        links_now : (output : ℕ) → links_of output (es ++ ys) ≡ (if r.output == output then so.link ∷ [] else [])
        links_now output =
            links_append output es ys
            ∙ (ap (λ (l : List ℕ). links_of output es ++ l) (links_none output ys aside.none) ∙ (append-nil (links_of output es) ∙ (ap (links_of output) so.calls ∙ dialled output)))

        all_give : (to : DialTarget) (other : ℕ) → WasDialled to other (entry (Dial r.output tag) (Some so.link) ∷ so.behind) → (so.link ≡ other) × (to_tag ≡ to)
        all_give to other (inl is) = (is.1, is.0)
        all_give to other (inr is) = absurd (on_gives_none so.link so.behind so.on to other is)

        gave : WasDialled to_tag so.link (es ++ ys)
        gave = among_left (ReturnsLink to_tag so.link) es ys (subst (λ (l : List LoopEntry). WasDialled to_tag so.link l) (sym so.calls) (inl (refl, refl)))

        given : (to : DialTarget) (other : ℕ) → WasDialled to other (es ++ ys) → (so.link ≡ other) × (to_tag ≡ to)
        given to other is = elim (among_either (ReturnsLink to other) es ys is) [
          | inl was ↦ all_give to other (subst (λ (l : List LoopEntry). WasDialled to other l) so.calls was)
          | inr new ↦ absurd (aside.none to other new)
        ]

        elsewhere : (other : ℕ) → so.link ≢ other → all_on_link other (es ++ ys) ≡ []
        elsewhere other apart =
            on_both other es ys (aside.nothing other) ∙ (ap (λ (l : List LoopEntry). all_on_link other l) so.calls ∙ rw (ne_eqb so.link other apart) (on_elsewhere so.link other so.behind so.on apart))

        -- what happened on the new link is what its flush did
        all_owned : since_dial so.link ((entry (Dial r.output tag) (Some so.link) ∷ so.behind) ++ ys) ≡ events_of (entry (Dial r.output tag) (Some so.link) ∷ so.behind)
        all_owned =
            rw (eq-eqb so.link so.link refl)
            (ap (λ (l : List Event). Dialed (Some so.link) ∷ l) (on_both so.link so.behind ys (aside.nothing so.link) ∙ on_here so.link so.behind so.on))

        owned : since_dial so.link (es ++ ys) ≡ events_of es
        owned = subst (λ (l : List LoopEntry). since_dial so.link (l ++ ys) ≡ events_of l) (sym so.calls) all_owned

        -- it was closed as often as its flush closed it
        ours : FlushState s (n.calls ++ (es ++ ys)) (OnRoute r outcome ∷ tallied.history) so.link r (begun_by n.history r) q
        ours = new_one s tallied kept_tallied r idle_tallied.grounded (es ++ ys) (begun_by n.history r) (inr begun_with) refl idle.opened idle.shut so.link fresh gave given elsewhere q outcome comes so.stays (subst (λ (events : List Event). ProgressRepresents its events q) (sym owned) stood)

        shut_now : close_count so.link (n.calls ++ (es ++ ys)) ≡ closed_by (route_on_link (OnRoute r outcome ∷ tallied.history) so.link)
        shut_now =
            let before : close_count so.link n.calls ≡ 0 = whole.closed.later so.link fresh in
            let all : close_count so.link (n.calls ++ (es ++ ys)) ≡ close_count so.link n.calls + close_count so.link (es ++ ys) = close_count-append so.link n.calls (es ++ ys) in
            let now : close_count so.link (es ++ ys) ≡ close_count so.link es + close_count so.link ys = close_count-append so.link es ys in
            let aside_none : close_count so.link ys ≡ 0 = aside.unclosed so.link in
            let its_own : close_count so.link es ≡ 0 + close_count so.link so.behind = ap (close_count so.link) so.calls in
            let shut : close_count so.link so.behind ≡ closes_in (link_in q.stage) = closings_here so.link so.behind so.on ∙ so.shut in
            let at : closed_by (route_on_link (OnRoute r outcome ∷ tallied.history) so.link) ≡ closes_in (link_in q.stage) = closed_at (OnRoute r outcome ∷ tallied.history) so.link r (begun_by n.history r) q (link_in q.stage) ours.at in
            omega (arith, before, all, now, aside_none, its_own, shut, at)

        -- the new link is open for its own calls
        opened_now : AreOnOpenLinks [] (n.calls ++ (es ++ ys))
        opened_now =
            let before : close_count so.link n.calls ≡ 0 = whole.closed.later so.link fresh in
            let all : close_count so.link (n.calls ++ entry (Dial r.output tag) (Some so.link) ∷ []) ≡ close_count so.link n.calls + (0 + 0) = close_count-append so.link n.calls (entry (Dial r.output tag) (Some so.link) ∷ []) in
            let given_now : WasDialled to_tag so.link (n.calls ++ entry (Dial r.output tag) (Some so.link) ∷ []) = among_right (ReturnsLink to_tag so.link) n.calls (entry (Dial r.output tag) (Some so.link) ∷ []) (inl (refl, refl)) in
            subst (λ (l : List LoopEntry). AreOnOpenLinks [] (n.calls ++ (l ++ ys))) (sym so.calls)
            (opened_flush n.calls (entry (Dial r.output tag) (Some so.link)) so.behind ys so.link whole.opened tt (record { dialed = (to_tag, given_now); unclosed = omega (arith, before, all) }) so.on so.last aside.nothing aside.unclosed)

        unclosed_now : (other : ℕ) → so.link ≢ other → close_count other (es ++ ys) ≡ 0
        unclosed_now other apart =
            let all : close_count other es ≡ 0 + close_count other so.behind = ap (close_count other) so.calls in
            let behind : close_count other so.behind ≡ 0 = closings_elsewhere so.link other so.behind so.on apart in
            closes_neither other es ys (omega (arith, all, behind)) (aside.unclosed other)

  begun_lands : (es : List LoopEntry) (q : Progress) → Execution (starts its r.output tag not_started) es (Return q) → AreNewLinks n.greatest es → Safe s (behind_all es n) (notes_calls s r 0 q n.history)
  begun_lands es q way are =
      let stood = starts_law its r.output tag es q way in
      safe_lands s r q (behind_all es n) 0 (reached_at its (events_of es) q q.stage stood.at) (settle (begins_so its r.output tag q es way) stood)
    where
      so_many : ProgressRepresents its (events_of es) q → q.taken - 0 ≡ length (bytes_pushed (events_of es))
      so_many stood = omega (arith, stood.counted)

      settle : IsRefused r.output tag es q ⊎ IsLinked r.output tag es q → ProgressRepresents its (events_of es) q → MayLogOutcome s r q (noted (Sent r.output (q.taken - 0)) (behind_all es n))
      settle (inl so) stood = settle_refused q (q.taken - 0) es so (so_many stood)
      settle (inr so) stood = settle_linked q (q.taken - 0) es so are stood (so_many stood)

  abbrev Began : Progress → Now → Type 0
  Began q m = (es : List LoopEntry) × Execution (starts its r.output tag not_started) es (Return q) × AreNewLinks n.greatest es × (m ≡ behind_all es n)

  safe_starts : Safe s n (bind (on_loop (starts its r.output tag not_started)) (λ progress. notes_calls s r 0 progress n.history))
  safe_starts =
      ends_bind Began (KeepsInvariant s) n (on_loop (starts its r.output tag not_started)) (λ progress. notes_calls s r 0 progress n.history)
      (ends_loop Began n (starts its r.output tag not_started) (λ es q way are. (es, way, are, refl)))
      (λ q m went. subst (λ (x : Now). Safe s x (notes_calls s r 0 q n.history)) (sym went.3) (begun_lands went.0 q went.1 went.2))

module _ (s : AllSettings) where
  -- after its beginning
  begun_now : (h : History) (r : Route) (events : List LogEvent) → begun_by (OnRoute r (FlushStarted events) ∷ h) r ≡ events
  begun_now h r events = rw (same_self r) refl

  safe_begins_with : (r : Route) (events : List LogEvent) (n : Now) → RunInvariant s n → IdleRoute n.history r → Safe s n (starts_with s r events n.history)
  unfolding starts_with
  safe_begins_with r events n whole idle = λ _ _.
      let at : Now = noted (OnRoute r (FlushStarted events)) n in
      safe_starts s at (whole_begun s n r events idle.grounded whole) r (record { grounded = rw (same_self r) refl; opened = idle.opened; shut = idle.shut })
      (inl (ap (λ (l : List LogEvent). OnRoute r (FlushStarted l)) (sym (begun_now n.history r events))))

  safe_read : (r : Route) (kept : ℕ) (bytes : Option (List ℕ)) (n : Now) → RunInvariant s n → IdleRoute n.history r → Safe s n (after_read s r kept n.history bytes)
  safe_read r kept None n whole idle = λ _ _. (refl, whole_fact s IoFailed n tt whole)
  safe_read r kept (Some bytes) n whole idle =
      safe_test s (is_complete_read kept bytes) n (starts_with s r (events_in bytes).0 n.history) (Return n.history) (λ _. safe_begins_with r (events_in bytes).0 n whole idle) (λ _. (refl, whole))

  safe_disk : {R : Type 0} (p : DiskProgram R) (next : R → Action History) (n : Now) → ((x : R) → Safe s n (next x)) → Safe s n (bind (on_disk p) next)
  safe_disk (Return x) next n more = more x
  safe_disk (Ask call go) next n more = λ answer _. safe_disk (go answer) next n more

  safe_begins_as : (r : Route) (kept : Option Held) (n : Now) → RunInvariant s n → IdleRoute n.history r → Safe s n (begins_as s r kept n.history)
  safe_begins_as r None n whole idle = (refl, whole)
  safe_begins_as r (Some (InMemory content)) n whole idle = safe_begins_with r (records n.history r.chunk) n whole idle
  safe_begins_as r (Some (InFile head)) n whole idle =
      safe_disk (read_content_program (InFile head)) (after_read s r (size_of (InFile head)) n.history) n (λ bytes. safe_read r (size_of (InFile head)) bytes n whole idle)
  safe_begins_as r (Some (Adopted head)) n whole idle =
      safe_disk (read_content_program (Adopted head)) (after_read s r (size_of (Adopted head)) n.history) n (λ bytes. safe_read r (size_of (Adopted head)) bytes n whole idle)

  safe_begins : (r : Route) (n : Now) → RunInvariant s n → IdleRoute n.history r → Safe s n (starts_flush s r n.history)
  unfolding starts_flush
  safe_begins r n whole idle = safe_begins_as r (kept_of s n.history r.chunk) n whole idle

  safe_turn : (r : Route) (n : Now) → RunInvariant s n → Safe s n (starts_if_allowed s r n.history)
  unfolding starts_if_allowed
  safe_turn r n whole =
      safe_test s (may_start s n.history r) n (starts_flush s r n.history) (Return n.history)
      (λ is. safe_begins r n whole (idle_route s n.history r (and_parts (is_idle s n.history r) (has_place s n.history r && fits s n.history r) is).0))
      (λ isnt. (refl, whole))

  safe_turns : (rs : List Route) (n : Now) → RunInvariant s n → Safe s n (starts_each s rs n.history)
  safe_turns [] n whole = (refl, whole)
  safe_turns (r ∷ rs) n whole = safe_then s n (starts_if_allowed s r n.history) (starts_each s rs) (safe_turn r n whole) (λ m whole_m. safe_turns rs m whole_m)

  pub safe_walk : (n : Now) → RunInvariant s n → Safe s n (walk s n.history)
  unfolding walk
  safe_walk n whole = safe_turns (due_routes s n.history) n whole
