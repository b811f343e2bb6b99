use Rattle.std.proofs.Common.{◌≡◌, ℕ, ◌<◌, true, false, List, [], ◌∷◌, length, map, None, refl, sym, ap, subst, ◌∙◌, arith}
use Rattle.fwd_base.specs.Limits.{largest_batch}
use Rattle.fwd_chunk.specs.Layout.{AreOutputs}
use Rattle.fwd_settings.specs.declared.settings_types.AllSettings.{AllSettings}
use Rattle.fwd_table.specs.Route.{Route as TableRoute}
use Rattle.fwd_table.specs.Routes.{idle_at, routes_to}
use Rattle.fwd_store.specs.Store.{has_no_number}
use Rattle.fwd_store.specs.declared.answer.StoreRefusal.TheVariants as refusal
use Rattle.fwd_model.specs.Fact.{Batch, Refused, NoNumber}
use Rattle.fwd_model.specs.Settings.{outputs_for, output_name, names_for}
use Rattle.fwd_model.specs.Acceptance.{ends_refused, refuses}
use Rattle.fwd_model.proofs.Actions.{stays}
use Rattle.fwd_model.proofs.Refinement.{refines_after, refines_err, completes_after, completes_note_then, completes_idle}
use Rattle.fwd_engine_state.specs.Views.{output_id}
use Rattle.fwd_engine_state.specs.StateRepresents.{IsMaskOf}
use Rattle.fwd_engine_state.proofs.FactSteps.{represents_by_state}
use Rattle.fwd_engine_chunks.specs.BatchOutcome.{goes_on, refuses_after_fault}
use Rattle.fwd_engine_chunks.proofs.ReadyStores.{has_room_left}
use Rattle.fwd_engine_chunks.proofs.StoreOutcome.{RepresentsBatch, IsGiven, no_disk_call, some_left, took, failed, only_began, none_left, taken_isnt, refused_isnt, refused_so}
use Rattle.fwd_engine_chunks.proofs.insertion.store.Goals as goal

-- the names of the outputs of the mask are those of the outputs that match the tag
named : (s : AllSettings) (tag : List ℕ) (routes : ℕ) (names : List (List ℕ)) → IsMaskOf (outputs_for s tag) routes
    → names ≡ map (λ (r : TableRoute). output_name s r.output.0) (routes_to routes) → names ≡ names_for s tag
named s tag routes names mask are = are ∙ ap (map (λ (r : TableRoute). output_name s r.output.0)) mask.routes ∙ each (outputs_for s tag)
  where
    each : (outputs : List ℕ) → map (λ (r : TableRoute). output_name s r.output.0) (map (λ (output : ℕ). idle_at 0 (output_id output)) outputs) ≡ map (output_name s) outputs
    each [] = refl
    each (output ∷ outputs) = ap (λ (names : List (List ℕ)). output_name s output ∷ names) (each outputs)

pub accept-requires-clause-outputs : goal.accept-requires-clause-outputs
accept-requires-clause-outputs g c =
    let s = c.args.run.now in
    subst AreOutputs (sym (named s c.args.tag.now c.args.routes c.in_ok-names.names c.requires.routes c.in_ok-names.ensures))
    (c.lemma_output_names_fit.ensures s c.args.tag.now c.lemma_settings_are_sound.ensures)

pub take-requires-clause-routes : goal.take-requires-clause-routes
take-requires-clause-routes g c =
    subst (λ (t : List ℕ). IsMaskOf (outputs_for c.args.run.now t) c.args.routes) (sym c.in_ok-place.ensures.place) c.requires.routes

pub returns-then-not-has_room-clause-acts : goal.returns-then-not-has_room-clause-acts
returns-then-not-has_room-clause-acts g c events is_encoded counted others h shows =
    let room = has_room_left c.args.run.now h c.args.parts.now.store c.args.input.0 c.args.tag.now shows.store shows.sound in
    absurd (cc (sym (c.has_room.ensures ∙ room) ∙ c.if-not-has_room.true))

pub returns-in_err-names-clause-acts : goal.returns-in_err-names-clause-acts
returns-in_err-names-clause-acts g c events is_encoded counted others h shows = refines_err (RepresentsBatch c.args.run.now _) _ c.from_residual.result c.from_residual.ensures.0 (_, stays _ _)

pub returns-in_err-place-clause-acts : goal.returns-in_err-place-clause-acts
returns-in_err-place-clause-acts g c events is_encoded counted others h shows = refines_err (RepresentsBatch c.args.run.now _) _ c.from_residual-in_err-place.result c.from_residual-in_err-place.ensures.0 (_, stays _ _)

pub returns-in-Ok-clause-acts : goal.returns-in-Ok-clause-acts
returns-in-Ok-clause-acts g c events is_encoded counted others h shows =
    let s = c.args.run.now in
    let b : Batch = record { input = c.args.input.0; tag = c.args.tag.now; events = events } in
    let a = c.in-Ok.accepted in
    let given : IsGiven s h b c.reserve.new.self c.args.parts.now.store c.stream.result.now c.home_for-home.result c.args.bytes.now c.in_ok-names.names = record {
      stands = c.in_ok-place.ensures.keeps s h None shows.state;
      held = shows.store;
      sound = shows.sound;
      store_sound = c.is_sound.ensures;
      handed = record { in_folder = c.stream.ensures; at_home = c.home_for-home.ensures.home h shows.store; encoding = is_encoded.encoding; names = named c.args.run.now c.args.tag.now c.args.routes c.in_ok-names.names c.requires.routes c.in_ok-names.ensures };
      is_encoded = is_encoded;
      number = some_left _ _ _ c.accept.ensures.no_number is_encoded.short (taken_isnt c.accept.result a c.in-Ok.is);
    } in
    let taken = took s h b c.reserve.new.self c.args.parts.now.store c.accept.new.self c.stream.result.now c.home_for-home.result c.args.bytes.now c.in_ok-names.names others _ _ a given c.in-Ok.ensures.calls c.in-Ok.ensures.ok in
    refines_after (RepresentsBatch s c.take.new.parts) _ _ (goes_on s b h a) c.take.result taken.leads
    (c.take.ensures.acts others h b refl (sym c.in_ok-place.ensures.place) counted
    (record { state = given.stands; input_streams = shows.input_streams; followed_files = shows.followed_files; store = taken.holds; sound = shows.sound })
    taken.has)

pub returns-in-Err-DiskFailed-clause-acts : goal.returns-in-Err-DiskFailed-clause-acts
returns-in-Err-DiskFailed-clause-acts g c events is_encoded counted others h shows =
    let s = c.args.run.now in
    let b : Batch = record { input = c.args.input.0; tag = c.args.tag.now; events = events } in
    let closed = c.in-Err-DiskFailed.sealed in
    let is = c.in-Err-DiskFailed.field-0-is in
    let given : IsGiven s h b c.reserve.new.self c.args.parts.now.store c.stream.result.now c.home_for-home.result c.args.bytes.now c.in_ok-names.names = record {
      stands = c.in_ok-place.ensures.keeps s h None shows.state;
      held = shows.store;
      sound = shows.sound;
      store_sound = c.is_sound.ensures;
      handed = record { in_folder = c.stream.ensures; at_home = c.home_for-home.ensures.home h shows.store; encoding = is_encoded.encoding; names = named c.args.run.now c.args.tag.now c.args.routes c.in_ok-names.names c.requires.routes c.in_ok-names.ensures };
      is_encoded = is_encoded;
      number = some_left _ _ _ c.accept.ensures.no_number is_encoded.short (refused_isnt c.accept.result c.in-Err-DiskFailed.field-0 (refusal.DiskFailed closed) c.in-Err-DiskFailed.is is (λ e. absurd (cc e)));
    } in
    let calls = rw is at c.in-Err-DiskFailed.ensures.calls in
    let gave = rw is at c.in-Err-DiskFailed.ensures.err in
    let fails = failed s h b c.reserve.new.self c.args.parts.now.store c.accept.new.self c.stream.result.now c.home_for-home.result c.args.bytes.now c.in_ok-names.names others _ _ closed given calls gave in
    refines_after (RepresentsBatch s c.refuse_after_fault.new.parts) _ _ (refuses_after_fault s b h closed) c.refuse_after_fault.result fails.leads
    (c.refuse_after_fault.ensures.acts others h b refl
    (record { state = given.stands; input_streams = shows.input_streams; followed_files = shows.followed_files; store = fails.holds; sound = shows.sound })
    fails.opened)

pub returns-in-Err-NoNumber-clause-acts : goal.returns-in-Err-NoNumber-clause-acts
returns-in-Err-NoNumber-clause-acts g c events is_encoded counted others h shows =
    let s = c.args.run.now in
    let b : Batch = record { input = c.args.input.0; tag = c.args.tag.now; events = events } in
    let is = c.in-Err-NoNumber.field-0-is in
    let none : has_no_number c.args.parts.now.store b.input b.tag ≡ true = (c.accept.ensures.no_number.0 (refused_so c.accept.result c.in-Err-NoNumber.field-0 refusal.NoNumber c.in-Err-NoNumber.is is)).1 in
    let same = rw is at c.in-Err-NoNumber.ensures.err in
    let state = c.count_refused-in-Err-NoNumber.ensures.batch b NoNumber refl s h None (c.in_ok-place.ensures.keeps s h None shows.state) in
    let shown = represents_by_state s c.args.parts.now (record { state = c.count_refused-in-Err-NoNumber.new.self; input_streams = c.args.parts.now.input_streams; followed_files = c.args.parts.now.followed_files; store = c.accept.new.self }) h None None None (Refused b NoNumber) refl refl same.1 refl refl refl refl state shows in
    rw (none_left s h b c.args.parts.now.store shows.store none)
    (completes_after (RepresentsBatch s _ false) _ (refuses b NoNumber h) (refuses b NoNumber h) (no_disk_call others _ _ (refuses b NoNumber h) same.0)
    (completes_note_then (RepresentsBatch s _ false) _ _ (Refused b NoNumber) h ends_refused
    (completes_idle (RepresentsBatch s _ false) _ (record { history = Refused b NoNumber ∷ h; taken = false }) (refl, shown))))

pub returns-clause-acts : goal.returns-clause-acts
returns-clause-acts g c events is_encoded counted others h shows =
    let s = c.args.run.now in
    let b : Batch = record { input = c.args.input.0; tag = c.args.tag.now; events = events } in
    let is = c.in-Err-Memory.field-0-is in
    let given : IsGiven s h b c.reserve.new.self c.args.parts.now.store c.stream.result.now c.home_for-home.result c.args.bytes.now c.in_ok-names.names = record {
      stands = c.in_ok-place.ensures.keeps s h None shows.state;
      held = shows.store;
      sound = shows.sound;
      store_sound = c.is_sound.ensures;
      handed = record { in_folder = c.stream.ensures; at_home = c.home_for-home.ensures.home h shows.store; encoding = is_encoded.encoding; names = named c.args.run.now c.args.tag.now c.args.routes c.in_ok-names.names c.requires.routes c.in_ok-names.ensures };
      is_encoded = is_encoded;
      number = some_left _ _ _ c.accept.ensures.no_number is_encoded.short (refused_isnt c.accept.result c.in-Err-Memory.field-0 refusal.Memory c.in-Err-Memory.is is (λ e. absurd (cc e)));
    } in
    let calls = rw is at c.in-Err-Memory.ensures.calls in
    only_began s h b c.reserve.new.self c.args.parts.now.store c.stream.result.now c.home_for-home.result c.args.bytes.now c.in_ok-names.names others _ _ given (calls.0, calls.1)
