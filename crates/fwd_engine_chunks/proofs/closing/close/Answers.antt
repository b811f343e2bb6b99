use Rattle.std.proofs.Common.{◌∷◌, None, refl}
use Rattle.std.proofs.lemmas.Bool.{eq-eqb}
use Rattle.fwd_model.specs.Fact.{ChunkClosed}
use Rattle.fwd_model.specs.CloseActions.{closes_chunk, loses}
use Rattle.fwd_model.specs.Limits.{evicted_at}
use Rattle.fwd_model.proofs.Refinement.{refines_note_then}
use Rattle.fwd_engine_state.proofs.StreamSteps as input_streams
use Rattle.fwd_engine_state.proofs.FileSteps as followed_files
use Rattle.fwd_engine_state.specs.PartsRepresent.{PartsRepresentIdle}
use Rattle.fwd_engine_state.proofs.InvariantSteps.{sound_shut}
use Rattle.fwd_engine_chunks.specs.Evictions.{IsClosedAtRest}
use Rattle.fwd_engine_chunks.proofs.closing.close.Goals as goal

pub returns-clause-acts : goal.returns-clause-acts
unfolding closes_chunk
returns-clause-acts g c others h closing =
    let s = c.args.run.now in
    let n = c.args.chunk.0 in
    let shown : PartsRepresentIdle s (record c.args.parts.now { state = c.close_chunk.new.self; store = c.shut.new.self }) (ChunkClosed n ∷ h) = record {
      state = c.close_chunk.ensures s h None closing.state closing.given;
      input_streams = input_streams.streams_after_other_fact s c.args.parts.now.input_streams h (ChunkClosed n) refl closing.input_streams;
      followed_files = followed_files.files_after_other_fact s c.args.parts.now.followed_files h (ChunkClosed n) refl closing.followed_files;
      store = rw c.shut.ensures closing.store;
      sound = sound_shut s h n closing.sound;
    } in
    let rest : IsClosedAtRest (ChunkClosed n ∷ h) n = (rw (eq-eqb n n refl) refl, λ output. closing.sound.grounded n output closing.still) in
    refines_note_then _ _ _ (ChunkClosed n) h (λ at. loses s (evicted_at s at n) at) c.evict_for_chunk.result (c.evict_for_chunk.ensures.acts others (ChunkClosed n ∷ h) shown rest)
