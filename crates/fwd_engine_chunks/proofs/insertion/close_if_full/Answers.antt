use Rattle.std.proofs.Common.{◌≡◌, true, false, sym, ◌∙◌, ap, subst, ◌<◌, ℕ}
use Rattle.std.specs.Prelude.{nat_le}
use Rattle.std.proofs.lemmas.Bool.{le-leb, lt-leb}
use Rattle.fwd_base.specs.Limits.{full_chunk}
use Rattle.fwd_model.specs.Fact.{History}
use Rattle.fwd_model.specs.Chunks.{size}
use Rattle.fwd_model.specs.CloseActions.{closes_if_full}
use Rattle.fwd_model.proofs.Refinement.{completes_idle}
use Rattle.fwd_engine_state.specs.PartsRepresent.{PartsRepresentIdle}
use Rattle.fwd_engine_state.proofs.InvariantSteps.{sound_filled}
use Rattle.fwd_engine_state.proofs.FactSteps.{closing_when_full}
use Rattle.fwd_engine_chunks.proofs.insertion.close_if_full.Goals as goal

pub returns-then-bytes-ge-FULL_CHUNK-clause-acts : goal.returns-then-bytes-ge-FULL_CHUNK-clause-acts
unfolding closes_if_full
returns-then-bytes-ge-FULL_CHUNK-clause-acts g c others h shown still given is =
    let s = c.args.run.now in
    let n = c.args.chunk.0 in
    let full : nat_le full_chunk (size h n) ≡ true = ap (nat_le full_chunk) (sym is) ∙ le-leb _ _ c.if-bytes-ge-FULL_CHUNK.true in
    rw full (c.close.ensures.acts others h (closing_when_full s c.args.parts.now h n shown still given))

pub returns-else-bytes-ge-FULL_CHUNK-clause-acts : goal.returns-else-bytes-ge-FULL_CHUNK-clause-acts
unfolding closes_if_full
returns-else-bytes-ge-FULL_CHUNK-clause-acts g c others h shown still given is =
    let s = c.args.run.now in
    let n = c.args.chunk.0 in
    let full : nat_le full_chunk (size h n) ≡ false = ap (nat_le full_chunk) (sym is) ∙ lt-leb _ _ c.if-bytes-ge-FULL_CHUNK.false in
    let less : size h n < full_chunk = subst (λ (m : ℕ). m < full_chunk) is c.if-bytes-ge-FULL_CHUNK.false in
    rw full (completes_idle (λ (now : History). PartsRepresentIdle s c.args.parts.now now) _ h (record {
      state = shown.state;
      input_streams = shown.input_streams;
      followed_files = shown.followed_files;
      store = shown.store;
      sound = sound_filled s h n less shown.sound;
    }))
