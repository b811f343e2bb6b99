use Rattle.std.proofs.Common.{◌≡◌, ℕ, ◌+◌, ◌*◌, ◌<◌, ◌≤◌, length, subst, arith}
use Rattle.std.proofs.lemmas.List.{length-map}
use Rattle.fwd_settings.specs.Endpoints.{ends_of}
use Rattle.fwd_script_loop.specs.PauseMask.{happening_of}
use Rattle.fwd_script_loop.specs.Lines.{coming, given_of}
use Rattle.fwd_script_loop.specs.Place.{beginning}
use Rattle.fwd_model.specs.Trace.{loop_part}
use Rattle.fwd_secure.specs.Keys.{has_keys}
use Rattle.fwd_secure.specs.Handshakes.{no_handshakes}
use Rattle.fwd_secure.specs.Secure.{most_of}
use Rattle.fwd_secure_settings.specs.Keys.{keys_of}
use Rattle.fwd_secure_trace.proofs.Secured.{carried}
use Rattle.fwd_theorem_replay.proofs.EventsTaken.{left_at}
use Rattle.fwd_theorem_replay.proofs.TurnsSpent.{life_enough}
use Rattle.fwd_theorem_replay.proofs.turns.enough_turns_end_a_run.Goals as goal

none_is_less : (n turns : ℕ) → n < turns → turns ≤ n + 0 → ⊥
none_is_less n turns more enough = omega (arith, more, enough)

pub returns : goal.returns
returns c s turns start planned trace comes is more spent =
    let first = beginning (given_of planned) in
    let below = carried (keys_of s) no_handshakes is.handshakes trace is.below is.secured in
    let enough = life_enough s comes spent (ends_of s) turns first no_handshakes is.handshakes trace (loop_part is.below) is.way below is.answered.loop in
    let all : left_at first ≡ length (coming 0 planned.lines) = length-map (coming 0 planned.lines) happening_of in
    absurd (none_is_less (most_of (has_keys (keys_of s)) * length (coming 0 planned.lines)) turns more (subst (λ (n : ℕ). turns ≤ most_of (has_keys (keys_of s)) * n + 0) all enough))
