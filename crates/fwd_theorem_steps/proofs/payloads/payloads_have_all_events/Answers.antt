use Rattle.fwd_theorem_steps.proofs.SentPayloads.{sends_texts, sends_request, judges_replies}
use Rattle.fwd_theorem_steps.proofs.payloads.payloads_have_all_events.Goals as goal

pub returns-clause-texts : goal.returns-clause-texts
returns-clause-texts c s h r output form at is = sends_texts s h r output form at is

pub returns-clause-requests : goal.returns-clause-requests
returns-clause-requests c s h r output host port uri form options at is visible path small fields fits = sends_request s h r output host port uri form options at is visible path small fields fits

pub returns-clause-replies : goal.returns-clause-replies
returns-clause-replies c s h r output host port uri form options at is = judges_replies s h r output host port uri form options at is
