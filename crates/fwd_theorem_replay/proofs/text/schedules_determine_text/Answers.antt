use Rattle.fwd_theorem_replay.proofs.RunTexts.{one_text}
use Rattle.fwd_theorem_replay.proofs.text.schedules_determine_text.Goals as goal

pub returns : goal.returns
returns c shown s turns lives one other is is2 wants wants2 = one_text shown s turns lives one other is is2 wants wants2
