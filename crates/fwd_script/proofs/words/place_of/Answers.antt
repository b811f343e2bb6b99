use Rattle.std.proofs.Common.{◌∙◌}
use Rattle.fwd_script.proofs.ByteSearch.{place_found}
use Rattle.fwd_script.proofs.words.place_of.Goals as goal

pub returns-clause-place : goal.returns-clause-place
returns-clause-place c = c.unwrap_or.ensures ∙ place_found c.args.wanted c.args.text.now c.memchr.result c.memchr.ensures
