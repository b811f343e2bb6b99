use Rattle.fwd_secure_settings.proofs.ShortHosts.{keys_are_short}
use Rattle.fwd_secure_settings.proofs.lemmas.lemma_keys_are_short.Goals as goal

pub returns : goal.returns
returns c s meets = keys_are_short s meets
