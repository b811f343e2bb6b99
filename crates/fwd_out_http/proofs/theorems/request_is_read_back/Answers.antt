use Rattle.fwd_out_http.proofs.Requests.{reads_back}
use Rattle.fwd_out_http.proofs.theorems.request_is_read_back.Goals as goal

pub returns : goal.returns
returns c = reads_back
