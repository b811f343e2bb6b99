use Rattle.std.proofs.Common.{refl}
use Rattle.fwd_engine_ingest.proofs.StreamFactSteps.{joins_one}
use Rattle.fwd_engine_ingest.proofs.input_streams.join.Goals as goal

pub returns : goal.returns
returns c others h shows =
    joins_one c.args.run.now c.args.parts.now _ others h c.args.input c.args.conn c.hears_peers.result c.add_connection.result refl refl refl c.hears_peers.ensures c.add_connection.ensures.notes shows
