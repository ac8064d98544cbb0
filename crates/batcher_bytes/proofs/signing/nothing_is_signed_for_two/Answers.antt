use Rattle.batcher_bytes.proofs.Words.{signed_once}
use Rattle.batcher_bytes.proofs.signing.nothing_is_signed_for_two.Goals as goal

pub returns : goal.returns
returns g c = signed_once g.D.Codec.format g.met.D.Codec.exact
