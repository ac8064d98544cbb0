use Rattle.batcher_bytes.proofs.Words.{arith, whole_again, whole_found, versioned_is_exact, versioned}
use Rattle.batcher_bytes.proofs.codec.decode.Goals as goal

pub returns-clause-found : goal.returns-clause-found
returns-clause-found g c =
    whole_found (versioned g.T.Codec.format) (versioned_is_exact g.T.Codec.format g.met.T.Codec.exact)
    c.args.bytes.now (λ i. omega (arith, c.type_inv.bytes i)) c.alone.result c.alone.ensures

pub returns-clause-again : goal.returns-clause-again
returns-clause-again g c =
    whole_again (versioned g.T.Codec.format) (versioned_is_exact g.T.Codec.format g.met.T.Codec.exact)
    c.args.bytes.now c.alone.result c.alone.ensures
