use Rattle.batcher_bytes.proofs.Words.{arith, whole_may_be_again, whole_may_be_found, versioned_is_exact, versioned}
use Rattle.batcher_bytes.proofs.owned.decode_owned.Goals as goal

pub returns-clause-found : goal.returns-clause-found
returns-clause-found g c =
    whole_may_be_found (versioned g.T.OwnedCodec.format) (versioned_is_exact g.T.OwnedCodec.format g.met.T.OwnedCodec.exact)
    c.args.bytes.now (λ i. omega (arith, c.type_inv.bytes i)) c.alone.result c.alone.ensures

pub returns-clause-again : goal.returns-clause-again
returns-clause-again g c =
    whole_may_be_again (versioned g.T.OwnedCodec.format) (versioned_is_exact g.T.OwnedCodec.format g.met.T.OwnedCodec.exact)
    c.args.bytes.now c.alone.result c.alone.ensures
