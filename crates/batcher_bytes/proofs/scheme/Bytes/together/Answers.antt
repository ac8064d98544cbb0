use Rattle.batcher_bytes.proofs.Words.{arith, ◌≡◌, ◌++◌, true, length, sym, subst, made, certifies}
use Rattle.batcher_bytes.proofs.Passing.{together_passed}
use Rattle.batcher_bytes.proofs.scheme.Bytes.together.Goals as goal

pub listed-requires : goal.listed-requires
listed-requires g c = (
  omega arith,
  together_passed g.T.Truth c.args.self.now.keys c.args.subject (length c.args.self.now.participants)
      (c.args.prior.now ++ c.args.fresh.now) c.requires.quorum c.requires.passes,
)

pub returns-clause-certifies : goal.returns-clause-certifies
returns-clause-certifies g c =
    let keys = c.args.self.now.keys in
    let n = length c.args.self.now.participants in
    subst (λ m. certifies keys n c.args.subject m ≡ true) (sym c.in_ok-certificate.ensures)
    (made g.T.Truth keys n c.args.subject (c.args.prior.now ++ c.args.fresh.now))
