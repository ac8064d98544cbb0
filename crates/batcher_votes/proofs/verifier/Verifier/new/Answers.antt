use Rattle.batcher_votes.proofs.VerifierLemmas.Soundness.{sound_nothing}
use Rattle.batcher_votes.proofs.verifier.Verifier.new.Goals as goal

pub invariant_of-result : goal.invariant_of-result
invariant_of-result g c =
    rw (
      c.new-4.ensures,
      c.new.ensures.complete,
      c.new.ensures.pending,
      c.new.ensures.verified,
      c.new-2.ensures.complete,
      c.new-2.ensures.pending,
      c.new-2.ensures.verified,
      c.new-3.ensures.complete,
      c.new-3.ensures.pending,
      c.new-3.ensures.verified,
    ) (sound_nothing (g.S.Scheme.meaning c.args.scheme.value) g.D.PartialEq.eq c.args.round c.args.quorum c.requires.some c.requires.enough)
