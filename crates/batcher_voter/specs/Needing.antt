-- What a voter needs memory for: what may be learned of a view, and what its node needs.
use Rattle.std.specs.Prelude.{◌≡◌, None, ℕ, true}
use Rattle.batcher.specs.Votes.{round_in, subject_certified}
use Rattle.batcher.specs.messages.Certificate.{Certificate}
use Rattle.batcher_node.specs.Nodes.{IsNext, NodeConfig}
use Rattle.batcher_node.specs.Represents.{CertificateMayNeed, NextMayNeed}
use Rattle.batcher_node.specs.Windows.{is_of}
use Rattle.batcher_voter.specs.Keeping.{IsKnownAlready}
use Rattle.batcher_voter.specs.Knowledge.{HasRoom}
use Rattle.batcher_voter.specs.Voting.{VoterView}

module _ {S D K G C L : Type 0} (x : NodeConfig D K G C) (voter : VoterView S G D L) where
  -- A certificate of the window: where there is room for what is learned of its view, and nothing
  -- is to be kept since one like it is known, it certifies what it names, it is heard, and the node
  -- may need memory for it.
  pub record CertificateNeeds (peer : K) (certificate : Certificate C D) : Type 0 where
    pub within :
        is_of x.epoch voter.node.window (round_in (subject_certified certificate)) ≡ true
    pub needs :
        HasRoom voter.knowledge (round_in (subject_certified certificate)).view.0
        → IsKnownAlready voter.knowledge (subject_certified certificate)
        → CertificateMayNeed x voter.node peer certificate

  -- The same of the next construction, where no certificate waits to be kept.
  pub record ConstructionNeeds : Type 0 where
    pub view : ℕ
    pub next : IsNext voter.node.rounds view
    pub needs : HasRoom voter.knowledge view → voter.waits ≡ None → NextMayNeed x voter.node
