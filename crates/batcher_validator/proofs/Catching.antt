-- What a certificate from beyond the window is answered.
use Rattle.batcher_validator.proofs.Words.{◌≡◌, Bool, true, false, Option, Some, None, cond, is_some, refl, Participant, Certificate, Ahead, CertifiedAhead}
use Rattle.batcher_validator.proofs.Words.{ForgedAhead, Receipt, Answered, Dropped, Outside, NodeConfig, NodeView, ahead_answer, ahead_answer_of}
use Rattle.batcher_validator.proofs.Words.{cause_at, certifies_itself, is_ahead, peer_in, round_in, subject_certified}

certifies_by :
    (blocked ahead good : Bool)
    → Answered CertifiedAhead
    ≡ cond blocked Dropped (cond ahead (Answered (cond good CertifiedAhead ForgedAhead)) Outside)
    → good ≡ true
certifies_by true ahead good e = absurd cc
certifies_by false true true e = refl
certifies_by false true false e = absurd cc
certifies_by false false good e = absurd cc

-- One that is answered as certified certifies.
module _ {S D K G C : Type 0} (x : NodeConfig D K G C) (node : NodeView S G D)
    (certificate : Certificate C D) where
  by_sender :
      (o : Option Participant) → Answered CertifiedAhead ≡ ahead_answer_of x node o certificate
      → certifies_itself x.meaning certificate ≡ true
  by_sender None e = absurd cc
  by_sender (Some i) e =
      certifies_by (is_some (cause_at node.blocked i.0))
      (is_ahead x.epoch node.window (round_in (subject_certified certificate)))
      (certifies_itself x.meaning certificate) e

  pub certified_ahead :
      (peer : K) → Answered CertifiedAhead ≡ ahead_answer x node peer certificate
      → certifies_itself x.meaning certificate ≡ true
  certified_ahead peer e = by_sender (peer_in x peer) e
