-- All that the next construction of a round could make a certificate of.
use Rattle.std.specs.Prelude.{◌≡◌, ◌≤◌, ◌++◌, ℕ, List, length, Some}
use Rattle.batcher_types.specs.Attestations.{IsQuorum}
use Rattle.batcher_types.specs.declared.messages.Attestation.{Attestation}
use Rattle.batcher_types.specs.declared.messages.Subject.{Subject}
use Rattle.batcher_votes.specs.RoundState.{RoundState}
use Rattle.batcher_histories.specs.Config.{Config, participants_in, quorum_in}
use Rattle.batcher_round.specs.Next.{subject_next, pending_next, verified_next}

module _ {D K G C : Type 0} (x : Config D K G C) (held : RoundState G D) (subject : Subject D)
    (list : List (Attestation G)) where
  -- The next construction is about the subject. The list is of those that are known to attest it,
  -- and then of all that wait to. There are as many as a quorum has.
  pub record MayBeWhole : Type 0 where
    pub about : subject_next x held ≡ Some subject
    pub parts : list ≡ verified_next x held ++ pending_next x held
    pub enough : quorum_in x ≤ length list

  -- They are a quorum, of which so many are known to attest.
  pub record IsWhole (known : ℕ) : Type 0 where
    pub about : subject_next x held ≡ Some subject
    pub parts : list ≡ verified_next x held ++ pending_next x held
    pub count : known ≡ length (verified_next x held)
    pub quorum : IsQuorum (participants_in x) list
