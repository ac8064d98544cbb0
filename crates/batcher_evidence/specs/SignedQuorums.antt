-- What a certificate shows that lists its attestations.
use Rattle.std.specs.Prelude.{◌≤◌, ◌==◌, ◌&&◌, ℕ, Bool, List, length}
use Rattle.std.specs.List.{list_any, AllPass}
use Rattle.batcher.specs.Ascending.{IsAscending}
use Rattle.batcher.specs.Attestations.{IsQuorum, index_of_signer}
use Rattle.batcher.specs.Meaning.{Meaning}
use Rattle.batcher.specs.messages.Attestation.{Attestation}
use Rattle.batcher.specs.messages.Subject.{Subject}

module _ {D K G C : Type 0} (m : Meaning D K G C) where
  -- whether one of the attestations is the participant's and attests the subject
  abbrev pub has_signed : Subject D → List (Attestation G) → ℕ → Bool
  has_signed subject shown i =
      list_any (λ a. (index_of_signer a == i) && m.attests subject a) shown

  -- Attestations of a quorum of different participants, ascending, that all attest the subject.
  pub record ShowsQuorum (subject : Subject D) (shown : List (Attestation G)) : Type 0 where
    pub some : 1 ≤ length m.participants
    pub quorum : IsQuorum (length m.participants) shown
    pub ascending : IsAscending index_of_signer shown
    pub attested : AllPass (m.attests subject) shown
