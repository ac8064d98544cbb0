-- Worked examples: four participants, of whom 0 is faulty, and what happened to the others until a
-- proposal is final. And one participant that loses a vote by a crash.
use Rattle.std.specs.Prelude.{◌==◌, ⊤, ℕ, Bool, false, List, [], ◌∷◌, map}
use Rattle.batcher.specs.Examples.Answers.{TinyVote, finalization, finalize, listing, notarization}
use Rattle.batcher.specs.Examples.Answers.{notarize, nullify, p}
use Rattle.batcher.specs.messages.Certificate.{Certificate}
use Rattle.batcher_node.specs.Nodes.{NodeView}
use Rattle.batcher_node.specs.Represents.{AreNamed}
use Rattle.batcher_node.specs.SendingExamples.{TinyNodeHistory, just_entered, cast}
use Rattle.batcher_node.specs.SendingExamples.{hear_certificate, of_four}
use Rattle.batcher_agreement.specs.Agreement.{IsFinal}
use Rattle.batcher_agreement.specs.Cuts.{CutLife, KeepPolicyByDisk, all_done_in}
use Rattle.batcher_agreement.specs.Lives.{HasHeld, VoterHistory, called, conduct_of, node_history}
use Rattle.batcher_agreement.specs.Lives.{verified, written}
use Rattle.batcher_agreement.specs.Participants.{AreBacked, IsHonest}
use Rattle.batcher_agreement.specs.Policy.{Conduct, KeepsPolicy}
use Rattle.batcher_agreement.specs.Voters.{AreFewFaulty}

abbrev pub is_zero : ℕ → Bool
is_zero i = i == 0

abbrev pub TinyHistory : Type 0
TinyHistory = VoterHistory ℕ ℕ ℕ ℕ

-- with the newest event of a node
abbrev pub with_newest : TinyNodeHistory → TinyHistory → TinyHistory
with_newest [] past = past
with_newest (event ∷ earlier) past = called event ∷ past

-- It votes: the vote is written, and then its node casts it.
abbrev pub having_voted : TinyHistory → TinyVote → TinyHistory
having_voted past vote = with_newest (cast (node_history past) vote) (written vote ∷ past)

-- a certificate comes from 0
abbrev pub hears : TinyHistory → Certificate ℕ ℕ → TinyHistory
hears past certificate = with_newest (hear_certificate (node_history past) 0 certificate) past

-- What happens to i: it notarizes and, once the notarization comes, finalizes the proposal. Then
-- the finalization comes.
abbrev pub asked : ℕ → TinyHistory
asked i =
    hears (having_voted (hears (having_voted (map called just_entered) (notarize i 1))
    (notarization 1))
    (finalize i 1)) (finalization 1)

abbrev pub did : ℕ → Conduct ℕ
did i = conduct_of (asked i)

-- a node that was called for nothing
abbrev pub tiny_node : NodeView ⊤ ℕ ℕ
tiny_node =
    record {
      scheme = tt;
      epoch = record { 0 = 0 };
      retains = false;
      window = record { finalized = 0; current = 0; ahead = 0 };
      rounds = [];
      blocked = [];
    }

-- A vote to nullify is written, and a crash takes it back.
abbrev pub lost_vote : TinyHistory
lost_vote = written (nullify 1) ∷ []

-- In the next life the proposal of that view is learned to be notarized, and voted for to finalize.
abbrev pub next_votes : TinyHistory
next_votes = written (finalize 1 1) ∷ verified (notarization 1) ∷ []

abbrev pub two_lives : List (CutLife ⊤ ℕ ℕ ℕ ℕ)
two_lives =
    record { by_disk = record { node = tiny_node; past = next_votes }; since = [] }
    ∷ record { by_disk = record { node = tiny_node; past = [] }; since = lost_vote } ∷ []

-- What the theorem supposes of histories can be at once, with something final. And by all that was
-- done in two lives the policy isn't kept, where it is by what their disks have.
pub record AgreementExamples : Type 0 where
  pub kept_by_disk : KeepPolicyByDisk two_lives
  pub not_by_all : KeepsPolicy (all_done_in two_lives) → ⊥
  pub few_faulty : AreFewFaulty (listing 4) is_zero
  pub answered_rightly :
      (i : ℕ) → IsHonest (listing 4) is_zero i → AreNamed of_four (node_history (asked i))
  pub keep_policy : (i : ℕ) → IsHonest (listing 4) is_zero i → KeepsPolicy (did i)
  pub backed : AreBacked (listing 4) is_zero (λ i. HasHeld (asked i)) did
  pub final : IsFinal (listing 4) is_zero did (p 1)
