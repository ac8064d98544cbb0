-- What comes of a participant that sends another node just what its own answered as to be sent.
use Rattle.std.specs.Prelude.{◌≡◌, ◌==◌, ◌≤◌, ◌&&◌, ⊤, ℕ, Bool, true, false, List, [], ◌∷◌, ◌++◌}
use Rattle.std.specs.Prelude.{Some, All}
use Rattle.std.specs.List.{AllPass}
use Rattle.batcher.specs.messages.Vote.{Vote}
use Rattle.batcher.specs.Lists.{count}
use Rattle.batcher.specs.Votes.{excludes, round_in, signer_of, subject_of}
use Rattle.batcher.specs.Verifiers.{certifies_itself, BatchCertifies}
use Rattle.batcher.specs.Reports.{IsAmong}
use Rattle.batcher_node.specs.declared.answers.Receipt.TheVariants.{Answered}
use Rattle.batcher_node.specs.declared.answers.Verdict.TheVariants.{Recorded}
use Rattle.batcher_node.specs.Events.{NodeEvent, vote_came, certificate_came, vote_cast}
use Rattle.batcher_node.specs.Events.{constructed, forgery_came, NodeHistory, is_peer}
use Rattle.batcher_node.specs.Nodes.{NodeView, NodeConfig}
use Rattle.batcher_node.specs.Represents.{NodeRepresents}

module _ {G D : Type 0} where
  abbrev pub view_of : Vote G D → ℕ
  view_of vote = (round_in (subject_of vote)).view.0

  -- whether two votes of one view exclude each other
  abbrev pub excludes_in_view : Vote G D → Vote G D → Bool
  excludes_in_view a b = (view_of b == view_of a) && excludes a b

module _ {D K G C : Type 0} where
  -- the vote that the node cast and was answered as to be sent, if the event is that
  abbrev pub to_send_by : NodeEvent D K G C → List (Vote G D)
  to_send_by (vote_cast vote outcome (Some report)) = vote ∷ []
  to_send_by event = []

  -- all votes that are to be sent, of whatever views, the newest first
  abbrev pub votes_to_send : NodeHistory D K G C → List (Vote G D)
  votes_to_send [] = []
  votes_to_send (event ∷ past) = to_send_by event ++ votes_to_send past

  -- No two votes of one view that are to be sent exclude each other, equal ones neither: a view has
  -- one notarize of a signer at most, and one nullify or finalize. So no two contradict each other.
  abbrev pub ToSendAgree : NodeHistory D K G C → Type 0
  ToSendAgree past = (v : Vote G D) → count (excludes_in_view v) (votes_to_send past) ≤ 1

module _ {D K G C : Type 0} (x : NodeConfig D K G C) where
  -- What a node hears under a participant's key: of votes just these, and of certificates such as
  -- certify what they name. And the node itself casts no vote of that participant.
  abbrev pub HearsOnly : List (Vote G D) → ℕ → NodeEvent D K G C → Type 0
  HearsOnly votes i (vote_came peer vote receipt) = is_peer x peer i ≡ true → IsAmong vote votes
  HearsOnly votes i (certificate_came peer certificate receipt) =
      is_peer x peer i ≡ true → certifies_itself x.meaning certificate ≡ true
  HearsOnly votes i (forgery_came peer certificate) =
      is_peer x peer i ≡ true → certifies_itself x.meaning certificate ≡ true
  HearsOnly votes i (vote_cast vote outcome report) = (signer_of vote == i) ≡ false
  HearsOnly votes i event = ⊤

  -- The participant signs the votes that its own node answers as to be sent, and the other node
  -- hears just these of it.
  pub record SendsWhatIsToSend (sent heard : NodeHistory D K G C) (i : ℕ) : Type 0 where
    pub own_are_signed : AllPass (λ v. signer_of v == i) (votes_to_send sent)
    pub heard_only : All (HearsOnly (votes_to_send sent) i) heard

  -- A certificate that the node recorded or gave certifies what it names.
  abbrev pub HoldsCertified : NodeEvent D K G C → Type 0
  HoldsCertified (certificate_came peer certificate (Answered (Recorded changed))) =
      certifies_itself x.meaning certificate ≡ true
  HoldsCertified (constructed view (Some batch)) = BatchCertifies x.meaning batch
  HoldsCertified event = ⊤

-- Two nodes of which the other hears of a participant just what its own answers as to be sent: each
-- represents a history of its calls, of which that is so.
pub record HearsWhatIsToSend {S D K G C : Type 0} (x y : NodeConfig D K G C)
    (own other : NodeView S G D) (i : ℕ) : Type 0 where
  pub sent : NodeHistory D K G C
  pub heard : NodeHistory D K G C
  pub own_represents : NodeRepresents x sent own
  pub other_represents : NodeRepresents y heard other
  pub sends : SendsWhatIsToSend y sent heard i
