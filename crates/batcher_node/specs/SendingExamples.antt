-- A participant that sends what is to be sent, and what comes of others: two nodes of four, with
-- keys and payloads that are numbers.
use Rattle.std.specs.Prelude.{◌≡◌, ◌==◌, ℕ, [], ◌∷◌, true, Some, None, Result, Ok, Err}
use Rattle.batcher.specs.Keys.{participant}
use Rattle.batcher.specs.messages.Certificate.{Certificate}
use Rattle.batcher.specs.messages.Certificate.TheVariants.{Nullification as NullificationCertificate}
use Rattle.batcher.specs.votes.Outcome.{Outcome}
use Rattle.batcher.specs.answers.OwnFault.{OwnFault}
use Rattle.batcher.specs.answers.BlockReason.TheVariants.{ConflictingNotarize}
use Rattle.batcher.specs.answers.BlockReason.TheVariants.{NullifySignerMismatch}
use Rattle.batcher.specs.Steps.{report_by}
use Rattle.batcher.specs.Answers.{network_answer, own_answer}
use Rattle.batcher.specs.Examples.Answers.{TinyVote, listing, compare, the_round, notarize, nullify}
use Rattle.batcher.specs.Examples.Answers.{finalize, nullification}
use Rattle.batcher_node.specs.declared.answers.Cause.TheVariants.{Vote as ForVote}
use Rattle.batcher_node.specs.declared.answers.Cause.TheVariants.{Certificate as ForCertificate}
use Rattle.batcher_node.specs.Events.{NodeHistory, started, vote_came, certificate_came, vote_cast}
use Rattle.batcher_node.specs.Events.{view_entered, view_history, cause_in}
use Rattle.batcher_node.specs.Nodes.{NodeConfig}
use Rattle.batcher_node.specs.Represents.{config_of, receipt, verdict, AreNamed}
use Rattle.batcher_node.specs.Sending.{votes_to_send, SendsWhatIsToSend}

abbrev pub TinyNodeHistory : Type 0
TinyNodeHistory = NodeHistory ℕ ℕ ℕ ℕ

abbrev pub of_four : NodeConfig ℕ ℕ ℕ ℕ
of_four =
    record {
      meaning = listing 4;
      compare_keys = compare;
      same_signature = λ a b. a == b;
      same_digest = λ a b. a == b;
      epoch = record { 0 = 0 };
      retains = true;
    }

-- a node that entered the view 1 of the votes, which 0 leads
abbrev pub just_entered : TinyNodeHistory
just_entered =
    view_entered 1 (participant 0)
    ∷ started (record { finalized = 0; current = 0; ahead = 2 }) ∷ []

-- what becomes of an own vote, which is left out where it is refused
abbrev pub answered : TinyNodeHistory → TinyVote → Result Outcome OwnFault → TinyNodeHistory
answered past vote (Ok outcome) = vote_cast vote outcome (report_by outcome vote) ∷ past
answered past vote (Err fault) = past

abbrev pub cast : TinyNodeHistory → TinyVote → TinyNodeHistory
cast past vote = answered past vote (own_answer (config_of of_four past 1)
    (view_history 1 past) vote)

-- what is answered where a vote, or a nullification, came from a peer
abbrev pub hear : TinyNodeHistory → ℕ → TinyVote → TinyNodeHistory
hear past peer vote =
    vote_came peer vote
    (receipt of_four past peer the_round
    (network_answer (config_of of_four past 1) (view_history 1 past) peer vote))
    ∷ past

abbrev pub hear_certificate : TinyNodeHistory → ℕ → Certificate ℕ ℕ → TinyNodeHistory
hear_certificate past peer certificate =
    certificate_came peer certificate
    (receipt of_four past peer the_round (verdict of_four past certificate))
    ∷ past

-- The node of 1: it notarizes and nullifies, and asks for more that isn't to be sent.
abbrev pub sent : TinyNodeHistory
sent = cast (cast (cast (cast just_entered (notarize 1 1)) (nullify 1)) (nullify 1)) (finalize 1 1)

-- The node of 2: it casts its own, and hears 1, under whose key a certificate comes too.
abbrev pub heard : TinyNodeHistory
heard =
    hear_certificate (hear (hear (cast just_entered (notarize 2 1)) 1 (nullify 1)) 1
    (notarize 1 1)) 1
    nullification

abbrev pub forgery : Certificate ℕ ℕ
forgery = NullificationCertificate (record { round = the_round; certificate = 1 })

pub record SendingExamples : Type 0 where
  -- A repeat is known, and a finalize after the nullify is refused: neither is to be sent.
  pub two_to_send : votes_to_send sent ≡ nullify 1 ∷ notarize 1 1 ∷ []
  pub answered_rightly : AreNamed of_four sent × AreNamed of_four heard
  -- So the other node hears just what it may, and doesn't block 1,
  pub keeps_to_it : SendsWhatIsToSend of_four sent heard 1
  pub not_blocked : cause_in of_four heard 1 ≡ None
  -- also where others send in its name; they are blocked.
  pub not_blocked_by_others : cause_in of_four (hear heard 3 (nullify 1)) 1 ≡ None
  pub others_blocked :
      cause_in of_four (hear heard 3 (nullify 1)) 3 ≡ Some (ForVote NullifySignerMismatch)
  -- Had it sent what wasn't to be sent, or a forged certificate, it would be blocked.
  pub blocked_for_another :
      cause_in of_four (hear heard 1 (notarize 1 2)) 1 ≡ Some (ForVote ConflictingNotarize)
  pub blocked_for_forgery :
      cause_in of_four
      (hear_certificate (cast just_entered (notarize 2 1)) 1 forgery) 1 ≡ Some ForCertificate
