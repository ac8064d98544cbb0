-- Histories: the calls that were made, with their answers, the newest first.
use Rattle.std.specs.Prelude.{Bool, true, false, cond, ◌==◌, List, [], ◌∷◌, ◌++◌, Option, Some}
use Rattle.std.specs.Prelude.{None, Err}
use Rattle.batcher_types.specs.declared.messages.Vote.{Vote}
use Rattle.batcher_types.specs.declared.messages.Certificate.{Certificate}
use Rattle.batcher_histories.specs.declared.calls.Call.{Call}
use Rattle.batcher_histories.specs.declared.calls.Call.TheVariants.{Network as NetworkCall}
use Rattle.batcher_histories.specs.declared.calls.Call.TheVariants.{Own as OwnCall}
use Rattle.batcher_histories.specs.declared.calls.Call.TheVariants.{Certificate as CertificateCall}
use Rattle.batcher_histories.specs.declared.answers.Answer.{Answer}
use Rattle.batcher_histories.specs.declared.answers.Answer.TheVariants.{OwnRefused}
use Rattle.batcher_histories.specs.declared.answers.Answer.TheVariants.{Leader as LeaderAnswer}
use Rattle.batcher_histories.specs.declared.answers.Answer.TheVariants.{Construct as ConstructAnswer}
use Rattle.batcher_histories.specs.declared.answers.Answer.TheVariants.{OutOfMemory}
use Rattle.batcher_votes.specs.declared.verifier.Batch.{Batch}
use Rattle.batcher_histories.specs.Config.{Config, sender_in}
use Rattle.batcher_types.specs.Lists.{is_some_and}
use Rattle.batcher_types.specs.Votes.{signer_of}

abbrev pub Event : Type 0 → Type 0 → Type 0 → Type 0 → Type 0
Event D K G C = Call K G C D × Answer G C D

abbrev pub History : Type 0 → Type 0 → Type 0 → Type 0 → Type 0
History D K G C = List (Event D K G C)

-- A call that was refused, for memory or by a named fault, counts as not made.
abbrev pub is_made : {G C D : Type 0} → Answer G C D → Bool
is_made (OwnRefused fault) = false
is_made (LeaderAnswer (Err fault)) = false
is_made OutOfMemory = false
is_made answer = true

module _ {D K G C : Type 0} where
  -- the history after one more call and its answer
  abbrev pub history_after : History D K G C → Call K G C D → Answer G C D → History D K G C
  history_after past call answer = cond (is_made answer) ((call, answer) ∷ past) past

  abbrev pub history_from : History D K G C → List (Call K G C D) → List (Answer G C D)
      → History D K G C
  history_from past [] answers = past
  history_from past (call ∷ calls) [] = past
  history_from past (call ∷ calls) (answer ∷ answers) =
      history_from (history_after past call answer) calls answers

  -- the history of these calls and answers, the oldest first
  abbrev pub history : List (Call K G C D) → List (Answer G C D) → History D K G C
  history calls answers = history_from [] calls answers

  -- the certificate that a call records
  abbrev pub recorded_certificate : Call K G C D → Option (Certificate C D)
  recorded_certificate (CertificateCall certificate) = Some certificate
  recorded_certificate call = None

  -- the own vote of a call, if it is one
  abbrev pub own_votes : Call K G C D → List (Vote G D)
  own_votes (OwnCall vote) = vote ∷ []
  own_votes call = []

module _ {G C D : Type 0} where
  abbrev pub batch_given : Answer G C D → Option (Batch (Certificate C D))
  batch_given (ConstructAnswer batch) = batch
  batch_given answer = None

  abbrev pub certificate_given : Answer G C D → Option (Certificate C D)
  certificate_given (ConstructAnswer (Some batch)) = batch.certificate
  certificate_given answer = None

module _ {D K G C : Type 0} (x : Config D K G C) where
  -- A network vote names its sender where its signer is the index of the sender's key.
  abbrev pub names_sender : K → Vote G D → Bool
  names_sender sender vote = is_some_and (sender_in x sender) (λ i. i.0 == signer_of vote)

  -- the vote that a sender sends in its own name, if the call is one
  abbrev pub sent_votes : Call K G C D → List (Vote G D)
  sent_votes (NetworkCall sender vote) = cond (names_sender sender vote) (vote ∷ []) []
  sent_votes call = []

  -- the vote of either sort, which is cast in its signer's name
  abbrev pub cast_votes : Call K G C D → List (Vote G D)
  cast_votes call = sent_votes call ++ own_votes call
