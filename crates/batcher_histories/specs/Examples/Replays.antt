-- In small rounds: runs that go alike, and ones that don't; what a releasing round answers beside a
-- retaining one.
use Rattle.std.specs.Prelude.{◌≡◌, ◌%◌, ℕ, true, false, List, [], ◌∷◌, drop, map, Option, Some}
use Rattle.std.specs.Prelude.{None}
use Rattle.rand_core.specs.Stream.{Stream}
use Rattle.batcher_histories.specs.declared.answers.BlockReason.TheVariants.{NullifySignerMismatch}
use Rattle.batcher_votes.specs.declared.votes.Mode.{Mode}
use Rattle.batcher_votes.specs.declared.votes.Mode.TheVariants.{Retaining, Releasing}
use Rattle.batcher_votes.specs.declared.votes.Outcome.TheVariants.{Added, Duplicate}
use Rattle.batcher_histories.specs.declared.answers.Answer.TheVariants.{Own as OwnAnswer}
use Rattle.batcher_histories.specs.declared.answers.Answer.TheVariants.{Certificate as CertificateAnswer}
use Rattle.batcher_histories.specs.declared.answers.Answer.TheVariants.{Forward as ForwardAnswer}
use Rattle.batcher_histories.specs.declared.answers.Answer.TheVariants.{Missing as MissingAnswer}
use Rattle.batcher_histories.specs.declared.answers.Answer.TheVariants.{OutOfMemory}
use Rattle.batcher_types.specs.Meaning.{Meaning}
use Rattle.batcher_types.specs.Keys.{participant}
use Rattle.batcher_types.specs.Votes.{subject_of}
use Rattle.batcher_types.specs.Attempts.{attempt_of}
use Rattle.batcher_histories.specs.Admissions.{report_of}
use Rattle.batcher_votes.specs.RoundState.{RoundState}
use Rattle.batcher_histories.specs.Steps.{nothing_held}
use Rattle.batcher_histories.specs.Runs.{Runs, blocked_senders}
use Rattle.batcher_histories.specs.Pairs.{AnsweredAlike, IsBeside, BlocksNoMore}
use Rattle.batcher_histories.specs.Replay.{GoAlike}
use Rattle.batcher_histories.specs.Examples.Answers.{TinyConfig, TinyCall, TinyAnswer, TinyHistory}
use Rattle.batcher_histories.specs.Examples.Answers.{no_words, compare, listing, four, signed}
use Rattle.batcher_histories.specs.Examples.Answers.{answers, notarize, bad_notarize, nullify}
use Rattle.batcher_histories.specs.Examples.Answers.{notarization, nullification, net, own, cert}
use Rattle.batcher_histories.specs.Examples.Answers.{forward, missing, added, refused, blocked}
use Rattle.batcher_histories.specs.Examples.Answers.{own_added}

-- the answer that lists these participants
abbrev pub lacking : List ℕ → TinyAnswer
lacking participants = MissingAnswer (map participant participants)

-- what a new round holds that retains votes
abbrev pub new_round : RoundState ℕ ℕ
new_round = nothing_held Retaining

abbrev pub no_calls : List TinyCall
no_calls = []

abbrev pub no_answers : List TinyAnswer
no_answers = []

-- a run of a new round that leaves it as it was
abbrev pub RunsIdle : List TinyCall → List TinyAnswer → Type 0
RunsIdle calls given = Runs (four Retaining) new_round no_words calls given new_round no_words

-- what two such runs have in common
abbrev pub IdleAlike : List TinyCall → List TinyAnswer → List TinyCall → List TinyAnswer → Type 0
IdleAlike calls given others answered =
    GoAlike calls given new_round no_words others answered new_round no_words

-- a scheme whose certificates are drawn from the generator
abbrev pub drawing : Meaning ℕ ℕ ℕ ℕ
drawing =
    record (listing 4) {
      assembled_at_once = λ subject pending verified stream. (Some (stream.u32_after []), stream);
    }

abbrev pub ones : Stream
ones = record no_words { u32_after = λ calls. 1 }

-- the certificate of one good vote, drawn from a stream
abbrev pub drawn : Stream → Option ℕ
drawn stream =
    (attempt_of drawing (subject_of (nullify 0)) 1 [] (signed 0 0 ∷ []) stream).0.certificate

-- a round in which keys that end in the same digit are one participant's
abbrev pub by_last_digit : Mode → TinyConfig
by_last_digit mode =
    record (four mode) { compare_keys = λ a b. compare (a % 10) (b % 10) }

-- own votes of a kind that is certified, and repeated ones
abbrev pub own_calls : List TinyCall
own_calls =
    cert (notarization 1) ∷ own (notarize 0 1) ∷ own (nullify 0) ∷ cert nullification
    ∷ own (nullify 0) ∷ []

-- 1 contradicts itself, and repeats its first vote by another key; 2 repeats a vote with a bad
-- signature; 9 is nobody's key
abbrev pub blocked_calls : List TinyCall
blocked_calls =
    net 1 (notarize 1 2) ∷ net 2 (notarize 2 1) ∷ cert (notarization 1) ∷ net 1 (notarize 1 1)
    ∷ net 11 (notarize 1 2) ∷ net 2 (bad_notarize 2 1) ∷ net 9 (nullify 1) ∷ []

-- 1 votes for another proposal, and then for the selected one; 2 votes for another alone
abbrev pub missing_calls : List TinyCall
missing_calls =
    net 1 (notarize 1 2) ∷ net 2 (notarize 2 2) ∷ cert (notarization 1) ∷ net 1 (notarize 1 1)
    ∷ missing 1 ∷ missing 2 ∷ []

-- the history of a notarization
abbrev pub one_fixed : TinyHistory
one_fixed = (cert (notarization 1), CertificateAnswer true) ∷ []

pub record ReplayExamples : Type 0 where
  -- EQUAL RUNS
  -- One run was refused memory for a call, and the other wasn't: they have different answers.
  pub with_memory : RunsIdle (missing 1 ∷ []) (lacking (0 ∷ 1 ∷ 2 ∷ 3 ∷ []) ∷ [])
  pub without_memory : RunsIdle (missing 1 ∷ []) (OutOfMemory ∷ [])
  -- With another stream another certificate may be drawn.
  pub drawn_from_zeros : drawn no_words ≡ Some 0
  pub drawn_from_ones : drawn ones ≡ Some 1
  -- Where calls differ, so may what is answered from there on.
  pub asked_for_one :
      answers (four Retaining) (net 1 (notarize 1 1) ∷ missing 1 ∷ [])
      ≡ added (notarize 1 1) ∷ lacking (0 ∷ 2 ∷ 3 ∷ []) ∷ []
  pub asked_for_two :
      answers (four Retaining) (net 1 (notarize 1 1) ∷ missing 2 ∷ [])
      ≡ added (notarize 1 1) ∷ lacking (0 ∷ 1 ∷ 2 ∷ 3 ∷ []) ∷ []
  -- Other answers to the same first calls are refused, also where one run makes these alone,
  pub other_answers_are_refused :
      IdleAlike (forward 1 ∷ missing 1 ∷ []) (ForwardAnswer None ∷ lacking [] ∷ [])
      (forward 1 ∷ missing 2 ∷ []) (lacking [] ∷ lacking [] ∷ []) → ⊥
  pub other_first_answers_are_refused :
      IdleAlike (missing 1 ∷ []) (lacking [] ∷ [])
      (missing 1 ∷ forward 1 ∷ []) (lacking (0 ∷ []) ∷ ForwardAnswer None ∷ []) → ⊥
  -- and so is another round, or another stream, after the same calls.
  pub other_round_is_refused :
      GoAlike no_calls no_answers new_round no_words
      no_calls no_answers (record new_round { forwarded = true }) no_words → ⊥
  pub other_stream_is_refused :
      GoAlike no_calls no_answers new_round no_words no_calls no_answers new_round ones → ⊥
  -- OWN VOTES OF A PAIR
  -- Both rounds add a vote, or both find it seen. Of a certified kind the releasing one keeps none.
  pub own_votes_retained :
      answers (four Retaining) own_calls
      ≡ CertificateAnswer true ∷ own_added (notarize 0 1) ∷ own_added (nullify 0)
      ∷ CertificateAnswer false ∷ OwnAnswer (Duplicate true) None ∷ []
  pub own_votes_released :
      answers (four Releasing) own_calls
      ≡ CertificateAnswer true ∷ OwnAnswer (Added false) (Some (report_of (notarize 0 1)))
      ∷ own_added (nullify 0) ∷ CertificateAnswer false ∷ OwnAnswer (Duplicate false) None ∷ []
  -- One that is added by one of them alone is refused.
  pub own_vote_of_one_is_refused :
      AnsweredAlike (own_added (nullify 0) ∷ []) (OwnAnswer (Duplicate false) None ∷ []) → ⊥
  -- BLOCKED SENDERS OF A PAIR
  -- The retaining round blocks 1, 2 and 9; the releasing one 1 and 9 alone, but 1 by two keys.
  pub blocked_by_retaining :
      blocked_senders blocked_calls (answers (by_last_digit Retaining) blocked_calls)
      ≡ 1 ∷ 2 ∷ 9 ∷ []
  pub blocked_by_releasing :
      blocked_senders blocked_calls (answers (by_last_digit Releasing) blocked_calls)
      ≡ 1 ∷ 11 ∷ 9 ∷ []
  -- A releasing round that blocks anybody else is refused.
  pub other_block_is_refused :
      BlocksNoMore (four Retaining) (net 2 (nullify 1) ∷ net 3 (nullify 1) ∷ [])
      (refused ∷ blocked NullifySignerMismatch ∷ [])
      (blocked NullifySignerMismatch ∷ refused ∷ []) → ⊥
  -- MISSING BLOCKS OF A PAIR
  -- Of the selected proposal the releasing round lists fewer: 1's later vote shows that it has the
  -- block. Of another one it may list more: facts don't show that 2 has its block.
  pub missing_of_retaining :
      drop 4 (answers (four Retaining) missing_calls)
      ≡ lacking (0 ∷ 1 ∷ 2 ∷ 3 ∷ []) ∷ lacking (0 ∷ 3 ∷ []) ∷ []
  pub missing_of_releasing :
      drop 4 (answers (four Releasing) missing_calls)
      ≡ lacking (0 ∷ 2 ∷ 3 ∷ []) ∷ lacking (0 ∷ 2 ∷ 3 ∷ []) ∷ []
  -- A releasing round that lists anybody else for the selected proposal is refused.
  pub other_missing_is_refused :
      IsBeside (four Retaining) ((missing 1, lacking (1 ∷ [])) ∷ one_fixed)
      ((missing 1, lacking (0 ∷ [])) ∷ one_fixed) → ⊥
