-- What the votes of a round change, the round changes: whether its proposal was forwarded stays as
-- it was.
use Rattle.batcher_round.proofs.Words.{◌≡◌, Bool, Option, Some, None, Result, Ok, Err, IfOk, OnOk, OnErr, ap, refl, Stream, Certificate, Kind, Vote, Activity}
use Rattle.batcher_round.proofs.Words.{Participant, Batch, Outcome, VerifierState, RoundState, Config, AfterCertificate, AfterGiven, AfterLeader, AfterOwn}
use Rattle.batcher_round.proofs.Words.{TriesHeld}

pub first_on_err : {A E : Type 0} (P Q : Type 0) (r : Result A E) → OnErr r (P × Q) → OnErr r P
first_on_err P Q (Ok v) h = tt
first_on_err P Q (Err e) h = h.0

module _ {D K G C : Type 0} (x : Config D K G C) (forwarded : Bool) (old new : RoundState G D) where
  abbrev pub before : RoundState G D
  before = record old { forwarded = forwarded }

  abbrev pub after : RoundState G D
  after = record new { forwarded = forwarded }

  pub certificate_in_round : {E : Type 0} (certificate : Certificate C D) (r : Result Bool E)
      → IfOk r (λ answer. AfterCertificate x old certificate answer new)
      → IfOk r (λ answer. AfterCertificate x before certificate answer after)
  certificate_in_round certificate (Ok answer) step = record {
    answer_is = step.answer_is;
    forwarded = refl;
    completed = step.completed;
    completes = step.completes;
    fixes = step.fixes;
    releases = step.releases;
  }
  certificate_in_round certificate (Err e) step = tt

  pub own_in_round : (vote : Vote G D) (outcome : Outcome) (report : Option (Activity G D))
      → AfterOwn x old vote outcome report new → AfterOwn x before vote outcome report after
  own_in_round vote outcome report step = record {
    outcome_is = step.outcome_is;
    report_is = step.report_is;
    forwarded = refl;
    fixed = step.fixed;
    fixes = step.fixes;
    tracked = step.tracked;
    buffered = step.buffered;
  }

  pub leader_in_round : {A E : Type 0} (leader : Participant) (r : Result A E)
      → OnOk r (AfterLeader x old leader new) → OnOk r (AfterLeader x before leader after)
  leader_in_round leader (Ok done) step = record {
    tracked = step.tracked;
    forwarded = refl;
    buffered = step.buffered;
  }
  leader_in_round leader (Err fault) step = tt

  -- setting a leader tracks nothing
  pub leader_tracks : {A E : Type 0} (leader : Participant) (r : Result A E)
      → OnOk r (AfterLeader x old leader new)
      → OnErr r ((new.buffered ≡ old.buffered) × (new.tracked ≡ old.tracked))
      → new.tracked ≡ old.tracked
  leader_tracks leader (Ok done) step refused = step.tracked
  leader_tracks leader (Err fault) step refused = refused.1

  given_in_round : (left : VerifierState G D) (kind : Kind) (o : Option (Certificate C D))
      → AfterGiven x (record old { buffered = left }) kind o new
      → AfterGiven x (record before { buffered = left }) kind o after
  given_in_round left kind None step = ap (λ (h : RoundState G D). record h { forwarded = forwarded }) step
  given_in_round left kind (Some certificate) step = record {
    buffered = step.buffered;
    tracked = step.tracked;
    forwarded = refl;
  }

  pub tries_in_round : (kind : Kind) (s t : Stream) (batch : Batch (Certificate C D))
      → TriesHeld x old kind s batch new t → TriesHeld x before kind s batch after t
  tries_in_round kind s t batch step = record {
    left = step.left;
    tries = step.tries;
    given = given_in_round step.left kind batch.certificate step.given;
  }
