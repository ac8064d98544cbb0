-- The certificates that constructions give: what is behind each, and which never come together.
use Rattle.std.specs.Prelude.{◌≡◌, ◌≤◌, ◌⊎◌, ◌&&◌, ◌||◌, ◌==◌, Bool, true, false, nat_lt, List, []}
use Rattle.std.specs.Prelude.{◌∷◌, length, filter, Option, Some, IfSome}
use Rattle.std.specs.List.{list_any, AllPass}
use Rattle.batcher_types.specs.declared.messages.Proposal.{Proposal}
use Rattle.batcher_types.specs.declared.messages.Vote.{Vote}
use Rattle.batcher_types.specs.declared.messages.Certificate.{Certificate}
use Rattle.batcher_types.specs.declared.messages.Kind.{Kind}
use Rattle.batcher_types.specs.declared.messages.Kind.TheVariants.{Nullification, Finalization}
use Rattle.batcher_votes.specs.declared.verifier.Batch.{Batch}
use Rattle.batcher_histories.specs.declared.answers.Answer.{Answer}
use Rattle.batcher_votes.specs.declared.verifier.ProposalState.TheVariants.{Certificate as FixedProposal}
use Rattle.batcher_histories.specs.Config.{Config, participants_in, quorum_in}
use Rattle.batcher_types.specs.Lists.{count, is_some_and, EachOnce, ElementsWithin}
use Rattle.batcher_types.specs.Votes.{is_kind, signer_of, subject_of, proposal_in, kind_certified}
use Rattle.batcher_types.specs.Votes.{subject_certified, same_proposal, same_subject}
use Rattle.batcher_histories.specs.History.{Event, History, batch_given, certificate_given}
use Rattle.batcher_histories.specs.FirstVotes.{first_votes}
use Rattle.batcher_histories.specs.Selection.{is_certified, selection}
use Rattle.batcher_histories.specs.Eligible.{is_valid}
use Rattle.batcher_histories.specs.AnswerFacts.{usable_votes}
use Rattle.batcher_histories.specs.Promises.{AtEachEvent}
use Rattle.batcher_histories.specs.Reports.{subjects_contradict}

-- the proposal that a certificate names, unless it is a nullification
abbrev pub proposal_certified : {C D : Type 0} → Certificate C D → Option (Proposal D)
proposal_certified c = proposal_in (subject_certified c)

-- whether a batch verified the pending votes that it took one by one, or took none
abbrev pub verified_each : {C D : Type 0} → Batch (Certificate C D) → Bool
verified_each batch = batch.fallback || (batch.processed == 0)

-- whether an answer gives a certificate of the kind
abbrev pub gives_kind : {G C D : Type 0} → Kind → Answer G C D → Bool
gives_kind kind answer =
    is_some_and (certificate_given answer) (λ c. is_kind (kind_certified c) kind)

module _ {D K G C : Type 0} where
  -- whether a certificate of the kind was given
  abbrev pub was_given : History D K G C → Kind → Bool
  was_given past kind = list_any (λ event. gives_kind kind event.1) past

  -- Just this certificate was given.
  abbrev pub IsGiven : History D K G C → Certificate C D → Type 0
  IsGiven [] c = ⊥
  IsGiven (event ∷ past) c = (certificate_given event.1 ≡ Some c) ⊎ IsGiven past c

  -- A certificate is given only of a kind that isn't certified: none was given or recorded before.
  abbrev pub GivesOnce : History D K G C → Event D K G C → Type 0
  GivesOnce past event =
      IfSome (certificate_given event.1) (λ c. is_certified past (kind_certified c) ≡ false)

module _ {D K G C : Type 0} (x : Config D K G C) where
  -- the usable votes for just what a certificate certifies
  abbrev pub votes_behind : History D K G C → Certificate C D → List (Vote G D)
  votes_behind past c =
      filter (λ v. same_subject x.same_digest (subject_certified c) (subject_of v))
      (usable_votes x past (kind_certified c))

  -- Behind the certificate of a batch is a quorum of first votes, of different participants, which
  -- are usable and for just what it certifies. A quorum of them attests, unless the batch took
  -- pending votes and gave the certificate at once.
  pub record IsBacked
      (past : History D K G C) (batch : Batch (Certificate C D))
      (c : Certificate C D) : Type 0 where
    pub enough : quorum_in x ≤ length (votes_behind past c)
    pub first : ElementsWithin (votes_behind past c) (first_votes x past)
    pub once : EachOnce signer_of (votes_behind past c)
    pub participants : AllPass (λ v. nat_lt (signer_of v) (participants_in x)) (votes_behind past c)
    pub attested :
        verified_each batch ≡ true
        → quorum_in x ≤ length (filter (is_valid x) (votes_behind past c))

  abbrev pub GivesBacked : History D K G C → Event D K G C → Type 0
  GivesBacked past event =
      IfSome (batch_given event.1) (λ batch. IfSome batch.certificate (IsBacked past batch))

  -- The proposal of a certificate that is given is fixed from then on.
  abbrev pub GivesFixed : History D K G C → Event D K G C → Type 0
  GivesFixed past event =
      IfSome (certificate_given event.1) (λ c.
      IfSome (proposal_certified c) (λ p. selection x (event ∷ past) ≡ FixedProposal p))

  -- Where both certificates name a proposal, they name the same one.
  abbrev pub NameOneProposal : Certificate C D → Certificate C D → Type 0
  NameOneProposal a b =
      IfSome (proposal_certified a) (λ p.
      IfSome (proposal_certified b) (λ q. same_proposal x.same_digest p q ≡ true))

  -- No two certificates that were given contradict each other,
  abbrev pub NoneContradict : History D K G C → Type 0
  NoneContradict past =
      (a b : Certificate C D) → IsGiven past a → IsGiven past b
      → subjects_contradict x.same_digest (subject_certified a) (subject_certified b) ≡ false

  -- and all that name a proposal name the same one.
  abbrev pub AllNameOneProposal : History D K G C → Type 0
  AllNameOneProposal past =
      (a b : Certificate C D) → IsGiven past a → IsGiven past b → NameOneProposal a b

  -- What holds of the certificates that a list of calls on a fresh round was given.
  pub record GivesSafely (past : History D K G C) : Type 0 where
    pub given_are_backed : AtEachEvent GivesBacked past
    pub given_once : AtEachEvent GivesOnce past
    pub given_are_fixed : AtEachEvent GivesFixed past
    -- At most one of each kind is given, and never both a nullification and a finalization.
    pub one_of_each_kind : (kind : Kind) → count (λ event. gives_kind kind event.1) past ≤ 1
    pub nullification_or_finalization :
        (was_given past Nullification && was_given past Finalization) ≡ false
    pub none_contradict : NoneContradict past
    pub one_proposal : AllNameOneProposal past
