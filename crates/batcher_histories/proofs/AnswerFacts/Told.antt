-- What answers say: which votes were added, which conflict with another, and what is selected
-- where a
-- proposal is given, handed on or recorded.
use Rattle.batcher_histories.proofs.Words.{inl, inr, ◌≡◌, ◌≢◌, ◌⊎◌, Bool, true, false, not, cond, ◌&&◌, ◌||◌, List, [], ◌∷◌, ◌++◌, Option, Some, None, Result}
use Rattle.batcher_histories.proofs.Words.{Ok, Err, refl, ap, sym, ◌∙◌, eqb, subst, is_none, IfSome, filter, option_or, list_any, and_from, false≢true}
use Rattle.batcher_histories.proofs.Words.{same_Some, and-true, Participant, Proposal, Vote, NotarizeVote, NullifyVote, FinalizeVote, Kind, Notarization}
use Rattle.batcher_histories.proofs.Words.{Nullification, Finalization, Certificate, NotarizationCertificate, NullificationCertificate, FinalizationCertificate}
use Rattle.batcher_histories.proofs.Words.{Admission, InvalidSignature, ConflictingNullify, OwnFault, ConflictingFault, Outcome, Batch, ProposalState}
use Rattle.batcher_histories.proofs.Words.{FixedProposal, Call, NetworkCall, OwnCall, CertificateCall, LeaderCall, ConstructCall, ForwardCall, MissingCall}
use Rattle.batcher_histories.proofs.Words.{Answer, OutOfMemory, NetworkAnswer, OwnAnswer, OwnRefused, CertificateAnswer, LeaderAnswer, ConstructAnswer}
use Rattle.batcher_histories.proofs.Words.{ForwardAnswer, MissingAnswer, Config, sender_in, is_some_and, kind_of, signer_of, is_vote_of, proposal_in}
use Rattle.batcher_histories.proofs.Words.{subject_certified, same_proposal, any_found, proposal_of, replaces, same_vote, refusal, block_for, mismatch_reason}
use Rattle.batcher_histories.proofs.Words.{admission_after, admission_after_facts, admission_beside, is_added, is_participant, opposite_fault, duplicate_result}
use Rattle.batcher_histories.proofs.Words.{unopposed_result, Event, History, names_sender, cast_votes, batch_given, certificate_given, history_after}
use Rattle.batcher_histories.proofs.Words.{first_votes, first_like, is_free, opposite_vote, selection, selected_proposal, leader_of, was_forwarded, is_released}
use Rattle.batcher_histories.proofs.Words.{conflicts, network_answer, certificate_answer, MayAnswer, IsPossible, IsAnswered, AreAnswered, votes_cast}
use Rattle.batcher_histories.proofs.Words.{carry_different, is_conflict, AtEachCall, added_by, votes_added, proposal_forwarded, ConflictsWithAnother}
use Rattle.batcher_histories.proofs.Words.{ConflictAnswered, GivesSelected, ForwardsSelected, ChangesNoFixed}
use Rattle.batcher_histories.proofs.History.Laws.{HasLaws}
use Rattle.batcher_histories.proofs.History.Distinct.{new_votes, found_is_of}
use Rattle.batcher_histories.proofs.Simulation.FirstVotes.{free_is}
use Rattle.batcher_histories.proofs.Simulation.Network.{added_is}
use Rattle.batcher_histories.proofs.History.Attempts.{batch_made}
use Rattle.batcher_histories.proofs.Headline.Conflicts.{conflict_with_compared}
use Rattle.batcher_histories.proofs.Quorums.Left.{given_evidence}
use Rattle.batcher_histories.proofs.Headline.Promises.{first_is_cast, compared_is_cast}
use Rattle.batcher_histories.proofs.History.ByFirst.{admission_against, admission_by_first, admission_sent_by, outcome_by_first, own_answer_against, network_is}
use Rattle.batcher_histories.proofs.History.ByFirst.{own_is}

-- WHICH BLOCKS ARE FOR A CONFLICT
abbrev is_for_conflict : {G D : Type 0} → Admission G D → Bool
is_for_conflict admission = is_some_and admission.block is_conflict

mismatch_is_none : (kind : Kind) → is_conflict (mismatch_reason kind) ≡ false
mismatch_is_none Notarization = refl
mismatch_is_none Nullification = refl
mismatch_is_none Finalization = refl

module _ {G D : Type 0} where
  conflict_unless : (p s : Bool) (block : Admission G D)
      → is_for_conflict (cond p (cond s refusal (block_for InvalidSignature None)) block) ≡ true
      → not p ≡ true
  conflict_unless true true block h = absurd (false≢true h)
  conflict_unless true false block h = absurd (false≢true h)
  conflict_unless false s block h = refl

  after_is_none : (earlier vote : Vote G D) → is_for_conflict (admission_after earlier vote) ≡ false
  after_is_none (NotarizeVote a) vote = refl
  after_is_none (NullifyVote a) (NotarizeVote b) = refl
  after_is_none (NullifyVote a) (NullifyVote b) = refl
  after_is_none (NullifyVote a) (FinalizeVote b) = refl
  after_is_none (FinalizeVote a) (NotarizeVote b) = refl
  after_is_none (FinalizeVote a) (NullifyVote b) = refl
  after_is_none (FinalizeVote a) (FinalizeVote b) = refl

  facts_are_none : (vote : Vote G D) → is_for_conflict (admission_after_facts vote) ≡ false
  facts_are_none (NotarizeVote b) = refl
  facts_are_none (NullifyVote b) = refl
  facts_are_none (FinalizeVote b) = refl

  either_none : (b : Bool) (one other : Admission G D)
      → is_for_conflict one ≡ false → is_for_conflict other ≡ false
      → is_for_conflict (cond b one other) ≡ false
  either_none true one other e f = e
  either_none false one other e f = f

module _ {G D : Type 0} (same : D → D → Bool) (equal : G → G → Bool) where
  -- beside the kept vote of its kind a vote conflicts where their proposals differ
  beside_conflict : (kept vote : Vote G D)
      → is_for_conflict (admission_beside same equal kept vote) ≡ true
      → carry_different same kept vote ≡ true
  beside_conflict (NotarizeVote a) (NotarizeVote b) h = conflict_unless (same_proposal same a.proposal b.proposal) _ _ h
  beside_conflict (NotarizeVote a) (NullifyVote b) h = absurd (false≢true h)
  beside_conflict (NotarizeVote a) (FinalizeVote b) h = absurd (false≢true h)
  beside_conflict (NullifyVote a) (NotarizeVote b) h = absurd (false≢true h)
  beside_conflict (NullifyVote a) (NullifyVote b) h =
      absurd (false≢true
      (sym (either_none (same_vote same equal (NullifyVote a) (NullifyVote b)) refusal (block_for ConflictingNullify None) refl refl) ∙ h))
  beside_conflict (NullifyVote a) (FinalizeVote b) h = absurd (false≢true h)
  beside_conflict (FinalizeVote a) (NotarizeVote b) h = absurd (false≢true h)
  beside_conflict (FinalizeVote a) (NullifyVote b) h = absurd (false≢true h)
  beside_conflict (FinalizeVote a) (FinalizeVote b) h = conflict_unless (same_proposal same a.proposal b.proposal) _ _ h

-- EACH CONFLICT IS WITH ANOTHER VOTE
module _ {D K G C : Type 0} (x : Config D K G C) (laws : HasLaws x) where
  abbrev differs : Vote G D → Vote G D → Bool
  differs vote v = is_vote_of (kind_of vote) (signer_of vote) v && carry_different x.same_digest v vote

  abbrev HasOther : History D K G C → Vote G D → Type 0
  HasOther past vote = list_any (differs vote) (votes_cast x past) ≡ true

  conflict_has_other : (past : History D K G C) (vote : Vote G D) → conflicts x past vote ≡ true
      → HasOther past vote
  conflict_has_other past vote c = compared_is_cast x (differs vote) past (conflict_with_compared x laws past vote c)

  other_by_first : (past : History D K G C) (vote : Vote G D) (first : Option (Vote G D))
      (released conflict : Bool)
      → first_like x past vote ≡ first → conflicts x past vote ≡ conflict
      → is_for_conflict (admission_by_first x first released conflict vote) ≡ true
      → HasOther past vote
  other_by_first past vote None released conflict e c h = absurd (false≢true h)
  other_by_first past vote (Some kept) false conflict e c h =
      first_is_cast x (differs vote) past
      (any_found (is_vote_of (kind_of vote) (signer_of vote)) (differs vote) (first_votes x past) kept e
      (and_from _ _ (found_is_of (first_votes x past) (kind_of vote) (signer_of vote) kept e)
      (beside_conflict x.same_digest x.same_signature kept vote h)))
  other_by_first past vote (Some seen) true true e c h = conflict_has_other past vote c
  other_by_first past vote (Some seen) true false e c h = absurd (false≢true h)

  other_against : (past : History D K G C) (vote : Vote G D) (opposite : Option (Vote G D))
      → is_for_conflict (admission_against x past opposite vote) ≡ true → HasOther past vote
  other_against past vote (Some earlier) h =
      absurd (false≢true
      (sym (either_none (is_released x past (kind_of earlier)) (admission_after_facts vote) (admission_after earlier vote)
      (facts_are_none vote) (after_is_none earlier vote)) ∙ h))
  other_against past vote None h =
      other_by_first past vote (first_like x past vote) (is_released x past (kind_of vote)) (conflicts x past vote) refl refl h

  -- a network vote: it names its sender, and another one differs
  other_sent : (past : History D K G C) (vote : Vote G D) (index : Option Participant)
      → is_for_conflict (admission_sent_by x past index vote) ≡ true
      → (is_some_and index (λ i. eqb i.0 (signer_of vote)) ≡ true) × HasOther past vote
  other_sent past vote None h = absurd (false≢true h)
  other_sent past vote (Some i) h = by_name (eqb i.0 (signer_of vote)) h
    where
      by_name : (b : Bool)
          → is_for_conflict (cond b (admission_against x past (opposite_vote x past vote) vote)
          (block_for (mismatch_reason (kind_of vote)) None)) ≡ true
          → (b ≡ true) × HasOther past vote
      by_name true blocked = (refl, other_against past vote (opposite_vote x past vote) blocked)
      by_name false blocked = absurd (false≢true (sym (mismatch_is_none (kind_of vote)) ∙ blocked))

  casts_it : (sender : K) (vote : Vote G D) → names_sender x sender vote ≡ true
      → cast_votes x (NetworkCall sender vote) ≡ vote ∷ []
  casts_it sender vote named = rw named refl

  if_marked : {X : Type 0} (b : Bool) (v : X) (P : X → Type 0) → (b ≡ true → P v)
      → IfSome (cond b (Some v) None) P
  if_marked true v P h = h refl
  if_marked false v P h = tt

  network_conflicts : (past : History D K G C) (sender : K) (vote : Vote G D)
      (admission : Admission G D)
      → admission ≡ network_answer x past sender vote
      → ConflictsWithAnother x past (NetworkCall sender vote) (NetworkAnswer admission)
  network_conflicts past sender vote admission is =
      if_marked (is_for_conflict admission) vote
      (λ v. (cast_votes x (NetworkCall sender vote) ≡ v ∷ []) × (list_any (differs v) (votes_cast x past) ≡ true))
      (λ blocked.
      let both = other_sent past vote (sender_in x sender) (ap is_for_conflict (sym (is ∙ network_is x past vote sender)) ∙ blocked) in
      (casts_it sender vote both.0, both.1))

  -- an own vote, which its call casts in any case
  opposed_otherwise : (kind : Kind) → opposite_fault kind ≢ ConflictingFault
  opposed_otherwise Notarization h = absurd (cc)
  opposed_otherwise Nullification h = absurd (cc)
  opposed_otherwise Finalization h = absurd (cc)

  duplicate_otherwise : (kind : Kind) → duplicate_result kind ≢ Err ConflictingFault
  duplicate_otherwise Notarization h = absurd (cc)
  duplicate_otherwise Nullification h = absurd (cc)
  duplicate_otherwise Finalization h = absurd (cc)

  own_by_first : (kind : Kind) (first : Option (Vote G D)) (released conflict : Bool)
      → unopposed_result kind (outcome_by_first x first released conflict) ≡ Err ConflictingFault
      → conflict ≡ true
  own_by_first kind None released conflict h = absurd (cc)
  own_by_first kind (Some kept) false conflict h = absurd (duplicate_otherwise kind h)
  own_by_first kind (Some seen) true true h = refl
  own_by_first kind (Some seen) true false h = absurd (cc)

  same_fault : {X : Type 0} (r : Result X OwnFault) (a b : OwnFault) → r ≡ Err a → r ≡ Err b → a ≡ b
  same_fault r a b e h = cc

  own_conflicts : (past : History D K G C) (vote : Vote G D) (opposite : Option (Vote G D))
      → own_answer_against x past opposite vote ≡ Err ConflictingFault → HasOther past vote
  own_conflicts past vote (Some earlier) h = absurd (opposed_otherwise (kind_of vote) (same_fault (own_answer_against x past (Some earlier) vote) _ _ refl h))
  own_conflicts past vote None h =
      conflict_has_other past vote
      (own_by_first (kind_of vote) (first_like x past vote) (is_released x past (kind_of vote)) (conflicts x past vote) h)

  conflict_made : (past : History D K G C) (call : Call K G C D) (answer : Answer G C D)
      → MayAnswer x past call answer → ConflictsWithAnother x past call answer
  conflict_made past (NetworkCall sender vote) (NetworkAnswer admission) may =
      network_conflicts past sender vote admission may
  conflict_made past (OwnCall vote) (OwnRefused ConflictingFault) may =
      (refl, own_conflicts past vote (opposite_vote x past vote) (sym (own_is x past vote) ∙ may))
  conflict_made past call answer may = tt

  pub conflict_answered_so : (past : History D K G C) (event : Event D K G C)
      → IsPossible x (event ∷ past) → ConflictAnswered x past event
  conflict_answered_so past event possible = conflict_made past event.0 event.1 possible.1.1.0

  conflicts_with_another : (past : History D K G C) (call : Call K G C D) (answer : Answer G C D)
      → IsAnswered x past call answer → ConflictsWithAnother x past call answer
  conflicts_with_another past (NetworkCall sender vote) (NetworkAnswer admission) is =
      network_conflicts past sender vote admission is
  conflicts_with_another past (OwnCall vote) (OwnRefused ConflictingFault) is =
      (refl, own_conflicts past vote (opposite_vote x past vote) (sym (own_is x past vote) ∙ is))
  conflicts_with_another past call answer is = tt

  pub answered_conflicts : (past : History D K G C) (calls : List (Call K G C D))
      (answers : List (Answer G C D))
      → AreAnswered x past calls answers → AtEachCall (ConflictsWithAnother x) past calls answers
  answered_conflicts past [] [] are = tt
  answered_conflicts past [] (answer ∷ answers) are = absurd are
  answered_conflicts past (call ∷ calls) [] are = absurd are
  answered_conflicts past (call ∷ calls) (answer ∷ answers) are =
      (conflicts_with_another past call answer are.0, answered_conflicts (history_after past call answer) calls answers are.1)

-- WHICH VOTES ARE ADDED
module _ {D K G C : Type 0} (x : Config D K G C) where
  added_alone : (p : Vote G D → Bool) (vote : Vote G D) (named : Bool)
      → cond (named && p vote) (vote ∷ []) [] ≡ filter p (cond named (vote ∷ []) [] ++ [])
  added_alone p vote true = refl
  added_alone p vote false = refl

  outcome_added : (kind : Kind) (first : Option (Vote G D)) (released conflict : Bool)
      (outcome : Outcome)
      → unopposed_result kind (outcome_by_first x first released conflict) ≡ Ok outcome
      → is_added outcome ≡ is_none first
  outcome_added kind None released conflict outcome h = ap added_if (sym h)
    where
      added_if : Result Outcome OwnFault → Bool
      added_if (Ok o) = is_added o
      added_if (Err fault) = true
  outcome_added kind (Some kept) false conflict outcome h = by_kind kind h
    where
      by_kind : (k : Kind) → duplicate_result k ≡ Ok outcome → is_added outcome ≡ false
      by_kind Notarization e = absurd (cc)
      by_kind Nullification e = ap added_if (sym e)
        where
          added_if : Result Outcome OwnFault → Bool
          added_if (Ok o) = is_added o
          added_if (Err fault) = false
      by_kind Finalization e = absurd (cc)
  outcome_added kind (Some seen) true true outcome h = absurd (cc)
  outcome_added kind (Some seen) true false outcome h = ap added_if (sym h)
    where
      added_if : Result Outcome OwnFault → Bool
      added_if (Ok o) = is_added o
      added_if (Err fault) = false

  pub own_added : (past : History D K G C) (vote : Vote G D) (opposite : Option (Vote G D))
      (outcome : Outcome) → own_answer_against x past opposite vote ≡ Ok outcome
      → is_added outcome ≡ (is_none (first_like x past vote) && is_none opposite)
  own_added past vote (Some earlier) outcome h = absurd (cc)
  own_added past vote None outcome h =
      outcome_added (kind_of vote) (first_like x past vote) (is_released x past (kind_of vote)) (conflicts x past vote) outcome h
      ∙ sym (and-true (is_none (first_like x past vote)))

  adds_new : (past : History D K G C) (event : Event D K G C) → IsPossible x (event ∷ past)
      → added_by event ≡ new_votes x past event
  adds_new past (NetworkCall sender vote, NetworkAnswer admission) possible =
      ap (λ (b : Bool). cond b (vote ∷ []) []) (ap (λ (a : Admission G D). a.added) possible.1.1.0 ∙ added_is x past sender vote)
      ∙ added_alone (is_free (first_votes x past)) vote (names_sender x sender vote)
  adds_new past (OwnCall vote, OwnAnswer outcome report) possible =
      ap (λ (b : Bool). cond b (vote ∷ []) [])
      (own_added past vote (opposite_vote x past vote) outcome (sym (own_is x past vote) ∙ possible.1.1.0.0) ∙ sym (free_is (first_votes x past) vote))
      ∙ added_alone (is_free (first_votes x past)) vote true
  adds_new past (NetworkCall sender vote, OwnAnswer outcome report) possible = absurd possible.1.1.0
  adds_new past (NetworkCall sender vote, OwnRefused fault) possible = absurd possible.1.1.0
  adds_new past (NetworkCall sender vote, CertificateAnswer changed) possible = absurd possible.1.1.0
  adds_new past (NetworkCall sender vote, LeaderAnswer result) possible = absurd possible.1.1.0
  adds_new past (NetworkCall sender vote, ConstructAnswer batch) possible = absurd possible.1.1.0
  adds_new past (NetworkCall sender vote, ForwardAnswer proposal) possible = absurd possible.1.1.0
  adds_new past (NetworkCall sender vote, MissingAnswer missing) possible = absurd possible.1.1.0
  adds_new past (NetworkCall sender vote, OutOfMemory) possible = absurd possible.1.1.0
  adds_new past (OwnCall vote, NetworkAnswer admission) possible = absurd possible.1.1.0
  adds_new past (OwnCall vote, OwnRefused fault) possible = absurd (false≢true possible.1.0)
  adds_new past (OwnCall vote, CertificateAnswer changed) possible = absurd possible.1.1.0
  adds_new past (OwnCall vote, LeaderAnswer result) possible = absurd possible.1.1.0
  adds_new past (OwnCall vote, ConstructAnswer batch) possible = absurd possible.1.1.0
  adds_new past (OwnCall vote, ForwardAnswer proposal) possible = absurd possible.1.1.0
  adds_new past (OwnCall vote, MissingAnswer missing) possible = absurd possible.1.1.0
  adds_new past (OwnCall vote, OutOfMemory) possible = absurd possible.1.1.0
  adds_new past (CertificateCall certificate, answer) possible = refl
  adds_new past (LeaderCall leader, answer) possible = refl
  adds_new past (ConstructCall, answer) possible = refl
  adds_new past (ForwardCall me, answer) possible = refl
  adds_new past (MissingCall p, answer) possible = refl

  -- The votes that are answered as added are the first votes.
  pub added_are : (past : History D K G C) → IsPossible x past → votes_added past
      ≡ first_votes x past
  added_are [] possible = refl
  added_are (event ∷ past) possible = rw (adds_new past event possible, added_are past possible.1.1.1) refl

-- WHAT IS GIVEN IS SELECTED
pub if_some : {X : Type 0} (o : Option X) (P : X → Type 0) → ((v : X) → o ≡ Some v → P v)
    → IfSome o P
if_some None P h = tt
if_some (Some v) P h = h v refl

pub batch_with : {G C D : Type 0} (answer : Answer G C D) (c : Certificate C D)
    → certificate_given answer ≡ Some c
    → (batch : Batch (Certificate C D)) × (batch_given answer ≡ Some batch)
    × (batch.certificate ≡ Some c)
batch_with (ConstructAnswer (Some batch)) c h = (batch, refl, h)
batch_with (ConstructAnswer None) c h = absurd (cc)
batch_with (NetworkAnswer a) c h = absurd (cc)
batch_with (OwnAnswer a b) c h = absurd (cc)
batch_with (OwnRefused a) c h = absurd (cc)
batch_with (CertificateAnswer a) c h = absurd (cc)
batch_with (LeaderAnswer a) c h = absurd (cc)
batch_with (ForwardAnswer a) c h = absurd (cc)
batch_with (MissingAnswer a) c h = absurd (cc)
batch_with OutOfMemory c h = absurd (cc)

module _ {D : Type 0} where
  -- what is selected, or else the proposal, is the proposal
  selected_or : (o : Option (Proposal D)) (p : Proposal D) → (o ≡ None) ⊎ (o ≡ Some p)
      → option_or o (Some p) ≡ Some p
  selected_or o p (inl h) = ap (λ s. option_or s (Some p)) h
  selected_or o p (inr h) = ap (λ s. option_or s (Some p)) h

  evidence_some : (e s : Option (Proposal D)) (p : Proposal D) → e ≡ Some p
      → (e ≡ None) ⊎ ((q : Proposal D) × ((e ≡ Some q) × ((s ≡ None) ⊎ (s ≡ Some q)))) → (s ≡ None)
      ⊎ (s ≡ Some p)
  evidence_some e s p is (inl none) = absurd (cc)
  evidence_some e s p is (inr some) =
      let same : some.0 ≡ p = same_Some some.0 p (sym some.1.0 ∙ is) in
      subst (λ (q : Proposal D). (s ≡ None) ⊎ (s ≡ Some q)) same some.1.1

module _ {D K G C : Type 0} (x : Config D K G C) where
  -- A certificate that is given is for the selected proposal.
  pub gives_selected : HasLaws x → (past : History D K G C) (event : Event D K G C)
      → IsPossible x (event ∷ past) → GivesSelected x past event
  gives_selected laws past event possible =
      if_some (certificate_given event.1)
      (λ c. IfSome (proposal_in (subject_certified c)) (λ p. option_or (selected_proposal x past) (Some p) ≡ Some p)) (λ c h.
      if_some (proposal_in (subject_certified c)) (λ p. option_or (selected_proposal x past) (Some p) ≡ Some p) (λ p is.
      let b = batch_with event.1 c h in
      let made = batch_made x past event.0 event.1 b.0 possible.1.1.0 b.1 in
      selected_or (selected_proposal x past) p
      (evidence_some (proposal_in (subject_certified c)) (selected_proposal x past) p is
      (given_evidence x laws past made.kind b.0 c made.after b.2))))

  -- What is forwarded is the selected proposal.
  unless : (b : Bool) (o : Option (Proposal D)) → IfSome (cond b None o) (λ p. o ≡ Some p)
  unless true o = tt
  unless false None = tt
  unless false (Some p) = refl

  forwarded_is : (past : History D K G C) (call : Call K G C D) (answer : Answer G C D)
      → MayAnswer x past call answer
      → IfSome (proposal_forwarded answer) (λ p. selected_proposal x past ≡ Some p)
  forwarded_is past (ForwardCall me) (ForwardAnswer proposal) may =
      subst (λ (o : Option (Proposal D)). IfSome o (λ p. selected_proposal x past ≡ Some p)) (sym may)
      (unless (was_forwarded past || is_participant (leader_of past) me) (selected_proposal x past))
  forwarded_is past (NetworkCall sender vote) (ForwardAnswer proposal) may = absurd may
  forwarded_is past (OwnCall vote) (ForwardAnswer proposal) may = absurd may
  forwarded_is past (CertificateCall certificate) (ForwardAnswer proposal) may = absurd may
  forwarded_is past (LeaderCall leader) (ForwardAnswer proposal) may = absurd may
  forwarded_is past ConstructCall (ForwardAnswer proposal) may = absurd may
  forwarded_is past (MissingCall p) (ForwardAnswer proposal) may = absurd may
  forwarded_is past call (NetworkAnswer admission) may = tt
  forwarded_is past call (OwnAnswer outcome report) may = tt
  forwarded_is past call (OwnRefused fault) may = tt
  forwarded_is past call (CertificateAnswer changed) may = tt
  forwarded_is past call (LeaderAnswer result) may = tt
  forwarded_is past call (ConstructAnswer batch) may = tt
  forwarded_is past call (MissingAnswer missing) may = tt
  forwarded_is past call OutOfMemory may = tt

  pub forwards_selected : (past : History D K G C) (event : Event D K G C)
      → IsPossible x (event ∷ past) → ForwardsSelected x past event
  forwards_selected past event possible = forwarded_is past event.0 event.1 possible.1.1.0

  -- Where a proposal is fixed no recorded certificate changes it.
  none_changes : (past : History D K G C) (p : Proposal D) (c : Certificate C D)
      → selection x past ≡ FixedProposal p → certificate_answer x past c ≡ false
  none_changes past p (NotarizationCertificate c) fixed =
      ap (λ (s : ProposalState D). is_none (proposal_of s) || replaces x.same_digest s c.proposal) fixed
  none_changes past p (NullificationCertificate c) fixed = refl
  none_changes past p (FinalizationCertificate c) fixed = refl

  changed_by : (past : History D K G C) (call : Call K G C D) (answer : Answer G C D)
      (p : Proposal D)
      → MayAnswer x past call answer → selection x past ≡ FixedProposal p
      → answer ≢ CertificateAnswer true
  changed_by past (CertificateCall c) (CertificateAnswer changed) p may fixed is =
      let none : changed ≡ false = may ∙ none_changes past p c fixed in absurd (cc)
  changed_by past (NetworkCall sender vote) (CertificateAnswer changed) p may fixed is = absurd may
  changed_by past (OwnCall vote) (CertificateAnswer changed) p may fixed is = absurd may
  changed_by past (LeaderCall leader) (CertificateAnswer changed) p may fixed is = absurd may
  changed_by past ConstructCall (CertificateAnswer changed) p may fixed is = absurd may
  changed_by past (ForwardCall me) (CertificateAnswer changed) p may fixed is = absurd may
  changed_by past (MissingCall q) (CertificateAnswer changed) p may fixed is = absurd may
  changed_by past call (NetworkAnswer admission) p may fixed is = absurd (cc)
  changed_by past call (OwnAnswer outcome report) p may fixed is = absurd (cc)
  changed_by past call (OwnRefused fault) p may fixed is = absurd (cc)
  changed_by past call (ForwardAnswer proposal) p may fixed is = absurd (cc)
  changed_by past call (LeaderAnswer result) p may fixed is = absurd (cc)
  changed_by past call (ConstructAnswer batch) p may fixed is = absurd (cc)
  changed_by past call (MissingAnswer missing) p may fixed is = absurd (cc)
  changed_by past call OutOfMemory p may fixed is = absurd (cc)

  pub changes_no_fixed : (past : History D K G C) (event : Event D K G C)
      → IsPossible x (event ∷ past) → ChangesNoFixed x past event
  changes_no_fixed past event possible p fixed = changed_by past event.0 event.1 p possible.1.1.0 fixed
