-- Votes that wait for a certificate, kept as runs of one subject and their attestations.
use Rattle.std.specs.Prelude.{ℕ, suc, Bool, true, cond, List, [], ◌∷◌, ◌++◌, replicate, take, drop}
use Rattle.std.specs.List.{list_all}
use Rattle.batcher_types.specs.declared.messages.Attestation.{Attestation}
use Rattle.batcher_types.specs.declared.messages.Proposal.{Proposal}
use Rattle.batcher_types.specs.declared.messages.Subject.{Subject}
use Rattle.batcher_types.specs.declared.messages.Subject.TheVariants.{Notarize as NotarizeSubject}
use Rattle.batcher_types.specs.declared.messages.Subject.TheVariants.{Nullify as NullifySubject}
use Rattle.batcher_types.specs.declared.messages.Subject.TheVariants.{Finalize as FinalizeSubject}
use Rattle.batcher_types.specs.declared.messages.Vote.{Vote}
use Rattle.batcher_votes.specs.declared.verifier.buffer.Run.{Run}
use Rattle.batcher_votes.specs.VerifierSteps.{vote_for}
use Rattle.batcher_types.specs.Votes.{same_proposal, same_subject}

-- the votes in a buffer, with room for so many more, and for so many more of one subject
pub record BufferView (G D : Type 0) : Type 0 where
  pub votes : List (Vote G D)
  pub room : ℕ
  pub room_for_run : ℕ

-- the votes of these subjects and attestations, one by one
abbrev pub votes_from : {G D : Type 0} → List (Subject D) → List (Attestation G) → List (Vote G D)
votes_from [] attestations = []
votes_from (s ∷ subjects) [] = []
votes_from (s ∷ subjects) (a ∷ attestations) = vote_for s a ∷ votes_from subjects attestations

-- whether votes with the subject wait where the proposal is selected
abbrev pub may_be_eligible : {D : Type 0} → (D → D → Bool) → Proposal D → Subject D → Bool
may_be_eligible same p (NotarizeSubject q) = same_proposal same p q
may_be_eligible same p (NullifySubject r) = true
may_be_eligible same p (FinalizeSubject q) = same_proposal same p q

-- whether all subjects are the first one
abbrev pub one_subject : {D : Type 0} → (D → D → Bool) → List (Subject D) → Bool
one_subject same [] = true
one_subject same (s ∷ subjects) = list_all (λ t. same_subject same s t) subjects

-- what each vote of the runs is about, one by one
abbrev pub subjects_of_runs : {D : Type 0} → List (Run D) → List (Subject D)
subjects_of_runs [] = []
subjects_of_runs (run ∷ runs) = run.subject ∷
    (replicate run.more run.subject ++ subjects_of_runs runs)

-- whether all runs have the subject of the first
abbrev pub one_subject_in : {D : Type 0} → (D → D → Bool) → List (Run D) → Bool
one_subject_in same [] = true
one_subject_in same (first ∷ runs) =
    list_all (λ run. same_subject same first.subject run.subject) runs

-- the attestations of the runs that wait where the proposal is selected
abbrev pub retained_attestations : {G D : Type 0} → (D → D → Bool) → Proposal D → List (Run D)
    → List (Attestation G) → List (Attestation G)
retained_attestations same p [] attestations = []
retained_attestations same p (run ∷ runs) attestations =
    cond (may_be_eligible same p run.subject) (take (suc run.more) attestations) []
    ++ retained_attestations same p runs (drop (suc run.more) attestations)
