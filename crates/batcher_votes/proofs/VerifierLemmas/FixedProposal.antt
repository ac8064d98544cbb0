-- A proposal that is fixed stays so, and no other takes its place.
use Rattle.batcher_votes.proofs.Words.{◌≡◌, ◌∙◌, true, Option, Some, None, is_some, refl, sym, ap, none-some, option_map, Round, Proposal, Subject}
use Rattle.batcher_votes.proofs.Words.{FinalizeSubject, Certificate, NotarizationCertificate, NullificationCertificate, FinalizationCertificate, Kind}
use Rattle.batcher_votes.proofs.Words.{Notarization, Nullification, Finalization, ProposalState, Unknown, LeadersProposal, FixedProposal, is_kind, proposal_in}
use Rattle.batcher_votes.proofs.Words.{kind_certified, subject_certified, is_fixed, selects, fixes, subject_from, certificate_for}
use Rattle.batcher_votes.proofs.VerifierLemmas.Certificates.{made_about}

module _ {D : Type 0} where
  pub selects_fixed : (state : ProposalState D) (o : Option (Proposal D)) → is_fixed state ≡ true
      → is_fixed (selects state o) ≡ true
  selects_fixed Unknown o h = absurd (cc)
  selects_fixed (LeadersProposal p) o h = absurd (cc)
  selects_fixed (FixedProposal p) None h = refl
  selects_fixed (FixedProposal p) (Some q) h = refl

  pub fixes_fixed : (state : ProposalState D) (o : Option (Proposal D)) → is_fixed state ≡ true
      → is_fixed (fixes state o) ≡ true
  fixes_fixed Unknown o h = absurd (cc)
  fixes_fixed (LeadersProposal p) o h = absurd (cc)
  fixes_fixed (FixedProposal p) None h = refl
  fixes_fixed (FixedProposal p) (Some q) h = refl

  pub fixes_any : (state : ProposalState D) (o : Option (Proposal D)) → is_some o ≡ true
      → is_fixed (fixes state o) ≡ true
  fixes_any state None h = absurd (cc)
  fixes_any Unknown (Some p) h = refl
  fixes_any (LeadersProposal q) (Some p) h = refl
  fixes_any (FixedProposal q) (Some p) h = refl

  -- a finalization is for a proposal
  pub finalization_for : {C : Type 0} (certificate : Certificate C D)
      → is_kind (kind_certified certificate) Finalization ≡ true
      → is_some (proposal_in (subject_certified certificate)) ≡ true
  finalization_for (NotarizationCertificate it) h = refl
  finalization_for (NullificationCertificate it) h = absurd (cc)
  finalization_for (FinalizationCertificate it) h = refl

  subject_for : (number : Round) (o : Option (Proposal D)) (subject : Subject D)
      → subject_from Finalization number o ≡ Some subject → is_some (proposal_in subject) ≡ true
  subject_for number None subject h = absurd (none-some subject h)
  subject_for number (Some p) subject h =
      let same : FinalizeSubject p ≡ subject = cc in
      ap (λ s. is_some (proposal_in s)) (sym same)

  module _ {C : Type 0} where
    -- what is made of an attempt at a finalization is for a proposal
    pub made_for : (tried : Kind) (number : Round) (o : Option (Proposal D)) (subject : Subject D)
        (given : Option C) (certificate : Certificate C D) → subject_from tried number o
        ≡ Some subject
        → option_map (certificate_for subject) given ≡ Some certificate → is_kind tried Finalization
        ≡ true → is_some (proposal_in (subject_certified certificate)) ≡ true
    made_for Notarization number o subject given certificate about made h = absurd (cc)
    made_for Nullification number o subject given certificate about made h = absurd (cc)
    made_for Finalization number o subject given certificate about made h =
        ap (λ s. is_some (proposal_in s)) (made_about subject given certificate made) ∙ subject_for number o subject about
