-- What a certificate is about that is made for a subject.
use Rattle.batcher_votes.proofs.Words.{◌≡◌, ◌∙◌, Option, Some, None, refl, sym, ap, none-some, option_map, Certificate, Subject, NotarizeSubject}
use Rattle.batcher_votes.proofs.Words.{NullifySubject, FinalizeSubject, subject_certified, certificate_for}

module _ {C D : Type 0} where
  pub certified_subject : (subject : Subject D) (content : C)
      → subject_certified (certificate_for subject content) ≡ subject
  certified_subject (NotarizeSubject p) content = refl
  certified_subject (NullifySubject r) content = refl
  certified_subject (FinalizeSubject p) content = refl

  -- the same of one that an attempt gave
  pub made_about : (subject : Subject D) (given : Option C) (certificate : Certificate C D)
      → option_map (certificate_for subject) given ≡ Some certificate
      → subject_certified certificate ≡ subject
  made_about subject None certificate made = absurd (none-some certificate made)
  made_about subject (Some content) certificate made =
      let same : certificate_for subject content ≡ certificate = cc in
      ap subject_certified (sym same) ∙ certified_subject subject content
