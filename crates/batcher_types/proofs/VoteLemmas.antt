-- Rounds, proposals and subjects that are the same by a test are equal, and each is the same as itself.
use Rattle.batcher_types.proofs.Words.{◌≡◌, ◌==◌, ◌&&◌, ℕ, Bool, true, refl, ap, ◌∙◌, and_parts, and_from, eqb-true, eq-eqb, Round, Proposal, Subject}
use Rattle.batcher_types.proofs.Words.{NotarizeSubject, NullifySubject, FinalizeSubject, same_round, same_proposal, same_subject}

pub same_round-true : (a b : Round) → same_round a b ≡ true → a ≡ b
same_round-true a b h =
    let parts = and_parts (a.epoch.0 == b.epoch.0) (a.view.0 == b.view.0) h in
    let epoch = eqb-true a.epoch.0 b.epoch.0 parts.0 in
    let view = eqb-true a.view.0 b.view.0 parts.1 in
    let made : ℕ → ℕ → Round = λ e v. record { epoch = record { 0 = e }; view = record { 0 = v } } in
    ap (λ e. made e a.view.0) epoch ∙ ap (λ v. made b.epoch.0 v) view

module _ {D : Type 0} (same : D → D → Bool) (identical : (a b : D) → same a b ≡ true → a ≡ b) where
  pub same_proposal-true : (a b : Proposal D) → same_proposal same a b ≡ true → a ≡ b
  same_proposal-true a b h =
      let parts = and_parts (same_round a.round b.round) ((a.parent.0 == b.parent.0) && same a.payload b.payload) h in
      let rest = and_parts (a.parent.0 == b.parent.0) (same a.payload b.payload) parts.1 in
      let round = same_round-true a.round b.round parts.0 in
      let parent = eqb-true a.parent.0 b.parent.0 rest.0 in
      let payload = identical a.payload b.payload rest.1 in
      let made : Round → ℕ → D → Proposal D = λ r v d. record { round = r; parent = record { 0 = v }; payload = d } in
      ap (λ r. made r a.parent.0 a.payload) round ∙ (ap (λ v. made b.round v a.payload) parent ∙ ap (λ d. made b.round b.parent.0 d) payload)

  pub same_subject-true : (s t : Subject D) → same_subject same s t ≡ true → s ≡ t
  same_subject-true (NotarizeSubject p) (NotarizeSubject r) h = ap NotarizeSubject (same_proposal-true p r h)
  same_subject-true (NotarizeSubject p) (NullifySubject r) h = absurd (cc)
  same_subject-true (NotarizeSubject p) (FinalizeSubject r) h = absurd (cc)
  same_subject-true (NullifySubject p) (NotarizeSubject r) h = absurd (cc)
  same_subject-true (NullifySubject p) (NullifySubject r) h = ap NullifySubject (same_round-true p r h)
  same_subject-true (NullifySubject p) (FinalizeSubject r) h = absurd (cc)
  same_subject-true (FinalizeSubject p) (NotarizeSubject r) h = absurd (cc)
  same_subject-true (FinalizeSubject p) (NullifySubject r) h = absurd (cc)
  same_subject-true (FinalizeSubject p) (FinalizeSubject r) h = ap FinalizeSubject (same_proposal-true p r h)

pub same_round-refl : (r : Round) → same_round r r ≡ true
same_round-refl r = and_from (r.epoch.0 == r.epoch.0) (r.view.0 == r.view.0) (eq-eqb _ _ refl) (eq-eqb _ _ refl)

module _ {D : Type 0} (same : D → D → Bool) (reflexive : (d : D) → same d d ≡ true) where
  pub same_proposal-refl : (p : Proposal D) → same_proposal same p p ≡ true
  same_proposal-refl p =
      and_from (same_round p.round p.round) ((p.parent.0 == p.parent.0) && same p.payload p.payload) (same_round-refl p.round)
      (and_from (p.parent.0 == p.parent.0) (same p.payload p.payload) (eq-eqb _ _ refl) (reflexive p.payload))

  pub same_subject-refl : (s : Subject D) → same_subject same s s ≡ true
  same_subject-refl (NotarizeSubject p) = same_proposal-refl p
  same_subject-refl (NullifySubject r) = same_round-refl r
  same_subject-refl (FinalizeSubject p) = same_proposal-refl p
