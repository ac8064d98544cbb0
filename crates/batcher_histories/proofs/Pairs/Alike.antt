-- Alike histories: what a round that retains votes goes by, and one that releases them.
use Rattle.batcher_histories.proofs.Words.{◌≡◌, Bool, false, not, cond, ◌&&◌, ◌||◌, List, [], ◌∷◌, ◌++◌, map, find, filter, Option, Some, None, is_some, refl}
use Rattle.batcher_histories.proofs.Words.{ap, ◌∙◌, ⊤, option_and_then, option_or, option_map_or, filter_agree, Kind, Notarization, Nullification, Finalization}
use Rattle.batcher_histories.proofs.Words.{Proposal, Vote, Certificate, Batch, Retaining, Releasing, Answer, NetworkAnswer, OwnAnswer, CertificateAnswer}
use Rattle.batcher_histories.proofs.Words.{LeaderAnswer, ConstructAnswer, ForwardAnswer, MissingAnswer, Config, quorum_in, is_some_and, is_kind, kind_of}
use Rattle.batcher_histories.proofs.Words.{signer_of, subject_of, proposal_in, is_of_kind, is_vote_of, is_for, kind_certified, subject_certified, is_eligible}
use Rattle.batcher_histories.proofs.Words.{proposal_of, replaces, is_enough, Event, History, is_made, recorded_certificate, batch_given, certificate_given}
use Rattle.batcher_histories.proofs.Words.{own_votes, cast_votes, is_free, first_votes, own_first_votes, selection_by, forwards, leader_named, leader_of}
use Rattle.batcher_histories.proofs.Words.{certificate_of, is_certified, finalized_by, fixing_evidence, fixed_proposal, was_forwarded, leaders_proposal}
use Rattle.batcher_histories.proofs.Words.{selection, selected_proposal, replacement, is_restored, votes_restored_by, restored_votes, Trial, was_eligible}
use Rattle.batcher_histories.proofs.Words.{was_invalid, holds_vote, eligible_among, eligible_votes, is_trusted, proven_by, fresh_by, is_ready_by, ready_kind_by}
use Rattle.batcher_histories.proofs.Words.{with_batch, trial_of, trials, ready_kind, IsAlike, in_mode}

module _ {D K G C : Type 0} where
  -- histories of the same calls, answered alike
  abbrev pub AreAlike : History D K G C → History D K G C → Type 0
  AreAlike [] [] = ⊤
  AreAlike (a ∷ retained) (b ∷ released) = (a.0 ≡ b.0) × (IsAlike a.1 b.1 × AreAlike retained released)
  AreAlike retained released = ⊥

-- What a history goes by of two answers is the same.
pub record SameTold {G C D : Type 0} (a b : Answer G C D) : Type 0 where
  pub batch : batch_given a ≡ batch_given b
  pub certificate : certificate_given a ≡ certificate_given b
  pub forward : forwards a ≡ forwards b
  pub made : is_made a ≡ is_made b

module _ {G C D : Type 0} where
  pub told_alike : (a b : Answer G C D) → IsAlike a b → SameTold a b
  told_alike (NetworkAnswer a) (NetworkAnswer b) alike = record { batch = refl; certificate = refl; forward = refl; made = refl }
  told_alike (OwnAnswer outcome report) (OwnAnswer other reported) alike = record { batch = refl; certificate = refl; forward = refl; made = refl }
  told_alike (CertificateAnswer a) (CertificateAnswer b) alike = record { batch = refl; certificate = refl; forward = refl; made = refl }
  told_alike (LeaderAnswer a) (LeaderAnswer b) alike =
      record {
        batch = refl;
        certificate = refl;
        forward = refl;
        made = ap
            (λ r. is_made {G = G} {C = C} {D = D} (LeaderAnswer r)) alike;
      }
  told_alike (ConstructAnswer a) (ConstructAnswer b) alike =
      record {
        batch = alike;
        certificate = ap (λ g. certificate_given {G = G} (ConstructAnswer g))
            alike;
        forward = refl;
        made = refl;
      }
  told_alike (ForwardAnswer a) (ForwardAnswer b) alike = record { batch = refl; certificate = refl; forward = ap is_some alike; made = refl }
  told_alike (MissingAnswer a) (MissingAnswer b) alike = record { batch = refl; certificate = refl; forward = refl; made = refl }
  told_alike a b alike = absurd alike

module _ {D K G C : Type 0} where
  -- What is the same of no calls, and stays so with one more alike event, is the same of alike
  -- histories.
  pub along : {X : Type 0} (f g : History D K G C → X) → f [] ≡ g []
      → ((a b : Event D K G C) (retained released : History D K G C)
      → AreAlike (a ∷ retained) (b ∷ released) → f retained ≡ g released → f (a ∷ retained)
      ≡ g (b ∷ released))
      → (retained released : History D K G C) → AreAlike retained released → f retained ≡ g released
  along f g none more [] [] alike = none
  along f g none more [] (b ∷ released) alike = absurd alike
  along f g none more (a ∷ retained) [] alike = absurd alike
  along f g none more (a ∷ retained) (b ∷ released) alike = more a b retained released alike (along f g none more retained released alike.1.1)

  pub leader_alike : (retained released : History D K G C) → AreAlike retained released
      → leader_of retained ≡ leader_of released
  leader_alike =
      along leader_of leader_of refl
      (λ a b retained released alike same.
      ap (λ o. option_or o (leader_named a.0)) same ∙ ap (λ call. option_or (leader_of released) (leader_named call)) alike.0)

  pub forwarded_alike : (retained released : History D K G C) → AreAlike retained released
      → was_forwarded retained ≡ was_forwarded released
  forwarded_alike =
      along was_forwarded was_forwarded refl
      (λ a b retained released alike same.
      ap (λ f. f || was_forwarded retained) (told_alike a.1 b.1 alike.1.0).forward ∙ ap (λ w. forwards b.1 || w) same)

  -- the certificate and the evidence of alike events
  module _ (a b : Event D K G C) (retained released : History D K G C)
      (alike : AreAlike (a ∷ retained) (b ∷ released)) where
    certificate_alike : certificate_of a ≡ certificate_of b
    certificate_alike =
        ap (λ call. option_or (recorded_certificate call) (certificate_given a.1)) alike.0
        ∙ ap (λ g. option_or (recorded_certificate b.0) g) (told_alike a.1 b.1 alike.1.0).certificate

    evidence_alike : fixing_evidence a ≡ fixing_evidence b
    evidence_alike =
        ap (λ call. option_or (finalized_by call) (option_and_then (λ c. proposal_in (subject_certified c)) (certificate_of a))) alike.0
        ∙ ap (λ g. option_or (finalized_by b.0) (option_and_then (λ c. proposal_in (subject_certified c)) g)) certificate_alike

  pub certified_alike : (retained released : History D K G C) → AreAlike retained released
      → (kind : Kind) → is_certified retained kind ≡ is_certified released kind
  certified_alike retained released alike kind =
      along (λ past. is_certified past kind) (λ past. is_certified past kind) refl
      (λ a b retained released alike same.
      ap (λ g. is_some_and g (λ c. is_kind (kind_certified c) kind) || is_certified retained kind) (certificate_alike a b retained released alike)
      ∙ ap (λ w. is_some_and (certificate_of b) (λ c. is_kind (kind_certified c) kind) || w) same)
      retained released alike

  pub fixed_alike : (retained released : History D K G C) → AreAlike retained released
      → fixed_proposal retained ≡ fixed_proposal released
  fixed_alike =
      along fixed_proposal fixed_proposal refl
      (λ a b retained released alike same.
      ap (λ o. option_or o (fixing_evidence a)) same ∙ ap (λ e. option_or (fixed_proposal released) e) (evidence_alike a b retained released alike))

module _ {D K G C : Type 0} (x : Config D K G C) where
  -- VOTES
  pub firsts_alike : (retained released : History D K G C) → AreAlike retained released
      → first_votes (in_mode x Retaining) retained ≡ first_votes (in_mode x Releasing) released
  firsts_alike =
      along (first_votes (in_mode x Retaining)) (first_votes (in_mode x Releasing)) refl
      (λ a b retained released alike same.
      ap (λ vs. filter (is_free vs) (cast_votes x a.0) ++ vs) same
      ∙ ap (λ call. filter (is_free (first_votes (in_mode x Releasing) released)) (cast_votes x call) ++ first_votes (in_mode x Releasing) released) alike.0)

  pub own_firsts_alike : (retained released : History D K G C) → AreAlike retained released
      → own_first_votes (in_mode x Retaining) retained
      ≡ own_first_votes (in_mode x Releasing) released
  own_firsts_alike =
      along (own_first_votes (in_mode x Retaining)) (own_first_votes (in_mode x Releasing)) refl
      (λ a b retained released alike same.
      ap (λ vs. filter (is_free vs) (own_votes a.0) ++ own_first_votes (in_mode x Retaining) retained) (firsts_alike retained released alike.1.1)
      ∙ (ap (λ call. filter (is_free (first_votes (in_mode x Releasing) released)) (own_votes call) ++ own_first_votes (in_mode x Retaining) retained) alike.0
      ∙ ap (λ vs. filter (is_free (first_votes (in_mode x Releasing) released)) (own_votes b.0) ++ vs) same))

  module _ (retained released : History D K G C) (alike : AreAlike retained released) where
    -- SELECTION
    pub leaders_alike : leaders_proposal (in_mode x Retaining) retained
        ≡ leaders_proposal (in_mode x Releasing) released
    leaders_alike =
        ap (λ vs. option_and_then (λ v. proposal_in (subject_of v)) (option_and_then (λ i. find (is_vote_of Notarization i.0) vs) (leader_of retained)))
        (firsts_alike retained released alike)
        ∙ ap (λ o. option_and_then (λ v. proposal_in (subject_of v))
        (option_and_then (λ i. find (is_vote_of Notarization i.0) (first_votes (in_mode x Releasing) released)) o)) (leader_alike retained released alike)

    pub selection_alike : selection (in_mode x Retaining) retained
        ≡ selection (in_mode x Releasing) released
    selection_alike =
        ap (λ o. selection_by o (leaders_proposal (in_mode x Retaining) retained)) (fixed_alike retained released alike)
        ∙ ap (selection_by (fixed_proposal released)) leaders_alike

    pub selected_alike : selected_proposal (in_mode x Retaining) retained
        ≡ selected_proposal (in_mode x Releasing) released
    selected_alike = ap proposal_of selection_alike

    -- WAITING AND STANDING VOTES
    pub waiting_alike : (kind : Kind) (votes : List (Vote G D))
        → eligible_among (in_mode x Retaining) retained kind votes
        ≡ eligible_among (in_mode x Releasing) released kind votes
    waiting_alike kind votes =
        ap (λ c. cond (c || false) [] (filter (is_eligible x.same_digest (selected_proposal (in_mode x Retaining) retained)) votes))
        (certified_alike retained released alike kind)
        ∙ ap (λ o. cond (is_certified released kind || false) [] (filter (is_eligible x.same_digest o) votes)) selected_alike

    pub eligible_alike : (kind : Kind) → eligible_votes (in_mode x Retaining) retained kind
        ≡ eligible_votes (in_mode x Releasing) released kind
    eligible_alike kind =
        waiting_alike kind (filter (is_of_kind kind) (first_votes (in_mode x Retaining) retained))
        ∙ ap (λ vs. eligible_among (in_mode x Releasing) released kind (filter (is_of_kind kind) vs)) (firsts_alike retained released alike)

  -- a vote that is for the selected proposal counts in both

  -- REPLACEMENTS
  -- with one more alike event
  module _ (a b : Event D K G C) (retained released : History D K G C)
      (alike : AreAlike (a ∷ retained) (b ∷ released)) where
    pub replacement_alike : replacement (in_mode x Retaining) retained a
        ≡ replacement (in_mode x Releasing) released b
    replacement_alike =
        ap (λ s. option_and_then (λ p. cond (replaces x.same_digest s p) (Some p) None) (fixing_evidence a)) (selection_alike retained released alike.1.1)
        ∙ ap (option_and_then (λ p. cond (replaces x.same_digest (selection (in_mode x Releasing) released) p) (Some p) None))
        (evidence_alike a b retained released alike)

    pub back_alike : (vote : Vote G D) → is_restored (in_mode x Retaining) retained a vote
        ≡ is_restored (in_mode x Releasing) released b vote
    back_alike vote =
        ap (λ o. is_some_and o (λ p. is_for x.same_digest p vote) && not (is_certified (a ∷ retained) (kind_of vote))) replacement_alike
        ∙ ap (λ c. is_some_and (replacement (in_mode x Releasing) released b) (λ p. is_for x.same_digest p vote) && not c)
        (certified_alike (a ∷ retained) (b ∷ released) alike (kind_of vote))

    pub all_back_alike : votes_restored_by (in_mode x Retaining) retained a
        ≡ votes_restored_by (in_mode x Releasing) released b
    all_back_alike =
        filter_agree _ (is_restored (in_mode x Releasing) released b) back_alike (first_votes (in_mode x Retaining) retained)
        ∙ ap (filter (is_restored (in_mode x Releasing) released b)) (firsts_alike retained released alike.1.1)

  pub restored_alike : (retained released : History D K G C) → AreAlike retained released
      → restored_votes (in_mode x Retaining) retained
      ≡ restored_votes (in_mode x Releasing) released
  restored_alike =
      along (restored_votes (in_mode x Retaining)) (restored_votes (in_mode x Releasing)) refl
      (λ a b retained released alike same.
      ap (λ vs. vs ++ restored_votes (in_mode x Retaining) retained) (all_back_alike a b retained released alike)
      ∙ ap (λ vs. votes_restored_by (in_mode x Releasing) released b ++ vs) same)

  -- TRIALS
  module _ (retained released : History D K G C) (alike : AreAlike retained released) where
    trusted_alike : (vote : Vote G D) → is_trusted (in_mode x Retaining) retained vote
        ≡ is_trusted (in_mode x Releasing) released vote
    trusted_alike vote =
        ap (λ vs. holds_vote vs vote && not (holds_vote (restored_votes (in_mode x Retaining) retained) vote)) (own_firsts_alike retained released alike)
        ∙ ap (λ vs. holds_vote (own_first_votes (in_mode x Releasing) released) vote && not (holds_vote vs vote)) (restored_alike retained released alike)

    -- by the same trials
    proven_by_alike : (tried : List Trial) (kind : Kind)
        → proven_by (in_mode x Retaining) tried retained kind
        ≡ proven_by (in_mode x Releasing) tried released kind
    proven_by_alike tried kind =
        filter_agree _ _ (λ v. ap (λ t. (t || was_eligible tried v) && not (was_invalid tried v)) (trusted_alike v))
        (eligible_votes (in_mode x Retaining) retained kind)
        ∙ ap (filter (λ v. (is_trusted (in_mode x Releasing) released v || was_eligible tried v) && not (was_invalid tried v)))
        (eligible_alike retained released alike kind)

    fresh_by_alike : (tried : List Trial) (kind : Kind)
        → fresh_by (in_mode x Retaining) tried retained kind
        ≡ fresh_by (in_mode x Releasing) tried released kind
    fresh_by_alike tried kind =
        filter_agree _ _ (λ v. ap (λ t. not (t || was_eligible tried v)) (trusted_alike v)) (eligible_votes (in_mode x Retaining) retained kind)
        ∙ ap (filter (λ v. not (is_trusted (in_mode x Releasing) released v || was_eligible tried v))) (eligible_alike retained released alike kind)

    is_ready_alike : (tried : List Trial) (kind : Kind)
        → is_ready_by (in_mode x Retaining) tried retained kind
        ≡ is_ready_by (in_mode x Releasing) tried released kind
    is_ready_alike tried kind =
        ap (λ c. not c && enough (selected_proposal (in_mode x Retaining) retained) (proven_by (in_mode x Retaining) tried retained kind)
        (fresh_by (in_mode x Retaining) tried retained kind)) (certified_alike retained released alike kind)
        ∙ (ap (λ o. not (is_certified released kind) && enough o (proven_by (in_mode x Retaining) tried retained kind)
        (fresh_by (in_mode x Retaining) tried retained kind)) (selected_alike retained released alike)
        ∙ (ap (λ vs. not (is_certified released kind) && enough (selected_proposal (in_mode x Releasing) released) vs
        (fresh_by (in_mode x Retaining) tried retained kind)) (proven_by_alike tried kind)
        ∙ ap (λ vs. not (is_certified released kind) && enough (selected_proposal (in_mode x Releasing) released)
        (proven_by (in_mode x Releasing) tried released kind) vs) (fresh_by_alike tried kind)))
      where
        enough : Option (Proposal D) → List (Vote G D) → List (Vote G D) → Bool
        enough = is_enough x.same_digest x.meaning.batchable (quorum_in x) kind

    ready_by_alike : (tried : List Trial) → ready_kind_by (in_mode x Retaining) tried retained
        ≡ ready_kind_by (in_mode x Releasing) tried released
    ready_by_alike tried =
        ap (λ r. first_of_three r (retained_ready Nullification) (retained_ready Finalization)) (is_ready_alike tried Notarization)
        ∙ (ap (λ r. first_of_three (released_ready Notarization) r (retained_ready Finalization)) (is_ready_alike tried Nullification)
        ∙ ap (λ r. first_of_three (released_ready Notarization) (released_ready Nullification) r) (is_ready_alike tried Finalization))
      where
        first_of_three : Bool → Bool → Bool → Option Kind
        first_of_three a b c = cond a (Some Notarization) (cond b (Some Nullification) (cond c (Some Finalization) None))

        retained_ready : Kind → Bool
        retained_ready = is_ready_by (in_mode x Retaining) tried retained

        released_ready : Kind → Bool
        released_ready = is_ready_by (in_mode x Releasing) tried released

    with_batch_alike : (tried : List Trial) (given : Option (Batch (Certificate C D)))
        → with_batch (in_mode x Retaining) retained tried given
        ≡ with_batch (in_mode x Releasing) released tried given
    with_batch_alike tried None = refl
    with_batch_alike tried (Some batch) =
        ap (λ o. option_map_or (λ kind. trial_of (in_mode x Retaining) retained kind batch ∷ tried) o tried) (ready_by_alike tried)
        ∙ by (ready_kind_by (in_mode x Releasing) tried released)
      where
        by : (o : Option Kind) → option_map_or
            (λ kind. trial_of (in_mode x Retaining) retained kind batch ∷ tried) o tried
            ≡ option_map_or (λ kind. trial_of (in_mode x Releasing) released kind batch ∷ tried) o
            tried
        by None = refl
        by (Some kind) =
            ap (λ vs. (let trial : Trial = record { kind = kind; eligible = map signer_of vs; invalid = map (λ i. i.0) batch.invalid } in trial) ∷ tried)
            (eligible_alike retained released alike kind)

  pub trials_alike : (retained released : History D K G C) → AreAlike retained released
      → trials (in_mode x Retaining) retained ≡ trials (in_mode x Releasing) released
  trials_alike =
      along (trials (in_mode x Retaining)) (trials (in_mode x Releasing)) refl
      (λ a b retained released alike same.
      ap (with_batch (in_mode x Retaining) retained (trials (in_mode x Retaining) retained)) (told_alike a.1 b.1 alike.1.0).batch
      ∙ (ap (λ ts. with_batch (in_mode x Retaining) retained ts (batch_given b.1)) same
      ∙ with_batch_alike retained released alike.1.1 (trials (in_mode x Releasing) released) (batch_given b.1)))

  -- PROVEN AND FRESH VOTES
  module _ (retained released : History D K G C) (alike : AreAlike retained released) where
    pub ready_alike : ready_kind (in_mode x Retaining) retained
        ≡ ready_kind (in_mode x Releasing) released
    ready_alike =
        ap (λ ts. ready_kind_by (in_mode x Retaining) ts retained) (trials_alike retained released alike)
        ∙ ready_by_alike retained released alike (trials (in_mode x Releasing) released)
