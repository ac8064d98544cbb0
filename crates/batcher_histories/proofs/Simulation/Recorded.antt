-- A recorded certificate is followed: it completes its kind, fixes its proposal, and releases the
-- votes of its kind.
use Rattle.batcher_histories.proofs.Words.{◌≡◌, Bool, true, false, not, cond, ◌&&◌, ◌||◌, List, [], ◌∷◌, ◌++◌, Option, Some, None, refl, ap, sym, ◌∙◌, subst}
use Rattle.batcher_histories.proofs.Words.{filter, is_some, is_none, option_or, or_parts, or_right, or_left, append-nil, Proposal, Vote, Kind, Notarization}
use Rattle.batcher_histories.proofs.Words.{Certificate, NotarizationCertificate, NullificationCertificate, FinalizationCertificate, ProposalState, Unknown}
use Rattle.batcher_histories.proofs.Words.{LeadersProposal, FixedProposal, CertificateCall, CertificateAnswer, Config, is_kind, kind_certified}
use Rattle.batcher_histories.proofs.Words.{subject_certified, proposal_in, has_proposals, is_eligible, filter_none, first_only, same_proposal-refl}
use Rattle.batcher_histories.proofs.Words.{is_kind-true, proposal_of, updated, replaces, same_selected, of_kind, RoundState, is_skipped, still_eligible}
use Rattle.batcher_histories.proofs.Words.{restored_by_fix, FixesProposal, MayFix, AfterCertificate, MayCall, Event, History, selection_by, selection}
use Rattle.batcher_histories.proofs.Words.{selected_proposal, leader_of, is_certified, fixed_proposal, leaders_proposal, is_restored, eligible_among}
use Rattle.batcher_histories.proofs.Words.{certificate_answer, Represents, Simulates, pending_after, verified_after}
use Rattle.batcher_histories.proofs.KnownLemmas.Named.{certificate_has_proposal}
use Rattle.batcher_histories.proofs.History.Laws.{HasLaws}
use Rattle.batcher_histories.proofs.Simulation.Frame.{or_nothing, none_back, closed_verified, pending_wait, verified_wait, MovesKind, followed, leaders_same}
use Rattle.batcher_histories.proofs.Simulation.Frame.{still_waits, still_is_eligible, fixed_eligible, eligible_behind}
use Rattle.batcher_histories.proofs.Simulation.Restored.{returned, nothing_comes}
use Rattle.batcher_histories.proofs.Simulation.Released.{tracks_release, moves_tracked}
use Rattle.batcher_histories.proofs.History.Selection.{selection_fixes}
use Rattle.batcher_histories.proofs.History.Past.{nothing_eligible}

selected_some : {D : Type 0} (fixed evidence leaders : Option (Proposal D)) → is_some evidence
    ≡ true → is_some (proposal_of (selection_by (option_or fixed evidence) leaders)) ≡ true
selected_some (Some f) evidence leaders h = refl
selected_some None (Some e) leaders h = refl
selected_some None None leaders h = absurd (cc)

module _ {D K G C : Type 0} (x : Config D K G C) (lawful : HasLaws x) where
  -- A notarization answers whether another proposal is selected than before.
  changed_by : (s : ProposalState D) (p : Proposal D)
      → not (same_selected x.same_digest (proposal_of s)
      (proposal_of (updated s (FixedProposal p))))
      ≡ (is_none (proposal_of s) || replaces x.same_digest s p)
  changed_by Unknown p = refl
  changed_by (LeadersProposal e) p = refl
  changed_by (FixedProposal f) p = ap not (same_proposal-refl x.same_digest lawful.digests_same f)

  module _ (past : History D K G C) (old : RoundState G D) (c : Certificate C D) (answer : Bool)
      (new : RoundState G D) (represents : Represents x past old) (step : AfterCertificate x old c answer new)
    where
      abbrev event : Event D K G C
      event = (CertificateCall c, CertificateAnswer answer)

      leaders_stay : leaders_proposal x (event ∷ past) ≡ leaders_proposal x past
      leaders_stay = leaders_same x past event refl (or_nothing (leader_of past))

      completed_certified : (kind : Kind) → of_kind step.completed.certified kind
          ≡ is_certified (event ∷ past) kind
      completed_certified kind = step.completes.certified kind ∙ ap (λ b. is_kind (kind_certified c) kind || b) (represents.each_kind kind).certified_is

      -- What is held of buffers, the leader and the selection.
      record Fixed : Type 0 where
        leader_is : new.buffered.leader ≡ old.buffered.leader
        selection_is : new.buffered.selection ≡ selection x (event ∷ past)
        certified_is : (kind : Kind) → of_kind new.buffered.certified kind
            ≡ is_certified (event ∷ past) kind
        pending_is : (kind : Kind) → of_kind new.buffered.pending kind
            ≡ pending_after x past old event kind
        verified_is : (kind : Kind) → of_kind new.buffered.verified kind
            ≡ verified_after x past old event kind

      -- what a certificate without a proposal leaves
      left_open : (kind : Kind) (k : Bool) (votes : List (Vote G D))
          → is_kind (kind_certified c) kind
          ≡ k → selection x (event ∷ past) ≡ selection x past →
          eligible_among x past kind votes ≡ votes → cond k [] votes
          ≡ eligible_among x (event ∷ past) kind votes
      left_open kind true votes e same waiting =
          sym (nothing_eligible x (event ∷ past) kind votes (or_left _ (is_skipped x.mode) (or_left _ (is_certified past kind) e)))
      left_open kind false votes e same waiting =
          sym (still_waits x past event kind votes (ap (λ b. b || is_certified past kind) e) (ap proposal_of same) waiting)

      without : proposal_in (subject_certified c) ≡ None → new.buffered ≡ step.completed → Fixed
      without none h =
          record {
            leader_is = ap (λ b. b.leader) h ∙ step.completes.leader;
            selection_is = ap (λ b. b.selection) h ∙ (step.completes.selection ∙ (represents.selection_is ∙ sym same));
            certified_is = λ kind. ap (λ b. of_kind b.certified kind) h ∙ completed_certified kind;
            pending_is = λ kind.
                ap (λ b. of_kind b.pending kind) h
                ∙ (step.completes.pending kind
                ∙ (left_open kind (is_kind (kind_certified c) kind) (of_kind old.buffered.pending kind) refl same (pending_wait x past old kind represents)
                ∙ ap (eligible_among x (event ∷ past) kind) (sym (first_only (of_kind old.buffered.pending kind) _ (none_of kind)))));
            verified_is = λ kind.
                ap (λ b. of_kind b.verified kind) h
                ∙ (step.completes.verified kind
                ∙ (left_open kind (is_kind (kind_certified c) kind) (of_kind old.buffered.verified kind) refl same (verified_wait x past old kind represents)
                ∙ ap (eligible_among x (event ∷ past) kind) (sym (append-nil (of_kind old.buffered.verified kind)))));
          }
        where
          same : selection x (event ∷ past) ≡ selection x past
          same = selection_fixes x past event None leaders_stay none

          none_of : (kind : Kind)
              → filter (is_restored x past event) (of_kind old.tracked.kept kind) ≡ []
          none_of kind = filter_none (is_restored x past event) (of_kind old.tracked.kept kind) (none_back x past event none)

      with_proposal : (p : Proposal D) → proposal_in (subject_certified c) ≡ Some p
          → FixesProposal x.same_digest step.completed old.tracked.kept p new.buffered → Fixed
      with_proposal p some f =
          record {
            leader_is = f.leader ∙ step.completes.leader;
            selection_is = selected;
            certified_is = certified;
            pending_is = λ kind. (f.buffers kind).pending ∙ by_mark kind (is_certified (event ∷ past) kind) refl;
            verified_is = λ kind. (f.buffers kind).verified ∙ by_mark_verified kind (is_certified (event ∷ past) kind) refl;
          }
        where
          selected : new.buffered.selection ≡ selection x (event ∷ past)
          selected =
              f.selection
              ∙ (ap (λ s. updated s (FixedProposal p)) (step.completes.selection ∙ represents.selection_is)
              ∙ sym (selection_fixes x past event (Some p) leaders_stay some))

          certified : (kind : Kind) → of_kind new.buffered.certified kind
              ≡ is_certified (event ∷ past) kind
          certified kind = (f.buffers kind).certified ∙ completed_certified kind

          closed_both : (kind : Kind) (votes others : List (Vote G D))
              → is_certified (event ∷ past) kind ≡ true
              → still_eligible x.same_digest new.buffered kind votes
              ≡ eligible_among x (event ∷ past) kind others
          closed_both kind votes others e =
              ap (λ b. cond b [] (filter (is_eligible x.same_digest (proposal_of new.buffered.selection)) votes)) (certified kind ∙ e)
              ∙ sym (nothing_eligible x (event ∷ past) kind others (or_left (is_certified (event ∷ past) kind) (is_skipped x.mode) e))

          by_mark : (kind : Kind) (b : Bool) → is_certified (event ∷ past) kind ≡ b →
              still_eligible x.same_digest new.buffered kind
              (of_kind step.completed.pending kind
              ++ restored_by_fix x.same_digest step.completed old.tracked.kept p kind)
              ≡ pending_after x past old event kind
          by_mark kind true e = closed_both kind _ _ e
          by_mark kind false e =
              let other = or_parts (is_kind (kind_certified c) kind) (is_certified past kind) e in
              ap (λ vs. still_eligible x.same_digest new.buffered kind (vs ++ restored_by_fix x.same_digest step.completed old.tracked.kept p kind))
              (step.completes.pending kind ∙ ap (λ b. cond b [] (of_kind old.buffered.pending kind)) other.0)
              ∙ (still_is_eligible x (event ∷ past) new.buffered kind
              (of_kind old.buffered.pending kind ++ restored_by_fix x.same_digest step.completed old.tracked.kept p kind) (certified kind)
              (ap proposal_of selected)
              (nothing_comes x past old kind p step.completed represents)
              ∙ (eligible_behind x (event ∷ past) kind (of_kind old.buffered.pending kind)
              (restored_by_fix x.same_digest step.completed old.tracked.kept p kind)
              (filter (is_restored x past event) (of_kind old.tracked.kept kind))
              (returned x past event old kind p step.completed represents step.completes.selection some leaders_stay e)
              ∙ ap (eligible_among x (event ∷ past) kind) (sym
              (append-nil (of_kind old.buffered.pending kind ++ filter (is_restored x past event) (of_kind old.tracked.kept kind))))))

          by_mark_verified : (kind : Kind) (b : Bool) → is_certified (event ∷ past) kind ≡ b →
              still_eligible x.same_digest new.buffered kind
              (of_kind step.completed.verified kind ++ []) ≡ verified_after x past old event kind
          by_mark_verified kind true e = closed_both kind _ _ e
          by_mark_verified kind false e =
              let other = or_parts (is_kind (kind_certified c) kind) (is_certified past kind) e in
              ap (λ vs. still_eligible x.same_digest new.buffered kind (vs ++ []))
              (step.completes.verified kind ∙ ap (λ b. cond b [] (of_kind old.buffered.verified kind)) other.0)
              ∙ (fixed_eligible x (event ∷ past) new.buffered kind (of_kind old.buffered.verified kind) (certified kind) (ap proposal_of selected)
              (λ skips. closed_verified x past old kind represents (or_right (is_certified past kind) _ skips))
              ∙ ap (eligible_among x (event ∷ past) kind) (sym (append-nil (of_kind old.buffered.verified kind))))

      by_evidence : (o : Option (Proposal D)) → proposal_in (subject_certified c) ≡ o → Fixed
      by_evidence None e = without e (subst (λ o. MayFix x.same_digest step.completed old.tracked.kept o new.buffered) e step.fixes)
      by_evidence (Some p) e = with_proposal p e (subst (λ o. MayFix x.same_digest step.completed old.tracked.kept o new.buffered) e step.fixes)

      fixed : Fixed
      fixed = by_evidence (proposal_in (subject_certified c)) refl

      -- with the certificate of a kind of votes for proposals, one is selected
      one_selected : (kind : Kind) → is_kind (kind_certified c) kind ≡ true → has_proposals kind
          ≡ true → is_some (selected_proposal x (event ∷ past)) ≡ true
      one_selected kind this has =
          selected_some (fixed_proposal past) (proposal_in (subject_certified c)) (leaders_proposal x (event ∷ past))
          (certificate_has_proposal c (ap has_proposals (is_kind-true _ _ this) ∙ has))

      moves_kind : (kind : Kind) → MovesKind x past event new kind
      moves_kind kind =
          moves_tracked x past event new kind (fixed.certified_is kind)
          (tracks_release x past event refl old represents new.tracked (proposal_of new.buffered.selection) (is_kind (kind_certified c) kind) kind refl
          (step.releases kind)
          (λ this has. (one_selected kind this has, ap proposal_of fixed.selection_is)))

      answer_named : answer ≡ certificate_answer x past c
      answer_named =
          step.answer_is
          ∙ (ap (λ s. is_kind Notarization (kind_certified c) && not (same_selected x.same_digest (proposal_of s) (proposal_of new.buffered.selection)))
          represents.selection_is
          ∙ (ap (λ s. is_kind Notarization (kind_certified c) && not (same_selected x.same_digest (selected_proposal x past) (proposal_of s)))
          fixed.selection_is
          ∙ by_kind c refl))
        where
          by_kind : (d : Certificate C D) → d ≡ c
              → (is_kind Notarization (kind_certified d)
              && not (same_selected x.same_digest (selected_proposal x past)
              (selected_proposal x (event ∷ past)))) ≡ certificate_answer x past d
          by_kind (NotarizationCertificate d) e =
              ap (λ s. not (same_selected x.same_digest (selected_proposal x past) (proposal_of s)))
              (selection_fixes x past event (Some d.proposal) leaders_stay (ap (λ (f : Certificate C D). proposal_in (subject_certified f)) (sym e)))
              ∙ changed_by (selection x past) d.proposal
          by_kind (NullificationCertificate d) e = refl
          by_kind (FinalizationCertificate d) e = refl

      pub certificate_simulates : MayCall x.meaning x.number (CertificateCall c)
          → Simulates x past old (CertificateCall c, CertificateAnswer answer) new
      certificate_simulates allowed =
          followed x lawful past old (CertificateCall c) (CertificateAnswer answer) new represents
          (record {
            allowed = allowed;
            made = refl;
            answered = answer_named;
            leader_is = fixed.leader_is ∙ (represents.leader_is ∙ sym (or_nothing (leader_of past)));
            selection_is = fixed.selection_is;
            forwarded_is = step.forwarded ∙ represents.forwarded_is;
            kinds = moves_kind;
            pending_are = fixed.pending_is;
            verified_are = fixed.verified_is;
            attempt = tt;
          })
