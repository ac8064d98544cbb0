-- Which kept votes wait again where a proposal is fixed: by what is held, and by what a history
-- names.
use Rattle.batcher_histories.proofs.Words.{◌≡◌, Bool, true, false, not, cond, ◌&&◌, ◌||◌, List, [], ◌∷◌, Some, None, refl, ap, sym, ◌∙◌, ⊎_elim, ◌++◌, filter}
use Rattle.batcher_histories.proofs.Words.{option_and_then, cases_Bool, or_right, and-not_self, Proposal, Vote, NotarizeVote, NullifyVote, FinalizeVote, Kind}
use Rattle.batcher_histories.proofs.Words.{ProposalState, Unknown, LeadersProposal, FixedProposal, Config, count, is_some_and, kind_of, signer_of}
use Rattle.batcher_histories.proofs.Words.{has_proposals, is_of_kind, is_for, is_eligible, keeps_all, count-false, count_same, count-filter, filter_twice}
use Rattle.batcher_histories.proofs.Words.{filter_none, either_same, is_kind-true, proposal_of, replaces, fixes, of_kind, VerifierState, RoundState}
use Rattle.batcher_histories.proofs.Words.{restored_by_fix, Event, History, first_votes, selection, selected_proposal, is_certified, fixing_evidence}
use Rattle.batcher_histories.proofs.Words.{leaders_proposal, is_restored, is_released, Represents, first_by_signer, is_skipped}
use Rattle.batcher_histories.proofs.Simulation.Buffers.{count_ordered}
use Rattle.batcher_histories.proofs.History.Selection.{selection_fixes}
use Rattle.batcher_histories.proofs.Simulation.Frame.{closed_pending, none_kept}

-- Tests that agree on all votes that pass another test keep the same of these.
filter_where : {X : Type 0} (t p q : X → Bool) (xs : List X) → count (λ v. not (t v)) xs ≡ 0
    → ((v : X) → t v ≡ true → p v ≡ q v) → filter p xs ≡ filter q xs
filter_where t p q [] all agree = refl
filter_where t p q (x ∷ xs) all agree =
    let both = keeps_all (t x) (count (λ v. not (t v)) xs) all in
    rw (agree x both.0, filter_where t p q xs both.1 agree) refl

twice : (b c : Bool) → b ≡ c → b ≡ (c && b)
twice true true e = refl
twice false false e = refl
twice true false e = e
twice false true e = refl

module _ {D K G C : Type 0} (x : Config D K G C) where
  -- the first votes of a kind are of that kind
  pub firsts_of_kind : (past : History D K G C) (kind : Kind)
      → count (λ v. not (is_of_kind kind v)) (first_by_signer x past kind) ≡ 0
  firsts_of_kind past kind =
      count_ordered (λ v. not (is_of_kind kind v)) signer_of (filter (is_of_kind kind) (first_votes x past))
      ∙ (count-filter (λ v. not (is_of_kind kind v)) (is_of_kind kind) (first_votes x past)
      ∙ (count_same _ (λ v. false) (first_votes x past) (λ v. and-not_self (is_of_kind kind v)) ∙ count-false (first_votes x past)))

  pub kept_of_kind : (past : History D K G C) (held : RoundState G D) (kind : Kind)
      → Represents x past held
      → count (λ v. not (is_of_kind kind v)) (of_kind held.tracked.kept kind) ≡ 0
  kept_of_kind past held kind represents = ap (count (λ v. not (is_of_kind kind v))) (represents.each_kind kind).kept_are
      ∙ by_released (is_released x past kind)
    where
      by_released : (r : Bool) → count (λ v. not (is_of_kind kind v))
          (cond r [] (first_by_signer x past kind)) ≡ 0
      by_released true = refl
      by_released false = firsts_of_kind past kind

  nullify_for_none : (kind : Kind) (p : Proposal D) (v : Vote G D) → is_of_kind kind v ≡ true
      → has_proposals kind ≡ false → is_for x.same_digest p v ≡ false
  nullify_for_none kind p (NotarizeVote v) of has =
      let k : kind_of (NotarizeVote v) ≡ kind = is_kind-true _ _ of in let no : true ≡ false = ap has_proposals k ∙ has in absurd (cc)
  nullify_for_none kind p (NullifyVote v) of has = refl
  nullify_for_none kind p (FinalizeVote v) of has =
      let k : kind_of (FinalizeVote v) ≡ kind = is_kind-true _ _ of in let no : true ≡ false = ap has_proposals k ∙ has in absurd (cc)

  -- Replacing puts the proposal in the place of the leader's.
  pub replaced_is : (s : ProposalState D) (p : Proposal D) → replaces x.same_digest s p ≡ true
      → proposal_of (fixes s (Some p)) ≡ Some p
  replaced_is Unknown p h = absurd (cc)
  replaced_is (LeadersProposal e) p h = refl
  replaced_is (FixedProposal e) p h = absurd (cc)

  -- of a kind that stays open, those that wait again are those that are restored
  returned_by : (kind : Kind) (s : ProposalState D) (p : Proposal D) (votes : List (Vote G D))
      (back : Vote G D → Bool) → count (λ v. not (is_of_kind kind v)) votes ≡ 0 →
      ((v : Vote G D) → is_of_kind kind v ≡ true → back v
      ≡ (replaces x.same_digest s p && is_for x.same_digest p v))
      → filter (is_eligible x.same_digest (proposal_of (fixes s (Some p))))
      (cond (replaces x.same_digest s p && has_proposals kind) votes [])
      ≡ filter (is_eligible x.same_digest (proposal_of (fixes s (Some p)))) (filter back votes)
  returned_by kind s p votes back all is =
      ⊎_elim
      (λ replaced.
      ⊎_elim
      (λ has.
      ap (λ b. filter (is_eligible x.same_digest (proposal_of (fixes s (Some p)))) (cond b votes [])) (ap (λ b. b && has_proposals kind) replaced ∙ has)
      ∙ (filter_where (is_of_kind kind) (is_eligible x.same_digest (proposal_of (fixes s (Some p))))
      (λ v. back v && is_eligible x.same_digest (proposal_of (fixes s (Some p))) v) votes all
      (λ v of. twice (is_eligible x.same_digest (proposal_of (fixes s (Some p))) v) (back v) (waits_for v of replaced has))
      ∙ sym (filter_twice (is_eligible x.same_digest (proposal_of (fixes s (Some p)))) back votes)))
      (λ has_none.
      ap (λ b. filter (is_eligible x.same_digest (proposal_of (fixes s (Some p)))) (cond b votes [])) (ap (λ b. b && has_proposals kind) replaced ∙ has_none)
      ∙ sym (ap (filter (is_eligible x.same_digest (proposal_of (fixes s (Some p)))))
      (filter_where (is_of_kind kind) back (λ v. false) votes all
      (λ v of. is v of ∙ (ap (λ b. b && is_for x.same_digest p v) replaced ∙ nullify_for_none kind p v of has_none))
      ∙ filter_none (λ v. false) votes (λ v. refl))))
      (cases_Bool (has_proposals kind)))
      (λ same.
      ap (λ b. filter (is_eligible x.same_digest (proposal_of (fixes s (Some p)))) (cond (b && has_proposals kind) votes [])) same
      ∙ sym (ap (filter (is_eligible x.same_digest (proposal_of (fixes s (Some p)))))
      (filter_where (is_of_kind kind) back (λ v. false) votes all (λ v of. is v of ∙ ap (λ b. b && is_for x.same_digest p v) same)
      ∙ filter_none (λ v. false) votes (λ v. refl))))
      (cases_Bool (replaces x.same_digest s p))
    where
      waits_for : (v : Vote G D) → is_of_kind kind v ≡ true → replaces x.same_digest s p ≡ true
          → has_proposals kind ≡ true → is_eligible x.same_digest (proposal_of (fixes s (Some p))) v
          ≡ back v
      waits_for v of replaced has =
          ap (λ o. is_eligible x.same_digest o v) (replaced_is s p replaced)
          ∙ (ap (λ b. not b || is_for x.same_digest p v) (ap has_proposals (is_kind-true _ _ of) ∙ has)
          ∙ sym (is v of ∙ ap (λ b. b && is_for x.same_digest p v) replaced))

  back_is : (s : ProposalState D) (p : Proposal D) (v : Vote G D)
      → is_some_and (option_and_then (λ q. cond (replaces x.same_digest s q) (Some q) None)
      (Some p)) (λ q. is_for x.same_digest q v)
      ≡ (replaces x.same_digest s p && is_for x.same_digest p v)
  back_is s p v = by (replaces x.same_digest s p)
    where
      by : (b : Bool) → is_some_and (cond b (Some p) None) (λ q. is_for x.same_digest q v)
          ≡ (b && is_for x.same_digest p v)
      by true = refl
      by false = refl

  and_open : (b c : Bool) → c ≡ false → (b && not c) ≡ b
  and_open true c e = ap not e
  and_open false c e = refl

  -- Of a kind that isn't certified by then, the kept votes that wait again are those that come
  -- back:
  pub returned_fixed : (past : History D K G C) (event : Event D K G C) (held : RoundState G D)
      (kind : Kind) (p : Proposal D) (b : VerifierState G D) → Represents x past held → b.selection
      ≡ held.buffered.selection →
      fixing_evidence event ≡ Some p → is_certified (event ∷ past) kind ≡ false
      → filter (is_eligible x.same_digest (proposal_of (fixes (selection x past) (Some p))))
      (restored_by_fix x.same_digest b held.tracked.kept p kind)
      ≡ filter (is_eligible x.same_digest (proposal_of (fixes (selection x past) (Some p))))
      (filter (is_restored x past event) (of_kind held.tracked.kept kind))
  returned_fixed past event held kind p b represents same evidence still =
      ap (λ s. filter (is_eligible x.same_digest (proposal_of (fixes (selection x past) (Some p))))
      (cond (replaces x.same_digest s p && has_proposals kind) (of_kind held.tracked.kept kind) [])) (same ∙ represents.selection_is)
      ∙ returned_by kind (selection x past) p (of_kind held.tracked.kept kind) (is_restored x past event) (kept_of_kind past held kind represents)
      (λ v of.
      ap (λ o. is_some_and (option_and_then (λ q. cond (replaces x.same_digest (selection x past) q) (Some q) None) o) (λ q. is_for x.same_digest q v)
      && not (is_certified (event ∷ past) (kind_of v))) evidence
      ∙ (and_open _ (is_certified (event ∷ past) (kind_of v)) (ap (is_certified (event ∷ past)) (is_kind-true _ _ of) ∙ still)
      ∙ back_is (selection x past) p v))

  -- and so by the selected proposal, where the leader's stays.
  pub returned : (past : History D K G C) (event : Event D K G C) (held : RoundState G D)
      (kind : Kind)
      (p : Proposal D) (b : VerifierState G D) → Represents x past held → b.selection
      ≡ held.buffered.selection →
      fixing_evidence event ≡ Some p → leaders_proposal x (event ∷ past) ≡ leaders_proposal x past
      → is_certified (event ∷ past) kind ≡ false
      → filter (is_eligible x.same_digest (selected_proposal x (event ∷ past)))
      (restored_by_fix x.same_digest b held.tracked.kept p kind)
      ≡ filter (is_eligible x.same_digest (selected_proposal x (event ∷ past)))
      (filter (is_restored x past event) (of_kind held.tracked.kept kind))
  returned past event held kind p b represents same evidence leaders still =
      let selected = selection_fixes x past event (Some p) leaders evidence in
      ap (λ s. filter (is_eligible x.same_digest (proposal_of s)) (restored_by_fix x.same_digest b held.tracked.kept p kind)) selected
      ∙ (returned_fixed past event held kind p b represents same evidence still
      ∙ ap (λ s. filter (is_eligible x.same_digest (proposal_of s)) (filter (is_restored x past event) (of_kind held.tracked.kept kind))) (sym selected))

  -- in a skipped round nothing waits or is restored
  pub nothing_comes : (past : History D K G C) (held : RoundState G D) (kind : Kind)
      (p : Proposal D)
      (b : VerifierState G D) → Represents x past held → is_skipped x.mode ≡ true →
      of_kind held.buffered.pending kind ++ restored_by_fix x.same_digest b held.tracked.kept p kind
      ≡ []
  nothing_comes past held kind p b represents skips =
      ap (λ vs. vs ++ restored_by_fix x.same_digest b held.tracked.kept p kind)
      (closed_pending x past held kind represents (or_right (is_certified past kind) (is_skipped x.mode) skips))
      ∙ (ap (λ vs. cond (replaces x.same_digest b.selection p && has_proposals kind) vs []) (none_kept x past held kind represents skips)
      ∙ either_same (replaces x.same_digest b.selection p && has_proposals kind) [])
