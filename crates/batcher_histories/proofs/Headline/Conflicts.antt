-- Beside a vote that conflicts there is a compared one with another proposal.
use Rattle.batcher_histories.proofs.Words.{◌≡◌, Bool, true, false, not, ◌&&◌, List, [], ◌∷◌, refl, ap, sym, ◌∙◌, list_any, and_parts, and_from, or_left}
use Rattle.batcher_histories.proofs.Words.{or_parts, true≢false, false≢true, false_from_ne_true, Proposal, Vote, NotarizeVote, NullifyVote, FinalizeVote}
use Rattle.batcher_histories.proofs.Words.{Config, is_empty, exactly_one, is_kind, kind_of, signer_of, is_vote_of, is_for, same_proposal, same_proposal-true}
use Rattle.batcher_histories.proofs.Words.{any_more, any_of_filtered, History, selected_proposal, compared_votes, compared_votes_of, conflicts, carry_different}
use Rattle.batcher_histories.proofs.Words.{same_vote, and_left, not-true}
use Rattle.batcher_histories.proofs.History.ByFirst.{differs_from, conflicts_is}
use Rattle.batcher_histories.proofs.History.Laws.{HasLaws}
use Rattle.batcher_histories.proofs.History.Distinct.{where_holds}

exactly_other : (a b : Bool) → exactly_one a b ≡ true → b ≡ not a
exactly_other true true h = absurd (false≢true h)
exactly_other true false h = refl
exactly_other false b h = h

not_opposite : (b : Bool) → not b ≡ b → ⊥
not_opposite true h = false≢true h
not_opposite false h = true≢false h

-- of votes that aren't empty, one that passes exactly where a mark doesn't hold
some_other : {X : Type 0} (p : X → Bool) (mark : Bool) (votes : List X) → not (is_empty votes)
    ≡ true → exactly_one mark (list_any p votes) ≡ true
    → list_any (λ v. exactly_one mark (p v)) votes ≡ true
some_other p mark [] some h = absurd (false≢true some)
some_other p true (v ∷ votes) some h =
    or_left _ (list_any (λ w. exactly_one true (p w)) votes)
    (ap (exactly_one true) (or_parts (p v) (list_any p votes) (exactly_other true (list_any p (v ∷ votes)) h)).0)
some_other p false (v ∷ votes) some h = h

module _ {D : Type 0} (same : D → D → Bool) (identical : (a b : D) → same a b ≡ true → a ≡ b) where
  -- proposals of which one alone is the same as a third differ
  proposals_differ : (a b p : Proposal D) (mark : Bool) → same_proposal same p b ≡ mark
      → same_proposal same p a ≡ not mark → not (same_proposal same a b) ≡ true
  proposals_differ a b p mark e h =
      ap not (false_from_ne_true _ (λ alike. not_opposite mark (sym h ∙ (ap (same_proposal same p) (same_proposal-true same identical a b alike) ∙ e))))

  votes_differ : {G : Type 0} (a b : Vote G D) (p : Proposal D) (mark : Bool)
      → is_kind (kind_of a) (kind_of b) ≡ true → is_for same p b ≡ mark → is_for same p a ≡ not mark
      → carry_different same a b ≡ true
  votes_differ (NotarizeVote a) (NotarizeVote b) p mark k e h = proposals_differ a.proposal b.proposal p mark e h
  votes_differ (FinalizeVote a) (FinalizeVote b) p mark k e h = proposals_differ a.proposal b.proposal p mark e h
  votes_differ (NullifyVote a) (NullifyVote b) p mark k e h = absurd (not_opposite mark (sym h ∙ e))
  votes_differ (NotarizeVote a) (NullifyVote b) p mark k e h = absurd (false≢true k)
  votes_differ (NotarizeVote a) (FinalizeVote b) p mark k e h = absurd (false≢true k)
  votes_differ (NullifyVote a) (NotarizeVote b) p mark k e h = absurd (false≢true k)
  votes_differ (NullifyVote a) (FinalizeVote b) p mark k e h = absurd (false≢true k)
  votes_differ (FinalizeVote a) (NotarizeVote b) p mark k e h = absurd (false≢true k)
  votes_differ (FinalizeVote a) (NullifyVote b) p mark k e h = absurd (false≢true k)

module _ {D K G C : Type 0} (x : Config D K G C) (laws : HasLaws x) where
  -- A vote that conflicts has a compared one of its kind and signer beside it, with another
  -- proposal.
  pub conflict_with_compared : (past : History D K G C) (vote : Vote G D) → conflicts x past vote
      ≡ true →
      list_any (λ v. is_vote_of (kind_of vote) (signer_of vote) v
      && carry_different x.same_digest v vote) (compared_votes x past) ≡ true
  conflict_with_compared past vote h =
      let there = where_holds (differs_from x (compared_votes_of x past (kind_of vote) (signer_of vote)) vote) (selected_proposal x past)
      (sym (conflicts_is x past vote) ∙ h) in
      let mark = is_for x.same_digest there.0 vote in
      let parts = and_parts (not (is_empty (compared_votes_of x past (kind_of vote) (signer_of vote))))
      (exactly_one mark (list_any (is_for x.same_digest there.0) (compared_votes_of x past (kind_of vote) (signer_of vote)))) there.2 in
      any_more (λ v. is_vote_of (kind_of vote) (signer_of vote) v && exactly_one mark (is_for x.same_digest there.0 v))
      (λ v. is_vote_of (kind_of vote) (signer_of vote) v && carry_different x.same_digest v vote)
      (λ v both.
      let is = and_parts (is_vote_of (kind_of vote) (signer_of vote) v) (exactly_one mark (is_for x.same_digest there.0 v)) both in
      and_from _ _ is.0 (votes_differ x.same_digest laws.digests_equal v vote there.0 mark (and_parts _ _ is.0).0 refl (exactly_other mark _ is.1)))
      (compared_votes x past)
      (any_of_filtered (λ v. exactly_one mark (is_for x.same_digest there.0 v)) (is_vote_of (kind_of vote) (signer_of vote)) (compared_votes x past)
      (some_other (is_for x.same_digest there.0) mark (compared_votes_of x past (kind_of vote) (signer_of vote)) parts.0 parts.1))

-- votes that carry different proposals aren't the same
pub carried_differ : {G D : Type 0} (same : D → D → Bool) (equal : G → G → Bool) (a b : Vote G D)
    → carry_different same a b ≡ true → not (same_vote same equal a b) ≡ true
carried_differ same equal (NotarizeVote a) (NotarizeVote b) h =
    ap not (and_left (same_proposal same a.proposal b.proposal) _ (not-true (same_proposal same a.proposal b.proposal) h))
carried_differ same equal (FinalizeVote a) (FinalizeVote b) h =
    ap not (and_left (same_proposal same a.proposal b.proposal) _ (not-true (same_proposal same a.proposal b.proposal) h))
carried_differ same equal (NotarizeVote a) (NullifyVote b) h = refl
carried_differ same equal (NotarizeVote a) (FinalizeVote b) h = refl
carried_differ same equal (NullifyVote a) b h = absurd (false≢true h)
carried_differ same equal (FinalizeVote a) (NotarizeVote b) h = refl
carried_differ same equal (FinalizeVote a) (NullifyVote b) h = refl
