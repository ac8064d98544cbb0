-- Which votes wait, before and after a change of the selected proposal.
use Rattle.batcher_votes.proofs.Words.{◌≡◌, Bor, Bool, true, false, not, cond, ◌&&◌, List, [], ◌∷◌, ◌++◌, filter, Option, Some, None, is_some, append-nil, refl}
use Rattle.batcher_votes.proofs.Words.{ap, subst, ◌∙◌, AllPass, option_copied, filter-append, filter_all, Proposal, Vote, Kind, ProposalState, Unknown}
use Rattle.batcher_votes.proofs.Words.{LeadersProposal, FixedProposal, is_of_kind, same_proposal, is_eligible, same_proposal-true, proposal_of, updated}
use Rattle.batcher_votes.proofs.Words.{selects, same_selected, of_kind, VerifierState, leaders_vote, Buffers, AddsVote, SetsProposal}
use Rattle.batcher_votes.proofs.VerifierLemmas.Changes.{IsTidy, Places, Retains}

module _ {D : Type 0} (same : D → D → Bool) (identical : (a b : D) → same a b ≡ true → a ≡ b) where
  kept_as_it_was : (p q : Proposal D) (b : Bool) → same_proposal same p q ≡ b → cond b None (Some q)
      ≡ None → p ≡ q
  kept_as_it_was p q true e h = same_proposal-true same identical p q e
  kept_as_it_was p q false e h = absurd (cc)

  -- no change was found, so the selected proposal is the same
  pub no_change : (before after : Option (Proposal D))
      → (is_some before ≡ true → is_some after ≡ true)
      → cond (same_selected same before after) None after ≡ None → before ≡ after
  no_change None None known h = refl
  no_change None (Some q) known h = absurd (cc)
  no_change (Some p) None known h = let wrong = known refl in absurd (cc)
  no_change (Some p) (Some q) known h = ap Some (kept_as_it_was p q (same_proposal same p q) refl h)

-- where a proposal is selected, one stays selected
pub still_selected : {D : Type 0} (before next : ProposalState D) → is_some (proposal_of before)
    ≡ true → is_some (proposal_of (updated before next)) ≡ true
still_selected Unknown next h = absurd (cc)
still_selected (LeadersProposal q) Unknown h = refl
still_selected (LeadersProposal q) (LeadersProposal p) h = refl
still_selected (LeadersProposal q) (FixedProposal p) h = refl
still_selected (FixedProposal q) next h = refl

module _ {X : Type 0} (test : X → Bool) where
  -- what is left of a list that is empty where the kind is certified
  pub left_after : (certified : Bool) (xs : List X) → (certified ≡ true → xs ≡ []) → filter test xs
      ≡ cond certified [] (filter test (xs ++ []))
  left_after true xs h = rw (h refl)
  left_after false xs h = rw append-nil

  -- where all pass, all are left
  pub all_left : (certified : Bool) (xs : List X) → (certified ≡ true → xs ≡ []) → AllPass test xs
      → xs ≡ cond certified [] (filter test (xs ++ []))
  all_left true xs h pass = h refl
  all_left false xs h pass = rw (append-nil, filter_all test xs pass)

  -- an element that is kept joins those that were left, unless the kind is certified
  pub joins : (certified fits : Bool) (xs ys : List X) (x : X) → ys
      ≡ cond certified [] (filter test (xs ++ [])) → (fits ≡ true → test x ≡ true)
      → ys ++ cond (fits && not certified) (x ∷ []) []
      ≡ cond certified [] (filter test (xs ++ cond fits (x ∷ []) []))
  joins true true xs ys x h passes = rw append-nil h
  joins true false xs ys x h passes = rw append-nil h
  joins false true xs ys x h passes =
      let alone : filter test (x ∷ []) ≡ x ∷ [] = rw (passes refl) in
      rw (filter-append test xs (x ∷ []), alone) (ap (λ zs. zs ++ x ∷ []) (rw append-nil at h))
  joins false false xs ys x h passes = rw append-nil h

module _ {G D : Type 0} (same : D → D → Bool) where
  pub sets_same : (old : VerifierState G D) (after : ProposalState D) → proposal_of old.selection
      ≡ proposal_of after → ((kind : Kind) → IsTidy same old kind)
      → SetsProposal same old after (record old { selection = after })
  sets_same old after e tidy =
      record {
        leader = refl;
        selection_is = refl;
        buffers = λ kind.
            record {
              certified = refl;
              pending =
                  all_left (is_eligible same (proposal_of after)) (of_kind old.certified kind) (of_kind old.pending kind) (tidy kind).none_pending
                  (subst (λ s. AllPass (is_eligible same s) (of_kind old.pending kind)) e (tidy kind).pending);
              verified =
                  all_left (is_eligible same (proposal_of after)) (of_kind old.certified kind) (of_kind old.verified kind) (tidy kind).none_verified
                  (subst (λ s. AllPass (is_eligible same s) (of_kind old.verified kind)) e (tidy kind).verified);
            };
      }

  pub sets_changed : (old new : VerifierState G D) (after : ProposalState D) (p : Proposal D)
      → proposal_of after ≡ Some p → ((kind : Kind) → IsTidy same old kind)
      → Retains same (record old { selection = after }) p new → SetsProposal same old after new
  sets_changed old new after p e tidy r =
      record {
        leader = r.leader;
        selection_is = r.selection;
        buffers = λ kind.
            record {
              certified = (r.kinds kind).certified;
              pending =
                  rw (r.selection, e, (r.kinds kind).certified)
                  ((r.kinds kind).pending ∙ left_after (is_eligible same (Some p)) (of_kind old.certified kind) (of_kind old.pending kind)
                  (tidy kind).none_pending);
              verified =
                  rw (r.selection, e, (r.kinds kind).certified)
                  ((r.kinds kind).verified ∙ left_after (is_eligible same (Some p)) (of_kind old.certified kind) (of_kind old.verified kind)
                  (tidy kind).none_verified);
            };
      }

pub a_change : {X : Type 0} (b : Bool) (after : Option X) (p : X) → cond b None after ≡ Some p
    → after ≡ Some p
a_change true after p h = absurd (cc)
a_change false after p h = h

module _ {G D : Type 0} (same : D → D → Bool) (old new : VerifierState G D) (vote : Vote G D)
    (is_verified : Bool) where
  -- the proposal is selected, and the vote joins those that wait
  pub adds_placed : (mid : VerifierState G D)
      → SetsProposal same old (selects old.selection (leaders_vote same old vote)) mid
      → Places mid vote is_verified new
      → is_eligible same (proposal_of (selects old.selection (leaders_vote same old vote))) vote
      ≡ true
      → AddsVote same old vote is_verified new
  adds_placed mid sets p fits =
      record {
        leader = p.leader ∙ sets.leader;
        selection = p.selection ∙ sets.selection_is;
        buffers = λ kind.
            let b = sets.buffers kind in
            let certified = p.certified kind ∙ b.certified in
            let selection = p.selection ∙ sets.selection_is in
            let test = is_eligible same (proposal_of (selects old.selection (leaders_vote same old vote))) in
            record {
              certified = certified;
              pending =
                  rw (selection, certified, p.pending kind, b.certified) (joins test (of_kind old.certified kind) (is_of_kind kind vote && not is_verified)
                  (of_kind old.pending kind) (of_kind mid.pending kind) vote (rw (sets.selection_is, b.certified) at b.pending) (λ _. fits));
              verified =
                  rw (selection, certified, p.verified kind, b.certified) (joins test (of_kind old.certified kind) (is_of_kind kind vote && is_verified)
                  (of_kind old.verified kind) (of_kind mid.verified kind) vote (rw (sets.selection_is, b.certified) at b.verified) (λ _. fits));
            };
      }

-- where a proposal is selected the leader's vote selects no other
pub selects_again : {D : Type 0} (state : ProposalState D) (vote : Option (Proposal D))
    → is_some (proposal_of state) ≡ true → selects state vote ≡ state
selects_again Unknown vote h = absurd (cc)
selects_again (LeadersProposal q) None h = refl
selects_again (LeadersProposal q) (Some p) h = refl
selects_again (FixedProposal q) None h = refl
selects_again (FixedProposal q) (Some p) h = refl

-- a vote that is placed joins those that wait
pub placed_buffers :
    {G D : Type 0} (same : D → D → Bool) (old new : VerifierState G D) (vote : Vote G D)
    (is_verified : Bool) → Places old vote is_verified new
    → is_eligible same (proposal_of old.selection) vote ≡ true
    → ((kind : Kind) → IsTidy same old kind)
    → (kind : Kind) → Buffers same old new kind
    (cond (is_of_kind kind vote && not is_verified) (vote ∷ []) [])
    (cond (is_of_kind kind vote && is_verified) (vote ∷ []) [])
placed_buffers same old new vote is_verified p fits tidy kind =
    let test = is_eligible same (proposal_of old.selection) in
    let certified = of_kind old.certified kind in
    let t = tidy kind in
    record {
      certified = p.certified kind;
      pending =
          rw (p.selection, p.certified kind, p.pending kind)
          (joins test certified (is_of_kind kind vote && not is_verified) (of_kind old.pending kind) (of_kind old.pending kind) vote
          (all_left test certified (of_kind old.pending kind) t.none_pending t.pending) (λ _. fits));
      verified =
          rw (p.selection, p.certified kind, p.verified kind)
          (joins test certified (is_of_kind kind vote && is_verified) (of_kind old.verified kind) (of_kind old.verified kind) vote
          (all_left test certified (of_kind old.verified kind) t.none_verified t.verified) (λ _. fits));
    }

pub some_copied : {X : Type 0} (lent : Option (Bor X)) (o : Option X) → option_copied lent ≡ o
    → is_some o ≡ is_some lent
some_copied None o e = rw (← e) refl
some_copied (Some x) o e = rw (← e) refl

pub changed_so : {X : Type 0} (b : Bool) (after : Option X) (p : X) → cond b None after ≡ Some p
    → b ≡ false
changed_so true after p h = absurd (cc)
changed_so false after p h = refl

pub other_too : (a b : Bool) → a ≡ false → b ≡ true → (not a && b) ≡ true
other_too true b e h = absurd (cc)
other_too false b e h = h
