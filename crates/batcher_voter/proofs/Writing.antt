-- What a journal has once a vote is written, and once the floor is raised.
use Rattle.batcher_voter.proofs.Words.{◌≡◌, ◌++◌, ◌∙◌, zero, suc, Bool, true, false, not, List, [], ◌∷◌, ap, arith, inl, inr, refl, subst, sym, Contains}
use Rattle.batcher_voter.proofs.Words.{All-contains, All-contains_itself, All-filter, Contains-append_cases, Contains-append_left, Contains-append_right}
use Rattle.batcher_voter.proofs.Words.{round_in, subject_of, Subject, Vote, Round, Conduct, HasVoted, voted, from_floor, is_below, is_over, contains_filter}
use Rattle.batcher_voter.proofs.Words.{still_over, HasVoteFor}

module _ {G D : Type 0} where
  only : (vote v : Vote G D) → Contains (vote ∷ []) v → vote ≡ v
  only vote v (zero, lt, is) = is
  only vote v (suc i, lt, is) = absurd (omega arith)

  -- one more vote is there
  pub are_there_with :
      (past : Conduct D) (floor : Round) (votes : List (Vote G D)) (vote : Vote G D)
      → ((s : Subject D) → HasVoted past s → is_below floor (round_in s) ≡ false
      → HasVoteFor votes s)
      → (s : Subject D) → HasVoted (voted (subject_of vote) ∷ past) s
      → is_below floor (round_in s) ≡ false → HasVoteFor (votes ++ vote ∷ []) s
  are_there_with past floor votes vote are s (inl e) above =
      record {
        vote = vote;
        there = Contains-append_right votes (vote ∷ []) vote (0, omega arith, refl);
        is_for = e;
      }
  are_there_with past floor votes vote are s (inr h) above =
      let it = are s h above in
      record {
        vote = it.vote;
        there = Contains-append_left votes (vote ∷ []) it.vote it.there;
        is_for = it.is_for;
      }

  pub no_others_with :
      (past : Conduct D) (votes : List (Vote G D)) (vote : Vote G D)
      → ((v : Vote G D) → Contains votes v → HasVoted past (subject_of v))
      → (v : Vote G D) → Contains (votes ++ vote ∷ []) v
      → HasVoted (voted (subject_of vote) ∷ past) (subject_of v)
  no_others_with past votes vote others v there =
      elim (Contains-append_cases votes (vote ∷ []) v there) [
        | inl old ↦ inr (others v old)
        | inr new ↦ inl (ap (λ (it : Vote G D). subject_of it) (only vote v new))
      ]

  -- what a floor leaves is there
  pub are_there_from :
      (past : Conduct D) (old new : Round) (votes : List (Vote G D)) → is_below old new ≡ false
      → ((s : Subject D) → HasVoted past s → is_below old (round_in s) ≡ false → HasVoteFor votes s)
      → (s : Subject D) → HasVoted past s → is_below new (round_in s) ≡ false
      → HasVoteFor (from_floor new votes) s
  are_there_from past old new votes up are s is_voted above =
      let it = are s is_voted (was_above (is_below old (round_in s)) refl) in
      record {
        vote = it.vote;
        there = contains_filter (λ v. not (is_over new v)) votes it.vote it.there
            (ap not (subst (λ t. is_below new (round_in t) ≡ false) (sym it.is_for) above));
        is_for = it.is_for;
      }
    where
      wrong : true ≡ false → ⊥
      wrong e = absurd cc

      was_above : (b : Bool) → is_below old (round_in s) ≡ b → is_below old (round_in s) ≡ false
      was_above false e = e
      was_above true e = absurd (wrong (sym (still_over old new (round_in s) up e) ∙ above))

  pub no_others_from :
      (past : Conduct D) (new : Round) (votes : List (Vote G D))
      → ((v : Vote G D) → Contains votes v → HasVoted past (subject_of v))
      → (v : Vote G D) → Contains (from_floor new votes) v → HasVoted past (subject_of v)
  no_others_from past new votes others v there =
      others v (All-contains (Contains votes) (from_floor new votes) v
      (All-filter (λ v. not (is_over new v)) (Contains votes) votes (All-contains_itself votes)) there)
