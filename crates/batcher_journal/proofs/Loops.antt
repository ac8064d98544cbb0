-- What holds of all votes of a list, as a loop goes over it.
use Rattle.batcher_journal.proofs.Words.{◌≡◌, ◌+◌, ◌<◌, ◌≤◌, ℕ, Bool, List, [], ◌∷◌, get_or, length, subst, sym, take, All, take_all, take_more, All-append}
use Rattle.batcher_journal.proofs.Words.{All-cons, All-nil, IsFree, LeavesFree, Subject, Vote}

module _ {G D : Type 0} (same : D → D → Bool) (votes : List (Vote G D)) (subject : Subject D) (i : ℕ) where
  pub one_more : (vote : Vote G D) → i < length votes → vote ≡ get_or votes i vote
      → IsFree same (take i votes) subject → LeavesFree same subject vote
      → IsFree same (take (i + 1) votes) subject
  one_more vote lt is so_far here =
      let P = LeavesFree same subject in
      subst (All P) (sym (take_more votes i vote lt))
      (All-append P (take i votes) (get_or votes i vote ∷ []) so_far
      (All-cons P (get_or votes i vote) [] (subst P is here) (All-nil P)))

  pub all_seen : length votes ≤ i → IsFree same (take i votes) subject → IsFree same votes subject
  all_seen le so_far = subst (All (LeavesFree same subject)) (take_all i votes le) so_far
