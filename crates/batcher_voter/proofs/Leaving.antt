-- What a crash leaves remembers what was done.
use Rattle.batcher_voter.proofs.Words.{◌≡◌, ◌++◌, ℕ, List, Bool, true, [], ◌∷◌, inl, inr, subst, subject_of, Vote, Round, conduct_of, Conduct, IsCleared}
use Rattle.batcher_voter.proofs.Words.{KeepsPolicy, voted, Format, IsOneText, RaiseLeaves, WriteLeaves, raised, with_more, Contents, IsText, OwnerFields}
use Rattle.batcher_voter.proofs.Words.{NodeConfig, IsLeft, Remembers, ForEachLife, LeavesVote, LeavesWhatWasDone, VoterView}
use Rattle.batcher_voter.proofs.Finalizing.{remembers_raised}
use Rattle.batcher_voter.proofs.Voting.{remembers_vote}

module _ {G D : Type 0} (format : Format (Vote G D)) (one : IsOneText format) (past : Conduct D)
    (keeps : KeepsPolicy past) (contents : Contents G D) (has : Remembers past contents) where
  is_left : (left : List ℕ) → IsText format left contents → IsLeft format past left
  is_left left text =
      record {
        keeps_policy = keeps;
        remembers = λ found again.
            subst (Remembers past) (one left contents found text again) has;
      }

module _ {S D K G C L : Type 0} (x : NodeConfig D K G C) (format : Format (Vote G D))
    (same : D → D → Bool) (one : IsOneText format) (voter : VoterView S G D L)
    (is_open : voter.journal.is_open ≡ true) (left : List ℕ) where
  -- what is on the disk
  pub rests :
      IsText format left voter.journal.contents
      → ForEachLife x voter (λ past earlier. LeavesWhatWasDone format past earlier left)
  rests text past earlier is =
      is_left format one (conduct_of past ++ earlier) is.keeps_policy voter.journal.contents
      (is.remembers is_open) left text

  -- where a vote is written
  pub leaves_vote :
      (vote : Vote G D) → WriteLeaves format same voter.journal (vote ∷ []) left
      → ForEachLife x voter
      (λ past earlier. IsCleared (conduct_of past ++ earlier) (subject_of vote))
      → ForEachLife x voter (λ past earlier. LeavesVote format past earlier vote left)
  leaves_vote vote (inl text) cleared past earlier is = inl (rests text past earlier is)
  leaves_vote vote (inr it) cleared past earlier is =
      inr (is_left format one (voted (subject_of vote) ∷ (conduct_of past ++ earlier))
      (cleared past earlier is, is.keeps_policy)
      (with_more voter.journal.contents (vote ∷ []) voter.journal.unwritten)
      (remembers_vote (conduct_of past ++ earlier) voter.journal.contents vote voter.journal.unwritten
      (is.remembers is_open)) left it.1)

  -- where the floor is raised
  pub leaves_raised :
      (owner : OwnerFields) (floor : Round) (finalization : List ℕ)
      → RaiseLeaves format same voter.journal owner floor finalization left
      → ForEachLife x voter (λ past earlier. LeavesWhatWasDone format past earlier left)
  leaves_raised owner floor finalization (inl text) past earlier is = rests text past earlier is
  leaves_raised owner floor finalization (inr it) past earlier is =
      is_left format one (conduct_of past ++ earlier) is.keeps_policy
      (raised voter.journal.contents voter.journal.unwritten owner floor finalization)
      (remembers_raised (conduct_of past ++ earlier) voter.journal.contents voter.journal.unwritten owner
      floor finalization it.0 (is.remembers is_open)) left it.1
