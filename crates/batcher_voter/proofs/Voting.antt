-- A voter goes on: a vote is written, a node is called, a certificate is learned.
use Rattle.batcher_voter.proofs.Words.{◌≡◌, ◌++◌, zero, suc, Bool, true, false, List, [], ◌∷◌, append-nil, arith, refl, subst, sym, Contains}
use Rattle.batcher_voter.proofs.Words.{Contains-append_right, round_in, subject_of, Vote, Round, VoterHistory, conduct_of, written, Conduct, IsCleared, voted}
use Rattle.batcher_voter.proofs.Words.{MayBeWrittenBehind, IsFree, is_below, with_more, Certified, Contents, NodeConfig, Remembers, IsVoting, VoterView}
use Rattle.batcher_voter.proofs.Grounding.{highest_voted}
use Rattle.batcher_voter.proofs.Writing.{are_there_with, no_others_with}

module _ {G D : Type 0} where
  pub remembers_vote :
      (past : Conduct D) (contents : Contents G D) (vote : Vote G D) (certificates : List Certified)
      → Remembers past contents
      → Remembers (voted (subject_of vote) ∷ past) (with_more contents (vote ∷ []) certificates)
  remembers_vote past contents vote certificates has =
      record {
        are_there = are_there_with past contents.floor contents.votes vote has.are_there;
        no_others = no_others_with past contents.votes vote has.no_others;
      }

module _ {S D K G C L : Type 0} (x : NodeConfig D K G C) (old new : VoterView S G D L)
    (vote : Vote G D) where
  -- a vote that was cleared is written
  pub wrote :
      old.journal.is_open ≡ true
      → new.journal.contents ≡ with_more old.journal.contents (vote ∷ []) old.journal.unwritten
      → new.node ≡ old.node → new.knowledge ≡ old.knowledge
      → (past : VoterHistory D K G C) (earlier : Conduct D)
      → IsCleared (conduct_of past ++ earlier) (subject_of vote)
      → IsVoting x past earlier old → IsVoting x (written vote ∷ past) earlier new
  wrote is_open contents node knowledge past earlier cleared is =
      record {
        represents = rw (node) is.represents;
        are_verified = is.are_verified;
        written_first = is.written_first;
        keeps_policy = (cleared, is.keeps_policy);
        has_learned = rw (knowledge) is.has_learned;
        is_highest = rw (knowledge) (highest_voted (subject_of vote) old.knowledge (conduct_of past) is.is_highest);
        remembers = λ still. rw (contents) (remembers_vote (conduct_of past ++ earlier)
            old.journal.contents vote old.journal.unwritten (is.remembers is_open));
      }

-- a vote that is free may be written
pub may_follow_one :
    {G D : Type 0} (same : D → D → Bool) (floor : Round) (votes : List (Vote G D)) (vote : Vote G D)
    → IsFree same votes (subject_of vote) → is_below floor (round_in (subject_of vote)) ≡ false
    → MayBeWrittenBehind same floor votes (vote ∷ [])
may_follow_one same floor votes vote free above zero v lt e =
    (subst (λ w. IsFree same (votes ++ []) (subject_of w)) (sym e) (rw (append-nil votes) free), rw (e) above)
may_follow_one same floor votes vote free above (suc i) v lt e = absurd (omega arith)

pub there_at_end :
    {G D : Type 0} (votes all : List (Vote G D)) (vote : Vote G D) → all ≡ votes ++ vote ∷ []
    → Contains all vote
there_at_end votes all vote e =
    subst (λ vs. Contains vs vote) (sym e)
    (Contains-append_right votes (vote ∷ []) vote (0, omega arith, refl))
