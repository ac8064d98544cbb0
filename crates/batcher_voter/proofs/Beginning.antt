-- A voter begins, and learns what its journal has.
use Rattle.batcher_voter.proofs.Words.{◌≡◌, ◌++◌, true, [], ◌∷◌, refl, subst, certifies_itself, round_in, subject_certified, Certificate, VoterHistory, called}
use Rattle.batcher_voter.proofs.Words.{conduct_of, verified, Conduct, KeepsPolicy, started, NodeConfig, NodeRepresents, HasLearned, IsHighest, Learns}
use Rattle.batcher_voter.proofs.Words.{Remembers, HasStarted, IsVoting, VoterView}
use Rattle.batcher_voter.proofs.Calling.{remembers_learned}
use Rattle.batcher_voter.proofs.Grounding.{highest_more, learned_more}

module _ {S D K G C L : Type 0} (x : NodeConfig D K G C) where
  -- a certificate was verified
  pub verified_one :
      (old new : VoterView S G D L) (c : Certificate C D) → certifies_itself x.meaning c ≡ true
      → new.node ≡ old.node → new.journal ≡ old.journal
      → Learns (subject_certified c) old.knowledge new.knowledge
      → (round_in (subject_certified c)).epoch ≡ old.knowledge.epoch
      → (past : VoterHistory D K G C) (earlier : Conduct D) → IsVoting x past earlier old
      → IsVoting x (verified c ∷ past) earlier new
  verified_one old new c certifies node journal learns epoch past earlier is =
      record {
        represents = rw (node) is.represents;
        are_verified = (certifies, is.are_verified);
        written_first = is.written_first;
        keeps_policy = is.keeps_policy;
        has_learned = learned_more (subject_certified c) old.knowledge new.knowledge (conduct_of past)
            learns epoch is.has_learned;
        is_highest = highest_more (subject_certified c) old.knowledge new.knowledge (conduct_of past)
            learns epoch is.is_highest;
        remembers = λ still. rw (journal)
            (remembers_learned (subject_certified c) (conduct_of past ++ earlier) old.journal.contents
            (is.remembers (subst (λ (j : _). j.is_open ≡ true) journal still)));
      }

  pub started_with :
      (old new : VoterView S G D L) (c : Certificate C D) → certifies_itself x.meaning c ≡ true
      → new.node ≡ old.node → new.journal ≡ old.journal
      → Learns (subject_certified c) old.knowledge new.knowledge
      → (round_in (subject_certified c)).epoch ≡ old.knowledge.epoch
      → (earlier : Conduct D) → HasStarted x earlier old → HasStarted x earlier new
  started_with old new c certifies node journal learns epoch earlier has =
      record {
        past = verified c ∷ has.past;
        voting = verified_one old new c certifies node journal learns epoch has.past earlier has.voting;
        asked_nothing = rw (node) has.asked_nothing;
      }

  -- a node and a journal are put together
  pub begun :
      (voter : VoterView S G D L)
      → NodeRepresents x (started voter.node.window ∷ []) voter.node
      → HasLearned voter.knowledge [] → IsHighest voter.knowledge [] → (earlier : Conduct D)
      → KeepsPolicy earlier
      → Remembers earlier voter.journal.contents → HasStarted x earlier voter
  begun voter represents nothing none_known earlier keeps has =
      record {
        past = called (started voter.node.window) ∷ [];
        voting = record {
          represents = represents;
          are_verified = tt;
          written_first = tt;
          keeps_policy = keeps;
          has_learned = nothing;
          is_highest = none_known;
          remembers = λ _. has;
        };
        asked_nothing = refl;
      }
