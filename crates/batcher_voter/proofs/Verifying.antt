-- A voter goes on with a certificate that was verified, though no call of its node took it in.
use Rattle.batcher_voter.proofs.Words.{◌≡◌, ◌≢◌, ◌≤◌, ◌++◌, ◌∙◌, Bool, true, false, ◌∷◌, ap, inl, inr, refl, sym, certifies_itself, round_in, same_round}
use Rattle.batcher_voter.proofs.Words.{same_round-true}
use Rattle.batcher_voter.proofs.Words.{subject_certified, Certificate, Subject, Round, VoterHistory, conduct_of, verified, Conduct, Knows, learned}
use Rattle.batcher_voter.proofs.Words.{NodeConfig, numbered}
use Rattle.batcher_voter.proofs.Words.{HasLearned, IsHighest, KnowledgeView, Learns, learned_of, Learned, with_learned, cond, IsVoting, VoterView}
use Rattle.batcher_voter.proofs.Calling.{remembers_learned}
use Rattle.batcher_voter.proofs.Grounding.{highest_more, learned_more}

module _ {D : Type 0} (s : Subject D) (knowledge : KnowledgeView D) (past : Conduct D)
    (other : (round_in s).epoch ≢ knowledge.epoch) where
  of_another :
      (number : Round) → number.epoch ≡ knowledge.epoch → (same : Bool)
      → same_round (round_in s) number ≡ same
      → (before : Learned D) → cond same (with_learned s before) before ≡ before
  of_another number is true e before =
      absurd (other (ap (λ (r : Round). r.epoch) (same_round-true (round_in s) number e) ∙ is))
  of_another number is false e before = refl

  -- what is of another epoch changes nothing
  pub learned_another : HasLearned knowledge past → HasLearned knowledge (learned s ∷ past)
  learned_another has view from =
      has view from
      ∙ sym (of_another (numbered knowledge.epoch view) refl
      (same_round (round_in s) (numbered knowledge.epoch view)) refl
      (learned_of past (numbered knowledge.epoch view)))

  pub highest_another : IsHighest knowledge past → IsHighest knowledge (learned s ∷ past)
  highest_another is =
      record {
        none_above = λ t known same. above t known same;
        is_known = elim (is.is_known) [
          | inl floor ↦ inl floor
          | inr one ↦ inr (record { subject = one.subject; of_round = one.of_round; known = inr one.known })
        ];
        from_floor = is.from_floor;
      }
    where
      above :
          (t : Subject D) → Knows (learned s ∷ past) t → (round_in t).epoch ≡ knowledge.epoch
          → (round_in t).view.0 ≤ knowledge.highest
      above t (inl e) same = absurd (other (ap (λ u. (round_in u).epoch) e ∙ same))
      above t (inr known) same = is.none_above t known same

module _ {S D K G C L : Type 0} (x : NodeConfig D K G C) (old new : VoterView S G D L)
    (c : Certificate C D) (certifies : certifies_itself x.meaning c ≡ true)
    (node : new.node ≡ old.node) (contents : new.journal.contents ≡ old.journal.contents)
    (is_open : new.journal.is_open ≡ old.journal.is_open) where
  pub learns_one :
      Learns (subject_certified c) old.knowledge new.knowledge
      → (round_in (subject_certified c)).epoch ≡ old.knowledge.epoch
      → (past : VoterHistory D K G C) (earlier : Conduct D) → IsVoting x past earlier old
      → IsVoting x (verified c ∷ past) earlier new
  learns_one learns epoch past earlier is =
      record {
        represents = rw (node) is.represents;
        are_verified = (certifies, is.are_verified);
        written_first = is.written_first;
        keeps_policy = is.keeps_policy;
        has_learned = learned_more (subject_certified c) old.knowledge new.knowledge (conduct_of past)
            learns epoch is.has_learned;
        is_highest = highest_more (subject_certified c) old.knowledge new.knowledge (conduct_of past)
            learns epoch is.is_highest;
        remembers = λ still. rw (contents)
            (remembers_learned (subject_certified c) (conduct_of past ++ earlier) old.journal.contents
            (is.remembers (sym is_open ∙ still)));
      }

  pub passes_one :
      new.knowledge ≡ old.knowledge
      → (round_in (subject_certified c)).epoch ≢ old.knowledge.epoch
      → (past : VoterHistory D K G C) (earlier : Conduct D) → IsVoting x past earlier old
      → IsVoting x (verified c ∷ past) earlier new
  passes_one knowledge other past earlier is =
      record {
        represents = rw (node) is.represents;
        are_verified = (certifies, is.are_verified);
        written_first = is.written_first;
        keeps_policy = is.keeps_policy;
        has_learned = rw (knowledge) (learned_another (subject_certified c) old.knowledge
            (conduct_of past) other is.has_learned);
        is_highest = rw (knowledge) (highest_another (subject_certified c) old.knowledge
            (conduct_of past) other is.is_highest);
        remembers = λ still. rw (contents)
            (remembers_learned (subject_certified c) (conduct_of past ++ earlier) old.journal.contents
            (is.remembers (sym is_open ∙ still)));
      }
