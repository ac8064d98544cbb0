-- What a call of the node leaves as it was.
use Rattle.batcher_voter.proofs.Words.{Bool, ◌≡◌, ◌∙◌, true, false, ◌∷◌, inr, refl, subst, sym, round_in, subject_of, Vote, written, NodeConfig, is_of, Cast}
use Rattle.batcher_voter.proofs.Words.{ToSend, CastFault, NotOpen, Excluded, NoRoom, NotOwn, NoMemory, RefusedBy, Signed, WhyNotCast, WhyNotShown, Casts}
use Rattle.batcher_voter.proofs.Words.{ForEachLife, IsVoting, MayWrite, Shows, VoterView}
use Rattle.batcher_node.specs.declared.answers.Cast.TheVariants.{Known, Outside}

module _ {S D K G C L : Type 0} (x : NodeConfig D K G C) (old between new : VoterView S G D L)
    (vote : Vote G D)
    (ok : ForEachLife x old (λ past earlier. IsVoting x (written vote ∷ past) earlier between)) where
  -- a vote was written, and was shown to the node then
  pub wrote_and_shown :
      (cast : Cast G D) → Shows x between vote cast new → between.node ≡ old.node
      → is_of x.epoch old.node.window (round_in (subject_of vote)) ≡ true
      → Casts x old vote cast new
  wrote_and_shown (ToSend report) shows node within = (
    shows.0,
    λ past earlier is. record {
      between = written vote ∷ past;
      is_written = inr refl;
      voting = shows.1 (written vote ∷ past) earlier (ok past earlier is);
    },
  )
  wrote_and_shown Known shows node within = (
    shows.0,
    λ past earlier is. record {
      between = written vote ∷ past;
      is_written = inr refl;
      voting = shows.1 (written vote ∷ past) earlier (ok past earlier is);
    },
  )
  wrote_and_shown Outside shows node within =
      absurd (wrong (sym within ∙ subst (λ n. is_of x.epoch n.window (round_in (subject_of vote)) ≡ false) node shows.0))
    where
      wrong : true ≡ false → ⊥
      wrong e = absurd cc

  pub wrote_alone :
      new ≡ between → ForEachLife x old (λ past earlier. MayWrite x vote past earlier new)
  wrote_alone same past earlier is =
      record {
        after = written vote ∷ past;
        is_written = inr refl;
        voting = subst (IsVoting x (written vote ∷ past) earlier) (sym same) (ok past earlier is);
      }

pub why_not_shown :
    {S D K G C L : Type 0} (x : NodeConfig D K G C) (same : D → D → Bool)
    (old new : VoterView S G D L)
    (vote : Vote G D) (fault : CastFault G D) → new.journal.is_open ≡ true
    → WhyNotShown x old.node vote fault → WhyNotCast x same old vote fault new
why_not_shown x same old new vote NoMemory opened why = (opened, inr why)
why_not_shown x same old new vote (Excluded fault) opened why = why
why_not_shown x same old new vote NoRoom opened why = absurd why
why_not_shown x same old new vote NotOwn opened why = absurd why
why_not_shown x same old new vote (Signed known) opened why = absurd why
why_not_shown x same old new vote (RefusedBy rule) opened why = absurd why
why_not_shown x same old new vote NotOpen opened why = absurd why
