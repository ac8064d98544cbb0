-- A certificate that waited is kept, and nothing else changes.
use Rattle.batcher_voter.proofs.Words.{◌≡◌, ◌≢◌, ◌++◌, [], ◌∷◌, ◌∙◌, Bool, true, ap, subst, sym, Contains, inl, inr, ⊎_elim, round_in, signer_of, subject_of}
use Rattle.batcher_voter.proofs.Words.{Subject, Vote, VoterHistory, conduct_of, Conduct, IsFree, Contents, NodeConfig, NodeView, KnowledgeView, IsRefused}
use Rattle.batcher_voter.proofs.Words.{RestsOnLearned, ForEachLife, IsVoting, MayGain, Permits, Says, VoterStays, VoterView, WhyNotCast, WhyNotShown, CastFault}
use Rattle.batcher_voter.proofs.Words.{ℕ, List, Ok, Err, Result, ⊤, CopyView, Format, HasNoRoomFor, KeepsCopy, WritesVote}
use Rattle.batcher_voter.proofs.Words.{NotOpen, Excluded, NoRoom, NotOwn, NoMemory, RefusedBy, Signed, Sign, RefusedVote, is_of}

module _ {S D K G C L : Type 0} (x : NodeConfig D K G C) (old new : VoterView S G D L)
    (node : new.node ≡ old.node) (knowledge : new.knowledge ≡ old.knowledge)
    (contents : new.journal.contents ≡ old.journal.contents)
    (is_open : new.journal.is_open ≡ old.journal.is_open) where
  pub same_voting : VoterStays x old new
  same_voting past earlier is =
      record {
        represents = rw (node) is.represents;
        are_verified = is.are_verified;
        written_first = is.written_first;
        keeps_policy = is.keeps_policy;
        has_learned = rw (knowledge) is.has_learned;
        is_highest = rw (knowledge) is.is_highest;
        remembers = λ still. rw (contents) (is.remembers (sym is_open ∙ still));
      }

module _ {S D K G C L : Type 0} (x : NodeConfig D K G C) (same : D → D → Bool)
    (old mid : VoterView S G D L)
    (node : mid.node ≡ old.node) (knowledge : mid.knowledge ≡ old.knowledge)
    (contents : mid.journal.contents ≡ old.journal.contents)
    (is_open : mid.journal.is_open ≡ old.journal.is_open) where
  pub from_mid :
      (holds : VoterHistory D K G C → Conduct D → Type 0) → ForEachLife x mid holds
      → ForEachLife x old holds
  from_mid holds each past earlier is =
      each past earlier (same_voting x old mid node knowledge contents is_open past earlier is)

  back :
      (past : VoterHistory D K G C) (earlier : Conduct D) → IsVoting x past earlier mid
      → IsVoting x past earlier old
  back = same_voting x mid old (sym node) (sym knowledge) (sym contents) (sym is_open)

  pub says_still : (s : Subject D) → Says x same old s Sign → Says x same mid s Sign
  says_still s (opened, (free, within)) = (
    is_open ∙ opened,
    (
      subst (λ (c : Contents G D). IsFree same c.votes s) (sym contents) free,
      subst (λ (n : NodeView S G D). is_of x.epoch n.window (round_in s) ≡ true) (sym node) within,
    ),
  )

  pub permits_still :
      (s : Subject D) → ForEachLife x old (Permits x same old s Sign)
      → ForEachLife x mid (Permits x same mid s Sign)
  permits_still s permits past earlier is =
      let it = permits past earlier (back past earlier is) in (
        it.0,
        (
          it.1.0,
          subst (λ (k : KnowledgeView D). RestsOnLearned (conduct_of past) k.floor s)
              (sym knowledge) it.1.1,
        ),
      )

  permits_back :
      (s : Subject D) → ForEachLife x mid (Permits x same mid s Sign)
      → ForEachLife x old (Permits x same old s Sign)
  permits_back s permits past earlier is =
      let it = from_mid (Permits x same mid s Sign) permits past earlier is in (
        it.0,
        (
          it.1.0,
          subst (λ (k : KnowledgeView D). RestsOnLearned (conduct_of past) k.floor s) knowledge it.1.1,
        ),
      )

  pub why_still :
      (vote : Vote G D) (fault : CastFault G D) (new : VoterView S G D L)
      → WhyNotCast x same mid vote fault new → WhyNotCast x same old vote fault new
  why_still vote (RefusedBy rule) new why = λ past earlier is.
      subst (λ (k : KnowledgeView D). IsRefused same (conduct_of past ++ earlier) (conduct_of past) k.floor
      rule (subject_of vote)) knowledge
      (from_mid (Permits x same mid (subject_of vote) (RefusedVote rule)) why past earlier is)
  why_still vote NotOwn new why =
      subst (λ (c : Contents G D). signer_of vote ≢ c.owner.1.1.0) contents why
  why_still vote (Signed known) new why =
      (subst (λ (c : Contents G D). Contains c.votes known) contents why.0, why.1)
  why_still vote NotOpen new why = why
  why_still vote NoRoom new why = why
  why_still vote (Excluded fault) new why =
      subst (λ (n : NodeView S G D). WhyNotShown x n vote (Excluded fault)) node why
  why_still vote NoMemory new (opened, why) = (
    opened,
    ⊎_elim
        (λ it. inl (record {
          permits = permits_back (subject_of vote) it.permits;
          contents = it.contents ∙ contents;
        }))
        (λ it. inr (subst (λ (n : NodeView S G D). WhyNotShown x n vote NoMemory) node it))
        why,
  )

  pub gains_still :
      (vote : Vote G D) (new : VoterView S G D L) → MayGain vote mid.journal new.journal
      → MayGain vote old.journal new.journal
  gains_still vote new gains still =
      let it = gains still in (
        sym is_open ∙ it.0,
        (
          it.1.0 ∙ ap (λ (c : Contents G D). c.floor) contents,
          ⊎_elim
              (λ e. inl (e ∙ ap (λ (c : Contents G D). c.votes) contents))
              (λ e. inr (e ∙ ap (λ (c : Contents G D). c.votes ++ vote ∷ []) contents))
              it.1.1,
        ),
      )

-- A vote that is written then is written.
pub written_still :
    {S D K G C L : Type 0} (x : NodeConfig D K G C) (same : D → D → Bool)
    (format : Format (Vote G D)) (is_full : L → List ℕ → Type 0) (is_honest : L → Type 0)
    (may_leave : L → List ℕ → Type 0) (is_copied_as : L → CopyView → Type 0)
    (old mid : VoterView S G D L) (node : mid.node ≡ old.node)
    (knowledge : mid.knowledge ≡ old.knowledge)
    (contents : mid.journal.contents ≡ old.journal.contents)
    (is_open : mid.journal.is_open ≡ old.journal.is_open) (log : mid.journal.log ≡ old.journal.log)
    (vote : Vote G D) (new : VoterView S G D L) (result : Result ⊤ (CastFault G D))
    → WritesVote x same format is_full is_honest may_leave is_copied_as mid vote new result
    → WritesVote x same format is_full is_honest may_leave is_copied_as old vote new result
written_still x same format is_full is_honest may_leave is_copied_as old mid node knowledge contents is_open
    log vote new (Ok done) it =
    record {
      ok = from_mid x same old mid node knowledge contents is_open _ it.ok;
      err = tt;
      is_open = it.is_open;
      there = it.there;
      all = it.all;
      closed = it.closed;
      why = tt;
      full = λ e. subst (λ l. HasNoRoomFor format is_full l (vote ∷ []) new.journal.unwritten) log (it.full e);
      leaves = λ left honest may. from_mid x same old mid node knowledge contents is_open _ (it.leaves left honest may);
      gains = gains_still x same old mid node knowledge contents is_open vote new it.gains;
      node = it.node ∙ node;
      copied = subst (λ l. KeepsCopy is_copied_as l new.journal.log) log it.copied;
    }
written_still x same format is_full is_honest may_leave is_copied_as old mid node knowledge contents is_open
    log vote new (Err fault) it =
    record {
      ok = tt;
      err = from_mid x same old mid node knowledge contents is_open _ it.err;
      is_open = it.is_open;
      there = it.there;
      all = it.all;
      closed = it.closed;
      why = why_still x same old mid node knowledge contents is_open vote fault new it.why;
      full = λ e. subst (λ l. HasNoRoomFor format is_full l (vote ∷ []) new.journal.unwritten) log (it.full e);
      leaves = λ left honest may. from_mid x same old mid node knowledge contents is_open _ (it.leaves left honest may);
      gains = gains_still x same old mid node knowledge contents is_open vote new it.gains;
      node = it.node ∙ node;
      copied = subst (λ l. KeepsCopy is_copied_as l new.journal.log) log it.copied;
    }
