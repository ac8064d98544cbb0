-- A validator's own vote is cast.
use Rattle.batcher_validator.proofs.Words.{◌≡◌, ℕ, ◌++◌, [], ◌∷◌, Some, None, inl, inr, refl, subst, sym, Certificate, Vote, VoterHistory, called, written}
use Rattle.batcher_validator.proofs.Words.{Conduct, cause_in, vote_cast, NodeConfig, ToSend, KnownVote, OutsideVote, Activity, Outcome, Option, AreKept}
use Rattle.batcher_validator.proofs.Words.{AreSilent}
use Rattle.batcher_validator.proofs.Words.{ForEachRun, IsRunning, RunCasts, RunMayWrite, RunWrites, ValidatorView, calls_in, HasHad, ValidatorHistory, only_did}
use Rattle.batcher_validator.proofs.Words.{voter_history, window_by, MayGain, Casts, ForEachLife, IsVoting, IsWritten, MayWrite, WritesAndCalls}
use Rattle.batcher_node.specs.declared.answers.Cast.{Cast}
use Rattle.batcher_validator.proofs.Going.{goes_on, had_more, or_none, sent_gained}
use Rattle.batcher_validator.proofs.Keeping.{kept_still}

module _ {S D K G C L : Type 0} (x : NodeConfig D K G C) (old new : ValidatorView S G D L C)
    (vote : Vote G D) (gains : MayGain vote old.voter.journal new.voter.journal)
    (given : new.given ≡ old.given) (shelf : new.shelf ≡ old.shelf) where
  goes :
      (more : VoterHistory D K G C) (past : ValidatorHistory D K G C) (earlier : Conduct D)
      → (window_by (only_did more ++ past)).finalized ≡ (window_by past).finalized
      → ((i : ℕ) → cause_in x (calls_in (only_did more ++ past)) i ≡ cause_in x (calls_in past) i)
      → ((c : Certificate C D) → HasHad (only_did more ++ past) c → HasHad past c)
      → AreSilent x (only_did more ++ past) old.given.presence
      → IsRunning x past earlier old
      → IsVoting x (more ++ voter_history past) earlier new.voter
      → IsRunning x (only_did more ++ past) earlier new
  goes more past earlier window quiet had hears is voting =
      goes_on x old new more past earlier (λ n. n) is voting
      (λ still. (
        (gains still).0,
        λ is_exempt Was count are. sent_gained is_exempt Was old.voter.journal new.voter.journal count vote gains still (λ opened. are),
      ))
      (λ yes. (yes, λ i. quiet i))
      old.given.presence hears given
      (subst (λ s. AreKept x (only_did more ++ past) s.certificates) (sym shelf)
      (kept_still x past (only_did more ++ past) window old.shelf.certificates had (had_more more past) is.kept))
      (rw (shelf, window) is.certificates)

  module _ (outcome : Outcome) (report : Option (Activity G D)) where
    writes :
        (past : ValidatorHistory D K G C) (earlier : Conduct D) → IsRunning x past earlier old
        → WritesAndCalls x vote (vote_cast vote outcome report)
        (voter_history past) earlier new.voter
        → RunWrites x vote (vote_cast vote outcome report) past earlier new
    writes past earlier is it = of_cases it.is_written
      where
        of_cases : IsWritten vote (voter_history past) earlier it.between
            → RunWrites x vote (vote_cast vote outcome report) past earlier new
        of_cases (inl before) =
            record {
              more = [];
              is_written = inl (refl, before.1);
              running = goes (called (vote_cast vote outcome report) ∷ []) past earlier refl (λ i. or_none (cause_in x (calls_in past) i))
                  (λ c had. elim had [
                    | inl held ↦ absurd cc
                    | inr rest ↦ rest
                  ]) is.hears is
                  (subst (λ h. IsVoting x (called (vote_cast vote outcome report) ∷ h) earlier new.voter) before.0 it.voting);
            }
        of_cases (inr now) =
            record {
              more = written vote ∷ [];
              is_written = inr refl;
              running = goes (called (vote_cast vote outcome report) ∷ written vote ∷ []) past earlier refl (λ i. or_none (cause_in x (calls_in past) i))
                  (λ c had. elim had [
                    | inl held ↦ absurd cc
                    | inr (inl held) ↦ absurd cc
                    | inr (inr rest) ↦ rest
                  ]) is.hears is
                  (subst (λ h. IsVoting x (called (vote_cast vote outcome report) ∷ h) earlier new.voter) now it.voting);
            }

  pub casts_run : (cast : Cast G D) → Casts x old.voter vote cast new.voter
      → (new.voter ≡ old.voter → new ≡ old) → RunCasts x old vote cast new
  casts_run (ToSend report) casts back = (
    casts.0,
    λ past earlier is. writes casts.0 (Some report) past earlier is
        (casts.1 (voter_history past) earlier is.voting),
  )
  casts_run KnownVote casts back = (
    casts.0,
    λ past earlier is. writes casts.0 None past earlier is
        (casts.1 (voter_history past) earlier is.voting),
  )
  casts_run OutsideVote casts back = (casts.0, back casts.1)

  pub may_write_run :
      ForEachLife x old.voter (λ past earlier. MayWrite x vote past earlier new.voter)
      → ForEachRun x old (λ past earlier. RunMayWrite x vote past earlier new)
  may_write_run may past earlier is = of_may (may (voter_history past) earlier is.voting)
    where
      of_may : MayWrite x vote (voter_history past) earlier new.voter
          → RunMayWrite x vote past earlier new
      of_may it = elim (it.is_written) [
        | inl same ↦ record {
          more = [];
          is_written = inl refl;
          running = goes [] past earlier refl (λ i. refl) (λ c had. had) is.hears is
              (subst (λ h. IsVoting x h earlier new.voter) same it.voting);
        }
        | inr one ↦ record {
          more = written vote ∷ [];
          is_written = inr refl;
          running = goes (written vote ∷ []) past earlier refl (λ i. refl)
              (λ c had. elim had [
                | inl held ↦ absurd cc
                | inr rest ↦ rest
              ]) is.hears is
              (subst (λ h. IsVoting x h earlier new.voter) one it.voting);
        }
      ]
