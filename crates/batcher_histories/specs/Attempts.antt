-- One attempt of a round at a certificate, as far as a history determines it: the scheme may choose
-- between a certificate at once and one that leaves bad votes out.
use Rattle.std.specs.Prelude.{◌≡◌, ◌≢◌, ◌+◌, ◌<◌, ◌≤◌, ◌⊎◌, ℕ, Bool, true, false, not, cond, ◌&&◌}
use Rattle.std.specs.Prelude.{nat_le, List, [], ◌++◌, length, is_some, IfSome, filter, map}
use Rattle.std.specs.List.{list_all}
use Rattle.batcher_types.specs.declared.positions.Participant.{Participant}
use Rattle.batcher_types.specs.declared.messages.Subject.{Subject}
use Rattle.batcher_types.specs.declared.messages.Vote.{Vote}
use Rattle.batcher_types.specs.declared.messages.Kind.{Kind}
use Rattle.batcher_types.specs.declared.messages.Certificate.{Certificate}
use Rattle.batcher_votes.specs.declared.verifier.Batch.{Batch}
use Rattle.batcher_histories.specs.Config.{Config, quorum_in}
use Rattle.batcher_types.specs.Lists.{SameElements}
use Rattle.batcher_types.specs.Votes.{attestation_of, subject_of, subject_certified, same_subject}
use Rattle.batcher_votes.specs.Verifiers.{certifies_itself}
use Rattle.batcher_histories.specs.History.{History}
use Rattle.batcher_histories.specs.Eligible.{is_valid, proven_votes, fresh_votes}

-- the pending votes that an attempt looks at: none where the verified ones are a quorum
abbrev pub votes_checked : {V : Type 0} → ℕ → List V → List V → List V
votes_checked q verified pending = cond (nat_le q (length verified)) [] pending

module _ {D K G C : Type 0} (x : Config D K G C) where
  -- the signers of the votes that don't attest
  abbrev pub bad_signers : List (Vote G D) → List Participant
  bad_signers votes = map (λ v. (attestation_of v).signer) (filter (λ v. not (is_valid x v)) votes)

  -- The votes reach the quorum, and the scheme gave a certificate of them together.
  pub record GivenAtOnce (verified pending : List (Vote G D)) (batch : Batch (Certificate C D)) :
      Type 0 where
    pub reached : quorum_in x ≤ length verified + length pending
    pub certificate : is_some batch.certificate ≡ true
    pub invalid : batch.invalid ≡ []
    pub fallback : batch.fallback ≡ false

  -- The votes reach the quorum, and the pending ones were verified one by one, since some are bad.
  pub record FellBack (verified pending : List (Vote G D)) (batch : Batch (Certificate C D)) : Type
      0 where
    pub reached : quorum_in x ≤ length verified + length pending
    pub some_bad : bad_signers pending ≢ []
    pub certificate : is_some batch.certificate
        ≡ nat_le (quorum_in x) (length (verified ++ filter (is_valid x) pending))
    pub invalid : batch.invalid ≡ bad_signers pending
    pub fallback : batch.fallback ≡ true

  -- The votes don't reach the quorum, and the pending ones were verified one by one.
  pub record OnlyVerified (verified pending : List (Vote G D)) (batch : Batch (Certificate C D)) :
      Type 0 where
    pub unreached : length verified + length pending < quorum_in x
    pub certificate : is_some batch.certificate ≡ false
    pub invalid : batch.invalid ≡ bad_signers pending
    pub fallback : batch.fallback ≡ false

  -- whether the certificate is of the subject and certifies it
  abbrev pub certifies_subject : Subject D → Certificate C D → Bool
  certifies_subject subject certificate =
      same_subject x.same_digest subject (subject_certified certificate)
      && certifies_itself x.meaning certificate

  -- whether all votes are of the subject
  abbrev pub are_of : Subject D → List (Vote G D) → Bool
  are_of subject votes = list_all (λ v. same_subject x.same_digest subject (subject_of v)) votes

  -- an attempt with these verified and pending votes, all that it looks at being of one subject
  pub record Attempt (verified pending : List (Vote G D)) (batch : Batch (Certificate C D)) : Type 0
    where
      pub subject : Subject D
      pub one_subject : are_of subject (verified ++ votes_checked (quorum_in x) verified pending)
          ≡ true
      pub processed : batch.processed ≡ length (votes_checked (quorum_in x) verified pending)
      pub certified : IfSome batch.certificate (λ c. certifies_subject subject c ≡ true)
      pub way :
          GivenAtOnce verified (votes_checked (quorum_in x) verified pending) batch
          ⊎ (FellBack verified (votes_checked (quorum_in x) verified pending) batch
          ⊎ OnlyVerified verified (votes_checked (quorum_in x) verified pending) batch)

  -- the votes that stay verified where it gives no certificate, while none stay pending
  abbrev pub left_verified : List (Vote G D) → List (Vote G D) → List (Vote G D)
  left_verified verified pending =
      verified ++ filter (is_valid x) (votes_checked (quorum_in x) verified pending)

  -- an attempt with the proven and the fresh votes of a kind, each in some order
  pub record AttemptAfter (past : History D K G C) (kind : Kind) (batch : Batch (Certificate C D)) :
      Type 0 where
    pub verified : List (Vote G D)
    pub pending : List (Vote G D)
    pub verified_are : SameElements verified (proven_votes x past kind)
    pub pending_are : SameElements pending (fresh_votes x past kind)
    pub attempt : Attempt verified pending batch
