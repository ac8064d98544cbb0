-- That a quorum stays one where those that do not attest go.
use Rattle.batcher_votes.proofs.Words.{◌≡◌, ◌≤◌, ◌+◌, ℕ, Bool, true, false, nat_le, cond, List, [], ◌++◌, length, filter, append-nil, arith, length-append}
use Rattle.batcher_votes.proofs.Words.{AllPass, All-append, filter_passes, quorum_of, EachOnce, IsQuorum, index_of_signer, checked, Attestation, once_front}
use Rattle.batcher_votes.proofs.Words.{once_filter_end}

module _ {G : Type 0} (n q : ℕ) (enough : quorum_of n ≤ q) (verified pending : List (Attestation G))
    (once : EachOnce index_of_signer (verified ++ pending)) where
  pub once_checked : EachOnce index_of_signer (verified ++ checked q verified pending)
  once_checked =
      elim (nat_le q (length verified)) as (λ b. EachOnce index_of_signer (verified ++ cond b [] pending)) [
        | true ↦ rw append-nil (once_front index_of_signer verified pending once)
        | false ↦ once
      ]

  -- the pending attestations that are checked
  pub IsQuorum-checked : q ≤ length verified + length (checked q verified pending)
      → IsQuorum n (verified ++ checked q verified pending)
  IsQuorum-checked h = record { enough = simp length-append (omega arith); once = once_checked }

  -- those of them that attest
  pub IsQuorum-valid : (t : Attestation G → Bool) → q
      ≤ length verified + length (filter t (checked q verified pending))
      → IsQuorum n (verified ++ filter t (checked q verified pending))
  IsQuorum-valid t h =
      record {
        enough = simp length-append (omega arith);
        once = once_filter_end index_of_signer t
            verified (checked q verified pending) once_checked;
      }

-- verified ones and those that attest all attest
pub AllPass-valid : {G : Type 0} (t : Attestation G → Bool)
    (verified pending : List (Attestation G)) → AllPass t verified
    → AllPass t (verified ++ filter t pending)
AllPass-valid t verified pending h = All-append (λ a. t a ≡ true) verified (filter t pending) h (filter_passes t pending)
