-- The parts of a list that is all that the next construction looks at.
use Rattle.batcher_verdicts.proofs.Words.{◌≡◌, ◌∙◌, ◌+◌, ◌≤◌, ◌++◌, ℕ, List, ap, drop, length, subst, take, drop-append_seam, length-append, take-append-drop}
use Rattle.batcher_verdicts.proofs.Words.{Attestation, Subject, RoundState, Config, quorum_in, pending_next, verified_next, MayBeQuorumNext, IsWhole}

pub all_parts : {A : Type 0} (list : List A) (known : ℕ) (prior fresh : List A)
    → prior ≡ take known list → fresh ≡ drop known list → prior ++ fresh ≡ list
all_parts list known prior fresh front back = rw (front, back) (take-append-drop known list)

module _ {D K G C : Type 0} (x : Config D K G C) (held : RoundState G D) (subject : Subject D)
    (list : List (Attestation G)) (known : ℕ) (whole : IsWhole x held subject list known) where
  -- What comes after those that are known to attest is all that waits.
  pub rest_of : (fresh : List (Attestation G)) → fresh ≡ drop known list
      → fresh ≡ pending_next x held
  rest_of fresh back =
      back ∙ ap (drop known) whole.parts
      ∙ ap (λ k. drop k (verified_next x held ++ pending_next x held)) whole.count
      ∙ drop-append_seam (verified_next x held) (pending_next x held)

  pub enough_of : MayBeQuorumNext x held
  enough_of =
      let count : length list ≡ length (verified_next x held) + length (pending_next x held) =
      ap length whole.parts ∙ length-append (verified_next x held) (pending_next x held) in
      subst (λ n. quorum_in x ≤ n) count whole.quorum.enough
