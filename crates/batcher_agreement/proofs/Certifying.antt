-- What is behind certificates that the honest have.
use Rattle.batcher_agreement.proofs.Words.{◌≡◌, ℕ, Bool, true, List, length, subst, Meaning, IsLawful, subject_certified, content_of, Attestation, Certificate}
use Rattle.batcher_agreement.proofs.Words.{Subject, ShowsQuorum, has_signed, Conduct, HasVoted, KeepsPolicy, Knows, IsHonest, IsBackedBy, HoldsFor, AreBacked}
use Rattle.batcher_agreement.proofs.Words.{AreUnforged, IsHeldByHonest, AreFewFaulty}
use Rattle.batcher_agreement.proofs.Counting.{honest_in_both, quorum_signed}

module _ {D K G C : Type 0} (m : Meaning D K G C) (is_faulty : ℕ → Bool)
    (holds : ℕ → Certificate C D → Type 0) (conduct : ℕ → Conduct D) where
  -- All that is supposed, by what each has voted for and learned.
  pub record AreSound : Type 0 where
    pub few_faulty : AreFewFaulty m is_faulty
    pub keep_policy : (i : ℕ) → IsHonest m is_faulty i → KeepsPolicy (conduct i)
    pub hold : (i : ℕ) → IsHonest m is_faulty i → (s : Subject D) → Knows (conduct i) s
        → HoldsFor m is_faulty (holds i) s
    pub backed : AreBacked m is_faulty holds conduct

  -- where attestations are shown, and none is forged
  pub unforged_are_backed :
      IsLawful m → (shown : C → List (Attestation G))
      → ((subject : Subject D) (c : C) → m.certifies subject c ≡ true
      → ShowsQuorum m subject (shown c))
      → AreUnforged m is_faulty shown holds conduct → AreBacked m is_faulty holds conduct
  unforged_are_backed lawful shown shows unforged i honest c held certifies =
      record {
        voted = has_signed m (subject_certified c) (shown (content_of c));
        enough = quorum_signed m lawful (subject_certified c) (shown (content_of c))
            (shows (subject_certified c) (content_of c) certifies);
        unforged = λ j other signed. unforged i honest c held j other signed;
      }

  module _ (sound : AreSound) where
    -- An honest participant that voted for both of two subjects that are certified.
    pub record VotedForBoth (s t : Subject D) : Type 0 where
      pub voter : ℕ
      pub honest : IsHonest m is_faulty voter
      pub first : HasVoted (conduct voter) s
      pub second : HasVoted (conduct voter) t

    held :
        (s : Subject D) (k : IsHeldByHonest m is_faulty conduct s)
        → HoldsFor m is_faulty (holds k.holder) s
    held s k = sound.hold k.holder k.honest s k.knows

    backing :
        (s : Subject D) (k : IsHeldByHonest m is_faulty conduct s)
        → IsBackedBy m is_faulty conduct (held s k).certificate
    backing s k =
        sound.backed k.holder k.honest (held s k).certificate (held s k).held (held s k).certifies

    pub both_voted :
        (s t : Subject D) → IsHeldByHonest m is_faulty conduct s
        → IsHeldByHonest m is_faulty conduct t
        → VotedForBoth s t
    both_voted s t h k =
        let a = backing s h in
        let b = backing t k in
        let it =
        honest_in_both (length m.participants) is_faulty a.voted b.voted
        sound.few_faulty.some sound.few_faulty.few a.enough b.enough in
        let honest : IsHonest m is_faulty it.number = record
        { takes_part = it.below; honest = it.honest } in
        record {
          voter = it.number;
          honest = honest;
          first = subst (HasVoted (conduct it.number)) (held s h).is_of
              (a.unforged it.number honest it.first);
          second = subst (HasVoted (conduct it.number)) (held t k).is_of
              (b.unforged it.number honest it.second);
        }
