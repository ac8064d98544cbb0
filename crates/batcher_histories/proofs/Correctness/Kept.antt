-- What a round keeps true through its calls.
use Rattle.batcher_histories.proofs.Words.{◌≡◌, ◌∙◌, ◌≤◌, ◌==◌, ◌++◌, ◌∷◌, [], ℕ, Bool, true, false, cond, List, length, Option, Some, None, is_some, refl, sym}
use Rattle.batcher_histories.proofs.Words.{ap, subst, arith, find, Result, Ok, Err, OnOk, OnErr, option_map, none-some, LeaderFault, NotarizeVote, Participant}
use Rattle.batcher_histories.proofs.Words.{Notarize, Proposal, Kind, Notarization, Nullification, Finalization, Mode, Retaining, Releasing, Skipped, quorum_of}
use Rattle.batcher_histories.proofs.Words.{count, Meaning, signer_of, is_vote_of, of_kind, TrackerState, VerifierState, TrackerView, is_fixed, kept_vote}
use Rattle.batcher_histories.proofs.Words.{nothing_tracked, is_released_in, Buffers, nothing_buffered, SetsLeader, leader_answer, IsRight, leader_set_answer}
use Rattle.batcher_histories.proofs.Words.{selects_fixed, count_buffers}

-- with nothing held
module _ {D K G C : Type 0} (m : Meaning D K G C) where
  compacted_at_first : (mode : Mode) (kind : Kind)
      → of_kind (nothing_tracked {G = G} {D = D} mode).compacted kind ≡ is_released_in mode false
  compacted_at_first Retaining Notarization = refl
  compacted_at_first Retaining Nullification = refl
  compacted_at_first Retaining Finalization = refl
  compacted_at_first Releasing Notarization = refl
  compacted_at_first Releasing Nullification = refl
  compacted_at_first Releasing Finalization = refl
  compacted_at_first Skipped Notarization = refl
  compacted_at_first Skipped Nullification = refl
  compacted_at_first Skipped Finalization = refl

  none_certified : (kind : Kind) → of_kind (nothing_buffered {G = G} {D = D}).certified kind ≡ false
  none_certified Notarization = refl
  none_certified Nullification = refl
  none_certified Finalization = refl

  none_wait : (kind : Kind) (n : ℕ) (i : ℕ)
      → count (λ v. signer_of v == i) (of_kind (nothing_buffered {G = G} {D = D}).verified kind
      ++ of_kind (nothing_buffered {G = G} {D = D}).pending kind) ≤ n
  none_wait Notarization n i = omega arith
  none_wait Nullification n i = omega arith
  none_wait Finalization n i = omega arith

  pub right_at_first : (tracker : TrackerView G D) (quorum : ℕ) → 1 ≤ length m.participants → quorum
      ≡ quorum_of (length m.participants) → tracker.participants ≡ length m.participants
      → tracker.holds ≡ nothing_tracked tracker.mode → IsRight m tracker nothing_buffered quorum
  right_at_first tracker quorum some e bound fresh = record {
    some = some;
    quorum_is = e;
    bound = bound;
    within = λ kind i. none_wait kind (cond (is_some (kept_vote tracker.holds kind i)) 1 0) i;
    compacted =
        λ kind. ap (λ t. of_kind t.compacted kind) fresh ∙ compacted_at_first tracker.mode kind
        ∙ ap (λ b. is_released_in tracker.mode b) (sym (none_certified kind));
    fixed = λ h. let none = none_certified Finalization in absurd (cc);
  }

module _ {D K G C : Type 0} (m : Meaning D K G C) (tracker : TrackerView G D) (old new : VerifierState G D)
    (quorum : ℕ) (right : IsRight m tracker old quorum) where
  -- where nothing joins the buffers
  pub right_less : (same : D → D → Bool) → ((kind : Kind) → Buffers same old new kind [] [])
      → (is_fixed old.selection ≡ true → is_fixed new.selection ≡ true)
      → IsRight m tracker new quorum
  right_less same step stays = record {
    some = right.some;
    quorum_is = right.quorum_is;
    bound = right.bound;
    within = λ kind i. omega (arith, right.within kind i, count_buffers same old new kind [] [] (step kind) (λ v. signer_of v == i));
    compacted = λ kind. right.compacted kind ∙ ap (λ b. is_released_in tracker.mode b) (sym (step kind).certified);
    fixed = λ h. stays (right.fixed (sym (step Finalization).certified ∙ h));
  }

  -- a leader that is set, refused, or was before
  pub right_led :
      (same : D → D → Bool) (leader : Participant) (proposal : Option (Proposal D)) (b : Bool)
      (result : Result (Unit {0}) LeaderFault) → is_some old.leader ≡ b
      → (is_some old.leader ≡ true → new ≡ old) → OnErr result (new ≡ old)
      → (is_some old.leader ≡ false → OnOk result (SetsLeader same old leader proposal new))
      → IsRight m tracker new quorum
  right_led same leader proposal true result e again refused sets = subst (λ held. IsRight m tracker held quorum) (sym (again e)) right
  right_led same leader proposal false (Ok done) e again refused sets =
      right_less same (sets e).buffers (λ h. ap is_fixed (sets e).selection ∙ selects_fixed old.selection proposal h)
  right_led same leader proposal false (Err fault) e again refused sets = subst (λ held. IsRight m tracker held quorum) (sym refused) right

found_cons : {X : Type 0} (test : X → Bool) (y z : X) (xs : List X) (b : Bool) → test y ≡ b
    → (find test xs ≡ Some z → test z ≡ true) → cond b (Some y) (find test xs) ≡ Some z → test z
    ≡ true
found_cons test y z xs true e rest h = let same : y ≡ z = cc in subst (λ x. test x ≡ true) same e
found_cons test y z xs false e rest h = rest h

-- what a search finds passes its test
pub found_passes : {X : Type 0} (test : X → Bool) (xs : List X) (z : X) → find test xs ≡ Some z
    → test z ≡ true
found_passes test [] z h = absurd (none-some z h)
found_passes test (y ∷ xs) z h = found_cons test y z xs (test y) refl (found_passes test xs z) h

module _ {G D : Type 0} (held : TrackerState G D) where
  -- the leader's own notarize is never refused
  pub led_by : (known : Option Participant) (leader : Participant) (kept : Option (Notarize G D))
      → option_map NotarizeVote kept ≡ kept_vote held Notarization leader.0
      → leader_answer known leader kept ≡ leader_set_answer known leader
  led_by (Some known) leader kept e = refl
  led_by None leader None e = refl
  led_by None leader (Some vote) e =
      let own : (vote.attestation.signer.0 == leader.0)
      ≡ true = found_passes (is_vote_of Notarization leader.0) (of_kind held.kept Notarization) (NotarizeVote vote) (sym e) in
      rw own
