-- What a validator gave as final it knows to be final, and its lives are those of a voter.
use Rattle.std.proofs.Common.{inl, inr, refl, subst}
use Rattle.std.proofs.lemmas.Option.{same_Some}
use Rattle.std.specs.List.{AllByRecursion}
use Rattle.std.specs.Prelude.{◌≡◌, ℕ, Bool, List, [], ◌∷◌, ◌++◌, Option, Some, None}
use Rattle.std.specs.declared.cmp.Ordering.{Ordering}
use Rattle.batcher.specs.Meaning.{Meaning}
use Rattle.batcher.specs.Votes.{subject_certified}
use Rattle.batcher.specs.messages.Certificate.{Certificate}
use Rattle.batcher.specs.messages.Proposal.{Proposal}
use Rattle.batcher.specs.messages.Subject.{Subject}
use Rattle.batcher.specs.messages.Subject.TheVariants.{Finalize}
use Rattle.batcher_agreement.specs.Lives.{IsLife, VoterEvent, acts_of, called, conduct_of, held_by, learned_by, verified, written}
use Rattle.batcher_agreement.specs.Lives.{AreVerified}
use Rattle.batcher_agreement.specs.Participants.{IsHonest}
use Rattle.batcher_agreement.specs.Policy.{Conduct, KeepsPolicy, Knows, learned, voted}
use Rattle.batcher_agreement.specs.Voters.{AreVoters}
use Rattle.batcher_agreement.specs.Agreement.{IsFinal}
use Rattle.batcher_node.specs.Nodes.{NodeConfig, NodeView, node_config}
use Rattle.batcher_validator.specs.Histories.{HasHad, ValidatorHistory, again, answered, began, chose, did, expired, gave, gave_up, refused, took}
use Rattle.batcher_validator.specs.Histories.{voter_history}
use Rattle.batcher_validator.specs.Tasks.{AreGivenInTurn}
use Rattle.batcher_validator.specs.declared.task.Task.TheVariants.{Block, Cast, Enter, Final, Forward, Judge, Propose}
use Rattle.batcher_validator.specs.declared.task.Task.TheVariants.{SendCertificate, SendVote, Sign, Verify}
use Rattle.batcher_voter.proofs.Appending.{knows_before}
use Rattle.batcher_theorems.specs.Lives.{AreLives, HasGiven, HasGivenFinal, ValidatorLife, acts_in, voter_lives}

knows_later : {D : Type 0} (a b : Conduct D) (s : Subject D) → Knows b s → Knows (a ++ b) s
knows_later [] b s k = k
knows_later (voted t ∷ a) b s k = knows_later a b s k
knows_later (learned t ∷ a) b s k = inr (knows_later a b s k)

-- what is held is learned
learned_held :
    {C D : Type 0} (held : Option (Certificate C D)) (c : Certificate C D) → held ≡ Some c
    → Knows (learned_by held) (subject_certified c)
learned_held None c is = absurd cc
learned_held (Some d) c is =
    inl (subst (λ it. subject_certified d ≡ subject_certified it) (same_Some d c is) refl)

module _ {D K G C : Type 0} where
  held_is_learned :
      (event : VoterEvent D K G C) (c : Certificate C D) → held_by event ≡ Some c
      → Knows (acts_of event) (subject_certified c)
  held_is_learned (written vote) c is = absurd cc
  held_is_learned (called event) c is = learned_held (held_by (called event)) c is
  held_is_learned (verified d) c is = learned_held (Some d) c is

  module _ (x : NodeConfig D K G C) (earlier : Conduct D) where
    -- What it had it knows to be certified.
    had_is_known :
        (past : ValidatorHistory D K G C) → AreGivenInTurn x earlier past → (c : Certificate C D)
        → HasHad past c → Knows (conduct_of (voter_history past)) (subject_certified c)
    had_is_known [] in_turn c had = absurd had
    had_is_known (began me before ∷ past) in_turn c had = absurd had
    had_is_known (took held ∷ past) in_turn c (inl is) =
        subst (λ it. Knows (conduct_of (voter_history past)) (subject_certified it)) is in_turn.0
    had_is_known (took held ∷ past) in_turn c (inr had) = had_is_known past in_turn.1 c had
    had_is_known (did event ∷ past) in_turn c (inl is) =
        knows_before (acts_of event) (conduct_of (voter_history past)) (subject_certified c)
        (held_is_learned event c is)
    had_is_known (did event ∷ past) in_turn c (inr had) =
        knows_later (acts_of event) (conduct_of (voter_history past)) (subject_certified c)
        (had_is_known past in_turn c had)
    had_is_known (gave task ∷ past) in_turn c had = had_is_known past in_turn.1 c had
    had_is_known (answered ∷ past) in_turn c had = had_is_known past in_turn c had
    had_is_known (chose p ∷ past) in_turn c had = had_is_known past in_turn c had
    had_is_known (expired view ∷ past) in_turn c had = had_is_known past in_turn c had
    had_is_known (gave_up view ∷ past) in_turn c had = had_is_known past in_turn c had
    had_is_known (refused s ∷ past) in_turn c had = had_is_known past in_turn c had
    had_is_known (again ∷ past) in_turn c had = had_is_known past in_turn c had

    -- What it gave as final it knows to be final.
    given_is_known :
        (past : ValidatorHistory D K G C) → AreGivenInTurn x earlier past → (p : Proposal D)
        → HasGiven past (Final p) → Knows (conduct_of (voter_history past)) (Finalize p)
    given_is_known [] in_turn p given = absurd given
    given_is_known (began me before ∷ past) in_turn p given = absurd given
    given_is_known (gave (Final q) ∷ past) in_turn p (inl is) =
        let it = in_turn.0.0 in
        let same : q ≡ p = cc in
        subst (λ r. Knows (conduct_of (voter_history past)) (Finalize r)) same
        (subst (Knows (conduct_of (voter_history past))) it.is_of
        (had_is_known past in_turn.1 it.certificate it.had))
    given_is_known (gave (Block who cause) ∷ past) in_turn p (inl is) = absurd cc
    given_is_known (gave (SendVote vote) ∷ past) in_turn p (inl is) = absurd cc
    given_is_known (gave (Cast vote) ∷ past) in_turn p (inl is) = absurd cc
    given_is_known (gave (SendCertificate kind number) ∷ past) in_turn p (inl is) = absurd cc
    given_is_known (gave (Forward number) ∷ past) in_turn p (inl is) = absurd cc
    given_is_known (gave (Enter view) ∷ past) in_turn p (inl is) = absurd cc
    given_is_known (gave Verify ∷ past) in_turn p (inl is) = absurd cc
    given_is_known (gave (Sign s) ∷ past) in_turn p (inl is) = absurd cc
    given_is_known (gave (Propose view parent) ∷ past) in_turn p (inl is) = absurd cc
    given_is_known (gave (Judge q) ∷ past) in_turn p (inl is) = absurd cc
    given_is_known (gave task ∷ past) in_turn p (inr given) = given_is_known past in_turn.1 p given
    given_is_known (took held ∷ past) in_turn p given = given_is_known past in_turn.1 p given
    given_is_known (did event ∷ past) in_turn p given =
        knows_later (acts_of event) (conduct_of (voter_history past)) (Finalize p)
        (given_is_known past in_turn p given)
    given_is_known (answered ∷ past) in_turn p given = given_is_known past in_turn p given
    given_is_known (chose q ∷ past) in_turn p given = given_is_known past in_turn p given
    given_is_known (expired view ∷ past) in_turn p given = given_is_known past in_turn p given
    given_is_known (gave_up view ∷ past) in_turn p given = given_is_known past in_turn p given
    given_is_known (refused s ∷ past) in_turn p given = given_is_known past in_turn p given
    given_is_known (again ∷ past) in_turn p given = given_is_known past in_turn p given

module _ {S D K G C : Type 0} (meaning : S → Meaning D K G C) (compare_keys : K → K → Ordering)
    (same_signature : G → G → Bool) (same_digest : D → D → Bool) (m : Meaning D K G C) where
  abbrev config : NodeView S G D → NodeConfig D K G C
  config = node_config meaning compare_keys same_signature same_digest

  module _ {L : Type 0} where
    have_nodes :
        (lives : List (ValidatorLife S D K G C L)) → AreLives meaning config m lives
        → AllByRecursion (IsLife meaning config m) (voter_lives lives)
    have_nodes [] are = tt
    have_nodes (life ∷ earlier) are = (
      record {
        of_scheme = are.0;
        represents = are.1.0.voting.represents;
        are_verified =
            subst (λ it. AreVerified it (voter_history life.past)) are.0 are.1.0.voting.are_verified;
      },
      have_nodes earlier are.1.1,
    )

    keep_policy :
        (lives : List (ValidatorLife S D K G C L)) → AreLives meaning config m lives
        → KeepsPolicy (acts_in lives)
    keep_policy [] are = tt
    keep_policy (life ∷ earlier) are = are.1.0.voting.keeps_policy

    pub are_voters :
        (is_faulty : ℕ → Bool) (lives : ℕ → List (ValidatorLife S D K G C L))
        → ((i : ℕ) → IsHonest m is_faulty i → AreLives meaning config m (lives i))
        → AreVoters meaning config m is_faulty (λ i. voter_lives (lives i))
    are_voters is_faulty lives are =
        record {
          have_nodes = λ i honest. have_nodes (lives i) (are i honest);
          keep_policy = λ i honest. keep_policy (lives i) (are i honest);
        }

    final_is_known :
        (lives : List (ValidatorLife S D K G C L)) → AreLives meaning config m lives
        → (p : Proposal D) → HasGivenFinal lives p → Knows (acts_in lives) (Finalize p)
    final_is_known [] are p given = absurd given
    final_is_known (life ∷ earlier) are p (inl given) =
        knows_before (conduct_of (voter_history life.past)) (acts_in earlier) (Finalize p)
        (given_is_known (config life.validator.voter.node) (acts_in earlier) life.past
        are.1.0.in_turn p given)
    final_is_known (life ∷ earlier) are p (inr given) =
        knows_later (conduct_of (voter_history life.past)) (acts_in earlier) (Finalize p)
        (final_is_known earlier are.1.1 p given)

    pub given_is_final :
        (is_faulty : ℕ → Bool) (lives : ℕ → List (ValidatorLife S D K G C L))
        → ((i : ℕ) → IsHonest m is_faulty i → AreLives meaning config m (lives i))
        → (i : ℕ) → IsHonest m is_faulty i → (p : Proposal D) → HasGivenFinal (lives i) p
        → IsFinal m is_faulty (λ j. acts_in (lives j)) p
    given_is_final is_faulty lives are i honest p given =
        record { holder = i; honest = honest; knows = final_is_known (lives i) (are i honest) p given }
