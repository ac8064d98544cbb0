-- What a history leaves to be held before a construction.
use Rattle.batcher_histories.proofs.Words.{◌≡◌, Bool, cond, List, [], map, Option, Some, None, refl, ap, sym, ◌∙◌, ⊎_elim, subst, cases_Bool, Kind}
use Rattle.batcher_histories.proofs.Words.{Notarization, Nullification, Finalization, Vote, Certificate, Batch, ConstructCall, ConstructAnswer, IsPossible}
use Rattle.batcher_histories.proofs.Words.{MayAnswer, PerKind, of_kind, RoundState, History, SameElements, count, is_certified, is_released, leader_of}
use Rattle.batcher_histories.proofs.Words.{selection, was_forwarded, Config, fresh_votes, proven_votes, Represents, TriesBuffers, first_by_signer, Attempt}
use Rattle.batcher_histories.proofs.Words.{AttemptAfter, is_kind, signer_of, is_kind-refl, is_kind-true, facts_of}
use Rattle.batcher_histories.proofs.Simulation.Settled.{constructed}

-- the values of a function, one of each kind
each_of : {X : Type 0} → (Kind → X) → PerKind X
each_of f = record { notarize = f Notarization; nullify = f Nullification; finalize = f Finalization }

of_each : {X : Type 0} (f : Kind → X) (kind : Kind) → of_kind (each_of f) kind ≡ f kind
unfolding each_of
of_each f Notarization = refl
of_each f Nullification = refl
of_each f Finalization = refl

module _ {D K G C : Type 0} (x : Config D K G C) where
  -- WHAT IS HELD: with these buffers, what a history leaves
  held_with : History D K G C → (Kind → List (Vote G D)) → (Kind → List (Vote G D)) → RoundState G D
  held_with past pending verified =
      record {
        tracked = record {
          compacted = each_of (is_released x past);
          kept = each_of (λ kind. cond (is_released x past kind) [] (first_by_signer x past kind));
          facts = each_of (λ kind. cond (is_released x past kind) (map (λ v. facts_of x past kind (signer_of v)) (first_by_signer x past kind)) []);
        };
        buffered =
            record {
              leader = leader_of past;
              selection = selection x past;
              certified = each_of
                  (is_certified past);
              pending = each_of pending;
              verified = each_of verified;
            };
        forwarded = was_forwarded past;
      }

  held_represents : (past : History D K G C) (pending verified : Kind → List (Vote G D))
      → IsPossible x past →
      ((kind : Kind) → SameElements (pending kind) (fresh_votes x past kind))
      → ((kind : Kind) → SameElements (verified kind) (proven_votes x past kind))
      → Represents x past (held_with past pending verified)
  unfolding held_with
  held_represents past pending verified possible pending_are verified_are =
      record {
        possible = possible;
        leader_is = refl;
        selection_is = refl;
        forwarded_is = refl;
        each_kind = λ kind. record {
          certified_is = of_each (is_certified past) kind;
          compacted_is = of_each (is_released x past) kind;
          kept_are = of_each (λ k. cond (is_released x past k) [] (first_by_signer x past k)) kind;
          facts_are = of_each (λ k. cond (is_released x past k) (map (λ v. facts_of x past k (signer_of v)) (first_by_signer x past k)) []) kind;
          pending_are = λ test. ap (count test) (of_each pending kind) ∙ pending_are kind test;
          verified_are = λ test. ap (count test) (of_each verified kind) ∙ verified_are kind test;
        };
      }

  -- What may be held where a construction is answered: a batch is an attempt with its buffers.
  pub record Holds (past : History D K G C) (answer : Option (Batch (Certificate C D))) : Type 0
    where
      pub held : RoundState G D
      pub represents : Represents x past held
      pub buffers : TriesBuffers x past held (constructed x past answer)

  -- the votes of an attempt in the place of those of its kind
  attempted_are : (kind : Kind) (votes : List (Vote G D)) (others : Kind → List (Vote G D))
      → SameElements votes (others kind) → (k : Kind)
      → SameElements (cond (is_kind kind k) votes (others k)) (others k)
  attempted_are kind votes others same k test =
      ⊎_elim
      (λ this. ap (λ b. count test (cond b votes (others k))) this ∙ (same test ∙ ap (λ j. count test (others j)) (is_kind-true kind k this)))
      (λ other. ap (λ b. count test (cond b votes (others k))) other)
      (cases_Bool (is_kind kind k))

  held_attempt : (past : History D K G C) (kind : Kind) (batch : Batch (Certificate C D))
      (pending verified : Kind → List (Vote G D)) → Attempt x (verified kind) (pending kind) batch →
      Attempt x (of_kind (held_with past pending verified).buffered.verified kind)
      (of_kind (held_with past pending verified).buffered.pending kind) batch
  unfolding held_with
  held_attempt past kind batch pending verified a =
      subst (λ vs. Attempt x vs (of_kind (each_of pending) kind) batch) (sym (of_each verified kind))
      (subst (λ ps. Attempt x (verified kind) ps batch) (sym (of_each pending kind)) a)

  pub holds_before : (past : History D K G C) (answer : Option (Batch (Certificate C D)))
      → IsPossible x past → MayAnswer x past ConstructCall (ConstructAnswer answer)
      → Holds past answer
  holds_before past None possible may =
      record {
        held = held_with past (fresh_votes x past) (proven_votes x past);
        represents = held_represents past (fresh_votes x past) (proven_votes x past) possible (λ kind test. refl) (λ kind test. refl);
        buffers = tt;
      }
  holds_before past (Some batch) possible may =
      record {
        held = held_with past pending verified;
        represents = held_represents past pending verified possible
            (attempted_are may.0 after.pending (fresh_votes x past) after.pending_are)
            (attempted_are may.0 after.verified (proven_votes x past) after.verified_are);
        buffers = (may.0, (may.1.0, held_attempt past may.0 batch pending verified tried));
      }
    where
      after : AttemptAfter x past may.0 batch
      after = may.1.1

      pending : Kind → List (Vote G D)
      pending k = cond (is_kind may.0 k) may.1.1.pending (fresh_votes x past k)

      verified : Kind → List (Vote G D)
      verified k = cond (is_kind may.0 k) may.1.1.verified (proven_votes x past k)

      tried : Attempt x (verified may.0) (pending may.0) batch
      tried =
          subst (λ (b : Bool). Attempt x (cond b after.verified (proven_votes x past may.0)) (cond b after.pending (fresh_votes x past may.0)) batch)
          (sym (is_kind-refl may.0)) after.attempt
