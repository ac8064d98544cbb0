-- What changes of what a verifier holds where its votes of one kind do.
use Rattle.batcher_votes.proofs.Words.{◌≡◌, ◌∙◌, ◌&&◌, ◌||◌, ◌++◌, ◌∷◌, [], Bool, true, false, not, cond, List, filter, map, Option, Some, append-nil, refl}
use Rattle.batcher_votes.proofs.Words.{sym, ap, subst, Participant, Attestation, Proposal, Subject, Vote, Kind, Notarization, Nullification, Finalization}
use Rattle.batcher_votes.proofs.Words.{is_kind, kind_of, is_of_kind, is_eligible, each_kind, is_kind-true, is_kind-refl, ProposalState, Certification, PerKind}
use Rattle.batcher_votes.proofs.Words.{of_kind, VerifierState, with_kind, SameVerifierState, CompletesKind, vote_for, map_kinds, is_complete, pending_of}
use Rattle.batcher_votes.proofs.Words.{verified_of, verifier_holding}
use Rattle.batcher_votes.proofs.VerifierLemmas.Changes.{Places, Restores, Absorbs, Retains}

-- what holds of a kind and of each other one holds of each
pub own_or_other : (P : Kind → Type 0) (kind : Kind) → P kind
    → ((other : Kind) → is_kind kind other ≡ false → P other) → (other : Kind) → P other
own_or_other P kind own others other = by_test (is_kind kind other) refl where
  by_test : (b : Bool) → is_kind kind other ≡ b → P other
  by_test true e = subst P (is_kind-true kind other e) own
  by_test false e = others other e

module _ {X Y : Type 0} (f : X → Y) (all : PerKind X) where
  pub of_mapped : (kind : Kind) → of_kind (map_kinds f all) kind ≡ f (of_kind all kind)
  of_mapped Notarization = refl
  of_mapped Nullification = refl
  of_mapped Finalization = refl

  pub mapped_own : (kind : Kind) (one : X) → of_kind (map_kinds f (with_kind all kind one)) kind
      ≡ f one
  mapped_own Notarization one = refl
  mapped_own Nullification one = refl
  mapped_own Finalization one = refl

  pub mapped_other : (kind : Kind) (one : X) (other : Kind) → is_kind kind other ≡ false
      → of_kind (map_kinds f (with_kind all kind one)) other ≡ of_kind (map_kinds f all) other
  mapped_other Notarization one Notarization e = absurd (cc)
  mapped_other Notarization one Nullification e = refl
  mapped_other Notarization one Finalization e = refl
  mapped_other Nullification one Notarization e = refl
  mapped_other Nullification one Nullification e = absurd (cc)
  mapped_other Nullification one Finalization e = refl
  mapped_other Finalization one Notarization e = refl
  mapped_other Finalization one Nullification e = refl
  mapped_other Finalization one Finalization e = absurd (cc)

  -- where the new one is mapped to the same, nothing changes
  pub mapped_same : (kind : Kind) (one : X) → f one ≡ f (of_kind all kind)
      → map_kinds f (with_kind all kind one) ≡ map_kinds f all
  mapped_same Notarization one e = rw e refl
  mapped_same Nullification one e = rw e refl
  mapped_same Finalization one e = rw e refl

module _ {G D : Type 0} (leader : Option Participant) (selection : ProposalState D)
    (kinds : PerKind (Certification G D)) (kind : Kind) (one : Certification G D) where
  abbrev pub old : VerifierState G D
  old = verifier_holding leader selection kinds

  abbrev pub new : VerifierState G D
  new = verifier_holding leader selection (with_kind kinds kind one)

  same_elsewhere : (other : Kind) → is_kind kind other ≡ false → SameVerifierState old new other
  same_elsewhere other e =
      record {
        certified = mapped_other is_complete kinds kind one other e;
        pending = mapped_other pending_of kinds kind one other e;
        verified = mapped_other verified_of kinds kind one other e;
      }

  -- by a fact of its certification, a fact of a kind
  by_own : {Y : Type 0} (f : Certification G D → Y) (change : Y → Y) → f one
      ≡ change (f (of_kind kinds kind)) → of_kind (map_kinds f (with_kind kinds kind one)) kind
      ≡ change (of_kind (map_kinds f kinds) kind)
  by_own f change e = mapped_own f kinds kind one ∙ (e ∙ ap change (sym (of_mapped f kinds kind)))

  -- the votes of the kind are what they were
  pub holds_same : is_complete one ≡ is_complete (of_kind kinds kind) → pending_of one
      ≡ pending_of (of_kind kinds kind) → verified_of one ≡ verified_of (of_kind kinds kind) → new
      ≡ old
  holds_same c p v =
      let made : PerKind Bool → PerKind (List (Vote G D)) → PerKind (List (Vote G D)) → VerifierState G D
      = λ cs ps vs. record { leader = leader; selection = selection; certified = cs; pending = ps; verified = vs } in
      ap (λ cs. made cs (map_kinds pending_of (with_kind kinds kind one)) (map_kinds verified_of (with_kind kinds kind one)))
      (mapped_same is_complete kinds kind one c)
      ∙ (ap (λ ps. made (map_kinds is_complete kinds) ps (map_kinds verified_of (with_kind kinds kind one))) (mapped_same pending_of kinds kind one p)
      ∙ ap (λ vs. made (map_kinds is_complete kinds) (map_kinds pending_of kinds) vs) (mapped_same verified_of kinds kind one v))

  pub completes : (same : D → D → Bool) → is_complete one ≡ true → pending_of one ≡ []
      → verified_of one ≡ [] → CompletesKind same old kind new
  completes same c p v =
      record {
        leader = refl;
        selection = refl;
        certified =
            own_or_other (λ other. of_kind new.certified other ≡ (is_kind kind other || of_kind old.certified other)) kind
            (rw (is_kind-refl kind) (mapped_own is_complete kinds kind one ∙ c)) (λ other e. rw e ((same_elsewhere other e).certified));
        pending =
            own_or_other (λ other. of_kind new.pending other ≡ cond (is_kind kind other) [] (of_kind old.pending other)) kind
            (rw (is_kind-refl kind) (mapped_own pending_of kinds kind one ∙ p)) (λ other e. rw e ((same_elsewhere other e).pending));
        verified =
            own_or_other (λ other. of_kind new.verified other ≡ cond (is_kind kind other) [] (of_kind old.verified other)) kind
            (rw (is_kind-refl kind) (mapped_own verified_of kinds kind one ∙ v)) (λ other e. rw e ((same_elsewhere other e).verified));
      }

  pub restores : (same : D → D → Bool) (p : Proposal D) (votes : List (Vote G D))
      → is_complete one ≡ is_complete (of_kind kinds kind) → pending_of one
      ≡ pending_of (of_kind kinds kind)
      ++ cond (is_complete (of_kind kinds kind)) [] (filter (is_eligible same (Some p)) votes)
      → verified_of one ≡ verified_of (of_kind kinds kind) → Restores same old kind p votes new
  restores same p votes c e v =
      record {
        leader = refl;
        selection = refl;
        others = same_elsewhere;
        certified = by_own is_complete (λ b. b) c;
        pending =
            rw (of_mapped is_complete kinds kind)
            (by_own pending_of (λ xs. xs ++ cond (is_complete (of_kind kinds kind)) [] (filter (is_eligible same (Some p)) votes)) e);
        verified = by_own verified_of (λ xs. xs) v;
      }

  pub absorbs : (subject : Subject D) (joining : List (Attestation G)) → is_complete one
      ≡ is_complete (of_kind kinds kind) → pending_of one ≡ [] → verified_of one
      ≡ verified_of (of_kind kinds kind) ++ map (vote_for subject) joining
      → Absorbs old kind subject joining new
  absorbs subject joining c p v =
      record {
        leader = refl;
        selection = refl;
        others = same_elsewhere;
        certified = by_own is_complete (λ b. b) c;
        pending = mapped_own pending_of kinds kind one ∙ p;
        verified = by_own verified_of (λ xs. xs ++ map (vote_for subject) joining) v;
      }

  -- what a certification takes of a vote, of which it takes none once it is complete
  pub places : (vote : Vote G D) (is_verified : Bool) → kind_of vote ≡ kind → is_complete one
      ≡ is_complete (of_kind kinds kind) → pending_of one ≡ pending_of (of_kind kinds kind)
      ++ cond (not is_verified && not (is_complete (of_kind kinds kind))) (vote ∷ []) []
      → verified_of one ≡ verified_of (of_kind kinds kind)
      ++ cond (is_verified && not (is_complete (of_kind kinds kind))) (vote ∷ []) []
      → Places old vote is_verified new
  places vote is_verified is c p v =
      record {
        leader = refl;
        selection = refl;
        certified =
            own_or_other (λ other. of_kind new.certified other ≡ of_kind old.certified other) kind (by_own is_complete (λ b. b) c)
            (λ other e. (same_elsewhere other e).certified);
        pending =
            own_or_other
            (λ other. of_kind new.pending other
            ≡ of_kind old.pending other ++ cond ((is_of_kind other vote && not is_verified) && not (of_kind old.certified other)) (vote ∷ []) []) kind
            (rw (is, is_kind-refl kind, of_mapped is_complete kinds kind)
            (by_own pending_of (λ xs. xs ++ cond (not is_verified && not (is_complete (of_kind kinds kind))) (vote ∷ []) []) p))
            (λ other e. rw (is, e, append-nil) ((same_elsewhere other e).pending));
        verified =
            own_or_other
            (λ other. of_kind new.verified other
            ≡ of_kind old.verified other ++ cond ((is_of_kind other vote && is_verified) && not (of_kind old.certified other)) (vote ∷ []) []) kind
            (rw (is, is_kind-refl kind, of_mapped is_complete kinds kind)
            (by_own verified_of (λ xs. xs ++ cond (is_verified && not (is_complete (of_kind kinds kind))) (vote ∷ []) []) v))
            (λ other e. rw (is, e, append-nil) ((same_elsewhere other e).verified));
      }

module _ {G D : Type 0} (leader : Option Participant) (selection : ProposalState D)
    (kinds : PerKind (Certification G D)) (same : D → D → Bool) (p : Proposal D) where
  abbrev pub kept : List (Vote G D) → List (Vote G D)
  kept votes = filter (is_eligible same (Some p)) votes

  -- Votes for other proposals go, of the kinds whose votes carry one.
  pub retains : (a b : Certification G D) → is_complete a ≡ is_complete kinds.notarize
      → pending_of a ≡ kept (pending_of kinds.notarize) → verified_of a
      ≡ kept (verified_of kinds.notarize) → is_complete b ≡ is_complete kinds.finalize
      → pending_of b ≡ kept (pending_of kinds.finalize) → verified_of b
      ≡ kept (verified_of kinds.finalize) → kept (pending_of kinds.nullify)
      ≡ pending_of kinds.nullify → kept (verified_of kinds.nullify) ≡ verified_of kinds.nullify
      → Retains same (verifier_holding leader selection kinds) p
      (verifier_holding leader selection
      (with_kind (with_kind kinds Notarization a) Finalization b))
  retains a b ca pa va cb pb vb pn vn =
      record {
        leader = refl;
        selection = refl;
        kinds =
            each_kind _ (record { certified = ca; pending = pa; verified = va })
            (record { certified = refl; pending = sym pn; verified = sym vn })
            (record { certified = cb; pending = pb; verified = vb });
      }
