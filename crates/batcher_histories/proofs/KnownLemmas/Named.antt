-- What is answered by what is held is what the history names.
use Rattle.batcher_histories.proofs.Words.{◌≡◌, ℕ, Bool, true, false, not, ◌&&◌, List, [], ◌∷◌, ◌++◌, Option, Some, None, refl, ap, sym, ◌∙◌, ⊎_elim, eqb}
use Rattle.batcher_histories.proofs.Words.{filter, find, is_some, option_and_then, option_or, cases_Bool, and_parts, false_from_ne_true, and_right, and_left}
use Rattle.batcher_histories.proofs.Words.{eqb-true, and-true, Participant, Proposal, Vote, NotarizeVote, NullifyVote, FinalizeVote, Kind, Notarization}
use Rattle.batcher_histories.proofs.Words.{Nullification, Finalization, Certificate, NotarizationCertificate, NullificationCertificate, FinalizationCertificate}
use Rattle.batcher_histories.proofs.Words.{Mode, Retaining, Releasing, Skipped, Config, participants_in, is_some_and}
use Rattle.batcher_histories.proofs.Words.{is_kind, kind_of, signer_of, proposal_in, kind_certified, subject_certified, has_proposals, is_vote_of}
use Rattle.batcher_histories.proofs.Words.{opposes, are_opposite, filter_none, is_kind-true, proposal_of, RoundState, observed_opposite}
use Rattle.batcher_histories.proofs.Words.{is_skipped, is_released_in, admission, own_result}
use Rattle.batcher_histories.proofs.Words.{forward_answer, missing_in, has_block_held, known_in, known_by, forward_by, has_block_by, missing_by, network_by}
use Rattle.batcher_histories.proofs.Words.{own_by, History, cast_votes, first_votes, first_vote, selection_by, selection, selected_proposal}
use Rattle.batcher_histories.proofs.Words.{is_certified, certificate_of, finalized_by, fixed_proposal, fixing_evidence, leaders_proposal, is_released}
use Rattle.batcher_histories.proofs.Words.{compared_votes, is_compared, is_compared_at_release, facts_of, known_opposite, known_after, has_block}
use Rattle.batcher_histories.proofs.Words.{network_answer, own_answer, forward_after, missing_after, Represents}
use Rattle.batcher_histories.proofs.History.Distinct.{found_is_of}
use Rattle.batcher_histories.proofs.KnownLemmas.Observed.{observed_is}

pub or_none : {X : Type 0} (a b : Option X) → option_or a b ≡ None → (a ≡ None) × (b ≡ None)
or_none None b h = (refl, h)
or_none (Some v) b h = cc

find_same : {X : Type 0} (p q : X → Bool) (xs : List X) → ((v : X) → p v ≡ q v) → find p xs
    ≡ find q xs
find_same p q [] same = refl
find_same p q (x ∷ xs) same = rw (same x, find_same p q xs same) refl

find_never : {X : Type 0} (xs : List X) → find (λ x. false) xs ≡ None
find_never [] = refl
find_never (x ∷ xs) = find_never xs

pub and_swap : (a b c : Bool) → b ≡ c → (a && b) ≡ (c && a)
and_swap true b c h = h ∙ sym (and-true c)
and_swap false b c h = sym (and_right c false refl)

against_nullify : (k : Kind) → are_opposite k Nullification ≡ is_kind k Finalization
against_nullify Notarization = refl
against_nullify Nullification = refl
against_nullify Finalization = refl

against_finalize : (k : Kind) → are_opposite k Finalization ≡ is_kind k Nullification
against_finalize Notarization = refl
against_finalize Nullification = refl
against_finalize Finalization = refl

against_notarize : (k : Kind) → are_opposite k Notarization ≡ false
against_notarize Notarization = refl
against_notarize Nullification = refl
against_notarize Finalization = refl

pub certificate_has_proposal : {C D : Type 0} (c : Certificate C D)
    → has_proposals (kind_certified c) ≡ true → is_some (proposal_in (subject_certified c)) ≡ true
certificate_has_proposal (NotarizationCertificate c) h = refl
certificate_has_proposal (NullificationCertificate c) h = cc
certificate_has_proposal (FinalizationCertificate c) h = refl

pub unreleased_pair : (h r s : Bool) → (h ≡ true → s ≡ false) → (h && (r && s)) ≡ false
unreleased_pair true true s f = f refl
unreleased_pair true false s f = refl
unreleased_pair false r s f = refl

pub uncompared_pair : (h r s o : Bool) → (h ≡ true → r ≡ false) → ((h && r) && (s && o)) ≡ false
uncompared_pair true r s o f = rw (f refl) refl
uncompared_pair false r s o f = refl

pub released_where : (mode : Mode) (certified : Bool) → is_skipped mode ≡ false → certified ≡ false
    → is_released_in mode certified ≡ false
released_where Retaining certified by_new h = refl
released_where Releasing certified by_new h = h
released_where Skipped certified by_new h = absurd (cc)

pub always_released : (mode : Mode) (certified : Bool) → is_skipped mode ≡ true
    → is_released_in mode certified ≡ true
always_released Retaining certified h = absurd (cc)
always_released Releasing certified h = absurd (cc)
always_released Skipped certified h = refl

module _ {D K G C : Type 0} (x : Config D K G C) where
  -- a certificate with a proposal fixes one
  pub certified_fixes : (past : History D K G C) (kind : Kind) → fixed_proposal past ≡ None
      → has_proposals kind ≡ true → is_certified past kind ≡ false
  certified_fixes [] kind unfixed has = refl
  certified_fixes (event ∷ past) kind unfixed has =
      let both = or_none (fixed_proposal past) (fixing_evidence event) unfixed in
      let none : option_and_then (λ c. proposal_in (subject_certified c)) (certificate_of event) ≡ None = (or_none (finalized_by event.0) _ both.1).1 in
      rw (now (certificate_of event) none) (certified_fixes past kind both.0 has)
    where
      now : (o : Option (Certificate C D))
          → option_and_then (λ c. proposal_in (subject_certified c)) o ≡ None
          → is_some_and o (λ c. is_kind (kind_certified c) kind) ≡ false
      now None h = refl
      now (Some c) h = false_from_ne_true _ (λ e.
          let k : kind_certified c ≡ kind = is_kind-true _ _ e in
          let some : is_some (proposal_in (subject_certified c)) ≡ true = certificate_has_proposal c (ap has_proposals k ∙ has) in
          let no : false ≡ true = sym (ap is_some h) ∙ some in cc)

  unreleased_before : (past : History D K G C) (kind : Kind) → is_skipped x.mode ≡ false
      → fixed_proposal past ≡ None → has_proposals kind ≡ true → is_released x past kind ≡ false
  unreleased_before past kind by_new unfixed has = released_where x.mode (is_certified past kind) by_new (certified_fixes past kind unfixed has)

  -- Nothing is compared until a proposal is fixed.
  pub compared_if_fixed : (past : History D K G C) → fixed_proposal past ≡ None
      → compared_votes x past ≡ []
  compared_if_fixed [] unfixed = refl
  compared_if_fixed (event ∷ past) unfixed =
      ap (λ votes. votes ++ (filter (is_compared_at_release x past event) (first_votes x past) ++ compared_votes x past))
      (filter_none (is_compared x past event) (cast_votes x event.0) not_compared)
      ∙ (ap (λ votes. votes ++ compared_votes x past)
      (filter_none (is_compared_at_release x past event) (first_votes x past) not_released)
      ∙ compared_if_fixed past before)
    where
      before : fixed_proposal past ≡ None
      before = (or_none (fixed_proposal past) (fixing_evidence event) unfixed).0

      not_compared : (v : Vote G D) → is_compared x past event v ≡ false
      not_compared v =
          ⊎_elim
          (λ skips.
          let no_leaders : leaders_proposal x (event ∷ past) ≡ None = rw skips refl in
          let none : selected_proposal x (event ∷ past) ≡ None = ap (λ f. proposal_of (selection_by f (leaders_proposal x (event ∷ past)))) unfixed
          ∙ ap (λ l. proposal_of (selection_by None l)) no_leaders in
          and_right (has_proposals (kind_of v) && is_released x past (kind_of v)) _
          (and_left (is_some (selected_proposal x (event ∷ past))) _ (ap is_some none)))
          (λ by_new. uncompared_pair (has_proposals (kind_of v)) (is_released x past (kind_of v)) (is_some (selected_proposal x (event ∷ past))) _
          (unreleased_before past (kind_of v) by_new before))
          (cases_Bool (is_skipped x.mode))

      not_released : (v : Vote G D) → is_compared_at_release x past event v ≡ false
      not_released v =
          ⊎_elim
          (λ skips. and_right (has_proposals (kind_of v)) _
          (ap (λ r. not r && is_released x (event ∷ past) (kind_of v)) (always_released x.mode (is_certified past (kind_of v)) skips)))
          (λ by_new. unreleased_pair (has_proposals (kind_of v)) (not (is_released x past (kind_of v))) (is_released x (event ∷ past) (kind_of v))
          (unreleased_before (event ∷ past) (kind_of v) by_new unfixed))
          (cases_Bool (is_skipped x.mode))

  -- What is known of a first vote is by its own kind and signer.
  known_first : (past : History D K G C) (kind : Kind) (i : ℕ) (first : Option (Vote G D))
      → first_vote x past kind i ≡ first
      → known_by (is_released x past kind) (facts_of x past kind i) first
      ≡ known_opposite x past first
  known_first past kind i None found = refl
  known_first past kind i (Some first) found =
      let of = and_parts _ _ (found_is_of (first_votes x past) kind i first found) in
      sym (ap (λ k. known_by (is_released x past k) (facts_of x past k (signer_of first)) (Some first)) (is_kind-true _ _ of.0)
      ∙ ap (λ j. known_by (is_released x past kind) (facts_of x past kind j) (Some first)) (eqb-true _ _ of.1))

  pub opposite_same : (past : History D K G C) (held : RoundState G D) (vote : Vote G D)
      → Represents x past held
      → observed_opposite held.tracked vote ≡ (known_after x past).opposite vote
  opposite_same past held (NotarizeVote v) represents =
      sym (ap (known_opposite x past) (find_same (λ w. opposes w (NotarizeVote v)) (λ w. false) (first_votes x past)
      (λ w. and_right (eqb (signer_of w) v.attestation.signer.0) _ (against_notarize (kind_of w))) ∙ find_never (first_votes x past)))
  opposite_same past held (NullifyVote v) represents =
      observed_is x past held Finalization v.attestation.signer.0 represents ∙ known_first past Finalization v.attestation.signer.0 _ refl
      ∙ sym (ap (known_opposite x past) (find_same (λ w. opposes w (NullifyVote v)) (is_vote_of Finalization v.attestation.signer.0) (first_votes x past)
      (λ w. and_swap (eqb (signer_of w) v.attestation.signer.0) _ _ (against_nullify (kind_of w)))))
  opposite_same past held (FinalizeVote v) represents =
      observed_is x past held Nullification v.attestation.signer.0 represents ∙ known_first past Nullification v.attestation.signer.0 _ refl
      ∙ sym (ap (known_opposite x past) (find_same (λ w. opposes w (FinalizeVote v)) (is_vote_of Nullification v.attestation.signer.0) (first_votes x past)
      (λ w. and_swap (eqb (signer_of w) v.attestation.signer.0) _ _ (against_finalize (kind_of w)))))

  -- What is known by what is held is what is known by the history, and so are all answers by it.
  pub known_is : (past : History D K G C) (held : RoundState G D) → Represents x past held
      → known_in held ≡ known_after x past
  known_is past held represents =
      λ i. record {
        leader = represents.leader_is i;
        selection = represents.selection_is i;
        forwarded = represents.forwarded_is i;
        is_released = λ kind. (represents.each_kind kind).compacted_is i;
        observed = λ kind signer. observed_is x past held kind signer represents i;
        opposite = λ vote. opposite_same past held vote represents i;
      }

  pub forward_same : (past : History D K G C) (held : RoundState G D) (me : Participant)
      → Represents x past held → forward_answer held me ≡ forward_after x past me
  forward_same past held me represents = ap (λ known. forward_by known me) (known_is past held represents)

  pub block_same : (past : History D K G C) (held : RoundState G D) (i : ℕ) (p : Proposal D)
      → Represents x past held → has_block_held x.same_digest held i p ≡ has_block x past i p
  block_same past held i p represents = ap (λ known. has_block_by x.same_digest known.observed i p) (known_is past held represents)

  pub missing_same : (past : History D K G C) (held : RoundState G D) (p : Proposal D)
      → Represents x past held → missing_in x.same_digest held p (participants_in x)
      ≡ missing_after x past p
  missing_same past held p represents = ap (λ known. missing_by x.same_digest known.observed p (participants_in x)) (known_is past held represents)

  pub network_same : (past : History D K G C) (held : RoundState G D) (sender : K) (vote : Vote G D)
      → Represents x past held → admission x held sender vote ≡ network_answer x past sender vote
  network_same past held sender vote represents = ap (λ known. network_by x known sender vote) (known_is past held represents)

  -- OWN VOTES
  -- An own vote is answered as the history names.
  pub own_same : (past : History D K G C) (held : RoundState G D) (vote : Vote G D)
      → Represents x past held
      → own_result x held vote ≡ own_answer x past vote
  own_same past held vote represents =
      ap (λ known. own_by x.same_digest known vote) (known_is past held represents)
