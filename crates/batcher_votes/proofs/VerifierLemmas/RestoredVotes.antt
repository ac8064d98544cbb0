-- Kept votes that are restored once a proposal takes another's place.
use Rattle.batcher_votes.proofs.Words.{◌≡◌, ◌∙◌, ◌≤◌, ◌==◌, ◌+◌, ◌&&◌, ◌++◌, ◌∷◌, [], ℕ, Bool, true, false, not, cond, List, filter, length, Option, Some, None}
use Rattle.batcher_votes.proofs.Words.{is_some, append-nil, refl, sym, ap, subst, arith, AllPass, append_assoc, All-head, All-tail, filter-append}
use Rattle.batcher_votes.proofs.Words.{filter_passes, and_parts, Round, Proposal, Vote, NotarizeVote, NullifyVote, FinalizeVote, Kind, Notarization}
use Rattle.batcher_votes.proofs.Words.{Nullification, Finalization, ProposalState, Unknown, LeadersProposal, FixedProposal, filter_all, count, EachOnce}
use Rattle.batcher_votes.proofs.Words.{Meaning, is_kind, is_of_kind, has_proposals, signer_of, same_proposal, is_eligible, count-append, count-filter_le}
use Rattle.batcher_votes.proofs.Words.{each_kind, is_kind-true, same_proposal-true, same_proposal-refl, AllPass-nil, AllPass-weaker, and-true, proposal_of}
use Rattle.batcher_votes.proofs.Words.{updated, same_selected, replaces, of_kind, TrackerState, VerifierState, KeepsEach, kept_vote, Buffers, SetsProposal}
use Rattle.batcher_votes.proofs.Words.{FixesProposal, still_eligible, IsSound, IsSoundKind, may_be_buffered, BuffersOnlyKept}
use Rattle.batcher_votes.proofs.VerifierLemmas.Changes.{IsTidy, Restores}
use Rattle.batcher_votes.proofs.VerifierLemmas.EligibleVotes.{all_left, still_selected}
use Rattle.batcher_votes.proofs.VerifierLemmas.Soundness.{sound_buffers, sound_left}

-- through calls that put votes at the ends of the buffers and drop those that no longer wait
module _ {G D : Type 0} (same : D → D → Bool) (old new : VerifierState G D) (kind : Kind)
    (to_pending to_verified : List (Vote G D))
    (step : Buffers same old new kind to_pending to_verified) where
  fewer : (test : Vote G D → Bool) (b : Bool) (keeps : Vote G D → Bool) (xs : List (Vote G D))
      → count test (cond b [] (filter keeps xs)) ≤ count test xs
  fewer test true keeps xs = omega arith
  fewer test false keeps xs = count-filter_le test keeps xs

  pub count_buffers : (test : Vote G D → Bool)
      → count test (of_kind new.verified kind ++ of_kind new.pending kind)
      ≤ count test (of_kind old.verified kind ++ of_kind old.pending kind) +
      (count test to_verified + count test to_pending)
  count_buffers test =
      let keeps : Vote G D → Bool = is_eligible same (proposal_of new.selection) in
      let done = of_kind new.certified kind in
      omega (
        arith,
        count-append test (of_kind new.verified kind) (of_kind new.pending kind),
        count-append test (of_kind old.verified kind) (of_kind old.pending kind),
        ap (count test) step.verified,
        ap (count test) step.pending,
        fewer test done keeps (of_kind old.verified kind ++ to_verified),
        fewer test done keeps (of_kind old.pending kind ++ to_pending),
        count-append test (of_kind old.verified kind) to_verified,
        count-append test (of_kind old.pending kind) to_pending,
      )

module _ {G D : Type 0} (same : D → D → Bool) (old new : VerifierState G D) (restored : Kind)
    (p : Proposal D) (votes : List (Vote G D)) (r : Restores same old restored p votes new)
    (selected : proposal_of old.selection ≡ Some p) (tidy : (kind : Kind) → IsTidy same old kind)
  where
    abbrev pub fits : Vote G D → Bool
    fits = is_eligible same (Some p)

    joined : (certified : Bool) (xs : List (Vote G D)) → (certified ≡ true → xs ≡ [])
        → AllPass fits xs → xs ++ cond certified [] (filter fits votes)
        ≡ cond certified [] (filter fits (xs ++ votes))
    joined true xs none pass = rw (none refl)
    joined false xs none pass = rw (filter-append fits xs votes, filter_all fits xs pass)

    abbrev pub Joins : Kind → List (Vote G D) → Type 0
    Joins kind to_pending = Buffers same old new kind to_pending []

    own : Joins restored votes
    own =
        let t = tidy restored in
        let c = of_kind old.certified restored in
        record {
          certified = r.certified;
          pending =
              rw (r.selection, selected, r.certified, r.pending)
              (joined c (of_kind old.pending restored) t.none_pending (subst
              (λ s. AllPass (is_eligible same s) (of_kind old.pending restored)) selected t.pending));
          verified =
              rw (r.selection, selected, r.certified, r.verified)
              (all_left fits c (of_kind old.verified restored) t.none_verified
              (subst (λ s. AllPass (is_eligible same s) (of_kind old.verified restored)) selected t.verified));
        }

    other : (kind : Kind) → is_kind restored kind ≡ false → Joins kind []
    other kind e =
        let t = tidy kind in
        let o = r.others kind e in
        let c = of_kind old.certified kind in
        record {
          certified = o.certified;
          pending =
              rw (r.selection, selected, o.certified, o.pending)
              (all_left fits c (of_kind old.pending kind) t.none_pending
              (subst (λ s. AllPass (is_eligible same s) (of_kind old.pending kind)) selected t.pending));
          verified =
              rw (r.selection, selected, o.certified, o.verified)
              (all_left fits c (of_kind old.verified kind) t.none_verified
              (subst (λ s. AllPass (is_eligible same s) (of_kind old.verified kind)) selected t.verified));
        }

    by_kind : (kind : Kind) (b : Bool) → is_kind restored kind ≡ b → Joins kind (cond b votes [])
    by_kind kind true e = subst (λ k. Joins k votes) (is_kind-true restored kind e) own
    by_kind kind false e = other kind e

    -- the restored votes, as ones that join the buffers
    pub restores_buffers : (kind : Kind) → Joins kind (cond (is_kind restored kind) votes [])
    restores_buffers kind = by_kind kind (is_kind restored kind) refl

module _ {D K G C : Type 0} (m : Meaning D K G C) (same : D → D → Bool) (number : Round) where
  loosely : (kind : Kind) → has_proposals kind ≡ true → (v : Vote G D) → is_of_kind kind v ≡ true
      → may_be_buffered same number None kind v ≡ true
  loosely Notarization h v e = rw e
  loosely Nullification h v e = absurd (cc)
  loosely Finalization h v e = rw e

  module _ (old new : VerifierState G D) (kind : Kind) (votes : List (Vote G D))
      (proposals : has_proposals kind ≡ true) (kinds : AllPass (is_of_kind kind) votes)
      (once : EachOnce signer_of votes)
      (none : (of_kind old.pending kind ≡ []) × (of_kind old.verified kind ≡ [])) where
    sound_own : IsSoundKind m same number old kind → Buffers same old new kind votes []
        → IsSoundKind m same number new kind
    sound_own s b =
        sound_buffers m same number old new kind votes [] s b
        (AllPass-weaker (is_of_kind kind) (may_be_buffered same number None kind) (loosely kind proposals) votes kinds) (AllPass-nil _) (AllPass-nil _)
        (rw (none.0, none.1) once)

    sound_by : (other : Kind) (b : Bool) → is_kind kind other ≡ b
        → IsSoundKind m same number old other → Buffers same old new other (cond b votes []) []
        → IsSoundKind m same number new other
    sound_by other true e =
        subst (λ k. IsSoundKind m same number old k → Buffers same old new k votes [] → IsSoundKind m same number new k) (is_kind-true kind other e) sound_own
    sound_by other false e = sound_left m same number old new other

    pub sound_restored : (q : ℕ) → IsSound m same number q old
        → ((other : Kind) → Buffers same old new other (cond (is_kind kind other) votes []) [])
        → IsSound m same number q new
    sound_restored q s b = record { some = s.some; enough = s.enough; kinds = λ other. sound_by other (is_kind kind other) refl (s.kinds other) (b other) }

no_tie : (b : Bool) → (not b && true) ≡ true → b ≡ false
no_tie true h = absurd (cc)
no_tie false h = refl

module _ {D : Type 0} (same : D → D → Bool) (identical : (a b : D) → same a b ≡ true → a ≡ b)
    (reflexive : (a : D) → same a a ≡ true) where
  apart : (p q r : Proposal D) (b : Bool) → same_proposal same p q ≡ false → same_proposal same p r
      ≡ true → same_proposal same q r ≡ b → b ≡ false
  apart p q r true differ tied e =
      let one : p ≡ r = same_proposal-true same identical p r tied in
      let two : q ≡ r = same_proposal-true same identical q r e in
      let tie : same_proposal same p q ≡ true = ap (λ x. same_proposal same p x) (two ∙ sym one) ∙ same_proposal-refl same reflexive p in
      absurd (cc)
  apart p q r false differ tied e = refl

module _ {G D : Type 0} (same : D → D → Bool) (identical : (a b : D) → same a b ≡ true → a ≡ b)
    (reflexive : (a : D) → same a a ≡ true) (number : Round) where
  gone : (p q : Proposal D) (kind : Kind) → same_proposal same p q ≡ false → has_proposals kind
      ≡ true → (v : Vote G D) → may_be_buffered same number (Some p) kind v ≡ true
      → is_eligible same (Some q) v
      ≡ false
  gone p q Notarization differ h (NotarizeVote v) represents = apart same identical reflexive p q v.proposal
      (same_proposal same q v.proposal) differ represents refl
  gone p q Notarization differ h (NullifyVote v) represents = absurd (cc)
  gone p q Notarization differ h (FinalizeVote v) represents = absurd (cc)
  gone p q Nullification differ h v represents = absurd (cc)
  gone p q Finalization differ h (NotarizeVote v) represents = absurd (cc)
  gone p q Finalization differ h (NullifyVote v) represents = absurd (cc)
  gone p q Finalization differ h (FinalizeVote v) represents = apart same identical reflexive p q v.proposal
      (same_proposal same q v.proposal) differ represents refl

  all_gone : (p q : Proposal D) (kind : Kind) → same_proposal same p q ≡ false → has_proposals kind
      ≡ true → (xs : List (Vote G D)) → AllPass (may_be_buffered same number (Some p) kind) xs
      → filter (is_eligible same (Some q)) xs ≡ []
  all_gone p q kind differ h [] stand = refl
  all_gone p q kind differ h (v ∷ xs) stand =
      rw (gone p q kind differ h v (All-head (λ x. may_be_buffered same number (Some p) kind x ≡ true) v xs stand))
      (all_gone p q kind differ h xs (All-tail (λ x. may_be_buffered same number (Some p) kind x ≡ true) v xs stand))

  emptied : (before after : Option (Proposal D)) (kind : Kind)
      → (not (same_selected same before after) && is_some before) ≡ true → is_some after ≡ true
      → has_proposals kind ≡ true → (certified : Bool) (xs : List (Vote G D))
      → AllPass (may_be_buffered same number before kind) xs
      → cond certified [] (filter (is_eligible same after) (xs ++ [])) ≡ []
  emptied before after kind replaced some h true xs stand = refl
  emptied None None kind replaced some h false xs stand = absurd (cc)
  emptied None (Some q) kind replaced some h false xs stand = absurd (cc)
  emptied (Some p) None kind replaced some h false xs stand = absurd (cc)
  emptied (Some p) (Some q) kind replaced some h false xs stand = rw append-nil (all_gone p q kind (no_tie (same_proposal same p q) replaced) h xs stand)

  -- Where a proposal took another's place, no vote with a proposal waits.
  pub none_wait :
      (old new : VerifierState G D) (next : ProposalState D) (kind : Kind)
      → SetsProposal same old (updated old.selection next) new
      → (not (same_selected same (proposal_of old.selection) (proposal_of new.selection))
      && is_some (proposal_of old.selection)) ≡ true → has_proposals kind ≡ true
      → AllPass (may_be_buffered same number (proposal_of old.selection) kind)
      (of_kind old.pending kind)
      → AllPass (may_be_buffered same number (proposal_of old.selection) kind)
      (of_kind old.verified kind)
      → (of_kind new.pending kind ≡ []) × (of_kind new.verified kind ≡ [])
  none_wait old new next kind sets replaced h pending verified =
      let b = sets.buffers kind in
      let before = proposal_of old.selection in
      let after = proposal_of new.selection in
      let some : is_some after ≡ true = ap (λ s. is_some (proposal_of s)) sets.selection_is
      ∙ still_selected old.selection next (and_parts (not (same_selected same before after)) (is_some before) replaced).1 in (
        b.pending ∙ emptied before after kind replaced some h (of_kind new.certified kind) (of_kind old.pending kind) pending,
        b.verified ∙ emptied before after kind replaced some h (of_kind new.certified kind) (of_kind old.verified kind) verified,
      )

-- whether the selected proposal was replaced is whether the fixed one takes another's place
module _ {D : Type 0} (same : D → D → Bool) where
  pub replaced_is : ((a b : D) → same a b ≡ true → a ≡ b) → ((a : D) → same a a ≡ true)
      → (s : ProposalState D) (p : Proposal D)
      → (not (same_selected same (proposal_of s) (proposal_of (updated s (FixedProposal p))))
      && is_some (proposal_of s)) ≡ replaces same s p
  replaced_is identical reflexive Unknown p = refl
  replaced_is identical reflexive (LeadersProposal q) p = and-true (not (same_proposal same q p))
  replaced_is identical reflexive (FixedProposal q) p = rw (same_proposal-refl same reflexive q) refl

  pub fixed_now : (s : ProposalState D) (p : Proposal D) → replaces same s p ≡ true
      → proposal_of (updated s (FixedProposal p)) ≡ Some p
  fixed_now Unknown p h = absurd (cc)
  fixed_now (LeadersProposal q) p h = refl
  fixed_now (FixedProposal q) p h = absurd (cc)

  pub replaced_by :
      ((a b : D) → same a b ≡ true → a ≡ b) → ((a : D) → same a a ≡ true)
      → (s after : ProposalState D) (p : Proposal D) (changed replaced : Bool) → after
      ≡ updated s (FixedProposal p)
      → changed ≡ not (same_selected same (proposal_of s) (proposal_of after)) → replaced
      ≡ (changed && is_some (proposal_of s)) → replaced ≡ replaces same s p
  replaced_by identical reflexive s after p changed replaced e f h =
      h ∙ ap (λ b. b && is_some (proposal_of s)) (f ∙ ap (λ a. not (same_selected same (proposal_of s) (proposal_of a))) e)
      ∙ replaced_is identical reflexive s p

  -- the room is still there, as certified, selected and kept are what they were
  pub room_after :
      {G : Type 0} (p : Proposal D) (before after : Bool) (selected : Option (Proposal D))
      (votes kept : List (Vote G D)) (n m : ℕ) → after ≡ before → selected ≡ Some p → votes
      ≡ kept → n ≤ m
      → (before ≡ false → length (filter (is_eligible same (Some p)) kept) ≤ n) → after ≡ false
      → length (filter (is_eligible same selected) votes) ≤ m
  room_after p before after selected votes kept n m e f h le room none = rw (f, h) (omega (arith, le, room (sym e ∙ none)))

-- By the steps of the code: the proposal is set, and the votes of both kinds are restored.
module _ {G D : Type 0} (same : D → D → Bool) where
  thru : (certified : Bool) (test : Vote G D → Bool) (xs ys zs : List (Vote G D))
      → cond certified [] (filter test (cond certified [] (filter test (xs ++ ys)) ++ zs))
      ≡ cond certified [] (filter test (xs ++ (ys ++ zs)))
  thru true test xs ys zs = refl
  thru false test xs ys zs =
      let whole : xs ++ (ys ++ zs) ≡ (xs ++ ys) ++ zs = sym (append_assoc xs ys zs) in
      rw (
        whole,
        filter-append test (filter test (xs ++ ys)) zs,
        filter-append test (xs ++ ys) zs,
        filter_all test (filter test (xs ++ ys))
            (filter_passes test (xs ++ ys)),
      ) refl

  -- votes that join after others
  buffers_then : (a b c : VerifierState G D) (kind : Kind) (xs ys : List (Vote G D)) → c.selection
      ≡ b.selection → Buffers same a b kind xs [] → Buffers same b c kind ys []
      → Buffers same a c kind (xs ++ ys) []
  buffers_then a b c kind xs ys e f h =
      record {
        certified = h.certified ∙ f.certified;
        pending =
            h.pending ∙ ap (λ zs. still_eligible same c kind (zs ++ ys)) (f.pending ∙ still kind (of_kind a.pending kind ++ xs))
            ∙ thru (of_kind c.certified kind) (is_eligible same (proposal_of c.selection)) (of_kind a.pending kind) xs ys;
        verified =
            h.verified ∙ ap (λ zs. still_eligible same c kind (zs ++ [])) (f.verified ∙ still kind (of_kind a.verified kind ++ []))
            ∙ thru (of_kind c.certified kind) (is_eligible same (proposal_of c.selection)) (of_kind a.verified kind) [] [];
      } where
        still : (k : Kind) (zs : List (Vote G D)) → still_eligible same b kind zs
            ≡ still_eligible same c kind zs
        still k zs =
            ap (λ d. cond d [] (filter (is_eligible same (proposal_of b.selection)) zs)) (sym h.certified)
            ∙ ap (λ s. cond (of_kind c.certified kind) [] (filter (is_eligible same (proposal_of s)) zs)) (sym e)

  nothing_left : (certified : Bool) (test : Vote G D → Bool) → cond certified [] (filter test [])
      ≡ []
  nothing_left true test = refl
  nothing_left false test = refl

  pub none_came : (a b : VerifierState G D) (kind : Kind) → Buffers same a b kind [] []
      → (of_kind a.pending kind ≡ []) × (of_kind a.verified kind ≡ [])
      → (of_kind b.pending kind ≡ []) × (of_kind b.verified kind ≡ [])
  none_came a b kind h none = (
    h.pending ∙ ap (λ zs. still_eligible same b kind (zs ++ [])) none.0 ∙ nothing_left (of_kind b.certified kind) (is_eligible same (proposal_of b.selection)),
    h.verified ∙ ap (λ zs. still_eligible same b kind (zs ++ [])) none.1 ∙ nothing_left (of_kind b.certified kind) (is_eligible same (proposal_of b.selection)),
  )

  module _ (tracked : TrackerState G D) (old mid : VerifierState G D) (p : Proposal D)
      (sets : SetsProposal same old (updated old.selection (FixedProposal p)) mid) where
    -- where no other proposal was selected
    pub fixes_alone : replaces same old.selection p ≡ false
        → FixesProposal same old tracked.kept p mid
    fixes_alone e =
        record {
          leader = sets.leader;
          selection = sets.selection_is;
          buffers =
              λ kind. subst (λ b. Buffers same old mid kind (cond (b && has_proposals kind) (of_kind tracked.kept kind) []) []) (sym e) (sets.buffers kind);
        }

    pub within_alone : BuffersOnlyKept tracked old → BuffersOnlyKept tracked mid
    within_alone within kind i = omega (arith, within kind i, count_buffers same old mid kind [] [] (sets.buffers kind) (λ v. signer_of v == i))

    module _ (first second : VerifierState G D) (replaced : replaces same old.selection p ≡ true)
        (notarizes finalizes : List (Vote G D)) (n : notarizes ≡ tracked.kept.notarize)
        (f : finalizes ≡ tracked.kept.finalize)
        (leader_first : first.leader ≡ mid.leader) (selection_first : first.selection ≡ mid.selection)
        (one : (kind : Kind) → Buffers same mid first kind (cond (is_kind Notarization kind) notarizes []) [])
        (leader_second : second.leader ≡ first.leader) (selection_second : second.selection ≡ first.selection)
        (two : (kind : Kind) → Buffers same first second kind (cond (is_kind Finalization kind) finalizes []) []) where
      thrice : (kind : Kind) → Buffers same old second kind
          (([] ++ cond (is_kind Notarization kind) notarizes [])
          ++ cond (is_kind Finalization kind) finalizes []) []
      thrice kind =
          buffers_then old first second kind ([] ++ cond (is_kind Notarization kind) notarizes []) _ selection_second
          (buffers_then old mid first kind [] _ selection_first (sets.buffers kind) (one kind)) (two kind)

      pub fixes_both : FixesProposal same old tracked.kept p second
      fixes_both =
          record {
            leader = leader_second ∙ leader_first ∙ sets.leader;
            selection = selection_second ∙ selection_first ∙ sets.selection_is;
            buffers =
                λ kind. subst (λ b. Buffers same old second kind (cond (b && has_proposals kind) (of_kind tracked.kept kind) []) []) (sym replaced)
                (each_kind (λ k. Buffers same old second k (cond (has_proposals k) (of_kind tracked.kept k) []) [])
                (subst (λ zs. Buffers same old second Notarization zs []) (append-nil notarizes ∙ n) (thrice Notarization))
                (thrice Nullification)
                (subst (λ zs. Buffers same old second Finalization zs []) f (thrice Finalization))
                kind);
          }

      module _ (none : (kind : Kind) → has_proposals kind ≡ true → (of_kind mid.pending kind ≡ [])
          × (of_kind mid.verified kind ≡ [])) (keeps_notarizes : KeepsEach tracked Notarization)
          (keeps_finalizes : KeepsEach tracked Finalization) (within : BuffersOnlyKept tracked old)
        where
          none_counted : (kind : Kind) (i : ℕ) → has_proposals kind ≡ true
              → count (λ v. signer_of v == i)
              (of_kind mid.verified kind ++ of_kind mid.pending kind)
              ≡ 0
          none_counted kind i h =
              ap (λ zs. count (λ v. signer_of v == i) (zs ++ of_kind mid.pending kind)) ((none kind h).1)
              ∙ ap (λ zs. count (λ v. signer_of v == i) zs) ((none kind h).0)

          pub within_both : BuffersOnlyKept tracked second
          within_both kind i =
              each_kind (λ k. count (λ v. signer_of v == i) (of_kind second.verified k ++ of_kind second.pending k)
              ≤ cond (is_some (kept_vote tracked k i)) 1 0)
              (omega (
                arith,
                none_counted Notarization i refl,
                count_buffers same mid first Notarization notarizes [] (one Notarization) (λ v. signer_of v == i),
                count_buffers same first second Notarization [] [] (two Notarization) (λ v. signer_of v == i),
                ap (λ zs. count (λ v. signer_of v == i) zs) n,
                keeps_notarizes.once i,
              ))
              (omega (
                arith,
                within Nullification i,
                within_alone within Nullification i,
                count_buffers same mid first Nullification [] [] (one Nullification)
                    (λ v. signer_of v == i),
                count_buffers same first second Nullification [] [] (two Nullification) (λ v. signer_of v == i),
              ))
              (omega (
                arith,
                none_counted Finalization i refl,
                count_buffers same mid first Finalization [] [] (one Finalization) (λ v. signer_of v == i),
                count_buffers same first second Finalization finalizes [] (two Finalization) (λ v. signer_of v == i),
                ap
                    (λ zs. count (λ v. signer_of v == i) zs) f,
                keeps_finalizes.once i,
              ))
              kind

-- no signer has two votes of a kind that are kept
pub once_kept : {G D : Type 0} (held : TrackerState G D) (kind : Kind) (votes : List (Vote G D))
    → KeepsEach held kind → votes ≡ of_kind held.kept kind → EachOnce signer_of votes
once_kept held kind votes keeps e i = rw e (at_most_one (is_some (kept_vote held kind i)) (keeps.once i)) where
  at_most_one : {n : ℕ} (b : Bool) → n ≤ cond b 1 0 → n ≤ 1
  at_most_one true h = h
  at_most_one false h = omega (arith, h)

pub kinds_kept : {G D : Type 0} (held : TrackerState G D) (kind : Kind) (votes : List (Vote G D))
    → KeepsEach held kind → votes ≡ of_kind held.kept kind → AllPass (is_of_kind kind) votes
kinds_kept held kind votes keeps e = rw e keeps.kinds
