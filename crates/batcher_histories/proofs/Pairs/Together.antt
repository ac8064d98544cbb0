-- Two rounds that take the same calls, one that retains votes and one that releases them: one more
-- call leaves them alike.
use Rattle.batcher_histories.proofs.Words.{◌≡◌, ℕ, Bool, true, false, cond, ◌&&◌, ◌||◌, List, [], ◌∷◌, ◌++◌, Option, Some, None, is_none, is_some, Ok, filter}
use Rattle.batcher_histories.proofs.Words.{find, refl, ap, sym, ◌∙◌, subst, ⊎_elim, ⊤, MatchBool, cases_Bool, true≢false, or_parts, none-some, same_Some}
use Rattle.batcher_histories.proofs.Words.{filter_agree, Stream, Round, Kind, Notarization, Nullification, Finalization, Vote, Certificate}
use Rattle.batcher_histories.proofs.Words.{NotarizationCertificate, NullificationCertificate, FinalizationCertificate, Batch, Outcome, Retaining, Releasing}
use Rattle.batcher_histories.proofs.Words.{Call, NetworkCall, OwnCall, CertificateCall, LeaderCall, ConstructCall, ForwardCall, MissingCall, Answer}
use Rattle.batcher_histories.proofs.Words.{OutOfMemory, NetworkAnswer, OwnAnswer, OwnRefused, CertificateAnswer, LeaderAnswer, ConstructAnswer, ForwardAnswer}
use Rattle.batcher_histories.proofs.Words.{MissingAnswer, Meaning, Config, quorum_in, ordered_by, is_kind, kind_of, is_of_kind, is_vote_of, signer_of, opposes}
use Rattle.batcher_histories.proofs.Words.{is_eligible, replaces, is_some_and, PerKind, of_kind, VerifierState, RoundState, attempt_of, TriesKind}
use Rattle.batcher_histories.proofs.Words.{attestations_of, batch_of, AfterConstruct, kind_tried, forward_answer, leader_set_answer, nothing_held, is_added}
use Rattle.batcher_histories.proofs.Words.{Steps, History, is_made, history_after, names_sender, sent_votes, own_votes, batch_given, is_free, opposite_vote}
use Rattle.batcher_histories.proofs.Words.{selection, selected_proposal, is_certified, is_restored, ready_kind, eligible_among, left_verified}
use Rattle.batcher_histories.proofs.Words.{certificate_answer, network_answer, own_answer, Represents, Simulates, Meets, arrivals, first_by_signer}
use Rattle.batcher_histories.proofs.Words.{pending_after, tries_kind, verified_after, IsAlike, in_mode, ends_pair}
use Rattle.batcher_histories.proofs.Pairs.Alike.{AreAlike, told_alike, leader_alike, forwarded_alike, certified_alike, firsts_alike, selection_alike}
use Rattle.batcher_histories.proofs.Pairs.Alike.{selected_alike, waiting_alike, back_alike, ready_alike}
use Rattle.batcher_histories.proofs.Simulation.Network.{added_is}
use Rattle.batcher_histories.proofs.AnswerFacts.Told.{own_added}
use Rattle.batcher_histories.proofs.KnownLemmas.AtFirst.{fresh_represents}
use Rattle.batcher_histories.proofs.History.ByFirst.{own_is}

-- WHAT IS BUFFERED
-- the same of each kind
pub each_same : {X : Type 0} (a b : PerKind X)
    → ((kind : Kind) → of_kind a kind ≡ of_kind b kind) → a ≡ b
each_same {X = X} a b same =
    ap (λ v. by v a.nullify a.finalize) (same Notarization)
    ∙ (ap (λ v. by b.notarize v a.finalize) (same Nullification) ∙ ap (λ v. by b.notarize b.nullify v) (same Finalization))
  where
    by : X → X → X → PerKind X
    by u v w = record { notarize = u; nullify = v; finalize = w }

pub buffered_same : {G D : Type 0} (a b : VerifierState G D)
    → a.leader ≡ b.leader → a.selection ≡ b.selection
    → ((kind : Kind) → of_kind a.certified kind ≡ of_kind b.certified kind)
    → ((kind : Kind) → of_kind a.pending kind ≡ of_kind b.pending kind)
    → ((kind : Kind) → of_kind a.verified kind ≡ of_kind b.verified kind) → a ≡ b
buffered_same a b leader selection certified pending verified =
    ap (λ v. record a { leader = v }) leader
    ∙ (ap (λ v. record a { leader = b.leader; selection = v }) selection
    ∙ (ap (λ v. record a { leader = b.leader; selection = b.selection; certified = v }) (each_same a.certified b.certified certified)
    ∙ (ap (λ v. record b { pending = v; verified = a.verified }) (each_same a.pending b.pending pending)
    ∙ ap (λ v. record b { verified = v }) (each_same a.verified b.verified verified))))

-- ATTEMPTS
-- Two attempts with the same buffers and stream are about one subject, come to one outcome, and
-- leave one stream;
pub one_outcome : {D K G C : Type 0} (m : Meaning D K G C) (number : Round) (q : ℕ)
    (held : VerifierState G D) (kind : Kind) (before : Stream)
    (batch other : Batch (Certificate C D))
    (after left : Stream) (new news : VerifierState G D)
    → (first : TriesKind m number q held kind before batch after new)
    → (second : TriesKind m number q held kind before other left news)
    → (first.subject ≡ second.subject) × ((first.outcome ≡ second.outcome) × (after ≡ left))
one_outcome m number q held kind before batch other after left new news first second =
    let subjects = same_Some first.subject second.subject (sym first.subject_is ∙ second.subject_is) in
    let both =
    first.attempt
    ∙ (ap (λ s. attempt_of m s q (attestations_of (of_kind held.verified kind)) (attestations_of (of_kind held.pending kind)) before) subjects
    ∙ sym second.attempt) in
    (subjects, (ap (λ t. t.0) both, ap (λ t. t.1) both))

-- so they give one batch.
pub one_attempt : {D K G C : Type 0} (m : Meaning D K G C) (number : Round) (q : ℕ)
    (held : VerifierState G D) (kind : Kind) (before : Stream)
    (batch other : Batch (Certificate C D))
    (after left : Stream) (new news : VerifierState G D)
    → TriesKind m number q held kind before batch after new
    → TriesKind m number q held kind before other left news → (batch ≡ other) × (after ≡ left)
one_attempt m number q held kind before batch other after left new news first second =
    let one = one_outcome m number q held kind before batch other after left new news first second in (
      first.batch_is
          ∙ (ap (λ s. batch_of s first.outcome) one.0
          ∙ (ap (λ o. batch_of second.subject o) one.1.0 ∙ sym second.batch_is)),
      one.1.1,
    )

-- ANSWERS
module _ {D K G C : Type 0} where
  -- the answers of a call that don't end a pair
  abbrev Fits : Call K G C D → Answer G C D → Type 0
  Fits (NetworkCall sender vote) (NetworkAnswer a) = ⊤
  Fits (OwnCall vote) (OwnAnswer outcome report) = ⊤
  Fits (CertificateCall certificate) (CertificateAnswer a) = ⊤
  Fits (LeaderCall leader) (LeaderAnswer a) = ⊤
  Fits ConstructCall (ConstructAnswer a) = ⊤
  Fits (ForwardCall me) (ForwardAnswer a) = ⊤
  Fits (MissingCall proposal) (MissingAnswer a) = ⊤
  Fits call answer = ⊥

  fits : (x : Config D K G C) (old : RoundState G D) (before : Stream) (new : RoundState G D)
      (after : Stream)
      (call : Call K G C D) (answer : Answer G C D) → Steps x old before call answer new after
      → ends_pair answer ≡ false → Fits call answer
  fits x old before new after (NetworkCall sender vote) (NetworkAnswer a) steps ends = tt
  fits x old before new after (OwnCall vote) (OwnAnswer outcome report) steps ends = tt
  fits x old before new after (CertificateCall certificate) (CertificateAnswer a) steps ends = tt
  fits x old before new after (LeaderCall leader) (LeaderAnswer a) steps ends = tt
  fits x old before new after ConstructCall (ConstructAnswer a) steps ends = tt
  fits x old before new after (ForwardCall me) (ForwardAnswer a) steps ends = tt
  fits x old before new after (MissingCall proposal) (MissingAnswer a) steps ends = tt
  fits x old before new after call OutOfMemory steps ends = absurd (true≢false ends)
  fits x old before new after call (OwnRefused fault) steps ends = absurd (true≢false ends)
  fits x old before new after call answer steps ends = absurd steps

module _ {D K G C : Type 0} (x : Config D K G C) where
  -- Two rounds are beside each other: they represent alike histories, and the same votes wait in
  -- both, in the same order.
  pub record AreTogether (retained released : History D K G C) (old other : RoundState G D) : Type 0 where
    pub represents : Represents (in_mode x Retaining) retained old
    pub represents_released : Represents (in_mode x Releasing) released other
    pub alike : AreAlike retained released
    pub buffered : old.buffered ≡ other.buffered
    pub forwarded : old.forwarded ≡ other.forwarded

  -- Two new rounds are.
  pub beside_at_first : AreTogether [] [] (nothing_held Retaining) (nothing_held Releasing)
  beside_at_first =
      record {
        represents = fresh_represents (in_mode x Retaining);
        represents_released = fresh_represents (in_mode x Releasing);
        alike = tt;
        buffered = refl;
        forwarded = refl;
      }

  module _ (retained released : History D K G C) (old other : RoundState G D)
      (beside : AreTogether retained released old other) where
    -- WHAT IS ANSWERED
    -- by the history,
    added_alike : (sender : K) (vote : Vote G D)
        → (network_answer (in_mode x Retaining) retained sender vote).added
        ≡ (network_answer (in_mode x Releasing) released sender vote).added
    added_alike sender vote =
        added_is (in_mode x Retaining) retained sender vote
        ∙ (ap (λ vs. names_sender x sender vote && is_free vs vote) (firsts_alike x retained released beside.alike)
        ∙ sym (added_is (in_mode x Releasing) released sender vote))

    own_added_alike : (vote : Vote G D) (outcome second : Outcome)
        → own_answer (in_mode x Retaining) retained vote ≡ Ok outcome
        → own_answer (in_mode x Releasing) released vote ≡ Ok second
        → is_added outcome ≡ is_added second
    own_added_alike vote outcome second is also =
        own_added (in_mode x Retaining) retained vote (opposite_vote (in_mode x Retaining) retained vote) outcome
        (sym (own_is (in_mode x Retaining) retained vote) ∙ is)
        ∙ (ap (λ vs.
        is_none (find (is_vote_of (kind_of vote) (signer_of vote)) vs) && is_none (find (λ v. opposes v vote) vs))
        (firsts_alike x retained released beside.alike)
        ∙ sym (own_added (in_mode x Releasing) released vote (opposite_vote (in_mode x Releasing) released vote) second
        (sym (own_is (in_mode x Releasing) released vote) ∙ also)))

    changes_alike : (certificate : Certificate C D)
        → certificate_answer (in_mode x Retaining) retained certificate
        ≡ certificate_answer (in_mode x Releasing) released certificate
    changes_alike (NotarizationCertificate certificate) =
        ap (λ o. is_none o || replaces x.same_digest (selection (in_mode x Retaining) retained) certificate.proposal)
        (selected_alike x retained released beside.alike)
        ∙ ap (λ s. is_none (selected_proposal (in_mode x Releasing) released) || replaces x.same_digest s certificate.proposal)
        (selection_alike x retained released beside.alike)
    changes_alike (NullificationCertificate certificate) = refl
    changes_alike (FinalizationCertificate certificate) = refl

    -- and by what is buffered
    tried_alike : kind_tried (in_mode x Retaining) old ≡ kind_tried (in_mode x Releasing) other
    tried_alike = ap (λ b. kind_tried (in_mode x Retaining) (record old { buffered = b })) beside.buffered

    module _ (before : Stream) (new news : RoundState G D) (after left : Stream) where
      construct_alike : (given gives : Option (Batch (Certificate C D)))
          → AfterConstruct (in_mode x Retaining) old before given new after
          → AfterConstruct (in_mode x Releasing) other before gives news left →
          (given ≡ gives) × (after ≡ left)
      construct_alike None None step step_released = (refl, step.stream ∙ sym step_released.stream)
      construct_alike None (Some batch) step step_released = absurd (none-some step_released.kind (sym step.none ∙ (tried_alike ∙ step_released.first)))
      construct_alike (Some batch) None step step_released = absurd (none-some step.kind (sym step_released.none ∙ (sym tried_alike ∙ step.first)))
      construct_alike (Some batch) (Some gives) step step_released =
          let kinds = same_Some step.kind step_released.kind (sym step.first ∙ (tried_alike ∙ step_released.first)) in
          let both =
          one_attempt x.meaning x.number (quorum_in x) old.buffered step.kind before batch gives after left step.tried.left step_released.tried.left
          step.tried.tries
          (subst (λ k. TriesKind x.meaning x.number (quorum_in x) old.buffered k before gives left step_released.tried.left) (sym kinds)
          (subst (λ b. TriesKind x.meaning x.number (quorum_in x) b step_released.kind before gives left step_released.tried.left) (sym beside.buffered)
          step_released.tried.tries)) in
          (ap Some both.0, both.1)

      -- Both answer alike, and leave the same stream.
      answers_alike : (call : Call K G C D) (a b : Answer G C D) → Fits call a → Fits call b
          → Steps (in_mode x Retaining) old before call a new after
          → Steps (in_mode x Releasing) other before call b news left →
          Meets (in_mode x Retaining) retained old (call, a) new
          → Meets (in_mode x Releasing) released other (call, b) news → IsAlike a b
          × (after ≡ left)
      answers_alike (NetworkCall sender vote) (NetworkAnswer a) (NetworkAnswer b) fit fit_released step step_released meets meets_released = (
        ap (λ t. t.added) meets.represents.possible.1.1.0 ∙ (added_alike sender vote ∙ sym (ap (λ t. t.added) meets_released.represents.possible.1.1.0)),
        step.1
            ∙ sym step_released.1,
      )
      answers_alike (OwnCall vote) (OwnAnswer outcome report) (OwnAnswer second reported) fit fit_released step step_released meets meets_released =
          (own_added_alike vote outcome second meets.represents.possible.1.1.0.0 meets_released.represents.possible.1.1.0.0, step.1 ∙ sym step_released.1)
      answers_alike (CertificateCall certificate) (CertificateAnswer a) (CertificateAnswer b) fit fit_released step step_released meets meets_released =
          (meets.represents.possible.1.1.0 ∙ (changes_alike certificate ∙ sym meets_released.represents.possible.1.1.0), step.1 ∙ sym step_released.1)
      answers_alike (LeaderCall leader) (LeaderAnswer a) (LeaderAnswer b) fit fit_released step step_released meets meets_released =
          (step.0 ∙ (ap (λ h. leader_set_answer h.leader leader) beside.buffered ∙ sym step_released.0), step.1.1 ∙ sym step_released.1.1)
      answers_alike ConstructCall (ConstructAnswer a) (ConstructAnswer b) fit fit_released step step_released meets meets_released =
          construct_alike a b step step_released
      answers_alike (ForwardCall me) (ForwardAnswer a) (ForwardAnswer b) fit fit_released step step_released meets meets_released = (
        step.0
            ∙ (ap (λ h. forward_answer (record old { buffered = h }) me) beside.buffered
            ∙ (ap (λ f. forward_answer (record other { forwarded = f }) me) beside.forwarded ∙ sym step_released.0)),
        step.1.1 ∙ sym step_released.1.1,
      )
      answers_alike (MissingCall proposal) (MissingAnswer a) (MissingAnswer b) fit fit_released step step_released meets meets_released =
          (tt, step.1.1 ∙ sym step_released.1.1)
      answers_alike (NetworkCall sender vote) (NetworkAnswer a) b fit fit_released step step_released meets meets_released = absurd fit_released
      answers_alike (OwnCall vote) (OwnAnswer outcome report) b fit fit_released step step_released meets meets_released = absurd fit_released
      answers_alike (CertificateCall certificate) (CertificateAnswer a) b fit fit_released step step_released meets meets_released = absurd fit_released
      answers_alike (LeaderCall leader) (LeaderAnswer a) b fit fit_released step step_released meets meets_released = absurd fit_released
      answers_alike ConstructCall (ConstructAnswer a) b fit fit_released step step_released meets meets_released = absurd fit_released
      answers_alike (ForwardCall me) (ForwardAnswer a) b fit fit_released step step_released meets meets_released = absurd fit_released
      answers_alike (MissingCall proposal) (MissingAnswer a) b fit fit_released step step_released meets meets_released = absurd fit_released
      answers_alike call a b fit fit_released step step_released meets meets_released = absurd fit

    -- BUFFERS
    -- Votes of a kind that isn't certified are kept in both.
    kept_alike : (kind : Kind) → is_certified released kind ≡ false → of_kind old.tracked.kept kind
        ≡ of_kind other.tracked.kept kind
    kept_alike kind still =
        (beside.represents.each_kind kind).kept_are
        ∙ (ap (λ vs. ordered_by signer_of (filter (is_of_kind kind) vs)) (firsts_alike x retained released beside.alike)
        ∙ sym ((beside.represents_released.each_kind kind).kept_are ∙ ap (λ c. cond c [] (first_by_signer (in_mode x Releasing) released kind)) still))

    -- with one more call, that both answer alike
    module _ (call : Call K G C D) (a b : Answer G C D) (answers : IsAlike a b) where
      longer : AreAlike ((call, a) ∷ retained) ((call, b) ∷ released)
      longer = (refl, (answers, beside.alike))

      tries_alike : (kind : Kind) → tries_kind (in_mode x Retaining) retained a kind
          ≡ tries_kind (in_mode x Releasing) released b kind
      tries_alike kind =
          ap (λ g. is_some g && is_some_and (ready_kind (in_mode x Retaining) retained) (λ k. is_kind k kind)) (told_alike a b answers).batch
          ∙ ap (λ o. is_some (batch_given b) && is_some_and o (λ k. is_kind k kind)) (ready_alike x retained released beside.alike)

      arrivals_alike : (kind : Kind) (votes : List (Vote G D))
          → arrivals (in_mode x Retaining) retained kind votes
          ≡ arrivals (in_mode x Releasing) released kind votes
      arrivals_alike kind votes = ap (λ vs. filter (λ v. is_of_kind kind v && is_free vs v) votes) (firsts_alike x retained released beside.alike)

      -- None of a certified kind is restored.
      returns_alike : (kind : Kind) → is_certified ((call, b) ∷ released) kind ≡ false →
          filter (is_restored (in_mode x Retaining) retained (call, a))
          (of_kind old.tracked.kept kind)
          ≡ filter (is_restored (in_mode x Releasing) released (call, b))
          (of_kind other.tracked.kept kind)
      returns_alike kind still =
          filter_agree _ (is_restored (in_mode x Releasing) released (call, b)) (back_alike x (call, a) (call, b) retained released longer)
          (of_kind old.tracked.kept kind)
          ∙ ap (filter (is_restored (in_mode x Releasing) released (call, b))) (kept_alike kind (or_parts _ (is_certified released kind) still).1)

      -- No vote of a certified kind waits, so that votes need to be the same of the others alone.
      waits_alike : (kind : Kind) (vs ws : List (Vote G D))
          → (is_certified ((call, b) ∷ released) kind ≡ false → vs ≡ ws) →
          eligible_among (in_mode x Retaining) ((call, a) ∷ retained) kind vs
          ≡ eligible_among (in_mode x Releasing) ((call, b) ∷ released) kind ws
      waits_alike kind vs ws same =
          waiting_alike x ((call, a) ∷ retained) ((call, b) ∷ released) longer kind vs
          ∙ ⊎_elim
          (λ closed. none closed vs ∙ sym (none closed ws))
          (λ still. ap (eligible_among (in_mode x Releasing) ((call, b) ∷ released) kind) (same still))
          (cases_Bool (is_certified ((call, b) ∷ released) kind))
        where
          none : is_certified ((call, b) ∷ released) kind ≡ true → (votes : List (Vote G D))
              → eligible_among (in_mode x Releasing) ((call, b) ∷ released) kind votes ≡ []
          none closed votes =
              ap (λ c. cond (c || false) [] (filter (is_eligible x.same_digest (selected_proposal (in_mode x Releasing) ((call, b) ∷ released))) votes)) closed

      pending_alike : (kind : Kind) → pending_after (in_mode x Retaining) retained old (call, a)
          kind ≡ pending_after (in_mode x Releasing) released other (call, b) kind
      pending_alike kind =
          waits_alike kind _ _
          (λ still.
          ap (λ t. cond t [] (of_kind old.buffered.pending kind) ++ returned ++ arrived) (tries_alike kind)
          ∙ (ap (λ h. cond (tries_kind (in_mode x Releasing) released b kind) [] (of_kind h.pending kind) ++ returned ++ arrived) beside.buffered
          ∙ (ap (λ vs. left ++ vs ++ arrived) (returns_alike kind still)
          ∙ ap (λ vs. left ++ filter (is_restored (in_mode x Releasing) released (call, b)) (of_kind other.tracked.kept kind) ++ vs)
          (arrivals_alike kind (sent_votes x call)))))
        where
          returned : List (Vote G D)
          returned = filter (is_restored (in_mode x Retaining) retained (call, a)) (of_kind old.tracked.kept kind)

          arrived : List (Vote G D)
          arrived = arrivals (in_mode x Retaining) retained kind (sent_votes x call)

          left : List (Vote G D)
          left = cond (tries_kind (in_mode x Releasing) released b kind) [] (of_kind other.buffered.pending kind)

      verified_alike : (kind : Kind) → verified_after (in_mode x Retaining) retained old (call, a)
          kind ≡ verified_after (in_mode x Releasing) released other (call, b) kind
      verified_alike kind =
          waits_alike kind _ _
          (λ still.
          ap (λ t. left_by t old.buffered ++ arrivals (in_mode x Retaining) retained kind (own_votes call)) (tries_alike kind)
          ∙ (ap (λ h. left_by (tries_kind (in_mode x Releasing) released b kind) h ++ arrivals (in_mode x Retaining) retained kind (own_votes call))
          beside.buffered
          ∙ ap (λ vs. left_by (tries_kind (in_mode x Releasing) released b kind) other.buffered ++ vs) (arrivals_alike kind (own_votes call))))
        where
          left_by : Bool → VerifierState G D → List (Vote G D)
          left_by tried held = cond tried (left_verified x (of_kind held.verified kind) (of_kind held.pending kind)) (of_kind held.verified kind)

      -- A made call leaves both beside each other.
      made_beside : (new news : RoundState G D)
          → Simulates (in_mode x Retaining) retained old (call, a) new
          → Simulates (in_mode x Releasing) released other (call, b) news →
          AreTogether ((call, a) ∷ retained) ((call, b) ∷ released) new news
      made_beside new news simulates follows_released =
          record {
            represents = simulates.represents;
            represents_released = follows_released.represents;
            alike = longer;
            buffered =
                buffered_same new.buffered news.buffered
                (simulates.represents.leader_is ∙ (leader_alike ((call, a) ∷ retained) ((call, b) ∷ released) longer
                ∙ sym follows_released.represents.leader_is))
                (simulates.represents.selection_is ∙ (selection_alike x ((call, a) ∷ retained) ((call, b) ∷ released) longer
                ∙ sym follows_released.represents.selection_is))
                (λ kind. (simulates.represents.each_kind kind).certified_is
                ∙ (certified_alike ((call, a) ∷ retained) ((call, b) ∷ released) longer kind ∙ sym (follows_released.represents.each_kind kind).certified_is))
                (λ kind. simulates.pending_are kind ∙ (pending_alike kind ∙ sym (follows_released.pending_are kind)))
                (λ kind. simulates.verified_are kind ∙ (verified_alike kind ∙ sym (follows_released.verified_are kind)));
            forwarded =
                simulates.represents.forwarded_is ∙ (forwarded_alike ((call, a) ∷ retained) ((call, b) ∷ released) longer
                ∙ sym follows_released.represents.forwarded_is);
          }

      -- One that is refused leaves both as they were.
      any_beside : (new news : RoundState G D) (made makes : Bool) → made ≡ makes
          → MatchBool made (Simulates (in_mode x Retaining) retained old (call, a) new)
          (new ≡ old) →
          MatchBool makes (Simulates (in_mode x Releasing) released other (call, b) news)
          (news ≡ other) → AreTogether (cond made ((call, a) ∷ retained) retained)
          (cond makes ((call, b) ∷ released) released) new news
      any_beside new news true true same meets meets_released = made_beside new news meets meets_released
      any_beside new news false false same meets meets_released =
          subst (λ h. AreTogether retained released h news) (sym meets) (subst (λ h. AreTogether retained released old h) (sym meets_released) beside)
      any_beside new news true false same meets meets_released = absurd (true≢false same)
      any_beside new news false true same meets meets_released = absurd (true≢false (sym same))

  -- What is true of two rounds once each has taken the same call.
  pub record StayBeside (retained released : History D K G C) (call : Call K G C D)
      (a b : Answer G C D) (new news : RoundState G D) (after left : Stream) : Type 0 where
    pub answers : IsAlike a b
    pub made : is_made a ≡ is_made b
    pub streams : after ≡ left
    pub beside : AreTogether (history_after retained call a) (history_after released call b) new
        news

  -- Two rounds beside each other answer a call alike from one stream, unless it ends the pair, and
  -- stay so.
  pub stay_beside : (retained released : History D K G C) (old other : RoundState G D)
      (before : Stream)
      (call : Call K G C D) (a b : Answer G C D) (new news : RoundState G D) (after left : Stream) →
      AreTogether retained released old other → ends_pair a ≡ false → ends_pair b ≡ false →
      Steps (in_mode x Retaining) old before call a new after
      → Meets (in_mode x Retaining) retained old (call, a) new →
      Steps (in_mode x Releasing) other before call b news left
      → Meets (in_mode x Releasing) released other (call, b) news →
      StayBeside retained released call a b new news after left
  stay_beside retained released old other before call a b new news after left beside ends ends_released step meets step_released meets_released =
      let both =
      answers_alike retained released old other beside before new news after left call a b
      (fits (in_mode x Retaining) old before new after call a step ends) (fits (in_mode x Releasing) other before news left call b step_released ends_released)
      step step_released meets meets_released in
      let made = (told_alike a b both.0).made in
      record {
        answers = both.0;
        made = made;
        streams = both.1;
        beside = any_beside retained released old other beside call a b both.0 new news (is_made a) (is_made b) made meets meets_released;
      }
