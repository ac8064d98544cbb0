-- Equal runs go alike: unless memory is refused, what is held and the stream determine what a call
-- is answered, and what it leaves.
use Rattle.batcher_histories.proofs.Words.{◌≡◌, ℕ, zero, suc, Bool, true, false, not, cond, ◌&&◌, ◌||◌, List, [], ◌∷◌, ◌++◌, filter, map, take, Option, Some}
use Rattle.batcher_histories.proofs.Words.{None, Result, Ok, Err, is_some, refl, ap, sym, ◌∙◌, subst, ⊎_elim, MatchBool, list_any, cases_Bool, or_parts}
use Rattle.batcher_histories.proofs.Words.{true≢false, none-some, same_Some, Stream, Participant, Round, Activity, Kind, Notarization, Proposal, Vote}
use Rattle.batcher_histories.proofs.Words.{Certificate, Admission, Outcome, Batch, LeaderFault, ProposalState, Call, NetworkCall, OwnCall, CertificateCall}
use Rattle.batcher_histories.proofs.Words.{LeaderCall, ConstructCall, ForwardCall, MissingCall, Answer, OutOfMemory, NetworkAnswer, OwnAnswer, OwnRefused}
use Rattle.batcher_histories.proofs.Words.{CertificateAnswer, LeaderAnswer, ConstructAnswer, ForwardAnswer, MissingAnswer, Meaning, Config, quorum_in, is_kind}
use Rattle.batcher_histories.proofs.Words.{is_eligible, kind_of, is_of_kind, kind_certified, subject_certified, proposal_in, is_kind-true, proposal_of}
use Rattle.batcher_histories.proofs.Words.{same_selected, PerKind, of_kind, TrackerState, VerifierState, RoundState, RecordsKind, ReleasesKind, facts_of_kept}
use Rattle.batcher_histories.proofs.Words.{is_released_in, kept_vote, Buffers, still_eligible, AddsVote, SetsLeader, SetsProposal, MayFix, selected_in}
use Rattle.batcher_histories.proofs.Words.{CompletesKind, TriesKind, restored_by_fix, vote_for, AfterLeader, AfterNetwork, AfterOwn, AfterCertificate}
use Rattle.batcher_histories.proofs.Words.{AfterBatch, AfterConstruct, Fixes, Settles, AfterGiven, is_kept, nothing_held, option_proposal, report_by}
use Rattle.batcher_histories.proofs.Words.{AfterLeaderSet, Steps, StepsNetwork, StepsOwn, StepsCertificate, StepsLeader, StepsConstruct, StepsForward}
use Rattle.batcher_histories.proofs.Words.{StepsMissing, Runs, is_out_of_memory, HadMemory, GoAlike, EqualRunsGoAlike}
use Rattle.batcher_histories.proofs.Pairs.Together.{each_same, buffered_same, one_outcome, one_attempt}

-- WHAT IS HELD
-- records with the same fields
tracked_same : {G D : Type 0} (a b : TrackerState G D)
    → ((kind : Kind) → of_kind a.compacted kind ≡ of_kind b.compacted kind)
    → ((kind : Kind) → of_kind a.kept kind ≡ of_kind b.kept kind)
    → ((kind : Kind) → of_kind a.facts kind ≡ of_kind b.facts kind) → a ≡ b
tracked_same a b compacted kept facts =
    ap (λ v. record a { compacted = v }) (each_same a.compacted b.compacted compacted)
    ∙ (ap (λ v. record b { kept = v; facts = a.facts }) (each_same a.kept b.kept kept)
    ∙ ap (λ v. record b { facts = v }) (each_same a.facts b.facts facts))

held_same : {G D : Type 0} (a b : RoundState G D)
    → a.tracked ≡ b.tracked → a.buffered ≡ b.buffered → a.forwarded ≡ b.forwarded → a ≡ b
held_same a b tracked buffered forwarded =
    ap (λ v. record a { tracked = v }) tracked
    ∙ (ap (λ v. record b { buffered = v; forwarded = a.forwarded }) buffered
    ∙ ap (λ v. record b { forwarded = v }) forwarded)

-- TRACKED VOTES
module _ {G D : Type 0} (same : D → D → Bool) (old new news : TrackerState G D) where
  recorded_once : (selected : Option (Proposal D)) (recorded : Bool) (vote : Vote G D)
      → ((kind : Kind) → RecordsKind same old new selected recorded vote kind)
      → ((kind : Kind) → RecordsKind same old news selected recorded vote kind) → new ≡ news
  recorded_once selected recorded vote one two =
      tracked_same new news
      (λ kind. (one kind).compacted ∙ sym (two kind).compacted)
      (λ kind. (one kind).kept ∙ sym (two kind).kept)
      (λ kind. (one kind).facts ∙ sym (two kind).facts)

  released_once : (selected : Option (Proposal D)) (released : Kind → Bool)
      → ((kind : Kind) → ReleasesKind same old new selected (released kind) kind)
      → ((kind : Kind) → ReleasesKind same old news selected (released kind) kind) → new ≡ news
  released_once selected released one two =
      tracked_same new news compacted
      (λ kind.
      (one kind).kept
      ∙ (ap (λ c. cond c [] (of_kind old.kept kind)) (compacted kind) ∙ sym (two kind).kept))
      (λ kind.
      (one kind).facts
      ∙ (ap (λ c.
      cond (of_kind old.compacted kind) (of_kind old.facts kind)
      (cond c (map (facts_of_kept same selected) (of_kind old.kept kind)) [])) (compacted kind)
      ∙ sym (two kind).facts))
    where
      compacted : (kind : Kind) → of_kind new.compacted kind ≡ of_kind news.compacted kind
      compacted kind = (one kind).compacted ∙ sym (two kind).compacted

-- WAITING VOTES
module _ {G D : Type 0} (same : D → D → Bool) (old new news : VerifierState G D) where
  -- the same leader and selected proposal, and the same votes added
  filled_once : (to_pending to_verified : Kind → List (Vote G D))
      → new.leader ≡ news.leader → new.selection ≡ news.selection
      → ((kind : Kind) → Buffers same old new kind (to_pending kind) (to_verified kind))
      → ((kind : Kind) → Buffers same old news kind (to_pending kind) (to_verified kind))
      → new ≡ news
  filled_once to_pending to_verified leader selection one two =
      buffered_same new news leader selection certified
      (λ kind.
      (one kind).pending
      ∙ (still kind (of_kind old.pending kind ++ to_pending kind) ∙ sym (two kind).pending))
      (λ kind.
      (one kind).verified
      ∙ (still kind (of_kind old.verified kind ++ to_verified kind) ∙ sym (two kind).verified))
    where
      certified : (kind : Kind) → of_kind new.certified kind ≡ of_kind news.certified kind
      certified kind = (one kind).certified ∙ sym (two kind).certified

      still : (kind : Kind) (votes : List (Vote G D))
          → still_eligible same new kind votes ≡ still_eligible same news kind votes
      still kind votes =
          ap (λ c. cond c [] (filter (is_eligible same (proposal_of new.selection)) votes)) (certified kind)
          ∙ ap (λ s. cond (of_kind news.certified kind) [] (filter (is_eligible same (proposal_of s)) votes)) selection

  added_once : (vote : Vote G D) (verified : Bool)
      → AddsVote same old vote verified new → AddsVote same old vote verified news → new ≡ news
  added_once vote verified one two =
      filled_once
      (λ kind. cond (is_of_kind kind vote && not verified) (vote ∷ []) [])
      (λ kind. cond (is_of_kind kind vote && verified) (vote ∷ []) [])
      (one.leader ∙ sym two.leader) (one.selection ∙ sym two.selection) one.buffers two.buffers

  leader_once : (leader : Participant) (proposal : Option (Proposal D))
      → SetsLeader same old leader proposal new → SetsLeader same old leader proposal news
      → new ≡ news
  leader_once leader proposal one two =
      filled_once (λ kind. []) (λ kind. [])
      (one.leader_is ∙ sym two.leader_is) (one.selection ∙ sym two.selection) one.buffers two.buffers

  proposal_once : (selection : ProposalState D)
      → SetsProposal same old selection new → SetsProposal same old selection news → new ≡ news
  proposal_once selection one two =
      filled_once (λ kind. []) (λ kind. [])
      (one.leader ∙ sym two.leader) (one.selection_is ∙ sym two.selection_is) one.buffers two.buffers

  fixed_once : (kept : PerKind (List (Vote G D))) (proposal : Option (Proposal D))
      → MayFix same old kept proposal new → MayFix same old kept proposal news → new ≡ news
  fixed_once kept None one two = one ∙ sym two
  fixed_once kept (Some p) one two =
      filled_once (restored_by_fix same old kept p) (λ kind. [])
      (one.leader ∙ sym two.leader) (one.selection ∙ sym two.selection) one.buffers two.buffers

  completed_once : (completed : Kind)
      → CompletesKind same old completed new → CompletesKind same old completed news → new ≡ news
  completed_once completed one two =
      buffered_same new news (one.leader ∙ sym two.leader) (one.selection ∙ sym two.selection)
      (λ kind. one.certified kind ∙ sym (two.certified kind))
      (λ kind. one.pending kind ∙ sym (two.pending kind))
      (λ kind. one.verified kind ∙ sym (two.verified kind))

  -- votes are added, or nothing is
  may_add_once : (adds : Bool) (vote : Vote G D) (verified : Bool)
      → MatchBool adds (AddsVote same old vote verified new) (new ≡ old)
      → MatchBool adds (AddsVote same old vote verified news) (news ≡ old) → new ≡ news
  may_add_once true vote verified one two = added_once vote verified one two
  may_add_once false vote verified one two = one ∙ sym two

-- ATTEMPTS
module _ {D K G C : Type 0} (m : Meaning D K G C) (number : Round) (q : ℕ)
    (held : VerifierState G D) (tried : Kind) (before : Stream) where
  tried_once : (batch other : Batch (Certificate C D)) (after left : Stream)
      (new news : VerifierState G D)
      → TriesKind m number q held tried before batch after new
      → TriesKind m number q held tried before other left news → new ≡ news
  tried_once batch other after left new news one two =
      let same = one_outcome m number q held tried before batch other after left new news one two in
      buffered_same new news (one.leader ∙ sym two.leader) (one.selection ∙ sym two.selection)
      (each (λ b kind. of_kind b.certified kind)
      (λ kind not_tried. (one.others kind not_tried).certified ∙ sym (two.others kind not_tried).certified)
      (one.certified ∙ (ap (λ o. is_some o.certificate) same.1.0 ∙ sym two.certified)))
      (each (λ b kind. of_kind b.pending kind)
      (λ kind not_tried. (one.others kind not_tried).pending ∙ sym (two.others kind not_tried).pending)
      (one.pending ∙ sym two.pending))
      (each (λ b kind. of_kind b.verified kind)
      (λ kind not_tried. (one.others kind not_tried).verified ∙ sym (two.others kind not_tried).verified)
      (one.verified
      ∙ (ap (λ s. map (vote_for s) one.outcome.verified) same.0
      ∙ (ap (λ o. map (vote_for two.subject) o.verified) same.1.0 ∙ sym two.verified))))
    where
      each : {X : Type 0} (f : VerifierState G D → Kind → X)
          → ((kind : Kind) → is_kind tried kind ≡ false → f new kind ≡ f news kind)
          → f new tried ≡ f news tried → (kind : Kind) → f new kind ≡ f news kind
      each f others at kind =
          ⊎_elim
          (λ is. subst (λ (k : Kind). f new k ≡ f news k) (is_kind-true tried kind is) at)
          (λ other. others kind other)
          (cases_Bool (is_kind tried kind))

-- STEPS
same_ok : {X Y : Type 0} (r : Result X Y) (a b : X) → r ≡ Ok a → r ≡ Ok b → a ≡ b
same_ok r a b e h = cc

same_err : {X Y : Type 0} (r : Result X Y) (a b : Y) → r ≡ Err a → r ≡ Err b → a ≡ b
same_err r a b e h = cc

ok_or_err : {X Y : Type 0} (r : Result X Y) (a : X) (b : Y) → r ≡ Ok a → r ≡ Err b → ⊥
ok_or_err r a b e h = absurd (cc)

module _ {D K G C : Type 0} (x : Config D K G C) (old new news : RoundState G D) where
  network_once : (sender : K) (vote : Vote G D) (a b : Admission G D)
      → AfterNetwork x old sender vote a new → AfterNetwork x old sender vote b news
      → (a ≡ b) × (new ≡ news)
  network_once sender vote a b one two =
      let same : a ≡ b = one.answer_is ∙ sym two.answer_is in (
        same,
        held_same new news
            (recorded_once x.same_digest old.tracked new.tracked news.tracked _ _ vote one.tracked two.tracked)
            (may_add_once x.same_digest old.buffered new.buffered news.buffered
            (b.added && not (of_kind old.tracked.compacted (kind_of vote))) vote false
            (subst (λ (c : Admission G D). MatchBool (c.added && not (of_kind old.tracked.compacted (kind_of vote)))
            (AddsVote x.same_digest old.buffered vote false new.buffered) (new.buffered ≡ old.buffered)) same one.buffered)
            two.buffered)
            (one.forwarded ∙ sym two.forwarded),
      )

  own_once : (vote : Vote G D) (outcome other : Outcome) (report reported : Option (Activity G D))
      → AfterOwn x old vote outcome report new → AfterOwn x old vote other reported news
      → (outcome ≡ other) × (report ≡ reported) × (new ≡ news)
  own_once vote outcome other report reported one two =
      let same = same_ok _ outcome other one.outcome_is two.outcome_is in
      let fixed = fixed_once x.same_digest old.buffered one.fixed two.fixed old.tracked.kept _ one.fixes two.fixes in (
        same,
        one.report_is ∙ (ap (λ o. report_by o vote) same ∙ sym two.report_is),
        held_same new news
            (recorded_once x.same_digest old.tracked new.tracked news.tracked _ _ vote
            (subst (λ (f : VerifierState G D). (kind : Kind) → RecordsKind x.same_digest old.tracked new.tracked
            (selected_in f) true vote kind) fixed one.tracked)
            two.tracked)
            (may_add_once x.same_digest two.fixed new.buffered news.buffered (is_kept other) vote true
            (subst (λ (o : Outcome). MatchBool (is_kept o)
            (AddsVote x.same_digest two.fixed vote true new.buffered) (new.buffered ≡ two.fixed)) same
            (subst (λ (f : VerifierState G D). MatchBool (is_kept outcome)
            (AddsVote x.same_digest f vote true new.buffered) (new.buffered ≡ f)) fixed one.buffered))
            two.buffered)
            (one.forwarded ∙ sym two.forwarded),
      )

  certificate_once : (certificate : Certificate C D) (a b : Bool)
      → AfterCertificate x old certificate a new → AfterCertificate x old certificate b news
      → (a ≡ b) × (new ≡ news)
  certificate_once certificate a b one two =
      let kind = kind_certified certificate in
      let proposal = proposal_in (subject_certified certificate) in
      let completed =
      completed_once x.same_digest old.buffered one.completed two.completed kind one.completes two.completes in
      let fixed =
      fixed_once x.same_digest two.completed new.buffered news.buffered old.tracked.kept proposal
      (subst (λ (c : VerifierState G D). MayFix x.same_digest c old.tracked.kept proposal new.buffered) completed one.fixes)
      two.fixes in (
        one.answer_is
            ∙ (ap (λ (h : VerifierState G D).
            is_kind Notarization kind
            && not (same_selected x.same_digest (proposal_of old.buffered.selection) (proposal_of h.selection))) fixed
            ∙ sym two.answer_is),
        held_same new news
            (released_once x.same_digest old.tracked new.tracked news.tracked (proposal_of news.buffered.selection)
            (λ k. is_kind kind k && is_released_in x.mode true)
            (subst (λ (h : VerifierState G D).
            (k : Kind)
            → ReleasesKind x.same_digest old.tracked new.tracked (proposal_of h.selection)
            (is_kind kind k && is_released_in x.mode true) k) fixed one.releases)
            two.releases)
            fixed (one.forwarded ∙ sym two.forwarded),
      )

  leader_step_once : (leader : Participant)
      → AfterLeader x old leader new → AfterLeader x old leader news → new ≡ news
  leader_step_once leader one two =
      held_same new news (one.tracked ∙ sym two.tracked)
      (by_known (is_some old.buffered.leader)
      (option_proposal (kept_vote old.tracked Notarization leader.0)) one.buffered two.buffered)
      (one.forwarded ∙ sym two.forwarded)
    where
      by_known : (known : Bool) (proposal : Option (Proposal D))
          → MatchBool known (new.buffered ≡ old.buffered)
          (SetsLeader x.same_digest old.buffered leader proposal new.buffered)
          → MatchBool known (news.buffered ≡ old.buffered)
          (SetsLeader x.same_digest old.buffered leader proposal news.buffered)
          → new.buffered ≡ news.buffered
      by_known true proposal first second = first ∙ sym second
      by_known false proposal first second =
          leader_once x.same_digest old.buffered new.buffered news.buffered leader proposal first second

  leader_set_once : (leader : Participant) (result : Result (Unit {0}) LeaderFault)
      → AfterLeaderSet x old leader result new → AfterLeaderSet x old leader result news
      → new ≡ news
  leader_set_once leader (Ok done) one two = leader_step_once leader one two
  leader_set_once leader (Err fault) one two = one ∙ sym two

  settled_once : (kind : Kind) (proposal : Option (Proposal D))
      → Settles x old kind proposal new → Settles x old kind proposal news → new ≡ news
  settled_once kind proposal one two =
      held_same new news
      (released_once x.same_digest old.tracked new.tracked news.tracked proposal
      (λ k. is_kind kind k && is_released_in x.mode true) one.tracked two.tracked)
      (by_proposal proposal one.buffered two.buffered)
      (one.forwarded ∙ sym two.forwarded)
    where
      by_proposal : (o : Option (Proposal D))
          → Fixes x old.buffered o new.buffered → Fixes x old.buffered o news.buffered
          → new.buffered ≡ news.buffered
      by_proposal None first second = first ∙ sym second
      by_proposal (Some p) first second =
          proposal_once x.same_digest old.buffered new.buffered news.buffered _ first second

  given_once : (kind : Kind) (given : Option (Certificate C D))
      → AfterGiven x old kind given new → AfterGiven x old kind given news → new ≡ news
  given_once kind None one two = one ∙ sym two
  given_once kind (Some certificate) one two =
      settled_once kind (proposal_in (subject_certified certificate)) one two

module _ {D K G C : Type 0} (x : Config D K G C) (old : RoundState G D) (before : Stream)
    (new news : RoundState G D) (after left : Stream) where
  batch_once : (batch other : Batch (Certificate C D))
      → AfterBatch x old before batch new after → AfterBatch x old before other news left
      → (batch ≡ other) × ((new ≡ news) × (after ≡ left))
  batch_once batch other one two =
      let q = quorum_in x in
      let kinds = same_Some one.kind two.kind (sym one.first ∙ two.first) in
      let first = one.tried in
      let second = two.tried in
      let tries =
      subst (λ (k : Kind). TriesKind x.meaning x.number q old.buffered k before batch after first.left) kinds first.tries in
      let both =
      one_attempt x.meaning x.number q old.buffered two.kind before batch other after left
      first.left second.left tries second.tries in
      let buffers =
      tried_once x.meaning x.number q old.buffered two.kind before batch other after left
      first.left second.left tries second.tries in
      let middle = record old { buffered = second.left } in (
        both.0,
        (
          given_once x middle new news two.kind other.certificate
              (subst (λ (k : Kind). AfterGiven x middle k other.certificate new) kinds
              (subst (λ (b : Batch (Certificate C D)). AfterGiven x middle one.kind b.certificate new) both.0
              (subst (λ (h : VerifierState G D). AfterGiven x (record old { buffered = h }) one.kind batch.certificate new)
              buffers first.given)))
              second.given,
          both.1,
        ),
      )

  construct_once : (given gives : Option (Batch (Certificate C D)))
      → AfterConstruct x old before given new after → AfterConstruct x old before gives news left
      → (given ≡ gives) × ((new ≡ news) × (after ≡ left))
  construct_once None None one two = (refl, (one.held ∙ sym two.held, one.stream ∙ sym two.stream))
  construct_once None (Some batch) one two = absurd (none-some two.kind (sym one.none ∙ two.first))
  construct_once (Some batch) None one two = absurd (none-some one.kind (sym two.none ∙ one.first))
  construct_once (Some batch) (Some other) one two =
      let both = batch_once batch other one two in (ap Some both.0, both.1)

  -- Two answers to one call, in neither of which memory is refused, are the same, and so is what
  -- they leave.
  abbrev IsOnce : (Answer G C D → RoundState G D → Stream → Type 0) → Answer G C D → Answer G C D
      → Type 0
  IsOnce takes a b =
      is_out_of_memory a ≡ false → is_out_of_memory b ≡ false
      → takes a new after → takes b news left → (a ≡ b) × ((new ≡ news) × (after ≡ left))

  network_steps : (sender : K) (vote : Vote G D) (a b : Answer G C D)
      → IsOnce (StepsNetwork x old before sender vote) a b
  network_steps sender vote (NetworkAnswer a) (NetworkAnswer b) had has one two =
      let both = network_once x old new news sender vote a b one.0 two.0 in
      (ap NetworkAnswer both.0, (both.1, one.1 ∙ sym two.1))
  network_steps sender vote (NetworkAnswer a) OutOfMemory had has one two = absurd (true≢false has)
  network_steps sender vote (NetworkAnswer a) b had has one two = absurd two
  network_steps sender vote OutOfMemory b had has one two = absurd (true≢false had)
  network_steps sender vote a b had has one two = absurd one

  own_steps : (vote : Vote G D) (a b : Answer G C D) → IsOnce (StepsOwn x old before vote) a b
  own_steps vote (OwnAnswer outcome report) (OwnAnswer other reported) had has one two =
      let all = own_once x old new news vote outcome other report reported one.0 two.0 in
      (ap (λ o. OwnAnswer o report) all.0 ∙ ap (OwnAnswer other) all.1, (all.2, one.1 ∙ sym two.1))
  own_steps vote (OwnAnswer outcome report) (OwnRefused fault) had has one two =
      absurd (ok_or_err _ outcome fault one.0.outcome_is two.0)
  own_steps vote (OwnAnswer outcome report) OutOfMemory had has one two = absurd (true≢false has)
  own_steps vote (OwnAnswer outcome report) b had has one two = absurd two
  own_steps vote (OwnRefused fault) (OwnRefused other) had has one two =
      (ap OwnRefused (same_err _ fault other one.0 two.0), (one.1.0 ∙ sym two.1.0, one.1.1 ∙ sym two.1.1))
  own_steps vote (OwnRefused fault) (OwnAnswer other reported) had has one two =
      absurd (ok_or_err _ other fault two.0.outcome_is one.0)
  own_steps vote (OwnRefused fault) OutOfMemory had has one two = absurd (true≢false has)
  own_steps vote (OwnRefused fault) b had has one two = absurd two
  own_steps vote OutOfMemory b had has one two = absurd (true≢false had)
  own_steps vote a b had has one two = absurd one

  certificate_steps : (certificate : Certificate C D) (a b : Answer G C D)
      → IsOnce (StepsCertificate x old before certificate) a b
  certificate_steps certificate (CertificateAnswer a) (CertificateAnswer b) had has one two =
      let both = certificate_once x old new news certificate a b one.0 two.0 in
      (ap CertificateAnswer both.0, (both.1, one.1 ∙ sym two.1))
  certificate_steps certificate (CertificateAnswer a) OutOfMemory had has one two = absurd (true≢false has)
  certificate_steps certificate (CertificateAnswer a) b had has one two = absurd two
  certificate_steps certificate OutOfMemory b had has one two = absurd (true≢false had)
  certificate_steps certificate a b had has one two = absurd one

  leader_steps : (leader : Participant) (a b : Answer G C D)
      → IsOnce (StepsLeader x old before leader) a b
  leader_steps leader (LeaderAnswer a) (LeaderAnswer b) had has one two =
      let same : a ≡ b = one.0 ∙ sym two.0 in
      let set = subst (λ (r : Result (Unit {0}) LeaderFault). AfterLeaderSet x old leader r new) same one.1.0 in
      (ap LeaderAnswer same, (leader_set_once x old new news leader b set two.1.0, one.1.1 ∙ sym two.1.1))
  leader_steps leader (LeaderAnswer a) b had has one two = absurd two
  leader_steps leader a b had has one two = absurd one

  construct_steps : (a b : Answer G C D) → IsOnce (StepsConstruct x old before) a b
  construct_steps (ConstructAnswer a) (ConstructAnswer b) had has one two =
      let both = construct_once a b one two in (ap ConstructAnswer both.0, both.1)
  construct_steps (ConstructAnswer a) OutOfMemory had has one two = absurd (true≢false has)
  construct_steps (ConstructAnswer a) b had has one two = absurd two
  construct_steps OutOfMemory b had has one two = absurd (true≢false had)
  construct_steps a b had has one two = absurd one

  forward_steps : (me : Participant) (a b : Answer G C D)
      → IsOnce (StepsForward x old before me) a b
  forward_steps me (ForwardAnswer a) (ForwardAnswer b) had has one two =
      let same : a ≡ b = one.0 ∙ sym two.0 in
      let forwarded =
      ap (λ (o : Option (Proposal D)). record old { forwarded = is_some o || old.forwarded }) same in
      (ap ForwardAnswer same, (one.1.0 ∙ (forwarded ∙ sym two.1.0), one.1.1 ∙ sym two.1.1))
  forward_steps me (ForwardAnswer a) b had has one two = absurd two
  forward_steps me a b had has one two = absurd one

  missing_steps : (proposal : Proposal D) (a b : Answer G C D)
      → IsOnce (StepsMissing x old before proposal) a b
  missing_steps proposal (MissingAnswer a) (MissingAnswer b) had has one two =
      (ap MissingAnswer (one.0 ∙ sym two.0), (one.1.0 ∙ sym two.1.0, one.1.1 ∙ sym two.1.1))
  missing_steps proposal (MissingAnswer a) OutOfMemory had has one two = absurd (true≢false has)
  missing_steps proposal (MissingAnswer a) b had has one two = absurd two
  missing_steps proposal OutOfMemory b had has one two = absurd (true≢false had)
  missing_steps proposal a b had has one two = absurd one

  -- Unless memory is refused a call has one answer, and leaves one round and one stream.
  step_once : (call : Call K G C D) (a b : Answer G C D) → IsOnce (Steps x old before call) a b
  step_once (NetworkCall sender vote) a b = network_steps sender vote a b
  step_once (OwnCall vote) a b = own_steps vote a b
  step_once (CertificateCall certificate) a b = certificate_steps certificate a b
  step_once (LeaderCall leader) a b = leader_steps leader a b
  step_once ConstructCall a b = construct_steps a b
  step_once (ForwardCall me) a b = forward_steps me a b
  step_once (MissingCall proposal) a b = missing_steps proposal a b

-- RUNS
module _ {D K G C : Type 0} (x : Config D K G C) (old : RoundState G D) (before : Stream) where
  -- a run from here that leaves something
  abbrev RunsOn : List (Call K G C D) → List (Answer G C D) → Type 0
  RunsOn calls answers =
      (held : RoundState G D) × ((after : Stream) × Runs x old before calls answers held after)

module _ {D K G C : Type 0} (x : Config D K G C) where
  -- The first calls of a run are a run, with the first answers.
  first_of_run : (n : ℕ) (old : RoundState G D) (before : Stream)
      (calls : List (Call K G C D)) (answers : List (Answer G C D))
      → RunsOn x old before calls answers → RunsOn x old before (take n calls) (take n answers)
  first_of_run zero old before calls answers run = (old, (before, (refl, refl)))
  first_of_run (suc n) old before [] [] run = (old, (before, (refl, refl)))
  first_of_run (suc n) old before (c ∷ calls) (a ∷ answers) run =
      let one = run.1.1 in
      let rest = first_of_run n one.0 one.1.0 calls answers (run.0, (run.1.0, one.1.1.1)) in
      (rest.0, (rest.1.0, (one.0, (one.1.0, (one.1.1.0, rest.1.1)))))
  first_of_run (suc n) old before [] (a ∷ answers) run = absurd run.1.1
  first_of_run (suc n) old before (c ∷ calls) [] run = absurd run.1.1

  -- Two runs of the same calls are answered the same, and leave the same.
  same_run : (old : RoundState G D) (before : Stream) (calls : List (Call K G C D))
      (answers given : List (Answer G C D)) (held left : RoundState G D) (after then : Stream)
      → Runs x old before calls answers held after → Runs x old before calls given left then
      → HadMemory answers → HadMemory given
      → (answers ≡ given) × ((held ≡ left) × (after ≡ then))
  same_run old before [] [] [] held left after then one two had has =
      (refl, (one.0 ∙ sym two.0, one.1 ∙ sym two.1))
  same_run old before (c ∷ calls) (a ∷ answers) (b ∷ given) held left after then one two had has =
      let now = or_parts (is_out_of_memory a) (list_any is_out_of_memory answers) had in
      let also = or_parts (is_out_of_memory b) (list_any is_out_of_memory given) has in
      let step =
      step_once x old before one.0 two.0 one.1.0 two.1.0 c a b now.0 also.0 one.1.1.0 two.1.1.0 in
      let goes_on =
      subst (λ (s : Stream). Runs x two.0 s calls answers held after) step.1.1
      (subst (λ (h : RoundState G D). Runs x h one.1.0 calls answers held after) step.1.0 one.1.1.1) in
      let rest =
      same_run two.0 two.1.0 calls answers given held left after then goes_on two.1.1.1 now.1 also.1 in
      (ap (λ e. e ∷ answers) step.0 ∙ ap (λ es. b ∷ es) rest.0, rest.1)
  same_run old before [] (a ∷ answers) given held left after then one two had has = absurd one
  same_run old before (c ∷ calls) [] given held left after then one two had has = absurd one
  same_run old before [] answers (b ∷ given) held left after then one two had has = absurd two
  same_run old before (c ∷ calls) answers [] held left after then one two had has = absurd two

  -- Two runs from what is held the same, with the same stream, go alike.
  pub go_alike : (old : RoundState G D) (before : Stream)
      (calls others : List (Call K G C D)) (answers given : List (Answer G C D))
      (held left : RoundState G D) (after then : Stream)
      → Runs x old before calls answers held after → Runs x old before others given left then
      → GoAlike calls answers held after others given left then
  go_alike old before calls others answers given held left after then one two =
      record {
        answered_alike = λ n same had has.
            let first = first_of_run n old before calls answers (held, (after, one)) in
            let other = at n in
            (same_as (take n calls) (take n others) (take n answers) (take n given)
            first.0 other.0 first.1.0 other.1.0 same first.1.1 other.1.1 had has).0;
        first_answers = λ n same had has.
            let other = at n in
            (same_as calls (take n others) answers (take n given)
            held other.0 after other.1.0 same one other.1.1 had has).0;
        left_alike = λ same.
            same_as calls others answers given held left after then same one two;
      }
    where
      at : (n : ℕ) → RunsOn x old before (take n others) (take n given)
      at n = first_of_run n old before others given (left, (then, two))

      same_as : (cs ds : List (Call K G C D)) (a b : List (Answer G C D))
          (h k : RoundState G D) (s t : Stream) → cs ≡ ds
          → Runs x old before cs a h s → Runs x old before ds b k t
          → HadMemory a → HadMemory b → (a ≡ b) × ((h ≡ k) × (s ≡ t))
      same_as cs ds a b h k s t same first second =
          same_run old before cs a b h k s t first
          (subst (λ (es : List (Call K G C D)). Runs x old before es b k t) (sym same) second)

pub equal_runs_go_alike : {D K G C : Type 0} (x : Config D K G C) → EqualRunsGoAlike x
equal_runs_go_alike x before calls others answers given held left after then one two =
    go_alike x (nothing_held x.mode) before calls others answers given held left after then
    one.runs two.runs
