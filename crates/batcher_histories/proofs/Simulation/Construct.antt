-- A construction goes on as the history names: what it tries, what it answers, and what it leaves.
use Rattle.batcher_histories.proofs.Words.{inl, inr, ◌≡◌, true, false, cond, ◌||◌, ◌⊎◌, List, [], ◌∷◌, Option, Some, None, IfSome, is_some, refl, ap, sym, ◌∙◌}
use Rattle.batcher_histories.proofs.Words.{⊎_elim, subst, option_and_then, option_or, cases_Bool, and_parts, not-true, or_right, or_left, Stream, Proposal}
use Rattle.batcher_histories.proofs.Words.{Subject, Vote, Certificate, Kind, Batch, ConstructCall, ConstructAnswer, Config, quorum_in, is_some_and, is_kind}
use Rattle.batcher_histories.proofs.Words.{has_proposals, kind_certified, subject_certified, proposal_in, either_same, is_kind-true, is_some-option_map}
use Rattle.batcher_histories.proofs.Words.{proposal_of, fixes, of_kind, VerifierState, RoundState, is_skipped, TriesKind, subject_tried, proposal_tried}
use Rattle.batcher_histories.proofs.Words.{first_proposal, certificate_for, batch_of, IsSound, certifies_itself, is_ready_in, Settles, AfterGiven, AfterBatch}
use Rattle.batcher_histories.proofs.Words.{AfterConstruct, Event, History, leader_of, selection, selected_proposal, fixing_evidence, is_certified}
use Rattle.batcher_histories.proofs.Words.{certificate_of, is_restored, eligible_among, ready_kind, Attempt, AttemptAfter, left_verified, Represents, Simulates}
use Rattle.batcher_histories.proofs.Words.{tries_kind, pending_after, verified_after, verified_about, made_about}
use Rattle.batcher_histories.proofs.History.Attempts.{witnessed}
use Rattle.batcher_histories.proofs.History.Laws.{HasLaws}
use Rattle.batcher_histories.proofs.Simulation.Frame.{MovesKind, Moves, followed, certified_same, no_evidence, leader_same, none_back, pending_wait}
use Rattle.batcher_histories.proofs.Simulation.Frame.{verified_wait, closed_pending, closed_verified, still_waits}
use Rattle.batcher_histories.proofs.Simulation.Evidence.{evidence_tried, tried_selected, IsEvidence, none_is_restored}
use Rattle.batcher_histories.proofs.Simulation.Settled.{constructed, selection_then, evidence_selects, fixes_leader, fixes_selection, fixes_certified}
use Rattle.batcher_histories.proofs.Simulation.Settled.{fixes_no_pending, fixes_no_verified, fixes_pending, fixes_verified}
use Rattle.batcher_histories.proofs.Simulation.Outcomes.{checked_about, goes_so, attempt_is, left_is}
use Rattle.batcher_histories.proofs.KnownLemmas.Ready.{tried_is_ready, tried_ready}
use Rattle.batcher_histories.proofs.Simulation.Released.{tracks_release, tracks_stay, moves_tracked}
use Rattle.batcher_histories.proofs.Simulation.Staying.{left_eligible, pending_left, verified_left}
use Rattle.batcher_histories.proofs.History.Past.{nothing_eligible}

-- THE ATTEMPT
module _ {D K G C : Type 0} (x : Config D K G C) where
  -- What an attempt with what is held gives in its batch, and leaves of its kind.
  pub record Tells (old : RoundState G D) (kind : Kind) (batch : Batch (Certificate C D))
      (left : VerifierState G D) : Type 0 where
    pub subject : Subject D
    pub subject_is : subject_tried old.buffered x.number kind ≡ Some subject
    pub attempt : Attempt x (of_kind old.buffered.verified kind) (of_kind old.buffered.pending kind)
        batch
    pub named : (c : Certificate C D) → batch.certificate ≡ Some c → subject_certified c ≡ subject
    pub certified : of_kind left.certified kind ≡ is_some batch.certificate
    pub verified :
        of_kind left.verified kind
        ≡ cond (is_some batch.certificate) []
        (left_verified x (of_kind old.buffered.verified kind)
        (of_kind old.buffered.pending kind))

  -- An attempt at a kind that is ready is one of the round.
  pub attempted : HasLaws x → (old : RoundState G D) (kind : Kind) (before after : Stream)
      (batch : Batch (Certificate C D)) (left : VerifierState G D)
      → TriesKind x.meaning x.number (quorum_in x) old.buffered kind before batch after left →
      IsSound x.meaning x.same_digest x.number (quorum_in x) old.buffered → is_ready_in x old kind
      ≡ true → IfSome batch.certificate (λ c. certifies_itself x.meaning c ≡ true)
      → Tells old kind batch left
  attempted lawful old kind before after batch left t sound ready certifies =
      let verified = of_kind old.buffered.verified kind in
      let pending = of_kind old.buffered.pending kind in
      let enough = (and_parts _ _ ready).1 in
      let about = verified_about x.same_digest lawful.digests_equal x.number t.subject x.meaning.batchable (quorum_in x) old.buffered kind
      (ap (λ b. cond b (subject_tried old.buffered x.number kind) None) ready ∙ t.subject_is) (sound.kinds kind).verified in
      let checked_are = checked_about x.same_digest lawful.digests_equal x.number t.subject x.meaning.batchable (quorum_in x)
      (proposal_of old.buffered.selection) (first_proposal verified) kind verified pending enough t.subject_is (sound.kinds kind).pending in
      let went = goes_so x lawful t.subject verified pending before about checked_are (sound.kinds kind).attested (sound.kinds kind).once t.outcome after
      t.attempt in
      let of_batch : IfSome (batch_of t.subject t.outcome).certificate (λ c. certifies_itself x.meaning c ≡ true) = subst
      (λ (b : Batch (Certificate C D)). IfSome b.certificate (λ c. certifies_itself x.meaning c ≡ true)) t.batch_is certifies in
      let it = attempt_is x lawful t.subject verified pending before about checked_are (sound.kinds kind).attested (sound.kinds kind).once t.outcome went
      of_batch in
      let gave : is_some batch.certificate ≡ is_some t.outcome.certificate = ap (λ (b : Batch (Certificate C D)). is_some b.certificate) t.batch_is
      ∙ is_some-option_map (certificate_for t.subject) t.outcome.certificate in
      record {
        subject = t.subject;
        subject_is = t.subject_is;
        attempt = subst (λ (b : Batch (Certificate C D)). Attempt x verified pending b) (sym t.batch_is) it;
        named = λ c e. made_about t.subject t.outcome.certificate c (sym (ap (λ (b : Batch (Certificate C D)). b.certificate) t.batch_is) ∙ e);
        certified = t.certified ∙ sym gave;
        verified =
            t.verified
            ∙ (left_is x lawful t.subject verified pending before about checked_are (sound.kinds kind).attested (sound.kinds kind).once t.outcome went
            ∙ ap (λ b. cond b [] (left_verified x verified pending)) (sym gave));
      }

-- A BATCH
module _ {D K G C : Type 0} (x : Config D K G C) (lawful : HasLaws x) (past : History D K G C)
    (old new : RoundState G D) (represents : Represents x past old) (kind : Kind)
    (ready : ready_kind x past ≡ Some kind) (before after : Stream)
    (batch : Batch (Certificate C D)) (left : VerifierState G D)
    (t : TriesKind x.meaning x.number (quorum_in x) old.buffered kind before batch after left)
    (tells : Tells x old kind batch left) where
  abbrev event : Event D K G C
  event = constructed x past (Some batch)

  abbrev then : History D K G C
  then = event ∷ past

  tries : (k : Kind) → tries_kind x past event.1 k ≡ is_kind kind k
  tries k = ap (λ o. is_some_and o (λ j. is_kind j k)) ready

  selection_held : left.selection ≡ selection x past
  selection_held = t.selection ∙ represents.selection_is

  leader_goes : leader_of then ≡ leader_of past
  leader_goes = leader_same x past event refl

  may_answer : AttemptAfter x past kind batch
  may_answer =
      record {
        verified = of_kind old.buffered.verified kind;
        pending = of_kind old.buffered.pending kind;
        verified_are = (represents.each_kind kind).verified_are;
        pending_are = (represents.each_kind kind).pending_are;
        attempt = tells.attempt;
      }

  abbrev NoneBack : Type 0
  NoneBack = (v : Vote G D) → is_restored x past event v ≡ false

  pending_of : NoneBack → (k : Kind) → pending_after x past old event k
      ≡ eligible_among x then k (cond (is_kind kind k) [] (of_kind old.buffered.pending k))
  pending_of back k =
      pending_left x past old (Some batch) back k ∙ ap (λ b. eligible_among x then k (cond b [] (of_kind old.buffered.pending k))) (tries k)

  verified_of : NoneBack → (k : Kind) → verified_after x past old event k
      ≡ eligible_among x then k (cond (is_kind kind k)
      (left_verified x (of_kind old.buffered.verified k) (of_kind old.buffered.pending k))
      (of_kind old.buffered.verified k))
  verified_of back k =
      verified_left x past old (Some batch) back k
      ∙ ap (λ b. eligible_among x then k (cond b (left_verified x (of_kind old.buffered.verified k) (of_kind old.buffered.pending k))
      (of_kind old.buffered.verified k))) (tries k)

  -- with a certificate, of the kind that was tried
  module _ (c : Certificate C D) (given : batch.certificate ≡ Some c)
      (named : kind_certified c ≡ kind)
      (settles : Settles x (record old { buffered = left }) kind (proposal_in (subject_certified c))
      new) where
    abbrev evidence : Option (Proposal D)
    evidence = proposal_in (subject_certified c)

    evidence_is : fixing_evidence event ≡ evidence
    evidence_is = ap (λ o. option_or None (option_and_then (λ d. proposal_in (subject_certified d)) (option_or None o))) given

    of_tried : subject_certified c ≡ tells.subject
    of_tried = tells.named c given

    selected_before : (p : Proposal D) → proposal_tried old.buffered kind ≡ Some p
        → (selected_proposal x past ≡ None) ⊎ (selected_proposal x past ≡ Some p)
    selected_before p e =
        ⊎_elim
        (λ none. inl (ap proposal_of (sym represents.selection_is) ∙ none))
        (λ some. inr (ap proposal_of (sym represents.selection_is) ∙ some))
        (tried_selected (proposal_of old.buffered.selection) (first_proposal (of_kind old.buffered.verified kind)) p e)

    evidence_cases : ((evidence ≡ None) × (has_proposals kind ≡ false))
        ⊎ ((p : Proposal D) × ((evidence ≡ Some p)
        × ((selected_proposal x past ≡ None) ⊎ (selected_proposal x past ≡ Some p))))
    evidence_cases =
        ⊎_elim
        (λ none. inl (ap proposal_in of_tried ∙ none.0, none.1))
        (λ some. inr (some.0, (ap proposal_in of_tried ∙ some.1.1, selected_before some.0 some.1.0)))
        (evidence_tried kind x.number (proposal_tried old.buffered kind) tells.subject tells.subject_is)

    is_evidence : IsEvidence x past evidence
    is_evidence = ⊎_elim (λ none. inl none.0) (λ some. inr some) evidence_cases

    back : NoneBack
    back v = none_is_restored x lawful past event evidence evidence_is is_evidence v

    -- a kind with proposals is certified with one, and it is the selected one
    selects : has_proposals kind ≡ true → (is_some (selected_proposal x then) ≡ true)
        × (evidence ≡ selected_proposal x then)
    selects has =
        ⊎_elim
        (λ none. let no : true ≡ false = sym has ∙ none.1 in absurd (cc))
        (λ some.
        let after_it : selected_proposal x then ≡ Some some.0 = evidence_selects x past (Some batch) evidence some.0 evidence_is some.1.0 some.1.1 in
        (ap is_some after_it, some.1.0 ∙ sym after_it))
        evidence_cases

    certified_then : (k : Kind) → is_certified then k ≡ (is_kind kind k || is_certified past k)
    certified_then k =
        ap (λ o. is_some_and (option_or None o) (λ d. is_kind (kind_certified d) k) || is_certified past k) given
        ∙ ap (λ j. is_kind j k || is_certified past k) named

    left_certified : (k : Kind) → of_kind left.certified k ≡ (is_kind kind k || is_certified past k)
    left_certified k =
        ⊎_elim
        (λ this.
        ap (of_kind left.certified) (sym (is_kind-true kind k this))
        ∙ (tells.certified ∙ (ap is_some given ∙ sym (ap (λ b. b || is_certified past k) this))))
        (λ other. (t.others k other).certified ∙ ((represents.each_kind k).certified_is ∙ sym (ap (λ b. b || is_certified past k) other)))
        (cases_Bool (is_kind kind k))

    certified_new : (k : Kind) → of_kind new.buffered.certified k ≡ is_certified then k
    certified_new k = fixes_certified x left new.buffered evidence k settles.buffered ∙ (left_certified k ∙ sym (certified_then k))

    selection_new : new.buffered.selection ≡ selection x then
    selection_new =
        fixes_selection x left new.buffered evidence settles.buffered
        ∙ (ap (λ s. fixes s evidence) selection_held ∙ sym (selection_then x past (Some batch) evidence evidence_is))

    given_kind : (k : Kind) → MovesKind x past event new k
    given_kind k =
        moves_tracked x past event new k (certified_new k)
        (tracks_release x past event refl old represents new.tracked evidence (is_kind kind k) k (certified_then k) (settles.tracked k)
        (λ this has. selects (ap has_proposals (is_kind-true kind k this) ∙ has)))

    certified_now : (k : Kind) → is_kind kind k ≡ true → is_certified then k ≡ true
    certified_now k this = certified_then k ∙ ap (λ b. b || is_certified past k) this

    certified_other : (k : Kind) → is_kind kind k ≡ false → is_certified then k
        ≡ is_certified past k
    certified_other k other = certified_then k ∙ ap (λ b. b || is_certified past k) other

    closed_by : (k : Kind) → is_skipped x.mode ≡ true → (is_certified past k || is_skipped x.mode)
        ≡ true
    closed_by k skips = or_right (is_certified past k) (is_skipped x.mode) skips

    selected_new : proposal_of new.buffered.selection ≡ selected_proposal x then
    selected_new = ap proposal_of selection_new

    selected_without : evidence ≡ None → selected_proposal x then ≡ selected_proposal x past
    selected_without none = ap proposal_of (selection_then x past (Some batch) None (evidence_is ∙ none))

    given_pending : (k : Kind) → of_kind new.buffered.pending k ≡ pending_after x past old event k
    given_pending k =
        ⊎_elim
        (λ this.
        fixes_no_pending x left new.buffered evidence k settles.buffered (ap (of_kind left.pending) (sym (is_kind-true kind k this)) ∙ t.pending)
        ∙ sym (pending_of back k ∙ nothing_eligible x then k (cond (is_kind kind k) [] (of_kind old.buffered.pending k))
        (or_left (is_certified then k) (is_skipped x.mode) (certified_now k this))))
        (λ other.
        let same = (t.others k other).pending in
        fixes_pending x left new.buffered then k (certified_new k) selected_new evidence settles.buffered
        (λ skips. same ∙ closed_pending x past old k represents (closed_by k skips))
        (λ none. ap (eligible_among x then k) same ∙ (still_waits x past event k (of_kind old.buffered.pending k) (certified_other k other)
        (selected_without none) (pending_wait x past old k represents) ∙ sym same))
        ∙ (ap (eligible_among x then k) same
        ∙ sym (pending_of back k ∙ ap (λ b. eligible_among x then k (cond b [] (of_kind old.buffered.pending k))) other)))
        (cases_Bool (is_kind kind k))

    no_verified : (k : Kind) → is_kind kind k ≡ true → of_kind left.verified k ≡ []
    no_verified k this =
        ap (of_kind left.verified) (sym (is_kind-true kind k this))
        ∙ (tells.verified ∙ ap (λ b. cond b [] (left_verified x (of_kind old.buffered.verified kind) (of_kind old.buffered.pending kind))) (ap is_some given))

    given_verified : (k : Kind) → of_kind new.buffered.verified k
        ≡ verified_after x past old event k
    given_verified k =
        ⊎_elim
        (λ this.
        fixes_no_verified x left new.buffered evidence k settles.buffered (no_verified k this)
        ∙ sym (verified_of back k ∙ nothing_eligible x then k
        (cond (is_kind kind k) (left_verified x (of_kind old.buffered.verified k) (of_kind old.buffered.pending k)) (of_kind old.buffered.verified k))
        (or_left (is_certified then k) (is_skipped x.mode) (certified_now k this))))
        (λ other.
        let same = (t.others k other).verified in
        fixes_verified x left new.buffered then k (certified_new k) selected_new evidence settles.buffered
        (λ skips. same ∙ closed_verified x past old k represents (closed_by k skips))
        (λ none. ap (eligible_among x then k) same ∙ (still_waits x past event k (of_kind old.buffered.verified k) (certified_other k other)
        (selected_without none) (verified_wait x past old k represents) ∙ sym same))
        ∙ (ap (eligible_among x then k) same
        ∙ sym (verified_of back k ∙ ap (λ b. eligible_among x then k
        (cond b (left_verified x (of_kind old.buffered.verified k) (of_kind old.buffered.pending k)) (of_kind old.buffered.verified k))) other)))
        (cases_Bool (is_kind kind k))

    given_moves : Moves x past old ConstructCall (ConstructAnswer (Some batch)) new
    given_moves =
        record {
          allowed = tt;
          made = refl;
          answered = (kind, (ready, may_answer));
          leader_is = fixes_leader x left new.buffered evidence settles.buffered ∙ (t.leader ∙ (represents.leader_is ∙ sym leader_goes));
          selection_is = selection_new;
          forwarded_is = settles.forwarded ∙ represents.forwarded_is;
          kinds = given_kind;
          pending_are = given_pending;
          verified_are = given_verified;
          attempt = (kind, (ready, tells.attempt));
        }

  -- with none
  module _ (none : batch.certificate ≡ None) (open_before : is_certified past kind ≡ false) where
    no_certificate : certificate_of event ≡ None
    no_certificate = ap (option_or None) none

    without_evidence : fixing_evidence event ≡ None
    without_evidence = no_evidence x past event refl no_certificate

    quiet : NoneBack
    quiet v = none_back x past event without_evidence v

    certified_stays : (k : Kind) → is_certified then k ≡ is_certified past k
    certified_stays k = certified_same x past event no_certificate k

    selection_stays : selection x then ≡ selection x past
    selection_stays = selection_then x past (Some batch) None without_evidence

    open_left : (k : Kind) → of_kind left.certified k ≡ is_certified past k
    open_left k =
        ⊎_elim
        (λ this.
        subst (λ (j : Kind). of_kind left.certified j ≡ is_certified past j) (is_kind-true kind k this)
        (tells.certified ∙ (ap is_some none ∙ sym open_before)))
        (λ other. (t.others k other).certified ∙ (represents.each_kind k).certified_is)
        (cases_Bool (is_kind kind k))

    stays : (k : Kind) (votes : List (Vote G D)) → eligible_among x past k votes ≡ votes
        → eligible_among x then k votes ≡ votes
    stays k votes h = still_waits x past event k votes (certified_stays k) (ap proposal_of selection_stays) h

    left_pending : (k : Kind) → of_kind left.pending k ≡ pending_after x past old event k
    left_pending k =
        ⊎_elim
        (λ this.
        ap (of_kind left.pending) (sym (is_kind-true kind k this))
        ∙ (t.pending
        ∙ sym (pending_of quiet k ∙ (ap (λ b. eligible_among x then k (cond b [] (of_kind old.buffered.pending k))) this
        ∙ either_same (is_certified then k || is_skipped x.mode) []))))
        (λ other.
        (t.others k other).pending
        ∙ (sym (stays k (of_kind old.buffered.pending k) (pending_wait x past old k represents))
        ∙ sym (pending_of quiet k ∙ ap (λ b. eligible_among x then k (cond b [] (of_kind old.buffered.pending k))) other)))
        (cases_Bool (is_kind kind k))

    left_good : of_kind left.verified kind
        ≡ eligible_among x then kind (left_verified x (of_kind old.buffered.verified kind)
        (of_kind old.buffered.pending kind))
    left_good =
        tells.verified
        ∙ (ap (λ b. cond b [] (left_verified x (of_kind old.buffered.verified kind) (of_kind old.buffered.pending kind))) (ap is_some none)
        ∙ sym (stays kind (left_verified x (of_kind old.buffered.verified kind) (of_kind old.buffered.pending kind))
        (left_eligible x past kind (of_kind old.buffered.verified kind) (of_kind old.buffered.pending kind) (verified_wait x past old kind represents)
        (pending_wait x past old kind represents))))

    left_proven : (k : Kind) → of_kind left.verified k ≡ verified_after x past old event k
    left_proven k =
        ⊎_elim
        (λ this.
        subst (λ (j : Kind). of_kind left.verified j ≡ eligible_among x then j
        (left_verified x (of_kind old.buffered.verified j) (of_kind old.buffered.pending j))) (is_kind-true kind k this) left_good
        ∙ sym (verified_of quiet k ∙ ap (λ b. eligible_among x then k
        (cond b (left_verified x (of_kind old.buffered.verified k) (of_kind old.buffered.pending k)) (of_kind old.buffered.verified k))) this))
        (λ other.
        (t.others k other).verified
        ∙ (sym (stays k (of_kind old.buffered.verified k) (verified_wait x past old k represents))
        ∙ sym (verified_of quiet k ∙ ap (λ b. eligible_among x then k
        (cond b (left_verified x (of_kind old.buffered.verified k) (of_kind old.buffered.pending k)) (of_kind old.buffered.verified k))) other)))
        (cases_Bool (is_kind kind k))

    left_kind : (k : Kind) → MovesKind x past event (record old { buffered = left }) k
    left_kind k =
        moves_tracked x past event (record old { buffered = left }) k (open_left k ∙ sym (certified_stays k))
        (tracks_stay x past event refl old represents k (certified_stays k))

    left_moves : Moves x past old ConstructCall (ConstructAnswer (Some batch))
        (record old { buffered = left })
    left_moves =
        record {
          allowed = tt;
          made = refl;
          answered = (kind, (ready, may_answer));
          leader_is = t.leader ∙ (represents.leader_is ∙ sym leader_goes);
          selection_is = selection_held ∙ sym selection_stays;
          forwarded_is = represents.forwarded_is;
          kinds = left_kind;
          pending_are = left_pending;
          verified_are = left_proven;
          attempt = (kind, (ready, tells.attempt));
        }

-- NO BATCH
module _ {D K G C : Type 0} (x : Config D K G C) (past : History D K G C) (old : RoundState G D)
    (represents : Represents x past old) (none : ready_kind x past ≡ None) where
  abbrev idle : Event D K G C
  idle = constructed x past None

  idle_back : (v : Vote G D) → is_restored x past idle v ≡ false
  idle_back v = none_back x past idle refl v

  idle_selection : selection x (idle ∷ past) ≡ selection x past
  idle_selection = selection_then x past None None refl

  idle_kind : (k : Kind) → MovesKind x past idle old k
  idle_kind k =
      moves_tracked x past idle old k ((represents.each_kind k).certified_is)
      (tracks_stay x past idle refl old represents k refl)

  pub idle_moves : Moves x past old ConstructCall (ConstructAnswer None) old
  idle_moves =
      record {
        allowed = tt;
        made = refl;
        answered = none;
        leader_is = represents.leader_is ∙ sym (leader_same x past idle refl);
        selection_is = represents.selection_is ∙ sym idle_selection;
        forwarded_is = represents.forwarded_is;
        kinds = idle_kind;
        pending_are = λ k.
            sym (pending_left x past old None idle_back k
            ∙ still_waits x past idle k (of_kind old.buffered.pending k) refl (ap proposal_of idle_selection) (pending_wait x past old k represents));
        verified_are = λ k.
            sym (verified_left x past old None idle_back k
            ∙ still_waits x past idle k (of_kind old.buffered.verified k) refl (ap proposal_of idle_selection) (verified_wait x past old k represents));
        attempt = tt;
      }

-- A CONSTRUCTION
module _ {D K G C : Type 0} (x : Config D K G C) (lawful : HasLaws x) where
  batch_moves : (past : History D K G C) (old : RoundState G D) (before after : Stream)
      (batch : Batch (Certificate C D)) (new : RoundState G D) → Represents x past old →
      IsSound x.meaning x.same_digest x.number (quorum_in x) old.buffered
      → IfSome batch.certificate (λ c. certifies_itself x.meaning c ≡ true)
      → AfterBatch x old before batch new after →
      Moves x past old ConstructCall (ConstructAnswer (Some batch)) new
  batch_moves past old before after batch new represents sound certifies step = by_certificate batch.certificate refl
    where
      is_first : ready_kind x past ≡ Some step.kind
      is_first = sym (tried_is_ready x lawful past old represents) ∙ step.first

      is_ready_now : is_ready_in x old step.kind ≡ true
      is_ready_now = tried_ready x old step.kind step.first

      told : Tells x old step.kind batch step.tried.left
      told = attempted x lawful old step.kind before after batch step.tried.left step.tried.tries sound is_ready_now certifies

      by_certificate : (o : Option (Certificate C D)) → batch.certificate ≡ o
          → Moves x past old ConstructCall (ConstructAnswer (Some batch)) new
      by_certificate None e =
          let same : new ≡ record old { buffered = step.tried.left } = subst (λ o. AfterGiven x (record old { buffered = step.tried.left }) step.kind o new) e
          step.tried.given in
          let unfinished : is_certified past step.kind ≡ false = sym (represents.each_kind step.kind).certified_is
          ∙ not-true (of_kind old.buffered.certified step.kind) (and_parts _ _ is_ready_now).0 in
          subst (λ h. Moves x past old ConstructCall (ConstructAnswer (Some batch)) h) (sym same)
          (left_moves x lawful past old new represents step.kind is_first before after batch step.tried.left step.tried.tries told e unfinished)
      by_certificate (Some c) e =
          let settled = subst (λ o. AfterGiven x (record old { buffered = step.tried.left }) step.kind o new) e step.tried.given in
          let w = witnessed x lawful past step.kind (of_kind old.buffered.verified step.kind) (of_kind old.buffered.pending step.kind) batch c told.attempt
          (represents.each_kind step.kind).verified_are (represents.each_kind step.kind).pending_are e in
          given_moves x lawful past old new represents step.kind is_first before after batch step.tried.left step.tried.tries told c e w.certified_kind settled

  -- A construction is followed: it tries the first ready kind, answers as the history allows, and
  -- leaves what the longer one names.
  pub construct_simulates : (past : History D K G C) (old : RoundState G D) (before after : Stream)
      (answer : Option (Batch (Certificate C D))) (new : RoundState G D) → Represents x past old →
      IsSound x.meaning x.same_digest x.number (quorum_in x) old.buffered
      → IfSome answer (λ batch. IfSome batch.certificate
      (λ c. certifies_itself x.meaning c ≡ true)) → AfterConstruct x old before answer new after
      →
      Simulates x past old (ConstructCall, ConstructAnswer answer) new
  construct_simulates past old before after None new represents sound certifies step =
      followed x lawful past old ConstructCall (ConstructAnswer None) new represents
      (subst (λ h. Moves x past old ConstructCall (ConstructAnswer None) h) (sym step.held)
      (idle_moves x past old represents (sym (tried_is_ready x lawful past old represents) ∙ step.none)))
  construct_simulates past old before after (Some batch) new represents sound certifies step =
      followed x lawful past old ConstructCall (ConstructAnswer (Some batch)) new represents
      (batch_moves past old before after batch new represents sound certifies step)
