-- What whoever is blocked did, and what each node has for it: a history that it represents.
use Rattle.batcher_node.proofs.Words.{◌≡◌, ◌<◌, ◌==◌, ◌||◌, ℕ, zero, suc, Bool, true, false, cond, List, [], ◌∷◌, Option, Some, None, refl, sym, ap, ◌∙◌, subst}
use Rattle.batcher_node.proofs.Words.{length, is_some, arith, IfSome, list_any, AllPass, option_map, option_or, false≢true, eqb-true, All-head, All-tail}
use Rattle.batcher_node.proofs.Words.{Participant, Vote, Certificate, Batch, Admission, BlockReason, is_some_and, sent_bad_vote, gave_cause, ready_kind}
use Rattle.batcher_node.proofs.Words.{subject_of, round_in, Answered, Outside, Dropped, Unknown, Recorded, Forged, Known, Cause, ForVote, ForCertificate}
use Rattle.batcher_node.proofs.Words.{forgery_came, inl, inr, ForSignature, NodeEvent, started, vote_came, certificate_came, vote_cast, view_entered}
use Rattle.batcher_node.proofs.Words.{view_finalized, constructed}
use Rattle.batcher_node.proofs.Words.{proposal_forwarded, NodeHistory, view_history, peer_in, is_peer, cause_by, cause_in, NodeView, NodeConfig, cause_at}
use Rattle.batcher_node.proofs.Words.{NodeRepresents, HasHistory, ForEachNodeHistory, ForSomeNodeHistory, config_of, IsForCause, AreForCause, GaveCauseFor}
use Rattle.batcher_node.proofs.Words.{HadGivenCause}
use Rattle.batcher_node.proofs.Finding.{some_is, some_same}

-- what passes a test is there
passes : {X : Type 0} (test : X → Bool) (o : Option X) → is_some_and o test ≡ true
    → (a : X) × ((o ≡ Some a) × (test a ≡ true))
passes test None is = absurd (false≢true is)
passes test (Some a) is = (a, (refl, is))

-- where something is given by a test, the test holds
is_given : (b : Bool) (given c : Cause) → cond b (Some given) None ≡ Some c
    → (b ≡ true) × (given ≡ c)
is_given true given c is = (refl, some_same is)
is_given false given c is = absurd (some_is (sym is))

is_given_for : (b : Bool) (reason : Option BlockReason) (c : Cause)
    → cond b (option_map ForVote reason) None ≡ Some c
    → (b ≡ true) × ((is_some reason ≡ true) × ((r : BlockReason) × (ForVote r ≡ c)))
is_given_for true None c is = absurd (some_is (sym is))
is_given_for false None c is = absurd (some_is (sym is))
is_given_for true (Some r) c is = (refl, (refl, (r, some_same is)))
is_given_for false (Some r) c is = absurd (some_is (sym is))

-- one of some participants passes what all of them do
passes_too : (test : Participant → Bool) (ps : List Participant) (i : ℕ)
    → list_any (λ p. p.0 == i) ps ≡ true → AllPass test ps
    → (p : Participant) × ((p.0 ≡ i) × (test p ≡ true))
passes_too test [] i is all = absurd (false≢true is)
passes_too test (p ∷ ps) i is all =
    by_first (p.0 == i) refl is
    (λ is. passes_too test ps i is (All-tail (λ p. test p ≡ true) p ps all)) where
      by_first : (b : Bool) → (p.0 == i) ≡ b → (b || list_any (λ p. p.0 == i) ps) ≡ true
          → (list_any (λ p. p.0 == i) ps ≡ true
          → (p : Participant) × ((p.0 ≡ i) × (test p ≡ true)))
          → (p : Participant) × ((p.0 ≡ i) × (test p ≡ true))
      by_first true same is rest =
          (p, (eqb-true p.0 i same, All-head (λ p. test p ≡ true) p ps all))
      by_first false same is rest = rest is

-- who has a cause has a place
has_place : (blocked : List (Option Cause)) (i : ℕ) (c : Cause) → cause_at blocked i ≡ Some c
    → i < length blocked
has_place [] i c is = absurd (some_is (sym is))
has_place (o ∷ blocked) zero c is = grind arith
has_place (o ∷ blocked) (suc i) c is =
    let below = has_place blocked i c is in grind (arith, below)

module _ {D K G C : Type 0} (x : NodeConfig D K G C) where
  -- WHAT WHOEVER IS BLOCKED DID
  by_vote : (past : NodeHistory D K G C) (peer : K) (vote : Vote G D) (admission : Admission G D)
      → IsForCause x past (vote_came peer vote (Answered admission)) → (i : ℕ) (c : Cause)
      → cond (is_peer x peer i) (option_map ForVote admission.block) None ≡ Some c
      → GaveCauseFor x c (vote_came peer vote (Answered admission) ∷ past) i
  by_vote past peer vote admission good i c is =
      let event : NodeEvent D K G C = vote_came peer vote (Answered admission) in
      let view = (round_in (subject_of vote)).view.0 in
      let given = is_given_for (is_peer x peer i) admission.block c is in
      let sender = passes (λ p. p.0 == i) (peer_in x peer) given.0 in
      subst (λ c. GaveCauseFor x c (event ∷ past) i) given.1.1.1
      (record {
        view = view;
        gave =
            subst (λ j. gave_cause (config_of x (event ∷ past) view) (view_history view (event ∷ past)) j
            ≡ true) (eqb-true sender.0.0 i sender.1.1)
            (good given.1.0 sender.0 sender.1.0);
      })

  by_certificate : (past : NodeHistory D K G C) (peer : K) (certificate : Certificate C D)
      → IsForCause x past (certificate_came peer certificate (Answered Forged))
      → (i : ℕ) (c : Cause) → cond (is_peer x peer i) (Some ForCertificate) None ≡ Some c
      → GaveCauseFor x c (certificate_came peer certificate (Answered Forged) ∷ past) i
  by_certificate past peer certificate good i c is =
      let given = is_given (is_peer x peer i) ForCertificate c is in
      subst (λ c. GaveCauseFor x c (certificate_came peer certificate (Answered Forged) ∷ past) i)
      given.1
      (record {
        key = peer;
        is_sender = given.0;
        certificate = certificate;
        forged = good;
        before = past;
        came = inl refl;
      })

  by_forgery : (past : NodeHistory D K G C) (peer : K) (certificate : Certificate C D)
      → IsForCause x past (forgery_came peer certificate)
      → (i : ℕ) (c : Cause) → cond (is_peer x peer i) (Some ForCertificate) None ≡ Some c
      → GaveCauseFor x c (forgery_came peer certificate ∷ past) i
  by_forgery past peer certificate good i c is =
      let given = is_given (is_peer x peer i) ForCertificate c is in
      subst (λ c. GaveCauseFor x c (forgery_came peer certificate ∷ past) i) given.1
      (record {
        key = peer;
        is_sender = given.0;
        certificate = certificate;
        forged = good;
        before = past;
        came = inr refl;
      })

  by_batch : (past : NodeHistory D K G C) (view : ℕ) (batch : Batch (Certificate C D))
      → IsForCause x past (constructed view (Some batch)) → (i : ℕ) (c : Cause)
      → cond (list_any (λ p. p.0 == i) batch.invalid) (Some ForSignature) None ≡ Some c
      → GaveCauseFor x c past i
  by_batch past view batch good i c is =
      let y = config_of x past view in
      let given = is_given (list_any (λ p. p.0 == i) batch.invalid) ForSignature c is in
      let named =
      passes_too (λ p. is_some_and (ready_kind y (view_history view past))
      (λ kind. sent_bad_vote y (view_history view past) kind p.0)) batch.invalid i given.0 good in
      let ready =
      passes (λ kind. sent_bad_vote y (view_history view past) kind named.0.0)
      (ready_kind y (view_history view past)) named.1.1 in
      subst (λ c. GaveCauseFor x c past i) given.1
      (record {
        view = view;
        kind = ready.0;
        sent =
            subst (λ j. sent_bad_vote y (view_history view past) ready.0 j ≡ true) named.1.0 ready.1.1;
      })

  -- it did so with this event, or before it
  by_event : (past : NodeHistory D K G C) (event : NodeEvent D K G C) → IsForCause x past event
      → (i : ℕ) (c : Cause) → cause_by x event i ≡ Some c → HadGivenCause x (event ∷ past) i c
  by_event past (vote_came peer vote (Answered admission)) good i c is =
      record {
        later = [];
        earlier = vote_came peer vote (Answered admission) ∷ past;
        is_part = refl;
        gave = by_vote past peer vote admission good i c is;
      }
  by_event past (certificate_came peer certificate (Answered Forged)) good i c is =
      record {
        later = [];
        earlier = certificate_came peer certificate (Answered Forged) ∷ past;
        is_part = refl;
        gave = by_certificate past peer certificate good i c is;
      }
  by_event past (forgery_came peer certificate) good i c is =
      record {
        later = [];
        earlier = forgery_came peer certificate ∷ past;
        is_part = refl;
        gave = by_forgery past peer certificate good i c is;
      }
  by_event past (constructed view (Some batch)) good i c is =
      record {
        later = constructed view (Some batch) ∷ [];
        earlier = past;
        is_part = refl;
        gave = by_batch past view batch good i c is;
      }
  by_event past (constructed view None) good i c is = absurd (some_is (sym is))
  by_event past (started window) good i c is = absurd (some_is (sym is))
  by_event past (vote_came peer vote Outside) good i c is = absurd (some_is (sym is))
  by_event past (vote_came peer vote Dropped) good i c is = absurd (some_is (sym is))
  by_event past (vote_came peer vote Unknown) good i c is = absurd (some_is (sym is))
  by_event past (certificate_came peer certificate (Answered (Recorded changed))) good i c is =
      absurd (some_is (sym is))
  by_event past (certificate_came peer certificate (Answered Known)) good i c is =
      absurd (some_is (sym is))
  by_event past (certificate_came peer certificate Outside) good i c is =
      absurd (some_is (sym is))
  by_event past (certificate_came peer certificate Dropped) good i c is =
      absurd (some_is (sym is))
  by_event past (certificate_came peer certificate Unknown) good i c is =
      absurd (some_is (sym is))
  by_event past (vote_cast vote outcome report) good i c is = absurd (some_is (sym is))
  by_event past (view_entered view leader) good i c is = absurd (some_is (sym is))
  by_event past (view_finalized view) good i c is = absurd (some_is (sym is))
  by_event past (proposal_forwarded view me given) good i c is = absurd (some_is (sym is))

  had_given_cause : (past : NodeHistory D K G C) → AreForCause x past → (i : ℕ) (c : Cause)
      → cause_in x past i ≡ Some c → HadGivenCause x past i c
  had_given_cause [] good i c is = absurd (some_is (sym is))
  had_given_cause (event ∷ past) good i c is =
      by_before (cause_in x past i) refl is (had_given_cause past good.1 i c) where
        by_before : (o : Option Cause) → cause_in x past i ≡ o
            → option_or o (cause_by x event i) ≡ Some c
            → (cause_in x past i ≡ Some c → HadGivenCause x past i c)
            → HadGivenCause x (event ∷ past) i c
        by_before None was is rest = by_event past event good.0 i c is
        by_before (Some d) was is rest =
            let before = rest (was ∙ is) in
            record {
              later = event ∷ before.later;
              earlier = before.earlier;
              is_part = ap (λ t. event ∷ t) before.is_part;
              gave = before.gave;
            }

  module _ {S : Type 0} (past : NodeHistory D K G C) (node : NodeView S G D) where
    pub each_gave_cause : length node.blocked ≡ length x.meaning.participants
        → NodeRepresents x past node → AreForCause x past → (i : ℕ)
        → IfSome (cause_at node.blocked i) (HadGivenCause x past i)
    each_gave_cause each h good i = by_cause (cause_at node.blocked i) refl where
      by_cause : (o : Option Cause) → cause_at node.blocked i ≡ o
          → IfSome o (HadGivenCause x past i)
      by_cause None is = tt
      by_cause (Some c) is =
          let place = subst (λ n. i < n) each (has_place node.blocked i c is) in
          had_given_cause past good i c (sym (h.blocked_are i place) ∙ is)

  -- THE HISTORY OF EACH NODE
  -- There is a history that a node represents. So what holds of each holds of one.
  pub some_of_each : {S : Type 0} (node : NodeView S G D) (holds : NodeHistory D K G C → Type 0)
      → HasHistory x node → ForEachNodeHistory x node holds → ForSomeNodeHistory x node holds
  some_of_each node holds h each = (h, each h.past h.represents)

  -- a new node
  pub starts : {S : Type 0} (node : NodeView S G D) → node.rounds ≡ []
      → ((i : ℕ) → cause_at node.blocked i ≡ None) → HasHistory x node
  starts node none free =
      record {
        past = started node.window ∷ [];
        represents =
            record {
              window_is = refl;
              blocked_are = λ i within. free i;
              answered = (refl, tt);
              possible = λ view. tt;
              views = λ view within. rw none refl;
            };
      }
