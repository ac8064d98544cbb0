-- Who sends just what its own node answered as to be sent is blocked by no other node.
use Rattle.batcher_node.proofs.Words.{◌≡◌, ◌==◌, ℕ, Bool, true, false, not, cond, [], ◌∷◌, Option, Some, None, is_some, refl, sym, ap, ◌∙◌, subst, All}
use Rattle.batcher_node.proofs.Words.{list_any, AllPass, option_map, option_or, true≢false, false≢true, eqb-true, All-head, All-tail, list_all-from_AllPass}
use Rattle.batcher_node.proofs.Words.{Participant, Round, Kind, BlockReason, Mode, is_some_and, signer_of, subject_of, attestation_of, round_in, ready_kind}
use Rattle.batcher_node.proofs.Words.{IsPossible, gave_cause, own_votes_added, sent_bad_vote, IsPromised, SendersOfAddedGiveNoCause, Answered, Forged, Cause}
use Rattle.batcher_node.proofs.Words.{ForVote, ForCertificate, ForSignature, numbered, NodeEvent, vote_came, certificate_came, constructed, NodeHistory}
use Rattle.batcher_node.proofs.Words.{view_history, peer_in, is_peer, cause_by, cause_in, NodeConfig, AreNamed, mode_of, config_of, IsForCause, AreForCause}
use Rattle.batcher_node.proofs.Words.{forgery_came, votes_to_send, HearsOnly}
use Rattle.batcher_node.proofs.SendingViews.{none_of, own_attest, sent_none_bad, round_of, sends_added}

-- the participant of which something is so
who : (i : ℕ) (o : Option Participant) → is_some_and o (λ p. p.0 == i) ≡ true
    → (j : Participant) × ((o ≡ Some j) × (j.0 ≡ i))
who i None h = absurd (false≢true h)
who i (Some j) h = (j, (refl, eqb-true j.0 i h))

no_block : (peer : Bool) (reason : Option BlockReason)
    → (peer ≡ true → is_some reason ≡ true → ⊥)
    → cond peer (option_map ForVote reason) None ≡ None
no_block false reason never = refl
no_block true None never = refl
no_block true (Some reason) never = absurd (never refl refl)

none_unless : (cause : Cause) (b : Bool) → (b ≡ true → ⊥) → cond b (Some cause) None ≡ None
none_unless cause false never = refl
none_unless cause true never = absurd (never refl)

none_if : (cause : Cause) (b : Bool) → b ≡ false → cond b (Some cause) None ≡ None
none_if cause b not_so = ap (λ b. cond b (Some cause) None) not_so

some_kind : (o : Option Kind) (test : Kind → Bool) → ((kind : Kind) → test kind ≡ false)
    → is_some_and o test ≡ false
some_kind None test none = refl
some_kind (Some kind) test none = none kind

module _ {D K G C : Type 0} (x y : NodeConfig D K G C) (same : y.meaning ≡ x.meaning)
    (sent : NodeHistory D K G C) (named : AreNamed x sent)
    (possible : (view : ℕ) → IsPossible (config_of x sent view) (view_history view sent))
    (promised : (view : ℕ) → IsPromised (config_of x sent view) (view_history view sent))
    (no_cause : (number : Round) (mode : Mode)
    → SendersOfAddedGiveNoCause (round_of y number mode)) (i : ℕ)
    (signed : AllPass (λ v. signer_of v == i) (votes_to_send sent)) where
  abbrev Hears : NodeEvent D K G C → Type 0
  Hears = HearsOnly y (votes_to_send sent) i

  -- what the participant's own round of a view added attests
  good_in : (view : ℕ)
      → list_any (λ v. not (y.meaning.attests (subject_of v) (attestation_of v)))
      (own_votes_added (view_history view sent))
      ≡ false
  good_in view =
      subst (λ m. list_any (λ v. not (m.attests (subject_of v) (attestation_of v)))
      (own_votes_added (view_history view sent)) ≡ false)
      (sym same) (own_attest (config_of x sent view) (view_history view sent) (possible view))

  none_bad : (past : NodeHistory D K G C) → All Hears past → (view : ℕ) (kind : Kind) (j : ℕ)
      → j ≡ i → sent_bad_vote (config_of y past view) (view_history view past) kind j ≡ false
  none_bad past hears view kind j is =
      subst (λ k. sent_bad_vote (config_of y past view) (view_history view past) kind k ≡ false) (sym is)
      (sent_none_bad (config_of y past view) (view_history view sent) i (view_history view past)
      (sends_added x y sent named i signed view (numbered y.epoch view) (mode_of y past view) past hears)
      (good_in view) kind)

  gave_none : (past : NodeHistory D K G C) → All Hears past → (view : ℕ)
      → gave_cause (config_of y past view) (view_history view past) i ≡ false
  gave_none past hears view =
      let number = numbered y.epoch view in
      let mode = mode_of y past view in
      no_cause number mode (config_of x sent view) (view_history view sent) (view_history view past) i
      (promised view) (sends_added x y sent named i signed view number mode past hears)

  none_by : (past : NodeHistory D K G C) (event : NodeEvent D K G C) → All Hears (event ∷ past)
      → IsForCause y past event → cause_by y event i ≡ None
  none_by past (vote_came peer vote (Answered admission)) hears for_cause =
      no_block (is_peer y peer i) admission.block (λ is blocked.
      let view = (round_in (subject_of vote)).view.0 in
      let now : NodeHistory D K G C = vote_came peer vote (Answered admission) ∷ past in
      let j = who i (peer_in y peer) is in
      true≢false
      (sym (for_cause blocked j.0 j.1.0)
      ∙ ap (λ k. gave_cause (config_of y now view) (view_history view now) k) j.1.1
      ∙ gave_none now hears view))
  none_by past (certificate_came peer certificate (Answered Forged)) hears forged =
      none_unless ForCertificate (is_peer y peer i)
      (λ is. true≢false (sym (All-head Hears _ past hears is) ∙ forged))
  none_by past (forgery_came peer certificate) hears forged =
      none_unless ForCertificate (is_peer y peer i)
      (λ is. true≢false (sym (All-head Hears _ past hears is) ∙ forged))
  none_by past (constructed view (Some batch)) hears for_cause =
      let y' = config_of y past view in
      let t = view_history view past in
      none_if ForSignature (list_any (λ p. p.0 == i) batch.invalid)
      (none_of
      (λ p. is_some_and (ready_kind y' t) (λ kind. sent_bad_vote y' t kind p.0))
      (λ p. p.0 == i)
      (λ p is. some_kind (ready_kind y' t) (λ kind. sent_bad_vote y' t kind p.0)
      (λ kind. none_bad past (All-tail Hears _ past hears) view kind p.0 (eqb-true p.0 i is)))
      batch.invalid
      (list_all-from_AllPass _ batch.invalid for_cause))
  none_by past event hears for_cause = refl

  -- No event gives a cause to block the participant.
  pub no_cause_in : (heard : NodeHistory D K G C) → All Hears heard → AreForCause y heard
      → cause_in y heard i ≡ None
  no_cause_in [] hears for_cause = refl
  no_cause_in (event ∷ past) hears for_cause =
      ap (λ c. option_or c (cause_by y event i))
      (no_cause_in past (All-tail Hears event past hears) for_cause.1)
      ∙ none_by past event hears for_cause.0
