-- What a voter that has learned what was learned knows of a view.
use Rattle.batcher_voter.proofs.Words.{◌≡◌, ◌<◌, ◌≤◌, ◌∙◌, ℕ, Bool, true, false, ◌∷◌, Option, Some, None, inl, inr, ◌⊎◌, ap, arith, eq-eqb, refl, subst, sym}
use Rattle.batcher_voter.proofs.Words.{◌≢◌, MatchBool, is_some, cases_lt, round_in, same_proposal, Proposal, Subject, Notarize, Nullify, Finalize, Round}
use Rattle.batcher_voter.proofs.Words.{Conduct, IsGrounded, Knows, KnowsProposal, learned, voted, numbered, AreNullified, Forgets, HasLearned, IsHighest}
use Rattle.batcher_voter.proofs.Words.{IsParent, KnowledgeView, KnowsOf, SameKnowledge, Learns, learned_at, learned_of, Learned, same_proposal-true}
use Rattle.batcher_voter.proofs.Words.{same_round-refl, HasNoGround, IsNotNotarized, IsRefused, Rule, Contradicts, Nullified, NotNotarized, ParentBeforeFinal}
use Rattle.batcher_voter.proofs.Words.{ParentNotEarlier, ParentUnknown, ViewNotNullified}
use Rattle.batcher_voter.proofs.Knowing.{finalized_is_known, known_finalized, known_notarized, known_nullified, notarized_is_known, nullified_is_known}

wrong : false ≡ true → ⊥
wrong e = absurd cc

module _ {D : Type 0} where
  pub still_learned :
      (old new : KnowledgeView D) (past : Conduct D) → SameKnowledge old new → HasLearned old past
      → HasLearned new past
  still_learned old new past same has view from =
      same.each view ∙ has view (subst (λ f. f ≤ view) same.floor from)
      ∙ ap (λ e. learned_of past (numbered e view)) (sym same.epoch)

  pub learned_more :
      (s : Subject D) (old new : KnowledgeView D) (past : Conduct D) → Learns s old new
      → (round_in s).epoch ≡ old.epoch → HasLearned old past → HasLearned new (learned s ∷ past)
  learned_more s old new past learns same has view from =
      learns.each view
      ∙ rw (has view (subst (λ f. f ≤ view) learns.floor from), learns.epoch, same, eq-eqb old.epoch.0 old.epoch.0 refl) refl

  -- the views before a later floor are forgotten
  pub learned_from :
      (old new : KnowledgeView D) (past : Conduct D) → new.epoch ≡ old.epoch → old.floor ≤ new.floor
      → ((view : ℕ) → new.floor ≤ view → learned_at new view ≡ learned_at old view)
      → HasLearned old past → HasLearned new past
  learned_from old new past same up each has view from =
      each view from ∙ has view (omega (arith, up, from))
      ∙ ap (λ e. learned_of past (numbered e view)) (sym same)

  module _ (knowledge : KnowledgeView D) (past : Conduct D) (has : HasLearned knowledge past) (view : ℕ)
      (from : knowledge.floor ≤ view) where
    pub notarized_here :
        (p : Proposal D) → (learned_at knowledge view).notarized ≡ Some p
        → (p.round ≡ numbered knowledge.epoch view) × Knows past (Notarize p)
    notarized_here p e =
        notarized_is_known past (numbered knowledge.epoch view) p
        (ap (λ (it : Learned D). it.notarized) (sym (has view from)) ∙ e)

    finalized_here :
        (p : Proposal D) → (learned_at knowledge view).finalized ≡ Some p
        → (p.round ≡ numbered knowledge.epoch view) × Knows past (Finalize p)
    finalized_here p e =
        finalized_is_known past (numbered knowledge.epoch view) p
        (ap (λ (it : Learned D). it.finalized) (sym (has view from)) ∙ e)

    pub nullified_here :
        (learned_at knowledge view).nullified ≡ true
        → Knows past (Nullify (numbered knowledge.epoch view))
    nullified_here e =
        nullified_is_known past (numbered knowledge.epoch view)
        (ap (λ (it : Learned D). it.nullified) (sym (has view from)) ∙ e)

    pub not_nullified_here :
        (learned_at knowledge view).nullified ≡ false
        → Knows past (Nullify (numbered knowledge.epoch view)) → ⊥
    not_nullified_here e known =
        wrong (sym e ∙ ap (λ (it : Learned D). it.nullified) (has view from)
        ∙ known_nullified past (numbered knowledge.epoch view) known)

    pub not_notarized_here :
        (learned_at knowledge view).notarized ≡ None
        → (p : Proposal D) → p.round ≡ numbered knowledge.epoch view → Knows past (Notarize p) → ⊥
    not_notarized_here e p same known =
        wrong (ap is_some (sym e)
        ∙ ap (λ (it : Learned D). is_some it.notarized) (has view from)
        ∙ ap (λ r. is_some (learned_of past r).notarized) (sym same)
        ∙ known_notarized past p known)

    some_notarized :
        (o : Option (Proposal D)) → (learned_at knowledge view).notarized ≡ o → is_some o ≡ true
        → KnowsProposal past (numbered knowledge.epoch view)
    some_notarized (Some p) e h =
        let it = notarized_here p e in
        record { proposal = p; of_round = it.0; known = inl it.1 }
    some_notarized None e h = absurd (wrong h)

    some_finalized :
        (o : Option (Proposal D)) → (learned_at knowledge view).finalized ≡ o → is_some o ≡ true
        → KnowsProposal past (numbered knowledge.epoch view)
    some_finalized (Some p) e h =
        let it = finalized_here p e in
        record { proposal = p; of_round = it.0; known = inr it.1 }
    some_finalized None e h = absurd (wrong h)

    pub notarized_parent :
        is_some (learned_at knowledge view).notarized ≡ true
        → KnowsProposal past (numbered knowledge.epoch view)
    notarized_parent h = some_notarized (learned_at knowledge view).notarized refl h

    pub finalized_parent :
        is_some (learned_at knowledge view).finalized ≡ true
        → KnowsProposal past (numbered knowledge.epoch view)
    finalized_parent h = some_finalized (learned_at knowledge view).finalized refl h

    pub no_parent :
        is_some (learned_at knowledge view).notarized ≡ false
        → is_some (learned_at knowledge view).finalized ≡ false
        → KnowsProposal past (numbered knowledge.epoch view) → ⊥
    no_parent a b it = of it.proposal it.of_round it.known
      where
        of :
            (p : Proposal D) → p.round ≡ numbered knowledge.epoch view
            → Knows past (Notarize p) ⊎ Knows past (Finalize p) → ⊥
        of p same (inl known) =
            wrong (sym a ∙ ap (λ (it : Learned D). is_some it.notarized) (has view from)
            ∙ ap (λ r. is_some (learned_of past r).notarized) (sym same)
            ∙ known_notarized past p known)
        of p same (inr known) =
            wrong (sym b ∙ ap (λ (it : Learned D). is_some it.finalized) (has view from)
            ∙ ap (λ r. is_some (learned_of past r).finalized) (sym same)
            ∙ known_finalized past p known)

module _ {D : Type 0} (same : D → D → Bool) (identical : (a b : D) → same a b ≡ true → a ≡ b)
    (same_itself : (a : D) → same a a ≡ true) (knowledge : KnowledgeView D) (past : Conduct D)
    (has : HasLearned knowledge past) (p : Proposal D) (of_epoch : p.round.epoch ≡ knowledge.epoch)
    (from : knowledge.floor ≤ p.round.view.0) where
  of_round : p.round ≡ numbered knowledge.epoch p.round.view.0
  of_round = ap (λ e. numbered e p.round.view.0) of_epoch

  proposal_itself : (q : Proposal D) → same_proposal same q q ≡ true
  proposal_itself q =
      rw (same_round-refl q.round, eq-eqb q.parent.0 q.parent.0 refl, same_itself q.payload) refl

  -- a notarization is known, of this proposal or of another one
  pub notarized_or_not :
      (q : Proposal D) → (learned_at knowledge p.round.view.0).notarized ≡ Some q
      → (is : Bool) → same_proposal same q p ≡ is
      → MatchBool is (Knows past (Notarize p)) (IsNotNotarized past p)
  notarized_or_not q e true is =
      subst (λ (it : Proposal D). Knows past (Notarize it)) (same_proposal-true same identical q p is)
      (notarized_here knowledge past has p.round.view.0 from q e).1
  notarized_or_not q e false is =
      let it = notarized_here knowledge past has p.round.view.0 from q e in
      inr (record {
        other = q;
        of_round = it.0 ∙ sym of_round;
        differs = λ equal. wrong (sym is ∙ ap (λ (x : Proposal D). same_proposal same x p) equal ∙ proposal_itself p);
        known = it.1;
      })

  pub none_notarized :
      (learned_at knowledge p.round.view.0).notarized ≡ None → IsNotNotarized past p
  none_notarized e =
      inl (not_notarized_here knowledge past has p.round.view.0 from e p of_round)

-- a proposal without ground is refused
pub refused_by_ground :
    {G D : Type 0} (same : D → D → Bool) (all past : Conduct D) (final : ℕ) (rule : Rule G D)
    (p : Proposal D) → HasNoGround past final rule p
    → IsRefused same all past final rule (Notarize p)
refused_by_ground same all past final (Contradicts vote) p h = absurd h
refused_by_ground same all past final Nullified p h = absurd h
refused_by_ground same all past final NotNotarized p h = absurd h
refused_by_ground same all past final ParentNotEarlier p h = h
refused_by_ground same all past final ParentBeforeFinal p h = h
refused_by_ground same all past final ParentUnknown p h = h
refused_by_ground same all past final (ViewNotNullified view) p h = h

-- THE HIGHEST VIEW
module _ {D : Type 0} where
  pub still_highest :
      (old new : KnowledgeView D) (past : Conduct D) → SameKnowledge old new → IsHighest old past
      → IsHighest new past
  still_highest old new past same is =
      record {
        none_above = λ s known of. subst (λ n. (round_in s).view.0 ≤ n) (sym same.highest)
            (is.none_above s known (of ∙ same.epoch));
        is_known = rw (same.highest, same.floor, same.epoch) is.is_known;
        from_floor = rw (same.highest, same.floor) is.from_floor;
      }

  knows_of_more :
      (s : Subject D) (past : Conduct D) (number : Round) → KnowsOf past number
      → KnowsOf (learned s ∷ past) number
  knows_of_more s past number it =
      record { subject = it.subject; of_round = it.of_round; known = inr it.known }

  pub highest_more :
      (s : Subject D) (old new : KnowledgeView D) (past : Conduct D) → Learns s old new
      → (round_in s).epoch ≡ old.epoch → IsHighest old past → IsHighest new (learned s ∷ past)
  highest_more s old new past learns of is =
      record {
        none_above = λ t known same. above t known same;
        is_known = by_max (cases_lt old.highest (round_in s).view.0);
        from_floor = omega (arith, learns.highest, learns.floor, is.from_floor);
      }
    where
      above :
          (t : Subject D) → Knows (learned s ∷ past) t → (round_in t).epoch ≡ new.epoch
          → (round_in t).view.0 ≤ new.highest
      above t (inl e) same =
          subst (λ u. (round_in u).view.0 ≤ new.highest) e (omega (arith, learns.highest))
      above t (inr known) same =
          let low = is.none_above t known (same ∙ learns.epoch) in
          omega (arith, low, learns.highest)

      by_max :
          (old.highest < (round_in s).view.0) ⊎ ((round_in s).view.0 ≤ old.highest)
          → (new.highest ≡ new.floor) ⊎ KnowsOf (learned s ∷ past) (numbered new.epoch new.highest)
      by_max (inr low) =
          let same : new.highest ≡ old.highest = omega (arith, low, learns.highest) in
          rw (same, learns.floor, learns.epoch)
          (elim is.is_known [
            | inl e ↦ inl e
            | inr it ↦ inr (knows_of_more s past (numbered old.epoch old.highest) it)
          ])
      by_max (inl high) =
          let same : new.highest ≡ (round_in s).view.0 = omega (arith, high, learns.highest) in
          inr (record {
            subject = s;
            of_round = ap (λ e. numbered e (round_in s).view.0) of
                ∙ ap (λ e. numbered e (round_in s).view.0) (sym learns.epoch)
                ∙ ap (λ n. numbered new.epoch n) (sym same);
            known = inl refl;
          })

  pub highest_from :
      (first : ℕ) (old new : KnowledgeView D) (past : Conduct D) → Forgets first old new
      → IsHighest old past → IsHighest new past
  highest_from first old new past forgets is =
      record {
        none_above = λ s known same.
            let low = is.none_above s known (same ∙ forgets.epoch) in
            omega (arith, low, forgets.highest);
        is_known = by_max (cases_lt first old.highest);
        from_floor = omega (arith, forgets.highest, forgets.floor, is.from_floor);
      }
    where
      by_max :
          (first < old.highest) ⊎ (old.highest ≤ first)
          → (new.highest ≡ new.floor) ⊎ KnowsOf past (numbered new.epoch new.highest)
      by_max (inr low) = inl (omega (arith, low, forgets.highest, forgets.floor, is.from_floor))
      by_max (inl high) =
          let same : new.highest ≡ old.highest = omega (arith, high, forgets.highest) in
          elim is.is_known [
            | inl e ↦ inl (omega (arith, high, e, forgets.highest, forgets.floor))
            | inr it ↦ rw (same, forgets.epoch) (inr it)
          ]

  -- a vote tells nothing of views
  pub highest_voted :
      (t : Subject D) (knowledge : KnowledgeView D) (past : Conduct D) → IsHighest knowledge past
      → IsHighest knowledge (voted t ∷ past)
  highest_voted t knowledge past is =
      record {
        none_above = is.none_above;
        is_known = elim is.is_known [
          | inl e ↦ inl e
          | inr it ↦ inr (record { subject = it.subject; of_round = it.of_round; known = it.known })
        ];
        from_floor = is.from_floor;
      }

-- THE PARENT
module _ {D : Type 0} (knowledge : KnowledgeView D) (past : Conduct D)
    (has : HasLearned knowledge past) (p : Proposal D) (of_epoch : p.round.epoch ≡ knowledge.epoch)
    (from : knowledge.floor ≤ p.parent.0) where
  parent_here :
      IsParent knowledge p.parent.0
      → (p.parent.0 ≡ 0) ⊎ KnowsProposal past (numbered knowledge.epoch p.parent.0)
  parent_here (inl start) = inl start
  parent_here (inr (inl notarized)) =
      inr (notarized_parent knowledge past has p.parent.0 from notarized)
  parent_here (inr (inr finalized)) =
      inr (finalized_parent knowledge past has p.parent.0 from finalized)

  -- what has a parent and no gap has ground
  pub parent_grounds :
      p.parent.0 < p.round.view.0 → IsParent knowledge p.parent.0
      → AreNullified knowledge p.parent.0 p.round.view.0 → IsGrounded past p
  parent_grounds earlier parent nullified =
      record {
        earlier = earlier;
        parent = subst (λ e. (p.parent.0 ≡ 0) ⊎ KnowsProposal past (numbered e p.parent.0))
            (sym of_epoch) (parent_here parent);
        between = λ view above below.
            subst (λ e. Knows past (Nullify (numbered e view))) (sym of_epoch)
            (nullified_here knowledge past has view (omega (arith, above, from))
            (nullified view above below));
      }

  by_kinds :
      (a b : Bool) → is_some (learned_at knowledge p.parent.0).notarized ≡ a
      → is_some (learned_at knowledge p.parent.0).finalized ≡ b
      → KnowsProposal past (numbered knowledge.epoch p.parent.0) → IsParent knowledge p.parent.0
  by_kinds true b e f known = inr (inl e)
  by_kinds false true e f known = inr (inr f)
  by_kinds false false e f known =
      absurd (no_parent knowledge past has p.parent.0 from e f known)

  nullified_between :
      (view : ℕ) → p.parent.0 < view → Knows past (Nullify (numbered p.round.epoch view))
      → (n : Bool) → (learned_at knowledge view).nullified ≡ n → n ≡ true
  nullified_between view above known true e = refl
  nullified_between view above known false e =
      absurd (not_nullified_here knowledge past has view (omega (arith, above, from)) e
      (subst (λ x. Knows past (Nullify (numbered x view))) of_epoch known))

  -- and what has ground has both
  pub ground_has_parent : IsGrounded past p → IsParent knowledge p.parent.0
  ground_has_parent ground =
      elim ground.parent [
        | inl start ↦ inl start
        | inr known ↦ by_kinds _ _ refl refl
            (subst (λ e. KnowsProposal past (numbered e p.parent.0)) of_epoch known)
      ]

  pub ground_has_no_gap :
      IsGrounded past p → AreNullified knowledge p.parent.0 p.round.view.0
  ground_has_no_gap ground view above below =
      nullified_between view above (ground.between view above below) _ refl

  pub no_parent_known :
      (IsParent knowledge p.parent.0 → ⊥)
      → (p.parent.0 ≢ 0)
      × (KnowsProposal past (numbered p.round.epoch p.parent.0) → ⊥)
  no_parent_known none = (
    λ start. none (inl start),
    λ known. none (by_kinds _ _ refl refl
        (subst (λ e. KnowsProposal past (numbered e p.parent.0)) of_epoch known)),
  )

-- What is known to be notarized is of a view on which a proposal may be.
pub notarized_is_parent :
    {D : Type 0} (knowledge : KnowledgeView D) (past : Conduct D) → HasLearned knowledge past
    → (p : Proposal D) → p.round.epoch ≡ knowledge.epoch → knowledge.floor ≤ p.round.view.0
    → Knows past (Notarize p) → IsParent knowledge p.round.view.0
notarized_is_parent {D} knowledge past has p of_epoch from known =
    inr (inl (
    ap (λ (it : Learned D). is_some it.notarized) (has p.round.view.0 from)
    ∙ ap (λ r. is_some (learned_of past r).notarized) (sym (ap (λ e. numbered e p.round.view.0) of_epoch))
    ∙ known_notarized past p known
    ))

-- of two numbers of which the one isn't above
pub not_above : (a b : ℕ) → (a < b → ⊥) → b ≤ a
not_above a b not =
    elim (cases_lt a b) [
      | inl lt ↦ absurd (not lt)
      | inr le ↦ le
    ]
