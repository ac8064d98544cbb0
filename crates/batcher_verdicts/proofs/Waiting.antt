-- What waits keeps its place while a round is called.
use Rattle.batcher_verdicts.proofs.Words.{◌≡◌, ◌⊎◌, inl, inr, ◌++◌, ◌∙◌, ◌≤◌, ◌&&◌, ◌||◌, Bool, true, false, not, cond, List, [], ◌∷◌, Option, Some, None, refl}
use Rattle.batcher_verdicts.proofs.Words.{ap, subst, arith, filter, false≢true, append_assoc, map-append, filter-append, Kind, Nullification, Proposal, Vote}
use Rattle.batcher_verdicts.proofs.Words.{NotarizeVote, NullifyVote, FinalizeVote, count, is_of_kind, is_eligible, attestation_of, count-filter}
use Rattle.batcher_verdicts.proofs.Words.{count-filter_le, filter_all, of_kind, RoundState, is_skipped, attestations_of, Config, History, Event, sent_votes}
use Rattle.batcher_verdicts.proofs.Words.{first_votes, fresh_votes, eligible_votes, eligible_among, is_trusted, was_eligible, trials, Represents, Simulates}
use Rattle.batcher_verdicts.proofs.Words.{tries_kind, arrivals, is_certified, is_restored, selected_proposal, open_eligible, GoesOnWaiting, VerdictsStay}

never : (k e n : Bool) → (k ≡ true → e ≡ true → n ≡ true) → (k && (e && not n)) ≡ false
never true true true h = refl
never true true false h = absurd (false≢true (h refl refl))
never true false n h = refl
never false e n h = refl

none_counts : {X : Type 0} (test : X → Bool) → ((v : X) → test v ≡ false) → (xs : List X)
    → count test xs ≡ 0
none_counts test none [] = refl
none_counts test none (v ∷ xs) = rw (none v, none_counts test none xs) refl

-- nullifies wait whatever is selected
nullify_eligible : {G D : Type 0} (same : D → D → Bool) (selected : Option (Proposal D))
    (v : Vote G D) → is_of_kind Nullification v ≡ true → is_eligible same selected v ≡ true
nullify_eligible same None v is = refl
nullify_eligible same (Some p) (NotarizeVote vote) is = absurd (false≢true is)
nullify_eligible same (Some p) (NullifyVote vote) is = refl
nullify_eligible same (Some p) (FinalizeVote vote) is = absurd (false≢true is)

-- a front that is kept whole
front_kept : {X : Type 0} (p : X → Bool) (front restored added : List X) → filter p front ≡ front
    → filter p (front ++ restored ++ added) ≡ front ++ (filter p restored ++ filter p added)
front_kept p front restored added whole =
    filter-append p (front ++ restored) added
    ∙ ap (λ l. l ++ filter p added) (filter-append p front restored)
    ∙ append_assoc (filter p front) (filter p restored) (filter p added)
    ∙ ap (λ l. l ++ (filter p restored ++ filter p added)) whole

module _ {D K G C : Type 0} (x : Config D K G C) where
  abbrev waits_with : History D K G C → Vote G D → Bool
  waits_with past vote = is_eligible x.same_digest (selected_proposal x past) vote

  -- of the fresh votes none fails a test that all pass which waited
  none_fails : (past : History D K G C) (kind : Kind) (now : Vote G D → Bool)
      → ((v : Vote G D) → is_of_kind kind v ≡ true → waits_with past v ≡ true → now v ≡ true)
      → count (λ v. not (now v)) (fresh_votes x past kind) ≡ 0
  none_fails past kind now passes =
      let fails : Vote G D → Bool = λ v. not (now v) in
      let fewer : count fails (fresh_votes x past kind) ≤ count fails (eligible_votes x past kind) =
      count-filter_le fails (λ v. not (is_trusted x past v || was_eligible (trials x past) v)) (eligible_votes x past kind) in
      let none : count fails (eligible_votes x past kind) ≡ 0 = by_end (is_certified past kind || is_skipped x.mode) in
      omega (arith, fewer, none)
    where
      open_ones : count (λ v. not (now v))
          (filter (waits_with past) (filter (is_of_kind kind) (first_votes x past)))
          ≡ 0
      open_ones =
          count-filter (λ v. not (now v)) (waits_with past) (filter (is_of_kind kind) (first_votes x past))
          ∙ count-filter (λ v. waits_with past v && not (now v)) (is_of_kind kind) (first_votes x past)
          ∙ none_counts _ (λ v. never (is_of_kind kind v) (waits_with past v) (now v) (passes v)) (first_votes x past)

      by_end : (b : Bool) → count (λ v. not (now v))
          (cond b [] (filter (waits_with past) (filter (is_of_kind kind) (first_votes x past)))) ≡ 0
      by_end true = refl
      by_end false = open_ones

  still_wait : (past : History D K G C) (event : Event D K G C) (kind : Kind)
      → (selected_proposal x (event ∷ past) ≡ selected_proposal x past) ⊎ (kind ≡ Nullification)
      → (v : Vote G D) → is_of_kind kind v ≡ true → waits_with past v ≡ true
      → waits_with (event ∷ past) v ≡ true
  still_wait past event kind (inl same) v is waits =
      ap (λ o. is_eligible x.same_digest o v) same ∙ waits
  still_wait past event kind (inr nullify) v is waits =
      nullify_eligible x.same_digest (selected_proposal x (event ∷ past)) v
      (subst (λ k. is_of_kind k v ≡ true) nullify is)

  pending_grow : (past : History D K G C) (old new : RoundState G D) (event : Event D K G C)
      (kind : Kind) → Represents x past old → Simulates x past old event new
      → GoesOnWaiting x past event kind
      → (more : List (Vote G D))
      × (of_kind new.buffered.pending kind ≡ of_kind old.buffered.pending kind ++ more)
  pending_grow past old new event kind represents simulates on =
      let now = waits_with (event ∷ past) in
      let pending = of_kind old.buffered.pending kind in
      let restored = filter (is_restored x past event) (of_kind old.tracked.kept kind) in
      let added = arrivals x past kind (sent_votes x event.0) in
      let none = none_fails past kind now (still_wait past event kind on.same) in
      let whole = filter_all now pending ((represents.each_kind kind).pending_are (λ v. not (now v)) ∙ none) in
      let left : cond (tries_kind x past event.1 kind) [] pending ≡ pending = rw on.untried refl in (
        filter now restored ++ filter now added,
        simulates.pending_are kind
            ∙ ap (λ l. eligible_among x (event ∷ past) kind (l ++ restored ++ added)) left
            ∙ open_eligible x (event ∷ past) kind (pending ++ restored ++ added) on.unfinished
            ∙ front_kept now pending restored added whole,
      )

  pub verdicts_stay : VerdictsStay x
  verdicts_stay past old new event kind represents simulates on r subject others begins =
      let grown = pending_grow past old new event kind represents simulates on in (
        attestations_of grown.0,
        record {
          about = begins.about;
          listed = ap attestations_of grown.1
              ∙ map-append attestation_of (of_kind old.buffered.pending kind) grown.0
              ∙ ap (λ l. l ++ attestations_of grown.0) begins.listed
              ∙ append_assoc r.list others (attestations_of grown.0);
        },
      )
