-- What is known of a kind's signers once it is released. At an event that casts nothing and
-- releases the kind, the facts of a first
-- vote's signer are those of the vote, compared with the selected proposal: `released_facts`, and
-- `released_map` for all of them.
-- released_facts : is_released x past kind ≡ false → is_released x (event ∷ past) kind ≡ true →
-- cast_votes x event.0 ≡ []
-- → (has_proposals kind ≡ true → is_some (selected_proposal x (event ∷ past)) ≡ true) → first_vote
-- x past kind (signer_of v) ≡ Some v
-- → facts_of x (event ∷ past) kind (signer_of v) ≡ facts_of_kept x.same_digest (selected_proposal x
-- (event ∷ past)) v
-- `tracks_release` says so of all that is tracked after `ReleasesKind`, and `tracks_stay` where
-- nothing is certified.
use Rattle.batcher_histories.proofs.Words.{◌≡◌, ℕ, Bool, true, false, not, cond, ◌&&◌, ◌||◌, List, [], ◌∷◌, ◌++◌, map, Option, Some, None, refl, ap, sym, ◌∙◌}
use Rattle.batcher_histories.proofs.Words.{⊎_elim, subst, filter, is_some, is_none, All, list_any, cases_Bool, and_parts, eqb-true, All-nil, All-cons, All-head}
use Rattle.batcher_histories.proofs.Words.{All-tail, All-weaker, filter_passes, append-nil, Proposal, Vote, Kind, Mode, Retaining, Releasing, Skipped, Config}
use Rattle.batcher_histories.proofs.Words.{All-ordered, is_some_and, is_empty, kind_of, signer_of, has_proposals, is_of_kind, is_vote_of, is_for, none_both}
use Rattle.batcher_histories.proofs.Words.{filter_again, map_same, is_kind-true, of_kind, Facts, TrackerState, RoundState, is_released_in, no_facts}
use Rattle.batcher_histories.proofs.Words.{facts_of_kept, ReleasesKind, Event, History, cast_votes, first_votes, first_vote, opposite_vote, selected_proposal}
use Rattle.batcher_histories.proofs.Words.{is_certified, is_released, compared_votes_of, is_compared, is_compared_at_release, facts_of, Represents}
use Rattle.batcher_histories.proofs.Words.{first_by_signer}
use Rattle.batcher_histories.proofs.History.Distinct.{AreApart, IsAt, vote_at, found_behind, found_is_of, firsts_apart, found_here}
use Rattle.batcher_histories.proofs.Simulation.Frame.{released_same, MovesKind, compared_parts, facts_same, first_by_same}
use Rattle.batcher_histories.proofs.KnownLemmas.Named.{uncompared_pair, unreleased_pair}

-- what releases a kind stays
released_less : (mode : Mode) (now before : Bool) → is_released_in mode (now || before) ≡ false
    → is_released_in mode before ≡ false
released_less Retaining now before h = refl
released_less Releasing true before h = absurd (cc)
released_less Releasing false before h = h
released_less Skipped now before h = h

at_release : (h r s : Bool) → r ≡ false → s ≡ true → (h && (not r && s)) ≡ h
at_release true r s e f = rw (e, f) refl
at_release false r s e f = refl

map_where : {X Y : Type 0} (f g : X → Y) (xs : List X) → All (λ v. f v ≡ g v) xs → map f xs
    ≡ map g xs
map_where f g [] same = refl
map_where {Y = Y} f g (x ∷ xs) same =
    ap (λ (y : Y). y ∷ map f xs) (All-head (λ v. f v ≡ g v) x xs same) ∙ ap (λ (ys : List Y). g x ∷ ys) (map_where f g xs (All-tail (λ v. f v ≡ g v) x xs same))

module _ {G D : Type 0} where
  none_at : (vs : List (Vote G D)) (kind : Kind) (i : ℕ) → vote_at vs kind i ≡ None
      → filter (is_vote_of kind i) vs ≡ []
  none_at [] kind i h = refl
  none_at (v ∷ vs) kind i h =
      ⊎_elim
      (λ here. let no : Some v ≡ None = subst (λ (b : Bool). cond b (Some v) (vote_at vs kind i) ≡ None) here h in cc)
      (λ other.
      let rest : vote_at vs kind i ≡ None = subst (λ (b : Bool). cond b (Some v) (vote_at vs kind i) ≡ None) other h in
      let gone : filter (is_vote_of kind i) (v ∷ vs) ≡ filter (is_vote_of kind i) vs = rw other refl in
      gone ∙ none_at vs kind i rest)
      (cases_Bool (is_vote_of kind i v))

  -- among votes apart there is one of a kind and signer
  one_at : (vs : List (Vote G D)) (kind : Kind) (i : ℕ) (w : Vote G D) → AreApart vs
      → vote_at vs kind i ≡ Some w → filter (is_vote_of kind i) vs ≡ w ∷ []
  one_at [] kind i w apart h = cc
  one_at (v ∷ vs) kind i w apart h =
      ⊎_elim
      (λ here.
      let k : kind_of v ≡ kind = is_kind-true _ _ (and_parts _ _ here).0 in
      let s : signer_of v ≡ i = eqb-true _ _ (and_parts _ _ here).1 in
      let behind : vote_at vs kind i ≡ None = subst (λ (j : ℕ). vote_at vs kind j ≡ None) s (subst (λ (l : Kind). vote_at vs l (signer_of v) ≡ None) k apart.0)
      in
      let found : Some v ≡ Some w = subst (λ (b : Bool). cond b (Some v) (vote_at vs kind i) ≡ Some w) here h in
      let same : v ≡ w = cc in
      let kept : filter (is_vote_of kind i) (v ∷ vs) ≡ v ∷ filter (is_vote_of kind i) vs = rw here refl in
      kept ∙ (ap (λ (us : List (Vote G D)). v ∷ us) (none_at vs kind i behind) ∙ ap (λ (u : Vote G D). u ∷ []) same))
      (λ other.
      let rest : vote_at vs kind i ≡ Some w = subst (λ (b : Bool). cond b (Some v) (vote_at vs kind i) ≡ Some w) other h in
      let gone : filter (is_vote_of kind i) (v ∷ vs) ≡ filter (is_vote_of kind i) vs = rw other refl in
      gone ∙ one_at vs kind i w apart.1 rest)
      (cases_Bool (is_vote_of kind i v))

  -- each of them is the one of its kind and signer
  each_found : (vs : List (Vote G D)) → AreApart vs → All (IsAt vs) vs
  each_found [] apart = All-nil (IsAt [])
  each_found (v ∷ vs) apart =
      All-cons (IsAt (v ∷ vs)) v vs (found_here v vs)
      (All-weaker (IsAt vs) (IsAt (v ∷ vs)) (λ w found. found_behind v vs w apart.0 found) vs (each_found vs apart.1))

module _ {D K G C : Type 0} (x : Config D K G C) where
  -- Of a kind that isn't released nothing was compared.
  pub none_released : (past : History D K G C) (kind : Kind) (i : ℕ) → is_released x past kind
      ≡ false → compared_votes_of x past kind i ≡ []
  none_released [] kind i unreleased = refl
  none_released (event ∷ past) kind i unreleased =
      compared_parts x past event kind i
      ∙ (ap (λ vs. vs ++ (filter (is_vote_of kind i) (filter (is_compared_at_release x past event) (first_votes x past)) ++ compared_votes_of x past kind i))
      none_cast
      ∙ (ap (λ vs. vs ++ compared_votes_of x past kind i) none_now ∙ none_released past kind i before))
    where
      before : is_released x past kind ≡ false
      before = released_less x.mode _ (is_certified past kind) unreleased

      none_cast : filter (is_vote_of kind i)
          (filter (is_compared x past event) (cast_votes x event.0)) ≡ []
      none_cast =
          none_both (is_vote_of kind i) (is_compared x past event) (cast_votes x event.0)
          (λ v of.
          let k : kind_of v ≡ kind = is_kind-true _ _ (and_parts _ _ of).0 in
          uncompared_pair (has_proposals (kind_of v)) (is_released x past (kind_of v)) (is_some (selected_proposal x (event ∷ past)))
          (is_none (opposite_vote x past v)) (λ _. ap (is_released x past) k ∙ before))

      none_now : filter (is_vote_of kind i)
          (filter (is_compared_at_release x past event) (first_votes x past)) ≡ []
      none_now =
          none_both (is_vote_of kind i) (is_compared_at_release x past event) (first_votes x past)
          (λ v of.
          let k : kind_of v ≡ kind = is_kind-true _ _ (and_parts _ _ of).0 in
          unreleased_pair (has_proposals (kind_of v)) (not (is_released x past (kind_of v))) (is_released x (event ∷ past) (kind_of v))
          (λ _. ap (is_released x (event ∷ past)) k ∙ unreleased))

module _ {D K G C : Type 0} (x : Config D K G C) (past : History D K G C) (event : Event D K G C)
    (kind : Kind) (unreleased : is_released x past kind ≡ false)
    (released : is_released x (event ∷ past) kind ≡ true) (casts : cast_votes x event.0 ≡ []) where
  released_only : (i : ℕ) → compared_votes_of x (event ∷ past) kind i
      ≡ filter (is_vote_of kind i) (filter (is_compared_at_release x past event)
      (first_votes x past))
  released_only i =
      compared_parts x past event kind i
      ∙ (ap (λ vs. filter (is_vote_of kind i) (filter (is_compared x past event) vs)
      ++ (filter (is_vote_of kind i) (filter (is_compared_at_release x past event) (first_votes x past)) ++ compared_votes_of x past kind i)) casts
      ∙ (ap (λ vs. filter (is_vote_of kind i) (filter (is_compared_at_release x past event) (first_votes x past)) ++ vs)
      (none_released x past kind i unreleased)
      ∙ append-nil (filter (is_vote_of kind i) (filter (is_compared_at_release x past event) (first_votes x past)))))

  compares : (v : Vote G D) → kind_of v ≡ kind → is_compared_at_release x past event v
      ≡ has_proposals kind
  compares v k =
      at_release (has_proposals (kind_of v)) (is_released x past (kind_of v)) (is_released x (event ∷ past) (kind_of v))
      (ap (is_released x past) k ∙ unreleased) (ap (is_released x (event ∷ past)) k ∙ released)
      ∙ ap has_proposals k

  -- votes with proposals are compared at the release, and nullifies never
  compared_now : (v : Vote G D) → has_proposals kind ≡ true → first_vote x past kind (signer_of v)
      ≡ Some v → compared_votes_of x (event ∷ past) kind (signer_of v) ≡ v ∷ []
  compared_now v has found =
      released_only (signer_of v)
      ∙ (filter_again (is_vote_of kind (signer_of v)) (is_compared_at_release x past event) (first_votes x past)
      (λ w of. compares w (is_kind-true _ _ (and_parts _ _ of).0) ∙ has)
      ∙ one_at (first_votes x past) kind (signer_of v) v (firsts_apart x past) found)

  compared_never : (i : ℕ) → has_proposals kind ≡ false → compared_votes_of x (event ∷ past) kind i
      ≡ []
  compared_never i has =
      released_only i
      ∙ none_both (is_vote_of kind i) (is_compared_at_release x past event) (first_votes x past)
      (λ w of. compares w (is_kind-true _ _ (and_parts _ _ of).0) ∙ has)

  abbrev facts_by : ℕ → Option (Proposal D) → List (Vote G D) → Facts
  facts_by i selected votes =
      record {
        signer = i;
        has_compared = not (is_empty votes);
        has_matched = is_some_and selected
            (λ p. list_any (is_for x.same_digest p) votes);
      }

  facts_with_one : (v : Vote G D) (selected : Option (Proposal D)) → has_proposals (kind_of v)
      ≡ true → is_some selected ≡ true → facts_by (signer_of v) selected (v ∷ [])
      ≡ facts_of_kept x.same_digest selected v
  facts_with_one v None has some = cc
  facts_with_one v (Some p) has some =
      ap (λ b. cond b (facts_by (signer_of v) (Some p) (v ∷ [])) (no_facts (signer_of v))) (sym has)

  facts_without : (v : Vote G D) (selected : Option (Proposal D)) → has_proposals (kind_of v)
      ≡ false → facts_by (signer_of v) selected [] ≡ facts_of_kept x.same_digest selected v
  facts_without v None has = refl
  facts_without v (Some p) has =
      ap (λ b. cond b (facts_by (signer_of v) (Some p) (v ∷ [])) (no_facts (signer_of v))) (sym has)

  -- The facts of a first vote's signer are those of the vote.
  pub released_facts : (has_proposals kind ≡ true → is_some (selected_proposal x (event ∷ past))
      ≡ true) → (v : Vote G D) → first_vote x past kind (signer_of v) ≡ Some v →
      facts_of x (event ∷ past) kind (signer_of v)
      ≡ facts_of_kept x.same_digest (selected_proposal x (event ∷ past)) v
  released_facts selected v found =
      let k : kind_of v ≡ kind = is_kind-true _ _ (and_parts _ _ (found_is_of (first_votes x past) kind (signer_of v) v found)).0 in
      ⊎_elim
      (λ has. ap (facts_by (signer_of v) (selected_proposal x (event ∷ past))) (compared_now v has found)
      ∙ facts_with_one v (selected_proposal x (event ∷ past)) (ap has_proposals k ∙ has) (selected has))
      (λ has. ap (facts_by (signer_of v) (selected_proposal x (event ∷ past))) (compared_never (signer_of v) has)
      ∙ facts_without v (selected_proposal x (event ∷ past)) (ap has_proposals k ∙ has))
      (cases_Bool (has_proposals kind))

  found_of_kind : (v : Vote G D) → is_of_kind kind v ≡ true → IsAt (first_votes x past) v
      → first_vote x past kind (signer_of v) ≡ Some v
  found_of_kind v of found = subst (λ (l : Kind). first_vote x past l (signer_of v) ≡ Some v) (is_kind-true (kind_of v) kind of) found

  abbrev agrees : Vote G D → Type 0
  agrees v = facts_of x (event ∷ past) kind (signer_of v) ≡ facts_of_kept x.same_digest (selected_proposal x (event ∷ past)) v

  -- and so for all first votes of the kind
  pub released_map : (has_proposals kind ≡ true → is_some (selected_proposal x (event ∷ past))
      ≡ true) →
      map (λ v. facts_of x (event ∷ past) kind (signer_of v)) (first_by_signer x past kind)
      ≡ map (facts_of_kept x.same_digest (selected_proposal x (event ∷ past)))
      (first_by_signer x past kind)
  released_map selected =
      map_where (λ v. facts_of x (event ∷ past) kind (signer_of v)) (facts_of_kept x.same_digest (selected_proposal x (event ∷ past)))
      (first_by_signer x past kind)
      (All-ordered signer_of agrees (filter (is_of_kind kind) (first_votes x past))
      (both_filtered (first_votes x past) (each_found (first_votes x past) (firsts_apart x past))))
    where
      both_filtered : (vs : List (Vote G D)) → All (IsAt (first_votes x past)) vs
          → All agrees (filter (is_of_kind kind) vs)
      both_filtered [] all = All-nil agrees
      both_filtered (v ∷ vs) all =
          let rest = both_filtered vs (All-tail (IsAt (first_votes x past)) v vs all) in
          ⊎_elim
          (λ of.
          let kept : filter (is_of_kind kind) (v ∷ vs) ≡ v ∷ filter (is_of_kind kind) vs = rw of refl in
          subst (λ (us : List (Vote G D)). All agrees us) (sym kept)
          (All-cons agrees v (filter (is_of_kind kind) vs) (released_facts selected v (found_of_kind v of (All-head (IsAt (first_votes x past)) v vs all)))
          rest))
          (λ other.
          let gone : filter (is_of_kind kind) (v ∷ vs) ≡ filter (is_of_kind kind) vs = rw other refl in
          subst (λ (us : List (Vote G D)). All agrees us) (sym gone) rest)
          (cases_Bool (is_of_kind kind v))

-- WHAT A CERTIFICATE CHANGES OF WHAT IS TRACKED
released_either : (mode : Mode) (now before : Bool)
    → ((now && is_released_in mode true) || is_released_in mode before)
    ≡ is_released_in mode (now || before)
released_either Retaining true before = refl
released_either Retaining false before = refl
released_either Releasing true before = refl
released_either Releasing false before = refl
released_either Skipped true before = refl
released_either Skipped false before = refl

released_more : (mode : Mode) (now before : Bool) → is_released_in mode before ≡ true
    → is_released_in mode (now || before) ≡ true
released_more Retaining now before h = h
released_more Releasing true before h = refl
released_more Releasing false before h = h
released_more Skipped now before h = refl

released_by : (mode : Mode) (now before : Bool) → is_released_in mode before ≡ false
    → is_released_in mode (now || before) ≡ true → now ≡ true
released_by mode true before h after = refl
released_by mode false before h after = absurd (cc)

kept_once : {X : Type 0} (after before : Bool) (xs : List X) → (before ≡ true → after ≡ true)
    → cond after [] (cond before [] xs) ≡ cond after [] xs
kept_once true before xs stays = refl
kept_once false true xs stays = absurd (let no : false ≡ true = stays refl in cc)
kept_once false false xs stays = refl

unproposed_facts : {G D : Type 0} (same : D → D → Bool) (selected : Option (Proposal D))
    (v : Vote G D) → has_proposals (kind_of v) ≡ false → facts_of_kept same selected v
    ≡ no_facts (signer_of v)
unproposed_facts same None v h = refl
unproposed_facts same (Some p) v h =
    ap (λ b. cond b (record { signer = signer_of v; has_compared = true; has_matched = is_for same p v || false }) (no_facts (signer_of v))) h

module _ {D K G C : Type 0} (x : Config D K G C) where
  -- what is tracked of a kind after an event
  pub record TracksKind (past : History D K G C) (event : Event D K G C) (new : TrackerState G D)
      (kind : Kind) : Type 0 where
    pub compacted_is : of_kind new.compacted kind ≡ is_released x (event ∷ past) kind
    pub kept_are : of_kind new.kept kind
        ≡ cond (is_released x (event ∷ past) kind) [] (first_by_signer x (event ∷ past) kind)
    pub facts_are :
        of_kind new.facts kind
        ≡ cond (is_released x (event ∷ past) kind)
        (map (λ v. facts_of x (event ∷ past) kind (signer_of v))
        (first_by_signer x (event ∷ past) kind)) []

  pub moves_tracked : (past : History D K G C) (event : Event D K G C) (new : RoundState G D)
      (kind : Kind) → of_kind new.buffered.certified kind ≡ is_certified (event ∷ past) kind
      → TracksKind past event new.tracked kind →
      MovesKind x past event new kind
  moves_tracked past event new kind certified tracks =
      record {
        certified_is = certified;
        compacted_is = tracks.compacted_is;
        kept_are = tracks.kept_are;
        facts_are = tracks.facts_are;
      }

  -- of a kind without proposals any selection gives the same facts
  unproposed_map : (past : History D K G C) (kind : Kind) (a b : Option (Proposal D))
      → has_proposals kind ≡ false →
      map (facts_of_kept x.same_digest a) (first_by_signer x past kind)
      ≡ map (facts_of_kept x.same_digest b) (first_by_signer x past kind)
  unproposed_map past kind a b has =
      map_where (facts_of_kept x.same_digest a) (facts_of_kept x.same_digest b) (first_by_signer x past kind)
      (All-weaker (λ v. is_of_kind kind v ≡ true) (λ v. facts_of_kept x.same_digest a v ≡ facts_of_kept x.same_digest b v)
      (λ v of.
      let none : has_proposals (kind_of v) ≡ false = ap has_proposals (is_kind-true (kind_of v) kind of) ∙ has in
      unproposed_facts x.same_digest a v none ∙ sym (unproposed_facts x.same_digest b v none))
      (first_by_signer x past kind)
      (All-ordered signer_of (λ v. is_of_kind kind v ≡ true) (filter (is_of_kind kind) (first_votes x past))
      (filter_passes (is_of_kind kind) (first_votes x past))))

-- An event casts nothing, and certifies the kind where `now` is true; it is released as the mode
-- says, with the selected proposal.
module _ {D K G C : Type 0} (x : Config D K G C) (past : History D K G C) (event : Event D K G C)
    (casts : cast_votes x event.0 ≡ []) (old : RoundState G D) (represents : Represents x past old)
    (new : TrackerState G D) (proposal : Option (Proposal D)) (now : Bool) (kind : Kind)
    (certified : is_certified (event ∷ past) kind ≡ (now || is_certified past kind))
    (releases : ReleasesKind x.same_digest old.tracked new proposal
    (now && is_released_in x.mode true) kind)
    (selects : now ≡ true → has_proposals kind ≡ true
    → (is_some (selected_proposal x (event ∷ past)) ≡ true)
    × (proposal ≡ selected_proposal x (event ∷ past))) where
  released_is : is_released x (event ∷ past) kind
      ≡ is_released_in x.mode (now || is_certified past kind)
  released_is = ap (is_released_in x.mode) certified

  released_stays : is_released x past kind ≡ true → is_released x (event ∷ past) kind ≡ true
  released_stays h = released_is ∙ released_more x.mode now (is_certified past kind) h

  compacts : of_kind new.compacted kind ≡ is_released x (event ∷ past) kind
  compacts =
      releases.compacted
      ∙ (ap (λ c. (now && is_released_in x.mode true) || c) (represents.each_kind kind).compacted_is
      ∙ (released_either x.mode now (is_certified past kind) ∙ sym released_is))

  keeps : of_kind new.kept kind ≡ cond (is_released x (event ∷ past) kind) []
      (first_by_signer x (event ∷ past) kind)
  keeps =
      releases.kept
      ∙ (ap (λ c. cond c [] (of_kind old.tracked.kept kind)) compacts
      ∙ (ap (λ vs. cond (is_released x (event ∷ past) kind) [] vs) (represents.each_kind kind).kept_are
      ∙ (kept_once (is_released x (event ∷ past) kind) (is_released x past kind) (first_by_signer x past kind) released_stays
      ∙ ap (λ vs. cond (is_released x (event ∷ past) kind) [] vs) (sym (first_by_same x past event casts kind)))))

  abbrev facts_now : List Facts
  facts_now = map (λ v. facts_of x (event ∷ past) kind (signer_of v)) (first_by_signer x past kind)

  facts_before : is_released x past kind ≡ true → of_kind new.facts kind
      ≡ cond (is_released x (event ∷ past) kind) facts_now []
  facts_before was =
      releases.facts
      ∙ (ap (λ c. cond c (of_kind old.tracked.facts kind)
      (cond (of_kind new.compacted kind) (map (facts_of_kept x.same_digest proposal) (of_kind old.tracked.kept kind)) []))
      ((represents.each_kind kind).compacted_is ∙ was)
      ∙ ((represents.each_kind kind).facts_are
      ∙ (ap (λ c. cond c (map (λ v. facts_of x past kind (signer_of v)) (first_by_signer x past kind)) []) was
      ∙ (map_same (λ v. facts_of x past kind (signer_of v)) (λ v. facts_of x (event ∷ past) kind (signer_of v)) (first_by_signer x past kind)
      (λ v. sym (facts_same x past event casts kind (signer_of v) (released_stays was ∙ sym was)))
      ∙ ap (λ c. cond c facts_now []) (sym (released_stays was))))))

  kept_facts : is_released x past kind ≡ false → is_released x (event ∷ past) kind ≡ true
      → map (facts_of_kept x.same_digest proposal) (first_by_signer x past kind) ≡ facts_now
  kept_facts was is =
      let at : now ≡ true = released_by x.mode now (is_certified past kind) was (sym released_is ∙ is) in
      ⊎_elim
      (λ has. ap (λ o. map (facts_of_kept x.same_digest o) (first_by_signer x past kind)) (selects at has).1)
      (λ none. unproposed_map x past kind proposal (selected_proposal x (event ∷ past)) none)
      (cases_Bool (has_proposals kind))
      ∙ sym (released_map x past event kind was is casts (λ has. (selects at has).0))

  facts_after : is_released x past kind ≡ false → of_kind new.facts kind
      ≡ cond (is_released x (event ∷ past) kind) facts_now []
  facts_after was =
      releases.facts
      ∙ (ap (λ c. cond c (of_kind old.tracked.facts kind)
      (cond (of_kind new.compacted kind) (map (facts_of_kept x.same_digest proposal) (of_kind old.tracked.kept kind)) []))
      ((represents.each_kind kind).compacted_is ∙ was)
      ∙ (ap (λ c. cond c (map (facts_of_kept x.same_digest proposal) (of_kind old.tracked.kept kind)) []) compacts
      ∙ (ap (λ vs. cond (is_released x (event ∷ past) kind) (map (facts_of_kept x.same_digest proposal) vs) [])
      ((represents.each_kind kind).kept_are ∙ ap (λ c. cond c [] (first_by_signer x past kind)) was)
      ∙ by_test (is_released x (event ∷ past) kind) refl)))
    where
      by_test : (b : Bool) → is_released x (event ∷ past) kind ≡ b
          → cond b (map (facts_of_kept x.same_digest proposal) (first_by_signer x past kind)) []
          ≡ cond b facts_now []
      by_test true e = kept_facts was e
      by_test false e = refl

  -- What is tracked of a kind is what the longer history names.
  pub tracks_release : TracksKind x past event new kind
  tracks_release =
      record {
        compacted_is = compacts;
        kept_are = keeps;
        facts_are =
            ⊎_elim facts_before facts_after (cases_Bool (is_released x past kind))
            ∙ ap (λ vs. cond (is_released x (event ∷ past) kind) (map (λ v. facts_of x (event ∷ past) kind (signer_of v)) vs) [])
            (sym (first_by_same x past event casts kind));
      }

-- An event that casts nothing and doesn't certify the kind leaves what is tracked of it.
module _ {D K G C : Type 0} (x : Config D K G C) (past : History D K G C) (event : Event D K G C)
    (casts : cast_votes x event.0 ≡ []) (old : RoundState G D) (represents : Represents x past old) (kind : Kind)
    (certified : is_certified (event ∷ past) kind ≡ is_certified past kind) where
  released_alike : is_released x past kind ≡ is_released x (event ∷ past) kind
  released_alike = sym (released_same x past event kind certified)

  facts_alike : map (λ v. facts_of x past kind (signer_of v)) (first_by_signer x past kind)
      ≡ map (λ v. facts_of x (event ∷ past) kind (signer_of v))
      (first_by_signer x (event ∷ past) kind)
  facts_alike =
      map_same (λ v. facts_of x past kind (signer_of v)) (λ v. facts_of x (event ∷ past) kind (signer_of v)) (first_by_signer x past kind)
      (λ v. sym (facts_same x past event casts kind (signer_of v) (released_same x past event kind certified)))
      ∙ ap (map (λ v. facts_of x (event ∷ past) kind (signer_of v))) (sym (first_by_same x past event casts kind))

  pub tracks_stay : TracksKind x past event old.tracked kind
  tracks_stay =
      record {
        compacted_is = (represents.each_kind kind).compacted_is ∙ released_alike;
        kept_are =
            (represents.each_kind kind).kept_are
            ∙ (ap (λ b. cond b [] (first_by_signer x past kind)) released_alike
            ∙ ap (λ vs. cond (is_released x (event ∷ past) kind) [] vs) (sym (first_by_same x past event casts kind)));
        facts_are =
            (represents.each_kind kind).facts_are
            ∙ (ap (λ b. cond b (map (λ v. facts_of x past kind (signer_of v)) (first_by_signer x past kind)) []) released_alike
            ∙ ap (λ fs. cond (is_released x (event ∷ past) kind) fs []) facts_alike);
      }
