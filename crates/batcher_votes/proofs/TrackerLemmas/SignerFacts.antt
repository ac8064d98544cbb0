-- What a tracker shows of a signer, by its entries and the votes that it keeps.
use Rattle.batcher_votes.proofs.Words.{◌≡◌, ◌==◌, ℕ, Bool, true, false, not, cond, nat_eq, List, find, Option, Some, None, refl, ap, arith, nat_tests}
use Rattle.batcher_votes.proofs.Words.{filter_map, slice_get, and_parts, Vote, Kind, Notarization, Nullification, Finalization, Seen, Nothing, Uncompared}
use Rattle.batcher_votes.proofs.Words.{Differs, Matches, Kept, IsAscending, is_some_and, kind_of, signer_of, is_kind, is_of_kind, is_vote_of, PerKind, of_kind}
use Rattle.batcher_votes.proofs.Words.{Facts, Observed, unseen, from_kept, from_facts, observed, is_known, Entry, part, entry_key, facts_seen, facts_part}
use Rattle.batcher_votes.proofs.Words.{facts_among, own_vote, vote_at, kept_part, kept_among, tracked_by, observed_seen, may_say}
use Rattle.batcher_votes.proofs.TrackerLemmas.ShownParts.{Of, shown_by, find-filter_map}

facts_signed : (i : ℕ) (s : Seen) → Of (facts_seen i s) (λ f. f.signer ≡ i)
facts_signed i Nothing = tt
facts_signed i Uncompared = refl
facts_signed i Differs = refl
facts_signed i Matches = refl
facts_signed i (Kept p) = tt

tested_by : (k n : ℕ) (o : Option Facts) → Of o (λ f. f.signer ≡ n)
    → Of o (λ f. nat_eq f.signer k ≡ nat_eq n k)
tested_by k n None same = tt
tested_by k n (Some f) same = ap (λ m. nat_eq m k) same

pub facts_numbered : (kind : Kind) (e : Entry) → Of (facts_part kind e)
    (λ f. f.signer ≡ entry_key e)
facts_numbered kind e = facts_signed e.signer.0 (part kind e)

facts_tested : (k : ℕ) (kind : Kind) (e : Entry)
    → Of (facts_part kind e) (λ f. nat_eq f.signer k ≡ nat_eq (entry_key e) k)
facts_tested k kind e = tested_by k (entry_key e) (facts_part kind e) (facts_numbered kind e)

pub facts_found : (kind : Kind) (k : ℕ) (es : List Entry) → IsAscending entry_key es
    → find (λ f. nat_eq f.signer k) (filter_map (facts_part kind) es)
    ≡ shown_by (facts_part kind) (find (λ e. nat_eq (entry_key e) k) es)
facts_found kind k es up = find-filter_map entry_key (facts_part kind) (λ f. nat_eq f.signer k) k (facts_tested k kind) es up

module _ {G D : Type 0} where
  pub kept_is : (c : PerKind Bool) (votes : PerKind (List (Vote G D))) (es : List Entry)
      (kind : Kind)
      → of_kind (tracked_by c votes es).kept kind
      ≡ kept_among (of_kind c kind) (of_kind votes kind) kind es
  kept_is c votes es Notarization = refl
  kept_is c votes es Nullification = refl
  kept_is c votes es Finalization = refl

  pub facts_is : (c : PerKind Bool) (votes : PerKind (List (Vote G D))) (es : List Entry)
      (kind : Kind)
      → of_kind (tracked_by c votes es).facts kind ≡ facts_among (of_kind c kind) kind es
  facts_is c votes es Notarization = refl
  facts_is c votes es Nullification = refl
  facts_is c votes es Finalization = refl

  -- of an own vote: its kind and its signer
  own_by : (kind : Kind) (i : ℕ) (v : Vote G D) (b : Bool) → is_vote_of kind i v ≡ b
      → Of (cond b (Some v) None) (λ v. is_vote_of kind i v ≡ true)
  own_by kind i v true is = is
  own_by kind i v false is = tt

  own_of : (kind : Kind) (i : ℕ) (o : Option (Vote G D))
      → Of (own_vote kind i o) (λ v. is_vote_of kind i v ≡ true)
  own_of kind i None = tt
  own_of kind i (Some v) = own_by kind i v (is_vote_of kind i v) refl

  of_weaker : (P Q : Vote G D → Type 0) (o : Option (Vote G D)) → ((v : Vote G D) → P v → Q v)
      → Of o P → Of o Q
  of_weaker P Q None w h = tt
  of_weaker P Q (Some v) w h = w v h

  pub signed : (kind : Kind) (i : ℕ) (v : Vote G D) → is_vote_of kind i v ≡ true → signer_of v ≡ i
  signed kind i v own = let same = (and_parts (is_kind (kind_of v) kind) (signer_of v == i) own).1 in grind (arith, nat_tests)

  module _ (votes : List (Vote G D)) where
    pub kept_numbered : (kind : Kind) (e : Entry)
        → Of (kept_part votes kind e) (λ v. signer_of v ≡ entry_key e)
    kept_numbered kind e =
        of_weaker (λ v. is_vote_of kind (entry_key e) v ≡ true) (λ v. signer_of v ≡ entry_key e) (kept_part votes kind e)
        (λ v own. signed kind (entry_key e) v own) (own_of kind (entry_key e) (vote_at votes (part kind e)))

    pub kept_kinded : (kind : Kind) (e : Entry)
        → Of (kept_part votes kind e) (λ v. is_of_kind kind v ≡ true)
    kept_kinded kind e =
        of_weaker (λ v. is_vote_of kind (entry_key e) v ≡ true) (λ v. is_of_kind kind v ≡ true) (kept_part votes kind e)
        (λ v own. (and_parts (is_kind (kind_of v) kind) (signer_of v == entry_key e) own).0) (own_of kind (entry_key e) (vote_at votes (part kind e)))

    tested_so : (k : ℕ) (kind : Kind) (i : ℕ) (v : Vote G D) → is_vote_of kind i v ≡ true
        → is_vote_of kind k v ≡ nat_eq i k
    tested_so k kind i v own =
        let both = and_parts (is_kind (kind_of v) kind) (signer_of v == i) own in
        rw both.0 (ap (λ n. nat_eq n k) (signed kind i v own))

    kept_tested : (k : ℕ) (kind : Kind) (e : Entry)
        → Of (kept_part votes kind e) (λ v. is_vote_of kind k v ≡ nat_eq (entry_key e) k)
    kept_tested k kind e =
        of_weaker (λ v. is_vote_of kind (entry_key e) v ≡ true) (λ v. is_vote_of kind k v ≡ nat_eq (entry_key e) k) (kept_part votes kind e)
        (λ v own. tested_so k kind (entry_key e) v own) (own_of kind (entry_key e) (vote_at votes (part kind e)))

    pub kept_found : (kind : Kind) (k : ℕ) (es : List Entry) → IsAscending entry_key es
        → find (is_vote_of kind k) (filter_map (kept_part votes kind) es)
        ≡ shown_by (kept_part votes kind) (find (λ e. nat_eq (entry_key e) k) es)
    kept_found kind k es up = find-filter_map entry_key (kept_part votes kind) (is_vote_of kind k) k (kept_tested k kind) es up

    -- what is known of a signer by its entry, of a kind that is compacted or isn't
    abbrev pub observed_by : Bool → Kind → Option Entry → Observed G D
    observed_by true kind o = from_facts (shown_by (facts_part kind) o)
    observed_by false kind o = from_kept (shown_by (kept_part votes kind) o)

    observed_among : (b : Bool) (kind : Kind) (k : ℕ) (es : List Entry) → IsAscending entry_key es
        → cond b (from_facts (find (λ f. nat_eq f.signer k) (facts_among b kind es)))
        (from_kept (find (is_vote_of kind k) (kept_among b votes kind es)))
        ≡ observed_by b kind (find (λ e. nat_eq (entry_key e) k) es)
    observed_among true kind k es up = ap from_facts (facts_found kind k es up)
    observed_among false kind k es up = ap from_kept (kept_found kind k es up)

    -- An entry that may be there shows the vote at its place.
    own_same : (kind : Kind) (i : ℕ) (o : Option (Vote G D))
        → is_some_and o (is_vote_of kind i) ≡ true
        → own_vote kind i o ≡ o
    own_same kind i None h = absurd (cc)
    own_same kind i (Some v) h = rw h

    pub kept_says : (b : Bool) (kind : Kind) (i : ℕ) (s : Seen) → may_say b kind votes i s ≡ true
        → own_vote kind i (vote_at votes s) ≡ vote_at votes s
    kept_says b kind i Nothing h = refl
    kept_says b kind i Uncompared h = refl
    kept_says b kind i Differs h = refl
    kept_says b kind i Matches h = refl
    kept_says b kind i (Kept p) h = own_same kind i (slice_get votes p) (and_parts (not b) (is_some_and (slice_get votes p) (is_vote_of kind i)) h).1

    pub no_vote : (kind : Kind) (i : ℕ) (s : Seen) → may_say true kind votes i s ≡ true
        → vote_at votes s ≡ None
    no_vote kind i Nothing h = refl
    no_vote kind i Uncompared h = refl
    no_vote kind i Differs h = refl
    no_vote kind i Matches h = refl
    no_vote kind i (Kept p) h = absurd (cc)

    pub observed_says : (b : Bool) (kind : Kind) (e : Entry)
        → may_say b kind votes (entry_key e) (part kind e) ≡ true
        → observed_by b kind (Some e) ≡ observed_seen (entry_key e) votes (part kind e)
    observed_says true kind e h = facts_says (part kind e) h where
      facts_says : (s : Seen) → may_say true kind votes (entry_key e) s ≡ true
          → from_facts (facts_seen (entry_key e) s) ≡ observed_seen (entry_key e) votes s
      facts_says Nothing h = refl
      facts_says Uncompared h = refl
      facts_says Differs h = refl
      facts_says Matches h = refl
      facts_says (Kept p) h = absurd (cc)
    observed_says false kind e h = rw (kept_says false kind (entry_key e) (part kind e) h) (vote_says (part kind e) h) where
      vote_says : (s : Seen) → may_say false kind votes (entry_key e) s ≡ true
          → from_kept (vote_at votes s) ≡ observed_seen (entry_key e) votes s
      vote_says Nothing h = refl
      vote_says Uncompared h = absurd (cc)
      vote_says Differs h = absurd (cc)
      vote_says Matches h = absurd (cc)
      vote_says (Kept p) h = refl

  pub observed_is : (c : PerKind Bool) (votes : PerKind (List (Vote G D))) (es : List Entry)
      (kind : Kind) (k : ℕ) → IsAscending entry_key es → observed (tracked_by c votes es) kind k
      ≡ observed_by (of_kind votes kind) (of_kind c kind) kind
      (find (λ e. nat_eq (entry_key e) k) es)
  observed_is c votes es kind k up =
      rw (kept_is c votes es kind, facts_is c votes es kind) (observed_among (of_kind votes kind) (of_kind c kind) kind k es up)

  pub nothing_by : (votes : List (Vote G D)) (b : Bool) (kind : Kind)
      → observed_by votes b kind None ≡ unseen
  nothing_by votes true kind = refl
  nothing_by votes false kind = refl

  pub unknown : (c : PerKind Bool) (votes : PerKind (List (Vote G D))) (es : List Entry) (k : ℕ)
      → IsAscending entry_key es → find (λ x. nat_eq (entry_key x) k) es ≡ None
      → is_known (tracked_by c votes es) k ≡ false
  unknown c votes es k up absent =
      rw (
        observed_is c votes es Notarization k up,
        observed_is c votes es Nullification k up,
        observed_is c votes es Finalization k up,
        absent,
        nothing_by votes.notarize c.notarize Notarization,
        nothing_by votes.nullify c.nullify Nullification,
        nothing_by votes.finalize c.finalize Finalization,
      )
