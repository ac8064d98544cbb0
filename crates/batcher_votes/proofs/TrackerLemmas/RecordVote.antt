-- What recording a vote changes of what a tracker shows, by its entries and the votes that it keeps.
use Rattle.batcher_votes.proofs.Words.{◌≡◌, ◌<◌, ◌∙◌, ◌+◌, ◌^◌, ℕ, suc, zero, Bool, true, false, not, cond, nat_eq, nat_lt, ◌&&◌, ◌||◌, List, [], ◌∷◌, ◌++◌}
use Rattle.batcher_votes.proofs.Words.{length, get_or, set, find, Option, Some, None, Result, Ok, Err, is_some, map, refl, ap, sym, subst, arith, length-append}
use Rattle.batcher_votes.proofs.Words.{AllByRecursion, AllPass, filter_map, slice_get, IfErr, and_parts, eq-eqb, Participant, Proposal, Vote, NotarizeVote}
use Rattle.batcher_votes.proofs.Words.{NullifyVote, FinalizeVote, Kind, Notarization, Nullification, Finalization, Seen, Nothing, Uncompared, Differs, Matches}
use Rattle.batcher_votes.proofs.Words.{Kept, Added, Duplicate, IsAscending, insert_by, place_of, is_some_and, exactly_one, rec_from_all, all_from_rec}
use Rattle.batcher_votes.proofs.Words.{rec_weaker, kind_of, attestation_of, signer_of, is_kind, is_of_kind, is_vote_of, has_proposals, same_proposal, is_for}
use Rattle.batcher_votes.proofs.Words.{PerKind, of_kind, for_each, Facts, TrackerState, from_kept, is_seen, is_known, observed, kept_vote, no_facts, facts_with}
use Rattle.batcher_votes.proofs.Words.{facts_of_kept, recorded_facts, RecordsKind, outcome_by, outcome_of, Entry, part, with_part, nothing_seen, entry_key}
use Rattle.batcher_votes.proofs.Words.{seen_in, entry_or_new, put_by, entries_with, is_any, has_index, compared, seen_outcome, facts_seen, facts_part}
use Rattle.batcher_votes.proofs.Words.{facts_among, with_vote, own_vote, vote_at, kept_part, kept_among, tracked_by, observed_seen, may_say, Fits, IsTracked}
use Rattle.batcher_votes.proofs.Words.{tested, found_key, place_item, place_below, place_absent}
use Rattle.batcher_votes.proofs.TrackerLemmas.ShownParts.{Of, shown_by}
use Rattle.batcher_votes.proofs.TrackerLemmas.PutEntry.{put_there, put_new, Puts, puts, All-put, of_old, passes, count-put, filter_map-put_same}
use Rattle.batcher_votes.proofs.TrackerLemmas.PutEntry.{filter_map-put_new, filter_map-put_changed}
use Rattle.batcher_votes.proofs.TrackerLemmas.SignerFacts.{facts_numbered, facts_found, kept_numbered, kept_is, facts_is, observed_by, observed_is}
use Rattle.batcher_votes.proofs.TrackerLemmas.SignerFacts.{observed_says, nothing_by, kept_found, kept_says, no_vote, unknown}

-- what holds of all elements holds of one that is found
pub found_passes : {E : Type 0} (key : E → ℕ) (P : E → Type 0) (es : List E) (i : ℕ) (x : E)
    → AllByRecursion P es → find (λ e. nat_eq (key e) i) es ≡ Some x → P x
found_passes key P [] i x h found = absurd (cc)
found_passes key P (e ∷ es) i x h found = found_cons (nat_eq (key e) i) (found_passes key P es i x h.1) found where
  found_cons : (b : Bool) → (find (λ e. nat_eq (key e) i) es ≡ Some x → P x)
      → cond b (Some e) (find (λ e. nat_eq (key e) i) es) ≡ Some x → P x
  found_cons true rest is = let one : e ≡ x = cc in subst P one h.0
  found_cons false rest is = rest is

-- the facts, or those of a signer of whom nothing was seen
abbrev pub known : ℕ → Option Facts → Facts
known i None = no_facts i
known i (Some facts) = facts

-- the facts with one more vote that was compared, or wasn't
abbrev pub with_compared : Option Bool → Facts → Facts
with_compared None facts = facts
with_compared (Some is_for) facts = record facts { has_compared = true; has_matched = is_for || facts.has_matched }

pub compared_facts : (i : ℕ) (test : Option Bool) (s : Seen)
    → facts_seen i (compared test s) ≡ Some (with_compared test (known i (facts_seen i s)))
compared_facts i None Nothing = refl
compared_facts i None Uncompared = refl
compared_facts i None Differs = refl
compared_facts i None Matches = refl
compared_facts i None (Kept p) = refl
compared_facts i (Some true) Nothing = refl
compared_facts i (Some true) Uncompared = refl
compared_facts i (Some true) Differs = refl
compared_facts i (Some true) Matches = refl
compared_facts i (Some true) (Kept p) = refl
compared_facts i (Some false) Nothing = refl
compared_facts i (Some false) Uncompared = refl
compared_facts i (Some false) Differs = refl
compared_facts i (Some false) Matches = refl
compared_facts i (Some false) (Kept p) = refl

carried : (kind : Kind) (b : Bool) → (has_proposals kind ≡ false → Some b ≡ None)
    → has_proposals kind ≡ true
carried Notarization b h = refl
carried Nullification b h = let clash = h refl in absurd (cc)
carried Finalization b h = refl

-- What is compared may be there in a kind that is compacted.
pub compared_represents : {G D : Type 0} (kind : Kind) (votes : List (Vote G D)) (i : ℕ)
    (test : Option Bool) (s : Seen) → (has_proposals kind ≡ false → test ≡ None)
    → may_say true kind votes i s ≡ true → may_say true kind votes i (compared test s) ≡ true
compared_represents kind votes i None Nothing h before = refl
compared_represents kind votes i None Uncompared h before = refl
compared_represents kind votes i None Differs h before = before
compared_represents kind votes i None Matches h before = before
compared_represents kind votes i None (Kept p) h before = refl
compared_represents kind votes i (Some true) s h before = carried kind true h
compared_represents kind votes i (Some false) Nothing h before = carried kind false h
compared_represents kind votes i (Some false) Uncompared h before = carried kind false h
compared_represents kind votes i (Some false) Differs h before = carried kind false h
compared_represents kind votes i (Some false) Matches h before = carried kind false h
compared_represents kind votes i (Some false) (Kept p) h before = carried kind false h

-- what may be there in a kind that is compacted has no place
pub no_index : {G D : Type 0} (kind : Kind) (votes : List (Vote G D)) (i : ℕ) (s : Seen)
    → may_say true kind votes i s ≡ true → has_index s ≡ false
no_index kind votes i Nothing h = refl
no_index kind votes i Uncompared h = refl
no_index kind votes i Differs h = refl
no_index kind votes i Matches h = refl
no_index kind votes i (Kept p) h = absurd (cc)

-- An entry of signer i that says this of kind k, and of the others what its signer's did, is put
-- among the entries.
pub record IsPut (es : List Entry) (i : ℕ) (k : Kind) (next : Seen) (e : Entry) (es' : List Entry)
    (o : Option Entry) : Type 0 where
  pub up : IsAscending entry_key es
  pub found : find (λ x. nat_eq (entry_key x) i) es ≡ o
  pub is_put : Puts entry_key es e es' o
  pub number : entry_key e ≡ i
  pub parts : (kind : Kind) → part kind e ≡ cond (is_kind k kind) next (seen_in kind o)

pub part_with : (k kind : Kind) (next : Seen) (e : Entry)
    → part kind (with_part k next e) ≡ cond (is_kind k kind) next (part kind e)
part_with Notarization Notarization next e = refl
part_with Notarization Nullification next e = refl
part_with Notarization Finalization next e = refl
part_with Nullification Notarization next e = refl
part_with Nullification Nullification next e = refl
part_with Nullification Finalization next e = refl
part_with Finalization Notarization next e = refl
part_with Finalization Nullification next e = refl
part_with Finalization Finalization next e = refl

pub key_with : (k : Kind) (next : Seen) (e : Entry) → entry_key (with_part k next e) ≡ entry_key e
key_with Notarization next e = refl
key_with Nullification next e = refl
key_with Finalization next e = refl

part_new : (kind : Kind) (i : Participant) (o : Option Entry)
    → part kind (entry_or_new i o) ≡ seen_in kind o
part_new Notarization i None = refl
part_new Nullification i None = refl
part_new Finalization i None = refl
part_new kind i (Some e) = refl

pub is_put_by : (es : List Entry) (i : Participant) (k : Kind) (next : Seen)
    → IsAscending entry_key es
    → IsPut es i.0 k next
    (with_part k next (entry_or_new i (find (λ x. nat_eq (entry_key x) i.0) es)))
    (entries_with i k next es) (find (λ x. nat_eq (entry_key x) i.0) es)
is_put_by es i k next up =
    let o = find (λ x. nat_eq (entry_key x) i.0) es in
    let e = with_part k next (entry_or_new i o) in
    let number : entry_key e ≡ i.0 = key_with k next (entry_or_new i o) ∙ numbered (find (λ x. nat_eq (entry_key x) i.0) es) refl in
    let there : Puts entry_key es e (put_by entry_key e es) (find (λ x. nat_eq (entry_key x) (entry_key e)) es) = puts entry_key es e up in
    record {
      up = up;
      found = refl;
      is_put = subst (λ n. Puts entry_key es e (put_by entry_key e es) (find (λ x. nat_eq (entry_key x) n) es)) number there;
      number = number;
      parts = λ kind. part_with k kind next (entry_or_new i o) ∙ ap (λ s. cond (is_kind k kind) next s) (part_new kind i o);
    } where
      numbered : (o : Option Entry) → find (λ x. nat_eq (entry_key x) i.0) es ≡ o
          → entry_key (entry_or_new i o) ≡ i.0
      numbered None is = refl
      numbered (Some old) is = found_key entry_key es i.0 old is

-- The signer's entry, changed where it is, or inserted where there is none.
pub changed_at : (es : List Entry) (i : Participant) (k : Kind) (next : Seen) (j : ℕ) (d : Entry)
    → IsAscending entry_key es → place_of (map entry_key es) i.0 ≡ Ok j
    → set es j (with_part k next (get_or es j d)) ≡ entries_with i k next es
changed_at es i k next j d up place =
    let found = place_item entry_key es i.0 j d up place in
    let below = place_below entry_key es i.0 j place in
    rw found (put_there entry_key es (with_part k next (get_or es j d)) j d up below (sym (key_with k next (get_or es j d))))

pub inserted_at : (es : List Entry) (i : Participant) (k : Kind) (next : Seen) (j : ℕ)
    → place_of (map entry_key es) i.0 ≡ Err j
    → insert_by entry_key (with_part k next (nothing_seen i)) es ≡ entries_with i k next es
inserted_at es i k next j place =
    let absent = place_absent entry_key es i.0 j place in
    rw absent (put_new entry_key es (with_part k next (nothing_seen i))
    (subst (λ n. find (λ x. nat_eq (entry_key x) n) es ≡ None) (sym (key_with k next (nothing_seen i))) absent))

module _ {X : Type 0} where
  slice_get_before : (xs ys : List X) (p : ℕ) (x : X) → slice_get xs p ≡ Some x
      → slice_get (xs ++ ys) p ≡ Some x
  slice_get_before [] ys p x is = absurd (cc)
  slice_get_before (y ∷ xs) ys zero x is = is
  slice_get_before (y ∷ xs) ys (suc p) x is = slice_get_before xs ys p x is

  slice_get_last : (xs : List X) (x : X) → slice_get (xs ++ x ∷ []) (length xs) ≡ Some x
  slice_get_last [] x = refl
  slice_get_last (y ∷ xs) x = slice_get_last xs x

  some_before : (xs ys : List X) (p : ℕ) (test : X → Bool) (o : Option X) → slice_get xs p ≡ o
      → is_some_and o test ≡ true → slice_get (xs ++ ys) p ≡ o
  some_before xs ys p test None is h = absurd (cc)
  some_before xs ys p test (Some x) is h = slice_get_before xs ys p x is

pub filter_map-same_each : {E X : Type 0} (f g : E → Option X) (es : List E)
    → AllByRecursion (λ e. f e ≡ g e) es → filter_map f es ≡ filter_map g es
filter_map-same_each f g [] h = refl
filter_map-same_each f g (e ∷ es) h = let rest = filter_map-same_each f g es h.1 in rw (h.0, rest)

module _ {G D : Type 0} where
  -- one more vote behind those at the places that are said
  more_represents : (b : Bool) (kind : Kind) (votes : List (Vote G D)) (v : Vote G D) (i : ℕ)
      (s : Seen)
      → may_say b kind votes i s ≡ true → may_say b kind (votes ++ v ∷ []) i s ≡ true
  more_represents b kind votes v i Nothing h = h
  more_represents b kind votes v i Uncompared h = h
  more_represents b kind votes v i Differs h = h
  more_represents b kind votes v i Matches h = h
  more_represents b kind votes v i (Kept p) h =
      let own = (and_parts (not b) (is_some_and (slice_get votes p) (is_vote_of kind i)) h).1 in
      rw (some_before votes (v ∷ []) p (is_vote_of kind i) (slice_get votes p) refl own) h

  more_shown : (b : Bool) (kind : Kind) (votes : List (Vote G D)) (v : Vote G D) (i : ℕ) (s : Seen)
      → may_say b kind votes i s ≡ true → vote_at (votes ++ v ∷ []) s ≡ vote_at votes s
  more_shown b kind votes v i Nothing h = refl
  more_shown b kind votes v i Uncompared h = refl
  more_shown b kind votes v i Differs h = refl
  more_shown b kind votes v i Matches h = refl
  more_shown b kind votes v i (Kept p) h =
      let own = (and_parts (not b) (is_some_and (slice_get votes p) (is_vote_of kind i)) h).1 in
      some_before votes (v ∷ []) p (is_vote_of kind i) (slice_get votes p) refl own

  pub more_kept : (b : Bool) (kind : Kind) (votes : List (Vote G D)) (v : Vote G D)
      (es : List Entry)
      → AllPass (λ e. may_say b kind votes (entry_key e) (part kind e)) es
      → filter_map (kept_part (votes ++ v ∷ []) kind) es ≡ filter_map (kept_part votes kind) es
  more_kept b kind votes v es each =
      filter_map-same_each (kept_part (votes ++ v ∷ []) kind) (kept_part votes kind) es
      (rec_weaker (λ e. may_say b kind votes (entry_key e) (part kind e) ≡ true) (λ e. kept_part (votes ++ v ∷ []) kind e ≡ kept_part votes kind e)
      (λ e h. ap (own_vote kind (entry_key e)) (more_shown b kind votes v (entry_key e) (part kind e) h)) es
      (rec_from_all (λ e. may_say b kind votes (entry_key e) (part kind e) ≡ true) es each))

  of_kind-with_vote : (vote : Vote G D) (votes : PerKind (List (Vote G D))) (kind : Kind)
      → of_kind (with_vote vote votes) kind
      ≡ cond (is_of_kind kind vote) (of_kind votes kind ++ vote ∷ []) (of_kind votes kind)
  of_kind-with_vote (NotarizeVote v) votes Notarization = refl
  of_kind-with_vote (NotarizeVote v) votes Nullification = refl
  of_kind-with_vote (NotarizeVote v) votes Finalization = refl
  of_kind-with_vote (NullifyVote v) votes Notarization = refl
  of_kind-with_vote (NullifyVote v) votes Nullification = refl
  of_kind-with_vote (NullifyVote v) votes Finalization = refl
  of_kind-with_vote (FinalizeVote v) votes Notarization = refl
  of_kind-with_vote (FinalizeVote v) votes Nullification = refl
  of_kind-with_vote (FinalizeVote v) votes Finalization = refl

  own_kind : (vote : Vote G D) (kind : Kind) → is_of_kind kind vote ≡ true → kind_of vote ≡ kind
  own_kind (NotarizeVote v) Notarization own = refl
  own_kind (NotarizeVote v) Nullification own = absurd (cc)
  own_kind (NotarizeVote v) Finalization own = absurd (cc)
  own_kind (NullifyVote v) Notarization own = absurd (cc)
  own_kind (NullifyVote v) Nullification own = refl
  own_kind (NullifyVote v) Finalization own = absurd (cc)
  own_kind (FinalizeVote v) Notarization own = absurd (cc)
  own_kind (FinalizeVote v) Nullification own = absurd (cc)
  own_kind (FinalizeVote v) Finalization own = refl

-- what the entry shows of a kind of which it says what its signer's did
module _ (es : List Entry) (i : ℕ) (k : Kind) (next : Seen) (e : Entry) (es' : List Entry)
    (o : Option Entry) (put : IsPut es i k next e es' o) where
  old_number : (x : Entry) → o ≡ Some x → entry_key x ≡ i
  old_number x is = found_key entry_key es i x (put.found ∙ is)

  kept_as : {G D : Type 0} → (votes : List (Vote G D)) (kind : Kind) (o' : Option Entry) → o ≡ o'
      → part kind e ≡ seen_in kind o' → kept_part votes kind e ≡ shown_by (kept_part votes kind) o'
  kept_as votes kind None is same = rw same
  kept_as votes kind (Some old) is same =
      let number : entry_key e ≡ entry_key old = put.number ∙ sym (old_number old is) in rw (same, number)

  facts_as : (kind : Kind) (o' : Option Entry) → o ≡ o' → part kind e ≡ seen_in kind o'
      → facts_part kind e ≡ shown_by (facts_part kind) o'
  facts_as kind None is same = rw same
  facts_as kind (Some old) is same =
      let number : entry_key e ≡ entry_key old = put.number ∙ sym (old_number old is) in rw (same, number)

  known_as : (kind : Kind) (o' : Option Entry) → o ≡ o'
      → facts_seen i (seen_in kind o') ≡ shown_by (facts_part kind) o'
  known_as kind None is = refl
  known_as kind (Some old) is = ap (λ n. facts_seen n (part kind old)) (sym (old_number old is))

  other_part : (kind : Kind) → is_kind k kind ≡ false → part kind e ≡ seen_in kind o
  other_part kind other = put.parts kind ∙ ap (λ b. cond b next (seen_in kind o)) other

  own_part : (kind : Kind) → is_kind k kind ≡ true → part kind e ≡ next
  own_part kind own = put.parts kind ∙ ap (λ b. cond b next (seen_in kind o)) own

  other_kept : {G D : Type 0} → (votes : List (Vote G D)) (b : Bool) (kind : Kind)
      → is_kind k kind ≡ false
      → kept_among b votes kind es' ≡ kept_among b votes kind es
  other_kept votes true kind other = refl
  other_kept votes false kind other =
      filter_map-put_same entry_key (kept_part votes kind) es e es' o put.is_put (kept_as votes kind o refl (other_part kind other))

  other_facts : (b : Bool) (kind : Kind) → is_kind k kind ≡ false
      → facts_among b kind es' ≡ facts_among b kind es
  other_facts true kind other = filter_map-put_same entry_key (facts_part kind) es e es' o put.is_put (facts_as kind o refl (other_part kind other))
  other_facts false kind other = refl

  -- the old entry may be there
  pub represents_before : {G D : Type 0} → (b : Bool) (votes : List (Vote G D)) (kind : Kind)
      → AllPass (λ x. may_say b kind votes (entry_key x) (part kind x)) es
      → may_say b kind votes i (seen_in kind o) ≡ true
  represents_before b votes kind each =
      represents_of o refl (of_old entry_key (λ x. may_say b kind votes (entry_key x) (part kind x) ≡ true) es e es' o put.is_put each) where
        represents_of : (o' : Option Entry) → o ≡ o'
            → Of o' (λ x. may_say b kind votes (entry_key x) (part kind x) ≡ true)
            → may_say b kind votes i (seen_in kind o') ≡ true
        represents_of None is h = refl
        represents_of (Some old) is h = subst (λ n. may_say b kind votes n (part kind old) ≡ true) (old_number old is) h

  passes_as : (kind : Kind) (o' : Option Entry)
      → passes entry_key (λ x. has_index (part kind x)) o' ≡ has_index (seen_in kind o')
  passes_as kind None = refl
  passes_as kind (Some x) = refl

  -- a kind of which the entry says what its signer's did still fits
  other_fits : {G D : Type 0} → (b : Bool) (votes : List (Vote G D)) (kind : Kind)
      → is_kind k kind ≡ false
      → Fits b kind votes es → Fits b kind votes es'
  other_fits b votes kind other fits =
      let same = other_part kind other in
      let represents : may_say b kind votes (entry_key e) (part kind e) ≡ true = rw (same, put.number) (represents_before b votes kind fits.each) in
      let counts = count-put entry_key (λ x. has_index (part kind x)) es e es' o put.is_put in
      let before = passes_as kind o in
      let after : has_index (part kind e) ≡ has_index (seen_in kind o) = ap has_index same in
      record {
        each = All-put entry_key (λ x. may_say b kind votes (entry_key x) (part kind x) ≡ true) es e es' o put.is_put represents fits.each;
        counted = fits.counted ∙ same_count (has_index (seen_in kind o)) (rw (before, after) at counts);
      } where
        same_count : {m n : ℕ} (b : Bool) → cond b 1 0 + m ≡ cond b 1 0 + n → n ≡ m
        same_count b h = omega (arith, h)

  -- the vote goes into the facts of its kind
  compared_fits : {G D : Type 0} → (votes : List (Vote G D)) (kind : Kind) (test : Option Bool)
      → next ≡ compared test (seen_in kind o) → (has_proposals kind ≡ false → test ≡ None)
      → is_kind k kind ≡ true → Fits true kind votes es → Fits true kind votes es'
  compared_fits votes kind test is none_carried own fits =
      let same = own_part kind own ∙ is in
      let before = represents_before true votes kind fits.each in
      let after : may_say true kind votes (entry_key e) (part kind e) ≡ true =
      rw (same, put.number) (compared_represents kind votes i test (seen_in kind o) none_carried before) in
      let old_none = passes_as kind o ∙ no_index kind votes i (seen_in kind o) before in
      let new_none = no_index kind votes (entry_key e) (part kind e) after in
      let counts = count-put entry_key (λ x. has_index (part kind x)) es e es' o put.is_put in
      let equal = rw (old_none, new_none) at counts in
      record {
        each = All-put entry_key (λ x. may_say true kind votes (entry_key x) (part kind x) ≡ true) es e es' o put.is_put after fits.each;
        counted = omega (arith, fits.counted, equal);
      }

  -- the vote is kept behind the others of its kind
  kept_fits : {G D : Type 0} → (votes : List (Vote G D)) (kind : Kind) (v : Vote G D)
      → next ≡ Kept (length votes)
      → is_kind k kind ≡ true → is_vote_of kind i v ≡ true → has_index (seen_in kind o) ≡ false
      → Fits false kind votes es → Fits false kind (votes ++ v ∷ []) es'
  kept_fits {G = G} {D = D} votes kind v is own mine none fits =
      let same = own_part kind own ∙ is in
      let more : List (Vote G D) = votes ++ v ∷ [] in
      let after : may_say false kind more (entry_key e) (part kind e) ≡ true = rw (same, put.number, slice_get_last votes v) mine in
      let old_none = passes_as kind o ∙ none in
      let new_some : has_index (part kind e) ≡ true = ap has_index same in
      let counts = count-put entry_key (λ x. has_index (part kind x)) es e es' o put.is_put in
      let equal = rw (old_none, new_some) at counts in
      record {
        each =
            All-put entry_key (λ x. may_say false kind more (entry_key x) (part kind x) ≡ true) es e es' o put.is_put after
            (all_from_rec (λ x. may_say false kind more (entry_key x) (part kind x) ≡ true) es
            (rec_weaker (λ x. may_say false kind votes (entry_key x) (part kind x) ≡ true) (λ x. may_say false kind more (entry_key x) (part kind x) ≡ true)
            (λ x h. more_represents false kind votes v (entry_key x) (part kind x) h) es
            (rec_from_all (λ x. may_say false kind votes (entry_key x) (part kind x) ≡ true) es fits.each)));
        counted = omega (arith, equal, length-append votes (v ∷ []), fits.counted);
      }

one_of : (b : Bool) → exactly_one b false ≡ b
one_of true = refl
one_of false = refl

other_of : (b : Bool) → exactly_one b true ≡ not b
other_of true = refl
other_of false = refl

none_shown : {G D : Type 0} → (votes : List (Vote G D)) (kind : Kind) (o : Option Entry)
    → has_index (seen_in kind o) ≡ false → shown_by (kept_part votes kind) o ≡ None
none_shown votes kind None none = refl
none_shown votes kind (Some e) none = none_at (part kind e) none where
  none_at : (s : Seen) → has_index s ≡ false → own_vote kind (entry_key e) (vote_at votes s) ≡ None
  none_at Nothing none = refl
  none_at Uncompared none = refl
  none_at Differs none = refl
  none_at Matches none = refl
  none_at (Kept p) none = absurd (cc)

module _ {G D : Type 0} (same : D → D → Bool) where
  pub facts_with_vote : (selected : Option (Proposal D)) (vote : Vote G D) (f : Facts)
      → with_compared (tested same selected vote) f ≡ facts_with same selected vote f
  facts_with_vote None (NotarizeVote v) f = refl
  facts_with_vote None (NullifyVote v) f = refl
  facts_with_vote None (FinalizeVote v) f = refl
  facts_with_vote (Some p) (NotarizeVote v) f = refl
  facts_with_vote (Some p) (NullifyVote v) f = refl
  facts_with_vote (Some p) (FinalizeVote v) f = refl

  pub none_tested : (selected : Option (Proposal D)) (vote : Vote G D)
      → has_proposals (kind_of vote) ≡ false → tested same selected vote ≡ None
  none_tested selected (NotarizeVote v) none = absurd (cc)
  none_tested selected (NullifyVote v) none = refl
  none_tested selected (FinalizeVote v) none = absurd (cc)

  -- what is said of a signer's votes determines what comes of one more
  outcome_says : (selected : Option (Proposal D)) (vote : Vote G D) (votes : List (Vote G D))
      (b : Bool)
      (i : ℕ) (s : Seen) → may_say b (kind_of vote) votes i s ≡ true
      → seen_outcome b (tested same selected vote) s
      ≡ outcome_by same selected b (observed_seen i votes s) vote
  outcome_says selected vote votes b i Nothing h = refl
  outcome_says selected vote votes b i Uncompared h = refl
  outcome_says None (NotarizeVote v) votes b i Differs h = refl
  outcome_says (Some p) (NotarizeVote v) votes b i Differs h = rw (one_of (same_proposal same p v.proposal))
  outcome_says selected (NullifyVote v) votes b i Differs h = let no = (and_parts b false h).1 in absurd (cc)
  outcome_says None (FinalizeVote v) votes b i Differs h = refl
  outcome_says (Some p) (FinalizeVote v) votes b i Differs h = rw (one_of (same_proposal same p v.proposal))
  outcome_says None (NotarizeVote v) votes b i Matches h = refl
  outcome_says (Some p) (NotarizeVote v) votes b i Matches h = rw (other_of (same_proposal same p v.proposal))
  outcome_says selected (NullifyVote v) votes b i Matches h = let no = (and_parts b false h).1 in absurd (cc)
  outcome_says None (FinalizeVote v) votes b i Matches h = refl
  outcome_says (Some p) (FinalizeVote v) votes b i Matches h = rw (other_of (same_proposal same p v.proposal))
  outcome_says selected vote votes b i (Kept p) h = kept_says (slice_get votes p) h where
    kept_says : (o : Option (Vote G D))
        → (not b && is_some_and o (is_vote_of (kind_of vote) i)) ≡ true
        → Duplicate true ≡ outcome_by same selected b (from_kept o) vote
    kept_says None h = let no = (and_parts (not b) false h).1 in absurd (cc)
    kept_says (Some v) h = refl

module _ {G D : Type 0} where
  -- What is observed of a signer, by what its entry says.
  pub observed_found : (c : PerKind Bool) (votes : PerKind (List (Vote G D))) (es : List Entry)
      (kind : Kind) (i : ℕ) (o : Option Entry) → IsAscending entry_key es
      → AllPass (λ e. may_say (of_kind c kind) kind (of_kind votes kind) (entry_key e)
      (part kind e)) es
      → find (λ e. nat_eq (entry_key e) i) es ≡ o
      → observed (tracked_by c votes es) kind i
      ≡ observed_seen i (of_kind votes kind) (seen_in kind o)
  observed_found c votes es kind i None up each found =
      observed_is c votes es kind i up ∙ ap
      (observed_by (of_kind votes kind) (of_kind c kind) kind) found ∙ nothing_by (of_kind votes kind) (of_kind c kind) kind
  observed_found c votes es kind i (Some e) up each found =
      let number : entry_key e ≡ i = found_key entry_key es i e found in
      let represents = found_all es each found in
      observed_is c votes es kind i up ∙ ap (observed_by (of_kind votes kind) (of_kind c kind) kind) found
      ∙ observed_says (of_kind votes kind) (of_kind c kind) kind e represents ∙ ap (λ n. observed_seen n (of_kind votes kind) (part kind e)) number where
        found_all : (es : List Entry)
            → AllPass (λ e. may_say (of_kind c kind) kind (of_kind votes kind) (entry_key e)
            (part kind e)) es
            → find (λ e. nat_eq (entry_key e) i) es ≡ Some e
            → may_say (of_kind c kind) kind (of_kind votes kind) (entry_key e) (part kind e) ≡ true
        found_all es each found = found_passes entry_key (λ e. may_say (of_kind c kind) kind
            (of_kind votes kind) (entry_key e) (part kind e) ≡ true) es i e (rec_from_all _ es each) found

  -- the vote of a signer that is kept, by what its entry says
  pub kept_vote_found : (c : PerKind Bool) (votes : PerKind (List (Vote G D))) (es : List Entry)
      (kind : Kind) (i : ℕ) (o : Option Entry) → IsAscending entry_key es
      → AllPass (λ e. may_say (of_kind c kind) kind (of_kind votes kind) (entry_key e)
      (part kind e)) es
      → find (λ e. nat_eq (entry_key e) i) es ≡ o
      → kept_vote (tracked_by c votes es) kind i ≡ vote_at (of_kind votes kind) (seen_in kind o)
  kept_vote_found c votes es kind i o up each found =
      rw (kept_is c votes es kind) (by_kept (of_kind c kind) o each found) where
        by_kept : (b : Bool) (o : Option Entry)
            → AllPass (λ e. may_say b kind (of_kind votes kind) (entry_key e) (part kind e)) es
            → find (λ e. nat_eq (entry_key e) i) es ≡ o
            → find (is_vote_of kind i) (kept_among b (of_kind votes kind) kind es)
            ≡ vote_at (of_kind votes kind) (seen_in kind o)
        by_kept true None each found = refl
        by_kept false None each found = kept_found (of_kind votes kind) kind i es up ∙ ap (shown_by (kept_part (of_kind votes kind) kind)) found
        by_kept b (Some e) each found = by_entry b (found_passes entry_key (λ e. may_say b kind (of_kind votes kind) (entry_key e) (part kind e) ≡ true) es i e
            (rec_from_all (λ e. may_say b kind (of_kind votes kind) (entry_key e) (part kind e) ≡ true) es each) found) where
              by_entry : (b : Bool)
                  → may_say b kind (of_kind votes kind) (entry_key e) (part kind e) ≡ true
                  → find (is_vote_of kind i) (kept_among b (of_kind votes kind) kind es)
                  ≡ vote_at (of_kind votes kind) (part kind e)
              by_entry true represents = sym (no_vote (of_kind votes kind) kind (entry_key e) (part kind e) represents)
              by_entry false represents =
                  kept_found (of_kind votes kind) kind i es up ∙ ap (shown_by (kept_part (of_kind votes kind) kind)) found
                  ∙ kept_says (of_kind votes kind) false kind (entry_key e) (part kind e) represents

  -- whether the signer's vote is kept
  pub has_kept_vote : (c : PerKind Bool) (votes : PerKind (List (Vote G D))) (es : List Entry)
      (kind : Kind) (i : ℕ) (o : Option Entry) → IsAscending entry_key es
      → AllPass (λ e. may_say (of_kind c kind) kind (of_kind votes kind) (entry_key e)
      (part kind e)) es
      → find (λ e. nat_eq (entry_key e) i) es ≡ o
      → has_index (seen_in kind o) ≡ is_some (kept_vote (tracked_by c votes es) kind i)
  has_kept_vote c votes es kind i o up each found =
      by_found o found ∙ ap is_some (sym (kept_vote_found c votes es kind i o up each found)) where
        by_seen : (b : Bool) (i : ℕ) (s : Seen) → may_say b kind (of_kind votes kind) i s ≡ true
            → has_index s ≡ is_some (vote_at (of_kind votes kind) s)
        by_seen b i Nothing h = refl
        by_seen b i Uncompared h = refl
        by_seen b i Differs h = refl
        by_seen b i Matches h = refl
        by_seen b i (Kept p) h = there (slice_get (of_kind votes kind) p) (and_parts (not b) _ h).1 where
          there : (v : Option (Vote G D)) → is_some_and v (is_vote_of kind i) ≡ true
              → true ≡ is_some v
          there None h = absurd (cc)
          there (Some v) h = refl

        by_found : (o : Option Entry) → find (λ e. nat_eq (entry_key e) i) es ≡ o
            → has_index (seen_in kind o) ≡ is_some (vote_at (of_kind votes kind) (seen_in kind o))
        by_found None found = refl
        by_found (Some e) found =
            by_seen (of_kind c kind) (entry_key e) (part kind e)
            (found_passes entry_key (λ e. may_say (of_kind c kind) kind (of_kind votes kind) (entry_key e) (part kind e) ≡ true) es i e
            (rec_from_all (λ e. may_say (of_kind c kind) kind (of_kind votes kind) (entry_key e) (part kind e) ≡ true) es each) found)

  -- whether any vote of the signer was seen
  pub has_seen : (c : PerKind Bool) (votes : PerKind (List (Vote G D))) (es : List Entry)
      (kind : Kind) (i : ℕ) (o : Option Entry) → IsAscending entry_key es
      → AllPass (λ e. may_say (of_kind c kind) kind (of_kind votes kind) (entry_key e)
      (part kind e)) es
      → find (λ e. nat_eq (entry_key e) i) es ≡ o
      → is_any (seen_in kind o) ≡ is_seen (observed (tracked_by c votes es) kind i)
  has_seen c votes es kind i o up each found =
      by_found o found ∙ ap is_seen (sym (observed_found c votes es kind i o up each found)) where
        by_seen : (b : Bool) (n : ℕ) (s : Seen) → may_say b kind (of_kind votes kind) n s ≡ true
            → is_any s ≡ is_seen (observed_seen i (of_kind votes kind) s)
        by_seen b n Nothing h = refl
        by_seen b n Uncompared h = refl
        by_seen b n Differs h = refl
        by_seen b n Matches h = refl
        by_seen b n (Kept p) h = there (slice_get (of_kind votes kind) p) (and_parts (not b) _ h).1 where
          there : (v : Option (Vote G D)) → is_some_and v (is_vote_of kind n) ≡ true
              → true ≡ is_seen (from_kept v)
          there None h = absurd (cc)
          there (Some v) h = refl

        by_found : (o : Option Entry) → find (λ e. nat_eq (entry_key e) i) es ≡ o
            → is_any (seen_in kind o)
            ≡ is_seen (observed_seen i (of_kind votes kind) (seen_in kind o))
        by_found None found = refl
        by_found (Some e) found =
            by_seen (of_kind c kind) (entry_key e) (part kind e)
            (found_passes entry_key (λ e. may_say (of_kind c kind) kind (of_kind votes kind) (entry_key e) (part kind e) ≡ true) es i e
            (rec_from_all (λ e. may_say (of_kind c kind) kind (of_kind votes kind) (entry_key e) (part kind e) ≡ true) es each) found)

  -- A signer that is known has an entry.
  pub known_entry : (c : PerKind Bool) (votes : PerKind (List (Vote G D))) (es : List Entry) (i : ℕ)
      (place : Result ℕ ℕ) (R : Type 0) → IsAscending entry_key es
      → place ≡ place_of (map entry_key es) i → is_known (tracked_by c votes es) i ≡ true
      → IfErr place (λ _. R)
  known_entry c votes es i (Ok j) R up is known = tt
  known_entry c votes es i (Err j) R up is known =
      let never = unknown c votes es i up (place_absent entry_key es i j (sym is)) in
      let clash : true ≡ false = sym known ∙ never in absurd (cc)

  pub seen_known : (held : TrackerState G D) (kind : Kind) (i : ℕ)
      → is_seen (observed held kind i) ≡ true
      → is_known held i ≡ true
  seen_known held Notarization i seen = rw seen
  seen_known held Nullification i seen = rw seen (second (is_seen (observed held Notarization i)) (is_seen (observed held Finalization i))) where
    second : (a b : Bool) → (a || (true || b)) ≡ true
    second true b = refl
    second false b = refl
  seen_known held Finalization i seen = rw seen (third (is_seen (observed held Notarization i)) (is_seen (observed held Nullification i))) where
    third : (a b : Bool) → (a || (b || true)) ≡ true
    third true b = refl
    third false true = refl
    third false false = refl

-- at first
pub tracked_fresh : {G D : Type 0} (participants : ℕ) (c : PerKind Bool)
    (votes : PerKind (List (Vote G D))) (es : List Entry) → participants < 2 ^ 32
    → votes ≡ for_each [] → es ≡ [] → IsTracked participants c votes es
tracked_fresh {G = G} {D = D} participants c votes es few none nobody =
    record { few = few; kinds = λ kind. rw (none, nobody) (fits_nobody kind (of_kind c kind)) } where
      no_entry : (test : Entry → Bool) → AllPass test []
      no_entry test = λ k d below. absurd (omega arith)

      fits_nobody : (kind : Kind) (b : Bool)
          → Fits {G = G} {D = D} b kind (of_kind (for_each []) kind) []
      fits_nobody Notarization b = record { each = no_entry _; counted = refl }
      fits_nobody Nullification b = record { each = no_entry _; counted = refl }
      fits_nobody Finalization b = record { each = no_entry _; counted = refl }

-- A vote is recorded: its signer's entry is put among the entries.
module _ {G D : Type 0} (same : D → D → Bool) (c : PerKind Bool) (votes : PerKind (List (Vote G D)))
    (es : List Entry) (selected : Option (Proposal D)) (vote : Vote G D) (next : Seen) (e : Entry)
    (es' : List Entry) (o : Option Entry)
    (put : IsPut es (signer_of vote) (kind_of vote) next e es' o) where
  facts_at_found : (kind : Kind) (f : Option Facts) → shown_by (facts_part kind) o ≡ f
      → find (λ f. nat_eq f.signer (signer_of vote)) (filter_map (facts_part kind) es) ≡ f
  facts_at_found kind f before = facts_found kind (signer_of vote) es put.up ∙ ap (λ x. shown_by (facts_part kind) x) put.found ∙ before

  facts_set : (kind : Kind) (f : Option Facts) → shown_by (facts_part kind) o ≡ f
      → facts_part kind e ≡ Some (facts_with same selected vote (known (signer_of vote) f))
      → filter_map (facts_part kind) es'
      ≡ recorded_facts same selected vote (filter_map (facts_part kind) es)
  facts_set kind None before after =
      rw (facts_at_found kind None before)
      (filter_map-put_new entry_key (facts_part kind) (λ f. f.signer) (facts_numbered kind) es e es' o
      (facts_of_kept same selected vote) put.is_put put.up before
      after)
  facts_set kind (Some f) before after =
      rw (facts_at_found kind (Some f) before)
      (filter_map-put_changed entry_key (facts_part kind) (λ f. f.signer) (facts_numbered kind) (facts_with same selected vote) es e es' o (signer_of vote) f
      put.is_put
      put.up put.number before after)

  -- into the facts of its kind
  module _ (on : of_kind c (kind_of vote) ≡ true)
      (is : next ≡ compared (tested same selected vote) (seen_in (kind_of vote) o)) where
    compacted_own : (kind : Kind) → is_of_kind kind vote ≡ true → of_kind c kind ≡ true
    compacted_own kind own = ap (of_kind c) (sym (own_kind vote kind own)) ∙ on

    facts_own : (kind : Kind) → is_of_kind kind vote ≡ true → facts_part kind e
        ≡ Some
        (facts_with same selected vote (known (signer_of vote) (shown_by (facts_part kind) o)))
    facts_own kind own =
        let own_seen : part kind e ≡ compared (tested same selected vote) (seen_in kind o) =
        own_part es (signer_of vote) (kind_of vote) next e es' o put kind own ∙ is
        ∙ ap (λ k. compared (tested same selected vote) (seen_in k o)) (own_kind vote kind own) in
        let facts = compared_facts (signer_of vote) (tested same selected vote) (seen_in kind o) in
        rw (own_seen, put.number)
        (facts ∙ ap (λ f. Some (with_compared (tested same selected vote) (known (signer_of vote) f)))
        (known_as es (signer_of vote) (kind_of vote) next e es' o put kind o refl)
        ∙ ap Some (facts_with_vote same selected vote (known (signer_of vote) (shown_by (facts_part kind) o))))

    compared_kept : (kind : Kind) (b own seen : Bool) → of_kind c kind ≡ b
        → is_of_kind kind vote ≡ own → kept_among b (of_kind votes kind) kind es'
        ≡ cond ((own && true) && (not b && seen))
        (insert_by signer_of vote (kept_among b (of_kind votes kind) kind es))
        (kept_among b (of_kind votes kind) kind es)
    compared_kept kind true true seen is_b is_own = refl
    compared_kept kind false true seen is_b is_own = let clash : false ≡ true = sym is_b ∙ compacted_own kind is_own in absurd (cc)
    compared_kept kind b false seen is_b is_own = other_kept es (signer_of vote) (kind_of vote) next e es' o put (of_kind votes kind) b kind is_own

    compared_list : (kind : Kind) (b own : Bool) → of_kind c kind ≡ b → is_of_kind kind vote ≡ own
        → facts_among b kind es' ≡ cond ((own && true) && b)
        (recorded_facts same selected vote (facts_among b kind es)) (facts_among b kind es)
    compared_list kind true true is_b is_own = facts_set kind (shown_by (facts_part kind) o) refl (facts_own kind is_own)
    compared_list kind false true is_b is_own = let clash : false ≡ true = sym is_b ∙ compacted_own kind is_own in absurd (cc)
    compared_list kind b false is_b is_own = other_facts es (signer_of vote) (kind_of vote) next e es' o put b kind is_own

    pub recorded_facts_of : (kind : Kind) → RecordsKind same (tracked_by c votes es)
        (tracked_by c votes es') selected true vote kind
    recorded_facts_of kind =
        record {
          compacted = refl;
          kept =
              rw (observed_is c votes es kind (signer_of vote) put.up, kept_is c votes es' kind, kept_is c votes es kind)
              (compared_kept kind (of_kind c kind) (is_of_kind kind vote)
              (not (is_seen (observed_by (of_kind votes kind) (of_kind c kind) kind (find (λ x. nat_eq (entry_key x) (signer_of vote)) es)))) refl refl);
          facts = rw (facts_is c votes es' kind, facts_is c votes es kind) (compared_list kind (of_kind c kind) (is_of_kind kind vote) refl refl);
        }

    facts_tracked_of : (kind : Kind) (b own : Bool) → of_kind c kind ≡ b
        → is_of_kind kind vote ≡ own
        → Fits b kind (of_kind votes kind) es → Fits b kind (of_kind votes kind) es'
    facts_tracked_of kind true true is_b is_own fits =
        compared_fits es (signer_of vote) (kind_of vote) next e es' o put (of_kind votes kind) kind (tested same selected vote)
        (is ∙ ap (λ k. compared (tested same selected vote) (seen_in k o)) (own_kind vote kind is_own))
        (λ none. none_tested same selected vote (ap has_proposals (own_kind vote kind is_own) ∙ none)) is_own fits
    facts_tracked_of kind false true is_b is_own fits = let clash : false ≡ true = sym is_b ∙ compacted_own kind is_own in absurd (cc)
    facts_tracked_of kind b false is_b is_own fits = other_fits es (signer_of vote) (kind_of vote) next e es' o put b (of_kind votes kind) kind is_own fits

    pub facts_tracked : (participants : ℕ) → IsTracked participants c votes es
        → IsTracked participants c votes es'
    facts_tracked participants tracked =
        record {
          few = tracked.few;
          kinds = λ kind. facts_tracked_of kind (of_kind c kind) (is_of_kind kind vote) refl refl (tracked.kinds kind);
        }

  -- behind the other votes of its kind
  module _ (off : of_kind c (kind_of vote) ≡ false)
      (is : next ≡ Kept (length (of_kind votes (kind_of vote))))
      (none : has_index (seen_in (kind_of vote) o) ≡ false)
      (fits : (kind : Kind) → Fits (of_kind c kind) kind (of_kind votes kind) es) where
    open_own : (kind : Kind) → is_of_kind kind vote ≡ true → of_kind c kind ≡ false
    open_own kind own = ap (of_kind c) (sym (own_kind vote kind own)) ∙ off

    none_own : (kind : Kind) → is_of_kind kind vote ≡ true → has_index (seen_in kind o) ≡ false
    none_own kind own = ap (λ k. has_index (seen_in k o)) (sym (own_kind vote kind own)) ∙ none

    next_own : (kind : Kind) → is_of_kind kind vote ≡ true
        → next ≡ Kept (length (of_kind votes kind))
    next_own kind own = is ∙ ap (λ k. Kept (length (of_kind votes k))) (own_kind vote kind own)

    mine : (kind : Kind) → is_of_kind kind vote ≡ true
        → is_vote_of kind (signer_of vote) vote ≡ true
    mine kind own = rw own (eq-eqb (signer_of vote) (signer_of vote) refl)

    shows_own : (kind : Kind) → is_of_kind kind vote ≡ true
        → kept_part (of_kind votes kind ++ vote ∷ []) kind e ≡ Some vote
    shows_own kind own =
        let own_seen : part kind e ≡ Kept (length (of_kind votes kind)) =
        own_part es (signer_of vote) (kind_of vote) next e es' o put kind own ∙ next_own kind own in
        rw (own_seen, put.number, slice_get_last (of_kind votes kind) vote, mine kind own)

    kept_kept : (kind : Kind) (b own : Bool) → of_kind c kind ≡ b → is_of_kind kind vote ≡ own
        → Fits b kind (of_kind votes kind) es
        → kept_among b (cond own (of_kind votes kind ++ vote ∷ []) (of_kind votes kind)) kind es'
        ≡ cond ((own && true)
        && (not b && not (is_seen (observed_by (of_kind votes kind) b kind o))))
        (insert_by signer_of vote (kept_among b (of_kind votes kind) kind es))
        (kept_among b (of_kind votes kind) kind es)
    kept_kept kind true true is_b is_own fits = let clash : true ≡ false = sym is_b ∙ open_own kind is_own in absurd (cc)
    kept_kept kind false true is_b is_own fits =
        let more = of_kind votes kind ++ vote ∷ [] in
        let before = none_shown (of_kind votes kind) kind o (none_own kind is_own) in
        let before_more = none_shown (of_kind votes kind ++ vote ∷ []) kind o (none_own kind is_own) in
        rw before
        (filter_map-put_new entry_key (kept_part (of_kind votes kind ++ vote ∷ []) kind) signer_of
        (kept_numbered (of_kind votes kind ++ vote ∷ []) kind) es e es' o vote put.is_put put.up before_more (shows_own kind is_own)
        ∙ ap (insert_by signer_of vote) (more_kept false kind (of_kind votes kind) vote es fits.each))
    kept_kept kind b false is_b is_own fits = other_kept es (signer_of vote) (kind_of vote) next e es' o put (of_kind votes kind) b kind is_own

    kept_list : (kind : Kind) (b own : Bool) → of_kind c kind ≡ b → is_of_kind kind vote ≡ own
        → facts_among b kind es' ≡ cond ((own && true) && b)
        (recorded_facts same selected vote (facts_among b kind es)) (facts_among b kind es)
    kept_list kind true true is_b is_own = let clash : true ≡ false = sym is_b ∙ open_own kind is_own in absurd (cc)
    kept_list kind false true is_b is_own = refl
    kept_list kind b false is_b is_own = other_facts es (signer_of vote) (kind_of vote) next e es' o put b kind is_own

    pub recorded_kept_of : (kind : Kind) → RecordsKind same (tracked_by c votes es)
        (tracked_by c (with_vote vote votes) es') selected true vote kind
    recorded_kept_of kind =
        record {
          compacted = refl;
          kept =
              rw (
                observed_is c votes es kind (signer_of vote) put.up,
                put.found,
                kept_is c (with_vote vote votes) es' kind,
                kept_is c votes es kind,
                of_kind-with_vote vote votes kind,
              )
              (kept_kept kind (of_kind c kind) (is_of_kind kind vote) refl refl (fits kind));
          facts = rw (facts_is c (with_vote vote votes) es' kind, facts_is c votes es kind) (kept_list kind (of_kind c kind) (is_of_kind kind vote) refl refl);
        }

    kept_tracked_of : (kind : Kind) (b own : Bool) → of_kind c kind ≡ b → is_of_kind kind vote ≡ own
        → Fits b kind (of_kind votes kind) es
        → Fits b kind (cond own (of_kind votes kind ++ vote ∷ []) (of_kind votes kind)) es'
    kept_tracked_of kind true true is_b is_own fits = let clash : true ≡ false = sym is_b ∙ open_own kind is_own in absurd (cc)
    kept_tracked_of kind false true is_b is_own fits =
        kept_fits es (signer_of vote) (kind_of vote) next e es' o put (of_kind votes kind) kind vote (next_own kind is_own) is_own (mine kind is_own)
        (none_own kind is_own) fits
    kept_tracked_of kind b false is_b is_own fits = other_fits es (signer_of vote) (kind_of vote) next e es' o put b (of_kind votes kind) kind is_own fits

    pub kept_tracked : (participants : ℕ) → participants < 2 ^ 32
        → IsTracked participants c (with_vote vote votes) es'
    kept_tracked participants few =
        record {
          few = few;
          kinds = λ kind. rw (of_kind-with_vote vote votes kind) (kept_tracked_of kind (of_kind c kind) (is_of_kind kind vote) refl refl (fits kind));
        }

module _ {G D : Type 0} (same : D → D → Bool) (c : PerKind Bool) (votes : PerKind (List (Vote G D)))
    (es : List Entry) (selected : Option (Proposal D)) (vote : Vote G D) (up : IsAscending entry_key es)
    (fits : (kind : Kind) → Fits (of_kind c kind) kind (of_kind votes kind) es) (o : Option Entry)
    (found : find (λ x. nat_eq (entry_key x) (signer_of vote)) es ≡ o) where
  -- what comes of recording a vote, by what its signer's entry says
  pub outcome_found : (participants : ℕ) → nat_lt (signer_of vote) participants ≡ true
      → seen_outcome (of_kind c (kind_of vote)) (tested same selected vote)
      (seen_in (kind_of vote) o)
      ≡ outcome_of same participants (tracked_by c votes es) selected vote
  outcome_found participants in_range =
      rw (in_range, observed_found c votes es (kind_of vote) (signer_of vote) o up (fits (kind_of vote)).each found)
      (outcome_says same selected vote (of_kind votes (kind_of vote)) (of_kind c (kind_of vote)) (signer_of vote) (seen_in (kind_of vote) o)
      (represents_found (kind_of vote) o found)) where
        represents_found : (kind : Kind) (o : Option Entry)
            → find (λ x. nat_eq (entry_key x) (signer_of vote)) es ≡ o
            → may_say (of_kind c kind) kind (of_kind votes kind) (signer_of vote) (seen_in kind o)
            ≡ true
        represents_found kind None found = refl
        represents_found kind (Some e) found =
            subst (λ n. may_say (of_kind c kind) kind (of_kind votes kind) n (part kind e) ≡ true) (found_key entry_key es (signer_of vote) e found)
            (found_passes entry_key (λ e. may_say (of_kind c kind) kind (of_kind votes kind) (entry_key e) (part kind e) ≡ true) es (signer_of vote) e
            (rec_from_all (λ e. may_say (of_kind c kind) kind (of_kind votes kind) (entry_key e) (part kind e) ≡ true) es (fits kind).each) found)

  represents_here : (kind : Kind) (o : Option Entry)
      → find (λ x. nat_eq (entry_key x) (signer_of vote)) es ≡ o
      → may_say (of_kind c kind) kind (of_kind votes kind) (signer_of vote) (seen_in kind o) ≡ true
  represents_here kind None found = refl
  represents_here kind (Some e) found =
      subst (λ n. may_say (of_kind c kind) kind (of_kind votes kind) n (part kind e) ≡ true) (found_key entry_key es (signer_of vote) e found)
      (found_passes entry_key (λ e. may_say (of_kind c kind) kind (of_kind votes kind) (entry_key e) (part kind e) ≡ true) es (signer_of vote) e
      (rec_from_all (λ e. may_say (of_kind c kind) kind (of_kind votes kind) (entry_key e) (part kind e) ≡ true) es (fits kind).each) found)

  pub outcome_here : seen_outcome (of_kind c (kind_of vote)) (tested same selected vote)
      (seen_in (kind_of vote) o)
      ≡ outcome_by same selected (of_kind c (kind_of vote))
      (observed (tracked_by c votes es) (kind_of vote) (signer_of vote)) vote
  outcome_here =
      rw (observed_found c votes es (kind_of vote) (signer_of vote) o up (fits (kind_of vote)).each found)
      (outcome_says same selected vote (of_kind votes (kind_of vote)) (of_kind c (kind_of vote)) (signer_of vote) (seen_in (kind_of vote) o)
      (represents_here (kind_of vote) o found))

  place_open : (b : Bool) (kind : Kind) (its : List (Vote G D)) (i : ℕ) (s : Seen)
      → has_index s ≡ true
      → may_say b kind its i s ≡ true
      → (b ≡ false) × (is_seen (observed_seen i its s) ≡ true)
  place_open b kind its i Nothing has h = absurd (cc)
  place_open b kind its i Uncompared has h = absurd (cc)
  place_open b kind its i Differs has h = absurd (cc)
  place_open b kind its i Matches has h = absurd (cc)
  place_open true kind its i (Kept p) has h = absurd (cc)
  place_open false kind its i (Kept p) has h = (refl, there (slice_get its p) h) where
    there : (o : Option (Vote G D)) → is_some_and o (is_vote_of kind i) ≡ true
        → is_seen (from_kept o) ≡ true
    there None h = absurd (cc)
    there (Some v) h = refl

  -- Where one is kept already, nothing changes.
  pub recorded_none : has_index (seen_in (kind_of vote) o) ≡ true → (kind : Kind)
      → RecordsKind same (tracked_by c votes es) (tracked_by c votes es) selected true vote kind
  recorded_none has kind =
      record {
        compacted = refl;
        kept =
            rw (observed_found c votes es kind (signer_of vote) o up (fits kind).each found, kept_is c votes es kind)
            (same_kept (is_of_kind kind vote) refl);
        facts = rw (facts_is c votes es kind) (same_facts (is_of_kind kind vote) refl);
      } where
        open_here : is_of_kind kind vote ≡ true → (of_kind c kind ≡ false)
            ×
            (is_seen (observed_seen (signer_of vote) (of_kind votes kind) (seen_in kind o)) ≡ true)
        open_here own =
            place_open (of_kind c kind) kind (of_kind votes kind) (signer_of vote) (seen_in kind o)
            (ap (λ k. has_index (seen_in k o)) (sym (own_kind vote kind own)) ∙ has) (represents_here kind o found)

        same_kept : (own : Bool) → is_of_kind kind vote ≡ own
            → kept_among (of_kind c kind) (of_kind votes kind) kind es
            ≡ cond ((own && true) && (not (of_kind c kind)
            && not
            (is_seen (observed_seen (signer_of vote) (of_kind votes kind) (seen_in kind o)))))
            (insert_by signer_of vote (kept_among (of_kind c kind) (of_kind votes kind) kind es))
            (kept_among (of_kind c kind) (of_kind votes kind) kind es)
        same_kept true is = let both = open_here is in rw (both.0, both.1)
        same_kept false is = refl

        same_facts : (own : Bool) → is_of_kind kind vote ≡ own
            → facts_among (of_kind c kind) kind es
            ≡ cond ((own && true) && of_kind c kind)
            (recorded_facts same selected vote (facts_among (of_kind c kind) kind es))
            (facts_among (of_kind c kind) kind es)
        same_facts true is = let both = open_here is in rw both.0
        same_facts false is = refl

  -- A vote that was seen and isn't kept is of a kind that is compacted.
  pub seen_compacted : has_index (seen_in (kind_of vote) o) ≡ false
      → is_seen (observed (tracked_by c votes es) (kind_of vote) (signer_of vote)) ≡ true
      → of_kind c (kind_of vote) ≡ true
  seen_compacted none seen =
      facts_there (of_kind c (kind_of vote)) (seen_in (kind_of vote) o) none (represents_here (kind_of vote) o found)
      (ap is_seen (sym (observed_found c votes es (kind_of vote) (signer_of vote) o up (fits (kind_of vote)).each found)) ∙ seen) where
        facts_there : (b : Bool) (s : Seen) → has_index s ≡ false
            → may_say b (kind_of vote) (of_kind votes (kind_of vote)) (signer_of vote) s ≡ true
            → is_seen (observed_seen (signer_of vote) (of_kind votes (kind_of vote)) s) ≡ true
            → b ≡ true
        facts_there b Nothing none h seen = absurd (cc)
        facts_there b Uncompared none h seen = h
        facts_there b Differs none h seen = (and_parts b (has_proposals (kind_of vote)) h).0
        facts_there b Matches none h seen = (and_parts b (has_proposals (kind_of vote)) h).0
        facts_there b (Kept p) none h seen = absurd (cc)

  -- a vote of which one is kept is a duplicate
  pub outcome_kept : has_index (seen_in (kind_of vote) o) ≡ true → (participants : ℕ)
      → nat_lt (signer_of vote) participants ≡ true
      → Duplicate true ≡ outcome_of same participants (tracked_by c votes es) selected vote
  outcome_kept has participants in_range =
      kept_outcome (seen_in (kind_of vote) o) has ∙ outcome_found participants in_range where
        kept_outcome : (s : Seen) → has_index s ≡ true
            → Duplicate true ≡ seen_outcome (of_kind c (kind_of vote)) (tested same selected vote) s
        kept_outcome Nothing has = absurd (cc)
        kept_outcome Uncompared has = absurd (cc)
        kept_outcome Differs has = absurd (cc)
        kept_outcome Matches has = absurd (cc)
        kept_outcome (Kept p) has = refl

  nothing_there : (b : Bool) (s : Seen) → b ≡ false → has_index s ≡ false
      → may_say b (kind_of vote) (of_kind votes (kind_of vote)) (signer_of vote) s ≡ true
      → s ≡ Nothing
  nothing_there b Nothing off none h = refl
  nothing_there b Uncompared off none h = let clash : true ≡ false = sym h ∙ off in absurd (cc)
  nothing_there b Differs off none h = let clash : true ≡ false = sym (and_parts b (has_proposals (kind_of vote)) h).0 ∙ off in absurd (cc)
  nothing_there b Matches off none h = let clash : true ≡ false = sym (and_parts b (has_proposals (kind_of vote)) h).0 ∙ off in absurd (cc)
  nothing_there b (Kept p) off none h = absurd (cc)

  -- A vote of a kind that isn't compacted, of which none is kept, is the first.
  pub outcome_first : of_kind c (kind_of vote) ≡ false
      → has_index (seen_in (kind_of vote) o) ≡ false
      → (participants : ℕ) → nat_lt (signer_of vote) participants ≡ true
      → Added true ≡ outcome_of same participants (tracked_by c votes es) selected vote
  outcome_first off none participants in_range =
      let nothing = nothing_there (of_kind c (kind_of vote)) (seen_in (kind_of vote) o) off none (represents_here (kind_of vote) o found) in
      ap (λ b. Added (not b)) (sym off)
      ∙ ap (seen_outcome (of_kind c (kind_of vote)) (tested same selected vote)) (sym nothing)
      ∙ outcome_found participants in_range

-- The entries that a record leaves, with the votes that it leaves.
module _ {G D : Type 0} (same : D → D → Bool) (c : PerKind Bool) (votes : PerKind (List (Vote G D)))
    (es : List Entry) (selected : Option (Proposal D)) (vote : Vote G D) (up : IsAscending entry_key es)
  where
    abbrev pub its_entry : Option Entry
    its_entry = find (λ x. nat_eq (entry_key x) (signer_of vote)) es

    -- where facts are kept
    abbrev pub compared_entries : List Entry
    compared_entries =
        entries_with (attestation_of vote).signer (kind_of vote) (compared (tested same selected vote) (seen_in (kind_of vote) its_entry)) es

    pub recorded_compared : (votes' : PerKind (List (Vote G D))) (es' : List Entry)
        → votes' ≡ votes → es' ≡ compared_entries → of_kind c (kind_of vote) ≡ true → (kind : Kind)
        → RecordsKind same (tracked_by c votes es) (tracked_by c votes' es') selected true vote kind
    recorded_compared votes' es' kept left on kind =
        rw (kept, left)
        (recorded_facts_of same c votes es selected vote _ _ compared_entries its_entry (is_put_by es (attestation_of vote).signer (kind_of vote) _ up) on
        refl kind)

    pub tracked_compared : of_kind c (kind_of vote) ≡ true → (participants : ℕ)
        → IsTracked participants c votes es → IsTracked participants c votes compared_entries
    tracked_compared on =
        facts_tracked same c votes es selected vote _ _ compared_entries its_entry (is_put_by es (attestation_of vote).signer (kind_of vote) _ up) on refl

    -- where votes are
    abbrev pub full_entries : List Entry
    full_entries = entries_with (attestation_of vote).signer (kind_of vote) (Kept (length (of_kind votes (kind_of vote)))) es

    pub recorded_full : (votes' : PerKind (List (Vote G D))) (es' : List Entry)
        → votes' ≡ with_vote vote votes → es' ≡ full_entries → of_kind c (kind_of vote) ≡ false
        → has_index (seen_in (kind_of vote) its_entry) ≡ false
        → ((kind : Kind) → Fits (of_kind c kind) kind (of_kind votes kind) es) → (kind : Kind)
        → RecordsKind same (tracked_by c votes es) (tracked_by c votes' es') selected true vote kind
    recorded_full votes' es' kept left off none fits kind =
        rw (kept, left)
        (recorded_kept_of same c votes es selected vote _ _ full_entries its_entry (is_put_by es (attestation_of vote).signer (kind_of vote) _ up) off refl
        none fits kind)

    pub tracked_full : of_kind c (kind_of vote) ≡ false
        → has_index (seen_in (kind_of vote) its_entry) ≡ false → (participants : ℕ)
        → IsTracked participants c votes es
        → IsTracked participants c (with_vote vote votes) full_entries
    tracked_full off none participants tracked =
        kept_tracked same c votes es selected vote _ _ full_entries its_entry (is_put_by es (attestation_of vote).signer (kind_of vote) _ up) off refl none
        tracked.kinds participants tracked.few
