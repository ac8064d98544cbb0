-- What releasing a kind changes of what a tracker shows, by its entries and the votes that it keeps.
use Rattle.batcher_votes.proofs.Words.{◌≡◌, ◌∙◌, ℕ, Bool, true, false, cond, ◌&&◌, ◌||◌, List, [], ◌∷◌, map, Option, Some, None, refl, ap, sym, subst}
use Rattle.batcher_votes.proofs.Words.{AllByRecursion, filter_map, cons_option, slice_get, and_parts, Proposal, Vote, Kind, Notarization, Nullification}
use Rattle.batcher_votes.proofs.Words.{Finalization, Seen, Nothing, Uncompared, Differs, Matches, Kept, count, is_some_and, rec_from_all, all_from_rec}
use Rattle.batcher_votes.proofs.Words.{rec_weaker, is_kind, is_vote_of, has_proposals, kind_of, is_kind-true, and-true, PerKind, of_kind, no_facts, facts_with}
use Rattle.batcher_votes.proofs.Words.{facts_of_kept, ReleasesKind, SameTrackerState, Entry, with_mark, part, entry_key, has_index, compared, facts_seen}
use Rattle.batcher_votes.proofs.Words.{facts_part, facts_among, without, own_vote, vote_at, kept_part, kept_among, tracked_by, may_say, Fits, tested, tested_at}
use Rattle.batcher_votes.proofs.Words.{seen_released, entry_released}
use Rattle.batcher_votes.proofs.TrackerLemmas.ShownParts.{made_of, filter_map-map_same}
use Rattle.batcher_votes.proofs.TrackerLemmas.SignerFacts.{signed, kept_is, facts_is}
use Rattle.batcher_votes.proofs.TrackerLemmas.RecordVote.{compared_facts, compared_represents, facts_with_vote, none_tested, part_with, key_with}

of_kind-with_mark : (released : Kind) (c : PerKind Bool) (kind : Kind)
    → of_kind (with_mark released c) kind ≡ (is_kind released kind || of_kind c kind)
of_kind-with_mark Notarization c Notarization = refl
of_kind-with_mark Notarization c Nullification = refl
of_kind-with_mark Notarization c Finalization = refl
of_kind-with_mark Nullification c Notarization = refl
of_kind-with_mark Nullification c Nullification = refl
of_kind-with_mark Nullification c Finalization = refl
of_kind-with_mark Finalization c Notarization = refl
of_kind-with_mark Finalization c Nullification = refl
of_kind-with_mark Finalization c Finalization = refl

cons_made : {X Y : Type 0} (g : X → Y) (o : Option X) (zs : List X)
    → cons_option (made_of g o) (map g zs) ≡ map g (cons_option o zs)
cons_made g None zs = refl
cons_made g (Some x) zs = refl

-- elements that show a function of what they did
filter_map-map_each : {E X Y : Type 0} (shows : E → Option X) (shows' : E → Option Y) (f : E → E)
    (g : X → Y) (es : List E) → AllByRecursion (λ e. shows' (f e) ≡ made_of g (shows e)) es
    → filter_map shows' (map f es) ≡ map g (filter_map shows es)
filter_map-map_each shows shows' f g [] h = refl
filter_map-map_each shows shows' f g (e ∷ es) h =
    let rest = filter_map-map_each shows shows' f g es h.1 in rw (h.0, rest) (cons_made g (shows e) (filter_map shows es))

count-map_same : {E : Type 0} (test : E → Bool) (f : E → E) → ((e : E) → test (f e) ≡ test e)
    → (es : List E) → count test (map f es) ≡ count test es
count-map_same test f same [] = refl
count-map_same test f same (e ∷ es) = let rest = count-map_same test f same es in rw (same e, rest)

count-map_none : {E : Type 0} (test : E → Bool) (f : E → E) → ((e : E) → test (f e) ≡ false)
    → (es : List E) → count test (map f es) ≡ 0
count-map_none test f none [] = refl
count-map_none test f none (e ∷ es) = let rest = count-map_none test f none es in rw (none e, rest)

all-map : {E : Type 0} (P Q : E → Type 0) (f : E → E) → ((e : E) → P e → Q (f e)) → (es : List E)
    → AllByRecursion P es → AllByRecursion Q (map f es)
all-map P Q f made [] h = tt
all-map P Q f made (e ∷ es) h = (made e h.0, all-map P Q f made es h.1)

of_kind-without : {G D : Type 0} (released : Kind) (votes : PerKind (List (Vote G D))) (kind : Kind)
    → of_kind (without released votes) kind ≡ cond (is_kind released kind) [] (of_kind votes kind)
of_kind-without Notarization votes Notarization = refl
of_kind-without Notarization votes Nullification = refl
of_kind-without Notarization votes Finalization = refl
of_kind-without Nullification votes Notarization = refl
of_kind-without Nullification votes Nullification = refl
of_kind-without Nullification votes Finalization = refl
of_kind-without Finalization votes Notarization = refl
of_kind-without Finalization votes Nullification = refl
of_kind-without Finalization votes Finalization = refl

compared_nothing : (test : Option Bool) → has_index (compared test Nothing) ≡ false
compared_nothing None = refl
compared_nothing (Some true) = refl
compared_nothing (Some false) = refl

module _ {G D : Type 0} (same : D → D → Bool) (selected : Option (Proposal D)) where
  none_left : (votes : List (Vote G D)) (s : Seen)
      → has_index (seen_released same selected votes s) ≡ false
  none_left votes Nothing = refl
  none_left votes Uncompared = refl
  none_left votes Differs = refl
  none_left votes Matches = refl
  none_left votes (Kept p) = compared_nothing (tested_at same selected (slice_get votes p))

  -- a vote that is the signer's becomes its facts
  vote_released : (kind : Kind) (i : ℕ) (o : Option (Vote G D))
      → is_some_and o (is_vote_of kind i) ≡ true
      → facts_seen i (compared (tested_at same selected o) Nothing)
      ≡ made_of (facts_of_kept same selected) (own_vote kind i o)
  vote_released kind i None own = absurd (cc)
  vote_released kind i (Some v) own =
      rw own
      (compared_facts i (tested same selected v) Nothing ∙ ap Some (facts_with_vote same selected v (no_facts i))
      ∙ ap (λ n. Some (facts_with same selected v (no_facts n))) (sym (signed kind i v own)))

  seen_shows : (kind : Kind) (votes : List (Vote G D)) (i : ℕ) (s : Seen)
      → may_say false kind votes i s ≡ true → facts_seen i (seen_released same selected votes s)
      ≡ made_of (facts_of_kept same selected) (own_vote kind i (vote_at votes s))
  seen_shows kind votes i Nothing h = refl
  seen_shows kind votes i Uncompared h = absurd (cc)
  seen_shows kind votes i Differs h = absurd (cc)
  seen_shows kind votes i Matches h = absurd (cc)
  seen_shows kind votes i (Kept p) h = vote_released kind i (slice_get votes p) h

  none_carried : (kind : Kind) (i : ℕ) (o : Option (Vote G D))
      → is_some_and o (is_vote_of kind i) ≡ true → has_proposals kind ≡ false
      → tested_at same selected o ≡ None
  none_carried kind i None own none = absurd (cc)
  none_carried kind i (Some v) own none =
      let is = is_kind-true (kind_of v) kind (and_parts (is_kind (kind_of v) kind) _ own).0 in
      none_tested same selected v (ap has_proposals is ∙ none)

  seen_represents : (kind : Kind) (votes : List (Vote G D)) (i : ℕ) (s : Seen)
      → may_say false kind votes i s ≡ true
      → may_say {G = G} {D = D} true kind [] i (seen_released same selected votes s) ≡ true
  seen_represents kind votes i Nothing h = refl
  seen_represents kind votes i Uncompared h = absurd (cc)
  seen_represents kind votes i Differs h = absurd (cc)
  seen_represents kind votes i Matches h = absurd (cc)
  seen_represents kind votes i (Kept p) h =
      compared_represents {G = G} {D = D} kind [] i (tested_at same selected (slice_get votes p)) Nothing (none_carried kind i (slice_get votes p) h) refl

  module _ (released : Kind) (votes : List (Vote G D)) where
    abbrev pub after : Entry → Entry
    after = entry_released same selected released votes

    key_after : (e : Entry) → entry_key (after e) ≡ entry_key e
    key_after e = key_with released (seen_released same selected votes (part released e)) e

    other_after : (kind : Kind) → is_kind released kind ≡ false → (e : Entry)
        → part kind (after e) ≡ part kind e
    other_after kind other e =
        part_with released kind (seen_released same selected votes (part released e)) e
        ∙ ap (λ b. cond b (seen_released same selected votes (part released e)) (part kind e)) other

    own_after : (kind : Kind) → is_kind released kind ≡ true → (e : Entry)
        → part kind (after e) ≡ seen_released same selected votes (part kind e)
    own_after kind own e =
        part_with released kind (seen_released same selected votes (part released e)) e
        ∙ ap (λ b. cond b (seen_released same selected votes (part released e)) (part kind e)) own
        ∙ ap (λ k. seen_released same selected votes (part k e)) (is_kind-true released kind own)

    facts_beside : (kind : Kind) → is_kind released kind ≡ false → (e : Entry)
        → facts_part kind (after e) ≡ facts_part kind e
    facts_beside kind other e = rw (other_after kind other e, key_after e)

    kept_beside : (kind : Kind) (its : List (Vote G D)) → is_kind released kind ≡ false
        → (e : Entry)
        → kept_part its kind (after e) ≡ kept_part its kind e
    kept_beside kind its other e = rw (other_after kind other e, key_after e)

    facts_own : (kind : Kind) → is_kind released kind ≡ true → (e : Entry)
        → may_say false kind votes (entry_key e) (part kind e) ≡ true
        → facts_part kind (after e) ≡ made_of (facts_of_kept same selected) (kept_part votes kind e)
    facts_own kind own e represents = rw (own_after kind own e, key_after e) (seen_shows kind votes (entry_key e) (part kind e) represents)

    represents_own : (kind : Kind) → is_kind released kind ≡ true → (e : Entry)
        → may_say false kind votes (entry_key e) (part kind e) ≡ true
        → may_say {G = G} {D = D} true kind [] (entry_key (after e)) (part kind (after e)) ≡ true
    represents_own kind own e represents = rw (own_after kind own e, key_after e) (seen_represents kind votes (entry_key e) (part kind e) represents)

    represents_beside : (b : Bool) (kind : Kind) (its : List (Vote G D)) → is_kind released kind
        ≡ false
        → (e : Entry) → may_say b kind its (entry_key e) (part kind e) ≡ true
        → may_say b kind its (entry_key (after e)) (part kind (after e)) ≡ true
    represents_beside b kind its other e represents = rw (other_after kind other e, key_after e) represents

    fits_beside : (b : Bool) (kind : Kind) (its : List (Vote G D)) (es : List Entry)
        → is_kind released kind ≡ false → Fits b kind its es → Fits b kind its (map after es)
    fits_beside b kind its es other fits =
        record {
          each =
              all_from_rec (λ e. may_say b kind its (entry_key e) (part kind e) ≡ true) (map after es)
              (all-map (λ e. may_say b kind its (entry_key e) (part kind e) ≡ true) (λ e. may_say b kind its (entry_key e) (part kind e) ≡ true) after
              (represents_beside b kind its other) es (rec_from_all (λ e. may_say b kind its (entry_key e) (part kind e) ≡ true) es fits.each));
          counted =
              fits.counted ∙ sym (count-map_same (λ e. has_index (part kind e)) after (λ e. ap has_index (other_after kind other e)) es);
        }

    fits_own : (kind : Kind) (es : List Entry) → is_kind released kind ≡ true
        → Fits false kind votes es → Fits {G = G} {D = D} true kind [] (map after es)
    fits_own kind es own fits =
        record {
          each =
              all_from_rec (λ e. may_say {G = G} {D = D} true kind [] (entry_key e) (part kind e) ≡ true) (map after es)
              (all-map (λ e. may_say false kind votes (entry_key e) (part kind e) ≡ true)
              (λ e. may_say {G = G} {D = D} true kind [] (entry_key e) (part kind e) ≡ true) after
              (represents_own kind own) es (rec_from_all (λ e. may_say false kind votes (entry_key e) (part kind e) ≡ true) es fits.each));
          counted =
              sym (count-map_none (λ e. has_index (part kind e)) after
              (λ e. ap has_index (own_after kind own e) ∙ none_left votes (part kind e)) es);
        }

    facts_all : (kind : Kind) (es : List Entry) → is_kind released kind ≡ true
        → Fits false kind votes es → filter_map (facts_part kind) (map after es)
        ≡ map (facts_of_kept same selected) (filter_map (kept_part votes kind) es)
    facts_all kind es own fits =
        filter_map-map_each (kept_part votes kind) (facts_part kind) after (facts_of_kept same selected) es
        (rec_weaker (λ e. may_say false kind votes (entry_key e) (part kind e) ≡ true)
        (λ e. facts_part kind (after e) ≡ made_of (facts_of_kept same selected) (kept_part votes kind e)) (facts_own kind own) es
        (rec_from_all (λ e. may_say false kind votes (entry_key e) (part kind e) ≡ true) es fits.each))

  -- b: the kind was compacted before; own: it is the one that is released
  module _ (released kind : Kind) (votes : List (Vote G D)) (its : List (Vote G D))
      (es : List Entry) where
    kept_after : (b own : Bool) → is_kind released kind ≡ own
        → kept_among (own || b) (cond own [] its) kind (map (after released votes) es)
        ≡ cond (own || b) [] (kept_among b its kind es)
    kept_after true true is = refl
    kept_after false true is = refl
    kept_after true false is = refl
    kept_after false false is = filter_map-map_same (kept_part its kind) (after released votes) (kept_beside released votes kind its is) es

    facts_after : (b own : Bool) → is_kind released kind ≡ own → (own ≡ true → b ≡ false)
        → (own ≡ true → votes ≡ its) → Fits b kind its es
        → facts_among (own || b) kind (map (after released votes) es)
        ≡ cond b (facts_among b kind es)
        (cond (own || b) (map (facts_of_kept same selected) (kept_among b its kind es)) [])
    facts_after true true is before theirs fits = let clash : true ≡ false = before refl in absurd (cc)
    facts_after false true is before theirs fits =
        let e : votes ≡ its = theirs refl in
        subst (λ v. filter_map (facts_part kind) (map (after released v) es)
        ≡ map (facts_of_kept same selected) (filter_map (kept_part its kind) es)) (sym e) (facts_all released its kind es is fits)
    facts_after true false is before theirs fits = filter_map-map_same (facts_part kind) (after released votes) (facts_beside released votes kind is) es
    facts_after false false is before theirs fits = refl

    fits_after : (b own : Bool) → is_kind released kind ≡ own → (own ≡ true → b ≡ false)
        → (own ≡ true → votes ≡ its) → Fits b kind its es
        → Fits (own || b) kind (cond own [] its) (map (after released votes) es)
    fits_after true true is before theirs fits = let clash : true ≡ false = before refl in absurd (cc)
    fits_after false true is before theirs fits =
        let e : votes ≡ its = theirs refl in
        subst (λ v. Fits {G = G} {D = D} true kind [] (map (after released v) es)) (sym e) (fits_own released its kind es is fits)
    fits_after true false is before theirs fits = fits_beside released votes true kind its es is fits
    fits_after false false is before theirs fits = fits_beside released votes false kind its es is fits

-- a kind that isn't compacted yet is released
module _ {G D : Type 0} (same : D → D → Bool) (c c' : PerKind Bool)
    (votes votes' : PerKind (List (Vote G D))) (es es' : List Entry)
    (selected : Option (Proposal D)) (released : Kind) (marked : c' ≡ with_mark released c)
    (dropped : votes' ≡ without released votes)
    (changed : es' ≡ map (entry_released same selected released (of_kind votes released)) es)
    (full : of_kind c released ≡ false)
    (fits : (kind : Kind) → Fits (of_kind c kind) kind (of_kind votes kind) es) where
  mark : (kind : Kind) → of_kind c' kind ≡ (is_kind released kind || of_kind c kind)
  mark kind = ap (λ x. of_kind x kind) marked ∙ of_kind-with_mark released c kind

  left : (kind : Kind) → of_kind votes' kind ≡ cond (is_kind released kind) [] (of_kind votes kind)
  left kind = ap (λ x. of_kind x kind) dropped ∙ of_kind-without released votes kind

  own_full : (kind : Kind) → is_kind released kind ≡ true → of_kind c kind ≡ false
  own_full kind own = ap (λ k. of_kind c k) (sym (is_kind-true released kind own)) ∙ full

  theirs_own : (kind : Kind) → is_kind released kind ≡ true
      → of_kind votes released ≡ of_kind votes kind
  theirs_own kind own = ap (λ k. of_kind votes k) (is_kind-true released kind own)

  pub released_now : (r : Bool) → r ≡ true → (kind : Kind) → ReleasesKind same
      (tracked_by c votes es) (tracked_by c' votes' es') selected (is_kind released kind && r) kind
  released_now r now kind =
      let is : (is_kind released kind && r) ≡ is_kind released kind = rw now (and-true (is_kind released kind)) in
      record {
        compacted = rw is (mark kind);
        kept =
            rw (kept_is c' votes' es' kind, kept_is c votes es kind, mark kind, left kind, changed)
            (kept_after same selected released kind (of_kind votes released) (of_kind votes kind) es (of_kind c kind) (is_kind released kind) refl);
        facts =
            rw (facts_is c' votes' es' kind, facts_is c votes es kind, kept_is c votes es kind, mark kind, changed)
            (facts_after same selected released kind (of_kind votes released) (of_kind votes kind) es (of_kind c kind) (is_kind released kind) refl
            (own_full kind) (theirs_own kind) (fits kind));
      }

  pub released_fits : (kind : Kind) → Fits (of_kind c' kind) kind (of_kind votes' kind) es'
  released_fits kind =
      rw (mark kind, left kind, changed)
      (fits_after same selected released kind (of_kind votes released) (of_kind votes kind) es (of_kind c kind) (is_kind released kind) refl
      (own_full kind) (theirs_own kind) (fits kind))

  -- the kinds that aren't released
  pub released_beside : (kind : Kind) → is_kind released kind ≡ false
      → SameTrackerState (tracked_by c votes es) (tracked_by c' votes' es') kind
  released_beside kind other =
      let it : of_kind c' kind ≡ of_kind c kind = mark kind ∙ ap (λ own. own || of_kind c kind) other in
      let votes_same : of_kind votes' kind ≡ of_kind votes kind = left kind ∙ ap (λ own. cond own [] (of_kind votes kind)) other in
      record {
        compacted = it;
        kept = rw (kept_is c' votes' es' kind, kept_is c votes es kind, it, votes_same, changed) (kept_same (of_kind c kind));
        facts = rw (facts_is c' votes' es' kind, facts_is c votes es kind, it, changed) (facts_same (of_kind c kind));
      } where
        kept_same : (b : Bool)
            → kept_among b (of_kind votes kind) kind
            (map (entry_released same selected released (of_kind votes released)) es)
            ≡ kept_among b (of_kind votes kind) kind es
        kept_same true = refl
        kept_same false =
            filter_map-map_same (kept_part (of_kind votes kind) kind) (entry_released same selected released (of_kind votes released))
            (kept_beside same selected released (of_kind votes released) kind (of_kind votes kind) other) es

        facts_same : (b : Bool)
            → facts_among b kind
            (map (entry_released same selected released (of_kind votes released)) es)
            ≡ facts_among b kind es
        facts_same true =
            filter_map-map_same (facts_part kind) (entry_released same selected released (of_kind votes released))
            (facts_beside same selected released (of_kind votes released) kind other) es
        facts_same false = refl

-- a kind that stays as it is
module _ {G D : Type 0} (same : D → D → Bool) (c : PerKind Bool) (votes : PerKind (List (Vote G D)))
    (es : List Entry) (selected : Option (Proposal D)) (released : Kind) where
  kept_as : (kind : Kind) (b : Bool)
      → kept_among b (of_kind votes kind) kind es
      ≡ cond b [] (kept_among b (of_kind votes kind) kind es)
  kept_as kind true = refl
  kept_as kind false = refl

  facts_as : (kind : Kind) (b : Bool) → facts_among b kind es ≡ cond b (facts_among b kind es)
      (cond b (map (facts_of_kept same selected) (kept_among b (of_kind votes kind) kind es)) [])
  facts_as kind true = refl
  facts_as kind false = refl

  none_of : (own r b : Bool) → r ≡ false → b ≡ ((own && r) || b)
  none_of true true b is = absurd (cc)
  none_of true false b is = refl
  none_of false r b is = refl

  pub released_none : (r : Bool) → r ≡ false → (kind : Kind) → ReleasesKind same
      (tracked_by c votes es) (tracked_by c votes es) selected (is_kind released kind && r) kind
  released_none r off kind =
      record {
        compacted = none_of (is_kind released kind) r (of_kind c kind) off;
        kept = rw (kept_is c votes es kind) (kept_as kind (of_kind c kind));
        facts = rw (facts_is c votes es kind, kept_is c votes es kind) (facts_as kind (of_kind c kind));
      }

  before_of : (kind : Kind) → of_kind c released ≡ true → (r : Bool)
      → of_kind c kind ≡ ((is_kind released kind && r) || of_kind c kind)
  before_of kind on r = either (is_kind released kind) refl r where
    either : (own : Bool) → is_kind released kind ≡ own → (r : Bool)
        → of_kind c kind ≡ ((own && r) || of_kind c kind)
    either true is true = ap (of_kind c) (sym (is_kind-true released kind is)) ∙ on
    either true is false = refl
    either false is r = refl

  pub released_before : (r : Bool) → of_kind c released ≡ true → (kind : Kind) → ReleasesKind same
      (tracked_by c votes es) (tracked_by c votes es) selected (is_kind released kind && r) kind
  released_before r on kind =
      record {
        compacted = before_of kind on r;
        kept = rw (kept_is c votes es kind) (kept_as kind (of_kind c kind));
        facts = rw (facts_is c votes es kind, kept_is c votes es kind) (facts_as kind (of_kind c kind));
      }
