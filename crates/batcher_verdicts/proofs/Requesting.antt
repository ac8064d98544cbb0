-- What is handed out, and the verdicts that come back.
use Rattle.batcher_verdicts.proofs.Words.{◌≡◌, ◌≢◌, ◌≤◌, ◌<◌, ◌⊎◌, ◌++◌, ◌+◌, ◌*◌, ◌∙◌, inl, inr, refl, sym, ap, subst, ℕ}
use Rattle.batcher_verdicts.proofs.Words.{Bool, List, [], length, take, drop, map}
use Rattle.batcher_verdicts.proofs.Words.{Bor, Option, None, Some, IfSome, Result, Ok, Err, IfOk, cases_eq, cases_lt}
use Rattle.batcher_verdicts.proofs.Words.{take-length, take-map, take-take, map-append, length-map, length-append, length-take-le, take-append-drop, arith}
use Rattle.batcher_verdicts.proofs.Words.{Attestation, Subject, AllHaveTrueVerdicts, AreJudged, DropsBefore, HasTrueVerdicts}
use Rattle.batcher_verdicts.proofs.Words.{RequestView, RequestsView, judged_by, IsLeftAt, is_at, nat_cmp, request_at, set_value, set_value_same}

-- Where the verdicts on the first ones are the scheme's, and those on the others, all are.
pub all_true : {X : Type 0} (f : X → Bool) (list : List X) (first later : List Bool) (n : ℕ)
    → n ≤ length first → first ≡ map f (take (length first) list) → later ≡ map f (drop n list)
    → take n first ++ later ≡ map f (take (length (take n first ++ later)) list)
all_true f list first later n within are others =
    let behind : take n first ≡ map f (take n list) =
    ap (take n) are ∙ take-map f n (take (length first) list)
    ∙ ap (map f) (take-take n (length first) list within) in
    let all : take n first ++ later ≡ map f list =
    ap (λ l. l ++ later) behind ∙ ap (λ l. map f (take n list) ++ l) others
    ∙ sym (map-append f (take n list) (drop n list)) ∙ ap (map f) (take-append-drop n list) in
    all ∙ sym (ap (map f) (ap (λ l. take (length l) list) all
    ∙ ap (λ k. take k list) (length-map list f) ∙ take-length list))

-- the same of a request, by its subject
pub true_by_judging : {G D : Type 0} (attests : Subject D → Attestation G → Bool)
    (about : Option (Subject D)) (list : List (Attestation G)) (first later : List Bool) (n : ℕ)
    → n ≤ length first → (all : List Bool) → all ≡ take n first ++ later
    → IfSome about (λ s. first ≡ map (attests s) (take (length first) list))
    → IfSome about (λ s. later ≡ map (attests s) (drop n list))
    → IfSome about (λ s. all ≡ map (attests s) (take (length all) list))
true_by_judging attests (Some s) list first later n within all is are others =
    rw is (all_true (attests s) list first later n within are others)
true_by_judging attests None list first later n within all is are others = tt

-- Once they are taken in, a verdict is there on each that was handed out.
pub complete_by : {G D : Type 0} (r new : RequestView G D) (verdicts : List Bool) (s : Subject D)
    → new ≡ judged_by verdicts r → r.handed.subject ≡ Some s → r.behind ≤ length r.handed.verdicts
    → length verdicts + r.behind ≡ length r.handed.list
    → AreJudged new s new.handed.list new.handed.verdicts
complete_by r new verdicts s is about within each =
    rw is (record {
      about = about;
      listed = refl;
      judged = refl;
      each = length-append (take r.behind r.handed.verdicts) verdicts
          ∙ omega (arith, length-take-le r.behind r.handed.verdicts within, each);
    })

module _ {G D : Type 0} (old new : RequestsView G D) (key : ℕ) (after : Option (RequestView G D))
    (here : request_at new key ≡ after)
    (others : (other : ℕ) → other ≢ key → request_at new other ≡ request_at old other) where
  at_each : (P : Option (RequestView G D) → Option (RequestView G D) → Type 0)
      → P (request_at old key) after → ((at : Option (RequestView G D)) → P at at) → (other : ℕ)
      → P (request_at old other) (request_at new other)
  at_each P at_key same other = at_other (cases_eq other key)
    where
      at_other : (other ≡ key) ⊎ (other ≢ key) → P (request_at old other) (request_at new other)
      at_other (inl is) = rw (is, here) at_key
      at_other (inr apart) = rw (others other apart) (same (request_at old other))

  -- Where the request of one key changes, the verdicts of all stay the scheme's if its do.
  pub all_have_true : (attests : Subject D → Attestation G → Bool)
      → IfSome after (HasTrueVerdicts attests)
      → AllHaveTrueVerdicts attests old → AllHaveTrueVerdicts attests new
  all_have_true attests at_key before other =
      at_each (λ was is. IfSome was (HasTrueVerdicts attests) → IfSome is (HasTrueVerdicts attests))
      (λ _. at_key) (λ at h. h) other (before other)

-- Where one request is put back as it was, all are as they were.
pub same_put : {G D : Type 0} (old : RequestsView G D) (entries : List (ℕ × RequestView G D))
    (key : ℕ) (was is : RequestView G D)
    → entries ≡ set_value (is_at (nat_cmp key)) old.all is → request_at old key ≡ Some was
    → is ≡ was → record { all = entries; next = old.next; first = old.first } ≡ old
same_put old entries key was is put there same =
    ap (λ all. record { all = all; next = old.next; first = old.first }) (put
    ∙ set_value_same (is_at (nat_cmp key)) old.all is (there ∙ ap Some (sym same)))

pub same_ok : {G D A E : Type 0} (r : Result (Bor (List A)) E) (new old : RequestsView G D)
    (was is : RequestView G D) → (is ≡ was → new ≡ old) → IfOk r (λ left. left.now ≡ [] → is ≡ was)
    → IfOk r (λ left. left.now ≡ [] → new ≡ old)
same_ok (Ok left) new old was is back stays = λ none. back (stays none)
same_ok (Err e) new old was is back stays = tt

-- what holds of the verdicts of a request that is there
pub true_at : {G D : Type 0} (attests : Subject D → Attestation G → Bool) (r : RequestView G D)
    (requests : RequestsView G D) (key : ℕ) → request_at requests key ≡ Some r
    → AllHaveTrueVerdicts attests requests → HasTrueVerdicts attests r
true_at attests r requests key there all =
    subst (λ at. IfSome at (HasTrueVerdicts attests)) there (all key)

-- Where all are as they were, their verdicts are the scheme's.
pub same_true : {G D : Type 0} (attests : Subject D → Attestation G → Bool)
    (old new : RequestsView G D) → ((key : ℕ) → request_at new key ≡ request_at old key)
    → AllHaveTrueVerdicts attests old → AllHaveTrueVerdicts attests new
same_true attests old new same before key =
    subst (λ at. IfSome at (HasTrueVerdicts attests)) (sym (same key)) (before key)

-- Verdicts that are there on all that was handed out are the scheme's.
pub judged_true : {G D : Type 0} (attests : Subject D → Attestation G → Bool) (r : RequestView G D)
    (o : Option (Bor (Subject D) × Bor (List (Attestation G)) × Bor (List Bool)))
    → IfSome o (λ it. AreJudged r it.0.now it.1.now it.2.now) → HasTrueVerdicts attests r
    → IfSome o (λ it. it.2.now ≡ map (attests it.0.now) it.1.now)
judged_true attests r (Some it) judged before =
    all_are (subst (λ o. IfSome o (λ s. r.handed.verdicts
    ≡ map (attests s) (take (length r.handed.verdicts) r.handed.list))) judged.about before)
  where
    all_are : r.handed.verdicts
        ≡ map (attests it.0.now) (take (length r.handed.verdicts) r.handed.list)
        → it.2.now ≡ map (attests it.0.now) it.1.now
    all_are first =
        sym judged.judged ∙ first
        ∙ ap (map (attests it.0.now)) (ap (λ k. take k r.handed.list)
        (ap length judged.judged ∙ judged.each ∙ sym (ap length judged.listed))
        ∙ take-length r.handed.list ∙ judged.listed)
judged_true attests r None judged before = tt

-- the same of those that aren't dropped
pub fewer_true : {G D : Type 0} (attests : Subject D → Attestation G → Bool)
    (old new : RequestsView G D) (view : ℕ) → DropsBefore old new view
    → AllHaveTrueVerdicts attests old → AllHaveTrueVerdicts attests new
fewer_true attests old new view drops before key = at_this (cases_lt key (view * 3))
  where
    at_this : (key < view * 3) ⊎ (view * 3 ≤ key)
        → IfSome (request_at new key) (HasTrueVerdicts attests)
    at_this (inl below) = subst (λ at. IfSome at (HasTrueVerdicts attests)) (sym (drops.gone key below)) tt
    at_this (inr kept) = subst (λ at. IfSome at (HasTrueVerdicts attests)) (sym (drops.kept key kept)) (before key)

-- Where nothing is requested and something waits, something is left.
pub not_none_left : {G D : Type 0} (at : Option (RequestView G D)) (subject : Subject D)
    (waiting : List (Attestation G)) → at ≡ None → waiting ≢ [] → IsLeftAt at subject waiting []
    → ⊥
not_none_left at subject waiting none some left =
    some (sym (subst (λ o. IsLeftAt o subject waiting []) none left))
