-- What was handed out of a validator, and the verdicts on it.
use Rattle.batcher_ffi.proofs.Words.{◌≡◌, ◌≢◌, ◌∙◌, ◌||◌, ap, inl, inr, refl, sym, same_Some, ℕ, Bool, true, false, true≢false, List, Option, None, Some}
use Rattle.batcher_ffi.proofs.Words.{◌==◌, Attestation, CValidator, DONE, IDLE, IsSomeAnd, Kind, OUT_OF_MEMORY, STALE, Sha256Digest, Signature, Subject}
use Rattle.batcher_ffi.proofs.Words.{AreJudged, AreThere, AsksEarly, AsksOfNext, ConcludesJudged, IsNotJudged, HasUnverified}
use Rattle.batcher_ffi.proofs.Words.{JudgedValidatorView, JudgesStamped, LendsNone, LendsWithin, LooksAtNow, LooksAtThere, Output, RequestView, RequestsView}
use Rattle.batcher_ffi.proofs.Words.{RestsWithout, RoundView, Slot, TakesVerdictsOf, request_at, request_key, request_key_in}
use Rattle.batcher_histories.specs.Config.{Config}

-- A construction looks at one list, of one subject.
pub one_looked_at : {S D K G C : Type 0} (round_config : RoundView S G D → Config D K G C)
    (at : Option (Slot (RoundView S G D))) (s t : Subject D) (xs ys : List (Attestation G))
    → LooksAtThere round_config at s xs → LooksAtThere round_config at t ys → (s ≡ t) × (xs ≡ ys)
one_looked_at round_config at s t xs ys one other =
    let slots : one.slot ≡ other.slot = same_Some _ _ (sym one.there ∙ other.there) in
    let looks = rw slots at one.looks in (
      same_Some _ _ (sym looks.0 ∙ other.looks.0),
      sym looks.1 ∙ other.looks.1,
    )

-- At a key one list is judged, of one subject.
pub one_judged : (at : Option (RequestView Signature Sha256Digest))
    (s t : Subject Sha256Digest) (xs ys : List (Attestation Signature)) (us vs : List Bool)
    → IsSomeAnd at (λ r. AreJudged r s xs us) → IsSomeAnd at (λ r. AreJudged r t ys vs)
    → (s ≡ t) × (xs ≡ ys)
one_judged (Some r) s t xs ys us vs one other = (
  same_Some _ _ (sym one.about ∙ other.about),
  sym one.listed ∙ other.listed,
)
one_judged None s t xs ys us vs one other = absurd one

module _ (j : JudgedValidatorView) (subject : Subject Sha256Digest)
    (waiting : List (Attestation Signature)) (looks_at : LooksAtNow j.validator subject waiting)
    (key : ℕ) (key_is : key ≡ request_key subject) where
  -- Where nothing is judged at its key, the next construction isn't.
  pub nothing_judged : ((s : Subject Sha256Digest) (list : List (Attestation Signature))
      (verdicts : List Bool) → AreThere j.requests key s list verdicts → ⊥) → IsNotJudged j
  nothing_judged none view s list verdicts next looks there =
      let same = one_looked_at _ _ _ _ _ _ looks (looks_at view next) in
      none s list verdicts (rw (key_is, sym same.0) there)

  -- nor where something else is
  pub other_judged : (s : Subject Sha256Digest) (list : List (Attestation Signature))
      (verdicts : List Bool) → AreThere j.requests key s list verdicts
      → (s ≡ subject → list ≡ waiting → ⊥) → IsNotJudged j
  other_judged s list verdicts there unlike view t more others next looks here =
      let same = one_looked_at _ _ _ _ _ _ looks (looks_at view next) in
      let both = one_judged (request_at j.requests key) s t list more verdicts others there
      (rw (key_is, sym same.0) here) in
      unlike (both.0 ∙ same.0) (both.1 ∙ same.1)

-- Codes that are among three are among four.
one_of_four : (a b c d : Bool) → (a || (b || (c || false))) ≡ true
    → (a || (b || (d || (c || false)))) ≡ true
one_of_four true b c d is = refl
one_of_four false true c d is = refl
one_of_four false false true true is = refl
one_of_four false false true false is = refl
one_of_four false false false d is = absurd (true≢false (sym is))

-- Where all that was handed out is judged, something is there.
not_nothing : (at : Option (RequestView Signature Sha256Digest))
    → IsSomeAnd at (λ r. (s : Subject Sha256Digest) × AreJudged r s r.handed.list r.handed.verdicts)
    → ((s : Subject Sha256Digest) (list : List (Attestation Signature)) (verdicts : List Bool)
    → IsSomeAnd at (λ r. AreJudged r s list verdicts) → ⊥)
    → ⊥
not_nothing (Some r) judged none = none judged.0 _ _ judged.1
not_nothing None judged none = judged

-- Verdicts that are taken in conclude the next construction, if they are on what it looks at.
pub takes_of : (before after : JudgedValidatorView) (code : ℕ)
    (taken : RequestsView Signature Sha256Digest) (view : ℕ) (kind : Kind) (stamp : ℕ)
    (verdicts : List Bool)
    → JudgesStamped before.requests taken (request_key_in kind view) stamp verdicts
    → IsSomeAnd (request_at taken (request_key_in kind view)) (λ r. (s : Subject Sha256Digest)
    × AreJudged r s r.handed.list r.handed.verdicts)
    → ConcludesJudged (record { validator = before.validator; requests = taken }) code after
    kind view
    → TakesVerdictsOf before code after view kind stamp verdicts
takes_of before after code taken view kind stamp verdicts judges judged (inl at) =
    let not_stale : code ≢ STALE = λ is. true≢false (sym (rw is at at.concluded.codes)) in
    record {
      codes = one_of_four (DONE == code) (IDLE == code) (OUT_OF_MEMORY == code) (STALE == code)
          at.concluded.codes;
      stale = λ is. absurd (not_stale is);
      stays = λ is. absurd (not_stale is);
      taken = λ _. rw at.requests judges;
      concluded = λ _. (at.subject, (at.list, (at.verdicts, (rw at.requests at.there, at.concluded))));
    }
takes_of before after code taken view kind stamp verdicts judges judged (inr none) =
    absurd (not_nothing (request_at taken (request_key_in kind view)) judged none.1.1)

module _ (before : JudgedValidatorView) (code : ℕ) (was is : Output)
    (unverified : HasUnverified before.validator) (unjudged : IsNotJudged before) where
  -- Where all of the next one is asked about, others are.
  pub lends_ahead : (mid after : JudgedValidatorView) (between : Output)
      → AsksOfNext before IDLE mid was between → AsksEarly mid code after between is
      → LendsWithin before code after was is
  lends_ahead mid after between next early =
      let stays = next.asks.stays (λ e. true≢false (cc)) in
      let same : mid ≡ before = λ i. record {
        validator = next.validator i;
        requests = stays.0 i;
      } in
      inr (
        unverified,
        inr (
          unjudged,
          inr (inl (record {
            subject = next.subject;
            waiting = next.waiting;
            looks_at = next.looks_at;
            asked = next.asks.none refl;
            early = rw (sym same, sym stays.1) early;
          })),
        ),
      )

  pub lends_next : (after : JudgedValidatorView) → code ≢ IDLE → AsksOfNext before code after was is
      → LendsWithin before code after was is
  lends_next after some asks = inr (unverified, inr (unjudged, inl (some, asks)))

  -- Where no kind is ready, the view rests.
  pub lends_rest : (mid : JudgedValidatorView) (after : CValidator) → mid ≡ before → is ≡ was
      → LendsNone before.validator → RestsWithout mid.validator code after
      → LendsWithin before code (record { validator = after; requests = mid.requests }) was is
  lends_rest mid after same stays none rests =
      inr (
        unverified,
        inr (
          unjudged,
          inr (inr (record {
            none = none;
            rests = rw same at rests;
            requests = ap (λ j. j.requests) same;
            stays = stays;
          })),
        ),
      )
