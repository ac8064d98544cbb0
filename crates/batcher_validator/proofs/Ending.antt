-- With each task less is left to be given, so nothing is given for ever.
use Rattle.batcher_validator.proofs.Words.{◌≡◌, ◌<◌, ◌≤◌, ◌+◌, ◌⊎◌, ℕ, zero, suc, Bool, true, false, cond, List, [], ◌∷◌, Some, ap, arith, inl, inr, length}
use Rattle.batcher_validator.proofs.Words.{refl, set, subst, sym, not, count_by, filter, slice_get, le-ltb, lt-ltb, ltb-true, sum_by-cons, subject_certified}
use Rattle.batcher_validator.proofs.Words.{Certificate, FinalizationCertificate, NotarizationCertificate, NullificationCertificate, Proposal, Finalize, Vote}
use Rattle.batcher_validator.proofs.Words.{Participant, Conduct, NodeConfig, Cause, GivesOnAndOn, HasLessLeft, WaitsForVote, finals_left, is_final_after}
use Rattle.batcher_validator.proofs.Words.{others_left, ValidatorHistory, gave, Gives, IsRunning, ValidatorView, IsFinalAt, is_from, Task, Block, Final}
use Rattle.batcher_validator.proofs.Words.{SendVote, Sign}
use Rattle.batcher_validator.proofs.Words.{◌-◌, max, subject_of, is_earlier, IsPlaceFrom, IsPlaceToSend}

-- one for what passes a test
abbrev one_if : Bool → ℕ
one_if b = cond b 1 0

count_cons : {X : Type 0} (p : X → Bool) (x : X) (xs : List X)
    → count_by p (x ∷ xs) ≡ one_if (p x) + count_by p xs
count_cons p x xs = sum_by-cons (λ y. cond (p y) 1 0) x xs

pub one_less :
    (flags : List Bool) (i : ℕ) → slice_get flags i ≡ Some false
    → count_by not (set flags i true) + 1 ≡ count_by not flags
one_less [] i there = absurd cc
one_less (true ∷ flags) zero there = absurd cc
one_less (false ∷ flags) zero there = omega (arith, count_cons not true flags, count_cons not false flags)
one_less (b ∷ flags) (suc i) there =
    omega (arith, one_less flags i there, count_cons not b flags, count_cons not b (set flags i true))

-- fewer pass a test that fewer pass
module _ {X : Type 0} (p q r : X → Bool) (fewer : (x : X) → q x ≡ true → p x ≡ true) where
  no_more_of : (x : X) → one_if (q x) ≤ one_if (p x)
  no_more_of x = of_value (q x) refl
    where
      of_value : (b : Bool) → q x ≡ b → one_if (q x) ≤ one_if (p x)
      of_value true e = rw (e, fewer x e) (omega arith)
      of_value false e = rw (e) (omega arith)

  no_more : (xs : List X) → count_by q (filter r xs) ≤ count_by p xs
  no_more [] = omega arith
  no_more (x ∷ xs) = of_value (no_more xs) (r x) refl
    where
      of_value : count_by q (filter r xs) ≤ count_by p xs → (b : Bool) → r x ≡ b
          → count_by q (filter r (x ∷ xs)) ≤ count_by p (x ∷ xs)
      of_value rest true e =
          rw (e) (omega (arith, rest, no_more_of x, count_cons p x xs, count_cons q x (filter r xs)))
      of_value rest false e = rw (e) (omega (arith, rest, count_cons p x xs))

  pub one_fewer :
      (xs : List X) (i : ℕ) (y : X) → slice_get xs i ≡ Some y → p y ≡ true → q y ≡ false
      → count_by q (filter r xs) < count_by p xs
  one_fewer [] i y there passes fails = absurd cc
  one_fewer (x ∷ xs) zero y there passes fails = of_value (r x) refl
    where
      same : x ≡ y
      same = cc there

      is_one : one_if (p x) ≡ 1
      is_one = rw (same, passes) refl

      is_none : one_if (q x) ≡ 0
      is_none = rw (same, fails) refl

      of_value : (b : Bool) → r x ≡ b → count_by q (filter r (x ∷ xs)) < count_by p (x ∷ xs)
      of_value true e =
          rw (e) (omega (arith, no_more xs, count_cons p x xs, count_cons q x (filter r xs), is_one, is_none))
      of_value false e = rw (e) (omega (arith, no_more xs, count_cons p x xs, is_one))
  one_fewer (x ∷ xs) (suc i) y there passes fails = of_value (one_fewer xs i y there passes fails) (r x) refl
    where
      of_value : count_by q (filter r xs) < count_by p xs → (b : Bool) → r x ≡ b
          → count_by q (filter r (x ∷ xs)) < count_by p (x ∷ xs)
      of_value rest true e =
          rw (e) (omega (arith, rest, no_more_of x, count_cons p x xs, count_cons q x (filter r xs)))
      of_value rest false e = rw (e) (omega (arith, rest, count_cons p x xs))

-- Two numbers that get less as something goes on, the second while the first is the same, but for a
-- step of which there are no two in turn.
module _ (R : ℕ → Type 0) (F O : ℕ → ℕ) (W : (n : ℕ) → R n → Type 0) where
  abbrev pub Step : (n : ℕ) → R n → R (n + 1) → Type 0
  Step n r later =
      (F (n + 1) < F n) ⊎ ((F (n + 1) ≡ F n)
      × (((O (n + 1) ≡ O n) × ((W n r → ⊥) × W (n + 1) later)) ⊎ (O (n + 1) < O n)))

  abbrev pub GoesOn : Type 0
  GoesOn = (n : ℕ) (r : R n) → (later : R (n + 1)) × Step n r later

  module _ (goes : GoesOn) (f : ℕ) (lower : (n : ℕ) → R n → F n < f → ⊥) where
    module _ (o : ℕ) (fewer : (n : ℕ) → R n → F n < f + 1 → O n < o → ⊥) where
      waits : (n : ℕ) (r : R n) → F n < f + 1 → O n < o + 1 → W n r → ⊥
      waits n r here there waiting = elim ((goes n r).1) [
        | inl less ↦ lower (n + 1) (goes n r).0 (omega (arith, less, here))
        | inr (same, inl it) ↦ it.1.0 waiting
        | inr (same, inr less) ↦ fewer (n + 1) (goes n r).0 (omega (arith, same, here))
            (omega (arith, less, there))
      ]

      one : (n : ℕ) → R n → F n < f + 1 → O n < o + 1 → ⊥
      one n r here there = elim ((goes n r).1) [
        | inl less ↦ lower (n + 1) (goes n r).0 (omega (arith, less, here))
        | inr (same, inl it) ↦ waits (n + 1) (goes n r).0 (omega (arith, same, here))
            (omega (arith, it.0, there)) it.1.1
        | inr (same, inr less) ↦ fewer (n + 1) (goes n r).0 (omega (arith, same, here))
            (omega (arith, less, there))
      ]

    second : (o n : ℕ) → R n → F n < f + 1 → O n < o → ⊥
    second zero n r here there = absurd (omega (arith, there))
    second (suc o) n r here there =
        one o (λ m later. second o m later) n r here (omega (arith, there))

  first : GoesOn → (f n : ℕ) → R n → F n < f → ⊥
  first goes zero n r here = absurd (omega (arith, here))
  first goes (suc f) n r here =
      second goes f (λ m later. first goes f m later) (O n + 1) n r (omega (arith, here)) (omega arith)

  pub never : GoesOn → R 0 → ⊥
  never goes r = first goes (F 0 + 1) 0 r (omega arith)

-- with a vote that is sent, or sent again, fewer are left
fewer_votes :
    (all sent resent place next : ℕ) → place < all
    → (place ≡ sent) ⊎ ((resent ≤ place) × (place < sent)) → place + 1 ≤ next
    → (all - max sent (place + 1)) + (max sent (place + 1) - next) < (all - sent) + (sent - resent)
fewer_votes all sent resent place next lt (inl end) behind = omega (arith, lt, end, behind)
fewer_votes all sent resent place next lt (inr before) behind =
    omega (arith, lt, before.0, before.1, behind)

finalized : {D : Type 0} (q p : Proposal D) → Finalize q ≡ Finalize p → q ≡ p
finalized q p e = cc e

module _ {C D : Type 0} where
  -- a finalization of a view after one, and not of one after itself
  is_after :
      (view : ℕ) (c : Certificate C D) (p : Proposal D) → subject_certified c ≡ Finalize p
      → view < p.round.view.0 → is_final_after view c ≡ true
  is_after view (FinalizationCertificate f) p e lt =
      lt-ltb view f.proposal.round.view.0
      (subst (λ (q : Proposal D). view < q.round.view.0) (sym (finalized f.proposal p e)) lt)
  is_after view (NotarizationCertificate n) p e lt = absurd cc
  is_after view (NullificationCertificate n) p e lt = absurd cc

  not_after :
      (c : Certificate C D) (p : Proposal D) → subject_certified c ≡ Finalize p
      → is_final_after p.round.view.0 c ≡ false
  not_after (FinalizationCertificate f) p e =
      le-ltb p.round.view.0 f.proposal.round.view.0
      (omega (arith, ap (λ (q : Proposal D). q.round.view.0) (finalized f.proposal p e)))
  not_after (NotarizationCertificate n) p e = absurd cc
  not_after (NullificationCertificate n) p e = absurd cc

  -- what is after a view is after each before that
  after_more :
      (low high : ℕ) → low < high → (c : Certificate C D) → is_final_after high c ≡ true
      → is_final_after low c ≡ true
  after_more low high lt (FinalizationCertificate f) e =
      lt-ltb low f.proposal.round.view.0
      (omega (arith, lt, ltb-true high f.proposal.round.view.0 e))
  after_more low high lt (NotarizationCertificate n) e = absurd cc
  after_more low high lt (NullificationCertificate n) e = absurd cc

module _ {S D K G C L : Type 0} (x : NodeConfig D K G C) (old new : ValidatorView S G D L C) where
  pub final_less :
      (p : Proposal D) (i : ℕ) → IsFinalAt old.given.announced old.shelf.certificates i p
      → new.given.announced ≡ p.round.view.0
      → new.shelf.certificates ≡ filter (is_from p.round.view.0) old.shelf.certificates
      → HasLessLeft x old new (Final p)
  final_less p i at announced certificates =
      rw (announced, certificates)
      (one_fewer (is_final_after old.given.announced) (is_final_after p.round.view.0)
      (is_from p.round.view.0) (after_more old.given.announced p.round.view.0 at.after)
      old.shelf.certificates i at.certificate at.there
      (is_after old.given.announced at.certificate p at.is_of at.after)
      (not_after at.certificate p at.is_of))

  module _ (voter : new.voter ≡ old.voter) (shelf : new.shelf ≡ old.shelf) where
    pub block_less :
        (who : Participant) (cause : Cause) → slice_get old.given.blocked who.0 ≡ Some false
        → new.given ≡ record old.given { blocked = set old.given.blocked who.0 true }
        → HasLessLeft x old new (Block who cause)
    block_less who cause there given = (
      rw (given, shelf) refl,
      rw (given, voter, shelf) (omega (arith, one_less old.given.blocked who.0 there)),
    )

    pub vote_less :
        (vote : Vote G D) (place next : ℕ)
        → place < length old.voter.journal.contents.votes → IsPlaceToSend old place
        → IsPlaceFrom old.given.resending.from old.voter.journal.contents.votes (place + 1)
        (max old.given.tally.sent (place + 1)) next
        → new.given ≡ record old.given {
          tally = record old.given.tally {
            sent = max old.given.tally.sent (place + 1);
            resent = next;
          };
        }
        → HasLessLeft x old new (SendVote vote)
    vote_less vote place next lt here behind given = (
      rw (given, shelf) refl,
      rw (given, voter, shelf) (omega (
        arith,
        fewer_votes (length old.voter.journal.contents.votes) old.given.tally.sent old.given.tally.resent
            place next lt (place_at here.found) (next_at behind.found),
      )),
    )
      where
        place_at :
            (place ≡ old.given.tally.sent)
            ⊎ ((old.given.tally.resent ≤ place) × ((place < old.given.tally.sent)
            × ((w : Vote G D) → slice_get old.voter.journal.contents.votes place ≡ Some w
            → is_earlier old.given.resending.from (subject_of w) ≡ false)))
            → (place ≡ old.given.tally.sent)
            ⊎ ((old.given.tally.resent ≤ place) × (place < old.given.tally.sent))
        place_at (inl end) = inl end
        place_at (inr before) = inr (before.0, before.1.0)

        next_at :
            (next ≡ max old.given.tally.sent (place + 1))
            ⊎ ((place + 1 ≤ next) × ((next < max old.given.tally.sent (place + 1))
            × ((w : Vote G D) → slice_get old.voter.journal.contents.votes next ≡ Some w
            → is_earlier old.given.resending.from (subject_of w) ≡ false)))
            → place + 1 ≤ next
        next_at (inl end) = omega (arith, end)
        next_at (inr before) = before.0

-- What a validator went through, as it is polled again and again.
module _ {S D K G C L : Type 0} (x : NodeConfig D K G C) (earlier : Conduct D) where
  abbrev Run : ValidatorView S G D L C → Type 0
  Run validator = (past : ValidatorHistory D K G C) × IsRunning x past earlier validator

  abbrev next :
      (old new : ValidatorView S G D L C) (task : Task G D) → Gives x old new task → Run old
      → Run new
  next old new (Final p) gives (past, is) = (_, gives.1.1 past earlier is)
  next old new task gives (past, is) = (gave task ∷ past, gives past earlier is)

-- Nothing is given for ever.
module _ {S D K G C L : Type 0} (x : NodeConfig D K G C) (validator : ℕ → ValidatorView S G D L C)
    (task : ℕ → Task G D) (it : GivesOnAndOn x validator task) where
  abbrev Runs : ℕ → Type 0
  Runs n = Run x it.earlier (validator n)

  abbrev Waits : (n : ℕ) → Runs n → Type 0
  Waits n run = WaitsForVote x run.0 it.earlier (validator n)

  abbrev Goes : (n : ℕ) → Runs n → Runs (n + 1) → Type 0
  Goes n run later =
      Step Runs (λ m. finals_left (validator m)) (λ m. others_left (validator m)) Waits n run later

  of_task :
      (n : ℕ) (run : Runs n) (t : Task G D)
      (gives : Gives x (validator n) (validator (n + 1)) t)
      → HasLessLeft x (validator n) (validator (n + 1)) t
      → Goes n run (next x it.earlier (validator n) (validator (n + 1)) t gives run)
  of_task n run (Final p) gives less = inl less
  of_task n (past, is) (Sign s) gives less =
      let waits = less.1.1 past it.earlier is in
      inr (less.0, inl (less.1.0, (waits.0, waits.1)))
  of_task n run t gives less = inr (less.0, inr less.1)

  pub comes_to_an_end : ⊥
  comes_to_an_end =
      never Runs (λ m. finals_left (validator m)) (λ m. others_left (validator m)) Waits
      (λ n run. (
        next x it.earlier (validator n) (validator (n + 1)) (task n) (it.gives n) run,
        of_task n run (task n) (it.gives n) (it.less n),
      ))
      (it.past, it.begins)
