use Rattle.batcher_round.proofs.Words.{◌≡◌, ◌≤◌, ◌∙◌, ℕ, Bool, true, false, ap, sym, refl, arith, Notarization, Finalization, of_kind}
use Rattle.batcher_round.proofs.round.ballots.reserve_to_fix.Goals as goal

-- none is counted of a kind that is compacted
counted : (compacted : Bool) (n m : ℕ) → (compacted ≡ true → n ≡ 0) → (compacted ≡ false → n ≤ m)
    → n ≤ m
counted true n m none some = let zero = none refl in omega (arith, zero)
counted false n m none some = some refl

pub returns-in_err-reserve_for-clause-no_memory : goal.returns-in_err-reserve_for-clause-no_memory
returns-in_err-reserve_for-clause-no_memory g c = λ enough.
    let wrong =
    c.in_err-reserve_for.ensures.no_memory
    (λ own uncertified. counted (of_kind c.args.tracker.now.holds.compacted Notarization) _ _ c.count_for-notarizes.ensures.none
    (λ full. rw c.count_for-notarizes.ensures.count
    (enough c.in-Some.proposal c.in-Some.is (sym c.if-not-replaces.ensures) Notarization refl own full uncertified))) in
    absurd (cc)

pub returns-clause-no_memory : goal.returns-clause-no_memory
returns-clause-no_memory g c = λ enough.
    let made = c.in_ok-reserve_for.ensures in
    c.reserve_for-2.ensures.no_memory
    (λ own uncertified. counted (of_kind c.args.tracker.now.holds.compacted Finalization) _ _ c.count_for-finalizes.ensures.none
    (λ full.
    let more = made.grows.1.pending Finalization in
    let count = c.count_for-finalizes.ensures.count in
    let room = enough c.in-Some.proposal c.in-Some.is (sym c.if-not-replaces.ensures) Finalization refl own full
    (ap (λ h. of_kind h.certified Finalization) (sym made.grows.2) ∙ uncertified) in
    omega (arith, more, room, count)))
