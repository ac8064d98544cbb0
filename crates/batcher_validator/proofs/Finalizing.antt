-- A proposal is given as final, as its view is made the final one.
use Rattle.batcher_validator.proofs.Words.{◌≡◌, ◌≢◌, ◌⊎◌, ◌<◌, ◌≤◌, ◌∙◌, ℕ, true, false, [], ◌∷◌, ap, arith, inl, inr, max, refl, subst, sym, take, Contains}
use Rattle.batcher_validator.proofs.Words.{unwrap_or, count_by, filter, certifies_itself, kind_certified, round_in, subject_certified, Certificate}
use Rattle.batcher_validator.proofs.Words.{Finalization, Proposal, Finalize, called, verified, Conduct, cause_in, view_finalized, NodeConfig, Tally, ForEachRun}
use Rattle.batcher_validator.proofs.Words.{GivenView, Gives, IsRunning, RunStays, ValidatorView, tally_from, left_of, IsFinalAt, is_from, calls_in}
use Rattle.batcher_validator.proofs.Words.{HasHad, HasHanded, ValidatorHistory, did, gave, voter_history, window_by, Final, IsRaised}
use Rattle.batcher_validator.proofs.Words.{ForEachLife, IsVoting, VoterStays, IsLowestFinal, IsNextFinal, HasAnnouncedFrom, Kind, Round, cases_lt}
use Rattle.batcher_validator.proofs.Intending.{still_intent}
use Rattle.batcher_validator.proofs.Giving.{contained, final_of, kind_of}
use Rattle.batcher_validator.proofs.Going.{or_none, goes_on, sent_raised, sent_still}
use Rattle.batcher_validator.proofs.Keeping.{first_from, kept_from, kept_still}

finalized : {D : Type 0} (p q : Proposal D) → Finalize p ≡ Finalize q → p ≡ q
finalized p q e = cc e

module _ {S D K G C L : Type 0} (x : NodeConfig D K G C) (old new : ValidatorView S G D L C)
    (c : Certificate C D) (there : Contains old.shelf.certificates c) where
  module _ (p : Proposal D) (is_of : subject_certified c ≡ Finalize p)
      (voting : ForEachLife x old.voter (λ past earlier. IsVoting x
      (called (view_finalized p.round.view.0) ∷ verified c ∷ past) earlier new.voter))
      (raised : IsRaised p.round old.voter.journal new.voter.journal)
      (unannounced : old.given.announced < p.round.view.0)
      (lowest : IsLowestFinal old.given.announced old.shelf.certificates p)
      (given : new.given ≡ record old.given {
        tally = tally_from p.round old;
        announced = p.round.view.0;
      })
      (certificates : new.shelf.certificates ≡ filter (is_from p.round.view.0) old.shelf.certificates)
      (handed : new.shelf.handed
      ≡ count_by (is_from p.round.view.0) (take old.shelf.handed old.shelf.certificates)) where
    -- after the view was made the final one, and before its proposal was given
    abbrev Moved : ValidatorView S G D L C
    Moved = record {
      voter = new.voter;
      given = record old.given { tally = tally_from p.round old };
      shelf = new.shelf;
    }

    module _ (past : ValidatorHistory D K G C) (earlier : Conduct D) (is : IsRunning x past earlier old) where
      abbrev Before : ValidatorHistory D K G C
      Before = did (called (view_finalized p.round.view.0)) ∷ did (verified c) ∷ past

      round_is : round_in (subject_certified c) ≡ p.round
      round_is = ap round_in is_of

      up : (window_by past).finalized ≤ p.round.view.0
      up = omega (arith, (is.kept.looked_at c there).from_first, ap (λ r. r.view.0) round_is)

      had : (d : Certificate C D) → HasHad Before d → (c ≡ d) ⊎ HasHad past d
      had d (inl held) = absurd cc
      had d (inr (inl held)) = inl (ap (λ o. unwrap_or o c) held)
      had d (inr (inr before)) = inr before

      more : (d : Certificate C D) → HasHad past d → HasHad Before d
      more d was = inr (inr was)

      moved : IsRunning x Before earlier Moved
      moved =
          goes_on x old Moved (called (view_finalized p.round.view.0) ∷ verified c ∷ []) past earlier
          (left_of p.round old.voter.journal.contents.votes) is
          (voting (voter_history past) earlier is.voting)
          (λ opened. (
            raised.was_open,
            λ is_exempt Was count are. sent_raised is_exempt Was old.voter.journal new.voter.journal count p.round raised are,
          ))
          (λ yes. (yes, λ i. or_none (cause_in x (calls_in past) i)))
          old.given.presence is.hears refl
          (rw (certificates) (kept_from x past Before p.round.view.0 refl up c had more old.shelf.certificates there is.kept))
          (rw (certificates, handed) (first_from x past Before p.round.view.0 refl up c had more old.shelf.certificates
          there (λ key. HasHanded past key) old.shelf.handed is.certificates))

      -- what counted before and is of a lower view was given as final
      next_final : IsNextFinal x Before p
      next_final d counts q of_q some = of_cases counts.had
        where
          before : HasHad past d
              → (p.round.view.0 ≤ q.round.view.0) ⊎ HasAnnouncedFrom Before q.round.view.0
          before was =
              let it = is.kept.are_there d (record { had = was; looked_at = counts.looked_at }) in
              let other = final_of it.item (ap (λ (k : Kind × Round). k.0) it.is_of ∙ kind_of d q of_q) in
              let round : other.0.round ≡ q.round =
              sym (ap round_in other.1) ∙ ap (λ (k : Kind × Round). k.1) it.is_of ∙ ap round_in of_q in
              let view : other.0.round.view.0 ≡ q.round.view.0 = ap (λ (r : Round). r.view.0) round in
              elim (cases_lt old.given.announced q.round.view.0) [
                | inl above ↦
                    let up : old.given.announced < other.0.round.view.0 = omega (arith, view, above) in
                    inl (omega (arith, view, lowest it.item it.there other.0 other.1 up))
                | inr within ↦ inr (moved.finals.were_asked q.round.view.0 some within)
              ]

          of_cases :
              HasHad (did (verified c) ∷ past) d
              → (p.round.view.0 ≤ q.round.view.0) ⊎ HasAnnouncedFrom Before q.round.view.0
          of_cases (inl held) =
              let same : c ≡ d = ap (λ o. unwrap_or o c) held in
              let one : Finalize p ≡ Finalize q = sym is_of ∙ ap subject_certified same ∙ of_q in
              inl (omega (arith, ap (λ (r : Proposal D). r.round.view.0) (finalized p q one)))
          of_cases (inr was) = before was

      gives : IsRunning x (gave (Final p) ∷ Before) earlier new
      gives =
          record {
            voting = moved.voting;
            in_turn = (
              (
                record {
                  certificate = c;
                  had = inr (inl refl);
                  is_of = is_of;
                  certifies = is.kept.certify c there;
                },
                (
                  window,
                  (
                    λ was. absurd (omega (arith, unannounced, moved.finals.no_others p.round.view.0 was)),
                    next_final,
                  ),
                ),
              ),
              moved.in_turn,
            );
            blocks = rw (given) moved.blocks;
            calms = rw (given) moved.calms;
            finals = rw (given) (record {
              were_asked = λ v some within. inl within;
              no_others = λ v has. elim has [
                | inl within ↦ within
                | inr before ↦ omega (arith, moved.finals.no_others v before, unannounced)
              ];
            });
            votes = λ opened. rw (given) (moved.votes opened);
            votes_again = λ opened. rw (given) (moved.votes_again opened);
            resends = rw (given) moved.resends;
            begins = λ opened. rw (given) (moved.begins opened);
            casts = λ opened. rw (given) (moved.casts opened);
            kept = kept_still x Before (gave (Final p) ∷ Before) refl new.shelf.certificates (λ d h. h) (λ d h. h) moved.kept;
            certificates = moved.certificates;
            asks = rw (given) moved.asks;
            verifies = rw (given) moved.verifies;
            forwards = rw (given) moved.forwards;
            intends = rw (given) (still_intent Before (gave (Final p) ∷ Before) old.given.intent refl refl refl refl refl refl
                moved.intends);
            decides = rw (given) moved.decides;
            hears = rw (given) moved.hears;
          }
        where
          window : max (window_by past).finalized p.round.view.0 ≡ p.round.view.0
          window = omega (arith, up)

    pub gives_final : Gives x old new (Final p)
    gives_final = (c, (is_of, λ past earlier is. gives past earlier is))

-- It isn't, where the voter refuses that,
pub not_announced :
    {S D K G C L : Type 0} (x : NodeConfig D K G C) (old new : ValidatorView S G D L C)
    → new.given ≡ old.given → new.shelf ≡ old.shelf → VoterStays x old.voter new.voter
    → (new.voter.journal.is_open ≡ true → (old.voter.journal.is_open ≡ true)
    × (new.voter.journal.contents ≡ old.voter.journal.contents))
    → RunStays x old new
not_announced x old new given shelf stays still past earlier is =
    goes_on x old new [] past earlier (λ n. n) is (stays (voter_history past) earlier is.voting)
    (λ opened. (
      (still opened).0,
      λ is_exempt Was count are. sent_still is_exempt Was old.voter.journal new.voter.journal count (still opened).1 are,
    ))
    (λ yes. (yes, λ i. refl))
    old.given.presence is.hears given
    (rw (shelf) (kept_still x past past refl old.shelf.certificates (λ d h. h) (λ d h. h) is.kept))
    (rw (shelf) is.certificates)

-- and it refuses that for memory and the disk alone.
module _ {S D K G C L : Type 0} (x : NodeConfig D K G C) (old : ValidatorView S G D L C)
    (epoch : x.epoch ≡ old.voter.node.epoch) (view i : ℕ) (p : Proposal D)
    (at : IsFinalAt view old.shelf.certificates i p) where
  in_shelf : Contains old.shelf.certificates at.certificate
  in_shelf = contained old.shelf.certificates i at.certificate at.there

  pub not_forged :
      certifies_itself x.meaning at.certificate ≡ false → ForEachRun x old (λ past earlier. ⊥)
  not_forged why past earlier is =
      let yes : certifies_itself x.meaning at.certificate ≡ true = is.kept.certify at.certificate in_shelf in
      let forged : certifies_itself x.meaning at.certificate ≡ false = why in
      absurd cc

  pub of_this_epoch :
      (kind_certified at.certificate ≢ Finalization)
      ⊎ ((round_in (subject_certified at.certificate)).epoch ≢ old.voter.node.epoch)
      → ForEachRun x old (λ past earlier. ⊥)
  of_this_epoch why past earlier is = of_cases why
    where
      of_cases : (kind_certified at.certificate ≢ Finalization)
          ⊎ ((round_in (subject_certified at.certificate)).epoch ≢ old.voter.node.epoch) → ⊥
      of_cases (inl other) = other (kind_of at.certificate p at.is_of)
      of_cases (inr other) = other ((is.kept.looked_at at.certificate in_shelf).of_epoch ∙ epoch)

  pub not_passed :
      (round_in (subject_certified at.certificate)).view.0 < old.voter.node.window.finalized
      → ForEachRun x old (λ past earlier. ⊥)
  not_passed why past earlier is =
      absurd (omega (
        arith,
        why,
        (is.kept.looked_at at.certificate in_shelf).from_first,
        ap (λ w. w.finalized) is.voting.represents.window_is,
      ))

pub moves :
    {S D K G C L : Type 0} (x : NodeConfig D K G C) (old after new : ValidatorView S G D L C)
    (c : Certificate C D) → new.voter ≡ after.voter → {view : ℕ}
    → ForEachLife x old.voter (λ past earlier. IsVoting x
    (called (view_finalized view) ∷ verified c ∷ past) earlier after.voter)
    → ForEachLife x old.voter (λ past earlier. IsVoting x
    (called (view_finalized view) ∷ verified c ∷ past) earlier new.voter)
moves x old after new c voter {view = view} voting past earlier is =
    subst (λ v. IsVoting x (called (view_finalized view) ∷ verified c ∷ past) earlier v) (sym voter)
    (voting past earlier is)

pub noted :
    {D : Type 0} (after old new : GivenView D) (left tally : Tally) (view : ℕ)
    → new ≡ record after { tally = left; announced = view } → after ≡ old → left ≡ tally
    → new ≡ record old { tally = tally; announced = view }
noted {D = D} after old new left tally view e same is =
    e ∙ ap with_both same ∙ ap with_tally is
  where
    with_both : GivenView D → GivenView D
    with_both it = record it { tally = left; announced = view }

    with_tally : Tally → GivenView D
    with_tally it = record old { tally = it; announced = view }
