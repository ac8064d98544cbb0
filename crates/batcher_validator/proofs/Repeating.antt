-- Votes that are sent again, and those that are passed over.
use Rattle.batcher_validator.proofs.Words.{◌≡◌, ◌⊎◌, ◌+◌, ◌<◌, ◌≤◌, ◌||◌, ◌∙◌, ℕ, Bool, true, false, List, [], ◌∷◌, Some, None, Option, ap, arith, cond}
use Rattle.batcher_validator.proofs.Words.{inl, inr, length, max, refl, subst, sym, take, Contains, slice_get, cases_lt, le-leb, leb-true, lt-ltb, ltb-true}
use Rattle.batcher_validator.proofs.Words.{slice_get_within, subject_of, round_in, Subject, Vote, Round, AreFirst, HasKey, Finalization, Notarization}
use Rattle.batcher_validator.proofs.Words.{HasSent, HasSentOnce, ValidatorHistory, again, gave, resent_from, window_by, SendVote, Window}
use Rattle.batcher_validator.proofs.Words.{is_over_for, is_again, is_earlier, is_sent_again, still_to_forward, IsPlaceFrom, Kind}
use Rattle.batcher_validator.proofs.Queueing.{at_place, contained_first, contained_more, give_one, not_given}

pub or_false : (a b : Bool) → a || b ≡ false → (a ≡ false) × (b ≡ false)
or_false true b e = absurd cc
or_false false b e = (refl, e)

pub or_both : (a b : Bool) → a ≡ false → b ≡ false → a || b ≡ false
or_both a b one other = rw (one) other

-- What is of an earlier view isn't sent again, and what isn't is.
pub not_earlier : {D : Type 0} (w : Window) (s : Subject D) → is_earlier w.current s ≡ true
    → is_sent_again w s ≡ false
not_earlier w s e =
    of_value (is_sent_again w s) refl
  where
    of_value : (b : Bool) → is_sent_again w s ≡ b → is_sent_again w s ≡ false
    of_value false is = is
    of_value true is =
        absurd (omega (
          arith,
          ltb-true (round_in s).view.0 w.current e,
          leb-true w.current (round_in s).view.0 is,
        ))

pub earlier_or_again : {D : Type 0} (w : Window) (s : Subject D) → is_sent_again w s ≡ false
    → is_earlier w.current s ≡ true
earlier_or_again w s e =
    of_cases (cases_lt (round_in s).view.0 w.current)
  where
    wrong : true ≡ false → ⊥
    wrong is = absurd cc

    of_cases : ((round_in s).view.0 < w.current) ⊎ (w.current ≤ (round_in s).view.0)
        → is_earlier w.current s ≡ true
    of_cases (inl below) = lt-ltb (round_in s).view.0 w.current below
    of_cases (inr up) = absurd (wrong (sym (le-leb w.current (round_in s).view.0 up) ∙ e))

module _ {D K G C : Type 0} where
  -- What was sent again was sent once,
  pub sent_once : (past : ValidatorHistory D K G C) (s : Subject D) → HasSent past s
      → HasSentOnce past s
  sent_once [] s was = was
  sent_once (again ∷ past) s was = was.1
  sent_once (gave (SendVote vote) ∷ past) s (inl is) = inl is
  sent_once (gave (SendVote vote) ∷ past) s (inr was) = inr (sent_once past s was)
  sent_once (gave task ∷ past) s was = sent_once past s was
  sent_once (event ∷ past) s was = sent_once past s was

  -- and of an earlier view what was sent once needn't be again.
  pub earlier_sent : (past : ValidatorHistory D K G C) (s : Subject D)
      → is_earlier (resent_from past) s ≡ true → HasSentOnce past s → HasSent past s
  earlier_sent [] s earlier was = was
  earlier_sent (again ∷ past) s earlier was = (not_earlier (window_by past) s earlier, was)
  earlier_sent (gave (SendVote vote) ∷ past) s earlier (inl is) = inl is
  earlier_sent (gave (SendVote vote) ∷ past) s earlier (inr was) =
      inr (earlier_sent past s earlier was)
  earlier_sent (gave task ∷ past) s earlier was = earlier_sent past s earlier was
  earlier_sent (event ∷ past) s earlier was = earlier_sent past s earlier was

-- Votes of earlier views are passed over.
module _ {G D : Type 0} (is_over : Subject D → Bool) (Once Since : Subject D → Type 0)
    (view : ℕ) (votes : List (Vote G D)) (sent : ℕ)
    (once : AreFirst subject_of is_over Once votes sent)
    (since_once : (s : Subject D) → Since s → Once s)
    (once_since : (s : Subject D) → is_earlier view s ≡ true → Once s → Since s) where
  abbrev pub AreSince : ℕ → Type 0
  AreSince count = AreFirst subject_of (λ s. is_earlier view s || is_over s) Since votes count

  module _ (first place : ℕ) (since : AreSince first)
      (next : IsPlaceFrom view votes first sent place) where
    pub up_to : place ≤ sent
    up_to = of_cases next.found
      where
        of_cases :
            (place ≡ sent)
            ⊎ ((first ≤ place) × ((place < sent)
            × ((vote : Vote G D) → slice_get votes place ≡ Some vote
            → is_earlier view (subject_of vote) ≡ false))) → place ≤ sent
        of_cases (inl end) = omega (arith, end)
        of_cases (inr before) = omega (arith, before.1.0)

    pub pass_over : AreSince place
    pass_over =
        record {
          within = omega (arith, up_to, once.within);
          were_given = λ vote there. were vote (at_place votes place vote there);
          no_others = λ s was above. others s was above next.found;
        }
      where
        were : (vote : Vote G D) → (i : ℕ) × ((i < place) × (slice_get votes i ≡ Some vote))
            → Since (subject_of vote)
        were vote at = elim (cases_lt at.0 first) [
          | inl below ↦ since.were_given vote (contained_first votes at.0 first vote at.1.1 below)
          | inr up ↦ once_since (subject_of vote) (next.passed at.0 vote up at.1.0 at.1.1)
              (once.were_given vote (contained_first votes at.0 sent vote at.1.1 (omega (arith, at.1.0, up_to))))
        ]

        others :
            (s : Subject D) → Since s → is_earlier view s || is_over s ≡ false
            → (place ≡ sent)
            ⊎ ((first ≤ place) × ((place < sent)
            × ((vote : Vote G D) → slice_get votes place ≡ Some vote
            → is_earlier view (subject_of vote) ≡ false)))
            → HasKey subject_of (take place votes) s
        others s was above (inl end) =
            subst (λ n. HasKey subject_of (take n votes) s) (sym end)
            (once.no_others s (since_once s was) (or_false (is_earlier view s) (is_over s) above).1)
        others s was above (inr before) =
            let it = since.no_others s was above in
            record {
              item = it.item;
              there = contained_more votes first place it.item before.0 it.there;
              is_of = it.is_of;
            }

    -- The vote at the next place wasn't sent, or not again,
    module _ (vote : Vote G D) (there : slice_get votes place ≡ Some vote)
        (above : is_over (subject_of vote) ≡ false)
        (differs : (w : Vote G D) → Contains (take place votes) w → subject_of w ≡ subject_of vote → ⊥)
      where
        pub not_since : Since (subject_of vote) → ⊥
        not_since was = of_cases next.found
          where
            of_cases :
                (place ≡ sent)
                ⊎ ((first ≤ place) × ((place < sent)
                × ((w : Vote G D) → slice_get votes place ≡ Some w
                → is_earlier view (subject_of w) ≡ false))) → ⊥
            of_cases (inl end) =
                not_given subject_of is_over Once votes sent once vote above
                (λ w first_ones same. differs w (subst (λ n. Contains (take n votes) w) (sym end) first_ones) same)
                (since_once (subject_of vote) was)
            of_cases (inr before) =
                not_given subject_of (λ s. is_earlier view s || is_over s) Since votes place pass_over vote
                (or_both (is_earlier view (subject_of vote)) (is_over (subject_of vote)) (before.1.1 vote there) above)
                differs was

        -- and then it was.
        module _ (NowOnce NowSince : Subject D → Type 0)
            (now_once : NowOnce (subject_of vote)) (now_since : NowSince (subject_of vote))
            (still_once : (s : Subject D) → Once s → NowOnce s)
            (still_since : (s : Subject D) → Since s → NowSince s)
            (only_once : (s : Subject D) → NowOnce s → (subject_of vote ≡ s) ⊎ Once s)
            (only_since : (s : Subject D) → NowSince s → (subject_of vote ≡ s) ⊎ Since s) where
          pub send_one : AreFirst subject_of is_over NowOnce votes (max sent (place + 1))
          send_one = of_cases next.found
            where
              of_cases :
                  (place ≡ sent)
                  ⊎ ((first ≤ place) × ((place < sent)
                  × ((w : Vote G D) → slice_get votes place ≡ Some w
                  → is_earlier view (subject_of w) ≡ false)))
                  → AreFirst subject_of is_over NowOnce votes (max sent (place + 1))
              of_cases (inl end) =
                  subst (λ n. AreFirst subject_of is_over NowOnce votes n) (omega (arith, end))
                  (give_one subject_of is_over Once votes sent once NowOnce vote
                  (subst (λ n. slice_get votes n ≡ Some vote) end there) now_once still_once only_once)
              of_cases (inr before) =
                  subst (λ n. AreFirst subject_of is_over NowOnce votes n) (omega (arith, before.1.0))
                  (record {
                    within = once.within;
                    were_given = λ w first_ones. still_once (subject_of w) (once.were_given w first_ones);
                    no_others = λ s was over. elim (only_once s was) [
                      | inl is ↦ record {
                        item = vote;
                        there = contained_first votes place sent vote there before.1.0;
                        is_of = is;
                      }
                      | inr before_that ↦ once.no_others s before_that over
                    ];
                  })

          pub send_again_one :
              AreFirst subject_of (λ s. is_earlier view s || is_over s) NowSince votes (place + 1)
          send_again_one =
              give_one subject_of (λ s. is_earlier view s || is_over s) Since votes place pass_over NowSince vote
              there now_since still_since only_since

-- Once votes are to be sent again, those before the first of them needn't be.
pub begin_sending :
    {D K G C : Type 0} (past : ValidatorHistory D K G C) (is_over : Subject D → Bool)
    (votes : List (Vote G D)) (sent place : ℕ)
    → AreFirst subject_of is_over (λ s. HasSentOnce past s) votes sent
    → IsPlaceFrom (window_by past).current votes 0 sent place
    → AreFirst subject_of (λ s. is_earlier (window_by past).current s || is_over s)
    (λ s. HasSent (again ∷ past) s) votes place
begin_sending {D = D} {G = G} past is_over votes sent place once next =
    pass_over is_over (λ s. HasSentOnce past s) (λ s. HasSent (again ∷ past) s) (window_by past).current
    votes sent once (λ s was. was.1) (λ s earlier was. (not_earlier (window_by past) s earlier, was)) 0 place none next
  where
    wrong : true ≡ false → ⊥
    wrong e = absurd cc

    nothing : (xs : List (Vote G D)) (x : Vote G D) → Contains (take 0 xs) x → ⊥
    nothing [] x (i, lt, is) = absurd (omega arith)
    nothing (y ∷ xs) x (i, lt, is) = absurd (omega arith)

    none : AreFirst subject_of (λ s. is_earlier (window_by past).current s || is_over s)
        (λ s. HasSent (again ∷ past) s) votes 0
    none =
        record {
          within = omega arith;
          were_given = λ vote there. absurd (nothing votes vote there);
          no_others = λ s was above. absurd (wrong
              (sym (earlier_or_again (window_by past) s was.0)
              ∙ (or_false (is_earlier (window_by past).current s) (is_over s) above).0));
        }

-- What is still to be forwarded was, and its notarization isn't given again.
pub still_due :
    (w : Window) (turn : ℕ) (due : Option Round) (number : Round)
    → still_to_forward w turn due ≡ Some number
    → (due ≡ Some number) × (is_again w turn (Notarization, number) ≡ false)
still_due w turn None number e = absurd cc
still_due w turn (Some other) number e = of_value (is_again w turn (Notarization, other)) refl e
  where
    one : Some other ≡ Some number → other ≡ number
    one is = cc is

    of_value : (b : Bool) → is_again w turn (Notarization, other) ≡ b
        → cond b None (Some other) ≡ Some number
        → (Some other ≡ Some number) × (is_again w turn (Notarization, number) ≡ false)
    of_value true is it = absurd cc
    of_value false is it = (it, subst (λ r. is_again w turn (Notarization, r) ≡ false) (one it) is)

pub due_still :
    (w : Window) (turn : ℕ) (due : Option Round) (number : Round) → due ≡ Some number
    → is_again w turn (Notarization, number) ≡ false
    → still_to_forward w turn due ≡ Some number
due_still w turn due number is none = rw (is) (rw (none) refl)
