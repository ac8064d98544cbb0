-- How a run of a pair goes on, and what it leaves where it stops.
use Rattle.batcher_histories.proofs.Words.{inl, inr, ◌≡◌, ◌<◌, ◌+◌, ◌++◌, ◌||◌, ◌∷◌, [], ℕ, true, false, List, length, take, drop, Some, None, refl, ap, sym}
use Rattle.batcher_histories.proofs.Words.{◌∙◌, arith, subst, length-append, list_any, or_from, or_right, false≢true, true≢false, false_from_ne_true}
use Rattle.batcher_histories.proofs.Words.{append-nil, take-append-drop, list_any-append, none-some, Stream, any_more, Call, Answer, OutOfMemory, NetworkAnswer}
use Rattle.batcher_histories.proofs.Words.{OwnAnswer, OwnRefused, CertificateAnswer, LeaderAnswer, ConstructAnswer, ForwardAnswer, MissingAnswer, Mode}
use Rattle.batcher_histories.proofs.Words.{Retaining, Releasing, Config, RoundState, nothing_held, Steps, History, history, history_after, IsAnswered, Meets}
use Rattle.batcher_histories.proofs.Words.{IsRun, in_mode, blocks, ends_pair, is_own_fault, IsAlike, AnsweredAlike, IsBeside, PairGoesOn, EndsAt, BlocksNoMore}
use Rattle.batcher_histories.proofs.Words.{IsPairRun}
use Rattle.batcher_histories.proofs.History.Laws.{HasLaws}
use Rattle.batcher_histories.proofs.Runs.Histories.{history-push}
use Rattle.batcher_histories.proofs.Runs.Going.{Goes, goes_first, goes_more, goes_to}
use Rattle.batcher_histories.proofs.Pairs.Beside.{beside_of}
use Rattle.batcher_histories.proofs.Pairs.Keys.{blocks_no_more}
use Rattle.batcher_histories.proofs.Pairs.Own.{not_own_fault}
use Rattle.batcher_histories.proofs.Pairs.Together.{AreTogether, beside_at_first, stay_beside}

-- the first so many of a list and more
take_front : {X : Type 0} (n : ℕ) (xs ys : List X) → length xs ≡ n → take n (xs ++ ys) ≡ xs
take_front n xs ys h = subst (λ (m : ℕ). take m (xs ++ ys) ≡ xs) h (front xs)
  where
    front : (zs : List _) → take (length zs) (zs ++ ys) ≡ zs
    front [] = refl
    front (z ∷ zs) = ap (λ rest. z ∷ rest) (front zs)

fault_ends : {G C D : Type 0} (answer : Answer G C D) → is_own_fault answer ≡ true
    → ends_pair answer ≡ true
fault_ends (OwnRefused fault) h = refl
fault_ends (NetworkAnswer admission) h = absurd (false≢true h)
fault_ends (OwnAnswer outcome report) h = absurd (false≢true h)
fault_ends (CertificateAnswer changed) h = absurd (false≢true h)
fault_ends (LeaderAnswer result) h = absurd (false≢true h)
fault_ends (ConstructAnswer batch) h = absurd (false≢true h)
fault_ends (ForwardAnswer proposal) h = absurd (false≢true h)
fault_ends (MissingAnswer missing) h = absurd (false≢true h)
fault_ends OutOfMemory h = absurd (false≢true h)

-- An answer that ends the pair blocks nobody.
ends_unblocked : {G C D : Type 0} (answer : Answer G C D)
    → ends_pair answer ≡ true → blocks answer ≡ false
ends_unblocked (NetworkAnswer admission) h = absurd (false≢true h)
ends_unblocked answer h = refl

module _ {G C D : Type 0} where
  -- one more answer, which ends the pair or doesn't
  goes_on_more : (n : ℕ) (answers : List (Answer G C D)) (answer : Answer G C D)
      → PairGoesOn n answers
      → ends_pair answer ≡ false → PairGoesOn (n + 1) (answers ++ answer ∷ [])
  goes_on_more n answers answer goes on =
      (omega (arith, length-append answers (answer ∷ []), goes.0), list_any-append ends_pair answers (answer ∷ []) ∙ or_from _ _ goes.1 (or_from _ _ on refl))

  ends_then : (n : ℕ) (answers : List (Answer G C D)) (answer : Answer G C D) → PairGoesOn n answers
      → ends_pair answer ≡ true → EndsAt n (answers ++ answer ∷ [])
  ends_then n answers answer goes ends = (
    omega (arith, length-append answers (answer ∷ []), goes.0),
    (
      ap (list_any ends_pair) (take_front n answers (answer ∷ []) goes.0) ∙ goes.1,
      list_any-append ends_pair answers (answer ∷ []) ∙ or_right (list_any ends_pair answers) _ (ap (λ b. b || false) ends),
    ),
  )

-- where none ends the pair none is a fault of an own vote
no_fault : {G C D : Type 0} (answers : List (Answer G C D)) → list_any ends_pair answers ≡ false
    → list_any is_own_fault answers ≡ false
no_fault answers on = false_from_ne_true _ (λ some. true≢false (sym (any_more is_own_fault ends_pair fault_ends answers some) ∙ on))

-- one more answer of each, which are alike
alike_more : {G C D : Type 0} (retained released : List (Answer G C D)) (a b : Answer G C D)
    → AnsweredAlike retained released → IsAlike a b
    → AnsweredAlike (retained ++ a ∷ []) (released ++ b ∷ [])
alike_more [] [] a b alike now = (now, tt)
alike_more [] (d ∷ released) a b alike now = absurd alike
alike_more (c ∷ retained) [] a b alike now = absurd alike
alike_more (c ∷ retained) (d ∷ released) a b alike now = (alike.0, alike_more retained released a b alike.1 now)

-- what stays true of a pair while it goes on
pub record PairGoes {D K G C : Type 0} (x : Config D K G C) (before : Stream)
    (calls : List (Call K G C D)) (retained released : List (Answer G C D))
    (retaining releasing : RoundState G D) (after left : Stream) : Type 0 where
  pub retains : Goes (in_mode x Retaining) before calls retained retaining after
  pub releases : Goes (in_mode x Releasing) before calls released releasing left
  pub together : AreTogether x (history calls retained) (history calls released) retaining releasing
  pub streams : after ≡ left
  pub answered_alike : AnsweredAlike retained released
  pub retained_on : PairGoesOn (length calls) retained
  pub released_on : PairGoesOn (length calls) released

-- one call of one round, as its step and its model have it
pub record Takes {D K G C : Type 0} (x : Config D K G C) (past : History D K G C) (old : RoundState G D)
    (before : Stream) (call : Call K G C D) (answer : Answer G C D) (new : RoundState G D)
    (after : Stream) : Type 0 where
  pub steps : Steps x old before call answer new after
  pub meets : Meets x past old (call, answer) new
  pub answered : IsAnswered x past call answer

module _ {D K G C : Type 0} (x : Config D K G C) where
  pub pair_first : (before : Stream)
      → PairGoes x before [] [] [] (nothing_held Retaining) (nothing_held Releasing) before before
  pair_first before =
      record {
        retains = goes_first (in_mode x Retaining) before;
        releases = goes_first (in_mode x Releasing) before;
        together = beside_at_first x;
        streams = refl;
        answered_alike = tt;
        retained_on = (refl, refl);
        released_on = (refl, refl);
      }

  module _ (before : Stream) (calls : List (Call K G C D)) (retained released : List (Answer G C D))
      (retaining releasing : RoundState G D) (after left : Stream)
      (goes : PairGoes x before calls retained released retaining releasing after left) (call : Call K G C D) where
    retains_more : (a : Answer G C D) (new : RoundState G D) (then : Stream)
        → Takes (in_mode x Retaining) (history calls retained) retaining after call a new then →
        Goes (in_mode x Retaining) before (calls ++ call ∷ []) (retained ++ a ∷ []) new then
    retains_more a new then takes =
        goes_more (in_mode x Retaining) before calls retained retaining after call a new then goes.retains takes.steps takes.meets takes.answered

    releases_more : (b : Answer G C D) (new : RoundState G D) (then : Stream)
        → Takes (in_mode x Releasing) (history calls released) releasing left call b new then →
        Goes (in_mode x Releasing) before (calls ++ call ∷ []) (released ++ b ∷ []) new then
    releases_more b new then takes =
        goes_more (in_mode x Releasing) before calls released releasing left call b new then goes.releases takes.steps takes.meets takes.answered

    one_longer : length (calls ++ call ∷ []) ≡ length calls + 1
    one_longer = omega (arith, length-append calls (call ∷ []))

    pub pair_more : (a b : Answer G C D) (new news : RoundState G D) (then next : Stream)
        → Takes (in_mode x Retaining) (history calls retained) retaining after call a new then
        → Takes (in_mode x Releasing) (history calls released) releasing left call b news next →
        ends_pair a ≡ false → ends_pair b ≡ false
        → PairGoes x before (calls ++ call ∷ []) (retained ++ a ∷ []) (released ++ b ∷ []) new
        news then next
    pair_more a b new news then next takes taken on goes_on =
        let stay =
        stay_beside x (history calls retained) (history calls released) retaining releasing after call a b new news then next goes.together on goes_on
        takes.steps takes.meets
        (subst (λ s. Steps (in_mode x Releasing) releasing s call b news next) (sym goes.streams) taken.steps) taken.meets in
        record {
          retains = retains_more a new then takes;
          releases = releases_more b news next taken;
          together =
              subst (λ past. AreTogether x past (history (calls ++ call ∷ []) (released ++ b ∷ [])) new news)
              (sym (history-push (in_mode x Retaining) [] calls retained call a goes.retains.answered))
              (subst (λ past. AreTogether x (history_after (history calls retained) call a) past new news)
              (sym (history-push (in_mode x Releasing) [] calls released call b goes.releases.answered)) stay.beside);
          streams = stay.streams;
          answered_alike = alike_more retained released a b goes.answered_alike stay.answers;
          retained_on = subst (λ (n : ℕ). PairGoesOn n (retained ++ a ∷ [])) (sym one_longer) (goes_on_more (length calls) retained a goes.retained_on on);
          released_on = subst (λ (n : ℕ). PairGoesOn n (released ++ b ∷ [])) (sym one_longer) (goes_on_more (length calls) released b goes.released_on goes_on);
        }

module _ {D K G C : Type 0} (x : Config D K G C) (laws : HasLaws x) where
  laws_in : (mode : Mode) → HasLaws (in_mode x mode)
  laws_in mode = record { scheme = laws.scheme; some_participant = laws.some_participant; digests_equal = laws.digests_equal; digests_same = laws.digests_same }

  module _ (before : Stream) (all calls : List (Call K G C D))
      (retained released : List (Answer G C D)) (retaining releasing : RoundState G D)
      (after left : Stream)
      (goes : PairGoes x before calls retained released retaining releasing after left) where
    besides : IsBeside x (history calls retained) (history calls released)
    besides =
        beside_of x laws (history calls retained) (history calls released) goes.together.alike goes.together.represents.possible
        goes.together.represents_released.possible

    no_more_blocked : (cs more : List (Call K G C D))
        (more_retained more_released : List (Answer G C D)) → calls ++ more ≡ cs
        → list_any blocks more_released ≡ false
        → BlocksNoMore x cs (retained ++ more_retained) (released ++ more_released)
    no_more_blocked cs more more_retained more_released whole none =
        blocks_no_more x cs calls more retained released more_retained more_released whole
        goes.retained_on.0 goes.released_on.0 goes.answered_alike besides.blocked_by_both none

    -- where no call was refused,
    pub pair_ends : all ≡ calls → IsPairRun x before all None retained retaining after released
        releasing left
    pair_ends is =
        subst (λ (cs : List (Call K G C D)). IsPairRun x before cs None retained retaining after released releasing left) (sym is)
        (record {
          retaining_run =
              subst (λ cs. IsRun (in_mode x Retaining) before cs retained retaining after) (sym (take_all retained goes.retained_on.0))
              (goes_to (in_mode x Retaining) (laws_in Retaining) before calls retained retaining after goes.retains);
          releasing_run =
              subst (λ cs. IsRun (in_mode x Releasing) before cs released releasing left) (sym (take_all released goes.released_on.0))
              (goes_to (in_mode x Releasing) (laws_in Releasing) before calls released releasing left goes.releases);
          stops = (goes.retained_on, goes.released_on);
          answered_alike = goes.answered_alike;
          beside = besides;
          blocks_no_more =
              subst (λ given. BlocksNoMore x calls given released) (append-nil retained)
              (subst (λ given. BlocksNoMore x calls (retained ++ []) given) (append-nil released)
              (no_more_blocked calls [] [] [] (append-nil calls) refl));
          held_alike = λ _. (goes.together.buffered, (goes.together.forwarded, goes.streams));
        })
      where
        take_all : (answers : List (Answer G C D)) → length answers ≡ length calls
            → take (length answers) calls ≡ calls
        take_all answers told =
            ap (λ (n : ℕ). take n calls) told ∙ (ap (take (length calls)) (sym (append-nil calls)) ∙ take_front (length calls) calls [] refl)

    module _ (place : ℕ) (call : Call K G C D) (below : place < length all)
        (so_far : take place all ≡ calls) (more : take (place + 1) all ≡ calls ++ call ∷ [])
        (told : length calls ≡ place) where
      -- the calls that were made, by their answers
      made_so_far : (answers : List (Answer G C D)) → length answers ≡ place
          → take (length answers) all ≡ calls
      made_so_far answers h = ap (λ (n : ℕ). take n all) h ∙ so_far

      made_more : (answers : List (Answer G C D)) (answer : Answer G C D) → length answers ≡ place
          → take (length (answers ++ answer ∷ [])) all ≡ calls ++ call ∷ []
      made_more answers answer h = ap (λ (n : ℕ). take n all) (omega (arith, length-append answers (answer ∷ []), h)) ∙ more

      at_place : (answers : List (Answer G C D)) → PairGoesOn (length calls) answers
          → PairGoesOn place answers
      at_place answers on = subst (λ (n : ℕ). PairGoesOn n answers) told on

      -- those that both have made
      beside_so_far : (more_retained more_released : List (Answer G C D))
          → IsBeside x (history (take place all) (take place (retained ++ more_retained)))
          (history (take place all) (take place (released ++ more_released)))
      beside_so_far more_retained more_released =
          subst (λ cs. IsBeside x (history cs (take place (retained ++ more_retained))) (history cs (take place (released ++ more_released)))) (sym so_far)
          (subst (λ given. IsBeside x (history calls given) (history calls (take place (released ++ more_released))))
          (sym (take_front place retained more_retained (goes.retained_on.0 ∙ told)))
          (subst (λ given. IsBeside x (history calls retained) (history calls given))
          (sym (take_front place released more_released (goes.released_on.0 ∙ told))) besides))

      alike_so_far : (more_retained more_released : List (Answer G C D))
          → AnsweredAlike (take place (retained ++ more_retained))
          (take place (released ++ more_released))
      alike_so_far more_retained more_released =
          subst (λ given. AnsweredAlike given (take place (released ++ more_released)))
          (sym (take_front place retained more_retained (goes.retained_on.0 ∙ told)))
          (subst (λ given. AnsweredAlike retained given) (sym (take_front place released more_released (goes.released_on.0 ∙ told))) goes.answered_alike)

      no_more_so_far : (more_retained more_released : List (Answer G C D))
          → list_any blocks more_released ≡ false
          → BlocksNoMore x all (retained ++ more_retained) (released ++ more_released)
      no_more_so_far more_retained more_released none =
          no_more_blocked all (drop place all) more_retained more_released
          (ap (λ cs. cs ++ drop place all) (sym so_far) ∙ take-append-drop place all) none

      -- where the retaining round refused one,
      pub pair_stops : (a : Answer G C D) (new : RoundState G D) (then : Stream)
          → Takes (in_mode x Retaining) (history calls retained) retaining after call a new then
          → ends_pair a ≡ true →
          IsPairRun x before all (Some place) (retained ++ a ∷ []) new then released releasing left
      pair_stops a new then takes ends =
          record {
            retaining_run =
                subst (λ cs. IsRun (in_mode x Retaining) before cs (retained ++ a ∷ []) new then) (sym (made_more retained a (goes.retained_on.0 ∙ told)))
                (goes_to (in_mode x Retaining) (laws_in Retaining) before (calls ++ call ∷ []) (retained ++ a ∷ []) new then
                (retains_more x before calls retained released retaining releasing after left goes call a new then takes));
            releasing_run = subst (λ cs. IsRun (in_mode x Releasing) before cs released releasing left) (sym (made_so_far released (goes.released_on.0 ∙ told)))
                (goes_to (in_mode x Releasing) (laws_in Releasing) before calls released releasing left goes.releases);
            stops = (below, inl (ends_then place retained a (at_place retained goes.retained_on) ends, at_place released goes.released_on));
            answered_alike =
                subst (λ given. AnsweredAlike (take place (retained ++ a ∷ [])) (take place given)) (append-nil released) (alike_so_far (a ∷ []) []);
            beside =
                subst (λ given. IsBeside x (history (take place all) (take place (retained ++ a ∷ []))) (history (take place all) (take place given)))
                (append-nil released) (beside_so_far (a ∷ []) []);
            blocks_no_more =
                subst (λ given. BlocksNoMore x all (retained ++ a ∷ []) given) (append-nil released) (no_more_so_far (a ∷ []) [] refl);
            held_alike = λ none. absurd (none-some place (sym none));
          }

      -- and where the releasing one refused the one that the retaining one made.
      pub pair_stops_later : (a b : Answer G C D) (new news : RoundState G D) (then next : Stream)
          → Takes (in_mode x Retaining) (history calls retained) retaining after call a new then →
          Takes (in_mode x Releasing) (history calls released) releasing left call b news next
          → ends_pair a ≡ false → ends_pair b ≡ true →
          IsPairRun x before all (Some place) (retained ++ a ∷ []) new then (released ++ b ∷ [])
          news next
      pair_stops_later a b new news then next takes taken on ends =
          let memory_alone : list_any is_own_fault (released ++ b ∷ []) ≡ false =
          list_any-append is_own_fault released (b ∷ [])
          ∙ or_from _ _ (no_fault released (goes.released_on.1))
          (or_from _ _ (not_own_fault x (laws_in Releasing) (history calls retained) (history calls released) goes.together.alike call a b on takes.answered
          taken.answered) refl) in
          record {
            retaining_run =
                subst (λ cs. IsRun (in_mode x Retaining) before cs (retained ++ a ∷ []) new then) (sym (made_more retained a (goes.retained_on.0 ∙ told)))
                (goes_to (in_mode x Retaining) (laws_in Retaining) before (calls ++ call ∷ []) (retained ++ a ∷ []) new then
                (retains_more x before calls retained released retaining releasing after left goes call a new then takes));
            releasing_run =
                subst (λ cs. IsRun (in_mode x Releasing) before cs (released ++ b ∷ []) news next) (sym (made_more released b (goes.released_on.0 ∙ told)))
                (goes_to (in_mode x Releasing) (laws_in Releasing) before (calls ++ call ∷ []) (released ++ b ∷ []) news next
                (releases_more x before calls retained released retaining releasing after left goes call b news next taken));
            stops = (
              below,
              inr (
                goes_on_more place retained a (at_place retained goes.retained_on) on,
                (ends_then place released b (at_place released goes.released_on) ends, memory_alone),
              ),
            );
            answered_alike = alike_so_far (a ∷ []) (b ∷ []);
            beside = beside_so_far (a ∷ []) (b ∷ []);
            blocks_no_more = no_more_so_far (a ∷ []) (b ∷ []) (or_from _ _ (ends_unblocked b ends) refl);
            held_alike = λ none. absurd (none-some place (sym none));
          }
