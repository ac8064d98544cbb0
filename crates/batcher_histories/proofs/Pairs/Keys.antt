-- Two rounds that take the same calls, one that retains votes beside one that releases them: the
-- keys that their answers block.
use Rattle.batcher_histories.proofs.Words.{inl, inr, ◌≡◌, ◌⊎◌, Bool, true, false, cond, ◌||◌, List, [], ◌∷◌, ◌++◌, length, Option, Some, None, refl, ap, sym}
use Rattle.batcher_histories.proofs.Words.{◌∙◌, ⊎_elim, eqb, arith, is_some, list_any, cons_option, or-false, or_assoc, and_parts, or_left, or_right, or_cases}
use Rattle.batcher_histories.proofs.Words.{or_parts, or_from, true≢false, false≢true, eqb-true, Participant, Vote, Call, NetworkCall, Answer, NetworkAnswer}
use Rattle.batcher_histories.proofs.Words.{Config, sender_in, participant, is_some_and, any_more, blocked_sender, blocked_senders, Event, History, is_made}
use Rattle.batcher_histories.proofs.Words.{history, history_after, history_from, IsAlike, AnsweredAlike, AtEachPlace, IsBlockedByBoth, blocks}
use Rattle.batcher_histories.proofs.Words.{blocks_participant, was_blocked, TellsNoKeysApart, BlocksNoMore}
use Rattle.batcher_histories.proofs.Pairs.Alike.{told_alike}
use Rattle.batcher_histories.proofs.History.Distinct.{where_holds}

module _ {D K G C : Type 0}
    (holds : Event D K G C → History D K G C → Event D K G C → History D K G C → Type 0) where
  -- What holds at each place of two longer histories holds of those that they go on from.
  at_earlier : (calls : List (Call K G C D)) (retained released : List (Answer G C D))
      (past others : History D K G C) → AnsweredAlike retained released
      → AtEachPlace holds (history_from past calls retained) (history_from others calls released)
      → AtEachPlace holds past others
  at_earlier [] retained released past others alike each = each
  at_earlier (c ∷ calls) [] [] past others alike each = each
  at_earlier (c ∷ calls) [] (b ∷ released) past others alike each = absurd alike
  at_earlier (c ∷ calls) (a ∷ retained) [] past others alike each = absurd alike
  at_earlier (c ∷ calls) (a ∷ retained) (b ∷ released) past others alike each =
      by_made (is_made a) (is_made b) (told_alike a b alike.0).made
      (at_earlier calls retained released (history_after past c a) (history_after others c b) alike.1 each)
    where
      by_made : (made makes : Bool) → made ≡ makes
          → AtEachPlace holds (cond made ((c, a) ∷ past) past) (cond makes ((c, b) ∷ others) others)
          → AtEachPlace holds past others
      by_made true true same h = h.1
      by_made false false same h = h
      by_made true false same h = absurd (true≢false same)
      by_made false true same h = absurd (false≢true same)

module _ {D K G C : Type 0} (test : K → Bool) where
  -- whether an event blocks a key that passes
  abbrev blocks_some : Event D K G C → Bool
  blocks_some event = is_some_and (blocked_sender event.0 event.1) test

  -- whether answers block one
  abbrev block_some : List (Call K G C D) → List (Answer G C D) → Bool
  block_some calls answers = list_any test (blocked_senders calls answers)

  any_blocked : (c : Call K G C D) (a : Answer G C D)
      (calls : List (Call K G C D)) (answers : List (Answer G C D))
      → block_some (c ∷ calls) (a ∷ answers) ≡ (blocks_some (c, a) || block_some calls answers)
  any_blocked c a calls answers = by_key (blocked_sender c a) (blocked_senders calls answers)
    where
      by_key : (o : Option K) (keys : List K)
          → list_any test (cons_option o keys) ≡ (is_some_and o test || list_any test keys)
      by_key None keys = refl
      by_key (Some key) keys = refl

  -- an answer that blocks its sender, whose key passes
  some_blocked : (sender : K) (vote : Vote G D) (answer : Answer G C D) → blocks answer ≡ true
      → test sender ≡ true → blocks_some (NetworkCall sender vote, answer) ≡ true
  some_blocked sender vote (NetworkAnswer admission) h passes =
      ap (λ b. is_some_and (cond b (Some sender) None) test) h ∙ passes
  some_blocked sender vote answer h passes = absurd (false≢true h)

  -- Answers that block nobody add no key.
  none_blocked : (calls : List (Call K G C D)) (answers : List (Answer G C D))
      → list_any blocks answers ≡ false → block_some calls answers ≡ false
  none_blocked [] answers none = refl
  none_blocked (c ∷ calls) [] none = refl
  none_blocked (c ∷ calls) (a ∷ answers) none =
      let parts = or_parts (blocks a) (list_any blocks answers) none in
      any_blocked c a calls answers
      ∙ or_from _ _ (not_blocked c a parts.0) (none_blocked calls answers parts.1)
    where
      not_blocked : (call : Call K G C D) (answer : Answer G C D)
          → blocks answer ≡ false → blocks_some (call, answer) ≡ false
      not_blocked (NetworkCall sender vote) (NetworkAnswer admission) h =
          ap (λ b. is_some_and (cond b (Some sender) None) test) h
      not_blocked call answer h = refl

  -- More answers to more calls add to those that are blocked.
  more_blocked : (calls more : List (Call K G C D)) (answers rest : List (Answer G C D))
      → length answers ≡ length calls
      → block_some (calls ++ more) (answers ++ rest)
      ≡ (block_some calls answers || block_some more rest)
  more_blocked [] more [] rest long = refl
  more_blocked [] more (a ∷ answers) rest long = absurd (omega arith)
  more_blocked (c ∷ calls) more [] rest long = absurd (omega arith)
  more_blocked (c ∷ calls) more (a ∷ answers) rest long =
      any_blocked c a (calls ++ more) (answers ++ rest)
      ∙ (ap (λ b. blocks_some (c, a) || b) (more_blocked calls more answers rest (omega arith))
      ∙ (sym (or_assoc (blocks_some (c, a)) _ _)
      ∙ ap (λ b. b || block_some more rest) (sym (any_blocked c a calls answers))))

by_place : (here rest before : Bool)
    → ((here || before) ≡ true) ⊎ ((rest || (here || before)) ≡ true)
    → ((here || rest) || before) ≡ true
by_place true rest before k = refl
by_place false true before k = refl
by_place false false before (inl k) = k
by_place false false before (inr k) = k

or_also : (rest here before : Bool) → (rest || before) ≡ true → (rest || (here || before)) ≡ true
or_also true here before k = refl
or_also false here before k = or_right here before k

module _ {D K G C : Type 0} (x : Config D K G C)
    (test : K → Bool) (tells : TellsNoKeysApart x test) where
  -- Whoever was blocked before was blocked by a key that passes, where another one of the
  -- participant does.
  blocked_earlier : (past : History D K G C) (sender : K) → test sender ≡ true
      → was_blocked x past sender ≡ true → list_any (blocks_some test) past ≡ true
  blocked_earlier past sender passes was =
      let found = where_holds (λ i. list_any (blocks_participant x i.0) past) (sender_in x sender) was in
      any_more (blocks_participant x found.0.0) (blocks_some test) (by_event found.0 found.1) past found.2
    where
      by_event : (i : Participant) → sender_in x sender ≡ Some i → (event : Event D K G C)
          → blocks_participant x i.0 event ≡ true → blocks_some test event ≡ true
      by_event i is (NetworkCall other vote, answer) h =
          let both = and_parts (is_some_and (sender_in x other) (λ j. eqb j.0 i.0)) (blocks answer) h in
          let named = where_holds (λ j. eqb j.0 i.0) (sender_in x other) both.0 in
          let is_other : sender_in x other ≡ Some i =
          named.1 ∙ ap (λ j. Some (participant j)) (eqb-true _ _ named.2) in
          some_blocked test other vote answer both.1 (tells other sender i is_other is ∙ passes)
      by_event i is (call, answer) h = absurd (false≢true h)

  blocked_now : (c : Call K G C D) (a b : Answer G C D) (past others : History D K G C)
      → IsAlike a b
      → AtEachPlace (IsBlockedByBoth x) (history_after past c a) (history_after others c b)
      → blocks_some test (c, b) ≡ true
      → (blocks_some test (c, a) || list_any (blocks_some test) past) ≡ true
  blocked_now (NetworkCall sender vote) a (NetworkAnswer admission) past others alike each h =
      let both = marked (is_some admission.block) h in
      let here = made (is_made a) (told_alike a (NetworkAnswer admission) alike).made each both.0 in
      ⊎_elim
      (λ now. or_left _ (list_any (blocks_some test) past) (some_blocked test sender vote a now both.1))
      (λ before.
      or_right (blocks_some test (NetworkCall sender vote, a)) _
      (blocked_earlier past sender both.1 before))
      (or_cases (blocks a) (was_blocked x past sender) here)
    where
      marked : (b : Bool) → is_some_and (cond b (Some sender) None) test ≡ true
          → (b ≡ true) × (test sender ≡ true)
      marked true k = (refl, k)
      marked false k = absurd (false≢true k)

      made : (m : Bool) → m ≡ true
          → AtEachPlace (IsBlockedByBoth x) (cond m ((NetworkCall sender vote, a) ∷ past) past)
          ((NetworkCall sender vote, NetworkAnswer admission) ∷ others)
          → is_some admission.block ≡ true → (blocks a || was_blocked x past sender) ≡ true
      made true is at = at.0
      made false is at = absurd (false≢true is)
  blocked_now c a b past others alike each h = absurd (false≢true h)

  blocked_along : (calls : List (Call K G C D)) (retained released : List (Answer G C D))
      (past others : History D K G C) → AnsweredAlike retained released
      → AtEachPlace (IsBlockedByBoth x) (history_from past calls retained)
      (history_from others calls released)
      → block_some test calls released ≡ true
      → (block_some test calls retained || list_any (blocks_some test) past) ≡ true
  blocked_along [] retained released past others alike each h = absurd (false≢true h)
  blocked_along (c ∷ calls) [] [] past others alike each h = absurd (false≢true h)
  blocked_along (c ∷ calls) [] (b ∷ released) past others alike each h = absurd alike
  blocked_along (c ∷ calls) (a ∷ retained) [] past others alike each h = absurd alike
  blocked_along (c ∷ calls) (a ∷ retained) (b ∷ released) past others alike each h =
      ap (λ k. k || list_any (blocks_some test) past) (any_blocked test c a calls retained)
      ∙ by_place (blocks_some test (c, a)) (block_some test calls retained) (list_any (blocks_some test) past)
      (⊎_elim
      (λ now. inl (blocked_now c a b past others alike.0 earlier now))
      (λ later. inr (by_made (is_made a) (blocked_along calls retained released _ _ alike.1 each later)))
      (or_cases _ _ (sym (any_blocked test c b calls released) ∙ h)))
    where
      earlier : AtEachPlace (IsBlockedByBoth x) (history_after past c a) (history_after others c b)
      earlier =
          at_earlier (IsBlockedByBoth x) calls retained released
          (history_after past c a) (history_after others c b) alike.1 each

      by_made : (made : Bool)
          → (block_some test calls retained
          || list_any (blocks_some test) (cond made ((c, a) ∷ past) past)) ≡ true
          → (block_some test calls retained
          || (blocks_some test (c, a) || list_any (blocks_some test) past)) ≡ true
      by_made true k = k
      by_made false k =
          or_also (block_some test calls retained) (blocks_some test (c, a)) (list_any (blocks_some test) past) k

module _ {D K G C : Type 0} (x : Config D K G C) where
  -- Two rounds have answered some calls each. Whom the releasing round's answers block those of the
  -- retaining one block too, also with more calls and answers, where those of the releasing round
  -- block nobody.
  pub blocks_no_more : (all calls more : List (Call K G C D))
      (retained released more_retained more_released : List (Answer G C D)) → calls ++ more ≡ all
      → length retained ≡ length calls → length released ≡ length calls
      → AnsweredAlike retained released
      → AtEachPlace (IsBlockedByBoth x) (history calls retained) (history calls released)
      → list_any blocks more_released ≡ false
      → BlocksNoMore x all (retained ++ more_retained) (released ++ more_released)
  blocks_no_more all calls more retained released more_retained more_released whole long short alike each none test tells h =
      ap (λ cs. block_some test cs (retained ++ more_retained)) (sym whole)
      ∙ (more_blocked test calls more retained more_retained long
      ∙ or_left _ _
      (sym (or-false _)
      ∙ blocked_along x test tells calls retained released [] [] alike each
      (sym (or-false _)
      ∙ (ap (λ b. block_some test calls released || b) (sym (none_blocked test more more_released none))
      ∙ (sym (more_blocked test calls more released more_released short)
      ∙ (ap (λ cs. block_some test cs (released ++ more_released)) whole ∙ h))))))
