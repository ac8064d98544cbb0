-- All whom the answers to a list of calls block gave cause, by what they had done when the list ends.
use Rattle.batcher_histories.proofs.Words.{◌≡◌, ℕ, Bool, true, false, cond, ◌&&◌, ◌==◌, List, [], ◌∷◌, ◌++◌, Option, Some, None, refl, sym, ◌∙◌, subst, ⊎_elim}
use Rattle.batcher_histories.proofs.Words.{is_some, list_any, cons_option, and_parts, and_from, or_left, or_right, or_cases, All-nil, All-cons, list_any-append}
use Rattle.batcher_histories.proofs.Words.{cond_some, Vote, Call, NetworkCall, OwnCall, CertificateCall, LeaderCall, ConstructCall, ForwardCall, MissingCall}
use Rattle.batcher_histories.proofs.Words.{Answer, OutOfMemory, NetworkAnswer, OwnAnswer, OwnRefused, CertificateAnswer, LeaderAnswer, ConstructAnswer}
use Rattle.batcher_histories.proofs.Words.{ForwardAnswer, MissingAnswer, Config, sender_in, signer_of, any_more, blocked_sender, blocked_senders, Event}
use Rattle.batcher_histories.proofs.Words.{History, is_made, history_after, history_from, cast_votes, contradicts, IsAnswered, AreAnswered, votes_cast}
use Rattle.batcher_histories.proofs.Words.{names_another, contradicts_itself, gave_cause, GaveCause}
use Rattle.std.specs.Prelude.{All}
use Rattle.batcher_histories.proofs.History.Laws.{HasLaws}
use Rattle.batcher_histories.proofs.Headline.Promises.{blocked_for_cause}

module _ {D K G C : Type 0} (x : Config D K G C) where
  -- CAUSE STAYS
  -- Beside more votes two still contradict each other.
  still_contradicts : (new old : List (Vote G D)) (i : ℕ) → contradicts_itself x old i ≡ true
      → contradicts_itself x (new ++ old) i ≡ true
  still_contradicts new old i h =
      list_any-append beside_all new old
      ∙ or_right (list_any beside_all new) (list_any beside_all old) (any_more beside_old beside_all more old h)
    where
      beside_old : Vote G D → Bool
      beside_old v = (signer_of v == i) && list_any (contradicts x v) old

      beside_all : Vote G D → Bool
      beside_all v = (signer_of v == i) && list_any (contradicts x v) (new ++ old)

      more : (v : Vote G D) → beside_old v ≡ true → beside_all v ≡ true
      more v k =
          let parts = and_parts (signer_of v == i) (list_any (contradicts x v) old) k in
          and_from _ _ parts.0
          (list_any-append (contradicts x v) new old
          ∙ or_right (list_any (contradicts x v) new) (list_any (contradicts x v) old) parts.1)

  cause_grows : (past : History D K G C) (event : Event D K G C) (i : ℕ)
      → gave_cause x past i ≡ true
      → gave_cause x (event ∷ past) i ≡ true
  cause_grows past event i h =
      ⊎_elim
      (λ named. or_left _ _ (or_right (names_another x i event.0) _ named))
      (λ both. or_right _ _ (still_contradicts (cast_votes x event.0) (votes_cast x past) i both))
      (or_cases (list_any (λ e. names_another x i e.0) past) (contradicts_itself x (votes_cast x past) i) h)

  cause_after : (past : History D K G C) (call : Call K G C D) (answer : Answer G C D) (i : ℕ)
      → gave_cause x past i ≡ true → gave_cause x (history_after past call answer) i ≡ true
  cause_after past call answer i h = by_made (is_made answer)
    where
      by_made : (made : Bool) → gave_cause x (cond made ((call, answer) ∷ past) past) i ≡ true
      by_made true = cause_grows past (call, answer) i h
      by_made false = h

  cause_stays : (past : History D K G C) (calls : List (Call K G C D))
      (answers : List (Answer G C D))
      (i : ℕ) → gave_cause x past i ≡ true → gave_cause x (history_from past calls answers) i ≡ true
  cause_stays past [] answers i h = h
  cause_stays past (call ∷ calls) [] i h = h
  cause_stays past (call ∷ calls) (answer ∷ answers) i h =
      cause_stays (history_after past call answer) calls answers i (cause_after past call answer i h)

-- WHO IS BLOCKED
module _ {D K G C : Type 0} (x : Config D K G C) (laws : HasLaws x) where
  cause_now : (past : History D K G C) (call : Call K G C D) (answer : Answer G C D)
      → IsAnswered x past call answer → (key : K) → blocked_sender call answer ≡ Some key
      → GaveCause x (history_after past call answer) key
  cause_now past (NetworkCall sender vote) (NetworkAnswer admission) is key found = λ i known.
      let named = cond_some (is_some admission.block) sender key found in
      blocked_for_cause x laws past sender vote i (subst (λ k. sender_in x k ≡ Some i) (sym named.1) known) (NetworkAnswer admission)
      (subst (λ a. is_some a.block ≡ true) is named.0)
  cause_now past (NetworkCall sender vote) (OwnAnswer outcome report) is key found = absurd (cc)
  cause_now past (NetworkCall sender vote) (OwnRefused fault) is key found = absurd (cc)
  cause_now past (NetworkCall sender vote) (CertificateAnswer changed) is key found = absurd (cc)
  cause_now past (NetworkCall sender vote) (LeaderAnswer result) is key found = absurd (cc)
  cause_now past (NetworkCall sender vote) (ConstructAnswer given) is key found = absurd (cc)
  cause_now past (NetworkCall sender vote) (ForwardAnswer proposal) is key found = absurd (cc)
  cause_now past (NetworkCall sender vote) (MissingAnswer missing) is key found = absurd (cc)
  cause_now past (NetworkCall sender vote) OutOfMemory is key found = absurd (cc)
  cause_now past (OwnCall vote) answer is key found = absurd (cc)
  cause_now past (CertificateCall certificate) answer is key found = absurd (cc)
  cause_now past (LeaderCall leader) answer is key found = absurd (cc)
  cause_now past ConstructCall answer is key found = absurd (cc)
  cause_now past (ForwardCall me) answer is key found = absurd (cc)
  cause_now past (MissingCall proposal) answer is key found = absurd (cc)

  -- one key more, if there is one
  one_more : (P : K → Type 0) (o : Option K) (keys : List K) → ((key : K) → o ≡ Some key → P key)
      → All P keys → All P (cons_option o keys)
  one_more P None keys holds all = all
  one_more P (Some key) keys holds all = All-cons P key keys (holds key refl) all

  pub blocked_for_cause_all : (past : History D K G C) (calls : List (Call K G C D))
      (answers : List (Answer G C D)) → AreAnswered x past calls answers
      → All (GaveCause x (history_from past calls answers)) (blocked_senders calls answers)
  blocked_for_cause_all past [] [] are = All-nil (GaveCause x past)
  blocked_for_cause_all past [] (answer ∷ answers) are = absurd are
  blocked_for_cause_all past (call ∷ calls) [] are = absurd are
  blocked_for_cause_all past (call ∷ calls) (answer ∷ answers) are =
      one_more (GaveCause x (history_from (history_after past call answer) calls answers)) (blocked_sender call answer)
      (blocked_senders calls answers)
      (λ key found i known.
      cause_stays x (history_after past call answer) calls answers i.0 (cause_now past call answer are.0 key found i known))
      (blocked_for_cause_all (history_after past call answer) calls answers are.1)
