-- A view is entered, and given up where its leader is blocked, or absent.
use Rattle.batcher_validator.proofs.Words.{◌≡◌, ◌+◌, ◌-◌, ◌*◌, ◌^◌, ◌<◌, ◌∙◌, ℕ, Bool, true, false, ◌==◌, ◌∷◌, ap, arith, cond}
use Rattle.batcher_validator.proofs.Words.{length, map, max, min, is_some, nat_le, nat_lt, option_map_or, refl, subst, sym, slice_get}
use Rattle.batcher_validator.proofs.Words.{Participant, called, view_entered, NodeConfig, cause_at, cause_in, IsRunning, RunMeets, RunEnters}
use Rattle.batcher_validator.proofs.Words.{ForEachRun, GivenView, ValidatorView, ValidatorHistory, calls_in, did, entering, gave_up, is_given_up}
use Rattle.batcher_validator.proofs.Words.{silence_of}
use Rattle.batcher_validator.proofs.Words.{RunStays, NodeView, VoterMeets, eq-eqb, lt-ltb, ne_eqb}
use Rattle.batcher_validator.proofs.Choosing.{gives_up}
use Rattle.batcher_validator.proofs.Going.{runs}
use Rattle.batcher_validator.proofs.Hearing.{as_noted, noted, silent_entered}

-- Whose views are given up, by what is noted.
module _ {S D K G C L : Type 0} (x : NodeConfig D K G C) (validator : ValidatorView S G D L C)
    (leader : Participant) where
  pub outside_isnt :
      nat_lt leader.0 (length x.meaning.participants) ≡ false
      → ForEachRun x validator (λ past earlier. false ≡ is_given_up x past leader)
  outside_isnt e past earlier is = rw (e) refl

  module _ (within : leader.0 < length x.meaning.participants) where
    within_is : nat_lt leader.0 (length x.meaning.participants) ≡ true
    within_is = lt-ltb leader.0 (length x.meaning.participants) within

    pub itself_isnt :
        leader.0 ≡ validator.given.intent.me.0
        → ForEachRun x validator (λ past earlier. false ≡ is_given_up x past leader)
    itself_isnt same past earlier is =
        let itself = eq-eqb validator.given.intent.me.0 leader.0 (sym same) in
        rw (within_is, is.intends.votes_as, itself) refl

    module _ (other : (leader.0 ≡ validator.given.intent.me.0) → ⊥) where
      other_is : (validator.given.intent.me.0 == leader.0) ≡ false
      other_is = ne_eqb validator.given.intent.me.0 leader.0 (λ same. other (sym same))

      pub blocked_is :
          is_some (cause_at validator.voter.node.blocked leader.0) ≡ true
          → ForEachRun x validator (λ past earlier. true ≡ is_given_up x past leader)
      blocked_is blocked past earlier is =
          let why : is_some (cause_in x (calls_in past) leader.0) ≡ true =
          ap is_some (sym (is.voting.represents.blocked_are leader.0 within)) ∙ blocked in
          rw (within_is, is.intends.votes_as, other_is, why) refl

      pub absent_is :
          is_some (cause_at validator.voter.node.blocked leader.0) ≡ false
          → (absent : Bool) → absent ≡ option_map_or (nat_le (length x.meaning.participants * 2))
          (slice_get validator.given.presence leader.0) false
          → length x.meaning.participants < 2 ^ 32
          → ForEachRun x validator (λ past earlier. absent ≡ is_given_up x past leader)
      absent_is free absent silent few past earlier is =
          let why : is_some (cause_in x (calls_in past) leader.0) ≡ false =
          ap is_some (sym (is.voting.represents.blocked_are leader.0 within)) ∙ free in
          rw (within_is, is.intends.votes_as, other_is, why, silent, is.hears leader.0 within, long) refl
        where
          long :
              nat_le (length x.meaning.participants * 2)
              (noted (silence_of x leader.0 (calls_in past)))
              ≡ nat_le (length x.meaning.participants * 2)
              (silence_of x leader.0 (calls_in past))
          long =
              as_noted (length x.meaning.participants * 2) (silence_of x leader.0 (calls_in past))
              (omega (arith, few))

-- It goes on so.
module _ {S D K G C L : Type 0} (x : NodeConfig D K G C) (old mid new : ValidatorView S G D L C)
    (contents : mid.voter.journal.contents ≡ old.voter.journal.contents)
    (is_open : mid.voter.journal.is_open ≡ old.voter.journal.is_open)
    (same : mid.given ≡ old.given) (shelf : mid.shelf ≡ old.shelf)
    (voter : new.voter ≡ mid.voter) (new_shelf : new.shelf ≡ mid.shelf)
    (view : ℕ) (leader : Participant) (is_over : Bool)
    (given : new.given ≡ record mid.given {
      presence = map (λ silence. min (silence + 1) (2 ^ 64 - 1)) mid.given.presence;
      intent = record mid.given.intent {
        expired = cond is_over (max mid.given.intent.expired view) mid.given.intent.expired;
      };
    })
    (meets : VoterMeets x old.voter mid.voter (view_entered view leader)) where
  abbrev Entered : ValidatorView S G D L C
  Entered =
      record {
        voter = mid.voter;
        given = record mid.given {
          presence = map (λ silence. min (silence + 1) (2 ^ 64 - 1)) mid.given.presence;
        };
        shelf = mid.shelf;
      }

  entered : RunMeets x old Entered (did (called (view_entered view leader)))
  entered =
      runs x old Entered contents is_open old.given.calm
      (map (λ silence. min (silence + 1) (2 ^ 64 - 1)) old.given.presence)
      (ap (λ (it : GivenView D). record it {
        presence = map (λ silence. min (silence + 1) (2 ^ 64 - 1)) it.presence;
      }) same)
      (ap (λ s. s.certificates) shelf) (ap (λ s. s.handed) shelf) (view_entered view leader)
      (λ w. refl) (λ it held. absurd cc) (λ calm. (calm, λ i. refl))
      (λ past earlier is. silent_entered x past old.given.presence is.hears view leader)
      meets

  pub enters_so :
      ForEachRun x old (λ past earlier. is_over ≡ is_given_up x past leader)
      → RunEnters x view leader old new
  enters_so is_so past earlier is =
      subst (λ b. IsRunning x (cond b (gave_up view ∷ Now) Now) earlier new) (is_so past earlier is)
      (of_cases is_over refl)
    where
      Now : ValidatorHistory D K G C
      Now = did (called (view_entered view leader)) ∷ past

      of_cases : (b : Bool) → is_over ≡ b
          → IsRunning x (cond b (gave_up view ∷ Now) Now) earlier new
      of_cases true e =
          gives_up x Entered new _
          (given ∙ ap (λ b. record Entered.given {
            intent = record mid.given.intent {
              expired = cond b (max mid.given.intent.expired view) mid.given.intent.expired;
            };
          }) e)
          voter new_shelf Now earlier (entered past earlier is) view refl
      of_cases false e =
          subst (λ v. IsRunning x Now earlier (record { voter = v; given = new.given; shelf = new.shelf }))
          (sym voter)
          (subst (λ it. IsRunning x Now earlier (record { voter = mid.voter; given = it; shelf = new.shelf }))
          (sym (given ∙ ap (λ b. record Entered.given {
            intent = record mid.given.intent {
              expired = cond b (max mid.given.intent.expired view) mid.given.intent.expired;
            };
          }) e))
          (subst (λ s. IsRunning x Now earlier (record { voter = mid.voter; given = Entered.given; shelf = s }))
          (sym new_shelf) (entered past earlier is)))

-- Then nothing happens that counts.
pub enters_then_stays :
    {S D K G C L : Type 0} (config : NodeView S G D → NodeConfig D K G C)
    (old mid new : ValidatorView S G D L C) (view : ℕ) (leader : Participant)
    → config mid.voter.node ≡ config old.voter.node
    → RunEnters (config old.voter.node) view leader old mid
    → RunStays (config mid.voter.node) mid new
    → RunEnters (config old.voter.node) view leader old new
enters_then_stays config old mid new view leader same enters stays past earlier is =
    subst (λ x. IsRunning x (entering (config old.voter.node) past view leader) earlier new) same
    (stays (entering (config old.voter.node) past view leader) earlier
    (subst (λ x. IsRunning x (entering (config old.voter.node) past view leader) earlier mid) (sym same)
    (enters past earlier is)))
