-- A validator that gave nothing.
use Rattle.batcher_validator.proofs.Words.{◌≡◌, ◌++◌, ◌∙◌, ℕ, zero, suc, Bool, true, false, List, [], ◌∷◌, Some, None, ap, arith, length, refl, replicate}
use Rattle.batcher_validator.proofs.Words.{subst, sym, take, Contains, unwrap_or, slice_get, Participant, subject_of, Certificate, Format, Conduct, HasVoted}
use Rattle.batcher_validator.proofs.Words.{Contents, take_all, Remembers, node_history, started, NodeConfig, NodeView, AreFirst, Recalls, HasBegun}
use Rattle.batcher_validator.proofs.Words.{◌-◌, ◌<◌, ◌^◌, min, silence_of}
use Rattle.batcher_validator.proofs.Words.{HasCertificate, IsRunning, ValidatorView, is_over_for, began, nothing_unsigned, only_took, HasStarted}
use Rattle.batcher_validator.proofs.Going.{never_calm}

contains_none : {X : Type 0} (xs : List X) (x : X) → Contains (take 0 xs) x → ⊥
contains_none [] x (i, lt, is) = absurd (omega arith)
contains_none (y ∷ xs) x (i, lt, is) = absurd (omega arith)

none_contained : {X : Type 0} (xs : List X) → xs ≡ [] → (x : X) → Contains xs x → ⊥
none_contained [] none x (i, lt, is) = absurd (omega arith)
none_contained (y ∷ xs) none x there = absurd cc

-- nothing was given
pub first_none :
    {X Y : Type 0} (key : X → Y) (is_over : Y → Bool) (Was : Y → Type 0) (items : List X)
    → ((y : Y) → Was y → ⊥) → AreFirst key is_over Was items 0
first_none key is_over Was items none =
    record {
      within = omega arith;
      were_given = λ x there. absurd (contains_none items x there);
      no_others = λ y was above. absurd (none y was);
    }

none_set : (n i : ℕ) → slice_get (replicate n false) i ≡ Some true → ⊥
none_set zero i e = absurd cc
none_set (suc n) zero e =
    let differ : false ≡ true = ap (λ o. unwrap_or o true) e in
    absurd cc
none_set (suc n) (suc i) e = none_set n i e

-- a list of zeros
all_fresh : (n i : ℕ) → i < n → slice_get {X = ℕ} (replicate n 0) i ≡ Some 0
all_fresh zero i lt = absurd (omega (arith, lt))
all_fresh (suc n) zero lt = refl
all_fresh (suc n) (suc i) lt = all_fresh n i (omega (arith, lt))

pub still_fresh :
    {n m : ℕ} (silences : List ℕ) → silences ≡ replicate n 0 → n ≡ m → silences ≡ replicate m 0
still_fresh silences fresh same = subst (λ k. silences ≡ replicate k 0) same fresh

-- a list that is made of false alone
pub none_resized :
    (n m : ℕ) (old new : List Bool) → old ≡ [] → new ≡ take n old ++ replicate m false
    → (i : ℕ) → slice_get new i ≡ Some true → ⊥
none_resized n m old new none made i e =
    none_set m i (ap (λ xs. slice_get xs i)
    (sym (made ∙ ap (λ xs. take n xs ++ replicate m false) none ∙ ap (λ xs. xs ++ replicate m false) (take_none n)))
    ∙ e)
  where
    no_bools : List Bool
    no_bools = []

    take_none : (k : ℕ) → take k [] ≡ no_bools
    take_none zero = refl
    take_none (suc k) = refl

-- all votes that a journal has are of earlier lives
first_all :
    {G D : Type 0} {past : Conduct D} {contents : Contents G D} → Remembers past contents
    → AreFirst subject_of (is_over_for contents.floor) (λ s. HasVoted past s) contents.votes
    (length contents.votes)
first_all {past = past} {contents = contents} has =
    record {
      within = omega arith;
      were_given = λ vote there. has.no_others vote
          (subst (λ vs. Contains vs vote) (take_all (length contents.votes) contents.votes (omega arith)) there);
      no_others = λ s voted above.
          let it = has.are_there s voted above in
          record {
            item = it.vote;
            there = subst (λ vs. Contains vs it.vote)
                (sym (take_all (length contents.votes) contents.votes (omega arith))) it.there;
            is_of = it.is_for;
          };
    }

module _ {S D K G C L : Type 0} (x : NodeConfig D K G C) (validator : ValidatorView S G D L C)
    (earlier : Conduct D) where
  pub begun :
      (blocked : List Bool) (me : Participant) (count : ℕ)
      → count ≡ length validator.voter.journal.contents.votes
      → ((i : ℕ) → slice_get blocked i ≡ Some true → ⊥)
      → (presence : List ℕ) → presence ≡ replicate (length x.meaning.participants) 0
      → validator.given ≡ record {
        blocked = blocked;
        calm = false;
        announced = 0;
        tally = record { begun = count; recast = 0; sent = 0; resent = 0 };
        resending = record { from = 0; turn = 0 };
        asked = 0;
        verifying = false;
        forwarding = None;
        intent = record {
          me = me;
          signing = None;
          unsigned = nothing_unsigned;
          expired = 0;
          chosen = None;
          posed = 0;
        };
        decided = record { first = 0; end = 0 };
        presence = presence;
      }
      → validator.shelf.certificates ≡ [] → validator.shelf.handed ≡ 0
      → (has : HasStarted x earlier validator.voter)
      → IsRunning x (began me has.past ∷ []) earlier validator
  begun blocked me count all none presence fresh given empty handed has =
      record {
        voting = has.voting;
        in_turn = tt;
        blocks = rw (given) record {
          were_blocked = λ i there. absurd (none i there);
          no_others = λ i was. absurd was;
        };
        calms = rw (given) (λ wrong. absurd (never_calm wrong));
        finals = rw (given) record {
          were_asked = λ view some within. absurd (omega (arith, some, within));
          no_others = λ view was. absurd was;
        };
        votes = λ opened. rw (given) (first_none _ _ _ _ (λ s was. was));
        votes_again = λ opened. rw (given) (first_none _ _ _ _ (λ s was. was));
        resends = rw (given) (refl, refl);
        begins = λ opened. rw (given, all) (first_all (has.voting.remembers opened));
        casts = λ opened. rw (given) (first_none _ _ _ _ (λ s was. was));
        kept = record {
          had = λ c there. absurd (none_contained validator.shelf.certificates empty c there);
          certify = λ c there. absurd (none_contained validator.shelf.certificates empty c there);
          looked_at = λ c there. absurd (none_contained validator.shelf.certificates empty c there);
          are_there = λ c counts. absurd counts.had;
        };
        certificates = rw (handed) (first_none _ _ _ _ (λ key was. was));
        asks = rw (given) record {
          were_asked = λ view some within. absurd (omega (arith, some, within));
          no_others = λ view was. absurd was;
        };
        verifies = rw (given) (λ is. is);
        forwards = rw (given) refl;
        intends = rw (given) record {
          votes_as = refl;
          signs = refl;
          refuses = refl;
          expires = refl;
          chooses = refl;
          poses = refl;
        };
        decides = rw (given) (λ view from before. absurd (omega (arith, before)));
        hears = rw (given) (λ i lt.
            subst (λ h. slice_get presence i ≡ Some (min (silence_of x i h) (2 ^ 64 - 1))) (sym has.asked_nothing)
            (ap (λ silences. slice_get silences i) fresh ∙ all_fresh (length x.meaning.participants) i lt));
      }

-- It takes in what its disk has.
pub has_begun :
    {S D K G C L : Type 0} (config : NodeView S G D → NodeConfig D K G C)
    (format : Format (Certificate C D)) (old new : ValidatorView S G D L C) (earlier : Conduct D)
    (me : Participant) → me.0 ≡ old.voter.journal.contents.owner.1.1.0
    → (has : HasStarted (config old.voter.node) earlier old.voter)
    → IsRunning (config old.voter.node) (began me has.past ∷ []) earlier old
    → Recalls (config old.voter.node) (HasCertificate format old.voter.journal.contents) old new
    → new.voter.node ≡ old.voter.node → new.voter.journal ≡ old.voter.journal
    → HasBegun (config new.voter.node) format earlier new
has_begun config format old new earlier me owns has running recalls node journal =
    record {
      me = me;
      owns = subst (λ j. me.0 ≡ j.contents.owner.1.1.0) (sym journal) owns;
      past = has.past;
      held = recalls.held;
      has_all = λ c on_disk. recalls.has_all c
          (subst (λ j. HasCertificate format j.contents c) journal on_disk);
      no_others = λ c within. subst (λ j. HasCertificate format j.contents c) (sym journal)
          (recalls.no_others c within);
      running = subst (λ n. IsRunning (config n) (only_took recalls.held ++ began me has.past ∷ []) earlier new) (sym node)
          (recalls.running (began me has.past ∷ []) earlier running);
      asked_nothing = subst (λ n. node_history has.past ≡ started n.window ∷ []) (sym node)
          has.asked_nothing;
    }
