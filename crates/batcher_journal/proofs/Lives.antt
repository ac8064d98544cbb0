-- No two votes that were handed out contradict each other, over any life.
use Rattle.batcher_journal.proofs.Words.{◌≡◌, ◌⊎◌, ◌++◌, ◌∙◌, zero, suc, Bool, true, false, not, List, [], ◌∷◌, ap, arith, get_or, inl, inr, refl, subst, sym}
use Rattle.batcher_journal.proofs.Words.{IsEquivalence, filter, All, Contains, All-append, All-contains, All-nil, All-weaker, Contains-append_cases}
use Rattle.batcher_journal.proofs.Words.{Contains-append_left, Contains-append_right, get_or_default, subjects_contradict, Answers, MayBeWrittenBehind}
use Rattle.batcher_journal.proofs.Words.{AreCompatible, AreSignedOnce, from_floor, is_below, is_over, Asks, Breaks, BreaksRaising, Crashes, JournalEvent}
use Rattle.batcher_journal.proofs.Words.{IsKept, JournalLife, NeverContradicts, Opens, Raises, Step, World, Writes, handed_after, Answer, Closed, Known, Over}
use Rattle.batcher_journal.proofs.Words.{Refused, Sign, round_in, subject_of, Subject, Vote, Round}
use Rattle.batcher_journal.proofs.Following.{compatible, followed, once}
use Rattle.batcher_journal.proofs.Symmetric.{contradict_symmetric, subjects_symmetric}
use Rattle.batcher_journal.proofs.Raises.{left_follow}
use Rattle.batcher_journal.proofs.Rounds.{no_contradiction, other_subject, still_over}

pub contains_filter : {X : Type 0} (p : X → Bool) (xs : List X) (x : X) → Contains xs x → p x ≡ true
    → Contains (filter p xs) x
contains_filter p [] x (i, lt, is) passes = absurd (omega arith)
contains_filter p (y ∷ xs) x (zero, lt, is) passes =
    rw (ap p is ∙ passes) (0, omega arith, is)
contains_filter p (y ∷ xs) x (suc i, lt, is) passes =
    of_bool (contains_filter p xs x (i, omega arith, is) passes) (p y) refl
  where
    of_bool : Contains (filter p xs) x → (b : Bool) → p y ≡ b → Contains (filter p (y ∷ xs)) x
    of_bool behind true e = rw e (suc behind.0, omega (arith, behind.1), behind.2)
    of_bool behind false e = rw e behind

wrong : {A : Type 0} → true ≡ false → A
wrong e = absurd cc

module _ {G D : Type 0} (same : D → D → Bool) (laws : IsEquivalence same) where
  -- a vote that is there isn't of a round that is over
  above : (floor : Round) (disk : List (Vote G D)) (vote : Vote G D)
      → MayBeWrittenBehind same floor [] disk
      → Contains disk vote → is_over floor vote ≡ false
  above floor disk vote follows there = (follows there.0 vote there.1 (sym there.2)).1

  -- Votes that are on a disk, and others that were handed out before and are over.
  module _ (floor : Round) (disk handed all : List (Vote G D)) (follows : MayBeWrittenBehind same floor [] disk)
      (were : AreCompatible same handed) (one : AreSignedOnce same handed)
      (each : (x : Vote G D) → Contains all x
      → Contains disk x ⊎ ((is_over floor x ≡ true) × Contains handed x)) where
    all_compatible : AreCompatible same all
    all_compatible x y in_x in_y = of_both (each x in_x) (each y in_y)
      where
        of_both : Contains disk x ⊎ ((is_over floor x ≡ true) × Contains handed x)
            → Contains disk y ⊎ ((is_over floor y ≡ true) × Contains handed y)
            → subjects_contradict same (subject_of x) (subject_of y) ≡ false
        of_both (inl a) (inl b) = compatible same floor laws disk follows x y a b
        of_both (inr a) (inl b) =
            no_contradiction same floor (subject_of x) (subject_of y) a.0 (above floor disk y follows b)
        of_both (inl a) (inr b) =
            contradict_symmetric same laws (subject_of x) (subject_of y)
            ∙ no_contradiction same floor (subject_of y) (subject_of x) b.0 (above floor disk x follows a)
        of_both (inr a) (inr b) = were x y a.1 b.1

    all_once : AreSignedOnce same all
    all_once x y in_x in_y is = of_both (each x in_x) (each y in_y)
      where
        of_both : Contains disk x ⊎ ((is_over floor x ≡ true) × Contains handed x)
            → Contains disk y ⊎ ((is_over floor y ≡ true) × Contains handed y) → x ≡ y
        of_both (inl a) (inl b) = once same floor laws disk follows x y a b is
        of_both (inr a) (inl b) =
            wrong (sym is ∙ other_subject same floor (subject_of x) (subject_of y) a.0 (above floor disk y follows b))
        of_both (inl a) (inr b) =
            wrong (sym is ∙ subjects_symmetric same laws (subject_of x) (subject_of y)
            ∙ other_subject same floor (subject_of y) (subject_of x) b.0 (above floor disk x follows a))
        of_both (inr a) (inr b) = one x y a.1 b.1 is

  -- what holds at each moment of a life
  record Holds (floor : Round) (disk handed : List (Vote G D)) : Type 0 where
    follows : MayBeWrittenBehind same floor [] disk
    compatible_ : AreCompatible same handed
    once_ : AreSignedOnce same handed
    kept : All (IsKept floor disk) handed

  more_kept : (floor : Round) (disk votes : List (Vote G D)) (x : Vote G D) → IsKept floor disk x
      → IsKept floor (disk ++ votes) x
  more_kept floor disk votes x (inl there) = inl (Contains-append_left disk votes x there)
  more_kept floor disk votes x (inr over) = inr over

  -- votes that are on the disk are handed out
  hands : (floor : Round) (disk handed votes : List (Vote G D)) → Holds floor disk handed
      → ((x : Vote G D) → Contains votes x → Contains disk x) → Holds floor disk (handed ++ votes)
  hands floor disk handed votes holds there = record {
    follows = holds.follows;
    compatible_ = all_compatible floor disk handed (handed ++ votes) holds.follows holds.compatible_ holds.once_ each;
    once_ = all_once floor disk handed (handed ++ votes) holds.follows holds.compatible_ holds.once_ each;
    kept = All-append (IsKept floor disk) handed votes holds.kept
        (λ k d lt. inl (there (get_or votes k d) (k, lt, get_or_default votes k (get_or votes k d) d lt)));
  } where
    each : (x : Vote G D) → Contains (handed ++ votes) x
        → Contains disk x ⊎ ((is_over floor x ≡ true) × Contains handed x)
    each x in_all = elim (Contains-append_cases handed votes x in_all) [
      | inl old ↦ elim (All-contains (IsKept floor disk) handed x holds.kept old) [
        | inl on_disk ↦ inl on_disk
        | inr over ↦ inr (over, old)
      ]
      | inr new ↦ inl (there x new)
    ]

  -- votes are written
  writes : (floor : Round) (disk handed votes : List (Vote G D)) → Holds floor disk handed
      → MayBeWrittenBehind same floor disk votes → Holds floor (disk ++ votes) handed
  writes floor disk handed votes holds follows = record {
    follows = followed same floor disk votes holds.follows follows;
    compatible_ = holds.compatible_;
    once_ = holds.once_;
    kept = All-weaker (IsKept floor disk) (IsKept floor (disk ++ votes)) (more_kept floor disk votes) handed holds.kept;
  }

  -- the floor is raised
  raises : (old new : Round) (disk handed : List (Vote G D)) → Holds old disk handed
      → is_below old new ≡ false → Holds new (from_floor new disk) handed
  raises old new disk handed holds up = record {
    follows = left_follow same old new disk holds.follows;
    compatible_ = holds.compatible_;
    once_ = holds.once_;
    kept = All-weaker (IsKept old disk) (IsKept new (from_floor new disk)) left handed holds.kept;
  } where
    left : (x : Vote G D) → IsKept old disk x → IsKept new (from_floor new disk) x
    left x (inr over) = inr (still_over old new (round_in (subject_of x)) up over)
    left x (inl there) = of_bool (is_over new x) refl
      where
        of_bool : (b : Bool) → is_over new x ≡ b → IsKept new (from_floor new disk) x
        of_bool true e = inr e
        of_bool false e = inl (contains_filter (λ v. not (is_over new v)) disk x there (ap not e))

  asked : (floor : Round) (disk : List (Vote G D)) (is_open : Bool) (handed : List (Vote G D))
      (subject : Subject D)
      (answer : Answer G D) → Holds floor disk handed
      → Answers same floor is_open disk subject answer
      → Holds floor disk (handed_after answer handed)
  asked floor disk true handed subject Sign holds answers = holds
  asked floor disk true handed subject (Known vote) holds answers =
      hands floor disk handed (vote ∷ []) holds
      (λ x in_one. subst (Contains disk) (only x in_one) answers.0)
    where
      only : (x : Vote G D) → Contains (vote ∷ []) x → vote ≡ x
      only x (zero, lt, is) = is
      only x (suc i, lt, is) = absurd (omega arith)
  asked floor disk true handed subject (Refused vote) holds answers = holds
  asked floor disk true handed subject Over holds answers = holds
  asked floor disk true handed subject Closed holds answers = holds
  asked floor disk false handed subject Sign holds answers = holds
  asked floor disk false handed subject (Known vote) holds answers = absurd answers
  asked floor disk false handed subject (Refused vote) holds answers = holds
  asked floor disk false handed subject Over holds answers = holds
  asked floor disk false handed subject Closed holds answers = holds

  step_holds : (old : World G D) (event : JournalEvent G D) (new : World G D)
      → Holds old.floor old.disk old.handed → Step same old event new
      → Holds new.floor new.disk new.handed
  step_holds old (Asks subject answer) new holds step =
      rw (step.1.0, step.1.1, step.3) (asked old.floor old.disk old.is_open old.handed subject answer holds step.0)
  step_holds old (Writes votes) new holds step =
      rw (step.1.1, step.1.2, step.3)
      (hands old.floor (old.disk ++ votes) old.handed votes (writes old.floor old.disk old.handed votes holds step.1.0)
      (λ x new_one. Contains-append_right old.disk votes x new_one))
  step_holds old (Breaks votes) new holds step = elim step.1 [
    | inl stays ↦ rw (stays.0, stays.1, step.3) holds
    | inr more ↦ rw (more.1, more.2, step.3) (writes old.floor old.disk old.handed votes holds more.0)
  ]
  step_holds old (Raises floor) new holds step =
      rw (step.1.1, step.1.2, step.3) (raises old.floor floor old.disk old.handed holds step.1.0)
  step_holds old (BreaksRaising floor) new holds step = elim step.1 [
    | inl stays ↦ rw (stays.0, stays.1, step.3) holds
    | inr raised ↦ rw (raised.1, raised.2, step.3) (raises old.floor floor old.disk old.handed holds raised.0)
  ]
  step_holds old Crashes new holds step = rw (step.0.0, step.0.1, step.2) holds
  step_holds old Opens new holds step = rw (step.0.0, step.0.1, step.2) holds

  life_holds : (events : List (JournalEvent G D)) (start end : World G D)
      → Holds start.floor start.disk start.handed → JournalLife same start events end
      → Holds end.floor end.disk end.handed
  life_holds [] start end holds life = subst (λ w. Holds w.floor w.disk w.handed) (sym life) holds
  life_holds (event ∷ events) start end holds life =
      life_holds events life.0 end (step_holds start event life.0 holds life.1) life.2

  pub never_contradicts : NeverContradicts G same
  never_contradicts events start end empty none life =
      let first : Holds start.floor start.disk start.handed = rw (empty, none) (record {
        follows = λ i vote lt is. absurd (omega arith);
        compatible_ = λ x y in_x in_y. absurd (omega (arith, in_x.1));
        once_ = λ x y in_x in_y is. absurd (omega (arith, in_x.1));
        kept = All-nil (IsKept start.floor []);
      }) in
      let last = life_holds events start end first life in
      (last.compatible_, last.once_, last.kept)
