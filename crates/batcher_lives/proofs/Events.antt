-- One event more.
use Rattle.batcher_lives.proofs.Words.{◌≡◌, ◌++◌, Bool, true, false, List, [], ◌∷◌, inr, refl, subst, Answers, MayBeWrittenBehind, from_floor, is_below, Asks}
use Rattle.batcher_lives.proofs.Words.{Breaks, BreaksRaising, Crashes, JournalEvent, JournalLife, Opens, Raises, Step, World, Writes, Known, Subject, Vote}
use Rattle.batcher_lives.proofs.Words.{Round, IsReached, just_begun, world}

module _ {G D : Type 0} (same : D → D → Bool) where
  more : (events : List (JournalEvent G D)) (old middle new : World G D) (event : JournalEvent G D)
      → JournalLife same old events middle → Step same middle event new
      → JournalLife same old (events ++ event ∷ []) new
  more [] old middle new event life step = (new, subst (λ m. Step same m event new) life step, refl)
  more (first ∷ events) old middle new event (next, one, life) step =
      (next, one, more events next middle new event life step)

  module _ (first : Round) (handed : List (Vote G D)) (is_open : Bool) (floor : Round) (disk : List (Vote G D))
      (reached : IsReached same first handed is_open floor disk) where
    goes_on : (event : JournalEvent G D) (new_handed : List (Vote G D)) (new_open : Bool)
        (new_floor : Round)
        (new_disk : List (Vote G D))
        → Step same (world same first handed is_open floor disk) event
        (world same first new_handed new_open new_floor new_disk)
        → IsReached same first new_handed new_open new_floor new_disk
    goes_on event new_handed new_open new_floor new_disk step = record {
      events = reached.events ++ event ∷ [];
      life = more reached.events (just_begun same first) (world same first handed is_open floor disk)
          (world same first new_handed new_open new_floor new_disk) event reached.life step;
    }

    pub crashed : IsReached same first handed false floor disk
    crashed = goes_on Crashes handed false floor disk ((refl, refl), refl, refl)

    pub opened : IsReached same first handed true floor disk
    opened = goes_on Opens handed true floor disk ((refl, refl), refl, refl)

  -- of a journal that is open
  module _ (first : Round) (handed : List (Vote G D)) (floor : Round) (disk : List (Vote G D))
      (reached : IsReached same first handed true floor disk) where
    pub asked : (subject : Subject D) (vote : Vote G D)
        → Answers same floor true disk subject (Known vote)
        → IsReached same first (handed ++ vote ∷ []) true floor disk
    asked subject vote answers =
        goes_on first handed true floor disk reached (Asks subject (Known vote)) (handed ++ vote ∷ []) true floor disk
        (answers, (refl, refl), refl, refl)

    pub wrote : (votes : List (Vote G D)) → MayBeWrittenBehind same floor disk votes
        → IsReached same first (handed ++ votes) true floor (disk ++ votes)
    wrote votes follows =
        goes_on first handed true floor disk reached (Writes votes) (handed ++ votes) true floor (disk ++ votes)
        (refl, (follows, refl, refl), refl, refl)

    pub broke : (votes : List (Vote G D)) → MayBeWrittenBehind same floor disk votes
        → IsReached same first handed false floor (disk ++ votes)
    broke votes follows =
        goes_on first handed true floor disk reached (Breaks votes) handed false floor (disk ++ votes)
        (refl, inr (follows, refl, refl), refl, refl)

    pub rose : (to : Round) → is_below floor to ≡ false
        → IsReached same first handed true to (from_floor to disk)
    rose to up =
        goes_on first handed true floor disk reached (Raises to) handed true to (from_floor to disk)
        (refl, (up, refl, refl), refl, refl)

    pub broke_raising : (to : Round) → is_below floor to ≡ false
        → IsReached same first handed false to (from_floor to disk)
    broke_raising to up =
        goes_on first handed true floor disk reached (BreaksRaising to) handed false to (from_floor to disk)
        (refl, inr (up, refl, refl), refl, refl)

  pub begins : (first : Round) → IsReached {G = G} same first [] true first []
  begins first = record { events = []; life = refl }
