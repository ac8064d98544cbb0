-- What a call comes to.
use Rattle.batcher_lives.proofs.Words.{◌≡◌, ◌⊎◌, ◌++◌, ◌∙◌, ℕ, Bool, true, false, List, [], ◌∷◌, Err, Result, inl, inr, refl, subst, sym, All, Format, Answers}
use Rattle.batcher_lives.proofs.Words.{MayBeWrittenBehind, IsOneText, AreCompatible, AreSignedOnce, is_below, IsKept, NeverContradicts, HasContents, IsAsBefore}
use Rattle.batcher_lives.proofs.Words.{IsOnDisk, JournalView, RaiseLeaves, WriteLeaves, begun, raised, with_more, Contents, IsText, OwnerFields, Known}
use Rattle.batcher_lives.proofs.Words.{RaiseFault, RaiseClosed, RaiseFull, Lower, RaiseMemory, WriteFault, WriteClosed, NoRoom, NotFree, NoMemory, Subject}
use Rattle.batcher_lives.proofs.Words.{Vote, Round, LeadsToOpen, IsReached, IsShut, IsSomewhere, just_begun, world}
use Rattle.batcher_lives.proofs.Events.{asked, begins, broke, broke_raising, crashed, opened, rose, wrote}

not_both : {A : Type 0} (b : Bool) → b ≡ true → b ≡ false → A
not_both b held ended = not_true_and_false (sym held ∙ ended)
  where
    not_true_and_false : {B : Type 0} → true ≡ false → B
    not_true_and_false e = absurd cc

abbrev write_fault : WriteFault → Result (Unit {0}) WriteFault
write_fault fault = Err fault

abbrev raise_fault : RaiseFault → Result (Unit {0}) RaiseFault
raise_fault fault = Err fault

module _ {G D L : Type 0} (f : Format (Vote G D)) (same : D → D → Bool)
    (is_honest : L → Type 0) (may_leave : L → List ℕ → Type 0) (first : Round) where
  pub ask_open : (journal : JournalView G D L) (handed : List (Vote G D)) (subject : Subject D)
      (vote : Vote G D) → LeadsToOpen f same is_honest may_leave first journal handed
      → Answers same journal.contents.floor journal.is_open journal.contents.votes subject
      (Known vote)
      → LeadsToOpen f same is_honest may_leave first journal (handed ++ vote ∷ [])
  ask_open journal handed subject vote old answers = record {
    reached = λ is_open honest.
        asked same first handed journal.contents.floor journal.contents.votes (old.reached is_open honest) subject vote
        (subst (λ b. Answers same journal.contents.floor b journal.contents.votes subject (Known vote)) is_open answers);
    closed = λ is_closed.
        absurd (subst (λ b. Answers same journal.contents.floor b journal.contents.votes subject (Known vote)) is_closed answers);
  }

module _ {G D L : Type 0} (f : Format (Vote G D)) (same : D → D → Bool)
    (is_honest : L → Type 0) (may_leave : L → List ℕ → Type 0) (has_failed : L → Type 0)
    (first : Round) (one : IsOneText f) where
  abbrev Open : JournalView G D L → List (Vote G D) → Type 0
  Open = LeadsToOpen f same is_honest may_leave first

  abbrev Shut : L → List (Vote G D) → Type 0
  Shut = IsShut f same is_honest may_leave first

  abbrev Reached : List (Vote G D) → Bool → Contents G D → Type 0
  Reached handed is_open contents = IsReached same first handed is_open contents.floor contents.votes

  -- as one of two cases
  whether : {A : Type 0} (b : Bool) → (b ≡ true → A) → (b ≡ false → A) → A
  whether true held ended = held refl
  whether false held ended = ended refl

  module _ (old new : JournalView G D L) (handed : List (Vote G D)) (was : Open old handed)
      (honest : is_honest new.log → is_honest old.log) where
    -- What is in it is as it was.
    pub same_open : new.contents ≡ old.contents → new.is_open ≡ old.is_open
        → (old.is_open ≡ false → new ≡ old) → Open new handed
    same_open contents is_open shut = record {
      reached = λ held honestly.
          subst (Reached handed true) (sym contents) (was.reached (sym is_open ∙ held) (honest honestly));
      closed = λ ended.
          let is : new ≡ old = shut (sym is_open ∙ ended) in
          (subst (λ j. Open j handed) (sym is) was).closed ended;
    }

    pub write_ok : (votes : List (Vote G D)) → old.is_open ≡ true
        → MayBeWrittenBehind same old.contents.floor old.contents.votes votes
        → HasContents new (with_more old.contents votes old.unwritten) → Open new (handed ++ votes)
    write_ok votes was_open follows has = record {
      reached = λ held honestly.
          subst (Reached (handed ++ votes) true) (sym has.contents_are)
          (wrote same first handed old.contents.floor old.contents.votes (was.reached was_open (honest honestly)) votes follows);
      closed = λ ended. not_both new.is_open has.is_open ended;
    }

    pub raise_ok : (owner : OwnerFields) (to : Round) (finalization : List ℕ) → old.is_open ≡ true
        → is_below old.contents.floor to ≡ false
        → HasContents new (raised old.contents old.unwritten owner to finalization)
        → Open new handed
    raise_ok owner to finalization was_open up has = record {
      reached = λ held honestly.
          subst (Reached handed true) (sym has.contents_are)
          (rose same first handed old.contents.floor old.contents.votes (was.reached was_open (honest honestly)) to up);
      closed = λ ended. not_both new.is_open has.is_open ended;
    }

    -- The disk failed, and a crash leaves what was there, or this.
    module _ (P : Type 0) (more : Contents G D)
        (then : P → Reached handed true old.contents → Reached handed false more)
        (shut : old.is_open ≡ false → new ≡ old)
        (leaves : (left : List ℕ) → old.is_open ≡ true → is_honest new.log → may_leave new.log left
        → IsText f left old.contents ⊎ (P × IsText f left more)) where
      found : (left : List ℕ) (contents : Contents G D) → IsText f left contents
          → Reached handed true old.contents
          → IsText f left old.contents ⊎ (P × IsText f left more)
          → Reached handed false contents
      found left contents text there (inl is) =
          subst (Reached handed false) (one left old.contents contents is text)
          (crashed same first handed true old.contents.floor old.contents.votes there)
      found left contents text there (inr (p, is)) =
          subst (Reached handed false) (one left more contents is text) (then p there)

      pub failed : new.is_open ≡ false → Open new handed
      failed is_closed = whether old.is_open
          (λ was_open. record {
            reached = λ held honestly. not_both new.is_open held is_closed;
            closed = λ ended. record {
              somewhere = λ honestly. record {
                is_open = true;
                floor = old.contents.floor;
                disk = old.contents.votes;
                reached = was.reached was_open (honest honestly);
              };
              leaves = λ honestly left may contents text.
                  found left contents text (was.reached was_open (honest honestly)) (leaves left was_open honestly may);
            };
          })
          (λ was_closed. subst (λ j. Open j handed) (sym (shut was_closed)) was)

    -- a write or a raise that was answered with a fault
    pub write_err : (votes : List (Vote G D)) (fault : WriteFault)
        → (write_fault fault ≡ write_fault NoMemory → IsAsBefore old new)
        → (write_fault fault ≡ write_fault NoRoom → IsAsBefore old new)
        → (write_fault fault ≡ write_fault NotFree → (new ≡ old)
        × (MayBeWrittenBehind same old.contents.floor old.contents.votes votes → ⊥))
        → (write_fault fault ≡ write_fault WriteClosed → (new.is_open ≡ false)
        × ((old.is_open ≡ false) ⊎ has_failed new.log))
        → (old.is_open ≡ false → (write_fault fault ≡ write_fault WriteClosed) × (new ≡ old))
        → ((left : List ℕ) → old.is_open ≡ true → is_honest new.log → may_leave new.log left
        → WriteLeaves f same old votes left)
        → Open new handed
    write_err votes NoMemory memory full not_free closed shut leaves =
        same_open (memory refl).contents (memory refl).is_open (λ e. (shut e).1)
    write_err votes NoRoom memory full not_free closed shut leaves =
        same_open (full refl).contents (full refl).is_open (λ e. (shut e).1)
    write_err votes NotFree memory full not_free closed shut leaves =
        subst (λ j. Open j handed) (sym (not_free refl).0) was
    write_err votes WriteClosed memory full not_free closed shut leaves =
        failed (MayBeWrittenBehind same old.contents.floor old.contents.votes votes) (with_more old.contents votes old.unwritten)
        (λ follows there. broke same first handed old.contents.floor old.contents.votes there votes follows)
        (λ e. (shut e).1) leaves (closed refl).0

    pub raise_err : (owner : OwnerFields) (to : Round) (finalization : List ℕ) (fault : RaiseFault)
        → (raise_fault fault ≡ raise_fault RaiseMemory → IsAsBefore old new)
        → (raise_fault fault ≡ raise_fault RaiseFull → IsAsBefore old new)
        → (raise_fault fault ≡ raise_fault Lower → (new ≡ old)
        × (is_below old.contents.floor to ≡ true))
        → (raise_fault fault ≡ raise_fault RaiseClosed → (new.is_open ≡ false)
        × ((old.is_open ≡ false) ⊎ has_failed new.log))
        → (old.is_open ≡ false → (raise_fault fault ≡ raise_fault RaiseClosed) × (new ≡ old))
        → ((left : List ℕ) → old.is_open ≡ true → is_honest new.log → may_leave new.log left
        → RaiseLeaves f same old owner to finalization left)
        → Open new handed
    raise_err owner to finalization RaiseMemory memory full lower closed shut leaves =
        same_open (memory refl).contents (memory refl).is_open (λ e. (shut e).1)
    raise_err owner to finalization RaiseFull memory full lower closed shut leaves =
        same_open (full refl).contents (full refl).is_open (λ e. (shut e).1)
    raise_err owner to finalization Lower memory full lower closed shut leaves =
        subst (λ j. Open j handed) (sym (lower refl).0) was
    raise_err owner to finalization RaiseClosed memory full lower closed shut leaves =
        failed (is_below old.contents.floor to ≡ false) (raised old.contents old.unwritten owner to finalization)
        (λ up there. broke_raising same first handed old.contents.floor old.contents.votes there to up)
        (λ e. (shut e).1) leaves (closed refl).0

  module _ (is_settled : L → Type 0) (written : L → List ℕ)
      (settled : (log : L) (left : List ℕ) → is_honest log → is_settled log → may_leave log left → left ≡ written log) where
    pub shut_open : (journal : JournalView G D L) (handed : List (Vote G D)) → Open journal handed
        → (journal.is_open ≡ true → IsOnDisk f same is_settled written journal)
        → Shut journal.log handed
    shut_open journal handed was on_disk = whether journal.is_open
        (λ held. record {
          somewhere = λ honestly. record {
            is_open = true;
            floor = journal.contents.floor;
            disk = journal.contents.votes;
            reached = was.reached held honestly;
          };
          leaves = λ honestly left may contents text.
              let is = settled journal.log left honestly (on_disk held).0 may in
              subst (Reached handed false)
              (one left journal.contents contents (subst (λ t. IsText f t journal.contents) (sym is) (on_disk held).1) text)
              (crashed same first handed true journal.contents.floor journal.contents.votes (was.reached held honestly));
        })
        was.closed

    -- The power went and came back.
    module _ (old new : L) (handed : List (Vote G D)) (was : Shut old handed)
        (honest : is_honest new → is_honest old) where
      pub restart_err : ((left : List ℕ) → is_honest new → may_leave new left → may_leave old left)
          → Shut new handed
      restart_err still = record {
        somewhere = λ honestly. was.somewhere (honest honestly);
        leaves = λ honestly left may contents text.
            was.leaves (honest honestly) left (still left honestly may) contents text;
      }

      module _ (is_settled_now : is_settled new) (found : is_honest new → may_leave old (written new)) where
        pub not_opened : Shut new handed
        not_opened = restart_err (λ left honestly may.
            subst (may_leave old) (sym (settled new left honestly is_settled_now may)) (found honestly))

        pub opens : (journal : JournalView G D L) → journal.is_open ≡ true → journal.log ≡ new
            → IsText f (written new) journal.contents → Open journal handed
        opens journal is_open log text = record {
          reached = λ held honestly.
              let now = subst is_honest log honestly in
              opened same first handed false journal.contents.floor journal.contents.votes
              (was.leaves (honest now) (written new) (found now) journal.contents text);
          closed = λ ended. not_both journal.is_open is_open ended;
        }

  -- a journal that is begun
  module _ (owner : OwnerFields) (finalization : List ℕ) where
    abbrev First : Contents G D
    First = begun owner first finalization

    at_first : (left : List ℕ) (contents : Contents G D) → IsText f left First
        → IsText f left contents
        → Reached [] false contents
    at_first left contents a b =
        subst (Reached [] false) (one left First contents a b)
        (crashed same first [] true first [] (begins same first))

    no_text : (contents : Contents G D) → IsText f [] contents → ⊥
    no_text contents text = absurd cc

    here : IsSomewhere {G = G} same first []
    here = record { is_open = true; floor = first; disk = []; reached = begins same first }

    pub begin_err : (new : L) → ((left : List ℕ) → is_honest new → may_leave new left
        → (left ≡ []) ⊎ IsText f left First) → Shut new []
    begin_err new leaves = record {
      somewhere = λ honestly. here;
      leaves = λ honestly left may contents text. of_either left contents text (leaves left honestly may);
    }
      where
        of_either : (left : List ℕ) (contents : Contents G D) → IsText f left contents
            → (left ≡ []) ⊎ IsText f left First → Reached [] false contents
        of_either left contents text (inl none) =
            absurd (no_text contents (subst (λ t. IsText f t contents) none text))
        of_either left contents text (inr is) = at_first left contents is text

    pub begin_ok : (journal : JournalView G D L) (written : List ℕ) → journal.is_open ≡ true
        → IsText f written First → IsText f written journal.contents → Open journal []
    begin_ok journal written is_open a b = record {
      reached = λ held honestly. subst (Reached [] true) (one written First journal.contents a b) (begins same first);
      closed = λ ended. not_both journal.is_open is_open ended;
    }

module _ {G D L : Type 0} (f : Format (Vote G D)) (same : D → D → Bool)
    (is_honest : L → Type 0) (may_leave : L → List ℕ → Type 0) (first : Round)
    (never : NeverContradicts G same) (log : L) (handed : List (Vote G D))
    (lived : IsShut f same is_honest may_leave first log handed) (honestly : is_honest log) where
  pub all_compatible : AreCompatible same handed
  all_compatible =
      let it = lived.somewhere honestly in
      (never it.reached.events (just_begun same first) (world same first handed it.is_open it.floor it.disk) refl refl it.reached.life).0

  pub all_once : AreSignedOnce same handed
  all_once =
      let it = lived.somewhere honestly in
      (never it.reached.events (just_begun same first) (world same first handed it.is_open it.floor it.disk) refl refl it.reached.life).1

  pub all_kept : (left : List ℕ) → may_leave log left → (contents : Contents G D)
      → IsText f left contents → All (IsKept contents.floor contents.votes) handed
  all_kept left may contents text =
      let it = lived.leaves honestly left may contents text in
      (never it.events (just_begun same first) (world same first handed false contents.floor contents.votes) refl refl it.life).2
