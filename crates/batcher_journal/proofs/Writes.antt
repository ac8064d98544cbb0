-- A journal in which votes and certificates were written.
use Rattle.batcher_journal.proofs.Words.{◌≡◌, ◌⊎◌, ◌++◌, ◌∙◌, ℕ, Bool, List, [], ap, append_assoc, arith, drop, inl, inr, length, subst, sym, take}
use Rattle.batcher_journal.proofs.Words.{take-append-drop, take_all, Format, MayBeWrittenBehind, IsReady, first_of, with_more, AreRecords, Certified, Record}
use Rattle.batcher_journal.proofs.Words.{certificates_of, certified_format, record_format, records_of, records_text, votes_of, Contents, IsText, owner_format}
use Rattle.batcher_journal.proofs.Words.{Vote}
use Rattle.batcher_journal.proofs.Following.{followed}
use Rattle.batcher_journal.proofs.Sorting.{all_of, certificates_append, certificates_are, made, text_append, votes_append, votes_are}
use Rattle.batcher_journal.proofs.Texts.{values_append}

-- Behind a text are more records.
pub more_text : {G D : Type 0} (f : Format (Vote G D)) (old new : List ℕ) (contents : Contents G D)
    (votes : List (Vote G D)) (its : List Certified) → IsText f old contents
    → new ≡ old ++ records_text f (records_of votes its) → AreRecords f (records_of votes its)
    → IsText f new (with_more contents votes its)
more_text {G} {D} f old new contents votes its text is values =
    let more : List (Record G D) = records_of votes its in
    let owner : List ℕ = owner_format.encoding contents.owner in
    let floor : List ℕ = certified_format.encoding (contents.floor, contents.finalization) in
    record {
      records = text.records ++ more;
      parts = is ∙ ap (λ t. t ++ records_text f more) text.parts
          ∙ append_assoc owner (floor ++ records_text f text.records) (records_text f more)
          ∙ ap (λ t. owner ++ t) (append_assoc floor (records_text f text.records) (records_text f more)
          ∙ ap (λ t. floor ++ t) (sym (text_append f text.records more)));
      owner_value = text.owner_value;
      floor_value = text.floor_value;
      values = values_append (record_format f) text.records more text.values values;
      votes_are = ap (λ vs. vs ++ votes) text.votes_are
          ∙ ap (λ vs. votes_of text.records ++ vs) (sym (votes_are votes its))
          ∙ sym (votes_append text.records more);
      certificates_are = ap (λ xs. xs ++ its) text.certificates_are
          ∙ ap (λ xs. certificates_of text.records ++ xs) (sym (certificates_are votes its))
          ∙ sym (certificates_append text.records more);
    }

module _ {G D L : Type 0} (f : Format (Vote G D)) (same : D → D → Bool) (is_settled : L → Type 0)
    (written : L → List ℕ) (log : L) (contents : Contents G D)
    (ready : IsReady f same is_settled written log contents) where
  pub stays : (left : List ℕ) → left ≡ written log → IsText f left contents
  stays left is = subst (λ t. IsText f t contents) (sym is) ready.text

  pub write_leaves : (votes : List (Vote G D)) (its : List Certified) (left : List ℕ)
      → MayBeWrittenBehind same contents.floor contents.votes votes
      → (left ≡ written log) ⊎ ((left ≡ written log ++ records_text f (records_of votes its))
      × AreRecords f (records_of votes its))
      → IsText f left contents ⊎ (MayBeWrittenBehind same contents.floor contents.votes votes
      × IsText f left (with_more contents votes its))
  write_leaves votes its left follows (inl is) = inl (stays left is)
  write_leaves votes its left follows (inr (is, values)) =
      inr (follows, more_text f (written log) left contents votes its ready.text is values)

  pub ready_more : (new : L) (votes : List (Vote G D)) (its : List Certified) (after : Contents G D)
      → after ≡ with_more contents votes its → is_settled new
      → written new ≡ written log ++ records_text f (records_of votes its)
      → AreRecords f (records_of votes its)
      → MayBeWrittenBehind same contents.floor contents.votes votes
      → IsReady f same is_settled written new after
  ready_more new votes its after after_is settled is values follows =
      subst (IsReady f same is_settled written new) (sym after_is) (record {
        settled = settled;
        text = more_text f (written log) (written new) contents votes its ready.text is values;
        followed = followed same contents.floor contents.votes votes ready.followed follows;
      })

  pub ready_same : (new : L) → is_settled new → written new ≡ written log
      → IsReady f same is_settled written new contents
  ready_same new settled is = record {
    settled = settled;
    text = stays (written new) is;
    followed = ready.followed;
  }

-- Once all is written, what a journal has is what it had, and more.
pub more_is : {G D : Type 0} (w n : ℕ) (old : Contents G D) (votes all : List (Vote G D))
    (its : List Certified) → n ≡ length old.certificates → all ≡ old.votes ++ votes
    → its ≡ drop w old.certificates
    → first_of n (made old.owner old.floor old.finalization all old.certificates)
    ≡ with_more (first_of w old) votes its
more_is w n old votes all its n_is all_is its_is =
    ap (made old.owner old.floor old.finalization all)
    (take_all n old.certificates (omega (arith, n_is)) ∙ sym (take-append-drop w old.certificates)
    ∙ ap (λ xs. take w old.certificates ++ xs) (sym its_is))
    ∙ ap (λ vs. made old.owner old.floor old.finalization vs (take w old.certificates ++ its)) all_is

-- What was written are records.
pub with_values : {G D : Type 0} (f : Format (Vote G D)) (old left first room out bytes : List ℕ)
    (records : List (Record G D)) → first ≡ [] → room ≡ first
    → out ≡ room ++ records_text f records → AreRecords f records → bytes ≡ out
    → (left ≡ old) ⊎ (left ≡ old ++ bytes)
    → (left ≡ old) ⊎ ((left ≡ old ++ records_text f records) × AreRecords f records)
with_values f old left first room out bytes records none same out_is values bytes_is (inl is) = inl is
with_values f old left first room out bytes records none same out_is values bytes_is (inr is) =
    inr (
      is ∙ ap (λ t. old ++ t) (bytes_is ∙ out_is ∙ ap (λ t. t ++ records_text f records) (same ∙ none)),
      values,
    )

-- A journal that was read has all of its certificates on the disk.
pub ready_opened : {G D L : Type 0} (f : Format (Vote G D)) (same : D → D → Bool)
    (is_settled : L → Type 0) (written : L → List ℕ) (log : L) (contents : Contents G D) (n : ℕ)
    → n ≡ length contents.certificates → is_settled log → IsText f (written log) contents
    → MayBeWrittenBehind same contents.floor [] contents.votes
    → IsReady f same is_settled written log (first_of n contents)
ready_opened f same is_settled written log contents n is settled text follows =
    subst (IsReady f same is_settled written log) (sym (all_of n contents is))
    (record { settled = settled; text = text; followed = follows })
