-- What a log is after bytes were added, or have replaced others, and what a crash leaves.
use Rattle.batcher_file.proofs.Words.{◌≡◌, ◌⊎◌, ◌+◌, ◌-◌, ◌^◌, ◌<◌, ◌≤◌, ◌++◌, ◌∙◌, ℕ, Bool, List, [], ◌∷◌, ap, append_assoc, arith, inl, inr, length, refl}
use Rattle.batcher_file.proofs.Words.{subst, sym, take, append-nil, length-append, length-take, length_push, take_all, take_at, concat, IsTrue, Only}
use Rattle.batcher_file.proofs.Words.{IsSyncedAs, MayBe, MayHave, MayRetire, HasFrames, frame, frames, AreAtRest, Hold, HoldNone, IsOlder, IsOther, IsTidied}
use Rattle.batcher_file.proofs.Words.{IsTornIntoTwo, IsSettled, FileLog}
use Rattle.batcher_file.proofs.SoFar.{concat_push}
use Rattle.batcher_file.proofs.Turns.{added_leaves, added_opens, at_rest, has_all, has_just, more_is, none_in_nothing, renewed_leaves, renewed_opens}
use Rattle.batcher_file.proofs.Turns.{retired_leaves, retired_opens}

as_other : (first : ℕ) (file : List ℕ) → (length file ≤ 1) ⊎ IsOlder first file → IsOther first file
as_other first file (inl le) = inl (inl le)
as_other first file (inr older) = inr older

module _ {K : Type 0} (seen : K → List ℕ) (may_leave : K → List ℕ → Type 0)
    (is_usable is_clean : K → Bool) where
  abbrev Rest : K → K → List ℕ → ℕ → ℕ → Type 0
  Rest = AreAtRest seen may_leave

  -- two files as they are to be between two calls
  pub made : (current other : K) (bytes : List ℕ) (next end first : ℕ) (all : List (List ℕ))
      → HasFrames first all (seen current) → seen current ≡ frames first all ++ 0 ∷ []
      → Only (seen current) (may_leave current) → (length (seen other) ≤ 1)
      ⊎ IsOlder first (seen other)
      → Only (seen other) (may_leave other) → next ≡ first + length all
      → end ≡ length (frames first all) → bytes ≡ concat all → Rest current other bytes next end
  made current other bytes next end first all has parts current_kept short other_kept next_is end_is bytes_are = record {
    first = first;
    all = all;
    has = has;
    parts = parts;
    current_kept = current_kept;
    short = short;
    other_kept = other_kept;
    next_is = next_is;
    end_is = end_is;
    bytes_are = bytes_are;
    hold = inl (record { first = first; all = all; has = has; other_is = as_other first (seen other) short; bytes_are = bytes_are });
    no_others = λ found hold.
        at_rest first all (seen current) (seen other) has (as_other first (seen other) short) found hold ∙ sym bytes_are;
  }

  module _ (Whole : Type 0) (old : FileLog K) (bytes frame_is : List ℕ)
      (few : old.files.next < 2 ^ 63 - 2) (len : length bytes < 2 ^ 64)
      (framed : frame_is ≡ frame old.files.next bytes ++ 0 ∷ []) (settled : IsSettled seen may_leave is_usable is_clean old) where
    abbrev OldRest : Type 0
    OldRest = Rest old.current old.other old.files.bytes.items old.files.next old.files.end

    frame_as : (rest : OldRest) → frame_is ≡ frame (rest.first + length rest.all) bytes ++ 0 ∷ []
    frame_as rest = framed ∙ ap (λ (n : ℕ). frame n bytes ++ 0 ∷ []) rest.next_is

    few_as : (rest : OldRest) → rest.first + length rest.all + 1 < 2 ^ 63
    few_as rest = omega (arith, few, rest.next_is)

    module _ (current : K) (clean : IsTrue (is_clean current) → IsTrue (is_clean old.current)) where
      pub add_leaves : ((front : List ℕ) (gate : ℕ) → length front ≡ old.files.end
          → IsSyncedAs seen may_leave old.current (front ++ gate ∷ []) → (file : List ℕ)
          → may_leave current file
          → MayHave Whole front gate frame_is file)
          → IsTrue (is_clean current) × IsTrue (is_clean old.other)
          → (file other left : List ℕ) → may_leave current file → may_leave old.other other
          → Hold file other left
          → (left ≡ old.files.bytes.items) ⊎ (left ≡ old.files.bytes.items ++ bytes)
      add_leaves leaves honest file other left file_left other_left hold =
          let rest = settled.rest (clean honest.0, honest.1) in
          let may = leaves (frames rest.first rest.all) 0 (sym rest.end_is) (record { same = rest.parts; durable = rest.current_kept }) file file_left in
          let here : MayHave Whole (frames rest.first rest.all) 0 (frame (rest.first + length rest.all) bytes ++ 0 ∷ []) file =
          subst (λ (t : List ℕ). MayHave Whole (frames rest.first rest.all) 0 t file) (frame_as rest) may in
          let other_is : IsOther rest.first other =
          subst (IsOther rest.first) (sym (rest.other_kept other other_left)) (as_other rest.first (seen old.other) rest.short) in
          let found = added_leaves Whole rest.first rest.all bytes file other rest.has.some (few_as rest) rest.has.values len here other_is left hold in
          rw (rest.bytes_are) found

      pub add_opens : ((front : List ℕ) (gate : ℕ) → length front ≡ old.files.end
          → IsSyncedAs seen may_leave old.current (front ++ gate ∷ []) → (file : List ℕ)
          → may_leave current file
          → MayHave Whole front gate frame_is file)
          → IsTrue (is_clean current) × IsTrue (is_clean old.other) → Whole
          → (file other : List ℕ) → may_leave current file → may_leave old.other other
          → (IsTornIntoTwo old.files.next file → ⊥) → HoldNone file other → ⊥
      add_opens leaves honest finishes file other file_left other_left whole none =
          let rest = settled.rest (clean honest.0, honest.1) in
          let may = leaves (frames rest.first rest.all) 0 (sym rest.end_is) (record { same = rest.parts; durable = rest.current_kept }) file file_left in
          let here : MayHave Whole (frames rest.first rest.all) 0 (frame (rest.first + length rest.all) bytes ++ 0 ∷ []) file =
          subst (λ (t : List ℕ). MayHave Whole (frames rest.first rest.all) 0 t file) (frame_as rest) may in
          let other_is : IsOther rest.first other =
          subst (IsOther rest.first) (sym (rest.other_kept other other_left)) (as_other rest.first (seen old.other) rest.short) in
          let opens = added_opens Whole rest.first rest.all bytes file other rest.has.some (few_as rest) rest.has.values len here other_is finishes
          (subst (λ (n : ℕ). IsTornIntoTwo n file → ⊥) rest.next_is whole) in
          none opens.bytes opens.hold

      pub add_settles : (more : List ℕ) (end : ℕ)
          → ((front : List ℕ) (gate : ℕ) → length front ≡ old.files.end
          → IsSyncedAs seen may_leave old.current (front ++ gate ∷ [])
          → IsSyncedAs seen may_leave current (front ++ 255 ∷ frame_is))
          → more ≡ old.files.bytes.items ++ bytes → end ≡ old.files.end + length frame_is
          → IsTrue (is_clean current) × IsTrue (is_clean old.other)
          → Rest current old.other more (old.files.next + 1) end
      add_settles more end added more_is_ end_is honest =
          let rest = settled.rest (clean honest.0, honest.1) in
          let all = rest.all ++ bytes ∷ [] in
          let kept = added (frames rest.first rest.all) 0 (sym rest.end_is) (record { same = rest.parts; durable = rest.current_kept }) in
          let may : MayHave Whole (frames rest.first rest.all) 0 (frame (rest.first + length rest.all) bytes ++ 0 ∷ []) (seen old.current) =
          inl (record { rest = []; parts = rest.parts; short = omega arith }) in
          let whole : frames rest.first rest.all ++ 255 ∷ frame_is ≡ frames rest.first all ++ 0 ∷ [] =
          ap (λ (t : List ℕ). frames rest.first rest.all ++ 255 ∷ t) (frame_as rest)
          ∙ more_is Whole rest.first rest.all bytes (seen old.current) (seen old.other) rest.has.some (few_as rest) rest.has.values len may
          (as_other rest.first (seen old.other) rest.short) in
          let parts : seen current ≡ frames rest.first all ++ 0 ∷ [] = kept.same ∙ whole in
          let len_is : length (frames rest.first all) + 1 ≡ length (frames rest.first rest.all) + 1 + length frame_is =
          omega (arith, ap length whole, length-append (frames rest.first rest.all) (255 ∷ frame_is), length-append (frames rest.first all) (0 ∷ [])) in
          made current old.other more (old.files.next + 1) end rest.first all
          (has_all rest.first rest.all bytes rest.has.some (few_as rest) rest.has.values len (seen current) parts)
          parts kept.durable rest.short rest.other_kept
          (omega (arith, rest.next_is, length_push rest.all bytes))
          (omega (arith, end_is, rest.end_is, len_is))
          (more_is_ ∙ ap (λ (t : List ℕ). t ++ bytes) rest.bytes_are ∙ sym (concat_push rest.all bytes))

    module _ (other : K) (clean : IsTrue (is_clean other) → IsTrue (is_clean old.other)) where
      pub renew_leaves : (Only (seen old.other) (may_leave old.other) → (file : List ℕ)
          → may_leave other file
          → MayBe Whole (seen old.other) frame_is file)
          → IsTrue (is_clean old.current) × IsTrue (is_clean other)
          → (file renewed left : List ℕ) → may_leave old.current file → may_leave other renewed
          → Hold file renewed left
          → (left ≡ old.files.bytes.items) ⊎ (left ≡ bytes)
      renew_leaves leaves honest file renewed left file_left renewed_left hold =
          let rest = settled.rest (honest.0, clean honest.1) in
          let may = leaves rest.other_kept renewed renewed_left in
          let here : MayBe Whole (seen old.other) (frame (rest.first + length rest.all) bytes ++ 0 ∷ []) renewed =
          subst (λ (t : List ℕ). MayBe Whole (seen old.other) t renewed) (frame_as rest) may in
          let has : HasFrames rest.first rest.all file = subst (HasFrames rest.first rest.all) (sym (rest.current_kept file file_left)) rest.has in
          let found = renewed_leaves Whole rest.first rest.all bytes file (seen old.other) renewed (few_as rest) len has rest.short here left hold in
          rw (rest.bytes_are) found

      pub renew_opens : (Only (seen old.other) (may_leave old.other) → (file : List ℕ)
          → may_leave other file
          → MayBe Whole (seen old.other) frame_is file)
          → IsTrue (is_clean old.current) × IsTrue (is_clean other) → Whole
          → (file renewed : List ℕ) → may_leave old.current file → may_leave other renewed
          → HoldNone file renewed → ⊥
      renew_opens leaves honest finishes file renewed file_left renewed_left none =
          let rest = settled.rest (honest.0, clean honest.1) in
          let may = leaves rest.other_kept renewed renewed_left in
          let here : MayBe Whole (seen old.other) (frame (rest.first + length rest.all) bytes ++ 0 ∷ []) renewed =
          subst (λ (t : List ℕ). MayBe Whole (seen old.other) t renewed) (frame_as rest) may in
          let has : HasFrames rest.first rest.all file = subst (HasFrames rest.first rest.all) (sym (rest.current_kept file file_left)) rest.has in
          let opens = renewed_opens Whole rest.first rest.all bytes file (seen old.other) renewed (few_as rest) len has rest.short here finishes in
          none opens.bytes opens.hold

      -- what the renewed file has, and the one before it
      renewed_has : (rest : OldRest) → IsSyncedAs seen may_leave other (255 ∷ frame_is)
          → seen other ≡ frames (rest.first + length rest.all) (bytes ∷ []) ++ 0 ∷ []
      renewed_has rest kept =
          kept.same ∙ ap (λ (t : List ℕ). 255 ∷ t) (frame_as rest)
          ∙ ap (λ (t : List ℕ). 255 ∷ (t ++ 0 ∷ []))
          (sym (append-nil (frame (rest.first + length rest.all) bytes)))

      module _ (kept : IsSyncedAs seen may_leave other (255 ∷ frame_is)) (retired : K)
          (clean_retired : IsTrue (is_clean retired) → IsTrue (is_clean old.current)) where
        abbrev Retires : Type 0
        Retires = Only (seen old.current) (may_leave old.current) → (file : List ℕ)
            → may_leave retired file → MayRetire Whole (seen old.current) file

        before : (rest : OldRest) → IsOlder (rest.first + length rest.all) (seen old.current)
        before rest = record {
          number = rest.first;
          all = rest.all;
          has = rest.has;
          next = refl;
        }

        pub retire_leaves : Retires → IsTrue (is_clean other) × IsTrue (is_clean retired)
            → (file gone left : List ℕ) → may_leave other file → may_leave retired gone
            → Hold file gone left → left ≡ bytes
        retire_leaves leaves honest file gone left file_left gone_left hold =
            let rest = settled.rest (clean_retired honest.1, clean honest.0) in
            let whole = kept.durable file file_left ∙ renewed_has rest kept in
            retired_leaves Whole (rest.first + length rest.all) (bytes ∷ []) file (seen old.current) gone
            (has_just (rest.first + length rest.all) bytes (few_as rest) len file whole) (before rest)
            (leaves rest.current_kept gone gone_left) left hold
            ∙ append-nil bytes

        pub retire_opens : Retires → IsTrue (is_clean other) × IsTrue (is_clean retired) → Whole
            → (file gone : List ℕ) → may_leave other file → may_leave retired gone
            → HoldNone file gone → ⊥
        retire_opens leaves honest finishes file gone file_left gone_left none =
            let rest = settled.rest (clean_retired honest.1, clean honest.0) in
            let whole = kept.durable file file_left ∙ renewed_has rest kept in
            let opens = retired_opens Whole (rest.first + length rest.all) (bytes ∷ []) file
            (seen old.current) gone
            (has_just (rest.first + length rest.all) bytes (few_as rest) len file whole) (before rest)
            (leaves rest.current_kept gone gone_left) finishes in
            none opens.bytes opens.hold

        pub renew_settles : (now : List ℕ) (end : ℕ) → now ≡ bytes
            → IsSyncedAs seen may_leave retired (15 ∷ []) → end ≡ length frame_is
            → IsTrue (is_clean other) × IsTrue (is_clean retired)
            → Rest other retired now (old.files.next + 1) end
        renew_settles now end now_is gone end_is honest =
            let rest = settled.rest (clean_retired honest.1, clean honest.0) in
            let next = rest.first + length rest.all in
            let whole = renewed_has rest kept in
            made other retired now (old.files.next + 1) end next (bytes ∷ [])
            (has_just next bytes (few_as rest) len (seen other) whole) whole kept.durable
            (inl (omega (arith, ap length gone.same))) gone.durable (omega (arith, rest.next_is))
            (omega (
              arith,
              end_is,
              ap length (frame_as rest),
              length-append (frame next bytes) (0 ∷ []),
              length-append (frame next bytes) [],
            ))
            (now_is ∙ sym (append-nil bytes))

  -- two files as they are opened
  pub tidied : (current other cut_current cut_other : K) (first next end : ℕ) (bytes : List ℕ)
      (len : ℕ)
      → IsTidied (seen current) (seen other) first next end bytes len
      → (end + 1 ≤ length (seen current)
      → IsSyncedAs seen may_leave cut_current (take (end + 1) (seen current)))
      → (len ≤ length (seen other) → IsSyncedAs seen may_leave cut_other (take len (seen other)))
      → Rest cut_current cut_other bytes next end
  tidied current other cut_current cut_other first next end bytes len it cuts cuts_other =
      let all = it.contents.all in
      let has = it.contents.has in
      let front : List ℕ = frames first all ++ 0 ∷ [] in
      let front_len : length front ≡ end + 1 =
      omega (arith, length-append (frames first all) (0 ∷ []), it.contents.end_is) in
      let whole : seen current ≡ front ++ has.rest =
      has.parts ∙ sym (append_assoc (frames first all) (0 ∷ []) has.rest) in
      let long : end + 1 ≤ length (seen current) =
      omega (arith, ap length whole, length-append front has.rest, front_len) in
      let kept = cuts long in
      let parts : seen cut_current ≡ front =
      kept.same ∙ ap (take (end + 1)) whole ∙ take_at front has.rest (end + 1) front_len in
      let within : len ≤ length (seen other) = elim it.either [
        | inl blank ↦ omega (arith, blank.1)
        | inr older ↦ omega (arith, older.1)
      ] in
      let other_kept = cuts_other within in
      let now : HasFrames first all (seen cut_current) = record {
        some = has.some;
        few = has.few;
        values = has.values;
        rest = [];
        parts = parts;
        alone = none_in_nothing (first + length all);
      } in
      let short : (length (seen cut_other) ≤ 1) ⊎ IsOlder first (seen cut_other) =
      elim it.either [
        | inl blank ↦ inl (omega (arith, ap length other_kept.same, length-take len (seen other), blank.1))
        | inr older ↦
            let same : seen cut_other ≡ seen other =
            other_kept.same ∙ take_all len (seen other) (omega (arith, older.1)) in
            inr (subst (IsOlder first) (sym same) older.0)
      ] in
      made cut_current cut_other bytes next end first all now parts kept.durable short other_kept.durable
      it.contents.next_is it.contents.end_is it.contents.bytes_are

  -- and as they are made
  pub begun : (current other : K) (bytes frame_is now old : List ℕ) (end len : ℕ)
      → length bytes < 2 ^ 64
      → frame_is ≡ frame 1 bytes ++ 0 ∷ [] → IsSyncedAs seen may_leave current (255 ∷ frame_is)
      → IsSyncedAs seen may_leave other (take len old) → len ≤ 1 → end ≡ length frame_is
      → now ≡ bytes
      → Rest current other now 2 end
  begun current other bytes frame_is now old end len bytes_len framed kept other_kept short end_is now_is =
      let whole : seen current ≡ frames 1 (bytes ∷ []) ++ 0 ∷ [] =
      kept.same ∙ ap (λ (t : List ℕ). 255 ∷ t) framed
      ∙ ap (λ (t : List ℕ). 255 ∷ (t ++ 0 ∷ [])) (sym (append-nil (frame 1 bytes))) in
      made current other now 2 end 1 (bytes ∷ []) (has_just 1 bytes (omega arith) bytes_len (seen current) whole)
      whole kept.durable (inl (omega (arith, ap length other_kept.same, length-take len old, short)))
      other_kept.durable (omega arith)
      (omega (arith, end_is, ap length framed, length-append (frame 1 bytes) (0 ∷ []), length-append (frame 1 bytes) []))
      (now_is ∙ sym (append-nil bytes))
