-- Two files of which a log is being made.
use Rattle.batcher_file.proofs.Words.{◌≡◌, ◌⊎◌, ◌^◌, ◌<◌, ◌≤◌, ◌++◌, ◌∙◌, ℕ, Bool, false, List, [], ◌∷◌, ap, arith, inl, inr, length, min, subst, sym}
use Rattle.batcher_file.proofs.Words.{append-nil, length-append, concat, Only, IsBegun, IsCarriedOut, Finishes, IsBlank, MayBe, MayStart, frame, frames}
use Rattle.batcher_file.proofs.Words.{AreAtRest, AreCurrent, Hold, MakesFiles, MayLeave, AreBegun, AreDone, IsDone, IsTried, on, renew, start_over, steps}
use Rattle.batcher_file.proofs.Words.{FileLog, Plan, SetLen}
use Rattle.batcher_file.proofs.Leaving.{Begun, Done, begun_of_current, begun_of_other, cutting_leaves, done_of_current, done_of_other, is_cut, renewed}
use Rattle.batcher_file.proofs.Leaving.{renewing_leaves}
use Rattle.batcher_file.proofs.SoFar.{has_first}
use Rattle.batcher_file.proofs.Tidying.{still_blank}
use Rattle.batcher_file.proofs.Turns.{has_just, not_blank, same_list}
use Rattle.batcher_file.proofs.Writing.{begun}

-- What is read in a file that is being started is the one frame.
module _ (Whole : Type 0) (bytes : List ℕ) (file other : List ℕ) (len : length bytes < 2 ^ 64)
    (may : MayStart Whole (frame 1 bytes ++ 0 ∷ []) file) (blank : IsBlank other) where
  starts_with : (found : List ℕ) → AreCurrent file other found → found ≡ bytes
  starts_with found it = elim may [
    | inl none ↦ absurd (not_blank it.first it.all file it.has none)
    | inr gate ↦
        let first = has_first it.first it.all file it.has in
        let now : gate.now ≡ 255 = head gate.now first.rest _ (sym gate.parts ∙ first.parts) in
        let parts : file ≡ frames 1 (bytes ∷ []) ++ 0 ∷ [] =
        gate.parts ∙ ap (λ (g : ℕ). g ∷ (frame 1 bytes ++ 0 ∷ [])) now
        ∙ ap (λ (t : List ℕ). 255 ∷ (t ++ 0 ∷ [])) (sym (append-nil (frame 1 bytes))) in
        let same : it.all ≡ bytes ∷ [] =
        same_list 1 it.first (bytes ∷ []) it.all file
        (has_just 1 bytes (omega arith) len file parts) it.has in
        it.bytes_are ∙ ap concat same ∙ append-nil bytes
  ] where
    head : (g : ℕ) (r s : List ℕ) → g ∷ s ≡ 255 ∷ r → g ≡ 255
    head g r s e = cc

  pub start_finds : (found : List ℕ) → Hold file other found → found ≡ bytes
  start_finds found (inl it) = starts_with found it
  start_finds found (inr it) = absurd (not_blank it.first it.all other it.has blank)

module _ {K : Type 0} (seen : K → List ℕ) (may_leave : K → List ℕ → Type 0)
    (is_usable is_clean is_mixing : K → Bool) (faults : K → ℕ) (bytes : List ℕ)
    (planned : FileLog K) (plan : Plan) (new : FileLog K)
    (kept : Only (seen planned.current) (may_leave planned.current))
    (other_kept : Only (seen planned.other) (may_leave planned.other))
    (it : MakesFiles (seen planned.current) (seen planned.other) bytes planned.files plan) where
  abbrev framed_by : List ℕ
  framed_by = planned.files.frame.items

  abbrev Whole : Type 0
  Whole = Finishes is_mixing

  some : 0 < length framed_by
  some = omega (arith, ap length it.frame_is, length-append (frame 1 bytes) (0 ∷ []))

  -- a blank file that is being cut
  blank_cut : (len : ℕ) (disk now : K) → IsBlank (seen disk) → len ≡ min 1 (length (seen disk))
      → Only (seen disk) (may_leave disk)
      → IsTried seen may_leave is_usable is_clean is_mixing faults framed_by (SetLen len) disk now
      → (file : List ℕ) → may_leave now file → IsBlank file
  blank_cut len disk now blank len_is durable tried file left =
      let cut = cutting_leaves seen may_leave is_usable is_clean is_mixing faults framed_by len disk
      (omega (arith, len_is)) durable now tried file left in
      still_blank len (seen disk) file blank len_is (record { parts = cut.0; within = cut.1 })

  -- while the first is made anew
  module _ (middle : K)
      (cut : IsDone seen may_leave is_usable is_clean is_mixing faults framed_by (SetLen it.len)
      planned.current middle) where
    short : length (seen middle) ≤ 1
    short = omega (arith, cut.there, it.len_is)

    as_started : (file : List ℕ) → MayBe Whole (seen middle) framed_by file
        → MayStart Whole framed_by file
    as_started file (inl blank) = inl blank
    as_started file (inr (inl shutting)) =
        inl (inl (omega (arith, ap length shutting.now.parts, ap length shutting.old_is, short)))
    as_started file (inr (inr gate)) = inr gate

    renewing : (now : K) → Begun seen may_leave is_usable is_clean is_mixing faults framed_by renew
        middle now
        → (file : List ℕ) → may_leave now file → MayStart Whole framed_by file
    renewing now begun file left =
        as_started file
        (renewing_leaves seen may_leave is_usable is_clean is_mixing faults framed_by middle
        cut.durable some now begun file left)

  first_starts : (now : K)
      → Begun seen may_leave is_usable is_clean is_mixing faults framed_by (start_over it.len)
      planned.current now
      → (file : List ℕ) → may_leave now file → MayStart Whole framed_by file
  first_starts now (inl failed) file left =
      inl (blank_cut it.len planned.current now it.blank it.len_is kept failed.tried file left)
  first_starts now (inr more) file left = renewing more.0 more.1 now more.2 file left

  abbrev Both : Type 0
  Both = ((file : List ℕ) → may_leave new.current file → MayStart Whole framed_by file)
      × ((file : List ℕ) → may_leave new.other file → IsBlank file)

  under_way : IsBegun seen may_leave is_usable is_clean is_mixing faults plan planned new → Both
  under_way begun =
      of_other (begun_of_other seen may_leave is_usable is_clean is_mixing faults framed_by
      (SetLen it.second_len ∷ [])
      (on false (start_over it.len)) planned.current planned.other new.current new.other (
      subst (λ job. AreBegun seen may_leave is_usable is_clean is_mixing faults framed_by
      (steps job)
      planned.current planned.other new.current new.other) it.job begun.begun
      ))
    where
      of_other : (Begun seen may_leave is_usable is_clean is_mixing faults framed_by
          (SetLen it.second_len ∷ [])
          planned.other new.other × (new.current ≡ planned.current))
          ⊎ ((middle : K)
          × Done seen may_leave is_usable is_clean is_mixing faults framed_by
          (SetLen it.second_len ∷ []) planned.other middle
          × AreBegun seen may_leave is_usable is_clean is_mixing faults framed_by
          (on false (start_over it.len))
          planned.current middle new.current new.other)
          → Both
      of_other (inl (inl failed, same)) = (
        λ file left. inl (subst IsBlank (sym (kept file (subst (λ k. may_leave k file) same left)))
            it.blank),
        blank_cut it.second_len planned.other new.other it.second_blank it.second_len_is other_kept
            failed.tried,
      )
      of_other (inl (inr more, same)) = absurd more.2
      of_other (inr later) =
          elim (begun_of_current seen may_leave is_usable is_clean is_mixing faults framed_by
          (start_over it.len) []
          planned.current later.0 new.current new.other later.2) [
            | inl here ↦ (
              first_starts new.current here.0,
              blank_cut it.second_len planned.other new.other it.second_blank it.second_len_is
                  other_kept
                  (subst (IsTried seen may_leave is_usable is_clean is_mixing faults framed_by
                  (SetLen it.second_len) planned.other)
                  (sym (here.1 ∙ later.1.2)) later.1.1.tried),
            )
            | inr none ↦ absurd none.2
          ]

  pub making_leaves : IsBegun seen may_leave is_usable is_clean is_mixing faults plan planned new
      → (left : List ℕ) → MayLeave seen may_leave is_usable is_clean new left → left ≡ bytes
  making_leaves begun left may =
      let both = under_way begun in
      start_finds Whole bytes may.current may.other (omega (arith, it.short))
      (subst (λ t. MayStart Whole t may.current) it.frame_is (both.0 may.current may.current_left))
      (both.1 may.other may.other_left) left may.hold

  pub made_settled : IsCarriedOut seen may_leave is_usable is_clean is_mixing faults plan planned
      new
      → AreAtRest seen may_leave new.current new.other new.files.bytes.items new.files.next
      new.files.end
  made_settled ends = rw (ends.next, it.next_is) (
      begun seen may_leave is_usable is_clean new.current new.other bytes framed_by
      new.files.bytes.items
      (seen planned.other) new.files.end it.second_len (omega (arith, it.short)) it.frame_is
      (renewed seen may_leave is_usable is_clean is_mixing faults framed_by whole.0 whole.1.durable
      some new.current whole.2)
      (is_cut seen may_leave is_usable is_clean is_mixing faults framed_by it.second_len
      planned.other
      (omega (arith, it.second_len_is)) new.other cut_other)
      (omega (arith, it.second_len_is)) (ends.end ∙ it.end_is) (ends.bytes ∙ it.bytes_are)
      ) where
        parts : (middle : K)
            × Done seen may_leave is_usable is_clean is_mixing faults framed_by
            (SetLen it.second_len ∷ []) planned.other middle
            × AreDone seen may_leave is_usable is_clean is_mixing faults framed_by
            (on false (start_over it.len))
            planned.current middle new.current new.other
        parts = done_of_other seen may_leave is_usable is_clean is_mixing faults framed_by
            (SetLen it.second_len ∷ [])
            (on false (start_over it.len)) planned.current planned.other new.current new.other (
            subst (λ job. AreDone seen may_leave is_usable is_clean is_mixing faults framed_by
            (steps job)
            planned.current planned.other new.current new.other) it.job ends.done
            )

        rest : (middle : K)
            × Done seen may_leave is_usable is_clean is_mixing faults framed_by (start_over it.len)
            planned.current middle
            × ((new.current ≡ middle) × (new.other ≡ parts.0))
        rest = done_of_current seen may_leave is_usable is_clean is_mixing faults framed_by
            (start_over it.len) []
            planned.current parts.0 new.current new.other parts.2

        whole : Done seen may_leave is_usable is_clean is_mixing faults framed_by
            (start_over it.len)
            planned.current new.current
        whole = subst (Done seen may_leave is_usable is_clean is_mixing faults framed_by
            (start_over it.len) planned.current)
            (sym rest.2.0) rest.1

        cut_other : IsDone seen may_leave is_usable is_clean is_mixing faults framed_by
            (SetLen it.second_len) planned.other new.other
        cut_other = subst (IsDone seen may_leave is_usable is_clean is_mixing faults framed_by
            (SetLen it.second_len) planned.other)
            (sym (rest.2.1 ∙ parts.1.2)) parts.1.1
