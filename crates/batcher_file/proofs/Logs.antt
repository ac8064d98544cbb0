-- What a log comes to by its plans, and what a crash leaves where one of them fails.
use Rattle.batcher_file.proofs.Words.{◌≡◌, ◌⊎◌, ◌+◌, ◌-◌, ◌^◌, ◌<◌, ◌≤◌, ◌++◌, ◌∙◌, ℕ, Bool, true, false, List, [], ◌∷◌, ap, arith, inl, inr, length, subst}
use Rattle.batcher_file.proofs.Words.{sym, length-append, take-append-drop, IsTrue, Only, IsBegun, IsCarriedOut, Finishes, IsSyncedAs, MayHave, frame, frames}
use Rattle.batcher_file.proofs.Words.{AreAtRest, IsTornIntoTwo, IsAddition, IsFramed, IsReplacement, SameBytes, Tidies, AreHonestDisks, IsSettled, MayLeave}
use Rattle.batcher_file.proofs.Words.{MayLose, rest_opens, rest_settled, AreBegun, AreDone, IsDone, IsTried, add, on, renew, retire, steps, TwoFiles, FileLog}
use Rattle.batcher_file.proofs.Words.{Plan, Step, SetLen}
use Rattle.batcher_file.proofs.Leaving.{Begun, Done, begun_clean, begun_of_current, begun_of_other, done_clean, done_of_current, done_of_other, added}
use Rattle.batcher_file.proofs.Leaving.{adding_leaves, cutting_leaves, is_cut, renewed, renewing_leaves, retired, retiring_leaves}
use Rattle.batcher_file.proofs.Tidying.{IsCut, tidy_finds, tidy_opens}
use Rattle.batcher_file.proofs.Turns.{none_turned, turned}
use Rattle.batcher_file.proofs.Writing.{add_leaves, add_opens, add_settles, renew_leaves, renew_opens, renew_settles, retire_leaves, retire_opens, tidied}

module _ {K : Type 0} (seen : K → List ℕ) (may_leave : K → List ℕ → Type 0)
    (is_usable is_clean is_mixing : K → Bool) (faults : K → ℕ) where
  abbrev Settled : FileLog K → Type 0
  Settled = IsSettled seen may_leave is_usable is_clean

  abbrev Honest : FileLog K → Type 0
  Honest = AreHonestDisks seen may_leave is_usable is_clean

  abbrev Leaves : FileLog K → List ℕ → Type 0
  Leaves = MayLeave seen may_leave is_usable is_clean

  abbrev Loses : FileLog K → Type 0
  Loses = MayLose seen may_leave is_usable is_clean is_mixing

  abbrev Begins : Plan → FileLog K → FileLog K → Type 0
  Begins = IsBegun seen may_leave is_usable is_clean is_mixing faults

  abbrev Ends : Plan → FileLog K → FileLog K → Type 0
  Ends = IsCarriedOut seen may_leave is_usable is_clean is_mixing faults

  abbrev Whole : Type 0
  Whole = Finishes is_mixing

  abbrev Clean : K → Type 0
  Clean disk = IsTrue (is_clean disk)

  -- No plan was made.
  module _ (old : FileLog K) (settled : Settled old) (files : TwoFiles) where
    abbrev same_disks : FileLog K
    same_disks = record { files = files; current = old.current; other = old.other }

    pub unchanged_leaves : (left : List ℕ) → Honest same_disks → Leaves same_disks left
        → left ≡ old.files.bytes.items
    unchanged_leaves left honest may =
        rest_settled seen may_leave is_usable is_clean old left honest settled (record {
          current = may.current;
          other = may.other;
          current_left = may.current_left;
          other_left = may.other_left;
          hold = may.hold;
        })

    pub unchanged_opens : SameBytes old.files files → Honest same_disks → Loses same_disks → ⊥
    unchanged_opens same honest lose =
        rest_opens seen may_leave is_usable is_clean is_mixing old honest settled (record {
          current = lose.current;
          other = lose.other;
          current_left = lose.current_left;
          other_left = lose.other_left;
          finishes = lose.finishes;
          current_torn = subst (λ n. IsTornIntoTwo n lose.current → ⊥) same.next lose.current_torn;
          none = lose.none;
        })

  -- A plan was made for a log, and it is under way.
  module _ (old : FileLog K) (settled : Settled old) (bytes : List ℕ) (files : TwoFiles)
      (plan : Plan) (new : FileLog K) where
    abbrev planned : FileLog K
    planned = record { files = files; current = old.current; other = old.other }

    abbrev framed_by : List ℕ
    framed_by = files.frame.items

    frame_some : IsFramed old.files bytes files → 0 < length framed_by
    frame_some it =
        omega (arith, ap length it.frame_is, length-append (frame old.files.next bytes) (0 ∷ []))

    -- Bytes are added.
    module _ (it : IsAddition old.files bytes files plan) where
      abbrev adds : List Step
      adds = add old.files.end (old.files.end + 1)

      leaves_of : Begun seen may_leave is_usable is_clean is_mixing faults framed_by adds
          old.current new.current
          → (front : List ℕ) (gate : ℕ) → length front ≡ old.files.end
          → IsSyncedAs seen may_leave old.current (front ++ gate ∷ []) → (file : List ℕ)
          → may_leave new.current file → MayHave Whole front gate framed_by file
      leaves_of begun front gate len kept file left =
          adding_leaves seen may_leave is_usable is_clean is_mixing faults framed_by front gate
          old.files.end len
          (frame_some it.framed) old.current kept (omega (arith, it.within)) new.current begun file
          left

      begun_current : Begins plan planned new
          → Begun seen may_leave is_usable is_clean is_mixing faults framed_by adds old.current
          new.current
          × (new.other ≡ old.other)
      begun_current begun =
          elim (begun_of_current seen may_leave is_usable is_clean is_mixing faults framed_by adds
          []
          old.current old.other new.current new.other (
          subst (λ job. AreBegun seen may_leave is_usable is_clean is_mixing faults framed_by
          (steps job)
          old.current old.other new.current new.other) it.job begun.begun
          )) [ inl here ↦ here | inr later ↦ absurd later.2 ]

      honest_now : (begun : Begins plan planned new) → Honest new → Clean new.current
          × Clean old.other
      honest_now begun honest = (honest.0, subst Clean (begun_current begun).1 honest.1)

      clean_now : Begins plan planned new → Clean new.current → Clean old.current
      clean_now begun =
          begun_clean seen may_leave is_usable is_clean is_mixing faults framed_by adds old.current
          new.current
          (begun_current begun).0

      pub append_leaves : Begins plan planned new → (left : List ℕ) → Honest new → Leaves new left
          → (left ≡ old.files.bytes.items) ⊎ (left ≡ old.files.bytes.items ++ bytes)
      append_leaves begun left honest may =
          add_leaves seen may_leave is_usable is_clean Whole old bytes framed_by it.framed.few
          (omega (arith, it.framed.short)) it.framed.frame_is settled new.current (clean_now begun)
          (leaves_of (begun_current begun).0) (honest_now begun honest) may.current may.other left
          may.current_left
          (subst (λ k. may_leave k may.other) (begun_current begun).1 may.other_left) may.hold

      pub append_opens : Begins plan planned new → Honest new → Loses new → ⊥
      append_opens begun honest lose =
          add_opens seen may_leave is_usable is_clean Whole old bytes framed_by it.framed.few
          (omega (arith, it.framed.short)) it.framed.frame_is settled new.current (clean_now begun)
          (leaves_of (begun_current begun).0) (honest_now begun honest) lose.finishes lose.current
          lose.other
          lose.current_left (subst (λ k. may_leave k lose.other) (begun_current begun).1
          lose.other_left)
          (λ torn. lose.current_torn (subst (λ n. IsTornIntoTwo n lose.current) (sym next_now)
          torn)) lose.none
        where
          next_now : new.files.next ≡ old.files.next
          next_now = ap (λ (f : TwoFiles). f.next) begun.files ∙ it.framed.next

      pub append_settled : Ends plan planned new → Settled new
      append_settled ends = record {
        current_usable = ends.usable;
        other_usable = ends.other_usable;
        rest = λ honest. rw (ends.next, it.next_is, other_same) (
            add_settles seen may_leave is_usable is_clean Whole old bytes framed_by it.framed.few
            (omega (arith, it.framed.short)) it.framed.frame_is settled new.current
            (done_clean seen may_leave is_usable is_clean is_mixing faults framed_by adds
            old.current new.current done)
            new.files.bytes.items new.files.end
            (λ front gate len kept.
            added seen may_leave is_usable is_clean is_mixing faults framed_by front gate
            old.files.end len
            (frame_some it.framed) old.current kept new.current done)
            (ends.bytes ∙ it.bytes_are) (ends.end ∙ it.end_is)
            (honest.0, subst Clean other_same honest.1)
            );
      } where
        parts : (middle : K)
            × Done seen may_leave is_usable is_clean is_mixing faults framed_by adds old.current
            middle
            × ((new.current ≡ middle) × (new.other ≡ old.other))
        parts = done_of_current seen may_leave is_usable is_clean is_mixing faults framed_by adds []
            old.current old.other new.current new.other (
            subst (λ job. AreDone seen may_leave is_usable is_clean is_mixing faults framed_by
            (steps job)
            old.current old.other new.current new.other) it.job ends.done
            )

        other_same : new.other ≡ old.other
        other_same = parts.2.1

        done : Done seen may_leave is_usable is_clean is_mixing faults framed_by adds old.current
            new.current
        done = subst (Done seen may_leave is_usable is_clean is_mixing faults framed_by adds old.current)
            (sym parts.2.0) parts.1

    -- Others replace them.
    module _ (it : IsReplacement old.files bytes files plan) where
      abbrev Renews : K → K → Type 0
      Renews = Done seen may_leave is_usable is_clean is_mixing faults framed_by renew

      abbrev Retires : K → K → Type 0
      Retires = Begun seen may_leave is_usable is_clean is_mixing faults framed_by retire

      -- Either the other file is being made anew, or it is, and the one that was in use is being
      -- retired.
      abbrev Either : Type 0
      Either = (Begun seen may_leave is_usable is_clean is_mixing faults framed_by renew
          old.other new.other × (new.current ≡ old.current))
          ⊎ (Renews old.other new.other × Retires old.current new.current)

      either : Begins plan planned new → Either
      either begun =
          elim (begun_of_other seen may_leave is_usable is_clean is_mixing faults framed_by renew
          (on false retire) old.current old.other new.current new.other (
          subst (λ job. AreBegun seen may_leave is_usable is_clean is_mixing faults framed_by
          (steps job)
          old.current old.other new.current new.other) it.job begun.begun
          )) [
            | inl here ↦ inl here
            | inr later ↦ inr (second later.0 later.1 later.2)
          ]
        where
          second : (middle : K) → Renews old.other middle
              → AreBegun seen may_leave is_usable is_clean is_mixing faults framed_by
              (on false retire) old.current middle new.current new.other
              → Renews old.other new.other × Retires old.current new.current
          second middle renewed rest =
              elim (begun_of_current seen may_leave is_usable is_clean is_mixing faults framed_by
              retire [] old.current middle new.current new.other rest) [
                | inl here ↦ (subst (Renews old.other) (sym here.1) renewed, here.0)
                | inr later ↦ absurd later.2
              ]

      some : 0 < length framed_by
      some = frame_some it.framed

      few : old.files.next < 2 ^ 63 - 2
      few = it.framed.few

      short : length bytes < 2 ^ 64
      short = omega (arith, it.framed.short)

      framed : framed_by ≡ frame old.files.next bytes ++ 0 ∷ []
      framed = it.framed.frame_is

      abbrev Renewing : Type 0
      Renewing = Begun seen may_leave is_usable is_clean is_mixing faults framed_by renew
          old.other new.other

      module _ (renewing : Renewing) (same : new.current ≡ old.current) where
        renewing_clean : Clean new.other → Clean old.other
        renewing_clean = begun_clean seen may_leave is_usable is_clean is_mixing faults framed_by
            renew old.other new.other renewing

        first_leaves : (left : List ℕ) → Honest new → Leaves new left
            → (left ≡ old.files.bytes.items) ⊎ (left ≡ bytes)
        first_leaves left honest may =
            renew_leaves seen may_leave is_usable is_clean Whole old bytes framed_by few short
            framed settled
            new.other renewing_clean
            (λ durable file file_left. renewing_leaves seen may_leave is_usable is_clean is_mixing
            faults framed_by old.other durable some new.other renewing file file_left)
            (subst Clean same honest.0, honest.1) may.current may.other left
            (subst (λ k. may_leave k may.current) same may.current_left) may.other_left may.hold

        first_opens : Honest new → Loses new → ⊥
        first_opens honest lose =
            renew_opens seen may_leave is_usable is_clean Whole old bytes framed_by few short framed
            settled
            new.other renewing_clean
            (λ durable file file_left. renewing_leaves seen may_leave is_usable is_clean is_mixing
            faults framed_by old.other durable some new.other renewing file file_left)
            (subst Clean same honest.0, honest.1) lose.finishes lose.current lose.other
            (subst (λ k. may_leave k lose.current) same lose.current_left) lose.other_left lose.none

      module _ (done : Renews old.other new.other) where
        done_other_clean : Clean new.other → Clean old.other
        done_other_clean = done_clean seen may_leave is_usable is_clean is_mixing faults framed_by
            renew old.other new.other done

        -- The other file was on the disk, and so is the new one.
        module _ (honest : Clean old.current × Clean new.other) where
          kept_now : IsSyncedAs seen may_leave new.other (255 ∷ framed_by)
          kept_now =
              renewed seen may_leave is_usable is_clean is_mixing faults framed_by old.other
              (settled.rest (honest.0, done_other_clean honest.1)).other_kept some
              new.other done

        module _ (retiring : Retires old.current new.current) where
          retiring_clean : Clean new.current → Clean old.current
          retiring_clean = begun_clean seen may_leave is_usable is_clean is_mixing faults framed_by
              retire old.current new.current retiring

          second_leaves : (left : List ℕ) → Honest new → Leaves new left → left ≡ bytes
          second_leaves left honest may =
              retire_leaves seen may_leave is_usable is_clean Whole old bytes framed_by few short
              framed settled
              new.other done_other_clean (kept_now (retiring_clean honest.0, honest.1)) new.current
              retiring_clean
              (λ durable file file_left. retiring_leaves seen may_leave is_usable is_clean is_mixing
              faults framed_by old.current durable new.current retiring file file_left)
              (honest.1, honest.0) may.other may.current left may.other_left may.current_left
              (turned may.current may.other left may.hold)

          second_opens : Honest new → Loses new → ⊥
          second_opens honest lose =
              retire_opens seen may_leave is_usable is_clean Whole old bytes framed_by few short
              framed settled
              new.other done_other_clean (kept_now (retiring_clean honest.0, honest.1)) new.current
              retiring_clean
              (λ durable file file_left. retiring_leaves seen may_leave is_usable is_clean is_mixing
              faults framed_by old.current durable new.current retiring file file_left)
              (honest.1, honest.0) lose.finishes lose.other lose.current lose.other_left
              lose.current_left
              (none_turned lose.current lose.other lose.none)

      pub replace_leaves : Begins plan planned new → (left : List ℕ) → Honest new → Leaves new left
          → (left ≡ old.files.bytes.items) ⊎ (left ≡ bytes)
      replace_leaves begun left honest may = elim (either begun) [
        | inl first ↦ first_leaves first.0 first.1 left honest may
        | inr second ↦ inr (second_leaves second.0 second.1 left honest may)
      ]

      pub replace_opens : Begins plan planned new → Honest new → Loses new → ⊥
      replace_opens begun honest lose = elim (either begun) [
        | inl first ↦ first_opens first.0 first.1 honest lose
        | inr second ↦ second_opens second.0 second.1 honest lose
      ]

      -- The two have changed places.
      pub replace_settled : Ends plan planned new
          → Settled (record { files = new.files; current = new.other; other = new.current })
      replace_settled ends = record {
        current_usable = ends.other_usable;
        other_usable = ends.usable;
        rest = λ honest. rw (ends.next, it.next_is) (
            renew_settles seen may_leave is_usable is_clean Whole old bytes framed_by few short
            framed settled
            new.other (done_other_clean renewed_now)
            (kept_now renewed_now (gone_clean honest.1, honest.0)) new.current
            gone_clean new.files.bytes.items new.files.end (ends.bytes ∙ it.bytes_are)
            (retired seen may_leave is_usable is_clean is_mixing faults framed_by old.current
            (settled.rest (gone_clean honest.1, done_other_clean renewed_now honest.0)).current_kept
            new.current gone)
            (ends.end ∙ it.end_is) honest
            );
      } where
        parts : (middle : K) × Renews old.other middle
            × AreDone seen may_leave is_usable is_clean is_mixing faults framed_by (on false retire)
            old.current middle new.current new.other
        parts = done_of_other seen may_leave is_usable is_clean is_mixing faults framed_by renew
            (on false retire)
            old.current old.other new.current new.other (
            subst (λ job. AreDone seen may_leave is_usable is_clean is_mixing faults framed_by
            (steps job)
            old.current old.other new.current new.other) it.job ends.done
            )

        rest : (middle : K) × Done seen may_leave is_usable is_clean is_mixing faults framed_by
            retire old.current middle
            × ((new.current ≡ middle) × (new.other ≡ parts.0))
        rest = done_of_current seen may_leave is_usable is_clean is_mixing faults framed_by retire
            [] old.current parts.0 new.current new.other parts.2

        renewed_now : Renews old.other new.other
        renewed_now = subst (Renews old.other) (sym rest.2.1) parts.1

        gone : Done seen may_leave is_usable is_clean is_mixing faults framed_by retire old.current
            new.current
        gone = subst (Done seen may_leave is_usable is_clean is_mixing faults framed_by retire
            old.current) (sym rest.2.0) rest.1

        gone_clean : Clean new.current → Clean old.current
        gone_clean = done_clean seen may_leave is_usable is_clean is_mixing faults framed_by retire
            old.current new.current gone

  -- Two files are tidied, as they are opened.
  module _ (planned : FileLog K) (plan : Plan) (new : FileLog K)
      (kept : Only (seen planned.current) (may_leave planned.current))
      (other_kept : Only (seen planned.other) (may_leave planned.other))
      (it : Tidies (seen planned.current) (seen planned.other) plan planned.files) where
    abbrev end : ℕ
    end = planned.files.end + 1

    abbrev Cuts : ℕ → K → K → Type 0
    Cuts len disk now = (file : List ℕ) → may_leave now file → IsCut len (seen disk) file

    long : end ≤ length (seen planned.current)
    long = omega (
      arith,
      ap length it.tidied.contents.has.parts,
      it.tidied.contents.end_is,
      length-append (frames it.first it.tidied.contents.all) (0 ∷ it.tidied.contents.has.rest),
    )

    other_long : it.len ≤ length (seen planned.other)
    other_long = elim it.tidied.either [
      | inl blank ↦ omega (arith, blank.1)
      | inr older ↦ omega (arith, older.1)
    ]

    -- a file that isn't touched
    untouched : (len : ℕ) (disk now : K) → Only (seen disk) (may_leave disk) → now ≡ disk
        → Cuts len disk now
    untouched len disk now durable same file left =
        let is : file ≡ seen disk = durable file (subst (λ k. may_leave k file) same left) in
        subst (IsCut len (seen disk)) (sym is) (record {
          parts = sym (take-append-drop len (seen disk));
          within = omega arith;
        })

    touched : (len : ℕ) (disk now : K) → len ≤ length (seen disk)
        → Only (seen disk) (may_leave disk)
        → IsTried seen may_leave is_usable is_clean is_mixing faults planned.files.frame.items
        (SetLen len) disk now → Cuts len disk now
    touched len disk now within durable tried file left =
        let cut = cutting_leaves seen may_leave is_usable is_clean is_mixing faults
        planned.files.frame.items len disk within durable now tried file left in
        record { parts = cut.0; within = cut.1 }

    abbrev Both : Type 0
    Both = Cuts end planned.current new.current × Cuts it.len planned.other new.other

    under_way : Begins plan planned new → Both
    under_way begun =
        of_first (begun_of_current seen may_leave is_usable is_clean is_mixing faults
        planned.files.frame.items (SetLen end ∷ []) (on true (SetLen it.len ∷ []))
        planned.current planned.other new.current new.other (
        subst (λ job. AreBegun seen may_leave is_usable is_clean is_mixing faults
        planned.files.frame.items (steps job)
        planned.current planned.other new.current new.other) it.job begun.begun
        ))
      where
        of_first : (Begun seen may_leave is_usable is_clean is_mixing faults
            planned.files.frame.items (SetLen end ∷ []) planned.current new.current
            × (new.other ≡ planned.other))
            ⊎ ((middle : K) × Done seen may_leave is_usable is_clean is_mixing faults
            planned.files.frame.items (SetLen end ∷ []) planned.current middle
            × AreBegun seen may_leave is_usable is_clean is_mixing faults planned.files.frame.items
            (on true (SetLen it.len ∷ [])) middle planned.other new.current new.other)
            → Both
        of_first (inl (inl failed, same)) = (
          touched end planned.current new.current long kept failed.tried,
          untouched it.len planned.other new.other other_kept same,
        )
        of_first (inl (inr more, same)) = absurd more.2
        of_first (inr later) = elim later.2 [
          | inl failed ↦ (
            touched end planned.current new.current long kept
                (subst (IsTried seen may_leave is_usable is_clean is_mixing faults
                planned.files.frame.items (SetLen end) planned.current)
                (sym (failed.1 ∙ later.1.2)) later.1.1.tried),
            touched it.len planned.other new.other other_long other_kept failed.0.tried,
          )
          | inr more ↦ absurd more.2
        ]

    pub tidy_leaves : Begins plan planned new → (left : List ℕ) → Leaves new left
        → left ≡ planned.files.bytes.items
    tidy_leaves begun left may =
        let both = under_way begun in
        tidy_finds it.first planned.files.next planned.files.end it.len planned.files.bytes.items
        (seen planned.current) (seen planned.other) it.tidied may.current may.other
        (both.0 may.current may.current_left) (both.1 may.other may.other_left) left may.hold

    pub tidy_loses : Begins plan planned new → Loses new → ⊥
    tidy_loses begun lose =
        let both = under_way begun in
        let opens = tidy_opens it.first planned.files.next planned.files.end it.len
        planned.files.bytes.items
        (seen planned.current) (seen planned.other) it.tidied lose.current lose.other
        (both.0 lose.current lose.current_left) (both.1 lose.other lose.other_left)
        (λ torn. lose.current_torn (subst (λ n. IsTornIntoTwo n lose.current) (sym next_now) torn))
        in
        lose.none opens.bytes opens.hold
      where
        next_now : new.files.next ≡ planned.files.next
        next_now = ap (λ (f : TwoFiles). f.next) begun.files

    pub tidy_settled : Ends plan planned new
        → AreAtRest seen may_leave new.current new.other new.files.bytes.items new.files.next
        new.files.end
    tidy_settled ends = rw (ends.bytes, ends.next, ends.end, it.next_is, it.end_is) (
        tidied seen may_leave is_usable is_clean planned.current planned.other new.current new.other
        it.first
        planned.files.next planned.files.end planned.files.bytes.items it.len it.tidied
        (λ within. is_cut seen may_leave is_usable is_clean is_mixing faults
        planned.files.frame.items end planned.current within new.current cut_current)
        (λ within. is_cut seen may_leave is_usable is_clean is_mixing faults
        planned.files.frame.items it.len planned.other within new.other cut_other)
        ) where
          parts : (middle : K) × Done seen may_leave is_usable is_clean is_mixing faults
              planned.files.frame.items (SetLen end ∷ []) planned.current middle
              × AreDone seen may_leave is_usable is_clean is_mixing faults planned.files.frame.items
              (on true (SetLen it.len ∷ [])) middle planned.other new.current new.other
          parts = done_of_current seen may_leave is_usable is_clean is_mixing faults
              planned.files.frame.items (SetLen end ∷ []) (on true (SetLen it.len ∷ []))
              planned.current planned.other new.current new.other (
              subst (λ job. AreDone seen may_leave is_usable is_clean is_mixing faults
              planned.files.frame.items (steps job)
              planned.current planned.other new.current new.other) it.job ends.done
              )

          cut_current : IsDone seen may_leave is_usable is_clean is_mixing faults
              planned.files.frame.items (SetLen end) planned.current new.current
          cut_current = subst (IsDone seen may_leave is_usable is_clean is_mixing faults
              planned.files.frame.items (SetLen end) planned.current)
              (sym (parts.2.2.0 ∙ parts.1.2)) parts.1.1

          cut_other : IsDone seen may_leave is_usable is_clean is_mixing faults
              planned.files.frame.items (SetLen it.len) planned.other new.other
          cut_other = subst (IsDone seen may_leave is_usable is_clean is_mixing faults
              planned.files.frame.items (SetLen it.len) planned.other)
              (sym parts.2.2.1) parts.2.1
