use Rattle.batcher_journal.proofs.Words.{Err, ap, arith, drop, inl, inr, refl, subst, sym, true, ◌++◌, ◌∙◌, ◌≡◌, ◌⊎◌, vote_format, MayBeWrittenBehind}
use Rattle.batcher_journal.proofs.Words.{HasContents, HasNoRoomFor, IsReady, WriteLeaves, first_of, with_more, AreRecords, records_of, records_text}
use Rattle.batcher_journal.proofs.Words.{contents_of}
use Rattle.batcher_journal.proofs.Indexing.{rest}
use Rattle.batcher_journal.proofs.Sorting.{made, none_left}
use Rattle.batcher_journal.proofs.Writes.{more_is, ready_more, ready_same, stays, write_leaves}
use Rattle.batcher_journal.proofs.journal.Journal.write.Goals as goal

pub returns-then-not-may_follow-clause-not_free : goal.returns-then-not-may_follow-clause-not_free
returns-then-not-may_follow-clause-not_free g c =
    λ fault. (
      refl,
      subst (λ v. MayBeWrittenBehind g.D.PartialEq.eq v.contents.floor v.contents.votes c.args.votes.now → ⊥) c.self.view_is
          c.if-not-may_follow.ensures,
    )

pub returns-then-not-may_follow-clause-leaves : goal.returns-then-not-may_follow-clause-leaves
returns-then-not-may_follow-clause-leaves g c =
    λ left.
    subst (λ v. v.is_open ≡ true → g.L.Log.is_honest v.log → g.L.Log.may_leave v.log left
    → WriteLeaves (vote_format g.G.Codec.format g.D.Codec.format) g.D.PartialEq.eq v c.args.votes.now left) c.self.view_is
    (λ is_open honest may.
    let ready = c.self.invariant.1 is_open in
    inl (stays (vote_format g.G.Codec.format g.D.Codec.format) g.D.PartialEq.eq g.L.Log.is_settled g.L.Log.written _ _ ready left
    (g.met.L.Log.settled c.self.inside.log left honest ready.settled may)))

pub returns-then-not-may_follow-clause-opens : goal.returns-then-not-may_follow-clause-opens
returns-then-not-may_follow-clause-opens g c =
    subst (λ v. v.is_open ≡ true → g.L.Log.is_honest v.log → g.L.Log.may_lose v.log → ⊥) c.self.view_is
    (λ is_open honest lose. g.met.L.Log.kept c.self.inside.log honest (c.self.invariant.1 is_open).settled lose)

pub invariant_of-self : goal.invariant_of-self
invariant_of-self g c = (
  omega (arith, (c.len-self-inside.ensures ∙ c.self.inside.kept.certificates.ok.0)),
  λ is_open.
      ready_more (vote_format g.G.Codec.format g.D.Codec.format) g.D.PartialEq.eq g.L.Log.is_settled g.L.Log.written c.self.inside.log (first_of
      c.self.inside.written (contents_of c.self.inside.kept)) (c.self.invariant.1 is_open)
      c.write_to.new.log c.args.votes.now (drop c.self.inside.written c.self.inside.kept.certificates.items) (first_of c.len-self-inside.result (made
      c.self.inside.kept.owner c.self.inside.kept.floor c.self.inside.kept.finalization.items
      c.index_more.new.self c.self.inside.kept.certificates.items)) (more_is c.self.inside.written c.len-self-inside.result (contents_of
      c.self.inside.kept) c.args.votes.now c.index_more.new.self (drop c.self.inside.written c.self.inside.kept.certificates.items)
      (c.len-self-inside.ensures ∙ c.self.inside.kept.certificates.ok.0) (c.index_more.ensures ∙ c.in-Ok.ensures.ok.3) refl) c.in-Ok.ensures.ok.0
      (subst (λ its. g.L.Log.written c.write_to.new.log ≡ g.L.Log.written c.self.inside.log
      ++ records_text (vote_format g.G.Codec.format g.D.Codec.format) (records_of c.args.votes.now its)) (rest c.self.inside.written
      c.deref.result.now c.self.inside.kept.certificates.items c.deref.ensures.value) c.in-Ok.ensures.ok.1)
      (subst (λ its. AreRecords (vote_format g.G.Codec.format g.D.Codec.format) (records_of c.args.votes.now its)) (rest c.self.inside.written
      c.deref.result.now c.self.inside.kept.certificates.items c.deref.ensures.value) c.in-Ok.ensures.ok.2)
      c.if-not-may_follow.ensures,
)

pub returns-in-Ok-clause-written : goal.returns-in-Ok-clause-written
returns-in-Ok-clause-written g c =
    subst (λ v. (v.is_open ≡ true) × MayBeWrittenBehind g.D.PartialEq.eq v.contents.floor v.contents.votes c.args.votes.now × HasContents (record {
      log = c.write_to.new.log;
      contents = first_of c.len-self-inside.result (made c.self.inside.kept.owner c.self.inside.kept.floor c.self.inside.kept.finalization.items
          c.index_more.new.self c.self.inside.kept.certificates.items);
      unwritten = drop c.len-self-inside.result c.self.inside.kept.certificates.items;
      is_open = c.self.inside.is_open;
    }) (with_more v.contents c.args.votes.now v.unwritten)) c.self.view_is (
      c.if-not-self.false,
      c.if-not-may_follow.ensures,
      record {
        contents_are = (more_is c.self.inside.written c.len-self-inside.result (contents_of c.self.inside.kept) c.args.votes.now
            c.index_more.new.self (drop c.self.inside.written c.self.inside.kept.certificates.items) (c.len-self-inside.ensures ∙
            c.self.inside.kept.certificates.ok.0) (c.index_more.ensures ∙ c.in-Ok.ensures.ok.3) refl);
        all_written = none_left c.len-self-inside.result c.self.inside.kept.certificates.items (c.len-self-inside.ensures ∙
            c.self.inside.kept.certificates.ok.0);
        is_open = c.if-not-self.false;
      },
    )

pub returns-in-Ok-clause-on_disk : goal.returns-in-Ok-clause-on_disk
returns-in-Ok-clause-on_disk g c =
    let ready = ready_more (vote_format g.G.Codec.format g.D.Codec.format) g.D.PartialEq.eq g.L.Log.is_settled g.L.Log.written c.self.inside.log
    (first_of c.self.inside.written (contents_of c.self.inside.kept)) (c.self.invariant.1 c.if-not-self.false)
    c.write_to.new.log c.args.votes.now (drop c.self.inside.written c.self.inside.kept.certificates.items) (first_of c.len-self-inside.result (made
    c.self.inside.kept.owner c.self.inside.kept.floor c.self.inside.kept.finalization.items
    c.index_more.new.self c.self.inside.kept.certificates.items)) (more_is c.self.inside.written c.len-self-inside.result (contents_of
    c.self.inside.kept) c.args.votes.now c.index_more.new.self (drop c.self.inside.written c.self.inside.kept.certificates.items)
    (c.len-self-inside.ensures ∙ c.self.inside.kept.certificates.ok.0) (c.index_more.ensures ∙ c.in-Ok.ensures.ok.3) refl) c.in-Ok.ensures.ok.0
    (subst (λ its. g.L.Log.written c.write_to.new.log ≡ g.L.Log.written c.self.inside.log
    ++ records_text (vote_format g.G.Codec.format g.D.Codec.format) (records_of c.args.votes.now its)) (rest c.self.inside.written c.deref.result.now
    c.self.inside.kept.certificates.items c.deref.ensures.value) c.in-Ok.ensures.ok.1)
    (subst (λ its. AreRecords (vote_format g.G.Codec.format g.D.Codec.format) (records_of c.args.votes.now its)) (rest c.self.inside.written
    c.deref.result.now c.self.inside.kept.certificates.items c.deref.ensures.value) c.in-Ok.ensures.ok.2)
    c.if-not-may_follow.ensures in
    (ready.settled, ready.text)

pub invariant_of-self-in-Err-OutOfMemory : goal.invariant_of-self-in-Err-OutOfMemory
invariant_of-self-in-Err-OutOfMemory g c =
    let kept = c.in-Err-OutOfMemory.ensures.kept (inl (ap (λ e. Err e) c.in-Err-OutOfMemory.field-0-is)) in (
      c.self.invariant.0,
      λ is_open.
          subst (λ vs. IsReady (vote_format g.G.Codec.format g.D.Codec.format) g.D.PartialEq.eq g.L.Log.is_settled g.L.Log.written c.write_to.new.log
          (first_of c.self.inside.written (made c.self.inside.kept.owner c.self.inside.kept.floor c.self.inside.kept.finalization.items
          vs c.self.inside.kept.certificates.items))) (sym c.in-Err-OutOfMemory.ensures.err)
          (ready_same (vote_format g.G.Codec.format g.D.Codec.format) g.D.PartialEq.eq g.L.Log.is_settled g.L.Log.written _ _ (c.self.invariant.1
          is_open) c.write_to.new.log kept.0 kept.1),
    )

pub invariant_of-self-in-Err-Full : goal.invariant_of-self-in-Err-Full
invariant_of-self-in-Err-Full g c =
    let kept = c.in-Err-Full.ensures.kept (inr (ap (λ e. Err e) c.in-Err-Full.field-0-is)) in (
      c.self.invariant.0,
      λ is_open.
          subst (λ vs. IsReady (vote_format g.G.Codec.format g.D.Codec.format) g.D.PartialEq.eq g.L.Log.is_settled g.L.Log.written c.write_to.new.log
          (first_of c.self.inside.written (made c.self.inside.kept.owner c.self.inside.kept.floor c.self.inside.kept.finalization.items
          vs c.self.inside.kept.certificates.items))) (sym c.in-Err-Full.ensures.err)
          (ready_same (vote_format g.G.Codec.format g.D.Codec.format) g.D.PartialEq.eq g.L.Log.is_settled g.L.Log.written _ _ (c.self.invariant.1
          is_open) c.write_to.new.log kept.0 kept.1),
    )

pub returns-in-Ok-clause-leaves : goal.returns-in-Ok-clause-leaves
returns-in-Ok-clause-leaves g c =
    λ left.
    subst (λ v. v.is_open ≡ true → g.L.Log.is_honest c.write_to.new.log → g.L.Log.may_leave c.write_to.new.log left
    → WriteLeaves (vote_format g.G.Codec.format g.D.Codec.format) g.D.PartialEq.eq v c.args.votes.now left) c.self.view_is
    (λ is_open honest may.
    write_leaves (vote_format g.G.Codec.format g.D.Codec.format) g.D.PartialEq.eq g.L.Log.is_settled g.L.Log.written c.self.inside.log (first_of
    c.self.inside.written (contents_of c.self.inside.kept)) (c.self.invariant.1 is_open) c.args.votes.now (drop c.self.inside.written
    c.self.inside.kept.certificates.items) left
    c.if-not-may_follow.ensures
    (subst (λ its. (left ≡ g.L.Log.written c.self.inside.log)
    ⊎ ((left ≡ g.L.Log.written c.self.inside.log ++ records_text (vote_format g.G.Codec.format g.D.Codec.format) (records_of c.args.votes.now its))
    × AreRecords (vote_format g.G.Codec.format g.D.Codec.format) (records_of c.args.votes.now its))) (rest c.self.inside.written c.deref.result.now
    c.self.inside.kept.certificates.items c.deref.ensures.value) (c.in-Ok.ensures.leaves left honest may)))

pub returns-in-Err-OutOfMemory-clause-leaves : goal.returns-in-Err-OutOfMemory-clause-leaves
returns-in-Err-OutOfMemory-clause-leaves g c =
    λ left.
    subst (λ v. v.is_open ≡ true → g.L.Log.is_honest c.write_to.new.log → g.L.Log.may_leave c.write_to.new.log left
    → WriteLeaves (vote_format g.G.Codec.format g.D.Codec.format) g.D.PartialEq.eq v c.args.votes.now left) c.self.view_is
    (λ is_open honest may.
    write_leaves (vote_format g.G.Codec.format g.D.Codec.format) g.D.PartialEq.eq g.L.Log.is_settled g.L.Log.written c.self.inside.log (first_of
    c.self.inside.written (contents_of c.self.inside.kept)) (c.self.invariant.1 is_open) c.args.votes.now (drop c.self.inside.written
    c.self.inside.kept.certificates.items) left
    c.if-not-may_follow.ensures
    (subst (λ its. (left ≡ g.L.Log.written c.self.inside.log)
    ⊎ ((left ≡ g.L.Log.written c.self.inside.log ++ records_text (vote_format g.G.Codec.format g.D.Codec.format) (records_of c.args.votes.now its))
    × AreRecords (vote_format g.G.Codec.format g.D.Codec.format) (records_of c.args.votes.now its))) (rest c.self.inside.written c.deref.result.now
    c.self.inside.kept.certificates.items c.deref.ensures.value) (c.in-Err-OutOfMemory.ensures.leaves left honest may)))

pub returns-in-Err-Full-clause-leaves : goal.returns-in-Err-Full-clause-leaves
returns-in-Err-Full-clause-leaves g c =
    λ left.
    subst (λ v. v.is_open ≡ true → g.L.Log.is_honest c.write_to.new.log → g.L.Log.may_leave c.write_to.new.log left
    → WriteLeaves (vote_format g.G.Codec.format g.D.Codec.format) g.D.PartialEq.eq v c.args.votes.now left) c.self.view_is
    (λ is_open honest may.
    write_leaves (vote_format g.G.Codec.format g.D.Codec.format) g.D.PartialEq.eq g.L.Log.is_settled g.L.Log.written c.self.inside.log (first_of
    c.self.inside.written (contents_of c.self.inside.kept)) (c.self.invariant.1 is_open) c.args.votes.now (drop c.self.inside.written
    c.self.inside.kept.certificates.items) left
    c.if-not-may_follow.ensures
    (subst (λ its. (left ≡ g.L.Log.written c.self.inside.log)
    ⊎ ((left ≡ g.L.Log.written c.self.inside.log ++ records_text (vote_format g.G.Codec.format g.D.Codec.format) (records_of c.args.votes.now its))
    × AreRecords (vote_format g.G.Codec.format g.D.Codec.format) (records_of c.args.votes.now its))) (rest c.self.inside.written c.deref.result.now
    c.self.inside.kept.certificates.items c.deref.ensures.value) (c.in-Err-Full.ensures.leaves left honest may)))

pub returns-in-Err-Failed-clause-leaves : goal.returns-in-Err-Failed-clause-leaves
returns-in-Err-Failed-clause-leaves g c =
    λ left.
    subst (λ v. v.is_open ≡ true → g.L.Log.is_honest c.write_to.new.log → g.L.Log.may_leave c.write_to.new.log left
    → WriteLeaves (vote_format g.G.Codec.format g.D.Codec.format) g.D.PartialEq.eq v c.args.votes.now left) c.self.view_is
    (λ is_open honest may.
    write_leaves (vote_format g.G.Codec.format g.D.Codec.format) g.D.PartialEq.eq g.L.Log.is_settled g.L.Log.written c.self.inside.log (first_of
    c.self.inside.written (contents_of c.self.inside.kept)) (c.self.invariant.1 is_open) c.args.votes.now (drop c.self.inside.written
    c.self.inside.kept.certificates.items) left
    c.if-not-may_follow.ensures
    (subst (λ its. (left ≡ g.L.Log.written c.self.inside.log)
    ⊎ ((left ≡ g.L.Log.written c.self.inside.log ++ records_text (vote_format g.G.Codec.format g.D.Codec.format) (records_of c.args.votes.now its))
    × AreRecords (vote_format g.G.Codec.format g.D.Codec.format) (records_of c.args.votes.now its))) (rest c.self.inside.written c.deref.result.now
    c.self.inside.kept.certificates.items c.deref.ensures.value) (c.in-Err-Failed.ensures.leaves left honest may)))

pub returns-in-Err-Full-clause-no_room : goal.returns-in-Err-Full-clause-no_room
returns-in-Err-Full-clause-no_room g c = λ is.
    let format = vote_format g.G.Codec.format g.D.Codec.format in
    subst (λ v. HasNoRoomFor format g.L.Log.is_full v.log c.args.votes.now v.unwritten) c.self.view_is
    (subst (λ its. g.L.Log.is_full c.self.inside.log (records_text format (records_of c.args.votes.now its)))
    (rest c.self.inside.written c.deref.result.now c.self.inside.kept.certificates.items c.deref.ensures.value)
    (c.in-Err-Full.ensures.full (ap (λ e. Err e) c.in-Err-Full.field-0-is)))
