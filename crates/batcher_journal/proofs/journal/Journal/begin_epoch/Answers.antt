use Rattle.batcher_journal.proofs.Words.{Err, ap, arith, inl, inr, subst, sym, true, ◌∙◌, ◌≡◌, vote_format, RaiseLeaves, left_by_floor, contents_of, IsText}
use Rattle.batcher_journal.proofs.Words.{fields_of, raised, IsTooLongFor}
use Rattle.batcher_journal.proofs.Raises.{raise_leaves, ready_raised, too_long}
use Rattle.batcher_journal.proofs.Writes.{ready_same, stays}
use Rattle.batcher_journal.proofs.journal.Journal.begin_epoch.Goals as goal

pub returns-in-Err-clause-leaves : goal.returns-in-Err-clause-leaves
returns-in-Err-clause-leaves g c =
    λ left.
    subst (λ v. v.is_open ≡ true → g.L.Log.is_honest v.log → g.L.Log.may_leave v.log left
    → RaiseLeaves (vote_format g.G.Codec.format g.D.Codec.format) g.D.PartialEq.eq v (fields_of c.args.owner.now) c.args.floor
    c.args.finalization.now left) c.self.view_is
    (λ is_open honest may.
    let ready = c.self.invariant.1 is_open in
    inl (stays (vote_format g.G.Codec.format g.D.Codec.format) g.D.PartialEq.eq g.L.Log.is_settled g.L.Log.written _ _ ready left
    (g.met.L.Log.settled c.self.inside.log left honest ready.settled may)))

pub returns-in-Err-clause-opens : goal.returns-in-Err-clause-opens
returns-in-Err-clause-opens g c =
    subst (λ v. v.is_open ≡ true → g.L.Log.is_honest v.log → g.L.Log.may_lose v.log → ⊥) c.self.view_is
    (λ is_open honest lose. g.met.L.Log.kept c.self.inside.log honest (c.self.invariant.1 is_open).settled lose)

pub replace-requires : goal.replace-requires
replace-requires g c = (c.self.invariant.1 c.if-not-self.false).settled

pub invariant_of-self : goal.invariant_of-self
invariant_of-self g c = (
  omega (arith, (c.len-self-inside.ensures ∙ c.in-Ok.raised.kept.certificates.ok.0)),
  λ is_open.
      ready_raised (vote_format g.G.Codec.format g.D.Codec.format) g.D.PartialEq.eq g.L.Log.is_settled g.L.Log.written
      c.self.inside.log c.self.inside.written (contents_of c.self.inside.kept) (c.self.invariant.1 is_open) (fields_of c.args.owner.now) c.args.floor
      c.args.finalization.now
      (contents_of c.in-Ok.raised.kept) (c.in-Ok.ensures.kept
      ∙ ap (λ vs. left_by_floor (fields_of c.args.owner.now) c.args.floor c.args.finalization.now vs c.deref.result.now) c.as_slice-votes.ensures
      ∙ ap (λ its. left_by_floor (fields_of c.args.owner.now) c.args.floor c.args.finalization.now c.self.inside.kept.votes its) c.deref.ensures.value)
      c.replace.new.self c.deref-2.result.now c.len-self-inside.result (c.len-self-inside.ensures ∙ c.in-Ok.raised.kept.certificates.ok.0) (subst (λ
      t. IsText (vote_format g.G.Codec.format g.D.Codec.format) t (contents_of c.in-Ok.raised.kept)) (sym c.deref-2.ensures.value) c.in-Ok.ensures.text)
      c.in-Ok-replace.ensures.ok.0 c.in-Ok-replace.ensures.ok.1,
)

pub returns-in-Ok-replace-clause-leaves : goal.returns-in-Ok-replace-clause-leaves
returns-in-Ok-replace-clause-leaves g c =
    λ left.
    subst (λ v. v.is_open ≡ true → g.L.Log.is_honest c.replace.new.self → g.L.Log.may_leave c.replace.new.self left
    → RaiseLeaves (vote_format g.G.Codec.format g.D.Codec.format) g.D.PartialEq.eq v (fields_of c.args.owner.now) c.args.floor
    c.args.finalization.now left) c.self.view_is
    (λ is_open honest may.
    raise_leaves (vote_format g.G.Codec.format g.D.Codec.format) g.D.PartialEq.eq g.L.Log.is_settled g.L.Log.written
    c.self.inside.log c.self.inside.written (contents_of c.self.inside.kept) (c.self.invariant.1 is_open) (fields_of c.args.owner.now) c.args.floor
    c.args.finalization.now
    (contents_of c.in-Ok.raised.kept) (c.in-Ok.ensures.kept
    ∙ ap (λ vs. left_by_floor (fields_of c.args.owner.now) c.args.floor c.args.finalization.now vs c.deref.result.now) c.as_slice-votes.ensures
    ∙ ap (λ its. left_by_floor (fields_of c.args.owner.now) c.args.floor c.args.finalization.now c.self.inside.kept.votes its) c.deref.ensures.value)
    left c.deref-2.result.now (sym c.if-is_before.ensures) (subst (λ t. IsText (vote_format g.G.Codec.format g.D.Codec.format) t (contents_of
    c.in-Ok.raised.kept)) (sym c.deref-2.ensures.value) c.in-Ok.ensures.text)
    (c.replace.ensures.leaves left honest may))

pub returns-in-Ok-replace-clause-honest : goal.returns-in-Ok-replace-clause-honest
returns-in-Ok-replace-clause-honest g c =
    subst (λ v. g.L.Log.is_honest c.replace.new.self → g.L.Log.is_honest v.log) c.self.view_is c.replace.ensures.honest

pub returns-in-Err-OutOfMemory-clause-leaves : goal.returns-in-Err-OutOfMemory-clause-leaves
returns-in-Err-OutOfMemory-clause-leaves g c =
    λ left.
    subst (λ v. v.is_open ≡ true → g.L.Log.is_honest c.replace.new.self → g.L.Log.may_leave c.replace.new.self left
    → RaiseLeaves (vote_format g.G.Codec.format g.D.Codec.format) g.D.PartialEq.eq v (fields_of c.args.owner.now) c.args.floor
    c.args.finalization.now left) c.self.view_is
    (λ is_open honest may.
    raise_leaves (vote_format g.G.Codec.format g.D.Codec.format) g.D.PartialEq.eq g.L.Log.is_settled g.L.Log.written
    c.self.inside.log c.self.inside.written (contents_of c.self.inside.kept) (c.self.invariant.1 is_open) (fields_of c.args.owner.now) c.args.floor
    c.args.finalization.now
    (contents_of c.in-Ok.raised.kept) (c.in-Ok.ensures.kept
    ∙ ap (λ vs. left_by_floor (fields_of c.args.owner.now) c.args.floor c.args.finalization.now vs c.deref.result.now) c.as_slice-votes.ensures
    ∙ ap (λ its. left_by_floor (fields_of c.args.owner.now) c.args.floor c.args.finalization.now c.self.inside.kept.votes its) c.deref.ensures.value)
    left c.deref-2.result.now (sym c.if-is_before.ensures) (subst (λ t. IsText (vote_format g.G.Codec.format g.D.Codec.format) t (contents_of
    c.in-Ok.raised.kept)) (sym c.deref-2.ensures.value) c.in-Ok.ensures.text)
    (c.replace.ensures.leaves left honest may))

pub returns-in-Err-OutOfMemory-clause-honest : goal.returns-in-Err-OutOfMemory-clause-honest
returns-in-Err-OutOfMemory-clause-honest g c =
    subst (λ v. g.L.Log.is_honest c.replace.new.self → g.L.Log.is_honest v.log) c.self.view_is c.replace.ensures.honest

pub returns-in-Err-Full-clause-leaves : goal.returns-in-Err-Full-clause-leaves
returns-in-Err-Full-clause-leaves g c =
    λ left.
    subst (λ v. v.is_open ≡ true → g.L.Log.is_honest c.replace.new.self → g.L.Log.may_leave c.replace.new.self left
    → RaiseLeaves (vote_format g.G.Codec.format g.D.Codec.format) g.D.PartialEq.eq v (fields_of c.args.owner.now) c.args.floor
    c.args.finalization.now left) c.self.view_is
    (λ is_open honest may.
    raise_leaves (vote_format g.G.Codec.format g.D.Codec.format) g.D.PartialEq.eq g.L.Log.is_settled g.L.Log.written
    c.self.inside.log c.self.inside.written (contents_of c.self.inside.kept) (c.self.invariant.1 is_open) (fields_of c.args.owner.now) c.args.floor
    c.args.finalization.now
    (contents_of c.in-Ok.raised.kept) (c.in-Ok.ensures.kept
    ∙ ap (λ vs. left_by_floor (fields_of c.args.owner.now) c.args.floor c.args.finalization.now vs c.deref.result.now) c.as_slice-votes.ensures
    ∙ ap (λ its. left_by_floor (fields_of c.args.owner.now) c.args.floor c.args.finalization.now c.self.inside.kept.votes its) c.deref.ensures.value)
    left c.deref-2.result.now (sym c.if-is_before.ensures) (subst (λ t. IsText (vote_format g.G.Codec.format g.D.Codec.format) t (contents_of
    c.in-Ok.raised.kept)) (sym c.deref-2.ensures.value) c.in-Ok.ensures.text)
    (c.replace.ensures.leaves left honest may))

pub returns-in-Err-Full-clause-honest : goal.returns-in-Err-Full-clause-honest
returns-in-Err-Full-clause-honest g c =
    subst (λ v. g.L.Log.is_honest c.replace.new.self → g.L.Log.is_honest v.log) c.self.view_is c.replace.ensures.honest

pub invariant_of-self-in-Err-OutOfMemory : goal.invariant_of-self-in-Err-OutOfMemory
invariant_of-self-in-Err-OutOfMemory g c =
    let kept = c.in-Err-OutOfMemory.ensures.kept (inl (ap (λ e. Err e) c.in-Err-OutOfMemory.field-0-is)) in (
      c.self.invariant.0,
      λ is_open.
          ready_same (vote_format g.G.Codec.format g.D.Codec.format) g.D.PartialEq.eq g.L.Log.is_settled g.L.Log.written _ _ (c.self.invariant.1
          is_open) c.replace.new.self kept.0 kept.1,
    )

pub invariant_of-self-in-Err-Full : goal.invariant_of-self-in-Err-Full
invariant_of-self-in-Err-Full g c =
    let kept = c.in-Err-Full.ensures.kept (inr (ap (λ e. Err e) c.in-Err-Full.field-0-is)) in (
      c.self.invariant.0,
      λ is_open.
          ready_same (vote_format g.G.Codec.format g.D.Codec.format) g.D.PartialEq.eq g.L.Log.is_settled g.L.Log.written _ _ (c.self.invariant.1
          is_open) c.replace.new.self kept.0 kept.1,
    )

pub returns-clause-leaves : goal.returns-clause-leaves
returns-clause-leaves g c =
    λ left.
    subst (λ v. v.is_open ≡ true → g.L.Log.is_honest c.replace.new.self → g.L.Log.may_leave c.replace.new.self left
    → RaiseLeaves (vote_format g.G.Codec.format g.D.Codec.format) g.D.PartialEq.eq v (fields_of c.args.owner.now) c.args.floor
    c.args.finalization.now left) c.self.view_is
    (λ is_open honest may.
    raise_leaves (vote_format g.G.Codec.format g.D.Codec.format) g.D.PartialEq.eq g.L.Log.is_settled g.L.Log.written
    c.self.inside.log c.self.inside.written (contents_of c.self.inside.kept) (c.self.invariant.1 is_open) (fields_of c.args.owner.now) c.args.floor
    c.args.finalization.now
    (contents_of c.in-Ok.raised.kept) (c.in-Ok.ensures.kept
    ∙ ap (λ vs. left_by_floor (fields_of c.args.owner.now) c.args.floor c.args.finalization.now vs c.deref.result.now) c.as_slice-votes.ensures
    ∙ ap (λ its. left_by_floor (fields_of c.args.owner.now) c.args.floor c.args.finalization.now c.self.inside.kept.votes its) c.deref.ensures.value)
    left c.deref-2.result.now (sym c.if-is_before.ensures) (subst (λ t. IsText (vote_format g.G.Codec.format g.D.Codec.format) t (contents_of
    c.in-Ok.raised.kept)) (sym c.deref-2.ensures.value) c.in-Ok.ensures.text)
    (c.replace.ensures.leaves left honest may))

pub returns-clause-honest : goal.returns-clause-honest
returns-clause-honest g c =
    subst (λ v. g.L.Log.is_honest c.replace.new.self → g.L.Log.is_honest v.log) c.self.view_is c.replace.ensures.honest

pub returns-in-Err-Full-clause-too_long : goal.returns-in-Err-Full-clause-too_long
returns-in-Err-Full-clause-too_long g c = λ is.
    let format = vote_format g.G.Codec.format g.D.Codec.format in
    subst (λ v. IsTooLongFor format g.L.Log.is_too_small v.log (raised v.contents v.unwritten
    (fields_of c.args.owner.now) c.args.floor c.args.finalization.now)) c.self.view_is
    (too_long format g.D.PartialEq.eq g.L.Log.is_settled g.L.Log.written
    c.self.inside.log c.self.inside.written (contents_of c.self.inside.kept) (c.self.invariant.1 c.if-not-self.false)
    (fields_of c.args.owner.now) c.args.floor c.args.finalization.now
    (contents_of c.in-Ok.raised.kept) (c.in-Ok.ensures.kept
    ∙ ap (λ vs. left_by_floor (fields_of c.args.owner.now) c.args.floor c.args.finalization.now vs c.deref.result.now) c.as_slice-votes.ensures
    ∙ ap (λ its. left_by_floor (fields_of c.args.owner.now) c.args.floor c.args.finalization.now c.self.inside.kept.votes its) c.deref.ensures.value)
    g.L.Log.is_too_small c.deref-2.result.now
    (subst (λ t. IsText format t (contents_of c.in-Ok.raised.kept)) (sym c.deref-2.ensures.value) c.in-Ok.ensures.text)
    (c.in-Err-Full.ensures.full (ap (λ e. Err e) c.in-Err-Full.field-0-is)))
