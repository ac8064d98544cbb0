use Rattle.batcher_round.proofs.Words.{◌≡◌, ◌∙◌, Bool, true, false, not, is_some, ap, sym, refl, arith, Proposal, Notarization, Finalization}
use Rattle.batcher_round.proofs.Words.{same_proposal-refl, ProposalState, Unknown, LeadersProposal, FixedProposal, proposal_of, updated, same_selected}
use Rattle.batcher_round.proofs.Words.{replaces, of_kind, replaced_by, fixed_now, room_after, none_came, fixes_alone, within_alone, fixes_both, within_both}
use Rattle.batcher_round.proofs.Words.{once_kept, kinds_kept}
use Rattle.batcher_round.proofs.round.ballots.fix_proposal.Goals as goal

some_fixed : {D : Type 0} (s : ProposalState D) (p : Proposal D)
    → is_some (proposal_of (updated s (FixedProposal p))) ≡ true
some_fixed Unknown p = refl
some_fixed (LeadersProposal q) p = refl
some_fixed (FixedProposal q) p = refl

module _ {D : Type 0} (same : D → D → Bool) (reflexive : (a : D) → same a a ≡ true) where
  unchanged : (s : ProposalState D) → false
      ≡ not (same_selected same (proposal_of s) (proposal_of s))
  unchanged Unknown = refl
  unchanged (LeadersProposal p) = ap not (sym (same_proposal-refl same reflexive p))
  unchanged (FixedProposal p) = ap not (sym (same_proposal-refl same reflexive p))

pub restore-requires-clause-proposals : goal.restore-requires-clause-proposals
restore-requires-clause-proposals g c = refl

pub restore-requires-clause-selected : goal.restore-requires-clause-selected
restore-requires-clause-selected g c =
    ap (λ s. is_some (proposal_of s)) c.set_proposal-update.ensures.sets.selection_is ∙ some_fixed c.args.verifier.now.holds.selection c.in-Some.proposal

pub restore-requires-clause-kinds : goal.restore-requires-clause-kinds
restore-requires-clause-kinds g c = kinds_kept c.args.tracker.now.holds Notarization _ c.iter_kept.ensures.each c.iter_kept.ensures.votes

pub restore-requires-clause-once : goal.restore-requires-clause-once
restore-requires-clause-once g c = once_kept c.args.tracker.now.holds Notarization _ c.iter_kept.ensures.each c.iter_kept.ensures.votes

pub restore-requires-clause-none_wait : goal.restore-requires-clause-none_wait
restore-requires-clause-none_wait g c = c.set_proposal-update.ensures.none_wait c.if-update.true Notarization refl

pub restore-requires-clause-room : goal.restore-requires-clause-room
restore-requires-clause-room g c =
    let same = g.D.PartialEq.eq in
    let old = c.args.verifier.now.holds in
    let u = c.set_proposal-update in
    let replaced : replaces same old.selection c.in-Some.proposal
    ≡ true = sym (replaced_by same g.met.D.Digest.identical g.met.D.Eq.laws.refl old.selection u.new.self.holds.selection c.in-Some.proposal u.result.changed
    u.result.replaced u.ensures.sets.selection_is u.ensures.changed u.ensures.replaced) ∙ c.if-update.true in
    room_after same c.in-Some.proposal (of_kind old.certified Notarization) _ (proposal_of u.new.self.holds.selection) _
    (of_kind c.args.tracker.now.holds.kept Notarization) (of_kind c.args.verifier.now.pending_room Notarization) _
    (u.ensures.sets.buffers Notarization).certified (ap proposal_of u.ensures.sets.selection_is ∙ fixed_now same old.selection c.in-Some.proposal replaced)
    c.iter_kept.ensures.votes
    (u.ensures.room.pending Notarization) (c.requires c.in-Some.proposal c.in-Some.is replaced Notarization refl)

pub restore-requires-then-update-clause-proposals :
    goal.restore-requires-then-update-clause-proposals
restore-requires-then-update-clause-proposals g c = refl

pub restore-requires-then-update-clause-selected : goal.restore-requires-then-update-clause-selected
restore-requires-then-update-clause-selected g c =
    ap (λ s. is_some (proposal_of s)) (c.restore.ensures.selection ∙ c.set_proposal-update.ensures.sets.selection_is)
    ∙ some_fixed c.args.verifier.now.holds.selection c.in-Some.proposal

pub restore-requires-then-update-clause-kinds : goal.restore-requires-then-update-clause-kinds
restore-requires-then-update-clause-kinds g c = kinds_kept c.args.tracker.now.holds Finalization _ c.iter_kept-then-update.ensures.each
    c.iter_kept-then-update.ensures.votes

pub restore-requires-then-update-clause-once : goal.restore-requires-then-update-clause-once
restore-requires-then-update-clause-once g c = once_kept c.args.tracker.now.holds Finalization _ c.iter_kept-then-update.ensures.each
    c.iter_kept-then-update.ensures.votes

pub restore-requires-then-update-clause-none_wait :
    goal.restore-requires-then-update-clause-none_wait
restore-requires-then-update-clause-none_wait g c =
    none_came g.D.PartialEq.eq c.set_proposal-update.new.self.holds c.restore.new.self.holds Finalization (c.restore.ensures.buffers Finalization)
    (c.set_proposal-update.ensures.none_wait c.if-update.true Finalization refl)

pub restore-requires-then-update-clause-room : goal.restore-requires-then-update-clause-room
restore-requires-then-update-clause-room g c =
    let same = g.D.PartialEq.eq in
    let old = c.args.verifier.now.holds in
    let u = c.set_proposal-update in
    let replaced : replaces same old.selection c.in-Some.proposal
    ≡ true = sym (replaced_by same g.met.D.Digest.identical g.met.D.Eq.laws.refl old.selection u.new.self.holds.selection c.in-Some.proposal u.result.changed
    u.result.replaced u.ensures.sets.selection_is u.ensures.changed u.ensures.replaced) ∙ c.if-update.true in
    room_after same c.in-Some.proposal (of_kind old.certified Finalization) _ (proposal_of c.restore.new.self.holds.selection) _
    (of_kind c.args.tracker.now.holds.kept Finalization) (of_kind c.args.verifier.now.pending_room Finalization) _
    ((c.restore.ensures.buffers Finalization).certified ∙ (u.ensures.sets.buffers Finalization).certified)
    (ap proposal_of (c.restore.ensures.selection ∙ u.ensures.sets.selection_is) ∙ fixed_now same old.selection c.in-Some.proposal replaced)
    c.iter_kept-then-update.ensures.votes
    (omega (arith, u.ensures.room.pending Finalization, c.restore.ensures.room.pending Finalization refl))
    (c.requires c.in-Some.proposal c.in-Some.is replaced Finalization refl)

pub returns-then-update-clause-fixes : goal.returns-then-update-clause-fixes
returns-then-update-clause-fixes g c =
    let same = g.D.PartialEq.eq in
    let old = c.args.verifier.now.holds in
    let u = c.set_proposal-update in
    let replaced : replaces same old.selection c.in-Some.proposal
    ≡ true = sym (replaced_by same g.met.D.Digest.identical g.met.D.Eq.laws.refl old.selection u.new.self.holds.selection c.in-Some.proposal u.result.changed
    u.result.replaced u.ensures.sets.selection_is u.ensures.changed u.ensures.replaced) ∙ c.if-update.true in
    let r = c.restore.ensures in
    let s = c.restore-then-update.ensures in
    rw c.in-Some.is
    (fixes_both same c.args.tracker.now.holds old u.new.self.holds c.in-Some.proposal u.ensures.sets c.restore.new.self.holds
    c.restore-then-update.new.self.holds
    replaced _ _ c.iter_kept.ensures.votes c.iter_kept-then-update.ensures.votes
    r.leader r.selection r.buffers s.leader s.selection s.buffers)

pub returns-else-update-clause-fixes : goal.returns-else-update-clause-fixes
returns-else-update-clause-fixes g c =
    let same = g.D.PartialEq.eq in
    let old = c.args.verifier.now.holds in
    let u = c.set_proposal-update in
    let replaced : replaces same old.selection c.in-Some.proposal
    ≡ false = sym (replaced_by same g.met.D.Digest.identical g.met.D.Eq.laws.refl old.selection u.new.self.holds.selection c.in-Some.proposal u.result.changed
    u.result.replaced u.ensures.sets.selection_is u.ensures.changed u.ensures.replaced) ∙ c.if-update.false in
    rw c.in-Some.is (fixes_alone same c.args.tracker.now.holds old u.new.self.holds c.in-Some.proposal u.ensures.sets replaced)

pub returns-then-update-clause-within : goal.returns-then-update-clause-within
returns-then-update-clause-within g c =
    let same = g.D.PartialEq.eq in
    let old = c.args.verifier.now.holds in
    let u = c.set_proposal-update in
    let replaced : replaces same old.selection c.in-Some.proposal
    ≡ true = sym (replaced_by same g.met.D.Digest.identical g.met.D.Eq.laws.refl old.selection u.new.self.holds.selection c.in-Some.proposal u.result.changed
    u.result.replaced u.ensures.sets.selection_is u.ensures.changed u.ensures.replaced) ∙ c.if-update.true in
    let r = c.restore.ensures in
    let s = c.restore-then-update.ensures in
    λ within. within_both same c.args.tracker.now.holds old u.new.self.holds c.in-Some.proposal u.ensures.sets c.restore.new.self.holds
    c.restore-then-update.new.self.holds
    replaced _ _ c.iter_kept.ensures.votes c.iter_kept-then-update.ensures.votes
    r.leader r.selection r.buffers s.leader s.selection s.buffers (u.ensures.none_wait c.if-update.true) c.iter_kept.ensures.each
    c.iter_kept-then-update.ensures.each within

pub returns-else-update-clause-within : goal.returns-else-update-clause-within
returns-else-update-clause-within g c =
    let h = c.set_proposal-update.new.self.holds in
    λ within. within_alone g.D.PartialEq.eq c.args.tracker.now.holds c.args.verifier.now.holds h c.in-Some.proposal c.set_proposal-update.ensures.sets within

pub returns-then-update-clause-changed : goal.returns-then-update-clause-changed
returns-then-update-clause-changed g c =
    let same = g.D.PartialEq.eq in
    let old = c.args.verifier.now.holds in
    c.set_proposal-update.ensures.changed ∙ ap (λ s. not (same_selected same (proposal_of old.selection) (proposal_of s)))
    (sym (c.restore-then-update.ensures.selection ∙ c.restore.ensures.selection))

pub returns-then-update-clause-room : goal.returns-then-update-clause-room
returns-then-update-clause-room g c =
    λ kind. omega (
      arith,
      c.set_proposal-update.ensures.room.verified kind,
      c.restore.ensures.room.verified kind,
      c.restore-then-update.ensures.room.verified
          kind,
    )

pub returns-then-update-clause-same : goal.returns-then-update-clause-same
returns-then-update-clause-same g c =
    let one = c.set_proposal-update.ensures.same in
    let two = c.restore.ensures.same in
    let three = c.restore-then-update.ensures.same in
    (three.0 ∙ two.0 ∙ one.0, three.1 ∙ two.1 ∙ one.1, three.2 ∙ two.2 ∙ one.2)

pub returns-else-update-clause-changed : goal.returns-else-update-clause-changed
returns-else-update-clause-changed g c = c.set_proposal-update.ensures.changed

pub returns-else-update-clause-room : goal.returns-else-update-clause-room
returns-else-update-clause-room g c = c.set_proposal-update.ensures.room.verified

pub returns-else-update-clause-same : goal.returns-else-update-clause-same
returns-else-update-clause-same g c = c.set_proposal-update.ensures.same

pub returns-in_default-clause-fixes : goal.returns-in_default-clause-fixes
returns-in_default-clause-fixes g c = rw c.in_default.is refl

pub returns-in_default-clause-changed : goal.returns-in_default-clause-changed
returns-in_default-clause-changed g c = unchanged g.D.PartialEq.eq g.met.D.Eq.laws.refl c.args.verifier.now.holds.selection

pub returns-in_default-clause-within : goal.returns-in_default-clause-within
returns-in_default-clause-within g c = λ within. within

pub returns-in_default-clause-room : goal.returns-in_default-clause-room
returns-in_default-clause-room g c = λ kind. omega arith

pub returns-in_default-clause-same : goal.returns-in_default-clause-same
returns-in_default-clause-same g c = (refl, refl, refl)
