use Rattle.batcher_votes.proofs.Words.{◌≡◌, ◌∙◌, true, false, sym, of_kind, is_released_in, marks_of, votes_in}
use Rattle.batcher_votes.proofs.TrackerLemmas.ReleaseKind.{released_now, released_beside, released_fits, released_none, released_before}
use Rattle.batcher_votes.proofs.votes.VoteTracker.release.Goals as goal
use Rattle.batcher_votes.proofs.votes.VoteTracker.release.Goals.{else-is_releasing-via-then-is_releasing+else-not-of, else-is_releasing-via-else-is_releasing}

pub invariant_of-self : goal.invariant_of-self
invariant_of-self g c =
    let changed = rw c.as_ref.ensures.value at c.release_each.ensures.items in
    let full : of_kind (marks_of c.self.inside.compacted) c.args.released ≡ false = sym c.of.ensures ∙ c.if-not-of.true in
    rw c.release_each.ensures.participants (record {
      few = c.self.invariant.few;
      kinds =
          released_fits g.D.PartialEq.eq (marks_of c.self.inside.compacted) _ (votes_in c.self.inside.kept) _ c.self.inside.entries.items _ c.args.selected
          c.args.released c.with-self-inside.ensures c.clear.ensures changed full c.self.invariant.kinds;
    })

pub returns-then-not-of-clause-releases : goal.returns-then-not-of-clause-releases
returns-then-not-of-clause-releases g c = λ kind.
    let releasing : is_released_in c.self.inside.mode true ≡ true = sym c.is_releasing.ensures ∙ c.if-is_releasing.true in
    let changed = rw c.as_ref.ensures.value at c.release_each.ensures.items in
    let full : of_kind (marks_of c.self.inside.compacted) c.args.released ≡ false = sym c.of.ensures ∙ c.if-not-of.true in
    rw (← c.self.view_is)
    (released_now g.D.PartialEq.eq (marks_of c.self.inside.compacted) _ (votes_in c.self.inside.kept) _ c.self.inside.entries.items _ c.args.selected
    c.args.released c.with-self-inside.ensures c.clear.ensures changed full c.self.invariant.kinds
    (is_released_in c.self.inside.mode true) releasing kind)

pub returns-then-not-of-clause-others : goal.returns-then-not-of-clause-others
returns-then-not-of-clause-others g c = λ kind other.
    let changed = rw c.as_ref.ensures.value at c.release_each.ensures.items in
    let full : of_kind (marks_of c.self.inside.compacted) c.args.released ≡ false = sym c.of.ensures ∙ c.if-not-of.true in
    rw (← c.self.view_is)
    (released_beside g.D.PartialEq.eq (marks_of c.self.inside.compacted) _ (votes_in c.self.inside.kept) _ c.self.inside.entries.items _ c.args.selected
    c.args.released c.with-self-inside.ensures c.clear.ensures changed full c.self.invariant.kinds kind other)

pub returns-else-is_releasing-clause-releases : goal.returns-else-is_releasing-clause-releases
returns-else-is_releasing-clause-releases g c = λ kind.
    rw (← c.self.view_is)
    (elim c.else-is_releasing.branch [
      | else-is_releasing-via-then-is_releasing+else-not-of w ↦
          released_before g.D.PartialEq.eq (marks_of c.self.inside.compacted) (votes_in c.self.inside.kept) c.self.inside.entries.items c.args.selected
          c.args.released (is_released_in c.self.inside.mode true) (sym w.of.ensures ∙ w.if-not-of.false) kind
      | else-is_releasing-via-else-is_releasing w ↦
          released_none g.D.PartialEq.eq (marks_of c.self.inside.compacted) (votes_in c.self.inside.kept) c.self.inside.entries.items c.args.selected
          c.args.released (is_released_in c.self.inside.mode true) (sym c.is_releasing.ensures ∙ w.if-is_releasing.false) kind
    ])
