use Rattle.batcher_round.proofs.Words.{◌≡◌, ◌∙◌, Option, Some, None, sym, IfSome}
use Rattle.batcher_votes.specs.Verdicts as votes
use Rattle.batcher_round.proofs.Words.{judged_with_lawful, round_config, kind_tried, laws_by, tried_ready, round_with}
use Rattle.batcher_round.proofs.Otherwise.{next_of, kind_of_next, quorum_of_next, none_next, step_otherwise, followed_otherwise}
use Rattle.batcher_round.proofs.round.Round.conclude_with.Goals as goal

-- what holds of a batch that is given
if_given : {B : Type 0} (o : Option B) (P Q : B → Type 0) → ((b : B) → P b → Q b) → IfSome o P
    → IfSome o Q
if_given (Some b) P Q by h = by b h
if_given None P Q by h = tt

both_given : {B : Type 0} (o : Option B) (P Q R : B → Type 0) → ((b : B) → P b → Q b → R b)
    → IfSome o P → IfSome o Q → IfSome o R
both_given (Some b) P Q R by h k = by b h k
both_given None P Q R by h k = tt

pub returns-in-None-clause-not_stale : goal.returns-in-None-clause-not_stale
returns-in-None-clause-not_stale g c = λ looks enough.
    let r = c.args.self.now in
    let x = round_config g.S.Scheme.meaning g.S.PublicKey.Ord.cmp g.S.Signature.PartialEq.eq g.D.PartialEq.eq r in
    absurd (none_next x r.holds c.args.subject c.args.list.now (sym c.kind_tried.ensures ∙ c.in-None.is) looks)

pub returns-in-Some-clause-looks_at : goal.returns-in-Some-clause-looks_at
returns-in-Some-clause-looks_at g c = λ some.
    let b = c.self.inside in
    let x = round_config g.S.Scheme.meaning g.S.PublicKey.Ord.cmp g.S.Signature.PartialEq.eq g.D.PartialEq.eq (round_with b.ballots) in
    let first : kind_tried x (round_with b.ballots).holds ≡ Some c.in-Some.kind = sym (rw (← c.self.view_is) at c.kind_tried.ensures) ∙ c.in-Some.is in
    rw (← c.self.view_is)
    (next_of x (round_with b.ballots).holds c.in-Some.kind c.args.subject c.args.list.now first (c.conclude_with.ensures.looks_at some))

pub returns-in-Some-clause-not_stale : goal.returns-in-Some-clause-not_stale
returns-in-Some-clause-not_stale g c = λ looks enough.
    let b = c.self.inside in
    let x = round_config g.S.Scheme.meaning g.S.PublicKey.Ord.cmp g.S.Signature.PartialEq.eq g.D.PartialEq.eq (round_with b.ballots) in
    let first : kind_tried x (round_with b.ballots).holds ≡ Some c.in-Some.kind = sym (rw (← c.self.view_is) at c.kind_tried.ensures) ∙ c.in-Some.is in
    c.conclude_with.ensures.not_stale
    (kind_of_next x (round_with b.ballots).holds c.in-Some.kind c.args.subject c.args.list.now first
    (tried_ready x (round_with b.ballots).holds c.in-Some.kind first) (rw (← c.self.view_is) at looks))
    (quorum_of_next x (round_with b.ballots).holds c.in-Some.kind first (rw (← c.self.view_is) at enough))

pub returns-in-Some-clause-step : goal.returns-in-Some-clause-step
returns-in-Some-clause-step g c =
    let b = c.self.inside in
    let x = round_config g.S.Scheme.meaning g.S.PublicKey.Ord.cmp g.S.Signature.PartialEq.eq g.D.PartialEq.eq (round_with b.ballots) in
    let y = votes.judged_with x.meaning c.args.certificate in
    let first : kind_tried x (round_with b.ballots).holds ≡ Some c.in-Some.kind = sym (rw (← c.self.view_is) at c.kind_tried.ensures) ∙ c.in-Some.is in
    rw (← c.self.view_is)
    (if_given c.conclude_with.result _ _ (λ batch tries. step_otherwise x y.left_by_verifying y.assembled_at_once (judged_with_lawful x.meaning
    c.args.certificate (g.met.S.Scheme.lawful _))
    b.forwarded (round_with b.ballots).holds (round_with c.conclude_with.new.self).holds c.in-Some.kind batch first tries)
    c.conclude_with.ensures.tries)

pub returns-in-Some-clause-meets : goal.returns-in-Some-clause-meets
returns-in-Some-clause-meets g c =
    let b = c.self.inside in
    let x = round_config g.S.Scheme.meaning g.S.PublicKey.Ord.cmp g.S.Signature.PartialEq.eq g.D.PartialEq.eq (round_with b.ballots) in
    let y = votes.judged_with x.meaning c.args.certificate in
    let step = rw (← c.self.view_is) at (returns-in-Some-clause-step g c) in
    rw (← c.self.view_is)
    (both_given c.conclude_with.result _ _ _ (λ batch stepped good past represents.
    followed_otherwise x y.left_by_verifying y.assembled_at_once (judged_with_lawful x.meaning c.args.certificate (g.met.S.Scheme.lawful _))
    (laws_by _ (g.met.S.Scheme.lawful _) c.self.invariant g.met.D.Digest.identical g.met.D.Eq.laws.refl) past _ batch _
    represents c.conclude_with.ensures.sound good stepped)
    step c.conclude_with.ensures.certifies)
