use Rattle.batcher_round.proofs.Words.{◌≡◌, ◌∙◌, Some, None, sym, Result, Ok, Err, Option, none-some}
use Rattle.batcher_votes.specs.Verdicts as votes
use Rattle.batcher_round.proofs.Words.{IfGiven, judged_lawful, no_stream, round_config, kind_tried, laws_by, tried_ready, construct_needed, round_with}
use Rattle.batcher_round.proofs.Assembling.{assembled_by_verdicts}
use Rattle.batcher_round.proofs.Otherwise.{next_of, kind_of_next, none_next, step_otherwise, followed_otherwise}
use Rattle.batcher_round.proofs.round.Round.conclude.Goals as goal

-- what holds of each batch that is given
each_given : {B E : Type 0} (r : Result (Option B) E) (P Q : B → Type 0)
    → ((b : B) → P b → Q b) → IfGiven r P → IfGiven r Q
each_given (Ok (Some b)) P Q by h = by b h
each_given (Ok None) P Q by h = tt
each_given (Err e) P Q by h = tt

both_given : {B E : Type 0} (r : Result (Option B) E) (P Q R : B → Type 0)
    → ((b : B) → P b → Q b → R b) → IfGiven r P → IfGiven r Q → IfGiven r R
both_given (Ok (Some b)) P Q R by h k = by b h k
both_given (Ok None) P Q R by h k = tt
both_given (Err e) P Q R by h k = tt

pub returns-in-None-clause-not_stale : goal.returns-in-None-clause-not_stale
returns-in-None-clause-not_stale g c = λ looks.
    let r = c.args.self.now in
    let x = round_config g.S.Scheme.meaning g.S.PublicKey.Ord.cmp g.S.Signature.PartialEq.eq g.D.PartialEq.eq r in
    absurd (none_next x r.holds c.args.subject c.args.list.now (sym c.kind_tried.ensures ∙ c.in-None.is) looks)

pub returns-in-Some-clause-looks_at : goal.returns-in-Some-clause-looks_at
returns-in-Some-clause-looks_at g c =
    let b = c.self.inside in
    let x = round_config g.S.Scheme.meaning g.S.PublicKey.Ord.cmp g.S.Signature.PartialEq.eq g.D.PartialEq.eq (round_with b.ballots) in
    let first : kind_tried x (round_with b.ballots).holds ≡ Some c.in-Some.kind = sym (rw (← c.self.view_is) at c.kind_tried.ensures) ∙ c.in-Some.is in
    rw (← c.self.view_is)
    (each_given c.conclude.result _ _ (λ batch looks. next_of x (round_with b.ballots).holds c.in-Some.kind c.args.subject c.args.list.now first looks)
    c.conclude.ensures.looks_at)

pub returns-in-Some-clause-not_stale : goal.returns-in-Some-clause-not_stale
returns-in-Some-clause-not_stale g c = λ looks.
    let b = c.self.inside in
    let x = round_config g.S.Scheme.meaning g.S.PublicKey.Ord.cmp g.S.Signature.PartialEq.eq g.D.PartialEq.eq (round_with b.ballots) in
    let first : kind_tried x (round_with b.ballots).holds ≡ Some c.in-Some.kind = sym (rw (← c.self.view_is) at c.kind_tried.ensures) ∙ c.in-Some.is in
    c.conclude.ensures.not_stale
    (kind_of_next x (round_with b.ballots).holds c.in-Some.kind c.args.subject c.args.list.now first
    (tried_ready x (round_with b.ballots).holds c.in-Some.kind first) (rw (← c.self.view_is) at looks))

pub returns-in-Some-clause-step : goal.returns-in-Some-clause-step
returns-in-Some-clause-step g c =
    let b = c.self.inside in
    let x = round_config g.S.Scheme.meaning g.S.PublicKey.Ord.cmp g.S.Signature.PartialEq.eq g.D.PartialEq.eq (round_with b.ballots) in
    let y = votes.judged x.meaning in
    let first : kind_tried x (round_with b.ballots).holds ≡ Some c.in-Some.kind = sym (rw (← c.self.view_is) at c.kind_tried.ensures) ∙ c.in-Some.is in
    rw (← c.self.view_is)
    (each_given c.conclude.result _ _ (λ batch tries. step_otherwise x y.left_by_verifying y.assembled_at_once (judged_lawful x.meaning
    (g.met.S.Scheme.lawful _))
    b.forwarded (round_with b.ballots).holds (round_with c.conclude.new.self).holds c.in-Some.kind batch first tries)
    c.conclude.ensures.tries)

pub returns-in-Some-clause-meets : goal.returns-in-Some-clause-meets
returns-in-Some-clause-meets g c =
    let b = c.self.inside in
    let x = round_config g.S.Scheme.meaning g.S.PublicKey.Ord.cmp g.S.Signature.PartialEq.eq g.D.PartialEq.eq (round_with b.ballots) in
    let y = votes.judged x.meaning in
    let step = rw (← c.self.view_is) at (returns-in-Some-clause-step g c) in
    rw (← c.self.view_is)
    (both_given c.conclude.result _ _ _ (λ batch stepped good past represents.
    followed_otherwise x y.left_by_verifying y.assembled_at_once (judged_lawful x.meaning (g.met.S.Scheme.lawful _))
    (laws_by _ (g.met.S.Scheme.lawful _) c.self.invariant g.met.D.Digest.identical g.met.D.Eq.laws.refl) past _ batch _
    represents c.conclude.ensures.sound good stepped)
    step c.conclude.ensures.certifies)

pub returns-in-Some-clause-assembled : goal.returns-in-Some-clause-assembled
returns-in-Some-clause-assembled g c =
    let b = c.self.inside in
    let x = round_config g.S.Scheme.meaning g.S.PublicKey.Ord.cmp g.S.Signature.PartialEq.eq g.D.PartialEq.eq (round_with b.ballots) in
    let step = rw (← c.self.view_is) at (returns-in-Some-clause-step g c) in
    rw (← c.self.view_is)
    (each_given c.conclude.result _ _ (λ batch stepped. assembled_by_verdicts x _ _ batch no_stream no_stream (stepped no_stream))
    step)

pub returns-in-Some-clause-needed : goal.returns-in-Some-clause-needed
returns-in-Some-clause-needed g c =
    let first = sym (rw (← c.self.view_is) at c.kind_tried.ensures) ∙ c.in-Some.is in
    rw (← c.self.view_is) (λ past represents.
    construct_needed _ (laws_by _ (g.met.S.Scheme.lawful _) c.self.invariant g.met.D.Digest.identical g.met.D.Eq.laws.refl) past _
    c.conclude.result represents (λ none. absurd (none-some _ (sym none ∙ first))))
