use Rattle.batcher_round.proofs.Words.{rules, true, false, ◌≡◌, ◌∙◌, ap, subst, sym, IfSome, Some, is_some, Result, Ok, Err, IfOk, Nullification, Finalization}
use Rattle.batcher_round.proofs.Words.{RoundState, IfGiven, certifies_itself, round_config, ConstructCall, ConstructAnswer, AfterConstruct, TriesHeld}
use Rattle.batcher_round.proofs.Words.{is_ready_in, Simulates, laws_by, construct_simulates, construct_needed, round_with}
use Rattle.batcher_round.proofs.Construction.{same_round, notarization_tried, nullification_tried, finalization_tried}
use Rattle.batcher_round.proofs.round.Round.try_construct.Goals as goal

pub returns-in_err-batch-clause-no_memory : goal.returns-in_err-batch-clause-no_memory
returns-in_err-batch-clause-no_memory g c = search rules

pub returns-in_err-batch-2-clause-no_memory : goal.returns-in_err-batch-2-clause-no_memory
returns-in_err-batch-2-clause-no_memory g c = search rules

pub returns-clause-no_memory : goal.returns-clause-no_memory
returns-clause-no_memory g c = search rules

pub returns-in-Some-clause-certifies : goal.returns-in-Some-clause-certifies
returns-in-Some-clause-certifies g c = search rules

pub returns-in-Some-2-clause-certifies : goal.returns-in-Some-2-clause-certifies
returns-in-Some-2-clause-certifies g c = search rules

pub returns-clause-certifies : goal.returns-clause-certifies
returns-clause-certifies g c = search rules

pub returns-in-Some-clause-step : goal.returns-in-Some-clause-step
returns-in-Some-clause-step g c =
    let b = c.self.inside in
    let x = round_config g.S.Scheme.meaning g.S.PublicKey.Ord.cmp g.S.Signature.PartialEq.eq g.D.PartialEq.eq (round_with b.ballots) in
    let old = (round_with b.ballots).holds in
    let s = g.R.Rng.stream c.args.rng.now in
    let one = c.construct.new.self in
    let ready = sym c.in_ok-batch.ensures.ready ∙ ap is_some c.in-Some.is in
    let tries = rw c.in-Some.is at c.in_ok-batch.ensures.tries in
    rw (← c.self.view_is)
    (notarization_tried x old (round_with one).holds s (g.R.Rng.stream c.construct.new.rng) b.forwarded c.in-Some.batch ready tries)

pub returns-in-Some-2-clause-step : goal.returns-in-Some-2-clause-step
returns-in-Some-2-clause-step g c =
    let b = c.self.inside in
    let x = round_config g.S.Scheme.meaning g.S.PublicKey.Ord.cmp g.S.Signature.PartialEq.eq g.D.PartialEq.eq (round_with b.ballots) in
    let old = (round_with b.ballots).holds in
    let s = g.R.Rng.stream c.args.rng.now in
    let one = c.construct.new.self in
    let no_first = sym c.in_ok-batch.ensures.ready ∙ ap is_some c.in_default.is in
    let idle = c.in_ok-batch.ensures.none no_first in
    let same_one : round_with one ≡ round_with b.ballots = same_round b.ballots one idle.1 (c.in_ok-batch.ensures.all.0, c.in_ok-batch.ensures.all.1) in
    let new = (round_with c.construct-2.new.self).holds in
    let t = g.R.Rng.stream c.construct-2.new.rng in
    let ready : is_ready_in x old Nullification ≡ true =
    subst (λ r. is_ready_in (round_config g.S.Scheme.meaning g.S.PublicKey.Ord.cmp g.S.Signature.PartialEq.eq g.D.PartialEq.eq r)
    r.holds Nullification ≡ true) same_one
    (sym c.in_ok-batch-2.ensures.ready ∙ ap is_some c.in-Some-2.is) in
    let tries_one = rw c.in-Some-2.is at c.in_ok-batch-2.ensures.tries in
    let tries : TriesHeld x old Nullification s c.in-Some-2.batch new t =
    subst (λ z. TriesHeld x old Nullification z c.in-Some-2.batch new t) idle.2
    (subst (λ r. TriesHeld (round_config g.S.Scheme.meaning g.S.PublicKey.Ord.cmp g.S.Signature.PartialEq.eq g.D.PartialEq.eq r)
    r.holds Nullification (g.R.Rng.stream c.construct.new.rng) c.in-Some-2.batch new t) same_one tries_one) in
    rw (← c.self.view_is) (nullification_tried x old new s t b.forwarded c.in-Some-2.batch no_first ready tries)

pub returns-clause-step : goal.returns-clause-step
returns-clause-step g c =
    let b = c.self.inside in
    let x = round_config g.S.Scheme.meaning g.S.PublicKey.Ord.cmp g.S.Signature.PartialEq.eq g.D.PartialEq.eq (round_with b.ballots) in
    let old = (round_with b.ballots).holds in
    let s = g.R.Rng.stream c.args.rng.now in
    let one = c.construct.new.self in
    let no_first = sym c.in_ok-batch.ensures.ready ∙ ap is_some c.in_default.is in
    let idle = c.in_ok-batch.ensures.none no_first in
    let same_one : round_with one ≡ round_with b.ballots = same_round b.ballots one idle.1 (c.in_ok-batch.ensures.all.0, c.in_ok-batch.ensures.all.1) in
    let two = c.construct-2.new.self in
    let no_second = sym c.in_ok-batch-2.ensures.ready ∙ ap is_some c.in_default-2.is in
    let idle_two = c.in_ok-batch-2.ensures.none no_second in
    let same_two : round_with two ≡ round_with b.ballots = same_round one two idle_two.1
    (c.in_ok-batch-2.ensures.all.0, c.in_ok-batch-2.ensures.all.1) ∙ same_one in
    let new = (round_with c.construct-3.new.self).holds in
    let t = g.R.Rng.stream c.construct-3.new.rng in
    let result = c.construct-3.result in
    let not_second : is_ready_in x old Nullification ≡ false =
    subst (λ r. is_ready_in (round_config g.S.Scheme.meaning g.S.PublicKey.Ord.cmp g.S.Signature.PartialEq.eq g.D.PartialEq.eq r)
    r.holds Nullification ≡ false) same_one no_second in
    let stream = idle_two.2 ∙ idle.2 in
    let ready : IfOk result (λ given. is_some given ≡ is_ready_in x old Finalization) =
    subst (λ r. IfOk result (λ given. is_some given ≡ is_ready_in (round_config g.S.Scheme.meaning g.S.PublicKey.Ord.cmp g.S.Signature.PartialEq.eq
    g.D.PartialEq.eq r)
    r.holds Finalization)) same_two c.construct-3.ensures.ready in
    let tries : IfGiven result (λ batch. TriesHeld x old Finalization s batch new t) =
    subst (λ z. IfGiven result (λ batch. TriesHeld x old Finalization z batch new t)) stream
    (subst (λ r. IfGiven result (λ batch. TriesHeld (round_config g.S.Scheme.meaning g.S.PublicKey.Ord.cmp g.S.Signature.PartialEq.eq g.D.PartialEq.eq r)
    r.holds Finalization (g.R.Rng.stream c.construct-2.new.rng) batch new t)) same_two
    c.construct-3.ensures.tries) in
    let none : is_ready_in x old Finalization ≡ false → (new ≡ old) × (t ≡ s) = λ h.
    let last = c.construct-3.ensures.none
    (subst (λ r. is_ready_in (round_config g.S.Scheme.meaning g.S.PublicKey.Ord.cmp g.S.Signature.PartialEq.eq g.D.PartialEq.eq r)
    r.holds Finalization ≡ false) (sym same_two) h) in
    (ap (λ r. r.holds) (same_round two c.construct-3.new.self last.1 (c.construct-3.ensures.all.0, c.construct-3.ensures.all.1) ∙ same_two), last.2 ∙ stream) in
    rw (← c.self.view_is) (finalization_tried x old new s t b.forwarded result no_first not_second ready tries none)

pub returns-in-Some-clause-meets : goal.returns-in-Some-clause-meets
returns-in-Some-clause-meets g c =
    let step = rw (← c.self.view_is) at (returns-in-Some-clause-step g c) in
    let certifies = rw (← c.self.view_is) at (returns-in-Some-clause-certifies g c) in
    rw (← c.self.view_is) (λ past represents.
    construct_simulates _ (laws_by _ (g.met.S.Scheme.lawful _) c.self.invariant g.met.D.Digest.identical g.met.D.Eq.laws.refl) past _ _ _
    (Some c.in-Some.batch) _ represents c.in_ok-batch.ensures.sound certifies step)

pub returns-in-Some-2-clause-meets : goal.returns-in-Some-2-clause-meets
returns-in-Some-2-clause-meets g c =
    let step = rw (← c.self.view_is) at (returns-in-Some-2-clause-step g c) in
    let certifies = rw (← c.self.view_is) at (returns-in-Some-2-clause-certifies g c) in
    rw (← c.self.view_is) (λ past represents.
    construct_simulates _ (laws_by _ (g.met.S.Scheme.lawful _) c.self.invariant g.met.D.Digest.identical g.met.D.Eq.laws.refl) past _ _ _
    (Some c.in-Some-2.batch) _ represents c.in_ok-batch.ensures.sound certifies step)

both_ok : {X Y : Type 0} (r : Result X Y) (P Q R : X → Type 0) → ((v : X) → P v → Q v → R v)
    → IfOk r P → IfOk r Q → IfOk r R
both_ok (Ok v) P Q R by p q = by v p q
both_ok (Err e) P Q R by p q = tt

pub returns-clause-meets : goal.returns-clause-meets
returns-clause-meets g c =
    let b = c.self.inside in
    let v = b.ballots.verifier in
    let x = round_config g.S.Scheme.meaning g.S.PublicKey.Ord.cmp g.S.Signature.PartialEq.eq g.D.PartialEq.eq (round_with b.ballots) in
    let s = g.R.Rng.stream c.args.rng.now in
    let laws = laws_by x (g.met.S.Scheme.lawful v.scheme) c.self.invariant g.met.D.Digest.identical g.met.D.Eq.laws.refl in
    let held : RoundState g.row.S-Signature.Denot g.row.D.Denot = record { tracked = b.ballots.tracker.holds; buffered = v.holds; forwarded = b.forwarded } in
    let after = c.construct-3.new.self in
    let new : RoundState g.row.S-Signature.Denot g.row.D.Denot = record {
      tracked = after.tracker.holds;
      buffered = after.verifier.holds;
      forwarded =
          b.forwarded;
    } in
    let t = g.R.Rng.stream c.construct-3.new.rng in
    let step = rw (← c.self.view_is) at (returns-clause-step g c) in
    let certifies = rw (← c.self.view_is) at (returns-clause-certifies g c) in
    rw (← c.self.view_is)
    (λ past represents.
    both_ok c.construct-3.result (λ answer. AfterConstruct x held s answer new t)
    (λ answer. IfSome answer (λ batch. IfSome batch.certificate (λ certificate. certifies_itself x.meaning certificate ≡ true)))
    (λ answer. Simulates x past held (ConstructCall, ConstructAnswer answer) new)
    (λ answer step certifies. construct_simulates x laws past held s t answer new represents c.in_ok-batch.ensures.sound certifies step) step certifies)

pub returns-in_err-batch-clause-needed : goal.returns-in_err-batch-clause-needed
returns-in_err-batch-clause-needed g c =
    let no_memory = rw (← c.self.view_is) at (returns-in_err-batch-clause-no_memory g c) in
    rw (← c.self.view_is) (λ past represents.
    construct_needed _ (laws_by _ (g.met.S.Scheme.lawful _) c.self.invariant g.met.D.Digest.identical g.met.D.Eq.laws.refl) past _
    c.from_residual.result represents no_memory)

pub returns-in_err-batch-2-clause-needed : goal.returns-in_err-batch-2-clause-needed
returns-in_err-batch-2-clause-needed g c =
    let no_memory = rw (← c.self.view_is) at (returns-in_err-batch-2-clause-no_memory g c) in
    rw (← c.self.view_is) (λ past represents.
    construct_needed _ (laws_by _ (g.met.S.Scheme.lawful _) c.self.invariant g.met.D.Digest.identical g.met.D.Eq.laws.refl) past _
    c.from_residual-in_err-batch-2.result represents no_memory)

pub returns-clause-needed : goal.returns-clause-needed
returns-clause-needed g c =
    let no_memory = rw (← c.self.view_is) at (returns-clause-no_memory g c) in
    rw (← c.self.view_is) (λ past represents.
    construct_needed _ (laws_by _ (g.met.S.Scheme.lawful _) c.self.invariant g.met.D.Digest.identical g.met.D.Eq.laws.refl) past _
    c.construct-3.result represents no_memory)
