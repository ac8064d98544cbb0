use Rattle.batcher_round.proofs.Words.{◌≡◌, ◌∙◌, true, nat_lt, Ok, arith, ap, refl, sym, nat_tests, kind_of, signer_of, subject_of, attestation_of, MayFix}
use Rattle.batcher_round.proofs.Words.{BuffersOnlyKept, observed, is_seen, config, own_result, fixed_by, not_buffered}
use Rattle.batcher_round.proofs.OwnVotes.{held_by, recordable, kept_new, accepted, right_accepted, right_kept}
use Rattle.batcher_round.proofs.round.ballots.Ballots.accept.Goals as goal

pub unwrap-requires : goal.unwrap-requires
unwrap-requires g c =
    let b = c.self.inside in
    let same = g.D.PartialEq.eq in
    let m = g.S.Scheme.meaning b.verifier.scheme in
    let x = config m g.S.PublicKey.Ord.cmp g.S.Signature.PartialEq.eq same b.verifier.number b.tracker.mode in
    let vote = c.args.vote.now in
    let outcome = c.in_ok-outcome.outcome in
    let told = rw (← c.self.view_is) at c.own_result.ensures in
    let result : own_result x (held_by b.tracker b.verifier.holds) vote ≡ Ok outcome = sym told ∙ c.in_ok-outcome.was in
    let roomy = c.in_ok-reserve_to_record.ensures in
    recordable x b.tracker b.verifier.holds vote outcome result c.record_at.result roomy.room c.record_at.ensures.with_room
    (λ seen. c.record_at.ensures.repeated (ap (λ h. is_seen (observed h (kind_of vote) (signer_of vote))) roomy.grows.2 ∙ seen))

pub add_reserved-requires-clause-fresh : goal.add_reserved-requires-clause-fresh
add_reserved-requires-clause-fresh g c =
    let b = c.self.inside in
    let same = g.D.PartialEq.eq in
    let m = g.S.Scheme.meaning b.verifier.scheme in
    let x = config m g.S.PublicKey.Ord.cmp g.S.Signature.PartialEq.eq same b.verifier.number b.tracker.mode in
    let vote = c.args.vote.now in
    let outcome = c.in_ok-outcome.outcome in
    let told = rw (← c.self.view_is) at c.own_result.ensures in
    let result : own_result x (held_by b.tracker b.verifier.holds) vote ≡ Ok outcome = sym told ∙ c.in_ok-outcome.was in
    let made = c.in_ok-make_room.ensures in
    let reserved = c.in_ok-reserve_to_fix.ensures in
    let roomy = c.in_ok-reserve_to_record.ensures in
    let fixed = c.fix_proposal.new.verifier.holds in
    let fixes_it : MayFix same b.verifier.holds b.tracker.holds.kept (fixed_by vote) fixed =
    rw (made.holds, reserved.grows.2, roomy.grows.2, c.fixed_by-proposal.ensures) at c.fix_proposal.ensures.fixes in
    let attests = rw (← c.self.view_is) at c.requires.attests in
    let signer = (g.met.S.Scheme.lawful b.verifier.scheme).signers_in_range (subject_of vote) (attestation_of vote) attests in
    let below : nat_lt (signer_of vote) c.reserve_to_record.new.tracker.participants ≡ true =
    rw (roomy.grows.0.1, c.self.invariant.bound) (grind (arith, nat_tests, signer)) in
    let took = rw c.unwrap.ensures at c.record_at.ensures.outcome in
    let within_old : BuffersOnlyKept c.reserve_to_record.new.tracker.holds c.make_room.new.self.holds =
    rw (made.holds, reserved.grows.2, roomy.grows.2) c.self.invariant.within in
    let within : BuffersOnlyKept b.tracker.holds fixed = rw roomy.grows.2 at (c.fix_proposal.ensures.within within_old) in
    let s = c.fix_proposal.ensures.same in
    let new = kept_new x b.tracker b.verifier.holds vote outcome result c.reserve_to_record.new.tracker fixed _ _ roomy.grows.2 fixes_it below
    c.proposal-selected.ensures took
    (sym c.is_kept-2.ensures ∙ c.if-is_kept.true) in
    let none = rw roomy.grows.2 at new.none in
    not_buffered fixed (kind_of vote) (signer_of vote) (rw none at (within (kind_of vote) (signer_of vote)))

pub invariant_of-self-then-is_kept : goal.invariant_of-self-then-is_kept
invariant_of-self-then-is_kept g c =
    let b = c.self.inside in
    let same = g.D.PartialEq.eq in
    let m = g.S.Scheme.meaning b.verifier.scheme in
    let x = config m g.S.PublicKey.Ord.cmp g.S.Signature.PartialEq.eq same b.verifier.number b.tracker.mode in
    let vote = c.args.vote.now in
    let outcome = c.in_ok-outcome.outcome in
    let told = rw (← c.self.view_is) at c.own_result.ensures in
    let result : own_result x (held_by b.tracker b.verifier.holds) vote ≡ Ok outcome = sym told ∙ c.in_ok-outcome.was in
    let made = c.in_ok-make_room.ensures in
    let reserved = c.in_ok-reserve_to_fix.ensures in
    let roomy = c.in_ok-reserve_to_record.ensures in
    let fixed = c.fix_proposal.new.verifier.holds in
    let fixes_it : MayFix same b.verifier.holds b.tracker.holds.kept (fixed_by vote) fixed =
    rw (made.holds, reserved.grows.2, roomy.grows.2, c.fixed_by-proposal.ensures) at c.fix_proposal.ensures.fixes in
    let attests = rw (← c.self.view_is) at c.requires.attests in
    let signer = (g.met.S.Scheme.lawful b.verifier.scheme).signers_in_range (subject_of vote) (attestation_of vote) attests in
    let below : nat_lt (signer_of vote) c.reserve_to_record.new.tracker.participants ≡ true =
    rw (roomy.grows.0.1, c.self.invariant.bound) (grind (arith, nat_tests, signer)) in
    let took = rw c.unwrap.ensures at c.record_at.ensures.outcome in
    let within_old : BuffersOnlyKept c.reserve_to_record.new.tracker.holds c.make_room.new.self.holds =
    rw (made.holds, reserved.grows.2, roomy.grows.2) c.self.invariant.within in
    let within : BuffersOnlyKept b.tracker.holds fixed = rw roomy.grows.2 at (c.fix_proposal.ensures.within within_old) in
    let s = c.fix_proposal.ensures.same in
    let records = rw c.unwrap.ensures at c.record_at.ensures.records in
    rw (c.add_reserved.ensures.same.0, s.0, made.same.0, reserved.grows.0.0, c.add_reserved.ensures.same.2, s.2, made.same.2, reserved.grows.0.2)
    (right_kept x b.tracker b.verifier.holds vote outcome result c.reserve_to_record.new.tracker fixed _ _ roomy.grows.2 fixes_it below
    c.proposal-selected.ensures took
    c.record_at.new.self records b.verifier.quorum c.self.invariant within roomy.grows.0 c.record_at.ensures.participants c.record_at.ensures.mode
    c.add_reserved.new.self.holds (sym c.is_kept-2.ensures ∙ c.if-is_kept.true) c.add_reserved.ensures.adds)

pub invariant_of-self-else-is_kept : goal.invariant_of-self-else-is_kept
invariant_of-self-else-is_kept g c =
    let b = c.self.inside in
    let same = g.D.PartialEq.eq in
    let m = g.S.Scheme.meaning b.verifier.scheme in
    let x = config m g.S.PublicKey.Ord.cmp g.S.Signature.PartialEq.eq same b.verifier.number b.tracker.mode in
    let vote = c.args.vote.now in
    let outcome = c.in_ok-outcome.outcome in
    let told = rw (← c.self.view_is) at c.own_result.ensures in
    let result : own_result x (held_by b.tracker b.verifier.holds) vote ≡ Ok outcome = sym told ∙ c.in_ok-outcome.was in
    let made = c.in_ok-make_room.ensures in
    let reserved = c.in_ok-reserve_to_fix.ensures in
    let roomy = c.in_ok-reserve_to_record.ensures in
    let fixed = c.fix_proposal.new.verifier.holds in
    let fixes_it : MayFix same b.verifier.holds b.tracker.holds.kept (fixed_by vote) fixed =
    rw (made.holds, reserved.grows.2, roomy.grows.2, c.fixed_by-proposal.ensures) at c.fix_proposal.ensures.fixes in
    let attests = rw (← c.self.view_is) at c.requires.attests in
    let signer = (g.met.S.Scheme.lawful b.verifier.scheme).signers_in_range (subject_of vote) (attestation_of vote) attests in
    let below : nat_lt (signer_of vote) c.reserve_to_record.new.tracker.participants ≡ true =
    rw (roomy.grows.0.1, c.self.invariant.bound) (grind (arith, nat_tests, signer)) in
    let took = rw c.unwrap.ensures at c.record_at.ensures.outcome in
    let within_old : BuffersOnlyKept c.reserve_to_record.new.tracker.holds c.make_room.new.self.holds =
    rw (made.holds, reserved.grows.2, roomy.grows.2) c.self.invariant.within in
    let within : BuffersOnlyKept b.tracker.holds fixed = rw roomy.grows.2 at (c.fix_proposal.ensures.within within_old) in
    let s = c.fix_proposal.ensures.same in
    let records = rw c.unwrap.ensures at c.record_at.ensures.records in
    rw (s.0, made.same.0, reserved.grows.0.0, s.2, made.same.2, reserved.grows.0.2)
    (right_accepted x b.tracker b.verifier.holds vote outcome result c.reserve_to_record.new.tracker fixed _ _ roomy.grows.2 fixes_it below
    c.proposal-selected.ensures took
    c.record_at.new.self records b.verifier.quorum c.self.invariant within roomy.grows.0 c.record_at.ensures.participants c.record_at.ensures.mode)

pub returns-then-is_kept-clause-step : goal.returns-then-is_kept-clause-step
returns-then-is_kept-clause-step g c =
    let b = c.self.inside in
    let same = g.D.PartialEq.eq in
    let m = g.S.Scheme.meaning b.verifier.scheme in
    let x = config m g.S.PublicKey.Ord.cmp g.S.Signature.PartialEq.eq same b.verifier.number b.tracker.mode in
    let vote = c.args.vote.now in
    let outcome = c.in_ok-outcome.outcome in
    let told = rw (← c.self.view_is) at c.own_result.ensures in
    let result : own_result x (held_by b.tracker b.verifier.holds) vote ≡ Ok outcome = sym told ∙ c.in_ok-outcome.was in
    let made = c.in_ok-make_room.ensures in
    let reserved = c.in_ok-reserve_to_fix.ensures in
    let roomy = c.in_ok-reserve_to_record.ensures in
    let fixed = c.fix_proposal.new.verifier.holds in
    let fixes_it : MayFix same b.verifier.holds b.tracker.holds.kept (fixed_by vote) fixed =
    rw (made.holds, reserved.grows.2, roomy.grows.2, c.fixed_by-proposal.ensures) at c.fix_proposal.ensures.fixes in
    let attests = rw (← c.self.view_is) at c.requires.attests in
    let signer = (g.met.S.Scheme.lawful b.verifier.scheme).signers_in_range (subject_of vote) (attestation_of vote) attests in
    let below : nat_lt (signer_of vote) c.reserve_to_record.new.tracker.participants ≡ true =
    rw (roomy.grows.0.1, c.self.invariant.bound) (grind (arith, nat_tests, signer)) in
    let took = rw c.unwrap.ensures at c.record_at.ensures.outcome in
    let records = rw c.unwrap.ensures at c.record_at.ensures.records in
    let kept = sym c.is_kept-2.ensures ∙ c.if-is_kept.true in
    rw (← c.self.view_is)
    (accepted x b.tracker b.verifier.holds vote outcome result c.reserve_to_record.new.tracker fixed _ _ roomy.grows.2 fixes_it below
    c.proposal-selected.ensures took
    c.record_at.new.self records c.add_reserved.new.self.holds (rw kept c.add_reserved.ensures.adds))

pub returns-else-is_kept-clause-step : goal.returns-else-is_kept-clause-step
returns-else-is_kept-clause-step g c =
    let b = c.self.inside in
    let same = g.D.PartialEq.eq in
    let m = g.S.Scheme.meaning b.verifier.scheme in
    let x = config m g.S.PublicKey.Ord.cmp g.S.Signature.PartialEq.eq same b.verifier.number b.tracker.mode in
    let vote = c.args.vote.now in
    let outcome = c.in_ok-outcome.outcome in
    let told = rw (← c.self.view_is) at c.own_result.ensures in
    let result : own_result x (held_by b.tracker b.verifier.holds) vote ≡ Ok outcome = sym told ∙ c.in_ok-outcome.was in
    let made = c.in_ok-make_room.ensures in
    let reserved = c.in_ok-reserve_to_fix.ensures in
    let roomy = c.in_ok-reserve_to_record.ensures in
    let fixed = c.fix_proposal.new.verifier.holds in
    let fixes_it : MayFix same b.verifier.holds b.tracker.holds.kept (fixed_by vote) fixed =
    rw (made.holds, reserved.grows.2, roomy.grows.2, c.fixed_by-proposal.ensures) at c.fix_proposal.ensures.fixes in
    let attests = rw (← c.self.view_is) at c.requires.attests in
    let signer = (g.met.S.Scheme.lawful b.verifier.scheme).signers_in_range (subject_of vote) (attestation_of vote) attests in
    let below : nat_lt (signer_of vote) c.reserve_to_record.new.tracker.participants ≡ true =
    rw (roomy.grows.0.1, c.self.invariant.bound) (grind (arith, nat_tests, signer)) in
    let took = rw c.unwrap.ensures at c.record_at.ensures.outcome in
    let records = rw c.unwrap.ensures at c.record_at.ensures.records in
    let kept = sym c.is_kept-2.ensures ∙ c.if-is_kept.false in
    rw (← c.self.view_is)
    (accepted x b.tracker b.verifier.holds vote outcome result c.reserve_to_record.new.tracker fixed _ _ roomy.grows.2 fixes_it below
    c.proposal-selected.ensures took
    c.record_at.new.self records fixed (rw kept refl))
