use Rattle.batcher_round.proofs.Words.{None, rules, ◌==◌, ◌≡◌, ◌&&◌, ◌∙◌, not, true, false, Some, ap, subst, sym, refl, MatchBool, not-true, kind_of}
use Rattle.batcher_round.proofs.Words.{of_kind, RoundState, selected_in, AddsVote, config, sender_in, block_for, mismatch_reason, admission_of}
use Rattle.batcher_round.proofs.Words.{first_added, first_unopposed, mismatched, objected, same_number, unopposed_admission, unopposed_after}
use Rattle.batcher_round.proofs.round.Round.take_in.Goals as goal

pub returns-in_default-clause-step : goal.returns-in_default-clause-step
returns-in_default-clause-step g c = search rules

pub returns-then-ne-clause-step : goal.returns-then-ne-clause-step
returns-then-ne-clause-step g c =
    let keys : c.participants-participants.result.now ≡ (g.S.Scheme.meaning c.self.inside.ballots.verifier.scheme).participants =
    c.participants-participants.ensures ∙ ap (λ v. (g.S.Scheme.meaning v.scheme).participants) c.verifier.ensures.verifier in
    let other = not-true (c.in-Some.index.0 == c.signer-signer.result.0) (sym c.ne.ensures ∙ c.if-ne.true) in
    rw (← c.self.view_is)
    (mismatched _ _ c.args.sender c.in-Some.index c.args.vote _ (rw (← keys, ← c.in-Some.is) (sym c.index_near.ensures.index))
    (ap (λ n. c.in-Some.index.0 == n) (ap (λ p. p.0) (sym c.signer-signer.ensures)) ∙ other)
    (c.blocked-then-ne.ensures ∙ ap (λ r. block_for r None) (c.mismatch_reason.ensures ∙ ap mismatch_reason c.kind.ensures)))

pub returns-then-is_first-clause-step : goal.returns-then-is_first-clause-step
returns-then-is_first-clause-step g c =
    let keys : c.participants-participants.result.now ≡ (g.S.Scheme.meaning c.self.inside.ballots.verifier.scheme).participants =
    c.participants-participants.ensures ∙ ap (λ v. (g.S.Scheme.meaning v.scheme).participants) c.verifier.ensures.verifier in
    let b = c.self.inside in
    let v = b.ballots.verifier in
    let x = config (g.S.Scheme.meaning v.scheme) g.S.PublicKey.Ord.cmp g.S.Signature.PartialEq.eq g.D.PartialEq.eq v.number b.ballots.tracker.mode in
    let held : RoundState g.row.S-Signature.Denot g.row.D.Denot = record { tracked = b.ballots.tracker.holds; buffered = v.holds; forwarded = b.forwarded } in
    let sent : sender_in x c.args.sender ≡ Some c.in-Some.index = rw (← keys, ← c.in-Some.is) (sym c.index_near.ensures.index) in
    let own = same_number c.in-Some.index.0 c.signer-signer.result.0 (sym c.ne.ensures ∙ c.if-ne.false) ∙ ap (λ p. p.0) c.signer-signer.ensures in
    let none = first_unopposed x held c.args.vote (sym c.is_first.ensures ∙ c.if-is_first.true) in
    let new : RoundState g.row.S-Signature.Denot g.row.D.Denot = record
    { tracked = c.admit.new.self.tracker.holds; buffered = c.admit.new.self.verifier.holds; forwarded = b.forwarded } in
    let selected = selected_in b.ballots.verifier.holds in
    let vote = c.args.vote in
    let outcome = c.in_ok-admit.field-0 in
    let answered : admission_of outcome vote ≡ c.added.result =
    c.in_ok-admit.ensures.admits.0 ∙ first_added x held vote (sym c.is_first.ensures ∙ c.if-is_first.true) selected ∙ sym c.added.ensures in
    let is_eligible : MatchBool (c.added.result.added && not (of_kind b.ballots.tracker.holds.compacted (kind_of vote)))
    (AddsVote x.same_digest b.ballots.verifier.holds vote false new.buffered) (new.buffered ≡ b.ballots.verifier.holds) =
    subst (λ answer. MatchBool (answer.added && not (of_kind b.ballots.tracker.holds.compacted (kind_of vote)))
    (AddsVote x.same_digest b.ballots.verifier.holds vote false new.buffered) (new.buffered ≡ b.ballots.verifier.holds)) answered
    c.in_ok-admit.ensures.admits.2 in
    rw (← c.self.view_is)
    (unopposed_after x held c.args.sender c.in-Some.index vote sent own none new c.added.result
    (sym answered ∙ c.in_ok-admit.ensures.admits.0) c.in_ok-admit.ensures.admits.1 is_eligible refl)

pub returns-in-Some-rejection-clause-step : goal.returns-in-Some-rejection-clause-step
returns-in-Some-rejection-clause-step g c =
    let keys : c.participants-participants.result.now ≡ (g.S.Scheme.meaning c.self.inside.ballots.verifier.scheme).participants =
    c.participants-participants.ensures ∙ ap (λ v. (g.S.Scheme.meaning v.scheme).participants) c.verifier.ensures.verifier in
    let b = c.self.inside in
    let h = c.rejection.ensures (g.S.Scheme.meaning b.ballots.verifier.scheme) b.ballots.verifier.number b.ballots.tracker.mode in
    let own = same_number c.in-Some.index.0 c.signer-signer.result.0 (sym c.ne.ensures ∙ c.if-ne.false) ∙ ap (λ p. p.0) c.signer-signer.ensures in
    rw (← c.self.view_is)
    (objected _ _ c.args.sender c.in-Some.index c.args.vote c.in-Some-rejection.answer
    (rw (← keys, ← c.in-Some.is) (sym c.index_near.ensures.index)) own
    (rw (← c.in-Some-rejection.is) (sym h)))

pub returns-in_ok-outcome-in-None-clause-step : goal.returns-in_ok-outcome-in-None-clause-step
returns-in_ok-outcome-in-None-clause-step g c =
    let keys : c.participants-participants.result.now ≡ (g.S.Scheme.meaning c.self.inside.ballots.verifier.scheme).participants =
    c.participants-participants.ensures ∙ ap (λ v. (g.S.Scheme.meaning v.scheme).participants) c.verifier.ensures.verifier in
    let b = c.self.inside in
    let v = b.ballots.verifier in
    let x = config (g.S.Scheme.meaning v.scheme) g.S.PublicKey.Ord.cmp g.S.Signature.PartialEq.eq g.D.PartialEq.eq v.number b.ballots.tracker.mode in
    let held : RoundState g.row.S-Signature.Denot g.row.D.Denot = record { tracked = b.ballots.tracker.holds; buffered = v.holds; forwarded = b.forwarded } in
    let sent : sender_in x c.args.sender ≡ Some c.in-Some.index = rw (← keys, ← c.in-Some.is) (sym c.index_near.ensures.index) in
    let own = same_number c.in-Some.index.0 c.signer-signer.result.0 (sym c.ne.ensures ∙ c.if-ne.false) ∙ ap (λ p. p.0) c.signer-signer.ensures in
    let none = sym (c.rejection.ensures (g.S.Scheme.meaning b.ballots.verifier.scheme) b.ballots.verifier.number b.ballots.tracker.mode) ∙ c.in-None.is in
    let new : RoundState g.row.S-Signature.Denot g.row.D.Denot = record
    { tracked = c.admit-in-None.new.self.tracker.holds; buffered = c.admit-in-None.new.self.verifier.holds; forwarded = b.forwarded } in
    let vote = c.args.vote in
    let outcome = c.in_ok-outcome-in-None.outcome in
    let answered : admission_of outcome vote ≡ c.admission_of.result = sym c.admission_of.ensures in
    let is_eligible : MatchBool (c.admission_of.result.added && not (of_kind b.ballots.tracker.holds.compacted (kind_of vote)))
    (AddsVote x.same_digest b.ballots.verifier.holds vote false new.buffered) (new.buffered ≡ b.ballots.verifier.holds) =
    subst (λ answer. MatchBool (answer.added && not (of_kind b.ballots.tracker.holds.compacted (kind_of vote)))
    (AddsVote x.same_digest b.ballots.verifier.holds vote false new.buffered) (new.buffered ≡ b.ballots.verifier.holds)) answered
    c.in_ok-outcome-in-None.ensures.admits.2 in
    rw (← c.self.view_is)
    (unopposed_after x held c.args.sender c.in-Some.index vote sent own none new c.admission_of.result
    (sym answered ∙ c.in_ok-outcome-in-None.ensures.admits.0)
    c.in_ok-outcome-in-None.ensures.admits.1 is_eligible refl)

pub returns-in_err-admit-clause-no_memory : goal.returns-in_err-admit-clause-no_memory
returns-in_err-admit-clause-no_memory g c = search rules

pub returns-in_err-outcome-in-None-clause-no_memory :
    goal.returns-in_err-outcome-in-None-clause-no_memory
returns-in_err-outcome-in-None-clause-no_memory g c =
    let keys : c.participants-participants.result.now ≡ (g.S.Scheme.meaning c.self.inside.ballots.verifier.scheme).participants =
    c.participants-participants.ensures ∙ ap (λ v. (g.S.Scheme.meaning v.scheme).participants) c.verifier.ensures.verifier in
    let b = c.self.inside in
    let v = b.ballots.verifier in
    let x = config (g.S.Scheme.meaning v.scheme) g.S.PublicKey.Ord.cmp g.S.Signature.PartialEq.eq g.D.PartialEq.eq v.number b.ballots.tracker.mode in
    let held : RoundState g.row.S-Signature.Denot g.row.D.Denot = record { tracked = b.ballots.tracker.holds; buffered = v.holds; forwarded = b.forwarded } in
    let sent : sender_in x c.args.sender ≡ Some c.in-Some.index = rw (← keys, ← c.in-Some.is) (sym c.index_near.ensures.index) in
    let own = same_number c.in-Some.index.0 c.signer-signer.result.0 (sym c.ne.ensures ∙ c.if-ne.false) ∙ ap (λ p. p.0) c.signer-signer.ensures in
    let none = sym (c.rejection.ensures (g.S.Scheme.meaning b.ballots.verifier.scheme) b.ballots.verifier.number b.ballots.tracker.mode) ∙ c.in-None.is in
    rw (← c.self.view_is)
    (λ not_added.
    let wrong : false ≡ true = c.in_err-outcome-in-None.ensures.no_memory
    (ap (λ a. a.added) (sym (unopposed_admission x held c.args.sender c.in-Some.index c.args.vote sent own none)) ∙ not_added) in
    absurd (cc))
