use Rattle.batcher_round.proofs.Words.{◌≡◌, ◌∙◌, ◌&&◌, not, ap, subst, refl, true, false, is_some, sym, Kind, Notarization, Finalization, is_kind}
use Rattle.batcher_round.proofs.Words.{kind_certified, proposal_of, same_selected, ReleasesKind, is_released_in, MayFix, CompletesKind, config, right_certified}
use Rattle.batcher_round.proofs.Words.{within_complete, no_room_with, room_left}
use Rattle.batcher_round.proofs.round.ballots.Ballots.complete.Goals as goal
use Rattle.batcher_round.proofs.Words.{finalization_for}

pub invariant_of-self-2 : goal.invariant_of-self-2
invariant_of-self-2 g c =
    let b = c.self.inside in
    let same = g.D.PartialEq.eq in
    let kind = c.kind-kind.result in
    let made = c.in_ok-reserve_to_fix.ensures in
    let completes : CompletesKind same b.verifier.holds kind c.complete_kind.new.self.holds = subst
    (λ h. CompletesKind same h kind c.complete_kind.new.self.holds) made.grows.2 c.complete_kind.ensures.completes in
    let f = c.fix_proposal-changed.ensures in
    let new = c.fix_proposal-changed.new.verifier.holds in
    let within = f.within
    (within_complete (g.S.Scheme.meaning b.verifier.scheme) same b.tracker c.release.new.self b.verifier.holds c.complete_kind.new.self.holds new
    b.verifier.quorum kind c.proposal-proposal.result (proposal_of new.selection) c.self.invariant completes f.fixes) in
    rw (f.same.0, c.complete_kind.ensures.same.0, made.grows.0.0, f.same.2, c.complete_kind.ensures.same.2, made.grows.0.2)
    (right_certified (g.S.Scheme.meaning b.verifier.scheme) same b.tracker c.release.new.self b.verifier.holds c.complete_kind.new.self.holds
    c.fix_proposal-changed.new.verifier.holds b.verifier.quorum kind
    c.proposal-proposal.result _ c.self.invariant completes f.fixes within c.release.ensures.participants c.release.ensures.mode
    c.release.ensures.releases c.release.ensures.others
    (λ h. ap is_some c.proposal-proposal.ensures
    ∙ finalization_for c.args.certificate.now (ap (λ k. is_kind k Finalization) (sym c.kind-kind.ensures) ∙ h)))

pub fix_proposal-changed-requires : goal.fix_proposal-changed-requires
fix_proposal-changed-requires g c =
    let b = c.self.inside in
    let same = g.D.PartialEq.eq in
    let kind = c.kind-kind.result in
    let made = c.in_ok-reserve_to_fix.ensures in
    let completes : CompletesKind same b.verifier.holds kind c.complete_kind.new.self.holds = subst
    (λ h. CompletesKind same h kind c.complete_kind.new.self.holds) made.grows.2 c.complete_kind.ensures.completes in
    room_left same b.verifier.holds c.complete_kind.new.self.holds kind b.tracker.holds.kept c.proposal-proposal.result _ _ _ _ completes
    c.complete_kind.ensures.room made.room

pub returns-clause-step : goal.returns-clause-step
returns-clause-step g c =
    let b = c.self.inside in
    let same = g.D.PartialEq.eq in
    let made = c.in_ok-reserve_to_fix.ensures in
    let old = b.verifier.holds in
    let certificate = c.args.certificate.now in
    let completed = c.complete_kind.new.self.holds in
    let new = c.fix_proposal-changed.new.verifier.holds in
    let completes : CompletesKind same old (kind_certified certificate) completed =
    subst (λ h. CompletesKind same h (kind_certified certificate) completed) made.grows.2
    (subst (λ k. CompletesKind same c.reserve_to_fix.new.verifier.holds k completed) c.kind-kind.ensures c.complete_kind.ensures.completes) in
    let before : proposal_of completed.selection ≡ proposal_of old.selection = ap proposal_of completes.selection in
    let answer = c.is_selected_anew.ensures ∙ ap (λ k. is_kind Notarization k && c.fix_proposal-changed.result) c.kind-kind.ensures
    ∙ ap (λ d. is_kind Notarization (kind_certified certificate) && d)
    (c.fix_proposal-changed.ensures.changed ∙ ap (λ s. not (same_selected same s (proposal_of new.selection))) before) in
    let selected = c.copied.ensures ∙ c.proposal.ensures in
    let releases = λ (kind : Kind).
    subst (λ k. ReleasesKind same b.tracker.holds c.release.new.self.holds (proposal_of new.selection)
    (is_kind k kind && is_released_in b.tracker.mode true) kind)
    c.kind-kind.ensures
    (subst (λ s. ReleasesKind same b.tracker.holds c.release.new.self.holds s
    (is_kind c.kind-kind.result kind && is_released_in b.tracker.mode true) kind) selected
    (c.release.ensures.releases kind)) in
    rw (← c.self.view_is)
    (record {
      answer_is = answer;
      forwarded = refl;
      completed = completed;
      completes = completes;
      fixes = subst (λ p. MayFix same completed b.tracker.holds.kept p new) c.proposal-proposal.ensures c.fix_proposal-changed.ensures.fixes;
      releases = releases;
    })

pub returns-in_err-reserve_to_fix-clause-no_memory :
    goal.returns-in_err-reserve_to_fix-clause-no_memory
returns-in_err-reserve_to_fix-clause-no_memory g c =
    let b = c.self.inside in
    let x = config (g.S.Scheme.meaning b.verifier.scheme) g.S.PublicKey.Ord.cmp g.S.Signature.PartialEq.eq g.D.PartialEq.eq b.verifier.number b.tracker.mode in
    rw (← c.self.view_is)
    (λ none.
    let wrong =
    c.in_err-reserve_to_fix.ensures.no_memory
    (λ fixed is takes kind has own full. no_room_with x (record { tracked = b.tracker.holds; buffered = b.verifier.holds; forwarded = false }) fixed kind _
    takes has c.args.certificate.now _ _ c.kind-kind.ensures c.proposal-proposal.ensures is own (none kind)) in
    absurd (cc))
