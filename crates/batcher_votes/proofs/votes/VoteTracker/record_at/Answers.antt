use Rattle.batcher_votes.proofs.Words.{◌≡◌, ◌∙◌, true, false, nat_eq, length, find, ap, sym, refl, arith, rules, false≢true, lt-ltb, option_copied, signer_of}
use Rattle.batcher_votes.proofs.Words.{kind_of, of_kind, marks_of, entry_key, part, seen_in, has_index, compared, seen_outcome, is_selected_in, tested}
use Rattle.batcher_votes.proofs.Words.{tracked_by, votes_in}
use Rattle.batcher_votes.proofs.TrackerLemmas.PutEntry.{count_few}
use Rattle.batcher_votes.proofs.TrackerLemmas.RecordVote.{known_entry, seen_known, recorded_none, recorded_compared, recorded_full, tracked_compared}
use Rattle.batcher_votes.proofs.TrackerLemmas.RecordVote.{tracked_full, outcome_found, outcome_first, outcome_kept, seen_compacted}
use Rattle.batcher_votes.proofs.votes.VoteTracker.record_at.Goals as goal

pub returns-then-is_kept : goal.returns-then-is_kept
returns-then-is_kept g c =
    let marks = marks_of c.self.inside.compacted in
    let votes = votes_in c.self.inside.kept in
    let es = c.self.inside.entries.items in
    let vote = c.args.vote.now in
    let up = c.seen_at-seen.ensures.ascending in
    let place = rw (← c.self.view_is) at c.requires.place in
    let o = find (λ e. nat_eq (entry_key e) (signer_of c.args.vote.now)) c.self.inside.entries.items in
    let seen : c.seen_at-seen.result ≡ seen_in (kind_of c.args.vote.now)
    (find (λ e. nat_eq (entry_key e) (signer_of c.args.vote.now)) c.self.inside.entries.items)
    = c.seen_at-seen.ensures.seen (signer_of vote) place ∙ ap (λ k. seen_in k o) c.kind-kind.ensures in
    let in_range = lt-ltb _ _ (rw (← c.self.view_is) at c.requires.range) in
    let has = ap has_index (sym seen) ∙ sym c.is_kept.ensures ∙ c.if-is_kept.true in
    record {
      outcome =
          rw (← c.self.view_is)
          (outcome_kept g.D.PartialEq.eq marks votes es (option_copied c.args.proposal) vote up (λ kind. c.self.invariant.kinds kind) o refl has
          c.self.inside.entries.participants in_range);
      records = λ kind.
          rw (← c.self.view_is)
          (recorded_none g.D.PartialEq.eq marks votes es (option_copied c.args.proposal) vote up (λ kind. c.self.invariant.kinds kind) o refl has kind);
      err = search rules;
      participants = search rules;
      mode = search rules;
      known = search rules;
      repeated = search rules;
      with_room = search rules;
    }

pub returns-in_err-make_room_at-clause-known : goal.returns-in_err-make_room_at-clause-known
returns-in_err-make_room_at-clause-known g c =
    let marks = marks_of c.self.inside.compacted in
    let place = rw (← c.self.view_is) at c.requires.place in
    rw (← c.self.view_is)
    (λ known on. absurd (false≢true (c.in_err-make_room_at.ensures.no_memory
    (known_entry marks (votes_in c.self.inside.kept) c.self.inside.entries.items (signer_of c.args.vote.now) c.args.place _ c.seen_at-seen.ensures.ascending
    place known)
    (λ off. absurd (false≢true (sym off ∙ c.of-is_compacted.ensures ∙ ap (of_kind marks) c.kind-kind.ensures ∙ on))))))

pub returns-in_err-make_room_at-clause-repeated : goal.returns-in_err-make_room_at-clause-repeated
returns-in_err-make_room_at-clause-repeated g c =
    let marks = marks_of c.self.inside.compacted in
    let votes = votes_in c.self.inside.kept in
    let es = c.self.inside.entries.items in
    let vote = c.args.vote.now in
    let i = signer_of vote in
    let k = kind_of vote in
    let up = c.seen_at-seen.ensures.ascending in
    let place = rw (← c.self.view_is) at c.requires.place in
    let o = find (λ e. nat_eq (entry_key e) (signer_of c.args.vote.now)) c.self.inside.entries.items in
    let seen : c.seen_at-seen.result ≡ seen_in (kind_of c.args.vote.now)
    (find (λ e. nat_eq (entry_key e) (signer_of c.args.vote.now)) c.self.inside.entries.items)
    = c.seen_at-seen.ensures.seen i place ∙ ap (λ k. seen_in k o) c.kind-kind.ensures in
    let none = ap has_index (sym seen) ∙ sym c.is_kept.ensures ∙ c.if-is_kept.false in
    rw (← c.self.view_is)
    (λ before.
    let on = seen_compacted g.D.PartialEq.eq marks votes es (option_copied c.args.proposal) vote up (λ kind. c.self.invariant.kinds kind) o refl none before in
    let known = seen_known (tracked_by marks votes es) k i before in
    absurd (false≢true (c.in_err-make_room_at.ensures.no_memory (known_entry marks votes es i c.args.place _ up place known)
    (λ off. absurd (false≢true (sym off ∙ c.of-is_compacted.ensures ∙ ap (of_kind marks) c.kind-kind.ensures ∙ on))))))

pub invariant_of-self-then-is_compacted : goal.invariant_of-self-then-is_compacted
invariant_of-self-then-is_compacted g c =
    let marks = marks_of c.self.inside.compacted in
    let votes = votes_in c.self.inside.kept in
    let es = c.self.inside.entries.items in
    let vote = c.args.vote.now in
    let up = c.seen_at-seen.ensures.ascending in
    let place = rw (← c.self.view_is) at c.requires.place in
    let o = find (λ e. nat_eq (entry_key e) (signer_of c.args.vote.now)) c.self.inside.entries.items in
    let seen : c.seen_at-seen.result ≡ seen_in (kind_of c.args.vote.now)
    (find (λ e. nat_eq (entry_key e) (signer_of c.args.vote.now)) c.self.inside.entries.items)
    = c.seen_at-seen.ensures.seen (signer_of vote) place ∙ ap (λ k. seen_in k o) c.kind-kind.ensures in
    let on : of_kind (marks_of c.self.inside.compacted) (kind_of c.args.vote.now) ≡ true =
    ap (of_kind marks) (sym c.kind-kind.ensures) ∙ sym c.of-is_compacted.ensures ∙ c.if-is_compacted.true in
    let tests : c.is_selected-is_selected.result ≡ tested g.D.PartialEq.eq (option_copied c.args.proposal) c.args.vote.now =
    c.is_selected-is_selected.ensures ∙ ap (is_selected_in g.D.PartialEq.eq (option_copied c.args.proposal)) c.proposal.ensures in
    let next : c.compared-next.result ≡ compared (tested g.D.PartialEq.eq (option_copied c.args.proposal) c.args.vote.now) (seen_in (kind_of c.args.vote.now) o)
    = c.compared-next.ensures ∙ ap (λ t. compared t c.seen_at-seen.result) tests
    ∙ ap (compared (tested g.D.PartialEq.eq (option_copied c.args.proposal) c.args.vote.now)) seen in
    let left = rw (c.make_room_at.ensures.items, c.signer.ensures, c.kind-kind.ensures, next) at c.put_at.ensures.items in
    let bound = c.put_at.ensures.participants ∙ c.make_room_at.ensures.participants in
    rw (bound, c.make_room_at.ensures.votes, left)
    (tracked_compared g.D.PartialEq.eq marks votes es (option_copied c.args.proposal) vote up on c.self.inside.entries.participants c.self.invariant)

pub returns-then-is_compacted : goal.returns-then-is_compacted
returns-then-is_compacted g c =
    let marks = marks_of c.self.inside.compacted in
    let votes = votes_in c.self.inside.kept in
    let es = c.self.inside.entries.items in
    let vote = c.args.vote.now in
    let k = kind_of vote in
    let up = c.seen_at-seen.ensures.ascending in
    let place = rw (← c.self.view_is) at c.requires.place in
    let o = find (λ e. nat_eq (entry_key e) (signer_of c.args.vote.now)) c.self.inside.entries.items in
    let seen : c.seen_at-seen.result ≡ seen_in (kind_of c.args.vote.now)
    (find (λ e. nat_eq (entry_key e) (signer_of c.args.vote.now)) c.self.inside.entries.items)
    = c.seen_at-seen.ensures.seen (signer_of vote) place ∙ ap (λ k. seen_in k o) c.kind-kind.ensures in
    let in_range = lt-ltb _ _ (rw (← c.self.view_is) at c.requires.range) in
    let on : of_kind (marks_of c.self.inside.compacted) (kind_of c.args.vote.now) ≡ true =
    ap (of_kind marks) (sym c.kind-kind.ensures) ∙ sym c.of-is_compacted.ensures ∙ c.if-is_compacted.true in
    let tests : c.is_selected-is_selected.result ≡ tested g.D.PartialEq.eq (option_copied c.args.proposal) c.args.vote.now =
    c.is_selected-is_selected.ensures ∙ ap (is_selected_in g.D.PartialEq.eq (option_copied c.args.proposal)) c.proposal.ensures in
    let given : c.outcome.result
    ≡ seen_outcome true (tested g.D.PartialEq.eq (option_copied c.args.proposal) c.args.vote.now) (seen_in (kind_of c.args.vote.now) o)
    = c.outcome.ensures ∙ ap (λ t. seen_outcome true t c.seen_at-seen.result) tests
    ∙ ap (seen_outcome true (tested g.D.PartialEq.eq (option_copied c.args.proposal) c.args.vote.now)) seen in
    let next : c.compared-next.result ≡ compared (tested g.D.PartialEq.eq (option_copied c.args.proposal) c.args.vote.now) (seen_in (kind_of c.args.vote.now) o)
    = c.compared-next.ensures ∙ ap (λ t. compared t c.seen_at-seen.result) tests
    ∙ ap (compared (tested g.D.PartialEq.eq (option_copied c.args.proposal) c.args.vote.now)) seen in
    let left = rw (c.make_room_at.ensures.items, c.signer.ensures, c.kind-kind.ensures, next) at c.put_at.ensures.items in
    record {
      outcome =
          rw (← c.self.view_is)
          (given ∙ ap (λ b. seen_outcome b (tested g.D.PartialEq.eq (option_copied c.args.proposal) vote) (seen_in k o)) (sym on)
          ∙ outcome_found g.D.PartialEq.eq marks votes es (option_copied c.args.proposal) vote up (λ kind. c.self.invariant.kinds kind) o refl
          c.self.inside.entries.participants in_range);
      records = λ kind.
          rw (← c.self.view_is)
          (recorded_compared g.D.PartialEq.eq marks votes es (option_copied c.args.proposal) vote up _ _ c.make_room_at.ensures.votes left on kind);
      err = search rules;
      participants = search rules;
      mode = search rules;
      known = search rules;
      repeated = search rules;
      with_room = search rules;
    }

pub overflow_cast-next : goal.overflow_cast-next
overflow_cast-next g c =
    let kind = c.kind-kind.result in
    let kept = c.len.ensures ∙ ap (λ v. length (of_kind v c.kind-kind.result)) c.make_room_at.ensures.votes in
    let counted = (c.self.invariant.kinds c.kind-kind.result).counted in
    let few = count_few (λ e. has_index (part c.kind-kind.result e)) c.self.inside.entries.items in
    omega (arith, kept, counted, few, c.seen_at-seen.ensures.few, c.self.invariant.few)

pub invariant_of-self-2 : goal.invariant_of-self-2
invariant_of-self-2 g c =
    let marks = marks_of c.self.inside.compacted in
    let votes = votes_in c.self.inside.kept in
    let es = c.self.inside.entries.items in
    let vote = c.args.vote.now in
    let up = c.seen_at-seen.ensures.ascending in
    let place = rw (← c.self.view_is) at c.requires.place in
    let o = find (λ e. nat_eq (entry_key e) (signer_of c.args.vote.now)) c.self.inside.entries.items in
    let seen : c.seen_at-seen.result ≡ seen_in (kind_of c.args.vote.now)
    (find (λ e. nat_eq (entry_key e) (signer_of c.args.vote.now)) c.self.inside.entries.items)
    = c.seen_at-seen.ensures.seen (signer_of vote) place ∙ ap (λ k. seen_in k o) c.kind-kind.ensures in
    let none = ap has_index (sym seen) ∙ sym c.is_kept.ensures ∙ c.if-is_kept.false in
    let off : of_kind (marks_of c.self.inside.compacted) (kind_of c.args.vote.now) ≡ false =
    ap (of_kind marks) (sym c.kind-kind.ensures) ∙ sym c.of-is_compacted.ensures ∙ c.if-is_compacted.false in
    let length_is : c.len.result ≡ length (of_kind (votes_in c.self.inside.kept) (kind_of c.args.vote.now)) =
    c.len.ensures ∙ ap (λ v. length (of_kind v c.kind-kind.result)) c.make_room_at.ensures.votes ∙ ap (λ k. length (of_kind votes k)) c.kind-kind.ensures in
    let left = rw (c.make_room_at.ensures.items, c.signer-2.ensures, c.kind-kind.ensures, length_is) at c.put_at-2.ensures.items in
    let kept = rw c.make_room_at.ensures.votes at c.push.ensures in
    let bound = c.put_at-2.ensures.participants ∙ c.make_room_at.ensures.participants in
    rw (bound, kept, left)
    (tracked_full g.D.PartialEq.eq marks votes es (option_copied c.args.proposal) vote up off none c.self.inside.entries.participants c.self.invariant)

pub returns : goal.returns
returns g c =
    let marks = marks_of c.self.inside.compacted in
    let votes = votes_in c.self.inside.kept in
    let es = c.self.inside.entries.items in
    let vote = c.args.vote.now in
    let up = c.seen_at-seen.ensures.ascending in
    let place = rw (← c.self.view_is) at c.requires.place in
    let o = find (λ e. nat_eq (entry_key e) (signer_of c.args.vote.now)) c.self.inside.entries.items in
    let seen : c.seen_at-seen.result ≡ seen_in (kind_of c.args.vote.now)
    (find (λ e. nat_eq (entry_key e) (signer_of c.args.vote.now)) c.self.inside.entries.items)
    = c.seen_at-seen.ensures.seen (signer_of vote) place ∙ ap (λ k. seen_in k o) c.kind-kind.ensures in
    let in_range = lt-ltb _ _ (rw (← c.self.view_is) at c.requires.range) in
    let none = ap has_index (sym seen) ∙ sym c.is_kept.ensures ∙ c.if-is_kept.false in
    let off : of_kind (marks_of c.self.inside.compacted) (kind_of c.args.vote.now) ≡ false =
    ap (of_kind marks) (sym c.kind-kind.ensures) ∙ sym c.of-is_compacted.ensures ∙ c.if-is_compacted.false in
    let length_is : c.len.result ≡ length (of_kind (votes_in c.self.inside.kept) (kind_of c.args.vote.now)) =
    c.len.ensures ∙ ap (λ v. length (of_kind v c.kind-kind.result)) c.make_room_at.ensures.votes ∙ ap (λ k. length (of_kind votes k)) c.kind-kind.ensures in
    let left = rw (c.make_room_at.ensures.items, c.signer-2.ensures, c.kind-kind.ensures, length_is) at c.put_at-2.ensures.items in
    let kept = rw c.make_room_at.ensures.votes at c.push.ensures in
    record {
      outcome =
          rw (← c.self.view_is)
          (outcome_first g.D.PartialEq.eq marks votes es (option_copied c.args.proposal) vote up (λ kind. c.self.invariant.kinds kind) o refl off none
          c.self.inside.entries.participants in_range);
      records = λ kind.
          rw (← c.self.view_is)
          (recorded_full g.D.PartialEq.eq marks votes es (option_copied c.args.proposal) vote up _ _ kept left off none
          (λ kind. c.self.invariant.kinds kind) kind);
      err = search rules;
      participants = search rules;
      mode = search rules;
      known = search rules;
      repeated = search rules;
      with_room = search rules;
    }
