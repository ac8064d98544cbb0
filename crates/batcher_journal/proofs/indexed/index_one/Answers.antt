use Rattle.batcher_journal.proofs.Words.{ap, arith, false, get_or, length, refl, subst, sym, true, ◌+◌, ◌<◌, ◌∙◌, ◌≡◌, ◌≤◌, ℕ, get_or_default, is_below, Entry}
use Rattle.batcher_journal.proofs.Indexing.{inserted}
use Rattle.batcher_journal.proofs.indexed.index_one.Goals as goal
use Rattle.batcher_journal.proofs.Words.{round_in, subject_of, Vote}

pub returns-in-Ok-clause-index : goal.returns-in-Ok-clause-index
returns-in-Ok-clause-index g c =
    let at_is = c.len-at.ensures ∙ c.args.index.now.ok.0 in
    let inside : c.len-at.result < length c.args.votes.now = omega (arith, at_is, c.requires.more) in
    inserted c.args.votes.now c.args.index.now.items c.insert.new.self.items c.place_of-place.result
    (record { round = c.round-round.result; at = c.len-at.result }) c.requires.index c.requires.more
    (subst (λ its. c.place_of-place.result ≤ length its) c.deref.ensures.value c.place_of-place.ensures.bound)
    (subst (λ its. (k : ℕ) (d : Entry) → k < c.place_of-place.result
    → is_below c.round-round.result (get_or its k d).round ≡ true) c.deref.ensures.value c.place_of-place.ensures.before)
    (subst (λ its. (k : ℕ) (d : Entry) → c.place_of-place.result ≤ k → k < length its
    → is_below c.round-round.result (get_or its k d).round ≡ false) c.deref.ensures.value c.place_of-place.ensures.behind)
    at_is
    (λ v. ap (λ (vote : Vote g.row.G.Denot g.row.D.Denot). round_in (subject_of vote))
    (get_or_default c.args.votes.now c.len-at.result v c.index-votes-at.result inside ∙ sym c.index-votes-at.is)
    ∙ sym c.round-round.ensures)
    (sym c.insert.new.self.ok.0 ∙ c.in-Ok.ensures.len ∙ ap (λ n. n + 1) c.args.index.now.ok.0)
    (λ d. c.in-Ok.ensures.by_index.0 d refl) c.in-Ok.ensures.by_index.1
    (λ k d gt. c.in-Ok.ensures.by_index.2 k d refl gt)
