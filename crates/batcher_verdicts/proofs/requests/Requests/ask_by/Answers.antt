use Rattle.std.specs.BTreeMap.{get}
use Rattle.std.specs.Ordering.{nat_cmp}
use Rattle.batcher_verdicts.proofs.Words.{◌∙◌, ap, rules, sym, not_at}
use Rattle.batcher_verdicts.proofs.Requesting.{all_have_true, not_none_left, same_ok, same_put, same_true, true_at}
use Rattle.batcher_verdicts.proofs.Plain.{on_any, on_err}
use Rattle.batcher_verdicts.specs.Requests.{request_at, request_key}
use Rattle.batcher_verdicts.proofs.requests.Requests.ask_by.Goals as goal

pub returns-in-Some-clause-asks : goal.returns-in-Some-clause-asks
returns-in-Some-clause-asks g c =
    let up = (c.get_mut.follows.holds c.ask.new.self).3 (search rules) in
    rw (sym c.key_of-key.ensures, up.1) c.ask.ensures.asks

pub returns-in-Some-clause-truths : goal.returns-in-Some-clause-truths
returns-in-Some-clause-truths g c = λ attests before.
    let up = (c.get_mut.follows.holds c.ask.new.self).3 (search rules) in
    let there = ap (λ s. request_at s c.key_of-key.result) (sym c.self.view_is) ∙ sym c.in-Some.ensures.value in
    all_have_true c.args.self.now (record {
      all = (c.get_mut.follows.lender c.ask.new.self).entries;
      next = c.self.inside.next;
      first = c.self.inside.first;
    }) c.key_of-key.result _ up.1
    (λ other apart. up.2 other (not_at c.key_of-key.result other apart) ∙ ap (λ s. request_at s other) c.self.view_is) attests
    (c.ask.ensures.truths attests (true_at attests _ c.args.self.now c.key_of-key.result there before)) before

pub returns-in-Some-clause-none : goal.returns-in-Some-clause-none
returns-in-Some-clause-none g c =
    same_ok c.ask.result _ c.args.self.now c.in-Some.request.now c.ask.new.self
    (λ same. rw (sym c.self.view_is) (same_put _ _ c.key_of-key.result _ _ (c.get_mut.follows.holds c.ask.new.self).0
    (sym c.in-Some.ensures.value) same)) c.ask.ensures.none

pub returns-in-Some-clause-refused : goal.returns-in-Some-clause-refused
returns-in-Some-clause-refused g c =
    on_err c.ask.result
    (λ same. rw (sym c.self.view_is) (same_put _ _ c.key_of-key.result _ _ (c.get_mut.follows.holds c.ask.new.self).0
    (sym c.in-Some.ensures.value) same)) c.ask.ensures.refused

pub returns-in_err-request-in-None-clause-truths : goal.returns-in_err-request-in-None-clause-truths
returns-in_err-request-in-None-clause-truths g c = λ attests before.
    same_true attests c.args.self.now (record { all = c.get_mut.follows.lender-at-none.entries; next = c.self.inside.next; first = c.self.inside.first })
    (λ key. ap (λ m. get nat_cmp m key) c.get_mut.follows.holds-at-none ∙ ap (λ s. request_at s key) c.self.view_is) before

pub returns-then-is_empty-clause-truths : goal.returns-then-is_empty-clause-truths
returns-then-is_empty-clause-truths g c = λ attests before.
    same_true attests c.args.self.now (record { all = c.get_mut.follows.lender-at-none.entries; next = c.self.inside.next; first = c.self.inside.first })
    (λ key. ap (λ m. get nat_cmp m key) c.get_mut.follows.holds-at-none ∙ ap (λ s. request_at s key) c.self.view_is) before

pub returns-in_err-put-in-None-clause-needed : goal.returns-in_err-put-in-None-clause-needed
returns-in_err-put-in-None-clause-needed g c =
    on_any _ (not_none_left (request_at c.args.self.now (request_key c.args.subject.now)) c.args.subject.now
    c.args.waiting.now (rw (sym c.key_of-key.ensures) (ap (λ s. request_at s c.key_of-key.result) (sym c.self.view_is)
    ∙ sym c.in-None.ensures.value)) (search rules))

pub returns-in_ok-put-in-None-clause-truths : goal.returns-in_ok-put-in-None-clause-truths
returns-in_ok-put-in-None-clause-truths g c = λ attests before.
    all_have_true c.args.self.now c.put.new.self c.key_of-key.result _ c.in_ok-put-in-None.ensures.here
    (λ other apart. c.in_ok-put-in-None.ensures.others other apart
    ∙ (ap (λ m. get nat_cmp m other) c.get_mut.follows.holds-at-none ∙ ap (λ s. request_at s other) c.self.view_is)) attests
    (c.in_ok-request-in-None.ensures.truths attests) before
