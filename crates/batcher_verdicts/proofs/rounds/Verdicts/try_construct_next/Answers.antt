use Rattle.batcher_verdicts.proofs.Words.{◌≡◌, ◌∙◌, Some, None, IfSome, Option, take, map, sym, ap, recorded_of, kind_attested}
use Rattle.batcher_verdicts.proofs.Recording.{true_first}
use Rattle.batcher_verdicts.proofs.Viewing.{looks_there, complete_there}
use Rattle.batcher_verdicts.proofs.rounds.Verdicts.try_construct_next.Goals as goal

pub conclude-requires : goal.conclude-requires
conclude-requires g c =
    let attests = (g.S.Scheme.meaning c.args.node.now.scheme).attests in
    let subject = c.in-Some.subject in
    let r = recorded_of c.args.self.now subject in
    let list : c.first.result.0.now ≡ take c.in-Some.known r.list =
    c.first.ensures.list ∙ ap (λ r. take c.in-Some.known r.list) c.of.ensures in
    let verdicts : c.first.result.1.now ≡ take c.in-Some.known r.verdicts =
    c.first.ensures.verdicts ∙ ap (λ r. take c.in-Some.known r.verdicts) c.of.ensures in
    verdicts ∙ true_first r subject _ attests c.in-Some.known c.in-Some.ensures.known.known
    (c.requires (kind_attested subject)) ∙ ap (map (attests subject)) (sym list)

pub returns-in_default-clause-complete : goal.returns-in_default-clause-complete
returns-in_default-clause-complete g c = λ view subject next there.
    c.in_default.ensures.complete view subject next there

pub returns-clause-complete : goal.returns-clause-complete
returns-clause-complete g c = λ view asked next there.
    let list : c.first.result.0.now ≡ take c.in-Some.known (recorded_of c.args.self.now c.in-Some.subject).list =
    c.first.ensures.list ∙ ap (λ r. take c.in-Some.known r.list) c.of.ensures in
    c.in_ok-given.ensures.given.not_stale view next
    (looks_there _ c.args.node.now.rounds c.args.self.now c.in-Some.subject c.in-Some.known c.first.result.0.now
    c.in-Some.ensures.known list view next asked there)

for_some : {X : Type 0} (P N Q : X → Type 0) (o : Option X) → ((x : X) → P x → N x → Q x)
    → IfSome o P → IfSome o N → IfSome o Q
for_some P N Q (Some x) goes h n = goes x h n
for_some P N Q None goes h n = tt

pub returns-clause-made : goal.returns-clause-made
returns-clause-made g c =
    let list : c.first.result.0.now ≡ take c.in-Some.known (recorded_of c.args.self.now c.in-Some.subject).list =
    c.first.ensures.list ∙ ap (λ r. take c.in-Some.known r.list) c.of.ensures in
    for_some _ _ _ c.in_ok-given.given (λ one looks next. (
      c.in-Some.subject,
      complete_there _ c.args.node.now.rounds c.args.self.now c.in-Some.subject c.in-Some.known c.first.result.0.now
          c.in-Some.ensures.known list one.view.0 next looks,
    )) c.in_ok-given.ensures.given.looks_at c.in_ok-given.ensures.given.next
