use Rattle.batcher_verdicts.proofs.Words.{◌≡◌, ◌∙◌, Some, None, IfSome, Option, take, sym, ap, recorded_of}
use Rattle.batcher_verdicts.proofs.Completing.{looks_at_all, asks_nothing}
use Rattle.batcher_verdicts.proofs.rounds.Verdicts.try_construct.Goals as goal

pub returns-clause-complete : goal.returns-clause-complete
returns-clause-complete g c = λ asked complete.
    let list : c.first.result.0.now ≡ take c.in-Some.known (recorded_of c.args.self.now c.in-Some.subject).list =
    c.first.ensures.list ∙ ap (λ r. take c.in-Some.known r.list) c.of.ensures in
    c.in_ok-given.ensures.not_stale (looks_at_all _ _ c.args.self.now c.in-Some.subject c.in-Some.known _
    c.in-Some.ensures.known list asked (sym c.in-Some.ensures.subject) complete)

for_some : {X : Type 0} (P Q : X → Type 0) (o : Option X) → ((x : X) → P x → Q x)
    → IfSome o P → IfSome o Q
for_some P Q (Some x) goes h = goes x h
for_some P Q None goes h = tt

pub returns-clause-made : goal.returns-clause-made
returns-clause-made g c =
    let list : c.first.result.0.now ≡ take c.in-Some.known (recorded_of c.args.self.now c.in-Some.subject).list =
    c.first.ensures.list ∙ ap (λ r. take c.in-Some.known r.list) c.of.ensures in
    for_some _ _ c.in_ok-given.given (λ batch looks. (
      c.in-Some.subject,
      asks_nothing _ _ c.args.self.now c.in-Some.subject c.in-Some.known _ c.in-Some.ensures.known list looks,
    )) c.in_ok-given.ensures.looks_at
