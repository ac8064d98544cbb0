use Rattle.batcher_verdicts.proofs.Words.{rules, arith, ◌≡◌, ◌++◌, ◌∙◌, ◌<◌, ◌+◌, length, take, sym, subst, Asks}
use Rattle.batcher_verdicts.proofs.Plain.{on_any}
use Rattle.batcher_verdicts.proofs.Recording.{rest_is, asks_rest, added, verdicts_need}
use Rattle.batcher_verdicts.proofs.recorded.KindVerdicts.record.Goals as goal

pub returns-in_err-make_room-clause-needed : goal.returns-in_err-make_room-clause-needed
returns-in_err-make_room-clause-needed g c =
    let first = c.begins.ensures.0 search in
    let lacks : c.args.self.now.room < c.known-known.result + length c.args.list.now =
    omega (arith, c.in_err-make_room.ensures.needed, c.requires) in
    on_any c.from_residual.result
    (verdicts_need c.args.self.now c.args.subject.now c.args.waiting.now c.args.list.now first.0 c.known-known.result
    c.known-known.ensures.known (sym (rest_is c.args.waiting.now c.known-known.result) ∙ first.1)
    c.known-known.ensures.within c.known-known.ensures.recorded c.known-known.ensures.room lacks)

pub returns-clause-asked : goal.returns-clause-asked
returns-clause-asked g c = λ _.
    let first = c.begins.ensures.0 search in (
      first.0,
      subst (Asks c.args.self.now c.args.subject.now c.args.waiting.now)
          (sym (rest_is c.args.waiting.now c.known-known.result) ∙ first.1)
          (asks_rest c.args.self.now c.args.subject.now c.args.waiting.now c.known-known.result c.known-known.ensures.known),
    )

pub returns-clause-adds : goal.returns-clause-adds
returns-clause-adds g c = λ _.
    let listed : c.put.new.self.list ≡ take c.known-known.result c.args.self.now.list ++ c.args.list.now = search rules in
    let judged : c.put.new.self.verdicts ≡ take c.known-known.result c.args.self.now.verdicts ++ c.args.verdicts.now = search rules in
    let first = c.begins.ensures.0 search in
    added c.args.self.now c.args.subject.now c.args.waiting.now c.known-known.result c.known-known.ensures.known
    c.known-known.ensures.even c.args.list.now first.0 (sym (rest_is c.args.waiting.now c.known-known.result) ∙ first.1)
    c.args.verdicts.now c.put.new.self c.put.ensures.subject listed judged
