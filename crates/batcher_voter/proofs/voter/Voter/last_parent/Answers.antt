use Rattle.batcher_voter.proofs.Words.{◌∙◌, arith, inl, inr, sym, cases_lt, conduct_of}
use Rattle.batcher_voter.proofs.Grounding.{notarized_is_parent}
use Rattle.batcher_voter.proofs.voter.Voter.last_parent.Goals as goal

pub returns : goal.returns
returns g c = λ past earlier is p of_epoch known.
    let knowledge = c.args.self.now.knowledge in
    elim (cases_lt c.known_parent.result p.round.view.0) [
      | inl above ↦
          absurd (c.known_parent.ensures.none p.round.view.0 above
          (notarized_is_parent knowledge (conduct_of past) is.has_learned p
          (of_epoch ∙ sym c.begins.ensures.begins.of_epoch) (omega (arith, above, c.known_parent.ensures.from_floor)) known))
      | inr up_to ↦ up_to
    ]
