use Rattle.batcher_voter.proofs.Words.{◌∙◌, certificate_format}
use Rattle.batcher_voter.proofs.Keeping.{known_same}
use Rattle.batcher_voter.proofs.voter.Voter.take_room.Goals as goal

pub invariant_of-self : goal.invariant_of-self
invariant_of-self g c =
    let was = c.self.invariant in
    let same = c.make_room.ensures.same in (
      was.0,
      (
        record {
          of_epoch = same.epoch ∙ was.1.0.of_epoch;
          from_final = same.floor ∙ was.1.0.from_final;
          floor_is = was.1.0.floor_is;
        },
        (
          λ is_open s here. was.1.1.0 is_open s (known_same s c.self.inside.knowledge c.make_room.new.self same here),
          was.1.1.1,
        ),
      ),
    )
