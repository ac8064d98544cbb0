use Rattle.batcher_validator.proofs.Words.{◌≡◌, subst, sym, true, certificate_format, certifies_itself, node_config}
use Rattle.batcher_validator.proofs.Going.{takes_roomy}
use Rattle.batcher_voter.specs.Keeping.{HasOnDisk}
use Rattle.batcher_validator.proofs.validator.Validator.recall_one.Goals as goal

pub recall_with_room-requires-clause-certifies : goal.recall_with_room-requires-clause-certifies
recall_with_room-requires-clause-certifies g c =
    subst (λ v. certifies_itself (g.S.Scheme.meaning v.node.scheme) c.args.certificate ≡ true)
    (sym c.make_room.ensures.voter) (sym c.if-not-verifies.ensures)

pub returns-in-Ok-recall_with_room-clause-took : goal.returns-in-Ok-recall_with_room-clause-took
returns-in-Ok-recall_with_room-clause-took g c =
    takes_roomy (node_config g.S.Scheme.meaning g.S.PublicKey.Ord.cmp g.S.Signature.PartialEq.eq g.D.PartialEq.eq)
    c.args.self.now c.make_room.new.self c.recall_with_room.new.self c.args.certificate
    c.make_room.ensures.voter c.make_room.ensures.given c.make_room.ensures.certificates
    c.make_room.ensures.handed c.in-Ok-recall_with_room.ensures.took

pub recall_with_room-requires-clause-there : goal.recall_with_room-requires-clause-there
recall_with_room-requires-clause-there g c =
    subst (λ v. HasOnDisk (certificate_format g.S.Certificate.OwnedCodec.format g.D.Codec.format)
    v.journal.contents c.args.certificate) (sym c.make_room.ensures.voter) c.requires
