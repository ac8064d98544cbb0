use Rattle.batcher_voter.proofs.Words.{◌≡◌, subst, sym, true, certificate_format, kept_for, IsKeptAmong, WaitsFor}
use Rattle.batcher_voter.proofs.Keeping.{done_keeps}
use Rattle.batcher_voter.proofs.voter.Voter.note_kept.Goals as goal

pub invariant_of-self : goal.invariant_of-self
invariant_of-self g c =
    let format = certificate_format g.S.Certificate.OwnedCodec.format g.D.Codec.format in
    let was = c.self.invariant in
    let done = subst (λ v. v.journal.is_open ≡ true → (t : _) → WaitsFor v.waits t
    → IsKeptAmong format (kept_for v.journal t) t) (sym c.self.view_is) c.requires in (
      was.0,
      (
        record {
          of_epoch = was.1.0.of_epoch;
          from_final = was.1.0.from_final;
          floor_is = was.1.0.floor_is;
        },
        (
          done_keeps format c.self.inside.journal c.self.inside.knowledge c.self.inside.waits done was.1.1.0,
          was.1.1.1,
        ),
      ),
    )
