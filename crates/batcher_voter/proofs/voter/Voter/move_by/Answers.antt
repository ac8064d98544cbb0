use Rattle.batcher_voter.proofs.Words.{◌≡◌, ◌≤◌, ◌∙◌, certificate_format, versioned, whole, Ok, IsSafelyKept, ap, false, rules, subst, sym, round_in}
use Rattle.batcher_voter.proofs.Words.{subject_certified, is_below, raised, view_finalized, node_config, NodeMeets}
use Rattle.batcher_voter.proofs.Words.{Forgets, Learns}
use Rattle.batcher_voter.proofs.Words.{Err, vote_format, IsTooLongFor}
use Rattle.batcher_voter.proofs.Leaving.{leaves_raised}
use Rattle.batcher_voter.proofs.Finalizing.{finalized_by}
use Rattle.batcher_voter.proofs.Keeping.{final_of, final_on_disk, safely_on_disk}
use Rattle.batcher_voter.proofs.voter.Voter.move_by.Goals as goal

pub returns-in-Ok-move_to : goal.returns-in-Ok-move_to
returns-in-Ok-move_to g c =
    record {
      meets =
          let old = c.args.self.now in
          let moved = c.move_to.new.self in
          let it = c.in-Ok-move_to.ensures in
          let config = node_config g.S.Scheme.meaning g.S.PublicKey.Ord.cmp g.S.Signature.PartialEq.eq
          g.D.PartialEq.eq old.node in
          finalized_by config old c.note.new.self c.args.finalization.now moved.knowledge c.requires.certifies
          (subst (NodeMeets config old.node (view_finalized (round_in (subject_certified c.args.finalization.now)).view.0))
          (sym c.note.ensures.node)
          (subst (λ r. NodeMeets config old.node (view_finalized r.view.0) moved.node) c.round.ensures it.meets))
          (subst (λ r. Forgets r.view.0 old.knowledge moved.knowledge) c.round.ensures it.forgets)
          (subst (λ s. Learns s moved.knowledge c.note.new.self.knowledge) c.subject.ensures c.note.ensures.learns)
          (c.requires.epoch ∙ sym c.begins.ensures.begins.of_epoch)
          it.raised.0
          (subst (λ r. is_below old.journal.contents.floor r ≡ false) c.round.ensures it.raised.1)
          c.deref.result.now
          (ap (λ j. j.contents) c.note.ensures.journal ∙ it.raised.2.contents_are
          ∙ ap (λ r. raised old.journal.contents old.journal.unwritten old.journal.contents.owner r
          c.deref.result.now) c.round.ensures);
      leaves = λ left is_open honest may.
          let old = c.args.self.now in
          leaves_raised (node_config g.S.Scheme.meaning g.S.PublicKey.Ord.cmp g.S.Signature.PartialEq.eq
          g.D.PartialEq.eq old.node) _ g.D.PartialEq.eq c.bytes_are_of_one_journal.ensures old is_open left
          old.journal.contents.owner c.round.result c.deref.result.now
          (c.move_to.ensures.leaves left is_open (subst (λ j. g.L.Log.is_honest j.log) c.note.ensures.journal honest)
          (subst (λ j. g.L.Log.may_leave j.log left) c.note.ensures.journal may));
      begins = search rules;
      kind = search rules;
      raised = search rules;
      why = search rules;
      stays = search rules;
      refused = search rules;
      unraised = search rules;
      same = search rules;
      copied = search rules;
    }

pub returns-in-Err-OutOfMemory : goal.returns-in-Err-OutOfMemory
returns-in-Err-OutOfMemory g c =
    record {
      leaves = λ left is_open honest may.
          let old = c.args.self.now in
          leaves_raised (node_config g.S.Scheme.meaning g.S.PublicKey.Ord.cmp g.S.Signature.PartialEq.eq
          g.D.PartialEq.eq old.node) _ g.D.PartialEq.eq c.bytes_are_of_one_journal.ensures old is_open left
          old.journal.contents.owner c.round.result c.deref.result.now
          (c.move_to.ensures.leaves left is_open honest may);
      why = search rules;
      meets = search rules;
      begins = search rules;
      kind = search rules;
      raised = search rules;
      stays = search rules;
      refused = search rules;
      unraised = search rules;
      same = search rules;
      copied = search rules;
    }

pub returns-in-Err-Full : goal.returns-in-Err-Full
returns-in-Err-Full g c =
    record {
      leaves = λ left is_open honest may.
          let old = c.args.self.now in
          leaves_raised (node_config g.S.Scheme.meaning g.S.PublicKey.Ord.cmp g.S.Signature.PartialEq.eq
          g.D.PartialEq.eq old.node) _ g.D.PartialEq.eq c.bytes_are_of_one_journal.ensures old is_open left
          old.journal.contents.owner c.round.result c.deref.result.now
          (c.move_to.ensures.leaves left is_open honest may);
      why = (
        search rules,
        let old = c.args.self.now in
            let format = certificate_format g.S.Certificate.OwnedCodec.format g.D.Codec.format in
            subst (λ bytes. IsTooLongFor (vote_format g.S.Signature.Codec.format g.D.Codec.format) g.L.Log.is_too_small old.journal.log
            (raised old.journal.contents old.journal.unwritten old.journal.contents.owner
            (round_in (subject_certified c.args.finalization.now)) bytes))
            (c.deref.ensures.value ∙ c.in-Ok.ensures.bytes)
            (subst (λ r. IsTooLongFor (vote_format g.S.Signature.Codec.format g.D.Codec.format) g.L.Log.is_too_small old.journal.log
            (raised old.journal.contents old.journal.unwritten old.journal.contents.owner r c.deref.result.now)) c.round.ensures
            (c.in-Err-Full.ensures.too_long (ap (λ e. Err e) c.in-Err-Full.field-0-is))),
      );
      meets = search rules;
      begins = search rules;
      kind = search rules;
      raised = search rules;
      stays = search rules;
      refused = search rules;
      unraised = search rules;
      same = search rules;
      copied = search rules;
    }

pub returns : goal.returns
returns g c =
    record {
      leaves = λ left is_open honest may.
          let old = c.args.self.now in
          leaves_raised (node_config g.S.Scheme.meaning g.S.PublicKey.Ord.cmp g.S.Signature.PartialEq.eq
          g.D.PartialEq.eq old.node) _ g.D.PartialEq.eq c.bytes_are_of_one_journal.ensures old is_open left
          old.journal.contents.owner c.round.result c.deref.result.now
          (c.move_to.ensures.leaves left is_open honest may);
      why = search rules;
      meets = search rules;
      begins = search rules;
      kind = search rules;
      raised = search rules;
      stays = search rules;
      refused = search rules;
      unraised = search rules;
      same = search rules;
      copied = search rules;
    }

pub move_to-requires-clause-finalizes : goal.move_to-requires-clause-finalizes
move_to-requires-clause-finalizes g c =
    let final = final_of c.args.finalization.now c.requires.kind in
    record {
      certificate = c.args.finalization.now;
      proposal = final.0;
      final = final.1;
      of_round = ap (λ s. round_in s) (sym final.1) ∙ sym c.round.ensures;
      encoded = c.deref.ensures.value ∙ c.in-Ok.ensures.bytes;
    }

pub note-requires-clause-kept : goal.note-requires-clause-kept
note-requires-clause-kept g c =
    let format = certificate_format g.S.Certificate.OwnedCodec.format g.D.Codec.format in
    let final = final_of c.args.finalization.now c.requires.kind in
    let moved = c.move_to.new.self in
    let raised = c.in-Ok-move_to.ensures.raised.2.contents_are in
    subst (λ s. moved.knowledge.floor ≤ (round_in s).view.0 → IsSafelyKept format moved.journal moved.waits s)
    (sym c.subject.ensures)
    (λ from. safely_on_disk format moved.journal c.args.finalization.now moved.waits
    (final_on_disk format moved.journal.contents c.args.finalization.now final.0 final.1
    (ap (λ k. k.floor) raised ∙ c.round.ensures)
    (ap (λ k. k.finalization) raised ∙ c.deref.ensures.value ∙ c.in-Ok.ensures.bytes)))

pub move_to-requires-clause-readable : goal.move_to-requires-clause-readable
move_to-requires-clause-readable g c =
    let format = certificate_format g.S.Certificate.OwnedCodec.format g.D.Codec.format in
    record {
      certificate = c.args.finalization.now;
      read = record {
        decoded = subst (λ bytes. whole (versioned format) bytes ≡ Ok c.args.finalization.now) (sym c.deref.ensures.value)
            c.in-Ok.ensures.read;
        of_round = sym c.round.ensures;
      };
      final = c.requires.kind;
      certifies_it = c.requires.certifies;
    }
