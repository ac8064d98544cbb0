use Rattle.batcher_validator.proofs.Words.{rules, refl, node_config, same_subject-refl, voter_history}
use Rattle.batcher_validator.proofs.Giving.{contained, gives_cast, gives_enter, no_enter_due}
use Rattle.batcher_validator.proofs.validator.Validator.give_meanwhile.Goals as goal

pub returns-in-Some-clause-gives : goal.returns-in-Some-clause-gives
returns-in-Some-clause-gives g c =
    record {
      some = record {
        gives =
            let old = c.args.self.now in
            gives_enter (node_config g.S.Scheme.meaning g.S.PublicKey.Ord.cmp g.S.Signature.PartialEq.eq
            g.D.PartialEq.eq old.voter.node) old c.note_view.new.self c.note_view.ensures.voter c.note_view.ensures.shelf
            c.in-Some.view refl
            (λ past earlier is. c.in-Some.ensures.next (voter_history past) earlier is.voting)
            c.in-Some.ensures.beyond c.in-Some.ensures.unasked c.note_view.ensures.given;
        ready = search rules;
      };
      meanwhile = search rules;
      nothing = search rules;
      same = search rules;
      voter = search rules;
    }

pub returns-in-Some-next_cast-clause-gives : goal.returns-in-Some-next_cast-clause-gives
returns-in-Some-next_cast-clause-gives g c =
    record {
      some = record {
        gives =
            let old = c.args.self.now in
            let it = c.in-Some-next_cast.ensures.some in
            gives_cast (node_config g.S.Scheme.meaning g.S.PublicKey.Ord.cmp g.S.Signature.PartialEq.eq
            g.D.PartialEq.eq old.voter.node) old c.note_cast.new.self c.note_cast.ensures.voter
            c.in-Some-next_cast.vote (same_subject-refl g.D.PartialEq.eq g.met.D.Eq.laws.refl) c.requires.open
            c.requires.followed old.given.tally.recast it.0 c.note_cast.ensures.shelf
            (λ past earlier is. no_enter_due (node_config g.S.Scheme.meaning g.S.PublicKey.Ord.cmp
            g.S.Signature.PartialEq.eq g.D.PartialEq.eq old.voter.node) old c.requires.begins refl past earlier is
            (c.next_view.ensures.none c.in-None.is)) refl it.1
            c.note_cast.ensures.given;
        ready =
            let old = c.args.self.now in (
              c.requires.open,
              contained old.voter.journal.contents.votes old.given.tally.recast c.in-Some-next_cast.vote
                  c.in-Some-next_cast.ensures.some.0,
            );
      };
      meanwhile = search rules;
      nothing = search rules;
      same = search rules;
      voter = search rules;
    }
