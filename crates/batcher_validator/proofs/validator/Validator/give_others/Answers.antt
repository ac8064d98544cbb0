use Rattle.batcher_validator.proofs.Words.{rules, ◌≡◌, ◌⊎◌, ◌∙◌, ap, false, refl, subst, true, IsAtRest, node_config}
use Rattle.batcher_validator.proofs.Giving.{becomes_calm, contained, gives_certificate, gives_verify, nothing_due}
use Rattle.batcher_validator.proofs.validator.Validator.give_others.Goals as goal

pub returns-in-Some-clause-gives : goal.returns-in-Some-clause-gives
returns-in-Some-clause-gives g c =
    record {
      some = record {
        gives =
            let old = c.args.self.now in
            gives_certificate (node_config g.S.Scheme.meaning g.S.PublicKey.Ord.cmp g.S.Signature.PartialEq.eq
            g.D.PartialEq.eq old.voter.node) old c.note_handed.new.self
            c.note_handed.ensures.voter c.in-Some.kind c.in-Some.round
            c.next_certificate.ensures.distinct c.in-Some.ensures.some c.requires.no_forward
            c.note_handed.ensures.given c.note_handed.ensures.certificates c.note_handed.ensures.handed;
        ready =
            let it = c.in-Some.ensures.some in
            record {
              item = it.certificate;
              there = contained c.args.self.now.shelf.certificates c.args.self.now.shelf.handed it.certificate it.there;
              is_of = it.is_of;
            };
      };
      nothing = search rules;
      rests = search rules;
      voter = search rules;
    }

pub returns-then-has_votes_waiting-clause-gives : goal.returns-then-has_votes_waiting-clause-gives
returns-then-has_votes_waiting-clause-gives g c =
    record {
      some = record {
        gives =
            let old = c.args.self.now in
            let same = c.pose.ensures.same c.in-None-pose.is in
            let x = node_config g.S.Scheme.meaning g.S.PublicKey.Ord.cmp g.S.Signature.PartialEq.eq
            g.D.PartialEq.eq old.voter.node in
            gives_verify x old c.note_verifying.new.self
            (c.note_verifying.ensures.voter ∙ c.pose.ensures.voter)
            (c.note_verifying.ensures.shelf ∙ ap (λ v. v.shelf) same)
            (subst (λ v. v.given.verifying ≡ false) same c.if-has_votes_waiting.ensures.0)
            (subst (λ v. c.note_verifying.new.self.given ≡ record v.given { verifying = true }) same
            c.note_verifying.ensures.given);
        ready =
            subst (λ v. IsAtRest v.node → ⊥) c.pose.ensures.voter c.if-has_votes_waiting.ensures.1;
      };
      nothing = search rules;
      rests = search rules;
      voter = search rules;
    }

pub returns-else-has_votes_waiting-clause-gives : goal.returns-else-has_votes_waiting-clause-gives
returns-else-has_votes_waiting-clause-gives g c =
    record {
      some = search rules;
      nothing =
          λ none past earlier is.
          let old = c.args.self.now in
          let x = node_config g.S.Scheme.meaning g.S.PublicKey.Ord.cmp g.S.Signature.PartialEq.eq
          g.D.PartialEq.eq old.voter.node in
          nothing_due x old
          c.requires.begins refl past earlier is c.requires.open c.requires.nobody c.requires.no_final
          c.requires.no_cast c.requires.no_vote
          (c.next_certificate.ensures.none c.in-None.is) c.requires.no_forward c.requires.no_view
          (subst (λ v. (v.given.verifying ≡ true) ⊎ IsAtRest v.voter.node)
          (c.pose.ensures.same c.in-None-pose.is) c.if-has_votes_waiting.ensures)
          (c.pose.ensures.proposes c.in-None-pose.is past earlier is)
          (c.pose.ensures.signs c.in-None-pose.is past earlier is);
      rests =
          λ none.
          let old = c.args.self.now in
          let same = c.pose.ensures.same c.in-None-pose.is in
          let x = node_config g.S.Scheme.meaning g.S.PublicKey.Ord.cmp g.S.Signature.PartialEq.eq
          g.D.PartialEq.eq old.voter.node in
          becomes_calm x old c.note_calm.new.self
          (c.note_calm.ensures.voter ∙ c.pose.ensures.voter)
          (c.note_calm.ensures.shelf ∙ ap (λ v. v.shelf) same)
          (subst (λ v. c.note_calm.new.self.given ≡ record v.given { calm = true }) same c.note_calm.ensures.given)
          (λ past earlier is.
          nothing_due x old
          c.requires.begins refl past earlier is c.requires.open c.requires.nobody c.requires.no_final
          c.requires.no_cast c.requires.no_vote
          (c.next_certificate.ensures.none c.in-None.is) c.requires.no_forward c.requires.no_view
          (subst (λ v. (v.given.verifying ≡ true) ⊎ IsAtRest v.voter.node)
          (c.pose.ensures.same c.in-None-pose.is) c.if-has_votes_waiting.ensures)
          (c.pose.ensures.proposes c.in-None-pose.is past earlier is)
          (c.pose.ensures.signs c.in-None-pose.is past earlier is));
      voter = search rules;
    }
