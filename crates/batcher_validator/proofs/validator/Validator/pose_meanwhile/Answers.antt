use Rattle.batcher_validator.proofs.Words.{rules, ◌≡◌, ◌⊎◌, ◌∙◌, ap, false, refl, subst, true, IsAtRest, node_config}
use Rattle.batcher_validator.proofs.Giving.{gives_verify, nothing_due_meanwhile}
use Rattle.batcher_validator.proofs.validator.Validator.pose_meanwhile.Goals as goal

pub returns-then-has_votes_waiting-clause-gives : goal.returns-then-has_votes_waiting-clause-gives
returns-then-has_votes_waiting-clause-gives g c =
    record {
      some = record {
        gives =
            let old = c.args.self.now in
            let same = c.pose_proposal.ensures.same c.in-None.is in
            let x = node_config g.S.Scheme.meaning g.S.PublicKey.Ord.cmp g.S.Signature.PartialEq.eq
            g.D.PartialEq.eq old.voter.node in
            gives_verify x old c.note_verifying.new.self
            (c.note_verifying.ensures.voter ∙ c.pose_proposal.ensures.voter)
            (c.note_verifying.ensures.shelf ∙ ap (λ v. v.shelf) same)
            (subst (λ v. v.given.verifying ≡ false) same c.if-has_votes_waiting.ensures.0)
            (subst (λ v. c.note_verifying.new.self.given ≡ record v.given { verifying = true }) same
            c.note_verifying.ensures.given);
        ready =
            subst (λ v. IsAtRest v.node → ⊥) c.pose_proposal.ensures.voter c.if-has_votes_waiting.ensures.1;
      };
      meanwhile = search rules;
      nothing = search rules;
      same = search rules;
      voter = search rules;
    }

pub returns-else-has_votes_waiting-clause-gives : goal.returns-else-has_votes_waiting-clause-gives
returns-else-has_votes_waiting-clause-gives g c =
    record {
      some = search rules;
      meanwhile = search rules;
      nothing =
          λ none past earlier is.
          let old = c.args.self.now in
          let x = node_config g.S.Scheme.meaning g.S.PublicKey.Ord.cmp g.S.Signature.PartialEq.eq
          g.D.PartialEq.eq old.voter.node in
          nothing_due_meanwhile x old
          c.requires.begins refl past earlier is c.requires.open c.requires.nobody c.requires.no_cast
          c.requires.no_view
          (subst (λ v. (v.given.verifying ≡ true) ⊎ IsAtRest v.voter.node)
          (c.pose_proposal.ensures.same c.in-None.is) c.if-has_votes_waiting.ensures)
          (c.pose_proposal.ensures.nothing c.in-None.is past earlier is);
      same = search rules;
      voter = search rules;
    }
