use Rattle.batcher_ffi.proofs.Words.{◌∙◌, ◌∷◌, ap, refl, subst, again, expired, RunMeets, config_by}
use Rattle.batcher_ffi.proofs.validators.expire.Goals as goal

pub returns-clause-expires : goal.returns-clause-expires
returns-clause-expires c =
    let meets = subst (λ v. RunMeets (config_by v.node) c.expire.new.self c.send_again.new.self again)
    c.expire.ensures.voter c.send_again.ensures.meets in
    record {
      codes = refl;
      expires = λ below past earlier running. meets (expired c.args.view ∷ past) earlier
          (c.expire.ensures.expired below past earlier running);
      ahead = λ beyond. subst (λ v. RunMeets (config_by c.args.it.now.voter.node) v
          c.send_again.new.self again) (c.expire.ensures.ahead beyond) meets;
      on_disk = ap (λ voter. voter.journal.log.copy)
          (c.send_again.ensures.voter ∙ c.expire.ensures.voter);
    }
