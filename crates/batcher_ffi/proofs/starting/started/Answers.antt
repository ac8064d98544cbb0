use Rattle.batcher_ffi.proofs.Words.{◌∙◌, Err, ap, inl, subst, sym, signature_format, same_digest, sha256_format, vote_format, Cause, fields_of, HasNoVoter}
use Rattle.batcher_ffi.proofs.Others.{are_damaged, is_anothers, is_other_version}
use Rattle.batcher_ffi.proofs.starting.started.Goals as goal

pub returns-in-Err-clause-others : goal.returns-in-Err-clause-others
returns-in-Err-clause-others c = λ other.
    inl (is_anothers (vote_format signature_format sha256_format) same_digest c.args.disk.now (fields_of c.args.owner.now) c.in-Err.fault
    (sym c.start_code_of.ensures.code ∙ other)
    (λ one same. subst (λ disk. Cause (vote_format signature_format sha256_format) disk
    (fields_of c.args.owner.now) same_digest one) c.in-Ok.ensures.copied
    (c.restart.ensures.cause one (c.in-Err.is ∙ ap (λ fault. Err fault) same))))

pub returns-in-Err-clause-other_version : goal.returns-in-Err-clause-other_version
returns-in-Err-clause-other_version c = λ is.
    is_other_version (vote_format signature_format sha256_format) same_digest c.args.disk.now (fields_of c.args.owner.now) c.in-Err.fault
    (sym c.start_code_of.ensures.code ∙ is)
    (λ one same. subst (λ disk. Cause (vote_format signature_format sha256_format) disk
    (fields_of c.args.owner.now) same_digest one) c.in-Ok.ensures.copied
    (c.restart.ensures.cause one (c.in-Err.is ∙ ap (λ fault. Err fault) same)))

pub returns-in-Err-clause-damaged : goal.returns-in-Err-clause-damaged
returns-in-Err-clause-damaged c = λ is.
    are_damaged c.args.disk.now (fields_of c.args.owner.now) c.in-Err.fault
    (sym c.start_code_of.ensures.code ∙ is)
    (λ one same. subst (λ disk. Cause (vote_format signature_format sha256_format) disk
    (fields_of c.args.owner.now) same_digest one) c.in-Ok.ensures.copied
    (c.restart.ensures.cause one (c.in-Err.is ∙ ap (λ fault. Err fault) same)))
    (λ one same. subst (λ disk. HasNoVoter (fields_of c.args.owner.now) disk one) c.in-Ok.ensures.copied
    (c.restart.ensures.why one (c.in-Err.is ∙ ap (λ fault. Err fault) same)))
