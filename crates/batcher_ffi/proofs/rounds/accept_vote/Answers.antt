use Rattle.batcher_ffi.proofs.Words.{◌≡◌, ◌∙◌, ◌&&◌, nat_lt, Err, ap, length, refl, sym, rules, arith, common_steps, attestation_of, subject_of}
use Rattle.batcher_ffi.proofs.Words.{config_of_handle}
use Rattle.batcher_ffi.proofs.Verified.{attests_if}
use Rattle.batcher_ffi.proofs.rounds.accept_vote.Goals as goal

pub returns-in-Ok-Added-default : goal.returns-in-Ok-Added-default
returns-in-Ok-Added-default c =
    let read = sym c.vote.ensures ∙ c.in-Some.is in
    let a = attestation_of c.in-Some.typed in
    let r = c.args.round.now in
    let verified : (config_of_handle r).meaning.attests (subject_of c.in-Some.typed) a ≡ c.is_verified.result =
    attests_if r (subject_of c.in-Some.typed) a
    ∙ ap (λ b. nat_lt a.signer.0 (length (config_of_handle r).meaning.participants) && b) (rw read at c.requires)
    ∙ ap (λ n. nat_lt a.signer.0 n && c.args.attests) (sym c.participants.ensures) ∙ sym c.is_verified.ensures in
    record {
      codes = grind (arith, common_steps);
      malformed = search rules;
      elsewhere = rw read (search rules);
      done = λ is. rw (read, c.write_own.ensures.outcome, c.write_own.ensures.report)
          (rw c.in-Ok-Added-default.field-0-0-is at c.in-Ok-Added-default.ensures.does.meets);
      verified = λ is. rw read (verified ∙ c.in-Ok-Added-default.ensures.does.verified);
      not_verified = search rules;
      named = search rules;
      needed = search rules;
      stays = search rules;
      out_stays = search rules;
      verdicts = c.in-Ok-Added-default.ensures.does.verdicts;
      same = c.in-Ok-Added-default.ensures.same;
    }

pub returns-in-Err : goal.returns-in-Err
returns-in-Err c =
    let read = sym c.vote.ensures ∙ c.in-Some.is in
    let a = attestation_of c.in-Some.typed in
    let r = c.args.round.now in
    let does = c.in-Err.ensures.does in
    let verified : (config_of_handle r).meaning.attests (subject_of c.in-Some.typed) a ≡ c.is_verified.result =
    attests_if r (subject_of c.in-Some.typed) a
    ∙ ap (λ b. nat_lt a.signer.0 (length (config_of_handle r).meaning.participants) && b) (rw read at c.requires)
    ∙ ap (λ n. nat_lt a.signer.0 n && c.args.attests) (sym c.participants.ensures) ∙ sym c.is_verified.ensures in
    record {
      codes = grind (arith, common_steps);
      malformed = search rules;
      elsewhere = rw read (search rules);
      done = search rules;
      verified = search rules;
      not_verified = λ is. rw read
          (verified ∙ does.not_verified (ap Err (c.refusal_code.ensures.not_verified is)));
      named = λ fault is. rw read (does.named fault (ap Err (c.refusal_code.ensures.fault fault is)));
      needed = λ is. rw read (does.needed (ap Err (c.refusal_code.ensures.fault _ (rw is refl))));
      stays = λ is. c.in-Err.ensures.whole does.refused;
      out_stays = search rules;
      verdicts = does.verdicts;
      same = c.in-Err.ensures.same;
    }
