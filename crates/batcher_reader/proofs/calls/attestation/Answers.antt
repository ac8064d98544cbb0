use Rattle.batcher_reader.proofs.Words.{◌∙◌, ◌&&◌, length, nat_lt, ap, refl, and_right, and-true}
use Rattle.batcher_reader.proofs.Signing.{same_itself}
use Rattle.batcher_reader.proofs.calls.attestation.Goals as goal

pub returns-in-Good-clause-signed : goal.returns-in-Good-clause-signed
returns-in-Good-clause-signed g c =
    let n = length (g.S.Scheme.meaning c.args.scheme.now).participants in
    rw c.in-Good.is
    (c.sign-attestation.ensures.attests c.sign-attestation.result c.sign-attestation.ensures.signer
    ∙ ap (λ b. nat_lt c.args.signer.0 n && b) (same_itself c.sign-attestation.result.signature)
    ∙ and-true (nat_lt c.args.signer.0 n))

pub returns-in-Bad-clause-signed : goal.returns-in-Bad-clause-signed
returns-in-Bad-clause-signed g c =
    let n = length (g.S.Scheme.meaning c.args.scheme.now).participants in
    rw c.in-Bad.is
    (c.sign-attestation.ensures.attests (record { signer = c.args.signer; signature = c.with_a_bit_flipped.result }) refl
    ∙ ap (λ b. nat_lt c.args.signer.0 n && b) c.with_a_bit_flipped.ensures
    ∙ and_right (nat_lt c.args.signer.0 n) _ refl)
