use Rattle.batcher_types.proofs.Words.{◌≡◌, ◌-◌, ◌+◌, ◌<◌, ◌≤◌, ℕ, Bool, true, false, List, [], get_or, length, refl, sym, arith, Attestation, index_of_signer}
use Rattle.batcher_types.proofs.Words.{is_ascending, is_ascending-true}
use Rattle.batcher_types.proofs.AscendingLemmas.{ascending_from_adjacent, adjacent_from_ascending, ascending_from_test}
use Rattle.batcher_types.proofs.scheme.keyed.is_ascending.Goals as goal

-- where neighbours fall somewhere, the list isn't ascending
fallen : (xs : List (Attestation (List ℕ))) (i : ℕ) (d : Attestation (List ℕ)) → 1 ≤ i → i
    < length xs → (get_or xs i d).signer.0 ≤ (get_or xs (i - 1) d).signer.0 → (b : Bool)
    → is_ascending index_of_signer xs ≡ b → false ≡ b
fallen xs i d above below low true e =
    let back : (i - 1) + 1 ≡ i = omega arith in
    let rise = rw back at (adjacent_from_ascending index_of_signer xs (ascending_from_test index_of_signer xs e) (i - 1) d (omega arith)) in
    absurd (omega (arith, rise))
fallen xs i d above below low false e = refl

pub returns-then-attestations-i : goal.returns-then-attestations-i
returns-then-attestations-i c =
    let d : Attestation (List ℕ) = record { signer = record { 0 = 0 }; signature = [] } in
    fallen c.args.attestations.now c.loop-i.i d (omega arith) (omega arith) (omega arith) (is_ascending index_of_signer c.args.attestations.now) refl

pub returns : goal.returns
returns c =
    sym (is_ascending-true index_of_signer c.args.attestations.now
    (ascending_from_adjacent index_of_signer c.args.attestations.now (λ k d below. c.loop-i.invariant k d (omega arith))))
