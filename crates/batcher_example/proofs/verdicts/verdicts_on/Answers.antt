use Rattle.batcher_example.proofs.Words.{◌≡◌, ◌<◌, ◌+◌, map, ℕ, length, get_or, Bool, true, false, nat_eq, List, [], ◌∷◌, ◌++◌, refl, sym, filter, not, take}
use Rattle.batcher_example.proofs.Words.{arith, take_more, map-append}
use Rattle.batcher_example.proofs.verdicts.verdicts_on.Goals as goal

-- that no item of a list of one fails is the item's verdict
verdict : {A B : Type 0} (test : A → Bool) (x : A) (f : A → B) (b : Bool) → test x ≡ b
    → nat_eq (length (map f (filter (λ a. not (test a)) (x ∷ [])))) 0 ≡ test x
verdict test x f true e = rw e refl
verdict test x f false e = rw e refl

-- one more verdict
grown : {A : Type 0} (test : A → Bool) (xs : List A) (i : ℕ) (x : A) (old new : List Bool)
    (b : Bool) → i < length xs → x ≡ get_or xs i x → old ≡ map test (take i xs)
    → new ≡ old ++ b ∷ [] → b ≡ test x → new ≡ map test (take (i + 1) xs)
grown test xs i x old new b below at before more one =
    let split : map test (take (i + 1) xs) ≡ map test (take i xs) ++ test x ∷ []
    = rw (take_more xs i x below, map-append test (take i xs) (get_or xs i x ∷ []), sym at) refl in
    rw (split, more, before, one) refl

pub loop-attestation-preserved : goal.loop-attestation-preserved
loop-attestation-preserved g c =
    let test = (g.S.Scheme.meaning c.args.scheme.now).attests c.args.subject in
    let item = c.attestation-item.result in
    let found = c.in_ok-found.found.invalid in
    let one : c.is_empty.result ≡ test item
    = rw (c.is_empty.ensures, found.ok.0, c.in_ok-found.ensures.sorts.failed, c.from_ref-one.ensures.value)
    (verdict test item _ (test item) refl) in
    grown test c.args.list.now c.loop-attestation.attestation-index item c.loop-attestation.verdicts.items
    c.push.new.self.items c.is_empty.result (omega arith) c.attestation-item.is c.loop-attestation.invariant
    c.in_ok-push.ensures.items one
