-- Why no validator is made, by what it isn't started for.
use Rattle.batcher_ffi.proofs.Words.{◌≡◌, ℕ, Bool, List, Err, refl, subst, owner_format, Version, AreDamaged, OTHER_OWNER, OTHER_VERSION, DAMAGED}
use Rattle.std.specs.Prelude.{◌≢◌, ◌||◌, ◌==◌, true, false, [], Result, Ok, IfErr, MatchBool}
use Rattle.batcher_ffi.specs.Validators.{AreWithin, IsOthers, WhyNotMade, owner_in, start_codes}
use Rattle.batcher_ffi.specs.Rounds.{is_one_of}
use Rattle.batcher_ffi.specs.declared.codes.TheConstants.{BEGUN, MALFORMED, NOT_BEGUN}
use Rattle.batcher_ffi.specs.declared.starting.ValidatorOptions.{ValidatorOptions}

or_more : (a b c : Bool) → c ≡ true → (a || (b || c)) ≡ true
or_more true b c e = refl
or_more false true c e = refl
or_more false false c e = e

no_malformed : (code : ℕ) → is_one_of start_codes code ≡ true → code ≡ MALFORMED → ⊥
no_malformed code codes is =
    let wrong : is_one_of start_codes MALFORMED ≡ true =
    subst (λ n. is_one_of start_codes n ≡ true) is codes in
    absurd cc

not_begun_before : (code : ℕ) → is_one_of start_codes code ≡ true → code ≡ BEGUN → ⊥
not_begun_before code codes is =
    let wrong : is_one_of start_codes BEGUN ≡ true =
    subst (λ n. is_one_of start_codes n ≡ true) is codes in
    absurd cc

pub not_made : {L : Type 0} (options : ValidatorOptions) (namespace disk : List ℕ)
    (result : Result L ℕ)
    → AreWithin options
    → MatchBool options.begins (disk ≡ []) (disk ≢ [])
    → IfErr result (λ code. is_one_of start_codes code ≡ true)
    → IfErr result (λ code. code ≡ NOT_BEGUN → disk ≡ [])
    → IfErr result (λ code. code ≡ OTHER_OWNER → IsOthers options (owner_in options namespace) disk)
    → IfErr result (λ code. code ≡ OTHER_VERSION → owner_format.decoding disk ≡ Err Version)
    → IfErr result (λ code. code ≡ DAMAGED → AreDamaged (owner_in options namespace) disk)
    → IfErr result (WhyNotMade options namespace disk)
not_made options namespace disk (Ok it) within begins codes none others version damaged = tt
not_made options namespace disk (Err code) within begins codes none others version damaged =
    record {
      codes = or_more (MALFORMED == code) (BEGUN == code) (is_one_of start_codes code) codes;
      malformed = λ is _. absurd (no_malformed code codes is);
      begun = λ is. absurd (not_begun_before code codes is);
      not_begun = none;
      others = others;
      other_version = version;
      damaged = damaged;
      needed = λ is. (within, begins);
    }
