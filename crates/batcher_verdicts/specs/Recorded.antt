-- Verdicts that are recorded, of one kind: on attestations that wait for a subject.
use Rattle.std.specs.Prelude.{◌≡◌, ◌<◌, ◌≤◌, ◌⊎◌, ℕ, Bool, List, ◌++◌, length, drop, map, Option}
use Rattle.std.specs.Prelude.{Some, IfSome}
use Rattle.batcher_types.specs.declared.messages.Attestation.{Attestation}
use Rattle.batcher_types.specs.declared.messages.Subject.{Subject}

-- a verdict on each attestation of a list, and of how many there is room
pub record Recorded (G D : Type 0) : Type 0 where
  pub subject : Option (Subject D)
  pub list : List (Attestation G)
  pub verdicts : List Bool
  pub room : ℕ

module _ {G D : Type 0} where
  -- Of what waits for the subject a verdict is recorded on the first ones, and on none of these
  -- others.
  pub record Begins (r : Recorded G D) (subject : Subject D)
      (waiting others : List (Attestation G)) : Type 0 where
    pub about : r.subject ≡ Some subject
    pub listed : waiting ≡ r.list ++ others

  -- On so many of what waits for the subject, from the first on, a verdict is recorded: on none,
  -- where the verdicts are of another subject or another list.
  abbrev pub IsKnown : Recorded G D → Subject D → List (Attestation G) → ℕ → Type 0
  IsKnown r subject waiting n =
      ((n ≡ length r.list) × Begins r subject waiting (drop n waiting))
      ⊎ ((n ≡ 0) × ((others : List (Attestation G)) → Begins r subject waiting others → ⊥))

  -- Each verdict is the scheme's.
  abbrev pub AreTrue : (Subject D → Attestation G → Bool) → Recorded G D → Type 0
  AreTrue attests r = IfSome r.subject (λ subject. r.verdicts ≡ map (attests subject) r.list)

  -- What is asked about of what waits for the subject: all that no verdict is recorded on.
  pub record Asks (r : Recorded G D) (subject : Subject D)
      (waiting asked : List (Attestation G)) : Type 0 where
    pub after : (others : List (Attestation G)) → Begins r subject waiting others
        → asked ≡ others
    pub all : ((others : List (Attestation G)) → Begins r subject waiting others → ⊥)
        → asked ≡ waiting

  -- Memory is needed for verdicts on a list, of what is asked about first: it isn't empty, and
  -- there is no room for a verdict on each that waits.
  pub record VerdictsNeed (r : Recorded G D) (subject : Subject D)
      (waiting list : List (Attestation G)) : Type 0 where
    pub some : 1 ≤ length list
    pub asked : (rest : List (Attestation G)) × Asks r subject waiting (list ++ rest)
    pub no_room : r.room < length waiting

  -- Verdicts on a list, of what is asked about first, are recorded after those that there are on
  -- what waits for the subject.
  pub record AddsVerdicts (old new : Recorded G D) (subject : Subject D)
      (waiting list : List (Attestation G)) (verdicts : List Bool) : Type 0 where
    pub about : new.subject ≡ Some subject
    pub listed : (others : List (Attestation G)) × (waiting ≡ new.list ++ others)
    pub after : (others : List (Attestation G)) → Begins old subject waiting others
        → (new.list ≡ old.list ++ list) × (new.verdicts ≡ old.verdicts ++ verdicts)
    pub anew : ((others : List (Attestation G)) → Begins old subject waiting others → ⊥)
        → (new.list ≡ list) × (new.verdicts ≡ verdicts)
