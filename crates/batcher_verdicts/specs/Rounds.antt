-- The verdicts of a round, one record a kind.
use Rattle.std.specs.Prelude.{◌≡◌, ◌≢◌, Bool, List, [], ◌++◌, Some}
use Rattle.batcher_types.specs.declared.messages.Attestation.{Attestation}
use Rattle.batcher_types.specs.declared.messages.Kind.{Kind}
use Rattle.batcher_types.specs.declared.messages.Kind.TheVariants.{Notarization, Nullification}
use Rattle.batcher_types.specs.declared.messages.Kind.TheVariants.{Finalization}
use Rattle.batcher_types.specs.declared.messages.Subject.{Subject}
use Rattle.batcher_types.specs.declared.messages.Subject.TheVariants.{Notarize, Nullify, Finalize}
use Rattle.batcher_votes.specs.RoundState.{PerKind, of_kind, RoundState}
use Rattle.batcher_histories.specs.Config.{Config}
use Rattle.batcher_round.specs.Next.{subject_next, pending_next}
use Rattle.batcher_verdicts.specs.Recorded.{Recorded, Asks, AreTrue, AddsVerdicts, VerdictsNeed}

-- the kind of the votes that attest it
abbrev pub kind_attested : {D : Type 0} → Subject D → Kind
kind_attested (Notarize proposal) = Notarization
kind_attested (Nullify round) = Nullification
kind_attested (Finalize proposal) = Finalization

module _ {G D : Type 0} where
  -- those on what attests the subject
  abbrev pub recorded_of : PerKind (Recorded G D) → Subject D → Recorded G D
  recorded_of all subject = of_kind all (kind_attested subject)

  -- Each verdict is the scheme's.
  abbrev pub AllTrue : (Subject D → Attestation G → Bool) → PerKind (Recorded G D) → Type 0
  AllTrue attests all = (kind : Kind) → AreTrue attests (of_kind all kind)

  module _ {K C : Type 0} (x : Config D K G C) (held : RoundState G D)
      (all : PerKind (Recorded G D)) where
    -- The next construction of a round is about the subject, and a verdict is wanted on these.
    pub record AsksNext (subject : Subject D) (asked : List (Attestation G)) : Type 0 where
      pub next : subject_next x held ≡ Some subject
      pub asks : Asks (recorded_of all subject) subject (pending_next x held) asked

    -- A verdict is recorded on each attestation that the next construction of a round looks at, or
    -- it looks at none.
    abbrev pub AreComplete : Subject D → Type 0
    AreComplete subject = AsksNext subject []

  -- Verdicts on a list, of what the next construction asks about first, are recorded, and all on
  -- other kinds stay.
  pub record Records {K C : Type 0} (x : Config D K G C) (held : RoundState G D)
      (old new : PerKind (Recorded G D)) (subject : Subject D) (list : List (Attestation G))
      (verdicts : List Bool) : Type 0 where
    pub asked : (rest : List (Attestation G)) × AsksNext x held old subject (list ++ rest)
    pub adds : AddsVerdicts (recorded_of old subject) (recorded_of new subject) subject
        (pending_next x held) list verdicts
    pub others : (kind : Kind) → kind ≢ kind_attested subject → of_kind new kind ≡ of_kind old kind

  -- Memory is needed to record them.
  pub record RecordingNeeds {K C : Type 0} (x : Config D K G C) (held : RoundState G D)
      (all : PerKind (Recorded G D)) (subject : Subject D) (list : List (Attestation G))
      : Type 0 where
    pub next : subject_next x held ≡ Some subject
    pub needs : VerdictsNeed (recorded_of all subject) subject (pending_next x held) list

  -- Those on what attests the subject are forgotten, and all on other kinds stay.
  pub record ForgetsVerdicts (old new : PerKind (Recorded G D)) (subject : Subject D) : Type 0 where
    pub forgotten : (recorded_of new subject).list ≡ []
    pub others : (kind : Kind) → kind ≢ kind_attested subject → of_kind new kind ≡ of_kind old kind
