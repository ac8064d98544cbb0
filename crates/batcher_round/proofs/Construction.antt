-- A construction tries the first kind that is ready.
use Rattle.batcher_round.proofs.Words.{◌≡◌, Bool, true, false, Option, Some, None, is_some, Result, Ok, Err, IfOk, ap, refl, sym, Stream, Certificate, Kind}
use Rattle.batcher_round.proofs.Words.{Notarization, Nullification, Finalization, Batch, RoundState, SameTracker, SameVerifier, IfGiven, Config, AfterConstruct}
use Rattle.batcher_round.proofs.Words.{TriesHeld, is_ready_in, kind_tried, BallotsView, SameRoundState, round_with}
use Rattle.batcher_round.proofs.InRound.{tries_in_round}

-- the votes of a round are those that they were
pub same_round : {S G D : Type 0} (old new : BallotsView S G D) → SameRoundState old new
    → (SameVerifier old.verifier new.verifier) × (SameTracker old.tracker new.tracker)
    → round_with new ≡ round_with old
same_round old new held same = rw (held.0, held.1, same.0.0, same.0.1, same.1.0) refl

module _ {D K G C : Type 0} (x : Config D K G C) (held new : RoundState G D) (before after : Stream)
    (forwarded : Bool) where
  abbrev pub Constructed : Option (Batch (Certificate C D)) → Type 0
  Constructed answer =
      AfterConstruct x (record held { forwarded = forwarded }) before answer
      (record new { forwarded = forwarded }) after

  tried : (kind : Kind) → kind_tried x held ≡ Some kind → (batch : Batch (Certificate C D))
      → TriesHeld x held kind before batch new after → Constructed (Some batch)
  tried kind first batch tries = record {
    kind = kind;
    first = first;
    tried = tries_in_round x forwarded held new kind before after batch tries;
  }

  module _ (batch : Batch (Certificate C D)) where
    pub notarization_tried : is_ready_in x held Notarization ≡ true
        → TriesHeld x held Notarization before batch new after → Constructed (Some batch)
    notarization_tried ready tries = tried Notarization (rw ready refl) batch tries

    pub nullification_tried : is_ready_in x held Notarization ≡ false
        → is_ready_in x held Nullification ≡ true
        → TriesHeld x held Nullification before batch new after → Constructed (Some batch)
    nullification_tried one ready tries = tried Nullification (rw (one, ready) refl) batch tries

  -- what comes of the last kind
  pub finalization_tried : {E : Type 0} (r : Result (Option (Batch (Certificate C D))) E)
      → is_ready_in x held Notarization ≡ false → is_ready_in x held Nullification ≡ false
      → IfOk r (λ given. is_some given ≡ is_ready_in x held Finalization)
      → IfGiven r (λ batch. TriesHeld x held Finalization before batch new after)
      → (is_ready_in x held Finalization ≡ false → (new ≡ held) × (after ≡ before))
      → IfOk r Constructed
  finalization_tried (Ok (Some batch)) one two ready tries none =
      tried Finalization (rw (one, two, sym ready) refl) batch tries
  finalization_tried (Ok None) one two ready tries none =
      let idle = none (sym ready) in
      record {
        none = rw (one, two, sym ready) refl;
        held = ap (λ (h : RoundState G D). record h { forwarded = forwarded }) idle.0;
        stream = idle.1;
      }
  finalization_tried (Err e) one two ready tries none = tt
