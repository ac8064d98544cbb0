-- Where no vote is restored, no room is needed.
use Rattle.batcher_histories.proofs.Words.{◌≡◌, ◌∙◌, ◌||◌, [], List, ℕ, Bool, true, false, subst, Option, Some, refl, sym, arith, Proposal, Vote, Certificate}
use Rattle.batcher_histories.proofs.Words.{Kind, Notarization, Nullification, Finalization, Config, is_kind, has_proposals, proposal_in, kind_certified}
use Rattle.batcher_histories.proofs.Words.{subject_certified, replaces, PerKind, of_kind, VerifierState, RoundState, le_trans, is_some_and, CompletesKind}
use Rattle.batcher_histories.proofs.Words.{HasRoomFor, KeepsOtherRoom, WhereItReplaces, restored_by, restored_with}

module _ {D K G C : Type 0} (x : Config D K G C) (held : RoundState G D) (fixed : Proposal D)
    (kind : Kind) (room : PerKind ℕ) (takes : replaces x.same_digest held.buffered.selection fixed
    ≡ true) (has : has_proposals kind ≡ true) where
  abbrev pub HasRoom : Type 0
  HasRoom = HasRoomFor x.same_digest held.buffered.certified held.tracked.kept fixed room kind

  pub no_room : (proposal : Option (Proposal D)) → proposal ≡ Some fixed
      → restored_by x held proposal kind ≡ [] → HasRoom
  no_room proposal is none =
      let back = rw (is, takes, has) at none in
      λ uncertified. let short = rw uncertified at back in rw short (omega arith)

  -- the same where a certificate completes a kind
  pub no_room_with : (certificate : Certificate C D) (completed : Kind)
      (proposal : Option (Proposal D))
      → completed ≡ kind_certified certificate → proposal
      ≡ proposal_in (subject_certified certificate) → proposal ≡ Some fixed
      → is_kind kind completed ≡ false → restored_with x held certificate kind ≡ [] → HasRoom
  no_room_with certificate completed proposal kind_is proposal_is is own none =
      let other = rw kind_is at own in
      let back = rw other at none in
      no_room (proposal_in (subject_certified certificate)) (sym proposal_is ∙ is) back

is_other : (a b : Kind) → is_kind a b ≡ is_kind b a
is_other Notarization Notarization = refl
is_other Notarization Nullification = refl
is_other Notarization Finalization = refl
is_other Nullification Notarization = refl
is_other Nullification Nullification = refl
is_other Nullification Finalization = refl
is_other Finalization Notarization = refl
is_other Finalization Nullification = refl
is_other Finalization Finalization = refl

not_either : (a b : Bool) → (a || b) ≡ false → (a ≡ false) × (b ≡ false)
not_either true b h = absurd (cc)
not_either false b h = (refl, h)

-- The room that was made is there once a kind is completed, whose own room was given back.
pub room_left : {G D : Type 0} (same : D → D → Bool) (old mid : VerifierState G D)
    (completed : Kind)
    (kept : PerKind (List (Vote G D))) (proposal : Option (Proposal D))
    (room verified new_room new_verified : PerKind ℕ) → CompletesKind same old completed mid
    → KeepsOtherRoom completed room verified new_room new_verified
    → WhereItReplaces same old.selection proposal (λ fixed kind.
    is_some_and (Some completed) (is_kind kind) ≡ false
    → HasRoomFor same old.certified kept fixed room kind)
    → WhereItReplaces same mid.selection proposal (λ fixed kind.
    HasRoomFor same mid.certified kept fixed new_room kind)
room_left same old mid completed kept proposal room verified new_room new_verified completes keeps made =
    λ fixed is takes kind has uncertified.
    let parts = not_either (is_kind completed kind) (of_kind old.certified kind) (sym (completes.certified kind) ∙ uncertified) in
    let replaced = subst (λ s. replaces same s fixed ≡ true) completes.selection takes in
    le_trans (made fixed is replaced kind has (is_other kind completed ∙ parts.0) parts.1) (keeps.pending kind parts.0)
