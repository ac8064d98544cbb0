-- What a validator means to vote for, over more that happened.
use Rattle.batcher_validator.proofs.Words.{◌≡◌, ◌++◌, ◌∙◌, [], ◌∷◌, refl, VoterHistory, ValidatorHistory, chosen_in, expired_in, last_to_sign, me_in, only_did}
use Rattle.batcher_validator.proofs.Words.{posed_in, unsigned_in, IntentView, IsIntent}

module _ {D K G C : Type 0} where
  -- what is of no matter to it
  pub still_intent :
      (past now : ValidatorHistory D K G C) (intent : IntentView D)
      → me_in now ≡ me_in past → last_to_sign now ≡ last_to_sign past
      → expired_in now ≡ expired_in past → chosen_in now ≡ chosen_in past
      → posed_in now ≡ posed_in past → unsigned_in now ≡ unsigned_in past
      → IsIntent past intent → IsIntent now intent
  still_intent past now intent me signs expires chooses poses refuses is =
      record {
        votes_as = me ∙ is.votes_as;
        signs = signs ∙ is.signs;
        refuses = refuses ∙ is.refuses;
        expires = expires ∙ is.expires;
        chooses = chooses ∙ is.chooses;
        poses = poses ∙ is.poses;
      }

  pub intent_more :
      (more : VoterHistory D K G C) (past : ValidatorHistory D K G C) (intent : IntentView D)
      → IsIntent past intent → IsIntent (only_did more ++ past) intent
  intent_more [] past intent is = is
  intent_more (event ∷ more) past intent is =
      still_intent (only_did more ++ past) (only_did (event ∷ more) ++ past) intent refl refl refl
      refl refl refl (intent_more more past intent is)
