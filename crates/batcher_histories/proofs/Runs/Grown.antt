-- Runs that grow by one call.
use Rattle.batcher_histories.proofs.Words.{◌++◌, ◌∷◌, [], List, refl, subst, Stream, Call, Answer, Config, RoundState, Steps, Runs}

module _ {D K G C : Type 0} (x : Config D K G C) where
  pub Runs-push : (old : RoundState G D) (before : Stream) (calls : List (Call K G C D))
      (answers : List (Answer G C D)) (middle : RoundState G D) (stream : Stream)
      (call : Call K G C D)
      (answer : Answer G C D) (new : RoundState G D) (after : Stream)
      → Runs x old before calls answers middle stream → Steps x middle stream call answer new after
      → Runs x old before (calls ++ call ∷ []) (answers ++ answer ∷ []) new after
  Runs-push old before [] [] middle stream call answer new after h step =
      (new, (after, (subst (λ s. Steps x old s call answer new after) h.1 (subst (λ m. Steps x m stream call answer new after) h.0 step), (refl, refl))))
  Runs-push old before [] (a ∷ answers) middle stream call answer new after h step = absurd h
  Runs-push old before (c ∷ calls) [] middle stream call answer new after h step = absurd h
  Runs-push old before (c ∷ calls) (a ∷ answers) middle stream call answer new after h step =
      (h.0, (h.1.0, (h.1.1.0, Runs-push h.0 h.1.0 calls answers middle stream call answer new after h.1.1.1 step)))
