-- Whole lists of calls: what represents each, and that each is answered as the history before it
-- says.
use Rattle.batcher_histories.proofs.Words.{◌≡◌, Bool, true, false, cond, List, [], ◌∷◌, ◌++◌, refl, sym, subst, MatchBool, Call, Answer, Config, RoundState}
use Rattle.batcher_histories.proofs.Words.{History, is_made, history_after, history_from, MayAnswer, IsAnswered, AreAnswered, Represents, Simulates, Meets}

module _ {D K G C : Type 0} (x : Config D K G C) where
  -- a call that meets the model leaves what represents the history with it
  pub meets_represents : (past : History D K G C) (old : RoundState G D) (call : Call K G C D)
      (answer : Answer G C D) (new : RoundState G D) → Represents x past old
      → Meets x past old (call, answer) new →
      Represents x (history_after past call answer) new
  meets_represents past old call answer new represents meets = by_made (is_made answer) meets
    where
      by_made : (made : Bool) → MatchBool made (Simulates x past old (call, answer) new) (new ≡ old)
          → Represents x (cond made ((call, answer) ∷ past) past) new
      by_made true simulates = simulates.represents
      by_made false same = subst (Represents x past) (sym same) represents

  -- one more call behind others, each with its answer
  pub history-push : (past : History D K G C) (calls : List (Call K G C D))
      (answers : List (Answer G C D)) (call : Call K G C D) (answer : Answer G C D)
      → AreAnswered x past calls answers →
      history_from past (calls ++ call ∷ []) (answers ++ answer ∷ [])
      ≡ history_after (history_from past calls answers) call answer
  history-push past [] [] call answer answered = refl
  history-push past [] (a ∷ answers) call answer answered = absurd answered
  history-push past (c ∷ calls) [] call answer answered = absurd answered
  history-push past (c ∷ calls) (a ∷ answers) call answer answered = history-push (history_after past c a) calls answers call answer answered.1

  pub answered-push : (past : History D K G C) (calls : List (Call K G C D))
      (answers : List (Answer G C D)) (call : Call K G C D) (answer : Answer G C D)
      → AreAnswered x past calls answers →
      IsAnswered x (history_from past calls answers) call answer
      → AreAnswered x past (calls ++ call ∷ []) (answers ++ answer ∷ [])
  answered-push past [] [] call answer before now = (now, tt)
  answered-push past [] (a ∷ answers) call answer before now = absurd before
  answered-push past (c ∷ calls) [] call answer before now = absurd before
  answered-push past (c ∷ calls) (a ∷ answers) call answer before now =
      (before.0, answered-push (history_after past c a) calls answers call answer before.1 now)

module _ {D K G C : Type 0} (x : Config D K G C) where
  -- A call that is followed is answered as the history names.
  pub named : {past : History D K G C} {old : RoundState G D} {call : Call K G C D}
      {answer : Answer G C D} {new : RoundState G D} → Simulates x past old (call, answer) new →
      Simulates x past old (call, answer) new × MayAnswer x past call answer
  named simulates = (simulates, simulates.represents.possible.1.1.0)
