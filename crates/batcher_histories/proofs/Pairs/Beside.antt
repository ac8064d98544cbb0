-- Two rounds after alike histories are beside each other.
use Rattle.batcher_histories.proofs.Words.{Retaining, Releasing, Config, History, IsPossible, in_mode, IsBeside}
use Rattle.batcher_histories.proofs.Pairs.Alike.{AreAlike}
use Rattle.batcher_histories.proofs.History.Laws.{HasLaws}
use Rattle.batcher_histories.proofs.Pairs.Blocked.{selects_alike, blocked_by_both, blocked_by_one}
use Rattle.batcher_histories.proofs.Pairs.Missing.{missing_in_both}

module _ {D K G C : Type 0} (x : Config D K G C) where
  pub beside_of : HasLaws x → (retained released : History D K G C) → AreAlike retained released
      → IsPossible (in_mode x Retaining) retained → IsPossible (in_mode x Releasing) released
      → IsBeside x retained released
  beside_of laws retained released alike possible also =
      record {
        select_alike = selects_alike x retained released alike;
        blocked_by_both = blocked_by_both x laws retained released alike possible also;
        blocked_by_one = blocked_by_one x laws retained released alike possible also;
        missing_in_both = missing_in_both x laws retained released alike possible also;
      }
