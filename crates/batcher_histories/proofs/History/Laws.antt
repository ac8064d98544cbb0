-- What the lemmas over histories ask of a configuration: its scheme is lawful, someone takes part,
-- and digests are the same exactly where they are equal.
use Rattle.batcher_histories.proofs.Words.{◌≡◌, ◌≤◌, true, IsLawful, Config, participants_in}

pub record HasLaws {D K G C : Type 0} (x : Config D K G C) : Type 0 where
  pub scheme : IsLawful x.meaning
  pub some_participant : 1 ≤ participants_in x
  pub digests_equal : (a b : D) → x.same_digest a b ≡ true → a ≡ b
  pub digests_same : (a : D) → x.same_digest a a ≡ true

pub laws_by : {D K G C : Type 0} (x : Config D K G C) → IsLawful x.meaning → 1 ≤ participants_in x
    → ((a b : D) → x.same_digest a b ≡ true → a ≡ b) → ((a : D) → x.same_digest a a ≡ true)
    → HasLaws x
laws_by x scheme some equal same = record {
  scheme = scheme;
  some_participant = some;
  digests_equal = equal;
  digests_same = same;
}
