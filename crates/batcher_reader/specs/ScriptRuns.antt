-- What is played of a script.
use Rattle.std.specs.Prelude.{ℕ, List}
use Rattle.std.specs.declared.cmp.Ordering.{Ordering}
use Rattle.rand_core.specs.Stream.{Stream}
use Rattle.batcher_types.specs.declared.positions.Round.{Round}
use Rattle.batcher_types.specs.declared.messages.Sha256Digest.{Sha256Digest}
use Rattle.batcher_types.specs.declared.scheme.keyed.Name.{Name}
use Rattle.batcher_votes.specs.declared.votes.Mode.{Mode}
use Rattle.batcher_histories.specs.declared.calls.Call.{Call}
use Rattle.batcher_histories.specs.declared.answers.Answer.{Answer}
use Rattle.batcher_types.specs.Hashed.{same_bytes}
use Rattle.batcher_types.specs.Meaning.{Meaning}
use Rattle.batcher_histories.specs.Config.{config}
use Rattle.batcher_votes.specs.RoundState.{RoundState}
use Rattle.batcher_histories.specs.RunContract.{IsRun}

-- The answers are those of a run of the calls on a fresh round of the number, in some mode and by
-- some order of names.
pub record IsPlayed {C : Type 0} (m : Meaning Sha256Digest Name (List ℕ) C) (number : Round)
    (calls : List (Call Name (List ℕ) C Sha256Digest))
    (answers : List (Answer (List ℕ) C Sha256Digest))
    : Type 0 where
  pub compare_names : Name → Name → Ordering
  pub mode : Mode
  pub before : Stream
  pub after : Stream
  pub held : RoundState (List ℕ) Sha256Digest
  pub ran :
      IsRun (config m compare_names same_bytes (λ a b. same_bytes a.0 b.0) number mode)
      before calls answers held after
