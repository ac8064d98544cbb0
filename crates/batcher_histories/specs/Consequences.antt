-- What follows from the definitions alone, whatever is answered: how they hang together.
use Rattle.std.specs.Prelude.{◌≡◌, ◌≤◌, ◌+◌, ◌⊎◌, ℕ, true, false, cond, ◌&&◌, [], ◌∷◌, Some}
use Rattle.std.specs.Prelude.{is_some}
use Rattle.std.specs.List.{list_any, AllPass}
use Rattle.batcher_types.specs.declared.messages.Proposal.{Proposal}
use Rattle.batcher_types.specs.declared.messages.Vote.{Vote}
use Rattle.batcher_types.specs.declared.messages.Kind.{Kind}
use Rattle.batcher_types.specs.declared.messages.Kind.TheVariants.{Nullification, Finalization}
use Rattle.batcher_votes.specs.declared.verifier.ProposalState.TheVariants.{Leader as LeadersProposal}
use Rattle.batcher_votes.specs.declared.verifier.ProposalState.TheVariants.{Certificate as FixedProposal}
use Rattle.batcher_histories.specs.Config.{Config}
use Rattle.batcher_types.specs.Lists.{EachOnce}
use Rattle.batcher_types.specs.Votes.{kind_of, signer_of, has_proposals, is_vote_of, is_for}
use Rattle.batcher_histories.specs.History.{Event, History}
use Rattle.batcher_histories.specs.FirstVotes.{first_vote}
use Rattle.batcher_histories.specs.Selection.{selection, selected_proposal, replacement}
use Rattle.batcher_histories.specs.Comparison.{conflicts}
use Rattle.batcher_histories.specs.Promises.{AtEachEvent, AtEachTime, votes_cast}
use Rattle.batcher_histories.specs.AnswerFacts.{usable_votes, carry_different}

module _ {D K G C : Type 0} (x : Config D K G C) where
  -- A fixed proposal stays selected.
  abbrev pub KeepsFixed : History D K G C → Event D K G C → Type 0
  KeepsFixed past event =
      (p : Proposal D) → selection x past ≡ FixedProposal p
      → selection x (event ∷ past) ≡ FixedProposal p

  -- The leader's proposal stays selected until one is fixed.
  abbrev pub KeepsLeaders : History D K G C → Event D K G C → Type 0
  KeepsLeaders past event =
      (p : Proposal D) → selection x past ≡ LeadersProposal p
      → (selection x (event ∷ past) ≡ LeadersProposal p)
      ⊎ ((q : Proposal D) × (selection x (event ∷ past) ≡ FixedProposal q))

  -- how often another proposal took the place of the leader's
  abbrev pub replacements : History D K G C → ℕ
  replacements [] = 0
  replacements (event ∷ past) = cond (is_some (replacement x past event)) 1 0 + replacements past

  -- What follows after each call.
  pub record FollowsThen (past : History D K G C) : Type 0 where
    -- Each signer has one usable vote of a kind at most, and all are for the selected proposal.
    pub usable_once_each : (kind : Kind) → EachOnce signer_of (usable_votes x past kind)
    pub usable_for_selected :
        (kind : Kind) (p : Proposal D) → has_proposals kind ≡ true
        → selected_proposal x past ≡ Some p
        → AllPass (is_for x.same_digest p) (usable_votes x past kind)
    -- No participant has both a first nullify and a first finalize.
    pub nullify_or_finalize :
        (i : ℕ)
        → (is_some (first_vote x past Nullification i)
        && is_some (first_vote x past Finalization i))
        ≡ false
    -- A vote that conflicts has an earlier one of its kind and signer beside it, with another
    -- proposal.
    pub conflicts_differ :
        (vote : Vote G D) → conflicts x past vote ≡ true
        → list_any
        (λ v. is_vote_of (kind_of vote) (signer_of vote) v && carry_different x.same_digest v vote)
        (votes_cast x past) ≡ true

  -- What follows of a history from the definitions. No answer can break it: that a round holds and
  -- answers what the definitions say is what makes it worth something.
  pub record FollowsByDefinition (past : History D K G C) : Type 0 where
    pub at_each_time : AtEachTime FollowsThen past
    -- A fixed proposal is never replaced, and the leader's once at most, by a fixed one.
    pub fixed_stays : AtEachEvent KeepsFixed past
    pub leaders_stays_until_fixed : AtEachEvent KeepsLeaders past
    pub replaced_at_most_once : replacements past ≤ 1
