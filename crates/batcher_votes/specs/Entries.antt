-- What a tracker keeps of each signer, and how its entries and the votes that it keeps show what is
-- tracked.
use Rattle.std.specs.Prelude.{◌≡◌, ◌<◌, ◌^◌, ◌++◌, ◌∷◌, ◌&&◌, ℕ, Bool, true, false, not, cond}
use Rattle.std.specs.Prelude.{is_some, if◌then◌else◌, List, [], Option, Some, None, length, map}
use Rattle.std.specs.Prelude.{◌-◌, vec_len, vec_capacity}
use Rattle.std.specs.List.{AllPass, filter_map, slice_get}
use Rattle.batcher_types.specs.declared.positions.Participant.{Participant}
use Rattle.batcher_types.specs.declared.messages.Proposal.{Proposal}
use Rattle.batcher_types.specs.declared.messages.Vote.{Vote}
use Rattle.batcher_types.specs.declared.messages.Vote.TheVariants.{Notarize as NotarizeVote}
use Rattle.batcher_types.specs.declared.messages.Vote.TheVariants.{Nullify as NullifyVote}
use Rattle.batcher_types.specs.declared.messages.Vote.TheVariants.{Finalize as FinalizeVote}
use Rattle.batcher_types.specs.declared.messages.Kind.{Kind}
use Rattle.batcher_types.specs.declared.messages.Kind.TheVariants.{Notarization, Nullification}
use Rattle.batcher_types.specs.declared.messages.Kind.TheVariants.{Finalization}
use Rattle.batcher_votes.specs.declared.votes.entry.Seen.{Seen}
use Rattle.batcher_votes.specs.declared.votes.entry.Seen.TheVariants.{Nothing, Uncompared, Differs}
use Rattle.batcher_votes.specs.declared.votes.entry.Seen.TheVariants.{Matches, Kept}
use Rattle.batcher_votes.specs.declared.votes.entry.Mark.{Mark}
use Rattle.batcher_votes.specs.declared.votes.entry.Mark.TheVariants.{Nothing as NothingMark}
use Rattle.batcher_votes.specs.declared.votes.entry.Mark.TheVariants.{Uncompared as UncomparedMark}
use Rattle.batcher_votes.specs.declared.votes.entry.Mark.TheVariants.{Differs as DiffersMark}
use Rattle.batcher_votes.specs.declared.votes.entry.Mark.TheVariants.{Matches as MatchesMark}
use Rattle.batcher_votes.specs.declared.votes.entry.Mark.TheVariants.{Kept as KeptMark}
use Rattle.batcher_votes.specs.declared.votes.kept.KeptLists.{KeptLists}
use Rattle.batcher_votes.specs.declared.votes.Marks.{Marks}
use Rattle.batcher_votes.specs.declared.votes.Outcome.{Outcome}
use Rattle.batcher_votes.specs.declared.votes.Outcome.TheVariants.{Added, Duplicate, Conflicting}
use Rattle.batcher_types.specs.Ascending.{insert_by}
use Rattle.batcher_types.specs.Items.{item_of, replace_by}
use Rattle.batcher_types.specs.Lists.{count, is_some_and}
use Rattle.batcher_types.specs.Votes.{is_vote_of, has_proposals, proposal_in, subject_of}
use Rattle.batcher_votes.specs.ProposalStates.{is_selected}
use Rattle.batcher_votes.specs.RoundState.{PerKind, of_kind, Facts, TrackerState}
use Rattle.batcher_votes.specs.TrackerSteps.{Observed, unseen, from_kept, from_facts, no_facts}

abbrev pub marks_of : Marks → PerKind Bool
marks_of marks =
    record { notarize = marks.notarize; nullify = marks.nullify; finalize = marks.finalize }

-- the marks, with this kind's
abbrev pub with_mark : Kind → PerKind Bool → PerKind Bool
with_mark Notarization marks = record marks { notarize = true }
with_mark Nullification marks = record marks { nullify = true }
with_mark Finalization marks = record marks { finalize = true }

-- what is known of a signer, by kind
pub record Entry : Type 0 where
  pub signer : Participant
  pub notarize : Seen
  pub nullify : Seen
  pub finalize : Seen

-- what a mark says, with the index of the vote that is kept
abbrev pub seen_by : Mark → ℕ → Seen
seen_by NothingMark index = Nothing
seen_by UncomparedMark index = Uncompared
seen_by DiffersMark index = Differs
seen_by MatchesMark index = Matches
seen_by KeptMark index = Kept index

-- what an entry says of a kind
abbrev pub part : Kind → Entry → Seen
part Notarization entry = entry.notarize
part Nullification entry = entry.nullify
part Finalization entry = entry.finalize

-- the entry that says this of a kind, and of the others what it did
abbrev pub with_part : Kind → Seen → Entry → Entry
with_part Notarization seen entry = record entry { notarize = seen }
with_part Nullification seen entry = record entry { nullify = seen }
with_part Finalization seen entry = record entry { finalize = seen }

abbrev pub nothing_seen : Participant → Entry
nothing_seen i =
    record { signer = i; notarize = Nothing; nullify = Nothing; finalize = Nothing }

-- the number by which entries ascend
abbrev pub entry_key : Entry → ℕ
entry_key entry = entry.signer.0

-- what the signer's entry says of a kind, if it has one
abbrev pub seen_in : Kind → Option Entry → Seen
seen_in kind None = Nothing
seen_in kind (Some entry) = part kind entry

-- the signer's entry, or one that says nothing
abbrev pub entry_or_new : Participant → Option Entry → Entry
entry_or_new i None = nothing_seen i
entry_or_new i (Some entry) = entry

-- the item in the place of its signer's, or where it would be
abbrev pub put_by : {T : Type 0} → (T → ℕ) → T → List T → List T
put_by signer item items =
    if is_some (item_of signer items (signer item)) then replace_by signer item items else
    insert_by signer item items

-- the entries, of which the signer's says this of a kind
abbrev pub entries_with : Participant → Kind → Seen → List Entry → List Entry
entries_with i kind seen entries =
    put_by entry_key (with_part kind seen (entry_or_new i (item_of entry_key entries i.0))) entries

-- whether any vote was seen
abbrev pub is_any : Seen → Bool
is_any Nothing = false
is_any Uncompared = true
is_any Differs = true
is_any Matches = true
is_any (Kept index) = true

-- Whether a first vote is kept, and has an index.
abbrev pub has_index : Seen → Bool
has_index Nothing = false
has_index Uncompared = false
has_index Differs = false
has_index Matches = false
has_index (Kept index) = true

-- with one more vote that isn't kept, of which it is known whether it is for the selected proposal
abbrev pub compared : Option Bool → Seen → Seen
compared None Nothing = Uncompared
compared None Uncompared = Uncompared
compared None Differs = Differs
compared None Matches = Matches
compared None (Kept index) = Uncompared
compared (Some true) seen = Matches
compared (Some false) Nothing = Differs
compared (Some false) Uncompared = Differs
compared (Some false) Differs = Differs
compared (Some false) Matches = Matches
compared (Some false) (Kept index) = Differs

-- whether such a vote is for another proposal than an earlier one
abbrev pub differs_from : Option Bool → Seen → Bool
differs_from is_selected Nothing = false
differs_from is_selected Uncompared = false
differs_from None Differs = false
differs_from (Some is_selected) Differs = is_selected
differs_from None Matches = false
differs_from (Some is_selected) Matches = not is_selected
differs_from is_selected (Kept index) = false

-- what comes of recording one more vote, of a kind that is compacted or isn't
abbrev pub seen_outcome : Bool → Option Bool → Seen → Outcome
seen_outcome compacted is_selected Nothing = Added (not compacted)
seen_outcome compacted is_selected Uncompared = Duplicate false
seen_outcome compacted is_selected Differs =
    cond (differs_from is_selected Differs) Conflicting (Duplicate false)
seen_outcome compacted is_selected Matches =
    cond (differs_from is_selected Matches) Conflicting (Duplicate false)
seen_outcome compacted is_selected (Kept index) = Duplicate true

-- the facts of a signer's votes that aren't kept
abbrev pub facts_seen : ℕ → Seen → Option Facts
facts_seen i Nothing = None
facts_seen i Uncompared = Some (no_facts i)
facts_seen i Differs = Some (record { signer = i; has_compared = true; has_matched = false })
facts_seen i Matches = Some (record { signer = i; has_compared = true; has_matched = true })
facts_seen i (Kept index) = None

abbrev pub facts_part : Kind → Entry → Option Facts
facts_part kind entry = facts_seen entry.signer.0 (part kind entry)

-- Of a kind that is compacted entries show facts.
abbrev pub facts_among : Bool → Kind → List Entry → List Facts
facts_among true kind entries = filter_map (facts_part kind) entries
facts_among false kind entries = []

module _ {G D : Type 0} where
  -- the votes that are kept, of each kind as they came
  abbrev pub votes_in : KeptLists G D → PerKind (List (Vote G D))
  votes_in kept = record {
    notarize = map NotarizeVote kept.notarizes.items;
    nullify = map NullifyVote kept.nullifies.items;
    finalize = map FinalizeVote kept.finalizes.items;
  }

  -- for how many more votes of each kind there is room
  abbrev pub room_in : KeptLists G D → PerKind ℕ
  room_in kept = record {
    notarize = vec_capacity kept.notarizes - vec_len kept.notarizes;
    nullify = vec_capacity kept.nullifies - vec_len kept.nullifies;
    finalize = vec_capacity kept.finalizes - vec_len kept.finalizes;
  }

  -- the lists with one more vote
  abbrev pub with_vote : Vote G D → PerKind (List (Vote G D)) → PerKind (List (Vote G D))
  with_vote (NotarizeVote vote) votes =
      record votes { notarize = votes.notarize ++ NotarizeVote vote ∷ [] }
  with_vote (NullifyVote vote) votes =
      record votes { nullify = votes.nullify ++ NullifyVote vote ∷ [] }
  with_vote (FinalizeVote vote) votes =
      record votes { finalize = votes.finalize ++ FinalizeVote vote ∷ [] }

  -- the lists, with none of a kind
  abbrev pub without : Kind → PerKind (List (Vote G D)) → PerKind (List (Vote G D))
  without Notarization votes = record votes { notarize = [] }
  without Nullification votes = record votes { nullify = [] }
  without Finalization votes = record votes { finalize = [] }

  -- the vote, where it is of the kind and signer
  abbrev pub own_vote : Kind → ℕ → Option (Vote G D) → Option (Vote G D)
  own_vote kind i None = None
  own_vote kind i (Some vote) = cond (is_vote_of kind i vote) (Some vote) None

  -- the vote at an index, where there is one
  abbrev pub vote_at : List (Vote G D) → Seen → Option (Vote G D)
  vote_at votes Nothing = None
  vote_at votes Uncompared = None
  vote_at votes Differs = None
  vote_at votes Matches = None
  vote_at votes (Kept index) = slice_get votes index

  -- the proposal of a vote, where there is one
  abbrev pub proposal_at : Option (Vote G D) → Option (Proposal D)
  proposal_at None = None
  proposal_at (Some vote) = proposal_in (subject_of vote)

  -- the signer's vote of a kind, among those of the kind that are kept
  abbrev pub kept_part : List (Vote G D) → Kind → Entry → Option (Vote G D)
  kept_part votes kind entry = own_vote kind entry.signer.0 (vote_at votes (part kind entry))

  -- Of a kind that isn't compacted entries show the votes that are kept.
  abbrev pub kept_among : Bool → List (Vote G D) → Kind → List Entry → List (Vote G D)
  kept_among true votes kind entries = []
  kept_among false votes kind entries = filter_map (kept_part votes kind) entries

  -- what is tracked, by the kinds that are compacted, the votes that are kept and the entries
  abbrev pub tracked_by : PerKind Bool → PerKind (List (Vote G D)) → List Entry → TrackerState G D
  tracked_by compacted votes entries = record {
    compacted = compacted;
    kept = record {
      notarize = kept_among compacted.notarize votes.notarize Notarization entries;
      nullify = kept_among compacted.nullify votes.nullify Nullification entries;
      finalize = kept_among compacted.finalize votes.finalize Finalization entries;
    };
    facts = record {
      notarize = facts_among compacted.notarize Notarization entries;
      nullify = facts_among compacted.nullify Nullification entries;
      finalize = facts_among compacted.finalize Finalization entries;
    };
  }

  -- what an entry shows of a signer's votes of a kind
  abbrev pub observed_seen : ℕ → List (Vote G D) → Seen → Observed G D
  observed_seen i votes Nothing = unseen
  observed_seen i votes Uncompared = from_facts (facts_seen i Uncompared)
  observed_seen i votes Differs = from_facts (facts_seen i Differs)
  observed_seen i votes Matches = from_facts (facts_seen i Matches)
  observed_seen i votes (Kept index) = from_kept (slice_get votes index)

  -- Whether what is said of a signer's votes of a kind may be there. A kind that is compacted has
  -- facts and no indices, another has indices and no facts, and at each is a vote of the kind and
  -- signer. Votes that carry no proposal are never compared.
  abbrev pub may_say : Bool → Kind → List (Vote G D) → ℕ → Seen → Bool
  may_say compacted kind votes i Nothing = true
  may_say compacted kind votes i Uncompared = compacted
  may_say compacted kind votes i Differs = compacted && has_proposals kind
  may_say compacted kind votes i Matches = compacted && has_proposals kind
  may_say compacted kind votes i (Kept index) =
      not compacted && is_some_and (slice_get votes index) (is_vote_of kind i)

  -- The entries and the kept votes of a kind fit: each entry's index is that of its vote, and there
  -- are no more votes than indices.
  pub record Fits (compacted : Bool) (kind : Kind) (votes : List (Vote G D))
      (entries : List Entry) : Type 0 where
    pub each : AllPass (λ e. may_say compacted kind votes (entry_key e) (part kind e)) entries
    pub counted : length votes ≡ count (λ e. has_index (part kind e)) entries

  -- what a tracker keeps true: an index fits into 32 bits, and of each kind entries and votes fit
  pub record IsTracked (participants : ℕ) (compacted : PerKind Bool)
      (votes : PerKind (List (Vote G D))) (entries : List Entry) : Type 0 where
    pub few : participants < 2 ^ 32
    pub kinds : (kind : Kind) → Fits (of_kind compacted kind) kind (of_kind votes kind) entries

-- whether a proposal is the selected one, where there are both
abbrev pub is_selected_in : {D : Type 0} → (D → D → Bool) → Option (Proposal D)
    → Option (Proposal D) → Option Bool
is_selected_in same selected None = None
is_selected_in same selected (Some proposal) = is_selected same selected proposal

module _ {G D : Type 0} (same : D → D → Bool) where
  -- whether a vote is for the selected proposal
  abbrev pub tested : Option (Proposal D) → Vote G D → Option Bool
  tested selected vote = is_selected_in same selected (proposal_in (subject_of vote))

  -- the same of a vote, where there is one
  abbrev pub tested_at : Option (Proposal D) → Option (Vote G D) → Option Bool
  tested_at selected None = None
  tested_at selected (Some vote) = tested selected vote

  -- with facts in the place of a kept vote
  abbrev pub seen_released : Option (Proposal D) → List (Vote G D) → Seen → Seen
  seen_released selected votes Nothing = Nothing
  seen_released selected votes Uncompared = Uncompared
  seen_released selected votes Differs = Differs
  seen_released selected votes Matches = Matches
  seen_released selected votes (Kept index) =
      compared (tested_at selected (slice_get votes index)) Nothing

  abbrev pub entry_released : Option (Proposal D) → Kind → List (Vote G D) → Entry → Entry
  entry_released selected kind votes entry =
      with_part kind (seen_released selected votes (part kind entry)) entry
