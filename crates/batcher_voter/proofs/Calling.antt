-- A voter goes on with a call of its node.
use Rattle.batcher_voter.proofs.Words.{◌≡◌, ◌++◌, ◌∙◌, ℕ, Bool, true, [], ◌∷◌, Option, Some, None, ap, refl, subst, sym, IfSome, MatchOption, option_and_then}
use Rattle.batcher_voter.proofs.Words.{Ordering, Meaning, round_in, subject_certified, Certificate, Subject, Epoch, Proposal, Batch, VoterEvent, VoterHistory}
use Rattle.batcher_voter.proofs.Words.{acts_of, called, conduct_of, learned_by, Conduct, learned, Participant, JournalView, Contents, proposal_forwarded}
use Rattle.batcher_voter.proofs.Words.{NodeEvent, certificate_came, constructed, slot_at, NodeConfig, NodeView, SameNode, node_config, SimulatesForward}
use Rattle.batcher_voter.proofs.Words.{NodeMeets, receipt, numbered, Receipt, Answered, Dropped, Outside, Unknown, Verdict, Forged, Known, Recorded}
use Rattle.batcher_voter.proofs.Words.{SameKnowledge, KnowledgeView, Learns, learned_at, Remembers, ForwardsProposal, AreWrittenFirst, VoterMeets, VoterStays}
use Rattle.batcher_voter.proofs.Words.{VoterView, was_recorded}
use Rattle.batcher_voter.proofs.Grounding.{highest_more, learned_more, still_highest, still_learned}

-- what a certificate leaves of votes
pub remembers_learned :
    {G D : Type 0} (s : Subject D) (past : Conduct D) (contents : Contents G D)
    → Remembers past contents → Remembers (learned s ∷ past) contents
remembers_learned s past contents has =
    record { are_there = has.are_there; no_others = has.no_others }

pub same_of :
    {D : Type 0} (old new : KnowledgeView D) → new ≡ old → SameKnowledge old new
same_of {D = D} old new e =
    record {
      epoch = ap (λ (k : KnowledgeView D). k.epoch) e;
      floor = ap (λ (k : KnowledgeView D). k.floor) e;
      highest = ap (λ (k : KnowledgeView D). k.highest) e;
      each = λ view. ap (λ (k : KnowledgeView D). learned_at k view) e;
    }

module _ {S D K G C L : Type 0} (x : NodeConfig D K G C) (old new : VoterView S G D L)
    (event : NodeEvent D K G C) (meets : NodeMeets x old.node event new.node)
    (contents : new.journal.contents ≡ old.journal.contents)
    (is_open : new.journal.is_open ≡ old.journal.is_open)
    (first : (earlier : Conduct D) (past : VoterHistory D K G C) → AreWrittenFirst earlier past
    → AreWrittenFirst earlier (called event ∷ past)) where
  -- nothing is learned by it
  pub quiet :
      acts_of (called event) ≡ [] → SameKnowledge old.knowledge new.knowledge
      → VoterMeets x old new event
  quiet none same past earlier is =
      record {
        represents = meets _ is.represents;
        are_verified = is.are_verified;
        written_first = first earlier past is.written_first;
        keeps_policy = rw (none) is.keeps_policy;
        has_learned = rw (none) (still_learned old.knowledge new.knowledge (conduct_of past) same is.has_learned);
        is_highest = rw (none) (still_highest old.knowledge new.knowledge (conduct_of past) same is.is_highest);
        remembers = λ still. rw (none, contents) (is.remembers (sym is_open ∙ still));
      }

  -- a certificate is learned by it
  pub learning :
      (s : Subject D) → acts_of (called event) ≡ learned s ∷ []
      → Learns s old.knowledge new.knowledge → (round_in s).epoch ≡ old.knowledge.epoch
      → VoterMeets x old new event
  learning s one learns same past earlier is =
      record {
        represents = meets _ is.represents;
        are_verified = is.are_verified;
        written_first = first earlier past is.written_first;
        keeps_policy = rw (one) is.keeps_policy;
        has_learned = rw (one) (learned_more s old.knowledge new.knowledge (conduct_of past) learns same is.has_learned);
        is_highest = rw (one) (highest_more s old.knowledge new.knowledge (conduct_of past) learns same is.is_highest);
        remembers = λ still. rw (one, contents)
            (remembers_learned s (conduct_of past ++ earlier) old.journal.contents
            (is.remembers (sym is_open ∙ still)));
      }

-- the same is known, and nothing happened
pub stays_voting :
    {S D K G C L : Type 0} (x : NodeConfig D K G C) (old new : VoterView S G D L)
    → new.node ≡ old.node → new.journal ≡ old.journal → SameKnowledge old.knowledge new.knowledge
    → VoterStays x old new
stays_voting x old new node journal same past earlier is =
    record {
      represents = rw (node) is.represents;
      are_verified = is.are_verified;
      written_first = is.written_first;
      keeps_policy = is.keeps_policy;
      has_learned = still_learned old.knowledge new.knowledge (conduct_of past) same is.has_learned;
      is_highest = still_highest old.knowledge new.knowledge (conduct_of past) same is.is_highest;
      remembers = rw (journal) is.remembers;
    }

module _ {D K C : Type 0} (G : Type 0) (peer : K) (certificate : Certificate C D) where
  abbrev the_event : Receipt Verdict → VoterEvent D K G C
  the_event receipt = called (certificate_came peer certificate receipt)

  pub recorded_is_learned :
      (receipt : Receipt Verdict) → was_recorded receipt ≡ true
      → acts_of (the_event receipt) ≡ learned (subject_certified certificate) ∷ []
  recorded_is_learned (Answered (Recorded changed)) e = refl
  recorded_is_learned (Answered Forged) e = absurd cc
  recorded_is_learned (Answered Known) e = absurd cc
  recorded_is_learned Outside e = absurd cc
  recorded_is_learned Dropped e = absurd cc
  recorded_is_learned Unknown e = absurd cc

-- a certificate that is given is learned, and of the view
module _ {D C : Type 0} (K G : Type 0) (c : Certificate C D) where
  abbrev given_event : ℕ → Option (Batch (Certificate C D)) → VoterEvent D K G C
  given_event view o = called (constructed view o)

  pub given_is_learned :
      (view : ℕ) (o : Option (Batch (Certificate C D)))
      → Some c ≡ option_and_then (λ batch. batch.certificate) o
      → acts_of (given_event view o) ≡ learned (subject_certified c) ∷ []
  given_is_learned view (Some batch) e = ap (λ held. learned_by held) (sym e)
  given_is_learned view None e = absurd cc

pub given_is_of :
    {C D : Type 0} (epoch : Epoch) (view : ℕ) (o : Option (Batch (Certificate C D)))
    (c : Certificate C D)
    → Some c ≡ option_and_then (λ batch. batch.certificate) o
    → IfSome o (λ batch. IfSome batch.certificate
    (λ d. round_in (subject_certified d) ≡ numbered epoch view))
    → round_in (subject_certified c) ≡ numbered epoch view
given_is_of {C = C} {D = D} epoch view (Some batch) c e is =
    subst (λ (held : Option (Certificate C D)). IfSome held
    (λ d. round_in (subject_certified d) ≡ numbered epoch view)) (sym e) is
given_is_of epoch view None c e is = absurd cc

pub same_config :
    {S D K G C : Type 0} (meaning : S → Meaning D K G C) (compare : K → K → Ordering)
    (same_signature : G → G → Bool) (same_digest : D → D → Bool) (old new : NodeView S G D)
    → SameNode old new
    → node_config meaning compare same_signature same_digest new
    ≡ node_config meaning compare same_signature same_digest old
same_config meaning compare same_signature same_digest old new same =
    rw (same.0, same.1, same.2) refl

the_voter : {S G D L : Type 0} → NodeView S G D → JournalView G D L → KnowledgeView D
    → Option (Subject D) → VoterView S G D L
the_voter node journal knowledge waits =
    record { node = node; journal = journal; knowledge = knowledge; waits = waits }

pub same_voter :
    {S G D L : Type 0} (old new : VoterView S G D L) → new.node ≡ old.node
    → new.journal ≡ old.journal → new.knowledge ≡ old.knowledge → new.waits ≡ old.waits
    → new ≡ old
unfolding the_voter
same_voter old new node journal knowledge waits =
    ap (λ n. the_voter n new.journal new.knowledge new.waits) node
    ∙ ap (λ j. the_voter old.node j new.knowledge new.waits) journal
    ∙ ap (λ k. the_voter old.node old.journal k new.waits) knowledge
    ∙ ap (λ w. the_voter old.node old.journal old.knowledge w) waits

-- a proposal is handed on
module _ {S D K G C L : Type 0} (x : NodeConfig D K G C) (old new : VoterView S G D L) (view : ℕ)
    (me : Participant) (given : Option (Proposal D)) (journal : new.journal ≡ old.journal)
    (knowledge : new.knowledge ≡ old.knowledge) (waits : new.waits ≡ old.waits) where
  by_slot :
      {X : Type 0} (slot : Option X)
      → MatchOption slot ((given ≡ None) × (new.node ≡ old.node))
      (λ s. NodeMeets x old.node (proposal_forwarded view me given) new.node)
      → MatchOption slot ((given ≡ None) × (new ≡ old))
      (λ s. VoterMeets x old new (proposal_forwarded view me given))
  by_slot None it = (it.0, same_voter old new it.1 journal knowledge waits)
  by_slot (Some s) meets =
      quiet x old new (proposal_forwarded view me given) meets
      (ap (λ (j : JournalView G D L). j.contents) journal)
      (ap (λ (j : JournalView G D L). j.is_open) journal) (λ earlier past h. h) refl
      (same_of old.knowledge new.knowledge knowledge)

  pub forwards :
      SimulatesForward x old.node view me given new.node → ForwardsProposal x old new view me given
  forwards it = by_slot (slot_at old.node.rounds view) it
