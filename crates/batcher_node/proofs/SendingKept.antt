-- Another node goes on hearing of a participant just what its own answers as to be sent.
use Rattle.batcher_node.proofs.Words.{◌≡◌, ◌==◌, ◌<◌, ℕ, Bool, true, ◌||◌, List, [], ◌∷◌, Some, None, refl, sym, ap, ◌∙◌, subst, length, All, list_any, eq-eqb}
use Rattle.batcher_node.proofs.Words.{or_right, All-cons, All-head, All-tail, All-nil, Vote, Activity, Admission, Outcome, Ordering, Meaning, signer_of}
use Rattle.batcher_node.proofs.Words.{IsAmong, Receipt, NodeEvent, vote_came, certificate_came, vote_cast, NodeHistory, ToSend, NodeView, NodeConfig, SameNode}
use Rattle.batcher_node.proofs.Words.{node_config, cause_at, NodeRepresents, NodeMeets, SimulatesCast, votes_to_send, HearsOnly, SendsWhatIsToSend}
use Rattle.batcher_node.proofs.Words.{forgery_came, HearsWhatIsToSend}
use Rattle.batcher_node.specs.declared.answers.Cast.TheVariants.{Known}

module _ {D K G C : Type 0} (y : NodeConfig D K G C) (i : ℕ) where
  among_more : (vote more : Vote G D) (votes : List (Vote G D)) → IsAmong vote votes
      → IsAmong vote (more ∷ votes)
  among_more vote more votes among test passes = or_right (test more) _ (among test passes)

  hears_by_more : (more : Vote G D) (votes : List (Vote G D)) (event : NodeEvent D K G C)
      → HearsOnly y votes i event → HearsOnly y (more ∷ votes) i event
  hears_by_more more votes (vote_came peer vote receipt) hears =
      λ is. among_more vote more votes (hears is)
  hears_by_more more votes (certificate_came peer certificate receipt) hears = hears
  hears_by_more more votes (forgery_came peer certificate) hears = hears
  hears_by_more more votes (vote_cast vote outcome report) hears = hears
  hears_by_more more votes event hears = tt

  hears_more : (more : Vote G D) (votes : List (Vote G D)) (heard : NodeHistory D K G C)
      → All (HearsOnly y votes i) heard → All (HearsOnly y (more ∷ votes) i) heard
  hears_more more votes [] hears = All-nil (HearsOnly y (more ∷ votes) i)
  hears_more more votes (event ∷ past) hears =
      All-cons (HearsOnly y (more ∷ votes) i) event past
      (hears_by_more more votes event (All-head (HearsOnly y votes i) event past hears))
      (hears_more more votes past (All-tail (HearsOnly y votes i) event past hears))

  -- One more of its votes is to be sent.
  pub more_to_send : (sent heard : NodeHistory D K G C) (vote : Vote G D) (outcome : Outcome)
      (report : Activity G D) → signer_of vote ≡ i → SendsWhatIsToSend y sent heard i
      → SendsWhatIsToSend y (vote_cast vote outcome (Some report) ∷ sent) heard i
  more_to_send sent heard vote outcome report own sends =
      record {
        own_are_signed =
            All-cons (λ v. (signer_of v == i) ≡ true) vote (votes_to_send sent)
            (eq-eqb (signer_of vote) i own) sends.own_are_signed;
        heard_only = hears_more vote (votes_to_send sent) heard sends.heard_only;
      }

  -- The other node hears it.
  pub hears_it : (sent heard : NodeHistory D K G C) (vote : Vote G D) (outcome : Outcome)
      (report : Activity G D) (peer : K) (receipt : Receipt (Admission G D))
      → SendsWhatIsToSend y (vote_cast vote outcome (Some report) ∷ sent) heard i
      → SendsWhatIsToSend y (vote_cast vote outcome (Some report) ∷ sent)
      (vote_came peer vote receipt ∷ heard) i
  hears_it sent heard vote outcome report peer receipt sends =
      record {
        own_are_signed = sends.own_are_signed;
        heard_only =
            All-cons (HearsOnly y (vote ∷ votes_to_send sent) i) (vote_came peer vote receipt) heard
            (λ is test passes. ap (λ b. b || list_any test (votes_to_send sent)) passes)
            sends.heard_only;
      }

module _ {S D K G C : Type 0} (x y : NodeConfig D K G C) (own new other newer : NodeView S G D) where
  -- An own vote that isn't to be sent changes nothing of it,
  pub keeps_known : (vote : Vote G D) → SimulatesCast x own vote Known new → (i : ℕ)
      → HearsWhatIsToSend x y own other i → HearsWhatIsToSend x y new other i
  keeps_known vote meets i h =
      record {
        sent = vote_cast vote meets.0 None ∷ h.sent;
        heard = h.heard;
        own_represents = meets.1 h.sent h.own_represents;
        other_represents = h.other_represents;
        sends =
            record {
              own_are_signed = h.sends.own_are_signed;
              heard_only = h.sends.heard_only;
            };
      }

  -- nor does one that is,
  pub keeps_unheard : (vote : Vote G D) (report : Activity G D)
      → SimulatesCast x own vote (ToSend report) new
      → HearsWhatIsToSend x y own other (signer_of vote)
      → HearsWhatIsToSend x y new other (signer_of vote)
  keeps_unheard vote report meets h =
      record {
        sent = vote_cast vote meets.0 (Some report) ∷ h.sent;
        heard = h.heard;
        own_represents = meets.1 h.sent h.own_represents;
        other_represents = h.other_represents;
        sends = more_to_send y (signer_of vote) h.sent h.heard vote meets.0 report refl h.sends;
      }

  -- also where the other node hears it.
  pub keeps_heard : (vote : Vote G D) (report : Activity G D) (peer : K)
      (receipt : Receipt (Admission G D)) → SimulatesCast x own vote (ToSend report) new
      → NodeMeets y other (vote_came peer vote receipt) newer
      → HearsWhatIsToSend x y own other (signer_of vote)
      → HearsWhatIsToSend x y new newer (signer_of vote)
  keeps_heard vote report peer receipt meets other_meets h =
      let i = signer_of vote in
      record {
        sent = vote_cast vote meets.0 (Some report) ∷ h.sent;
        heard = vote_came peer vote receipt ∷ h.heard;
        own_represents = meets.1 h.sent h.own_represents;
        other_represents = other_meets h.heard h.other_represents;
        sends =
            hears_it y i h.sent h.heard vote meets.0 report peer receipt
            (more_to_send y i h.sent h.heard vote meets.0 report refl h.sends);
      }

module _ {S D K G C : Type 0} (meaning : S → Meaning D K G C) (compare_keys : K → K → Ordering)
    (same_signature : G → G → Bool) (same_digest : D → D → Bool) where
  abbrev config_by : NodeView S G D → NodeConfig D K G C
  config_by node = node_config meaning compare_keys same_signature same_digest node

  judged_alike : (old new : NodeView S G D) → SameNode old new → config_by old ≡ config_by new
  judged_alike old new same =
      ap (λ s. config_by (record old { scheme = s })) (sym same.0)
      ∙ ap (λ e. config_by (record old { scheme = new.scheme; epoch = e })) (sym same.1)
      ∙ ap (λ r. config_by (record old { scheme = new.scheme; epoch = new.epoch; retains = r })) (sym same.2)

  -- What isn't blocked in the configurations that nodes have isn't in those that they had.
  pub still_unblocked :
      ((own other : NodeView S G D) → meaning other.scheme ≡ meaning own.scheme
      → (sent heard : NodeHistory D K G C) → NodeRepresents (config_by own) sent own
      → NodeRepresents (config_by other) heard other → (i : ℕ)
      → i < length (meaning own.scheme).participants
      → SendsWhatIsToSend (config_by other) sent heard i → cause_at other.blocked i ≡ None)
      → (own new other newer : NodeView S G D) → SameNode own new → SameNode other newer
      → meaning other.scheme ≡ meaning own.scheme → (i : ℕ)
      → i < length (meaning own.scheme).participants
      → HearsWhatIsToSend (config_by own) (config_by other) new newer i → cause_at newer.blocked i
      ≡ None
  still_unblocked rule own new other newer same other_same alike i within h =
      rule new newer
      (ap meaning other_same.0 ∙ alike ∙ ap meaning (sym same.0))
      h.sent h.heard
      (subst (λ x. NodeRepresents x h.sent new) (judged_alike own new same) h.own_represents)
      (subst (λ y. NodeRepresents y h.heard newer) (judged_alike other newer other_same) h.other_represents)
      i
      (subst (λ s. i < length (meaning s).participants) (sym same.0) within)
      (subst (λ y. SendsWhatIsToSend y h.sent h.heard i) (judged_alike other newer other_same) h.sends)
