-- A validator goes on with what it is answered, and with what it gives to be signed, made and judged.
use Rattle.batcher_validator.proofs.Words.{◌≡◌, ℕ, ◌∷◌, Some, ap, refl, max, Proposal, Subject, View, Conduct, NodeConfig, ValidatorHistory, chose, expired}
use Rattle.batcher_validator.proofs.Words.{◌∙◌, numbered, gave_up, refused, Epoch, Round}
use Rattle.batcher_validator.proofs.Words.{gave, later_of, with_refused, IntentView, IsRunning, ValidatorView, MayGive, Judge, Propose, Sign}
use Rattle.batcher_validator.proofs.Keeping.{kept_still}

-- A proposal of these parts.
pub proposal_is :
    {D : Type 0} (p : Proposal D) (epoch here : Epoch) (view parent : View) (payload : D)
    → p.round ≡ record { epoch = epoch; view = view } → epoch ≡ here → p.parent ≡ parent
    → p.payload ≡ payload
    → p ≡ record { round = numbered here view.0; parent = parent; payload = payload }
proposal_is {D = D} p epoch here view parent payload round same at with =
    ap (λ r. made r p.parent p.payload) (round ∙ ap (λ e. numbered e view.0) same)
    ∙ ap (λ v. made (numbered here view.0) v p.payload) at
    ∙ ap (λ d. made (numbered here view.0) parent d) with
  where
    made : Round → View → D → Proposal D
    made r v d = record { round = r; parent = v; payload = d }

module _ {S D K G C L : Type 0} (x : NodeConfig D K G C) (old new : ValidatorView S G D L C)
    (intent : IntentView D) (given : new.given ≡ record old.given { intent = intent })
    (voter : new.voter ≡ old.voter) (shelf : new.shelf ≡ old.shelf) where
  -- it means to vote for something else
  module _ (past : ValidatorHistory D K G C) (earlier : Conduct D) (is : IsRunning x past earlier old) where
    pub chooses :
        (p : Proposal D) → intent ≡ record old.given.intent {
          chosen = later_of old.given.intent.chosen p;
        }
        → IsRunning x (chose p ∷ past) earlier new
    chooses p to =
        record {
          voting = rw (voter) is.voting;
          in_turn = is.in_turn;
          blocks = rw (given) is.blocks;
          calms = rw (given) is.calms;
          finals = rw (given) is.finals;
          votes = rw (voter, given) is.votes;
          votes_again = rw (voter, given) is.votes_again;
          resends = rw (given) is.resends;
          begins = rw (voter, given) is.begins;
          casts = rw (voter, given) is.casts;
          kept = rw (shelf) (kept_still x past (chose p ∷ past) refl old.shelf.certificates (λ c had. had) (λ c had. had) is.kept);
          certificates = rw (shelf) is.certificates;
          asks = rw (given) is.asks;
          verifies = rw (given) is.verifies;
          forwards = rw (given) is.forwards;
          intends = rw (given, to) record {
            votes_as = is.intends.votes_as;
            signs = is.intends.signs;
            refuses = is.intends.refuses;
            expires = is.intends.expires;
            chooses = ap (λ before. later_of before p) is.intends.chooses;
            poses = is.intends.poses;
          };
          decides = rw (given) is.decides;
          hears = rw (given) is.hears;
        }

    pub expires :
        (view : ℕ) → intent ≡ record old.given.intent {
          expired = max old.given.intent.expired view;
        }
        → IsRunning x (expired view ∷ past) earlier new
    expires view to =
        record {
          voting = rw (voter) is.voting;
          in_turn = is.in_turn;
          blocks = rw (given) is.blocks;
          calms = rw (given) is.calms;
          finals = rw (given) is.finals;
          votes = rw (voter, given) is.votes;
          votes_again = rw (voter, given) is.votes_again;
          resends = rw (given) is.resends;
          begins = rw (voter, given) is.begins;
          casts = rw (voter, given) is.casts;
          kept = rw (shelf) (kept_still x past (expired view ∷ past) refl old.shelf.certificates (λ c had. had) (λ c had. had) is.kept);
          certificates = rw (shelf) is.certificates;
          asks = rw (given) is.asks;
          verifies = rw (given) is.verifies;
          forwards = rw (given) is.forwards;
          intends = rw (given, to) record {
            votes_as = is.intends.votes_as;
            signs = is.intends.signs;
            refuses = is.intends.refuses;
            expires = ap (λ before. max before view) is.intends.expires;
            chooses = is.intends.chooses;
            poses = is.intends.poses;
          };
          decides = rw (given) is.decides;
          hears = rw (given) is.hears;
        }

    pub gives_up :
        (view : ℕ) → intent ≡ record old.given.intent {
          expired = max old.given.intent.expired view;
        }
        → IsRunning x (gave_up view ∷ past) earlier new
    gives_up view to =
        record {
          voting = rw (voter) is.voting;
          in_turn = is.in_turn;
          blocks = rw (given) is.blocks;
          calms = rw (given) is.calms;
          finals = rw (given) is.finals;
          votes = rw (voter, given) is.votes;
          votes_again = rw (voter, given) is.votes_again;
          resends = rw (given) is.resends;
          begins = rw (voter, given) is.begins;
          casts = rw (voter, given) is.casts;
          kept = rw (shelf) (kept_still x past (gave_up view ∷ past) refl old.shelf.certificates (λ c had. had) (λ c had. had) is.kept);
          certificates = rw (shelf) is.certificates;
          asks = rw (given) is.asks;
          verifies = rw (given) is.verifies;
          forwards = rw (given) is.forwards;
          intends = rw (given, to) record {
            votes_as = is.intends.votes_as;
            signs = is.intends.signs;
            refuses = is.intends.refuses;
            expires = ap (λ before. max before view) is.intends.expires;
            chooses = is.intends.chooses;
            poses = is.intends.poses;
          };
          decides = rw (given) is.decides;
          hears = rw (given) is.hears;
        }

    pub refuses :
        (s : Subject D) → intent ≡ record old.given.intent {
          unsigned = with_refused old.given.intent.unsigned s;
        }
        → IsRunning x (refused s ∷ past) earlier new
    refuses s to =
        record {
          voting = rw (voter) is.voting;
          in_turn = is.in_turn;
          blocks = rw (given) is.blocks;
          calms = rw (given) is.calms;
          finals = rw (given) is.finals;
          votes = rw (voter, given) is.votes;
          votes_again = rw (voter, given) is.votes_again;
          resends = rw (given) is.resends;
          begins = rw (voter, given) is.begins;
          casts = rw (voter, given) is.casts;
          kept = rw (shelf) (kept_still x past (refused s ∷ past) refl old.shelf.certificates (λ c had. had) (λ c had. had) is.kept);
          certificates = rw (shelf) is.certificates;
          asks = rw (given) is.asks;
          verifies = rw (given) is.verifies;
          forwards = rw (given) is.forwards;
          intends = rw (given, to) record {
            votes_as = is.intends.votes_as;
            signs = is.intends.signs;
            refuses = ap (λ before. with_refused before s) is.intends.refuses;
            expires = is.intends.expires;
            chooses = is.intends.chooses;
            poses = is.intends.poses;
          };
          decides = rw (given) is.decides;
          hears = rw (given) is.hears;
        }

    pub signs :
        (s : Subject D) → intent ≡ record old.given.intent { signing = Some s }
        → MayGive x earlier past (Sign s) → IsRunning x (gave (Sign s) ∷ past) earlier new
    signs s to may =
        record {
          voting = rw (voter) is.voting;
          in_turn = (may, is.in_turn);
          blocks = rw (given) is.blocks;
          calms = rw (given) is.calms;
          finals = rw (given) is.finals;
          votes = rw (voter, given) is.votes;
          votes_again = rw (voter, given) is.votes_again;
          resends = rw (given) is.resends;
          begins = rw (voter, given) is.begins;
          casts = rw (voter, given) is.casts;
          kept = rw (shelf) (kept_still x past (gave (Sign s) ∷ past) refl old.shelf.certificates (λ c had. had) (λ c had. had) is.kept);
          certificates = rw (shelf) is.certificates;
          asks = rw (given) is.asks;
          verifies = rw (given) is.verifies;
          forwards = rw (given) is.forwards;
          intends = rw (given, to) record {
            votes_as = is.intends.votes_as;
            signs = refl;
            refuses = is.intends.refuses;
            expires = is.intends.expires;
            chooses = is.intends.chooses;
            poses = is.intends.poses;
          };
          decides = rw (given) is.decides;
          hears = rw (given) is.hears;
        }

    pub proposes :
        (view parent : View) → intent ≡ record old.given.intent { posed = view.0 }
        → MayGive x earlier past (Propose view parent)
        → IsRunning x (gave (Propose view parent) ∷ past) earlier new
    proposes view parent to may =
        record {
          voting = rw (voter) is.voting;
          in_turn = (may, is.in_turn);
          blocks = rw (given) is.blocks;
          calms = rw (given) is.calms;
          finals = rw (given) is.finals;
          votes = rw (voter, given) is.votes;
          votes_again = rw (voter, given) is.votes_again;
          resends = rw (given) is.resends;
          begins = rw (voter, given) is.begins;
          casts = rw (voter, given) is.casts;
          kept = rw (shelf) (kept_still x past (gave (Propose view parent) ∷ past) refl old.shelf.certificates (λ c had. had) (λ c had. had) is.kept);
          certificates = rw (shelf) is.certificates;
          asks = rw (given) is.asks;
          verifies = rw (given) is.verifies;
          forwards = rw (given) is.forwards;
          intends = rw (given, to) record {
            votes_as = is.intends.votes_as;
            signs = is.intends.signs;
            refuses = is.intends.refuses;
            expires = is.intends.expires;
            chooses = is.intends.chooses;
            poses = refl;
          };
          decides = rw (given) is.decides;
          hears = rw (given) is.hears;
        }

    pub judges :
        (p : Proposal D) → intent ≡ record old.given.intent { posed = p.round.view.0 }
        → MayGive x earlier past (Judge p) → IsRunning x (gave (Judge p) ∷ past) earlier new
    judges p to may =
        record {
          voting = rw (voter) is.voting;
          in_turn = (may, is.in_turn);
          blocks = rw (given) is.blocks;
          calms = rw (given) is.calms;
          finals = rw (given) is.finals;
          votes = rw (voter, given) is.votes;
          votes_again = rw (voter, given) is.votes_again;
          resends = rw (given) is.resends;
          begins = rw (voter, given) is.begins;
          casts = rw (voter, given) is.casts;
          kept = rw (shelf) (kept_still x past (gave (Judge p) ∷ past) refl old.shelf.certificates (λ c had. had) (λ c had. had) is.kept);
          certificates = rw (shelf) is.certificates;
          asks = rw (given) is.asks;
          verifies = rw (given) is.verifies;
          forwards = rw (given) is.forwards;
          intends = rw (given, to) record {
            votes_as = is.intends.votes_as;
            signs = is.intends.signs;
            refuses = is.intends.refuses;
            expires = is.intends.expires;
            chooses = is.intends.chooses;
            poses = refl;
          };
          decides = rw (given) is.decides;
          hears = rw (given) is.hears;
        }
