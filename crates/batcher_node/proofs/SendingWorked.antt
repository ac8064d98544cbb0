-- The examples of a participant that sends what is to be sent are computed.
use Rattle.batcher_node.proofs.Words.{◌≡◌, ◌==◌, Bool, true, false, ◌||◌, refl, arith, ap, All-from_recursion, AllPass-from_list_all, or_left, signer_of}
use Rattle.batcher_node.proofs.Words.{votes_to_send, HearsOnly, of_four, sent, heard, SendingExamples}
use Rattle.batcher.specs.Keys.{index_of}

second_of : (a b c : Bool) → b ≡ true → (a || (b || c)) ≡ true
second_of true b c h = refl
second_of false b c h = ap (λ d. d || c) h

pub computed : SendingExamples
unfolding index_of
computed =
    record {
      two_to_send = refl;
      answered_rightly = (
        ((refl, (refl, refl)), ((refl, (refl, refl)), ((refl, (refl, refl)), ((omega arith, refl), (refl, tt))))),
        (refl, (refl, (refl, ((refl, (refl, refl)), ((omega arith, refl), (refl, tt)))))),
      );
      keeps_to_it = record {
        own_are_signed = AllPass-from_list_all (λ v. signer_of v == 1) (votes_to_send sent) refl;
        heard_only = All-from_recursion (HearsOnly of_four (votes_to_send sent) 1) heard (
          (λ is. refl),
          (
            (λ is test passes. second_of _ _ _ passes),
            ((λ is test passes. or_left _ _ passes), (refl, (tt, (tt, tt)))),
          ),
        );
      };
      not_blocked = refl;
      not_blocked_by_others = refl;
      others_blocked = refl;
      blocked_for_another = refl;
      blocked_for_forgery = refl;
    }
