use Rattle.batcher_verdicts.proofs.Words.{◌≡◌, ◌++◌, refl, rules, sym}
use Rattle.batcher_verdicts.proofs.Plain.{always}
use Rattle.batcher_verdicts.proofs.Wholes.{all_parts, enough_of, rest_of}
use Rattle.batcher_verdicts.proofs.construct.ConcludeTogetherCall.make.Goals as goal

pub returns-clause-does : goal.returns-clause-does
returns-clause-does g c = rw (sym c.judged.view_is) (
    let whole = c.in-Some.ensures.whole in
    let e = c.conclude_with.ensures in
    let list = c.args.self.list.now in
    let all : c.split_at.result.0.now ++ c.split_at.result.1.now ≡ list =
    all_parts list c.in-Some.known c.split_at.result.0.now c.split_at.result.1.now
    c.split_at.ensures.front c.split_at.ensures.back in
    record {
      not_stale = λ may. e.not_stale
          (may.about, sym (rest_of _ _ _ list c.in-Some.known whole _ c.split_at.ensures.back))
          (enough_of _ _ _ list c.in-Some.known whole);
      made = always c.conclude_with.result (record {
        about = whole.about;
        parts = whole.parts;
        enough = whole.quorum.enough;
      });
      certified = rw (
        c.judged.invariant.0,
        sym c.deref-2.ensures,
        sym all,
        sym c.in_ok-certificate.ensures.made,
      ) e.gives;
      meets = e.meets;
      certifies = e.certifies;
      needed = search rules;
      waits = search rules;
      refused = tt;
      verdicts = refl;
    })
