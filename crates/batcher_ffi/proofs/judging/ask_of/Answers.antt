use Rattle.batcher_ffi.proofs.Words.{inl, refl, sym}
use Rattle.batcher_ffi.proofs.judging.ask_of.Goals as goal

pub returns-in-Some : goal.returns-in-Some
returns-in-Some c =
    rw (sym c.it.view_is) (inl (record {
      subject = c.in-Some.wanted.subject;
      waiting = c.in-Some.wanted.pending.now;
      looks_at = c.in-Some.ensures.looks_at;
      asks = c.hand_out.ensures.asks;
      validator = refl;
    }))
