use Rattle.batcher_ffi.proofs.Words.{rules}
use Rattle.batcher_ffi.proofs.Puts.{puts_all}
use Rattle.batcher_ffi.proofs.signing.write_message.Goals as goal

pub returns : goal.returns
returns c = record {
  codes = search rules;
  counted = c.message_len-length.ensures;
  short = search rules;
  fits = search rules;
  written = λ done. puts_all c.put_message.ensures;
  stays = search rules;
}
