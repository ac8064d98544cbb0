use Rattle.batcher_ffi.proofs.Words.{◌≡◌, ◌∙◌, subst, sym}
use Rattle.std.specs.Prelude.{◌≢◌, [], MatchBool, true, false}
use Rattle.batcher_ffi.proofs.Unmade.{not_made}
use Rattle.batcher_voter.proofs.Unstarted.{some_bytes}
use Rattle.batcher_ffi.proofs.starting.made.Goals.{else-not-options-via-then-not-options+else-is_empty, else-not-options-via-else-not-options}
use Rattle.batcher_ffi.proofs.starting.made.Goals as goal

pub returns-clause-refused : goal.returns-clause-refused
returns-clause-refused c =
    let options = c.args.options.now in
    let disk = c.args.disk.now in
    let some : disk ≢ [] = elim c.else-not-options.branch [
      | else-not-options-via-then-not-options+else-is_empty w ↦ some_bytes disk w.if-is_empty.ensures
      | else-not-options-via-else-not-options w ↦
          let wrong : true ≡ false = sym w.if-not-options.false ∙ c.if-options-2.false in absurd cc
    ] in
    not_made options c.args.namespace.now disk c.started.result c.if-not-are_within.ensures
    (subst (λ b. MatchBool b (disk ≡ []) (disk ≢ [])) (sym c.if-options-2.false) some)
    c.started.ensures.refused c.started.ensures.not_begun c.started.ensures.others c.started.ensures.other_version
    c.started.ensures.damaged
