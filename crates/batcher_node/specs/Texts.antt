-- The texts of why a peer is blocked, and of what became of its certificate.
use Rattle.std.specs.Prelude.{ℕ, true, false, List, codes}
use Rattle.batcher.specs.Reasons.{text_of}
use Rattle.batcher_node.specs.declared.answers.Ahead.{Ahead}
use Rattle.batcher_node.specs.declared.answers.Ahead.TheVariants.{Certified, Forged as ForgedAhead}
use Rattle.batcher_node.specs.declared.answers.Cause.{Cause}
use Rattle.batcher_node.specs.declared.answers.Cause.TheVariants.{Vote as ForVote}
use Rattle.batcher_node.specs.declared.answers.Cause.TheVariants.{Certificate as ForCertificate}
use Rattle.batcher_node.specs.declared.answers.Cause.TheVariants.{Signature as ForSignature}
use Rattle.batcher_node.specs.declared.answers.Verdict.{Verdict}
use Rattle.batcher_node.specs.declared.answers.Verdict.TheVariants.{Recorded, Forged, Known}

abbrev pub cause_text : Cause → List ℕ
cause_text (ForVote reason) = text_of reason
cause_text ForCertificate = codes "a certificate that doesn't certify"
cause_text ForSignature = codes "a vote that doesn't attest"

abbrev pub verdict_text : Verdict → List ℕ
verdict_text (Recorded true) = codes "recorded, another proposal selected"
verdict_text (Recorded false) = codes "recorded"
verdict_text Forged = codes "forged"
verdict_text Known = codes "known"

abbrev pub ahead_text : Ahead → List ℕ
ahead_text Certified = codes "certified"
ahead_text ForgedAhead = codes "forged"
