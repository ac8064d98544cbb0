-- How what a validator's node answers is written, as a code and into what is handed in.
use Rattle.std.specs.Prelude.{◌≡◌, ◌≢◌, ⊤, ℕ, false, Result, Ok, Err}
use Rattle.batcher_types.specs.declared.messages.Sha256Digest.{Sha256Digest}
use Rattle.batcher_histories.specs.declared.answers.Admission.{Admission}
use Rattle.batcher_node.specs.declared.answers.Ahead.{Ahead}
use Rattle.batcher_node.specs.declared.answers.Ahead.TheVariants.{Certified, Forged as ForgedAhead}
use Rattle.batcher_node.specs.declared.answers.EnterFault.{EnterFault}
use Rattle.batcher_node.specs.declared.answers.EnterFault.TheVariants.{Passed, LeaderChanged}
use Rattle.batcher_node.specs.declared.answers.EnterFault.TheVariants.{OutOfMemory}
use Rattle.batcher_node.specs.declared.answers.Receipt.{Receipt}
use Rattle.batcher_node.specs.declared.answers.Receipt.TheVariants.{Answered, Outside, Dropped}
use Rattle.batcher_node.specs.declared.answers.Receipt.TheVariants.{Unknown}
use Rattle.batcher_node.specs.declared.answers.Verdict.{Verdict}
use Rattle.batcher_node.specs.declared.answers.Verdict.TheVariants.{Recorded, Forged}
use Rattle.batcher_node.specs.declared.answers.Verdict.TheVariants.{Known as KnownCertificate}
use Rattle.batcher_bytes.specs.declared.signature.Signature.{Signature}
use Rattle.batcher_ffi.specs.declared.codes.TheConstants.{DONE, ELSEWHERE, OUT_OF_MEMORY}
use Rattle.batcher_ffi.specs.declared.codes.TheConstants.{LEADER_CHANGED, DROPPED, UNKNOWN, PASSED}
use Rattle.batcher_ffi.specs.declared.codes.TheConstants.{KNOWN, FORGED}
use Rattle.batcher_ffi.specs.declared.flat.FlatAdmission.{FlatAdmission}
use Rattle.batcher_ffi.specs.Flat.{admission_in}

-- of a message that was looked at: the code of what it is answered; else why it wasn't
abbrev pub receipt_code : {A E : Type 0} → (A → ℕ) → Result (Receipt A) E → ℕ
receipt_code of (Ok (Answered answer)) = of answer
receipt_code of (Ok Outside) = ELSEWHERE
receipt_code of (Ok Dropped) = DROPPED
receipt_code of (Ok Unknown) = UNKNOWN
receipt_code of (Err refusal) = OUT_OF_MEMORY

abbrev pub IfAnswered : {A E : Type 0} → (A → Type 0) → Result (Receipt A) E → Type 0
IfAnswered holds (Ok (Answered answer)) = holds answer
IfAnswered holds other = ⊤

-- to a vote of a peer
pub record AnswersVote {E : Type 0} (answer : Result (Receipt (Admission Signature Sha256Digest)) E)
    (code : ℕ) (old out : FlatAdmission) : Type 0 where
  pub code_is : code ≡ receipt_code (λ _. DONE) answer
  pub written : IfAnswered (λ admission. (admission_in out ≡ admission)
      × (out.retained ≡ false)) answer
  pub stays : code ≢ DONE → out ≡ old

-- to a certificate of a peer
abbrev pub verdict_code : Verdict → ℕ
verdict_code (Recorded selected_anew) = DONE
verdict_code Forged = FORGED
verdict_code KnownCertificate = KNOWN

-- to one from beyond the window
abbrev pub ahead_code : Ahead → ℕ
ahead_code Certified = DONE
ahead_code ForgedAhead = FORGED

-- to a view with its leader
abbrev pub enter_code : Result ⊤ EnterFault → ℕ
enter_code (Ok done) = DONE
enter_code (Err Passed) = PASSED
enter_code (Err LeaderChanged) = LEADER_CHANGED
enter_code (Err OutOfMemory) = OUT_OF_MEMORY
