-- What proofs of this crate use of definitions, and of lemmas from below it.
pub use Rattle.std.proofs.Common.{arith, refl, ◌∙◌, sym, subst, lit<, ap, rules, inl, inr}
pub use Rattle.std.proofs.GlobalToken.{dealloc_token-Testable}
pub use Rattle.std.proofs.lemmas.Bool.{and_parts, true≢false}
pub use Rattle.std.proofs.lemmas.Grind.{common_steps}
pub use Rattle.std.proofs.lemmas.List.{length-map}
pub use Rattle.std.proofs.lemmas.Option.{same_Some}
pub use Rattle.std.proofs.raw_atomic.Walks.{proved_at, leaves}
pub use Rattle.std.specs.List.{list_all, list_any}
pub use Rattle.std.specs.Option.{option_map}
pub use Rattle.std.specs.Prelude.{◌≡◌, ℕ, Bool, List, ◌&&◌, true, [], ◌∷◌, ◌++◌, false, length, IfSome, ◌≢◌, ◌↔◌, nat_lt, map, is_none, Ok, Err, is_some, take}
pub use Rattle.std.specs.Prelude.{◌<◌, ◌≤◌, ◌||◌, ◌==◌, IsSomeAnd, slice_get}
pub use Rattle.std.specs.declared.option.Option.{Option}
pub use Rattle.std.specs.declared.option.Option.TheVariants.{None, Some}
pub use Rattle.std_alloc.proofs.BoxSteps.Steps.{box_out, box_in}
pub use Rattle.std_alloc.proofs.ResultValues.{and_tt}
pub use Rattle.std_alloc.proofs.boxed.Box.from_raw.Met.{met}
pub use Rattle.batcher_bytes.specs.Encodings.{signature_format}
pub use Rattle.batcher_bytes.specs.Format.{Format}
pub use Rattle.batcher_bytes.specs.Keys.{same_digest}
pub use Rattle.batcher_bytes.specs.Meanings.{made_of}
pub use Rattle.batcher_bytes.specs.Messages.{attestation_format, sha256_format, vote_format, proposal_format, round_format, subject_format}
pub use Rattle.batcher_bytes.specs.declared.certificates.Content.{Content}
pub use Rattle.batcher_bytes.specs.declared.fault.DecodeFault.TheVariants.{Version}
pub use Rattle.batcher_bytes.specs.declared.signature.Keys.{Keys}
pub use Rattle.batcher_bytes.specs.declared.signature.Signature.{Signature}
pub use Rattle.batcher_ffi.specs.Certificates.{is_quorum_among, listing_at, listing_in, signers_differ}
pub use Rattle.batcher_ffi.specs.Flat.{AreIn, attestation_in, raw_in}
pub use Rattle.batcher_ffi.specs.Judging.{AreThere, AsksEarly, AsksOfNext, ConcludesJudged, IsNotJudged, HasUnverified, JudgedValidatorView}
pub use Rattle.batcher_ffi.specs.Judging.{LendsWithin, LooksAtNow, Output, TakesVerdictsOf, output}
pub use Rattle.batcher_ffi.specs.Validators.{AreDamaged, start_code, CValidator, validator_keys, validator_participants}
pub use Rattle.batcher_ffi.specs.Validators.{LendsNone, RestsWithout, config_by}
pub use Rattle.batcher_ffi.specs.Output.{FillsRoom, Made, Puts, WritesCertificate, WritesContent}
pub use Rattle.batcher_ffi.specs.Ownership.{block_owned, owned_or_null}
pub use Rattle.batcher_ffi.specs.Rounds.{CRound, IsOfQuorum, MakesQuorum, config_of_handle, is_short}
pub use Rattle.batcher_ffi.specs.Rows.{files_row as R}
pub use Rattle.batcher_ffi.specs.Truths.{is_attested}
pub use Rattle.batcher_ffi.specs.declared.caller.Caller.{Caller}
pub use Rattle.batcher_ffi.specs.declared.codes.TheConstants.{DAMAGED, DONE, IDLE, OUT_OF_MEMORY, STALE, OTHER_OWNER, OTHER_VERSION, SHORT}
pub use Rattle.batcher_ffi.specs.declared.flat.FlatAttestation.{FlatAttestation}
pub use Rattle.batcher_ffi.specs.declared.flat.FlatStep.{FlatStep}
pub use Rattle.batcher_journal.specs.Causes.{Cause, IsAnothers}
pub use Rattle.batcher_journal.specs.Text.{OwnerFields, fields_of, owner_format}
pub use Rattle.batcher_journal.specs.declared.journal.OpenFault.{OpenFault}
pub use Rattle.batcher_journal.specs.declared.journal.OpenFault.TheVariants.{NotBegun, OtherVersion, OtherLengths, OtherParticipant, OtherKeys, OtherNamespace}
pub use Rattle.batcher_journal.specs.declared.journal.OpenFault.TheVariants.{OutOfMemory as NoMemoryToOpen, Malformed as NoJournal, Contradiction}
pub use Rattle.batcher_node.specs.Verdicts.{LooksAtThere}
pub use Rattle.batcher_node.specs.declared.slot.Slot.{Slot}
pub use Rattle.batcher_round.specs.Verdicts.{IsAssembled, BatchIsAssembled}
pub use Rattle.batcher_types.specs.Keys.{participant}
pub use Rattle.batcher_types.specs.Votes.{content_of, subject_certified, attestation_of, subject_of}
pub use Rattle.batcher_types.specs.declared.messages.Attestation.{Attestation}
pub use Rattle.batcher_types.specs.declared.messages.Kind.{Kind}
pub use Rattle.batcher_types.specs.declared.messages.Proposal.{Proposal}
pub use Rattle.batcher_types.specs.declared.messages.Sha256Digest.{Sha256Digest}
pub use Rattle.batcher_types.specs.declared.messages.Subject.{Subject}
pub use Rattle.batcher_types.specs.declared.messages.Vote.{Vote}
pub use Rattle.batcher_types.specs.declared.positions.Round.{Round}
pub use Rattle.batcher_types.specs.declared.scheme.keyed.Name.{Name}
pub use Rattle.batcher_validator.specs.Histories.{again, expired}
pub use Rattle.batcher_validator.specs.Running.{RunMeets}
pub use Rattle.batcher_validator.specs.declared.starting.DiskFault.{DiskFault}
pub use Rattle.batcher_validator.specs.declared.starting.DiskFault.TheVariants.{NotOpened, NotStarted, OutOfMemory as NoMemoryToStart}
pub use Rattle.batcher_verdicts.specs.Requests.{AreJudged, JudgesStamped, RequestView, RequestsView, request_at, request_key, request_key_in}
pub use Rattle.batcher_votes.specs.RoundState.{RoundView}
pub use Rattle.batcher_verdicts.specs.Judging.{keys_in, meaning_by, SameAny}
pub use Rattle.batcher_verdicts.specs.declared.either.Either.TheVariants.{Batchable, OneByOne}
pub use Rattle.batcher_validator.specs.Unstarted.{HasNoVoter}
pub use Rattle.batcher_voter.specs.declared.answers.StartFault.{StartFault}
pub use Rattle.batcher_voter.specs.declared.answers.StartFault.TheVariants.{Forged, Malformed, NotFinal, OutOfMemory as NoMemoryForVoter}
pub use Rattle.batcher_votes.specs.declared.verifier.Batch.{Batch}
pub use Rattle.core.proofs.alloc.Calls.{Al, handle_tells, Goes-blank}
pub use Rattle.core.proofs.alloc.Shapes.{after}
pub use Rattle.core.proofs.atomic.Steps.{Ptr-Good, fm}
pub use Rattle.core.proofs.cell.Inside.{Good}
pub use Rattle.core.proofs.option.Made.{Some-of, none_of}
pub use Rattle.core.specs.declared.alloc.Allocator.{Ghosts}
