-- What proofs of this crate use of definitions, and of lemmas from below it.
pub use Rattle.std.proofs.Common.{Fits, arith, get_or, w8, ◌∙◌, ap, append_assoc, refl, sym, rules, subst}
pub use Rattle.std.proofs.lemmas.List.{append-nil, drop-replicate, drop_at}
pub use Rattle.std.proofs.lemmas.List.Sums.{list_all-from_AllPass}
pub use Rattle.std.proofs.lemmas.Result.{err_from_is_err_and}
pub use Rattle.std.specs.Int.{w64}
pub use Rattle.std.specs.List.{AllPass, list_all, flat_map}
pub use Rattle.std.specs.Prelude.{◌≡◌, ℕ, List, Ok, ◌-◌, ◌+◌, ◌≤◌, ◌<◌, ◌++◌, zero, suc, [], ◌∷◌, Result, Err, length, drop, replicate, ◌||◌, Bool, true}
pub use Rattle.std.specs.Prelude.{false, take}
pub use Rattle.batcher_bytes.specs.Certifying.{made}
pub use Rattle.batcher_bytes.specs.Exact.{IsDecodedAt, is_decoded_at, whole_again, whole_found}
pub use Rattle.batcher_bytes.specs.Format.{Format, IsExact, ◌>>=◌, number_bytes}
pub use Rattle.batcher_bytes.specs.Lawful.{versioned_is_exact, signed_once}
pub use Rattle.batcher_bytes.specs.Listings.{Passed, attests, listing_of}
pub use Rattle.batcher_bytes.specs.Lists.{whole_may_be_again, whole_may_be_found, AreValues, items_at}
pub use Rattle.batcher_bytes.specs.Meanings.{certifies}
pub use Rattle.batcher_bytes.specs.Messages.{versioned}
pub use Rattle.batcher_bytes.specs.Signatures.{IsPadded, are_zeros, signature_of}
pub use Rattle.batcher_bytes.specs.declared.fault.DecodeFault.{DecodeFault}
pub use Rattle.batcher_bytes.specs.declared.signature.Keys.{Keys}
pub use Rattle.batcher_bytes.specs.declared.signature.Signature.{Signature}
pub use Rattle.batcher_bytes.specs.declared.signature.TheConstants.{WIDTH}
pub use Rattle.batcher_bytes.specs.declared.truth.Truth.{Ghosts}
pub use Rattle.batcher_types.specs.Attestations.{IsQuorum}
pub use Rattle.batcher_types.specs.declared.messages.Attestation.{Attestation}
pub use Rattle.batcher_types.specs.declared.messages.Sha256Digest.{Sha256Digest}
pub use Rattle.batcher_types.specs.declared.messages.Subject.{Subject}
