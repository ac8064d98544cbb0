-- Which values are the same bytes.
use Rattle.std.specs.Prelude.{◌==◌, Bool}
use Rattle.std.specs.Cmp.Lexicographic.{pointwise}
use Rattle.batcher_types.specs.declared.messages.Sha256Digest.{Sha256Digest}
use Rattle.batcher_bytes.specs.declared.signature.Keys.{Keys}

abbrev pub same_keys : Keys → Keys → Bool
same_keys a b = pointwise (λ x y. x == y) a.0 b.0

abbrev pub same_digest : Sha256Digest → Sha256Digest → Bool
same_digest a b = pointwise (λ x y. x == y) a.0 b.0
