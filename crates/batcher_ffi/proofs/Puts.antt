-- Bytes that come at a place of a room, one after another, and how many they are.
use Rattle.batcher_ffi.proofs.Words.{◌≡◌, ◌∙◌, ◌<◌, ◌≤◌, ◌++◌, ℕ, List, length, take, slice_get, option_map, ap, arith, refl, sym, subst, [], ◌∷◌}
use Rattle.batcher_ffi.proofs.Words.{Option, None, Some, proposal_format, round_format, sha256_format, FillsRoom, Puts, Proposal, Round}
use Rattle.batcher_ffi.proofs.Words.{Sha256Digest}
use Rattle.std.proofs.Common.{◌+◌, ◌-◌, append_assoc, length-append, length-drop, drop, zero, suc}
use Rattle.std.proofs.lemmas.List.{drop-drop, length-take}
use Rattle.std.proofs.lemmas.Slice.{take-put_mid, drop-put_mid}
use Rattle.std.specs.Int.{w64}
use Rattle.batcher_bytes.specs.Format.{number_bytes}
use borrow.Rule.Slice.PartMut.{put_mid, same_len_mid}

pub puts_one : (bytes room : List ℕ) (at count : ℕ) (part : List ℕ) → part ≡ bytes
    → count ≡ length bytes → at + length bytes ≤ length room
    → Puts bytes room at (put_mid at count room part) (at + length bytes)
puts_one bytes room at count part same counted fits =
    subst (λ (l : List ℕ). Puts bytes room at (put_mid at count room l) (at + length bytes))
    (sym same) (record {
      places = same_len_mid at count room bytes
          (omega (arith, counted, length-take count (drop at room), length-drop at room));
      ends = refl;
      written = take-put_mid at count room bytes (at + length bytes) refl (omega arith);
      rest = drop-put_mid at count room bytes (at + length bytes) (omega arith) (omega arith)
          (sym counted);
    })

-- those behind others
pub puts_both : {xs ys room mid new : List ℕ} {at next end : ℕ} → Puts xs room at mid next
    → Puts ys mid next new end → Puts (xs ++ ys) room at new end
puts_both {xs} {ys} {room} {mid} {new} {at} {next} {end} one other = record {
  places = other.places ∙ one.places;
  ends = omega (arith, one.ends, other.ends, length-append xs ys);
  written = other.written ∙ ap (λ (l : List ℕ). l ++ ys) one.written
      ∙ append_assoc (take at room) xs ys;
  rest = other.rest ∙ behind;
}
  where
    behind : drop end mid ≡ drop end room
    behind =
        let far : end ≡ next + length ys = other.ends in
        ap (λ (n : ℕ). drop n mid) far ∙ sym (drop-drop (length ys) next mid)
        ∙ ap (drop (length ys)) one.rest ∙ drop-drop (length ys) next room
        ∙ ap (λ (n : ℕ). drop n room) (sym far)

-- what is read of a list's front, and behind it
get-take : {X : Type 0} (n : ℕ) (xs : List X) (i : ℕ) → i < n
    → slice_get (take n xs) i ≡ slice_get xs i
get-take zero xs i p = absurd (omega (arith, p))
get-take (suc n) [] i p = refl
get-take (suc n) (x ∷ xs) zero p = refl
get-take (suc n) (x ∷ xs) (suc i) p = get-take n xs i (omega (arith, p))

get-drop : {X : Type 0} (n : ℕ) (xs : List X) (i : ℕ)
    → slice_get (drop n xs) i ≡ slice_get xs (n + i)
get-drop zero xs i = let same : i ≡ 0 + i = omega arith in ap (slice_get xs) same
get-drop (suc n) [] i = refl
get-drop (suc n) (x ∷ xs) i =
    let same : suc (n + i) ≡ suc n + i = omega arith in
    get-drop n xs i ∙ ap (slice_get (x ∷ xs)) same

itself : (found : Option ℕ) → option_map (λ (b : ℕ). b) found ≡ found
itself None = refl
itself (Some b) = refl

-- all of them, from the first place on
pub puts_all : {bytes room new : List ℕ} {end : ℕ} → Puts bytes room 0 new end
    → FillsRoom (λ (b : ℕ). b) bytes room new
puts_all {bytes} {room} {new} {end} puts = record {
  places = puts.places;
  written = λ i inside within. itself (slice_get new i)
      ∙ sym (get-take end new i (omega (arith, puts.ends, inside)))
      ∙ ap (λ (l : List ℕ). slice_get l i) puts.written;
  rest = λ i beyond.
      let far : i ≡ end + (i - end) = omega (arith, puts.ends, beyond) in
      ap (slice_get new) far ∙ sym (get-drop end new (i - end))
      ∙ ap (λ (l : List ℕ). slice_get l (i - end)) puts.rest ∙ get-drop end room (i - end)
      ∙ ap (slice_get room) (sym far);
}

-- how many bytes these are
pub number_long : (n : ℕ) → length (number_bytes w64 n) ≡ 8
unfolding number_bytes
number_long n = refl

pub round_long : (round : Round) → length (round_format.encoding round) ≡ 16
round_long round =
    omega (
      arith,
      number_long round.epoch.0,
      number_long round.view.0,
      length-append (number_bytes w64 round.epoch.0) (number_bytes w64 round.view.0),
    )

pub proposal_long : (proposal : Proposal Sha256Digest)
    → length ((proposal_format sha256_format).encoding proposal) ≡ 24 + length proposal.payload.0
proposal_long proposal =
    omega (
      arith,
      round_long proposal.round,
      number_long proposal.parent.0,
      length-append (number_bytes w64 proposal.parent.0) proposal.payload.0,
      length-append (round_format.encoding proposal.round)
          (number_bytes w64 proposal.parent.0 ++ proposal.payload.0),
    )
