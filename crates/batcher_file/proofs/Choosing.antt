-- Two files that aren't opened hold nothing.
use Rattle.batcher_file.proofs.Words.{◌≡◌, ◌≢◌, ℕ, Bool, true, false, List, Result, Err, ap, arith, inl, inr, length, min, refl, IsBlank, AreContents, IsUnread}
use Rattle.batcher_file.proofs.Words.{HoldNone, IsOther, IsTidied, IsWholeBefore, FaultShows, Contents, OpenFault, Apart, Damaged, Empty, Failed, OutOfMemory}
use Rattle.batcher_file.proofs.Words.{Taken, TooLong}
use Rattle.batcher_file.proofs.Turns.{not_blank, one_number, same_list}

pub blank_unread : (file : List ℕ) → IsBlank file → IsUnread file
blank_unread file blank first all has = not_blank first all file has blank

pub neither_read : (a b : List ℕ) → IsUnread a → IsUnread b → HoldNone a b
neither_read a b no_a no_b bytes (inl it) = no_a it.first it.all it.has
neither_read a b no_a no_b bytes (inr it) = no_b it.first it.all it.has

-- one that can't be read is neither in use nor older
pub first_unread : (a b : List ℕ) → IsUnread a → (IsBlank a → ⊥) → HoldNone a b
first_unread a b none used bytes (inl it) = none it.first it.all it.has
first_unread a b none used bytes (inr it) = elim it.other_is [
  | inl blank ↦ used blank
  | inr older ↦ none older.number older.all older.has
]

pub second_unread : (a b : List ℕ) → IsUnread b → (IsBlank b → ⊥) → HoldNone a b
second_unread a b none used bytes (inl it) = elim it.other_is [
  | inl blank ↦ used blank
  | inr older ↦ none older.number older.all older.has
]
second_unread a b none used bytes (inr it) = none it.first it.all it.has

-- and two of which neither goes on where the other ends aren't one log
module _ (a b : List ℕ) (first_a next_a end_a first_b next_b end_b : ℕ) (bytes_a bytes_b : List ℕ)
    (in_a : AreContents a first_a next_a end_a bytes_a) (in_b : AreContents b first_b next_b end_b bytes_b)
    (used_a : IsBlank a → ⊥) (used_b : IsBlank b → ⊥) where
  pub apart : next_a ≢ first_b → next_b ≢ first_a → HoldNone a b
  apart not_b not_a bytes (inl it) = elim it.other_is [
    | inl blank ↦ used_b blank
    | inr older ↦
        let start : it.first ≡ first_a = one_number it.first first_a it.all in_a.all a it.has in_a.has in
        let number : older.number ≡ first_b = one_number older.number first_b older.all in_b.all b older.has in_b.has in
        let same : in_b.all ≡ older.all = same_list older.number first_b older.all in_b.all b older.has in_b.has in
        not_a (omega (arith, in_b.next_is, ap length same, older.next, number, start))
  ]
  apart not_b not_a bytes (inr it) = elim it.other_is [
    | inl blank ↦ used_a blank
    | inr older ↦
        let start : it.first ≡ first_b = one_number it.first first_b it.all in_b.all b it.has in_b.has in
        let number : older.number ≡ first_a = one_number older.number first_a older.all in_a.all a older.has in_a.has in
        let same : in_a.all ≡ older.all = same_list older.number first_a older.all in_a.all a older.has in_a.has in
        not_b (omega (arith, in_a.next_is, ap length same, older.next, number, start))
  ]

abbrev answer : OpenFault → Result Contents OpenFault
answer fault = Err fault

-- a fault of the one file is one of both
pub shown : {P Q : Type 0} → (P → Q) → (fault : OpenFault) → FaultShows P fault → FaultShows Q fault
shown f OutOfMemory shows = tt
shown f Failed shows = absurd shows
shown f Empty shows = f shows
shown f Taken shows = absurd shows
shown f (Damaged in_second at) shows = f shows
shown f Apart shows = f shows
shown f TooLong shows = absurd shows

pub whole_first : (a b : List ℕ) (fault : OpenFault) → IsWholeBefore a a fault
    → ((second : Bool) (at : ℕ) → answer fault ≡ answer (Damaged second at) → second ≡ false)
    → IsWholeBefore a b fault
whole_first a b OutOfMemory whole side = tt
whole_first a b Failed whole side = tt
whole_first a b Empty whole side = tt
whole_first a b Taken whole side = tt
whole_first a b (Damaged false at) whole side = whole
whole_first a b (Damaged true at) whole side = absurd (wrong (side true at refl))
  where
    wrong : true ≡ false → ⊥
    wrong e = absurd cc
whole_first a b Apart whole side = tt
whole_first a b TooLong whole side = tt

pub whole_second : (a b : List ℕ) (fault : OpenFault) → IsWholeBefore b b fault
    → ((second : Bool) (at : ℕ) → answer fault ≡ answer (Damaged second at) → second ≡ true)
    → IsWholeBefore a b fault
whole_second a b OutOfMemory whole side = tt
whole_second a b Failed whole side = tt
whole_second a b Empty whole side = tt
whole_second a b Taken whole side = tt
whole_second a b (Damaged true at) whole side = whole
whole_second a b (Damaged false at) whole side = absurd (wrong (side false at refl))
  where
    wrong : false ≡ true → ⊥
    wrong e = absurd cc
whole_second a b Apart whole side = tt
whole_second a b TooLong whole side = tt

-- how much of the other is left
pub record IsLeft (len : ℕ) (file : List ℕ) : Type 0 where
  pub blank : IsBlank file → len ≡ min 1 (length file)
  pub used : (IsBlank file → ⊥) → len ≡ length file

pub tidies : (current other : List ℕ) (first next end : ℕ) (bytes : List ℕ) (len : ℕ)
    → AreContents current first next end bytes × IsOther first other → IsLeft len other
    → IsTidied current other first next end bytes len
tidies current other first next end bytes len found left = record {
  contents = found.0;
  either = elim found.1 [
    | inl blank ↦ inl (blank, left.blank blank)
    | inr older ↦
        inr (older, left.used (not_blank older.number older.all other older.has))
  ];
}
