-- What torn writes leave around a gate.
use Rattle.batcher_file.proofs.Words.{◌≡◌, ◌⊎◌, ◌+◌, ◌<◌, ◌≤◌, ◌++◌, ◌∙◌, ℕ, List, [], ◌∷◌, ap, append_assoc, arith, drop, get_or, inl, inr, length, refl}
use Rattle.batcher_file.proofs.Words.{subst, sym, take, append-nil, drop-drop, drop_all, drop_at, drop_more, get_or-drop, get_or-take, get_or_at}
use Rattle.batcher_file.proofs.Words.{get_or_default, length-append, length-drop, length-take, same_lists, take-append-drop, take_at, Cut, Holds, Mixed, Only}
use Rattle.batcher_file.proofs.Words.{Torn, IsShutting, MayHave}

-- what is before a torn write stays
front_kept : (at n : ℕ) (old new : List ℕ) (k : ℕ) → Torn at n old new → k ≤ at → k ≤ length old
    → take k new ≡ take k old
front_kept at n old new k torn le long =
    same_lists (take k new) (take k old)
    (omega (arith, length-take k new, length-take k old, torn.no_shorter))
    (λ i d lt.
    let lt_k : i < k = omega (arith, length-take k new) in
    let in_old : i < length old = omega arith in
    let in_new : i < length new = omega (arith, torn.no_shorter) in
    get_or-take k new i d lt_k ∙ get_or_default new i d 0 in_new ∙ torn.below i in_old (omega arith)
    ∙ get_or_default old i 0 d in_old ∙ sym (get_or-take k old i d lt_k))

-- and what is behind it
back_kept : (at n : ℕ) (old new : List ℕ) → Torn at n old new → at + n ≤ length old
    → drop (at + n) new ≡ drop (at + n) old
back_kept at n old new torn long =
    same_lists (drop (at + n) new) (drop (at + n) old)
    (omega (arith, torn.no_shorter, torn.no_longer, length-drop (at + n) new, length-drop (at + n) old))
    (λ i d lt.
    let in_new : at + n + i < length new = omega (arith, length-drop (at + n) new) in
    let in_old : at + n + i < length old = omega (arith, torn.no_longer) in
    get_or-drop (at + n) new i d ∙ get_or_default new (at + n + i) d 0 in_new
    ∙ torn.above (at + n + i) in_old (omega arith)
    ∙ get_or_default old (at + n + i) 0 d in_old ∙ sym (get_or-drop (at + n) old i d))

-- what a whole write has left
held : (file : List ℕ) (at : ℕ) (bytes : List ℕ) → Holds file at bytes
    → drop at file ≡ bytes ++ drop (at + length bytes) file
held file at bytes holds =
    let n = length bytes in
    let same : take n (drop at file) ≡ bytes =
    same_lists (take n (drop at file)) bytes
    (omega (arith, length-take n (drop at file), length-drop at file, holds.within))
    (λ i d lt.
    let lt_n : i < n = omega (arith, length-take n (drop at file)) in
    get_or-take n (drop at file) i d lt_n ∙ get_or-drop at file i d
    ∙ get_or_default file (at + i) d 0 (omega (arith, holds.within))
    ∙ holds.each i lt_n ∙ get_or_default bytes i 0 d lt_n) in
    sym (take-append-drop n (drop at file)) ∙ ap (λ t. t ++ drop n (drop at file)) same
    ∙ ap (λ t. bytes ++ t) (drop-drop n at file)

regrouped : (front : List ℕ) (gate : ℕ) (tail : List ℕ)
    → (front ++ gate ∷ []) ++ tail ≡ front ++ gate ∷ tail
regrouped front gate tail = append_assoc front (gate ∷ []) tail

module _ (front : List ℕ) (end gate : ℕ) (len : length front ≡ end) where
  abbrev Closed : List ℕ
  Closed = front ++ gate ∷ []

  closed_len : length Closed ≡ end + 1
  closed_len = omega (arith, len, length-append front (gate ∷ []))

  -- A write behind the gate leaves it.
  gate_kept : (n : ℕ) (new : List ℕ) → Torn (end + 1) n Closed new
      → new ≡ front ++ gate ∷ drop (end + 1) new
  gate_kept n new torn =
      let first : take (end + 1) new ≡ Closed =
      front_kept (end + 1) n Closed new (end + 1) torn (omega arith) (omega (arith, closed_len))
      ∙ ap (take (end + 1)) (sym (append-nil Closed)) ∙ take_at Closed [] (end + 1) closed_len in
      sym (take-append-drop (end + 1) new) ∙ ap (λ t. t ++ drop (end + 1) new) first
      ∙ regrouped front gate (drop (end + 1) new)

  -- and where it is whole, it is all that is behind it
  framed : (frame new : List ℕ) → Torn (end + 1) (length frame) Closed new
      → Holds new (end + 1) frame
      → new ≡ front ++ gate ∷ frame
  framed frame new torn holds =
      let none : drop (end + 1 + length frame) new ≡ [] =
      drop_all (end + 1 + length frame) new (omega (arith, torn.no_longer, closed_len)) in
      gate_kept (length frame) new torn
      ∙ ap (λ t. front ++ gate ∷ t) (held new (end + 1) frame holds ∙ ap (λ t. frame ++ t) none ∙ append-nil frame)

  -- A write of the gate leaves what is beside it.
  pub beside_gate : (frame new : List ℕ) → Torn end 1 (front ++ gate ∷ frame) new
      → new ≡ front ++ get_or new end 0 ∷ frame
  beside_gate frame new torn =
      let old : List ℕ = front ++ gate ∷ frame in
      let long : end + 1 ≤ length old = omega (arith, len, length-append front (gate ∷ frame)) in
      let inside : end < length new = omega (arith, torn.no_shorter) in
      let before : take end new ≡ front =
      front_kept end 1 old new end torn (omega arith) (omega arith) ∙ take_at front (gate ∷ frame) end len in
      let after : drop (end + 1) new ≡ frame =
      back_kept end 1 old new torn long ∙ ap (drop (end + 1)) (sym (regrouped front gate frame))
      ∙ drop_at Closed frame (end + 1) closed_len in
      sym (take-append-drop end new) ∙ ap (λ t. t ++ drop end new) before
      ∙ ap (λ t. front ++ t) (drop_more new end 0 inside ∙ ap (λ t. get_or new end 0 ∷ t) after)

  -- While the frame is written, and until it is on the disk:
  pub writing_leaves : (Whole : Type 0) (frame seen : List ℕ) (may : List ℕ
      → Type 0) (file : List ℕ)
      → seen ≡ Closed → Only seen may → (d : List ℕ) × may d × Torn (end + 1) (length frame) d file
      → MayHave Whole front gate frame file
  writing_leaves Whole frame seen may file same durable from =
      let torn : Torn (end + 1) (length frame) Closed file =
      subst (λ d. Torn (end + 1) (length frame) d file) (durable from.0 from.1 ∙ same) from.2 in
      inl (record {
        rest = drop (end + 1) file;
        parts = gate_kept (length frame) file torn;
        short = omega (arith, length-drop (end + 1) file, torn.no_longer, closed_len);
      })

  -- while the gate is opened
  module _ (frame seen middle : List ℕ) (same : seen ≡ Closed)
      (torn : Torn (end + 1) (length frame) seen middle) (holds : Holds middle (end + 1) frame) where
    whole : middle ≡ front ++ gate ∷ frame
    whole = framed frame middle (subst (λ d. Torn (end + 1) (length frame) d middle) same torn) holds

    at_gate : get_or middle end 0 ≡ gate
    at_gate = ap (λ t. get_or t end 0) whole ∙ get_or_at front gate frame 0 end len

    pub opening_leaves : (Whole : Type 0) (may : List ℕ → Type 0) (file : List ℕ) → Only middle may
        → (Whole → (d : List ℕ) × may d × Mixed end (255 ∷ []) d file)
        → (d : List ℕ) × may d × Torn end 1 d file → MayHave Whole front gate frame file
    opening_leaves Whole may file durable mixed from =
        let torn_gate : Torn end 1 (front ++ gate ∷ frame) file =
        subst (λ d. Torn end 1 d file) (durable from.0 from.1 ∙ whole) from.2 in
        inr (record {
          now = get_or file end 0;
          parts = beside_gate frame file torn_gate;
          either = λ finishes.
              let it = mixed finishes in
              let old : Mixed end (255 ∷ []) middle file = subst (λ d. Mixed end (255 ∷ []) d file) (durable it.0 it.1) it.2 in
              let within : end + 0 < length middle =
              omega (arith, ap length whole, len, length-append front (gate ∷ frame)) in
              let at : end + 0 ≡ end = omega arith in
              elim (old.each 0 (omega arith) within) [
                | inl stays ↦ inl (ap (λ i. get_or file i 0) (sym at) ∙ stays ∙ ap (λ i. get_or middle i 0) at ∙ at_gate)
                | inr opens ↦ inr (ap (λ i. get_or file i 0) (sym at) ∙ opens)
              ];
        })

    -- and where it is open
    pub is_open : (new : List ℕ) → Torn end 1 middle new → Holds new end (255 ∷ [])
        → new ≡ front ++ 255 ∷ frame
    is_open new torn_gate holds_gate =
        let at : end + 0 ≡ end = omega arith in
        let now : get_or new end 0 ≡ 255 = ap (λ i. get_or new i 0) (sym at) ∙ holds_gate.each 0 (omega arith) in
        beside_gate frame new (subst (λ d. Torn end 1 d new) whole torn_gate)
        ∙ ap (λ h. front ++ h ∷ frame) now

-- a gate that is the first byte
module _ (old new : List ℕ) (torn : Torn 0 1 old new) where
  pub shutting : (Whole : Type 0) → (Whole → Mixed 0 (15 ∷ []) old new)
      → (length new ≤ 1) ⊎ IsShutting Whole old new
  shutting Whole mixed = of_old old torn mixed
    where
      of_old : (old : List ℕ) → Torn 0 1 old new → (Whole → Mixed 0 (15 ∷ []) old new)
          → (length new ≤ 1) ⊎ IsShutting Whole old new
      of_old [] torn mixed = inl (omega (arith, torn.no_longer))
      of_old (was ∷ rest) torn mixed = inr (record {
        gate = was;
        rest = rest;
        old_is = refl;
        now = record {
          now = get_or new 0 0;
          parts = beside_gate [] 0 was refl rest new torn;
          either = λ whole. (mixed whole).each 0 (omega arith) (omega arith);
        };
      })

  pub is_shut : Holds new 0 (15 ∷ []) → new ≡ 15 ∷ drop 1 old
  is_shut holds = of_old old torn
    where
      first : get_or new 0 0 ≡ 15
      first = holds.each 0 (omega arith)

      of_old : (old : List ℕ) → Torn 0 1 old new → new ≡ 15 ∷ drop 1 old
      of_old [] torn =
          drop_more new 0 0 (omega (arith, holds.within))
          ∙ ap (λ t. get_or new 0 0 ∷ t) (drop_all 1 new (omega (arith, torn.no_longer)))
          ∙ ap (λ g. g ∷ []) first
      of_old (was ∷ rest) torn =
          beside_gate [] 0 was refl rest new torn ∙ ap (λ g. g ∷ rest) first

-- A file that is being cut keeps what is before that.
pub cut_kept : (n : ℕ) (old new : List ℕ) → n ≤ length old → Cut n old new
    → new ≡ take n old ++ drop n new
cut_kept n old new long cut =
    let same : take n new ≡ take n old =
    same_lists (take n new) (take n old)
    (omega (arith, length-take n new, length-take n old, cut.no_shorter))
    (λ i d lt.
    let lt_n : i < n = omega (arith, length-take n new) in
    let in_new : i < length new = omega (arith, length-take n new) in
    let in_old : i < length old = omega arith in
    get_or-take n new i d lt_n ∙ get_or_default new i d 0 in_new ∙ cut.below i in_old lt_n
    ∙ get_or_default old i 0 d in_old ∙ sym (get_or-take n old i d lt_n)) in
    sym (take-append-drop n new) ∙ ap (λ t. t ++ drop n new) same

pub cut_off : (n : ℕ) (old new : List ℕ) → n ≤ length old → Cut n old new → length new ≡ n
    → new ≡ take n old
cut_off n old new long cut len =
    cut_kept n old new long cut
    ∙ ap (λ t. take n old ++ t) (drop_all n new (omega (arith, len))) ∙ append-nil (take n old)

-- which gets no longer
pub cut_within : (n : ℕ) (old new : List ℕ) → n ≤ length old → Cut n old new
    → (new ≡ take n old ++ drop n new) × (length new ≤ length old)
cut_within n old new long cut = (cut_kept n old new long cut, omega (arith, cut.no_longer, long))
