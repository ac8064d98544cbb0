-- A round keeps and represents the same, whatever way its scheme has to give certificates at once:
-- neither speaks of that. So a construction by verdicts from elsewhere is followed as any other.
use Rattle.batcher_round.proofs.Words.{inl, inr, ◌≡◌, ◌≤◌, ◌+◌, ◌∙◌, length, subst, ℕ, Bool, true, [], ◌∷◌, List, Option, Some, None, IfSome, ap, sym, ⊎_elim}
use Rattle.batcher_round.proofs.Words.{option_and_then, option_map_or, none-some, Stream, Attestation, Certificate, Kind, Subject, Vote, Round, Meaning}
use Rattle.batcher_round.proofs.Words.{IsLawful, Batch, pending_tried, verified_tried, RoundState, TrackerView, VerifierState, IsSound, certifies_itself}
use Rattle.batcher_round.proofs.Words.{subject_tried, no_stream, IsPossible, MayAnswer, Attempt, AttemptAfter, Config, quorum_in, History, Represents}
use Rattle.batcher_round.proofs.Words.{Simulates, IsRight, AfterConstruct, TriesHeld, is_ready_in, kind_tried, Call, ConstructCall, Answer, ConstructAnswer}
use Rattle.batcher_round.proofs.Words.{HasLaws, laws_by, construct_simulates, LooksAtKind, LooksAtNext, MayBeQuorumOf, MayBeQuorumNext}
use Rattle.batcher_round.proofs.InRound.{tries_in_round}

module _ {D K G C : Type 0} (m : Meaning D K G C)
    (left : Subject D → List (Attestation G) → Stream → Stream)
    (at_once : Subject D → List (Attestation G) → List (Attestation G) → Stream → Option C × Stream)
  where
    -- a scheme that gives certificates at once in another way
    abbrev pub meaning_otherwise : Meaning D K G C
    meaning_otherwise = record m { left_by_verifying = left; assembled_at_once = at_once }

    module _ (tracker : TrackerView G D) (held : VerifierState G D) (quorum : ℕ) where
      pub right_otherwise : IsRight m tracker held quorum
          → IsRight meaning_otherwise tracker held quorum
      right_otherwise r = record {
        some = r.some;
        quorum_is = r.quorum_is;
        bound = r.bound;
        within = r.within;
        compacted = r.compacted;
        fixed = r.fixed;
      }

      pub otherwise_right : IsRight meaning_otherwise tracker held quorum
          → IsRight m tracker held quorum
      otherwise_right r = record {
        some = r.some;
        quorum_is = r.quorum_is;
        bound = r.bound;
        within = r.within;
        compacted = r.compacted;
        fixed = r.fixed;
      }

    pub sound_otherwise : (same : D → D → Bool) (number : Round) (q : ℕ) (held : VerifierState G D)
        → IsSound m same number q held → IsSound meaning_otherwise same number q held
    sound_otherwise same number q held s = record {
      some = s.some;
      enough = s.enough;
      kinds = λ kind. record {
        pending = (s.kinds kind).pending;
        verified = (s.kinds kind).verified;
        attested = (s.kinds kind).attested;
        once = (s.kinds kind).once;
        none_pending = (s.kinds kind).none_pending;
        none_verified = (s.kinds kind).none_verified;
      };
    }

module _ {D K G C : Type 0} (x : Config D K G C)
    (left : Subject D → List (Attestation G) → Stream → Stream)
    (at_once : Subject D → List (Attestation G) → List (Attestation G) → Stream → Option C × Stream)
  where
    -- the configuration of such a scheme
    abbrev pub otherwise : Config D K G C
    otherwise = record x { meaning = meaning_otherwise x.meaning left at_once }

    attempt_otherwise : (verified pending : List (Vote G D)) (batch : Batch (Certificate C D))
        → Attempt x verified pending batch → Attempt otherwise verified pending batch
    attempt_otherwise verified pending batch a = record {
      subject = a.subject;
      one_subject = a.one_subject;
      processed = a.processed;
      certified = a.certified;
      way = ⊎_elim
          (λ given. inl (record {
            reached = given.reached;
            certificate = given.certificate;
            invalid = given.invalid;
            fallback = given.fallback;
          }))
          (⊎_elim
          (λ fell. inr (inl (record {
            reached = fell.reached;
            some_bad = fell.some_bad;
            certificate = fell.certificate;
            invalid = fell.invalid;
            fallback = fell.fallback;
          })))
          (λ only. inr (inr (record {
            unreached = only.unreached;
            certificate = only.certificate;
            invalid = only.invalid;
            fallback = only.fallback;
          }))))
          a.way;
    }

    after_otherwise : (past : History D K G C) (kind : Kind) (batch : Batch (Certificate C D))
        → AttemptAfter x past kind batch → AttemptAfter otherwise past kind batch
    after_otherwise past kind batch a = record {
      verified = a.verified;
      pending = a.pending;
      verified_are = a.verified_are;
      pending_are = a.pending_are;
      attempt = attempt_otherwise a.verified a.pending batch a.attempt;
    }

    may_otherwise : (past : History D K G C) (call : Call K G C D) (answer : Answer G C D)
        → MayAnswer x past call answer → MayAnswer otherwise past call answer
    may_otherwise past ConstructCall (ConstructAnswer (Some batch)) may =
        (may.0, (may.1.0, after_otherwise past may.0 batch may.1.1))
    may_otherwise past call answer may = may

    possible_otherwise : (past : History D K G C) → IsPossible x past → IsPossible otherwise past
    possible_otherwise [] possible = possible
    possible_otherwise (event ∷ past) possible = (
      possible.0,
      (
        possible.1.0,
        (
          may_otherwise past event.0 event.1 possible.1.1.0,
          possible_otherwise past possible.1.1.1,
        ),
      ),
    )

    pub represents_otherwise : (past : History D K G C) (held : RoundState G D)
        → Represents x past held → Represents otherwise past held
    represents_otherwise past held r = record {
      possible = possible_otherwise past r.possible;
      leader_is = r.leader_is;
      selection_is = r.selection_is;
      forwarded_is = r.forwarded_is;
      each_kind = λ kind. record {
        certified_is = (r.each_kind kind).certified_is;
        compacted_is = (r.each_kind kind).compacted_is;
        kept_are = (r.each_kind kind).kept_are;
        facts_are = (r.each_kind kind).facts_are;
        pending_are = (r.each_kind kind).pending_are;
        verified_are = (r.each_kind kind).verified_are;
      };
    }

    pub simulates_otherwise : (past : History D K G C) (old new : RoundState G D)
        (answer : Option (Batch (Certificate C D)))
        → Simulates x past old (ConstructCall, ConstructAnswer answer) new
        → Simulates otherwise past old (ConstructCall, ConstructAnswer answer) new
    simulates_otherwise past old new None s = record {
      represents = represents_otherwise _ new s.represents;
      pending_are = s.pending_are;
      verified_are = s.verified_are;
      attempt = s.attempt;
    }
    simulates_otherwise past old new (Some batch) s = record {
      represents = represents_otherwise _ new s.represents;
      pending_are = s.pending_are;
      verified_are = s.verified_are;
      attempt = (s.attempt.0, (s.attempt.1.0, attempt_otherwise _ _ batch s.attempt.1.1));
    }

module _ {D K G C : Type 0} (x : Config D K G C)
    (left : Subject D → List (Attestation G) → Stream → Stream)
    (at_once : Subject D → List (Attestation G) → List (Attestation G) → Stream → Option C × Stream)
    (lawful : IsLawful (meaning_otherwise x.meaning left at_once)) where
  -- A construction in another way is followed as any other.
  pub followed_otherwise : HasLaws x → (past : History D K G C) (old : RoundState G D)
      (batch : Batch (Certificate C D)) (new : RoundState G D) → Represents x past old
      → IsSound x.meaning x.same_digest x.number (quorum_in x) old.buffered
      → IfSome batch.certificate (λ c. certifies_itself x.meaning c ≡ true)
      → ((stream : Stream) → AfterConstruct (otherwise x left at_once) old stream (Some batch) new
      stream)
      → Simulates x past old (ConstructCall, ConstructAnswer (Some batch)) new
  followed_otherwise laws past old batch new represents sound certifies step =
      let y = otherwise x left at_once in
      simulates_otherwise y x.meaning.left_by_verifying x.meaning.assembled_at_once past old new (Some batch)
      (construct_simulates y
      (laws_by y lawful laws.some_participant laws.digests_equal laws.digests_same)
      past old no_stream no_stream (Some batch) new (represents_otherwise x left at_once past old represents)
      (sound_otherwise x.meaning left at_once x.same_digest x.number (quorum_in x) old.buffered sound) certifies
      (step no_stream))

  -- what comes of the kind whose turn it is
  pub step_otherwise : (forwarded : Bool) (held new : RoundState G D) (kind : Kind)
      (batch : Batch (Certificate C D)) → kind_tried x held ≡ Some kind
      → ((stream : Stream)
      → TriesHeld (otherwise x left at_once) held kind stream batch new stream)
      → (stream : Stream) → AfterConstruct (otherwise x left at_once)
      (record held { forwarded = forwarded }) stream (Some batch)
      (record new { forwarded = forwarded }) stream
  step_otherwise forwarded held new kind batch first tries stream =
      record {
        kind = kind;
        first = first;
        tried = tries_in_round (otherwise x left at_once) forwarded held new kind stream stream batch (tries stream);
      }

module _ {D K G C : Type 0} (x : Config D K G C) (held : RoundState G D) (kind : Kind)
    (subject : Subject D) (list : List (Attestation G)) where
  -- the next attempt is that at the kind whose turn it is
  pub next_of : kind_tried x held ≡ Some kind → LooksAtKind x held kind subject list
      → LooksAtNext x held subject list
  next_of first looks = (
    ap (λ k. option_and_then (subject_tried held.buffered x.number) k) first ∙ looks.1,
    ap (λ k. option_map_or (pending_tried (quorum_in x) held.buffered) k []) first ∙ looks.2,
  )

  pub kind_of_next : kind_tried x held ≡ Some kind → is_ready_in x held kind ≡ true
      → LooksAtNext x held subject list → LooksAtKind x held kind subject list
  kind_of_next first ready looks = (
    ready,
    sym (ap (λ k. option_and_then (subject_tried held.buffered x.number) k) first) ∙ looks.0,
    sym (ap (λ k. option_map_or (pending_tried (quorum_in x) held.buffered) k []) first) ∙ looks.1,
  )

-- what could be a quorum of the next attempt is that of the kind whose turn it is
pub quorum_of_next : {D K G C : Type 0} (x : Config D K G C) (held : RoundState G D) (kind : Kind)
    → kind_tried x held ≡ Some kind → MayBeQuorumNext x held → MayBeQuorumOf x held kind
quorum_of_next x held kind first enough =
    subst (λ k. quorum_in x ≤ length (option_map_or (verified_tried held.buffered) k [])
    + length (option_map_or (pending_tried (quorum_in x) held.buffered) k [])) first enough

-- where no kind is ready, nothing is looked at
pub none_next : {D K G C : Type 0} (x : Config D K G C) (held : RoundState G D)
    (subject : Subject D) (list : List (Attestation G)) → kind_tried x held ≡ None
    → LooksAtNext x held subject list → ⊥
none_next x held subject list none looks =
    none-some subject
    (sym (ap (λ k. option_and_then (subject_tried held.buffered x.number) k) none) ∙ looks.0)
