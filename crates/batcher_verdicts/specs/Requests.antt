-- What is handed out to be verified, and the verdicts on it that come back.
use Rattle.std.specs.Prelude.{◌≡◌, ◌≢◌, ◌<◌, ◌≤◌, ◌+◌, ◌*◌, ◌^◌, ◌⊎◌, ◌++◌, ℕ, Bool, List, []}
use Rattle.std.specs.Prelude.{length, drop, map, take, Option, None, Some, IfSome, IsSomeAnd}
use Rattle.std.specs.Prelude.{MatchOption}
use Rattle.std.specs.Option.{option_map}
use Rattle.std.specs.Map.{lookup}
use Rattle.std.specs.BTreeMap.{is_at}
use Rattle.std.specs.Ordering.{nat_cmp}
use Rattle.batcher_types.specs.declared.messages.Attestation.{Attestation}
use Rattle.batcher_types.specs.declared.messages.Kind.{Kind}
use Rattle.batcher_types.specs.declared.messages.Kind.TheVariants.{Notarization, Nullification}
use Rattle.batcher_types.specs.declared.messages.Kind.TheVariants.{Finalization}
use Rattle.batcher_types.specs.declared.messages.Subject.{Subject}
use Rattle.batcher_types.specs.declared.messages.Subject.TheVariants.{Notarize, Nullify, Finalize}
use Rattle.batcher_verdicts.specs.Recorded.{Recorded, Asks}

-- All that was handed out of what waits for a subject, in its order, and verdicts on the first of
-- it. What was handed out last has the stamp, and is behind so many.
pub record RequestView (G D : Type 0) : Type 0 where
  pub handed : Recorded G D
  pub stamp : ℕ
  pub behind : ℕ

-- The requests, by the keys of their subjects, the stamp of what is handed out next, and the last
-- view up to which those of earlier ones were dropped.
pub record RequestsView (G D : Type 0) : Type 0 where
  pub all : List (ℕ × RequestView G D)
  pub next : ℕ
  pub first : ℕ

-- Each view and kind has a key of its own.
abbrev pub request_key_in : Kind → ℕ → ℕ
request_key_in Notarization view = view * 3
request_key_in Nullification view = view * 3 + 1
request_key_in Finalization view = view * 3 + 2

abbrev pub request_key : {D : Type 0} → Subject D → ℕ
request_key (Notarize proposal) = request_key_in Notarization proposal.round.view.0
request_key (Nullify round) = request_key_in Nullification round.view.0
request_key (Finalize proposal) = request_key_in Finalization proposal.round.view.0

abbrev pub request_at : {G D : Type 0} → RequestsView G D → ℕ → Option (RequestView G D)
request_at requests key = lookup (is_at (nat_cmp key)) requests.all

module _ {G D : Type 0} where
  -- Its verdicts aren't there yet.
  abbrev pub IsAwaited : RequestView G D → Type 0
  IsAwaited r = length r.handed.verdicts < length r.handed.list

  -- what is left to hand out of what waits for the subject: nothing while verdicts are awaited
  pub record IsLeftOver (r : RequestView G D) (subject : Subject D)
      (waiting left : List (Attestation G)) : Type 0 where
    pub awaited : r.handed.subject ≡ Some subject → IsAwaited r → left ≡ []
    pub asks : (r.handed.subject ≡ Some subject → IsAwaited r → ⊥)
        → Asks r.handed subject waiting left

  -- So many of what waits for the subject are handed out by the stamp, behind those that were.
  pub record Asked (r : RequestView G D) (subject : Subject D)
      (waiting : List (Attestation G)) (stamp : ℕ) (left : List (Attestation G)) : Type 0 where
    pub about : r.handed.subject ≡ Some subject
    pub listed : r.handed.list ≡ waiting
    pub by : r.stamp ≡ stamp
    pub last : drop r.behind waiting ≡ left

  -- There is a verdict on each that waits for the subject.
  pub record AreJudged (r : RequestView G D) (subject : Subject D)
      (waiting : List (Attestation G)) (verdicts : List Bool) : Type 0 where
    pub about : r.handed.subject ≡ Some subject
    pub listed : r.handed.list ≡ waiting
    pub judged : r.handed.verdicts ≡ verdicts
    pub each : length verdicts ≡ length waiting

  -- with verdicts on what was handed out last
  abbrev pub judged_by : List Bool → RequestView G D → RequestView G D
  judged_by verdicts r =
      record {
        handed = record {
          subject = r.handed.subject;
          list = r.handed.list;
          verdicts = take r.behind r.handed.verdicts ++ verdicts;
          room = r.handed.room;
        };
        stamp = r.stamp;
        behind = r.behind;
      }

  -- The one is the other, but for its room.
  pub record IsHandedAs (old new : RequestView G D) : Type 0 where
    pub subject : new.handed.subject ≡ old.handed.subject
    pub list : new.handed.list ≡ old.handed.list
    pub verdicts : new.handed.verdicts ≡ old.handed.verdicts
    pub stamp : new.stamp ≡ old.stamp
    pub behind : new.behind ≡ old.behind

  module _ (attests : Subject D → Attestation G → Bool) (r : RequestView G D) where
    -- Each verdict is the scheme's.
    abbrev pub HasTrueVerdicts : Type 0
    HasTrueVerdicts =
        IfSome r.handed.subject (λ subject. r.handed.verdicts
        ≡ map (attests subject) (take (length r.handed.verdicts) r.handed.list))

    -- These verdicts on what was handed out last are the scheme's.
    abbrev pub AreTrueOn : List Bool → Type 0
    AreTrueOn verdicts =
        IfSome r.handed.subject (λ subject. verdicts
        ≡ map (attests subject) (drop r.behind r.handed.list))

  -- What is left to hand out of what waits for the subject, of which something may be requested.
  abbrev pub IsLeftAt : Option (RequestView G D) → Subject D → List (Attestation G)
      → List (Attestation G) → Type 0
  IsLeftAt at subject waiting left =
      MatchOption at (left ≡ waiting) (λ r. IsLeftOver r subject waiting left)

  abbrev pub AllHaveTrueVerdicts : (Subject D → Attestation G → Bool) → RequestsView G D → Type 0
  AllHaveTrueVerdicts attests requests =
      (key : ℕ) → IfSome (request_at requests key) (HasTrueVerdicts attests)

  -- What is left is handed out by the next stamp, which no other has.
  pub record HandsOut (old new : RequestsView G D) (subject : Subject D)
      (waiting : List (Attestation G)) (stamp : ℕ) (left : List (Attestation G)) : Type 0 where
    pub some : left ≢ []
    pub is_left : IsLeftAt (request_at old (request_key subject)) subject waiting left
    pub stamped : stamp ≡ old.next
    pub next : new.next ≡ old.next + 1
    pub asked : IsSomeAnd (request_at new (request_key subject))
        (λ r. Asked r subject waiting stamp left)
    pub others : (key : ℕ) → key ≢ request_key subject
        → request_at new key ≡ request_at old key
    pub first : new.first ≡ old.first

  -- There is a request of this key that has this stamp, and these are verdicts on what was handed
  -- out by it, one on each.
  pub record IsStamped (at : Option (RequestView G D)) (stamp : ℕ) (verdicts : List Bool)
      : Type 0 where
    pub request : RequestView G D
    pub there : at ≡ Some request
    pub by : request.stamp ≡ stamp
    pub each : length verdicts + request.behind ≡ length request.handed.list

  -- Verdicts on what was handed out by this stamp are the scheme's.
  abbrev pub AreTrueAt : (Subject D → Attestation G → Bool) → Option (RequestView G D) → ℕ
      → List Bool → Type 0
  AreTrueAt attests at stamp verdicts =
      IfSome at (λ r. r.stamp ≡ stamp → AreTrueOn attests r verdicts)

  -- They are taken in.
  pub record JudgesStamped (old new : RequestsView G D) (key stamp : ℕ) (verdicts : List Bool)
      : Type 0 where
    pub stamped : IsStamped (request_at old key) stamp verdicts
    pub judged : request_at new key ≡ option_map (judged_by verdicts) (request_at old key)
    pub others : (other : ℕ) → other ≢ key → request_at new other ≡ request_at old other
    pub next : new.next ≡ old.next
    pub first : new.first ≡ old.first

  -- Those of views before this one are gone, and the others are as they were.
  pub record DropsBefore (old new : RequestsView G D) (view : ℕ) : Type 0 where
    pub kept : (key : ℕ) → view * 3 ≤ key → request_at new key ≡ request_at old key
    pub gone : (key : ℕ) → key < view * 3 → request_at new key ≡ None
    pub next : new.next ≡ old.next
    pub first : new.first ≡ view

  -- That is done once for each view.
  abbrev pub DropsPassed : RequestsView G D → RequestsView G D → ℕ → Type 0
  DropsPassed old new view =
      (old.first < view → DropsBefore old new view) × (view ≤ old.first → new ≡ old)

  -- Something is left to hand out, for which there may be no memory, or no stamp is left.
  abbrev pub MayBeRefused : RequestsView G D → Subject D → List (Attestation G) → Type 0
  MayBeRefused requests subject waiting =
      (IsLeftAt (request_at requests (request_key subject)) subject waiting [] → ⊥)
      ⊎ (2 ^ 64 ≤ requests.next + 1)
