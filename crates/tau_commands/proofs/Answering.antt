-- How a follower that is given a text ends.
use Rattle.std.proofs.Common.{ℕ, ◌≡◌, ◌≤◌, ◌<◌, ◌+◌, inl, inr, Bool, true, false, List, [], ◌∷◌, length, take, drop, Some, Result, Ok, Err, OnOk, OnErr, refl, sym, ap, subst, arith}
use Rattle.tau_base.specs.declared.limits.TheConstants.{MAX_WORKLOAD}
use Rattle.tau_disk.specs.Disk.{Rose, HasCause}
use Rattle.tau_model.specs.History.{Member}
use Rattle.tau_run.specs.RunFacts.{WroteFront}
use Rattle.tau_scan.specs.declared.fault.LogFault.{LogFault}
use Rattle.tau_follow_laws.specs.Feeding.{Piece}
use Rattle.tau_words.specs.declared.command.Command.TheVariants.{Follow}
use Rattle.tau_commands.specs.declared.status.Status.{Status}
use Rattle.tau_commands.specs.declared.status.Status.TheVariants as status
use Rattle.tau_commands.specs.Fault.{fault_text, TellsFault}
use Rattle.tau_commands.specs.Following.{IsFollowed, IsBadFollowed, FollowTells, TellsAfter, ends_feeding, ends_following, ends_text, HasFedText, HasFollowedText, EndsFollowing, OfFollow}
use Rattle.tau_commands.specs.Outside.{Input, Output, Wrote, is_before_disks}
use Rattle.tau_commands.specs.Reads.{HasReadSource}
use Rattle.tau_commands.specs.Source.{ReadsText}
use Rattle.tau_commands.specs.Sources.{ArePieces, HasPieces, HasBadPiece, RefusesSource, is_of_source}
use Rattle.tau_commands.proofs.Spelled.{one_bad, not_both}
use Rattle.tau_commands.proofs.Telling.{one_bad_end, never_bad}

-- whatever is said of an answer by its kind
wrong : (b : Bool) → b ≡ true → b ≡ false → ⊥
wrong true e f = cc
wrong false e f = cc

-- what a write of all bytes leaves, whether or not the sink fails
pub told_front : {T E : Type 0} (result : Result T E) (wrote : List ℕ → Type 0) (before now : ℕ) (bytes : List ℕ) → OnOk result (wrote bytes) → OnErr result ((k : ℕ) × (k < length bytes) × wrote (take k bytes)) → HasCause before now result →
    WroteFront wrote (Rose before now) bytes
told_front (Ok x) wrote before now bytes ok err cause = inl ok
told_front (Err e) wrote before now bytes ok err cause = inr (err.0, err.1, err.2, cause.failed)

not_so : false ≡ true → ⊥
not_so e = cc

module _ (n : ℕ) (text : List ℕ) (wrote : List ℕ → Type 0) (rose : Type 0) where
  -- ---- a follower that was fed

  pub fed_nothing : wrote [] → HasFedText n text wrote rose status.NoMemory
  fed_nothing w = record { kind = refl; told = λ pieces are. tt; sink = λ e. absurd cc; silent = λ e. w }

  pub fed_badly : (lines : List ℕ) (fault : LogFault) (answer : Status) → ((pieces : List Piece) → ArePieces n pieces text → IsBadFollowed n pieces fault lines) → TellsAfter lines wrote rose (status.BadLog fault) answer → HasFedText n text wrote rose answer
  fed_badly lines fault answer bad (inl told) = subst (HasFedText n text wrote rose) (sym told.0) (record {
    kind = refl;
    told = λ pieces are. (lines, bad pieces are, told.1);
    sink = λ e. absurd cc;
    silent = λ e. absurd cc;
  })
  fed_badly lines fault answer bad (inr none) = subst (HasFedText n text wrote rose) (sym none.0) (fed_nothing none.1)

  -- ---- a text that was looked at

  ends_so : (answer : Status) → ends_feeding answer ≡ true → ends_text answer ≡ true
  ends_so status.Ok e = refl
  ends_so status.NoMemory e = refl
  ends_so status.WriteFault e = refl
  ends_so (status.BadLog fault) e = refl
  ends_so (status.BadFeed at) e = refl
  ends_so _ e = e

  pub bad_text : (answer : Status) (at : ℕ) → HasBadPiece n text at → TellsFault wrote rose (status.BadFeed at) answer → HasFollowedText n text wrote rose answer
  bad_text answer at bad (inl told) = subst (HasFollowedText n text wrote rose) (sym told.0) (record {
    kind = refl;
    bad = λ other e. (subst (HasBadPiece n text) (place at other e) bad, told.1);
    pieces = λ e. absurd cc;
    told = λ pieces has. tt;
    sink = λ e. absurd cc;
    silent = λ e. absurd cc;
  })
    where
      place : (a b : ℕ) → status.BadFeed a ≡ status.BadFeed b → a ≡ b
      place a b e = cc
  bad_text answer at bad (inr none) = subst (HasFollowedText n text wrote rose) (sym none.0) (record {
    kind = refl;
    bad = λ other e. absurd cc;
    pieces = λ e. absurd cc;
    told = λ pieces has. tt;
    sink = λ e. absurd cc;
    silent = λ e. none.1;
  })

  -- ---- what is told by which answer

  bad_is_told : (answer : Status) (pieces : List Piece) (fault : LogFault) (lines : List ℕ) → ends_feeding answer ≡ true → FollowTells n pieces wrote rose answer → IsBadFollowed n pieces fault lines →
      Member answer (status.BadLog fault ∷ status.ReadFault ∷ status.NoMemory ∷ [])
  bad_is_told status.Ok pieces fault lines k told bad = absurd (never_bad n pieces fault lines told.0 bad told.1)
  bad_is_told status.WriteFault pieces fault lines k told bad = absurd (never_bad n pieces fault lines told.0 bad told.1)
  bad_is_told (status.BadLog other) pieces fault lines k told bad = inl (ap status.BadLog (one_bad_end n pieces fault other lines told.0 bad told.1).0)
  bad_is_told status.NoMemory pieces fault lines k told bad = inr (inr (inl refl))
  bad_is_told _ pieces fault lines k told bad = absurd cc

  done_is_told : (answer : Status) (pieces : List Piece) (all : List ℕ) → ends_feeding answer ≡ true → FollowTells n pieces wrote rose answer → IsFollowed n pieces all → (answer ≡ status.WriteFault → ⊥) →
      Member answer (status.Ok ∷ status.NoMemory ∷ [])
  done_is_told status.Ok pieces all k told is whole = inl refl
  done_is_told status.WriteFault pieces all k told is whole = absurd (whole refl)
  done_is_told (status.BadLog fault) pieces all k told is whole = absurd (never_bad n pieces fault told.0 all told.1 is)
  done_is_told status.NoMemory pieces all k told is whole = inr (inl refl)
  done_is_told _ pieces all k told is whole = absurd cc

  -- of pieces no answer tells that they are bad
  fed_then : (answer : Status) (pieces : List Piece) → HasPieces n text pieces → HasFollowedText n text wrote rose answer → ends_feeding answer ≡ true
  fed_then status.Ok pieces has h = refl
  fed_then status.NoMemory pieces has h = refl
  fed_then status.WriteFault pieces has h = refl
  fed_then (status.BadLog fault) pieces has h = refl
  fed_then (status.BadFeed at) pieces has h = absurd (not_both n text at pieces (h.bad at refl).0 has)
  fed_then _ pieces has h = h.kind

-- ---- a source that was read

module _ (s : Input) (o : Output) (n : ℕ) where
  abbrev wrote : List ℕ → Type 0
  wrote = Wrote o.hears o.held o.held'

  abbrev rose : Type 0
  rose = Rose o.faults o.faults'

  pub record Follows (answer : Status) : Type 0 where
    pub source : HasReadSource s (Some (Follow n)) answer
    pub ends : EndsFollowing o answer
    pub of : OfFollow s o answer n

  abbrev Reads : Type 0
  Reads = s.tells → (k : ℕ) × (k ≤ MAX_WORKLOAD + 1) × (s.left' ≡ drop k s.left)

  pub out_of_memory : Reads → wrote [] → Follows status.NoMemory
  out_of_memory reads w = record {
    source = record {
      read_fault = λ e. absurd cc;
      bad_source = λ e. absurd cc;
      bad_source_told = λ tells refusal r. inr (inr (inl refl));
      behind_text = λ e. absurd cc;
      source = reads;
      source_end = λ tells e. absurd cc;
    };
    ends = record { kind = refl; sink = λ e. absurd cc; refusal = λ e. absurd cc; silent = λ e. w };
    of = record {
      follow = λ tells pieces has. tt;
      bad_told = λ tells pieces fault lines has bad. inr (inr (inl refl));
      done = λ tells pieces text has is calm whole. inr (inl refl);
    };
  }

  failed : Reads → s.rose → WroteFront wrote rose (fault_text status.ReadFault) → Follows status.ReadFault
  failed reads r w = record {
    source = record {
      read_fault = λ e. r;
      bad_source = λ e. absurd cc;
      bad_source_told = λ tells refusal h. inr (inl refl);
      behind_text = λ e. absurd cc;
      source = reads;
      source_end = λ tells e. absurd cc;
    };
    ends = record { kind = refl; sink = λ e. absurd cc; refusal = λ e. w; silent = λ e. absurd cc };
    of = record {
      follow = λ tells pieces has. tt;
      bad_told = λ tells pieces fault lines has bad. inr (inl refl);
      done = λ tells pieces text has is calm whole. absurd (calm r);
    };
  }

  too_long : Reads → (s.tells → MAX_WORKLOAD < length s.left) → WroteFront wrote rose (fault_text status.TooLong) → Follows status.TooLong
  too_long reads long w = record {
    source = record {
      read_fault = λ e. absurd cc;
      bad_source = λ e tells. long tells;
      bad_source_told = only;
      behind_text = λ e. absurd cc;
      source = reads;
      source_end = λ tells e. absurd cc;
    };
    ends = record { kind = refl; sink = λ e. absurd cc; refusal = λ e. w; silent = λ e. absurd cc };
    of = record {
      follow = λ tells pieces has. tt;
      bad_told = λ tells pieces fault lines has bad. absurd (over tells has.0);
      done = λ tells pieces text has is calm whole. absurd (over tells has.0);
    };
  }
    where
      over : s.tells → length s.left ≤ MAX_WORKLOAD → ⊥
      over tells within = let lt = long tells in omega (arith, lt, within)

      only : s.tells → (refusal : Status) → RefusesSource (Some (Follow n)) s.left refusal → Member status.TooLong (refusal ∷ status.ReadFault ∷ status.NoMemory ∷ [])
      only tells (status.BadFeed at) h = absurd (over tells h.within)
      only tells status.TooLong h = inl refl
      only tells _ h = absurd h

  -- ---- the text is there

  ends_also : (answer : Status) → ends_text answer ≡ true → ends_following answer ≡ true
  ends_also status.Ok e = refl
  ends_also status.NoMemory e = refl
  ends_also status.WriteFault e = refl
  ends_also (status.BadLog fault) e = refl
  ends_also (status.BadFeed at) e = refl
  ends_also status.ReadFault e = refl
  ends_also status.TooLong e = refl
  ends_also _ e = e

  bad_only : (answer : Status) → ends_text answer ≡ true → is_before_disks answer ≡ true → (at : ℕ) × (answer ≡ status.BadFeed at)
  bad_only (status.BadFeed at) k e = (at, refl)
  bad_only status.Usage k e = absurd cc
  bad_only (status.BadText at cause) k e = absurd cc
  bad_only status.ReadFault k e = absurd cc
  bad_only status.TooLong k e = absurd cc
  bad_only (status.BadReport number) k e = absurd cc
  bad_only _ k e = absurd cc

  bad_source_only : (answer : Status) → ends_text answer ≡ true → is_of_source answer ≡ true → (at : ℕ) × (answer ≡ status.BadFeed at)
  bad_source_only (status.BadFeed at) k e = (at, refl)
  bad_source_only (status.BadText at cause) k e = absurd cc
  bad_source_only status.TooLong k e = absurd cc
  bad_source_only (status.BadReport number) k e = absurd cc
  bad_source_only _ k e = absurd cc

  refused_so : (answer : Status) (at : ℕ) → HasFollowedText n s.left wrote rose answer → HasBadPiece n s.left at → Member answer (status.BadFeed at ∷ status.ReadFault ∷ status.NoMemory ∷ [])
  refused_so (status.BadFeed other) at h bad = inl (ap status.BadFeed (one_bad n s.left at other bad (h.bad other refl).0))
  refused_so status.NoMemory at h bad = inr (inr (inl refl))
  refused_so status.Ok at h bad = let p = h.pieces refl in absurd (not_both n s.left at p.0 bad p.1)
  refused_so status.WriteFault at h bad = let p = h.pieces refl in absurd (not_both n s.left at p.0 bad p.1)
  refused_so (status.BadLog fault) at h bad = let p = h.pieces refl in absurd (not_both n s.left at p.0 bad p.1)
  refused_so _ at h bad = absurd (not_so h.kind)

  pub follows_text : (answer : Status) (text : List ℕ) → Reads → (s.tells → ReadsText s.left s.left' text) → length text ≤ MAX_WORKLOAD → HasFollowedText n text wrote rose answer → Follows answer
  follows_text answer text reads read within h = record {
    source = record {
      read_fault = λ e. absurd (wrong (ends_text answer) h.kind (ap ends_text e));
      bad_source = λ e tells. let w = bad_source_only answer h.kind e in subst (λ (a : Status). RefusesSource (Some (Follow n)) s.left a) (sym w.1) (let b = (here tells).bad w.0 w.1 in b.0);
      bad_source_told = only;
      behind_text = λ e tells. (here tells).pieces e;
      source = reads;
      source_end = λ tells e. (read tells).nothing;
    };
    ends = record {
      kind = ends_also answer h.kind;
      sink = h.sink;
      refusal = λ e. let w = bad_only answer h.kind e in let b = h.bad w.0 w.1 in b.1;
      silent = h.silent;
    };
    of = record {
      follow = λ tells pieces has. (here tells).told pieces has;
      bad_told = λ tells pieces fault lines has bad. bad_is_told n s.left wrote rose answer pieces fault lines (fed_then n s.left wrote rose answer pieces has (here tells)) ((here tells).told pieces has) bad;
      done = λ tells pieces all has is calm whole. done_is_told n s.left wrote rose answer pieces all (fed_then n s.left wrote rose answer pieces has (here tells)) ((here tells).told pieces has) is (λ e. whole (h.sink e));
    };
  }
    where
      here : s.tells → HasFollowedText n s.left wrote rose answer
      here tells = subst (λ (l : List ℕ). HasFollowedText n l wrote rose answer) (read tells).whole h

      only : s.tells → (refusal : Status) → RefusesSource (Some (Follow n)) s.left refusal → Member answer (refusal ∷ status.ReadFault ∷ status.NoMemory ∷ [])
      only tells (status.BadFeed at) bad = refused_so answer at (here tells) bad
      only tells status.TooLong long = absurd (let same = ap length (read tells).whole in omega (arith, within, long, same))
      only tells _ bad = absurd bad
