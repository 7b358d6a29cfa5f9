-- What a worker keeps of its call in hand.
use Rattle.std.specs.Prelude.{ℕ, ◌≤◌, ◌≡◌, Bool, true, false, Option, Some, None, [], length}
use Rattle.std.specs.FinMap.{is_sorted}
use Rattle.tau_base.specs.Database.{key_cmp}
use Rattle.tau_base.specs.declared.limits.TheConstants.{MAX_STREAMS, MAX_TRIES}
use Rattle.tau_base.specs.Modes.{format_of, most_streams}
use Rattle.tau_txn.specs.declared.standing.Standing.{Standing}
use Rattle.tau_txn.specs.declared.standing.Standing.TheVariants.{Running, Quitting, LeftOver}
use Rattle.tau_txn.specs.Hand.{PlainHand}
use Rattle.tau_txn.specs.Progress.{IsRun}
use Rattle.tau_txn.specs.Txn.{PlainTxn}

-- whether the call only gives its keys back
abbrev pub is_leaving : Standing → Bool → Bool
is_leaving Running leaves = leaves
is_leaving Quitting leaves = true
is_leaving _ leaves = false

-- its vector has as many positions as there are streams, and its keys ascend
pub record Shaped (width : ℕ) (h : PlainHand) : Type 0 where
  pub wide : length h.dep ≡ width
  pub ascend : is_sorted key_cmp h.held ≡ true

-- it quits only while it holds keys, and it is left over only without keys, after its last try
pub record Settled (h : PlainHand) : Type 0 where
  pub holds : is_leaving h.standing h.leaves ≡ true → 1 ≤ length h.held
  pub last : h.standing ≡ LeftOver → (h.held ≡ []) × (h.tries ≡ MAX_TRIES)

pub record KeepsHand (width : ℕ) (h : PlainHand) : Type 0 where
  pub run : IsRun h
  pub shaped : Shaped width h
  pub settled : Settled h

abbrev pub keeps_in : ℕ → Option PlainHand → Type 0
keeps_in width None = Unit {0}
keeps_in width (Some h) = KeepsHand width h

-- a worker of 1 to as many streams as there may be, and as the format of its mode has room for
pub record Keeps (t : PlainTxn) : Type 0 where
  pub low : 1 ≤ t.width
  pub high : t.width ≤ MAX_STREAMS
  pub fits : t.width ≤ most_streams (format_of t.mode)
  pub hand : keeps_in t.width t.hand

-- the call in hand, where it stays there
abbrev pub kept : Bool → PlainHand → Option PlainHand
kept true h = Some h
kept false h = None
