-- What each stream starts with, and the state in which the run begins.
use Rattle.std.specs.Prelude.{ℕ, ◌≡◌, List, length, map, slice_get, Some}
use Rattle.tau_base.specs.declared.format.Format.{Format}
use Rattle.tau_block.specs.Image.{count_in, format_in, index_in}
use Rattle.tau_block.specs.declared.content.Content.{Content}
use Rattle.tau_record.specs.Content.{anchors_of}
use Rattle.tau_scan.specs.declared.log.Log.{Log}
use Rattle.tau_core.specs.declared.opening.Opening.{Opening}
use Rattle.tau_open.specs.declared.start.StreamStart.{StreamStart}
use Rattle.tau_open.specs.Reopening.{IsStreamStart, started}
use Rattle.tau_scan.specs.Given.{given_after}

-- stream j of n starts on this content, in a format, with what it is given in the epoch with this number and vector
pub record IsStartOf (f : Format) (n j : ℕ) (text : List ℕ) (epoch : ℕ) (lv : List ℕ) (c : Content) (p : StreamStart) : Type 0 where
  pub format : format_in p.head ≡ f
  pub names : (count_in p.head ≡ n) × (index_in p.head ≡ j)
  pub content : p.content ≡ c
  pub body : p.body ≡ given_after text epoch lv c.bytes
  pub sound : IsStreamStart p

-- each stream does
pub record AreStarts (f : Format) (text : List ℕ) (epoch : ℕ) (lv : List ℕ) (contents : List Content) (starts : List StreamStart) : Type 0 where
  pub many : length starts ≡ length contents
  pub each : (j : ℕ) (p : StreamStart) → slice_get starts j ≡ Some p → (c : Content) × (slice_get contents j ≡ Some c) × IsStartOf f (length contents) j text epoch lv c p

-- the run begins with these rows on this log, and each stream ends where it has started
pub record IsOpeningOn (log : Log) (starts : List StreamStart) (o : Opening) : Type 0 where
  pub floor : o.floor ≡ log.elv
  pub ends : o.ends ≡ map (λ (p : StreamStart). length (started p)) starts
  pub anchors : o.anchors.items ≡ map (λ ps. length (anchors_of ps)) log.streams
