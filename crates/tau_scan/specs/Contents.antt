-- The contents that a log was read from.
use Rattle.std.specs.Prelude.{ℕ, ◌≡◌, ◌≤◌, List, [], length, map, Option, Some, Ok, slice_get, IsNone}
use Rattle.std.specs.List.{AllZip}
use Rattle.tau_base.specs.declared.format.Format.{Format}
use Rattle.tau_block.specs.Image.{image_of, IfBorn, IsLog as IsLogImage}
use Rattle.tau_block.specs.declared.content.Content.{Content}
use Rattle.tau_scan.specs.declared.log.Log.{Log}
use Rattle.tau_scan.specs.Reading.{IsReading, log_of_contents}

-- the bytes of each content
abbrev pub bytes_in : List Content → List (List ℕ)
bytes_in contents = map (λ (c : Content). c.bytes) contents

-- this is what the image of stream j of n holds in a format, with the place of its closed gate
pub record IsContentOf (f : Format) (n j : ℕ) (image : List ℕ) (c : Content) : Type 0 where
  pub is : image_of j image ≡ Ok (record { format = c.format; count = c.count; bytes = c.bytes })
  pub gate : IfBorn c.format c.count (λ g m. IsLogImage g m j image c.gate_at c.bytes)
  pub states : IfBorn c.format c.count (λ g m. (g ≡ f) × (m ≡ n))
  pub stated : (IsNone c.format → IsNone c.count) × (IsNone c.count → IsNone c.format)
  pub unborn : IsNone c.count → c.gate_at ≡ 16
  pub short : IsNone c.count → (c.bytes ≡ []) × (length image ≤ 17)
  pub before : length c.bytes ≤ c.gate_at

-- these are the contents of the images of all streams, in their order
pub record AreContents (f : Format) (images : List (List ℕ)) (contents : List Content) : Type 0 where
  pub many : length contents ≡ length images
  pub each : (j : ℕ) (c : Content) → slice_get contents j ≡ Some c → (image : List ℕ) × (slice_get images j ≡ Some image) × IsContentOf f (length images) j image c

-- no content is longer than the place of its gate, and an unborn one has none
pub record IsShortContent (c : Content) : Type 0 where
  pub before : length c.bytes ≤ c.gate_at
  pub unborn : IsNone c.count → (c.bytes ≡ []) × (c.gate_at ≡ 16)

abbrev pub AreShortContents : List Content → Type 0
AreShortContents contents = (j : ℕ) (c : Content) → slice_get contents j ≡ Some c → IsShortContent c

-- the log is that of these contents in a format: it has their lengths, and the records that they spell
pub record IsLogOf (f : Format) (contents : List Content) (log : Log) : Type 0 where
  pub whole : log_of_contents f (bytes_in contents) ≡ Ok log
  pub lengths : log.elv ≡ map length (bytes_in contents)
  pub read : AllZip (IsReading f (length contents)) (bytes_in contents) log.streams

-- These are the contents that the disks hold, in the order of the streams, and the log is theirs. They have the format that
-- is asked. Of a disk that tells, the content is that of the bytes that a read gives.
pub record HasContents {D : Type 0} (tells : Type 0) (seen : D → List ℕ) (asked : Option Format) (disks : List D) (log : Log) (contents : List Content) : Type 0 where
  pub format : Format
  pub as_asked : (f : Format) → asked ≡ Some f → format ≡ f
  pub many : length contents ≡ length disks
  pub each : tells → (j : ℕ) (d : D) (c : Content) → slice_get disks j ≡ Some d → slice_get contents j ≡ Some c → IsContentOf format (length disks) j (seen d) c
  pub log_of_them : IsLogOf format contents log
  pub short : AreShortContents contents
