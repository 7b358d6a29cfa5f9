-- What was gathered is given away.
use Rattle.std.specs.Prelude.{ℕ, ◌≡◌, Some, List, [], slice_get, slice_set}
use Rattle.tau_core.specs.Plain.{PlainStream}
use Rattle.tau_core.specs.State.{Plain}

-- the body of the stream is handed out, and begins again
pub record Gives (p : Plain) (j : ℕ) (bytes : List ℕ) (p' : Plain) : Type 0 where
  pub stream : PlainStream
  pub room : ℕ
  pub is : slice_get p.streams j ≡ Some stream
  pub bytes_is : bytes ≡ stream.body
  pub after : p' ≡ record p { streams = slice_set p.streams j (record stream { body = []; room = room }) }
