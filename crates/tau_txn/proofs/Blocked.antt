-- A worker that stands against a lock holds the key.
use Rattle.std.proofs.Common.{ℕ, ◌≡◌, true, refl, subst}
use Rattle.std.specs.Prelude.{Option, Some, None, IsSome, not, ◌==◌}
use Rattle.std.proofs.lemmas.Bool.{and_parts}
use Rattle.tau_base.specs.declared.value.Mode.{Mode}
use Rattle.tau_base.specs.declared.value.Mode.TheVariants.{Read, Write}
use Rattle.tau_shard.specs.Shard.{Entry}
use Rattle.tau_shard.specs.Blocks.{against, RefusedBy}
use Rattle.tau_shard.specs.declared.entry.ShardRefusal.{ShardRefusal}
use Rattle.tau_shard.specs.declared.entry.ShardRefusal.TheVariants.{Busy}

some_held : (o : Option Mode) → against Write o ≡ true → IsSome o
some_held None e = cc
some_held (Some m) e = refl

written_held : (o : Option Mode) → against Read o ≡ true → o ≡ Some Write
written_held None e = cc
written_held (Some Read) e = cc
written_held (Some Write) e = refl

against_is : (e : Entry) (w u : ℕ) (m : Mode) (why : ShardRefusal) → why ≡ Busy u → RefusedBy e w m why → against m (e.holders u) ≡ true
against_is e w u m why is refused = let low = subst (RefusedBy e w m) is refused in (and_parts (not (u == w)) (against m (e.holders u)) low.0).1

pub holds_some : (e : Entry) (w u : ℕ) (why : ShardRefusal) → why ≡ Busy u → RefusedBy e w Write why → IsSome (e.holders u)
holds_some e w u why is refused = some_held (e.holders u) (against_is e w u Write why is refused)

pub holds_written : (e : Entry) (w u : ℕ) (why : ShardRefusal) → why ≡ Busy u → RefusedBy e w Read why → e.holders u ≡ Some Write
holds_written e w u why is refused = written_held (e.holders u) (against_is e w u Read why is refused)
