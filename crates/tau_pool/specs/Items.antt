-- What the pools keep of the taken records.
use Rattle.std.specs.Prelude.{ℕ, suc, Bool, true, false, nat_le, List, [], ◌∷◌, ◌++◌, slice_index, Option, Some, None, if◌then◌else◌}
use Rattle.std.specs.List.{filter}
use Rattle.tau_base.specs.Vectors.{covers}
use Rattle.tau_record.specs.declared.entry.Entry.{Entry}
use Rattle.tau_record.specs.declared.entry.Entry.TheVariants.{Written, Command, Anchor, Catalogue, Epoch}
use Rattle.tau_record.specs.declared.entry.Placed.{Placed}
use Rattle.tau_record.specs.Record.{epoch_after}
use Rattle.tau_pool.specs.Item.{Item}
use Rattle.tau_pool.specs.declared.item.Stage.{Stage}
use Rattle.tau_pool.specs.declared.item.Stage.TheVariants.{Waiting, Flying, Finished}

-- whether the record is still to be finished, or even to be started
abbrev pub is_left : Stage → Bool
is_left Waiting = true
is_left Flying = true
is_left Finished = false

abbrev pub is_waiting : Stage → Bool
is_waiting Waiting = true
is_waiting Flying = false
is_waiting Finished = false

abbrev pub is_flying : Stage → Bool
is_flying Waiting = false
is_flying Flying = true
is_flying Finished = false

-- the vector of a data or command record
abbrev pub dep_of : Entry → Option (List ℕ)
dep_of (Written number anchor dep writes) = Some dep
dep_of (Command number anchor dep call) = Some dep
dep_of (Anchor lv) = None
dep_of (Catalogue text) = None
dep_of (Epoch number lv) = None

-- a record that is not started
abbrev pub unstarted : ℕ → ℕ → ℕ → List ℕ → Item
unstarted j i start dep = record { stream = j; index = i; start = start; dep = dep; stage = Waiting }

abbrev pub item_as : List ℕ → ℕ → ℕ → ℕ → Option (List ℕ) → Option Item
item_as lv j i start None = None
item_as lv j i start (Some dep) = if covers lv dep then Some (unstarted j i start dep) else None

-- what is kept of a record that is judged against this vector, where it is taken
abbrev pub item_of : List ℕ → ℕ → ℕ → Placed → Option Item
item_of lv j i p = item_as lv j i p.start (dep_of p.entry)

abbrev pub with_item : Option Item → List Item → List Item
with_item None xs = xs
with_item (Some x) xs = x ∷ xs

-- the taken records of a stream after an epoch with number k, from number i on
abbrev pub items_in : (ℕ → List ℕ) → ℕ → ℕ → ℕ → List Placed → List Item
items_in judge j k i [] = []
items_in judge j k i (p ∷ ps) = with_item (item_of (judge k) j i p) (items_in judge j (epoch_after k p.entry) (suc i) ps)

-- those of all streams, from stream j on
abbrev pub items_from : (ℕ → List ℕ) → ℕ → List (List Placed) → List Item
items_from judge j [] = []
items_from judge j (ps ∷ streams) = items_in judge j 0 0 ps ++ items_from judge (suc j) streams

-- whether a record that starts here in this stream starts at or after what the vector has for the stream
abbrev pub is_after : List ℕ → ℕ → ℕ → Bool
is_after from j start = nat_le (slice_index from j) start

abbrev pub item_after : List ℕ → Item → Bool
item_after from x = is_after from x.stream x.start

-- the taken records of all streams that do
abbrev pub items_after : List ℕ → (ℕ → List ℕ) → List (List Placed) → List Item
items_after from judge streams = filter (item_after from) (items_from judge 0 streams)
