-- Records that wait for a stream, by the position that they wait for.
use Rattle.std.specs.Prelude.{ℕ, suc, ◌≡◌, ◌≤◌, ◌<◌, ◌⊎◌, Bool, true, false, ◌&&◌, nat_lt, ◌==◌, List, [], ◌∷◌, slice_get, slice_index, Option, Some, None, if◌then◌else◌}
use Rattle.tau_base.specs.Vectors.{covers}
use Rattle.tau_model.specs.History.{Member}
use Rattle.tau_pool.specs.Item.{Item}
use Rattle.tau_pool.specs.declared.waits.Wait.{Wait}
use Rattle.tau_pool.specs.declared.pass.Pass.{Pass}
use Rattle.tau_pool.specs.Items.{is_left, is_waiting}

abbrev pub is_ready_one : List ℕ → Option Item → Bool
is_ready_one rlv None = false
is_ready_one rlv (Some x) = is_waiting x.stage && covers rlv x.dep

-- whether the record at this place is not started, and covered
abbrev pub is_ready : List Item → List ℕ → ℕ → Bool
is_ready items rlv i = is_ready_one rlv (slice_get items i)

-- from number p on: the first that waits for what is not reached yet ends the pass, or one that is ready
abbrev pub pass_from : List Item → List ℕ → ℕ → ℕ → List Wait → Pass
pass_from items rlv reach p [] = record { passed = p; found = None }
pass_from items rlv reach p (w ∷ ws) =
    if nat_lt reach w.at then record { passed = p; found = None }
    else (if is_ready items rlv w.item then record { passed = p; found = Some w.item } else pass_from items rlv reach (suc p) ws)

-- what the record at this place waits for in stream k
abbrev pub wait_of : ℕ → ℕ → Item → Wait
wait_of k i x = record { at = slice_index x.dep k; item = i }

-- whether it waits for stream k: its component is above what is reached, or the stream is its own
abbrev pub waits_for : ℕ → ℕ → Item → Bool
waits_for k reach x = if nat_lt reach (slice_index x.dep k) then true else x.stream == k

abbrev pub waits_at : ℕ → ℕ → ℕ → List Item → List Wait
waits_at k reach i [] = []
waits_at k reach i (x ∷ xs) = if waits_for k reach x then wait_of k i x ∷ waits_at k reach (suc i) xs else waits_at k reach (suc i) xs

-- the items rise by stream, then start
abbrev pub Behind : Item → Item → Type 0
Behind x y = (x.stream < y.stream) ⊎ ((x.stream ≡ y.stream) × (x.start < y.start))

abbrev pub AreBehind : Item → List Item → Type 0
AreBehind x ys = (y : Item) → Member y ys → Behind x y

abbrev pub Ordered : List Item → Type 0
Ordered [] = Unit {0}
Ordered (x ∷ xs) = AreBehind x xs × Ordered xs

-- whether nothing of stream j is left here or before
abbrev pub is_passed : ℕ → Item → Bool
is_passed j x = if nat_lt x.stream j then true else (if x.stream == j then (if is_left x.stage then false else true) else false)

abbrev pub wait_at : Wait → ℕ
wait_at w = w.at

-- what is waited for does not fall
abbrev pub Rises : List Wait → Type 0
Rises [] = Unit {0}
Rises (w ∷ ws) = ((v : Wait) → Member v ws → w.at ≤ v.at) × Rises ws
