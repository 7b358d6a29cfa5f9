-- Where a key stands in a map.
use Rattle.std.proofs.Common.{ℕ, Bool, true, false, cond, ◌≡◌, inl, inr, List, [], ◌∷◌, slice_get, Option, refl, sym, ap, subst, ◌∙◌}
use Rattle.std.specs.Prelude.{Some, None}
use Rattle.std.specs.Map.{lookup, lookup_key}
use Rattle.std.proofs.lemmas.Bool.{cases_Bool}
use Rattle.std.proofs.lemmas.Option.{slice_get_within}
use Rattle.indexmap.specs.IndexMap.{IndexMap, get, with_value_at, IsUnique}
use Rattle.indexmap.proofs.CallerLemmas.{updates-with_value_at}
use Rattle.tau_base.specs.declared.value.Key.{Key}
use Rattle.tau_shard.specs.Read.{is_key}
use Rattle.tau_shard.specs.Stands.{StandsAt}
use Rattle.tau_shard.proofs.Drops.{key_laws}
use Rattle.tau_shard.proofs.Puts.{is_key_is}

-- a key that is the one that stands here
pub stands_by : {V : Type 0} (es : List (Key × V)) (other key : Key) (at : ℕ) (v : V) → other ≡ key → Some (other, v) ≡ slice_get es at → lookup (is_key key) es ≡ Some v → StandsAt es key at v
stands_by es other key at v same here found =
    let there : slice_get es at ≡ Some (key, v) = sym here ∙ ap (λ (k : Key). Some (k, v)) same in
    record { inside = slice_get_within es at (key, v) there; here = there; found = found }

-- the same, where the key was compared with what stands here
pub stands_compared : {V : Type 0} (es : List (Key × V)) (other key : Key) (at : ℕ) (v : V) → is_key other key ≡ true → Some (other, v) ≡ slice_get es at → lookup (is_key other) es ≡ Some v →
    (x : V) × StandsAt es key at x
stands_compared es other key at v e here found =
    let same = is_key_is other key e in
    (v, stands_by es other key at v same here (subst (λ (k : Key). lookup (is_key k) es ≡ Some v) same found))

-- the stored key that passes a test passes it
pub key_passes : {V : Type 0} (test : Key → Bool) (es : List (Key × V)) (k : Key) → lookup_key test es ≡ Some k → test k ≡ true
key_passes test [] k h = absurd (let bad : None ≡ Some k = h in cc)
key_passes test (e ∷ es) k h = by (test e.0) refl (key_passes test es k) h
  where
    by : (b : Bool) → test e.0 ≡ b → (lookup_key test es ≡ Some k → test k ≡ true) → cond b (Some e.0) (lookup_key test es) ≡ Some k → test k ≡ true
    by true is rest q = let same : e.0 ≡ k = cc in subst (λ (x : Key). test x ≡ true) same is
    by false no' rest q = rest q

-- where a look-up found the key
pub stands_found : {V : Type 0} (es : List (Key × V)) (other key : Key) (at : ℕ) (v : V) → Some other ≡ lookup_key (is_key key) es → Some v ≡ lookup (is_key key) es → slice_get es at ≡ Some (other, v) →
    (x : V) × StandsAt es key at x
stands_found es other key at v is found here =
    (v, stands_by es other key at v (sym (is_key_is key other (key_passes (is_key key) es other (sym is)))) (sym here) (sym found))

abbrev value_of : {V : Type 0} → V → Option (Key × V) → V
value_of d None = d
value_of d (Some p) = p.1

-- the value that stands here
pub stands_with : {V : Type 0} (es : List (Key × V)) (key other : Key) (at : ℕ) (v w : V) → StandsAt es key at v → slice_get es at ≡ Some (other, w) → StandsAt es key at w
stands_with es key other at v w s got = subst (λ x. StandsAt es key at x) (ap (value_of v) (sym s.here ∙ got)) s

-- another value is written where the key stands
pub put_there : {V S : Type 0} (m : IndexMap Key V S) (key : Key) (at : ℕ) (v w : V) → StandsAt m.entries key at v → IsUnique is_key m →
    (q : Key) → get is_key (with_value_at m at w) q ≡ cond (is_key key q) (Some w) (get is_key m q)
put_there m key at v w s unique q = (updates-with_value_at m at w key_laws unique key v s.here).0 q

-- the same value is written there
pub put_same : {V : Type 0} (get get' : Key → Option V) (key : Key) (v w : V) → Some v ≡ get key → w ≡ v → ((q : Key) → get' q ≡ cond (is_key key q) (Some w) (get q)) →
    (q : Key) → get' q ≡ get q
put_same get get' key v w at same updates q = elim (cases_Bool (is_key key q)) [
  | inl is ↦ updates q ∙ rw is (ap Some same ∙ at ∙ ap get (is_key_is key q is))
  | inr no' ↦ updates q ∙ rw no' refl
]
