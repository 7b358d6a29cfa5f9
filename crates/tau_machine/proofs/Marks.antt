-- Entries are dropped; streams grow and are persisted.
use Rattle.std.proofs.Common.{ℕ, ◌<◌, true, ◌≡◌, ◌⊎◌, inl, inr, List, length, sym, subst, ◌∙◌, Option, arith}
use Rattle.std.specs.Prelude.{Some, slice_index}
use Rattle.tau_base.specs.declared.value.Key.{Key}
use Rattle.tau_base.specs.declared.value.Mode.{Mode}
use Rattle.tau_base.specs.declared.value.Mode.TheVariants.{Write}
use Rattle.tau_proc.specs.declared.proc.Proc.{Proc}
use Rattle.tau_base.specs.Database.{Db}
use Rattle.tau_proc.specs.Effect.{has_key}
use Rattle.tau_model.specs.History.{Act, touches}
use Rattle.tau_base.specs.Vectors.{AtMost}
use Rattle.tau_machine.specs.Hands.{Txn, lv_of, Phase, Running, Quitting, Placed, Freeing, Hand, mode_of, held_in}
use Rattle.tau_machine.specs.Sight.{Sight}
use Rattle.tau_machine.specs.Good.{Cause, Runs, InPhase, Good}
use Rattle.tau_base.proofs.Vectors.{at_most_trans}

-- the vectors of keys that nobody holds grow, to no more than the persisted positions
pub record Raises (v : Sight) (hand : ℕ → Option Hand) (write_lv read_lv : Key → List ℕ) : Type 0 where
  pub write_lv_up : (x : Key) → AtMost (v.write_lv x) (write_lv x)
  pub read_lv_up : (x : Key) → AtMost (v.read_lv x) (read_lv x)
  pub write_lv_low : (x : Key) → (write_lv x ≡ v.write_lv x) ⊎ AtMost (write_lv x) v.plv
  pub read_lv_low : (x : Key) → (read_lv x ≡ v.read_lv x) ⊎ AtMost (read_lv x) v.plv
  pub write_lv_held : (u : ℕ) (x : Key) (m : Mode) → held_in (hand u) x ≡ Some m → write_lv x ≡ v.write_lv x
  pub read_lv_held : (u : ℕ) (x : Key) (m : Mode) → held_in (hand u) x ≡ Some m → read_lv x ≡ v.read_lv x

module _ (procs : List Proc) (width : ℕ) (base : Db) (K : List (Act Txn)) (v : Sight) (hand : ℕ → Option Hand) (g : Good procs width base K hand v) where
  module _ (write_lv read_lv : Key → List ℕ) (q : Raises v hand write_lv read_lv) where
    runs_raised : (u : ℕ) (i : Hand) → hand u ≡ Some i → Runs procs width K v i → Runs procs width K (record v { write_lv = write_lv; read_lv = read_lv }) i
    runs_raised u i is r = record {
      wide = r.wide;
      below = r.below;
      agrees = r.agrees;
      kept = r.kept;
      write_lv = λ y m e. subst (λ (a : List ℕ). AtMost a i.dep) (sym (q.write_lv_held u y m (held y m e))) (r.write_lv y m e);
      read_lv = λ y e. subst (λ (a : List ℕ). AtMost a i.dep) (sym (q.read_lv_held u y Write (held y Write e))) (r.read_lv y e);
      used = r.used;
      light = r.light;
    }
      where
        held : (y : Key) (m : Mode) → mode_of y i.held ≡ Some m → held_in (hand u) y ≡ Some m
        held y m e = subst (λ (o : Option Hand). held_in o y ≡ Some m) (sym is) e

    phase_raised : (u : ℕ) (i : Hand) (p : Phase) → hand u ≡ Some i → InPhase procs width K v u i p → InPhase procs width K (record v { write_lv = write_lv; read_lv = read_lv }) u i p
    phase_raised u i Running is r = runs_raised u i is r
    phase_raised u i Quitting is r = r
    phase_raised u i (Placed s) is r = r
    phase_raised u i (Freeing s) is r = r

    low : (old new : List ℕ) → (new ≡ old) ⊎ AtMost new v.plv → AtMost old v.ends → AtMost new v.ends
    low old new (inl e) h = subst (λ (a : List ℕ). AtMost a v.ends) (sym e) h
    low old new (inr b) h = at_most_trans new v.plv v.ends b g.order.behind

    cause_raised : (old new : List ℕ) (why : Act Txn → Type 0) → (new ≡ old) ⊎ AtMost new v.plv →
        ((j : ℕ) → slice_index v.plv j < slice_index old j → Cause K j (slice_index old j) why) →
        (j : ℕ) → slice_index v.plv j < slice_index new j → Cause K j (slice_index new j) why
    cause_raised old new why (inl e) h j lt = subst (λ (a : List ℕ). Cause K j (slice_index a j) why) (sym e) (h j (subst (λ (a : List ℕ). slice_index v.plv j < slice_index a j) e lt))
    cause_raised old new why (inr b) h j lt = absurd (let c = b j in omega arith)

    -- entries are dropped
    pub raise_good : Good procs width base K hand (record v { write_lv = write_lv; read_lv = read_lv })
    raise_good = record {
      order = g.order;
      hands = λ u i is. phase_raised u i i.phase is (g.hands u i is);
      apart = g.apart;
      keys = λ x. record {
        below_write_lv = low (v.write_lv x) (write_lv x) (q.write_lv_low x) (g.keys x).below_write_lv;
        below_read_lv = low (v.read_lv x) (read_lv x) (q.read_lv_low x) (g.keys x).below_read_lv;
        wrote = λ t m e. elim ((g.keys x).wrote t m e) [ inl h ↦ inl h | inr a ↦ inr (at_most_trans (lv_of t) (v.write_lv x) (write_lv x) a (q.write_lv_up x)) ];
        read = λ t m e n. elim ((g.keys x).read t m e n) [ inl h ↦ inl h | inr a ↦ inr (at_most_trans (lv_of t) (v.read_lv x) (read_lv x) a (q.read_lv_up x)) ];
        freed = (g.keys x).freed;
        unfreed = (g.keys x).unfreed;
        last = (g.keys x).last;
        row_of = (g.keys x).row_of;
        light_write_lv = cause_raised (v.write_lv x) (write_lv x) (λ t. has_key x t.effect.writes ≡ true) (q.write_lv_low x) (g.keys x).light_write_lv;
        light_read_lv = cause_raised (v.read_lv x) (read_lv x) (λ t. touches x t.effect ≡ true) (q.read_lv_low x) (g.keys x).light_read_lv;
      };
    }

  module _ (ends plv : List ℕ) (up : AtMost v.ends ends) (count : length ends ≡ length v.ends) (more : AtMost v.plv plv) (behind : AtMost plv ends) where
    below_up : (a : List ℕ) → AtMost a v.ends → AtMost a ends
    below_up a h = at_most_trans a v.ends ends h up

    less : (a : List ℕ) (j : ℕ) → slice_index plv j < slice_index a j → slice_index v.plv j < slice_index a j
    less a j lt = let m = more j in omega arith

    runs_grown : (i : Hand) → Runs procs width K v i → Runs procs width K (record v { ends = ends; plv = plv }) i
    runs_grown i r = record {
      wide = r.wide;
      below = below_up i.dep r.below;
      agrees = r.agrees;
      kept = r.kept;
      write_lv = r.write_lv;
      read_lv = r.read_lv;
      used = r.used;
      light = λ j lt. r.light j (less i.dep j lt);
    }

    phase_grown : (u : ℕ) (i : Hand) (p : Phase) → InPhase procs width K v u i p → InPhase procs width K (record v { ends = ends; plv = plv }) u i p
    phase_grown u i Running r = runs_grown i r
    phase_grown u i Quitting r = r
    phase_grown u i (Placed s) r = r
    phase_grown u i (Freeing s) r = r

    -- the placed ends and the persisted positions grow
    pub grow_good : Good procs width base K hand (record v { ends = ends; plv = plv })
    grow_good = record {
      order = record {
        effects = g.order.effects;
        logged = record {
          ordered = g.order.logged.ordered;
          places = record {
            own = g.order.logged.places.own;
            later = g.order.logged.places.later;
            starts = g.order.logged.places.starts;
            ended = λ t m. below_up t.call.place.dep (g.order.logged.places.ended t m);
            placed = λ r m u. let p = g.order.logged.places.placed r m u in let a = p.0 in (omega arith, p.1, p.2);
          };
        };
        pasts = λ t m u. let a = g.order.pasts t m u in let b = up t.call.place.stream in omega arith;
        light = λ t m j lt. g.order.light t m j (less t.call.place.dep j lt);
        behind = behind;
        count = count ∙ g.order.count;
      };
      hands = λ u i is. phase_grown u i i.phase (g.hands u i is);
      apart = g.apart;
      keys = λ x. record {
        below_write_lv = below_up (v.write_lv x) (g.keys x).below_write_lv;
        below_read_lv = below_up (v.read_lv x) (g.keys x).below_read_lv;
        wrote = (g.keys x).wrote;
        read = (g.keys x).read;
        freed = (g.keys x).freed;
        unfreed = (g.keys x).unfreed;
        last = (g.keys x).last;
        row_of = (g.keys x).row_of;
        light_write_lv = λ j lt. (g.keys x).light_write_lv j (less (v.write_lv x) j lt);
        light_read_lv = λ j lt. (g.keys x).light_read_lv j (less (v.read_lv x) j lt);
      };
    }
