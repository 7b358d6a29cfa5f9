-- The invariant holds of each run.
use Rattle.std.proofs.Common.{ℕ, ◌<◌, ◌≡◌, inl, inr, List, [], ◌++◌, length, refl, sym, ap, subst, ◌∙◌, Option, arith}
use Rattle.std.specs.Prelude.{Some, None, ◌∷◌, slice_index}
use Rattle.std.proofs.lemmas.List.{append-nil, append_assoc}
use Rattle.tau_base.specs.declared.value.Key.{Key}
use Rattle.tau_base.specs.declared.value.Mode.{Mode}
use Rattle.tau_model.specs.History.{Act, Member}
use Rattle.tau_base.specs.Vectors.{AtMost}
use Rattle.tau_machine.specs.Hands.{Txn, Hand, held_in, act_in}
use Rattle.tau_machine.specs.Good.{Good}
use Rattle.tau_shard.specs.Shard.{Entry, entry_or, entry_in}
use Rattle.tau_machine.specs.State.{Setting, Ticket, Item, Core, shard_at, sight, hand_of}
use Rattle.tau_machine.specs.Pieces.{NameTheirs, Chain, Ascending, placed_in, anchors_in, records_in}
use Rattle.tau_machine.specs.Accounts.{joined_list}
use Rattle.tau_machine.specs.Invariant.{Agreement, Invariant}
use Rattle.tau_machine.specs.Shapes.{Shapes}
use Rattle.tau_machine.specs.Events.{Event, Leads}
use Rattle.tau_machine.specs.Runs.{IsOpening, LeadOn, Run}
use Rattle.tau_base.proofs.Vectors.{at_most_itself}
use Rattle.tau_machine.proofs.Shapes.{invariant_kept}

module _ (set : Setting) (s : Core) (o : IsOpening set s) where
  no_hand : (w : ℕ) (h : Hand) → hand_of s w ≡ Some h → ⊥
  no_hand w h e = let a = o.hands w in absurd (let bad : None ≡ Some h = sym a ∙ e in cc)

  no_hold : (w : ℕ) (x : Key) (m : Mode) → held_in (hand_of s w) x ≡ Some m → ⊥
  no_hold w x m e = absurd (let bad : None ≡ Some m = sym (ap (λ (i : Option Hand). held_in i x) (o.hands w)) ∙ e in cc)

  no_act : (w : ℕ) (t : Act Txn) → act_in (hand_of s w) ≡ Some t → ⊥
  no_act w t e = absurd (let bad : None ≡ Some t = sym (ap act_in (o.hands w)) ∙ e in cc)

  no_placed : (w : ℕ) (t : Act Txn) → placed_in (hand_of s w) ≡ Some t → ⊥
  no_placed w t e = absurd (let bad : None ≡ Some t = sym (ap placed_in (o.hands w)) ∙ e in cc)

  no_stop : (j c : ℕ) → (s.streams j).stop ≡ Some c → ⊥
  no_stop j c e = absurd (let bad : None ≡ Some c = sym (o.stops j) ∙ e in cc)

  none_of : {A : Type 0} (xs : List A) (a : A) → xs ≡ [] → Member a xs → ⊥
  none_of {A} xs a e m = subst (λ (l : List A). Member a l) e m

  entry_is : (x : Key) → entry_in (shard_at set s x) x ≡ entry_or (shard_at set s x).floor None
  entry_is x = ap (entry_or (shard_at set s x).floor) (o.entries (set.shard_of x) x)

  write_lv_is : (x : Key) → (sight set s).write_lv x ≡ (shard_at set s x).floor
  write_lv_is x = ap (λ (e : Entry). e.write_lv) (entry_is x)

  read_lv_is : (x : Key) → (sight set s).read_lv x ≡ (shard_at set s x).floor
  read_lv_is x = ap (λ (e : Entry). e.read_lv) (entry_is x)

  low : (x : Key) → AtMost (shard_at set s x).floor s.ends
  low x = subst (λ (v : List ℕ). AtMost (shard_at set s x).floor v) (sym o.ends) (o.floors (set.shard_of x))

  not_above : (x : Key) (j : ℕ) → slice_index s.plv j < slice_index (shard_at set s x).floor j → ⊥
  not_above x j lt = absurd (let e = ap (λ (v : List ℕ). slice_index v j) o.plv in let b = o.floors (set.shard_of x) j in omega arith)

  opening_good : Good set.procs set.width set.base [] (hand_of s) (sight set s)
  opening_good = record {
    order = record {
      effects = refl;
      logged = record {
        ordered = λ u t b c. absurd b;
        places = record {
          own = λ r m. absurd m;
          later = λ t r b. absurd b;
          starts = λ r q b. absurd b;
          ended = λ t m. absurd m;
          placed = λ r m. absurd m;
        };
      };
      pasts = λ t m. absurd m;
      light = λ t m. absurd m;
      behind = subst (λ (v : List ℕ). AtMost s.plv v) (sym o.ends) (subst (λ (v : List ℕ). AtMost v set.opening) (sym o.plv) (at_most_itself set.opening));
      count = ap length o.ends ∙ o.count;
    };
    hands = λ w h e. absurd (no_hand w h e);
    apart = λ w u x m e. absurd (no_hold w x _ e);
    keys = λ x. record {
      below_write_lv = subst (λ (v : List ℕ). AtMost v s.ends) (sym (write_lv_is x)) (low x);
      below_read_lv = subst (λ (v : List ℕ). AtMost v s.ends) (sym (read_lv_is x)) (low x);
      wrote = λ t m. absurd m;
      read = λ t m. absurd m;
      freed = λ none. sym (o.rows x);
      unfreed = λ t h. absurd (no_act h.worker t h.act);
      last = λ t h. absurd (no_act h.worker t h.act);
      row_of = λ t m. absurd m;
      light_write_lv = λ j lt. absurd (not_above x j (subst (λ (v : List ℕ). slice_index s.plv j < slice_index v j) (write_lv_is x) lt));
      light_read_lv = λ j lt. absurd (not_above x j (subst (λ (v : List ℕ). slice_index s.plv j < slice_index v j) (read_lv_is x) lt));
    };
  }

  pub opening_invariant : Agreement set [] s
  opening_invariant = record {
    good = record {
      good = opening_good;
      locks = λ w x. ap (λ (e : Entry). e.holders w) (entry_is x) ∙ sym (ap (λ (i : Option Hand). held_in i x) (o.hands w));
      small = o.small;
      floors = λ i. subst (λ (v : List ℕ). AtMost (s.shards i).floor v) (sym o.plv) (o.floors i);
      persisted = subst (λ (v : List ℕ). AtMost s.plv v) (sym o.gathered) (subst (λ (v : List ℕ). AtMost v set.opening) (sym o.plv) (at_most_itself set.opening));
      gathered = subst (λ (v : List ℕ). AtMost s.gathered v) (sym o.ends) (subst (λ (v : List ℕ). AtMost v set.opening) (sym o.gathered) (at_most_itself set.opening));
      count_gathered = ap length o.gathered ∙ o.count;
      count_plv = ap length o.plv ∙ o.count;
      members = λ w. o.committed w;
      streams = λ t m. absurd m;
      unplaced = λ t m. absurd m;
      anchors = λ j a m. absurd (none_of (s.streams j).anchors a (o.anchors j) m);
      pending = λ w k m. absurd (none_of (s.outboxes w).pending k (o.pending w) m);
      acked = λ w k m. absurd (none_of (s.acked w) k (o.acked w) m);
    };
    pieces = record {
      stream = λ j lt. record {
        waiting = [];
        moved = subst (λ (l : List Item). Chain (slice_index set.opening j) l (slice_index s.gathered j)) (sym (o.moved j)) (ap (λ (v : List ℕ). slice_index v j) (sym o.gathered));
        rest = ap (λ (v : List ℕ). slice_index v j) (o.gathered ∙ sym o.ends);
        records = ap (λ (l : List Item). records_in (l ++ [])) (o.moved j);
        anchors = ap (λ (l : List Item). anchors_in (l ++ [])) (o.moved j) ∙ sym (o.anchors j);
        named = subst (λ (l : List Item). NameTheirs (set.anchored j) [] (l ++ [])) (sym (o.moved j)) tt;
        there = λ i m. absurd m;
        posted = λ i p. absurd (elim p [ inl b ↦ none_of (s.outboxes b.0).posted i (o.posted b.0) b.2 | inr b ↦ none_of (s.streams j).posted i (o.own j) b ]);
        flying = λ i f. absurd (no_placed f.0 f.2.0 f.2.2);
      };
      whose = λ w i m. absurd (none_of (s.outboxes w).posted i (o.posted w) m);
      own = λ j i m. absurd (none_of (s.streams j).posted i (o.own j) m);
      ascending = λ w. subst Ascending (sym (o.posted w)) tt;
      ascending_own = λ j. subst Ascending (sym (o.own j)) tt;
      last = λ w t i e m. absurd (no_placed w t e);
      worker = λ w t e. absurd (no_placed w t e);
    };
    stops = λ j c e. absurd (no_stop j c e);
    accounts = λ w. record {
      once = o.once w;
      whose = o.whose w;
      ended = [];
      committed = o.committed w ∙ sym (ap (λ (i : Option (Act Txn)). joined_list i) (ap act_in (o.hands w)));
      tickets = ap (λ (l : List Ticket). l ++ s.acked w) (o.pending w) ∙ o.acked w;
    };
  }

opening_shapes : (set : Setting) (s : Core) → IsOpening set s → Shapes set [] s
opening_shapes set s o = record {
  shards = λ i. record { floor = o.narrow i; entries = λ x e is. absurd (let bad : None ≡ Some e = sym (o.entries i x) ∙ is in cc) };
  workers = λ w. record {
    waiting = o.calls w;
    left = λ c m. absurd (none_of set s o (s.workers w).left c (o.left w) m);
    hand = λ h e. absurd (no_hand set s o w h e);
  };
  committed = λ t m. absurd m;
  anchors = λ j a m. absurd (none_of set s o (s.streams j).anchors a (o.anchors j) m);
}

lead_on_invariant : (set : Setting) (es : List Event) (K new : List (Act Txn)) (s s' : Core) → Invariant set K s → LeadOn set es s s' new → Invariant set (K ++ new) s'
lead_on_invariant set [] K new s s' g (same, none) =
    subst (λ (c : Core). Invariant set (K ++ new) c) (sym same) (subst (λ (l : List (Act Txn)). Invariant set l s) (sym (ap (λ (l : List (Act Txn)). K ++ l) none ∙ append-nil K)) g)
lead_on_invariant set (e ∷ es) K new s s' g (m, first, rest, leads, on, is) =
    subst (λ (l : List (Act Txn)). Invariant set l s') (append_assoc K first rest ∙ ap (λ (l : List (Act Txn)). K ++ l) (sym is))
    (lead_on_invariant set es (K ++ first) rest m s' (invariant_kept set K e s m first g leads) on)

pub run_invariant : (set : Setting) (opening : Core) (events : List Event) (K : List (Act Txn)) (s : Core) → Run set opening events K s → Invariant set K s
run_invariant set opening events K s r = lead_on_invariant set events [] K opening s (record { agrees = opening_invariant set opening r.opens; shapes = opening_shapes set opening r.opens }) r.leads

pub lead_on_more : (set : Setting) (es : List Event) (K : List (Act Txn)) (s m s' : Core) (e : Event) (new : List (Act Txn)) →
    LeadOn set es s m K → Leads set e m s' new → LeadOn set (es ++ e ∷ []) s s' (K ++ new)
lead_on_more set [] K s m s' e new (same, none) leads =
    (s', new, [], subst (λ (c : Core). Leads set e c s' new) same leads, (refl, refl), ap (λ (l : List (Act Txn)). l ++ new) none ∙ sym (append-nil new))
lead_on_more set (f ∷ es) K s m s' e new (c, first, rest, leads, on, is) next =
    (c, first, rest ++ new, leads, lead_on_more set es rest c m s' e new on next, ap (λ (l : List (Act Txn)). l ++ new) is ∙ append_assoc first rest new)
