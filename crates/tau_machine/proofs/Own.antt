-- One worker's hand changes, and nothing else that shows.
use Rattle.std.proofs.Common.{ℕ, ◌≡◌, ◌⊎◌, inl, inr, List, refl, sym, subst, ◌∙◌, Option}
use Rattle.std.specs.Prelude.{Some, None}
use Rattle.std.proofs.lemmas.Bool.{cases_eq}
use Rattle.tau_base.specs.declared.value.Key.{Key}
use Rattle.tau_base.specs.declared.value.Value.{Value}
use Rattle.tau_base.specs.declared.value.Mode.{Mode}
use Rattle.tau_base.specs.declared.value.Mode.TheVariants.{Write}
use Rattle.tau_proc.specs.declared.proc.Proc.{Proc}
use Rattle.tau_base.specs.Database.{Db}
use Rattle.tau_model.specs.History.{Act}
use Rattle.tau_machine.specs.Hands.{Txn, Hand, held_in, act_in, Holds}
use Rattle.tau_machine.specs.Sight.{Sight}
use Rattle.tau_machine.specs.Good.{InPhase, KeyGood, Good}

-- the call in this hand is t, and holds the key
pub record HoldsBy (o : Option Hand) (t : Act Txn) (x : Key) : Type 0 where
  pub mode : Mode
  pub act : act_in o ≡ Some t
  pub held : held_in o x ≡ Some mode

pub holds_by : (hand : ℕ → Option Hand) (w : ℕ) (t : Act Txn) (x : Key) → HoldsBy (hand w) t x → Holds hand t x
holds_by hand w t x h = record { worker = w; mode = h.mode; act = h.act; held = h.held }

-- what some call holds, where it is not this worker's, it holds after this worker moved
pub holds_moved : (hand hand' : ℕ → Option Hand) (w : ℕ) (t : Act Txn) (x : Key) → ((u : ℕ) → (u ≡ w → ⊥) → hand' u ≡ hand u) →
    (HoldsBy (hand w) t x → Holds hand' t x) → Holds hand t x → Holds hand' t x
holds_moved hand hand' w t x other to h = elim (cases_eq h.worker w) [
  | inl is ↦ to (record {
    mode = h.mode;
    act = subst (λ (u : ℕ). act_in (hand u) ≡ Some t) is h.act;
    held = subst (λ (u : ℕ). held_in (hand u) x ≡ Some h.mode) is h.held;
  })
  | inr ne ↦ record {
    worker = h.worker;
    mode = h.mode;
    act = subst (λ (o : Option Hand). act_in o ≡ Some t) (sym (other h.worker ne)) h.act;
    held = subst (λ (o : Option Hand). held_in o x ≡ Some h.mode) (sym (other h.worker ne)) h.held;
  }
]

-- a key where just the same calls hold it
pub key_moved : (base : Db) (K : List (Act Txn)) (hand hand' : ℕ → Option Hand) (ends plv : List ℕ) (x : Key) (row : Value) (write_lv read_lv : List ℕ) →
    ((t : Act Txn) → Holds hand t x → Holds hand' t x) → ((t : Act Txn) → Holds hand' t x → Holds hand t x) →
    KeyGood base K hand ends plv x row write_lv read_lv → KeyGood base K hand' ends plv x row write_lv read_lv
key_moved base K hand hand' ends plv x row write_lv read_lv to back g = record {
  below_write_lv = g.below_write_lv;
  below_read_lv = g.below_read_lv;
  wrote = λ t m e. elim (g.wrote t m e) [ inl h ↦ inl (to t h) | inr a ↦ inr a ];
  read = λ t m e n. elim (g.read t m e n) [ inl h ↦ inl (to t h) | inr a ↦ inr a ];
  freed = λ none. g.freed (λ t h. none t (to t h));
  unfreed = λ t h. g.unfreed t (back t h);
  last = λ t h. g.last t (back t h);
  row_of = λ t m e none later. g.row_of t m e (λ h. none (to t h)) (λ u b w. back u (later u b w));
  light_write_lv = g.light_write_lv;
  light_read_lv = g.light_read_lv;
}

-- no other worker holds a key of this hand in a conflicting mode
abbrev pub Alone : (ℕ → Option Hand) → ℕ → Option Hand → Type 0
Alone hand w o = (u : ℕ) (x : Key) (m n : Mode) → (u ≡ w → ⊥) → held_in o x ≡ Some m → held_in (hand u) x ≡ Some n → (m ≡ Write) ⊎ (n ≡ Write) → ⊥

pub apart_moved : (hand hand' : ℕ → Option Hand) (w : ℕ) → ((u : ℕ) → (u ≡ w → ⊥) → hand' u ≡ hand u) →
    ((a b : ℕ) (x : Key) (m : Mode) → held_in (hand a) x ≡ Some Write → held_in (hand b) x ≡ Some m → a ≡ b) → Alone hand w (hand' w) →
    (a b : ℕ) (x : Key) (m : Mode) → held_in (hand' a) x ≡ Some Write → held_in (hand' b) x ≡ Some m → a ≡ b
apart_moved hand hand' w other old alone a b x m p q = elim (cases_eq a w) [
  | inl is ↦ elim (cases_eq b w) [
    | inl same ↦ is ∙ sym same
    | inr ne ↦ absurd (alone b x Write m ne (subst (λ (u : ℕ). held_in (hand' u) x ≡ Some Write) is p) (subst (λ (o : Option Hand). held_in o x ≡ Some m) (other b ne) q) (inl refl))
  ]
  | inr ne ↦ elim (cases_eq b w) [
    | inl same ↦ absurd (alone a x m Write ne (subst (λ (u : ℕ). held_in (hand' u) x ≡ Some m) same q) (subst (λ (o : Option Hand). held_in o x ≡ Some Write) (other a ne) p) (inr refl))
    | inr nb ↦ old a b x m (subst (λ (o : Option Hand). held_in o x ≡ Some Write) (other a ne) p) (subst (λ (o : Option Hand). held_in o x ≡ Some m) (other b nb) q)
  ]
]

-- what a worker holds that no other holds in a conflicting mode, as the invariant has it
pub alone_before : (hand : ℕ → Option Hand) (w : ℕ) →
    ((a b : ℕ) (x : Key) (m : Mode) → held_in (hand a) x ≡ Some Write → held_in (hand b) x ≡ Some m → a ≡ b) → Alone hand w (hand w)
alone_before hand w old u x m n ne p q (inl e) = ne (sym (old w u x n (subst (λ (k : Mode). held_in (hand w) x ≡ Some k) e p) q))
alone_before hand w old u x m n ne p q (inr e) = ne (old u w x m (subst (λ (k : Mode). held_in (hand u) x ≡ Some k) e q) p)

-- a worker that holds no more than before
pub alone_less : (hand : ℕ → Option Hand) (w : ℕ) (o : Option Hand) → Alone hand w (hand w) →
    ((x : Key) (m : Mode) → held_in o x ≡ Some m → held_in (hand w) x ≡ Some m) → Alone hand w o
alone_less hand w o alone less u x m n ne p q = alone u x m n ne (less x m p) q

module _ (procs : List Proc) (width : ℕ) (base : Db) (K : List (Act Txn)) (v : Sight) (hand hand' : ℕ → Option Hand) (w : ℕ)
    (other : (u : ℕ) → (u ≡ w → ⊥) → hand' u ≡ hand u) (g : Good procs width base K hand v) where
  other_back : (u : ℕ) → (u ≡ w → ⊥) → hand u ≡ hand' u
  other_back u ne = sym (other u ne)

  hands_moved : ((h : Hand) → hand' w ≡ Some h → InPhase procs width K v w h h.phase) →
      (u : ℕ) (h : Hand) → hand' u ≡ Some h → InPhase procs width K v u h h.phase
  hands_moved fine u h e = elim (cases_eq u w) [
    | inl is ↦ subst (λ (k : ℕ). InPhase procs width K v k h h.phase) (sym is) (fine h (subst (λ (k : ℕ). hand' k ≡ Some h) is e))
    | inr ne ↦ g.hands u h (sym (other u ne) ∙ e)
  ]

  -- the hand of w changes, and just the same committed calls hold just the same keys
  pub own : ((t : Act Txn) (x : Key) → HoldsBy (hand w) t x → HoldsBy (hand' w) t x) → ((t : Act Txn) (x : Key) → HoldsBy (hand' w) t x → HoldsBy (hand w) t x) →
      Alone hand w (hand' w) → ((h : Hand) → hand' w ≡ Some h → InPhase procs width K v w h h.phase) → Good procs width base K hand' v
  own to back alone fine = record {
    order = g.order;
    hands = hands_moved fine;
    apart = apart_moved hand hand' w other g.apart alone;
    keys = λ x. key_moved base K hand hand' v.ends v.plv x (v.row x) (v.write_lv x) (v.read_lv x)
        (λ t. holds_moved hand hand' w t x other (λ h. holds_by hand' w t x (to t x h)))
        (λ t. holds_moved hand' hand w t x other_back (λ h. holds_by hand w t x (back t x h))) (g.keys x);
  }

  -- a hand whose call has not committed, before and after
  pub uncommitted : act_in (hand w) ≡ None → act_in (hand' w) ≡ None →
      Alone hand w (hand' w) → ((h : Hand) → hand' w ≡ Some h → InPhase procs width K v w h h.phase) → Good procs width base K hand' v
  uncommitted before after alone fine =
      own (λ t x h. let e = h.act in cc) (λ t x h. let e = h.act in cc) alone fine
