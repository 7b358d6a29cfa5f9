-- A call that runs, takes a lock.
use Rattle.std.proofs.Common.{ℕ, zero, suc, ◌<◌, Bool, true, false, ◌≡◌, ◌⊎◌, inl, inr, List, [], ◌∷◌, ◌++◌, replicate, refl, sym, ap, subst, ◌∙◌, Option, arith}
use Rattle.std.specs.Prelude.{Some, slice_index}
use Rattle.std.proofs.lemmas.Bool.{both_ways, or_cases, cases_lt}
use Rattle.std.proofs.lemmas.List.{length-replicate}
use Rattle.tau_base.specs.declared.value.Key.{Key}
use Rattle.tau_base.specs.declared.value.Value.{Value}
use Rattle.tau_base.specs.declared.value.Mode.{Mode}
use Rattle.tau_base.specs.declared.value.Mode.TheVariants.{Read, Write}
use Rattle.tau_proc.specs.declared.proc.Proc.{Proc}
use Rattle.tau_model.specs.History.{Numbered, Act, touches}
use Rattle.tau_base.specs.Database.{Db, same_key}
use Rattle.tau_proc.specs.Effect.{Effect, has_key, Agrees}
use Rattle.tau_base.specs.Vectors.{AtMost, join}
use Rattle.tau_base.proofs.Keys.{same_key_itself, same_key_is}
use Rattle.tau_machine.specs.Stage.{Stage, Wants, Ends, stage, writes_of}
use Rattle.tau_machine.specs.Hands.{Txn, Phase, Running, Hand, mode_of, hold, held_in}
use Rattle.tau_machine.specs.Sight.{Sight}
use Rattle.tau_machine.specs.Good.{HandCause, Runs, Used, InPhase, Good, Meets}
use Rattle.tau_base.proofs.Vectors.{join_at, join_wide, join_left, join_right, join_below, at_most_trans}
use Rattle.tau_machine.proofs.Stages.{wanted_read, reads_grow}
use Rattle.tau_shard.proofs.At.{cases_key}
use Rattle.tau_machine.proofs.Modes.{hold_same, hold_other}
use Rattle.tau_machine.proofs.Own.{alone_before, uncommitted}
use Rattle.tau_base.proofs.Logic.{or_true, or_left, zeros}

pub agrees_last : (seen : List (Key × Value)) (db : Db) (x : Key) → Agrees seen db → Agrees (seen ++ (x, db x) ∷ []) db
agrees_last [] db x h = (refl, tt)
agrees_last (r ∷ rs) db x h = (h.0, agrees_last rs db x h.1)

pub has_key_append : (k : Key) (xs ys : List (Key × Value)) → has_key k (xs ++ ys) ≡ true → (has_key k xs ≡ true) ⊎ (has_key k ys ≡ true)
has_key_append k [] ys e = inr e
has_key_append k (x ∷ xs) ys e = elim (or_cases (same_key k x.0) (has_key k (xs ++ ys)) e) [
  | inl is ↦ inl (or_left (same_key k x.0) (has_key k xs) is)
  | inr later ↦ elim (has_key_append k xs ys later) [
    | inl a ↦ inl (or_true (same_key k x.0) (has_key k xs) a)
    | inr b ↦ inr b
  ]
]

has_key_one : (k x : Key) (v : Value) → has_key k ((x, v) ∷ []) ≡ true → k ≡ x
has_key_one k x v e = elim (or_cases (same_key k x) false e) [ inl is ↦ same_key_is k x is | inr bad ↦ absurd (both_ways false refl bad) ]

-- one of two vectors has the component of their join
pub join_cause : (v w : List ℕ) (j : ℕ) → (slice_index (join v w) j ≡ slice_index v j) ⊎ (slice_index (join v w) j ≡ slice_index w j)
join_cause v w j = let e = join_at v w j in elim (cases_lt (slice_index v j) (slice_index w j)) [ inl a ↦ inr (omega arith) | inr b ↦ inl (omega arith) ]

cases_mode : (m : Mode) → (m ≡ Read) ⊎ (m ≡ Write)
cases_mode Read = inl refl
cases_mode Write = inr refl

module _ (procs : List Proc) (width : ℕ) (base : Db) (K : List (Act Txn)) (v : Sight) (hand : ℕ → Option Hand) where
  -- what the call holds in another mode than the new key's it held before
  held_before : (h : Hand) (x y : Key) (m n : Mode) → same_key y x ≡ false → mode_of y (hold x m h.held) ≡ Some n → mode_of y h.held ≡ Some n
  held_before h x y m n ne e = sym (hold_other y x m h.held ne) ∙ e

  abbrev pub read_locked : Hand → Key → Hand
  read_locked h x = record h { dep = join h.dep (v.write_lv x); held = hold x Read h.held; seen = h.seen ++ (x, v.row x) ∷ [] }

  abbrev pub with_both : Hand → Key → List ℕ
  with_both h x = join (join h.dep (v.write_lv x)) (v.read_lv x)

  abbrev pub write_locked : Hand → Key → Hand
  write_locked h x = record h { dep = with_both h x; held = hold x Write h.held }

  module _ (g : Good procs width base K hand v) (h : Hand) (x : Key) where
    pub runs_read : Runs procs width K v h → (rs : List (Key × Value)) → stage procs h.call.call h.seen ≡ Wants rs x → Runs procs width K v (read_locked h x)
    runs_read r rs wants = record {
      wide = let a = join_wide h.dep (v.write_lv x) in let b = r.wide in omega arith;
      below = join_below h.dep (v.write_lv x) v.ends r.below (g.keys x).below_write_lv;
      agrees = agrees_last h.seen v.row x r.agrees;
      kept = λ y e. elim (cases_key y x) [
        | inl is ↦ (Read, subst (λ (k : Key). mode_of k (hold x Read h.held) ≡ Some Read) (sym is) (hold_same x Read h.held))
        | inr ne ↦ elim (has_key_append y h.seen ((x, v.row x) ∷ []) e) [
          | inl old ↦ let (m, p) = r.kept y old in (m, hold_other y x Read h.held ne ∙ p)
          | inr new ↦ absurd (both_ways (same_key y x) ne (subst (λ (k : Key). same_key y k ≡ true) (has_key_one y x (v.row x) new) (same_key_itself y)))
        ]
      ];
      write_lv = λ y m e. elim (cases_key y x) [
        | inl is ↦ subst (λ (k : Key). AtMost (v.write_lv k) (join h.dep (v.write_lv x))) (sym is) (join_right h.dep (v.write_lv x))
        | inr ne ↦ at_most_trans (v.write_lv y) h.dep (join h.dep (v.write_lv x)) (r.write_lv y m (held_before h x y Read m ne e)) (join_left h.dep (v.write_lv x))
      ];
      read_lv = λ y e. elim (cases_key y x) [
        | inl is ↦
            let now : mode_of x (hold x Read h.held) ≡ Some Write = subst (λ (k : Key). mode_of k (hold x Read h.held) ≡ Some Write) is e in
            let bad : Some Read ≡ Some Write = sym (hold_same x Read h.held) ∙ now in cc
        | inr ne ↦ at_most_trans (v.read_lv y) h.dep (join h.dep (v.write_lv x)) (r.read_lv y (held_before h x y Read Write ne e)) (join_left h.dep (v.write_lv x))
      ];
      used = λ y m e. elim (cases_key y x) [
        | inl is ↦
            let now : mode_of x (hold x Read h.held) ≡ Some m = subst (λ (k : Key). mode_of k (hold x Read h.held) ≡ Some m) is e in
            let mode : Read ≡ m = (let q : Some Read ≡ Some m = sym (hold_same x Read h.held) ∙ now in cc) in
            subst (λ (n : Mode). Used procs width n y (read_locked h x)) mode
            (subst (λ (k : Key). Used procs width Read k (read_locked h x)) (sym is) (wanted_read procs h.call.call h.seen x (v.row x) rs wants))
        | inr ne ↦ more y m (r.used y m (held_before h x y Read m ne e))
      ];
      light = light';
    }
      where
        no_write : (y : Key) → Used procs width Write y h → ⊥
        no_write y u = both_ways false refl (subst (λ (s : Stage). has_key y (writes_of s) ≡ true) wants u)

        more : (y : Key) (m : Mode) → Used procs width m y h → Used procs width m y (read_locked h x)
        more y Read u = reads_grow procs h.call.call h.seen ((x, v.row x) ∷ []) y u
        more y Write u = absurd (no_write y u)

        still : (y : Key) (m : Mode) → mode_of y h.held ≡ Some m → mode_of y (hold x Read h.held) ≡ Some m
        still y m e = elim (cases_key y x) [
          | inl is ↦ elim (cases_mode m) [
            | inl read ↦ subst (λ (k : Key). mode_of k (hold x Read h.held) ≡ Some m) (sym is) (hold_same x Read h.held ∙ ap (λ (n : Mode). Some n) (sym read))
            | inr write ↦ absurd (no_write y (subst (λ (n : Mode). Used procs width n y h) write (r.used y m e)))
          ]
          | inr ne ↦ hold_other y x Read h.held ne ∙ e
        ]

        light' : (j : ℕ) → slice_index v.plv j < slice_index (join h.dep (v.write_lv x)) j → HandCause K j (slice_index (join h.dep (v.write_lv x)) j) (read_locked h x)
        light' j lt = elim (join_cause h.dep (v.write_lv x) j) [
          | inl e ↦
              let c = r.light j (rw e at lt) in
              rw e (record { key = c.key; mode = c.mode; held = still c.key c.mode c.held; cause = c.cause })
          | inr e ↦
              let c = (g.keys x).light_write_lv j (rw e at lt) in
              rw e (record { key = x; mode = Read; held = hold_same x Read h.held; cause = c })
        ]

    pub runs_write : Runs procs width K v h → (e : Effect) → stage procs h.call.call h.seen ≡ Ends e → has_key x e.writes ≡ true → Runs procs width K v (write_locked h x)
    runs_write r f ends' writes = record {
      wide = let a = join_wide h.dep (v.write_lv x) in let b = join_wide (join h.dep (v.write_lv x)) (v.read_lv x) in let c = r.wide in omega arith;
      below = join_below (join h.dep (v.write_lv x)) (v.read_lv x) v.ends (join_below h.dep (v.write_lv x) v.ends r.below (g.keys x).below_write_lv) (g.keys x).below_read_lv;
      agrees = r.agrees;
      kept = λ y e. elim (cases_key y x) [
        | inl is ↦ (Write, subst (λ (k : Key). mode_of k (hold x Write h.held) ≡ Some Write) (sym is) (hold_same x Write h.held))
        | inr ne ↦ let (m, p) = r.kept y e in (m, hold_other y x Write h.held ne ∙ p)
      ];
      write_lv = λ y m e. elim (cases_key y x) [
        | inl is ↦ subst (λ (k : Key). AtMost (v.write_lv k) (with_both h x)) (sym is)
            (at_most_trans (v.write_lv x) (join h.dep (v.write_lv x)) (with_both h x) (join_right h.dep (v.write_lv x)) (join_left (join h.dep (v.write_lv x)) (v.read_lv x)))
        | inr ne ↦ at_most_trans (v.write_lv y) h.dep (with_both h x) (r.write_lv y m (held_before h x y Write m ne e)) (up_both)
      ];
      read_lv = λ y e. elim (cases_key y x) [
        | inl is ↦ subst (λ (k : Key). AtMost (v.read_lv k) (with_both h x)) (sym is) (join_right (join h.dep (v.write_lv x)) (v.read_lv x))
        | inr ne ↦ at_most_trans (v.read_lv y) h.dep (with_both h x) (r.read_lv y (held_before h x y Write Write ne e)) (up_both)
      ];
      used = λ y m e. elim (cases_key y x) [
        | inl is ↦
            let now : mode_of x (hold x Write h.held) ≡ Some m = subst (λ (k : Key). mode_of k (hold x Write h.held) ≡ Some m) is e in
            let mode : Write ≡ m = (let q : Some Write ≡ Some m = sym (hold_same x Write h.held) ∙ now in cc) in
            subst (λ (n : Mode). Used procs width n y (write_locked h x)) mode
            (subst (λ (k : Key). Used procs width Write k (write_locked h x)) (sym is) (subst (λ (s : Stage). has_key x (writes_of s) ≡ true) (sym ends') writes))
        | inr ne ↦ same y m (r.used y m (held_before h x y Write m ne e))
      ];
      light = light';
    }
      where
        up_both : AtMost h.dep (with_both h x)
        up_both = at_most_trans h.dep (join h.dep (v.write_lv x)) (with_both h x) (join_left h.dep (v.write_lv x)) (join_left (join h.dep (v.write_lv x)) (v.read_lv x))

        same : (y : Key) (m : Mode) → Used procs width m y h → Used procs width m y (write_locked h x)
        same y Read u = u
        same y Write u = u

        stronger : (m : Mode) (y : Key) (e : Effect) → Meets m y e → touches y e ≡ true
        stronger Read y e q = or_true (has_key y e.reads) (has_key y e.writes) q
        stronger Write y e q = q

        light_old : (j position : ℕ) → HandCause K j position h → HandCause K j position (write_locked h x)
        light_old j position c = elim (cases_key c.key x) [
          | inl is ↦ record {
            key = x;
            mode = Write;
            held = hold_same x Write h.held;
            cause = record {
              by = c.cause.by;
              there = c.cause.there;
              because = subst (λ (k : Key). touches k c.cause.by.effect ≡ true) is (stronger c.mode c.key c.cause.by.effect c.cause.because);
              reaches = c.cause.reaches;
            };
          }
          | inr ne ↦ record { key = c.key; mode = c.mode; held = hold_other c.key x Write h.held ne ∙ c.held; cause = c.cause }
        ]

        light' : (j : ℕ) → slice_index v.plv j < slice_index (with_both h x) j → HandCause K j (slice_index (with_both h x) j) (write_locked h x)
        light' j lt = elim (join_cause (join h.dep (v.write_lv x)) (v.read_lv x) j) [
          | inl e ↦ elim (join_cause h.dep (v.write_lv x) j) [
            | inl f ↦
                let p : slice_index (with_both h x) j ≡ slice_index h.dep j = e ∙ f in
                rw p (light_old j (slice_index h.dep j) (r.light j (rw p at lt)))
            | inr f ↦
                let p : slice_index (with_both h x) j ≡ slice_index (v.write_lv x) j = e ∙ f in
                let c = (g.keys x).light_write_lv j (rw p at lt) in
                rw p (record {
                  key = x;
                  mode = Write;
                  held = hold_same x Write h.held;
                  cause = record {
                    by = c.by;
                    there = c.there;
                    because = or_true (has_key x c.by.effect.reads) (has_key x c.by.effect.writes) c.because;
                    reaches = c.reaches;
                  };
                })
          ]
          | inr e ↦
              let c = (g.keys x).light_read_lv j (rw e at lt) in
              rw e (record { key = x; mode = Write; held = hold_same x Write h.held; cause = c })
        ]

pub read_write : Read ≡ Write → ⊥
read_write e = cc

-- a call that begins
pub runs_begun : (procs : List Proc) (width : ℕ) (K : List (Act Txn)) (v : Sight) (c : Numbered) (tries : ℕ) (up : Bool) →
    Runs procs width K v (record { call = c; tries = tries; given_up = up; phase = Running; dep = replicate width 0; held = []; seen = [] })
runs_begun procs width K v c tries up = record {
  wide = omega (arith, length-replicate {A = ℕ} width 0);
  below = λ j. let e = zeros width j in omega arith;
  agrees = tt;
  kept = λ x e. absurd (both_ways false refl e);
  write_lv = λ x m e. cc;
  read_lv = λ x e. cc;
  used = λ x m e. cc;
  light = λ j lt. absurd (let e = zeros width j in omega arith);
}

module _ (procs : List Proc) (width : ℕ) (base : Db) (K : List (Act Txn)) (v : Sight) (hand hand' : ℕ → Option Hand) (w : ℕ)
    (other : (u : ℕ) → (u ≡ w → ⊥) → hand' u ≡ hand u) (g : Good procs width base K hand v) (h : Hand) (x : Key) where
  -- the hand of w goes on to another that has taken one more lock
  took : (m : Mode) (h' : Hand) → hand w ≡ Some h → h.phase ≡ Running → h'.phase ≡ Running → hand' w ≡ Some h' → h'.held ≡ hold x m h.held →
      ((u : ℕ) (n : Mode) → (u ≡ w → ⊥) → held_in (hand u) x ≡ Some n → (m ≡ Write) ⊎ (n ≡ Write) → ⊥) → Runs procs width K v h' → Good procs width base K hand' v
  took m h' is phase phase' now held free runs = uncommitted procs width base K v hand hand' w other g (rw (is, phase) refl) (rw (now, phase') refl)
      (λ u y p n ne a b c. elim (cases_key y x) [
        | inl same ↦
            let at : mode_of y h'.held ≡ Some p = rw now at a in
            let mode : mode_of x (hold x m h.held) ≡ Some p = subst (λ (k : Key). mode_of k (hold x m h.held) ≡ Some p) same (subst (λ (l : List (Key × Mode)). mode_of y l ≡ Some p) held at) in
            let p_is : p ≡ m = (let q : Some m ≡ Some p = sym (hold_same x m h.held) ∙ mode in cc) in
            free u n ne (subst (λ (k : Key). held_in (hand u) k ≡ Some n) same b) (subst (λ (k : Mode). (k ≡ Write) ⊎ (n ≡ Write)) p_is c)
        | inr apart ↦
            let at : mode_of y h'.held ≡ Some p = rw now at a in
            let old : mode_of y h.held ≡ Some p = sym (hold_other y x m h.held apart) ∙ subst (λ (l : List (Key × Mode)). mode_of y l ≡ Some p) held at in
            alone_before hand w g.apart u y p n ne (rw is old) b c
      ])
      (λ i e. let same : h' ≡ i = (let q : Some h' ≡ Some i = sym now ∙ e in cc) in
      subst (λ (j : Hand). InPhase procs width K v w j j.phase) same (subst (λ (p : Phase). InPhase procs width K v w h' p) (sym phase') runs))

  pub lock_read : hand w ≡ Some h → h.phase ≡ Running → (rs : List (Key × Value)) → stage procs h.call.call h.seen ≡ Wants rs x →
      ((u : ℕ) → (u ≡ w → ⊥) → held_in (hand u) x ≡ Some Write → ⊥) →
      hand' w ≡ Some (record h { dep = join h.dep (v.write_lv x); held = hold x Read h.held; seen = h.seen ++ (x, v.row x) ∷ [] }) → Good procs width base K hand' v
  lock_read is phase rs wants free now =
      let r : Runs procs width K v h = subst (λ (p : Phase). InPhase procs width K v w h p) phase (g.hands w h is) in
      took Read (record h { dep = join h.dep (v.write_lv x); held = hold x Read h.held; seen = h.seen ++ (x, v.row x) ∷ [] }) is phase phase now refl
      (λ u n ne a c. elim c [ inl bad ↦ absurd (read_write bad) | inr write ↦ free u ne (subst (λ (k : Mode). held_in (hand u) x ≡ Some k) write a) ])
      (runs_read procs width base K v hand g h x r rs wants)

  pub lock_write : hand w ≡ Some h → h.phase ≡ Running → (e : Effect) → stage procs h.call.call h.seen ≡ Ends e → has_key x e.writes ≡ true →
      ((u : ℕ) (n : Mode) → (u ≡ w → ⊥) → held_in (hand u) x ≡ Some n → ⊥) →
      hand' w ≡ Some (record h { dep = join (join h.dep (v.write_lv x)) (v.read_lv x); held = hold x Write h.held }) → Good procs width base K hand' v
  lock_write is phase e ends writes free now =
      let r : Runs procs width K v h = subst (λ (p : Phase). InPhase procs width K v w h p) phase (g.hands w h is) in
      took Write (record h { dep = join (join h.dep (v.write_lv x)) (v.read_lv x); held = hold x Write h.held }) is phase phase now refl
      (λ u n ne a c. free u n ne a)
      (runs_write procs width base K v hand g h x r e ends writes)

-- the dep may be joined with a vector that the persisted positions cover, ahead of the commit
pub runs_raised : (procs : List Proc) (width : ℕ) (base : Db) (K : List (Act Txn)) (v : Sight) (hand : ℕ → Option Hand) → Good procs width base K hand v → (h : Hand) (a : List ℕ) →
    AtMost a v.plv → Runs procs width K v h → Runs procs width K v (record h { dep = join h.dep a })
runs_raised procs width base K v hand g h a low r = record {
  wide = let p = join_wide h.dep a in let q = r.wide in omega arith;
  below = join_below h.dep a v.ends r.below (at_most_trans a v.plv v.ends low g.order.behind);
  agrees = r.agrees;
  kept = r.kept;
  write_lv = λ x m e. at_most_trans (v.write_lv x) h.dep (join h.dep a) (r.write_lv x m e) (join_left h.dep a);
  read_lv = λ x e. at_most_trans (v.read_lv x) h.dep (join h.dep a) (r.read_lv x e) (join_left h.dep a);
  used = λ x m e. by_mode x m (r.used x m e);
  light = λ j lt. elim (join_cause h.dep a j) [
    | inl e ↦ let c = r.light j (rw e at lt) in rw e (record { key = c.key; mode = c.mode; held = c.held; cause = c.cause })
    | inr e ↦ absurd (let b = low j in omega arith)
  ];
}
  where
    by_mode : (x : Key) (m : Mode) → Used procs width m x h → Used procs width m x (record h { dep = join h.dep a })
    by_mode x Read u = u
    by_mode x Write u = u
