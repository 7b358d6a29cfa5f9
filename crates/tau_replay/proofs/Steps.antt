-- Each step keeps the rule.
use Rattle.std.proofs.Common.{◌≡◌, ◌≢◌, ◌⊎◌, ℕ, zero, suc, ◌<◌, ◌≤◌, ◌==◌, Bool, true, false, List, [], ◌∷◌, ◌++◌, length, set, Some, None, refl, sym, ap, ◌∙◌, subst, ⊎_elim, inl, inr, arith, length-set, length-append}
use Rattle.std.specs.Prelude.{slice_index, replicate}
use Rattle.std.proofs.lemmas.Bool.Decides.{nat_tests}
use mathlib.Core.Option.{some, none, some-ne-none, some-injective}
use mathlib.Core.Option as maybe
use mathlib.Core.Logic.{dite}
use native.Mathlib.Decide.{ℕ_discrete}
use lib.ListN.{get_elem?}
use prog.Atomic.{either}
use Rattle.atomic_table.specs.Table.{State, Act, step, keeps, takes, gives, opening, stepped, Valid, Allows, Splits, Joins, Final, Seen, carried_after}
use Rattle.atomic_table.proofs.Lists.{set_again, set_else}
use Rattle.tau_scan.specs.declared.log.Log.{Log}
use Rattle.tau_replay.specs.declared.view.View.{View}
use Rattle.tau_replay.specs.declared.view.TheConstants.{HANDS}
use Rattle.tau_replay.specs.Sound.{AreWorking}
use Rattle.tau_replay.specs.Rule.{Boxed, Slot, hands_of, weigh, total, all_idle, Names, AtHome, Holder, IsOut, Fits, Kept, first_view, without_first, first_alone, both, spent, holding, given, OthersStay, MayGive, Sat, IsIdle, took, gave}
use Rattle.tau_replay.proofs.Sounds.{working_many}
use Rattle.tau_replay.proofs.Totals.{weigh_append, total_set, total_snoc, total_two, each_set, each_snoc, each_end, inside, there}
use Rattle.tau_replay.proofs.Shares.{one, this, weigh_one, all_once, all_many, names_all, names_stay, names_append, names_rest, names_front, names_now, weigh_parts, weigh_now}

abbrev St : Type 0
St = State Slot View

abbrev state : List ℕ → List (maybe.Option Slot) → List View → St
state ws hs vs = record { words = ws; homes = hs; views = vs }

abbrev AreFree : List View → Type 0
AreFree vs = (j : ℕ) (v : View) → get_elem? vs j ≡ some v → v.held ≡ None

abbrev workers : (ℕ → ℕ) → View → ℕ
workers h v = weigh h v.hands

pub starts : (log : Log) (b : Boxed) → AreWorking log b.value.replay → hands_of b ≡ replicate HANDS None → Kept log (opening (0 ∷ []) (Some b ∷ []) (first_view log))
starts log b sound idle = record {
  now = b;
  sound = sound;
  place = inl (record { words = refl; homes = refl; free = one_view });
  each_once = λ h. omega arith;
  fits = each;
}
  where
    one_view : AreFree (first_view log ∷ [])
    one_view zero v e = sym (ap (λ (u : View). u.held) (some-injective (first_view log) v e))
    one_view (suc j) v e = absurd (some-ne-none v (sym e))

    each : (j : ℕ) (v : View) → get_elem? (first_view log ∷ []) j ≡ some v → Fits log (hands_of b) v
    each zero v e = subst (Fits log (hands_of b)) (some-injective (first_view log) v e) (record {
      of_log = λ _. refl;
      spent = λ _. refl;
      named = subst (λ hs. Names hs all_idle) (sym idle) names_all;
    })
    each (suc j) v e = absurd (some-ne-none v (sym e))

-- the part goes from home to a seat, or it is out and nothing changes
module _ (log : Log) (f : ℕ → ℕ) (up : (n : ℕ) → f n ≢ 0) (id : ℕ) (v : View) (idle : v.held ≡ None) (some_worker : 0 < length v.hands) where
  abbrev TakesAt : St → Type 0
  TakesAt s = (w : View) × (a : Act Slot) × Valid s.homes [] a
      × Kept log (stepped s 0 (f (slice_index s.words 0)) id [] w a)
      × took (step 1 0 0 1 none) (v, []) (slice_index s.words 0) (w, carried_after [] a)

  takes_home : (s : St) (r : Kept log s) → AreFree s.views → get_elem? s.views id ≡ some v → TakesAt (state (0 ∷ []) (some (Some r.now) ∷ []) s.views)
  takes_home s r free at =
      let w : View = holding v r.now in
      let mine = r.fits id v at in (
        w,
        takes 0 (Some r.now),
        refl,
        record {
          now = r.now;
          sound = r.sound;
          place = inr (
            id,
            record {
              word = f 0;
              up = up 0;
              words = refl;
              homes = refl;
              within = omega (arith, inside s.views id v at, length-set s.views id w);
              holder = each_set (Holder r.now id) s.views id w (λ j u n e. ((λ same. absurd (n same)), (λ _. free j u e))) ((λ _. refl), (λ n. absurd (n refl)));
            },
          );
          each_once = λ h. (let t = total_set (workers h) s.views id v w at in let p = r.each_once h in omega arith);
          fits = each_set (λ j u. Fits log (hands_of r.now) u) s.views id w (λ j u n e. r.fits j u e) (record { of_log = mine.of_log; spent = λ z. absurd (omega (arith, z, some_worker)); named = mine.named });
        },
        ((λ _. record { part = r.now; now = refl; sound = subst (λ l. AreWorking l r.now.value.replay) (sym (mine.of_log some_worker)) r.sound; named = mine.named }), (λ n. absurd (n refl))),
      )

  waits : (s : St) (r : Kept log s) (k : ℕ) (out : IsOut r.now k s) → get_elem? s.views id ≡ some v → TakesAt (state (out.word ∷ []) (none ∷ []) s.views)
  waits s r k out at = (
    v,
    keeps,
    tt,
    record {
      now = r.now;
      sound = r.sound;
      place = inr (
        k,
        record {
          word = f out.word;
          up = up out.word;
          words = refl;
          homes = refl;
          within = omega (arith, out.within, length-set s.views id v);
          holder = subst (λ vs. (j : ℕ) (u : View) → get_elem? vs j ≡ some u → Holder r.now k j u) (sym (set_again s.views id v at)) out.holder;
        },
      );
      each_once = λ h. ap (total (workers h)) (set_again s.views id v at) ∙ r.each_once h;
      fits = subst (λ vs. (j : ℕ) (u : View) → get_elem? vs j ≡ some u → Fits log (hands_of r.now) u) (sym (set_again s.views id v at)) r.fits;
    },
    ((λ z. absurd (out.up z)), (λ _. refl)),
  )

  pub takes_idle : Allows (Kept log) 1 id (v, []) 0 f (took (step 1 0 0 1 none) (v, []))
  takes_idle s r _ at _ =
      ⊎_elim
      (λ (p : AtHome r.now s). subst (λ (z : List ℕ × List (maybe.Option Slot)). TakesAt (state z.0 z.1 s.views)) (λ i. (sym p.words i, sym p.homes i)) (takes_home s r p.free at))
      (λ (p : (k : ℕ) × IsOut r.now k s). subst (λ (z : List ℕ × List (maybe.Option Slot)). TakesAt (state z.0 z.1 s.views)) (λ i. (sym p.1.words i, sym p.1.homes i)) (waits s r p.0 p.1 at))
      r.place

takes_part : (log : Log) (f : ℕ → ℕ) → ((n : ℕ) → f n ≢ 0) → (slots id : ℕ) (me : Sat) → slots ≡ 1 → IsIdle me → Allows (Kept log) slots id me 0 f (took (step 1 0 0 1 none) me)
takes_part log f up slots id me sized idle =
    subst (λ (z : ℕ × List (ℕ × Slot)). Allows (Kept log) z.0 id (me.0, z.1) 0 f (took (step 1 0 0 1 none) (me.0, z.1))) (λ i. (sym sized i, sym idle.0 i))
    (takes_idle log f up id me.0 idle.1 idle.2)

raised : (n : ℕ) → either (n == 0) 1 n ≢ 0
raised n = by_test (n == 0) refl
  where
    by_test : (b : Bool) → (n == 0) ≡ b → either b 1 n ≡ 0 → ⊥
    by_test true e h = omega (arith, h)
    by_test false e h = let zeroed : n ≡ 0 = h in let other : (n == 0) ≡ false = e in grind (arith, nat_tests)

-- by a compare-exchange, and by a swap
pub takes_free : (log : Log) (slots id : ℕ) (me : Sat) → slots ≡ 1 → IsIdle me → Allows (Kept log) slots id me 0 (λ n. either (n == 0) 1 n) (took (step slots 0 0 1 none) me)
takes_free log slots id me sized idle = takes_part log (λ n. either (n == 0) 1 n) raised slots id me sized idle

pub takes_swapped : (log : Log) (slots id : ℕ) (me : Sat) → slots ≡ 1 → IsIdle me → Allows (Kept log) slots id me 0 (λ _. 2) (took (step slots 0 2 0 none) me)
takes_swapped log slots id me sized idle = takes_part log (λ _. 2) (λ n e. omega (arith, e)) slots id me sized idle

abbrev unwrapped : Boxed → Slot → Boxed
unwrapped d (Some b) = b
unwrapped d None = d

abbrev lead : Boxed → List (ℕ × Slot) → Boxed
lead d [] = d
lead d (x ∷ xs) = unwrapped d x.1

-- the part comes home
module _ (log : Log) (id : ℕ) (v : View) (b : Boxed) (may : MayGive v b) where
  abbrev GivesAt : ℕ → St → Type 0
  GivesAt n s = (w : View) × (a : Act Slot) × Valid s.homes ((0, Some b) ∷ []) a
      × Kept log (stepped s 0 0 id ((0, Some b) ∷ []) w a)
      × gave (step 1 0 0 0 none) (v, (0, Some b) ∷ []) n (w, carried_after ((0, Some b) ∷ []) a)

  -- no other view has a worker of this one
  alone : (s : St) (r : Kept log s) → get_elem? s.views id ≡ some v → (j : ℕ) (u : View) → j ≢ id → get_elem? s.views j ≡ some u → (w : ℕ) → 1 ≤ weigh (this w) u.hands → weigh (this w) v.hands ≡ 0
  alone s r at j u n e w some_of =
      let most = all_once w in
      let all = r.each_once (this w) in
      let t = total_two (workers (this w)) s.views j id u v n e at in
      omega (arith, t, all, most, some_of)

  gives_out : (n : ℕ) (s : St) (r : Kept log s) (k : ℕ) → id ≡ k → (out : IsOut r.now k s) → get_elem? s.views id ≡ some v → GivesAt n (state (out.word ∷ []) (none ∷ []) s.views)
  gives_out n s r k same out at =
      let w : View = given v b in
      let mine = r.fits id v at in
      let held : Some (hands_of r.now) ≡ Some may.old = sym ((out.holder id v at).0 same) ∙ may.held in
      let old : hands_of r.now ≡ may.old = cc in
      let some_worker : 0 < length v.hands = may.some in
      let is_log : v.log ≡ log = mine.of_log some_worker in
      let sound : AreWorking log b.value.replay = subst (λ l. AreWorking l b.value.replay) is_log may.sound in
      let others : OthersStay v.hands (hands_of r.now) (hands_of b) = subst (λ hs. OthersStay v.hands hs (hands_of b)) (sym old) may.others in
      let long : length (hands_of r.now) ≡ length (hands_of b) = working_many log r.now.value.replay r.sound ∙ sym (working_many log b.value.replay sound) in
      let now : Names (hands_of b) (given v b).hands = names_now (hands_of r.now) (hands_of b) v.hands long mine.named in (
        w,
        gives,
        tt,
        record {
          now = b;
          sound = sound;
          place = inl (record { words = refl; homes = refl; free = each_set (λ j u. u.held ≡ None) s.views id w (λ j u n e. (out.holder j u e).1 (λ q. n (q ∙ sym same))) refl });
          each_once = λ h. (let t = total_set (workers h) s.views id v w at in let p = r.each_once h in let a = weigh_now h (hands_of b) v.hands in omega arith);
          fits = each_set (λ j u. Fits log (hands_of b) u) s.views id w
              (λ j u n e. let theirs = r.fits j u e in record { of_log = theirs.of_log; spent = theirs.spent; named = names_stay v.hands (hands_of r.now) (hands_of b) u.hands others (alone s r at j u n e) theirs.named })
              (record { of_log = λ _. is_log; spent = λ _. refl; named = now });
        },
        (λ n' e'. let en : b ≡ n' = ap (lead b) e' in ap (λ (z : Boxed). (given v z, [])) en),
      )

  pub gives_back : Allows (Kept log) 1 id (v, (0, Some b) ∷ []) 0 (λ _. 0) (gave (step 1 0 0 0 none) (v, (0, Some b) ∷ []))
  gives_back s r _ at _ =
      ⊎_elim
      (λ (p : AtHome r.now s). absurd (let h = p.free id v at in let g = may.held in cc))
      (λ (p : (k : ℕ) × IsOut r.now k s).
      dite (ℕ_discrete id p.0)
      (λ same. subst (λ (z : List ℕ × List (maybe.Option Slot)). GivesAt (slice_index z.0 0) (state z.0 z.1 s.views)) (λ i. (sym p.1.words i, sym p.1.homes i)) (gives_out p.1.word s r p.0 same p.1 at))
      (λ n. absurd (let h = (p.1.holder id v at).1 n in let g = may.held in cc)))
      r.place

pub gives_part : (log : Log) (slots id : ℕ) (me : Sat) (b : Boxed) → slots ≡ 1 → me.1 ≡ (0, Some b) ∷ [] → MayGive me.0 b → Allows (Kept log) slots id me 0 (λ _. 0) (gave (step slots 0 0 0 none) me)
gives_part log slots id me b sized carried may =
    subst (λ (z : ℕ × List (ℕ × Slot)). Allows (Kept log) z.0 id (me.0, z.1) 0 (λ _. 0) (gave (step z.0 0 0 0 none) (me.0, z.1))) (λ i. (sym sized i, sym carried i))
    (gives_back log id me.0 b may)

-- what the place says once the views are vs
moved_place : (b : Boxed) (s : St) (vs : List View) → length s.views ≤ length vs → AtHome b s ⊎ ((k : ℕ) × IsOut b k s)
    → (AreFree s.views → AreFree vs)
    → ((k : ℕ) → k < length s.views → ((j : ℕ) (u : View) → get_elem? s.views j ≡ some u → Holder b k j u) → (j : ℕ) (u : View) → get_elem? vs j ≡ some u → Holder b k j u)
    → AtHome b (state s.words s.homes vs) ⊎ ((k : ℕ) × IsOut b k (state s.words s.homes vs))
moved_place b s vs more place home out =
    ⊎_elim (λ (p : AtHome b s). inl (record { words = p.words; homes = p.homes; free = home p.free }))
    (λ (p : (k : ℕ) × IsOut b k s). inr (p.0, record { word = p.1.word; up = p.1.up; words = p.1.words; homes = p.1.homes; within = omega (arith, p.1.within, more); holder = out p.0 p.1.within p.1.holder })) place

-- a view that holds nothing is not the holder's
not_holder : (b : Boxed) (vs : List View) (k id : ℕ) (v : View) → ((j : ℕ) (u : View) → get_elem? vs j ≡ some u → Holder b k j u) → get_elem? vs id ≡ some v → v.held ≡ None → id ≢ k
not_holder b vs k id v each at idle same = absurd (let h = (each id v at).0 same in cc)

-- a view with nothing in hand comes in the place of one
idle_set : (b : Boxed) (vs : List View) (k id : ℕ) (v w : View) → get_elem? vs id ≡ some v → v.held ≡ None → w.held ≡ None
    → ((j : ℕ) (u : View) → get_elem? vs j ≡ some u → Holder b k j u) → (j : ℕ) (u : View) → get_elem? (set vs id w) j ≡ some u → Holder b k j u
idle_set b vs k id v w at idle now each = let n = not_holder b vs k id v each at idle in each_set (Holder b k) vs id w (λ j u _ e. each j u e) ((λ same. absurd (n same)), (λ _. now))

pub splits_one : (log : Log) (id : ℕ) (v : View) → 0 < length v.hands → v.held ≡ None → Splits (Kept log) id v (without_first v) (first_alone v)
splits_one log id v some_worker idle s r at =
    let w : View = without_first v in
    let x : View = first_alone v in
    let mine = r.fits id v at in
    let is_log = mine.of_log some_worker in
    let vs : List View = set s.views id w ++ x ∷ [] in
    let len : length (set s.views id w) ≡ length s.views = length-set s.views id w in record {
      now = r.now;
      sound = r.sound;
      place = moved_place r.now s vs (omega (arith, length-append (set s.views id w) (x ∷ []), len)) r.place
          (λ free. each_snoc (λ j u. u.held ≡ None) (set s.views id w) x (each_set (λ j u. u.held ≡ None) s.views id w (λ j u n e. free j u e) idle) (λ j. refl))
          (λ k l each. each_end (Holder r.now k) (set s.views id w) x (idle_set r.now s.views k id v w at idle idle each) ((λ same. absurd (omega (arith, same, len, l))), (λ _. refl)));
      each_once = λ h. (let t = total_set (workers h) s.views id v w at in let p = r.each_once h in let q = total_snoc (workers h) (set s.views id w) x in let m = weigh_parts h v.hands in omega arith);
      fits = each_snoc (λ j u. Fits log (hands_of r.now) u) (set s.views id w) x
          (each_set (λ j u. Fits log (hands_of r.now) u) s.views id w (λ j u n e. r.fits j u e) (record { of_log = λ _. is_log; spent = λ _. idle; named = names_rest (hands_of r.now) v.hands mine.named }))
          (λ j. record { of_log = λ _. is_log; spent = λ _. refl; named = names_front (hands_of r.now) v.hands mine.named });
    }

pub joins_one : (log : Log) (id : ℕ) (v : View) (other : ℕ) (x : View) → 0 < length v.hands → v.held ≡ None → x.held ≡ None → Joins (Kept log) id v other x (both v x) spent
joins_one log id v other x some_worker idle rests s r at apart there =
    let w : View = both v x in
    let mine = r.fits id v at in
    let vs : List View = set s.views id w in
    let was : get_elem? s.views other ≡ some x = sym (set_else s.views id other w apart) ∙ there in
    let theirs = r.fits other x was in
    let len : length vs ≡ length s.views = length-set s.views id w in record {
      now = r.now;
      sound = r.sound;
      place = moved_place r.now s (set vs other spent) (omega (arith, length-set vs other spent, len)) r.place
          (λ free. each_set (λ j u. u.held ≡ None) vs other spent (λ j u n e. each_set (λ j u. u.held ≡ None) s.views id w (λ j u n e. free j u e) idle j u e) refl)
          (λ k l each. idle_set r.now vs k other x spent there rests refl (idle_set r.now s.views k id v w at idle idle each));
      each_once = λ h.
          (let t = total_set (workers h) s.views id v w at in let p = r.each_once h in let q = total_set (workers h) vs other x spent there in
          let a = weigh_append h v.hands x.hands in omega arith);
      fits = each_set (λ j u. Fits log (hands_of r.now) u) vs other spent
          (λ j u n e. each_set (λ j u. Fits log (hands_of r.now) u) s.views id w (λ j u n e. r.fits j u e)
          (record { of_log = λ _. mine.of_log some_worker; spent = λ _. idle; named = names_append (hands_of r.now) v.hands x.hands mine.named theirs.named }) j u e)
          (record { of_log = λ z. absurd (omega (arith, z)); spent = λ _. refl; named = tt });
    }

-- the slot and what is known of the part, once the seat steps for all workers
abbrev pub Closes : Log → List Slot → Type 0
Closes log xs = (b : Boxed) × (get_elem? xs 0 ≡ some (Some b)) × AreWorking log b.value.replay

pub closes_part : (log : Log) (id : ℕ) (v : View) (ws : List ℕ) (xs : List Slot) → length v.hands ≡ HANDS → v.held ≡ None → Final (Seen (Kept log) id v) ws xs → Closes v.log xs
closes_part log id v ws xs whole idle (s, seen, words, len, slots) =
    let r = seen.0 in
    let at = seen.1 in
    let all : total (workers one) s.views ≡ 256 = r.each_once one ∙ all_many in
    let many : length v.hands ≡ 256 = whole in
    let own = weigh_one v.hands in
    let others : (j : ℕ) (u : View) → j ≢ id → get_elem? s.views j ≡ some u → length u.hands ≡ 0 = λ j u n e. (let t = total_two (workers one) s.views j id u v n e at in let q = weigh_one u.hands in omega (arith, t, q, own, all, many)) in
    let home : AtHome r.now s = ⊎_elim (λ (p : AtHome r.now s). p) (λ (p : (k : ℕ) × IsOut r.now k s).
    let u = there s.views p.0 p.1.within in
    let out = p.1.holder in
    dite (ℕ_discrete p.0 id) (λ same. absurd (let h = (out id v at).0 (sym same) in cc))
    (λ n. absurd (let h = (out p.0 u.0 u.1).0 refl in let g = (r.fits p.0 u.0 u.1).spent (others p.0 u.0 n u.1) in cc))) r.place in
    (r.now, slots 0 (Some r.now) (ap (λ hs. get_elem? hs 0) home.homes), subst (λ l. AreWorking l r.now.value.replay) (sym ((r.fits id v at).of_log (omega (arith, many)))) r.sound)
