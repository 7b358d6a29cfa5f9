-- A role leaves the head, which goes on with the others.
use Rattle.std.proofs.Common.{ℕ, zero, suc, ◌<◌, ◌≤◌, ◌==◌, ◌≡◌, inl, inr, cond, true, false, Bool, List, [], ◌∷◌, length, refl, sym, ap, ◌∙◌, Option, arith, eq-eqb, ne_eqb, length-set}
use Rattle.std.specs.Prelude.{Some, None, replicate, slice_get, slice_set}
use Rattle.std.proofs.lemmas.Bool.{cases_eq}
use lib.ListN.{length-replicate}
use Rattle.tau_core.proofs.Lists.{got_same, got_other}
use Rattle.tau_rule.specs.Heads.{left_by, role_or, split_off, without}
use Rattle.tau_rule.specs.Role.{Role, role_in}
use Rattle.tau_rule.specs.Rule.{clerk_role, manager_role}
use Rattle.tau_rule.specs.Steps.{Sat}
use Rattle.tau_desk.specs.Seats.{HasClerk, HasStock, HasWork, IsClerkSeat, IsHead, IsManagerSeat, IsWorkerSeat}
use Rattle.tau_desk.specs.Shares.{PlainStock, PlainWork}

pub role_stays : (r u : ℕ) (rs : List (ℕ × Role)) → (u ≡ r → ⊥) → role_in u (without r rs) ≡ role_in u rs
role_stays r u [] ne = refl
role_stays r u (x ∷ xs) ne = elim (cases_eq x.0 r) [
  | inl is ↦ ap (λ b. role_in u (cond b (without r xs) (x ∷ without r xs))) (eq-eqb x.0 r is) ∙ role_stays r u xs ne ∙ sym (ap (λ b. cond b (Some x.1) (role_in u xs)) (ne_eqb x.0 u (λ e. ne (sym e ∙ is))))
  | inr apart ↦ ap (λ b. role_in u (cond b (without r xs) (x ∷ without r xs))) (ne_eqb x.0 r apart) ∙ ap (λ z. cond (x.0 == u) (Some x.1) z) (role_stays r u xs ne)
]

-- an element that was taken out of a list is not the one that stands elsewhere
pub still_there : {A : Type 0} (xs : List (Option A)) (i u : ℕ) (x : A) → i < length xs → slice_get (slice_set xs i None) u ≡ Some (Some x) → (u ≡ i → ⊥) × (slice_get xs u ≡ Some (Some x))
still_there {A} xs i u x lt e = elim (cases_eq u i) [
  | inl is ↦ absurd (let gone : Some None ≡ Some (Some x) = sym (got_same xs i None lt) ∙ ap (slice_get (slice_set xs i None)) (sym is) ∙ e in let bad : None ≡ Some x = inside None (Some x) gone in cc)
  | inr ne ↦ (ne, sym (got_other xs i u None ne) ∙ e)
]
  where
    inside : (a b : Option A) → Some a ≡ Some b → a ≡ b
    inside a b h = cc

module _ (m : Sat) (works : List (Option PlainWork)) (stocks : List (Option PlainStock)) (clerk : Bool) (seen : List ℕ) (h : IsHead m works stocks clerk seen) where
  work_stays : (r : ℕ) (u : ℕ) (o : PlainWork) → (u ≡ r → ⊥) → HasWork h.origin m.0 u o → HasWork h.origin (left_by r m.0) u o
  work_stays r u o ne g = record { role = g.role; is = role_stays r u m.0.roles ne ∙ g.is; work = g.work; rests = g.rests }

  stock_stays : (r : ℕ) (j : ℕ) (o : PlainStock) → (manager_role h.origin.load j ≡ r → ⊥) → HasStock h.origin m.0 j o → HasStock h.origin (left_by r m.0) j o
  stock_stays r j o ne g = record { role = g.role; is = role_stays r (manager_role h.origin.load j) m.0.roles ne ∙ g.is; stock = g.stock }

  clerk_stays : (r : ℕ) → (clerk_role h.origin.load ≡ r → ⊥) → HasClerk h.origin m.0 → HasClerk h.origin (left_by r m.0)
  clerk_stays r ne g = record { role = g.role; acked = g.acked; is = role_stays r (clerk_role h.origin.load) m.0.roles ne ∙ g.is; share = g.share; wide = g.wide }

  -- without a worker
  pub head_less_worker : (w : ℕ) → w < h.origin.load.workers → IsHead (left_by w m.0, []) (slice_set works w None) stocks clerk seen
  head_less_worker w low = record {
    origin = h.origin;
    opened = h.opened;
    idle = h.idle;
    none = refl;
    read = h.read;
    seen_is = h.seen_is;
    seen_wide = h.seen_wide;
    worker_count = length-set works w None ∙ h.worker_count;
    manager_count = h.manager_count;
    worker = λ u o e. (let t = still_there works w u o (let c = h.worker_count in omega (arith, c, low)) e in work_stays w u o t.0 (h.worker u o t.1));
    manager = λ j o e. stock_stays w j o (λ d. omega (arith, d, low)) (h.manager j o e);
    clerk_is = λ e. clerk_stays w (λ d. omega (arith, d, low)) (h.clerk_is e);
  }

  -- without a manager
  pub head_less_manager : (j : ℕ) → j < h.origin.load.streams → IsHead (left_by (manager_role h.origin.load j) m.0, []) works (slice_set stocks j None) clerk seen
  head_less_manager j low = record {
    origin = h.origin;
    opened = h.opened;
    idle = h.idle;
    none = refl;
    read = h.read;
    seen_is = h.seen_is;
    seen_wide = h.seen_wide;
    worker_count = h.worker_count;
    manager_count = length-set stocks j None ∙ h.manager_count;
    worker = λ u o e. (let g = h.worker u o e in let t = g.work.there in work_stays (manager_role h.origin.load j) u o (λ d. omega (arith, d, t)) g);
    manager = λ i o e. (let t = still_there stocks j i o (let c = h.manager_count in omega (arith, c, low)) e in let ne = t.0 in stock_stays (manager_role h.origin.load j) i o (λ d. ne (omega (arith, d))) (h.manager i o t.1));
    clerk_is = λ e. clerk_stays (manager_role h.origin.load j) (λ d. omega (arith, d, low)) (h.clerk_is e);
  }

  -- without the clerk
  pub head_less_clerk : IsHead (left_by (clerk_role h.origin.load) m.0, []) works stocks false seen
  head_less_clerk = record {
    origin = h.origin;
    opened = h.opened;
    idle = h.idle;
    none = refl;
    read = h.read;
    seen_is = h.seen_is;
    seen_wide = h.seen_wide;
    worker_count = h.worker_count;
    manager_count = h.manager_count;
    worker = λ u o e. (let g = h.worker u o e in let t = g.work.there in work_stays (clerk_role h.origin.load) u o (λ d. omega (arith, d, t)) g);
    manager = λ i o e. (let g = h.manager i o e in let t = g.stock.there in stock_stays (clerk_role h.origin.load) i o (λ d. omega (arith, d, t)) g);
    clerk_is = λ e. absurd (let bad : false ≡ true = e in cc);
  }

  -- the seat of a worker, whose room for committed calls may have grown
  pub worker_off : (w room : ℕ) (o : PlainWork) → slice_get works w ≡ Some (Some o) → o.committed_room ≤ room → IsWorkerSeat (split_off w m.0, []) w (record o { committed_room = room }) (0, replicate h.origin.load.streams 0) seen
  worker_off w room o e more =
      let g = h.worker w o e in
      let f = g.work.fits in
      record {
        origin = h.origin;
        role = g.role;
        seat = record { opened = h.opened; roles = ap (λ (x : Role). (w, x) ∷ []) (ap role_or g.is); idle = refl; none = refl };
        work = record {
          worker = g.work.worker;
          share = g.work.share;
          there = g.work.there;
          shows = g.work.shows;
          fits = record {
            worker = f.worker;
            width = f.width;
            mode = f.mode;
            runs = f.runs;
            stays = f.stays;
            call = f.call;
            low = f.low;
            high = f.high;
            again = f.again;
            mark = f.mark;
            left = f.left;
            leaves = f.leaves;
            ends = f.ends;
            posts = f.posts;
            commits = λ a b. (let c = f.commits a b in omega (arith, c, more));
          };
          spare = g.work.spare;
        };
        read_is = h.read;
        read_wide = length-replicate h.origin.load.streams zero_word;
        seen_is = h.seen_is;
        seen_wide = h.seen_wide;
        posts = λ p. absurd (g.rests p);
      }
    where
      zero_word : ℕ
      zero_word = 0

  pub manager_off : (j : ℕ) (o : PlainStock) → slice_get stocks j ≡ Some (Some o) → IsManagerSeat (split_off (manager_role h.origin.load j) m.0, []) j o seen
  manager_off j o e = (let g = h.manager j o e in record {
    origin = h.origin;
    role = g.role;
    opened = h.opened;
    roles = ap (λ (x : Role). (manager_role h.origin.load j, x) ∷ []) (ap role_or g.is);
    idle = refl;
    none = refl;
    stock = g.stock;
    seen_is = h.seen_is;
    seen_wide = h.seen_wide;
  })

  pub clerk_off : clerk ≡ true → IsClerkSeat (split_off (clerk_role h.origin.load) m.0, []) seen
  clerk_off e = (let g = h.clerk_is e in record {
    origin = h.origin;
    role = g.role;
    acked = g.acked;
    opened = h.opened;
    roles = ap (λ (x : Role). (clerk_role h.origin.load, x) ∷ []) (ap role_or g.is);
    idle = refl;
    none = refl;
    share = g.share;
    wide = g.wide;
    seen_is = h.seen_is;
    seen_wide = h.seen_wide;
  })

-- what was taken out comes back
pub put_back : {A : Type 0} (xs : List (Option A)) (i : ℕ) (x y : A) → slice_get xs i ≡ Some (Some x) → y ≡ x → slice_set (slice_set xs i None) i (Some y) ≡ xs
put_back [] i x y e same = absurd (let bad : None ≡ Some (Some x) = e in cc)
put_back (z ∷ xs) zero x y e same = (let is : z ≡ Some x = cc in ap (λ o. o ∷ xs) (ap Some same ∙ sym is))
put_back (z ∷ xs) (suc i) x y e same = ap (λ l. z ∷ l) (put_back xs i x y e same)
