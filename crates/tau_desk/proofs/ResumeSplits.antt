-- The worker of the lowest call that was left over goes on with it.
use Rattle.std.proofs.Common.{ℕ, zero, suc, ◌-◌, ◌<◌, ◌≤◌, ◌≡◌, false, true, List, [], ◌∷◌, ◌++◌, length, refl, sym, ap, subst, ◌∙◌, Option, arith}
use Rattle.std.specs.Prelude.{Some, None, drop, is_some, replicate, slice_get, take}
use Rattle.std.specs.List.{remove}
use lib.ListN.{length-replicate}
use Rattle.tau_base.specs.declared.value.Call.{Call}
use Rattle.tau_model.specs.History.{Member, Numbered}
use Rattle.tau_machine.specs.Worker.{Worker}
use Rattle.tau_txn.specs.Hand.{PlainHand}
use Rattle.tau_txn.specs.Txn.{shown_of}
use Rattle.tau_core.specs.declared.state.Load.{Load}
use Rattle.tau_core.specs.State.{Plain}
use Rattle.tau_core.specs.View.{again_in, all_numbered, every, from_on, numbered, numbered_by}
use Rattle.tau_core.specs.Stands.{AreNumbers, IsNumber}
use Rattle.tau_rule.specs.Heads.{resumed, role_or, split_as}
use Rattle.tau_rule.specs.Role.{Role, Share, Working}
use Rattle.tau_rule.specs.Steps.{worker_in_share}
use Rattle.tau_desk.specs.declared.mark.Mark.{Mark}
use Rattle.tau_desk.specs.declared.resumes.LeftOver.{LeftOver}
use Rattle.tau_desk.specs.Resumes.{CanGoOn, Rests, RestsWork, ResumesAt, left_in, resumed_at, told_resumed}
use Rattle.tau_desk.specs.Seats.{HasWork, IsWorkerSeat, PlainHead}
use Rattle.tau_desk.specs.Shares.{PlainWork, ShowsWorker, own_worker}
use Rattle.tau_desk.proofs.Assembling.{same_inside}
use Rattle.tau_desk.proofs.CloseHead.{HeadAt}
use Rattle.tau_core.proofs.LeftBack.{numbered_at, number_got}
use Rattle.tau_base.proofs.Lists.{some_at}

-- one of the numbers, among their calls
record SplitsAt (calls : List Call) (left : List ℕ) (i n : ℕ) : Type 0 where
  front : List Numbered
  call : Numbered
  back : List Numbered
  number : call.number ≡ n
  place : length front ≡ i
  alone : numbered calls n ≡ call ∷ []
  whole : all_numbered calls left ≡ front ++ call ∷ back
  rest : all_numbered calls (remove left i) ≡ front ++ back

splits_at : (l : Load) (left : List ℕ) (i n : ℕ) → AreNumbers l left → slice_get left i ≡ Some n → SplitsAt l.calls left i n
splits_at l [] i n a e = absurd (let bad : None ≡ Some n = e in cc)
splits_at l (m ∷ ms) zero n a e =
    let same : m ≡ n = cc in
    let call : Numbered = record { number = m; call = a.0.0 } in
    let one : numbered l.calls m ≡ call ∷ [] = ap (numbered_by m) a.0.1 in
    record {
      front = [];
      call = call;
      back = all_numbered l.calls ms;
      number = same;
      place = refl;
      alone = ap (numbered l.calls) (sym same) ∙ one;
      whole = ap (λ (c : List Numbered). c ++ all_numbered l.calls ms) one;
      rest = refl;
    }
splits_at l (m ∷ ms) (suc i) n a e =
    let r = splits_at l ms i n a.1 e in
    let call : Numbered = record { number = m; call = a.0.0 } in
    let one : numbered l.calls m ≡ call ∷ [] = ap (numbered_by m) a.0.1 in
    record {
      front = call ∷ r.front;
      call = r.call;
      back = r.back;
      number = r.number;
      place = ap suc r.place;
      alone = r.alone;
      whole = ap (λ (x : List Numbered × List Numbered). x.0 ++ x.1) (λ j. (one j, r.whole j));
      rest = ap (λ (x : List Numbered × List Numbered). x.0 ++ x.1) (λ j. (one j, r.rest j));
    }

-- the numbers that are left
numbers_less : (l : Load) (left : List ℕ) (i : ℕ) → AreNumbers l left → AreNumbers l (remove left i)
numbers_less l [] i a = none i
  where
    none : (k : ℕ) → AreNumbers l (remove [] k)
    none zero = tt
    none (suc k) = tt
numbers_less l (m ∷ ms) zero a = a.1
numbers_less l (m ∷ ms) (suc i) a = (a.0, numbers_less l ms i a.1)

-- the element at a place, and the others
middle : {A : Type 0} (front back : List A) (x : A) → take 1 (drop (length front) (front ++ x ∷ back)) ≡ x ∷ []
middle [] back x = refl
middle (y ∷ front) back x = middle front back x

without_middle : {A : Type 0} (front back : List A) (x : A) → remove (front ++ x ∷ back) (length front) ≡ front ++ back
without_middle [] back x = refl
without_middle (y ∷ front) back x = ap (λ l. y ∷ l) (without_middle front back x)

drop_past : {A : Type 0} (xs : List A) (k : ℕ) → length xs ≤ k → drop k xs ≡ []
drop_past [] zero le = refl
drop_past [] (suc k) le = refl
drop_past {A} (x ∷ xs) zero le = absurd (omega (arith, le))
drop_past (x ∷ xs) (suc k) le = drop_past xs k (omega (arith, le))

-- there are no calls after the last one
none_on : (l : Load) (n : ℕ) → length l.calls < n → from_on l.calls l.workers n ≡ []
none_on l n past = ap (every l.workers 0 n) (drop_past l.calls (n - 1) (omega (arith, past)))

-- what a worker is that rests
rest_is : (l : Load) (wk : Worker) (o : PlainWork) → ShowsWorker l wk o o.mark → RestsWork (length l.calls) o → wk ≡ own_worker l o
rest_is l wk o shows rest = subst (λ (m : Option Mark). ShowsWorker l wk o m) rest.begun shows

rest_hand : (l : Load) (wk : Worker) (o : PlainWork) → wk ≡ own_worker l o → RestsWork (length l.calls) o → wk.hand ≡ None
rest_hand l wk o is rest = ap (λ (k : Worker). k.hand) is ∙ ap (shown_of l.procs o.txn.worker) rest.hand

rest_waits : (l : Load) (wk : Worker) (o : PlainWork) → wk ≡ own_worker l o → RestsWork (length l.calls) o → wk.waiting ≡ []
rest_waits l wk o is rest = ap (λ (k : Worker). k.waiting) is ∙ (λ i. again_in l.calls (rest.again i) ++ none_on l o.next rest.next i)

resumed_is : (i : ℕ) (x : Role) (wk : Worker) (call : Numbered) (front back : List Numbered) → x.share ≡ Working wk → wk.left ≡ front ++ call ∷ back → length front ≡ i → resumed_at i x ≡ resumed x wk call front back
resumed_is i x wk call front back share left place =
    let one : take 1 (drop i wk.left) ≡ call ∷ [] = (λ k. take 1 (drop (sym place k) (left k))) ∙ middle front back call in
    let rest : remove wk.left i ≡ front ++ back = (λ k. remove (left k) (sym place k)) ∙ without_middle front back call in
    ap (λ (s : Share). record x { share = Working (record (worker_in_share s) { waiting = take 1 (drop i (worker_in_share s).left); left = remove (worker_in_share s).left i }) }) share
    ∙ (λ k. record x { share = Working (record wk { waiting = one k; left = rest k }) })

module _ (origin : Plain) (h : PlainHead) (g : HeadAt origin h) (l : LeftOver) (can : CanGoOn (length origin.load.calls) h.workers (Some l)) where
  -- each worker is here, and rests
  pub resting : (w : ℕ) → w < origin.load.workers → (o : PlainWork) × (slice_get h.workers w ≡ Some (Some o)) × RestsWork (length origin.load.calls) o
  resting w low = (let x = some_at h.workers w (let n = g.worker_count in omega (arith, n, low)) in by_case x.0 x.1 (can.0 w x.0 x.1))
    where
      by_case : (o : Option PlainWork) → slice_get h.workers w ≡ Some o → Rests (length origin.load.calls) o → (a : PlainWork) × (slice_get h.workers w ≡ Some (Some a)) × RestsWork (length origin.load.calls) a
      by_case None e r = absurd r
      by_case (Some a) e r = (a, e, r)

  -- and one of them is the call's
  pub lefts : (o : PlainWork) × (slice_get h.workers l.worker ≡ Some (Some o)) × (slice_get o.left l.at ≡ Some l.number) × RestsWork (length origin.load.calls) o
  lefts = (let x = can.1.0 in by_case x.work x.is x.number (can.0 l.worker x.work x.is))
    where
      by_case : (o : Option PlainWork) → slice_get h.workers l.worker ≡ Some o → slice_get (left_in o) l.at ≡ Some l.number → Rests (length origin.load.calls) o →
          (a : PlainWork) × (slice_get h.workers l.worker ≡ Some (Some a)) × (slice_get a.left l.at ≡ Some l.number) × RestsWork (length origin.load.calls) a
      by_case None e f r = absurd r
      by_case (Some a) e f r = (a, e, f, r)

  pub lefts_as : (o : PlainWork) → slice_get h.workers l.worker ≡ Some (Some o) → (slice_get o.left l.at ≡ Some l.number) × RestsWork (length origin.load.calls) o
  lefts_as o there =
      let same : lefts.0 ≡ o = same_inside lefts.0 o (slice_get h.workers l.worker) lefts.1 there in
      subst (λ (a : PlainWork). (slice_get a.left l.at ≡ Some l.number) × RestsWork (length origin.load.calls) a) same (lefts.2, lefts.3)

  module _ (o : PlainWork) (there : slice_get h.workers l.worker ≡ Some (Some o)) (number : slice_get o.left l.at ≡ Some l.number) (rest : RestsWork (length origin.load.calls) o) where
    has_work : HasWork origin h.me.0 l.worker o
    has_work = g.worker l.worker o there

    abbrev wk : Worker
    wk = has_work.work.worker

    shows : wk ≡ own_worker origin.load o
    shows = rest_is origin.load wk o has_work.work.shows rest

    split : SplitsAt origin.load.calls o.left l.at l.number
    split = splits_at origin.load o.left l.at l.number has_work.work.fits.left number

    whole : wk.left ≡ split.front ++ split.call ∷ split.back
    whole = ap (λ (k : Worker). k.left) shows ∙ split.whole

    role_is : resumed_at l.at has_work.role ≡ resumed has_work.role wk split.call split.front split.back
    role_is = resumed_is l.at has_work.role wk split.call split.front split.back has_work.work.share whole split.place

    pub resumes_at : ResumesAt origin.load h.me.0 l.worker l.at
    resumes_at = record {
      call = split.call;
      front = split.front;
      back = split.back;
      can = record {
        role = has_work.role;
        worker = wk;
        is = has_work.is;
        share = has_work.work.share;
        there = has_work.work.there;
        left = whole;
        all = λ u low.
            let q = resting u low in
            let f = g.worker u q.0 q.1 in
            let is = rest_is origin.load f.work.worker q.0 f.work.shows q.2 in (
              f.role,
              f.work.worker,
              f.is,
              f.work.share,
              rest_hand origin.load f.work.worker q.0 is q.2,
              rest_waits origin.load f.work.worker q.0 is q.2,
              (λ c m.
                  let i = numbered_at origin.load.calls q.0.left c (subst (λ (k : Worker). Member c k.left) is m) in
                  let le = can.1.1 u (Some q.0) i.0 c.number q.1 i.1 in
                  let n = split.number in
                  omega (arith, le, n)),
            );
      };
      told = ap (λ (x : Role). split_as l.worker (resumed_at l.at x) h.me.0) (ap role_or has_work.is) ∙ ap (λ (y : Role). split_as l.worker y h.me.0) role_is;
    }

    -- the new seat is the worker's
    pub resumed_seat : (seen : List ℕ) (left_room room : ℕ) (o' : PlainWork) → h.me.0.opened ≡ Some origin → h.me.0.read ≡ (0, replicate origin.load.streams 0) → h.me.0.seen ≡ seen → length seen ≡ origin.load.streams →
        o' ≡ record o { again = Some l.number; left = remove o.left l.at; left_room = left_room; committed_room = room } → IsWorkerSeat (told_resumed l.worker l.at h.me.0, []) l.worker o' (0, replicate origin.load.streams 0) seen
    resumed_seat seen left_room room o' opened read seen_is seen_wide same =
        let f = has_work.work.fits in
        let new : PlainWork = record o { again = Some l.number; left = remove o.left l.at; left_room = left_room; committed_room = room } in
        let next : Worker = record wk { waiting = split.call ∷ []; left = split.front ++ split.back } in
        let y : Role = resumed_at l.at has_work.role in
        let nothing : is_some o.txn.hand ≡ true → ⊥ = λ e. not_some o.txn.hand rest.hand e in
        let shown : next ≡ own_worker origin.load new = (λ i. record {
          waiting = sym split.alone i ++ sym (none_on origin.load o.next rest.next) i;
          hand = (shows i).hand;
          left = sym split.rest i;
          committed = (shows i).committed;
        }) in
        subst (λ (z : PlainWork). IsWorkerSeat (told_resumed l.worker l.at h.me.0, []) l.worker z (0, replicate origin.load.streams 0) seen) (sym same) (record {
          origin = origin;
          role = y;
          seat = record { opened = opened; roles = ap (λ (x : Option Role). (l.worker, resumed_at l.at (role_or x)) ∷ []) has_work.is; idle = refl; none = refl };
          work = record {
            worker = next;
            share = ap (λ (x : Role). x.share) role_is;
            there = has_work.work.there;
            shows = subst (λ (m : Option Mark). ShowsWorker origin.load next new m) (sym rest.begun) shown;
            fits = record {
              worker = f.worker;
              width = f.width;
              mode = f.mode;
              runs = f.runs;
              stays = f.stays;
              call = f.call;
              low = f.low;
              high = f.high;
              again = λ n e. (let it : l.number ≡ n = cc in subst (λ (k : ℕ). IsNumber origin.load k) it (number_got origin.load o.left l.at l.number f.left number));
              mark = f.mark;
              left = numbers_less origin.load o.left l.at f.left;
              leaves = λ e. absurd (nothing e);
              ends = λ e. absurd (nothing e);
              posts = f.posts;
              commits = λ e. absurd (nothing e);
            };
            spare = has_work.work.spare;
          };
          read_is = read;
          read_wide = length-replicate origin.load.streams zero_word;
          seen_is = seen_is;
          seen_wide = seen_wide;
          posts = λ p. absurd (has_work.rests p);
        })
      where
        zero_word : ℕ
        zero_word = 0

        not_some : (x : Option PlainHand) → x ≡ None → is_some x ≡ true → ⊥
        not_some x e t = (let bad : false ≡ true = sym (ap is_some e) ∙ t in cc)
