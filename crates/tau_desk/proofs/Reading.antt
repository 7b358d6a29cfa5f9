-- A call that only read commits with its first free, or with its end; a worker reads an anchor.
use Rattle.std.proofs.Common.{◌≡◌, ℕ, ◌≤◌, ◌<◌, ◌+◌, List, [], ◌∷◌, ◌++◌, Option, length, refl, sym, ap, ◌∙◌, subst, arith}
use Rattle.std.specs.Prelude.{Some}
use Rattle.tau_shown.proofs.Steps.{gives_part}
use Rattle.tau_model.specs.declared.committed.Committed.{Committed}
use Rattle.tau_shard.specs.Shard.{at, Shard, shard_freed}
use Rattle.tau_shard.proofs.At.{at_same, at_other}
use Rattle.tau_machine.specs.Worker.{Worker, begun, hand_freed, hand_joined}
use Rattle.std.specs.Map.{lookup}
use Rattle.tau_base.specs.Database.{same_key}
use Rattle.tau_base.specs.Shards.{shard_number}
use Rattle.tau_base.specs.declared.value.Key.{Key}
use Rattle.tau_base.specs.declared.value.Mode.{Mode}
use Rattle.tau_model.specs.History.{Act}
use Rattle.tau_machine.specs.Hands.{Txn, Hand, Freeing, committed_of, lv_of, mode_of}
use Rattle.tau_machine.specs.State.{Core}
use Rattle.tau_machine.proofs.States.{again}
use Rattle.tau_machine.specs.Events.{FirstFree, with_shard, with_worker}
use Rattle.tau_txn.specs.Next as txn
use Rattle.tau_occ.specs.declared.style.Style.{Style}
use Rattle.tau_rule.proofs.Workers.{worker_shown}
use Rattle.tau_txn.specs.Txn.{PlainTxn, hand_in, worker_of}
use Rattle.tau_core.specs.declared.state.Load.{Load}
use Rattle.tau_core.specs.Pieces.{Names}
use Rattle.tau_core.specs.State.{Plain}
use Rattle.tau_core.specs.View.{setting_of}
use Rattle.tau_rule.specs.Role.{Role, Share, Working, Managing, Clerking}
use Rattle.tau_rule.specs.Knows.{Knows}
use Rattle.tau_rule.specs.Rule.{Now, IsPart, IsRole, Meets, Sees, anchor_part, anchors_at, has, hand_of, outbox_part, part_count, word_of}
use Rattle.tau_rule.specs.Steps.{ComesHome, StepsShard, first_role, handed, next_worker, worker_in_share, working}
use Rattle.tau_rule.specs.Boxes.{BoxOf, box_in, with_box}
use Rattle.tau_rule.specs.declared.part.Part.{Part}
use Rattle.tau_rule.specs.declared.part.Part.TheVariants as part
use Rattle.tau_rule.proofs.Turns.{Turn, alone, handed_sees, one_role, role_alone, same_share}
use Rattle.tau_rule.proofs.Boxes.{box_part, part_box}
use Rattle.tau_desk.specs.Works.{GivesRead, GivesRoom, anchor_in, joined_worker, told_joined, told_read, told_read_only, told_room}

pub told_joined_is : (l : Load) (v : Knows) (t : PlainTxn) (kept : Committed) (w : ℕ) (x : Role) (wk : Worker) → v.roles ≡ (w, x) ∷ [] → x.share ≡ Working wk → told_joined l v t kept ≡ handed v w (working x (joined_worker l wk t kept))
told_joined_is l v t kept w x wk roles share =
    λ i. handed v (first_role (roles i)).0 (working (first_role (roles i)).1 (joined_worker l ((ap (λ (r : List (ℕ × Role)). worker_in_share (first_role r).1.share) roles ∙ ap worker_in_share share) i) t kept))

pub told_read_only_is : (l : Load) (v : Knows) (t : PlainTxn) (kept : Committed) (spare : ℕ × ℕ) (w : ℕ) (x : Role) (wk : Worker) → v.roles ≡ (w, x) ∷ [] → x.share ≡ Working wk →
    told_read_only l v t kept spare ≡ handed v w (with_box x (joined_worker l wk t kept) spare)
told_read_only_is l v t kept spare w x wk roles share =
    λ i. handed v (first_role (roles i)).0 (with_box (first_role (roles i)).1 (joined_worker l ((ap (λ (r : List (ℕ × Role)). worker_in_share (first_role r).1.share) roles ∙ ap worker_in_share share) i) t kept) spare)

pub told_room_is : (v : Knows) (spare : ℕ × ℕ) (w : ℕ) (x : Role) → v.roles ≡ (w, x) ∷ [] → told_room v spare ≡ handed v w (record x { spare = spare })
told_room_is v spare w x roles = λ i. handed v (first_role (roles i)).0 (record (first_role (roles i)).1 { spare = spare })

-- room was made in an outbox, and nothing else happened
module _ (origin : Plain) (w : ℕ) (spare : ℕ × ℕ) (c : Now) where
  abbrev on_room : Now
  on_room = record { core = c.core; raised = c.raised; spare = at w spare c.spare; stored = c.stored }

  parts_stay : (j : ℕ) (p : Part) → (j ≡ outbox_part w → ⊥) → IsPart origin.load j p c → IsPart origin.load j p on_room
  parts_stay j (part.Shard b) apart h = h
  parts_stay j (part.Outbox o p) apart h =
      let other : h.0 ≡ w → ⊥ = (λ e. apart (h.1 ∙ ap outbox_part e)) in (
        h.0,
        h.1,
        h.2,
        h.3,
        subst (λ (z : ℕ × ℕ). z.0 ≤ o.value.room) (sym (at_other w spare c.spare h.0 other)) h.4,
        subst (λ (z : ℕ × ℕ). z.1 ≤ p.value.room) (sym (at_other w spare c.spare h.0 other)) h.5,
      )
  parts_stay j (part.Anchor number lv) apart h = h

  room_turn : {style : Style} (old : Role) → Meets origin style c → IsRole origin.load w old c → Turn origin style c on_room (outbox_part w) w (record old { spare = spare })
  room_turn old meets mine = record {
    parts = λ j p low apart h. parts_stay j p apart h;
    mine = (same_share origin c c.raised (at w spare c.spare) w old.share mine.0, mine.1, at_same w spare c.spare);
    others = λ u x apart h. (same_share origin c c.raised (at w spare c.spare) u x.share h.0, h.1, at_other w spare c.spare u apart ∙ h.2);
    sight = λ v lacks h. record { opened = h.opened; wide = h.wide; low = h.low; own = h.own; read = h.read; found = h.found };
    kept = record { reached = meets.reached; stored = meets.stored; going = meets.going; fits = meets.fits; anchors = meets.anchors; opened = meets.opened; limited = meets.limited; beyond = meets.beyond; shards = meets.shards; streams = meets.streams };
  }

pub gives_room : (origin : Plain) {style : Style} (id : ℕ) (v : Knows) (carried : List (ℕ × Option Part)) (q : Part) (b : BoxOf) (w : ℕ) (spare : ℕ × ℕ) → GivesRoom (v, carried) b w spare → box_in q ≡ Some b → w < origin.load.workers → v.opened ≡ Some origin →
    ComesHome origin style id v (outbox_part w) q (told_room v spare)
gives_room origin {style} id v carried q b w spare g is there opened =
    let x : Role = g.role in
    let y : Role = record x { spare = spare } in
    subst (λ (t : Knows). ComesHome origin style id v (outbox_part w) q t) (sym (told_room_is v spare w x g.roles))
    (gives_part (IsPart origin.load) (IsRole origin.load) (word_of origin.load) hand_of has (Sees origin) (Meets origin style) (part_count origin.load) (origin.load.streams + origin.load.streams + 1) id (outbox_part w) v (handed v w y) g.taken q w x y g.held (one_role v w x g.roles) refl
    (role_alone w y) (λ u z h. alone w y u z h)
    (λ c m part mine seen.
    let before = part_box origin c w g.taken g.before g.was part in
    let c' : Now = on_room origin w spare c in (
      c',
      room_turn origin w spare c x m mine,
      box_part origin c' w q b is there (record {
        posted = subst (λ ps. Rattle.tau_core.specs.Pieces.Paired (Rattle.tau_core.specs.Pieces.IsPieceOf origin.load (anchors_at c.core)) ps (c.core.outboxes w).posted) (sym g.pieces) before.posted;
        pending = before.pending ∙ ap Rattle.tau_core.specs.View.tickets (sym g.pending);
      }) (subst (λ (z : ℕ × ℕ). z.0 ≤ b.0.room) (sym (at_same w spare c.spare)) g.records) (subst (λ (z : ℕ × ℕ). z.1 ≤ b.1.room) (sym (at_same w spare c.spare)) g.calls),
      handed_sees origin c' v w x y there opened (one_role v w x g.roles) (record { opened = seen.opened; wide = seen.wide; low = seen.low; own = seen.own; read = seen.read; found = seen.found }),
      (λ i low. refl),
    ))
    (λ found m. m ≡ (handed v w y, []))
    (λ m. refl))

-- an anchor is read
part_anchor : (l : Load) (c : Now) (j : ℕ) (p : Part) (number : ℕ) (lv : List ℕ) → anchor_in p ≡ Some (number, lv) → IsPart l (anchor_part l j) p c → Names l j (anchors_at c.core j) number lv
part_anchor l c j (part.Shard b) number lv is h = cc
part_anchor l c j (part.Outbox o p) number lv is h = cc
part_anchor l c j (part.Anchor n v) number lv is h =
    let same : h.0 ≡ j = (let a = h.1 in omega (arith, a)) in
    let pair : (n, v.value) ≡ (number, lv) = cc in
    subst (λ (z : ℕ × (ℕ × List ℕ)). Names l z.0 (anchors_at c.core z.0) z.1.0 z.1.1) (λ i. (same i, pair i)) h.3

part_of_anchor : (l : Load) (c : Now) (k : ℕ) (p q : Part) → anchor_in p ≡ anchor_in q → (z : ℕ × List ℕ) → anchor_in q ≡ Some z → IsPart l k p c → IsPart l k q c
part_of_anchor l c k (part.Anchor n v) (part.Anchor m u) e z is h =
    let pair : (n, v.value) ≡ (m, u.value) = cc in
    (h.0, h.1, h.2, subst (λ (y : ℕ × List ℕ). Names l h.0 (anchors_at c.core h.0) y.0 y.1) pair h.3, subst (λ (y : ℕ × List ℕ). length y.1 ≡ l.streams) pair h.4)
part_of_anchor l c k p (part.Shard b) e z is h = cc
part_of_anchor l c k p (part.Outbox o r) e z is h = cc
part_of_anchor l c k (part.Shard b) (part.Anchor m u) e z is h = cc
part_of_anchor l c k (part.Outbox o r) (part.Anchor m u) e z is h = cc

pub gives_read : (origin : Plain) {style : Style} (id : ℕ) (v : Knows) (carried : List (ℕ × Option Part)) (q : Part) (w number : ℕ) (lv : List ℕ) → GivesRead origin.load (v, carried) w number lv → anchor_in q ≡ Some (number, lv) → v.opened ≡ Some origin →
    ComesHome origin style id v (anchor_part origin.load ((setting_of origin.load).stream_of w)) q (told_read v number lv)
gives_read origin {style} id v carried q w number lv g is opened =
    let x : Role = g.role in
    let j : ℕ = (setting_of origin.load).stream_of w in
    let mine_alone : (u : ℕ) (r : Role) → has u v ≡ Some r → u ≡ w = λ u r h. alone w x u r (sym (ap (Rattle.tau_rule.specs.Role.role_in u) g.roles) ∙ h) in
    gives_part (IsPart origin.load) (IsRole origin.load) (word_of origin.load) hand_of has (Sees origin) (Meets origin style) (part_count origin.load) (origin.load.streams + origin.load.streams + 1) id (anchor_part origin.load j) v (told_read v number lv) g.taken q w x x g.held (one_role v w x g.roles) refl
    (one_role v w x g.roles) mine_alone
    (λ c m part mine seen. (
      c,
      record { parts = λ i r low apart h. h; mine = mine; others = λ u y apart h. h; sight = λ u none h. h; kept = m },
      part_of_anchor origin.load c (anchor_part origin.load j) g.taken q (g.is ∙ sym is) (number, lv) is part,
      record {
        opened = seen.opened;
        wide = seen.wide;
        low = seen.low;
        own = seen.own;
        read = λ u r lt h. subst (λ (n : ℕ). Names origin.load ((setting_of origin.load).stream_of n) (anchors_at c.core ((setting_of origin.load).stream_of n)) number lv) (sym (mine_alone u r h)) (part_anchor origin.load c j g.taken number lv g.is part);
        found = seen.found;
      },
      (λ i low. refl),
    ))
    (λ found m. m ≡ (told_read v number lv, []))
    (λ m. refl)

abbrev pub first_number : List (ℕ × Option Part) → ℕ
first_number [] = 0
first_number (x ∷ xs) = x.0

-- a call that only read joins the committed ones, and frees its lowest key
pub first_steps : (origin : Plain) {style : Style} (w k : ℕ) (wk : Worker) (sh sh' : Shard) (t' : PlainTxn) (key : Key) (mode : Mode) (act : Act Txn) (h : Hand) → wk.hand ≡ Some h → begun origin.load.streams wk ≡ wk → k ≡ shard_number key → txn.Reads origin.load.procs w h act → mode_of key h.held ≡ Some mode → txn.IsLowest key h.held →
    sh' ≡ shard_freed sh w key (lv_of act) (lookup (same_key key) act.effect.writes) → hand_in origin.load.procs t' ≡ Some (hand_freed (hand_joined h (Freeing act) h.dep) key) → StepsShard origin style (FirstFree w) w wk (joined_worker origin.load wk t' (committed_of act)) k sh sh'
first_steps origin w k wk sh sh' t' key mode act h is same number r held lowest shard shown s reached at_worker at_shard =
    let n : ℕ = origin.load.streams in
    let here : sh ≡ s.shards (shard_number key) = sym at_shard ∙ ap s.shards number in
    let hj : Hand = hand_joined h (Freeing act) h.dep in
    let hf : Hand = hand_freed hj key in
    let kept : Committed = committed_of act in
    let wkj : Worker = record (begun n (s.workers w)) { hand = Some hj; committed = (s.workers w).committed ++ kept ∷ [] } in
    let m : Core = with_worker s w wkj in
    let left : Shard = shard_freed (s.shards (shard_number key)) w key (lv_of act) (lookup (same_key key) act.effect.writes) in
    let shows : next_worker origin.load wk t' ≡ record wk { hand = Some hf } =
    ap (λ (y : Worker). worker_of origin.load.procs y t') same ∙ worker_shown origin.load.procs wk t' hf shown in
    let worker : joined_worker origin.load wk t' kept ≡ record wk { hand = Some hf; committed = wk.committed ++ kept ∷ [] } = ap (λ (y : Worker). record y { committed = wk.committed ++ kept ∷ [] }) shows in
    let back : wk ≡ begun n (s.workers w) = sym same ∙ ap (begun n) (sym at_worker) in
    let bridge : record wk { hand = Some hf; committed = wk.committed ++ kept ∷ [] } ≡ record wkj { hand = Some hf } =
    (λ i. record (back i) { hand = Some hf; committed = (sym at_worker i).committed ++ kept ∷ [] }) in (
      act ∷ [],
      (
        m,
        act,
        record { hand = h; effect = r.effect; is = ap (λ (x : Worker). (begun n x).hand) at_worker ∙ ap (λ (x : Worker). x.hand) same ∙ is; phase = r.phase; ended = r.ended; no_write = r.no_write; act = r.is; after = refl },
        record {
          hand = hj;
          act = act;
          key = key;
          mode = mode;
          is = ap (λ (x : Worker). x.hand) (at_same w wkj s.workers);
          phase = refl;
          held = held;
          lowest = lowest;
          after = (λ i. with_shard (with_worker s w (worker i)) (number i) (shard i))
              ∙ (λ i. with_shard (with_worker s w (bridge i)) (shard_number key) (shard_freed (here i) w key (lv_of act) (lookup (same_key key) act.effect.writes)))
              ∙ ap (λ (c : Core). with_shard c (shard_number key) left) (sym (again s w (record wkj { hand = Some hf }) wkj))
              ∙ ap (λ (x : Worker). with_shard (with_worker m w (record x { hand = Some hf })) (shard_number key) left) (sym (at_same w wkj s.workers));
        },
        refl,
      ),
      tt,
    )
