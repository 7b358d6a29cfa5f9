-- A manager gathers front pieces of an outbox, one after another.
use Rattle.std.proofs.Common.{◌≡◌, ℕ, zero, suc, ◌+◌, ◌*◌, ◌^◌, ◌<◌, ◌≤◌, inl, inr, List, [], ◌∷◌, ◌++◌, Option, length, refl, sym, ap, ◌∙◌, subst, arith, add-zero, length-append, length-set, get_or-set_same, get_or-set_other}
use Rattle.std.specs.Prelude.{Some, None, slice_index, slice_set}
use Rattle.std.proofs.Math.Path.{fun_ext}
use Rattle.std.proofs.lemmas.List.{append-nil, append_assoc}
use Rattle.std.proofs.lemmas.Bool.{cases_eq}
use Rattle.tau_model.specs.History.{Member}
use Rattle.tau_shard.specs.Shard.{at}
use Rattle.tau_machine.specs.Pieces.{Chain}
use Rattle.tau_machine.specs.State.{Setting, Item, Outbox, Stream, Core, start_of, past_of}
use Rattle.tau_machine.specs.Events.{Gather, Gathered, Leads, stop, record_first, GathersRecord, with_outbox, with_stream}
use Rattle.tau_shard.proofs.At.{at_same, at_other, at_at, at_itself}
use Rattle.tau_machine.proofs.Pieces.{chain_member}
use Rattle.tau_outbox.specs.declared.Piece.{Piece}
use Rattle.tau_outbox.specs.Pieces.{PlainOutbox, bytes_of}
use Rattle.tau_outbox.specs.Gather.{Continues}
use Rattle.tau_ack.specs.Pending.{PlainPending}
use Rattle.tau_core.specs.State.{Plain}
use Rattle.tau_core.specs.View.{setting_of, tickets}
use Rattle.tau_rule.specs.Role.{Managed, Share, Working, Managing, Clerking, Role}
use Rattle.tau_core.specs.Pieces.{Names, IsPieceOf, Paired}
use Rattle.tau_rule.specs.Knows.{Knows}
use Rattle.tau_rule.specs.Rule.{MAX_ANCHOR, Now, IsPart, IsShare, IsManaged, IsRole, IsOutbox, Sees, Meets, anchors_at, word_of, hand_of, has, part_count, manager_role, outbox_part, LONGEST}
use Rattle.tau_rule.specs.Boxes.{GivesGathered, gathered_by}
use Rattle.tau_rule.specs.declared.part.Part.{Part}
use Rattle.tau_rule.specs.declared.part.Part.TheVariants as part
use Rattle.tau_occ.specs.declared.style.Style.{Style}
use Rattle.tau_rule.specs.Steps.{ComesHome, handed}
use Rattle.tau_rule.proofs.Turns.{reached_invariant, Turn, reached_on, stored_on, one_role, role_alone, alone}
use Rattle.tau_rule.proofs.Boxes.{part_box, box_part, part_rooms}
use Rattle.tau_rule.proofs.Persisting.{small_gathered}
use Rattle.tau_shown.proofs.Steps.{gives_part}
use Rattle.tau_base.proofs.Lists.{set_itself}

set_twice : (xs : List ℕ) (j a b : ℕ) → slice_set (slice_set xs j a) j b ≡ slice_set xs j b
set_twice [] j a b = refl
set_twice (x ∷ xs) zero a b = refl
set_twice (x ∷ xs) (suc j) a b = ap (λ (xs : List ℕ). x ∷ xs) (set_twice xs j a b)

-- the state in which these items of the outbox w are moved to stream j, up to there
abbrev pub moved_to : Core → ℕ → ℕ → List Item → List Item → ℕ → Core
moved_to s j w taken left past =
    record (with_stream (with_outbox s w (record (s.outboxes w) { posted = left })) j (record (s.streams j) { moved = (s.streams j).moved ++ taken })) { gathered = slice_set s.gathered j past }

nothing_moved : (s : Core) (j w : ℕ) (left : List Item) (past : ℕ) → (s.outboxes w).posted ≡ left → slice_index s.gathered j ≡ past → moved_to s j w [] left past ≡ s
nothing_moved s j w left past is at_end =
    (λ i. record s {
      outboxes = at w (record (s.outboxes w) { posted = sym is i }) s.outboxes;
      streams = at j (record (s.streams j) { moved = append-nil (s.streams j).moved i }) s.streams;
      gathered = slice_set s.gathered j (sym at_end i);
    })
    ∙ (λ i. record s { outboxes = at_itself w s.outboxes i; streams = at_itself j s.streams i; gathered = set_itself s.gathered j i })

one_more : (s : Core) (j w : ℕ) (item : Item) (taken left : List Item) (past : ℕ) → moved_to (moved_to s j w (item ∷ []) (taken ++ left) (past_of item)) j w taken left past ≡ moved_to s j w (item ∷ taken) left past
one_more s j w item taken left past =
    let box : Outbox = record (s.outboxes w) { posted = taken ++ left } in
    let str : Stream = record (s.streams j) { moved = (s.streams j).moved ++ item ∷ [] } in
    (λ i. record s {
      outboxes = at w (record (at_same w box s.outboxes i) { posted = left }) (at w box s.outboxes);
      streams = at j (record (at_same j str s.streams i) { moved = (at_same j str s.streams i).moved ++ taken }) (at j str s.streams);
      gathered = set_twice s.gathered j (past_of item) past i;
    })
    ∙ (λ i. record s {
      outboxes = at_at w (record (s.outboxes w) { posted = left }) box s.outboxes i;
      streams = at_at j (record (s.streams j) { moved = ((s.streams j).moved ++ item ∷ []) ++ taken }) str s.streams i;
      gathered = slice_set s.gathered j past;
    })
    ∙ (λ i. record s {
      outboxes = at w (record (s.outboxes w) { posted = left }) s.outboxes;
      streams = at j (record (s.streams j) { moved = append_assoc (s.streams j).moved (item ∷ []) taken i }) s.streams;
      gathered = slice_set s.gathered j past;
    })

pub gathers : (set : Setting) (j w : ℕ) (s : Core) (taken left : List Item) (past : ℕ) → j < set.width → (s.streams j).stop ≡ None → set.stream_of w ≡ j → j < length s.gathered → (s.outboxes w).posted ≡ taken ++ left → Chain (slice_index s.gathered j) taken past →
    Gathered set j s (moved_to s j w taken left past)
gathers set j w s [] left past there going whose wide is chain = subst (λ (z : Core). Gathered set j s z) (sym (nothing_moved s j w left past is chain)) stop
gathers set j w s (item ∷ taken) left past there going whose wide is chain =
    let m : Core = moved_to s j w (item ∷ []) (taken ++ left) (past_of item) in
    let first : GathersRecord set j w s m = record { there = there; going = going; whose = whose; item = item; others = taken ++ left; is = is; start = chain.0; after = refl } in
    let str : Stream = record (s.streams j) { moved = (s.streams j).moved ++ item ∷ [] } in
    let here : slice_index m.gathered j ≡ past_of item = get_or-set_same s.gathered j (past_of item) 0 wide in
    subst (λ (z : Core). Gathered set j s z) (one_more s j w item taken left past)
    (record_first w first (gathers set j w m taken left past there (ap (λ (x : Stream). x.stop) (at_same j str s.streams) ∙ going) whose
    (let e = length-set s.gathered j (past_of item) in omega arith)
    (ap (λ (x : Outbox). x.posted) (at_same w (record (s.outboxes w) { posted = taken ++ left }) s.outboxes))
    (subst (λ (n : ℕ). Chain n taken past) (sym here) chain.2)))

member_left : (i : Item) (xs ys : List Item) → Member i xs → Member i (xs ++ ys)
member_left i [] ys m = absurd m
member_left i (x ∷ xs) ys (inl e) = inl e
member_left i (x ∷ xs) ys (inr m) = inr (member_left i xs ys m)

module _ (origin : Plain) where
  paired_append : (anchors : ℕ → List (List ℕ)) (ps qs : List Piece) (xs ys : List Item) → Paired (IsPieceOf origin.load anchors) ps xs → Paired (IsPieceOf origin.load anchors) qs ys → Paired (IsPieceOf origin.load anchors) (ps ++ qs) (xs ++ ys)
  paired_append anchors [] qs [] ys h r = r
  paired_append anchors [] qs (x ∷ xs) ys h r = absurd h
  paired_append anchors (p ∷ ps) qs [] ys h r = absurd h
  paired_append anchors (p ∷ ps) qs (x ∷ xs) ys h r = (h.0, paired_append anchors ps qs xs ys h.1 r)

  -- the pieces that are taken are those of the items that are moved
  pub record Parted (anchors : ℕ → List (List ℕ)) (taken left : List Piece) (items : List Item) : Type 0 where
    pub moved : List Item
    pub rest : List Item
    pub is : items ≡ moved ++ rest
    pub front : Paired (IsPieceOf origin.load anchors) taken moved
    pub back : Paired (IsPieceOf origin.load anchors) left rest

  parted : (anchors : ℕ → List (List ℕ)) (taken left : List Piece) (items : List Item) → Paired (IsPieceOf origin.load anchors) (taken ++ left) items → Parted anchors taken left items
  parted anchors [] left items h = record { moved = []; rest = items; is = refl; front = tt; back = h }
  parted anchors (p ∷ ps) left [] h = absurd h
  parted anchors (p ∷ ps) left (i ∷ is) h =
      let r = parted anchors ps left is h.1 in
      record { moved = i ∷ r.moved; rest = r.rest; is = ap (λ (z : List Item). i ∷ z) r.is; front = (h.0, r.front); back = r.back }

  chained : (anchors : ℕ → List (List ℕ)) (next : ℕ) (ps : List Piece) (is : List Item) → Paired (IsPieceOf origin.load anchors) ps is → Continues next ps → ((i : Item) → Member i is → start_of i < past_of i) → Chain next is (next + length (bytes_of ps))
  chained anchors next [] [] h c long = sym (add-zero next)
  chained anchors next [] (i ∷ is) h c long = absurd h
  chained anchors next (p ∷ ps) [] h c long = absurd h
  chained anchors next (p ∷ ps) (i ∷ is) h c long =
      let start : start_of i ≡ next = sym h.0.start ∙ c.0 in
      let past : next + length p.bytes ≡ past_of i = ap (λ (n : ℕ). n + length p.bytes) (sym c.0) ∙ h.0.past in
      let rest = chained anchors (next + length p.bytes) ps is h.1 c.1 (λ k m. long k (inr m)) in
      let both : (next + length p.bytes) + length (bytes_of ps) ≡ next + length (p.bytes ++ bytes_of ps) = (let a = length-append p.bytes (bytes_of ps) in omega arith) in
      (start, (let a = long i (inl refl) in let b = start in omega arith), subst (λ (z : ℕ × ℕ). Chain z.0 is z.1) (λ k. (past k, both k)) rest)

  anchors_same : (s : Core) (j w : ℕ) (taken left : List Item) (past : ℕ) → anchors_at (moved_to s j w taken left past) ≡ anchors_at s
  anchors_same s j w taken left past = fun_ext (λ i. elim (cases_eq i j) [
    | inl is ↦ subst (λ (k : ℕ). (at j (record (s.streams j) { moved = (s.streams j).moved ++ taken }) s.streams k).anchors ≡ (s.streams k).anchors) (sym is)
        (ap (λ (x : Stream). x.anchors) (at_same j (record (s.streams j) { moved = (s.streams j).moved ++ taken }) s.streams))
    | inr ne ↦ ap (λ (x : Stream). x.anchors) (at_other j (record (s.streams j) { moved = (s.streams j).moved ++ taken }) s.streams i ne)
  ])

  -- the state after a Gather of these pieces of the outbox w by the manager of stream j
  module _ {style : Style} (c : Now) (w j : ℕ) (taken left : List Piece) (o o' : PlainOutbox) (p p' : PlainPending) (g : Managed) (old : Role) (there : j < origin.load.streams) (low : w < origin.load.workers) (whose : (setting_of origin.load).stream_of w ≡ j)
      (was : o.pieces ≡ taken ++ left) (is : o'.pieces ≡ left) (calls : p'.calls ≡ p.calls) (continues : Continues g.gathered taken) (meets : Meets origin style c) (mine : IsManaged origin.load j g c) (box : IsOutbox origin.load o p (anchors_at c.core) (c.core.outboxes w)) where
    pub parts : Parted (anchors_at c.core) taken left (c.core.outboxes w).posted
    parts = parted (anchors_at c.core) taken left (c.core.outboxes w).posted (subst (λ (z : List Piece). Paired (IsPieceOf origin.load (anchors_at c.core)) z (c.core.outboxes w).posted) was box.posted)

    abbrev pub past : ℕ
    past = g.gathered + length (bytes_of taken)

    abbrev pub gathered_now : Now
    gathered_now = record { core = moved_to c.core j w parts.moved parts.rest past; raised = c.raised; spare = c.spare; stored = c.stored }

    abbrev pub managed_then : Managed
    managed_then = record g { taken = g.taken ++ taken; gathered = past }

    same : anchors_at gathered_now.core ≡ anchors_at c.core
    same = anchors_same c.core j w parts.moved parts.rest past

    wide : j < length c.core.gathered
    wide =
        let inv = reached_invariant origin c.core meets.reached in
        let count : length c.core.gathered ≡ origin.load.streams = inv.agrees.good.count_gathered in
        omega arith

    long : (i : Item) → Member i parts.moved → start_of i < past_of i
    long i m =
        let inv = reached_invariant origin c.core meets.reached in
        let str = inv.agrees.pieces.stream j there in
        (chain_member (slice_index c.core.gathered j) (slice_index c.core.ends j) str.waiting i str.rest (str.posted i (inl (w, whose, subst (λ (z : List Item). Member i z) (sym parts.is) (member_left i parts.moved parts.rest m))))).1

    pub gather_leads : Leads (setting_of origin.load) (Gather j) c.core gathered_now.core []
    gather_leads = (
      gathers (setting_of origin.load) j w c.core parts.moved parts.rest past there (meets.going j) whose wide parts.is
          (subst (λ (n : ℕ). Chain n parts.moved past) (sym mine.gathered) (chained (anchors_at c.core) g.gathered taken parts.moved parts.front continues long)),
      refl,
    )

    pub gather_managed : IsManaged origin.load j managed_then gathered_now
    gather_managed =
        let str : Stream = record (c.core.streams j) { moved = (c.core.streams j).moved ++ parts.moved } in
        let here : gathered_now.core.streams j ≡ str = at_same j str c.core.streams in record {
          moved = subst (λ (z : (ℕ → List (List ℕ)) × List Item). Paired (IsPieceOf origin.load z.0) (g.taken ++ taken) z.1) (λ i. (sym same i, ap (λ (x : Stream). x.moved) (sym here) i))
              (paired_append (anchors_at c.core) g.taken taken (c.core.streams j).moved parts.moved mine.moved parts.front);
          gathered = get_or-set_same c.core.gathered j past 0 wide;
          anchors = ap (λ (x : Stream). x.anchors) here ∙ mine.anchors;
          own = subst (λ (z : (ℕ → List (List ℕ)) × List Item). Paired (IsPieceOf origin.load z.0) g.own z.1) (λ i. (sym same i, ap (λ (x : Stream). x.posted) (sym here) i)) mine.own;
          stored = mine.stored;
        }

    pub gather_box : IsOutbox origin.load o' p' (anchors_at gathered_now.core) (gathered_now.core.outboxes w)
    gather_box =
        let ob : Outbox = record (c.core.outboxes w) { posted = parts.rest } in
        let here : gathered_now.core.outboxes w ≡ ob = at_same w ob c.core.outboxes in record {
          posted = subst (λ (z : (ℕ → List (List ℕ)) × (List Piece × List Item)). Paired (IsPieceOf origin.load z.0) z.1.0 z.1.1) (λ i. (sym same i, (sym is i, ap (λ (x : Outbox). x.posted) (sym here) i))) parts.back;
          pending = ap (λ (x : Outbox). x.pending) here ∙ box.pending ∙ ap tickets (sym calls);
        }

    parts_stay : (k : ℕ) (q : Part) → (k ≡ outbox_part w → ⊥) → IsPart origin.load k q c → IsPart origin.load k q gathered_now
    parts_stay k (part.Shard b) apart h = h
    parts_stay k (part.Outbox a b) apart h =
        let other : h.0 ≡ w → ⊥ = (λ e. apart (h.1 ∙ ap outbox_part e)) in (
          h.0,
          h.1,
          h.2,
          subst (λ (z : (ℕ → List (List ℕ)) × Outbox). IsOutbox origin.load a.value b.value z.0 z.1) (λ i. (sym same i, sym (at_other w (record (c.core.outboxes w) { posted = parts.rest }) c.core.outboxes h.0 other) i)) h.3,
          h.4,
          h.5,
        )
    parts_stay k (part.Anchor number lv) apart h = (h.0, h.1, h.2, subst (λ (z : ℕ → List (List ℕ)). Names origin.load h.0 (z h.0) number lv.value) (sym same) h.3, h.4)

    shares_stay : (u : ℕ) (x : Share) → (u ≡ manager_role origin.load j → ⊥) → IsShare origin.load u x c → IsShare origin.load u x gathered_now
    shares_stay u (Working x) apart h = h
    shares_stay u (Managing m) apart h =
        let other : h.0 ≡ j → ⊥ = (λ e. apart (h.1 ∙ ap (manager_role origin.load) e)) in
        let here = at_other j (record (c.core.streams j) { moved = (c.core.streams j).moved ++ parts.moved }) c.core.streams h.0 other in (
          h.0,
          h.1,
          h.2,
          record {
            moved = subst (λ (z : (ℕ → List (List ℕ)) × List Item). Paired (IsPieceOf origin.load z.0) m.taken z.1) (λ i. (sym same i, ap (λ (x : Stream). x.moved) (sym here) i)) h.3.moved;
            gathered = get_or-set_other c.core.gathered j h.0 past 0 other ∙ h.3.gathered;
            anchors = ap (λ (x : Stream). x.anchors) here ∙ h.3.anchors;
            own = subst (λ (z : (ℕ → List (List ℕ)) × List Item). Paired (IsPieceOf origin.load z.0) m.own z.1) (λ i. (sym same i, ap (λ (x : Stream). x.posted) (sym here) i)) h.3.own;
            stored = h.3.stored;
          },
        )
    shares_stay u (Clerking acked) apart h = h

    pub gather_sees : (v : Knows) → Sees origin c v → Sees origin gathered_now v
    gather_sees v h = record {
      opened = h.opened;
      wide = h.wide;
      low = h.low;
      own = h.own;
      read = λ u r lt e. subst (λ (z : ℕ → List (List ℕ)). Names origin.load ((setting_of origin.load).stream_of u) (z ((setting_of origin.load).stream_of u)) v.read.0 v.read.1) (sym same) (h.read u r lt e);
      found = h.found;
    }

    no_stop : (i : ℕ) → (gathered_now.core.streams i).stop ≡ None
    no_stop i = elim (cases_eq i j) [
      | inl e ↦ subst (λ (k : ℕ). (at j (record (c.core.streams j) { moved = (c.core.streams j).moved ++ parts.moved }) c.core.streams k).stop ≡ None) (sym e)
          (ap (λ (x : Stream). x.stop) (at_same j (record (c.core.streams j) { moved = (c.core.streams j).moved ++ parts.moved }) c.core.streams) ∙ meets.going j)
      | inr ne ↦ ap (λ (x : Stream). x.stop) (at_other j (record (c.core.streams j) { moved = (c.core.streams j).moved ++ parts.moved }) c.core.streams i ne) ∙ meets.going i
    ]

    count_same : length (meets.reached.joined ++ []) ≡ length meets.reached.joined
    count_same = length-append meets.reached.joined [] ∙ add-zero (length meets.reached.joined)

    gather_kept : Meets origin style gathered_now
    gather_kept = record {
      reached = reached_on origin (Gather j) c.core gathered_now.core [] meets.reached gather_leads tt;
      stored = stored_on c.stored meets.reached.events (Gather j) meets.stored tt;
      going = no_stop;
      fits = subst (λ (z : ℕ × (ℕ → List (List ℕ))). (i : ℕ) → i < origin.load.streams → slice_index c.core.ends i ≤ slice_index origin.load.opening.ends i + LONGEST * z.0 + MAX_ANCHOR * length (z.1 i)) (λ i. (sym count_same i, sym same i)) meets.fits;
      anchors = subst (λ (z : ℕ → List (List ℕ)). (i : ℕ) → i < origin.load.streams → length (z i) < 2 ^ 32) (sym same) meets.anchors;
      opened = meets.opened;
      limited = meets.limited;
      beyond = meets.beyond;
      shards = meets.shards;
      streams = λ i low. ap (λ (f : ℕ → List (List ℕ)). f i) same ∙ meets.streams i low;
    }

    -- the gathered end does not wrap
    pub past_small : past < 2 ^ 62
    past_small =
        let h = small_gathered origin gathered_now gather_kept j there in
        let is = gather_managed.gathered in
        omega (arith, h, is)

    -- a Gather is a turn of the manager on the outbox
    pub gather_turn : c.raised (manager_role origin.load j) ≡ old.raised → c.spare (manager_role origin.load j) ≡ old.spare → Turn origin style c gathered_now (outbox_part w) (manager_role origin.load j) (record old { share = Managing managed_then })
    gather_turn raised spare = record {
      parts = λ k q lt apart h. parts_stay k q apart h;
      mine = ((j, refl, there, gather_managed), raised, spare);
      others = λ u x apart h. (shares_stay u x.share apart h.0, h.1, h.2);
      sight = λ v lacks h. gather_sees v h;
      kept = gather_kept;
    }

-- a manager's seat, with another share of its own
pub managing_sees : (origin : Plain) (c : Now) (v : Knows) (j : ℕ) (x y : Role) → j < origin.load.streams → has (manager_role origin.load j) v ≡ Some x → Sees origin c v → Sees origin c (handed v (manager_role origin.load j) y)
managing_sees origin c v j x y there is h = record {
  opened = λ u r e. h.opened (manager_role origin.load j) x is;
  wide = λ u r e. h.wide (manager_role origin.load j) x is;
  low = h.low;
  own = λ i r lt e. let same = alone (manager_role origin.load j) y (manager_role origin.load i) r e in h.own i x lt (ap (λ (n : ℕ). has n v) same ∙ is);
  read = λ w r lt e. absurd (let a = alone (manager_role origin.load j) y w r e in omega arith);
  found = h.found;
}

-- an outbox comes home of which the manager has gathered these pieces
pub gives_gathered : (origin : Plain) {style : Style} (id : ℕ) (v : Knows) (carried : List (ℕ × Option Part)) (q : Part) (w j : ℕ) (taken : List Piece) (g : GivesGathered origin (v, carried) q w j taken) →
    ComesHome origin style id v (outbox_part w) q (handed v (manager_role origin.load j) (record g.role { share = Managing (gathered_by g.managed taken) }))
gives_gathered origin {style} id v carried q w j taken g =
    let u : ℕ = manager_role origin.load j in
    let y : Role = record g.role { share = Managing (gathered_by g.managed taken) } in
    gives_part (IsPart origin.load) (IsRole origin.load) (word_of origin.load) hand_of has (Sees origin) (Meets origin style) (part_count origin.load) (origin.load.streams + origin.load.streams + 1) id (outbox_part w) v (handed v u y) g.part_taken q u g.role y g.held (one_role v u g.role g.roles) refl
    (role_alone u y) (λ a z h. alone u y a z h)
    (λ c m part mine seen.
    let box = part_box origin c w g.part_taken g.before g.was part in
    let rooms = part_rooms origin c w g.part_taken g.before g.was part in
    let managing = subst (λ (x : Share). IsShare origin.load u x c) g.share mine.0 in
    let mine' : IsManaged origin.load j g.managed c = subst (λ (i : ℕ). IsManaged origin.load i g.managed c) (let e = managing.1 in omega arith) managing.3 in
    let c' : Now = gathered_now origin c w j taken g.after.0.pieces g.before.0 g.after.0 g.before.1 g.after.1 g.managed g.role g.there g.low g.whose g.front refl g.calls g.continues m mine' box in (
      c',
      gather_turn origin c w j taken g.after.0.pieces g.before.0 g.after.0 g.before.1 g.after.1 g.managed g.role g.there g.low g.whose g.front refl g.calls g.continues m mine' box mine.1 mine.2,
      box_part origin c' w q g.after g.is g.low (gather_box origin c w j taken g.after.0.pieces g.before.0 g.after.0 g.before.1 g.after.1 g.managed g.role g.there g.low g.whose g.front refl g.calls g.continues m mine' box)
          (let a = rooms.0 in let b = g.records in omega arith) (let a = rooms.1 in let b = g.pending in omega arith),
      managing_sees origin c' v j g.role y g.there (one_role v u g.role g.roles)
          (gather_sees origin c w j taken g.after.0.pieces g.before.0 g.after.0 g.before.1 g.after.1 g.managed g.role g.there g.low g.whose g.front refl g.calls g.continues m mine' box v seen),
      (λ i low. refl),
    ))
    (λ found m. m ≡ (handed v u y, []))
    (λ m. refl)
