-- A manager gathers the records of its own anchors, and publishes an anchor.
use Rattle.std.proofs.Common.{◌≡◌, ℕ, ◌+◌, ◌*◌, ◌^◌, ◌<◌, ◌≤◌, inl, inr, List, [], ◌∷◌, ◌++◌, length, refl, sym, ap, ◌∙◌, subst, arith, length-append, get_or-set_same, get_or-set_other}
use Rattle.std.specs.Prelude.{Some, None, slice_index}
use Rattle.std.proofs.Math.Path.{fun_ext}
use Rattle.std.proofs.lemmas.Bool.{cases_eq}
use Rattle.tau_base.specs.declared.limits.TheConstants.{MAX_LSN}
use Rattle.tau_model.specs.History.{Member}
use Rattle.tau_model.proofs.Orders.{member_front}
use Rattle.tau_shard.specs.Shard.{at}
use Rattle.tau_machine.specs.Pieces.{Chain}
use Rattle.tau_machine.specs.State.{Item, Stream, past_of, start_of}
use Rattle.tau_machine.specs.Events.{Gather, Leads}
use Rattle.tau_shard.proofs.At.{at_same, at_other}
use Rattle.tau_machine.proofs.Pieces.{chain_member}
use Rattle.tau_outbox.specs.declared.Piece.{Piece}
use Rattle.tau_outbox.specs.Gather.{Continues, Gathers}
use Rattle.tau_outbox.specs.Pieces.{bytes_of}
use Rattle.tau_core.specs.Pieces.{IsPieceOf, Names, Paired}
use Rattle.tau_core.specs.State.{Plain}
use Rattle.tau_core.specs.View.{setting_of}
use Rattle.tau_core.proofs.GatheredItems.{own_moved, own_is_moved}
use Rattle.tau_core.proofs.Spellings.{Split, chain_of, paired_append, paired_split}
use Rattle.tau_shown.proofs.Steps.{gives_part}
use Rattle.tau_occ.specs.declared.style.Style.{Style}
use Rattle.tau_rule.specs.Role.{Clerking, Managed, Managing, Role, Share, Working}
use Rattle.tau_rule.specs.Knows.{Knows}
use Rattle.tau_rule.specs.Rule.{IsManaged, IsOutbox, IsPart, IsRole, IsShare, MAX_ANCHOR, Meets, Now, Sees, anchor_part, anchors_at, hand_of, has, manager_role, part_count, word_of, LONGEST}
use Rattle.tau_rule.specs.Steps.{Agrees, ComesHome, Sat, handed, holding}
use Rattle.tau_rule.specs.declared.part.Part.{Part}
use Rattle.tau_rule.specs.declared.part.Part.TheVariants as part
use Rattle.tau_rule.proofs.Turns.{Turn, alone, more, one_role, reached_invariant, reached_on, role_alone, stored_on}
use Rattle.tau_rule.proofs.Persisting.{small_gathered}
use Rattle.tau_desk.specs.Shares.{PlainStock}
use Rattle.tau_desk.specs.Seats.{IsManagerSeat}
use Rattle.tau_desk.specs.Manages.{GivesOwn, gone, managing, own_gathered, told_own}
use Rattle.tau_desk.proofs.Taking.{At, gone_is, managed_is, managing_is}
use Rattle.tau_rule.proofs.Gathering.{managing_sees}

-- the state after a Gather of these of its own anchors' records by the manager of stream j
module _ (origin : Plain) {style : Style} (c : Now) (j : ℕ) (taken left : List Piece) (g : Managed) (old : Role) (there : j < origin.load.streams) (front : g.own ≡ taken ++ left) (continues : Continues g.gathered taken) (meets : Meets origin style c) (mine : IsManaged origin.load j g c) where
  split : Split (IsPieceOf origin.load (anchors_at c.core)) taken left (c.core.streams j).posted
  split = paired_split (IsPieceOf origin.load (anchors_at c.core)) taken left (c.core.streams j).posted (subst (λ (z : List Piece). Paired (IsPieceOf origin.load (anchors_at c.core)) z (c.core.streams j).posted) front mine.own)

  abbrev past : ℕ
  past = g.gathered + length (bytes_of taken)

  abbrev str_then : Stream
  str_then = record (c.core.streams j) { posted = split.back; moved = (c.core.streams j).moved ++ split.front }

  abbrev own_now : Now
  own_now = record { core = own_moved (setting_of origin.load) j there c.core split.back ((c.core.streams j).moved ++ split.front) past; raised = c.raised; spare = c.spare; stored = c.stored }

  abbrev managed_then : Managed
  managed_then = record g { taken = g.taken ++ taken; gathered = past; own = left }

  here : own_now.core.streams j ≡ str_then
  here = at_same j str_then c.core.streams

  same : anchors_at own_now.core ≡ anchors_at c.core
  same = fun_ext (λ i. elim (cases_eq i j) [
    | inl is ↦ subst (λ (k : ℕ). (at j str_then c.core.streams k).anchors ≡ (c.core.streams k).anchors) (sym is) (ap (λ (x : Stream). x.anchors) here)
    | inr ne ↦ ap (λ (x : Stream). x.anchors) (at_other j str_then c.core.streams i ne)
  ])

  wide : j < length c.core.gathered
  wide = (let count = (reached_invariant origin c.core meets.reached).agrees.good.count_gathered in omega (arith, count, there))

  rises : (i : Item) → Member i split.front → start_of i < past_of i
  rises i m =
      let o = (reached_invariant origin c.core meets.reached).agrees.pieces.stream j there in
      let among : Member i (c.core.streams j).posted = subst (λ (x : List Item). Member i x) (sym split.is) (member_front i split.front split.back m) in
      (chain_member (slice_index c.core.gathered j) (slice_index c.core.ends j) o.waiting i o.rest (o.posted i (inr among))).1

  own_leads : Leads (setting_of origin.load) (Gather j) c.core own_now.core []
  own_leads = (
    own_is_moved (setting_of origin.load) j there split.front split.back c.core past wide (meets.going j) split.is
        (subst (λ (n : ℕ). Chain n split.front past) (sym mine.gathered) (chain_of origin.load (anchors_at c.core) g.gathered taken split.front continues split.fronts rises)),
    refl,
  )

  own_managed : IsManaged origin.load j managed_then own_now
  own_managed = record {
    moved = subst (λ (z : (ℕ → List (List ℕ)) × List Item). Paired (IsPieceOf origin.load z.0) (g.taken ++ taken) z.1) (λ i. (sym same i, ap (λ (x : Stream). x.moved) (sym here) i))
        (paired_append (IsPieceOf origin.load (anchors_at c.core)) g.taken taken (c.core.streams j).moved split.front mine.moved split.fronts);
    gathered = get_or-set_same c.core.gathered j past 0 wide;
    anchors = ap (λ (x : Stream). x.anchors) here ∙ mine.anchors;
    own = subst (λ (z : (ℕ → List (List ℕ)) × List Item). Paired (IsPieceOf origin.load z.0) left z.1) (λ i. (sym same i, ap (λ (x : Stream). x.posted) (sym here) i)) split.backs;
    stored = mine.stored;
  }

  parts_stay : (k : ℕ) (q : Part) → IsPart origin.load k q c → IsPart origin.load k q own_now
  parts_stay k (part.Shard b) h = h
  parts_stay k (part.Outbox a b) h = (h.0, h.1, h.2, subst (λ (z : ℕ → List (List ℕ)). IsOutbox origin.load a.value b.value z (c.core.outboxes h.0)) (sym same) h.3, h.4, h.5)
  parts_stay k (part.Anchor number lv) h = (h.0, h.1, h.2, subst (λ (z : ℕ → List (List ℕ)). Names origin.load h.0 (z h.0) number lv.value) (sym same) h.3, h.4)

  shares_stay : (u : ℕ) (x : Share) → (u ≡ manager_role origin.load j → ⊥) → IsShare origin.load u x c → IsShare origin.load u x own_now
  shares_stay u (Working x) apart h = h
  shares_stay u (Managing m) apart h =
      let other : h.0 ≡ j → ⊥ = (λ e. apart (h.1 ∙ ap (manager_role origin.load) e)) in
      let at' = at_other j str_then c.core.streams h.0 other in (
        h.0,
        h.1,
        h.2,
        record {
          moved = subst (λ (z : (ℕ → List (List ℕ)) × List Item). Paired (IsPieceOf origin.load z.0) m.taken z.1) (λ i. (sym same i, ap (λ (x : Stream). x.moved) (sym at') i)) h.3.moved;
          gathered = get_or-set_other c.core.gathered j h.0 past 0 other ∙ h.3.gathered;
          anchors = ap (λ (x : Stream). x.anchors) at' ∙ h.3.anchors;
          own = subst (λ (z : (ℕ → List (List ℕ)) × List Item). Paired (IsPieceOf origin.load z.0) m.own z.1) (λ i. (sym same i, ap (λ (x : Stream). x.posted) (sym at') i)) h.3.own;
          stored = h.3.stored;
        },
      )
  shares_stay u (Clerking acked) apart h = h

  own_sees : (v : Knows) → Sees origin c v → Sees origin own_now v
  own_sees v h = record {
    opened = h.opened;
    wide = h.wide;
    low = h.low;
    own = h.own;
    read = λ u r lt e. subst (λ (z : ℕ → List (List ℕ)). Names origin.load ((setting_of origin.load).stream_of u) (z ((setting_of origin.load).stream_of u)) v.read.0 v.read.1) (sym same) (h.read u r lt e);
    found = h.found;
  }

  no_stop : (i : ℕ) → (own_now.core.streams i).stop ≡ None
  no_stop i = elim (cases_eq i j) [
    | inl e ↦ subst (λ (k : ℕ). (at j str_then c.core.streams k).stop ≡ None) (sym e) (ap (λ (x : Stream). x.stop) here ∙ meets.going j)
    | inr ne ↦ ap (λ (x : Stream). x.stop) (at_other j str_then c.core.streams i ne) ∙ meets.going i
  ]

  fits_on : (i : ℕ) → i < origin.load.streams → slice_index c.core.ends i ≤ slice_index origin.load.opening.ends i + LONGEST * length (meets.reached.joined ++ []) + MAX_ANCHOR * length (anchors_at own_now.core i)
  fits_on i lt = subst (λ (z : ℕ → List (List ℕ)). slice_index c.core.ends i ≤ slice_index origin.load.opening.ends i + LONGEST * length (meets.reached.joined ++ []) + MAX_ANCHOR * length (z i)) (sym same)
      (more _ _ (length meets.reached.joined) (length (meets.reached.joined ++ [])) _ (meets.fits i lt) (let a = length-append meets.reached.joined [] in omega arith))

  own_kept : Meets origin style own_now
  own_kept = record {
    reached = reached_on origin (Gather j) c.core own_now.core [] meets.reached own_leads tt;
    stored = stored_on c.stored meets.reached.events (Gather j) meets.stored tt;
    going = no_stop;
    fits = fits_on;
    anchors = subst (λ (z : ℕ → List (List ℕ)). (i : ℕ) → i < origin.load.streams → length (z i) < 2 ^ 32) (sym same) meets.anchors;
    opened = meets.opened;
    limited = meets.limited;
    beyond = meets.beyond;
    shards = meets.shards;
    streams = λ i low. ap (λ (f : ℕ → List (List ℕ)). f i) same ∙ meets.streams i low;
  }

  -- the gathered end does not wrap
  own_past_small : past < 2 ^ 62
  own_past_small =
      let h = small_gathered origin own_now own_kept j there in
      let is = own_managed.gathered in
      omega (arith, h, is)

  own_turn : (k : ℕ) → c.raised (manager_role origin.load j) ≡ old.raised → c.spare (manager_role origin.load j) ≡ old.spare → Turn origin style c own_now k (manager_role origin.load j) (record old { share = Managing managed_then })
  own_turn k raised spare = record {
    parts = λ i q lt apart h. parts_stay i q h;
    mine = ((j, refl, there, own_managed), raised, spare);
    others = λ u x apart h. (shares_stay u x.share apart h.0, h.1, h.2);
    sight = λ v lacks h. own_sees v h;
    kept = own_kept;
  }

pub share_managed : (origin : Plain) (j : ℕ) (x : Share) (g : Managed) (c : Now) → x ≡ Managing g → IsShare origin.load (manager_role origin.load j) x c → IsManaged origin.load j g c
share_managed origin j x g c is h =
    let it = subst (λ (y : Share). IsShare origin.load (manager_role origin.load j) y c) is h in
    subst (λ (i : ℕ). IsManaged origin.load i g c) (let e = it.1 in omega (arith, e)) it.3

-- the anchor part comes home as it was, and the manager has gathered these of its own anchors' records
pub gives_own : (origin : Plain) {style : Style} (id : ℕ) (m : Sat) (j : ℕ) (taken left : List Piece) (g : GivesOwn origin m j taken left) →
    ComesHome origin style id m.0 (anchor_part origin.load j) g.part_taken (handed m.0 (manager_role origin.load j) (record g.role { share = Managing (record g.managed { taken = g.managed.taken ++ taken; gathered = g.managed.gathered + length (bytes_of taken); own = left }) }))
gives_own origin {style} id m j taken left g =
    let v : Knows = m.0 in
    let u : ℕ = manager_role origin.load j in
    let y : Role = record g.role { share = Managing (record g.managed { taken = g.managed.taken ++ taken; gathered = g.managed.gathered + length (bytes_of taken); own = left }) } in
    gives_part (IsPart origin.load) (IsRole origin.load) (word_of origin.load) hand_of has (Sees origin) (Meets origin style) (part_count origin.load) (origin.load.streams + origin.load.streams + 1) id (anchor_part origin.load j) v (handed v u y) g.part_taken g.part_taken u g.role y g.held (one_role v u g.role g.roles) refl
    (role_alone u y) (λ a z h. alone u y a z h)
    (λ c meets part mine seen.
    let mine' = share_managed origin j g.role.share g.managed c g.share mine.0 in
    let c' : Now = own_now origin c j taken left g.managed g.role g.there g.front g.continues meets mine' in (
      c',
      own_turn origin c j taken left g.managed g.role g.there g.front g.continues meets mine' (anchor_part origin.load j) mine.1 mine.2,
      parts_stay origin c j taken left g.managed g.role g.there g.front g.continues meets mine' (anchor_part origin.load j) g.part_taken part,
      managing_sees origin c' v j g.role y g.there (one_role v u g.role g.roles) (own_sees origin c j taken left g.managed g.role g.there g.front g.continues meets mine' v seen),
      (λ i low. refl),
    ))
    (λ found z. z ≡ (handed v u y, []))
    (λ z. refl)

pub own_is : (g : Managed) (taken left : List Piece) → g.own ≡ taken ++ left → own_gathered g left ≡ record g { taken = g.taken ++ taken; gathered = g.gathered + length (bytes_of taken); own = left }
own_is g taken left front =
    let is : gone g.own left ≡ taken = ap (λ (ps : List Piece). gone ps left) front ∙ gone_is taken left in
    λ i. record g { taken = g.taken ++ is i; gathered = g.gathered + length (bytes_of (is i)); own = left }

pub told_own_is : (origin : Plain) (m : Sat) (j : ℕ) (taken left : List Piece) (g : GivesOwn origin m j taken left) →
    told_own m.0 left ≡ handed m.0 (manager_role origin.load j) (record g.role { share = Managing (record g.managed { taken = g.managed.taken ++ taken; gathered = g.managed.gathered + length (bytes_of taken); own = left }) })
told_own_is origin m j taken left g =
    ap (managing m.0) (ap (λ (x : Managed). own_gathered x left) (managed_is m.0 (manager_role origin.load j) g.role g.managed g.roles g.share) ∙ own_is g.managed taken left g.front)
    ∙ managing_is m.0 (manager_role origin.load j) g.role _ g.roles

-- what the manager gives home after a Gather of its own anchors' records
pub own_gives : (key : Plain) (m m' : Sat) (j k : ℕ) (o : PlainStock) (h : At key m j o) (p : Part) (left : List Piece) (body longer : List ℕ) (past : ℕ) → k ≡ anchor_part key.load j → m' ≡ (holding k m.0 p, (k, None) ∷ []) → (g : Gathers o.gathered o.own.pieces left body longer past) →
    (e : GivesOwn key m' j g.taken left) × (e.part_taken ≡ p)
own_gives key m m' j k o h p left body longer upto number is g =
    let s = h.stock in (
      record {
        part_taken = p;
        role = h.role;
        managed = s.managed;
        opened = ap (λ (x : Sat). x.0.opened) is ∙ h.opened;
        held = ap (λ (x : Sat). x.0.hand) is ∙ ap (λ (n : ℕ). Some (n, p)) number;
        carried = ap (λ (x : Sat). x.1) is ∙ ap (λ (n : ℕ). (n, None) ∷ []) number;
        roles = ap (λ (x : Sat). x.0.roles) is ∙ h.roles;
        share = s.share;
        there = s.there;
        front = s.own ∙ g.front;
        continues = subst (λ (n : ℕ). Continues n g.taken) (sym s.gathered) g.continues;
      },
      refl,
    )

-- the gathered end does not wrap
pub own_small : (key : Plain) (m : Sat) (j k : ℕ) (o : PlainStock) (h : At key m j o) (p : Part) (left : List Piece) (body longer : List ℕ) (past : ℕ) → Agrees key m.0 k p → Gathers o.gathered o.own.pieces left body longer past → past < MAX_LSN
own_small key m j k o h p left body longer upto a g =
    let s = h.stock in
    let u : ℕ = manager_role key.load j in
    let mine = a.roles u h.role (one_role m.0 u h.role h.roles) in
    let managed = share_managed key j h.role.share s.managed a.state s.share mine.0 in
    let low = own_past_small key a.state j g.taken left s.managed h.role s.there (s.own ∙ g.front) (subst (λ (n : ℕ). Continues n g.taken) (sym s.gathered) g.continues) a.meets managed in
    let is = s.gathered in
    let end = g.past in
    omega (arith, low, is, end)

pub seat_own : (m : Sat) (j : ℕ) (o o' : PlainStock) (seen body longer : List ℕ) → IsManagerSeat m j o seen → Gathers o.gathered o.own.pieces o'.own.pieces body longer o'.gathered → o'.anchors ≡ o.anchors → o'.gathered < MAX_LSN → IsManagerSeat (told_own m.0 o'.own.pieces, []) j o' seen
seat_own m j o o' seen body longer h g anchors small =
    let s = h.stock in
    let u : ℕ = manager_role h.origin.load j in
    let then : Managed = record s.managed { taken = s.managed.taken ++ g.taken; gathered = s.managed.gathered + length (bytes_of g.taken); own = o'.own.pieces } in
    let y : Role = record h.role { share = Managing then } in
    let knows : told_own m.0 o'.own.pieces ≡ handed m.0 u y =
    ap (managing m.0) (ap (λ (x : Managed). own_gathered x o'.own.pieces) (managed_is m.0 u h.role s.managed h.roles s.share) ∙ own_is s.managed g.taken o'.own.pieces (s.own ∙ g.front))
    ∙ managing_is m.0 u h.role then h.roles in
    subst (λ (v : Knows). IsManagerSeat (v, []) j o' seen) (sym knows) (record {
      origin = h.origin;
      role = y;
      opened = h.opened;
      roles = refl;
      idle = refl;
      none = refl;
      stock = record {
        managed = then;
        share = refl;
        there = s.there;
        anchors = s.anchors ∙ sym anchors;
        own = refl;
        gathered = ap (λ (n : ℕ). n + length (bytes_of g.taken)) s.gathered ∙ sym g.past;
        small = small;
        wide = λ a e. s.wide a (subst (λ (l : List (List ℕ)). Member a l) anchors e);
      };
      seen_is = h.seen_is;
      seen_wide = h.seen_wide;
    })
