-- A worker's seat is split again for the lowest call that is left over.
use Rattle.std.proofs.Common.{◌≡◌, ℕ, ◌+◌, ◌*◌, ◌<◌, ◌≤◌, inl, inr, List, [], ◌∷◌, ◌++◌, length, refl, sym, ap, ◌∙◌, subst, arith, length-append, add-zero}
use Rattle.std.specs.Prelude.{Some, None, slice_index}
use Rattle.std.proofs.lemmas.Bool.Decides.{leb_tells}
use Rattle.atomic_table.specs.Table.{Splits}
use Rattle.tau_shown.proofs.Steps.{splits_role}
use Rattle.tau_model.specs.History.{Numbered, Member}
use Rattle.tau_machine.specs.Worker.{Worker}
use Rattle.tau_machine.specs.Events.{Resume, Leads, with_worker}
use Rattle.tau_shard.proofs.At.{at_same, at_other}
use Rattle.tau_core.specs.State.{Plain}
use Rattle.tau_core.specs.View.{setting_of}
use Rattle.tau_core.specs.Parts.{nobody}
use Rattle.tau_rule.specs.Role.{Share, Working, Managing, Clerking, Role}
use Rattle.tau_occ.specs.declared.style.Style.{Style}
use Rattle.tau_rule.specs.Knows.{Knows}
use Rattle.tau_rule.specs.Rule.{MAX_ANCHOR, Now, Rule, IsPart, IsShare, IsRole, Sees, Meets, word_of, hand_of, has, part_count, manager_role, LONGEST}
use Rattle.tau_rule.specs.Heads.{left_by, split_as, CanResume, resumed}
use Rattle.tau_rule.specs.declared.part.Part.{Part}
use Rattle.tau_rule.specs.declared.part.Part.TheVariants as part
use Rattle.tau_rule.proofs.Turns.{Turn, reached_on, stored_on, role_alone, alone, share_worker}
use Rattle.tau_rule.proofs.Heads.{still_in}

module _ (origin : Plain) (v : Knows) (w : ℕ) (call : Numbered) (front back : List Numbered) (p : CanResume origin.load v w call front back) where
  abbrev next : Worker
  next = record p.worker { waiting = call ∷ []; left = front ++ back }

  abbrev pub then_resumed : Now → Now
  then_resumed c = record { core = with_worker c.core w next; raised = c.raised; spare = c.spare; stored = c.stored }

  module _ {style : Style} (c : Now) (meets : Meets origin style c) (roles : (u : ℕ) (z : Role) → has u v ≡ Some z → IsRole origin.load u z c) where
    known : (u : ℕ) → u < origin.load.workers → (k : Worker) × (c.core.workers u ≡ k) × (k.hand ≡ None) × (k.waiting ≡ []) × ((n : Numbered) → Member n k.left → call.number ≤ n.number)
    known u low =
        let q = p.all u low in
        let is = share_worker origin u q.0.share q.1 c q.3 (roles u q.0 q.2).0 in
        (q.1, is.1, q.4, q.5, q.6)

    each : (u : ℕ) → (k : Worker) × (c.core.workers u ≡ k) × (k.hand ≡ None) × (k.waiting ≡ []) × ((n : Numbered) → Member n k.left → call.number ≤ n.number)
    each u = elim (leb_tells (u + 1) origin.load.workers) [
      | inl a ↦ known u (let h = a.1 in omega arith)
      | inr b ↦ (nobody, meets.beyond u (let h = b.1 in omega arith), refl, refl, λ n m. absurd m)
    ]

    mine : c.core.workers w ≡ p.worker
    mine = (share_worker origin w p.role.share p.worker c p.share (roles w p.role p.is).0).1

    leads : Leads (setting_of origin.load) (Resume w) c.core (then_resumed c).core []
    leads = (
      record {
        resting = λ u. let q = each u in (ap (λ (x : Worker). x.hand) q.1 ∙ q.2, ap (λ (x : Worker). x.waiting) q.1 ∙ q.3);
        front = front;
        call = call;
        back = back;
        is = ap (λ (x : Worker). x.left) mine ∙ p.left;
        lowest = λ u n m. let q = each u in q.4 n (subst (λ (x : Worker). Member n x.left) q.1 m);
        after = λ i. with_worker c.core w (record (sym mine i) { waiting = call ∷ []; left = front ++ back });
      },
      refl,
    )

    shares_stay : (u : ℕ) (x : Share) → (u ≡ w → ⊥) → IsShare origin.load u x c → IsShare origin.load u x (then_resumed c)
    shares_stay u (Working x) apart h = (h.0, at_other w next c.core.workers u apart ∙ h.1)
    shares_stay u (Managing g) apart h = (h.0, h.1, h.2, record { moved = h.3.moved; gathered = h.3.gathered; anchors = h.3.anchors; own = h.3.own; stored = h.3.stored })
    shares_stay u (Clerking acked) apart h = h

    parts_stay : (k : ℕ) (q : Part) → IsPart origin.load k q c → IsPart origin.load k q (then_resumed c)
    parts_stay k (part.Shard b) h = h
    parts_stay k (part.Outbox a b) h = h
    parts_stay k (part.Anchor number lv) h = h

    sees_stay : (x : Knows) → Sees origin c x → Sees origin (then_resumed c) x
    sees_stay x h = record { opened = h.opened; wide = h.wide; low = h.low; own = h.own; read = h.read; found = h.found }

    resume_turn : Turn origin style c (then_resumed c) (part_count origin.load) w (resumed p.role p.worker call front back)
    resume_turn = record {
      parts = λ k q lt apart h. parts_stay k q h;
      mine = ((p.there, at_same w next c.core.workers), (roles w p.role p.is).1, (roles w p.role p.is).2);
      others = λ u x apart h. (shares_stay u x.share apart h.0, h.1, h.2);
      sight = λ x lacks h. sees_stay x h;
      kept = record {
        reached = reached_on origin (Resume w) c.core (then_resumed c).core [] meets.reached leads tt;
        stored = stored_on c.stored meets.reached.events (Resume w) meets.stored tt;
        going = meets.going;
        fits = subst (λ (k : ℕ). (i : ℕ) → i < origin.load.streams → slice_index c.core.ends i ≤ slice_index origin.load.opening.ends i + LONGEST * k + MAX_ANCHOR * length (c.core.streams i).anchors)
            (sym (length-append meets.reached.joined [] ∙ add-zero (length meets.reached.joined))) meets.fits;
        anchors = meets.anchors;
        opened = meets.opened;
        limited = meets.limited;
        beyond = λ u low. at_other w next c.core.workers u (λ e. let b = p.there in omega arith) ∙ meets.beyond u low;
        shards = meets.shards;
        streams = meets.streams;
      };
    }

  -- the head gives the worker's role to a new seat, and the call that was left over comes next
  pub splits_resuming : {style : Style} (id : ℕ) → v.hand ≡ None → Splits (Rule origin style) id v (left_by w v) (split_as w (resumed p.role p.worker call front back) v)
  splits_resuming {style} id idle =
      let y : Role = resumed p.role p.worker call front back in
      splits_role (IsPart origin.load) (IsRole origin.load) (word_of origin.load) hand_of has (Sees origin) (Meets origin style) (part_count origin.load) (origin.load.streams + origin.load.streams + 1) id w v (left_by w v) (split_as w y v) p.role y idle idle refl p.is (role_alone w y)
      (λ u z h. still_in w v.roles u z h) (λ u z h. alone w y u z h)
      (λ c meets roles sees. let s = sees_stay c meets roles v sees in (
        then_resumed c,
        resume_turn c meets roles,
        record {
          opened = λ u z h. s.opened u z (still_in w v.roles u z h).1;
          wide = λ u z h. s.wide u z (still_in w v.roles u z h).1;
          low = s.low;
          own = λ j z lt h. s.own j z lt (still_in w v.roles (manager_role origin.load j) z h).1;
          read = λ u z lt h. s.read u z lt (still_in w v.roles u z h).1;
          found = s.found;
        },
        record {
          opened = λ u z h. s.opened w p.role p.is;
          wide = λ u z h. s.wide w p.role p.is;
          low = s.low;
          own = λ j z lt h. let e = alone w y (manager_role origin.load j) z h in s.own j p.role lt (ap (λ (n : ℕ). has n v) e ∙ p.is);
          read = λ u z lt h. let e = alone w y u z h in s.read u p.role lt (ap (λ (n : ℕ). has n v) e ∙ p.is);
          found = s.found;
        },
        (λ i low. refl),
      ))
