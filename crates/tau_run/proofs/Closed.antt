-- A closed set of committed acts is one of what the report has of them.
use Rattle.std.proofs.Common.{Bool, true, ◌≡◌, List, map, sym, ap, subst, ◌∙◌}
use Rattle.tau_model.specs.History.{Act, Member, Conflict, Depends, at_once, through, Closed, updates}
use Rattle.tau_model.proofs.Logged.{member_first, member_second}
use Rattle.tau_machine.specs.Hands.{Txn}
use Rattle.tau_run.specs.Run.{Committed, told_of}
use Rattle.tau_run.proofs.Lists.{before_map}
use Rattle.tau_run.proofs.CommittedTold.{act_of, Apart, one_of_number}

pub record Behind (H : List (Act Txn)) (x u : Act Committed) : Type 0 where
  pub late : Act Txn
  pub early : Act Txn
  pub late_there : Member late H
  pub early_there : Member early H
  pub late_is : act_of late ≡ x
  pub early_is : act_of early ≡ u
  pub depends : Depends H late early

module _ (H : List (Act Txn)) (apart : Apart H) where
  pub behind : (x u : Act Committed) → Depends (map act_of H) x u → Behind H x u
  behind x u (at_once b c) =
      let w = before_map act_of u x H b in
      record {
        late = w.1;
        early = w.0;
        late_there = member_second w.0 w.1 H w.2;
        early_there = member_first w.0 w.1 H w.2;
        late_is = w.4;
        early_is = w.3;
        depends = at_once w.2 (subst (λ (y : Act Committed). Conflict w.0.effect y.effect) (sym w.4) (subst (λ (y : Act Committed). Conflict y.effect x.effect) (sym w.3) c));
      }
  behind x u (through {v = v} d e) =
      let a = behind x v d in
      let b = behind v u e in
      let same : b.late ≡ a.early = one_of_number H apart b.late a.early b.late_there a.early_there (ap (λ (y : Act Committed). y.call.number) (b.late_is ∙ sym a.early_is)) in
      record {
        late = a.late;
        early = b.early;
        late_there = a.late_there;
        early_there = b.early_there;
        late_is = a.late_is;
        early_is = b.early_is;
        depends = through a.depends (subst (λ (y : Act Txn). Depends H y b.early) same b.depends);
      }

  pub closed_told : (p : Txn → Bool) (q : Committed → Bool) → Closed H p → ((t : Act Txn) → Member t H → q (told_of t) ≡ p t.call) → Closed (map act_of H) q
  closed_told p q closed same x u d here up =
      let w = behind x u d in
      let first : p w.late.call ≡ true = sym (same w.late w.late_there) ∙ ap (λ (y : Act Committed). q y.call) w.late_is ∙ here in
      let up' : updates w.early.effect ≡ true = ap (λ (y : Act Committed). updates y.effect) w.early_is ∙ up in
      sym (ap (λ (y : Act Committed). q y.call) w.early_is) ∙ same w.early w.early_there ∙ closed w.late w.early w.depends first up'
