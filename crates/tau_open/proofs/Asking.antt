-- One more disk is asked its length.
use Rattle.std.proofs.Common.{ℕ, ◌≡◌, ◌+◌, ◌<◌, ◌≤◌, ◌⊎◌, List, ◌∙◌, false, length}
use Rattle.std.specs.Prelude.{Some, slice_get}
use Rattle.std.proofs.Math.ListN.{set}
use Rattle.std.proofs.lemmas.List.{length-set}
use Rattle.tau_disk.specs.declared.disk.Disk.{Ghosts}
use Rattle.tau_disk.specs.Disk.{Rose, Elapses, WasToFail, WasRefused}
use Rattle.tau_open.specs.Opening.{Asked, FailsAsked, AreAsked, FailsAsking, StillKeeps}
use Rattle.tau_disk.proofs.Places.{each_more, each_below, at_here, rest_more}
use Rattle.tau_disk.proofs.Calls.{only_read, one_went, one_broke}

module _ {D : Type 0} (G : Ghosts D) (counts_now : (d : D) (t : ℕ) (x : List ℕ) → t ≤ G.moment d → G.may_leave d x → G.may_leave_since d t x) (old cur : List D) (j : ℕ) (d e : D) (asked : AreAsked G j old cur) (lt : j < length cur) (here : slice_get cur j ≡ Some d)
    (same : G.tells → G.seen e ≡ G.seen d) (crash : (x : List ℕ) → G.may_leave e x → G.may_leave d x) (keeps : (x : List ℕ) → G.may_leave d x → G.may_leave e x)
    (time : Elapses (G.moment d) (G.moment e) (G.may_leave_since d) (G.may_leave_since e) (G.may_leave e)) (count : G.faults d ≤ G.faults e)
    (plan : G.tells → (k : ℕ) → G.fails e k ≡ G.fails d k) where
  pub asked_more : (G.tells → (G.number e ≡ G.number d + 1) × (G.fails d (G.number d + 1) ≡ false) × (G.short e ≡ G.short d)) → StillKeeps G d e → AreAsked G (j + 1) old (set cur j e)
  asked_more one last = record {
    each = each_more (λ i. Asked G) old cur j d e asked.rest lt here asked.each (record { read = only_read G counts_now d e same crash keeps time; went = one_went G d e count plan one; last = last });
    rest = rest_more (λ i. Asked G) old cur j d e asked.rest lt here;
    many = length-set cur j e ∙ asked.many;
  }

  pub asking_fails : Rose (G.faults d) (G.faults e) →
      (G.tells → WasToFail (G.number d) (G.number e) (G.fails d) (G.short d) (G.short e) ⊎ WasRefused (G.number d) (G.number e) (G.fails d) (G.short e)) → FailsAsking G j old (set cur j e)
  asking_fails rose one = record {
    below = each_below (λ i. Asked G) old cur j d e asked.rest lt here asked.each;
    here = at_here (λ i. Asked G) old cur j d e asked.rest lt here (FailsAsked G) (record { read = only_read G counts_now d e same crash keeps time; broke = one_broke G d e count rose plan one });
    rest = rest_more (λ i. Asked G) old cur j d e asked.rest lt here;
    many = length-set cur j e ∙ asked.many;
  }
