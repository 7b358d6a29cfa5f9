-- Records in flight.
use Rattle.std.proofs.Common.{ℕ, ◌≡◌, ◌≢◌, true, List, refl, sym, subst, ◌∙◌}
use Rattle.std.specs.Prelude.{Some, slice_get}
use Rattle.tau_pool.specs.Item.{Item}
use Rattle.tau_pool.specs.declared.item.Job.{Job}
use Rattle.tau_pool.specs.declared.item.Stage.TheVariants.{Flying, Finished}
use Rattle.tau_pool.specs.Items.{is_flying}
use Rattle.tau_pool.specs.Pooled.{Pooled, IsStarted, IsFlying, IsFinished, staged}
use Rattle.tau_pool.proofs.Keeping.{waiting_flies}
use Rattle.tau_base.proofs.Logic.{some_is}
use Rattle.tau_base.proofs.Lists.{got_within, get_set_same, get_set_other}

pub flying_new : (p : Pooled) (job : Job) (q : Pooled) → IsStarted p job q → IsFlying q job
flying_new p job q s = subst (λ (z : Pooled). IsFlying z job) (sym s.new) (record {
  item = staged Flying s.item;
  there = get_set_same p.items job.place (staged Flying s.item) (got_within p.items job.place s.item s.there);
  started = refl;
  named = s.named;
})

pub flying_fresh : (p : Pooled) (job other : Job) (q : Pooled) → IsStarted p job q → IsFlying p other → other.place ≢ job.place
flying_fresh p job other q s f e =
    let same : f.item ≡ s.item = some_is f.item s.item (sym f.there ∙ subst (λ (n : ℕ). slice_get p.items n ≡ Some s.item) (sym e) s.there) in
    let on : is_flying s.item.stage ≡ true = subst (λ (x : Item). is_flying x.stage ≡ true) same f.started in
    let off = waiting_flies s.item.stage s.unstarted in
    absurd cc

pub flying_kept : (p : Pooled) (job other : Job) (q : Pooled) → IsStarted p job q → IsFlying p other → IsFlying q other
flying_kept p job other q s f = subst (λ (z : Pooled). IsFlying z other) (sym s.new) (record {
  item = f.item;
  there = get_set_other p.items job.place other.place (staged Flying s.item) (flying_fresh p job other q s f) ∙ f.there;
  started = f.started;
  named = f.named;
})

pub flying_left : (p : Pooled) (job other : Job) (q : Pooled) → IsFlying p job → IsFinished p job q → IsFlying p other → other.place ≢ job.place → IsFlying q other
flying_left p job other q j h f apart = record {
  item = f.item;
  there = subst (λ (xs : List Item). slice_get xs other.place ≡ Some f.item) (sym (h.items j.item j.there)) (get_set_other p.items job.place other.place (staged Finished j.item) apart ∙ f.there);
  started = f.started;
  named = f.named;
}

pub same_flying : (p q : Pooled) (other : Job) → q ≡ p → IsFlying p other → IsFlying q other
same_flying p q other e f = subst (λ (z : Pooled). IsFlying z other) (sym e) f
