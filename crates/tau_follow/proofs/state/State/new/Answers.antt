-- One stream more, and all of them.
use Rattle.std.proofs.Common.{◌≡◌, None, ap, ◌∙◌, ◌∷◌, ◌++◌, [], inl, refl, arith}
use Rattle.tau_follow.specs.Reading.{IsRead}
use Rattle.std.proofs.Common.{subst, sym, List, replicate}
use Rattle.tau_base.specs.Database.{Db}
use Rattle.tau_model.specs.Tables.{IsTablesOf}
use Rattle.tau_follow.specs.declared.spot.Spot.{Spot}
use Rattle.tau_scan.specs.Epochs.{with_marks}
use Rattle.tau_follow.specs.Applying.{AreSpots}
use Rattle.tau_follow.proofs.Sealing.{no_marks}
use Rattle.tau_follow.proofs.Bytes.{no_bytes}
use Rattle.tau_follow.proofs.Begun.{pushed_one, pushed_long, pushed_items, begun_read, begun_staged, begun_one}
use Rattle.tau_follow.proofs.state.State.new.Goals as goal

pub loop-preserved : goal.loop-preserved
loop-preserved c = (
  pushed_one c.loop.counter [] c.loop.streams.items _ (c.in_ok-push-2.ensures.items ∙ ap (λ v. c.loop.streams.items ++ v ∷ []) c.new-in-loop.ensures) c.loop.invariant.0,
  pushed_one c.loop.counter [] c.loop.stages.items _ (c.in_ok-push-3.ensures.items ∙ ap (λ v. c.loop.stages.items ++ v ∷ []) c.new-in-loop-2.ensures) c.loop.invariant.1,
  pushed_long c.loop.counter c.loop.readers.items _ _ c.in_ok-push.ensures.items c.loop.invariant.2,
  λ f j r e. pushed_items (λ z. IsRead f c.args.n [] [] z) c.loop.readers.items _ c.in_ok-reader.reader j r c.in_ok-push.ensures.items (λ i z g. c.loop.invariant.3 f i z g) (c.in_ok-reader.ensures f) e,
)

pub returns : goal.returns
returns c = λ f.
    (let low = c.loop-test.false in
    let high = c.loop.auto.counter-end in
    let all : c.loop.counter ≡ c.args.n = omega (arith, low, high) in
    record {
      read = begun_read f c.args.n c.loop.counter _ _ all c.loop.invariant.0 c.loop.invariant.2 (c.loop.invariant.3 f);
      bytes = no_bytes c.args.n;
      follower = ([], (refl, refl));
      catalogue = None;
      one = begun_one c.args.n;
      knows = record { known = c.new-5.ensures ∙ ap (with_marks []) (sym (no_marks c.args.n)); declarations = c.none_declared.ensures };
      stands = record { staged = begun_staged c.args.n c.loop.counter _ _ _ all c.loop.invariant.1 c.in_ok-firsts.ensures c.new-3.ensures; spots = subst (λ (l : List Spot). AreSpots (replicate c.args.n []) l []) (sym c.new-2.ensures.items) tt; told = inl refl };
      redone = record { within = omega arith; store = c.new-store.ensures; tables = subst (λ (x : Db). IsTablesOf x c.in_ok-tables.tables) c.new-store.ensures c.in_ok-tables.ensures };
    })
