use Rattle.std.proofs.Common.{ℕ, ◌≡◌, ap, subst, ◌∙◌, arith}
use Rattle.std.specs.Prelude.{IfOk}
use Rattle.tau_base.specs.declared.limits.TheConstants.{SHARDS}
use Rattle.tau_base.specs.Database.{Db}
use Rattle.tau_model.specs.Tables.{IsTablesOf}
use Rattle.tau_core.specs.Rows.{with_shard_rows}
use Rattle.tau_core.proofs.Found.{found_shard}
use Rattle.tau_core.proofs.ShardRows.{rows_below, below_none, below_all, below_free, below_more}
use Rattle.tau_core.proofs.tables.tables.Goals as goal

pub loop-i-init : goal.loop-i-init
loop-i-init c = c.new-store.ensures ∙ below_none c.args.state.now.shards.items

pub put_shard-requires : goal.put_shard-requires
put_shard-requires c = λ x e. ap (λ (d : Db). d x) c.loop-i.invariant ∙ below_free c.loop-i.i c.args.state.now.shards.items x e

pub loop-i-preserved : goal.loop-i-preserved
loop-i-preserved c =
    let got = found_shard c.args.state.now c.loop-i.i c.index.result.now c.requires c.loop-i-test.true c.index.ensures in
    c.in_ok-put_shard.ensures ∙ ap (λ (d : Db). with_shard_rows c.loop-i.i c.index.result.now d) c.loop-i.invariant ∙ below_more c.loop-i.i c.args.state.now.shards.items c.index.result.now got

pub returns : goal.returns
returns c =
    let all : c.loop-i.i ≡ SHARDS = omega arith in
    subst (λ (d : Db). IfOk c.tables.result (λ tables. IsTablesOf d tables)) (c.loop-i.invariant ∙ ap (λ (n : ℕ). rows_below n c.args.state.now.shards.items) all ∙ below_all c.args.state.now.shards.items) c.tables.ensures
