use Rattle.std.proofs.Common.{◌≡◌, ℕ, false, sym, ap, subst, ◌∙◌, Option, Some}
use Rattle.std.specs.Prelude.{IsSome, IfErr, OnOk}
use Rattle.std.specs.Map.{lookup}
use Rattle.std.proofs.Math.Path.{fun_ext}
use Rattle.indexmap.specs.IndexMap.{get, with_value_at}
use Rattle.tau_base.specs.declared.value.Key.{Key}
use Rattle.tau_base.specs.Database.{Db, db_of}
use Rattle.tau_shard.specs.Shard.{Entry, entry_or, entry_in, held_as, shard_locked}
use Rattle.tau_shard.specs.declared.entry.LockEntry.{LockEntry}
use Rattle.tau_shard.specs.Plain.{PlainShard}
use Rattle.tau_shard.specs.Read.{is_key, entry_of, entry_option, shard_of}
use Rattle.tau_shard.specs.Blocks.{RefusedBy, blocks}
use Rattle.tau_shard.specs.Stands.{StandsAt}
use Rattle.tau_shard.proofs.Puts.{with_rows, placed_put, shard_in_place, writes_there, on_ok, on_err}
use Rattle.tau_shard.proofs.Stands.{stands_with, put_there, put_same}
use Rattle.tau_shard.proofs.shard.Shard.lock_at.Goals as goal

pub invariant_of-self : goal.invariant_of-self
invariant_of-self c =
    let m = c.self.inside.entries in
    let at = c.args.at in
    let e : LockEntry = c.pair_mut-entry.result.1.now in
    let f : LockEntry = c.lock_old.new.entry in
    let there = c.requires.there in
    let old = subst (λ (p : PlainShard). StandsAt p.entries c.args.key at there.0) (sym c.self.view_is) there.1 in
    let stands = stands_with m.entries c.args.key c.pair_mut-entry.result.0.now at there.0 e old c.pair_mut-entry.ensures.value in
    let said = c.lock_old.ensures in
    placed_put (λ q. get is_key m q) (λ q. get is_key (with_value_at m at f) q) c.self.inside.floor (λ x. IsSome (lookup (is_key x) c.lock_old.new.rows.entries)) c.args.key f
    (put_there m c.args.key at e f stands c.pair_mut-entry.ensures.unique)
    (writes_there c.lock_old.result e f c.args.worker c.args.mode said.locked said.free said.unchanged said.there
    (λ u h. said.kept c.args.key (c.self.invariant c.args.key u
    (ap (λ (o : Option LockEntry). (entry_or c.self.inside.floor (entry_option o)).holders u) stands.found ∙ h))))
    (λ y w h. said.kept y (c.self.invariant y w h))

pub returns-clause-locked : goal.returns-clause-locked
returns-clause-locked c =
    let m = c.self.inside.entries in
    let at = c.args.at in
    let e : LockEntry = c.pair_mut-entry.result.1.now in
    let f : LockEntry = c.lock_old.new.entry in
    let there = c.requires.there in
    let old = subst (λ (p : PlainShard). StandsAt p.entries c.args.key at there.0) (sym c.self.view_is) there.1 in
    let stands = stands_with m.entries c.args.key c.pair_mut-entry.result.0.now at there.0 e old c.pair_mut-entry.ensures.value in
    on_ok c.lock_old.result (λ is.
    ap (λ (r : Db). with_rows r (λ x. entry_option (get is_key (with_value_at m at f) x)) c.self.inside.floor) c.lock_old.ensures.same
    ∙ shard_in_place (db_of (λ x. get is_key c.self.inside.rows x)) (λ q. get is_key m q) (λ q. get is_key (with_value_at m at f) q) c.self.inside.floor
    c.args.key e f (λ (e : Entry). held_as e c.args.worker (Some c.args.mode)) (sym stands.found) is (put_there m c.args.key at e f stands c.pair_mut-entry.ensures.unique)
    ∙ ap (λ (p : PlainShard). shard_locked (shard_of p) c.args.worker c.args.key c.args.mode) c.self.view_is
    ) c.lock_old.ensures.locked

pub returns-clause-free : goal.returns-clause-free
returns-clause-free c =
    let m = c.self.inside.entries in
    let at = c.args.at in
    let e : LockEntry = c.pair_mut-entry.result.1.now in
    let f : LockEntry = c.lock_old.new.entry in
    let there = c.requires.there in
    let old = subst (λ (p : PlainShard). StandsAt p.entries c.args.key at there.0) (sym c.self.view_is) there.1 in
    let stands = stands_with m.entries c.args.key c.pair_mut-entry.result.0.now at there.0 e old c.pair_mut-entry.ensures.value in
    let is : entry_of e ≡ entry_in (shard_of c.args.self.now) c.args.key =
    ap (λ (o : Option LockEntry). entry_or c.self.inside.floor (entry_option o)) (sym stands.found) ∙ ap (λ (p : PlainShard). entry_in (shard_of p) c.args.key) c.self.view_is in
    subst (λ (e : Entry). OnOk c.lock_old.result ((u : ℕ) → blocks e c.args.worker c.args.mode u ≡ false)) is c.lock_old.ensures.free

pub returns-clause-refused : goal.returns-clause-refused
returns-clause-refused c =
    let m = c.self.inside.entries in
    let at = c.args.at in
    let e : LockEntry = c.pair_mut-entry.result.1.now in
    let f : LockEntry = c.lock_old.new.entry in
    let there = c.requires.there in
    let old = subst (λ (p : PlainShard). StandsAt p.entries c.args.key at there.0) (sym c.self.view_is) there.1 in
    let stands = stands_with m.entries c.args.key c.pair_mut-entry.result.0.now at there.0 e old c.pair_mut-entry.ensures.value in
    let is : entry_of e ≡ entry_in (shard_of c.args.self.now) c.args.key =
    ap (λ (o : Option LockEntry). entry_or c.self.inside.floor (entry_option o)) (sym stands.found) ∙ ap (λ (p : PlainShard). entry_in (shard_of p) c.args.key) c.self.view_is in
    subst (λ (e : Entry). IfErr c.lock_old.result (λ x. RefusedBy e c.args.worker c.args.mode x)) is c.lock_old.ensures.refused

pub returns-clause-unchanged : goal.returns-clause-unchanged
returns-clause-unchanged c =
    let m = c.self.inside.entries in
    let at = c.args.at in
    let e : LockEntry = c.pair_mut-entry.result.1.now in
    let f : LockEntry = c.lock_old.new.entry in
    let there = c.requires.there in
    let old = subst (λ (p : PlainShard). StandsAt p.entries c.args.key at there.0) (sym c.self.view_is) there.1 in
    let stands = stands_with m.entries c.args.key c.pair_mut-entry.result.0.now at there.0 e old c.pair_mut-entry.ensures.value in
    on_err c.lock_old.result (λ same.
    ap (λ (r : Db). with_rows r (λ x. entry_option (get is_key (with_value_at m at f) x)) c.self.inside.floor) c.lock_old.ensures.same
    ∙ ap (λ (g : Key → Option Entry). with_rows (db_of (λ x. get is_key c.self.inside.rows x)) g c.self.inside.floor)
    (fun_ext (λ x. ap entry_option (put_same (λ q. get is_key m q) (λ q. get is_key (with_value_at m at f) q) c.args.key e f (sym stands.found) same (put_there m c.args.key at e f stands c.pair_mut-entry.ensures.unique) x)))
    ∙ ap (λ (p : PlainShard). shard_of p) c.self.view_is
    ) c.lock_old.ensures.unchanged
