-- What committed calls write and name is declared.
use Rattle.std.proofs.Common.{ℕ, ◌-◌, true, ◌≡◌, inl, inr, List, [], ◌∷◌, ◌++◌, length, sym, ap, subst, ◌∙◌, arith, slice_index}
use Rattle.std.specs.Prelude.{◌&&◌}
use Rattle.std.specs.List.{list_all}
use Rattle.std.proofs.lemmas.Bool.{and_from}
use Rattle.std.proofs.lemmas.List.{length-map, length-append, get_or_past}
use Rattle.std.proofs.lemmas.Bool.Decides.{leb_tells}
use Rattle.tau_base.specs.declared.value.LogMode.{LogMode}
use Rattle.tau_base.specs.declared.value.LogMode.TheVariants.{Values, Commands, WideValues, WideCommands}
use Rattle.tau_base.specs.Database.{Db, written}
use Rattle.tau_base.proofs.Vectors.{same_positions}
use Rattle.tau_proc.specs.declared.proc.Proc.{Proc}
use Rattle.tau_proc.specs.Effect.{Effect}
use Rattle.tau_proc.specs.Meaning.{meaning}
use Rattle.tau_proc.specs.Takes.{takes}
use Rattle.tau_model.specs.History.{Act, Member, trace}
use Rattle.tau_machine.specs.Hands as hands
use Rattle.tau_machine.specs.Hands.{Txn}
use Rattle.tau_machine.specs.State.{Core}
use Rattle.tau_machine.specs.Reports.{calls_of}
use Rattle.tau_machine.proofs.Results.{committed_theorem, rows_theorem}
use Rattle.tau_machine.proofs.Pieces.{chain_append}
use Rattle.tau_text.specs.declared.load.Workload.{Workload}
use Rattle.tau_txn.specs.Record.{entry_of}
use Rattle.tau_core.specs.declared.state.Load.{Load}
use Rattle.tau_core.specs.View.{setting_of}
use Rattle.tau_scan.specs.Reading.{has_row, is_declared, is_of_table}
use Rattle.tau_run.specs.Run.{Run, ends, IsHistory}
use Rattle.tau_run.specs.Start.{opened_at}
use Rattle.tau_run.specs.CoreRun.{IsRunOf, IsCourse}
use Rattle.tau_run.proofs.Declared.{call_named}
use Rattle.tau_run.proofs.History.{IsSet, is_set, is_history}
use Rattle.tau_run.proofs.Logs.{length_at}
use Rattle.tau_run.proofs.Spelled.{spelled_long}
use Rattle.tau_run.proofs.Streams.{AreSound, IsDeclaredCourse}
use Rattle.tau_base.proofs.Lists.{some_at}

-- each act of a trace did what its call means on some database
traced : (procs : List Proc) (ts : List Txn) (db : Db) (t : Act Txn) → Member t (trace (hands.means procs) ts db) → (d : Db) × (t.effect ≡ meaning procs t.call.call.call d)
traced procs [] db t m = absurd m
traced procs (c ∷ ts) db t (inl e) = (db, sym (ap (λ (x : Act Txn). x.effect) e) ∙ ap (λ (x : Act Txn). meaning procs x.call.call.call db) e)
traced procs (c ∷ ts) db t (inr m) = traced procs ts (written (meaning procs c.call.call db).writes db) t m

module _ (n m : ℕ) (mode : LogMode) (load : Workload) (l : Load) (K : List (Act Txn)) (s : Core) (run : Run) (c : IsCourse n m mode load run.start l K s) where
  set_is : IsSet n m load run.start (setting_of l)
  set_is = is_set n m mode load run.start l c.begins.count c.load_is

  pub sound : AreSound l load K
  sound = record { catalogue = record { short = c.sound.short; bytes = c.sound.bytes; read = c.sound.read }; declared = λ t q up. by_mode l.mode t q }
    where
      rows_named : (t : Act Txn) → Member t K → list_all (has_row load.declarations) t.effect.writes ≡ true
      rows_named t q =
          let call = set_is.call t.call.call.number t.call.call.call ((committed_theorem (setting_of l) K s c.inv).0 t q).0 in
          let law = (rows_theorem (setting_of l) K s c.inv).0 in
          let d = traced l.procs (calls_of K) (setting_of l).base t (subst (λ (ts : List (Act Txn)). Member t ts) (sym law) q) in
          let is : t.effect ≡ meaning load.declarations.procs t.call.call.call d.0 = d.1 ∙ ap (λ (p : List Proc). meaning p t.call.call.call d.0) c.load_is.procs in
          ap (λ (e : Effect). list_all (has_row load.declarations) e.writes) is ∙ call_named load.declarations load.declarations.procs t.call.call.call d.0 c.sound.steps (c.sound.named (t.call.call.number - 1) t.call.call.call call.1)

      call_taken : (t : Act Txn) → Member t K → (takes load.declarations.procs t.call.call.call && is_of_table load.declarations t.call.call.call) ≡ true
      call_taken t q =
          let call = set_is.call t.call.call.number t.call.call.call ((committed_theorem (setting_of l) K s c.inv).0 t q).0 in
          and_from _ _ (c.sound.taken (t.call.call.number - 1) t.call.call.call call.1) (c.sound.named (t.call.call.number - 1) t.call.call.call call.1)

      by_mode : (k : LogMode) (t : Act Txn) → Member t K → is_declared load.declarations (entry_of k t) ≡ true
      by_mode Values t q = rows_named t q
      by_mode Commands t q = call_taken t q
      by_mode WideValues t q = rows_named t q
      by_mode WideCommands t q = call_taken t q

  abbrev pub declared : IsDeclaredCourse n m mode load run.start l K s
  declared = record { room = c.room; begins = c.begins; load_is = c.load_is; sound = sound; inv = c.inv; waits = c.waits }

  module _ (is : IsRunOf n l K s load run) where
    -- the contents are as long as the streams
    pub ends_are : ends run ≡ s.ends
    ends_are =
        let long : length (ends run) ≡ n = length-map run.contents length ∙ is.streams in
        let wide : length s.ends ≡ n = c.inv.agrees.good.good.order.count ∙ c.load_is.streams in
        same_positions (ends run) s.ends (long ∙ sym wide) (λ j. by_place j long wide)
      where
        by_place : (j : ℕ) → length (ends run) ≡ n → length s.ends ≡ n → slice_index (ends run) j ≡ slice_index s.ends j
        by_place j long wide = elim (leb_tells n j) [
          | inl le ↦ get_or_past (ends run) j 0 (omega (arith, long, le)) ∙ sym (get_or_past s.ends j 0 (omega (arith, wide, le)))
          | inr lt ↦
              let h = some_at run.contents j (let e = is.streams in omega (arith, e, lt)) in
              let g = is.given j h.0 h.1 in
              let first : List ℕ = opened_at load run.start j in
              let chain = chain_append (length first) (slice_index s.gathered j) (slice_index s.ends j) (s.streams j).moved g.waiting g.moved g.rest in
              length_at run.contents j h.0 h.1 ∙ ap length g.is ∙ length-append first g.bytes
              ∙ spelled_long l (λ i. (s.streams i).anchors) (length first) (slice_index s.ends j) ((s.streams j).moved ++ g.waiting) g.bytes g.spelled chain
        ]

    -- what the core has made is a history
    pub history_is : IsHistory n m load run
    history_is = is_history (setting_of l) K s c.inv n m load run set_is is.calls is.streams ends_are is.acks
