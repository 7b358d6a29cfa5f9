-- What the machine has made is a history.
use Rattle.std.proofs.Common.{ℕ, zero, suc, inl, inr, ◌+◌, ◌-◌, ◌%◌, ◌≤◌, ◌<◌, Bool, true, false, ◌≡◌, List, [], ◌∷◌, ◌++◌, map, length, refl, sym, ap, subst, ◌∙◌, arith, slice_index}
use Rattle.std.specs.Prelude.{Some, None, slice_get, slice_index_or, ◌==◌, if◌then◌else◌}
use Rattle.std.specs.List.{filter}
use Rattle.std.proofs.lemmas.Bool.{eq-eqb, cases_Bool}
use Rattle.tau_base.specs.declared.value.LogMode.{LogMode}
use Rattle.tau_core.specs.declared.state.Load.{Load}
use Rattle.tau_core.specs.View.{setting_of, call_of}
use Rattle.tau_base.specs.declared.value.Call.{Call}
use Rattle.tau_text.specs.declared.load.Workload.{Workload}
use Rattle.tau_model.specs.History.{Act, Member, Before, trace, updates}
use Rattle.tau_model.proofs.Reorder.{reordered_itself, reordered_sym}
use Rattle.tau_model.proofs.Orders.{member_reordered}
use Rattle.tau_machine.specs.Hands.{Txn, committed_of}
use Rattle.tau_machine.specs.Hands as hands
use Rattle.tau_machine.specs.Accounts.{in_committed, in_calls, in_hand, joined_list}
use Rattle.tau_machine.specs.State.{Setting, Core, Ticket, ticket, ticket_of}
use Rattle.tau_machine.specs.Invariant.{Invariant}
use Rattle.tau_machine.specs.Pieces.{records_in}
use Rattle.tau_machine.specs.Reports.{calls_of}
use Rattle.tau_machine.proofs.Accounts.{committed_append}
use Rattle.tau_machine.proofs.Pieces.{chain_append}
use Rattle.tau_model.specs.Reported.{reported_of}
use Rattle.tau_proc.specs.declared.proc.Proc.{Proc}
use Rattle.tau_machine.proofs.Lists.{member_of, before_of}
use Rattle.tau_machine.proofs.Results.{reported_theorem, committed_theorem, acknowledged_theorem, streams_theorem}
use Rattle.tau_run.specs.Start.{Start, opened_with, opened_at}
use Rattle.tau_run.specs.CoreRun.{IsLoadOn}
use Rattle.tau_run.specs.Run.{Committed, Run, told_of, pair_of, means, acts, Distinct, StandBetween, of_stream, ends, IsHistory}
use Rattle.tau_run.proofs.Lists.{map_member, before_map}
use Rattle.tau_run.proofs.CommittedTold.{act_of, number_of, trace_told, distinct_of, apart_reordered, chain_stands, stream_told}
use Rattle.tau_run.proofs.Counts.{count, count_append, count_reordered, count_before, count_tickets, distinct_apart}
use Rattle.tau_run.proofs.Order.{apart, history, once, there, in_order}
use Rattle.tau_model.proofs.Assembling.{member_mapped}

logs_same : (H : List (Act Txn)) → map (λ (c : Committed). c.logs) (map told_of H) ≡ map (λ (x : Act Committed). updates x.effect) (map act_of H)
logs_same [] = refl
logs_same (t ∷ H) = ap (λ (l : List Bool). updates t.effect ∷ l) (logs_same H)

-- the setting is that of this workload, over n streams that begin so, by m workers
pub record IsSet (n m : ℕ) (load : Workload) (start : Start) (set : Setting) : Type 0 where
  pub procs : set.procs ≡ load.declarations.procs
  pub width : set.width ≡ n
  pub base : set.base ≡ start.base
  pub opening : (j : ℕ) → j < n → slice_index set.opening j ≡ length (opened_at load start j)
  pub call : (k : ℕ) (c : Call) → set.call_of k ≡ Some c → (1 ≤ k) × (slice_get load.calls (k - 1) ≡ Some c)
  pub worker : (k : ℕ) → set.worker_of k ≡ (k - 1) % m
  pub stream : (w : ℕ) → set.stream_of w ≡ w % n

numbered_call : (calls : List Call) (k : ℕ) (c : Call) → call_of calls k ≡ Some c → (1 ≤ k) × (slice_get calls (k - 1) ≡ Some c)
numbered_call calls k c e = elim (cases_Bool (k == 0)) [
  | inl is ↦ absurd (let f : None ≡ Some c = subst (λ (b : Bool). (if b then None else slice_get calls (k - 1)) ≡ Some c) is e in cc f)
  | inr no' ↦ (
    (let ne : k ≡ 0 → ⊥ = λ z. (let f : true ≡ false = sym (ap (λ m. m == 0) z) ∙ no' in cc f) in grind (arith, ne)),
    subst (λ (b : Bool). (if b then None else slice_get calls (k - 1)) ≡ Some c) no' e,
  )
]

-- an element of a list that was made element by element
pub index_mapped : {A : Type 0} (f : A → ℕ) (xs : List A) (d : A) (j : ℕ) → j < length xs → slice_index (map f xs) j ≡ f (slice_index_or xs j d)
index_mapped f [] d j lt = absurd (omega (arith, lt))
index_mapped f (x ∷ xs) d zero lt = refl
index_mapped f (x ∷ xs) d (suc j) lt = index_mapped f xs d j (omega (arith, lt))

pub is_set : (n m : ℕ) (mode : LogMode) (load : Workload) (start : Start) (l : Load) → length start.old ≡ n → IsLoadOn n m mode load start l → IsSet n m load start (setting_of l)
is_set n m mode load start l count is = record {
  procs = is.procs;
  width = is.streams;
  base = is.opening.rows;
  opening = λ j lt. ap (λ (v : List ℕ). slice_index v j) is.opening.ends ∙ index_mapped (λ (old : List ℕ). length (opened_with load start old)) start.old [] j (omega (arith, count, lt));
  call = λ k c e. numbered_call load.calls k c (ap (λ (cs : List Call). call_of cs k) (sym is.calls) ∙ e);
  worker = λ k. ap (λ (w : ℕ). (k - 1) % w) is.workers;
  stream = λ w. ap (λ (k : ℕ). w % k) is.streams;
}

module _ (set : Setting) (K : List (Act Txn)) (s : Core) (g : Invariant set K s) where
  abbrev H : List (Act Txn)
  H = history set K s g

  here : (t : Act Txn) → Member t K → Member t H
  here t m = member_reordered H K (reordered_sym K H (once set K s g)) t m

  pub acts_are : (n m : ℕ) (load : Workload) (run : Run) → IsSet n m load run.start set → run.calls ≡ map told_of H → acts load.declarations.procs run ≡ map act_of H
  acts_are n m load run is e =
      let law : trace (hands.means set.procs) (calls_of H) set.base ≡ H = (reported_theorem set K s g K (reordered_itself K)).3 in
      ap (λ (l : List Committed). trace (means load.declarations.procs) l run.start.base) e
      ∙ ap (λ (p : List Proc). trace (means p) (map told_of H) run.start.base) (sym is.procs)
      ∙ ap (trace (means set.procs) (map told_of H)) (sym is.base)
      ∙ trace_told set.procs H set.base law

  module _ (acks : List (ℕ × List ℕ)) (are : (w : ℕ) → filter (λ (a : ℕ × List ℕ). set.worker_of a.0 == w) acks ≡ map pair_of (s.acked w)) where
    -- an acknowledged call committed, and has this vector
    pub ack_of : (a : ℕ × List ℕ) → Member a acks → (t : Act Txn) × Member t K × (number_of t ≡ a.0) × (hands.lv_of t ≡ a.1) × Member (ticket t) (s.acked (set.worker_of a.0))
    ack_of a m =
        let w : ℕ = set.worker_of a.0 in
        let mine : Member a (filter (λ (b : ℕ × List ℕ). set.worker_of b.0 == w) acks) = member_of (λ (b : ℕ × List ℕ). set.worker_of b.0 == w) a acks m (eq-eqb w w refl) in
        let k = member_mapped pair_of a (s.acked w) (subst (λ (l : List (ℕ × List ℕ)). Member a l) (are w) mine) in
        let t = acknowledged_theorem set K s g w k.0 k.1 in (
          t.0,
          t.1,
          ap (λ (x : Ticket). x.number) t.2 ∙ ap (λ (b : ℕ × List ℕ). b.0) k.2,
          ap (λ (x : Ticket). x.lv) t.2 ∙ ap (λ (b : ℕ × List ℕ). b.1) k.2,
          subst (λ (x : Ticket). Member x (s.acked w)) (sym t.2) k.1,
        )

    few : (w n : ℕ) → count (λ (k : Ticket). k.number) n (s.acked w) ≤ 1
    few w n =
        let acc = g.agrees.accounts w in
        let pending = (s.outboxes w).pending in
        let a = count_tickets n acc.ended in
        let b = count_reordered (λ (k : Ticket). k.number) n (map ticket_of acc.ended) (pending ++ s.acked w) acc.tickets in
        let c = count_append (λ (k : Ticket). k.number) n pending (s.acked w) in
        let d = ap (in_committed n) acc.committed in
        let e = committed_append n acc.ended (joined_list (hands.act_in (s.workers w).hand)) in
        let f : in_calls n (s.workers w).waiting + in_hand n (s.workers w).hand + in_calls n (s.workers w).left + in_committed n (s.workers w).committed ≤ 1 = acc.once n in
        omega (arith, a, b, c, d, e, f)

    pub acks_once : Distinct (map (λ (a : ℕ × List ℕ). a.0) acks)
    acks_once = distinct_apart (λ (a : ℕ × List ℕ). a.0) acks (λ x y b e.
        let w : ℕ = set.worker_of x.0 in
        let mine : Before x y (filter (λ (a : ℕ × List ℕ). set.worker_of a.0 == w) acks) =
        before_of (λ (a : ℕ × List ℕ). set.worker_of a.0 == w) x y acks b (eq-eqb w w refl) (eq-eqb (set.worker_of y.0) w (ap set.worker_of (sym e))) in
        let v = before_map pair_of x y (s.acked w) (subst (λ (l : List (ℕ × List ℕ)). Before x y l) (are w) mine) in
        let first : x.0 ≡ v.0.number = ap (λ (a : ℕ × List ℕ). a.0) (sym v.3) in
        let second : x.0 ≡ v.1.number = e ∙ ap (λ (a : ℕ × List ℕ). a.0) (sym v.4) in
        let two = count_before (λ (k : Ticket). k.number) x.0 v.0 v.1 (s.acked w) v.2 first second in
        let one = few w x.0 in
        absurd (omega (arith, two, one)))

  pub is_history : (n m : ℕ) (load : Workload) (run : Run) → IsSet n m load run.start set → run.calls ≡ map told_of H → length run.contents ≡ n → ends run ≡ s.ends →
      ((w : ℕ) → filter (λ (a : ℕ × List ℕ). set.worker_of a.0 == w) run.acks ≡ map pair_of (s.acked w)) → IsHistory n m load run
  is_history n m load run is calls long places are =
      let law = (committed_theorem set K s g).0 in
      let from : (c : Committed) → Member c run.calls → (t : Act Txn) × Member t K × (told_of t ≡ c) = λ c m.
      (let w = member_mapped told_of c H (subst (λ (l : List Committed). Member c l) calls m) in (w.0, there set K s g w.0 w.1, w.2)) in
      record {
        of_workload = λ c m. (let w = from c m in subst (λ (x : Committed). (1 ≤ x.number) × (slice_get load.calls (x.number - 1) ≡ Some x.call)) w.2 (is.call (number_of w.0) w.0.call.call.call (law w.0 w.1).0));
        once = subst (λ (l : List Committed). Distinct (map (λ (c : Committed). c.number) l)) (sym calls) (distinct_of H (apart_reordered K H (apart set K s g) (once set K s g)));
        logs = ap (map (λ (c : Committed). c.logs)) calls ∙ logs_same H ∙ ap (map (λ (x : Act Committed). updates x.effect)) (sym (acts_are n m load run is calls));
        homes = λ c q up.
            (let w = from c q in
            let up' : updates w.0.effect ≡ true = ap (λ (x : Committed). x.logs) w.2 ∙ up in
            let l = law w.0 w.1 in
            sym (ap (λ (x : Committed). x.place.stream) w.2) ∙ l.2 up' ∙ ap set.stream_of (sym l.1) ∙ is.stream (set.worker_of (number_of w.0))
            ∙ ap (λ (k : ℕ). k % n) (is.worker (number_of w.0)) ∙ ap (λ (x : Committed). ((x.number - 1) % m) % n) w.2);
        stand = λ j lt.
            (let low : j < set.width = subst (λ (k : ℕ). j < k) (sym is.width) lt in
            let st = streams_theorem set K s g j low in
            let first = slice_index set.opening j in
            let opened : ℕ = length (opened_at load run.start j) in
            let opens = is.opening j lt in
            let same : of_stream run.calls j ≡ map told_of (records_in ((s.streams j).moved ++ st.0)) =
            ap (λ (l : List Committed). of_stream l j) calls ∙ stream_told H j ∙ ap (map told_of) ((reported_theorem set K s g K (reordered_itself K)).2 j ∙ sym st.3) in
            subst (λ (l : List Committed). StandBetween opened (slice_index (ends run) j) l) (sym same)
            (subst (λ (v : List ℕ). StandBetween opened (slice_index v j) (map told_of (records_in ((s.streams j).moved ++ st.0)))) (sym places)
            (chain_stands opened first (slice_index s.ends j) ((s.streams j).moved ++ st.0) (chain_append first (slice_index s.gathered j) (slice_index s.ends j) (s.streams j).moved st.0 st.1 st.2) (omega (arith, opens)))));
        widths = λ c m. (let w = from c m in sym (ap (λ (x : Committed). length x.place.dep) w.2) ∙ (law w.0 w.1).3 ∙ is.width);
        streams = long;
        order = calls ∙ in_order set K s g ∙ (λ i. ordered (sym places i) (sym calls i));
        acked = λ a m. (let t = ack_of run.acks are a m in (told_of t.0, subst (λ (l : List Committed). Member (told_of t.0) l) (sym calls) (map_member told_of t.0 H (here t.0 t.1)), t.2, t.3));
        acked_once = acks_once run.acks are;
      }
    where
      ordered : List ℕ → List Committed → List Committed
      ordered v l = reported_of (λ (c : Committed). c.place) (λ c. c.logs) (λ c. c.number) v l
