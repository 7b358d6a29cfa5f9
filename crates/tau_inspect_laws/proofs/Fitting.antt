-- The records of a log that was read of a run's images are those of its calls.
use Rattle.std.proofs.Common.{ℕ, zero, suc, ◌+◌, ◌-◌, ◌%◌, ◌<◌, ◌≤◌, ◌≡◌, ◌==◌, Bool, true, false, inl, inr, List, [], ◌∷◌, ◌++◌, length, map, take, replicate, refl, sym, ap, subst, ◌∙◌, arith}
use Rattle.std.specs.Prelude.{Some, Ok, Err, Result, slice_get, slice_index_or, if◌then◌else◌}
use Rattle.std.specs.List.{filter}
use Rattle.std.proofs.lemmas.Bool.{and_parts, cases_Bool, eqb-true}
use Rattle.tau_base.specs.declared.format.Format.{Format}
use Rattle.tau_base.specs.declared.value.Key.{Key}
use Rattle.tau_base.specs.declared.value.Value.{Value}
use Rattle.tau_base.specs.declared.value.LogMode.{LogMode}
use Rattle.tau_base.specs.Database.{empty_db}
use Rattle.tau_base.specs.Modes.{format_of, is_command}
use Rattle.tau_base.proofs.Lists.{length_mapped, got_or, got_within}
use Rattle.tau_block.specs.Image.{image_of}
use Rattle.tau_model.specs.History.{Act, Member, updates}
use Rattle.tau_model.specs.Logged.{Place, lv}
use Rattle.tau_model.specs.Redo.{Written, Command}
use Rattle.tau_model.specs.Reported.{in_stream}
use Rattle.tau_model.proofs.Logged.{member_filtered}
use Rattle.tau_model.proofs.Orders.{calls_trace}
use Rattle.tau_text.specs.declared.load.Workload.{Workload}
use Rattle.tau_record.specs.declared.entry.Placed.{Placed}
use Rattle.tau_scan.specs.declared.fault.LogFault.{LogFault}
use Rattle.tau_scan.specs.declared.log.Log.{Log}
use Rattle.tau_scan.specs.Reading.{◌>>=◌, in_front, each_from, opened, contents_of}
use Rattle.tau_scan.specs.Taken.{Kept, kept_in, kept_from}
use Rattle.tau_epoch_laws.proofs.Contents.{AreStreams, Holds, holds}
use Rattle.tau_epoch_laws.proofs.Parts.{in_either}
use Rattle.tau_run.specs.Start.{Start}
use Rattle.tau_run.specs.Run.{Committed, Run, IsHistory, Distinct, content_of, record_of, records_in, vector_of}
use Rattle.tau_run.specs.Run as run_of
use Rattle.tau_inspect.specs.Audit.{Case, acts, has_record, records, FitsRecord, IsWork}
use Rattle.tau_inspect_laws.specs.Laws.{case_of_run, IsLogOfRun, RecordsFit}
use Rattle.tau_inspect_laws.proofs.Told.{plain_act, number_in, of_split, of_map, in_map, eq_is, acts_are, apart}

-- ---- numbers that are distinct

-- of two elements with one number there is one
pub one_of : {A : Type 0} (f : A → ℕ) (xs : List A) (a b : A) → Distinct (map f xs) → Member a xs → Member b xs → f a ≡ f b → a ≡ b
one_of f [] a b d m o e = absurd m
one_of f (x ∷ xs) a b d (inl m) (inl o) e = sym m ∙ o
one_of f (x ∷ xs) a b d (inl m) (inr o) e = absurd (d.0 (subst (λ (k : ℕ). Member k (map f xs)) (sym (ap f m ∙ e)) (in_map f xs b o)))
one_of f (x ∷ xs) a b d (inr m) (inl o) e = absurd (d.0 (subst (λ (k : ℕ). Member k (map f xs)) (e ∙ sym (ap f o)) (in_map f xs a m)))
one_of f (x ∷ xs) a b d (inr m) (inr o) e = one_of f xs a b d.1 m o e

taken_within : {A : Type 0} (k : ℕ) (xs : List A) (x : A) → Member x (take k xs) → Member x xs
taken_within zero xs x m = absurd m
taken_within (suc k) [] x m = absurd m
taken_within (suc k) (y ∷ xs) x (inl e) = inl e
taken_within (suc k) (y ∷ xs) x (inr m) = inr (taken_within k xs x m)

distinct_taken : {A : Type 0} (f : A → ℕ) (k : ℕ) (xs : List A) → Distinct (map f xs) → Distinct (map f (take k xs))
distinct_taken f zero xs d = tt
distinct_taken f (suc k) [] d = tt
distinct_taken f (suc k) (x ∷ xs) d =
    (λ m. (let w = of_map f (take k xs) (f x) m in d.0 (subst (λ (i : ℕ). Member i (map f xs)) w.2 (in_map f xs w.0 (taken_within k xs w.0 w.1)))), distinct_taken f k xs d.1)

distinct_filtered : {A : Type 0} (f : A → ℕ) (p : A → Bool) (xs : List A) → Distinct (map f xs) → Distinct (map f (filter p xs))
distinct_filtered f p [] d = tt
distinct_filtered f p (x ∷ xs) d = elim (cases_Bool (p x)) [
  | inl is ↦ rw is (λ m. (let w = of_map f (filter p xs) (f x) m in d.0 (subst (λ (i : ℕ). Member i (map f xs)) w.2 (in_map f xs w.0 (member_filtered p w.0 xs w.1).0))), distinct_filtered f p xs d.1)
  | inr no' ↦ rw no' (distinct_filtered f p xs d.1)
]

distinct_joined : (xs ys : List ℕ) → Distinct xs → Distinct ys → ((k : ℕ) → Member k xs → Member k ys → ⊥) → Distinct (xs ++ ys)
distinct_joined [] ys d e apart' = e
distinct_joined (x ∷ xs) ys d e apart' =
    (λ m. elim (in_either x xs ys m) [ inl p ↦ d.0 p | inr p ↦ apart' x (inl refl) p ], distinct_joined xs ys d.1 e (λ k m o. apart' k (inr m) o))

map_joined : {A : Type 0} (f : A → ℕ) (xs ys : List A) → map f (xs ++ ys) ≡ map f xs ++ map f ys
map_joined f [] ys = refl
map_joined f (x ∷ xs) ys = ap (λ (l : List ℕ). f x ∷ l) (map_joined f xs ys)

same_numbers : (mode : LogMode) (xs : List (Act Committed)) → map (λ (r : Kept). r.number) (map (record_of mode) xs) ≡ map number_in xs
same_numbers mode [] = refl
same_numbers mode (x ∷ xs) = ap (λ (l : List ℕ). x.call.number ∷ l) (same_numbers mode xs)

-- nothing before a record has its number
pub not_before : (xs front back : List Kept) (r : Kept) → Distinct (map (λ (q : Kept). q.number) xs) → xs ≡ front ++ r ∷ back → has_record r.number front ≡ false
not_before xs front back r d e = first front (subst (λ (l : List Kept). Distinct (map (λ (q : Kept). q.number) l)) e d)
  where
    within : (f : List Kept) → Member r (f ++ r ∷ back)
    within [] = inl refl
    within (y ∷ f) = inr (within f)

    first : (f : List Kept) → Distinct (map (λ (q : Kept). q.number) (f ++ r ∷ back)) → has_record r.number f ≡ false
    first [] d' = refl
    first (y ∷ f) d' = elim (cases_Bool (y.number == r.number)) [
      | inl is ↦ absurd (d'.0 (subst (λ (k : ℕ). Member k (map (λ (q : Kept). q.number) (f ++ r ∷ back))) (sym (eq_is y.number r.number is)) (in_map (λ (q : Kept). q.number) (f ++ r ∷ back) r (within f))))
      | inr no' ↦ rw no' (first f d'.1)
    ]

-- where two functions give the same of a list, they do of each element
same_each : {A B : Type 0} (f g : A → B) (xs : List A) (x : A) → map f xs ≡ map g xs → Member x xs → f x ≡ g x
same_each f g [] x e m = absurd m
same_each {A} {B} f g (y ∷ xs) x e (inl is) = sym (ap f is) ∙ first ∙ ap g is
  where
    first : f y ≡ g y
    first = cc
same_each {A} {B} f g (y ∷ xs) x e (inr m) = same_each f g xs x rest m
  where
    rest : map f xs ≡ map g xs
    rest = cc

-- ---- as many contents as images

each_long : {A B : Type 0} (f : ℕ → A → Result B LogFault) (j : ℕ) (xs : List A) (ys : List B) → each_from f j xs ≡ Ok ys → length ys ≡ length xs
each_long f j [] ys e = (let same : [] ≡ ys = cc in ap length (sym same))
each_long {A} {B} f j (x ∷ xs) ys e = by_first (each_from f (suc j) xs) (λ zs. each_long f (suc j) xs zs) (f j x) e
  where
    by_rest : (y : B) (r : Result (List B) LogFault) → ((zs : List B) → r ≡ Ok zs → length zs ≡ length xs) → in_front y r ≡ Ok ys → length ys ≡ length (x ∷ xs)
    by_rest y (Ok zs) long g = (let same : y ∷ zs ≡ ys = cc in ap length (sym same) ∙ ap (λ (k : ℕ). suc k) (long zs refl))
    by_rest y (Err fault) long g = absurd cc

    by_first : (rest : Result (List B) LogFault) → ((zs : List B) → rest ≡ Ok zs → length zs ≡ length xs) → (r : Result B LogFault) → (r >>= λ y. in_front y rest) ≡ Ok ys → length ys ≡ length (x ∷ xs)
    by_first rest long (Ok y) g = by_rest y rest long g
    by_first rest long (Err fault) g = absurd cc

contents_long : (f : Format) (images contents : List (List ℕ)) → contents_of f images ≡ Ok contents → length contents ≡ length images
unfolding contents_of
contents_long f images contents e = each_long (λ j image. opened f (length images) j (image_of j image)) 0 images contents e

streams_long : (contents : List (List ℕ)) (streams : List (List Placed)) → AreStreams contents streams → length streams ≡ length contents
streams_long [] [] are = refl
streams_long [] (ps ∷ streams) are = absurd are
streams_long (content ∷ contents) [] are = absurd are
streams_long (content ∷ contents) (ps ∷ streams) are = ap (λ (k : ℕ). suc k) (streams_long contents streams are.1)

pub empty_at : (n j : ℕ) → slice_index_or {A = List Placed} (replicate n []) j [] ≡ []
empty_at zero j = refl
empty_at (suc n) zero = refl
empty_at (suc n) (suc j) = empty_at n j

-- ---- the records of a stream, and of all

module _ (mode : LogMode) (load : Workload) (run : Run) where
  abbrev pub acts_in : List (Act Committed)
  acts_in = run_of.acts load.declarations.procs run

  -- the first records of the history in this stream
  abbrev pub IsPart : ℕ → List Placed → Type 0
  IsPart j ps = (k : ℕ) × (kept_in j ps ≡ take k (records_in mode load run j))

  -- the record is that of a call of the run, in one of these streams
  pub record IsOfCall (low high : ℕ) (r : Kept) : Type 0 where
    pub act : Act Committed
    pub there : Member act acts_in
    pub logs : act.call.logs ≡ true
    pub first : low ≤ act.call.place.stream
    pub last : act.call.place.stream < high
    pub is : record_of mode act ≡ r

  of_part : (j : ℕ) (ps : List Placed) (r : Kept) → IsPart j ps → Member r (kept_in j ps) → IsOfCall j (suc j) r
  of_part j ps r part m =
      let in_it : Act Committed → Bool = in_stream (λ (x : Act Committed). x.call.place) (λ x. x.call.logs) j in
      let w = of_map (record_of mode) (filter in_it acts_in) r (taken_within part.0 (records_in mode load run j) r (subst (Member r) part.1 m)) in
      let f = member_filtered in_it w.0 acts_in w.1 in
      let both = and_parts w.0.call.logs (w.0.call.place.stream == j) f.1 in
      let at : w.0.call.place.stream ≡ j = eqb-true w.0.call.place.stream j both.1 in
      record { act = w.0; there = f.0; logs = both.0; first = omega (arith, at); last = omega (arith, at); is = w.2 }

  abbrev pub AreParts : ℕ → List (List Placed) → Type 0
  AreParts j streams = (q i : ℕ) (ps : List Placed) → q ≡ j + i → slice_get streams i ≡ Some ps → IsPart q ps

  parts_rest : (j : ℕ) (ps : List Placed) (streams : List (List Placed)) → AreParts j (ps ∷ streams) → AreParts (suc j) streams
  parts_rest j ps streams all q i rs e g = all q (suc i) rs (omega (arith, e)) g

  pub of_run : (j : ℕ) (streams : List (List Placed)) (r : Kept) → AreParts j streams → Member r (kept_from j streams) → IsOfCall j (j + length streams) r
  of_run j [] r all m = absurd m
  of_run j (ps ∷ streams) r all m = elim (in_either r (kept_in j ps) (kept_from (suc j) streams) m) [
    | inl here ↦
        let o = of_part j ps r (all j 0 ps (omega arith) refl) here in
        let last = o.last in
        record { act = o.act; there = o.there; logs = o.logs; first = o.first; last = omega (arith, last); is = o.is }
    | inr there ↦
        let o = of_run (suc j) streams r (parts_rest j ps streams all) there in
        let first = o.first in
        let last = o.last in
        record { act = o.act; there = o.there; logs = o.logs; first = omega (arith, first); last = omega (arith, last); is = o.is }
  ]

  module _ (once : Distinct (map number_in acts_in)) where
    distinct_part : (j : ℕ) (ps : List Placed) → IsPart j ps → Distinct (map (λ (r : Kept). r.number) (kept_in j ps))
    distinct_part j ps part =
        let in_it : Act Committed → Bool = in_stream (λ (x : Act Committed). x.call.place) (λ x. x.call.logs) j in
        let whole : Distinct (map (λ (r : Kept). r.number) (records_in mode load run j)) = subst Distinct (sym (same_numbers mode (filter in_it acts_in))) (distinct_filtered number_in in_it acts_in once) in
        subst (λ (l : List Kept). Distinct (map (λ (r : Kept). r.number) l)) (sym part.1) (distinct_taken (λ (r : Kept). r.number) part.0 (records_in mode load run j) whole)

    -- each call has one record in all
    pub distinct_all : (j : ℕ) (streams : List (List Placed)) → AreParts j streams → Distinct (map (λ (r : Kept). r.number) (kept_from j streams))
    distinct_all j [] all = tt
    distinct_all j (ps ∷ streams) all =
        let number : Kept → ℕ = λ r. r.number in
        let part : IsPart j ps = all j 0 ps (omega arith) refl in
        subst Distinct (sym (map_joined number (kept_in j ps) (kept_from (suc j) streams)))
        (distinct_joined (map number (kept_in j ps)) (map number (kept_from (suc j) streams)) (distinct_part j ps part) (distinct_all (suc j) streams (parts_rest j ps streams all))
        (λ k m o.
        let a = of_map number (kept_in j ps) k m in
        let b = of_map number (kept_from (suc j) streams) k o in
        let x = of_part j ps a.0 part a.1 in
        let y = of_run (suc j) streams b.0 (parts_rest j ps streams all) b.1 in
        let same : x.act ≡ y.act = one_of number_in acts_in x.act y.act once x.there y.there (ap number x.is ∙ a.2 ∙ sym b.2 ∙ sym (ap number y.is)) in
        let at = ap (λ (z : Act Committed). z.call.place.stream) same in
        let last = x.last in
        let first = y.first in
        omega (arith, at, last, first)))

-- ---- the log of a run's images

module _ (n m : ℕ) (mode : LogMode) (load : Workload) (run : Run) (images : List (List ℕ)) (log : Log) (rows : List (Key × Value)) (o : IsLogOfRun n m mode load run images log) where
  abbrev pub its : Case
  its = case_of_run m load run rows log

  pub fresh_base : run.start.base ≡ empty_db
  fresh_base = ap (λ (s : Start). s.base) o.fresh

  pub same_log : log ≡ o.recovered.log
  same_log = by_ok (sym o.reads ∙ o.recovered.reads)
    where
      by_ok : {E : Type 0} {x y : Log} → ◌≡◌ {A = Result Log E} (Ok x) (Ok y) → x ≡ y
      by_ok e = cc e

  pub held : Holds o.recovered.contents log
  held = subst (Holds o.recovered.contents) (sym same_log) (holds (format_of mode) o.recovered.contents o.recovered.log o.recovered.sound.reads)

  pub contents_wide : length o.recovered.contents ≡ n
  contents_wide = contents_long (format_of mode) images o.recovered.contents o.recovered.have ∙ o.count

  pub streams_wide : length log.streams ≡ n
  streams_wide = streams_long o.recovered.contents log.streams held.streams ∙ contents_wide

  pub elv_wide : length log.elv ≡ n
  elv_wide = ap length held.elv ∙ length_mapped length o.recovered.contents ∙ contents_wide

  pub parts : AreParts mode load run 0 log.streams
  parts q i ps e g =
      let same : q ≡ i = omega (arith, e) in
      let lt : i < n = subst (λ (k : ℕ). i < k) streams_wide (got_within log.streams i ps g) in
      let w = o.recovered.records i lt in
      let none : kept_in i (slice_index_or run.start.log.streams i []) ≡ [] = ap (λ (s : Start). kept_in i (slice_index_or s.log.streams i [])) o.fresh ∙ ap (kept_in i) (empty_at n i) in
      let here : slice_index_or o.recovered.log.streams i [] ≡ ps = ap (λ (l : Log). slice_index_or l.streams i []) (sym same_log) ∙ got_or log.streams i ps [] g in
      let is : kept_in i ps ≡ take w.0 (records_in mode load run i) = ap (kept_in i) (sym here) ∙ w.1 ∙ ap (λ (l : List Kept). l ++ take w.0 (records_in mode load run i)) none in
      subst (λ (k : ℕ). IsPart mode load run k ps) (sym same) (w.0, is)

  pub once : Distinct (map number_in (acts_in mode load run))
  once = apart n m load run rows log o.history fresh_base

  pub logs_are : (x : Act Committed) → Member x (acts_in mode load run) → x.call.logs ≡ updates x.effect
  logs_are x t = same_each (λ (y : Act Committed). y.call.logs) (λ (y : Act Committed). updates y.effect) (acts_in mode load run) x (sym (through (acts_in mode load run)) ∙ ap (map (λ (c : Committed). c.logs)) (calls_trace (run_of.means load.declarations.procs) run.calls run.start.base) ∙ o.history.logs) t
    where
      through : (xs : List (Act Committed)) → map (λ (c : Committed). c.logs) (map (λ (y : Act Committed). y.call) xs) ≡ map (λ (y : Act Committed). y.call.logs) xs
      through [] = refl
      through (y ∷ xs) = ap (λ (l : List Bool). y.call.logs ∷ l) (through xs)

  pub in_calls : (x : Act Committed) → Member x (acts_in mode load run) → Member x.call run.calls
  in_calls x t = subst (Member x.call) (calls_trace (run_of.means load.declarations.procs) run.calls run.start.base) (in_map (λ (y : Act Committed). y.call) (acts_in mode load run) x t)

  pub one_call : (a b : Committed) → Member a run.calls → Member b run.calls → a.number ≡ b.number → a ≡ b
  one_call a b p q e = one_of (λ (c : Committed). c.number) run.calls a b o.history.once p q e

  pub calls_of_it : run.calls ≡ map (λ (x : Act Committed). x.call) (acts_in mode load run)
  calls_of_it = sym (calls_trace (run_of.means load.declarations.procs) run.calls run.start.base)

  pub acts_of_it : acts its ≡ map plain_act (acts_in mode load run)
  acts_of_it = acts_are n m load run rows log o.history fresh_base

  -- the call of a record
  pub call_of : (r : Kept) → Member r (records its) → IsOfCall mode load run 0 n r
  call_of r t = subst (λ (k : ℕ). IsOfCall mode load run 0 k r) (omega (arith, streams_wide)) (of_run mode load run 0 log.streams r parts t)

  held_work : (b : Bool) (x : Act Committed) → IsWork (if b then Command x.call.call else Written x.effect.writes) x.effect.writes x.call.call
  held_work true x = refl
  held_work false x = refl

  fits : (front back : List Kept) (r : Kept) → records its ≡ front ++ r ∷ back → FitsRecord its front r
  fits front back r e =
      let q = call_of r (of_split (records its) front back r e) in
      let x = q.act in
      let number : x.call.number ≡ r.number = ap (λ (k : Kept). k.number) q.is in
      let place : x.call.place ≡ r.place = ap (λ (k : Kept). k.place) q.is in
      record {
        act = record {
          act = plain_act x;
          there = subst (Member (plain_act x)) (sym acts_of_it) (in_map plain_act (acts_in mode load run) x q.there);
          number = number;
          writes = sym (logs_are x q.there) ∙ q.logs;
          work = subst (λ (k : Kept). IsWork k.content x.effect.writes x.call.call) q.is (held_work (is_command mode) x);
        };
        first = not_before (records its) front back r (distinct_all mode load run once 0 log.streams parts) e;
        home =
            (let home = o.history.homes x.call (in_calls x q.there) q.logs in
            ap (λ (p : Place). p.stream) (sym place) ∙ home ∙ ap (λ (k : ℕ). ((k - 1) % m) % n) number ∙ ap (λ (k : ℕ). ((r.number - 1) % m) % k) (sym elv_wide));
        ack = λ v t.
            (let w = o.history.acked (r.number, v) t in
            let same : w.0 ≡ x.call = one_call w.0 x.call w.1 (in_calls x q.there) (w.2 ∙ sym number) in
            sym w.3 ∙ ap vector_of same ∙ ap (λ (b : Bool). lv b x.call.place) q.logs ∙ ap (lv true) place);
      }

pub records_fit : RecordsFit
records_fit n m mode load run images log rows o = fits n m mode load run images log rows o
