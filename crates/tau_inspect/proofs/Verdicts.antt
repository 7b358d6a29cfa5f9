-- What verdicts say.
use Rattle.std.proofs.Common.{ℕ, zero, suc, ◌≤◌, ◌≡◌, true, inl, inr, List, [], ◌∷◌, ◌++◌, length, map, refl, ap, arith, Option}
use Rattle.std.specs.Prelude.{Some, None, slice_get}
use Rattle.std.proofs.lemmas.Bool.{cases_Bool}
use Rattle.tau_base.specs.declared.value.Call.{Call}
use Rattle.tau_base.specs.Database.{Db, written, empty_db}
use Rattle.tau_proc.specs.declared.proc.Proc.{Proc}
use Rattle.tau_proc.specs.declared.reply.Reply.{Reply}
use Rattle.tau_model.specs.History.{Numbered, Act, Member, Depends, at_once, through, Closed, means, trace, replies, updates}
use Rattle.tau_model.specs.Logged.{Place}
use Rattle.tau_model.specs.Reported.{Left, listed, pick, reported_within, left_of}
use Rattle.tau_model.proofs.Logged.{member_second}
use Rattle.tau_inspect.specs.Executed.{history, numbered}
use Rattle.tau_inspect.specs.Firsts.{AllFit}
use Rattle.tau_inspect.specs.Taint.{is_missing}
use Rattle.tau_inspect.specs.Audit.{Case, acts, is_taken, fate_of, reply_of, FitsReply, FitsClosed, FitsOrder, due, place_of, ToldReplies, VerdictsMean}
use Rattle.tau_inspect.proofs.Firsts.{fits_member}
use Rattle.tau_base.proofs.Lists.{length_mapped}

-- what depends on something is one of the calls
depends_member : (acts : List (Act Numbered)) (t u : Act Numbered) → Depends acts t u → Member t acts
depends_member acts t u (at_once b c) = member_second u t acts b
depends_member acts t u (through {v = v} d e) = depends_member acts t v d

closed_by : (c : Case) → AllFit (FitsClosed c) (acts c) → Closed (acts c) (is_taken c)
closed_by c all t u d taken up = elim (cases_Bool (is_taken c u.call)) [
  | inl e ↦ e
  | inr e ↦
      let w = fits_member (FitsClosed c) (acts c) t all (depends_member (acts c) t u d) in
      let missing : is_missing (is_taken c) u ≡ true = rw (up, e) refl in
      absurd (w.1 taken (u, d, missing))
]

-- ---- replies

told_from : (procs : List Proc) (calls : List Call) (told : ℕ → Option Reply) (order : List ℕ) (db : Db) →
    ((x : Act Numbered) → Member x (trace (means procs) (history calls order) db) → told x.call.number ≡ Some x.effect.reply) →
    map told order ≡ map Some (replies (means procs) (history calls order) db)
told_from procs calls told [] db all = refl
told_from procs calls told (k ∷ ks) db all =
    let c : Numbered = numbered calls k in
    let first : told k ≡ Some (means procs c db).reply = all (record { call = c; effect = means procs c db }) (inl refl) in
    let rest = told_from procs calls told ks (written (means procs c db).writes db) (λ x m. all x (inr m)) in
    λ i. first i ∷ rest i

told_by : (c : Case) → AllFit (FitsReply c) (acts c) → ToldReplies c
told_by c all =
    told_from c.load.declarations.procs c.load.calls (λ k. reply_of (fate_of c k)) c.report.order empty_db (λ x m. (fits_member (FitsReply c) (acts c) x all m).1)

-- ---- the order

listed_short : {A : Type 0} (n : ℕ) (o : Option (A × Left A)) (rest : Left A → List A) → ((left : Left A) → length (rest left) ≤ n) → length (listed o rest) ≤ suc n
listed_short n None rest h = omega arith
listed_short n (Some (x, left)) rest h = omega (arith, h left)

within_short : {A : Type 0} (place : A → Place) (n : ℕ) (ends : List ℕ) (left : Left A) → length (reported_within place n ends left) ≤ n
unfolding reported_within
within_short place zero ends left = omega arith
within_short place (suc n) ends left = listed_short n (pick place ends left) (λ rest. reported_within place n ends rest) (λ rest. within_short place n ends rest)

trace_length : (procs : List Proc) (calls : List Call) (order : List ℕ) (db : Db) → length (trace (means procs) (history calls order) db) ≡ length order
trace_length procs calls [] db = refl
trace_length procs calls (k ∷ ks) db = ap suc (trace_length procs calls ks (written (means procs (numbered calls k) db).writes db))

-- a list of which each element is that of the other at its place, which is no longer
same_as : (xs ys : List ℕ) → ((front back : List ℕ) (x : ℕ) → xs ≡ front ++ x ∷ back → slice_get ys (length front) ≡ Some x) → length ys ≤ length xs → xs ≡ ys
same_as [] [] all le = refl
same_as [] (y ∷ ys) all le = absurd (omega (arith, le))
same_as (x ∷ xs) [] all le = (let bad : ◌≡◌ {A = Option ℕ} None (Some x) = all [] xs x refl in absurd cc)
same_as (x ∷ xs) (y ∷ ys) all le =
    let first : ◌≡◌ {A = Option ℕ} (Some y) (Some x) = all [] xs x refl in
    let here : x ≡ y = cc in
    let rest : xs ≡ ys = same_as xs ys (λ front back z is. all (x ∷ front) back z (ap (λ (l : List ℕ). x ∷ l) is)) (omega (arith, le)) in
    λ i. here i ∷ rest i

order_by : (c : Case) → AllFit (FitsOrder c) c.report.order → c.report.order ≡ due c
order_by c all =
    let left : Left (Act Numbered) = left_of (place_of c) (λ x. updates x.effect) (λ x. x.call.number) (length c.log.elv) (acts c) in
    let short : length (reported_within (place_of c) (length (acts c)) c.log.elv left) ≤ length (acts c) = within_short (place_of c) (length (acts c)) c.log.elv left in
    let n : length (acts c) ≡ length c.report.order = trace_length c.load.declarations.procs c.load.calls c.report.order empty_db in
    let m : length (due c) ≡ length (reported_within (place_of c) (length (acts c)) c.log.elv left) = length_mapped (λ (x : Act Numbered). x.call.number) (reported_within (place_of c) (length (acts c)) c.log.elv left) in
    same_as c.report.order (due c) all (omega (arith, n, m, short))

pub verdicts_mean : VerdictsMean
verdicts_mean c = (
  (λ ((e, (f, (r, (rows, (recs, (a, (cl, u))))))), whole, order). record {
    order = order_by c order;
    whole = whole;
    fates = f;
    records_fit = recs;
    closed = closed_by c cl;
    replies_told = told_by c r;
    rows = rows;
  }),
  (λ ((e, (f, (r, (rows, (recs, (a, (cl, u))))))), cut). record {
    closed = closed_by c cl;
    replies_told = told_by c r;
    rows = rows;
  }),
)
