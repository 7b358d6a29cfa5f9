-- Orders of records as orders of calls.
use Rattle.std.proofs.Common.{ℕ, Bool, ◌≡◌, List, [], ◌∷◌, ◌++◌, map, refl, sym, ap, subst, ◌∙◌}
use Rattle.std.specs.List.{filter}
use Rattle.tau_base.specs.Database.{Db, empty_db}
use Rattle.tau_proc.specs.declared.proc.Proc.{Proc}
use Rattle.tau_model.specs.History.{Numbered, Act, means, trace, exec, Reordered}
use Rattle.tau_base.specs.declared.value.LogMode.{LogMode}
use Rattle.tau_model.specs.Logged.{Place, IsLogged, IsCutAt, Orderly}
use Rattle.tau_model.specs.Redo.{Content, content, redo_contents}
use Rattle.tau_model.specs.Tables.{IsTablesOf}
use Rattle.tau_model.proofs.Reorder.{reordered_trans, reordered_sym}
use Rattle.tau_model.proofs.Replays.{finished, ready_exists, turns_keep, started}
use Rattle.tau_model.proofs.Theorems.{orderly_redo_law}
use Rattle.tau_scan.specs.Taken.{Kept, taken}
use Rattle.tau_scan.specs.declared.log.Log.{Log}
use Rattle.tau_replay.specs.Redone.{IsOrderOf}
use Rattle.tau_replay.specs.Laws.{OrderlyTurns, SomeReady, RunsAgree, OneRecovery, RunsOrdersAgree, place_of, waiting, kept_of}
use Rattle.tau_replay.proofs.Ones.{tables_one}
use Rattle.tau_base.proofs.Lists.{map_append, map_map}

pub orderly_turns : OrderlyTurns
orderly_turns records order turns is = finished place_of records turns order is

pub some_ready : SomeReady
some_ready records order turns s is idle same orderly = ready_exists place_of records order s (turns_keep place_of records (waiting records) turns s (started place_of records) is) idle same orderly

split_map : {A B : Type 0} (f : A → B) (front back : List B) (ys : List A) → front ++ back ≡ map f ys → (u v : List A) × (ys ≡ u ++ v) × (map f u ≡ front) × (map f v ≡ back)
split_map f [] back ys e = ([], ys, refl, refl, sym e)
split_map f (b ∷ front) back [] e = absurd cc
split_map {A} {B} f (b ∷ front) back (y ∷ ys) e =
    let head : b ≡ f y = cc in
    let tail : front ++ back ≡ map f ys = cc in
    let (u, v, is, a, c) = split_map f front back ys tail in
    (y ∷ u, v, ap (λ (zs : List A). y ∷ zs) is, (λ i. sym head i ∷ a i), c)

lift : {A B : Type 0} (f : A → B) (xs : List A) (zs : List B) → Reordered (map f xs) zs → (ys : List A) × (zs ≡ map f ys) × Reordered xs ys
lift f [] zs r = ([], r, refl)
lift {A} {B} f (x ∷ xs) zs (front, back, e, r) =
    let (ys, is, more) = lift f xs (front ++ back) r in
    let (u, v, cut, a, c) = split_map f front back ys is in
    let all : map f (u ++ x ∷ v) ≡ front ++ f x ∷ back = map_append f u (x ∷ v) ∙ ap (λ (ws : List B). ws ++ f x ∷ map f v) a ∙ ap (λ (ws : List B). front ++ f x ∷ ws) c in
    (u ++ x ∷ v, e ∙ sym all, (u, v, refl, subst (λ (ws : List A). Reordered xs ws) cut more))

abbrev content_of : Kept → Content
content_of r = r.content

-- redoing an order of the records that a cut holds is executing just their calls
cut_redone : (procs : List Proc) (h : List Numbered) (place : Numbered → Place) (ends : List ℕ) → IsLogged place ends (trace (means procs) h empty_db) →
    (cut : List ℕ) (chosen : Numbered → Bool) → IsCutAt place cut (trace (means procs) h empty_db) chosen → (mode : Act Numbered → LogMode) (log : Log) → log.declarations.procs ≡ procs →
    Reordered (map (kept_of place mode) (filter (λ x. chosen x.call) (trace (means procs) h empty_db))) (taken log) → (order : List Kept) → IsOrderOf log order →
    redo_contents log.declarations.procs (map content_of order) empty_db ≡ exec (means procs) (filter chosen h) empty_db
cut_redone procs h place ends logged cut chosen is_cut mode log same_procs same order o =
    let held : List (Act Numbered) = filter (λ x. chosen x.call) (trace (means procs) h empty_db) in
    let redo = orderly_redo_law procs h empty_db place ends logged cut chosen is_cut in
    let (ys, is, more) = lift (kept_of place mode) held order (reordered_trans (map (kept_of place mode) held) (taken log) order same o.each_once) in
    let orderly : Orderly (map (λ (x : Act Numbered). place x.call) ys) = subst (λ (ps : List Place). Orderly ps) (ap (λ (os : List Kept). map place_of os) is ∙ map_map place_of (kept_of place mode) ys) o.orderly in
    let done : redo_contents procs (map (λ (x : Act Numbered). content (mode x) x) ys) empty_db ≡ exec (means procs) (filter chosen h) empty_db = redo.1 ys mode more orderly in
    let contents : map content_of order ≡ map (λ (x : Act Numbered). content (mode x) x) ys = ap (λ (os : List Kept). map content_of os) is ∙ map_map content_of (kept_of place mode) ys in
    ap (λ (ps : List Proc). redo_contents ps (map content_of order) empty_db) same_procs ∙ ap (λ (cs : List Content). redo_contents procs cs empty_db) contents ∙ done

pub runs_agree : RunsAgree
runs_agree procs h place ends logged cut chosen is_cut mode log same_procs same =
    let held : List (Act Numbered) = filter (λ x. chosen x.call) (trace (means procs) h empty_db) in
    let redo = orderly_redo_law procs h empty_db place ends logged cut chosen is_cut in (
      (
        map (kept_of place mode) held,
        record { each_once = reordered_sym (map (kept_of place mode) held) (taken log) same; orderly = subst (λ (ps : List Place). Orderly ps) (sym (map_map place_of (kept_of place mode) held)) redo.0 },
      ),
      λ rows r. subst (λ (db : Db). IsTablesOf db rows) (cut_redone procs h place ends logged cut chosen is_cut mode log same_procs same r.order r.is_order) r.tables,
    )

pub runs_orders_agree : RunsOrdersAgree
runs_orders_agree procs h place ends logged cut chosen is_cut mode log same_procs same one other a b =
    cut_redone procs h place ends logged cut chosen is_cut mode log same_procs same one a ∙ sym (cut_redone procs h place ends logged cut chosen is_cut mode log same_procs same other b)

pub one_recovery : OneRecovery
one_recovery log rows other agree a b =
    tables_one (redo_contents log.declarations.procs (map content_of b.order) empty_db) rows other (subst (λ (db : Db). IsTablesOf db rows) (agree a.order b.order a.is_order b.is_order) a.tables) b.tables
