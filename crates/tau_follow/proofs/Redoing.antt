-- What is redone of the applied records.
use Rattle.std.proofs.Common.{ℕ, zero, suc, ◌≤◌, ◌≡◌, inl, inr, List, [], ◌∷◌, ◌++◌, length, take, Option, Ok, refl, sym, ap, subst, ◌∙◌, arith}
use Rattle.std.proofs.lemmas.List.{length-append, take_all}
use Rattle.tau_base.specs.Database.{Db, empty_db}
use Rattle.tau_proc.specs.declared.proc.Proc.{Proc}
use Rattle.tau_base.specs.declared.format.Format.{Format}
use Rattle.tau_base.specs.declared.value.Key.{Key}
use Rattle.tau_base.specs.declared.value.Value.{Value}
use Rattle.tau_model.specs.Store.{database}
use Rattle.tau_model.specs.Tables.{IsTablesOf}
use Rattle.tau_record.specs.declared.entry.Placed.{Placed}
use Rattle.tau_scan.specs.Reading.{catalogue_in, declared_by}
use Rattle.tau_scan.specs.Taken.{Kept}
use Rattle.tau_follow_laws.specs.Following.{Followed}
use Rattle.tau_follow_laws.specs.Feeding.{Piece, with_piece, HasFed}
use Rattle.tau_follow.specs.declared.spot.Spot.{Spot}
use Rattle.std.specs.Global.{Vec}
use Rattle.tau_follow.specs.declared.reader.Reader.{Reader}
use Rattle.tau_follow.specs.declared.state.State.{State}
use Rattle.tau_follow.specs.Applying.{redone_of, AreSpots}
use Rattle.tau_follow.specs.Feeding.{AreRead}
use Rattle.tau_follow.specs.State.{IsAt, IsRedone, Stands}
use Rattle.tau_follow.proofs.Fed.{Read}
use Rattle.tau_follow.proofs.Declared.{procs_on, order_then}
use Rattle.tau_follow.proofs.Spots.{spots_long}

pub take_front : (xs ys : List Kept) (k : ℕ) → k ≤ length xs → take k (xs ++ ys) ≡ take k xs
take_front xs ys zero le = refl
take_front [] ys (suc k) le = absurd (omega (arith, le))
take_front (x ∷ xs) ys (suc k) le = ap (λ (l : List Kept). x ∷ l) (take_front xs ys k (omega (arith, le)))

take_none : (k : ℕ) → take {A = Kept} k [] ≡ []
take_none zero = refl
take_none (suc k) = refl

-- the store of what was redone is that of as much of what is applied then
pub store_then : (f : Format) (n : ℕ) (fed : List (List ℕ)) (s t : Followed) (p : Piece) (streams : List (List Placed)) (c d : Option (List ℕ)) (done : ℕ) (db : Db) → Read f n fed s p streams → catalogue_in s.streams ≡ Ok c → catalogue_in streams ≡ Ok d → HasFed f (with_piece fed p) s t →
    done ≤ length s.order → db ≡ redone_of (declared_by c).procs (take done s.order) → (done ≤ length t.order) × (db ≡ redone_of (declared_by d).procs (take done t.order))
store_then f n fed s t p streams c d done db w e g h le store =
    let is = order_then f (with_piece fed p) s t h in
    let long = ap length is ∙ length-append s.order h.news in
    let front : take done t.order ≡ take done s.order = ap (take done) is ∙ take_front s.order h.news done le in (
      omega (arith, le, long),
      store ∙ (elim (procs_on f n fed s p streams c d w e g) [
        | inr same ↦ ap (λ (o : Option (List ℕ)). redone_of (declared_by o).procs (take done s.order)) same
        | inl none ↦ let empty : take done s.order ≡ [] = ap (take done) none ∙ take_none done in ap (redone_of (declared_by c).procs) empty ∙ sym (ap (redone_of (declared_by d).procs) empty)
      ]) ∙ ap (redone_of (declared_by d).procs) (sym front),
    )

-- all is redone, and the rows are those of the store
pub redone_all : (procs : List Proc) (t : Followed) (streams : List (List Placed)) (spots : List Spot) (done : ℕ) (db : Db) (rows : List (Key × Value)) → AreSpots streams spots t.order → done ≡ length spots → db ≡ redone_of procs t.order → IsTablesOf db rows →
    IsRedone procs t done db rows
redone_all procs t streams spots done db rows h long is listed =
    let l = spots_long streams spots t.order h in
    record {
      within = omega (arith, long, l);
      store = is ∙ ap (redone_of procs) (sym (take_all done t.order (omega (arith, long, l))));
      tables = subst (λ (x : Db). IsTablesOf x rows) is listed;
    }

-- nothing is redone
pub at_undone : (f : Format) (n : ℕ) (fed : List (List ℕ)) (s : Followed) (w v : State) → IsAt f n fed s w → AreRead f n fed v.streams.items v.readers.items → Stands s v.applier → v.known ≡ w.known → v.declarations ≡ w.declarations → v.tables ≡ w.tables → v.done ≡ 0 → database v.store ≡ empty_db → IsAt f n fed s v
at_undone f n fed s w v a read stands known declarations tables done store =
    let r = a.redone in
    let k = a.knows in
    record {
      read = read;
      bytes = a.bytes;
      follower = a.follower;
      catalogue = a.catalogue;
      one = a.one;
      knows = record { known = known ∙ k.known; declarations = declarations ∙ k.declarations };
      stands = stands;
      redone = record {
        within = omega (arith, done);
        store = store ∙ ap (λ (k : ℕ). redone_of (declared_by a.catalogue).procs (take k s.order)) (sym done);
        tables = subst (λ (x : List (Key × Value)). IsTablesOf (redone_of (declared_by a.catalogue).procs s.order) x) (sym tables) r.tables;
      };
    }

-- the records came back
pub at_again : (f : Format) (n : ℕ) (fed : List (List ℕ)) (s : Followed) (w v : State) → IsAt f n fed s w → v.streams.items ≡ w.streams.items → v.readers ≡ w.readers → v.applier ≡ w.applier → v.known ≡ w.known → v.declarations ≡ w.declarations → v.store ≡ w.store → v.done ≡ w.done → v.tables ≡ w.tables → IsAt f n fed s v
at_again f n fed s w v a streams readers applier known declarations store done tables =
    let r = a.redone in
    record {
      read = subst (λ (l : List (List Placed)). AreRead f n fed l v.readers.items) (sym streams) (subst (λ (l : Vec Reader). AreRead f n fed w.streams.items l.items) (sym readers) a.read);
      bytes = a.bytes;
      follower = a.follower;
      catalogue = a.catalogue;
      one = a.one;
      knows = (let k = a.knows in record { known = known ∙ k.known; declarations = declarations ∙ k.declarations });
      stands = subst (Stands s) (sym applier) a.stands;
      redone = record {
        within = subst (λ (k : ℕ). k ≤ length s.order) (sym done) r.within;
        store = ap database store ∙ r.store ∙ ap (λ (k : ℕ). redone_of (declared_by a.catalogue).procs (take k s.order)) (sym done);
        tables = subst (λ (x : List (Key × Value)). IsTablesOf (redone_of (declared_by a.catalogue).procs s.order) x) (sym tables) r.tables;
      };
    }
