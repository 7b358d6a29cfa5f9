-- A feed of records of calls, and anchors, is followed.
use Rattle.std.proofs.Common.{ℕ, ◌≤◌, ◌<◌, ◌≡◌, List, [], ◌++◌, length, take, Some, Ok, refl, sym, ap, subst, ◌∙◌, arith}
use Rattle.std.specs.Prelude.{slice_get}
use Rattle.std.proofs.lemmas.List.{length-append, take_all}
use Rattle.tau_base.proofs.Lists.{some_at}
use Rattle.tau_base.specs.Database.{Db}
use Rattle.tau_base.specs.declared.format.Format.{Format}
use Rattle.tau_model.specs.Store.{database}
use Rattle.tau_proc.specs.declared.proc.Proc.{Proc}
use Rattle.tau_record.specs.declared.entry.Placed.{Placed}
use Rattle.tau_scan.specs.Epochs.{marks_from, with_marks}
use Rattle.tau_scan.specs.Reading.{catalogue_in, declared_by}
use Rattle.tau_scan.specs.Taken.{Kept}
use Rattle.tau_text.specs.declared.load.Declarations.{Declarations}
use Rattle.tau_follow_laws.specs.Following.{Followed, with_read}
use Rattle.tau_follow_laws.specs.Feeding.{Piece, with_piece, HasFed}
use Rattle.tau_follow_laws.proofs.Order.{applies_is}
use Rattle.tau_follow.specs.declared.applier.Applier.{Applier}
use Rattle.tau_follow.specs.declared.reader.Reader.{Reader}
use Rattle.tau_follow.specs.declared.stage.Stage.{Stage}
use Rattle.tau_follow.specs.declared.state.State.{State}
use Rattle.tau_follow.specs.Applying.{ArePassed, AreSpots, redone_of}
use Rattle.tau_follow.specs.Feeding.{AreRead, AreLonger, IsReadOn, AreCallsAt}
use Rattle.tau_follow.specs.State.{IsAt, IsRedone, Stands, HasRead, HasRedone, IsSame}
use Rattle.tau_follow.proofs.Fed.{feeds_one}
use Rattle.tau_follow.proofs.ReadingOn.{same_marks, same_catalogue, read_calls}
use Rattle.tau_follow.proofs.Redoing.{take_front}
use Rattle.tau_follow.proofs.Spots.{spots_long}
use Rattle.tau_follow.specs.Holding.{HasApplied, IsTold}
use Rattle.tau_follow.specs.Waits.{AreKept}
use Rattle.std.specs.Global.{Vec}

-- what was redone before is as much of what is applied then
pub redone_before : (procs : List Proc) (s t : Followed) (news : List Kept) (done : ℕ) (db : Db) → t.order ≡ s.order ++ news → done ≤ length s.order → db ≡ redone_of procs (take done s.order) → (done ≤ length t.order) × (db ≡ redone_of procs (take done t.order))
redone_before procs s t news done db is le store =
    let long = ap length is ∙ length-append s.order news in
    (omega (arith, le, long), store ∙ sym (ap (redone_of procs) (ap (take done) is ∙ take_front s.order news done le)))

-- all that is applied is redone
pub all_there : (streams : List (List Placed)) (s : Followed) (a : Applier) (done : ℕ) → HasApplied streams s a → done ≤ length s.order → done ≡ length a.order.items → take done s.order ≡ s.order
all_there streams s a done h le is =
    let now = h.now in
    let order = (applies_is s now h.news h.applies).2 in
    let long = ap length order ∙ length-append s.order h.news in
    let holds = h.holds in
    let spots = spots_long now.streams a.order.items now.order holds.spots in
    take_all done s.order (omega (arith, le, is, long, spots))

-- the stream is read on from the records that were read
pub reads_on : (j count : ℕ) (old streams now : List (List Placed)) (readers by : List Reader) → j < length streams → j < length readers → AreLonger j streams readers now by → ((ps : List Placed) → slice_get streams j ≡ Some ps → count ≡ length ps) → streams ≡ old → IsReadOn j count old now
reads_on j count old streams now readers by low high l counted same =
    let ps = some_at streams j low in
    let r = some_at readers j high in
    let longer = (l.longer ps.0 r.0 ps.1 r.1).records in
    record {
      before = ps.0;
      news = longer.0;
      there = ap (λ (xs : List (List Placed)). slice_get xs j) (sym same) ∙ ps.1;
      count_is = counted ps.0 ps.1;
      streams_are = l.streams_are ∙ ap (λ (xs : List (List Placed)). set_at xs l.records) same ∙ ap (set_at old) longer.1;
    }
  where
    set_at : List (List Placed) → List Placed → List (List Placed)
    set_at xs qs = Rattle.std.proofs.Common.set xs j qs

pub stands_kept : (s : Followed) (a b : Applier) → Stands s a → b.stages.items ≡ a.stages.items → (ArePassed a.stages.items a.firsts.items → ArePassed a.stages.items b.firsts.items) → b.order ≡ a.order → (AreKept s.streams a.stages.items a.waits → AreKept s.streams a.stages.items b.waits) → (IsTold s.streams a → IsTold s.streams b) → Stands s b
stands_kept s a b h stages passed order keeps tells = record {
  staged = record { stages_are = stages ∙ h.staged.stages_are; passed = subst (λ (l : List (List Stage)). ArePassed l b.firsts.items) (sym stages) (passed h.staged.passed); kept = subst (λ (l : List (List Stage)). AreKept s.streams l b.waits) (sym stages) (keeps h.staged.kept) };
  spots = subst (λ v. AreSpots s.streams v.items s.order) (sym order) h.spots;
  told = tells h.told;
}

pub at_calls : (f : Format) (n : ℕ) (fed : List (List ℕ)) (s : Followed) (p : Piece) (w v : State) (j count : ℕ) → HasRead f n fed s p w → IsReadOn j count s.streams w.streams.items → AreCallsAt j count w.streams.items → IsSame w v → HasRedone (with_read s w.streams.items) v →
    (t : Followed) × HasFed f (with_piece fed p) s t × IsAt f n (with_piece fed p) t v
at_calls f n fed s p w v j count h on calls same redone =
    let streams : List (List Placed) = w.streams.items in
    let done = redone.followed.done in
    let t : Followed = done.now in
    let has : HasFed f (with_piece fed p) s t = record {
      streams = streams;
      read = read_calls f n fed s p streams h.follower h.read.fronts j count on calls h.catalogue h.one;
      news = done.news;
      applies = done.applies;
      through = redone.followed.through;
    } in
    let t_streams : t.streams ≡ streams = (applies_is (with_read s streams) t done.news done.applies).0 in
    let k = h.knows in
    let declared : v.declarations ≡ declared_by h.catalogue = same.declarations ∙ k.declarations in (
      t,
      has,
      record {
        read = subst (λ (x : Vec (List Placed)). AreRead f n (with_piece fed p) x.items v.readers.items) (sym same.streams) (subst (λ (x : Vec Reader). AreRead f n (with_piece fed p) w.streams.items x.items) (sym same.readers) h.read);
        bytes = h.bytes;
        follower = feeds_one f n fed s t p h.follower has;
        catalogue = h.catalogue;
        one = ap catalogue_in t_streams ∙ same_catalogue f n fed s p streams h.follower h.read.fronts j count on calls ∙ h.one;
        knows = record {
          known = same.known ∙ k.known ∙ ap (with_marks []) (sym (ap marks_from t_streams ∙ same_marks f n fed s p streams h.follower h.read.fronts j count on calls));
          declarations = declared;
        };
        stands = record { staged = done.holds.staged; spots = done.holds.spots; told = subst (λ (l : List (List Placed)). IsTold l v.applier) done.holds.streams_are redone.told };
        redone = subst (λ (d : Declarations). IsRedone d.procs t v.done (database v.store) v.tables) declared redone.redone;
      },
    )
