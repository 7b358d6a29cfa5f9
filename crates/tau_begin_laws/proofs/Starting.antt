-- A run that was opened begins as a run may begin.
use Rattle.std.proofs.Common.{ℕ, ◌+◌, Bool, true, false, ◌≡◌, ◌⊎◌, inl, inr, List, [], map, length, Option, Some, Ok, refl, sym, ap, subst, ◌∙◌, arith}
use Rattle.std.specs.List.{AllZip}
use Rattle.std.specs.Prelude.{if◌then◌else◌}
use Rattle.tau_base.specs.declared.format.Format.{Format}
use Rattle.tau_base.proofs.Lists.{got_or, length_mapped}
use Rattle.tau_block.specs.declared.content.Content.{Content}
use Rattle.tau_scan.proofs.Streams.{map_get}
use Rattle.tau_disk.specs.declared.disk.Disk.{Ghosts}
use Rattle.tau_epoch.specs.Epochs.{largest}
use Rattle.tau_text.specs.declared.load.Workload.{Workload}
use Rattle.tau_text.specs.Canonical.{declarations_text}
use Rattle.tau_scan.specs.Begins.{declared_fault, long_fault, last_fault}
use Rattle.tau_scan.specs.Contents.{bytes_in, IsLogOf}
use Rattle.tau_scan.specs.Epochs.{marks_of}
use Rattle.tau_scan.specs.Reading.{catalogue_of, catalogue_in, or_else, IsReading}
use Rattle.tau_open.specs.declared.start.StreamStart.{StreamStart}
use Rattle.tau_epoch_laws.specs.Continues.{none_in}
use Rattle.tau_epoch_laws.proofs.Contents.{Holds, holds, catalogue_ok}
use Rattle.tau_run.specs.Start.{given_first}
use Rattle.tau_begin.specs.Given.{all_empty, next_epoch}
use Rattle.tau_begin.specs.Opened.{IsBegun}
use Rattle.tau_begin_laws.specs.Laws.{start_on, IsOpened}
use Rattle.tau_begin_laws.proofs.Catalogues.{no_fault, declares}
use Rattle.tau_begin_laws.proofs.Empty.{nothing_read, nothing_held}
use Rattle.tau_begin_laws.proofs.Ends.{ends_are}

module _ {D : Type 0} (G : Ghosts D) (f : Format) (load : Workload) (disks : List D) (sizes : List ℕ) (starts : List StreamStart) (b : IsBegun G f (declarations_text load.declarations) disks sizes starts) where
  abbrev Declared : Type 0
  Declared = none_in b.log.streams ⊎ (catalogue_in b.log.streams ≡ Ok (Some (declarations_text load.declarations)))

  abbrev IsNext : ℕ → Type 0
  IsNext epoch = (none_in b.log.streams × (epoch ≡ 0)) ⊎ ((none_in b.log.streams → ⊥) × (epoch ≡ largest (marks_of b.log) + 1))

  log_is : IsLogOf f b.contents b.log
  log_is = subst (λ (g : Format). IsLogOf g b.contents b.log) (b.read.contents_are.as_asked f refl) b.read.contents_are.log_of_them

  held : Holds (bytes_in b.contents) b.log
  held = holds f (bytes_in b.contents) b.log log_is.whole

  catalogue_is : (c : Option (List ℕ)) → catalogue_in b.log.streams ≡ Ok c → none_in b.log.streams ⊎ (c ≡ Some (declarations_text load.declarations))
  unfolding catalogue_in
  catalogue_is c e =
      let fits = no_fault (declared_fault (declarations_text load.declarations) 0 b.log.streams) (or_else (long_fault 0 sizes b.log.streams) (last_fault b.log.streams)) b.begins.fits in
      elim (declares (declarations_text load.declarations) 0 (bytes_in b.contents) b.log.streams held.streams fits.0) [
        | inl none ↦ inl none
        | inr there ↦ inr (catalogue_ok 0 (map catalogue_of b.log.streams) c e (declarations_text load.declarations) there)
      ]

  declared : Declared
  declared = elim (catalogue_is held.catalogue.0 held.catalogue.1) [
    | inl none ↦ inl none
    | inr is ↦ inr (held.catalogue.1 ∙ ap (λ (c : Option (List ℕ)). Ok c) is)
  ]

  next_is : IsNext (next_epoch (bytes_in b.contents) b.log)
  next_is = by_bytes (all_empty (bytes_in b.contents)) refl
    where
      by_bytes : (some : Bool) → all_empty (bytes_in b.contents) ≡ some → IsNext (if some then 0 else largest (marks_of b.log) + 1)
      by_bytes true is = inl (nothing_read (bytes_in b.contents) b.log.streams held.streams is, refl)
      by_bytes false is = inr (λ none. absurd (let e : false ≡ true = sym is ∙ nothing_held (bytes_in b.contents) b.log.streams held.streams none in cc e), refl)

  pub opened : IsOpened f (length disks) load b.contents b.log starts b.opening
  opened =
      let rows = b.begins.rows in
      let many = b.read.contents_are.many in
      record {
        order = rows.order;
        starts = record {
          count = length_mapped (λ c. c.bytes) b.contents ∙ many;
          reads = log_is.whole;
          read = subst (λ (n : ℕ). AllZip (IsReading f n) (bytes_in b.contents) b.log.streams) many log_is.read;
          redone = (rows.order, rows.is_order, refl);
          declared = declared;
          epoch = next_is;
          small = (let small = b.begins.small in omega (arith, small));
          places = b.begins.places;
        };
        opening = record {
          rows = rows.tables.values;
          floor = b.begins.opening.floor;
          ends = b.begins.opening.ends ∙ ends_are load (start_on b.contents b.log rows.order) b.contents starts b.begins.starts_are.many (λ j p at. let s = b.begins.starts_are.each j p at in (s.0, s.1, (s.2.content, s.2.body)));
          anchors = b.begins.opening.anchors;
        };
        given = λ j p at.
            let s = b.begins.starts_are.each j p at in
            let held = got_or (bytes_in b.contents) j s.0.bytes [] (map_get (λ c. c.bytes) b.contents j s.0 s.1) in
            let start = start_on b.contents b.log rows.order in
            (ap (λ (c : Content). c.bytes) s.2.content ∙ sym held, s.2.body ∙ ap (given_first load start) (sym held));
      }
