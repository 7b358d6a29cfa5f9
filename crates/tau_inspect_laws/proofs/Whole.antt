-- Images that each have the whole content of their stream.
use Rattle.std.proofs.Common.{ℕ, ◌<◌, ◌≡◌, List, [], length, sym, ap, ◌∙◌, arith, Result, Ok}
use Rattle.std.specs.Prelude.{Some, slice_get, slice_index, slice_index_or}
use Rattle.tau_base.specs.declared.format.Format.{Format}
use Rattle.tau_base.specs.declared.value.LogMode.{LogMode}
use Rattle.tau_base.specs.Modes.{format_of}
use Rattle.tau_base.proofs.Lists.{length_mapped, same_list, some_at, got_or}
use Rattle.tau_block.specs.Image.{HasContent, image_of}
use Rattle.tau_text.specs.declared.load.Workload.{Workload}
use Rattle.tau_scan.specs.declared.fault.LogFault.{LogFault}
use Rattle.tau_scan.specs.declared.log.Log.{Log}
use Rattle.tau_scan.specs.Reading.{opened, contents_of}
use Rattle.tau_run.specs.Run.{Run, ends}
use Rattle.tau_run.proofs.Each.{image_opened}
use Rattle.tau_inspect_laws.specs.Laws.{IsLogOfRun, WholeIsLong}
use Rattle.tau_inspect_laws.proofs.Fitting.{contents_wide, elv_wide, held}
use Rattle.tau_inspect_laws.proofs.Ordering.{index_is}
use Rattle.tau_inspect_laws.proofs.Unmarked.{each_at}

pub image_read : (f : Format) (images contents : List (List ℕ)) → contents_of f images ≡ Ok contents → (j : ℕ) (content : List ℕ) → slice_get contents j ≡ Some content →
    (image : List ℕ) × (slice_get images j ≡ Some image) × (opened f (length images) j (image_of j image) ≡ Ok content)
unfolding contents_of
image_read f images contents e j content got = each_at (λ i image. opened f (length images) i (image_of i image)) 0 images contents e j j content (omega arith) got

pub one_is : (x y : List ℕ) → ◌≡◌ {A = Result (List ℕ) LogFault} (Ok x) (Ok y) → x ≡ y
one_is x y e = cc e

module _ (n m : ℕ) (mode : LogMode) (load : Workload) (run : Run) (images : List (List ℕ)) (log : Log) (o : IsLogOfRun n m mode load run images log)
    (has : (j : ℕ) (image : List ℕ) → slice_get images j ≡ Some image → HasContent (format_of mode) n j (slice_index_or run.contents j []) image) where
  abbrev whole : ℕ → List ℕ
  whole j = slice_index_or run.contents j []

  same_content : (j : ℕ) → j < n → slice_index_or o.recovered.contents j [] ≡ whole j
  same_content j lt =
      let wide = contents_wide n m mode load run images log [] o in
      let x = some_at o.recovered.contents j (omega (arith, wide, lt)) in
      let r = image_read (format_of mode) images o.recovered.contents o.recovered.have j x.0 x.1 in
      let opens : opened (format_of mode) (length images) j (image_of j r.0) ≡ Ok (whole j) =
      ap (λ (k : ℕ). opened (format_of mode) k j (image_of j r.0)) o.count ∙ image_opened (format_of mode) n j r.0 (whole j) (has j r.0 r.1) in
      got_or o.recovered.contents j x.0 [] x.1 ∙ one_is x.0 (whole j) (sym r.2 ∙ opens)

  wide : length log.elv ≡ length (ends run)
  wide = elv_wide n m mode load run images log [] o ∙ sym o.history.streams ∙ sym (length_mapped length run.contents)

  same_lengths : log.elv ≡ ends run
  same_lengths = same_list log.elv (ends run) wide (λ j lt.
      let h = held n m mode load run images log [] o in
      let low : j < n = (let e = elv_wide n m mode load run images log [] o in omega (arith, e, lt)) in
      ap (λ (v : List ℕ). slice_index v j) h.elv ∙ index_is o.recovered.contents j ∙ ap length (same_content j low) ∙ sym (index_is run.contents j))

pub whole_is_long : WholeIsLong
whole_is_long n m mode load run images log o has = same_lengths n m mode load run images log o has
