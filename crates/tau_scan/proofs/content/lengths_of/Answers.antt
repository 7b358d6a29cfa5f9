-- One more length.
use Rattle.std.proofs.Common.{ℕ, ◌≡◌, ◌-◌, ◌+◌, ◌++◌, List, length, map, take, replicate, refl, ap, subst, ◌∙◌, slice_set}
use Rattle.tau_scan.specs.Contents.{bytes_in}
use Rattle.tau_scan.proofs.Contents.{bytes_at, count_of}
use Rattle.tau_scan.proofs.Streams.{lengths_more}
use Rattle.tau_scan.proofs.content.lengths_of.Goals as goal

abbrev lengths_in : List (List ℕ) → ℕ → ℕ → List ℕ
lengths_in xs n j = map (λ (bytes : List ℕ). length bytes) (take j xs) ++ replicate (n - j) 0

pub loop-j-preserved : goal.loop-j-preserved
loop-j-preserved c =
    let here = bytes_at c.args.contents.now c.loop-j.j c.index-contents-j.result c.index-contents-j.result.bytes c.loop-j-test.true c.index-contents-j.is refl in
    let more = subst (λ (n : ℕ). slice_set (lengths_in (bytes_in c.args.contents.now) n c.loop-j.j) c.loop-j.j (length c.index-contents-j.result.bytes) ≡ lengths_in (bytes_in c.args.contents.now) n (c.loop-j.j + 1)) (count_of c.args.contents.now)
    (lengths_more (bytes_in c.args.contents.now) c.loop-j.j c.index-contents-j.result.bytes here) in
    c.set.ensures ∙ ap (λ (v : List ℕ). slice_set v c.loop-j.j c.len-length.result) c.loop-j.invariant
    ∙ ap (λ (k : ℕ). slice_set (lengths_in (bytes_in c.args.contents.now) (length c.args.contents.now) c.loop-j.j) c.loop-j.j k) c.len-length.ensures
    ∙ more
