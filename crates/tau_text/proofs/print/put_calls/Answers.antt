use Rattle.std.proofs.Common.{◌≡◌, ◌<◌, ◌+◌, ◌++◌, ◌∷◌, [], ℕ, List, length, take, ap, ◌∙◌}
use Rattle.std.specs.List.{flat_map}
use Rattle.std.proofs.lemmas.Grind.{flat_map-append}
use Rattle.std.proofs.lemmas.List.{append-nil, append_assoc, take_more}
use Rattle.std.proofs.lemmas.Option.{slice_get_within, get_or_from_slice_get}
use Rattle.tau_base.specs.declared.value.Call.{Call}
use Rattle.tau_text.specs.Canonical.{call_text}
use Rattle.tau_text.proofs.print.put_calls.Goals as goal

pub loop-i-preserved : goal.loop-i-preserved
loop-i-preserved c =
    let xs : List Call = c.args.calls.now in
    let i : ℕ = c.loop-i.i in
    let x : Call = c.put_into.new.place in
    let f : Call → List ℕ = call_text c.args.d.now in
    let lt : i < length xs = slice_get_within xs i x c.put_into.ensures in
    let more : take (i + 1) xs ≡ take i xs ++ x ∷ [] =
    take_more xs i x lt ∙ ap (λ (y : Call). take i xs ++ y ∷ []) (get_or_from_slice_get xs i x x c.put_into.ensures) in
    let text : flat_map f (take (i + 1) xs) ≡ flat_map f (take i xs) ++ f x =
    rw (more, flat_map-append f (take i xs) (x ∷ [])) (ap (λ (y : List ℕ). flat_map f (take i xs) ++ y) (append-nil (f x))) in
    let told : c.put_call.new.out.items ≡ c.loop-i.out.items ++ f x = c.in_ok-put_call.ensures in
    rw (text, told, c.loop-i.invariant) (append_assoc c.args.out.now.items (flat_map f (take i xs)) (f x))
