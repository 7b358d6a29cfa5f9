use Rattle.std.proofs.Common.{◌≡◌, ◌-◌, ◌∷◌, [], true, length, take, drop, bytes_eq, arith}
use Rattle.std.proofs.lemmas.Grind.{common_steps}
use Rattle.std.specs.List.{list_all}
use Rattle.tau_text.specs.Spelled.{is_text_byte}
use Rattle.tau_text.proofs.Names.{unquoted_is, unquoted_none}
use Rattle.tau_text.proofs.spelled.unquoted.Goals as goal

pub returns-in-Ok : goal.returns-in-Ok
returns-in-Ok c =
    let bs = c.args.bytes.now in
    let before = c.split_at.result.0.now in
    let back = c.split_at.result.1.now in
    let e : before ≡ take (length bs - 1) bs = grind (arith, common_steps) in
    let f : back ≡ drop (length bs - 1) bs = grind (arith, common_steps) in
    let g : bytes_eq back (34 ∷ []) ≡ true = grind (arith, common_steps) in
    let h : list_all is_text_byte before ≡ true = grind (arith, common_steps) in
    rw c.in-Ok.ensures.cases.0 (unquoted_is bs before back e f g h c.in-Ok.ensures.cases.1)

pub returns-in-Err : goal.returns-in-Err
returns-in-Err c =
    let bs = c.args.bytes.now in
    let before = c.split_at.result.0.now in
    let back = c.split_at.result.1.now in
    let e : before ≡ take (length bs - 1) bs = grind (arith, common_steps) in
    let f : back ≡ drop (length bs - 1) bs = grind (arith, common_steps) in
    let g : bytes_eq back (34 ∷ []) ≡ true = grind (arith, common_steps) in
    let h : list_all is_text_byte before ≡ true = grind (arith, common_steps) in
    unquoted_none bs before back e f g h c.in-Err.ensures.cases.0
