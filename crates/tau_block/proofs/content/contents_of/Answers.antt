use Rattle.std.proofs.Common.{◌≡◌, ℕ, List, take, Some, Ok, refl, sym, subst, arith}
use Rattle.tau_block.specs.Image.{IsLog, image_of}
use Rattle.tau_block.proofs.Walks.{opened_log, opened_image}
use Rattle.tau_block.proofs.content.contents_of.Goals as goal

pub returns-clause-ok : goal.returns-clause-ok
returns-clause-ok c =
    let image = c.args.image.now in
    subst (λ (l : List ℕ). image_of c.args.j image ≡ Ok (record { format = Some c.format_of_header-format.result; count = Some c.in_ok-count.count; bytes = l })) (sym c.of.ensures)
    (opened_image c.args.j c.format_of_header-format.result c.in_ok-count.count image (take 16 image) c.in_ok-bytes.bytes.items c.in_ok-bytes.gate_at refl c.in_ok-count.ensures.ok.0 c.format_of_header-format.ensures c.in_ok-count.ensures.ok.1 c.in_ok-bytes.ensures.walked c.in_ok-bytes.ensures.shut (omega arith))

pub returns-clause-gate : goal.returns-clause-gate
returns-clause-gate c =
    let image = c.args.image.now in
    subst (λ (l : List ℕ). IsLog c.format_of_header-format.result c.in_ok-count.count c.args.j image c.in_ok-bytes.gate_at l) (sym c.of.ensures)
    (opened_log c.args.j c.format_of_header-format.result c.in_ok-count.count image (take 16 image) c.in_ok-bytes.bytes.items c.in_ok-bytes.gate_at refl c.in_ok-count.ensures.ok.0 c.format_of_header-format.ensures c.in_ok-count.ensures.ok.1 c.in_ok-bytes.ensures.walked c.in_ok-bytes.ensures.shut (omega arith))
