use Rattle.std.proofs.Common.{ℕ, [], ◌∷◌, ◌≡◌, ◌≤◌, ◌+◌, List, reverse, length, sym, subst, ap, ◌∙◌, arith}
use Rattle.std.proofs.lemmas.List.{reverse-append, length-append}
use Rattle.tau_block.specs.declared.content.Content.{Content}
use Rattle.tau_block.specs.Image.{IsBody}
use Rattle.tau_scan.specs.Given.{given_after}
use Rattle.tau_open.specs.declared.start.StreamStart.{StreamStart}
use Rattle.tau_begin.specs.Starts.{IsStartOf}
use Rattle.tau_begin.proofs.Starting.{next_left, started_more}
use Rattle.tau_begin.proofs.starts.starts_of.Goals as goal

pub start_of-requires-clause-content : goal.start_of-requires-clause-content
start_of-requires-clause-content c =
    let is = ap (λ (xs : List Content). reverse xs) c.in-Some.ensures.items ∙ reverse-append c.pop.new.self.items (c.in-Some.content ∷ []) in
    c.requires.contents c.loop-j.j c.in-Some.content (next_left c.args.contents.items c.loop-j.left.items c.pop.new.self.items c.in-Some.content c.loop-j.j c.loop-j.invariant.2 is).0

pub start_of-requires-clause-body : goal.start_of-requires-clause-body
start_of-requires-clause-body c =
    let is = ap (λ (xs : List Content). reverse xs) c.in-Some.ensures.items ∙ reverse-append c.pop.new.self.items (c.in-Some.content ∷ []) in
    let at = (next_left c.args.contents.items c.loop-j.left.items c.pop.new.self.items c.in-Some.content c.loop-j.j c.loop-j.invariant.2 is).0 in
    subst (λ (xs : List ℕ). IsBody xs × (5 ≤ length xs)) (sym c.of.ensures)
    (c.in_ok-body.ensures.body (λ none. ap (λ (xs : List ℕ). length xs) (c.as_slice.ensures ∙ c.requires.fresh none c.loop-j.j c.in-Some.content at)))

pub loop-j-preserved : goal.loop-j-preserved
loop-j-preserved c =
    let is = ap (λ (xs : List Content). reverse xs) c.in-Some.ensures.items ∙ reverse-append c.pop.new.self.items (c.in-Some.content ∷ []) in
    let next = next_left c.args.contents.items c.loop-j.left.items c.pop.new.self.items c.in-Some.content c.loop-j.j c.loop-j.invariant.2 is in
    let many : c.len-n.result ≡ length c.args.contents.items = omega (arith, c.len-n.ensures, c.args.contents.ok.0) in
    let given : c.in_ok-start.start.body ≡ given_after c.args.text.now c.args.epoch c.args.elv.now c.in-Some.content.bytes =
    c.in_ok-start.ensures.body ∙ c.of.ensures ∙ c.in_ok-body.ensures.is ∙ ap (λ (xs : List ℕ). given_after c.args.text.now c.args.epoch c.args.elv.now xs) c.as_slice.ensures in (
      started_more c.args.format c.args.text.now c.args.epoch c.args.elv.now c.args.contents.items c.loop-j.starts.items c.push.new.self.items c.loop-j.j c.in-Some.content c.in_ok-start.start c.loop-j.invariant.0 c.loop-j.invariant.1 next.0 c.in_ok-push.ensures.items
          (subst (λ (n : ℕ). IsStartOf c.args.format n c.loop-j.j c.args.text.now c.args.epoch c.args.elv.now c.in-Some.content c.in_ok-start.start) many (record {
            format = c.in_ok-start.ensures.format;
            names = c.in_ok-start.ensures.names;
            content = c.in_ok-start.ensures.content;
            body = given;
            sound = c.in_ok-start.ensures.sound;
          })),
      ap (λ (xs : List StreamStart). length xs) c.in_ok-push.ensures.items ∙ length-append c.loop-j.starts.items (c.in_ok-start.start ∷ []) ∙ ap (λ (k : ℕ). k + 1) c.loop-j.invariant.1,
      next.1,
      omega (arith, c.in-Some.ensures.len, c.loop-j.invariant.3),
    )
