use Rattle.std.proofs.Common.{rules, ◌++◌, ◌∷◌, ◌≡◌, ◌∙◌, [], ℕ, List, Option, length, refl, sym, ap, subst, append_assoc}
use Rattle.std.specs.Prelude.{Some, slice_index}
use Rattle.std.specs.Vec.Iter.{into_iter_items, into_iter_len}
use Rattle.std.proofs.lemmas.Iterator.Consumers.{YieldsList-turn}
use Rattle.std.proofs.lemmas.Iterator.Adapters.{YieldsList-from_vec}
use Rattle.std.proofs.lemmas.Option.{slice_get_read}
use Rattle.tau_rule.specs.declared.part.Part.{Part}
use Rattle.tau_desk.specs.Shares.{PlainStock}
use Rattle.tau_desk.specs.Laid.{EachOf, HasAnchor, IsFirstAnchor, IsItsStock, stock_at}
use Rattle.tau_desk.proofs.Slots.{each_more}
use Rattle.tau_desk.proofs.opens.lay_streams.Goals as goal

pub stock_of-requires : goal.stock_of-requires
stock_of-requires c =
    let items = c.args.streams.items in
    let all : into_iter_items c.into_iter-stream-iterator.result ≡ items = search rules in
    let size : into_iter_len c.into_iter-stream-iterator.result ≡ length items = search rules in
    let t = YieldsList-turn (YieldsList-from_vec items all size) c.loop-stream.yielded c.loop-stream.stream-iterator c.loop-stream.yielded_by c.next.result c.next.new.self c.in-Some.stream c.in-Some.is c.next.ensures.steps in
    c.requires.rest (length c.loop-stream.yielded) c.in-Some.stream (slice_get_read items (length items) (length c.loop-stream.yielded) c.in-Some.stream refl t.0 t.1)

pub loop-stream-preserved : goal.loop-stream-preserved
loop-stream-preserved c =
    let ends = c.args.ends.now in
    let i = c.loop-stream.invariant in
    let at : c.len.result ≡ length c.loop-stream.stocks.items = search rules in
    let end : c.position-end.result ≡ slice_index ends (length c.loop-stream.yielded) = c.position-end.ensures.same ∙ ap (slice_index ends) (at ∙ i.stocks.count) in
    let e = c.in_ok-put_anchor.ensures in
    let anchors = i.slots in
    record {
      slots = (
        anchors.0 ++ Some e.0 ∷ [],
        e.1 ∙ ap (λ (l : List (Option Part)). l ++ Some e.0 ∷ []) anchors.1 ∙ append_assoc c.args.slots.now.items anchors.0 (Some e.0 ∷ []),
        each_more (HasAnchor (length ends)) c.loop-stream.yielded anchors.0 c.in-Some.stream (Some e.0) anchors.2 (e.0, refl, subst (λ (n : ℕ). IsFirstAnchor n e.0) c.width.ensures.same e.2),
      );
      stocks = subst (λ (ys : List (Option PlainStock)). EachOf (IsItsStock ends) (c.loop-stream.yielded ++ c.in-Some.stream ∷ []) ys) (sym c.in_ok-push.ensures.items)
          (each_more (IsItsStock ends) c.loop-stream.yielded c.loop-stream.stocks.items c.in-Some.stream (Some c.stock_of.result) i.stocks
          (c.stock_of.ensures.0, ap (λ (o : PlainStock). Some o) c.stock_of.ensures.1 ∙ ap (λ (n : ℕ). Some (stock_at c.in-Some.stream n c.stock_of.ensures.0)) end));
    }
