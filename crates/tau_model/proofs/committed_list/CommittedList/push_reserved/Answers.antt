use Rattle.std.proofs.Common.{◌≡◌, ◌-◌, ◌++◌, ◌∷◌, [], ◌∙◌, sym}
use Rattle.tau_model.specs.Committed.{lv_at}
use Rattle.tau_model.specs.KeptCommitted.{call_of, calls_of, reply_of, texts_in}
use Rattle.tau_model.proofs.KeptCalls.{calls_put}
use Rattle.tau_model.proofs.committed_list.CommittedList.push_reserved.Goals as goal

pub returns-clause-items : goal.returns-clause-items
returns-clause-items c =
    let hs = c.self.inside.heads.items in
    let ts = c.self.inside.texts.items in
    let ds = c.self.inside.deps.items in
    let more = texts_in c.args.reply.now in
    let said : reply_of (ts ++ more) c.head_of.result.reply ≡ c.args.reply.now = (λ i. reply_of (sym c.keep_reply-reply.ensures.texts i) (c.head_of.ensures.reply i)) ∙ c.keep_reply-reply.ensures.kept in
    let last : call_of (ts ++ more) c.head_of.result c.args.dep.now ≡ record { number = c.args.number; reply = c.args.reply.now; dep = c.args.dep.now; lv = lv_at c.args.dep.now c.args.spot; spot = c.args.spot } =
    λ i. record { number = c.head_of.ensures.number i; reply = said i; dep = c.args.dep.now; lv = lv_at c.args.dep.now (c.head_of.ensures.spot i); spot = c.head_of.ensures.spot i } in
    (λ i. calls_of (c.keep_reply-reply.ensures.texts i) (c.push_reserved.ensures.items i) (c.push_reserved-2.ensures i).items)
    ∙ calls_put ts more hs ds c.head_of.result c.args.dep.now c.self.invariant.same c.self.invariant.replies
    ∙ (λ i. (c.self.view_is i).items ++ last i ∷ [])

pub returns-clause-room : goal.returns-clause-room
returns-clause-room c = λ i. (c.self.view_is i).room - 1
