-- The row that is found is the one, and where none is found it comes.
use Rattle.std.proofs.Common.{◌≡◌, rules}
use Rattle.std.proofs.lemmas.List.Sorted.{answers_always}
use Rattle.tau_model.specs.Tables.{row_key}
use Rattle.tau_follow.proofs.Renewing.{gap_found, key_found}
use Rattle.tau_follow.proofs.renew.seek.Goals as goal

pub returns-in-Ok-clause-there : goal.returns-in-Ok-clause-there
returns-in-Ok-clause-there c = key_found c.args.rows.now c.args.key c.in-Ok.place c.in-Ok.ensures.bound (c.in-Ok.ensures.position row_key (answers_always _ (λ a r. r ≡ row_key a.0.now) _ (λ f a r f' k. search rules)))

pub returns-in-Err-clause-gap : goal.returns-in-Err-clause-gap
returns-in-Err-clause-gap c = λ up. gap_found c.args.rows.now c.args.key c.in-Err.place c.in-Err.ensures.bound up (c.in-Err.ensures.position row_key (answers_always _ (λ a r. r ≡ row_key a.0.now) _ (λ f a r f' k. search rules)))
