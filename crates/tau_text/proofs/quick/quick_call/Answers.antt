-- The first word, and then what is read of the words after it.
use Rattle.std.proofs.Common.{ℕ, List, Bor, IsTrue, refl, arith}
use Rattle.std.specs.Prelude.{codes}
use Rattle.tau_base.specs.declared.value.Call.{Call}
use Rattle.tau_proc.specs.declared.proc.Proc.{Proc}
use Rattle.tau_proc.specs.Takes.{takes}
use Rattle.tau_text.specs.declared.heads.Head.TheVariants as heads
use Rattle.tau_text.specs.Called.{called}
use Rattle.tau_text.specs.Quick.{IsRead, IsCallLine}
use Rattle.tau_text.proofs.OnePass.{some_line, line_is, call_head, add_head, put_head, get_head, del_head}
use Rattle.tau_text.proofs.quick.quick_call.Goals as goal

pub returns-in-Some-clause-read : goal.returns-in-Some-clause-read
returns-in-Some-clause-read c =
    let call : Call = c.quick_declared.new.call in
    let after = c.in-Some.rest.now in
    some_line (λ (r : Bor (List ℕ)). (ts : List (List ℕ)) → IsRead (called ts c.args.procs.now heads.Call) after call r.now) (λ (r : Bor (List ℕ)). IsCallLine c.args.tables.now c.args.procs.now c.args.text.now call r.now) c.quick_declared.result
    (λ r q. line_is c.args.tables.now c.args.procs.now c.args.text.now (codes "call") after call r.now heads.Call c.in-Some.ensures (record { bytes = refl; some = omega arith }) refl call_head (q c.args.tables.now)) c.quick_declared.ensures.read

pub returns-in-Some-behind_word-clause-read : goal.returns-in-Some-behind_word-clause-read
returns-in-Some-behind_word-clause-read c =
    let call : Call = c.quick_add.new.call in
    let after = c.in-Some-behind_word.rest.now in
    some_line (λ (r : Bor (List ℕ)). (ps : List Proc) → IsRead (called c.args.tables.now ps heads.Add) after call r.now) (λ (r : Bor (List ℕ)). IsCallLine c.args.tables.now c.args.procs.now c.args.text.now call r.now) c.quick_add.result
    (λ r q. line_is c.args.tables.now c.args.procs.now c.args.text.now (codes "add") after call r.now heads.Add c.in-Some-behind_word.ensures (record { bytes = refl; some = omega arith }) refl add_head (q c.args.procs.now)) c.quick_add.ensures.read

pub returns-in-Some-behind_word-clause-taken : goal.returns-in-Some-behind_word-clause-taken
returns-in-Some-behind_word-clause-taken c =
    let call : Call = c.quick_add.new.call in
    some_line (λ (_ : Bor (List ℕ)). (ps : List Proc) → IsTrue (takes ps call)) (λ (_ : Bor (List ℕ)). IsTrue (takes c.args.procs.now call)) c.quick_add.result (λ r q. q c.args.procs.now) c.quick_add.ensures.taken

pub returns-in-Some-behind_word-2-clause-read : goal.returns-in-Some-behind_word-2-clause-read
returns-in-Some-behind_word-2-clause-read c =
    let call : Call = c.quick_put.new.call in
    let after = c.in-Some-behind_word-2.rest.now in
    some_line (λ (r : Bor (List ℕ)). (ps : List Proc) → IsRead (called c.args.tables.now ps heads.Put) after call r.now) (λ (r : Bor (List ℕ)). IsCallLine c.args.tables.now c.args.procs.now c.args.text.now call r.now) c.quick_put.result
    (λ r q. line_is c.args.tables.now c.args.procs.now c.args.text.now (codes "put") after call r.now heads.Put c.in-Some-behind_word-2.ensures (record { bytes = refl; some = omega arith }) refl put_head (q c.args.procs.now)) c.quick_put.ensures.read

pub returns-in-Some-behind_word-2-clause-taken : goal.returns-in-Some-behind_word-2-clause-taken
returns-in-Some-behind_word-2-clause-taken c =
    let call : Call = c.quick_put.new.call in
    some_line (λ (_ : Bor (List ℕ)). (ps : List Proc) → IsTrue (takes ps call)) (λ (_ : Bor (List ℕ)). IsTrue (takes c.args.procs.now call)) c.quick_put.result (λ r q. q c.args.procs.now) c.quick_put.ensures.taken

pub returns-in-Some-behind_word-3-clause-read : goal.returns-in-Some-behind_word-3-clause-read
returns-in-Some-behind_word-3-clause-read c =
    let call : Call = c.quick_get.new.call in
    let after = c.in-Some-behind_word-3.rest.now in
    some_line (λ (r : Bor (List ℕ)). (ps : List Proc) → IsRead (called c.args.tables.now ps heads.Get) after call r.now) (λ (r : Bor (List ℕ)). IsCallLine c.args.tables.now c.args.procs.now c.args.text.now call r.now) c.quick_get.result
    (λ r q. line_is c.args.tables.now c.args.procs.now c.args.text.now (codes "get") after call r.now heads.Get c.in-Some-behind_word-3.ensures (record { bytes = refl; some = omega arith }) refl get_head (q c.args.procs.now)) c.quick_get.ensures.read

pub returns-in-Some-behind_word-3-clause-taken : goal.returns-in-Some-behind_word-3-clause-taken
returns-in-Some-behind_word-3-clause-taken c =
    let call : Call = c.quick_get.new.call in
    some_line (λ (_ : Bor (List ℕ)). (ps : List Proc) → IsTrue (takes ps call)) (λ (_ : Bor (List ℕ)). IsTrue (takes c.args.procs.now call)) c.quick_get.result (λ r q. q c.args.procs.now) c.quick_get.ensures.taken

pub returns-in-Some-behind_word-4-clause-read : goal.returns-in-Some-behind_word-4-clause-read
returns-in-Some-behind_word-4-clause-read c =
    let call : Call = c.quick_del.new.call in
    let after = c.in-Some-behind_word-4.rest.now in
    some_line (λ (r : Bor (List ℕ)). (ps : List Proc) → IsRead (called c.args.tables.now ps heads.Del) after call r.now) (λ (r : Bor (List ℕ)). IsCallLine c.args.tables.now c.args.procs.now c.args.text.now call r.now) c.quick_del.result
    (λ r q. line_is c.args.tables.now c.args.procs.now c.args.text.now (codes "del") after call r.now heads.Del c.in-Some-behind_word-4.ensures (record { bytes = refl; some = omega arith }) refl del_head (q c.args.procs.now)) c.quick_del.ensures.read

pub returns-in-Some-behind_word-4-clause-taken : goal.returns-in-Some-behind_word-4-clause-taken
returns-in-Some-behind_word-4-clause-taken c =
    let call : Call = c.quick_del.new.call in
    some_line (λ (_ : Bor (List ℕ)). (ps : List Proc) → IsTrue (takes ps call)) (λ (_ : Bor (List ℕ)). IsTrue (takes c.args.procs.now call)) c.quick_del.result (λ r q. q c.args.procs.now) c.quick_del.ensures.taken
