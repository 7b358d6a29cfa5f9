-- Each line has one spelling: what is read of its words is printed as these words.
use Rattle.std.proofs.Common.{◌≡◌, ℕ, List, [], ◌∷◌, length, Option, Some, None, Ok, decimal, refl, sym, ap, ◌∙◌, subst, inl}
use Rattle.tau_base.specs.declared.limits.TheConstants.{MAX_TABLES, MAX_PROCS}
use Rattle.tau_proc.specs.declared.proc.Proc.{Proc}
use Rattle.tau_proc.specs.declared.step.Operand.{Operand}
use Rattle.tau_proc.specs.declared.step.Compare.{Compare}
use Rattle.tau_text.specs.declared.fault.TextCause.TheVariants.{BadStep}
use Rattle.tau_text.specs.Given.{or_else}
use Rattle.tau_text.specs.Canonical.{operand_word, register_word, compare_word, name_at}
use Rattle.tau_text.specs.Spelled.{first, ended, count, name, known, new_name, register, operand, compare}
use Rattle.tau_text.specs.Forms.{room, names_of, table_line, proc_line, get_words, put_words, del_words, sum_words, test_words, reply_words}
use Rattle.tau_text_laws.proofs.Unique.{was_some, IsPlain, IsWord, count_spells, register_spells, name_spells, known_spells}
use Rattle.tau_text_laws.proofs.Values.{operand_operates, compare_compares}
use Rattle.tau_text.proofs.Binds.{bind_ok}
pub use Rattle.tau_text.proofs.WordLines.{AreWords}

-- these words, and no others
pub record Once (canonical ws : List (List ℕ)) : Type 0 where
  pub same : canonical ≡ ws
  pub words : AreWords ws

first_is : (ws : List (List ℕ)) (p : List ℕ × List (List ℕ)) → first ws ≡ Ok p → ws ≡ p.0 ∷ p.1
first_is [] p e = absurd cc
first_is (w ∷ ws) p e = ap (λ (q : List ℕ × List (List ℕ)). q.0 ∷ q.1) cc

pub once_end : (ws : List (List ℕ)) (u : Unit {0}) → ended ws ≡ Ok u → Once [] ws
once_end [] u e = record { same = refl; words = tt }
once_end (w ∷ ws) u e = absurd cc

pub once_more : (v : List ℕ) (vs ws : List (List ℕ)) (p : List ℕ × List (List ℕ)) → first ws ≡ Ok p → v ≡ p.0 → IsWord p.0 → Once vs p.1 → Once (v ∷ vs) ws
once_more v vs ws p e s w o = rw (first_is ws p e, s, o.same) (record { same = refl; words = (w, o.words) })

-- ---- declarations

fresh_name : (names : List (List ℕ)) (w n : List ℕ) → new_name names w ≡ Ok n → (n ≡ w) × IsPlain w
unfolding new_name
fresh_name names w n e =
    let a = bind_ok (name w) _ n e in
    let s = name_spells w a.0 a.1 in
    (fresh_same a.0 n _ a.2 ∙ s.0, s.1)
  where
    fresh_same : (m n : List ℕ) (o : Option ℕ) → Rattle.tau_text.specs.Spelled.fresh m o ≡ Ok n → n ≡ m
    fresh_same m n None e = cc
    fresh_same m n (Some i) e = absurd cc

pub table_once : (ts : List (List ℕ)) (ws : List (List ℕ)) (n : List ℕ) → table_line ts ws ≡ Ok n → Once (n ∷ []) ws
unfolding table_line
table_once ts ws n e =
    let a = bind_ok (first ws) _ n e in
    let b = bind_ok (new_name ts a.0.0) _ n a.2 in
    let c = bind_ok (ended a.0.1) _ n b.2 in
    let d = bind_ok (room MAX_TABLES (length ts)) _ n c.2 in
    let k : b.0 ≡ n = cc d.2 in
    let s = fresh_name ts a.0.0 b.0 b.1 in
    once_more n [] ws a.0 a.1 (sym k ∙ s.0) (inl s.1) (once_end a.0.1 c.0 c.1)

pub proc_once : (ps : List Proc) (ws : List (List ℕ)) (p : List ℕ × ℕ) → proc_line ps ws ≡ Ok p → Once (p.0 ∷ decimal p.1 ∷ []) ws
unfolding proc_line
proc_once ps ws p e =
    let a = bind_ok (first ws) _ p e in
    let b = bind_ok (new_name (names_of ps) a.0.0) _ p a.2 in
    let c = bind_ok (first a.0.1) _ p b.2 in
    let d = bind_ok (count c.0.0) _ p c.2 in
    let f = bind_ok (ended c.0.1) _ p d.2 in
    let g = bind_ok (room MAX_PROCS (length ps)) _ p f.2 in
    let k : (b.0, d.0) ≡ p = cc g.2 in
    let s = fresh_name (names_of ps) a.0.0 b.0 b.1 in
    let t = count_spells c.0.0 d.0 d.1 in
    subst (λ (q : List ℕ × ℕ). Once (q.0 ∷ decimal q.1 ∷ []) ws) k
    (once_more b.0 (decimal d.0 ∷ []) ws a.0 a.1 s.0 (inl s.1) (once_more (decimal d.0) [] a.0.1 c.0 c.1 t.same (inl t.word) (once_end c.0.1 f.0 f.1)))

-- ---- steps

pub get_once : (ts : List (List ℕ)) (args : ℕ) (ws : List (List ℕ)) (x : ℕ × ℕ × Operand) → get_words ts args ws ≡ Ok x → Once (register_word x.0 ∷ name_at ts x.1 ∷ operand_word x.2 ∷ []) ws
unfolding get_words
get_once ts args ws x e =
    let a = bind_ok (first ws) _ x e in
    let b = bind_ok (or_else BadStep (register a.0.0)) _ x a.2 in
    let c = bind_ok (first a.0.1) _ x b.2 in
    let d = bind_ok (known ts c.0.0) _ x c.2 in
    let f = bind_ok (first c.0.1) _ x d.2 in
    let g = bind_ok (operand args f.0.0) _ x f.2 in
    let h = bind_ok (ended f.0.1) _ x g.2 in
    let k : (b.0, d.0, g.0) ≡ x = cc h.2 in
    let r = register_spells a.0.0 b.0 (was_some BadStep (register a.0.0) b.0 b.1) in
    let t = known_spells ts c.0.0 d.0 d.1 in
    let o = operand_operates args f.0.0 g.0 g.1 in
    subst (λ (y : ℕ × ℕ × Operand). Once (register_word y.0 ∷ name_at ts y.1 ∷ operand_word y.2 ∷ []) ws) k
    (once_more (register_word b.0) _ ws a.0 a.1 r.same (inl r.word) (once_more (name_at ts d.0) _ a.0.1 c.0 c.1 t.same (inl t.word) (once_more (operand_word g.0) [] c.0.1 f.0 f.1 o.same o.word (once_end f.0.1 h.0 h.1))))

pub put_once : (ts : List (List ℕ)) (args : ℕ) (ws : List (List ℕ)) (x : ℕ × Operand × Operand) → put_words ts args ws ≡ Ok x → Once (name_at ts x.0 ∷ operand_word x.1 ∷ operand_word x.2 ∷ []) ws
unfolding put_words
put_once ts args ws x e =
    let a = bind_ok (first ws) _ x e in
    let b = bind_ok (known ts a.0.0) _ x a.2 in
    let c = bind_ok (first a.0.1) _ x b.2 in
    let d = bind_ok (operand args c.0.0) _ x c.2 in
    let f = bind_ok (first c.0.1) _ x d.2 in
    let g = bind_ok (operand args f.0.0) _ x f.2 in
    let h = bind_ok (ended f.0.1) _ x g.2 in
    let k : (b.0, d.0, g.0) ≡ x = cc h.2 in
    let t = known_spells ts a.0.0 b.0 b.1 in
    let o = operand_operates args c.0.0 d.0 d.1 in
    let v = operand_operates args f.0.0 g.0 g.1 in
    subst (λ (y : ℕ × Operand × Operand). Once (name_at ts y.0 ∷ operand_word y.1 ∷ operand_word y.2 ∷ []) ws) k
    (once_more (name_at ts b.0) _ ws a.0 a.1 t.same (inl t.word) (once_more (operand_word d.0) _ a.0.1 c.0 c.1 o.same o.word (once_more (operand_word g.0) [] c.0.1 f.0 f.1 v.same v.word (once_end f.0.1 h.0 h.1))))

pub del_once : (ts : List (List ℕ)) (args : ℕ) (ws : List (List ℕ)) (x : ℕ × Operand) → del_words ts args ws ≡ Ok x → Once (name_at ts x.0 ∷ operand_word x.1 ∷ []) ws
unfolding del_words
del_once ts args ws x e =
    let a = bind_ok (first ws) _ x e in
    let b = bind_ok (known ts a.0.0) _ x a.2 in
    let c = bind_ok (first a.0.1) _ x b.2 in
    let d = bind_ok (operand args c.0.0) _ x c.2 in
    let h = bind_ok (ended c.0.1) _ x d.2 in
    let k : (b.0, d.0) ≡ x = cc h.2 in
    let t = known_spells ts a.0.0 b.0 b.1 in
    let o = operand_operates args c.0.0 d.0 d.1 in
    subst (λ (y : ℕ × Operand). Once (name_at ts y.0 ∷ operand_word y.1 ∷ []) ws) k
    (once_more (name_at ts b.0) _ ws a.0 a.1 t.same (inl t.word) (once_more (operand_word d.0) [] a.0.1 c.0 c.1 o.same o.word (once_end c.0.1 h.0 h.1)))

pub sum_once : (args : ℕ) (ws : List (List ℕ)) (x : ℕ × Operand × Operand) → sum_words args ws ≡ Ok x → Once (register_word x.0 ∷ operand_word x.1 ∷ operand_word x.2 ∷ []) ws
unfolding sum_words
sum_once args ws x e =
    let a = bind_ok (first ws) _ x e in
    let b = bind_ok (or_else BadStep (register a.0.0)) _ x a.2 in
    let c = bind_ok (first a.0.1) _ x b.2 in
    let d = bind_ok (operand args c.0.0) _ x c.2 in
    let f = bind_ok (first c.0.1) _ x d.2 in
    let g = bind_ok (operand args f.0.0) _ x f.2 in
    let h = bind_ok (ended f.0.1) _ x g.2 in
    let k : (b.0, d.0, g.0) ≡ x = cc h.2 in
    let r = register_spells a.0.0 b.0 (was_some BadStep (register a.0.0) b.0 b.1) in
    let o = operand_operates args c.0.0 d.0 d.1 in
    let v = operand_operates args f.0.0 g.0 g.1 in
    subst (λ (y : ℕ × Operand × Operand). Once (register_word y.0 ∷ operand_word y.1 ∷ operand_word y.2 ∷ []) ws) k
    (once_more (register_word b.0) _ ws a.0 a.1 r.same (inl r.word) (once_more (operand_word d.0) _ a.0.1 c.0 c.1 o.same o.word (once_more (operand_word g.0) [] c.0.1 f.0 f.1 v.same v.word (once_end f.0.1 h.0 h.1))))

pub test_once : (args : ℕ) (ws : List (List ℕ)) (x : Operand × Compare × Operand) → test_words args ws ≡ Ok x → Once (operand_word x.0 ∷ compare_word x.1 ∷ operand_word x.2 ∷ []) ws
unfolding test_words
test_once args ws x e =
    let a = bind_ok (first ws) _ x e in
    let b = bind_ok (operand args a.0.0) _ x a.2 in
    let c = bind_ok (first a.0.1) _ x b.2 in
    let d = bind_ok (compare c.0.0) _ x c.2 in
    let f = bind_ok (first c.0.1) _ x d.2 in
    let g = bind_ok (operand args f.0.0) _ x f.2 in
    let h = bind_ok (ended f.0.1) _ x g.2 in
    let k : (b.0, d.0, g.0) ≡ x = cc h.2 in
    let r = operand_operates args a.0.0 b.0 b.1 in
    let o = compare_compares c.0.0 d.0 d.1 in
    let v = operand_operates args f.0.0 g.0 g.1 in
    subst (λ (y : Operand × Compare × Operand). Once (operand_word y.0 ∷ compare_word y.1 ∷ operand_word y.2 ∷ []) ws) k
    (once_more (operand_word b.0) _ ws a.0 a.1 r.same r.word (once_more (compare_word d.0) _ a.0.1 c.0 c.1 o.same o.word (once_more (operand_word g.0) [] c.0.1 f.0 f.1 v.same v.word (once_end f.0.1 h.0 h.1))))

pub reply_once : (args : ℕ) (ws : List (List ℕ)) (x : Operand) → reply_words args ws ≡ Ok x → Once (operand_word x ∷ []) ws
unfolding reply_words
reply_once args ws x e =
    let a = bind_ok (first ws) _ x e in
    let b = bind_ok (operand args a.0.0) _ x a.2 in
    let h = bind_ok (ended a.0.1) _ x b.2 in
    let k : b.0 ≡ x = cc h.2 in
    let r = operand_operates args a.0.0 b.0 b.1 in
    subst (λ (y : Operand). Once (operand_word y ∷ []) ws) k (once_more (operand_word b.0) [] ws a.0 a.1 r.same r.word (once_end a.0.1 h.0 h.1))
