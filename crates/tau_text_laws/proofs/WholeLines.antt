-- Whole lines: their first words, steps, calls and turns.
use Rattle.std.proofs.Common.{◌≡◌, ℕ, zero, suc, true, List, [], ◌∷◌, ◌++◌, length, map, ℤ, Ok, Err, bytes_eq, codes, refl, sym, ap, ◌∙◌, subst, inl, append_assoc, arith}
use Rattle.std.proofs.lemmas.List.{append-nil}
use Rattle.std.proofs.lemmas.Slice.Eq.{bytes_eq-Decides}
use Rattle.std.specs.Fmt.{signed_decimal}
use Rattle.tau_base.specs.declared.limits.TheConstants.{MAX_TURNS}
use Rattle.tau_base.specs.declared.value.Value.{Value}
use Rattle.tau_base.specs.declared.value.Value.TheVariants as values
use Rattle.tau_proc.specs.declared.step.Step.{Step}
use Rattle.tau_proc.specs.declared.step.Step.TheVariants as steps
use Rattle.tau_text.specs.declared.load.Turn.{Turn}
use Rattle.tau_text.specs.declared.heads.Head.{Head}
use Rattle.tau_text.specs.declared.heads.Head.TheVariants as heads
use Rattle.tau_text.specs.declared.heads.StepHead.{StepHead}
use Rattle.tau_text.specs.declared.heads.StepHead.TheVariants as inner
use Rattle.tau_text.specs.declared.fault.TextCause.TheVariants.{UnknownWord}
use Rattle.tau_text.specs.Canonical.{value_word, turn_word, name_at, step_words, call_words}
use Rattle.tau_text.specs.Spelled.{first, ended, whole, known, literal, turn}
use Rattle.tau_text.specs.Forms.{room, get_words, put_words, del_words, sum_words, test_words, reply_words, step_line, step_head, head, key_words, put_call, add_call, key_call, literals, number_value, turns_line}
use Rattle.tau_text_laws.proofs.Unique.{IsPlain, whole_spells, known_spells}
use Rattle.tau_text_laws.proofs.Values.{chosen, literal_tells, turn_turns}
use Rattle.tau_text_laws.proofs.Once.{Once, once_end, once_more, get_once, put_once, del_once, sum_once, test_once, reply_once}
use Rattle.tau_text.proofs.Binds.{bind_ok}

-- ---- first words

-- this word
pub record Is (v w : List ℕ) : Type 0 where
  pub same : v ≡ w
  pub plain : IsPlain w

is_word : (v w : List ℕ) → IsPlain v → bytes_eq w v ≡ true → Is v w
is_word v w p t =
    let s : v ≡ w = sym ((bytes_eq-Decides w v).0 t) in
    record { same = s; plain = subst IsPlain s p }

abbrev pub step_word : StepHead → List ℕ
step_word inner.Get = codes "get"
step_word inner.Put = codes "put"
step_word inner.Del = codes "del"
step_word inner.Add = codes "add"
step_word inner.Sub = codes "sub"
step_word inner.Mul = codes "mul"
step_word inner.Min = codes "min"
step_word inner.Max = codes "max"
step_word inner.Cat = codes "cat"
step_word inner.Need = codes "need"
step_word inner.When = codes "when"
step_word inner.Done = codes "done"
step_word inner.Reply = codes "reply"
step_word inner.End = codes "end"

step_plain : (h : StepHead) → IsPlain (step_word h)
step_plain inner.Get = record { bytes = refl; some = omega arith }
step_plain inner.Put = record { bytes = refl; some = omega arith }
step_plain inner.Del = record { bytes = refl; some = omega arith }
step_plain inner.Add = record { bytes = refl; some = omega arith }
step_plain inner.Sub = record { bytes = refl; some = omega arith }
step_plain inner.Mul = record { bytes = refl; some = omega arith }
step_plain inner.Min = record { bytes = refl; some = omega arith }
step_plain inner.Max = record { bytes = refl; some = omega arith }
step_plain inner.Cat = record { bytes = refl; some = omega arith }
step_plain inner.Need = record { bytes = refl; some = omega arith }
step_plain inner.When = record { bytes = refl; some = omega arith }
step_plain inner.Done = record { bytes = refl; some = omega arith }
step_plain inner.Reply = record { bytes = refl; some = omega arith }
step_plain inner.End = record { bytes = refl; some = omega arith }

one_step_word : (w : List ℕ) (h : StepHead) → bytes_eq w (step_word h) ≡ true → Is (step_word h) w
one_step_word w h t = is_word (step_word h) w (step_plain h) t

pub step_head_is : (w : List ℕ) (h : StepHead) → step_head w ≡ Ok h → Is (step_word h) w
unfolding step_head
step_head_is w h e =
    let P : StepHead → Type 0 = λ k. Is (step_word k) w in
    chosen P (bytes_eq w (codes "get")) inner.Get _ h (one_step_word w inner.Get) (λ e1.
    chosen P (bytes_eq w (codes "put")) inner.Put _ h (one_step_word w inner.Put) (λ e2.
    chosen P (bytes_eq w (codes "del")) inner.Del _ h (one_step_word w inner.Del) (λ e3.
    chosen P (bytes_eq w (codes "add")) inner.Add _ h (one_step_word w inner.Add) (λ e4.
    chosen P (bytes_eq w (codes "sub")) inner.Sub _ h (one_step_word w inner.Sub) (λ e5.
    chosen P (bytes_eq w (codes "mul")) inner.Mul _ h (one_step_word w inner.Mul) (λ e6.
    chosen P (bytes_eq w (codes "min")) inner.Min _ h (one_step_word w inner.Min) (λ e7.
    chosen P (bytes_eq w (codes "max")) inner.Max _ h (one_step_word w inner.Max) (λ e8.
    chosen P (bytes_eq w (codes "cat")) inner.Cat _ h (one_step_word w inner.Cat) (λ e9.
    chosen P (bytes_eq w (codes "need")) inner.Need _ h (one_step_word w inner.Need) (λ e10.
    chosen P (bytes_eq w (codes "when")) inner.When _ h (one_step_word w inner.When) (λ e11.
    chosen P (bytes_eq w (codes "done")) inner.Done _ h (one_step_word w inner.Done) (λ e12.
    chosen P (bytes_eq w (codes "reply")) inner.Reply _ h (one_step_word w inner.Reply) (λ e13.
    chosen P (bytes_eq w (codes "end")) inner.End (Err UnknownWord) h (one_step_word w inner.End) (λ e14. absurd cc)
    e13) e12) e11) e10) e9) e8) e7) e6) e5) e4) e3) e2) e1) e

abbrev pub head_word : Head → List ℕ
head_word heads.Table = codes "table"
head_word heads.Proc = codes "proc"
head_word heads.Put = codes "put"
head_word heads.Add = codes "add"
head_word heads.Get = codes "get"
head_word heads.Del = codes "del"
head_word heads.Call = codes "call"
head_word heads.Turns = codes "turns"

head_plain : (h : Head) → IsPlain (head_word h)
head_plain heads.Table = record { bytes = refl; some = omega arith }
head_plain heads.Proc = record { bytes = refl; some = omega arith }
head_plain heads.Put = record { bytes = refl; some = omega arith }
head_plain heads.Add = record { bytes = refl; some = omega arith }
head_plain heads.Get = record { bytes = refl; some = omega arith }
head_plain heads.Del = record { bytes = refl; some = omega arith }
head_plain heads.Call = record { bytes = refl; some = omega arith }
head_plain heads.Turns = record { bytes = refl; some = omega arith }

one_head : (w : List ℕ) (h : Head) → bytes_eq w (head_word h) ≡ true → Is (head_word h) w
one_head w h t = is_word (head_word h) w (head_plain h) t

pub head_is : (w : List ℕ) (h : Head) → head w ≡ Ok h → Is (head_word h) w
unfolding head
head_is w h e =
    let P : Head → Type 0 = λ k. Is (head_word k) w in
    chosen P (bytes_eq w (codes "table")) heads.Table _ h (one_head w heads.Table) (λ e1.
    chosen P (bytes_eq w (codes "proc")) heads.Proc _ h (one_head w heads.Proc) (λ e2.
    chosen P (bytes_eq w (codes "put")) heads.Put _ h (one_head w heads.Put) (λ e3.
    chosen P (bytes_eq w (codes "add")) heads.Add _ h (one_head w heads.Add) (λ e4.
    chosen P (bytes_eq w (codes "get")) heads.Get _ h (one_head w heads.Get) (λ e5.
    chosen P (bytes_eq w (codes "del")) heads.Del _ h (one_head w heads.Del) (λ e6.
    chosen P (bytes_eq w (codes "call")) heads.Call _ h (one_head w heads.Call) (λ e7.
    chosen P (bytes_eq w (codes "turns")) heads.Turns (Err UnknownWord) h (one_head w heads.Turns) (λ e8. absurd cc)
    e7) e6) e5) e4) e3) e2) e1) e

pub once_front : (v w : List ℕ) (vs ws : List (List ℕ)) → Is v w → Once vs ws → Once (v ∷ vs) (w ∷ ws)
once_front v w vs ws i o = rw (i.same, o.same) (record { same = refl; words = (inl i.plain, o.words) })

-- ---- steps

pub step_once : (ts : List (List ℕ)) (args : ℕ) (h : StepHead) (w : List ℕ) (ws : List (List ℕ)) (x : Step) → Is (step_word h) w → step_line ts args h ws ≡ Ok x → Once (step_words ts x) (w ∷ ws)
unfolding step_line
step_once ts args inner.Get w ws x i e = let p = bind_ok (get_words ts args ws) (λ y. Ok (steps.Get y.0 y.1 y.2)) x e in let k : steps.Get p.0.0 p.0.1 p.0.2 ≡ x = cc p.2 in subst (λ (y : Step). Once (step_words ts y) (w ∷ ws)) k (once_front (codes "get") w _ ws i (get_once ts args ws p.0 p.1))
step_once ts args inner.Put w ws x i e = let p = bind_ok (put_words ts args ws) (λ y. Ok (steps.Put y.0 y.1 y.2)) x e in let k : steps.Put p.0.0 p.0.1 p.0.2 ≡ x = cc p.2 in subst (λ (y : Step). Once (step_words ts y) (w ∷ ws)) k (once_front (codes "put") w _ ws i (put_once ts args ws p.0 p.1))
step_once ts args inner.Del w ws x i e = let p = bind_ok (del_words ts args ws) (λ y. Ok (steps.Del y.0 y.1)) x e in let k : steps.Del p.0.0 p.0.1 ≡ x = cc p.2 in subst (λ (y : Step). Once (step_words ts y) (w ∷ ws)) k (once_front (codes "del") w _ ws i (del_once ts args ws p.0 p.1))
step_once ts args inner.Add w ws x i e = let p = bind_ok (sum_words args ws) (λ y. Ok (steps.Add y.0 y.1 y.2)) x e in let k : steps.Add p.0.0 p.0.1 p.0.2 ≡ x = cc p.2 in subst (λ (y : Step). Once (step_words ts y) (w ∷ ws)) k (once_front (codes "add") w _ ws i (sum_once args ws p.0 p.1))
step_once ts args inner.Sub w ws x i e = let p = bind_ok (sum_words args ws) (λ y. Ok (steps.Sub y.0 y.1 y.2)) x e in let k : steps.Sub p.0.0 p.0.1 p.0.2 ≡ x = cc p.2 in subst (λ (y : Step). Once (step_words ts y) (w ∷ ws)) k (once_front (codes "sub") w _ ws i (sum_once args ws p.0 p.1))
step_once ts args inner.Mul w ws x i e = let p = bind_ok (sum_words args ws) (λ y. Ok (steps.Mul y.0 y.1 y.2)) x e in let k : steps.Mul p.0.0 p.0.1 p.0.2 ≡ x = cc p.2 in subst (λ (y : Step). Once (step_words ts y) (w ∷ ws)) k (once_front (codes "mul") w _ ws i (sum_once args ws p.0 p.1))
step_once ts args inner.Min w ws x i e = let p = bind_ok (sum_words args ws) (λ y. Ok (steps.Min y.0 y.1 y.2)) x e in let k : steps.Min p.0.0 p.0.1 p.0.2 ≡ x = cc p.2 in subst (λ (y : Step). Once (step_words ts y) (w ∷ ws)) k (once_front (codes "min") w _ ws i (sum_once args ws p.0 p.1))
step_once ts args inner.Max w ws x i e = let p = bind_ok (sum_words args ws) (λ y. Ok (steps.Max y.0 y.1 y.2)) x e in let k : steps.Max p.0.0 p.0.1 p.0.2 ≡ x = cc p.2 in subst (λ (y : Step). Once (step_words ts y) (w ∷ ws)) k (once_front (codes "max") w _ ws i (sum_once args ws p.0 p.1))
step_once ts args inner.Cat w ws x i e = let p = bind_ok (sum_words args ws) (λ y. Ok (steps.Cat y.0 y.1 y.2)) x e in let k : steps.Cat p.0.0 p.0.1 p.0.2 ≡ x = cc p.2 in subst (λ (y : Step). Once (step_words ts y) (w ∷ ws)) k (once_front (codes "cat") w _ ws i (sum_once args ws p.0 p.1))
step_once ts args inner.Need w ws x i e = let p = bind_ok (test_words args ws) (λ y. Ok (steps.Need y.0 y.1 y.2)) x e in let k : steps.Need p.0.0 p.0.1 p.0.2 ≡ x = cc p.2 in subst (λ (y : Step). Once (step_words ts y) (w ∷ ws)) k (once_front (codes "need") w _ ws i (test_once args ws p.0 p.1))
step_once ts args inner.When w ws x i e = let p = bind_ok (test_words args ws) (λ y. Ok (steps.When y.0 y.1 y.2)) x e in let k : steps.When p.0.0 p.0.1 p.0.2 ≡ x = cc p.2 in subst (λ (y : Step). Once (step_words ts y) (w ∷ ws)) k (once_front (codes "when") w _ ws i (test_once args ws p.0 p.1))
step_once ts args inner.Done w ws x i e = let p = bind_ok (ended ws) (λ y. Ok steps.Done) x e in let k : steps.Done ≡ x = cc p.2 in subst (λ (y : Step). Once (step_words ts y) (w ∷ ws)) k (once_front (codes "done") w [] ws i (once_end ws p.0 p.1))
step_once ts args inner.Reply w ws x i e = let p = bind_ok (reply_words args ws) (λ y. Ok (steps.Reply y)) x e in let k : steps.Reply p.0 ≡ x = cc p.2 in subst (λ (y : Step). Once (step_words ts y) (w ∷ ws)) k (once_front (codes "reply") w _ ws i (reply_once args ws p.0 p.1))
step_once ts args inner.End w ws x i e = absurd cc

-- ---- calls

-- a table and a row, and the words after them
pub record KeyOnce (ts ws : List (List ℕ)) (x : List Value × List (List ℕ)) : Type 0 where
  pub table : ℕ
  pub row : ℤ
  pub args : number_value table ∷ values.Int row ∷ [] ≡ x.0
  pub back : (vs : List (List ℕ)) → Once vs x.1 → Once (name_at ts table ∷ signed_decimal row ∷ vs) ws

pub key_once : (ts ws : List (List ℕ)) (x : List Value × List (List ℕ)) → key_words ts ws ≡ Ok x → KeyOnce ts ws x
unfolding key_words
key_once ts ws x e =
    let a = bind_ok (first ws) _ x e in
    let b = bind_ok (known ts a.0.0) _ x a.2 in
    let c = bind_ok (first a.0.1) _ x b.2 in
    let d = bind_ok (whole c.0.0) _ x c.2 in
    let k : (number_value b.0 ∷ values.Int d.0 ∷ [], c.0.1) ≡ x = cc d.2 in
    let t = known_spells ts a.0.0 b.0 b.1 in
    let n = whole_spells c.0.0 d.0 d.1 in
    subst (KeyOnce ts ws) k (record {
      table = b.0;
      row = d.0;
      args = refl;
      back = λ vs o. once_more (name_at ts b.0) _ ws a.0 a.1 t.same (inl t.word) (once_more (signed_decimal d.0) vs a.0.1 c.0 c.1 n.same (inl n.word) o);
    })

-- the words of a call of a built-in after its first
abbrev pub keyed_words : List (List ℕ) → List Value → List (List ℕ)
keyed_words ts [] = []
keyed_words ts (t ∷ vs) = Rattle.tau_text.specs.Canonical.table_word ts t ∷ map value_word vs

pub put_call_once : (ts ws : List (List ℕ)) (x : List Value) → put_call ts ws ≡ Ok x → Once (keyed_words ts x) ws
unfolding put_call
put_call_once ts ws x e =
    let a = bind_ok (key_words ts ws) _ x e in
    let b = bind_ok (first a.0.1) _ x a.2 in
    let c = bind_ok (literal b.0.0) _ x b.2 in
    let d = bind_ok (ended b.0.1) _ x c.2 in
    let k : a.0.0 ++ c.0 ∷ [] ≡ x = cc d.2 in
    let o = key_once ts ws a.0 a.1 in
    let v = literal_tells b.0.0 c.0 c.1 in
    let m : number_value o.table ∷ values.Int o.row ∷ c.0 ∷ [] ≡ x = ap (λ (vs : List Value). vs ++ c.0 ∷ []) o.args ∙ k in
    subst (λ (vs : List Value). Once (keyed_words ts vs) ws) m (o.back (value_word c.0 ∷ []) (once_more (value_word c.0) [] a.0.1 b.0 b.1 v.same v.word (once_end b.0.1 d.0 d.1)))

pub add_call_once : (ts ws : List (List ℕ)) (x : List Value) → add_call ts ws ≡ Ok x → Once (keyed_words ts x) ws
unfolding add_call
add_call_once ts ws x e =
    let a = bind_ok (key_words ts ws) _ x e in
    let b = bind_ok (first a.0.1) _ x a.2 in
    let c = bind_ok (whole b.0.0) _ x b.2 in
    let d = bind_ok (ended b.0.1) _ x c.2 in
    let k : a.0.0 ++ values.Int c.0 ∷ [] ≡ x = cc d.2 in
    let o = key_once ts ws a.0 a.1 in
    let v = whole_spells b.0.0 c.0 c.1 in
    let m : number_value o.table ∷ values.Int o.row ∷ values.Int c.0 ∷ [] ≡ x = ap (λ (vs : List Value). vs ++ values.Int c.0 ∷ []) o.args ∙ k in
    subst (λ (vs : List Value). Once (keyed_words ts vs) ws) m (o.back (signed_decimal c.0 ∷ []) (once_more (signed_decimal c.0) [] a.0.1 b.0 b.1 v.same (inl v.word) (once_end b.0.1 d.0 d.1)))

pub key_call_once : (ts ws : List (List ℕ)) (x : List Value) → key_call ts ws ≡ Ok x → Once (keyed_words ts x) ws
unfolding key_call
key_call_once ts ws x e =
    let a = bind_ok (key_words ts ws) _ x e in
    let d = bind_ok (ended a.0.1) _ x a.2 in
    let k : a.0.0 ≡ x = cc d.2 in
    let o = key_once ts ws a.0 a.1 in
    subst (λ (vs : List Value). Once (keyed_words ts vs) ws) (o.args ∙ k) (o.back [] (once_end a.0.1 d.0 d.1))

pub literals_once : (n : ℕ) (ws : List (List ℕ)) (x : List Value × List (List ℕ)) → literals n ws ≡ Ok x → Once [] x.1 → Once (map value_word x.0) ws
unfolding literals
literals_once zero ws x e o =
    let k : ([], ws) ≡ x = cc in
    subst (λ (y : List Value × List (List ℕ)). Once [] y.1 → Once (map value_word y.0) ws) k (λ p. p) o
literals_once (suc n) ws x e o =
    let a = bind_ok (first ws) _ x e in
    let b = bind_ok (literal a.0.0) _ x a.2 in
    let c = bind_ok (literals n a.0.1) _ x b.2 in
    let k : (b.0 ∷ c.0.0, c.0.1) ≡ x = cc c.2 in
    let v = literal_tells a.0.0 b.0 b.1 in
    let q : Once [] c.0.1 = subst (λ (y : List Value × List (List ℕ)). Once [] y.1) (sym k) o in
    subst (λ (y : List Value × List (List ℕ)). Once (map value_word y.0) ws) k (once_more (value_word b.0) _ ws a.0 a.1 v.same v.word (literals_once n a.0.1 c.0 c.1 q))

-- ---- turns

-- the turns of a line after those before
pub record TurnsOnce (before ts : List Turn) (ws : List (List ℕ)) : Type 0 where
  pub more : List Turn
  pub all : before ++ more ≡ ts
  pub once : Once (map turn_word more) ws

pub turns_once : (before ts : List Turn) (ws : List (List ℕ)) → turns_line before ws ≡ Ok ts → TurnsOnce before ts ws
unfolding turns_line
turns_once before ts [] e =
    let k : before ≡ ts = cc in
    record { more = []; all = append-nil before ∙ k; once = record { same = refl; words = tt } }
turns_once before ts (w ∷ ws) e =
    let a = bind_ok (turn w) _ ts e in
    let b = bind_ok (room MAX_TURNS (length before)) _ ts a.2 in
    let r = turns_once (before ++ a.0 ∷ []) ts ws b.2 in
    let t = turn_turns w a.0 a.1 in
    record {
      more = a.0 ∷ r.more;
      all = sym (append_assoc before (a.0 ∷ []) r.more) ∙ r.all;
      once = rw (t.same, r.once.same) (record { same = refl; words = (t.word, r.once.words) });
    }
