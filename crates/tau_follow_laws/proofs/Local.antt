-- A record is read of its own bytes, and a content goes on after what was read of it.
use Rattle.std.proofs.Common.{ℕ, ◌+◌, ◌-◌, ◌≤◌, Bool, false, cond, ltb, ◌≡◌, List, [], ◌∷◌, ◌++◌, length, take, drop, Result, Ok, Err, refl, sym, ap, subst, ◌∙◌, arith, append_assoc}
use Rattle.std.specs.Int.{w32, byte_len, from_be_bytes}
use Rattle.std.proofs.lemmas.Bool.{ltb-false, le-ltb}
use Rattle.std.proofs.lemmas.List.{length-take, length-append, take-append-drop}
use Rattle.std.proofs.Math.Seq.{take-append_seam, drop-append_seam}
use Rattle.tau_record.specs.declared.entry.Entry.{Entry}
use Rattle.tau_record.specs.declared.fault.RecordCause.{RecordCause}
use Rattle.tau_record.specs.declared.fault.RecordCause.TheVariants.{Short, BadKind, BadLength}
use Rattle.tau_record.specs.Field.{◌>>=◌}
use Rattle.tau_record.specs.Format.{Format}
use Rattle.tau_record.specs.Record.{body_at, sized_at, total_at, frame_at, record_at, kind_fits}
use Rattle.tau_record.proofs.FieldLaws.{bind_ok, guard_ok, ok_is}
use Rattle.tau_record.proofs.ItemLaws.{guard_held}

-- ---- one record

-- the bytes of a result, and that it comes of them alone
pub record IsLocal {A : Type 0} (read : List ℕ → Result (A × List ℕ) RecordCause) (bytes : List ℕ) (x : A × List ℕ) : Type 0 where
  pub own : List ℕ
  pub parts : bytes ≡ own ++ x.1
  pub again : (y : List ℕ) → read (own ++ y) ≡ Ok (x.0, y)
  pub some : 1 ≤ length own

sized_local : (kind total : ℕ) (left : List ℕ) (x : (ℕ × List ℕ) × List ℕ) → sized_at kind total left ≡ Ok x →
    (fields : List ℕ) × (left ≡ fields ++ x.1) × ((y : List ℕ) → sized_at kind total (fields ++ y) ≡ Ok (x.0, y))
sized_local kind total left x e =
    let short = guard_ok (ltb (length left + 5) total) Short (cond (ltb total 5) (Err BadLength) (Ok ((kind, take (total - 5) left), drop (total - 5) left))) x e in
    let long = guard_ok (ltb total 5) BadLength (Ok ((kind, take (total - 5) left), drop (total - 5) left)) x short.1 in
    let is = ok_is ((kind, take (total - 5) left), drop (total - 5) left) x long.1 in
    let fields : List ℕ = take (total - 5) left in
    let enough : total ≤ length left + 5 = ltb-false (length left + 5) total short.0 in
    let five : 5 ≤ total = ltb-false total 5 long.0 in
    let wide : length fields ≡ total - 5 = (let l = length-take (total - 5) left in omega (arith, l, enough)) in (
      fields,
      sym (take-append-drop (total - 5) left) ∙ ap (λ (z : (ℕ × List ℕ) × List ℕ). fields ++ z.1) is,
      λ y.
          (let fits : ltb (length (fields ++ y) + 5) total ≡ false = le-ltb (length (fields ++ y) + 5) total (let l = length-append fields y in omega (arith, l, wide, five)) in
          let front : take (total - 5) (fields ++ y) ≡ fields = subst (λ (n : ℕ). take n (fields ++ y) ≡ fields) wide (take-append_seam fields y) in
          let back : drop (total - 5) (fields ++ y) ≡ y = subst (λ (n : ℕ). drop n (fields ++ y) ≡ y) wide (drop-append_seam fields y) in
          let head : (kind, fields) ≡ x.0 = ap (λ (z : (ℕ × List ℕ) × List ℕ). z.0) is in
          rw (fits, long.0, front, back) (ap (λ (h : ℕ × List ℕ). Ok (h, y)) head)),
    )

total_local : (n kind : ℕ) (bytes : List ℕ) (x : (ℕ × List ℕ) × List ℕ) → byte_len w32 ≡ n → total_at w32 kind bytes ≡ Ok x → IsLocal (total_at w32 kind) bytes x
total_local n kind bytes x four e =
    let long = guard_ok (ltb (length bytes) (byte_len w32)) Short (sized_at kind (from_be_bytes w32 (take (byte_len w32) bytes)) (drop (byte_len w32) bytes)) x e in
    let s = sized_local kind (from_be_bytes w32 (take (byte_len w32) bytes)) (drop (byte_len w32) bytes) x long.1 in
    let head : List ℕ = take (byte_len w32) bytes in
    let enough : byte_len w32 ≤ length bytes = ltb-false (length bytes) (byte_len w32) long.0 in
    let wide : length head ≡ byte_len w32 = (let l = length-take (byte_len w32) bytes in omega (arith, l, enough)) in
    record {
      own = head ++ s.0;
      parts = sym (take-append-drop (byte_len w32) bytes) ∙ ap (λ (z : List ℕ). head ++ z) s.1 ∙ sym (append_assoc head s.0 x.1);
      again = λ y.
          (let fits : ltb (length ((head ++ s.0) ++ y)) (byte_len w32) ≡ false = le-ltb (length ((head ++ s.0) ++ y)) (byte_len w32) (let l = length-append (head ++ s.0) y in let k = length-append head s.0 in omega (arith, l, k, wide)) in
          let front : take (byte_len w32) ((head ++ s.0) ++ y) ≡ head = ap (take (byte_len w32)) (append_assoc head s.0 y) ∙ subst (λ (m : ℕ). take m (head ++ (s.0 ++ y)) ≡ head) wide (take-append_seam head (s.0 ++ y)) in
          let back : drop (byte_len w32) ((head ++ s.0) ++ y) ≡ s.0 ++ y = ap (drop (byte_len w32)) (append_assoc head s.0 y) ∙ subst (λ (m : ℕ). drop m (head ++ (s.0 ++ y)) ≡ s.0 ++ y) wide (drop-append_seam head (s.0 ++ y)) in
          ap (λ (b : Bool). cond b (Err Short) (sized_at kind (from_be_bytes w32 (take (byte_len w32) ((head ++ s.0) ++ y))) (drop (byte_len w32) ((head ++ s.0) ++ y)))) fits
          ∙ ap (λ (h : List ℕ). sized_at kind (from_be_bytes w32 h) (drop (byte_len w32) ((head ++ s.0) ++ y))) front
          ∙ ap (sized_at kind (from_be_bytes w32 head)) back ∙ s.2 y);
      some = (let k = length-append head s.0 in omega (arith, k, wide));
    }

frame_local : (first : Bool) (bytes : List ℕ) (x : (ℕ × List ℕ) × List ℕ) → frame_at first bytes ≡ Ok x → IsLocal (frame_at first) bytes x
unfolding frame_at
frame_local first [] x e = absurd cc
frame_local first (kind ∷ bytes) x e =
    let fits = guard_held (kind_fits first kind) BadKind (total_at w32 kind bytes) x e in
    let t = total_local (byte_len w32) kind bytes x refl fits.1 in
    record {
      own = kind ∷ t.own;
      parts = ap (λ (z : List ℕ). kind ∷ z) t.parts;
      again = λ y. ap (λ (b : Bool). cond b (total_at w32 kind (t.own ++ y)) (Err BadKind)) fits.0 ∙ t.again y;
      some = omega arith;
    }

-- a record is read of its own bytes alone
pub record_local : (f : Format) (n k : ℕ) (vectors : List (List ℕ)) (first : Bool) (bytes : List ℕ) (x : Entry × List ℕ) → record_at f n k vectors first bytes ≡ Ok x → IsLocal (record_at f n k vectors first) bytes x
unfolding record_at
record_local f n k vectors first bytes x e =
    let body : (ℕ × List ℕ) × List ℕ → Result (Entry × List ℕ) RecordCause = λ frame. body_at f n k vectors frame.0.0 frame.0.1 >>= λ e. Ok (e, frame.1) in
    let a = bind_ok (frame_at first bytes) body x e in
    let b = bind_ok (body_at f n k vectors a.0.0.0 a.0.0.1) (λ e. Ok (e, a.0.1)) x a.2 in
    let is = ok_is (b.0, a.0.1) x b.2 in
    let l = frame_local first bytes a.0 a.1 in
    record {
      own = l.own;
      parts = l.parts ∙ ap (λ (z : Entry × List ℕ). l.own ++ z.1) is;
      again = λ y. (ap (λ (r : Result ((ℕ × List ℕ) × List ℕ) RecordCause). r >>= body) (l.again y)
          ∙ ap (λ (r : Result Entry RecordCause). r >>= λ e. Ok (e, y)) b.1 ∙ ap (λ (z : Entry × List ℕ). Ok (z.0, y)) is);
      some = l.some;
    }
