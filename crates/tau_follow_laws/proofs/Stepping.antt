-- Reading a content record after record.
use Rattle.std.proofs.Common.{ℕ, zero, suc, ◌+◌, ◌-◌, ◌≤◌, Bool, true, false, cond, eqb, ◌≡◌, inl, inr, List, [], ◌∷◌, ◌++◌, length, take, Option, Some, None, Result, Ok, Err, refl, sym, ap, subst, ◌∙◌, arith, append_assoc}
use Rattle.std.proofs.lemmas.List.{length-append, length-take, append-nil}
use Rattle.std.proofs.Math.Seq.{take-append-add, take-append_seam}
use Rattle.tau_record.specs.declared.entry.Entry.{Entry}
use Rattle.tau_record.specs.declared.entry.Placed.{Placed}
use Rattle.tau_record.specs.declared.fault.RecordCause.{RecordCause}
use Rattle.tau_record.specs.declared.fault.RecordCause.TheVariants.{BadBody}
use Rattle.tau_record.specs.declared.fault.RecordFault.{RecordFault}
use Rattle.tau_record.specs.Format.{Format}
use Rattle.tau_record.specs.Record.{epoch_after, record_at, named}
use Rattle.tau_record.specs.Content.{named_after, named_behind, last_epoch, found_at, in_front, placed, records_at, content_at}
use Rattle.tau_text.specs.declared.load.Declarations.{Declarations}
use Rattle.tau_scan.specs.Reading.{unless, is_declared, declared_by, catalogue_of, first_undeclared, undeclared, or_no_records, or_fault, judged, records_of}
use Rattle.tau_follow_laws.specs.Fed.{is_short, or_front, front_of}
use Rattle.tau_follow_laws.proofs.Local.{record_local}
use Rattle.tau_follow_laws.proofs.GoesOn.{in_fronts, rest_of, content_on, records_fuel, found_err, front_err, done, failed}

-- ---- what stands behind records

pub named_push : (vectors : List (List ℕ)) (ps : List Placed) (p : Placed) → named_behind vectors (ps ++ p ∷ []) ≡ named_after (named_behind vectors ps) p.entry
named_push vectors [] p = refl
named_push vectors (q ∷ ps) p = named_push (named_after vectors q.entry) ps p

pub epoch_push : (k : ℕ) (ps : List Placed) (p : Placed) → last_epoch k (ps ++ p ∷ []) ≡ epoch_after (last_epoch k ps) p.entry
epoch_push k [] p = refl
epoch_push k (q ∷ ps) p = epoch_push (epoch_after k q.entry) ps p

-- ---- what is declared

undeclared_more : (d : Declarations) (ps qs : List Placed) → first_undeclared d ps ≡ None → first_undeclared d (ps ++ qs) ≡ first_undeclared d qs
unfolding first_undeclared
undeclared_more d [] qs e = refl
undeclared_more d (p ∷ ps) qs e = by (is_declared d p.entry) refl (undeclared_more d ps qs)
  where
    by : (b : Bool) → is_declared d p.entry ≡ b → (first_undeclared d ps ≡ None → first_undeclared d (ps ++ qs) ≡ first_undeclared d qs) →
        cond (is_declared d p.entry) (first_undeclared d (ps ++ qs)) (Some (record { at = p.start; cause = BadBody })) ≡ first_undeclared d qs
    by true is rest = rw is (rest (subst (λ (b : Bool). cond b (first_undeclared d ps) (Some (record { at = p.start; cause = BadBody })) ≡ None) is e))
    by false is rest = absurd (let f : Some (record { at = p.start; cause = BadBody }) ≡ None = subst (λ (b : Bool). cond b (first_undeclared d ps) (Some (record { at = p.start; cause = BadBody })) ≡ None) is e in cc f)

undeclared_first : (d : Declarations) (p : Placed) (ps : List Placed) → is_declared d p.entry ≡ false → first_undeclared d (p ∷ ps) ≡ Some (record { at = p.start; cause = BadBody })
unfolding first_undeclared
undeclared_first d p ps e = rw e refl

declared_first : (d : Declarations) (p : Placed) → is_declared d p.entry ≡ true → first_undeclared d (p ∷ []) ≡ None
unfolding first_undeclared
declared_first d p e = rw e refl

-- what is declared in a stream to which a record comes: by its catalogue, or by the record, which is the first
abbrev pub declared_with : List Placed → Placed → Declarations
declared_with ps p = declared_by (catalogue_of (ps ++ p ∷ []))

same_text : (ps : List Placed) (p : Placed) (more : List Placed) → catalogue_of (ps ++ p ∷ more) ≡ catalogue_of (ps ++ p ∷ [])
same_text [] p more = refl
same_text (q ∷ ps) p more = refl

under : (ps : List Placed) (p : Placed) (more : List Placed) → undeclared ps ≡ None → first_undeclared (declared_with ps p) ps ≡ None
unfolding first_undeclared
under [] p more e = refl
under (q ∷ ps) p more e = e

-- with a declared record all is declared still
pub declared_push : (ps : List Placed) (p : Placed) → undeclared ps ≡ None → is_declared (declared_with ps p) p.entry ≡ true → undeclared (ps ++ p ∷ []) ≡ None
declared_push ps p e is = undeclared_more (declared_with ps p) ps (p ∷ []) (under ps p [] e) ∙ declared_first (declared_with ps p) p is

-- with one that is not, it is the first that is not
pub undeclared_push : (ps : List Placed) (p : Placed) (more : List Placed) → undeclared ps ≡ None → is_declared (declared_with ps p) p.entry ≡ false → undeclared (ps ++ p ∷ more) ≡ Some (record { at = p.start; cause = BadBody })
undeclared_push ps p more e is =
    ap (λ (c : Option (List ℕ)). first_undeclared (declared_by c) (ps ++ p ∷ more)) (same_text ps p more)
    ∙ undeclared_more (declared_with ps p) ps (p ∷ more) (under ps p more e) ∙ undeclared_first (declared_with ps p) p more is

-- ---- one record after those that are read

module _ (f : Format) (n : ℕ) where
  -- what is read next
  abbrev pub next_at : ℕ → List Placed → List ℕ → Result (Entry × List ℕ) RecordCause
  next_at at ps rest = record_at f n (last_epoch 0 ps) (named_behind (named n []) ps) (eqb at 0) rest

  abbrev pub next_placed : ℕ → Entry → List ℕ → List ℕ → Placed
  next_placed at e rest after = placed e at (at + (length rest - length after))

  -- what is left to be read: the next record in front of the rest
  pub rest_ok : (at : ℕ) (ps : List Placed) (rest : List ℕ) (x : Entry × List ℕ) → 1 ≤ length rest → next_at at ps rest ≡ Ok x →
      (m : ℕ) × (length x.1 ≤ m) × (rest_of f n at ps rest ≡ in_front (next_placed at x.0 rest x.1)
      (records_at f n m (at + (length rest - length x.1)) (epoch_after (last_epoch 0 ps) x.0) (named_after (named_behind (named n []) ps) x.0) x.1))
  unfolding records_at
  rest_ok at ps [] x some e = absurd (omega (arith, some))
  rest_ok at ps (b ∷ bytes) x some e =
      let l = record_local f n (last_epoch 0 ps) (named_behind (named n []) ps) (eqb at 0) (b ∷ bytes) x e in
      let wide : length (b ∷ bytes) ≡ length l.own + length x.1 = ap length l.parts ∙ length-append l.own x.1 in
      let long = l.some in
      (length bytes, omega (arith, wide, long), rw e refl)

  pub rest_err : (at : ℕ) (ps : List Placed) (rest : List ℕ) (cause : RecordCause) → 1 ≤ length rest → next_at at ps rest ≡ Err cause → rest_of f n at ps rest ≡ Err (record { at = at; cause = cause })
  unfolding records_at
  rest_err at ps [] cause some e = absurd (omega (arith, some))
  rest_err at ps (b ∷ bytes) cause some e = rw e refl

  nothing : (m at k : ℕ) (vectors : List (List ℕ)) → records_at f n m at k vectors [] ≡ Ok []
  unfolding records_at
  nothing m at k vectors = refl

  -- the front with one more record
  pub one_read : (front rest : List ℕ) (ps : List Placed) (x : Entry × List ℕ) → content_at f n front ≡ Ok ps → next_at (length front) ps rest ≡ Ok x →
      (own : List ℕ) × (rest ≡ own ++ x.1) × (content_at f n (front ++ own) ≡ Ok (ps ++ next_placed (length front) x.0 rest x.1 ∷ []))
  one_read front rest ps x read e =
      let l = record_local f n (last_epoch 0 ps) (named_behind (named n []) ps) (eqb (length front) 0) rest x e in
      let own : List ℕ = l.own in
      let alone : next_at (length front) ps own ≡ Ok (x.0, []) = ap (next_at (length front) ps) (sym (append-nil own)) ∙ l.again [] in
      let r = rest_ok (length front) ps own (x.0, []) l.some alone in
      let wide : length rest ≡ length own + length x.1 = ap length l.parts ∙ length-append own x.1 in
      let past : length front + (length own - length {A = ℕ} []) ≡ length front + (length rest - length x.1) = omega (arith, wide) in
      let one : rest_of f n (length front) ps own ≡ Ok (next_placed (length front) x.0 own [] ∷ []) = r.2 ∙ ap (in_front (next_placed (length front) x.0 own [])) (nothing r.0 (length front + (length own - length {A = ℕ} [])) (epoch_after (last_epoch 0 ps) x.0) (named_after (named_behind (named n []) ps) x.0)) in
      (own, l.parts, content_on f n front own ps read ∙ ap (in_fronts ps) one ∙ ap (λ (i : ℕ). done (ps ++ placed x.0 (length front) i ∷ [])) past)

  -- ---- the first bad record

  -- what stands before it is records
  records_bad : (fuel at k : ℕ) (vectors : List (List ℕ)) (bytes : List ℕ) (fault : RecordFault) → length bytes ≤ fuel → records_at f n fuel at k vectors bytes ≡ Err fault →
      (before : List Placed) × (passed : ℕ) × (fault.at ≡ at + passed) × (passed ≤ length bytes) × (records_at f n fuel at k vectors (take passed bytes) ≡ Ok before)
  unfolding records_at
  records_bad fuel at k vectors [] fault le e = absurd cc
  records_bad zero at k vectors (b ∷ bytes) fault le e = absurd cc
  records_bad (suc fuel) at k vectors (b ∷ bytes) fault le e =
      let content : List ℕ = b ∷ bytes in
      let past : Entry × List ℕ → ℕ = λ x. at + (length content - length x.1) in
      elim (found_err at (record_at f n k vectors (eqb at 0) content) (λ x. in_front (placed x.0 at (past x)) (records_at f n fuel (past x) (epoch_after k x.0) (named_after vectors x.0) x.1)) fault e) [
        | inl here ↦ ([], 0, (let z : at ≡ at + 0 = omega arith in here ∙ z), omega arith, refl)
        | inr w ↦
            let x = w.0 in
            let l = record_local f n k vectors (eqb at 0) content x w.1 in
            let wide : length content ≡ length l.own + length x.1 = ap length l.parts ∙ length-append l.own x.1 in
            let some = l.some in
            let more = records_bad fuel (past x) (epoch_after k x.0) (named_after vectors x.0) x.1 fault (omega (arith, wide, le, some))
            (front_err (placed x.0 at (past x)) (records_at f n fuel (past x) (epoch_after k x.0) (named_after vectors x.0) x.1) fault w.2) in
            let place = more.2 in
            let within = more.3 in
            let cut : take (length l.own + more.1) content ≡ l.own ++ take more.1 x.1 = ap (take (length l.own + more.1)) l.parts ∙ take-append-add l.own x.1 more.1 in
            let read : record_at f n k vectors (eqb at 0) (l.own ++ take more.1 x.1) ≡ Ok (x.0, take more.1 x.1) = l.again (take more.1 x.1) in
            let long : length (l.own ++ take more.1 x.1) ≡ length l.own + length (take more.1 x.1) = length-append l.own (take more.1 x.1) in
            let same : at + (length (l.own ++ take more.1 x.1) - length (take more.1 x.1)) ≡ past x = omega (arith, long, wide) in (
              placed x.0 at (past x) ∷ more.0,
              length l.own + more.1,
              omega (arith, place, wide),
              omega (arith, wide, within),
              ap (records_at f n (suc fuel) at k vectors) cut ∙ one (l.own ++ take more.1 x.1) x.0 (take more.1 x.1) (past x) more.0 (omega (arith, long, some)) read same more.4,
            )
      ]
    where
      one : (bytes : List ℕ) (e : Entry) (after : List ℕ) (past : ℕ) (before : List Placed) → 1 ≤ length bytes → record_at f n k vectors (eqb at 0) bytes ≡ Ok (e, after) → at + (length bytes - length after) ≡ past →
          records_at f n fuel past (epoch_after k e) (named_after vectors e) after ≡ Ok before → records_at f n (suc fuel) at k vectors bytes ≡ Ok (placed e at past ∷ before)
      one [] e after past before some read is rest = absurd (omega (arith, some))
      one (c ∷ bytes) e after past before some read is rest =
          ap (λ (r : Result (Entry × List ℕ) RecordCause). found_at at r (λ x. in_front (placed x.0 at (at + (length (c ∷ bytes) - length x.1))) (records_at f n fuel (at + (length (c ∷ bytes) - length x.1)) (epoch_after k x.0) (named_after vectors x.0) x.1))) read
          ∙ ap (λ (i : ℕ). in_front (placed e at i) (records_at f n fuel i (epoch_after k e) (named_after vectors e) after)) is
          ∙ ap (in_front (placed e at past)) rest

  -- ---- where reading ends

  -- nothing is left, or a record that is cut short
  pub ends_read : (front rest : List ℕ) (ps : List Placed) → content_at f n front ≡ Ok ps → undeclared ps ≡ None → rest ≡ [] → front_of f n (front ++ rest) ≡ Ok ps
  unfolding front_of records_of
  ends_read front rest ps read declared none =
      let whole : content_at f n (front ++ rest) ≡ Ok ps = ap (content_at f n) (ap (λ (l : List ℕ). front ++ l) none ∙ append-nil front) ∙ read in
      ap (λ (r : Result (List Placed) RecordFault). or_front f n (front ++ rest) (judged f n (front ++ rest) r)) whole
      ∙ ap (λ (o : Option RecordFault). or_front f n (front ++ rest) (unless o ps)) declared

  bad_at : (front rest : List ℕ) (ps : List Placed) (cause : RecordCause) → content_at f n front ≡ Ok ps → undeclared ps ≡ None → 1 ≤ length rest → next_at (length front) ps rest ≡ Err cause →
      records_of f n (front ++ rest) ≡ Err (record { at = length front; cause = cause })
  unfolding records_of
  bad_at front rest ps cause read declared some e =
      let fault : RecordFault = record { at = length front; cause = cause } in
      let bad : content_at f n (front ++ rest) ≡ Err fault = content_on f n front rest ps read ∙ ap (in_fronts ps) (rest_err (length front) ps rest cause some e) in
      let before : content_at f n (take (length front) (front ++ rest)) ≡ Ok ps = ap (content_at f n) (take-append_seam front rest) ∙ read in
      ap (judged f n (front ++ rest)) bad
      ∙ ap (λ (r : Result (List Placed) RecordFault). failed (or_fault (undeclared (or_no_records r)) fault)) before
      ∙ ap (λ (o : Option RecordFault). failed (or_fault o fault)) declared

  records_whole : (front : List ℕ) (ps : List Placed) → content_at f n front ≡ Ok ps → undeclared ps ≡ None → records_of f n front ≡ Ok ps
  unfolding records_of
  records_whole front ps read declared = ap (judged f n front) read ∙ ap (λ (o : Option RecordFault). unless o ps) declared

  pub ends_short : (front rest : List ℕ) (ps : List Placed) (cause : RecordCause) → content_at f n front ≡ Ok ps → undeclared ps ≡ None → 1 ≤ length rest → next_at (length front) ps rest ≡ Err cause → is_short cause ≡ true →
      front_of f n (front ++ rest) ≡ Ok ps
  unfolding front_of
  ends_short front rest ps cause read declared some e short =
      ap (or_front f n (front ++ rest)) (bad_at front rest ps cause read declared some e)
      ∙ ap (λ (b : Bool). cond b (records_of f n (take (length front) (front ++ rest))) (failed (record { at = length front; cause = cause }))) short
      ∙ ap (records_of f n) (take-append_seam front rest) ∙ records_whole front ps read declared

  pub ends_bad : (front rest : List ℕ) (ps : List Placed) (cause : RecordCause) → content_at f n front ≡ Ok ps → undeclared ps ≡ None → 1 ≤ length rest → next_at (length front) ps rest ≡ Err cause → is_short cause ≡ false →
      front_of f n (front ++ rest) ≡ Err (record { at = length front; cause = cause })
  unfolding front_of
  ends_bad front rest ps cause read declared some e long =
      ap (or_front f n (front ++ rest)) (bad_at front rest ps cause read declared some e)
      ∙ ap (λ (b : Bool). cond b (records_of f n (take (length front) (front ++ rest))) (failed (record { at = length front; cause = cause }))) long

  -- a record that names what is not declared
  pub ends_undeclared : (front rest : List ℕ) (ps : List Placed) (x : Entry × List ℕ) → content_at f n front ≡ Ok ps → undeclared ps ≡ None → 1 ≤ length rest → next_at (length front) ps rest ≡ Ok x →
      is_declared (declared_with ps (next_placed (length front) x.0 rest x.1)) x.0 ≡ false → front_of f n (front ++ rest) ≡ Err (record { at = length front; cause = BadBody })
  unfolding front_of records_of
  ends_undeclared front rest ps x read declared some e not_declared =
      let p : Placed = next_placed (length front) x.0 rest x.1 in
      let bad : RecordFault = record { at = length front; cause = BadBody } in
      let r = rest_ok (length front) ps rest x some e in
      let more : Result (List Placed) RecordFault = records_at f n r.0 (length front + (length rest - length x.1)) (epoch_after (last_epoch 0 ps) x.0) (named_after (named_behind (named n []) ps) x.0) x.1 in
      let whole : content_at f n (front ++ rest) ≡ in_fronts ps (in_front p more) = content_on f n front rest ps read ∙ ap (in_fronts ps) r.2 in
      ap (or_front f n (front ++ rest)) (ap (judged f n (front ++ rest)) whole ∙ told front rest ps x read declared e not_declared r.0 r.1 whole more refl)
    where
      told : (front rest : List ℕ) (ps : List Placed) (x : Entry × List ℕ) → content_at f n front ≡ Ok ps → undeclared ps ≡ None → next_at (length front) ps rest ≡ Ok x → is_declared (declared_with ps (next_placed (length front) x.0 rest x.1)) x.0 ≡ false →
          (m : ℕ) → length x.1 ≤ m → {whole : Result (List Placed) RecordFault} → content_at f n (front ++ rest) ≡ whole → (more : Result (List Placed) RecordFault) →
          records_at f n m (length front + (length rest - length x.1)) (epoch_after (last_epoch 0 ps) x.0) (named_after (named_behind (named n []) ps) x.0) x.1 ≡ more →
          judged f n (front ++ rest) (in_fronts ps (in_front (next_placed (length front) x.0 rest x.1) more)) ≡ Err (record { at = length front; cause = BadBody })
      told front rest ps x read declared e no_name m le w (Ok qs) is = ap (λ (o : Option RecordFault). unless o (ps ++ next_placed (length front) x.0 rest x.1 ∷ qs)) (undeclared_push ps (next_placed (length front) x.0 rest x.1) qs declared no_name)
      told front rest ps x read declared e no_name m le w (Err fault) is =
          let p : Placed = next_placed (length front) x.0 rest x.1 in
          let past : ℕ = length front + (length rest - length x.1) in
          let b = records_bad m past (epoch_after (last_epoch 0 ps) x.0) (named_after (named_behind (named n []) ps) x.0) x.1 fault le is in
          let o = one_read front rest ps x read e in
          let own : List ℕ = o.0 in
          let passed : ℕ = b.1 in
          let cut : List ℕ = take passed x.1 in
          let wide : length rest ≡ length own + length x.1 = ap length o.1 ∙ length-append own x.1 in
          let place : length (front ++ own) ≡ past = (let l = length-append front own in omega (arith, l, wide)) in
          let there = b.2 in
          let at : fault.at ≡ length (front ++ own) + passed = omega (arith, there, place) in
          let split : front ++ rest ≡ (front ++ own) ++ x.1 = ap (λ (l : List ℕ). front ++ l) o.1 ∙ sym (append_assoc front own x.1) in
          let before : take fault.at (front ++ rest) ≡ (front ++ own) ++ cut = ap (λ (i : ℕ). take i (front ++ rest)) at ∙ ap (take (length (front ++ own) + passed)) split ∙ take-append-add (front ++ own) x.1 passed in
          let short : length cut ≤ m = (let l = length-take passed x.1 in omega (arith, l, le)) in
          let tail : rest_of f n (length (front ++ own)) (ps ++ p ∷ []) cut ≡ Ok b.0
          = ap (λ (i : ℕ). records_at f n (length cut) i (last_epoch 0 (ps ++ p ∷ [])) (named_behind (named n []) (ps ++ p ∷ [])) cut) place
          ∙ ap (λ (k : ℕ). records_at f n (length cut) past k (named_behind (named n []) (ps ++ p ∷ [])) cut) (epoch_push 0 ps p)
          ∙ ap (λ (vs : List (List ℕ)). records_at f n (length cut) past (epoch_after (last_epoch 0 ps) x.0) vs cut) (named_push (named n []) ps p)
          ∙ records_fuel f n (length cut) m past (epoch_after (last_epoch 0 ps) x.0) (named_after (named_behind (named n []) ps) x.0) cut (omega arith) short ∙ b.4 in
          let all : content_at f n (take fault.at (front ++ rest)) ≡ Ok (ps ++ p ∷ b.0) = ap (content_at f n) before ∙ content_on f n (front ++ own) cut (ps ++ p ∷ []) o.2 ∙ ap (in_fronts (ps ++ p ∷ [])) tail ∙ ap done (append_assoc ps (p ∷ []) b.0) in
          ap (λ (r : Result (List Placed) RecordFault). failed (or_fault (undeclared (or_no_records r)) fault)) all
          ∙ ap (λ (o : Option RecordFault). failed (or_fault o fault)) (undeclared_push ps p b.0 declared no_name)
