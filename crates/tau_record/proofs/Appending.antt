-- Contents that grow, and the records in them.
use Rattle.std.proofs.Common.{◌≡◌, ℕ, ◌+◌, ◌<◌, ◌≤◌, Bool, true, false, eqb, List, [], ◌∷◌, ◌++◌, length, take, drop, refl, sym, ap, subst, ◌∙◌, append_assoc, arith}
use Rattle.std.proofs.Math.Seq.{take-append-add, drop-append-add}
use Rattle.std.proofs.lemmas.List.{length-append, append-nil}
use Rattle.tau_record.specs.declared.entry.Entry.{Entry}
use Rattle.tau_record.specs.declared.entry.Entry.TheVariants.{Written, Command, Anchor, Catalogue, Epoch}
use Rattle.tau_record.specs.declared.entry.Placed.{Placed}
use Rattle.tau_record.specs.Record.{named, spelling, AreVectors, Fits, IsNext, epoch_after, Spells}
use Rattle.tau_record.specs.Format.{Format}
use Rattle.tau_record.specs.Content.{named_after, named_behind, last_epoch, anchors_of, Begins, Reads, IsContent, placed}
use Rattle.tau_record.proofs.ContentLaws.{named_are, named_keep}
use Rattle.tau_record.proofs.RecordLaws.{eqb_apart, first_epoch}

-- ---- the anchors

after_named : (vectors : List (List ℕ)) (e : Entry) → named_after vectors e ≡ vectors ++ named_after [] e
after_named vectors (Written number anchor dep writes) = sym (append-nil vectors)
after_named vectors (Command number anchor dep call) = sym (append-nil vectors)
after_named vectors (Anchor lv) = refl
after_named vectors (Catalogue text) = sym (append-nil vectors)
after_named vectors (Epoch number lv) = sym (append-nil vectors)

behind_anchors : (vectors : List (List ℕ)) (ps : List Placed) → named_behind vectors ps ≡ vectors ++ anchors_of ps
behind_anchors vectors [] = sym (append-nil vectors)
behind_anchors vectors (p ∷ ps) =
    behind_anchors (named_after vectors p.entry) ps ∙ ap (λ (x : List (List ℕ)). x ++ anchors_of ps) (after_named vectors p.entry) ∙ append_assoc vectors (named_after [] p.entry) (anchors_of ps)

pub named_anchors : (n : ℕ) (ps : List Placed) → named_behind (named n []) ps ≡ named n (anchors_of ps)
named_anchors n ps = behind_anchors (named n []) ps

pub anchors_appended : (ps qs : List Placed) → anchors_of (ps ++ qs) ≡ anchors_of ps ++ anchors_of qs
anchors_appended [] qs = refl
anchors_appended (p ∷ ps) qs = ap (λ (x : List (List ℕ)). named_after [] p.entry ++ x) (anchors_appended ps qs) ∙ sym (append_assoc (named_after [] p.entry) (anchors_of ps) (anchors_of qs))

read_vectors : (f : Format) (n at k : ℕ) (vectors : List (List ℕ)) (content : List ℕ) (ps : List Placed) → AreVectors n vectors → Reads f n at k vectors content ps → AreVectors n (named_behind vectors ps)
read_vectors f n at k vectors content [] are h = are
read_vectors f n at k vectors content (p ∷ ps) are h = read_vectors f n p.past (epoch_after k p.entry) (named_after vectors p.entry) h.0 ps (named_keep n vectors p.entry are h.1.fits.fields) h.2

pub anchor_vectors : (f : Format) (n : ℕ) (content : List ℕ) (ps : List Placed) → IsContent f n content ps → AreVectors n (named n (anchors_of ps))
anchor_vectors f n content ps h = subst (AreVectors n) (named_anchors n ps) (read_vectors f n 0 0 (named n []) content ps (named_are n) h)

-- ---- the epochs

pub epochs_appended : (k : ℕ) (ps qs : List Placed) → last_epoch k (ps ++ qs) ≡ last_epoch (last_epoch k ps) qs
epochs_appended k [] qs = refl
epochs_appended k (p ∷ ps) qs = epochs_appended (epoch_after k p.entry) ps qs

not_below : (k : ℕ) (e : Entry) → IsNext k e → k ≤ epoch_after k e
not_below k (Written number anchor dep writes) next = omega arith
not_below k (Command number anchor dep call) next = omega arith
not_below k (Anchor lv) next = omega arith
not_below k (Catalogue text) next = omega arith
not_below k (Epoch number lv) next = omega (arith, next)

-- an epoch is above k, whatever is read between
above_last : (f : Format) (n at k : ℕ) (vectors : List (List ℕ)) (content : List ℕ) (between : List Placed) (q : Placed) (after : List Placed) (number : ℕ) (lv : List ℕ)
    → Reads f n at k vectors content (between ++ q ∷ after) → q.entry ≡ Epoch number lv → k < number
above_last f n at k vectors content [] q after number lv h is = subst (λ (e : Entry). IsNext k e) is h.1.next
above_last f n at k vectors content (p ∷ ps) q after number lv h is =
    let more = above_last f n p.past (epoch_after k p.entry) (named_after vectors p.entry) h.0 ps q after number lv h.2 is in
    omega (arith, more, not_below k p.entry h.1.next)

rise_from : (f : Format) (n at k : ℕ) (vectors : List (List ℕ)) (content : List ℕ) (before : List Placed) (p : Placed) (between : List Placed) (q : Placed) (after : List Placed) (low high : ℕ) (v w : List ℕ)
    → Reads f n at k vectors content (before ++ p ∷ (between ++ q ∷ after)) → p.entry ≡ Epoch low v → q.entry ≡ Epoch high w → low < high
rise_from f n at k vectors content [] p between q after low high v w h first second =
    let more = above_last f n p.past (epoch_after k p.entry) (named_after vectors p.entry) h.0 between q after high w h.2 second in
    omega (arith, more, ap (epoch_after k) first)
rise_from f n at k vectors content (b ∷ before) p between q after low high v w h first second =
    rise_from f n b.past (epoch_after k b.entry) (named_after vectors b.entry) h.0 before p between q after low high v w h.2 first second

pub epochs_rise : (f : Format) (n : ℕ) (content : List ℕ) (before : List Placed) (p : Placed) (between : List Placed) (q : Placed) (after : List Placed) (low high : ℕ) (v w : List ℕ)
    → IsContent f n content (before ++ p ∷ (between ++ q ∷ after)) → p.entry ≡ Epoch low v → q.entry ≡ Epoch high w → low < high
epochs_rise f n content before p between q after low high v w h first second = rise_from f n 0 0 (named n []) content before p between q after low high v w h first second

-- ---- contents that grow

reads_more : (f : Format) (n at k : ℕ) (vectors : List (List ℕ)) (content more : List ℕ) (ps qs : List Placed) → Reads f n at k vectors content ps → Reads f n (at + length content) (last_epoch k ps) (named_behind vectors ps) more qs → Reads f n at k vectors (content ++ more) (ps ++ qs)
reads_more f n at k vectors content more [] qs h g =
    let place : at + length content ≡ at = omega (arith, ap length h) in
    subst (λ (x : List ℕ). Reads f n at k vectors (x ++ more) qs) (sym h) (subst (λ (a : ℕ). Reads f n a k vectors more qs) place g)
reads_more f n at k vectors content more (p ∷ ps) qs h g =
    let text = spelling f vectors p.entry in
    let rest = h.0 in
    let lens : length content ≡ length text + length rest = ap length h.1.parts ∙ length-append text rest in
    let place : at + length content ≡ p.past + length rest = omega (arith, lens, h.1.ends) in
    let number = epoch_after k p.entry in
    let next = reads_more f n p.past number (named_after vectors p.entry) rest more ps qs h.2 (subst (λ (a : ℕ). Reads f n a (last_epoch number ps) (named_behind (named_after vectors p.entry) ps) more qs) place g) in
    (rest ++ more, record { parts = ap (λ (x : List ℕ). x ++ more) h.1.parts ∙ append_assoc text rest more; fits = h.1.fits; next = h.1.next; starts = h.1.starts; ends = h.1.ends }, next)

pub appended_content : (f : Format) (n : ℕ) (content more : List ℕ) (ps qs : List Placed) → IsContent f n content ps → Reads f n (length content) (last_epoch 0 ps) (named n (anchors_of ps)) more qs → IsContent f n (content ++ more) (ps ++ qs)
appended_content f n content more ps qs h g =
    let same : length content ≡ 0 + length content = omega arith in
    let there = subst (λ (v : List (List ℕ)). Reads f n (length content) (last_epoch 0 ps) v more qs) (sym (named_anchors n ps)) g in
    reads_more f n 0 0 (named n []) content more ps qs h (subst (λ (a : ℕ). Reads f n a (last_epoch 0 ps) (named_behind (named n []) ps) more qs) same there)

pub empty_content : (f : Format) (n : ℕ) → IsContent f n [] []
empty_content f n = refl

one_record : (f : Format) (n at k past : ℕ) (vectors : List (List ℕ)) (e : Entry) (bytes : List ℕ) → past ≡ at + length bytes → Spells f n vectors (eqb at 0) e bytes → IsNext k e → Reads f n at k vectors bytes (placed e at past ∷ [])
one_record f n at k past vectors e bytes ends s next = ([], record { parts = s.text ∙ sym (append-nil (spelling f vectors e)); fits = s.fits; next = next; starts = refl; ends = ends ∙ ap (λ (x : List ℕ). at + length x) s.text }, refl)

pub first_record : (f : Format) (n : ℕ) (e : Entry) (bytes : List ℕ) → Spells f n (named n []) true e bytes → IsContent f n bytes (placed e 0 (length bytes) ∷ [])
first_record f n e bytes s = one_record f n 0 0 (length bytes) (named n []) e bytes (omega arith) s (first_epoch n (named n []) true e s.fits)

pub appended_record : (f : Format) (n : ℕ) (content : List ℕ) (ps : List Placed) (e : Entry) (bytes : List ℕ) → IsContent f n content ps → 1 ≤ length content → Spells f n (named n (anchors_of ps)) false e bytes
    → IsNext (last_epoch 0 ps) e → IsContent f n (content ++ bytes) (ps ++ placed e (length content) (length content + length bytes) ∷ [])
appended_record f n content ps e bytes h some s next =
    let behind : eqb (length content) 0 ≡ false = eqb_apart (length content) 0 (λ z. omega (arith, z, some)) in
    let spells = subst (λ (first : Bool). Spells f n (named n (anchors_of ps)) first e bytes) (sym behind) s in
    appended_content f n content bytes ps (placed e (length content) (length content + length bytes) ∷ []) h
    (one_record f n (length content) (last_epoch 0 ps) (length content + length bytes) (named n (anchors_of ps)) e bytes refl spells next)

-- ---- a record in its place

-- what is left from a place on is these records, one record, and more
pub record Parted (f : Format) (n at k : ℕ) (vectors : List (List ℕ)) (content : List ℕ) (ps : List Placed) (q : Placed) : Type 0 where
  pub passed : ℕ
  pub long : ℕ
  pub start : q.start ≡ at + passed
  pub past : q.past ≡ at + passed + long
  pub within : passed + long ≤ length content
  pub front : Reads f n at k vectors (take passed content) ps
  pub there : Begins f n q.start (last_epoch k ps) (named_behind vectors ps) (drop passed content) (drop (passed + long) content) q

parted : (f : Format) (n at k : ℕ) (vectors : List (List ℕ)) (content : List ℕ) (ps : List Placed) (q : Placed) (qs : List Placed) → Reads f n at k vectors content (ps ++ q ∷ qs) → Parted f n at k vectors content ps q
parted f n at k vectors content [] q qs h =
    let text = spelling f vectors q.entry in
    let rest = h.0 in
    let lens : length content ≡ length text + length rest = ap length h.1.parts ∙ length-append text rest in
    let none : 0 + length text ≡ length text + 0 = omega arith in
    let behind : rest ≡ drop (0 + length text) content = sym (ap (drop (0 + length text)) h.1.parts ∙ ap (λ (k : ℕ). drop k (text ++ rest)) none ∙ drop-append-add text rest 0) in
    let begins : Begins f n q.start k vectors content rest q = record {
      parts = h.1.parts;
      fits = subst (λ (a : ℕ). Fits n vectors (eqb a 0) q.entry) (sym h.1.starts) h.1.fits;
      next = h.1.next;
      starts = refl;
      ends = h.1.ends ∙ ap (λ (k : ℕ). k + length text) (sym h.1.starts);
    } in
    record {
      passed = 0;
      long = length text;
      start = omega (arith, h.1.starts);
      past = omega (arith, h.1.ends);
      within = omega (arith, lens);
      front = refl;
      there = subst (λ (x : List ℕ). Begins f n q.start k vectors content x q) behind begins;
    }
parted f n at k vectors content (p ∷ ps) q qs h =
    let text = spelling f vectors p.entry in
    let rest = h.0 in
    let lens : length content ≡ length text + length rest = ap length h.1.parts ∙ length-append text rest in
    let number = epoch_after k p.entry in
    let m = parted f n p.past number (named_after vectors p.entry) rest ps q qs h.2 in
    let front : take (length text + m.passed) content ≡ text ++ take m.passed rest = ap (take (length text + m.passed)) h.1.parts ∙ take-append-add text rest m.passed in
    let behind : drop m.passed rest ≡ drop (length text + m.passed) content = sym (ap (drop (length text + m.passed)) h.1.parts ∙ drop-append-add text rest m.passed) in
    let sum : length text + m.passed + m.long ≡ length text + (m.passed + m.long) = omega arith in
    let after : drop (m.passed + m.long) rest ≡ drop (length text + m.passed + m.long) content =
    sym (ap (λ (k : ℕ). drop k content) sum ∙ ap (drop (length text + (m.passed + m.long))) h.1.parts ∙ drop-append-add text rest (m.passed + m.long)) in
    let there = subst (λ (x : List ℕ). Begins f n q.start (last_epoch number ps) (named_behind (named_after vectors p.entry) ps) x (drop (m.passed + m.long) rest) q) behind m.there in
    record {
      passed = length text + m.passed;
      long = m.long;
      start = omega (arith, m.start, h.1.ends);
      past = omega (arith, m.past, h.1.ends);
      within = omega (arith, m.within, lens);
      front = (take m.passed rest, record { parts = front; fits = h.1.fits; next = h.1.next; starts = h.1.starts; ends = h.1.ends }, m.front);
      there = subst (λ (x : List ℕ). Begins f n q.start (last_epoch number ps) (named_behind (named_after vectors p.entry) ps) (drop (length text + m.passed) content) x q) after there;
    }

pub record_in_place : (f : Format) (n : ℕ) (content : List ℕ) (ps : List Placed) (q : Placed) (qs : List Placed) → IsContent f n content (ps ++ q ∷ qs)
    → IsContent f n (take q.start content) ps × Begins f n q.start (last_epoch 0 ps) (named n (anchors_of ps)) (drop q.start content) (drop q.past content) q × (q.past ≤ length content)
record_in_place f n content ps q qs h =
    let m = parted f n 0 0 (named n []) content ps q qs h in
    let start : m.passed ≡ q.start = omega (arith, m.start) in
    let past : m.passed + m.long ≡ q.past = omega (arith, m.past) in
    let front = subst (λ (k : ℕ). IsContent f n (take k content) ps) start m.front in
    let from = subst (λ (k : ℕ). Begins f n q.start (last_epoch 0 ps) (named_behind (named n []) ps) (drop k content) (drop (m.passed + m.long) content) q) start m.there in
    let upto = subst (λ (k : ℕ). Begins f n q.start (last_epoch 0 ps) (named_behind (named n []) ps) (drop q.start content) (drop k content) q) past from in
    (front, subst (λ (v : List (List ℕ)). Begins f n q.start (last_epoch 0 ps) v (drop q.start content) (drop q.past content) q) (named_anchors n ps) upto, omega (arith, m.within, past))
