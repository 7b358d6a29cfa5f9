-- The bytes of items are their records, one after another.
use Rattle.std.proofs.Common.{ℕ, suc, ◌+◌, ◌≤◌, Bool, false, ◌≡◌, inl, inr, List, [], ◌∷◌, ◌++◌, map, length, replicate, refl, sym, ap, subst, ◌∙◌, arith, append_assoc, slice_index}
use Rattle.std.specs.Prelude.{Some, slice_get, ◌==◌}
use Rattle.std.proofs.lemmas.Bool.{ne_eqb}
use Rattle.std.proofs.lemmas.List.{length-append}
use Rattle.tau_base.specs.declared.value.LogMode.{LogMode}
use Rattle.tau_base.specs.declared.value.LogMode.TheVariants.{Values, Commands, WideValues, WideCommands}
use Rattle.tau_base.specs.declared.format.Format.{Format}
use Rattle.tau_base.specs.Modes.{format_of}
use Rattle.tau_model.specs.History.{Act, Member}
use Rattle.tau_machine.specs.Hands.{Txn}
use Rattle.tau_machine.specs.Pieces.{Chain, records_in, anchors_in, NamesOne, NameTheirs}
use Rattle.tau_machine.specs.State.{Item, Record, Anchor, start_of, past_of}
use Rattle.tau_record.specs.declared.entry.Entry.{Entry}
use Rattle.tau_record.specs.declared.entry.Entry.TheVariants as entry
use Rattle.tau_record.specs.declared.entry.Placed.{Placed}
use Rattle.tau_record.specs.Record.{named, base_of, Spells, Fits, IsNext, epoch_after}
use Rattle.tau_record.specs.Content.{placed, named_after, Begins, Reads}
use Rattle.tau_core.specs.declared.state.Load.{Load}
use Rattle.tau_txn.specs.Record.{entry_of}
use Rattle.tau_core.specs.Pieces.{Names, Spelled}
use Rattle.tau_base.proofs.Lists.{got_front, get_behind, got_or}
use Rattle.tau_base.proofs.Logic.{some_is}

-- the entry of an item, with its place
abbrev pub entry_in : LogMode → Item → Entry
entry_in mode (Record t) = entry_of mode t
entry_in mode (Anchor start past v) = entry.Anchor v

abbrev pub placed_in : LogMode → Item → Placed
placed_in mode i = placed (entry_in mode i) (start_of i) (past_of i)

-- the records stand in this stream
abbrev pub AreOf : ℕ → List Item → Type 0
AreOf j items = (t : Act Txn) → Member t (records_in items) → t.call.place.stream ≡ j

pub spelled_long : (l : Load) (anchors : ℕ → List (List ℕ)) (a b : ℕ) (items : List Item) (bytes : List ℕ) → Spelled l anchors items bytes → Chain a items b → a + length bytes ≡ b
spelled_long l anchors a b [] bytes h c = let e = ap length h in omega (arith, e, c)
spelled_long l anchors a b (i ∷ items) bytes h c =
    let rest = spelled_long l anchors (past_of i) b items h.1 h.5 c.2 in
    let e = ap length h.2 in
    let f = length-append h.0 h.1 in
    let g = h.3 in
    let k = c.0 in
    omega (arith, rest, e, f, g, k)

-- the number of a record tells the base, of the anchors before it in its stream: the old ones, and those of this run
base_is : (l : Load) (n j : ℕ) (olds before more : List (List ℕ)) (t : Txn) (base : List ℕ) → l.streams ≡ n → slice_index l.opening.anchors.items j ≡ length olds →
    NamesOne (slice_index l.opening.anchors.items j) before t → Names l j (before ++ more) t.anchor base → base_of (named n (olds ++ before)) t.anchor ≡ base
base_is l n j olds before more t base width anchored (inl zero_is) (inl p) =
    ap (base_of (named n (olds ++ before))) zero_is ∙ ap (λ k. replicate k 0) (sym width) ∙ sym p.1
base_is l n j olds before more t base width anchored (inl zero_is) (inr p) = let e = p.1 in absurd (omega (arith, zero_is, e))
base_is l n j olds before more t base width anchored (inr q) (inl p) = let e = q.2 in let f = p.0 in absurd (omega (arith, e, f))
base_is l n j olds before more t base width anchored (inr q) (inr p) =
    let one : q.0 ≡ p.0 = (let e = q.2 in let f = p.1 in omega (arith, e, f)) in
    let at : t.anchor ≡ suc (length olds + q.0) = (let e = q.2 in omega (arith, e, anchored)) in
    let got : slice_get (before ++ more) q.0 ≡ Some q.1 = got_front before more q.0 q.1 q.3 in
    let same : q.1 ≡ base = some_is q.1 base (sym got ∙ ap (slice_get (before ++ more)) one ∙ p.2) in
    let there : slice_get (olds ++ before) (length olds + q.0) ≡ Some q.1 = get_behind olds before q.0 ∙ q.3 in
    ap (base_of (named n (olds ++ before))) at ∙ got_or (olds ++ before) (length olds + q.0) q.1 [] there ∙ same

pub begun : (f : Format) (n at k : ℕ) (vectors : List (List ℕ)) (e : Entry) (first rest bytes : List ℕ) (start past : ℕ) → Spells f n vectors false e first → bytes ≡ first ++ rest → 1 ≤ at → start ≡ at →
    start + length first ≡ past → IsNext k e → Begins f n at k vectors bytes rest (placed e start past)
begun f n at k vectors e first rest bytes start past s parts low place long next =
    let other : (at == 0) ≡ false = ne_eqb at 0 (λ z. omega (arith, z, low)) in
    record {
      parts = parts ∙ ap (λ (x : List ℕ). x ++ rest) s.text;
      fits = subst (λ (b : Bool). Fits n vectors b e) (sym other) s.fits;
      next = next;
      starts = place;
      ends = sym long ∙ ap (λ k. k + length first) place ∙ ap (λ (x : List ℕ). at + length x) s.text;
    }

same_vectors : (mode : LogMode) (vectors : List (List ℕ)) (t : Act Txn) → named_after vectors (entry_of mode t) ≡ vectors
same_vectors Values vectors t = refl
same_vectors Commands vectors t = refl
same_vectors WideValues vectors t = refl
same_vectors WideCommands vectors t = refl

same_number : (mode : LogMode) (k : ℕ) (t : Act Txn) → epoch_after k (entry_of mode t) ≡ k
same_number Values k t = refl
same_number Commands k t = refl
same_number WideValues k t = refl
same_number WideCommands k t = refl

no_epoch : (mode : LogMode) (k : ℕ) (t : Act Txn) → IsNext k (entry_of mode t)
no_epoch Values k t = tt
no_epoch Commands k t = tt
no_epoch WideValues k t = tt
no_epoch WideCommands k t = tt

pub reads_items : (l : Load) (anchors : ℕ → List (List ℕ)) (n j at k to : ℕ) (olds before more : List (List ℕ)) (items : List Item) (bytes : List ℕ) → l.streams ≡ n →
    slice_index l.opening.anchors.items j ≡ length olds → Spelled l anchors items bytes → Chain at items to → 1 ≤ at → AreOf j items → NameTheirs (slice_index l.opening.anchors.items j) before items →
    anchors j ≡ (before ++ anchors_in items) ++ more → Reads (format_of l.mode) n at k (named n (olds ++ before)) bytes (map (placed_in l.mode) items)
reads_items l anchors n j at k to olds before more [] bytes width anchored h c low of names all = h
reads_items l anchors n j at k to olds before more (Record t ∷ items) bytes width anchored h c low of names all =
    let own : t.call.place.stream ≡ j = of t (inl refl) in
    let is = h.4 in
    let theirs : Names l j (before ++ (anchors_in items ++ more)) t.call.anchor is.base =
    subst (λ (v : List (List ℕ)). Names l j v t.call.anchor is.base) (all ∙ append_assoc before (anchors_in items) more) (subst (λ k. Names l k (anchors k) t.call.anchor is.base) own is.named) in
    let vectors : List (List ℕ) = named n (olds ++ before) in
    let base = base_is l n j olds before (anchors_in items ++ more) t.call is.base width anchored names.0 theirs in
    let spells : Spells (format_of l.mode) n vectors false (entry_of l.mode t) h.0 = subst (λ k. Spells (format_of l.mode) k vectors false (entry_of l.mode t) h.0) width (is.spelled vectors base) in
    let lt = c.1 in
    let rest = reads_items l anchors n j t.call.place.past k to olds before more items h.1 width anchored h.5 c.2 (omega (arith, lt)) (λ u m. of u (inr m)) names.1 all in (
      h.1,
      begun (format_of l.mode) n at k vectors (entry_of l.mode t) h.0 h.1 bytes t.call.place.start t.call.place.past spells h.2 low c.0 h.3 (no_epoch l.mode k t),
      subst (λ (v : List (List ℕ)). Reads (format_of l.mode) n t.call.place.past (epoch_after k (entry_of l.mode t)) v h.1 (map (placed_in l.mode) items)) (sym (same_vectors l.mode vectors t))
          (subst (λ (q : ℕ). Reads (format_of l.mode) n t.call.place.past q vectors h.1 (map (placed_in l.mode) items)) (sym (same_number l.mode k t)) rest),
    )
reads_items l anchors n j at k to olds before more (Anchor x y v ∷ items) bytes width anchored h c low of names all =
    let vectors : List (List ℕ) = named n (olds ++ before) in
    let spells : Spells (format_of l.mode) n vectors false (entry.Anchor v) h.0 = subst (λ k. Spells (format_of l.mode) k vectors false (entry.Anchor v) h.0) width (h.4 vectors) in
    let lt = c.1 in
    let there : anchors j ≡ ((before ++ v ∷ []) ++ anchors_in items) ++ more = all ∙ ap (λ (z : List (List ℕ)). z ++ more) (sym (append_assoc before (v ∷ []) (anchors_in items))) in
    let rest = reads_items l anchors n j y k to olds (before ++ v ∷ []) more items h.1 width anchored h.5 c.2 (omega (arith, lt)) of names there in
    let after : named n (olds ++ (before ++ v ∷ [])) ≡ vectors ++ v ∷ [] = ap (named n) (sym (append_assoc olds before (v ∷ []))) in (
      h.1,
      begun (format_of l.mode) n at k vectors (entry.Anchor v) h.0 h.1 bytes x y spells h.2 low c.0 h.3 tt,
      subst (λ (z : List (List ℕ)). Reads (format_of l.mode) n y k z h.1 (map (placed_in l.mode) items)) after rest,
    )
