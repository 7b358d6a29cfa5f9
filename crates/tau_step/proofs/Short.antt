-- No item that is posted is longer than a block.
use Rattle.std.proofs.Common.{ℕ, zero, suc, ◌+◌, ◌≤◌, ◌≡◌, inl, inr, false, List, [], ◌∷◌, ◌++◌, length, refl, ap, subst, ◌∙◌, Option, arith, length-append}
use Rattle.std.specs.Prelude.{Some, None, slice_get}
use Rattle.std.specs.Int.{w16, w32, w64, to_be_bytes}
use Rattle.std.specs.List.{flat_map}
use Rattle.std.proofs.lemmas.List.{length-replicate}
use Rattle.tau_base.specs.declared.limits.TheConstants.{MAX_BODY}
use Rattle.tau_base.specs.declared.format.Format.{Format}
use Rattle.tau_base.specs.declared.format.Format.TheVariants.{One, Two}
use Rattle.tau_base.specs.Modes.{format_of}
use Rattle.tau_base.proofs.Modes.{streams_most}
use Rattle.tau_record.specs.Format.{mask_width}
use Rattle.tau_record.specs.Vector.{mask_of}
use Rattle.tau_record.specs.Item.{value, write}
use Rattle.tau_record.specs.Record.{origin, base_of, body, FitsBody, Spells}
use Rattle.tau_record.specs.declared.entry.Entry.{Entry}
use Rattle.tau_record.specs.declared.entry.Entry.TheVariants.{Written, Command, Anchor, Catalogue, Epoch}
use Rattle.tau_record.proofs.VectorLaws.{explicit}
use Rattle.tau_model.specs.History.{Act, Member}
use Rattle.tau_machine.specs.Hands.{Txn}
use Rattle.tau_machine.specs.State as machine
use Rattle.tau_machine.specs.State.{Item, start_of, past_of}
use Rattle.tau_outbox.specs.declared.Piece.{Piece}
use Rattle.tau_txn.specs.Record.{entry_of}
use Rattle.tau_core.specs.Plain.{PlainStream}
use Rattle.tau_core.specs.State.{Plain}
use Rattle.tau_core.specs.View.{Hidden, core_of, setting_of, anchors_in}
use Rattle.tau_core.specs.Pieces.{AreBytesOf, IsPieceOf, Names, Paired}
use Rattle.tau_core.specs.Stands.{Stands, anchors_at}
use Rattle.tau_step.proofs.RunEnds.{AreShort}
use Rattle.tau_base.proofs.Lists.{some_at}
use Rattle.tau_record.proofs.SizeLaws.{lv_len, explicit_len, writes_len, args_len}

-- ---- how long a record is

mask_long : (f : Format) (m : ℕ) → length (to_be_bytes (mask_width f) m) ≤ 4
unfolding mask_width
mask_long One m = omega arith
mask_long Two m = omega arith

origin_long : (f : Format) (base : List ℕ) (number anchor : ℕ) (dep : List ℕ) → length base ≤ 32 → length (origin f base number anchor dep) ≤ 272
origin_long f base number anchor dep le =
    omega (arith, length-append (to_be_bytes (mask_width f) (mask_of base dep)) (explicit base dep), mask_long f (mask_of base dep), explicit_len base dep, le)

body_short : (f : Format) (n : ℕ) (vectors : List (List ℕ)) (e : Entry) → n ≤ 32 → ((k : ℕ) → length (base_of vectors k) ≤ 32) → FitsBody n vectors e → 5 + length (body f vectors e) ≤ MAX_BODY
body_short f n vectors (Written number anchor dep writes) le short h =
    omega (arith, length-append (origin f (base_of vectors anchor) number anchor dep) (to_be_bytes w16 (length writes) ++ flat_map write writes), origin_long f (base_of vectors anchor) number anchor dep (short anchor), writes_len writes h.4, h.2)
body_short f n vectors (Command number anchor dep call) le short h =
    omega (
      arith,
      length-append (origin f (base_of vectors anchor) number anchor dep) (to_be_bytes w16 call.proc ++ ((length call.args.items ∷ []) ++ flat_map value call.args.items)),
      origin_long f (base_of vectors anchor) number anchor dep (short anchor),
      args_len call.args.items h.3,
      h.2,
    )
body_short f n vectors (Anchor lv) le short h = omega (arith, lv_len lv, h.0, le)
body_short f n vectors (Catalogue text) le short h = omega (arith, h.0)
body_short f n vectors (Epoch number lv) le short h = omega (arith, length-append (to_be_bytes w32 number) (flat_map (to_be_bytes w64) lv), lv_len lv, h.2, le)

spelled_short : (f : Format) (n : ℕ) (vectors : List (List ℕ)) (e : Entry) (bytes : List ℕ) → n ≤ 32 → ((k : ℕ) → length (base_of vectors k) ≤ 32) → Spells f n vectors false e bytes → length bytes ≤ MAX_BODY
spelled_short f n vectors e bytes le short s = (let size = ap (length {A = ℕ}) s.text in let small = body_short f n vectors e le short s.fits.fields in omega (arith, size, small))

-- ---- a vector at a number, and no others

abbrev only_at : ℕ → List ℕ → List (List ℕ)
only_at zero base = base ∷ []
only_at (suc n) base = [] ∷ only_at n base

only_is : (n : ℕ) (base : List ℕ) → base_of (only_at n base) n ≡ base
only_is zero base = refl
only_is (suc n) base = only_is n base

only_short : (n : ℕ) (base : List ℕ) → length base ≤ 32 → (k : ℕ) → length (base_of (only_at n base) k) ≤ 32
only_short zero base le zero = le
only_short zero base le (suc k) = omega arith
only_short (suc n) base le zero = omega arith
only_short (suc n) base le (suc k) = only_short n base le k

member_at : {A : Type 0} (xs : List A) (i : ℕ) (x : A) → slice_get xs i ≡ Some x → Member x xs
member_at [] i x e = absurd (let bad : None ≡ Some x = e in cc)
member_at (y ∷ ys) zero x e = inl (let f : Some y ≡ Some x = e in cc)
member_at (y ∷ ys) (suc i) x e = inr (member_at ys i x e)

-- ---- items

module _ (p : Plain) (K : List (Act Txn)) (h : Hidden) (g : Stands p K h) where
  few : p.load.streams ≤ 32
  few = omega (arith, g.sound.streams_high, streams_most (format_of p.load.mode))

  narrow_in : (j : ℕ) (a : List ℕ) (o : Option PlainStream) → slice_get p.streams j ≡ o → Member a (anchors_in o) → length a ≤ 32
  narrow_in j a None e m = absurd m
  narrow_in j a (Some s) e m = (let q = (g.sound.wide j s e).0 a m in omega (arith, q, few))

  base_narrow : (j number : ℕ) (base : List ℕ) → Names p.load j (anchors_at p j) number base → length base ≤ 32
  base_narrow j number base (inl (z, e)) = (let size = ap (length {A = ℕ}) e ∙ length-replicate p.load.streams 0 in omega (arith, size, few))
  base_narrow j number base (inr (i, n, is)) = narrow_in j base (slice_get p.streams j) refl (member_at (anchors_at p j) i base is)

  bytes_short : (i : Item) (bytes : List ℕ) → AreBytesOf p.load (anchors_at p) i bytes → length bytes ≤ MAX_BODY
  bytes_short (machine.Record t) bytes q =
      spelled_short (format_of p.load.mode) p.load.streams (only_at t.call.anchor q.base) (entry_of p.load.mode t) bytes few
      (only_short t.call.anchor q.base (base_narrow t.call.place.stream t.call.anchor q.base q.named)) (q.spelled (only_at t.call.anchor q.base) (only_is t.call.anchor q.base))
  bytes_short (machine.Anchor start past v) bytes q =
      spelled_short (format_of p.load.mode) p.load.streams (only_at 0 []) (Anchor v) bytes few (only_short 0 [] (omega arith)) (q (only_at 0 []))

  abbrev IsShort : Item → Type 0
  IsShort i = past_of i ≤ start_of i + MAX_BODY

  piece_short : (x : Piece) (i : Item) → IsPieceOf p.load (anchors_at p) x i → IsShort i
  piece_short x i q = (let start = q.start in let past = q.past in let long = bytes_short i x.bytes q.bytes in omega (arith, start, past, long))

  paired_short : (xs : List Piece) (is : List Item) → Paired (IsPieceOf p.load (anchors_at p)) xs is → (i : Item) → Member i is → IsShort i
  paired_short [] [] q i m = absurd m
  paired_short [] (y ∷ ys) q i m = absurd q
  paired_short (x ∷ xs) [] q i m = absurd m
  paired_short (x ∷ xs) (y ∷ ys) q i (inl e) = subst IsShort e (piece_short x y q.0)
  paired_short (x ∷ xs) (y ∷ ys) q i (inr m) = paired_short xs ys q.1 i m

  pub are_short : AreShort (setting_of p.load) p.load.workers p.load.streams (core_of p h)
  are_short = record {
    posted = λ w i lt m. (let (s, is) = some_at p.seats w (let e = g.sound.seats in omega arith) in paired_short s.outbox.pieces (h.posted w) (g.posted w s is) i m);
    own = λ j i lt m. (let (s, is) = some_at p.streams j (let e = g.sound.streams in omega arith) in paired_short s.own.pieces (h.own j) (g.own j s is) i m);
  }
