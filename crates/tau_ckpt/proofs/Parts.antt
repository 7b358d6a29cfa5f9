-- An image of a slot has one frame, a body one front, and so the slot one checkpoint.
use Rattle.std.proofs.Common.{◌≡◌, ℕ, ◌^◌, ◌<◌, ◌≤◌, true, List, [], ◌∷◌, ◌++◌, length, get_or, take, drop, refl, sym, ap, subst, ◌∙◌, append_assoc, arith, length-append, length-take-le, take-append-drop, append-nil}
use Rattle.std.specs.Int.{w16, w32, w64, from_be_bytes, to_be_bytes}
use Rattle.std.specs.Prelude.{Option, Some, None, IfSome, IfNone}
use Rattle.std.specs.List.{flat_map, list_all}
use Rattle.std.proofs.lemmas.List.{take_at, drop_at}
use Rattle.tau_base.specs.declared.value.Key.{Key}
use Rattle.tau_base.specs.declared.value.Value.{Value}
use Rattle.tau_model.specs.Tables.{is_present}
use Rattle.tau_record.specs.Item.{write}
use Rattle.tau_record.specs.Rows.{IsRead}
use Rattle.tau_record.proofs.FieldLaws.{wide16, wide32, wide64}
use Rattle.tau_record.proofs.RowLaws.{rows_once}
use Rattle.tau_ckpt.specs.Slot.{frame, head_text, head_of, body_text, ArePositions, Begins, FitsCheckpoint, Holds, IsBody, IsFramed}
use Rattle.tau_ckpt.specs.declared.checkpoint.Checkpoint.{Checkpoint}
use Rattle.tau_ckpt.specs.declared.checkpoint.TheConstants.{MAX_NUMBER}
use Rattle.tau_ckpt.specs.declared.front.Head.{Head}
use Rattle.tau_ckpt.proofs.Fields.{after_number, number_once, number_here, positions_once, spelled}

-- ---- the frame

pub frame_long : (streams slot size : ℕ) → length (frame streams slot size) ≡ 24
unfolding frame
frame_long streams slot size = refl

pub one_frame : (slot : ℕ) (image : List ℕ) (a b : ℕ) (x y : List ℕ) → IsFramed slot image a x → IsFramed slot image b y → (a ≡ b) × (x ≡ y)
unfolding frame
one_frame slot image a b x y p q =
    let e : to_be_bytes w16 a ++ (to_be_bytes w16 slot ++ (to_be_bytes w64 (length x) ++ (x ++ p.rest))) ≡ to_be_bytes w16 b ++ (to_be_bytes w16 slot ++ (to_be_bytes w64 (length y) ++ (y ++ q.rest)))
    = ap (drop 13) (sym p.parts ∙ q.parts) in
    let streams = number_once w16 (2 ^ 16) wide16 a b (to_be_bytes w16 slot ++ (to_be_bytes w64 (length x) ++ (x ++ p.rest))) (to_be_bytes w16 slot ++ (to_be_bytes w64 (length y) ++ (y ++ q.rest))) e (omega (arith, p.few)) (omega (arith, q.few)) in
    let sizes : to_be_bytes w64 (length x) ++ (x ++ p.rest) ≡ to_be_bytes w64 (length y) ++ (y ++ q.rest) = ap (drop 4) e in
    let s = number_here (length x) (length y) (x ++ p.rest) (y ++ q.rest) p.short q.short sizes in
    (streams, sym (take_at x p.rest (length x) refl) ∙ ap (take (length x)) s.1 ∙ take_at y q.rest (length x) (sym s.0))

-- ---- the front of a body

module _ (streams : ℕ) (body : List ℕ) (k : Head) (y : List ℕ) (q : Begins streams body k y) where
  abbrev pub counted : List ℕ
  counted = to_be_bytes w64 k.count ++ y

  abbrev pub placed : List ℕ
  placed = spelled k.lv ++ counted

  abbrev pub dated : List ℕ
  dated = to_be_bytes w32 k.epoch ++ placed

  pub whole : body ≡ to_be_bytes w64 k.number ++ dated
  unfolding head_text
  whole = q.parts ∙ ap (λ (l : List ℕ). to_be_bytes w64 k.number ++ (to_be_bytes w32 k.epoch ++ l)) (append_assoc (spelled k.lv) (to_be_bytes w64 k.count) y)

  -- what is left after each field
  module _ (number : ℕ) (first : List ℕ) (one : body ≡ to_be_bytes w64 number ++ first) where
    pub first_is : first ≡ dated
    first_is = after_number w64 (2 ^ 64) wide64 number k.number first dated (sym one ∙ whole)

    module _ (epoch : ℕ) (second : List ℕ) (two : first ≡ to_be_bytes w32 epoch ++ second) where
      pub second_is : second ≡ placed
      second_is = after_number w32 (2 ^ 32) wide32 epoch k.epoch second placed (sym two ∙ first_is)

      pub positions_here : ArePositions streams second k.lv counted
      positions_here = record { width = q.width; places = q.places; parts = second_is }

      module _ (lv third : List ℕ) (three : ArePositions streams second lv third) where
        pub third_is : third ≡ counted
        third_is = (positions_once lv k.lv third counted three.places q.places (three.width ∙ sym q.width) (sym three.parts ∙ second_is)).1

pub one_head : (streams : ℕ) (body : List ℕ) (h k : Head) (x y : List ℕ) → Begins streams body h x → Begins streams body k y → (h ≡ k) × (x ≡ y)
one_head streams body h k x y p q =
    let n = number_here h.number k.number (dated streams body h x p) (dated streams body k y q) p.number q.number (sym (whole streams body h x p) ∙ whole streams body k y q) in
    let e = number_once w32 (2 ^ 32) wide32 h.epoch k.epoch (placed streams body h x p) (placed streams body k y q) n.1 p.epoch q.epoch in
    let l = after_number w32 (2 ^ 32) wide32 h.epoch k.epoch (placed streams body h x p) (placed streams body k y q) n.1 in
    let v = positions_once h.lv k.lv (counted streams body h x p) (counted streams body k y q) p.places q.places (p.width ∙ sym q.width) l in
    let c = number_here h.count k.count x y p.count q.count v.1 in
    ((λ i. record { number = n.0 i; epoch = e i; lv = v.0 i; count = c.0 i }), c.1)

-- ---- the checkpoint

pub row_some : (row : Key × Value) → 1 ≤ length (write row)
row_some row = omega arith

pub rows_some : (rows : List (Key × Value)) → length rows ≤ length (flat_map write rows)
rows_some [] = omega arith
rows_some (row ∷ rows) = let h = rows_some rows in let s = row_some row in let e = length-append (write row) (flat_map write rows) in omega (arith, h, s, e)

pub begins_of : (streams : ℕ) (body : List ℕ) (c : Checkpoint) → IsBody streams body c → Begins streams body (head_of c) (flat_map write c.rows)
begins_of streams body c is =
    let some = rows_some c.rows in
    let long = length-append (head_text (head_of c)) (flat_map write c.rows) in
    record {
      number = omega (arith, is.fits.high);
      epoch = is.fits.epoch;
      count = omega (arith, is.fits.short, some, long);
      width = is.width;
      places = is.fits.places;
      parts = is.text;
    }

pub read_of : (c : Checkpoint) → FitsCheckpoint c → IsRead (length c.rows) (flat_map write c.rows) c.rows []
read_of c fits = record { count_is = refl; are_rows = fits.are_rows; parts = sym (append-nil (flat_map write c.rows)) }

pub framed_of : (slot : ℕ) (image : List ℕ) (c : Checkpoint) → Holds slot image c → IsFramed slot image (length c.lv) (body_text c)
framed_of slot image c h = record {
  some = h.fits.some;
  few = h.fits.few;
  short = h.fits.short;
  rest = h.rest;
  parts = h.parts ∙ ap (λ (l : List ℕ). 1 ∷ l) (append_assoc (frame (length c.lv) slot (length (body_text c))) (body_text c) h.rest);
}

pub body_of : (c : Checkpoint) → FitsCheckpoint c → IsBody (length c.lv) (body_text c) c
body_of c fits = record { fits = fits; width = refl; text = refl }

pub same_checkpoint : (streams : ℕ) (body : List ℕ) (c d : Checkpoint) → IsBody streams body c → IsBody streams body d → c ≡ d
same_checkpoint streams body c d p q =
    let h = one_head streams body (head_of c) (head_of d) (flat_map write c.rows) (flat_map write d.rows) (begins_of streams body c p) (begins_of streams body d q) in
    let count : length c.rows ≡ length d.rows = ap (λ (k : Head). k.count) h.0 in
    let other : IsRead (length c.rows) (flat_map write c.rows) d.rows [] = subst (λ (n : ℕ). IsRead n (flat_map write c.rows) d.rows []) (sym count) (subst (λ (l : List ℕ). IsRead (length d.rows) l d.rows []) (sym h.1) (read_of d q.fits)) in
    let rows = (rows_once (length c.rows) (flat_map write c.rows) c.rows d.rows [] [] (read_of c p.fits) other).0 in
    λ i. record { number = (h.0 i).number; epoch = (h.0 i).epoch; lv = (h.0 i).lv; rows = rows i }

-- a body is in an image in one way, and so its checkpoint
pub body_again : (slot : ℕ) (image : List ℕ) (streams : ℕ) (body : List ℕ) (c : Checkpoint) → IsFramed slot image streams body → Holds slot image c → IsBody streams body c
body_again slot image streams body c f h =
    let same = one_frame slot image (length c.lv) streams (body_text c) body (framed_of slot image c h) f in
    subst (λ (n : ℕ). IsBody n body c) same.0 (subst (λ (b : List ℕ). IsBody (length c.lv) b c) same.1 (body_of c h.fits))

pub held_once : (slot : ℕ) (image : List ℕ) (c d : Checkpoint) → Holds slot image c → Holds slot image d → c ≡ d
held_once slot image c d p q =
    same_checkpoint (length c.lv) (body_text c) c d (body_of c p.fits) (body_again slot image (length c.lv) (body_text c) d (framed_of slot image c p) q)

-- ---- a frame as it is read

pub first_apart : (l : List ℕ) → 1 ≤ length l → l ≡ get_or l 0 0 ∷ drop 1 l
first_apart [] some = absurd (omega (arith, some))
first_apart (x ∷ l) some = refl

-- the number of streams and the size of the body, where they stand in a frame
abbrev pub streams_at : List ℕ → ℕ
streams_at front = from_be_bytes w16 (get_or front 12 0 ∷ get_or front 13 0 ∷ [])

abbrev pub size_at : List ℕ → ℕ
size_at front = from_be_bytes w64 (get_or front 16 0 ∷ get_or front 17 0 ∷ get_or front 18 0 ∷ get_or front 19 0 ∷ get_or front 20 0 ∷ get_or front 21 0 ∷ get_or front 22 0 ∷ get_or front 23 0 ∷ [])

-- what an image that has a frame is cut into
module _ (slot : ℕ) (image front behind : List ℕ) (first : front ≡ take 24 (drop 1 image)) (second : behind ≡ drop 24 (drop 1 image)) where
  module _ (streams : ℕ) (body : List ℕ) (f : IsFramed slot image streams body) where
    pub front_is : front ≡ frame streams slot (length body)
    front_is = first ∙ ap (λ (l : List ℕ). take 24 (drop 1 l)) f.parts ∙ take_at (frame streams slot (length body)) (body ++ f.rest) 24 (frame_long streams slot (length body))

    pub behind_is : behind ≡ body ++ f.rest
    behind_is = second ∙ ap (λ (l : List ℕ). drop 24 (drop 1 l)) f.parts ∙ drop_at (frame streams slot (length body)) (body ++ f.rest) 24 (frame_long streams slot (length body))

    pub streams_are : streams_at front ≡ streams
    unfolding frame
    streams_are = ap streams_at front_is ∙ wide16.again streams (omega (arith, f.few))

    pub size_is : size_at front ≡ length body
    unfolding frame
    size_is = ap size_at front_is ∙ wide64.again (length body) f.short

    pub frame_again : front ≡ frame (streams_at front) slot (size_at front)
    frame_again = front_is ∙ (λ i. frame (sym streams_are i) slot (sym size_is i))

    pub size_within : size_at front ≤ length behind
    size_within = omega (arith, size_is, ap length behind_is, length-append body f.rest)

  -- and the other way
  pub framed_here : (streams size : ℕ) → 25 ≤ length image → get_or image 0 0 ≡ 1 → 1 ≤ streams → streams ≤ 32 → size < 2 ^ 64 → front ≡ frame streams slot size → size ≤ length behind
      → IsFramed slot image streams (take size behind)
  framed_here streams size long gate some few small same within =
      let full : length (take size behind) ≡ size = length-take-le size behind within in
      let cut : drop 1 image ≡ front ++ behind = sym (take-append-drop 24 (drop 1 image)) ∙ (λ i. sym first i ++ sym second i) in
      record {
        some = some;
        few = few;
        short = omega (arith, full, small);
        rest = drop size behind;
        parts = first_apart image (omega (arith, long))
            ∙ (λ i. gate i ∷ cut i)
            ∙ (λ i. 1 ∷ (same i ++ sym (take-append-drop size behind) i))
            ∙ ap (λ (n : ℕ). 1 ∷ (frame streams slot n ++ (take size behind ++ drop size behind))) (sym full);
      }

pub frame_short : (slot : ℕ) (image : List ℕ) (streams : ℕ) (body : List ℕ) → IsFramed slot image streams body → 25 ≤ length image
frame_short slot image streams body f =
    omega (arith, ap length f.parts, length-append (frame streams slot (length body)) (body ++ f.rest), frame_long streams slot (length body))

-- fields that were read one after another
pub head_begins : (streams : ℕ) (body : List ℕ) (h : Head) (first second third rest : List ℕ) → h.number < 2 ^ 64 → h.epoch < 2 ^ 32 → h.count < 2 ^ 64
    → body ≡ to_be_bytes w64 h.number ++ first → first ≡ to_be_bytes w32 h.epoch ++ second → ArePositions streams second h.lv third → third ≡ to_be_bytes w64 h.count ++ rest
    → Begins streams body h rest
unfolding head_text
head_begins streams body h first second third rest number epoch count one two three four = record {
  number = number;
  epoch = epoch;
  count = count;
  width = three.width;
  places = three.places;
  parts = one
      ∙ ap (λ (l : List ℕ). to_be_bytes w64 h.number ++ l) two
      ∙ ap (λ (l : List ℕ). to_be_bytes w64 h.number ++ (to_be_bytes w32 h.epoch ++ l)) (three.parts ∙ ap (λ (l : List ℕ). spelled h.lv ++ l) four ∙ sym (append_assoc (spelled h.lv) (to_be_bytes w64 h.count) rest));
}

-- ---- a body as it is read

module _ (streams : ℕ) (body : List ℕ) (h : Head) (rest : List ℕ) (b : Begins streams body h rest) where
  module _ (d : Checkpoint) (is : IsBody streams body d) where
    head_same : (head_of d ≡ h) × (flat_map write d.rows ≡ rest)
    head_same = one_head streams body (head_of d) h (flat_map write d.rows) rest (begins_of streams body d is) b

    pub number_same : d.number ≡ h.number
    number_same = ap (λ (k : Head). k.number) head_same.0

    -- its rows are read
    pub rows_here : IsRead h.count rest d.rows []
    rows_here =
        subst (λ (n : ℕ). IsRead n rest d.rows []) (ap (λ (k : Head). k.count) head_same.0)
        (subst (λ (l : List ℕ). IsRead (length d.rows) l d.rows []) head_same.1 (read_of d is.fits))

    module _ (rows : List (Key × Value)) (left : List ℕ) (read : IsRead h.count rest rows left) where
      pub left_none : left ≡ []
      left_none = (rows_once h.count rest rows d.rows left [] read rows_here).1

      pub present_too : list_all is_present rows ≡ true
      present_too = ap (list_all is_present) (rows_once h.count rest rows d.rows left [] read rows_here).0 ∙ is.fits.present

  abbrev pub made_of : List (Key × Value) → Checkpoint
  made_of rows = record { number = h.number; epoch = h.epoch; lv = h.lv; rows = rows }

  pub body_made : (rows : List (Key × Value)) (left : List ℕ) → IsRead h.count rest rows left → left ≡ [] → list_all is_present rows ≡ true → 1 ≤ h.number → h.number ≤ MAX_NUMBER
      → 1 ≤ streams → streams ≤ 32 → length body < 2 ^ 64 → IsBody streams body (made_of rows)
  body_made rows left read none present low high some few short =
      let text : body ≡ body_text (made_of rows) =
      b.parts
      ∙ ap (λ (l : List ℕ). head_text h ++ l) (read.parts ∙ ap (λ (l : List ℕ). flat_map write rows ++ l) none ∙ append-nil (flat_map write rows))
      ∙ ap (λ (n : ℕ). head_text (record { number = h.number; epoch = h.epoch; lv = h.lv; count = n }) ++ flat_map write rows) (sym read.count_is) in
      record {
        fits = record {
          low = low;
          high = high;
          epoch = b.epoch;
          some = omega (arith, b.width, some);
          few = omega (arith, b.width, few);
          places = b.places;
          are_rows = read.are_rows;
          present = present;
          short = omega (arith, short, ap length text);
        };
        width = b.width;
        text = text;
      }

-- ---- options

pub none_then : {A : Type 0} (o : Option A) (P : Type 0) → o ≡ None → IfNone o P → P
none_then None P e h = h
none_then (Some x) P e h = absurd cc

pub some_then : {A : Type 0} (o : Option A) (x : A) (P : A → Type 0) → o ≡ Some x → IfSome o P → P x
some_then o x P e h = subst (λ p. IfSome p P) e h
