-- What a torn write leaves of a slot, and what the writes make of it.
use Rattle.std.proofs.Common.{◌≡◌, inl, inr, ℕ, ◌+◌, ◌≤◌, List, [], ◌∷◌, ◌++◌, length, get_or, take, drop, refl, sym, ap, subst, ◌∙◌, arith}
use Rattle.std.specs.Prelude.{◌≢◌, false, true}
use Rattle.std.proofs.lemmas.List.{get_or-take}
use Rattle.tau_disk.specs.declared.disk.Disk.{Ghosts}
use Rattle.tau_disk.specs.Disk.{Holds as Written, Only, Passes, Torn}
use Rattle.tau_disk.proofs.Passing.{passes_on, passes_weaker}
use Rattle.tau_disk.specs.Used.{OnlyRead}
use Rattle.tau_ckpt.specs.Slot.{Holds, HoldsNone, body_text}
use Rattle.tau_ckpt.specs.Writing.{EmptyIsUnborn, GateIs, HoldsNoMore, HoldsOldOrNew, IsClosed, IsQuiet, IsSpelled}
use Rattle.tau_ckpt.specs.declared.checkpoint.Checkpoint.{Checkpoint}
use Rattle.tau_ckpt.proofs.Parts.{first_apart, frame_short, framed_of, held_once}

-- the gate of an image that holds one is open
pub gate_of : (slot : ℕ) (x : List ℕ) (b : Checkpoint) → Holds slot x b → get_or x 0 0 ≡ 1
gate_of slot x b h = ap (λ (l : List ℕ). get_or l 0 0) h.parts

pub shut_none : (slot : ℕ) (x : List ℕ) → get_or x 0 0 ≢ 1 → HoldsNone slot x
shut_none slot x shut b h = shut (gate_of slot x b h)

pub short_none : (slot : ℕ) (x : List ℕ) → length x ≤ 17 → HoldsNone slot x
short_none slot x short b h = omega (arith, short, frame_short slot x (length b.lv) (body_text b) (framed_of slot x b h))

-- an image with an open gate is that and the rest
opened_is : (slot : ℕ) (x : List ℕ) (b : Checkpoint) → Holds slot x b → x ≡ 1 ∷ drop 1 x
opened_is slot x b h =
    first_apart x (omega (arith, frame_short slot x (length b.lv) (body_text b) (framed_of slot x b h)))
    ∙ ap (λ (g : ℕ). g ∷ drop 1 x) (gate_of slot x b h)

-- the gate alone is torn, which was open
pub torn_closing : (slot size : ℕ) (file x : List ℕ) → size ≡ 1 → 1 ≤ length file → get_or file 0 0 ≡ 1 → Torn 0 size file x → HoldsNoMore slot file x
torn_closing slot size file x one some lit torn b h =
    let place : 0 + size ≡ 1 = omega (arith, one) in
    let behind : drop 1 x ≡ drop 1 file = ap (λ (n : ℕ). drop n x) (sym place) ∙ torn.after ∙ ap (λ (n : ℕ). drop n file) place in
    let same : x ≡ file = opened_is slot x b h ∙ (λ i. sym lit i ∷ behind i) ∙ sym (first_apart file some) in
    subst (λ (l : List ℕ). Holds slot l b) same h

-- the gate alone is written where there was no byte
pub torn_unborn : (slot size : ℕ) (file d x : List ℕ) → size ≡ 1 → length d ≤ 17 → Torn 0 size d x → HoldsNoMore slot file x
torn_unborn slot size file d x one short torn b h = absurd (short_none slot x (omega (arith, one, short, torn.no_longer)) b h)

-- what is behind a closed gate is torn
pub torn_behind : (slot size : ℕ) (file x : List ℕ) → GateIs true file → Torn 1 size file x → HoldsNone slot x
torn_behind slot size file x gate torn =
    let same : get_or x 0 0 ≡ get_or file 0 0 = sym (get_or-take 1 x 0 0 (omega arith)) ∙ ap (λ (l : List ℕ). get_or l 0 0) torn.before ∙ get_or-take 1 file 0 0 (omega arith) in
    shut_none slot x (λ lit. gate.1 (sym same ∙ lit))

-- a file with a gate, these bytes, and the old ones after them
abbrev pub gated : ℕ → List ℕ → List ℕ → List ℕ
gated gate bytes file = gate ∷ (bytes ++ drop (1 + length bytes) file)

pub staged : (file bytes mid : List ℕ) → 1 ≤ length file → Written file 1 bytes mid → mid ≡ gated (get_or file 0 0) bytes file
staged file bytes mid some written =
    written ∙ ap (λ (l : List ℕ). take 1 l ++ bytes ++ drop (1 + length bytes) file) (first_apart file some)

-- the image with the open gate holds what the bytes spell
pub opened_holds : (slot : ℕ) (c : Checkpoint) (file bytes : List ℕ) → IsSpelled slot c bytes → Holds slot (gated 1 bytes file) c
opened_holds slot c file bytes is = record {
  slot_is = is.slot_is;
  fits = is.fits;
  rest = drop (1 + length bytes) file;
  parts = ap (λ (l : List ℕ). 1 ∷ (l ++ drop (1 + length bytes) file)) is.text;
}

-- the gate is torn again
pub torn_opening : (slot size : ℕ) (c : Checkpoint) (gate : ℕ) (file bytes old x : List ℕ) → size ≡ 1 → IsSpelled slot c bytes → Torn 0 size (gated gate bytes file) x → HoldsOldOrNew slot old c x
torn_opening slot size c gate file bytes old x one is torn b h =
    let place : 0 + size ≡ 1 = omega (arith, one) in
    let behind : drop 1 x ≡ bytes ++ drop (1 + length bytes) file = ap (λ (n : ℕ). drop n x) (sym place) ∙ torn.after ∙ ap (λ (n : ℕ). drop n (gated gate bytes file)) place in
    let same : x ≡ gated 1 bytes file = opened_is slot x b h ∙ ap (λ (l : List ℕ). 1 ∷ l) behind in
    inr (held_once slot (gated 1 bytes file) b c (subst (λ (l : List ℕ). Holds slot l b) same h) (opened_holds slot c file bytes is))

-- ---- each moment of a write

no_more_of : (slot : ℕ) (file : List ℕ) (leaves : List ℕ → Type 0) → IsQuiet file leaves → EmptyIsUnborn file leaves → (x : List ℕ) → leaves x → HoldsNoMore slot file x
no_more_of slot [] leaves quiet unborn x now b h = absurd (short_none slot x (unborn refl x now) b h)
no_more_of slot (y ∷ file) leaves quiet unborn x now b h = subst (λ (l : List ℕ). Holds slot l b) (quiet (omega arith) x now) h

closing : (slot size : ℕ) (file : List ℕ) (leaves : List ℕ → Type 0) → IsQuiet file leaves → EmptyIsUnborn file leaves → GateIs false file → size ≡ 1 → (d x : List ℕ) → leaves d → Torn 0 size d x → HoldsNoMore slot file x
closing slot size file leaves quiet unborn (inl empty) one d x now torn = torn_unborn slot size file d x one (unborn empty d now) torn
closing slot size file leaves quiet unborn (inr gate) one d x now torn =
    torn_closing slot size file x one gate.0 gate.1 (subst (λ (l : List ℕ). Torn 0 size l x) (quiet gate.0 d now) torn)

module _ {D : Type 0} (G : Ghosts D) where
  abbrev pub passes : D → D → (List ℕ → Type 0) → Type 0
  passes old new P = Passes G.moment G.may_leave_since old new P

  -- the images that a write of so many bytes at this place may leave
  abbrev pub torn_from : D → ℕ → ℕ → List ℕ → Type 0
  torn_from d at size x = (y : List ℕ) × G.may_leave d y × Torn at size y x

  -- a gate that was read and is not closed is written
  pub closing_moments : (slot size : ℕ) (old mid new : D) → IsQuiet (G.seen old) (G.may_leave old) → EmptyIsUnborn (G.seen old) (G.may_leave old) → GateIs false (G.seen old) → size ≡ 1
      → OnlyRead G.tells G.seen G.may_leave G.moment G.may_leave_since old mid → passes mid new (torn_from mid 0 size) → passes old new (HoldsNoMore slot (G.seen old))
  closing_moments slot size old mid new quiet unborn gate one read second =
      passes_on G.moment G.may_leave_since old mid new (G.may_leave old) (torn_from mid 0 size) (HoldsNoMore slot (G.seen old)) read.moments second
      (no_more_of slot (G.seen old) (G.may_leave old) quiet unborn)
      (λ x from. closing slot size (G.seen old) (G.may_leave old) quiet unborn gate one from.0 x (read.no_more from.0 from.1) from.2)

  -- a gate that was only read
  pub read_moments : (slot : ℕ) (old new : D) → IsQuiet (G.seen old) (G.may_leave old) → EmptyIsUnborn (G.seen old) (G.may_leave old) → OnlyRead G.tells G.seen G.may_leave G.moment G.may_leave_since old new → passes old new (HoldsNoMore slot (G.seen old))
  read_moments slot old new quiet unborn read =
      passes_weaker G.moment G.may_leave_since old new (G.may_leave old) (HoldsNoMore slot (G.seen old)) read.moments (no_more_of slot (G.seen old) (G.may_leave old) quiet unborn)

  module _ (slot : ℕ) (c : Checkpoint) (old shut : D) (first : passes old shut (HoldsNoMore slot (G.seen old))) where
    abbrev pub either : List ℕ → Type 0
    either = HoldsOldOrNew slot (G.seen old) c

    pub shut_moments : passes old shut either
    shut_moments = passes_weaker G.moment G.may_leave_since old shut (HoldsNoMore slot (G.seen old)) either first (λ x no_more b h. inl (no_more b h))

    module _ (size : ℕ) (mid : D) (closed : IsClosed (G.seen shut) (G.may_leave shut)) (second : passes shut mid (torn_from shut 1 size)) where
      pub behind_moments : passes old mid either
      behind_moments =
          passes_on G.moment G.may_leave_since old shut mid either (torn_from shut 1 size) either shut_moments second (λ x is. is)
          (λ x from b h. absurd (torn_behind slot size (G.seen shut) x closed.gate (subst (λ (l : List ℕ). Torn 1 size l x) (closed.only from.0 from.1) from.2) b h))

      pub opening_moments : (bytes : List ℕ) (one : ℕ) (new : D) → one ≡ 1 → IsSpelled slot c bytes → Written (G.seen shut) 1 bytes (G.seen mid) → Only (G.seen mid) (G.may_leave mid) → passes mid new (torn_from mid 0 one)
          → passes old new either
      opening_moments bytes one new is spelled written only third =
          let gate = get_or (G.seen shut) 0 0 in
          let now : G.seen mid ≡ gated gate bytes (G.seen shut) = staged (G.seen shut) bytes (G.seen mid) closed.gate.0 written in
          passes_on G.moment G.may_leave_since old mid new either (torn_from mid 0 one) either behind_moments third (λ x same. same)
          (λ x from. torn_opening slot one c gate (G.seen shut) bytes (G.seen old) x is spelled (subst (λ (l : List ℕ). Torn 0 one l x) (only from.0 from.1 ∙ now) from.2))
