-- What a torn write leaves of a stream, and what its two steps make.
use Rattle.std.proofs.Common.{◌≡◌, inl, inr, ℕ, ◌+◌, ◌-◌, ◌<◌, ◌≤◌, List, [], ◌∷◌, ◌++◌, length, get_or, take, drop, sym, ◌∙◌, ap, subst, arith, append_assoc, length-append, length-drop}
use Rattle.std.specs.Int.{w32, to_be_bytes}
use Rattle.std.proofs.lemmas.List.{take_at, drop_at, drop_all, take_more, take-take, get_or-take, length-take-le, append-nil}
use Rattle.std.proofs.lemmas.Bool.{cases_eq}
use Rattle.tau_base.specs.declared.format.Format.{Format}
use Rattle.tau_disk.specs.Disk.{Torn, Holds, Only}
use Rattle.tau_disk.specs.Replay.{over}
use Rattle.tau_block.specs.Image.{content_of, HasContent, tail_of, IsBody, IsLog}
use Rattle.tau_block.proofs.Blocks.{block_of, front_block, log_of_front, short_content}
use Rattle.tau_stream.specs.Stream.{IsSettled, IsOldOrNew}
use Rattle.tau_base.proofs.Lists.{split_at}

-- a write makes the file as long as it reaches, and no shorter
pub holds_long : (at : ℕ) (bytes old new : List ℕ) → at ≤ length old → Holds old at bytes new → (at + length bytes ≤ length new) × (length old ≤ length new)
holds_long at bytes old new le holds =
    let size : length new ≡ at + (length bytes + (length old - (at + length bytes))) =
    omega (arith, ap length holds, length-take-le at old le, length-append (take at old ++ bytes) (drop (at + length bytes) old), length-append (take at old) bytes, length-drop (at + length bytes) old) in
    (omega (arith, size), omega (arith, size))

module _ (f : Format) (n j : ℕ) (file : List ℕ) (gate_at : ℕ) (content : List ℕ) (s : IsLog f n j file gate_at content) where
  abbrev front : List ℕ
  front = take gate_at file

  length_front : length front ≡ gate_at
  length_front = length-take-le gate_at file (omega (arith, s.within))

  -- what is written after the closed gate changes nothing
  pub torn_behind : (size : ℕ) (x : List ℕ) → Torn (gate_at + 1) size file x → HasContent f n j content x
  torn_behind size x torn =
      let lt : gate_at < length x = omega (arith, s.within, torn.no_shorter) in
      let le : gate_at ≤ gate_at + 1 = omega arith in
      let below : gate_at < gate_at + 1 = omega arith in
      let same : take gate_at x ≡ front = sym (take-take gate_at (gate_at + 1) x le) ∙ ap (take gate_at) torn.before ∙ take-take gate_at (gate_at + 1) file le in
      let gate : get_or x gate_at 0 ≡ get_or file gate_at 0 = sym (get_or-take (gate_at + 1) x gate_at 0 below) ∙ ap (λ (l : List ℕ). get_or l gate_at 0) torn.before ∙ get_or-take (gate_at + 1) file gate_at 0 below in
      let whole : x ≡ front ++ get_or file gate_at 0 ∷ drop (gate_at + 1) x = split_at x gate_at lt ∙ (λ i. same i ++ gate i ∷ drop (gate_at + 1) x) in
      ap (content_of f n j) whole ∙ s.front.closed (get_or file gate_at 0) (drop (gate_at + 1) x) s.shut

  -- the image that a read gives has the content
  pub content_now : HasContent f n j content file
  content_now = ap (content_of f n j) (split_at file gate_at s.within) ∙ s.front.closed (get_or file gate_at 0) (drop (gate_at + 1) file) s.shut

  module _ (body : List ℕ) (some : IsBody body) where
    abbrev behind : List ℕ
    behind = drop (gate_at + 1 + length (tail_of body)) file

    abbrev grown : List ℕ
    grown = front ++ block_of body

    -- with a gate of any value before the block
    abbrev pub gated : ℕ → List ℕ
    gated gate = front ++ gate ∷ (tail_of body ++ behind)

    pub staged : (mid : List ℕ) → Holds file (gate_at + 1) (tail_of body) mid → mid ≡ gated (get_or file gate_at 0)
    staged mid holds =
        holds
        ∙ ap (λ (l : List ℕ). l ++ tail_of body ++ behind) (take_more file gate_at 0 s.within)
        ∙ ap (λ (l : List ℕ). l ++ behind) (append_assoc front (get_or file gate_at 0 ∷ []) (tail_of body))
        ∙ append_assoc front (get_or file gate_at 0 ∷ tail_of body) behind

    opens : gated 1 ≡ grown ++ 0 ∷ behind
    opens = ap (λ (l : List ℕ). front ++ 1 ∷ (to_be_bytes w32 (length body) ++ l)) (append_assoc body (0 ∷ []) behind) ∙ sym (append_assoc front (block_of body) (0 ∷ behind))

    length_grown : length grown ≡ gate_at + length (tail_of body)
    length_grown = omega (arith, length_front, length-append front (block_of body), length-append body (0 ∷ []))

    pub gate_cases : (gate : ℕ) → IsOldOrNew f n j content body (gated gate)
    gate_cases gate = elim (cases_eq gate 1) [
      | inl is_open ↦ inr (ap (λ (g : ℕ). content_of f n j (gated g)) is_open ∙ ap (content_of f n j) opens ∙ (front_block f n j front content body s.front some.some (omega (arith, some.most))).closed 0 behind (omega arith))
      | inr shut ↦ inl (s.front.closed gate (tail_of body ++ behind) shut)
    ]

    pub torn_gate : (gate : ℕ) (bytes x : List ℕ) → bytes ≡ 1 ∷ [] → Torn gate_at (length bytes) (gated gate) x → IsOldOrNew f n j content body x
    torn_gate gate bytes x is was =
        let torn = subst (λ (b : List ℕ). Torn gate_at (length b) (gated gate) x) is was in
        let lt : gate_at < length x = omega (arith, torn.no_shorter, length_front, length-append front (gate ∷ (tail_of body ++ behind))) in
        let same : take gate_at x ≡ front = torn.before ∙ take_at front (gate ∷ (tail_of body ++ behind)) gate_at length_front in
        let rest : drop (gate_at + 1) x ≡ tail_of body ++ behind = torn.after ∙ ap (drop (gate_at + 1)) (sym (append_assoc front (gate ∷ []) (tail_of body ++ behind))) ∙ drop_at (front ++ gate ∷ []) (tail_of body ++ behind) (gate_at + 1) (omega (arith, length_front, length-append front (gate ∷ []))) in
        let whole : x ≡ gated (get_or x gate_at 0) = split_at x gate_at lt ∙ (λ i. same i ++ get_or x gate_at 0 ∷ rest i) in
        subst (IsOldOrNew f n j content body) (sym whole) (gate_cases (get_or x gate_at 0))

    pub opened : (gate : ℕ) (bytes new : List ℕ) → bytes ≡ 1 ∷ [] → Holds (gated gate) gate_at bytes new → new ≡ grown ++ 0 ∷ behind
    opened gate bytes new is holds =
        subst (λ (b : List ℕ). Holds (gated gate) gate_at b new) is holds
        ∙ ap (λ (l : List ℕ). l ++ (1 ∷ []) ++ drop (gate_at + 1) (gated gate)) (take_at front (gate ∷ (tail_of body ++ behind)) gate_at length_front)
        ∙ ap (λ (l : List ℕ). (front ++ 1 ∷ []) ++ l) (ap (drop (gate_at + 1)) (sym (append_assoc front (gate ∷ []) (tail_of body ++ behind))) ∙ drop_at (front ++ gate ∷ []) (tail_of body ++ behind) (gate_at + 1) (omega (arith, length_front, length-append front (gate ∷ []))))
        ∙ append_assoc front (1 ∷ []) (tail_of body ++ behind)
        ∙ opens

    -- the gate byte written over
    pub regated : (gate byte : ℕ) → over gate_at (byte ∷ []) (gated gate) ≡ gated byte
    regated gate byte =
        ap (λ (l : List ℕ). l ++ (byte ∷ []) ++ drop (gate_at + 1) (gated gate)) (take_at front (gate ∷ (tail_of body ++ behind)) gate_at length_front)
        ∙ ap (λ (l : List ℕ). (front ++ byte ∷ []) ++ l) (ap (drop (gate_at + 1)) (sym (append_assoc front (gate ∷ []) (tail_of body ++ behind))) ∙ drop_at (front ++ gate ∷ []) (tail_of body ++ behind) (gate_at + 1) (omega (arith, length_front, length-append front (gate ∷ []))))
        ∙ append_assoc front (byte ∷ []) (tail_of body ++ behind)

    pub shut_has : (byte : ℕ) → (byte ≡ 1 → ⊥) → HasContent f n j content (gated byte)
    shut_has byte shut = s.front.closed byte (tail_of body ++ behind) shut

    pub open_has : HasContent f n j (content ++ body) (gated 1)
    open_has = ap (content_of f n j) opens ∙ (front_block f n j front content body s.front some.some (omega (arith, some.most))).closed 0 behind (omega arith)

    pub settles : (new : List ℕ) (leaves : List ℕ → Type 0) → new ≡ grown ++ 0 ∷ behind → Only new leaves → IsSettled f n j new leaves (gate_at + length (tail_of body)) (content ++ body)
    settles new leaves is only = record {
      log = subst (λ (g : ℕ). IsLog f n j new g (content ++ body)) length_grown
          (subst (λ (l : List ℕ). IsLog f n j l (length grown) (content ++ body)) (sym is)
          (log_of_front f n j grown (content ++ body) behind (front_block f n j front content body s.front some.some (omega (arith, some.most)))));
      only = only;
    }

-- of a header alone

pub header_is : (head old new : List ℕ) → length head ≡ 17 → length old ≤ 17 → Holds old 0 head new → new ≡ head
header_is head old new long short holds =
    holds ∙ ap (λ (l : List ℕ). head ++ l) (drop_all (0 + length head) old (omega (arith, short, long))) ∙ append-nil head

pub torn_unborn : (f : Format) (n j : ℕ) (d x : List ℕ) → length d ≤ 17 → Torn 0 17 d x → HasContent f n j [] x
torn_unborn f n j d x short torn = short_content f n j x (omega (arith, torn.no_longer, short))
