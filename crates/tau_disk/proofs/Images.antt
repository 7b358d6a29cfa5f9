-- How the images that a stop may leave go on from call to call.
use Rattle.std.proofs.Common.{◌≡◌, ◌⊎◌, inl, inr, ⊎_elim, ℕ, zero, suc, ◌+◌, ◌-◌, ◌<◌, ◌≤◌, min, List, [], ◌∷◌, ◌++◌, length, get_or, take, drop, refl, sym, ◌∙◌, ap, subst, arith, append_assoc, length-append, length-drop, Vec, Global}
use Rattle.std.proofs.lemmas.List.{take-take, take_all, drop_all, get_or-take, get_or-drop, length-take, ext_get_or, take_at, drop_at, length-take-le, length-replicate}
use Rattle.tau_disk.specs.Disk.{Torn, Holds, Follows, Elapses}
use Rattle.tau_disk.specs.Replay.{DiskState, over, sevens, after_call, replayed, IsOutside, reach, IsImage, leaves, leaves_since}
use Rattle.tau_disk.specs.declared.call.DiskCall.{DiskCall}
use Rattle.tau_disk.specs.declared.call.DiskCall.TheVariants.{Wrote, Lost, Synced}
use Rattle.tau_disk.proofs.Tears.{torn_same}
use Rattle.tau_base.proofs.Logic.{up_to_or_above}

-- y with the bytes of s in a range, where s has them
patched : ℕ → ℕ → List ℕ → List ℕ → List ℕ
patched at n s [] = []
patched at n [] (y ∷ ys) = y ∷ ys
patched zero zero (b ∷ s) (y ∷ ys) = y ∷ ys
patched zero (suc n) (b ∷ s) (y ∷ ys) = b ∷ patched zero n s ys
patched (suc at) n (b ∷ s) (y ∷ ys) = y ∷ patched at n s ys

length_patched : (at n : ℕ) (s ys : List ℕ) → length (patched at n s ys) ≡ length ys
unfolding patched
length_patched at n s [] = refl
length_patched at n [] (y ∷ ys) = refl
length_patched zero zero (b ∷ s) (y ∷ ys) = refl
length_patched zero (suc n) (b ∷ s) (y ∷ ys) = ap suc (length_patched zero n s ys)
length_patched (suc at) n (b ∷ s) (y ∷ ys) = ap suc (length_patched at n s ys)

take_patched : (at n : ℕ) (s ys : List ℕ) → take at (patched at n s ys) ≡ take at ys
unfolding patched
take_patched at n s [] = refl
take_patched at n [] (y ∷ ys) = refl
take_patched zero zero (b ∷ s) (y ∷ ys) = refl
take_patched zero (suc n) (b ∷ s) (y ∷ ys) = refl
take_patched (suc at) n (b ∷ s) (y ∷ ys) = ap (λ (l : List ℕ). y ∷ l) (take_patched at n s ys)

drop_patched : (at n : ℕ) (s ys : List ℕ) (m : ℕ) → m ≡ at + n → drop m (patched at n s ys) ≡ drop m ys
unfolding patched
drop_patched at n s [] m is = refl
drop_patched at n [] (y ∷ ys) m is = refl
drop_patched zero zero (b ∷ s) (y ∷ ys) m is = refl
drop_patched zero (suc n) (b ∷ s) (y ∷ ys) zero is = absurd (omega arith)
drop_patched zero (suc n) (b ∷ s) (y ∷ ys) (suc m) is = drop_patched zero n s ys m (omega arith)
drop_patched (suc at) n (b ∷ s) (y ∷ ys) zero is = absurd (omega arith)
drop_patched (suc at) n (b ∷ s) (y ∷ ys) (suc m) is = drop_patched at n s ys m (omega arith)

patched_in : (at n : ℕ) (s ys : List ℕ) (k : ℕ) → at ≤ k → k < at + n → k < length s → k < length ys → get_or (patched at n s ys) k 0 ≡ get_or s k 0
unfolding patched
patched_in at n s [] k low high in_s in_y = absurd (omega arith)
patched_in at n [] (y ∷ ys) k low high in_s in_y = absurd (omega arith)
patched_in zero zero (b ∷ s) (y ∷ ys) k low high in_s in_y = absurd (omega arith)
patched_in zero (suc n) (b ∷ s) (y ∷ ys) zero low high in_s in_y = refl
patched_in zero (suc n) (b ∷ s) (y ∷ ys) (suc k) low high in_s in_y = patched_in zero n s ys k (omega arith) (omega arith) (omega arith) (omega arith)
patched_in (suc at) n (b ∷ s) (y ∷ ys) zero low high in_s in_y = absurd (omega arith)
patched_in (suc at) n (b ∷ s) (y ∷ ys) (suc k) low high in_s in_y = patched_in at n s ys k (omega arith) (omega arith) (omega arith) (omega arith)

abbrev byte_at : ℕ → List ℕ → ℕ
byte_at i l = get_or l i 0

patched_out : (at n : ℕ) (s ys : List ℕ) (k : ℕ) → (k < at) ⊎ (at + n ≤ k) → get_or (patched at n s ys) k 0 ≡ get_or ys k 0
patched_out at n s ys k (inl below) =
    sym (get_or-take at (patched at n s ys) k 0 below) ∙ ap (λ (l : List ℕ). get_or l k 0) (take_patched at n s ys) ∙ get_or-take at ys k 0 below
patched_out at n s ys k (inr above) =
    let split : k ≡ at + n + (k - (at + n)) = omega arith in
    ap (λ (i : ℕ). get_or (patched at n s ys) i 0) split ∙ sym (get_or-drop (at + n) (patched at n s ys) (k - (at + n)) 0)
    ∙ ap (λ (l : List ℕ). get_or l (k - (at + n)) 0) (drop_patched at n s ys (at + n) refl)
    ∙ get_or-drop (at + n) ys (k - (at + n)) 0 ∙ ap (λ (i : ℕ). get_or ys i 0) (sym split)

pub reach_least : (len : ℕ) (tears : List (ℕ × ℕ)) → len ≤ reach len tears
reach_least len [] = omega arith
reach_least len (tear ∷ tears) = omega (arith, reach_least len tears)

outside_range : (k at n : ℕ) → ((k < at) ⊎ (at + n ≤ k)) ⊎ ((at ≤ k) × (k < at + n))
outside_range k at n = ⊎_elim (λ low. ⊎_elim (λ high. inl (inr high)) (λ below. inr (low, below)) (up_to_or_above (at + n) k)) (λ below. inl (inl below)) (up_to_or_above at k)

-- an image that is torn once more
pub image_torn : (synced : List ℕ) (tears : List (ℕ × ℕ)) (at n : ℕ) (d x : List ℕ) → IsImage synced tears d → Torn at n d x → IsImage synced ((at, n) ∷ tears) x
image_torn synced tears at n d x is torn = record {
  same = λ k within outside. agrees k outside.0 ∙ is.same k within outside.1;
  no_shorter = omega (arith, is.no_shorter, torn.no_shorter);
  no_longer = omega (arith, is.no_longer, torn.no_longer);
}
  where
    agrees : (k : ℕ) → (k < at) ⊎ (at + n ≤ k) → get_or x k 0 ≡ get_or d k 0
    agrees k (inl below) = sym (get_or-take at x k 0 below) ∙ ap (byte_at k) torn.before ∙ get_or-take at d k 0 below
    agrees k (inr above) =
        let split : k ≡ at + n + (k - (at + n)) = omega arith in
        ap (λ (i : ℕ). get_or x i 0) split ∙ sym (get_or-drop (at + n) x (k - (at + n)) 0) ∙ ap (byte_at (k - (at + n))) torn.after
        ∙ get_or-drop (at + n) d (k - (at + n)) 0 ∙ ap (λ (i : ℕ). get_or d i 0) (sym split)

module _ (synced : List ℕ) (tears : List (ℕ × ℕ)) (at n : ℕ) (x : List ℕ) (le : at ≤ reach (length synced) tears) (is : IsImage synced ((at, n) ∷ tears) x) where
  abbrev end : ℕ
  end = reach (length synced) tears

  abbrev y : List ℕ
  y = take end x

  abbrev d : List ℕ
  d = patched at n synced y

  length_y : length y ≡ min end (length x)
  length_y = length-take end x

  same_y : (k : ℕ) → k < length synced → get_or y k 0 ≡ get_or x k 0
  same_y k within = get_or-take end x k 0 (omega (arith, within, reach_least (length synced) tears))

  same : (k : ℕ) → k < length synced → IsOutside k tears → get_or d k 0 ≡ get_or synced k 0
  same k within outside = ⊎_elim
      (λ out. patched_out at n synced y k out ∙ same_y k within ∙ is.same k within (out, outside))
      (λ range. patched_in at n synced y k range.0 range.1 within (omega (arith, length_y, within, is.no_shorter, reach_least (length synced) tears)))
      (outside_range k at n)

  is_image : IsImage synced tears d
  is_image = record {
    same = same;
    no_shorter = omega (arith, length_patched at n synced y, length_y, is.no_shorter, reach_least (length synced) tears);
    no_longer = omega (arith, length_patched at n synced y, length_y);
  }

  behind : drop (at + n) x ≡ drop (at + n) y
  behind = ⊎_elim
      (λ short. sym (ap (λ (l : List ℕ). drop (at + n) l) (take_all end x short)))
      (λ longer. drop_all (at + n) x (omega (arith, longer, is.no_longer)) ∙ sym (drop_all (at + n) y (omega (arith, length_y, longer, is.no_longer))))
      (up_to_or_above (length x) end)

  torn : Torn at n d x
  torn = record {
    before = sym (take_patched at n synced y ∙ take-take at end x le);
    after = behind ∙ sym (drop_patched at n synced y (at + n) refl);
    no_shorter = omega (arith, length_patched at n synced y, length_y);
    no_longer = omega (arith, length_patched at n synced y, length_y, is.no_longer);
  }

  -- each image with one range more is an old image, torn
  pub torn_image : (d : List ℕ) × IsImage synced tears d × Torn at n d x
  torn_image = (d, is_image, torn)

-- a write tears as it should, where it begins within
pub holds_torn : (at : ℕ) (bytes old new : List ℕ) → at ≤ length old → Holds old at bytes new → Torn at (length bytes) old new
holds_torn at bytes old new le holds = record {
  before = ap (λ (l : List ℕ). take at l) whole ∙ take_at (take at old) (bytes ++ drop (at + length bytes) old) at front;
  after = ap (λ (l : List ℕ). drop (at + length bytes) l) holds ∙ drop_at (take at old ++ bytes) (drop (at + length bytes) old) (at + length bytes) (omega (arith, front, length-append (take at old) bytes));
  no_shorter = omega (arith, size);
  no_longer = omega (arith, size);
}
  where
    front : length (take at old) ≡ at
    front = length-take-le at old le

    whole : new ≡ take at old ++ (bytes ++ drop (at + length bytes) old)
    whole = holds ∙ append_assoc (take at old) bytes (drop (at + length bytes) old)

    size : length new ≡ at + (length bytes + (length old - (at + length bytes)))
    size = omega (arith, ap length whole, front, length-append (take at old) (bytes ++ drop (at + length bytes) old), length-append bytes (drop (at + length bytes) old), length-drop (at + length bytes) old)

-- with nothing written since, there is one image
pub image_synced : (synced x : List ℕ) → IsImage synced [] x → x ≡ synced
image_synced synced x is = ext_get_or 0 x synced (omega (arith, is.no_shorter, is.no_longer)) (λ k within. is.same k (omega (arith, within, is.no_longer)) tt)

pub image_of_synced : (synced : List ℕ) → IsImage synced [] synced
image_of_synced synced = record { same = λ k within outside. refl; no_shorter = omega arith; no_longer = omega arith }

replayed_push : (s : DiskState) (calls : List DiskCall) (call : DiskCall) → replayed s (calls ++ call ∷ []) ≡ after_call (replayed s calls) call
replayed_push s [] call = refl
replayed_push s (c ∷ calls) call = replayed_push (after_call s c) calls call

nothing_else : (s : DiskState) (calls : List DiskCall) (call : DiskCall) (t : ℕ) (x : List ℕ) → t ≤ length calls → leaves_since s (calls ++ call ∷ []) t x → leaves_since s calls t x ⊎ leaves (after_call (replayed s calls) call) x
nothing_else s [] call zero x le since = since
nothing_else s [] call (suc t) x le since = absurd (omega arith)
nothing_else s (c ∷ calls) call zero x le since = ⊎_elim (λ now. inl (inl now)) (λ later. ⊎_elim (λ was. inl (inr was)) (λ new. inr new) (nothing_else (after_call s c) calls call zero x (omega arith) later)) since
nothing_else s (c ∷ calls) call (suc t) x le since = nothing_else (after_call s c) calls call t x (omega arith) since

keeps : (s : DiskState) (calls : List DiskCall) (call : DiskCall) (t : ℕ) (x : List ℕ) → t ≤ length calls → leaves_since s calls t x → leaves_since s (calls ++ call ∷ []) t x
keeps s [] call zero x le since = inl since
keeps s [] call (suc t) x le since = absurd (omega arith)
keeps s (c ∷ calls) call zero x le since = ⊎_elim (λ now. inl now) (λ later. inr (keeps (after_call s c) calls call zero x (omega arith) later)) since
keeps s (c ∷ calls) call (suc t) x le since = keeps (after_call s c) calls call t x (omega arith) since

module _ (s : DiskState) (old new : List DiskCall) (call : DiskCall) (is : new ≡ old ++ call ∷ []) where
  pub now_is : replayed s new ≡ after_call (replayed s old) call
  now_is = ap (replayed s) is ∙ replayed_push s old call

  elapses_push : Elapses (length old) (length (old ++ call ∷ [])) (leaves_since s old) (leaves_since s (old ++ call ∷ [])) (leaves (after_call (replayed s old) call))
  elapses_push = record {
    later = omega (arith, length-append old (call ∷ []));
    nothing_else = λ t x le since. nothing_else s old call t x le since;
    keeps = λ t x le since. keeps s old call t x le since;
  }

  pub elapses : Elapses (length old) (length new) (leaves_since s old) (leaves_since s new) (leaves (replayed s new))
  elapses =
      let moved = subst (λ (l : List DiskCall). Elapses (length old) (length l) (leaves_since s old) (leaves_since s l) (leaves (after_call (replayed s old) call))) (sym is) elapses_push in
      subst (λ (st : DiskState). Elapses (length old) (length new) (leaves_since s old) (leaves_since s new) (leaves st)) (sym now_is) moved

-- the state before, where what a read gives is seen
module _ (s : DiskState) (old new : List DiskCall) (seen : List ℕ) (reads : seen ≡ (replayed s old).seen) (sound : leaves (replayed s old) seen) where
  abbrev synced : List ℕ
  synced = (replayed s old).synced

  abbrev tears : List (ℕ × ℕ)
  tears = (replayed s old).tears

  -- by a call with this range
  ranged_to : (call : DiskCall) → new ≡ old ++ call ∷ [] → (x : List ℕ) → leaves (after_call (replayed s old) call) x → leaves (replayed s new) x
  ranged_to call is x image = subst (λ (st : DiskState). leaves st x) (sym (now_is s old new call is)) image

  ranged_from : (call : DiskCall) → new ≡ old ++ call ∷ [] → (x : List ℕ) → leaves (replayed s new) x → leaves (after_call (replayed s old) call) x
  ranged_from call is x image = subst (λ (st : DiskState). leaves st x) (now_is s old new call is) image

  module _ (at : ℕ) (le : at ≤ length seen) where
    reaches : at ≤ reach (length synced) tears
    reaches = omega (arith, le, sound.no_longer)

    pub lost_crash : (n : ℕ) → new ≡ old ++ Lost at n ∷ [] → Follows (Torn at n) (leaves (replayed s old)) (leaves (replayed s new))
    lost_crash n is x image = torn_image synced tears at n x reaches (ranged_from (Lost at n) is x image)

    pub lost_sound : (n : ℕ) → new ≡ old ++ Lost at n ∷ [] → leaves (replayed s new) seen
    lost_sound n is = ranged_to (Lost at n) is seen (image_torn synced tears at n seen seen sound (torn_same at n seen))

    -- no image is ruled out
    pub lost_keeps : (n : ℕ) → new ≡ old ++ Lost at n ∷ [] → (x : List ℕ) → leaves (replayed s old) x → leaves (replayed s new) x
    lost_keeps n is x image = ranged_to (Lost at n) is x (image_torn synced tears at n x x image (torn_same at n x))

    pub lost_reads : (n : ℕ) → new ≡ old ++ Lost at n ∷ [] → seen ≡ (replayed s new).seen
    lost_reads n is = reads ∙ sym (ap (λ (st : DiskState). st.seen) (now_is s old new (Lost at n) is))

    module _ (bytes : Vec ℕ Global) (is : new ≡ old ++ Wrote at bytes ∷ []) where
      pub wrote_crash : Follows (Torn at (length bytes.items)) (leaves (replayed s old)) (leaves (replayed s new))
      wrote_crash x image = torn_image synced tears at (length bytes.items) x reaches (ranged_from (Wrote at bytes) is x image)

      pub wrote_keeps : (x : List ℕ) → leaves (replayed s old) x → leaves (replayed s new) x
      wrote_keeps x image = ranged_to (Wrote at bytes) is x (image_torn synced tears at (length bytes.items) x x image (torn_same at (length bytes.items) x))

      pub wrote_sound : (seen' : List ℕ) → Holds seen at bytes.items seen' → leaves (replayed s new) seen'
      wrote_sound seen' holds = ranged_to (Wrote at bytes) is seen' (image_torn synced tears at (length bytes.items) seen seen' sound (holds_torn at bytes.items seen seen' le holds))

      pub wrote_reads : (seen' : List ℕ) → Holds seen at bytes.items seen' → seen' ≡ (replayed s new).seen
      wrote_reads seen' holds = holds ∙ ap (over at bytes.items) reads ∙ sym (ap (λ (st : DiskState). st.seen) (now_is s old new (Wrote at bytes) is))

  module _ (is : new ≡ old ++ Synced ∷ []) where
    pub synced_only : (x : List ℕ) → leaves (replayed s new) x → x ≡ seen
    synced_only x image = image_synced (replayed s old).seen x (ranged_from Synced is x image) ∙ sym reads

    pub synced_crash : (x : List ℕ) → leaves (replayed s new) x → leaves (replayed s old) x
    synced_crash x image = subst (λ (l : List ℕ). leaves (replayed s old) l) (sym (synced_only x image)) sound

    pub synced_sound : leaves (replayed s new) seen
    synced_sound = ranged_to Synced is seen (subst (λ (l : List ℕ). IsImage l [] seen) reads (image_of_synced seen))

    pub synced_reads : seen ≡ (replayed s new).seen
    synced_reads = reads ∙ sym (ap (λ (st : DiskState). st.seen) (now_is s old new Synced is))

length_over : (at : ℕ) (bytes file : List ℕ) → at ≤ length file → length (over at bytes file) ≡ at + (length bytes + (length file - (at + length bytes)))
length_over at bytes file le = omega (arith, length-take-le at file le, length-append (take at file ++ bytes) (drop (at + length bytes) file), length-append (take at file) bytes, length-drop (at + length bytes) file)

-- the torn image is one too, and as long as what a read gives
module _ (s : DiskState) (old new : List DiskCall) (seen : List ℕ) (sound : leaves (replayed s old) (replayed s old).torn) (long : length (replayed s old).torn ≡ length seen) where
  abbrev was : DiskState
  was = replayed s old

  module _ (call : DiskCall) (is : new ≡ old ++ call ∷ []) where
    to_new : leaves (after_call was call) (after_call was call).torn → leaves (replayed s new) (replayed s new).torn
    to_new here = subst (λ (st : DiskState). leaves st st.torn) (sym (now_is s old new call is)) here

    long_new : (n : ℕ) → length (after_call was call).torn ≡ n → length (replayed s new).torn ≡ n
    long_new n here = ap (λ (st : DiskState). length st.torn) (now_is s old new call is) ∙ here

  pub lost_torn : (at count : ℕ) → new ≡ old ++ Lost at count ∷ [] → leaves (replayed s new) (replayed s new).torn
  lost_torn at count is = to_new (Lost at count) is (image_torn was.synced was.tears at count was.torn was.torn sound (torn_same at count was.torn))

  pub lost_long : (at count : ℕ) → new ≡ old ++ Lost at count ∷ [] → length (replayed s new).torn ≡ length seen
  lost_long at count is = long_new (Lost at count) is (length seen) long

  module _ (at : ℕ) (le : at ≤ length seen) (bytes : Vec ℕ Global) (is : new ≡ old ++ Wrote at bytes ∷ []) where
    pub wrote_torn : leaves (replayed s new) (replayed s new).torn
    wrote_torn =
        let size : length (sevens (length bytes.items)) ≡ length bytes.items = length-replicate (length bytes.items) 7 in
        let torn = holds_torn at (sevens (length bytes.items)) was.torn (over at (sevens (length bytes.items)) was.torn) (omega (arith, le, long)) refl in
        to_new (Wrote at bytes) is (image_torn was.synced was.tears at (length bytes.items) was.torn (over at (sevens (length bytes.items)) was.torn) sound
        (subst (λ (n : ℕ). Torn at n was.torn (over at (sevens (length bytes.items)) was.torn)) size torn))

    pub wrote_long : (seen' : List ℕ) → Holds seen at bytes.items seen' → length (replayed s new).torn ≡ length seen'
    wrote_long seen' holds =
        let size : length (sevens (length bytes.items)) ≡ length bytes.items = length-replicate (length bytes.items) 7 in
        long_new (Wrote at bytes) is (length seen')
        (length_over at (sevens (length bytes.items)) was.torn (omega (arith, le, long))
        ∙ omega (arith, long, size, ap length holds, length_over at bytes.items seen le))

  module _ (reads : seen ≡ was.seen) (is : new ≡ old ++ Synced ∷ []) where
    pub synced_torn : leaves (replayed s new) (replayed s new).torn
    synced_torn = to_new Synced is (image_of_synced was.seen)

    pub synced_long : length (replayed s new).torn ≡ length seen
    synced_long = long_new Synced is (length seen) (ap length (sym reads))
