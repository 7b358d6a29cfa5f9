-- The images of a memory disk, as its calls are replayed.
use Rattle.std.proofs.Common.{◌≡◌, ℕ, ◌+◌, List, [], ◌∷◌, ◌++◌, length, take, drop, refl, sym, ◌∙◌, ap, subst, arith, take-append-drop, length-append}
use Rattle.std.proofs.lemmas.List.{take_all, drop_all, take-append-le, drop-append-le}
use Rattle.tau_disk.specs.declared.call.DiskCall.{DiskCall}
use Rattle.tau_disk.specs.declared.call.DiskCall.TheVariants.{Wrote, Lost, Synced}
use Rattle.tau_disk.specs.Replay.{DiskState, opened, over, sevens, after_call, replayed}
use Rattle.tau_disk.specs.Tear.{IsUnsynced, IsCalm, EndsAtSync, rewritten, sevened}

pub replayed_append : (s : DiskState) (xs ys : List DiskCall) → replayed s (xs ++ ys) ≡ replayed (replayed s xs) ys
replayed_append s [] ys = refl
replayed_append s (x ∷ xs) ys = replayed_append (after_call s x) xs ys

pub rewritten_append : (file : List ℕ) (xs ys : List DiskCall) → rewritten file (xs ++ ys) ≡ rewritten (rewritten file xs) ys
rewritten_append file [] ys = refl
rewritten_append file (Wrote at bytes ∷ xs) ys = rewritten_append (over at bytes.items file) xs ys
rewritten_append file (Lost at count ∷ xs) ys = rewritten_append file xs ys
rewritten_append file (Synced ∷ xs) ys = rewritten_append file xs ys

pub sevened_append : (file : List ℕ) (xs ys : List DiskCall) → sevened file (xs ++ ys) ≡ sevened (sevened file xs) ys
sevened_append file [] ys = refl
sevened_append file (Wrote at bytes ∷ xs) ys = sevened_append (over at (sevens (length bytes.items)) file) xs ys
sevened_append file (Lost at count ∷ xs) ys = sevened_append file xs ys
sevened_append file (Synced ∷ xs) ys = sevened_append file xs ys

pub unsynced_append : (xs ys : List DiskCall) → IsUnsynced xs → IsUnsynced ys → IsUnsynced (xs ++ ys)
unsynced_append [] ys first second = second
unsynced_append (Wrote at bytes ∷ xs) ys first second = unsynced_append xs ys first second
unsynced_append (Lost at count ∷ xs) ys first second = unsynced_append xs ys first second
unsynced_append (Synced ∷ xs) ys first second = absurd first

seen_replayed : (s : DiskState) (calls : List DiskCall) → (replayed s calls).seen ≡ rewritten s.seen calls
seen_replayed s [] = refl
seen_replayed s (Wrote at bytes ∷ calls) = seen_replayed (after_call s (Wrote at bytes)) calls
seen_replayed s (Lost at count ∷ calls) = seen_replayed (after_call s (Lost at count)) calls
seen_replayed s (Synced ∷ calls) = seen_replayed (after_call s Synced) calls

torn_replayed : (s : DiskState) (calls : List DiskCall) → IsUnsynced calls → (replayed s calls).torn ≡ sevened s.torn calls
torn_replayed s [] none = refl
torn_replayed s (Wrote at bytes ∷ calls) none = torn_replayed (after_call s (Wrote at bytes)) calls none
torn_replayed s (Lost at count ∷ calls) none = torn_replayed (after_call s (Lost at count)) calls none
torn_replayed s (Synced ∷ calls) none = absurd none

synced_replayed : (s : DiskState) (calls : List DiskCall) → IsUnsynced calls → (replayed s calls).synced ≡ s.synced
synced_replayed s [] none = refl
synced_replayed s (Wrote at bytes ∷ calls) none = synced_replayed (after_call s (Wrote at bytes)) calls none
synced_replayed s (Lost at count ∷ calls) none = synced_replayed (after_call s (Lost at count)) calls none
synced_replayed s (Synced ∷ calls) none = absurd none

module _ (bytes : List ℕ) (calls : List DiskCall) (last : ℕ) (ends : EndsAtSync calls last) where
  abbrev before : DiskState
  before = replayed (opened bytes) (take last calls)

  whole : replayed (opened bytes) calls ≡ replayed before (drop last calls)
  whole = ap (replayed (opened bytes)) (sym (take-append-drop last calls)) ∙ replayed_append (opened bytes) (take last calls) (drop last calls)

  written : before.synced ≡ rewritten bytes (take last calls)
  written = sym (ends.calm bytes).seen ∙ seen_replayed (opened bytes) (take last calls)

  pub old_is : (replayed (opened bytes) calls).synced ≡ rewritten bytes (take last calls)
  old_is = ap (λ (s : DiskState). s.synced) whole ∙ synced_replayed before (drop last calls) ends.rest ∙ written

  pub torn_is : (replayed (opened bytes) calls).torn ≡ sevened (rewritten bytes (take last calls)) (drop last calls)
  torn_is = ap (λ (s : DiskState). s.torn) whole ∙ torn_replayed before (drop last calls) ends.rest
      ∙ ap (λ (file : List ℕ). sevened file (drop last calls)) ((ends.calm bytes).torn ∙ written)

pub ends_none : EndsAtSync [] 0
ends_none = record { within = omega arith; calm = λ bytes. record { seen = refl; torn = refl }; rest = tt }

-- a sync comes last
pub ends_synced : (calls : List DiskCall) → EndsAtSync (calls ++ Synced ∷ []) (length calls + 1)
ends_synced calls = record {
  within = omega (arith, length-append calls (Synced ∷ []));
  calm = λ bytes. subst (λ (l : List DiskCall). IsCalm (replayed (opened bytes) l)) (sym all)
      (subst IsCalm (sym (replayed_append (opened bytes) calls (Synced ∷ []))) (record { seen = refl; torn = refl }));
  rest = subst IsUnsynced (sym (drop_all (length calls + 1) (calls ++ Synced ∷ []) (omega (arith, length-append calls (Synced ∷ []))))) tt;
}
  where
    all : take (length calls + 1) (calls ++ Synced ∷ []) ≡ calls ++ Synced ∷ []
    all = take_all (length calls + 1) (calls ++ Synced ∷ []) (omega (arith, length-append calls (Synced ∷ [])))

-- another call comes last
pub ends_other : (calls : List DiskCall) (last : ℕ) (call : DiskCall) → EndsAtSync calls last → IsUnsynced (call ∷ []) → EndsAtSync (calls ++ call ∷ []) last
ends_other calls last call ends other = record {
  within = omega (arith, ends.within, length-append calls (call ∷ []));
  calm = λ bytes. subst (λ (l : List DiskCall). IsCalm (replayed (opened bytes) l)) (sym (take-append-le last calls (call ∷ []) ends.within)) (ends.calm bytes);
  rest = subst IsUnsynced (sym (drop-append-le last calls (call ∷ []) ends.within)) (unsynced_append (drop last calls) (call ∷ []) ends.rest other);
}

-- one call after the others
pub one_more : (s : DiskState) (old new : List DiskCall) (call : DiskCall) → new ≡ old ++ call ∷ [] → replayed s new ≡ after_call (replayed s old) call
one_more s old new call is = ap (replayed s) is ∙ replayed_append s old (call ∷ [])
