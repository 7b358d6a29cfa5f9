-- Committed calls that are kept short.
use Rattle.std.proofs.Common.{ℕ, zero, suc, ◌+◌, ◌≤◌, ◌<◌, ◌≡◌, Bool, true, false, List, [], ◌∷◌, ◌++◌, length, map, refl, ap, sym, subst, ◌∙◌, arith, Option, length-append, length-set}
use Rattle.std.specs.Prelude.{Some, None, slice_get, slice_index_or}
use Rattle.std.specs.List.{All}
use Rattle.std.proofs.lemmas.List.{get_or_append_left, get_or-append-add}
use Rattle.std.proofs.lemmas.List.Elements.{All-append}
use Rattle.tau_base.specs.declared.value.Value.TheVariants as value
use Rattle.tau_proc.specs.declared.reply.Reply.{Reply}
use Rattle.tau_proc.specs.declared.reply.Reply.TheVariants as reply
use Rattle.tau_model.specs.declared.committed.Committed.{Committed}
use Rattle.tau_model.specs.declared.committed.Spot.{Spot}
use Rattle.tau_model.specs.declared.committed_list.Head.{Head}
use Rattle.tau_model.specs.declared.committed_list.KeptReply.{KeptReply}
use Rattle.tau_model.specs.declared.committed_list.KeptReply.TheVariants.{Absent, Number, Text, Refused}
use Rattle.tau_model.specs.Committed.{lv_at}
use Rattle.tau_model.specs.KeptCommitted.{HasText, IsHead, call_of, calls_of, head_behind, reply_behind, reply_of, spot_by, spot_of}

pub calls_length : (ts : List (List ℕ)) (hs : List Head) (ds : List (List ℕ)) → length hs ≡ length ds → length (calls_of ts hs ds) ≡ length hs
calls_length ts [] ds e = refl
calls_length ts (h ∷ hs) [] e = absurd (omega (arith, e))
calls_length ts (h ∷ hs) (d ∷ ds) e = let rest = calls_length ts hs ds (omega (arith, e)) in omega (arith, rest)

-- the call of these two, where both are there
abbrev pub called : List (List ℕ) → Option Head → Option (List ℕ) → Option Committed
called ts None d = None
called ts (Some h) None = None
called ts (Some h) (Some d) = Some (call_of ts h d)

pub calls_get : (ts : List (List ℕ)) (hs : List Head) (ds : List (List ℕ)) (i : ℕ) → length hs ≡ length ds
    → slice_get (calls_of ts hs ds) i ≡ called ts (slice_get hs i) (slice_get ds i)
calls_get ts [] ds i e = refl
calls_get ts (h ∷ hs) [] i e = absurd (omega (arith, e))
calls_get ts (h ∷ hs) (d ∷ ds) zero e = refl
calls_get ts (h ∷ hs) (d ∷ ds) (suc i) e = calls_get ts hs ds i (omega (arith, e))

-- a reply stays where more texts come after those of its list
pub reply_stays : (ts more : List (List ℕ)) (r : KeptReply) → HasText (length ts) r → reply_of (ts ++ more) r ≡ reply_of ts r
reply_stays ts more (Text k) has = ap (λ (t : List ℕ). reply.Ok (value.Text t)) (get_or_append_left ts more [] k has)
reply_stays ts more Absent has = refl
reply_stays ts more (Number n) has = refl
reply_stays ts more (Refused step) has = refl

pub call_stays : (ts more : List (List ℕ)) (h : Head) (d : List ℕ) → IsHead (length ts) h → call_of (ts ++ more) h d ≡ call_of ts h d
call_stays ts more h d has = ap (λ (r : Reply). record { number = h.number; reply = r; dep = d; lv = lv_at d (spot_of h); spot = spot_of h }) (reply_stays ts more h.reply has)

-- the heads behind the first
rest_heads : (n : ℕ) (h : Head) (hs : List Head) → All (IsHead n) (h ∷ hs) → All (IsHead n) hs
rest_heads n h hs all k d lt = all (suc k) d (omega (arith, lt))

pub calls_stay : (ts more : List (List ℕ)) (hs : List Head) (ds : List (List ℕ)) → All (IsHead (length ts)) hs → calls_of (ts ++ more) hs ds ≡ calls_of ts hs ds
calls_stay ts more [] ds all = refl
calls_stay ts more (h ∷ hs) [] all = refl
calls_stay ts more (h ∷ hs) (d ∷ ds) all =
    let here = call_stays ts more h d (all 0 h (omega arith)) in
    let rest = calls_stay ts more hs ds (rest_heads (length ts) h hs all) in
    λ i. here i ∷ rest i

pub calls_append : (ts : List (List ℕ)) (hs gs : List Head) (ds es : List (List ℕ)) → length hs ≡ length ds
    → calls_of ts (hs ++ gs) (ds ++ es) ≡ calls_of ts hs ds ++ calls_of ts gs es
calls_append ts [] gs [] es e = refl
calls_append ts [] gs (d ∷ ds) es e = absurd (omega (arith, e))
calls_append ts (h ∷ hs) gs [] es e = absurd (omega (arith, e))
calls_append ts (h ∷ hs) gs (d ∷ ds) es e = let rest = calls_append ts hs gs ds es (omega (arith, e)) in λ i. call_of ts h d ∷ rest i

-- one more call, with the texts that it replied
pub calls_put : (ts more : List (List ℕ)) (hs : List Head) (ds : List (List ℕ)) (h : Head) (d : List ℕ) → length hs ≡ length ds → All (IsHead (length ts)) hs
    → calls_of (ts ++ more) (hs ++ h ∷ []) (ds ++ d ∷ []) ≡ calls_of ts hs ds ++ call_of (ts ++ more) h d ∷ []
calls_put ts more hs ds h d e all =
    calls_append (ts ++ more) hs (h ∷ []) ds (d ∷ []) e
    ∙ (λ i. calls_stay ts more hs ds all i ++ call_of (ts ++ more) h d ∷ [])

pub has_more : (a b : ℕ) (r : KeptReply) → a ≤ b → HasText a r → HasText b r
has_more a b (Text k) le has = omega (arith, le, has)
has_more a b Absent le has = tt
has_more a b (Number n) le has = tt
has_more a b (Refused step) le has = tt

pub heads_more : (a b : ℕ) (hs : List Head) → a ≤ b → All (IsHead a) hs → All (IsHead b) hs
heads_more a b [] le all k d lt = absurd (omega (arith, lt))
heads_more a b (h ∷ hs) le all zero d lt = has_more a b h.reply le (all 0 h (omega arith))
heads_more a b (h ∷ hs) le all (suc k) d lt = heads_more a b hs le (rest_heads a h hs all) k d (omega (arith, lt))

-- the same call in a list in which other texts stand before those of its own
reply_is_behind : (ts us : List (List ℕ)) (n : ℕ) (r : KeptReply) → n ≡ length ts → reply_of (ts ++ us) (reply_behind n r) ≡ reply_of us r
reply_is_behind ts us n (Text k) e =
    ap (λ (t : List ℕ). reply.Ok (value.Text t)) (ap (λ (m : ℕ). slice_index_or (ts ++ us) (m + k) []) e ∙ get_or-append-add ts us k [])
reply_is_behind ts us n Absent e = refl
reply_is_behind ts us n (Number m) e = refl
reply_is_behind ts us n (Refused step) e = refl

spot_kept : (n : ℕ) (h : Head) (b : Bool) → spot_by b (head_behind n h) ≡ spot_by b h
spot_kept n h true = refl
spot_kept n h false = refl

call_behind : (ts us : List (List ℕ)) (n : ℕ) (h : Head) (d : List ℕ) → n ≡ length ts → call_of (ts ++ us) (head_behind n h) d ≡ call_of us h d
call_behind ts us n h d e =
    let said = reply_is_behind ts us n h.reply e in
    let spot = spot_kept n h h.placed in
    λ i. record { number = h.number; reply = said i; dep = d; lv = lv_at d (spot i); spot = spot i }

calls_behind : (ts us : List (List ℕ)) (n : ℕ) (hs : List Head) (ds : List (List ℕ)) → n ≡ length ts → calls_of (ts ++ us) (map (head_behind n) hs) ds ≡ calls_of us hs ds
calls_behind ts us n [] ds e = refl
calls_behind ts us n (h ∷ hs) [] e = refl
calls_behind ts us n (h ∷ hs) (d ∷ ds) e =
    let here = call_behind ts us n h d e in
    let rest = calls_behind ts us n hs ds e in
    λ i. here i ∷ rest i

-- the calls of another list behind those of this one
pub calls_joined : (ts us : List (List ℕ)) (n : ℕ) (hs gs : List Head) (ds es : List (List ℕ)) → n ≡ length ts → length hs ≡ length ds → All (IsHead (length ts)) hs
    → calls_of (ts ++ us) (hs ++ map (head_behind n) gs) (ds ++ es) ≡ calls_of ts hs ds ++ calls_of us gs es
calls_joined ts us n hs gs ds es e same all =
    calls_append (ts ++ us) hs (map (head_behind n) gs) ds es same
    ∙ (λ i. calls_stay ts us hs ds all i ++ calls_behind ts us n gs es e i)

has_behind : (n a : ℕ) (r : KeptReply) → HasText a r → HasText (n + a) (reply_behind n r)
has_behind n a (Text k) has = omega (arith, has)
has_behind n a Absent has = tt
has_behind n a (Number m) has = tt
has_behind n a (Refused step) has = tt

heads_behind : (n a : ℕ) (hs : List Head) → All (IsHead a) hs → All (IsHead (n + a)) (map (head_behind n) hs)
heads_behind n a [] all k d lt = absurd (omega (arith, lt))
heads_behind n a (h ∷ hs) all zero d lt = has_behind n a h.reply (all 0 h (omega arith))
heads_behind n a (h ∷ hs) all (suc k) d lt = heads_behind n a hs (rest_heads a h hs all) k d (omega (arith, lt))

pub heads_joined : (ts us : List (List ℕ)) (n : ℕ) (hs gs : List Head) → n ≡ length ts → All (IsHead (length ts)) hs → All (IsHead (length us)) gs
    → All (IsHead (length (ts ++ us))) (hs ++ map (head_behind n) gs)
heads_joined ts us n hs gs e all others =
    let long : n + length us ≡ length (ts ++ us) = let l = length-append ts us in omega (arith, l, e) in
    All-append (IsHead (length (ts ++ us))) hs (map (head_behind n) gs)
    (heads_more (length ts) (length (ts ++ us)) hs (omega (arith, long, e)) all)
    (subst (λ (m : ℕ). All (IsHead m) (map (head_behind n) gs)) long (heads_behind n (length us) gs others))

-- how many heads there are where so many calls are seen
pub calls_within : (ts : List (List ℕ)) (hs : List Head) (ds : List (List ℕ)) (calls : List Committed) (i : ℕ) → length hs ≡ length ds → calls_of ts hs ds ≡ calls
    → i < length calls → i < length hs
calls_within ts hs ds calls i same is lt =
    let a = calls_length ts hs ds same in
    let b : length (calls_of ts hs ds) ≡ length calls = ap (λ (cs : List Committed). length cs) is in
    omega (arith, a, b, lt)

pub calls_count : (ts : List (List ℕ)) (hs : List Head) (ds : List (List ℕ)) (calls : List Committed) → length hs ≡ length ds → calls_of ts hs ds ≡ calls → length hs ≡ length calls
calls_count ts hs ds calls same is = sym (calls_length ts hs ds same) ∙ ap (λ (cs : List Committed). length cs) is

pub lv_length : (dep : List ℕ) (spot : Option Spot) → length (lv_at dep spot) ≡ length dep
lv_length dep None = refl
lv_length dep (Some s) = length-set dep s.stream s.past
