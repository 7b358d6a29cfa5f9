-- The applied calls of a history are closed.
use Rattle.std.proofs.Common.{ℕ, ◌≤◌, ◌<◌, Bool, true, ◌≡◌, inl, inr, List, sym, ap, subst, ◌∙◌, arith, slice_index, length, get_or-set_same}
use Rattle.std.proofs.lemmas.Bool.{cases_Bool, and_from, and_parts}
use Rattle.tau_model.specs.History.{Act, Member, Closed}
use Rattle.tau_model.specs.Logged.{Place, lv}
use Rattle.tau_model.proofs.Logged.{depends_covers}
use Rattle.tau_base.specs.declared.format.Format.{Format}
use Rattle.tau_scan.specs.declared.log.Log.{Log}
use Rattle.tau_scan.specs.Taken.{Kept, kept_from, taken}
use Rattle.tau_follow_laws.specs.Following.{Followed, starts_among, is_among}
use Rattle.tau_follow_laws.specs.Feeding.{IsFollower}
use Rattle.tau_follow_laws.specs.Histories.{has_record, HoldsHistory, place_of, logs_of}
use Rattle.tau_follow_laws.specs.Laws.{AppliedIsClosed}
use Rattle.tau_follow_laws.proofs.Kept.{all_kept}
use Rattle.tau_follow_laws.proofs.Among.{among_member, member_among, open_from}
use Rattle.tau_follow_laws.proofs.Reached.{kept_one, kept_split}
use Rattle.tau_follow_laws.proofs.GoesOn.{Extends, fronts_grow}
use Rattle.tau_follow_laws.proofs.Follows.{follower_following}
use Rattle.tau_follow_laws.proofs.Judged.{taken_is}
use Rattle.tau_follow_laws.proofs.Lasting.{begin_extends, IsMarkedLog, is_marked, follower_taken, follower_free}

pub taken_kept : (log : Log) (r : Kept) → Member r (taken log) → Member r (kept_from 0 log.streams)
taken_kept log r m = let w = taken_is log r m in all_kept 0 log.streams (w.0, r) w.1

-- a taken record that starts before what an applied one asks is applied
pub asked_applied : (f : Format) (n : ℕ) (fed contents : List (List ℕ)) (s : Followed) (log : Log) → IsFollower f n fed s → Extends fed contents → IsMarkedLog f contents log →
    (r q : Kept) → Member r s.order → Member q (taken log) → q.place.start < slice_index r.place.dep q.place.stream → is_among s.order q ≡ true
asked_applied f n fed contents s log a more g r q mr mq lt = elim (cases_Bool (is_among s.order q)) [
  | inl t ↦ t
  | inr fresh ↦
      let following = follower_following f n fed s a in
      let grown = fronts_grow f fed contents s.streams log.streams more following.fronts g.fronts in
      let free = follower_free f contents log g n fed s a more q mq in
      absurd (elim (kept_split s.streams grown.0 log.streams q grown.1 g.stands (taken_kept log q mq)) [
        | inl there ↦ let low = following.kept.ahead r q mr there (open_from s.out s.order q free fresh) in omega (arith, low, lt)
        | inr beyond ↦ let low = following.kept.within r mr q.place.stream in omega (arith, low, lt, beyond)
      ])
]

module _ {C : Type 0} (place : C → Place) (logs : C → Bool) where
  pub applied_closed : (f : Format) (n : ℕ) (fed contents : List (List ℕ)) (s : Followed) (log : Log) → IsFollower f n fed s → Extends fed contents → IsMarkedLog f contents log →
      (ends : List ℕ) (acts : List (Act C)) → HoldsHistory place logs ends acts log → Closed acts (has_record place logs s.order)
  applied_closed f n fed contents s log a more g ends acts h t u d is up =
      let parts = and_parts (logs t.call) (starts_among s.order (place t.call).stream (place t.call).start) is in
      let found = among_member s.order (place t.call).stream (place t.call).start parts.1 in
      let r : Kept = found.0 in
      let rt = follower_taken f contents log g n fed s a more r found.1 in
      let covers = depends_covers place ends acts h.logged t u d in
      let taken_t : has_record place logs (taken log) t.call ≡ true = and_from (logs t.call) (starts_among (taken log) (place t.call).stream (place t.call).start) parts.0
      (member_among (taken log) (place t.call).stream (place t.call).start r rt found.2 found.3) in
      let own = h.recorded t covers.0 taken_t in
      let same : own.0 ≡ r = kept_one log.streams own.0 r g.stands (taken_kept log own.0 own.1) (taken_kept log r rt) (ap (λ (p : Place). p.stream) own.2 ∙ sym found.2) (ap (λ (p : Place). p.start) own.2 ∙ sym found.3) in
      let at : r.place ≡ place t.call = ap (λ (z : Kept). z.place) (sym same) ∙ own.2 in
      let taken_u = h.closed t u d taken_t up in
      let other = h.recorded u covers.1 taken_u in
      let q : Kept = other.0 in
      let placed = h.logged.places.placed u covers.1 up in
      let goes = placed.2 in
      let past : slice_index (lv true (place u.call)) (place u.call).stream ≡ (place u.call).past = own_end (place u.call) placed.1 in
      let high : slice_index (lv true (place u.call)) (place u.call).stream ≤ slice_index (place t.call).dep (place u.call).stream = rw up at (covers.2 (place u.call).stream) in
      let asks : (place u.call).start < slice_index (place t.call).dep (place u.call).stream = omega (arith, goes, past, high) in
      let there : q.place.start < slice_index r.place.dep q.place.stream = subst (λ (p : Place). p.start < slice_index r.place.dep p.stream) (sym other.2)
      (subst (λ (p : Place). (place u.call).start < slice_index p.dep (place u.call).stream) (sym at) asks) in
      let done = asked_applied f n fed contents s log a more g r q found.1 other.1 there in
      let w = among_member s.order q.place.stream q.place.start done in
      and_from (logs u.call) (starts_among s.order (place u.call).stream (place u.call).start) (h.updating u covers.1 ∙ up)
      (member_among s.order (place u.call).stream (place u.call).start w.0 w.1 (w.2 ∙ ap (λ (p : Place). p.stream) other.2) (w.3 ∙ ap (λ (p : Place). p.start) other.2))
    where
      own_end : (p : Place) → p.stream < length p.dep → slice_index (lv true p) p.stream ≡ p.past
      own_end p lt = get_or-set_same p.dep p.stream p.past 0 lt

pub applied_is_closed : AppliedIsClosed
applied_is_closed f n fed contents s log a begins e marked ends acts h = applied_closed place_of logs_of f n fed contents s log a (begin_extends contents fed begins) (is_marked f contents log e marked) ends acts h
