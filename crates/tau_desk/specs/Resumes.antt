-- Where no worker has a call in hand or one to begin, the lowest of the calls that were left over goes on.
use Rattle.std.specs.Prelude.{ℕ, ◌<◌, ◌≤◌, ◌≡◌, ◌⊎◌, if◌then◌else◌, nat_le, Option, Some, None, List, [], drop, length, replicate, slice_get, slice_set, take}
use Rattle.std.specs.List.{remove}
use Rattle.tau_core.specs.declared.state.Load.{Load}
use Rattle.tau_model.specs.History.{Numbered}
use Rattle.tau_rule.specs.Heads.{CanResume, left_by, resumed, role_or, split_as}
use Rattle.tau_rule.specs.Knows.{Knows}
use Rattle.tau_rule.specs.Role.{Role, Working, role_in}
use Rattle.tau_rule.specs.Steps.{worker_in_share}
use Rattle.tau_desk.specs.declared.resumes.LeftOver.{LeftOver}
use Rattle.tau_desk.specs.Seats.{PlainHead, PlainWorkerSeat}
use Rattle.tau_desk.specs.Shares.{PlainWork}

-- a worker has no call in hand, and none to begin, of so many calls
pub record RestsWork (calls : ℕ) (o : PlainWork) : Type 0 where
  pub hand : o.txn.hand ≡ None
  pub begun : o.mark ≡ None
  pub again : o.again ≡ None
  pub next : calls < o.next

-- no worker is out, and each rests
abbrev pub Rests : ℕ → Option PlainWork → Type 0
Rests calls None = ⊥
Rests calls (Some o) = RestsWork calls o

abbrev pub AllRest : ℕ → List (Option PlainWork) → Type 0
AllRest calls works = (w : ℕ) (o : Option PlainWork) → slice_get works w ≡ Some o → Rests calls o

abbrev pub left_in : Option PlainWork → List ℕ
left_in None = []
left_in (Some o) = o.left

-- the lower of two, of equal ones the first
abbrev pub lower : Option LeftOver → Option LeftOver → Option LeftOver
lower None b = b
lower (Some a) None = Some a
lower (Some a) (Some b) = if nat_le a.number b.number then Some a else Some b

-- this is the lowest of these calls, which were left over of one worker
abbrev pub IsLowestIn : ℕ → List ℕ → Option LeftOver → Type 0
IsLowestIn w numbers None = numbers ≡ []
IsLowestIn w numbers (Some l) = (l.worker ≡ w) × (slice_get numbers l.at ≡ Some l.number) × ((i n : ℕ) → slice_get numbers i ≡ Some n → l.number ≤ n)

-- and of all calls that were left over
pub record IsLeftAt (works : List (Option PlainWork)) (l : LeftOver) : Type 0 where
  pub work : Option PlainWork
  pub is : slice_get works l.worker ≡ Some work
  pub number : slice_get (left_in work) l.at ≡ Some l.number

abbrev pub IsLowestOf : List (Option PlainWork) → Option LeftOver → Type 0
IsLowestOf works None = (w : ℕ) (o : Option PlainWork) → slice_get works w ≡ Some o → left_in o ≡ []
IsLowestOf works (Some l) = IsLeftAt works l × ((w : ℕ) (o : Option PlainWork) (i n : ℕ) → slice_get works w ≡ Some o → slice_get (left_in o) i ≡ Some n → l.number ≤ n)

-- every worker rests, and this is the lowest of the calls that were left over; or some worker does not, or none was left over
abbrev pub CanGoOn : ℕ → List (Option PlainWork) → Option LeftOver → Type 0
CanGoOn calls works None = (AllRest calls works → ⊥) ⊎ IsLowestOf works None
CanGoOn calls works (Some l) = AllRest calls works × IsLowestOf works (Some l)

-- a worker for which the call comes next that is its i-th one left over
abbrev pub resumed_at : ℕ → Role → Role
resumed_at i x = record x { share = Working (record (worker_in_share x.share) { waiting = take 1 (drop i (worker_in_share x.share).left); left = remove (worker_in_share x.share).left i }) }

-- what its new seat knows
abbrev pub told_resumed : ℕ → ℕ → Knows → Knows
told_resumed w i v = split_as w (resumed_at i (role_or (role_in w v.roles))) v

-- the head can give the role of this worker to a new seat for which the call comes next that is its i-th one left over
pub record ResumesAt (l : Load) (v : Knows) (w i : ℕ) : Type 0 where
  pub call : Numbered
  pub front : List Numbered
  pub back : List Numbered
  pub can : CanResume l v w call front back
  pub told : told_resumed w i v ≡ split_as w (resumed can.role can.worker call front back) v

-- the seat of the worker of the lowest call that was left over, which comes next there, leaves the head; it has room for one committed call more
pub record IsResumed (l : Load) (head head' : PlainHead) (new : PlainWorkerSeat) : Type 0 where
  pub left : LeftOver
  pub can : CanGoOn (length l.calls) head.workers (Some left)
  pub worker : new.worker ≡ left.worker
  pub work : PlainWork
  pub there : slice_get head.workers left.worker ≡ Some (Some work)
  pub table : new.table_id ≡ head.table_id
  pub head_me : head'.me ≡ (left_by left.worker head.me.0, [])
  pub new_me : new.me ≡ (told_resumed left.worker left.at head.me.0, [])
  pub head_is : head' ≡ record head { me = head'.me; workers = slice_set head.workers left.worker None }
  pub work_is : new.work ≡ record work { again = Some left.number; left = remove work.left left.at; left_room = new.work.left_room; committed_room = new.work.committed_room }
  pub roomy : 1 ≤ new.work.committed_room
  pub read : new.read ≡ (0, replicate (length head.seen) 0)
  pub seen : new.seen ≡ head.seen

abbrev pub ResumedBy : Load → PlainHead → PlainHead → Option PlainWorkerSeat → Type 0
ResumedBy l head head' None = (head' ≡ head) × CanGoOn (length l.calls) head.workers None
ResumedBy l head head' (Some new) = IsResumed l head head' new
