-- What a command line means.
use Rattle.std.specs.Prelude.{ℕ, ◌-◌, ◌==◌, ◌&&◌, Bool, true, false, not, nat_le, nat_eq, if◌then◌else◌, List, [], ◌∷◌, codes, Option, Some, None, option_map, option_and_then}
use Rattle.std.specs.Cmp.Lexicographic.{pointwise}
use Rattle.std.specs.List.{list_all}
use Rattle.std.specs.Str.Parse.{digits_value}
use Rattle.tau_base.specs.declared.limits.TheConstants.{MAX_CALLS, MAX_STREAMS, MAX_WORKERS}
use Rattle.tau_base.specs.declared.value.LogMode.{LogMode}
use Rattle.tau_base.specs.declared.value.LogMode.TheVariants.{Values, Commands, WideValues, WideCommands}
use Rattle.tau_disk.specs.declared.call.Tear.{Tear}
use Rattle.tau_disk.specs.declared.call.Tear.TheVariants.{Old, New, Torn}
use Rattle.tau_words.specs.declared.command.Command.{Command}
use Rattle.tau_words.specs.declared.command.Command.TheVariants.{Run, Recover, Drill, Bench, Checkpoint, Restore, Follow, Inspect, Audit}
use Rattle.tau_words.specs.declared.command.Ending.{Ending}
use Rattle.tau_words.specs.declared.command.Ending.TheVariants.{Stop, Fail}
use Rattle.tau_words.specs.declared.number.TheConstants.{MAX_COUNT, MAX_DEVICE_CALL, MAX_START}

abbrev pub Word : Type 0
Word = List ℕ

abbrev pub same_word : Word → Word → Bool
same_word a b = pointwise nat_eq a b

-- ---- numbers

abbrev pub is_digit : ℕ → Bool
is_digit c = nat_le 48 c && nat_le c 57

-- digits without a leading zero, or 0
abbrev pub is_number : Word → Bool
is_number [] = false
is_number (c ∷ []) = is_digit c
is_number (c ∷ d ∷ cs) = not (c == 48) && list_all is_digit (c ∷ d ∷ cs)

abbrev pub bounded : ℕ → ℕ → ℕ → Option ℕ
bounded low high n = if nat_le low n && nat_le n high then Some n else None

-- a number from low to high
abbrev pub number_in : ℕ → ℕ → Word → Option ℕ
number_in low high word = if is_number word then bounded low high (digits_value 10 word) else None

-- how many workers, recovery workers, or streams of a run
abbrev pub count_of : Word → Option ℕ
count_of word = number_in 1 MAX_COUNT word

-- how many streams are read
abbrev pub streams_of : Word → Option ℕ
streams_of word = number_in 1 MAX_STREAMS word

-- how many workers a run had
abbrev pub workers_of : Word → Option ℕ
workers_of word = number_in 1 MAX_WORKERS word

-- how many streams or workers of a run, wide or not
abbrev pub run_count_of : Bool → Word → Option ℕ
run_count_of wide word = if wide then streams_of word else count_of word

-- which call of a disk
abbrev pub call_of : Word → Option ℕ
call_of word = number_in 1 MAX_DEVICE_CALL word

-- ---- the commands

abbrev pub run_with : LogMode → Bool → Bool → Word → Word → Option Command
run_with mode wide optimistic n m = option_and_then (λ streams. option_map (λ workers. Run streams workers mode optimistic) (run_count_of wide m)) (run_count_of wide n)

-- records of calls or of values, of format 2 or 1
abbrev pub mode_by : Bool → Bool → LogMode
mode_by command wide = if command then (if wide then WideCommands else Commands) else (if wide then WideValues else Values)

-- `wide` or nothing
abbrev pub wide_in : List Word → Option Bool
wide_in [] = Some false
wide_in (word ∷ []) = if same_word word (codes "wide") then Some true else None
wide_in (word ∷ more ∷ words) = None

abbrev pub run_as : Bool → Bool → Word → Word → List Word → Option Command
run_as command optimistic n m words = option_and_then (λ wide. run_with (mode_by command wide) wide optimistic n m) (wide_in words)

-- `optimistic` or not, and then that
abbrev pub run_by : Bool → Word → Word → List Word → Option Command
run_by command n m [] = run_as command false n m []
run_by command n m (word ∷ rest) = if same_word word (codes "optimistic") then run_as command true n m rest else run_as command false n m (word ∷ rest)

-- `data` or `command` or neither, and then that
abbrev pub run_of_counts : Word → Word → List Word → Option Command
run_of_counts n m [] = run_by false n m []
run_of_counts n m (word ∷ rest) =
    if same_word word (codes "data") then run_by false n m rest
    else (if same_word word (codes "command") then run_by true n m rest else run_by false n m (word ∷ rest))

-- N M, and then that
abbrev pub run_of : List Word → Option Command
run_of (n ∷ m ∷ rest) = run_of_counts n m rest
run_of _ = None

-- N P
abbrev pub recover_of : List Word → Option Command
recover_of (n ∷ p ∷ []) = option_and_then (λ streams. option_map (λ workers. Recover streams workers) (count_of p)) (streams_of n)
recover_of _ = None

-- N P
abbrev pub checkpoint_of : List Word → Option Command
checkpoint_of (n ∷ p ∷ []) = option_and_then (λ streams. option_map (λ workers. Checkpoint streams workers) (count_of p)) (streams_of n)
checkpoint_of _ = None

-- N P
abbrev pub restore_of : List Word → Option Command
restore_of (n ∷ p ∷ []) = option_and_then (λ streams. option_map (λ workers. Restore streams workers) (count_of p)) (streams_of n)
restore_of _ = None

-- N
abbrev pub follow_of : List Word → Option Command
follow_of (n ∷ []) = option_map Follow (streams_of n)
follow_of _ = None

-- N
abbrev pub inspect_of : List Word → Option Command
inspect_of (n ∷ []) = option_map Inspect (streams_of n)
inspect_of _ = None

-- N M
abbrev pub audit_of : List Word → Option Command
audit_of (n ∷ m ∷ []) = option_and_then (λ streams. option_map (λ workers. Audit streams workers) (workers_of m)) (streams_of n)
audit_of _ = None

abbrev pub tear_of : Word → Option Tear
tear_of word = if same_word word (codes "old") then Some Old else (if same_word word (codes "new") then Some New else (if same_word word (codes "torn") then Some Torn else None))

-- `stop` K T, or `fail` J K with J below the number of streams
abbrev pub ending_of : ℕ → Word → Word → Word → Option Ending
ending_of streams how first second =
    if same_word how (codes "stop") then option_and_then (λ after. option_map (λ tear. Stop after tear) (tear_of second)) (call_of first)
    else (if same_word how (codes "fail") then option_and_then (λ stream. option_map (λ call. Fail stream call) (call_of second)) (number_in 0 (streams - 1) first) else None)

-- N M P, then an ending
abbrev pub drill_of : List Word → Option Command
drill_of (n ∷ m ∷ p ∷ how ∷ first ∷ second ∷ []) =
    option_and_then (λ streams. option_and_then (λ workers. option_and_then (λ recovery. option_map (λ ending. Drill streams workers recovery ending)
    (ending_of streams how first second)) (count_of p)) (count_of m)) (count_of n)
drill_of _ = None

-- A C N M
abbrev pub bench_of : List Word → Option Command
bench_of (a ∷ c ∷ n ∷ m ∷ []) =
    option_and_then (λ start. option_and_then (λ calls. option_and_then (λ streams. option_map (λ workers. Bench start calls streams workers)
    (count_of m)) (count_of n)) (number_in 0 MAX_CALLS c)) (number_in 0 MAX_START a)
bench_of _ = None

-- the command with this name, of those that work on streams that were written
abbrev pub command_on_streams : Word → List Word → Option Command
command_on_streams name rest =
    if same_word name (codes "checkpoint") then checkpoint_of rest
    else (if same_word name (codes "restore") then restore_of rest
    else (if same_word name (codes "follow") then follow_of rest
    else (if same_word name (codes "inspect") then inspect_of rest
    else (if same_word name (codes "audit") then audit_of rest else None))))

-- the command of the words after the program's name; none where they are none
abbrev pub command_of : List Word → Option Command
command_of [] = None
command_of (name ∷ rest) =
    if same_word name (codes "run") then run_of rest
    else (if same_word name (codes "recover") then recover_of rest
    else (if same_word name (codes "drill") then drill_of rest
    else (if same_word name (codes "bench") then bench_of rest else command_on_streams name rest)))
