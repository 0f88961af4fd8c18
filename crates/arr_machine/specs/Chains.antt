-- Additions that follow one another in a block.
use Rattle.std.specs.Prelude.{ℕ, ◌≡◌, ◌≢◌, ◌+◌, ◌<◌, true, List, cond, get_or, length, Option, Some, None, is_some}
use Rattle.arr_num.specs.declared.code.Code.TheVariants.{Add}
use Rattle.arr_lanes.specs.declared.line.Line.{Line}
use Rattle.arr_lanes.specs.declared.line.Work.TheVariants.{Arithmetic}
use Rattle.arr_lanes.specs.declared.sum.Sum.{Sum}
use Rattle.arr_machine.specs.declared.chain.Addition.{Addition}
use Rattle.arr_machine.specs.declared.task.Task.{Task}
use Rattle.arr_machine.specs.declared.task.Task.TheVariants.{Line as line_task, Link}

abbrev pub addition_line : Addition → Line
addition_line a = record { work = Arithmetic Add a.first a.second; to = a.to; dest = a.dest }

-- an addition as a task: a link, or a plain line
abbrev pub addition_task : Addition → Task
addition_task a = cond a.is_link (Link (addition_line a)) (line_task (addition_line a))

-- the task at k is an addition
pub record AddsAt (tasks : List Task) (k : ℕ) (a : Addition) : Type 0 where
  pub there : k < length tasks
  pub task : addition_task a ≡ get_or tasks k (addition_task a)

-- the addition at k adds another lane to what the one before it gives, which no operation behind k reads
pub record Follows (tasks : List Task) (k : ℕ) (before a : Addition) : Type 0 where
  pub here : AddsAt tasks k a
  pub link : before.is_link ≡ true
  pub first : a.first ≡ before.dest
  pub other : a.second ≢ before.dest

-- so do the additions at k and behind it
abbrev pub Follow : List Task → ℕ → Addition → Addition × Addition → Type 0
Follow tasks k before two = Follows tasks k before two.0 × Follows tasks (k + 1) two.0 two.1

-- a sum takes its other lanes from two more additions, or from none
abbrev pub EndsSum : List Task → ℕ → Addition → ℕ → Option (ℕ × ℕ) → Type 0
EndsSum tasks k last dest None = dest ≡ last.dest
EndsSum tasks k last dest (Some more) = (two : Addition × Addition) × (Follow tasks k last two × ((dest ≡ two.1.dest) × ((more.0 ≡ two.0.second) × (more.1 ≡ two.1.second))))

-- a sum is that of the additions `start` at k and `last` behind it, and of those that follow them
pub record SumOf (tasks : List Task) (k : ℕ) (s : Sum) (start last : Addition) : Type 0 where
  pub starts : AddsAt tasks k start
  pub follows : Follows tasks (k + 1) start last
  pub first : s.first ≡ start.first
  pub second : s.second ≡ start.second
  pub third : s.third ≡ last.second
  pub to : s.to ≡ start.to
  pub ends : EndsSum tasks (k + 2) last s.dest s.more

abbrev pub IsSumAt : List Task → ℕ → Sum → Type 0
IsSumAt tasks k s = (start : Addition) × ((last : Addition) × SumOf tasks k s start last)

-- how many additions a sum takes
abbrev pub additions : Sum → ℕ
additions s = cond (is_some s.more) 4 2
