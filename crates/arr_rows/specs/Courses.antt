-- Where a walk by rows stands.
use Rattle.std.specs.Prelude.{ℕ, pos, ◌≡◌, ◌+◌, ◌*◌, ◌/◌, ◌%◌, ◌<◌, ◌≤◌}
use Rattle.arr_view.specs.Strided.{Strided}
use Rattle.arr_view.specs.Views.{positions}
use Rattle.arr_store.specs.Runs.{moved}
use Rattle.arr_store.specs.declared.runs.Run.{Run}
use Rattle.arr_rows.specs.Rows.{HasRows, spot_at}
use Rattle.arr_rows.specs.declared.course.Course.{Course}

-- it stands at a position of a view, or behind the last
pub record IsAt (v : Strided) (c : Course) : Type 0 where
  pub rows : HasRows v c.row c.page
  pub within : c.position ≤ positions v.lengths
  pub column : c.column ≡ c.position % c.row.length
  pub turn : c.turn ≡ c.position / c.row.length % c.page.length
  pub first : c.position < positions v.lengths → c.first ≡ spot_at v (c.position / c.row.length * c.row.length)

-- a run is the places of a view from a position on
abbrev pub IsRunOf : Strided → ℕ → Run → Type 0
IsRunOf v p run = (i : ℕ) → i < run.count → spot_at v (p + i) ≡ moved (pos run.start) run.stride i
