-- A row of bits that marks the elements of a list.
use Rattle.std.specs.Prelude.{◌≡◌, ℕ, ◌<◌, List, Bool, false, length, get_or}
use Rattle.arr_view.specs.Views.{has, most_elements}

pub record Marks (bits : List Bool) (elements : List ℕ) : Type 0 where
  pub long : length bits ≡ most_elements
  pub each : (x : ℕ) → x < most_elements → get_or bits x false ≡ has elements x
