-- Room in spare lists.
use Rattle.std.specs.Prelude.{ℕ, ◌≤◌, length}
use Rattle.arr_lanes.specs.declared.spares.Spares.{Spares}

-- at least n numbers in each
pub record HasRoom (n : ℕ) (s : Spares) : Type 0 where
  pub bytes : n ≤ length s.bytes.items
  pub words : n ≤ length s.words.items
  pub longs : n ≤ length s.longs.items
  pub naturals : n ≤ length s.naturals.items
