-- The elements of a view that are still to come.
use Rattle.std.specs.Prelude.{ℕ, ◌-◌, List}
use Rattle.std.specs.List.{range_with_len}
use Rattle.arr_gather.specs.declared.places.Rest.{Rest}
use Rattle.arr_gather.specs.declared.places.Rest.TheVariants.{Row, Strided}

abbrev pub to_visit : Rest → List ℕ
to_visit (Row next end) = range_with_len next (end - next)
to_visit (Strided walk) = walk
