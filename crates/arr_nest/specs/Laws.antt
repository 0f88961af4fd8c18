-- Index lists and elements.
use Rattle.std.specs.Prelude.{◌≡◌, map, length}
use Rattle.arr_view.specs.Strided.{Strided}
use Rattle.arr_view.specs.Views.{elements, to_place}
use Rattle.arr_shape.specs.Views.{element_at}
use Rattle.arr_nest.specs.Indices.{indices}

abbrev pub NestsWalkViews : Type 0
NestsWalkViews = (v : Strided) → length v.strides ≡ length v.lengths → elements v ≡ map (λ index. to_place (element_at v index)) (indices v.lengths)
