-- Worked blocks, by computation: what may be read where it stands, and what is read there.
use Rattle.std.specs.Prelude.{pos, ◌≡◌, refl, [], ◌∷◌, true, false, Some, None}
use Rattle.arr_num.specs.Numbers.{value, wrap}
use Rattle.arr_view.specs.Views.{elements}
use Rattle.arr_ops.specs.Examples.{chained, counted, line, part, sync}
use Rattle.arr_ops.specs.Memory.{eager, empty, results}
use Rattle.arr_lanes.specs.Lanes.{held}
use Rattle.arr_machine.specs.Lent.{is_lent, own_views}

-- of b = a + 1, c = b * 2, printed: a is read alone, b is written, c is written and shown
chained_lent : (is_lent chained (line 0 4) ≡ true) × (is_lent chained (line 1 4) ≡ false) × (is_lent chained (line 2 4) ≡ false)
unfolding elements
chained_lent = (refl, refl, refl)

-- what is shown alone is not lent, another view of its base is
shown_lent : (own_views (sync (line 0 4) 1) ≡ line 0 4 ∷ []) × (is_lent (sync (line 0 4) 1 ∷ []) (line 0 4) ≡ false) × (is_lent (sync (line 0 4) 1 ∷ []) (part 0 1 2 1) ≡ true)
unfolding elements
shown_lent = (refl, refl, refl)

-- of 0, 1, 2, 3 in a base, read from its second place on, place 2 is 3; behind the end nothing is there
counted_held : (held [] (Some (record { base = 0; start = 1 }) ∷ None ∷ []) (eager empty counted).bases 0 2 ≡ pos 3)
    × (held [] (Some (record { base = 0; start = 1 }) ∷ None ∷ []) (eager empty counted).bases 1 2 ≡ pos 0)
unfolding elements results value wrap
counted_held = (refl, refl)
