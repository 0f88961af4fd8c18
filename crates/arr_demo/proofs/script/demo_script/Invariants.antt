use Rattle.std.proofs.Common.{◌≡◌, ◌++◌, ◌-◌, string_bytes}
use Rattle.std.specs.List.{flat_map}
use Rattle.rand_core.specs.Steps.{first_words}
use Rattle.rand_pcg.specs.Pcg.{pcg32}
use Rattle.arr_demo.specs.Script.{opening, turn}
use Rattle.arr_demo.proofs.script.demo_script.Given as goal

-- the text so far, and the turns that are still to come, are all turns
abbrev pub invariant-turns : goal.invariant-turns
invariant-turns l =
    string_bytes l.text ++ flat_map (turn l.rows l.columns) (first_words pcg32 (l.turns - l.counter) l.words)
    ≡ opening l.rows l.columns ++ flat_map (turn l.rows l.columns) (first_words pcg32 l.turns l.initial.words)
