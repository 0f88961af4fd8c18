use Rattle.std.proofs.Common.{rules, string_bytes, ◌∙◌, ap}
use Rattle.arr_demo.specs.Script.{drawn_script}
use Rattle.arr_demo.proofs.Turns.{one_turn, no_turn, whole_script}
use Rattle.arr_demo.proofs.script.demo_script.Goals as goal

-- src/script.rt:97:5
pub turns-preserved : goal.turns-preserved
turns-preserved c =
    one_turn _ _ _ _ _ c.turns.words c.next_word-in-turns.new.self (string_bytes c.turns.text) (string_bytes c.write_turn.new.text) (search rules) c.next_word-in-turns.ensures c.in_ok-write_turn.ensures
    ∙ c.turns.invariant

-- src/script.rt:88:1
pub returns : goal.returns
returns c =
    whole_script _ _ _ _ _ _ _ (string_bytes c.turns.text) _ c.next_word.ensures c.next_word-2.ensures c.next_word-3.ensures
    (no_turn _ _ _ _ c.turns.words _ _ (search rules) c.turns.invariant) c.in_ok-push_str.ensures.bytes
    ∙ ap drawn_script c.seed_from_u64-words.ensures
