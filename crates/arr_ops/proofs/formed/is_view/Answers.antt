use Rattle.std.proofs.Common.{◌&&◌, true, ap, sym, ◌∙◌, Bor}
use Rattle.std.specs.List.{list_all}
use Rattle.std.specs.Option.{option_map, option_to_list}
use Rattle.std.specs.Prelude.{Option}
use Rattle.arr_view.specs.Views.{is_view}
use Rattle.arr_view.specs.declared.view.View.{View}
use Rattle.arr_ops.proofs.Parts.{view_test}
use Rattle.arr_ops.proofs.formed.is_view.Goals as goal

pub returns-in-Some : goal.returns-in-Some
returns-in-Some c =
    view_test c.in-Some.view.now c.positions.result c.positions.ensures.lawful c.positions.ensures.value ∙ c.positions.ensures.lawful
    ∙ sym (ap (λ b. b && true) c.positions.ensures.lawful)
    ∙ sym (ap (λ (o : Option (Bor View)). list_all is_view (option_to_list (option_map (λ (v : Bor View). v.now) o))) c.in-Some.is)
