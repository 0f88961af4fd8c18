-- From which memories a list may run.
use Rattle.std.specs.Prelude.{ℕ, nat_lt, List, [], ◌++◌, Bool, false, not, ◌||◌, ◌&&◌, map, length, Option, Some, None, is_none}
use Rattle.std.specs.List.{list_all}
use Rattle.std.specs.Option.{option_to_list}
use Rattle.arr_num.specs.declared.elem.Elem.{Elem}
use Rattle.arr_num.specs.Numbers.{in_type}
use Rattle.arr_view.specs.Strided.{Strided}
use Rattle.arr_view.specs.Views.{elements}
use Rattle.arr_ops.specs.declared.op.Op.{Op}
use Rattle.arr_ops.specs.Ops.{inputs, outputs, freed, creates}
use Rattle.arr_ops.specs.Formed.{same_elem}
use Rattle.arr_ops.specs.Memory.{Memory, Cell}

-- a base, its type and places that an operation needs in it
pub record Need : Type 0 where
  pub base : ℕ
  pub elem : Elem
  pub places : List ℕ

abbrev pub needs : Op → List Need
needs op =
    map (λ (v : Strided). record { base = v.base; elem = op.to; places = elements v }) (outputs op)
    ++ map (λ (v : Strided). record { base = v.base; elem = op.from; places = elements v }) (inputs op) ++ map (λ b. record { base = b; elem = op.to; places = [] }) (freed op)

-- the base is there with the type, its numbers are of that type, and the places lie inside it
abbrev pub meets_need : Option Cell → Need → Bool
meets_need None n = false
meets_need (Some c) n = same_elem c.elem n.elem && (list_all (in_type c.elem) c.numbers && list_all (λ e. nat_lt e (length c.numbers)) n.places)

-- What f needs is there or is created by the list; its slot is empty, and a base that it creates is not there.
abbrev pub op_fits : Memory → List Op → Op → Bool
op_fits m list op =
    list_all (λ (n : Need). creates list n.base || meets_need (m.bases n.base) n) (needs op)
    && (list_all (λ s. is_none (m.slots s)) (option_to_list op.slot) && (not op.makes || list_all (λ (o : Strided). is_none (m.bases o.base)) (outputs op)))

abbrev pub fits : Memory → List Op → Bool
fits m list = list_all (op_fits m list) list
