-- Definitions, computed.
use Rattle.std.specs.Prelude.{◌≡◌, refl, [], ◌∷◌, None, Some}
use Rattle.arr_num.specs.declared.elem.Elem.TheVariants.{I64}
use Rattle.arr_view.specs.Views.{whole_view}
use Rattle.arr_elab.specs.declared.value.Array.{Array}
use Rattle.arr_elab.specs.State.{Names, live_from, number_of, stands_for, with_name}
use Rattle.arr_elab.specs.Outcome.{bound}

-- a whole base of three elements
abbrev three : Array
three = record { view = whole_view 0 (3 ∷ []); elem = I64 }

-- after `a = range(3)`, `b = a` and `del a`
abbrev names : Names
names = with_name (with_name (with_name [] (97 ∷ []) (Some three)) (98 ∷ []) (Some three)) (97 ∷ []) None

pub forgotten : stands_for names (97 ∷ []) ≡ None
forgotten = refl

pub keeps_its_number : number_of names (98 ∷ []) ≡ 1
keeps_its_number = refl

pub next_number : number_of names (99 ∷ []) ≡ 2
next_number = refl

pub one_bound : bound names ≡ 1
one_bound = refl

-- two names of one base count its elements once
pub counted_once : live_from (with_name names (99 ∷ []) (Some three)) 1 0 (3 ∷ []) ≡ 3
counted_once = refl

-- a base without a name counts while the statement that made it is read
pub counted_while_new : live_from [] 0 0 (3 ∷ 5 ∷ []) ≡ 8
counted_while_new = refl

pub not_counted_later : live_from [] 1 0 (3 ∷ 5 ∷ []) ≡ 5
not_counted_later = refl
