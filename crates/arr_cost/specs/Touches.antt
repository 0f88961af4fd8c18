-- What operations touch, in numbers: a class is the place of the first view that is identical, a base that of the first view of it.
use Rattle.std.specs.Prelude.{◌≡◌, ◌<◌, ℕ, ◌+◌, ◌*◌, ◌==◌, nat_lt, List, [], ◌∷◌, ◌++◌, Bool, false, ◌&&◌, ◌||◌, not, map, cond, get_or, length, Option, None}
use Rattle.std.specs.List.{filter, flat_map, list_all, list_any, position_or_len}
use Rattle.std.specs.Option.{option_map, option_to_list}
use Rattle.arr_view.specs.Strided.{Strided}
use Rattle.arr_view.specs.Views.{has, identical}
use Rattle.arr_ops.specs.Costs.{distinct, total, weight}
use Rattle.arr_ops.specs.Ops.{array_of, views}
use Rattle.arr_ops.specs.declared.op.Op.{Op}
use Rattle.arr_cost.specs.declared.touches.Touch.{Touch}
use Rattle.arr_cost.specs.declared.touches.Touches.{Touches}

abbrev pub class_of : List Strided → Strided → ℕ
class_of all v = position_or_len (identical v) all

abbrev pub base_of : List Strided → ℕ → ℕ
base_of all b = position_or_len (λ (u : Strided). u.base == b) all

abbrev pub touch_of : List Op → List Strided → Strided → Touch
touch_of list all v = record { class = class_of all v; base = base_of all v.base; weight = weight list v }

abbrev pub touches_of : List Op → List Strided → Op → Touches
touches_of list all op = record {
  first = option_map (touch_of list all) (array_of op.first);
  second = option_map (touch_of list all) (array_of op.second);
  out = option_map (touch_of list all) op.out;
  makes = op.makes;
  frees = option_map (base_of all) op.frees;
}

abbrev pub untouched : Touches
untouched = record { first = None; second = None; out = None; makes = false; frees = None }

-- for each number what its operation touches, and nothing for 0
abbrev pub table_of : List Op → List Touches
table_of list = untouched ∷ map (touches_of list (flat_map views list)) list

-- what the operations of a block touch, in the order of the block
abbrev pub touched_by : List Touches → List ℕ → List Touches
touched_by table block = map (λ i. get_or table i untouched) block

abbrev pub makes_number : ℕ → Touches → Bool
makes_number b t = t.makes && list_any (λ (o : Touch). o.base == b) (option_to_list t.out)

abbrev pub frees_number : ℕ → Touches → Bool
frees_number b t = has (option_to_list t.frees) b

-- the view, if its base is not marked
abbrev pub outside : List Bool → Option Touch → List Touch
outside marked o = filter (λ (t : Touch). not (get_or marked t.base false)) (option_to_list o)

-- what is touched outside the block that makes some bases and frees others
abbrev pub kept : List Bool → List Bool → Touches → List Touch
kept made freed t = (outside made t.first ++ outside made t.second) ++ outside freed t.out

abbrev pub same_class : Touch → Touch → Bool
same_class s t = s.class == t.class

-- ---- numbers below a bound

abbrev pub touch_below : ℕ → Option Touch → Bool
touch_below n o = list_all (λ (t : Touch). nat_lt t.class n && (nat_lt t.base n && nat_lt t.weight 8388609)) (option_to_list o)

abbrev pub free_below : ℕ → Option ℕ → Bool
free_below n o = list_all (λ b. nat_lt b n) (option_to_list o)

abbrev pub is_below : ℕ → Touches → Bool
is_below n t =
    touch_below n t.first && (touch_below n t.second && (touch_below n t.out && free_below n t.frees))

-- how many are marked
abbrev pub marks : List Bool → ℕ
marks [] = 0
marks (b ∷ bs) = cond b 1 0 + marks bs

-- what is touched weighs, each class once
abbrev pub weight_once : List Touch → ℕ
weight_once touched = total (λ (t : Touch). t.weight) (distinct same_class touched)

-- the sum is over what is done, each class once, and its classes are those that are seen
pub record Counted (done : List Touch) (seen : List Bool) (sum : ℕ) : Type 0 where
  pub each : (c : ℕ) → c < length seen → get_or seen c false ≡ list_any (λ (t : Touch). t.class == c) done
  pub value : sum ≡ weight_once done

-- another sum is over some more, and so are the classes that are seen then
abbrev pub CountsMore : List Bool → ℕ → List Bool → ℕ → List Touch → Type 0
CountsMore seen sum seen_then sum_then more = (done : List Touch) → Counted done seen sum → Counted (done ++ more) seen_then sum_then

-- those that pass are marked too
abbrev pub MarksMore : List Bool → List Bool → (ℕ → Bool) → Type 0
MarksMore old new test = (b : ℕ) → b < length old → get_or new b false ≡ (get_or old b false || test b)

-- marked are the bases that the test finds of a block
pub record AreMarked (test : ℕ → Touches → Bool) (table : List Touches) (block : List ℕ) (marked : List Bool) : Type 0 where
  pub each : (b : ℕ) → b < 3 * length table → get_or marked b false ≡ list_any (test b) (touched_by table block)
