-- A walk by strips: what is loaded, computed and stored for some positions side by side.
use Rattle.std.specs.Prelude.{nat_lt, ℕ, ℤ, ◌≡◌, ◌≢◌, ◌<◌, ◌==◌, List, [], ◌∷◌, Bool, true, cond, map, length, Option, Some, None}
use Rattle.std.specs.List.{AllByRecursion, range_with_len, list_any}
use Rattle.arr_num.specs.declared.elem.Elem.{Elem}
use Rattle.arr_ops.specs.declared.op.Op.{Op}
use Rattle.arr_view.specs.Strided.{Strided}
use Rattle.arr_view.specs.Views.{elements, identical}
use Rattle.arr_ops.specs.Memory.{Cell, Writes, changed}
use Rattle.arr_ops.specs.Ops.{freed_by}
use Rattle.arr_store.specs.Cells.{number_at}
use Rattle.arr_strips.specs.Columns.{Columns, place_at, ends, next, folds_to, results_at}

abbrev pub Bases : Type 0
Bases = ℕ → Option Cell

-- numbers written at places of one base
abbrev pub put_at : ℕ → List ℕ → List ℤ → Bases → Bases
put_at b es xs f a = cond (b == a) (changed (Writes es xs) (f b)) (f a)

-- the places of a view at c positions from p on
abbrev pub part : Strided → ℕ → ℕ → List ℕ
part v p c = map (place_at v) (range_with_len p c)

-- what stands in its lane
abbrev pub lane_of : Columns → Strided → ℕ → ℕ → List ℤ
lane_of h v p c = map (λ q. h q v) (range_with_len p c)

-- a strip is stored view after view
abbrev pub stored : ℕ → ℕ → Columns → List Strided → Bases → Bases
stored p c h [] f = f
stored p c h (v ∷ vs) f = stored p c h vs (put_at v.base (part v p c) (lane_of h v p c) f)

-- only where the block does not free its base
abbrev pub kept : List Op → Option Strided → Option Strided
kept all None = None
kept all (Some o) = cond (freed_by all o.base) None (Some o)

abbrev pub put_out : Option Strided → List ℤ → Bases → Bases
put_out None xs f = f
put_out (Some o) xs f = put_at o.base (elements o) xs f

-- after the walk the results of the block's reductions are written, one after another
abbrev pub closed : ℕ → List Op → List Op → Columns → Bases → Bases
closed n all [] h f = f
closed n all (op ∷ ops) h f = closed n all ops (next op h) (put_out (kept all (folds_to op)) (results_at n op h) f)

-- a view that is loaded, or one that is identical to it
abbrev pub loaded : List Strided → Strided → Bool
loaded reads v = list_any (λ w. identical w v) reads

-- the columns of the first p positions, and others from there on
abbrev pub joined : ℕ → Columns → Columns → Columns
joined p before here i = cond (nat_lt i p) (before i) (here i)

-- ---- what a walk leaves

-- the type and the length of a cell
abbrev pub outline : Option Cell → Option (Elem × ℕ)
outline None = None
outline (Some c) = Some (c.elem, length c.numbers)

abbrev pub size : Option (Elem × ℕ) → ℕ
size None = 0
size (Some o) = o.1

-- after the first p positions, from the bases m
pub record Walked (n : ℕ) (ops : List Op) (reads writes : List Strided) (m : Bases) (p : ℕ) (now : Bases) : Type 0 where
  pub begun : Columns  -- the numbers at each position when its strip is loaded
  pub read : (v : Strided) → loaded reads v ≡ true → (i : ℕ) → i < p → begun i v ≡ number_at (m v.base) (place_at v i)
  pub same : (b : ℕ) → outline (now b) ≡ outline (m b)
  pub hit : AllByRecursion (λ v. (i : ℕ) → i < p → number_at (now v.base) (place_at v i) ≡ ends ops begun i v) writes
  pub miss : (b e : ℕ) → AllByRecursion (λ (v : Strided). v.base ≡ b → (i : ℕ) → i < p → place_at v i ≢ e) writes → number_at (now b) e ≡ number_at (m b) e
