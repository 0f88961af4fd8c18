-- How many numbers a block keeps, and the lane of a serial one.
use Rattle.std.proofs.Common.{◌≡◌, ◌≤◌, ℕ, List, [], ◌∷◌, true, false, cond, ◌&&◌, length, get_or, set, ap, ◌∙◌, arith}
use Rattle.std.specs.Prelude.{slice_get}
use Rattle.std.specs.List.{list_any}
use Rattle.std.specs.Option.{option_to_list}
use Rattle.arr_ops.specs.declared.op.Op.{Op}
use Rattle.arr_ops.specs.Ops.{serial}
use Rattle.arr_ops.specs.Traffic.{scratch}
use Rattle.arr_num.specs.declared.elem.Elem.{Elem}
use Rattle.arr_store.specs.Buffers.{cell_of}
use Rattle.arr_store.specs.declared.buffer.Buffer.{Buffer}
use Rattle.arr_lanes.specs.Lanes.{IsLane}
use Rattle.arr_contract.specs.Prepared.{kept_numbers, shifts, slides, writer}

-- a block without a serial operation keeps its whole scratch
pub kept_whole : (ops : List Op) → list_any serial ops ≡ false → kept_numbers ops ≡ scratch ops
kept_whole ops none = ap (λ b. cond (b && list_any (shifts ops) (option_to_list (writer ops))) 0 (scratch ops)) none

pub kept_most : (ops : List Op) → kept_numbers ops ≤ scratch ops
kept_most ops = elim (slides ops) as (λ b. cond b 0 (scratch ops) ≤ scratch ops) [ true ↦ omega arith | false ↦ omega arith ]

-- a first lane that another took the place of, of the same type and as long
pub lane_kept : (t : Elem) (room : ℕ) (ls : List Buffer) (l new : Buffer) → IsLane t room (slice_get ls 0) → l ≡ get_or ls 0 l → (cell_of new).elem ≡ (cell_of l).elem
    → length (cell_of new).numbers ≡ length (cell_of l).numbers → IsLane t room (slice_get (set ls 0 new) 0)
lane_kept t room [] l new h e elem long = absurd h
lane_kept t room (k ∷ ls) l new h e elem long =
    let same : length (cell_of l).numbers ≡ length (cell_of k).numbers = ap (λ b. length (cell_of b).numbers) e in
    let most : room ≤ length (cell_of k).numbers = h.1 in
    (elem ∙ ap (λ b. (cell_of b).elem) e ∙ h.0, omega arith)
