-- Accumulators from strip to strip.
use Rattle.std.proofs.Common.{◌≡◌, ℕ, ◌≤◌, ◌<◌, suc, ℤ, List, [], ◌∷◌, true, cond, ap, sym, ◌∙◌, arith, get_or, drop}
use Rattle.std.proofs.lemmas.Bool.{lt-ltb}
use Rattle.std.specs.List.{AllByRecursion}
use Rattle.arr_view.specs.Views.{positions}
use Rattle.arr_num.specs.Numbers.{value, fold_start}
use Rattle.arr_ops.specs.declared.op.Op.{Op}
use Rattle.arr_ops.specs.Memory.{Memory, lengths_of, or_zero}
use Rattle.arr_ops.specs.Fits.{op_fits}
use Rattle.arr_ops.proofs.Tests.{all_of}
use Rattle.arr_strips.specs.Columns.{Columns, taken, next}
use Rattle.arr_strips.specs.Sums.{AllGathered, StartSums}
use Rattle.arr_strips.specs.Strips.{joined}
use Rattle.arr_strips.specs.Blocks.{block_positions}
use Rattle.arr_strips.specs.Laws.{SumsBegin, SumsGoOn}
use Rattle.arr_strips.proofs.Sums.{gathered_same}
use Rattle.arr_strips.proofs.Stages.{Alone}
use Rattle.arr_strips.proofs.Blocks.{Block, block_of, alones, next_same}

pub sums_begin : SumsBegin
sums_begin ops h sums start = from 0 ops h start
  where
    from : (k : ℕ) (ks : List Op) (h : Columns) → StartSums k ks sums → AllGathered 0 k ks h sums
    from k [] h s = tt
    from k (op ∷ ks) h s = (s.0, from (suc k) ks (next op h) s.1)

module _ (ops : List Op) (m : Memory) (b : Block ops) (fit : AllByRecursion (λ f. op_fits m ops f ≡ true) ops) (p : ℕ) (few : p ≤ block_positions ops) (sums : ℕ → ℕ → ℤ) where
  carried : (k : ℕ) (ks : List Op) → AllByRecursion (Alone (block_positions ops)) ks → (h g : Columns) → ((q : ℕ) → q < p → h q ≡ g q) → AllGathered p k ks h sums → AllGathered p k ks g sums
  carried k [] a h g e s = tt
  carried k (op ∷ ks) a h g e s = (
    (λ red l u.
        s.0 red l u
        ∙ gathered_same (value op.code op.to) (fold_start op.code op.to) (get_or (lengths_of op.first) (or_zero op.axis) 1) (positions (drop (suc (or_zero op.axis)) (lengths_of op.first)))
        (λ q. taken (h q) op.first) (λ q. taken (g q) op.first) p l (λ q v. ap (λ r. taken r op.first) (e q v))),
    carried (suc k) ks a.1 (next op h) (next op g) (λ q v. next_same ops m b fit op h g q (omega arith) a.0 (λ j w. e j (omega arith))) s.1,
  )

pub sums_go_on : SumsGoOn
sums_go_on ops m p now is fit few w here sums s =
    let b : Block ops = block_of ops is in
    let f : AllByRecursion (λ f. op_fits m ops f ≡ true) ops = all_of (op_fits m ops) ops fit in
    carried ops m b f p few sums 0 ops (alones ops m b f) w.begun (joined p w.begun here) (λ q u. sym (ap (λ t. cond t (w.begun q) (here q)) (lt-ltb q p u))) s
