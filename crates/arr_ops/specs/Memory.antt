-- What an operation does to the memory.
use Rattle.std.specs.Prelude.{ℕ, suc, ℤ, pos, ◌+◌, ◌*◌, ◌==◌, List, [], ◌∷◌, Bool, cond, map, take, drop, get_or, set, replicate, Option, Some, None}
use Rattle.std.specs.List.{fold, flat_map, range_with_len}
use Rattle.arr_view.specs.Strided.{Strided}
use Rattle.arr_view.specs.Views.{elements, positions, has}
use Rattle.arr_ops.specs.Ops.{freed}
use Rattle.arr_num.specs.Kinds.{Kind, Reduction, Scan, Ending, Printing, kind}
use Rattle.arr_num.specs.Numbers.{value, fold_start}
use Rattle.arr_num.specs.declared.elem.Elem.{Elem}
use Rattle.arr_ops.specs.declared.op.Op.{Op}
use Rattle.arr_ops.specs.declared.op.Operand.{Operand}
use Rattle.arr_ops.specs.declared.op.Operand.TheVariants.{Array, Number}
use Rattle.arr_num.specs.declared.code.Code.{Code}
use Rattle.arr_num.specs.declared.code.Code.TheVariants.{Range}

pub record Cell : Type 0 where
  pub elem : Elem
  pub numbers : List ℤ

pub record Slot : Type 0 where
  pub elem : Elem
  pub lengths : List ℕ
  pub numbers : List ℤ

pub record Memory : Type 0 where
  pub bases : ℕ → Option Cell
  pub slots : ℕ → Option Slot

abbrev pub empty : Memory
empty = record { bases = λ b. None; slots = λ s. None }

abbrev pub without_slots : Memory → Memory
without_slots m = record { bases = m.bases; slots = λ s. None }

-- ---- values

abbrev pub zip_with : (ℤ → ℤ → ℤ) → List ℤ → List ℤ → List ℤ
zip_with f (x ∷ xs) (y ∷ ys) = f x y ∷ zip_with f xs ys
zip_with f _ _ = []

-- the numbers along an axis of length n, with `inner` positions after it
abbrev pub lane : List ℤ → ℕ → ℕ → ℕ → ℕ → List ℤ
lane xs n inner o i = map (λ k. get_or xs ((o * n + k) * inner + i) (pos 0)) (range_with_len 0 n)

abbrev pub folded : (ℤ → ℤ → ℤ) → ℤ → List ℕ → ℕ → List ℤ → List ℤ
folded f z lengths axis xs =
    let n : ℕ = get_or lengths axis 1 in
    let inner : ℕ = positions (drop (suc axis) lengths) in
    flat_map (λ o. map (λ i. fold f z (lane xs n inner o i)) (range_with_len 0 inner)) (range_with_len 0 (positions (take axis lengths)))

abbrev pub scanned : (ℤ → ℤ → ℤ) → ℤ → List ℕ → ℕ → List ℤ → List ℤ
scanned f z lengths axis xs =
    let n : ℕ = get_or lengths axis 1 in
    let inner : ℕ = positions (drop (suc axis) lengths) in
    flat_map (λ o. flat_map (λ k. map (λ i. fold f z (take (suc k) (lane xs n inner o i))) (range_with_len 0 inner)) (range_with_len 0 n)) (range_with_len 0 (positions (take axis lengths)))

abbrev pub lengths_of : Option Operand → List ℕ
lengths_of (Some (Array v)) = v.lengths
lengths_of _ = []

abbrev pub out_lengths : Option Strided → List ℕ
out_lengths (Some v) = v.lengths
out_lengths None = []

abbrev pub or_zero : Option ℕ → ℕ
or_zero (Some n) = n
or_zero None = 0

abbrev pub results_of : Kind → Code → Elem → List ℕ → ℕ → List ℤ → List ℤ → List ℤ
results_of Reduction code t lengths axis xs ys = folded (value code t) (fold_start code t) lengths axis xs
results_of Scan code t lengths axis xs ys = scanned (value code t) (fold_start code t) lengths axis xs
results_of Printing code t lengths axis xs ys = xs
results_of Ending code t lengths axis xs ys = []
results_of k code t lengths axis xs ys = zip_with (value code t) xs ys

-- the list of results, from the lists of inputs, the first of these lengths
unfoldable pub results : Code → Elem → List ℕ → ℕ → List ℤ → List ℤ → List ℤ
results code t lengths axis xs ys = results_of (kind code) code t lengths axis xs ys

-- ---- one step

abbrev pub read : Option Cell → List ℕ → List ℤ
read None ps = map (λ p. pos 0) ps
read (Some c) ps = map (λ p. get_or c.numbers p (pos 0)) ps

abbrev pub write : List ℕ → List ℤ → List ℤ → List ℤ
write (p ∷ ps) (x ∷ xs) numbers = write ps xs (set numbers p x)
write _ _ numbers = numbers

-- the numbers of an operand: a constant, and 0 for none, stands at each of n positions
abbrev pub operand : Memory → ℕ → Option Operand → List ℤ
operand m n None = replicate n (pos 0)
operand m n (Some (Number z)) = replicate n z
operand m n (Some (Array v)) = read (m.bases v.base) (elements v)

-- RANGE has the positions as its input
abbrev pub first_numbers : Code → Memory → ℕ → Option Operand → List ℤ
first_numbers Range m n o = map pos (range_with_len 0 n)
first_numbers _ m n o = operand m n o

-- what happens to one base
pub data Change : Type 0 where
  Keeps : Change
  Drops : Change
  Becomes : Cell → Change
  Writes : List ℕ → List ℤ → Change

abbrev pub changed : Change → Option Cell → Option Cell
changed Keeps c = c
changed Drops c = None
changed (Becomes new) c = Some new
changed (Writes ps xs) None = None
changed (Writes ps xs) (Some c) = Some (record { elem = c.elem; numbers = write ps xs c.numbers })

abbrev pub output_change : Option Strided → Bool → Elem → List ℤ → ℕ → Change
output_change None makes t xs b = Keeps
output_change (Some v) makes t xs b = cond (v.base == b) (cond makes (Becomes (record { elem = t; numbers = xs })) (Writes (elements v) xs)) Keeps

abbrev pub change : Op → List ℤ → ℕ → Change
change op xs b = cond (has (freed op) b) Drops (output_change op.out op.makes op.to xs b)

abbrev pub slot_after : Option ℕ → Slot → ℕ → Option Slot → Option Slot
slot_after None new s old = old
slot_after (Some k) new s old = cond (k == s) (Some new) old

abbrev pub put : Memory → Op → List ℤ → Memory
put m op xs =
    record {
      bases = λ b. changed (change op xs b) (m.bases b);
      slots = λ s. slot_after op.slot (record { elem = op.from; lengths = lengths_of op.first; numbers = xs }) s (m.slots s);
    }

abbrev pub computed : Memory → Op → List ℤ
computed m op =
    let n : ℕ = positions (out_lengths op.out) in
    results op.code op.to (lengths_of op.first) (or_zero op.axis) (first_numbers op.code m n op.first) (operand m n op.second)

abbrev pub step : Memory → Op → Memory
step m op = put m op (computed m op)

abbrev pub eager : Memory → List Op → Memory
eager m [] = m
eager m (op ∷ ops) = eager (step m op) ops
