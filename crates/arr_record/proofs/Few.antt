-- How many parts there are and how many operations they have: what is recorded is written once, and each base that it makes is freed once.
use Rattle.std.proofs.Common.{◌≡◌, ℕ, ◌+◌, ◌*◌, ◌≤◌, ◌<◌, List, [], ◌∷◌, ◌++◌, Bool, true, false, cond, not, length, map, refl, arith, length-append, Option, Some, None, Ok}
use Rattle.std.specs.Prelude.{◌==◌}
use Rattle.std.specs.List.{filter}
use Rattle.std.specs.Option.{option_to_list}
use Rattle.arr_num.specs.declared.elem.Elem.{Elem}
use Rattle.arr_view.specs.Strided.{Strided}
use Rattle.arr_ops.specs.declared.op.Op.{Op}
use Rattle.arr_ops.specs.Costs.{total}
use Rattle.arr_elab.specs.declared.step.Step.{Step}
use Rattle.arr_elab.specs.declared.step.Step.TheVariants as step
use Rattle.arr_elab.specs.declared.step.Step.TheVariants.{Act, Name, Forget, Done, Cut}
use Rattle.arr_elab.specs.Steps.{deeds}
use Rattle.arr_elab.specs.Outcome.{outcome}
use Rattle.arr_tree.specs.declared.tree.Statement.{Statement}
use Rattle.arr_tree.specs.Weights.{script_weight}
use Rattle.arr_elab.proofs.Counted.{few_deeds}
use Rattle.arr_record.specs.declared.part.Part.{Part}
use Rattle.arr_record.specs.declared.part.Part.TheVariants as part
use Rattle.arr_record.specs.Parts.{Written, State, most, cut_list, cut_if, put, next_op, append, free, free_each, is_named, done, made, after, after_all, nothing_yet, parts_of}

-- the operations of a part; a gather or scatter counts as one
abbrev pub size_of : Part → ℕ
size_of (part.Flush list) = length list
size_of _ = 1

abbrev sum : List Part → ℕ
sum parts = total size_of parts

sum_with : (parts : List Part) (new : Part) → sum (parts ++ new ∷ []) ≡ sum parts + size_of new
sum_with [] new = omega arith
sum_with (p ∷ parts) new = let h = sum_with parts new in omega arith

-- those that are written so far
abbrev size : Written → ℕ
size w = sum w.parts + length w.waiting

-- ---- how many operations each step writes

cut_sum : (parts : List Part) (waiting : List Op) → sum (cut_list parts waiting) ≡ sum parts + length waiting
cut_sum parts [] = omega arith
cut_sum parts (op ∷ ops) = sum_with parts (part.Flush (op ∷ ops))

put_size : (w : Written) (new : Part) → size_of new ≡ 1 → size (put w new) ≡ size w + 1
put_size w new e = let h = sum_with (cut_list w.parts w.waiting) new in let k = cut_sum w.parts w.waiting in omega (arith, e)

cut_if_size : (test : Bool) (w : Written) → size (cut_if test w) ≡ size w
cut_if_size false w = refl
cut_if_size true w = let h = cut_sum w.parts w.waiting in omega arith

append_size : (w : Written) (op : Op) → size (append w op) ≡ size w + 1
append_size w op =
    let waiting : List Op = w.waiting ++ next_op w.waiting op ∷ [] in
    let h = cut_if_size (length waiting == most) (record w { waiting = waiting }) in
    let k : length waiting ≡ length w.waiting + 1 = length-append w.waiting (next_op w.waiting op ∷ []) in
    omega arith

frees_size : (w : Written) (bases : List (ℕ × Elem)) → size (free_each w bases) ≡ size w + length bases
frees_size w [] = omega arith
frees_size w (base ∷ bases) = let h = append_size w (free base) in let k = frees_size (append w (free base)) bases in omega arith

-- what passes a test and what fails it
parted : {X : Type 0} (test : X → Bool) (xs : List X) → length (filter (λ x. not (test x)) xs) + length (filter test xs) ≡ length xs
parted test [] = omega arith
parted test (x ∷ xs) = by (test x) (parted test xs)
  where
    by : (b : Bool) → length (filter (λ x. not (test x)) xs) + length (filter test xs) ≡ length xs
        → length (cond (not b) (x ∷ filter (λ x. not (test x)) xs) (filter (λ x. not (test x)) xs)) + length (cond b (x ∷ filter test xs) (filter test xs)) ≡ length (x ∷ xs)
    by true h = omega arith
    by false h = omega arith

-- what is written, and a FREE for each live base
abbrev owed : State → ℕ
owed s = size s.written + length s.live

done_owed : (s : State) → owed (done s) ≡ owed s
done_owed s =
    let h = frees_size s.written (filter (λ base. not (is_named s.names base)) s.live) in
    let k = parted (is_named s.names) s.live in
    omega arith

made_few : (op : Op) → length (made op) ≤ 1
made_few op = by op.makes op.out
  where
    by : (makes : Bool) (out : Option Strided) → length (map (λ (o : Strided). (let p : ℕ × Elem = (o.base, op.to) in p)) (filter (λ _. makes) (option_to_list out))) ≤ 1
    by makes None = omega arith
    by true (Some o) = omega arith
    by false (Some o) = omega arith

after_owed : (s : State) (new : Step) → owed (after s new) ≤ owed s + 2 * deeds (new ∷ [])
after_owed s (Act op) =
    let h = append_size s.written op in
    let k : length (s.live ++ made op) ≡ length s.live + length (made op) = length-append s.live (made op) in
    let l = made_few op in
    omega arith
after_owed s (step.Gather g) =
    let h = put_size s.written (part.Gather g) refl in
    let new : ℕ × Elem = (g.out.base, g.to) in
    let k : length (s.live ++ new ∷ []) ≡ length s.live + 1 = length-append s.live (new ∷ []) in
    omega arith
after_owed s (step.Scatter g) = let h = put_size s.written (part.Scatter g) refl in omega arith
after_owed s (Name n b) = omega arith
after_owed s (Forget n) = omega arith
after_owed s Done = let h = done_owed s in omega arith
after_owed s Cut = let h = cut_sum s.written.parts s.written.waiting in omega arith

deeds_first : (new : Step) (steps : List Step) → deeds (new ∷ steps) ≡ deeds (new ∷ []) + deeds steps
deeds_first (Act op) steps = omega arith
deeds_first (step.Gather g) steps = omega arith
deeds_first (step.Scatter g) steps = omega arith
deeds_first (Name n b) steps = omega arith
deeds_first (Forget n) steps = omega arith
deeds_first Done steps = omega arith
deeds_first Cut steps = omega arith

all_owed : (s : State) (steps : List Step) → owed (after_all s steps) ≤ owed s + 2 * deeds steps
all_owed s [] = omega arith
all_owed s (new ∷ steps) = let h = after_owed s new in let k = all_owed (after s new) steps in let l = deeds_first new steps in omega arith

pub few_operations : (steps : List Step) → total size_of (parts_of steps) ≤ 2 * deeds steps
few_operations steps =
    let s : State = after_all nothing_yet steps in
    let h : owed s ≤ 0 + 2 * deeds steps = all_owed nothing_yet steps in
    let last : State = done (record s { names = [] }) in
    let k : owed last ≡ owed s = done_owed (record s { names = [] }) in
    let l : sum (cut_list last.written.parts last.written.waiting) ≡ size last.written = cut_sum last.written.parts last.written.waiting in
    omega arith

-- ---- each part has an operation

abbrev Filled : Written → Type 0
Filled w = length w.parts ≤ sum w.parts

more_filled : (parts : List Part) (new : Part) → 1 ≤ size_of new → length parts ≤ sum parts → length (parts ++ new ∷ []) ≤ sum (parts ++ new ∷ [])
more_filled parts new some h =
    let k = sum_with parts new in
    let l : length (parts ++ new ∷ []) ≡ length parts + 1 = length-append parts (new ∷ []) in
    omega (arith, some)

cut_filled : (parts : List Part) (waiting : List Op) → length parts ≤ sum parts → length (cut_list parts waiting) ≤ sum (cut_list parts waiting)
cut_filled parts [] h = h
cut_filled parts (op ∷ ops) h = more_filled parts (part.Flush (op ∷ ops)) (omega arith) h

put_filled : (w : Written) (new : Part) → 1 ≤ size_of new → Filled w → Filled (put w new)
put_filled w new some h = more_filled (cut_list w.parts w.waiting) new some (cut_filled w.parts w.waiting h)

cut_if_filled : (test : Bool) (w : Written) → Filled w → Filled (cut_if test w)
cut_if_filled false w h = h
cut_if_filled true w h = cut_filled w.parts w.waiting h

append_filled : (w : Written) (op : Op) → Filled w → Filled (append w op)
append_filled w op h =
    let waiting : List Op = w.waiting ++ next_op w.waiting op ∷ [] in
    cut_if_filled (length waiting == most) (record w { waiting = waiting }) h

frees_filled : (w : Written) (bases : List (ℕ × Elem)) → Filled w → Filled (free_each w bases)
frees_filled w [] h = h
frees_filled w (base ∷ bases) h = frees_filled (append w (free base)) bases (append_filled w (free base) h)

done_filled : (s : State) → Filled s.written → Filled (done s).written
done_filled s h = frees_filled s.written (filter (λ base. not (is_named s.names base)) s.live) h

after_filled : (s : State) (new : Step) → Filled s.written → Filled (after s new).written
after_filled s (Act op) h = append_filled s.written op h
after_filled s (step.Gather g) h = put_filled s.written (part.Gather g) (omega arith) h
after_filled s (step.Scatter g) h = put_filled s.written (part.Scatter g) (omega arith) h
after_filled s (Name n b) h = h
after_filled s (Forget n) h = h
after_filled s Done h = done_filled s h
after_filled s Cut h = cut_filled s.written.parts s.written.waiting h

all_filled : (s : State) (steps : List Step) → Filled s.written → Filled (after_all s steps).written
all_filled s [] h = h
all_filled s (new ∷ steps) h = all_filled (after s new) steps (after_filled s new h)

pub parts_filled : (steps : List Step) → length (parts_of steps) ≤ total size_of (parts_of steps)
parts_filled steps =
    let s : State = after_all nothing_yet steps in
    let last : State = done (record s { names = [] }) in
    let none : 0 ≤ 0 = omega arith in
    cut_filled last.written.parts last.written.waiting (done_filled (record s { names = [] }) (all_filled nothing_yet steps none))

-- ---- a script of some weight

-- how many operations and parts the steps have of a script that weighs no more than this
pub record Few (n : ℕ) (steps : List Step) : Type 0 where
  pub operations : total size_of (parts_of steps) ≤ 2 * n
  pub parts : length (parts_of steps) ≤ 2 * n

pub few_of : (n : ℕ) (ss : List Statement) (steps : List Step) → script_weight ss ≤ n → outcome ss ≡ Ok steps → Few n steps
few_of n ss steps weighs e =
    let recorded : deeds steps ≤ script_weight ss = few_deeds ss steps e in
    let written : total size_of (parts_of steps) ≤ 2 * deeds steps = few_operations steps in
    let filled : length (parts_of steps) ≤ total size_of (parts_of steps) = parts_filled steps in
    record { operations = omega arith; parts = omega arith }

-- of a script that weighs no more than a text of at most a megabyte, and its end
pub few_parts : (bytes : ℕ) (ss : List Statement) (steps : List Step) → bytes ≤ 1048576 → script_weight ss ≤ bytes + 1 → outcome ss ≡ Ok steps
    → (total size_of (parts_of steps) < 4194304) × (length (parts_of steps) < 4194304)
few_parts bytes ss steps short weighs e =
    let few = few_of (bytes + 1) ss steps weighs e in
    let operations : total size_of (parts_of steps) ≤ 2 * (bytes + 1) = few.operations in
    let parts : length (parts_of steps) ≤ 2 * (bytes + 1) = few.parts in
    (omega arith, omega arith)
