-- The parts of a script: lists of what is recorded, with FREEs and slots, and the gathers and scatters between them.
use Rattle.std.specs.Prelude.{ℕ, suc, List, [], ◌∷◌, ◌++◌, Bool, false, not, ◌==◌, length, map, cond, Some, None}
use Rattle.std.specs.List.{filter, list_any}
use Rattle.arr_num.specs.declared.elem.Elem.{Elem}
use Rattle.arr_num.specs.declared.code.Code.TheVariants.{Free}
use Rattle.arr_view.specs.Strided.{Strided}
use Rattle.arr_ops.specs.declared.op.Op.{Op}
use Rattle.arr_ops.specs.Ops.{at_slot, outputs}
use Rattle.arr_elab.specs.Steps.{slot_from, slot_count}
use Rattle.arr_elab.specs.Recording.{other_names}
use Rattle.arr_elab.specs.declared.step.Step.{Step}
use Rattle.arr_elab.specs.declared.step.Step.TheVariants as step
use Rattle.arr_elab.specs.declared.step.Step.TheVariants.{Act, Name, Forget, Done, Cut}
use Rattle.arr_record.specs.declared.part.Part.{Part}
use Rattle.arr_record.specs.declared.part.Part.TheVariants as part
use Rattle.arr_record.specs.declared.part.Part.TheVariants.{Flush}

-- the most operations of a list
abbrev pub most : ℕ
most = 256

-- the parts so far, and the operations that wait
pub record Written : Type 0 where
  pub parts : List Part
  pub waiting : List Op

-- a waiting list that is not empty is cut
abbrev pub cut_list : List Part → List Op → List Part
cut_list parts [] = parts
cut_list parts (op ∷ ops) = parts ++ Flush (op ∷ ops) ∷ []

abbrev pub cut : Written → Written
cut w = record { parts = cut_list w.parts w.waiting; waiting = [] }

-- a gather or scatter stands behind what waits
abbrev pub put : Written → Part → Written
put w alone = record { parts = cut_list w.parts w.waiting ++ alone ∷ []; waiting = [] }

abbrev pub cut_if : Bool → Written → Written
cut_if test w = cond test (cut w) w

-- the operation that is appended: a SYNC fills the slot after those that the waiting list fills
abbrev pub next_op : List Op → Op → Op
next_op waiting op = at_slot op (slot_from (suc (slot_count waiting)) op.code)

-- a full list is cut
abbrev pub append : Written → Op → Written
append w op =
    let waiting : List Op = w.waiting ++ next_op w.waiting op ∷ [] in
    cut_if (length waiting == most) (record w { waiting = waiting })

-- the FREE of a base of a type
abbrev pub free : ℕ × Elem → Op
free base =
    record { code = Free; to = base.1; from = base.1; out = None; first = None; second = None; axis = None; slot = None; frees = Some base.0; makes = false }

abbrev pub free_each : Written → List (ℕ × Elem) → Written
free_each w [] = w
free_each w (base ∷ bases) = free_each (append w (free base)) bases

-- what is written, the base of each name, and the live bases with their types in the order in which they were made
pub record State : Type 0 where
  pub written : Written
  pub names : List (ℕ × ℕ)
  pub live : List (ℕ × Elem)

abbrev pub nothing_yet : State
nothing_yet = record { written = record { parts = []; waiting = [] }; names = []; live = [] }

abbrev pub is_named : List (ℕ × ℕ) → ℕ × Elem → Bool
is_named names base = list_any (λ (name : ℕ × ℕ). name.1 == base.0) names

abbrev pub unnamed : List (ℕ × ℕ) → List (ℕ × Elem) → List (ℕ × Elem)
unnamed names live = filter (λ base. not (is_named names base)) live

-- the live bases that no name stands for are freed
abbrev pub done : State → State
done s = record s { written = free_each s.written (unnamed s.names s.live); live = filter (is_named s.names) s.live }

-- the base that an operation makes
abbrev pub made : Op → List (ℕ × Elem)
made op = map (λ (o : Strided). (o.base, op.to)) (filter (λ _. op.makes) (outputs op))

abbrev pub after : State → Step → State
after s (Act op) = record s { written = append s.written op; live = s.live ++ made op }
after s (step.Gather g) = record s { written = put s.written (part.Gather g); live = s.live ++ (g.out.base, g.to) ∷ [] }
after s (step.Scatter g) = record s { written = put s.written (part.Scatter g) }
after s (Name n b) = record s { names = (n, b) ∷ other_names n s.names }
after s (Forget n) = record s { names = other_names n s.names }
after s Done = done s
after s Cut = record s { written = cut s.written }

abbrev pub after_all : State → List Step → State
after_all s [] = s
after_all s (step ∷ steps) = after_all (after s step) steps

-- at the end no name stands for anything, and what waits is cut
abbrev pub ended : State → Written
ended s = cut (done (record s { names = [] })).written

abbrev pub parts_of : List Step → List Part
parts_of steps = (ended (after_all nothing_yet steps)).parts

-- the lists among parts: one for each flush
abbrev pub lists_in : List Part → List (List Op)
lists_in [] = []
lists_in (Flush list ∷ parts) = list ∷ lists_in parts
lists_in (_ ∷ parts) = lists_in parts

abbrev pub flush_lists : List Step → List (List Op)
flush_lists steps = lists_in (parts_of steps)
