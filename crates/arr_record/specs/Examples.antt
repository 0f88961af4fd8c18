-- Worked steps, by computation.
use Rattle.std.specs.Prelude.{◌≡◌, refl, List, [], ◌∷◌, true, None}
use Rattle.arr_num.specs.declared.elem.Elem.TheVariants.{I64}
use Rattle.arr_num.specs.declared.code.Code.TheVariants.{Range}
use Rattle.arr_view.specs.Strided.{Strided}
use Rattle.arr_ops.specs.declared.op.Op.{Op}
use Rattle.arr_ops.specs.declared.gather.Gather.{Gather}
use Rattle.arr_ops.specs.Examples as ops
use Rattle.arr_ops.specs.Ops.{at_slot}
use Rattle.arr_elab.specs.declared.step.Step.{Step}
use Rattle.arr_elab.specs.declared.step.Step.TheVariants as step
use Rattle.arr_elab.specs.declared.step.Step.TheVariants.{Act, Name, Forget, Done, Cut}
use Rattle.arr_view.specs.Views.{elements}
use Rattle.arr_elab.specs.Recording.{is_recording}
use Rattle.arr_record.specs.Parts.{flush_lists, parts_of}
use Rattle.arr_record.specs.declared.part.Part.TheVariants as part

abbrev pub count_two : Op
count_two = ops.operation Range (ops.line 0 2) None None true

-- a SYNC that has no slot yet
abbrev pub sync_of : Strided → Op
sync_of v = at_slot (ops.sync v 1) None

-- a = range(2), flush, flush, print a
abbrev pub twice : List Step
twice = Act count_two ∷ Name 0 0 ∷ Done ∷ Cut ∷ Done ∷ Cut ∷ Done ∷ Act (sync_of (ops.line 0 2)) ∷ Done ∷ []

-- the second flush finds nothing waiting
twice_recorded : is_recording twice ≡ true
unfolding elements
twice_recorded = refl

twice_cut : flush_lists twice ≡ (count_two ∷ []) ∷ (ops.sync (ops.line 0 2) 1 ∷ ops.free 0 ∷ []) ∷ []
twice_cut = refl

-- a = range(2), b = a[0:1], del a, flush, print b
abbrev pub aliased : List Step
aliased = Act count_two ∷ Name 0 0 ∷ Done ∷ Name 1 0 ∷ Done ∷ Forget 0 ∷ Done ∷ Cut ∷ Done ∷ Act (sync_of (ops.line 0 1)) ∷ Done ∷ []

-- b still stands for the base
aliased_recorded : is_recording aliased ≡ true
unfolding elements
aliased_recorded = refl

aliased_cut : flush_lists aliased ≡ (count_two ∷ []) ∷ (ops.sync (ops.line 0 1) 1 ∷ ops.free 0 ∷ []) ∷ []
aliased_cut = refl

-- a = range(2), b = gather(a, a), print b
abbrev pub lookup : Gather
lookup = record { out = ops.line 1 2; source = ops.line 0 2; index = ops.line 0 2; to = I64; of = I64 }

abbrev pub gathering : List Step
gathering = Act count_two ∷ Name 0 0 ∷ Done ∷ step.Gather lookup ∷ Name 1 1 ∷ Done ∷ Act (sync_of (ops.line 1 2)) ∷ Done ∷ []

-- what waits runs before the gather, which stands alone
gathering_recorded : is_recording gathering ≡ true
unfolding elements
gathering_recorded = refl

gathering_cut : parts_of gathering ≡ part.Flush (count_two ∷ []) ∷ part.Gather lookup ∷ part.Flush (ops.sync (ops.line 1 2) 1 ∷ ops.free 0 ∷ ops.free 1 ∷ []) ∷ []
gathering_cut = refl
