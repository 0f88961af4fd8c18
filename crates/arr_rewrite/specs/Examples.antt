-- Worked lists, by computation.
use Rattle.std.specs.Prelude.{ℕ, zero, suc, pos, ◌≡◌, refl, List, [], ◌∷◌, true, false, Some, None}
use Rattle.arr_num.specs.Numbers.{wrap, value}
use Rattle.arr_num.specs.declared.code.Code.TheVariants.{Add, Multiply, Identity, Range}
use Rattle.arr_view.specs.Views.{elements}
use Rattle.arr_ops.specs.declared.op.Op.{Op}
use Rattle.arr_ops.specs.declared.op.Operand.TheVariants.{Array, Number}
use Rattle.arr_ops.specs.Examples.{line, part, operation, free, sync}
use Rattle.arr_ops.specs.Formed.{is_formed}
use Rattle.arr_rewrite.specs.NextRewrite.{next_rewrite}
use Rattle.arr_rewrite.specs.NormalForm.{normal_form}

-- ---- a = range(3), b = a + 1 + 2, print b: one sum is left

abbrev pub summed : List Op
summed =
    operation Range (line 0 3) None None true
    ∷ operation Add (line 1 3) (Some (Array (line 0 3))) (Some (Number (pos 1))) true
    ∷ operation Add (line 2 3) (Some (Array (line 1 3))) (Some (Number (pos 2))) true
    ∷ free 1 ∷ sync (line 2 3) 1 ∷ free 0 ∷ free 2 ∷ []

abbrev pub summed_once : List Op
summed_once =
    operation Range (line 0 3) None None true
    ∷ operation Add (line 2 3) (Some (Array (line 0 3))) (Some (Number (pos 3))) true
    ∷ sync (line 2 3) 1 ∷ free 0 ∷ free 2 ∷ []

summed_done : (is_formed summed ≡ true) × (normal_form summed ≡ summed_once)
unfolding elements value wrap
summed_done = (refl, refl)

-- ---- a = range(3), b = i64(a), a[0:1] = 9, c = b + 1, print c: the source of the copy is written in between, so nothing changes

abbrev pub written_between : List Op
written_between =
    operation Range (line 0 3) None None true
    ∷ operation Identity (line 1 3) (Some (Array (line 0 3))) None true
    ∷ operation Identity (part 0 0 1 0) (Some (Number (pos 9))) None false
    ∷ operation Add (line 2 3) (Some (Array (line 1 3))) (Some (Number (pos 1))) true
    ∷ sync (line 2 3) 1 ∷ free 0 ∷ free 1 ∷ free 2 ∷ []

written_between_stays : (is_formed written_between ≡ true) × (next_rewrite written_between ≡ None)
unfolding elements value wrap
written_between_stays = (refl, refl)

-- ---- x = range(4), y = x * 0 + 0, print y: a constant is left

abbrev pub zeroed : List Op
zeroed =
    operation Range (line 0 4) None None true
    ∷ operation Multiply (line 1 4) (Some (Array (line 0 4))) (Some (Number (pos 0))) true
    ∷ operation Add (line 2 4) (Some (Array (line 1 4))) (Some (Number (pos 0))) true
    ∷ free 1 ∷ sync (line 2 4) 1 ∷ free 0 ∷ free 2 ∷ []

zeroed_done : (is_formed zeroed ≡ true) × (normal_form zeroed ≡ operation Identity (line 2 4) (Some (Number (pos 0))) None true ∷ sync (line 2 4) 1 ∷ free 2 ∷ [])
unfolding elements value wrap
zeroed_done = (refl, refl)

-- ---- a constant that is multiplied by 0 and added to itself

abbrev pub constants : List Op
constants =
    operation Identity (line 0 4) (Some (Number (pos 5))) None true
    ∷ operation Multiply (line 1 4) (Some (Array (line 0 4))) (Some (Number (pos 0))) true
    ∷ operation Add (line 2 4) (Some (Array (line 1 4))) (Some (Array (line 1 4))) true
    ∷ sync (line 2 4) 1 ∷ free 0 ∷ free 1 ∷ free 2 ∷ []

constants_done : normal_form constants ≡ operation Identity (line 2 4) (Some (Number (pos 0))) None true ∷ sync (line 2 4) 1 ∷ free 2 ∷ []
unfolding elements value wrap
constants_done = refl

-- ---- twelve sums in a chain: one is left

abbrev pub chain : ℕ → List Op → List Op
chain zero rest = rest
chain (suc n) rest = chain n (operation Add (line (suc n) 3) (Some (Array (line n 3))) (Some (Number (pos 1))) true ∷ rest)

abbrev pub frees : ℕ → List Op → List Op
frees zero rest = rest
frees (suc n) rest = frees n (free (suc n) ∷ rest)

abbrev pub long : List Op
long = operation Range (line 0 3) None None true ∷ chain 12 (frees 11 (sync (line 12 3) 1 ∷ free 0 ∷ free 12 ∷ []))

long_done : normal_form long ≡ operation Range (line 0 3) None None true ∷ operation Add (line 12 3) (Some (Array (line 0 3))) (Some (Number (pos 12))) true ∷ sync (line 12 3) 1 ∷ free 0 ∷ free 12 ∷ []
unfolding elements value wrap
long_done = refl
