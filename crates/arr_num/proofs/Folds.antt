-- The steps of folds: sums and products of digits, and the least and greatest of numbers.
use Rattle.std.proofs.Common.{◌≡◌, ℕ, ◌+◌, ◌-◌, ◌*◌, ◌%◌, ◌≤◌, ◌<◌, ℤ, pos, negsuc, Bool, true, false, cond, ap, ap₂, sym, ◌∙◌, arith, ◌+ℤ◌, ◌*ℤ◌, ◌≤ℤ◌}
use Rattle.std.proofs.lemmas.Bool.{false≢true, ltb-true}
use Rattle.std.proofs.lemmas.Int.{ints, clamps}
use Rattle.std.proofs.lemmas.Nat.{mul-mod_first, mul-mod_second}
use Rattle.std.proofs.Math.Nat.{mod-add-mod, add-mod-mod}
use Rattle.std.specs.Int.{int_max, int_min}
use Rattle.std.specs.Prelude.{int_lt}
use Rattle.arr_num.specs.Numbers.{size, upper, in_type, digits, wrap, value, least, greatest}
use Rattle.arr_num.specs.Laws.{FoldsRegroup, StartsAreNeutral}
use Rattle.arr_num.specs.declared.elem.Elem.{Elem}
use Rattle.arr_num.specs.declared.elem.Elem.TheVariants.{U8, I32, I64, U64}
use Rattle.arr_num.specs.declared.code.Code.TheVariants.{AddReduce, MultiplyReduce, MinimumReduce, MaximumReduce, AddAccumulate, MultiplyAccumulate}
use Rattle.arr_num.proofs.Wrapping.{digits_wrap, wrap_by_digits, wrap_same}
use Rattle.arr_num.proofs.Products.{digits_add, digits_multiply}

-- wrapping on the way changes no sum and no product
pub sum_join : (t : Elem) (w d c : ℤ) → wrap t (wrap t (w +ℤ d) +ℤ c) ≡ wrap t (w +ℤ wrap t (d +ℤ c))
sum_join t w d c =
    let W : ℕ = digits t w in
    let D : ℕ = digits t d in
    let C : ℕ = digits t c in
    wrap_by_digits t _ _
    (digits_add t (wrap t (w +ℤ d)) c ∙ ap (λ k. (k + digits t c) % size t) (digits_wrap t (w +ℤ d) ∙ digits_add t w d)
    ∙ mod-add-mod (W + D) (size t) C
    ∙ ap (λ k. k % size t) (let e : (W + D) + C ≡ W + (D + C) = omega arith in e)
    ∙ sym (add-mod-mod W (D + C) (size t))
    ∙ sym (digits_add t w (wrap t (d +ℤ c)) ∙ ap (λ k. (digits t w + k) % size t) (digits_wrap t (d +ℤ c) ∙ digits_add t d c)))

pub product_join : (t : Elem) (w d c : ℤ) → wrap t (wrap t (w *ℤ d) *ℤ c) ≡ wrap t (w *ℤ wrap t (d *ℤ c))
product_join t w d c =
    let W : ℕ = digits t w in
    let D : ℕ = digits t d in
    let C : ℕ = digits t c in
    wrap_by_digits t _ _
    (digits_multiply t (wrap t (w *ℤ d)) c ∙ ap (λ k. (k * digits t c) % size t) (digits_wrap t (w *ℤ d) ∙ digits_multiply t w d)
    ∙ mul-mod_first (W * D) C (size t)
    ∙ ap (λ k. k % size t) (let e : (W * D) * C ≡ W * (D * C) = omega arith in e)
    ∙ sym (mul-mod_second W (D * C) (size t))
    ∙ sym (digits_multiply t w (wrap t (d *ℤ c)) ∙ ap (λ k. (digits t w * k) % size t) (digits_wrap t (d *ℤ c) ∙ digits_multiply t d c)))

pub sum_of_wraps : (t : Elem) (x y : ℤ) → wrap t (wrap t x +ℤ wrap t y) ≡ wrap t (x +ℤ y)
sum_of_wraps t x y =
    wrap_by_digits t _ _ (digits_add t (wrap t x) (wrap t y) ∙ ap₂ (λ a b. (a + b) % size t) (digits_wrap t x) (digits_wrap t y) ∙ sym (digits_add t x y))

pub product_of_wraps : (t : Elem) (x y : ℤ) → wrap t (wrap t x *ℤ wrap t y) ≡ wrap t (x *ℤ y)
product_of_wraps t x y =
    wrap_by_digits t _ _ (digits_multiply t (wrap t x) (wrap t y) ∙ ap₂ (λ a b. a * b % size t) (digits_wrap t x) (digits_wrap t y) ∙ sym (digits_multiply t x y))

-- one of two numbers of a type
inside_one : (t : Elem) (b : Bool) (x y : ℤ) → in_type t x ≡ true → in_type t y ≡ true → in_type t (cond b x y) ≡ true
inside_one t true x y f g = f
inside_one t false x y f g = g

lesser_join : (t : Elem) (x y z : ℤ) → in_type t x ≡ true → in_type t y ≡ true → in_type t z ≡ true → wrap t (int_min (wrap t (int_min x y)) z) ≡ wrap t (int_min x (wrap t (int_min y z)))
lesser_join t x y z f g h =
    let a : wrap t (int_min x y) ≡ int_min x y = wrap_same t (int_min x y) (inside_one t (int_lt y x) y x g f) in
    let b : wrap t (int_min y z) ≡ int_min y z = wrap_same t (int_min y z) (inside_one t (int_lt z y) z y h g) in
    ap (λ k. wrap t (int_min k z)) a ∙ ap (wrap t) (let e : int_min (int_min x y) z ≡ int_min x (int_min y z) = omega (arith, ints, clamps) in e) ∙ ap (λ k. wrap t (int_min x k)) (sym b)

greater_join : (t : Elem) (x y z : ℤ) → in_type t x ≡ true → in_type t y ≡ true → in_type t z ≡ true → wrap t (int_max (wrap t (int_max x y)) z) ≡ wrap t (int_max x (wrap t (int_max y z)))
greater_join t x y z f g h =
    let a : wrap t (int_max x y) ≡ int_max x y = wrap_same t (int_max x y) (inside_one t (int_lt y x) x y f g) in
    let b : wrap t (int_max y z) ≡ int_max y z = wrap_same t (int_max y z) (inside_one t (int_lt z y) y z g h) in
    ap (λ k. wrap t (int_max k z)) a ∙ ap (wrap t) (let e : int_max (int_max x y) z ≡ int_max x (int_max y z) = omega (arith, ints, clamps) in e) ∙ ap (λ k. wrap t (int_max x k)) (sym b)

pub folds_regroup : FoldsRegroup
unfolding value
folds_regroup AddReduce t x y z k f g h = sum_join t x y z
folds_regroup AddAccumulate t x y z k f g h = sum_join t x y z
folds_regroup MultiplyReduce t x y z k f g h = product_join t x y z
folds_regroup MultiplyAccumulate t x y z k f g h = product_join t x y z
folds_regroup MinimumReduce t x y z k f g h = lesser_join t x y z f g h
folds_regroup MaximumReduce t x y z k f g h = greater_join t x y z f g h
folds_regroup _ t x y z k f g h = absurd (false≢true k)

least_least : (t : Elem) (x : ℤ) → in_type t x ≡ true → least t ≤ℤ x
least_least U8 (pos n) h = omega (arith, ints)
least_least U64 (pos n) h = omega (arith, ints)
least_least I32 (pos n) h = omega (arith, ints)
least_least I64 (pos n) h = omega (arith, ints)
least_least U8 (negsuc n) h = let a : n < 0 = ltb-true _ _ h in absurd (omega arith)
least_least U64 (negsuc n) h = let a : n < 0 = ltb-true _ _ h in absurd (omega arith)
least_least I32 (negsuc n) h = let a : n < 2147483648 = ltb-true _ _ h in omega (arith, ints)
least_least I64 (negsuc n) h = let a : n < 9223372036854775808 = ltb-true _ _ h in omega (arith, ints)

greatest_greatest : (t : Elem) (x : ℤ) → in_type t x ≡ true → x ≤ℤ greatest t
greatest_greatest t (pos n) h = let a : n < upper t = ltb-true _ _ h in let b : n ≤ upper t - 1 = omega arith in omega (arith, ints)
greatest_greatest t (negsuc n) h = omega (arith, ints)

-- a number that is x already
kept : (t : Elem) (x z : ℤ) → in_type t x ≡ true → z ≡ x → wrap t z ≡ x
kept t x z h e = ap (wrap t) e ∙ wrap_same t x h

pub starts_are_neutral : StartsAreNeutral
unfolding value
starts_are_neutral AddReduce t x k h = kept t x _ h (let e : pos 0 +ℤ x ≡ x = omega (arith, ints) in e)
starts_are_neutral AddAccumulate t x k h = kept t x _ h (let e : pos 0 +ℤ x ≡ x = omega (arith, ints) in e)
starts_are_neutral MultiplyReduce t x k h = kept t x _ h (let e : pos 1 *ℤ x ≡ x = omega (arith, ints) in e)
starts_are_neutral MultiplyAccumulate t x k h = kept t x _ h (let e : pos 1 *ℤ x ≡ x = omega (arith, ints) in e)
starts_are_neutral MinimumReduce t x k h = kept t x _ h (let l : x ≤ℤ greatest t = greatest_greatest t x h in let e : int_min (greatest t) x ≡ x = omega (arith, ints, clamps) in e)
starts_are_neutral MaximumReduce t x k h = kept t x _ h (let l : least t ≤ℤ x = least_least t x h in let e : int_max (least t) x ≡ x = omega (arith, ints, clamps) in e)
starts_are_neutral _ t x k h = absurd (false≢true k)
