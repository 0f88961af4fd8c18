-- Two constants of a sum, a product or a bitwise operation join into one.
use Rattle.std.proofs.Common.{◌≡◌, ℤ, pos, ap, arith}
use Rattle.std.proofs.lemmas.Int.{ints}
use Rattle.std.proofs.lemmas.Nat.{and_mod, or_mod, xor_mod, and_assoc}
use Rattle.std.specs.Int.Bits.{and_comm, or_comm, xor_comm, xor_assoc}
use Rattle.std.proofs.Math.IntN.{*ℤ_comm}
use Rattle.std.specs.Prelude.{◌+ℤ◌, bit_and, bit_or, bit_xor}
use Rattle.arr_num.specs.Numbers.{bits, digits, wrap, value}
use Rattle.arr_num.specs.declared.elem.Elem.{Elem}
use Rattle.arr_num.specs.declared.code.Code.{Code}
use Rattle.arr_num.specs.declared.code.Code.TheVariants.{Add, Multiply, BitwiseAnd, BitwiseOr, BitwiseXor}
use Rattle.arr_num.proofs.Folds.{sum_join, product_join}
use Rattle.arr_rewrite.proofs.Scalars.{bits_join, or_assoc}

-- what joining two constants needs of a code
pub record Joins (code : Code) (t : Elem) : Type 0 where
  pub join : (w d c : ℤ) → value code t (value code t w d) c ≡ value code t w (value code t d c)
  pub swap : (x y : ℤ) → value code t x y ≡ value code t y x

pub joins_add : (t : Elem) → Joins Add t
unfolding value
joins_add t = record { join = sum_join t; swap = λ x y. ap (wrap t) (let e : x +ℤ y ≡ y +ℤ x = omega (arith, ints) in e) }

pub joins_and : (t : Elem) → Joins BitwiseAnd t
unfolding value
joins_and t = record { join = bits_join t bit_and (λ a b. and_mod a b (bits t)) (λ a b c. and_assoc c a b); swap = λ x y. ap (λ n. wrap t (pos n)) (and_comm (digits t x) (digits t y)) }

pub joins_or : (t : Elem) → Joins BitwiseOr t
unfolding value
joins_or t = record { join = bits_join t bit_or (λ a b. or_mod a b (bits t)) or_assoc; swap = λ x y. ap (λ n. wrap t (pos n)) (or_comm (digits t x) (digits t y)) }

pub joins_xor : (t : Elem) → Joins BitwiseXor t
unfolding value
joins_xor t = record { join = bits_join t bit_xor (λ a b. xor_mod a b (bits t)) xor_assoc; swap = λ x y. ap (λ n. wrap t (pos n)) (xor_comm (digits t x) (digits t y)) }

pub joins_multiply : (t : Elem) → Joins Multiply t
unfolding value
joins_multiply t = record { join = product_join t; swap = λ x y. ap (wrap t) (*ℤ_comm x y) }
