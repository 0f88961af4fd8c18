-- What a contract sees of a view.
use Rattle.std.specs.Prelude.{ℕ, ℤ, List}

-- a base, the element at index 0 in every dimension, and for each dimension its length and its stride, in elements
pub record Strided : Type 0 where
  pub base : ℕ
  pub start : ℕ
  pub lengths : List ℕ
  pub strides : List ℤ
