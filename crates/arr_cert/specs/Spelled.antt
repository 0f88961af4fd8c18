-- What the private calls that read a line say.
use Rattle.std.specs.Prelude.{ℕ, ◌≡◌, ◌≤◌, ◌<◌, ◌^◌, ◌==◌, Bool, true, nat_lt, List, [], ◌∷◌, Option, MatchOption, decimal}
use Rattle.std.specs.List.{flat_map, list_all}
use Rattle.arr_law.specs.declared.charge.Charge.{Charge}
use Rattle.arr_cert.specs.Texts.{behind, spaced, group_text, is_group_spelled}

-- the one thing that has a property, or nothing where nothing has it
abbrev pub Is : {X : Type 0} → (X → Type 0) → Option X → Type 0
Is {X} P found = MatchOption found ((x : X) → P x → ⊥) P

abbrev pub is_sign : ℕ → ℕ → Bool
is_sign sign b = b == sign

abbrev pub are_narrow : List ℕ → Bool
are_narrow ns = list_all (λ n. nat_lt n (2 ^ 32)) ns

pub record DecimalOf (most : ℕ) (text : List ℕ) (n : ℕ) : Type 0 where
  pub same : text ≡ decimal n
  pub within : n ≤ most

-- behind a blank
pub record NumberOf (text : List ℕ) (n : ℕ) : Type 0 where
  pub same : text ≡ spaced (n ∷ [])
  pub fits : n < 2 ^ 64

pub record NumbersOf (sign : ℕ) (text : List ℕ) (ns : List ℕ) : Type 0 where
  pub same : text ≡ behind sign ns
  pub narrow : are_narrow ns ≡ true

-- behind a blank
pub record GroupOf (text : List ℕ) (c : Charge) : Type 0 where
  pub same : 32 ∷ text ≡ group_text c
  pub spelled : is_group_spelled c ≡ true
  pub narrow : are_narrow (c.operand ∷ c.ops) ≡ true

pub record GroupsOf (text : List ℕ) (cs : List Charge) : Type 0 where
  pub same : text ≡ flat_map group_text cs
  pub spelled : list_all is_group_spelled cs ≡ true
  pub narrow : are_narrow (flat_map (λ (c : Charge). c.operand ∷ c.ops) cs) ≡ true
