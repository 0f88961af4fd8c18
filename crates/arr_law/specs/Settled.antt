-- Settled plans: each FREE stands with a last user of its base.
use Rattle.std.specs.Prelude.{◌≡◌, ℕ, ◌≤◌, Bool, cond, ◌||◌, Option, Some, None, List, [], ◌∷◌, IsTrue, max}
use Rattle.std.specs.List.{list_any}
use Rattle.arr_law.specs.Problem.{Problem, is_op, operations}
use Rattle.arr_law.specs.Plans.{IsLegalAt, cost_at}

abbrev pub IsSettled : Problem → (ℕ → ℕ) → Type 0
IsSettled problem at =
    (g b u : ℕ) → problem.frees g ≡ Some b → IsTrue (is_op problem g) → IsTrue (is_op problem u) → IsTrue (problem.names u b)
    → (w : ℕ) × IsTrue (is_op problem w) × IsTrue (problem.names w b) × (at w ≡ at g)

-- what a formed list says of its problem
pub record IsProper (problem : Problem) : Type 0 where
  pub even : (f g : ℕ) → problem.fusible f g ≡ problem.fusible g f
  pub free_fusible : (f g b : ℕ) → problem.frees g ≡ Some b → IsTrue (problem.fusible f g)
  pub freer_frees : (b g : ℕ) → problem.freer b ≡ Some g → IsTrue (is_op problem g) × (problem.frees g ≡ Some b)
  pub last : (f g b : ℕ) → problem.frees f ≡ Some b → IsTrue (problem.dep f g) → ⊥
  pub user : (f g b : ℕ) → problem.frees g ≡ Some b → IsTrue (problem.dep f g) → IsTrue (problem.names f b)
  pub users : (u g b : ℕ) → problem.frees g ≡ Some b → IsTrue (problem.names u b) → IsTrue (problem.dep u g)
  pub nameless : (f b d : ℕ) → problem.frees f ≡ Some b → IsTrue (problem.names f d) → ⊥
  pub maker : (b f d : ℕ) → problem.creator b ≡ Some f → problem.frees f ≡ Some d → ⊥
  pub named : (f c : ℕ) → IsTrue (problem.reads f c || problem.writes f c) → IsTrue (problem.names f (problem.base c))

-- the greatest place of those that pass
abbrev pub last_place : (ℕ → Bool) → (ℕ → ℕ) → List ℕ → ℕ
last_place test at [] = 0
last_place test at (u ∷ us) = cond (test u) (max (at u) (last_place test at us)) (last_place test at us)

abbrev pub settle_at : Problem → (ℕ → ℕ) → ℕ → Option ℕ → ℕ
settle_at problem at f None = at f
settle_at problem at f (Some b) =
    cond (list_any (λ u. problem.names u b) (operations problem)) (last_place (λ u. problem.names u b) at (operations problem)) (at f)

-- each FREE moved to the last user of its base
abbrev pub settle : Problem → (ℕ → ℕ) → ℕ → ℕ
settle problem at f = settle_at problem at f (problem.frees f)

-- the places once settled are legal, settled and cost no more
pub record Settles (problem : Problem) (at : ℕ → ℕ) (blocks : ℕ) : Type 0 where
  pub legal : IsLegalAt problem (settle problem at) blocks
  pub settled : IsSettled problem (settle problem at)
  pub cheaper : cost_at problem (settle problem at) blocks ≤ cost_at problem at blocks
