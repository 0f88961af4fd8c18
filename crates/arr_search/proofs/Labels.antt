-- Labels below their count make a legal plan, or none.
use Rattle.std.proofs.Common.{◌≡◌, ℕ, ◌-◌, ◌<◌, ◌≤◌, List, length, Bool, true, false, Option, Some, None, refl, sym, subst, arith, ◌∙◌}
use Rattle.std.specs.Prelude.{nat_lt, IsTrue, MatchOption}
use Rattle.std.specs.List.{list_all}
use Rattle.std.proofs.lemmas.Bool.{ltb-true, true≢false}
use Rattle.std.proofs.lemmas.List.Folds.{list_all_at}
use Rattle.arr_ops.specs.declared.op.Op.{Op}
use Rattle.arr_ops.specs.Plans.{is_legal}
use Rattle.arr_law.specs.Plans.{place_in}
use Rattle.arr_search.specs.Parts.{plan_by}
use Rattle.arr_search.proofs.Partitions.{AreLabels, plan_legal}

below : (labels : List ℕ) (n : ℕ) → length labels ≡ n → list_all (λ label. nat_lt label n) labels ≡ true → AreLabels labels
below labels n long all = record { below = λ f least most. go f least most (nat_lt (place_in labels f) n) refl }
  where
    go : (f : ℕ) → 1 ≤ f → f ≤ length labels → (b : Bool) → nat_lt (place_in labels f) n ≡ b → place_in labels f < length labels
    go f least most true e = subst (λ m. place_in labels f < m) (sym long) (ltb-true (place_in labels f) n e)
    go f least most false e = absurd (true≢false (sym all ∙ list_all_at (λ label. nat_lt label n) labels (f - 1) 0 (omega arith) e))

pub legal_by : (list : List Op) (labels : List ℕ) (plan : Option (List (List ℕ))) → length labels ≡ length list → list_all (λ label. nat_lt label (length list)) labels ≡ true
    → plan ≡ plan_by list labels → MatchOption plan (Unit {0}) (λ p. IsTrue (is_legal list p))
legal_by list labels None long small e = tt
legal_by list labels (Some p) long small e = (plan_legal list labels long (below labels (length list) long small) p (sym e)).1
