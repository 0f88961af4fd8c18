-- How a saturation ends.
use Rattle.std.proofs.Common.{◌≡◌, ⊎_elim, ℕ, List, [], ◌∷◌, ◌++◌, length, sym, subst}
use Rattle.arr_law.specs.declared.record.Record.{Record}
use Rattle.arr_law.specs.Problem.{Problem}
use Rattle.arr_law.specs.Facts.{Facts, facts_of}
use Rattle.arr_law.specs.Floor.{IsClosed}
use Rattle.arr_state.specs.declared.outcome.Going.{Going}
use Rattle.arr_state.specs.declared.outcome.Going.TheVariants.{On, Clash, NoneLeft}
use Rattle.arr_state.specs.declared.outcome.Outcome.{Outcome}
use Rattle.arr_state.specs.declared.outcome.Outcome.TheVariants.{Closed, Contradiction, Spent}
use Rattle.arr_state.specs.declared.known.Known.{Known}
use Rattle.arr_state.specs.Kept.{AreKept, IsKept}
use Rattle.arr_state.specs.Went.{IsClash, Went}
use Rattle.arr_state.specs.States.{IsConsistent, IsEnded, Ends, Saturated}
use Rattle.arr_state.proofs.Keeps.{kept_closed}
use Rattle.arr_state.proofs.Prefixes.{shut_more}

module _ (problem : Problem) (t0 t2 : Known) (r0 r2 : List Record) (budget : ℕ) where
  saturated : (going : Going) (outcome : Outcome) (D : Facts → Facts → Type 0) (w : Went problem t0 t2 r0 r2 budget going D) → Ends problem budget (facts_of problem t2.facts.items) (length w.steps) outcome → Saturated problem budget t0.facts.items t2.facts.items r0 r2 outcome
  saturated going outcome D w e = record { steps = w.steps; gives = w.gives; tree_is = w.tree_is; trail_is = w.trail_is; are_steps = w.are_steps; within = w.room; ends = e }

  pub sat_clash : (f g : ℕ) (D : Facts → Facts → Type 0) → Went problem t0 t2 r0 r2 budget (Clash f g) D → Saturated problem budget t0.facts.items t2.facts.items r0 r2 (Contradiction f g)
  sat_clash f g D w = saturated (Clash f g) (Contradiction f g) D w w.reaches

  ended : (going : Going) (outcome result : Outcome) (D : Facts → Facts → Type 0) (w : Went problem t0 t2 r0 r2 budget going D) → (IsConsistent (facts_of problem t2.facts.items) → Ends problem budget (facts_of problem t2.facts.items) (length w.steps) outcome) → IsEnded (facts_of problem t2.facts.items) outcome result → Saturated problem budget t0.facts.items t2.facts.items r0 r2 result
  ended going outcome result D w fine end =
      ⊎_elim
      (λ (p : (result ≡ outcome) × IsConsistent (facts_of problem t2.facts.items)). subst (Saturated problem budget t0.facts.items t2.facts.items r0 r2) (sym p.0) (saturated going outcome D w (fine p.1)))
      (λ (p : (f g : ℕ) × (result ≡ Contradiction f g) × IsClash (facts_of problem t2.facts.items) f g). subst (Saturated problem budget t0.facts.items t2.facts.items r0 r2) (sym p.2) (saturated going (Contradiction p.0 p.1) D w p.3))
      end

  pub sat_spent : (result : Outcome) (D : Facts → Facts → Type 0) → Went problem t0 t2 r0 r2 budget NoneLeft D → IsEnded (facts_of problem t2.facts.items) Spent result → Saturated problem budget t0.facts.items t2.facts.items r0 r2 result
  sat_spent result D w end = ended NoneLeft Spent result D w (λ c. (w.reaches.0, w.reaches.1, c)) end

  pub sat_closed : (rest : ℕ) (result : Outcome) → Went problem t0 t2 r0 r2 budget (On rest) (λ a b. IsClosed problem b) → IsEnded (facts_of problem t2.facts.items) Closed result → Saturated problem budget t0.facts.items t2.facts.items r0 r2 result
  sat_closed rest result w end = ended (On rest) Closed result (λ a b. IsClosed problem b) w (λ c. (w.done, c)) end

-- facts that are closed, with their length
pub closed_kept : (problem : Problem) (t : Known) (closed : List ℕ) (n : ℕ) → IsKept problem t → IsClosed problem (facts_of problem t.facts.items) → n ≡ length t.facts.items → closed ≡ t.closed.items ++ n ∷ [] → AreKept problem t.facts.items t.rows.items closed
closed_kept problem t closed n kept is e c =
    kept_closed problem t.facts.items t.rows.items t.closed.items closed kept
    (shut_more problem t.facts.items t.closed.items closed kept.shut is (subst (λ m. closed ≡ t.closed.items ++ m ∷ []) e c))
