-- A tree that is read as whole makes a certificate that is accepted.
use Rattle.std.proofs.Common.{◌≡◌, ℕ, suc, List, [], ◌∷◌, ◌++◌, true, Option, Some, None, refl, sym, ap, ◌∙◌, subst}
use Rattle.std.specs.Prelude.{◌==◌}
use Rattle.std.proofs.lemmas.Bool.{and_from, eq-eqb}
use Rattle.arr_law.specs.declared.certificate.Certificate.{Certificate}
use Rattle.arr_law.specs.declared.record.Record.{Record}
use Rattle.arr_law.specs.declared.record.Record.TheVariants.{Plan, Cost, Bound, End}
use Rattle.arr_law.specs.declared.reject.Reject.{Reject}
use Rattle.arr_law.specs.declared.reject.Reject.TheVariants.{BadHead, WrongCost}
use Rattle.arr_law.specs.Problem.{Problem}
use Rattle.arr_law.specs.Facts.{Facts, root_facts}
use Rattle.arr_law.specs.Plans.{price}
use Rattle.arr_law.specs.Trees.{unless, tree_fault, subtrees, Walk, Whole, go_on, walk}
use Rattle.arr_law.specs.Verdict.{AtHead, AtPlan, AtCost, AtBound, AtTree, Answer, Yes, Ends, answer, answer_unless, plan_fault, reading_of, records_of, is_yes}
use Rattle.arr_search.specs.Laws.{TreesAreAccepted}

-- a walk that is whole goes on past its first record
goes_on : (fault : Option Reject) (from : List Record) (rest : Walk) → go_on fault from rest ≡ Whole [] → (fault ≡ None) × (rest ≡ Whole [])
goes_on None from rest e = (refl, e)
goes_on (Some fault) from rest e = absurd (cc)

whole_none : (records : List Record) → Whole records ≡ Whole [] → records ≡ []
whole_none [] e = refl
whole_none (r ∷ records) e = absurd (cc)

module _ (problem : Problem) (number : ℕ) (places : List ℕ) (cost bound : ℕ) where
  read_tree : (line : ℕ) (pending : List Facts) (tree : List Record) → walk problem 2 bound pending tree ≡ Whole []
      → is_yes (answer problem number (AtTree 2 places cost bound pending) (reading_of line (tree ++ End ∷ []))) ≡ true
  read_tree line [] tree e =
      subst (λ t. is_yes (answer problem number (AtTree 2 places cost bound []) (reading_of line (t ++ End ∷ []))) ≡ true) (sym (whole_none tree e)) refl
  read_tree line (facts ∷ pending) [] e = absurd (cc)
  read_tree line (facts ∷ pending) (r ∷ tree) e =
      let h = goes_on (tree_fault problem 2 bound facts r) (r ∷ tree) (walk problem 2 bound (subtrees problem 2 facts r ++ pending) tree) e in
      ap (λ fault. is_yes (answer_unless fault line (answer problem number (AtTree 2 places cost bound (subtrees problem 2 facts r ++ pending)) (reading_of (suc line) (tree ++ End ∷ []))))) h.0
      ∙ read_tree (suc line) (subtrees problem 2 facts r ++ pending) tree h.1

  -- and the answer is yes, to these places, cost and bound
  answer_tree : (line : ℕ) (pending : List Facts) (tree : List Record) → walk problem 2 bound pending tree ≡ Whole []
      → (last : ℕ) × (answer problem number (AtTree 2 places cost bound pending) (reading_of line (tree ++ End ∷ [])) ≡ Yes places cost bound (Ends last))
  answer_tree line [] tree e = (suc line, subst (λ t. answer problem number (AtTree 2 places cost bound []) (reading_of line (t ++ End ∷ [])) ≡ Yes places cost bound (Ends (suc line))) (sym (whole_none tree e)) refl)
  answer_tree line (facts ∷ pending) [] e = absurd (cc)
  answer_tree line (facts ∷ pending) (r ∷ tree) e =
      let h = goes_on (tree_fault problem 2 bound facts r) (r ∷ tree) (walk problem 2 bound (subtrees problem 2 facts r ++ pending) tree) e in
      let n = answer_tree (suc line) (subtrees problem 2 facts r ++ pending) tree h.1 in
      (n.0, ap (λ fault. answer_unless fault line (answer problem number (AtTree 2 places cost bound (subtrees problem 2 facts r ++ pending)) (reading_of (suc line) (tree ++ End ∷ [])))) h.0 ∙ n.1)

-- the answers behind the first records

abbrev after_cost : Problem → Certificate → Answer
after_cost problem c = answer problem c.number (AtBound 2 c.places c.cost) (reading_of 4 (Bound c.bound ∷ (c.tree ++ End ∷ [])))

abbrev after_plan : Problem → Certificate → Answer
after_plan problem c = answer problem c.number (AtCost 2 c.places) (reading_of 3 (Cost c.cost ∷ Bound c.bound ∷ (c.tree ++ End ∷ [])))

abbrev after_head : Problem → Certificate → ℕ → Answer
after_head problem c v = answer problem c.number (AtPlan v) (reading_of 2 (Plan c.places ∷ Cost c.cost ∷ Bound c.bound ∷ (c.tree ++ End ∷ [])))

pub trees_are_accepted : TreesAreAccepted
trees_are_accepted problem c version count legal costs whole =
    ap (λ b. is_yes (answer_unless (unless b BadHead) 1 (after_head problem c c.version))) (and_from (c.number == c.number) (c.count == problem.count) (eq-eqb c.number c.number refl) (eq-eqb c.count problem.count count))
    ∙ (ap (λ v. is_yes (after_head problem c v)) version
    ∙ (ap (λ fault. is_yes (answer_unless fault 2 (after_plan problem c))) legal
    ∙ (ap (λ b. is_yes (answer_unless (unless b WrongCost) 3 (after_cost problem c))) (eq-eqb c.cost (price problem c.places) costs)
    ∙ read_tree problem c.number c.places c.cost c.bound 5 (root_facts problem ∷ []) c.tree whole)))

pub trees_say_yes : (problem : Problem) (c : Certificate) → c.version ≡ 2 → c.count ≡ problem.count → plan_fault problem c.places ≡ None → c.cost ≡ price problem c.places
    → walk problem 2 c.bound (root_facts problem ∷ []) c.tree ≡ Whole [] → (last : ℕ) × (answer problem c.number AtHead (reading_of 1 (records_of c)) ≡ Yes c.places c.cost c.bound (Ends last))
trees_say_yes problem c version count legal costs whole =
    let n = answer_tree problem c.number c.places c.cost c.bound 5 (root_facts problem ∷ []) c.tree whole in (
      n.0,
      ap (λ b. answer_unless (unless b BadHead) 1 (after_head problem c c.version)) (and_from (c.number == c.number) (c.count == problem.count) (eq-eqb c.number c.number refl) (eq-eqb c.count problem.count count))
          ∙ (ap (λ v. after_head problem c v) version
          ∙ (ap (λ fault. answer_unless fault 2 (after_plan problem c)) legal
          ∙ (ap (λ b. answer_unless (unless b WrongCost) 3 (after_cost problem c)) (eq-eqb c.cost (price problem c.places) costs)
          ∙ n.1))),
    )
