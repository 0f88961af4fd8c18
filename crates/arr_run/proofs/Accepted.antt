-- A certificate that is accepted: its numbers are small, and it is accepted at whatever lines it stands and whatever follows.
use Rattle.std.proofs.Common.{◌≡◌, ⊎_elim, ℕ, zero, suc, ◌+◌, ◌-◌, ◌^◌, ◌≤◌, List, [], ◌∷◌, ◌++◌, length, map, Bool, true, false, cond, not, ◌&&◌, ◌||◌, ◌==◌, refl, ap, sym, ◌∙◌, subst, arith, Option, Some, None}
use Rattle.std.specs.Prelude.{nat_lt, nat_le, slice_get, ⊤}
use Rattle.std.specs.List.{flat_map, list_all}
use Rattle.std.proofs.lemmas.Bool.{and_parts, and_from, or_cases, eqb-true, leb-true, lt-ltb, false≢true}
use Rattle.arr_law.specs.declared.certificate.Certificate.{Certificate}
use Rattle.arr_law.specs.declared.charge.Charge.{Charge}
use Rattle.arr_law.specs.declared.fact.Fact.{Fact}
use Rattle.arr_law.specs.declared.fact.Fact.TheVariants.{Same, Apart, Before}
use Rattle.arr_law.specs.declared.record.Record.{Record}
use Rattle.arr_law.specs.declared.record.Record.TheVariants.{Flush, Plan, Cost, Bound, Step, Branch, Dead, Worth, End}
use Rattle.arr_law.specs.declared.reject.Reject.{Reject}
use Rattle.arr_law.specs.declared.reject.Reject.TheVariants.{BadLeaf}
use Rattle.arr_law.specs.Facts.{Facts, is_fact, root_facts, with_fact}
use Rattle.arr_law.specs.Leaves.{is_group, is_leaf}
use Rattle.arr_law.specs.Problem.{Problem, ends_base_of, is_op, is_pair}
use Rattle.arr_law.specs.Rules.{Rule, applies, free_rule, rule_list, rule_named}
use Rattle.arr_law.specs.Trees.{after_rule, is_dead, may_branch, or_else, step_fault, subtrees, tree_fault, unless}
use Rattle.arr_law.specs.Verdict.{Answer, Yes, AtHead, AtPlan, AtCost, AtBound, AtTree, Ends, Finished, Reading, Reads, State, Stops, accepts, after, answer, answer_unless, end_fault, is_yes, reading_of, record_fault, records_of}
use Rattle.arr_cert.specs.Spelling.{is_sized}
use Rattle.arr_cert.specs.Texts.{is_group_spelled, is_spelled, takes_two}
use Rattle.arr_check.specs.Judged.{onto}

-- ---- faults

-- no fault was found
unless_passes : (t : Bool) (fault : Reject) → unless t fault ≡ None → t ≡ true
unless_passes true fault e = refl
unless_passes false fault e = absurd (cc)

first_passes : (o p : Option Reject) → or_else o p ≡ None → o ≡ None
first_passes None p e = refl
first_passes (Some fault) p e = absurd (cc)

pub narrow : (n : ℕ) → n ≤ 256 → nat_lt n (2 ^ 32) ≡ true
narrow n h = lt-ltb n (2 ^ 32) (omega arith)

-- the records among numbered ones
abbrev pub records : List (ℕ × Record) → List Record
records front = map (λ (l : ℕ × Record). l.1) front

-- ---- facts on operations of the list

abbrev Within : Fact → Type 0
Within (Same f g) = (f ≤ 256) × (g ≤ 256)
Within (Apart f g) = (f ≤ 256) × (g ≤ 256)
Within (Before f g) = (f ≤ 256) × (g ≤ 256)

abbrev Scoped : Facts → Type 0
Scoped facts = (x : Fact) → facts x ≡ true → Within x

abbrev AllScoped : List Facts → Type 0
AllScoped [] = ⊤
AllScoped (facts ∷ pending) = Scoped facts × AllScoped pending

all_scoped : (xs ys : List Facts) → AllScoped xs → AllScoped ys → AllScoped (xs ++ ys)
all_scoped [] ys p q = q
all_scoped (x ∷ xs) ys p q = (p.0, all_scoped xs ys p.1 q)

same_pair : (f g h k : ℕ) → (f ≤ 256) × (g ≤ 256) → ((f == h) && (g == k)) ≡ true → (h ≤ 256) × (k ≤ 256)
same_pair f g h k w e =
    let p = and_parts (f == h) (g == k) e in
    let a : f ≡ h = eqb-true f h p.0 in
    let b : g ≡ k = eqb-true g k p.1 in
    let x = w.0 in
    let y = w.1 in (omega arith, omega arith)

either_pair : (f g h k : ℕ) → (f ≤ 256) × (g ≤ 256) → (((f == h) && (g == k)) || ((f == k) && (g == h))) ≡ true → (h ≤ 256) × (k ≤ 256)
either_pair f g h k w e =
    ⊎_elim (λ p. same_pair f g h k w p) (λ p. let q = same_pair f g k h w p in (q.1, q.0)) (or_cases ((f == h) && (g == k)) ((f == k) && (g == h)) e)

fact_within : (x y : Fact) → Within x → is_fact x y ≡ true → Within y
fact_within (Same f g) (Same h k) w e = either_pair f g h k w e
fact_within (Apart f g) (Apart h k) w e = either_pair f g h k w e
fact_within (Before f g) (Before h k) w e = same_pair f g h k w e
fact_within _ _ w e = absurd (false≢true e)

with_scoped : (x : Fact) (facts : Facts) → Within x → Scoped facts → Scoped (with_fact x facts)
with_scoped x facts w s y e = ⊎_elim (λ p. fact_within x y w p) (λ p. s y p) (or_cases (is_fact x y) (facts y) e)

module _ (problem : Problem) (small : problem.count ≤ 256) where
  op_small : (f : ℕ) → is_op problem f ≡ true → f ≤ 256
  op_small f e = let below : f ≤ problem.count = leb-true f problem.count (and_parts (nat_le 1 f) (nat_le f problem.count) e).1 in omega arith

  pair_small : (f g : ℕ) → is_pair problem f g ≡ true → (f ≤ 256) × (g ≤ 256)
  pair_small f g e =
      let p = and_parts (is_op problem f) (is_op problem g && not (f == g)) e in
      let q = and_parts (is_op problem g) (not (f == g)) p.1 in
      (op_small f p.0, op_small g q.0)

  root_scoped : Scoped (root_facts problem)
  root_scoped (Same f g) e = absurd (false≢true e)
  root_scoped (Apart f g) e = pair_small f g (and_parts (is_pair problem f g) (not (problem.fusible f g)) e).0
  root_scoped (Before f g) e = pair_small f g (and_parts (is_pair problem f g) (problem.dep f g) e).0

  two_small : (f g : ℕ) → list_all (is_op problem) (f ∷ g ∷ []) ≡ true → (f ≤ 256) × (g ≤ 256)
  two_small f g e =
      let p = and_parts (is_op problem f) (list_all (is_op problem) (g ∷ [])) e in
      (op_small f p.0, op_small g (and_parts (is_op problem g) true p.1).0)

  three_small : (f g h : ℕ) → list_all (is_op problem) (f ∷ g ∷ h ∷ []) ≡ true → (f ≤ 256) × (g ≤ 256) × (h ≤ 256)
  three_small f g h e =
      let p = and_parts (is_op problem f) (list_all (is_op problem) (g ∷ h ∷ [])) e in
      let q = two_small g h p.1 in
      (op_small f p.0, q.0, q.1)

  -- ---- steps

  -- what a rule is about: the first two operations, and the third unless it takes two
  record Step_small (two : Bool) (f g h : ℕ) (gives : Fact) : Type 0 where
    first : f ≤ 256
    second : g ≤ 256
    third : two ≡ false → h ≤ 256
    fact : Within gives

  abbrev Good : Bool → ℕ → ℕ → ℕ → Option Rule → Type 0
  Good two f g h None = ⊤
  Good two f g h (Some r) = list_all (is_op problem) r.operations ≡ true → Step_small two f g h r.gives

  two_good : (two : Bool) (f g h : ℕ) (premises : List Fact) (gives : Fact) → two ≡ true → ((f ≤ 256) × (g ≤ 256) → Within gives) → Good two f g h (Some (record { operations = f ∷ g ∷ []; premises = premises; gives = gives }))
  two_good two f g h premises gives is w e = let s = two_small f g e in record { first = s.0; second = s.1; third = λ no. absurd (false≢true (sym no ∙ is)); fact = w s }

  three_good : (two : Bool) (f g h : ℕ) (premises : List Fact) (gives : Fact) → ((f ≤ 256) × (h ≤ 256) → Within gives) → Good two f g h (Some (record { operations = f ∷ g ∷ h ∷ []; premises = premises; gives = gives }))
  three_good two f g h premises gives w e = let s = three_small f g h e in record { first = s.0; second = s.1; third = λ no. s.2; fact = w (s.0, s.2) }

  listed_good : (k f g h : ℕ) → Good (takes_two (k + 3)) f g h (slice_get (rule_list f g h) k)
  listed_good zero f g h = two_good (takes_two 3) f g h (Same f g ∷ []) (Before f g) refl (λ s. s)
  listed_good (suc zero) f g h = three_good (takes_two 4) f g h (Before f g ∷ Before g h ∷ []) (Before f h) (λ s. s)
  listed_good (suc (suc zero)) f g h = two_good (takes_two 5) f g h (Before f g ∷ Before g f ∷ []) (Same f g) refl (λ s. s)
  listed_good (suc (suc (suc zero))) f g h = three_good (takes_two 6) f g h (Same f g ∷ Apart g h ∷ []) (Apart f h) (λ s. s)
  listed_good (suc (suc (suc (suc zero)))) f g h = three_good (takes_two 7) f g h (Before f g ∷ Before g h ∷ Apart f g ∷ []) (Apart f h) (λ s. s)
  listed_good (suc (suc (suc (suc (suc zero))))) f g h = three_good (takes_two 8) f g h (Before f g ∷ Before g h ∷ Apart g h ∷ []) (Apart f h) (λ s. s)
  listed_good (suc (suc (suc (suc (suc (suc k)))))) f g h = tt

  cond_good : (two : Bool) (f g h : ℕ) (b : Bool) (x y : Option Rule) → (b ≡ true → Good two f g h x) → (b ≡ false → Good two f g h y) → Good two f g h (cond b x y)
  cond_good two f g h true x y p q = p refl
  cond_good two f g h false x y p q = q refl

  named_good : (version rule f g h : ℕ) → Good (takes_two rule) f g h (rule_named problem version rule f g h)
  named_good version rule f g h =
      let last : Option Rule = cond ((version == 2) && ends_base_of problem f g) (Some (free_rule problem f g)) None in
      let listed : Option Rule = cond (nat_le 3 rule) (slice_get (rule_list f g h) (rule - 3)) None in
      cond_good (takes_two rule) f g h (rule == 9) last listed
      (λ e. cond_good (takes_two rule) f g h ((version == 2) && ends_base_of problem f g) (Some (free_rule problem f g)) None
      (λ _. two_good (takes_two rule) f g h (free_rule problem f g).premises (Same f g) (ap takes_two (eqb-true rule 9 e)) (λ s. s)) (λ _. tt))
      (λ _. cond_good (takes_two rule) f g h (nat_le 3 rule) (slice_get (rule_list f g h) (rule - 3)) None
      (λ e.
      let most : 3 ≤ rule = leb-true 3 rule e in
      let same : (rule - 3) + 3 ≡ rule = omega arith in
      subst (λ k. Good (takes_two k) f g h (slice_get (rule_list f g h) (rule - 3))) same (listed_good (rule - 3) f g h))
      (λ _. tt))

  -- ---- records of a tree

  record After (version : ℕ) (facts : Facts) (r : Record) : Type 0 where
    sized : is_sized r ≡ true
    scoped : AllScoped (subtrees problem version facts r)

  third_small : (rule h : ℕ) → (takes_two rule ≡ false → h ≤ 256) → (not (takes_two rule) || (h == 0)) ≡ true → h ≤ 256
  third_small rule h w e = by_two (takes_two rule) w e
    where
      by_two : (b : Bool) → (b ≡ false → h ≤ 256) → (not b || (h == 0)) ≡ true → h ≤ 256
      by_two true w e = let none : h ≡ 0 = eqb-true h 0 e in omega arith
      by_two false w e = w refl

  after_step : (version rule f g h : ℕ) (facts : Facts) (o : Option Rule) → Good (takes_two rule) f g h o → Scoped facts → is_spelled (Step rule f g h) ≡ true → step_fault problem facts o ≡ None
      → (is_sized (Step rule f g h) ≡ true) × AllScoped (after_rule facts o)
  after_step version rule f g h facts None w s e fault = absurd (cc)
  after_step version rule f g h facts (Some r) w s e fault =
      let applied : applies problem facts r ≡ true = unless_passes (applies problem facts r) _ fault in
      let ops = (and_parts _ _ (and_parts _ _ applied).0).0 in
      let small_step = w ops in
      let p = and_parts (nat_le 3 rule && nat_le rule 9) (not (takes_two rule) || (h == 0)) e in
      let most : rule ≤ 9 = leb-true rule 9 (and_parts (nat_le 3 rule) (nat_le rule 9) p.0).1 in
      let third : h ≤ 256 = third_small rule h small_step.third p.1 in (
        and_from (nat_lt rule (2 ^ 32)) _ (narrow rule (omega arith)) (and_from (nat_lt f (2 ^ 32)) _ (narrow f small_step.first) (and_from (nat_lt g (2 ^ 32)) _ (narrow g small_step.second) (and_from (nat_lt h (2 ^ 32)) true (narrow h third) refl))),
        (with_scoped r.gives facts small_step.fact s, tt),
      )

  pair_sized : (f g : ℕ) → f ≤ 256 → g ≤ 256 → list_all (λ n. nat_lt n (2 ^ 32)) (f ∷ g ∷ []) ≡ true
  pair_sized f g p q = and_from (nat_lt f (2 ^ 32)) _ (narrow f p) (and_from (nat_lt g (2 ^ 32)) true (narrow g q) refl)

  ops_sized : (ops : List ℕ) → list_all (is_op problem) ops ≡ true → list_all (λ n. nat_lt n (2 ^ 32)) ops ≡ true
  ops_sized [] e = refl
  ops_sized (f ∷ fs) e =
      let p = and_parts (is_op problem f) (list_all (is_op problem) fs) e in
      and_from (nat_lt f (2 ^ 32)) (list_all (λ n. nat_lt n (2 ^ 32)) fs) (narrow f (op_small f p.0)) (ops_sized fs p.1)

  join_sized : (xs ys : List ℕ) → list_all (λ n. nat_lt n (2 ^ 32)) xs ≡ true → list_all (λ n. nat_lt n (2 ^ 32)) ys ≡ true → list_all (λ n. nat_lt n (2 ^ 32)) (xs ++ ys) ≡ true
  join_sized [] ys p q = q
  join_sized (x ∷ xs) ys p q =
      let r = and_parts (nat_lt x (2 ^ 32)) (list_all (λ n. nat_lt n (2 ^ 32)) xs) p in
      and_from (nat_lt x (2 ^ 32)) (list_all (λ n. nat_lt n (2 ^ 32)) (xs ++ ys)) r.0 (join_sized xs ys r.1 q)

  charges_sized : (facts : Facts) (charges : List Charge) → list_all (is_group problem facts) charges ≡ true → list_all is_group_spelled charges ≡ true
      → list_all (λ n. nat_lt n (2 ^ 32)) (flat_map (λ (c : Charge). c.operand ∷ c.ops) charges) ≡ true
  charges_sized facts [] e w = refl
  charges_sized facts (c ∷ cs) e w =
      let p = and_parts (is_group problem facts c) (list_all (is_group problem facts) cs) e in
      let q = and_parts (is_group_spelled c) (list_all is_group_spelled cs) w in
      let ops = (and_parts _ (list_all (is_op problem) c.ops) (and_parts _ _ p.0).0).1 in
      let most : c.operand ≤ 2 = leb-true c.operand 2 (and_parts (nat_le c.operand 2) (nat_le 1 (length c.ops)) q.0).0 in
      join_sized (c.operand ∷ c.ops) (flat_map (λ (d : Charge). d.operand ∷ d.ops) cs) (and_from (nat_lt c.operand (2 ^ 32)) _ (narrow c.operand (omega arith)) (ops_sized c.ops ops)) (charges_sized facts cs p.1 q.1)

  after_record : (version bound : ℕ) (facts : Facts) (r : Record) → Scoped facts → is_spelled r ≡ true → tree_fault problem version bound facts r ≡ None → (is_sized r ≡ true) × AllScoped (subtrees problem version facts r)
  after_record version bound facts (Step rule f g h) s e fault = after_step version rule f g h facts (rule_named problem version rule f g h) (named_good version rule f g h) s e fault
  after_record version bound facts (Branch f g) s e fault =
      let may : may_branch problem facts f g ≡ true = unless_passes (may_branch problem facts f g) _ fault in
      let ops = and_parts (is_op problem f) (is_op problem g) (and_parts _ _ (and_parts _ _ may).0).0 in
      let first : f ≤ 256 = op_small f ops.0 in
      let second : g ≤ 256 = op_small g ops.1 in
      (pair_sized f g first second, (with_scoped (Same f g) facts (first, second) s, (with_scoped (Apart f g) facts (first, second) s, tt)))
  after_record version bound facts (Dead f g) s e fault =
      let dead : is_dead facts f g ≡ true = unless_passes (is_dead facts f g) _ fault in
      let both = and_parts (facts (Same f g)) (facts (Apart f g)) (and_parts (nat_lt f g) _ dead).1 in
      let w : (f ≤ 256) × (g ≤ 256) = s (Same f g) both.0 in
      (pair_sized f g w.0 w.1, tt)
  after_record version bound facts (Worth charges) s e fault =
      let leaf : is_leaf problem facts charges ≡ true = unless_passes (is_leaf problem facts charges) BadLeaf (first_passes (unless (is_leaf problem facts charges) BadLeaf) _ fault) in
      (charges_sized facts charges (and_parts (list_all (is_group problem facts) charges) _ leaf).0 e, tt)
  after_record version bound facts End s e fault = absurd (cc)
  after_record version bound facts (Flush n k v) s e fault = absurd (cc)
  after_record version bound facts (Plan places) s e fault = absurd (cc)
  after_record version bound facts (Cost c) s e fault = absurd (cc)
  after_record version bound facts (Bound b) s e fault = absurd (cc)

  -- ---- one record after another

  unless_yes : (fault : Option Reject) (line : ℕ) (next : Answer) → is_yes (answer_unless fault line next) ≡ true → (fault ≡ None) × (is_yes next ≡ true)
  unless_yes None line next e = (refl, e)
  unless_yes (Some fault) line next e = absurd (false≢true e)

  ended : (r : Record) → end_fault r ≡ None → r ≡ End
  ended End e = refl
  ended (Flush n k v) e = absurd (cc)
  ended (Plan places) e = absurd (cc)
  ended (Cost c) e = absurd (cc)
  ended (Bound b) e = absurd (cc)
  ended (Step rule f g h) e = absurd (cc)
  ended (Branch f g) e = absurd (cc)
  ended (Dead f g) e = absurd (cc)
  ended (Worth charges) e = absurd (cc)

  none_behind : (number line : ℕ) (places : List ℕ) (c b : ℕ) (rs : List Record) → is_yes (answer problem number (Finished places c b) (reading_of line rs)) ≡ true → rs ≡ []
  none_behind number line places c b [] e = refl
  none_behind number line places c b (r ∷ rs) e = absurd (false≢true e)

  tree_sized : (rs : List Record) (number line version : ℕ) (places : List ℕ) (c b : ℕ) (pending : List Facts) → AllScoped pending → list_all is_spelled rs ≡ true
      → is_yes (answer problem number (AtTree version places c b pending) (reading_of line rs)) ≡ true → list_all is_sized rs ≡ true
  tree_sized [] number line version places c b pending s w e = refl
  tree_sized (r ∷ rs) number line version places c b [] s w e =
      let p = unless_yes (end_fault r) line _ e in
      let none : rs ≡ [] = none_behind number (suc line) places c b rs p.1 in
      and_from (is_sized r) (list_all is_sized rs) (ap is_sized (ended r p.0)) (ap (list_all is_sized) none)
  tree_sized (r ∷ rs) number line version places c b (facts ∷ pending) s w e =
      let p = unless_yes (tree_fault problem version b facts r) line _ e in
      let q = and_parts (is_spelled r) (list_all is_spelled rs) w in
      let t = after_record version b facts r s.0 q.0 p.0 in
      and_from (is_sized r) (list_all is_sized rs) t.0
      (tree_sized rs number (suc line) version places c b (subtrees problem version facts r ++ pending) (all_scoped (subtrees problem version facts r) pending t.1 s.1) q.1 p.1)

  yes_next : (fault : Option Reject) (line : ℕ) (next : Answer) → is_yes (answer_unless fault line next) ≡ true → answer_unless fault line next ≡ next
  yes_next None line next e = refl
  yes_next (Some fault) line next e = absurd (false≢true e)

  tree_says : (rs : List Record) (number line version : ℕ) (places : List ℕ) (c b : ℕ) (pending : List Facts) → is_yes (answer problem number (AtTree version places c b pending) (reading_of line rs)) ≡ true
      → (last : ℕ) × (answer problem number (AtTree version places c b pending) (reading_of line rs) ≡ Yes places c b (Ends last))
  tree_says [] number line version places c b pending e = absurd (false≢true e)
  tree_says (r ∷ rs) number line version places c b [] e =
      let p = unless_yes (end_fault r) line _ e in
      let none : rs ≡ [] = none_behind number (suc line) places c b rs p.1 in
      (suc line, yes_next (end_fault r) line _ e ∙ ap (λ xs. answer problem number (Finished places c b) (reading_of (suc line) xs)) none)
  tree_says (r ∷ rs) number line version places c b (facts ∷ pending) e =
      let p = unless_yes (tree_fault problem version b facts r) line _ e in
      let t = tree_says rs number (suc line) version places c b (subtrees problem version facts r ++ pending) p.1 in
      (t.0, yes_next (tree_fault problem version b facts r) line _ e ∙ t.1)

  -- ---- at other lines, before other records

  finishes : (number : ℕ) (places : List ℕ) (c b : ℕ) (rest : Reading) → answer problem number (Finished places c b) rest ≡ Yes places c b rest
  finishes number places c b (Ends line) = refl
  finishes number places c b (Stops line fault) = refl
  finishes number places c b (Reads line r rest) = refl

  unless_says : (fault : Option Reject) (line : ℕ) (next : Answer) (places : List ℕ) (c b : ℕ) (left : Reading) (other : ℕ) (a : Answer) → answer_unless fault line next ≡ Yes places c b left
      → (next ≡ Yes places c b left) × (answer_unless fault other a ≡ a)
  unless_says None line next places c b left other a e = (e, refl)
  unless_says (Some fault) line next places c b left other a e = absurd (cc)

  moves : (front : List (ℕ × Record)) (number line : ℕ) (state : State) (places : List ℕ) (c b last : ℕ) → answer problem number state (reading_of line (records front)) ≡ Yes places c b (Ends last)
      → (rest : Reading) → answer problem number state (onto front rest) ≡ Yes places c b rest
  moves [] number line AtHead places c b last e rest = absurd (cc)
  moves [] number line (AtPlan v) places c b last e rest = absurd (cc)
  moves [] number line (AtCost v ps) places c b last e rest = absurd (cc)
  moves [] number line (AtBound v ps k) places c b last e rest = absurd (cc)
  moves [] number line (AtTree v ps k m pending) places c b last e rest = absurd (cc)
  moves [] number line (Finished ps k m) places c b last e rest =
      let same_places : ps ≡ places = cc in
      let same_cost : k ≡ c = cc in
      let same_bound : m ≡ b = cc in
      finishes number ps k m rest ∙ ap (λ x. Yes x k m rest) same_places ∙ ap (λ x. Yes places x m rest) same_cost ∙ ap (λ x. Yes places c x rest) same_bound
  moves (l ∷ front) number line AtHead places c b last e rest =
      let u = unless_says (record_fault problem number AtHead l.1) line _ places c b (Ends last) l.0 (answer problem number (after problem AtHead l.1) (onto front rest)) e in
      u.1 ∙ moves front number (suc line) (after problem AtHead l.1) places c b last u.0 rest
  moves (l ∷ front) number line (AtPlan v) places c b last e rest =
      let u = unless_says (record_fault problem number (AtPlan v) l.1) line _ places c b (Ends last) l.0 (answer problem number (after problem (AtPlan v) l.1) (onto front rest)) e in
      u.1 ∙ moves front number (suc line) (after problem (AtPlan v) l.1) places c b last u.0 rest
  moves (l ∷ front) number line (AtCost v ps) places c b last e rest =
      let u = unless_says (record_fault problem number (AtCost v ps) l.1) line _ places c b (Ends last) l.0 (answer problem number (after problem (AtCost v ps) l.1) (onto front rest)) e in
      u.1 ∙ moves front number (suc line) (after problem (AtCost v ps) l.1) places c b last u.0 rest
  moves (l ∷ front) number line (AtBound v ps k) places c b last e rest =
      let u = unless_says (record_fault problem number (AtBound v ps k) l.1) line _ places c b (Ends last) l.0 (answer problem number (after problem (AtBound v ps k) l.1) (onto front rest)) e in
      u.1 ∙ moves front number (suc line) (after problem (AtBound v ps k) l.1) places c b last u.0 rest
  moves (l ∷ front) number line (AtTree v ps k m pending) places c b last e rest =
      let u = unless_says (record_fault problem number (AtTree v ps k m pending) l.1) line _ places c b (Ends last) l.0 (answer problem number (after problem (AtTree v ps k m pending) l.1) (onto front rest)) e in
      u.1 ∙ moves front number (suc line) (after problem (AtTree v ps k m pending) l.1) places c b last u.0 rest
  moves (l ∷ front) number line (Finished ps k m) places c b last e rest = absurd (cc)

  -- ---- a certificate

  -- what is left of an accepted certificate behind its first four records
  record Headed (c : Certificate) : Type 0 where
    pub tree : is_yes (answer problem c.number (AtTree c.version c.places c.cost c.bound (root_facts problem ∷ [])) (reading_of 5 (c.tree ++ End ∷ []))) ≡ true
    pub says : (last : ℕ) × (answer problem c.number AtHead (reading_of 1 (records_of c)) ≡ Yes c.places c.cost c.bound (Ends last))

  headed : (c : Certificate) → accepts problem c ≡ true → Headed c
  headed c e =
      let n = c.number in
      let p0 = unless_yes (record_fault problem n AtHead (Flush c.number c.count c.version)) 1 _ e in
      let p1 = unless_yes (record_fault problem n (AtPlan c.version) (Plan c.places)) 2 _ p0.1 in
      let p2 = unless_yes (record_fault problem n (AtCost c.version c.places) (Cost c.cost)) 3 _ p1.1 in
      let p3 = unless_yes (record_fault problem n (AtBound c.version c.places c.cost) (Bound c.bound)) 4 _ p2.1 in
      let t = tree_says (c.tree ++ End ∷ []) n 5 c.version c.places c.cost c.bound (root_facts problem ∷ []) p3.1 in
      record {
        tree = p3.1;
        says = (
          t.0,
          yes_next (record_fault problem n AtHead (Flush c.number c.count c.version)) 1 _ e
              ∙ yes_next (record_fault problem n (AtPlan c.version) (Plan c.places)) 2 _ p0.1
              ∙ yes_next (record_fault problem n (AtCost c.version c.places) (Cost c.cost)) 3 _ p1.1
              ∙ yes_next (record_fault problem n (AtBound c.version c.places c.cost) (Bound c.bound)) 4 _ p2.1
              ∙ t.1,
        );
      }

  -- it is answered yes wherever it stands
  pub certificate_moves : (c : Certificate) → accepts problem c ≡ true → (front : List (ℕ × Record)) → records front ≡ records_of c → (rest : Reading) → answer problem c.number AtHead (onto front rest) ≡ Yes c.places c.cost c.bound rest
  certificate_moves c e front is rest =
      let h = headed c e in
      moves front c.number 1 AtHead c.places c.cost c.bound h.says.0 (ap (λ rs. answer problem c.number AtHead (reading_of 1 rs)) is ∙ h.says.1) rest

  -- the numbers in its tree are small
  pub certificate_sized : (c : Certificate) → accepts problem c ≡ true → list_all is_spelled (c.tree ++ End ∷ []) ≡ true → list_all is_sized (c.tree ++ End ∷ []) ≡ true
  certificate_sized c e w =
      let h = headed c e in
      tree_sized (c.tree ++ End ∷ []) c.number 5 c.version c.places c.cost c.bound (root_facts problem ∷ []) (root_scoped, tt) w h.tree
