-- The operations of a block of a legal plan.
use Rattle.std.proofs.Common.{◌≡◌, ℕ, ◌≤◌, suc, List, [], ◌∷◌, ◌++◌, Bool, true, false, cond, not, ◌||◌, ◌&&◌, refl, ap, ap₂, sym, ◌∙◌, arith, length}
use Rattle.std.proofs.lemmas.Bool.{eqb-true, eq-eqb}
use Rattle.std.specs.Prelude.{◌==◌, nat_lt, nat_le}
use Rattle.std.specs.List.{AllByRecursion, list_all}
use Rattle.arr_view.specs.Views.{has}
use Rattle.arr_ops.specs.declared.op.Op.{Op}
use Rattle.arr_ops.specs.Ops.{fusible, dep}
use Rattle.arr_ops.specs.Formed.{well_formed, inside_made, is_formed, may_precede, all_pairs}
use Rattle.arr_ops.specs.Plans.{numbered, ops_of, holders, place, pair_legal, not_empty, is_legal}
use Rattle.arr_ops.proofs.Pairs.{Pairs, All_weaker, Pairs_All}
use Rattle.arr_ops.proofs.Tests.{both_left, both_right, all_of, pairs_of, test_all, all_numbered, pairs_numbered}
use Rattle.arr_ops.proofs.Spots.{Formed, formed_of}
use Rattle.arr_strips.specs.Laws.{BlocksOfPlans}

pub all_ops : (P : Op → Type 0) (block : List ℕ) (xs : List (ℕ × Op)) → AllByRecursion (λ (x : ℕ × Op). P x.1) xs → AllByRecursion P (ops_of xs block)
all_ops P block [] h = tt
all_ops P block (x ∷ xs) h = elim (has block x.0) as (λ b. AllByRecursion P (cond b (x.1 ∷ ops_of xs block) (ops_of xs block))) [ true ↦ (h.0, all_ops P block xs h.1) | false ↦ all_ops P block xs h.1 ]

pairs_ops : (R : Op → Op → Type 0) (block : List ℕ) (xs : List (ℕ × Op)) → Pairs (λ (x y : ℕ × Op). has block x.0 ≡ true → has block y.0 ≡ true → R x.1 y.1) xs → Pairs R (ops_of xs block)
pairs_ops R block [] h = tt
pairs_ops R block (x ∷ xs) h =
    elim (has block x.0) as (λ b. has block x.0 ≡ b → Pairs R (cond b (x.1 ∷ ops_of xs block) (ops_of xs block))) [
      | true ↦ λ e. (firsts e xs h.0, pairs_ops R block xs h.1)
      | false ↦ λ e. pairs_ops R block xs h.1
    ] refl
  where
    firsts : has block x.0 ≡ true → (ys : List (ℕ × Op)) → AllByRecursion (λ (y : ℕ × Op). has block x.0 ≡ true → has block y.0 ≡ true → R x.1 y.1) ys → AllByRecursion (R x.1) (ops_of ys block)
    firsts e [] k = tt
    firsts e (y ∷ ys) k = elim (has block y.0) as (λ b. has block y.0 ≡ b → AllByRecursion (R x.1) (cond b (y.1 ∷ ops_of ys block) (ops_of ys block))) [
      | true ↦ λ d. (k.0 e d, firsts e ys k.1)
      | false ↦ λ d. firsts e ys k.1
    ] refl

test_pairs : {X : Type 0} (t : X → X → Bool) (xs : List X) → Pairs (λ x y. t x y ≡ true) xs → all_pairs t xs ≡ true
test_pairs t [] h = refl
test_pairs t (x ∷ xs) h = ap₂ (λ a b. a && b) (test_all (t x) xs h.0) (test_pairs t xs h.1)

-- a number of the block has its only place there
held_some : (before after : List (List ℕ)) (block : List ℕ) (i : ℕ) → has block i ≡ true → 1 ≤ holders (before ++ block ∷ after) i
held_some [] after block i h =
    let e : holders (block ∷ after) i ≡ suc (holders after i) = ap (λ b. cond b (suc (holders after i)) (holders after i)) h in
    omega arith
held_some (c ∷ before) after block i h =
    let r : 1 ≤ holders (before ++ block ∷ after) i = held_some before after block i h in
    elim (has c i) as (λ b. 1 ≤ cond b (suc (holders (before ++ block ∷ after) i)) (holders (before ++ block ∷ after) i)) [ true ↦ omega arith | false ↦ r ]

placed_at : (before after : List (List ℕ)) (block : List ℕ) (i : ℕ) → has block i ≡ true → holders (before ++ block ∷ after) i ≡ 1 → place (before ++ block ∷ after) i ≡ length before
placed_at [] after block i h e = ap (λ b. cond b 0 (suc (place after i))) h
placed_at (c ∷ before) after block i h e =
    let rest : List (List ℕ) = before ++ block ∷ after in
    let r : 1 ≤ holders rest i = held_some before after block i h in
    elim (has c i) as (λ b. cond b (suc (holders rest i)) (holders rest i) ≡ 1 → cond b 0 (suc (place rest i)) ≡ suc (length before)) [
      | true ↦ λ k. absurd (omega arith)
      | false ↦ λ k. ap suc (placed_at before after block i h k)
    ] e

-- what holds of the operations of a block of a legal plan, serial or not
pub record BlockFacts (ops : List Op) : Type 0 where
  pub well : list_all well_formed ops ≡ true
  pub inside : list_all (λ f. list_all (inside_made f) ops) ops ≡ true
  pub order : all_pairs may_precede ops ≡ true
  pub fuse : all_pairs fusible ops ≡ true

pub block_facts : (list : List Op) (before after : List (List ℕ)) (block : List ℕ) → is_formed list ≡ true → is_legal list (before ++ block ∷ after) ≡ true → BlockFacts (ops_of (numbered list) block)
block_facts list before after block formed legal =
    let plan : List (List ℕ) = before ++ block ∷ after in
    let xs : List (ℕ × Op) = numbered list in
    let ops : List Op = ops_of xs block in
    let f : Formed list = formed_of list formed in
    let a = both_right (list_all (λ block. not_empty block && list_all (λ i. nat_lt 0 i && nat_le i (length list)) block) plan) _ legal in
    let held : AllByRecursion (λ (x : ℕ × Op). (holders plan x.0 == 1) ≡ true) xs = all_of (λ (x : ℕ × Op). holders plan x.0 == 1) xs (both_left (list_all (λ (x : ℕ × Op). holders plan x.0 == 1) xs) _ a) in
    let pairs : Pairs (λ x y. pair_legal plan x y ≡ true) xs = pairs_of (pair_legal plan) xs (both_right (list_all (λ (x : ℕ × Op). holders plan x.0 == 1) xs) _ a) in
    let fuse : Pairs (λ f g. fusible f g ≡ true) ops =
    pairs_ops (λ f g. fusible f g ≡ true) block xs
    (Pairs_All (λ (x : ℕ × Op). (holders plan x.0 == 1) ≡ true) (λ x y. pair_legal plan x y ≡ true) (λ (x y : ℕ × Op). has block x.0 ≡ true → has block y.0 ≡ true → fusible x.1 y.1 ≡ true)
    (λ x y p q r u v.
    let same : place plan x.0 ≡ place plan y.0 =
    placed_at before after block x.0 u (eqb-true (holders plan x.0) 1 p) ∙ sym (placed_at before after block y.0 v (eqb-true (holders plan y.0) 1 q)) in
    ap (λ b. not b || fusible x.1 y.1) (sym (eq-eqb (place plan x.0) (place plan y.0) same))
    ∙ both_left (not (place plan x.0 == place plan y.0) || fusible x.1 y.1) (not (dep x.1 y.1) || nat_le (place plan x.0) (place plan y.0)) r) xs held pairs) in
    let order : Pairs (λ f g. may_precede f g ≡ true) ops =
    pairs_ops (λ f g. may_precede f g ≡ true) block xs
    (Pairs_All (λ (x : ℕ × Op). (holders plan x.0 == 1) ≡ true) (λ (x y : ℕ × Op). may_precede x.1 y.1 ≡ true) (λ (x y : ℕ × Op). has block x.0 ≡ true → has block y.0 ≡ true → may_precede x.1 y.1 ≡ true)
    (λ x y p q r u v. r) xs held (pairs_numbered (λ f g. may_precede f g ≡ true) 1 list f.order)) in
    let well : AllByRecursion (λ f. well_formed f ≡ true) ops = all_ops (λ f. well_formed f ≡ true) block xs (all_numbered (λ f. well_formed f ≡ true) 1 list f.well) in
    let inside : AllByRecursion (λ f. list_all (inside_made f) ops ≡ true) ops =
    all_ops (λ f. list_all (inside_made f) ops ≡ true) block xs
    (all_numbered (λ f. list_all (inside_made f) ops ≡ true) 1 list
    (All_weaker (λ f. AllByRecursion (λ g. inside_made f g ≡ true) list) (λ f. list_all (inside_made f) ops ≡ true)
    (λ f h. test_all (inside_made f) ops (all_ops (λ g. inside_made f g ≡ true) block xs (all_numbered (λ g. inside_made f g ≡ true) 1 list h))) list f.inside)) in
    record {
      well = test_all well_formed ops well;
      inside = test_all (λ f. list_all (inside_made f) ops) ops inside;
      order = test_pairs may_precede ops order;
      fuse = test_pairs fusible ops fuse;
    }

pub blocks_of_plans : BlocksOfPlans
blocks_of_plans list before after block formed legal parallel =
    let f : BlockFacts (ops_of (numbered list) block) = block_facts list before after block formed legal in
    ap₂ (λ x y. x && y) f.well (ap₂ (λ x y. x && y) f.inside (ap₂ (λ x y. x && y) f.order (ap₂ (λ x y. x && y) f.fuse parallel)))
