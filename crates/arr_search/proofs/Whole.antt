-- What a search has once no node is left.
use Rattle.std.proofs.Common.{◌≡◌, ℕ, zero, suc, ◌+◌, ◌^◌, ◌<◌, ◌≤◌, List, [], ◌∷◌, ◌++◌, length, map, true, ◌&&◌, inl, refl, sym, ap, ◌∙◌, subst, arith, length-append, min}
use Rattle.std.specs.Prelude.{nat_le, codes, decimal, IsTrue}
use Rattle.std.specs.List.{list_all, range_with_len, AllByRecursion}
use Rattle.std.proofs.lemmas.Bool.{and_parts, and_from, le-leb}
use Rattle.std.proofs.lemmas.Fmt.{length-decimal-le}
use Rattle.std.proofs.lemmas.List.Folds.{list_all-append}
use Rattle.std.proofs.lemmas.List.FromFn.{length-map-range_with_len}
use Rattle.arr_ops.specs.declared.op.Op.{Op}
use Rattle.arr_ops.specs.Formed.{is_formed}
use Rattle.arr_ops.specs.Plans.{is_legal, place}
use Rattle.arr_ops.specs.Costs.{cost}
use Rattle.arr_law.specs.declared.certificate.Certificate.{Certificate}
use Rattle.arr_law.specs.declared.record.Record.{Record}
use Rattle.arr_law.specs.declared.record.Record.TheVariants.{Flush, Plan, Cost, Bound, End}
use Rattle.arr_law.specs.Problem.{Problem}
use Rattle.arr_law.specs.Facts.{root_facts}
use Rattle.arr_law.specs.Laws.{IsLowerBound}
use Rattle.arr_law.specs.Plans.{price}
use Rattle.arr_law.specs.ProblemOf.{problem_of}
use Rattle.arr_law.specs.Verdict.{is_tree_record, records_of, reading_of, Ends}
use Rattle.arr_law.proofs.Lists.{yes_certifies}
use Rattle.arr_cert.specs.Texts.{spaced, is_spelled, is_short, is_spellable}
use Rattle.arr_heur.specs.Planners.{greedy_plan}
use Rattle.arr_heur.proofs.Merged.{greedy_legal}
use Rattle.arr_search.specs.declared.found.Found.{Found}
use Rattle.arr_search.specs.declared.progress.Progress.{Progress}
use Rattle.arr_search.specs.Found.{IsFound}
use Rattle.arr_search.specs.Best.{places_of, IsBest}
use Rattle.arr_search.specs.Nodes.{IsSearch, is_written}
use Rattle.arr_search.specs.Running.{Running}
use Rattle.arr_search.proofs.Accepted.{trees_are_accepted, trees_say_yes}
use Rattle.arr_search.proofs.Certified.{no_fault, price_is}
use Rattle.arr_search.proofs.Lists.{plans_pay, root_symmetric}
use Rattle.arr_search.proofs.Running.{started, finished}
use Rattle.arr_search.proofs.Written.{behind_short}
use Rattle.arr_cost.proofs.Sums.{few_blocks}
use Rattle.arr_law.proofs.Agrees.{holders_place}
use Rattle.arr_law.proofs.Proper.{proper}
use Rattle.arr_ops.proofs.Legality.{legal_partition}

wide_decimal : (n : ℕ) → n < 2 ^ 64 → length (decimal n) ≤ 20
wide_decimal n l = length-decimal-le 20 n (omega arith) (omega arith) l

-- ---- the certificate can be written

tree_written : (tree : List Record) → list_all is_written tree ≡ true → (list_all (λ r. is_spelled r && is_short r) tree ≡ true) × (list_all is_tree_record tree ≡ true)
tree_written [] e = (refl, refl)
tree_written (r ∷ tree) e =
    let p = and_parts (is_written r) (list_all is_written tree) e in
    let q = and_parts (is_spelled r && is_short r) (is_tree_record r) p.0 in
    let ih = tree_written tree p.1 in
    (and_from (is_spelled r && is_short r) (list_all (λ r. is_spelled r && is_short r) tree) q.0 ih.0, and_from (is_tree_record r) (list_all is_tree_record tree) q.1 ih.1)

short_line : (text : List ℕ) → length text ≤ 65536 → (true && nat_le (length text) 65536) ≡ true
short_line text l = le-leb (length text) 65536 l

module _ (c : Certificate) (version : c.version ≡ 2) (number : c.number < 2 ^ 64) (count : c.count < 2 ^ 64) (cost : c.cost < 2 ^ 64) (bound : c.bound < 2 ^ 64)
    (places : AllByRecursion (λ p. p ≤ 256) c.places) (few : length c.places ≤ 256) (tree : list_all is_written c.tree ≡ true) where
  head_line : (v : ℕ) → v ≡ 2 → (is_spelled (Flush c.number c.count v) && is_short (Flush c.number c.count v)) ≡ true
  head_line v e =
      subst (λ v. (is_spelled (Flush c.number c.count v) && is_short (Flush c.number c.count v)) ≡ true) (sym e)
      (short_line (codes "!flush" ++ spaced (c.number ∷ c.count ∷ 2 ∷ []))
      (omega (
        arith,
        length-append (codes "!flush") (spaced (c.number ∷ c.count ∷ 2 ∷ [])),
        length-append (32 ∷ decimal c.number) (spaced (c.count ∷ 2 ∷ [])),
        length-append (32 ∷ decimal c.count) (spaced (2 ∷ [])),
        wide_decimal c.number number,
        wide_decimal c.count count,
        behind_short 32 (2 ∷ []) (omega arith, tt),
      )))

  one_number : (word : List ℕ) (n : ℕ) → length word ≤ 7 → n < 2 ^ 64 → length (word ++ spaced (n ∷ [])) ≤ 65536
  one_number word n l s = omega (arith, length-append word (spaced (n ∷ [])), length-append (32 ∷ decimal n) [], wide_decimal n s, l)

  pub can_be_written : is_spellable c ≡ true
  can_be_written =
      let t = tree_written c.tree tree in
      and_from (list_all (λ r. is_spelled r && is_short r) (records_of c)) (list_all is_tree_record c.tree)
      (and_from (is_spelled (Flush c.number c.count c.version) && is_short (Flush c.number c.count c.version)) _ (head_line c.version version)
      (and_from (is_spelled (Plan c.places) && is_short (Plan c.places)) _ (short_line (codes "!plan" ++ spaced c.places) (omega (arith, length-append (codes "!plan") (spaced c.places), behind_short 32 c.places places, few)))
      (and_from (is_spelled (Cost c.cost) && is_short (Cost c.cost)) _ (short_line (codes "!cost" ++ spaced (c.cost ∷ [])) (one_number (codes "!cost") c.cost (omega arith) cost))
      (and_from (is_spelled (Bound c.bound) && is_short (Bound c.bound)) _ (short_line (codes "!bound" ++ spaced (c.bound ∷ [])) (one_number (codes "!bound") c.bound (omega arith) bound))
      (list_all-append (λ r. is_spelled r && is_short r) c.tree (End ∷ []) ∙ and_from (list_all (λ r. is_spelled r && is_short r) c.tree) true t.0 refl))))) t.1

-- ---- all that was found

module _ (list : List Op) (number budget : ℕ) (p : Progress) (s : IsSearch list budget [] p) (narrow : number < 2 ^ 32) (cheap : p.cost < 2 ^ 64) where
  abbrev P : Problem
  P = problem_of list

  abbrev c : Certificate
  c = record { version = 2; number = number; count = length list; places = places_of list p.plan; cost = p.cost; bound = min p.cost p.least; tree = p.tree }

  abbrev found : Found
  found = record { plan = p.plan; cost = p.cost; bound = min p.cost p.least; units = p.units; certificate = c }

  shows : IsFound P (cost list (greedy_plan list)) budget p.cost (min p.cost p.least) p.units p.tree
  shows = finished P (cost list (greedy_plan list)) budget p.tree p.units p.least p.cost s.running

  priced : p.cost ≡ price P (places_of list p.plan)
  priced = s.planned.cost_is ∙ sym (price_is list p.plan s.formed s.planned.legal)

  bounds : IsLowerBound list (min p.cost p.least)
  bounds =
      let y = trees_say_yes P c refl refl (no_fault list p.plan s.formed s.planned.legal) priced shows.accepted in
      (yes_certifies list number (reading_of 1 (records_of c)) (Ends y.0) (places_of list p.plan) p.cost (min p.cost p.least) s.formed y.1).least

  places_small : (a k : ℕ) → 1 ≤ a → a + k ≤ 1 + length list → AllByRecursion (λ q. q ≤ 256) (map (λ f. suc (place p.plan f)) (range_with_len a k))
  places_small a zero l u = tt
  places_small a (suc k) l u = (
    (let q : place p.plan a < length p.plan = holders_place p.plan a ((legal_partition list p.plan s.planned.legal).0.once a (omega arith) (omega arith)) in omega (arith, q, few_blocks list p.plan s.planned.legal, s.few)),
    places_small (a + 1) k (omega arith) (omega arith),
  )

  pub best : IsBest list number budget found
  best =
      record {
        legal = s.planned.legal;
        cost_is = s.planned.cost_is;
        improves = s.planned.improves;
        below = omega arith;
        least = bounds;
        shows = shows;
        certificate = record {
          version_is = refl;
          number_is = refl;
          count_is = refl;
          places_are = refl;
          cost_is = refl;
          bound_is = refl;
          accepted = trees_are_accepted P c refl refl (no_fault list p.plan s.formed s.planned.legal) priced shows.accepted;
          spellable = can_be_written c refl (omega (arith, narrow)) (omega (arith, s.few)) cheap (omega (arith, cheap)) (places_small 1 (length list) (omega arith) (omega arith)) (omega (arith, length-map-range_with_len (λ f. suc (place p.plan f)) 1 (length list), s.few)) s.written;
        };
      }

-- ---- before the first node

pub begun : (list : List Op) (p : Progress) → IsTrue (is_formed list) → length list ≤ 256 → p.tree ≡ [] → p.units ≡ 0 → p.least ≡ p.cost → p.plan ≡ greedy_plan list → p.cost ≡ cost list p.plan → (budget : ℕ)
    → IsSearch list budget (root_facts (problem_of list) ∷ []) p
begun list p formed few tree units least plan costs budget =
    let P : Problem = problem_of list in
    let G : ℕ = cost list (greedy_plan list) in
    let spent : p.cost ≡ G = costs ∙ ap (cost list) plan in
    let legal : IsTrue (is_legal list (greedy_plan list)) = (greedy_legal list).2 in
    record {
      formed = formed;
      few = few;
      running =
          subst (λ t. Running P G budget (root_facts P ∷ []) t p.units p.least p.cost) (sym tree)
          (subst (λ u. Running P G budget (root_facts P ∷ []) [] u p.least p.cost) (sym units)
          (subst (λ l. Running P G budget (root_facts P ∷ []) [] 0 l p.cost) (sym (least ∙ spent))
          (subst (λ k. Running P G budget (root_facts P ∷ []) [] 0 G k) (sym spent) (started P G budget (root_symmetric P (proper list formed)) (plans_pay list (greedy_plan list) formed legal)))));
      planned = record { legal = subst (λ q. IsTrue (is_legal list q)) (sym plan) legal; cost_is = costs; improves = inl plan };
      written = ap (list_all is_written) tree;
    }

pub best_as : (list : List Op) (number budget : ℕ) (p : Progress) (s : IsSearch list budget [] p) → number < 2 ^ 32 → p.cost < 2 ^ 64 → (bound count : ℕ) (places : List ℕ) → bound ≡ min p.cost p.least → count ≡ length list → places ≡ places_of list p.plan
    → IsBest list number budget (record { plan = p.plan; cost = p.cost; bound = bound; units = p.units; certificate = record { version = 2; number = number; count = count; places = places; cost = p.cost; bound = bound; tree = p.tree } })
best_as list number budget p s narrow cheap bound count places eb ec ep =
    subst (λ (b : ℕ). IsBest list number budget (record { plan = p.plan; cost = p.cost; bound = b; units = p.units; certificate = record { version = 2; number = number; count = count; places = places; cost = p.cost; bound = b; tree = p.tree } })) (sym eb)
    (subst (λ (n : ℕ). IsBest list number budget (record { plan = p.plan; cost = p.cost; bound = min p.cost p.least; units = p.units; certificate = record { version = 2; number = number; count = n; places = places; cost = p.cost; bound = min p.cost p.least; tree = p.tree } })) (sym ec)
    (subst (λ (q : List ℕ). IsBest list number budget (record { plan = p.plan; cost = p.cost; bound = min p.cost p.least; units = p.units; certificate = record { version = 2; number = number; count = length list; places = q; cost = p.cost; bound = min p.cost p.least; tree = p.tree } })) (sym ep)
    (best list number budget p s narrow cheap)))
