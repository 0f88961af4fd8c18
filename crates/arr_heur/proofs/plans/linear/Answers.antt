use Rattle.std.proofs.Common.{◌≡◌, ◌∙◌, ◌+◌, ◌-◌, ◌<◌, ◌++◌, ◌∷◌, [], ℕ, List, Vec, Global, false, true, rules, arith, length, map, ap, sym, subst}
use Rattle.std.specs.List.{list_all, range_with_len}
use Rattle.std.proofs.lemmas.List.Folds.{list_all-map}
use Rattle.arr_ops.specs.Plans.{ascends, numbered}
use Rattle.arr_heur.specs.Segments.{segment}
use Rattle.arr_heur.proofs.Stretches.{Made, fits_at, items_end, made_all, made_first, made_joined, made_opened}
use Rattle.arr_heur.proofs.plans.linear.Goals as goal
use Rattle.arr_heur.proofs.plans.linear.Goals.{then-not-joins+in_ok-block_of+in_ok-push, else-not-joins}

abbrev pub numbers_in : Vec ℕ Global → List ℕ
numbers_in b = b.items

pub loop-place-init : goal.loop-place-init
loop-place-init c =
    let some : 0 < length c.args.graph.now = omega arith in
    made_first c.args.graph.now (map numbers_in c.new-blocks.result.items) some (ap (map numbers_in) c.new-blocks.ensures.items)

pub loop-place-preserved : goal.loop-place-preserved
loop-place-preserved c =
    let list = c.args.graph.now in
    let place = c.loop-place.place in
    let start = c.loop-place.start in
    let old = map numbers_in c.loop-place.blocks.items in
    elim c.if-not-joins.branch [
      | then-not-joins+in_ok-block_of+in_ok-push w ↦
          let refused : c.joins.result ≡ false = search rules in
          let no : list_all (fits_at list place) (segment (numbered list) start place) ≡ false = sym c.joins.ensures ∙ refused in
          let same : map numbers_in w.push.new.self.items ≡ old ++ range_with_len (start + 1) (place - start) ∷ [] =
          ap (map numbers_in) w.in_ok-push.ensures.items ∙ items_end numbers_in c.loop-place.blocks.items w.in_ok-block_of.field-0 ∙ ap (λ ns. old ++ ns ∷ []) w.in_ok-block_of.ensures in
          subst (λ s. Made list s (place + 1) (map numbers_in c.if-not-joins.blocks.items)) (sym w.start-is)
          (subst (λ (b : Vec (Vec ℕ Global) Global). Made list place (place + 1) (map numbers_in b.items)) (sym w.blocks-is)
          (subst (λ bs. Made list place (place + 1) bs) (sym same) (made_opened list start place old (omega arith) no c.loop-place.invariant)))
      | else-not-joins w ↦
          let joined : c.joins.result ≡ true = search rules in
          let yes : list_all (fits_at list place) (segment (numbered list) start place) ≡ true = sym c.joins.ensures ∙ joined in
          subst (λ s. Made list s (place + 1) (map numbers_in c.if-not-joins.blocks.items)) (sym w.start-is)
          (subst (λ (b : Vec (Vec ℕ Global) Global). Made list start (place + 1) (map numbers_in b.items)) (sym w.blocks-is)
          (made_joined list start place old (omega arith) yes c.loop-place.invariant))
    ]

pub invariant_of-result-2 : goal.invariant_of-result-2
invariant_of-result-2 c =
    let list = c.args.graph.now in
    let old = map numbers_in c.loop-place.blocks.items in
    let here : c.loop-place.place ≡ c.len-count.result = omega arith in
    let same : map numbers_in c.push-2.new.self.items ≡ old ++ range_with_len (c.loop-place.start + 1) (c.loop-place.place - c.loop-place.start) ∷ [] =
    ap (map numbers_in) c.in_ok-push-2.ensures.items ∙ items_end numbers_in c.loop-place.blocks.items c.in_ok-block_of-2.field-0
    ∙ ap (λ ns. old ++ ns ∷ []) (c.in_ok-block_of-2.ensures ∙ ap (λ n. range_with_len (c.loop-place.start + 1) (n - c.loop-place.start)) (sym here)) in
    let done = made_all list c.loop-place.start c.loop-place.place old (omega arith) c.loop-place.invariant in
    sym (list_all-map ascends numbers_in c.push-2.new.self.items) ∙ ap (list_all ascends) same ∙ done.ascending

pub returns : goal.returns
returns c =
    let list = c.args.graph.now in
    let old = map numbers_in c.loop-place.blocks.items in
    let here : c.loop-place.place ≡ c.len-count.result = omega arith in
    let same : map numbers_in c.push-2.new.self.items ≡ old ++ range_with_len (c.loop-place.start + 1) (c.loop-place.place - c.loop-place.start) ∷ [] =
    ap (map numbers_in) c.in_ok-push-2.ensures.items ∙ items_end numbers_in c.loop-place.blocks.items c.in_ok-block_of-2.field-0
    ∙ ap (λ ns. old ++ ns ∷ []) (c.in_ok-block_of-2.ensures ∙ ap (λ n. range_with_len (c.loop-place.start + 1) (n - c.loop-place.start)) (sym here)) in
    let done = made_all list c.loop-place.start c.loop-place.place old (omega arith) c.loop-place.invariant in
    same ∙ done.whole
