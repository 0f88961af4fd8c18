use Rattle.std.proofs.Common.{◌≡◌, ◌∙◌, ◌<◌, ℕ, Bool, false, List, [], Vec, Global, length, map, get_or, ap, sym, arith, below_more}
use Rattle.std.proofs.lemmas.List.{length-map}
use Rattle.arr_view.specs.Views.{has}
use Rattle.arr_search.proofs.Loops.{get_map, place_here, place_none}
use Rattle.arr_search.proofs.places.place_of.Goals as goal

abbrev pub numbers_in : Vec ℕ Global → List ℕ
numbers_in b = b.items

-- what is asked of the block at a place
at_place : (blocks : List (Vec ℕ Global)) (plan : List (List ℕ)) (block : Vec ℕ Global) (items : List ℕ) (k f : ℕ) (answer : Bool) → map numbers_in blocks ≡ plan → block ≡ get_or blocks k block → items ≡ block.items → k < length blocks → answer ≡ has items f
    → has (get_or plan k []) f ≡ answer
at_place blocks plan block items k f answer view is same l tells =
    ap (λ p. has (get_or p k []) f) (sym view) ∙ (ap (λ b. has b f) (get_map numbers_in blocks k block [] l ∙ (ap numbers_in (sym is) ∙ sym same)) ∙ sym tells)

long : (blocks : List (Vec ℕ Global)) (plan : List (List ℕ)) → map numbers_in blocks ≡ plan → length plan ≡ length blocks
long blocks plan view = ap length (sym view) ∙ length-map blocks numbers_in

pub returns-then-has-clause-value : goal.returns-then-has-clause-value
returns-then-has-clause-value c =
    let B = c.plan.inside.blocks.items in
    let l : c.loop-place.place < length B = omega (arith, c.loop-place-test.true, c.len-place-end.ensures, c.plan.inside.blocks.ok.0) in
    sym (place_here c.args.plan.now c.args.f c.loop-place.place (omega (arith, l, long B c.args.plan.now c.plan.view_is)) c.loop-place.invariant
    (at_place B c.args.plan.now c.index.result.now c.as_slice.result.now c.loop-place.place c.args.f c.has.result c.plan.view_is c.index.ensures c.as_slice.ensures.value l c.has.ensures ∙ c.if-has.true))

pub loop-place-preserved : goal.loop-place-preserved
loop-place-preserved c =
    let B = c.plan.inside.blocks.items in
    let l : c.loop-place.place < length B = omega (arith, c.loop-place-test.true, c.len-place-end.ensures, c.plan.inside.blocks.ok.0) in
    below_more (λ k. has (get_or c.args.plan.now k []) c.args.f ≡ false) c.loop-place.place c.loop-place.invariant
    (at_place B c.args.plan.now c.index.result.now c.as_slice.result.now c.loop-place.place c.args.f c.has.result c.plan.view_is c.index.ensures c.as_slice.ensures.value l c.has.ensures ∙ c.if-has.false)

pub returns-clause-value : goal.returns-clause-value
returns-clause-value c =
    let B = c.plan.inside.blocks.items in
    let e : length c.args.plan.now ≡ length B = long B c.args.plan.now c.plan.view_is in
    let r : c.len.result ≡ length c.args.plan.now = omega (arith, e, c.len.ensures, c.plan.inside.blocks.ok.0) in
    r ∙ sym (place_none c.args.plan.now c.args.f (λ j l. c.loop-place.invariant j (omega (arith, l, e, c.loop-place-test.false, c.len-place-end.ensures, c.plan.inside.blocks.ok.0))))
