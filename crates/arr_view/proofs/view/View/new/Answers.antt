use Rattle.std.proofs.Common.{refl, cond, pos, ◌≡◌, ℕ, ℤ, ◌≤◌, List, true, false, length, ap, sym, ◌∙◌, arith, rules}
use Rattle.std.specs.Prelude.{Some, None, nat_le, ◌&&◌}
use Rattle.std.proofs.lemmas.Bool.{and_from, le-leb, eqb-true, eqb-false}
use Rattle.arr_view.specs.Strided.{Strided}
use Rattle.std.specs.List.{list_all}
use Rattle.arr_view.specs.Views.{places, positions, is_place, has_rank, view_from, is_view, kept_strides}
use Rattle.arr_view.proofs.Checks.{rank_refused, strides_refused, is_made, made, few, parts}
use Rattle.arr_view.proofs.Strides.{length-kept_strides}
use Rattle.arr_view.proofs.view.View.new.Goals as goal
use Rattle.arr_view.proofs.view.View.new.Goals.{then-is_empty-via-then-is_empty, then-is_empty-via-else-is_empty+then-strides-shape}

no_rank : (ns : List ℕ) → length ns ≡ 0 → has_rank ns ≡ false
no_rank ns e = ap (λ n. nat_le 1 n && nat_le n 4) e

ranked : (ns : List ℕ) → (length ns ≡ 0 → ⊥) → length ns ≤ 4 → has_rank ns ≡ true
ranked ns h k = and_from (nat_le 1 (length ns)) (nat_le (length ns) 4) (le-leb 1 (length ns) (omega arith)) (le-leb (length ns) 4 k)

pub returns-then-is_empty : goal.returns-then-is_empty
returns-then-is_empty c =
    elim c.then-is_empty.branch [
      | then-is_empty-via-then-is_empty w ↦ rank_refused c.args.base c.args.start c.args.shape.now c.args.strides.now (no_rank c.args.shape.now (eqb-true (length c.args.shape.now) 0 (sym c.is_empty.ensures ∙ w.if-is_empty.true)))
      | then-is_empty-via-else-is_empty+then-strides-shape w ↦ strides_refused c.args.base c.args.start c.args.shape.now c.args.strides.now w.if-strides-shape.true
    ]

pub stays_inside-requires-clause-same_rank : goal.stays_inside-requires-clause-same_rank
stays_inside-requires-clause-same_rank c = ap length (c.as_slice.ensures.value ∙ c.kept-strides.ensures) ∙ length-kept_strides c.args.shape.now c.args.strides.now ∙ c.if-strides-shape.false

few_counted : (ns : List ℕ) (n : ℕ) → Some n ≡ cond (few ns) (Some (positions ns)) None → few ns ≡ true
few_counted ns n e = elim (few ns) as (λ b. Some n ≡ cond b (Some (positions ns)) None → b ≡ true) [ true ↦ λ f. refl | false ↦ λ f. let g : Some n ≡ None = f in cc ] e

same_parts : (b s : ℕ) (ns ms : List ℕ) (ss rs : List ℤ) → ns ≡ ms → ss ≡ rs → record { base = b; start = s; lengths = ns; strides = ss } ≡ (let w : Strided = record { base = b; start = s; lengths = ms; strides = rs } in w)
same_parts b s ns ms ss rs p q = λ i. record { base = b; start = s; lengths = p i; strides = q i }

-- the call's arguments make a view
module _ (base start : ℕ) (ns : List ℕ) (ss kept : List ℤ) (nonzero : length ns ≡ 0 → ⊥) (rank : length ns ≤ 4) (level : length ss ≡ length ns) (n : ℕ)
    (counted : Some n ≡ cond (few ns) (Some (positions ns)) None) (given : kept ≡ kept_strides ns ss) (inside : list_all is_place (places ns kept (pos start)) ≡ true) where
  lawful_parts : is_view (parts base start ns ss) ≡ true
  lawful_parts =
      is_made base start ns ss (ranked ns nonzero rank) level (few_counted ns n counted) (ap (λ xs. list_all is_place (places ns xs (pos start))) (sym given) ∙ inside)

  result_lawful : (ms : List ℕ) → ms ≡ ns → is_view (record { base = base; start = start; lengths = ms; strides = kept }) ≡ true
  result_lawful ms e = ap is_view (same_parts base start ms ns kept (kept_strides ns ss) e given) ∙ lawful_parts

  result_is : (ms : List ℕ) → ms ≡ ns → Some (record { base = base; start = start; lengths = ms; strides = kept }) ≡ view_from base start ns ss
  result_is ms e = ap Some (same_parts base start ms ns kept (kept_strides ns ss) e given) ∙ made base start ns ss lawful_parts

pub invariant_of-result : goal.invariant_of-result
invariant_of-result c =
    let lengths : c.in_ok-lengths.lengths.items ≡ c.args.shape.now = search rules in
    let rank : length c.args.shape.now ≤ 4 = search rules in
    let slice : c.as_slice.result.now ≡ c.kept-strides.result.items = c.as_slice.ensures.value in
    result_lawful c.args.base c.args.start c.args.shape.now c.args.strides.now c.kept-strides.result.items
    (λ e. eqb-false (length c.args.shape.now) 0 (sym c.is_empty.ensures ∙ c.if-is_empty.false) e) rank c.if-strides-shape.false c.in_ok-counted.field-0 c.in_ok-counted.ensures c.kept-strides.ensures
    (ap (λ xs. list_all is_place (places c.args.shape.now xs (pos c.args.start))) (sym slice) ∙ sym c.stays_inside.ensures ∙ c.if-not-stays_inside.false) c.in_ok-lengths.lengths.items lengths

pub returns : goal.returns
returns c =
    let lengths : c.in_ok-lengths.lengths.items ≡ c.args.shape.now = search rules in
    let rank : length c.args.shape.now ≤ 4 = search rules in
    let slice : c.as_slice.result.now ≡ c.kept-strides.result.items = c.as_slice.ensures.value in
    result_is c.args.base c.args.start c.args.shape.now c.args.strides.now c.kept-strides.result.items
    (λ e. eqb-false (length c.args.shape.now) 0 (sym c.is_empty.ensures ∙ c.if-is_empty.false) e) rank c.if-strides-shape.false c.in_ok-counted.field-0 c.in_ok-counted.ensures c.kept-strides.ensures
    (ap (λ xs. list_all is_place (places c.args.shape.now xs (pos c.args.start))) (sym slice) ∙ sym c.stays_inside.ensures ∙ c.if-not-stays_inside.false) c.in_ok-lengths.lengths.items lengths
