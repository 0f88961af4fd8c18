use Rattle.std.proofs.Common.{◌≡◌, ◌+◌, ◌<◌, ◌≤◌, ℕ, List, [], ◌∷◌, ◌++◌, true, false, length, get_or, drop, ap, ap₂, sym, ◌∙◌, subst, arith, append_assoc}
use Rattle.std.specs.Prelude.{nat_le, max, ◌&&◌}
use Rattle.std.specs.List.{list_all}
use Rattle.std.proofs.lemmas.List.{drop_all, append-nil}
use Rattle.arr_shape.specs.Shapes.{checked_shape, padded, matches, all_match, greater, joined}
use Rattle.arr_shape.proofs.Shapes.{IsShape, shape_of, ranked, length-padded, padded_lengths, match_turn, greater_turn, match_not, match_same, match_left, match_right, length-greater, greater_lengths, mismatched, matched}
use Rattle.arr_shape.proofs.lengths.broadcast.Goals as goal
use Rattle.arr_shape.proofs.lengths.broadcast.Goals.{else-here-there-via-then-here-there+then-here-ne1+else-there-ne1, else-here-there-via-then-here-there+else-here-ne1, else-here-there-via-else-here-there}

-- both shapes, with as many dimensions
record Pair (left right : List ℕ) (rank : ℕ) : Type 0 where
  longest : rank ≡ max (length left) (length right)
  some : 1 ≤ rank
  four : rank ≤ 4
  long_left : length (padded rank left) ≡ rank
  long_right : length (padded rank right) ≡ rank
  lengths : list_all (nat_le 1) (padded rank left) ≡ true

pair : (left right : List ℕ) (rank : ℕ) → IsShape left → IsShape right → rank ≡ max (length left) (length right) → Pair left right rank
pair left right rank a b e =
    let l1 : 1 ≤ length left = a.some in
    let l4 : length left ≤ 4 = a.four in
    let r4 : length right ≤ 4 = b.four in
    record {
      longest = e;
      some = omega arith;
      four = omega arith;
      long_left = length-padded rank left (omega arith);
      long_right = length-padded rank right (omega arith);
      lengths = padded_lengths rank left a.lengths;
    }

pub returns-then-there-ne1 : goal.returns-then-there-ne1
returns-then-there-ne1 c =
    let rank : ℕ = c.max-rank.result in
    let i : ℕ = c.loop-axis.axis in
    let ms : List ℕ = padded rank c.args.left.now in
    let ns : List ℕ = padded rank c.args.right.now in
    let p : Pair c.args.left.now c.args.right.now rank = pair c.args.left.now c.args.right.now rank (shape_of c.args.left.now c.requires.left) (shape_of c.args.right.now c.requires.right) c.max-rank.ensures in
    let below : i < rank = c.loop-axis-test.true in
    let not_here : matches (get_or ms i 1) (get_or ns i 1) ≡ false =
    ap₂ matches (sym c.from_last-here.ensures) (sym c.from_last-there.ensures) ∙ match_not c.from_last-here.result c.from_last-there.result c.if-here-there.true c.if-here-ne1.true c.if-there-ne1.true in
    sym (ap (λ r. joined (padded r c.args.left.now) (padded r c.args.right.now)) (sym p.longest)
    ∙ mismatched ms ns (sym c.loop-axis.invariant.match ∙ match_turn ms ns i (subst (λ k. i < k) (sym p.long_left) below) (subst (λ k. i < k) (sym p.long_right) below)
    ∙ ap (λ b. b && all_match (drop (i + 1) ms) (drop (i + 1) ns)) not_here))

pub loop-axis-preserved : goal.loop-axis-preserved
loop-axis-preserved c =
    let rank : ℕ = c.max-rank.result in
    let i : ℕ = c.loop-axis.axis in
    let ms : List ℕ = padded rank c.args.left.now in
    let ns : List ℕ = padded rank c.args.right.now in
    let p : Pair c.args.left.now c.args.right.now rank = pair c.args.left.now c.args.right.now rank (shape_of c.args.left.now c.requires.left) (shape_of c.args.right.now c.requires.right) c.max-rank.ensures in
    let below : i < rank = c.loop-axis-test.true in
    let in_left : i < length ms = subst (λ k. i < k) (sym p.long_left) below in
    let in_right : i < length ns = subst (λ k. i < k) (sym p.long_right) below in
    let here : c.from_last-here.result ≡ get_or ms i 1 = c.from_last-here.ensures in
    let there : c.from_last-there.result ≡ get_or ns i 1 = c.from_last-there.ensures in
    let matching : matches (get_or ms i 1) (get_or ns i 1) ≡ true =
    elim c.else-here-there.branch [
      | else-here-there-via-then-here-there+then-here-ne1+else-there-ne1 w ↦ match_right (get_or ms i 1) (get_or ns i 1) (sym there ∙ w.if-there-ne1.false)
      | else-here-there-via-then-here-there+else-here-ne1 w ↦ match_left (get_or ms i 1) (get_or ns i 1) (sym here ∙ w.if-here-ne1.false)
      | else-here-there-via-else-here-there w ↦ match_same (get_or ms i 1) (get_or ns i 1) (sym here ∙ w.if-here-there.false ∙ there)
    ] in
    let greatest : c.max.result ≡ max (get_or ms i 1) (get_or ns i 1) = c.max.ensures ∙ ap₂ max here there in
    record {
      many = c.push.ensures.len ∙ ap (λ k. k + 1) c.loop-axis.invariant.many;
      match = sym (ap (λ b. b && all_match (drop (i + 1) ms) (drop (i + 1) ns)) matching) ∙ sym (match_turn ms ns i in_left in_right) ∙ c.loop-axis.invariant.match;
      so_far =
          ap (λ xs. xs ++ greater (drop (i + 1) ms) (drop (i + 1) ns)) c.push.ensures.items
          ∙ append_assoc c.loop-axis.lengths.items _ (greater (drop (i + 1) ms) (drop (i + 1) ns))
          ∙ ap (λ n. c.loop-axis.lengths.items ++ (n ∷ greater (drop (i + 1) ms) (drop (i + 1) ns))) (c.from.ensures ∙ greatest)
          ∙ ap (λ xs. c.loop-axis.lengths.items ++ xs) (sym (greater_turn ms ns i in_left in_right))
          ∙ c.loop-axis.invariant.so_far;
    }

pub returns : goal.returns
returns c =
    let rank : ℕ = c.max-rank.result in
    let i : ℕ = c.loop-axis.axis in
    let ms : List ℕ = padded rank c.args.left.now in
    let ns : List ℕ = padded rank c.args.right.now in
    let p : Pair c.args.left.now c.args.right.now rank = pair c.args.left.now c.args.right.now rank (shape_of c.args.left.now c.requires.left) (shape_of c.args.right.now c.requires.right) c.max-rank.ensures in
    let beyond : rank ≤ i = c.loop-axis-test.false in
    let no_left : drop i ms ≡ [] = drop_all i ms (subst (λ k. k ≤ i) (sym p.long_left) beyond) in
    let all : all_match ms ns ≡ true = sym c.loop-axis.invariant.match ∙ ap (λ xs. all_match xs (drop i ns)) no_left in
    let made : c.as_slice.result.now ≡ greater ms ns =
    c.as_slice.ensures.value ∙ sym (append-nil c.loop-axis.lengths.items) ∙ ap (λ xs. c.loop-axis.lengths.items ++ greater xs (drop i ns)) (sym no_left) ∙ c.loop-axis.invariant.so_far in
    let long : length (greater ms ns) ≡ rank = length-greater ms ns (p.long_left ∙ sym p.long_right) ∙ p.long_right in
    let rank_some : 1 ≤ rank = p.some in
    let rank_four : rank ≤ 4 = p.four in
    c.checked_shape.ensures ∙ ap checked_shape made
    ∙ matched ms ns all (ranked (greater ms ns) (omega arith) (omega arith)) (greater_lengths ms ns p.lengths)
    ∙ ap (λ r. joined (padded r c.args.left.now) (padded r c.args.right.now)) p.longest
