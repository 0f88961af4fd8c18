-- One more line, or one more part of a line.
use Rattle.std.proofs.Common.{◌≡◌, ℕ, zero, suc, ◌+◌, ◌<◌, ◌≤◌, ℤ, pos, List, [], ◌∷◌, ◌++◌, length, drop, get_or, map, sum, codes, decimal, refl, ap, ap₂, sym, ◌∙◌, arith}
use Rattle.std.proofs.lemmas.List.{drop_more, drop_all}
use Rattle.arr_ops.specs.declared.op.Op.{Op}
use Rattle.arr_listing.specs.Texts.{dimension_text, dimensions_text, more_dimensions_text, numbers_text, op_text}
use Rattle.arr_listing.specs.Plans.{block_text, blocks_text, head_text, ops_text, plan_text}

pub numbers_turn : (ns : List ℕ) (i n : ℕ) → i < length ns → n ≡ get_or ns i 0 → numbers_text (drop i ns) ≡ (32 ∷ decimal n) ++ numbers_text (drop (i + 1) ns)
numbers_turn ns i n h is = ap numbers_text (drop_more ns i 0 h) ∙ ap (λ m. (32 ∷ decimal m) ++ numbers_text (drop (i + 1) ns)) (sym is)

pub numbers_end : (ns : List ℕ) (i : ℕ) → length ns ≤ i → numbers_text (drop i ns) ≡ []
numbers_end ns i h = ap numbers_text (drop_all i ns h)

pub dimensions_begin : (ns : List ℕ) (ss : List ℤ) → 0 < length ns → length ss ≡ length ns → dimension_text (get_or ns 0 0) (get_or ss 0 (pos 0)) ++ more_dimensions_text (drop 1 ns) (drop 1 ss) ≡ dimensions_text ns ss
dimensions_begin [] ss some same = absurd (omega arith)
dimensions_begin (n ∷ ns) [] some same = absurd (omega arith)
dimensions_begin (n ∷ ns) (s ∷ ss) some same = refl

pub dimensions_turn : (ns : List ℕ) (ss : List ℤ) (i n : ℕ) (s : ℤ) → i < length ns → length ss ≡ length ns → n ≡ get_or ns i 0 → s ≡ get_or ss i (pos 0)
    → more_dimensions_text (drop i ns) (drop i ss) ≡ (codes "," ++ dimension_text n s) ++ more_dimensions_text (drop (i + 1) ns) (drop (i + 1) ss)
dimensions_turn ns ss i n s h same is_n is_s =
    let rest = more_dimensions_text (drop (i + 1) ns) (drop (i + 1) ss) in
    ap₂ more_dimensions_text (drop_more ns i 0 h) (drop_more ss i (pos 0) (omega arith)) ∙ ap₂ (λ m z. (codes "," ++ dimension_text m z) ++ rest) (sym is_n) (sym is_s)

pub dimensions_end : (ns : List ℕ) (ss : List ℤ) (i : ℕ) → length ns ≤ i → more_dimensions_text (drop i ns) (drop i ss) ≡ []
dimensions_end ns ss i h = ap (λ r. more_dimensions_text r (drop i ss)) (drop_all i ns h)

pub ops_turn : (ops : List Op) (i : ℕ) (op : Op) → i < length ops → op ≡ get_or ops i op → ops_text (i + 1) (drop i ops) ≡ op_text (i + 1) op ++ ops_text (i + 1 + 1) (drop (i + 1) ops)
ops_turn ops i op h is =
    ap (ops_text (i + 1)) (drop_more ops i op h) ∙ ap₂ (λ x n. op_text (i + 1) x ++ ops_text n (drop (i + 1) ops)) (sym is) (let e : suc (i + 1) ≡ i + 1 + 1 = omega arith in e)

pub ops_end : (ops : List Op) (i : ℕ) → length ops ≤ i → ops_text (i + 1) (drop i ops) ≡ []
ops_end ops i h = ap (ops_text (i + 1)) (drop_all i ops h)

pub blocks_turn : (blocks : List (List ℕ)) (costs : List ℕ) (i : ℕ) (block : List ℕ) (cost : ℕ) → i < length blocks → length costs ≡ length blocks → block ≡ get_or blocks i [] → cost ≡ get_or costs i 0
    → blocks_text (i + 1) (drop i blocks) (drop i costs) ≡ block_text (i + 1) cost block ++ blocks_text (i + 1 + 1) (drop (i + 1) blocks) (drop (i + 1) costs)
blocks_turn blocks costs i block cost h same is_block is_cost =
    let e : suc (i + 1) ≡ i + 1 + 1 = omega arith in
    ap₂ (blocks_text (i + 1)) (drop_more blocks i [] h) (drop_more costs i 0 (omega arith))
    ∙ ap₂ (λ b k. block_text (i + 1) k b ++ blocks_text (suc (i + 1)) (drop (i + 1) blocks) (drop (i + 1) costs)) (sym is_block) (sym is_cost)
    ∙ ap (λ n. block_text (i + 1) cost block ++ blocks_text n (drop (i + 1) blocks) (drop (i + 1) costs)) e

pub blocks_end : (blocks : List (List ℕ)) (costs : List ℕ) (i : ℕ) → length blocks ≤ i → blocks_text (i + 1) (drop i blocks) (drop i costs) ≡ []
blocks_end blocks costs i h = ap (λ r. blocks_text (i + 1) r (drop i costs)) (drop_all i blocks h)

-- an item of a list, mapped
pub item_mapped : {X : Type 0} (f : X → List ℕ) (xs : List X) (i : ℕ) (x : X) → i < length xs → x ≡ get_or xs i x → f x ≡ get_or (map f xs) i []
item_mapped f xs i x h is = ap f is ∙ at f xs i x h
  where
    at : {X : Type 0} (f : X → List ℕ) (xs : List X) (i : ℕ) (x : X) → i < length xs → f (get_or xs i x) ≡ get_or (map f xs) i []
    at f [] i x h = absurd (omega arith)
    at f (y ∷ ys) zero x h = refl
    at f (y ∷ ys) (suc i) x h = at f ys i x (omega arith)

-- the lines of a flush, part by part
pub plan_is : (recorded number : ℕ) (ops : List Op) (blocks plan : List (List ℕ)) (costs : List ℕ) (n cost : ℕ) → n ≡ length plan → cost ≡ sum costs → blocks ≡ plan
    → head_text recorded number (length ops) n cost ++ ops_text 1 ops ++ blocks_text 1 blocks costs ≡ plan_text recorded number ops plan costs
unfolding plan_text
plan_is recorded number ops blocks plan costs n cost is_n is_cost is_blocks =
    ap₂ (λ m c. head_text recorded number (length ops) m c ++ ops_text 1 ops ++ blocks_text 1 blocks costs) is_n is_cost
    ∙ ap (λ p. head_text recorded number (length ops) (length plan) (sum costs) ++ ops_text 1 ops ++ blocks_text 1 p costs) is_blocks
