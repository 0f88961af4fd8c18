-- What an operation is, and what two that fuse are to one another.
use Rattle.std.proofs.Common.{◌≡◌, ℕ, ◌*◌, ◌<◌, suc, zero, List, [], ◌∷◌, ◌++◌, Bool, true, false, cond, not, ◌||◌, ◌&&◌, refl, ap, ap₂, sym, ◌∙◌, subst, arith, map, length, get_or, take, drop, Option, Some, None}
use Rattle.std.proofs.lemmas.Bool.{false≢true, eq-eqb, ltb-true}
use Rattle.std.proofs.Math.Nat.{mul_assoc}
use Rattle.std.specs.Prelude.{nat_eq, nat_lt, is_some, is_none}
use Rattle.std.specs.List.{AllByRecursion, list_any, list_all}
use Rattle.std.specs.Option.{option_to_list}
use Rattle.arr_view.specs.Strided.{Strided}
use Rattle.arr_view.specs.Views.{elements, positions, has, overlap, identical, repeated, same_lists, is_view}
use Rattle.arr_num.specs.Kinds.{Kind, Binary, Unary, Counting, Reduction, Scan, Ending, Printing, kind, walks, folds, is_reduction}
use Rattle.arr_ops.specs.declared.op.Op.{Op}
use Rattle.arr_ops.specs.declared.op.Operand.{Operand}
use Rattle.arr_ops.specs.declared.op.Operand.TheVariants.{Array, Number}
use Rattle.arr_ops.specs.Ops.{outputs, inputs, views, view_of, walked, serial, fusible, crosses, same_walk, is_free, some_pair}
use Rattle.arr_ops.specs.Memory.{out_lengths, lengths_of, or_zero}
use Rattle.arr_ops.specs.Formed.{same_elem, same_shape, along_axis, well_formed, operands_kept, elementwise, plain, is_array, dropped_axis}
use Rattle.arr_ops.proofs.Pairs.{Pairs, All_weaker}
use Rattle.arr_ops.proofs.Tests.{both_left, both_right, same_from_test}
use Rattle.arr_ops.proofs.Writes.{or_left, or_right}
use Rattle.arr_ops.proofs.Lengths.{length-elements}
use Rattle.arr_ops.proofs.Spots.{all_left, all_right, all_two, Plain, plain_at, operands_of, views_of, strides_of, by_output, none_from}
use Rattle.arr_strips.specs.Columns.{place_at, filled, fold_outs, count}
use Rattle.arr_strips.specs.Blocks.{first_shape, block_shape}
use Rattle.arr_strips.proofs.Values.{zips, Columnar, Folding, zip_columnar, scan_columnar, folding}
use Rattle.arr_strips.proofs.Eager.{Meets, Clear, outs_filled, outs_folded}
use Rattle.arr_strips.proofs.Strips.{Once}
use Rattle.arr_strips.proofs.Sames.{untrue, or_true, same_elements, none_of, none_if, all_append, turn}

-- ---- three sorts

pub record Showing (op : Op) (v : Strided) : Type 0 where
  pub kind_is : kind op.code ≡ Printing
  pub first_is : op.first ≡ Some (Array v)
  pub no_out : op.out ≡ None
  pub no_second : op.second ≡ None
  pub no_free : op.frees ≡ None

pub record Freeing (op : Op) : Type 0 where
  pub kind_is : kind op.code ≡ Ending
  pub no_out : op.out ≡ None
  pub no_first : op.first ≡ None
  pub no_second : op.second ≡ None
  pub no_slot : op.slot ≡ None

-- what fills a column
pub record Filling (op : Op) : Type 0 where
  pub walks_not : walks (kind op.code) ≡ false
  pub not_fold : is_reduction op.code ≡ false
  pub columns : (n : ℕ) → positions (out_lengths op.out) ≡ n → Columnar n op

-- a reduction of v into o
pub record Reducing (op : Op) (o v : Strided) : Type 0 where
  pub kind_is : kind op.code ≡ Reduction
  pub out : op.out ≡ Some o
  pub first_is : op.first ≡ Some (Array v)
  pub no_second : op.second ≡ None
  pub no_slot : op.slot ≡ None
  pub no_free : op.frees ≡ None
  pub inside : or_zero op.axis < length (lengths_of op.first)
  pub size : positions (take (or_zero op.axis) (lengths_of op.first)) * positions (drop (suc (or_zero op.axis)) (lengths_of op.first)) ≡ count op
  pub folding_at : (n : ℕ) → Folding n op

positions-append : (xs ys : List ℕ) → positions (xs ++ ys) ≡ positions xs * positions ys
positions-append [] ys = omega arith
positions-append (x ∷ xs) ys = ap (λ k. x * k) (positions-append xs ys) ∙ sym (mul_assoc x (positions xs) (positions ys))

positions-dropped : (lengths : List ℕ) (axis : ℕ) → axis < length lengths → positions (take axis lengths) * positions (drop (suc axis) lengths) ≡ positions (dropped_axis axis lengths)
positions-dropped [] axis l = absurd (omega arith)
positions-dropped (n ∷ []) zero l = refl
positions-dropped (n ∷ []) (suc axis) l = absurd (omega arith)
positions-dropped (n ∷ m ∷ ns) axis l = sym (positions-append (take axis (n ∷ m ∷ ns)) (drop (suc axis) (n ∷ m ∷ ns)))

array_at : {G : Type 0} (o : Option Operand) → is_array o ≡ true → ((v : Strided) → o ≡ Some (Array v) → G) → G
array_at None h f = absurd (false≢true h)
array_at (Some (Number z)) h f = absurd (false≢true h)
array_at (Some (Array v)) h f = f v refl

zips_not : (k : Kind) → zips k ≡ true → walks k ≡ false
zips_not Binary z = refl
zips_not Unary z = refl
zips_not Counting z = refl
zips_not _ z = absurd (false≢true z)

unfolds : (k : Kind) → walks k ≡ false → folds k ≡ false
unfolds Binary e = refl
unfolds Unary e = refl
unfolds Counting e = refl
unfolds Reduction e = absurd (false≢true (sym e))
unfolds Scan e = refl
unfolds Ending e = refl
unfolds Printing e = refl

option_at : {X G : Type 0} (o : Option X) → is_some o ≡ true → ((x : X) → o ≡ Some x → G) → G
option_at None h f = absurd (false≢true h)
option_at (Some x) h f = f x refl

pub sorts : {G : Type 0} (op : Op) → well_formed op ≡ true → ((o : Strided) → Filling op → Plain op o → G) → ((v : Strided) → Showing op v → G) → (Freeing op → G) → ((o v : Strided) → Reducing op o v → G) → G
sorts {G = G} op well a b c d = at (kind op.code) refl (operands_of op well)
  where
    computing : zips (kind op.code) ≡ true → elementwise op ≡ true → G
    computing z e =
        by_output (λ _. G) op (λ o out. a o (record { walks_not = zips_not (kind op.code) z; not_fold = unfolds (kind op.code) (zips_not (kind op.code) z); columns = λ n size. zip_columnar n op z size }) (plain_at op o out well e)) (both_left (is_some op.out) _ (both_right (plain op) _ e))

    scanning : kind op.code ≡ Scan → along_axis op (λ axis lengths. lengths) ≡ true → G
    scanning e h =
        let h1 = both_right (is_some op.out) _ h in
        let h2 = both_right (is_array op.first) _ h1 in
        let h3 = both_right (is_none op.second) _ h2 in
        let h4 = both_right (is_none op.slot) _ h3 in
        let h5 = both_right (is_none op.frees) _ h4 in
        let h6 = both_right (same_elem op.to op.from) _ h5 in
        let no_second : op.second ≡ None = none_from op.second (both_left (is_none op.second) _ h2) in
        let no_slot : op.slot ≡ None = none_from op.slot (both_left (is_none op.slot) _ h3) in
        let no_free : op.frees ≡ None = none_from op.frees (both_left (is_none op.frees) _ h4) in
        by_output (λ _. G) op
        (λ o out. array_at op.first (both_left (is_array op.first) _ h1) (λ v first. option_at op.axis (both_left (is_some op.axis) _ h6) (λ axis ax.
        let ins : inputs op ≡ v ∷ [] = ap₂ (λ x y. view_of x ++ view_of y) first no_second in
        let test : Strided → ℕ → Bool = λ (v : Strided) axis. nat_lt axis (length v.lengths) && same_shape v.lengths (outputs op) in
        let all : (nat_lt axis (length v.lengths) && same_shape v.lengths (option_to_list (Some o))) ≡ true =
        both_left _ true (ap₂ (λ x (vs : List Strided). list_all (λ (u : Strided). nat_lt axis (length u.lengths) && same_shape u.lengths (option_to_list x)) vs) (sym out) (sym ins)
        ∙ both_left _ true (ap (λ x. list_all (λ axis. list_all (λ (u : Strided). nat_lt axis (length u.lengths) && same_shape u.lengths (outputs op)) (inputs op)) (option_to_list x)) (sym ax)
        ∙ both_right (is_some op.axis) _ h6)) in
        let inside : axis < length v.lengths = ltb-true axis (length v.lengths) (both_left (nat_lt axis (length v.lengths)) _ all) in
        let shape : o.lengths ≡ v.lengths = same_from_test o.lengths v.lengths (both_left (same_lists o.lengths v.lengths) true (both_right (nat_lt axis (length v.lengths)) _ all)) in
        let seen : AllByRecursion (λ u. is_view u ≡ true) (inputs op) = all_right (λ u. is_view u ≡ true) (outputs op) (inputs op) (views_of op well) in
        let here : is_view v ≡ true = (subst (λ (vs : List Strided). AllByRecursion (λ u. is_view u ≡ true) vs) ins seen).0 in
        a o
        (record {
          walks_not = ap walks e;
          not_fold = ap folds e;
          columns = λ n size. scan_columnar n op v axis e first ax inside (ap positions (sym shape) ∙ ap (λ x. positions (out_lengths x)) (sym out) ∙ size) size;
        })
        (record {
          out = out;
          no_slot = no_slot;
          no_free = no_free;
          shapes = subst (λ (vs : List Strided). AllByRecursion (λ (u : Strided). u.lengths ≡ o.lengths) vs) (sym ins) (sym shape, tt);
          sizes = subst (λ (vs : List Strided). AllByRecursion (λ (u : Strided). length (elements u) ≡ positions o.lengths) vs) (sym ins) (length-elements v (strides_of v here) ∙ ap positions (sym shape), tt);
        })))) (both_left (is_some op.out) _ h)

    reducing : kind op.code ≡ Reduction → along_axis op dropped_axis ≡ true → G
    reducing e h =
        let h1 = both_right (is_some op.out) _ h in
        let h2 = both_right (is_array op.first) _ h1 in
        let h3 = both_right (is_none op.second) _ h2 in
        let h4 = both_right (is_none op.slot) _ h3 in
        let h5 = both_right (is_none op.frees) _ h4 in
        let h6 = both_right (same_elem op.to op.from) _ h5 in
        let no_second : op.second ≡ None = none_from op.second (both_left (is_none op.second) _ h2) in
        by_output (λ _. G) op
        (λ o out. array_at op.first (both_left (is_array op.first) _ h1) (λ v first. option_at op.axis (both_left (is_some op.axis) _ h6) (λ axis ax.
        let ins : inputs op ≡ v ∷ [] = ap₂ (λ x y. view_of x ++ view_of y) first no_second in
        let all : (nat_lt axis (length v.lengths) && same_shape (dropped_axis axis v.lengths) (option_to_list (Some o))) ≡ true =
        both_left _ true (ap₂ (λ x (vs : List Strided). list_all (λ (u : Strided). nat_lt axis (length u.lengths) && same_shape (dropped_axis axis u.lengths) (option_to_list x)) vs) (sym out) (sym ins)
        ∙ both_left _ true (ap (λ x. list_all (λ axis. list_all (λ (u : Strided). nat_lt axis (length u.lengths) && same_shape (dropped_axis axis u.lengths) (outputs op)) (inputs op)) (option_to_list x)) (sym ax)
        ∙ both_right (is_some op.axis) _ h6)) in
        let inside : axis < length v.lengths = ltb-true axis (length v.lengths) (both_left (nat_lt axis (length v.lengths)) _ all) in
        let shape : o.lengths ≡ dropped_axis axis v.lengths =
        same_from_test o.lengths (dropped_axis axis v.lengths) (both_left (same_lists o.lengths (dropped_axis axis v.lengths)) true (both_right (nat_lt axis (length v.lengths)) _ all)) in
        let size : positions (take (or_zero op.axis) (lengths_of op.first)) * positions (drop (suc (or_zero op.axis)) (lengths_of op.first)) ≡ count op =
        ap₂ (λ l x. positions (take x l) * positions (drop (suc x) l)) (ap lengths_of first) (ap or_zero ax)
        ∙ positions-dropped v.lengths axis inside ∙ ap positions (sym shape) ∙ ap (λ x. positions (out_lengths x)) (sym out) in
        d o v
        (record {
          kind_is = e;
          out = out;
          first_is = first;
          no_second = no_second;
          no_slot = none_from op.slot (both_left (is_none op.slot) _ h3);
          no_free = none_from op.frees (both_left (is_none op.frees) _ h4);
          inside = subst (λ (l : List ℕ). or_zero op.axis < length l) (sym (ap lengths_of first)) (subst (λ x. x < length v.lengths) (sym (ap or_zero ax)) inside);
          size = size;
          folding_at = λ n. folding n op v e first size;
        })))) (both_left (is_some op.out) _ h)

    at : (k : Kind) → kind op.code ≡ k → operands_kept k op ≡ true → G
    at Binary e h = computing (ap zips e) (both_left (elementwise op) _ h)
    at Unary e h = computing (ap zips e) (both_left (elementwise op) _ h)
    at Counting e h = computing (ap zips e) (both_left (elementwise op) _ h)
    at Reduction e h = reducing e h
    at Scan e h = scanning e h
    at Ending e h =
        let h1 = both_right (is_some op.frees) _ h in
        let h2 = both_right (is_none op.out) _ h1 in
        let h3 = both_right (is_none op.first) _ h2 in
        let h4 = both_right (is_none op.second) _ h3 in
        let h5 = both_right (is_none op.axis) _ h4 in
        c (record {
          kind_is = e;
          no_out = none_from op.out (both_left (is_none op.out) _ h1);
          no_first = none_from op.first (both_left (is_none op.first) _ h2);
          no_second = none_from op.second (both_left (is_none op.second) _ h3);
          no_slot = none_from op.slot (both_left (is_none op.slot) _ h5);
        })
    at Printing e h =
        let h1 = both_right (is_some op.slot) _ h in
        let h2 = both_right (is_array op.first) _ h1 in
        let h3 = both_right (is_none op.out) _ h2 in
        let h4 = both_right (is_none op.second) _ h3 in
        let h5 = both_right (is_none op.axis) _ h4 in
        array_at op.first (both_left (is_array op.first) _ h1)
        (λ v first. b v (record {
          kind_is = e;
          first_is = first;
          no_out = none_from op.out (both_left (is_none op.out) _ h2);
          no_second = none_from op.second (both_left (is_none op.second) _ h3);
          no_free = none_from op.frees (both_left (is_none op.frees) _ h5);
        }))

-- ---- lists of an operation

pub outs_some : (P : Strided → Type 0) (op : Op) (o : Strided) → op.out ≡ Some o → P o → AllByRecursion P (outputs op)
outs_some P op o e p = subst (λ (x : Option Strided). AllByRecursion P (option_to_list x)) (sym e) (p, tt)

pub outs_none : (P : Strided → Type 0) (op : Op) → op.out ≡ None → AllByRecursion P (outputs op)
outs_none P op e = subst (λ (x : Option Strided). AllByRecursion P (option_to_list x)) (sym e) tt

pub ins_one : (P : Strided → Type 0) (op : Op) (v : Strided) → Showing op v → P v → AllByRecursion P (inputs op)
ins_one P op v s p = subst (λ (vs : List Strided). AllByRecursion P vs) (sym (ap₂ (λ x y. view_of x ++ view_of y) s.first_is s.no_second)) (p, tt)

pub ins_none : (P : Strided → Type 0) (op : Op) → Freeing op → AllByRecursion P (inputs op)
ins_none P op s = subst (λ (vs : List Strided). AllByRecursion P vs) (sym (ap₂ (λ x y. view_of x ++ view_of y) s.no_first s.no_second)) tt

-- its outputs by sort

pub column_some : (P : Strided → Type 0) (op : Op) (o : Strided) → is_reduction op.code ≡ false → op.out ≡ Some o → P o → AllByRecursion P (filled op)
column_some P op o z e p = subst (λ (x : Option Strided). AllByRecursion P (option_to_list x)) (sym (ap (λ t. cond t None op.out) z ∙ e)) (p, tt)

pub column_not : (P : Strided → Type 0) (op : Op) → is_reduction op.code ≡ true → AllByRecursion P (filled op)
column_not P op z = subst (λ (x : Option Strided). AllByRecursion P (option_to_list x)) (sym (ap (λ t. cond t None op.out) z)) tt

pub fold_some : (P : Strided → Type 0) (op : Op) (o : Strided) → is_reduction op.code ≡ true → op.out ≡ Some o → P o → AllByRecursion P (fold_outs op)
fold_some P op o z e p = subst (λ (x : Option Strided). AllByRecursion P (option_to_list x)) (sym (ap (λ t. cond t op.out None) z ∙ e)) (p, tt)

pub fold_not : (P : Strided → Type 0) (op : Op) → is_reduction op.code ≡ false → AllByRecursion P (fold_outs op)
fold_not P op z = subst (λ (x : Option Strided). AllByRecursion P (option_to_list x)) (sym (ap (λ t. cond t op.out None) z)) tt

pub column_none : (P : Strided → Type 0) (op : Op) → op.out ≡ None → AllByRecursion P (filled op)
column_none P op e = outs_filled P op (outs_none P op e)

pub fold_none : (P : Strided → Type 0) (op : Op) → op.out ≡ None → AllByRecursion P (fold_outs op)
fold_none P op e = outs_folded P op (outs_none P op e)

pub ins_folded : (P : Strided → Type 0) (op : Op) (o v : Strided) → Reducing op o v → P v → AllByRecursion P (inputs op)
ins_folded P op o v s p = subst (λ (vs : List Strided). AllByRecursion P vs) (sym (ap₂ (λ x y. view_of x ++ view_of y) s.first_is s.no_second)) (p, tt)

pub reducing_is : (op : Op) (o v : Strided) → Reducing op o v → is_reduction op.code ≡ true
reducing_is op o v s = ap folds s.kind_is

-- ---- the shape that it walks

pub walked_plain : (op : Op) (o : Strided) → Filling op → op.out ≡ Some o → walked op ≡ o.lengths ∷ []
walked_plain op o z e = ap₂ (λ k x. map (λ (v : Strided). v.lengths) (cond k (inputs op) (option_to_list x))) z.walks_not e

pub walked_showing : (op : Op) (v : Strided) → Showing op v → walked op ≡ v.lengths ∷ []
walked_showing op v s =
    ap (λ k. map (λ (u : Strided). u.lengths) (cond (walks k) (inputs op) (outputs op))) s.kind_is
    ∙ ap₂ (λ x y. map (λ (u : Strided). u.lengths) (view_of x ++ view_of y)) s.first_is s.no_second

pub walked_reducing : (op : Op) (o v : Strided) → Reducing op o v → walked op ≡ v.lengths ∷ []
walked_reducing op o v s =
    ap (λ k. map (λ (u : Strided). u.lengths) (cond (walks k) (inputs op) (outputs op))) s.kind_is
    ∙ ap₂ (λ x y. map (λ (u : Strided). u.lengths) (view_of x ++ view_of y)) s.first_is s.no_second

pub walked_freeing : (op : Op) → Freeing op → walked op ≡ []
walked_freeing op s = ap₂ (λ k x. map (λ (v : Strided). v.lengths) (cond (walks k) (inputs op) (option_to_list x))) s.kind_is s.no_out

unfreeing : (op : Op) → op.frees ≡ None → is_free op ≡ false
unfreeing op e = ap (λ x. list_any (λ _. true) (option_to_list x)) e

pub record Fused (f g : Op) : Type 0 where
  pub shapes : same_walk (walked f) (walked g) ≡ true
  pub forth : crosses f g ≡ false
  pub back : crosses g f ≡ false

pub fused_of : (f g : Op) → fusible f g ≡ true → f.frees ≡ None → g.frees ≡ None → Fused f g
fused_of f g h a b =
    let rest : Bool = not (serial f) && (not (serial g) && (same_walk (walked f) (walked g) && (not (crosses f g) && not (crosses g f)))) in
    let r : rest ≡ true = ap₂ (λ x y. (x || y) || rest) (sym (unfreeing f a)) (sym (unfreeing g b)) ∙ h in
    let r2 = both_right (not (serial g)) _ (both_right (not (serial f)) _ r) in
    let r3 = both_right (same_walk (walked f) (walked g)) _ r2 in
    record { shapes = both_left (same_walk (walked f) (walked g)) _ r2; forth = untrue _ (both_left (not (crosses f g)) _ r3); back = untrue _ (both_right (not (crosses f g)) _ r3) }

abbrev pub AtShape : List ℕ → Op → Type 0
AtShape shape op = AllByRecursion (λ s. s ≡ shape) (walked op)

-- an operation that walks
record Walker (op : Op) : Type 0 where
  shape : List ℕ
  is : walked op ≡ shape ∷ []
  no_free : op.frees ≡ None

walkers : {G : Type 0} (op : Op) → well_formed op ≡ true → (Walker op → G) → (walked op ≡ [] → G) → G
walkers op well a b =
    sorts op well (λ o z p. a (record { shape = o.lengths; is = walked_plain op o z p.out; no_free = p.no_free }))
    (λ v s. a (record { shape = v.lengths; is = walked_showing op v s; no_free = s.no_free })) (λ s. b (walked_freeing op s))
    (λ o v s. a (record { shape = v.lengths; is = walked_reducing op o v s; no_free = s.no_free }))

at_none : (shape : List ℕ) (op : Op) → walked op ≡ [] → AtShape shape op
at_none shape op e = subst (λ (ss : List (List ℕ)). AllByRecursion (λ s. s ≡ shape) ss) (sym e) tt

at_one : (shape : List ℕ) (op : Op) (s : List ℕ) → walked op ≡ s ∷ [] → s ≡ shape → AtShape shape op
at_one shape op s e d = subst (λ (ss : List (List ℕ)). AllByRecursion (λ s. s ≡ shape) ss) (sym e) (d, tt)

pub one_shape : (ops : List Op) → Pairs (λ f g. fusible f g ≡ true) ops → AllByRecursion (λ f. well_formed f ≡ true) ops
    → AllByRecursion (AtShape (block_shape ops)) ops
one_shape [] p w = tt
one_shape (op ∷ ops) p w =
    walkers op w.0
    (λ a.
    let is : block_shape (op ∷ ops) ≡ a.shape = ap (λ ss. first_shape ss (block_shape ops)) a.is in (
      at_one (block_shape (op ∷ ops)) op a.shape a.is (sym is),
      others a is ops p.0 w.1,
    ))
    (λ e.
    let is : block_shape (op ∷ ops) ≡ block_shape ops = ap (λ ss. first_shape ss (block_shape ops)) e in (
      at_none (block_shape (op ∷ ops)) op e,
      subst (λ s. AllByRecursion (AtShape s) ops) (sym is) (one_shape ops p.1 w.1),
    ))
  where
    others : (a : Walker op) → block_shape (op ∷ ops) ≡ a.shape → (gs : List Op) → AllByRecursion (λ g. fusible op g ≡ true) gs → AllByRecursion (λ g. well_formed g ≡ true) gs
        → AllByRecursion (AtShape (block_shape (op ∷ ops))) gs
    others a is [] q x = tt
    others a is (g ∷ gs) q x = (
      walkers g x.0
          (λ b.
          let s : Fused op g = fused_of op g q.0 a.no_free b.no_free in
          let e : a.shape ≡ b.shape = same_from_test a.shape b.shape (ap₂ same_walk (sym a.is) (sym b.is) ∙ s.shapes) in
          at_one (block_shape (op ∷ ops)) g b.shape b.is (sym e ∙ sym is))
          (λ e. at_none (block_shape (op ∷ ops)) g e),
      others a is gs q.1 x.1,
    )

-- ---- where views meet

pub has_at : (xs : List ℕ) (i x : ℕ) → i < length xs → get_or xs i 0 ≡ x → has xs x ≡ true
has_at [] i x l e = absurd (omega arith)
has_at (y ∷ xs) zero x l e = ap (λ t. t || has xs x) (eq-eqb x y (sym e))
has_at (y ∷ xs) (suc i) x l e = or_true (nat_eq x y) (has xs x) (has_at xs i x (omega arith) e)

pub any_at : (p : ℕ → Bool) (xs : List ℕ) (i : ℕ) → i < length xs → p (get_or xs i 0) ≡ true → list_any p xs ≡ true
any_at p [] i l e = absurd (omega arith)
any_at p (x ∷ xs) zero l e = ap (λ t. t || list_any p xs) e
any_at p (x ∷ xs) (suc i) l e = or_true (p x) (list_any p xs) (any_at p xs i (omega arith) e)

pub once_of : (xs : List ℕ) → repeated xs ≡ false → (i j : ℕ) → i < length xs → j < length xs → get_or xs i 0 ≡ get_or xs j 0 → i ≡ j
once_of [] h i j a b e = absurd (omega arith)
once_of (x ∷ xs) h zero zero a b e = refl
once_of (x ∷ xs) h zero (suc j) a b e = absurd (false≢true (sym (or_left (has xs x) (repeated xs) h) ∙ has_at xs j x (omega arith) (sym e)))
once_of (x ∷ xs) h (suc i) zero a b e = absurd (false≢true (sym (or_left (has xs x) (repeated xs) h) ∙ has_at xs i x (omega arith) e))
once_of (x ∷ xs) h (suc i) (suc j) a b e = ap suc (once_of xs (or_right (has xs x) (repeated xs) h) i j (omega arith) (omega arith) e)

module _ (n : ℕ) where
  pub meets_from : (o v : Strided) (red : Bool) → Once n o → length (elements o) ≡ n → length (elements v) ≡ n → (overlap o v && (red || not (identical o v))) ≡ false → Meets n o v
  meets_from o v red once a b h i j il jl base at =
      let over : overlap o v ≡ true =
      ap₂ (λ x y. x && y) (eq-eqb o.base v.base base)
      (any_at (has (elements v)) (elements o) i (omega arith) (has_at (elements v) j (place_at o i) (omega arith) (sym at))) in
      let rest : (red || not (identical o v)) ≡ false = ap (λ t. t && (red || not (identical o v))) (sym over) ∙ h in
      let same : identical o v ≡ true = turned (identical o v) (or_right red (not (identical o v)) rest) in
      (once i j il jl (at ∙ ap (λ es. get_or es j 0) (sym (same_elements o v same))), same)
    where
      turned : (z : Bool) → not z ≡ false → z ≡ true
      turned true e = refl
      turned false e = absurd (false≢true (sym e))

  abbrev pub Longs : List Strided → Type 0
  Longs vs = AllByRecursion (λ (v : Strided). length (elements v) ≡ n) vs

  -- what the output of f is to a view of n positions
  pub record Heeds (f : Op) (v : Strided) : Type 0 where
    pub meets : AllByRecursion (λ o. Meets n o v) (filled f)
    pub clear : AllByRecursion (λ o. Clear n o v) (fold_outs f)

  pub clear_from : (o v : Strided) → length (elements v) ≡ n → overlap o v ≡ false → Clear n o v
  clear_from o v b h i j il jl base at =
      false≢true (sym h
      ∙ ap₂ (λ x y. x && y) (eq-eqb o.base v.base base)
      (any_at (has (elements v)) (elements o) i il (has_at (elements v) j (place_at o i) (omega arith) (sym at))))

  -- from the test that keeps an operation apart from a view
  pub heeds_from : (f : Op) (v : Strided) → AllByRecursion (Once n) (filled f) → Longs (filled f) → length (elements v) ≡ n
      → AllByRecursion (λ o. (overlap o v && (is_reduction f.code || not (identical o v))) ≡ false) (outputs f) → Heeds f v
  heeds_from f v once a b h =
      record {
        meets =
            all_two (λ (o : Strided). Once n o × (length (elements o) ≡ n)) (λ o. (overlap o v && (is_reduction f.code || not (identical o v))) ≡ false) (λ o. Meets n o v)
            (λ o x t. meets_from o v (is_reduction f.code) x.0 x.1 b t) (filled f)
            (all_two (Once n) (λ (o : Strided). length (elements o) ≡ n) (λ (o : Strided). Once n o × (length (elements o) ≡ n)) (λ o x y. (x, y)) (filled f) once a)
            (outs_filled (λ o. (overlap o v && (is_reduction f.code || not (identical o v))) ≡ false) f h);
        clear = at (is_reduction f.code) h;
      }
    where
      unmet : (x : Bool) → (x && true) ≡ false → x ≡ false
      unmet true e = e
      unmet false e = refl

      at : (z : Bool) → AllByRecursion (λ o. (overlap o v && (z || not (identical o v))) ≡ false) (outputs f) → AllByRecursion (λ o. Clear n o v) (option_to_list (cond z f.out None))
      at true k = All_weaker (λ o. (overlap o v && true) ≡ false) (λ o. Clear n o v) (λ o e. clear_from o v b (unmet (overlap o v) e)) (outputs f) k
      at false k = tt

  abbrev pub AllHeed : Op → List Strided → Type 0
  AllHeed f vs = AllByRecursion (Heeds f) vs

  pub heeds_all : (f : Op) (vs : List Strided) → AllByRecursion (Once n) (filled f) → Longs (filled f) → Longs vs
      → some_pair (λ o v. overlap o v && (is_reduction f.code || not (identical o v))) (outputs f) vs ≡ false → AllHeed f vs
  heeds_all f vs once a b h =
      all_two (λ (v : Strided). length (elements v) ≡ n) (λ v. AllByRecursion (λ o. (overlap o v && (is_reduction f.code || not (identical o v))) ≡ false) (outputs f)) (Heeds f)
      (λ v l t. heeds_from f v once a l t) vs b
      (turn (λ o v. (overlap o v && (is_reduction f.code || not (identical o v))) ≡ false) (outputs f) vs
      (All_weaker (λ o. list_any (λ v. overlap o v && (is_reduction f.code || not (identical o v))) vs ≡ false)
      (λ o. AllByRecursion (λ v. (overlap o v && (is_reduction f.code || not (identical o v))) ≡ false) vs)
      (λ o e. none_of (λ v. overlap o v && (is_reduction f.code || not (identical o v))) vs e) (outputs f)
      (none_of (λ o. list_any (λ v. overlap o v && (is_reduction f.code || not (identical o v))) vs) (outputs f) h)))

-- the views of an operation that have the positions of the walk
abbrev pub walkings : Op → List Strided
walkings op = filled op ++ inputs op

-- of a list of all views, those
pub walkings_of : (P : Strided → Type 0) (op : Op) → AllByRecursion P (views op) → AllByRecursion P (walkings op)
walkings_of P op h = all_append P (filled op) (inputs op) (outs_filled P op (all_left P (outputs op) (inputs op) h)) (all_right P (outputs op) (inputs op) h)

pub no_pair : (test : Strided → Strided → Bool) (op : Op) (os : List Strided) → some_pair test os (views op) ≡ false → some_pair test os (walkings op) ≡ false
no_pair test op [] h = refl
no_pair test op (o ∷ os) h =
    ap₂ (λ x y. x || y)
    (none_if (test o) (walkings op) (walkings_of (λ v. test o v ≡ false) op (none_of (test o) (views op) (or_left (list_any (test o) (views op)) _ h))))
    (no_pair test op os (or_right (list_any (test o) (views op)) _ h))
