-- A script has at least as many tokens as operations that its trees can record.
use Rattle.std.proofs.Common.{ℕ, ◌+◌, ◌≤◌, ℤ, List, Bool, Option, length, arith}
use Rattle.arr_tree.specs.declared.refusal.Place.{Place}
use Rattle.arr_tree.specs.declared.tree.Code16.TheVariants as code
use Rattle.arr_tree.specs.declared.tree.Type4.{Type4}
use Rattle.arr_tree.specs.declared.tree.Cut.{Cut}
use Rattle.arr_tree.specs.declared.tree.Expr.{Expr}
use Rattle.arr_tree.specs.declared.tree.Statement.{Statement}
use Rattle.arr_tree.specs.Trees.{literal_at, name_of, word_at, lengths_at, steps_at}
use Rattle.arr_tree.specs.Weights.{weight, form_weight, script_weight}
use Rattle.arr_tree.proofs.Weighed.{weighs_literal, weighs_name, weighs_unary, weighs_binary, weighs_power, weighs_fold, weighs_cast, weighs_range, weighs_full, weighs_index, weighs_broadcast, weighs_transpose, weighs_reshape, weighs_strided}
use Rattle.arr_tokens.specs.declared.token.Item.{Item}
use Rattle.arr_syntax.specs.declared.state.Mode.{Mode}
use Rattle.arr_tokens.specs.Tokens.{tokens}
use Rattle.arr_syntax.specs.Grammar as grammar
use Rattle.arr_syntax.specs.Grammar.{Literal, Listed, Bracketed, Length, Stride, Bound, Step, Slice, RangeType, Argument, Ends, Level, Placed, Primary, ViewCall, Rest, Target, OneStatement, Script, Shape, Strides, Index}
use Rattle.arr_tokens.proofs.Cutting.{tokens_short}

-- ---- literals and lists take tokens

literal_short : {a c : List Item} {at : Place} {negative : Bool} {n : ℕ} → Literal a at negative n c → length c ≤ length a
literal_short (grammar.plain e) = omega arith
literal_short (grammar.negative e f) = omega arith

module _ (A : Type 0) (X : List Item → A → List Item → Type 0) (each : (a c : List Item) (x : A) → X a x c → length c ≤ length a) where
  listed_short : {a c : List Item} {xs : List A} → Listed A X a xs c → length c ≤ length a
  listed_short (grammar.last x e) = let h = each _ _ _ x in omega arith
  listed_short (grammar.and_more x e l) = let h = each _ _ _ x in let k = listed_short l in omega arith

  bracketed_short : {a c : List Item} {at : Place} {xs : List A} → Bracketed A X a at xs c → length c ≤ length a
  bracketed_short (grammar.bracketed e l) = let k = listed_short l in omega arith

length_short : {a c : List Item} {n : ℕ} → Length a n c → length c ≤ length a
length_short (grammar.one_length e) = omega arith

stride_short : {a c : List Item} {n : ℤ} → Stride a n c → length c ≤ length a
stride_short (grammar.one_stride x) = literal_short x

bound_short : {a c : List Item} {o : Option ℕ} → Bound a o c → length c ≤ length a
bound_short grammar.no_bound = omega arith
bound_short (grammar.one_bound e) = omega arith

step_short : {a c : List Item} {o : Option ℤ} → Step a o c → length c ≤ length a
step_short grammar.no_step = omega arith
step_short (grammar.one_step x) = literal_short x

slice_short : {a c : List Item} {x : Cut} → Slice a x c → length c ≤ length a
slice_short (grammar.short x e y) = let h = bound_short x in let k = bound_short y in omega arith
slice_short (grammar.long x e y f z) = let h = bound_short x in let k = bound_short y in let l = step_short z in omega arith

shape_short : {a c : List Item} {at : Place} {xs : List ℕ} → Shape a at xs c → length c ≤ length a
shape_short x = bracketed_short ℕ Length (λ a c n y. length_short y) x

strides_short : {a c : List Item} {at : Place} {xs : List ℤ} → Strides a at xs c → length c ≤ length a
strides_short x = bracketed_short ℤ Stride (λ a c n y. stride_short y) x

index_short : {a c : List Item} {at : Place} {xs : List Cut} → Index a at xs c → length c ≤ length a
index_short x = bracketed_short Cut Slice (λ a c n y. slice_short y) x

range_type_short : {a c : List Item} {to : Type4} → RangeType a to c → length c ≤ length a
range_type_short grammar.no_type = omega arith
range_type_short (grammar.one_type e f) = omega arith

-- ---- expressions

mutual
  primary_short : {a c : List Item} {t : Expr} → Primary a t c → weight t + length c ≤ length a
  primary_short (grammar.literal {at = at} {negative = negative} {n = n} x) = let h = literal_short x in let w = weighs_literal at negative n in omega arith
  primary_short (grammar.name {i = i} {x = x} e) = let w = weighs_name i.at (word_at i.at x) in omega arith
  primary_short (grammar.bracket e x f) = let h = level_short x in omega arith
  primary_short (grammar.range {i = i} {k = k} {n = n} {to = to} e f g x h) = let l = range_type_short x in let w = weighs_range i.at n k.at to in omega arith
  primary_short (grammar.full {i = i} {at = at} {literal_is_at = there} {shape = shape} {negative = negative} {n = n} {to = to} e f x g y h k l) =
      let p = shape_short x in
      let q = literal_short y in
      let v = weighs_literal there negative n in
      let w = weighs_full i.at (lengths_at at shape) (literal_at there negative n) to in
      omega arith
  primary_short (grammar.fold {i = i} {l = l} {fold_code = c} {t = t} {n = n} e f x g h k) = let p = level_short x in let w = weighs_fold i.at c t n l.at in omega arith
  primary_short (grammar.absolute {i = i} {t = t} e f x g) = let p = level_short x in let w = weighs_unary i.at code.Absolute t in omega arith
  primary_short (grammar.pair {i = i} {pair_code = c} {t = t} {u = u} e f x g y h) = let p = level_short x in let q = level_short y in let w = weighs_binary i.at c t u in omega arith
  primary_short (grammar.cast {i = i} {to = to} {t = t} e f x g) = let p = level_short x in let w = weighs_cast i.at to t in omega arith
  primary_short (grammar.viewed x) = view_short x

  argument_short : {m : Mode} {a c : List Item} {t : Expr} → Argument m a t c → weight t + length c ≤ length a
  argument_short (grammar.value x) = level_short x
  argument_short (grammar.place x) = placed_short x

  view_short : {m : Mode} {a c : List Item} {t : Expr} → ViewCall m a t c → weight t + length c ≤ length a
  view_short (grammar.broadcast {i = i} {t = t} {at = at} {shape = shape} e f x g y h) =
      let p = argument_short x in
      let q = shape_short y in
      let w = weighs_broadcast i.at t (lengths_at at shape) in
      omega arith
  view_short (grammar.transpose {i = i} {t = t} e f x g) = let p = argument_short x in let w = weighs_transpose i.at t in omega arith
  view_short (grammar.reshape {i = i} {t = t} {at = at} {shape = shape} e f x g y h) =
      let p = argument_short x in
      let q = shape_short y in
      let w = weighs_reshape i.at t (lengths_at at shape) in
      omega arith
  view_short (grammar.strided {i = i} {t = t} {n = n} {at = at} {strides_are_at = there} {shape = shape} {strides = strides} e f x g h k y l z m) =
      let p = argument_short x in
      let q = shape_short y in
      let r = strides_short z in
      let w = weighs_strided i.at t n (lengths_at at shape) (steps_at there strides) in
      omega arith

  placed_short : {a c : List Item} {t : Expr} → Placed a t c → weight t + length c ≤ length a
  placed_short (grammar.placed_name {i = i} {x = x} e rest) = let p = rest_short rest in let w = weighs_name i.at (word_at i.at x) in omega arith
  placed_short (grammar.placed_view x rest) = let p = view_short x in let q = rest_short rest in omega arith

  level_short : {n : ℕ} {a c : List Item} {t : Expr} → Level n a t c → weight t + length c ≤ length a
  level_short (grammar.primary x) = primary_short x
  level_short (grammar.more x rest) = let p = level_short x in let q = rest_short rest in omega arith
  level_short (grammar.invert {i = i} {t = t} e x) = let p = level_short x in let w = weighs_unary i.at code.Invert t in omega arith

  rest_short : {n : ℕ} {l t : Expr} {a c : List Item} → Rest n l a t c → weight t + length c ≤ weight l + length a
  rest_short grammar.stop = omega arith
  rest_short (grammar.index {l = l} {at = at} {cuts = cuts} x rest) = let p = index_short x in let q = rest_short rest in let w = weighs_index at l cuts in omega arith
  rest_short (grammar.power {i = i} {l = l} {n = n} e f) = let w = weighs_power i.at l n in omega arith
  rest_short (grammar.operation {i = i} {c = c} {l = l} {r = r} e f x rest) = let p = level_short x in let q = rest_short rest in let w = weighs_binary i.at c l r in omega arith
  rest_short (grammar.compared {i = i} {c = c} {l = l} {r = r} e f g x) = let p = level_short x in let w = weighs_binary i.at c l r in omega arith

-- ---- statements

target_short : {a c : List Item} {t : Expr} → Target a t c → weight t + length c ≤ length a
target_short (grammar.target_name {i = i} {x = x} {at = at} {cuts = cuts} e y rest) =
    let p = index_short y in
    let q = rest_short rest in
    let v = weighs_name i.at (word_at i.at x) in
    let w = weighs_index at (name_of (word_at i.at x)) cuts in
    omega arith
target_short (grammar.target_view x rest) = let p = view_short x in let q = rest_short rest in omega arith

statement_short : {a c : List Item} {s : Statement} → OneStatement a s c → form_weight s.form + length c ≤ length a
statement_short (grammar.print e x) = let p = level_short x in omega arith
statement_short (grammar.delete e f) = omega arith
statement_short (grammar.flush e) = omega arith
statement_short (grammar.bind e f x) = let p = level_short x in omega arith
statement_short (grammar.assign x e y) = let p = target_short x in let q = level_short y in omega arith
statement_short (grammar.gather e f g h x k y l) = let p = level_short x in let q = level_short y in omega arith
statement_short (grammar.scatter e f x g y h z k) = let p = placed_short x in let q = level_short y in let r = level_short z in omega arith

mutual
  script_short : (items : List Item) (ss : List Statement) → Script items ss → script_weight ss ≤ length items
  script_short items ss (grammar.blank x) = ends_short items ss x
  script_short items ss (grammar.statement {b = b} {ss = rest} x y) = let p = statement_short x in let q = ends_short b rest y in omega arith

  ends_short : (items : List Item) (ss : List Statement) → Ends items ss → script_weight ss ≤ length items
  ends_short items ss (grammar.finish e) = omega arith
  ends_short items ss (grammar.next {a = a} {ss = rest} e x) = let p = script_short a rest x in omega arith

pub script_weighs : (text : List ℕ) (ss : List Statement) → Script (tokens text) ss → script_weight ss ≤ length text + 1
script_weighs text ss script = let p = script_short (tokens text) ss script in let q = tokens_short text in omega arith
