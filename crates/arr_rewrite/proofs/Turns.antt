-- What an operation may become, so that the list stays formed and its potential falls.
use Rattle.std.proofs.Common.{◌≡◌, ℕ, ◌+◌, ◌<◌, ℤ, List, [], ◌∷◌, ◌++◌, Bool, true, false, not, ◌&&◌, refl, ap, ap₂, sym, subst, ◌∙◌, arith, Option, Some, None}
use Rattle.std.proofs.lemmas.Bool.{false≢true}
use Rattle.std.specs.Prelude.{is_some, is_none}
use Rattle.std.specs.List.{AllByRecursion, list_all}
use Rattle.arr_num.specs.Kinds.{kind, Kind, Binary, Unary, Counting, Reduction, Scan, Ending, Printing}
use Rattle.arr_num.specs.Numbers.{in_type}
use Rattle.arr_num.specs.declared.elem.Elem.{Elem}
use Rattle.arr_num.specs.declared.elem.Elem.TheVariants.{U64}
use Rattle.arr_num.specs.declared.code.Code.{Code}
use Rattle.arr_num.specs.declared.code.Code.TheVariants.{Add, Multiply, Power, BitwiseAnd, BitwiseOr, BitwiseXor, Identity, Equal, NotEqual, Less, LessEqual, Greater, GreaterEqual}
use Rattle.arr_view.specs.Strided.{Strided}
use Rattle.arr_view.specs.Views.{same_lists}
use Rattle.arr_ops.specs.Ops.{inputs, outputs, view_of}
use Rattle.arr_ops.specs.Memory.{Memory}
use Rattle.arr_ops.specs.Costs.{total}
use Rattle.arr_ops.specs.Formed.{kind_kept, operands_kept, types_kept, numbers_kept, numbers_of, elementwise, plain, same_shape, same_elem, is_array, slot_numbers}
use Rattle.arr_ops.specs.Fits.{fits}
use Rattle.arr_ops.specs.declared.op.Op.{Op}
use Rattle.arr_ops.specs.declared.op.Operand.{Operand}
use Rattle.arr_ops.specs.declared.op.Operand.TheVariants.{Array, Number}
use Rattle.arr_ops.proofs.Pairs.{All_weaker}
use Rattle.arr_ops.proofs.Tests.{both_left, both_right, all_of, test_all}
use Rattle.arr_ops.proofs.Spots.{Formed, is_scalar, all_left, all_right}
use Rattle.arr_rewrite.specs.Rules.{changed_op, constant_op, copy_op, code_op, with_first, with_second, is_identity}
use Rattle.arr_rewrite.specs.NextRewrite.{regroups}
use Rattle.arr_rewrite.specs.NormalForm.{op_worth, maker_place, potential}
use Rattle.arr_rewrite.proofs.Parts.{all_join, turned}
use Rattle.arr_rewrite.proofs.Sources.{Reads}
use Rattle.arr_rewrite.proofs.Changed.{formed_next, fits_next, slots_same, same_itself}
use Rattle.arr_rewrite.proofs.Measure.{replaced_falls, total-append}

-- what an application leaves
pub record Follows (list next : List Op) : Type 0 where
  pub formed : Formed next
  pub slots : slot_numbers list ≡ slot_numbers next
  pub fits : (m : Memory) → fits m list ≡ true → fits m next ≡ true
  pub falls : potential next < potential list

-- op may become next
pub record Turn (front : List Op) (op : Op) (back : List Op) (next : Op) : Type 0 where
  pub code : Code
  pub from : Elem
  pub first : Option Operand
  pub second : Option Operand
  pub is : changed_op op code from first second ≡ next
  pub kept : kind_kept (changed_op op code from first second) ≡ true
  pub reads : AllByRecursion (Reads front op back from) (view_of first ++ view_of second)
  pub falls : op_worth (maker_place (front ++ op ∷ back)) (changed_op op code from first second) < op_worth (maker_place (front ++ op ∷ back)) op

pub turn_follows : (front back : List Op) (op next : Op) → Formed (front ++ op ∷ back) → Turn front op back next → Follows (front ++ op ∷ back) (front ++ next ∷ back)
turn_follows front back op next h t =
    subst (λ (o : Op). Follows (front ++ op ∷ back) (front ++ o ∷ back)) t.is
    (record {
      formed = formed_next front back op t.code t.from t.first t.second h t.kept t.reads;
      slots = slots_same front back op (changed_op op t.code t.from t.first t.second) refl;
      fits = fits_next front back op t.code t.from t.first t.second h t.kept t.reads;
      falls = replaced_falls front back op (changed_op op t.code t.from t.first t.second) (λ b. refl) t.falls;
    })

-- ---- shapes

abbrev pub Shaped : Op → Strided → Type 0
Shaped op v = AllByRecursion (λ (o : Strided). same_lists v.lengths o.lengths ≡ true) (outputs op)

pub shaped_all : (op : Op) → elementwise op ≡ true → AllByRecursion (Shaped op) (inputs op)
shaped_all op h =
    let a = both_right (is_some op.out) (list_all (λ (o : Strided). same_shape o.lengths (inputs op)) (outputs op)) (both_right (plain op) _ h) in
    turned (λ (o v : Strided). same_lists v.lengths o.lengths ≡ true) (outputs op) (inputs op)
    (All_weaker (λ (o : Strided). same_shape o.lengths (inputs op) ≡ true) (λ (o : Strided). AllByRecursion (λ (v : Strided). same_lists v.lengths o.lengths ≡ true) (inputs op))
    (λ o k. all_of (λ (v : Strided). same_lists v.lengths o.lengths) (inputs op) k) (outputs op) (all_of (λ (o : Strided). same_shape o.lengths (inputs op)) (outputs op) a))

pub elementwise_again : (op : Op) (code : Code) (from : Elem) (first second : Option Operand) → elementwise op ≡ true → AllByRecursion (Shaped op) (view_of first ++ view_of second)
    → elementwise (changed_op op code from first second) ≡ true
elementwise_again op code from first second h a =
    let new : List Strided = view_of first ++ view_of second in
    ap₂ (λ p q. p && q) (both_left (plain op) (is_some op.out && list_all (λ (o : Strided). same_shape o.lengths (inputs op)) (outputs op)) h)
    (ap₂ (λ p q. p && q) (both_left (is_some op.out) (list_all (λ (o : Strided). same_shape o.lengths (inputs op)) (outputs op)) (both_right (plain op) _ h))
    (test_all (λ (o : Strided). same_shape o.lengths (view_of first ++ view_of second)) (outputs op)
    (All_weaker (λ (o : Strided). AllByRecursion (λ (v : Strided). same_lists v.lengths o.lengths ≡ true) (view_of first ++ view_of second)) (λ (o : Strided). same_shape o.lengths (view_of first ++ view_of second) ≡ true)
    (λ o k. test_all (λ (v : Strided). same_lists v.lengths o.lengths) (view_of first ++ view_of second) k) (outputs op)
    (turned (λ (v o : Strided). same_lists v.lengths o.lengths ≡ true) (view_of first ++ view_of second) (outputs op) a))))

-- ---- the parts of the new operation go together

pub constant_kept : (op : Op) (z : ℤ) → elementwise op ≡ true → in_type op.to z ≡ true → kind_kept (constant_op op z) ≡ true
constant_kept op z h i =
    let e : elementwise (constant_op op z) ≡ true = elementwise_again op Identity op.to (Some (Number z)) None h tt in
    ap (λ a. (a && true) && (same_elem op.to op.to && ((in_type op.to z && true) && true))) e ∙ ap (λ b. b && ((in_type op.to z && true) && true)) (same_itself op.to) ∙ ap (λ c. (c && true) && true) i

pub copy_kept : (op : Op) (x : Strided) → elementwise op ≡ true → Shaped op x → kind_kept (copy_op op x) ≡ true
copy_kept op x h s = ap (λ a. (a && true) && true) (elementwise_again op Identity op.from (Some (Array x)) None h (s, tt))

three : (a b c : Bool) → a ≡ true → b ≡ true → c ≡ true → ((a && true) && (b && (true && c))) ≡ true
three a b c p q r = ap (λ k. (k && true) && (b && (true && c))) p ∙ ap (λ k. k && (true && c)) q ∙ r

pub code_kept : (op : Op) (code : Code) (x : Strided) (y : Operand) → regroups code ≡ true → elementwise (code_op op code x y) ≡ true → same_elem op.to op.from ≡ true → list_all (in_type op.from) (numbers_of (Some y)) ≡ true
    → kind_kept (code_op op code x y) ≡ true
code_kept op Add x y r e t n = three _ _ _ e t n
code_kept op Multiply x y r e t n = three _ _ _ e t n
code_kept op BitwiseAnd x y r e t n = three _ _ _ e t n
code_kept op BitwiseOr x y r e t n = three _ _ _ e t n
code_kept op BitwiseXor x y r e t n = three _ _ _ e t n
code_kept op _ x y r e t n = absurd (false≢true r)

types_first : (code : Code) (op : Op) (x : Operand) → is_identity code ≡ false → types_kept code op ≡ true → types_kept code (with_first op x) ≡ true
types_first Equal op x i h = h
types_first NotEqual op x i h = h
types_first Less op x i h = h
types_first LessEqual op x i h = h
types_first Greater op x i h = h
types_first GreaterEqual op x i h = h
types_first Identity op x i h = absurd (false≢true (sym i))
types_first _ op x i h = h

numbers_first : (code : Code) (op : Op) (z : ℤ) → in_type op.from z ≡ true → numbers_kept code op ≡ true → numbers_kept code (with_first op (Number z)) ≡ true
numbers_first Power op z i h =
    ap₂ (λ p q. p && q) (ap (λ k. k && true) i) (both_right (list_all (in_type op.from) (numbers_of op.first)) (not (is_array op.second) && list_all (in_type U64) (numbers_of op.second)) h)
numbers_first _ op z i h =
    ap₂ (λ p q. p && q) (ap (λ k. k && true) i) (both_right (list_all (in_type op.from) (numbers_of op.first)) (list_all (in_type op.from) (numbers_of op.second)) h)

operands_first : (k : Kind) (op : Op) (z : ℤ) → is_scalar k ≡ true → elementwise (with_first op (Number z)) ≡ true → operands_kept k op ≡ true → operands_kept k (with_first op (Number z)) ≡ true
operands_first Binary op z s e h = ap₂ (λ p q. p && q) e (both_right (is_some op.first) (is_some op.second) (both_right (elementwise op) (is_some op.first && is_some op.second) h))
operands_first Unary op z s e h = ap₂ (λ p q. p && q) e (both_right (is_some op.first) (is_none op.second) (both_right (elementwise op) (is_some op.first && is_none op.second) h))
operands_first _ op z s e h = absurd (false≢true s)

pub first_number_kept : (op : Op) (z : ℤ) → is_scalar (kind op.code) ≡ true → is_identity op.code ≡ false → elementwise op ≡ true → in_type op.from z ≡ true → kind_kept op ≡ true → kind_kept (with_first op (Number z)) ≡ true
first_number_kept op z s i el t h =
    let a = both_right (operands_kept (kind op.code) op) (types_kept op.code op && numbers_kept op.code op) h in
    let e : elementwise (with_first op (Number z)) ≡ true =
    elementwise_again op op.code op.from (Some (Number z)) op.second el (all_right (Shaped op) (view_of op.first) (view_of op.second) (shaped_all op el)) in
    ap₂ (λ p q. p && q) (operands_first (kind op.code) op z s e (both_left (operands_kept (kind op.code) op) (types_kept op.code op && numbers_kept op.code op) h))
    (ap₂ (λ p q. p && q) (types_first op.code op (Number z) i (both_left (types_kept op.code op) (numbers_kept op.code op) a)) (numbers_first op.code op z t (both_right (types_kept op.code op) (numbers_kept op.code op) a)))

types_second : (code : Code) (op : Op) (x : Operand) → types_kept code op ≡ true → types_kept code (with_second op x) ≡ true
types_second Equal op x h = h
types_second NotEqual op x h = h
types_second Less op x h = h
types_second LessEqual op x h = h
types_second Greater op x h = h
types_second GreaterEqual op x h = h
types_second Identity op x h = h
types_second _ op x h = h

numbers_second : (code : Code) (op : Op) (y : Strided) (z : ℤ) → op.second ≡ Some (Array y) → in_type op.from z ≡ true → numbers_kept code op ≡ true → numbers_kept code (with_second op (Number z)) ≡ true
numbers_second Power op y z e i h =
    let a = both_right (list_all (in_type op.from) (numbers_of op.first)) (not (is_array op.second) && list_all (in_type U64) (numbers_of op.second)) h in
    absurd (false≢true (ap (λ k. not (is_array k)) (sym e) ∙ both_left (not (is_array op.second)) (list_all (in_type U64) (numbers_of op.second)) a))
numbers_second _ op y z e i h =
    ap₂ (λ p q. p && q) (both_left (list_all (in_type op.from) (numbers_of op.first)) (list_all (in_type op.from) (numbers_of op.second)) h) (ap (λ k. k && true) i)

operands_second : (k : Kind) (op : Op) (y : Strided) (z : ℤ) → op.second ≡ Some (Array y) → is_scalar k ≡ true → elementwise (with_second op (Number z)) ≡ true → operands_kept k op ≡ true
    → operands_kept k (with_second op (Number z)) ≡ true
operands_second Binary op y z e s el h =
    ap₂ (λ p q. p && q) el (ap (λ k. k && true) (both_left (is_some op.first) (is_some op.second) (both_right (elementwise op) (is_some op.first && is_some op.second) h)))
operands_second Unary op y z e s el h =
    absurd (false≢true (ap is_none (sym e) ∙ both_right (is_some op.first) (is_none op.second) (both_right (elementwise op) (is_some op.first && is_none op.second) h)))
operands_second _ op y z e s el h = absurd (false≢true s)

pub second_number_kept : (op : Op) (y : Strided) (z : ℤ) → op.second ≡ Some (Array y) → is_scalar (kind op.code) ≡ true → elementwise op ≡ true → in_type op.from z ≡ true → kind_kept op ≡ true
    → kind_kept (with_second op (Number z)) ≡ true
second_number_kept op y z q s el t h =
    let a = both_right (operands_kept (kind op.code) op) (types_kept op.code op && numbers_kept op.code op) h in
    let e : elementwise (with_second op (Number z)) ≡ true =
    elementwise_again op op.code op.from op.first (Some (Number z)) el (all_join (Shaped op) (view_of op.first) [] (all_left (Shaped op) (view_of op.first) (view_of op.second) (shaped_all op el)) tt) in
    ap₂ (λ p q. p && q) (operands_second (kind op.code) op y z q s e (both_left (operands_kept (kind op.code) op) (types_kept op.code op && numbers_kept op.code op) h))
    (ap₂ (λ p q. p && q) (types_second op.code op (Number z) (both_left (types_kept op.code op) (numbers_kept op.code op) a)) (numbers_second op.code op y z q t (both_right (types_kept op.code op) (numbers_kept op.code op) a)))

-- of a view only the lengths are asked
bare : List ℕ → Operand
bare l = Array (record { base = 0; start = 0; lengths = l; strides = [] })

operands_first_view : (k : Kind) (op : Op) (x v : Strided) → x.lengths ≡ v.lengths → operands_kept k (with_first op (Array x)) ≡ operands_kept k (with_first op (Array v))
unfolding bare
operands_first_view Binary op x v l = ap (λ n. operands_kept Binary (with_first op (bare n))) l
operands_first_view Unary op x v l = ap (λ n. operands_kept Unary (with_first op (bare n))) l
operands_first_view Counting op x v l = ap (λ n. operands_kept Counting (with_first op (bare n))) l
operands_first_view Reduction op x v l = ap (λ n. operands_kept Reduction (with_first op (bare n))) l
operands_first_view Scan op x v l = ap (λ n. operands_kept Scan (with_first op (bare n))) l
operands_first_view Ending op x v l = ap (λ n. operands_kept Ending (with_first op (bare n))) l
operands_first_view Printing op x v l = ap (λ n. operands_kept Printing (with_first op (bare n))) l

types_first_view : (code : Code) (op : Op) (x v : Strided) → types_kept code (with_first op (Array x)) ≡ types_kept code (with_first op (Array v))
types_first_view Equal op x v = refl
types_first_view NotEqual op x v = refl
types_first_view Less op x v = refl
types_first_view LessEqual op x v = refl
types_first_view Greater op x v = refl
types_first_view GreaterEqual op x v = refl
types_first_view Identity op x v = refl
types_first_view _ op x v = refl

numbers_first_view : (code : Code) (op : Op) (x v : Strided) → numbers_kept code (with_first op (Array x)) ≡ numbers_kept code (with_first op (Array v))
numbers_first_view Power op x v = refl
numbers_first_view _ op x v = refl

pub first_view_kept : (op : Op) (x v : Strided) → op.first ≡ Some (Array x) → x.lengths ≡ v.lengths → kind_kept op ≡ true → kind_kept (with_first op (Array v)) ≡ true
first_view_kept op x v e l h =
    ap₂ (λ p q. p && q) (sym (operands_first_view (kind op.code) op x v l)) (ap₂ (λ p q. p && q) (sym (types_first_view op.code op x v)) (sym (numbers_first_view op.code op x v)))
    ∙ ap (λ f. kind_kept (changed_op op op.code op.from f op.second)) (sym e) ∙ h

-- a second operand that is a view stands in a binary operation
operands_second_view : (k : Kind) (op : Op) (x v : Strided) → op.second ≡ Some (Array x) → x.lengths ≡ v.lengths → operands_kept k op ≡ true → operands_kept k (with_second op (Array v)) ≡ true
operands_second_view Binary op x v e l h =
    let el : elementwise op ≡ true = both_left (elementwise op) (is_some op.first && is_some op.second) h in
    let shaped : AllByRecursion (Shaped op) (view_of op.second) = all_right (Shaped op) (view_of op.first) (view_of op.second) (shaped_all op el) in
    let at_x : Shaped op x = (subst (λ f. AllByRecursion (Shaped op) (view_of f)) e shaped).0 in
    let at_v : Shaped op v = subst (λ (n : List ℕ). AllByRecursion (λ (o : Strided). same_lists n o.lengths ≡ true) (outputs op)) l at_x in
    ap₂ (λ p q. p && q)
    (elementwise_again op op.code op.from op.first (Some (Array v)) el (all_join (Shaped op) (view_of op.first) (v ∷ []) (all_left (Shaped op) (view_of op.first) (view_of op.second) (shaped_all op el)) (at_v, tt)))
    (ap (λ k. k && true) (both_left (is_some op.first) (is_some op.second) (both_right (elementwise op) (is_some op.first && is_some op.second) h)))
operands_second_view Unary op x v e l h = absurd (false≢true (ap is_none (sym e) ∙ both_right (is_some op.first) (is_none op.second) (both_right (elementwise op) (is_some op.first && is_none op.second) h)))
operands_second_view Counting op x v e l h = absurd (false≢true (ap is_none (sym e) ∙ both_right (is_none op.first) (is_none op.second) (both_right (elementwise op) (is_none op.first && is_none op.second) h)))
operands_second_view Reduction op x v e l h = absurd (false≢true (ap is_none (sym e) ∙ both_left (is_none op.second) _ (both_right (is_array op.first) _ (both_right (is_some op.out) _ h))))
operands_second_view Scan op x v e l h = absurd (false≢true (ap is_none (sym e) ∙ both_left (is_none op.second) _ (both_right (is_array op.first) _ (both_right (is_some op.out) _ h))))
operands_second_view Ending op x v e l h = absurd (false≢true (ap is_none (sym e) ∙ both_left (is_none op.second) _ (both_right (is_none op.first) _ (both_right (is_none op.out) _ (both_right (is_some op.frees) _ h)))))
operands_second_view Printing op x v e l h = absurd (false≢true (ap is_none (sym e) ∙ both_left (is_none op.second) _ (both_right (is_none op.out) _ (both_right (is_array op.first) _ (both_right (is_some op.slot) _ h)))))

types_second_view : (code : Code) (op : Op) (x v : Strided) → types_kept code (with_second op (Array x)) ≡ types_kept code (with_second op (Array v))
types_second_view Equal op x v = refl
types_second_view NotEqual op x v = refl
types_second_view Less op x v = refl
types_second_view LessEqual op x v = refl
types_second_view Greater op x v = refl
types_second_view GreaterEqual op x v = refl
types_second_view Identity op x v = refl
types_second_view _ op x v = refl

numbers_second_view : (code : Code) (op : Op) (x v : Strided) → numbers_kept code (with_second op (Array x)) ≡ numbers_kept code (with_second op (Array v))
numbers_second_view Power op x v = refl
numbers_second_view _ op x v = refl

pub second_view_kept : (op : Op) (x v : Strided) → op.second ≡ Some (Array x) → x.lengths ≡ v.lengths → kind_kept op ≡ true → kind_kept (with_second op (Array v)) ≡ true
second_view_kept op x v e l h =
    let a = both_right (operands_kept (kind op.code) op) (types_kept op.code op && numbers_kept op.code op) h in
    let b : (types_kept op.code (with_second op (Array x)) && numbers_kept op.code (with_second op (Array x))) ≡ true =
    ap (λ f. types_kept op.code (changed_op op op.code op.from op.first f) && numbers_kept op.code (changed_op op op.code op.from op.first f)) (sym e) ∙ a in
    ap₂ (λ p q. p && q) (operands_second_view (kind op.code) op x v e l (both_left (operands_kept (kind op.code) op) (types_kept op.code op && numbers_kept op.code op) h))
    (ap₂ (λ p q. p && q) (sym (types_second_view op.code op x v)) (sym (numbers_second_view op.code op x v)) ∙ b)

-- ---- what the operands of the new operation weigh

abbrev pub weigh : (ℕ → ℕ) → List Strided → ℕ
weigh places vs = total (λ (v : Strided). 1 + places v.base) vs

pub first_less : (places : ℕ → ℕ) (op : Op) (x : Strided) (new : Operand) → op.first ≡ Some (Array x) → weigh places (view_of (Some new)) < 1 + places x.base → weigh places (inputs (with_first op new)) < weigh places (inputs op)
first_less places op x new e h =
    let a : weigh places (inputs op) ≡ (1 + places x.base) + weigh places (view_of op.second) = ap (λ f. weigh places (view_of f ++ view_of op.second)) e in
    let b : weigh places (inputs (with_first op new)) ≡ weigh places (view_of (Some new)) + weigh places (view_of op.second) = total-append (λ (v : Strided). 1 + places v.base) (view_of (Some new)) (view_of op.second) in
    omega arith

pub second_less : (places : ℕ → ℕ) (op : Op) (y : Strided) (new : Operand) → op.second ≡ Some (Array y) → weigh places (view_of (Some new)) < 1 + places y.base → weigh places (inputs (with_second op new)) < weigh places (inputs op)
second_less places op y new e h =
    let a : weigh places (inputs op) ≡ weigh places (view_of op.first) + weigh places (view_of op.second) = total-append (λ (v : Strided). 1 + places v.base) (view_of op.first) (view_of op.second) in
    let c : weigh places (view_of op.second) ≡ (1 + places y.base) + 0 = ap (λ f. weigh places (view_of f)) e in
    let b : weigh places (inputs (with_second op new)) ≡ weigh places (view_of op.first) + weigh places (view_of (Some new)) = total-append (λ (v : Strided). 1 + places v.base) (view_of op.first) (view_of (Some new)) in
    omega arith
