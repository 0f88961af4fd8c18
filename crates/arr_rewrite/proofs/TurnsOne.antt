-- The rules that look at one operation leave a formed list of less potential.
use Rattle.std.proofs.Common.{◌≡◌, ℕ, ◌+◌, ◌*◌, ℤ, pos, List, ◌∷◌, ◌++◌, true, false, cond, not, ◌&&◌, refl, ap, ap₂, sym, subst, ◌∙◌, arith, Option, Some, None}
use Rattle.std.specs.Prelude.{◌-ℤ◌}
use Rattle.std.specs.Bool.{then_some}
use Rattle.arr_num.specs.Kinds.{kind}
use Rattle.arr_num.specs.Numbers.{in_type, value, wrap, same}
use Rattle.arr_num.specs.declared.elem.Elem.{Elem}
use Rattle.arr_num.specs.declared.elem.Elem.TheVariants.{U8, I32, I64, U64}
use Rattle.arr_num.specs.declared.code.Code.{Code}
use Rattle.arr_num.specs.declared.code.Code.TheVariants.{Add, Subtract, Multiply, Power, Identity}
use Rattle.arr_num.proofs.Wrapping.{in_type_wrap}
use Rattle.arr_view.specs.Strided.{Strided}
use Rattle.arr_ops.specs.Ops.{inputs, view_of}
use Rattle.arr_ops.specs.Formed.{elementwise, same_elem, types_kept}
use Rattle.arr_ops.specs.declared.op.Op.{Op}
use Rattle.arr_ops.specs.declared.op.Operand.{Operand}
use Rattle.arr_ops.specs.declared.op.Operand.TheVariants.{Array, Number}
use Rattle.arr_ops.proofs.Typed.{in_type_value}
use Rattle.arr_ops.proofs.Spots.{Formed, is_scalar, well_at, operands_of, types_of, scalar_elementwise, same_elem_is}
use Rattle.arr_rewrite.specs.Rules.{is_scalar as scalar_code, is_identity, constant_op, copy_op, code_op, constant_folded, known_value, neutral_dropped, neutral_beside, neutral_right, neutral_left, fixed_known, power_unrolled, small_power, subtraction_turned, less_constant}
use Rattle.arr_rewrite.specs.NormalForm.{op_worth, maker_place, code_worth, operand_worth}
use Rattle.arr_rewrite.proofs.Options.{some_same}
use Rattle.arr_rewrite.proofs.Parts.{Among, at_first, at_second}
use Rattle.arr_rewrite.proofs.Sources.{Reads, reads_at}
use Rattle.arr_rewrite.proofs.Replace.{scalar_kind}
use Rattle.arr_rewrite.proofs.Codes.{OneType}
use Rattle.arr_rewrite.proofs.Kept.{neutral_code}
use Rattle.arr_rewrite.proofs.KeptFixed.{Decided, decided_by}
use Rattle.arr_rewrite.proofs.Measure.{constant_falls, copy_falls}
use Rattle.arr_rewrite.proofs.Turns.{Turn, Shaped, shaped_all, elementwise_again, constant_kept, copy_kept, code_kept, weigh}

pub elementwise_at : (front back : List Op) (op : Op) → Formed (front ++ op ∷ back) → is_scalar (kind op.code) ≡ true → elementwise op ≡ true
elementwise_at front back op h s = scalar_elementwise (kind op.code) op s (operands_of op (well_at front back op h))

pub to_constant : (front back : List Op) (op : Op) (z : ℤ) → Formed (front ++ op ∷ back) → is_scalar (kind op.code) ≡ true → is_identity op.code ≡ false → in_type op.to z ≡ true → Turn front op back (constant_op op z)
to_constant front back op z h s other i = record {
  code = Identity;
  from = op.to;
  first = Some (Number z);
  second = None;
  is = refl;
  kept = constant_kept op z (elementwise_at front back op h s) i;
  reads = tt;
  falls = constant_falls (maker_place (front ++ op ∷ back)) op z other;
}

-- the only view that is read
to_copy : (front back : List Op) (op : Op) (x : Strided) → Formed (front ++ op ∷ back) → is_scalar (kind op.code) ≡ true → is_identity op.code ≡ false → Among (inputs op) x
    → ((places : ℕ → ℕ) → weigh places (inputs op) ≡ 1 + places x.base) → Turn front op back (copy_op op x)
to_copy front back op x h s other at e =
    let el : elementwise op ≡ true = elementwise_at front back op h s in
    record {
      code = Identity;
      from = op.from;
      first = Some (Array x);
      second = None;
      is = refl;
      kept = copy_kept op x el (at (Shaped op) (shaped_all op el));
      reads = (reads_at front back op x h at, tt);
      falls = copy_falls (maker_place (front ++ op ∷ back)) op x other (e (maker_place (front ++ op ∷ back)));
    }

weigh_at : (places : ℕ → ℕ) (op : Op) (first second : Option Operand) → op.first ≡ first → op.second ≡ second → weigh places (inputs op) ≡ weigh places (view_of first ++ view_of second)
weigh_at places op first second p q = ap₂ (λ f s. weigh places (view_of f ++ view_of s)) p q

one_more : (n : ℕ) → (1 + n) + 0 ≡ 1 + n
one_more n = omega arith

-- ---- constants alone

folded : (front back : List Op) (op next : Op) (first second : Option Operand) → Formed (front ++ op ∷ back) → is_scalar (kind op.code) ≡ true → is_identity op.code ≡ false → known_value op first second ≡ Some next
    → Turn front op back next
folded front back op next (Some (Number x)) (Some (Number y)) h s o e =
    let same : constant_op op (value op.code op.to x y) ≡ next = cc in
    subst (Turn front op back) same (to_constant front back op (value op.code op.to x y) h s o (in_type_value op.code op.to x y))
folded front back op next (Some (Number x)) None h s o e =
    let same : constant_op op (value op.code op.to x (pos 0)) ≡ next = cc in
    subst (Turn front op back) same (to_constant front back op (value op.code op.to x (pos 0)) h s o (in_type_value op.code op.to x (pos 0)))
folded front back op next (Some (Number x)) (Some (Array y)) h s o e = absurd (cc)
folded front back op next (Some (Array x)) second h s o e = absurd (cc)
folded front back op next None second h s o e = absurd (cc)

pub constant_folded_turns : (front back : List Op) (op next : Op) → Formed (front ++ op ∷ back) → constant_folded op ≡ Some next → Turn front op back next
constant_folded_turns front back op next h e =
    elim (scalar_code op.code) as (λ t. scalar_code op.code ≡ t → cond (t && not (is_identity op.code)) (known_value op op.first op.second) None ≡ Some next → Turn front op back next) [
      | false ↦ λ t g. absurd (cc)
      | true ↦ λ t g.
          elim (is_identity op.code) as (λ k. is_identity op.code ≡ k → cond (not k) (known_value op op.first op.second) None ≡ Some next → Turn front op back next) [
            | true ↦ λ k f. absurd (cc)
            | false ↦ λ k f. folded front back op next op.first op.second h (scalar_kind op.code t) k f
          ] refl g
    ] refl e

-- ---- a constant that changes nothing

neutral : (front back : List Op) (op next : Op) (first second : Option Operand) → op.first ≡ first → op.second ≡ second → Formed (front ++ op ∷ back) → OneType op.code → neutral_beside op first second ≡ Some next
    → Turn front op back next
neutral front back op next (Some (Array x)) (Some (Number c)) p q h t e =
    subst (Turn front op back) (some_same (neutral_right op.code op.to c) (copy_op op x) next e)
    (to_copy front back op x h (ap is_scalar t.binary) t.other (λ P a. at_first P op x p a)
    (λ places. weigh_at places op (Some (Array x)) (Some (Number c)) p q ∙ one_more (places x.base)))
neutral front back op next (Some (Number c)) (Some (Array x)) p q h t e =
    subst (Turn front op back) (some_same (neutral_left op.code op.to c) (copy_op op x) next e)
    (to_copy front back op x h (ap is_scalar t.binary) t.other (λ P a. at_second P op x q a)
    (λ places. weigh_at places op (Some (Number c)) (Some (Array x)) p q ∙ one_more (places x.base)))
neutral front back op next None second p q h t e = absurd (cc)
neutral front back op next (Some (Array x)) None p q h t e = absurd (cc)
neutral front back op next (Some (Array x)) (Some (Array y)) p q h t e = absurd (cc)
neutral front back op next (Some (Number x)) None p q h t e = absurd (cc)
neutral front back op next (Some (Number x)) (Some (Number y)) p q h t e = absurd (cc)

pub neutral_dropped_turns : (front back : List Op) (op next : Op) → Formed (front ++ op ∷ back) → neutral_dropped op ≡ Some next → Turn front op back next
neutral_dropped_turns front back op next h e = neutral front back op next op.first op.second refl refl h (neutral_code op next op.first op.second e) e

-- ---- a constant that alone decides

pub fixed_known_turns : (front back : List Op) (op next : Op) → Formed (front ++ op ∷ back) → fixed_known op ≡ Some next → Turn front op back next
fixed_known_turns front back op next h e =
    let d : Decided op next = decided_by op next e in subst (Turn front op back) d.is (to_constant front back op d.number h (ap is_scalar d.code.binary) d.code.other d.inside)

-- ---- small powers, and a constant that is subtracted

one_in : (t : Elem) → in_type t (pos 1) ≡ true
one_in U8 = refl
one_in I32 = refl
one_in I64 = refl
one_in U64 = refl

worth_at : (places : ℕ → ℕ) (op : Op) (code : Code) (first second : Option Operand) → op.code ≡ code → op.first ≡ first → op.second ≡ second
    → op_worth places op ≡ code_worth code + operand_worth code * weigh places (view_of first ++ view_of second)
worth_at places op code first second r p q = λ i. code_worth (r i) + operand_worth (r i) * weigh places (view_of (p i) ++ view_of (q i))

squared : (front back : List Op) (op : Op) (x : Strided) (c : ℤ) → op.code ≡ Power → op.first ≡ Some (Array x) → op.second ≡ Some (Number c) → Formed (front ++ op ∷ back) → Turn front op back (code_op op Multiply x (Array x))
squared front back op x c r p q h =
    let places : ℕ → ℕ = maker_place (front ++ op ∷ back) in
    let el : elementwise op ≡ true = elementwise_at front back op h (ap (λ c. is_scalar (kind c)) r) in
    let s : Shaped op x = at_first (Shaped op) op x p (shaped_all op el) in
    let t : same_elem op.to op.from ≡ true = ap (λ c. types_kept c op) (sym r) ∙ types_of op (well_at front back op h) in
    let w : Reads front op back op.from x = reads_at front back op x h (λ P a. at_first P op x p a) in
    let old : op_worth places op ≡ 3 + 2 * ((1 + places x.base) + 0) = worth_at places op Power (Some (Array x)) (Some (Number c)) r p q in
    let new : op_worth places (code_op op Multiply x (Array x)) ≡ 2 + 1 * ((1 + places x.base) + ((1 + places x.base) + 0)) = refl in
    record {
      code = Multiply;
      from = op.from;
      first = Some (Array x);
      second = Some (Array x);
      is = refl;
      kept = code_kept op Multiply x (Array x) refl (elementwise_again op Multiply op.from (Some (Array x)) (Some (Array x)) el (s, (s, tt))) t refl;
      reads = (w, (w, tt));
      falls = omega arith;
    }

power : (front back : List Op) (op next : Op) (code : Code) (first second : Option Operand) → op.code ≡ code → op.first ≡ first → op.second ≡ second → Formed (front ++ op ∷ back) → small_power code op first second ≡ Some next
    → Turn front op back next
power front back op next Power (Some (Array x)) (Some (Number c)) r p q h e =
    let s : is_scalar (kind op.code) ≡ true = ap (λ c. is_scalar (kind c)) r in
    let o : is_identity op.code ≡ false = ap is_identity r in
    elim (same c (pos 0)) as (λ t. cond t (Some (constant_op op (pos 1))) (cond (same c (pos 1)) (Some (copy_op op x)) (then_some (same c (pos 2)) (code_op op Multiply x (Array x)))) ≡ Some next → Turn front op back next) [
      | true ↦ λ f. let new : constant_op op (pos 1) ≡ next = cc in subst (Turn front op back) new (to_constant front back op (pos 1) h s o (one_in op.to))
      | false ↦ λ f.
          elim (same c (pos 1)) as (λ t. cond t (Some (copy_op op x)) (then_some (same c (pos 2)) (code_op op Multiply x (Array x))) ≡ Some next → Turn front op back next) [
            | true ↦ λ f. let new : copy_op op x ≡ next = cc in
                subst (Turn front op back) new (to_copy front back op x h s o (λ P a. at_first P op x p a) (λ places. weigh_at places op (Some (Array x)) (Some (Number c)) p q ∙ one_more (places x.base)))
            | false ↦ λ f. subst (Turn front op back) (some_same (same c (pos 2)) (code_op op Multiply x (Array x)) next f) (squared front back op x c r p q h)
          ] f
    ] e
power front back op next Power None second r p q h e = absurd (cc)
power front back op next Power (Some (Number x)) second r p q h e = absurd (cc)
power front back op next Power (Some (Array x)) None r p q h e = absurd (cc)
power front back op next Power (Some (Array x)) (Some (Array y)) r p q h e = absurd (cc)
power front back op next _ first second r p q h e = absurd (cc)

pub power_unrolled_turns : (front back : List Op) (op next : Op) → Formed (front ++ op ∷ back) → power_unrolled op ≡ Some next → Turn front op back next
power_unrolled_turns front back op next h e = power front back op next op.code op.first op.second refl refl refl h e

negated : (front back : List Op) (op : Op) (x : Strided) (c : ℤ) → op.code ≡ Subtract → op.first ≡ Some (Array x) → op.second ≡ Some (Number c) → Formed (front ++ op ∷ back)
    → Turn front op back (code_op op Add x (Number (wrap op.to (pos 0 -ℤ c))))
negated front back op x c r p q h =
    let z : ℤ = wrap op.to (pos 0 -ℤ c) in
    let places : ℕ → ℕ = maker_place (front ++ op ∷ back) in
    let el : elementwise op ≡ true = elementwise_at front back op h (ap (λ c. is_scalar (kind c)) r) in
    let s : Shaped op x = at_first (Shaped op) op x p (shaped_all op el) in
    let t : same_elem op.to op.from ≡ true = ap (λ c. types_kept c op) (sym r) ∙ types_of op (well_at front back op h) in
    let i : in_type op.from (wrap op.to (pos 0 -ℤ c)) ≡ true = subst (λ u. in_type u (wrap op.to (pos 0 -ℤ c)) ≡ true) (same_elem_is op.to op.from t) (in_type_wrap op.to (pos 0 -ℤ c)) in
    let old : op_worth places op ≡ 3 + 1 * ((1 + places x.base) + 0) = worth_at places op Subtract (Some (Array x)) (Some (Number c)) r p q in
    let new : op_worth places (code_op op Add x (Number (wrap op.to (pos 0 -ℤ c)))) ≡ 2 + 1 * ((1 + places x.base) + 0) = refl in
    record {
      code = Add;
      from = op.from;
      first = Some (Array x);
      second = Some (Number (wrap op.to (pos 0 -ℤ c)));
      is = refl;
      kept = code_kept op Add x (Number (wrap op.to (pos 0 -ℤ c))) refl (elementwise_again op Add op.from (Some (Array x)) (Some (Number (wrap op.to (pos 0 -ℤ c)))) el (s, tt)) t (ap (λ k. k && true) i);
      reads = (reads_at front back op x h (λ P a. at_first P op x p a), tt);
      falls = omega arith;
    }

less : (front back : List Op) (op next : Op) (code : Code) (first second : Option Operand) → op.code ≡ code → op.first ≡ first → op.second ≡ second → Formed (front ++ op ∷ back) → less_constant code op first second ≡ Some next
    → Turn front op back next
less front back op next Subtract (Some (Array x)) (Some (Number c)) r p q h e =
    let new : code_op op Add x (Number (wrap op.to (pos 0 -ℤ c))) ≡ next = cc in subst (Turn front op back) new (negated front back op x c r p q h)
less front back op next Subtract None second r p q h e = absurd (cc)
less front back op next Subtract (Some (Number x)) second r p q h e = absurd (cc)
less front back op next Subtract (Some (Array x)) None r p q h e = absurd (cc)
less front back op next Subtract (Some (Array x)) (Some (Array y)) r p q h e = absurd (cc)
less front back op next _ first second r p q h e = absurd (cc)

pub subtraction_turned_turns : (front back : List Op) (op next : Op) → Formed (front ++ op ∷ back) → subtraction_turned op ≡ Some next → Turn front op back next
subtraction_turned_turns front back op next h e = less front back op next op.code op.first op.second refl refl refl h e
