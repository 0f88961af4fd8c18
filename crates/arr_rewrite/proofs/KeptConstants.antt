-- A constant carried into an operand keeps the memory that a formed list leaves.
use Rattle.std.proofs.Common.{◌≡◌, ℕ, ℤ, List, [], ◌∷◌, ◌++◌, Bool, true, false, cond, not, ◌||◌, refl, ap, ap₂, sym, subst, ◌∙◌, Option, Some, None, length, replicate}
use Rattle.std.proofs.lemmas.Bool.{false≢true, eqb-true}
use Rattle.std.specs.Prelude.{◌==◌, is_some, nat_lt}
use Rattle.std.specs.List.{AllByRecursion, list_all, list_any}
use Rattle.std.specs.Option.{option_to_list, option_or}
use Rattle.arr_view.specs.Strided.{Strided}
use Rattle.arr_view.specs.Views.{elements, has, positions}
use Rattle.arr_ops.specs.Ops.{outputs, inputs, views, named}
use Rattle.arr_num.specs.Kinds.{kind, Unary}
use Rattle.arr_num.specs.Numbers.{wrap}
use Rattle.arr_ops.specs.Memory.{Memory, eager, step, read, out_lengths}
use Rattle.arr_ops.specs.Formed.{elementwise, plain, well_formed, operands_kept, inside_made}
use Rattle.arr_rewrite.specs.Rules.{is_scalar as scalar_code, is_identity, constant_op, with_first, with_second}
use Rattle.arr_ops.proofs.Spots.{is_scalar, Formed, well_at, Plain, plain_at, operands_of, scalar_elementwise, by_output, none_from, all_left, all_right}
use Rattle.arr_rewrite.specs.Writers.{Writer, only_writer, unwritten_base}
use Rattle.arr_rewrite.specs.NextRewrite.{constant_carried, known_operand, filled_with, source_number, first_number, second_number}
use Rattle.arr_num.specs.declared.code.Code.TheVariants.{Identity}
use Rattle.arr_ops.specs.declared.op.Op.{Op}
use Rattle.arr_ops.specs.declared.op.Operand.{Operand}
use Rattle.arr_ops.specs.declared.op.Operand.TheVariants.{Array, Number}
use Rattle.arr_ops.proofs.Pairs.{All_weaker}
use Rattle.arr_ops.proofs.Tests.{both_left, both_right, all_of}
use Rattle.arr_rewrite.proofs.Replace.{walk_length, scalar_kind}
use Rattle.arr_rewrite.proofs.Kept.{same_step}
use Rattle.arr_rewrite.proofs.KeptRemoved.{identity_is}
use Rattle.arr_rewrite.proofs.KeptHistory.{Found, found_before, inputs_named, filled_reads}
use Rattle.arr_rewrite.proofs.History.{first_constant, second_constant, identity_constant}
use Rattle.arr_rewrite.proofs.Parts.{at_second, at_first}

-- what the test of an operand finds
pub record Known (front : List Op) (o : Option Operand) (z : ℤ) : Type 0 where
  pub view : Strided
  pub is : o ≡ Some (Array view)
  pub writer : Writer
  pub found : Found front view.base writer
  pub code : writer.op.code ≡ Identity
  pub source : writer.op.first ≡ Some (Number z)

source_is : (o : Option Operand) (z : ℤ) → source_number o ≡ Some z → o ≡ Some (Number z)
source_is (Some (Number y)) z e = let same : y ≡ z = cc in ap (λ k. Some (Number k)) same
source_is (Some (Array x)) z e = absurd (cc)
source_is None z e = absurd (cc)

pub known : (front back : List Op) (o : Option Operand) (z : ℤ) → known_operand front back o ≡ Some z → Known front o z
known front back None z e = absurd (cc)
known front back (Some (Number y)) z e = absurd (cc)
known front back (Some (Array x)) z e =
    elim (only_writer front back x.base) as (λ k. only_writer front back x.base ≡ k → filled_with k ≡ Some z → Known front (Some (Array x)) z) [
      | None ↦ λ d g. absurd (cc)
      | Some w ↦ λ d g.
          elim (is_identity w.op.code) as (λ t. is_identity w.op.code ≡ t → cond t (source_number w.op.first) None ≡ Some z → Known front (Some (Array x)) z) [
            | true ↦ λ t f. record { view = x; is = refl; writer = w; found = found_before front back x.base w d; code = identity_is w.op.code t; source = source_is w.op.first z f }
            | false ↦ λ t f. absurd (cc)
          ] refl g
    ] refl e

-- the views of op lie inside what w makes
inside_of : (w op : Op) (o : Strided) → w.makes ≡ true → w.out ≡ Some o → inside_made w op ≡ true
    → AllByRecursion (λ (v : Strided). (not (o.base == v.base) || list_all (λ e. nat_lt e (positions o.lengths)) (elements v)) ≡ true) (inputs op)
inside_of w op o makes out h =
    let test : Strided → Strided → Bool = λ u v. not (u.base == v.base) || list_all (λ e. nat_lt e (positions u.lengths)) (elements v) in
    let a : (list_all (λ (u : Strided). list_all (λ (v : Strided). not (u.base == v.base) || list_all (λ e. nat_lt e (positions u.lengths)) (elements v)) (views op)) (o ∷ [])) ≡ true =
    ap₂ (λ t (k : Option Strided). not t || list_all (λ (u : Strided). list_all (λ (v : Strided). not (u.base == v.base) || list_all (λ e. nat_lt e (positions u.lengths)) (elements v)) (views op)) (option_to_list k)) (sym makes) (sym out) ∙ h in
    all_right (λ (v : Strided). (not (o.base == v.base) || list_all (λ e. nat_lt e (positions o.lengths)) (elements v)) ≡ true) (outputs op) (inputs op)
    (all_of (λ (v : Strided). not (o.base == v.base) || list_all (λ e. nat_lt e (positions o.lengths)) (elements v)) (views op) (both_left _ true a))

pub written_out : (w : Op) (b : ℕ) (out : Option Strided) → w.out ≡ out → list_any (λ (o : Strided). o.base == b) (option_to_list out) ≡ true → (o : Strided) × (w.out ≡ Some o) × (o.base ≡ b)
written_out w b None e h = absurd (false≢true h)
written_out w b (Some o) e h = (o, e, eqb-true o.base b (first (o.base == b) h))
  where
    first : (t : Bool) → (t || false) ≡ true → t ≡ true
    first true h = refl
    first false h = h

-- each input that is found to be filled reads the constant
reads : (m : Memory) (front back : List Op) (op : Op) → Formed (front ++ op ∷ back) → (o : Option Operand) (z : ℤ) (k : Known front o z)
    → ((P : Strided → Type 0) → AllByRecursion P (inputs op) → P k.view) → length (elements k.view) ≡ walk_length op
    → read ((eager m front).bases k.view.base) (elements k.view) ≡ replicate (walk_length op) z
reads m front back op formed o z k at size =
    let w : Op = k.writer.op in
    let between : List Op = k.writer.between in
    let pre : List Op = k.found.pre in
    let moved : Formed ((pre ++ w ∷ between) ++ op ∷ back) = subst (λ fs. Formed (fs ++ op ∷ back)) k.found.split formed in
    let out = written_out w k.view.base w.out refl k.found.writes in
    let insides : AllByRecursion (λ g. inside_made w g ≡ true) ((pre ++ w ∷ between) ++ op ∷ back) =
    (all_right (λ f. AllByRecursion (λ g. inside_made f g ≡ true) ((pre ++ w ∷ between) ++ op ∷ back)) pre (w ∷ between)
    (all_left (λ f. AllByRecursion (λ g. inside_made f g ≡ true) ((pre ++ w ∷ between) ++ op ∷ back)) (pre ++ w ∷ between) (op ∷ back) moved.inside)).0 in
    let inside : inside_made w op ≡ true = (all_right (λ g. inside_made w g ≡ true) (pre ++ w ∷ between) (op ∷ back) insides).0 in
    ap (λ fs. read ((eager m fs).bases k.view.base) (elements k.view)) k.found.split
    ∙ filled_reads m pre between back w op out.0 k.view z moved k.found.makes out.1 k.code k.source
    (ap (λ b. unwritten_base between b) out.2 ∙ k.found.alone)
    (sym out.2) (at (λ (v : Strided). has (named op) v.base ≡ true) (inputs_named op)) size
    (at (λ (v : Strided). (not (out.0.base == v.base) || list_all (λ e. nat_lt e (positions out.0.lengths)) (elements v)) ≡ true) (inside_of w op out.0 k.found.makes out.1 inside), tt)

pub constant_carried_keeps : (m : Memory) (front back : List Op) (op next : Op) → Formed (front ++ op ∷ back)
    → constant_carried front op back ≡ Some next → eager m (front ++ op ∷ back) ≡ eager m (front ++ next ∷ back)
constant_carried_keeps m front back op next formed e =
    elim (scalar_code op.code) as (λ t. scalar_code op.code ≡ t
    → cond t (option_or (first_number op (known_operand front (op ∷ back) op.first)) (second_number op (known_operand front (op ∷ back) op.second))) None ≡ Some next
    → eager m (front ++ op ∷ back) ≡ eager m (front ++ next ∷ back)) [
      | false ↦ λ t g. absurd (cc)
      | true ↦ λ t g. same_step m front back op next (by_first (scalar_kind op.code t) (known_operand front (op ∷ back) op.first) (known_operand front (op ∷ back) op.second) refl refl g)
    ] refl e
  where
    n : Memory
    n = eager m front

    well : well_formed op ≡ true
    well = well_at front back op formed

    sized : is_scalar (kind op.code) ≡ true → (op.slot ≡ None) × AllByRecursion (λ (v : Strided). length (elements v) ≡ walk_length op) (inputs op)
    sized s =
        let el : elementwise op ≡ true = scalar_elementwise (kind op.code) op s (operands_of op well) in
        by_output (λ f. (op.slot ≡ None) × AllByRecursion (λ (v : Strided). length (elements v) ≡ walk_length op) (inputs op)) op
        (λ o out. let p : Plain op o = plain_at op o out well el in (
          p.no_slot,
          All_weaker (λ (v : Strided). length (elements v) ≡ positions o.lengths) (λ (v : Strided). length (elements v) ≡ walk_length op)
              (λ v k. k ∙ sym (ap (λ u. positions (out_lengths u)) out)) (inputs op) p.sizes,
        )) (both_left (is_some op.out) _ (both_right (plain op) _ el))

    second_none : is_identity op.code ≡ true → op.second ≡ None
    second_none t =
        let kept : operands_kept Unary op ≡ true = ap (λ c. operands_kept (kind c) op) (sym (identity_is op.code t)) ∙ operands_of op well in
        none_from op.second (both_right (is_some op.first) _ (both_right (elementwise op) _ kept))

    by_second : is_scalar (kind op.code) ≡ true → (b : Option ℤ) → known_operand front (op ∷ back) op.second ≡ b → second_number op b ≡ Some next → step n op ≡ step n next
    by_second s None q g = absurd (cc)
    by_second s (Some z) q g =
        let k : Known front op.second z = known front (op ∷ back) op.second z q in
        let got = reads m front back op formed op.second z k (λ P h. at_second P op k.view k.is h) (at_second (λ (v : Strided). length (elements v) ≡ walk_length op) op k.view k.is (sized s).1) in
        let same : with_second op (Number z) ≡ next = cc in
        second_constant n op k.view z s (sized s).0 k.is got ∙ ap (step n) same

    by_first : is_scalar (kind op.code) ≡ true → (a b : Option ℤ) → known_operand front (op ∷ back) op.first ≡ a → known_operand front (op ∷ back) op.second ≡ b
        → option_or (first_number op a) (second_number op b) ≡ Some next → step n op ≡ step n next
    by_first s None b p q g = by_second s b q g
    by_first s (Some z) b p q g =
        let k : Known front op.first z = known front (op ∷ back) op.first z p in
        let got = reads m front back op formed op.first z k (λ P h. at_first P op k.view k.is h) (at_first (λ (v : Strided). length (elements v) ≡ walk_length op) op k.view k.is (sized s).1) in
        elim (is_identity op.code) as (λ t. is_identity op.code ≡ t → Some (cond t (constant_op op (wrap op.to z)) (with_first op (Number z))) ≡ Some next → step n op ≡ step n next) [
          | true ↦ λ t f. let same : constant_op op (wrap op.to z) ≡ next = cc in
              identity_constant n op k.view z (identity_is op.code t) (sized s).0 k.is (second_none t) got ∙ ap (step n) same
          | false ↦ λ t f. let same : with_first op (Number z) ≡ next = cc in first_constant n op k.view z s (sized s).0 k.is got ∙ ap (step n) same
        ] refl g
