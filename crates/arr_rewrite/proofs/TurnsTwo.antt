-- The rules that look at the only writer of a base leave a formed list of less potential.
use Rattle.std.proofs.Common.{◌≡◌, ℕ, suc, ◌+◌, ◌*◌, ◌<◌, ◌≤◌, ℤ, List, [], ◌∷◌, ◌++◌, Bool, true, false, cond, not, ◌||◌, ◌&&◌, refl, ap, ap₂, sym, subst, ◌∙◌, arith, Option, Some, None, length, append_assoc}
use Rattle.std.proofs.lemmas.Bool.{eq-eqb}
use Rattle.std.specs.Prelude.{◌==◌}
use Rattle.std.specs.List.{AllByRecursion, list_all, list_any}
use Rattle.std.specs.Option.{option_to_list, option_or}
use Rattle.arr_num.specs.Kinds.{kind}
use Rattle.arr_num.specs.Numbers.{in_type, value, wrap}
use Rattle.arr_num.specs.declared.code.Code.TheVariants.{Identity}
use Rattle.arr_num.proofs.Wrapping.{in_type_wrap}
use Rattle.arr_view.specs.Strided.{Strided}
use Rattle.arr_view.specs.Views.{has, identical, same_lists}
use Rattle.arr_ops.specs.Ops.{inputs, outputs, named, view_of, makes_base}
use Rattle.arr_ops.specs.Formed.{well_formed, kind_kept, operands_kept, types_kept, numbers_kept, numbers_of, is_array, same_elem, same_types, may_precede, elementwise}
use Rattle.arr_ops.specs.declared.op.Op.{Op}
use Rattle.arr_ops.specs.declared.op.Operand.{Operand}
use Rattle.arr_ops.specs.declared.op.Operand.TheVariants.{Array, Number}
use Rattle.arr_ops.proofs.Pairs.{All_weaker}
use Rattle.arr_ops.proofs.Tests.{both_left, both_right, same_from_test}
use Rattle.arr_ops.proofs.Typed.{in_type_value}
use Rattle.arr_ops.proofs.Spots.{Formed, is_scalar, Plain, plain_at, well_at, operands_of, types_of, scalar_elementwise, writes_typed, all_left, all_right, pairs_before, same_elem_is}
use Rattle.arr_rewrite.specs.Rules.{is_scalar as scalar_code, is_identity, constant_op, code_op, with_first, with_second}
use Rattle.arr_rewrite.specs.Writers.{unspoiled}
use Rattle.arr_rewrite.specs.NextRewrite.{Beside, beside, known_operand, first_number, second_number, constant_carried, copied_operand, first_view, second_view, copy_carried, regroups, joined_beside, constants_joined}
use Rattle.arr_rewrite.specs.NormalForm.{maker_place, code_worth, operand_worth}
use Rattle.arr_rewrite.proofs.Agree.{unnamed_test}
use Rattle.arr_rewrite.proofs.Replace.{scalar_kind}
use Rattle.arr_rewrite.proofs.Parts.{Among, all_join, not_is, one, at_first, at_second}
use Rattle.arr_rewrite.proofs.Sources.{Reads, reads_at, reads_of, carried}
use Rattle.arr_rewrite.proofs.Changed.{same_itself}
use Rattle.arr_rewrite.proofs.KeptRemoved.{maker_bare}
use Rattle.arr_rewrite.proofs.KeptConstants.{Known, known, written_out}
use Rattle.arr_rewrite.proofs.KeptCopies.{Copied, copied}
use Rattle.arr_rewrite.proofs.KeptJoins.{Regroups, regroups_of, Joined, joined_found, beside_input}
use Rattle.arr_rewrite.proofs.Measure.{operands_fall, maker_at, maker_early, worth_of, some_worth}
use Rattle.arr_rewrite.proofs.Turns.{Turn, Shaped, shaped_all, elementwise_again, constant_kept, code_kept, first_number_kept, second_number_kept, first_view_kept, second_view_kept, weigh, first_less, second_less}
use Rattle.arr_rewrite.proofs.TurnsOne.{elementwise_at}

-- ---- the writer

pub makes_not : (out : Option Strided) (makes : Bool) (b : ℕ) → AllByRecursion (λ (v : Strided). (v.base == b) ≡ false) (option_to_list out) → (makes && list_any (λ (o : Strided). o.base == b) (option_to_list out)) ≡ false
makes_not out false b h = refl
makes_not None true b h = refl
makes_not (Some o) true b h = ap (λ k. k || false) h.0

-- what stands before a creator does not make its base
before_maker : (f w : Op) (o : Strided) → w.makes ≡ true → w.out ≡ Some o → may_precede f w ≡ true → makes_base f o.base ≡ false
before_maker f w o makes out h =
    let a = both_left (not w.makes || list_all (λ (u : Strided). not (has (named f) u.base)) (outputs w)) _ h in
    let b : (not true || list_all (λ (u : Strided). not (has (named f) u.base)) (option_to_list (Some o))) ≡ true =
    ap₂ (λ t u. not t || list_all (λ (u : Strided). not (has (named f) u.base)) (option_to_list u)) (sym makes) (sym out) ∙ a in
    makes_not f.out f.makes o.base (unnamed_test o.base f (not_is (has (named f) o.base) (both_left (not (has (named f) o.base)) true b))).outputs_not

-- a creator before op, whose base op reads through x
module _ (pre between back : List Op) (w op : Op) (o x : Strided) (formed : Formed ((pre ++ w ∷ between) ++ op ∷ back)) (makes : w.makes ≡ true) (out : w.out ≡ Some o) (base : o.base ≡ x.base) (at_x : Among (inputs op) x) where
  abbrev ahead : List Op
  ahead = pre ++ w ∷ between

  abbrev behind : List Op
  behind = between ++ op ∷ back

  far : Formed (pre ++ w ∷ behind)
  far = subst Formed (append_assoc pre (w ∷ between) (op ∷ back)) formed

  pub well_w : well_formed w ≡ true
  well_w = well_at pre behind w far

  pub types_w : w.to ≡ op.from
  types_w =
      let types : same_types w op ≡ true =
      (all_right (λ g. same_types w g ≡ true) ahead (op ∷ back)
      (all_right (λ f. AllByRecursion (λ g. same_types f g ≡ true) (ahead ++ op ∷ back)) pre (w ∷ between) (all_left (λ f. AllByRecursion (λ g. same_types f g ≡ true) (ahead ++ op ∷ back)) ahead (op ∷ back) formed.types)).0).0 in
      at_x (λ (u : Strided). (o.base == u.base) ≡ true → w.to ≡ op.from) (writes_typed w op types o out) (eq-eqb o.base x.base base)

  free_w : w.frees ≡ None
  free_w = (maker_bare (kind w.code) w (operands_of w well_w) makes).no_free

  module _ (v : Strided) (at_v : Among (inputs w) v) where
    -- its source is made before it
    pub lower : maker_place (ahead ++ op ∷ back) v.base < maker_place (ahead ++ op ∷ back) x.base
    lower =
        let r : Reads pre w behind w.from v = reads_at pre behind w v far at_v in
        let early : maker_place (pre ++ w ∷ behind) v.base ≤ length pre = maker_early v.base pre (w ∷ behind) (r.own, r.unmade) in
        let before : AllByRecursion (λ f. makes_base f o.base ≡ false) pre =
        All_weaker (λ f. may_precede f w ≡ true) (λ f. makes_base f o.base ≡ false) (λ f k. before_maker f w o makes out k) pre (pairs_before (λ f g. may_precede f g ≡ true) pre w behind far.order) in
        let made : makes_base w o.base ≡ true = ap₂ (λ t u. t && list_any (λ (z : Strided). z.base == o.base) (option_to_list u)) makes out ∙ ap (λ t. t || false) (eq-eqb o.base o.base refl) in
        let there : maker_place (pre ++ w ∷ behind) o.base ≡ suc (length pre) = maker_at o.base w pre behind before made in
        let there_x : maker_place (pre ++ w ∷ behind) x.base ≡ suc (length pre) = ap (maker_place (pre ++ w ∷ behind)) (sym base) ∙ there in
        let less : maker_place (pre ++ w ∷ behind) v.base < maker_place (pre ++ w ∷ behind) x.base = omega arith in
        subst (λ l. maker_place l v.base < maker_place l x.base) (sym (append_assoc pre (w ∷ between) (op ∷ back))) less

    pub lengths : is_scalar (kind w.code) ≡ true → identical x o ≡ true → x.lengths ≡ v.lengths
    lengths s same =
        let p : Plain w o = plain_at w o out well_w (scalar_elementwise (kind w.code) w s (operands_of w well_w)) in
        same_from_test x.lengths o.lengths (both_left (same_lists x.lengths o.lengths) _ (both_right (x.base == o.base) _ same)) ∙ sym (at_v (λ (u : Strided). u.lengths ≡ o.lengths) p.shapes)

    pub source_reads : w.from ≡ w.to → unspoiled between v ≡ true → Reads ahead op back op.from v
    source_reads same clean = carried pre between back w op v formed (same ∙ types_w) free_w clean at_v

-- v may be read in place of x
pub record Drawn (front : List Op) (op : Op) (back : List Op) (x v : Strided) : Type 0 where
  pub reads : Reads front op back op.from v
  pub lengths : x.lengths ≡ v.lengths
  pub lower : maker_place (front ++ op ∷ back) v.base < maker_place (front ++ op ∷ back) x.base

drawn : (pre between back : List Op) (w op : Op) (o x v : Strided) → Formed ((pre ++ w ∷ between) ++ op ∷ back) → w.makes ≡ true → w.out ≡ Some o → o.base ≡ x.base → Among (inputs op) x → Among (inputs w) v
    → is_scalar (kind w.code) ≡ true → w.from ≡ w.to → identical x o ≡ true → unspoiled between v ≡ true → Drawn (pre ++ w ∷ between) op back x v
drawn pre between back w op o x v h makes out base at_x at_v s types same clean = record {
  reads = source_reads pre between back w op o x h makes out base at_x v at_v types clean;
  lengths = lengths pre between back w op o x h makes out base at_x v at_v s same;
  lower = lower pre between back w op o x h makes out base at_x v at_v;
}

weigh_lower : (places : ℕ → ℕ) (x v : Strided) → places v.base < places x.base → weigh places (v ∷ []) < 1 + places x.base
weigh_lower places x v h = omega arith

-- ---- a constant is carried

number_typed : (w : Op) (z : ℤ) → well_formed w ≡ true → w.code ≡ Identity → w.first ≡ Some (Number z) → in_type w.to z ≡ true
number_typed w z well code first =
    let numbers : numbers_kept w.code w ≡ true = both_right (types_kept w.code w) _ (both_right (operands_kept (kind w.code) w) _ (both_left (kind_kept w) _ well)) in
    let numbers2 : numbers_kept Identity w ≡ true = ap (λ c. numbers_kept c w) (sym code) ∙ numbers in
    let from : in_type w.from z ≡ true =
    both_left (in_type w.from z) true (ap (λ f. list_all (in_type w.from) (numbers_of f)) (sym first) ∙ both_left (list_all (in_type w.from) (numbers_of w.first)) _ numbers2) in
    let types : (is_array w.first || same_elem w.to w.from) ≡ true = ap (λ c. types_kept c w) (sym code) ∙ types_of w well in
    let to : w.to ≡ w.from = same_elem_is w.to w.from (ap (λ f. is_array f || same_elem w.to w.from) (sym first) ∙ types) in
    ap (λ t. in_type t z) to ∙ from

known_typed : (front back : List Op) (op : Op) (o : Option Operand) (z : ℤ) (k : Known front o z) → Formed (front ++ op ∷ back) → Among (inputs op) k.view → in_type op.from z ≡ true
known_typed front back op o z k h at =
    let w : Op = k.writer.op in
    let between : List Op = k.writer.between in
    let pre : List Op = k.found.pre in
    let moved : Formed ((pre ++ w ∷ between) ++ op ∷ back) = subst (λ fs. Formed (fs ++ op ∷ back)) k.found.split h in
    let out = written_out w k.view.base w.out refl k.found.writes in
    let well : well_formed w ≡ true = well_w pre between back w op out.0 k.view moved k.found.makes out.1 out.2 at in
    subst (λ t. in_type t z ≡ true) (types_w pre between back w op out.0 k.view moved k.found.makes out.1 out.2 at) (number_typed w z well k.code k.source)

pub constant_carried_turns : (front back : List Op) (op next : Op) → Formed (front ++ op ∷ back) → constant_carried front op back ≡ Some next → Turn front op back next
constant_carried_turns front back op next h e =
    elim (scalar_code op.code) as (λ t. scalar_code op.code ≡ t
    → cond t (option_or (first_number op (known_operand front (op ∷ back) op.first)) (second_number op (known_operand front (op ∷ back) op.second))) None ≡ Some next → Turn front op back next) [
      | false ↦ λ t g. absurd (cc)
      | true ↦ λ t g. by_first (scalar_kind op.code t) (known_operand front (op ∷ back) op.first) (known_operand front (op ∷ back) op.second) refl refl g
    ] refl e
  where
    well : well_formed op ≡ true
    well = well_at front back op h

    parts : kind_kept op ≡ true
    parts = both_left (kind_kept op) _ well

    read_first : AllByRecursion (Reads front op back op.from) (view_of op.first)
    read_first = all_left (Reads front op back op.from) (view_of op.first) (view_of op.second) (reads_of front back op h)

    read_second : AllByRecursion (Reads front op back op.from) (view_of op.second)
    read_second = all_right (Reads front op back op.from) (view_of op.first) (view_of op.second) (reads_of front back op h)

    by_second : is_scalar (kind op.code) ≡ true → (b : Option ℤ) → known_operand front (op ∷ back) op.second ≡ b → second_number op b ≡ Some next → Turn front op back next
    by_second s None q g = absurd (cc)
    by_second s (Some z) q g =
        let k : Known front op.second z = known front (op ∷ back) op.second z q in
        let t : in_type op.from z ≡ true = known_typed front back op op.second z k h (λ P a. at_second P op k.view k.is a) in
        let new : with_second op (Number z) ≡ next = cc in
        record {
          code = op.code;
          from = op.from;
          first = op.first;
          second = Some (Number z);
          is = new;
          kept = second_number_kept op k.view z k.is s (elementwise_at front back op h s) t parts;
          reads = all_join (Reads front op back op.from) (view_of op.first) [] read_first tt;
          falls = operands_fall (maker_place (front ++ op ∷ back)) op (with_second op (Number z)) refl (second_less (maker_place (front ++ op ∷ back)) op k.view (Number z) k.is (omega arith));
        }

    by_first : is_scalar (kind op.code) ≡ true → (a b : Option ℤ) → known_operand front (op ∷ back) op.first ≡ a → known_operand front (op ∷ back) op.second ≡ b
        → option_or (first_number op a) (second_number op b) ≡ Some next → Turn front op back next
    by_first s None b p q g = by_second s b q g
    by_first s (Some z) b p q g =
        let k : Known front op.first z = known front (op ∷ back) op.first z p in
        let t : in_type op.from z ≡ true = known_typed front back op op.first z k h (λ P a. at_first P op k.view k.is a) in
        let less : weigh (maker_place (front ++ op ∷ back)) (inputs (with_first op (Number z))) < weigh (maker_place (front ++ op ∷ back)) (inputs op) =
        first_less (maker_place (front ++ op ∷ back)) op k.view (Number z) k.is (omega arith) in
        elim (is_identity op.code) as (λ t. is_identity op.code ≡ t → Some (cond t (constant_op op (wrap op.to z)) (with_first op (Number z))) ≡ Some next → Turn front op back next) [
          | true ↦ λ i f.
              let new : constant_op op (wrap op.to z) ≡ next = cc in
              let a : weigh (maker_place (front ++ op ∷ back)) (inputs op) ≤ operand_worth op.code * weigh (maker_place (front ++ op ∷ back)) (inputs op) = worth_of op.code _ in
              let c : 1 ≤ code_worth op.code = some_worth op.code in
              record {
                code = Identity;
                from = op.to;
                first = Some (Number (wrap op.to z));
                second = None;
                is = new;
                kept = constant_kept op (wrap op.to z) (elementwise_at front back op h s) (in_type_wrap op.to z);
                reads = tt;
                falls = omega arith;
              }
          | false ↦ λ i f.
              let new : with_first op (Number z) ≡ next = cc in
              record {
                code = op.code;
                from = op.from;
                first = Some (Number z);
                second = op.second;
                is = new;
                kept = first_number_kept op z s i (elementwise_at front back op h s) t parts;
                reads = read_second;
                falls = operands_fall (maker_place (front ++ op ∷ back)) op (with_first op (Number z)) refl less;
              }
        ] refl g

-- ---- a copied view is carried

copied_drawn : (front back : List Op) (op : Op) (o : Option Operand) (v : Strided) (k : Copied front o v) → Formed (front ++ op ∷ back) → Among (inputs op) k.view → Drawn front op back k.view v
copied_drawn front back op o v k h at =
    let w : Op = k.writer.op in
    let between : List Op = k.writer.between in
    let pre : List Op = k.found.pre in
    let moved : Formed ((pre ++ w ∷ between) ++ op ∷ back) = subst (λ fs. Formed (fs ++ op ∷ back)) k.found.split h in
    let out = written_out w k.view.base w.out refl k.found.writes in
    let same : identical k.view out.0 ≡ true = one (identical k.view out.0) (ap (λ (u : Option Strided). list_any (identical k.view) (option_to_list u)) (sym out.1) ∙ k.same) in
    subst (λ fs. Drawn fs op back k.view v) (sym k.found.split)
    (drawn pre between back w op out.0 k.view v moved k.found.makes out.1 out.2 at (λ P a. at_first P w v k.source a) (ap (λ c. is_scalar (kind c)) k.code) k.types same k.clean)

pub copy_carried_turns : (front back : List Op) (op next : Op) → Formed (front ++ op ∷ back) → copy_carried front op back ≡ Some next → Turn front op back next
copy_carried_turns front back op next h e = by_first (copied_operand front (op ∷ back) op.first) (copied_operand front (op ∷ back) op.second) refl refl e
  where
    parts : kind_kept op ≡ true
    parts = both_left (kind_kept op) _ (well_at front back op h)

    by_second : (b : Option Strided) → copied_operand front (op ∷ back) op.second ≡ b → second_view op b ≡ Some next → Turn front op back next
    by_second None q g = absurd (cc)
    by_second (Some v) q g =
        let k : Copied front op.second v = copied front (op ∷ back) op.second v q in
        let d : Drawn front op back k.view v = copied_drawn front back op op.second v k h (λ P a. at_second P op k.view k.is a) in
        let new : with_second op (Array v) ≡ next = cc in
        record {
          code = op.code;
          from = op.from;
          first = op.first;
          second = Some (Array v);
          is = new;
          kept = second_view_kept op k.view v k.is d.lengths parts;
          reads = all_join (Reads front op back op.from) (view_of op.first) (v ∷ []) (all_left (Reads front op back op.from) (view_of op.first) (view_of op.second) (reads_of front back op h)) (d.reads, tt);
          falls = operands_fall (maker_place (front ++ op ∷ back)) op (with_second op (Array v)) refl
              (second_less (maker_place (front ++ op ∷ back)) op k.view (Array v) k.is (weigh_lower (maker_place (front ++ op ∷ back)) k.view v d.lower));
        }

    by_first : (a b : Option Strided) → copied_operand front (op ∷ back) op.first ≡ a → copied_operand front (op ∷ back) op.second ≡ b → option_or (first_view op a) (second_view op b) ≡ Some next → Turn front op back next
    by_first None b p q g = by_second b q g
    by_first (Some v) b p q g =
        let k : Copied front op.first v = copied front (op ∷ back) op.first v p in
        let d : Drawn front op back k.view v = copied_drawn front back op op.first v k h (λ P a. at_first P op k.view k.is a) in
        let new : with_first op (Array v) ≡ next = cc in
        record {
          code = op.code;
          from = op.from;
          first = Some (Array v);
          second = op.second;
          is = new;
          kept = first_view_kept op k.view v k.is d.lengths parts;
          reads = (d.reads, all_right (Reads front op back op.from) (view_of op.first) (view_of op.second) (reads_of front back op h));
          falls = operands_fall (maker_place (front ++ op ∷ back)) op (with_first op (Array v)) refl
              (first_less (maker_place (front ++ op ∷ back)) op k.view (Array v) k.is (weigh_lower (maker_place (front ++ op ∷ back)) k.view v d.lower));
        }

-- ---- two constants are joined

beside_weighs : (places : ℕ → ℕ) (first second : Option Operand) (y : Beside) → beside first second ≡ Some y → weigh places (view_of first ++ view_of second) ≡ weigh places (y.view ∷ [])
beside_weighs places (Some (Array x)) (Some (Number c)) y e = ap (λ b. weigh places (view_in b)) e
  where
    view_in : Option Beside → List Strided
    view_in None = []
    view_in (Some b) = b.view ∷ []
beside_weighs places (Some (Number c)) (Some (Array x)) y e = ap (λ b. weigh places (view_in b)) e
  where
    view_in : Option Beside → List Strided
    view_in None = []
    view_in (Some b) = b.view ∷ []
beside_weighs places None second y e = absurd (cc)
beside_weighs places (Some (Array x)) None y e = absurd (cc)
beside_weighs places (Some (Array x)) (Some (Array z)) y e = absurd (cc)
beside_weighs places (Some (Number x)) None y e = absurd (cc)
beside_weighs places (Some (Number x)) (Some (Number z)) y e = absurd (cc)

joined_turn : (front back : List Op) (op next : Op) (x : Beside) → Formed (front ++ op ∷ back) → regroups op.code ≡ true → beside op.first op.second ≡ Some x → Joined front op next x → Turn front op back next
joined_turn front back op next x h re first k =
    let w : Op = k.writer.op in
    let between : List Op = k.writer.between in
    let pre : List Op = k.found.pre in
    let v : Strided = k.source.view in
    let r : Regroups op.code op.to = regroups_of op.code op.to re in
    let moved : Formed ((pre ++ w ∷ between) ++ op ∷ back) = subst (λ fs. Formed (fs ++ op ∷ back)) k.found.split h in
    let out = written_out w x.view.base w.out refl k.found.writes in
    let same : identical x.view out.0 ≡ true = one (identical x.view out.0) (ap (λ (u : Option Strided). list_any (identical x.view) (option_to_list u)) (sym out.1) ∙ k.same) in
    let at : Among (inputs op) x.view = λ P a. beside_input P op.first op.second x first a in
    let well : well_formed w ≡ true = well_w pre between back w op out.0 x.view moved k.found.makes out.1 out.2 at in
    let types : w.to ≡ w.from = r.types w (ap (λ c. types_kept c w) (sym k.code) ∙ types_of w well) in
    let d : Drawn front op back x.view k.source.view =
    subst (λ fs. Drawn fs op back x.view k.source.view) (sym k.found.split)
    (drawn pre between back w op out.0 x.view k.source.view moved k.found.makes out.1 out.2 at (λ P a. beside_input P w.first w.second k.source k.reads a)
    (ap (λ c. is_scalar (kind c)) k.code ∙ r.scalar) (sym types) same k.clean) in
    let el : elementwise op ≡ true = elementwise_at front back op h r.scalar in
    let shaped : Shaped op k.source.view = subst (λ (n : List ℕ). AllByRecursion (λ (o : Strided). same_lists n o.lengths ≡ true) (outputs op)) d.lengths (at (Shaped op) (shaped_all op el)) in
    let to : op.to ≡ op.from = r.types op (types_of op (well_at front back op h)) in
    let number : ℤ = value op.code op.to k.source.number x.number in
    let inside : in_type op.from (value op.code op.to k.source.number x.number) ≡ true =
    subst (λ t. in_type t (value op.code op.to k.source.number x.number) ≡ true) to (in_type_value op.code op.to k.source.number x.number) in
    let lighter : weigh (maker_place (front ++ op ∷ back)) (k.source.view ∷ []) < 1 + maker_place (front ++ op ∷ back) x.view.base = weigh_lower (maker_place (front ++ op ∷ back)) x.view k.source.view d.lower in
    let old : weigh (maker_place (front ++ op ∷ back)) (inputs op) ≡ (1 + maker_place (front ++ op ∷ back) x.view.base) + 0 = beside_weighs (maker_place (front ++ op ∷ back)) op.first op.second x first in
    record {
      code = op.code;
      from = op.from;
      first = Some (Array k.source.view);
      second = Some (Number (value op.code op.to k.source.number x.number));
      is = k.becomes;
      kept = code_kept op op.code k.source.view (Number (value op.code op.to k.source.number x.number)) re
          (elementwise_again op op.code op.from (Some (Array k.source.view)) (Some (Number (value op.code op.to k.source.number x.number))) el (shaped, tt))
          (subst (λ t. same_elem op.to t ≡ true) to (same_itself op.to)) (ap (λ b. b && true) inside);
      reads = (d.reads, tt);
      falls = operands_fall (maker_place (front ++ op ∷ back)) op (code_op op op.code k.source.view (Number (value op.code op.to k.source.number x.number))) refl (omega arith);
    }

pub constants_joined_turns : (front back : List Op) (op next : Op) → Formed (front ++ op ∷ back) → constants_joined front op back ≡ Some next → Turn front op back next
constants_joined_turns front back op next h e =
    elim (regroups op.code) as (λ t. regroups op.code ≡ t → cond t (joined_beside front op back (beside op.first op.second)) None ≡ Some next → Turn front op back next) [
      | false ↦ λ t g. absurd (cc)
      | true ↦ λ t g. by_beside t (beside op.first op.second) refl g
    ] refl e
  where
    by_beside : regroups op.code ≡ true → (b : Option Beside) → beside op.first op.second ≡ b → joined_beside front op back b ≡ Some next → Turn front op back next
    by_beside t None q g = absurd (cc)
    by_beside t (Some x) q g = joined_turn front back op next x h t q (joined_found front (op ∷ back) op next x g)
