-- Two constants joined keep the memory that a formed list leaves.
use Rattle.std.proofs.Common.{◌≡◌, List, ◌∷◌, ◌++◌, true, false, cond, ◌&&◌, refl, ap, sym, subst, ◌∙◌, Option, Some, None}
use Rattle.std.proofs.lemmas.Bool.{false≢true, eq-eqb}
use Rattle.std.specs.Prelude.{◌==◌, is_some}
use Rattle.std.specs.List.{AllByRecursion, list_any}
use Rattle.std.specs.Option.{option_to_list}
use Rattle.arr_view.specs.Strided.{Strided}
use Rattle.arr_view.specs.Views.{has, positions, identical}
use Rattle.arr_ops.specs.Ops.{outputs, named, view_of}
use Rattle.arr_num.specs.Kinds.{kind}
use Rattle.arr_num.specs.Numbers.{value}
use Rattle.arr_ops.specs.Memory.{Memory, eager, step, out_lengths}
use Rattle.arr_ops.specs.Formed.{elementwise, plain, well_formed, types_kept, same_types}
use Rattle.arr_ops.proofs.Spots.{is_scalar, Formed, well_at, Plain, plain_at, operands_of, types_of, scalar_elementwise, by_output, same_elem_is, all_left, all_right, writes_typed}
use Rattle.arr_rewrite.specs.Writers.{Writer, only_writer, unwritten_base, unspoiled}
use Rattle.arr_rewrite.specs.NextRewrite.{Beside, beside, same_code, joined, joined_to, joined_beside, constants_joined, regroups}
use Rattle.arr_rewrite.specs.Rules.{code_op}
use Rattle.arr_num.specs.declared.elem.Elem.{Elem}
use Rattle.arr_num.specs.declared.code.Code.{Code}
use Rattle.arr_num.specs.declared.code.Code.TheVariants.{Add, Multiply, BitwiseAnd, BitwiseOr, BitwiseXor}
use Rattle.arr_ops.specs.declared.op.Op.{Op}
use Rattle.arr_ops.specs.declared.op.Operand.{Operand}
use Rattle.arr_ops.specs.declared.op.Operand.TheVariants.{Array, Number}
use Rattle.arr_ops.proofs.Tests.{both_left, both_right}
use Rattle.arr_rewrite.proofs.Agree.{eager-append}
use Rattle.arr_rewrite.proofs.Options.{some_true, some_same}
use Rattle.arr_rewrite.proofs.Replace.{walk_length}
use Rattle.arr_rewrite.proofs.Joins.{Joins, joins_add, joins_and, joins_or, joins_xor, joins_multiply}
use Rattle.arr_rewrite.proofs.Kept.{same_step}
use Rattle.arr_rewrite.proofs.KeptHistory.{Found, found_before, inputs_named}
use Rattle.arr_rewrite.proofs.KeptConstants.{written_out}
use Rattle.arr_rewrite.proofs.KeptCopies.{Traced, traced}
use Rattle.arr_rewrite.proofs.History.{constants_shown}
use Rattle.arr_rewrite.proofs.Parts.{one}

-- what a code is whose constants are joined
pub record Regroups (code : Code) (t : Elem) : Type 0 where
  pub joins : Joins code t
  pub scalar : is_scalar (kind code) ≡ true
  pub types : (op : Op) → types_kept code op ≡ true → op.to ≡ op.from

pub regroups_of : (code : Code) (t : Elem) → regroups code ≡ true → Regroups code t
regroups_of Add t h = record { joins = joins_add t; scalar = refl; types = λ op e. same_elem_is op.to op.from e }
regroups_of Multiply t h = record { joins = joins_multiply t; scalar = refl; types = λ op e. same_elem_is op.to op.from e }
regroups_of BitwiseAnd t h = record { joins = joins_and t; scalar = refl; types = λ op e. same_elem_is op.to op.from e }
regroups_of BitwiseOr t h = record { joins = joins_or t; scalar = refl; types = λ op e. same_elem_is op.to op.from e }
regroups_of BitwiseXor t h = record { joins = joins_xor t; scalar = refl; types = λ op e. same_elem_is op.to op.from e }
regroups_of _ t h = absurd (false≢true h)

same_code_is : (a b : Code) → same_code a b ≡ true → b ≡ a
same_code_is Add Add h = refl
same_code_is Multiply Multiply h = refl
same_code_is BitwiseAnd BitwiseAnd h = refl
same_code_is BitwiseOr BitwiseOr h = refl
same_code_is BitwiseXor BitwiseXor h = refl
same_code_is _ _ h = absurd (false≢true h)

-- the view beside the constant is an input
pub beside_input : (P : Strided → Type 0) (first second : Option Operand) (y : Beside) → beside first second ≡ Some y → AllByRecursion P (view_of first ++ view_of second) → P y.view
beside_input P (Some (Array x)) (Some (Number c)) y e h = let same : x ≡ y.view = ap view_in e in subst P same h.0
  where
    view_in : Option Beside → Strided
    view_in None = x
    view_in (Some b) = b.view
beside_input P (Some (Number c)) (Some (Array x)) y e h = let same : x ≡ y.view = ap view_in e in subst P same h.0
  where
    view_in : Option Beside → Strided
    view_in None = x
    view_in (Some b) = b.view
beside_input P None second y e h = absurd (cc)
beside_input P (Some (Array x)) None y e h = absurd (cc)
beside_input P (Some (Array x)) (Some (Array z)) y e h = absurd (cc)
beside_input P (Some (Number x)) None y e h = absurd (cc)
beside_input P (Some (Number x)) (Some (Number z)) y e h = absurd (cc)

pub record Joined (front : List Op) (op next : Op) (x : Beside) : Type 0 where
  pub writer : Writer
  pub found : Found front x.view.base writer
  pub code : writer.op.code ≡ op.code
  pub same : list_any (identical x.view) (outputs writer.op) ≡ true
  pub source : Beside
  pub reads : beside writer.op.first writer.op.second ≡ Some source
  pub clean : unspoiled writer.between source.view ≡ true
  pub becomes : code_op op op.code source.view (Number (value op.code op.to source.number x.number)) ≡ next

pub joined_found : (front back : List Op) (op next : Op) (x : Beside) → joined_to op x (only_writer front back x.view.base) ≡ Some next → Joined front op next x
joined_found front back op next x e =
    elim (only_writer front back x.view.base) as (λ k. only_writer front back x.view.base ≡ k → joined_to op x k ≡ Some next → Joined front op next x) [
      | None ↦ λ d g. absurd (cc)
      | Some w ↦ λ d g.
          elim (same_code op.code w.op.code && list_any (identical x.view) (outputs w.op))
          as (λ t. (same_code op.code w.op.code && list_any (identical x.view) (outputs w.op)) ≡ t → cond t (joined op x.number w.between (beside w.op.first w.op.second)) None ≡ Some next → Joined front op next x) [
            | false ↦ λ t f. absurd (cc)
            | true ↦ λ t f.
                elim (beside w.op.first w.op.second) as (λ b. beside w.op.first w.op.second ≡ b → joined op x.number w.between b ≡ Some next → Joined front op next x) [
                  | None ↦ λ q r. absurd (cc)
                  | Some y ↦ λ q r. record {
                    writer = w;
                    found = found_before front back x.view.base w d;
                    code = same_code_is op.code w.op.code (both_left (same_code op.code w.op.code) (list_any (identical x.view) (outputs w.op)) t);
                    same = both_right (same_code op.code w.op.code) (list_any (identical x.view) (outputs w.op)) t;
                    source = y;
                    reads = q;
                    clean = some_true (unspoiled w.between y.view) (code_op op op.code y.view (Number (value op.code op.to y.number x.number))) next r;
                    becomes = some_same (unspoiled w.between y.view) (code_op op op.code y.view (Number (value op.code op.to y.number x.number))) next r;
                  }
                ] refl f
          ] refl g
    ] refl e

joined_step : (m : Memory) (front back : List Op) (op next : Op) (x : Beside) → Formed (front ++ op ∷ back) → regroups op.code ≡ true → beside op.first op.second ≡ Some x
    → Joined front op next x → step (eager m front) op ≡ step (eager m front) next
joined_step m front back op next x formed re first k =
    let w : Op = k.writer.op in
    let between : List Op = k.writer.between in
    let pre : List Op = k.found.pre in
    let r : Regroups op.code op.to = regroups_of op.code op.to re in
    let moved : Formed ((pre ++ w ∷ between) ++ op ∷ back) = subst (λ fs. Formed (fs ++ op ∷ back)) k.found.split formed in
    let well : well_formed op ≡ true = well_at front back op formed in
    let el : elementwise op ≡ true = scalar_elementwise (kind op.code) op r.scalar (operands_of op well) in
    let out = written_out w x.view.base w.out refl k.found.writes in
    let same : identical x.view out.0 ≡ true = one (identical x.view out.0) (ap (λ (u : Option Strided). list_any (identical x.view) (option_to_list u)) (sym out.1) ∙ k.same) in
    let t : Traced w out.0 x.view k.source.view between =
    traced pre between back w op out.0 x.view k.source.view moved k.found.makes out.1 (ap (λ c. is_scalar (kind c)) k.code ∙ r.scalar) same (ap (unwritten_base between) out.2 ∙ k.found.alone)
    (beside_input (λ (u : Strided). has (named op) u.base ≡ true) op.first op.second x first (inputs_named op)) k.clean (λ P h. beside_input P w.first w.second k.source k.reads h) in
    let types : same_types w op ≡ true =
    (all_right (λ g. same_types w g ≡ true) (pre ++ w ∷ between) (op ∷ back)
    (all_right (λ f. AllByRecursion (λ g. same_types f g ≡ true) ((pre ++ w ∷ between) ++ op ∷ back)) pre (w ∷ between)
    (all_left (λ f. AllByRecursion (λ g. same_types f g ≡ true) ((pre ++ w ∷ between) ++ op ∷ back)) (pre ++ w ∷ between) (op ∷ back) moved.types)).0).0 in
    let to : w.to ≡ op.from =
    beside_input (λ (u : Strided). (out.0.base == u.base) ≡ true → w.to ≡ op.from) op.first op.second x first (writes_typed w op types out.0 out.1) (eq-eqb out.0.base x.view.base out.2) in
    let walk : (op.slot ≡ None) × (walk_length op ≡ positions out.0.lengths) =
    by_output (λ f. (op.slot ≡ None) × (walk_length op ≡ positions out.0.lengths)) op
    (λ o e. let p : Plain op o = plain_at op o e well el in
    (p.no_slot, ap (λ u. positions (out_lengths u)) e ∙ ap positions (sym (beside_input (λ (u : Strided). u.lengths ≡ o.lengths) op.first op.second x first p.shapes) ∙ t.shape_x)))
    (both_left (is_some op.out) _ (both_right (plain op) _ el)) in
    let there : eager m front ≡ eager (step (eager m pre) w) between = ap (eager m) k.found.split ∙ eager-append m pre (w ∷ between) in
    subst (λ (n : Memory). step n op ≡ step n (code_op op op.code k.source.view (Number (value op.code op.to k.source.number x.number)))) (sym there)
    (constants_shown (eager m pre) w op out.0 x k.source between t.wrote k.code (to ∙ sym (r.types op (types_of op well))) r.scalar r.joins walk.0 first k.reads t.base t.whole t.size walk.1 t.spared_w t.spared)
    ∙ ap (step (eager m front)) k.becomes

pub constants_joined_keeps : (m : Memory) (front back : List Op) (op next : Op) → Formed (front ++ op ∷ back)
    → constants_joined front op back ≡ Some next → eager m (front ++ op ∷ back) ≡ eager m (front ++ next ∷ back)
constants_joined_keeps m front back op next formed e =
    elim (regroups op.code) as (λ t. regroups op.code ≡ t → cond t (joined_beside front op back (beside op.first op.second)) None ≡ Some next → eager m (front ++ op ∷ back) ≡ eager m (front ++ next ∷ back)) [
      | false ↦ λ t g. absurd (cc)
      | true ↦ λ t g. same_step m front back op next (by_beside t (beside op.first op.second) refl g)
    ] refl e
  where
    by_beside : regroups op.code ≡ true → (b : Option Beside) → beside op.first op.second ≡ b → joined_beside front op back b ≡ Some next → step (eager m front) op ≡ step (eager m front) next
    by_beside t None q g = absurd (cc)
    by_beside t (Some x) q g = joined_step m front back op next x formed t q (joined_found front (op ∷ back) op next x g)
