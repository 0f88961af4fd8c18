-- The two constants that are joined are of the type of the joined operation.
use Rattle.std.proofs.Common.{◌≡◌, ℤ, List, ◌∷◌, ◌++◌, true, refl, ap, sym, subst, ◌∙◌, Option, Some, None}
use Rattle.std.proofs.lemmas.Bool.{false≢true, eq-eqb}
use Rattle.std.specs.Prelude.{◌==◌}
use Rattle.std.specs.List.{AllByRecursion, list_all}
use Rattle.arr_num.specs.Kinds.{is_binary}
use Rattle.arr_num.specs.Numbers.{in_type, may_stand_right}
use Rattle.arr_num.specs.declared.elem.Elem.{Elem}
use Rattle.arr_num.specs.declared.code.Code.{Code}
use Rattle.arr_num.specs.declared.code.Code.TheVariants.{Add, Multiply, BitwiseAnd, BitwiseOr, BitwiseXor}
use Rattle.arr_view.specs.Strided.{Strided}
use Rattle.arr_ops.specs.Formed.{is_formed, well_formed, types_kept, numbers_kept, numbers_of, same_types}
use Rattle.arr_ops.specs.declared.op.Op.{Op}
use Rattle.arr_ops.specs.declared.op.Operand.{Operand}
use Rattle.arr_ops.specs.declared.op.Operand.TheVariants.{Array, Number}
use Rattle.arr_ops.proofs.Tests.{both_left, both_right}
use Rattle.arr_ops.proofs.Spots.{Formed, formed_of, well_at, types_of, same_elem_is, all_left, all_right, writes_typed}
use Rattle.arr_rewrite.specs.Writers.{Writer, only_writer}
use Rattle.arr_rewrite.specs.NextRewrite.{Beside, beside, regroups, same_code}
use Rattle.arr_rewrite.proofs.Folding.{numbers_of_op}
use Rattle.arr_rewrite.proofs.KeptHistory.{Found, found_before}
use Rattle.arr_rewrite.proofs.KeptConstants.{written_out}
use Rattle.arr_rewrite.proofs.KeptJoins.{beside_input}

-- an operation of a formed list is well formed
pub well_in : (front back : List Op) (op : Op) → is_formed (front ++ op ∷ back) ≡ true → well_formed op ≡ true
well_in front back op h = well_at front back op (formed_of (front ++ op ∷ back) h)

-- ---- codes that regroup

pub record Joinable (code : Code) : Type 0 where
  pub two : is_binary code ≡ true
  pub right : (t : Elem) (z : ℤ) → in_type t z ≡ true → may_stand_right code t z ≡ true
  pub types : (op : Op) → types_kept code op ≡ true → op.to ≡ op.from
  pub first : (op : Op) → numbers_kept code op ≡ true → list_all (in_type op.from) (numbers_of op.first) ≡ true
  pub second : (op : Op) → numbers_kept code op ≡ true → list_all (in_type op.from) (numbers_of op.second) ≡ true

pub joinable : (code : Code) → regroups code ≡ true → Joinable code
joinable Add h = record { two = refl; right = λ t z k. k; types = λ op e. same_elem_is op.to op.from e; first = λ op e. both_left _ (list_all (in_type op.from) (numbers_of op.second)) e; second = λ op e. both_right (list_all (in_type op.from) (numbers_of op.first)) _ e }
joinable Multiply h = record { two = refl; right = λ t z k. k; types = λ op e. same_elem_is op.to op.from e; first = λ op e. both_left _ (list_all (in_type op.from) (numbers_of op.second)) e; second = λ op e. both_right (list_all (in_type op.from) (numbers_of op.first)) _ e }
joinable BitwiseAnd h = record { two = refl; right = λ t z k. k; types = λ op e. same_elem_is op.to op.from e; first = λ op e. both_left _ (list_all (in_type op.from) (numbers_of op.second)) e; second = λ op e. both_right (list_all (in_type op.from) (numbers_of op.first)) _ e }
joinable BitwiseOr h = record { two = refl; right = λ t z k. k; types = λ op e. same_elem_is op.to op.from e; first = λ op e. both_left _ (list_all (in_type op.from) (numbers_of op.second)) e; second = λ op e. both_right (list_all (in_type op.from) (numbers_of op.first)) _ e }
joinable BitwiseXor h = record { two = refl; right = λ t z k. k; types = λ op e. same_elem_is op.to op.from e; first = λ op e. both_left _ (list_all (in_type op.from) (numbers_of op.second)) e; second = λ op e. both_right (list_all (in_type op.from) (numbers_of op.first)) _ e }
joinable _ h = absurd (false≢true h)

one_code : (a b : Code) → same_code a b ≡ true → b ≡ a
one_code Add Add h = refl
one_code Multiply Multiply h = refl
one_code BitwiseAnd BitwiseAnd h = refl
one_code BitwiseOr BitwiseOr h = refl
one_code BitwiseXor BitwiseXor h = refl
one_code _ _ h = absurd (false≢true h)

-- ---- a view and a constant

beside_in : (t : Elem) (first second : Option Operand) (y : Beside) → list_all (in_type t) (numbers_of first) ≡ true → list_all (in_type t) (numbers_of second) ≡ true
    → beside first second ≡ Some y → in_type t y.number ≡ true
beside_in t (Some (Array x)) (Some (Number c)) y f s e =
    let same : record { view = x; number = c } ≡ y = cc in subst (λ (b : Beside). in_type t b.number ≡ true) same (both_left (in_type t c) true s)
beside_in t (Some (Number c)) (Some (Array x)) y f s e =
    let same : record { view = x; number = c } ≡ y = cc in subst (λ (b : Beside). in_type t b.number ≡ true) same (both_left (in_type t c) true f)
beside_in t (Some (Array x)) (Some (Array z)) y f s e = absurd (cc)
beside_in t (Some (Number x)) (Some (Number z)) y f s e = absurd (cc)
beside_in t (Some (Array x)) None y f s e = absurd (cc)
beside_in t (Some (Number x)) None y f s e = absurd (cc)
beside_in t None second y f s e = absurd (cc)

numbers_in : (op : Op) (y : Beside) → well_formed op ≡ true → regroups op.code ≡ true → beside op.first op.second ≡ Some y → in_type op.to y.number ≡ true
numbers_in op y h r e =
    let j : Joinable op.code = joinable op.code r in
    subst (λ t. in_type t y.number ≡ true) (sym (j.types op (types_of op h)))
    (beside_in op.from op.first op.second y (j.first op (numbers_of_op op h)) (j.second op (numbers_of_op op h)) e)

pub read_in : (front back : List Op) (op : Op) (x : Beside) → is_formed (front ++ op ∷ back) ≡ true → regroups op.code ≡ true → beside op.first op.second ≡ Some x → in_type op.to x.number ≡ true
read_in front back op x h r e = numbers_in op x (well_in front back op h) r e

pub source_in : (front back : List Op) (op : Op) (x : Beside) (w : Writer) (y : Beside) → is_formed (front ++ op ∷ back) ≡ true → regroups op.code ≡ true → beside op.first op.second ≡ Some x
    → only_writer front (op ∷ back) x.view.base ≡ Some w → same_code op.code w.op.code ≡ true → beside w.op.first w.op.second ≡ Some y → in_type op.to y.number ≡ true
source_in front back op x w y h r e d c g =
    let f : Found front x.view.base w = found_before front (op ∷ back) x.view.base w d in
    let formed : Formed ((f.pre ++ w.op ∷ w.between) ++ op ∷ back) = subst (λ fs. Formed (fs ++ op ∷ back)) f.split (formed_of (front ++ op ∷ back) h) in
    let well : well_formed w.op ≡ true = (all_right (λ k. well_formed k ≡ true) f.pre (w.op ∷ w.between) (all_left (λ k. well_formed k ≡ true) (f.pre ++ w.op ∷ w.between) (op ∷ back) formed.well)).0 in
    let types : same_types w.op op ≡ true =
    (all_right (λ g. same_types w.op g ≡ true) (f.pre ++ w.op ∷ w.between) (op ∷ back)
    (all_right (λ f'. AllByRecursion (λ g. same_types f' g ≡ true) ((f.pre ++ w.op ∷ w.between) ++ op ∷ back)) f.pre (w.op ∷ w.between)
    (all_left (λ f'. AllByRecursion (λ g. same_types f' g ≡ true) ((f.pre ++ w.op ∷ w.between) ++ op ∷ back)) (f.pre ++ w.op ∷ w.between) (op ∷ back) formed.types)).0).0 in
    let o = written_out w.op x.view.base w.op.out refl f.writes in
    let to : w.op.to ≡ op.from =
    beside_input (λ (u : Strided). (o.0.base == u.base) ≡ true → w.op.to ≡ op.from) op.first op.second x e (writes_typed w.op op types o.0 o.1) (eq-eqb o.0.base x.view.base o.2) in
    let j : Joinable op.code = joinable op.code r in
    subst (λ t. in_type t y.number ≡ true) (to ∙ sym (j.types op (types_of op (well_in front back op h))))
    (numbers_in w.op y well (ap regroups (one_code op.code w.op.code c) ∙ r) g)
