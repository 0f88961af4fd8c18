-- What a formed list and a memory that fits it say of an operation at its position.
use Rattle.std.proofs.Common.{◌≡◌, ℕ, List, [], ◌∷◌, ◌++◌, Bool, true, false, not, ◌||◌, ◌&&◌, refl, ap, sym, subst, ◌∙◌, Option, Some, None, map, length}
use Rattle.std.proofs.lemmas.Bool.{false≢true, eqb-true}
use Rattle.std.specs.Prelude.{◌==◌, is_some, is_none, nat_le}
use Rattle.std.specs.List.{AllByRecursion, list_all, list_any, range_with_len}
use Rattle.std.specs.Option.{option_to_list}
use Rattle.arr_view.specs.Strided.{Strided}
use Rattle.arr_view.specs.Views.{elements, positions, same_lists, is_view, has_rank, strides_kept}
use Rattle.arr_ops.specs.Ops.{outputs, inputs, views, freed}
use Rattle.arr_num.specs.Kinds.{kind, Kind, Binary, Unary, Counting, Reduction, Scan, Ending, Printing}
use Rattle.arr_num.specs.Numbers.{in_type}
use Rattle.arr_ops.specs.Memory.{Memory, Cell, eager}
pub use Rattle.arr_num.specs.Types.{same_elem_is}
use Rattle.arr_ops.specs.Formed.{is_formed, well_formed, inside_made, same_types, typed, may_precede, slot_numbers, kind_kept, operands_kept, types_kept, elementwise, plain, same_shape, same_elem}
use Rattle.arr_ops.specs.Fits.{fits, op_fits, needs, Need, meets_need}
use Rattle.arr_ops.specs.Ops.{creates, makes_base}
use Rattle.arr_num.specs.declared.elem.Elem.{Elem}
use Rattle.arr_ops.specs.declared.op.Op.{Op}
use Rattle.arr_ops.proofs.Pairs.{Pairs, All_weaker}
use Rattle.arr_ops.proofs.Tests.{both_left, both_right, all_of, pairs_of, same_from_test, or_cases}
use Rattle.arr_ops.proofs.Lengths.{length-elements}
use Rattle.arr_ops.proofs.Typed.{AllIn, CellFits, Suits, Computes, eager_fits}

-- ---- lists

pub all_left : {X : Type 0} (P : X → Type 0) (xs ys : List X) → AllByRecursion P (xs ++ ys) → AllByRecursion P xs
all_left P [] ys h = tt
all_left P (x ∷ xs) ys h = (h.0, all_left P xs ys h.1)

pub all_right : {X : Type 0} (P : X → Type 0) (xs ys : List X) → AllByRecursion P (xs ++ ys) → AllByRecursion P ys
all_right P [] ys h = h
all_right P (x ∷ xs) ys h = all_right P xs ys h.1

pub all_mapped : {X Y : Type 0} (P : Y → Type 0) (f : X → Y) (xs : List X) → AllByRecursion P (map f xs) → AllByRecursion (λ x. P (f x)) xs
all_mapped P f [] h = tt
all_mapped P f (x ∷ xs) h = (h.0, all_mapped P f xs h.1)

pub all_two : {X : Type 0} (P Q R : X → Type 0) → ((x : X) → P x → Q x → R x) → (xs : List X) → AllByRecursion P xs → AllByRecursion Q xs → AllByRecursion R xs
all_two P Q R f [] a b = tt
all_two P Q R f (x ∷ xs) a b = (f x a.0 b.0, all_two P Q R f xs a.1 b.1)

pub pairs_before : {X : Type 0} (R : X → X → Type 0) (xs : List X) (y : X) (ys : List X) → Pairs R (xs ++ y ∷ ys) → AllByRecursion (λ x. R x y) xs
pairs_before R [] y ys h = tt
pairs_before R (x ∷ xs) y ys h = ((all_right (R x) xs (y ∷ ys) h.0).0, pairs_before R xs y ys h.1)

pub pairs_after : {X : Type 0} (R : X → X → Type 0) (xs : List X) (y : X) (ys : List X) → Pairs R (xs ++ y ∷ ys) → AllByRecursion (R y) ys
pairs_after R [] y ys h = h.0
pairs_after R (x ∷ xs) y ys h = pairs_after R xs y ys h.1

pub none_from : {X : Type 0} (x : Option X) → is_none x ≡ true → x ≡ None
none_from None h = refl
none_from (Some y) h = absurd (false≢true h)

-- ---- a formed list, its rules by name

pub record Formed (list : List Op) : Type 0 where
  pub well : AllByRecursion (λ f. well_formed f ≡ true) list
  pub inside : AllByRecursion (λ f. AllByRecursion (λ g. inside_made f g ≡ true) list) list
  pub types : AllByRecursion (λ f. AllByRecursion (λ g. same_types f g ≡ true) list) list
  pub order : Pairs (λ f g. may_precede f g ≡ true) list

pub formed_of : (list : List Op) → is_formed list ≡ true → Formed list
formed_of list e =
    let a = both_right (list_all well_formed list) _ e in
    let b = both_right (same_lists (slot_numbers list) (range_with_len 1 (length (slot_numbers list)))) _ a in
    let c = both_right (list_all (λ f. list_all (inside_made f) list) list) _ b in
    let i = both_left (list_all (λ f. list_all (inside_made f) list) list) _ b in
    let t = both_left (list_all (λ f. list_all (same_types f) list) list) _ c in
    record {
      well = all_of well_formed list (both_left (list_all well_formed list) _ e);
      inside = All_weaker (λ f. list_all (inside_made f) list ≡ true) (λ f. AllByRecursion (λ g. inside_made f g ≡ true) list) (λ f h. all_of (inside_made f) list h) list (all_of (λ f. list_all (inside_made f) list) list i);
      types = All_weaker (λ f. list_all (same_types f) list ≡ true) (λ f. AllByRecursion (λ g. same_types f g ≡ true) list) (λ f h. all_of (same_types f) list h) list (all_of (λ f. list_all (same_types f) list) list t);
      order = pairs_of may_precede list (both_right (list_all (λ f. list_all (same_types f) list) list) _ c);
    }

-- ---- an element-wise operation

-- of one or two inputs, position by position
abbrev pub is_scalar : Kind → Bool
is_scalar Binary = true
is_scalar Unary = true
is_scalar _ = false

pub record Plain (op : Op) (o : Strided) : Type 0 where
  pub out : op.out ≡ Some o
  pub no_slot : op.slot ≡ None
  pub no_free : op.frees ≡ None
  pub shapes : AllByRecursion (λ (v : Strided). v.lengths ≡ o.lengths) (inputs op)
  pub sizes : AllByRecursion (λ (v : Strided). length (elements v) ≡ positions o.lengths) (inputs op)

pub strides_of : (v : Strided) → is_view v ≡ true → strides_kept v.lengths v.strides ≡ true
strides_of v e =
    let a = both_right (has_rank v.lengths) _ e in
    let b = both_right (list_all (nat_le 1) v.lengths) _ a in
    both_left (strides_kept v.lengths v.strides) _ b

pub views_of : (op : Op) → well_formed op ≡ true → AllByRecursion (λ v. is_view v ≡ true) (views op)
views_of op e = all_of is_view (views op) (both_left (list_all is_view (views op)) _ (both_right (kind_kept op) _ e))

pub operands_of : (op : Op) → well_formed op ≡ true → operands_kept (kind op.code) op ≡ true
operands_of op e = both_left (operands_kept (kind op.code) op) _ (both_left (kind_kept op) _ e)

pub types_of : (op : Op) → well_formed op ≡ true → types_kept op.code op ≡ true
types_of op e = both_left (types_kept op.code op) _ (both_right (operands_kept (kind op.code) op) _ (both_left (kind_kept op) _ e))

pub scalar_elementwise : (k : Kind) (op : Op) → is_scalar k ≡ true → operands_kept k op ≡ true → elementwise op ≡ true
scalar_elementwise Binary op s h = both_left (elementwise op) _ h
scalar_elementwise Unary op s h = both_left (elementwise op) _ h
scalar_elementwise _ op s h = absurd (false≢true s)

shapes_of : (op : Op) (out : Option Strided) (o : Strided) → out ≡ Some o → list_all (λ (u : Strided). same_shape u.lengths (inputs op)) (option_to_list out) ≡ true → same_shape o.lengths (inputs op) ≡ true
shapes_of op None o e h = absurd (cc)
shapes_of op (Some u) o e h = ap (λ (w : Option Strided). shaped w) (sym e) ∙ both_left (same_shape u.lengths (inputs op)) true h
  where
    shaped : Option Strided → Bool
    shaped None = true
    shaped (Some w) = same_shape w.lengths (inputs op)

pub plain_at : (op : Op) (o : Strided) → op.out ≡ Some o → well_formed op ≡ true → elementwise op ≡ true → Plain op o
plain_at op o out well h =
    let p : plain op ≡ true = both_left (plain op) _ h in
    let q = both_right (is_none op.axis) _ p in
    let s = both_right (is_some op.out) _ (both_right (plain op) _ h) in
    let shape : AllByRecursion (λ (v : Strided). same_lists v.lengths o.lengths ≡ true) (inputs op) = all_of (λ (v : Strided). same_lists v.lengths o.lengths) (inputs op) (shapes_of op op.out o out s) in
    let shapes : AllByRecursion (λ (v : Strided). v.lengths ≡ o.lengths) (inputs op) =
    All_weaker (λ (v : Strided). same_lists v.lengths o.lengths ≡ true) (λ (v : Strided). v.lengths ≡ o.lengths) (λ v e. same_from_test v.lengths o.lengths e) (inputs op) shape in
    let seen : AllByRecursion (λ v. is_view v ≡ true) (inputs op) = all_right (λ v. is_view v ≡ true) (outputs op) (inputs op) (views_of op well) in
    record {
      out = out;
      no_slot = none_from op.slot (both_left (is_none op.slot) _ q);
      no_free = none_from op.frees (both_right (is_none op.slot) _ q);
      shapes = shapes;
      sizes = all_two (λ (v : Strided). v.lengths ≡ o.lengths) (λ v. is_view v ≡ true) (λ (v : Strided). length (elements v) ≡ positions o.lengths)
          (λ v a b. length-elements v (strides_of v b) ∙ ap positions a) (inputs op) shapes seen;
    }

-- ---- what an operation reads is of its type

pub computes_of : (k : Kind) (f : Op) (o : Strided) → f.out ≡ Some o → operands_kept k f ≡ true → Computes k
computes_of Binary f o e h = tt
computes_of Unary f o e h = tt
computes_of Counting f o e h = tt
computes_of Reduction f o e h = tt
computes_of Scan f o e h = tt
computes_of Ending f o e h = tt
computes_of Printing f o e h =
    let a = both_left (is_none f.out) _ (both_right _ (is_none f.out && _) (both_right (is_some f.slot) _ h)) in
    absurd (false≢true (ap is_none (sym e) ∙ a))

abbrev pub output_type : Option Strided → Elem → List (ℕ × Elem)
output_type out t = map (λ (v : Strided). (v.base, t)) (option_to_list out)

-- f writes what op reads at op's type
typed_alike : (f op : Op) (o v : Strided) → f.out ≡ Some o → AllByRecursion (λ (q : ℕ × Elem). (not (o.base == q.0) || same_elem f.to q.1) ≡ true) (typed op)
    → AllByRecursion (λ (w : Strided). (o.base == w.base) ≡ true → f.to ≡ op.from) (inputs op)
typed_alike f op o v e h =
    let P : ℕ × Elem → Type 0 = λ (q : ℕ × Elem). (not (o.base == q.0) || same_elem f.to q.1) ≡ true in
    let a = all_left P _ (map (λ b. (b, op.to)) (freed op)) h in
    let c = all_right P (map (λ (w : Strided). (w.base, op.to)) (outputs op)) (map (λ (w : Strided). (w.base, op.from)) (inputs op)) a in
    All_weaker (λ (w : Strided). (not (o.base == w.base) || same_elem f.to op.from) ≡ true) (λ (w : Strided). (o.base == w.base) ≡ true → f.to ≡ op.from)
    (λ w t s. same_elem_is f.to op.from (ap (λ k. not k || same_elem f.to op.from) (sym s) ∙ t)) (inputs op) (all_mapped P (λ (w : Strided). (w.base, op.from)) (inputs op) c)

pub first_typed : (f op : Op) (out : Option Strided) (o : Strided) → out ≡ Some o
    → AllByRecursion (λ (p : ℕ × Elem). list_all (λ (q : ℕ × Elem). not (p.0 == q.0) || same_elem p.1 q.1) (typed op) ≡ true) (output_type out f.to)
    → AllByRecursion (λ (q : ℕ × Elem). (not (o.base == q.0) || same_elem f.to q.1) ≡ true) (typed op)
first_typed f op None o e h = absurd (cc)
first_typed f op (Some u) o e h =
    let same : u ≡ o = cc in
    subst (λ (w : Strided). AllByRecursion (λ (q : ℕ × Elem). (not (w.base == q.0) || same_elem f.to q.1) ≡ true) (typed op)) same
    (all_of (λ (q : ℕ × Elem). not (u.base == q.0) || same_elem f.to q.1) (typed op) h.0)

-- f writes what op reads at op's type
pub writes_typed : (f op : Op) → same_types f op ≡ true → (o : Strided) → f.out ≡ Some o → AllByRecursion (λ (w : Strided). (o.base == w.base) ≡ true → f.to ≡ op.from) (inputs op)
writes_typed f op h o e =
    let P : ℕ × Elem → Type 0 = λ (p : ℕ × Elem). list_all (λ (q : ℕ × Elem). not (p.0 == q.0) || same_elem p.1 q.1) (typed op) ≡ true in
    let a : AllByRecursion P (typed f) = all_of (λ (p : ℕ × Elem). list_all (λ (q : ℕ × Elem). not (p.0 == q.0) || same_elem p.1 q.1) (typed op)) (typed f) h in
    let c = all_left P _ (map (λ b. (b, f.to)) (freed f)) a in
    let d : AllByRecursion P (output_type f.out f.to) = all_left P (map (λ (w : Strided). (w.base, f.to)) (outputs f)) (map (λ (w : Strided). (w.base, f.from)) (inputs f)) c in
    typed_alike f op o o e (first_typed f op f.out o e d)

turn : {X : Type 0} {Y : Type 0} (R : X → Y → Type 0) (xs : List X) (ys : List Y) → AllByRecursion (λ x. AllByRecursion (R x) ys) xs → AllByRecursion (λ y. AllByRecursion (λ x. R x y) xs) ys
turn R xs [] h = tt
turn R xs (y ∷ ys) h = (heads xs h, turn R xs ys (tails xs h))
  where
    heads : (zs : List _) → AllByRecursion (λ x. AllByRecursion (R x) (y ∷ ys)) zs → AllByRecursion (λ x. R x y) zs
    heads [] h = tt
    heads (z ∷ zs) h = (h.0.0, heads zs h.1)

    tails : (zs : List _) → AllByRecursion (λ x. AllByRecursion (R x) (y ∷ ys)) zs → AllByRecursion (λ x. AllByRecursion (R x) ys) zs
    tails [] h = tt
    tails (z ∷ zs) h = (h.0.1, tails zs h.1)

suits_all : (f op : Op) → well_formed f ≡ true → same_types f op ≡ true → AllByRecursion (λ (v : Strided). Suits op.from v.base f) (inputs op)
suits_all f op well h = gather (inputs op) (λ o e. writes_typed f op h o e)
  where
    gather : (vs : List Strided) → ((o : Strided) → f.out ≡ Some o → AllByRecursion (λ (w : Strided). (o.base == w.base) ≡ true → f.to ≡ op.from) vs) → AllByRecursion (λ (v : Strided). Suits op.from v.base f) vs
    gather [] k = tt
    gather (v ∷ vs) k =
        (record { typed = λ o p q. ((k o p).0 q, computes_of (kind f.code) f o p (operands_of f well)) }, gather vs (λ o p. (k o p).1))

-- ---- the memory that the list runs from

absent_made : (m : Memory) (b : ℕ) (out : Option Strided) (makes : Bool) → (not makes || list_all (λ (o : Strided). is_none (m.bases o.base)) (option_to_list out)) ≡ true
    → (makes && list_any (λ (o : Strided). o.base == b) (option_to_list out)) ≡ true → m.bases b ≡ None
absent_made m b out false h e = absurd (false≢true e)
absent_made m b None true h e = absurd (false≢true e)
absent_made m b (Some o) true h e =
    let t : (o.base == b) ≡ true = or_cases (o.base == b) false e (λ t. t) (λ t. absurd (false≢true t)) in
    ap m.bases (sym (eqb-true o.base b t)) ∙ none_from (m.bases o.base) (both_left (is_none (m.bases o.base)) true h)

pub created_absent : (m : Memory) (b : ℕ) (list fs : List Op) → AllByRecursion (λ f. op_fits m list f ≡ true) fs → creates fs b ≡ true → m.bases b ≡ None
created_absent m b list [] h e = absurd (false≢true e)
created_absent m b list (f ∷ fs) h e =
    let a = both_right (list_all (λ (n : Need). creates list n.base || meets_need (m.bases n.base) n) (needs f)) _ h.0 in
    let c = both_right (list_all (λ s. is_none (m.slots s)) (option_to_list f.slot)) _ a in
    or_cases (makes_base f b) (creates fs b) e (λ t. absent_made m b f.out f.makes c t) (λ t. created_absent m b list fs h.1 t)

cell_of_need : (c : Option Cell) (n : Need) → meets_need c n ≡ true → CellFits n.elem c
cell_of_need None n h = tt
cell_of_need (Some c) n h =
    let e : c.elem ≡ n.elem = same_elem_is c.elem n.elem (both_left (same_elem c.elem n.elem) _ h) in
    let a : AllIn c.elem c.numbers = all_of (in_type c.elem) c.numbers (both_left (list_all (in_type c.elem) c.numbers) _ (both_right (same_elem c.elem n.elem) _ h)) in
    (e, subst (λ t. AllIn t c.numbers) e a)

start_fits : (m : Memory) (list : List Op) (op : Op) → AllByRecursion (λ f. op_fits m list f ≡ true) list → op_fits m list op ≡ true → AllByRecursion (λ (v : Strided). CellFits op.from (m.bases v.base)) (inputs op)
start_fits m list op all h =
    let test : Need → Bool = λ (n : Need). creates list n.base || meets_need (m.bases n.base) n in
    let a : AllByRecursion (λ n. test n ≡ true) (needs op) = all_of test (needs op) (both_left (list_all test (needs op)) _ h) in
    let c = all_left (λ n. test n ≡ true) _ (map (λ b. record { base = b; elem = op.to; places = [] }) (freed op)) a in
    let d = all_right (λ n. test n ≡ true) (map (λ (v : Strided). record { base = v.base; elem = op.to; places = elements v }) (outputs op)) (map (λ (v : Strided). record { base = v.base; elem = op.from; places = elements v }) (inputs op)) c in
    let e = all_mapped (λ n. test n ≡ true) (λ (v : Strided). record { base = v.base; elem = op.from; places = elements v }) (inputs op) d in
    All_weaker (λ (v : Strided). test (record { base = v.base; elem = op.from; places = elements v }) ≡ true) (λ (v : Strided). CellFits op.from (m.bases v.base))
    (λ v t. or_cases (creates list v.base) (meets_need (m.bases v.base) (record { base = v.base; elem = op.from; places = elements v })) t
    (λ s. subst (CellFits op.from) (sym (created_absent m v.base list list all s)) tt)
    (λ s. cell_of_need (m.bases v.base) (record { base = v.base; elem = op.from; places = elements v }) s)) (inputs op) e

pub held : (m : Memory) (front back : List Op) (op : Op) → Formed (front ++ op ∷ back) → fits m (front ++ op ∷ back) ≡ true
    → AllByRecursion (λ (v : Strided). CellFits op.from ((eager m front).bases v.base)) (inputs op)
held m front back op formed fit =
    let list : List Op = front ++ op ∷ back in
    let all : AllByRecursion (λ f. op_fits m list f ≡ true) list = all_of (op_fits m list) list fit in
    let start : AllByRecursion (λ (v : Strided). CellFits op.from (m.bases v.base)) (inputs op) = start_fits m list op all (all_right (λ f. op_fits m list f ≡ true) front (op ∷ back) all).0 in
    let well : AllByRecursion (λ f. well_formed f ≡ true) front = all_left (λ f. well_formed f ≡ true) front (op ∷ back) formed.well in
    let types : AllByRecursion (λ f. AllByRecursion (λ g. same_types f g ≡ true) list) front = all_left (λ f. AllByRecursion (λ g. same_types f g ≡ true) list) front (op ∷ back) formed.types in
    let suits : AllByRecursion (λ f. AllByRecursion (λ (v : Strided). Suits op.from v.base f) (inputs op)) front =
    all_two (λ f. well_formed f ≡ true) (λ f. AllByRecursion (λ g. same_types f g ≡ true) list) (λ f. AllByRecursion (λ (v : Strided). Suits op.from v.base f) (inputs op))
    (λ f w t. suits_all f op w (all_right (λ g. same_types f g ≡ true) front (op ∷ back) t).0) front well types in
    all_two (λ (v : Strided). CellFits op.from (m.bases v.base)) (λ (v : Strided). AllByRecursion (λ f. Suits op.from v.base f) front) (λ (v : Strided). CellFits op.from ((eager m front).bases v.base))
    (λ v c s. eager_fits op.from v.base front m s c) (inputs op) start (turn (λ f (v : Strided). Suits op.from v.base f) front (inputs op) suits)

pub well_at : (front back : List Op) (op : Op) → Formed (front ++ op ∷ back) → well_formed op ≡ true
well_at front back op formed = (all_right (λ f. well_formed f ≡ true) front (op ∷ back) formed.well).0

-- an operation with an output
pub by_output : (P : Op → Type 0) (op : Op) → ((o : Strided) → op.out ≡ Some o → P op) → is_some op.out ≡ true → P op
by_output P op f h = at op.out refl h
  where
    at : (out : Option Strided) → op.out ≡ out → is_some out ≡ true → P op
    at None e h = absurd (false≢true h)
    at (Some o) e h = f o e
