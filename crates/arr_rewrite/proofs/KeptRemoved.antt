-- The rules that remove operations keep the memory that a formed list leaves.
use Rattle.std.proofs.Common.{◌≡◌, ℕ, List, [], ◌∷◌, ◌++◌, Bool, true, false, cond, not, ◌||◌, ◌&&◌, refl, ap, ap₂, sym, subst, ◌∙◌, Option, Some, None}
use Rattle.std.proofs.lemmas.Bool.{false≢true, eqb-true, eq-eqb, ne_eqb, eqb-false}
use Rattle.std.specs.Prelude.{◌==◌, is_some, is_none, nat_eq}
use Rattle.std.specs.List.{AllByRecursion, list_all, list_any}
use Rattle.std.specs.Option.{option_to_list}
use Rattle.arr_view.specs.Strided.{Strided}
use Rattle.arr_view.specs.Views.{elements, has, same_lists, identical, repeated, is_view}
use Rattle.arr_ops.specs.Ops.{outputs, inputs, views, freed, named, view_of, some_pair, makes_base, creates}
use Rattle.arr_num.specs.Kinds.{kind, Kind, Binary, Unary, Counting, Reduction, Scan, Ending, Printing}
use Rattle.arr_ops.specs.Memory.{Memory, Keeps, Drops, Becomes, Writes, eager, output_change}
use Rattle.arr_ops.specs.Formed.{elementwise, plain, well_formed, operands_kept, along_axis, dropped_axis, is_array, same_types, is_whole, kind_kept}
use Rattle.arr_ops.specs.Fits.{fits, op_fits}
use Rattle.arr_rewrite.specs.Rules.{copies_itself, is_identity}
use Rattle.arr_ops.proofs.Spots.{Formed, held, well_at, Plain, plain_at, operands_of, none_from, writes_typed, all_right, all_two, created_absent}
use Rattle.arr_rewrite.specs.NextRewrite.{unused, unfreed, only_freed, frees_base}
use Rattle.arr_num.specs.declared.code.Code.{Code}
use Rattle.arr_num.specs.declared.code.Code.TheVariants.{Identity}
use Rattle.arr_ops.specs.declared.op.Op.{Op}
use Rattle.arr_ops.specs.declared.op.Operand.{Operand}
use Rattle.arr_ops.specs.declared.op.Operand.TheVariants.{Array, Number}
use Rattle.arr_ops.proofs.Pairs.{All_weaker}
use Rattle.arr_ops.proofs.Tests.{both_left, both_right, all_of, same_from_test, or_cases}
use Rattle.arr_rewrite.proofs.Agree.{eager-append, Unnamed, unnamed_test, Leaves, base_left}
use Rattle.arr_ops.proofs.Typed.{CellFits}
use Rattle.arr_rewrite.proofs.Options.{some_true, some_same}
use Rattle.arr_rewrite.proofs.Removed.{copy_to_itself, OnlyTo, Passes, unused_removed}
use Rattle.arr_rewrite.proofs.Parts.{at_first}

pub identity_is : (code : Code) → is_identity code ≡ true → code ≡ Identity
identity_is Identity h = refl
identity_is _ h = absurd (false≢true h)

-- ---- a copy of a view to itself

-- the output and the input of a copy to itself
pub record ToItself (op : Op) : Type 0 where
  pub o : Strided
  pub v : Strided
  pub out : op.out ≡ Some o
  pub first : op.first ≡ Some (Array v)
  pub second : op.second ≡ None
  pub same : identical o v ≡ true

pub find_itself : (op : Op) (out : Option Strided) (first second : Option Operand) → op.out ≡ out → op.first ≡ first → op.second ≡ second → is_none second ≡ true
    → some_pair identical (option_to_list out) (view_of first ++ view_of second) ≡ true → ToItself op
find_itself op None first second p q r n h = absurd (false≢true h)
find_itself op (Some o) None None p q r n h = absurd (or_cases false false h false≢true false≢true)
find_itself op (Some o) (Some (Number z)) None p q r n h = absurd (or_cases false false h false≢true false≢true)
find_itself op (Some o) (Some (Array v)) None p q r n h =
    record {
      o = o;
      v = v;
      out = p;
      first = q;
      second = r;
      same = or_cases (identical o v || false) false h (λ t. or_cases (identical o v) false t (λ s. s) (λ s. absurd (false≢true s))) (λ t. absurd (false≢true t));
    }
find_itself op out first (Some x) p q r n h = absurd (false≢true n)

pub input_apart : (op : Op) (out : Option Strided) (o v : Strided) (makes : Bool) → out ≡ Some o → op.first ≡ Some (Array v)
    → (not makes || (is_some out && list_all (λ (u : Strided). is_whole u && list_all (λ (w : Strided). not (w.base == u.base)) (inputs op)) (option_to_list out))) ≡ true
    → (o.base == v.base) ≡ true → makes ≡ false
input_apart op out o v false p q h e = refl
input_apart op None o v true p q h e = absurd (false≢true h)
input_apart op (Some u) o v true p q h e =
    let same : u ≡ o = cc in
    let a = both_right (is_whole u) _ (both_left (is_whole u && list_all (λ (w : Strided). not (w.base == u.base)) (inputs op)) true h) in
    let b : list_all (λ (w : Strided). not (w.base == u.base)) (view_of (Some (Array v)) ++ view_of op.second) ≡ true =
    ap (λ f. list_all (λ (w : Strided). not (w.base == u.base)) (view_of f ++ view_of op.second)) (sym q) ∙ a in
    let c : not (v.base == u.base) ≡ true = both_left (not (v.base == u.base)) _ b in
    let d : v.base ≡ u.base = sym (eqb-true o.base v.base e) ∙ ap (λ (w : Strided). w.base) (sym same) in
    absurd (false≢true (sym (ap not (eq-eqb v.base u.base d)) ∙ c))

pub itself_unary : (op : Op) → well_formed op ≡ true → copies_itself op ≡ true → operands_kept Unary op ≡ true
itself_unary op well e = ap (λ c. operands_kept (kind c) op) (sym (identity_is op.code (both_left (is_identity op.code) (some_pair identical (outputs op) (inputs op)) e))) ∙ operands_of op well

pub itself_of : (op : Op) → well_formed op ≡ true → copies_itself op ≡ true → ToItself op
itself_of op well e =
    find_itself op op.out op.first op.second refl refl refl
    (both_right (is_some op.first) (is_none op.second) (both_right (elementwise op) (is_some op.first && is_none op.second) (itself_unary op well e)))
    (both_right (is_identity op.code) (some_pair identical (outputs op) (inputs op)) e)

pub copies_kept : (m : Memory) (front back : List Op) (op : Op) → Formed (front ++ op ∷ back) → fits m (front ++ op ∷ back) ≡ true
    → copies_itself op ≡ true → eager m (front ++ op ∷ back) ≡ eager m (front ++ back)
copies_kept m front back op formed fit e =
    let n : Memory = eager m front in
    let well : well_formed op ≡ true = well_at front back op formed in
    let code : op.code ≡ Identity = identity_is op.code (both_left (is_identity op.code) _ e) in
    let el : elementwise op ≡ true = both_left (elementwise op) (is_some op.first && is_none op.second) (itself_unary op well e) in
    let t : ToItself op = itself_of op well e in
    let p : Plain op t.o = plain_at op t.o t.out well el in
    let base : (t.o.base == t.v.base) ≡ true = both_left (t.o.base == t.v.base) (same_lists t.o.lengths t.v.lengths && same_lists (elements t.o) (elements t.v)) t.same in
    let places : elements t.o ≡ elements t.v = same_from_test (elements t.o) (elements t.v) (both_right (same_lists t.o.lengths t.v.lengths) (same_lists (elements t.o) (elements t.v)) (both_right (t.o.base == t.v.base) (same_lists t.o.lengths t.v.lengths && same_lists (elements t.o) (elements t.v)) t.same)) in
    let makes : op.makes ≡ false = input_apart op op.out t.o t.v op.makes t.out t.first
    (both_right (list_all (λ o. not (repeated (elements o))) (outputs op)) _ (both_right (list_all is_view (views op)) _ (both_right (kind_kept op) _ well))) base in
    let holds : AllByRecursion (λ (v : Strided). CellFits op.from (n.bases v.base)) (inputs op) = held m front back op formed fit in
    let at_v : CellFits op.from (n.bases t.v.base) = at_first (λ (v : Strided). CellFits op.from (n.bases v.base)) op t.v t.first holds in
    let types : same_types op op ≡ true =
    (all_right (λ g. same_types op g ≡ true) front (op ∷ back) (all_right (λ f. AllByRecursion (λ g. same_types f g ≡ true) (front ++ op ∷ back)) front (op ∷ back) formed.types).0).0 in
    let to : op.to ≡ op.from = at_first (λ (w : Strided). (t.o.base == w.base) ≡ true → op.to ≡ op.from) op t.v t.first (writes_typed op op types t.o t.out) base in
    let b : t.o.base ≡ t.v.base = eqb-true t.o.base t.v.base base in
    let cell : CellFits op.to (n.bases t.o.base) = subst (λ k. CellFits k (n.bases t.o.base)) (sym to) (subst (λ k. CellFits op.from (n.bases k)) (sym b) at_v) in
    eager-append m front (op ∷ back)
    ∙ ap (λ k. eager k back) (copy_to_itself n op t.o t.v code t.out t.first t.second p.no_slot p.no_free makes b places cell)
    ∙ sym (eager-append m front back)

-- ---- a base that nothing uses

pub record Bare (op : Op) : Type 0 where
  pub no_slot : op.slot ≡ None
  pub no_free : op.frees ≡ None

axis_bare : (op : Op) (after : ℕ → List ℕ → List ℕ) → along_axis op after ≡ true → Bare op
axis_bare op after h =
    let a = both_right (is_none op.second) _ (both_right (is_array op.first) _ (both_right (is_some op.out) _ h)) in
    record { no_slot = none_from op.slot (both_left (is_none op.slot) _ a); no_free = none_from op.frees (both_left (is_none op.frees) _ (both_right (is_none op.slot) _ a)) }

pub elementwise_bare : (op : Op) → elementwise op ≡ true → Bare op
elementwise_bare op h =
    let a = both_right (is_none op.axis) _ (both_left (plain op) _ h) in
    record { no_slot = none_from op.slot (both_left (is_none op.slot) _ a); no_free = none_from op.frees (both_right (is_none op.slot) _ a) }

last_of_six : (a b c d e f : Bool) → (a && (b && (c && (d && (e && (f)))))) ≡ true → f ≡ true
last_of_six a b c d e f h = both_right e f (both_right d _ (both_right c _ (both_right b _ (both_right a _ h))))

-- what makes a base has no slot and frees nothing
pub maker_bare : (k : Kind) (op : Op) → operands_kept k op ≡ true → op.makes ≡ true → Bare op
maker_bare Binary op h e = elementwise_bare op (both_left (elementwise op) _ h)
maker_bare Unary op h e = elementwise_bare op (both_left (elementwise op) _ h)
maker_bare Counting op h e = elementwise_bare op (both_left (elementwise op) _ h)
maker_bare Reduction op h e = axis_bare op dropped_axis h
maker_bare Scan op h e = axis_bare op (λ axis lengths. lengths) h
maker_bare Ending op h e = absurd (false≢true (ap not (sym e) ∙ both_right (is_none op.slot) _ (last_of_six (is_some op.frees) (is_none op.out) (is_none op.first) (is_none op.second) (is_none op.axis) _ h)))
maker_bare Printing op h e = absurd (false≢true (ap not (sym e) ∙ both_right (is_none op.frees) _ (last_of_six (is_some op.slot) (is_array op.first) (is_none op.out) (is_none op.second) (is_none op.axis) _ h)))

pub record Free (op : Op) : Type 0 where
  pub no_slot : op.slot ≡ None
  pub no_out : op.out ≡ None

-- what frees a base does nothing else
pub free_bare : (k : Kind) (op : Op) (b : ℕ) → operands_kept k op ≡ true → has (freed op) b ≡ true → Free op
free_bare Ending op b h e =
    let a = both_right (is_some op.frees) _ h in
    let c = both_right (is_none op.axis) _ (both_right (is_none op.second) _ (both_right (is_none op.first) _ (both_right (is_none op.out) _ a))) in
    record { no_slot = none_from op.slot (both_left (is_none op.slot) _ c); no_out = none_from op.out (both_left (is_none op.out) _ a) }
free_bare Binary op b h e = absurd (unfree op b (elementwise_bare op (both_left (elementwise op) _ h)).no_free e)
  where
    unfree : (op : Op) (b : ℕ) → op.frees ≡ None → has (freed op) b ≡ true → ⊥
    unfree op b n t = false≢true (ap (λ f. has (option_to_list f) b) (sym n) ∙ t)
free_bare Unary op b h e = absurd (false≢true (ap (λ f. has (option_to_list f) b) (sym (elementwise_bare op (both_left (elementwise op) _ h)).no_free) ∙ e))
free_bare Counting op b h e = absurd (false≢true (ap (λ f. has (option_to_list f) b) (sym (elementwise_bare op (both_left (elementwise op) _ h)).no_free) ∙ e))
free_bare Reduction op b h e = absurd (false≢true (ap (λ f. has (option_to_list f) b) (sym (axis_bare op dropped_axis h).no_free) ∙ e))
free_bare Scan op b h e = absurd (false≢true (ap (λ f. has (option_to_list f) b) (sym (axis_bare op (λ axis lengths. lengths) h).no_free) ∙ e))
free_bare Printing op b h e =
    let a = last_of_six (is_some op.slot) (is_array op.first) (is_none op.out) (is_none op.second) (is_none op.axis) _ h in
    absurd (false≢true (ap (λ f. has (option_to_list f) b) (sym (none_from op.frees (both_left (is_none op.frees) _ a))) ∙ e))

only_freeing : (f : Op) (b : ℕ) → Free f → frees_base f b ≡ true → OnlyTo b f
only_freeing f b h e = record {
  no_slot = h.no_slot;
  elsewhere = λ xs c n.
      ap (λ t. cond t Drops (output_change f.out f.makes f.to xs c)) (other f.frees b c e n)
      ∙ ap (λ o. output_change o f.makes f.to xs c) h.no_out;
}
  where
    other : (frees : Option ℕ) (b c : ℕ) → has (option_to_list frees) b ≡ true → (c == b) ≡ false → has (option_to_list frees) c ≡ false
    other None b c e n = refl
    other (Some k) b c e n =
        let bk : b ≡ k = eqb-true b k (or_cases (nat_eq b k) false e (λ t. t) (λ t. absurd (false≢true t))) in
        ap (λ t. t || false) (ap (nat_eq c) (sym bk) ∙ n)

only_making : (op : Op) (o : Strided) → Bare op → op.out ≡ Some o → OnlyTo o.base op
only_making op o h e = record {
  no_slot = h.no_slot;
  elsewhere = λ xs c n.
      ap (λ f. cond (has (option_to_list f) c) Drops (output_change op.out op.makes op.to xs c)) h.no_free
      ∙ ap (λ u. output_change u op.makes op.to xs c) e
      ∙ ap (λ t. cond t (cond op.makes (Becomes (record { elem = op.to; numbers = xs })) (Writes (elements o) xs)) Keeps) (ne_eqb o.base c (λ d. eqb-false c o.base n (sym d)));
}

passes : (b : ℕ) (f : Op) → well_formed f ≡ true → (frees_base f b || not (has (named f) b)) ≡ true → Passes b f
passes b f well h = (
  (λ t. only_freeing f b (free_bare (kind f.code) f b (operands_of f well) t) t),
  (λ t. unnamed_test b f (turned (frees_base f b) (has (named f) b) h t)),
)
  where
    turned : (x y : Bool) → (x || not y) ≡ true → x ≡ false → y ≡ false
    turned true y h t = absurd (false≢true (sym t))
    turned false true h t = absurd (false≢true h)
    turned false false h t = refl

leaves_unnamed : (b : ℕ) (f : Op) → not (has (named f) b) ≡ true → Leaves b f
leaves_unnamed b f h =
    let u : Unnamed b f = unnamed_test b f (turned (has (named f) b) h) in record { outputs_not = u.outputs_not; freed_not = u.freed_not }
  where
    turned : (y : Bool) → not y ≡ true → y ≡ false
    turned true h = absurd (false≢true h)
    turned false h = refl

creates_at : (b : ℕ) (front back : List Op) (op : Op) → makes_base op b ≡ true → creates (front ++ op ∷ back) b ≡ true
creates_at b [] back op h = ap (λ t. t || creates back b) h
creates_at b (f ∷ front) back op h = second (makes_base f b) (creates (front ++ op ∷ back) b) (creates_at b front back op h)
  where
    second : (x y : Bool) → y ≡ true → (x || y) ≡ true
    second true y h = refl
    second false y h = h

pub unused_kept : (m : Memory) (front back next : List Op) (op : Op) (o : Strided) → Formed (front ++ op ∷ back) → fits m (front ++ op ∷ back) ≡ true
    → op.out ≡ Some o → unused front op back (Some o) ≡ Some next → eager m (front ++ op ∷ back) ≡ eager m next
unused_kept m front back next op o formed fit out e =
    let b : ℕ = o.base in
    let list : List Op = front ++ op ∷ back in
    let test : Bool = op.makes && (list_all (λ f. not (has (named f) o.base)) front && only_freed back o.base) in
    let t = some_true (op.makes && (list_all (λ f. not (has (named f) o.base)) front && only_freed back o.base)) (front ++ unfreed back o.base) next e in
    let makes : op.makes ≡ true = both_left op.makes _ t in
    let t2 = both_right op.makes _ t in
    let before : AllByRecursion (λ f. not (has (named f) o.base) ≡ true) front = all_of (λ f. not (has (named f) o.base)) front (both_left (list_all (λ f. not (has (named f) o.base)) front) _ t2) in
    let t3 = both_right (list_all (λ f. not (has (named f) o.base)) front) _ t2 in
    let some : list_any (λ f. frees_base f o.base) back ≡ true = both_left (list_any (λ f. frees_base f o.base) back) _ t3 in
    let behind = all_of (λ f. frees_base f o.base || not (has (named f) o.base)) back (both_right (list_any (λ f. frees_base f o.base) back) _ t3) in
    let wells : AllByRecursion (λ f. well_formed f ≡ true) back = (all_right (λ f. well_formed f ≡ true) front (op ∷ back) formed.well).1 in
    let made : makes_base op o.base ≡ true =
    ap₂ (λ x u. x && list_any (λ (w : Strided). w.base == o.base) (option_to_list u)) makes out ∙ ap (λ x. x || false) (eq-eqb o.base o.base refl) in
    let absent : m.bases o.base ≡ None = created_absent m o.base list list (all_of (op_fits m list) list fit) (creates_at o.base front back op made) in
    unused_removed o.base m front back op
    (base_left o.base front m (All_weaker (λ f. not (has (named f) o.base) ≡ true) (Leaves o.base) (leaves_unnamed o.base) front before) ∙ absent)
    (only_making op o (maker_bare (kind op.code) op (operands_of op (well_at front back op formed)) makes) out)
    (all_two (λ f. well_formed f ≡ true) (λ f. (frees_base f o.base || not (has (named f) o.base)) ≡ true) (Passes o.base) (λ f w h. passes o.base f w h) back wells behind) some
    ∙ ap (eager m) (some_same (op.makes && (list_all (λ f. not (has (named f) o.base)) front && only_freed back o.base)) (front ++ unfreed back o.base) next e)
