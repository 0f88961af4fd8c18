-- What one operation of a formed list writes serves what another one needs.
use Rattle.std.proofs.Common.{◌≡◌, ℕ, ◌*◌, ◌<◌, suc, zero, ℤ, pos, List, [], ◌∷◌, ◌++◌, Bool, true, false, not, ◌||◌, ◌&&◌, refl, ap, ap₂, sym, subst, ◌∙◌, arith, Option, Some, None, map, length, take, drop, get_or}
use Rattle.std.proofs.lemmas.Bool.{false≢true, ltb-true, or_right}
use Rattle.std.proofs.Math.Nat.{mul_assoc}
use Rattle.std.proofs.lemmas.List.{length-map, length-replicate}
use Rattle.std.proofs.lemmas.List.FromFn.{length-range_with_len}
use Rattle.std.specs.Prelude.{◌==◌, is_some, is_none, nat_lt}
use Rattle.std.specs.List.{AllByRecursion, list_all, list_any, range_with_len}
use Rattle.std.specs.Option.{option_to_list}
use Rattle.arr_num.specs.declared.elem.Elem.{Elem}
use Rattle.arr_num.specs.declared.code.Code.{Code}
use Rattle.arr_num.specs.declared.code.Code.TheVariants.{Range}
use Rattle.arr_num.specs.Kinds.{Kind, Binary, Unary, Counting, Reduction, Scan, Ending, Printing, kind}
use Rattle.arr_num.specs.Numbers.{in_type, value, fold_start}
use Rattle.arr_view.specs.Strided.{Strided}
use Rattle.arr_view.specs.Views.{elements, positions, same_lists}
use Rattle.arr_ops.specs.declared.op.Op.{Op}
use Rattle.arr_ops.specs.declared.op.Operand.{Operand}
use Rattle.arr_ops.specs.declared.op.Operand.TheVariants.{Array, Number}
use Rattle.arr_ops.specs.Ops.{view_of, outputs, inputs, views, freed}
use Rattle.arr_ops.specs.Memory.{Memory, Cell, read, operand, first_numbers, zip_with, results, results_of, computed, lengths_of, out_lengths, or_zero, folded, scanned}
use Rattle.arr_ops.specs.Formed.{well_formed, inside_made, same_types, typed, same_elem, operands_kept, elementwise, along_axis, dropped_axis, same_shape, is_array}
use Rattle.arr_ops.specs.Fits.{Need, needs}
use Rattle.arr_ops.specs.Plans.{numbered}
use Rattle.arr_ops.specs.Laws.{BlocksFit}
use Rattle.arr_ops.proofs.Pairs.{All_weaker}
use Rattle.arr_ops.proofs.Tests.{both_left, both_right, all_of, or_cases, test_all, all_numbered, same_from_test}
use Rattle.arr_ops.proofs.Lengths.{length-folded, length-scanned}
use Rattle.arr_ops.proofs.Typed.{Computes, computed_in}
use Rattle.arr_ops.proofs.Spots.{all_left, all_right, all_mapped, Plain, plain_at, operands_of, computes_of, same_elem_is, first_typed, output_type, Formed, formed_of}
use Rattle.arr_ops.proofs.Fits.{Serves}
use Rattle.arr_ops.proofs.FitsLaw.{Serving, all_append, all_map, blocks_fit_law}
use Rattle.arr_ops.proofs.Parts.{out_there}

-- ---- how many results there are

length-read : (c : Option Cell) (ps : List ℕ) → length (read c ps) ≡ length ps
length-read None ps = length-map ps (λ p. pos 0)
length-read (Some c) ps = length-map ps (λ p. get_or c.numbers p (pos 0))

length-operand : (m : Memory) (n : ℕ) (o : Option Operand) → AllByRecursion (λ (v : Strided). length (elements v) ≡ n) (view_of o) → length (operand m n o) ≡ n
length-operand m n None h = length-replicate n (pos 0)
length-operand m n (Some (Number z)) h = length-replicate n z
length-operand m n (Some (Array v)) h = length-read (m.bases v.base) (elements v) ∙ h.0

length-first : (code : Code) (m : Memory) (n : ℕ) (o : Option Operand) → length (operand m n o) ≡ n → length (first_numbers code m n o) ≡ n
length-first Range m n o h = length-map (range_with_len 0 n) pos ∙ length-range_with_len 0 n
length-first _ m n o h = h

length-zip_with : (f : ℤ → ℤ → ℤ) (n : ℕ) (xs ys : List ℤ) → length xs ≡ n → length ys ≡ n → length (zip_with f xs ys) ≡ n
length-zip_with f n [] ys a b = a
length-zip_with f zero (x ∷ xs) ys a b = absurd (omega arith)
length-zip_with f (suc n) (x ∷ xs) [] a b = absurd (omega arith)
length-zip_with f (suc n) (x ∷ xs) (y ∷ ys) a b = ap suc (length-zip_with f n xs ys (omega arith) (omega arith))

positions-append : (ns ms : List ℕ) → positions (ns ++ ms) ≡ positions ns * positions ms
positions-append [] ms = omega arith
positions-append (n ∷ ns) ms = ap (λ k. n * k) (positions-append ns ms) ∙ sym (mul_assoc n (positions ns) (positions ms))

positions-dropped : (axis : ℕ) (ns : List ℕ) → axis < length ns → positions (dropped_axis axis ns) ≡ positions (take axis ns) * positions (drop (suc axis) ns)
positions-dropped axis [] h = absurd (omega arith)
positions-dropped zero (n ∷ []) h = refl
positions-dropped (suc axis) (n ∷ []) h = absurd (omega arith)
positions-dropped axis (n ∷ m ∷ ms) h = positions-append (take axis (n ∷ m ∷ ms)) (drop (suc axis) (n ∷ m ∷ ms))

-- an operation along an axis: its input, and its output's shape
record Axial (after : ℕ → List ℕ → List ℕ) (op : Op) (o : Strided) : Type 0 where
  input : Strided
  at : ℕ
  first : op.first ≡ Some (Array input)
  axis : op.axis ≡ Some at
  below : at < length input.lengths
  shape : o.lengths ≡ after at input.lengths

array_at : (x : Option Operand) → is_array x ≡ true → (v : Strided) × (x ≡ Some (Array v))
array_at None h = absurd (false≢true h)
array_at (Some (Number z)) h = absurd (false≢true h)
array_at (Some (Array v)) h = (v, refl)

some_at : {X : Type 0} (x : Option X) → is_some x ≡ true → (y : X) × (x ≡ Some y)
some_at None h = absurd (false≢true h)
some_at (Some y) h = (y, refl)

axial : (after : ℕ → List ℕ → List ℕ) (op : Op) (o : Strided) → along_axis op after ≡ true → op.out ≡ Some o → Axial after op o
axial after op o h e =
    let a = both_right (is_some op.out) _ h in
    let b = both_right (is_array op.first) _ a in
    let c = both_right (is_none op.second) _ b in
    let d = both_right (is_none op.slot) _ c in
    let f = both_right (is_none op.frees) _ d in
    let g = both_right (same_elem op.to op.from) _ f in
    let i = both_right (is_some op.axis) _ g in
    let input = array_at op.first (both_left (is_array op.first) _ a) in
    let axis = some_at op.axis (both_left (is_some op.axis) _ g) in
    let test : Option ℕ → Option Operand → Option Strided → Bool = λ x y z. list_all (λ k. list_all (λ (v : Strided). nat_lt k (length v.lengths) && same_shape (after k v.lengths) (option_to_list z)) (view_of y ++ view_of op.second)) (option_to_list x) in
    let there : test (Some axis.0) (Some (Array input.0)) (Some o) ≡ true =
    sym (ap (λ x. test x op.first op.out) axis.1 ∙ ap (λ y. test (Some axis.0) y op.out) input.1 ∙ ap (λ z. test (Some axis.0) (Some (Array input.0)) z) e) ∙ i in
    let first = both_left (nat_lt axis.0 (length (input.0).lengths) && same_shape (after axis.0 (input.0).lengths) (o ∷ [])) _ (both_left _ true there) in
    record {
      input = input.0;
      at = axis.0;
      first = input.1;
      axis = axis.1;
      below = ltb-true axis.0 (length (input.0).lengths) (both_left (nat_lt axis.0 (length (input.0).lengths)) _ first);
      shape = same_from_test o.lengths (after axis.0 (input.0).lengths) (both_left (same_lists o.lengths (after axis.0 (input.0).lengths)) true (both_right (nat_lt axis.0 (length (input.0).lengths)) _ first));
    }

module _ (m : Memory) (op : Op) (o : Strided) (well : well_formed op ≡ true) (e : op.out ≡ Some o) where
  count : ℕ
  count = positions (out_lengths op.out)

  each : (elementwise op ≡ true) → (f : ℤ → ℤ → ℤ) → length (zip_with f (first_numbers op.code m (positions (out_lengths op.out)) op.first) (operand m (positions (out_lengths op.out)) op.second)) ≡ positions o.lengths
  each h f =
      let plain : Plain op o = plain_at op o e well h in
      let size : positions (out_lengths op.out) ≡ positions o.lengths = ap (λ x. positions (out_lengths x)) e in
      let alike : AllByRecursion (λ (v : Strided). length (elements v) ≡ positions (out_lengths op.out)) (inputs op) =
      subst (λ n. AllByRecursion (λ (v : Strided). length (elements v) ≡ n) (inputs op)) (sym size) plain.sizes in
      length-zip_with f (positions (out_lengths op.out)) _ _
      (length-first op.code m (positions (out_lengths op.out)) op.first (length-operand m (positions (out_lengths op.out)) op.first (all_left (λ (v : Strided). length (elements v) ≡ positions (out_lengths op.out)) (view_of op.first) (view_of op.second) alike)))
      (length-operand m (positions (out_lengths op.out)) op.second (all_right (λ (v : Strided). length (elements v) ≡ positions (out_lengths op.out)) (view_of op.first) (view_of op.second) alike))
      ∙ size

  length-of_kind : (k : Kind) → operands_kept k op ≡ true → (xs ys : List ℤ) → xs ≡ first_numbers op.code m (positions (out_lengths op.out)) op.first → ys ≡ operand m (positions (out_lengths op.out)) op.second
      → length (results_of k op.code op.to (lengths_of op.first) (or_zero op.axis) xs ys) ≡ positions o.lengths
  length-of_kind Binary h xs ys p q = ap₂ (λ a b. length (zip_with (value op.code op.to) a b)) p q ∙ each (both_left (elementwise op) _ h) (value op.code op.to)
  length-of_kind Unary h xs ys p q = ap₂ (λ a b. length (zip_with (value op.code op.to) a b)) p q ∙ each (both_left (elementwise op) _ h) (value op.code op.to)
  length-of_kind Counting h xs ys p q = ap₂ (λ a b. length (zip_with (value op.code op.to) a b)) p q ∙ each (both_left (elementwise op) _ h) (value op.code op.to)
  length-of_kind Reduction h xs ys p q =
      let x : Axial dropped_axis op o = axial dropped_axis op o h e in
      ap₂ (λ a b. length (folded (value op.code op.to) (fold_start op.code op.to) (lengths_of a) (or_zero b) xs)) x.first x.axis
      ∙ length-folded (value op.code op.to) (fold_start op.code op.to) x.input.lengths x.at xs ∙ sym (positions-dropped x.at x.input.lengths x.below) ∙ ap positions (sym x.shape)
  length-of_kind Scan h xs ys p q =
      let x : Axial (λ axis lengths. lengths) op o = axial (λ axis lengths. lengths) op o h e in
      ap₂ (λ a b. length (scanned (value op.code op.to) (fold_start op.code op.to) (lengths_of a) (or_zero b) xs)) x.first x.axis
      ∙ length-scanned (value op.code op.to) (fold_start op.code op.to) x.input.lengths x.at xs x.below ∙ ap positions (sym x.shape)
  length-of_kind Ending h xs ys p q = absurd (false≢true (sym (out_there Ending op h) ∙ ap is_some e))
  length-of_kind Printing h xs ys p q = absurd (false≢true (sym (out_there Printing op h) ∙ ap is_some e))

  pub length-computed : length (computed m op) ≡ positions o.lengths
  unfolding results
  length-computed = length-of_kind (kind op.code) (operands_of op well) _ _ refl refl

-- ---- one operation beside another

-- a base that f writes has f's type where g names it, and g's views lie inside it where f makes it
record Meets (f : Op) (o : Strided) (n : Need) : Type 0 where
  typed_so : (not (o.base == n.base) || same_elem f.to n.elem) ≡ true
  inside_so : f.makes ≡ true → (not (o.base == n.base) || list_all (λ e. nat_lt e (positions o.lengths)) n.places) ≡ true

holds_if : (a b : Bool) → (not a || b) ≡ true → a ≡ true → b ≡ true
holds_if true b h e = h
holds_if false b h e = absurd (false≢true e)

serves_some : (f : Op) (o : Strided) (n : Need) → well_formed f ≡ true → f.out ≡ Some o → Meets f o n → Serves f n
serves_some f o n well e h =
    let computes : Computes (kind f.code) = computes_of (kind f.code) f o e (operands_of f well) in
    record {
      made = λ m k.
          let makes : f.makes ≡ true = both_left f.makes _ k in
          let here : (o.base == n.base) ≡ true = or_cases (o.base == n.base) false (ap (λ x. list_any (λ (u : Strided). u.base == n.base) (option_to_list x)) (sym e) ∙ both_right f.makes _ k) (λ t. t) (λ t. absurd (false≢true t)) in
          ap₂ (λ a b. a && b) (holds_if (o.base == n.base) (same_elem f.to n.elem) h.typed_so here)
          (ap₂ (λ a b. a && b) (test_all (in_type f.to) (computed m f) (computed_in m f computes))
          (ap (λ k. list_all (λ e. nat_lt e k) n.places) (length-computed m f o well e) ∙ holds_if (o.base == n.base) (list_all (λ e. nat_lt e (positions o.lengths)) n.places) (h.inside_so makes) here));
      written = record {
        typed = λ p q r.
            let same : p ≡ o = (let s : Some p ≡ Some o = sym q ∙ e in cc) in
            (same_elem_is f.to n.elem (holds_if (o.base == n.base) (same_elem f.to n.elem) h.typed_so (ap (λ (u : Strided). u.base == n.base) (sym same) ∙ r)), computes);
      };
    }

serves_none : (f : Op) (n : Need) → f.out ≡ None → Serves f n
serves_none f n e =
    record {
      made = λ m k. absurd (false≢true (ap (λ x. list_any (λ (u : Strided). u.base == n.base) (option_to_list x)) (sym e) ∙ both_right f.makes _ k));
      written = record { typed = λ p q r. absurd (let s : Some p ≡ None = sym q ∙ e in cc) };
    }

all_two : {X : Type 0} (P Q R : X → Type 0) → ((x : X) → P x → Q x → R x) → (xs : List X) → AllByRecursion P xs → AllByRecursion Q xs → AllByRecursion R xs
all_two P Q R f [] a b = tt
all_two P Q R f (x ∷ xs) a b = (f x a.0 b.0, all_two P Q R f xs a.1 b.1)

-- from the tests of the list to each need
needs_met : (f g : Op) (o : Strided) → f.out ≡ Some o → same_types f g ≡ true → inside_made f g ≡ true → AllByRecursion (Meets f o) (needs g)
needs_met f g o e t i =
    let P : ℕ × Elem → Type 0 = λ (p : ℕ × Elem). list_all (λ (q : ℕ × Elem). not (p.0 == q.0) || same_elem p.1 q.1) (typed g) ≡ true in
    let T : ℕ × Elem → Type 0 = λ (q : ℕ × Elem). (not (o.base == q.0) || same_elem f.to q.1) ≡ true in
    let a : AllByRecursion P (typed f) = all_of (λ (p : ℕ × Elem). list_all (λ (q : ℕ × Elem). not (p.0 == q.0) || same_elem p.1 q.1) (typed g)) (typed f) t in
    let b : AllByRecursion P (output_type f.out f.to) = all_left P (map (λ (w : Strided). (w.base, f.to)) (outputs f)) (map (λ (w : Strided). (w.base, f.from)) (inputs f)) (all_left P _ (map (λ b. (b, f.to)) (freed f)) a) in
    let c : AllByRecursion T (typed g) = first_typed f g f.out o e b in
    let c_views = all_left T _ (map (λ b. (b, g.to)) (freed g)) c in
    let c_out = all_mapped T (λ (w : Strided). (w.base, g.to)) (outputs g) (all_left T (map (λ (w : Strided). (w.base, g.to)) (outputs g)) (map (λ (w : Strided). (w.base, g.from)) (inputs g)) c_views) in
    let c_in = all_mapped T (λ (w : Strided). (w.base, g.from)) (inputs g) (all_right T (map (λ (w : Strided). (w.base, g.to)) (outputs g)) (map (λ (w : Strided). (w.base, g.from)) (inputs g)) c_views) in
    let c_free = all_mapped T (λ b. (b, g.to)) (freed g) (all_right T (map (λ (w : Strided). (w.base, g.to)) (outputs g) ++ map (λ (w : Strided). (w.base, g.from)) (inputs g)) (map (λ b. (b, g.to)) (freed g)) c) in
    let inner : Strided → Bool = λ (v : Strided). not (o.base == v.base) || list_all (λ k. nat_lt k (positions o.lengths)) (elements v) in
    let I : Strided → Type 0 = λ (v : Strided). f.makes ≡ true → inner v ≡ true in
    let d : AllByRecursion I (views g) = inside_all f.makes (views g) (ap (λ x. not f.makes || list_all (λ (u : Strided). list_all (λ (v : Strided). not (u.base == v.base) || list_all (λ k. nat_lt k (positions u.lengths)) (elements v)) (views g)) (option_to_list x)) (sym e) ∙ i) in
    all_append (Meets f o) _ _
    (all_append (Meets f o) _ _
    (all_map (Meets f o) (λ (v : Strided). record { base = v.base; elem = g.to; places = elements v }) (outputs g)
    (all_two (λ (v : Strided). T (v.base, g.to)) I (λ (v : Strided). Meets f o (record { base = v.base; elem = g.to; places = elements v })) (λ v x y. record { typed_so = x; inside_so = y }) (outputs g) c_out (all_left I (outputs g) (inputs g) d)))
    (all_map (Meets f o) (λ (v : Strided). record { base = v.base; elem = g.from; places = elements v }) (inputs g)
    (all_two (λ (v : Strided). T (v.base, g.from)) I (λ (v : Strided). Meets f o (record { base = v.base; elem = g.from; places = elements v })) (λ v x y. record { typed_so = x; inside_so = y }) (inputs g) c_in (all_right I (outputs g) (inputs g) d))))
    (all_map (Meets f o) (λ b. record { base = b; elem = g.to; places = [] }) (freed g)
    (All_weaker (λ b. T (b, g.to)) (λ b. Meets f o (record { base = b; elem = g.to; places = [] })) (λ b x. record { typed_so = x; inside_so = λ _. or_right (not (o.base == b)) true refl }) (freed g) c_free))
  where
    inside_all : (makes : Bool) (vs : List Strided)
        → (not makes || (list_all (λ (v : Strided). not (o.base == v.base) || list_all (λ k. nat_lt k (positions o.lengths)) (elements v)) vs && true)) ≡ true
        → AllByRecursion (λ (v : Strided). makes ≡ true → (not (o.base == v.base) || list_all (λ k. nat_lt k (positions o.lengths)) (elements v)) ≡ true) vs
    inside_all false [] h = tt
    inside_all false (v ∷ vs) h = ((λ k. absurd (false≢true k)), inside_all false vs refl)
    inside_all true [] h = tt
    inside_all true (v ∷ vs) h =
        let p = both_left (list_all (λ (u : Strided). not (o.base == u.base) || list_all (λ k. nat_lt k (positions o.lengths)) (elements u)) (v ∷ vs)) true h in (
          (λ _. both_left (not (o.base == v.base) || list_all (λ k. nat_lt k (positions o.lengths)) (elements v)) _ p),
          inside_all true vs (ap (λ b. b && true) (both_right (not (o.base == v.base) || list_all (λ k. nat_lt k (positions o.lengths)) (elements v)) _ p)),
        )

pub serving : (f g : Op) → well_formed f ≡ true → same_types f g ≡ true → inside_made f g ≡ true → Serving f g
serving f g well t i = by_out f.out refl
  where
    none_all : (ns : List Need) → f.out ≡ None → AllByRecursion (Serves f) ns
    none_all [] e = tt
    none_all (n ∷ ns) e = (serves_none f n e, none_all ns e)

    by_out : (out : Option Strided) → f.out ≡ out → Serving f g
    by_out None e = none_all (needs g) e
    by_out (Some o) e = All_weaker (Meets f o) (Serves f) (λ n h. serves_some f o n well e h) (needs g) (needs_met f g o e t i)

-- ---- the law

swapped_nil : {A : Type 0} (us : List A) → AllByRecursion (λ (a : A). Unit {0}) us
swapped_nil [] = tt
swapped_nil (a ∷ more) = (tt, swapped_nil more)

turned : {A B : Type 0} (R : A → B → Type 0) (us : List A) (bs : List B) → AllByRecursion (λ a. AllByRecursion (R a) bs) us → AllByRecursion (λ b. AllByRecursion (λ a. R a b) us) bs
turned R us [] h = tt
turned R us (b ∷ bs) h =
    (All_weaker (λ a. AllByRecursion (R a) (b ∷ bs)) (λ a. R a b) (λ a p. p.0) us h, turned R us bs (All_weaker (λ a. AllByRecursion (R a) (b ∷ bs)) (λ a. AllByRecursion (R a) bs) (λ a p. p.1) us h))

pub blocks_fit_formed : BlocksFit
blocks_fit_formed list plan m formed fit legal =
    let f : Formed list = formed_of list formed in
    let each : AllByRecursion (λ x. AllByRecursion (Serving x) list) list =
    all_two (λ x. AllByRecursion (λ y. same_types x y ≡ true) list) (λ x. (well_formed x ≡ true) × AllByRecursion (λ y. inside_made x y ≡ true) list) (λ x. AllByRecursion (Serving x) list)
    (λ x t w. all_two (λ y. same_types x y ≡ true) (λ y. inside_made x y ≡ true) (Serving x) (λ y p q. serving x y w.0 p q) list t w.1) list f.types
    (all_two (λ x. well_formed x ≡ true) (λ x. AllByRecursion (λ y. inside_made x y ≡ true) list) (λ x. (well_formed x ≡ true) × AllByRecursion (λ y. inside_made x y ≡ true) list) (λ x p q. (p, q)) list f.well f.inside) in
    let both : AllByRecursion (λ y. AllByRecursion (λ x. Serving x y) list) list = turned (λ x y. Serving x y) list list each in
    blocks_fit_law list plan m formed fit legal
    (all_numbered (λ y. AllByRecursion (λ (z : ℕ × Op). Serving z.1 y) (numbered list)) 1 list
    (All_weaker (λ y. AllByRecursion (λ x. Serving x y) list) (λ y. AllByRecursion (λ (z : ℕ × Op). Serving z.1 y) (numbered list)) (λ y h. all_numbered (λ x. Serving x y) 1 list h) list both))
