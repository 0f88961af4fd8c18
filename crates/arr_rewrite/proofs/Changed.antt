-- An operation in another's place: the list stays formed, and a memory that fits goes on to fit.
use Rattle.std.proofs.Common.{◌≡◌, ℕ, List, [], ◌∷◌, ◌++◌, Bool, true, false, not, ◌||◌, ◌&&◌, refl, ap, ap₂, sym, subst, ◌∙◌, Option, Some, None, map}
use Rattle.std.proofs.lemmas.Bool.{false≢true, eqb-true, eq-eqb}
use Rattle.std.specs.Prelude.{◌==◌, nat_eq, is_some, is_none}
use Rattle.std.specs.List.{AllByRecursion, list_all, list_any}
use Rattle.std.specs.Option.{option_to_list}
use Rattle.arr_num.specs.declared.elem.Elem.{Elem}
use Rattle.arr_num.specs.declared.elem.Elem.TheVariants.{U8, I32, I64, U64}
use Rattle.arr_num.specs.declared.code.Code.{Code}
use Rattle.arr_view.specs.Strided.{Strided}
use Rattle.arr_view.specs.Views.{has, is_view}
use Rattle.arr_ops.specs.Ops.{inputs, outputs, views, freed, named, makes_base, creates}
use Rattle.arr_ops.specs.Memory.{Memory}
use Rattle.arr_ops.specs.Formed.{inside_made, same_types, same_elem, typed, may_precede, well_formed, kind_kept, writes_once, is_whole, slot_numbers}
use Rattle.arr_ops.specs.Fits.{Need, needs, meets_need, fits}
use Rattle.arr_ops.specs.declared.op.Op.{Op}
use Rattle.arr_ops.specs.declared.op.Operand.{Operand}
use Rattle.arr_ops.proofs.Pairs.{All_weaker}
use Rattle.arr_ops.proofs.Tests.{both_left, both_right, all_of, test_all}
use Rattle.arr_ops.proofs.Spots.{Formed, all_left, all_right, all_mapped, all_two}
use Rattle.arr_rewrite.specs.Rules.{changed_op}
use Rattle.arr_rewrite.proofs.Parts.{all_join, map_all, all_true, turned, all_replaced, pairs_replaced, not_is, none_of, of_none, equal_turned}
use Rattle.arr_rewrite.proofs.Sources.{Reads, Agrees, lies_in, need_of, whole_of}

pub same_itself : (t : Elem) → same_elem t t ≡ true
same_itself U8 = refl
same_itself I32 = refl
same_itself I64 = refl
same_itself U64 = refl

-- from a fact back to its test
tested : (a b : ℕ) (s t : Elem) → (a ≡ b → s ≡ t) → (not (a == b) || same_elem s t) ≡ true
tested a b s t h =
    elim (a == b) as (λ k. (a == b) ≡ k → (not k || same_elem s t) ≡ true) [
      | true ↦ λ e. subst (λ u. same_elem s u ≡ true) (h (eqb-true a b e)) (same_itself s)
      | false ↦ λ e. refl
    ] refl

apart : (b c : ℕ) → (b ≡ c → ⊥) → nat_eq b c ≡ false
apart b c h = elim (nat_eq b c) as (λ t. nat_eq b c ≡ t → t ≡ false) [ true ↦ λ e. absurd (h (eqb-true b c e)) | false ↦ λ e. refl ] refl

whole_again : (out : Option Strided) (makes : Bool) (ins new : List Strided)
    → (not makes || (is_some out && list_all (λ (o : Strided). is_whole o && list_all (λ (w : Strided). not (w.base == o.base)) ins) (option_to_list out))) ≡ true
    → AllByRecursion (λ (v : Strided). (makes && list_any (λ (o : Strided). o.base == v.base) (option_to_list out)) ≡ false) new
    → (not makes || (is_some out && list_all (λ (o : Strided). is_whole o && list_all (λ (w : Strided). not (w.base == o.base)) new) (option_to_list out))) ≡ true
whole_again out false ins new h a = refl
whole_again None true ins new h a = h
whole_again (Some o) true ins new h a =
    ap (λ k. k && true)
    (ap₂ (λ p q. p && q) (both_left (is_whole o) _ (both_left (is_whole o && list_all (λ (w : Strided). not (w.base == o.base)) ins) true h))
    (test_all (λ (w : Strided). not (w.base == o.base)) new
    (All_weaker (λ (v : Strided). ((o.base == v.base) || false) ≡ false) (λ (v : Strided). not (v.base == o.base) ≡ true)
    (λ v k. ap not (equal_turned o.base v.base (first (o.base == v.base) k))) new a)))
  where
    first : (b : Bool) → (b || false) ≡ false → b ≡ false
    first true h = h
    first false h = refl

unfreed_again : (frees : Option ℕ) (names new : List ℕ) → list_all (λ b. not (has names b)) (option_to_list frees) ≡ true
    → ((b : ℕ) → has (option_to_list frees) b ≡ true → has names b ≡ false → has new b ≡ false) → list_all (λ b. not (has new b)) (option_to_list frees) ≡ true
unfreed_again None names new h k = refl
unfreed_again (Some b) names new h k = ap (λ t. not t && true) (k b (ap (λ t. t || false) (eq-eqb b b refl)) (not_is (has names b) (both_left (not (has names b)) true h)))

unmade_again : (out : Option Strided) (makes : Bool) (names new : List ℕ) → (not makes || list_all (λ (o : Strided). not (has names o.base)) (option_to_list out)) ≡ true
    → ((b : ℕ) → (makes && list_any (λ (o : Strided). o.base == b) (option_to_list out)) ≡ true → has names b ≡ false → has new b ≡ false)
    → (not makes || list_all (λ (o : Strided). not (has new o.base)) (option_to_list out)) ≡ true
unmade_again out false names new h k = refl
unmade_again None true names new h k = refl
unmade_again (Some o) true names new h k = ap (λ t. not t && true) (k o.base (ap (λ t. t || false) (eq-eqb o.base o.base refl)) (not_is (has names o.base) (both_left (not (has names o.base)) true h)))

-- ---- what a list creates

pub creates_same : (op next : Op) → ((b : ℕ) → makes_base op b ≡ makes_base next b) → (front back : List Op) (b : ℕ) → creates (front ++ op ∷ back) b ≡ creates (front ++ next ∷ back) b
creates_same op next h [] back b = ap (λ k. k || creates back b) (h b)
creates_same op next h (f ∷ front) back b = ap (λ k. makes_base f b || k) (creates_same op next h front back b)

-- the test of one operation, by what the list creates
abbrev pub fits_with : Memory → (ℕ → Bool) → Op → Bool
fits_with m made op =
    list_all (λ (n : Need). made n.base || meets_need (m.bases n.base) n) (needs op)
    && (list_all (λ s. is_none (m.slots s)) (option_to_list op.slot) && (not op.makes || list_all (λ (o : Strided). is_none (m.bases o.base)) (outputs op)))

module _ (front back : List Op) (op : Op) (code : Code) (from : Elem) (first second : Option Operand) (formed : Formed (front ++ op ∷ back)) (kept : kind_kept (changed_op op code from first second) ≡ true)
    (reads : AllByRecursion (Reads front op back from) (inputs (changed_op op code from first second))) where
  abbrev pub next : Op
  next = changed_op op code from first second

  reviewed : (P : Strided → Type 0) → AllByRecursion P (views op) → AllByRecursion P (inputs next) → AllByRecursion P (views next)
  reviewed P h k = all_join P (outputs op) (inputs next) (all_left P (outputs op) (inputs op) h) k

  retyped : (P : ℕ × Elem → Type 0) → AllByRecursion P (typed op) → AllByRecursion (λ (v : Strided). P (v.base, from)) (inputs next) → AllByRecursion P (typed next)
  retyped P h k =
      let outs : List (ℕ × Elem) = map (λ (v : Strided). (v.base, op.to)) (outputs op) in
      let a = all_left P (map (λ (v : Strided). (v.base, op.to)) (outputs op) ++ map (λ (v : Strided). (v.base, op.from)) (inputs op)) (map (λ b. (b, op.to)) (freed op)) h in
      all_join P (map (λ (v : Strided). (v.base, op.to)) (outputs op) ++ map (λ (v : Strided). (v.base, from)) (inputs next)) (map (λ b. (b, op.to)) (freed op))
      (all_join P (map (λ (v : Strided). (v.base, op.to)) (outputs op)) (map (λ (v : Strided). (v.base, from)) (inputs next))
      (all_left P (map (λ (v : Strided). (v.base, op.to)) (outputs op)) (map (λ (v : Strided). (v.base, op.from)) (inputs op)) a)
      (map_all P (λ (v : Strided). (v.base, from)) (inputs next) k))
      (all_right P (map (λ (v : Strided). (v.base, op.to)) (outputs op) ++ map (λ (v : Strided). (v.base, op.from)) (inputs op)) (map (λ b. (b, op.to)) (freed op)) h)

  reneeded : (P : Need → Type 0) → AllByRecursion P (needs op) → AllByRecursion (λ (v : Strided). P (need_of from v)) (inputs next) → AllByRecursion P (needs next)
  reneeded P h k =
      let end : ℕ → Need = λ b. record { base = b; elem = op.to; places = [] } in
      let a = all_left P (map (need_of op.to) (outputs op) ++ map (need_of op.from) (inputs op)) (map end (freed op)) h in
      all_join P (map (need_of op.to) (outputs op) ++ map (need_of from) (inputs next)) (map end (freed op))
      (all_join P (map (need_of op.to) (outputs op)) (map (need_of from) (inputs next)) (all_left P (map (need_of op.to) (outputs op)) (map (need_of op.from) (inputs op)) a) (map_all P (need_of from) (inputs next) k))
      (all_right P (map (need_of op.to) (outputs op) ++ map (need_of op.from) (inputs op)) (map end (freed op)) h)

  renamed : (b : ℕ) → has (named op) b ≡ false → AllByRecursion (λ (v : Strided). nat_eq b v.base ≡ false) (inputs next) → has (named next) b ≡ false
  renamed b h k =
      let P : ℕ → Type 0 = λ n. nat_eq b n ≡ false in
      let a : AllByRecursion P (named op) = none_of b (named op) h in
      let vs : AllByRecursion (λ (v : Strided). P v.base) (views op) = all_mapped P (λ (v : Strided). v.base) (views op) (all_left P (map (λ (v : Strided). v.base) (views op)) (freed op) a) in
      of_none b (named next)
      (all_join P (map (λ (v : Strided). v.base) (views next)) (freed op) (map_all P (λ (v : Strided). v.base) (views next) (reviewed (λ (v : Strided). P v.base) vs k))
      (all_right P (map (λ (v : Strided). v.base) (views op)) (freed op) a))

  of_reads : (P : Strided → Type 0) → ((v : Strided) → Reads front op back from v → P v) → AllByRecursion P (inputs next)
  of_reads P h = All_weaker (Reads front op back from) P h (inputs next) reads

  well : well_formed op ≡ true → well_formed next ≡ true
  well h =
      let a = both_right (kind_kept op) _ h in
      let b = both_right (list_all is_view (views op)) _ a in
      ap₂ (λ p q. p && q) kept (ap₂ (λ p q. p && q)
      (test_all is_view (views next) (reviewed (λ v. is_view v ≡ true) (all_of is_view (views op) (both_left (list_all is_view (views op)) _ a)) (of_reads (λ v. is_view v ≡ true) (λ v r. r.seen))))
      (ap₂ (λ p q. p && q) (both_left (writes_once op) _ b) (whole_again op.out op.makes (inputs op) (inputs next) (whole_of op h) (of_reads (λ (v : Strided). makes_base op v.base ≡ false) (λ v r. r.own)))))

  -- each operation beside each view that is read
  agrees : AllByRecursion (λ f. AllByRecursion (λ v. Agrees f from v) (inputs next)) (front ++ op ∷ back)
  agrees =
      turned (λ (v : Strided) (f : Op). Agrees f from v) (inputs next) (front ++ op ∷ back) (of_reads (λ v. AllByRecursion (λ f. Agrees f from v) (front ++ op ∷ back)) (λ v r. r.agrees))

  inside_column : (f : Op) → AllByRecursion (λ v. Agrees f from v) (inputs next) → inside_made f op ≡ true → inside_made f next ≡ true
  inside_column f a h =
      elim f.makes as (λ t. f.makes ≡ t → (not t || list_all (λ (o : Strided). list_all (λ (w : Strided). lies_in w o) (views op)) (outputs f)) ≡ true
      → (not t || list_all (λ (o : Strided). list_all (λ (w : Strided). lies_in w o) (views next)) (outputs f)) ≡ true) [
        | false ↦ λ e k. refl
        | true ↦ λ e k.
            test_all (λ (o : Strided). list_all (λ (w : Strided). lies_in w o) (views next)) (outputs f)
            (all_two (λ (o : Strided). list_all (λ (w : Strided). lies_in w o) (views op) ≡ true) (λ (o : Strided). AllByRecursion (λ (v : Strided). lies_in v o ≡ true) (inputs next))
            (λ (o : Strided). list_all (λ (w : Strided). lies_in w o) (views next) ≡ true)
            (λ o p q. test_all (λ (w : Strided). lies_in w o) (views next) (reviewed (λ (w : Strided). lies_in w o ≡ true) (all_of (λ (w : Strided). lies_in w o) (views op) p) q)) (outputs f)
            (all_of (λ (o : Strided). list_all (λ (w : Strided). lies_in w o) (views op)) (outputs f) k)
            (turned (λ (v o : Strided). lies_in v o ≡ true) (inputs next) (outputs f)
            (All_weaker (λ v. Agrees f from v) (λ (v : Strided). AllByRecursion (λ (o : Strided). lies_in v o ≡ true) (outputs f)) (λ v g. g.inside e) (inputs next) a)))
      ] refl h

  abbrev Typed : Op → Strided → Type 0
  Typed f v = AllByRecursion (λ (p : ℕ × Elem). p.0 ≡ v.base → p.1 ≡ from) (typed f)

  types_column : (f : Op) → AllByRecursion (λ v. Agrees f from v) (inputs next) → same_types f op ≡ true → same_types f next ≡ true
  types_column f a h =
      test_all (λ (p : ℕ × Elem). list_all (λ (q : ℕ × Elem). not (p.0 == q.0) || same_elem p.1 q.1) (typed next)) (typed f)
      (all_two (λ (p : ℕ × Elem). list_all (λ (q : ℕ × Elem). not (p.0 == q.0) || same_elem p.1 q.1) (typed op) ≡ true) (λ (p : ℕ × Elem). AllByRecursion (λ (v : Strided). p.0 ≡ v.base → p.1 ≡ from) (inputs next))
      (λ (p : ℕ × Elem). list_all (λ (q : ℕ × Elem). not (p.0 == q.0) || same_elem p.1 q.1) (typed next) ≡ true)
      (λ p k g. test_all (λ (q : ℕ × Elem). not (p.0 == q.0) || same_elem p.1 q.1) (typed next)
      (retyped (λ (q : ℕ × Elem). (not (p.0 == q.0) || same_elem p.1 q.1) ≡ true) (all_of (λ (q : ℕ × Elem). not (p.0 == q.0) || same_elem p.1 q.1) (typed op) k)
      (All_weaker (λ (v : Strided). p.0 ≡ v.base → p.1 ≡ from) (λ (v : Strided). (not (p.0 == v.base) || same_elem p.1 from) ≡ true) (λ v i. tested p.0 v.base p.1 from i) (inputs next) g))) (typed f)
      (all_of (λ (p : ℕ × Elem). list_all (λ (q : ℕ × Elem). not (p.0 == q.0) || same_elem p.1 q.1) (typed op)) (typed f) h)
      (turned (λ (v : Strided) (p : ℕ × Elem). p.0 ≡ v.base → p.1 ≡ from) (inputs next) (typed f) (All_weaker (λ v. Agrees f from v) (Typed f) (λ v g. g.typed_so) (inputs next) a)))

  -- the new operation has the type `from` wherever it reads
  own_typed : AllByRecursion (Typed op) (inputs next) → AllByRecursion (Typed next) (inputs next)
  own_typed h = All_weaker (Typed op) (Typed next) (λ v k. retyped (λ (p : ℕ × Elem). p.0 ≡ v.base → p.1 ≡ from) k (all_true (λ (w : Strided). w.base ≡ v.base → from ≡ from) (λ w e. refl) (inputs next))) (inputs next) h

  types_row : (g : Op) → AllByRecursion (Typed g) (inputs next) → same_types op g ≡ true → same_types next g ≡ true
  types_row g a h =
      test_all (λ (p : ℕ × Elem). list_all (λ (q : ℕ × Elem). not (p.0 == q.0) || same_elem p.1 q.1) (typed g)) (typed next)
      (retyped (λ (p : ℕ × Elem). list_all (λ (q : ℕ × Elem). not (p.0 == q.0) || same_elem p.1 q.1) (typed g) ≡ true)
      (all_of (λ (p : ℕ × Elem). list_all (λ (q : ℕ × Elem). not (p.0 == q.0) || same_elem p.1 q.1) (typed g)) (typed op) h)
      (All_weaker (Typed g) (λ (v : Strided). list_all (λ (q : ℕ × Elem). not (v.base == q.0) || same_elem from q.1) (typed g) ≡ true)
      (λ v k. test_all (λ (q : ℕ × Elem). not (v.base == q.0) || same_elem from q.1) (typed g)
      (All_weaker (λ (q : ℕ × Elem). q.0 ≡ v.base → q.1 ≡ from) (λ (q : ℕ × Elem). (not (v.base == q.0) || same_elem from q.1) ≡ true) (λ q i. tested v.base q.0 from q.1 (λ e. sym (i (sym e)))) (typed g) k))
      (inputs next) a))

  order_column : (f : Op) → AllByRecursion (λ (v : Strided). has (freed f) v.base ≡ false) (inputs next) → may_precede f op ≡ true → may_precede f next ≡ true
  order_column f a h =
      ap₂ (λ p q. p && q) (both_left (not op.makes || list_all (λ (o : Strided). not (has (named f) o.base)) (outputs op)) _ h)
      (unfreed_again f.frees (named op) (named next) (both_right (not op.makes || list_all (λ (o : Strided). not (has (named f) o.base)) (outputs op)) _ h)
      (λ b k n. renamed b n (All_weaker (λ (v : Strided). has (freed f) v.base ≡ false) (λ (v : Strided). nat_eq b v.base ≡ false)
      (λ v u. apart b v.base (λ e. false≢true (sym u ∙ ap (has (freed f)) (sym e) ∙ k))) (inputs next) a)))

  order_row : (g : Op) → AllByRecursion (λ (v : Strided). makes_base g v.base ≡ false) (inputs next) → may_precede op g ≡ true → may_precede next g ≡ true
  order_row g a h =
      ap₂ (λ p q. p && q)
      (unmade_again g.out g.makes (named op) (named next) (both_left (not g.makes || list_all (λ (o : Strided). not (has (named op) o.base)) (outputs g)) _ h)
      (λ b k n. renamed b n (All_weaker (λ (v : Strided). makes_base g v.base ≡ false) (λ (v : Strided). nat_eq b v.base ≡ false)
      (λ v u. apart b v.base (λ e. false≢true (sym u ∙ ap (makes_base g) (sym e) ∙ k))) (inputs next) a)))
      (both_right (not g.makes || list_all (λ (o : Strided). not (has (named op) o.base)) (outputs g)) _ h)

  pub formed_next : Formed (front ++ next ∷ back)
  formed_next = record {
    well = all_replaced (λ f. well_formed f ≡ true) front back op next well formed.well;
    inside = all_replaced (λ f. AllByRecursion (λ g. inside_made f g ≡ true) (front ++ next ∷ back)) front back op next (λ h. h)
        (all_two (λ f. AllByRecursion (λ g. inside_made f g ≡ true) (front ++ op ∷ back)) (λ f. AllByRecursion (λ v. Agrees f from v) (inputs next)) (λ f. AllByRecursion (λ g. inside_made f g ≡ true) (front ++ next ∷ back))
        (λ f h a. all_replaced (λ g. inside_made f g ≡ true) front back op next (inside_column f a) h) (front ++ op ∷ back) formed.inside agrees);
    types = all_replaced (λ f. AllByRecursion (λ g. same_types f g ≡ true) (front ++ next ∷ back)) front back op next
        (λ h. all_two (λ g. same_types op g ≡ true) (λ g. AllByRecursion (Typed g) (inputs next)) (λ g. same_types next g ≡ true) (λ g k a. types_row g a k) (front ++ next ∷ back) h
        (all_replaced (λ g. AllByRecursion (Typed g) (inputs next)) front back op next own_typed
        (All_weaker (λ f. AllByRecursion (λ v. Agrees f from v) (inputs next)) (λ f. AllByRecursion (Typed f) (inputs next))
        (λ f a. All_weaker (λ v. Agrees f from v) (Typed f) (λ v g. g.typed_so) (inputs next) a) (front ++ op ∷ back) agrees)))
        (all_two (λ f. AllByRecursion (λ g. same_types f g ≡ true) (front ++ op ∷ back)) (λ f. AllByRecursion (λ v. Agrees f from v) (inputs next)) (λ f. AllByRecursion (λ g. same_types f g ≡ true) (front ++ next ∷ back))
        (λ f h a. all_replaced (λ g. same_types f g ≡ true) front back op next (types_column f a) h) (front ++ op ∷ back) formed.types agrees);
    order = pairs_replaced (λ f g. may_precede f g ≡ true) front back op next
        (All_weaker (λ f. AllByRecursion (λ (v : Strided). has (freed f) v.base ≡ false) (inputs next)) (λ f. may_precede f op ≡ true → may_precede f next ≡ true) order_column front
        (turned (λ (v : Strided) (f : Op). has (freed f) v.base ≡ false) (inputs next) front (of_reads (λ (v : Strided). AllByRecursion (λ f. has (freed f) v.base ≡ false) front) (λ v r. r.kept))))
        (All_weaker (λ g. AllByRecursion (λ (v : Strided). makes_base g v.base ≡ false) (inputs next)) (λ g. may_precede op g ≡ true → may_precede next g ≡ true) order_row back
        (turned (λ (v : Strided) (g : Op). makes_base g v.base ≡ false) (inputs next) back (of_reads (λ (v : Strided). AllByRecursion (λ g. makes_base g v.base ≡ false) back) (λ v r. r.unmade))))
        formed.order;
  }

  pub fits_next : (m : Memory) → fits m (front ++ op ∷ back) ≡ true → fits m (front ++ next ∷ back) ≡ true
  fits_next m f =
      let made : ℕ → Bool = creates (front ++ op ∷ back) in
      let same : creates (front ++ op ∷ back) ≡ creates (front ++ next ∷ back) = λ i. λ b. creates_same op next (λ b. refl) front back b i in
      let own : fits_with m (creates (front ++ op ∷ back)) op ≡ true → fits_with m (creates (front ++ op ∷ back)) next ≡ true = λ h.
      ap₂ (λ p q. p && q)
      (test_all (λ (n : Need). creates (front ++ op ∷ back) n.base || meets_need (m.bases n.base) n) (needs next)
      (reneeded (λ (n : Need). (creates (front ++ op ∷ back) n.base || meets_need (m.bases n.base) n) ≡ true)
      (all_of (λ (n : Need). creates (front ++ op ∷ back) n.base || meets_need (m.bases n.base) n) (needs op) (both_left (list_all (λ (n : Need). creates (front ++ op ∷ back) n.base || meets_need (m.bases n.base) n) (needs op)) _ h))
      (of_reads (λ (v : Strided). (creates (front ++ op ∷ back) v.base || meets_need (m.bases v.base) (need_of from v)) ≡ true) (λ v r. r.met m f))))
      (both_right (list_all (λ (n : Need). creates (front ++ op ∷ back) n.base || meets_need (m.bases n.base) n) (needs op)) _ h) in
      subst (λ (c : ℕ → Bool). list_all (fits_with m c) (front ++ next ∷ back) ≡ true) same
      (test_all (fits_with m (creates (front ++ op ∷ back))) (front ++ next ∷ back)
      (all_replaced (λ g. fits_with m (creates (front ++ op ∷ back)) g ≡ true) front back op next own (all_of (fits_with m (creates (front ++ op ∷ back))) (front ++ op ∷ back) f)))

pub slots_same : (front back : List Op) (x y : Op) → x.slot ≡ y.slot → slot_numbers (front ++ x ∷ back) ≡ slot_numbers (front ++ y ∷ back)
slots_same [] back x y e = ap (λ s. option_to_list s ++ slot_numbers back) e
slots_same (f ∷ front) back x y e = ap (λ k. option_to_list f.slot ++ k) (slots_same front back x y e)
