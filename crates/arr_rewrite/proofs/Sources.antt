-- What holds of a view that an operation reads, at its place in a formed list.
use Rattle.std.proofs.Common.{◌≡◌, ℕ, List, [], ◌∷◌, ◌++◌, Bool, true, false, not, ◌||◌, ◌&&◌, refl, ap, sym, subst, ◌∙◌, Option, Some, None, map, append_assoc}
use Rattle.std.proofs.lemmas.Bool.{false≢true, eqb-true, eq-eqb}
use Rattle.std.specs.Prelude.{◌==◌, nat_lt, is_some}
use Rattle.std.specs.List.{AllByRecursion, list_all, list_any}
use Rattle.std.specs.Option.{option_to_list}
use Rattle.arr_num.specs.declared.elem.Elem.{Elem}
use Rattle.arr_view.specs.Strided.{Strided}
use Rattle.arr_view.specs.Views.{elements, positions, has, is_view, overlap}
use Rattle.arr_ops.specs.Ops.{inputs, outputs, views, freed, named, makes_base, creates}
use Rattle.arr_ops.specs.Memory.{Memory}
use Rattle.arr_ops.specs.Formed.{inside_made, same_types, same_elem, typed, may_precede, well_formed, kind_kept, writes_once, makes_whole, is_whole}
use Rattle.arr_ops.specs.Fits.{Need, needs, meets_need, fits, op_fits}
use Rattle.arr_ops.specs.declared.op.Op.{Op}
use Rattle.arr_ops.proofs.Pairs.{All_weaker}
use Rattle.arr_ops.proofs.Tests.{both_left, both_right, all_of}
use Rattle.arr_ops.proofs.Writes.{or_right}
use Rattle.arr_ops.proofs.Spots.{Formed, all_left, all_right, all_mapped, pairs_before, pairs_after, same_elem_is, views_of, well_at}
use Rattle.arr_rewrite.specs.Writers.{unspoiled, spoils}
use Rattle.arr_rewrite.proofs.Parts.{Among, all_among, all_join, not_is, equal_turned}
use Rattle.arr_rewrite.proofs.KeptHistory.{inputs_named, unfreed_base}

-- the elements of v lie inside the base of o
abbrev pub lies_in : Strided → Strided → Bool
lies_in v o = not (o.base == v.base) || list_all (λ e. nat_lt e (positions o.lengths)) (elements v)

-- v, read at type t, beside an operation f of the list
pub record Agrees (f : Op) (t : Elem) (v : Strided) : Type 0 where
  pub inside : f.makes ≡ true → AllByRecursion (λ (o : Strided). lies_in v o ≡ true) (outputs f)
  pub typed_so : AllByRecursion (λ (p : ℕ × Elem). p.0 ≡ v.base → p.1 ≡ t) (typed f)

abbrev pub need_of : Elem → Strided → Need
need_of t v = record { base = v.base; elem = t; places = elements v }

-- v, read at type t by an operation between `front` and `back`
pub record Reads (front : List Op) (op : Op) (back : List Op) (t : Elem) (v : Strided) : Type 0 where
  pub seen : is_view v ≡ true
  pub agrees : AllByRecursion (λ f. Agrees f t v) (front ++ op ∷ back)
  pub kept : AllByRecursion (λ f. has (freed f) v.base ≡ false) front
  pub unmade : AllByRecursion (λ g. makes_base g v.base ≡ false) back
  pub own : makes_base op v.base ≡ false
  pub met : (m : Memory) → fits m (front ++ op ∷ back) ≡ true → (creates (front ++ op ∷ back) v.base || meets_need (m.bases v.base) (need_of t v)) ≡ true

-- ---- the inputs of an operation

implied : (a b : ℕ) (s t : Elem) → (not (a == b) || same_elem s t) ≡ true → a ≡ b → s ≡ t
implied a b s t h e = same_elem_is s t (ap (λ k. not k || same_elem s t) (sym (eq-eqb a b e)) ∙ h)

agrees_at : (f g : Op) (v : Strided) → Among (inputs g) v → inside_made f g ≡ true → same_types f g ≡ true → Agrees f g.from v
agrees_at f g v at i t = record {
  inside = λ e.
      let a : list_all (λ (o : Strided). list_all (λ (w : Strided). lies_in w o) (views g)) (outputs f) ≡ true = ap (λ k. not k || list_all (λ (o : Strided). list_all (λ (w : Strided). lies_in w o) (views g)) (outputs f)) (sym e) ∙ i in
      All_weaker (λ (o : Strided). list_all (λ (w : Strided). lies_in w o) (views g) ≡ true) (λ (o : Strided). lies_in v o ≡ true)
      (λ o k. at (λ (w : Strided). lies_in w o ≡ true) (all_right (λ (w : Strided). lies_in w o ≡ true) (outputs g) (inputs g) (all_of (λ (w : Strided). lies_in w o) (views g) k))) (outputs f)
      (all_of (λ (o : Strided). list_all (λ (w : Strided). lies_in w o) (views g)) (outputs f) a);
  typed_so =
      All_weaker (λ (p : ℕ × Elem). list_all (λ (q : ℕ × Elem). not (p.0 == q.0) || same_elem p.1 q.1) (typed g) ≡ true) (λ (p : ℕ × Elem). p.0 ≡ v.base → p.1 ≡ g.from)
      (λ p k. implied p.0 v.base p.1 g.from (one p k)) (typed f)
      (all_of (λ (p : ℕ × Elem). list_all (λ (q : ℕ × Elem). not (p.0 == q.0) || same_elem p.1 q.1) (typed g)) (typed f) t);
}
  where
    one : (p : ℕ × Elem) → list_all (λ (q : ℕ × Elem). not (p.0 == q.0) || same_elem p.1 q.1) (typed g) ≡ true → (not (p.0 == v.base) || same_elem p.1 g.from) ≡ true
    one p k =
        let Q : ℕ × Elem → Type 0 = λ (q : ℕ × Elem). (not (p.0 == q.0) || same_elem p.1 q.1) ≡ true in
        let a = all_left Q _ (map (λ b. (b, g.to)) (freed g)) (all_of (λ (q : ℕ × Elem). not (p.0 == q.0) || same_elem p.1 q.1) (typed g) k) in
        at (λ (w : Strided). (not (p.0 == w.base) || same_elem p.1 g.from) ≡ true)
        (all_mapped Q (λ (w : Strided). (w.base, g.from)) (inputs g) (all_right Q (map (λ (w : Strided). (w.base, g.to)) (outputs g)) (map (λ (w : Strided). (w.base, g.from)) (inputs g)) a))

-- g makes no base that is named before
pub unmade_by : (out : Option Strided) (makes : Bool) (names : List ℕ) (b : ℕ) → (not makes || list_all (λ (o : Strided). not (has names o.base)) (option_to_list out)) ≡ true → has names b ≡ true
    → (makes && list_any (λ (o : Strided). o.base == b) (option_to_list out)) ≡ false
unmade_by out false names b h t = refl
unmade_by None true names b h t = refl
unmade_by (Some o) true names b h t =
    elim (o.base == b) as (λ k. (o.base == b) ≡ k → (k || false) ≡ false) [
      | true ↦ λ e. absurd (false≢true (sym (ap not (ap (has names) (eqb-true o.base b e) ∙ t)) ∙ both_left (not (has names o.base)) true h))
      | false ↦ λ e. refl
    ] refl

-- an operation makes no base that it reads
own_unmade : (out : Option Strided) (makes : Bool) (ins : List Strided) (v : Strided) → Among ins v
    → (not makes || (is_some out && list_all (λ (o : Strided). is_whole o && list_all (λ (w : Strided). not (w.base == o.base)) ins) (option_to_list out))) ≡ true
    → (makes && list_any (λ (o : Strided). o.base == v.base) (option_to_list out)) ≡ false
own_unmade out false ins v at h = refl
own_unmade None true ins v at h = refl
own_unmade (Some o) true ins v at h =
    let a = both_right (is_whole o) (list_all (λ (w : Strided). not (w.base == o.base)) ins) (both_left (is_whole o && list_all (λ (w : Strided). not (w.base == o.base)) ins) true h) in
    let b : not (v.base == o.base) ≡ true = at (λ (w : Strided). not (w.base == o.base) ≡ true) (all_of (λ (w : Strided). not (w.base == o.base)) ins a) in
    ap (λ k. k || false) (equal_turned v.base o.base (not_is (v.base == o.base) b))

pub whole_of : (op : Op) → well_formed op ≡ true → makes_whole op ≡ true
whole_of op h = both_right (writes_once op) _ (both_right (list_all is_view (views op)) _ (both_right (kind_kept op) _ h))

pub reads_at : (front back : List Op) (op : Op) (v : Strided) → Formed (front ++ op ∷ back) → Among (inputs op) v → Reads front op back op.from v
reads_at front back op v h at =
    let list : List Op = front ++ op ∷ back in
    let well : well_formed op ≡ true = well_at front back op h in
    let name : has (named op) v.base ≡ true = at (λ (w : Strided). has (named op) w.base ≡ true) (inputs_named op) in
    record {
      seen = at (λ w. is_view w ≡ true) (all_right (λ w. is_view w ≡ true) (outputs op) (inputs op) (views_of op well));
      agrees = all_two_of (front ++ op ∷ back) h.inside h.types;
      kept = All_weaker (λ f. may_precede f op ≡ true) (λ f. has (freed f) v.base ≡ false)
          (λ f k. unfreed_base f.frees (named op) v.base (both_right (not op.makes || list_all (λ (o : Strided). not (has (named f) o.base)) (outputs op)) _ k) name) front
          (pairs_before (λ f g. may_precede f g ≡ true) front op back h.order);
      unmade = All_weaker (λ g. may_precede op g ≡ true) (λ g. makes_base g v.base ≡ false)
          (λ g k. unmade_by g.out g.makes (named op) v.base (both_left (not g.makes || list_all (λ (o : Strided). not (has (named op) o.base)) (outputs g)) _ k) name) back
          (pairs_after (λ f g. may_precede f g ≡ true) front op back h.order);
      own = own_unmade op.out op.makes (inputs op) v at (whole_of op well);
      met = λ m f.
          let P : Need → Type 0 = λ (n : Need). (creates (front ++ op ∷ back) n.base || meets_need (m.bases n.base) n) ≡ true in
          let o : op_fits m (front ++ op ∷ back) op ≡ true = (all_right (λ g. op_fits m (front ++ op ∷ back) g ≡ true) front (op ∷ back) (all_of (op_fits m (front ++ op ∷ back)) (front ++ op ∷ back) f)).0 in
          let n : AllByRecursion P (needs op) = all_of (λ (n : Need). creates (front ++ op ∷ back) n.base || meets_need (m.bases n.base) n) (needs op) (both_left (list_all (λ (n : Need). creates (front ++ op ∷ back) n.base || meets_need (m.bases n.base) n) (needs op)) _ o) in
          let a = all_left P _ (map (λ b. record { base = b; elem = op.to; places = [] }) (freed op)) n in
          at (λ (w : Strided). P (need_of op.from w))
          (all_mapped P (need_of op.from) (inputs op) (all_right P (map (need_of op.to) (outputs op)) (map (need_of op.from) (inputs op)) a));
    }
  where
    all_two_of : (fs : List Op) → AllByRecursion (λ f. AllByRecursion (λ g. inside_made f g ≡ true) (front ++ op ∷ back)) fs → AllByRecursion (λ f. AllByRecursion (λ g. same_types f g ≡ true) (front ++ op ∷ back)) fs
        → AllByRecursion (λ f. Agrees f op.from v) fs
    all_two_of [] i t = tt
    all_two_of (f ∷ fs) i t = (
      agrees_at f op v at (all_right (λ g. inside_made f g ≡ true) front (op ∷ back) i.0).0 (all_right (λ g. same_types f g ≡ true) front (op ∷ back) t.0).0,
      all_two_of fs i.1 t.1,
    )

pub reads_of : (front back : List Op) (op : Op) → Formed (front ++ op ∷ back) → AllByRecursion (Reads front op back op.from) (inputs op)
reads_of front back op h = all_among (Reads front op back op.from) (inputs op) (λ v at. reads_at front back op v h at)

-- ---- what an earlier operation reads, read in its place

pub carried : (pre between back : List Op) (w op : Op) (v : Strided) → Formed ((pre ++ w ∷ between) ++ op ∷ back) → w.from ≡ op.from → w.frees ≡ None → unspoiled between v ≡ true → Among (inputs w) v
    → Reads (pre ++ w ∷ between) op back op.from v
carried pre between back w op v h types free clean at =
    let same : (pre ++ w ∷ between) ++ op ∷ back ≡ pre ++ w ∷ (between ++ op ∷ back) = append_assoc pre (w ∷ between) (op ∷ back) in
    let r : Reads pre w (between ++ op ∷ back) w.from v = reads_at pre (between ++ op ∷ back) w v (subst Formed same h) at in
    let rest : AllByRecursion (λ g. makes_base g v.base ≡ false) (op ∷ back) = all_right (λ g. makes_base g v.base ≡ false) between (op ∷ back) r.unmade in
    let agrees_w : AllByRecursion (λ f. Agrees f w.from v) ((pre ++ w ∷ between) ++ op ∷ back) = subst (AllByRecursion (λ f. Agrees f w.from v)) (sym same) r.agrees in
    record {
      seen = r.seen;
      agrees = subst (λ t. AllByRecursion (λ f. Agrees f t v) ((pre ++ w ∷ between) ++ op ∷ back)) types agrees_w;
      kept = all_join (λ f. has (freed f) v.base ≡ false) pre (w ∷ between) r.kept (
        ap (λ k. has (option_to_list k) v.base) free,
        All_weaker (λ f. not (spoils v f) ≡ true) (λ f. has (freed f) v.base ≡ false) (λ f k. or_right (list_any (λ o. overlap o v) (outputs f)) (has (freed f) v.base) (not_is (spoils v f) k)) between
            (all_of (λ f. not (spoils v f)) between clean),
      );
      unmade = rest.1;
      own = rest.0;
      met = λ m f.
          subst (λ t. (creates ((pre ++ w ∷ between) ++ op ∷ back) v.base || meets_need (m.bases v.base) (need_of t v)) ≡ true) types
          (subst (λ l. (creates l v.base || meets_need (m.bases v.base) (need_of w.from v)) ≡ true) (sym same) (r.met m (subst (λ l. fits m l ≡ true) same f)));
    }
