-- A copied view carried into an operand, and constants joined, keep the memory that a formed list leaves.
use Rattle.std.proofs.Common.{◌≡◌, ℕ, List, ◌∷◌, ◌++◌, Bool, true, false, cond, not, ◌||◌, ◌&&◌, refl, ap, sym, subst, ◌∙◌, Option, Some, None, length, append_assoc}
use Rattle.std.proofs.lemmas.Bool.{false≢true, eqb-true}
use Rattle.std.specs.Prelude.{◌==◌, is_some}
use Rattle.std.specs.List.{AllByRecursion, list_all, list_any, range_with_len}
use Rattle.std.specs.Option.{option_to_list, option_or}
use Rattle.arr_view.specs.Strided.{Strided}
use Rattle.arr_view.specs.Views.{elements, has, positions, identical, same_lists, overlap, share, repeated, is_view}
use Rattle.arr_ops.specs.Ops.{outputs, inputs, views, named, freed}
use Rattle.arr_num.specs.Kinds.{kind, Unary}
use Rattle.arr_ops.specs.Memory.{Memory, eager, step, read}
use Rattle.arr_ops.specs.Formed.{elementwise, well_formed, operands_kept, may_precede, is_whole, kind_kept, same_elem}
use Rattle.arr_ops.specs.Fits.{fits}
use Rattle.arr_rewrite.specs.Rules.{is_identity, with_first, with_second}
use Rattle.arr_ops.proofs.Spots.{is_scalar, Formed, held, well_at, Plain, plain_at, operands_of, scalar_elementwise, same_elem_is, none_from, all_left, all_right, all_two, pairs_after}
use Rattle.arr_rewrite.specs.Writers.{Writer, only_writer, unwritten_base, spoils, unspoiled}
use Rattle.arr_rewrite.specs.NextRewrite.{source_view, copied_from, copied_operand, copy_carried, first_view, second_view}
use Rattle.arr_num.specs.declared.code.Code.TheVariants.{Identity}
use Rattle.arr_ops.specs.declared.op.Op.{Op}
use Rattle.arr_ops.specs.declared.op.Operand.{Operand}
use Rattle.arr_ops.specs.declared.op.Operand.TheVariants.{Array, Number}
use Rattle.arr_ops.proofs.Pairs.{All_weaker}
use Rattle.arr_ops.proofs.Tests.{both_left, both_right, all_of, same_from_test}
use Rattle.arr_ops.proofs.Writes.{or_left, or_right}
use Rattle.arr_ops.proofs.Commute.{Spared, Misses}
use Rattle.arr_rewrite.proofs.Agree.{eager-append}
use Rattle.arr_ops.proofs.Typed.{CellFits}
use Rattle.arr_rewrite.proofs.Options.{some_true, some_same}
use Rattle.arr_rewrite.proofs.Kept.{same_step}
use Rattle.arr_rewrite.proofs.KeptRemoved.{identity_is}
use Rattle.arr_rewrite.proofs.KeptHistory.{Found, found_before, inputs_named, wrote}
use Rattle.arr_rewrite.proofs.KeptConstants.{written_out}
use Rattle.arr_rewrite.proofs.History.{Wrote, copy_shows, first_copied, second_copied}
use Rattle.arr_rewrite.proofs.Parts.{not_is, equal_turned, one, at_first, at_second}

-- what a creator's well-formedness says: its output is the whole base, and no input is in it
pub record Creator (w : Op) (o : Strided) : Type 0 where
  pub whole : elements o ≡ range_with_len 0 (positions o.lengths)
  pub apart : AllByRecursion (λ (v : Strided). (v.base == o.base) ≡ false) (inputs w)

creator_test : (w : Op) (out : Option Strided) (o : Strided) (makes : Bool) → out ≡ Some o → makes ≡ true
    → (not makes || (is_some out && list_all (λ (u : Strided). is_whole u && list_all (λ (v : Strided). not (v.base == u.base)) (inputs w)) (option_to_list out))) ≡ true → Creator w o
creator_test w out o false e m h = absurd (false≢true m)
creator_test w None o true e m h = absurd (cc)
creator_test w (Some u) o true e m h =
    let same : u ≡ o = cc in
    let a = both_left (is_whole u && list_all (λ (v : Strided). not (v.base == u.base)) (inputs w)) true h in
    subst (Creator w) same (record {
      whole = same_from_test (elements u) (range_with_len 0 (positions u.lengths)) (both_left (is_whole u) _ a);
      apart = All_weaker (λ (v : Strided). not (v.base == u.base) ≡ true) (λ (v : Strided). (v.base == u.base) ≡ false) (λ v t. not_is (v.base == u.base) t) (inputs w)
          (all_of (λ (v : Strided). not (v.base == u.base)) (inputs w) (both_right (is_whole u) _ a));
    })

pub creator_of : (w : Op) (o : Strided) → w.out ≡ Some o → w.makes ≡ true → well_formed w ≡ true → Creator w o
creator_of w o e m well =
    creator_test w w.out o w.makes e m
    (both_right (list_all (λ o. not (repeated (elements o))) (outputs w)) _ (both_right (list_all is_view (views w)) _ (both_right (kind_kept w) _ well)))

spared_by : (f : Op) (v : Strided) (names : List ℕ) (out : Option Strided) (makes : Bool) → has names v.base ≡ true → (list_any (λ o. overlap o v) (option_to_list out)) ≡ false
    → (not makes || list_all (λ (o : Strided). not (has names o.base)) (option_to_list out)) ≡ true → Misses out makes v
spared_by f v names None makes n s h = tt
spared_by f v names (Some u) false n s h = (or_left (overlap u v) false s, λ e. absurd (false≢true e))
spared_by f v names (Some u) true n s h = (
  or_left (overlap u v) false s,
  λ e. elim (u.base == v.base) as (λ t. (u.base == v.base) ≡ t → t ≡ false) [
    | true ↦ λ d. absurd (false≢true (sym (not_is (has names u.base) (both_left (not (has names u.base)) true h)) ∙ ap (has names) (eqb-true u.base v.base d) ∙ n))
    | false ↦ λ d. refl
  ] refl,
)

-- where what a view shows came from
pub record Traced (w : Op) (o x v : Strided) (between : List Op) : Type 0 where
  pub wrote : Wrote w o between
  pub whole : elements x ≡ range_with_len 0 (positions o.lengths)
  pub shape_x : x.lengths ≡ o.lengths
  pub shape_v : v.lengths ≡ o.lengths
  pub size : length (elements v) ≡ positions o.lengths
  pub base : x.base ≡ o.base
  pub spared_w : Spared w v
  pub spared : AllByRecursion (λ f. Spared f v) between

pub traced : (pre between back : List Op) (w op : Op) (o x v : Strided) → Formed ((pre ++ w ∷ between) ++ op ∷ back) → w.makes ≡ true → w.out ≡ Some o → is_scalar (kind w.code) ≡ true
    → identical x o ≡ true → unwritten_base between o.base ≡ true → has (named op) x.base ≡ true → unspoiled between v ≡ true → ((P : Strided → Type 0) → AllByRecursion P (inputs w) → P v)
    → Traced w o x v between
traced pre between back w op o x v formed makes out scalar same alone names clean at =
    let front : List Op = pre ++ w ∷ between in
    let well : well_formed w ≡ true = (all_right (λ f. well_formed f ≡ true) pre (w ∷ between) (all_left (λ f. well_formed f ≡ true) front (op ∷ back) formed.well)).0 in
    let base : x.base ≡ o.base = eqb-true x.base o.base (both_left (x.base == o.base) _ same) in
    let lists = both_right (x.base == o.base) _ same in
    let places : elements x ≡ elements o = same_from_test (elements x) (elements o) (both_right (same_lists x.lengths o.lengths) _ lists) in
    let made : Creator w o = creator_of w o out makes well in
    let p : Plain w o = plain_at w o out well (scalar_elementwise (kind w.code) w scalar (operands_of w well)) in
    let wr : Wrote w o between = wrote pre between back w op o formed makes out (ap (has (named op)) (sym base) ∙ names) alone in
    let away : (o.base == v.base) ≡ false = equal_turned v.base o.base (at (λ (v : Strided). (v.base == o.base) ≡ false) made.apart) in
    let named_v : has (named w) v.base ≡ true = at (λ (v : Strided). has (named w) v.base ≡ true) (inputs_named w) in
    let order : AllByRecursion (λ f. may_precede w f ≡ true) between =
    after_in pre between back w op formed in
    record {
      wrote = wr;
      whole = places ∙ made.whole;
      shape_x = same_from_test x.lengths o.lengths (both_left (same_lists x.lengths o.lengths) _ lists);
      shape_v = at (λ (v : Strided). v.lengths ≡ o.lengths) p.shapes;
      size = at (λ (v : Strided). length (elements v) ≡ positions o.lengths) p.sizes;
      base = base;
      spared_w = record {
        kept = ap (λ f. has (option_to_list f) v.base) wr.frees;
        missed = subst (λ (u : Option Strided). Misses u w.makes v) (sym out) (ap (λ t. t && share (elements o) (elements v)) away, λ _. away);
      };
      spared = all_two (λ f. not (spoils v f) ≡ true) (λ f. may_precede w f ≡ true) (λ f. Spared f v)
          (λ f a b. let s : spoils v f ≡ false = not_is (spoils v f) a in
          record {
            kept = or_right (list_any (λ u. overlap u v) (outputs f)) (has (freed f) v.base) s;
            missed = spared_by f v (named w) f.out f.makes named_v (or_left (list_any (λ u. overlap u v) (outputs f)) (has (freed f) v.base) s)
                (both_left (not f.makes || list_all (λ (u : Strided). not (has (named w) u.base)) (outputs f)) _ b);
          })
          between (all_of (λ f. not (spoils v f)) between clean) order;
    }
  where
    after_in : (pre between back : List Op) (w op : Op) → Formed ((pre ++ w ∷ between) ++ op ∷ back) → AllByRecursion (λ f. may_precede w f ≡ true) between
    after_in pre between back w op formed =
        let moved : Formed (pre ++ w ∷ (between ++ op ∷ back)) = subst Formed (append_assoc pre (w ∷ between) (op ∷ back)) formed in
        all_left (λ f. may_precede w f ≡ true) between (op ∷ back) (pairs_after (λ f g. may_precede f g ≡ true) pre w (between ++ op ∷ back) moved.order)

-- ---- a copied view is carried

pub record Copied (front : List Op) (operand : Option Operand) (v : Strided) : Type 0 where
  pub view : Strided
  pub is : operand ≡ Some (Array view)
  pub writer : Writer
  pub found : Found front view.base writer
  pub code : writer.op.code ≡ Identity
  pub types : writer.op.from ≡ writer.op.to
  pub same : list_any (identical view) (outputs writer.op) ≡ true
  pub source : writer.op.first ≡ Some (Array v)
  pub clean : unspoiled writer.between v ≡ true

source_at : (between : List Op) (o : Option Operand) (v : Strided) → source_view between o ≡ Some v → (o ≡ Some (Array v)) × (unspoiled between v ≡ true)
source_at between None v e = absurd (cc)
source_at between (Some (Number z)) v e = absurd (cc)
source_at between (Some (Array w)) v e =
    let same : w ≡ v = some_same (unspoiled between w) w v e in
    (ap (λ (u : Strided). Some (Array u)) same, ap (unspoiled between) (sym same) ∙ some_true (unspoiled between w) w v e)

pub copied : (front back : List Op) (o : Option Operand) (v : Strided) → copied_operand front back o ≡ Some v → Copied front o v
copied front back None v e = absurd (cc)
copied front back (Some (Number y)) v e = absurd (cc)
copied front back (Some (Array x)) v e =
    elim (only_writer front back x.base) as (λ k. only_writer front back x.base ≡ k → copied_from x k ≡ Some v → Copied front (Some (Array x)) v) [
      | None ↦ λ d g. absurd (cc)
      | Some w ↦ λ d g.
          elim (is_identity w.op.code && (same_elem w.op.from w.op.to && list_any (identical x) (outputs w.op)))
          as (λ t. (is_identity w.op.code && (same_elem w.op.from w.op.to && list_any (identical x) (outputs w.op))) ≡ t → cond t (source_view w.between w.op.first) None ≡ Some v → Copied front (Some (Array x)) v) [
            | true ↦ λ t f.
                let r = both_right (is_identity w.op.code) (same_elem w.op.from w.op.to && list_any (identical x) (outputs w.op)) t in
                let s = source_at w.between w.op.first v f in
                record {
                  view = x;
                  is = refl;
                  writer = w;
                  found = found_before front back x.base w d;
                  code = identity_is w.op.code (both_left (is_identity w.op.code) (same_elem w.op.from w.op.to && list_any (identical x) (outputs w.op)) t);
                  types = same_elem_is w.op.from w.op.to (both_left (same_elem w.op.from w.op.to) (list_any (identical x) (outputs w.op)) r);
                  same = both_right (same_elem w.op.from w.op.to) (list_any (identical x) (outputs w.op)) r;
                  source = s.0;
                  clean = s.1;
                }
            | false ↦ λ t f. absurd (cc)
          ] refl g
    ] refl e

-- what the operand reads is what the source shows
copy_reads : (m : Memory) (front back : List Op) (op : Op) → Formed (front ++ op ∷ back) → fits m (front ++ op ∷ back) ≡ true → (o : Option Operand) (v : Strided) (k : Copied front o v)
    → has (named op) k.view.base ≡ true
    → (k.view.lengths ≡ v.lengths) × (read ((eager m front).bases k.view.base) (elements k.view) ≡ read ((eager m front).bases v.base) (elements v))
copy_reads m front back op formed fit o v k names =
    let w : Op = k.writer.op in
    let between : List Op = k.writer.between in
    let pre : List Op = k.found.pre in
    let moved : Formed ((pre ++ w ∷ between) ++ op ∷ back) = subst (λ fs. Formed (fs ++ op ∷ back)) k.found.split formed in
    let moved_fit : fits m ((pre ++ w ∷ between) ++ op ∷ back) ≡ true = subst (λ fs. fits m (fs ++ op ∷ back) ≡ true) k.found.split fit in
    let far : Formed (pre ++ w ∷ (between ++ op ∷ back)) = subst Formed (append_assoc pre (w ∷ between) (op ∷ back)) moved in
    let far_fit : fits m (pre ++ w ∷ (between ++ op ∷ back)) ≡ true = subst (λ l. fits m l ≡ true) (append_assoc pre (w ∷ between) (op ∷ back)) moved_fit in
    let well : well_formed w ≡ true = well_at pre (between ++ op ∷ back) w far in
    let kept : operands_kept Unary w ≡ true = ap (λ c. operands_kept (kind c) w) (sym k.code) ∙ operands_of w well in
    let second : w.second ≡ None = none_from w.second (both_right (is_some w.first) _ (both_right (elementwise w) _ kept)) in
    let out = written_out w k.view.base w.out refl k.found.writes in
    let same : identical k.view out.0 ≡ true = one (identical k.view out.0) (ap (λ (u : Option Strided). list_any (identical k.view) (option_to_list u)) (sym out.1) ∙ k.same) in
    let t : Traced w out.0 k.view v between =
    traced pre between back w op out.0 k.view v moved k.found.makes out.1 (ap (λ c. is_scalar (kind c)) k.code) same (ap (unwritten_base between) out.2 ∙ k.found.alone) names k.clean (λ P h. at_first P w v k.source h) in
    let holds : CellFits w.from ((eager m pre).bases v.base) = at_first (λ (u : Strided). CellFits w.from ((eager m pre).bases u.base)) w v k.source (held m pre (between ++ op ∷ back) w far far_fit) in
    let holds2 : CellFits w.to ((eager m pre).bases v.base) = subst (λ e. CellFits e ((eager m pre).bases v.base)) k.types holds in
    let there : eager m front ≡ eager (step (eager m pre) w) between = ap (eager m) k.found.split ∙ eager-append m pre (w ∷ between) in (
      t.shape_x ∙ sym t.shape_v,
      subst (λ (n : Memory). read (n.bases k.view.base) (elements k.view) ≡ read (n.bases v.base) (elements v)) (sym there)
          (copy_shows (eager m pre) w out.0 k.view v between t.wrote k.code k.source second holds2 t.size t.base t.whole t.spared_w t.spared),
    )

pub copy_carried_keeps : (m : Memory) (front back : List Op) (op next : Op) → Formed (front ++ op ∷ back) → fits m (front ++ op ∷ back) ≡ true
    → copy_carried front op back ≡ Some next → eager m (front ++ op ∷ back) ≡ eager m (front ++ next ∷ back)
copy_carried_keeps m front back op next formed fit e =
    same_step m front back op next (by_first (copied_operand front (op ∷ back) op.first) (copied_operand front (op ∷ back) op.second) refl refl e)
  where
    n : Memory
    n = eager m front

    by_second : (b : Option Strided) → copied_operand front (op ∷ back) op.second ≡ b → second_view op b ≡ Some next → step n op ≡ step n next
    by_second None q g = absurd (cc)
    by_second (Some v) q g =
        let k : Copied front op.second v = copied front (op ∷ back) op.second v q in
        let same : with_second op (Array v) ≡ next = cc in
        second_copied n op k.view v k.is (copy_reads m front back op formed fit op.second v k (at_second (λ (u : Strided). has (named op) u.base ≡ true) op k.view k.is (inputs_named op))).1 ∙ ap (step n) same

    by_first : (a b : Option Strided) → copied_operand front (op ∷ back) op.first ≡ a → copied_operand front (op ∷ back) op.second ≡ b → option_or (first_view op a) (second_view op b) ≡ Some next → step n op ≡ step n next
    by_first None b p q g = by_second b q g
    by_first (Some v) b p q g =
        let k : Copied front op.first v = copied front (op ∷ back) op.first v p in
        let same : with_first op (Array v) ≡ next = cc in
        let r = copy_reads m front back op formed fit op.first v k (at_first (λ (u : Strided). has (named op) u.base ≡ true) op k.view k.is (inputs_named op)) in
        first_copied n op k.view v k.is r.0 r.1 ∙ ap (step n) same
