use Rattle.std.proofs.Common.{◌≡◌, ◌∙◌, ◌+◌, ◌*◌, ◌≤◌, ap, ap₂, refl, sym, subst, arith, take}
use Rattle.std.specs.FinMap as finite
use Rattle.std.specs.Prelude.{nat_lt}
use Rattle.arr_view.specs.Strided.{Strided}
use Rattle.arr_view.specs.Views.{positions}
use Rattle.arr_store.specs.Buffers.{cell_of}
use Rattle.arr_store.specs.Cells.{number_at, width_at}
use Rattle.arr_store.specs.Stored.{cells}
use Rattle.arr_strips.specs.Columns.{place_at}
use Rattle.arr_strips.specs.Strips.{part, put_at}
use Rattle.arr_rows.proofs.Strips.{of_put, size_put, width_put}
use Rattle.arr_shift.proofs.Shifting.{Shift, Shifting, as_many, cut_inside, moved_bytes, rest_inside, shift_of, shifting_end, shifting_start, strip_more}
use Rattle.arr_shift.proofs.shifts.shift.Goals as goal

pub loop-left-init : goal.loop-left-init
loop-left-init c =
    let out = c.args.out.now in
    let input = c.args.input.now in
    let n : c.positions.result ≡ positions out.lengths = c.positions.ensures.value in
    let f = cells c.args.store.now in
    record {
      inside = omega arith;
      elem = refl;
      long = refl;
      stands = subst (Shifting out input f f 0) (sym n) (shifting_start out input c.positions.ensures.lawful c.start.ensures.lawful (shift_of out input c.requires.shift) f);
      base = c.requires.base;
      size = refl;
      wide = refl;
      loads = ap (λ k. c.args.store.now.loads + k * width_at (f out.base)) n;
      stores = ap (λ k. c.args.store.now.stores + k * width_at (f out.base)) n;
      made = refl;
    }

pub load-requires-clause-within : goal.load-requires-clause-within
load-requires-clause-within c =
    let out = c.args.out.now in
    let input = c.args.input.now in
    let many : positions input.lengths ≡ positions out.lengths = as_many out input c.positions.ensures.lawful c.start.ensures.lawful (shift_of out input c.requires.shift) in
    let cut = cut_inside _ c.loop-left.left.first c.loop-left.left.count c.cut-strip.result.first c.cut-strip.result.count c.cut-strip.new.self.count c.cut-strip.ensures.left c.cut-strip.ensures.front c.cut-strip.ensures.end in
    subst (λ (v : Strided). c.cut-strip.result.first + c.cut-strip.result.count ≤ positions v.lengths) (sym c.of-from.ensures) (omega (arith, c.loop-left.invariant.inside, cut))

pub loop-left-preserved : goal.loop-left-preserved
loop-left-preserved c =
    let out = c.args.out.now in
    let input = c.args.input.now in
    let s : Shift out input = shift_of out input c.requires.shift in
    let b = out.base in
    let f = cells c.args.store.now in
    let now = cells c.loop-left.store in
    let next = cells c.store.new.store in
    let p = c.cut-strip.result.first in
    let k = c.cut-strip.result.count in
    let w = width_at (f b) in
    let xs = (cell_of c.load.new.lane).numbers in
    let rest = rest_inside _ c.loop-left.left.first c.loop-left.left.count c.cut-strip.new.self.first k c.cut-strip.new.self.count c.cut-strip.ensures.left c.cut-strip.ensures.behind c.cut-strip.ensures.before in
    let loaded : cells c.load.new.store ≡ now = ap finite.get c.load.ensures.bases in
    let put : next ≡ put_at b (part out p k) (take k xs) now =
    c.store.ensures.bases ∙ ap₂ (λ (v : Strided) g. put_at v.base (part v p k) (take k xs) g) c.of-to.ensures loaded in
    let from : c.of-from.result.base ≡ b = ap (λ (v : Strided). v.base) c.of-from.ensures ∙ sym s.base in
    let to : c.of-to.result.base ≡ b = ap (λ (v : Strided). v.base) c.of-to.ensures in
    let wide : width_at (now b) ≡ w = c.loop-left.invariant.wide in
    record {
      inside = omega (arith, c.loop-left.invariant.inside, rest);
      elem = c.load.ensures.elem ∙ c.loop-left.invariant.elem;
      long = c.load.ensures.length ∙ c.loop-left.invariant.long;
      stands = strip_more out input c.positions.ensures.lawful c.start.ensures.lawful s f now next c.loop-left.left.first c.loop-left.left.count p k c.cut-strip.new.self.first c.cut-strip.new.self.count xs
          c.loop-left.invariant.stands c.loop-left.invariant.inside c.cut-strip.ensures.left
          (omega (arith, c.cut-strip.ensures.most, c.requires.lane, c.loop-left.invariant.long, c.load.ensures.length))
          (λ i l. c.load.ensures.each i l ∙ ap₂ (λ a (v : Strided). number_at (now a) (place_at v (p + i))) from c.of-from.ensures)
          put _ (ap₂ nat_lt c.start.ensures.value c.start-2.ensures.value) c.cut-strip.ensures.front c.cut-strip.ensures.behind c.cut-strip.ensures.end c.cut-strip.ensures.before;
      base = of_put (cell_of c.args.lane.now).elem b (part out p k) (take k xs) now next put c.loop-left.invariant.base;
      size = size_put b (part out p k) (take k xs) now next put ∙ c.loop-left.invariant.size;
      wide = width_put b (part out p k) (take k xs) now next put ∙ wide;
      loads = moved_bytes c.loop-left.store.loads c.store.new.store.loads _ c.loop-left.left.count k c.cut-strip.new.self.count w
          (c.store.ensures.loads ∙ c.load.ensures.loads ∙ ap (λ d. c.loop-left.store.loads + k * d) (ap (λ a. width_at (now a)) from ∙ wide)) c.cut-strip.ensures.left c.loop-left.invariant.loads;
      stores = moved_bytes c.loop-left.store.stores c.store.new.store.stores _ c.loop-left.left.count k c.cut-strip.new.self.count w
          (c.store.ensures.stores ∙ ap₂ (λ a d. a + k * d) c.load.ensures.stores (ap₂ (λ a (g : _). width_at (g a)) to loaded ∙ wide)) c.cut-strip.ensures.left c.loop-left.invariant.stores;
      made = c.store.ensures.made ∙ c.load.ensures.made ∙ c.loop-left.invariant.made;
    }

pub returns-clause-bases : goal.returns-clause-bases
returns-clause-bases c =
    let out = c.args.out.now in
    let input = c.args.input.now in
    let none : c.loop-left.left.count ≡ 0 = omega (arith, c.loop-left-test.false) in
    shifting_end out input c.positions.ensures.lawful c.start.ensures.lawful (shift_of out input c.requires.shift) (cells c.args.store.now) (cells c.loop-left.store) c.loop-left.left.first c.loop-left.left.count none c.loop-left.invariant.stands
