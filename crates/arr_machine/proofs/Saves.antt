-- Lanes stored into views, one after another.
use Rattle.std.proofs.Common.{◌≡◌, ℕ, suc, ◌+◌, ◌-◌, ◌*◌, ◌<◌, ◌≤◌, pos, List, [], ◌∷◌, Option, Some, None, length, get_or, take, drop, refl, ap, ap₂, sym, subst, ◌∙◌, drop-cons, arith}
use Rattle.std.specs.Prelude.{slice_get}
use Rattle.std.proofs.lemmas.List.{ext_get_or, get_or_default, length-take-le}
use Rattle.std.proofs.lemmas.List.FromFn.{get_or-map-range_with_len, length-map-range_with_len}
use Rattle.arr_num.specs.declared.elem.Elem.{Elem}
use Rattle.arr_view.specs.Strided.{Strided}
use Rattle.arr_view.specs.Views.{elements}
use Rattle.arr_ops.specs.declared.op.Op.{Op}
use Rattle.arr_ops.specs.Costs.{elem_of, total}
use Rattle.arr_ops.specs.Memory.{Cell}
use Rattle.arr_picks.specs.Picks.{AllBelow}
use Rattle.arr_store.specs.Buffers.{cell_of}
use Rattle.arr_store.specs.Cells.{size_at, width_at}
use Rattle.arr_store.specs.Runs.{IsOf}
use Rattle.arr_store.specs.declared.buffer.Buffer.{Buffer}
use Rattle.arr_strips.specs.Registers.{number_in, register_views}
use Rattle.arr_strips.specs.Strips.{lane_of, outline, part, put_at, stored}
use Rattle.arr_strips.proofs.Cells.{outline-put}
use Rattle.arr_lanes.specs.Lanes.{lane_number, number}
use Rattle.arr_machine.specs.Ports.{IsThere, lane_columns}

-- ---- what an outline tells

abbrev out_of : {X : Type 0} → X → Option X → X
out_of x None = x
out_of x (Some y) = y

outline_type : (t : Elem) (c d : Option Cell) → outline c ≡ outline d → IsOf t d → IsOf t c
outline_type t None None e h = h
outline_type t None (Some d) e h = absurd (cc)
outline_type t (Some c) None e h = absurd h
outline_type t (Some c) (Some d) e h = h ∙ ap (λ (p : Elem × ℕ). p.0) (ap (out_of (c.elem, length c.numbers)) (sym e))

outline_size : (c d : Option Cell) → outline c ≡ outline d → size_at c ≡ size_at d
outline_size None None e = refl
outline_size None (Some d) e = absurd (cc)
outline_size (Some c) None e = absurd (cc)
outline_size (Some c) (Some d) e = ap (λ (p : Elem × ℕ). p.1) (ap (out_of (c.elem, length c.numbers)) e)

pub outline_width : (c d : Option Cell) → outline c ≡ outline d → width_at c ≡ width_at d
outline_width None None e = refl
outline_width None (Some d) e = absurd (cc)
outline_width (Some c) None e = absurd (cc)
outline_width (Some c) (Some d) e = ap (λ (p : Elem × ℕ). Rattle.arr_num.specs.Numbers.width p.0) (ap (out_of (c.elem, length c.numbers)) e)

pub there_alike : (ops : List Op) (f g : ℕ → Option Cell) (v : Strided) → outline (g v.base) ≡ outline (f v.base) → IsThere ops f v → IsThere ops g v
there_alike ops f g v e h =
    record { typed = outline_type (elem_of ops v.base) (g v.base) (f v.base) e h.typed; inside = subst (λ n. AllBelow n (elements v)) (sym (outline_size (g v.base) (f v.base) e)) h.inside }

pub widths_alike : (f g : ℕ → Option Cell) (vs : List Strided) → ((b : ℕ) → outline (g b) ≡ outline (f b)) → total (λ (v : Strided). width_at (g v.base)) vs ≡ total (λ (v : Strided). width_at (f v.base)) vs
widths_alike f g [] e = refl
widths_alike f g (v ∷ vs) e = ap₂ (λ a b. a + b) (outline_width (g v.base) (f v.base) (e v.base)) (widths_alike f g vs e)

-- ---- the numbers of a lane

pub lane_is : (ops : List Op) (lanes : List Buffer) (p c : ℕ) (v : Strided) (lane : Buffer) → slice_get lanes (number_in (register_views ops) v) ≡ Some lane → c ≤ length (cell_of lane).numbers
    → lane_of (lane_columns ops (number lanes) p) v p c ≡ take c (cell_of lane).numbers
lane_is ops lanes p c v lane there long =
    let n : length (take c (cell_of lane).numbers) ≡ c = length-take-le c (cell_of lane).numbers long in
    let m : length (lane_of (lane_columns ops (number lanes) p) v p c) ≡ c = length-map-range_with_len (λ q. number lanes (number_in (register_views ops) v) (q - p)) p c in
    ext_get_or (pos 0) (lane_of (lane_columns ops (number lanes) p) v p c) (take c (cell_of lane).numbers) (m ∙ sym n)
    (λ i u.
    let l : i < c = omega arith in
    get_or-map-range_with_len (λ q. number lanes (number_in (register_views ops) v) (q - p)) p c i (p + i) (pos 0) l refl
    ∙ ap (λ z. number lanes (number_in (register_views ops) v) z) (let z : p + i - p ≡ i = omega arith in z)
    ∙ ap (λ o. lane_number o i) there ∙ sym (Rattle.std.proofs.lemmas.List.get_or-take c (cell_of lane).numbers i (pos 0) l))

-- ---- view after view

pub record StoredTo (ops : List Op) (vs : List Strided) (p c k : ℕ) (lanes : List Buffer) (old now : ℕ → Option Cell) : Type 0 where
  pub rest : stored p c (lane_columns ops (number lanes) p) (drop k vs) now ≡ stored p c (lane_columns ops (number lanes) p) vs old
  pub same : (b : ℕ) → outline (now b) ≡ outline (old b)

pub stored_none : (ops : List Op) (vs : List Strided) (p c : ℕ) (lanes : List Buffer) (f : ℕ → Option Cell) → StoredTo ops vs p c 0 lanes f f
stored_none ops vs p c lanes f = record { rest = refl; same = λ b. refl }

pub stored_more : (ops : List Op) (vs : List Strided) (p c k : ℕ) (lanes : List Buffer) (old now new : ℕ → Option Cell) (v : Strided) (lane : Buffer) → k < length vs → v ≡ get_or vs k v
    → slice_get lanes (number_in (register_views ops) v) ≡ Some lane → c ≤ length (cell_of lane).numbers → new ≡ put_at v.base (part v p c) (take c (cell_of lane).numbers) now
    → StoredTo ops vs p c k lanes old now → StoredTo ops vs p c (k + 1) lanes old new
stored_more ops vs p c k lanes old now new v lane l e there long is s =
    let put : put_at v.base (part v p c) (lane_of (lane_columns ops (number lanes) p) v p c) now ≡ new = ap (λ xs. put_at v.base (part v p c) xs now) (lane_is ops lanes p c v lane there long) ∙ sym is in
    let cut : drop k vs ≡ v ∷ drop (k + 1) vs = drop-cons vs k v l ∙ ap₂ (λ x n. x ∷ drop n vs) (sym e) (let z : suc k ≡ k + 1 = omega arith in z) in
    record {
      rest = ap (stored p c (lane_columns ops (number lanes) p) (drop (k + 1) vs)) (sym put) ∙ ap (λ xs. stored p c (lane_columns ops (number lanes) p) xs now) (sym cut) ∙ s.rest;
      same = λ b. ap (λ (f : ℕ → Option Cell). outline (f b)) is ∙ outline-put v.base (part v p c) (take c (cell_of lane).numbers) now b ∙ s.same b;
    }

-- storing keeps the type and the length of each base
pub outline_stored : (p c : ℕ) (h : Rattle.arr_strips.specs.Columns.Columns) (vs : List Strided) (f : ℕ → Option Cell) (b : ℕ) → outline (stored p c h vs f b) ≡ outline (f b)
outline_stored p c h [] f b = refl
outline_stored p c h (v ∷ vs) f b = outline_stored p c h vs (put_at v.base (part v p c) (lane_of h v p c) f) b ∙ outline-put v.base (part v p c) (lane_of h v p c) f b

-- bytes so far, and those of some positions more
pub moved_on : (new now old a c w t : ℕ) → new ≡ now + c * w → now ≡ old + a * t → w ≡ t → new ≡ old + (a + c) * t
moved_on new now old a c w t more far same =
    let e : c * w ≡ c * t = ap (λ n. c * n) same in
    let d : (a + c) * t ≡ a * t + c * t = omega arith in
    omega arith
