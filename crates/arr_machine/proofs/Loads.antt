-- Views loaded into lanes, one after another.
use Rattle.std.proofs.Common.{◌≡◌, ℕ, ℤ, zero, suc, ◌+◌, ◌*◌, ◌<◌, ◌≤◌, List, [], ◌∷◌, ◌++◌, true, false, ◌||◌, Option, Some, None, length, get_or, take, refl, ap, ap₂, sym, subst, ◌∙◌, arith}
use Rattle.std.specs.Prelude.{◌==◌, slice_get, slice_set}
use Rattle.std.specs.List.{AllByRecursion}
use Rattle.std.proofs.lemmas.Bool.{eqb-true, eqb-false, false≢true}
use Rattle.std.proofs.lemmas.List.{get_or_default, length-set, take_all, take_more}
use Rattle.std.proofs.Math.Nat.{mul-le-mul_left}
use Rattle.arr_num.specs.declared.elem.Elem.{Elem}
use Rattle.arr_num.specs.Numbers.{width}
use Rattle.arr_view.specs.Strided.{Strided}
use Rattle.arr_view.specs.Views.{identical}
use Rattle.arr_ops.specs.declared.op.Op.{Op}
use Rattle.arr_ops.specs.Costs.{reads, total}
use Rattle.arr_ops.specs.Memory.{Cell}
use Rattle.arr_store.specs.Buffers.{cell_of}
use Rattle.arr_store.specs.Cells.{number_at, width_at}
use Rattle.arr_store.specs.declared.buffer.Buffer.{Buffer}
use Rattle.arr_strips.specs.Columns.{place_at}
use Rattle.arr_strips.specs.Registers.{number_in, register_views}
use Rattle.arr_strips.specs.Strips.{loaded}
use Rattle.arr_strips.proofs.Registers.{one_number}
use Rattle.arr_strips.proofs.Sames.{same_base, same_elements}
use Rattle.arr_lanes.specs.declared.strip.Strip.{Strip}
use Rattle.arr_lanes.specs.Lanes.{IsLane}
use Rattle.arr_lanes.proofs.Places.{set_elsewhere, set_here}
use Rattle.arr_machine.specs.Ports.{AreLoaded, Brings}
use Rattle.arr_machine.specs.Tasks.{Steady}
use Rattle.arr_machine.proofs.Blocks.{register_below, total_end}

-- identical views have the same number at a position
pub same_look : (f : ℕ → Option Cell) (v w : Strided) (p : ℕ) → identical v w ≡ true → number_at (f v.base) (place_at v p) ≡ number_at (f w.base) (place_at w p)
same_look f v w p e = ap₂ (λ b es. number_at (f b) (get_or es p 0)) (same_base v w e) (same_elements v w e)

-- of the first k views that are read the lanes hold what was loaded
abbrev pub LoadedTo : List Op → ℕ → Strip → (ℕ → Option Cell) → (ℕ → ℕ → ℤ) → Type 0
LoadedTo ops k s f see = (j : ℕ) (v : Strided) → j < k → v ≡ get_or (reads ops) j v → (i : ℕ) → i < s.count → see (number_in (register_views ops) v) i ≡ number_at (f v.base) (place_at v (s.position + i))

-- one lane that was loaded into
module _ (ops : List Op) (room : ℕ) (lanes : List Buffer) (v : Strided) (on : loaded (register_views ops) v ≡ true) (lane new : Buffer) (is : slice_get lanes (number_in (register_views ops) v) ≡ Some lane)
    (elem : (cell_of new).elem ≡ (cell_of lane).elem) (long : length (cell_of new).numbers ≡ length (cell_of lane).numbers) where
  there : number_in (register_views ops) v < length lanes
  there = inside lanes (number_in (register_views ops) v) is
    where
      inside : (ls : List Buffer) (r : ℕ) → slice_get ls r ≡ Some lane → r < length ls
      inside [] r e = absurd (cc)
      inside (l ∷ ls) zero e = omega arith
      inside (l ∷ ls) (suc r) e = let k : r < length ls = inside ls r e in omega arith

  pub put_steady : Steady ops room lanes (slice_set lanes (number_in (register_views ops) v) new)
  put_steady =
      record {
        long = length-set lanes (number_in (register_views ops) v) new;
        types = λ t r h. elim (number_in (register_views ops) v == r) as (λ z. (number_in (register_views ops) v == r) ≡ z → IsLane t room (slice_get (slice_set lanes (number_in (register_views ops) v) new) r)) [
          | true ↦ λ e.
              let same : number_in (register_views ops) v ≡ r = eqb-true (number_in (register_views ops) v) r e in
              let was : IsLane t room (Some lane) = subst (IsLane t room) is (subst (λ q. IsLane t room (slice_get lanes q)) (sym same) h) in
              subst (λ q. IsLane t room (slice_get (slice_set lanes (number_in (register_views ops) v) new) q)) same
              (subst (IsLane t room) (sym (set_here lanes (number_in (register_views ops) v) new there)) (elem ∙ was.0, subst (λ n. room ≤ n) (sym long) was.1))
          | false ↦ λ e. subst (IsLane t room) (sym (set_elsewhere lanes (number_in (register_views ops) v) new r (eqb-false (number_in (register_views ops) v) r e))) h
        ] refl;
        constants = λ r l. set_elsewhere lanes (number_in (register_views ops) v) new r (λ e. let b : number_in (register_views ops) v < length (register_views ops) = register_below ops v on in absurd (omega arith));
      }

-- one view more
pub loaded_more : (ops : List Op) (v : Strided) → loaded (register_views ops) v ≡ true → (k : ℕ) (s : Strip) (f : ℕ → Option Cell) (before after : ℕ → ℕ → ℤ) → v ≡ get_or (reads ops) k v → k < length (reads ops)
    → Brings ops s v f before after → LoadedTo ops k s f before → LoadedTo ops (k + 1) s f after
loaded_more ops v on k s f before after at below b h j w l e i u =
    elim (number_in (register_views ops) v == number_in (register_views ops) w) as (λ z. (number_in (register_views ops) v == number_in (register_views ops) w) ≡ z
    → after (number_in (register_views ops) w) i ≡ number_at (f w.base) (place_at w (s.position + i))) [
      | true ↦ λ d.
          ap (λ q. after q i) (sym (eqb-true (number_in (register_views ops) v) (number_in (register_views ops) w) d)) ∙ b.here i u
          ∙ same_look f v w (s.position + i) (sym (one_number (register_views ops) v w on) ∙ d)
      | false ↦ λ d.
          let ne : number_in (register_views ops) v ≡ number_in (register_views ops) w → ⊥ = eqb-false (number_in (register_views ops) v) (number_in (register_views ops) w) d in
          b.others (number_in (register_views ops) w) i ne ∙ h j w (lower ne) e i u
    ] refl
  where
    lower : (number_in (register_views ops) v ≡ number_in (register_views ops) w → ⊥) → j < k
    lower ne =
        elim (j == k) as (λ z. (j == k) ≡ z → j < k) [
          | true ↦ λ d.
              let same : j ≡ k = eqb-true j k d in
              absurd (ne (ap (number_in (register_views ops)) (at ∙ get_or_default (reads ops) k v w below ∙ sym (subst (λ q. w ≡ get_or (reads ops) q w) same e))))
          | false ↦ λ d. let apart : j ≡ k → ⊥ = eqb-false j k d in omega arith
        ] refl

-- what was loaded of a view, it was loaded of those that are identical to it
pub loaded_all : (ops : List Op) (s : Strip) (f : ℕ → Option Cell) (see : ℕ → ℕ → ℤ) → AllByRecursion (λ v. loaded (register_views ops) v ≡ true) (reads ops) → LoadedTo ops (length (reads ops)) s f see → AreLoaded ops s f see
loaded_all ops s f see on h v t i u = from (reads ops) on (λ j w l e. h j w l e i u) t
  where
    from : (ws : List Strided) → AllByRecursion (λ v. loaded (register_views ops) v ≡ true) ws → ((j : ℕ) (w : Strided) → j < length ws → w ≡ get_or ws j w → see (number_in (register_views ops) w) i ≡ number_at (f w.base) (place_at w (s.position + i)))
        → loaded ws v ≡ true → see (number_in (register_views ops) v) i ≡ number_at (f v.base) (place_at v (s.position + i))
    from [] on g some = absurd (false≢true some)
    from (w ∷ ws) on g some =
        elim (identical w v) as (λ z. identical w v ≡ z → (z || loaded ws v) ≡ true → see (number_in (register_views ops) v) i ≡ number_at (f v.base) (place_at v (s.position + i))) [
          | true ↦ λ same k.
              ap (λ q. see q i) (sym (eqb-true (number_in (register_views ops) w) (number_in (register_views ops) v) (one_number (register_views ops) w v on.0 ∙ same)))
              ∙ g 0 w (omega arith) refl ∙ same_look f w v (s.position + i) same
          | false ↦ λ other k. from ws on.1 (λ j x l e. g (suc j) x (omega arith) e) k
        ] refl some

-- bytes, view by view
pub widths_more : (w : Strided → ℕ) (vs : List Strided) (k c : ℕ) (v : Strided) → k < length vs → v ≡ get_or vs k v → c * total w (take (k + 1) vs) ≡ c * total w (take k vs) + c * w v
widths_more w vs k c v l e =
    let t : total w (take (k + 1) vs) ≡ total w (take k vs) + w v = ap (total w) (take_more vs k v l ∙ ap (λ y. take k vs ++ y ∷ []) (sym e)) ∙ total_end w (take k vs) v in
    ap (λ n. c * n) t ∙ (let d : c * (total w (take k vs) + w v) ≡ c * total w (take k vs) + c * w v = omega arith in d)

narrow : (t : Elem) → width t ≤ 8
narrow Rattle.arr_num.specs.declared.elem.Elem.TheVariants.U8 = omega arith
narrow Rattle.arr_num.specs.declared.elem.Elem.TheVariants.I32 = omega arith
narrow Rattle.arr_num.specs.declared.elem.Elem.TheVariants.I64 = omega arith
narrow Rattle.arr_num.specs.declared.elem.Elem.TheVariants.U64 = omega arith

narrow_at : (c : Option Cell) → width_at c ≤ 8
narrow_at None = omega arith
narrow_at (Some c) = narrow c.elem

narrow_all : (f : ℕ → Option Cell) (vs : List Strided) → total (λ (v : Strided). width_at (f v.base)) vs ≤ 8 * length vs
narrow_all f [] = omega arith
narrow_all f (v ∷ vs) =
    let a : width_at (f v.base) ≤ 8 = narrow_at (f v.base) in
    let b : total (λ (v : Strided). width_at (f v.base)) vs ≤ 8 * length vs = narrow_all f vs in
    omega arith

few_taken : (k : ℕ) (vs : List Strided) → length (take k vs) ≤ length vs
few_taken zero vs = omega arith
few_taken (suc k) [] = omega arith
few_taken (suc k) (v ∷ vs) = let a : length (take k vs) ≤ length vs = few_taken k vs in omega arith

-- a strip moves few bytes
pub few_bytes : (f : ℕ → Option Cell) (vs : List Strided) (k c : ℕ) → length vs ≤ 768 → c ≤ 1048576 → c * total (λ (v : Strided). width_at (f v.base)) (take k vs) ≤ 6442450944
few_bytes f vs k c few small =
    let a : total (λ (v : Strided). width_at (f v.base)) (take k vs) ≤ 8 * length (take k vs) = narrow_all f (take k vs) in
    let b : length (take k vs) ≤ length vs = few_taken k vs in
    let d : c * total (λ (v : Strided). width_at (f v.base)) (take k vs) ≤ c * 6144 = mul-le-mul_left c (omega arith) in
    omega arith

pub all_bytes : (f : ℕ → Option Cell) (vs : List Strided) (c : ℕ) → length vs ≤ 768 → c ≤ 1048576 → c * total (λ (v : Strided). width_at (f v.base)) vs ≤ 6442450944
all_bytes f vs c few small = subst (λ ws. c * total (λ (v : Strided). width_at (f v.base)) ws ≤ 6442450944) (take_all (length vs) vs (omega arith)) (few_bytes f vs (length vs) c few small)
