-- Reads of a memory after writes.
use Rattle.std.proofs.Common.{◌≡◌, ◌≢◌, ℕ, ◌<◌, suc, zero, ℤ, pos, List, [], ◌∷◌, true, false, cond, refl, ap, sym, ◌∙◌, arith, length, get_or, set, Option, Some, None, get_or-set_other, get_or-set_same}
use Rattle.std.proofs.Math.ListN.{length-set}
use Rattle.std.proofs.lemmas.List.{ext_get_or}
use Rattle.std.proofs.lemmas.Bool.{eqb-true, eq-eqb}
use Rattle.std.specs.Prelude.{◌==◌}
use Rattle.arr_ops.specs.Memory.{Memory, Cell, Writes, changed, write}
use Rattle.arr_store.specs.Cells.{number_at}
use Rattle.arr_strips.specs.Strips.{outline, size, put_at}
use Rattle.arr_num.specs.declared.elem.Elem.{Elem}

abbrev pub room : Memory → ℕ → ℕ
room m b = size (outline (m.bases b))

pub write-miss : (es : List ℕ) (xs ns : List ℤ) (e : ℕ) → ((q : ℕ) → q < length es → get_or es q 0 ≢ e) → get_or (write es xs ns) e (pos 0) ≡ get_or ns e (pos 0)
write-miss [] xs ns e h = refl
write-miss (d ∷ es) [] ns e h = refl
write-miss (d ∷ es) (x ∷ xs) ns e h =
    write-miss es xs (set ns d x) e (λ q l. h (suc q) (omega arith)) ∙ get_or-set_other ns d e x (pos 0) (λ s. h 0 (omega arith) (sym s))

pub length-write : (es : List ℕ) (xs ns : List ℤ) → length (write es xs ns) ≡ length ns
length-write [] xs ns = refl
length-write (e ∷ es) [] ns = refl
length-write (e ∷ es) (x ∷ xs) ns = length-write es xs (set ns e x) ∙ length-set ns e x

pub write-hit : (es : List ℕ) (xs ns : List ℤ) (p : ℕ) → p < length es → p < length xs → get_or es p 0 < length ns
    → ((q r : ℕ) → q < length es → r < length es → get_or es q 0 ≡ get_or es r 0 → q ≡ r)
    → get_or (write es xs ns) (get_or es p 0) (pos 0) ≡ get_or xs p (pos 0)
write-hit [] xs ns p l k u once = absurd (omega arith)
write-hit (e ∷ es) [] ns p l k u once = absurd (omega arith)
write-hit (e ∷ es) (x ∷ xs) ns zero l k u once =
    write-miss es xs (set ns e x) e (λ q d s. let z : suc q ≡ 0 = once (suc q) 0 (omega arith) (omega arith) s in absurd (omega arith))
    ∙ get_or-set_same ns e x (pos 0) u
write-hit (e ∷ es) (x ∷ xs) ns (suc p) l k u once =
    write-hit es xs (set ns e x) p (omega arith) (omega arith) (let d : length (set ns e x) ≡ length ns = length-set ns e x in omega arith)
    (λ q r a b s. let z : suc q ≡ suc r = once (suc q) (suc r) (omega arith) (omega arith) s in omega arith)

-- ---- numbers written at places of one base

outline-write : (es : List ℕ) (xs : List ℤ) (d : Option Cell) → outline (changed (Writes es xs) d) ≡ outline d
outline-write es xs None = refl
outline-write es xs (Some d) = ap (λ n. Some (d.elem, n)) (length-write es xs d.numbers)

pub outline-put : (b : ℕ) (es : List ℕ) (xs : List ℤ) (f : ℕ → Option Cell) (a : ℕ) → outline (put_at b es xs f a) ≡ outline (f a)
outline-put b es xs f a =
    elim (b == a) as (λ t. (b == a) ≡ t → outline (cond t (changed (Writes es xs) (f b)) (f a)) ≡ outline (f a)) [
      | true ↦ λ e. outline-write es xs (f b) ∙ ap (λ k. outline (f k)) (eqb-true b a e)
      | false ↦ λ e. refl
    ] refl

pub put-miss : (b : ℕ) (es : List ℕ) (xs : List ℤ) (f : ℕ → Option Cell) (a e : ℕ) → (b ≡ a → (q : ℕ) → q < length es → get_or es q 0 ≢ e) → number_at (put_at b es xs f a) e ≡ number_at (f a) e
put-miss b es xs f a e miss =
    elim (b == a) as (λ t. (b == a) ≡ t → number_at (cond t (changed (Writes es xs) (f b)) (f a)) e ≡ number_at (f a) e) [
      | true ↦ λ s. let same : b ≡ a = eqb-true b a s in at_cell (f b) (miss same) ∙ ap (λ k. number_at (f k) e) same
      | false ↦ λ s. refl
    ] refl
  where
    at_cell : (d : Option Cell) → ((q : ℕ) → q < length es → get_or es q 0 ≢ e) → number_at (changed (Writes es xs) d) e ≡ number_at d e
    at_cell None m = refl
    at_cell (Some d) m = write-miss es xs d.numbers e m

pub put-hit : (b : ℕ) (es : List ℕ) (xs : List ℤ) (f : ℕ → Option Cell) (p : ℕ) → p < length es → p < length xs → get_or es p 0 < size (outline (f b))
    → ((q r : ℕ) → q < length es → r < length es → get_or es q 0 ≡ get_or es r 0 → q ≡ r)
    → number_at (put_at b es xs f b) (get_or es p 0) ≡ get_or xs p (pos 0)
put-hit b es xs f p l k u once =
    ap (λ t. number_at (cond t (changed (Writes es xs) (f b)) (f b)) (get_or es p 0)) (eq-eqb b b refl) ∙ at_cell (f b) u
  where
    at_cell : (d : Option Cell) → get_or es p 0 < size (outline d) → number_at (changed (Writes es xs) d) (get_or es p 0) ≡ get_or xs p (pos 0)
    at_cell None v = absurd (omega arith)
    at_cell (Some d) v = write-hit es xs d.numbers p l k v once

-- two cells that show the same are the same
pub same_cells : (c d : Option Cell) → outline c ≡ outline d → ((e : ℕ) → number_at c e ≡ number_at d e) → c ≡ d
same_cells None None o h = refl
same_cells None (Some d) o h = absurd (cc)
same_cells (Some c) None o h = absurd (cc)
same_cells (Some c) (Some d) o h =
    let shape : (c.elem, length c.numbers) ≡ (d.elem, length d.numbers) = some_same (c.elem, length c.numbers) (d.elem, length d.numbers) o in
    let t : c.elem ≡ d.elem = ap (λ (x : Elem × ℕ). x.0) shape in
    let ns : c.numbers ≡ d.numbers = ext_get_or (pos 0) c.numbers d.numbers (ap (λ (x : Elem × ℕ). x.1) shape) (λ i l. h i) in
    λ i. Some (record { elem = t i; numbers = ns i })
  where
    some_same : (a b : Elem × ℕ) → Some a ≡ Some b → a ≡ b
    some_same a b e = cc
