-- Numbers are copied one after another.
use Rattle.std.proofs.Common.{◌≡◌, ℕ, ◌+◌, ◌*◌, ◌^◌, ◌<◌, ◌≤◌, ℤ, List, [], ◌∷◌, ◌++◌, length, true, refl, ap, sym, subst, ◌∙◌, arith, append_assoc, append-nil, Option}
use Rattle.std.proofs.lemmas.Bool.{ltb-true}
use Rattle.std.specs.FinMap as finite
use Rattle.std.specs.List.{list_all}
use Rattle.std.specs.Prelude.{nat_lt}
use Rattle.arr_view.specs.Strided.{Strided}
use Rattle.arr_view.specs.Views.{elements}
use Rattle.arr_ops.specs.Memory.{Cell, read}
use Rattle.arr_ops.proofs.Tests.{both_left, both_right}
use Rattle.arr_store.specs.Cells.{number_at, size_at, width_at}
use Rattle.arr_store.specs.Stored.{Stored, cells}
use Rattle.arr_gather.proofs.Numbers.{counted, read_first, read_none}

-- what was copied so far, with what is still to come, are the view's numbers
pub record Copying (start now : Stored) (v : Strided) (got : List ℤ) (left : List ℕ) : Type 0 where
  pub whole : got ++ read (cells start v.base) left ≡ read (cells start v.base) (elements v)
  pub inside : list_all (λ e. nat_lt e (size_at (cells start v.base))) left ≡ true
  pub bases : now.bases ≡ start.bases
  pub stores : now.stores ≡ start.stores
  pub made : now.made ≡ start.made
  pub loads : now.loads + length left * width_at (cells start v.base) ≡ start.loads + length (elements v) * width_at (cells start v.base)

pub copying_starts : (s : Stored) (v : Strided) (left : List ℕ) → left ≡ elements v → list_all (λ e. nat_lt e (size_at (cells s v.base))) (elements v) ≡ true → Copying s s v [] left
copying_starts s v left e h = subst (Copying s s v []) (sym e) (record { whole = refl; inside = h; bases = refl; stores = refl; made = refl; loads = refl })

pub copies_there : (start now : Stored) (v : Strided) (got : List ℤ) (p : ℕ) (left : List ℕ) → Copying start now v got (p ∷ left)
    → start.loads + length (elements v) * width_at (cells start v.base) ≤ 2 ^ 62 → (p < size_at (cells now v.base)) × (now.loads < 2 ^ 62)
copies_there start now v got p left k room =
    let here : p < size_at (cells start v.base) = ltb-true p _ (both_left (nat_lt p (size_at (cells start v.base))) _ k.inside) in
    let some = counted (cells start v.base) p here in
    let loads = k.loads in
    (subst (λ m. p < size_at (finite.get m v.base)) (sym k.bases) here, omega arith)

pub copying_more : (start now next : Stored) (v : Strided) (got : List ℤ) (p : ℕ) (left : List ℕ) (z : ℤ) (b : ℕ) → b ≡ v.base → Copying start now v got (p ∷ left)
    → z ≡ number_at (cells now b) p → next.bases ≡ now.bases → next.loads ≡ now.loads + width_at (cells now b) → next.stores ≡ now.stores → next.made ≡ now.made
    → Copying start next v (got ++ z ∷ []) left
copying_more start now next v got p left z b e k is bases rises stores made =
    let c : Option Cell = cells start v.base in
    let number : z ≡ number_at c p = is ∙ ap (λ k. number_at (cells now k) p) e ∙ ap (λ m. number_at (finite.get m v.base) p) k.bases in
    let rise : next.loads ≡ now.loads + width_at c = rises ∙ ap (λ k. now.loads + width_at (cells now k)) e ∙ ap (λ m. now.loads + width_at (finite.get m v.base)) k.bases in
    let loads = k.loads in
    record {
      whole = append_assoc got (z ∷ []) (read c left) ∙ ap (λ y. got ++ (y ∷ read c left)) number ∙ ap (λ l. got ++ l) (sym (read_first c p left)) ∙ k.whole;
      inside = both_right (nat_lt p (size_at c)) _ k.inside;
      bases = bases ∙ k.bases;
      stores = stores ∙ k.stores;
      made = made ∙ k.made;
      loads = omega arith;
    }

pub all_copied : (start now : Stored) (v : Strided) (got : List ℤ) (left : List ℕ) → Copying start now v got left → left ≡ []
    → (got ≡ read (cells start v.base) (elements v)) × (now.loads ≡ start.loads + length (elements v) * width_at (cells start v.base))
all_copied start now v got left k e =
    let none : length left * width_at (cells start v.base) ≡ 0 = ap (λ (l : List ℕ). length l * width_at (cells start v.base)) e ∙ omega arith in
    let loads = k.loads in
    (sym (append-nil got) ∙ ap (λ l. got ++ l) (sym (ap (read (cells start v.base)) e ∙ read_none (cells start v.base))) ∙ k.whole, omega arith)
