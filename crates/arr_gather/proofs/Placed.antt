-- From a store that fits a scatter to the store that it leaves.
use Rattle.std.proofs.Common.{◌≡◌, ℕ, ◌<◌, ℤ, pos, negsuc, List, [], ◌∷◌, length, map, get_or, Bool, true, false, not, cond, ◌&&◌, refl, ap, ap₂, sym, subst, ◌∙◌, arith, Option, Some, None}
use Rattle.std.proofs.lemmas.Bool.{eqb-true, false≢true}
use Rattle.std.specs.FinMap as finite
use Rattle.std.specs.List.{list_all}
use Rattle.std.specs.Prelude.{◌==◌}
use Rattle.arr_num.specs.Numbers.{in_type}
use Rattle.arr_num.specs.declared.elem.Elem.{Elem}
use Rattle.arr_view.specs.Strided.{Strided}
use Rattle.arr_view.specs.Views.{elements, is_view, positions, repeated, repeats, same_lists}
use Rattle.arr_view.proofs.Checks.{lawful}
use Rattle.arr_view.proofs.Counting.{some_position}
use Rattle.arr_ops.specs.declared.gather.Scatter.{Scatter}
use Rattle.arr_ops.specs.Fits.{meets_need}
use Rattle.arr_num.specs.Types.{same_elem, same_elem_is}
use Rattle.arr_ops.specs.Gathers.{is_scatter, need, placed, position_named, scatter_fits, scattered}
use Rattle.arr_ops.specs.Memory.{Cell, Change, Keeps, Writes, changed, read}
use Rattle.arr_ops.proofs.Parts.{length-elements}
use Rattle.arr_ops.proofs.Tests.{all_of, both_left, both_right, same_from_test}
use Rattle.arr_ops.proofs.Typed.{get_in}
use Rattle.arr_store.specs.Cells.{assigned, size_at}
use Rattle.arr_store.specs.Stored.{Stored, cells, memory_of}
use Rattle.arr_gather.specs.declared.feed.Feed.{Feed}
use Rattle.arr_gather.specs.Feeds.{Feeds, to_come, with_placed}
use Rattle.arr_gather.specs.Steps.{Holds, numbers_at}
use Rattle.arr_gather.proofs.Numbers.{Target, element_inside, target_of}
use Rattle.arr_gather.proofs.Placing.{writes_last}

-- what a fitting store holds
pub record Held (op : Scatter) (s : Stored) : Type 0 where
  pub target : Holds (cells s) op.to op.target
  pub index : Holds (cells s) op.of op.index
  pub values : Holds (cells s) op.to op.values

pub held : (op : Scatter) (s : Stored) → scatter_fits (memory_of s) op ≡ true → Held op s
held op s h =
    let rest = both_right (meets_need (cells s op.target.base) (need op.to op.target)) _ h in
    record {
      target = both_left _ _ h;
      index = both_left _ _ rest;
      values = both_left _ _ (both_right (meets_need (cells s op.index.base) (need op.of op.index)) _ rest);
    }

-- ---- the numbers of a view are of its type

typed_at : (t : Elem) (ns : List ℤ) (ps : List ℕ) → list_all (in_type t) ns ≡ true → list_all (in_type t) (map (λ p. get_or ns p (pos 0)) ps) ≡ true
typed_at t ns [] h = refl
typed_at t ns (p ∷ ps) h = ap₂ (λ a b. a && b) (get_in t ns p (all_of (in_type t) ns h)) (typed_at t ns ps h)

pub numbers_typed : (f : ℕ → Option Cell) (t : Elem) (v : Strided) → Holds f t v → list_all (in_type t) (numbers_at f v) ≡ true
numbers_typed f t v h = one (f v.base) h
  where
    one : (c : Option Cell) → meets_need c (need t v) ≡ true → list_all (in_type t) (read c (elements v)) ≡ true
    one None e = absurd (false≢true e)
    one (Some c) e =
        let same : c.elem ≡ t = same_elem_is c.elem t (both_left (same_elem c.elem t) _ e) in
        typed_at t c.numbers (elements v) (subst (λ u. list_all (in_type u) c.numbers ≡ true) same (both_left _ _ (both_right (same_elem c.elem t) _ e)))

-- ---- what is_scatter says

pub same_count : (op : Scatter) → is_scatter op ≡ true → positions op.values.lengths ≡ positions op.index.lengths
same_count op h =
    let shape = both_left _ _ (both_right (list_all is_view (op.target ∷ op.index ∷ op.values ∷ [])) _ h) in
    ap positions (sym (same_from_test op.index.lengths op.values.lengths shape))

not_true : (b : Bool) → not b ≡ true → b ≡ false
not_true true h = absurd (false≢true h)
not_true false h = refl

apart_places : (op : Scatter) → is_scatter op ≡ true → repeated (elements op.target) ≡ false
apart_places op h =
    not_true (repeats op.target) (both_right (same_lists op.index.lengths op.values.lengths) _ (both_right (list_all is_view (op.target ∷ op.index ∷ op.values ∷ [])) _ h))

target_view : (op : Scatter) → is_scatter op ≡ true → is_view op.target ≡ true
target_view op h = both_left _ _ (both_left _ _ h)

position_below : (n : ℕ) (i : ℤ) → 0 < n → position_named n i < n
position_below n (pos a) some = omega arith
position_below n (negsuc a) some = omega arith

-- ---- the store that is left

written_last : (op : Scatter) (s : Stored) → is_scatter op ≡ true → Holds (cells s) op.to op.target → (is xs : List ℤ)
    → with_placed op is xs (cells s op.target.base) ≡ changed (Writes (elements op.target) (placed (numbers_at (cells s) op.target) is xs)) (cells s op.target.base)
written_last op s h there is xs =
    let t : Target (cells s op.target.base) op.to = target_of (cells s) op.to op.target there in
    let ns : List ℤ = t.numbers in
    let long : length (elements op.target) ≡ positions op.target.lengths = length-elements op.target (target_view op h) in
    let some = some_position op.target.lengths (lawful op.target (target_view op h)).lengths in
    let size : size_at (cells s op.target.base) ≡ length ns = ap size_at t.is in
    ap (with_placed op is xs) t.is
    ∙ ap (λ ys. let c : Option Cell = Some (record { elem = op.to; numbers = ys }) in c)
    (writes_last (elements op.target) is xs ns (apart_places op h) (λ i. position_below (length (elements op.target)) i (omega arith)) (λ k l. omega (arith, element_inside (cells s) op.to op.target k there l)))
    ∙ ap (λ c. changed (Writes (elements op.target) (placed (read c (elements op.target)) is xs)) c) (sym t.is)

pub leaves_scattered : (op : Scatter) (s far new : Stored) (index values : Feed) → is_scatter op ≡ true → Holds (cells s) op.to op.target → far.bases ≡ s.bases
    → to_come (cells s) 0 index ≡ numbers_at (cells s) op.index → to_come (cells s) 0 values ≡ numbers_at (cells s) op.values
    → cells new ≡ assigned (cells far) op.target.base (with_placed op (to_come (cells far) 0 index) (to_come (cells far) 0 values) (cells far op.target.base))
    → cells new ≡ (scattered (memory_of s) op).bases
leaves_scattered op s far new index values h there same is xs left =
    let f : ℕ → Option Cell = cells s in
    left
    ∙ ap (λ m. let g : ℕ → Option Cell = finite.get m in assigned g op.target.base (with_placed op (to_come g 0 index) (to_come g 0 values) (g op.target.base))) same
    ∙ ap (λ zs. assigned f op.target.base (with_placed op zs (to_come f 0 values) (f op.target.base))) is
    ∙ ap (λ zs. assigned f op.target.base (with_placed op (numbers_at f op.index) zs (f op.target.base))) xs
    ∙ ap (assigned f op.target.base) (written_last op s h there (numbers_at f op.index) (numbers_at f op.values))
    ∙ (λ i b. at b i)
  where
    last : Change
    last = Writes (elements op.target) (placed (numbers_at (cells s) op.target) (numbers_at (cells s) op.index) (numbers_at (cells s) op.values))

    at : (b : ℕ) → assigned (cells s) op.target.base (changed last (cells s op.target.base)) b ≡ (scattered (memory_of s) op).bases b
    at b =
        elim (op.target.base == b) as (λ t. (op.target.base == b) ≡ t → cond t (changed last (cells s op.target.base)) (cells s b) ≡ changed (cond t last Keeps) (cells s b)) [
          | true ↦ λ e. ap (λ a. changed last (cells s a)) (eqb-true op.target.base b e)
          | false ↦ λ e. refl
        ] refl

-- a feed over the same bases
pub same_feeds : (s far : Stored) (written b count n : ℕ) (feed : Feed) → far.bases ≡ s.bases → written ≡ b → count ≡ n → Feeds (cells s) written count 0 feed → Feeds (cells far) b n 0 feed
same_feeds s far written b count n feed same base number h =
    subst (λ m. Feeds (finite.get m) b n 0 feed) (sym same) (subst (λ w. Feeds (cells s) w n 0 feed) base (subst (λ k. Feeds (cells s) written k 0 feed) number h))
