-- No turn of a script is refused, and each leaves the grid bound.
use Rattle.std.proofs.Common.{◌≡◌, ℕ, zero, suc, ◌+◌, ◌-◌, ◌*◌, ◌/◌, ◌%◌, ◌<◌, ◌≤◌, pos, List, [], ◌∷◌, ◌++◌, length, map, refl, sym, ap, subst, arith, true, ◌∙◌, Some, None, codes}
use Rattle.std.specs.Prelude.{Ok}
use Rattle.std.proofs.lemmas.Bool.{lt-ltb}
use Rattle.std.proofs.lemmas.Nat.{mul-le}
use Rattle.arr_num.specs.declared.elem.Elem.TheVariants.{I64}
use Rattle.arr_num.specs.Numbers.{in_type, upper}
use Rattle.arr_view.specs.Strided.{Strided}
use Rattle.arr_view.specs.Views.{positions, whole_view}
use Rattle.arr_tree.specs.declared.refusal.Place.{Place}
use Rattle.arr_tree.specs.declared.tree.Code16.TheVariants as code
use Rattle.arr_tree.specs.declared.tree.Cut.{Cut}
use Rattle.arr_tree.specs.declared.tree.Expr.{Expr}
use Rattle.arr_tree.specs.declared.tree.Statement.{Statement}
use Rattle.arr_tree.specs.Trees.{word_at, cut, binary_at, fold_at}
use Rattle.arr_elab.specs.State.{State, Names, stands_for, with_name, and_then}
use Rattle.arr_elab.specs.Expressions.{bounds}
use Rattle.arr_elab.specs.Outcome.{statement, statements}
use Rattle.arr_demo.proofs.Known.{Small, smaller, one_base, one_name, with_same, with_other}
use Rattle.arr_demo.proofs.Parts.{Sees, sees_part, sees_whole, few_positions}
use Rattle.arr_demo.proofs.Values.{Pends, Shows, Wrote, writes, shows_name, shows_part, pairs, with_number, folds, same_fits, row_fits, same_broadcast, row_broadcast}
use Rattle.arr_demo.proofs.Statements.{Goes, begun, binds, assigns, prints}
use Rattle.arr_demo.proofs.Trees.{later, named, columns_tree, part_tree, sums_tree, inside_tree, slide_tree, column_sums_tree, settle_tree, running_tree, print_tree, print_sum_tree, closing_trees, turn_trees, turn_size, turns_trees}

-- what one more base leaves
module _ (e : Expr) (s t u : State) (shape : List ℕ) (k : ℕ) where
  pub grown : Wrote e s t shape u → Small k t.names t.bases → positions shape ≤ 4096 → Small (suc k) u.names u.bases
  grown w small few =
      subst (λ (names : Names). Small (suc k) names u.bases) (sym w.names)
      (subst (Small (suc k) t.names) (sym w.bases) (one_base k (positions shape) t.names t.bases few small))

-- ---- statements one after another

-- they lead from one state to another, whatever follows them
abbrev Leads : List Statement → State → State → Type 0
Leads ss s t = (rest : List Statement) → statements (ss ++ rest) s ≡ statements rest t

one_leads : (x : Statement) (s t : State) → statement x s ≡ Ok (tt, t) → Leads (x ∷ []) s t
one_leads x s t e rest = ap (λ r. and_then r (λ q. statements rest q.1)) e

two_lead : (x y : Statement) (s t u : State) → statement x s ≡ Ok (tt, t) → statement y t ≡ Ok (tt, u) → Leads (x ∷ y ∷ []) s u
two_lead x y s t u e f rest = ap (λ r. and_then r (λ q. statements (y ∷ rest) q.1)) e ∙ one_leads y t u f rest

abbrev pub grid_name : List ℕ
grid_name = codes "g"

module _ (base rows columns : ℕ) (tall : 8 ≤ rows) (r : rows ≤ 64) (wide : 8 ≤ columns) (c : columns ≤ 64) where
  abbrev pub shape : List ℕ
  shape = rows ∷ columns ∷ []

  abbrev pub grid_view : Strided
  grid_view = whole_view base shape

  -- the grid is bound, and little else
  abbrev pub Ready : ℕ → State → Type 0
  Ready k s = (stands_for s.names grid_name ≡ Some (record { view = grid_view; elem = I64 })) × Small k s.names s.bases

  -- statements lead on to where it is again
  abbrev Turns : List Statement → State → ℕ → Type 0
  Turns ss s k = (t : State) × Leads ss s t × Ready k t

  size : positions shape ≤ 4096
  size = few_positions base rows columns tall r wide c

  line_size : positions (columns ∷ []) ≤ 4096
  line_size = omega arith

  -- a statement that binds nothing
  kept : (x : Statement) (s u : State) (k : ℕ) → Small k u.names u.bases → stands_for u.names grid_name ≡ Some (record { view = grid_view; elem = I64 }) → (g : Goes x s u.names u.bases)
      → Ready k g.after
  kept x s u k small grid g = (
    ap (λ (names : Names). stands_for names grid_name) g.names_are ∙ grid,
    subst (λ (names : Names). Small k names g.after.bases) (sym g.names_are) (subst (Small k u.names) (sym g.bases_are) small),
  )

  -- ---- a slide

  slides : (added : ℕ) (at : ℕ → Place) (s : State) (k : ℕ) → added ≤ 100 → Ready k s → Turns (slide_tree columns added at ∷ []) s k
  slides added at s k low ready =
      let target = sees_part base rows columns tall r wide c None None (Some 1) (Some columns) (omega arith) (omega arith) (omega arith) (omega arith) in
      let source = sees_part base rows columns tall r wide c None None (Some 0) (Some (columns - 1)) (omega arith) (omega arith) (omega arith) (omega arith) in
      let same : columns - 1 - 0 ≡ columns - 1 = omega arith in
      let a = subst (λ (n : ℕ). Shows (columns_tree 0 (columns - 1) (later 9 at)) (begun s) (begun s) ((rows - 0) ∷ n ∷ [])) same (shows_part (begun s) (at 10) (at 9) grid_name grid_view (cut None None None ∷ cut (Some 0) (Some (columns - 1)) None ∷ []) _ _ ready.0 source) in
      let fits_type : in_type I64 (pos added) ≡ true = lt-ltb added (upper I64) (omega arith) in
      let p = with_number (at 17) code.Add _ (begun s) (begun s) refl (at 18) added _ a fits_type in
      let g = assigns s (begun s) (at 1) (at 0) (at 8) grid_name grid_view (cut None None None ∷ cut (Some 1) (Some columns) None ∷ []) _ _ _ ready.0 target p in
      (g.after, one_leads (slide_tree columns added at) s g.after g.is, kept (slide_tree columns added at) s (begun s) k ready.1 ready.0 g)

  -- ---- running sums

  running : (at : ℕ → Place) (s : State) (k : ℕ) → k ≤ 1000 → Ready k s → Turns (running_tree at ∷ []) s (suc k)
  running at s k few ready =
      let g = shows_name (begun s) (at 7) grid_name grid_view shape ready.0 refl in
      let p = folds (at 5) code.AddAccumulate _ 1 (at 9) (begun s) (begun s) shape g refl in
      let w = writes _ (begun s) (begun s) shape k p ready.1 few size in
      let small = grown _ (begun s) (begun s) w.0 shape k w.1 ready.1 size in
      let q = with_number (at 11) code.BitwiseAnd _ (begun s) w.0 refl (at 12) 65535 shape w.1.shows refl in
      let target = sees_whole base rows columns tall r wide c in
      let g = assigns s w.0 (at 1) (at 0) (at 4) grid_name grid_view (cut None None None ∷ []) _ rows columns ready.0 target q in
      (g.after, one_leads (running_tree at) s g.after g.is, kept (running_tree at) s w.0 (suc k) small (ap (λ (names : Names). stands_for names grid_name) w.1.names ∙ ready.0) g)

  -- ---- sums of columns

  settles : (at : ℕ → Place) (s : State) (k : ℕ) → k + 2 ≤ 1000 → Ready k s → Turns (column_sums_tree at ∷ settle_tree (later 9 at) ∷ []) s (k + 3)
  settles at s k few ready =
      let g = shows_name (begun s) (at 4) grid_name grid_view shape ready.0 refl in
      let p = folds (at 2) code.AddReduce _ 0 (at 6) (begun s) (begun s) shape g refl in
      let w = writes _ (begun s) (begun s) (columns ∷ []) k p ready.1 (omega arith) line_size in
      let small : Small (suc k) w.0.names w.0.bases = grown _ (begun s) (begun s) w.0 (columns ∷ []) k w.1 ready.1 line_size in
      let one = binds s w.0 (word_at (at 0) (codes "s")) _ (columns ∷ []) (suc k) w.1.shows small (omega arith) in
      let t = one.after in
      let named_s = with_name w.0.names (codes "s") (Some (record { view = w.1.shows.view; elem = I64 })) in
      let grid_t : stands_for t.names grid_name ≡ Some (record { view = grid_view; elem = I64 }) =
      ap (λ (names : Names). stands_for names grid_name) one.names_are ∙ with_other w.0.names (codes "s") grid_name _ refl
      ∙ ap (λ (names : Names). stands_for names grid_name) w.1.names ∙ ready.0 in
      let sums_t : stands_for t.names (codes "s") ≡ Some (record { view = w.1.shows.view; elem = I64 }) =
      ap (λ (names : Names). stands_for names (codes "s")) one.names_are ∙ with_same w.0.names (codes "s") _ in
      let small_t : Small (suc (suc k)) t.names t.bases =
      subst (λ (names : Names). Small (suc (suc k)) names t.bases) (sym one.names_are)
      (subst (Small (suc (suc k)) named_s) (sym one.bases_are) (one_name (suc k) w.0.names w.0.bases (codes "s") _ small)) in
      let left = shows_name (begun t) (at 14) grid_name grid_view shape grid_t refl in
      let line = shows_name (begun t) (at 16) (codes "s") w.1.shows.view (columns ∷ []) sums_t w.1.shows.lengths in
      let q = with_number (at 17) code.Mod _ (begun t) (begun t) refl (at 18) 7 (columns ∷ []) line refl in
      let v = writes _ (begun t) (begun t) (columns ∷ []) (suc (suc k)) q small_t (omega arith) line_size in
      let small_v : Small (suc (suc (suc k))) v.0.names v.0.bases = grown _ (begun t) (begun t) v.0 (columns ∷ []) (suc (suc k)) v.1 small_t line_size in
      let d = pairs (at 15) code.Subtract _ (begun t) (begun t) refl _ v.0 shape (columns ∷ []) shape left v.1.shows
      (row_broadcast rows columns (omega arith) size) (same_fits rows columns (omega arith) size) (row_fits rows columns (omega arith) size) in
      let two = assigns t v.0 (at 10) (at 9) (at 13) grid_name grid_view (cut None None None ∷ []) _ rows columns grid_t (sees_whole base rows columns tall r wide c) d in (
        two.after,
        two_lead (column_sums_tree at) (settle_tree (later 9 at)) s t two.after one.is two.is,
        kept (settle_tree (later 9 at)) t v.0 (k + 3) (smaller (suc (suc (suc k))) (k + 3) v.0.names v.0.bases (omega arith) small_v)
            (ap (λ (names : Names). stands_for names grid_name) v.1.names ∙ grid_t) two,
      )

  -- ---- the inside and its neighbours

  abbrev inner : List ℕ
  inner = (rows - 2) ∷ (columns - 2) ∷ []

  inner_size : positions inner ≤ 4096
  inner_size = omega (arith, mul-le (rows - 2) ((columns - 2) * 1) 64 64 (omega arith) (omega arith))

  abbrev part_cuts : ℕ → ℕ → ℕ → ℕ → List Cut
  part_cuts a b d e = cut (Some a) (Some b) None ∷ cut (Some d) (Some e) None ∷ []

  sees_inner : (a b d e : ℕ) → b ≤ rows → a + 1 < b → e ≤ columns → d + 1 < e → b - a ≡ rows - 2 → e - d ≡ columns - 2 → Sees grid_view (map bounds (part_cuts a b d e)) (rows - 2) (columns - 2)
  sees_inner a b d e high two wide_end far m n =
      subst (λ (i : ℕ). Sees grid_view (map bounds (part_cuts a b d e)) i (columns - 2)) m
      (subst (λ (j : ℕ). Sees grid_view (map bounds (part_cuts a b d e)) (b - a) j) n (sees_part base rows columns tall r wide c (Some a) (Some b) (Some d) (Some e) high two wide_end far))

  module _ (s : State) (k : ℕ) where
    -- one part more, and the sum so far in a base of its own
    added_part : (e : Expr) (t : State) (at : Place) (spots : ℕ → Place) (a b d f : ℕ) → Pends e s t inner → Small k t.names t.bases → k ≤ 1000
        → stands_for t.names grid_name ≡ Some (record { view = grid_view; elem = I64 })
        → Sees grid_view (map bounds (part_cuts a b d f)) (rows - 2) (columns - 2)
        → (u : State) × Pends (binary_at at code.Add e (part_tree a b d f spots)) s u inner × Small (suc k) u.names u.bases × (stands_for u.names grid_name ≡ Some (record { view = grid_view; elem = I64 }))
    added_part e t at spots a b d f p small few grid sees =
        let w = writes e s t inner k p small few inner_size in
        let grid_u = ap (λ (names : Names). stands_for names grid_name) w.1.names ∙ grid in
        let part = shows_part w.0 (spots 1) (spots 0) grid_name grid_view (part_cuts a b d f) (rows - 2) (columns - 2) grid_u sees in (
          w.0,
          pairs at code.Add e s w.0 refl _ w.0 inner inner inner w.1.shows part
              (same_broadcast (rows - 2) (columns - 2) (omega arith) inner_size) (same_fits (rows - 2) (columns - 2) (omega arith) inner_size) (same_fits (rows - 2) (columns - 2) (omega arith) inner_size),
          grown e s t w.0 inner k w.1 small inner_size,
          grid_u,
        )

  -- what the sum's name stands for
  abbrev Averages : State → State → Type 0
  Averages s t = (view : Strided) × (stands_for t.names (codes "c") ≡ Some (record { view = view; elem = I64 })) × (view.lengths ≡ inner)

  sums : (at : ℕ → Place) (s : State) (k : ℕ) → k + 5 ≤ 1000 → Ready k s → (t : State) × (statement (sums_tree rows columns at) s ≡ Ok (tt, t)) × Ready (k + 5) t × Averages s t
  sums at s k few ready =
      let one = shows_part (begun s) (at 3) (at 2) grid_name grid_view (part_cuts 1 (rows - 1) 1 (columns - 1)) (rows - 2) (columns - 2) ready.0
      (sees_inner 1 (rows - 1) 1 (columns - 1) (omega arith) (omega arith) (omega arith) (omega arith) (omega arith) (omega arith)) in
      let two = shows_part (begun s) (at 14) (at 13) grid_name grid_view (part_cuts 0 (rows - 2) 1 (columns - 1)) (rows - 2) (columns - 2) ready.0
      (sees_inner 0 (rows - 2) 1 (columns - 1) (omega arith) (omega arith) (omega arith) (omega arith) (omega arith) (omega arith)) in
      let p = pairs (at 12) code.Add _ (begun s) (begun s) refl _ (begun s) inner inner inner one two
      (same_broadcast (rows - 2) (columns - 2) (omega arith) inner_size) (same_fits (rows - 2) (columns - 2) (omega arith) inner_size) (same_fits (rows - 2) (columns - 2) (omega arith) inner_size) in
      let three = added_part (begun s) k _ (begun s) (at 23) (later 24 at) 2 rows 1 (columns - 1) p ready.1 (omega arith) ready.0
      (sees_inner 2 rows 1 (columns - 1) (omega arith) (omega arith) (omega arith) (omega arith) (omega arith) (omega arith)) in
      let four = added_part (begun s) (suc k) _ three.0 (at 34) (later 35 at) 1 (rows - 1) 0 (columns - 2) three.1 three.2 (omega arith) three.3
      (sees_inner 1 (rows - 1) 0 (columns - 2) (omega arith) (omega arith) (omega arith) (omega arith) (omega arith) (omega arith)) in
      let five = added_part (begun s) (suc (suc k)) _ four.0 (at 45) (later 46 at) 1 (rows - 1) 2 columns four.1 four.2 (omega arith) four.3
      (sees_inner 1 (rows - 1) 2 columns (omega arith) (omega arith) (omega arith) (omega arith) (omega arith) (omega arith)) in
      let w = writes _ (begun s) five.0 inner (suc (suc (suc k))) five.1 five.2 (omega arith) inner_size in
      let small : Small (suc (suc (suc (suc k)))) w.0.names w.0.bases = grown _ (begun s) five.0 w.0 inner (suc (suc (suc k))) w.1 five.2 inner_size in
      let g = binds s w.0 (word_at (at 0) (codes "c")) _ inner (suc (suc (suc (suc k)))) w.1.shows small (omega arith) in
      let t = g.after in
      let named_c = with_name w.0.names (codes "c") (Some (record { view = w.1.shows.view; elem = I64 })) in (
        t,
        g.is,
        (
          ap (λ (names : Names). stands_for names grid_name) g.names_are ∙ with_other w.0.names (codes "c") grid_name _ refl
              ∙ ap (λ (names : Names). stands_for names grid_name) w.1.names ∙ five.3,
          subst (λ (names : Names). Small (k + 5) names t.bases) (sym g.names_are)
              (subst (Small (k + 5) named_c) (sym g.bases_are)
              (smaller (suc (suc (suc (suc (suc k))))) (k + 5) named_c w.0.bases (omega arith) (one_name (suc (suc (suc (suc k)))) w.0.names w.0.bases (codes "c") _ small))),
        ),
        (w.1.shows.view, ap (λ (names : Names). stands_for names (codes "c")) g.names_are ∙ with_same w.0.names (codes "c") _, w.1.shows.lengths),
      )

  inside : (at : ℕ → Place) (s t : State) (k : ℕ) → Ready k t → Averages s t → Goes (inside_tree rows columns at) t t.names t.bases
  inside at s t k ready a =
      let line = shows_name (begun t) (at 11) (codes "c") a.0 inner a.1 a.2 in
      let p = with_number (at 12) code.Divide _ (begun t) (begun t) refl (at 13) 5 inner line refl in
      assigns t (begun t) (at 1) (at 0) (at 10) grid_name grid_view (part_cuts 1 (rows - 1) 1 (columns - 1)) _ (rows - 2) (columns - 2) ready.0
      (sees_inner 1 (rows - 1) 1 (columns - 1) (omega arith) (omega arith) (omega arith) (omega arith) (omega arith) (omega arith)) p

  averages : (at : ℕ → Place) (s : State) (k : ℕ) → k + 5 ≤ 1000 → Ready k s → Turns (sums_tree rows columns at ∷ inside_tree rows columns (later 57 at) ∷ []) s (k + 5)
  averages at s k few ready =
      let one = sums at s k few ready in
      let two = inside (later 57 at) s one.0 (k + 5) one.2 one.3 in
      (two.after, two_lead (sums_tree rows columns at) (inside_tree rows columns (later 57 at)) s one.0 two.after one.1 two.is, kept (inside_tree rows columns (later 57 at)) one.0 one.0 (k + 5) one.2.1 one.2.0 two)

  -- ---- all turns

  longer : (ss : List Statement) (s : State) (k n : ℕ) → k ≤ n → Turns ss s k → Turns ss s n
  longer ss s k n h turns = (turns.0, turns.1, (turns.2.0, smaller k n turns.0.names turns.0.bases h turns.2.1))

  turn_leads : (form added : ℕ) (at : ℕ → Place) (s : State) (k : ℕ) → added ≤ 100 → k + 5 ≤ 1000 → Ready k s → Turns (turn_trees rows columns form added at) s (k + 5)
  turn_leads zero added at s k low few ready = averages at s k few ready
  turn_leads (suc zero) added at s k low few ready = longer (slide_tree columns added at ∷ []) s k (k + 5) (omega arith) (slides added at s k low ready)
  turn_leads (suc (suc zero)) added at s k low few ready =
      longer (column_sums_tree at ∷ settle_tree (later 9 at) ∷ []) s (k + 3) (k + 5) (omega arith) (settles at s k (omega arith) ready)
  turn_leads (suc (suc (suc zero))) added at s k low few ready = longer (running_tree at ∷ []) s (suc k) (k + 5) (omega arith) (running at s k (omega arith) ready)
  turn_leads (suc (suc (suc (suc n)))) added at s k low few ready = longer [] s k (k + 5) (omega arith) (s, (λ rest. refl), ready)

  -- the grid, and the sum of its numbers
  closes : (at : ℕ → Place) (s : State) (k : ℕ) → k + 5 ≤ 1000 → Ready k s → (t : State) × (statements (closing_trees at) s ≡ Ok (tt, t))
  closes at s k few ready =
      let one = prints s (begun s) (named (at 1) grid_name) shape (shows_name (begun s) (at 1) grid_name grid_view shape ready.0 refl) in
      let t = one.after in
      let next : Ready k t = kept (print_tree at) s (begun s) k ready.1 ready.0 one in
      let g = shows_name (begun t) (at 8) grid_name grid_view shape next.0 refl in
      let p = folds (at 6) code.AddReduce (named (at 8) grid_name) 0 (at 10) (begun t) (begun t) shape g refl in
      let w = writes _ (begun t) (begun t) (columns ∷ []) k p next.1 (omega arith) line_size in
      let small : Small (suc k) w.0.names w.0.bases = grown _ (begun t) (begun t) w.0 (columns ∷ []) k w.1 next.1 line_size in
      let q = folds (at 4) code.AddReduce (fold_at (at 6) code.AddReduce (named (at 8) grid_name) 0 (at 10)) 0 (at 13) (begun t) w.0 (columns ∷ []) w.1.shows refl in
      let v = writes _ (begun t) w.0 (1 ∷ []) (suc k) q small (omega arith) (omega arith) in
      let two = prints t v.0 (fold_at (at 4) code.AddReduce (fold_at (at 6) code.AddReduce (named (at 8) grid_name) 0 (at 10)) 0 (at 13)) (1 ∷ []) v.1.shows in
      (two.after, two_lead (print_tree at) (print_sum_tree (later 3 at)) s t two.after one.is two.is [])

  pub turns_lead : (words : List ℕ) (at : ℕ → Place) (s : State) (k : ℕ) → k + 5 * length words + 5 ≤ 1000 → Ready k s → (t : State) × (statements (turns_trees rows columns words at) s ≡ Ok (tt, t))
  turns_lead [] at s k few ready = closes at s k (omega arith) ready
  turns_lead (w ∷ words) at s k few ready =
      let one = turn_leads (w % 4) (w / 65536 % 100) at s k (omega arith) (omega arith) ready in
      let others = turns_lead words (later (turn_size (w % 4)) at) one.0 (k + 5) (omega arith) one.2 in
      (others.0, one.1 (turns_trees rows columns words (later (turn_size (w % 4)) at)) ∙ others.1)
