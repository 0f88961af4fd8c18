-- Every script is accepted.
use Rattle.std.proofs.Common.{◌≡◌, ℕ, ◌*◌, ◌≤◌, List, [], ◌∷◌, length, refl, sym, ap, subst, arith, true, false, ◌==◌, nat_lt, nat_le, ◌∙◌, Some, None}
use Rattle.std.specs.Prelude.{Ok}
use Rattle.std.proofs.lemmas.Bool.{and_from, le-ltb, le-leb, ne_eqb}
use Rattle.std.proofs.lemmas.Nat.{mul-le}
use Rattle.rand_core.specs.Pcg32Seed.{pcg32_seed}
use Rattle.rand_pcg.specs.Pcg.{pcg32_of_seed}
use Rattle.arr_num.specs.declared.code.Code.TheVariants as num
use Rattle.arr_num.specs.declared.elem.Elem.TheVariants.{I64}
use Rattle.arr_view.specs.Strided.{Strided}
use Rattle.arr_view.specs.Views.{positions, whole_view, whole_strides, most_elements, is_consecutive, elements}
use Rattle.arr_view.proofs.Strides.{whole_elements}
use Rattle.arr_shape.specs.Shapes.{checked_shape}
use Rattle.arr_shape.specs.Views.{reshape}
use Rattle.arr_shape.proofs.Shapes.{made}
use Rattle.arr_shape.proofs.Consecutive.{reshape_by}
use Rattle.arr_tree.specs.declared.refusal.Place.{Place}
use Rattle.arr_tree.specs.declared.tree.Code16.TheVariants as code
use Rattle.arr_tree.specs.declared.tree.Type4.TheVariants as type
use Rattle.arr_tree.specs.declared.tree.Expr.{Expr}
use Rattle.arr_tree.specs.Trees.{word_at, range_at, reshape_at, lengths_at}
use Rattle.arr_elab.specs.State.{State, Names, stands_for, nothing_yet, and_then}
use Rattle.arr_elab.specs.Expressions.{operation}
use Rattle.arr_elab.specs.Outcome.{statement, statements, outcome}
use Rattle.arr_elab.proofs.KindsKept.{lists_test}
use Rattle.arr_demo.specs.Laws.{IsAccepted, ScriptsAreAccepted}
use Rattle.arr_demo.proofs.Layers.{prepared_range, prepared_reshape}
use Rattle.arr_demo.proofs.Known.{Small, one_name, with_same}
use Rattle.arr_demo.proofs.Values.{Pends, Shows, writes, with_number}
use Rattle.arr_demo.proofs.Statements.{begun, binds}
use Rattle.arr_demo.proofs.Trees.{later, opening_tree, turns_trees, script_trees, script_read}
use Rattle.arr_demo.proofs.Evaluated.{Ready, grown, grid_name, turns_lead}
use Rattle.arr_demo.proofs.Read.{of_drawn, script_short}

in_row : (base : ℕ) (shape : List ℕ) → is_consecutive (whole_view base shape) ≡ true
in_row base shape = lists_test (elements (whole_view base shape)) _ (whole_elements base shape)

module _ (rows columns : ℕ) (tall : 8 ≤ rows) (r : rows ≤ 64) (wide : 8 ≤ columns) (c : columns ≤ 64) (at : ℕ → Place) where
  abbrev shape : List ℕ
  shape = rows ∷ columns ∷ []

  abbrev count : ℕ
  count = rows * columns

  most : count ≤ 4096
  most = mul-le rows columns 64 64 r c

  some : 64 ≤ count
  some = mul-le 8 8 rows columns tall wide

  abbrev numbers : Expr
  numbers = range_at (at 4) count (at 6) type.I64

  abbrev first : State
  first = begun nothing_yet

  nothing_small : Small 0 first.names first.bases
  nothing_small = record { few = omega arith; named = omega arith; each = refl }

  range_pends : Pends numbers first first (count ∷ [])
  range_pends =
      let t1 : (count == 0) ≡ false = ne_eqb count 0 (λ e. omega (arith, some)) in
      let t2 : nat_lt most_elements count ≡ false = le-ltb most_elements count (omega (arith, most)) in
      record { at = at 4; op = operation num.Range I64 I64 None None None; is = rw (prepared_range (at 4) count (at 6) type.I64, t1, t2) refl; type = refl }

  abbrev Opens : State → Type 0
  Opens t = (base : ℕ) × (statement (opening_tree rows columns at) nothing_yet ≡ Ok (tt, t)) × Ready base rows columns tall r wide c 3 t

  opens : (t : State) × Opens t
  opens =
      let w = writes numbers first first (count ∷ []) 0 range_pends nothing_small (omega arith) (omega (arith, most)) in
      let small_w = grown numbers first first w.0 (count ∷ []) 0 w.1 nothing_small (omega (arith, most)) in
      let v : Strided = w.1.shows.view in
      let shown : Strided = record { base = v.base; start = v.start; lengths = shape; strides = whole_strides shape } in
      let as_many : positions v.lengths ≡ positions shape = ap positions w.1.shows.lengths ∙ omega arith in
      let reshaped : reshape v shape ≡ Ok shown = reshape_by v shape true as_many (ap is_consecutive w.1.whole ∙ in_row _ (count ∷ [])) in
      let checked : checked_shape shape ≡ Ok shape =
      made shape refl (and_from (nat_le 1 rows) _ (le-leb 1 rows (omega arith)) (and_from (nat_le 1 columns) true (le-leb 1 columns (omega arith)) refl)) (omega (arith, most)) in
      let tiled = reshape_at (at 2) numbers (lengths_at (at 9) shape) in
      let a : Shows tiled first w.0 shape =
      record { view = shown; is = rw (prepared_reshape (at 2) numbers (lengths_at (at 9) shape), w.1.shows.is, checked, reshaped) refl; lengths = refl } in
      let p = with_number (at 15) code.Mod tiled first w.0 refl (at 16) 97 shape a refl in
      let u = writes _ first w.0 shape 1 p small_w (omega arith) (omega (arith, most)) in
      let small_u = grown _ first w.0 u.0 shape 1 u.1 small_w (omega (arith, most)) in
      let g = binds nothing_yet u.0 (word_at (at 0) grid_name) _ shape 2 u.1.shows small_u (omega arith) in (
        g.after,
        (
          length w.0.bases,
          g.is,
          (
            ap (λ (names : Names). stands_for names grid_name) g.names_are ∙ with_same u.0.names grid_name _
                ∙ ap (λ (z : Strided). Some (record { view = z; elem = I64 })) u.1.whole,
            subst (λ (names : Names). Small 3 names g.after.bases) (sym g.names_are)
                (subst (Small 3 _) (sym g.bases_are) (one_name 2 u.0.names u.0.bases grid_name _ small_u)),
          ),
        ),
      )

  -- a script comes to steps
  pub evaluated : (words : List ℕ) → length words ≤ 16 → (s : State) × (outcome (script_trees rows columns words at) ≡ Ok s.steps)
  evaluated words few =
      let first_line = opens in
      let others = turns_lead first_line.1.0 rows columns tall r wide c words (later 18 at) first_line.0 3 (omega arith) first_line.1.2 in (
        others.0,
        ap (λ got. and_then got (λ done. Ok done.1.steps))
            (ap (λ got. and_then got (λ done. statements (turns_trees rows columns words (later 18 at)) done.1)) first_line.1.1 ∙ others.1),
      )

pub scripts_are_accepted : ScriptsAreAccepted
scripts_are_accepted number =
    of_drawn IsAccepted
    (λ rows columns words tall r wide c few.
    let read = script_read rows columns r c words in
    let done = evaluated rows columns tall r wide c read.0 words few in
    record {
      short = script_short rows columns r c words few;
      statements = script_trees rows columns words read.0;
      reads = read.1;
      steps = done.0.steps;
      accepts = done.1;
    })
    (pcg32_of_seed (pcg32_seed 16 number))
