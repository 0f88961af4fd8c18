-- The trees of a script's lines, and that its tokens are read as these.
use Rattle.std.proofs.Common.{◌≡◌, ℕ, zero, suc, ◌-◌, ◌*◌, ◌/◌, ◌%◌, ◌≤◌, List, [], ◌∷◌, ◌++◌, refl, sym, ap, false, ◌∙◌, append_assoc, append-nil, Some, None, Ok, codes}
use Rattle.std.specs.List.{flat_map}
use Rattle.arr_tree.specs.declared.refusal.Place.{Place}
use Rattle.arr_tokens.specs.declared.token.Token.{Token}
use Rattle.arr_tokens.specs.declared.token.Token.TheVariants as token
use Rattle.arr_syntax.specs.declared.state.State.TheVariants as state
use Rattle.arr_tree.specs.declared.tree.Expr.{Expr}
use Rattle.arr_tree.specs.declared.tree.Statement.{Statement}
use Rattle.arr_tree.specs.declared.tree.Code16.TheVariants as code
use Rattle.arr_tree.specs.declared.tree.Type4.TheVariants.{I64}
use Rattle.arr_tree.specs.Trees.{literal_at, word_at, name_of, binary_at, fold_at, range_at, lengths_at, index_at, reshape_at, print_of, bind_of, assign_of, cut}
use Rattle.arr_syntax.specs.Run.{run, Reading}
use Rattle.arr_syntax.specs.Refused.{IsScript}
use Rattle.arr_tokens.specs.Tokens.{tokens}
use Rattle.arr_syntax.proofs.Reading.{run_script}
use Rattle.arr_demo.specs.Script.{script_by}
use Rattle.arr_demo.proofs.Pieces.{Piece, meant, joined, meanings, placed, cut_pieces}
use Rattle.arr_demo.proofs.Lines.{opening_pieces, sums_pieces, inside_pieces, slide_pieces, settle_pieces, running_pieces, closing_pieces, turn_pieces, turn_of, script_pieces, script_is, pieces_stand}

-- ---- trees, with the places of their tokens

-- the places behind so many tokens
abbrev pub later : ℕ → (ℕ → Place) → ℕ → Place
later zero at = at
later (suc k) at = later k (λ n. at (suc n))

abbrev pub named : Place → List ℕ → Expr
named at name = name_of (word_at at name)

abbrev pub part_tree : ℕ → ℕ → ℕ → ℕ → (ℕ → Place) → Expr
part_tree a b d e at = index_at (at 1) (named (at 0) (codes "g")) (cut (Some a) (Some b) None ∷ cut (Some d) (Some e) None ∷ [])

abbrev pub whole_tree : (ℕ → Place) → Expr
whole_tree at = index_at (at 1) (named (at 0) (codes "g")) (cut None None None ∷ [])

abbrev pub columns_tree : ℕ → ℕ → (ℕ → Place) → Expr
columns_tree d e at = index_at (at 1) (named (at 0) (codes "g")) (cut None None None ∷ cut (Some d) (Some e) None ∷ [])

abbrev pub opening_tree : ℕ → ℕ → (ℕ → Place) → Statement
opening_tree rows columns at =
    bind_of (word_at (at 0) (codes "g"))
    (binary_at (at 15) code.Mod (reshape_at (at 2) (range_at (at 4) (rows * columns) (at 6) I64) (lengths_at (at 9) (rows ∷ columns ∷ []))) (literal_at (at 16) false 97))

abbrev pub sums_tree : ℕ → ℕ → (ℕ → Place) → Statement
sums_tree rows columns at =
    bind_of (word_at (at 0) (codes "c"))
    (binary_at (at 45) code.Add
    (binary_at (at 34) code.Add
    (binary_at (at 23) code.Add
    (binary_at (at 12) code.Add (part_tree 1 (rows - 1) 1 (columns - 1) (later 2 at)) (part_tree 0 (rows - 2) 1 (columns - 1) (later 13 at)))
    (part_tree 2 rows 1 (columns - 1) (later 24 at)))
    (part_tree 1 (rows - 1) 0 (columns - 2) (later 35 at)))
    (part_tree 1 (rows - 1) 2 columns (later 46 at)))

abbrev pub inside_tree : ℕ → ℕ → (ℕ → Place) → Statement
inside_tree rows columns at =
    assign_of (part_tree 1 (rows - 1) 1 (columns - 1) at) (at 10) (binary_at (at 12) code.Divide (named (at 11) (codes "c")) (literal_at (at 13) false 5))

abbrev pub slide_tree : ℕ → ℕ → (ℕ → Place) → Statement
slide_tree columns added at =
    assign_of (columns_tree 1 columns at) (at 8) (binary_at (at 17) code.Add (columns_tree 0 (columns - 1) (later 9 at)) (literal_at (at 18) false added))

abbrev pub column_sums_tree : (ℕ → Place) → Statement
column_sums_tree at = bind_of (word_at (at 0) (codes "s")) (fold_at (at 2) code.AddReduce (named (at 4) (codes "g")) 0 (at 6))

abbrev pub settle_tree : (ℕ → Place) → Statement
settle_tree at =
    assign_of (whole_tree at) (at 4)
    (binary_at (at 6) code.Subtract (named (at 5) (codes "g")) (binary_at (at 8) code.Mod (named (at 7) (codes "s")) (literal_at (at 9) false 7)))

abbrev pub running_tree : (ℕ → Place) → Statement
running_tree at =
    assign_of (whole_tree at) (at 4)
    (binary_at (at 11) code.BitwiseAnd (fold_at (at 5) code.AddAccumulate (named (at 7) (codes "g")) 1 (at 9)) (literal_at (at 12) false 65535))

abbrev pub print_tree : (ℕ → Place) → Statement
print_tree at = print_of (named (at 1) (codes "g"))

abbrev pub print_sum_tree : (ℕ → Place) → Statement
print_sum_tree at = print_of (fold_at (at 1) code.AddReduce (fold_at (at 3) code.AddReduce (named (at 5) (codes "g")) 0 (at 7)) 0 (at 10))

abbrev pub closing_trees : (ℕ → Place) → List Statement
closing_trees at = print_tree at ∷ print_sum_tree (later 3 at) ∷ []

-- ---- turns

abbrev pub turn_trees : (rows columns form added : ℕ) → (ℕ → Place) → List Statement
turn_trees rows columns zero added at = sums_tree rows columns at ∷ inside_tree rows columns (later 57 at) ∷ []
turn_trees rows columns (suc zero) added at = slide_tree columns added at ∷ []
turn_trees rows columns (suc (suc zero)) added at = column_sums_tree at ∷ settle_tree (later 9 at) ∷ []
turn_trees rows columns (suc (suc (suc zero))) added at = running_tree at ∷ []
turn_trees rows columns _ added at = []

-- how many tokens a turn has
abbrev pub turn_size : ℕ → ℕ
turn_size zero = 72
turn_size (suc zero) = 20
turn_size (suc (suc zero)) = 20
turn_size (suc (suc (suc zero))) = 14
turn_size _ = 0

abbrev pub turns_trees : ℕ → ℕ → List ℕ → (ℕ → Place) → List Statement
turns_trees rows columns [] at = closing_trees at
turns_trees rows columns (w ∷ words) at =
    turn_trees rows columns (w % 4) (w / 65536 % 100) at ++ turns_trees rows columns words (later (turn_size (w % 4)) at)

abbrev pub script_trees : ℕ → ℕ → List ℕ → (ℕ → Place) → List Statement
script_trees rows columns words at = opening_tree rows columns at ∷ turns_trees rows columns words (later 18 at)

-- ---- they are read

module _ (rows columns : ℕ) (r : rows ≤ 64) (c : columns ≤ 64) (done : List Statement) (ts : List Token) (at : ℕ → Place) where
  opening_run : run 0 0 done state.Start (placed (meanings (opening_pieces rows columns r c) ts) at) ≡ run 0 0 (done ++ opening_tree rows columns at ∷ []) state.Start (placed ts (later 18 at))
  unfolding run
  opening_run = refl

  sums_run : run 0 0 done state.Start (placed (meanings (sums_pieces rows columns r c) ts) at) ≡ run 0 0 (done ++ sums_tree rows columns at ∷ []) state.Start (placed ts (later 57 at))
  unfolding run
  sums_run = refl

  inside_run : run 0 0 done state.Start (placed (meanings (inside_pieces rows columns r c) ts) at) ≡ run 0 0 (done ++ inside_tree rows columns at ∷ []) state.Start (placed ts (later 15 at))
  unfolding run
  inside_run = refl

  slide_run : (added : ℕ) (h : added ≤ 65535) →
      run 0 0 done state.Start (placed (meanings (slide_pieces rows columns r c added h) ts) at) ≡ run 0 0 (done ++ slide_tree columns added at ∷ []) state.Start (placed ts (later 20 at))
  unfolding run
  slide_run added h = refl

module _ (done : List Statement) (ts : List Token) (at : ℕ → Place) where
  column_sums_run : run 0 0 done state.Start (placed (meanings settle_pieces ts) at)
      ≡ run 0 0 ((done ++ column_sums_tree at ∷ []) ++ settle_tree (later 9 at) ∷ []) state.Start (placed ts (later 20 at))
  unfolding run
  column_sums_run = refl

  running_run : run 0 0 done state.Start (placed (meanings running_pieces ts) at) ≡ run 0 0 (done ++ running_tree at ∷ []) state.Start (placed ts (later 14 at))
  unfolding run
  running_run = refl

closing_run : (done : List Statement) (at : ℕ → Place) → run 0 0 done state.Start (placed (meanings closing_pieces (token.End ∷ [])) at)
    ≡ Ok (Some ((done ++ print_tree at ∷ []) ++ print_sum_tree (later 3 at) ∷ []))
unfolding run
closing_run done at = refl

two_more : (done : List Statement) (x y : Statement) → (done ++ x ∷ []) ++ y ∷ [] ≡ done ++ x ∷ y ∷ []
two_more done x y = append_assoc done (x ∷ []) (y ∷ [])

module _ (rows columns : ℕ) (r : rows ≤ 64) (c : columns ≤ 64) where
  abbrev here : List Statement → List Token → (ℕ → Place) → Reading
  here done ts at = run 0 0 done state.Start (placed ts at)

  turn_run : (form added : ℕ) (h : added ≤ 65535) (done : List Statement) (ts : List Token) (at : ℕ → Place) →
      here done (meanings (turn_pieces rows columns r c form added h) ts) at ≡ here (done ++ turn_trees rows columns form added at) ts (later (turn_size form) at)
  turn_run zero added h done ts at =
      sums_run rows columns r c done (meanings (inside_pieces rows columns r c) ts) at
      ∙ inside_run rows columns r c (done ++ sums_tree rows columns at ∷ []) ts (later 57 at)
      ∙ ap (λ (d : List Statement). here d ts (later 72 at)) (two_more done (sums_tree rows columns at) (inside_tree rows columns (later 57 at)))
  turn_run (suc zero) added h done ts at = slide_run rows columns r c done ts at added h
  turn_run (suc (suc zero)) added h done ts at =
      column_sums_run done ts at ∙ ap (λ (d : List Statement). here d ts (later 20 at)) (two_more done (column_sums_tree at) (settle_tree (later 9 at)))
  turn_run (suc (suc (suc zero))) added h done ts at = running_run done ts at
  turn_run (suc (suc (suc (suc n)))) added h done ts at = ap (λ (d : List Statement). here d ts at) (sym (append-nil done))

  meanings_join : (ps qs : List Piece) (ts : List Token) → meanings (ps ++ qs) ts ≡ meanings ps (meanings qs ts)
  meanings_join [] qs ts = refl
  meanings_join (p ∷ ps) qs ts = ap (joined (meant p)) (meanings_join ps qs ts)

  turns_run : (words : List ℕ) (done : List Statement) (at : ℕ → Place) →
      here done (meanings (flat_map (turn_of rows columns r c) words ++ closing_pieces) (token.End ∷ [])) at ≡ Ok (Some (done ++ turns_trees rows columns words at))
  turns_run [] done at = closing_run done at ∙ ap (λ (d : List Statement). (let r : Reading = Ok (Some d) in r)) (two_more done (print_tree at) (print_sum_tree (later 3 at)))
  turns_run (w ∷ words) done at =
      let one = turn_of rows columns r c w in
      let others = flat_map (turn_of rows columns r c) words ++ closing_pieces in
      let trees = turn_trees rows columns (w % 4) (w / 65536 % 100) at in
      let behind = later (turn_size (w % 4)) at in
      ap (λ (ps : List Piece). here done (meanings ps (token.End ∷ [])) at) (append_assoc one (flat_map (turn_of rows columns r c) words) closing_pieces)
      ∙ ap (λ (ts : List Token). here done ts at) (meanings_join one others (token.End ∷ []))
      ∙ turn_run (w % 4) (w / 65536 % 100) _ done (meanings others (token.End ∷ [])) at
      ∙ turns_run words (done ++ trees) behind
      ∙ ap (λ (d : List Statement). (let r : Reading = Ok (Some d) in r)) (append_assoc done trees (turns_trees rows columns words behind))

  -- the tokens of a script are read as its trees
  pub script_run : (words : List ℕ) (at : ℕ → Place) →
      run 0 0 [] state.Start (placed (meanings (script_pieces rows columns r c words) (token.End ∷ [])) at) ≡ Ok (Some (script_trees rows columns words at))
  script_run words at =
      opening_run rows columns r c [] (meanings (flat_map (turn_of rows columns r c) words ++ closing_pieces) (token.End ∷ [])) at
      ∙ turns_run words (opening_tree rows columns at ∷ []) (later 18 at)

  -- a script is read
  pub script_read : (words : List ℕ) → (at : ℕ → Place) × IsScript (tokens (script_by rows columns words)) (script_trees rows columns words at)
  script_read words =
      let cut = cut_pieces (script_pieces rows columns r c words) (record { line = 1; column = 1 }) (pieces_stand rows columns r c words) in (
        cut.0,
        run_script (tokens (script_by rows columns words)) (script_trees rows columns words cut.0)
            (ap (λ (text : List ℕ). run 0 0 [] state.Start (tokens text)) (script_is rows columns r c words) ∙ ap (run 0 0 [] state.Start) cut.1 ∙ script_run words cut.0),
      )
