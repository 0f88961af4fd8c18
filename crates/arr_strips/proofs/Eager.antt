-- Eager execution of a block's operations leaves, at each place of a live view, its column.
use Rattle.std.proofs.Common.{◌≡◌, ◌≢◌, ℕ, ◌+◌, ◌≤◌, ◌<◌, ℤ, pos, List, [], ◌∷◌, Bool, true, false, cond, not, ◌||◌, ◌&&◌, refl, ap, ap₂, sym, ◌∙◌, subst, arith, length, get_or, replicate, Option, Some, None}
use Rattle.std.proofs.lemmas.List.{length-replicate, get_or_past}
use Rattle.std.proofs.lemmas.List.FromFn.{get_or-range_with_len}
use Rattle.std.proofs.lemmas.Bool.{false≢true, eqb-true, eq-eqb, ltb-true, ltb-false}
use Rattle.std.specs.Prelude.{nat_lt, ◌==◌}
use Rattle.std.specs.List.{AllByRecursion, range_with_len, list_any}
use Rattle.std.specs.Option.{option_to_list}
use Rattle.arr_view.specs.Strided.{Strided}
use Rattle.arr_view.specs.Views.{elements, has, identical}
use Rattle.arr_num.specs.Kinds.{is_reduction}
use Rattle.arr_num.specs.declared.elem.Elem.{Elem}
use Rattle.arr_ops.specs.declared.op.Op.{Op}
use Rattle.arr_ops.specs.Ops.{outputs, inputs, freed, freed_by}
use Rattle.arr_ops.specs.Memory.{Memory, Cell, Becomes, Writes, Keeps, Drops, changed, output_change, computed, step, eager}
use Rattle.arr_ops.proofs.Tests.{both_left, both_right}
use Rattle.arr_ops.proofs.Pairs.{All_weaker}
use Rattle.arr_ops.proofs.Spots.{all_two}
use Rattle.arr_ops.proofs.Writes.{or_left, or_right}
use Rattle.arr_store.specs.Cells.{number_at}
use Rattle.arr_strips.specs.Columns.{peek, place_at, look, Columns, column, assigned, next, ends, Live, live_after, live_end, filled, fold_outs, count, opened_by, opening}
use Rattle.arr_strips.proofs.Cells.{write-miss, write-hit, length-write}
use Rattle.arr_strips.specs.Strips.{outline, size}
use Rattle.arr_strips.proofs.Sames.{untrue, same_base, same_elements}
use Rattle.arr_strips.proofs.Values.{Held, HeldAll, Columnar, Folding}

-- what a step does to the bases
abbrev pub after : Option ℕ → Option Strided → Bool → Elem → List ℤ → (ℕ → Option Cell) → ℕ → Option Cell
after frees out makes t xs f b = changed (cond (has (option_to_list frees) b) Drops (output_change out makes t xs b)) (f b)

module _ (n : ℕ) where
  abbrev pub Misses : Strided → ℕ → Type 0
  Misses o e = (q : ℕ) → q < n → place_at o q ≢ e

  -- they meet only where they are one, at one position
  abbrev pub Meets : Strided → Strided → Type 0
  Meets v w = (i j : ℕ) → i < n → j < n → v.base ≡ w.base → place_at v i ≡ place_at w j → (i ≡ j) × (identical v w ≡ true)

  -- ---- one output

  -- an output beside the memory before it
  pub record Placed (f : ℕ → Option Cell) (makes : Bool) (o : Strided) : Type 0 where
    pub long : length (elements o) ≡ n
    pub once : (i j : ℕ) → i < n → j < n → place_at o i ≡ place_at o j → i ≡ j
    pub inside : makes ≡ false → (p : ℕ) → p < n → place_at o p < size (outline (f o.base))
    pub fresh : makes ≡ true → (f o.base ≡ None) × (elements o ≡ range_with_len 0 n)

  output_hit : (o : Strided) (makes : Bool) (t : Elem) (xs : List ℤ) (f : ℕ → Option Cell) (p : ℕ) → Placed f makes o → length xs ≡ n → p < n
      → number_at (changed (cond makes (Becomes (record { elem = t; numbers = xs })) (Writes (elements o) xs)) (f o.base)) (place_at o p) ≡ get_or xs p (pos 0)
  output_hit o true t xs f p d k l =
      ap (λ e. get_or xs e (pos 0)) (ap (λ es. get_or es p 0) (d.fresh refl).1 ∙ get_or-range_with_len 0 n p 0 l ∙ (let z : 0 + p ≡ p = omega arith in z))
  output_hit o false t xs f p d k l = at_cell (f o.base) (d.inside refl p l)
    where
      long : length (elements o) ≡ n
      long = d.long

      at_cell : (c : Option Cell) → place_at o p < size (outline c) → number_at (changed (Writes (elements o) xs) c) (place_at o p) ≡ get_or xs p (pos 0)
      at_cell None u = absurd (omega arith)
      at_cell (Some c) u = write-hit (elements o) xs c.numbers p (omega arith) (omega arith) u (λ q r a b e. d.once q r (omega arith) (omega arith) e)

  output_miss : (o : Strided) (makes : Bool) (t : Elem) (xs : List ℤ) (f : ℕ → Option Cell) (e : ℕ) → Placed f makes o → length xs ≡ n → Misses o e
      → number_at (changed (cond makes (Becomes (record { elem = t; numbers = xs })) (Writes (elements o) xs)) (f o.base)) e ≡ number_at (f o.base) e
  output_miss o true t xs f e d k miss =
      elim (nat_lt e n) as (λ b. nat_lt e n ≡ b → get_or xs e (pos 0) ≡ number_at (f o.base) e) [
        | true ↦ λ u.
            let l : e < n = ltb-true e n u in
            absurd (miss e l (ap (λ es. get_or es e 0) (d.fresh refl).1 ∙ get_or-range_with_len 0 n e 0 l ∙ (let z : 0 + e ≡ e = omega arith in z)))
        | false ↦ λ u. let l : n ≤ e = ltb-false e n u in get_or_past xs e (pos 0) (omega arith) ∙ ap (λ c. number_at c e) (sym (d.fresh refl).0)
      ] refl
  output_miss o false t xs f e d k miss = at_cell (f o.base)
    where
      long : length (elements o) ≡ n
      long = d.long

      at_cell : (c : Option Cell) → number_at (changed (Writes (elements o) xs) c) e ≡ number_at c e
      at_cell None = refl
      at_cell (Some c) = write-miss (elements o) xs c.numbers e (λ q l. miss q (omega arith))

  module _ (frees : Option ℕ) (makes : Bool) (t : Elem) (xs : List ℤ) (f : ℕ → Option Cell) where
    pub off : (out : Option Strided) → AllByRecursion (Placed f makes) (option_to_list out) → AllByRecursion (λ (o : Strided). length xs ≡ n) (option_to_list out)
        → (b e : ℕ) → has (option_to_list frees) b ≡ false → AllByRecursion (λ (o : Strided). o.base ≡ b → Misses o e) (option_to_list out)
        → number_at (after frees out makes t xs f b) e ≡ number_at (f b) e
    off None d k b e kept miss = ap (λ z. number_at (changed (cond z Drops Keeps) (f b)) e) kept
    off (Some o) d k b e kept miss =
        ap (λ z. number_at (changed (cond z Drops (cond (o.base == b) (cond makes (Becomes (record { elem = t; numbers = xs })) (Writes (elements o) xs)) Keeps)) (f b)) e) kept
        ∙ elim (o.base == b) as (λ z. (o.base == b) ≡ z → number_at (changed (cond z (cond makes (Becomes (record { elem = t; numbers = xs })) (Writes (elements o) xs)) Keeps) (f b)) e ≡ number_at (f b) e) [
          | true ↦ λ same.
              let eq : o.base ≡ b = eqb-true o.base b same in
              ap (λ c. number_at (changed (cond makes (Becomes (record { elem = t; numbers = xs })) (Writes (elements o) xs)) (f c)) e) (sym eq)
              ∙ output_miss o makes t xs f e d.0 k.0 (miss.0 eq) ∙ ap (λ c. number_at (f c) e) eq
          | false ↦ λ same. refl
        ] refl

    pub hit : (o : Strided) → Placed f makes o → length xs ≡ n → (p : ℕ) → p < n → has (option_to_list frees) o.base ≡ false
        → number_at (after frees (Some o) makes t xs f o.base) (place_at o p) ≡ get_or xs p (pos 0)
    hit o d k p l kept =
        ap (λ z. number_at (changed (cond z Drops (cond (o.base == o.base) (cond makes (Becomes (record { elem = t; numbers = xs })) (Writes (elements o) xs)) Keeps)) (f o.base)) (place_at o p)) kept
        ∙ ap (λ z. number_at (changed (cond z (cond makes (Becomes (record { elem = t; numbers = xs })) (Writes (elements o) xs)) Keeps) (f o.base)) (place_at o p)) (eq-eqb o.base o.base refl)
        ∙ output_hit o makes t xs f p d k l

    pub shows_out : (out : Option Strided) (h : Columns) (live : Live) (col : ℕ → ℤ) → ((v : Strided) → live v ≡ true → (p : ℕ) → p < n → number_at (f v.base) (place_at v p) ≡ h p v)
        → AllByRecursion (Placed f makes) (option_to_list out) → AllByRecursion (λ (o : Strided). length xs ≡ n) (option_to_list out)
        → AllByRecursion (λ (o : Strided). (p : ℕ) → p < n → get_or xs p (pos 0) ≡ col p) (option_to_list out)
        → AllByRecursion (λ o. (v : Strided) → live v ≡ true → Meets o v) (option_to_list out)
        → (v : Strided) → (not (has (option_to_list frees) v.base) && (list_any (λ o. identical o v) (option_to_list out) || live v)) ≡ true → (p : ℕ) → p < n
        → number_at (after frees out makes t xs f v.base) (place_at v p) ≡ assigned out (col p) (h p) v
    shows_out None h live col s d k c g v on p l =
        let kept : has (option_to_list frees) v.base ≡ false = untrue _ (both_left _ _ on) in
        off None tt tt v.base (place_at v p) kept tt ∙ s v (both_right (not (has (option_to_list frees) v.base)) (live v) on) p l
    shows_out (Some o) h live col s d k c g v on p l =
        let kept : has (option_to_list frees) v.base ≡ false = untrue _ (both_left _ _ on) in
        let some : ((identical o v || false) || live v) ≡ true = both_right (not (has (option_to_list frees) v.base)) _ on in
        elim (identical o v) as (λ z. identical o v ≡ z → ((z || false) || live v) ≡ true → number_at (after frees (Some o) makes t xs f v.base) (place_at v p) ≡ cond z (col p) (h p v)) [
          | true ↦ λ e w.
              let b : o.base ≡ v.base = same_base o v e in
              ap₂ (λ x y. number_at (after frees (Some o) makes t xs f x) y) (sym b) (ap (λ es. get_or es p 0) (sym (same_elements o v e)))
              ∙ hit o d.0 k.0 p l (ap (has (option_to_list frees)) b ∙ kept) ∙ c.0 p l
          | false ↦ λ e w.
              off (Some o) d k v.base (place_at v p) kept ((λ b q u same. false≢true (sym e ∙ (g.0 v w q p u l b same).1)), tt) ∙ s v w p l
        ] refl some

  -- types and lengths
  pub outline_out : (frees : Option ℕ) (out : Option Strided) (makes : Bool) (t : Elem) (xs : List ℤ) (f : ℕ → Option Cell) (b : ℕ) (c : Option Cell)
      → has (option_to_list frees) b ≡ false → AllByRecursion (λ (o : Strided). length xs ≡ n) (option_to_list out) → outline (f b) ≡ outline c
      → outline (after frees out makes t xs f b) ≡ outline (cond (makes && list_any (λ (o : Strided). o.base == b) (option_to_list out)) (Some (record { elem = t; numbers = replicate n (pos 0) })) c)
  outline_out frees None makes t xs f b c kept k o =
      ap (λ z. outline (changed (cond z Drops Keeps) (f b))) kept ∙ o ∙ ap (λ z. outline (cond z (Some (record { elem = t; numbers = replicate n (pos 0) })) c)) (never makes)
    where
      never : (z : Bool) → false ≡ (z && false)
      never true = refl
      never false = refl
  outline_out frees (Some v) makes t xs f b c kept k o =
      ap (λ z. outline (changed (cond z Drops (cond (v.base == b) (cond makes (Becomes (record { elem = t; numbers = xs })) (Writes (elements v) xs)) Keeps)) (f b))) kept
      ∙ at (v.base == b) makes
    where
      at_cell : (d : Option Cell) → outline (changed (Writes (elements v) xs) d) ≡ outline d
      at_cell None = refl
      at_cell (Some d) = ap (λ i. Some (d.elem, i)) (length-write (elements v) xs d.numbers)

      at : (z y : Bool) → outline (changed (cond z (cond y (Becomes (record { elem = t; numbers = xs })) (Writes (elements v) xs)) Keeps) (f b)) ≡ outline (cond (y && (z || false)) (Some (record { elem = t; numbers = replicate n (pos 0) })) c)
      at true true = ap (λ i. Some (t, i)) (k.0 ∙ sym (length-replicate n (pos 0)))
      at true false = at_cell (f b) ∙ o
      at false true = o
      at false false = o

-- ---- the outputs of an operation

module _ (P : Strided → Type 0) where
  either_out : (z : Bool) (out : Option Strided) → AllByRecursion P (option_to_list (cond z None out)) → AllByRecursion P (option_to_list (cond z out None)) → AllByRecursion P (option_to_list out)
  either_out true out a b = b
  either_out false out a b = a

  filled_out : (z : Bool) (out : Option Strided) → AllByRecursion P (option_to_list out) → AllByRecursion P (option_to_list (cond z None out))
  filled_out true out a = tt
  filled_out false out a = a

  fold_out : (z : Bool) (out : Option Strided) → AllByRecursion P (option_to_list out) → AllByRecursion P (option_to_list (cond z out None))
  fold_out true out a = a
  fold_out false out a = tt

  pub all_outs : (op : Op) → AllByRecursion P (filled op) → AllByRecursion P (fold_outs op) → AllByRecursion P (outputs op)
  all_outs op a b = either_out (is_reduction op.code) op.out a b

  pub outs_filled : (op : Op) → AllByRecursion P (outputs op) → AllByRecursion P (filled op)
  outs_filled op a = filled_out (is_reduction op.code) op.out a

  pub outs_folded : (op : Op) → AllByRecursion P (outputs op) → AllByRecursion P (fold_outs op)
  outs_folded op a = fold_out (is_reduction op.code) op.out a

module _ (n : ℕ) where
  abbrev pub Shows : Memory → Columns → Live → Type 0
  Shows m h live = (v : Strided) → live v ≡ true → (p : ℕ) → p < n → look m v p ≡ h p v

  -- no place of the one is a place of the other
  abbrev pub Clear : Strided → Strided → Type 0
  Clear o v = (i j : ℕ) → i < length (elements o) → j < n → o.base ≡ v.base → place_at o i ≢ place_at v j

  -- ---- one operation

  -- what holds of each operation of the block
  pub record Suited (op : Op) : Type 0 where
    pub columnar : AllByRecursion (λ (o : Strided). Columnar n op) (filled op)
    pub sized : AllByRecursion (λ (o : Strided). count op ≡ n) (filled op)
    pub folding : AllByRecursion (λ (o : Strided). Folding n op) (fold_outs op)
    pub long : AllByRecursion (λ (v : Strided). length (elements v) ≡ n) (inputs op)

  pub record Ready (m : Memory) (live : Live) (op : Op) : Type 0 where
    pub suited : Suited op
    pub known : AllByRecursion (λ v. live v ≡ true) (inputs op)
    pub meets : AllByRecursion (λ o. (v : Strided) → live v ≡ true → Meets n o v) (filled op)
    pub clear : AllByRecursion (λ o. (v : Strided) → live v ≡ true → Clear o v) (fold_outs op)
    pub placed : AllByRecursion (Placed (count op) m.bases op.makes) (outputs op)

  abbrev pub Runs : Memory → Live → List Op → Type 0
  Runs m live [] = Unit {0}
  Runs m live (op ∷ ops) = Ready m live op × Runs (step m op) (live_after op live) ops

  pub held_all : (m : Memory) (h : Columns) (live : Live) → Shows m h live → (vs : List Strided) → AllByRecursion (λ (v : Strided). length (elements v) ≡ n) vs
      → AllByRecursion (λ v. live v ≡ true) vs → HeldAll n m h vs
  held_all m h live s vs long known =
      all_two (λ (v : Strided). length (elements v) ≡ n) (λ v. live v ≡ true) (Held n m h) (λ v a b. record { long = a; same = λ p l. s v b p l }) vs long known

  -- a reduction leaves the live views alone
  fold_shows : (k : ℕ) (frees : Option ℕ) (makes : Bool) (t : Elem) (xs : List ℤ) (f : ℕ → Option Cell) (out : Option Strided) (h : Columns) (live : Live)
      → ((v : Strided) → live v ≡ true → (p : ℕ) → p < n → number_at (f v.base) (place_at v p) ≡ h p v)
      → AllByRecursion (Placed k f makes) (option_to_list out) → AllByRecursion (λ (o : Strided). length xs ≡ k) (option_to_list out)
      → AllByRecursion (λ o. (v : Strided) → live v ≡ true → Clear o v) (option_to_list out)
      → (v : Strided) → (not (has (option_to_list frees) v.base) && live v) ≡ true → (p : ℕ) → p < n → number_at (after frees out makes t xs f v.base) (place_at v p) ≡ h p v
  fold_shows k frees makes t xs f out h live s d c g v on p l =
      let lives : live v ≡ true = both_right (not (has (option_to_list frees) v.base)) (live v) on in
      off k frees makes t xs f out d c v.base (place_at v p) (untrue _ (both_left _ _ on))
      (all_two (Placed k f makes) (λ o. (v : Strided) → live v ≡ true → Clear o v) (λ (o : Strided). o.base ≡ v.base → Misses k o (place_at v p))
      (λ o a b base q u. let long : length (elements o) ≡ k = a.long in b v lives q p (omega arith) l base) (option_to_list out) d g)
      ∙ s v lives p l

  module _ (m : Memory) (h : Columns) (live : Live) (op : Op) (s : Shows m h live) (d : Ready m live op) where
    pub inputs_held : HeldAll n m h (inputs op)
    inputs_held = held_all m h live s (inputs op) d.suited.long d.known

    counted_column : AllByRecursion (λ (o : Strided). length (computed m op) ≡ n) (filled op)
    counted_column = All_weaker (λ (o : Strided). Columnar n op) (λ (o : Strided). length (computed m op) ≡ n) (λ o c. c.counted m h inputs_held) (filled op) d.suited.columnar

    counted_fold : AllByRecursion (λ (o : Strided). length (computed m op) ≡ count op) (fold_outs op)
    counted_fold = All_weaker (λ (o : Strided). Folding n op) (λ (o : Strided). length (computed m op) ≡ count op) (λ o c. c.counted m) (fold_outs op) d.suited.folding

    pub counted : AllByRecursion (λ (o : Strided). length (computed m op) ≡ count op) (outputs op)
    counted =
        all_outs (λ (o : Strided). length (computed m op) ≡ count op) op
        (all_two (λ (o : Strided). length (computed m op) ≡ n) (λ (o : Strided). count op ≡ n) (λ (o : Strided). length (computed m op) ≡ count op) (λ o a b. a ∙ sym b) (filled op) counted_column d.suited.sized) counted_fold

    computes : AllByRecursion (λ (o : Strided). (p : ℕ) → p < n → get_or (computed m op) p (pos 0) ≡ column op h p) (filled op)
    computes =
        All_weaker (λ (o : Strided). Columnar n op) (λ (o : Strided). (p : ℕ) → p < n → get_or (computed m op) p (pos 0) ≡ column op h p) (λ o c p l. c.result m h inputs_held p l) (filled op) d.suited.columnar

    placed_column : AllByRecursion (Placed n m.bases op.makes) (filled op)
    placed_column =
        all_two (λ (o : Strided). count op ≡ n) (Placed (count op) m.bases op.makes) (Placed n m.bases op.makes) (λ o e a. subst (λ k. Placed k m.bases op.makes o) e a) (filled op) d.suited.sized
        (outs_filled (Placed (count op) m.bases op.makes) op d.placed)

    pub step_shows : Shows (step m op) (next op h) (live_after op live)
    step_shows v on p l =
        at (is_reduction op.code) placed_column (outs_folded (Placed (count op) m.bases op.makes) op d.placed) counted_column counted_fold computes d.meets d.clear v on p l
      where
        at : (z : Bool) → AllByRecursion (Placed n m.bases op.makes) (option_to_list (cond z None op.out)) → AllByRecursion (Placed (count op) m.bases op.makes) (option_to_list (cond z op.out None))
            → AllByRecursion (λ (o : Strided). length (computed m op) ≡ n) (option_to_list (cond z None op.out)) → AllByRecursion (λ (o : Strided). length (computed m op) ≡ count op) (option_to_list (cond z op.out None))
            → AllByRecursion (λ (o : Strided). (p : ℕ) → p < n → get_or (computed m op) p (pos 0) ≡ column op h p) (option_to_list (cond z None op.out))
            → AllByRecursion (λ o. (v : Strided) → live v ≡ true → Meets n o v) (option_to_list (cond z None op.out))
            → AllByRecursion (λ o. (v : Strided) → live v ≡ true → Clear o v) (option_to_list (cond z op.out None))
            → (v : Strided) → (not (has (freed op) v.base) && (list_any (λ o. identical o v) (option_to_list (cond z None op.out)) || live v)) ≡ true → (p : ℕ) → p < n
            → look (step m op) v p ≡ assigned (cond z None op.out) (column op h p) (h p) v
        at true a b c e x g y v on p l = fold_shows (count op) op.frees op.makes op.to (computed m op) m.bases op.out h live s b e y v on p l
        at false a b c e x g y v on p l = shows_out n op.frees op.makes op.to (computed m op) m.bases op.out h live (λ q. column op h q) s a c x g v on p l

    pub step_off : (b e : ℕ) → has (freed op) b ≡ false → AllByRecursion (λ (o : Strided). o.base ≡ b → Misses (count op) o e) (outputs op) → peek (step m op) b e ≡ peek m b e
    step_off b e kept miss = off (count op) op.frees op.makes op.to (computed m op) m.bases op.out d.placed counted b e kept miss

  -- the whole block
  pub shows_end : (ops : List Op) (m : Memory) (h : Columns) (live : Live) → Runs m live ops → Shows m h live → Shows (eager m ops) (ends ops h) (live_end ops live)
  shows_end [] m h live d s = s
  shows_end (op ∷ ops) m h live d s = shows_end ops (step m op) (next op h) (live_after op live) d.1 (step_shows m h live op s d.0)

  -- ---- types and lengths

  pub outline_step : (m : Memory) (h : Columns) (live : Live) (op : Op) → Shows m h live → Ready m live op → (b : ℕ) (c : Option Cell) → has (freed op) b ≡ false → outline (m.bases b) ≡ outline c
      → outline ((step m op).bases b) ≡ outline (opened_by op b c)
  outline_step m h live op s d b c kept o = outline_out (count op) op.frees op.out op.makes op.to (computed m op) m.bases b c kept (counted m h live op s d) o

  pub outline_end : (ops : List Op) (m : Memory) (h : Columns) (live : Live) → Runs m live ops → Shows m h live → (b : ℕ) → freed_by ops b ≡ false
      → (c : Option Cell) → outline (m.bases b) ≡ outline c → outline ((eager m ops).bases b) ≡ outline (opening ops b c)
  outline_end [] m h live d s b kept c o = o
  outline_end (op ∷ ops) m h live d s b kept c o =
      outline_end ops (step m op) (next op h) (live_after op live) d.1 (step_shows m h live op s d.0) b (or_right (has (freed op) b) (freed_by ops b) kept)
      (opened_by op b c) (outline_step m h live op s d.0 b c (or_left (has (freed op) b) (freed_by ops b) kept) o)
