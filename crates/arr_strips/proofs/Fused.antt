-- The walk of a block leaves what eager execution of its operations leaves.
use Rattle.std.proofs.Common.{◌≡◌, ◌≢◌, ℕ, ◌≤◌, ◌<◌, suc, zero, ℤ, pos, List, [], ◌∷◌, Bool, true, false, cond, ◌||◌, ◌&&◌, refl, ap, ap₂, sym, ◌∙◌, subst, arith, map, length, get_or, replicate, Option, Some, None}
use Rattle.std.proofs.lemmas.List.{ext_get_or, length-map, get_or-replicate, length-replicate, get_or_past}
use Rattle.std.proofs.lemmas.List.FromFn.{length-range_with_len, get_or-map-range_with_len}
use Rattle.std.proofs.lemmas.Bool.{false≢true, eqb-true, eqb-false, ltb-true, ltb-false}
use Rattle.std.specs.Prelude.{◌==◌, nat_lt}
use Rattle.std.specs.List.{AllByRecursion, range_with_len, list_any}
use Rattle.std.specs.Option.{option_to_list}
use Rattle.arr_view.specs.Strided.{Strided}
use Rattle.arr_view.specs.Views.{elements, has}
use Rattle.arr_num.specs.Kinds.{kind, is_reduction, Printing}
use Rattle.arr_num.specs.declared.elem.Elem.{Elem}
use Rattle.arr_ops.specs.declared.op.Op.{Op}
use Rattle.arr_ops.specs.declared.op.Operand.TheVariants.{Array}
use Rattle.arr_ops.specs.Ops.{view_of, outputs, freed, freed_by, makes_base, creates}
use Rattle.arr_ops.specs.Memory.{Memory, Cell, Slot, Becomes, Writes, Keeps, Drops, changed, computed, read, step, eager, slot_after, lengths_of}
use Rattle.arr_ops.proofs.Pairs.{Pairs, All_weaker}
use Rattle.arr_ops.proofs.Spots.{all_left, all_two}
use Rattle.arr_ops.proofs.Writes.{or_left, or_right}
use Rattle.arr_store.specs.Cells.{number_at}
use Rattle.arr_strips.specs.Columns.{peek, place_at, Columns, taken, next, ends, Live, live_after, live_end, filled, folds_to, fold_outs, count, results_at, opened_by, opening, opened, dropped, slots_end}
use Rattle.arr_strips.specs.Strips.{Bases, loaded, kept, put_out, closed}
use Rattle.arr_strips.proofs.Cells.{same_cells, outline-put, put-miss, put-hit}
use Rattle.arr_strips.specs.Strips.{outline, size}
use Rattle.arr_strips.proofs.Values.{get_or-read, length-read, shown_is, Folding}
use Rattle.arr_strips.proofs.Eager.{after, Misses, Placed, Clear, Shows, Ready, Runs, off, hit, counted, inputs_held, step_off, step_shows, shows_end, outline_end}
use Rattle.arr_strips.specs.Strips.{Walked}

-- ---- freed bases

pub none_after : (frees : Option ℕ) (out : Option Strided) (makes : Bool) (t : Elem) (xs : List ℤ) (f : Bases) (b : ℕ)
    → (makes && list_any (λ (o : Strided). o.base == b) (option_to_list out)) ≡ false → f b ≡ None → after frees out makes t xs f b ≡ None
none_after frees None makes t xs f b k e = elim (has (option_to_list frees) b) as (λ z. changed (cond z Drops Keeps) (f b) ≡ None) [ true ↦ refl | false ↦ e ]
none_after frees (Some o) makes t xs f b k e =
    elim (has (option_to_list frees) b) as (λ z. changed (cond z Drops (cond (o.base == b) (cond makes (Becomes (record { elem = t; numbers = xs })) (Writes (elements o) xs)) Keeps)) (f b) ≡ None) [
      | true ↦ refl
      | false ↦ at (o.base == b) makes k
    ]
  where
    at : (x y : Bool) → (y && (x || false)) ≡ false → changed (cond x (cond y (Becomes (record { elem = t; numbers = xs })) (Writes (elements o) xs)) Keeps) (f b) ≡ None
    at true true k = absurd (false≢true (sym k))
    at true false k = ap (changed (Writes (elements o) xs)) e
    at false y k = e

none_stays : (ops : List Op) (m : Memory) (b : ℕ) → AllByRecursion (λ op. makes_base op b ≡ false) ops → m.bases b ≡ None → (eager m ops).bases b ≡ None
none_stays [] m b k e = e
none_stays (op ∷ ops) m b k e = none_stays ops (step m op) b k.1 (none_after op.frees op.out op.makes op.to (computed m op) m.bases b k.0 e)

-- f frees no base that g makes
abbrev pub Ends : Op → Op → Type 0
Ends f g = (b : ℕ) → has (freed f) b ≡ true → makes_base g b ≡ false

freed_end : (ops : List Op) (m : Memory) (b : ℕ) → Pairs Ends ops → freed_by ops b ≡ true → (eager m ops).bases b ≡ None
freed_end [] m b g f = absurd (false≢true f)
freed_end (op ∷ ops) m b g f =
    elim (has (freed op) b) as (λ z. has (freed op) b ≡ z → (z || freed_by ops b) ≡ true → (eager (step m op) ops).bases b ≡ None) [
      | true ↦ λ e k.
          none_stays ops (step m op) b (All_weaker (Ends op) (λ g. makes_base g b ≡ false) (λ g d. d b e) ops g.0) (gone op.out e)
      | false ↦ λ e k. freed_end ops (step m op) b g.1 k
    ] refl f
  where
    gone : (out : Option Strided) → has (freed op) b ≡ true → after op.frees out op.makes op.to (computed m op) m.bases b ≡ None
    gone None e = ap (λ z. changed (cond z Drops Keeps) (m.bases b)) e
    gone (Some o) e = ap (λ z. changed (cond z Drops (cond (o.base == b) (cond op.makes (Becomes (record { elem = op.to; numbers = computed m op })) (Writes (elements o) (computed m op))) Keeps)) (m.bases b)) e

-- ---- a place is that of a stored view, or of none

module _ (b e : ℕ) where
  record At (v : Strided) (n : ℕ) : Type 0 where
    position : ℕ
    below : position < n
    place_is : place_at v position ≡ e

  at_one : {G : Type 0} (v : Strided) (n : ℕ) → ((i : ℕ) → i < n → place_at v i ≡ e → G) → (((i : ℕ) → i < n → place_at v i ≢ e) → G) → G
  at_one {G = G} v zero there away = away (λ i l. absurd (omega arith))
  at_one {G = G} v (suc n) there away =
      elim (place_at v n == e) as (λ t. (place_at v n == e) ≡ t → G) [
        | true ↦ λ d. there n (omega arith) (eqb-true (place_at v n) e d)
        | false ↦ λ d.
            at_one v n (λ i l. there i (omega arith))
            (λ none. away (λ i l same.
            elim (i == n) as (λ t. (i == n) ≡ t → ⊥) [
              | true ↦ λ k. eqb-false (place_at v n) e d (ap (place_at v) (sym (eqb-true i n k)) ∙ same)
              | false ↦ λ k. none i (let ne : i ≢ n = eqb-false i n k in omega arith) same
            ] refl))
      ] refl

  abbrev pub Free : ℕ → Strided → Type 0
  Free n v = v.base ≡ b → (i : ℕ) → i < n → place_at v i ≢ e

  find : {G : Type 0} (n : ℕ) (vs : List Strided) → AllByRecursion (λ (v : Strided). v.base ≡ b → (i : ℕ) → i < n → place_at v i ≡ e → G) vs → (AllByRecursion (Free n) vs → G) → G
  find {G = G} n [] there away = away tt
  find {G = G} n (v ∷ vs) there away =
      elim (v.base == b) as (λ t. (v.base == b) ≡ t → G) [
        | true ↦ λ d. at_one v n (there.0 (eqb-true v.base b d)) (λ none. find n vs there.1 (λ rest. away ((λ same. none), rest)))
        | false ↦ λ d. find n vs there.1 (λ rest. away ((λ same. absurd (eqb-false v.base b d same)), rest))
      ] refl

-- ---- the law

pub unopened : (ops : List Op) (b : ℕ) (c : Option Cell) → creates ops b ≡ false → opening ops b c ≡ c
unopened [] b c k = refl
unopened (op ∷ ops) b c k =
    unopened ops b (opened_by op b c) (or_right (makes_base op b) (creates ops b) k)
    ∙ ap (λ t. cond t (Some (record { elem = op.to; numbers = replicate (count op) (pos 0) })) c) (or_left (makes_base op b) (creates ops b) k)

number-zeros : (n e : ℕ) → get_or (replicate n (pos 0)) e (pos 0) ≡ pos 0
number-zeros n e =
    elim (nat_lt e n) as (λ t. nat_lt e n ≡ t → get_or (replicate n (pos 0)) e (pos 0) ≡ pos 0) [
      | true ↦ λ d. get_or-replicate n e (pos 0) (pos 0) (ltb-true e n d)
      | false ↦ λ d. get_or_past (replicate n (pos 0)) e (pos 0) (let l : n ≤ e = ltb-false e n d in let k : length (replicate n (pos 0)) ≡ n = length-replicate n (pos 0) in omega arith)
    ] refl

-- a base that is made had no number
opening_zero : (ops : List Op) (b e : ℕ) (c : Option Cell) → number_at c e ≡ pos 0 → number_at (opening ops b c) e ≡ pos 0
opening_zero [] b e c z = z
opening_zero (op ∷ ops) b e c z = opening_zero ops b e (opened_by op b c) (at (makes_base op b))
  where
    at : (t : Bool) → number_at (cond t (Some (record { elem = op.to; numbers = replicate (count op) (pos 0) })) c) e ≡ pos 0
    at true = number-zeros (count op) e
    at false = z

opening_number : (ops : List Op) (m : Memory) (b e : ℕ) → (creates ops b ≡ true → m.bases b ≡ None) → number_at (opening ops b (m.bases b)) e ≡ number_at (m.bases b) e
opening_number ops m b e none =
    elim (creates ops b) as (λ t. creates ops b ≡ t → number_at (opening ops b (m.bases b)) e ≡ number_at (m.bases b) e) [
      | true ↦ λ k.
          let absent : m.bases b ≡ None = none k in
          opening_zero ops b e (m.bases b) (ap (λ c. number_at c e) absent) ∙ sym (ap (λ c. number_at c e) absent)
      | false ↦ λ k. ap (λ c. number_at c e) (unopened ops b (m.bases b) k)
    ] refl

-- ---- results written after the walk

outline_out : (all : List Op) (out : Option Strided) (xs : List ℤ) (f : Bases) (b : ℕ) → outline (put_out (kept all out) xs f b) ≡ outline (f b)
outline_out all None xs f b = refl
outline_out all (Some o) xs f b = at (freed_by all o.base)
  where
    at : (z : Bool) → outline (put_out (cond z None (Some o)) xs f b) ≡ outline (f b)
    at true = refl
    at false = outline-put o.base (elements o) xs f b

outline_closed : (n : ℕ) (all ops : List Op) (h : Columns) (f : Bases) (b : ℕ) → outline (closed n all ops h f b) ≡ outline (f b)
outline_closed n all [] h f b = refl
outline_closed n all (op ∷ ops) h f b =
    outline_closed n all ops (next op h) (put_out (kept all (folds_to op)) (results_at n op h) f) b ∙ outline_out all (folds_to op) (results_at n op h) f b

-- a place that no result is written at
out_missed : (all : List Op) (out : Option Strided) (xs : List ℤ) (f : Bases) (b e : ℕ) → AllByRecursion (λ (o : Strided). o.base ≡ b → Misses (length (elements o)) o e) (option_to_list out)
    → number_at (put_out (kept all out) xs f b) e ≡ number_at (f b) e
out_missed all None xs f b e miss = refl
out_missed all (Some o) xs f b e miss = at (freed_by all o.base)
  where
    at : (z : Bool) → number_at (put_out (cond z None (Some o)) xs f b) e ≡ number_at (f b) e
    at true = refl
    at false = put-miss o.base (elements o) xs f b e miss.0

closed_missed : (n : ℕ) (all ops : List Op) (h : Columns) (f : Bases) (b e : ℕ) → AllByRecursion (λ (op : Op). AllByRecursion (λ (o : Strided). o.base ≡ b → Misses (length (elements o)) o e) (fold_outs op)) ops
    → number_at (closed n all ops h f b) e ≡ number_at (f b) e
closed_missed n all [] h f b e miss = refl
closed_missed n all (op ∷ ops) h f b e miss =
    closed_missed n all ops (next op h) (put_out (kept all (folds_to op)) (results_at n op h) f) b e miss.1 ∙ out_missed all (folds_to op) (results_at n op h) f b e miss.0

-- what an operation with a slot shows
pub record Prints (op : Op) : Type 0 where
  pub view : Strided
  pub kind_is : kind op.code ≡ Printing
  pub first_is : op.first ≡ Some (Array view)

-- no place of an output that fills a column
abbrev pub Quiet : ℕ → ℕ → ℕ → List Op → Type 0
Quiet n b e ops = AllByRecursion (λ (op : Op). AllByRecursion (λ (o : Strided). o.base ≡ b → Misses n o e) (filled op)) ops

-- the results of reductions lie in what was opened
abbrev pub Roomy : List Op → Memory → List Op → Type 0
Roomy all m ops =
    AllByRecursion (λ (op : Op). AllByRecursion (λ (o : Strided). freed_by all o.base ≡ false → (i : ℕ) → i < length (elements o) → place_at o i < size (outline (opened all m o.base))) (fold_outs op)) ops

module _ (n : ℕ) (all : List Op) (m0 : Memory) where
  -- one operation more: the same number stands at a place that no column fills
  module _ (op : Op) (m : Memory) (h : Columns) (live : Live) (r : Ready n m live op) (sh : Shows n m h live) (f : Bases) (same : (b : ℕ) → outline (f b) ≡ outline (opened all m0 b))
      (b e : ℕ) (stays : freed_by all b ≡ false) (unfreed : has (freed op) b ≡ false) (was : number_at (f b) e ≡ peek m b e) where
    at_out : (out : Option Strided) (xs ys : List ℤ) → xs ≡ ys → AllByRecursion (λ (o : Strided). length ys ≡ count op) (option_to_list out) → AllByRecursion (Placed (count op) m.bases op.makes) (option_to_list out)
        → AllByRecursion (λ (o : Strided). freed_by all o.base ≡ false → (i : ℕ) → i < length (elements o) → place_at o i < size (outline (opened all m0 o.base))) (option_to_list out)
        → number_at (put_out (kept all out) xs f b) e ≡ number_at (after op.frees out op.makes op.to ys m.bases b) e
    at_out None xs ys d l p room = was ∙ sym (off (count op) op.frees op.makes op.to ys m.bases None tt tt b e unfreed tt)
    at_out (Some o) xs ys d l p room =
        elim (o.base == b) as (λ t. (o.base == b) ≡ t → number_at (put_out (kept all (Some o)) xs f b) e ≡ number_at (after op.frees (Some o) op.makes op.to ys m.bases b) e) [
          | true ↦ λ s. here (eqb-true o.base b s)
          | false ↦ λ s. missed (λ base. absurd (eqb-false o.base b s base))
        ] refl
      where
        long : length (elements o) ≡ count op
        long = p.0.long

        missed : (o.base ≡ b → Misses (count op) o e) → number_at (put_out (kept all (Some o)) xs f b) e ≡ number_at (after op.frees (Some o) op.makes op.to ys m.bases b) e
        missed miss =
            out_missed all (Some o) xs f b e ((λ base q u. miss base q (omega arith)), tt) ∙ was ∙ sym (off (count op) op.frees op.makes op.to ys m.bases (Some o) p l b e unfreed (miss, tt))

        at_place : o.base ≡ b → (i : ℕ) → i < count op → number_at (put_out (kept all (Some o)) xs f o.base) (place_at o i) ≡ number_at (after op.frees (Some o) op.makes op.to ys m.bases o.base) (place_at o i)
        at_place base i u =
            let free : freed_by all o.base ≡ false = ap (freed_by all) base ∙ stays in
            let sized : length ys ≡ count op = l.0 in
            let xlong : length xs ≡ count op = ap length d ∙ sized in
            ap (λ z. number_at (put_out (cond z None (Some o)) xs f o.base) (place_at o i)) free
            ∙ put-hit o.base (elements o) xs f i (omega arith) (omega arith) (subst (λ k. place_at o i < size k) (sym (same o.base)) (room.0 free i (omega arith)))
            (λ q r x y at. p.0.once q r (omega arith) (omega arith) at)
            ∙ ap (λ zs. get_or zs i (pos 0)) d
            ∙ sym (hit (count op) op.frees op.makes op.to ys m.bases o p.0 sized i u (ap (has (freed op)) base ∙ unfreed))

        here : o.base ≡ b → number_at (put_out (kept all (Some o)) xs f b) e ≡ number_at (after op.frees (Some o) op.makes op.to ys m.bases b) e
        here base =
            at_one b e o (count op)
            (λ i u place. ap₂ (λ x y. number_at (put_out (kept all (Some o)) xs f x) y) (sym base) (sym place) ∙ at_place base i u
            ∙ ap₂ (λ x y. number_at (after op.frees (Some o) op.makes op.to ys m.bases x) y) base place)
            (λ none. missed (λ _. none))

    quiet_step : AllByRecursion (λ (o : Strided). o.base ≡ b → Misses n o e) (filled op)
        → AllByRecursion (λ (o : Strided). freed_by all o.base ≡ false → (i : ℕ) → i < length (elements o) → place_at o i < size (outline (opened all m0 o.base))) (fold_outs op)
        → number_at (put_out (kept all (folds_to op)) (results_at n op h) f b) e ≡ peek (step m op) b e
    quiet_step quiet room =
        at (is_reduction op.code) quiet r.suited.sized r.suited.folding room
      where
        at : (z : Bool) → AllByRecursion (λ (o : Strided). o.base ≡ b → Misses n o e) (option_to_list (cond z None op.out))
            → AllByRecursion (λ (o : Strided). count op ≡ n) (option_to_list (cond z None op.out))
            → AllByRecursion (λ (o : Strided). Folding n op) (option_to_list (cond z op.out None))
            → AllByRecursion (λ (o : Strided). freed_by all o.base ≡ false → (i : ℕ) → i < length (elements o) → place_at o i < size (outline (opened all m0 o.base))) (option_to_list (cond z op.out None))
            → number_at (put_out (kept all (cond z op.out None)) (results_at n op h) f b) e ≡ peek (step m op) b e
        at false q sized g t =
            was
            ∙ sym (step_off n m h live op sh r b e unfreed
            (all_two (λ (o : Strided). o.base ≡ b → Misses n o e) (λ (o : Strided). count op ≡ n) (λ (o : Strided). o.base ≡ b → Misses (count op) o e) (λ o x k base i u. x base i (omega arith)) (outputs op) q sized))
        at true q sized g t = folding_out op.out g r.placed (counted n m h live op sh r) t
          where
            folding_out : (out : Option Strided) → AllByRecursion (λ (o : Strided). Folding n op) (option_to_list out) → AllByRecursion (Placed (count op) m.bases op.makes) (option_to_list out)
                → AllByRecursion (λ (o : Strided). length (computed m op) ≡ count op) (option_to_list out)
                → AllByRecursion (λ (o : Strided). freed_by all o.base ≡ false → (i : ℕ) → i < length (elements o) → place_at o i < size (outline (opened all m0 o.base))) (option_to_list out)
                → number_at (put_out (kept all out) (results_at n op h) f b) e ≡ number_at (after op.frees out op.makes op.to (computed m op) m.bases b) e
            folding_out None g p l t = was ∙ sym (off (count op) op.frees op.makes op.to (computed m op) m.bases None tt tt b e unfreed tt)
            folding_out (Some o) g p l t = at_out (Some o) (results_at n op h) (computed m op) (sym (g.0.result m h (inputs_held n m h live op sh r))) l p t

  quiet_end : (ops : List Op) (m : Memory) (h : Columns) (live : Live) (f : Bases) → Runs n m live ops → Shows n m h live → ((b : ℕ) → outline (f b) ≡ outline (opened all m0 b)) → Roomy all m0 ops
      → (b e : ℕ) → freed_by all b ≡ false → freed_by ops b ≡ false → Quiet n b e ops → number_at (f b) e ≡ peek m b e → number_at (closed n all ops h f b) e ≡ peek (eager m ops) b e
  quiet_end [] m h live f r sh same room b e stays unfreed quiet was = was
  quiet_end (op ∷ ops) m h live f r sh same room b e stays unfreed quiet was =
      quiet_end ops (step m op) (next op h) (live_after op live) (put_out (kept all (folds_to op)) (results_at n op h) f) r.1 (step_shows n m h live op sh r.0)
      (λ c. outline_out all (folds_to op) (results_at n op h) f c ∙ same c) room.1 b e stays (or_right (has (freed op) b) (freed_by ops b) unfreed) quiet.1
      (quiet_step op m h live r.0 sh f same b e stays (or_left (has (freed op) b) (freed_by ops b) unfreed) was quiet.0 room.0)

module _ (n : ℕ) (ops : List Op) (reads writes : List Strided) (m : Memory) where
  -- what a legal block and a memory that fits it give
  pub record Prepares : Type 0 where
    pub runs : Runs n m (loaded reads) ops
    pub ended : Pairs Ends ops
    pub outside : (v : Strided) → loaded reads v ≡ true → creates ops v.base ≡ false
    pub absent : (b : ℕ) → creates ops b ≡ true → m.bases b ≡ None
    pub live : AllByRecursion (λ v. live_end ops (loaded reads) v ≡ true) writes
    -- a place that no stored view has is no place of a column in a base that stays
    pub covered : (b e : ℕ) → freed_by ops b ≡ false → AllByRecursion (Free b e n) writes → Quiet n b e ops
    pub room : Roomy ops m ops
    pub clear : AllByRecursion (λ v. AllByRecursion (λ (op : Op). AllByRecursion (λ o. Clear n o v) (fold_outs op)) ops) writes

  module _ (d : Prepares) (now : Bases) (w : Walked n ops reads writes (opened ops m) n now) where
    first_shows : Shows n m w.begun (loaded reads)
    first_shows v on p l =
        sym (w.read v on p l ∙ ap (λ c. number_at c (place_at v p)) (both (freed_by ops v.base) (unopened ops v.base (m.bases v.base) (d.outside v on))))
      where
        both : (t : Bool) {x y : Option Cell} → y ≡ x → cond t x y ≡ x
        both true e = refl
        both false e = e

    last_shows : Shows n (eager m ops) (ends ops w.begun) (live_end ops (loaded reads))
    last_shows v on p l = shows_end n ops m w.begun (loaded reads) d.runs first_shows v on p l

    abbrev last : Bases
    last = closed n ops ops w.begun now

    same_kept : (b : ℕ) → freed_by ops b ≡ false → last b ≡ (eager m ops).bases b
    same_kept b f =
        same_cells (last b) ((eager m ops).bases b)
        (outline_closed n ops ops w.begun now b ∙ w.same b ∙ ap outline opens ∙ sym (outline_end n ops m w.begun (loaded reads) d.runs first_shows b f (m.bases b) refl))
        (λ e. find b e n writes (stands e writes w.hit d.live d.clear)
        (λ none.
        quiet_end n ops m ops m w.begun (loaded reads) now d.runs first_shows w.same d.room b e f f (d.covered b e f none)
        (w.miss b e none ∙ ap (λ c. number_at c e) opens ∙ opening_number ops m b e (d.absent b))))
      where
        opens : cond (freed_by ops b) (m.bases b) (opening ops b (m.bases b)) ≡ opening ops b (m.bases b)
        opens = ap (λ t. cond t (m.bases b) (opening ops b (m.bases b))) f

        stands : (e : ℕ) (vs : List Strided) → AllByRecursion (λ v. (i : ℕ) → i < n → number_at (now v.base) (place_at v i) ≡ ends ops w.begun i v) vs
            → AllByRecursion (λ v. live_end ops (loaded reads) v ≡ true) vs
            → AllByRecursion (λ v. AllByRecursion (λ (op : Op). AllByRecursion (λ o. Clear n o v) (fold_outs op)) ops) vs
            → AllByRecursion (λ (v : Strided). v.base ≡ b → (i : ℕ) → i < n → place_at v i ≡ e → number_at (last b) e ≡ number_at ((eager m ops).bases b) e) vs
        stands e [] h g c = tt
        stands e (v ∷ vs) h g c = (
          (λ same i l at.
              sym (ap₂ (λ x y. number_at (last x) y) same at)
              ∙ closed_missed n ops ops w.begun now v.base (place_at v i)
              (All_weaker (λ (op : Op). AllByRecursion (λ o. Clear n o v) (fold_outs op)) (λ (op : Op). AllByRecursion (λ (o : Strided). o.base ≡ v.base → Misses (length (elements o)) o (place_at v i)) (fold_outs op))
              (λ op k. All_weaker (λ o. Clear n o v) (λ (o : Strided). o.base ≡ v.base → Misses (length (elements o)) o (place_at v i)) (λ o x base q u. x q i u l base) (fold_outs op) k) ops c.0)
              ∙ h.0 i l ∙ sym (last_shows v g.0 i l) ∙ ap₂ (peek (eager m ops)) same at),
          stands e vs h.1 g.1 c.1,
        )

    -- the walk of the block is the block
    pub fused : (b : ℕ) → dropped ops last b ≡ (eager m ops).bases b
    fused b =
        elim (freed_by ops b) as (λ t. freed_by ops b ≡ t → cond t None (last b) ≡ (eager m ops).bases b) [
          | true ↦ λ f. sym (freed_end ops m b d.ended f)
          | false ↦ λ f. same_kept b f
        ] refl

    pub fused_slots : AllByRecursion (λ op. (k : ℕ) → op.slot ≡ Some k → Prints op) ops → (s : ℕ) → slots_end n ops w.begun s (m.slots s) ≡ (eager m ops).slots s
    fused_slots prints s = slots_are ops m w.begun (loaded reads) d.runs first_shows prints s
      where
        shown_same : (op : Op) (m : Memory) (h : Columns) (live : Live) → Ready n m live op → Shows n m h live → Prints op → computed m op ≡ map (λ p. taken (h p) op.first) (range_with_len 0 n)
        shown_same op m h live r sh x =
            let v : Strided = x.view in
            let long : length (elements v) ≡ n = (subst (λ o. AllByRecursion (λ (u : Strided). length (elements u) ≡ n) (view_of o)) x.first_is (all_left (λ (u : Strided). length (elements u) ≡ n) (view_of op.first) (view_of op.second) r.suited.long)).0 in
            let on : live v ≡ true = (subst (λ o. AllByRecursion (λ u. live u ≡ true) (view_of o)) x.first_is (all_left (λ u. live u ≡ true) (view_of op.first) (view_of op.second) r.known)).0 in
            let is : computed m op ≡ read (m.bases v.base) (elements v) = shown_is m op v x.kind_is x.first_is in
            let now_long : length (map (λ p. taken (h p) op.first) (range_with_len 0 n)) ≡ n = length-map (range_with_len 0 n) (λ p. taken (h p) op.first) ∙ length-range_with_len 0 n in
            let was_long : length (computed m op) ≡ n = ap length is ∙ length-read (m.bases v.base) (elements v) ∙ long in
            ext_get_or (pos 0) (computed m op) (map (λ p. taken (h p) op.first) (range_with_len 0 n)) (was_long ∙ sym now_long) (λ i l.
            let below : i < n = omega arith in
            ap (λ xs. get_or xs i (pos 0)) is ∙ get_or-read (m.bases v.base) (elements v) i (omega arith) ∙ sh v on i below
            ∙ ap (taken (h i)) (sym x.first_is)
            ∙ sym (get_or-map-range_with_len (λ p. taken (h p) op.first) 0 n i i (pos 0) below (omega arith)))

        one : (slot : Option ℕ) (new other : Slot) (s : ℕ) (c : Option Slot) → ((k : ℕ) → slot ≡ Some k → new ≡ other) → slot_after slot new s c ≡ slot_after slot other s c
        one None new other s c e = refl
        one (Some k) new other s c e = ap (λ x. cond (k == s) (Some x) c) (e k refl)

        slots_are : (ops : List Op) (m : Memory) (h : Columns) (live : Live) → Runs n m live ops → Shows n m h live → AllByRecursion (λ op. (k : ℕ) → op.slot ≡ Some k → Prints op) ops
            → (s : ℕ) → slots_end n ops h s (m.slots s) ≡ (eager m ops).slots s
        slots_are [] m h live r sh x s = refl
        slots_are (op ∷ ops) m h live r sh x s =
            ap (slots_end n ops (next op h) s)
            (one op.slot (record { elem = op.from; lengths = lengths_of op.first; numbers = map (λ p. taken (h p) op.first) (range_with_len 0 n) })
            (record { elem = op.from; lengths = lengths_of op.first; numbers = computed m op }) s (m.slots s)
            (λ k e. ap (λ xs. record { elem = op.from; lengths = lengths_of op.first; numbers = xs }) (sym (shown_same op m h live r.0 sh (x.0 k e)))))
            ∙ slots_are ops (step m op) (next op h) (live_after op live) r.1 (step_shows n m h live op sh r.0) x.1 s
