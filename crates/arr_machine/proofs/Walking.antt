-- One strip more of a walk.
use Rattle.std.proofs.Common.{◌≡◌, ℕ, suc, ◌+◌, ◌-◌, ◌<◌, ◌≤◌, ℤ, List, [], ◌∷◌, true, Option, length, get_or, refl, ap, sym, subst, ◌∙◌, arith}
use Rattle.std.specs.List.{AllByRecursion}
use Rattle.std.proofs.lemmas.List.{take_all}
use Rattle.arr_view.specs.Strided.{Strided}
use Rattle.arr_ops.specs.declared.op.Op.{Op}
use Rattle.arr_ops.specs.Costs.{reads}
use Rattle.arr_ops.specs.Fits.{fits, op_fits}
use Rattle.arr_ops.specs.Memory.{Memory, Slot}
use Rattle.arr_ops.proofs.Pairs.{All_weaker}
use Rattle.arr_ops.proofs.Tests.{all_of}
use Rattle.arr_store.specs.Cells.{number_at}
use Rattle.arr_strips.specs.Blocks.{block_positions, stores}
use Rattle.arr_strips.specs.Columns.{Columns, ends, place_at}
use Rattle.arr_strips.specs.Laws.{WalkedBlock}
use Rattle.arr_strips.specs.Registers.{number_in, register_views}
use Rattle.arr_strips.specs.Strips.{Bases, joined, loaded, stored}
use Rattle.arr_strips.proofs.Blocks.{block_of}
use Rattle.arr_strips.proofs.StripLaws.{go_on}
use Rattle.arr_machine.specs.Machines.{Walks}
use Rattle.arr_machine.specs.Needed.{needed}
use Rattle.arr_machine.specs.Ports.{lane_columns}
use Rattle.arr_machine.specs.Standing.{Advances, IsStripOf, Resting, Standing}
use Rattle.arr_machine.proofs.Needs.{needs_stores}
use Rattle.arr_machine.proofs.Rests.{strip_begins, strip_ends}

pub all_each : {X : Type 0} (P : X → Type 0) (xs : List X) → ((k : ℕ) (x : X) → k < length xs → x ≡ get_or xs k x → P x) → AllByRecursion P xs
all_each P [] h = tt
all_each P (x ∷ xs) h = (h 0 x (omega arith) refl, all_each P xs (λ k y l e. h (suc k) y (omega arith) e))

pub strip_walks : (ops : List Op) (m : Memory) (start : ℕ → Option Slot) (p c room : ℕ) → IsStripOf ops p c room → fits m ops ≡ true
    → (f : Bases) (see later : ℕ → ℕ → ℤ) (xs ys : List ℤ) (slots shown : ℕ → Option Slot)
    → ((v : Strided) → loaded (reads ops) v ≡ true → (i : ℕ) → i < c → see (number_in (register_views ops) v) i ≡ number_at (f v.base) (place_at v (p + i)))
    → Advances ops p c 0 (length ops) see xs slots later ys shown
    → (new : Bases) → new ≡ stored p c (lane_columns ops later p) (stores ops) f → Walks ops m start p f xs slots → Walks ops m start (p + c) new ys shown
strip_walks ops m start p c room t fit f see later xs ys slots shown loads advances new is w =
    subst (λ (g : Bases). Walks ops m start (p + c) g ys shown) (sym is) (next.0, subst (λ (g : Columns). Resting ops (p + c) g start ys shown) (sym next.1) (strip_ends ops p c (joined p w.0.begun (lane_columns ops see p)) start later ys shown after))
  where
    inside : p ≤ block_positions ops
    inside = let a : p + c ≤ block_positions ops = t.inside in omega arith

    fs : AllByRecursion (λ f. op_fits m ops f ≡ true) ops
    fs = all_of (op_fits m ops) ops fit

    before : Standing ops p c 0 (joined p w.0.begun (lane_columns ops see p)) start see xs slots
    before =
        strip_begins ops m (block_of ops t.block) fs p c w.0.begun (lane_columns ops see p) start see xs slots inside
        (λ v i u. ap (see (number_in (register_views ops) v)) (let z : i ≡ p + i - p = omega arith in z)) w.1

    after : Standing ops p c (length ops) (joined p w.0.begun (lane_columns ops see p)) start later ys shown
    after = advances (joined p w.0.begun (lane_columns ops see p)) start before

    next : (v : WalkedBlock ops m (p + c) (stored p c (lane_columns ops later p) (stores ops) f)) × (v.begun ≡ joined p w.0.begun (lane_columns ops see p))
    next =
        go_on ops m p c f t.block fit t.inside w.0 (lane_columns ops see p) (lane_columns ops later p)
        (λ v on i l u. loads v on (i - p) (omega arith) ∙ ap (λ j. number_at (f v.base) (place_at v j)) (let z : p + (i - p) ≡ i = omega arith in z))
        (All_weaker (λ v. needed ops (length ops) v ≡ true) (λ v. (i : ℕ) → p ≤ i → i < p + c → lane_columns ops later p i v ≡ ends ops (joined p w.0.begun (lane_columns ops see p)) i v)
        (λ v on i l u.
        after.row v on (i - p) (omega arith) ∙ ap (λ zs. ends zs (joined p w.0.begun (lane_columns ops see p)) (p + (i - p)) v) (take_all (length ops) ops (omega arith))
        ∙ ap (λ j. ends ops (joined p w.0.begun (lane_columns ops see p)) j v) (let z : p + (i - p) ≡ i = omega arith in z)) (stores ops) (needs_stores ops (length ops)))
