-- The blocks of a legal plan run one after another: each finds what it needs, and what is left to load, store and make falls by its share.
use Rattle.std.proofs.Common.{◌≡◌, ℕ, ◌+◌, ◌<◌, ◌≤◌, ◌^◌, length, map, drop, get_or, Vec, Global, List, [], ◌∷◌, ◌++◌, append_assoc, Bool, true, not, ◌&&◌, ◌||◌, refl, ap, ap₂, sym, subst, ◌∙◌, arith, Option, Some, None}
use Rattle.std.proofs.lemmas.List.{drop_all, drop_more}
use Rattle.std.specs.Prelude.{is_none}
use Rattle.std.specs.List.{AllByRecursion, list_all}
use Rattle.std.specs.Option.{option_to_list}
use Rattle.arr_view.specs.Strided.{Strided}
use Rattle.arr_ops.specs.declared.op.Op.{Op}
use Rattle.arr_ops.specs.Costs.{reads, total, weight, writes}
use Rattle.arr_ops.specs.Fits.{Need, fits, meets_need, needs, op_fits}
use Rattle.arr_ops.specs.Formed.{is_formed}
use Rattle.arr_ops.specs.Laws.{blocks_fit}
use Rattle.arr_ops.specs.Memory.{Cell, Memory, Slot, eager}
use Rattle.arr_ops.specs.Ops.{creates, outputs}
use Rattle.arr_ops.specs.Plans.{eager_blocks, is_legal, numbered, ops_of}
use Rattle.arr_ops.specs.Traffic.{buffers, read_bytes, write_bytes}
use Rattle.arr_ops.proofs.Serving.{blocks_fit_formed}
use Rattle.arr_ops.proofs.Tests.{both_left, both_right}
use Rattle.arr_contract.specs.Prepared.{IsBlockOf}
use Rattle.arr_contract.proofs.Weighing.{blocks_weigh}
use Rattle.arr_loop.proofs.Slots.{Alike, alike_after, Own, own_all, same_bases, slot_there}
use Rattle.arr_loop.proofs.Blocks.{all_block, formed_block, Leaves, leaves_list}
use Rattle.arr_store.specs.Slots.{blank_slots, slots_of}
use Rattle.arr_store.specs.Stored.{Stored, cells, memory_of}
use Rattle.arr_loop.specs.Opened.{buffers_for, unopened}
use Rattle.arr_loop.specs.Ready.{AreShown, before_open, memory}
use Rattle.arr_loop.proofs.Bounds.{Small, plan_small}
use Rattle.arr_loop.proofs.Made.{buffers_made}

-- ---- what fits a memory fits its bases alone

fits_one : (bases : ℕ → Option Cell) (g : Memory) (list : List Op) (op : Op) → bases ≡ g.bases → op_fits g list op ≡ true → op_fits (record { bases = bases; slots = λ s. None }) list op ≡ true
fits_one bases g list op e h =
    let needed : (ℕ → Option Cell) → Bool = λ f. list_all (λ (n : Need). creates list n.base || meets_need (f n.base) n) (needs op) in
    let made : (ℕ → Option Cell) → Bool = λ f. not op.makes || list_all (λ (o : Strided). is_none (f o.base)) (outputs op) in
    ap₂ (λ a b. a && b) (ap needed e ∙ both_left (needed g.bases) _ h)
    (ap₂ (λ a b. a && b) (none_there op.slot) (ap made e ∙ both_right (list_all (λ s. is_none (g.slots s)) (option_to_list op.slot)) (made g.bases) (both_right (needed g.bases) _ h)))
  where
    none_there : (slot : Option ℕ) → list_all (λ (s : ℕ). true) (option_to_list slot) ≡ true
    none_there None = refl
    none_there (Some s) = refl

fits_bases : (bases : ℕ → Option Cell) (g : Memory) (list ops : List Op) → bases ≡ g.bases → list_all (op_fits g list) ops ≡ true → list_all (op_fits (record { bases = bases; slots = λ s. None }) list) ops ≡ true
fits_bases bases g list [] e h = refl
fits_bases bases g list (op ∷ ops) e h =
    ap₂ (λ a b. a && b) (fits_one bases g list op e (both_left (op_fits g list op) _ h)) (fits_bases bases g list ops e (both_right (op_fits g list op) _ h))

all_shown : (list ops : List Op) (slots : ℕ → Option Slot) → AllByRecursion (Own list) ops → ((s : ℕ) → Alike (slots s) (blank_slots list s)) → AreShown slots ops
all_shown list [] slots own alike = refl
all_shown list (op ∷ ops) slots own alike = ap₂ (λ a b. a && b) (slot_there list op slots own.0 alike op.slot refl) (all_shown list ops slots own.1 alike)

alike_self : (a : Option Slot) → Alike a a
alike_self None = tt
alike_self (Some a) = (refl, refl, refl)

-- ---- one block

-- what an opened block leaves, from before it was opened
pub block_left : (ops block : List Op) (before opened after : Stored) (slots then : List Slot) → ops ≡ block → unopened ops (cells opened) ≡ cells before → cells after ≡ (eager (before_open ops opened slots) ops).bases
    → slots_of then ≡ (eager (before_open ops opened slots) ops).slots → memory after then ≡ eager (memory before slots) block
block_left ops block before opened after slots then same back bases shown =
    let from : before_open ops opened slots ≡ memory before slots = ap (λ (f : ℕ → Option Cell). record { bases = f; slots = slots_of slots }) back in
    let all : eager (before_open ops opened slots) ops ≡ eager (memory before slots) block = ap₂ eager from same in
    let b : cells after ≡ (eager (memory before slots) block).bases = bases ∙ ap (λ (m : Memory). m.bases) all in
    let s : slots_of then ≡ (eager (memory before slots) block).slots = shown ∙ ap (λ (m : Memory). m.slots) all in
    λ i. record { bases = b i; slots = s i }

pub block_loads : (list : List Op) (block : List ℕ) (ops : List Op) (before opened after : ℕ) → is_formed list ≡ true → ops ≡ ops_of (numbered list) block → opened ≡ before → after ≡ opened + total (weight ops) (reads ops)
    → after ≡ before + read_bytes list block
block_loads list block ops before opened after formed same kept is =
    is ∙ ap₂ (λ n os. n + total (weight os) (reads os)) kept same ∙ ap (λ n. before + n) (sym (blocks_weigh list block formed).0)

pub block_stores : (list : List Op) (block : List ℕ) (ops : List Op) (before opened after : ℕ) → is_formed list ≡ true → ops ≡ ops_of (numbered list) block → opened ≡ before → after ≡ opened + total (weight ops) (writes ops)
    → after ≡ before + write_bytes list block
block_stores list block ops before opened after formed same kept is =
    is ∙ ap₂ (λ n os. n + total (weight os) (writes os)) kept same ∙ ap (λ n. before + n) (sym (blocks_weigh list block formed).1)

-- ---- block after block

pub record Going (list : List Op) (start now : Stored) (before after : List Slot) (all left : List (List ℕ)) : Type 0 where
  pub done : List (List ℕ)
  pub is : done ++ left ≡ all
  pub whole : eager_blocks (memory now after) (numbered list) left ≡ eager_blocks (memory start before) (numbered list) all
  pub bare : Memory
  pub bases : cells now ≡ bare.bases
  pub fit : blocks_fit bare (numbered list) left ≡ true
  pub alike : (s : ℕ) → Alike (slots_of after s) (blank_slots list s)
  pub loads : now.loads + total (read_bytes list) left ≡ start.loads + total (read_bytes list) all
  pub stores : now.stores + total (write_bytes list) left ≡ start.stores + total (write_bytes list) all
  pub made : now.made + total (buffers_for list) left ≡ start.made + total (buffers_for list) all

pub going_begins : (list : List Op) (start : Stored) (before : List Slot) (plan : List (List ℕ)) → is_formed list ≡ true → fits (memory_of start) list ≡ true → is_legal list plan ≡ true
    → slots_of before ≡ blank_slots list → Going list start start before before plan plan
going_begins list start before plan formed fit legal blank =
    record {
      done = [];
      is = refl;
      whole = refl;
      bare = memory_of start;
      bases = refl;
      fit = blocks_fit_formed list plan (memory_of start) formed fit legal;
      alike = λ s. subst (λ slots. Alike (slots s) (blank_slots list s)) (sym blank) (alike_self (blank_slots list s));
      loads = refl;
      stores = refl;
      made = refl;
    }

-- the next block finds what it needs
pub record Next (list : List Op) (now : Stored) (after : List Slot) (block : List ℕ) : Type 0 where
  pub of_plan : IsBlockOf list block
  pub fit : fits (memory_of now) (ops_of (numbered list) block) ≡ true
  pub shown : AreShown (slots_of after) (ops_of (numbered list) block)
  pub loads : now.loads < 2 ^ 61
  pub stores : now.stores < 2 ^ 61
  pub made : now.made < 2 ^ 61

pub next_block : {list : List Op} {start now : Stored} {before after : List Slot} {all left : List (List ℕ)} {block : List ℕ} → is_formed list ≡ true → Going list start now before after all (block ∷ left)
    → is_legal list all ≡ true → length list ≤ 256 → start.loads < 2 ^ 60 → start.stores < 2 ^ 60 → start.made < 2 ^ 60 → Next list now after block
next_block {list} {start} {now} {before} {after} {all} {left} {block} formed g legal few l s m =
    let ops = ops_of (numbered list) block in
    let small : Small list all = plan_small list all formed legal few in
    let l0 = small.loads in
    let s0 = small.stores in
    let m0 = small.made in
    let l1 = g.loads in
    let s1 = g.stores in
    let m1 = g.made in
    record {
      of_plan = (g.done, (left, subst (λ p. is_legal list p ≡ true) (sym g.is) legal));
      fit = fits_bases (cells now) g.bare ops ops g.bases (both_left (fits g.bare ops) _ g.fit);
      shown = all_shown list ops (slots_of after) (all_block (Own list) list block (own_all list formed)) g.alike;
      loads = omega arith;
      stores = omega arith;
      made = omega arith;
    }

-- and has run
pub block_ran : {list : List Op} {start now next : Stored} {before after then : List Slot} {all left : List (List ℕ)} {block : List ℕ} → is_formed list ≡ true → Going list start now before after all (block ∷ left)
    → memory next then ≡ eager (memory now after) (ops_of (numbered list) block) → next.loads ≡ now.loads + read_bytes list block → next.stores ≡ now.stores + write_bytes list block → next.made ≡ now.made + buffers_for list block
    → Going list start next before then all left
block_ran {list} {start} {now} {next} {before} {after} {then} {all} {left} {block} formed g is l s m =
    let ops = ops_of (numbered list) block in
    let l0 = g.loads in
    let s0 = g.stores in
    let m0 = g.made in
    record {
      done = g.done ++ block ∷ [];
      is = append_assoc g.done (block ∷ []) left ∙ g.is;
      whole = ap (λ t. eager_blocks t (numbered list) left) is ∙ g.whole;
      bare = eager g.bare ops;
      bases = ap (λ (t : Memory). t.bases) is ∙ same_bases ops (memory now after) g.bare g.bases;
      fit = both_right (fits g.bare ops) _ g.fit;
      alike = λ k. subst (λ (t : Memory). Alike (t.slots k) (blank_slots list k)) (sym is)
          (alike_after list ops (memory now after) (all_block (Own list) list block (own_all list formed)) (formed_block list block formed).well g.alike k);
      loads = omega arith;
      stores = omega arith;
      made = omega arith;
    }

-- all have run
pub record Ended (list : List Op) (start now : Stored) (after : List Slot) (plan : List (List ℕ)) : Type 0 where
  pub bases : cells now ≡ (eager (memory_of start) list).bases
  pub slots : slots_of after ≡ (eager (memory_of start) list).slots
  pub loads : now.loads ≡ start.loads + total (read_bytes list) plan
  pub stores : now.stores ≡ start.stores + total (write_bytes list) plan
  pub made : now.made ≡ start.made + buffers list plan

pub going_ends : {list : List Op} {start now : Stored} {before after : List Slot} {plan : List (List ℕ)} → is_formed list ≡ true → fits (memory_of start) list ≡ true → is_legal list plan ≡ true → slots_of before ≡ blank_slots list
    → Going list start now before after plan [] → Ended list start now after plan
going_ends {list} {start} {now} {before} {after} {plan} formed fit legal blank g =
    let l : Leaves list (memory_of start) (memory now after) = leaves_list list plan (memory start before) (memory_of start) (memory now after) formed fit legal refl blank refl g.whole in
    let l0 = g.loads in
    let s0 = g.stores in
    let m0 = g.made in
    let b : total (buffers_for list) plan ≡ buffers list plan = buffers_made list plan formed legal in
    record { bases = l.bases; slots = l.slots; loads = omega arith; stores = omega arith; made = omega arith }

-- ---- the blocks as a vector has them

abbrev pub numbers_of : List (Vec ℕ Global) → List (List ℕ)
numbers_of blocks = map (λ b. b.items) blocks

pub going_at : {list : List Op} {start now : Stored} {before after : List Slot} {all : List (List ℕ)} (blocks : List (Vec ℕ Global)) (i : ℕ) (block : Vec ℕ Global) (numbers : List ℕ) → i < length blocks → block ≡ get_or blocks i block
    → numbers ≡ block.items → Going list start now before after all (numbers_of (drop i blocks)) → Going list start now before after all (numbers ∷ numbers_of (drop (i + 1) blocks))
going_at {list} {start} {now} {before} {after} {all} blocks i block numbers l is e g =
    subst (Going list start now before after all)
    (ap numbers_of (drop_more blocks i block l) ∙ ap (λ (b : Vec ℕ Global). b.items ∷ numbers_of (drop (i + 1) blocks)) (sym is) ∙ ap (λ ns. ns ∷ numbers_of (drop (i + 1) blocks)) (sym e)) g

pub all_ran : {list : List Op} {start now : Stored} {before after : List Slot} (blocks : List (Vec ℕ Global)) (i : ℕ) → is_formed list ≡ true → fits (memory_of start) list ≡ true → is_legal list (numbers_of blocks) ≡ true
    → slots_of before ≡ blank_slots list → length blocks ≤ i → Going list start now before after (numbers_of blocks) (numbers_of (drop i blocks)) → Ended list start now after (numbers_of blocks)
all_ran {list} {start} {now} {before} {after} blocks i formed fit legal blank l g =
    going_ends formed fit legal blank (subst (Going list start now before after (numbers_of blocks)) (ap numbers_of (drop_all i blocks l)) g)
