-- Blocks run one after another leave what the list leaves, where an operation passes only what it commutes with.
use Rattle.std.proofs.Common.{◌≡◌, ℕ, ◌<◌, suc, List, [], ◌∷◌, Bool, true, false, cond, not, refl, ap, sym, ◌∙◌, arith}
use Rattle.std.proofs.lemmas.Bool.{false≢true}
use Rattle.std.specs.List.{filter, AllByRecursion}
use Rattle.arr_view.specs.Views.{has}
use Rattle.arr_ops.specs.Memory.{Memory, step, eager}
use Rattle.arr_ops.specs.Plans.{holders, place, ops_of, eager_blocks}
use Rattle.arr_ops.specs.declared.op.Op.{Op}
use Rattle.arr_ops.proofs.Pairs.{Pairs, All_weaker, All_filter, Pairs_weaker, Pairs_filter}
use Rattle.arr_ops.proofs.Reorder.{run, Commutes, MayPass, split}

abbrev pub numbered_step : Memory → ℕ × Op → Memory
numbered_step m x = step m x.1

abbrev pub inside : List ℕ → ℕ × Op → Bool
inside block x = has block x.0

abbrev pub Once : List (List ℕ) → ℕ × Op → Type 0
Once plan x = holders plan x.0 ≡ 1

-- where the later of two runs first, they commute
abbrev pub Ordered : List (List ℕ) → ℕ × Op → ℕ × Op → Type 0
Ordered plan x y = place plan y.0 < place plan x.0 → Commutes numbered_step x y

eager-ops_of : (block : List ℕ) (m : Memory) (xs : List (ℕ × Op)) → eager m (ops_of xs block) ≡ run numbered_step m (filter (inside block) xs)
eager-ops_of block m [] = refl
eager-ops_of block m (x ∷ xs) =
    elim (has block x.0) as (λ b. eager m (cond b (x.1 ∷ ops_of xs block) (ops_of xs block)) ≡ run numbered_step m (cond b (x ∷ filter (inside block) xs) (filter (inside block) xs))) [
      | true ↦ eager-ops_of block (step m x.1) xs
      | false ↦ eager-ops_of block m xs
    ]

-- what is in the block is in none of these blocks
abbrev Gone : List ℕ → List (List ℕ) → ℕ × Op → Type 0
Gone block blocks x = has block x.0 ≡ true → holders blocks x.0 ≡ 0

ops_of_rest : (block other : List ℕ) (xs : List (ℕ × Op)) → AllByRecursion (λ (x : ℕ × Op). has block x.0 ≡ true → has other x.0 ≡ false) xs
    → ops_of xs other ≡ ops_of (filter (λ x. not (inside block x)) xs) other
ops_of_rest block other [] h = refl
ops_of_rest block other (x ∷ xs) h =
    elim (has block x.0) as (λ b. (b ≡ true → has other x.0 ≡ false) → ops_of (x ∷ xs) other
    ≡ ops_of (cond (not b) (x ∷ filter (λ x. not (inside block x)) xs) (filter (λ x. not (inside block x)) xs)) other) [
      | true ↦ λ k. ap (λ b. cond b (x.1 ∷ ops_of xs other) (ops_of xs other)) (k refl) ∙ ops_of_rest block other xs h.1
      | false ↦ λ k. ap (λ l. cond (has other x.0) (x.1 ∷ l) l) (ops_of_rest block other xs h.1)
    ] h.0

-- in none of these blocks, so not in the first, nor in the others
first_gone : (b : Bool) (n : ℕ) → cond b (suc n) n ≡ 0 → b ≡ false
first_gone true n e = absurd (omega arith)
first_gone false n e = refl

others_gone : (b : Bool) (n : ℕ) → cond b (suc n) n ≡ 0 → n ≡ 0
others_gone true n e = omega arith
others_gone false n e = e

-- a block that ran is of no account to those after it
blocks_rest : (block : List ℕ) (blocks : List (List ℕ)) (m : Memory) (xs : List (ℕ × Op)) → AllByRecursion (Gone block blocks) xs
    → eager_blocks m xs blocks ≡ eager_blocks m (filter (λ x. not (inside block x)) xs) blocks
blocks_rest block [] m xs h = refl
blocks_rest block (other ∷ blocks) m xs h =
    blocks_rest block blocks (eager m (ops_of xs other)) xs
    (All_weaker (Gone block (other ∷ blocks)) (Gone block blocks) (λ x k e. others_gone (has other x.0) (holders blocks x.0) (k e)) xs h)
    ∙ ap (λ ops. eager_blocks (eager m ops) (filter (λ x. not (inside block x)) xs) blocks)
    (ops_of_rest block other xs
    (All_weaker (Gone block (other ∷ blocks)) (λ x. has block x.0 ≡ true → has other x.0 ≡ false) (λ x k e. first_gone (has other x.0) (holders blocks x.0) (k e)) xs h))

gone_if_here : (b : Bool) (n : ℕ) → cond b (suc n) n ≡ 1 → b ≡ true → n ≡ 0
gone_if_here true n h e = omega arith
gone_if_here false n h e = absurd (false≢true e)

once_later : (b : Bool) (n : ℕ) → cond b (suc n) n ≡ 1 → not b ≡ true → n ≡ 1
once_later true n h e = absurd (false≢true e)
once_later false n h e = h

-- the first block before the rest
here_first : (a b : Bool) (i j : ℕ) → a ≡ false → b ≡ true → cond b 0 (suc j) < cond a 0 (suc i)
here_first true b i j e f = absurd (false≢true (sym e))
here_first false false i j e f = absurd (false≢true f)
here_first false true i j e f = omega arith

both_later : (a b : Bool) (i j : ℕ) → not a ≡ true → not b ≡ true → j < i → cond b 0 (suc j) < cond a 0 (suc i)
both_later true b i j e f h = absurd (false≢true e)
both_later false true i j e f h = absurd (false≢true f)
both_later false false i j e f h = omega arith

pub blocks_run : (plan : List (List ℕ)) (m : Memory) (xs : List (ℕ × Op)) → AllByRecursion (Once plan) xs → Pairs (Ordered plan) xs
    → eager_blocks m xs plan ≡ run numbered_step m xs
blocks_run [] m [] once ordered = refl
blocks_run [] m (x ∷ xs) once ordered = absurd (omega (arith, once.0))
blocks_run (block ∷ plan) m xs once ordered =
    let p : ℕ × Op → Bool = inside block in
    let q : ℕ × Op → Bool = λ x. not (inside block x) in
    blocks_rest block plan (eager m (ops_of xs block)) xs
    (All_weaker (Once (block ∷ plan)) (Gone block plan) (λ x k e. gone_if_here (has block x.0) (holders plan x.0) k e) xs once)
    ∙ ap (λ k. eager_blocks k (filter q xs) plan) (eager-ops_of block m xs)
    ∙ blocks_run plan (run numbered_step m (filter p xs)) (filter q xs)
    (All_filter (Once plan) q xs (All_weaker (Once (block ∷ plan)) (λ x. q x ≡ true → Once plan x) (λ x k e. once_later (has block x.0) (holders plan x.0) k e) xs once))
    (Pairs_filter (Ordered plan) q xs (Pairs_weaker (Ordered (block ∷ plan)) (λ x y. q x ≡ true → q y ≡ true → Ordered plan x y)
    (λ x y k e f h. k (both_later (has block x.0) (has block y.0) (place plan x.0) (place plan y.0) e f h)) xs ordered))
    ∙ sym (split numbered_step p m xs (Pairs_weaker (Ordered (block ∷ plan)) (MayPass numbered_step p)
    (λ x y k e f. k (here_first (has block x.0) (has block y.0) (place plan x.0) (place plan y.0) e f)) xs ordered))
