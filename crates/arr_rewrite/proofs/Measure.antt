-- Each application lowers the potential.
use Rattle.std.proofs.Common.{◌≡◌, ℕ, ◌+◌, ◌*◌, ◌<◌, ◌≤◌, suc, zero, ℤ, List, [], ◌∷◌, ◌++◌, Bool, true, false, cond, not, refl, ap, ap₂, sym, subst, ◌∙◌, arith, length}
use Rattle.std.proofs.Math.Nat.{mul-le-mul_left}
use Rattle.std.proofs.lemmas.Bool.{false≢true}
use Rattle.std.specs.Prelude.{◌==◌}
use Rattle.std.specs.List.{AllByRecursion, filter}
use Rattle.arr_view.specs.Strided.{Strided}
use Rattle.arr_ops.specs.Ops.{inputs, makes_base}
use Rattle.arr_rewrite.specs.Rules.{constant_op, copy_op, is_identity}
use Rattle.arr_rewrite.specs.NormalForm.{bump, maker_place, operand_worth, code_worth, op_worth, potential}
use Rattle.arr_ops.specs.Costs.{total}
use Rattle.arr_rewrite.specs.NextRewrite.{frees_base, unfreed}
use Rattle.arr_num.specs.declared.code.Code.{Code}
use Rattle.arr_num.specs.declared.code.Code.TheVariants.{Identity, Power, Subtract}
use Rattle.arr_ops.specs.declared.op.Op.{Op}
use Rattle.arr_rewrite.proofs.Parts.{all_true, not_is}
use Rattle.arr_ops.proofs.Pairs.{All_weaker}

-- ---- the place of a creator

maker_same : (b : ℕ) (op next : Op) → makes_base op b ≡ makes_base next b → (front back : List Op) → maker_place (front ++ op ∷ back) b ≡ maker_place (front ++ next ∷ back) b
maker_same b op next e [] back = ap (λ k. cond k 1 (bump (maker_place back b))) e
maker_same b op next e (f ∷ front) back = ap (λ k. cond (makes_base f b) 1 (bump k)) (maker_same b op next e front back)

bump_more : (k n : ℕ) → k ≤ n → bump k ≤ suc n
bump_more zero n h = omega arith
bump_more (suc k) n h = omega arith

bump_both : (j k : ℕ) → j ≤ k → bump j ≤ bump k
bump_both zero k h = omega arith
bump_both (suc j) zero h = absurd (omega arith)
bump_both (suc j) (suc k) h = omega arith

below_bump : (k : ℕ) → k ≤ bump k
below_bump zero = omega arith
below_bump (suc k) = omega arith

maker_none : (b : ℕ) (fs : List Op) → AllByRecursion (λ f. makes_base f b ≡ false) fs → maker_place fs b ≡ 0
maker_none b [] h = refl
maker_none b (f ∷ fs) h = ap₂ (λ t k. cond t 1 (bump k)) h.0 (maker_none b fs h.1)

pub maker_at : (b : ℕ) (w : Op) (pre rest : List Op) → AllByRecursion (λ f. makes_base f b ≡ false) pre → makes_base w b ≡ true → maker_place (pre ++ w ∷ rest) b ≡ suc (length pre)
maker_at b w [] rest h e = ap (λ t. cond t 1 (bump (maker_place rest b))) e
maker_at b w (f ∷ pre) rest h e = ap₂ (λ t k. cond t 1 (bump k)) h.0 (maker_at b w pre rest h.1 e)

pub maker_early : (b : ℕ) (pre rest : List Op) → AllByRecursion (λ f. makes_base f b ≡ false) rest → maker_place (pre ++ rest) b ≤ length pre
maker_early b [] rest h = let e : maker_place rest b ≡ 0 = maker_none b rest h in omega arith
maker_early b (f ∷ pre) rest h =
    let k : maker_place (pre ++ rest) b ≤ length pre = maker_early b pre rest h in
    elim (makes_base f b) as (λ t. cond t 1 (bump (maker_place (pre ++ rest) b)) ≤ suc (length pre)) [
      | true ↦ omega arith
      | false ↦ bump_more (maker_place (pre ++ rest) b) (length pre) k
    ]

-- without an operation that doesn't make b
maker_removed : (b : ℕ) (op : Op) → makes_base op b ≡ false → (front back : List Op) → maker_place (front ++ back) b ≤ maker_place (front ++ op ∷ back) b
maker_removed b op e [] back =
    let a : maker_place (op ∷ back) b ≡ bump (maker_place back b) = ap (λ t. cond t 1 (bump (maker_place back b))) e in
    let c : maker_place back b ≤ bump (maker_place back b) = below_bump (maker_place back b) in
    omega arith
maker_removed b op e (f ∷ front) back =
    elim (makes_base f b) as (λ t. cond t 1 (bump (maker_place (front ++ back) b)) ≤ cond t 1 (bump (maker_place (front ++ op ∷ back) b))) [
      | true ↦ omega arith
      | false ↦ bump_both (maker_place (front ++ back) b) (maker_place (front ++ op ∷ back) b) (maker_removed b op e front back)
    ]

-- ---- sums

pub total-append : {X : Type 0} (w : X → ℕ) (xs ys : List X) → total w (xs ++ ys) ≡ total w xs + total w ys
total-append w [] ys = omega arith
total-append w (x ∷ xs) ys = ap (λ k. w x + k) (total-append w xs ys) ∙ (let e : w x + (total w xs + total w ys) ≡ w x + total w xs + total w ys = omega arith in e)

total_swapped : {X : Type 0} (w : X → ℕ) (xs ys : List X) (x y : X) → w y < w x → total w (xs ++ y ∷ ys) < total w (xs ++ x ∷ ys)
total_swapped w xs ys x y h =
    let a : total w (xs ++ y ∷ ys) ≡ total w xs + (w y + total w ys) = total-append w xs (y ∷ ys) in
    let b : total w (xs ++ x ∷ ys) ≡ total w xs + (w x + total w ys) = total-append w xs (x ∷ ys) in
    omega arith

pub total_less : {X : Type 0} (v w : X → ℕ) (xs : List X) → AllByRecursion (λ x. v x ≤ w x) xs → total v xs ≤ total w xs
total_less v w [] h = omega arith
total_less v w (x ∷ xs) h = let a : v x ≤ w x = h.0 in let b : total v xs ≤ total w xs = total_less v w xs h.1 in omega arith

-- ---- an operation is replaced

pub replaced_falls : (front back : List Op) (op next : Op) → ((b : ℕ) → makes_base op b ≡ makes_base next b)
    → op_worth (maker_place (front ++ op ∷ back)) next < op_worth (maker_place (front ++ op ∷ back)) op → potential (front ++ next ∷ back) < potential (front ++ op ∷ back)
replaced_falls front back op next same h =
    let places : maker_place (front ++ op ∷ back) ≡ maker_place (front ++ next ∷ back) = λ i. λ b. maker_same b op next (same b) front back i in
    let a : total (op_worth (maker_place (front ++ op ∷ back))) (front ++ next ∷ back) < potential (front ++ op ∷ back) =
    total_swapped (op_worth (maker_place (front ++ op ∷ back))) front back op next h in
    subst (λ (p : ℕ → ℕ). total (op_worth p) (front ++ next ∷ back) < potential (front ++ op ∷ back)) places a

worth_one : (code : Code) → 1 ≤ operand_worth code
worth_one Power = omega arith
worth_one _ = omega arith

worth_two : (code : Code) → is_identity code ≡ false → 2 ≤ code_worth code
worth_two Identity e = absurd (false≢true (sym e))
worth_two Power e = omega arith
worth_two Subtract e = omega arith
worth_two _ e = omega arith

pub worth_of : (code : Code) (k : ℕ) → k ≤ operand_worth code * k
worth_of code k =
    let a : 1 ≤ operand_worth code = worth_one code in
    let b : k * 1 ≤ k * operand_worth code = mul-le-mul_left k a in
    omega arith

worth_less : (code : Code) (j k : ℕ) → j < k → operand_worth code * j < operand_worth code * k
worth_less Power j k h = omega arith
worth_less code j k h = omega arith

-- of two codes, a copy of one of its operands
pub copy_falls : (places : ℕ → ℕ) (op : Op) (x : Strided) → is_identity op.code ≡ false → total (λ (v : Strided). 1 + places v.base) (inputs op) ≡ 1 + places x.base
    → op_worth places (copy_op op x) < op_worth places op
copy_falls places op x code e =
    let a : 2 ≤ code_worth op.code = worth_two op.code code in
    let b : total (λ (v : Strided). 1 + places v.base) (inputs op) ≤ operand_worth op.code * total (λ (v : Strided). 1 + places v.base) (inputs op) = worth_of op.code _ in
    omega arith

-- a constant in place of all operands of another code
pub constant_falls : (places : ℕ → ℕ) (op : Op) (z : ℤ) → is_identity op.code ≡ false → op_worth places (constant_op op z) < op_worth places op
constant_falls places op z code = let a : 2 ≤ code_worth op.code = worth_two op.code code in omega arith

-- the operands of the same code weigh less
pub operands_fall : (places : ℕ → ℕ) (op next : Op) → op.code ≡ next.code
    → total (λ (v : Strided). 1 + places v.base) (inputs next) < total (λ (v : Strided). 1 + places v.base) (inputs op) → op_worth places next < op_worth places op
operands_fall places op next code h =
    let a = worth_less op.code (total (λ (v : Strided). 1 + places v.base) (inputs next)) (total (λ (v : Strided). 1 + places v.base) (inputs op)) h in
    let b : op_worth places next ≡ code_worth op.code + operand_worth op.code * total (λ (v : Strided). 1 + places v.base) (inputs next) =
    ap (λ c. code_worth c + operand_worth c * total (λ (v : Strided). 1 + places v.base) (inputs next)) (sym code) in
    omega arith

-- ---- an operation goes

pub op_worth_less : (p q : ℕ → ℕ) (f : Op) → AllByRecursion (λ (v : Strided). p v.base ≤ q v.base) (inputs f) → op_worth p f ≤ op_worth q f
op_worth_less p q f h =
    let a : total (λ (v : Strided). 1 + p v.base) (inputs f) ≤ total (λ (v : Strided). 1 + q v.base) (inputs f) = total_less (λ (v : Strided). 1 + p v.base) (λ (v : Strided). 1 + q v.base) (inputs f) (more (inputs f) h) in
    let b = mul-le-mul_left (operand_worth f.code) a in
    omega arith
  where
    more : (vs : List Strided) → AllByRecursion (λ (v : Strided). p v.base ≤ q v.base) vs → AllByRecursion (λ (v : Strided). 1 + p v.base ≤ 1 + q v.base) vs
    more [] h = tt
    more (v ∷ vs) h = (let a : p v.base ≤ q v.base = h.0 in omega arith, more vs h.1)

pub some_worth : (code : Code) → 1 ≤ code_worth code
some_worth Identity = omega arith
some_worth Power = omega arith
some_worth Subtract = omega arith
some_worth _ = omega arith

-- an operation is taken away
pub removed_falls : (front back : List Op) (op : Op) → ((b : ℕ) → makes_base op b ≡ false) → potential (front ++ back) < potential (front ++ op ∷ back)
removed_falls front back op none =
    let p : ℕ → ℕ = maker_place (front ++ back) in
    let q : ℕ → ℕ = maker_place (front ++ op ∷ back) in
    let a : total (op_worth p) (front ++ back) ≤ total (op_worth q) (front ++ back) =
    total_less (op_worth p) (op_worth q) (front ++ back)
    (all_true (λ f. op_worth p f ≤ op_worth q f) (λ f. op_worth_less p q f (all_true (λ (v : Strided). p v.base ≤ q v.base) (λ v. maker_removed v.base op (none v.base) front back) (inputs f))) (front ++ back)) in
    let b : total (op_worth q) (front ++ back) ≡ total (op_worth q) front + total (op_worth q) back = total-append (op_worth q) front back in
    let c : total (op_worth q) (front ++ op ∷ back) ≡ total (op_worth q) front + (op_worth q op + total (op_worth q) back) = total-append (op_worth q) front (op ∷ back) in
    let d : 1 ≤ code_worth op.code = some_worth op.code in
    omega arith

-- an operation is taken away, with each that frees the base b
filtered_less : {X : Type 0} (v w : X → ℕ) (keep : X → Bool) (xs : List X) → AllByRecursion (λ x. keep x ≡ true → v x ≤ w x) xs → total v (filter keep xs) ≤ total w xs
filtered_less v w keep [] h = omega arith
filtered_less v w keep (x ∷ xs) h =
    let k : total v (filter keep xs) ≤ total w xs = filtered_less v w keep xs h.1 in
    elim (keep x) as (λ t. (t ≡ true → v x ≤ w x) → total v (cond t (x ∷ filter keep xs) (filter keep xs)) ≤ w x + total w xs) [
      | true ↦ λ g. let a : v x ≤ w x = g refl in omega arith
      | false ↦ λ g. omega arith
    ] h.0

maker_filtered : (c b : ℕ) (fs : List Op) → AllByRecursion (λ f. frees_base f b ≡ true → makes_base f c ≡ false) fs → maker_place (unfreed fs b) c ≤ maker_place fs c
maker_filtered c b [] h = omega arith
maker_filtered c b (f ∷ fs) h =
    let k : maker_place (unfreed fs b) c ≤ maker_place fs c = maker_filtered c b fs h.1 in
    elim (frees_base f b) as (λ t. (t ≡ true → makes_base f c ≡ false) → maker_place (cond (not t) (f ∷ unfreed fs b) (unfreed fs b)) c ≤ cond (makes_base f c) 1 (bump (maker_place fs c))) [
      | true ↦ λ g.
          let a : cond (makes_base f c) 1 (bump (maker_place fs c)) ≡ bump (maker_place fs c) = ap (λ t. cond t 1 (bump (maker_place fs c))) (g refl) in
          let d : maker_place fs c ≤ bump (maker_place fs c) = below_bump (maker_place fs c) in
          omega arith
      | false ↦ λ g. elim (makes_base f c) as (λ t. cond t 1 (bump (maker_place (unfreed fs b) c)) ≤ cond t 1 (bump (maker_place fs c))) [
        | true ↦ omega arith
        | false ↦ bump_both (maker_place (unfreed fs b) c) (maker_place fs c) k
      ]
    ] h.0

maker_after : (c : ℕ) (front xs ys : List Op) → maker_place xs c ≤ maker_place ys c → maker_place (front ++ xs) c ≤ maker_place (front ++ ys) c
maker_after c [] xs ys h = h
maker_after c (f ∷ front) xs ys h =
    elim (makes_base f c) as (λ t. cond t 1 (bump (maker_place (front ++ xs) c)) ≤ cond t 1 (bump (maker_place (front ++ ys) c))) [
      | true ↦ omega arith
      | false ↦ bump_both (maker_place (front ++ xs) c) (maker_place (front ++ ys) c) (maker_after c front xs ys h)
    ]

pub unused_falls : (b : ℕ) (front back : List Op) (op : Op) → ((c : ℕ) → (c == b) ≡ false → makes_base op c ≡ false)
    → AllByRecursion (λ f. AllByRecursion (λ (v : Strided). (v.base == b) ≡ false) (inputs f)) front
    → AllByRecursion (λ f. (frees_base f b ≡ true → (c : ℕ) → makes_base f c ≡ false) × (frees_base f b ≡ false → AllByRecursion (λ (v : Strided). (v.base == b) ≡ false) (inputs f))) back
    → potential (front ++ unfreed back b) < potential (front ++ op ∷ back)
unused_falls b front back op only before behind =
    let p : ℕ → ℕ = maker_place (front ++ unfreed back b) in
    let q : ℕ → ℕ = maker_place (front ++ op ∷ back) in
    let less : (v : Strided) → (v.base == b) ≡ false → p v.base ≤ q v.base = λ v e.
    let x : maker_place (front ++ unfreed back b) v.base ≤ maker_place (front ++ back) v.base =
    maker_after v.base front (unfreed back b) back (maker_filtered v.base b back (All_weaker (λ f. (frees_base f b ≡ true → (c : ℕ) → makes_base f c ≡ false) × (frees_base f b ≡ false → AllByRecursion (λ (v : Strided). (v.base == b) ≡ false) (inputs f)))
    (λ f. frees_base f b ≡ true → makes_base f v.base ≡ false) (λ f g t. g.0 t v.base) back behind)) in
    let y : maker_place (front ++ back) v.base ≤ maker_place (front ++ op ∷ back) v.base = maker_removed v.base op (only v.base e) front back in omega arith in
    let one : (f : Op) → AllByRecursion (λ (v : Strided). (v.base == b) ≡ false) (inputs f) → op_worth p f ≤ op_worth q f =
    λ f h. op_worth_less p q f (All_weaker (λ (v : Strided). (v.base == b) ≡ false) (λ (v : Strided). p v.base ≤ q v.base) less (inputs f) h) in
    let a1 : total (op_worth p) front ≤ total (op_worth q) front =
    total_less (op_worth p) (op_worth q) front (All_weaker (λ f. AllByRecursion (λ (v : Strided). (v.base == b) ≡ false) (inputs f)) (λ f. op_worth p f ≤ op_worth q f) one front before) in
    let a2 : total (op_worth p) (unfreed back b) ≤ total (op_worth q) back =
    filtered_less (op_worth p) (op_worth q) (λ f. not (frees_base f b)) back
    (All_weaker (λ f. (frees_base f b ≡ true → (c : ℕ) → makes_base f c ≡ false) × (frees_base f b ≡ false → AllByRecursion (λ (v : Strided). (v.base == b) ≡ false) (inputs f)))
    (λ f. not (frees_base f b) ≡ true → op_worth p f ≤ op_worth q f) (λ f g t. one f (g.1 (not_is (frees_base f b) t))) back behind) in
    let b1 : total (op_worth p) (front ++ unfreed back b) ≡ total (op_worth p) front + total (op_worth p) (unfreed back b) = total-append (op_worth p) front (unfreed back b) in
    let c : total (op_worth q) (front ++ op ∷ back) ≡ total (op_worth q) front + (op_worth q op + total (op_worth q) back) = total-append (op_worth q) front (op ∷ back) in
    let d : 1 ≤ code_worth op.code = some_worth op.code in
    omega arith
