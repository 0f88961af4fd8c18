-- What the only writer of a base left there is still there.
use Rattle.std.proofs.Common.{◌≡◌, ℕ, ◌+◌, ◌<◌, suc, zero, ℤ, pos, List, [], ◌∷◌, ◌++◌, true, cond, refl, ap, ap₂, sym, ◌∙◌, arith, Option, Some, None, map, length, get_or, replicate, append_assoc}
use Rattle.std.proofs.lemmas.Bool.{eq-eqb}
use Rattle.std.proofs.lemmas.List.{length_push, get_or-replicate, length-map}
use Rattle.std.specs.List.{AllByRecursion, range_with_len}
use Rattle.std.specs.Option.{option_to_list}
use Rattle.arr_view.specs.Strided.{Strided}
use Rattle.arr_view.specs.Views.{elements, has, positions}
use Rattle.arr_num.specs.Kinds.{kind}
use Rattle.arr_num.specs.Numbers.{in_type, value, wrap}
use Rattle.arr_ops.specs.Memory.{Memory, Cell, Keeps, Drops, Becomes, changed, change, output_change, slot_after, read, put, computed, step, eager, results, zip_with, lengths_of, out_lengths, or_zero, first_numbers, operand}
use Rattle.arr_rewrite.specs.Rules.{constant_op, code_op, with_first, with_second}
use Rattle.arr_ops.proofs.Spots.{is_scalar}
use Rattle.arr_rewrite.specs.NextRewrite.{beside, Beside}
use Rattle.arr_num.specs.declared.elem.Elem.{Elem}
use Rattle.arr_num.specs.declared.code.Code.{Code}
use Rattle.arr_num.specs.declared.code.Code.TheVariants.{Identity, Range}
use Rattle.arr_ops.specs.declared.op.Op.{Op}
use Rattle.arr_ops.specs.declared.op.Operand.{Operand}
use Rattle.arr_ops.specs.declared.op.Operand.TheVariants.{Array, Number}
use Rattle.arr_ops.proofs.Commute.{Spared, read_spared}
use Rattle.arr_num.proofs.Wrapping.{wrap_same, wrap_wrap}
use Rattle.arr_rewrite.proofs.Scalars.{value_identity}
use Rattle.arr_rewrite.proofs.Joins.{Joins}
use Rattle.arr_ops.proofs.Typed.{AllIn, CellFits, read_in}
use Rattle.arr_rewrite.proofs.Replace.{computed_scalar, walk_length, to_changed}
use Rattle.arr_rewrite.proofs.Agree.{Leaves, base_left}

-- ---- lists

get_at : (front ns : List ℤ) (n : ℤ) (k : ℕ) → length front ≡ k → get_or (front ++ n ∷ ns) k (pos 0) ≡ n
get_at [] ns n zero e = refl
get_at [] ns n (suc k) e = absurd (omega arith)
get_at (x ∷ front) ns n zero e = absurd (omega arith)
get_at (x ∷ front) ns n (suc k) e = get_at front ns n k (omega arith)

read_from : (front ns : List ℤ) (k : ℕ) → length front ≡ k → map (λ p. get_or (front ++ ns) p (pos 0)) (range_with_len k (length ns)) ≡ ns
read_from front [] k e = refl
read_from front (n ∷ ns) k e =
    let l : length (front ++ n ∷ []) ≡ k + 1 = length_push front n ∙ ap (λ j. j + 1) e in
    let a : get_or (front ++ n ∷ ns) k (pos 0) ≡ n = get_at front ns n k e in
    let b : map (λ p. get_or (front ++ n ∷ ns) p (pos 0)) (range_with_len (k + 1) (length ns)) ≡ ns =
    ap (λ xs. map (λ p. get_or xs p (pos 0)) (range_with_len (k + 1) (length ns))) (sym (append_assoc front (n ∷ []) ns)) ∙ read_from (front ++ n ∷ []) ns (k + 1) l in
    λ i. a i ∷ b i

pub read_whole : (c : Cell) → read (Some c) (range_with_len 0 (length c.numbers)) ≡ c.numbers
read_whole c = read_from [] c.numbers 0 refl

read_constant : (n : ℕ) (z : ℤ) (ps : List ℕ) → AllByRecursion (λ p. p < n) ps → map (λ p. get_or (replicate n z) p (pos 0)) ps ≡ replicate (length ps) z
read_constant n z [] h = refl
read_constant n z (p ∷ ps) h =
    let a : get_or (replicate n z) p (pos 0) ≡ z = get_or-replicate n p z (pos 0) h.0 in
    let b = read_constant n z ps h.1 in
    λ i. a i ∷ b i

pub zip_constant : (f : ℤ → ℤ → ℤ) (n : ℕ) (x y : ℤ) → zip_with f (replicate n x) (replicate n y) ≡ replicate n (f x y)
zip_constant f zero x y = refl
zip_constant f (suc n) x y = ap (λ zs. f x y ∷ zs) (zip_constant f n x y)

zip_identity : (t : Elem) (xs : List ℤ) (n : ℕ) → AllIn t xs → length xs ≡ n → zip_with (value Identity t) xs (replicate n (pos 0)) ≡ xs
zip_identity t [] n a e = refl
zip_identity t (x ∷ xs) zero a e = absurd (omega arith)
zip_identity t (x ∷ xs) (suc n) a e =
    let p : value Identity t x (pos 0) ≡ x = value_identity t x (pos 0) ∙ wrap_same t x a.0 in
    let q = zip_identity t xs n a.1 (omega arith) in
    λ i. p i ∷ q i

zip_join : (f : ℤ → ℤ → ℤ) → ((w d c : ℤ) → f (f w d) c ≡ f w (f d c)) → (d c : ℤ) (xs : List ℤ) (n : ℕ)
    → zip_with f (zip_with f xs (replicate n d)) (replicate n c) ≡ zip_with f xs (replicate n (f d c))
zip_join f j d c [] n = refl
zip_join f j d c (x ∷ xs) zero = refl
zip_join f j d c (x ∷ xs) (suc n) = let p = j x d c in let q = zip_join f j d c xs n in λ i. p i ∷ q i

zip_swap : (f : ℤ → ℤ → ℤ) → ((x y : ℤ) → f x y ≡ f y x) → (xs ys : List ℤ) → zip_with f xs ys ≡ zip_with f ys xs
zip_swap f s [] [] = refl
zip_swap f s [] (y ∷ ys) = refl
zip_swap f s (x ∷ xs) [] = refl
zip_swap f s (x ∷ xs) (y ∷ ys) = let p = s x y in let q = zip_swap f s xs ys in λ i. p i ∷ q i

-- ---- the only writer of a base

-- w makes the base of o, and what stands between leaves the base
pub record Wrote (w : Op) (o : Strided) (between : List Op) : Type 0 where
  pub out : w.out ≡ Some o
  pub makes : w.makes ≡ true
  pub frees : w.frees ≡ None
  pub left : AllByRecursion (Leaves o.base) between

after : Memory → Op → List Op → Memory
after k w between = eager (step k w) between

pub cell_after : (k : Memory) (w : Op) (o : Strided) (between : List Op) → Wrote w o between
    → (eager (step k w) between).bases o.base ≡ Some (record { elem = w.to; numbers = computed k w })
cell_after k w o between h =
    let c : Cell = record { elem = w.to; numbers = computed k w } in
    base_left o.base between (step k w) h.left
    ∙ ap (λ f. changed (cond (has (option_to_list f) o.base) Drops (output_change w.out w.makes w.to (computed k w) o.base)) (k.bases o.base)) h.frees
    ∙ ap₂ (λ u t. changed (output_change u t w.to (computed k w) o.base) (k.bases o.base)) h.out h.makes
    ∙ ap (λ t. changed (cond t (Becomes c) Keeps) (k.bases o.base)) (eq-eqb o.base o.base refl)

-- a view with the elements of the whole base shows what was written
pub written_shows : (k : Memory) (w : Op) (o x : Strided) (between : List Op) → Wrote w o between → x.base ≡ o.base → elements x ≡ range_with_len 0 (length (computed k w))
    → read ((eager (step k w) between).bases x.base) (elements x) ≡ computed k w
written_shows k w o x between h b e =
    ap₂ (λ p es. read ((eager (step k w) between).bases p) es) b e
    ∙ ap (λ c. read c (range_with_len 0 (length (computed k w)))) (cell_after k w o between h)
    ∙ read_whole (record { elem = w.to; numbers = computed k w })

pub view_left : (v : Strided) (fs : List Op) (m : Memory) → AllByRecursion (λ f. Spared f v) fs → read ((eager m fs).bases v.base) (elements v) ≡ read (m.bases v.base) (elements v)
view_left v [] m a = refl
view_left v (f ∷ fs) m a = view_left v fs (step m f) a.1 ∙ read_spared f (computed m f) v (m.bases v.base) a.0

-- ---- a base filled with a constant

pub filled_shows : (k : Memory) (w : Op) (o x : Strided) (z : ℤ) (n : ℕ) (between : List Op) → Wrote w o between → w.code ≡ Identity → w.first ≡ Some (Number z) → w.second ≡ None → in_type w.to z ≡ true
    → x.base ≡ o.base → AllByRecursion (λ p. p < positions o.lengths) (elements x) → length (elements x) ≡ n
    → read ((eager (step k w) between).bases x.base) (elements x) ≡ replicate n z
filled_shows k w o x z n between h code first second fits b inside size =
    let N : ℕ = positions o.lengths in
    let lengths : walk_length w ≡ N = ap (λ u. positions (out_lengths u)) h.out in
    let got : computed k w ≡ replicate N z =
    computed_scalar k w (ap (λ c. is_scalar (kind c)) code)
    ∙ ap (λ c. zip_with (value c w.to) (operand k (walk_length w) w.first) (operand k (walk_length w) w.second)) code
    ∙ ap₂ (λ p q. zip_with (value Identity w.to) (operand k (walk_length w) p) (operand k (walk_length w) q)) first second
    ∙ zip_constant (value Identity w.to) (walk_length w) z (pos 0)
    ∙ ap₂ (λ j y. replicate j y) lengths (value_identity w.to z (pos 0) ∙ wrap_same w.to z fits) in
    ap (λ p. read ((eager (step k w) between).bases p) (elements x)) b
    ∙ ap (λ c. read c (elements x)) (cell_after k w o between h)
    ∙ ap (λ ns. map (λ p. get_or ns p (pos 0)) (elements x)) got
    ∙ read_constant (positions o.lengths) z (elements x) inside
    ∙ ap (λ j. replicate j z) size

-- the operand may be the constant
pub first_constant : (m : Memory) (op : Op) (x : Strided) (z : ℤ) → is_scalar (kind op.code) ≡ true → op.slot ≡ None → op.first ≡ Some (Array x)
    → read (m.bases x.base) (elements x) ≡ replicate (walk_length op) z → step m op ≡ step m (with_first op (Number z))
first_constant m op x z scalar none first e =
    to_changed m op op.code op.from (Some (Number z)) op.second none
    (computed_scalar m op scalar
    ∙ ap (λ xs. zip_with (value op.code op.to) xs (operand m (walk_length op) op.second)) (ap (operand m (walk_length op)) first ∙ e)
    ∙ sym (computed_scalar m (with_first op (Number z)) scalar))

pub second_constant : (m : Memory) (op : Op) (y : Strided) (z : ℤ) → is_scalar (kind op.code) ≡ true → op.slot ≡ None → op.second ≡ Some (Array y)
    → read (m.bases y.base) (elements y) ≡ replicate (walk_length op) z → step m op ≡ step m (with_second op (Number z))
second_constant m op y z scalar none second e =
    to_changed m op op.code op.from op.first (Some (Number z)) none
    (computed_scalar m op scalar
    ∙ ap (λ ys. zip_with (value op.code op.to) (operand m (walk_length op) op.first) ys) (ap (operand m (walk_length op)) second ∙ e)
    ∙ sym (computed_scalar m (with_second op (Number z)) scalar))

pub identity_constant : (m : Memory) (op : Op) (x : Strided) (z : ℤ) → op.code ≡ Identity → op.slot ≡ None → op.first ≡ Some (Array x) → op.second ≡ None
    → read (m.bases x.base) (elements x) ≡ replicate (walk_length op) z → step m op ≡ step m (constant_op op (wrap op.to z))
identity_constant m op x z code none first second e =
    let n : ℕ = walk_length op in
    to_changed m op Identity op.to (Some (Number (wrap op.to z))) None none
    (computed_scalar m op (ap (λ c. is_scalar (kind c)) code)
    ∙ ap (λ c. zip_with (value c op.to) (operand m n op.first) (operand m n op.second)) code
    ∙ ap₂ (λ p q. zip_with (value Identity op.to) (operand m n p) (operand m n q)) first second
    ∙ ap (λ xs. zip_with (value Identity op.to) xs (replicate n (pos 0))) e
    ∙ zip_constant (value Identity op.to) n z (pos 0)
    ∙ ap (replicate n) (value_identity op.to z (pos 0) ∙ sym (value_identity op.to (wrap op.to z) (pos 0) ∙ wrap_wrap op.to z))
    ∙ sym (zip_constant (value Identity op.to) n (wrap op.to z) (pos 0))
    ∙ sym (computed_scalar m (constant_op op (wrap op.to z)) refl))

-- ---- a base that copies a view

pub length_read : (c : Option Cell) (es : List ℕ) → length (read c es) ≡ length es
length_read None es = length-map es (λ p. pos 0)
length_read (Some c) es = length-map es (λ p. get_or c.numbers p (pos 0))

pub copy_shows : (k : Memory) (w : Op) (o x v : Strided) (between : List Op) → Wrote w o between → w.code ≡ Identity → w.first ≡ Some (Array v) → w.second ≡ None
    → CellFits w.to (k.bases v.base) → length (elements v) ≡ positions o.lengths
    → x.base ≡ o.base → elements x ≡ range_with_len 0 (positions o.lengths) → Spared w v → AllByRecursion (λ f. Spared f v) between
    → read ((eager (step k w) between).bases x.base) (elements x) ≡ read ((eager (step k w) between).bases v.base) (elements v)
copy_shows k w o x v between h code first second fits size b whole spared rest =
    let lengths : walk_length w ≡ positions o.lengths = ap (λ u. positions (out_lengths u)) h.out in
    let vs : List ℤ = read (k.bases v.base) (elements v) in
    let long : length (read (k.bases v.base) (elements v)) ≡ positions o.lengths = length_read (k.bases v.base) (elements v) ∙ size in
    let got : computed k w ≡ vs =
    computed_scalar k w (ap (λ c. is_scalar (kind c)) code)
    ∙ ap (λ c. zip_with (value c w.to) (operand k (walk_length w) w.first) (operand k (walk_length w) w.second)) code
    ∙ ap₂ (λ p q. zip_with (value Identity w.to) (operand k (walk_length w) p) (operand k (walk_length w) q)) first second
    ∙ zip_identity w.to vs (walk_length w) (read_in w.to (k.bases v.base) (elements v) fits) (long ∙ sym lengths) in
    written_shows k w o x between h b (whole ∙ ap (range_with_len 0) (sym (ap length got ∙ long)))
    ∙ got
    ∙ sym (view_left v between (step k w) rest ∙ read_spared w (computed k w) v (k.bases v.base) spared)

first_numbers_same : (code : Code) (m : Memory) (n : ℕ) (x v : Strided) → read (m.bases x.base) (elements x) ≡ read (m.bases v.base) (elements v)
    → first_numbers code m n (Some (Array x)) ≡ first_numbers code m n (Some (Array v))
first_numbers_same Range m n x v e = refl
first_numbers_same _ m n x v e = e

-- of any operation, SYNC and reductions too
pub first_copied : (m : Memory) (op : Op) (x v : Strided) → op.first ≡ Some (Array x) → x.lengths ≡ v.lengths → read (m.bases x.base) (elements x) ≡ read (m.bases v.base) (elements v)
    → step m op ≡ step m (with_first op (Array v))
first_copied m op x v first shape e =
    let n : ℕ = walk_length op in
    let ys : List ℤ = operand m n op.second in
    let ls : lengths_of op.first ≡ v.lengths = ap lengths_of first ∙ shape in
    let got : computed m op ≡ computed m (with_first op (Array v)) =
    ap₂ (λ l xs. results op.code op.to l (or_zero op.axis) xs ys) ls (ap (first_numbers op.code m n) first ∙ first_numbers_same op.code m n x v e) in
    ap₂ (λ l xs. lengthened l xs) ls got
  where
    lengthened : List ℕ → List ℤ → Memory
    lengthened l xs = record {
      bases = λ b. changed (change op xs b) (m.bases b);
      slots = λ s. slot_after op.slot (record { elem = op.from; lengths = l; numbers = xs }) s (m.slots s);
    }

pub second_copied : (m : Memory) (op : Op) (y v : Strided) → op.second ≡ Some (Array y) → read (m.bases y.base) (elements y) ≡ read (m.bases v.base) (elements v)
    → step m op ≡ step m (with_second op (Array v))
second_copied m op y v second e =
    let n : ℕ = walk_length op in
    ap (put m op) (ap (results op.code op.to (lengths_of op.first) (or_zero op.axis) (first_numbers op.code m n op.first)) (ap (operand m n) second ∙ e))

-- ---- two constants of one code

beside_shows : (m : Memory) (n : ℕ) (f : ℤ → ℤ → ℤ) (swap : (x y : ℤ) → f x y ≡ f y x) (first second : Option Operand) (y : Beside) → beside first second ≡ Some y
    → zip_with f (operand m n first) (operand m n second) ≡ zip_with f (read (m.bases y.view.base) (elements y.view)) (replicate n y.number)
beside_shows m n f swap (Some (Array x)) (Some (Number c)) y e = ap (λ (b : Option Beside). shown b) e
  where
    shown : Option Beside → List ℤ
    shown None = []
    shown (Some b) = zip_with f (read (m.bases b.view.base) (elements b.view)) (replicate n b.number)
beside_shows m n f swap (Some (Number c)) (Some (Array x)) y e = zip_swap f swap (replicate n c) (read (m.bases x.base) (elements x)) ∙ ap (λ (b : Option Beside). shown b) e
  where
    shown : Option Beside → List ℤ
    shown None = []
    shown (Some b) = zip_with f (read (m.bases b.view.base) (elements b.view)) (replicate n b.number)
beside_shows m n f swap None second y e = absurd (cc)
beside_shows m n f swap (Some (Array x)) None y e = absurd (cc)
beside_shows m n f swap (Some (Array x)) (Some (Array z)) y e = absurd (cc)
beside_shows m n f swap (Some (Number x)) None y e = absurd (cc)
beside_shows m n f swap (Some (Number x)) (Some (Number z)) y e = absurd (cc)

pub constants_shown : (k : Memory) (w op : Op) (o : Strided) (x v : Beside) (between : List Op) → Wrote w o between → w.code ≡ op.code → w.to ≡ op.to
    → is_scalar (kind op.code) ≡ true → Joins op.code op.to → op.slot ≡ None
    → beside op.first op.second ≡ Some x → beside w.first w.second ≡ Some v
    → x.view.base ≡ o.base → elements x.view ≡ range_with_len 0 (positions o.lengths) → length (elements v.view) ≡ positions o.lengths → walk_length op ≡ positions o.lengths
    → Spared w v.view → AllByRecursion (λ f. Spared f v.view) between
    → step (eager (step k w) between) op ≡ step (eager (step k w) between) (code_op op op.code v.view (Number (value op.code op.to v.number x.number)))
constants_shown k w op o x v between h code to scalar joins none first source b whole size walk spared rest =
    let N : ℕ = positions o.lengths in
    let n : Memory = eager (step k w) between in
    let f : ℤ → ℤ → ℤ = value op.code op.to in
    let vs : List ℤ = read (k.bases v.view.base) (elements v.view) in
    let next : Op = code_op op op.code v.view (Number (value op.code op.to v.number x.number)) in
    let lengths : walk_length w ≡ N = ap (λ u. positions (out_lengths u)) h.out in
    let got : computed k w ≡ zip_with f vs (replicate N v.number) =
    computed_scalar k w (ap (λ c. is_scalar (kind c)) code ∙ scalar)
    ∙ ap₂ (λ c t. zip_with (value c t) (operand k (walk_length w) w.first) (operand k (walk_length w) w.second)) code to
    ∙ beside_shows k (walk_length w) f joins.swap w.first w.second v source
    ∙ ap (λ j. zip_with f vs (replicate j v.number)) lengths in
    let long : length (computed k w) ≡ N = ap length got ∙ length_zip f vs N v.number (length_read (k.bases v.view.base) (elements v.view) ∙ size) in
    let shows : read (n.bases x.view.base) (elements x.view) ≡ zip_with f vs (replicate N v.number) =
    written_shows k w o x.view between h b (whole ∙ ap (range_with_len 0) (sym long)) ∙ got in
    let still : read (n.bases v.view.base) (elements v.view) ≡ vs = view_left v.view between (step k w) rest ∙ read_spared w (computed k w) v.view (k.bases v.view.base) spared in
    to_changed n op op.code op.from (Some (Array v.view)) (Some (Number (value op.code op.to v.number x.number))) none
    (computed_scalar n op scalar
    ∙ beside_shows n (walk_length op) f joins.swap op.first op.second x first
    ∙ ap₂ (λ j xs. zip_with f xs (replicate j x.number)) walk shows
    ∙ zip_join f joins.join v.number x.number vs N
    ∙ sym (computed_scalar n next scalar ∙ ap₂ (λ j xs. zip_with f xs (replicate j (f v.number x.number))) walk still))
  where
    length_read : (c : Option Cell) (es : List ℕ) → length (read c es) ≡ length es
    length_read None es = length-map es (λ p. pos 0)
    length_read (Some c) es = length-map es (λ p. get_or c.numbers p (pos 0))

    length_zip : (f : ℤ → ℤ → ℤ) (xs : List ℤ) (n : ℕ) (d : ℤ) → length xs ≡ n → length (zip_with f xs (replicate n d)) ≡ n
    length_zip f [] zero d e = refl
    length_zip f [] (suc n) d e = absurd (omega arith)
    length_zip f (x ∷ xs) zero d e = absurd (omega arith)
    length_zip f (x ∷ xs) (suc n) d e = ap suc (length_zip f xs n d (omega arith))
