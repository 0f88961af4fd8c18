-- Texts in which no line begins with `!`: a reader of proofs passes over them.
use Rattle.std.proofs.Common.{◌≡◌, ◌≢◌, ◌⊎◌, inl, inr, ℕ, ℤ, pos, negsuc, zero, suc, ◌+◌, ◌-◌, ◌<◌, ◌≤◌, ◌/◌, ◌%◌, List, [], ◌∷◌, ◌++◌, length, sum, take, drop, Bool, true, false, cond, not, ◌&&◌, ◌==◌, refl, ap, sym, ◌∙◌, arith, Option, Some, None, append-nil, append_assoc, codes, decimal}
use Rattle.std.specs.Prelude.{nat_lt, if◌then◌else◌}
use Rattle.std.specs.Fmt.{digits, digits_onto, digit_glyph, signed_decimal}
use Rattle.std.specs.List.{flat_map, list_all}
use Rattle.std.proofs.lemmas.Bool.{and_parts, and_from, ne_eqb, not-true}
use Rattle.arr_num.specs.declared.code.Code.{Code}
use Rattle.arr_num.specs.declared.code.Code.TheVariants.{Add, Subtract, Multiply, Divide, Mod, Power, Maximum, Minimum, BitwiseAnd, BitwiseOr, BitwiseXor, LeftShift, RightShift, Equal, NotEqual, Less, LessEqual, Greater, GreaterEqual, Absolute, Invert, Identity, Range, AddReduce, MultiplyReduce, MinimumReduce, MaximumReduce, AddAccumulate, MultiplyAccumulate, Free, Sync}
use Rattle.arr_num.specs.declared.elem.Elem.{Elem}
use Rattle.arr_num.specs.declared.elem.Elem.TheVariants.{U8, I32, I64, U64}
use Rattle.arr_view.specs.Strided.{Strided}
use Rattle.arr_ops.specs.Memory.{Slot}
use Rattle.arr_ops.specs.declared.op.Op.{Op}
use Rattle.arr_ops.specs.declared.op.Operand.{Operand}
use Rattle.arr_ops.specs.declared.op.Operand.TheVariants.{Array, Number}
use Rattle.arr_cert.specs.Reading.{is_feed, is_marked, lines, marked, with_byte}
use Rattle.arr_cert.proofs.Joined.{free_join, is_free}
use Rattle.arr_cert.proofs.Passing.{is_within}
use Rattle.arr_listing.specs.Texts.{array_text, code_name, dimension_text, dimensions_text, input_text, labelled_text, more_dimensions_text, op_text, operand_text, output_text, row_count, row_width, rows, spaced, type_name, view_text}
use Rattle.arr_listing.specs.Plans.{block_text, blocks_text, bound_text, head_text, ops_text, plan_text}

-- ---- no `!`

-- no `!` stands in the text
pub record Calm (text : List ℕ) : Type 0 where
  pub none : is_free 33 text ≡ true

literal : (text : List ℕ) → is_free 33 text ≡ true → Calm text
literal text h = record { none = h }

infixl 10 ◌▸◌
-- first the one text, then the other
◌▸◌ : {xs ys : List ℕ} → Calm xs → Calm ys → Calm (xs ++ ys)
◌▸◌ {xs = xs} {ys = ys} p q = record { none = free_join 33 xs ys p.none q.none }

-- ---- a sign that is no digit stands in no decimal

glyph_most : (d : ℕ) → 48 ≤ digit_glyph false d
glyph_most d = elim (nat_lt d 10) as (λ t. 48 ≤ (if t then 48 + d else 87 + d)) [ true ↦ omega arith | false ↦ omega arith ]

glyph_free : (sign d : ℕ) (acc : List ℕ) → sign < 48 → is_free sign acc ≡ true → is_free sign (digit_glyph false d ∷ acc) ≡ true
glyph_free sign d acc low h =
    let most : 48 ≤ digit_glyph false d = glyph_most d in
    let other : digit_glyph false d ≢ sign = λ e. omega arith in
    ap (λ t. not t && is_free sign acc) (ne_eqb (digit_glyph false d) sign other) ∙ h

onto_free : (sign k n : ℕ) (acc : List ℕ) → sign < 48 → is_free sign acc ≡ true → is_free sign (digits_onto k 10 false n acc) ≡ true
onto_free sign zero n acc low h = h
onto_free sign (suc k) n acc low h =
    let next : List ℕ = digit_glyph false (n % 10) ∷ acc in
    let more : is_free sign next ≡ true = glyph_free sign (n % 10) acc low h in
    elim (n / 10 == 0) as (λ t. is_free sign (if t then next else digits_onto k 10 false (n / 10) next) ≡ true) [ true ↦ more | false ↦ onto_free sign k (n / 10) next low more ]

pub digits_free : (sign n : ℕ) → sign < 48 → is_free sign (decimal n) ≡ true
unfolding digits
digits_free sign n low = onto_free sign 64 n [] low refl

decimal_calm : (n : ℕ) → Calm (decimal n)
decimal_calm n = record { none = digits_free 33 n (omega arith) }

blank_calm : (n : ℕ) → Calm (32 ∷ decimal n)
blank_calm n = literal (32 ∷ []) refl ▸ decimal_calm n

signed_calm : (z : ℤ) → Calm (signed_decimal z)
signed_calm (pos n) = decimal_calm n
signed_calm (negsuc n) = literal (45 ∷ []) refl ▸ decimal_calm (suc n)

blanks_calm : (ns : List ℕ) → Calm (flat_map (λ n. 32 ∷ decimal n) ns)
blanks_calm [] = literal [] refl
blanks_calm (n ∷ ns) = blank_calm n ▸ blanks_calm ns

type_calm : (t : Elem) → Calm (type_name t)
type_calm U8 = literal _ refl
type_calm I32 = literal _ refl
type_calm I64 = literal _ refl
type_calm U64 = literal _ refl

code_calm : (c : Code) → Calm (code_name c)
code_calm Add = literal _ refl
code_calm Subtract = literal _ refl
code_calm Multiply = literal _ refl
code_calm Divide = literal _ refl
code_calm Mod = literal _ refl
code_calm Power = literal _ refl
code_calm Maximum = literal _ refl
code_calm Minimum = literal _ refl
code_calm BitwiseAnd = literal _ refl
code_calm BitwiseOr = literal _ refl
code_calm BitwiseXor = literal _ refl
code_calm LeftShift = literal _ refl
code_calm RightShift = literal _ refl
code_calm Equal = literal _ refl
code_calm NotEqual = literal _ refl
code_calm Less = literal _ refl
code_calm LessEqual = literal _ refl
code_calm Greater = literal _ refl
code_calm GreaterEqual = literal _ refl
code_calm Absolute = literal _ refl
code_calm Invert = literal _ refl
code_calm Identity = literal _ refl
code_calm Range = literal _ refl
code_calm AddReduce = literal _ refl
code_calm MultiplyReduce = literal _ refl
code_calm MinimumReduce = literal _ refl
code_calm MaximumReduce = literal _ refl
code_calm AddAccumulate = literal _ refl
code_calm MultiplyAccumulate = literal _ refl
code_calm Free = literal _ refl
code_calm Sync = literal _ refl

-- ---- views and operands

dimension_calm : (n : ℕ) (s : ℤ) → Calm (dimension_text n s)
dimension_calm n s = decimal_calm n ▸ literal (codes ":") refl ▸ signed_calm s

more_calm : (ns : List ℕ) (ss : List ℤ) → Calm (more_dimensions_text ns ss)
more_calm (n ∷ ns) (s ∷ ss) = literal (codes ",") refl ▸ dimension_calm n s ▸ more_calm ns ss
more_calm [] ss = literal [] refl
more_calm (n ∷ ns) [] = literal [] refl

dimensions_calm : (ns : List ℕ) (ss : List ℤ) → Calm (dimensions_text ns ss)
dimensions_calm (n ∷ ns) (s ∷ ss) = dimension_calm n s ▸ more_calm ns ss
dimensions_calm [] ss = literal [] refl
dimensions_calm (n ∷ ns) [] = literal [] refl

view_calm : (t : Elem) (v : Strided) → Calm (view_text t v)
view_calm t v =
    literal (codes "b") refl ▸ decimal_calm v.base ▸ literal (codes ":") refl ▸ type_calm t ▸ literal (codes "@") refl ▸ decimal_calm v.start ▸ literal (codes "[") refl ▸ dimensions_calm v.lengths v.strides ▸ literal (codes "]") refl

output_calm : (makes : Bool) (t : Elem) (o : Option Strided) → Calm (output_text makes t o)
output_calm makes t None = literal [] refl
output_calm true t (Some v) = literal (codes " +") refl ▸ view_calm t v
output_calm false t (Some v) = literal (codes " ") refl ▸ view_calm t v

input_calm : (t : Elem) (o : Operand) → Calm (input_text t o)
input_calm t (Array v) = view_calm t v
input_calm t (Number z) = signed_calm z

operand_calm : (t : Elem) (o : Option Operand) → Calm (operand_text t o)
operand_calm t None = literal [] refl
operand_calm t (Some o) = literal (codes " ") refl ▸ input_calm t o

labelled_calm : (label : List ℕ) (o : Option ℕ) → Calm label → Calm (labelled_text decimal label o)
labelled_calm label None h = literal [] refl
labelled_calm label (Some n) h = h ▸ decimal_calm n

-- ---- lines

-- it ends with a line feed
abbrev pub Ended : List ℕ → Type 0
Ended text = (front : List ℕ) × (text ≡ front ++ 10 ∷ [])

ended_behind : (s t : List ℕ) → Ended t → Ended (s ++ t)
ended_behind s t e = (s ++ e.0, ap (λ u. s ++ u) e.1 ∙ sym (append_assoc s e.0 (10 ∷ [])))

-- no line, or some, and no `!` among them
pub record Silent (text : List ℕ) : Type 0 where
  pub calm : Calm text
  pub ended : (text ≡ []) ⊎ Ended text

pub silent_none : Silent []
silent_none = record { calm = literal [] refl; ended = inl refl }

-- a line
line : {text : List ℕ} → Calm text → Silent (text ++ codes "\n")
line {text = text} h = record { calm = h ▸ literal (codes "\n") refl; ended = inr (text, refl) }

ended_join : (s t : List ℕ) → (s ≡ []) ⊎ Ended s → (t ≡ []) ⊎ Ended t → (s ++ t ≡ []) ⊎ Ended (s ++ t)
ended_join s t h (inr e) = inr (ended_behind s t e)
ended_join s t (inl e) (inl f) = inl (ap (λ u. u ++ t) e ∙ f)
ended_join s t (inr e) (inl f) = inr (e.0, ap (λ u. s ++ u) f ∙ append-nil s ∙ e.1)

pub silent_join : (s t : List ℕ) → Silent s → Silent t → Silent (s ++ t)
silent_join s t a b = record { calm = a.calm ▸ b.calm; ended = ended_join s t a.ended b.ended }

-- ---- what is listed

op_silent : (number : ℕ) (op : Op) → Silent (op_text number op)
unfolding op_text
op_silent number op =
    line (literal (codes "# op ") refl ▸ decimal_calm number ▸ literal (codes " ") refl ▸ code_calm op.code ▸ output_calm op.makes op.to op.out ▸ operand_calm op.from op.first ▸ operand_calm op.from op.second
    ▸ labelled_calm (codes " axis=") op.axis (literal (codes " axis=") refl) ▸ labelled_calm (codes " slot=") op.slot (literal (codes " slot=") refl) ▸ labelled_calm (codes " b") op.frees (literal (codes " b") refl))

ops_silent : (number : ℕ) (ops : List Op) → Silent (ops_text number ops)
ops_silent number [] = silent_none
ops_silent number (op ∷ ops) = silent_join (op_text number op) (ops_text (suc number) ops) (op_silent number op) (ops_silent (suc number) ops)

block_silent : (number cost : ℕ) (block : List ℕ) → Silent (block_text number cost block)
unfolding block_text
block_silent number cost block =
    line (literal (codes "# block ") refl ▸ decimal_calm number ▸ literal (codes " cost ") refl ▸ decimal_calm cost ▸ literal (codes " ops") refl ▸ blanks_calm block)

blocks_silent : (number : ℕ) (blocks : List (List ℕ)) (costs : List ℕ) → Silent (blocks_text number blocks costs)
blocks_silent number (block ∷ blocks) (cost ∷ costs) = silent_join (block_text number cost block) (blocks_text (suc number) blocks costs) (block_silent number cost block) (blocks_silent (suc number) blocks costs)
blocks_silent number [] costs = silent_none
blocks_silent number (block ∷ blocks) [] = silent_none

head_silent : (recorded number left blocks cost : ℕ) → Silent (head_text recorded number left blocks cost)
unfolding head_text
head_silent recorded number left blocks cost =
    line (literal (codes "# flush ") refl ▸ decimal_calm number ▸ literal (codes " recorded ") refl ▸ decimal_calm recorded ▸ literal (codes " rewritten ") refl ▸ decimal_calm left ▸ literal (codes " blocks ") refl ▸ decimal_calm blocks
    ▸ literal (codes " cost ") refl ▸ decimal_calm cost)

pub plan_silent : (recorded number : ℕ) (ops : List Op) (plan : List (List ℕ)) (costs : List ℕ) → Silent (plan_text recorded number ops plan costs)
unfolding plan_text
plan_silent recorded number ops plan costs =
    let head : List ℕ = head_text recorded number (length ops) (length plan) (sum costs) in
    silent_join (head ++ ops_text 1 ops) (blocks_text 1 plan costs) (silent_join head (ops_text 1 ops) (head_silent recorded number (length ops) (length plan) (sum costs)) (ops_silent 1 ops)) (blocks_silent 1 plan costs)

pub bound_silent : (cost bound units : ℕ) → Silent (bound_text cost bound units)
unfolding bound_text
bound_silent cost bound units =
    let mark : List ℕ = cond (bound == cost) (codes " optimal\n") (codes " budget\n") in
    record {
      calm = literal (codes "# bound ") refl ▸ decimal_calm bound ▸ literal (codes " units ") refl ▸ decimal_calm units ▸ mark_calm (bound == cost);
      ended = inr (ended_behind (codes "# bound " ++ decimal bound ++ codes " units " ++ decimal units) mark (mark_ended (bound == cost)));
    }
  where
    mark_calm : (b : Bool) → Calm (cond b (codes " optimal\n") (codes " budget\n"))
    mark_calm true = literal (codes " optimal\n") refl
    mark_calm false = literal (codes " budget\n") refl

    mark_ended : (b : Bool) → Ended (cond b (codes " optimal\n") (codes " budget\n"))
    mark_ended true = (codes " optimal", refl)
    mark_ended false = (codes " budget", refl)

-- ---- what is printed

signs_calm : (ns : List ℤ) → Calm (flat_map (λ m. 32 ∷ signed_decimal m) ns)
signs_calm [] = literal [] refl
signs_calm (n ∷ ns) = literal (32 ∷ []) refl ▸ signed_calm n ▸ signs_calm ns

spaced_calm : (ns : List ℤ) → Calm (spaced ns)
spaced_calm [] = literal [] refl
spaced_calm (n ∷ ns) = signed_calm n ▸ signs_calm ns

rows_silent : (count width : ℕ) (ns : List ℤ) → Silent (rows count width ns)
rows_silent zero width ns = silent_none
rows_silent (suc count) width ns = silent_join (spaced (take width ns) ++ codes "\n") (rows count width (drop width ns)) (line (spaced_calm (take width ns))) (rows_silent count width (drop width ns))

array_silent : (slot : Slot) → Silent (array_text slot)
unfolding array_text
array_silent slot =
    silent_join _ (rows (row_count slot.lengths) (row_width slot.lengths) slot.numbers) (line (type_calm slot.elem ▸ blanks_calm slot.lengths)) (rows_silent (row_count slot.lengths) (row_width slot.lengths) slot.numbers)

pub arrays_silent : (slots : List Slot) → Silent (flat_map array_text slots)
arrays_silent [] = silent_none
arrays_silent (slot ∷ slots) = silent_join (array_text slot) (flat_map array_text slots) (array_silent slot) (arrays_silent slots)

-- ---- lines that are passed over

with_more : (b : ℕ) (ls ms : List (List ℕ)) → 0 < length ls → with_byte b (ls ++ ms) ≡ with_byte b ls ++ ms
with_more b [] ms h = absurd (omega arith)
with_more b (l ∷ ls) ms h = both (is_feed b)
  where
    both : (t : Bool) → cond t ((b ∷ []) ∷ (l ∷ ls ++ ms)) ((b ∷ l) ∷ (ls ++ ms)) ≡ cond t ((b ∷ []) ∷ (l ∷ ls)) ((b ∷ l) ∷ ls) ++ ms
    both true = refl
    both false = refl

with_some : (b : ℕ) (ls : List (List ℕ)) → 0 < length (with_byte b ls)
with_some b [] = both (is_feed b)
  where
    both : (t : Bool) → 0 < length (cond t ((b ∷ []) ∷ []) ((b ∷ []) ∷ []))
    both true = omega arith
    both false = omega arith
with_some b (l ∷ ls) = both (is_feed b)
  where
    both : (t : Bool) → 0 < length (cond t ((b ∷ []) ∷ (l ∷ ls)) ((b ∷ l) ∷ ls))
    both true = omega arith
    both false = omega arith

lines_behind : (front t : List ℕ) → lines ((front ++ 10 ∷ []) ++ t) ≡ lines (front ++ 10 ∷ []) ++ lines t
lines_behind [] t = refl
lines_behind (b ∷ bs) t = ap (with_byte b) (lines_behind bs t) ∙ with_more b (lines (bs ++ 10 ∷ [])) (lines t) (some bs)
  where
    some : (bs : List ℕ) → 0 < length (lines (bs ++ 10 ∷ []))
    some [] = omega arith
    some (c ∷ cs) = with_some c (lines (cs ++ 10 ∷ []))

lines_join : (s t : List ℕ) → (s ≡ []) ⊎ Ended s → lines (s ++ t) ≡ lines s ++ lines t
lines_join s t (inl e) = ap (λ u. lines (u ++ t)) e ∙ sym (ap (λ u. lines u ++ lines t) e)
lines_join s t (inr e) = ap (λ u. lines (u ++ t)) e.1 ∙ lines_behind e.0 t ∙ sym (ap (λ u. lines u ++ lines t) e.1)

-- how many bytes lines have
abbrev size : List (List ℕ) → ℕ
size [] = 0
size (l ∷ ls) = length l + size ls

with_size : (b : ℕ) (ls : List (List ℕ)) → size (with_byte b ls) ≡ suc (size ls)
with_size b [] = both (is_feed b)
  where
    both : (t : Bool) → size (cond t ((b ∷ []) ∷ []) ((b ∷ []) ∷ [])) ≡ 1
    both true = omega arith
    both false = omega arith
with_size b (l ∷ ls) = both (is_feed b)
  where
    both : (t : Bool) → size (cond t ((b ∷ []) ∷ (l ∷ ls)) ((b ∷ l) ∷ ls)) ≡ suc (length l + size ls)
    both true = omega arith
    both false = omega arith

lines_size : (s : List ℕ) → size (lines s) ≡ length s
lines_size [] = refl
lines_size (b ∷ bs) = with_size b (lines bs) ∙ ap suc (lines_size bs)

abbrev Unmarked : List (List ℕ) → Type 0
Unmarked ls = list_all (is_free 33) ls ≡ true

with_free : (b : ℕ) (ls : List (List ℕ)) → is_free 33 (b ∷ []) ≡ true → Unmarked ls → Unmarked (with_byte b ls)
with_free b [] h k = both (is_feed b)
  where
    both : (t : Bool) → Unmarked (cond t ((b ∷ []) ∷ []) ((b ∷ []) ∷ []))
    both true = and_from (is_free 33 (b ∷ [])) true h refl
    both false = and_from (is_free 33 (b ∷ [])) true h refl
with_free b (l ∷ ls) h k = both (is_feed b)
  where
    parts : (is_free 33 l ≡ true) × (list_all (is_free 33) ls ≡ true)
    parts = and_parts (is_free 33 l) (list_all (is_free 33) ls) k

    both : (t : Bool) → Unmarked (cond t ((b ∷ []) ∷ (l ∷ ls)) ((b ∷ l) ∷ ls))
    both true = and_from (is_free 33 (b ∷ [])) (list_all (is_free 33) (l ∷ ls)) h k
    both false = and_from (is_free 33 (b ∷ l)) (list_all (is_free 33) ls) (free_join 33 (b ∷ []) l h parts.0) parts.1

lines_free : (s : List ℕ) → is_free 33 s ≡ true → Unmarked (lines s)
lines_free [] h = refl
lines_free (b ∷ bs) h =
    let p = and_parts (not (b == 33)) (is_free 33 bs) h in
    with_free b (lines bs) (and_from (not (b == 33)) true p.0 refl) (lines_free bs p.1)

unmarked : (l : List ℕ) → is_free 33 l ≡ true → is_marked l ≡ false
unmarked [] h = refl
unmarked (b ∷ bs) h = not-true (b == 33) (and_parts (not (b == 33)) (is_free 33 bs) h).0

passes_lines : (ls rest : List (List ℕ)) (line room : ℕ) → Unmarked ls → size ls ≤ room → marked line room (ls ++ rest) ≡ marked (line + length ls) (room - size ls) rest
passes_lines [] rest line room h w =
    let same : line ≡ line + 0 = omega arith in
    let left : room ≡ room - 0 = omega arith in
    ap (λ n. marked n room rest) same ∙ ap (λ k. marked (line + 0) k rest) left
passes_lines (l ∷ ls) rest line room h w =
    let p = and_parts (is_free 33 l) (list_all (is_free 33) ls) h in
    let same : suc line + length ls ≡ line + length (l ∷ ls) = omega arith in
    let left : (room - length l) - size ls ≡ room - size (l ∷ ls) = omega arith in
    is_within line room l (ls ++ rest) (l ∷ (ls ++ rest)) false refl (omega arith) (unmarked l p.0) ∙ passes_lines ls rest (suc line) (room - length l) p.1 (omega arith)
    ∙ ap (λ n. marked n ((room - length l) - size ls) rest) same ∙ ap (λ k. marked (line + length (l ∷ ls)) k rest) left

-- a reader goes on behind a silent text
pub passes_silent : (s t : List ℕ) (line room : ℕ) → Silent s → length s ≤ room → marked line room (lines (s ++ t)) ≡ marked (line + length (lines s)) (room - length s) (lines t)
passes_silent s t line room h w =
    let long : size (lines s) ≡ length s = lines_size s in
    ap (marked line room) (lines_join s t h.ended) ∙ passes_lines (lines s) (lines t) line room (lines_free s h.calm.none) (omega arith)
    ∙ ap (λ k. marked (line + length (lines s)) (room - k) (lines t)) long
