-- A text made of pieces, each a token or a blank, is cut into their tokens.
use Rattle.std.proofs.Common.{◌≡◌, ℕ, zero, suc, ◌+◌, ◌-◌, ◌*◌, ◌/◌, ◌%◌, ◌^◌, ◌<◌, ◌≤◌, List, [], ◌∷◌, ◌++◌, length, take, Option, Some, None, refl, sym, ap, subst, arith, Bool, true, false, cond, not, ◌&&◌, ◌||◌, eqb, nat_le, ◌∙◌, decimal, length-append}
use Rattle.std.specs.List.{flat_map, take_while, list_all}
use Rattle.std.proofs.Math.Seq.{drop-append_seam}
use Rattle.std.proofs.lemmas.Bool.{and_parts, and_from, not-true, leb-true, le-leb, lt-ltb, ne_eqb}
use Rattle.std.proofs.lemmas.Fmt.{decimal_by_steps}
use Rattle.std.proofs.lemmas.List.Sums.{take_while-cons}
use Rattle.arr_tree.specs.declared.refusal.Place.{Place}
use Rattle.arr_tokens.specs.declared.token.Item.{Item}
use Rattle.arr_tokens.specs.declared.token.Token.{Token}
use Rattle.arr_tokens.specs.declared.token.Token.TheVariants as token
use Rattle.arr_tokens.specs.declared.token.Sign.{Sign}
use Rattle.arr_tokens.specs.declared.token.Sign.TheVariants as sign
use Rattle.arr_tokens.specs.Tokens as syntax
use Rattle.arr_tokens.specs.Tokens.{is_blank, is_digit, is_letter, is_word_byte, piece, items_from, put, place_behind, word_of, number_of, sign_of_two, sign_or_bad, sign_doubled, sign_with_equal}
use Rattle.arr_tokens.proofs.Cutting.{cut_one, last_cut}

-- ---- pieces

-- the signs that are tokens whatever follows them
pub data Lone : Type 0 where
  open_ : Lone
  close : Lone
  open_index : Lone
  close_index : Lone
  comma : Lone
  colon : Lone
  plus : Lone
  minus : Lone
  slash : Lone
  percent : Lone
  both : Lone

abbrev pub byte : Lone → ℕ
byte open_ = 40
byte close = 41
byte open_index = 91
byte close_index = 93
byte comma = 44
byte colon = 58
byte plus = 43
byte minus = 45
byte slash = 47
byte percent = 37
byte both = 38

abbrev pub sign_is : Lone → Sign
sign_is open_ = sign.Open
sign_is close = sign.Close
sign_is open_index = sign.OpenIndex
sign_is close_index = sign.CloseIndex
sign_is comma = sign.Comma
sign_is colon = sign.Colon
sign_is plus = sign.Plus
sign_is minus = sign.Minus
sign_is slash = sign.Slash
sign_is percent = sign.Percent
sign_is both = sign.And

pub data Piece : Type 0 where
  blank : Piece
  feed : Piece
  lone : Lone → Piece
  equals : Piece
  word : List ℕ → Piece
  number : (n : ℕ) → n < 2 ^ 64 → Piece

abbrev pub spell : Piece → List ℕ
spell blank = 32 ∷ []
spell feed = 10 ∷ []
spell (lone l) = byte l ∷ []
spell equals = 61 ∷ []
spell (word w) = w
spell (number n h) = decimal n

abbrev pub spelled : List Piece → List ℕ
spelled ps = flat_map spell ps

abbrev pub meant : Piece → Option Token
meant blank = None
meant feed = Some token.Line
meant (lone l) = Some (token.Sign (sign_is l))
meant equals = Some (token.Sign sign.Assign)
meant (word w) = Some (word_of w)
meant (number n h) = Some (token.Number n)

abbrev pub joined : Option Token → List Token → List Token
joined None ts = ts
joined (Some t) ts = t ∷ ts

-- their tokens
abbrev pub meanings : List Piece → List Token → List Token
meanings [] ts = ts
meanings (p ∷ ps) ts = joined (meant p) (meanings ps ts)

-- ---- which pieces may stand together

-- no word or number begins here
abbrev pub is_apart : List Piece → Bool
is_apart (word w ∷ ps) = false
is_apart (number n h ∷ ps) = false
is_apart _ = true

abbrev pub is_blank_next : List Piece → Bool
is_blank_next (blank ∷ ps) = true
is_blank_next _ = false

-- a byte of a word's front: no line feed, blank, comment or digit
abbrev pub begins_word : ℕ → Bool
begins_word b = not (eqb b 10) && (not (is_blank b) && (not (eqb b 35) && (not (is_digit b) && is_letter b)))

abbrev pub is_word : List ℕ → Bool
is_word [] = false
is_word (b ∷ bs) = begins_word b && list_all is_word_byte (b ∷ bs)

abbrev pub may_stand : Piece → List Piece → Bool
may_stand equals ps = is_blank_next ps
may_stand (word w) ps = is_word w && is_apart ps
may_stand (number n h) ps = is_apart ps
may_stand _ ps = true

abbrev pub is_text : List Piece → Bool
is_text [] = true
is_text (p ∷ ps) = may_stand p ps && is_text ps

-- ---- each piece is cut

-- the list ends, or its first byte fails the test
abbrev Stops : (ℕ → Bool) → List ℕ → Type 0
Stops p [] = Unit {0}
Stops p (b ∷ bs) = p b ≡ false

front : (p : ℕ → Bool) (xs ys : List ℕ) → list_all p xs ≡ true → Stops p ys → take_while p (xs ++ ys) ≡ xs
front p [] [] a s = refl
front p [] (y ∷ ys) a s = take_while-cons p y ys ∙ ap (λ b. cond b (y ∷ take_while p ys) []) s
front p (x ∷ xs) ys a s =
    let q = and_parts (p x) (list_all p xs) a in
    take_while-cons p x (xs ++ ys) ∙ ap (λ b. cond b (x ∷ take_while p (xs ++ ys)) []) q.0 ∙ ap (λ (zs : List ℕ). x ∷ zs) (front p xs ys q.1 s)

lone_stops : (l : Lone) → is_word_byte (byte l) ≡ false
lone_stops open_ = refl
lone_stops close = refl
lone_stops open_index = refl
lone_stops close_index = refl
lone_stops comma = refl
lone_stops colon = refl
lone_stops plus = refl
lone_stops minus = refl
lone_stops slash = refl
lone_stops percent = refl
lone_stops both = refl

apart_stops : (ps : List Piece) → is_apart ps ≡ true → Stops is_word_byte (spelled ps)
apart_stops [] e = tt
apart_stops (blank ∷ ps) e = refl
apart_stops (feed ∷ ps) e = refl
apart_stops (lone l ∷ ps) e = lone_stops l
apart_stops (equals ∷ ps) e = refl
apart_stops (word w ∷ ps) e = cc
apart_stops (number n h ∷ ps) e = cc

or_right : (a b : Bool) → (a || b) ≡ false → b ≡ false
or_right true b e = cc
or_right false b e = e

no_digit : (ys : List ℕ) → Stops is_word_byte ys → Stops is_digit ys
no_digit [] s = tt
no_digit (y ∷ ys) s = or_right (is_letter y) (is_digit y) s

-- one of two signs that is not there
alone : (b : ℕ) (bs : List ℕ) → sign_with_equal b ≡ None → sign_doubled b ≡ None → sign_of_two b bs ≡ None
alone b [] e d = refl
alone b (c ∷ bs) e d = either (eqb c 61) (eqb c b)
  where
    either : (x y : Bool) → cond x (sign_with_equal b) (cond y (sign_doubled b) None) ≡ None
    either true y = e
    either false true = d
    either false false = refl

abbrev Cuts : Piece → List ℕ → Type 0
Cuts p rest = piece (spell p ++ rest) ≡ (meant p, length (spell p))

by_sign : (x : Sign) (o : Option Sign) → o ≡ None → sign_or_bad o (Some x) ≡ (Some (token.Sign x), 1)
by_sign x o e = ap (λ (v : Option Sign). sign_or_bad v (Some x)) e

lone_cuts : (l : Lone) (rest : List ℕ) → Cuts (lone l) rest
lone_cuts open_ rest = by_sign sign.Open _ (alone 40 rest refl refl)
lone_cuts close rest = by_sign sign.Close _ (alone 41 rest refl refl)
lone_cuts open_index rest = by_sign sign.OpenIndex _ (alone 91 rest refl refl)
lone_cuts close_index rest = by_sign sign.CloseIndex _ (alone 93 rest refl refl)
lone_cuts comma rest = by_sign sign.Comma _ (alone 44 rest refl refl)
lone_cuts colon rest = by_sign sign.Colon _ (alone 58 rest refl refl)
lone_cuts plus rest = by_sign sign.Plus _ (alone 43 rest refl refl)
lone_cuts minus rest = by_sign sign.Minus _ (alone 45 rest refl refl)
lone_cuts slash rest = by_sign sign.Slash _ (alone 47 rest refl refl)
lone_cuts percent rest = by_sign sign.Percent _ (alone 37 rest refl refl)
lone_cuts both rest = by_sign sign.And _ (alone 38 rest refl refl)

word_cuts : (w rest : List ℕ) → is_word w ≡ true → Stops is_word_byte rest → Cuts (word w) rest
word_cuts [] rest e s = cc
word_cuts (b ∷ bs) rest e s =
    let all = and_parts (begins_word b) _ e in
    let one = and_parts (not (eqb b 10)) _ all.0 in
    let two = and_parts (not (is_blank b)) _ one.1 in
    let three = and_parts (not (eqb b 35)) _ two.1 in
    let four = and_parts (not (is_digit b)) _ three.1 in
    let f1 : eqb b 10 ≡ false = not-true _ one.0 in
    let f2 : is_blank b ≡ false = not-true _ two.0 in
    let f3 : eqb b 35 ≡ false = not-true _ three.0 in
    let f4 : is_digit b ≡ false = not-true _ four.0 in
    let f5 : is_letter b ≡ true = four.1 in
    let text : syntax.word (b ∷ bs ++ rest) ≡ b ∷ bs = front is_word_byte (b ∷ bs) rest all.1 s in
    rw (text, f1, f2, f3, f4, f5) refl

-- ---- decimals

-- they are digits, and these spell the number
record Spells (n : ℕ) (ds : List ℕ) : Type 0 where
  digits : list_all is_digit ds ≡ true
  some : 0 < length ds
  value : syntax.decimal 0 ds ≡ n

digit_is : (d : ℕ) → d < 10 → is_digit (48 + d) ≡ true
digit_is d h = and_from (nat_le 48 (48 + d)) (nat_le (48 + d) 57) (le-leb 48 (48 + d) (omega arith)) (le-leb (48 + d) 57 (omega arith))

decimal_more : (v : ℕ) (ds : List ℕ) (b : ℕ) → syntax.decimal v (ds ++ b ∷ []) ≡ syntax.decimal v ds * 10 + (b - 48)
decimal_more v [] b = refl
decimal_more v (d ∷ ds) b = decimal_more (v * 10 + (d - 48)) ds b

all_more : (p : ℕ → Bool) (xs : List ℕ) (x : ℕ) → list_all p xs ≡ true → p x ≡ true → list_all p (xs ++ x ∷ []) ≡ true
all_more p [] x a e = and_from (p x) true e refl
all_more p (y ∷ xs) x a e = let q = and_parts (p y) (list_all p xs) a in and_from (p y) _ q.0 (all_more p xs x q.1 e)

decimal_spells : (n : ℕ) → n < 2 ^ 64 → Spells n (decimal n)
decimal_spells n h = decimal_by_steps Spells one more n h
  where
    one : (k : ℕ) → k < 10 → Spells k ((48 + k) ∷ [])
    one k l = record { digits = and_from _ true (digit_is k l) refl; some = omega arith; value = omega arith }

    more : (k : ℕ) (ds : List ℕ) → 10 ≤ k → Spells (k / 10) ds → Spells k (ds ++ ((48 + k % 10) ∷ []))
    more k ds l s = record {
      digits = all_more is_digit ds (48 + k % 10) s.digits (digit_is (k % 10) (omega arith));
      some = omega (arith, length-append ds ((48 + k % 10) ∷ []));
      value = decimal_more 0 ds (48 + k % 10) ∙ (let v = s.value in omega arith);
    }

number_is : (n : ℕ) → n < 2 ^ 64 → number_of n ≡ token.Number n
number_is n h = ap (λ b. cond b (token.Number n) token.Wide) (lt-ltb n 18446744073709551616 h)

digits_cut : (n : ℕ) (ds rest : List ℕ) → n < 2 ^ 64 → Spells n ds → Stops is_word_byte rest → piece (ds ++ rest) ≡ (Some (token.Number n), length ds)
digits_cut n [] rest h k s = absurd (omega (arith, k.some))
digits_cut n (d ∷ ds) rest h k s =
    let one = and_parts (is_digit d) _ k.digits in
    let low : 48 ≤ d = leb-true 48 d (and_parts (nat_le 48 d) _ one.0).0 in
    let f1 : eqb d 10 ≡ false = ne_eqb d 10 (λ e. omega arith) in
    let g1 : eqb d 32 ≡ false = ne_eqb d 32 (λ e. omega arith) in
    let g2 : eqb d 9 ≡ false = ne_eqb d 9 (λ e. omega arith) in
    let g3 : eqb d 13 ≡ false = ne_eqb d 13 (λ e. omega arith) in
    let f2 : is_blank d ≡ false = rw (g1, g2, g3) refl in
    let f3 : eqb d 35 ≡ false = ne_eqb d 35 (λ e. omega arith) in
    let f4 : is_digit d ≡ true = one.0 in
    let text : syntax.digits (d ∷ ds ++ rest) ≡ d ∷ ds = front is_digit (d ∷ ds) rest k.digits (no_digit rest s) in
    rw (text, k.value, number_is n h, f1, f2, f3, f4) refl

-- ---- all pieces

one_cut : (p : Piece) (ps : List Piece) → may_stand p ps ≡ true → Cuts p (spelled ps)
one_cut blank ps e = refl
one_cut feed ps e = refl
one_cut (lone l) ps e = lone_cuts l (spelled ps)
one_cut equals (blank ∷ ps) e = refl
one_cut equals [] e = cc
one_cut equals (feed ∷ ps) e = cc
one_cut equals (lone l ∷ ps) e = cc
one_cut equals (equals ∷ ps) e = cc
one_cut equals (word w ∷ ps) e = cc
one_cut equals (number n h ∷ ps) e = cc
one_cut (word w) ps e = let q = and_parts (is_word w) (is_apart ps) e in word_cuts w (spelled ps) q.0 (apart_stops ps q.1)
one_cut (number n h) ps e = digits_cut n (decimal n) (spelled ps) h (decimal_spells n h) (apart_stops ps e)

word_some : (w : List ℕ) → is_word w ≡ true → 0 < length w
word_some [] e = cc
word_some (b ∷ bs) e = omega arith

some_byte : (p : Piece) (ps : List Piece) → may_stand p ps ≡ true → 0 < length (spell p)
some_byte blank ps e = omega arith
some_byte feed ps e = omega arith
some_byte (lone l) ps e = omega arith
some_byte equals ps e = omega arith
some_byte (word w) ps e = word_some w (and_parts (is_word w) (is_apart ps) e).0
some_byte (number n h) ps e = (decimal_spells n h).some

-- tokens, each at its place
abbrev pub placed : List Token → (ℕ → Place) → List Item
placed [] at = []
placed (t ∷ ts) at = record { token = t; at = at 0 } ∷ placed ts (λ n. at (suc n))

abbrev first_place : Place → (ℕ → Place) → ℕ → Place
first_place p at zero = p
first_place p at (suc n) = at n

abbrev Placed : List Item → List Token → Type 0
Placed items ts = (at : ℕ → Place) × (items ≡ placed ts at)

one_more : (o : Option Token) (p : Place) (items : List Item) (ts : List Token) → Placed items ts → Placed (put o p items) (joined o ts)
one_more None p items ts h = h
one_more (Some t) p items ts (at, e) = (first_place p at, ap (λ (is : List Item). (let i : Item = record { token = t; at = p } in i) ∷ is) e)

pub cut_pieces : (ps : List Piece) (p : Place) → is_text ps ≡ true → Placed (items_from 0 p (spelled ps)) (meanings ps (token.End ∷ []))
cut_pieces [] p e = ((λ n. p), last_cut p [] refl)
cut_pieces (x ∷ ps) p e =
    let q = and_parts (may_stand x ps) (is_text ps) e in
    let bs = spell x ++ spelled ps in
    let n = length (spell x) in
    let cut = one_cut x ps q.0 in
    let long : n ≤ length bs = omega (arith, length-append (spell x) (spelled ps)) in
    let one = cut_one p bs n (meant x) (sym (ap (λ (v : Option Token × ℕ). v.0) cut)) (sym (ap (λ (v : Option Token × ℕ). v.1) cut)) (some_byte x ps q.0) long in
    subst (λ (is : List Item). Placed is (joined (meant x) (meanings ps (token.End ∷ []))))
    (sym (one ∙ ap (λ (rest : List ℕ). put (meant x) p (items_from 0 (place_behind p (take n bs)) rest)) (drop-append_seam (spell x) (spelled ps))))
    (one_more (meant x) p _ _ (cut_pieces ps (place_behind p (take n bs)) q.1))
