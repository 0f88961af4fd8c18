-- Cutting a text into tokens.
use Rattle.std.proofs.Common.{◌≡◌, ℕ, zero, suc, ◌+◌, ◌-◌, ◌*◌, ◌<◌, ◌≤◌, List, [], ◌∷◌, length, get_or, take, drop, Option, Some, None, IfSome, refl, sym, ap, subst, arith, Bool, true, false, cond, eqb, nat_lt, nat_le, ◌∙◌, drop-cons}
use Rattle.std.proofs.lemmas.List.{drop_all}
use Rattle.std.proofs.lemmas.Bool.Decides.{nat_tests}
use Rattle.arr_tree.specs.declared.refusal.Place.{Place}
use Rattle.arr_tokens.specs.declared.token.Item.{Item}
use Rattle.arr_tokens.specs.declared.token.Token.{Token}
use Rattle.arr_tokens.specs.declared.token.Token.TheVariants as token
use Rattle.arr_tokens.specs.declared.token.Sign.{Sign}
use Rattle.arr_tokens.specs.declared.token.Keyword.{Keyword}
use Rattle.arr_tokens.specs.Tokens.{is_blank, is_digit, is_letter, digits, decimal, number_of, word, reserved, unless_reserved, word_of, comment, sign_of_one, sign_of_two, sign_or_bad, piece, beyond, place_behind, put, items_from, tokens, is_end, behind}

pub decimal_least : (n : ℕ) (bs : List ℕ) → n ≤ decimal n bs
decimal_least n [] = omega arith
decimal_least n (b ∷ bs) = omega (arith, decimal_least (n * 10 + (b - 48)) bs)

is_wide : (n : ℕ) → 18446744073709551616 ≤ n → token.Wide ≡ number_of n
is_wide n h = let e : nat_lt n 18446744073709551616 ≡ false = grind (arith, nat_tests) in rw e refl

is_number : (n : ℕ) → n < 18446744073709551616 → token.Number n ≡ number_of n
is_number n h = let e : nat_lt n 18446744073709551616 ≡ true = grind (arith, nat_tests) in rw e refl

pub too_wide : (v i : ℕ) (ds : List ℕ) → i < length ds → decimal v (drop i ds) ≡ decimal 0 ds → 18446744073709551616 ≤ v * 10 + (get_or ds i 0 - 48) →
    token.Wide ≡ number_of (decimal 0 ds)
too_wide v i ds l e h =
    let s : decimal v (drop i ds) ≡ decimal (v * 10 + (get_or ds i 0 - 48)) (drop (suc i) ds) = ap (decimal v) (drop-cons ds i 0 l) in
    let m = decimal_least (v * 10 + (get_or ds i 0 - 48)) (drop (suc i) ds) in
    is_wide (decimal 0 ds) (omega (arith, s, e, m, h))

pub whole_number : (v i : ℕ) (ds : List ℕ) → length ds ≤ i → v < 18446744073709551616 → decimal v (drop i ds) ≡ decimal 0 ds → token.Number v ≡ number_of (decimal 0 ds)
whole_number v i ds l h e =
    let s : v ≡ decimal 0 ds = sym (ap (decimal v) (drop_all i ds l)) ∙ e in
    is_number v h ∙ ap number_of s

-- bytes that are passed over move the place only
pub skipped : (n : ℕ) (p : Place) (bs : List ℕ) → n ≤ length bs → items_from n p bs ≡ items_from 0 (place_behind p (take n bs)) (drop n bs)
unfolding items_from
skipped zero p [] h = refl
skipped zero p (b ∷ bs) h = refl
skipped (suc n) p [] h = absurd (omega arith)
skipped (suc n) p (b ∷ bs) h = skipped n (beyond p b) bs (omega arith)

pub cut_one : (p : Place) (bs : List ℕ) (n : ℕ) (t : Option Token) → t ≡ (piece bs).0 → n ≡ (piece bs).1 → 0 < n → n ≤ length bs →
    items_from 0 p bs ≡ put t p (items_from 0 (place_behind p (take n bs)) (drop n bs))
unfolding items_from
cut_one p [] n t e f z h = absurd (omega arith)
cut_one p (b ∷ bs) zero t e f z h = absurd (omega arith)
cut_one p (b ∷ bs) (suc n) t e f z h =
    let m : (piece (b ∷ bs)).1 - 1 ≡ n = omega arith in
    rw (← e) (ap (put t p) (ap (λ (k : ℕ). items_from k (beyond p b) bs) m ∙ skipped n (beyond p b) bs (omega arith)))

pub last_cut : (p : Place) (bs : List ℕ) → length bs ≡ 0 → items_from 0 p bs ≡ (let i : Item = record { token = token.End; at = p } in i) ∷ []
unfolding items_from
last_cut p [] h = refl
last_cut p (b ∷ bs) h = absurd (omega arith)

abbrev at_place : Token → Place → Item
at_place t p = record { token = t; at = p }

-- no piece is an end

NotEnd : Option Token → Type 0
NotEnd o = IfSome o (λ t. is_end t ≡ false)

one_of : {A : Type 0} (P : A → Type 0) (b : Bool) (x y : A) → P x → P y → P (cond b x y)
one_of P true x y h g = h
one_of P false x y h g = g

abbrev Fine : Token → Type 0
Fine t = is_end t ≡ false

number_fine : (n : ℕ) → Fine (number_of n)
number_fine n = one_of Fine (nat_lt n 18446744073709551616) (token.Number n) token.Wide refl refl

word_fine : (o : Option Keyword) (w : List ℕ) → Fine (unless_reserved o w)
word_fine (Some k) w = refl
word_fine None w = one_of Fine (nat_le (length w) 64) (token.Name w) token.Long refl refl

abbrev Good : Option Token × ℕ → Type 0
Good x = IfSome x.0 Fine

sign_fine : (o p : Option Sign) → Good (sign_or_bad o p)
sign_fine (Some x) p = refl
sign_fine None (Some y) = refl
sign_fine None None = refl

piece_fine : (bs : List ℕ) → Good (piece bs)
piece_fine [] = tt
piece_fine (b ∷ bs) =
    one_of Good (eqb b 10) (Some token.Line, 1) _ refl
    (one_of Good (is_blank b) (None, 1) _ tt
    (one_of Good (eqb b 35) (None, length (comment (b ∷ bs))) _ tt
    (one_of Good (is_digit b) (Some (number_of (decimal 0 (digits (b ∷ bs)))), length (digits (b ∷ bs))) _ (number_fine _)
    (one_of Good (is_letter b) (Some (word_of (word (b ∷ bs))), length (word (b ∷ bs))) _ (word_fine (reserved (word (b ∷ bs))) (word (b ∷ bs)))
    (sign_fine (sign_of_two b bs) (sign_of_one b))))))

behind_token : (i : Item) (is : List Item) → is_end i.token ≡ false → is ≡ behind i is
behind_token i is e = rw e refl

module _ (p : Place) (bs : List ℕ) (n : ℕ) (front rest : List ℕ) (q : Place) where
  -- a piece that is no token is passed over
  pub passed : None ≡ (piece bs).0 → n ≡ (piece bs).1 → 0 < n → n ≤ length bs → front ≡ take n bs → rest ≡ drop n bs → q ≡ place_behind p front →
      items_from 0 q rest ≡ items_from 0 p bs
  passed e f z h a b w = rw (w, a, b) (sym (cut_one p bs n None e f z h))

  -- a piece that is a token is the next one
  pub taken : (t : Token) → Some t ≡ (piece bs).0 → n ≡ (piece bs).1 → 0 < n → n ≤ length bs → front ≡ take n bs → rest ≡ drop n bs → q ≡ place_behind p front →
      items_from 0 p bs ≡ at_place t p ∷ behind (at_place t p) (items_from 0 q rest)
  taken t e f z h a b w =
      let fine : Fine t = subst (λ (o : Option Token). IfSome o Fine) (sym e) (piece_fine bs) in
      let c = cut_one p bs n (Some t) e f z h in
      rw (w, a, b) (c ∙ ap (λ (l : List Item). at_place t p ∷ l) (behind_token (at_place t p) _ fine))

-- ---- a text has at most one token a byte, and its end

put_short : (o : Option Token) (p : Place) (items : List Item) (n : ℕ) → length items ≤ n → length (put o p items) ≤ n + 1
put_short None p items n h = omega arith
put_short (Some t) p items n h = omega arith

items_short : (skip : ℕ) (p : Place) (text : List ℕ) → length (items_from skip p text) ≤ length text + 1
unfolding items_from
items_short skip p [] = omega arith
items_short (suc skip) p (b ∷ bs) = let h = items_short skip (beyond p b) bs in omega arith
items_short zero p (b ∷ bs) =
    let rest : List Item = items_from ((piece (b ∷ bs)).1 - 1) (beyond p b) bs in
    let h : length rest ≤ length bs + 1 = items_short ((piece (b ∷ bs)).1 - 1) (beyond p b) bs in
    let k : length (put (piece (b ∷ bs)).0 p rest) ≤ (length bs + 1) + 1 = put_short (piece (b ∷ bs)).0 p rest (length bs + 1) h in
    omega arith

pub tokens_short : (text : List ℕ) → length (tokens text) ≤ length text + 1
tokens_short text = items_short 0 (record { line = 1; column = 1 }) text
