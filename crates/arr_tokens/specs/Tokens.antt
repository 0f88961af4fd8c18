-- How a text is cut into tokens.
use Rattle.std.specs.Prelude.{ℕ, zero, suc, ◌+◌, ◌-◌, ◌*◌, Bool, ◌&&◌, ◌||◌, not, true, false, eqb, nat_le, nat_lt, length, List, [], ◌∷◌, Option, Some, None, if◌then◌else◌, codes, bytes_eq}
use Rattle.std.specs.Option.{option_or}
use Rattle.std.specs.List.{take_while}
use Rattle.arr_tree.specs.declared.refusal.Place.{Place}
use Rattle.arr_tokens.specs.declared.token.Item.{Item}
use Rattle.arr_tokens.specs.declared.token.Token.{Token}
use Rattle.arr_tokens.specs.declared.token.Token.TheVariants as token
use Rattle.arr_tokens.specs.declared.token.Sign.{Sign}
use Rattle.arr_tokens.specs.declared.token.Sign.TheVariants as sign
use Rattle.arr_tokens.specs.declared.token.Keyword.{Keyword}
use Rattle.arr_tokens.specs.declared.token.Keyword.TheVariants as keyword
use Rattle.arr_tokens.specs.declared.token.View.TheVariants.{Broadcast, Transpose, Reshape, Strided}
use Rattle.arr_tree.specs.declared.tree.Code16.TheVariants as code
use Rattle.arr_tree.specs.declared.tree.Type4.TheVariants.{U8, I32, I64, U64}

-- bytes

abbrev pub is_blank : ℕ → Bool
is_blank b = eqb b 32 || (eqb b 9 || eqb b 13)

abbrev pub is_digit : ℕ → Bool
is_digit b = nat_le 48 b && nat_le b 57

-- a letter or `_`
abbrev pub is_letter : ℕ → Bool
is_letter b = (nat_le 65 b && nat_le b 90) || ((nat_le 97 b && nat_le b 122) || eqb b 95)

abbrev pub is_word_byte : ℕ → Bool
is_word_byte b = is_letter b || is_digit b

-- numbers

abbrev pub digits : List ℕ → List ℕ
digits bs = take_while is_digit bs

-- the number that digits spell behind a number
abbrev pub decimal : ℕ → List ℕ → ℕ
decimal n [] = n
decimal n (b ∷ bs) = decimal (n * 10 + (b - 48)) bs

abbrev pub number_of : ℕ → Token
number_of n = if nat_lt n 18446744073709551616 then token.Number n else token.Wide

-- words

abbrev pub word : List ℕ → List ℕ
word bs = take_while is_word_byte bs

abbrev pub words : List (List ℕ × Keyword)
words =
    (codes "print", keyword.Print) ∷ (codes "del", keyword.Del) ∷ (codes "flush", keyword.Flush) ∷ (codes "gather", keyword.Gather) ∷ (codes "scatter", keyword.Scatter)
    ∷ (codes "range", keyword.Range) ∷ (codes "full", keyword.Full) ∷ (codes "abs", keyword.Absolute)
    ∷ (codes "minimum", keyword.Pair code.Minimum) ∷ (codes "maximum", keyword.Pair code.Maximum) ∷ (codes "broadcast", keyword.View Broadcast)
    ∷ (codes "transpose", keyword.View Transpose) ∷ (codes "reshape", keyword.View Reshape) ∷ (codes "strided", keyword.View Strided)
    ∷ (codes "sum", keyword.Fold code.AddReduce) ∷ (codes "prod", keyword.Fold code.MultiplyReduce) ∷ (codes "min", keyword.Fold code.MinimumReduce)
    ∷ (codes "max", keyword.Fold code.MaximumReduce) ∷ (codes "cumsum", keyword.Fold code.AddAccumulate) ∷ (codes "cumprod", keyword.Fold code.MultiplyAccumulate)
    ∷ (codes "u8", keyword.Type U8) ∷ (codes "i32", keyword.Type I32) ∷ (codes "i64", keyword.Type I64) ∷ (codes "u64", keyword.Type U64) ∷ []

abbrev pub named : List ℕ → List ℕ → Keyword → Option Keyword
named w text k = if bytes_eq w text then Some k else None

-- the first keyword whose text the word is, where none was found before
abbrev pub find_word : List ℕ → Option Keyword → List (List ℕ × Keyword) → Option Keyword
find_word w found [] = found
find_word w found (entry ∷ entries) = find_word w (option_or found (named w entry.0 entry.1)) entries

abbrev pub reserved : List ℕ → Option Keyword
reserved w = find_word w None words

abbrev pub name_of_length : List ℕ → Token
name_of_length w = if nat_le (length w) 64 then token.Name w else token.Long

abbrev pub unless_reserved : Option Keyword → List ℕ → Token
unless_reserved (Some k) w = token.Keyword k
unless_reserved None w = name_of_length w

-- a word is reserved, a name or too long
abbrev pub word_of : List ℕ → Token
word_of w = unless_reserved (reserved w) w

-- signs

abbrev pub sign_of_one : ℕ → Option Sign
sign_of_one b =
    if eqb b 61 then Some sign.Assign else (if eqb b 60 then Some sign.Less else (if eqb b 62 then Some sign.Greater else (
    if eqb b 43 then Some sign.Plus else (if eqb b 45 then Some sign.Minus else (if eqb b 42 then Some sign.Star else (
    if eqb b 47 then Some sign.Slash else (if eqb b 37 then Some sign.Percent else (if eqb b 38 then Some sign.And else (
    if eqb b 124 then Some sign.Or else (if eqb b 94 then Some sign.Xor else (if eqb b 126 then Some sign.Not else (
    if eqb b 40 then Some sign.Open else (if eqb b 41 then Some sign.Close else (if eqb b 91 then Some sign.OpenIndex else (
    if eqb b 93 then Some sign.CloseIndex else (if eqb b 44 then Some sign.Comma else (if eqb b 58 then Some sign.Colon else None)))))))))))))))))

-- `== != <= >=`
abbrev pub sign_with_equal : ℕ → Option Sign
sign_with_equal b =
    if eqb b 61 then Some sign.Equal else (if eqb b 33 then Some sign.NotEqual else (if eqb b 60 then Some sign.LessEqual else (if eqb b 62 then Some sign.GreaterEqual else None)))

-- `<< >> **`
abbrev pub sign_doubled : ℕ → Option Sign
sign_doubled b = if eqb b 60 then Some sign.LeftShift else (if eqb b 62 then Some sign.RightShift else (if eqb b 42 then Some sign.Power else None))

abbrev pub sign_of_two : ℕ → List ℕ → Option Sign
sign_of_two b [] = None
sign_of_two b (c ∷ bs) = if eqb c 61 then sign_with_equal b else (if eqb c b then sign_doubled b else None)

abbrev pub sign_or_bad : Option Sign → Option Sign → Option Token × ℕ
sign_or_bad (Some x) y = (Some (token.Sign x), 2)
sign_or_bad None (Some y) = (Some (token.Sign y), 1)
sign_or_bad None None = (Some token.Bad, 1)

-- the longest sign in front, or the byte that begins no token, and its length
abbrev pub sign_piece : ℕ → List ℕ → Option Token × ℕ
sign_piece b bs = sign_or_bad (sign_of_two b bs) (sign_of_one b)

-- a comment runs to just before the next line feed
abbrev pub comment : List ℕ → List ℕ
comment bs = take_while (λ b. not (eqb b 10)) bs

-- the token in front, none for a blank or a comment, and its length
abbrev pub piece : List ℕ → Option Token × ℕ
piece [] = (None, 1)
piece (b ∷ bs) =
    if eqb b 10 then (Some token.Line, 1)
    else (if is_blank b then (None, 1)
    else (if eqb b 35 then (None, length (comment (b ∷ bs)))
    else (if is_digit b then (Some (number_of (decimal 0 (digits (b ∷ bs)))), length (digits (b ∷ bs)))
    else (if is_letter b then (Some (word_of (word (b ∷ bs))), length (word (b ∷ bs)))
    else sign_piece b bs))))

-- the place behind a byte
abbrev pub beyond : Place → ℕ → Place
beyond p b = if eqb b 10 then record { line = p.line + 1; column = 1 } else record { line = p.line; column = p.column + 1 }

abbrev pub put : Option Token → Place → List Item → List Item
put None p is = is
put (Some t) p is = record { token = t; at = p } ∷ is

-- the tokens, of which the first bytes, as many as skip, are passed over
unfoldable pub items_from : ℕ → Place → List ℕ → List Item
items_from skip p [] = record { token = token.End; at = p } ∷ []
items_from (suc skip) p (b ∷ bs) = items_from skip (beyond p b) bs
items_from zero p (b ∷ bs) = put (piece (b ∷ bs)).0 p (items_from ((piece (b ∷ bs)).1 - 1) (beyond p b) bs)

abbrev pub place_behind : Place → List ℕ → Place
place_behind p [] = p
place_behind p (b ∷ bs) = place_behind (beyond p b) bs

-- the tokens of a text
abbrev pub tokens : List ℕ → List Item
tokens text = items_from 0 (record { line = 1; column = 1 }) text

abbrev pub is_end : Token → Bool
is_end token.End = true
is_end _ = false

-- nothing comes behind the end
abbrev pub behind : Item → List Item → List Item
behind i is = if is_end i.token then [] else is
