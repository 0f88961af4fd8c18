-- What the limits count.
use Rattle.std.specs.Prelude.{ℕ, ◌+◌, ◌-◌, Bool, true, false, List, [], ◌∷◌}
use Rattle.arr_tokens.specs.declared.token.Item.{Item}
use Rattle.arr_tokens.specs.declared.token.Token.{Token}
use Rattle.arr_tokens.specs.declared.token.Token.TheVariants as token
use Rattle.arr_tokens.specs.declared.token.Sign.TheVariants as sign

abbrev pub open_limit : ℕ
open_limit = 64

abbrev pub length_limit : ℕ
length_limit = 1024

-- the tokens that a statement counts
abbrev pub is_counted : Token → Bool
is_counted token.Line = false
is_counted token.End = false
is_counted _ = true

abbrev pub is_opening : Token → Bool
is_opening (token.Sign sign.Open) = true
is_opening (token.Sign sign.OpenIndex) = true
is_opening _ = false

abbrev pub open_after : ℕ → Token → ℕ
open_after n (token.Sign sign.Open) = n + 1
open_after n (token.Sign sign.OpenIndex) = n + 1
open_after n (token.Sign sign.Close) = n - 1
open_after n (token.Sign sign.CloseIndex) = n - 1
open_after n _ = n

abbrev pub used_after : ℕ → Token → ℕ
used_after n token.Line = 0
used_after n token.End = n
used_after n _ = n + 1

-- the brackets that are open behind these tokens, where n were open before them
abbrev pub open_from : ℕ → List Item → ℕ
open_from n [] = n
open_from n (i ∷ is) = open_from (open_after n i.token) is

-- the tokens of the statement that these tokens end in, where it had n before them
abbrev pub used_from : ℕ → List Item → ℕ
used_from n [] = n
used_from n (i ∷ is) = used_from (used_after n i.token) is
