-- Which token of a text is refused, and why.
use Rattle.std.specs.Prelude.{◌≡◌, ℕ, ◌<◌, ◌≤◌, IsTrue, List, [], ◌∷◌, ◌++◌}
use Rattle.arr_tokens.specs.declared.token.Item.{Item}
use Rattle.arr_tokens.specs.declared.token.Token.TheVariants as token
use Rattle.arr_tree.specs.declared.refusal.Kind.{Kind}
use Rattle.arr_tree.specs.declared.refusal.Kind.TheVariants.{BadByte, NumberTooWide, NameTooLong, StatementTooLong, TooDeep, Unexpected}
use Rattle.arr_tree.specs.declared.refusal.Refusal.{Refusal}
use Rattle.arr_tree.specs.declared.refusal.ParseFault.{ParseFault}
use Rattle.arr_tree.specs.declared.refusal.ParseFault.TheVariants.{Refused, NoMemory}
use Rattle.arr_tree.specs.declared.tree.Statement.{Statement}
use Rattle.arr_syntax.specs.Grammar.{Script}
use Rattle.arr_syntax.specs.Limits.{open_limit, length_limit, is_counted, is_opening, open_from, used_from}

-- some script begins with these tokens
abbrev pub Begins : List Item → Type 0
Begins ts = (more : List Item) × (ss : List Statement) × Script (ts ++ more) ss

-- a token behind these has this fault
abbrev pub Fits : Kind → List Item → Item → Type 0
Fits BadByte before i = i.token ≡ token.Bad
Fits NumberTooWide before i = i.token ≡ token.Wide
Fits NameTooLong before i = i.token ≡ token.Long
Fits StatementTooLong before i = IsTrue (is_counted i.token) × (length_limit ≤ used_from 0 before)
Fits TooDeep before i = IsTrue (is_opening i.token) × (open_limit ≤ open_from 0 before) × Begins (before ++ i ∷ [])
Fits Unexpected before i = Begins (before ++ i ∷ []) → ⊥
Fits _ before i = ⊥

-- where a token has several faults the first of them counts
abbrev pub rank : Kind → ℕ
rank BadByte = 0
rank NumberTooWide = 1
rank NameTooLong = 2
rank StatementTooLong = 3
rank TooDeep = 4
rank Unexpected = 5
rank _ = 6

abbrev pub IsRefusedAt : List Item → Item → Kind → Type 0
IsRefusedAt before i k = Fits k before i × ((other : Kind) → rank other < rank k → Fits other before i → ⊥)

-- no token has a fault
abbrev pub NoneFits : List Item → Type 0
NoneFits items = (before after : List Item) (i : Item) → items ≡ before ++ i ∷ after → (k : Kind) → Fits k before i → ⊥

-- the refusal is that of the first token that has a fault
pub record IsRefused (items : List Item) (r : Refusal) : Type 0 where
  pub before : List Item
  pub item : Item
  pub after : List Item
  pub whole : items ≡ before ++ item ∷ after
  pub first : NoneFits before
  pub at : r.at ≡ item.at
  pub kind : IsRefusedAt before item r.kind

-- the tokens are this script, and none has a fault
pub record IsScript (items : List Item) (ss : List Statement) : Type 0 where
  pub script : Script items ss
  pub none : NoneFits items

abbrev pub IfRefused : ParseFault → (Refusal → Type 0) → Type 0
IfRefused (Refused r) P = P r
IfRefused NoMemory P = Unit {0}
