-- A script read token by token under the limits.
use Rattle.std.specs.Prelude.{ℕ, Bool, true, false, ◌&&◌, ◌≡◌, List, [], ◌∷◌, ◌++◌, Option, Some, None, nat_le, if◌then◌else◌, Result, Ok, Err}
use Rattle.arr_tokens.specs.declared.token.Item.{Item}
use Rattle.arr_tokens.specs.declared.token.Token.{Token}
use Rattle.arr_tokens.specs.declared.token.Token.TheVariants as token
use Rattle.arr_tree.specs.declared.refusal.Kind.{Kind}
use Rattle.arr_tree.specs.declared.refusal.Kind.TheVariants.{BadByte, NumberTooWide, NameTooLong, StatementTooLong, TooDeep, Unexpected}
use Rattle.arr_tree.specs.declared.refusal.Refusal.{Refusal}
use Rattle.arr_tree.specs.declared.refusal.ParseFault.{ParseFault}
use Rattle.arr_tree.specs.declared.refusal.ParseFault.TheVariants.{Refused, NoMemory}
use Rattle.arr_syntax.specs.declared.state.State.{State}
use Rattle.arr_syntax.specs.declared.state.State.TheVariants as state
use Rattle.arr_syntax.specs.declared.state.Move.{Move}
use Rattle.arr_syntax.specs.declared.state.Move.TheVariants as move
use Rattle.arr_tree.specs.declared.tree.Statement.{Statement}
use Rattle.arr_syntax.specs.Limits.{open_limit, length_limit, is_counted, is_opening, open_after, used_after}
use Rattle.arr_syntax.specs.Machine.{step}

-- what a token is refused for whatever stands before it
abbrev pub own_fault : Token → Option Kind
own_fault token.Bad = Some BadByte
own_fault token.Wide = Some NumberTooWide
own_fault token.Long = Some NameTooLong
own_fault _ = None

abbrev pub count_fault : ℕ → Token → Option Kind
count_fault used t = if is_counted t && nat_le length_limit used then Some StatementTooLong else None

abbrev pub open_fault : ℕ → Token → Option Kind
open_fault open_now t = if is_opening t && nat_le open_limit open_now then Some TooDeep else None

abbrev pub is_stuck : Move → Bool
is_stuck move.Stuck = true
is_stuck _ = false

abbrev pub unless : {A : Type 0} → Option Kind → Result A Kind → Result A Kind
unless (Some k) r = Err k
unless None r = r

-- the tokens of the statement behind a token, or what it is refused for whatever the grammar says
abbrev pub counted : ℕ → Token → Result ℕ Kind
counted used t = unless (own_fault t) (unless (count_fault used t) (Ok (used_after used t)))

-- the brackets that are open behind a token
abbrev pub opened : ℕ → Token → Result ℕ Kind
opened open_now t = unless (open_fault open_now t) (Ok (open_after open_now t))

abbrev pub expected : Move → Option Kind → Result Move Kind
expected move.Stuck k = Err Unexpected
expected (move.On st) k = unless k (Ok (move.On st))
expected (move.Emit s st) k = unless k (Ok (move.Emit s st))

-- the first fault that the token has, or what it makes of the state
abbrev pub verdict : ℕ → ℕ → Token → Move → Result Move Kind
verdict open_now used t m = unless (own_fault t) (unless (count_fault used t) (expected m (open_fault open_now t)))

-- what a reading that stops here has given: the statements of a whole script
abbrev pub outcome : State → List Statement → Option (List Statement)
outcome state.Finished done = Some done
outcome _ done = None

abbrev pub Reading : Type 0
Reading = Result (Option (List Statement)) Refusal

abbrev pub proceed : Move → List Statement → (List Statement → State → Reading) → Reading
proceed move.Stuck done rest = Ok None
proceed (move.On st) done rest = rest done st
proceed (move.Emit s st) done rest = rest (done ++ s ∷ []) st

abbrev pub judged : Item → Result Move Kind → List Statement → (List Statement → State → Reading) → Reading
judged i (Err k) done rest = Err (record { at = i.at; kind = k })
judged i (Ok m) done rest = proceed m done rest

-- the statements, if the tokens end as a script does, or the refusal of the first token that has a fault
unfoldable pub run : ℕ → ℕ → List Statement → State → List Item → Reading
run open_now used done st [] = Ok (outcome st done)
run open_now used done st (i ∷ is) =
    judged i (verdict open_now used i.token (step st i)) done (λ more next. run (open_after open_now i.token) (used_after used i.token) more next is)

-- The fault is the refusal that the reading gives, or want of memory.
abbrev pub Refuses : ParseFault → Reading → Type 0
Refuses NoMemory reading = Unit {0}
Refuses (Refused r) reading = reading ≡ Err r
