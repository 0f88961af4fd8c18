-- One token of a run, and the last one.
use Rattle.std.proofs.Common.{◌≡◌, ℕ, List, [], ◌∷◌, ◌++◌, Option, Some, None, Result, Ok, Err, refl, sym, ap, subst, Bool, true, false, cond, ◌∙◌}
use Rattle.arr_tree.specs.declared.refusal.Place.{Place}
use Rattle.arr_tokens.specs.declared.token.Item.{Item}
use Rattle.arr_tokens.specs.declared.token.Token.{Token}
use Rattle.arr_tokens.specs.declared.token.Token.TheVariants as token
use Rattle.arr_syntax.specs.declared.state.Mode.{Mode}
use Rattle.arr_syntax.specs.declared.state.Mode.TheVariants as mode
use Rattle.arr_syntax.specs.declared.state.Node.{Node}
use Rattle.arr_syntax.specs.declared.state.Node.TheVariants as node
use Rattle.arr_syntax.specs.declared.state.Fields.{Fields}
use Rattle.arr_syntax.specs.declared.state.Field.{Field}
use Rattle.arr_syntax.specs.declared.state.Field.TheVariants as field
use Rattle.arr_syntax.specs.declared.state.Part.{Part}
use Rattle.arr_syntax.specs.declared.state.Part.TheVariants as part
use Rattle.arr_syntax.specs.declared.state.Frame.{Frame}
use Rattle.arr_syntax.specs.declared.state.State.{State}
use Rattle.arr_syntax.specs.declared.state.State.TheVariants as state
use Rattle.arr_syntax.specs.declared.state.Move.{Move}
use Rattle.arr_syntax.specs.declared.state.Move.TheVariants as move
use Rattle.arr_syntax.specs.Filling as filled
use Rattle.arr_tree.specs.declared.tree.Expr.{Expr}
use Rattle.arr_tree.specs.declared.tree.Statement.{Statement}
use Rattle.arr_tree.specs.declared.refusal.Kind.{Kind}
use Rattle.arr_tree.specs.declared.refusal.Kind.TheVariants.{Unexpected}
use Rattle.arr_tree.specs.declared.refusal.ParseFault.{ParseFault}
use Rattle.arr_tree.specs.declared.refusal.ParseFault.TheVariants.{Refused, NoMemory}
use Rattle.arr_syntax.specs.Limits.{open_after, used_after}
use Rattle.arr_syntax.specs.Machine as machine
use Rattle.arr_syntax.specs.Machine.{step, give, fits, goes, leaves, fill, take, with_tree, level_of, tree_of, stated}
use Rattle.arr_tokens.specs.Tokens.{is_end, behind}
use Rattle.arr_syntax.specs.Run.{run, own_fault, count_fault, open_fault, unless, expected, counted, opened, outcome, Reading, is_stuck, Refuses}
use Rattle.arr_syntax.specs.Refused.{IfRefused, IsRefused}
use Rattle.arr_syntax.proofs.Reading.{run_one, run_end, run_refuses}

-- what passes a fault has none
passes : {A : Type 0} (f : Option Kind) (r : Result A Kind) (x : A) → unless f r ≡ Ok x → (f ≡ None) × (r ≡ Ok x)
passes None r x e = (refl, e)
passes (Some k) r x e = cc

too_deep : (f : Option Kind) (n : ℕ) (k : Kind) → unless f (Ok n) ≡ Err k → f ≡ Some k
too_deep (Some j) n k e = cc
too_deep None n k e = cc

module _ (o u : ℕ) (done : List Statement) (st : State) (i : Item) (is : List Item) where
  refused_by : (f g : Option Kind) (k : Kind) (n : ℕ) (r : Result Move Kind) → unless f (unless g (Ok n)) ≡ Err k → unless f (unless g r) ≡ Err k
  refused_by (Some j) g k n r e = cc
  refused_by None (Some j) k n r e = cc
  refused_by None None k n r e = cc

  pub run_counted : (k : Kind) → Err k ≡ counted u i.token → run o u done st (i ∷ is) ≡ Err (record { at = i.at; kind = k })
  run_counted k e =
      let w = refused_by (own_fault i.token) (count_fault u i.token) k (used_after u i.token) (expected (step st i) (open_fault o i.token)) (sym e) in
      rw (run_one o u done st i is, w) refl

  module _ (n : ℕ) (c : Ok n ≡ counted u i.token) where
    own_none : own_fault i.token ≡ None
    own_none = (passes (own_fault i.token) _ n (sym c)).0

    count_none : count_fault u i.token ≡ None
    count_none = (passes (count_fault u i.token) _ n (passes (own_fault i.token) _ n (sym c)).1).0

    count_is : used_after u i.token ≡ n
    count_is = let h = (passes (count_fault u i.token) _ n (passes (own_fault i.token) _ n (sym c)).1).1 in cc

    pub run_stuck : step st i ≡ move.Stuck → run o u done st (i ∷ is) ≡ Err (record { at = i.at; kind = Unexpected })
    run_stuck s = rw (run_one o u done st i is, own_none, count_none, s) refl

    pub run_stuck_if : (m : Move) → m ≡ step st i → is_stuck m ≡ true → run o u done st (i ∷ is) ≡ Err (record { at = i.at; kind = Unexpected })
    run_stuck_if move.Stuck s b = run_stuck (sym s)
    run_stuck_if (move.On next) s b = cc
    run_stuck_if (move.Emit t next) s b = cc

    pub run_deep_if : (k : Kind) (m : Move) → Err k ≡ opened o i.token → m ≡ step st i → is_stuck m ≡ false → run o u done st (i ∷ is) ≡ Err (record { at = i.at; kind = k })
    run_deep_if k move.Stuck d s b = cc
    run_deep_if k (move.On next) d s b = rw (run_one o u done st i is, own_none, count_none, sym s, too_deep (open_fault o i.token) _ k (sym d)) refl
    run_deep_if k (move.Emit t next) d s b = rw (run_one o u done st i is, own_none, count_none, sym s, too_deep (open_fault o i.token) _ k (sym d)) refl

    module _ (d : ℕ) (b : Ok d ≡ opened o i.token) where
      open_none : open_fault o i.token ≡ None
      open_none = (passes (open_fault o i.token) _ d (sym b)).0

      open_is : open_after o i.token ≡ d
      open_is = let h = (passes (open_fault o i.token) _ d (sym b)).1 in cc

      pub run_on : (next : State) → step st i ≡ move.On next → run o u done st (i ∷ is) ≡ run d n done next is
      run_on next s = rw (← open_is, ← count_is, run_one o u done st i is, own_none, count_none, s, open_none) refl

      pub run_emit : (t : Statement) (next : State) → step st i ≡ move.Emit t next → run o u done st (i ∷ is) ≡ run d n (done ++ t ∷ []) next is
      run_emit t next s = rw (← open_is, ← count_is, run_one o u done st i is, own_none, count_none, s, open_none) refl

-- behind the end nothing is wanted

abbrev pub Last : Move → Type 0
Last move.Stuck = Unit {0}
Last (move.On st) = st ≡ state.Finished
Last (move.Emit s st) = st ≡ state.Finished

fill_end : (p : Field) (at : Place) (f : Fields) → fill p token.End at f ≡ filled.Stuck
fill_end field.Open at f = refl
fill_end _ at f = refl

begins_end : (m : Mode) (at : Place) (s : List Frame) → Last (machine.begins m token.End at s)
begins_end mode.Value at s = tt
begins_end mode.Place at s = tt

take_end : (n : Node) (at : Place) (p : Part) (ps : List Part) (f : Fields) (s : List Frame) (i : Item) → i.token ≡ token.End → Last (take n at p ps f s i)
take_end n at (part.Tree m) ps f s i e = rw e (begins_end m i.at (machine.frame n at m ps f ∷ s))
take_end n at (part.Field p) ps f s i e = rw (e, fill_end p i.at f) tt

cond_last : (b : Bool) (x y : Move) → Last x → Last y → Last (cond b x y)
cond_last true x y h g = h
cond_last false x y h g = g

leaves_end : (n : Node) (at : Place) (ps : List Part) (f : Fields) (s : List Frame) (i : Item) → i.token ≡ token.End → ((m : ℕ) (u : Expr) → Last (give s m u i)) →
    Last (leaves n at ps f s i (λ m u. give s m u i))
leaves_end n at (p ∷ ps) f s i e back = take_end n at p ps f s i e
leaves_end (node.Tree n) at [] f s i e back = back (level_of n) (tree_of n at f)
leaves_end (node.Statement x) at [] f s i e back = rw e refl

give_end : (s : List Frame) (n : ℕ) (t : Expr) (i : Item) → i.token ≡ token.End → Last (give s n t i)
give_end [] n t i e = tt
give_end (f ∷ s) n t i e =
    cond_last (fits n i.token f.level) (goes i.token i.at (f ∷ s) t) (leaves f.row.node f.row.at f.row.rest (with_tree f.row.fields t) s i (λ m u. give s m u i)) (rw e tt)
    (leaves_end f.row.node f.row.at f.row.rest (with_tree f.row.fields t) s i e (λ m u. give_end s m u i e))

pub step_end : (st : State) (i : Item) → i.token ≡ token.End → Last (step st i)
step_end state.Start i e = rw e refl
step_end (state.Named w) i e = rw e tt
step_end (state.Bound w) i e = rw e tt
step_end state.Delete i e = rw e tt
step_end state.Ended i e = rw e refl
step_end (state.Have n t s) i e = give_end s n t i e
step_end (state.Fill p w s) i e = take_end w.node w.at p w.rest w.fields s i e
step_end state.Finished i e = tt

pub on_end : (st next : State) (i : Item) → step st i ≡ move.On next → i.token ≡ token.End → next ≡ state.Finished
on_end st next i s e = subst Last s (step_end st i e)

pub emit_end : (st next : State) (t : Statement) (i : Item) → step st i ≡ move.Emit t next → i.token ≡ token.End → next ≡ state.Finished
emit_end st next t i s e = subst Last s (step_end st i e)

pub refuses_from : (e : ParseFault) (a b : Reading) → a ≡ b → Refuses e b → Refuses e a
refuses_from (Refused r) a b h w = h ∙ w
refuses_from NoMemory a b h w = tt

pub refused_text : (items : List Item) (e : ParseFault) → Refuses e (run 0 0 [] state.Start items) → IfRefused e (IsRefused items)
refused_text items (Refused r) h = run_refuses items r h
refused_text items NoMemory h = tt

is_end_is : (t : Token) → is_end t ≡ true → t ≡ token.End
is_end_is token.End e = refl
is_end_is _ e = cc

-- the end is the last token
pub read_last : (o u : ℕ) (done : List Statement) (st : State) (p v : ℕ) (more : List Statement) (next : State) (i : Item) (rest : List Item) → is_end i.token ≡ true →
    ((is : List Item) → run o u done st (i ∷ is) ≡ run p v more next is) → (i.token ≡ token.End → next ≡ state.Finished) →
    run o u done st (i ∷ behind i rest) ≡ Ok (Some more)
read_last o u done st p v more next i rest e reads last = rw e (reads [] ∙ run_end p v more next ∙ ap (λ (s : State). Ok (outcome s more)) (last (is_end_is i.token e)))

-- the other tokens have more behind them
pub read_on : (o u : ℕ) (done : List Statement) (st : State) (p v : ℕ) (more : List Statement) (next : State) (i : Item) (rest : List Item) → is_end i.token ≡ false →
    ((is : List Item) → run o u done st (i ∷ is) ≡ run p v more next is) → run o u done st (i ∷ behind i rest) ≡ run p v more next rest
read_on o u done st p v more next i rest e reads = rw e (reads rest)
