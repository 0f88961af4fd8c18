-- The run refuses the first token that has a fault, and else gives the script.
use Rattle.std.proofs.Common.{◌≡◌, ℕ, ◌<◌, ◌≤◌, List, [], ◌∷◌, ◌++◌, Option, Some, None, IfSome, Result, Ok, Err, refl, sym, ap, subst, arith, Bool, true, false, ◌&&◌, ◌∙◌, nat_le, cond, append-nil, append_assoc, ◌⊎◌, inl, inr}
use Rattle.std.proofs.lemmas.Bool.Decides.{nat_tests}
use Rattle.arr_tokens.specs.declared.token.Item.{Item}
use Rattle.arr_tokens.specs.declared.token.Token.{Token}
use Rattle.arr_tokens.specs.declared.token.Token.TheVariants as token
use Rattle.arr_tree.specs.declared.refusal.Kind.{Kind}
use Rattle.arr_tree.specs.declared.refusal.Kind.TheVariants.{BadByte, NumberTooWide, NameTooLong, StatementTooLong, TooDeep, Unexpected}
use Rattle.arr_tree.specs.declared.refusal.Refusal.{Refusal}
use Rattle.arr_syntax.specs.declared.state.State.{State}
use Rattle.arr_syntax.specs.declared.state.State.TheVariants as state
use Rattle.arr_syntax.specs.declared.state.Move.{Move}
use Rattle.arr_syntax.specs.declared.state.Move.TheVariants as move
use Rattle.arr_tree.specs.declared.tree.Statement.{Statement}
use Rattle.arr_syntax.specs.Grammar as grammar
use Rattle.arr_syntax.specs.Machine.{step}
use Rattle.arr_syntax.specs.Limits.{open_limit, length_limit, is_counted, is_opening, open_after, used_after, open_from, used_from}
use Rattle.arr_syntax.specs.Run.{run, verdict, own_fault, count_fault, open_fault, expected, unless, outcome, judged, Reading}
use Rattle.arr_syntax.specs.Refused.{Begins, Fits, rank, IsRefusedAt, NoneFits, IsRefused, IsScript}
use Rattle.arr_syntax.proofs.Completes.{Completes, Next, WellFormed, WellMoved}
use Rattle.arr_syntax.proofs.Forward.{forward}
use Rattle.arr_syntax.proofs.Backward.{backward}
use Rattle.arr_syntax.proofs.Completable.{Can, completable, step_formed}

pub run_one : (open_now used : ℕ) (done : List Statement) (st : State) (i : Item) (is : List Item) →
    run open_now used done st (i ∷ is) ≡
    judged i (verdict open_now used i.token (step st i)) done (λ more next. run (open_after open_now i.token) (used_after used i.token) more next is)
unfolding run
run_one open_now used done st i is = refl

pub run_end : (open_now used : ℕ) (done : List Statement) (st : State) → run open_now used done st [] ≡ Ok (outcome st done)
unfolding run
run_end open_now used done st = refl

-- what the tokens behind these must be, of a whole script that begins with these and with these statements
record Meets (before : List Item) (done : List Statement) (P : List Item → List Statement → Type 0) : Type 0 where
  to : (ts : List Item) (r : List Statement) → P ts r → grammar.Script (before ++ ts) (done ++ r)
  from : (ts : List Item) (r : List Statement) → grammar.Script (before ++ ts) r → (q : List Statement) × P ts q × (r ≡ done ++ q)

-- where the reading of a text stands behind some of its tokens
record Stands (before : List Item) (open_now used : ℕ) (done : List Statement) (st : State) : Type 0 where
  well : WellFormed st
  meets : Meets before done (Completes st)
  none : NoneFits before
  open_is : open_now ≡ open_from 0 before
  used_is : used ≡ used_from 0 before

open_last : (n : ℕ) (before : List Item) (i : Item) → open_from n (before ++ i ∷ []) ≡ open_after (open_from n before) i.token
open_last n [] i = refl
open_last n (j ∷ before) i = open_last (open_after n j.token) before i

used_last : (n : ℕ) (before : List Item) (i : Item) → used_from n (before ++ i ∷ []) ≡ used_after (used_from n before) i.token
used_last n [] i = refl
used_last n (j ∷ before) i = used_last (used_after n j.token) before i

-- a split of a list with one more element at its end is a split of the list, or is at that element
split_last : (xs b a : List Item) (x i : Item) → xs ++ x ∷ [] ≡ b ++ i ∷ a → ((c : List Item) × (xs ≡ b ++ i ∷ c)) ⊎ ((xs ≡ b) × (x ≡ i))
split_last [] [] a x i e = inr (refl, cc)
split_last [] (y ∷ []) a x i e = cc
split_last [] (y ∷ z ∷ b) a x i e = cc
split_last (y ∷ xs) [] a x i e = let s : y ≡ i = cc in inl (xs, ap (λ (v : Item). v ∷ xs) s)
split_last (y ∷ xs) (z ∷ b) a x i e =
    let s : y ≡ z = cc in
    let r : xs ++ x ∷ [] ≡ b ++ i ∷ a = cc in
    elim (split_last xs b a x i r) [ inl p ↦ inl (p.0, cc p.1) | inr p ↦ inr (cc p.0, p.1) ]

own_bad : (t : Token) → own_fault t ≡ None → t ≡ token.Bad → ⊥
own_bad token.Bad o e = cc
own_bad _ o e = cc

own_wide : (t : Token) → own_fault t ≡ None → t ≡ token.Wide → ⊥
own_wide token.Wide o e = cc
own_wide _ o e = cc

own_long : (t : Token) → own_fault t ≡ None → t ≡ token.Long → ⊥
own_long token.Long o e = cc
own_long _ o e = cc

-- a test and a bound, and what they make
if_none : (b c : Bool) (k : Kind) → cond (b && c) (Some k) None ≡ None → b ≡ true → c ≡ false
if_none true true k e h = cc
if_none true false k e h = refl
if_none false c k e h = cc

if_some : (b c : Bool) (k l : Kind) → cond (b && c) (Some k) None ≡ Some l → (l ≡ k) × (b ≡ true) × (c ≡ true)
if_some true true k l e = (cc, refl, refl)
if_some true false k l e = cc
if_some false c k l e = cc

not_below : (n m : ℕ) → nat_le n m ≡ false → n ≤ m → ⊥
not_below n m e h = grind (arith, nat_tests)

at_least : (n m : ℕ) → nat_le n m ≡ true → n ≤ m
at_least n m e = grind (arith, nat_tests)

own_at : (before : List Item) (i : Item) (t : Token) → i.token ≡ t → (k : Kind) → own_fault t ≡ Some k → IsRefusedAt before i k
own_at before i token.Bad s BadByte e = (s, λ other h f. absurd (omega arith))
own_at before i token.Wide s NumberTooWide e = (s, earlier)
  where
    earlier : (other : Kind) → rank other < 1 → Fits other before i → ⊥
    earlier BadByte h f = cc
    earlier _ h f = omega arith
own_at before i token.Long s NameTooLong e = (s, earlier)
  where
    earlier : (other : Kind) → rank other < 2 → Fits other before i → ⊥
    earlier BadByte h f = cc
    earlier NumberTooWide h f = cc
    earlier _ h f = omega arith
own_at before i _ s _ e = cc

next_can : (m : Move) → WellMoved m → (m ≡ move.Stuck → ⊥) → Can (Next m)
next_can move.Stuck w n = absurd (n refl)
next_can (move.On st) w n = completable st w
next_can (move.Emit s st) w n = let x = completable st w in (x.0, s ∷ x.1, (x.1, x.2, refl))

regroup : (before : List Item) (i : Item) (is : List Item) → before ++ i ∷ is ≡ (before ++ i ∷ []) ++ is
regroup before i is = sym (append_assoc before (i ∷ []) is)

module _ (before : List Item) (open_now used : ℕ) (done : List Statement) (st : State) (i : Item) where
  meets_next : Stands before open_now used done st → Meets (before ++ i ∷ []) done (Next (step st i))
  meets_next here = record {
    to = λ ts r k. subst (λ (l : List Item). grammar.Script l (done ++ r)) (regroup before i ts) (here.meets.to (i ∷ ts) r (backward r st i ts here.well k));
    from = λ ts r k.
        let x = here.meets.from (i ∷ ts) r (subst (λ (l : List Item). grammar.Script l r) (sym (regroup before i ts)) k) in
        (x.0, forward i x.0 st ts here.well x.1, x.2);
  }

  begins_on : Stands before open_now used done st → (step st i ≡ move.Stuck → ⊥) → Begins (before ++ i ∷ [])
  begins_on here n = let c = next_can (step st i) (step_formed st i here.well) n in (c.0, done ++ c.1, (meets_next here).to c.0 c.1 c.2)

  begins_not : Stands before open_now used done st → step st i ≡ move.Stuck → Begins (before ++ i ∷ []) → ⊥
  begins_not here e (more, ss, script) = let x = (meets_next here).from more ss script in subst (λ (m : Move). Next m more x.0) e x.1

  none_fits : Stands before open_now used done st → own_fault i.token ≡ None → count_fault used i.token ≡ None → (step st i ≡ move.Stuck → ⊥) →
      open_fault open_now i.token ≡ None → (k : Kind) → Fits k before i → ⊥
  none_fits here o c e d BadByte f = own_bad i.token o f
  none_fits here o c e d NumberTooWide f = own_wide i.token o f
  none_fits here o c e d NameTooLong f = own_long i.token o f
  none_fits here o c e d StatementTooLong f = not_below length_limit used (if_none _ _ StatementTooLong c f.0) (rw here.used_is f.1)
  none_fits here o c e d TooDeep f = not_below open_limit open_now (if_none _ _ TooDeep d f.0) (rw here.open_is f.1)
  none_fits here o c e d Unexpected f = f (begins_on here e)
  none_fits here o c e d _ f = f

  abbrev There : List Statement → State → Type 0
  There more next = Stands (before ++ i ∷ []) (open_after open_now i.token) (used_after used i.token) more next

  abbrev Moved : Move → Type 0
  Moved move.Stuck = Unit {0}
  Moved (move.On next) = There done next
  Moved (move.Emit s next) = There (done ++ s ∷ []) next

  stands_on : Stands before open_now used done st → own_fault i.token ≡ None → count_fault used i.token ≡ None → open_fault open_now i.token ≡ None →
      (m : Move) → step st i ≡ m → (m ≡ move.Stuck → ⊥) → Moved m
  stands_on here o c d m e n = there m (subst WellMoved e (step_formed st i here.well)) (subst (λ (x : Move). Meets (before ++ i ∷ []) done (Next x)) e (meets_next here))
    where
      none_here : NoneFits (before ++ i ∷ [])
      none_here b a j s k f =
          elim (split_last before b a i j s) [
            | inl p ↦ here.none b p.0 j p.1 k f
            | inr p ↦ none_fits here o c (λ g. n (sym e ∙ g)) d k (subst (λ (v : Item). Fits k before v) (sym p.1) (subst (λ (v : List Item). Fits k v j) (sym p.0) f))
          ]

      there : (x : Move) → WellMoved x → Meets (before ++ i ∷ []) done (Next x) → Moved x
      there move.Stuck w k = tt
      there (move.On next) w k = record { well = w; meets = k; none = none_here; open_is = rw (here.open_is, open_last) refl; used_is = rw (here.used_is, used_last) refl }
      there (move.Emit s next) w k = record {
        well = w;
        meets = record {
          to = λ ts r p. subst (λ (l : List Statement). grammar.Script ((before ++ i ∷ []) ++ ts) l) (sym (append_assoc done (s ∷ []) r)) (k.to ts (s ∷ r) (r, p, refl));
          from = λ ts r p.
              let x = k.from ts r p in
              (x.1.0, x.1.1, x.2 ∙ ap (λ (l : List Statement). done ++ l) x.1.2 ∙ sym (append_assoc done (s ∷ []) x.1.0));
        };
        none = none_here;
        open_is = rw (here.open_is, open_last) refl;
        used_is = rw (here.used_is, used_last) refl;
      }

  refuses_long : Stands before open_now used done st → own_fault i.token ≡ None → (k : Kind) → count_fault used i.token ≡ Some k → IsRefusedAt before i k
  refuses_long here o k c =
      let x = if_some (is_counted i.token) (nat_le length_limit used) StatementTooLong k c in
      rw x.0 ((x.1, rw (← here.used_is) (at_least length_limit used x.2)), earlier)
    where
      earlier : (other : Kind) → rank other < 3 → Fits other before i → ⊥
      earlier BadByte h f = own_bad i.token o f
      earlier NumberTooWide h f = own_wide i.token o f
      earlier NameTooLong h f = own_long i.token o f
      earlier _ h f = omega arith

  refuses_deep : Stands before open_now used done st → own_fault i.token ≡ None → count_fault used i.token ≡ None → (step st i ≡ move.Stuck → ⊥) →
      (k : Kind) → open_fault open_now i.token ≡ Some k → IsRefusedAt before i k
  refuses_deep here o c e k d =
      let x = if_some (is_opening i.token) (nat_le open_limit open_now) TooDeep k d in
      rw x.0 ((x.1, rw (← here.open_is) (at_least open_limit open_now x.2), begins_on here e), earlier)
    where
      earlier : (other : Kind) → rank other < 4 → Fits other before i → ⊥
      earlier BadByte h f = own_bad i.token o f
      earlier NumberTooWide h f = own_wide i.token o f
      earlier NameTooLong h f = own_long i.token o f
      earlier StatementTooLong h f = not_below length_limit used (if_none _ _ StatementTooLong c f.0) (rw here.used_is f.1)
      earlier _ h f = omega arith

  refuses_unexpected : Stands before open_now used done st → own_fault i.token ≡ None → count_fault used i.token ≡ None → step st i ≡ move.Stuck → IsRefusedAt before i Unexpected
  refuses_unexpected here o c e = (begins_not here e, earlier)
    where
      earlier : (other : Kind) → rank other < 5 → Fits other before i → ⊥
      earlier BadByte h f = own_bad i.token o f
      earlier NumberTooWide h f = own_wide i.token o f
      earlier NameTooLong h f = own_long i.token o f
      earlier StatementTooLong h f = not_below length_limit used (if_none _ _ StatementTooLong c f.0) (rw here.used_is f.1)
      earlier TooDeep h f = begins_not here e f.2
      earlier _ h f = omega arith

  -- the verdict on one token
  abbrev Verdict : Result Move Kind → Type 0
  Verdict (Ok m) = Moved m
  Verdict (Err k) = IsRefusedAt before i k

  verdict_is : Stands before open_now used done st → (a b d : Option Kind) (m : Move) → own_fault i.token ≡ a → count_fault used i.token ≡ b → step st i ≡ m →
      open_fault open_now i.token ≡ d → Verdict (unless a (unless b (expected m d)))
  verdict_is here (Some k) b d m o c e g = own_at before i i.token refl k o
  verdict_is here None (Some k) d m o c e g = refuses_long here o k c
  verdict_is here None None d move.Stuck o c e g = refuses_unexpected here o c e
  verdict_is here None None (Some k) (move.On next) o c e g = refuses_deep here o c (λ h. let x : move.On next ≡ move.Stuck = sym e ∙ h in cc) k g
  verdict_is here None None (Some k) (move.Emit s next) o c e g = refuses_deep here o c (λ h. let x : move.Emit s next ≡ move.Stuck = sym e ∙ h in cc) k g
  verdict_is here None None None (move.On next) o c e g = stands_on here o c g (move.On next) e (λ h. cc)
  verdict_is here None None None (move.Emit s next) o c e g = stands_on here o c g (move.Emit s next) e (λ h. cc)

-- what a reading of the rest says of the whole text
abbrev Read : List Item → Reading → Type 0
Read text (Err r) = IsRefused text r
Read text (Ok o) = IfSome o (λ ss. IsScript text ss)

at_end : (before : List Item) (open_now used : ℕ) (done : List Statement) (st : State) → Stands before open_now used done st → IfSome (outcome st done) (λ ss. IsScript (before ++ []) ss)
at_end before open_now used done state.Finished here = record {
  script = subst (λ (l : List Statement). grammar.Script (before ++ []) l) (append-nil done) (here.meets.to [] [] (tt, refl));
  none = subst NoneFits (sym (append-nil before)) here.none;
}
at_end before open_now used done _ here = tt

reading : (items before : List Item) (open_now used : ℕ) (done : List Statement) (st : State) → Stands before open_now used done st → Read (before ++ items) (run open_now used done st items)
reading [] before open_now used done st here = rw (run_end open_now used done st) (at_end before open_now used done st here)
reading (i ∷ is) before open_now used done st here =
    rw (run_one open_now used done st i is)
    (next_one (verdict open_now used i.token (step st i)) (verdict_is before open_now used done st i here _ _ _ _ refl refl refl refl)
    (λ more next there. reading is (before ++ i ∷ []) (open_after open_now i.token) (used_after used i.token) more next there))
  where
    next_one : (v : Result Move Kind) → Verdict before open_now used done st i v →
        ((more : List Statement) (next : State) → There before open_now used done st i more next →
        Read ((before ++ i ∷ []) ++ is) (run (open_after open_now i.token) (used_after used i.token) more next is)) →
        Read (before ++ i ∷ is) (judged i v done (λ more next. run (open_after open_now i.token) (used_after used i.token) more next is))
    next_one (Ok move.Stuck) j rest = tt
    next_one (Ok (move.On next)) j rest = subst (λ (l : List Item). Read l (run (open_after open_now i.token) (used_after used i.token) done next is)) (sym (regroup before i is)) (rest done next j)
    next_one (Ok (move.Emit s next)) j rest =
        subst (λ (l : List Item). Read l (run (open_after open_now i.token) (used_after used i.token) (done ++ s ∷ []) next is)) (sym (regroup before i is)) (rest (done ++ s ∷ []) next j)
    next_one (Err k) j rest = record { before = before; item = i; after = is; whole = refl; first = here.none; at = refl; kind = j }

begun : Stands [] 0 0 [] state.Start
begun = record {
  well = tt;
  meets = record { to = λ ts r k. k; from = λ ts r k. (r, k, refl) };
  none = λ b a i e k f. nothing b a i e;
  open_is = refl;
  used_is = refl;
}
  where
    nothing : (b a : List Item) (i : Item) → [] ≡ b ++ i ∷ a → ⊥
    nothing [] a i e = cc
    nothing (j ∷ b) a i e = cc

pub run_refuses : (items : List Item) (r : Refusal) → run 0 0 [] state.Start items ≡ Err r → IsRefused items r
run_refuses items r e = let P : Reading → Type 0 = Read items in subst P e (reading items [] 0 0 [] state.Start begun)

pub run_script : (items : List Item) (ss : List Statement) → run 0 0 [] state.Start items ≡ Ok (Some ss) → IsScript items ss
run_script items ss e = let P : Reading → Type 0 = Read items in subst P e (reading items [] 0 0 [] state.Start begun)
