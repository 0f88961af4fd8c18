use Rattle.std.proofs.Common.{◌≡◌, ◌∙◌, ◌<◌, ℕ, suc, List, ◌∷◌, length, ap, sym, arith}
use Rattle.arr_gather.specs.Places.{to_visit}
use Rattle.arr_gather.proofs.Rows.{row_more}
use Rattle.arr_gather.proofs.places.PlacesIterator.next.Goals as goal

pub returns-in-Row-clause-steps : goal.returns-in-Row-clause-steps
returns-in-Row-clause-steps c = sym c.self.view_is ∙ ap to_visit c.in-Row.is ∙ row_more c.in-Row.next c.in-Row.end (omega (arith, c.if-place-end.false))

shorter : (xs ys : List ℕ) (x : ℕ) → xs ≡ x ∷ ys → length ys < length xs
shorter xs ys x e = let h : length xs ≡ suc (length ys) = ap length e in omega arith

pub returns-in-Row-clause-goes : goal.returns-in-Row-clause-goes
returns-in-Row-clause-goes c =
    let less = shorter _ _ _ (returns-in-Row-clause-steps c) in
    record { on = λ f. (tt, tt, less); keeps = tt; rests = λ f. tt }
