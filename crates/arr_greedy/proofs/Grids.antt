-- Tables of rows of one width, filled place after place.
use Rattle.std.proofs.Common.{◌≡◌, ℕ, ◌+◌, [], ◌∷◌, ◌++◌, ap, ◌∙◌, arith}
use Rattle.std.specs.Prelude.{Bool, cond}
use Rattle.std.specs.List.{filter, range_with_len}
use Rattle.std.proofs.lemmas.List.Elements.{filter-append}
use Rattle.arr_heur.proofs.Stretches.{range_more}

-- the numbers from 1 on that pass, with one more
pub filter_more : (p : ℕ → Bool) (n : ℕ) → filter p (range_with_len 1 (n + 1)) ≡ filter p (range_with_len 1 n) ++ cond (p (n + 1)) ((n + 1) ∷ []) []
filter_more p n =
    ap (filter p) (range_more 1 n ∙ ap (λ k. range_with_len 1 n ++ k ∷ []) (let e : 1 + n ≡ n + 1 = omega arith in e))
    ∙ filter-append p (range_with_len 1 n) ((n + 1) ∷ [])
