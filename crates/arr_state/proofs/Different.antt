-- Numbers that all differ.
use Rattle.std.proofs.Common.{◌≡◌, ℕ, suc, ◌-◌, ◌≤◌, List, [], ◌∷◌, length, get_or, take, drop, Bool, true, ◌&&◌, not, sym, ap, ◌∙◌, arith}
use Rattle.std.specs.Prelude.{◌==◌}
use Rattle.std.specs.List.{list_all}
use Rattle.std.proofs.lemmas.List.{take_all}
use Rattle.arr_ops.specs.Formed.{all_pairs}

pub pairs_step : (xs : List ℕ) (r s : Bool) → 1 ≤ length xs → r ≡ list_all (λ g. not (get_or xs 0 0 == g)) (take (length xs - 1) (drop 1 xs)) → r ≡ true → s ≡ all_pairs (λ f g. not (f == g)) (take (length xs - 1) (drop 1 xs)) → s ≡ all_pairs (λ f g. not (f == g)) xs
pairs_step [] r s l h e k = absurd (omega arith)
pairs_step (x ∷ xs) r s l h e k =
    let all : take (suc (length xs) - 1) xs ≡ xs = take_all (suc (length xs) - 1) xs (omega arith) in
    let k' : s ≡ all_pairs (λ f g. not (f == g)) xs = k ∙ ap (all_pairs (λ f g. not (f == g))) all in
    let h' : list_all (λ g. not (x == g)) xs ≡ true = ap (list_all (λ g. not (x == g))) (sym all) ∙ (sym h ∙ e) in
    k' ∙ ap (λ b. b && all_pairs (λ f g. not (f == g)) xs) (sym h')
