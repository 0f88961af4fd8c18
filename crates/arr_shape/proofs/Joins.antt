-- The cuts of all dimensions, one after another.
use Rattle.std.proofs.Common.{◌≡◌, ℕ, ◌+◌, ◌<◌, ◌≤◌, List, [], ◌∷◌, ◌++◌, length, get_or, drop, refl, ap, ap₂, sym, ◌∙◌, arith, append_assoc}
use Rattle.std.specs.Prelude.{Result, Ok, Err}
use Rattle.std.proofs.lemmas.List.{drop_more, drop_all}
use Rattle.arr_shape.specs.declared.bounds.Cut.{Cut}
use Rattle.arr_shape.specs.declared.bounds.Slice.{Slice}
use Rattle.arr_shape.specs.declared.fault.ShapeFault.{ShapeFault}
use Rattle.arr_shape.specs.Slices.{cut, all_cuts, and_then, whole_cut, AreCuts}

-- these cuts, and then those of the rest
abbrev pub after : List Cut → Result (List Cut) ShapeFault → Result (List Cut) ShapeFault
after done (Err e) = Err e
after done (Ok cs) = Ok (done ++ cs)

pub after_none : (r : Result (List Cut) ShapeFault) → after [] r ≡ r
after_none (Err e) = refl
after_none (Ok cs) = refl

pub after_more : (done : List Cut) (c : Cut) (r : Result (List Cut) ShapeFault) → after (done ++ (c ∷ [])) r ≡ after done (and_then (Ok c) r)
after_more done c (Err e) = refl
after_more done c (Ok cs) = ap Ok (append_assoc done (c ∷ []) cs)

pub cuts_more : (ns : List ℕ) (slices : List Slice) (i : ℕ) (d : Slice) → i < length ns → i < length slices
    → all_cuts (drop i ns) (drop i slices) ≡ and_then (cut (get_or ns i 0) (get_or slices i d)) (all_cuts (drop (i + 1) ns) (drop (i + 1) slices))
cuts_more ns slices i d a b = ap₂ all_cuts (drop_more ns i 0 a) (drop_more slices i d b)

pub cuts_whole : (ns : List ℕ) (slices : List Slice) (i : ℕ) → i < length ns → length slices ≤ i
    → all_cuts (drop i ns) (drop i slices) ≡ and_then (Ok (whole_cut (get_or ns i 0))) (all_cuts (drop (i + 1) ns) (drop (i + 1) slices))
cuts_whole ns slices i a b =
    ap₂ all_cuts (drop_more ns i 0 a) (drop_all i slices b) ∙ ap (λ xs. and_then (Ok (whole_cut (get_or ns i 0))) (all_cuts (drop (i + 1) ns) xs)) (sym (drop_all (i + 1) slices (omega arith)))

pub cuts_append : (ms ns : List ℕ) (bs cs : List Cut) → AreCuts ms bs → AreCuts ns cs → AreCuts (ms ++ ns) (bs ++ cs)
cuts_append [] ns [] cs a h = h
cuts_append [] ns (b ∷ bs) cs a h = absurd a
cuts_append (m ∷ ms) ns [] cs a h = absurd a
cuts_append (m ∷ ms) ns (b ∷ bs) cs a h = (a.0, cuts_append ms ns bs cs a.1 h)
