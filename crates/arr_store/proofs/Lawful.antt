-- Cells stay lawful.
use Rattle.std.proofs.Common.{◌≡◌, ℕ, zero, suc, ◌≤◌, ℤ, pos, List, [], ◌∷◌, length, set, replicate, true, refl, ap, ◌∙◌}
use Rattle.std.proofs.lemmas.Bool.{le-leb}
use Rattle.std.proofs.lemmas.List.{length-set, length-replicate}
use Rattle.std.specs.Prelude.{◌&&◌, nat_le, IsTrue, Bool}
use Rattle.std.specs.List.{list_all}
use Rattle.arr_num.specs.declared.elem.Elem.{Elem}
use Rattle.arr_num.specs.Numbers.{in_type}
use Rattle.arr_ops.specs.Memory.{Cell, write}
use Rattle.arr_ops.proofs.Tests.{both_left, both_right}
use Rattle.arr_ops.proofs.Typed.{zero_in}
use Rattle.arr_store.specs.Cells.{blank, lawful}

pub both : (a b : Bool) → a ≡ true → b ≡ true → (a && b) ≡ true
both a b h k = ap (λ p. p && b) h ∙ k

zeros_in : (t : Elem) (n : ℕ) → list_all (in_type t) (replicate n (pos 0)) ≡ true
zeros_in t zero = refl
zeros_in t (suc n) = both _ _ (zero_in t) (zeros_in t n)

pub set_in : (t : Elem) (zs : List ℤ) (p : ℕ) (z : ℤ) → in_type t z ≡ true → list_all (in_type t) zs ≡ true → list_all (in_type t) (set zs p z) ≡ true
set_in t [] p z h all = refl
set_in t (x ∷ zs) zero z h all = both _ _ h (both_right (in_type t x) _ all)
set_in t (x ∷ zs) (suc p) z h all = both _ _ (both_left _ _ all) (set_in t zs p z h (both_right (in_type t x) _ all))

pub lawful_blank : (t : Elem) (n : ℕ) → 1 ≤ n → n ≤ 1048576 → IsTrue (lawful (blank t n))
lawful_blank t n some few =
    let e : length (replicate n (pos 0)) ≡ n = length-replicate n (pos 0) in
    both _ _ (zeros_in t n) (both _ _ (ap (nat_le 1) e ∙ le-leb 1 n some) (ap (λ k. nat_le k 1048576) e ∙ le-leb n 1048576 few))

pub lawful_set : (c : Cell) (p : ℕ) (z : ℤ) → in_type c.elem z ≡ true → IsTrue (lawful c) → IsTrue (lawful (record { elem = c.elem; numbers = set c.numbers p z }))
lawful_set c p z h all =
    let e : length (set c.numbers p z) ≡ length c.numbers = length-set c.numbers p z in
    both _ _ (set_in c.elem c.numbers p z h (both_left _ _ all)) (ap (λ n. nat_le 1 n && nat_le n 1048576) e ∙ both_right (list_all (in_type c.elem) c.numbers) _ all)

write_in : (t : Elem) (es : List ℕ) (xs ns : List ℤ) → list_all (in_type t) xs ≡ true → list_all (in_type t) ns ≡ true → list_all (in_type t) (write es xs ns) ≡ true
write_in t [] xs ns h all = all
write_in t (e ∷ es) [] ns h all = all
write_in t (e ∷ es) (x ∷ xs) ns h all = write_in t es xs (set ns e x) (both_right (in_type t x) _ h) (set_in t ns e x (both_left (in_type t x) (list_all (in_type t) xs) h) all)

pub length-write : (es : List ℕ) (xs ns : List ℤ) → length (write es xs ns) ≡ length ns
length-write [] xs ns = refl
length-write (e ∷ es) [] ns = refl
length-write (e ∷ es) (x ∷ xs) ns = length-write es xs (set ns e x) ∙ length-set ns e x

pub lawful_run : (c : Cell) (es : List ℕ) (xs : List ℤ) → list_all (in_type c.elem) xs ≡ true → IsTrue (lawful c) → IsTrue (lawful (record { elem = c.elem; numbers = write es xs c.numbers }))
lawful_run c es xs h all =
    both _ _ (write_in c.elem es xs c.numbers h (both_left _ _ all))
    (ap (λ n. nat_le 1 n && nat_le n 1048576) (length-write es xs c.numbers) ∙ both_right (list_all (in_type c.elem) c.numbers) _ all)
