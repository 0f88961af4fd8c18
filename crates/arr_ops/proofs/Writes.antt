-- Reads and writes at lists of places that share none.
use Rattle.std.proofs.Common.{◌≡◌, ◌≢◌, ℕ, ℤ, pos, List, [], ◌∷◌, Bool, true, false, ◌||◌, refl, ap, sym, ◌∙◌, set, get_or, map, get_or-set_other}
use Rattle.std.proofs.lemmas.List.{set_comm}
use Rattle.std.proofs.lemmas.Bool.{eqb-false}
use Rattle.std.specs.Prelude.{nat_eq}
use Rattle.arr_view.specs.Views.{has, share}
use Rattle.arr_ops.specs.Memory.{write}

pub or_left : (a b : Bool) → (a || b) ≡ false → a ≡ false
or_left true b e = e
or_left false b e = refl

pub or_right : (a b : Bool) → (a || b) ≡ false → b ≡ false
or_right true b e = absurd (cc)
or_right false b e = e

pub has_not : (p q : ℕ) (qs : List ℕ) → has (q ∷ qs) p ≡ false → p ≢ q
has_not p q qs h = eqb-false p q (or_left (nat_eq p q) (has qs p) h)

pub set-write : (qs : List ℕ) (ys ns : List ℤ) (p : ℕ) (x : ℤ) → has qs p ≡ false → set (write qs ys ns) p x ≡ write qs ys (set ns p x)
set-write [] ys ns p x h = refl
set-write (q ∷ qs) [] ns p x h = refl
set-write (q ∷ qs) (y ∷ ys) ns p x h =
    let ne : q ≢ p = λ e. has_not p q qs h (sym e) in
    set-write qs ys (set ns q y) p x (or_right (nat_eq p q) (has qs p) h) ∙ ap (write qs ys) (set_comm ns q p y x ne)

pub write-write : (ps qs : List ℕ) (xs ys ns : List ℤ) → share ps qs ≡ false → write ps xs (write qs ys ns) ≡ write qs ys (write ps xs ns)
write-write [] qs xs ys ns h = refl
write-write (p ∷ ps) qs [] ys ns h = refl
write-write (p ∷ ps) qs (x ∷ xs) ys ns h =
    ap (write ps xs) (set-write qs ys ns p x (or_left (has qs p) (share ps qs) h))
    ∙ write-write ps qs xs ys (set ns p x) (or_right (has qs p) (share ps qs) h)

abbrev pub read_all : List ℤ → List ℕ → List ℤ
read_all ns ps = map (λ p. get_or ns p (pos 0)) ps

read-set : (ps : List ℕ) (ns : List ℤ) (q : ℕ) (y : ℤ) → has ps q ≡ false → read_all (set ns q y) ps ≡ read_all ns ps
read-set [] ns q y h = refl
read-set (p ∷ ps) ns q y h =
    let ne : p ≢ q = λ e. has_not q p ps h (sym e) in
    let a : get_or (set ns q y) p (pos 0) ≡ get_or ns p (pos 0) = get_or-set_other ns q p y (pos 0) ne in
    let b : read_all (set ns q y) ps ≡ read_all ns ps = read-set ps ns q y (or_right (nat_eq q p) (has ps q) h) in
    λ i. a i ∷ b i

pub read-write : (qs ps : List ℕ) (ys ns : List ℤ) → share qs ps ≡ false → read_all (write qs ys ns) ps ≡ read_all ns ps
read-write [] ps ys ns h = refl
read-write (q ∷ qs) ps [] ns h = refl
read-write (q ∷ qs) ps (y ∷ ys) ns h =
    read-write qs ps ys (set ns q y) (or_right (has ps q) (share qs ps) h) ∙ read-set ps ns q y (or_left (has ps q) (share qs ps) h)
