-- Texts that are written one after another.
use Rattle.std.proofs.Common.{◌≡◌, ℕ, zero, suc, ◌+◌, ◌<◌, List, [], ◌∷◌, ◌++◌, length, take, get_or, Option, Some, None, Result, Ok, Err, sym, ap, ◌∙◌, subst, arith, length-append, append_assoc}
use Rattle.std.specs.Prelude.{slice_get, OnOk, OnErr}
use Rattle.std.specs.List.{flat_map}
use Rattle.std.proofs.lemmas.List.{take-append-le, append-nil}
use Rattle.std.proofs.Math.Seq.{take-append-add}
use Rattle.std.proofs.KnownBytes.{Appends-trans}
use Rattle.std.specs.Io.KnownBytes.{Appends}
use Rattle.arr_io.specs.Causes.{HasCause}
use Rattle.arr_io.specs.Taken.{AppendsPart}
use Rattle.arr_cert.specs.Wrote.{Wrote, WroteMore}

part_after : (a b c : Option (List ℕ)) (s t : List ℕ) → Appends a b s → AppendsPart b c t → AppendsPart a c (s ++ t)
part_after a b c s t p q =
    (length s + q.0, omega (arith, q.1, length-append s t), subst (Appends a c) (sym (take-append-add s t q.0)) (Appends-trans a b c s (take q.0 t) p q.2))

part_before : (a c : Option (List ℕ)) (s u : List ℕ) → AppendsPart a c s → AppendsPart a c (s ++ u)
part_before a c s u p = (p.0, omega (arith, p.1, length-append s u), subst (Appends a c) (sym (take-append-le p.0 s u (omega (arith, p.1)))) p.2)

-- a call that writes all bytes, or fails, after what went well
pub wrote_ok : (T E : Type 0) (b c : Option (List ℕ)) (n o : ℕ) (p r : Result T E) (v : T) (bytes : List ℕ) → p ≡ Ok v → OnOk r (Appends b c bytes) → OnErr r (AppendsPart b c bytes) → HasCause n o r → WroteMore b c n o p r bytes
wrote_ok T E b c n o p r v bytes is all part cause = subst (λ q. WroteMore {T = T} {E = E} b c n o q r bytes) (sym is) (go r all part cause)
  where
    go : (r : Result T E) → OnOk r (Appends b c bytes) → OnErr r (AppendsPart b c bytes) → HasCause n o r → WroteMore {T = T} {E = E} b c n o (Ok v) r bytes
    go (Ok u) all part cause = λ a m text w.
        record { all = Appends-trans a b c text bytes w.all all; part = tt; cause = record { later = omega (arith, w.cause.later, cause.later); failed = tt } }
    go (Err e) all part cause = λ a m text w.
        record { all = tt; part = part_after a b c text bytes w.all part; cause = record { later = omega (arith, w.cause.later, cause.later); failed = omega (arith, w.cause.later, cause.failed) } }

-- nothing more is written after a fault
pub wrote_err : (T E : Type 0) (b : Option (List ℕ)) (n : ℕ) (p : Result T E) (e : E) (bytes : List ℕ) → p ≡ Err e → WroteMore b b n n p (Err e) bytes
wrote_err T E b n p e bytes is =
    subst (λ q. WroteMore {T = T} {E = E} b b n n q (Err e) bytes) (sym is) (λ a m text w. record { all = tt; part = part_before a b text bytes w.part; cause = w.cause })

pub wrote_empty : (T E : Type 0) (b : Option (List ℕ)) (n : ℕ) (r : Result T E) → WroteMore b b n n r r []
wrote_empty T E b n r = λ a m text w. subst (Wrote {T = T} {E = E} a b m n r) (sym (append-nil text)) w

pub wrote_both : (T E : Type 0) (a b c : Option (List ℕ)) (m n o : ℕ) (p q r : Result T E) (s t u : List ℕ) → WroteMore a b m n p q s → WroteMore b c n o q r t → s ++ t ≡ u → WroteMore a c m o p r u
wrote_both T E a b c m n o p q r s t u x y e = λ start first text w.
    subst (Wrote {T = T} {E = E} start c first o r) (append_assoc text s t ∙ ap (λ z. text ++ z) e) (y start first (text ++ s) (x start first text w))

pub wrote_as : (T E : Type 0) (a b : Option (List ℕ)) (m n : ℕ) (p q : Result T E) (s t : List ℕ) → WroteMore a b m n p q s → s ≡ t → WroteMore a b m n p q t
wrote_as T E a b m n p q s t x e = subst (WroteMore {T = T} {E = E} a b m n p q) e x

-- from the beginning on
pub wrote_whole : (T E : Type 0) (a b : Option (List ℕ)) (m n : ℕ) (v : T) (r : Result T E) (text : List ℕ) → WroteMore a b m n (Ok v) r text → Wrote a b m n r text
wrote_whole T E a b m n v r text x = x a m [] (record { all = begun a; part = tt; cause = record { later = omega arith; failed = tt } })
  where
    begun : (a : Option (List ℕ)) → Appends a a []
    begun None = tt
    begun (Some xs) = sym (append-nil xs)

-- ---- lists by their front

pub pieces_more : {X : Type 0} (f : X → List ℕ) (xs : List X) (i : ℕ) (d : X) → i < length xs → flat_map f (take i xs) ++ f (get_or xs i d) ≡ flat_map f (take (i + 1) xs)
pieces_more f [] i d l = absurd (omega arith)
pieces_more f (x ∷ xs) zero d l = sym (append-nil (f x))
pieces_more f (x ∷ xs) (suc i) d l = append_assoc (f x) (flat_map f (take i xs)) (f (get_or xs i d)) ∙ (ap (λ t. f x ++ t) (pieces_more f xs i d (omega arith)) ∙ (let same : suc (i + 1) ≡ suc i + 1 = omega arith in ap (λ k. flat_map f (take k (x ∷ xs))) same))

-- the same at what stands at the index
pub pieces_at : {X : Type 0} (f : X → List ℕ) (xs : List X) (i : ℕ) (x : X) → slice_get xs i ≡ Some x → flat_map f (take i xs) ++ f x ≡ flat_map f (take (i + 1) xs)
pieces_at f xs i x e = let h = at_some xs i x e in ap (λ y. flat_map f (take i xs) ++ f y) (sym h.1) ∙ pieces_more f xs i x h.0
  where
    at_some : {Y : Type 0} (ys : List Y) (k : ℕ) (y : Y) → slice_get ys k ≡ Some y → (k < length ys) × (get_or ys k y ≡ y)
    at_some [] k y e = absurd (cc)
    at_some (z ∷ zs) zero y e = (omega arith, cc)
    at_some (z ∷ zs) (suc k) y e = let h = at_some zs k y e in (omega (arith, h.0), h.1)
