-- Bytes that come or go a piece at a time.
use Rattle.std.proofs.Common.{◌≡◌, ℕ, ◌+◌, ◌-◌, ◌<◌, ◌≤◌, List, [], ◌++◌, length, take, drop, ap, sym, ◌∙◌, subst, arith, min, Option, length-append, length-drop}
use Rattle.std.proofs.lemmas.List.{take-append-drop, drop-drop, drop_all, take_all}
use Rattle.std.proofs.Math.Seq.{take-add}
use Rattle.std.proofs.KnownBytes.{Appends-trans, Consumes-trans}
use Rattle.std.specs.Io.KnownBytes.{Consumes, Appends}
use Rattle.arr_io.specs.Taken.{TakesAtMost}

-- a piece that stands at the front of what was left is taken from it
pub front_taken : (bytes : List ℕ) (at n : ℕ) (into : List ℕ) → take n into ≡ take n (drop at bytes) → drop at bytes ≡ take n into ++ drop (at + n) bytes
front_taken bytes at n into same = rw (same, ← drop-drop n at bytes) (sym (take-append-drop n (drop at bytes)))

-- nothing is left behind a piece of 0 bytes for which there was room
pub none_left : (bytes : List ℕ) (at n piece room : ℕ) → n ≡ min piece (min room (length (drop at bytes))) → n ≡ 0 → 0 < piece → 0 < room → drop (at + n) bytes ≡ []
none_left bytes at n piece room count zero_ moves free =
    let short : length bytes ≤ at = omega (arith, length-drop at bytes) in
    drop_all (at + n) bytes (omega arith)

-- the bytes written so far, and the first n of the rest
pub more_appended : (old mid new : Option (List ℕ)) (bytes : List ℕ) (at n : ℕ) → Appends old mid (take at bytes)
    → Appends mid new (take n (take (length bytes - at) (drop at bytes))) → Appends old new (take (at + n) bytes)
more_appended old mid new bytes at n so_far next =
    let whole : take (length bytes - at) (drop at bytes) ≡ drop at bytes = take_all (length bytes - at) (drop at bytes) (omega (arith, length-drop at bytes)) in
    let joined : take at bytes ++ take n (take (length bytes - at) (drop at bytes)) ≡ take (at + n) bytes = ap (λ r. take at bytes ++ take n r) whole ∙ sym (take-add at n bytes) in
    subst (Appends old new) joined (Appends-trans old mid new _ _ so_far next)

-- two pieces taken one after the other
pub both_taken : (old mid new : Option (List ℕ)) (first second : List ℕ) (most : ℕ) → Consumes old mid first → Consumes mid new second → length first + length second ≤ most → TakesAtMost old new most
both_taken old mid new first second most taken next fits = (first ++ second, omega (arith, length-append first second), Consumes-trans old mid new first second taken next)
