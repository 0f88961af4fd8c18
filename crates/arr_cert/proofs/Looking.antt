-- A line that is gathered piece by piece.
use Rattle.std.proofs.Common.{◌≡◌, ℕ, zero, suc, ◌+◌, ◌-◌, ◌<◌, ◌≤◌, List, [], ◌∷◌, ◌++◌, length, get_or, take, drop, min, Option, None, Some, Bool, true, false, cond, not, ◌&&◌, refl, sym, ap, ap₂, ◌∙◌, subst, arith, append_assoc, length-append}
use Rattle.std.specs.Io.KnownBytes.{Consumes, IsAtEnd, Keeps, prepend_known}
use Rattle.std.proofs.KnownBytes.{Consumes-nil, Consumes-trans, Consumes-kept}
use Rattle.std.specs.Prelude.{nat_le}
use Rattle.std.specs.List.{after_first, before_first, position_or_len, prefix_len}
use Rattle.std.proofs.lemmas.Bool.{eqb-true, leb-true, leb-false}
use Rattle.std.proofs.lemmas.List.{length-take, take-append-drop, take_all}
use Rattle.std.proofs.lemmas.List.Folds.{length-prefix_len}
use Rattle.std.proofs.lemmas.List.Sums.{passes_at_first, split_at_first}
use Rattle.std.proofs.Math.Seq.{take-append-add}
use Rattle.arr_cert.specs.declared.reader.Reader.{Reader}
use Rattle.arr_cert.specs.Reading.{Unread, is_feed}
use Rattle.arr_cert.specs.Proofs.{IsBeyond, IsLine, IsPart, IsSame, is_open, part}
use Rattle.arr_cert.proofs.Joined.{free_join}

pub record Looking (start now : Option (List ℕ)) (text : List ℕ) (size room : ℕ) : Type 0 where
  pub got : List ℕ
  pub taken : Consumes start now got
  pub plain : is_open got ≡ true
  pub kept : text ≡ take 65537 got
  pub counts : size ≡ length got
  pub within : size ≤ room

pub looking_none : (start : Option (List ℕ)) (text : List ℕ) (room : ℕ) → text ≡ [] → Looking start start text 0 room
looking_none start text room e = record { got = []; taken = Consumes-nil start; plain = refl; kept = e; counts = refl; within = omega arith }

pub looking_filled : (start now new : Option (List ℕ)) (text : List ℕ) (size room : ℕ) → Looking start now text size room → Keeps now new → Looking start new text size room
looking_filled start now new text size room l k = record { got = l.got; taken = Consumes-kept start now new l.got l.taken k; plain = l.plain; kept = l.kept; counts = l.counts; within = l.within }

-- what is taken of the bytes that wait is taken of all that come
pub part_taken : (old new bytes : List ℕ) (left : Option (List ℕ)) → old ≡ bytes ++ new → Consumes (prepend_known old left) (prepend_known new left) bytes
part_taken old new bytes None e = tt
part_taken old new bytes (Some xs) e = ap (λ t. t ++ xs) e ∙ append_assoc bytes new xs

-- texts that are kept so far
take_kept : (n : ℕ) (xs ys : List ℕ) → take n (take n xs ++ ys) ≡ take n (xs ++ ys)
take_kept zero xs ys = refl
take_kept (suc n) [] ys = refl
take_kept (suc n) (x ∷ xs) ys = ap (λ t. x ∷ t) (take_kept n xs ys)

take_least : (m : ℕ) (ys : List ℕ) → take (min (length ys) m) ys ≡ take m ys
take_least m ys = go (nat_le (length ys) m) refl
  where
    go : (b : Bool) → nat_le (length ys) m ≡ b → take (min (length ys) m) ys ≡ take m ys
    go true e =
        let l : length ys ≤ m = leb-true (length ys) m e in
        take_all (min (length ys) m) ys (omega (arith, l)) ∙ sym (take_all m ys l)
    go false e = ap (λ k. take k ys) (omega (arith, leb-false (length ys) m e))

pub joins : (n k : ℕ) (xs ys : List ℕ) → length xs ≤ n → k ≡ min (length ys) (n - length xs) → xs ++ take k ys ≡ take n (xs ++ ys)
joins n k xs ys l e =
    ap (λ t. xs ++ t) (ap (λ i. take i ys) e ∙ take_least (n - length xs) ys)
    ∙ (sym (take-append-add xs ys (n - length xs)) ∙ ap (λ i. take i (xs ++ ys)) (omega (arith, l)))

part_join : (ends : Bool) (got front : List ℕ) → got ++ part ends front ≡ part ends (got ++ front)
part_join true got front = sym (append_assoc got front (10 ∷ []))
part_join false got front = refl

-- after one more part
pub record Grown (start now : Option (List ℕ)) (more : List ℕ) (size : ℕ) (ends : Bool) : Type 0 where
  pub all : List ℕ
  pub taken : Consumes start now (part ends all)
  pub plain : is_open all ≡ true
  pub kept : more ≡ take 65537 all
  pub counts : size ≡ length (part ends all)

pub grown : (start now : Option (List ℕ)) (text more old new front : List ℕ) (size room count to : ℕ) (ends : Bool) (left : Option (List ℕ)) → Looking start (prepend_known old left) text size room → IsPart count ends old new text more front
    → to ≡ size + count → Grown start (prepend_known new left) more to ends
grown start now text more old new front size room count to ends left l p e =
    let joins = part_join ends l.got front in
    record {
      all = l.got ++ front;
      taken = subst (Consumes start (prepend_known new left)) joins (Consumes-trans start (prepend_known old left) (prepend_known new left) l.got (part ends front) l.taken (part_taken old new (part ends front) left p.split));
      plain = free_join 10 l.got front l.plain p.plain;
      kept = p.kept ∙ (ap (λ t. take 65537 (t ++ front)) l.kept ∙ take_kept 65537 l.got front);
      counts = omega (arith, e, l.counts, p.counts, length-append l.got (part ends front), ap length joins);
    }

-- ---- a part of the bytes that wait

open_prefix : (xs : List ℕ) → is_open (before_first is_feed xs) ≡ true
open_prefix [] = refl
open_prefix (x ∷ xs) = go (not (is_feed x)) refl (open_prefix xs)
  where
    n : ℕ
    n = prefix_len (λ b. not (is_feed b)) xs

    next : 1 + n ≡ suc n
    next = omega arith

    go : (b : Bool) → not (is_feed x) ≡ b → is_open (take n xs) ≡ true → is_open (take (cond b (1 + n) 0) (x ∷ xs)) ≡ true
    go true e o = ap (λ k. is_open (take k (x ∷ xs))) next ∙ (ap (λ b. b && is_open (take n xs)) e ∙ o)
    go false e o = refl

abbrev APart : ℕ → Bool → List ℕ → List ℕ → List ℕ → List ℕ → Type 0
APart size ends old new text more = (front : List ℕ) × IsPart size ends old new text more front

pub part_ends : (old new text more w : List ℕ) (front : ℕ) → w ≡ old → front ≡ length (before_first is_feed w) → front < length w → new ≡ drop (front + 1) old → more ≡ take 65537 (text ++ take front w) → APart (front + 1) true old new text more
part_ends old new text more w front e c l d k =
    let at : front ≡ prefix_len (λ b. not (is_feed b)) w = c ∙ length-prefix_len (λ b. not (is_feed b)) w in
    let within : prefix_len (λ b. not (is_feed b)) w < length w = omega (arith, at, l) in
    let split = split_at_first is_feed w 0 within in
    let feed : get_or w (position_or_len is_feed w) 0 ≡ 10 = eqb-true (get_or w (position_or_len is_feed w) 0) 10 (passes_at_first is_feed w 0 within) in
    let x = before_first is_feed w in
    let behind : after_first is_feed w ≡ new = ap (λ n. drop (n + 1) w) (sym at) ∙ (ap (drop (front + 1)) e ∙ sym d) in (
      x,
      record {
        plain = open_prefix w;
        split = sym e ∙ (split ∙ (ap₂ (λ b t. x ++ (b ∷ t)) feed behind ∙ sym (append_assoc x (10 ∷ []) new)));
        counts = omega (arith, c, length-append x (10 ∷ []));
        some = λ _. omega arith;
        kept = k ∙ ap (λ n. take 65537 (text ++ take n w)) at;
      },
    )

pub part_open : (old new text more w : List ℕ) (front : ℕ) → w ≡ old → front ≡ length (before_first is_feed w) → length w ≤ front → new ≡ drop front old → more ≡ take 65537 (text ++ take front w) → APart front false old new text more
part_open old new text more w front e c l d k =
    let at : front ≡ prefix_len (λ b. not (is_feed b)) w = c ∙ length-prefix_len (λ b. not (is_feed b)) w in
    let x = before_first is_feed w in
    let size : length w ≡ length old = ap length e in (
      x,
      record {
        plain = open_prefix w;
        split = sym e ∙ (sym (take-append-drop front w) ∙ ap₂ (λ s t. s ++ t) (ap (λ n. take n w) at) (ap (drop front) e ∙ sym d));
        counts = c;
        some = λ s. omega (arith, s, size, l);
        kept = k ∙ ap (λ n. take 65537 (text ++ take n w)) at;
      },
    )

-- ---- what the loop answers

pub kept_short : (start now : Option (List ℕ)) (text : List ℕ) (size room : ℕ) → Looking start now text size room → length text ≤ 65537
kept_short start now text size room l = omega (arith, ap length l.kept, length-take 65537 l.got)

pub same_trans : (a b c : Reader) → IsSame a b → IsSame b c → IsSame a c
same_trans a b c p q = record { room = q.room ∙ p.room; next = q.next ∙ p.next; line = q.line ∙ p.line; over = q.over ∙ p.over }

pub more_line : (start mid left : Option (List ℕ)) (old new text more : List ℕ) (size room count to limit : ℕ) (ends : Bool) → Looking start mid text size room → Keeps mid (prepend_known old left) → APart count ends old new text more
    → to ≡ size + count → ends ≡ false → to ≤ limit → Looking start (prepend_known new left) more to limit
more_line start mid left old new text more size room count to limit ends l k p e f w =
    let g = grown start mid text more old new p.0 size room count to ends left (looking_filled start mid (prepend_known old left) text size room l k) p.1 e in
    let whole = ap (λ b. part b g.all) f in
    record { got = g.all; taken = subst (Consumes start (prepend_known new left)) whole g.taken; plain = g.plain; kept = g.kept; counts = g.counts ∙ ap length whole; within = w }

pub beyond_line : (old new : Unread) (mid left : Option (List ℕ)) (was now text more : List ℕ) (size room limit count to : ℕ) (ends : Bool) → Looking old.bytes mid text size room → Keeps mid (prepend_known was left) → APart count ends was now text more
    → to ≡ size + count → prepend_known now left ≡ new.bytes → limit ≡ room → room ≡ old.room → limit < to → (front : List ℕ) × (e : Bool) × IsBeyond old new front e
beyond_line old new mid left was now text more size room limit count to ends l k p e n r o m =
    let g = grown old.bytes mid text more was now p.0 size room count to ends left (looking_filled old.bytes mid (prepend_known was left) text size room l k) p.1 e in
    (g.all, ends, record { taken = subst (λ b. Consumes old.bytes b (part ends g.all)) n g.taken; plain = g.plain; more = omega (arith, m, r, o, g.counts) })

pub whole_line : (old new : Unread) (mid left : Option (List ℕ)) (was now text more kept : List ℕ) (size room limit count to next : ℕ) (ends : Bool) → Looking old.bytes mid text size room → Keeps mid (prepend_known was left)
    → APart count ends was now text more → to ≡ size + count → ends ≡ true → prepend_known now left ≡ new.bytes → kept ≡ more → limit ≡ room → room ≡ old.room → to ≤ limit → new.room ≡ limit - to → new.line ≡ suc next → next ≡ old.line
    → (front : List ℕ) × (e : Bool) × IsLine old new kept front e
whole_line old new mid left was now text more kept size room limit count to next ends l k p e t n s r o w room_is line_is next_is =
    let g = grown old.bytes mid text more was now p.0 size room count to ends left (looking_filled old.bytes mid (prepend_known was left) text size room l k) p.1 e in (
      g.all,
      ends,
      record {
        taken = subst (λ b. Consumes old.bytes b (part ends g.all)) n g.taken;
        plain = g.plain;
        last = λ f. true_false (sym t ∙ f);
        kept = s ∙ g.kept;
        within = omega (arith, w, r, o, g.counts);
        room = omega (arith, room_is, r, o, g.counts);
        next = line_is ∙ ap suc next_is;
      },
    )
  where
    true_false : {A : Type 0} → true ≡ false → A
    true_false e = absurd (cc)

pub last_line : (old new : Unread) (mid filled : Option (List ℕ)) (text kept : List ℕ) (size room next : ℕ) → Looking old.bytes mid text size room → Keeps mid filled → IsAtEnd filled → 0 < size → filled ≡ new.bytes → kept ≡ text → room ≡ old.room
    → new.room ≡ room - size → new.line ≡ suc next → next ≡ old.line → (front : List ℕ) × (e : Bool) × IsLine old new kept front e
last_line old new mid filled text kept size room next looking k end s n t o room_is line_is next_is =
    let l = looking_filled old.bytes mid filled text size room looking k in (
      l.got,
      false,
      record {
        taken = subst (λ b. Consumes old.bytes b l.got) n l.taken;
        plain = l.plain;
        last = λ e. (omega (arith, s, l.counts), subst IsAtEnd n end);
        kept = t ∙ l.kept;
        within = omega (arith, l.within, l.counts, o);
        room = omega (arith, room_is, l.counts, o);
        next = line_is ∙ ap suc next_is;
      },
    )

at_end : (a b : Option (List ℕ)) (got : List ℕ) → length got ≡ 0 → Consumes a b got → IsAtEnd b → Consumes a b [] × IsAtEnd a
at_end a b (x ∷ got) z t e = absurd (omega (arith, z))
at_end None b [] z t e = (tt, tt)
at_end (Some xs) None [] z t e = absurd t
at_end (Some xs) (Some ys) [] z t e = (t, t ∙ e)

pub nothing_left : (start now : Option (List ℕ)) (text : List ℕ) (size room : ℕ) → Looking start now text size room → size ≡ 0 → IsAtEnd now → Consumes start now [] × IsAtEnd start
nothing_left start now text size room l z e = at_end start now l.got (omega (arith, z, l.counts)) l.taken e
