-- Lines of a text, from its bytes.
use Rattle.std.proofs.Common.{◌≡◌, ℕ, suc, ◌-◌, ◌<◌, ◌≤◌, List, [], ◌∷◌, ◌++◌, length, take, Option, None, Some, Bool, true, false, cond, not, refl, sym, ap, ap₂, ◌∙◌, subst, arith, append_assoc, length-append}
use Rattle.std.specs.List.{before_first}
use Rattle.std.specs.Io.KnownBytes.{Consumes, IsAtEnd}
use Rattle.std.proofs.lemmas.Bool.{and_parts, lt-ltb, le-ltb, not-true}
use Rattle.std.proofs.lemmas.List.{append-nil, take_all, length-take}
use Rattle.arr_law.specs.declared.record.Record.{Record}
use Rattle.arr_cert.specs.declared.item.Item.{Item}
use Rattle.arr_cert.specs.declared.item.Item.TheVariants as item
use Rattle.arr_cert.specs.Spelling.{IsText, Spells}
use Rattle.arr_cert.specs.Reading.{Marked, Nothing, Beyond, Has, IsBehind, IsFirst, SpellsNone, Told, Unread, is_feed, is_marked, lines, marked, onto_first, text_of, told, with_byte}
use Rattle.arr_cert.specs.Proofs.{IsBeyond, IsLine, IsSpelled, Turns, is_open, part}
use Rattle.arr_cert.proofs.Joined.{before_cut}

-- ---- the first line

open_first : (b : ℕ) (bs : List ℕ) → is_open (b ∷ bs) ≡ true → (is_feed b ≡ false) × (is_open bs ≡ true)
open_first b bs o = let p = and_parts (not (is_feed b)) (is_open bs) o in (not-true (is_feed b) p.0, p.1)

onto_line : (b : ℕ) (l : List ℕ) (ls ms : List (List ℕ)) → is_feed b ≡ false → ms ≡ l ∷ ls → with_byte b ms ≡ (b ∷ l) ∷ ls
onto_line b l ls ms f e = ap (λ t. cond t ((b ∷ []) ∷ ms) (onto_first b ms)) f ∙ ap (onto_first b) e

pub lines_feed : (front ys : List ℕ) → is_open front ≡ true → lines (front ++ 10 ∷ ys) ≡ (front ++ 10 ∷ []) ∷ lines ys
lines_feed [] ys o = refl
lines_feed (b ∷ bs) ys o = let p = open_first b bs o in onto_line b (bs ++ 10 ∷ []) (lines ys) (lines (bs ++ 10 ∷ ys)) p.0 (lines_feed bs ys p.1)

pub lines_last : (front : List ℕ) → is_open front ≡ true → 0 < length front → lines front ≡ front ∷ []
lines_last [] o l = absurd (omega (arith, l))
lines_last (b ∷ []) o l = let p = open_first b [] o in ap (λ t. cond t ((b ∷ []) ∷ []) (onto_first b [])) p.0
lines_last (b ∷ c ∷ bs) o l = let p = open_first b (c ∷ bs) o in onto_line b (c ∷ bs) [] (lines (c ∷ bs)) p.0 (lines_last (c ∷ bs) p.1 (omega arith))

abbrev Long : List ℕ → List (List ℕ) → Type 0
Long front ls = (l : List ℕ) × (others : List (List ℕ)) × (ls ≡ l ∷ others) × (length front ≤ length l)

pub lines_long : (front ys : List ℕ) → is_open front ≡ true → 0 < length front → Long front (lines (front ++ ys))
lines_long [] ys o l = absurd (omega (arith, l))
lines_long (b ∷ []) ys o l = go (lines ys)
  where
    p : (is_feed b ≡ false) × (is_open [] ≡ true)
    p = open_first b [] o

    go : (ls : List (List ℕ)) → Long (b ∷ []) (with_byte b ls)
    go [] = (b ∷ [], [], ap (λ t. cond t ((b ∷ []) ∷ []) (onto_first b [])) p.0, omega arith)
    go (m ∷ ms) = (b ∷ m, ms, onto_line b m ms (m ∷ ms) p.0 refl, omega arith)
lines_long (b ∷ c ∷ bs) ys o l =
    let p = open_first b (c ∷ bs) o in
    let r = lines_long (c ∷ bs) ys p.1 (omega arith) in
    (b ∷ r.0, r.1, onto_line b r.0 r.1 (lines (c ∷ bs ++ ys)) p.0 r.2, omega (arith, r.3))

-- the line that was taken is the first
pub first_line : (front xs ys : List ℕ) (ends : Bool) → is_open front ≡ true → (ends ≡ false → (0 < length front) × (ys ≡ [])) → xs ≡ part ends front ++ ys → lines xs ≡ part ends front ∷ lines ys
first_line front xs ys true o last e = ap lines (e ∙ append_assoc front (10 ∷ []) ys) ∙ lines_feed front ys o
first_line front xs ys false o last e =
    let l = last refl in
    ap lines (e ∙ (ap (λ t. front ++ t) l.1 ∙ append-nil front)) ∙ (lines_last front o l.0 ∙ ap (λ t. front ∷ lines t) (sym l.1))

pub first_long : (front xs ys : List ℕ) (ends : Bool) (room : ℕ) → is_open front ≡ true → room < length (part ends front) → xs ≡ part ends front ++ ys → (l : List ℕ) × (others : List (List ℕ)) × (lines xs ≡ l ∷ others) × (room < length l)
first_long front xs ys true room o m e = (front ++ 10 ∷ [], lines ys, ap lines (e ∙ append_assoc front (10 ∷ []) ys) ∙ lines_feed front ys o, m)
first_long front xs ys false room o m e =
    let r = lines_long front ys o (omega (arith, m)) in
    (r.0, r.1, ap lines e ∙ r.2, omega (arith, m, r.3))

-- ---- its text, and whether it is marked

pub text_is : (front : List ℕ) (ends : Bool) → is_open front ≡ true → text_of (part ends front) ≡ front
text_is front true o = before_cut 10 front (10 ∷ []) o refl
text_is front false o = ap (before_first is_feed) (sym (append-nil front)) ∙ before_cut 10 front [] o tt

pub mark_is : (front : List ℕ) (ends : Bool) → (ends ≡ false → 0 < length front) → is_marked (take 65537 front) ≡ is_marked (part ends front)
mark_is [] true l = refl
mark_is [] false l = absurd (omega (arith, l refl))
mark_is (b ∷ bs) true l = refl
mark_is (b ∷ bs) false l = refl

-- ---- the marked lines

pub is_beyond : (line room : ℕ) (l : List ℕ) (ls all : List (List ℕ)) → all ≡ l ∷ ls → room < length l → marked line room all ≡ Beyond line
is_beyond line room l ls all e m =
    ap (marked line room) e ∙ ap (λ t. cond t (Beyond line) (cond (is_marked l) (Has line (text_of l) (marked (suc line) (room - length l) ls)) (marked (suc line) (room - length l) ls))) (lt-ltb room (length l) m)

pub is_within : (line room : ℕ) (l : List ℕ) (ls all : List (List ℕ)) (m : Bool) → all ≡ l ∷ ls → length l ≤ room → is_marked l ≡ m
    → marked line room all ≡ cond m (Has line (text_of l) (marked (suc line) (room - length l) ls)) (marked (suc line) (room - length l) ls)
is_within line room l ls all m e w i =
    let rest = marked (suc line) (room - length l) ls in
    ap (marked line room) e ∙ (ap (λ t. cond t (Beyond line) (cond (is_marked l) (Has line (text_of l) rest) rest)) (le-ltb room (length l) w) ∙ ap (λ t. cond t (Has line (text_of l) rest) rest) i)

-- ---- what a turn says

short_is : (text front : List ℕ) → text ≡ take 65537 front → length text ≤ 65536 → text ≡ front
short_is text front e s = e ∙ take_all 65537 front (omega (arith, s, ap length e, length-take 65537 front))

pub told_refl : (u : Unread) → Told u u (λ a b. a ≡ b)
told_refl u = go u.bytes
  where
    go : (a : Option (List ℕ)) → told a a (λ xs ys. marked u.line u.room (lines xs) ≡ marked u.line u.room (lines ys))
    go None = tt
    go (Some xs) = refl

pub told_trans : (old mid new : Unread) (P : Marked → Marked → Type 0) → Told old mid (λ a b. a ≡ b) → Told mid new P → Told old new P
told_trans old mid new P = go old.bytes mid.bytes new.bytes
  where
    go : (a b c : Option (List ℕ)) → told a b (λ xs ys. marked old.line old.room (lines xs) ≡ marked mid.line mid.room (lines ys))
        → told b c (λ xs ys. P (marked mid.line mid.room (lines xs)) (marked new.line new.room (lines ys))) → told a c (λ xs ys. P (marked old.line old.room (lines xs)) (marked new.line new.room (lines ys)))
    go None b c p q = tt
    go (Some xs) None c p q = absurd p
    go (Some xs) (Some ys) None p q = absurd q
    go (Some xs) (Some ys) (Some zs) p q = subst (λ m. P m (marked new.line new.room (lines zs))) (sym p) q

pub nothing : (old new : Unread) (line : ℕ) → line ≡ old.line → Consumes old.bytes new.bytes [] → IsAtEnd old.bytes → Told old new (IsFirst item.End line)
nothing old new line e = go old.bytes new.bytes
  where
    go : (a b : Option (List ℕ)) → Consumes a b [] → IsAtEnd a → told a b (λ xs ys. marked old.line old.room (lines xs) ≡ Nothing line)
    go None b t l = tt
    go (Some xs) None t l = absurd t
    go (Some xs) (Some ys) t l = ap (λ x. marked old.line old.room (lines x)) l ∙ ap Nothing (sym e)

pub too_long : (old new : Unread) (front : List ℕ) (ends : Bool) (line : ℕ) → line ≡ old.line → IsBeyond old new front ends → Told old new (IsFirst item.TooLong line)
too_long old new front ends line e b = go old.bytes new.bytes b.taken
  where
    go : (x y : Option (List ℕ)) → Consumes x y (part ends front) → told x y (λ xs ys. marked old.line old.room (lines xs) ≡ Beyond line)
    go None y t = tt
    go (Some xs) None t = absurd t
    go (Some xs) (Some ys) t =
        let r = first_long front xs ys ends old.room b.plain b.more t in
        is_beyond old.line old.room r.0 r.1 (lines xs) r.2 r.3 ∙ ap Beyond (sym e)

-- the marked lines before a line, and those behind it
behind : (old new : Unread) (text front : List ℕ) (ends : Bool) (m : Bool) → IsLine old new text front ends → is_marked text ≡ m
    → Told old new (λ a b. a ≡ cond m (Has old.line front b) b)
behind old new text front ends m l i = go old.bytes new.bytes l.taken l.last
  where
    mark : (b : Option (List ℕ)) → (ends ≡ false → (0 < length front) × IsAtEnd b) → is_marked (part ends front) ≡ m
    mark b last = sym (mark_is front ends (λ e. (last e).0)) ∙ (ap is_marked (sym l.kept) ∙ i)

    go : (x y : Option (List ℕ)) → Consumes x y (part ends front) → (ends ≡ false → (0 < length front) × IsAtEnd y)
        → told x y (λ xs ys. marked old.line old.room (lines xs) ≡ cond m (Has old.line front (marked new.line new.room (lines ys))) (marked new.line new.room (lines ys)))
    go None y t last = tt
    go (Some xs) None t last = absurd t
    go (Some xs) (Some ys) t last =
        let same : marked (suc old.line) (old.room - length (part ends front)) (lines ys) ≡ marked new.line new.room (lines ys) = ap₂ (λ n k. marked n k (lines ys)) (sym l.next) (sym l.room) in
        is_within old.line old.room (part ends front) (lines ys) (lines xs) m (first_line front xs ys ends l.plain last t) l.within (mark (Some ys) last)
        ∙ ap₂ (λ t2 rest. cond m (Has old.line t2 rest) rest) (text_is front ends l.plain) same

told_map : (old new : Unread) (P Q : Marked → Marked → Type 0) → ((a b : Marked) → P a b → Q a b) → Told old new P → Told old new Q
told_map old new P Q f = go old.bytes new.bytes
  where
    go : (x y : Option (List ℕ)) → told x y (λ xs ys. P (marked old.line old.room (lines xs)) (marked new.line new.room (lines ys))) → told x y (λ xs ys. Q (marked old.line old.room (lines xs)) (marked new.line new.room (lines ys)))
    go None y p = tt
    go (Some xs) None p = absurd p
    go (Some xs) (Some ys) p = f (marked old.line old.room (lines xs)) (marked new.line new.room (lines ys)) p

pub passes : (old new : Unread) (text front : List ℕ) (ends : Bool) → IsLine old new text front ends → is_marked text ≡ false → Turns None old.line old new
passes old new text front ends l i = (behind old new text front ends false l i, omega (arith, l.room, l.within, longer ends l.last))
  where
    longer : (e : Bool) → (e ≡ false → (0 < length front) × IsAtEnd new.bytes) → 0 < length (part e front)
    longer true f = omega (arith, length-append front (10 ∷ []))
    longer false f = (f refl).0

pub answers : (old new : Unread) (text front : List ℕ) (ends : Bool) (it : Item) (line : ℕ) → line ≡ old.line → IsLine old new text front ends → is_marked text ≡ true → IsSpelled it text → Told old new (IsFirst it line)
answers old new text front ends (item.Record r) line e l i s =
    told_map old new (λ a b. a ≡ Has old.line front b) (IsFirst (item.Record r) line)
    (λ a b same. (front, subst (λ t. Spells t r) (short_is text front l.kept s.short) s, same ∙ ap (λ n. Has n front b) (sym e))) (behind old new text front ends true l i)
answers old new text front ends item.Malformed line e l i s =
    told_map old new (λ a b. a ≡ Has old.line front b) (IsFirst item.Malformed line)
    (λ a b same. (front, b, s front l.kept, same ∙ ap (λ n. Has n front b) (sym e))) (behind old new text front ends true l i)
answers old new text front ends item.End line e l i s = absurd s
answers old new text front ends item.TooLong line e l i s = absurd s

-- ---- what the text of a marked line is

pub spelled_long : (text : List ℕ) → 65536 < length text → (whole : List ℕ) → text ≡ take 65537 whole → SpellsNone whole
spelled_long text l whole e r s = omega (arith, l, s.short, ap length e, length-take 65537 whole)

pub spelled_none : (text : List ℕ) → ((r : Record) → IsText text r → ⊥) → (whole : List ℕ) → text ≡ take 65537 whole → SpellsNone whole
spelled_none text none whole e r s =
    let same : text ≡ whole = e ∙ take_all 65537 whole (omega (arith, s.short)) in
    none r (subst (λ t. IsText t r) (sym same) s.written)

pub behind_item : (it : Item) (line next old : ℕ) → line ≡ old → next ≡ suc old → IsBehind it line next
behind_item (item.Record r) line next old e f = f ∙ ap suc (sym e)
behind_item item.End line next old e f = tt
behind_item item.Malformed line next old e f = tt
behind_item item.TooLong line next old e f = tt
