-- Whether a text spells a record is decided, so each proof is read as something.
use Rattle.std.proofs.Common.{◌≡◌, ◌≢◌, ℕ, zero, suc, ◌+◌, ◌-◌, ◌^◌, ◌<◌, ◌≤◌, ◌⊎◌, inl, inr, List, [], ◌∷◌, ◌++◌, length, get_or, take, drop, Bool, true, false, ◌&&◌, refl, sym, ap, ◌∙◌, subst, arith, codes, decimal}
use Rattle.std.specs.Prelude.{nat_le, ◌==◌}
use Rattle.std.specs.List.{before_first}
use Rattle.std.specs.Str.{bytes_eq}
use Rattle.std.specs.Str.Parse.{digits_value}
use Rattle.std.proofs.lemmas.Bool.{leb-true, leb-false, lt-ltb, eqb-true, eqb-false}
use Rattle.std.proofs.lemmas.Fmt.{decimal_is_IsNumeral}
use Rattle.std.proofs.lemmas.List.{append-nil, take-append-drop}
use Rattle.std.proofs.lemmas.Slice.Eq.{bytes_eq-Decides}
use Rattle.std.proofs.Math.Seq.{take-append_seam}
use Rattle.arr_law.specs.declared.record.Record.TheVariants.{Flush, Plan, Cost, Bound, Step, Branch, Dead, Worth, End}
use Rattle.arr_law.specs.Verdict.{Reading, Ends, Stops, Reads}
use Rattle.arr_law.specs.declared.reject.Reject.TheVariants.{TooLong, Malformed}
use Rattle.arr_cert.specs.Texts.{spaced, takes_two}
use Rattle.arr_cert.specs.Spelling.{IsText, Spells}
use Rattle.arr_cert.specs.Reading.{IsRead, Nothing, Beyond, Has}
use Rattle.arr_cert.specs.Back.{ReadAlways}
use Rattle.arr_cert.specs.Spelled.{DecimalOf, GroupOf, GroupsOf, NumberOf, NumbersOf, are_narrow, is_sign}
use Rattle.arr_cert.proofs.Joined.{IsJoined, Listed, is_free, listed_all, listed_more, listed_none, none_part, none_sign}
use Rattle.arr_cert.proofs.Numbers.{Narrow, joins, each_narrow, narrow_free}
use Rattle.arr_cert.proofs.Groups.{Good, bare, bare_free, from_joined, made, none_first, none_others, none_point, none_view, of_bare, to_bare, to_joined}
use Rattle.arr_cert.proofs.Words.{bound_back, branch_back, branch_none, branch_some, cost_back, dead_back, dead_none, dead_some, flush_back, head_first, head_length, head_second, head_version, none_word, plan_back, step_back, step_second, step_shape, step_third, worth_back}

-- there is one that has the property, or none has it
abbrev pub Or : {X : Type 0} → (X → Type 0) → Type 0
Or {X} P = ((x : X) × P x) ⊎ ((x : X) → P x → ⊥)

true_false : true ≡ false → ⊥
true_false e = absurd (cc)

-- ---- numbers and groups

decimal_or : (most : ℕ) (text : List ℕ) → most < 2 ^ 64 → Or (DecimalOf most text)
decimal_or most text m = go (nat_le v most) refl (bytes_eq text (decimal v)) refl
  where
    v : ℕ
    v = digits_value 10 text

    worth : (n : ℕ) → DecimalOf most text n → v ≡ n
    worth n d = ap (digits_value 10) d.same ∙ (decimal_is_IsNumeral n (omega (arith, m, d.within))).1

    go : (a : Bool) → nat_le v most ≡ a → (b : Bool) → bytes_eq text (decimal v) ≡ b → Or (DecimalOf most text)
    go true e true f = inl (v, record { same = (bytes_eq-Decides text (decimal v)).0 f; within = leb-true v most e })
    go true e false f = inr (λ n d. true_false (sym ((bytes_eq-Decides text (decimal v)).1 (d.same ∙ ap decimal (sym (worth n d)))) ∙ f))
    go false e b f = inr (λ n d. omega (arith, leb-false v most e, worth n d, d.within))

joined_or : {X : Type 0} (sign : ℕ) (spell : X → List ℕ) (P : X → Type 0) (text : List ℕ) → ((x : X) → P x → is_free sign (spell x) ≡ true) → ((piece : List ℕ) → Or (λ x. P x × (piece ≡ spell x))) → Or (IsJoined sign spell P text)
joined_or {X} sign spell P text free dec = go (length text) 0 [] (listed_none sign spell P text) (omega arith)
  where
    turn : (fuel at : ℕ) (xs : List X) → ((to : ℕ) (ys : List X) → Listed sign spell P text to ys → length text ≤ to + fuel → Or (IsJoined sign spell P text)) → Listed sign spell P text at xs → length text ≤ at + suc fuel
        → (e : Bool) → nat_le (length text) at ≡ e → (b : Bool) → (get_or text at 0 == sign) ≡ b → Or (λ x. P x × (before_first (is_sign sign) (drop (at + 1) text) ≡ spell x)) → Or (IsJoined sign spell P text)
    turn fuel at xs again l f true p b q d = inl (xs, listed_all sign spell P text at xs l (leb-true (length text) at p))
    turn fuel at xs again l f false p false q d = inr (none_sign sign spell P text at xs free l (leb-false (length text) at p) (eqb-false (get_or text at 0) sign q))
    turn fuel at xs again l f false p true q (inl d) =
        let piece = before_first (is_sign sign) (drop (at + 1) text) in
        again (at + 1 + length piece) (xs ++ d.0 ∷ []) (listed_more sign spell P text at (at + 1 + length piece) xs d.0 free l (leb-false (length text) at p) (eqb-true (get_or text at 0) sign q) d.1.1 refl d.1.0) (omega (arith, f))
    turn fuel at xs again l f false p true q (inr n) = inr (none_part sign spell P text at xs free l (leb-false (length text) at p) (λ x g e. n x (g, e)))

    go : (fuel at : ℕ) (xs : List X) → Listed sign spell P text at xs → length text ≤ at + fuel → Or (IsJoined sign spell P text)
    go zero at xs l f = inl (xs, listed_all sign spell P text at xs l (omega (arith, f)))
    go (suc fuel) at xs l f = turn fuel at xs (go fuel) l f (nat_le (length text) at) refl (get_or text at 0 == sign) refl (dec (before_first (is_sign sign) (drop (at + 1) text)))

numbers_or : (sign : ℕ) (text : List ℕ) → ((n : ℕ) → Narrow n → is_free sign (decimal n) ≡ true) → Or (NumbersOf sign text)
numbers_or sign text free = go (joined_or sign decimal Narrow text free piece_or)
  where
    piece_or : (piece : List ℕ) → Or (λ n. Narrow n × (piece ≡ decimal n))
    piece_or piece = turn (decimal_or (2 ^ 32 - 1) piece (omega arith))
      where
        turn : Or (DecimalOf (2 ^ 32 - 1) piece) → Or (λ n. Narrow n × (piece ≡ decimal n))
        turn (inl d) = let h = d.1 in inl (d.0, (omega (arith, h.within), h.same))
        turn (inr n) = inr (λ x p. n x (record { same = p.1; within = omega (arith, p.0) }))

    go : Or (IsJoined sign decimal Narrow text) → Or (NumbersOf sign text)
    go (inl j) = let h = j.1 in inl (j.0, record { same = h.same; narrow = each_narrow j.0 h.each })
    go (inr n) = inr (λ ns m. n ns (joins sign text ns m))

group_or : (text : List ℕ) → Or (GroupOf text)
group_or text = go (length d == length text) refl (decimal_or (2 ^ 32 - 1) d (omega arith)) (decimal_or 2 (before_first (is_sign 44) tail) (omega arith)) (numbers_or 44 (drop (length (before_first (is_sign 44) tail)) tail) (narrow_free 44 (omega arith)))
  where
    d : List ℕ
    d = before_first (is_sign 46) text

    tail : List ℕ
    tail = drop (length d + 1) text

    go : (e : Bool) → (length d == length text) ≡ e → Or (DecimalOf (2 ^ 32 - 1) d) → Or (DecimalOf 2 (before_first (is_sign 44) tail)) → Or (NumbersOf 44 (drop (length (before_first (is_sign 44) tail)) tail)) → Or (GroupOf text)
    go true e a b c = inr (λ g. none_point text g (eqb-true (length d) (length text) e))
    go false e (inr n) b c = inr (λ g. none_first text g n)
    go false e (inl a) (inr n) c = inr (λ g. none_view text (length d) g refl n)
    go false e (inl a) (inl b) (inr n) = inr (λ g. none_others text (length d) (length (before_first (is_sign 44) tail)) g refl refl n)
    go false e (inl a) (inl b) (inl c) =
        inl (record { operand = b.0; ops = a.0 ∷ c.0 }, made text (length d) (length (before_first (is_sign 44) tail)) a.0 b.0 c.0 refl (eqb-false (length d) (length text) e) refl a.1 b.1 c.1)

groups_or : (text : List ℕ) → Or (GroupsOf text)
groups_or text = go (joined_or 32 bare Good text bare_free piece_or)
  where
    piece_or : (piece : List ℕ) → Or (λ c. Good c × (piece ≡ bare c))
    piece_or piece = turn (group_or piece)
      where
        turn : Or (GroupOf piece) → Or (λ c. Good c × (piece ≡ bare c))
        turn (inl g) = let h = g.1 in inl (g.0, (record { spelled = h.spelled; narrow = h.narrow }, to_bare piece g.0 h))
        turn (inr n) = inr (λ c p. n c (of_bare piece c p.0 p.1))

    go : Or (IsJoined 32 bare Good text) → Or (GroupsOf text)
    go (inl j) = inl (j.0, from_joined text j.0 j.1)
    go (inr n) = inr (λ cs g. n cs (to_joined text cs g))

-- a number behind a blank
number_or : (text : List ℕ) → Or (NumberOf text)
number_or [] = inr (λ n h. nil_cons h.same)
  where
    nil_cons : {b : ℕ} {bs : List ℕ} → [] ≡ b ∷ bs → ⊥
    nil_cons e = absurd (cc)
number_or (b ∷ bs) = go (b == 32) refl (decimal_or (2 ^ 64 - 1) bs (omega arith))
  where
    go : (e : Bool) → (b == 32) ≡ e → Or (DecimalOf (2 ^ 64 - 1) bs) → Or (NumberOf (b ∷ bs))
    go false e d = inr (λ n h. eqb-false b 32 e (ap (λ t. get_or t 0 0) h.same))
    go true e (inl d) = let h = d.1 in inl (d.0, record { same = ap (λ x. x ∷ bs) (eqb-true b 32 e) ∙ ap (λ t. 32 ∷ t) (h.same ∙ sym (append-nil (decimal d.0))); fits = omega (arith, h.within) })
    go true e (inr n) = inr (λ x h. n x (record { same = ap (drop 1) h.same ∙ append-nil (decimal x); within = omega (arith, h.fits) }))

-- ---- records

strips : (w text : List ℕ) → ((rest : List ℕ) × (text ≡ w ++ rest)) ⊎ ((rest : List ℕ) → text ≢ w ++ rest)
strips w text = go (bytes_eq (take (length w) text) w) refl
  where
    same : ((bytes_eq (take (length w) text) w ≡ true) → take (length w) text ≡ w) × (take (length w) text ≡ w → bytes_eq (take (length w) text) w ≡ true)
    same = bytes_eq-Decides (take (length w) text) w

    go : (e : Bool) → bytes_eq (take (length w) text) w ≡ e → ((rest : List ℕ) × (text ≡ w ++ rest)) ⊎ ((rest : List ℕ) → text ≢ w ++ rest)
    go true e = inl (drop (length w) text, sym (take-append-drop (length w) text) ∙ ap (λ t. t ++ drop (length w) text) (same.0 e))
    go false e = inr (λ rest h. true_false (sym (same.1 (ap (take (length w)) h ∙ take-append_seam w rest)) ∙ e))

blank_free : (n : ℕ) → Narrow n → is_free 32 (decimal n) ≡ true
blank_free = narrow_free 32 (omega arith)

plan_or : (rest : List ℕ) → Or (IsText (codes "!plan" ++ rest))
plan_or rest = go (numbers_or 32 rest blank_free)
  where
    go : Or (NumbersOf 32 rest) → Or (IsText (codes "!plan" ++ rest))
    go (inl j) = let h = j.1 in inl (Plan j.0, record { same = ap (λ t. codes "!plan" ++ t) h.same; spelled = refl; sized = h.narrow })
    go (inr n) = inr (λ r t. let b = plan_back rest r t in n b.0 b.1)

cost_or : (rest : List ℕ) → Or (IsText (codes "!cost" ++ rest))
cost_or rest = go (number_or rest)
  where
    go : Or (NumberOf rest) → Or (IsText (codes "!cost" ++ rest))
    go (inl j) = let h = j.1 in inl (Cost j.0, record { same = ap (λ t. codes "!cost" ++ t) h.same; spelled = refl; sized = lt-ltb j.0 (2 ^ 64) h.fits })
    go (inr n) = inr (λ r t. let b = cost_back rest r t in n b.0 b.1)

bound_or : (rest : List ℕ) → Or (IsText (codes "!bound" ++ rest))
bound_or rest = go (number_or rest)
  where
    go : Or (NumberOf rest) → Or (IsText (codes "!bound" ++ rest))
    go (inl j) = let h = j.1 in inl (Bound j.0, record { same = ap (λ t. codes "!bound" ++ t) h.same; spelled = refl; sized = lt-ltb j.0 (2 ^ 64) h.fits })
    go (inr n) = inr (λ r t. let b = bound_back rest r t in n b.0 b.1)

worth_or : (rest : List ℕ) → Or (IsText (codes "!worth" ++ rest))
worth_or rest = go (groups_or rest)
  where
    go : Or (GroupsOf rest) → Or (IsText (codes "!worth" ++ rest))
    go (inl j) = let h = j.1 in inl (Worth j.0, record { same = ap (λ t. codes "!worth" ++ t) h.same; spelled = h.spelled; sized = h.narrow })
    go (inr n) = inr (λ r t. let b = worth_back rest r t in n b.0 b.1)

branch_or : (rest : List ℕ) → Or (IsText (codes "!branch" ++ rest))
branch_or rest = go (numbers_or 32 rest blank_free)
  where
    two : (ns : List ℕ) → are_narrow ns ≡ true → (e : Bool) → (length ns == 2) ≡ e → Or (IsText (codes "!branch" ++ spaced ns))
    two ns n true e = inl (Branch (get_or ns 0 0) (get_or ns 1 0), branch_some ns (eqb-true (length ns) 2 e) n)
    two ns n false e = inr (branch_none ns (eqb-false (length ns) 2 e) n)

    go : Or (NumbersOf 32 rest) → Or (IsText (codes "!branch" ++ rest))
    go (inl j) = let h = j.1 in subst (λ t. Or (IsText (codes "!branch" ++ t))) (sym h.same) (two j.0 h.narrow (length j.0 == 2) refl)
    go (inr n) = inr (λ r t. let b = branch_back rest r t in n (b.0 ∷ b.1 ∷ []) b.2)

dead_or : (rest : List ℕ) → Or (IsText (codes "!dead" ++ rest))
dead_or rest = go (numbers_or 32 rest blank_free)
  where
    two : (ns : List ℕ) → are_narrow ns ≡ true → (e : Bool) → (length ns == 2) ≡ e → Or (IsText (codes "!dead" ++ spaced ns))
    two ns n true e = inl (Dead (get_or ns 0 0) (get_or ns 1 0), dead_some ns (eqb-true (length ns) 2 e) n)
    two ns n false e = inr (dead_none ns (eqb-false (length ns) 2 e) n)

    go : Or (NumbersOf 32 rest) → Or (IsText (codes "!dead" ++ rest))
    go (inl j) = let h = j.1 in subst (λ t. Or (IsText (codes "!dead" ++ t))) (sym h.same) (two j.0 h.narrow (length j.0 == 2) refl)
    go (inr n) = inr (λ r t. let b = dead_back rest r t in n (b.0 ∷ b.1 ∷ []) b.2)

flush_or : (rest : List ℕ) → Or (IsText (codes "!flush" ++ rest))
flush_or rest = go (numbers_or 32 rest blank_free)
  where
    shape : (ns : List ℕ) → are_narrow ns ≡ true → (a : Bool) → (length ns == 2) ≡ a → (b : Bool) → (length ns == 3) ≡ b → (c : Bool) → (get_or ns 2 0 == 2) ≡ c → Or (IsText (codes "!flush" ++ spaced ns))
    shape ns n true a b f c g = inl (Flush (get_or ns 0 0) (get_or ns 1 0) 1, head_first ns (eqb-true (length ns) 2 a) n)
    shape ns n false a false b c g = inr (head_length ns n (eqb-false (length ns) 2 a) (eqb-false (length ns) 3 b))
    shape ns n false a true b false c = inr (head_version ns n (eqb-false (length ns) 2 a) (eqb-false (get_or ns 2 0) 2 c))
    shape ns n false a true b true c = inl (Flush (get_or ns 0 0) (get_or ns 1 0) 2, head_second ns (eqb-true (length ns) 3 b) (eqb-true (get_or ns 2 0) 2 c) n)

    go : Or (NumbersOf 32 rest) → Or (IsText (codes "!flush" ++ rest))
    go (inl j) =
        let h = j.1 in
        subst (λ t. Or (IsText (codes "!flush" ++ t))) (sym h.same) (shape j.0 h.narrow (length j.0 == 2) refl (length j.0 == 3) refl (get_or j.0 2 0 == 2) refl)
    go (inr n) = inr (λ r t. let b = flush_back rest r t in n _ b.3)

step_or : (rest : List ℕ) → Or (IsText (codes "!step" ++ rest))
step_or rest = go (numbers_or 32 rest blank_free)
  where
    shape : (ns : List ℕ) → are_narrow ns ≡ true → (a : Bool) → (nat_le 3 (get_or ns 0 0) && nat_le (get_or ns 0 0) 9) ≡ a → (two : Bool) → takes_two (get_or ns 0 0) ≡ two
        → (b : Bool) → (length ns == 3) ≡ b → (c : Bool) → (length ns == 4) ≡ c → Or (IsText (codes "!step" ++ spaced ns))
    shape ns n false a two t b l c m = inr (λ r x. true_false (sym ((step_shape ns n r x).rule) ∙ a))
    shape ns n true a true t true l c m = inl (Step (get_or ns 0 0) (get_or ns 1 0) (get_or ns 2 0) 0, step_second ns (get_or ns 0 0) (eqb-true (length ns) 3 l) refl a t n)
    shape ns n true a true t false l c m = inr (λ r x. eqb-false (length ns) 3 l ((step_shape ns n r x).two t))
    shape ns n true a false t b l true m = inl (Step (get_or ns 0 0) (get_or ns 1 0) (get_or ns 2 0) (get_or ns 3 0), step_third ns (get_or ns 0 0) (eqb-true (length ns) 4 m) refl a t n)
    shape ns n true a false t b l false m = inr (λ r x. eqb-false (length ns) 4 m ((step_shape ns n r x).three t))

    go : Or (NumbersOf 32 rest) → Or (IsText (codes "!step" ++ rest))
    go (inl j) =
        let h = j.1 in
        let ns = j.0 in
        subst (λ t. Or (IsText (codes "!step" ++ t))) (sym h.same)
        (shape ns h.narrow (nat_le 3 (get_or ns 0 0) && nat_le (get_or ns 0 0) 9) refl (takes_two (get_or ns 0 0)) refl (length ns == 3) refl (length ns == 4) refl)
    go (inr n) = inr (λ r t. let b = step_back rest r t in n _ b.4)

abbrev Strips : List ℕ → List ℕ → Type 0
Strips w text = ((rest : List ℕ) × (text ≡ w ++ rest)) ⊎ ((rest : List ℕ) → text ≢ w ++ rest)

record_or : (text : List ℕ) → Or (IsText text)
record_or text =
    go (strips (codes "!step") text) (strips (codes "!worth") text) (strips (codes "!branch") text) (strips (codes "!dead") text) (strips (codes "!flush") text) (strips (codes "!plan") text) (strips (codes "!cost") text)
    (strips (codes "!bound") text) (bytes_eq text (codes "!end")) refl
  where
    by_word : (w rest : List ℕ) → text ≡ w ++ rest → Or (IsText (w ++ rest)) → Or (IsText text)
    by_word w rest e o = subst (λ t. Or (IsText t)) (sym e) o

    go : Strips (codes "!step") text → Strips (codes "!worth") text → Strips (codes "!branch") text → Strips (codes "!dead") text → Strips (codes "!flush") text → Strips (codes "!plan") text → Strips (codes "!cost") text
        → Strips (codes "!bound") text → (e : Bool) → bytes_eq text (codes "!end") ≡ e → Or (IsText text)
    go (inl s) w b d f p c o e h = by_word (codes "!step") s.0 s.1 (step_or s.0)
    go (inr s) (inl w) b d f p c o e h = by_word (codes "!worth") w.0 w.1 (worth_or w.0)
    go (inr s) (inr w) (inl b) d f p c o e h = by_word (codes "!branch") b.0 b.1 (branch_or b.0)
    go (inr s) (inr w) (inr b) (inl d) f p c o e h = by_word (codes "!dead") d.0 d.1 (dead_or d.0)
    go (inr s) (inr w) (inr b) (inr d) (inl f) p c o e h = by_word (codes "!flush") f.0 f.1 (flush_or f.0)
    go (inr s) (inr w) (inr b) (inr d) (inr f) (inl p) c o e h = by_word (codes "!plan") p.0 p.1 (plan_or p.0)
    go (inr s) (inr w) (inr b) (inr d) (inr f) (inr p) (inl c) o e h = by_word (codes "!cost") c.0 c.1 (cost_or c.0)
    go (inr s) (inr w) (inr b) (inr d) (inr f) (inr p) (inr c) (inl o) e h = by_word (codes "!bound") o.0 o.1 (bound_or o.0)
    go (inr s) (inr w) (inr b) (inr d) (inr f) (inr p) (inr c) (inr o) true h = inl (End, record { same = (bytes_eq-Decides text (codes "!end")).0 h; spelled = refl; sized = refl })
    go (inr s) (inr w) (inr b) (inr d) (inr f) (inr p) (inr c) (inr o) false h =
        inr (λ r t. none_word text r s w b d f p c o (λ e. true_false (sym ((bytes_eq-Decides text (codes "!end")).1 e) ∙ h)) t)

spells_or : (text : List ℕ) → Or (Spells text)
spells_or text = go (nat_le (length text) 65536) refl (record_or text)
  where
    go : (e : Bool) → nat_le (length text) 65536 ≡ e → Or (IsText text) → Or (Spells text)
    go false e o = inr (λ r s. omega (arith, leb-false (length text) 65536 e, s.short))
    go true e (inl t) = inl (t.0, record { written = t.1; short = leb-true (length text) 65536 e })
    go true e (inr n) = inr (λ r s. n r s.written)

pub read_always : ReadAlways
read_always (Nothing line) = (Ends line, refl)
read_always (Beyond line) = (Stops line TooLong, refl)
read_always (Has line text rest) = go (spells_or text) (read_always rest)
  where
    go : Or (Spells text) → (a : Reading) × IsRead rest a → (a : Reading) × IsRead (Has line text rest) a
    go (inl s) more = (Reads line s.0 more.0, inl (s.0, more.0, s.1, more.1, refl))
    go (inr n) more = (Stops line Malformed, inr (n, refl))
