-- Certificates are read back, and a proof is read in one way.
use Rattle.std.proofs.Common.{◌≡◌, ℕ, suc, ◌-◌, ◌^◌, ◌≤◌, inl, inr, List, [], ◌∷◌, ◌++◌, length, drop, true, ◌&&◌, refl, sym, ap, ap₂, ◌∙◌, subst, arith, length-append, decimal}
use Rattle.std.specs.Prelude.{nat_lt}
use Rattle.std.specs.List.{flat_map, list_all}
use Rattle.std.proofs.lemmas.Bool.{and_parts, and_from, ltb-true, leb-true}
use Rattle.arr_law.specs.declared.charge.Charge.{Charge}
use Rattle.arr_law.specs.declared.record.Record.{Record}
use Rattle.arr_law.specs.declared.record.Record.TheVariants.{Flush, Plan, Cost, Bound, Step, Branch, Dead, Worth, End}
use Rattle.arr_law.specs.Verdict.{Reads, reading_of, records_of, is_tree_record}
use Rattle.arr_cert.specs.Texts.{behind, first_text, group_text, version_numbers, third_numbers, record_text, line_text, is_spelled, is_short}
use Rattle.arr_cert.specs.Laws.{numbers_of, is_plain}
use Rattle.arr_cert.specs.Spelling.{IsText, is_sized}
use Rattle.arr_cert.specs.Reading.{Nothing, Beyond, Has, IsRead, is_marked, lines, marked}
use Rattle.arr_cert.specs.Back.{ReadOnce, TextsReadBack}
use Rattle.arr_cert.specs.Proofs.{is_open}
use Rattle.arr_cert.proofs.Differ.{Small, line_back, small_join}
use Rattle.arr_cert.proofs.Joined.{free_join}
use Rattle.arr_cert.proofs.Numbers.{decimal_free}
use Rattle.arr_cert.proofs.Words.{narrow_small, head_narrow, step_narrow}
use Rattle.arr_cert.proofs.Passing.{first_line, is_within, text_is}

small_of : (r : Record) → is_sized r ≡ true → Small (numbers_of r)
small_of (Flush n c v) s = narrow_small (n ∷ c ∷ v ∷ []) s
small_of (Plan places) s = narrow_small places s
small_of (Cost cost) s = and_from (nat_lt cost (2 ^ 64)) true s refl
small_of (Bound bound) s = and_from (nat_lt bound (2 ^ 64)) true s refl
small_of (Step k f g h) s = narrow_small (k ∷ f ∷ g ∷ h ∷ []) s
small_of (Branch f g) s = narrow_small (f ∷ g ∷ []) s
small_of (Dead f g) s = narrow_small (f ∷ g ∷ []) s
small_of (Worth charges) s = narrow_small (flat_map (λ (c : Charge). c.operand ∷ c.ops) charges) s
small_of End s = refl

-- ---- no line feed stands in a record

behind_open : (sign : ℕ) (ns : List ℕ) → is_open (sign ∷ []) ≡ true → Small ns → is_open (behind sign ns) ≡ true
behind_open sign [] o s = refl
behind_open sign (n ∷ ns) o s =
    let p = and_parts (nat_lt n (2 ^ 64)) (list_all (λ m. nat_lt m (2 ^ 64)) ns) s in
    free_join 10 (sign ∷ decimal n) (behind sign ns) (free_join 10 (sign ∷ []) (decimal n) o (decimal_free 10 n (omega arith) (ltb-true n (2 ^ 64) p.0))) (behind_open sign ns o p.1)

group_open : (k : ℕ) (ops : List ℕ) → Small (k ∷ ops) → is_open ((first_text ops ++ (46 ∷ decimal k)) ++ behind 44 (drop 1 ops)) ≡ true
group_open k [] s =
    let p = and_parts (nat_lt k (2 ^ 64)) true s in
    free_join 10 (32 ∷ 46 ∷ decimal k) [] (decimal_free 10 k (omega arith) (ltb-true k (2 ^ 64) p.0)) refl
group_open k (f ∷ fs) s =
    let p = and_parts (nat_lt k (2 ^ 64)) (list_all (λ m. nat_lt m (2 ^ 64)) (f ∷ fs)) s in
    let q = and_parts (nat_lt f (2 ^ 64)) (list_all (λ m. nat_lt m (2 ^ 64)) fs) p.1 in
    free_join 10 ((32 ∷ decimal f) ++ (46 ∷ decimal k)) (behind 44 fs)
    (free_join 10 (32 ∷ decimal f) (46 ∷ decimal k) (decimal_free 10 f (omega arith) (ltb-true f (2 ^ 64) q.0)) (decimal_free 10 k (omega arith) (ltb-true k (2 ^ 64) p.0)))
    (behind_open 44 fs refl q.1)

groups_open : (cs : List Charge) → Small (flat_map (λ (c : Charge). c.operand ∷ c.ops) cs) → is_open (flat_map group_text cs) ≡ true
groups_open [] s = refl
groups_open (c ∷ cs) s =
    let p = small_join (c.operand ∷ c.ops) (flat_map (λ (c : Charge). c.operand ∷ c.ops) cs) s in
    free_join 10 (group_text c) (flat_map group_text cs) (group_open c.operand c.ops p.0) (groups_open cs p.1)

record_open : (r : Record) → is_sized r ≡ true → is_open (record_text r) ≡ true
record_open (Flush n c v) s = behind_open 32 (n ∷ c ∷ version_numbers v) refl (narrow_small (n ∷ c ∷ version_numbers v) (head_narrow n c v s))
record_open (Plan places) s = behind_open 32 places refl (small_of (Plan places) s)
record_open (Cost cost) s = behind_open 32 (cost ∷ []) refl (small_of (Cost cost) s)
record_open (Bound bound) s = behind_open 32 (bound ∷ []) refl (small_of (Bound bound) s)
record_open (Step k f g h) s = behind_open 32 (k ∷ f ∷ g ∷ third_numbers k h) refl (narrow_small (k ∷ f ∷ g ∷ third_numbers k h) (step_narrow k f g h s))
record_open (Branch f g) s = behind_open 32 (f ∷ g ∷ []) refl (small_of (Branch f g) s)
record_open (Dead f g) s = behind_open 32 (f ∷ g ∷ []) refl (small_of (Dead f g) s)
record_open (Worth charges) s = groups_open charges (small_of (Worth charges) s)
record_open End s = refl

record_marked : (r : Record) → is_marked (record_text r ++ 10 ∷ []) ≡ true
record_marked (Flush n c v) = refl
record_marked (Plan places) = refl
record_marked (Cost cost) = refl
record_marked (Bound bound) = refl
record_marked (Step k f g h) = refl
record_marked (Branch f g) = refl
record_marked (Dead f g) = refl
record_marked (Worth charges) = refl
record_marked End = refl

-- ---- a record is read back

marked_one : (line room : ℕ) (r : Record) (X : List ℕ) → is_sized r ≡ true → length (line_text r) ≤ room
    → marked line room (lines (line_text r ++ X)) ≡ Has line (record_text r) (marked (suc line) (room - length (line_text r)) (lines X))
marked_one line room r X s w =
    let open_text = record_open r s in
    is_within line room (line_text r) (lines X) (lines (line_text r ++ X)) true (first_line (record_text r) (line_text r ++ X) X true open_text (λ e. absurd (cc)) refl) w (record_marked r)
    ∙ ap (λ t. Has line t (marked (suc line) (room - length (line_text r)) (lines X))) (text_is (record_text r) true open_text)

back : (rs : List Record) (line room : ℕ) → list_all (λ r. is_spelled r && is_short r) rs ≡ true → list_all is_sized rs ≡ true → length (flat_map line_text rs) ≤ room
    → IsRead (marked line room (lines (flat_map line_text rs))) (reading_of line rs)
back [] line room p s w = refl
back (r ∷ rs) line room p s w =
    let q = and_parts (is_spelled r && is_short r) (list_all (λ r. is_spelled r && is_short r) rs) p in
    let t = and_parts (is_spelled r) (is_short r) q.0 in
    let u = and_parts (is_sized r) (list_all is_sized rs) s in
    let total = length-append (line_text r) (flat_map line_text rs) in
    subst (λ m. IsRead m (reading_of line (r ∷ rs))) (sym (marked_one line room r (flat_map line_text rs) u.0 (omega (arith, w, total))))
    (inl (
      r,
      reading_of (suc line) rs,
      record { written = record { same = refl; spelled = t.0; sized = u.0 }; short = leb-true (length (record_text r)) 65536 t.1 },
      back rs (suc line) (room - length (line_text r)) q.1 u.1 (omega (arith, w, total)),
      refl,
    ))

pub texts_read_back : TextsReadBack
texts_read_back c p s w =
    let q = and_parts (list_all (λ r. is_spelled r && is_short r) (records_of c)) (list_all is_tree_record c.tree) p in
    back (records_of c) 1 67108864 q.0 s w

-- ---- a proof is read in one way

plain_of : (text : List ℕ) (r : Record) → IsText text r → is_plain r ≡ true
plain_of text r t = and_from (is_spelled r) (list_all (λ n. nat_lt n (2 ^ 64)) (numbers_of r)) t.spelled (small_of r t.sized)

one_record : (text : List ℕ) (r s : Record) → IsText text r → IsText text s → r ≡ s
one_record text r s p q =
    (line_back r s [] [] (plain_of text r p) (plain_of text s q) (ap (λ t. (t ++ 10 ∷ []) ++ []) (sym p.same ∙ q.same))).0

pub read_once : ReadOnce
read_once (Nothing line) a b p q = p ∙ sym q
read_once (Beyond line) a b p q = p ∙ sym q
read_once (Has line text rest) a b (inl p) (inl q) =
    let r = p.2 in
    let s = q.2 in
    p.4 ∙ (ap₂ (λ x y. Reads line x y) (one_record text p.0 q.0 r.written s.written) (read_once rest p.1 q.1 p.3 q.3) ∙ sym q.4)
read_once (Has line text rest) a b (inl p) (inr q) = absurd (q.0 p.0 p.2)
read_once (Has line text rest) a b (inr p) (inl q) = absurd (p.0 q.0 q.2)
read_once (Has line text rest) a b (inr p) (inr q) = p.1 ∙ sym q.1
