-- The groups of a leaf.
use Rattle.std.proofs.Common.{◌≡◌, ◌≢◌, ℕ, suc, ◌+◌, ◌-◌, ◌^◌, ◌<◌, ◌≤◌, List, [], ◌∷◌, ◌++◌, length, get_or, take, drop, true, not, refl, sym, ap, ◌∙◌, subst, arith, append_assoc, length-append, decimal}
use Rattle.std.specs.Prelude.{nat_lt, nat_le}
use Rattle.std.specs.List.{flat_map, list_all, before_first, after_first, position_or_len, prefix_len}
use Rattle.std.proofs.lemmas.Bool.{and_parts, and_from, ltb-true, lt-ltb, leb-true, le-leb, eqb-true}
use Rattle.std.proofs.lemmas.List.{drop-drop, take-append-drop}
use Rattle.std.proofs.lemmas.List.Folds.{length-prefix_len}
use Rattle.std.proofs.lemmas.List.Sums.{split_at_first, passes_at_first, prefix_len-le-length}
use Rattle.arr_law.specs.declared.charge.Charge.{Charge}
use Rattle.arr_cert.specs.Texts.{behind, group_text, is_group_spelled}
use Rattle.arr_cert.specs.Spelled.{DecimalOf, GroupOf, GroupsOf, NumbersOf, are_narrow, is_sign}
use Rattle.arr_cert.proofs.Joined.{Cuts, Each, IsJoined, Listed, before_cut, drop_front, free_join, is_free, joined, listed_all, listed_more, none_part, none_sign}
use Rattle.arr_cert.proofs.Numbers.{decimal_free}

-- the text of a group: its first operation, its view, and the further operations
pub record Parts (text : List ℕ) (f k : ℕ) (fs : List ℕ) : Type 0 where
  pub same : text ≡ decimal f ++ (46 ∷ (decimal k ++ behind 44 fs))
  pub first : f < 2 ^ 32
  pub view : k ≤ 2
  pub narrow : are_narrow fs ≡ true

spread : (f k : ℕ) (fs : List ℕ) → group_text (record { operand = k; ops = f ∷ fs }) ≡ 32 ∷ (decimal f ++ (46 ∷ (decimal k ++ behind 44 fs)))
spread f k fs = append_assoc (32 ∷ decimal f) (46 ∷ decimal k) (behind 44 fs)

-- ---- a group is its parts

pub to_parts : (text : List ℕ) (c : Charge) → GroupOf text c → (f : ℕ) × (fs : List ℕ) × (c.ops ≡ f ∷ fs) × Parts text f c.operand fs
to_parts text c g = go c.ops refl
  where
    go : (ops : List ℕ) → c.ops ≡ ops → (f : ℕ) × (fs : List ℕ) × (c.ops ≡ f ∷ fs) × Parts text f c.operand fs
    go [] e = absurd (omega (arith, leb-true 1 (length c.ops) (and_parts (nat_le c.operand 2) (nat_le 1 (length c.ops)) g.spelled).1, ap length e))
    go (f ∷ fs) e =
        let n = and_parts (nat_lt c.operand (2 ^ 32)) (are_narrow c.ops) g.narrow in
        let m = and_parts (nat_lt f (2 ^ 32)) (are_narrow fs) (subst (λ ops. are_narrow ops ≡ true) e n.1) in (
          f,
          fs,
          e,
          record {
            same = ap (drop 1) (g.same ∙ (ap (λ ops. group_text (record { operand = c.operand; ops = ops })) e ∙ spread f c.operand fs));
            first = ltb-true f (2 ^ 32) m.0;
            view = leb-true c.operand 2 (and_parts (nat_le c.operand 2) (nat_le 1 (length c.ops)) g.spelled).0;
            narrow = m.1;
          },
        )

pub from_parts : (text : List ℕ) (f k : ℕ) (fs : List ℕ) → Parts text f k fs → GroupOf text (record { operand = k; ops = f ∷ fs })
from_parts text f k fs p = record {
  same = ap (λ t. 32 ∷ t) p.same ∙ sym (spread f k fs);
  spelled = and_from (nat_le k 2) (nat_le 1 (suc (length fs))) (le-leb k 2 p.view) (le-leb 1 (suc (length fs)) (omega arith));
  narrow = and_from (nat_lt k (2 ^ 32)) (are_narrow (f ∷ fs)) (lt-ltb k (2 ^ 32) (omega (arith, p.view))) (and_from (nat_lt f (2 ^ 32)) (are_narrow fs) (lt-ltb f (2 ^ 32) p.first) p.narrow);
}

-- ---- where the parts stand

point_at : (text : List ℕ) (f k : ℕ) (fs : List ℕ) → Parts text f k fs → before_first (is_sign 46) text ≡ decimal f
point_at text f k fs p = ap (before_first (is_sign 46)) p.same ∙ before_cut 46 (decimal f) (46 ∷ (decimal k ++ behind 44 fs)) (decimal_free 46 f (omega arith) (omega (arith, p.first))) refl

tail_at : (text : List ℕ) (point f k : ℕ) (fs : List ℕ) → Parts text f k fs → point ≡ length (before_first (is_sign 46) text) → drop (point + 1) text ≡ decimal k ++ behind 44 fs
tail_at text point f k fs p e =
    let at : point ≡ length (decimal f) = e ∙ ap length (point_at text f k fs p) in
    sym (drop-drop 1 point text) ∙ (ap (λ n. drop 1 (drop n text)) at ∙ (ap (λ t. drop 1 (drop (length (decimal f)) t)) p.same ∙ ap (drop 1) (drop_front (decimal f) (46 ∷ (decimal k ++ behind 44 fs)))))

cuts_behind : (sign : ℕ) (ns : List ℕ) → Cuts sign (behind sign ns)
cuts_behind sign [] = tt
cuts_behind sign (n ∷ ns) = refl

comma_at : (tail : List ℕ) (k : ℕ) (fs : List ℕ) → k ≤ 2 → tail ≡ decimal k ++ behind 44 fs → before_first (is_sign 44) tail ≡ decimal k
comma_at tail k fs l e = ap (before_first (is_sign 44)) e ∙ before_cut 44 (decimal k) (behind 44 fs) (decimal_free 44 k (omega arith) (omega (arith, l))) (cuts_behind 44 fs)

others_at : (tail : List ℕ) (comma k : ℕ) (fs : List ℕ) → k ≤ 2 → tail ≡ decimal k ++ behind 44 fs → comma ≡ length (before_first (is_sign 44) tail) → drop comma tail ≡ behind 44 fs
others_at tail comma k fs l e c =
    ap (λ n. drop n tail) (c ∙ ap length (comma_at tail k fs l e)) ∙ (ap (drop (length (decimal k))) e ∙ drop_front (decimal k) (behind 44 fs))

-- ---- where there is no group

pub none_point : (text : List ℕ) (c : Charge) → length (before_first (is_sign 46) text) ≡ length text → GroupOf text c → ⊥
none_point text c e g =
    let p = to_parts text c g in
    omega (arith, e, ap length (point_at text p.0 c.operand p.1 p.3), ap length p.3.same, length-append (decimal p.0) (46 ∷ (decimal c.operand ++ behind 44 p.1)))

pub none_first : (text : List ℕ) (c : Charge) → ((n : ℕ) → DecimalOf (2 ^ 32 - 1) (before_first (is_sign 46) text) n → ⊥) → GroupOf text c → ⊥
none_first text c n g = let p = to_parts text c g in n p.0 (record { same = point_at text p.0 c.operand p.1 p.3; within = omega (arith, p.3.first) })

pub none_view : (text : List ℕ) (point : ℕ) (c : Charge) → point ≡ length (before_first (is_sign 46) text) → ((n : ℕ) → DecimalOf 2 (before_first (is_sign 44) (drop (point + 1) text)) n → ⊥) → GroupOf text c → ⊥
none_view text point c e n g =
    let p = to_parts text c g in
    n c.operand (record { same = comma_at (drop (point + 1) text) c.operand p.1 p.3.view (tail_at text point p.0 c.operand p.1 p.3 e); within = p.3.view })

pub none_others : (text : List ℕ) (point comma : ℕ) (c : Charge) → point ≡ length (before_first (is_sign 46) text) → comma ≡ length (before_first (is_sign 44) (drop (point + 1) text))
    → ((ns : List ℕ) → NumbersOf 44 (drop comma (drop (point + 1) text)) ns → ⊥) → GroupOf text c → ⊥
none_others text point comma c e f n g =
    let p = to_parts text c g in
    n p.1 (record { same = others_at (drop (point + 1) text) comma c.operand p.1 p.3.view (tail_at text point p.0 c.operand p.1 p.3 e) f; narrow = p.3.narrow })

-- ---- and where there is one

pub made : (text : List ℕ) (point comma f k : ℕ) (fs : List ℕ) → point ≡ length (before_first (is_sign 46) text) → point ≢ length text → comma ≡ length (before_first (is_sign 44) (drop (point + 1) text))
    → DecimalOf (2 ^ 32 - 1) (before_first (is_sign 46) text) f → DecimalOf 2 (before_first (is_sign 44) (drop (point + 1) text)) k → NumbersOf 44 (drop comma (drop (point + 1) text)) fs
    → GroupOf text (record { operand = k; ops = f ∷ fs })
made text point comma f k fs e n c first view others =
    let tail = drop (point + 1) text in
    let place : point ≡ prefix_len (λ b. not (is_sign 46 b)) text = e ∙ length-prefix_len (λ b. not (is_sign 46 b)) text in
    let within : prefix_len (λ b. not (is_sign 46 b)) text < length text = omega (arith, prefix_len-le-length (λ b. not (is_sign 46 b)) text, place, n) in
    let split = split_at_first (is_sign 46) text 0 within in
    let sign : get_or text (position_or_len (is_sign 46) text) 0 ≡ 46 = eqb-true _ 46 (passes_at_first (is_sign 46) text 0 within) in
    let behind_point : after_first (is_sign 46) text ≡ tail = ap (λ n. drop (n + 1) text) (sym place) in
    let tail_split : tail ≡ decimal k ++ behind 44 fs =
    sym (take-append-drop comma tail) ∙ (ap (λ t. t ++ drop comma tail) (ap (λ n. take n tail) (c ∙ length-prefix_len (λ b. not (is_sign 44 b)) tail) ∙ view.same) ∙ ap (λ t. decimal k ++ t) others.same) in
    from_parts text f k fs (record {
      same = split ∙ (ap (λ t. t ++ (get_or text (position_or_len (is_sign 46) text) 0 ∷ after_first (is_sign 46) text)) first.same
          ∙ ap (λ t. decimal f ++ t) (ap (λ b. b ∷ after_first (is_sign 46) text) sign ∙ ap (λ t. 46 ∷ t) (behind_point ∙ tail_split)));
      first = omega (arith, first.within);
      view = view.within;
      narrow = others.narrow;
    })

-- ---- groups one after another

-- a group without its blank
abbrev pub bare : Charge → List ℕ
bare c = drop 1 (group_text c)

pub record Good (c : Charge) : Type 0 where
  pub spelled : is_group_spelled c ≡ true
  pub narrow : are_narrow (c.operand ∷ c.ops) ≡ true

blank_first : (c : Charge) → 32 ∷ bare c ≡ group_text c
blank_first c = go c.ops
  where
    go : (ops : List ℕ) → 32 ∷ drop 1 (group_text (record { operand = c.operand; ops = ops })) ≡ group_text (record { operand = c.operand; ops = ops })
    go [] = refl
    go (f ∷ fs) = refl

pub of_bare : (text : List ℕ) (c : Charge) → Good c → text ≡ bare c → GroupOf text c
of_bare text c g e = record { same = ap (λ t. 32 ∷ t) e ∙ blank_first c; spelled = g.spelled; narrow = g.narrow }

pub to_bare : (text : List ℕ) (c : Charge) → GroupOf text c → text ≡ bare c
to_bare text c g = ap (drop 1) g.same

others_free : (fs : List ℕ) → are_narrow fs ≡ true → is_free 32 (behind 44 fs) ≡ true
others_free [] n = refl
others_free (f ∷ fs) n =
    let p = and_parts (nat_lt f (2 ^ 32)) (are_narrow fs) n in
    free_join 32 (44 ∷ decimal f) (behind 44 fs) (decimal_free 32 f (omega arith) (omega (arith, ltb-true f (2 ^ 32) p.0))) (others_free fs p.1)

pub bare_free : (c : Charge) → Good c → is_free 32 (bare c) ≡ true
bare_free c g =
    let p = to_parts (bare c) c (of_bare (bare c) c g refl) in
    let d = p.3 in
    ap (is_free 32) d.same
    ∙ free_join 32 (decimal p.0) (46 ∷ (decimal c.operand ++ behind 44 p.1)) (decimal_free 32 p.0 (omega arith) (omega (arith, d.first)))
    (free_join 32 (decimal c.operand) (behind 44 p.1) (decimal_free 32 c.operand (omega arith) (omega (arith, d.view))) (others_free p.1 d.narrow))

narrow_parts : (ns ms : List ℕ) → are_narrow (ns ++ ms) ≡ true → (are_narrow ns ≡ true) × (are_narrow ms ≡ true)
narrow_parts [] ms h = (refl, h)
narrow_parts (n ∷ ns) ms h =
    let p = and_parts (nat_lt n (2 ^ 32)) (are_narrow (ns ++ ms)) h in
    let r = narrow_parts ns ms p.1 in
    (and_from (nat_lt n (2 ^ 32)) (are_narrow ns) p.0 r.0, r.1)

narrow_both : (ns ms : List ℕ) → are_narrow ns ≡ true → are_narrow ms ≡ true → are_narrow (ns ++ ms) ≡ true
narrow_both [] ms h k = k
narrow_both (n ∷ ns) ms h k = let p = and_parts (nat_lt n (2 ^ 32)) (are_narrow ns) h in and_from (nat_lt n (2 ^ 32)) (are_narrow (ns ++ ms)) p.0 (narrow_both ns ms p.1 k)

joined_groups : (cs : List Charge) → joined 32 bare cs ≡ flat_map group_text cs
joined_groups [] = refl
joined_groups (c ∷ cs) = ap (λ t. t ++ joined 32 bare cs) (blank_first c) ∙ ap (λ t. group_text c ++ t) (joined_groups cs)

pub to_joined : (text : List ℕ) (cs : List Charge) → GroupsOf text cs → IsJoined 32 bare Good text cs
to_joined text cs g = record { same = g.same ∙ sym (joined_groups cs); each = go cs g.spelled g.narrow }
  where
    go : (cs : List Charge) → list_all is_group_spelled cs ≡ true → are_narrow (flat_map (λ (c : Charge). c.operand ∷ c.ops) cs) ≡ true → Each Good cs
    go [] s n = tt
    go (c ∷ cs) s n =
        let p = and_parts (is_group_spelled c) (list_all is_group_spelled cs) s in
        let q = narrow_parts (c.operand ∷ c.ops) (flat_map (λ (c : Charge). c.operand ∷ c.ops) cs) n in
        (record { spelled = p.0; narrow = q.0 }, go cs p.1 q.1)

pub from_joined : (text : List ℕ) (cs : List Charge) → IsJoined 32 bare Good text cs → GroupsOf text cs
from_joined text cs j = record { same = j.same ∙ joined_groups cs; spelled = spelled cs j.each; narrow = narrow cs j.each }
  where
    spelled : (cs : List Charge) → Each Good cs → list_all is_group_spelled cs ≡ true
    spelled [] e = refl
    spelled (c ∷ cs) e = let g = e.0 in and_from (is_group_spelled c) (list_all is_group_spelled cs) g.spelled (spelled cs e.1)

    narrow : (cs : List Charge) → Each Good cs → are_narrow (flat_map (λ (c : Charge). c.operand ∷ c.ops) cs) ≡ true
    narrow [] e = refl
    narrow (c ∷ cs) e = let g = e.0 in narrow_both (c.operand ∷ c.ops) (flat_map (λ (c : Charge). c.operand ∷ c.ops) cs) g.narrow (narrow cs e.1)

-- one turn of the loop

pub wrong_blank : (text : List ℕ) (at : ℕ) (cs : List Charge) → Listed 32 bare Good text at cs → at < length text → get_or text at 0 ≢ 32 → (ds : List Charge) → GroupsOf text ds → ⊥
wrong_blank text at cs listed l n ds g = none_sign 32 bare Good text at cs bare_free listed l n ds (to_joined text ds g)

pub wrong_group : (text : List ℕ) (at : ℕ) (cs : List Charge) → Listed 32 bare Good text at cs → at < length text → ((c : Charge) → GroupOf (before_first (is_sign 32) (drop (at + 1) text)) c → ⊥) → (ds : List Charge) → GroupsOf text ds → ⊥
wrong_group text at cs listed l none ds g = none_part 32 bare Good text at cs bare_free listed l (λ c p e. none c (of_bare (before_first (is_sign 32) (drop (at + 1) text)) c p e)) ds (to_joined text ds g)

pub more_groups : (text : List ℕ) (at to : ℕ) (cs : List Charge) (c : Charge) → Listed 32 bare Good text at cs → at < length text → get_or text at 0 ≡ 32 → GroupOf (before_first (is_sign 32) (drop (at + 1) text)) c
    → to ≡ at + 1 + length (before_first (is_sign 32) (drop (at + 1) text)) → Listed 32 bare Good text to (cs ++ c ∷ [])
more_groups text at to cs c listed l is g e = listed_more 32 bare Good text at to cs c bare_free listed l is (to_bare (before_first (is_sign 32) (drop (at + 1) text)) c g) e (record { spelled = g.spelled; narrow = g.narrow })

pub all_groups : (text : List ℕ) (at : ℕ) (cs : List Charge) → Listed 32 bare Good text at cs → length text ≤ at → GroupsOf text cs
all_groups text at cs listed l = from_joined text cs (listed_all 32 bare Good text at cs listed l)
