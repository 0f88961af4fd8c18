-- The counts stay those of the names.
use Rattle.std.proofs.Common.{◌≡◌, ◌≢◌, refl, sym, ◌∙◌, ap, subst, ℕ, zero, suc, ◌+◌, ◌<◌, ◌≤◌, List, [], ◌∷◌, ◌++◌, Bool, true, false, ◌||◌, cond, not, nat_lt, nat_le, length, length-append, get_or, set, arith}
use Rattle.std.specs.Prelude.{Ok, Err}
use Rattle.arr_view.specs.Strided.{Strided}
use Rattle.std.specs.List.{list_all}
use Rattle.std.proofs.lemmas.Bool.{and_parts, and_from, le-leb}
use Rattle.arr_view.specs.Views.{most_elements, positions, whole_view}
use Rattle.arr_tree.specs.declared.refusal.Place.{Place}
use Rattle.arr_tree.specs.declared.refusal.Kind.TheVariants as kind
use Rattle.arr_tree.specs.declared.refusal.Refusal.{Refusal}
use Rattle.arr_elab.specs.declared.fault.ElabFault.{ElabFault}
use Rattle.arr_elab.specs.declared.fault.ElabFault.TheVariants.{Refused}
use Rattle.arr_elab.specs.declared.step.Step.{Step}
use Rattle.std.proofs.lemmas.List.{length-map}
use Rattle.arr_elab.specs.declared.bases.Base.{Base}
use Rattle.arr_elab.specs.State.{Names, State, has_base, is_named, live_from, most_live, fresh}
use Rattle.arr_elab.specs.Totals.{Held, IsKept, IsBounded, lengths, live_by, names_of, tally}

-- ---- live elements

pub named_by : (names : Names) (b : ℕ) → is_named names b ≡ nat_lt 0 (names_of names b)
named_by [] b = refl
named_by (e ∷ es) b = by (has_base b e.1) (named_by es b)
  where
    by : (t : Bool) → is_named es b ≡ nat_lt 0 (names_of es b) → (t || is_named es b) ≡ nat_lt 0 (cond t 1 0 + names_of es b)
    by true h = grind arith
    by false h = grind (arith, h)

pub live_tally : (names : Names) (first b : ℕ) (ns : List ℕ) → live_from names first b ns ≡ live_by first b (tally (names_of names) b ns)
live_tally names first b [] = refl
live_tally names first b (n ∷ ns) =
    let here : cond (nat_le first b || is_named names b) n 0 ≡ cond (nat_le first b || nat_lt 0 (names_of names b)) n 0 = ap (λ t. cond (nat_le first b || t) n 0) (named_by names b) in
    omega (arith, here, live_tally names first (suc b) ns)

-- the live elements as the totals have them
pub live_kept : (names : Names) (held : Held) → IsKept names held → live_from names held.first 0 (lengths held.list) ≡ live_by held.first 0 held.list
live_kept names held h = live_tally names held.first 0 (lengths held.list) ∙ ap (λ bases. live_by held.first 0 bases) (sym h.0)

-- ---- one more base

pub lengths_more : (bases : List Base) (x : Base) → lengths (bases ++ x ∷ []) ≡ lengths bases ++ x.length ∷ []
lengths_more [] x = refl
lengths_more (y ∷ bases) x = ap (λ ns. y.length ∷ ns) (lengths_more bases x)

pub tally_more : (names : ℕ → ℕ) (b n : ℕ) (ns : List ℕ) → names (b + length ns) ≡ 0 → tally names b (ns ++ n ∷ []) ≡ tally names b ns ++ record { length = n; names = 0 } ∷ []
tally_more names b n [] h =
    let e : b + 0 ≡ b = omega arith in
    ap (λ (m : ℕ). record { length = n; names = m } ∷ []) (ap names (sym e) ∙ h)
tally_more names b n (m ∷ ns) h =
    let e : suc b + length ns ≡ b + length (m ∷ ns) = omega arith in
    ap (λ (bases : List Base). record { length = m; names = names b } ∷ bases) (tally_more names (suc b) n ns (ap names e ∙ h))

-- ---- a fresh base

abbrev pub seen : Names → Held → List Step → State
seen names held steps = record { names = names; bases = lengths held.list; first = held.first; steps = steps }

pub too_much : (names : Names) (held : Held) (steps : List Step) (at : Place) (ns : List ℕ) → IsKept names held →
    not (nat_lt most_live (live_by held.first 0 held.list + positions ns)) ≡ false →
    fresh at ns (seen names held steps) ≡ Err (record { at = at; kind = kind.TooMuchLive })
unfolding fresh
too_much names held steps at ns k h =
    let live_is = live_kept names held k in
    let test : nat_lt most_live (live_from names held.first 0 (lengths held.list) + positions ns) ≡ true = rw live_is (grind (arith, h)) in
    rw test refl

pub made : (names : Names) (held : Held) (steps : List Step) (at : Place) (ns : List ℕ) → IsKept names held →
    not (nat_lt most_live (live_by held.first 0 held.list + positions ns)) ≡ true →
    fresh at ns (seen names held steps) ≡ Ok (whole_view (length held.list) ns, seen names (record { list = held.list ++ record { length = positions ns; names = 0 } ∷ []; first = held.first }) steps)
unfolding fresh
made names held steps at ns k h =
    let live_is = live_kept names held k in
    let test : nat_lt most_live (live_from names held.first 0 (lengths held.list) + positions ns) ≡ false = rw live_is (grind (arith, h)) in
    let more = lengths_more held.list (record { length = positions ns; names = 0 }) in
    let long : length (lengths held.list) ≡ length held.list = length-map held.list _ in
    rw test (rw more (rw long refl))

pub kept_made : (names : Names) (held : Held) (n : ℕ) → IsKept names held → IsKept names (record { list = held.list ++ record { length = n; names = 0 } ∷ []; first = held.first })
kept_made names held n k =
    let f = names_of names in
    let ns = lengths held.list in
    let x : Base = record { length = n; names = 0 } in
    let long : length ns ≡ length held.list = length-map held.list _ in
    let free : f (0 + length ns) ≡ 0 = k.1 (0 + length ns) (omega (arith, long)) in
    let is : held.list ++ x ∷ [] ≡ tally f 0 (lengths (held.list ++ x ∷ [])) =
    ap (λ (bases : List Base). bases ++ x ∷ []) k.0 ∙ sym (tally_more f 0 n ns free) ∙ ap (tally f 0) (sym (lengths_more held.list x)) in
    (is, λ b le. k.1 b (omega (arith, le, length-append held.list (x ∷ []))))

pub bounded_made : (names : Names) (held : Held) (n : ℕ) → IsBounded names (lengths held.list) → length held.list < 4294967296 → n ≤ most_elements
    → IsBounded names (lengths (held.list ++ record { length = n; names = 0 } ∷ []))
bounded_made names held n s low small =
    let ns : List ℕ = lengths held.list in
    let long : length ns ≡ length held.list = length-map held.list _ in
    let all : list_all (λ n. nat_le n most_elements) (ns ++ n ∷ []) ≡ true = all_more ns n s.2 (le-leb n most_elements small) in
    subst (λ (ls : List ℕ). IsBounded names ls) (sym (lengths_more held.list (record { length = n; names = 0 })))
    (s.0, omega (arith, low, long, length-append ns (n ∷ [])), all)
  where
    all_more : (ms : List ℕ) (m : ℕ) → list_all (λ n. nat_le n most_elements) ms ≡ true → nat_le m most_elements ≡ true → list_all (λ n. nat_le n most_elements) (ms ++ m ∷ []) ≡ true
    all_more [] m h e = and_from (nat_le m most_elements) true e refl
    all_more (x ∷ ms) m h e = let both = and_parts (nat_le x most_elements) _ h in and_from (nat_le x most_elements) _ both.0 (all_more ms m both.1 e)

-- ---- one name more or less

-- bases with the same counts from b on
pub tally_same : (f g : ℕ → ℕ) (b : ℕ) (ns : List ℕ) → ((c : ℕ) → b ≤ c → f c ≡ g c) → tally f b ns ≡ tally g b ns
tally_same f g b [] h = refl
tally_same f g b (n ∷ ns) h =
    let here : f b ≡ g b = h b (omega arith) in
    let rest = tally_same f g (suc b) ns (λ c le. h c (omega arith)) in
    ap (λ (m : ℕ). record { length = n; names = m } ∷ tally f (suc b) ns) here ∙ ap (λ (bases : List Base). record { length = n; names = g b } ∷ bases) rest

pub tally_at : (f : ℕ → ℕ) (b i j : ℕ) (ns : List ℕ) (d : Base) → i < length ns → j ≡ b + i → get_or (tally f b ns) i d ≡ record { length = get_or ns i 0; names = f j }
tally_at f b i j [] d p e = absurd (omega arith)
tally_at f b zero j (n ∷ ns) d p e =
    let is : b ≡ j = omega arith in
    ap (λ (c : ℕ). record { length = n; names = f c }) is
tally_at f b (suc i) j (n ∷ ns) d p e = tally_at f (suc b) i j ns d (omega arith) (omega arith)

pub tally_set : (f g : ℕ → ℕ) (b i j : ℕ) (ns : List ℕ) → i < length ns → j ≡ b + i → ((c : ℕ) → c ≢ j → f c ≡ g c) →
    set (tally f b ns) i (record { length = get_or ns i 0; names = g j }) ≡ tally g b ns
tally_set f g b i j [] p e h = absurd (omega arith)
tally_set f g b zero j (n ∷ ns) p e h =
    let is : j ≡ b = omega arith in
    let rest = tally_same f g (suc b) ns (λ c le. h c (omega arith)) in
    ap (λ (c : ℕ). record { length = n; names = g c } ∷ tally f (suc b) ns) is ∙ ap (λ (bases : List Base). record { length = n; names = g b } ∷ bases) rest
tally_set f g b (suc i) j (n ∷ ns) p e h =
    let here : f b ≡ g b = h b (omega arith) in
    let rest = tally_set f g (suc b) i j ns (omega arith) (omega arith) h in
    ap (λ (m : ℕ). record { length = n; names = m } ∷ set (tally f (suc b) ns) i (record { length = get_or ns i 0; names = g j })) here
    ∙ ap (λ (bases : List Base). record { length = n; names = g b } ∷ bases) rest

-- ---- as code sees them

pub same_refusal : (e : ElabFault) (x r : Refusal) → e ≡ Refused x → e ≡ Refused r → x ≡ r
same_refusal e x r h k = grind (arith, h, k)

pub refused_fresh : (names : Names) (held : Held) (steps : List Step) (s : State) (at : Place) (ns : List ℕ) (count : ℕ) →
    seen names held steps ≡ s → IsKept names held → count ≡ positions ns →
    false ≡ not (nat_lt most_live (live_by held.first 0 held.list + count)) →
    fresh at ns s ≡ Err (record { at = at; kind = kind.TooMuchLive })
refused_fresh names held steps s at ns count is k c t =
    subst (λ s. fresh at ns s ≡ Err (record { at = at; kind = kind.TooMuchLive })) is
    (too_much names held steps at ns k (ap (λ n. not (nat_lt most_live (live_by held.first 0 held.list + n))) (sym c) ∙ sym t))

pub made_fresh : (names : Names) (held new : Held) (steps : List Step) (s : State) (at : Place) (ns : List ℕ) (count base : ℕ) (view : Strided) →
    seen names held steps ≡ s → IsKept names held → count ≡ positions ns → base ≡ length held.list → view ≡ whole_view base ns →
    true ≡ not (nat_lt most_live (live_by held.first 0 held.list + count)) →
    new ≡ record { list = held.list ++ record { length = count; names = 0 } ∷ []; first = held.first } →
    fresh at ns s ≡ Ok (view, seen names new steps)
made_fresh names held new steps s at ns count base view is k c b v t n =
    let whole : whole_view (length held.list) ns ≡ view = ap (λ b. whole_view b ns) (sym b) ∙ sym v in
    let after : seen names (record { list = held.list ++ record { length = positions ns; names = 0 } ∷ []; first = held.first }) steps ≡ seen names new steps =
    ap (λ (m : ℕ). seen names (record { list = held.list ++ record { length = m; names = 0 } ∷ []; first = held.first }) steps) (sym c) ∙ ap (λ (h : Held). seen names h steps) (sym n) in
    subst (λ s. fresh at ns s ≡ Ok (view, seen names new steps)) is
    (made names held steps at ns k (ap (λ n. not (nat_lt most_live (live_by held.first 0 held.list + n))) (sym c) ∙ sym t)
    ∙ ap (λ v. Ok (v, seen names (record { list = held.list ++ record { length = positions ns; names = 0 } ∷ []; first = held.first }) steps)) whole
    ∙ ap (λ after. Ok (view, after)) after)
