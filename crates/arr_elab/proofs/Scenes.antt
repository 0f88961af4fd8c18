-- Views that stand for live bases, and what bases that are added leave of them.
use Rattle.std.proofs.Common.{◌≡◌, ℕ, ◌+◌, ◌<◌, ◌≤◌, List, [], ◌∷◌, ◌++◌, true, ◌||◌, length, get_or, refl, ap, ap₂, sym, ◌∙◌, subst, arith, length-append, append_assoc}
use Rattle.std.specs.Prelude.{nat_lt, nat_le, ◌==◌}
use Rattle.std.specs.List.{list_any}
use Rattle.std.proofs.lemmas.Bool.{and_parts, and_from, ltb-true, lt-ltb, le-leb}
use Rattle.std.proofs.lemmas.List.{append-nil, get_or_append_left, get_or-append-add}
use Rattle.arr_num.specs.declared.elem.Elem.{Elem}
use Rattle.arr_num.specs.declared.elem.Elem.TheVariants.{U8}
use Rattle.arr_view.specs.Strided.{Strided}
use Rattle.arr_view.specs.Views.{is_view}
use Rattle.arr_num.specs.Types.{same_elem, same_elem_refl}
use Rattle.arr_elab.specs.Recording.{Scene, length_of, type_of, is_live, stands}
use Rattle.arr_elab.proofs.Derived.{Derived, Lies, is_below}

-- ---- types

pub elem_test : (t u : Elem) → t ≡ u → same_elem t u ≡ true
elem_test t u e = ap (same_elem t) (sym e) ∙ same_elem_refl t

-- ---- bases are added

pub record Grows (old new : Scene) : Type 0 where
  pub more : List (ℕ × Elem)
  pub bases : new.bases ≡ old.bases ++ more
  pub first : new.first ≡ old.first
  pub names : new.names ≡ old.names

pub grows_none : (s : Scene) → Grows s s
grows_none s = record { more = []; bases = sym (append-nil s.bases); first = refl; names = refl }

pub grows_on : (a b d : Scene) → Grows a b → Grows b d → Grows a d
grows_on a b d g h =
    record { more = g.more ++ h.more; bases = h.bases ∙ ap (λ xs. xs ++ h.more) g.bases ∙ append_assoc a.bases g.more h.more; first = h.first ∙ g.first; names = h.names ∙ g.names }

pub base_kept : (a b : Scene) → Grows a b → (k : ℕ) → k < length a.bases → get_or b.bases k (0, U8) ≡ get_or a.bases k (0, U8)
base_kept a b g k h = ap (λ xs. get_or xs k (0, U8)) g.bases ∙ get_or_append_left a.bases g.more (0, U8) k h

pub longer : (a b : Scene) → Grows a b → (k : ℕ) → k < length a.bases → k < length b.bases
longer a b g k h =
    let e : length b.bases ≡ length a.bases + length g.more = ap length g.bases ∙ length-append a.bases g.more in
    omega arith

-- ---- views

-- a lawful view of a base that is made, of its type and inside it
pub record Placed (scene : Scene) (t : Elem) (v : Strided) : Type 0 where
  pub lawful : is_view v ≡ true
  pub made : v.base < length scene.bases
  pub typed : t ≡ type_of scene v.base
  pub inside : is_below (length_of scene v.base) v ≡ true

-- and the base is live
pub record Stands (scene : Scene) (t : Elem) (v : Strided) : Type 0 where
  pub placed : Placed scene t v
  pub live : is_live scene v.base ≡ true

pub placed_on : (a b : Scene) (t : Elem) (v : Strided) → Grows a b → Placed a t v → Placed b t v
placed_on a b t v g h =
    let same = base_kept a b g v.base h.made in
    record {
      lawful = h.lawful;
      made = longer a b g v.base h.made;
      typed = h.typed ∙ ap (λ p. p.1) (sym same);
      inside = ap (λ (p : ℕ × Elem). is_below p.0 v) same ∙ h.inside;
    }

pub live_on : (a b : Scene) (k : ℕ) → Grows a b → is_live a k ≡ true → is_live b k ≡ true
live_on a b k g e =
    let both = and_parts (nat_lt k (length a.bases)) _ e in
    and_from (nat_lt k (length b.bases)) _ (lt-ltb k (length b.bases) (longer a b g k (ltb-true k (length a.bases) both.0)))
    (ap₂ (λ (f : ℕ) (names : List (ℕ × ℕ)). nat_le f k || list_any (λ (name : ℕ × ℕ). name.1 == k) names) g.first g.names ∙ both.1)

pub stands_on : (a b : Scene) (t : Elem) (v : Strided) → Grows a b → Stands a t v → Stands b t v
stands_on a b t v g h = record { placed = placed_on a b t v g h.placed; live = live_on a b v.base g h.live }

pub stands_test : (scene : Scene) (t : Elem) (v : Strided) → Stands scene t v → stands scene t v ≡ true
stands_test scene t v h = and_from (is_live scene v.base) _ h.live (and_from (same_elem t (type_of scene v.base)) _ (elem_test t (type_of scene v.base) h.placed.typed) h.placed.inside)

pub stands_derived : (scene : Scene) (t : Elem) (v w : Strided) → Stands scene t v → Derived v w → Stands scene t w
stands_derived scene t v w h d =
    let p = h.placed in
    record {
      placed = record {
        lawful = d.lawful;
        made = subst (λ b. b < length scene.bases) (sym d.base) p.made;
        typed = p.typed ∙ ap (type_of scene) (sym d.base);
        inside = ap (λ b. is_below (length_of scene b) w) d.base ∙ d.inside (length_of scene v.base) p.inside;
      };
      live = ap (is_live scene) d.base ∙ h.live;
    }

-- another view of the whole base
pub stands_lying : (scene : Scene) (t : Elem) (v w : Strided) → Stands scene t v → Lies v.base (length_of scene v.base) w → Stands scene t w
stands_lying scene t v w h l =
    record {
      placed = record {
        lawful = l.lawful;
        made = subst (λ b. b < length scene.bases) (sym l.base) h.placed.made;
        typed = h.placed.typed ∙ ap (type_of scene) (sym l.base);
        inside = ap (λ b. is_below (length_of scene b) w) l.base ∙ l.inside;
      };
      live = ap (is_live scene) l.base ∙ h.live;
    }

-- ---- the base that is made next

abbrev pub with_base : Scene → ℕ → Elem → Scene
with_base scene n t = record scene { bases = scene.bases ++ (n, t) ∷ [] }

pub grows_base : (scene : Scene) (n : ℕ) (t : Elem) → Grows scene (with_base scene n t)
grows_base scene n t = record { more = (n, t) ∷ []; bases = refl; first = refl; names = refl }

pub next_base : (scene : Scene) (n : ℕ) (t : Elem) → get_or (with_base scene n t).bases (length scene.bases) (0, U8) ≡ (n, t)
next_base scene n t =
    ap (λ k. get_or (scene.bases ++ (n, t) ∷ []) k (0, U8)) (let e : length scene.bases ≡ length scene.bases + 0 = omega arith in e) ∙ get_or-append-add scene.bases ((n, t) ∷ []) 0 (0, U8)

pub next_live : (scene : Scene) (n : ℕ) (t : Elem) → scene.first ≤ length scene.bases → is_live (with_base scene n t) (length scene.bases) ≡ true
next_live scene n t h =
    let long : length (scene.bases ++ (n, t) ∷ []) ≡ length scene.bases + 1 = length-append scene.bases ((n, t) ∷ []) in
    and_from (nat_lt (length scene.bases) (length (scene.bases ++ (n, t) ∷ []))) _ (lt-ltb (length scene.bases) (length (scene.bases ++ (n, t) ∷ [])) (omega arith))
    (ap (λ b. b || list_any (λ (name : ℕ × ℕ). name.1 == length scene.bases) scene.names) (le-leb scene.first (length scene.bases) h))
