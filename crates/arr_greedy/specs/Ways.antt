-- Ways in a graph, node after node, each leading the next.
use Rattle.std.specs.Prelude.{ℕ, ◌≡◌, List, [], ◌∷◌, Bool, true, false, ◌||◌, ◌&&◌, not, cond, ◌==◌}

module _ {N : Type 0} (key : N → ℕ) (leading : N → N → Bool) where
  abbrev pub Leads : (N → Type 0) → N → N → Type 0
  Leads M x y = M x × M y × (key x ≡ key y → ⊥) × (leading x y ≡ true)

  abbrev pub Way : (N → Type 0) → N → List N → N → Type 0
  Way M x [] y = Leads M x y
  Way M x (z ∷ zs) y = Leads M x z × Way M z zs y

  abbrev pub Reaches : (N → Type 0) → N → N → Type 0
  Reaches M x y = (zs : List N) × Way M x zs y

  -- the test is what can be reached
  abbrev pub IsReach : (N → Type 0) → (N → N → Bool) → Type 0
  IsReach M R = (x y : N) → M x → M y → (R x y ≡ true → Reaches M x y) × (Reaches M x y → R x y ≡ true)

-- what can be reached once a and b are one node, of the key of a
abbrev pub reach_after : {N : Type 0} → (N → ℕ) → (N → N → Bool) → N → N → N → N → Bool
reach_after key R a b x y =
    cond (key x == key a)
    (cond (key y == key a) false (R a y || R b y))
    (cond (key y == key a) (R x a || R x b) (R x y || ((R x a || R x b) && (R a y || R b y))))

-- what each node can reach then that could reach a or b: the two as one, and what that reaches
abbrev pub gains : (ℕ → ℕ → Bool) → ℕ → ℕ → ℕ → Bool
gains R a b y = y == a || (R a y || R b y)

-- a third node on a way between a and b
abbrev pub lies_between : {N : Type 0} → (N → ℕ) → (N → N → Bool) → N → N → N → Bool
lies_between key R a b c = not (key c == key a || key c == key b) && ((R a c && R c b) || (R b c && R c a))
