-- From the steps of a recording to the laws of its parts.
use Rattle.std.proofs.Common.{◌≡◌, ℕ, ◌+◌, ◌<◌, ◌≤◌, suc, List, [], ◌∷◌, ◌++◌, Bool, true, false, cond, not, ◌||◌, ◌&&◌, inl, inr, refl, ap, ap₂, sym, subst, ◌∙◌, arith, length, length-append, append-nil, map, Option, Some, None}
use Rattle.std.proofs.lemmas.Bool.{false≢true, eqb-true, eq-eqb, ltb-true, ltb-false, le-ltb, le-leb, leb-true}
use Rattle.std.proofs.lemmas.List.Folds.{list_any-append}
use Rattle.std.specs.Prelude.{◌==◌, nat_lt, nat_le, is_some}
use Rattle.std.specs.List.{AllByRecursion, list_any, list_all, filter}
use Rattle.std.specs.Option.{option_to_list, option_and_then}
use Rattle.arr_num.specs.declared.elem.Elem.{Elem}
use Rattle.arr_num.specs.declared.code.Code.{Code}
use Rattle.arr_num.specs.declared.code.Code.TheVariants.{Sync}
use Rattle.arr_view.specs.Strided.{Strided}
use Rattle.arr_view.specs.Views.{has, positions}
use Rattle.arr_ops.specs.declared.op.Op.{Op}
use Rattle.arr_ops.specs.Ops.{outputs, inputs, makes_base}
use Rattle.arr_ops.specs.Memory.{Memory, Slot, empty, computed}
use Rattle.arr_ops.specs.Memory as memory
use Rattle.arr_ops.proofs.Pairs.{Pairs, All_weaker, Pairs_weaker, All_filter, Pairs_filter}
use Rattle.arr_ops.proofs.Tests.{or_cases, both_left, both_right, test_all}
use Rattle.arr_ops.proofs.Fits.{or_first, or_second}
use Rattle.arr_ops.proofs.FitsLaw.{all_append, all_map}
use Rattle.arr_elab.specs.declared.step.Step.{Step}
use Rattle.arr_ops.specs.declared.gather.Gather.{Gather}
use Rattle.arr_ops.specs.declared.gather.Scatter.{Scatter}
use Rattle.arr_ops.specs.Gathers.{is_gather, is_scatter}
use Rattle.arr_elab.specs.declared.step.Step.TheVariants as step
use Rattle.arr_elab.specs.declared.step.Step.TheVariants.{Act, Name, Forget, Done, Cut}
use Rattle.arr_elab.specs.Steps.{Progress, not_begun, run_step, run_steps, shown, slot_count, slot_from}
use Rattle.arr_elab.specs.Recording.{Scene, opening, is_live, stands, may_act, may_gather, may_scatter, made_by, other_names, after_step, after_steps, is_recording, allowed}
use Rattle.arr_ops.proofs.Spots.{all_two}
use Rattle.arr_record.specs.Parts.{State, nothing_yet, most, cut_list, cut, next_op, made, done, unnamed, free_each, after, after_all, ended, parts_of}
use Rattle.arr_record.specs.declared.part.Part.{Part}
use Rattle.arr_record.specs.declared.part.Part.TheVariants as part
use Rattle.arr_record.specs.Runs.{after_parts, printed_parts, each_fits, is_part}
use Rattle.arr_record.specs.Ledger.{lives}
use Rattle.arr_record.proofs.Loose.{Rising}
use Rattle.arr_record.proofs.Runs.{shown_more, shown_at, content}
use Rattle.arr_record.proofs.Home.{place_of, place_more, typed_parts, TypedAmong}
use Rattle.arr_record.proofs.Cells.{computed_alike, left_alike}
use Rattle.arr_record.proofs.Joined.{pairs_more}
use Rattle.arr_record.proofs.Kept.{Kept, LawfulPart, now_of, live_after, kept_more}
use Rattle.arr_record.proofs.Alone.{Holds, Takes, Puts, live_with, kept_gather, kept_scatter}
use Rattle.arr_record.proofs.Recorded.{Recorded, recorded, Standing, standing, made_place}
use Rattle.arr_record.proofs.Freed.{Going, settled, going_cut, going_frees, going_alike, live_without, lives_kept, rest_lives, all_live, Lives}

abbrev pub TypesOf : List (ℕ × Elem) → List (ℕ × Elem) → Type 0
TypesOf bases live = AllByRecursion (λ (base : ℕ × Elem). base.1 ≡ (place_of bases base.0).1) live

-- after some steps, beside what a recording keeps to
pub record Walked (scene : Scene) (past : Progress) (s : State) : Type 0 where
  pub going : Going scene.bases (lives s.live) past s.written
  pub names : s.names ≡ scene.names
  pub live : (b : ℕ) → is_live scene b ≡ true → lives s.live b ≡ true
  pub types : TypesOf scene.bases s.live
  pub rising : Rising s.live

-- ---- an operation

shown_alike : (code : Code) (i j : ℕ) (x y : Slot) → x ≡ y → shown_at (slot_from i code) x ≡ shown_at (slot_from j code) y
shown_alike Sync i j x y e = ap (λ s. s ∷ []) e
shown_alike _ i j x y e = refl

abbrev made_at : Elem → Option Strided → Bool → List (ℕ × Elem)
made_at t out makes = map (λ (o : Strided). (o.base, t)) (filter (λ _. makes) (option_to_list out))

made_lives : (t : Elem) (out : Option Strided) (makes : Bool) (b : ℕ) → (makes && list_any (λ (o : Strided). o.base == b) (option_to_list out)) ≡ lives (made_at t out makes) b
made_lives t None true b = refl
made_lives t None false b = refl
made_lives t (Some o) true b = refl
made_lives t (Some o) false b = refl

-- live before or made is live after
lives_more : (live : List (ℕ × Elem)) (op : Op) (b : ℕ) → op.frees ≡ None → live_after (lives live) op b ≡ lives (live ++ made op) b
lives_more live op b free =
    ap (λ f. (lives live b || makes_base op b) && not (has (option_to_list f) b)) free ∙ and_true (lives live b || makes_base op b)
    ∙ ap (λ t. lives live b || t) (made_lives op.to op.out op.makes b) ∙ sym (list_any-append (λ (base : ℕ × Elem). base.0 == b) live (made op))
  where
    and_true : (x : Bool) → (x && true) ≡ x
    and_true true = refl
    and_true false = refl

-- the next base is made
next_lives : (bases : List (ℕ × Elem)) (t : Elem) (out : Option Strided) (makes : Bool) (b : ℕ) → (makes ≡ true → AllByRecursion (λ (o : Strided). o.base ≡ length bases) (option_to_list out))
    → length bases ≤ b → b < length (bases ++ map (λ (o : Strided). (positions o.lengths, t)) (filter (λ _. makes) (option_to_list out))) → lives (made_at t out makes) b ≡ true
next_lives bases t None makes b h l m = absurd (let e : length (bases ++ []) ≡ length bases = ap length (append-nil bases) in omega arith)
next_lives bases t (Some o) false b h l m = absurd (let e : length (bases ++ []) ≡ length bases = ap length (append-nil bases) in omega arith)
next_lives bases t (Some o) true b h l m =
    let p : ℕ × Elem = (positions o.lengths, t) in
    let n : length (bases ++ p ∷ []) ≡ length bases + 1 = length-append bases (p ∷ []) in
    let next : o.base ≡ length bases = (h refl).0 in
    or_first (o.base == b) false (eq-eqb o.base b (omega arith))

rising_made : (bases : List (ℕ × Elem)) (live : List (ℕ × Elem)) (t : Elem) (out : Option Strided) (makes : Bool) → (makes ≡ true → AllByRecursion (λ (o : Strided). o.base ≡ length bases) (option_to_list out))
    → AllByRecursion (λ (base : ℕ × Elem). base.0 < length bases) live → Rising live → Rising (live ++ made_at t out makes)
rising_made bases live t None makes h l r = subst Rising (sym (append-nil live)) r
rising_made bases live t (Some o) false h l r = subst Rising (sym (append-nil live)) r
rising_made bases live t (Some o) true h l r =
    let next : o.base ≡ length bases = (h refl).0 in
    pairs_more (λ (x y : ℕ × Elem). x.0 < y.0) live (o.base, t) r
    (All_weaker (λ (base : ℕ × Elem). base.0 < length bases) (λ (base : ℕ × Elem). base.0 < o.base) (λ base k. omega arith) live l)

abbrev scene_after : Scene → Op → Scene
scene_after scene op = record scene { bases = scene.bases ++ made_by op }

module _ (scene : Scene) (past : Progress) (s : State) (op : Op) (w : Walked scene past s) (may : may_act scene op ≡ true) where
  r : Recorded scene (lives s.live) op (next_op s.written.waiting op)
  r = recorded scene (lives s.live) op (suc (slot_count s.written.waiting)) w.live may

  k : Kept scene.bases (lives s.live) past s.written.parts s.written.waiting
  k = w.going.kept

  same_numbers : computed (now_of s.written.parts s.written.waiting) op ≡ computed past.memory op
  same_numbers =
      computed_alike (now_of s.written.parts s.written.waiting) past.memory op
      (All_weaker (λ (v : Strided). lives s.live v.base ≡ true) (λ (v : Strided). (now_of s.written.parts s.written.waiting).bases v.base ≡ past.memory.bases v.base) (λ v t. k.same v.base t) (inputs op) r.allowed.reads)

  same_bases : (b : ℕ) → live_after (lives s.live) (next_op s.written.waiting op) b ≡ true
      → (memory.step (now_of s.written.parts s.written.waiting) (next_op s.written.waiting op)).bases b ≡ (run_step past (Act op)).memory.bases b
  same_bases b h =
      left_alike op (computed (now_of s.written.parts s.written.waiting) op) (computed past.memory op) b ((now_of s.written.parts s.written.waiting).bases b) (past.memory.bases b) same_numbers
      (or_cases (lives s.live b) (makes_base op b) (both_left (lives s.live b || makes_base op b) _ h) (λ t. inr (k.same b t)) (λ t. inl t))
      (ap (λ f. has (option_to_list f) b) r.no_free)

  same_prints : shown past ++ shown_at (next_op s.written.waiting op).slot (content (now_of s.written.parts s.written.waiting) (next_op s.written.waiting op)) ≡ shown (run_step past (Act op))
  same_prints =
      ap (λ ss. shown past ++ ss)
      (shown_alike op.code (suc (slot_count s.written.waiting)) (suc past.filled) (content (now_of s.written.parts s.written.waiting) op) (content past.memory op)
      (ap (λ xs. record (content (now_of s.written.parts s.written.waiting) op) { numbers = xs }) same_numbers))
      ∙ sym (shown_more past op)

  kept_after : Kept (scene.bases ++ made_by op) (lives (s.live ++ made op)) (run_step past (Act op)) s.written.parts (s.written.waiting ++ next_op s.written.waiting op ∷ [])
  kept_after =
      let live_is : live_after (lives s.live) (next_op s.written.waiting op) ≡ lives (s.live ++ made op) = (λ i b. lives_more s.live op b r.no_free i) in
      subst (λ live. Kept (scene.bases ++ made_by op) live (run_step past (Act op)) s.written.parts (s.written.waiting ++ next_op s.written.waiting op ∷ [])) live_is
      (kept_more scene.bases (lives s.live) past s.written.parts s.written.waiting (next_op s.written.waiting op) k r.allowed r.home (run_step past (Act op)) refl w.going.short same_bases same_prints)

  below : AllByRecursion (λ (base : ℕ × Elem). base.0 < length scene.bases) s.live
  below = All_weaker (λ (base : ℕ × Elem). lives s.live base.0 ≡ true) (λ (base : ℕ × Elem). base.0 < length scene.bases) (λ base t. k.below base.0 t) s.live (all_live s.live)

  types_after : TypesOf (scene.bases ++ made_by op) (s.live ++ made op)
  types_after =
      all_append (λ (base : ℕ × Elem). base.1 ≡ (place_of (scene.bases ++ made_by op) base.0).1) s.live (made op)
      (all_two (λ (base : ℕ × Elem). base.0 < length scene.bases) (λ (base : ℕ × Elem). base.1 ≡ (place_of scene.bases base.0).1) (λ (base : ℕ × Elem). base.1 ≡ (place_of (scene.bases ++ made_by op) base.0).1)
      (λ base l t. t ∙ ap (λ (q : ℕ × Elem). q.1) (sym (place_more scene.bases (made_by op) base.0 l))) s.live below w.types)
      (all_map (λ (base : ℕ × Elem). base.1 ≡ (place_of (scene.bases ++ made_by op) base.0).1) (λ (o : Strided). (o.base, op.to)) (filter (λ _. op.makes) (outputs op))
      (All_filter (λ (o : Strided). op.to ≡ (place_of (scene.bases ++ made_by op) o.base).1) (λ _. op.makes) (outputs op)
      (All_weaker (λ (o : Strided). TypedAmong (scene.bases ++ made_by op) (o.base, op.to)) (λ (o : Strided). op.makes ≡ true → op.to ≡ (place_of (scene.bases ++ made_by op) o.base).1) (λ o t _. t.1) (outputs op)
      (typed_parts (TypedAmong (scene.bases ++ made_by op)) (next_op s.written.waiting op) r.home.typed_there).0)))

  live_then : (b : ℕ) → is_live (scene_after scene op) b ≡ true → lives (s.live ++ made op) b ≡ true
  live_then b h =
      let l : b < length (scene.bases ++ made_by op) = ltb-true b (length (scene.bases ++ made_by op)) (both_left (nat_lt b (length (scene.bases ++ made_by op))) _ h) in
      list_any-append (λ (base : ℕ × Elem). base.0 == b) s.live (made op)
      ∙ elim (nat_lt b (length scene.bases)) as (λ t. nat_lt b (length scene.bases) ≡ t → (lives s.live b || lives (made op) b) ≡ true) [
        | true ↦ λ e. or_first (lives s.live b) _ (w.live b (ap₂ (λ x y. x && y) e (both_right (nat_lt b (length (scene.bases ++ made_by op))) _ h)))
        | false ↦ λ e. or_second (lives s.live b) _ (next_lives scene.bases op.to op.out op.makes b r.allowed.makes (ltb-false b (length scene.bases) e) l)
      ] refl

  pub walked_act : Walked (scene_after scene op) (run_step past (Act op)) (after s (Act op))
  walked_act =
      record {
        going = settled (scene.bases ++ made_by op) (lives (s.live ++ made op)) (run_step past (Act op))
            (record { parts = s.written.parts; waiting = s.written.waiting ++ next_op s.written.waiting op ∷ [] }) kept_after;
        names = w.names;
        live = live_then;
        types = types_after;
        rising = rising_made scene.bases s.live op.to op.out op.makes r.allowed.makes below w.rising;
      }

-- ---- names

any_filter : {X : Type 0} (p q : X → Bool) (xs : List X) → list_any p (filter q xs) ≡ true → list_any p xs ≡ true
any_filter p q [] h = h
any_filter p q (x ∷ xs) h =
    elim (q x) as (λ t. list_any p (cond t (x ∷ filter q xs) (filter q xs)) ≡ true → (p x || list_any p xs) ≡ true) [
      | true ↦ λ k. or_cases (p x) (list_any p (filter q xs)) k (or_first (p x) (list_any p xs)) (λ t. or_second (p x) _ (any_filter p q xs t))
      | false ↦ λ k. or_second (p x) _ (any_filter p q xs k)
    ] h

abbrev stands_for : List (ℕ × ℕ) → ℕ → Bool
stands_for names b = list_any (λ (name : ℕ × ℕ). name.1 == b) names

-- what is live under other names was live before
live_before : (scene : Scene) (names : List (ℕ × ℕ)) (b : ℕ) → (stands_for names b ≡ true → is_live scene b ≡ true) → is_live (record scene { names = names }) b ≡ true → is_live scene b ≡ true
live_before scene names b f h =
    let l : nat_lt b (length scene.bases) ≡ true = both_left (nat_lt b (length scene.bases)) _ h in
    or_cases (nat_le scene.first b) (stands_for names b) (both_right (nat_lt b (length scene.bases)) _ h)
    (λ t. ap₂ (λ x y. x && y) l (or_first (nat_le scene.first b) (stands_for scene.names b) t)) f

other_before : (scene : Scene) (n b : ℕ) → nat_lt b (length scene.bases) ≡ true → stands_for (other_names n scene.names) b ≡ true → is_live scene b ≡ true
other_before scene n b l t =
    ap₂ (λ x y. x && y) l (or_second (nat_le scene.first b) _ (any_filter (λ (name : ℕ × ℕ). name.1 == b) (λ (name : ℕ × ℕ). not (name.0 == n)) scene.names t))

renamed : (scene : Scene) (past : Progress) (s : State) (names : List (ℕ × ℕ)) → Walked scene past s → ((b : ℕ) → is_live (record scene { names = names }) b ≡ true → is_live scene b ≡ true)
    → Walked (record scene { names = names }) past (record s { names = names })
renamed scene past s names w f =
    record {
      going = w.going;
      names = refl;
      live = λ b h. w.live b (f b h);
      types = w.types;
      rising = w.rising;
    }

walked_name : (scene : Scene) (past : Progress) (s : State) (n b : ℕ) → Walked scene past s → is_live scene b ≡ true
    → Walked (record scene { names = (n, b) ∷ other_names n scene.names }) past (after s (Name n b))
walked_name scene past s n b w alive =
    subst (λ names. Walked (record scene { names = (n, b) ∷ other_names n scene.names }) past (record s { names = (n, b) ∷ other_names n names })) (sym w.names)
    (renamed scene past s ((n, b) ∷ other_names n scene.names) w
    (λ c h. live_before scene ((n, b) ∷ other_names n scene.names) c
    (λ t. or_cases (b == c) (stands_for (other_names n scene.names) c) t (λ e. ap (is_live scene) (sym (eqb-true b c e)) ∙ alive)
    (other_before scene n c (both_left (nat_lt c (length scene.bases)) _ h))) h))

walked_forget : (scene : Scene) (past : Progress) (s : State) (n : ℕ) → Walked scene past s → Walked (record scene { names = other_names n scene.names }) past (after s (Forget n))
walked_forget scene past s n w =
    subst (λ names. Walked (record scene { names = other_names n scene.names }) past (record s { names = other_names n names })) (sym w.names)
    (renamed scene past s (other_names n scene.names) w
    (λ c h. live_before scene (other_names n scene.names) c (other_before scene n c (both_left (nat_lt c (length scene.bases)) _ h)) h))

-- ---- the end of a statement

going_done : (bases : List (ℕ × Elem)) (past : Progress) (s : State) → Going bases (lives s.live) past s.written → TypesOf bases s.live → Rising s.live
    → Going bases (lives (done s).live) past (done s).written
going_done bases past s g types rising =
    let test : ℕ → Bool = stands_for s.names in
    let pairs : Pairs (λ (x y : ℕ × Elem). x.0 < y.0) (unnamed s.names s.live) =
    Pairs_filter (λ (x y : ℕ × Elem). x.0 < y.0) (λ (base : ℕ × Elem). not (test base.0)) s.live
    (Pairs_weaker (λ (x y : ℕ × Elem). x.0 < y.0) (λ (x y : ℕ × Elem). not (test x.0) ≡ true → not (test y.0) ≡ true → x.0 < y.0) (λ x y l _ _. l) s.live rising) in
    let alive : AllByRecursion (Lives bases (lives s.live)) (unnamed s.names s.live) =
    All_filter (Lives bases (lives s.live)) (λ (base : ℕ × Elem). not (test base.0)) s.live
    (all_two (λ (base : ℕ × Elem). lives s.live base.0 ≡ true) (λ (base : ℕ × Elem). base.1 ≡ (place_of bases base.0).1) (λ (base : ℕ × Elem). not (test base.0) ≡ true → Lives bases (lives s.live) base)
    (λ base l t _. (l, t)) s.live (all_live s.live) types) in
    going_alike bases (live_without (lives s.live) (unnamed s.names s.live)) (lives (done s).live) past (free_each s.written (unnamed s.names s.live)) (rest_lives test s.live)
    (going_frees bases (unnamed s.names s.live) (lives s.live) past s.written pairs alive g)

walked_done : (scene : Scene) (past : Progress) (s : State) → Walked scene past s → Walked (record scene { first = length scene.bases }) past (after s Done)
walked_done scene past s w =
    let test : ℕ → Bool = stands_for s.names in
    record {
      going = going_done scene.bases past s w.going w.types w.rising;
      names = w.names;
      live = λ b h.
          let l : nat_lt b (length scene.bases) ≡ true = both_left (nat_lt b (length scene.bases)) _ h in
          let named : stands_for scene.names b ≡ true = (or_cases (nat_le (length scene.bases) b) (stands_for scene.names b) (both_right (nat_lt b (length scene.bases)) _ h)
          (λ t. absurd (let x : length scene.bases ≤ b = leb-true (length scene.bases) b t in let y : b < length scene.bases = ltb-true b (length scene.bases) l in omega arith)) (λ t. t)) in
          lives_kept test s.live b
          ∙ ap₂ (λ x y. x && y) (w.live b (ap₂ (λ x y. x && y) l (or_second (nat_le scene.first b) _ named))) (ap (λ names. stands_for names b) w.names ∙ named);
      types = All_filter (λ (base : ℕ × Elem). base.1 ≡ (place_of scene.bases base.0).1) (λ (base : ℕ × Elem). test base.0) s.live
          (All_weaker (λ (base : ℕ × Elem). base.1 ≡ (place_of scene.bases base.0).1) (λ (base : ℕ × Elem). test base.0 ≡ true → base.1 ≡ (place_of scene.bases base.0).1) (λ base t _. t) s.live w.types);
      rising = Pairs_filter (λ (x y : ℕ × Elem). x.0 < y.0) (λ (base : ℕ × Elem). test base.0) s.live
          (Pairs_weaker (λ (x y : ℕ × Elem). x.0 < y.0) (λ (x y : ℕ × Elem). test x.0 ≡ true → test y.0 ≡ true → x.0 < y.0) (λ x y l _ _. l) s.live w.rising);
    }

walked_cut : (scene : Scene) (past : Progress) (s : State) → Walked scene past s → Walked scene past (after s Cut)
walked_cut scene past s w = record { going = going_cut scene.bases (lives s.live) past s.written w.going.kept; names = w.names; live = w.live; types = w.types; rising = w.rising }

-- ---- gathers and scatters

holds : (scene : Scene) (live : ℕ → Bool) (t : Elem) (v : Strided) → ((b : ℕ) → is_live scene b ≡ true → live b ≡ true) → stands scene t v ≡ true → Holds scene.bases live t v
holds scene live t v alive h = let s : Standing scene t v = standing scene t v h in record { alive = alive v.base s.alive; type_is = s.type_is; inside = s.inside }

walked_gather : (scene : Scene) (past : Progress) (s : State) (g : Gather) → Walked scene past s → may_gather scene g ≡ true
    → Walked (record scene { bases = scene.bases ++ (positions g.out.lengths, g.to) ∷ [] }) (run_step past (step.Gather g)) (after s (step.Gather g))
walked_gather scene past s g w may =
    let more : List (ℕ × Elem) = (positions g.out.lengths, g.to) ∷ [] in
    let base : List (ℕ × Elem) = (g.out.base, g.to) ∷ [] in
    let now : List (ℕ × Elem) = s.live ++ (g.out.base, g.to) ∷ [] in
    let cut_now : Going scene.bases (lives s.live) past (cut s.written) = going_cut scene.bases (lives s.live) past s.written w.going.kept in
    let a = both_right (is_gather g) _ may in
    let b = both_right (stands scene g.to g.source) _ a in
    let next : g.out.base ≡ length scene.bases = eqb-true g.out.base (length scene.bases) (both_right (stands scene g.of g.index) _ b) in
    let takes : Takes scene.bases (lives s.live) g = record {
      lawful = both_left (is_gather g) _ may;
      source = holds scene (lives s.live) g.to g.source w.live (both_left (stands scene g.to g.source) _ a);
      index = holds scene (lives s.live) g.of g.index w.live (both_left (stands scene g.of g.index) _ b);
      next = next;
    } in
    let live_is : live_with (lives s.live) g.out.base ≡ lives now = (λ i b. sym (list_any-append (λ (base : ℕ × Elem). base.0 == b) s.live base) i) in
    let below : AllByRecursion (λ (base : ℕ × Elem). base.0 < length scene.bases) s.live =
    All_weaker (λ (base : ℕ × Elem). lives s.live base.0 ≡ true) (λ (base : ℕ × Elem). base.0 < length scene.bases) (λ base t. w.going.kept.below base.0 t) s.live (all_live s.live) in
    record {
      going = record {
        kept = subst (λ live. Kept (scene.bases ++ (positions g.out.lengths, g.to) ∷ []) live (run_step past (step.Gather g)) (cut_list s.written.parts s.written.waiting ++ part.Gather g ∷ []) []) live_is
            (kept_gather scene.bases (lives s.live) past (cut_list s.written.parts s.written.waiting) g cut_now.kept takes);
        short = omega arith;
      };
      names = w.names;
      live = λ b h.
          let l : b < length (scene.bases ++ (positions g.out.lengths, g.to) ∷ []) = ltb-true b (length (scene.bases ++ (positions g.out.lengths, g.to) ∷ [])) (both_left (nat_lt b (length (scene.bases ++ (positions g.out.lengths, g.to) ∷ []))) _ h) in
          let n : length (scene.bases ++ (positions g.out.lengths, g.to) ∷ []) ≡ length scene.bases + 1 = length-append scene.bases ((positions g.out.lengths, g.to) ∷ []) in
          list_any-append (λ (base : ℕ × Elem). base.0 == b) s.live ((g.out.base, g.to) ∷ [])
          ∙ elim (nat_lt b (length scene.bases)) as (λ t. nat_lt b (length scene.bases) ≡ t → (lives s.live b || ((g.out.base == b) || false)) ≡ true) [
            | true ↦ λ e. or_first (lives s.live b) _ (w.live b (ap₂ (λ x y. x && y) e (both_right (nat_lt b (length (scene.bases ++ (positions g.out.lengths, g.to) ∷ []))) _ h)))
            | false ↦ λ e. or_second (lives s.live b) _ (or_first (g.out.base == b) false (eq-eqb g.out.base b (let f : length scene.bases ≤ b = ltb-false b (length scene.bases) e in omega arith)))
          ] refl;
      types = all_append (λ (base : ℕ × Elem). base.1 ≡ (place_of (scene.bases ++ (positions g.out.lengths, g.to) ∷ []) base.0).1) s.live ((g.out.base, g.to) ∷ [])
          (all_two (λ (base : ℕ × Elem). base.0 < length scene.bases) (λ (base : ℕ × Elem). base.1 ≡ (place_of scene.bases base.0).1) (λ (base : ℕ × Elem). base.1 ≡ (place_of (scene.bases ++ (positions g.out.lengths, g.to) ∷ []) base.0).1)
          (λ base l t. t ∙ ap (λ (q : ℕ × Elem). q.1) (sym (place_more scene.bases ((positions g.out.lengths, g.to) ∷ []) base.0 l))) s.live below w.types)
          (ap (λ (q : ℕ × Elem). q.1) (sym (made_place scene.bases (positions g.out.lengths, g.to) g.out.base next)), tt);
      rising = pairs_more (λ (x y : ℕ × Elem). x.0 < y.0) s.live (g.out.base, g.to) w.rising
          (All_weaker (λ (base : ℕ × Elem). base.0 < length scene.bases) (λ (base : ℕ × Elem). base.0 < g.out.base) (λ base k. omega arith) s.live below);
    }

walked_scatter : (scene : Scene) (past : Progress) (s : State) (g : Scatter) → Walked scene past s → may_scatter scene g ≡ true → Walked scene (run_step past (step.Scatter g)) (after s (step.Scatter g))
walked_scatter scene past s g w may =
    let cut_now : Going scene.bases (lives s.live) past (cut s.written) = going_cut scene.bases (lives s.live) past s.written w.going.kept in
    let a = both_right (is_scatter g) _ may in
    let b = both_right (stands scene g.to g.target) _ a in
    let puts : Puts scene.bases (lives s.live) g = record {
      lawful = both_left (is_scatter g) _ may;
      target = holds scene (lives s.live) g.to g.target w.live (both_left (stands scene g.to g.target) _ a);
      index = holds scene (lives s.live) g.of g.index w.live (both_left (stands scene g.of g.index) _ b);
      values = holds scene (lives s.live) g.to g.values w.live (both_right (stands scene g.of g.index) _ b);
    } in
    record {
      going = record { kept = kept_scatter scene.bases (lives s.live) past (cut_list s.written.parts s.written.waiting) g cut_now.kept puts; short = omega arith };
      names = w.names;
      live = w.live;
      types = w.types;
      rising = w.rising;
    }

-- ---- each step

pub walked_step : (s : Step) (scene next : Scene) (past : Progress) (state : State) → Walked scene past state → after_step scene s ≡ Some next → Walked next (run_step past s) (after state s)
walked_step (Act op) scene next past s w e =
    elim (may_act scene op) as (λ t. may_act scene op ≡ t → allowed t (scene_after scene op) ≡ Some next → Walked next (run_step past (Act op)) (after s (Act op))) [
      | true ↦ λ m f. let same : scene_after scene op ≡ next = cc in subst (λ n. Walked n (run_step past (Act op)) (after s (Act op))) same (walked_act scene past s op w m)
      | false ↦ λ m f. absurd (cc)
    ] refl e
walked_step (step.Gather g) scene next past s w e =
    elim (may_gather scene g) as (λ t. may_gather scene g ≡ t → allowed t (record scene { bases = scene.bases ++ (positions g.out.lengths, g.to) ∷ [] }) ≡ Some next
    → Walked next (run_step past (step.Gather g)) (after s (step.Gather g))) [
      | true ↦ λ m f.
          let same : record scene { bases = scene.bases ++ (positions g.out.lengths, g.to) ∷ [] } ≡ next = cc in
          subst (λ n. Walked n (run_step past (step.Gather g)) (after s (step.Gather g))) same (walked_gather scene past s g w m)
      | false ↦ λ m f. absurd (cc)
    ] refl e
walked_step (step.Scatter g) scene next past s w e =
    elim (may_scatter scene g) as (λ t. may_scatter scene g ≡ t → allowed t scene ≡ Some next → Walked next (run_step past (step.Scatter g)) (after s (step.Scatter g))) [
      | true ↦ λ m f. let same : scene ≡ next = cc in subst (λ n. Walked n (run_step past (step.Scatter g)) (after s (step.Scatter g))) same (walked_scatter scene past s g w m)
      | false ↦ λ m f. absurd (cc)
    ] refl e
walked_step (Name n b) scene next past s w e =
    elim (is_live scene b) as (λ t. is_live scene b ≡ t → allowed t (record scene { names = (n, b) ∷ other_names n scene.names }) ≡ Some next → Walked next past (after s (Name n b))) [
      | true ↦ λ m f.
          let same : record scene { names = (n, b) ∷ other_names n scene.names } ≡ next = cc in
          subst (λ t. Walked t past (after s (Name n b))) same (walked_name scene past s n b w m)
      | false ↦ λ m f. absurd (cc)
    ] refl e
walked_step (Forget n) scene next past s w e =
    let same : record scene { names = other_names n scene.names } ≡ next = cc in subst (λ t. Walked t past (after s (Forget n))) same (walked_forget scene past s n w)
walked_step Done scene next past s w e = let same : record scene { first = length scene.bases } ≡ next = cc in subst (λ t. Walked t past (after s Done)) same (walked_done scene past s w)
walked_step Cut scene next past s w e = let same : scene ≡ next = cc in subst (λ t. Walked t past (after s Cut)) same (walked_cut scene past s w)

-- ---- the whole

-- the laws of parts beside eager execution
pub record Recording (past : Progress) (parts : List Part) : Type 0 where
  pub lawful : AllByRecursion LawfulPart parts
  pub fitting : each_fits empty parts ≡ true
  pub prints : printed_parts empty parts ≡ shown past
  pub emptied : (b : ℕ) → (after_parts empty parts).bases b ≡ None

finished : (scene : Scene) (past : Progress) (s : State) → Walked scene past s → Recording past (ended s).parts
finished scene past s w =
    let last : State = done (record s { names = [] }) in
    let g : Going scene.bases (lives last.live) past last.written = going_done scene.bases past (record s { names = [] }) w.going w.types w.rising in
    let k : Kept scene.bases (lives last.live) past (cut last.written).parts [] = (going_cut scene.bases (lives last.live) past last.written g.kept).kept in
    record {
      lawful = k.lawful;
      fitting = k.fitting;
      prints = sym (append-nil (printed_parts empty (cut last.written).parts)) ∙ k.prints;
      emptied = λ b. k.absent b (lives_kept (stands_for []) s.live b ∙ and_false (lives s.live b));
    }
  where
    and_false : (x : Bool) → (x && false) ≡ false
    and_false true = refl
    and_false false = refl

walk : (steps : List Step) (scene : Scene) (past : Progress) (s : State) → is_some (after_steps scene steps) ≡ true → Walked scene past s
    → Recording (run_steps past steps) (ended (after_all s steps)).parts
walk [] scene past s h w = finished scene past s w
walk (x ∷ steps) scene past s h w =
    elim (after_step scene x) as (λ o. after_step scene x ≡ o → is_some (option_and_then (λ next. after_steps next steps) o) ≡ true
    → Recording (run_steps (run_step past x) steps) (ended (after_all (after s x) steps)).parts) [
      | None ↦ λ e h. absurd (false≢true h)
      | Some next ↦ λ e h. walk steps next (run_step past x) (after s x) h (walked_step x scene next past s w e)
    ] refl h

pub begun : Walked opening not_begun nothing_yet
begun =
    record {
      going = record {
        kept = record {
          lawful = tt;
          fitting = refl;
          few = omega arith;
          home = tt;
          slots = refl;
          order = tt;
          fits_start = tt;
          gone = tt;
          below = λ b e. absurd (false≢true e);
          unmade = λ b l. refl;
          bare = λ s. refl;
          source = λ b e. absurd (false≢true e);
          stored = λ b e. absurd (false≢true e);
          absent = λ b e. refl;
          same = λ b e. absurd (false≢true e);
          prints = refl;
        };
        short = omega arith;
      };
      names = refl;
      live = λ b h. absurd (false≢true (ap (λ t. t && (nat_le 0 b || false)) (sym (never b)) ∙ h));
      types = tt;
      rising = tt;
    }
  where
    never : (b : ℕ) → nat_lt b 0 ≡ false
    never b = le-ltb b 0 (omega arith)

pub recording : (steps : List Step) → is_recording steps ≡ true → Recording (run_steps not_begun steps) (parts_of steps)
recording steps h = walk steps opening not_begun nothing_yet h begun

-- as a test
pub all_parts : (steps : List Step) → is_recording steps ≡ true → list_all is_part (parts_of steps) ≡ true
all_parts steps h = test_all is_part (parts_of steps) (All_weaker LawfulPart (λ p. is_part p ≡ true) one (parts_of steps) (recording steps h).lawful)
  where
    one : (p : Part) → LawfulPart p → is_part p ≡ true
    one (part.Flush list) l = ap₂ (λ x y. x && y) l.formed (ap₂ (λ x y. x && y) (le-leb 1 (length list) l.some) (le-leb (length list) most l.few))
    one (part.Gather g) l = l
    one (part.Scatter g) l = l
