-- A gather or scatter behind the parts, where nothing waits.
use Rattle.std.proofs.Common.{◌≡◌, ℕ, ◌+◌, ◌<◌, ◌≤◌, ℤ, List, [], ◌∷◌, ◌++◌, Bool, true, false, cond, ◌||◌, ◌&&◌, ◌⊎◌, inl, inr, ⊎_elim, refl, ap, ap₂, sym, subst, ◌∙◌, arith, length, length-append, append-nil, Option, Some, None}
use Rattle.std.proofs.lemmas.Bool.{false≢true, eqb-true}
use Rattle.std.proofs.lemmas.List.{length-map}
use Rattle.std.specs.Prelude.{◌==◌, is_none}
use Rattle.std.specs.List.{list_all}
use Rattle.arr_num.specs.declared.elem.Elem.{Elem}
use Rattle.arr_view.specs.Strided.{Strided}
use Rattle.arr_view.specs.Views.{elements, positions, is_view, same_lists}
use Rattle.arr_ops.specs.declared.gather.Gather.{Gather}
use Rattle.arr_ops.specs.declared.gather.Scatter.{Scatter}
use Rattle.arr_ops.specs.Memory.{Memory, Cell, Becomes, Keeps, changed, output_change, read, empty}
use Rattle.arr_ops.specs.Fits.{meets_need}
use Rattle.arr_ops.specs.Gathers.{numbers_in, picked, placed, gathered, scattered, is_gather, is_scatter, need, gather_fits, scatter_fits}
use Rattle.arr_ops.proofs.Typed.{AllIn, CellFits, read_in}
use Rattle.arr_ops.proofs.Tests.{both_left, both_right, all_of, or_cases, same_from_test}
use Rattle.arr_ops.proofs.FitsLaw.{all_append}
use Rattle.arr_ops.proofs.Lengths.{length-elements}
use Rattle.arr_ops.proofs.Spots.{strides_of}
use Rattle.arr_ops.proofs.Gathers.{length-picked, picked_in, placed_in}
use Rattle.arr_elab.specs.declared.step.Step.TheVariants as step
use Rattle.arr_elab.specs.Steps.{Progress, run_step, shown}
use Rattle.arr_record.specs.declared.part.Part.{Part}
use Rattle.arr_record.specs.declared.part.Part.TheVariants as part
use Rattle.arr_record.specs.Runs.{after_part, printed_part, printed_parts, part_fits}
use Rattle.arr_record.proofs.Runs.{after_parts_more, printed_parts_more, each_fits_more}
use Rattle.arr_record.proofs.Home.{place_of, place_more, InsideAmong}
use Rattle.arr_record.proofs.Cells.{Stored, meets_stored, stored_output, absent_output}
use Rattle.arr_record.proofs.Recorded.{made_place}
use Rattle.arr_record.proofs.Kept.{Kept, LawfulPart, start_of, or_not, not_live}

-- a view of a live base, of its type and inside it
pub record Holds (bases : List (ℕ × Elem)) (live : ℕ → Bool) (t : Elem) (v : Strided) : Type 0 where
  pub alive : live v.base ≡ true
  pub type_is : t ≡ (place_of bases v.base).1
  pub inside : InsideAmong bases v

cell_fits : (p : ℕ × Elem) (c : Option Cell) → Stored p c → CellFits p.1 c
cell_fits p None h = absurd h
cell_fits p (Some c) h = (h.0, h.1)

length-read : (c : Option Cell) (ps : List ℕ) → length (read c ps) ≡ length ps
length-read None ps = length-map ps _
length-read (Some c) ps = length-map ps _

length-numbers : (m : Memory) (v : Strided) → is_view v ≡ true → length (numbers_in m v) ≡ positions v.lengths
length-numbers m v h = length-read (m.bases v.base) (elements v) ∙ length-elements v (strides_of v h)

module _ (bases : List (ℕ × Elem)) (live : ℕ → Bool) (past : Progress) (parts : List Part) (k : Kept bases live past parts []) where
  numbers_typed : (t : Elem) (v : Strided) → Holds bases live t v → AllIn t (numbers_in (start_of parts) v)
  numbers_typed t v h =
      subst (λ u. AllIn u (numbers_in (start_of parts) v)) (sym h.type_is)
      (read_in (place_of bases v.base).1 ((start_of parts).bases v.base) (elements v) (cell_fits (place_of bases v.base) ((start_of parts).bases v.base) (k.stored v.base h.alive)))

  same_numbers : (t : Elem) (v : Strided) → Holds bases live t v → numbers_in (start_of parts) v ≡ numbers_in past.memory v
  same_numbers t v h = ap (λ c. read c (elements v)) (k.same v.base h.alive)

  met : (t : Elem) (v : Strided) → Holds bases live t v → meets_need ((start_of parts).bases v.base) (need t v) ≡ true
  met t v h = meets_stored (place_of bases v.base) ((start_of parts).bases v.base) (need t v) (k.stored v.base h.alive) h.type_is h.inside

  -- a part that prints nothing, from what it leaves in each base
  alone : (new : Part) (more : List (ℕ × Elem)) (now : ℕ → Bool) (later : Progress) → LawfulPart new → part_fits (start_of parts) new ≡ true
      → printed_part (start_of parts) new ≡ [] → shown past ≡ shown later → ((s : ℕ) → (after_part (start_of parts) new).slots s ≡ None)
      → ((b : ℕ) → now b ≡ true → b < length (bases ++ more))
      → ((b : ℕ) → now b ≡ true → Stored (place_of (bases ++ more) b) ((after_part (start_of parts) new).bases b))
      → ((b : ℕ) → now b ≡ false → (after_part (start_of parts) new).bases b ≡ None)
      → ((b : ℕ) → now b ≡ true → (after_part (start_of parts) new).bases b ≡ later.memory.bases b)
      → Kept (bases ++ more) now later (parts ++ new ∷ []) []
  alone new more now later lawful fits quiet shows bare below stored absent same =
      let start : start_of (parts ++ new ∷ []) ≡ after_part (start_of parts) new = after_parts_more empty parts new in
      let are : (b : ℕ) → (start_of (parts ++ new ∷ [])).bases b ≡ (after_part (start_of parts) new).bases b = λ b. ap (λ (m : Memory). m.bases b) start in
      record {
        lawful = all_append LawfulPart parts (new ∷ []) k.lawful (lawful, tt);
        fitting = each_fits_more empty parts new k.fitting fits;
        few = omega arith;
        home = tt;
        slots = refl;
        order = tt;
        fits_start = tt;
        gone = tt;
        below = below;
        unmade = λ b l. are b ∙ absent b (not_live (bases ++ more) now below b l);
        bare = λ s. ap (λ (m : Memory). m.slots s) start ∙ bare s;
        source = λ b h. inr (subst (Stored (place_of (bases ++ more) b)) (sym (are b)) (stored b h));
        stored = λ b h. subst (Stored (place_of (bases ++ more) b)) (sym (are b)) (stored b h);
        absent = λ b h. are b ∙ absent b h;
        same = λ b h. are b ∙ same b h;
        prints = append-nil (printed_parts empty (parts ++ new ∷ [])) ∙ printed_parts_more empty parts new
            ∙ ap (λ ss. printed_parts empty parts ++ ss) quiet ∙ k.prints ∙ shows;
      }

-- ---- a gather

-- what it reads is live, and it makes the next base
pub record Takes (bases : List (ℕ × Elem)) (live : ℕ → Bool) (g : Gather) : Type 0 where
  pub lawful : is_gather g ≡ true
  pub source : Holds bases live g.to g.source
  pub index : Holds bases live g.of g.index
  pub next : g.out.base ≡ length bases

abbrev pub live_with : (ℕ → Bool) → ℕ → ℕ → Bool
live_with live new b = live b || ((new == b) || false)

module _ (bases : List (ℕ × Elem)) (live : ℕ → Bool) (past : Progress) (parts : List Part) (g : Gather) (k : Kept bases live past parts []) (a : Takes bases live g) where
  abbrev new : ℕ × Elem
  new = (positions g.out.lengths, g.to)

  abbrev xs : Memory → List ℤ
  xs m = picked (numbers_in m g.source) (numbers_in m g.index)

  index_lawful : is_view g.index ≡ true
  index_lawful = (all_of is_view (g.out ∷ g.source ∷ g.index ∷ []) (both_left (list_all is_view (g.out ∷ g.source ∷ g.index ∷ [])) _ a.lawful)).1.1.0

  lengths_same : g.out.lengths ≡ g.index.lengths
  lengths_same =
      same_from_test g.out.lengths g.index.lengths
      (both_left (same_lists g.out.lengths g.index.lengths) _ (both_right (list_all is_view (g.out ∷ g.source ∷ g.index ∷ [])) _ a.lawful))

  as_many : length (xs (start_of parts)) ≡ positions g.out.lengths
  as_many = length-picked (numbers_in (start_of parts) g.source) (numbers_in (start_of parts) g.index) ∙ length-numbers (start_of parts) g.index index_lawful ∙ ap positions (sym lengths_same)

  typed : AllIn g.to (xs (start_of parts))
  typed = picked_in g.to (numbers_in (start_of parts) g.source) (numbers_in (start_of parts) g.index) (numbers_typed bases live past parts k g.to g.source a.source)

  alike : xs (start_of parts) ≡ xs past.memory
  alike = ap₂ picked (same_numbers bases live past parts k g.to g.source a.source) (same_numbers bases live past parts k g.of g.index a.index)

  fits_now : gather_fits (start_of parts) g ≡ true
  fits_now =
      ap₂ (λ x y. x && y) (ap₂ (λ x y. x && (y && true)) (met bases live past parts k g.to g.source a.source) (met bases live past parts k g.of g.index a.index))
      (ap is_none (k.unmade g.out.base (let l : length bases ≤ g.out.base = (let e : g.out.base ≡ length bases = a.next in omega arith) in l)))

  place_next : place_of (bases ++ new ∷ []) g.out.base ≡ new
  place_next = made_place bases new g.out.base a.next

  -- live before, or made by it
  was : (b : ℕ) → live_with live g.out.base b ≡ true → (live b ≡ true) ⊎ (g.out.base ≡ b)
  was b h = or_cases (live b) _ h (λ t. inl t) (λ t. or_cases (g.out.base == b) false t (λ e. inr (eqb-true g.out.base b e)) (λ e. absurd (false≢true e)))

  below : (b : ℕ) → live_with live g.out.base b ≡ true → b < length (bases ++ new ∷ [])
  below b h =
      let n : length (bases ++ new ∷ []) ≡ length bases + 1 = length-append bases (new ∷ []) in
      ⊎_elim (λ t. let l : b < length bases = k.below b t in omega arith) (λ e. let next : g.out.base ≡ length bases = a.next in omega arith) (was b h)

  stored : (b : ℕ) → live_with live g.out.base b ≡ true → Stored (place_of (bases ++ new ∷ []) b) ((gathered (start_of parts) g).bases b)
  stored b h =
      stored_output g.to (place_of (bases ++ new ∷ []) b) (xs (start_of parts)) b (Some g.out) true ((start_of parts).bases b)
      (λ o e t.
      let out : g.out ≡ o = cc in
      let here : new ≡ place_of (bases ++ new ∷ []) b = sym place_next ∙ ap (λ (v : Strided). place_of (bases ++ new ∷ []) v.base) out ∙ ap (place_of (bases ++ new ∷ [])) (eqb-true o.base b t) in
      (ap (λ (p : ℕ × Elem). p.1) here, subst (λ (p : ℕ × Elem). AllIn p.1 (xs (start_of parts))) here typed, (λ _. as_many ∙ ap (λ (p : ℕ × Elem). p.0) here)))
      (or_cases (live b) _ h
      (λ t. inr (subst (λ p. Stored p ((start_of parts).bases b)) (sym (place_more bases (new ∷ []) b (k.below b t))) (k.stored b t)))
      (λ t. inl t))

  absent : (b : ℕ) → live_with live g.out.base b ≡ false → (gathered (start_of parts) g).bases b ≡ None
  absent b h =
      let both = or_not (live b) ((g.out.base == b) || false) h in
      ap (changed (output_change (Some g.out) true g.to (xs (start_of parts)) b)) (k.absent b both.0)
      ∙ absent_output (Some g.out) true g.to (xs (start_of parts)) b both.1

  same : (b : ℕ) → live_with live g.out.base b ≡ true → (gathered (start_of parts) g).bases b ≡ (gathered past.memory g).bases b
  same b h =
      ap (λ ns. changed (output_change (Some g.out) true g.to ns b) ((start_of parts).bases b)) alike
      ∙ or_cases (live b) _ h (λ t. ap (changed (output_change (Some g.out) true g.to (xs past.memory) b)) (k.same b t))
      (λ t. or_cases (g.out.base == b) false t
      (λ e. ap (λ u. changed (cond u (Becomes (record { elem = g.to; numbers = xs past.memory })) Keeps) ((start_of parts).bases b)) e
      ∙ sym (ap (λ u. changed (cond u (Becomes (record { elem = g.to; numbers = xs past.memory })) Keeps) (past.memory.bases b)) e))
      (λ e. absurd (false≢true e)))

  pub kept_gather : Kept (bases ++ new ∷ []) (live_with live g.out.base) (run_step past (step.Gather g)) (parts ++ part.Gather g ∷ []) []
  kept_gather =
      alone bases live past parts k (part.Gather g) (new ∷ []) (live_with live g.out.base) (run_step past (step.Gather g)) a.lawful fits_now refl refl k.bare below stored absent same

-- ---- a scatter

-- what it reads and writes is live
pub record Puts (bases : List (ℕ × Elem)) (live : ℕ → Bool) (g : Scatter) : Type 0 where
  pub lawful : is_scatter g ≡ true
  pub target : Holds bases live g.to g.target
  pub index : Holds bases live g.of g.index
  pub values : Holds bases live g.to g.values

module _ (bases : List (ℕ × Elem)) (live : ℕ → Bool) (past : Progress) (parts : List Part) (g : Scatter) (k : Kept bases live past parts []) (a : Puts bases live g) where
  abbrev ys : Memory → List ℤ
  ys m = placed (numbers_in m g.target) (numbers_in m g.index) (numbers_in m g.values)

  typed_values : AllIn g.to (ys (start_of parts))
  typed_values =
      placed_in g.to (numbers_in (start_of parts) g.target) (numbers_in (start_of parts) g.index) (numbers_in (start_of parts) g.values)
      (numbers_typed bases live past parts k g.to g.target a.target) (numbers_typed bases live past parts k g.to g.values a.values)

  alike_values : ys (start_of parts) ≡ ys past.memory
  alike_values =
      ap (λ ns. placed ns (numbers_in (start_of parts) g.index) (numbers_in (start_of parts) g.values)) (same_numbers bases live past parts k g.to g.target a.target)
      ∙ ap₂ (placed (numbers_in past.memory g.target)) (same_numbers bases live past parts k g.of g.index a.index) (same_numbers bases live past parts k g.to g.values a.values)

  fits_then : scatter_fits (start_of parts) g ≡ true
  fits_then =
      ap₂ (λ x y. x && y) (met bases live past parts k g.to g.target a.target)
      (ap₂ (λ x y. x && (y && true)) (met bases live past parts k g.of g.index a.index) (met bases live past parts k g.to g.values a.values))

  stored_then : (b : ℕ) → live b ≡ true → Stored (place_of bases b) ((scattered (start_of parts) g).bases b)
  stored_then b h =
      stored_output g.to (place_of bases b) (ys (start_of parts)) b (Some g.target) false ((start_of parts).bases b)
      (λ o e t.
      let out : g.target ≡ o = cc in
      let here : g.to ≡ (place_of bases b).1 = a.target.type_is ∙ ap (λ (v : Strided). (place_of bases v.base).1) out ∙ ap (λ c. (place_of bases c).1) (eqb-true o.base b t) in
      (here, subst (λ u. AllIn u (ys (start_of parts))) here typed_values, (λ f. absurd (false≢true f))))
      (inr (k.stored b h))

  absent_then : (b : ℕ) → live b ≡ false → (scattered (start_of parts) g).bases b ≡ None
  absent_then b h =
      ap (changed (output_change (Some g.target) false g.to (ys (start_of parts)) b)) (k.absent b h) ∙ absent_output (Some g.target) false g.to (ys (start_of parts)) b refl

  same_then : (b : ℕ) → live b ≡ true → (scattered (start_of parts) g).bases b ≡ (scattered past.memory g).bases b
  same_then b h =
      ap (λ ns. changed (output_change (Some g.target) false g.to ns b) ((start_of parts).bases b)) alike_values
      ∙ ap (changed (output_change (Some g.target) false g.to (ys past.memory) b)) (k.same b h)

  pub kept_scatter : Kept bases live (run_step past (step.Scatter g)) (parts ++ part.Scatter g ∷ []) []
  kept_scatter =
      let nil : bases ++ [] ≡ bases = append-nil bases in
      subst (λ bs. Kept bs live (run_step past (step.Scatter g)) (parts ++ part.Scatter g ∷ []) []) nil
      (alone bases live past parts k (part.Scatter g) [] live (run_step past (step.Scatter g)) a.lawful fits_then refl refl k.bare
      (λ b h. subst (λ (bs : List (ℕ × Elem)). b < length bs) (sym nil) (k.below b h))
      (λ b h. subst (λ (bs : List (ℕ × Elem)). Stored (place_of bs b) ((scattered (start_of parts) g).bases b)) (sym nil) (stored_then b h)) absent_then same_then)
