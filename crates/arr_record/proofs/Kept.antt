-- What holds of the parts so far and of what waits, beside eager execution with nothing freed.
use Rattle.std.proofs.Common.{◌≡◌, ℕ, ◌+◌, ◌<◌, ◌≤◌, suc, List, [], ◌∷◌, ◌++◌, Bool, true, false, not, ◌||◌, ◌&&◌, ◌⊎◌, inl, inr, ⊎_elim, refl, ap, ap₂, sym, subst, ◌∙◌, arith, length, length-append, append_assoc, append-nil, map, Option, Some, None}
use Rattle.std.proofs.lemmas.Bool.{false≢true, eqb-true, eq-eqb}
use Rattle.std.specs.Prelude.{◌==◌, nat_eq}
use Rattle.std.specs.List.{AllByRecursion, list_any, filter, range_with_len}
use Rattle.std.specs.Option.{option_to_list}
use Rattle.arr_num.specs.declared.elem.Elem.{Elem}
use Rattle.arr_view.specs.Strided.{Strided}
use Rattle.arr_view.specs.Views.{has, positions}
use Rattle.arr_ops.specs.declared.op.Op.{Op}
use Rattle.arr_ops.specs.Ops.{outputs, freed, makes_base, creates}
use Rattle.arr_ops.specs.Memory.{Memory, eager, step, empty}
use Rattle.arr_ops.specs.Formed.{is_formed, may_precede, slot_numbers}
use Rattle.arr_ops.specs.Fits.{op_fits}
use Rattle.arr_ops.proofs.Pairs.{Pairs, All_weaker}
use Rattle.arr_ops.proofs.Tests.{test_all, or_cases, both_left, both_right}
use Rattle.arr_ops.proofs.Fits.{or_first, or_second}
use Rattle.arr_ops.proofs.FitsLaw.{all_append}
use Rattle.arr_elab.specs.Recording.{made_by}
use Rattle.arr_elab.specs.Steps.{Progress, shown, printed, slot_count, slot_from}
use Rattle.arr_ops.proofs.Spots.{all_two}
use Rattle.arr_record.specs.Parts.{most}
use Rattle.arr_ops.specs.Gathers.{is_gather, is_scatter}
use Rattle.arr_record.specs.declared.part.Part.{Part}
use Rattle.arr_record.specs.declared.part.Part.TheVariants.{Flush, Gather, Scatter}
use Rattle.arr_record.specs.Runs.{after_part, after_parts, printed_parts, each_fits}
use Rattle.arr_record.proofs.Runs.{eager_append, after_parts_more, printed_parts_more, each_fits_more, printed_more, slot_cases, slot_numbers_more, slot_count_more, range_more, shown_at, content}
use Rattle.arr_record.proofs.Home.{Home, place_of, place_more, below_all, home_more, formed_if}
use Rattle.arr_record.proofs.Cells.{Stored, stored_step, absent_step}
use Rattle.arr_record.proofs.Joined.{Allowed, precedes, pairs_more, fits_more, last_fits, creates_more, creates_last}

-- a list as flushes have it
pub record Lawful (list : List Op) : Type 0 where
  pub formed : is_formed list ≡ true
  pub some : 1 ≤ length list
  pub few : length list ≤ most

abbrev pub LawfulPart : Part → Type 0
LawfulPart (Flush list) = Lawful list
LawfulPart (Gather g) = is_gather g ≡ true
LawfulPart (Scatter g) = is_scatter g ≡ true

-- the memory in which what waits begins
abbrev pub start_of : List Part → Memory
start_of parts = after_parts empty parts

-- the memory after it
abbrev pub now_of : List Part → List Op → Memory
now_of parts waiting = eager (start_of parts) waiting

-- Of the length and type of each base, the live bases, eager execution so far, the parts and what waits.
pub record Kept (bases : List (ℕ × Elem)) (live : ℕ → Bool) (past : Progress) (parts : List Part) (waiting : List Op) : Type 0 where
  pub lawful : AllByRecursion LawfulPart parts
  pub fitting : each_fits empty parts ≡ true
  pub few : length waiting ≤ most
  pub home : AllByRecursion (Home bases) waiting
  pub slots : slot_numbers waiting ≡ range_with_len 1 (slot_count waiting)
  pub order : Pairs (λ f g. may_precede f g ≡ true) waiting
  pub fits_start : AllByRecursion (λ f. op_fits (start_of parts) waiting f ≡ true) waiting
  pub gone : AllByRecursion (λ f. AllByRecursion (λ b. live b ≡ false) (freed f)) waiting
  pub below : (b : ℕ) → live b ≡ true → b < length bases
  pub unmade : (b : ℕ) → length bases ≤ b → (start_of parts).bases b ≡ None
  pub bare : (s : ℕ) → (start_of parts).slots s ≡ None
  pub source : (b : ℕ) → live b ≡ true → (creates waiting b ≡ true) ⊎ Stored (place_of bases b) ((start_of parts).bases b)
  pub stored : (b : ℕ) → live b ≡ true → Stored (place_of bases b) ((now_of parts waiting).bases b)
  pub absent : (b : ℕ) → live b ≡ false → (now_of parts waiting).bases b ≡ None
  pub same : (b : ℕ) → live b ≡ true → (now_of parts waiting).bases b ≡ past.memory.bases b
  pub prints : printed_parts empty parts ++ printed (start_of parts) waiting ≡ shown past

-- ---- slots

slots_joined : (ops : List Op) (op : Op) → op.slot ≡ slot_from (suc (slot_count ops)) op.code → slot_numbers ops ≡ range_with_len 1 (slot_count ops)
    → slot_numbers (ops ++ op ∷ []) ≡ range_with_len 1 (slot_count (ops ++ op ∷ []))
slots_joined ops op e h =
    let n : ℕ = slot_count ops in
    let more : slot_count (ops ++ op ∷ []) ≡ n + length (option_to_list op.slot) = slot_count_more ops op in
    slot_numbers_more ops op ∙ ap (λ ss. ss ++ option_to_list op.slot) h
    ∙ ⊎_elim
    (λ c.
    let none : op.slot ≡ None = e ∙ c.0 in
    let zero_more : length (option_to_list op.slot) ≡ 0 = ap (λ s. length (option_to_list s)) none in
    ap (λ s. range_with_len 1 n ++ option_to_list s) none ∙ append-nil (range_with_len 1 n) ∙ ap (range_with_len 1) (let k : n ≡ slot_count (ops ++ op ∷ []) = omega arith in k))
    (λ c.
    let some : op.slot ≡ Some (suc n) = e ∙ c.0 in
    let one_more : length (option_to_list op.slot) ≡ 1 = ap (λ s. length (option_to_list s)) some in
    ap (λ s. range_with_len 1 n ++ option_to_list s) some ∙ ap (λ k. range_with_len 1 n ++ k ∷ []) (let k : suc n ≡ 1 + n = omega arith in k)
    ∙ sym (range_more 1 n) ∙ ap (range_with_len 1) (let k : suc n ≡ slot_count (ops ++ op ∷ []) = omega arith in k))
    (slot_cases n op.code)

-- ---- one more operation

-- what lives after it
abbrev pub live_after : (ℕ → Bool) → Op → ℕ → Bool
live_after live g b = (live b || makes_base g b) && not (has (freed g) b)

pub or_not : (a b : Bool) → (a || b) ≡ false → (a ≡ false) × (b ≡ false)
or_not true b h = absurd (false≢true (sym h))
or_not false b h = (refl, h)

pub not_true : (a : Bool) → not a ≡ true → a ≡ false
not_true true h = absurd (false≢true h)
not_true false h = refl

and_not : (a b : Bool) → (a && not b) ≡ false → (b ≡ true) ⊎ (a ≡ false)
and_not true true h = inl refl
and_not true false h = inr h
and_not false b h = inr refl

made_is_next : (bases : List (ℕ × Elem)) (out : Option Strided) (makes : Bool) (b : ℕ) → (makes ≡ true → AllByRecursion (λ (o : Strided). o.base ≡ length bases) (option_to_list out))
    → (makes && list_any (λ (o : Strided). o.base == b) (option_to_list out)) ≡ true → b ≡ length bases
made_is_next bases None makes b h t = absurd (false≢true (both_right makes false t))
made_is_next bases (Some o) makes b h t =
    or_cases (o.base == b) false (both_right makes _ t) (λ e. sym (eqb-true o.base b e) ∙ (h (both_left makes _ t)).0) (λ e. absurd (false≢true e))

one_made : (out : Option Strided) (makes : Bool) (t : Elem) (b : ℕ) → (makes && list_any (λ (o : Strided). o.base == b) (option_to_list out)) ≡ true
    → length {A = ℕ × Elem} (map (λ (o : Strided). (positions o.lengths, t)) (filter (λ _. makes) (option_to_list out))) ≡ 1
one_made None makes t b h = absurd (false≢true (both_right makes false h))
one_made (Some o) true t b h = refl
one_made (Some o) false t b h = absurd (false≢true h)

itself : (bs : List ℕ) → AllByRecursion (λ b. has bs b ≡ true) bs
itself [] = tt
itself (b ∷ bs) = (or_first (nat_eq b b) _ (eq-eqb b b refl), All_weaker (λ c. has bs c ≡ true) (λ c. has (b ∷ bs) c ≡ true) (λ c t. or_second (nat_eq c b) _ t) bs (itself bs))

module _ (bases : List (ℕ × Elem)) (live : ℕ → Bool) (past : Progress) (parts : List Part) (waiting : List Op) (g : Op)
    (k : Kept bases live past parts waiting) (a : Allowed bases live g) (g_home : Home (bases ++ made_by g) g) where
  more : List (ℕ × Elem)
  more = bases ++ made_by g

  longer : length bases ≤ length (bases ++ made_by g)
  longer = let n : length (bases ++ made_by g) ≡ length bases + length (made_by g) = length-append bases (made_by g) in omega arith

  stored_more : (b : ℕ) (m : Memory) → live b ≡ true → Stored (place_of bases b) (m.bases b) → Stored (place_of (bases ++ made_by g) b) (m.bases b)
  stored_more b m l s = subst (λ p. Stored p (m.bases b)) (sym (place_more bases (made_by g) b (k.below b l))) s

  source_more : (b : ℕ) → live b ≡ true → (creates waiting b ≡ true) ⊎ Stored (place_of (bases ++ made_by g) b) ((start_of parts).bases b)
  source_more b l = ⊎_elim (λ t. inl t) (λ s. inr (stored_more b (start_of parts) l s)) (k.source b l)

  -- live after it: live before it or made by it, and not freed
  was : (b : ℕ) → live_after live g b ≡ true → ((live b ≡ true) ⊎ (makes_base g b ≡ true)) × (has (freed g) b ≡ false)
  was b h =
      (or_cases (live b) (makes_base g b) (both_left (live b || makes_base g b) _ h) (λ t. inl t) (λ t. inr t), not_true (has (freed g) b) (both_right (live b || makes_base g b) _ h))

  never_made : (b : ℕ) → b < length bases → makes_base g b ≡ false
  never_made b l = elim (makes_base g b) as (λ t. makes_base g b ≡ t → t ≡ false) [
    | true ↦ λ e. absurd (let n : b ≡ length bases = made_is_next bases g.out g.makes b a.makes e in omega arith)
    | false ↦ λ e. refl
  ] refl

  still_gone : (f : Op) → Home bases f → AllByRecursion (λ b. live b ≡ false) (freed f) → AllByRecursion (λ b. live_after live g b ≡ false) (freed f)
  still_gone f h =
      all_two (λ b. b < length bases) (λ b. live b ≡ false) (λ b. live_after live g b ≡ false)
      (λ b l dead. ap₂ (λ x y. (x || y) && not (has (freed g) b)) dead (never_made b l)) (freed f) (below_all bases f h).1

  now_more : (b : ℕ) → live_after live g b ≡ true → Stored (place_of (bases ++ made_by g) b) ((step (now_of parts waiting) g).bases b)
  now_more b h =
      let w = was b h in
      stored_step (bases ++ made_by g) (now_of parts waiting) g b g_home w.1
      (⊎_elim (λ t. inr (stored_more b (now_of parts waiting) t (k.stored b t))) (λ t. inl t) w.0)

  absent_more : (b : ℕ) → live_after live g b ≡ false → (step (now_of parts waiting) g).bases b ≡ None
  absent_more b h =
      absent_step (now_of parts waiting) g b
      (⊎_elim (λ t. inl t) (λ t. let n = or_not (live b) (makes_base g b) t in inr (k.absent b n.0, n.1)) (and_not (live b || makes_base g b) (has (freed g) b) h))

  below_more : (b : ℕ) → live_after live g b ≡ true → b < length (bases ++ made_by g)
  below_more b h =
      ⊎_elim
      (λ t. let l : b < length bases = k.below b t in let n : length bases ≤ length (bases ++ made_by g) = longer in omega arith)
      (λ t.
      let n : length (bases ++ made_by g) ≡ length bases + length (made_by g) = length-append bases (made_by g) in
      let one : length (made_by g) ≡ 1 = one_made g.out g.makes g.to b t in
      let next : b ≡ length bases = made_is_next bases g.out g.makes b a.makes t in
      omega arith)
      (was b h).0

  source_after : (b : ℕ) → live_after live g b ≡ true → (creates (waiting ++ g ∷ []) b ≡ true) ⊎ Stored (place_of (bases ++ made_by g) b) ((start_of parts).bases b)
  source_after b h =
      ⊎_elim
      (λ t. ⊎_elim (λ c. inl (creates_more waiting g b c)) (λ s. inr s) (source_more b t))
      (λ t. inl (creates_last waiting g b t))
      (was b h).0

  fits_last : op_fits (start_of parts) (waiting ++ g ∷ []) g ≡ true
  fits_last =
      last_fits (bases ++ made_by g) live (start_of parts) waiting g source_more g_home a.writes a.reads a.frees
      (λ e. All_weaker (λ (o : Strided). o.base ≡ length bases) (λ (o : Strided). (start_of parts).bases o.base ≡ None)
      (λ o t. k.unmade o.base (let l : length bases ≤ o.base = omega arith in l)) (outputs g) (a.makes e)) k.bare

  pub kept_more : (later : Progress) → g.slot ≡ slot_from (suc (slot_count waiting)) g.code → length waiting < most
      → ((b : ℕ) → live_after live g b ≡ true → (step (now_of parts waiting) g).bases b ≡ later.memory.bases b)
      → shown past ++ shown_at g.slot (content (now_of parts waiting) g) ≡ shown later
      → Kept (bases ++ made_by g) (live_after live g) later parts (waiting ++ g ∷ [])
  kept_more later slot few same prints =
      let run : now_of parts (waiting ++ g ∷ []) ≡ step (now_of parts waiting) g = eager_append (start_of parts) waiting (g ∷ []) in
      record {
        lawful = k.lawful;
        fitting = k.fitting;
        few = let n : length (waiting ++ g ∷ []) ≡ length waiting + 1 = length-append waiting (g ∷ []) in omega arith;
        home = all_append (Home (bases ++ made_by g)) waiting (g ∷ []) (All_weaker (Home bases) (Home (bases ++ made_by g)) (λ f h. home_more bases (made_by g) f h) waiting k.home) (g_home, tt);
        slots = slots_joined waiting g slot k.slots;
        order = pairs_more (λ f h. may_precede f h ≡ true) waiting g k.order
            (all_two (Home bases) (λ f. AllByRecursion (λ b. live b ≡ false) (freed f)) (λ f. may_precede f g ≡ true) (λ f h d. precedes bases live f g h d a) waiting k.home k.gone);
        fits_start = all_append (λ f. op_fits (start_of parts) (waiting ++ g ∷ []) f ≡ true) waiting (g ∷ [])
            (All_weaker (λ f. op_fits (start_of parts) waiting f ≡ true) (λ f. op_fits (start_of parts) (waiting ++ g ∷ []) f ≡ true) (λ f t. fits_more (start_of parts) waiting g f t) waiting k.fits_start)
            (fits_last, tt);
        gone = all_append (λ f. AllByRecursion (λ b. live_after live g b ≡ false) (freed f)) waiting (g ∷ [])
            (all_two (Home bases) (λ f. AllByRecursion (λ b. live b ≡ false) (freed f)) (λ f. AllByRecursion (λ b. live_after live g b ≡ false) (freed f)) (λ f h d. still_gone f h d) waiting k.home k.gone)
            (All_weaker (λ b. has (freed g) b ≡ true) (λ b. live_after live g b ≡ false) (λ b t. freed_not b t) (freed g) (itself (freed g)), tt);
        below = below_more;
        unmade = λ b l. k.unmade b (let n : length bases ≤ length (bases ++ made_by g) = longer in omega arith);
        bare = k.bare;
        source = source_after;
        stored = λ b h. subst (λ (m : Memory). Stored (place_of (bases ++ made_by g) b) (m.bases b)) (sym run) (now_more b h);
        absent = λ b h. ap (λ (m : Memory). m.bases b) run ∙ absent_more b h;
        same = λ b h. ap (λ (m : Memory). m.bases b) run ∙ same b h;
        prints = ap (λ ss. printed_parts empty parts ++ ss) (printed_more (start_of parts) waiting g slot)
            ∙ sym (append_assoc (printed_parts empty parts) (printed (start_of parts) waiting) (shown_at g.slot (content (now_of parts waiting) g)))
            ∙ ap (λ ss. ss ++ shown_at g.slot (content (now_of parts waiting) g)) k.prints ∙ prints;
      }
    where
      freed_not : (b : ℕ) → has (freed g) b ≡ true → live_after live g b ≡ false
      freed_not b t = ap (λ x. (live b || makes_base g b) && not x) t ∙ and_false (live b || makes_base g b)
        where
          and_false : (x : Bool) → (x && false) ≡ false
          and_false true = refl
          and_false false = refl

-- what is not made is not live
pub not_live : (bases : List (ℕ × Elem)) (live : ℕ → Bool) → ((b : ℕ) → live b ≡ true → b < length bases) → (b : ℕ) → length bases ≤ b → live b ≡ false
not_live bases live below b l = elim (live b) as (λ t. live b ≡ t → t ≡ false) [
  | true ↦ λ e. absurd (let n : b < length bases = below b e in omega arith)
  | false ↦ λ e. refl
] refl

-- ---- a cut

pub kept_cut : (bases : List (ℕ × Elem)) (live : ℕ → Bool) (past : Progress) (parts : List Part) (waiting : List Op) → 1 ≤ length waiting → Kept bases live past parts waiting
    → Kept bases live past (parts ++ Flush waiting ∷ []) []
kept_cut bases live past parts waiting some k =
    let start : start_of (parts ++ Flush waiting ∷ []) ≡ after_part (start_of parts) (Flush waiting) = after_parts_more empty parts (Flush waiting) in
    let bases_are : (b : ℕ) → (start_of (parts ++ Flush waiting ∷ [])).bases b ≡ (now_of parts waiting).bases b = λ b. ap (λ (m : Memory). m.bases b) start in
    record {
      lawful = all_append LawfulPart parts (Flush waiting ∷ []) k.lawful (
        record {
          formed = formed_if bases waiting k.home k.slots k.order;
          some = some;
          few = k.few;
        },
        tt,
      );
      fitting = each_fits_more empty parts (Flush waiting) k.fitting (test_all (op_fits (start_of parts) waiting) waiting k.fits_start);
      few = omega arith;
      home = tt;
      slots = refl;
      order = tt;
      fits_start = tt;
      gone = tt;
      below = k.below;
      unmade = λ b l. bases_are b ∙ k.absent b (not_live bases live k.below b l);
      bare = λ s. ap (λ (m : Memory). m.slots s) start;
      source = λ b h. inr (subst (Stored (place_of bases b)) (sym (bases_are b)) (k.stored b h));
      stored = λ b h. subst (Stored (place_of bases b)) (sym (bases_are b)) (k.stored b h);
      absent = λ b h. bases_are b ∙ k.absent b h;
      same = λ b h. bases_are b ∙ k.same b h;
      prints = append-nil (printed_parts empty (parts ++ Flush waiting ∷ [])) ∙ printed_parts_more empty parts (Flush waiting) ∙ k.prints;
    }
