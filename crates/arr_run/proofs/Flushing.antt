-- One flush: what its normal form leaves and prints, and where its text may be cut.
use Rattle.std.proofs.Common.{Result, Ok, Err, OnOk, OnErr, ◌≡◌, ◌+◌, ◌<◌, ◌≤◌, ◌^◌, ℕ, List, ◌++◌, length, map, take, true, refl, ap, sym, ◌∙◌, subst, arith, Option, None, length-append}
use Rattle.std.proofs.KnownBytes.{Appends-trans}
use Rattle.std.proofs.Math.Seq.{take-append-add}
use Rattle.std.proofs.lemmas.List.{take-append-le}
use Rattle.std.specs.List.{flat_map}
use Rattle.std.specs.Io.KnownBytes.{Appends}
use Rattle.arr_io.specs.Taken.{AppendsPart}
use Rattle.arr_listing.specs.Plans.{plan_text}
use Rattle.arr_listing.specs.Texts.{array_text}
use Rattle.arr_ops.specs.Costs.{block_cost, cost}
use Rattle.arr_ops.specs.declared.op.Op.{Op}
use Rattle.arr_ops.specs.Fits.{fits}
use Rattle.arr_ops.specs.Formed.{is_formed}
use Rattle.arr_ops.specs.Costs.{total}
use Rattle.arr_ops.specs.Memory.{Memory, eager, without_slots}
use Rattle.arr_ops.specs.Plans.{is_legal}
use Rattle.arr_ops.specs.Traffic.{buffers, read_bytes, write_bytes}
use Rattle.arr_loop.proofs.Bounds.{Small, plan_small}
use Rattle.arr_rewrite.specs.NormalForm.{normal_form}
use Rattle.arr_rewrite.proofs.Laws.{normal_fits, normal_keeps}
use Rattle.arr_store.specs.Stored.{Stored, memory_of}
use Rattle.arr_run.specs.declared.flush.RunFault.{RunFault}
use Rattle.arr_run.specs.declared.flush.RunFault.TheVariants.{WriteFault, NoMemory}
use Rattle.arr_run.specs.Flushes.{Moves, arrays_text}
use Rattle.arr_run.specs.Parts.{AppendsFront, CutIn, OnRan, RisesBy, Wrote}
use Rattle.arr_run.specs.declared.planning.Planned.{Planned}
use Rattle.arr_run.specs.Pieces.{Rise, Rises, Segment, bound_line, plan_lines, plan_rise, planned_lines}
use Rattle.arr_run.specs.Shown.{AllShow, slots_text}
use Rattle.arr_run.proofs.Printed.{formed_show, formed_text}
use Rattle.arr_run.proofs.Rewritten.{Kept, normal_kept, printed_same}

-- ---- the normal form in place of the list

pub record Stands (m : Memory) (ops list : List Op) : Type 0 where
  pub formed : is_formed list ≡ true
  pub few : length list ≤ length ops
  pub fitting : fits m list ≡ true
  pub same : eager m list ≡ eager m ops
  pub show : AllShow (eager m list).slots list
  pub text : slots_text (eager m list).slots list ≡ arrays_text m ops

pub stands : (m : Memory) (ops list : List Op) → list ≡ normal_form ops → is_formed ops ≡ true → fits m ops ≡ true → Stands m ops list
stands m ops list is formed fit =
    let k : Kept ops (normal_form ops) = normal_kept ops formed in
    let same : eager m (normal_form ops) ≡ eager m ops = normal_keeps m ops formed fit in
    subst (Stands m ops) (sym is)
    (record {
      formed = k.formed;
      few = k.few;
      fitting = normal_fits m ops formed fit;
      same = same;
      show = formed_show (normal_form ops) m k.formed;
      text = formed_text (normal_form ops) m k.formed ∙ ap (flat_map array_text) (printed_same m ops (normal_form ops) k.slots same);
    })

-- what the rewritten list leaves
pub leaves_same : (m : Memory) (ops list : List Op) (after : Stored) → Stands m ops list → (memory_of after).bases ≡ (eager m list).bases → memory_of after ≡ without_slots (eager m ops)
leaves_same m ops list after s e = let b = e ∙ ap (λ (k : Memory). k.bases) s.same in λ i. record { bases = b i; slots = λ n. None }

-- ---- what is listed

pub planned_text : (number recorded price : ℕ) (ops list : List Op) (costs : List ℕ) (p : Planned) → recorded ≡ length ops → list ≡ normal_form ops → costs ≡ map (block_cost (normal_form ops)) p.plan → price ≡ cost (normal_form ops) p.plan
    → plan_text recorded number list p.plan costs ++ bound_line price p.bound p.units ≡ planned_lines number ops p
planned_text number recorded price ops list costs p count normal priced sum =
    ap (λ n. plan_text n number list p.plan costs ++ bound_line price p.bound p.units) count ∙ ap (λ l. plan_text (length ops) number l p.plan costs ++ bound_line price p.bound p.units) normal
    ∙ ap (λ cs. plan_text (length ops) number (normal_form ops) p.plan cs ++ bound_line price p.bound p.units) priced ∙ ap (λ n. plan_lines number ops p.plan ++ bound_line n p.bound p.units) sum

-- ---- what a plan moves

pub moved_by : (given list : List Op) (plan : List (List ℕ)) (old new : Stored) → given ≡ list → new.loads ≡ old.loads + total (read_bytes given) plan → new.stores ≡ old.stores + total (write_bytes given) plan
    → new.made ≡ old.made + buffers given plan → Moves list plan old new
moved_by given list plan old new e l s m =
    record {
      loads = l ∙ ap (λ os. old.loads + total (read_bytes os) plan) e;
      stores = s ∙ ap (λ os. old.stores + total (write_bytes os) plan) e;
      made = m ∙ ap (λ os. old.made + buffers os plan) e;
    }

pub moved_rises : (list : List Op) (plan : List (List ℕ)) (old new : Stored) → Moves list plan old new → Rises (plan_rise list plan) old new
moved_rises list plan old new moved = record { loads = let e = moved.loads in omega arith; stores = moved.stores; made = moved.made }

pub moved_little : (list : List Op) (plan : List (List ℕ)) (old new : Stored) → is_formed list ≡ true → is_legal list plan ≡ true → length list ≤ 256 → Moves list plan old new → RisesBy (2 ^ 32) old new
moved_little list plan old new formed legal few moved =
    let small : Small list plan = plan_small list plan formed legal few in
    let l0 = small.loads in
    let s0 = small.stores in
    let m0 = small.buffers in
    let l1 = moved.loads in
    let s1 = moved.stores in
    let m1 = moved.made in
    record { loads = omega arith; stores = omega arith; made = omega arith }

-- ---- a text that is cut

-- a byte of the head is missing
pub cut_head : (segment : Segment) (rise : Rise) (m : Memory) (a b : Option (List ℕ)) (store : Stored) → AppendsPart a b segment.head → CutIn segment rise m a b store store
cut_head segment rise m a b store p =
    let short : p.0 < length segment.head = p.1 in
    let all = length-append segment.head segment.arrays in
    record {
      count = p.0;
      short = omega arith;
      wrote = subst (Appends a b) (sym (take-append-le p.0 segment.head segment.arrays (omega arith))) p.2;
      not_run = λ h. refl;
      has_run = λ h. absurd (omega arith);
      counts = λ h. absurd (omega arith);
    }

-- a byte of the arrays is missing
pub cut_arrays : (segment : Segment) (rise : Rise) (m : Memory) (a b c : Option (List ℕ)) (store after : Stored) → Appends a b segment.head → AppendsPart b c segment.arrays → memory_of after ≡ m → Rises rise store after → CutIn segment rise m a c store after
cut_arrays segment rise m a b c store after first p is rises =
    let short : p.0 < length segment.arrays = p.1 in
    let all = length-append segment.head segment.arrays in
    record {
      count = length segment.head + p.0;
      short = omega arith;
      wrote = subst (Appends a c) (sym (take-append-add segment.head segment.arrays p.0)) (Appends-trans a b c segment.head (take p.0 segment.arrays) first p.2);
      not_run = λ h. absurd (omega arith);
      has_run = λ h. is;
      counts = λ h. rises;
    }

-- ---- by how a call ended

pub all_ok : {T E P : Type 0} (r : Result T E) (x : T) → r ≡ Ok x → OnOk r P → P
all_ok (Ok y) x e h = h
all_ok (Err f) x e h = absurd (cc)

pub part_err : {T E P : Type 0} (r : Result T E) (f : E) → r ≡ Err f → OnErr r P → P
part_err (Ok y) f e h = absurd (cc)
part_err (Err g) f e h = h

pub same_err : {T E : Type 0} (e f : E) → ◌≡◌ {A = Result T E} (Err e) (Err f) → e ≡ f
same_err e f h = cc

pub front_fault : (e : RunFault) (old new : Option (List ℕ)) (text : List ℕ) → e ≡ NoMemory → Wrote (Err e) old new text → AppendsFront old new text
front_fault WriteFault old new text e h = absurd (cc)
front_fault NoMemory old new text e h = h

pub part_fault : (e : RunFault) (old new : Option (List ℕ)) (text : List ℕ) → e ≡ WriteFault → Wrote (Err e) old new text → AppendsPart old new text
part_fault WriteFault old new text e h = h
part_fault NoMemory old new text e h = absurd (cc)

pub ran_fault : {P : Type 0} (e : RunFault) → e ≡ WriteFault → OnRan (Err e) P → P
ran_fault WriteFault e h = h
ran_fault NoMemory e h = absurd (cc)
