-- What a run with certificates wrote is a proof that is accepted.
use Rattle.std.proofs.Common.{◌≡◌, inl, ℕ, suc, ◌+◌, ◌-◌, ◌^◌, ◌<◌, ◌≤◌, List, [], ◌∷◌, ◌++◌, length, map, sum, take, drop, Bool, true, false, ◌&&◌, refl, ap, ap₂, sym, ◌∙◌, subst, arith, Option, Some, None, append-nil, append_assoc, length-append, decimal}
use Rattle.std.specs.Prelude.{cond, nat_lt, nat_le}
use Rattle.std.specs.List.{flat_map, list_all, range_with_len, sum_by}
use Rattle.std.proofs.lemmas.List.Sums.{sum-map, sum_by-cons}
use Rattle.std.specs.Option.{option_to_list}
use Rattle.std.specs.Io.KnownBytes.{Appends}
use Rattle.std.proofs.lemmas.Bool.{and_parts, and_from, leb-true, lt-ltb}
use Rattle.std.proofs.lemmas.List.{map-append}
use Rattle.arr_tokens.specs.Tokens.{tokens}
use Rattle.arr_syntax.proofs.Unique.{not_both, one_script}
use Rattle.arr_syntax.proofs.Weighed.{script_weighs}
use Rattle.arr_tree.specs.declared.refusal.Refusal.{Refusal}
use Rattle.arr_elab.specs.declared.step.Step.{Step}
use Rattle.arr_elab.specs.Outcome.{outcome}
use Rattle.arr_elab.specs.Steps.{eager_arrays}
use Rattle.arr_elab.proofs.Recorded.{recorded}
use Rattle.arr_ops.specs.declared.op.Op.{Op}
use Rattle.arr_ops.specs.Costs.{block_cost, cost, total}
use Rattle.arr_ops.specs.Formed.{is_formed}
use Rattle.arr_ops.specs.Memory.{Slot}
use Rattle.arr_view.specs.Views.{has}
use Rattle.arr_ops.specs.Plans.{is_legal, place}
use Rattle.arr_ops.proofs.Tests.{both_left, both_right}
use Rattle.arr_cost.proofs.Sums.{few_blocks}
use Rattle.arr_record.specs.declared.part.Part.{Part}
use Rattle.arr_record.specs.declared.part.Part.TheVariants.{Flush, Gather, Scatter}
use Rattle.arr_record.specs.Parts.{parts_of}
use Rattle.arr_record.specs.Runs.{is_part, is_sized as is_few}
use Rattle.arr_record.proofs.Few.{few_parts}
use Rattle.arr_record.proofs.Walk.{all_parts}
use Rattle.arr_rewrite.specs.NormalForm.{normal_form}
use Rattle.arr_law.specs.declared.certificate.Certificate.{Certificate}
use Rattle.arr_law.specs.declared.record.Record.{Record}
use Rattle.arr_law.specs.declared.charge.Charge.{Charge}
use Rattle.arr_law.specs.declared.record.Record.TheVariants.{Step as Stepped, Branch, Dead, Worth, End, Flush as Head, Plan as Places, Cost as Priced, Bound as Bounded}
use Rattle.arr_law.specs.ProblemOf.{problem_of}
use Rattle.arr_law.specs.Verdict.{Accepted, AtHead, Ends, Reading, Reads, Yes, answer, is_tree_record, records_of, verdict_from, with_answer}
use Rattle.arr_cert.specs.Proofs.{is_open}
use Rattle.arr_cert.specs.Reading.{Has, IsRead, is_marked, lines, marked}
use Rattle.arr_cert.specs.Spelling.{is_sized}
use Rattle.arr_cert.specs.Texts.{behind, first_text, group_text, is_short, is_spellable, is_spelled, line_text, record_text, third_numbers, version_numbers}
use Rattle.arr_cert.proofs.Back.{read_once}
use Rattle.arr_cert.proofs.Joined.{free_join}
use Rattle.arr_cert.proofs.Passing.{first_line, is_within, text_is}
use Rattle.arr_check.specs.Judged.{onto}
use Rattle.arr_search.specs.Best.{IsCertificate}
use Rattle.arr_listing.specs.Texts.{array_text}
use Rattle.arr_run.specs.declared.choice.Choice.{Choice}
use Rattle.arr_run.specs.declared.choice.Fuse.TheVariants.{Best}
use Rattle.arr_run.specs.declared.choice.Listing.TheVariants.{Cert}
use Rattle.arr_run.specs.declared.planning.Planned.{Planned}
use Rattle.arr_run.specs.declared.words.Command.TheVariants.{Run, Check}
use Rattle.arr_run.specs.Answers.{Answer as Reply, Ends as Whole, Given, IsAccepted, IsCheck, IsRun, IsWhole, Refuses, answer_status, answer_text, check_verdict, checked, done, grammar, length_, meaning, refused, run_text}
use Rattle.arr_run.specs.Checked.{IsProof, checks, lists_of, most_proof, verdict_status, verdict_text}
use Rattle.arr_run.specs.Chosen.{IsChosen, Searched}
use Rattle.arr_run.specs.Laws.{AcceptsRun, RunsCheck, bounds_in, run_bounds}
use Rattle.arr_run.specs.Pieces.{PlannedParts, bound_line, certificate_lines, flush_head, plan_lines, segment_text, segments_from, slots_in}
use Rattle.arr_run.proofs.Accepted.{certificate_moves, certificate_sized, records}
use Rattle.arr_run.proofs.Judging.{onto_more}
use Rattle.arr_run.proofs.Chosen.{small_costs}
use Rattle.arr_run.proofs.Rewritten.{Kept, normal_kept}
use Rattle.arr_run.proofs.Silent.{Silent, digits_free, arrays_silent, bound_silent, passes_silent, plan_silent, silent_join, silent_none}

-- ---- texts that are read as records, whatever stands behind them

record ReadOn (text : List ℕ) (rs : List Record) (line room : ℕ) (more : List ℕ) : Type 0 where
  pub front : List (ℕ × Record)
  pub are : records front ≡ rs
  pub next : ℕ
  pub goes : (rest : Reading) → IsRead (marked next (room - length text) (lines more)) rest → IsRead (marked line room (lines (text ++ more))) (onto front rest)

abbrev ReadsAs : List ℕ → List Record → Type 0
ReadsAs text rs = (line room : ℕ) (more : List ℕ) → length text ≤ room → ReadOn text rs line room more

reads_silent : (text : List ℕ) → Silent text → ReadsAs text []
reads_silent text s line room more w = record {
  front = [];
  are = refl;
  next = line + length (lines text);
  goes = λ rest r. subst (λ m. IsRead m rest) (sym (passes_silent text more line room s w)) r;
}

reads_join : (s t : List ℕ) (rs ss : List Record) → ReadsAs s rs → ReadsAs t ss → ReadsAs (s ++ t) (rs ++ ss)
reads_join s t rs ss f g line room more w =
    let long : length (s ++ t) ≡ length s + length t = length-append s t in
    let a : ReadOn s rs line room (t ++ more) = f line room (t ++ more) (omega arith) in
    let b : ReadOn t ss a.next (room - length s) more = g a.next (room - length s) more (omega arith) in
    let left : (room - length s) - length t ≡ room - length (s ++ t) = omega arith in
    record {
      front = a.front ++ b.front;
      are = map-append (λ (l : ℕ × Record). l.1) a.front b.front ∙ ap₂ (λ (xs ys : List Record). xs ++ ys) a.are b.are;
      next = b.next;
      goes = λ rest r.
          subst (λ u. IsRead (marked line room (lines u)) (onto (a.front ++ b.front) rest)) (sym (append_assoc s t more))
          (subst (IsRead (marked line room (lines (s ++ (t ++ more))))) (sym (onto_more a.front b.front rest))
          (a.goes (onto b.front rest) (b.goes rest (subst (λ k. IsRead (marked b.next k (lines more)) rest) (sym left) r))));
    }

-- ---- the line of a record

behind_open : (sign : ℕ) (ns : List ℕ) → is_open (sign ∷ []) ≡ true → is_open (behind sign ns) ≡ true
behind_open sign [] o = refl
behind_open sign (n ∷ ns) o = free_join 10 (sign ∷ decimal n) (behind sign ns) (free_join 10 (sign ∷ []) (decimal n) o (digits_free 10 n (omega arith))) (behind_open sign ns o)

group_open : (k : ℕ) (ops : List ℕ) → is_open ((first_text ops ++ (46 ∷ decimal k)) ++ behind 44 (drop 1 ops)) ≡ true
group_open k [] = free_join 10 (32 ∷ 46 ∷ decimal k) [] (digits_free 10 k (omega arith)) refl
group_open k (f ∷ fs) =
    free_join 10 ((32 ∷ decimal f) ++ (46 ∷ decimal k)) (behind 44 fs)
    (free_join 10 (32 ∷ decimal f) (46 ∷ decimal k) (digits_free 10 f (omega arith)) (digits_free 10 k (omega arith))) (behind_open 44 fs refl)

groups_open : (cs : List Charge) → is_open (flat_map group_text cs) ≡ true
groups_open [] = refl
groups_open (c ∷ cs) = free_join 10 (group_text c) (flat_map group_text cs) (group_open c.operand c.ops) (groups_open cs)

record_open : (r : Record) → is_open (record_text r) ≡ true
record_open (Head n k v) = behind_open 32 (n ∷ k ∷ version_numbers v) refl
record_open (Places places) = behind_open 32 places refl
record_open (Priced price) = behind_open 32 (price ∷ []) refl
record_open (Bounded bound) = behind_open 32 (bound ∷ []) refl
record_open (Stepped rule f g h) = behind_open 32 (rule ∷ f ∷ g ∷ third_numbers rule h) refl
record_open (Branch f g) = behind_open 32 (f ∷ g ∷ []) refl
record_open (Dead f g) = behind_open 32 (f ∷ g ∷ []) refl
record_open (Worth charges) = groups_open charges
record_open End = refl

record_marked : (r : Record) → is_marked (record_text r ++ 10 ∷ []) ≡ true
record_marked (Head n k v) = refl
record_marked (Places places) = refl
record_marked (Priced price) = refl
record_marked (Bounded bound) = refl
record_marked (Stepped rule f g h) = refl
record_marked (Branch f g) = refl
record_marked (Dead f g) = refl
record_marked (Worth charges) = refl
record_marked End = refl

marked_line : (line room : ℕ) (r : Record) (more : List ℕ) → length (line_text r) ≤ room → marked line room (lines (line_text r ++ more)) ≡ Has line (record_text r) (marked (suc line) (room - length (line_text r)) (lines more))
marked_line line room r more w =
    is_within line room (line_text r) (lines more) (lines (line_text r ++ more)) true (first_line (record_text r) (line_text r ++ more) more true (record_open r) (λ e. absurd (cc)) refl) w (record_marked r)
    ∙ ap (λ t. Has line t (marked (suc line) (room - length (line_text r)) (lines more))) (text_is (record_text r) true (record_open r))

reads_line : (r : Record) → (is_spelled r && is_short r) ≡ true → is_sized r ≡ true → ReadsAs (line_text r) (r ∷ [])
reads_line r p s line room more w =
    let t = and_parts (is_spelled r) (is_short r) p in
    record {
      front = (line, r) ∷ [];
      are = refl;
      next = suc line;
      goes = λ rest h. subst (λ m. IsRead m (Reads line r rest)) (sym (marked_line line room r more w))
          (inl (r, rest, record { written = record { same = refl; spelled = t.0; sized = s }; short = leb-true (length (record_text r)) 65536 t.1 }, h, refl));
    }

reads_records : (rs : List Record) → list_all (λ r. is_spelled r && is_short r) rs ≡ true → list_all is_sized rs ≡ true → ReadsAs (flat_map line_text rs) rs
reads_records [] p s = reads_silent [] silent_none
reads_records (r ∷ rs) p s =
    let q = and_parts (is_spelled r && is_short r) (list_all (λ r. is_spelled r && is_short r) rs) p in
    let t = and_parts (is_sized r) (list_all is_sized rs) s in
    reads_join (line_text r) (flat_map line_text rs) (r ∷ []) rs (reads_line r q.0 t.0) (reads_records rs q.1 t.1)

-- ---- a flush

bound_line_silent : (cost : ℕ) (bound : Option ℕ) (units : ℕ) → Silent (bound_line cost bound units)
bound_line_silent cost None units = silent_none
bound_line_silent cost (Some bound) units = bound_silent cost bound units

-- its text is read as its certificate
reads_flush : (number : ℕ) (list : List Op) (p : Planned) (c : Certificate) (arrays : List Slot) → p.certificate ≡ Some c → is_spellable c ≡ true → list_all is_sized (records_of c) ≡ true
    → ReadsAs (flush_head Cert number list p ++ flat_map array_text arrays) (records_of c)
reads_flush number list p c arrays is spelled sized =
    let plan : List ℕ = plan_lines number list p.plan in
    let bound : List ℕ = bound_line (cost (normal_form list) p.plan) p.bound p.units in
    let first : Silent (plan ++ bound) = silent_join plan bound (plan_silent (length list) number (normal_form list) p.plan (map (block_cost (normal_form list)) p.plan)) (bound_line_silent (cost (normal_form list) p.plan) p.bound p.units) in
    let own : ReadsAs (certificate_lines p.certificate) (records_of c) =
    subst (λ o. ReadsAs (certificate_lines o) (records_of c)) (sym is) (reads_records (records_of c) (and_parts _ (list_all is_tree_record c.tree) spelled).0 sized) in
    let head : ReadsAs ((plan ++ bound) ++ certificate_lines p.certificate) (records_of c) = reads_join (plan ++ bound) (certificate_lines p.certificate) [] (records_of c) (reads_silent (plan ++ bound) first) own in
    subst (ReadsAs (((plan ++ bound) ++ certificate_lines p.certificate) ++ flat_map array_text arrays)) (append-nil (records_of c))
    (reads_join ((plan ++ bound) ++ certificate_lines p.certificate) (flat_map array_text arrays) (records_of c) [] head (reads_silent (flat_map array_text arrays) (arrays_silent arrays)))

-- ---- the numbers of its certificate

place_few : (plan : List (List ℕ)) (f : ℕ) → place plan f ≤ length plan
place_few [] f = omega arith
place_few (block ∷ blocks) f =
    let rest : place blocks f ≤ length blocks = place_few blocks f in
    elim (has block f) as (λ b. cond b 0 (suc (place blocks f)) ≤ suc (length blocks)) [ true ↦ omega arith | false ↦ omega arith ]

places_small : (plan : List (List ℕ)) (fs : List ℕ) → length plan ≤ 256 → list_all (λ n. nat_lt n (2 ^ 32)) (map (λ f. suc (place plan f)) fs) ≡ true
places_small plan [] h = refl
places_small plan (f ∷ fs) h =
    let few = place_few plan f in
    and_from (nat_lt (suc (place plan f)) (2 ^ 32)) _ (lt-ltb (suc (place plan f)) (2 ^ 32) (omega arith)) (places_small plan fs h)

total_sum : (w : List ℕ → ℕ) (xs : List (List ℕ)) → total w xs ≡ sum (map w xs)
total_sum w xs = by_each xs ∙ sym (sum-map w xs)
  where
    by_each : (ys : List (List ℕ)) → total w ys ≡ sum_by w ys
    by_each [] = refl
    by_each (y ∷ ys) = ap (λ n. w y + n) (by_each ys) ∙ sym (sum_by-cons w y ys)

first_of_both : (p q : Record → Bool) (rs : List Record) → list_all (λ r. p r && q r) rs ≡ true → list_all p rs ≡ true
first_of_both p q [] h = refl
first_of_both p q (r ∷ rs) h =
    let t = and_parts (p r && q r) (list_all (λ r. p r && q r) rs) h in
    and_from (p r) (list_all p rs) (and_parts (p r) (q r) t.0).0 (first_of_both p q rs t.1)

-- a list as it is planned
record Small (list : List Op) : Type 0 where
  formed : is_formed list ≡ true
  few : length list ≤ 256

numbers_small : (list : List Op) (number bound : ℕ) (plan : List (List ℕ)) (c : Certificate) → Small list → is_legal list plan ≡ true → bound ≤ cost list plan → number < 2 ^ 32 → IsCertificate list number plan (cost list plan) bound c
    → list_all is_sized (records_of c) ≡ true
numbers_small list number bound plan c s legal below few i =
    let count : length list ≤ 256 = s.few in
    let blocks : length plan ≤ length list = few_blocks list plan legal in
    let price : sum (map (block_cost list) plan) < 2 ^ 40 = small_costs list plan s.formed legal s.few in
    let same : cost list plan ≡ sum (map (block_cost list) plan) = total_sum (block_cost list) plan in
    let number_is : c.number ≡ number = i.number_is in
    let count_is : c.count ≡ length list = i.count_is in
    let version_is : c.version ≡ 2 = i.version_is in
    let cost_is : c.cost ≡ cost list plan = i.cost_is in
    let bound_is : c.bound ≡ bound = i.bound_is in
    let spelled = and_parts (list_all (λ r. is_spelled r && is_short r) (records_of c)) (list_all is_tree_record c.tree) i.spellable in
    let all = first_of_both is_spelled is_short (records_of c) spelled.0 in
    let a1 = (and_parts (is_spelled (Head c.number c.count c.version)) _ all).1 in
    let a2 = (and_parts (is_spelled (Places c.places)) _ a1).1 in
    let a3 = (and_parts (is_spelled (Priced c.cost)) _ a2).1 in
    let a4 = (and_parts (is_spelled (Bounded c.bound)) (list_all is_spelled (c.tree ++ End ∷ [])) a3).1 in
    let head : is_sized (Head c.number c.count c.version) ≡ true =
    and_from (nat_lt c.number (2 ^ 32)) _ (lt-ltb c.number (2 ^ 32) (omega arith))
    (and_from (nat_lt c.count (2 ^ 32)) _ (lt-ltb c.count (2 ^ 32) (omega arith)) (and_from (nat_lt c.version (2 ^ 32)) true (lt-ltb c.version (2 ^ 32) (omega arith)) refl)) in
    let places : is_sized (Places c.places) ≡ true = ap (list_all (λ n. nat_lt n (2 ^ 32))) i.places_are ∙ places_small plan (range_with_len 1 (length list)) (omega arith) in
    and_from (is_sized (Head c.number c.count c.version)) _ head
    (and_from (is_sized (Places c.places)) _ places
    (and_from (is_sized (Priced c.cost)) _ (lt-ltb c.cost (2 ^ 64) (omega arith))
    (and_from (is_sized (Bounded c.bound)) (list_all is_sized (c.tree ++ End ∷ [])) (lt-ltb c.bound (2 ^ 64) (omega arith)) (certificate_sized (problem_of list) s.few c i.accepted a4))))

-- ---- flush after flush

-- a text is read, and all certificates in it are accepted for the lists from this number on
record Agreed (text : List ℕ) (line room : ℕ) (lists : List (List Op)) (bounds : List (ℕ × ℕ)) (number : ℕ) (wanted : List (ℕ × ℕ)) : Type 0 where
  pub reading : Reading
  pub read : IsRead (marked line room (lines text)) reading
  pub verdict : verdict_from (map problem_of lists) bounds number reading ≡ Accepted wanted

-- the certificate of a flush is answered, and then those behind it
answered : (list : List Op) (lists : List (List Op)) (number price bound : ℕ) (plan : List (List ℕ)) (c : Certificate) (front : List (ℕ × Record)) (rest : Reading) (bounds : List (ℕ × ℕ)) → Small list → IsCertificate list number plan price bound c
    → records front ≡ records_of c → verdict_from (map problem_of (list ∷ lists)) bounds number (onto front rest) ≡ verdict_from (map problem_of lists) (bounds ++ (price, bound) ∷ []) (suc number) rest
answered list lists number price bound plan c front rest bounds s i are =
    let yes : answer (problem_of list) number AtHead (onto front rest) ≡ Yes c.places c.cost c.bound rest =
    subst (λ n. answer (problem_of list) n AtHead (onto front rest) ≡ Yes c.places c.cost c.bound rest) i.number_is (certificate_moves (problem_of list) s.few c i.accepted front are rest) in
    ap (λ a. with_answer a bounds number (λ more others. verdict_from (map problem_of lists) more (suc number) others)) yes
    ∙ ap (λ n. verdict_from (map problem_of lists) (bounds ++ (n, c.bound) ∷ []) (suc number) rest) i.cost_is ∙ ap (λ n. verdict_from (map problem_of lists) (bounds ++ (price, n) ∷ []) (suc number) rest) i.bound_is

small_form : (list : List Op) → is_part (Flush list) ≡ true → Small (normal_form list)
small_form list h =
    let k : Kept list (normal_form list) = normal_kept list (both_left (is_formed list) (is_few list) h) in
    let most : length list ≤ 256 = leb-true (length list) 256 (both_right (nat_le 1 (length list)) (nat_le (length list) 256) (both_right (is_formed list) (is_few list) h)) in
    record { formed = k.formed; few = (let few = k.few in omega arith) }

-- behind a text that is read as no record
behind_silent : (own rest : List ℕ) (line room : ℕ) (lists : List (List Op)) (bounds : List (ℕ × ℕ)) (number : ℕ) (wanted : List (ℕ × ℕ)) → Silent own → length (own ++ rest) ≤ room
    → ((l k : ℕ) → length rest ≤ k → Agreed rest l k lists bounds number wanted) → Agreed (own ++ rest) line room lists bounds number wanted
behind_silent own rest line room lists bounds number wanted s w f =
    let long : length (own ++ rest) ≡ length own + length rest = length-append own rest in
    let on : ReadOn own [] line room rest = reads_silent own s line room rest (omega arith) in
    let a : Agreed rest on.next (room - length own) lists bounds number wanted = f on.next (room - length own) (omega arith) in
    record {
      reading = onto on.front a.reading;
      read = on.goes a.reading a.read;
      verdict = ap (verdict_from (map problem_of lists) bounds number) (no_record on.front on.are a.reading) ∙ a.verdict;
    }
  where
    no_record : (front : List (ℕ × Record)) → records front ≡ [] → (r : Reading) → onto front r ≡ r
    no_record [] e r = refl
    no_record (x ∷ front) e r = absurd (cc)

-- behind the text of a flush
behind_flush : (own rest : List ℕ) (line room : ℕ) (list : List Op) (lists : List (List Op)) (bounds : List (ℕ × ℕ)) (number price bound : ℕ) (plan : List (List ℕ)) (wanted : List (ℕ × ℕ)) (c : Certificate) → Small list
    → IsCertificate list number plan price bound c → ReadsAs own (records_of c) → length (own ++ rest) ≤ room
    → ((l k : ℕ) → length rest ≤ k → Agreed rest l k lists (bounds ++ (price, bound) ∷ []) (suc number) wanted) → Agreed (own ++ rest) line room (list ∷ lists) bounds number wanted
behind_flush own rest line room list lists bounds number price bound plan wanted c s i reads w f =
    let long : length (own ++ rest) ≡ length own + length rest = length-append own rest in
    let on : ReadOn own (records_of c) line room rest = reads line room rest (omega arith) in
    let a : Agreed rest on.next (room - length own) lists (bounds ++ (price, bound) ∷ []) (suc number) wanted = f on.next (room - length own) (omega arith) in
    record {
      reading = onto on.front a.reading;
      read = on.goes a.reading a.read;
      verdict = answered list lists number price bound plan c on.front a.reading bounds s i on.are ∙ a.verdict;
    }

agreed_parts : (choice : Choice) → choice.fuse ≡ Best → choice.listing ≡ Cert → (parts : List Part) (number : ℕ) (planned : PlannedParts choice number parts) (arrays : List Slot) (line room : ℕ) (bounds : List (ℕ × ℕ)) → list_all is_part parts ≡ true
    → number + length parts < 2 ^ 32 → length (flat_map segment_text (segments_from choice number parts planned arrays)) ≤ room
    → Agreed (flat_map segment_text (segments_from choice number parts planned arrays)) line room (lists_of parts) bounds number (bounds ++ bounds_in choice number parts planned)
agreed_parts choice best cert [] number planned arrays line room bounds h few w = record { reading = Ends line; read = refl; verdict = ap Accepted (sym (append-nil bounds)) }
agreed_parts choice best cert (Flush list ∷ parts) number planned arrays line room bounds h few w =
    let here = both_left (is_part (Flush list)) (list_all is_part parts) h in
    let there = both_right (is_part (Flush list)) (list_all is_part parts) h in
    let p : Planned = planned.0.0 in
    let is = planned.0.1 in
    let own_arrays : List Slot = take (slots_in (Flush list)) arrays in
    let others : List Slot = drop (slots_in (Flush list)) arrays in
    let s : Searched (normal_form list) number choice.budget p = subst (λ f. IsChosen f (normal_form list) number choice.budget p) best is.chosen in
    let price : ℕ = cost (normal_form list) p.plan in
    let small : Small (normal_form list) = small_form list here in
    let sized : list_all is_sized (records_of s.certificate) ≡ true = numbers_small (normal_form list) number s.bound p.plan s.certificate small is.legal s.best.below (omega arith) s.best.certificate in
    let reads : ReadsAs (flush_head choice.listing number list p ++ flat_map array_text own_arrays) (records_of s.certificate) =
    subst (λ l. ReadsAs (flush_head l number list p ++ flat_map array_text own_arrays) (records_of s.certificate)) (sym cert) (reads_flush number list p s.certificate own_arrays s.certificate_is s.best.certificate.spellable sized) in
    let rest : List ℕ = flat_map segment_text (segments_from choice (suc number) parts planned.1 others) in
    let wanted : (bounds ++ (price, s.bound) ∷ []) ++ bounds_in choice (suc number) parts planned.1 ≡ bounds ++ bounds_in choice number (Flush list ∷ parts) planned =
    append_assoc bounds ((price, s.bound) ∷ []) (bounds_in choice (suc number) parts planned.1) ∙ ap (λ (o : Option ℕ). bounds ++ (map (λ b. (price, b)) (option_to_list o) ++ bounds_in choice (suc number) parts planned.1)) (sym s.bound_is) in
    subst (Agreed ((flush_head choice.listing number list p ++ flat_map array_text own_arrays) ++ rest) line room (normal_form list ∷ lists_of parts) bounds number) wanted
    (behind_flush (flush_head choice.listing number list p ++ flat_map array_text own_arrays) rest line room (normal_form list) (lists_of parts) bounds number price s.bound p.plan
    ((bounds ++ (price, s.bound) ∷ []) ++ bounds_in choice (suc number) parts planned.1) s.certificate small s.best.certificate reads w
    (λ l k fits. agreed_parts choice best cert parts (suc number) planned.1 others l k (bounds ++ (price, s.bound) ∷ []) there (omega arith) fits))
agreed_parts choice best cert (Gather g ∷ parts) number planned arrays line room bounds h few w =
    let there = both_right (is_part (Gather g)) (list_all is_part parts) h in
    let own_arrays : List Slot = take (slots_in (Gather g)) arrays in
    let others : List Slot = drop (slots_in (Gather g)) arrays in
    behind_silent (flat_map array_text own_arrays) (flat_map segment_text (segments_from choice number parts planned.1 others)) line room (lists_of parts) bounds number (bounds ++ bounds_in choice number parts planned.1) (arrays_silent own_arrays) w
    (λ l k fits. agreed_parts choice best cert parts number planned.1 others l k bounds there (omega arith) fits)
agreed_parts choice best cert (Scatter g ∷ parts) number planned arrays line room bounds h few w =
    let there = both_right (is_part (Scatter g)) (list_all is_part parts) h in
    let own_arrays : List Slot = take (slots_in (Scatter g)) arrays in
    let others : List Slot = drop (slots_in (Scatter g)) arrays in
    behind_silent (flat_map array_text own_arrays) (flat_map segment_text (segments_from choice number parts planned.1 others)) line room (lists_of parts) bounds number (bounds ++ bounds_in choice number parts planned.1) (arrays_silent own_arrays) w
    (λ l k fits. agreed_parts choice best cert parts number planned.1 others l k bounds there (omega arith) fits)

-- ---- a script is accepted in one way

same_steps : (text : List ℕ) (a b : List Step) → IsAccepted text a → IsAccepted text b → a ≡ b
same_steps text a b p q =
    let e : p.statements ≡ q.statements = one_script (tokens text) p.statements q.statements p.reads.script q.reads.script in
    let f = sym p.accepts ∙ ap outcome e ∙ q.accepts in cc

not_refused : (text : List ℕ) (steps : List Step) (r : Refusal) → IsAccepted text steps → Refuses text r → ⊥
not_refused text steps r a (length_ long) = let short = a.short in omega arith
not_refused text steps r a (grammar short why) = not_both (tokens text) a.statements r a.reads why
not_refused text steps r a (meaning statements short reads none) =
    let e : a.statements ≡ statements = one_script (tokens text) a.statements statements a.reads.script reads.script in
    let f = sym a.accepts ∙ ap outcome e ∙ none in absurd (cc)

-- ---- the command

-- the verdict on what a whole run wrote
whole_verdict : (choice : Choice) (script : List ℕ) → choice.fuse ≡ Best → choice.listing ≡ Cert → (run : IsRun choice script) → IsWhole run → length (run_text run) ≤ most_proof → (given : Given) (check : IsCheck given) → given.script ≡ script
    → given.proof ≡ Some (run_text run) → check_verdict check ≡ Accepted (run_bounds run)
whole_verdict choice script best cert run whole w given check is_script is_proof =
    let steps : run.steps ≡ check.steps = same_steps script run.steps check.steps run.accepted (subst (λ t. IsAccepted t check.steps) is_script check.accepted) in
    let a = run.accepted in
    let parts : run.parts ≡ parts_of run.steps = sym (append-nil run.parts) ∙ ap (λ (ps : List Part). run.parts ++ ps) (sym whole.ends) ∙ run.are in
    let formed : list_all is_part run.parts ≡ true = ap (list_all is_part) parts ∙ all_parts run.steps (recorded a.statements run.steps a.accepts) in
    let few = (few_parts (length script) a.statements run.steps a.short (script_weighs script a.statements a.reads.script) a.accepts).1 in
    let long = ap length parts in
    let agreed : Agreed (run_text run) 1 most_proof (lists_of run.parts) [] 1 (run_bounds run) = agreed_parts choice best cert run.parts 1 run.planned (eager_arrays run.steps) 1 most_proof [] formed (omega arith) w in
    let read : IsRead (marked 1 most_proof (lines (run_text run))) check.reading = told given.proof is_proof check.read in
    let same : check.reading ≡ agreed.reading = read_once (marked 1 most_proof (lines (run_text run))) check.reading agreed.reading read agreed.read in
    ap (λ ss. checks (parts_of ss) check.reading) (sym steps) ∙ ap (checks (parts_of run.steps)) same ∙ ap (λ (ps : List Part). checks ps agreed.reading) (sym parts) ∙ agreed.verdict
  where
    told : (proof : Option (List ℕ)) → proof ≡ Some (run_text run) → IsProof proof check.reading → IsRead (marked 1 most_proof (lines (run_text run))) check.reading
    told proof e r = subst (λ o. IsProof o check.reading) e r

accepted_lines : (choice : Choice) (script output : List ℕ) → choice.fuse ≡ Best → choice.listing ≡ Cert → (run : IsRun choice script) → IsWhole run → output ≡ run_text run → length output ≤ most_proof → (status : ℕ) (old new : Option (List ℕ)) (given : Given)
    → given.script ≡ script → given.proof ≡ Some output → (a : Reply given (Some Check)) → answer_status a ≡ status → Appends old new (answer_text a) → AcceptsRun choice script output status old new
accepted_lines choice script output best cert run whole is w status old new given is_script is_proof (checked check) e wrote =
    let long : length (run_text run) ≤ most_proof = subst (λ t. length t ≤ most_proof) is w in
    let v = whole_verdict choice script best cert run whole long given check is_script (is_proof ∙ ap Some is) in
    record { run = run; whole = whole; output_is = is; accepted = sym e ∙ ap verdict_status v; wrote = subst (Appends old new) (ap verdict_text v) wrote }
accepted_lines choice script output best cert run whole is w status old new given is_script is_proof (refused {r = r} why) e wrote =
    absurd (not_refused script run.steps r run.accepted (subst (λ t. Refuses t r) is_script why))

checks_output : (choice : Choice) (script output : List ℕ) → choice.fuse ≡ Best → choice.listing ≡ Cert → (first : Given) (b : Reply first (Some (Run choice))) → first.script ≡ script → answer_status b ≡ 0 → Whole b → output ≡ answer_text b → length output ≤ most_proof
    → (status : ℕ) (old new : Option (List ℕ)) (given : Given) → given.script ≡ script → given.proof ≡ Some output → (a : Reply given (Some Check)) → answer_status a ≡ status → Appends old new (answer_text a) → AcceptsRun choice script output status old new
checks_output choice script output best cert first (done run) is e0 whole text w status old new given is_script is_proof a e wrote =
    subst (λ t. AcceptsRun choice t output status old new) is
    (accepted_lines choice first.script output best cert run whole text w status old new given (is_script ∙ sym is) is_proof a e wrote)
checks_output choice script output best cert first (refused why) is e0 whole text w status old new given is_script is_proof a e wrote = absurd (omega arith)

pub runs_check : RunsCheck
runs_check choice script output proof store after best cert s w status old new kept now final t =
    let d = s.2.whole refl in
    let c = t.2.whole final in
    checks_output choice script output best cert s.0 d.answer s.1.0 d.status_is d.ends d.wrote w status old new t.0 t.1.0 t.1.1 c.answer c.status_is c.wrote
