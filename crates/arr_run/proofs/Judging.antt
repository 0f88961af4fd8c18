-- A proof that is checked list by list.
use Rattle.std.proofs.Common.{◌≡◌, ◌⊎◌, inl, inr, ⊎_elim, length-append, ℕ, suc, ◌+◌, ◌<◌, ◌≤◌, List, [], ◌∷◌, ◌++◌, length, map, take, drop, get_or, refl, ap, sym, ◌∙◌, subst, arith, Option, Some, None, Err, append-nil, append_assoc, take_all}
use Rattle.std.proofs.KnownBytes.{Appends-nil, Appends-trans}
use Rattle.std.proofs.lemmas.List.{drop_more, take-append-drop, take-append-le}
use Rattle.std.specs.Io.KnownBytes.{Appends, prepend_known}
use Rattle.arr_io.specs.declared.source.Source.{Ghosts}
use Rattle.arr_cert.specs.declared.reader.Reader.{Reader}
use Rattle.arr_cert.specs.Proofs.{IsFresh, unread}
use Rattle.arr_io.specs.Causes.{Rose}
use Rattle.arr_io.specs.Taken.{AppendsPart}
use Rattle.arr_ops.specs.declared.op.Op.{Op}
use Rattle.arr_record.specs.declared.part.Part.{Part}
use Rattle.arr_record.specs.declared.part.Part.TheVariants.{Flush}
use Rattle.arr_rewrite.specs.NormalForm.{normal_form}
use Rattle.arr_law.specs.declared.record.Record.{Record}
use Rattle.arr_law.specs.declared.reject.Reject.{Reject}
use Rattle.arr_law.specs.Problem.{Problem}
use Rattle.arr_law.specs.ProblemOf.{problem_of}
use Rattle.arr_law.specs.Verdict.{Answer, Yes, No, AtHead, Reading, Reads, Verdict, Accepted, Rejected, answer, last_verdict, left_fault, verdict_from, with_answer}
use Rattle.arr_cert.specs.Reading.{IsRead, Unread, lines, marked, told}
use Rattle.arr_cert.proofs.Decided.{read_always}
use Rattle.arr_check.specs.Judged.{Between, Fails, IsReadAs, Left, Passes, onto, where_told}
use Rattle.arr_run.specs.declared.checking.Stop.{Stop}
use Rattle.arr_run.specs.declared.checking.Stop.TheVariants as stop
use Rattle.arr_run.specs.Checked.{IsProof, accepted_line, bounds_of, checks, flush_line, flush_lines, last_line, lists_of, rejected_line, verdict_status}
use Rattle.arr_run.specs.Checking.{Accepting, Checking, Failing, Judged, Judges, JudgesBy, StopsAt, Stopping}
use Rattle.arr_run.specs.Answers.{Blames}
use Rattle.arr_run.specs.Parts.{AppendsFront, Ended}
use Rattle.arr_run.proofs.Writes.{front_of_second, part_of_first, part_of_second}

-- ---- what was read

pub onto_more : (front more : List (ℕ × Record)) (rest : Reading) → onto (front ++ more) rest ≡ onto front (onto more rest)
onto_more [] more rest = refl
onto_more (x ∷ front) more rest = ap (Reads x.0 x.1) (onto_more front more rest)

through : (xs ys : Option (List ℕ)) (l k m n : ℕ) (front : List (ℕ × Record)) (rest : Reading)
    → told xs ys (λ os ns. (r : Reading) → IsRead (marked m n (lines ns)) r → IsRead (marked l k (lines os)) (onto front r)) → where_told ys (λ bytes. IsRead (marked m n (lines bytes)) rest) → where_told xs (λ bytes. IsRead (marked l k (lines bytes)) (onto front rest))
through None ys l k m n front rest f r = tt
through (Some xs) None l k m n front rest f r = absurd f
through (Some xs) (Some ys) l k m n front rest f r = f rest r

-- what is left, behind what was read
behind_front : (front : List (ℕ × Record)) (u v : Unread) (rest : Reading) → Between front u v → IsReadAs v rest → IsReadAs u (onto front rest)
behind_front front u v rest f r = through u.bytes v.bytes u.line u.room v.line v.room front rest f r

joined : (xs ys zs : Option (List ℕ)) (l k m n i j : ℕ) (front more : List (ℕ × Record))
    → told xs ys (λ os ns. (r : Reading) → IsRead (marked m n (lines ns)) r → IsRead (marked l k (lines os)) (onto front r))
    → told ys zs (λ os ns. (r : Reading) → IsRead (marked i j (lines ns)) r → IsRead (marked m n (lines os)) (onto more r))
    → told xs zs (λ os ns. (r : Reading) → IsRead (marked i j (lines ns)) r → IsRead (marked l k (lines os)) (onto (front ++ more) r))
joined None ys zs l k m n i j front more f g = tt
joined (Some xs) None zs l k m n i j front more f g = absurd f
joined (Some xs) (Some ys) None l k m n i j front more f g = absurd g
joined (Some xs) (Some ys) (Some zs) l k m n i j front more f g = λ rest r. subst (IsRead (marked l k (lines xs))) (sym (onto_more front more rest)) (f (onto more rest) (g rest r))

front_more : (front more : List (ℕ × Record)) (u v w : Unread) → Between front u v → Between more v w → Between (front ++ more) u w
front_more front more u v w f g = joined u.bytes v.bytes w.bytes u.line u.room v.line v.room w.line w.room front more f g

-- what is unread is read as something
something : (xs : Option (List ℕ)) (l k : ℕ) → (rest : Reading) × where_told xs (λ bytes. IsRead (marked l k (lines bytes)) rest)
something None l k = (onto [] (onto [] (read_always (marked l k [])).0), tt)
something (Some xs) l k = read_always (marked l k (lines xs))

-- nothing was read
pub nothing_read : (u : Unread) → Between [] u u
nothing_read u = all u.bytes u.line u.room
  where
    all : (xs : Option (List ℕ)) (l k : ℕ) → told xs xs (λ os ns. (r : Reading) → IsRead (marked l k (lines ns)) r → IsRead (marked l k (lines os)) r)
    all None l k = tt
    all (Some xs) l k = λ r h. h

-- ---- the bounds so far begin those of the verdict

record Extends (v : Verdict) (bounds : List (ℕ × ℕ)) : Type 0 where
  pub more : List (ℕ × ℕ)
  pub is : bounds_of v ≡ bounds ++ more

ends : (bounds : List (ℕ × ℕ)) (n : ℕ) (fault : Option (ℕ × Reject)) → Extends (last_verdict bounds n fault) bounds
ends bounds n None = record { more = []; is = sym (append-nil bounds) }
ends bounds n (Some fault) = record { more = []; is = sym (append-nil bounds) }

goes_on : (next : List (ℕ × ℕ) → Reading → Verdict) (bounds : List (ℕ × ℕ)) (n : ℕ) → ((more : List (ℕ × ℕ)) (rest : Reading) → Extends (next more rest) more) → (a : Answer) → Extends (with_answer a bounds n next) bounds
goes_on next bounds n h (Yes places c b rest) = let e = h (bounds ++ (c, b) ∷ []) rest in record { more = (c, b) ∷ e.more; is = e.is ∙ append_assoc bounds ((c, b) ∷ []) e.more }
goes_on next bounds n h (No line fault) = record { more = []; is = sym (append-nil bounds) }

extends : (ps : List Problem) (bounds : List (ℕ × ℕ)) (n : ℕ) (reading : Reading) → Extends (verdict_from ps bounds n reading) bounds
extends [] bounds n reading = ends bounds n (left_fault reading)
extends (p ∷ ps) bounds n reading = goes_on (λ more rest. verdict_from ps more (suc n) rest) bounds n (λ more rest. extends ps more (suc n) rest) (answer p n AtHead reading)

-- ---- what was written

lines_more : (n : ℕ) (xs ys : List (ℕ × ℕ)) → flush_lines n (xs ++ ys) ≡ flush_lines n xs ++ flush_lines (n + length xs) ys
lines_more n [] ys = ap (λ k. flush_lines k ys) (omega arith)
lines_more n (x ∷ xs) ys =
    ap (λ t. flush_line n x ++ t) (lines_more (suc n) xs ys ∙ ap (λ k. flush_lines (suc n) xs ++ flush_lines k ys) (omega arith)) ∙ sym (append_assoc (flush_line n x) (flush_lines (suc n) xs) (flush_lines (n + length (x ∷ xs)) ys))

one_more : (number : ℕ) (bounds : List (ℕ × ℕ)) (x : ℕ × ℕ) → number ≡ suc (length bounds) → flush_lines 1 (bounds ++ x ∷ []) ≡ flush_lines 1 bounds ++ flush_line number x
one_more number bounds x e =
    lines_more 1 bounds (x ∷ []) ∙ ap (λ t. flush_lines 1 bounds ++ t) (append-nil (flush_line (1 + length bounds) x) ∙ ap (λ k. flush_line k x) (omega arith))

wrote_none : (a b c : Option (List ℕ)) (text : List ℕ) → Appends a b text → Appends b c [] → Appends a c text
wrote_none a b c text f g = subst (Appends a c) (append-nil text) (Appends-trans a b c text [] f g)

-- ---- one list more

pub accepted_list : (parts left : List Part) (list : List Op) (number cost bound : ℕ) (u v w : Unread) (a b c : Option (List ℕ)) → Checking parts (Flush list ∷ left) number u v a b
    → Passes (problem_of (normal_form list)) number v w cost bound → Appends b c (flush_line number (cost, bound)) → Checking parts left (suc number) u w a c
accepted_list parts left list number cost bound u v w a b c s p t = record {
  front = s.front ++ p.front;
  bounds = s.bounds ++ (cost, bound) ∷ [];
  count = (let l = length_more s.bounds (cost, bound) in let e = s.count in omega arith);
  reads = front_more s.front p.front u v w s.reads p.read;
  judged = λ rest. ap (checks parts) (onto_more s.front p.front rest) ∙ s.judged (onto p.front rest)
      ∙ ap (λ x. with_answer x s.bounds number (λ more others. verdict_from (map problem_of (lists_of left)) more (suc number) others)) (p.answered rest);
  wrote = subst (Appends a c) (sym (one_more number s.bounds (cost, bound) s.count)) (Appends-trans a b c (flush_lines 1 s.bounds) (flush_line number (cost, bound)) s.wrote t);
}
  where
    length_more : (xs : List (ℕ × ℕ)) (x : ℕ × ℕ) → length (xs ++ x ∷ []) ≡ suc (length xs)
    length_more [] x = refl
    length_more (y ∷ ys) x = ap suc (length_more ys x)

-- ---- checking stops

-- what is left of it, read as something
record Rest (parts : List Part) (bounds : List (ℕ × ℕ)) (u : Unread) : Type 0 where
  pub reading : Reading
  pub read : IsReadAs u reading
  pub extends : Extends (checks parts reading) bounds

rest_of : (parts left : List Part) (number : ℕ) (u v : Unread) (a b : Option (List ℕ)) → (s : Checking parts left number u v a b) → Rest parts s.bounds u
rest_of parts left number u v a b s =
    let some = something v.bytes v.line v.room in
    let e = extends (map problem_of (lists_of left)) s.bounds number some.0 in
    record {
      reading = onto s.front some.0;
      read = behind_front s.front u v some.0 s.reads some.1;
      extends = record { more = e.more; is = ap bounds_of (s.judged some.0) ∙ e.is };
    }

-- the lines of the flushes before are whole
stalled : (parts left : List Part) (number : ℕ) (u v : Unread) (a b c : Option (List ℕ)) (s : Checking parts left number u v a b) → Appends b c []
    → (r : Rest parts s.bounds u) → (k : ℕ) × Appends a c (flush_lines 1 (take k (bounds_of (checks parts r.reading))))
stalled parts left number u v a b c s t r =
    let few = take-append-le (length s.bounds) s.bounds r.extends.more (omega arith) ∙ take_all (length s.bounds) s.bounds (omega arith) in
    (length s.bounds, subst (λ bs. Appends a c (flush_lines 1 bs)) (sym (ap (take (length s.bounds)) r.extends.is ∙ few)) (wrote_none a b c (flush_lines 1 s.bounds) s.wrote t))

pub stopped_read : (parts left : List Part) (number : ℕ) (u v : Unread) (a b c : Option (List ℕ)) → Checking parts left number u v a b → Appends b c [] → Stopping parts u a c stop.ReadFault
stopped_read parts left number u v a b c s t = let r = rest_of parts left number u v a b s in record { reading = r.reading; read = r.read; stops = stalled parts left number u v a b c s t r }

pub stopped_memory : (parts left : List Part) (number : ℕ) (u v : Unread) (a b c : Option (List ℕ)) → Checking parts left number u v a b → Appends b c [] → Stopping parts u a c stop.NoMemory
stopped_memory parts left number u v a b c s t = let r = rest_of parts left number u v a b s in record { reading = r.reading; read = r.read; stops = stalled parts left number u v a b c s t r }

-- a verdict that rejects, told by its own bounds
own_bounds : (v : Verdict) (bounds : List (ℕ × ℕ)) (flush line : ℕ) (kind : Reject) (a b : Option (List ℕ)) → v ≡ Rejected bounds flush line kind → Appends a b (flush_lines 1 bounds) → StopsAt v a b (stop.Rejected flush line kind)
own_bounds v bounds flush line kind a b e t = (e ∙ ap (λ bs. Rejected bs flush line kind) (sym (ap bounds_of e)), subst (λ bs. Appends a b (flush_lines 1 bs)) (sym (ap bounds_of e)) t)

rejected_list : (parts left : List Part) (list : List Op) (number line : ℕ) (kind : Reject) (u v : Unread) (a b c : Option (List ℕ)) → Checking parts (Flush list ∷ left) number u v a b
    → Fails (problem_of (normal_form list)) number v AtHead line kind → Appends b c [] → Stopping parts u a c (stop.Rejected number line kind)
rejected_list parts left list number line kind u v a b c s p t =
    let is : checks parts (onto s.front p.whole) ≡ Rejected s.bounds number line kind =
    s.judged p.whole ∙ ap (λ x. with_answer x s.bounds number (λ more others. verdict_from (map problem_of (lists_of left)) more (suc number) others)) p.answered in
    record {
      reading = onto s.front p.whole;
      read = behind_front s.front u v p.whole s.reads p.read;
      stops = own_bounds (checks parts (onto s.front p.whole)) s.bounds number line kind a c is (wrote_none a b c (flush_lines 1 s.bounds) s.wrote t);
    }

cut_list : (parts left : List Part) (list : List Op) (number cost bound : ℕ) (u v w : Unread) (a b c : Option (List ℕ)) → Checking parts (Flush list ∷ left) number u v a b
    → Passes (problem_of (normal_form list)) number v w cost bound → AppendsPart b c (flush_line number (cost, bound)) → Stopping parts u a c stop.WriteFault
cut_list parts left list number cost bound u v w a b c s p t =
    let some = something w.bytes w.line w.room in
    let more = s.bounds ++ (cost, bound) ∷ [] in
    let reading = onto s.front (onto p.front some.0) in
    let e = extends (map problem_of (lists_of left)) more (suc number) some.0 in
    let is : bounds_of (checks parts reading) ≡ more ++ e.more = ap bounds_of (s.judged (onto p.front some.0)
    ∙ ap (λ x. with_answer x s.bounds number (λ ms others. verdict_from (map problem_of (lists_of left)) ms (suc number) others)) (p.answered some.0)) ∙ e.is in
    let text : flush_lines 1 (bounds_of (checks parts reading)) ≡ (flush_lines 1 s.bounds ++ flush_line number (cost, bound)) ++ flush_lines (1 + length more) e.more =
    ap (flush_lines 1) is ∙ lines_more 1 more e.more ∙ ap (λ h. h ++ flush_lines (1 + length more) e.more) (one_more number s.bounds (cost, bound) s.count) in
    record {
      reading = reading;
      read = behind_front s.front u v (onto p.front some.0) s.reads (behind_front p.front v w some.0 p.read some.1);
      stops = subst (AppendsPart a c) (sym text) (part_of_first a c (flush_lines 1 s.bounds ++ flush_line number (cost, bound)) (flush_lines (1 + length more) e.more)
          (part_of_second a b c (flush_lines 1 s.bounds) (flush_line number (cost, bound)) s.wrote t));
    }

-- the certificate of the next list was not judged right, or its line not written
pub stopped_list : (parts left : List Part) (list : List Op) (number : ℕ) (u v w : Unread) (a b c : Option (List ℕ)) (e : Stop) → Checking parts (Flush list ∷ left) number u v a b
    → Judged (normal_form list) number v w b c (Err e) → Stopping parts u a c e
stopped_list parts left list number u v w a b c (stop.Rejected flush line kind) s j =
    subst (λ n. Stopping parts u a c (stop.Rejected n line kind)) (sym j.1) (rejected_list parts left list number line kind u v a b c s j.0 j.2)
stopped_list parts left list number u v w a b c stop.ReadFault s j = stopped_read parts (Flush list ∷ left) number u v a b c s j
stopped_list parts left list number u v w a b c stop.WriteFault s j = cut_list parts left list number j.0 j.1 u v w a b c s j.2 j.3
stopped_list parts left list number u v w a b c stop.NoMemory s j = stopped_memory parts (Flush list ∷ left) number u v a b c s j

-- ---- the end

proof_of : (u : Unread) (proof : Option (List ℕ)) (reading : Reading) → u.bytes ≡ proof → u.line ≡ 1 → u.room ≡ 67108864 → IsReadAs u reading → IsProof proof reading
proof_of u proof reading bytes line room r =
    subst (λ n. where_told proof (λ bytes. IsRead (marked 1 n (lines bytes)) reading)) room (subst (λ l. where_told proof (λ bytes. IsRead (marked l u.room (lines bytes)) reading)) line (subst (λ xs. where_told xs (λ bytes. IsRead (marked u.line u.room (lines bytes)) reading)) bytes r))

-- Nothing of a proof was read yet.
pub record Begins (u : Unread) (proof : Option (List ℕ)) : Type 0 where
  pub bytes : u.bytes ≡ proof
  pub line : u.line ≡ 1
  pub room : u.room ≡ 67108864

pub failing : (parts : List Part) (u : Unread) (proof a b : Option (List ℕ)) (e : Stop) → Begins u proof → Stopping parts u a b e → Failing parts proof a b e
failing parts u proof a b e f s = record { reading = s.reading; read = proof_of u proof s.reading f.bytes f.line f.room s.read; stops = s.stops }

pub accepting : (parts : List Part) (count : ℕ) (u v : Unread) (proof a b : Option (List ℕ)) → Begins u proof → Checking parts [] (suc count) u v a b → Left v None → Accepting parts proof a b count
accepting parts count u v proof a b f s l =
    let reading = onto s.front l.whole in
    let is : checks parts reading ≡ Accepted s.bounds = s.judged l.whole ∙ ap (last_verdict s.bounds (suc count)) l.answered in
    let own : bounds_of (checks parts reading) ≡ s.bounds = ap bounds_of is in
    record {
      reading = reading;
      read = proof_of u proof reading f.bytes f.line f.room (behind_front s.front u v l.whole s.reads l.read);
      accepts = is ∙ ap (λ bs. Accepted bs) (sym own);
      count_is = (let e = s.count in omega arith) ∙ ap length (sym own);
      wrote = subst (λ bs. Appends a b (flush_lines 1 bs)) (sym own) s.wrote;
    }

pub trailing : (parts : List Part) (count line : ℕ) (kind : Reject) (u v : Unread) (proof a b : Option (List ℕ)) → Begins u proof → Checking parts [] (suc count) u v a b → Left v (Some (line, kind))
    → Failing parts proof a b (stop.Rejected (suc count) line kind)
trailing parts count line kind u v proof a b f s l =
    let reading = onto s.front l.whole in
    let is : checks parts reading ≡ Rejected s.bounds (suc count) line kind = s.judged l.whole ∙ ap (last_verdict s.bounds (suc count)) l.answered in
    record {
      reading = reading;
      read = proof_of u proof reading f.bytes f.line f.room (behind_front s.front u v l.whole s.reads l.read);
      stops = own_bounds (checks parts reading) s.bounds (suc count) line kind a b is s.wrote;
    }

-- ---- the beginning

pub beginning : (parts : List Part) (u : Unread) (a : Option (List ℕ)) → Checking parts parts 1 u u a a
beginning parts u a = record { front = []; bounds = []; count = refl; reads = nothing_read u; judged = λ rest. refl; wrote = Appends-nil a }

-- no reader was made
pub failing_first : (parts : List Part) (proof a : Option (List ℕ)) → Failing parts proof a a stop.NoMemory
failing_first parts proof a =
    let u : Unread = record { bytes = proof; line = 1; room = 67108864 } in
    failing parts u proof a a stop.NoMemory (record { bytes = refl; line = refl; room = refl }) (stopped_memory parts parts 1 u u a a a (beginning parts u a) (Appends-nil a))

-- a new reader stands at the beginning of the proof
pub fresh : {S : Type 0} (g : Ghosts S) (reader : Reader) (source : S) → IsFresh reader → Begins (unread g reader source) (g.left source)
fresh g reader source f = record { bytes = ap (λ w. prepend_known w (g.left source)) f.nothing ∙ same (g.left source); line = f.first; room = f.room }
  where
    same : (left : Option (List ℕ)) → prepend_known [] left ≡ left
    same None = refl
    same (Some xs) = refl

-- the part at an index is the next
pub here : (parts : List Part) (i number : ℕ) (x : Part) (u v : Unread) (a b : Option (List ℕ)) → i < length parts → x ≡ get_or parts i x → Checking parts (drop i parts) number u v a b → Checking parts (x ∷ drop (i + 1) parts) number u v a b
here parts i number x u v a b h e s = subst (λ (l : List Part). Checking parts l number u v a b) (drop_more parts i x h ∙ ap (λ y. y ∷ drop (i + 1) parts) (sym e)) s

-- ---- what stopped

-- all lists were accepted, and the rest was not judged
pub failing_read : (parts : List Part) (count : ℕ) (u v : Unread) (proof a b : Option (List ℕ)) → Begins u proof → Checking parts [] count u v a b → Failing parts proof a b stop.ReadFault
failing_read parts count u v proof a b f s = failing parts u proof a b stop.ReadFault f (stopped_read parts [] count u v a b b s (Appends-nil b))

pub failing_memory : (parts : List Part) (count : ℕ) (u v : Unread) (proof a b : Option (List ℕ)) → Begins u proof → Checking parts [] count u v a b → Failing parts proof a b stop.NoMemory
failing_memory parts count u v proof a b f s = failing parts u proof a b stop.NoMemory f (stopped_memory parts [] count u v a b b s (Appends-nil b))

-- ---- the last line

-- the lines of some first flushes are a front of the text
lines_front : (k : ℕ) (bounds : List (ℕ × ℕ)) (rest : List ℕ) (a b : Option (List ℕ)) → Appends a b (flush_lines 1 (take k bounds)) → AppendsFront a b (flush_lines 1 bounds ++ rest)
lines_front k bounds rest a b t =
    let first = flush_lines 1 (take k bounds) in
    let more = flush_lines (1 + length (take k bounds)) (drop k bounds) in
    let split : flush_lines 1 bounds ++ rest ≡ first ++ (more ++ rest) =
    ap (λ bs. flush_lines 1 bs ++ rest) (sym (take-append-drop k bounds)) ∙ ap (λ s. s ++ rest) (lines_more 1 (take k bounds) (drop k bounds)) ∙ append_assoc first more rest in
    let front : take (length first) (flush_lines 1 bounds ++ rest) ≡ first = ap (take (length first)) split ∙ take-append-le (length first) first (more ++ rest) (omega arith) ∙ take_all (length first) first (omega arith) in
    (length first, (let l = ap length split ∙ length-append first (more ++ rest) in omega arith), subst (Appends a b) (sym front) t)

ending : (v : Verdict) (code status : ℕ) (text : List ℕ) (a b c : Option (List ℕ)) → (code ≡ 3 → ⊥) → verdict_status v ≡ code → last_line v ≡ text → Appends a b (flush_lines 1 (bounds_of v)) → Ended code status b c text → JudgesBy v status a c
ending v code status text a b c other is line t e = record {
  known = ⊎_elim (λ f. inl (f ∙ sym is)) (λ f. inr (inr f)) e.known;
  whole = λ f. subst (λ l. Appends a c (flush_lines 1 (bounds_of v) ++ l)) (sym line) (Appends-trans a b c (flush_lines 1 (bounds_of v)) text t (e.whole (f ∙ is)));
  broke = λ f. absurd (⊎_elim (λ g. other (sym g ∙ f)) (λ g. ⊎_elim (λ h. omega arith) (λ h. omega arith) g) e.known);
  part = λ f. subst (λ l. AppendsPart a c (flush_lines 1 (bounds_of v) ++ l)) (sym line) (part_of_second a b c (flush_lines 1 (bounds_of v)) text t (e.part f));
  front = λ f. subst (λ l. AppendsFront a c (flush_lines 1 (bounds_of v) ++ l)) (sym line) (front_of_second a b c (flush_lines 1 (bounds_of v)) text t (e.front f));
}

pub judged_accepted : (parts : List Part) (proof a b c : Option (List ℕ)) (count status : ℕ) → Accepting parts proof a b count → Ended 0 status b c (accepted_line count) → Judges parts proof status a c
judged_accepted parts proof a b c count status s e =
    let v = checks parts s.reading in
    let line : last_line v ≡ accepted_line count = ap last_line s.accepts ∙ ap accepted_line (sym s.count_is) in
    record { reading = s.reading; read = s.read; judged = ending v 0 status (accepted_line count) a b c (λ f. omega arith) (ap verdict_status s.accepts) line s.wrote e }

pub judged_rejected : (parts : List Part) (proof a b c : Option (List ℕ)) (flush line : ℕ) (kind : Reject) (status : ℕ) → Failing parts proof a b (stop.Rejected flush line kind) → Ended 6 status b c (rejected_line flush line kind)
    → Judges parts proof status a c
judged_rejected parts proof a b c flush line kind status s e =
    let v = checks parts s.reading in
    record { reading = s.reading; read = s.read; judged = ending v 6 status (rejected_line flush line kind) a b c (λ f. omega arith) (ap verdict_status s.stops.0) (ap last_line s.stops.0) s.stops.1 e }

pub judged_memory : (parts : List Part) (proof a b : Option (List ℕ)) → Failing parts proof a b stop.NoMemory → Judges parts proof 5 a b
judged_memory parts proof a b s =
    let v = checks parts s.reading in
    record {
      reading = s.reading;
      read = s.read;
      judged = record {
        known = inr (inr (inr refl));
        whole = λ f. absurd (five v f);
        broke = λ f. absurd (omega arith);
        part = λ f. absurd (omega arith);
        front = λ f. lines_front s.stops.0 (bounds_of v) (last_line v) a b s.stops.1;
      };
    }
  where
    five : (v : Verdict) → 5 ≡ verdict_status v → ⊥
    five (Accepted bounds) f = omega arith
    five (Rejected bounds flush line kind) f = omega arith

-- no fault came behind what was checked but one of the last line
pub blamed : (code status reads p q w x y : ℕ) → (code < 2) ⊎ (code ≡ 6) → (status ≡ code) ⊎ (status ≡ 4) ⊎ (status ≡ 5) → p ≤ q → w ≤ x → x ≤ y → (status ≡ 4 → Rose x y) → Blames status reads reads p q w y
blamed code status reads p q w x y low known proofs later last cause =
    let never : (n : ℕ) → n ≡ 3 → status ≡ n → ⊥ = λ n e f. ⊎_elim (λ g. ⊎_elim (λ h. omega arith) (λ h. omega arith) low) (λ g. ⊎_elim (λ h. omega arith) (λ h. omega arith) g) known in
    record {
      read_fault = λ f. absurd (never 3 refl f);
      write_fault = λ f. let rose = cause f in omega arith;
      read_faults = omega arith;
      proof_faults = proofs;
      write_faults = omega arith;
    }
