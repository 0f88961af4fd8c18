-- What checking has read of a proof and written, list by list.
use Rattle.std.specs.Prelude.{ℕ, suc, ◌≡◌, ◌⊎◌, ◌≤◌, IsErrOf, List, [], ◌∷◌, length, map, take, Option, Result, Ok, Err}
use Rattle.std.specs.Io.KnownBytes.{Appends}
use Rattle.arr_io.specs.declared.sink.Sink.{Ghosts as Sinks}
use Rattle.arr_io.specs.declared.source.Source.{Ghosts as Sources}
use Rattle.arr_io.specs.Causes.{Rose}
use Rattle.arr_io.specs.Taken.{AppendsPart}
use Rattle.arr_ops.specs.declared.op.Op.{Op}
use Rattle.arr_record.specs.declared.part.Part.{Part}
use Rattle.arr_law.specs.declared.record.Record.{Record}
use Rattle.arr_law.specs.ProblemOf.{problem_of}
use Rattle.arr_law.specs.Verdict.{AtHead, Reading, Verdict, Accepted, Rejected, verdict_from}
use Rattle.arr_cert.specs.Reading.{Unread}
use Rattle.arr_check.specs.Judged.{Between, Fails, IsReadAs, Passes, onto}
use Rattle.arr_run.specs.declared.checking.Stop.{Stop}
use Rattle.arr_run.specs.declared.checking.Stop.TheVariants as stop
use Rattle.arr_run.specs.Checked.{IsProof, bounds_of, checks, flush_line, flush_lines, lists_of, verdict_status, verdict_text}
use Rattle.arr_run.specs.Parts.{AppendsFront}

-- ---- one list

-- the certificate of the list of this number was judged, and its line written
abbrev pub Judged : List Op → ℕ → Unread → Unread → Option (List ℕ) → Option (List ℕ) → Result (Unit {0}) Stop → Type 0
Judged list number u v old new (Ok done) = (cost : ℕ) × (bound : ℕ) × Passes (problem_of list) number u v cost bound × Appends old new (flush_line number (cost, bound))
Judged list number u v old new (Err (stop.Rejected flush line kind)) = Fails (problem_of list) number u AtHead line kind × (flush ≡ number) × Appends old new []
Judged list number u v old new (Err stop.WriteFault) =
    (cost : ℕ) × (bound : ℕ) × Passes (problem_of list) number u v cost bound × AppendsPart old new (flush_line number (cost, bound))
Judged list number u v old new (Err stop.ReadFault) = Appends old new []
Judged list number u v old new (Err stop.NoMemory) = Appends old new []

-- ---- lists one after another

-- Some lists were accepted and these are left, the next of this number.
pub record Checking (parts left : List Part) (number : ℕ) (u v : Unread) (old new : Option (List ℕ)) : Type 0 where
  pub front : List (ℕ × Record)
  pub bounds : List (ℕ × ℕ)
  pub count : number ≡ suc (length bounds)
  pub reads : Between front u v
  pub judged : (rest : Reading) → checks parts (onto front rest) ≡ verdict_from (map problem_of (lists_of left)) bounds number rest
  pub wrote : Appends old new (flush_lines 1 bounds)

-- what was written when checking stopped
abbrev pub StopsAt : Verdict → Option (List ℕ) → Option (List ℕ) → Stop → Type 0
StopsAt v old new (stop.Rejected flush line kind) = (v ≡ Rejected (bounds_of v) flush line kind) × Appends old new (flush_lines 1 (bounds_of v))
StopsAt v old new stop.WriteFault = AppendsPart old new (flush_lines 1 (bounds_of v))
StopsAt v old new stop.ReadFault = (k : ℕ) × Appends old new (flush_lines 1 (take k (bounds_of v)))
StopsAt v old new stop.NoMemory = (k : ℕ) × Appends old new (flush_lines 1 (take k (bounds_of v)))

-- The proof is read as something, and checking stopped at the verdict on it.
pub record Stopping (parts : List Part) (u : Unread) (old new : Option (List ℕ)) (e : Stop) : Type 0 where
  pub reading : Reading
  pub read : IsReadAs u reading
  pub stops : StopsAt (checks parts reading) old new e

-- The lists were accepted so far, and the next has this number, or checking stopped.
abbrev pub Checks : List Part → List Part → Unread → Unread → Option (List ℕ) → Option (List ℕ) → Result ℕ Stop → Type 0
Checks parts left u v old new (Ok number) = Checking parts left number u v old new
Checks parts left u v old new (Err e) = Stopping parts u old new e

-- From where checking stands before a part of the next number to where it stands after it, whatever went before.
abbrev pub ChecksPart : Part → ℕ → Unread → Unread → Option (List ℕ) → Option (List ℕ) → Result ℕ Stop → Type 0
ChecksPart part number v w old new result =
    (parts left : List Part) (u : Unread) (before : Option (List ℕ)) → Checking parts (part ∷ left) number u v before old → Checks parts left u w before new result

-- Neither count of faults has fallen, and a fault is answered only where its own rose.
pub record Traced (T : Type 0) (result : Result T Stop) (reads reads_now writes writes_now : ℕ) : Type 0 where
  pub read_fault : IsErrOf result stop.ReadFault → Rose reads reads_now
  pub write_fault : IsErrOf result stop.WriteFault → Rose writes writes_now
  pub reads_later : reads ≤ reads_now
  pub writes_later : writes ≤ writes_now

-- so by a source and a sink before and after
abbrev pub Traces : {S K T : Type 0} → Sources S → Sinks K → S → S → K → K → Result T Stop → Type 0
Traces s k proof proof' sink sink' result = Traced _ result (s.faults proof) (s.faults proof') (k.faults sink) (k.faults sink')

-- ---- all of a proof

-- All lists were accepted, and nothing is left.
pub record Accepting (parts : List Part) (proof old new : Option (List ℕ)) (count : ℕ) : Type 0 where
  pub reading : Reading
  pub read : IsProof proof reading
  pub accepts : checks parts reading ≡ Accepted (bounds_of (checks parts reading))
  pub count_is : count ≡ length (bounds_of (checks parts reading))
  pub wrote : Appends old new (flush_lines 1 (bounds_of (checks parts reading)))

pub record Failing (parts : List Part) (proof old new : Option (List ℕ)) (e : Stop) : Type 0 where
  pub reading : Reading
  pub read : IsProof proof reading
  pub stops : StopsAt (checks parts reading) old new e

abbrev pub ChecksProof : List Part → Option (List ℕ) → Option (List ℕ) → Option (List ℕ) → Result ℕ Stop → Type 0
ChecksProof parts proof old new (Ok count) = Accepting parts proof old new count
ChecksProof parts proof old new (Err e) = Failing parts proof old new e

-- What was written of the lines of a verdict, by the status.
pub record JudgesBy (v : Verdict) (status : ℕ) (old new : Option (List ℕ)) : Type 0 where
  pub known : (status ≡ verdict_status v) ⊎ (status ≡ 3) ⊎ (status ≡ 4) ⊎ (status ≡ 5)
  pub whole : status ≡ verdict_status v → Appends old new (verdict_text v)
  pub broke : status ≡ 3 → (k : ℕ) × Appends old new (flush_lines 1 (take k (bounds_of v)))
  pub part : status ≡ 4 → AppendsPart old new (verdict_text v)
  pub front : status ≡ 5 → AppendsFront old new (verdict_text v)

-- The proof is read as something, and the lines of the verdict on it were written.
pub record Judges (parts : List Part) (proof : Option (List ℕ)) (status : ℕ) (old new : Option (List ℕ)) : Type 0 where
  pub reading : Reading
  pub read : IsProof proof reading
  pub judged : JudgesBy (checks parts reading) status old new
