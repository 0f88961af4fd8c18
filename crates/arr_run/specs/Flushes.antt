-- What one flush does.
use Rattle.std.specs.Prelude.{◌≡◌, ◌+◌, ℕ, List, length, map}
use Rattle.std.specs.List.{flat_map}
use Rattle.std.specs.Io.KnownBytes.{Appends}
use Rattle.arr_io.specs.declared.sink.Sink.{Ghosts}
use Rattle.arr_ops.specs.declared.op.Op.{Op}
use Rattle.arr_ops.specs.Costs.{block_cost, cost, total}
use Rattle.arr_ops.specs.Memory.{Memory}
use Rattle.arr_ops.specs.Traffic.{buffers, read_bytes, write_bytes}
use Rattle.arr_elab.specs.Steps.{printed}
use Rattle.arr_listing.specs.Texts.{array_text}
use Rattle.arr_rewrite.specs.NormalForm.{normal_form}
use Rattle.arr_store.specs.Stored.{Stored, memory_of}
use Rattle.arr_run.specs.declared.choice.Choice.{Choice}
use Rattle.arr_run.specs.declared.flush.Report.{Report}
use Rattle.arr_run.specs.declared.planning.Planned.{Planned}
use Rattle.arr_run.specs.declared.planning.Prepared.{Prepared}
use Rattle.arr_run.specs.Chosen.{IsPlanned}
use Rattle.arr_run.specs.Pieces.{Segment, flush_head, segment_text}

-- The normal form of a list, the plan that was chosen for it, what each block costs, and what all cost.
pub record Prepares (choice : Choice) (number : ℕ) (list : List Op) (p : Prepared) : Type 0 where
  pub normal : p.list.items ≡ normal_form list
  pub planned : IsPlanned choice number list p.planned
  pub costs : p.costs.items ≡ map (block_cost (normal_form list)) p.planned.plan
  pub cost : p.cost ≡ cost (normal_form list) p.planned.plan

-- the lines of the arrays that a list prints
abbrev pub arrays_text : Memory → List Op → List ℕ
arrays_text m list = flat_map array_text (printed m list)

-- what a flush writes by the plan that was chosen for it
abbrev pub flush_segment : Choice → ℕ → Memory → List Op → Planned → Segment
flush_segment choice number m list p = record { head = flush_head choice.listing number list p; arrays = arrays_text m list }

-- the plan of a report, and what best shows of it
abbrev pub planned_in : Report → Planned
planned_in report = record { plan = report.plan; bound = report.bound; units = report.units; certificate = report.certificate }

-- a call wrote what a flush writes by the plan of its report
abbrev pub WritesFlush : {K : Type 0} → Ghosts K → Choice → ℕ → List Op → K → K → Stored → Report → Type 0
WritesFlush g choice number list old new store report =
    Appends (g.written old) (g.written new) (segment_text (flush_segment choice number (memory_of store) list (planned_in report)))

-- What running a list by a plan moved: by how much the counters of the store rose.
pub record Moves (list : List Op) (plan : List (List ℕ)) (old new : Stored) : Type 0 where
  pub loads : new.loads ≡ old.loads + total (read_bytes list) plan
  pub stores : new.stores ≡ old.stores + total (write_bytes list) plan
  pub made : new.made ≡ old.made + buffers list plan

-- What a report says: how many operations were recorded and are left, the plan that was chosen, its blocks and cost, and by how much the
-- counters rose, which is what the blocks of this very plan move.
pub record Reports (choice : Choice) (number : ℕ) (list : List Op) (store after : Stored) (report : Report) : Type 0 where
  pub recorded : report.recorded ≡ length list
  pub rewritten : report.rewritten ≡ length (normal_form list)
  pub planned : IsPlanned choice number list (planned_in report)
  pub blocks : report.blocks ≡ length report.plan
  pub cost : report.cost ≡ cost (normal_form list) report.plan
  pub loads : store.loads + report.loads ≡ after.loads
  pub stores : store.stores + report.stores ≡ after.stores
  pub made : store.made + report.made ≡ after.made
  pub moved : Moves (normal_form list) report.plan store after
