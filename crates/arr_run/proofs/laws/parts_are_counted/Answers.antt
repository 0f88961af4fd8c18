use Rattle.std.proofs.Common.{arith, length}
use Rattle.std.specs.List.{flat_map}
use Rattle.arr_run.specs.Pieces.{segment_text}
use Rattle.arr_run.proofs.Stands.{ran_in_arrays, ran_in_head, ran_whole}
use Rattle.arr_run.proofs.laws.parts_are_counted.Goals as goal

pub returns : goal.returns
returns c = record {
  head = λ front s rest n from to. ran_in_head front s rest 0 n (omega arith) (omega arith);
  arrays = λ front s rest n from to. ran_in_arrays front s rest 0 n (omega arith) (omega arith);
  whole = λ all. ran_whole all 0 (length (flat_map segment_text all)) (omega arith);
}
