-- The laws of bytes, from their parts.
use Rattle.std.proofs.Common.{◌+◌, ap, ◌∙◌}
use Rattle.arr_ops.specs.Fits.{op_fits}
use Rattle.arr_ops.specs.Costs.{total, weight}
use Rattle.arr_ops.proofs.Tests.{all_of}
use Rattle.arr_strips.specs.Blocks.{fold_stores}
use Rattle.arr_strips.specs.Laws.{ReadsWeigh, WritesWeigh}
use Rattle.arr_strips.proofs.Traffic.{read_weight, store_weight}
use Rattle.arr_strips.proofs.Weights.{write_weight}
use Rattle.arr_strips.proofs.Blocks.{block_of}

pub reads_weigh : ReadsWeigh
reads_weigh ops m list is fit = read_weight ops m (block_of ops is) (all_of (op_fits m ops) ops fit) list

pub writes_weigh : WritesWeigh
writes_weigh ops m list is fit =
    write_weight ops (block_of ops is) list ∙ ap (λ k. k + total (weight list) (fold_stores ops)) (store_weight ops m (block_of ops is) (all_of (op_fits m ops) ops fit) list)
