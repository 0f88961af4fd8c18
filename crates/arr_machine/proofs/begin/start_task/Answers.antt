use Rattle.std.proofs.Common.{◌∙◌, ap, subst}
use Rattle.arr_num.specs.Kinds.{folds, is_fold, kind}
use Rattle.arr_machine.specs.Tasks.{IsTask}
use Rattle.arr_machine.proofs.Begins.{one_strip, plain_kind, reduction_fold, starts_inside, starts_more, starts_other, starts_typed}
use Rattle.arr_machine.proofs.Blocks.{item_at}
use Rattle.arr_machine.proofs.Tasks.{line_of}
use Rattle.arr_machine.proofs.begin.start_task.Goals as goal

pub start_fold-requires-clause-code : goal.start_fold-requires-clause-code
start_fold-requires-clause-code c =
    let op = item_at c.args._ops.now c.args._index c.requires.there in
    let is = subst (IsTask c.args._ops.now c.args._room c.args._lanes.now c.args._index op.0) c.in-Fold.is (c.requires.task op.0 op.1) in
    ap is_fold is.1.code ∙ reduction_fold op.0.code is.0

pub start_fold-requires-clause-there : goal.start_fold-requires-clause-there
start_fold-requires-clause-there c =
    let op = item_at c.args._ops.now c.args._index c.requires.there in
    let is = subst (IsTask c.args._ops.now c.args._room c.args._lanes.now c.args._index op.0) c.in-Fold.is (c.requires.task op.0 op.1) in
    starts_inside c.args._ops.now (one_strip c.args._ops.now c.requires.block c.requires.types) c.args._index op.0 c.requires.there op.1 c.args.numbers.now c.in-Fold.along is.0 is.1 c.requires.long

pub returns-in-Fold-clause-kept : goal.returns-in-Fold-clause-kept
returns-in-Fold-clause-kept c =
    let op = item_at c.args._ops.now c.args._index c.requires.there in
    let is = subst (IsTask c.args._ops.now c.args._room c.args._lanes.now c.args._index op.0) c.in-Fold.is (c.requires.task op.0 op.1) in
    starts_typed c.args._ops.now (one_strip c.args._ops.now c.requires.block c.requires.types) c.args._index op.0 c.requires.there op.1 c.args.numbers.now c.in-Fold.along is.0 is.1 c.start_fold.new.numbers
    c.start_fold.ensures c.requires.kept

pub returns-in-Fold-clause-starts : goal.returns-in-Fold-clause-starts
returns-in-Fold-clause-starts c =
    let op = item_at c.args._ops.now c.args._index c.requires.there in
    let is = subst (IsTask c.args._ops.now c.args._room c.args._lanes.now c.args._index op.0) c.in-Fold.is (c.requires.task op.0 op.1) in
    starts_more c.args._ops.now (one_strip c.args._ops.now c.requires.block c.requires.types) c.args._index op.0 c.requires.there op.1 c.args.numbers.now c.in-Fold.along is.0 is.1 c.start_fold.new.numbers
    c.start_fold.ensures c.requires.starts

pub returns-in-Line-clause-starts : goal.returns-in-Line-clause-starts
returns-in-Line-clause-starts c =
    let op = item_at c.args._ops.now c.args._index c.requires.there in
    let is = line_of c.args._ops.now c.args._room c.args._lanes.now c.args._index op.0 c.args.task c.in-Line._line c.in-Line.is (c.requires.task op.0 op.1) in
    starts_other c.args._ops.now (one_strip c.args._ops.now c.requires.block c.requires.types) c.args._index op.0 c.requires.there op.1 c.args.numbers.now (plain_kind (kind op.0.code) is.0) c.requires.starts

pub returns-in-Scan-clause-starts : goal.returns-in-Scan-clause-starts
returns-in-Scan-clause-starts c =
    let op = item_at c.args._ops.now c.args._index c.requires.there in
    let is = subst (IsTask c.args._ops.now c.args._room c.args._lanes.now c.args._index op.0) c.in-Scan.is (c.requires.task op.0 op.1) in
    starts_other c.args._ops.now (one_strip c.args._ops.now c.requires.block c.requires.types) c.args._index op.0 c.requires.there op.1 c.args.numbers.now (ap folds is.0) c.requires.starts

pub returns-in-Show-clause-starts : goal.returns-in-Show-clause-starts
returns-in-Show-clause-starts c =
    let op = item_at c.args._ops.now c.args._index c.requires.there in
    let is = subst (IsTask c.args._ops.now c.args._room c.args._lanes.now c.args._index op.0) c.in-Show.is (c.requires.task op.0 op.1) in
    starts_other c.args._ops.now (one_strip c.args._ops.now c.requires.block c.requires.types) c.args._index op.0 c.requires.there op.1 c.args.numbers.now (ap folds is.0) c.requires.starts

pub returns-in-Nothing-clause-starts : goal.returns-in-Nothing-clause-starts
returns-in-Nothing-clause-starts c =
    let op = item_at c.args._ops.now c.args._index c.requires.there in
    let is = subst (IsTask c.args._ops.now c.args._room c.args._lanes.now c.args._index op.0) c.in-Nothing.is (c.requires.task op.0 op.1) in
    starts_other c.args._ops.now (one_strip c.args._ops.now c.requires.block c.requires.types) c.args._index op.0 c.requires.there op.1 c.args.numbers.now (ap folds is) c.requires.starts
