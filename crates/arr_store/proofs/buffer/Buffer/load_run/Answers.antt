use Rattle.std.proofs.Common.{◌∙◌, ◌+◌, pos, map, get_or, length, drop, ap, sym, arith}
use Rattle.arr_store.specs.Buffers.{cell_of}
use Rattle.arr_store.specs.Runs.{run_place}
use Rattle.arr_store.proofs.Places.{taken_front, get_pos}
use Rattle.arr_store.proofs.buffer.Buffer.load_run.Goals as goal

pub returns-in-Bytes-lane-clause-each : goal.returns-in-Bytes-lane-clause-each
returns-in-Bytes-lane-clause-each c i l =
    let p = run_place c.args.run.start c.args.run.stride i in
    ap (λ ys. get_or (map pos ys) (c.args.at + i) (pos 0))
    (taken_front c.gather.new.out (drop (length c.gather.new.out) c.in-Bytes-lane.out.items) c.in-Bytes-lane.out.len (let e = c.gather.ensures.length in let f = c.as_mut_slice.ensures.len in omega arith))
    ∙ get_pos c.gather.new.out (c.args.at + i) ∙ ap pos (c.gather.ensures.each i 0 l ∙ ap (λ xs. get_or xs p 0) c.as_slice.ensures.value) ∙ sym (get_pos c.in-Bytes.numbers.items p)
    ∙ sym (ap (λ b. get_or (cell_of b).numbers p (pos 0)) c.in-Bytes.is)

pub returns-in-Naturals-lane-clause-each : goal.returns-in-Naturals-lane-clause-each
returns-in-Naturals-lane-clause-each c i l =
    let p = run_place c.args.run.start c.args.run.stride i in
    ap (λ ys. get_or (map pos ys) (c.args.at + i) (pos 0))
    (taken_front c.gather-in-Naturals-lane.new.out (drop (length c.gather-in-Naturals-lane.new.out) c.in-Naturals-lane.out.items) c.in-Naturals-lane.out.len
    (let e = c.gather-in-Naturals-lane.ensures.length in let f = c.as_mut_slice-in-Naturals-lane.ensures.len in omega arith))
    ∙ get_pos c.gather-in-Naturals-lane.new.out (c.args.at + i) ∙ ap pos (c.gather-in-Naturals-lane.ensures.each i 0 l ∙ ap (λ xs. get_or xs p 0) c.as_slice-in-Naturals-lane.ensures.value)
    ∙ sym (get_pos c.in-Naturals.numbers.items p) ∙ sym (ap (λ b. get_or (cell_of b).numbers p (pos 0)) c.in-Naturals.is)

pub returns-in-Bytes-lane-clause-before : goal.returns-in-Bytes-lane-clause-before
returns-in-Bytes-lane-clause-before c k l =
    ap (λ ys. get_or (map pos ys) k (pos 0))
    (taken_front c.gather.new.out (drop (length c.gather.new.out) c.in-Bytes-lane.out.items) c.in-Bytes-lane.out.len (let e = c.gather.ensures.length in let f = c.as_mut_slice.ensures.len in omega arith))
    ∙ get_pos c.gather.new.out k ∙ ap pos (c.gather.ensures.before k 0 l ∙ ap (λ xs. get_or xs k 0) c.as_mut_slice.ensures.value) ∙ sym (get_pos c.in-Bytes-lane.out.items k)
    ∙ sym (ap (λ b. get_or (cell_of b).numbers k (pos 0)) c.in-Bytes-lane.is)

pub returns-in-Bytes-lane-clause-behind : goal.returns-in-Bytes-lane-clause-behind
returns-in-Bytes-lane-clause-behind c k l =
    ap (λ ys. get_or (map pos ys) k (pos 0))
    (taken_front c.gather.new.out (drop (length c.gather.new.out) c.in-Bytes-lane.out.items) c.in-Bytes-lane.out.len (let e = c.gather.ensures.length in let f = c.as_mut_slice.ensures.len in omega arith))
    ∙ get_pos c.gather.new.out k ∙ ap pos (c.gather.ensures.behind k 0 l ∙ ap (λ xs. get_or xs k 0) c.as_mut_slice.ensures.value) ∙ sym (get_pos c.in-Bytes-lane.out.items k)
    ∙ sym (ap (λ b. get_or (cell_of b).numbers k (pos 0)) c.in-Bytes-lane.is)

pub returns-in-Naturals-lane-clause-before : goal.returns-in-Naturals-lane-clause-before
returns-in-Naturals-lane-clause-before c k l =
    ap (λ ys. get_or (map pos ys) k (pos 0))
    (taken_front c.gather-in-Naturals-lane.new.out (drop (length c.gather-in-Naturals-lane.new.out) c.in-Naturals-lane.out.items) c.in-Naturals-lane.out.len (let e = c.gather-in-Naturals-lane.ensures.length in let f = c.as_mut_slice-in-Naturals-lane.ensures.len in omega arith))
    ∙ get_pos c.gather-in-Naturals-lane.new.out k ∙ ap pos (c.gather-in-Naturals-lane.ensures.before k 0 l ∙ ap (λ xs. get_or xs k 0) c.as_mut_slice-in-Naturals-lane.ensures.value) ∙ sym (get_pos c.in-Naturals-lane.out.items k)
    ∙ sym (ap (λ b. get_or (cell_of b).numbers k (pos 0)) c.in-Naturals-lane.is)

pub returns-in-Naturals-lane-clause-behind : goal.returns-in-Naturals-lane-clause-behind
returns-in-Naturals-lane-clause-behind c k l =
    ap (λ ys. get_or (map pos ys) k (pos 0))
    (taken_front c.gather-in-Naturals-lane.new.out (drop (length c.gather-in-Naturals-lane.new.out) c.in-Naturals-lane.out.items) c.in-Naturals-lane.out.len (let e = c.gather-in-Naturals-lane.ensures.length in let f = c.as_mut_slice-in-Naturals-lane.ensures.len in omega arith))
    ∙ get_pos c.gather-in-Naturals-lane.new.out k ∙ ap pos (c.gather-in-Naturals-lane.ensures.behind k 0 l ∙ ap (λ xs. get_or xs k 0) c.as_mut_slice-in-Naturals-lane.ensures.value) ∙ sym (get_pos c.in-Naturals-lane.out.items k)
    ∙ sym (ap (λ b. get_or (cell_of b).numbers k (pos 0)) c.in-Naturals-lane.is)
