use Rattle.std.proofs.Common.{◌∙◌, arith}
use Rattle.arr_cert.proofs.Looking.{joins}
use Rattle.arr_cert.proofs.reader.keep.Goals as goal

pub returns : goal.returns
returns c =
    let long = c.args.text.now.ok in
    c.in_ok-extend_from_slice.ensures.items ∙ joins 65537 c.min-count.result c.args.text.now.items c.args.bytes.now (omega (arith, c.requires)) (omega (arith, c.min-count.ensures, c.len.ensures))
