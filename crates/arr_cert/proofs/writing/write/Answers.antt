use Rattle.arr_cert.proofs.Lines.{certificate_wrote}
use Rattle.arr_cert.proofs.writing.write.Goals as goal

pub returns-clause-all : goal.returns-clause-all
returns-clause-all g c = (certificate_wrote _ _ c.args.certificate.now _ _ _ _ _ _ _ _ _ _ _ _ _ _ _ _ _ _ _ _ _ c.put_head-headed.ensures c.put_plan-planned.ensures c.put_line-priced.ensures c.put_line-bounded.ensures c.put_tree-grown.ensures c.put_line.ensures).all

pub returns-clause-part : goal.returns-clause-part
returns-clause-part g c = (certificate_wrote _ _ c.args.certificate.now _ _ _ _ _ _ _ _ _ _ _ _ _ _ _ _ _ _ _ _ _ c.put_head-headed.ensures c.put_plan-planned.ensures c.put_line-priced.ensures c.put_line-bounded.ensures c.put_tree-grown.ensures c.put_line.ensures).part

pub returns-clause-cause : goal.returns-clause-cause
returns-clause-cause g c = (certificate_wrote _ _ c.args.certificate.now _ _ _ _ _ _ _ _ _ _ _ _ _ _ _ _ _ _ _ _ _ c.put_head-headed.ensures c.put_plan-planned.ensures c.put_line-priced.ensures c.put_line-bounded.ensures c.put_tree-grown.ensures c.put_line.ensures).cause
