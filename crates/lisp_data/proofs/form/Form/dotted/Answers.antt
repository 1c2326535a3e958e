use Rattle.lisp_data.proofs.Proper.{proper-both}
use Rattle.lisp_data.proofs.form.Form.dotted.Goals as goal

pub returns-in_ok-append-in-List-clause-proper : goal.returns-in_ok-append-in-List-clause-proper
returns-in_ok-append-in-List-clause-proper c =
    let joined = c.in_ok-append-in-List.ensures in
    proper-both c.args.items c.append.new.self c.in-List.rest c.in-List.end c.args.tail c.in-List.is joined.ok joined.proper
