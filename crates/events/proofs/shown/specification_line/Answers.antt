use Rattle.std.proofs.Common.{rules, ◌≡◌, ◌++◌, codes}
use Rattle.term_forms.specs.Printing.{term_text}
use Rattle.events.specs.Shown.{list_text}
use Rattle.events.proofs.ShownLemmas.{specification_parts}
use Rattle.events.proofs.shown.specification_line.Goals as goal

pub returns : goal.returns
returns c =
    let s = c.args.specification.now in
    let begin : c.in_ok-text.text ≡ codes "specification (DEFUN-SK2 " = search rules in
    let name : c.extend.new.self ≡ c.in_ok-text.text ++ s.name = search rules in
    let between : c.extend-2.new.self ≡ c.extend.new.self ++ codes " () (FORALL " = search rules in
    let variables : c.write_names.new.out ≡ c.extend-2.new.self ++ list_text s.variables = search rules in
    let blank : c.push.new.self ≡ c.write_names.new.out ++ codes " " = search rules in
    let matrix : c.print_term.new.out ≡ c.push.new.self ++ term_text s.matrix = search rules in
    let end : c.extend-3.new.self ≡ c.print_term.new.out ++ codes "))\n" = search rules in
    specification_parts c.in_ok-text.text c.extend.new.self c.extend-2.new.self c.write_names.new.out c.push.new.self c.print_term.new.out c.extend-3.new.self
    (codes "specification (DEFUN-SK2 ") s.name (codes " () (FORALL ") (list_text s.variables) (codes " ") (term_text s.matrix) (codes "))\n")
    begin name between variables blank matrix end
