use Rattle.std.proofs.Common.{◌≡◌, ◌++◌, true, map, drop}
use Rattle.std.specs.List.{list_all}
use Rattle.lisp_data.specs.SymbolText.{is_symbol_text}
use Rattle.reduction.specs.declared.found.Source.TheVariants.{Theorem}
use Rattle.hints.specs.Facts.{rules_from}
use Rattle.hints.proofs.facts.Facts.push_theorems.Given as goal

abbrev pub invariant-loop-name : goal.invariant-loop-name
invariant-loop-name l = record {
  texts : list_all is_symbol_text (map (λ name. name.now) (drop l.name-index l.names)) ≡ true;
  rules :
      l.rules ++ rules_from l.self.world.now l.self.universals.now (map Theorem (map (λ name. name.now) (drop l.name-index l.names)))
      ≡ l.initial.rules ++ rules_from l.self.world.now l.self.universals.now (map Theorem (map (λ name. name.now) l.names));
}
