-- Arguments by their places.
use Rattle.std.specs.Prelude.{List, Option, Some, None}
use Rattle.lisp_data.specs.Values.{Name}
use Rattle.terms.specs.Terms.{Tm}
use Rattle.isodata_tool.specs.Carried.{find_map, forth_by}
use Rattle.isodata_tool.specs.declared.maps.Mapped.{Mapped}

-- the argument of a formal on the new representation; where there is no formal it stays
abbrev pub forth_by_place : List Mapped → Option Name → Tm → Tm
forth_by_place ms None t = t
forth_by_place ms (Some x) t = forth_by (find_map ms x) t
