-- Requests as the code has them.
use Rattle.isodata_tool.specs.Isomorphic.{Request}
use Rattle.isodata_tool.specs.declared.planning.Request as code

abbrev pub request_seen : code.Request → Request
request_seen q = record {
  old = q.old.now;
  maps = q.maps.now;
  function = q.function.now;
  new_to_old = q.new_to_old.now;
  old_to_new = q.old_to_new.now;
}
