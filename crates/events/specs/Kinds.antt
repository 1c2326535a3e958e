-- The frame of each kind of event.
use Rattle.event_forms.specs.Shapes.{Event, InPackage, IncludeBook, Defun, Defthm, Defiso, Restrict, Isodata, Defun2, Defunvar, DefunSk2, DefunInst, DefthmInst, ValueTriple}
use Rattle.events.specs.declared.orders.Order.TheVariants.{First, Second}
use Rattle.events.specs.Frames.{Frame}
use Rattle.events.specs.InPackage.{in_package}
use Rattle.events.specs.IncludeBook.{include_book}
use Rattle.events.specs.Defun.{defun}
use Rattle.events.specs.Defthm.{defthm}
use Rattle.events.specs.Defiso.{defiso}
use Rattle.events.specs.Restrict.{restrict}
use Rattle.events.specs.Isodata.{isodata}
use Rattle.events.specs.Defunvar.{defunvar}
use Rattle.events.specs.DefunSk2.{defun_sk2}
use Rattle.events.specs.DefunInst.{defun_inst}
use Rattle.events.specs.DefthmInst.{defthm_inst}
use Rattle.events.specs.ValueTriple.{value_triple}

abbrev pub frame_of : Event → Frame
frame_of InPackage = in_package
frame_of (IncludeBook book) = include_book book
frame_of (Defun function) = defun First function
frame_of (Defthm theorem) = defthm theorem
frame_of (Defiso iso) = defiso iso
frame_of (Restrict restriction) = restrict restriction
frame_of (Isodata representation) = isodata representation
frame_of (Defun2 function) = defun Second function
frame_of (Defunvar variable) = defunvar variable
frame_of (DefunSk2 specification) = defun_sk2 specification
frame_of (DefunInst instance) = defun_inst instance
frame_of (DefthmInst instance) = defthm_inst instance
frame_of (ValueTriple form) = value_triple form
