-- What C reads of a fault and of a box.
use Rattle.lunit.specs.declared.geometry.Rect.{Rect}
use Rattle.text_scan.specs.declared.line.Fault.{Fault}
use Rattle.gridlay_c.specs.declared.told.BoxRect.{BoxRect}
use Rattle.gridlay_c.specs.declared.told.FaultAt.{FaultAt}

abbrev pub box_told : Rect → BoxRect
box_told r = record { x = r.x; y = r.y; width = r.width; height = r.height }

abbrev pub told : Fault → FaultAt
told f = record { line = f.place.line; column = f.place.column; fault = f.number }

-- no fault
abbrev pub untold : FaultAt
untold = record { line = 0; column = 0; fault = 0 }
