-- The names of faults, as they are printed.
use Rattle.std.specs.Prelude.{ℕ, ◌==◌, List, [], if◌then◌else◌, codes}

-- the name of the fault of a number; no other number is one (own rule)
unfoldable pub fault_name : ℕ → List ℕ
fault_name number =
    if number == 1 then codes "bad-byte"
    else if number == 2 then codes "line-too-long"
    else if number == 3 then codes "bad-header"
    else if number == 4 then codes "bad-indent"
    else if number == 5 then codes "bad-name"
    else if number == 6 then codes "duplicate-name"
    else if number == 7 then codes "unknown-kind"
    else if number == 8 then codes "unknown-property"
    else if number == 9 then codes "bad-value"
    else if number == 10 then codes "duplicate-property"
    else if number == 11 then codes "unsupported"
    else if number == 12 then codes "too-deep"
    else if number == 13 then codes "too-many-nodes"
    else if number == 14 then codes "leaf-has-children"
    else if number == 15 then codes "second-root"
    else if number == 16 then codes "no-root"
    else if number == 20 then codes "unknown-edit"
    else if number == 21 then codes "unknown-name"
    else if number == 22 then codes "root"
    else if number == 23 then codes "cycle"
    else if number == 24 then codes "bad-index"
    else if number == 25 then codes "nothing-to-undo"
    else if number == 26 then codes "nothing-to-redo"
    else []
