use Rattle.std.proofs.Common.{◌≡◌}
use Rattle.std.specs.Vec.Iter.{into_iter_items}
use Rattle.doc_text.specs.NodeText.{with_settings}
use Rattle.doc_text.proofs.node_text.with_settings.Given as goal

-- with the settings that are left it is what all make
abbrev pub invariant-loop-property : goal.invariant-loop-property
invariant-loop-property l = with_settings (into_iter_items l.property-iterator) l.style ≡ with_settings l.fn.settings l.fn.style
