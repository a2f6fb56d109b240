-- The tracks that a step names.
use Rattle.std.specs.Prelude.{Bool}
use Rattle.part_rules.specs.Tracks.{Track, has_intrinsic_least, has_content_least, has_auto_or_max_content_least, has_max_content_least, has_intrinsic_most, has_max_content_most, in_group}
use Rattle.track_sizing.specs.declared.kinds.Kind.{Kind}
use Rattle.track_sizing.specs.declared.kinds.Kind.TheVariants as kind
use Rattle.track_sizing.specs.declared.kinds.Affected.{Affected}

-- the tracks with such a function
abbrev pub kind_of : Kind → Track → Bool
kind_of kind.IntrinsicLeast = has_intrinsic_least
kind_of kind.ContentLeast = has_content_least
kind_of kind.AutoOrMaxContentLeast = has_auto_or_max_content_least
kind_of kind.MaxContentLeast = has_max_content_least
kind_of kind.IntrinsicMost = has_intrinsic_most
kind_of kind.MaxContentMost = has_max_content_most

-- the tracks that a step affects
abbrev pub affected_of : Affected → Track → Bool
affected_of a = in_group a.crossing (kind_of a.kind)
