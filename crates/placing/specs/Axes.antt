-- The values of one axis of two: those of the columns and the inline axis, which is axis 0, or of the rows and the block axis, which is axis 1 (CSS Grid 2,
-- section 3).
use Rattle.std.specs.Prelude.{ℕ, ◌==◌, Option, Some, None, if◌then◌else◌}
use Rattle.style_types.specs.declared.track.Template.{Template}
use Rattle.style_types.specs.declared.track.Template.TheVariants as template
use Rattle.style_types.specs.declared.track.TrackList.{TrackList}
use Rattle.tree_rules.specs.Labels.{ContentAxis, ContentStyle, GridAxis, GridStyle}

abbrev pub grid_axis : ℕ → GridStyle → GridAxis
grid_axis axis g = if axis == 0 then g.columns else g.rows

abbrev pub content_axis : ℕ → ContentStyle → ContentAxis
content_axis axis c = if axis == 0 then c.inline else c.block

-- the track list that a template is
abbrev pub listed : Template → Option TrackList
listed template.Absent = None
listed (template.Tracks l) = Some l
listed (template.Subgrid sets) = None
