-- The frame of the root, as laying a page out finds it, and what the page keeps by it (own rule).
use Rattle.std.specs.Prelude.{List}
use Rattle.node_arena.specs.Plain.{Nodes}
use Rattle.placing.specs.declared.node.Node.{Node}
use Rattle.placing.specs.Nodes.{bare}
use Rattle.tree_rules.specs.Answers.{Box}
use Rattle.box_layout.specs.BoxesSeen.{bare_boxes}
use Rattle.box_layout.specs.FoundRoots.{IsRootFrame}
use Rattle.box_layout.specs.Paths.{IsPathKept, kept_state}
use Rattle.box_layout.specs.declared.layout.RootFrame.{RootFrame}
use Rattle.page_tree.specs.Pages.{Held}

-- the frame of the root of these nodes in the frame's own viewport
abbrev pub IsRootIn : Nodes Node → RootFrame → Type 0
IsRootIn nodes root = IsRootFrame (bare nodes.tree) root.width root.height root

-- each container keeps what a layout in this viewport asks it
abbrev pub IsKeptIn : Nodes Node → RootFrame → Type 0
IsKeptIn nodes root = IsPathKept (bare nodes.tree) root.width root.height (kept_state nodes)

abbrev pub boxes_in : Nodes Node → RootFrame → List Box
boxes_in nodes root = bare_boxes root.width root.height (bare nodes.tree)

-- the frame of the root of a page in the page's viewport
abbrev pub IsRootOf : Held → RootFrame → Type 0
IsRootOf page root = IsRootFrame (bare page.nodes.tree) page.width page.height root

abbrev pub KeepsPath : Held → Type 0
KeepsPath page = IsPathKept (bare page.nodes.tree) page.width page.height (kept_state page.nodes)
