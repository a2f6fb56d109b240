-- What the children of a grid told, as the grid keeps it longer than its answers, so that only those are asked again whose answers went since (own rule).
use Rattle.std.specs.Prelude.{◌≡◌, ◌==◌, ◌&&◌, ◌||◌, ◌+◌, ◌-◌, ◌^◌, ◌≤◌, ◌<◌, ℕ, zero, suc, ℤ, Bool, true, false, List, [], ◌∷◌, Some, None, length, map, nat_lt, slice_get, if◌then◌else◌, IfSome}
use Rattle.std.specs.List.{All}
use Rattle.lunit.specs.declared.geometry.Area.{Area}
use Rattle.lunit.specs.declared.geometry.Span.{Span}
use Rattle.lunit.specs.declared.item.Item.{Item}
use Rattle.node_arena.specs.declared.number.NodeId.{NodeId}
use Rattle.part_rules.specs.Lists.{joined}
use Rattle.part_rules.specs.Views.{area_size, tracks_over}
use Rattle.part_rules.specs.declared.track.Space.TheVariants.{MaxContent}
use Rattle.part_rules.specs.declared.view.View.{View}
use Rattle.style_types.specs.declared.value.Align.{Align}
use Rattle.tree_rules.specs.Answers as rules
use Rattle.tree_rules.specs.Answers.{Kid}
use Rattle.tree_rules.specs.Distribution.{given_view, subgrid_box, view_in}
use Rattle.tree_rules.specs.Frames.{given_box, grid_child}
use Rattle.tree_rules.specs.GridSizes.{Entry, Grid, TrackAxis, Wide, column_items_of, from_first, inline_of_entry, pairs_for, row_items_of, shares_columns, total_for}
use Rattle.tree_rules.specs.Labels.{Label}
use Rattle.tree_rules.specs.NodeSizes.{bounds_of, inline_used, is_stretched, margins, self_align}
use Rattle.tree_rules.specs.Places.{Seen}
use Rattle.tree_rules.specs.Repetitions.{own_pair}
use Rattle.tree_rules.specs.Templates.{written}
use Rattle.tree_rules.specs.declared.query.Given.{Given}
use Rattle.tree_rules.specs.declared.query.Given.TheVariants as given
use Rattle.placing.specs.Areas.{placed_of}
use Rattle.placing.specs.Bases.{AreOf, HoldsPlaces}
use Rattle.placing.specs.Members.{AreInOrder, Every, Place, Tells, TellsAlong, along_place, along_turn, place_of, turn_in}
use Rattle.placing.specs.Nodes.{BareTrees, children_at, kid_at, sight_at}
use Rattle.placing.specs.Seats.{context_at}
use Rattle.placing.specs.Turns.{turns}
use Rattle.placing.specs.Wides.{HoldsRows, child_of}
use Rattle.placing.specs.declared.lined.KeptAlong.{KeptAlong}
use Rattle.placing.specs.declared.lined.ToldAlong.{ToldAlong}
use Rattle.placing.specs.declared.lined.ToldMember.{ToldMember}
use Rattle.placing.specs.declared.node.Frame.{Frame}
use Rattle.placing.specs.declared.told.KeptColumns.{KeptColumns}
use Rattle.placing.specs.declared.told.KeptFrames.{KeptFrames}
use Rattle.placing.specs.declared.told.KeptWide.{KeptWide}
use Rattle.placing.specs.declared.told.Past.{Past}
use Rattle.placing.specs.declared.told.PastColumns.{PastColumns}
use Rattle.placing.specs.declared.told.PastFrames.{PastFrames}
use Rattle.placing.specs.declared.told.PastRows.{PastRows}
use Rattle.placing.specs.declared.told.PastWide.{PastWide}
use Rattle.placing.specs.declared.told.ToldColumns.{ToldColumns}
use Rattle.placing.specs.declared.told.ToldRows.{ToldRows}
use Rattle.placing.specs.declared.wide.GridBase.{GridBase}
use Rattle.placing.specs.declared.wide.RowsAt.{RowsAt}
use Rattle.placing.specs.declared.wide.WideChild.{WideChild}

-- ---- lists that were told child by child

-- where the items of each child end, after so many others
abbrev pub ends_from : ℕ → List (List Item) → List ℕ
ends_from n [] = []
ends_from n (p ∷ ps) = (n + length p) ∷ ends_from (n + length p) ps

-- One entry for each child, and the items of all in order, which end there: each child that counts told its entry and its items.
pub record AreTold {X : Type 0} (Counts : ℕ → Type 0) (Tells : ℕ → X → List Item → Type 0) (told : List X) (items : List Item) (ends : List ℕ) : Type 0 where
  pub parts : List (List Item)
  pub joined : items ≡ joined parts
  pub ended : ends ≡ ends_from 0 parts
  pub counted : length parts ≡ length told
  pub each : (k : ℕ) (x : X) (p : List Item) → slice_get told k ≡ Some x → slice_get parts k ≡ Some p → Counts k → Tells k x p

-- such items, each with its end
pub record HasParts (items : List Item) (ends : List ℕ) : Type 0 where
  pub parts : List (List Item)
  pub joined : items ≡ joined parts
  pub ended : ends ≡ ends_from 0 parts

-- none of these ends is less than so much, and each fits the code with so much more
abbrev pub AreMovable : List ℕ → ℕ → ℕ → Type 0
AreMovable [] less more = Unit {0}
AreMovable (end ∷ ends) less more = ((less ≤ end) × (end - less + more < 2 ^ 64)) × AreMovable ends less more

-- ---- what a child tells

-- a child in its area, whatever its number in document order
abbrev pub entry_with : Kid → Area → Entry
entry_with k a = record { number = 0; kid = k; area = a }

-- The border box of a child over these columns, and what it is given there, where the container aligns its items so (CSS Grid 2, 6.2).
abbrev pub inline_told : Align → View 0 → Span → Label → Bool → ℤ × ℤ → ℤ × Given
inline_told align columns span x shares sizes =
    let room = area_size (tracks_over columns.edges span) in
    let b = bounds_of (Some room) x.content.border_box x.grid.columns x.content.inline in
    let size = inline_used b (is_stretched (self_align x.content.inline.own align) x.grid.columns x.content.inline) (margins x.grid.columns) room sizes in
    let own : ℤ × Given = (size, given_box x.grid.columns size) in
    let shared : ℤ × Given = (subgrid_box x.grid.columns room, given_view (view_in columns span x.grid.columns)) in
    if shares then shared else own

-- the child in these columns
abbrev pub wide_told : Kid → Area → GridBase → View 0 → Align → Wide
wide_told k a base columns align =
    let inline : ℤ ×
    Given = inline_told align columns (from_first base.placed.columns a.columns) k.label (shares_columns k)
    (inline_of_entry base.pairs (entry_with k a)) in
    record { entry = entry_with k a; box = inline.0; inline = inline.1; down = k.answers.down (pairs_for k base.pairs) inline.1 }

-- These are the inline sizes of the child of this index, and its items along the columns.
pub record TellsColumns (s : Seen) (kid : NodeId → Kid) (base : GridBase) (k : ℕ) (low_high : ℤ × ℤ) (made : List Item) : Type 0 where
  pub sizes : (c : NodeId) (a : Area) → slice_get base.placed.areas k ≡ Some (c, a) → low_high ≡ inline_of_entry base.pairs (entry_with (kid c) a)
  pub items : (c : NodeId) (a : Area) → slice_get base.placed.areas k ≡ Some (c, a) →
      made ≡
      column_items_of (context_at s base.pairs).columns base.pairs (entry_with (kid c) a) (inline_of_entry base.pairs (entry_with (kid c) a))

-- This is the child of this index in these columns, and its items along the rows.
pub record TellsRows (s : Seen) (kid : NodeId → Kid) (base : GridBase) (columns : View 0) (align : Align) (k : ℕ) (wide : WideChild) (made : List Item) : Type
    0 where
  pub child : (c : NodeId) (a : Area) → slice_get base.placed.areas k ≡ Some (c, a) → wide ≡ child_of (wide_told (kid c) a base columns align)
  pub items : (c : NodeId) (a : Area) → slice_get base.placed.areas k ≡ Some (c, a) →
      made ≡ row_items_of (context_at s base.pairs).rows (entry_with (kid c) a) (wide_told (kid c) a base columns align).down

-- ---- the rows by what was told

-- The axis of the rows of a grid with these items along them (CSS Grid 2, section 12).
unfoldable pub row_axis : Seen → GridBase → List Item → TrackAxis
row_axis s base items =
    let x = s.label in
    record {
      border_box = x.content.border_box;
      grid = x.grid.rows;
      content = x.content.block;
      written = written x.grid.rows.template
          (own_pair x given.None).1;
      spans = map (λ (e : NodeId × Area). e.1.rows) base.placed.areas;
      tracks = base.placed.rows;
      items = items;
    }

-- The rows lie so in a content box that is as great as these items make it: their total under a max-content space (CSS Grid 2, 5.2).
pub record AreRowsFor (s : Seen) (base : GridBase) (items : List Item) (r : RowsAt) : Type 0 where
  pub size : r.size ≡ total_for {axis = 1} (row_axis s base items) MaxContent
  pub laid : HoldsRows (row_axis s base items) base.placed.rows r

-- ---- the frames by what was told

-- The frame of a child over these columns and rows in a grid of these values and areas, whatever else the grid is (CSS Grid 2, sections 6 and 11).
pub record IsFrameIn (s : Seen) (base : GridBase) (columns : View 0) (rows : View 1) (w : Wide) (f : rules.Frame) : Type 0 where
  pub same : (g : Grid) → g.label ≡ s.label → g.placed ≡ placed_of base.placed → f ≡ (grid_child g columns rows w).1.frame

-- This is the frame of the child of this index, where the grid aligns its children as its values say.
pub record TellsFrame (s : Seen) (kid : NodeId → Kid) (base : GridBase) (columns : View 0) (rows : View 1) (k : ℕ) (f : Frame) : Type 0 where
  pub child : (c : NodeId) (a : Area) → slice_get base.placed.areas k ≡ Some (c, a) → f.child ≡ c
  pub frame : (c : NodeId) (a : Area) → slice_get base.placed.areas k ≡ Some (c, a) →
      IsFrameIn s base columns rows (wide_told (kid c) a base columns s.label.content.inline.items)
      (record { rect = f.rect; inline = f.inline; block = f.block })

-- One frame for each child, in document order: each child that counts has its own.
pub record AreFrames (s : Seen) (kid : NodeId → Kid) (base : GridBase) (columns : View 0) (rows : View 1) (Counts : ℕ → Type 0) (frames : List Frame) : Type
    0 where
  pub counted : length frames ≡ length (turns base.placed.numbers)
  pub each : (i k : ℕ) (m : ℤ) (f : Frame) → slice_get (turns base.placed.numbers) i ≡ Some (k, m) → slice_get frames i ≡ Some f → Counts k →
      TellsFrame s kid base columns rows k f

-- ---- which of it lasts

-- the last turn of a node, at which it stands still
abbrev pub last_turn : ℕ
last_turn = 2 ^ 64 - 1

-- the turn after it
abbrev pub next_turn : ℕ → ℕ
next_turn n = if nat_lt n last_turn then n + 1 else n

-- the child of an index has the turn that it had when it was asked, which is not the last one
abbrev pub is_fresh : (NodeId → ℕ) → List (NodeId × Area) → List ℕ → ℕ → Bool
is_fresh turn [] turns k = false
is_fresh turn (e ∷ areas) [] k = false
is_fresh turn (e ∷ areas) (s ∷ turns) zero = (s == turn e.0) && nat_lt s last_turn
is_fresh turn (e ∷ areas) (s ∷ turns) (suc k) = is_fresh turn areas turns k

-- one turn for each child, which is none to come
abbrev pub AreTurns : (NodeId → ℕ) → List (NodeId × Area) → List ℕ → Type 0
AreTurns turn [] [] = Unit {0}
AreTurns turn [] (s ∷ turns) = ⊥
AreTurns turn (e ∷ areas) [] = ⊥
AreTurns turn (e ∷ areas) (s ∷ turns) = (s ≤ turn e.0) × AreTurns turn areas turns

-- an index is one of these
abbrev pub is_listed : ℕ → List ℕ → Bool
is_listed k [] = false
is_listed k (x ∷ xs) = (x == k) || is_listed k xs

-- what the children told for the columns, of which those at these indices do not count
pub record AreColumns (s : Seen) (kid : NodeId → Kid) (Counts : ℕ → Type 0) (t : ToldColumns) : Type 0 where
  pub counted : length t.parts.inlines ≡ length t.parts.base.placed.areas
  pub told : AreTold Counts (TellsColumns s kid t.parts.base) t.parts.inlines t.parts.items t.ends

-- what the children told for the rows, by this grid before its children are asked
pub record AreRows (s : Seen) (kid : NodeId → Kid) (base : GridBase) (Counts : ℕ → Type 0) (t : ToldRows) : Type 0 where
  pub counted : length t.children ≡ length base.placed.areas
  pub told : AreTold Counts (TellsRows s kid base t.columns t.align) t.children t.items t.ends

-- all children count
abbrev pub Each : ℕ → Type 0
Each k = Unit {0}

-- those count that are not listed
abbrev pub AllBut : List ℕ → ℕ → Type 0
AllBut stale k = is_listed k stale ≡ false

-- those count that are fresh
abbrev pub Fresh : (NodeId → ℕ) → List (NodeId × Area) → List ℕ → ℕ → Type 0
Fresh turn areas turns k = is_fresh turn areas turns k ≡ true

-- ---- what a node keeps

-- what it keeps of its columns
abbrev pub columns_in : KeptWide → ToldColumns
columns_in w = record { parts = w.wide.parts; ends = w.column_ends }

-- what it keeps of its rows
abbrev pub rows_in : KeptWide → ToldRows
rows_in w = record { columns = w.wide.columns; align = w.align; children = w.wide.children; items = w.wide.items; ends = w.row_ends }

-- What a node keeps of what its children told for the columns: those count whose answers did not go since.
pub record HoldsColumns (b : BareTrees) (turn : NodeId → ℕ) (n : NodeId) (w : KeptColumns) : Type 0 where
  pub places : HoldsPlaces (sight_at b n) (children_at b n) w.told.parts.base
  pub turns : AreTurns turn w.told.parts.base.placed.areas w.turns
  pub told : AreColumns (sight_at b n) (kid_at b) (Fresh turn w.told.parts.base.placed.areas w.turns) w.told

-- What a node keeps of what its children told for the columns and for the rows: those count whose answers did not go since.
pub record HoldsTold (b : BareTrees) (turn : NodeId → ℕ) (n : NodeId) (w : KeptWide) : Type 0 where
  pub places : HoldsPlaces (sight_at b n) (children_at b n) w.wide.parts.base
  pub turns : AreTurns turn w.wide.parts.base.placed.areas w.turns
  pub columns : AreColumns (sight_at b n) (kid_at b) (Fresh turn w.wide.parts.base.placed.areas w.turns) (columns_in w)
  pub rows : AreRows (sight_at b n) (kid_at b) w.wide.parts.base (Fresh turn w.wide.parts.base.placed.areas w.turns) (rows_in w)
  -- the rows are those of all items, whether the children count that told them or not
  pub laid : IfSome w.wide.rows (AreRowsFor (sight_at b n) w.wide.parts.base w.wide.items)

-- What a node keeps of the frames of its children: those count whose answers did not go since.
pub record HoldsFrames (b : BareTrees) (turn : NodeId → ℕ) (n : NodeId) (w : KeptFrames) : Type 0 where
  pub places : HoldsPlaces (sight_at b n) (children_at b n) w.base
  pub turns : AreTurns turn w.base.placed.areas w.turns
  pub frames : AreFrames (sight_at b n) (kid_at b) w.base w.columns w.rows (Fresh turn w.base.placed.areas w.turns) w.frames

-- What a flex container keeps of what its children told, one entry each: those count that have the turn still which they had
-- then, unless that is the last one.
pub record HoldsEach {A : Type 0} (place : A → Place) (last : A → ℕ) (T : Kid → A → Type 0)
    (b : BareTrees) (turn : NodeId → ℕ) (n : NodeId) (entries : List A) : Type 0 where
  pub order : AreInOrder (sight_at b n) (children_at b n) (map place entries)
  pub turns : Every (λ e. last e ≤ turn (place e).1) entries
  pub told : Every (λ e. last e ≡ turn (place e).1 → last e < last_turn → T (kid_at b (place e).1) e) entries

-- what they told for its inline sizes
abbrev pub HoldsMembers : BareTrees → (NodeId → ℕ) → NodeId → List ToldMember → Type 0
HoldsMembers b turn n told = HoldsEach place_of turn_in Tells b turn n told

-- what they told for its block size
abbrev pub HoldsAlong : BareTrees → (NodeId → ℕ) → NodeId → KeptAlong → Type 0
HoldsAlong b turn n k = HoldsEach along_place along_turn (TellsAlong (sight_at b n).label k.width) b turn n k.told

-- All that a node keeps longer than its answers is of it.
pub record HoldsPast (b : BareTrees) (turn : NodeId → ℕ) (n : NodeId) (p : Past) : Type 0 where
  pub bases : AreOf (sight_at b n) (children_at b n) p.bases
  pub columns : IfSome p.columns (HoldsColumns b turn n)
  pub wide : IfSome p.wide (HoldsTold b turn n)
  pub frames : IfSome p.frames (HoldsFrames b turn n)
  pub members : IfSome p.members (HoldsMembers b turn n)
  pub along : IfSome p.along (HoldsAlong b turn n)

-- nothing
abbrev pub no_past : Past
no_past = record { bases = []; columns = None; wide = None; frames = None; members = None; along = None }

-- ---- what is taken

-- what the children told for the columns, without those that must be asked again
pub record IsPastColumns (b : BareTrees) (n : NodeId) (p : PastColumns) : Type 0 where
  pub places : HoldsPlaces (sight_at b n) (children_at b n) p.told.parts.base
  pub stale : All (λ k. k < length p.told.parts.base.placed.areas) p.stale
  pub told : AreColumns (sight_at b n) (kid_at b) (AllBut p.stale) p.told

-- what the children told for the rows, without those that must be asked again
pub record IsPastRows (b : BareTrees) (n : NodeId) (p : PastRows) : Type 0 where
  pub places : HoldsPlaces (sight_at b n) (children_at b n) p.base
  pub stale : All (λ k. k < length p.base.placed.areas) p.stale
  pub told : AreRows (sight_at b n) (kid_at b) p.base (AllBut p.stale) p.told
  pub laid : IfSome p.rows (AreRowsFor (sight_at b n) p.base p.told.items)

-- what the children told for the columns and for the rows, without those that must be asked again
pub record IsPastWide (b : BareTrees) (n : NodeId) (p : PastWide) : Type 0 where
  pub columns : IsPastColumns b n p.columns
  pub rows : IsPastRows b n p.rows

-- It is what was kept, where those are listed that are not fresh.
pub record IsPastOf (turn : NodeId → ℕ) (w : KeptWide) (p : PastWide) : Type 0 where
  pub columns : p.columns.told ≡ columns_in w
  pub rows : p.rows.told ≡ rows_in w
  pub base : p.rows.base ≡ w.wide.parts.base
  pub again : p.rows.stale ≡ p.columns.stale
  pub laid : p.rows.rows ≡ w.wide.rows
  pub fresh : (k : ℕ) → k < length w.wide.parts.base.placed.areas → is_listed k p.columns.stale ≡ false →
      is_fresh turn w.wide.parts.base.placed.areas w.turns k ≡ true
  pub within : All (λ k. k < length w.wide.parts.base.placed.areas) p.columns.stale

-- those children count that are marked
abbrev pub Marked : List Bool → ℕ → Type 0
Marked fresh k = slice_get fresh k ≡ Some true

-- the frames of the children, without those that must be made again
pub record ArePastFrames (b : BareTrees) (n : NodeId) (p : PastFrames) : Type 0 where
  pub places : HoldsPlaces (sight_at b n) (children_at b n) p.base
  pub counted : length p.fresh ≡ length p.base.placed.areas
  pub frames : AreFrames (sight_at b n) (kid_at b) p.base p.columns p.rows (Marked p.fresh) p.frames

-- What the children of a flex container told, one entry each, where those have the last turn that must be asked again.
pub record ArePast {A : Type 0} (place : A → Place) (last : A → ℕ) (T : Kid → A → Type 0) (b : BareTrees) (n : NodeId) (entries : List A) : Type 0 where
  pub order : AreInOrder (sight_at b n) (children_at b n) (map place entries)
  pub told : Every (λ e. last e < last_turn → T (kid_at b (place e).1) e) entries

-- What the children of a flex container tell, one entry each.
pub record AreNow {A : Type 0} (place : A → Place) (T : Kid → A → Type 0) (b : BareTrees) (n : NodeId) (entries : List A) : Type 0 where
  pub order : AreInOrder (sight_at b n) (children_at b n) (map place entries)
  pub told : Every (λ e. T (kid_at b (place e).1) e) entries

-- the last turn in the place of another one than now
abbrev pub marked_turn : ℕ → ℕ → ℕ
marked_turn last now = if last == now then last else last_turn

-- for its inline sizes
abbrev pub ArePastMembers : BareTrees → NodeId → List ToldMember → Type 0
ArePastMembers b n told = ArePast place_of turn_in Tells b n told

abbrev pub AreToldMembers : BareTrees → NodeId → List ToldMember → Type 0
AreToldMembers b n told = AreNow place_of Tells b n told

abbrev pub marked_at : (NodeId → ℕ) → ToldMember → ToldMember
marked_at turn e = record e { turn = marked_turn e.turn (turn e.member.child) }

-- with the turn that it has
abbrev pub turned_at : (NodeId → ℕ) → ToldMember → ToldMember
turned_at turn e = record e { turn = turn e.member.child }

-- for its block size, where it has this inline size
abbrev pub ArePastAlong : BareTrees → NodeId → ℤ → List ToldAlong → Type 0
ArePastAlong b n width told = ArePast along_place along_turn (TellsAlong (sight_at b n).label width) b n told

abbrev pub AreToldAlong : BareTrees → NodeId → ℤ → List ToldAlong → Type 0
AreToldAlong b n width told = AreNow along_place (TellsAlong (sight_at b n).label width) b n told

abbrev pub along_marked : (NodeId → ℕ) → ToldAlong → ToldAlong
along_marked turn e = record e { turn = marked_turn e.turn (turn e.child) }

abbrev pub along_turned : (NodeId → ℕ) → ToldAlong → ToldAlong
along_turned turn e = record e { turn = turn e.child }

-- what is taken of it
abbrev pub IsPastAlong : BareTrees → NodeId → KeptAlong → Type 0
IsPastAlong b n k = ArePastAlong b n k.width k.told
