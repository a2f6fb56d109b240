-- What the leaves of a tree remember: the last of what was measured for them since an edit touched them (own rule).
use Rattle.std.specs.Prelude.{◌≡◌, refl, ℕ, ◌≤◌, ◌==◌, ◌&&◌, false, List, [], ◌∷◌, ◌++◌, ◌⊎◌, ℤ, pos, length, map, codes, if◌then◌else◌, ⊤}
use Rattle.std.specs.Str.{bytes_eq}
use Rattle.node_arena.specs.declared.number.NodeId.{NodeId}
use Rattle.outside.specs.declared.event.Event.{Event}
use Rattle.outside.specs.declared.event.Event.TheVariants.{Begin, Measured}
use Rattle.outside.specs.declared.event.Width.{Width}
use Rattle.outside.specs.declared.event.Width.TheVariants.{Narrowest, Widest, At}
use Rattle.placing.specs.declared.node.Answer.{Answer}
use Rattle.placing.specs.Nodes.{BareTrees, sight_at}
use Rattle.tree_rules.specs.declared.query.Ask.{Ask}
use Rattle.tree_rules.specs.declared.query.Ask.TheVariants as ask
use Rattle.tree_rules.specs.declared.query.Given.TheVariants as given
use Rattle.tree_rules.specs.declared.query.Query.{Query}
use Rattle.tree_rules.specs.AskedQueries.{block_query, inline_query}
use Rattle.tree_rules.specs.Frames.{given_size}
use Rattle.tree_rules.specs.Queries.{is_container}
use Rattle.sparing.specs.Sparing.{Touches, AllDiffer}

-- the widths that were measured for a leaf since an edit touched it, after these
unfoldable pub since : Touches → List ℕ → List Width → List Event → List Width
since touches name done [] = done
since touches name done (Begin k ∷ events) = since touches name (if touches k name then [] else done) events
since touches name done (Measured leaf width ∷ events) = since touches name (if bytes_eq leaf name then done ++ width ∷ [] else done) events

-- ---- widths that are measured together

-- by the first of them
abbrev pub spread : Width → List Width
spread Narrowest = Narrowest ∷ Widest ∷ []
spread Widest = []
spread (At width) = At width ∷ []

abbrev pub all_spread : List Width → List Width
all_spread [] = []
all_spread (first ∷ rest) = spread first ++ all_spread rest

-- a width that is measured first
abbrev pub IsFirst : Width → Type 0
IsFirst Narrowest = ⊤
IsFirst Widest = ⊥
IsFirst (At width) = ⊤

abbrev pub AreFirst : List Width → Type 0
AreFirst [] = ⊤
AreFirst (first ∷ rest) = IsFirst first × AreFirst rest

-- Of what was measured the last is remembered, each by its first width; where less than all is remembered these are sixteen.
pub record Remembers (measured kept : List Width) : Type 0 where
  pub front : List Width
  pub parts : measured ≡ front ++ all_spread kept
  pub whole : (front ≡ []) ⊎ (length kept ≡ 16)
  pub few : length kept ≤ 16
  pub differ : AllDiffer kept
  pub first : AreFirst kept

-- ---- what a leaf keeps

-- a question to a leaf: for its inline sizes, or for its block size at a width
abbrev pub IsLeafQuery : Query → Type 0
IsLeafQuery q = (q ≡ inline_query false []) ⊎ ((width : ℤ) × (q ≡ block_query false [] (given.Size width)))

-- the first width that is measured for it
abbrev pub width_by : Ask → Query → Width
width_by ask.Inline q = Narrowest
width_by ask.LendColumns q = Widest
width_by ask.Block q = At (given_size q.inline)
width_by ask.LendRows q = Widest
width_by ask.Frames q = Widest

abbrev pub width_of : Query × Answer → Width
width_of e = width_by e.0.ask e.0

abbrev pub AreLeafQueries : List (Query × Answer) → Type 0
AreLeafQueries [] = ⊤
AreLeafQueries (e ∷ rest) = IsLeafQuery e.0 × AreLeafQueries rest

-- the answers that a leaf keeps are the last of what was measured for it since an edit touched it
pub record RecallsLeaf (touches : Touches) (name : List ℕ) (events : List Event) (kept : List (Query × Answer)) : Type 0 where
  pub widths : Remembers (since touches name [] events) (map width_of kept)
  pub queries : AreLeafQueries kept

-- a leaf of a tree
abbrev pub IsLeaf : BareTrees → NodeId → Type 0
IsLeaf b n = is_container (sight_at b n).label.kind ≡ false

-- after these events that holds of each leaf of the tree
abbrev pub Recalls : Touches → BareTrees → List Event → (NodeId → List (Query × Answer)) → Type 0
Recalls touches b events kept = (n : NodeId) → IsLeaf b n → RecallsLeaf touches (sight_at b n).label.name events (kept n)

-- two leaves of a tree have two names
abbrev pub AreNamed : BareTrees → Type 0
AreNamed b = (m n : NodeId) → IsLeaf b m → IsLeaf b n → (sight_at b m).label.name ≡ (sight_at b n).label.name → m ≡ n

-- ---- worked rows

abbrev text : List ℕ
text = codes "p07"

-- the third edit touches the text
abbrev third : Touches
third k name = (k == 3) && bytes_eq name text

since_touched : since third text [] (Begin 0 ∷ Measured text Narrowest ∷ Begin 3 ∷ Measured text Widest ∷ Measured (codes "p08") Narrowest ∷ []) ≡ Widest ∷ []
unfolding since
since_touched = refl

since_other : since third text [] (Begin 0 ∷ Measured text Narrowest ∷ Begin 2 ∷ Measured text (At (pos 64)) ∷ []) ≡ Narrowest ∷ At (pos 64) ∷ []
unfolding since
since_other = refl
