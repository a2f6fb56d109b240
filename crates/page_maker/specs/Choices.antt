-- What each node of a generated document is (own rule).
use Rattle.std.specs.Prelude.{ℕ, ◌+◌, ◌*◌, ◌≤◌, ◌==◌, Bool, ◌||◌, nat_lt, if◌then◌else◌, ⊤}
use Rattle.page_maker.specs.declared.choice.Choice.{Choice}
use Rattle.page_maker.specs.declared.choice.Choice.TheVariants as choice
use Rattle.page_maker.specs.Draws.{stepped, drawn}

-- what was chosen, and the state after the draws for it
abbrev pub Chosen : Type 0
Chosen = Choice × ℕ

-- a leaf of a fixed size: its width is drawn, then its height
abbrev pub fixed_with : ℕ → ℕ → Chosen
fixed_with w h = (choice.Fixed (1 + drawn 50 w) (1 + drawn 30 h), h)

unfoldable pub fixed_from : ℕ → Chosen
fixed_from x = fixed_with (stepped x) (stepped (stepped x))

-- five words, drawn in their order
abbrev pub words_with : ℕ → ℕ → ℕ → ℕ → ℕ → Chosen
words_with a b c d e = (choice.Words (5 + drawn 40 a) (5 + drawn 40 b) (5 + drawn 40 c) (5 + drawn 40 d) (5 + drawn 40 e), e)

unfoldable pub words_from : ℕ → Chosen
words_from x =
    words_with (stepped x) (stepped (stepped x)) (stepped (stepped (stepped x))) (stepped (stepped (stepped (stepped x))))
    (stepped (stepped (stepped (stepped (stepped x)))))

-- one of two leaves
unfoldable pub leaf_from : ℕ → Chosen
leaf_from x = if drawn 2 (stepped x) == 0 then fixed_from (stepped x) else words_from (stepped x)

-- one of three containers
abbrev pub container : ℕ → Choice
container n = if n == 0 then choice.Lent else if n == 1 then choice.Wrapping else choice.Columns

-- the node i of so many has children
abbrev pub has_children : ℕ → ℕ → Bool
has_children nodes i = nat_lt (8 * i + 1) nodes

-- it is a container
abbrev pub is_container : ℕ → ℕ → Bool
is_container nodes i = i == 0 || has_children nodes i

-- what the node i of so many is, by the draws from a state on
unfoldable pub chosen : ℕ → ℕ → ℕ → Chosen
chosen nodes i x =
    if i == 0 then (choice.Root, x)
    else if has_children nodes i then (container (drawn 3 (stepped x)), stepped x)
    else leaf_from x

-- the px of a leaf are few
abbrev pub IsDrawn : Choice → Type 0
IsDrawn choice.Root = ⊤
IsDrawn choice.Lent = ⊤
IsDrawn choice.Wrapping = ⊤
IsDrawn choice.Columns = ⊤
IsDrawn (choice.Fixed w h) = (w ≤ 50) × (h ≤ 50)
IsDrawn (choice.Words a b c d e) = (a ≤ 50) × ((b ≤ 50) × ((c ≤ 50) × ((d ≤ 50) × (e ≤ 50))))
