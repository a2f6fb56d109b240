-- The children of a flex container, one after another.
use Rattle.std.proofs.Common.{arith, ap, subst, ◌≡◌, ◌∙◌, sym, refl, ℕ, zero, suc, ◌+◌, ◌<◌, ◌≤◌, ℤ, pos, ◌+ℤ◌, ◌≤ℤ◌, Bool, List, [], ◌∷◌, ◌++◌, length, drop, map, take, false, true, None, Option, Some}
use Rattle.std.specs.Prelude.{get_or, not, ◌&&◌}
use Rattle.std.proofs.lemmas.List.{drop_more, map-append, take_all, take_more}
use Rattle.inline_sizes.specs.Flexes.{flex_seen, member_of}
use Rattle.placing.specs.declared.lined.Member.{Member}
use Rattle.lunit.specs.Units.{IsUnits, clamp}
use Rattle.node_arena.specs.declared.number.NodeId.{NodeId}
use Rattle.part_rules.specs.declared.flex.FlexItem.{FlexItem}
use Rattle.part_rules.specs.Lists.{zipped}
use Rattle.placing.specs.Nodes.{BareTrees, kid_at, sight_at}
use Rattle.tree_rules.specs.FlexSizes as rules
use Rattle.tree_rules.specs.Labels.{ContentStyle, GridStyle, Label}
use Rattle.tree_rules.specs.NodeSizes.{block_used, bounds_of, inline_used, inner, margins}
use Rattle.tree_rules.specs.declared.kind.NodeKind.TheVariants as kind
use Rattle.block_sizes.specs.Flexes.{AreCovering, HaveInner}
use Rattle.block_sizes.specs.Settling.{AreRoomy, block_of, settled_seen}

-- ---- lists

-- one item more of a list
pub map_step : {A B : Type 0} (f : A → B) (xs : List A) (k : ℕ) (x : A) (old new : List B) (y : B) → k < length xs → old ≡ map f (take k xs) → new ≡ old ++ y ∷ [] → y ≡ f (get_or xs k x) → new ≡ map f (take (k + 1) xs)
map_step f xs k x old new y h so_far grown value =
    grown ∙ (λ j. so_far j ++ value j ∷ [])
    ∙ sym (map-append f (take k xs) (get_or xs k x ∷ []))
    ∙ ap (map f) (sym (take_more xs k x h))

pub map_all : {A B : Type 0} (f : A → B) (xs : List A) (k : ℕ) (done : List B) → length xs ≤ k → done ≡ map f (take k xs) → done ≡ map f xs
map_all f xs k done h so_far = so_far ∙ ap (map f) (take_all k xs h)

-- one item more of a list that is itself a map
pub mapped_step : {A B C : Type 0} (f : B → C) (g : A → B) (xs : List A) (k : ℕ) (x : A) (old new : List C) (y : C) → k < length xs → x ≡ get_or xs k x → old ≡ map f (map g (take k xs)) → new ≡ old ++ y ∷ [] → y ≡ f (g x) → new ≡ map f (map g (take (k + 1) xs))
mapped_step f g xs k x old new y h is so_far grown value =
    grown ∙ (λ j. so_far j ++ (value ∙ ap (λ z. f (g z)) is) j ∷ [])
    ∙ sym (map-append f (map g (take k xs)) (g (get_or xs k x) ∷ []))
    ∙ ap (map f) (sym (map-append g (take k xs) (get_or xs k x ∷ [])))
    ∙ ap (λ l. map f (map g l)) (sym (take_more xs k x h))

pub mapped_all : {A B C : Type 0} (f : B → C) (g : A → B) (xs : List A) (k : ℕ) (done : List C) → length xs ≤ k → done ≡ map f (map g (take k xs)) → done ≡ map f (map g xs)
mapped_all f g xs k done h so_far = so_far ∙ ap (λ l. map f (map g l)) (take_all k xs h)

mapped_at : {A B : Type 0} (f : A → B) (xs : List A) (k : ℕ) (d : B) (e : A) → k < length xs → get_or (map f xs) k d ≡ f (get_or xs k e)
mapped_at f [] k d e h = absurd (omega (arith, h))
mapped_at f (x ∷ xs) zero d e h = refl
mapped_at f (x ∷ xs) (suc k) d e h = mapped_at f xs k d e (omega (arith, h))

zipped_at : {A B C : Type 0} (f : A → B → C) (xs : List A) (ys : List B) (k : ℕ) (d : C) (a : A) (b : B) → k < length xs → length ys ≡ length xs → get_or (zipped f xs ys) k d ≡ f (get_or xs k a) (get_or ys k b)
zipped_at f [] ys k d a b h e = absurd (omega (arith, h))
zipped_at f (x ∷ xs) [] k d a b h e = absurd (omega (arith, e))
zipped_at f (x ∷ xs) (y ∷ ys) zero d a b h e = refl
zipped_at f (x ∷ xs) (y ∷ ys) (suc k) d a b h e = zipped_at f xs ys k d a b (omega (arith, h)) (omega (arith, e))

zipped_length : {A B C : Type 0} (f : A → B → C) (xs : List A) (ys : List B) → length ys ≡ length xs → length (zipped f xs ys) ≡ length xs
zipped_length f [] ys h = refl
zipped_length f (x ∷ xs) [] h = absurd (omega (arith, h))
zipped_length f (x ∷ xs) (y ∷ ys) h = ap suc (zipped_length f xs ys (omega (arith, h)))

pub map_length : {A B : Type 0} (f : A → B) (xs : List A) → length (map f xs) ≡ length xs
map_length f [] = refl
map_length f (x ∷ xs) = ap suc (map_length f xs)

-- ---- one container

pub flex_label : (b : BareTrees) (n : NodeId) → (sight_at b n).label ≡ (flex_seen b n).label
unfolding flex_seen
flex_label b n = refl

pub seen_length : (b : BareTrees) (n : NodeId) (members : List Member) → map (member_of b) members ≡ (flex_seen b n).members → length (flex_seen b n).members ≡ length members
seen_length b n members same = sym (ap length same) ∙ map_length (member_of b) members

pub settled_length : (b : BareTrees) (n : NodeId) (members : List Member) (boxes : List ℤ) → map (member_of b) members ≡ (flex_seen b n).members → length boxes ≡ length members → length (settled_seen b n boxes) ≡ length members
unfolding settled_seen
settled_length b n members boxes same e =
    let counted : length (flex_seen b n).members ≡ length members = seen_length b n members same in
    zipped_length rules.settled_at (flex_seen b n).members boxes (e ∙ sym counted) ∙ counted

-- the child at this place
pub settled_member : (b : BareTrees) (n : NodeId) (members : List Member) (boxes : List ℤ) (k : ℕ) (m : Member) (d : rules.Settled) → map (member_of b) members ≡ (flex_seen b n).members → length boxes ≡ length members → k < length members
    → (get_or (settled_seen b n boxes) k d).member ≡ member_of b (get_or members k m)
unfolding settled_seen
settled_member b n members boxes k m d same e h =
    let counted : length (flex_seen b n).members ≡ length members = seen_length b n members same in
    ap (λ (s : rules.Settled). s.member) (zipped_at rules.settled_at (flex_seen b n).members boxes k d (member_of b m) (pos 0) (omega (arith, h, counted)) (e ∙ sym counted))
    ∙ sym (ap (λ (ms : List rules.Member). get_or ms k (member_of b m)) same)
    ∙ mapped_at (member_of b) members k (member_of b m) m h

-- its block size
pub settled_block : (settled : List rules.Settled) (blocks : List ℤ) (k : ℕ) (block : ℤ) (d : rules.Settled) → blocks ≡ map block_of settled → k < length settled → block ≡ get_or blocks k block → block ≡ (get_or settled k d).down.block
settled_block settled blocks k block d e h is = is ∙ ap (λ (zs : List ℤ). get_or zs k block) e ∙ mapped_at block_of settled k block d h

-- ---- what is made of it

-- the hypothetical cross size of a child of a row with these values and this block size, with its margins
abbrev pub outer_by : GridStyle → ContentStyle → ℤ → ℤ
outer_by g c block = clamp (block_used (bounds_of None c.border_box g.rows c.block) false (pos 0) (pos 0) block +ℤ margins g.rows)

pub outer_settled : (s : rules.Settled) (m : rules.Member) (block size : ℤ) → s.member ≡ m → block ≡ s.down.block → size ≡ outer_by m.kid.label.grid m.kid.label.content block → size ≡ rules.outer_cross false None s
outer_settled s m block size member e value =
    value ∙ ap (outer_by m.kid.label.grid m.kid.label.content) e ∙ sym (ap (λ (x : rules.Member). outer_by x.kid.label.grid x.kid.label.content s.down.block) member)

-- a child with these values as an item along the main axis
abbrev pub item_by : Bool → Option ℤ → GridStyle → ContentStyle → ℤ × ℤ → FlexItem
item_by column main g c sizes = rules.flex_item column main (record { name = []; kind = kind.Flex; grid = g; content = c }) sizes

pub item_settled : (s : rules.Settled) (m : rules.Member) (block : ℤ) (item : FlexItem) → s.member ≡ m → block ≡ s.down.block → item ≡ item_by true None m.kid.label.grid m.kid.label.content (block, block) → item ≡ rules.column_item None s
item_settled s m block item member e value =
    value ∙ ap (λ (z : ℤ). item_by true None m.kid.label.grid m.kid.label.content (z, z)) e ∙ sym (ap (λ (x : rules.Member). item_by true None x.kid.label.grid x.kid.label.content (s.down.block, s.down.block)) member)

-- ---- room for borders and paddings

pub roomy_more : (members : List rules.Member) (boxes : List ℤ) (m : rules.Member) (x : ℤ) → AreRoomy members boxes → inner m.kid.label.grid.columns ≤ℤ x → AreRoomy (members ++ m ∷ []) (boxes ++ x ∷ [])
roomy_more [] [] m x h k = (k, tt)
roomy_more [] (y ∷ boxes) m x h k = absurd h
roomy_more (o ∷ members) [] m x h k = absurd h
roomy_more (o ∷ members) (y ∷ boxes) m x h k = (h.0, roomy_more members boxes m x h.1 k)

-- main sizes that cover the borders and paddings of the items are roomy for the children
pub covering_roomy : (width : ℤ) (members : List rules.Member) (mains : List ℤ) → AreCovering (map (λ (m : rules.Member). rules.flex_item false (Some width) m.kid.label m.inline) members) mains → AreRoomy members mains
covering_roomy width [] [] h = tt
covering_roomy width [] (x ∷ mains) h = absurd h
covering_roomy width (m ∷ members) [] h = absurd h
covering_roomy width (m ∷ members) (x ∷ mains) h = (h.0, covering_roomy width members mains h.1)

pub inner_more : (items : List FlexItem) (i : FlexItem) → HaveInner items → IsUnits i.inner → HaveInner (items ++ i ∷ [])
inner_more [] i h u = (u, tt)
inner_more (j ∷ items) i h u = (h.0, inner_more items i h.1 u)

-- one child more has a box
pub roomy_step : (b : BareTrees) (xs : List Member) (k : ℕ) (x : Member) (old new : List ℤ) (y : ℤ) → k < length xs → x ≡ get_or xs k x → AreRoomy (map (member_of b) (take k xs)) old → new ≡ old ++ y ∷ [] → inner (kid_at b x.child).label.grid.columns ≤ℤ y →
    AreRoomy (map (member_of b) (take (k + 1) xs)) new
roomy_step b xs k x old new y h is room grown fits =
    let more : map (member_of b) (take k xs) ++ member_of b x ∷ [] ≡ map (member_of b) (take (k + 1) xs) =
    ap (λ (z : Member). map (member_of b) (take k xs) ++ member_of b z ∷ []) is ∙ sym (map-append (member_of b) (take k xs) (get_or xs k x ∷ [])) ∙ ap (map (member_of b)) (sym (take_more xs k x h)) in
    subst (λ (ms : List rules.Member). AreRoomy ms new) more (subst (λ (bs : List ℤ). AreRoomy (map (member_of b) (take k xs) ++ member_of b x ∷ []) bs) (sym grown) (roomy_more (map (member_of b) (take k xs)) old (member_of b x) y room fits))

pub roomy_all : (b : BareTrees) (n : NodeId) (xs : List Member) (k : ℕ) (boxes : List ℤ) → length xs ≤ k → map (member_of b) xs ≡ (flex_seen b n).members → AreRoomy (map (member_of b) (take k xs)) boxes → AreRoomy (flex_seen b n).members boxes
roomy_all b n xs k boxes h same room = subst (λ (ms : List rules.Member). AreRoomy ms boxes) (ap (map (member_of b)) (take_all k xs h) ∙ same) room

-- a node with these values
abbrev pub values : GridStyle → ContentStyle → Label
values g c = record { name = []; kind = kind.Flex; grid = g; content = c }

-- the inline size of a child of a column, by its container's values and its own
abbrev pub box_by : GridStyle → ContentStyle → GridStyle → ContentStyle → ℤ → ℤ × ℤ → ℤ
box_by kg kc g c width sizes = inline_used (bounds_of (Some width) c.border_box g.columns c.inline) (not kc.wrap && rules.is_stretched_across true (values kg kc) (values g c)) (margins g.columns) width sizes

-- the child at a place, and those after it
pub settled_next : (b : BareTrees) (n : NodeId) (members : List Member) (boxes : List ℤ) (k : ℕ) (m : Member) (x : ℤ) → map (member_of b) members ≡ (flex_seen b n).members → length boxes ≡ length members → k < length members → m ≡ get_or members k m → x ≡ get_or boxes k x
    → drop k (settled_seen b n boxes) ≡ rules.settled_at (member_of b m) x ∷ drop (k + 1) (settled_seen b n boxes)
unfolding settled_seen
settled_next b n members boxes k m x same e h is at =
    let counted : length (flex_seen b n).members ≡ length members = seen_length b n members same in
    let s : rules.Settled = rules.settled_at (member_of b m) x in
    let there : get_or (settled_seen b n boxes) k s ≡ s =
    zipped_at rules.settled_at (flex_seen b n).members boxes k s (member_of b m) x (omega (arith, h, counted)) (e ∙ sym counted)
    ∙ (λ i. rules.settled_at (get_or (sym same i) k (member_of b m)) (sym at i))
    ∙ ap (λ (o : rules.Member). rules.settled_at o x) (mapped_at (member_of b) members k (member_of b m) m h ∙ ap (member_of b) (sym is)) in
    drop_more (settled_seen b n boxes) k s (omega (arith, h, settled_length b n members boxes same e))
    ∙ ap (λ (t : rules.Settled). t ∷ drop (k + 1) (settled_seen b n boxes)) there
