-- Another value of one node, and the computed styles that follow, as a change of the numbered tree.
use Rattle.std.proofs.Common.{◌≡◌, ℕ, ℤ, suc, ◌≤◌, Bool, true, false, ◌&&◌, List, ◌∷◌, Option, Some, None, IsSome, cond, map, refl, sym, ap, subst, ◌∙◌, arith, inl, inr}
use Rattle.std.specs.Prelude.{◌⊎◌, slice_get}
use Rattle.plain_tree.specs.Trees.{leafless, tree, count_of}
use Rattle.node_arena.specs.declared.number.NodeId.{NodeId}
use Rattle.node_arena.specs.Numbers.{EachNode, IsDistinct, Part, below_at, below_of, child_at, is_among, mapped, number_of, part_at, same, times, tops, value_at, value_of}
use Rattle.node_arena.proofs.Changed.{tops_mapped}
use Rattle.node_arena.proofs.Parts.{each_weaker, numbered}
use Rattle.node_arena.proofs.Same.{cond_no, cond_yes, one_yes, same_is, same_refl}
use Rattle.style_types.specs.Computed.{computed_style, font_of}
use Rattle.style_types.specs.Styles.{StyleMap}
use Rattle.tree_rules.specs.Chains.{sibling_of}
use Rattle.tree_rules.specs.Documents.{first_font}
use Rattle.doc_text.specs.Label.{Label}
use Rattle.doc_text.specs.Texts.{Word}
use Rattle.placing.specs.declared.node.Node.{Node}
use Rattle.placing.specs.Keeping.{standing_of}
use Rattle.placing.specs.Kept.{past_at, past_of, turn_at}
use Rattle.placing.specs.Nodes.{NodeTrees, bare, label_of_bare}
use Rattle.placing.specs.Told.{no_past}
use Rattle.placing.proofs.Mapped.{mapped_twice, part_by, part_mapped}
use Rattle.reach_frame.specs.Local.{IsLocal, PlacesSame}
use Rattle.reach_frame.proofs.Forests.{AreParts, below_parts, own_parts}
use Rattle.reach_frame.proofs.Frame.{not_both}
use Rattle.reach_frame.proofs.Values.{StaysApart, at_node, faces, label_at, sight_children, sight_faces, sight_labels, values_local}
use Rattle.page_tree.specs.Documents.{label_of}
use Rattle.page_tree.specs.Fonts.{AreStyled, HasStyle, IsStyled, root_font}
use Rattle.page_tree.specs.Restyled.{Styles, styled_from}
use Rattle.page_tree.specs.Shapes.{Relabels}
use Rattle.page_tree.proofs.Reaching.{AreSettled, IsChange, IsFrom, each_at, each_with, there_in}
use Rattle.page_tree.proofs.Locals.{touched_number}

-- all nodes of these trees are touched, where subgrids feel it
pub all_touched : (touched : NodeId → Bool) (grid : Bool) (g : NodeId → Node → Node) (s : NodeTrees) → grid ≡ true → ((k : NodeId) → 1 ≤ times k s → touched k ≡ true) → StaysApart touched grid g s
all_touched touched grid g leafless e h = tt
all_touched touched grid g (tree x below after) e h = (
  (λ c. absurd (not_both (touched x.0) own c), λ c. absurd (not_both (grid && touched x.0) (λ i. e i && own i) c)),
  (all_touched touched grid g below e (λ k l. h k (omega arith)), all_touched touched grid g after e (λ k l. h k (omega arith))),
)
  where
    own : touched x.0 ≡ true
    own = h x.0 (omega (arith, one_yes (same x.0 x.0) (same_refl x.0)))

module _ (touched : NodeId → Bool) (grid : Bool) (id : NodeId) (value : Node) (styles : Styles) (t : NodeTrees) (d : IsDistinct t) where
  -- a node as it is then
  abbrev pub given : NodeId → Node → Node
  given k v = record (cond (same k id) value v) { style = styled_from styles k (cond (same k id) value v).style }

  -- The edited node is touched, and its parent where subgrids feel the edit. Where they do not, it shows the same face. Its font size is the same, or all nodes below it
  -- are touched.
  abbrev pub SameFace : Type 0
  SameFace = (f r : ℤ) (v : Node) (style : StyleMap) → value_at t id ≡ Some v → HasStyle f r v → style ≡ computed_style f r value.declared → sibling_of (label_at (record value { style = style })) ≡ sibling_of (label_at v)

  abbrev pub SameFonts : Type 0
  SameFonts = (em rem : ℤ) (v : Node) → value_at t id ≡ Some v → font_of em rem value.declared ≡ font_of em rem v.declared

  abbrev pub AllBelow : Type 0
  AllBelow = (grid ≡ true) × ((k : NodeId) → 1 ≤ times k (below_at t id) → touched k ≡ true)

  label_by : (f r : ℤ) (x : NodeId × Node) → same x.0 id ≡ false → HasStyle f r x.1 → HasStyle f r (given x.0 x.1) → label_at (given x.0 x.1) ≡ label_at x.1
  label_by f r x e old new = at (cond (same x.0 id) value x.1) (cond_no (same x.0 id) value x.1 e) new
    where
      at : (w : Node) → w ≡ x.1 → HasStyle f r (record w { style = styled_from styles x.0 w.style }) → label_at (record w { style = styled_from styles x.0 w.style }) ≡ label_at x.1
      at w q h =
          let style : styled_from styles x.0 w.style ≡ x.1.style = h ∙ ap (λ (n : Node). computed_style f r n.declared) q ∙ sym old in
          λ i. label_of_bare (record { name = (q i).name; kind = (q i).kind; declared = (q i).declared; style = style i })

  -- the font size that a node gives
  font_given : SameFonts → (em rem : ℤ) (x : NodeId × Node) → value_at t x.0 ≡ Some x.1 → font_of em rem (given x.0 x.1).declared ≡ font_of em rem x.1.declared
  font_given fonts em rem x there = at (same x.0 id) refl
    where
      at : (c : Bool) → same x.0 id ≡ c → font_of em rem (cond (same x.0 id) value x.1).declared ≡ font_of em rem x.1.declared
      at true e = ap (λ (w : Node). font_of em rem w.declared) (cond_yes (same x.0 id) value x.1 e) ∙ fonts em rem x.1 (ap (value_at t) (sym (same_is x.0 id e)) ∙ there)
      at false e = ap (λ (w : Node). font_of em rem w.declared) (cond_no (same x.0 id) value x.1 e)

  font_other : (em rem : ℤ) (x : NodeId × Node) → same x.0 id ≡ false → font_of em rem (given x.0 x.1).declared ≡ font_of em rem x.1.declared
  font_other em rem x e = ap (λ (w : Node). font_of em rem w.declared) (cond_no (same x.0 id) value x.1 e)

  -- ---- where areas stay
  abbrev pub SameStanding : Type 0
  SameStanding = (f r : ℤ) (v : Node) (style : StyleMap) → value_at t id ≡ Some v → HasStyle f r v → style ≡ computed_style f r value.declared → standing_of (sibling_of (label_at (record value { style = style }))) ≡ standing_of (sibling_of (label_at v))

  -- only the edited node has other values, and areas depend on none of them
  abbrev pub Settles : NodeId × Node → Type 0
  Settles x = (same x.0 id ≡ false → label_at (given x.0 x.1) ≡ label_at x.1) × (standing_of (sibling_of (label_at (given x.0 x.1))) ≡ standing_of (sibling_of (label_at x.1)))

  module _ (fonts : SameFonts) (stand : SameStanding) where
    settle : (f r : ℤ) (x : NodeId × Node) → value_at t x.0 ≡ Some x.1 → HasStyle f r x.1 → HasStyle f r (given x.0 x.1) → Settles x
    settle f r x there old new = (λ e. label_by f r x e old new, at (same x.0 id) refl)
      where
        edited : same x.0 id ≡ true → (w : Node) → w ≡ value → HasStyle f r (record w { style = styled_from styles x.0 w.style }) →
            standing_of (sibling_of (label_at (record w { style = styled_from styles x.0 w.style }))) ≡ standing_of (sibling_of (label_at x.1))
        edited e w q h =
            (λ i. standing_of (sibling_of (label_at (record (q i) { style = styled_from styles x.0 w.style }))))
            ∙ stand f r x.1 (styled_from styles x.0 w.style) (ap (value_at t) (sym (same_is x.0 id e)) ∙ there) old (h ∙ ap (λ (n : Node). computed_style f r n.declared) q)

        at : (c : Bool) → same x.0 id ≡ c → standing_of (sibling_of (label_at (given x.0 x.1))) ≡ standing_of (sibling_of (label_at x.1))
        at true e = edited e (cond (same x.0 id) value x.1) (cond_yes (same x.0 id) value x.1 e) new
        at false e = ap (λ l. standing_of (sibling_of l)) (label_by f r x e old new)

    settles_in : (em rem : ℤ) (s : NodeTrees) → AreParts t s → AreStyled em rem s → AreStyled em rem (mapped given s) → EachNode Settles s
    settles_in em rem leafless p a b = tt
    settles_in em rem (tree x below after) p a b =
        let font = font_of em rem x.1.declared in
        let same_font : font_of em rem (given x.0 x.1).declared ≡ font = font_given fonts em rem x (ap value_of p.0) in (
          settle font rem x (ap value_of p.0) a.0 (subst (λ z. HasStyle z rem (given x.0 x.1)) same_font b.0),
          (settles_in font rem below p.1.0 a.1.0 (subst (λ z. AreStyled z rem (mapped given below)) same_font b.1.0), settles_in em rem after p.1.1 a.1.1 b.1.1),
        )

    pub settles_root : count_of t ≡ 1 → IsStyled t → IsStyled (mapped given t) → EachNode Settles t
    settles_root one a b = at t one a b (own_parts t d)
      where
        at : (s : NodeTrees) → count_of s ≡ 1 → IsStyled s → IsStyled (mapped given s) → AreParts t s → EachNode Settles s
        at leafless c a b p = absurd (omega (arith, c))
        at (tree x below (tree y under later)) c a b p = absurd (omega (arith, c))
        at (tree x below leafless) c a b p =
            let font = root_font x.1.declared in
            let same_font : root_font (given x.0 x.1).declared ≡ font = font_given fonts first_font first_font x (ap value_of p.0) in (
              settle font font x (ap value_of p.0) a.0 (subst (λ z. HasStyle z z (given x.0 x.1)) same_font b.0),
              (settles_in font font below p.1.0 a.1 (subst (λ z. AreStyled z z (mapped given below)) same_font b.1), tt),
            )

  module _ (own : touched id ≡ true) (parent : grid ≡ true → (k : NodeId) (j : ℕ) → child_at t k j ≡ Some id → touched k ≡ true) (face : grid ≡ false → SameFace) (fonts : SameFonts ⊎ AllBelow) where
    face_by : grid ≡ false → (f r : ℤ) (x : NodeId × Node) → value_at t x.0 ≡ Some x.1 → same x.0 id ≡ true → HasStyle f r x.1 → HasStyle f r (given x.0 x.1) → sibling_of (label_at (given x.0 x.1)) ≡ sibling_of (label_at x.1)
    face_by g f r x there e old new = at (cond (same x.0 id) value x.1) (cond_yes (same x.0 id) value x.1 e) new
      where
        at : (w : Node) → w ≡ value → HasStyle f r (record w { style = styled_from styles x.0 w.style }) → sibling_of (label_at (record w { style = styled_from styles x.0 w.style })) ≡ sibling_of (label_at x.1)
        at w q h =
            (λ i. sibling_of (label_at (record (q i) { style = styled_from styles x.0 w.style })))
            ∙ face g f r x.1 (styled_from styles x.0 w.style) (ap (value_at t) (sym (same_is x.0 id e)) ∙ there) old (h ∙ ap (λ (n : Node). computed_style f r n.declared) q)

    -- what a parent sees of these trees below it; they stand below a node of the font size f, which has not changed
    faces_same : (f r : ℤ) (s : NodeTrees) → AreParts t s → AreStyled f r s → AreStyled f r (mapped given s) → ((j : ℕ) → number_of (slice_get (tops s) j) ≡ Some id → (grid ≡ false) × SameFonts) → faces (mapped given s) ≡ faces s
    faces_same f r leafless p a b h = refl
    faces_same f r (tree x below after) p a b h = λ i. at (same x.0 id) refl i ∷ faces_same f r after p.1.1 a.1.1 b.1.1 (λ j e. h (suc j) e) i
      where
        at : (c : Bool) → same x.0 id ≡ c → sibling_of (label_at (given x.0 x.1)) ≡ sibling_of (label_at x.1)
        at true e =
            let g = h 0 (ap Some (same_is x.0 id e)) in
            face_by g.0 (font_of f r x.1.declared) r x (ap value_of p.0) e a.0 (subst (λ z. HasStyle z r (given x.0 x.1)) (font_given g.1 f r x (ap value_of p.0)) b.0)
        at false e = ap sibling_of (label_by (font_of f r x.1.declared) r x e a.0 (subst (λ z. HasStyle z r (given x.0 x.1)) (font_other f r x e) b.0))

    -- where subgrids do not feel the edit the font size is the same
    kept_fonts : grid ≡ false → SameFonts
    kept_fonts g = at fonts
      where
        at : SameFonts ⊎ AllBelow → SameFonts
        at (inl f) = f
        at (inr f) = absurd (not_both grid f.0 g)

    child_is : (x : NodeId × Node) (below : NodeTrees) → part_at t x.0 ≡ Some (x.1, below) → (grid && touched x.0) ≡ false → (j : ℕ) → number_of (slice_get (tops below) j) ≡ Some id → (grid ≡ false) × SameFonts
    child_is x below p c j e = by grid refl
      where
        by : (g : Bool) → grid ≡ g → (grid ≡ false) × SameFonts
        by true g = absurd (not_both (grid && touched x.0) (λ i. g i && parent g x.0 j (ap (λ o. number_of (slice_get (tops (below_of o)) j)) p ∙ e) i) c)
        by false g = (g, kept_fonts g)

    -- one node, whose font size f has not changed
    abbrev Head : NodeId × Node → NodeTrees → Type 0
    Head x below = (touched x.0 ≡ false → label_at (given x.0 x.1) ≡ label_at x.1) × ((grid && touched x.0) ≡ false → (sibling_of (label_at (given x.0 x.1)) ≡ sibling_of (label_at x.1)) × (faces (mapped given below) ≡ faces below))

    head : (f r : ℤ) (x : NodeId × Node) (below : NodeTrees) → part_at t x.0 ≡ Some (x.1, below) → AreParts t below → HasStyle f r x.1 → HasStyle f r (given x.0 x.1) → AreStyled f r below → AreStyled f r (mapped given below) → Head x below
    head f r x below p q old new a b = at (same x.0 id) refl
      where
        at : (c : Bool) → same x.0 id ≡ c → Head x below
        at false e = (λ c. label_by f r x e old new, λ c. (ap sibling_of (label_by f r x e old new), faces_same f r below q a b (child_is x below p c)))
        at true e = (λ c. absurd (not_both (touched x.0) mine c), λ c. (face_by (off c grid refl) f r x (ap value_of p) e old new, faces_same f r below q a b (child_is x below p c)))
          where
            mine : touched x.0 ≡ true
            mine = ap touched (same_is x.0 id e) ∙ own

            off : (grid && touched x.0) ≡ false → (g : Bool) → grid ≡ g → grid ≡ false
            off c true g = absurd (not_both (grid && touched x.0) (λ i. g i && mine i) c)
            off c false g = g

    -- the edited node, all nodes below which are touched
    under_own : AllBelow → (x : NodeId × Node) (below : NodeTrees) → part_at t x.0 ≡ Some (x.1, below) → same x.0 id ≡ true → Head x below × StaysApart touched grid given below
    under_own all x below p e = (
      (λ c. absurd (not_both (touched x.0) mine c), λ c. absurd (not_both (grid && touched x.0) (λ i. all.0 i && mine i) c)),
      all_touched touched grid given below all.0 (λ k l. all.1 k (omega (arith, l, ap (λ o. times k (below_of o)) (ap (part_at t) (sym (same_is x.0 id e)) ∙ p)))),
    )
      where
        mine : touched x.0 ≡ true
        mine = ap touched (same_is x.0 id e) ∙ own

    apart_in : (em rem : ℤ) (s : NodeTrees) → AreParts t s → AreStyled em rem s → AreStyled em rem (mapped given s) → StaysApart touched grid given s
    apart_in em rem leafless p a b = tt
    apart_in em rem (tree x below after) p a b = at (same x.0 id) refl fonts (λ w. apart_in (font_of em rem x.1.declared) rem below p.1.0 a.1.0 w) (apart_in em rem after p.1.1 a.1.1 b.1.1)
      where
        font : ℤ
        font = font_of em rem x.1.declared

        -- where its font size has not changed
        kept : font_of em rem (given x.0 x.1).declared ≡ font → (AreStyled font rem (mapped given below) → StaysApart touched grid given below) → StaysApart touched grid given after → StaysApart touched grid given (tree x below after)
        kept f inner rest =
            let w = subst (λ z. AreStyled z rem (mapped given below)) f b.1.0 in
            (head font rem x below p.0 p.1.0 a.0 (subst (λ z. HasStyle z rem (given x.0 x.1)) f b.0) a.1.0 w, (inner w, rest))

        at : (c : Bool) → same x.0 id ≡ c → SameFonts ⊎ AllBelow → (AreStyled font rem (mapped given below) → StaysApart touched grid given below) → StaysApart touched grid given after → StaysApart touched grid given (tree x below after)
        at false e o inner rest = kept (font_other em rem x e) inner rest
        at true e (inl f) inner rest = kept (font_given f em rem x (ap value_of p.0)) inner rest
        at true e (inr all) inner rest = let u = under_own all x below p.0 e in (u.0, (u.1, rest))

    -- the root: em and rem of it are of the first font
    pub apart_root : count_of t ≡ 1 → IsStyled t → IsStyled (mapped given t) → StaysApart touched grid given t
    apart_root one a b = at t one a b (own_parts t d)
      where
        at : (s : NodeTrees) → count_of s ≡ 1 → IsStyled s → IsStyled (mapped given s) → AreParts t s → StaysApart touched grid given s
        at leafless c a b p = absurd (omega (arith, c))
        at (tree x below (tree y under later)) c a b p = absurd (omega (arith, c))
        at (tree x below leafless) c a b p = of (same x.0 id) refl fonts
          where
            font : ℤ
            font = root_font x.1.declared

            kept : root_font (given x.0 x.1).declared ≡ font → StaysApart touched grid given (tree x below leafless)
            kept f =
                let w = subst (λ z. AreStyled z z (mapped given below)) f b.1 in
                (head font font x below p.0 p.1.0 a.0 (subst (λ z. HasStyle z z (given x.0 x.1)) f b.0) a.1 w, (apart_in font font below p.1.0 a.1 w, tt))

            of : (c : Bool) → same x.0 id ≡ c → SameFonts ⊎ AllBelow → StaysApart touched grid given (tree x below leafless)
            of false e o = kept (font_other first_font first_font x e)
            of true e (inl f) = kept (font_given f first_font first_font x (ap value_of p.0))
            of true e (inr all) = let u = under_own all x below p.0 e in (u.0, (u.1, tt))

-- ---- the change
pub each_mapped : (P : NodeId × Node → Type 0) (g : NodeId → Node → Node) (t : NodeTrees) → EachNode (λ x. P (x.0, g x.0 x.1)) t → EachNode P (mapped g t)
each_mapped P g leafless h = tt
each_mapped P g (tree x below after) h = (h.0, (each_mapped P g below h.1.0, each_mapped P g after h.1.1))

module _ (t u : NodeTrees) (d : IsDistinct t) (one : count_of t ≡ 1) (old : IsStyled t) (new : IsStyled u) (name : Word) (change : Label → Label) (grid : Bool) (ts : List NodeId) (marks : Word → Bool) (h : Relabels name change t u)
    (names : (l : Label) → (change l).name ≡ l.name) (before : EachNode (λ x. is_among x.0 ts ≡ marks x.1.name) t) (edited : marks name ≡ true) where
  abbrev touched : NodeId → Bool
  touched n = is_among n ts

  abbrev made : NodeId → Node → Node
  made = given touched grid h.id h.value h.styles t d

  is_made : u ≡ mapped made t
  is_made = h.is ∙ mapped_twice (λ k v. cond (same k h.id) h.value v) (λ k v. record v { style = styled_from h.styles k v.style }) t

  own_touched : touched h.id ≡ true
  own_touched = touched_number t name h.id ts marks before h.found edited

  -- the name stays
  name_same : (x : NodeId × Node) → (same x.0 h.id ≡ true → change (label_of x.1) ≡ label_of h.value) → (made x.0 x.1).name ≡ x.1.name
  name_same x b = at (same x.0 h.id) refl
    where
      at : (c : Bool) → same x.0 h.id ≡ c → (cond (same x.0 h.id) h.value x.1).name ≡ x.1.name
      at true e = ap (λ (w : Node). w.name) (cond_yes (same x.0 h.id) h.value x.1 e) ∙ sym (ap (λ (l : Label). l.name) (b e)) ∙ names (label_of x.1)
      at false e = ap (λ (w : Node). w.name) (cond_no (same x.0 h.id) h.value x.1 e)

  -- nothing else than the edited node has other values
  abbrev Alone : Type 0
  Alone = StaysApart (λ k. same k h.id) grid made t

  other_values : Alone → (x : NodeId × Node) → value_at t x.0 ≡ Some x.1 → same x.0 h.id ≡ false → label_at (made x.0 x.1) ≡ label_at x.1
  other_values alone x there e = at (part_at t x.0) refl there
    where
      some_node : (a b : Node) → Some a ≡ Some b → a ≡ b
      some_node a b q = cc

      at : (o : Option (Part Node)) → part_at t x.0 ≡ o → value_of o ≡ Some x.1 → label_at (made x.0 x.1) ≡ label_at x.1
      at None f g = absurd cc
      at (Some q) f g = subst (λ (v : Node). label_at (made x.0 v) ≡ label_at v) (some_node q.0 x.1 g) ((at_node (λ k. same k h.id) grid made t x.0 q alone f).0 e)

  from : (grid ≡ false → Alone) → (x : NodeId × Node) → value_at t x.0 ≡ Some x.1 → IsFrom ts grid t (x.0, made x.0 x.1)
  from alone x there = at (same x.0 h.id) refl
    where
      at : (c : Bool) → same x.0 h.id ≡ c → IsFrom ts grid t (x.0, made x.0 x.1)
      at true e =
          let q = cond_yes (same x.0 h.id) h.value x.1 e in
          let turn = ap (λ (w : Node). w.turn) q ∙ h.turn ∙ ap (turn_at t) (sym (same_is x.0 h.id e)) in
          inl (ap touched (same_is x.0 h.id e) ∙ own_touched, (ap (λ (w : Node). w.kept) q ∙ h.kept, (ap (λ (w : Node). w.past) q ∙ h.past, inr (there_in t x.0 x.1 there, turn))))
      at false e =
          let q = cond_no (same x.0 h.id) h.value x.1 e in
          inr (x.1, (there, (ap (λ (w : Node). w.name) (sym q), (ap (λ (w : Node). w.kind) (sym q), (ap (λ (w : Node). w.kept) q, (ap (λ (w : Node). w.past) q, (ap (λ (w : Node). w.turn) q, λ g. other_values (alone g) x there e)))))))

  pub relabel_change : (grid ≡ true → (k : NodeId) (j : ℕ) → child_at t k j ≡ Some h.id → touched k ≡ true) → (grid ≡ false → SameFace touched grid h.id h.value h.styles t d) → SameFonts touched grid h.id h.value h.styles t d ⊎ AllBelow touched grid h.id h.value h.styles t d →
      IsChange ts grid marks t u
  relabel_change parent face fonts =
      record {
        local = subst (λ b. IsLocal touched grid (bare t) (bare b)) (sym is_made)
            (values_local touched grid made t (apart_root touched grid h.id h.value h.styles t d own_touched parent face fonts one old (subst IsStyled is_made new)));
        before = before;
        after = subst (EachNode (λ x. touched x.0 ≡ marks x.1.name)) (sym is_made)
            (each_mapped (λ x. touched x.0 ≡ marks x.1.name) made t
            (each_with (λ x. touched x.0 ≡ marks x.1.name) (λ x. same x.0 h.id ≡ true → change (label_of x.1) ≡ label_of h.value) (λ x. touched x.0 ≡ marks (made x.0 x.1).name) t (λ x m b. m ∙ ap marks (sym (name_same x b))) before h.label));
        nodes = subst (EachNode (IsFrom ts grid t)) (sym is_made) (each_mapped (IsFrom ts grid t) made t (each_weaker (λ x. value_at t x.0 ≡ Some x.1) (λ x. IsFrom ts grid t (x.0, made x.0 x.1)) t (from alone) (numbered t d).each));
      }
    where
      -- the font size is the same where subgrids do not feel the edit
      alone : grid ≡ false → Alone
      alone g =
          apart_root (λ k. same k h.id) grid h.id h.value h.styles t d (same_refl h.id) (λ f. absurd (not_both grid f g)) face
          (inl (kept_fonts touched grid h.id h.value h.styles t d own_touched parent face fonts g)) one old (subst IsStyled is_made new)

  -- of each node and its children the areas depend on the same as before
  pub relabel_settled : SameFonts touched grid h.id h.value h.styles t d → SameStanding touched grid h.id h.value h.styles t d → AreSettled t u
  unfolding past_at
  relabel_settled fonts stand n live = at (part_at t n) refl (subst (λ s. IsSome (part_at s n)) is_made live)
    where
      each : EachNode (Settles touched grid h.id h.value h.styles t d) t
      each = settles_root touched grid h.id h.value h.styles t d fonts stand one old (subst IsStyled is_made new)

      stands : (s : NodeTrees) → AreParts t s → map standing_of (faces (mapped made s)) ≡ map standing_of (faces s)
      stands leafless p = refl
      stands (tree x below after) p = λ i. (each_at (Settles touched grid h.id h.value h.styles t d) t x.0 x.1 each (ap value_of p.0)).1 i ∷ stands after p.1.1 i

      by : (q : Part Node) → part_at t n ≡ Some q → (past_at u n ≡ no_past) ⊎ PlacesSame (bare t) (bare u) n
      by q e = of (same n h.id) refl
        where
          there : part_at u n ≡ Some (made n q.0, mapped made q.1)
          there = ap (λ s. part_at s n) is_made ∙ part_mapped made t n ∙ ap (part_by made n) e

          of : (c : Bool) → same n h.id ≡ c → (past_at u n ≡ no_past) ⊎ PlacesSame (bare t) (bare u) n
          of true f = inl (ap (λ o. past_of (value_of o)) there ∙ ap (λ (w : Node). w.past) (cond_yes (same n h.id) h.value q.0 f) ∙ h.past)
          of false f =
              inr (record {
                label = sight_labels u n (made n q.0, mapped made q.1) there ∙ (each_at (Settles touched grid h.id h.value h.styles t d) t n q.0 each (ap value_of e)).0 f ∙ sym (sight_labels t n q e);
                children = sight_children u n (made n q.0, mapped made q.1) there ∙ tops_mapped made q.1 ∙ sym (sight_children t n q e);
                siblings = ap (map standing_of) (sight_faces u n (made n q.0, mapped made q.1) there)
                    ∙ stands q.1 (subst (AreParts t) (ap below_of e) (below_parts t n d))
                    ∙ sym (ap (map standing_of) (sight_faces t n q e));
              })

      at : (o : Option (Part Node)) → part_at t n ≡ o → IsSome (part_at (mapped made t) n) → (past_at u n ≡ no_past) ⊎ PlacesSame (bare t) (bare u) n
      at None e l = let none : part_at (mapped made t) n ≡ None = part_mapped made t n ∙ ap (part_by made n) e in let some = subst (λ (o : Option (Part Node)). IsSome o) none l in absurd cc
      at (Some q) e l = by q e
