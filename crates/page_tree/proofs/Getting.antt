-- The font size that a node gets with other values, by its parent's.
use Rattle.std.proofs.Common.{◌≡◌, ◌≤◌, ℤ, Bool, true, false, List, [], ◌∷◌, ◌++◌, Some, length, refl, sym, ap, subst, ◌∙◌, arith, length-append}
use Rattle.std.specs.Prelude.{◌||◌}
use Rattle.plain_tree.specs.Trees.{leafless, tree}
use Rattle.node_arena.specs.declared.number.NodeId.{NodeId}
use Rattle.node_arena.specs.Numbers.{parent_at, same, second, times, top_numbers, way_up}
use Rattle.node_arena.specs.Faults.{is_top}
use Rattle.node_arena.proofs.Same.{by_place, one_no, one_yes, same_from}
use Rattle.node_arena.proofs.Standing.{some_is, way_after, way_below, way_here, way_some}
use Rattle.doc_text.proofs.Grown.{not_both}
use Rattle.style_types.specs.Computed.{DeclaredMap, font_of}
use Rattle.placing.specs.declared.node.Node.{Node}
use Rattle.placing.specs.Nodes.{NodeTrees}
use Rattle.page_tree.specs.Fonts.{HasFont, HasFontBelow, root_font, root_font_of}
use Rattle.page_tree.specs.Restyled.{GetsFontBelow, GetsFonts}
use Rattle.page_tree.proofs.Fonts.{Declares, none_below}

-- a number that is not there
none_gets : (font : ℤ) (m : DeclaredMap) (p r : ℤ) (n : NodeId) (t : NodeTrees) → times n t ≡ 0 → GetsFontBelow font m p r n t
none_gets font m p r n leafless e = tt
none_gets font m p r n (tree x below after) e = (
  λ q. absurd (omega (arith, one_yes (same x.0 n) q)),
  (none_gets font m (font_of p r x.1.declared) r n below (omega arith), none_gets font m p r n after (omega arith)),
)

-- at the top
top_gets : (m : DeclaredMap) (p r : ℤ) (n up : NodeId) (t : NodeTrees) → way_up t n ≡ up ∷ [] → times n t ≤ 1 → GetsFontBelow (font_of p r m) m p r n t
top_gets m p r n up leafless w few = tt
top_gets m p r n up (tree x below after) w few =
    by_place x below n
    (λ h. let own = one_yes (same x.0 n) h.is in (λ q. refl, (none_gets (font_of p r m) m (font_of p r x.1.declared) r n below (omega (arith, few)), none_gets (font_of p r m) m p r n after (omega (arith, few)))))
    (λ h. absurd (omega (arith, way_some below n h.in_below, length-append (way_up below n) (x.0 ∷ []), ap length (sym (way_below x below after n h) ∙ w))))
    (λ h. (
      λ q. absurd (not_both (same x.0 n) q h.not),
      (none_gets (font_of p r m) m (font_of p r x.1.declared) r n below h.none, top_gets m p r n up after (sym (way_after x below after n h) ∙ w) (omega (arith, few, one_no (same x.0 n) h.not))),
    ))

lone : (m q : NodeId) → second (m ∷ []) ≡ Some q → ⊥
lone m q e = cc

-- under a node whose font size is known
step_gets : (m : DeclaredMap) (p r font : ℤ) (q n : NodeId) (t : NodeTrees) → second (way_up t n) ≡ Some q → HasFontBelow font p r q t → times n t ≤ 1 → GetsFontBelow (font_of font r m) m p r n t
step_gets m p r font q n leafless w f few = tt
step_gets m p r font q n (tree x below after) w f few =
    by_place x below n
    (λ h. absurd (lone n q (sym (ap second (way_here x below after n h)) ∙ w)))
    (λ h. let no = one_no (same x.0 n) h.not in (
      λ e. absurd (not_both (same x.0 n) e h.not),
      (
        under (way_up below n) refl (sym (ap second (way_below x below after n h)) ∙ w) (omega (arith, few)) (λ g. step_gets m (font_of p r x.1.declared) r font q n below g f.1.0 (omega (arith, few))),
        none_gets (font_of font r m) m p r n after (omega (arith, few, h.in_below)),
      ),
    ))
    (λ h. let no = one_no (same x.0 n) h.not in (
      λ e. absurd (not_both (same x.0 n) e h.not),
      (
        none_gets (font_of font r m) m (font_of p r x.1.declared) r n below h.none,
        step_gets m p r font q n after (sym (ap second (way_after x below after n h)) ∙ w) f.1.1 (omega (arith, few)),
      ),
    ))
  where
    under : (way : List NodeId) → way_up below n ≡ way → second (way ++ x.0 ∷ []) ≡ Some q → times n below ≤ 1 →
        (second (way_up below n) ≡ Some q → GetsFontBelow (font_of font r m) m (font_of p r x.1.declared) r n below) → GetsFontBelow (font_of font r m) m (font_of p r x.1.declared) r n below
    under [] e g few more = absurd (lone x.0 q g)
    under (up ∷ []) e g few more =
        let own : font_of p r x.1.declared ≡ font = f.0 (same_from x.0 q (some_is x.0 q g)) in
        subst (λ z. GetsFontBelow (font_of z r m) m (font_of p r x.1.declared) r n below) own (top_gets m (font_of p r x.1.declared) r n up below e few)
    under (up ∷ k ∷ way) e g few more = more (ap second e ∙ g)

-- the root has that of the values, which is then the root's
pub root_gets : (m : DeclaredMap) (t : NodeTrees) (n root : NodeId) → top_numbers t ≡ root ∷ [] → is_top t n ≡ true → GetsFonts (root_font m) (root_font m) m n t
root_gets m leafless n root w top = tt
root_gets m (tree x below leafless) n root w top = (λ q. (refl, refl), λ q. absurd (not_both (same x.0 n) (or_none (same x.0 n) top) q))
  where
    or_none : (b : Bool) → (b || false) ≡ true → b ≡ true
    or_none true e = refl
    or_none false e = e
root_gets m (tree x below (tree y c d)) n root w top = absurd (omega (arith, ap length w))

-- any other node has that of the values under its parent's
pub child_gets : (m : DeclaredMap) (t : NodeTrees) (n root q : NodeId) (font : ℤ) → top_numbers t ≡ root ∷ [] → parent_at t n ≡ Some q → HasFont font q t → times n t ≤ 1 → GetsFonts (font_of font (root_font_of t) m) (root_font_of t) m n t
child_gets m leafless n root q font w p f few = tt
child_gets m (tree x below leafless) n root q font w p f few =
    by_place x below n
    (λ h. absurd (lone n q (sym (ap second (way_here x below leafless n h)) ∙ p)))
    (λ h. (λ e. absurd (not_both (same x.0 n) e h.not), λ e. (refl, under (way_up below n) refl (sym (ap second (way_below x below leafless n h)) ∙ p) (omega (arith, few)))))
    (λ h. (λ e. absurd (not_both (same x.0 n) e h.not), λ e. (refl, none_gets (font_of font (root_font x.1.declared) m) m (root_font x.1.declared) (root_font x.1.declared) n below h.none)))
  where
    under : (way : List NodeId) → way_up below n ≡ way → second (way ++ x.0 ∷ []) ≡ Some q → times n below ≤ 1 → GetsFontBelow (font_of font (root_font x.1.declared) m) m (root_font x.1.declared) (root_font x.1.declared) n below
    under [] e g few = absurd (lone x.0 q g)
    under (up ∷ []) e g few =
        let own : root_font x.1.declared ≡ font = f.0 (same_from x.0 q (some_is x.0 q g)) in
        subst (λ z. GetsFontBelow (font_of z (root_font x.1.declared) m) m (root_font x.1.declared) (root_font x.1.declared) n below) own (top_gets m (root_font x.1.declared) (root_font x.1.declared) n up below e few)
    under (up ∷ k ∷ way) e g few = step_gets m (root_font x.1.declared) (root_font x.1.declared) font q n below (ap second e ∙ g) f.1 few
child_gets m (tree x below (tree y c z)) n root q font w p f few = absurd (omega (arith, ap length w))

-- ---- with its own values
gets_below : (font p r : ℤ) (n : NodeId) (v : Node) (t : NodeTrees) → GetsFontBelow font v.declared p r n t → Declares n v t → HasFontBelow font p r n t
gets_below font p r n v leafless g d = tt
gets_below font p r n v (tree x below after) g d = (
  λ q. ap (λ (y : Node). font_of p r y.declared) (d.0 q) ∙ g.0 q,
  (gets_below font (font_of p r x.1.declared) r n v below g.1.0 d.1.0, gets_below font p r n v after g.1.1 d.1.1),
)

gets_own : (em rem : ℤ) (n : NodeId) (v : Node) (t : NodeTrees) → GetsFonts em rem v.declared n t → times n t ≤ 1 → Declares n v t → HasFont em n t
gets_own em rem n v leafless g few d = tt
gets_own em rem n v (tree x below after) g few d = (λ q. ap (λ (y : Node). root_font y.declared) (d.0 q) ∙ sym (g.0 q).0, at (same x.0 n) refl)
  where
    at : (c : Bool) → same x.0 n ≡ c → HasFontBelow em (root_font x.1.declared) (root_font x.1.declared) n below
    at true e = none_below em (root_font x.1.declared) (root_font x.1.declared) n below (omega (arith, few, one_yes (same x.0 n) e))
    at false e = gets_below em (root_font x.1.declared) (root_font x.1.declared) n v below (g.1 e).1 d.1.0

-- a node has the font size of its values under its parent's
pub child_has : (t : NodeTrees) (n root q : NodeId) (v : Node) (font : ℤ) → top_numbers t ≡ root ∷ [] → parent_at t n ≡ Some q → HasFont font q t → times n t ≤ 1 → Declares n v t → HasFont (font_of font (root_font_of t) v.declared) n t
child_has t n root q v font w p f few d = gets_own (font_of font (root_font_of t) v.declared) (root_font_of t) n v t (child_gets v.declared t n root q font w p f few) few d
