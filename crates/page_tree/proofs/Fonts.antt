-- Font sizes on the way down, and styles after a change.
use Rattle.std.proofs.Common.{◌≡◌, ℕ, zero, suc, ◌≤◌, ℤ, Bool, true, false, [], ◌∷◌, Some, length, refl, sym, ap, subst, ◌∙◌, arith, inl, inr}
use Rattle.std.specs.Prelude.{◌⊎◌, ◌||◌}
use Rattle.std.proofs.lemmas.Bool.{cases_Bool}
use Rattle.plain_tree.specs.Trees.{leafless, tree, joined}
use Rattle.node_arena.specs.declared.number.NodeId.{NodeId}
use Rattle.node_arena.specs.Numbers.{EachNode, same, times, top_numbers, value_at}
use Rattle.node_arena.specs.Edits.{graft, grafted, put_at}
use Rattle.node_arena.specs.Faults.{is_top}
use Rattle.node_arena.proofs.Same.{one_yes, same_is}
use Rattle.node_arena.proofs.Standing.{some_is}
use Rattle.node_arena.proofs.Edited.{edited_here, edited_not}
use Rattle.node_arena.proofs.Parts.{each_weaker}
use Rattle.style_types.specs.Computed.{font_of}
use Rattle.placing.specs.declared.node.Node.{Node}
use Rattle.placing.specs.Nodes.{NodeTrees}
use Rattle.page_tree.specs.Fonts.{AreStyled, HasFont, HasFontBelow, IsStyled, root_font, root_font_of}

-- ---- font sizes

-- a number that is not there
pub none_below : (font p r : ℤ) (n : NodeId) (t : NodeTrees) → times n t ≡ 0 → HasFontBelow font p r n t
none_below font p r n leafless e = tt
none_below font p r n (tree x below after) e = (
  λ q. absurd (omega (arith, one_yes (same x.0 n) q)),
  (none_below font (font_of p r x.1.declared) r n below (omega arith), none_below font p r n after (omega arith)),
)

-- the declared values of the node of a number
abbrev pub Declares : NodeId → Node → NodeTrees → Type 0
Declares n v t = EachNode (λ x. same x.0 n ≡ true → x.1 ≡ v) t

-- a root has the font size of its values
pub root_has : (t : NodeTrees) (n root : NodeId) → top_numbers t ≡ root ∷ [] → is_top t n ≡ true → times n t ≤ 1 → HasFont (root_font_of t) n t
root_has leafless n root w top few = tt
root_has (tree x below leafless) n root w top few =
    let here : same x.0 n ≡ true = or_none (same x.0 n) top in
    (λ q. refl, none_below (root_font x.1.declared) (root_font x.1.declared) (root_font x.1.declared) n below (omega (arith, few, one_yes (same x.0 n) here)))
  where
    or_none : (b : Bool) → (b || false) ≡ true → b ≡ true
    or_none true e = refl
    or_none false e = e
root_has (tree x below (tree y c d)) n root w top few = absurd (omega (arith, ap length w))

-- ---- styles after a change
styled_joined : (p r : ℤ) (s t : NodeTrees) → AreStyled p r s → AreStyled p r t → AreStyled p r (joined s t)
styled_joined p r leafless t h k = k
styled_joined p r (tree x below after) t h k = (h.0, (h.1.0, styled_joined p r after t h.1.1 k))

styled_put : (p r : ℤ) (index : ℕ) (new t : NodeTrees) → AreStyled p r new → AreStyled p r t → AreStyled p r (put_at index new t)
styled_put p r index new leafless h k = h
styled_put p r zero new (tree x below after) h k = styled_joined p r new (tree x below after) h k
styled_put p r (suc index) new (tree x below after) h k = (k.0, (k.1.0, styled_put p r index new after h k.1.1))

graft_styled : (p r font : ℤ) (n : NodeId) (index : ℕ) (new t : NodeTrees) → HasFontBelow font p r n t → AreStyled font r new → AreStyled p r t → AreStyled p r (grafted n index new t)
graft_styled p r font n index new leafless f h k = tt
graft_styled p r font n index new (tree x below after) f h k =
    at (cases_Bool (same x.0 n)) (graft_styled (font_of p r x.1.declared) r font n index new below f.1.0 h k.1.0) (graft_styled p r font n index new after f.1.1 h k.1.1)
  where
    at : (same x.0 n ≡ true) ⊎ (same x.0 n ≡ false) → AreStyled (font_of p r x.1.declared) r (grafted n index new below) → AreStyled p r (grafted n index new after) → AreStyled p r (grafted n index new (tree x below after))
    at (inl e) b a =
        rw (edited_here n (graft index new) x below after e)
        (k.0, (styled_put (font_of p r x.1.declared) r index new below (subst (λ z. AreStyled z r new) (sym (f.0 e)) h) k.1.0, k.1.1))
    at (inr e) b a = rw (edited_not n (graft index new) x below after e) (k.0, (b, a))

pub grafted_styled : (font : ℤ) (n : NodeId) (index : ℕ) (new t : NodeTrees) → HasFont font n t → AreStyled font (root_font_of t) new → IsStyled t → IsStyled (grafted n index new t)
grafted_styled font n index new leafless f h k = tt
grafted_styled font n index new (tree x below after) f h k = at (cases_Bool (same x.0 n))
  where
    at : (same x.0 n ≡ true) ⊎ (same x.0 n ≡ false) → IsStyled (grafted n index new (tree x below after))
    at (inl e) =
        rw (edited_here n (graft index new) x below after e)
        (k.0, styled_put (root_font x.1.declared) (root_font x.1.declared) index new below (subst (λ z. AreStyled z (root_font x.1.declared) new) (sym (f.0 e)) h) k.1)
    at (inr e) =
        rw (edited_not n (graft index new) x below after e)
        (k.0, graft_styled (root_font x.1.declared) (root_font x.1.declared) font n index new below f.1 h k.1)

-- ---- the value of a number
pub declares : (t : NodeTrees) (n : NodeId) (v : Node) → value_at t n ≡ Some v → EachNode (λ x. value_at t x.0 ≡ Some x.1) t → Declares n v t
declares t n v e each = each_weaker (λ x. value_at t x.0 ≡ Some x.1) (λ x. same x.0 n ≡ true → x.1 ≡ v) t (λ x h q. some_is x.1 v (sym h ∙ ap (value_at t) (same_is x.0 n q) ∙ e)) each
